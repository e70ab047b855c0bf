-- The memory that the entries of a tree make.
use Rattle.dream_words.specs.Memory.{Mem, byte_at, with_byte, seen}
use Rattle.std.proofs.Common.{zero, suc, ◌≡◌, ℕ, Bool, true, false, List, [], ◌∷◌, Option, Some, None, is_some, unwrap_or, refl, sym, ap, ◌∙◌, cond}
use Rattle.std.specs.declared.cmp.Ordering.{Ordering}
use Rattle.std.specs.declared.cmp.Ordering.TheVariants.{Less, Equal, Greater}
use Rattle.std.specs.Ordering.{nat_cmp, eq_by_cmp, is_eq}
use Rattle.std.specs.Prelude.{IsSome}
use Rattle.std.specs.List.{list_any}
use Rattle.std.specs.BTreeMap.{is_at}
use Rattle.std.specs.Map.{lookup, keys_of}
use Rattle.std.proofs.lemmas.Map.Lookups.{exact_unsigned}
use Rattle.std.proofs.lemmas.Map.Made.{is_some-lookup}
use Rattle.std.specs.Cmp.{nat_cmp_total, eq_by_cmp_equiv}
use Rattle.std.specs.FinMap.{get, get-empty, get-insert, get-remove, same_map, nat_cmp-IsAntisymmetric}

-- what the entries have at an address
abbrev pub entry_at : List (ℕ × ℕ) → ℕ → Option ℕ
entry_at es q = lookup (is_at (nat_cmp q)) es

-- a byte that is 0 is left out
abbrev pub without_zero : Option ℕ → Option ℕ
without_zero None = None
without_zero (Some zero) = None
without_zero (Some (suc v)) = Some (suc v)

-- a memory after a byte is set
pub get-with_byte : (m : Mem) (k v q : ℕ) → get (with_byte m k v) q ≡ cond (eq_by_cmp nat_cmp q k) (without_zero (Some v)) (get m q)
get-with_byte m k zero q = get-remove nat_cmp_total m k q
get-with_byte m k (suc v) q = get-insert nat_cmp_total m k (suc v) q

without_zero-cond : (b : Bool) (v : ℕ) (o : Option ℕ) → cond b (without_zero (Some v)) (without_zero o) ≡ without_zero (cond b (Some v) o)
without_zero-cond true v o = refl
without_zero-cond false v o = refl

-- the memory that entries make has what they have, without the zeros
pub get-seen : (es : List (ℕ × ℕ)) (q : ℕ) → get (seen es) q ≡ without_zero (entry_at es q)
get-seen [] q = get-empty nat_cmp q
get-seen (e ∷ es) q =
    get-with_byte (seen es) e.0 e.1 q
    ∙ ap (cond (eq_by_cmp nat_cmp q e.0) (without_zero (Some e.1))) (get-seen es q)
    ∙ without_zero-cond (eq_by_cmp nat_cmp q e.0) e.1 (entry_at es q)

byte_without_zero : (o : Option ℕ) → unwrap_or (without_zero o) 0 ≡ unwrap_or o 0
byte_without_zero None = refl
byte_without_zero (Some zero) = refl
byte_without_zero (Some (suc v)) = refl

-- the byte of that memory at an address
pub byte_at-seen : (es : List (ℕ × ℕ)) (q : ℕ) → byte_at (seen es) q ≡ unwrap_or (entry_at es q) 0
byte_at-seen es q = ap (λ (o : Option ℕ). unwrap_or o 0) (get-seen es q) ∙ byte_without_zero (entry_at es q)

-- memories that have the same at each address are equal
pub same_at_each : (m n : Mem) → ((q : ℕ) → get m q ≡ get n q) → m ≡ n
same_at_each = same_map nat_cmp_total nat_cmp-IsAntisymmetric

-- entries that differ at one address make memories that differ there
pub seen_set : (es fs : List (ℕ × ℕ)) (k v : ℕ) → ((q : ℕ) → entry_at fs q ≡ cond (is_at (nat_cmp k) q) (Some v) (entry_at es q)) → seen fs ≡ with_byte (seen es) k v
seen_set es fs k v h =
    same_at_each _ _ (λ q.
    get-seen fs q
    ∙ ap without_zero (h q)
    ∙ sym (without_zero-cond (is_at (nat_cmp k) q) v (entry_at es q))
    ∙ ap (λ b. cond b (without_zero (Some v)) (without_zero (entry_at es q))) ((eq_by_cmp_equiv nat_cmp_total).symm k q)
    ∙ ap (cond (eq_by_cmp nat_cmp q k) (without_zero (Some v))) (sym (get-seen es q))
    ∙ sym (get-with_byte (seen es) k v q))

absent : (o : Option ℕ) → is_some o ≡ false → o ≡ None
absent None e = refl
absent (Some v) e = cc

is_eq-Equal : (o : Ordering) → is_eq o ≡ true → o ≡ Equal
is_eq-Equal Less e = cc
is_eq-Equal Equal e = refl
is_eq-Equal Greater e = cc

-- a zero put where there was no entry isn't seen
pub seen_zero : (es fs : List (ℕ × ℕ)) (k : ℕ) → is_some (entry_at es k) ≡ false → ((q : ℕ) → entry_at fs q ≡ cond (is_at (nat_cmp k) q) (Some 0) (entry_at es q)) → seen fs ≡ seen es
seen_zero es fs k none h =
    same_at_each _ _ (λ q.
    get-seen fs q
    ∙ elim (is_at (nat_cmp k) q) as (λ b. is_at (nat_cmp k) q ≡ b → entry_at fs q ≡ cond b (Some 0) (entry_at es q) → without_zero (entry_at fs q) ≡ without_zero (entry_at es q)) [
      | true ↦ λ t e. ap without_zero e ∙ sym (ap without_zero (ap (entry_at es) (sym (exact_unsigned k q (is_eq-Equal (nat_cmp k q) t))) ∙ absent (entry_at es k) none))
      | false ↦ λ t e. ap without_zero e
    ] refl (h q)
    ∙ sym (get-seen es q))

-- a tree whose keys stay keeps its room
pub room_stays : (es fs : List (ℕ × ℕ)) (q : ℕ) → keys_of fs ≡ keys_of es → IsSome (entry_at es q) → IsSome (entry_at fs q)
room_stays es fs q e h =
    is_some-lookup (is_at (nat_cmp q)) fs
    ∙ ap (list_any (is_at (nat_cmp q))) e
    ∙ sym (is_some-lookup (is_at (nat_cmp q)) es)
    ∙ h
