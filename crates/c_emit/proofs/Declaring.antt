-- The function of a tree declares the locals of the tree, and just these.
use Rattle.std.proofs.Common.{◌≡◌, ◌⊎◌, inl, inr, ℕ, zero, suc, ◌+◌, ◌-◌, ◌^◌, ◌<◌, ◌≤◌, min, nat_eq, nat_lt, Bool, true, false, if◌then◌else◌, List, [], ◌∷◌, length, refl, sym, ap, ◌∙◌, subst, arith}
use Rattle.std.proofs.lemmas.Bool.Decides.{nat_tests}
use Rattle.dream_words.specs.declared.machine.Name.{Name}
use Rattle.dream_words.specs.declared.machine.Name.TheVariants as name
use Rattle.run_parts.specs.Parts.{has}
use Rattle.guarded.specs.declared.tree.Tree.{Tree}
use Rattle.guarded.specs.Uses.{Use, name_of, names_of, tree_uses}
use Rattle.guarded.specs.Numbers.{with_number, Locals, no_locals, with_local, with_locals, locals_of}
use Rattle.c_syntax.specs.Formed.{is_declared, is_base}
use Rattle.guarded.specs.Formed.{is_text_name, are_text_names}
use Rattle.c_emit.specs.Emitted.{below, new_name, emitted_with}
use Rattle.std.specs.Prelude.{Contains, slice_index_or}
use Rattle.c_emit.specs.Laws.{EmitIsWellFormed, EmitDeclaresJustThese}
use Rattle.c_emit.proofs.Known.{Known}
use Rattle.c_emit.proofs.FormedWords.{and_first, and_second, declares}
use Rattle.c_emit.proofs.FormedTrees.{printed_deep, printed_fine}
use Rattle.c_emit.proofs.Local.{IsCase, is_true, is_false, case_of, is_below, not_below, less_test, same_number, equal_numbers, is_known, uses_known, below_apart, added_known, still_known}

not_less : (n k : ℕ) → k ≤ n → nat_lt n k ≡ false
not_less n k h = grind (arith, nat_tests)

no_true : {A : Type 0} → false ≡ true → A
no_true h = absurd (never h)
  where
    never : false ≡ true → ⊥
    never e = cc

-- ascending numbers from a bound on
abbrev pub Above : ℕ → List ℕ → Type 0
Above b [] = Unit {0}
Above b (k ∷ ks) = (b ≤ k) × Above (suc k) ks

-- ---- numbers that are put among ascending ones

put_above : (b n : ℕ) (ks : List ℕ) → b ≤ n → Above b ks → Above b (with_number ks n)
put_above b n [] l h = (l, tt)
put_above b n (k ∷ ks) l h = by (λ m. put_above (suc k) n ks m h.1) (case_of (nat_lt n k)) (case_of (nat_eq n k))
  where
    by : (suc k ≤ n → Above (suc k) (with_number ks n)) → IsCase (nat_lt n k) → IsCase (nat_eq n k) → Above b (if nat_lt n k then n ∷ k ∷ ks else (if nat_eq n k then k ∷ ks else k ∷ with_number ks n))
    by rest (is_true a) e =
        subst (λ q. Above b (if q then n ∷ k ∷ ks else (if nat_eq n k then k ∷ ks else k ∷ with_number ks n))) (sym a) (l, (let m = is_below n k a in omega arith, h.1))
    by rest (is_false a) (is_true e) =
        subst (λ q. Above b (if q then n ∷ k ∷ ks else (if nat_eq n k then k ∷ ks else k ∷ with_number ks n))) (sym a)
        (subst (λ q. Above b (if q then k ∷ ks else k ∷ with_number ks n)) (sym e) h)
    by rest (is_false a) (is_false e) =
        subst (λ q. Above b (if q then n ∷ k ∷ ks else (if nat_eq n k then k ∷ ks else k ∷ with_number ks n))) (sym a)
        (subst (λ q. Above b (if q then k ∷ ks else k ∷ with_number ks n)) (sym e) (h.0, rest (beyond e (not_below n k a))))
      where
        beyond : nat_eq n k ≡ false → k ≤ n → suc k ≤ n
        beyond e' m = grind (arith, nat_tests)

-- the locals of each kind ascend
pub record Ascends (l : Locals) : Type 0 where
  pub temps : Above 0 l.temps
  pub bools : Above 0 l.bools
  pub selectors : Above 0 l.selectors

one_more : (l : Locals) (n : Name) → Ascends l → Ascends (with_local l n)
one_more l (name.Reg n) h = h
one_more l (name.Flag n) h = h
one_more l name.Fs h = h
one_more l name.Gs h = h
one_more l (name.T n) h = record { temps = put_above 0 n l.temps (omega arith) h.temps; bools = h.bools; selectors = h.selectors }
one_more l (name.B n) h = record { temps = h.temps; bools = put_above 0 n l.bools (omega arith) h.bools; selectors = h.selectors }
one_more l (name.S n) h = record { temps = h.temps; bools = h.bools; selectors = put_above 0 n l.selectors (omega arith) h.selectors }

some_more : (l : Locals) (ns : List Name) → Ascends l → Ascends (with_locals l ns)
some_more l [] h = h
some_more l (n ∷ ns) h = some_more (with_local l n) ns (one_more l n h)

pub locals_ascend : (ns : List Name) → Ascends (locals_of ns)
locals_ascend ns = some_more no_locals ns (record { temps = tt; bools = tt; selectors = tt })

-- ---- how many are below a number

below_at_most : (ks : List ℕ) (n : ℕ) → below ks n ≤ length ks
below_at_most [] n = omega arith
below_at_most (k ∷ ks) n = by (nat_lt k n) (below_at_most ks n)
  where
    by : (b : Bool) → below ks n ≤ length ks → (if b then below ks n + 1 else below ks n) ≤ length (k ∷ ks)
    by true l = omega arith
    by false l = omega arith

-- a number that is there has fewer below it
pub below_fewer : (ks : List ℕ) (n : ℕ) → has ks n ≡ true → below ks n < length ks
below_fewer [] n h = no_true h
below_fewer (k ∷ ks) n h = by (case_of (nat_eq n k)) (below_at_most ks n) (λ e. below_fewer ks n e)
  where
    step : (b : Bool) → below ks n < length ks → (if b then below ks n + 1 else below ks n) < length (k ∷ ks)
    step true l = omega arith
    step false l = omega arith

    by : IsCase (nat_eq n k) → below ks n ≤ length ks → (has ks n ≡ true → below ks n < length ks) → (if nat_lt k n then below ks n + 1 else below ks n) < length (k ∷ ks)
    by (is_true e) m rest = subst (λ q. (if q then below ks n + 1 else below ks n) < length (k ∷ ks)) (sym (not_less k n (let g = equal_numbers n k e in omega arith))) (omega arith)
    by (is_false e) m rest = step (nat_lt k n) (rest (sym (ap (λ b. if b then true else has ks n) e) ∙ h))

-- a number that is there is at least the bound
member_above : (ks : List ℕ) (b n : ℕ) → Above b ks → has ks n ≡ true → b ≤ n
member_above [] b n h m = no_true m
member_above (k ∷ ks) b n h m = by (case_of (nat_eq n k)) (λ g. member_above ks (suc k) n h.1 g)
  where
    by : IsCase (nat_eq n k) → (has ks n ≡ true → suc k ≤ n) → b ≤ n
    by (is_true e) rest = let g = equal_numbers n k e in let l = h.0 in omega arith
    by (is_false e) rest = let g = rest (sym (ap (λ q. if q then true else has ks n) e) ∙ m) in let l = h.0 in omega arith

-- none is below the bound
none_below : (ks : List ℕ) (b n : ℕ) → Above b ks → n ≤ b → below ks n ≡ 0
none_below [] b n h l = refl
none_below (k ∷ ks) b n h l =
    let m = h.0 in
    ap (λ q. if q then below ks n + 1 else below ks n) (not_less k n (omega arith)) ∙ none_below ks (suc k) n h.1 (omega arith)

-- each new number is that of a number which is there
pub record IsNumbered (ks : List ℕ) (j : ℕ) : Type 0 where
  pub number : ℕ
  pub there : has ks number ≡ true
  pub new : below ks number ≡ j

pub numbered : (ks : List ℕ) (b j : ℕ) → Above b ks → j < length ks → IsNumbered ks j
numbered [] b j h l = absurd (omega arith)
numbered (k ∷ ks) b zero h l = record {
  number = k;
  there = ap (λ q. if q then true else has ks k) (same_number k);
  new = ap (λ q. if q then below ks k + 1 else below ks k) (not_less k k (omega arith)) ∙ none_below ks (suc k) k h.1 (omega arith);
}
numbered (k ∷ ks) b (suc j) h l =
    let r = numbered ks (suc k) j h.1 (omega arith) in
    let m = member_above ks (suc k) r.number h.1 r.there in
    let e = r.new in
    record {
      number = r.number;
      there = second (nat_eq r.number k) (has ks r.number) r.there;
      new = ap (λ q. if q then below ks r.number + 1 else below ks r.number) (less_test k r.number (omega arith)) ∙ (let g : below ks r.number + 1 ≡ suc j = omega arith in g);
    }
  where
    second : (b x : Bool) → x ≡ true → (if b then true else x) ≡ true
    second true x e = refl
    second false x e = e

-- ascending numbers below a bound are no more than it
pub not_too_many : (ks : List ℕ) (b m : ℕ) → Above b ks → b ≤ m → ((n : ℕ) → has ks n ≡ true → n < m) → b + length ks ≤ m
not_too_many [] b m h l small = omega arith
not_too_many (k ∷ ks) b m h l small =
    let first = small k (ap (λ q. if q then true else has ks k) (same_number k)) in
    let rest = not_too_many ks (suc k) m h.1 (omega arith) (λ n e. small n (second (nat_eq n k) (has ks n) e)) in
    let a = h.0 in
    omega arith
  where
    second : (b x : Bool) → x ≡ true → (if b then true else x) ≡ true
    second true x e = refl
    second false x e = e

-- ---- the locals are names of the tree

-- a number that is there after another was put in was there, or is the other
put_or_there : (ks : List ℕ) (n k : ℕ) → has (with_number ks n) k ≡ true → (k ≡ n) ⊎ (has ks k ≡ true)
put_or_there [] n k h = by (case_of (nat_eq k n))
  where
    by : IsCase (nat_eq k n) → (k ≡ n) ⊎ (has [] k ≡ true)
    by (is_true e) = inl (equal_numbers k n e)
    by (is_false e) = no_true (sym (ap (λ q. if q then true else false) e) ∙ h)
put_or_there (j ∷ ks) n k h = by (λ g. put_or_there ks n k g) (nat_lt n j) (nat_eq n j) h
  where
    first : (x : ℕ) (xs : List ℕ) → has (x ∷ xs) k ≡ true → (k ≡ x) ⊎ (has xs k ≡ true)
    first x xs g = at (case_of (nat_eq k x))
      where
        at : IsCase (nat_eq k x) → (k ≡ x) ⊎ (has xs k ≡ true)
        at (is_true e) = inl (equal_numbers k x e)
        at (is_false e) = inr (sym (ap (λ q. if q then true else has xs k) e) ∙ g)

    later : (has (with_number ks n) k ≡ true → (k ≡ n) ⊎ (has ks k ≡ true)) → (k ≡ j) ⊎ (has (with_number ks n) k ≡ true) → (k ≡ n) ⊎ (has (j ∷ ks) k ≡ true)
    later rest (inl e) = inr (ap (λ q. if q then true else has ks k) (ap (λ i. nat_eq k i) (sym e) ∙ same_number k))
    later rest (inr g) = other (rest g)
      where
        second : (b x : Bool) → x ≡ true → (if b then true else x) ≡ true
        second true x e = refl
        second false x e = e

        other : (k ≡ n) ⊎ (has ks k ≡ true) → (k ≡ n) ⊎ (has (j ∷ ks) k ≡ true)
        other (inl e) = inl e
        other (inr m) = inr (second (nat_eq k j) (has ks k) m)

    by : (has (with_number ks n) k ≡ true → (k ≡ n) ⊎ (has ks k ≡ true)) → (p q : Bool) → has (if p then n ∷ j ∷ ks else (if q then j ∷ ks else j ∷ with_number ks n)) k ≡ true → (k ≡ n) ⊎ (has (j ∷ ks) k ≡ true)
    by rest true q g = first n (j ∷ ks) g
    by rest false true g = inr g
    by rest false false g = later rest (first j (with_number ks n) g)

-- ---- every name of a well-formed tree is declared

-- the numbers of each kind are below a bound
record Small (m : ℕ) (l : Locals) : Type 0 where
  temps : (k : ℕ) → has l.temps k ≡ true → k < m
  bools : (k : ℕ) → has l.bools k ≡ true → k < m
  selectors : (k : ℕ) → has l.selectors k ≡ true → k < m

small_put : (m : ℕ) (ks : List ℕ) (n : ℕ) → ((k : ℕ) → has ks k ≡ true → k < m) → n < m → (k : ℕ) → has (with_number ks n) k ≡ true → k < m
small_put m ks n h l k g = by (put_or_there ks n k g)
  where
    by : (k ≡ n) ⊎ (has ks k ≡ true) → k < m
    by (inl e) = omega (arith, e)
    by (inr e) = h k e

small_more : (l : Locals) (n : Name) → is_text_name n ≡ true → Small (2 ^ 32 - 1) l → Small (2 ^ 32 - 1) (with_local l n)
small_more l (name.Reg n) t h = h
small_more l (name.Flag n) t h = h
small_more l name.Fs t h = h
small_more l name.Gs t h = h
small_more l (name.T n) t h = record { temps = small_put (2 ^ 32 - 1) l.temps n h.temps (is_below n (2 ^ 32 - 1) t); bools = h.bools; selectors = h.selectors }
small_more l (name.B n) t h = record { temps = h.temps; bools = small_put (2 ^ 32 - 1) l.bools n h.bools (is_below n (2 ^ 32 - 1) t); selectors = h.selectors }
small_more l (name.S n) t h = record { temps = h.temps; bools = h.bools; selectors = small_put (2 ^ 32 - 1) l.selectors n h.selectors (is_below n (2 ^ 32 - 1) t) }

small_all : (l : Locals) (ns : List Name) → are_text_names ns ≡ true → Small (2 ^ 32 - 1) l → Small (2 ^ 32 - 1) (with_locals l ns)
small_all l [] t h = h
small_all l (n ∷ ns) t h = small_all (with_local l n) ns (and_second (is_text_name n) (are_text_names ns) t) (small_more l n (and_first (is_text_name n) (are_text_names ns) t) h)

locals_small : (ns : List Name) → are_text_names ns ≡ true → Small (2 ^ 32 - 1) (locals_of ns)
locals_small ns t = small_all no_locals ns t (record { temps = λ k e. no_true e; bools = λ k e. no_true e; selectors = λ k e. no_true e })

-- no more than can be declared
few : (m : ℕ) (ks : List ℕ) → Above 0 ks → ((k : ℕ) → has ks k ≡ true → k < m) → length ks ≤ m
few m ks h s = let l = not_too_many ks 0 m h (omega arith) s in omega arith

-- so each is declared
number_declared : (m : ℕ) (ks : List ℕ) (n : ℕ) → length ks ≤ m → has ks n ≡ true → nat_lt (below ks n) (min (length ks) m) ≡ true
number_declared m ks n l h = let b = below_fewer ks n h in less_test (below ks n) (min (length ks) m) (omega arith)

name_declared : (t : Tree) (address : ℕ) (l : Locals) → Ascends l → Small (2 ^ 32 - 1) l → (n : Name) → is_text_name n ≡ true → is_known l n ≡ true
    → is_declared (emitted_with l t address) (new_name l n) ≡ true
name_declared t address l a s (name.Reg n) h k = h
name_declared t address l a s (name.Flag n) h k = h
name_declared t address l a s name.Fs h k = refl
name_declared t address l a s name.Gs h k = refl
name_declared t address l a s (name.T n) h k = number_declared (2 ^ 32 - 1) l.temps n (few (2 ^ 32 - 1) l.temps a.temps s.temps) k
name_declared t address l a s (name.B n) h k = number_declared (2 ^ 32 - 1) l.bools n (few (2 ^ 32 - 1) l.bools a.bools s.bools) k
name_declared t address l a s (name.S n) h k = number_declared (2 ^ 32 - 1) l.selectors n (few (2 ^ 32 - 1) l.selectors a.selectors s.selectors) k

uses_declared : (t : Tree) (address : ℕ) (l : Locals) → Ascends l → Small (2 ^ 32 - 1) l → (us : List Use) → are_text_names (names_of us) ≡ true → Known (is_known l) us
    → Known (declares (new_name l) (emitted_with l t address)) us
uses_declared t address l a s [] h k = tt
uses_declared t address l a s (u ∷ us) h k = (
  name_declared t address l a s (name_of u) (and_first (is_text_name (name_of u)) (are_text_names (names_of us)) h) k.0,
  uses_declared t address l a s us (and_second (is_text_name (name_of u)) (are_text_names (names_of us)) h) k.1,
)

base_kept : (l : Locals) (n : Name) → is_base (new_name l n) ≡ is_base n
base_kept l (name.Reg n) = refl
base_kept l (name.Flag n) = refl
base_kept l name.Fs = refl
base_kept l name.Gs = refl
base_kept l (name.T n) = refl
base_kept l (name.B n) = refl
base_kept l (name.S n) = refl

-- a count that can be declared is a word
count_is_word : (n : ℕ) → min n (2 ^ 32 - 1) < 2 ^ 32
count_is_word n = omega arith

-- the law
pub emit_is_formed : EmitIsWellFormed
emit_is_formed t address a h =
    let ns = names_of (tree_uses t) in
    let l = locals_of ns in
    let known = uses_declared t address l (locals_ascend ns) (locals_small ns h.names) (tree_uses t) h.names (uses_known (tree_uses t)) in
    let deep = printed_deep (new_name l) t in
    let bound = h.depth in
    record {
      address = a;
      temps = count_is_word (length l.temps);
      bools = count_is_word (length l.bools);
      selectors = count_is_word (length l.selectors);
      allowed = printed_fine (new_name l) (emitted_with l t address) (base_kept l) t known h.allowed;
      depth = omega (arith, deep, bound);
    }

-- ---- every declared local is one of the tree

here : {A : Type 0} (x : A) (xs : List A) → Contains (x ∷ xs) x
here x xs = (0, omega arith, refl)

there : {A : Type 0} (x y : A) (xs : List A) → Contains xs y → Contains (x ∷ xs) y
there x y xs h = let l = h.1 in (suc h.0, omega arith, h.2)

number_back : (f : ℕ → Name) (ks : List ℕ) (n k : ℕ) → has (with_number ks n) k ≡ true → (f k ≡ f n) ⊎ (has ks k ≡ true)
number_back f ks n k h = by (put_or_there ks n k h)
  where
    by : (k ≡ n) ⊎ (has ks k ≡ true) → (f k ≡ f n) ⊎ (has ks k ≡ true)
    by (inl e) = inl (ap f e)
    by (inr e) = inr e

known_back : (l : Locals) (n k : Name) → is_known (with_local l n) k ≡ true → (k ≡ n) ⊎ (is_known l k ≡ true)
known_back l (name.Reg n) (name.Reg k) h = inr h
known_back l (name.Reg n) (name.Flag k) h = inr h
known_back l (name.Reg n) name.Fs h = inr h
known_back l (name.Reg n) name.Gs h = inr h
known_back l (name.Reg n) (name.T k) h = inr h
known_back l (name.Reg n) (name.B k) h = inr h
known_back l (name.Reg n) (name.S k) h = inr h
known_back l (name.Flag n) (name.Reg k) h = inr h
known_back l (name.Flag n) (name.Flag k) h = inr h
known_back l (name.Flag n) name.Fs h = inr h
known_back l (name.Flag n) name.Gs h = inr h
known_back l (name.Flag n) (name.T k) h = inr h
known_back l (name.Flag n) (name.B k) h = inr h
known_back l (name.Flag n) (name.S k) h = inr h
known_back l name.Fs (name.Reg k) h = inr h
known_back l name.Fs (name.Flag k) h = inr h
known_back l name.Fs name.Fs h = inr h
known_back l name.Fs name.Gs h = inr h
known_back l name.Fs (name.T k) h = inr h
known_back l name.Fs (name.B k) h = inr h
known_back l name.Fs (name.S k) h = inr h
known_back l name.Gs (name.Reg k) h = inr h
known_back l name.Gs (name.Flag k) h = inr h
known_back l name.Gs name.Fs h = inr h
known_back l name.Gs name.Gs h = inr h
known_back l name.Gs (name.T k) h = inr h
known_back l name.Gs (name.B k) h = inr h
known_back l name.Gs (name.S k) h = inr h
known_back l (name.T n) (name.Reg k) h = inr h
known_back l (name.T n) (name.Flag k) h = inr h
known_back l (name.T n) name.Fs h = inr h
known_back l (name.T n) name.Gs h = inr h
known_back l (name.T n) (name.T k) h = number_back (λ j. name.T j) l.temps n k h
known_back l (name.T n) (name.B k) h = inr h
known_back l (name.T n) (name.S k) h = inr h
known_back l (name.B n) (name.Reg k) h = inr h
known_back l (name.B n) (name.Flag k) h = inr h
known_back l (name.B n) name.Fs h = inr h
known_back l (name.B n) name.Gs h = inr h
known_back l (name.B n) (name.T k) h = inr h
known_back l (name.B n) (name.B k) h = number_back (λ j. name.B j) l.bools n k h
known_back l (name.B n) (name.S k) h = inr h
known_back l (name.S n) (name.Reg k) h = inr h
known_back l (name.S n) (name.Flag k) h = inr h
known_back l (name.S n) name.Fs h = inr h
known_back l (name.S n) name.Gs h = inr h
known_back l (name.S n) (name.T k) h = inr h
known_back l (name.S n) (name.B k) h = inr h
known_back l (name.S n) (name.S k) h = number_back (λ j. name.S j) l.selectors n k h

known_from : (l : Locals) (ns : List Name) (k : Name) → is_known (with_locals l ns) k ≡ true → (is_known l k ≡ true) ⊎ Contains ns k
known_from l [] k h = inl h
known_from l (n ∷ ns) k h = by (known_from (with_local l n) ns k h)
  where
    at : (k ≡ n) ⊎ (is_known l k ≡ true) → (is_known l k ≡ true) ⊎ Contains (n ∷ ns) k
    at (inl e) = inr (subst (λ (x : Name). Contains (x ∷ ns) k) e (here k ns))
    at (inr e) = inl e

    by : (is_known (with_local l n) k ≡ true) ⊎ Contains ns k → (is_known l k ≡ true) ⊎ Contains (n ∷ ns) k
    by (inl e) = at (known_back l n k e)
    by (inr c) = inr (there n k ns c)

-- a local of the names is one of them
local_is_name : (ns : List Name) (k : Name) → is_known no_locals k ≡ false → is_known (locals_of ns) k ≡ true → Contains ns k
local_is_name ns k f h = by (known_from no_locals ns k h)
  where
    by : (is_known no_locals k ≡ true) ⊎ Contains ns k → Contains ns k
    by (inl e) = no_true (sym f ∙ e)
    by (inr c) = c

-- and each local among the names is known
contained_known : (l : Locals) (ns : List Name) (k : Name) → Contains ns k → is_known (with_locals l ns) k ≡ true
contained_known l [] k h = let c = h.1 in absurd (omega arith)
contained_known l (n ∷ ns) k h = by h.0 h.1 h.2 (λ i c e. contained_known (with_local l n) ns k (i, c, e))
  where
    by : (i : ℕ) → i < length (n ∷ ns) → slice_index_or (n ∷ ns) i k ≡ k → ((j : ℕ) → j < length ns → slice_index_or ns j k ≡ k → is_known (with_locals (with_local l n) ns) k ≡ true)
        → is_known (with_locals (with_local l n) ns) k ≡ true
    by zero c e rest = still_known (with_local l n) ns k (subst (λ (x : Name). is_known (with_local l n) x ≡ true) e (added_known l n))
    by (suc i) c e rest = rest i (omega arith) e

below_min : (j n m : ℕ) → j < min n m → j < n
below_min j n m h = omega arith

all_of : (n m : ℕ) → n ≤ m → min n m ≡ n
all_of n m l = omega arith

-- the law
pub emit_declares : EmitDeclaresJustThese
emit_declares = record {
  temps = λ t address j h.
      let l = locals_of (names_of (tree_uses t)) in
      let r = numbered l.temps 0 j (locals_ascend (names_of (tree_uses t))).temps (below_min j (length l.temps) (2 ^ 32 - 1) h) in
      (r.number, local_is_name (names_of (tree_uses t)) (name.T r.number) refl r.there, ap (λ i. name.T i) r.new);
  bools = λ t address j h.
      let l = locals_of (names_of (tree_uses t)) in
      let r = numbered l.bools 0 j (locals_ascend (names_of (tree_uses t))).bools (below_min j (length l.bools) (2 ^ 32 - 1) h) in
      (r.number, local_is_name (names_of (tree_uses t)) (name.B r.number) refl r.there, ap (λ i. name.B i) r.new);
  selectors = λ t address j h.
      let l = locals_of (names_of (tree_uses t)) in
      let r = numbered l.selectors 0 j (locals_ascend (names_of (tree_uses t))).selectors (below_min j (length l.selectors) (2 ^ 32 - 1) h) in
      (r.number, local_is_name (names_of (tree_uses t)) (name.S r.number) refl r.there, ap (λ i. name.S i) r.new);
  temps_in_order = λ t n m c l. below_apart (locals_of (names_of (tree_uses t))).temps n m (contained_known no_locals (names_of (tree_uses t)) (name.T n) c) l;
  bools_in_order = λ t n m c l. below_apart (locals_of (names_of (tree_uses t))).bools n m (contained_known no_locals (names_of (tree_uses t)) (name.B n) c) l;
  selectors_in_order = λ t n m c l. below_apart (locals_of (names_of (tree_uses t))).selectors n m (contained_known no_locals (names_of (tree_uses t)) (name.S n) c) l;
  selectors_count = λ t address w.
      let ns = names_of (tree_uses t) in
      all_of (length (locals_of ns).selectors) (2 ^ 32 - 1) (few (2 ^ 32 - 1) (locals_of ns).selectors (locals_ascend ns).selectors (locals_small ns w.names).selectors);
}
