-- Names that a zero byte ends, one byte at a time.
use Rattle.std.proofs.Common.{◌≡◌, ◌<◌, ◌≤◌, ◌+◌, ◌⊎◌, ℕ, zero, suc, List, [], ◌∷◌, ◌++◌, length, take, drop, get_or, Bool, true, false, ◌==◌, Option, Some, None, refl, sym, ap, ◌∙◌, inl, inr, arith, append-nil, append_assoc}
use Rattle.std.specs.Prelude.{option_map, bytes_eq, ◌&&◌}
use Rattle.std.proofs.lemmas.Bool.{eq-eqb, ne_eqb, and_right}
use Rattle.std.proofs.lemmas.List.{at_drop_more, at_drop_all, drop_more, take_more, drop_all}
use Rattle.elf_symbols.specs.Symbols.{ended, is_name}

longer : (b c : ℕ) (o : Option (List ℕ)) (name : List ℕ) → is_name o name ≡ false → is_name (option_map (λ n. b ∷ n) o) (c ∷ name) ≡ false
longer b c None name h = refl
longer b c (Some n) name h = and_right (b == c) (bytes_eq n name) h

-- bytes that are no more than a name's can't hold it and a zero byte after it
pub too_short : (bytes name : List ℕ) → length bytes ≤ length name → is_name (ended bytes) name ≡ false
too_short [] name l = refl
too_short (b ∷ bytes) [] l = absurd (omega (arith, l))
too_short (zero ∷ bytes) (c ∷ name) l = refl
too_short (suc b ∷ bytes) (c ∷ name) l = longer (suc b) c (ended bytes) name (too_short bytes name (omega (arith, l)))

agree_some : (b c : ℕ) (o : Option (List ℕ)) (name : List ℕ) → b ≡ c → is_name (option_map (λ n. b ∷ n) o) (c ∷ name) ≡ is_name o name
agree_some b c None name e = refl
agree_some b c (Some n) name e = ap (λ t. t && bytes_eq n name) (eq-eqb b c e)

agree_cons : (b c : ℕ) (bytes name : List ℕ) → (b ≡ 0 → ⊥) → b ≡ c → is_name (ended (b ∷ bytes)) (c ∷ name) ≡ is_name (ended bytes) name
agree_cons zero c bytes name n e = absurd (n refl)
agree_cons (suc b) c bytes name n e = agree_some (suc b) c (ended bytes) name e

differ_some : (b c : ℕ) (o : Option (List ℕ)) (name : List ℕ) → (b ≡ c → ⊥) → is_name (option_map (λ n. b ∷ n) o) (c ∷ name) ≡ false
differ_some b c None name n = refl
differ_some b c (Some m) name n = ap (λ t. t && bytes_eq m name) (ne_eqb b c n)

differ_cons : (b c : ℕ) (bytes name : List ℕ) → (b ≡ 0) ⊎ (b ≡ c → ⊥) → is_name (ended (b ∷ bytes)) (c ∷ name) ≡ false
differ_cons zero c bytes name h = refl
differ_cons (suc b) c bytes name h = elim h [
  | inl e ↦ absurd (omega (arith, e))
  | inr n ↦ differ_some (suc b) c (ended bytes) name n
]

over_some : (b : ℕ) (o : Option (List ℕ)) → is_name (option_map (λ n. b ∷ n) o) [] ≡ false
over_some b None = refl
over_some b (Some n) = refl

over_cons : (b : ℕ) (bytes : List ℕ) → is_name (ended (b ∷ bytes)) [] ≡ (b == 0)
over_cons zero bytes = refl
over_cons (suc b) bytes = over_some (suc b) (ended bytes) ∙ sym (ne_eqb (suc b) 0 (λ e. omega (arith, e)))

both_drop : (bytes name : List ℕ) (i : ℕ) → i < length bytes → i < length name
    → is_name (ended (drop i bytes)) (drop i name) ≡ is_name (ended (get_or bytes i 0 ∷ drop (i + 1) bytes)) (get_or name i 0 ∷ drop (i + 1) name)
both_drop bytes name i l m = at_drop_more (λ xs. is_name (ended xs) (drop i name)) bytes i 0 l ∙ at_drop_more (λ ys. is_name (ended (get_or bytes i 0 ∷ drop (i + 1) bytes)) ys) name i 0 m

-- where a byte agrees, the rest tells
pub agrees : (bytes name : List ℕ) (i : ℕ) → i < length bytes → i < length name → (get_or bytes i 0 ≡ 0 → ⊥) → get_or bytes i 0 ≡ get_or name i 0
    → is_name (ended (drop i bytes)) (drop i name) ≡ is_name (ended (drop (i + 1) bytes)) (drop (i + 1) name)
agrees bytes name i l m n e = both_drop bytes name i l m ∙ agree_cons (get_or bytes i 0) (get_or name i 0) (drop (i + 1) bytes) (drop (i + 1) name) n e

-- where one is zero or another, it isn't the name
pub differs : (bytes name : List ℕ) (i : ℕ) → i < length bytes → i < length name → (get_or bytes i 0 ≡ 0) ⊎ (get_or bytes i 0 ≡ get_or name i 0 → ⊥)
    → is_name (ended (drop i bytes)) (drop i name) ≡ false
differs bytes name i l m h = both_drop bytes name i l m ∙ differ_cons (get_or bytes i 0) (get_or name i 0) (drop (i + 1) bytes) (drop (i + 1) name) h

-- after the name the next byte tells
pub over : (bytes name : List ℕ) (i : ℕ) → i < length bytes → length name ≤ i → is_name (ended (drop i bytes)) (drop i name) ≡ (get_or bytes i 0 == 0)
over bytes name i l m =
    ap (λ ys. is_name (ended (drop i bytes)) ys) (drop_all i name m)
    ∙ at_drop_more (λ xs. is_name (ended xs) []) bytes i 0 l
    ∙ over_cons (get_or bytes i 0) (drop (i + 1) bytes)

-- a front, and then the name from there on
abbrev pub after_front : List ℕ → Option (List ℕ) → Option (List ℕ)
after_front front o = option_map (λ n. front ++ n) o

ended_zero : (b : ℕ) (bytes : List ℕ) → b ≡ 0 → ended (b ∷ bytes) ≡ Some []
ended_zero zero bytes e = refl
ended_zero (suc b) bytes e = absurd (omega (arith, e))

ended_other : (b : ℕ) (bytes : List ℕ) → (b ≡ 0 → ⊥) → ended (b ∷ bytes) ≡ option_map (λ n. b ∷ n) (ended bytes)
ended_other zero bytes n = absurd (n refl)
ended_other (suc b) bytes n = refl

pub name_ends : (bytes : List ℕ) (i : ℕ) → i < length bytes → get_or bytes i 0 ≡ 0 → after_front (take i bytes) (ended (drop i bytes)) ≡ Some (take i bytes)
name_ends bytes i l e =
    ap (after_front (take i bytes)) (at_drop_more ended bytes i 0 l ∙ ended_zero (get_or bytes i 0) (drop (i + 1) bytes) e)
    ∙ ap (λ n. Some n) (append-nil (take i bytes))

further : (front : List ℕ) (b : ℕ) (o : Option (List ℕ)) → after_front front (option_map (λ n. b ∷ n) o) ≡ after_front (front ++ b ∷ []) o
further front b None = refl
further front b (Some n) = ap (λ m. Some m) (sym (append_assoc front (b ∷ []) n))

pub name_goes_on : (bytes : List ℕ) (i : ℕ) → i < length bytes → (get_or bytes i 0 ≡ 0 → ⊥)
    → after_front (take i bytes) (ended (drop i bytes)) ≡ after_front (take (i + 1) bytes) (ended (drop (i + 1) bytes))
name_goes_on bytes i l n =
    ap (after_front (take i bytes)) (at_drop_more ended bytes i 0 l ∙ ended_other (get_or bytes i 0) (drop (i + 1) bytes) n)
    ∙ further (take i bytes) (get_or bytes i 0) (ended (drop (i + 1) bytes))
    ∙ ap (λ front. after_front front (ended (drop (i + 1) bytes))) (sym (take_more bytes i 0 l))

pub no_name : (bytes : List ℕ) (i : ℕ) → length bytes ≤ i → after_front (take i bytes) (ended (drop i bytes)) ≡ None
no_name bytes i l = ap (λ xs. after_front (take i bytes) (ended xs)) (drop_all i bytes l)

pub name_starts : (bytes : List ℕ) → after_front [] (ended bytes) ≡ ended bytes
name_starts bytes = whole (ended bytes) where
  whole : (o : Option (List ℕ)) → after_front [] o ≡ o
  whole None = refl
  whole (Some n) = refl
