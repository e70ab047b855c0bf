-- The last zero bytes of a file, and where no name begins.
use Rattle.std.proofs.Common.{◌≡◌, ◌<◌, ◌≤◌, ◌+◌, ◌-◌, ◌*◌, ◌/◌, ◌⊎◌, ℕ, zero, suc, List, [], ◌∷◌, ◌++◌, length, take, drop, get_or, Bool, true, false, ◌==◌, Option, Some, None, refl, sym, ap, subst, ◌∙◌, inl, inr, arith, length-take, length-drop}
use Rattle.std.specs.Prelude.{option_map, if◌then◌else◌}
use Rattle.std.proofs.lemmas.Bool.{cases_eq, cases_lt, ne_eqb, eq-eqb}
use Rattle.std.proofs.lemmas.List.{get_or-drop, get_or-take, get_or_push, get_or_append_left, length_push}
use Rattle.elf_image.specs.declared.range.Range.{Range}
use Rattle.elf_symbols.specs.Symbols.{ended, is_function, symbol_name, symbol_range}
use Rattle.elf_symbols.specs.Functions.{under_name, function_at}
use Rattle.elf_symbols.specs.Zeros.{after_zero, zeros_below}

-- one byte further
pub zero_here : (bytes : List ℕ) (p : ℕ) → get_or bytes p 0 ≡ 0 → after_zero bytes (suc p) ≡ suc p
zero_here bytes p e = ap (λ t. if t then suc p else after_zero bytes p) (eq-eqb (get_or bytes p 0) 0 e)

pub none_here : (bytes : List ℕ) (p : ℕ) → (get_or bytes p 0 ≡ 0 → ⊥) → after_zero bytes (suc p) ≡ after_zero bytes p
none_here bytes p n = ap (λ t. if t then suc p else after_zero bytes p) (ne_eqb (get_or bytes p 0) 0 n)

below_or_last : (k m : ℕ) → k < suc m → (k < m) ⊎ (k ≡ m)
below_or_last k m h = elim (cases_lt k m) [ inl lt ↦ inl lt | inr le ↦ inr (omega arith) ]

-- from there on no byte is zero
none_after : (bytes : List ℕ) (e p : ℕ) → after_zero bytes e ≤ p → p < e → get_or bytes p 0 ≡ 0 → ⊥
none_after bytes zero p l m z = omega (arith, m)
none_after bytes (suc e) p l m z = elim (cases_eq (get_or bytes e 0) 0) [
  | inl here ↦ omega (arith, l, m, zero_here bytes e here)
  | inr other ↦ elim (below_or_last p e m) [
    | inl lt ↦ none_after bytes e p (omega (arith, l, none_here bytes e other)) lt z
    | inr last ↦ other (subst (λ q. get_or bytes q 0 ≡ 0) last z)
  ]
]

-- where no byte is zero, no name is ended
never_ended : (xs : List ℕ) → ((i : ℕ) → i < length xs → get_or xs i 0 ≡ 0 → ⊥) → ended xs ≡ None
never_ended [] h = refl
never_ended (zero ∷ xs) h = absurd (h 0 (omega arith) refl)
never_ended (suc x ∷ xs) h = ap (λ o. option_map (λ n. suc x ∷ n) o) (never_ended xs (λ i lt z. h (suc i) (omega (arith, lt)) z))

at_place : (bytes : List ℕ) (o s m i : ℕ) → m + i < s → get_or (drop m (take s (drop o bytes))) i 0 ≡ get_or bytes (o + (m + i)) 0
at_place bytes o s m i lt =
    get_or-drop m (take s (drop o bytes)) i 0 ∙ get_or-take s (drop o bytes) (m + i) 0 lt ∙ get_or-drop o bytes (m + i) 0

-- no name begins after the last zero byte of a part of a file
pub no_names : (bytes : List ℕ) (o s : ℕ) → ended (drop (after_zero bytes (o + s) - o) (take s (drop o bytes))) ≡ None
no_names bytes o s =
    let m : ℕ = after_zero bytes (o + s) - o in
    never_ended (drop m (take s (drop o bytes))) (λ i lt z.
    let within : m + i < s = omega (arith, lt, length-drop m (take s (drop o bytes)), length-take s (drop o bytes)) in
    none_after bytes (o + s) (o + (m + i)) (omega arith) (omega (arith, within)) (sym (at_place bytes o s m i within) ∙ z))

-- nor further on
pub no_later_name : (xs : List ℕ) (m n : ℕ) → ended (drop m xs) ≡ None → m ≤ n → ended (drop n xs) ≡ None
no_later_name xs zero zero h l = h
no_later_name xs (suc m) zero h l = absurd (omega (arith, l))
no_later_name [] zero (suc n) h l = refl
no_later_name [] (suc m) (suc n) h l = refl
no_later_name (x ∷ xs) (suc m) (suc n) h l = no_later_name xs m n h (omega (arith, l))
no_later_name (zero ∷ xs) zero (suc n) h l = absurd (cc)
no_later_name (suc x ∷ xs) zero (suc n) h l = no_later_name xs zero n (tail_none (suc x) (ended xs) h) (omega arith) where
  tail_none : (b : ℕ) (o : Option (List ℕ)) → option_map (λ n. b ∷ n) o ≡ None → o ≡ None
  tail_none b None e = refl
  tail_none b (Some n) e = absurd (cc)

pub length_zeros : (bytes : List ℕ) (n : ℕ) → length (zeros_below bytes n) ≡ n
length_zeros bytes zero = refl
length_zeros bytes (suc n) = length_push (zeros_below bytes n) (after_zero bytes (256 * n)) ∙ ap (λ k. k + 1) (length_zeros bytes n) ∙ omega arith

pub zeros_at : (bytes : List ℕ) (n k d : ℕ) → k < n → get_or (zeros_below bytes n) k d ≡ after_zero bytes (256 * k)
zeros_at bytes zero k d lt = absurd (omega (arith, lt))
zeros_at bytes (suc n) k d lt = elim (below_or_last k n lt) [
  | inl below ↦
      get_or_append_left (zeros_below bytes n) (after_zero bytes (256 * n) ∷ []) d k (omega (arith, below, length_zeros bytes n))
      ∙ zeros_at bytes n k d below
  | inr last ↦
      get_or_push (zeros_below bytes n) (after_zero bytes (256 * n)) d k (length_zeros bytes n ∙ sym last)
      ∙ ap (λ j. after_zero bytes (256 * j)) (sym last)
]

-- an earlier place has no later step
pub step_within : (a n : ℕ) → a ≤ n → a / 256 < n / 256 + 1
step_within a n l = omega (arith, l)

nothing : (b : Bool) (r : Range) → (if b then under_name None r else []) ≡ []
nothing true r = refl
nothing false r = refl

-- a symbol whose name begins where no name is ended is no function that has a name
pub no_function : (table strings : List ℕ) (m j : ℕ) → ended (drop m strings) ≡ None → m ≤ symbol_name table j → function_at table strings j ≡ []
no_function table strings m j h l =
    ap (λ o. if is_function table j then under_name o (symbol_range table j) else []) (no_later_name strings m (symbol_name table j) h l)
    ∙ nothing (is_function table j) (symbol_range table j)
