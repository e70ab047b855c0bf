-- New numbers: those that are marked get different ones, below their count.
use Rattle.std.proofs.Common.{◌≡◌, ◌<◌, ◌≤◌, ℕ, ◌+◌, zero, suc, Bool, true, false, ltb, ltb-true, ltb-false, length, get_or, List, [], ◌∷◌, refl, sym, ap, ◌∙◌, arith}
use Rattle.std.proofs.lemmas.List.{get_or_past}
use Rattle.c_locals.specs.Settled.{count_of, numbers_of, new_number}

no_true : false ≡ true → ⊥
no_true e = cc

-- the number that comes next
abbrev next_after : Bool → ℕ → ℕ
next_after true n = n + 1
next_after false n = n

pub as_many : (bs : List Bool) (n : ℕ) → length (numbers_of bs n) ≡ length bs
as_many [] n = refl
as_many (true ∷ bs) n = ap (λ k. suc k) (as_many bs (n + 1))
as_many (false ∷ bs) n = ap (λ k. suc k) (as_many bs n)

pub few : (bs : List Bool) → count_of bs ≤ length bs
few [] = omega arith
few (true ∷ bs) = let h = few bs in omega (arith, h)
few (false ∷ bs) = let h = few bs in omega (arith, h)

from : (bs : List Bool) (n k d : ℕ) → k < length bs → n ≤ get_or (numbers_of bs n) k d
from [] n k d h = omega (arith, h)
from (b ∷ bs) n zero d h = omega arith
from (true ∷ bs) n (suc k) d h = let i : k < length bs = omega (arith, h) in let g = from bs (n + 1) k d i in omega (arith, g)
from (false ∷ bs) n (suc k) d h = let i : k < length bs = omega (arith, h) in from bs n k d i

pub below_count : (bs : List Bool) (n k d : ℕ) → k < length bs → get_or bs k true ≡ true → get_or (numbers_of bs n) k d < n + count_of bs
below_count [] n k d h e = omega (arith, h)
below_count (true ∷ bs) n zero d h e = omega arith
below_count (false ∷ bs) n zero d h e = absurd (no_true e)
below_count (true ∷ bs) n (suc k) d h e = let i : k < length bs = omega (arith, h) in let g = below_count bs (n + 1) k d i e in omega (arith, g)
below_count (false ∷ bs) n (suc k) d h e = let i : k < length bs = omega (arith, h) in let g = below_count bs n k d i e in omega (arith, g)

apart : (bs : List Bool) (n j k d e : ℕ) → j < length bs → k < length bs → get_or bs j true ≡ true → get_or bs k true ≡ true
    → get_or (numbers_of bs n) j d ≡ get_or (numbers_of bs n) k e → j ≡ k
apart [] n j k d e hj hk mj mk q = omega (arith, hj)
apart (b ∷ bs) n zero zero d e hj hk mj mk q = refl
apart (false ∷ bs) n zero (suc k) d e hj hk mj mk q = absurd (no_true mj)
apart (true ∷ bs) n zero (suc k) d e hj hk mj mk q = let i : k < length bs = omega (arith, hk) in let g = from bs (n + 1) k e i in omega (arith, g, q)
apart (false ∷ bs) n (suc j) zero d e hj hk mj mk q = absurd (no_true mk)
apart (true ∷ bs) n (suc j) zero d e hj hk mj mk q = let i : j < length bs = omega (arith, hj) in let g = from bs (n + 1) j d i in omega (arith, g, q)
apart (true ∷ bs) n (suc j) (suc k) d e hj hk mj mk q = let i : j < length bs = omega (arith, hj) in let l : k < length bs = omega (arith, hk) in ap (λ x. suc x) (apart bs (n + 1) j k d e i l mj mk q)
apart (false ∷ bs) n (suc j) (suc k) d e hj hk mj mk q = let i : j < length bs = omega (arith, hj) in let l : k < length bs = omega (arith, hk) in ap (λ x. suc x) (apart bs n j k d e i l mj mk q)

past : (bs : List Bool) (k : ℕ) → length bs ≤ k → new_number bs k ≡ k
past bs k h = let g = as_many bs 0 in get_or_past (numbers_of bs 0) k k (omega (arith, g, h))

inside : (bs : List Bool) (k : ℕ) → k < length bs → get_or bs k true ≡ true → new_number bs k < length bs
inside bs k h e = let g = below_count bs 0 k k h e in let f = few bs in omega (arith, g, f)

-- two numbers that are kept have one new number only if they are one
pub one_new : (bs : List Bool) (j k : ℕ) → get_or bs j true ≡ true → get_or bs k true ≡ true → new_number bs j ≡ new_number bs k → j ≡ k
one_new bs j k mj mk q = by (ltb j (length bs)) (ltb k (length bs)) refl refl
  where
    by : (a b : Bool) → ltb j (length bs) ≡ a → ltb k (length bs) ≡ b → j ≡ k
    by true true e g = apart bs 0 j k j k (ltb-true _ _ e) (ltb-true _ _ g) mj mk q
    by true false e g = let p = past bs k (ltb-false _ _ g) in let l = ltb-false _ _ g in let i = inside bs j (ltb-true _ _ e) mj in omega (arith, p, i, q, l)
    by false true e g = let p = past bs j (ltb-false _ _ e) in let l = ltb-false _ _ e in let i = inside bs k (ltb-true _ _ g) mk in omega (arith, p, i, q, l)
    by false false e g = sym (past bs j (ltb-false _ _ e)) ∙ q ∙ past bs k (ltb-false _ _ g)
