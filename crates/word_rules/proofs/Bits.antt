-- Masks of numbers: what has no other bits than a mask.
use Rattle.std.proofs.Common.{◌≡◌, ℕ, ◌+◌, ◌-◌, ◌*◌, ◌/◌, ◌%◌, ◌^◌, ◌<◌, ◌≤◌, min, max, Bool, true, false, cond, Some, None, unwrap_or, nat_lt, refl, sym, ap, ◌∙◌, subst, arith}
use Rattle.std.specs.Prelude.{bit_and, bit_or, bit_xor}
use Rattle.std.specs.Int.{bit_at}
use Rattle.std.proofs.lemmas.Nat.{and_mask, and_shr, and_mod, and_assoc, and_block, and_le_r, pow_pos}
use Rattle.std.proofs.lemmas.Nat.Bits.{bit_at_and, bit_at_or, bit_at_xor, bit_at-lt, same_from_bits}
use Rattle.std.proofs.Math.Nat.{mod-eq_of_lt}
use Rattle.dream_words.specs.Words.{bit_of, low_part}
use Rattle.c_syntax.specs.declared.syntax.CBin.TheVariants.{Shl, Shr}
use Rattle.c_syntax.specs.Words.{bin_of}

-- a bit of what a mask covers is in the mask
at_bit : (x m i : ℕ) → bit_and x m ≡ x → min (bit_at x i) (bit_at m i) ≡ bit_at x i
at_bit x m i h = sym (bit_at_and x m i) ∙ ap (λ y. bit_at y i) h

by_bits : (x m : ℕ) → ((i : ℕ) → min (bit_at x i) (bit_at m i) ≡ bit_at x i) → bit_and x m ≡ x
by_bits x m f = same_from_bits (bit_and x m) x (λ i. bit_at_and x m i ∙ f i)

both_bits : (a b c d p q : ℕ) → p ≡ min a b → q ≡ min c d → min a c ≡ a → min b d ≡ b → min p q ≡ p
both_bits a b c d p q e f h k = omega arith

either_bits : (a b c d p q : ℕ) → p ≡ max a b → q ≡ max c d → min a c ≡ a → min b d ≡ b → min p q ≡ p
either_bits a b c d p q e f h k = omega arith

odd_bits : (a b c d p q : ℕ) → a < 2 → b < 2 → c < 2 → d < 2 → p ≡ (a + b) % 2 → q ≡ max c d → min a c ≡ a → min b d ≡ b → min p q ≡ p
odd_bits a b c d p q i j k l e f h g = omega arith

first_bits : (a c d q : ℕ) → q ≡ max c d → min a c ≡ a → min a q ≡ a
first_bits a c d q e h = omega arith

second_bits : (a c d q : ℕ) → q ≡ max c d → min a d ≡ a → min a q ≡ a
second_bits a c d q e h = omega arith

pub and_covered : (x y m n : ℕ) → bit_and x m ≡ x → bit_and y n ≡ y → bit_and (bit_and x y) (bit_and m n) ≡ bit_and x y
and_covered x y m n h k =
    by_bits (bit_and x y) (bit_and m n) (λ i. both_bits (bit_at x i) (bit_at y i) (bit_at m i) (bit_at n i) _ _ (bit_at_and x y i) (bit_at_and m n i) (at_bit x m i h) (at_bit y n i k))

pub or_covered : (x y m n : ℕ) → bit_and x m ≡ x → bit_and y n ≡ y → bit_and (bit_or x y) (bit_or m n) ≡ bit_or x y
or_covered x y m n h k =
    by_bits (bit_or x y) (bit_or m n) (λ i. either_bits (bit_at x i) (bit_at y i) (bit_at m i) (bit_at n i) _ _ (bit_at_or x y i) (bit_at_or m n i) (at_bit x m i h) (at_bit y n i k))

pub xor_covered : (x y m n : ℕ) → bit_and x m ≡ x → bit_and y n ≡ y → bit_and (bit_xor x y) (bit_or m n) ≡ bit_xor x y
xor_covered x y m n h k =
    by_bits (bit_xor x y) (bit_or m n)
    (λ i. odd_bits (bit_at x i) (bit_at y i) (bit_at m i) (bit_at n i) _ _ (bit_at-lt x i) (bit_at-lt y i) (bit_at-lt m i) (bit_at-lt n i) (bit_at_xor x y i) (bit_at_or m n i) (at_bit x m i h) (at_bit y n i k))

pub first_covered : (x m n : ℕ) → bit_and x m ≡ x → bit_and x (bit_or m n) ≡ x
first_covered x m n h = by_bits x (bit_or m n) (λ i. first_bits (bit_at x i) (bit_at m i) (bit_at n i) _ (bit_at_or m n i) (at_bit x m i h))

pub second_covered : (x m n : ℕ) → bit_and x n ≡ x → bit_and x (bit_or m n) ≡ x
second_covered x m n h = by_bits x (bit_or m n) (λ i. second_bits (bit_at x i) (bit_at m i) (bit_at n i) _ (bit_at_or m n i) (at_bit x n i h))

-- a mask that covers the mask covers the number
pub wider_covers : (x m n : ℕ) → bit_and x m ≡ x → bit_and m n ≡ m → bit_and x n ≡ x
wider_covers x m n h k = ap (λ y. bit_and y n) (sym h) ∙ and_assoc n x m ∙ ap (bit_and x) k ∙ h

-- what a mask covers is at most the mask
pub covered_below : (x m : ℕ) → bit_and x m ≡ x → x ≤ m
covered_below x m h = subst (λ y. y ≤ m) h (and_le_r x m)

pub all_covers : (x : ℕ) → x < 2 ^ 32 → bit_and x (2 ^ 32 - 1) ≡ x
all_covers x h = and_mask x 32 ∙ mod-eq_of_lt h

pub bit_covered : (b : Bool) → bit_and (bit_of b) 1 ≡ bit_of b
bit_covered true = refl
bit_covered false = refl

-- ---- shifts

right_covered : (x m k : ℕ) → bit_and x m ≡ x → bit_and (x / 2 ^ k) (m / 2 ^ k) ≡ x / 2 ^ k
right_covered x m k h = sym (and_shr x m k) ∙ ap (λ y. y / 2 ^ k) h

times_covered : (x m k : ℕ) → bit_and x m ≡ x → bit_and (x * 2 ^ k) (m * 2 ^ k) ≡ x * 2 ^ k
times_covered x m k h =
    let e : x * 2 ^ k + 0 ≡ x * 2 ^ k = omega arith in
    let f : m * 2 ^ k + 0 ≡ m * 2 ^ k = omega arith in
    let g : bit_and x m * 2 ^ k + bit_and 0 0 ≡ bit_and x m * 2 ^ k = omega arith in
    ap (λ y. bit_and y (m * 2 ^ k)) (sym e) ∙ ap (bit_and (x * 2 ^ k + 0)) (sym f) ∙ and_block k x m 0 0 (pow_pos k) (pow_pos k) ∙ g ∙ ap (λ y. y * 2 ^ k) h

left_covered : (x m k : ℕ) → bit_and x m ≡ x → bit_and (low_part 32 (x * 2 ^ k)) (low_part 32 (m * 2 ^ k)) ≡ low_part 32 (x * 2 ^ k)
left_covered x m k h = sym (and_mod (x * 2 ^ k) (m * 2 ^ k) 32) ∙ ap (low_part 32) (times_covered x m k h)

-- where a shift has a value, the mask that is shifted covers it
same_test : (b : Bool) (p q z : ℕ) → cond b (Some q) None ≡ Some z → bit_and q p ≡ q → bit_and z (unwrap_or (cond b (Some p) None) 0) ≡ z
same_test true p q z f h = let j : q ≡ z = cc in subst (λ y. bit_and y p ≡ y) j h
same_test false p q z f h = absurd (let n : ⊥ = cc in n)

pub right_shift_covered : (x m k z : ℕ) → bit_and x m ≡ x → bin_of Shr x k ≡ Some z → bit_and z (unwrap_or (bin_of Shr m k) 0) ≡ z
right_shift_covered x m k z h f = same_test (nat_lt k 32) (m / 2 ^ k) (x / 2 ^ k) z f (right_covered x m k h)

pub left_shift_covered : (x m k z : ℕ) → bit_and x m ≡ x → bin_of Shl x k ≡ Some z → bit_and z (unwrap_or (bin_of Shl m k) 0) ≡ z
left_shift_covered x m k z h f = same_test (nat_lt k 32) (low_part 32 (m * 2 ^ k)) (low_part 32 (x * 2 ^ k)) z f (left_covered x m k h)
