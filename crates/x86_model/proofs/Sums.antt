-- Sums and differences as the code makes them.
use Rattle.std.proofs.Common.{◌≡◌, ℕ, ◌+◌, ◌-◌, ◌%◌, ◌^◌, ◌<◌, ◌≤◌, Bool, true, false, arith, sym, inl, inr, subst}
use Rattle.dream_words.specs.Words.{IsSize, low_part, bit_of}
use Rattle.x86_model.specs.Arithmetic.{sum_of, difference_of}

bit_small : (c : Bool) → bit_of c ≤ 1
bit_small true = omega arith
bit_small false = omega arith

-- the sum at 32 bits, and its low part
abbrev pub wrapped_sum : ℕ → ℕ → Bool → ℕ
wrapped_sum x y c = ((x + y) % 2 ^ 32 + bit_of c) % 2 ^ 32

pub sum_is : (bits x y : ℕ) (c : Bool) → IsSize bits → low_part bits (wrapped_sum x y c) ≡ sum_of bits x y c
sum_is bits x y c (inl e) = subst (λ n. low_part n (wrapped_sum x y c) ≡ sum_of n x y c) (sym e) (omega arith)
sum_is bits x y c (inr (inl e)) = subst (λ n. low_part n (wrapped_sum x y c) ≡ sum_of n x y c) (sym e) (omega arith)
sum_is bits x y c (inr (inr e)) = subst (λ n. low_part n (wrapped_sum x y c) ≡ sum_of n x y c) (sym e) (omega arith)

abbrev pub wrapped_difference : ℕ → ℕ → Bool → ℕ
wrapped_difference x y c = ((x + (2 ^ 32 - y)) % 2 ^ 32 + (2 ^ 32 - bit_of c)) % 2 ^ 32

pub difference_is : (bits x y : ℕ) (c : Bool) → IsSize bits → x < 2 ^ 32 → y < 2 ^ 32 → low_part bits (wrapped_difference x y c) ≡ difference_of bits x y c
difference_is bits x y c (inl e) p q = let k : bit_of c ≤ 1 = bit_small c in subst (λ n. low_part n (wrapped_difference x y c) ≡ difference_of n x y c) (sym e) (omega arith)
difference_is bits x y c (inr (inl e)) p q = let k : bit_of c ≤ 1 = bit_small c in subst (λ n. low_part n (wrapped_difference x y c) ≡ difference_of n x y c) (sym e) (omega arith)
difference_is bits x y c (inr (inr e)) p q = let k : bit_of c ≤ 1 = bit_small c in subst (λ n. low_part n (wrapped_difference x y c) ≡ difference_of n x y c) (sym e) (omega arith)
