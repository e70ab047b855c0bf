-- The places of the ones of a word.
use Rattle.std.specs.Prelude.{IfNone, IfSome}
use Rattle.std.proofs.Math.Nat.{lt_of_lt_of_le, mod-lt, mul_comm, pow-suc}
use Rattle.std.proofs.Math.Pow.{pow_mono}
use Rattle.std.proofs.lemmas.Bool.{cases_eq, le-leb, lt-leb}
use Rattle.std.proofs.lemmas.Nat.{pow_pos}
use Rattle.std.proofs.Common.{⊎_elim, Option, Some, None, unwrap_or, lit<, zero, suc, ◌≡◌, ℕ, ◌+◌, ◌*◌, ◌/◌, ◌%◌, ◌^◌, ◌<◌, ◌≤◌, min, refl, sym, ◌∙◌, arith, cond, nat_le, nat_eq, true, false, subst}
use lib.Count.{count_trailing_zeros, under}
use Rattle.dream_words.specs.Words.{lowest_one, highest_one}

-- one digit more below the zeros t, of which k count
by_digit : (d t n k : ℕ) → d < 2 → min t k ≡ n → min (under d t) (suc k) ≡ cond (nat_eq d 1) 0 (n + 1)
by_digit zero t n k h e = omega (arith, e)
by_digit (suc zero) t n k h e = omega arith
by_digit (suc (suc d)) t n k h e = absurd (omega (arith, h))

-- the zeros below the lowest one
pub lowest_one-zeros : (k v : ℕ) → min (count_trailing_zeros (suc k) v) k ≡ lowest_one k v
unfolding count_trailing_zeros lowest_one
lowest_one-zeros zero v = omega arith
lowest_one-zeros (suc k) v = by_digit (v % 2) (count_trailing_zeros (suc k) (v / 2)) (lowest_one k (v / 2)) k (mod-lt v (lit< tt)) (lowest_one-zeros k (v / 2))

-- the highest one's place by the powers of two around the word
pub highest_one-powers : (k v r : ℕ) → 2 ^ r ≤ v → v < 2 * 2 ^ r → r < k → r ≡ highest_one k v
unfolding highest_one
highest_one-powers zero v r l h b = absurd (omega (arith, b))
highest_one-powers (suc k) v r l h b =
    ⊎_elim
    (λ e. let t : nat_le (2 ^ k) v ≡ true = le-leb _ _ (subst (λ n. 2 ^ n ≤ v) e l) in rw t e)
    (λ ne.
    let below : r < k = omega (arith, b, ne) in
    let f : nat_le (2 ^ k) v ≡ false = lt-leb _ _ (lt_of_lt_of_le h (subst (λ n. n ≤ 2 ^ k) (pow-suc 2 r ∙ mul_comm (2 ^ r) 2) (pow_mono below))) in
    rw f (highest_one-powers k v r l h below))
    (cases_eq r k)

pub highest_one-zero : (k : ℕ) → 0 ≡ highest_one k 0
unfolding highest_one
highest_one-zero zero = refl
highest_one-zero (suc k) = let f : nat_le (2 ^ k) 0 ≡ false = lt-leb _ _ (pow_pos k) in rw f (highest_one-zero k)

-- the binary logarithm, where there is one
pub highest_one-log : (o : Option ℕ) (k v : ℕ) → IfNone o (v ≡ 0) → IfSome o (λ r. 2 ^ r ≤ v) → IfSome o (λ r. v < 2 * 2 ^ r) → IfSome o (λ r. r < k) → unwrap_or o 0 ≡ highest_one k v
highest_one-log None k v e l h b = subst (λ n. 0 ≡ highest_one k n) (sym e) (highest_one-zero k)
highest_one-log (Some r) k v e l h b = highest_one-powers k v r l h b
