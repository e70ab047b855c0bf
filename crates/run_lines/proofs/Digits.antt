-- Numbers of up to ten digits in a base of at most 16 fit 64 bits.
use Rattle.std.proofs.Common.{◌≡◌, ℕ, suc, ◌+◌, ◌*◌, ◌^◌, ◌<◌, ◌≤◌, arith}
use Rattle.std.proofs.Math.Nat.{pow-suc, pow-le-pow_right, mul-le-mul_right}

-- a sum with 16 times a number above it
below_next : (i v p d : ℕ) → v < 16 ^ i → p ≤ 16 * v → d < 16 → p + d < 16 ^ suc i
below_next i v p d h le k = let e : 16 ^ suc i ≡ 16 ^ i * 16 = pow-suc _ _ in omega (arith, e)

-- one digit more
pub more_digits : (base i v d : ℕ) → base ≤ 16 → v < 16 ^ i → d < base → base * v + d < 16 ^ suc i
more_digits base i v d small h k = below_next i v (base * v) d h (mul-le-mul_right v small) (omega (arith, small, k))

-- after fewer than ten digits
pub product_fits : (base i v : ℕ) → base ≤ 16 → i < 10 → v < 16 ^ i → base * v < 2 ^ 64
product_fits base i v small below h =
    let le : suc i ≤ 10 = omega arith in
    let e : 16 ^ suc i ≤ 16 ^ 10 = pow-le-pow_right (omega arith) le in
    let m : base * v + 0 < 16 ^ suc i = below_next i v (base * v) 0 h (mul-le-mul_right v small) (omega arith) in
    omega (arith, e, m)

-- a digit after fewer than ten
pub digit_fits : (base i v d : ℕ) → base ≤ 16 → i < 10 → v < 16 ^ i → d < base → base * v + d < 2 ^ 64
digit_fits base i v d small below h k =
    let le : suc i ≤ 10 = omega arith in
    let e : 16 ^ suc i ≤ 16 ^ 10 = pow-le-pow_right (omega arith) le in
    let m : base * v + d < 16 ^ suc i = more_digits base i v d small h k in
    omega (arith, e, m)
