-- Hexadecimal numbers of up to eight digits are words of 32 bits.
use Rattle.std.proofs.Common.{◌≡◌, ℕ, suc, ◌+◌, ◌*◌, ◌^◌, ◌<◌, ◌≤◌, arith}
use Rattle.std.proofs.Math.Nat.{pow-suc, pow-le-pow_right}

-- one digit more
pub more_digits : (i v d : ℕ) → v < 16 ^ i → d < 16 → 16 * v + d < 16 ^ suc i
more_digits i v d h k = let e : 16 ^ suc i ≡ 16 ^ i * 16 = pow-suc _ _ in omega (arith, e)

-- a digit after fewer than eight
pub digit_fits : (i v d : ℕ) → i < 8 → v < 16 ^ i → d < 16 → 16 * v + d < 2 ^ 32
digit_fits i v d below h k =
    let le : suc i ≤ 8 = omega arith in
    let e : 16 ^ suc i ≤ 16 ^ 8 = pow-le-pow_right (omega arith) le in
    omega (arith, e, more_digits i v d h k)
