-- Masks that put bytes together.
use Rattle.std.proofs.Common.{◌≡◌, ℕ, ◌+◌, ◌*◌, ◌/◌, ◌%◌, ◌^◌, ◌<◌, bit_and, bit_or, arith, ap, ◌∙◌, lit≤}
use Rattle.std.proofs.lemmas.Nat.{and_mask, or_shifted, mod_below, pow_pos}
use Rattle.std.proofs.lemmas.Nat.Bits.{and_high_mask}
use Rattle.x86_model.specs.Operands.{with_low, with_second}

pub low_byte_is : (old v : ℕ) → old < 2 ^ 32 → bit_or (bit_and old 0xffff_ff00) (bit_and v 0xff) ≡ with_low 8 old v
low_byte_is old v h =
    ap (λ n. bit_or n (bit_and v 0xff)) (and_high_mask 32 8 (lit≤ tt) old h)
    ∙ ap (λ n. bit_or (old / 2 ^ 8 * 2 ^ 8) n) (and_mask v 8)
    ∙ or_shifted (old / 2 ^ 8) 8 (v % 2 ^ 8) (mod_below v (2 ^ 8) (pow_pos 8))

pub low_half_is : (old v : ℕ) → old < 2 ^ 32 → bit_or (bit_and old 0xffff_0000) (bit_and v 0xffff) ≡ with_low 16 old v
low_half_is old v h =
    ap (λ n. bit_or n (bit_and v 0xffff)) (and_high_mask 32 16 (lit≤ tt) old h)
    ∙ ap (λ n. bit_or (old / 2 ^ 16 * 2 ^ 16) n) (and_mask v 16)
    ∙ or_shifted (old / 2 ^ 16) 16 (v % 2 ^ 16) (mod_below v (2 ^ 16) (pow_pos 16))

pub second_byte_is : (old v : ℕ) → old < 2 ^ 32 → bit_or (bit_and old 0xffff_0000) (bit_or (bit_and v 0xff * 2 ^ 8 % 2 ^ 32) (bit_and old 0xff)) ≡ with_second old v
second_byte_is old v h =
    let a : v % 2 ^ 8 < 2 ^ 8 = mod_below v (2 ^ 8) (pow_pos 8) in
    let b : old % 2 ^ 8 < 2 ^ 8 = mod_below old (2 ^ 8) (pow_pos 8) in
    let m : v % 2 ^ 8 * 2 ^ 8 % 2 ^ 32 ≡ v % 2 ^ 8 * 2 ^ 8 = omega arith in
    let i : v % 2 ^ 8 * 2 ^ 8 + old % 2 ^ 8 < 2 ^ 16 = omega arith in
    ap (λ n. bit_or n (bit_or (bit_and v 0xff * 2 ^ 8 % 2 ^ 32) (bit_and old 0xff))) (and_high_mask 32 16 (lit≤ tt) old h)
    ∙ ap (λ n. bit_or (old / 2 ^ 16 * 2 ^ 16) (bit_or (n * 2 ^ 8 % 2 ^ 32) (bit_and old 0xff))) (and_mask v 8)
    ∙ ap (λ n. bit_or (old / 2 ^ 16 * 2 ^ 16) (bit_or n (bit_and old 0xff))) m
    ∙ ap (λ n. bit_or (old / 2 ^ 16 * 2 ^ 16) (bit_or (v % 2 ^ 8 * 2 ^ 8) n)) (and_mask old 8)
    ∙ ap (λ n. bit_or (old / 2 ^ 16 * 2 ^ 16) n) (or_shifted (v % 2 ^ 8) 8 (old % 2 ^ 8) b)
    ∙ or_shifted (old / 2 ^ 16) 16 (v % 2 ^ 8 * 2 ^ 8 + old % 2 ^ 8) i
