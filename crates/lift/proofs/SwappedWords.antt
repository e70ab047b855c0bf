-- What the word of four bytes in the other order gives.
use Rattle.std.proofs.Common.{◌≡◌, ℕ, ◌+◌, ◌*◌, ◌/◌, ◌%◌, ◌^◌, ◌<◌, bit_and, bit_or, Some, ap, ◌∙◌, arith}
use Rattle.std.proofs.lemmas.Nat.{or_shifted}
use Rattle.std.proofs.lemmas.Nat.Bits.{and_high}
use Rattle.dream_words.specs.Words.{low_part}
use Rattle.run_parts.specs.World.{Names}
use Rattle.x86_model.specs.Rows.{swapped}
use Rattle.c_syntax.specs.declared.syntax.CExpr.{CExpr}
use Rattle.c_syntax.specs.Value.{word_of}
use Rattle.c_words.proofs.Layers.{word_layer}
use Rattle.lift.specs.Blocks.{swapped_word}

-- ---- the order of bytes

-- four bytes one above another
bytes_or : (a b c d : ℕ) → b < 2 ^ 8 → c < 2 ^ 8 → d < 2 ^ 8
    → bit_or (a * 2 ^ 24) (bit_or (b * 2 ^ 16) (bit_or (c * 2 ^ 8) d)) ≡ a * 2 ^ 24 + b * 2 ^ 16 + c * 2 ^ 8 + d
bytes_or a b c d k l m =
    ap (λ y. bit_or (a * 2 ^ 24) (bit_or (b * 2 ^ 16) y)) (or_shifted c 8 d m)
    ∙ ap (bit_or (a * 2 ^ 24)) (or_shifted b 16 (c * 2 ^ 8 + d) (omega arith))
    ∙ or_shifted a 24 (b * 2 ^ 16 + (c * 2 ^ 8 + d)) (omega arith)
    ∙ omega arith

swapped_by : (x : ℕ) → x < 2 ^ 32
    → bit_or (low_part 32 (x * 2 ^ 24)) (bit_or (bit_and (low_part 32 (x * 2 ^ 8)) 0xff0000) (bit_or (bit_and (x / 2 ^ 8) 0xff00) (x / 2 ^ 24))) ≡ swapped x
swapped_by x l =
    let top : low_part 32 (x * 2 ^ 24) ≡ x % 2 ^ 8 * 2 ^ 24 = omega arith in
    let third : bit_and (low_part 32 (x * 2 ^ 8)) 0xff0000 ≡ x / 2 ^ 8 % 2 ^ 8 * 2 ^ 16 = and_high (low_part 32 (x * 2 ^ 8)) 8 16 ∙ omega arith in
    let second : bit_and (x / 2 ^ 8) 0xff00 ≡ x / 2 ^ 16 % 2 ^ 8 * 2 ^ 8 = and_high (x / 2 ^ 8) 8 8 ∙ omega arith in
    rw (top, third, second) (bytes_or (x % 2 ^ 8) (x / 2 ^ 8 % 2 ^ 8) (x / 2 ^ 16 % 2 ^ 8) (x / 2 ^ 24) (omega arith) (omega arith) (omega arith) ∙ omega arith)

pub swapped_below : (x : ℕ) → swapped x < 2 ^ 32
swapped_below x = omega arith

pub swapped_value : (v : Names) (e : CExpr) (x : ℕ) → word_of e v ≡ Some x → x < 2 ^ 32 → word_of (swapped_word e) v ≡ Some (swapped x)
swapped_value v e x h l = by_value (swapped_by x l)
  where
    by_value : bit_or (low_part 32 (x * 2 ^ 24)) (bit_or (bit_and (low_part 32 (x * 2 ^ 8)) 0xff0000) (bit_or (bit_and (x / 2 ^ 8) 0xff00) (x / 2 ^ 24))) ≡ swapped x
        → word_of (swapped_word e) v ≡ Some (swapped x)
    by_value q = simp (word_layer, h) (ap Some q)
