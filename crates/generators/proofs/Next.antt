-- One more, said by a sum.
use Rattle.std.proofs.Common.{◌≡◌, ℕ, suc, ◌+◌, [], ◌∷◌, ◌++◌, length, refl, subst, arith}
use Rattle.elf_image.specs.Range.{range}
use Rattle.generators.specs.Code.{nest_end, nest_ends, function_code, piece, pieces, ranges, start}

next : (k : ℕ) → suc k ≡ k + 1
next k = omega arith

pub next_ends : (k : ℕ) → nest_ends (k + 1) ≡ nest_ends k ++ nest_end (k + 1)
next_ends k = subst (λ n. nest_ends n ≡ nest_ends k ++ nest_end n) (next k) refl

pub next_pieces : (k : ℕ) → pieces (k + 1) ≡ pieces k ++ piece k (start + length (pieces k))
next_pieces k = subst (λ n. pieces n ≡ pieces k ++ piece k (start + length (pieces k))) (next k) refl

pub next_ranges : (k : ℕ) → ranges (k + 1) ≡ ranges k ++ range (start + length (pieces k)) (length (function_code k (start + length (pieces k)))) ∷ []
next_ranges k = subst (λ n. ranges n ≡ ranges k ++ range (start + length (pieces k)) (length (function_code k (start + length (pieces k)))) ∷ []) (next k) refl
