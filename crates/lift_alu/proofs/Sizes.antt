-- What holds at 8, 16 and 32 bits holds at each size.
use Rattle.std.proofs.Common.{ℕ, sym, subst, inl, inr}
use Rattle.dream_words.specs.Words.{IsSize}

pub by_size : (P : ℕ → Type 0) → P 8 → P 16 → P 32 → (bits : ℕ) → IsSize bits → P bits
by_size P at_8 at_16 at_32 bits (inl e) = subst P (sym e) at_8
by_size P at_8 at_16 at_32 bits (inr (inl e)) = subst P (sym e) at_16
by_size P at_8 at_16 at_32 bits (inr (inr e)) = subst P (sym e) at_32
