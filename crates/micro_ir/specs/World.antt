-- The worlds in which flows run: every number is in its range.
use Rattle.std.specs.Prelude.{◌≡◌, ℕ, ◌^◌, ◌<◌, ◌≤◌}
use Rattle.dream_words.specs.declared.machine.Name.{Name}
use Rattle.dream_words.specs.declared.machine.Name.TheVariants as name
use Rattle.dream_words.specs.Ranges.{AreBytes, AreAnswers}
use Rattle.run_parts.specs.World.{World}

-- Names stand for words, a register or a flag that doesn't exist for 0; memory has bytes; answers are answers.
pub record IsWorld (w : World) : Type 0 where
  pub words : (n : Name) → w.names n < 2 ^ 32
  pub no_register : (n : ℕ) → 8 ≤ n → w.names (name.Reg n) ≡ 0
  pub no_flag : (n : ℕ) → 5 ≤ n → w.names (name.Flag n) ≡ 0
  pub bytes : AreBytes w.mem
  pub answers : AreAnswers w.left
