-- The ranges of what a run is given: words are below 2^32, bytes below 256.
use Rattle.std.specs.Prelude.{ℕ, ◌^◌, ◌<◌, List, [], ◌∷◌}
use Rattle.dream_words.specs.declared.machine.Regs.{Regs}
use Rattle.dream_words.specs.declared.outcome.Answer.{Answer}
use Rattle.dream_words.specs.Memory.{Mem, byte_at}

-- each register is a word
pub record AreWords (r : Regs) : Type 0 where
  pub eax : r.eax < 2 ^ 32
  pub ecx : r.ecx < 2 ^ 32
  pub edx : r.edx < 2 ^ 32
  pub ebx : r.ebx < 2 ^ 32
  pub esp : r.esp < 2 ^ 32
  pub ebp : r.ebp < 2 ^ 32
  pub esi : r.esi < 2 ^ 32
  pub edi : r.edi < 2 ^ 32

abbrev pub AreBytes : Mem → Type 0
AreBytes m = (a : ℕ) → byte_at m a < 256

-- the answers that calls are given: any registers, flags and memory
pub record IsAnswer (a : Answer) : Type 0 where
  pub regs : AreWords a.regs
  pub mem : AreBytes a.mem

abbrev pub AreAnswers : List Answer → Type 0
AreAnswers [] = Unit {0}
AreAnswers (a ∷ rest) = IsAnswer a × AreAnswers rest
