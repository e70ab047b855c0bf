-- Where a run of the machine stands, where a step leads, and how a run ends.
use Rattle.std.specs.Prelude.{ℕ, List}
use Rattle.dream_words.specs.declared.machine.Regs.{Regs}
use Rattle.dream_words.specs.declared.machine.Flags.{Flags}
use Rattle.dream_words.specs.declared.pages.Pages.{Pages}
use Rattle.dream_words.specs.declared.outcome.Answer.{Answer}
use Rattle.dream_words.specs.declared.outcome.Call.{Call}
use Rattle.dream_words.specs.declared.outcome.Outcome.{Outcome}
use Rattle.dream_words.specs.declared.outcome.Outcome.TheVariants as outcome
use Rattle.dream_words.specs.Memory.{Mem}

-- what a step leads to: an address, the run's end, a stray, or an address at which there is no instruction
pub data Onward (M E : Type 0) : Type 0 where
  At : ℕ → M → Onward M E
  Finished : E → Onward M E
  Strays : Onward M E
  Blank : Onward M E

-- registers, flags, the bases of FS and GS, memory, the pages that may be accessed, the answers that are left, and the
-- calls so far
pub record State : Type 0 where
  pub regs : Regs
  pub flags : Flags
  pub fs : ℕ
  pub gs : ℕ
  pub mem : Mem
  pub pages : Pages
  pub left : List Answer
  pub calls : List Call

-- how a run ends: it returns, it faults, with a vector and an address, or it asks, where no answer is left
pub data Ending : Type 0 where
  Returned : Regs → Mem → List Call → Ending
  Faulted : ℕ → ℕ → Mem → List Call → Ending
  Asking : List Call → Ending

abbrev pub ending_outcome : Ending → Outcome
ending_outcome (Returned r m calls) = outcome.Returned r m calls
ending_outcome (Faulted v at m calls) = outcome.Faulted v at m calls
ending_outcome (Asking calls) = outcome.Asking calls
