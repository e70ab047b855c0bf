-- The two lines of `run`: what the machine's run tells, and what the C's does.
use Rattle.std.specs.Prelude.{◌≡◌, ℕ, ◌*◌, List, [], ◌++◌, Option}
use Rattle.elf_image.specs.declared.image.Segment.{Segment}
use Rattle.elf_image.specs.declared.range.Range.{Range}
use Rattle.dream_words.specs.declared.outcome.Start.{Start}
use Rattle.x86_inst.specs.declared.Inst.{Inst}
use Rattle.machine.specs.Code.{Decodes}
use Rattle.machine.specs.Run.{machine_run}
use Rattle.c_syntax.specs.declared.syntax.CFun.{CFun}
use Rattle.c_syntax.specs.Run.{c_run}
use Rattle.run_lines.specs.Lines.{line_of}
use Rattle.run_lines.specs.StartWords.{Given}
use Rattle.run_lines.specs.Starts.{IsStartOf}
use Rattle.dream_engine.specs.declared.form.Form.TheVariants.{Structured}
use Rattle.dream_engine.specs.Agreement.{IsFunctionOf}

-- The machine's line, after at most n steps from the start with no answers, and the C's, after at most 2 n loop turns.
abbrev pub two_lines : List Segment → Range → (ℕ → Option (Inst × ℕ)) → CFun → Start → ℕ → List ℕ
two_lines m r decoded f start n = line_of (machine_run m r decoded start [] n) start.mem ++ line_of (c_run f start [] (2 * n)) start.mem

-- The text has these two lines, of a function of the range and of the start that the words give.
pub record IsRunText (n : ℕ) (given : Given) (m : List Segment) (r : Range) (text : List ℕ) : Type 0 where
  pub function : CFun
  pub is_function : IsFunctionOf Structured m r function
  pub start : Start
  pub is_start : IsStartOf m given start
  pub lines : (decoded : ℕ → Option (Inst × ℕ)) → Decodes m r decoded → text ≡ two_lines m r decoded function start n
