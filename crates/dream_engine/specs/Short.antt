-- When a flow stands for another, in fewer blocks and statements.
use Rattle.std.specs.Prelude.{ℕ, List}
use Rattle.dream_words.specs.declared.outcome.Start.{Start}
use Rattle.dream_words.specs.declared.outcome.Answer.{Answer}
use Rattle.dream_words.specs.declared.outcome.Outcome.{Outcome}
use Rattle.dream_words.specs.Agreement.{Agreeing}
use Rattle.micro_ir.specs.declared.flow.Flow.{Flow}
use Rattle.micro_ir.specs.Rule.{IsGiven}
use Rattle.micro_ir.specs.Run.{flow_run}
use Rattle.flow_passes.specs.Keeps.{InRange}

-- It may be given to what makes a tree of it, and it agrees with each meaning that the other agrees with.
pub record IsShortOf (f g : Flow) : Type 0 where
  pub given : IsGiven g
  pub agrees : (machine : ℕ → Outcome) (start : Start) (answers : List Answer) → InRange start answers
      → Agreeing machine (flow_run f start answers) → Agreeing machine (flow_run g start answers)
