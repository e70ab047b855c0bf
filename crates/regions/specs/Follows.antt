-- When a tree follows a flow.
use Rattle.std.specs.Prelude.{ℕ, List}
use Rattle.dream_words.specs.declared.outcome.Start.{Start}
use Rattle.dream_words.specs.declared.outcome.Answer.{Answer}
use Rattle.dream_words.specs.declared.outcome.Outcome.{Outcome}
use Rattle.dream_words.specs.Agreement.{Agreeing}
use Rattle.flow_passes.specs.Along.{NeverStuck, GoesAlong}
use Rattle.micro_ir.specs.declared.flow.Flow.{Flow}
use Rattle.micro_ir.specs.Run.{flow_run}
use Rattle.guarded.specs.declared.tree.Tree.{Tree}
use Rattle.guarded.specs.Run.{tree_run}

-- A tree follows a flow: from every start and answers from which no run of the flow is stuck, its runs go along.
pub record Follows (f : Flow) (t : Tree) : Type 0 where
  pub from : (start : Start) (answers : List Answer) → NeverStuck (flow_run f start answers) → GoesAlong (flow_run f start answers) (tree_run t start answers)

-- What a flow agrees with, a tree that follows it agrees with. So the tree isn't stuck either.
abbrev pub FollowingAgrees : Type 0
FollowingAgrees = (machine : ℕ → Outcome) (f : Flow) (t : Tree) (start : Start) (answers : List Answer)
    → Agreeing machine (flow_run f start answers) → Follows f t → Agreeing machine (tree_run t start answers)
