-- A plan that the check lets through follows its flow.
use Rattle.std.specs.Prelude.{◌≡◌, ℕ, zero, suc, ◌+◌, Bool, false, true, List, [], ◌∷◌, Option, Some, None, slice_get, ◌≤◌, IsTrue}
use Rattle.dream_words.specs.Words.{bit_of}
use Rattle.dream_words.specs.declared.outcome.Start.{Start}
use Rattle.dream_words.specs.declared.outcome.Answer.{Answer}
use Rattle.dream_words.specs.Same.{IsEnded}
use Rattle.run_parts.specs.Steps.{To, End, Nowhere}
use Rattle.run_parts.specs.World.{World, start_world}
use Rattle.micro_ir.specs.declared.flow.Block.{Block}
use Rattle.micro_ir.specs.Run.{Arrive, enter, flow_run}
use Rattle.guarded.specs.declared.tree.Tree.{Tree}
use Rattle.guarded.specs.Run.{tree_run}
use Rattle.guarded.specs.Formed.{IsWellFormed}
use Rattle.flow_passes.specs.Along.{NeverStuck}
use Rattle.dream_words.specs.declared.machine.Name.{Name}
use Rattle.micro_ir.specs.declared.flow.Flow.{Flow}
use Rattle.micro_ir.specs.Rule.{KeepsRule}
use Rattle.regions.specs.Follows.{Follows}
use Rattle.flow_plans.specs.declared.plan.Value.{Value}
use Rattle.flow_plans.specs.declared.plan.Entry.{Entry}
use Rattle.flow_plans.specs.declared.plan.Plan.{Plan}
use Rattle.flow_plans.specs.Known.{value_of, entry_of}
use Rattle.flow_plans.specs.Checked.{checked}
use Rattle.flow_plans.specs.Emitted.{emitted}
use Rattle.flow_plans.specs.Fitting.{fits, nest}

-- these variables are 0, as all locals are at the start
abbrev pub zeros : List Name → List Value
zeros [] = []
zeros (v ∷ vs) = value_of v 0 ∷ zeros vs

-- the entry of a flow is about to be entered
abbrev pub at_start : Flow → List Name → List Entry
at_start f vs = entry_of false f.entry (zeros vs) ∷ []

-- nothing may be entered behind a plan
abbrev pub is_over : Option (List Entry) → Bool
is_over None = false
is_over (Some []) = true
is_over (Some (e ∷ rest)) = false

-- A plan of the whole flow passes: the check begins at the flow's entry, and nothing may be entered behind the plan.
abbrev pub passes : Flow → (ℕ → Bool) → List Name → Plan → Bool
passes f head vs p = is_over (checked f.blocks head p [] (at_start f vs))

-- A plan that passes gives a tree that follows the flow.
abbrev pub PlansFollow : Type 0
PlansFollow = (f : Flow) (head : ℕ → Bool) (vs : List Name) (p : Plan) → KeepsRule f → IsTrue (passes f head vs p) → Follows f (emitted f.blocks p)

-- how many of the first k blocks that a flow enters are heads
abbrev pub count_on : Arrive → (ℕ → World → ℕ) → ℕ
count_on (To n w) f = f n w
count_on (End o) f = 0
count_on Nowhere f = 0

abbrev pub heads_entered : List Block → (ℕ → Bool) → ℕ → ℕ → World → ℕ
heads_entered blocks head zero n w = 0
heads_entered blocks head (suc k) n w = bit_of (head n) + count_on (enter (slice_get blocks n) w) (heads_entered blocks head k)

-- Where a run of the flow has ended, the tree has ended so in as many loop turns as there are heads among the blocks that
-- were entered.
abbrev pub TurnsAtHeads : Flow → (ℕ → Bool) → Tree → Type 0
TurnsAtHeads f head t = (start : Start) (answers : List Answer) → NeverStuck (flow_run f start answers) → (k : ℕ) → IsEnded (flow_run f start answers k)
    → tree_run t start answers (heads_entered f.blocks head k f.entry (start_world start answers)) ≡ flow_run f start answers k

-- The tree of a plan that passes makes no more turns than that.
abbrev pub PlansTurn : Type 0
PlansTurn = (f : Flow) (head : ℕ → Bool) (vs : List Name) (p : Plan) → KeepsRule f → IsTrue (passes f head vs p) → TurnsAtHeads f head (emitted f.blocks p)

-- The tree of a plan that fits is well formed.
abbrev pub PlansForm : Type 0
PlansForm = (f : Flow) (p : Plan) → KeepsRule f → IsTrue (fits p false) → nest p ≤ 512 → IsWellFormed (emitted f.blocks p)

-- A tree of a flow: well formed, it follows the flow, and it makes no more turns than heads are entered.
pub record IsTreeOf (f : Flow) (head : ℕ → Bool) (t : Tree) : Type 0 where
  pub formed : IsWellFormed t
  pub follows : Follows f t
  pub turns : TurnsAtHeads f head t
