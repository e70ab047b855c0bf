-- The run of a flow: block after block.
use Rattle.std.specs.Prelude.{ℕ, zero, suc, nat_eq, Bool, true, false, List, [], ◌∷◌, Option, Some, None, map, slice_get, if◌then◌else◌}
use Rattle.dream_words.specs.declared.outcome.Start.{Start}
use Rattle.dream_words.specs.declared.outcome.Answer.{Answer}
use Rattle.dream_words.specs.declared.outcome.Outcome.{Outcome}
use Rattle.dream_words.specs.declared.outcome.Outcome.TheVariants as outcome
use Rattle.run_parts.specs.Steps.{Next, Halt, Jam, Arrive as AnyArrive, To, End, Nowhere, do_all, arrive}
use Rattle.run_parts.specs.World.{World, start_world, returned}
use Rattle.run_parts.specs.Effects.{Doing}
use Rattle.c_syntax.specs.Run.{word_in, holds, does_set, does_load, does_store, does_ext, does_trap}
use Rattle.micro_ir.specs.declared.flow.Case.{Case}
use Rattle.micro_ir.specs.declared.flow.Stmt.{Stmt}
use Rattle.micro_ir.specs.declared.flow.Stmt.TheVariants as stmt
use Rattle.micro_ir.specs.declared.flow.End.{End as BlockEnd}
use Rattle.micro_ir.specs.declared.flow.End.TheVariants as end
use Rattle.micro_ir.specs.declared.flow.Block.{Block}
use Rattle.micro_ir.specs.declared.flow.Flow.{Flow}

-- where a block leads: to the block of a number, to the run's end, or it is stuck
abbrev pub Arrive : Type 0
Arrive = AnyArrive World Outcome

-- a simple statement, as the C statement of the same name
abbrev pub stmt_does : Stmt → World → Doing
stmt_does (stmt.Set n e) = does_set n e
stmt_does (stmt.Load n width e) = does_load n width e
stmt_does (stmt.Store width e f) = does_store width e f
stmt_does (stmt.Ext e) = does_ext e
stmt_does (stmt.Trap vector e) = does_trap vector e

-- statements one after another
abbrev pub stmts_do : List Stmt → World → Doing
stmts_do stmts = do_all (map stmt_does stmts)

-- to one of two blocks, by a test; stuck where the test is
abbrev pub branch : Option Bool → ℕ → ℕ → World → Arrive
branch None a b w = Nowhere
branch (Some true) a b w = To a w
branch (Some false) a b w = To b w

-- to the block of the first case that has the value
abbrev pub first_case : List Case → ℕ → World → Arrive
first_case [] x w = Nowhere
first_case (c ∷ cases) x w = if nat_eq x c.value then To c.to w else first_case cases x w

-- by a word's value; stuck where the word is
abbrev pub by_value : Option ℕ → List Case → World → Arrive
by_value None cases w = Nowhere
by_value (Some x) cases w = first_case cases x w

-- a call whose answer is the returned state
abbrev pub left_by : Doing → Arrive
left_by (Next w) = End (returned w)
left_by (Halt o) = End o
left_by Jam = Nowhere

-- where the end of a block leads
abbrev pub end_leads : BlockEnd → World → Arrive
end_leads (end.Go a) w = To a w
end_leads (end.Branch t a b) w = branch (holds t w) a b w
end_leads (end.Switch e cases) w = by_value (word_in e w) cases w
end_leads end.Return w = End (returned w)
end_leads (end.Leave e) w = left_by (does_ext e w)

-- where a block leads: its statements are done, and then its end says
abbrev pub block_leads : Block → World → Arrive
block_leads b w = arrive (stmts_do b.stmts w) (end_leads b.end)

-- the block of a number; nowhere where there is none
abbrev pub enter : Option Block → World → Arrive
enter None w = Nowhere
enter (Some b) w = block_leads b w

-- what comes after a block was come to
abbrev pub onward : Arrive → (ℕ → World → Arrive) → Arrive
onward (To n w) k = k n w
onward (End o) k = End o
onward Nowhere k = Nowhere

-- at most so many blocks, from the block of a number on
abbrev pub walk : List Block → ℕ → ℕ → World → Arrive
walk blocks zero n w = To n w
walk blocks (suc k) n w = onward (enter (slice_get blocks n) w) (walk blocks k)

-- A run that has come to a block goes on, and one that leads nowhere is stuck.
abbrev pub outcome_of : Arrive → Outcome
outcome_of (To n w) = outcome.Going w.calls
outcome_of (End o) = o
outcome_of Nowhere = outcome.Stuck

-- The run of a flow, which enters at most k blocks.
abbrev pub flow_run : Flow → Start → List Answer → ℕ → Outcome
flow_run f start answers k = outcome_of (walk f.blocks k f.entry (start_world start answers))
