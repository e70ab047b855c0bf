-- What a change of a flow keeps.
use Rattle.std.specs.Prelude.{◌≡◌, ℕ, ◌+◌, ◌^◌, ◌<◌, ◌≤◌, zero, suc, List, [], ◌∷◌, length, Some, slice_get}
use Rattle.dream_words.specs.declared.outcome.Start.{Start}
use Rattle.dream_words.specs.declared.outcome.Answer.{Answer}
use Rattle.dream_words.specs.declared.outcome.Outcome.TheVariants as outcome
use Rattle.dream_words.specs.Ranges.{AreWords, AreBytes, AreAnswers}
use Rattle.run_parts.specs.Steps.{To, End, Nowhere}
use Rattle.run_parts.specs.World.{World, start_world}
use Rattle.micro_ir.specs.declared.flow.Stmt.{Stmt}
use Rattle.micro_ir.specs.declared.flow.Stmt.TheVariants as stmt
use Rattle.micro_ir.specs.declared.flow.End.{End as BlockEnd}
use Rattle.micro_ir.specs.declared.flow.End.TheVariants as end
use Rattle.micro_ir.specs.declared.flow.Block.{Block}
use Rattle.micro_ir.specs.declared.flow.Flow.{Flow}
use Rattle.micro_ir.specs.Run.{Arrive, enter, flow_run}
use Rattle.flow_passes.specs.Along.{NeverStuck}
use Rattle.micro_ir.specs.Counts.{stores_of_stmts, calls_of_stmts}

-- a start and answers whose words, bytes and answers are in their ranges
pub record InRange (start : Start) (answers : List Answer) : Type 0 where
  pub regs : AreWords start.regs
  pub fs : start.fs < 2 ^ 32
  pub gs : start.gs < 2 ^ 32
  pub mem : AreBytes start.mem
  pub answered : AreAnswers answers

-- ---- the same blocks

-- the blocks that are entered after a block was come to
abbrev pub then_entered : Arrive → (ℕ → World → List ℕ) → List ℕ
then_entered (To n w) k = k n w
then_entered (End o) k = []
then_entered Nowhere k = []

-- the numbers of the first k blocks that are entered, in order
abbrev pub entered : List Block → ℕ → ℕ → World → List ℕ
entered blocks zero n w = []
entered blocks (suc k) n w = n ∷ then_entered (enter (slice_get blocks n) w) (entered blocks k)

-- From every start and answers, and for each number of blocks in which the old run isn't stuck, the new run is the same, and
-- enters the same blocks in the same order.
pub record KeepsRuns (old new : Flow) : Type 0 where
  pub runs : (start : Start) (answers : List Answer) (k : ℕ) → InRange start answers → (flow_run old start answers k ≡ outcome.Stuck → ⊥)
      → flow_run new start answers k ≡ flow_run old start answers k
  pub enters : (start : Start) (answers : List Answer) (k : ℕ) → InRange start answers → (flow_run old start answers k ≡ outcome.Stuck → ⊥)
      → entered new.blocks k new.entry (start_world start answers) ≡ entered old.blocks k old.entry (start_world start answers)

-- how many loads statements have
abbrev pub loads_of_stmt : Stmt → ℕ
loads_of_stmt (stmt.Set n e) = 0
loads_of_stmt (stmt.Load n width e) = 1
loads_of_stmt (stmt.Store width e f) = 0
loads_of_stmt (stmt.Ext e) = 0
loads_of_stmt (stmt.Trap vector e) = 0

abbrev pub loads_of_stmts : List Stmt → ℕ
loads_of_stmts [] = 0
loads_of_stmts (s ∷ ss) = loads_of_stmt s + loads_of_stmts ss

-- two ends are of one kind, and have the same targets in the same order
abbrev pub EndsAlike : BlockEnd → BlockEnd → Type 0
EndsAlike (end.Go a) (end.Go b) = b ≡ a
EndsAlike (end.Branch t a b) (end.Branch u c d) = (c ≡ a) × (d ≡ b)
EndsAlike (end.Switch e cases) (end.Switch f others) = others ≡ cases
EndsAlike end.Return end.Return = Unit {0}
EndsAlike (end.Leave e) (end.Leave f) = Unit {0}
EndsAlike e f = ⊥

-- A block keeps its address, its end's kind and targets, and how many loads, stores and calls it has.
pub record KeepsBlock (old new : Block) : Type 0 where
  pub at : new.at ≡ old.at
  pub end : EndsAlike old.end new.end
  pub loads : loads_of_stmts new.stmts ≡ loads_of_stmts old.stmts
  pub stores : stores_of_stmts new.stmts ≡ stores_of_stmts old.stmts
  pub calls : calls_of_stmts new.stmts ≡ calls_of_stmts old.stmts

-- A flow keeps its entry, its blocks, and its runs.
pub record Keeps (old new : Flow) : Type 0 where
  pub entry : new.entry ≡ old.entry
  pub count : length new.blocks ≡ length old.blocks
  pub blocks : (n : ℕ) (b c : Block) → slice_get old.blocks n ≡ Some b → slice_get new.blocks n ≡ Some c → KeepsBlock b c
  pub runs : KeepsRuns old new

-- ---- joined blocks

-- Blocks were joined: from a start and answers from which no run of the old flow is stuck, each run of the new one is a run
-- of the old one of at least as many blocks.
pub record JoinsRuns (old new : Flow) : Type 0 where
  pub runs : (start : Start) (answers : List Answer) → NeverStuck (flow_run old start answers) → (k : ℕ)
      → (m : ℕ) × (k ≤ m) × (flow_run new start answers k ≡ flow_run old start answers m)
