-- When a block has the effect of an instruction.
use Rattle.std.specs.Prelude.{ℕ, List, [], ◌∷◌, slice_get, Option}
use Rattle.dream_words.specs.declared.machine.Flags.{Flags}
use Rattle.run_parts.specs.World.{World}
use Rattle.x86_inst.specs.declared.Inst.{Inst}
use Rattle.x86_model.specs.declared.effect.Effect.{Effect}
use Rattle.x86_model.specs.declared.effect.Go.{Go}
use Rattle.x86_model.specs.declared.effect.Go.TheVariants as go
use Rattle.x86_model.specs.Machine.{State}
use Rattle.x86_model.specs.Leads.{instruction_does, effect_in, after, first_of, refused_read, refused_store}
use Rattle.x86_model.specs.Successors.{successors_of}
use Rattle.micro_ir.specs.declared.flow.Block.{Block}
use Rattle.micro_ir.specs.declared.flow.Stmt.{Stmt}
use Rattle.micro_ir.specs.Run.{enter}
use Rattle.micro_ir.specs.World.{IsWorld}
use Rattle.lift_parts.specs.Stands.{FlagsStand, Stands, state_in}
use Rattle.lift_parts.specs.Lifted.{Matches, through}
use Rattle.lift_parts.specs.Shown.{RunsTo, Faults}

-- From every world that stands for a state, the one block does what the instruction's step does in that state.
pub record HasEffect (x : Inst) (at next : ℕ) (b : Block) : Type 0 where
  pub effect : (w : World) (f : Flags) → IsWorld w → FlagsStand f w.names
      → Matches 1 (successors_of x at next) (instruction_does x at next (state_in w f)) (through 1 (b ∷ []) (enter (slice_get (b ∷ []) 0) w))

-- What statements lead to where the run goes on after the instruction, of which a read may be refused at an address: a world
-- that stands for the state after the effect, or the fault of the first access that is refused. A step that strays frees
-- them once its accesses are made.
abbrev pub LeadsOn : Option ℕ → Go → Effect → State → List Stmt → World → Type 0
LeadsOn bad go.Next e m stmts w = (u : World) × RunsTo (first_of bad (refused_store e m)) stmts w u × Stands (after e m) u
LeadsOn bad go.Stray e m stmts w = Faults (first_of bad (refused_store e m)) stmts w
LeadsOn bad go.Again e m stmts w = ⊥
LeadsOn bad (go.To a) e m stmts w = ⊥
LeadsOn bad (go.CallTo a) e m stmts w = ⊥
LeadsOn bad (go.LeaveTo a) e m stmts w = ⊥
LeadsOn bad go.Return e m stmts w = ⊥
LeadsOn bad (go.Fault v) e m stmts w = ⊥

-- From every world that stands for a state, the statements make the accesses of the instruction in their order, and lead to a
-- world that stands for the state after it.
pub record GoesOn (x : Inst) (next : ℕ) (stmts : List Stmt) : Type 0 where
  pub leads : (w : World) (f : Flags) → IsWorld w → FlagsStand f w.names
      → LeadsOn (refused_read x (state_in w f)) (effect_in x next (state_in w f)).go (effect_in x next (state_in w f)) (state_in w f) stmts w
