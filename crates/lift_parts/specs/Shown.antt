-- What is known of the names while the statements of a block run: they show what the step begins with.
use Rattle.std.specs.Prelude.{◌≡◌, ℕ, ◌^◌, ◌<◌, ◌≤◌, true, List, Option, Some, None}
use Rattle.dream_words.specs.declared.machine.Name.{Name}
use Rattle.dream_words.specs.declared.machine.Name.TheVariants as name
use Rattle.dream_words.specs.Words.{low_part}
use Rattle.dream_words.specs.declared.outcome.Outcome.TheVariants as outcome
use Rattle.run_parts.specs.Steps.{Next, Halt}
use Rattle.run_parts.specs.World.{Names, World, regs_in}
use Rattle.run_parts.specs.Effects.{allowing}
use Rattle.x86_inst.specs.declared.Size.{Size}
use Rattle.x86_inst.specs.declared.Operand.{Operand}
use Rattle.x86_model.specs.declared.effect.Step.{Step}
use Rattle.x86_model.specs.Operands.{bits_of}
use Rattle.x86_model.specs.Successors.{is_memory}
use Rattle.micro_ir.specs.declared.flow.Stmt.{Stmt}
use Rattle.micro_ir.specs.Run.{stmts_do}

-- names stand for words, and a register that doesn't exist for 0
pub record AreNames (v : Names) : Type 0 where
  pub words : (n : Name) → v n < 2 ^ 32
  pub no_register : (n : ℕ) → 8 ≤ n → v (name.Reg n) ≡ 0

-- the names show the registers and bases of a step
pub record Shows (a : Step) (v : Names) : Type 0 where
  pub regs : regs_in v ≡ a.regs
  pub fs : v name.Fs ≡ a.fs
  pub gs : v name.Gs ≡ a.gs

-- t0 has the first word that the step reads, where the operand is memory
pub record ShowsRead (size : Size) (o : Operand) (a : Step) (v : Names) : Type 0 where
  pub read : is_memory o ≡ true → v (name.T 0) ≡ low_part (bits_of size) a.first

-- statements lead from one world to another
pub record Runs (stmts : List Stmt) (w u : World) : Type 0 where
  pub runs : stmts_do stmts w ≡ Next u

-- Statements lead from one world to another, unless an access of theirs is refused at an address: then they end with its
-- fault, and the memory and the calls are those from which they began.
pub record RunsTo (bad : Option ℕ) (stmts : List Stmt) (w u : World) : Type 0 where
  pub runs : stmts_do stmts w ≡ allowing bad w (Next u)

-- where an access is refused at an address, statements end with its fault; else nothing is said of them
abbrev pub Faults : Option ℕ → List Stmt → World → Type 0
Faults None stmts w = Unit {0}
Faults (Some bad) stmts w = stmts_do stmts w ≡ Halt (outcome.Faulted 14 bad w.mem w.calls)
