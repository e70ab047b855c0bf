-- The statements of instructions one after another, from one address to another.
use Rattle.std.specs.Prelude.{◌≡◌, ℕ, true, List, [], ◌∷◌, ◌++◌}
use Rattle.elf_image.specs.declared.image.Segment.{Segment}
use Rattle.elf_image.specs.declared.range.Range.{Range}
use Rattle.x86_inst.specs.declared.Inst.{Inst}
use Rattle.machine.specs.Code.{BeginsAt}
use Rattle.micro_ir.specs.declared.flow.Block.{Block}
use Rattle.micro_ir.specs.declared.flow.Stmt.{Stmt}
use Rattle.lift_parts.specs.Lifted.{AreBlocksOf}
use Rattle.jump_tables.specs.Forms.{is_on_path}
use Rattle.jump_tables.specs.Window.{next_of}

-- Instructions of a path lead from an address to another one, and the statements are those of their blocks in order.
pub data LiftedPath (m : List Segment) (r : Range) (from : ℕ) : ℕ → List Inst → List Stmt → Type 0 where
  none : LiftedPath m r from from [] []
  more : (at size : ℕ) (insts : List Inst) (inst : Inst) (stmts : List Stmt) (b : Block) → LiftedPath m r from at insts stmts → BeginsAt m r at inst size
      → is_on_path inst ≡ true → AreBlocksOf inst at (next_of at size) (b ∷ []) → LiftedPath m r from (next_of at size) (insts ++ inst ∷ []) (stmts ++ b.stmts)
