-- The parts of a window: what it compares, its condition, and the operand of its jump.
use Rattle.std.specs.Prelude.{ℕ, List, Option, Some, None}
use Rattle.elf_image.specs.declared.image.Segment.{Segment}
use Rattle.elf_image.specs.declared.range.Range.{Range}
use Rattle.x86_inst.specs.declared.AluOp.TheVariants.{Cmp}
use Rattle.x86_inst.specs.declared.Cond.{Cond}
use Rattle.x86_inst.specs.declared.Operand.{Operand}
use Rattle.x86_inst.specs.declared.Operand.TheVariants as o
use Rattle.x86_inst.specs.declared.Inst.{Inst}
use Rattle.x86_inst.specs.declared.Inst.TheVariants as i
use Rattle.jump_tables.specs.declared.table.TableWindow.{TableWindow}
use Rattle.jump_tables.specs.Window.{IsWindow}
use Rattle.lift_window.specs.declared.parts.Compared.{Compared}
use Rattle.lift_window.specs.declared.parts.Parts.{Parts}

-- what a comparison with a number compares
abbrev pub compared_in : Inst → Option Compared
compared_in (i.Alu Cmp size x (o.Imm k)) = Some (record { size = size; index = x; bound = k })
compared_in _ = None

-- the condition of a branch
abbrev pub condition_in : Inst → Option Cond
condition_in (i.Jcc c distance) = Some c
condition_in _ = None

-- the operand of a jump by a word
abbrev pub goal_in : Inst → Option Operand
goal_in (i.JmpTo p) = Some p
goal_in _ = None

abbrev pub joined : Option Compared → Option Cond → Option Operand → Option Parts
joined (Some a) (Some b) (Some c) = Some (record { compared = a; condition = b; goal = c })
joined (Some a) (Some b) None = None
joined (Some a) None c = None
joined None b c = None

-- the parts in three instructions
abbrev pub parts_in : Inst → Inst → Inst → Option Parts
parts_in compare branch jump = joined (compared_in compare) (condition_in branch) (goal_in jump)

-- the parts of a window
abbrev pub parts_of : {m : List Segment} → {r : Range} → {a : ℕ} → {w : TableWindow} → IsWindow m r a w → Parts
parts_of win = record {
  compared = record { size = win.index.size; index = win.index.operand; bound = win.bound };
  condition = win.condition;
  goal = win.goal;
}
