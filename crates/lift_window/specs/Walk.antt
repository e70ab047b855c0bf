-- Statements that are put at the end along the path of a window.
use Rattle.std.specs.Prelude.{◌≡◌, ℕ, suc, ◌≤◌, Bool, true, false, List, [], ◌∷◌, ◌++◌, length}
use Rattle.elf_image.specs.declared.image.Segment.{Segment}
use Rattle.elf_image.specs.declared.range.Range.{Range}
use Rattle.x86_inst.specs.declared.Operand.{Operand}
use Rattle.x86_inst.specs.declared.Inst.{Inst}
use Rattle.x86_inst.specs.declared.Inst.TheVariants as i
use Rattle.x86_formed.specs.Formed.{HasSpelling}
use Rattle.machine.specs.Code.{BeginsAt}
use Rattle.micro_ir.specs.declared.flow.Block.{Block}
use Rattle.micro_ir.specs.declared.flow.Stmt.{Stmt}
use Rattle.lift_parts.specs.Lifted.{AreBlocksOf}
use Rattle.jump_tables.specs.declared.table.TableWindow.{TableWindow}
use Rattle.jump_tables.specs.Forms.{is_on_path}
use Rattle.jump_tables.specs.Window.{IsPath, IsWindow}
use Rattle.window_blocks.specs.Path.{LiftedPath}

-- the instruction jumps by a word
abbrev pub is_word_jump : Inst → Bool
is_word_jump (i.JmpTo p) = true
is_word_jump _ = false

-- If an instruction may stand on a path and is spelled, the statements of its block are put at the end.
abbrev pub IsPut : Inst → ℕ → ℕ → List Stmt → List Stmt → Type 0
IsPut x at next old new = is_on_path x ≡ true → HasSpelling x → (b : Block) × AreBlocksOf x at next (b ∷ []) × (new ≡ old ++ b.stmts)

-- a jump by a word begins at an address
pub record JumpsAt (m : List Segment) (r : Range) (a : ℕ) : Type 0 where
  pub goal : Operand
  pub size : ℕ
  pub begins : BeginsAt m r a (i.JmpTo goal) size

-- Of the instructions on a path some are lifted, up to an address, and at most so many are left.
pub record IsWalked (m : List Segment) (r : Range) (from to : ℕ) (insts : List Inst) (left at : ℕ) (stmts : List Stmt) : Type 0 where
  pub done : List Inst
  pub rest : List Inst
  pub all : done ++ rest ≡ insts
  pub lifted : LiftedPath m r from at done stmts
  pub path : IsPath m r to at rest
  pub few : length rest ≤ left

-- One step lifts one more, until none is left.
abbrev pub IsStepped : List Segment → Range → ℕ → List Stmt → List Stmt → ℕ → Type 0
IsStepped m r at old new next =
    (from to : ℕ) (insts : List Inst) (left : ℕ) → JumpsAt m r to → IsWalked m r from to insts (suc left) at old → IsWalked m r from to insts left next new

-- The statements are those of the path of the window, wherever it stands.
abbrev pub IsPathLifted : List Segment → Range → TableWindow → List Stmt → Type 0
IsPathLifted m r w stmts = (a : ℕ) (win : IsWindow m r a w) → LiftedPath m r w.path w.jump win.insts stmts
