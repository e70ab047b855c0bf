-- Which names are read from a place of a flow on.
use Rattle.std.specs.Prelude.{◌≡◌, ℕ, suc, not, List, [], ◌∷◌, Some, slice_get, drop, Contains, IsTrue}
use Rattle.dream_words.specs.declared.machine.Name.{Name}
use Rattle.dream_words.specs.declared.machine.Name.TheVariants.{Flag}
use Rattle.c_syntax.specs.declared.syntax.CExpr.{CExpr}
use Rattle.micro_ir.specs.declared.flow.Stmt.{Stmt}
use Rattle.micro_ir.specs.declared.flow.Stmt.TheVariants as stmt
use Rattle.micro_ir.specs.declared.flow.End.{End as BlockEnd}
use Rattle.micro_ir.specs.declared.flow.Block.{Block}
use Rattle.micro_ir.specs.declared.flow.Flow.{Flow}
use Rattle.micro_ir.specs.Checked.{nodes_of}
use Rattle.flow_passes.specs.Uses.{stmt_reads, stmt_sets, end_reads}

-- On some path from a place on, a name is read before it is given a new value. The place is before some statements of a
-- block and its end.
pub data IsReadFrom (blocks : List Block) (n : Name) : List Stmt → BlockEnd → Type 0 where
  -- the next statement reads it
  here : (s : Stmt) (ss : List Stmt) (e : BlockEnd) → IsTrue (stmt_reads s n) → IsReadFrom blocks n (s ∷ ss) e
  -- the next statement doesn't set it, and it is read from there on
  later : (s : Stmt) (ss : List Stmt) (e : BlockEnd) → IsTrue (not (stmt_sets s n)) → IsReadFrom blocks n ss e → IsReadFrom blocks n (s ∷ ss) e
  -- no statement is left, and the end reads it
  last : (e : BlockEnd) → IsTrue (end_reads e n) → IsReadFrom blocks n [] e
  -- no statement is left, and it is read from the beginning of a block on to which the end leads
  across : (e : BlockEnd) (k : ℕ) (b : Block) → Contains (nodes_of e) k → slice_get blocks k ≡ Some b → IsReadFrom blocks n b.stmts b.end → IsReadFrom blocks n [] e

-- Each flag that a Set assigns is read on some path after it, before a Set, a Load or an Ext gives it a new value.
abbrev pub FlagsAreRead : Flow → Type 0
FlagsAreRead f = (i j k : ℕ) (b : Block) (e : CExpr) → slice_get f.blocks i ≡ Some b → slice_get b.stmts j ≡ Some (stmt.Set (Flag k) e) → IsReadFrom f.blocks (Flag k) (drop (suc j) b.stmts) b.end
