-- Sets of temporaries that stand directly before the only read.
use Rattle.std.specs.Prelude.{◌≡◌, ℕ, ◌+◌, false, List, [], ◌∷◌, length, Some, slice_get}
use Rattle.dream_words.specs.declared.machine.Name.TheVariants as name
use Rattle.c_syntax.specs.declared.syntax.CExpr.{CExpr}
use Rattle.micro_ir.specs.declared.flow.Stmt.{Stmt}
use Rattle.micro_ir.specs.declared.flow.Stmt.TheVariants as stmt
use Rattle.micro_ir.specs.declared.flow.Block.{Block}
use Rattle.micro_ir.specs.declared.flow.Flow.{Flow}
use Rattle.expr_fold.specs.declared.delayed.Delayed.{Delayed}
use Rattle.expr_fold.specs.Placed.{placed_stmt, placed_end}
use Rattle.expr_fold.specs.Fits.{stmt_fits}
use Rattle.expr_fold.specs.Ends.{end_fits}
use Rattle.expr_fold.specs.Counts.{reads_of_stmt, reads_of_end, reads_of}

-- a word for the place of a temporary
abbrev pub for_temporary : ℕ → CExpr → List Delayed
for_temporary t e = (record { name = name.T t; word = e }) ∷ []

-- No Set of a temporary stands directly before the statement or the end that holds the only read of it in the flow, but
-- where that statement or end would nest past 64 with the word in the place of the temporary.
pub record NoneStandsDirectlyBefore (f : Flow) : Type 0 where
  -- the next statement of the block
  pub before_stmt : (k i t : ℕ) (b : Block) (e : CExpr) (s : Stmt) → slice_get f.blocks k ≡ Some b → slice_get b.stmts i ≡ Some (stmt.Set (name.T t) e) → slice_get b.stmts (i + 1) ≡ Some s
      → reads_of_stmt s (name.T t) ≡ 1 → reads_of f.blocks (name.T t) ≡ 1 → stmt_fits (placed_stmt (for_temporary t e) s) ≡ false
  -- the end, where the Set is the block's last statement
  pub before_end : (k i t : ℕ) (b : Block) (e : CExpr) → slice_get f.blocks k ≡ Some b → slice_get b.stmts i ≡ Some (stmt.Set (name.T t) e) → i + 1 ≡ length b.stmts
      → reads_of_end b.end (name.T t) ≡ 1 → reads_of f.blocks (name.T t) ≡ 1 → end_fits (placed_end (for_temporary t e) b.end) ≡ false
