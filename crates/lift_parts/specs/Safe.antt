-- Words, Conds and statements that are never stuck, whatever the names stand for: every shift in them goes by less than 32.
use Rattle.std.specs.Prelude.{ℕ, nat_lt, Bool, true, false, ◌&&◌, ◌||◌, List, [], ◌∷◌}
use Rattle.c_syntax.specs.declared.syntax.CBin.{CBin}
use Rattle.c_syntax.specs.declared.syntax.CBin.TheVariants as op
use Rattle.c_syntax.specs.declared.syntax.CExpr.{CExpr, CExpr-F, fold-CExpr}
use Rattle.c_syntax.specs.declared.syntax.CCond.{CCond, CCond-F, fold-CCond}
use Rattle.micro_ir.specs.declared.flow.Stmt.{Stmt}
use Rattle.micro_ir.specs.declared.flow.Stmt.TheVariants as stmt
use Rattle.micro_ir.specs.declared.flow.End.{End as BlockEnd}
use Rattle.micro_ir.specs.declared.flow.End.TheVariants as end
use Rattle.micro_ir.specs.declared.flow.Block.{Block}

-- Of a Word: no shift in it can be stuck; its value is below 32, always.
pub record Sure : Type 0 where
  pub safe : Bool
  pub small : Bool

-- A shift is safe where its count is below 32, and `&` with such a word is below 32.
abbrev pub sure_bin : CBin → Sure → Sure → Sure
sure_bin op.Add a b = record { safe = a.safe && b.safe; small = false }
sure_bin op.Sub a b = record { safe = a.safe && b.safe; small = false }
sure_bin op.Mul a b = record { safe = a.safe && b.safe; small = false }
sure_bin op.And a b = record { safe = a.safe && b.safe; small = a.small || b.small }
sure_bin op.Or a b = record { safe = a.safe && b.safe; small = false }
sure_bin op.Xor a b = record { safe = a.safe && b.safe; small = false }
sure_bin op.Shl a b = record { safe = a.safe && (b.safe && b.small); small = false }
sure_bin op.Shr a b = record { safe = a.safe && (b.safe && b.small); small = false }

-- a Word and a Cond, by their parts
abbrev pub sure_at : CExpr-F Bool Sure → Sure
sure_at (CExpr-F.Num n) = record { safe = true; small = nat_lt n 32 }
sure_at (CExpr-F.Name n) = record { safe = true; small = false }
sure_at (CExpr-F.«CExpr::Not» a) = record { safe = a.safe; small = false }
sure_at (CExpr-F.Bin op a b) = sure_bin op a b
sure_at (CExpr-F.Fn1 f a) = record { safe = a.safe; small = false }
sure_at (CExpr-F.Fn2 f a b) = record { safe = a.safe && b.safe; small = false }
sure_at (CExpr-F.Fn3 f a b c) = record { safe = a.safe && (b.safe && c.safe); small = false }
sure_at (CExpr-F.Pick t a b) = record { safe = t && (a.safe && b.safe); small = false }

abbrev pub safe_at : CCond-F Bool Sure → Bool
safe_at (CCond-F.Cmp op a b) = a.safe && b.safe
safe_at (CCond-F.«CCond::Not» t) = t
safe_at (CCond-F.And t u) = t && u
safe_at (CCond-F.Or t u) = t && u

abbrev pub sure_of : CExpr → Sure
sure_of = fold-CExpr Bool Sure safe_at sure_at

-- no shift of the Word can be stuck
abbrev pub is_safe : CExpr → Bool
is_safe e = (sure_of e).safe

-- no shift of the Cond can be stuck
abbrev pub is_safe_cond : CCond → Bool
is_safe_cond = fold-CCond Bool Sure safe_at sure_at

abbrev pub is_safe_stmt : Stmt → Bool
is_safe_stmt (stmt.Set n e) = is_safe e
is_safe_stmt (stmt.Load n width e) = is_safe e
is_safe_stmt (stmt.Store width e f) = is_safe e && is_safe f
is_safe_stmt (stmt.Ext e) = is_safe e
is_safe_stmt (stmt.Trap vector e) = is_safe e

abbrev pub are_safe_stmts : List Stmt → Bool
are_safe_stmts [] = true
are_safe_stmts (s ∷ ss) = is_safe_stmt s && are_safe_stmts ss

-- A safe end. A switch may have no case for a value, so none counts as safe.
abbrev pub is_safe_end : BlockEnd → Bool
is_safe_end (end.Go a) = true
is_safe_end (end.Branch t a b) = is_safe_cond t
is_safe_end (end.Switch e cases) = false
is_safe_end end.Return = true
is_safe_end (end.Leave e) = is_safe e

abbrev pub is_safe_block : Block → Bool
is_safe_block b = are_safe_stmts b.stmts && is_safe_end b.end

-- every node that the end names is below a bound
abbrev pub leads_below : ℕ → BlockEnd → Bool
leads_below nodes (end.Go a) = nat_lt a nodes
leads_below nodes (end.Branch t a b) = nat_lt a nodes && nat_lt b nodes
leads_below nodes (end.Switch e cases) = false
leads_below nodes end.Return = true
leads_below nodes (end.Leave e) = true
