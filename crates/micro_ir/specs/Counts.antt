-- How many statements of a kind the blocks of a flow have.
use Rattle.std.specs.Prelude.{ℕ, ◌+◌, List, [], ◌∷◌}
use Rattle.micro_ir.specs.declared.flow.Stmt.{Stmt}
use Rattle.micro_ir.specs.declared.flow.Stmt.TheVariants as stmt
use Rattle.micro_ir.specs.declared.flow.End.{End as BlockEnd}
use Rattle.micro_ir.specs.declared.flow.End.TheVariants as end
use Rattle.micro_ir.specs.declared.flow.Block.{Block}

-- stores
abbrev pub stores_of_stmt : Stmt → ℕ
stores_of_stmt (stmt.Set n e) = 0
stores_of_stmt (stmt.Load n width e) = 0
stores_of_stmt (stmt.Store width e f) = 1
stores_of_stmt (stmt.Ext e) = 0
stores_of_stmt (stmt.Trap vector e) = 0

abbrev pub stores_of_stmts : List Stmt → ℕ
stores_of_stmts [] = 0
stores_of_stmts (s ∷ ss) = stores_of_stmt s + stores_of_stmts ss

abbrev pub stores_of : List Block → ℕ
stores_of [] = 0
stores_of (b ∷ bs) = stores_of_stmts b.stmts + stores_of bs

-- calls: an end that leaves counts as one
abbrev pub calls_of_stmt : Stmt → ℕ
calls_of_stmt (stmt.Set n e) = 0
calls_of_stmt (stmt.Load n width e) = 0
calls_of_stmt (stmt.Store width e f) = 0
calls_of_stmt (stmt.Ext e) = 1
calls_of_stmt (stmt.Trap vector e) = 0

abbrev pub calls_of_stmts : List Stmt → ℕ
calls_of_stmts [] = 0
calls_of_stmts (s ∷ ss) = calls_of_stmt s + calls_of_stmts ss

abbrev pub calls_of_end : BlockEnd → ℕ
calls_of_end (end.Go a) = 0
calls_of_end (end.Branch t a b) = 0
calls_of_end (end.Switch e cases) = 0
calls_of_end end.Return = 0
calls_of_end (end.Leave e) = 1

abbrev pub calls_of : List Block → ℕ
calls_of [] = 0
calls_of (b ∷ bs) = calls_of_stmts b.stmts + (calls_of_end b.end + calls_of bs)
