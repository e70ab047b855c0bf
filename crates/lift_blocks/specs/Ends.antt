-- How a block goes on after its statements.
use Rattle.std.specs.Prelude.{ℕ, List}
use Rattle.c_syntax.specs.declared.syntax.CCond.{CCond}
use Rattle.micro_ir.specs.declared.flow.Stmt.{Stmt}
use Rattle.micro_ir.specs.declared.flow.End.TheVariants as end
use Rattle.micro_ir.specs.declared.flow.Block.{Block}

-- statements, and then on to the first successor
abbrev pub goes_on : ℕ → List Stmt → Block
goes_on at stmts = record { at = at; stmts = stmts; end = end.Go 1 }

-- statements, and then to the target where the condition is true, else on
abbrev pub branches : ℕ → List Stmt → CCond → Block
branches at stmts t = record { at = at; stmts = stmts; end = end.Branch t 1 2 }

-- statements, and then a return
abbrev pub returns : ℕ → List Stmt → Block
returns at stmts = record { at = at; stmts = stmts; end = end.Return }
