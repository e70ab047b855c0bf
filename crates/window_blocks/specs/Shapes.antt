-- The shapes of a window's two blocks. A local keeps a copy of the index, from before the path.
use Rattle.std.specs.Prelude.{ℕ, Bool, if◌then◌else◌, List, [], ◌∷◌, ◌++◌}
use Rattle.dream_words.specs.declared.machine.Name.TheVariants as name
use Rattle.x86_inst.specs.declared.Operand.{Operand}
use Rattle.x86_inst.specs.declared.Size.{Size}
use Rattle.x86_inst.specs.declared.Size.TheVariants.{W}
use Rattle.c_syntax.specs.declared.syntax.CCond.{CCond}
use Rattle.c_words.specs.Built.{name as named}
use Rattle.micro_ir.specs.declared.flow.Block.{Block}
use Rattle.micro_ir.specs.declared.flow.Case.{Case}
use Rattle.micro_ir.specs.declared.flow.End.{End as BlockEnd}
use Rattle.micro_ir.specs.declared.flow.End.TheVariants as end
use Rattle.micro_ir.specs.declared.flow.Stmt.{Stmt}
use Rattle.micro_ir.specs.declared.flow.Stmt.TheVariants as stmt
use Rattle.lift_parts.specs.Parts.{reads, value_word}
use Rattle.window_steps.specs.Knowledge.{is_above}

-- the end of the first block: to the default where the index is too great, else on
abbrev pub first_end : Bool → CCond → BlockEnd
first_end above t = if above then end.Branch t 2 1 else end.Branch t 1 2

-- the first block: the comparison's statements, the copy of the index, and the branch
abbrev pub first_of : ℕ → Size → Operand → ℕ → ℕ → CCond → List Stmt → Block
first_of a size x condition saved t stmts = record { at = a; stmts = stmts ++ stmt.Set (name.T saved) (value_word size x) ∷ []; end = first_end (is_above condition) t }

-- the statements of the second one: those of the path, and the read of the jump's word
abbrev pub last_stmts : Operand → List Stmt → List Stmt
last_stmts goal path = path ++ reads W goal

-- the second block, which switches over the copy
abbrev pub last_of : ℕ → Operand → ℕ → List Stmt → List Case → Block
last_of a goal saved path cases = record { at = a; stmts = last_stmts goal path; end = end.Switch (named (name.T saved)) cases }
