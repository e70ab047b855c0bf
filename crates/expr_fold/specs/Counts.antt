-- How often names stand in Words, statements and blocks. The registers that a call or a return shows don't count.
use Rattle.std.specs.Prelude.{ℕ, ◌+◌, List, [], ◌∷◌, if◌then◌else◌}
use Rattle.dream_words.specs.declared.machine.Name.{Name}
use Rattle.c_syntax.specs.declared.syntax.CExpr.{CExpr, CExpr-F, fold-CExpr}
use Rattle.c_syntax.specs.declared.syntax.CCond.{CCond, CCond-F, fold-CCond}
use Rattle.micro_ir.specs.declared.flow.Stmt.{Stmt}
use Rattle.micro_ir.specs.declared.flow.Stmt.TheVariants as stmt
use Rattle.micro_ir.specs.declared.flow.End.{End as BlockEnd}
use Rattle.micro_ir.specs.declared.flow.End.TheVariants as end
use Rattle.micro_ir.specs.declared.flow.Block.{Block}
use Rattle.flow_passes.specs.Uses.{same_name}

-- how often each name stands somewhere
abbrev pub Counts : Type 0
Counts = Name → ℕ

-- a name alone stands there once; any other Word or Cond has the names of its parts
abbrev pub count_in_word_at : CExpr-F Counts Counts → Counts
count_in_word_at (CExpr-F.Num x) n = 0
count_in_word_at (CExpr-F.Name m) n = if same_name m n then 1 else 0
count_in_word_at (CExpr-F.«CExpr::Not» a) n = a n
count_in_word_at (CExpr-F.Bin op a b) n = a n + b n
count_in_word_at (CExpr-F.Fn1 f a) n = a n
count_in_word_at (CExpr-F.Fn2 f a b) n = a n + b n
count_in_word_at (CExpr-F.Fn3 f a b c) n = a n + (b n + c n)
count_in_word_at (CExpr-F.Pick t a b) n = t n + (a n + b n)

abbrev pub count_in_cond_at : CCond-F Counts Counts → Counts
count_in_cond_at (CCond-F.Cmp op a b) n = a n + b n
count_in_cond_at (CCond-F.«CCond::Not» t) n = t n
count_in_cond_at (CCond-F.And t u) n = t n + u n
count_in_cond_at (CCond-F.Or t u) n = t n + u n

-- how often a name stands in a Word, and in a Cond
abbrev pub count_in_word : CExpr → Counts
count_in_word = fold-CExpr Counts Counts count_in_cond_at count_in_word_at

abbrev pub count_in_cond : CCond → Counts
count_in_cond = fold-CCond Counts Counts count_in_cond_at count_in_word_at

-- how often a statement reads a name
abbrev pub reads_of_stmt : Stmt → Counts
reads_of_stmt (stmt.Set m e) n = count_in_word e n
reads_of_stmt (stmt.Load m width e) n = count_in_word e n
reads_of_stmt (stmt.Store width e f) n = count_in_word e n + count_in_word f n
reads_of_stmt (stmt.Ext e) n = count_in_word e n
reads_of_stmt (stmt.Trap vector e) n = count_in_word e n

-- an end
abbrev pub reads_of_end : BlockEnd → Counts
reads_of_end (end.Go a) n = 0
reads_of_end (end.Branch t a b) n = count_in_cond t n
reads_of_end (end.Switch e cases) n = count_in_word e n
reads_of_end end.Return n = 0
reads_of_end (end.Leave e) n = count_in_word e n

-- statements and an end
abbrev pub reads_of_rest : List Stmt → BlockEnd → Counts
reads_of_rest [] e n = reads_of_end e n
reads_of_rest (s ∷ ss) e n = reads_of_stmt s n + reads_of_rest ss e n

-- blocks
abbrev pub reads_of : List Block → Counts
reads_of [] n = 0
reads_of (b ∷ bs) n = reads_of_rest b.stmts b.end n + reads_of bs n
