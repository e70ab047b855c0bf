-- The names that words, statements and ends of blocks read, and those that statements set.
use Rattle.std.specs.Prelude.{nat_eq, Bool, true, false, ◌||◌}
use Rattle.dream_words.specs.declared.machine.Name.{Name}
use Rattle.dream_words.specs.declared.machine.Name.TheVariants.{Reg, Flag, Fs, Gs, T, B, S}
use Rattle.c_syntax.specs.declared.syntax.CExpr.{CExpr, CExpr-F, fold-CExpr}
use Rattle.c_syntax.specs.declared.syntax.CCond.{CCond, CCond-F, fold-CCond}
use Rattle.micro_ir.specs.declared.flow.Stmt.{Stmt}
use Rattle.micro_ir.specs.declared.flow.Stmt.TheVariants as stmt
use Rattle.micro_ir.specs.declared.flow.End.{End as BlockEnd}
use Rattle.micro_ir.specs.declared.flow.End.TheVariants as end

-- a set of names
abbrev pub NameSet : Type 0
NameSet = Name → Bool

-- two names are one
abbrev pub same_name : Name → NameSet
same_name (Reg a) (Reg b) = nat_eq a b
same_name (Flag a) (Flag b) = nat_eq a b
same_name Fs Fs = true
same_name Gs Gs = true
same_name (T a) (T b) = nat_eq a b
same_name (B a) (B b) = nat_eq a b
same_name (S a) (S b) = nat_eq a b
same_name m n = false

abbrev pub is_register : NameSet
is_register (Reg a) = true
is_register n = false

abbrev pub is_flag : NameSet
is_flag (Flag a) = true
is_flag n = false

-- ---- reads

-- a name stands in a Word, and in a Cond
abbrev pub word_reads_at : CExpr-F NameSet NameSet → NameSet
word_reads_at (CExpr-F.Num x) n = false
word_reads_at (CExpr-F.Name m) n = same_name m n
word_reads_at (CExpr-F.«CExpr::Not» a) n = a n
word_reads_at (CExpr-F.Bin op a b) n = a n || b n
word_reads_at (CExpr-F.Fn1 f a) n = a n
word_reads_at (CExpr-F.Fn2 f a b) n = a n || b n
word_reads_at (CExpr-F.Fn3 f a b c) n = a n || (b n || c n)
word_reads_at (CExpr-F.Pick t a b) n = t n || (a n || b n)

abbrev pub cond_reads_at : CCond-F NameSet NameSet → NameSet
cond_reads_at (CCond-F.Cmp op a b) n = a n || b n
cond_reads_at (CCond-F.«CCond::Not» t) n = t n
cond_reads_at (CCond-F.And t u) n = t n || u n
cond_reads_at (CCond-F.Or t u) n = t n || u n

abbrev pub word_reads : CExpr → NameSet
word_reads = fold-CExpr NameSet NameSet cond_reads_at word_reads_at

abbrev pub cond_reads : CCond → NameSet
cond_reads = fold-CCond NameSet NameSet cond_reads_at word_reads_at

-- A statement reads the names of its words. A call reads the registers too, since it is recorded with them.
abbrev pub stmt_reads : Stmt → NameSet
stmt_reads (stmt.Set m e) n = word_reads e n
stmt_reads (stmt.Load m width e) n = word_reads e n
stmt_reads (stmt.Store width e f) n = word_reads e n || word_reads f n
stmt_reads (stmt.Ext e) n = is_register n || word_reads e n
stmt_reads (stmt.Trap vector e) n = word_reads e n

-- An end reads the names of its condition or word. One that returns or leaves shows the registers.
abbrev pub end_reads : BlockEnd → NameSet
end_reads (end.Go a) n = false
end_reads (end.Branch t a b) n = cond_reads t n
end_reads (end.Switch e cases) n = word_reads e n
end_reads end.Return n = is_register n
end_reads (end.Leave e) n = is_register n || word_reads e n

-- ---- sets

-- A statement sets its name. A call's answer sets the registers and the flags.
abbrev pub stmt_sets : Stmt → NameSet
stmt_sets (stmt.Set m e) n = same_name m n
stmt_sets (stmt.Load m width e) n = same_name m n
stmt_sets (stmt.Store width e f) n = false
stmt_sets (stmt.Ext e) n = is_register n || is_flag n
stmt_sets (stmt.Trap vector e) n = false
