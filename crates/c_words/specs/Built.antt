-- Words and Conds by their parts.
use Rattle.std.specs.Prelude.{ℕ}
use Rattle.dream_words.specs.declared.machine.Name.{Name}
use Rattle.c_syntax.specs.declared.syntax.CBin.{CBin}
use Rattle.c_syntax.specs.declared.syntax.CCmp.{CCmp}
use Rattle.c_syntax.specs.declared.syntax.CFn1.{CFn1}
use Rattle.c_syntax.specs.declared.syntax.CFn2.{CFn2}
use Rattle.c_syntax.specs.declared.syntax.CFn3.{CFn3}
use Rattle.c_syntax.specs.declared.syntax.CExpr.{CExpr, CExpr-F, roll-CExpr}
use Rattle.c_syntax.specs.declared.syntax.CCond.{CCond, CCond-F, roll-CCond}

abbrev pub num : ℕ → CExpr
num n = roll-CExpr (CExpr-F.Num n)

abbrev pub name : Name → CExpr
name n = roll-CExpr (CExpr-F.Name n)

abbrev pub word_not : CExpr → CExpr
word_not a = roll-CExpr (CExpr-F.«CExpr::Not» a)

abbrev pub bin : CBin → CExpr → CExpr → CExpr
bin op a b = roll-CExpr (CExpr-F.Bin op a b)

abbrev pub fn1 : CFn1 → CExpr → CExpr
fn1 f a = roll-CExpr (CExpr-F.Fn1 f a)

abbrev pub fn2 : CFn2 → CExpr → CExpr → CExpr
fn2 f a b = roll-CExpr (CExpr-F.Fn2 f a b)

abbrev pub fn3 : CFn3 → CExpr → CExpr → CExpr → CExpr
fn3 f a b c = roll-CExpr (CExpr-F.Fn3 f a b c)

abbrev pub pick : CCond → CExpr → CExpr → CExpr
pick t a b = roll-CExpr (CExpr-F.Pick t a b)

abbrev pub cmp : CCmp → CExpr → CExpr → CCond
cmp op a b = roll-CCond (CCond-F.Cmp op a b)

abbrev pub cond_not : CCond → CCond
cond_not t = roll-CCond (CCond-F.«CCond::Not» t)

abbrev pub and : CCond → CCond → CCond
and t u = roll-CCond (CCond-F.And t u)

abbrev pub or : CCond → CCond → CCond
or t u = roll-CCond (CCond-F.Or t u)

-- 1 where the condition is true, else 0
abbrev pub word_if : CCond → CExpr
word_if t = pick t (num 1) (num 0)
