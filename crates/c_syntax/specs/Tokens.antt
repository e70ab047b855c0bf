-- The tokens of a function, by the productions of the grammar. Each function has just one list of tokens.
use Rattle.std.specs.Prelude.{ℕ, zero, suc, List, [], ◌∷◌, Option, Some, None}
use Rattle.dream_words.specs.declared.machine.Name.{Name}
use Rattle.dream_words.specs.declared.machine.Name.TheVariants as name
use Rattle.c_syntax.specs.declared.syntax.CExpr.{CExpr, CExpr-F, fold-CExpr}
use Rattle.c_syntax.specs.declared.syntax.CCond.{CCond, CCond-F, fold-CCond}
use Rattle.c_syntax.specs.declared.syntax.CStmt.{CStmt, CStmt-F, fold-CStmt}
use Rattle.c_syntax.specs.declared.syntax.CArm.{CArm, CArm-F, fold-CArm}
use Rattle.c_syntax.specs.declared.syntax.CGroup.{CGroup, CGroup-F, fold-CGroup}
use Rattle.c_syntax.specs.declared.syntax.CFun.{CFun}
use Rattle.c_syntax.specs.declared.token.Token.{Token}
use Rattle.c_syntax.specs.declared.token.Token.TheVariants as t

-- the tokens of a part, in front of those that follow it
abbrev pub Tokens : Type 0
Tokens = List Token → List Token

-- Word: a number, a name, `(~a)`, `(a op b)`, `f(a)`, `f(a, b)`, `f(a, b, c)` or `(c ? a : b)`
abbrev pub word_at : CExpr-F Tokens Tokens → Tokens
word_at (CExpr-F.Num n) r = t.Num n ∷ r
word_at (CExpr-F.Name n) r = t.Name n ∷ r
word_at (CExpr-F.«CExpr::Not» a) r = t.Open ∷ t.Tilde ∷ a (t.Close ∷ r)
word_at (CExpr-F.Bin op a b) r = t.Open ∷ a (t.Op op ∷ b (t.Close ∷ r))
word_at (CExpr-F.Fn1 f a) r = t.Fn1 f ∷ t.Open ∷ a (t.Close ∷ r)
word_at (CExpr-F.Fn2 f a b) r = t.Fn2 f ∷ t.Open ∷ a (t.Comma ∷ b (t.Close ∷ r))
word_at (CExpr-F.Fn3 f a b c) r = t.Fn3 f ∷ t.Open ∷ a (t.Comma ∷ b (t.Comma ∷ c (t.Close ∷ r)))
word_at (CExpr-F.Pick c a b) r = t.Open ∷ c (t.Question ∷ a (t.Colon ∷ b (t.Close ∷ r)))

-- Cond: `(a cmp b)`, `(!c)`, `(c && d)` or `(c || d)`
abbrev pub cond_at : CCond-F Tokens Tokens → Tokens
cond_at (CCond-F.Cmp op a b) r = t.Open ∷ a (t.Compare op ∷ b (t.Close ∷ r))
cond_at (CCond-F.«CCond::Not» c) r = t.Open ∷ t.Bang ∷ c (t.Close ∷ r)
cond_at (CCond-F.And c d) r = t.Open ∷ c (t.Both ∷ d (t.Close ∷ r))
cond_at (CCond-F.Or c d) r = t.Open ∷ c (t.Either ∷ d (t.Close ∷ r))

-- the tokens of a Word and of a Cond
abbrev pub word_tokens : CExpr → Tokens
word_tokens = fold-CExpr Tokens Tokens cond_at word_at

abbrev pub cond_tokens : CCond → Tokens
cond_tokens = fold-CCond Tokens Tokens cond_at word_at

-- parts one after another
abbrev pub all : List Tokens → Tokens
all [] r = r
all (p ∷ ps) r = p (all ps r)

-- Body: statements in braces
abbrev pub body_tokens : List Tokens → Tokens
body_tokens stmts r = t.Begin ∷ all stmts (t.End ∷ r)

-- the arms after the first: each follows an `else`
abbrev pub more_arms : List Tokens → Tokens
more_arms [] r = r
more_arms (a ∷ arms) r = t.Else ∷ a (more_arms arms r)

-- all the arms of an `if`
abbrev pub arms_tokens : List Tokens → Tokens
arms_tokens [] r = r
arms_tokens (a ∷ arms) r = a (more_arms arms r)

-- the last `else`, which may be missing
abbrev pub else_tokens : Option (List Tokens) → Tokens
else_tokens None r = r
else_tokens (Some last) r = t.Else ∷ body_tokens last r

-- the values of a group, each after a `case`
abbrev pub cases_tokens : List ℕ → Tokens
cases_tokens [] r = r
cases_tokens (v ∷ vs) r = t.Case ∷ t.Num v ∷ t.Colon ∷ cases_tokens vs r

-- Stmt: `n = a;`, `n = ld(a);`, `st(a, b);`, `ext(a);`, `trap(v, a);`, `if`, `switch`, `while (1)`, `while (c)`, `do`,
-- `break;` or `return;`
abbrev pub stmt_at : CStmt-F Tokens Tokens Tokens → Tokens
stmt_at (CStmt-F.Set n e) r = t.Name n ∷ t.Assign ∷ word_tokens e (t.Semicolon ∷ r)
stmt_at (CStmt-F.Load n w e) r = t.Name n ∷ t.Assign ∷ t.Ld w ∷ t.Open ∷ word_tokens e (t.Close ∷ t.Semicolon ∷ r)
stmt_at (CStmt-F.Store w e v) r = t.St w ∷ t.Open ∷ word_tokens e (t.Comma ∷ word_tokens v (t.Close ∷ t.Semicolon ∷ r))
stmt_at (CStmt-F.Ext e) r = t.Ext ∷ t.Open ∷ word_tokens e (t.Close ∷ t.Semicolon ∷ r)
stmt_at (CStmt-F.Trap v e) r = t.Trap ∷ t.Open ∷ t.Num v ∷ t.Comma ∷ word_tokens e (t.Close ∷ t.Semicolon ∷ r)
stmt_at (CStmt-F.If arms last) r = arms_tokens arms (else_tokens last r)
stmt_at (CStmt-F.Switch e groups last) r =
    t.Switch ∷ t.Open ∷ word_tokens e (t.Close ∷ t.Begin ∷ all groups (t.Default ∷ t.Colon ∷ body_tokens last (t.Break ∷ t.Semicolon ∷ t.End ∷ r)))
stmt_at (CStmt-F.Loop body) r = t.While ∷ t.Open ∷ t.One ∷ t.Close ∷ body_tokens body r
stmt_at (CStmt-F.While c body) r = t.While ∷ t.Open ∷ cond_tokens c (t.Close ∷ body_tokens body r)
stmt_at (CStmt-F.DoWhile body c) r = t.Do ∷ body_tokens body (t.While ∷ t.Open ∷ cond_tokens c (t.Close ∷ t.Semicolon ∷ r))
stmt_at CStmt-F.Break r = t.Break ∷ t.Semicolon ∷ r
stmt_at CStmt-F.Return r = t.Return ∷ t.Semicolon ∷ r

-- one arm: `if (c)` and its Body
abbrev pub arm_at : CArm-F Tokens Tokens Tokens → Tokens
arm_at a r = t.If ∷ t.Open ∷ cond_tokens a.test (t.Close ∷ body_tokens a.body r)

-- Group: its `case`s, its Body and the `break` that closes it
abbrev pub group_at : CGroup-F Tokens Tokens Tokens → Tokens
group_at g r = cases_tokens g.values (body_tokens g.body (t.Break ∷ t.Semicolon ∷ r))

-- the tokens of a statement, of an arm and of a group
abbrev pub stmt_tokens : CStmt → Tokens
stmt_tokens = fold-CStmt Tokens Tokens Tokens stmt_at arm_at group_at

abbrev pub arm_tokens : CArm → Tokens
arm_tokens = fold-CArm Tokens Tokens Tokens stmt_at arm_at group_at

abbrev pub group_tokens : CGroup → Tokens
group_tokens = fold-CGroup Tokens Tokens Tokens stmt_at arm_at group_at

-- statements one after another
abbrev pub stmts_tokens : List CStmt → Tokens
stmts_tokens [] r = r
stmts_tokens (s ∷ ss) r = stmt_tokens s (stmts_tokens ss r)

-- Decl: the declarations of the first n locals of a kind, from number 0 upwards
abbrev pub decls_tokens : (ℕ → Name) → ℕ → Tokens
decls_tokens kind zero r = r
decls_tokens kind (suc n) r = decls_tokens kind n (t.Uint32 ∷ t.Name (kind n) ∷ t.Assign ∷ t.Zero ∷ t.Semicolon ∷ r)

-- Text, after the include line: its head, the declarations of t, b and s locals, and its statements
abbrev pub fun_tokens : CFun → List Token
fun_tokens f =
    t.Void ∷ t.Function f.address ∷ t.Open ∷ t.Void ∷ t.Close ∷ t.Begin
    ∷ decls_tokens name.T f.temps (decls_tokens name.B f.bools (decls_tokens name.S f.selectors (stmts_tokens f.body (t.End ∷ []))))
