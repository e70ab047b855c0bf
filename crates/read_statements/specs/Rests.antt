-- With which tokens a function that is being read goes on. This shares nothing with the reading of a token.
use Rattle.std.specs.Prelude.{◌≡◌, ◌⊎◌, ℕ, ◌-◌, ◌^◌, ◌<◌, ◌≤◌, Bool, true, false, List, [], ◌∷◌, ◌++◌, Option, Some, None, map}
use Rattle.dream_words.specs.declared.machine.Name.{Name}
use Rattle.dream_words.specs.declared.machine.Width.{Width}
use Rattle.run_parts.specs.Parts.{has}
use Rattle.c_syntax.specs.declared.syntax.CExpr.{CExpr}
use Rattle.c_syntax.specs.declared.syntax.CStmt.{CStmt, CStmt-F, roll-CStmt}
use Rattle.c_syntax.specs.declared.syntax.CArm.{CArm, roll-CArm}
use Rattle.c_syntax.specs.declared.syntax.CGroup.{CGroup}
use Rattle.c_syntax.specs.declared.syntax.CFun.{CFun}
use Rattle.c_syntax.specs.declared.token.Token.{Token}
use Rattle.c_syntax.specs.declared.token.Token.TheVariants as tok
use Rattle.c_syntax.specs.Tokens.{Tokens, all, body_tokens, more_arms, cases_tokens, stmt_tokens, arm_tokens, group_tokens}
use Rattle.c_syntax.specs.Depth.{stmt_depth, arm_depth, group_depth}
use Rattle.c_syntax.specs.Formed.{are_distinct, are_words, groups_values, stmt_allowed, arm_allowed, group_allowed}
use Rattle.read_words.specs.declared.open.Locals.{Locals}
use Rattle.read_words.specs.declared.open.Wanted.TheVariants as want
use Rattle.read_words.specs.Turns.{scope}
use Rattle.read_words.specs.Rests as words
use Rattle.read_words.specs.Rests.{Follows, Wants, WordThen, CondThen}
use Rattle.read_statements.specs.declared.open.Head.{Head}
use Rattle.read_statements.specs.declared.open.Head.TheVariants as head
use Rattle.read_statements.specs.declared.open.Decl.{Decl}
use Rattle.read_statements.specs.declared.open.Decl.TheVariants as decl
use Rattle.read_statements.specs.declared.open.Use.{Use}
use Rattle.read_statements.specs.declared.open.Use.TheVariants as use'
use Rattle.read_statements.specs.declared.open.Switching.{Switching}
use Rattle.read_statements.specs.declared.open.Nest.{Nest}
use Rattle.read_statements.specs.declared.open.Nest.TheVariants as nest
use Rattle.read_statements.specs.declared.open.Open.{Open}
use Rattle.read_statements.specs.declared.open.Point.{Point}
use Rattle.read_statements.specs.declared.open.Point.TheVariants as point
use Rattle.read_statements.specs.Turns.{Place, At, Inside, Body, State, Begun, Declaring, Within, Whole, with_value, with_group, breakable, depth_left, wanted_for, fun_of, no_locals, may_declare, with_local}

-- ---- what may stand in a Body

-- a statement that is allowed where these locals are declared, with at most so many Bodies one in another
pub record FitsStmt (l : Locals) (breakable : Bool) (left : ℕ) (s : CStmt) : Type 0 where
  pub allowed : stmt_allowed (scope l) s breakable ≡ true
  pub deep : stmt_depth s ≤ left

-- the same of an arm, and of a group
pub record FitsArm (l : Locals) (breakable : Bool) (left : ℕ) (a : CArm) : Type 0 where
  pub allowed : arm_allowed (scope l) a breakable ≡ true
  pub deep : arm_depth a ≤ left

pub record FitsGroup (l : Locals) (left : ℕ) (g : CGroup) : Type 0 where
  pub allowed : (group_allowed (scope l) g).1 ≡ true
  pub deep : group_depth g ≤ left

-- and of all of several
abbrev pub FitsStmts : Locals → Bool → ℕ → List CStmt → Type 0
FitsStmts l b left [] = Unit {0}
FitsStmts l b left (s ∷ ss) = FitsStmt l b left s × FitsStmts l b left ss

abbrev pub FitsArms : Locals → Bool → ℕ → List CArm → Type 0
FitsArms l b left [] = Unit {0}
FitsArms l b left (a ∷ arms) = FitsArm l b left a × FitsArms l b left arms

abbrev pub FitsGroups : Locals → ℕ → List CGroup → Type 0
FitsGroups l left [] = Unit {0}
FitsGroups l left (g ∷ groups) = FitsGroup l left g × FitsGroups l left groups

-- the last `else`, which may be missing
abbrev pub FitsLast : Locals → Bool → ℕ → Option (List CStmt) → Type 0
FitsLast l b left None = Unit {0}
FitsLast l b left (Some ss) = FitsStmts l b (left - 1) ss

abbrev pub last_tokens : Option (List CStmt) → Tokens
last_tokens None r = r
last_tokens (Some ss) r = tok.Else ∷ body_tokens (map stmt_tokens ss) r

-- the values of groups
abbrev pub values_of : Locals → List CGroup → List ℕ
values_of l groups = groups_values (map (group_allowed (scope l)) groups)

-- ---- what may follow

abbrev pub Then : Type 1
Then = List Token → Type 0

abbrev pub StmtRest : Type 1
StmtRest = CStmt → Then

abbrev pub BodyRest : Type 1
BodyRest = List CStmt → Then

-- after these statements of a Body: more of them, `}`, and what may follow the Body
abbrev pub StmtsThen : Locals → Bool → ℕ → BodyRest → BodyRest
StmtsThen l b left k ss ts = (more : List CStmt) × FitsStmts l b left more × ((r : List Token) × (ts ≡ all (map stmt_tokens more) (tok.End ∷ r)) × k (ss ++ more) r)

-- a Body
abbrev pub BodyThen : Locals → Bool → ℕ → BodyRest → Then
BodyThen l b left k = Follows tok.Begin (StmtsThen l b left k [])

-- what may follow one more statement
abbrev pub Next : Locals → Bool → ℕ → BodyRest → List CStmt → StmtRest
Next l b left k ss s = StmtsThen l b left k (ss ++ s ∷ [])

-- after these arms: more of them, the last `else` or none, and what may follow the `if`
abbrev pub ElseThen : Locals → Bool → ℕ → StmtRest → List CArm → Then
ElseThen l b left k arms ts =
    (more : List CArm) × FitsArms l b left more × ((last : Option (List CStmt)) × FitsLast l b left last
    × ((r : List Token) × (ts ≡ more_arms (map arm_tokens more) (last_tokens last r)) × k (roll-CStmt (CStmt-F.If (arms ++ more) last)) r))

-- after these groups: more of them, whose values don't stand in the switch yet, its default, and what may follow it
abbrev pub GroupsThen : Locals → ℕ → StmtRest → Switching → Then
GroupsThen l left k s ts =
    (more : List CGroup) × FitsGroups l left more × (are_distinct (s.used ++ values_of l more) ≡ true) × ((last : List CStmt) × FitsStmts l true (left - 1) last
    × ((r : List Token) × (ts ≡ all (map group_tokens more) (tok.Default ∷ tok.Colon ∷ body_tokens (map stmt_tokens last) (tok.Break ∷ tok.Semicolon ∷ tok.End ∷ r)))
    × k (roll-CStmt (CStmt-F.Switch s.word (s.groups ++ more) last)) r))

-- a switch with more values
abbrev pub with_values : Switching → List ℕ → Switching
with_values s values = record { word = s.word; groups = s.groups; used = s.used ++ values }

-- after the Body of a group, and after that of the default
abbrev pub GroupRest : Locals → ℕ → StmtRest → Switching → List ℕ → BodyRest
GroupRest l left k s values body = Follows tok.Break (Follows tok.Semicolon (GroupsThen l left k (with_group s values body)))

abbrev pub DefaultRest : StmtRest → CExpr → List CGroup → BodyRest
DefaultRest k e groups body = Follows tok.Break (Follows tok.Semicolon (Follows tok.End (k (roll-CStmt (CStmt-F.Switch e groups body)))))

-- after these values of a group: more of them that don't stand in the switch yet, its Body, and what may follow it
abbrev pub ValuesThen : Locals → ℕ → StmtRest → Switching → List ℕ → Then
ValuesThen l left k s values ts =
    (more : List ℕ) × (are_words more ≡ true) × (are_distinct (s.used ++ more) ≡ true)
    × ((r : List Token) × (ts ≡ cases_tokens more (tok.Begin ∷ r)) × StmtsThen l true (left - 1) (GroupRest l left k (with_values s more) (values ++ more)) [] r)

-- after `case`: a word that doesn't stand in the switch yet
abbrev pub CaseThen : Locals → ℕ → StmtRest → Switching → List ℕ → Then
CaseThen l left k s values ts =
    (v : ℕ) × (v < 2 ^ 32) × (has s.used v ≡ false) × Follows (tok.Num v) (Follows tok.Colon (ValuesThen l left k (with_value s v) (values ++ v ∷ []))) ts

-- after a statement's Word or Cond, and what comes with it
abbrev pub Ending : Token → StmtRest → StmtRest
Ending x k s = Follows x (Follows tok.Semicolon (k s))

abbrev pub StoreThen : Locals → StmtRest → Width → CExpr → Then
StoreThen l k w a = Wants l want.Word 256 (WordThen (λ v. Ending tok.Close k (roll-CStmt (CStmt-F.Store w a v))))

-- what may follow a Body, by what it is the Body of
abbrev pub NestRest : Locals → Bool → ℕ → StmtRest → Nest → BodyRest
NestRest l b left k (nest.Arm arms c) body = ElseThen l b left k (arms ++ roll-CArm (record { test = c; body = body }) ∷ [])
NestRest l b left k (nest.Else arms) body = k (roll-CStmt (CStmt-F.If arms (Some body)))
NestRest l b left k nest.Loop body = k (roll-CStmt (CStmt-F.Loop body))
NestRest l b left k (nest.While c) body = k (roll-CStmt (CStmt-F.While c body))
NestRest l b left k nest.Do body =
    Follows tok.While (Follows tok.Open (Wants l want.Cond 256 (CondThen (λ c. Ending tok.Close k (roll-CStmt (CStmt-F.DoWhile body c))))))
NestRest l b left k (nest.Group s values) body = GroupRest l left k s values body
NestRest l b left k (nest.Default e groups) body = DefaultRest k e groups body

-- a Body of this: a loop or a switch round it lets it break
abbrev pub NestThen : Locals → Bool → ℕ → StmtRest → Nest → Then
NestThen l b left k (nest.Arm arms c) = StmtsThen l b (left - 1) (NestRest l b left k (nest.Arm arms c)) []
NestThen l b left k (nest.Else arms) = StmtsThen l b (left - 1) (NestRest l b left k (nest.Else arms)) []
NestThen l b left k nest.Loop = StmtsThen l true (left - 1) (NestRest l b left k nest.Loop) []
NestThen l b left k (nest.While c) = StmtsThen l true (left - 1) (NestRest l b left k (nest.While c)) []
NestThen l b left k nest.Do = StmtsThen l true (left - 1) (NestRest l b left k nest.Do) []
NestThen l b left k (nest.Group s values) = StmtsThen l true (left - 1) (NestRest l b left k (nest.Group s values)) []
NestThen l b left k (nest.Default e groups) = StmtsThen l true (left - 1) (NestRest l b left k (nest.Default e groups)) []

-- what may follow a Word or Cond, by what it is for
abbrev pub UseRest : Locals → Bool → ℕ → StmtRest → Use → words.Rest
UseRest l b left k (use'.Set n) = WordThen (λ a. Follows tok.Semicolon (k (roll-CStmt (CStmt-F.Set n a))))
UseRest l b left k (use'.Load n w) = WordThen (λ a. Ending tok.Close k (roll-CStmt (CStmt-F.Load n w a)))
UseRest l b left k (use'.Address w) = WordThen (λ a. Follows tok.Comma (StoreThen l k w a))
UseRest l b left k (use'.Value w a) = WordThen (λ v. Ending tok.Close k (roll-CStmt (CStmt-F.Store w a v)))
UseRest l b left k use'.Ext = WordThen (λ a. Ending tok.Close k (roll-CStmt (CStmt-F.Ext a)))
UseRest l b left k (use'.Trap v) = WordThen (λ a. Ending tok.Close k (roll-CStmt (CStmt-F.Trap v a)))
UseRest l b left k use'.Switch = WordThen (λ a. Follows tok.Close (Follows tok.Begin (GroupsThen l left k (record { word = a; groups = []; used = [] }))))
UseRest l b left k (use'.If arms) = CondThen (λ c. Follows tok.Close (Follows tok.Begin (NestThen l b left k (nest.Arm arms c))))
UseRest l b left k use'.While = CondThen (λ c. Follows tok.Close (Follows tok.Begin (NestThen l b left k (nest.While c))))
UseRest l b left k (use'.Do body) = CondThen (λ c. Ending tok.Close k (roll-CStmt (CStmt-F.DoWhile body c)))

-- a Word or Cond for this
abbrev pub UseThen : Locals → Bool → ℕ → StmtRest → Use → Then
UseThen l b left k u = Wants l (wanted_for u) 256 (UseRest l b left k u)

-- after `n =`: a load, or a Word
abbrev pub SourceThen : Locals → Bool → ℕ → StmtRest → Name → Then
SourceThen l b left k n ts = ((w : Width) × Follows (tok.Ld w) (Follows tok.Open (UseThen l b left k (use'.Load n w))) ts) ⊎ UseThen l b left k (use'.Set n) ts

-- after `trap (`
abbrev pub TrapThen : Locals → Bool → ℕ → StmtRest → Then
TrapThen l b left k ts = (v : ℕ) × (v < 2 ^ 32) × Follows (tok.Num v) (Follows tok.Comma (UseThen l b left k (use'.Trap v))) ts

-- after `while (`: `1`, or a Cond
abbrev pub WhileThen : Locals → Bool → ℕ → StmtRest → Then
WhileThen l b left k ts = Follows tok.One (Follows tok.Close (Follows tok.Begin (NestThen l b left k nest.Loop))) ts ⊎ UseThen l b left k use'.While ts

-- after `else`: `if`, or the last Body
abbrev pub AfterElse : Locals → Bool → ℕ → StmtRest → List CArm → Then
AfterElse l b left k arms ts = Follows tok.If (Follows tok.Open (UseThen l b left k (use'.If arms))) ts ⊎ Follows tok.Begin (NestThen l b left k (nest.Else arms)) ts

-- what may follow at a place
abbrev pub PointRest : Locals → Bool → ℕ → BodyRest → List CStmt → Point → Then
PointRest l b left k ss point.Stmt = StmtsThen l b left k ss
PointRest l b left k ss (point.Named n) = Follows tok.Assign (SourceThen l b left (Next l b left k ss) n)
PointRest l b left k ss (point.Assigned n) = SourceThen l b left (Next l b left k ss) n
PointRest l b left k ss (point.Called u) = Follows tok.Open (UseThen l b left (Next l b left k ss) u)
PointRest l b left k ss point.TrapOpen = Follows tok.Open (TrapThen l b left (Next l b left k ss))
PointRest l b left k ss point.TrapNumber = TrapThen l b left (Next l b left k ss)
PointRest l b left k ss (point.TrapComma v) = Follows tok.Comma (UseThen l b left (Next l b left k ss) (use'.Trap v))
PointRest l b left k ss point.WhileOpen = Follows tok.Open (WhileThen l b left (Next l b left k ss))
PointRest l b left k ss point.WhileTest = WhileThen l b left (Next l b left k ss)
PointRest l b left k ss point.LoopClose = Follows tok.Close (Follows tok.Begin (NestThen l b left (Next l b left k ss) nest.Loop))
PointRest l b left k ss (point.Begins n) = Follows tok.Begin (NestThen l b left (Next l b left k ss) n)
PointRest l b left k ss (point.AfterArm arms) = ElseThen l b left (Next l b left k ss) arms
PointRest l b left k ss (point.AfterElse arms) = AfterElse l b left (Next l b left k ss) arms
PointRest l b left k ss (point.AfterDo body) = Follows tok.While (Follows tok.Open (UseThen l b left (Next l b left k ss) (use'.Do body)))
PointRest l b left k ss (point.SwitchBegin e) = Follows tok.Begin (GroupsThen l left (Next l b left k ss) (record { word = e; groups = []; used = [] }))
PointRest l b left k ss (point.Group s) = GroupsThen l left (Next l b left k ss) s
PointRest l b left k ss (point.CaseNumber s values) = CaseThen l left (Next l b left k ss) s values
PointRest l b left k ss (point.CaseColon s values) = Follows tok.Colon (ValuesThen l left (Next l b left k ss) s values)
PointRest l b left k ss (point.AfterCase s values) = ValuesThen l left (Next l b left k ss) s values
PointRest l b left k ss (point.GroupBreak s) = Follows tok.Break (Follows tok.Semicolon (GroupsThen l left (Next l b left k ss) s))
PointRest l b left k ss (point.GroupSemicolon s) = Follows tok.Semicolon (GroupsThen l left (Next l b left k ss) s)
PointRest l b left k ss (point.DefaultColon e groups) = Follows tok.Colon (Follows tok.Begin (NestThen l b left (Next l b left k ss) (nest.Default e groups)))
PointRest l b left k ss (point.SwitchBreak s) = Follows tok.Break (Follows tok.Semicolon (Follows tok.End (Next l b left k ss s)))
PointRest l b left k ss (point.SwitchSemicolon s) = Follows tok.Semicolon (Follows tok.End (Next l b left k ss s))
PointRest l b left k ss (point.SwitchEnd s) = Follows tok.End (Next l b left k ss s)
PointRest l b left k ss (point.Semicolon s) = Follows tok.Semicolon (Next l b left k ss s)

abbrev pub PlaceRest : Locals → Bool → ℕ → BodyRest → List CStmt → Place → Then
PlaceRest l b left k ss (At p) = PointRest l b left k ss p
PlaceRest l b left k ss (Inside u r) = words.GoesOn l (UseRest l b left (Next l b left k ss) u) r.state r.open'

-- what may follow the innermost Body, where the outermost one is followed so
abbrev pub Rests : Locals → BodyRest → List Open → BodyRest
Rests l k [] = k
Rests l k (o ∷ os) = NestRest l (breakable os) (depth_left os) (Next l (breakable os) (depth_left os) (Rests l k os) o.before) o.nest

abbrev pub BodyGoesOn : Locals → BodyRest → Body → Then
BodyGoesOn l k b = PlaceRest l (breakable b.open') (depth_left b.open') (Rests l k b.open') b.stmts b.place

-- ---- the head and the declarations

-- the function has these parts, and no token comes after it
abbrev pub Ends : CFun → ℕ → Locals → BodyRest
Ends f a l ss ts = (ts ≡ []) × (f ≡ fun_of a l ss)

-- these locals are declared next, one after another
abbrev pub Declares : Locals → List Name → Type 0
Declares l [] = Unit {0}
Declares l (n ∷ ns) = (may_declare l n ≡ true) × Declares (with_local l n) ns

abbrev pub with_locals : Locals → List Name → Locals
with_locals l [] = l
with_locals l (n ∷ ns) = with_locals (with_local l n) ns

abbrev pub names_tokens : List Name → Tokens
names_tokens [] r = r
names_tokens (n ∷ ns) r = tok.Uint32 ∷ tok.Name n ∷ tok.Assign ∷ tok.Zero ∷ tok.Semicolon ∷ names_tokens ns r

-- the statements of the function, to its end
abbrev pub Statements : CFun → ℕ → Locals → Then
Statements f a l = StmtsThen l false 512 (Ends f a l) []

-- after the declarations of these locals: more of them, and the statements
abbrev pub DeclsThen : CFun → ℕ → Locals → Then
DeclsThen f a l ts = (ns : List Name) × Declares l ns × ((r : List Token) × (ts ≡ names_tokens ns r) × Statements f a (with_locals l ns) r)

-- after a declared name
abbrev pub NamedThen : CFun → ℕ → Locals → Then
NamedThen f a l = Follows tok.Assign (Follows tok.Zero (Follows tok.Semicolon (DeclsThen f a l)))

abbrev pub DeclRest : CFun → ℕ → Locals → Decl → Then
DeclRest f a l decl.Next = DeclsThen f a l
DeclRest f a l decl.Local = λ ts. (n : Name) × (may_declare l n ≡ true) × Follows (tok.Name n) (NamedThen f a (with_local l n)) ts
DeclRest f a l decl.Assign = NamedThen f a l
DeclRest f a l decl.Zero = Follows tok.Zero (Follows tok.Semicolon (DeclsThen f a l))
DeclRest f a l decl.Semicolon = Follows tok.Semicolon (DeclsThen f a l)

-- after the name of the function
abbrev pub AddressThen : CFun → ℕ → Then
AddressThen f a = Follows tok.Open (Follows tok.Void (Follows tok.Close (Follows tok.Begin (DeclsThen f a no_locals))))

abbrev pub FunctionThen : CFun → Then
FunctionThen f ts = (a : ℕ) × (a < 2 ^ 32) × Follows (tok.Function a) (AddressThen f a) ts

abbrev pub HeadRest : CFun → Head → Then
HeadRest f head.Void = Follows tok.Void (FunctionThen f)
HeadRest f head.Function = FunctionThen f
HeadRest f (head.Open a) = AddressThen f a
HeadRest f (head.Nothing a) = Follows tok.Void (Follows tok.Close (Follows tok.Begin (DeclsThen f a no_locals)))
HeadRest f (head.Close a) = Follows tok.Close (Follows tok.Begin (DeclsThen f a no_locals))
HeadRest f (head.Begin a) = Follows tok.Begin (DeclsThen f a no_locals)

-- the tokens with which a function goes on from what was read of it
abbrev pub GoesOn : State → CFun → Then
GoesOn (Begun h) f = HeadRest f h
GoesOn (Declaring a l d) f = DeclRest f a l d
GoesOn (Within a l b) f = BodyGoesOn l (Ends f a l) b
GoesOn (Whole g) f = λ ts. (ts ≡ []) × (f ≡ g)
