-- What the reading of a token keeps, and its laws.
use Rattle.std.specs.Prelude.{◌≡◌, ℕ, ◌-◌, ◌^◌, ◌<◌, ◌≤◌, Bool, true, List, [], ◌∷◌, ◌++◌, length, Option, Some, None}
use Rattle.c_syntax.specs.declared.syntax.CExpr.{CExpr}
use Rattle.c_syntax.specs.declared.syntax.CStmt.{CStmt}
use Rattle.c_syntax.specs.declared.syntax.CArm.{CArm}
use Rattle.c_syntax.specs.declared.syntax.CGroup.{CGroup}
use Rattle.c_syntax.specs.declared.syntax.CFun.{CFun}
use Rattle.c_syntax.specs.declared.token.Token.{Token}
use Rattle.c_syntax.specs.Tokens.{fun_tokens}
use Rattle.c_syntax.specs.Formed.{are_distinct, are_words, has_any, is_target, IsWellFormed}
use Rattle.c_lex.specs.Lexemes.{IsToken}
use Rattle.read_words.specs.declared.open.Locals.{Locals}
use Rattle.read_words.specs.Turns.{scope}
use Rattle.read_words.specs.Rests.{FitsWord, FitsCond}
use Rattle.read_words.specs.Reads as words
use Rattle.read_statements.specs.declared.open.Head.{Head}
use Rattle.read_statements.specs.declared.open.Head.TheVariants as head
use Rattle.read_statements.specs.declared.open.Decl.{Decl}
use Rattle.read_statements.specs.declared.open.Decl.TheVariants as decl
use Rattle.read_statements.specs.declared.open.Use.{Use}
use Rattle.read_statements.specs.declared.open.Use.TheVariants as use'
use Rattle.read_statements.specs.declared.open.Switching.{Switching}
use Rattle.read_statements.specs.declared.open.Nest.{Nest}
use Rattle.read_statements.specs.declared.open.Nest.TheVariants as nest
use Rattle.read_statements.specs.declared.open.Open.{Open}
use Rattle.read_statements.specs.declared.open.Point.{Point}
use Rattle.read_statements.specs.declared.open.Point.TheVariants as point
use Rattle.read_statements.specs.Turns.{Place, At, Inside, Body, State, Begun, Declaring, Within, Whole, breakable, depth_left, wanted_for, start, step_of}
use Rattle.read_statements.specs.Rests.{FitsStmt, FitsStmts, FitsArms, FitsGroups, values_of, GoesOn}

-- there is depth for one more Body, and these arms fit
abbrev pub ArmsFit : Locals → Bool → ℕ → List CArm → Type 0
ArmsFit l b left arms = (1 ≤ left) × FitsArms l b left arms

-- there is an arm at least
abbrev pub SomeFit : Locals → Bool → ℕ → List CArm → Type 0
SomeFit l b left arms = (1 ≤ left) × FitsArms l b left arms × (has_any arms ≡ true)

-- there is depth for one more Body, and the Body of a `do` fits
abbrev pub DoFits : Locals → ℕ → List CStmt → Type 0
DoFits l left body = (1 ≤ left) × FitsStmts l true (left - 1) body

-- A switch whose groups fit, and a group of these values: all of its values are words, and none stands twice.
pub record SwitchFits (l : Locals) (left : ℕ) (s : Switching) (values : List ℕ) : Type 0 where
  pub deep : 1 ≤ left
  pub word_fits : FitsWord l 256 s.word
  pub groups_fit : FitsGroups l left s.groups
  pub used : s.used ≡ values_of l s.groups ++ values
  pub distinct : are_distinct s.used ≡ true
  pub words : are_words s.used ≡ true

-- the same of a switch whose default comes
pub record DefaultFits (l : Locals) (left : ℕ) (e : CExpr) (groups : List CGroup) : Type 0 where
  pub deep : 1 ≤ left
  pub word_fits : FitsWord l 256 e
  pub groups_fit : FitsGroups l left groups
  pub distinct : are_distinct (values_of l groups) ≡ true

abbrev pub UseFits : Locals → Bool → ℕ → Use → Type 0
UseFits l b left (use'.Set n) = is_target (scope l) n ≡ true
UseFits l b left (use'.Load n w) = is_target (scope l) n ≡ true
UseFits l b left (use'.Address w) = Unit {0}
UseFits l b left (use'.Value w a) = FitsWord l 256 a
UseFits l b left use'.Ext = Unit {0}
UseFits l b left (use'.Trap v) = v < 2 ^ 32
UseFits l b left use'.Switch = 1 ≤ left
UseFits l b left (use'.If arms) = ArmsFit l b left arms
UseFits l b left use'.While = 1 ≤ left
UseFits l b left (use'.Do body) = DoFits l left body

abbrev pub NestFits : Locals → Bool → ℕ → Nest → Type 0
NestFits l b left (nest.Arm arms c) = ArmsFit l b left arms × FitsCond l 256 c
NestFits l b left (nest.Else arms) = SomeFit l b left arms
NestFits l b left nest.Loop = 1 ≤ left
NestFits l b left (nest.While c) = (1 ≤ left) × FitsCond l 256 c
NestFits l b left nest.Do = 1 ≤ left
NestFits l b left (nest.Group s values) = SwitchFits l left s values × (has_any values ≡ true)
NestFits l b left (nest.Default e groups) = DefaultFits l left e groups

abbrev pub PointFits : Locals → Bool → ℕ → Point → Type 0
PointFits l b left point.Stmt = Unit {0}
PointFits l b left (point.Named n) = is_target (scope l) n ≡ true
PointFits l b left (point.Assigned n) = is_target (scope l) n ≡ true
PointFits l b left (point.Called u) = UseFits l b left u
PointFits l b left point.TrapOpen = Unit {0}
PointFits l b left point.TrapNumber = Unit {0}
PointFits l b left (point.TrapComma v) = v < 2 ^ 32
PointFits l b left point.WhileOpen = 1 ≤ left
PointFits l b left point.WhileTest = 1 ≤ left
PointFits l b left point.LoopClose = 1 ≤ left
PointFits l b left (point.Begins n) = NestFits l b left n
PointFits l b left (point.AfterArm arms) = SomeFit l b left arms
PointFits l b left (point.AfterElse arms) = SomeFit l b left arms
PointFits l b left (point.AfterDo body) = DoFits l left body
PointFits l b left (point.SwitchBegin e) = (1 ≤ left) × FitsWord l 256 e
PointFits l b left (point.Group s) = SwitchFits l left s []
PointFits l b left (point.CaseNumber s values) = SwitchFits l left s values × (length s.used < 2 ^ 32)
PointFits l b left (point.CaseColon s values) = SwitchFits l left s values × (has_any values ≡ true)
PointFits l b left (point.AfterCase s values) = SwitchFits l left s values × (has_any values ≡ true)
PointFits l b left (point.GroupBreak s) = SwitchFits l left s []
PointFits l b left (point.GroupSemicolon s) = SwitchFits l left s []
PointFits l b left (point.DefaultColon e groups) = DefaultFits l left e groups
PointFits l b left (point.SwitchBreak s) = FitsStmt l b left s
PointFits l b left (point.SwitchSemicolon s) = FitsStmt l b left s
PointFits l b left (point.SwitchEnd s) = FitsStmt l b left s
PointFits l b left (point.Semicolon s) = FitsStmt l b left s

-- what was read of a Word or Cond fits too
abbrev pub PlaceFits : Locals → Bool → ℕ → Place → Type 0
PlaceFits l b left (At p) = PointFits l b left p
PlaceFits l b left (Inside u r) = UseFits l b left u × words.IsRead l (wanted_for u) r

-- the Bodies that are open, the innermost one first
abbrev pub OpenFit : Locals → List Open → Type 0
OpenFit l [] = Unit {0}
OpenFit l (o ∷ os) = NestFits l (breakable os) (depth_left os) o.nest × FitsStmts l (breakable os) (depth_left os) o.before × OpenFit l os

-- all that was read of the Bodies fits
pub record BodyFits (l : Locals) (b : Body) : Type 0 where
  pub open_fit : OpenFit l b.open'
  pub stmts_fit : FitsStmts l (breakable b.open') (depth_left b.open') b.stmts
  pub place_fits : PlaceFits l (breakable b.open') (depth_left b.open') b.place

-- an address is a word, and no kind has more locals than the text of a number names
pub record Bounds (a : ℕ) (l : Locals) : Type 0 where
  pub address : a < 2 ^ 32
  pub temps : l.temps < 2 ^ 32
  pub bools : l.bools < 2 ^ 32
  pub selectors : l.selectors < 2 ^ 32

abbrev pub HeadFits : Head → Type 0
HeadFits head.Void = Unit {0}
HeadFits head.Function = Unit {0}
HeadFits (head.Open a) = a < 2 ^ 32
HeadFits (head.Nothing a) = a < 2 ^ 32
HeadFits (head.Close a) = a < 2 ^ 32
HeadFits (head.Begin a) = a < 2 ^ 32

-- there is a number left for one more local
abbrev pub HasLocal : Locals → Decl → Type 0
HasLocal l decl.Next = Unit {0}
HasLocal l decl.Local = l.selectors < 2 ^ 32 - 1
HasLocal l decl.Assign = Unit {0}
HasLocal l decl.Zero = Unit {0}
HasLocal l decl.Semicolon = Unit {0}

-- What was read of a function: all of it fits. Where a local's name is to come, there is a number left for it.
abbrev pub IsRead : State → Type 0
IsRead (Begun h) = HeadFits h
IsRead (Declaring a l d) = Bounds a l × HasLocal l d
IsRead (Within a l b) = Bounds a l × BodyFits l b
IsRead (Whole f) = IsWellFormed f

-- A token was read: the tokens after it are those with which what was read goes on after it. Or it was refused: what was
-- read goes on with no tokens that begin so.
abbrev pub IsStep : CFun → Option State → List Token → Type 0 → Type 0
IsStep f None ts before = before → ⊥
IsStep f (Some s) ts before = IsRead s × ((before → GoesOn s f ts) × (GoesOn s f ts → before))

-- A token is read exactly where what was read goes on with it, and then the tokens after it are those with which it goes
-- on.
abbrev pub OneToken : Type 0
OneToken = (s : State) (f : CFun) (x : Token) (ts : List Token) → IsRead s → IsToken x → IsStep f (step_of s x) ts (GoesOn s f (x ∷ ts))

-- What was read can be completed to a function that is well formed.
abbrev pub CanGoOn : Type 0
CanGoOn = (s : State) → IsRead s → (f : CFun) × IsWellFormed f × ((ts : List Token) × GoesOn s f ts)

-- No token need follow exactly where what was read is the whole function.
abbrev pub AtTheEnd : Type 0
AtTheEnd = (s : State) (f : CFun) → (GoesOn s f [] → s ≡ Whole f) × (s ≡ Whole f → GoesOn s f [])

-- At the start a function goes on with just its own tokens, where it is well formed.
abbrev pub FromTheStart : Type 0
FromTheStart = (f : CFun) (ts : List Token)
    → (GoesOn start f ts → IsWellFormed f × (ts ≡ fun_tokens f)) × (IsWellFormed f × (ts ≡ fun_tokens f) → GoesOn start f ts)
