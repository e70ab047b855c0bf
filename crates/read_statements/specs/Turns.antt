-- What a token makes of a function that is being read.
use Rattle.std.specs.Prelude.{ℕ, ◌+◌, ◌-◌, ◌^◌, Bool, true, false, ◌&&◌, not, nat_le, nat_lt, nat_eq, List, [], ◌∷◌, ◌++◌, Option, Some, None, if◌then◌else◌, length}
use Rattle.dream_words.specs.declared.machine.Name.{Name}
use Rattle.dream_words.specs.declared.machine.Name.TheVariants as name
use Rattle.run_parts.specs.Parts.{has}
use Rattle.c_syntax.specs.declared.syntax.CExpr.{CExpr}
use Rattle.c_syntax.specs.declared.syntax.CCond.{CCond}
use Rattle.c_syntax.specs.declared.syntax.CStmt.{CStmt, CStmt-F, roll-CStmt}
use Rattle.c_syntax.specs.declared.syntax.CArm.{CArm, roll-CArm}
use Rattle.c_syntax.specs.declared.syntax.CGroup.{roll-CGroup}
use Rattle.c_syntax.specs.declared.syntax.CFun.{CFun}
use Rattle.c_syntax.specs.declared.token.Token.{Token}
use Rattle.c_syntax.specs.declared.token.Token.TheVariants as tok
use Rattle.c_syntax.specs.Formed.{is_target}
use Rattle.read_words.specs.declared.open.Locals.{Locals}
use Rattle.read_words.specs.declared.open.Item.{Item}
use Rattle.read_words.specs.declared.open.Item.TheVariants as item
use Rattle.read_words.specs.declared.open.Wanted.{Wanted}
use Rattle.read_words.specs.declared.open.Wanted.TheVariants as want
use Rattle.read_words.specs.declared.open.State as words_state
use Rattle.read_words.specs.declared.open.Open as words_open
use Rattle.read_words.specs.declared.open.State.TheVariants as state
use Rattle.read_words.specs.Turns as words
use Rattle.read_words.specs.Turns.{Reading, scope}
use Rattle.read_statements.specs.declared.open.Mark.{Mark}
use Rattle.read_statements.specs.declared.open.Mark.TheVariants as mark
use Rattle.read_statements.specs.declared.open.Head.{Head}
use Rattle.read_statements.specs.declared.open.Head.TheVariants as head
use Rattle.read_statements.specs.declared.open.Decl.{Decl}
use Rattle.read_statements.specs.declared.open.Decl.TheVariants as decl
use Rattle.read_statements.specs.declared.open.Use.{Use}
use Rattle.read_statements.specs.declared.open.Use.TheVariants as use'
use Rattle.read_statements.specs.declared.open.Switching.{Switching}
use Rattle.read_statements.specs.declared.open.Nest.{Nest}
use Rattle.read_statements.specs.declared.open.Nest.TheVariants as nest
use Rattle.read_statements.specs.declared.open.Open.{Open}
use Rattle.read_statements.specs.declared.open.Point.{Point}
use Rattle.read_statements.specs.declared.open.Point.TheVariants as point
use Rattle.read_statements.specs.declared.open.Turn.{Turn}
use Rattle.read_statements.specs.declared.open.Turn.TheVariants as turn'

-- whether a token is this one
abbrev pub is_mark : Mark → Token → Bool
is_mark mark.Open tok.Open = true
is_mark mark.Open _ = false
is_mark mark.Close tok.Close = true
is_mark mark.Close _ = false
is_mark mark.Begin tok.Begin = true
is_mark mark.Begin _ = false
is_mark mark.End tok.End = true
is_mark mark.End _ = false
is_mark mark.Semicolon tok.Semicolon = true
is_mark mark.Semicolon _ = false
is_mark mark.Colon tok.Colon = true
is_mark mark.Colon _ = false
is_mark mark.Comma tok.Comma = true
is_mark mark.Comma _ = false
is_mark mark.Assign tok.Assign = true
is_mark mark.Assign _ = false
is_mark mark.While tok.While = true
is_mark mark.While _ = false
is_mark mark.Break tok.Break = true
is_mark mark.Break _ = false
is_mark mark.Void tok.Void = true
is_mark mark.Void _ = false
is_mark mark.Zero tok.Zero = true
is_mark mark.Zero _ = false

-- where just this token may come
abbrev pub expect : {A : Type 0} → Mark → A → Token → Option A
expect m a x = if is_mark m x then Some a else None

-- the first token of a statement where so many Bodies more may stand one in another, or the end of the Body
abbrev pub at_stmt : Locals → (breakable : Bool) → ℕ → Token → Option Turn
at_stmt l breakable left (tok.Name n) = if is_target (scope l) n then Some (turn'.To (point.Named n)) else None
at_stmt l breakable left (tok.St w) = Some (turn'.To (point.Called (use'.Address w)))
at_stmt l breakable left tok.Ext = Some (turn'.To (point.Called use'.Ext))
at_stmt l breakable left tok.Trap = Some (turn'.To point.TrapOpen)
at_stmt l breakable left tok.If = if nat_le 1 left then Some (turn'.To (point.Called (use'.If []))) else None
at_stmt l breakable left tok.Switch = if nat_le 1 left then Some (turn'.To (point.Called use'.Switch)) else None
at_stmt l breakable left tok.While = if nat_le 1 left then Some (turn'.To point.WhileOpen) else None
at_stmt l breakable left tok.Do = if nat_le 1 left then Some (turn'.To (point.Begins nest.Do)) else None
at_stmt l breakable left tok.Break = if breakable then Some (turn'.To (point.Semicolon (roll-CStmt CStmt-F.Break))) else None
at_stmt l breakable left tok.Return = Some (turn'.To (point.Semicolon (roll-CStmt CStmt-F.Return)))
at_stmt l breakable left tok.End = Some turn'.Ends
at_stmt l breakable left _ = None

-- a load
abbrev pub at_load : Name → Token → Option Turn
at_load n (tok.Ld w) = Some (turn'.To (point.Called (use'.Load n w)))
at_load n _ = None

-- the number of a trap
abbrev pub trap_number : Token → Option Turn
trap_number (tok.Num v) = Some (turn'.To (point.TrapComma v))
trap_number _ = None

-- `1` after `while (`
abbrev pub at_one : Token → Option Turn
at_one tok.One = Some (turn'.To point.LoopClose)
at_one _ = None

-- `else` after an arm
abbrev pub at_else : List CArm → Token → Option Turn
at_else arms tok.Else = Some (turn'.To (point.AfterElse arms))
at_else arms _ = None

-- `if` or `{` after `else`
abbrev pub after_else : List CArm → Token → Option Turn
after_else arms tok.If = Some (turn'.To (point.Called (use'.If arms)))
after_else arms tok.Begin = Some (turn'.Opens (nest.Else arms))
after_else arms _ = None

-- some word doesn't stand in the switch yet
abbrev pub has_room : Switching → Bool
has_room s = nat_lt (length s.used) (2 ^ 32)

-- `case` or `default`
abbrev pub at_group : Switching → Token → Option Turn
at_group s tok.Case = if has_room s then Some (turn'.To (point.CaseNumber s [])) else None
at_group s tok.Default = Some (turn'.To (point.DefaultColon s.word s.groups))
at_group s _ = None

-- different values with one more, unless it is there
abbrev pub with_new : List ℕ → ℕ → List ℕ
with_new vs v = if has vs v then vs else vs ++ v ∷ []

-- a switch in which one more value stands
abbrev pub with_value : Switching → ℕ → Switching
with_value s v = record { word = s.word; groups = s.groups; used = s.used ++ v ∷ [] }

-- a switch with one more group
abbrev pub with_group : Switching → List ℕ → List CStmt → Switching
with_group s values body = record { word = s.word; groups = s.groups ++ roll-CGroup (record { values = values; body = body }) ∷ []; used = s.used }

-- a value that doesn't stand in the switch
abbrev pub case_number : Switching → List ℕ → Token → Option Turn
case_number s values (tok.Num v) = if not (has s.used v) then Some (turn'.To (point.CaseColon (with_value s v) (values ++ v ∷ []))) else None
case_number s values _ = None

-- `case` or `{` after a value
abbrev pub after_case : Switching → List ℕ → Token → Option Turn
after_case s values tok.Case = if has_room s then Some (turn'.To (point.CaseNumber s values)) else None
after_case s values tok.Begin = Some (turn'.Opens (nest.Group s values))
after_case s values _ = None

-- the token at a place
abbrev pub turn : Locals → (breakable : Bool) → ℕ → Point → Token → Option Turn
turn l breakable left point.Stmt x = at_stmt l breakable left x
turn l breakable left (point.Named n) x = expect mark.Assign (turn'.To (point.Assigned n)) x
turn l breakable left (point.Assigned n) x = at_load n x
turn l breakable left (point.Called u) x = expect mark.Open (turn'.Part u) x
turn l breakable left point.TrapOpen x = expect mark.Open (turn'.To point.TrapNumber) x
turn l breakable left point.TrapNumber x = trap_number x
turn l breakable left (point.TrapComma v) x = expect mark.Comma (turn'.Part (use'.Trap v)) x
turn l breakable left point.WhileOpen x = expect mark.Open (turn'.To point.WhileTest) x
turn l breakable left point.WhileTest x = at_one x
turn l breakable left point.LoopClose x = expect mark.Close (turn'.To (point.Begins nest.Loop)) x
turn l breakable left (point.Begins n) x = expect mark.Begin (turn'.Opens n) x
turn l breakable left (point.AfterArm arms) x = at_else arms x
turn l breakable left (point.AfterElse arms) x = after_else arms x
turn l breakable left (point.AfterDo body) x = expect mark.While (turn'.To (point.Called (use'.Do body))) x
turn l breakable left (point.SwitchBegin e) x = expect mark.Begin (turn'.To (point.Group (record { word = e; groups = []; used = [] }))) x
turn l breakable left (point.Group s) x = at_group s x
turn l breakable left (point.CaseNumber s values) x = case_number s values x
turn l breakable left (point.CaseColon s values) x = expect mark.Colon (turn'.To (point.AfterCase s values)) x
turn l breakable left (point.AfterCase s values) x = after_case s values x
turn l breakable left (point.GroupBreak s) x = expect mark.Break (turn'.To (point.GroupSemicolon s)) x
turn l breakable left (point.GroupSemicolon s) x = expect mark.Semicolon (turn'.To (point.Group s)) x
turn l breakable left (point.DefaultColon e groups) x = expect mark.Colon (turn'.To (point.Begins (nest.Default e groups))) x
turn l breakable left (point.SwitchBreak s) x = expect mark.Break (turn'.To (point.SwitchSemicolon s)) x
turn l breakable left (point.SwitchSemicolon s) x = expect mark.Semicolon (turn'.To (point.SwitchEnd s)) x
turn l breakable left (point.SwitchEnd s) x = expect mark.End (turn'.Done s) x
turn l breakable left (point.Semicolon s) x = expect mark.Semicolon (turn'.Done s) x

-- the token after a Word, and after a Cond, that is whole
abbrev pub after_word : Use → CExpr → Token → Option Turn
after_word (use'.Set n) a x = expect mark.Semicolon (turn'.Done (roll-CStmt (CStmt-F.Set n a))) x
after_word (use'.Load n w) a x = expect mark.Close (turn'.To (point.Semicolon (roll-CStmt (CStmt-F.Load n w a)))) x
after_word (use'.Address w) a x = expect mark.Comma (turn'.Part (use'.Value w a)) x
after_word (use'.Value w a) v x = expect mark.Close (turn'.To (point.Semicolon (roll-CStmt (CStmt-F.Store w a v)))) x
after_word use'.Ext a x = expect mark.Close (turn'.To (point.Semicolon (roll-CStmt (CStmt-F.Ext a)))) x
after_word (use'.Trap v) a x = expect mark.Close (turn'.To (point.Semicolon (roll-CStmt (CStmt-F.Trap v a)))) x
after_word use'.Switch a x = expect mark.Close (turn'.To (point.SwitchBegin a)) x
after_word (use'.If arms) a x = None
after_word use'.While a x = None
after_word (use'.Do body) a x = None

abbrev pub after_cond : Use → CCond → Token → Option Turn
after_cond (use'.Set n) c x = None
after_cond (use'.Load n w) c x = None
after_cond (use'.Address w) c x = None
after_cond (use'.Value w a) c x = None
after_cond use'.Ext c x = None
after_cond (use'.Trap v) c x = None
after_cond use'.Switch c x = None
after_cond (use'.If arms) c x = expect mark.Close (turn'.To (point.Begins (nest.Arm arms c))) x
after_cond use'.While c x = expect mark.Close (turn'.To (point.Begins (nest.While c))) x
after_cond (use'.Do body) c x = expect mark.Close (turn'.To (point.Semicolon (roll-CStmt (CStmt-F.DoWhile body c)))) x

abbrev pub after_part : Use → Item → Token → Option Turn
after_part u (item.Word a) x = after_word u a x
after_part u (item.Cond c) x = after_cond u c x

-- what is wanted there
abbrev pub wanted_for : Use → Wanted
wanted_for (use'.Set n) = want.Word
wanted_for (use'.Load n w) = want.Word
wanted_for (use'.Address w) = want.Word
wanted_for (use'.Value w a) = want.Word
wanted_for use'.Ext = want.Word
wanted_for (use'.Trap v) = want.Word
wanted_for use'.Switch = want.Word
wanted_for (use'.If arms) = want.Cond
wanted_for use'.While = want.Cond
wanted_for (use'.Do body) = want.Cond

-- A place in a Body: in no Word or Cond, or in one, as far as it was read.
pub data Place : Type 0 where
  At : (p : Point) → Place
  Inside : (u : Use) → (r : Reading) → Place

-- The Bodies that are open round the innermost one, from inside outwards, its statements so far, and the place in it.
pub record Body : Type 0 where
  pub open' : List Open
  pub stmts : List CStmt
  pub place : Place

-- whether a `break` may stand in the innermost Body: a loop or a switch stands round it
abbrev pub breaks_in : Bool → Nest → Bool
breaks_in round (nest.Arm arms c) = round
breaks_in round (nest.Else arms) = round
breaks_in round nest.Loop = true
breaks_in round (nest.While c) = true
breaks_in round nest.Do = true
breaks_in round (nest.Group s values) = true
breaks_in round (nest.Default e groups) = true

abbrev pub breakable : List Open → Bool
breakable [] = false
breakable (o ∷ os) = breaks_in (breakable os) o.nest

-- how many Bodies more may stand one in another
abbrev pub depth_left : List Open → ℕ
depth_left [] = 512
depth_left (o ∷ os) = depth_left os - 1

-- a Word or Cond of which nothing has been read
abbrev pub part : Use → Place
part u = Inside u (record { state = state.Want (wanted_for u); open' = [] })

-- a Body's place, and one after one more statement
abbrev pub placed : List Open → List CStmt → Place → Body
placed os ss p = record { open' = os; stmts = ss; place = p }

abbrev pub done : List Open → List CStmt → CStmt → Body
done os ss s = placed os (ss ++ s ∷ []) (At point.Stmt)

-- An assignment that isn't a load, and a loop that has a test, go on with a Word and a Cond.
abbrev pub settled_assign : Name → Token → Place
settled_assign n (tok.Ld w) = At (point.Assigned n)
settled_assign n _ = part (use'.Set n)

abbrev pub settled_while : Token → Place
settled_while tok.One = At point.WhileTest
settled_while _ = part use'.While

-- an `if` is whole where no `else` follows
abbrev pub settled_if : List Open → List CStmt → List CArm → Token → Body
settled_if os ss arms tok.Else = placed os ss (At (point.AfterArm arms))
settled_if os ss arms _ = done os ss (roll-CStmt (CStmt-F.If arms None))

abbrev pub settled_at : List Open → List CStmt → Point → Token → Body
settled_at os ss (point.Assigned n) x = placed os ss (settled_assign n x)
settled_at os ss point.WhileTest x = placed os ss (settled_while x)
settled_at os ss (point.AfterArm arms) x = settled_if os ss arms x
settled_at os ss p x = placed os ss (At p)

abbrev pub settled : List Open → List CStmt → Place → Token → Body
settled os ss (At p) x = settled_at os ss p x
settled os ss (Inside u r) x = placed os ss (Inside u r)

-- the place after a Body that was of this
abbrev pub shut : List Open → List CStmt → Nest → List CStmt → Body
shut os ss (nest.Arm arms c) body = placed os ss (At (point.AfterArm (arms ++ roll-CArm (record { test = c; body = body }) ∷ [])))
shut os ss (nest.Else arms) body = done os ss (roll-CStmt (CStmt-F.If arms (Some body)))
shut os ss nest.Loop body = done os ss (roll-CStmt (CStmt-F.Loop body))
shut os ss (nest.While c) body = done os ss (roll-CStmt (CStmt-F.While c body))
shut os ss nest.Do body = placed os ss (At (point.AfterDo body))
shut os ss (nest.Group s values) body = placed os ss (At (point.GroupBreak (with_group s values body)))
shut os ss (nest.Default e groups) body = placed os ss (At (point.SwitchBreak (roll-CStmt (CStmt-F.Switch e groups body))))

-- What a token makes of the Bodies that are open: others, or the outermost one ends and has these statements.
pub data Outcome : Type 0 where
  Going : (b : Body) → Outcome
  Ended : (ss : List CStmt) → Outcome

abbrev pub closed : List Open → List CStmt → Outcome
closed [] ss = Ended ss
closed (o ∷ os) ss = Going (shut os o.before o.nest ss)

abbrev pub turned : List Open → List CStmt → Option Turn → Option Outcome
turned os ss None = None
turned os ss (Some (turn'.To p)) = Some (Going (placed os ss (At p)))
turned os ss (Some (turn'.Part u)) = Some (Going (placed os ss (part u)))
turned os ss (Some (turn'.Done s)) = Some (Going (done os ss s))
turned os ss (Some (turn'.Opens n)) = Some (Going (placed (record { before = ss; nest = n } ∷ os) [] (At point.Stmt)))
turned os ss (Some turn'.Ends) = Some (closed os ss)

-- a Word or Cond goes on
abbrev pub went : List Open → List CStmt → Use → Option Reading → Option Outcome
went os ss u None = None
went os ss u (Some r) = Some (Going (placed os ss (Inside u r)))

-- the token inside or after a Word or Cond
abbrev pub part_step : Locals → List Open → List CStmt → Use → words_state.State → List words_open.Open → Token → Option Outcome
part_step l os ss u (state.Have i) [] x = turned os ss (after_part u i x)
part_step l os ss u (state.Have i) (w ∷ ws) x = went os ss u (words.step_of l (state.Have i) (w ∷ ws) x)
part_step l os ss u (state.Want w) ws x = went os ss u (words.step_of l (state.Want w) ws x)
part_step l os ss u (state.Paren w) ws x = went os ss u (words.step_of l (state.Paren w) ws x)
part_step l os ss u (state.Call f) ws x = went os ss u (words.step_of l (state.Call f) ws x)

abbrev pub place_step : Locals → List Open → List CStmt → Place → Token → Option Outcome
place_step l os ss (At p) x = turned os ss (turn l (breakable os) (depth_left os) p x)
place_step l os ss (Inside u r) x = part_step l os ss u r.state r.open' x

-- the token after what was read of a Body and of those round it
abbrev pub settled_step : Locals → Body → Token → Option Outcome
settled_step l b x = place_step l b.open' b.stmts b.place x

abbrev pub body_step : Locals → Body → Token → Option Outcome
body_step l b x = settled_step l (settled b.open' b.stmts b.place x) x

-- ---- the head and the declarations

-- What has been read of a function: its head, or its address and declarations up to some place, or Bodies of it, or the
-- whole.
pub data State : Type 0 where
  Begun : (h : Head) → State
  Declaring : (a : ℕ) → (l : Locals) → (d : Decl) → State
  Within : (a : ℕ) → (l : Locals) → (b : Body) → State
  Whole : (f : CFun) → State

-- nothing has been read
abbrev pub start : State
start = Begun head.Void

-- a function of these parts
abbrev pub fun_of : ℕ → Locals → List CStmt → CFun
fun_of a l ss = record { address = a; temps = l.temps; bools = l.bools; selectors = l.selectors; body = ss }

-- no locals
abbrev pub no_locals : Locals
no_locals = record { temps = 0; bools = 0; selectors = 0 }

-- the local that is declared next: the next one of its kind, and first the t's, then the b's, then the s's
abbrev pub may_declare : Locals → Name → Bool
may_declare l (name.T n) = nat_eq n l.temps && (nat_eq l.bools 0 && (nat_eq l.selectors 0 && nat_lt n (2 ^ 32 - 1)))
may_declare l (name.B n) = nat_eq n l.bools && (nat_eq l.selectors 0 && nat_lt n (2 ^ 32 - 1))
may_declare l (name.S n) = nat_eq n l.selectors && nat_lt n (2 ^ 32 - 1)
may_declare l _ = false

-- one more local of a kind
abbrev pub with_local : Locals → Name → Locals
with_local l (name.T n) = record { temps = l.temps + 1; bools = l.bools; selectors = l.selectors }
with_local l (name.B n) = record { temps = l.temps; bools = l.bools + 1; selectors = l.selectors }
with_local l (name.S n) = record { temps = l.temps; bools = l.bools; selectors = l.selectors + 1 }
with_local l _ = l

-- the address of the function
abbrev pub at_function : Token → Option State
at_function (tok.Function a) = Some (Begun (head.Open a))
at_function _ = None

abbrev pub head_step : Head → Token → Option State
head_step head.Void x = expect mark.Void (Begun head.Function) x
head_step head.Function x = at_function x
head_step (head.Open a) x = expect mark.Open (Begun (head.Nothing a)) x
head_step (head.Nothing a) x = expect mark.Void (Begun (head.Close a)) x
head_step (head.Close a) x = expect mark.Close (Begun (head.Begin a)) x
head_step (head.Begin a) x = expect mark.Begin (Declaring a no_locals decl.Next) x

-- what became of the Bodies of a function
abbrev pub became : ℕ → Locals → Option Outcome → Option State
became a l None = None
became a l (Some (Going b)) = Some (Within a l b)
became a l (Some (Ended ss)) = Some (Whole (fun_of a l ss))

-- the first statement, or the end
abbrev pub first_step : ℕ → Locals → Token → Option State
first_step a l x = became a l (body_step l (placed [] [] (At point.Stmt)) x)

-- a declaration, or a statement
abbrev pub next_decl : ℕ → Locals → Token → Option State
next_decl a l tok.Uint32 = if nat_lt l.selectors (2 ^ 32 - 1) then Some (Declaring a l decl.Local) else None
next_decl a l x = first_step a l x

-- the name of a declared local
abbrev pub at_local : ℕ → Locals → Token → Option State
at_local a l (tok.Name n) = if may_declare l n then Some (Declaring a (with_local l n) decl.Assign) else None
at_local a l _ = None

abbrev pub decl_step : ℕ → Locals → Decl → Token → Option State
decl_step a l decl.Next x = next_decl a l x
decl_step a l decl.Local x = at_local a l x
decl_step a l decl.Assign x = expect mark.Assign (Declaring a l decl.Zero) x
decl_step a l decl.Zero x = expect mark.Zero (Declaring a l decl.Semicolon) x
decl_step a l decl.Semicolon x = expect mark.Semicolon (Declaring a l decl.Next) x

-- The token after what was read; none where no function goes on with it.
abbrev pub step_of : State → Token → Option State
step_of (Begun h) x = head_step h x
step_of (Declaring a l d) x = decl_step a l d x
step_of (Within a l b) x = became a l (body_step l b x)
step_of (Whole f) x = None
