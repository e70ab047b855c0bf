-- What a token makes of a Word or Cond that is being read.
use Rattle.std.specs.Prelude.{ℕ, ◌-◌, Bool, true, false, ◌&&◌, nat_le, List, [], ◌∷◌, Option, Some, None, if◌then◌else◌}
use Rattle.c_syntax.specs.declared.syntax.CExpr.{CExpr, CExpr-F, roll-CExpr}
use Rattle.c_syntax.specs.declared.syntax.CCond.{CCond, CCond-F, roll-CCond}
use Rattle.c_syntax.specs.declared.syntax.CFun.{CFun}
use Rattle.c_syntax.specs.declared.token.Token.{Token}
use Rattle.c_syntax.specs.declared.token.Token.TheVariants as tok
use Rattle.c_syntax.specs.Formed.{is_declared}
use Rattle.read_words.specs.declared.open.Locals.{Locals}
use Rattle.read_words.specs.declared.open.Item.{Item}
use Rattle.read_words.specs.declared.open.Item.TheVariants as item
use Rattle.read_words.specs.declared.open.Wanted.{Wanted}
use Rattle.read_words.specs.declared.open.Wanted.TheVariants as want
use Rattle.read_words.specs.declared.open.Call.{Call}
use Rattle.read_words.specs.declared.open.Call.TheVariants as call
use Rattle.read_words.specs.declared.open.Open.{Open}
use Rattle.read_words.specs.declared.open.Open.TheVariants as open'
use Rattle.read_words.specs.declared.open.State.{State}
use Rattle.read_words.specs.declared.open.State.TheVariants as state
use Rattle.read_words.specs.declared.open.Turn.{Turn}

-- a function that declares just these locals
abbrev pub scope : Locals → CFun
scope l = record { address = 0; temps = l.temps; bools = l.bools; selectors = l.selectors; body = [] }

-- a Word may stand there, and a Cond
abbrev pub takes_word : Wanted → Bool
takes_word want.Word = true
takes_word want.Cond = false
takes_word want.Either = true

abbrev pub takes_cond : Wanted → Bool
takes_cond want.Word = false
takes_cond want.Cond = true
takes_cond want.Either = true

-- a part goes on, with nothing round it that wasn't there
abbrev pub stays : State → Turn
stays s = record { round = None; state = s }

-- a part begins inside an open one
abbrev pub opens : Open → State → Turn
opens o s = record { round = Some o; state = s }

-- the first token of a part, where so much depth is left
abbrev pub begin : Locals → Wanted → ℕ → Token → Option State
begin l w left (tok.Num n) = if takes_word w then Some (state.Have (item.Word (roll-CExpr (CExpr-F.Num n)))) else None
begin l w left (tok.Name n) = if takes_word w && is_declared (scope l) n then Some (state.Have (item.Word (roll-CExpr (CExpr-F.Name n)))) else None
begin l w left (tok.Fn1 f) = if takes_word w && nat_le 2 left then Some (state.Call (call.One f)) else None
begin l w left (tok.Fn2 f) = if takes_word w && nat_le 2 left then Some (state.Call (call.Two f)) else None
begin l w left (tok.Fn3 f) = if takes_word w && nat_le 2 left then Some (state.Call (call.Three f)) else None
begin l w left tok.Open = if nat_le 2 left then Some (state.Paren w) else None
begin l w left _ = None

-- inside a first part
abbrev pub first : Wanted → Option State → Option Turn
first w None = None
first w (Some s) = Some (opens (open'.First w) s)

-- the token after `(`
abbrev pub paren : Locals → Wanted → ℕ → Token → Option Turn
paren l w left tok.Tilde = if takes_word w then Some (opens open'.NotWord (state.Want want.Word)) else None
paren l w left tok.Bang = if takes_cond w && nat_le 3 left then Some (opens open'.NotCond (state.Want want.Cond)) else None
paren l w left x = first w (begin l want.Either (left - 1) x)

-- a function's first argument
abbrev pub argument : Call → Open
argument (call.One f) = open'.One f
argument (call.Two f) = open'.TwoFirst f
argument (call.Three f) = open'.ThreeFirst f

-- the token after a function's name
abbrev pub called : Call → Token → Option Turn
called f tok.Open = Some (opens (argument f) (state.Want want.Word))
called f _ = None

-- where `)`, `,` or `:` must come
abbrev pub at_close : Item → Token → Option Turn
at_close i tok.Close = Some (stays (state.Have i))
at_close i _ = None

abbrev pub at_comma : Open → Token → Option Turn
at_comma o tok.Comma = Some (opens o (state.Want want.Word))
at_comma o _ = None

abbrev pub at_colon : Open → Token → Option Turn
at_colon o tok.Colon = Some (opens o (state.Want want.Word))
at_colon o _ = None

-- the sign after a first Word, and after a first Cond
abbrev pub word_sign : Wanted → CExpr → Token → Option Turn
word_sign w a (tok.Op op) = if takes_word w then Some (opens (open'.Bin op a) (state.Want want.Word)) else None
word_sign w a (tok.Compare op) = if takes_cond w then Some (opens (open'.Cmp op a) (state.Want want.Word)) else None
word_sign w a _ = None

abbrev pub cond_sign : Wanted → CCond → Token → Option Turn
cond_sign w c tok.Question = if takes_word w then Some (opens (open'.PickFirst c) (state.Want want.Word)) else None
cond_sign w c tok.Both = if takes_cond w then Some (opens (open'.And c) (state.Want want.Cond)) else None
cond_sign w c tok.Either = if takes_cond w then Some (opens (open'.Or c) (state.Want want.Cond)) else None
cond_sign w c _ = None

-- the token after a Word, and after a Cond, that is whole inside an open part
abbrev pub after_word : Open → CExpr → Token → Option Turn
after_word open'.NotWord a = at_close (item.Word (roll-CExpr (CExpr-F.«CExpr::Not» a)))
after_word open'.NotCond a = λ x. None
after_word (open'.First w) a = word_sign w a
after_word (open'.Bin op a) b = at_close (item.Word (roll-CExpr (CExpr-F.Bin op a b)))
after_word (open'.Cmp op a) b = at_close (item.Cond (roll-CCond (CCond-F.Cmp op a b)))
after_word (open'.And c) a = λ x. None
after_word (open'.Or c) a = λ x. None
after_word (open'.PickFirst c) a = at_colon (open'.PickSecond c a)
after_word (open'.PickSecond c a) b = at_close (item.Word (roll-CExpr (CExpr-F.Pick c a b)))
after_word (open'.One f) a = at_close (item.Word (roll-CExpr (CExpr-F.Fn1 f a)))
after_word (open'.TwoFirst f) a = at_comma (open'.TwoSecond f a)
after_word (open'.TwoSecond f a) b = at_close (item.Word (roll-CExpr (CExpr-F.Fn2 f a b)))
after_word (open'.ThreeFirst f) a = at_comma (open'.ThreeSecond f a)
after_word (open'.ThreeSecond f a) b = at_comma (open'.ThreeThird f a b)
after_word (open'.ThreeThird f a b) d = at_close (item.Word (roll-CExpr (CExpr-F.Fn3 f a b d)))

abbrev pub after_cond : Open → CCond → Token → Option Turn
after_cond open'.NotWord c = λ x. None
after_cond open'.NotCond c = at_close (item.Cond (roll-CCond (CCond-F.«CCond::Not» c)))
after_cond (open'.First w) c = cond_sign w c
after_cond (open'.Bin op a) c = λ x. None
after_cond (open'.Cmp op a) c = λ x. None
after_cond (open'.And c) d = at_close (item.Cond (roll-CCond (CCond-F.And c d)))
after_cond (open'.Or c) d = at_close (item.Cond (roll-CCond (CCond-F.Or c d)))
after_cond (open'.PickFirst d) c = λ x. None
after_cond (open'.PickSecond d a) c = λ x. None
after_cond (open'.One f) c = λ x. None
after_cond (open'.TwoFirst f) c = λ x. None
after_cond (open'.TwoSecond f a) c = λ x. None
after_cond (open'.ThreeFirst f) c = λ x. None
after_cond (open'.ThreeSecond f a) c = λ x. None
after_cond (open'.ThreeThird f a b) c = λ x. None

abbrev pub after : Open → Item → Token → Option Turn
after o (item.Word a) = after_word o a
after o (item.Cond c) = after_cond o c

-- a part that stays, where one is
abbrev pub staying : Option State → Option Turn
staying None = None
staying (Some s) = Some (stays s)

-- the token after a part that isn't whole
abbrev pub turn : Locals → ℕ → State → Token → Option Turn
turn l left (state.Want w) x = staying (begin l w left x)
turn l left (state.Paren w) x = paren l w left x
turn l left (state.Call f) x = called f x
turn l left (state.Have i) x = None

-- how much depth is left for a part inside these open ones, the innermost first
abbrev pub depth_left : List Open → ℕ
depth_left [] = 256
depth_left (o ∷ os) = depth_left os - 1

-- The open parts and the innermost one.
pub record Reading : Type 0 where
  pub state : State
  pub open' : List Open

-- a Word or Cond of which nothing has been read
abbrev pub begun : Wanted → Reading
begun w = record { state = state.Want w; open' = [] }

-- the open parts with one more, if there is one
abbrev pub pushed : Option Open → List Open → List Open
pushed None os = os
pushed (Some o) os = o ∷ os

abbrev pub turned : List Open → Option Turn → Option Reading
turned os None = None
turned os (Some t) = Some (record { state = t.state; open' = pushed t.round os })

-- The token after what was read; none where no Word or Cond goes on with it. A whole part is inside the innermost open one.
abbrev pub step_of : Locals → State → List Open → Token → Option Reading
step_of l (state.Want w) os x = turned os (turn l (depth_left os) (state.Want w) x)
step_of l (state.Paren w) os x = turned os (turn l (depth_left os) (state.Paren w) x)
step_of l (state.Call f) os x = turned os (turn l (depth_left os) (state.Call f) x)
step_of l (state.Have i) [] x = None
step_of l (state.Have i) (o ∷ os) x = turned os (after o i x)
