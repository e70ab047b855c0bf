-- With which tokens a Word or Cond that is being read goes on. This shares nothing with the reading of a token.
use Rattle.std.specs.Prelude.{◌≡◌, ◌⊎◌, ℕ, ◌-◌, ◌≤◌, true, List, [], ◌∷◌}
use Rattle.c_syntax.specs.declared.syntax.CExpr.{CExpr, CExpr-F, roll-CExpr}
use Rattle.c_syntax.specs.declared.syntax.CCond.{CCond, CCond-F, roll-CCond}
use Rattle.c_syntax.specs.declared.token.Token.{Token}
use Rattle.c_syntax.specs.declared.token.Token.TheVariants as tok
use Rattle.c_syntax.specs.Tokens.{word_tokens, cond_tokens}
use Rattle.c_syntax.specs.Depth.{word_depth, cond_depth}
use Rattle.c_syntax.specs.Formed.{names_word, names_cond}
use Rattle.read_words.specs.declared.open.Locals.{Locals}
use Rattle.read_words.specs.declared.open.Item.{Item}
use Rattle.read_words.specs.declared.open.Item.TheVariants as item
use Rattle.read_words.specs.declared.open.Wanted.{Wanted}
use Rattle.read_words.specs.declared.open.Wanted.TheVariants as want
use Rattle.read_words.specs.declared.open.Open.{Open}
use Rattle.read_words.specs.declared.open.Open.TheVariants as open'
use Rattle.read_words.specs.declared.open.State.{State}
use Rattle.read_words.specs.declared.open.State.TheVariants as state
use Rattle.read_words.specs.Turns.{scope, takes_word, takes_cond, argument, depth_left}

-- the tokens of a Word or Cond, in front of those that follow it
abbrev pub item_tokens : Item → List Token → List Token
item_tokens (item.Word a) = word_tokens a
item_tokens (item.Cond c) = cond_tokens c

-- its numbers and names are allowed where these locals are declared, and it is at most so deep
pub record FitsWord (l : Locals) (left : ℕ) (a : CExpr) : Type 0 where
  pub names : names_word (scope l) a ≡ true
  pub deep : word_depth a ≤ left

pub record FitsCond (l : Locals) (left : ℕ) (c : CCond) : Type 0 where
  pub names : names_cond (scope l) c ≡ true
  pub deep : cond_depth c ≤ left

-- it may stand at a place where this is wanted, and so much depth is left
abbrev pub Fits : Locals → Wanted → ℕ → Item → Type 0
Fits l w left (item.Word a) = (takes_word w ≡ true) × FitsWord l left a
Fits l w left (item.Cond c) = (takes_cond w ≡ true) × FitsCond l left c

-- which tokens may follow a Word or Cond
abbrev pub Rest : Type 1
Rest = Item → List Token → Type 0

-- a token, and then tokens of which something holds
abbrev pub Follows : Token → (List Token → Type 0) → List Token → Type 0
Follows x P ts = (r : List Token) × (ts ≡ x ∷ r) × P r

-- a Word or Cond that may stand there, and then tokens that may follow it
abbrev pub Wants : Locals → Wanted → ℕ → Rest → List Token → Type 0
Wants l w left k ts = (i : Item) × Fits l w left i × ((r : List Token) × (ts ≡ item_tokens i r) × k i r)

-- What follows a part that is a Word, and one that is a Cond.
abbrev pub WordThen : (CExpr → List Token → Type 0) → Rest
WordThen P (item.Word a) = P a
WordThen P (item.Cond c) = λ ts. ⊥

abbrev pub CondThen : (CCond → List Token → Type 0) → Rest
CondThen P (item.Word a) = λ ts. ⊥
CondThen P (item.Cond c) = P c

-- after the last part: `)`, and what may follow the whole
abbrev pub LastWord : Rest → (CExpr → Item) → Rest
LastWord k whole = WordThen (λ a. Follows tok.Close (k (whole a)))

abbrev pub LastCond : Rest → (CCond → Item) → Rest
LastCond k whole = CondThen (λ c. Follows tok.Close (k (whole c)))

-- after a part and a `,` or `:` one more Word
abbrev pub NextWord : Locals → ℕ → Token → (CExpr → Rest) → Rest
NextWord l left x next = WordThen (λ a. Follows x (Wants l want.Word (left - 1) (next a)))

-- the sign and the second part after a first Word, and after a first Cond
abbrev pub WordSign : Locals → ℕ → Rest → Wanted → CExpr → List Token → Type 0
WordSign l left k w a [] = ⊥
WordSign l left k w a (tok.Op op ∷ ts) = (takes_word w ≡ true) × Wants l want.Word (left - 1) (LastWord k (λ b. item.Word (roll-CExpr (CExpr-F.Bin op a b)))) ts
WordSign l left k w a (tok.Compare op ∷ ts) = (takes_cond w ≡ true) × Wants l want.Word (left - 1) (LastWord k (λ b. item.Cond (roll-CCond (CCond-F.Cmp op a b)))) ts
WordSign l left k w a (_ ∷ ts) = ⊥

abbrev pub CondSign : Locals → ℕ → Rest → Wanted → CCond → List Token → Type 0
CondSign l left k w c [] = ⊥
CondSign l left k w c (tok.Question ∷ ts) =
    (takes_word w ≡ true) × Wants l want.Word (left - 1) (NextWord l left tok.Colon (λ a. LastWord k (λ b. item.Word (roll-CExpr (CExpr-F.Pick c a b))))) ts
CondSign l left k w c (tok.Both ∷ ts) = (takes_cond w ≡ true) × Wants l want.Cond (left - 1) (LastCond k (λ d. item.Cond (roll-CCond (CCond-F.And c d)))) ts
CondSign l left k w c (tok.Either ∷ ts) = (takes_cond w ≡ true) × Wants l want.Cond (left - 1) (LastCond k (λ d. item.Cond (roll-CCond (CCond-F.Or c d)))) ts
CondSign l left k w c (_ ∷ ts) = ⊥

abbrev pub Sign : Locals → ℕ → Rest → Wanted → Rest
Sign l left k w (item.Word a) = WordSign l left k w a
Sign l left k w (item.Cond c) = CondSign l left k w c

-- what may follow a part inside an open one of so much depth
abbrev pub After : Locals → ℕ → Rest → Open → Rest
After l left k open'.NotWord = LastWord k (λ a. item.Word (roll-CExpr (CExpr-F.«CExpr::Not» a)))
After l left k open'.NotCond = LastCond k (λ c. item.Cond (roll-CCond (CCond-F.«CCond::Not» c)))
After l left k (open'.First w) = Sign l left k w
After l left k (open'.Bin op a) = LastWord k (λ b. item.Word (roll-CExpr (CExpr-F.Bin op a b)))
After l left k (open'.Cmp op a) = LastWord k (λ b. item.Cond (roll-CCond (CCond-F.Cmp op a b)))
After l left k (open'.And c) = LastCond k (λ d. item.Cond (roll-CCond (CCond-F.And c d)))
After l left k (open'.Or c) = LastCond k (λ d. item.Cond (roll-CCond (CCond-F.Or c d)))
After l left k (open'.PickFirst c) = NextWord l left tok.Colon (λ a. LastWord k (λ b. item.Word (roll-CExpr (CExpr-F.Pick c a b))))
After l left k (open'.PickSecond c a) = LastWord k (λ b. item.Word (roll-CExpr (CExpr-F.Pick c a b)))
After l left k (open'.One f) = LastWord k (λ a. item.Word (roll-CExpr (CExpr-F.Fn1 f a)))
After l left k (open'.TwoFirst f) = NextWord l left tok.Comma (λ a. LastWord k (λ b. item.Word (roll-CExpr (CExpr-F.Fn2 f a b))))
After l left k (open'.TwoSecond f a) = LastWord k (λ b. item.Word (roll-CExpr (CExpr-F.Fn2 f a b)))
After l left k (open'.ThreeFirst f) =
    NextWord l left tok.Comma (λ a. NextWord l left tok.Comma (λ b. LastWord k (λ d. item.Word (roll-CExpr (CExpr-F.Fn3 f a b d)))))
After l left k (open'.ThreeSecond f a) = NextWord l left tok.Comma (λ b. LastWord k (λ d. item.Word (roll-CExpr (CExpr-F.Fn3 f a b d))))
After l left k (open'.ThreeThird f a b) = LastWord k (λ d. item.Word (roll-CExpr (CExpr-F.Fn3 f a b d)))

-- after `(`: `~` and a Word, `!` and a Cond, or a first part
abbrev pub InParens : Locals → ℕ → Rest → Wanted → List Token → Type 0
InParens l left k w ts =
    ((takes_word w ≡ true) × Follows tok.Tilde (Wants l want.Word (left - 1) (After l left k open'.NotWord)) ts)
    ⊎ (((takes_cond w ≡ true) × Follows tok.Bang (Wants l want.Cond (left - 1) (After l left k open'.NotCond)) ts)
    ⊎ Wants l want.Either (left - 1) (After l left k (open'.First w)) ts)

-- what may follow the innermost part, as far as it was read
abbrev pub StateRest : Locals → ℕ → Rest → State → List Token → Type 0
StateRest l left k (state.Want w) = Wants l w left k
StateRest l left k (state.Paren w) = InParens l left k w
StateRest l left k (state.Call f) = Follows tok.Open (Wants l want.Word (left - 1) (After l left k (argument f)))
StateRest l left k (state.Have i) = k i

-- what may follow the innermost part, where the outermost one is followed so
abbrev pub Rests : Locals → Rest → List Open → Rest
Rests l k [] = k
Rests l k (o ∷ os) = After l (depth_left os) (Rests l k os) o

-- the tokens with which a Word or Cond goes on from what was read
abbrev pub GoesOn : Locals → Rest → State → List Open → List Token → Type 0
GoesOn l k s os = StateRest l (depth_left os) (Rests l k os) s
