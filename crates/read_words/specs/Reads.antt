-- What the reading of a token keeps, and its laws.
use Rattle.std.specs.Prelude.{◌≡◌, ℕ, ◌-◌, ◌≤◌, true, List, [], ◌∷◌, Option, Some, None}
use Rattle.c_syntax.specs.declared.token.Token.{Token}
use Rattle.c_lex.specs.Lexemes.{IsToken}
use Rattle.read_words.specs.declared.open.Locals.{Locals}
use Rattle.read_words.specs.declared.open.Item.{Item}
use Rattle.read_words.specs.declared.open.Wanted.{Wanted}
use Rattle.read_words.specs.declared.open.Wanted.TheVariants as want
use Rattle.read_words.specs.declared.open.Open.{Open}
use Rattle.read_words.specs.declared.open.Open.TheVariants as open'
use Rattle.read_words.specs.declared.open.State.{State}
use Rattle.read_words.specs.declared.open.State.TheVariants as state
use Rattle.read_words.specs.Turns.{Reading, takes_word, takes_cond, depth_left, step_of}
use Rattle.read_words.specs.Rests.{Rest, Fits, FitsWord, FitsCond, GoesOn, item_tokens}

-- what is wanted inside an open part
abbrev pub wanted_in : Open → Wanted
wanted_in open'.NotWord = want.Word
wanted_in open'.NotCond = want.Cond
wanted_in (open'.First w) = want.Either
wanted_in (open'.Bin op a) = want.Word
wanted_in (open'.Cmp op a) = want.Word
wanted_in (open'.And c) = want.Cond
wanted_in (open'.Or c) = want.Cond
wanted_in (open'.PickFirst c) = want.Word
wanted_in (open'.PickSecond c a) = want.Word
wanted_in (open'.One f) = want.Word
wanted_in (open'.TwoFirst f) = want.Word
wanted_in (open'.TwoSecond f a) = want.Word
wanted_in (open'.ThreeFirst f) = want.Word
wanted_in (open'.ThreeSecond f a) = want.Word
wanted_in (open'.ThreeThird f a b) = want.Word

-- an open part where this is wanted and so much depth is left: it may be what is wanted, and its parts fit
abbrev pub OpenFits : Locals → Wanted → ℕ → Open → Type 0
OpenFits l w left open'.NotWord = (takes_word w ≡ true) × (2 ≤ left)
OpenFits l w left open'.NotCond = (takes_cond w ≡ true) × (3 ≤ left)
OpenFits l w left (open'.First v) = (v ≡ w) × (2 ≤ left)
OpenFits l w left (open'.Bin op a) = (takes_word w ≡ true) × FitsWord l (left - 1) a
OpenFits l w left (open'.Cmp op a) = (takes_cond w ≡ true) × FitsWord l (left - 1) a
OpenFits l w left (open'.And c) = (takes_cond w ≡ true) × FitsCond l (left - 1) c
OpenFits l w left (open'.Or c) = (takes_cond w ≡ true) × FitsCond l (left - 1) c
OpenFits l w left (open'.PickFirst c) = (takes_word w ≡ true) × FitsCond l (left - 1) c
OpenFits l w left (open'.PickSecond c a) = (takes_word w ≡ true) × FitsCond l (left - 1) c × FitsWord l (left - 1) a
OpenFits l w left (open'.One f) = (takes_word w ≡ true) × (2 ≤ left)
OpenFits l w left (open'.TwoFirst f) = (takes_word w ≡ true) × (2 ≤ left)
OpenFits l w left (open'.TwoSecond f a) = (takes_word w ≡ true) × FitsWord l (left - 1) a
OpenFits l w left (open'.ThreeFirst f) = (takes_word w ≡ true) × (2 ≤ left)
OpenFits l w left (open'.ThreeSecond f a) = (takes_word w ≡ true) × FitsWord l (left - 1) a
OpenFits l w left (open'.ThreeThird f a b) = (takes_word w ≡ true) × FitsWord l (left - 1) a × FitsWord l (left - 1) b

-- there is depth for what is wanted: a Word needs 1, a Cond 2
abbrev pub HasDepth : Wanted → ℕ → Type 0
HasDepth want.Word left = 1 ≤ left
HasDepth want.Cond left = 2 ≤ left
HasDepth want.Either left = 1 ≤ left

abbrev pub StateFits : Locals → Wanted → ℕ → State → Type 0
StateFits l w left (state.Want v) = (v ≡ w) × HasDepth w left
StateFits l w left (state.Paren v) = (v ≡ w) × (2 ≤ left)
StateFits l w left (state.Call f) = (takes_word w ≡ true) × (2 ≤ left)
StateFits l w left (state.Have i) = Fits l w left i

-- what is wanted inside the innermost open part
abbrev pub wanted : Wanted → List Open → Wanted
wanted w [] = w
wanted w (o ∷ os) = wanted_in o

abbrev pub OpenFit : Locals → Wanted → List Open → Type 0
OpenFit l w [] = Unit {0}
OpenFit l w (o ∷ os) = OpenFits l (wanted w os) (depth_left os) o × OpenFit l w os

-- What was read, where the outermost part was wanted so: all of it fits.
pub record IsRead (l : Locals) (w : Wanted) (r : Reading) : Type 0 where
  pub open_fit : OpenFit l w r.open'
  pub state_fits : StateFits l (wanted w r.open') (depth_left r.open') r.state

-- it isn't the whole of what is wanted yet
abbrev pub IsOpen : State → List Open → Type 0
IsOpen (state.Want w) os = Unit {0}
IsOpen (state.Paren w) os = Unit {0}
IsOpen (state.Call f) os = Unit {0}
IsOpen (state.Have i) [] = ⊥
IsOpen (state.Have i) (o ∷ os) = Unit {0}

-- A token was read: the tokens after it are those with which what was read goes on after it. Or it was refused: what was
-- read goes on with no tokens that begin so.
abbrev pub IsStep : Locals → Wanted → Rest → Option Reading → List Token → Type 0 → Type 0
IsStep l w k None ts before = before → ⊥
IsStep l w k (Some r) ts before = IsRead l w r × ((before → GoesOn l k r.state r.open' ts) × (GoesOn l k r.state r.open' ts → before))

-- What is whole is this Word or Cond, and no token comes after it.
abbrev pub Ends : Item → Rest
Ends j i ts = (ts ≡ []) × (i ≡ j)

-- A token is read exactly where what was read goes on with it, and then the tokens after it are those with which it goes
-- on.
abbrev pub OneToken : Type 0
OneToken = (l : Locals) (w : Wanted) (j : Item) (r : Reading) (x : Token) (ts : List Token) → IsRead l w r → IsOpen r.state r.open' → IsToken x
    → IsStep l w (Ends j) (step_of l r.state r.open' x) ts (GoesOn l (Ends j) r.state r.open' (x ∷ ts))

-- What was read can be completed to a Word or Cond that fits.
abbrev pub CanGoOn : Type 0
CanGoOn = (l : Locals) (w : Wanted) (r : Reading) → IsRead l w r → (j : Item) × Fits l w 256 j × ((ts : List Token) × GoesOn l (Ends j) r.state r.open' ts)

-- What isn't whole doesn't go on with no tokens.
abbrev pub NotTheEnd : Type 0
NotTheEnd = (l : Locals) (j : Item) (r : Reading) → IsOpen r.state r.open' → GoesOn l (Ends j) r.state r.open' [] → ⊥

-- At the start a Word or Cond goes on with just the tokens of those that fit.
abbrev pub FromTheStart : Type 0
FromTheStart = (l : Locals) (w : Wanted) (j : Item) (ts : List Token)
    → (GoesOn l (Ends j) (state.Want w) [] ts → Fits l w 256 j × (ts ≡ item_tokens j [])) × (Fits l w 256 j × (ts ≡ item_tokens j []) → GoesOn l (Ends j) (state.Want w) [] ts)
