-- The laws on the reading of a token, over all that is open.
use Rattle.std.proofs.Common.{List, [], ◌∷◌, Option, Some, None, sym, subst}
use Rattle.c_syntax.specs.declared.token.Token.{Token}
use Rattle.read_words.specs.declared.open.Locals.{Locals}
use Rattle.read_words.specs.declared.open.Wanted.{Wanted}
use Rattle.read_words.specs.declared.open.Open.{Open}
use Rattle.read_words.specs.declared.open.State.{State}
use Rattle.read_words.specs.declared.open.State.TheVariants as state
use Rattle.read_words.specs.declared.open.Turn.{Turn}
use Rattle.c_lex.specs.Lexemes.{IsToken}
use Rattle.read_words.specs.Turns.{begin, paren, called, after, staying, turned, pushed, depth_left, step_of}
use Rattle.read_words.specs.Rests.{Rest, Wants, After, InParens, StateRest, Rests, GoesOn}
use Rattle.read_words.specs.Reads.{StateFits, OpenFit, wanted, IsOpen, IsStep, Ends, OneToken}
use Rattle.read_words.proofs.Turning.{IsTurn, TurnFits, TurnRest, begin_is, staying_is, paren_is, called_is, after_is}

module _ (l : Locals) (w : Wanted) (k : Rest) where
  -- a turn of the innermost part is a step of all that was read
  step_made : (os : List Open) (t : Option Turn) (ts : List Token) (before : Type 0) → OpenFit l w os → IsTurn l (wanted w os) (depth_left os) (Rests l k os) t ts before → IsStep l w k (turned os t) ts before
  step_made os None ts before f h = h
  step_made os (Some t) ts before f h = made t.round t.state ts before f h
    where
      made : (o : Option Open) (s : State) (ts : List Token) (before : Type 0) → OpenFit l w os
          → TurnFits l (wanted w os) (depth_left os) (Rests l k os) o s × ((before → TurnRest l (wanted w os) (depth_left os) (Rests l k os) o s ts) × (TurnRest l (wanted w os) (depth_left os) (Rests l k os) o s ts → before))
          → IsStep l w k (Some (record { state = s; open' = pushed o os })) ts before
      made None s ts before f h = (record { open_fit = f; state_fits = h.0 }, h.1)
      made (Some o) s ts before f h = (record { open_fit = (h.0.0, f); state_fits = h.0.1 }, h.1)

  pub step_is : (s : State) (os : List Open) (x : Token) (ts : List Token) → OpenFit l w os → StateFits l (wanted w os) (depth_left os) s → IsOpen s os → IsToken x
      → IsStep l w k (step_of l s os x) ts (GoesOn l k s os (x ∷ ts))
  step_is (state.Want v) os x ts f g o i =
      subst (λ q. IsStep l w k (turned os (staying (begin l q (depth_left os) x))) ts (Wants l q (depth_left os) (Rests l k os) (x ∷ ts))) (sym g.0)
      (step_made os (staying (begin l (wanted w os) (depth_left os) x)) ts (Wants l (wanted w os) (depth_left os) (Rests l k os) (x ∷ ts)) f
      (staying_is l (wanted w os) (depth_left os) (Rests l k os) (begin l (wanted w os) (depth_left os) x) ts (Wants l (wanted w os) (depth_left os) (Rests l k os) (x ∷ ts))
      (begin_is l (wanted w os) (depth_left os) (Rests l k os) x ts i g.1)))
  step_is (state.Paren v) os x ts f g o i =
      subst (λ q. IsStep l w k (turned os (paren l q (depth_left os) x)) ts (InParens l (depth_left os) (Rests l k os) q (x ∷ ts))) (sym g.0)
      (step_made os (paren l (wanted w os) (depth_left os) x) ts (InParens l (depth_left os) (Rests l k os) (wanted w os) (x ∷ ts)) f
      (paren_is l (wanted w os) (depth_left os) (Rests l k os) x ts i g.1))
  step_is (state.Call h) os x ts f g o i =
      step_made os (called h x) ts (StateRest l (depth_left os) (Rests l k os) (state.Call h) (x ∷ ts)) f (called_is l (wanted w os) (depth_left os) (Rests l k os) h x ts g.0 g.1)
  step_is (state.Have i) [] x ts f g o j = absurd o
  step_is (state.Have i) (p ∷ os) x ts f g o j =
      step_made os (after p i x) ts (After l (depth_left os) (Rests l k os) p i (x ∷ ts)) f.1 (after_is l (wanted w os) (depth_left os) (Rests l k os) p i x ts f.0 g)

pub one_token_is : OneToken
one_token_is l w j r x ts h o i = step_is l w (Ends j) r.state r.open' x ts h.open_fit h.state_fits o i
