-- What the next token settles, and what it makes of a Word or Cond.
use Rattle.std.proofs.Common.{◌≡◌, List, [], ◌∷◌, None, refl, sym, ap}
use Rattle.dream_words.specs.declared.machine.Name.{Name}
use Rattle.dream_words.specs.declared.machine.Width.{Width}
use Rattle.c_syntax.specs.declared.syntax.CArm.{CArm}
use Rattle.c_syntax.specs.declared.syntax.CStmt.{CStmt, CStmt-F, roll-CStmt}
use Rattle.c_syntax.specs.declared.token.Token.{Token}
use Rattle.c_syntax.specs.declared.token.Token.TheVariants as tok
use Rattle.read_words.specs.declared.open.Item.{Item}
use Rattle.read_words.specs.declared.open.Locals.{Locals}
use Rattle.read_words.specs.declared.open.State as words_state
use Rattle.read_words.specs.declared.open.State.TheVariants as state
use Rattle.read_words.specs.declared.open.Open as words_open
use Rattle.read_words.specs.Turns as words
use Rattle.read_words.specs.Turns.{Reading}
use Rattle.read_words.specs.Reads.{IsOpen}
use Rattle.read_statements.specs.declared.open.Open.{Open}
use Rattle.read_statements.specs.declared.open.Point.{Point}
use Rattle.read_statements.specs.declared.open.Point.TheVariants as point
use Rattle.read_statements.specs.declared.open.Use.{Use}
use Rattle.read_statements.specs.declared.open.Use.TheVariants as use'
use Rattle.read_statements.specs.Turns.{At, Inside, part, placed, done, settled_assign, settled_while, settled_if, settled_at, turned, after_part, part_step, place_step, went}

pub no_load_set : (n : Name) (x : Token) → ((w : Width) → x ≡ tok.Ld w → ⊥) → part (use'.Set n) ≡ settled_assign n x
no_load_set n (tok.Ld w) h = absurd (h w refl)
no_load_set n _ h = refl

pub no_one_test : (x : Token) → (x ≡ tok.One → ⊥) → part use'.While ≡ settled_while x
no_one_test tok.One h = absurd (h refl)
no_one_test _ h = refl

module _ (os : List Open) (ss : List CStmt) where
  pub no_else_done : (arms : List CArm) (x : Token) → (x ≡ tok.Else → ⊥) → done os ss (roll-CStmt (CStmt-F.If arms None)) ≡ settled_if os ss arms x
  no_else_done arms tok.Else h = absurd (h refl)
  no_else_done arms _ h = refl

  pub stays : (p : Point) (x : Token) → ((n : Name) → p ≡ point.Assigned n → ⊥) → (p ≡ point.WhileTest → ⊥) → ((arms : List CArm) → p ≡ point.AfterArm arms → ⊥)
      → placed os ss (At p) ≡ settled_at os ss p x
  stays (point.Assigned n) x h k m = absurd (h n refl)
  stays point.WhileTest x h k m = absurd (k refl)
  stays (point.AfterArm arms) x h k m = absurd (m arms refl)
  stays _ x h k m = refl

module _ (l : Locals) (os : List Open) (ss : List CStmt) (u : Use) where
  pub whole_step : (r : Reading) (i : Item) (x : Token) → r ≡ record { state = state.Have i; open' = [] } → turned os ss (after_part u i x) ≡ place_step l os ss (Inside u r) x
  whole_step r i x e = ap (λ (q : Reading). place_step l os ss (Inside u q) x) (sym e)

  open_part : (s : words_state.State) (ws : List words_open.Open) (x : Token) → IsOpen s ws → went os ss u (words.step_of l s ws x) ≡ part_step l os ss u s ws x
  open_part (state.Want w) ws x o = refl
  open_part (state.Paren w) ws x o = refl
  open_part (state.Call f) ws x o = refl
  open_part (state.Have i) [] x o = absurd o
  open_part (state.Have i) (w ∷ ws) x o = refl

  pub open_step : (r : Reading) (x : Token) → IsOpen r.state r.open' → went os ss u (words.step_of l r.state r.open' x) ≡ place_step l os ss (Inside u r) x
  open_step r x o = open_part r.state r.open' x o
