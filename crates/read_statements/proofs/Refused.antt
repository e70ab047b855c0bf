-- The tokens that a place in a Body refuses.
use Rattle.std.proofs.Common.{◌≡◌, ℕ, zero, suc, ◌<◌, Bool, false, List, [], Some, None, nat_le, refl, sym, ap, ◌∙◌, if◌then◌else◌, arith}
use Rattle.dream_words.specs.declared.machine.Name.{Name}
use Rattle.dream_words.specs.declared.machine.Width.{Width}
use Rattle.c_syntax.specs.declared.syntax.CArm.{CArm}
use Rattle.c_syntax.specs.declared.syntax.CStmt.{CStmt-F, roll-CStmt}
use Rattle.c_syntax.specs.declared.token.Token.{Token}
use Rattle.c_syntax.specs.declared.token.Token.TheVariants as tok
use Rattle.c_syntax.specs.Formed.{is_target}
use Rattle.read_words.specs.declared.open.Locals.{Locals}
use Rattle.read_words.specs.Turns.{scope}
use Rattle.read_statements.specs.declared.open.Nest.TheVariants as nest
use Rattle.read_statements.specs.declared.open.Point.TheVariants as point
use Rattle.read_statements.specs.declared.open.Turn.{Turn}
use Rattle.read_statements.specs.declared.open.Turn.TheVariants as turn'
use Rattle.read_statements.specs.declared.open.Use.TheVariants as use'
use Rattle.read_statements.specs.declared.open.Switching.{Switching}
use Rattle.read_statements.specs.Turns.{at_stmt, at_load, trap_number, at_one, at_else, after_else, has_room, at_group, after_case}

-- what a test doesn't let through
refused : {b : Bool} (t : Turn) → false ≡ b → None ≡ (if b then Some t else None)
refused t h = ap (λ b. if b then Some t else None) h

pub no_load : (n : Name) (x : Token) → ((w : Width) → x ≡ tok.Ld w → ⊥) → None ≡ at_load n x
no_load n (tok.Ld w) h = absurd (h w refl)
no_load n _ h = refl

pub no_trap : (x : Token) → ((v : ℕ) → x ≡ tok.Num v → ⊥) → None ≡ trap_number x
no_trap (tok.Num v) h = absurd (h v refl)
no_trap _ h = refl

pub no_one : (x : Token) → (x ≡ tok.One → ⊥) → None ≡ at_one x
no_one tok.One h = absurd (h refl)
no_one _ h = refl

pub no_else : (arms : List CArm) (x : Token) → (x ≡ tok.Else → ⊥) → None ≡ at_else arms x
no_else arms tok.Else h = absurd (h refl)
no_else arms _ h = refl

pub no_branch : (arms : List CArm) (x : Token) → (x ≡ tok.If → ⊥) → (x ≡ tok.Begin → ⊥) → None ≡ after_else arms x
no_branch arms tok.If h k = absurd (h refl)
no_branch arms tok.Begin h k = absurd (k refl)
no_branch arms _ h k = refl

pub no_group : (s : Switching) (x : Token) → (x ≡ tok.Case → ⊥) → (x ≡ tok.Default → ⊥) → None ≡ at_group s x
no_group s tok.Case h k = absurd (h refl)
no_group s tok.Default h k = absurd (k refl)
no_group s _ h k = refl

pub full_group : (s : Switching) (x : Token) → x ≡ tok.Case → false ≡ has_room s → None ≡ at_group s x
full_group s x e h = refused (turn'.To (point.CaseNumber s [])) h ∙ ap (at_group s) (sym e)

pub no_case : (s : Switching) (values : List ℕ) (x : Token) → (x ≡ tok.Case → ⊥) → (x ≡ tok.Begin → ⊥) → None ≡ after_case s values x
no_case s values tok.Case h k = absurd (h refl)
no_case s values tok.Begin h k = absurd (k refl)
no_case s values _ h k = refl

pub full_case : (s : Switching) (values : List ℕ) (x : Token) → x ≡ tok.Case → false ≡ has_room s → None ≡ after_case s values x
full_case s values x e h = refused (turn'.To (point.CaseNumber s values)) h ∙ ap (after_case s values) (sym e)

-- no depth is left
pub no_depth : (n left : ℕ) → n < 1 → n ≡ left → false ≡ nat_le 1 left
no_depth zero left h e = ap (nat_le 1) e
no_depth (suc n) left h e = absurd (omega arith)

-- the first token of a statement
module _ (l : Locals) (b : Bool) (left : ℕ) (x : Token) where
  pub no_target : (n : Name) → x ≡ tok.Name n → false ≡ is_target (scope l) n → None ≡ at_stmt l b left x
  no_target n e h = refused (turn'.To (point.Named n)) h ∙ ap (at_stmt l b left) (sym e)

  pub no_if : x ≡ tok.If → false ≡ nat_le 1 left → None ≡ at_stmt l b left x
  no_if e h = refused (turn'.To (point.Called (use'.If []))) h ∙ ap (at_stmt l b left) (sym e)

  pub no_switch : x ≡ tok.Switch → false ≡ nat_le 1 left → None ≡ at_stmt l b left x
  no_switch e h = refused (turn'.To (point.Called use'.Switch)) h ∙ ap (at_stmt l b left) (sym e)

  pub no_while : x ≡ tok.While → false ≡ nat_le 1 left → None ≡ at_stmt l b left x
  no_while e h = refused (turn'.To point.WhileOpen) h ∙ ap (at_stmt l b left) (sym e)

  pub no_do : x ≡ tok.Do → false ≡ nat_le 1 left → None ≡ at_stmt l b left x
  no_do e h = refused (turn'.To (point.Begins nest.Do)) h ∙ ap (at_stmt l b left) (sym e)

  pub no_break : x ≡ tok.Break → false ≡ b → None ≡ at_stmt l b left x
  no_break e h = refused (turn'.To (point.Semicolon (roll-CStmt CStmt-F.Break))) h ∙ ap (at_stmt l b left) (sym e)

-- a token that begins no statement, and isn't the end
pub record Strange (x : Token) : Type 0 where
  pub name : (n : Name) → x ≡ tok.Name n → ⊥
  pub store : (w : Width) → x ≡ tok.St w → ⊥
  pub ext : x ≡ tok.Ext → ⊥
  pub trap : x ≡ tok.Trap → ⊥
  pub if' : x ≡ tok.If → ⊥
  pub switch : x ≡ tok.Switch → ⊥
  pub while : x ≡ tok.While → ⊥
  pub do' : x ≡ tok.Do → ⊥
  pub break : x ≡ tok.Break → ⊥
  pub return : x ≡ tok.Return → ⊥
  pub end : x ≡ tok.End → ⊥

pub no_stmt : (l : Locals) (b : Bool) (left : ℕ) (x : Token) → Strange x → None ≡ at_stmt l b left x
no_stmt l b left (tok.Name n) h = absurd (h.name n refl)
no_stmt l b left (tok.St w) h = absurd (h.store w refl)
no_stmt l b left tok.Ext h = absurd (h.ext refl)
no_stmt l b left tok.Trap h = absurd (h.trap refl)
no_stmt l b left tok.If h = absurd (h.if' refl)
no_stmt l b left tok.Switch h = absurd (h.switch refl)
no_stmt l b left tok.While h = absurd (h.while refl)
no_stmt l b left tok.Do h = absurd (h.do' refl)
no_stmt l b left tok.Break h = absurd (h.break refl)
no_stmt l b left tok.Return h = absurd (h.return refl)
no_stmt l b left tok.End h = absurd (h.end refl)
no_stmt l b left _ h = refl
