-- The tokens of a head and of declarations.
use Rattle.std.proofs.Common.{◌≡◌, ℕ, ◌-◌, ◌^◌, ◌<◌, true, false, ◌&&◌, nat_eq, nat_lt, Some, None, if◌then◌else◌, refl, sym, ap, ◌∙◌, arith}
use Rattle.std.proofs.lemmas.Bool.{eqb-true}
use borrow.Author.Tests.{ltb-true}
use Rattle.dream_words.specs.declared.machine.Name.{Name}
use Rattle.dream_words.specs.declared.machine.Name.TheVariants as name
use Rattle.c_syntax.specs.declared.token.Token.{Token}
use Rattle.c_syntax.specs.declared.token.Token.TheVariants as tok
use Rattle.read_words.specs.declared.open.Locals.{Locals}
use Rattle.read_words.proofs.Fitting.{both_true}
use Rattle.read_statements.specs.declared.open.Decl.TheVariants as decl
use Rattle.read_statements.specs.Turns.{Declaring, may_declare, with_local, at_function, first_step, next_decl, at_local}

pub no_function : (x : Token) → ((a : ℕ) → x ≡ tok.Function a → ⊥) → None ≡ at_function x
no_function (tok.Function a) h = absurd (h a refl)
no_function _ h = refl

-- there is a number left for a local that may be declared
module _ (l : Locals) (n : ℕ) where
  pub next_temp : may_declare l (name.T n) ≡ true → l.temps < 2 ^ 32 - 1
  next_temp h =
      let p = both_true (nat_eq n l.temps) (nat_eq l.bools 0 && (nat_eq l.selectors 0 && nat_lt n (2 ^ 32 - 1))) h in
      let q = both_true (nat_eq l.bools 0) (nat_eq l.selectors 0 && nat_lt n (2 ^ 32 - 1)) p.1 in
      let r = both_true (nat_eq l.selectors 0) (nat_lt n (2 ^ 32 - 1)) q.1 in
      let e : n ≡ l.temps = eqb-true n l.temps p.0 in
      let m : n < 2 ^ 32 - 1 = ltb-true n (2 ^ 32 - 1) r.1 in
      omega arith

  pub next_bool : may_declare l (name.B n) ≡ true → l.bools < 2 ^ 32 - 1
  next_bool h =
      let q = both_true (nat_eq n l.bools) (nat_eq l.selectors 0 && nat_lt n (2 ^ 32 - 1)) h in
      let r = both_true (nat_eq l.selectors 0) (nat_lt n (2 ^ 32 - 1)) q.1 in
      let e : n ≡ l.bools = eqb-true n l.bools q.0 in
      let m : n < 2 ^ 32 - 1 = ltb-true n (2 ^ 32 - 1) r.1 in
      omega arith

  pub next_selector : may_declare l (name.S n) ≡ true → l.selectors < 2 ^ 32 - 1
  next_selector h =
      let r = both_true (nat_eq n l.selectors) (nat_lt n (2 ^ 32 - 1)) h in
      let e : n ≡ l.selectors = eqb-true n l.selectors r.0 in
      let m : n < 2 ^ 32 - 1 = ltb-true n (2 ^ 32 - 1) r.1 in
      omega arith

module _ (a : ℕ) (l : Locals) (x : Token) where
  pub no_such_local : (n : Name) → x ≡ tok.Name n → false ≡ may_declare l n → None ≡ at_local a l x
  no_such_local n e h = ap (λ b. if b then Some (Declaring a (with_local l n) decl.Assign) else None) h ∙ ap (at_local a l) (sym e)

pub no_name : (a : ℕ) (l : Locals) (x : Token) → ((n : Name) → x ≡ tok.Name n → ⊥) → None ≡ at_local a l x
no_name a l (tok.Name n) h = absurd (h n refl)
no_name a l _ h = refl

pub no_decl : (a : ℕ) (l : Locals) (x : Token) → (x ≡ tok.Uint32 → ⊥) → first_step a l x ≡ next_decl a l x
no_decl a l tok.Uint32 h = absurd (h refl)
no_decl a l _ h = refl
