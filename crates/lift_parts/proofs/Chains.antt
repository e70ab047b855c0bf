-- Statements one after another: each leads from one world to the next.
use Rattle.std.proofs.Common.{◌≡◌, ℕ, List, [], ◌∷◌, ◌++◌, Option, Some, None, refl, ap, ◌∙◌, subst}
use Rattle.dream_words.specs.declared.machine.Name.{Name}
use Rattle.dream_words.specs.declared.machine.Width.{Width}
use Rattle.dream_words.specs.declared.outcome.Outcome.TheVariants as outcome
use Rattle.dream_words.specs.Memory.{load, store, bytes_of}
use Rattle.dream_words.specs.Pages.{first_bad}
use Rattle.run_parts.specs.World.{World, with_name}
use Rattle.run_parts.specs.Steps.{Next, Halt, Jam, having, then_do}
use Rattle.run_parts.specs.Effects.{Doing, allowing, setting, loading, storing}
use Rattle.c_syntax.specs.declared.syntax.CExpr.{CExpr}
use Rattle.c_syntax.specs.Value.{word_of}
use Rattle.micro_ir.specs.declared.flow.Stmt.{Stmt}
use Rattle.micro_ir.specs.declared.flow.Stmt.TheVariants as stmt
use Rattle.micro_ir.specs.Run.{stmt_does, stmts_do}
use Rattle.x86_model.specs.Leads.{first_of}
use Rattle.lift_parts.specs.Shown.{Runs, RunsTo, Faults}

pub none_run : (w : World) → Runs [] w w
none_run w = record { runs = refl }

pub set_runs : {w u : World} {rest : List Stmt} (n : Name) (e : CExpr) (x : ℕ) → word_of e w.names ≡ Some x
    → Runs rest (record w { names = with_name w.names n x }) u → Runs (stmt.Set n e ∷ rest) w u
set_runs {w} {u} {rest} n e x h r = record { runs = ap (λ o. then_do (having o (λ x. setting n x w)) (stmts_do rest)) h ∙ r.runs }

-- what comes after something is done, in two parts
then_after : (d : Doing) (f g h : World → Doing) → ((w : World) → f w ≡ then_do (g w) h) → then_do d f ≡ then_do (then_do d g) h
then_after (Next w) f g h e = e w
then_after (Halt o) f g h e = refl
then_after Jam f g h e = refl

append_does : (xs ys : List Stmt) (w : World) → stmts_do (xs ++ ys) w ≡ then_do (stmts_do xs w) (stmts_do ys)
append_does [] ys w = refl
append_does (x ∷ xs) ys w = then_after (stmt_does x w) (stmts_do (xs ++ ys)) (stmts_do xs) (stmts_do ys) (append_does xs ys)

pub runs_append : {w u t : World} (xs ys : List Stmt) → Runs xs w u → Runs ys u t → Runs (xs ++ ys) w t
runs_append {w} {u} {t} xs ys r s = record { runs = append_does xs ys w ∙ ap (λ d. then_do d (stmts_do ys)) r.runs ∙ s.runs }

-- ---- where an access may be refused

-- what follows where no access is refused, and then more
pub then_allowing : (bad : Option ℕ) (w : World) (d : Doing) (k : World → Doing) → then_do (allowing bad w d) k ≡ allowing bad w (then_do d k)
then_allowing None w d k = refl
then_allowing (Some at) w d k = refl

-- of two accesses in their order the first one that is refused faults, where memory and calls stay between them
both_allowing : (a b : Option ℕ) (w u : World) (d : Doing) → u.mem ≡ w.mem → u.calls ≡ w.calls → allowing a w (allowing b u d) ≡ allowing (first_of a b) w d
both_allowing None None w u d m c = refl
both_allowing None (Some at) w u d m c = ap (λ m. Halt (outcome.Faulted 14 at m u.calls)) m ∙ ap (λ cs. Halt (outcome.Faulted 14 at w.mem cs)) c
both_allowing (Some at) b w u d m c = refl

-- no access is refused
pub runs_allowed : {w u : World} {stmts : List Stmt} → Runs stmts w u → RunsTo None stmts w u
runs_allowed r = record { runs = r.runs }

-- the address of a refused access by an equation
pub runs_by : {w u : World} {stmts : List Stmt} (a b : Option ℕ) → a ≡ b → RunsTo a stmts w u → RunsTo b stmts w u
runs_by {w} {u} {stmts} a b e r = subst (λ o. RunsTo o stmts w u) e r

pub set_runs_to : {w u : World} {rest : List Stmt} (bad : Option ℕ) (n : Name) (e : CExpr) (x : ℕ) → word_of e w.names ≡ Some x
    → RunsTo bad rest (record w { names = with_name w.names n x }) u → RunsTo bad (stmt.Set n e ∷ rest) w u
set_runs_to {w} {u} {rest} bad n e x h r = record {
  runs = ap (λ o. then_do (having o (λ x. setting n x w)) (stmts_do rest)) h ∙ r.runs
      ∙ both_allowing None bad w (record w { names = with_name w.names n x }) (Next u) refl refl;
}

pub load_runs : {w u : World} {rest : List Stmt} (n : Name) (width : Width) (e : CExpr) (at : ℕ) → word_of e w.names ≡ Some at
    → Runs rest (record w { names = with_name w.names n (load w.mem at (bytes_of width)) }) u
    → RunsTo (first_bad w.pages.read at (bytes_of width)) (stmt.Load n width e ∷ rest) w u
load_runs {w} {u} {rest} n width e at h r =
    let bad : Option ℕ = first_bad w.pages.read at (bytes_of width) in
    record {
      runs = ap (λ o. then_do (having o (λ at. loading n width at w)) (stmts_do rest)) h
          ∙ then_allowing bad w (setting n (load w.mem at (bytes_of width)) w) (stmts_do rest)
          ∙ ap (allowing bad w) r.runs;
    }

pub store_runs : {w u : World} {rest : List Stmt} (width : Width) (e f : CExpr) (at x : ℕ) → word_of e w.names ≡ Some at → word_of f w.names ≡ Some x
    → Runs rest (record w { mem = store w.mem at (bytes_of width) x }) u
    → RunsTo (first_bad w.pages.write at (bytes_of width)) (stmt.Store width e f ∷ rest) w u
store_runs {w} {u} {rest} width e f at x h k r =
    let bad : Option ℕ = first_bad w.pages.write at (bytes_of width) in
    record {
      runs = ap (λ o. then_do (having o (λ at. having (word_of f w.names) (λ x. storing width at x w))) (stmts_do rest)) h
          ∙ ap (λ o. then_do (having o (λ x. storing width at x w)) (stmts_do rest)) k
          ∙ then_allowing bad w (Next (record w { mem = store w.mem at (bytes_of width) x })) (stmts_do rest)
          ∙ ap (allowing bad w) r.runs;
    }

-- one after the other, where the first statements change neither memory nor calls
pub runs_to_append : {w u t : World} (a b : Option ℕ) (xs ys : List Stmt) → u.mem ≡ w.mem → u.calls ≡ w.calls → RunsTo a xs w u → RunsTo b ys u t
    → RunsTo (first_of a b) (xs ++ ys) w t
runs_to_append {w} {u} {t} a b xs ys m c r s = record {
  runs = append_does xs ys w
      ∙ ap (λ d. then_do d (stmts_do ys)) r.runs
      ∙ then_allowing a w (Next u) (stmts_do ys)
      ∙ ap (allowing a w) s.runs
      ∙ both_allowing a b w u (Next t) m c;
}

-- a load, and then statements of which an access may be refused too
pub load_runs_to : {w u : World} {rest : List Stmt} (bad : Option ℕ) (n : Name) (width : Width) (e : CExpr) (at : ℕ) → word_of e w.names ≡ Some at
    → RunsTo bad rest (record w { names = with_name w.names n (load w.mem at (bytes_of width)) }) u
    → RunsTo (first_of (first_bad w.pages.read at (bytes_of width)) bad) (stmt.Load n width e ∷ rest) w u
load_runs_to {w} {u} {rest} bad n width e at h r =
    runs_to_append (first_bad w.pages.read at (bytes_of width)) bad (stmt.Load n width e ∷ []) rest refl refl (load_runs n width e at h (none_run _)) r

-- one after the other, where the second statements make no access
pub then_runs : {w u t : World} (bad : Option ℕ) (xs ys : List Stmt) → RunsTo bad xs w u → Runs ys u t → RunsTo bad (xs ++ ys) w t
then_runs {w} {u} {t} bad xs ys r s = record {
  runs = append_does xs ys w
      ∙ ap (λ d. then_do d (stmts_do ys)) r.runs
      ∙ then_allowing bad w (Next u) (stmts_do ys)
      ∙ ap (allowing bad w) s.runs;
}

-- what faults, faults with more statements after it
pub faults_append : {w u : World} (bad : Option ℕ) (xs ys : List Stmt) → RunsTo bad xs w u → Faults bad (xs ++ ys) w
faults_append {w} {u} None xs ys r = tt
faults_append {w} {u} (Some at) xs ys r = append_does xs ys w ∙ ap (λ d. then_do d (stmts_do ys)) r.runs

-- where nothing else is refused
pub first_of_none : (bad : Option ℕ) → first_of bad None ≡ bad
first_of_none None = refl
first_of_none (Some at) = refl
