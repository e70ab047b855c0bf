-- Statements that aren't stuck, one list after another, and the locals that they keep.
use Rattle.std.proofs.Common.{◌≡◌, ℕ, nat_eq, Bool, true, false, if◌then◌else◌, List, [], ◌∷◌, ◌++◌, Option, Some, None, refl, sym, ap, ◌∙◌, subst}
use Rattle.std.specs.Prelude.{IsTrue}
use Rattle.std.specs.List.{list_any}
use Rattle.std.proofs.lemmas.Bool.{or_parts, eqb-false, ne_eqb}
use Rattle.dream_words.specs.declared.machine.Name.{Name}
use Rattle.dream_words.specs.declared.machine.Name.TheVariants as name
use Rattle.dream_words.specs.declared.outcome.Answer.{Answer}
use Rattle.dream_words.specs.declared.outcome.Call.{Call}
use Rattle.dream_words.specs.declared.outcome.Outcome.{Outcome}
use Rattle.dream_words.specs.declared.outcome.Outcome.TheVariants as outcome
use Rattle.dream_words.specs.Memory.{load, store, bytes_of}
use Rattle.dream_words.specs.Pages.{first_bad}
use Rattle.run_parts.specs.Effects.{Doing, allowing, answered_by, loading, set_word, setting, storing, calling, trapping}
use Rattle.run_parts.specs.Steps.{Next, Halt, Jam, having, then_do}
use Rattle.run_parts.specs.World.{Names, World, with_name}
use Rattle.c_syntax.specs.Run.{word_in}
use Rattle.micro_ir.specs.declared.flow.Stmt.{Stmt}
use Rattle.micro_ir.specs.declared.flow.Stmt.TheVariants as stmt
use Rattle.micro_ir.specs.Laws.{DidStays}
use Rattle.micro_ir.specs.Rule.{are_flow_stmts}
use Rattle.micro_ir.specs.Run.{stmt_does, stmts_do}
use Rattle.micro_ir.specs.World.{IsWorld}
use Rattle.micro_ir.proofs.Worlds.{stmts_stay}
use Rattle.lift_parts.specs.Shown.{Runs, RunsTo}
use Rattle.window_blocks.specs.Locals.{is_local, sets}

-- ---- one list after another

then_after : (d : Doing) (f g h : World → Doing) → ((w : World) → f w ≡ then_do (g w) h) → then_do d f ≡ then_do (then_do d g) h
then_after (Next w) f g h e = e w
then_after (Halt o) f g h e = refl
then_after Jam f g h e = refl

pub append_does : (xs ys : List Stmt) (w : World) → stmts_do (xs ++ ys) w ≡ then_do (stmts_do xs w) (stmts_do ys)
append_does [] ys w = refl
append_does (x ∷ xs) ys w = then_after (stmt_does x w) (stmts_do (xs ++ ys)) (stmts_do xs) (stmts_do ys) (append_does xs ys)

-- a list that ends the run, and more after it
pub halts_append : (xs ys : List Stmt) (w : World) (o : Outcome) → stmts_do xs w ≡ Halt o → stmts_do (xs ++ ys) w ≡ Halt o
halts_append xs ys w o h = append_does xs ys w ∙ ap (λ d. then_do d (stmts_do ys)) h

-- a list that ends the run, after one that leads on
pub halts_then : (xs ys : List Stmt) (w v : World) (o : Outcome) → Runs xs w v → stmts_do ys v ≡ Halt o → stmts_do (xs ++ ys) w ≡ Halt o
halts_then xs ys w v o r h = append_does xs ys w ∙ ap (λ d. then_do d (stmts_do ys)) r.runs ∙ h

-- where no access is refused statements lead on
pub runs_on : (bad : Option ℕ) (ss : List Stmt) (w u : World) → bad ≡ None → RunsTo bad ss w u → Runs ss w u
runs_on bad ss w u e r = record { runs = r.runs ∙ ap (λ o. allowing o w (Next u)) e }

-- where one is refused they end with its fault
pub runs_out : (bad : Option ℕ) (ss : List Stmt) (w u : World) (at : ℕ) → bad ≡ Some at → RunsTo bad ss w u → stmts_do ss w ≡ Halt (outcome.Faulted 14 at w.mem w.calls)
runs_out bad ss w u at e r = r.runs ∙ ap (λ o. allowing o w (Next u)) e

-- what comes after the first list
pub runs_rest : (xs ys : List Stmt) (w v u : World) → Runs xs w v → Runs (xs ++ ys) w u → Runs ys v u
runs_rest xs ys w v u r s = record { runs = sym (ap (λ d. then_do d (stmts_do ys)) r.runs) ∙ sym (append_does xs ys w) ∙ s.runs }

-- ---- not stuck

-- what is done leads to a world, or ends the run
abbrev pub Settles : Doing → Type 0
Settles (Next w) = IsWorld w
Settles (Halt o) = Unit {0}
Settles Jam = ⊥

abbrev pub IsDone : Doing → Type 0
IsDone (Next w) = Unit {0}
IsDone (Halt o) = Unit {0}
IsDone Jam = ⊥

settles_by : (d : Doing) → IsDone d → DidStays d → Settles d
settles_by (Next w) h k = k
settles_by (Halt o) h k = tt
settles_by Jam h k = h

pub settles : (ss : List Stmt) (w : World) → IsTrue (are_flow_stmts ss) → IsDone (stmts_do ss w) → IsWorld w → Settles (stmts_do ss w)
settles ss w t h i = settles_by (stmts_do ss w) h (stmts_stay ss w t i)

access_done : (bad : Option ℕ) (w : World) (d : Doing) → IsDone d → IsDone (allowing bad w d)
access_done None w d h = h
access_done (Some at) w d h = tt

pub runs_settle : (bad : Option ℕ) (ss : List Stmt) (w u : World) → IsTrue (are_flow_stmts ss) → IsWorld w → RunsTo bad ss w u → Settles (stmts_do ss w)
runs_settle bad ss w u t i r = settles ss w t (subst IsDone (sym r.runs) (access_done bad w (Next u) tt)) i

then_settles : (d : Doing) (k : World → Doing) → Settles d → ((w : World) → IsWorld w → Settles (k w)) → Settles (then_do d k)
then_settles (Next w) k h g = g w h
then_settles (Halt o) k h g = tt
then_settles Jam k h g = h

pub settles_append : (xs ys : List Stmt) (w : World) → Settles (stmts_do xs w) → ((v : World) → IsWorld v → Settles (stmts_do ys v)) → Settles (stmts_do (xs ++ ys) w)
settles_append xs ys w h g = subst Settles (sym (append_does xs ys w)) (then_settles (stmts_do xs w) (stmts_do ys) h g)

-- a world that statements lead to is one
pub world_there : (ss : List Stmt) (w u : World) → IsTrue (are_flow_stmts ss) → IsWorld w → Runs ss w u → IsWorld u
world_there ss w u t i r = subst DidStays r.runs (stmts_stay ss w t i)

-- ---- locals that stay

-- where it leads, the local has its word
abbrev pub Keeps : ℕ → World → Doing → Type 0
Keeps k w (Next u) = u.names (name.T k) ≡ w.names (name.T k)
Keeps k w (Halt o) = Unit {0}
Keeps k w Jam = Unit {0}

turned : (a b : ℕ) → nat_eq a b ≡ false → nat_eq b a ≡ false
turned a b h = ne_eqb b a (λ e. eqb-false a b h (sym e))

name_keeps : (k : ℕ) (v : Names) (n : Name) (x : ℕ) → is_local k n ≡ false → with_name v n x (name.T k) ≡ v (name.T k)
name_keeps k v (name.T n) x h = ap (λ b. if b then x else v (name.T k)) (turned n k h)
name_keeps k v (name.Reg n) x h = refl
name_keeps k v (name.Flag n) x h = refl
name_keeps k v name.Fs x h = refl
name_keeps k v name.Gs x h = refl
name_keeps k v (name.B n) x h = refl
name_keeps k v (name.S n) x h = refl

having_keeps : (k : ℕ) (w : World) (o : Option ℕ) (f : ℕ → Doing) → ((x : ℕ) → Keeps k w (f x)) → Keeps k w (having o f)
having_keeps k w None f h = tt
having_keeps k w (Some x) f h = h x

-- an access that may be refused
access_keeps : (k : ℕ) (w : World) (bad : Option ℕ) (d : Doing) → Keeps k w d → Keeps k w (allowing bad w d)
access_keeps k w None d h = h
access_keeps k w (Some at) d h = tt

answered_keeps : (k : ℕ) (w : World) (left : List Answer) (calls : List Call) → Keeps k w (answered_by left calls w)
answered_keeps k w [] calls = tt
answered_keeps k w (a ∷ rest) calls = refl

trap_keeps : (k : ℕ) (w : World) (b : Bool) (o : Outcome) → Keeps k w (if b then Next w else Halt o)
trap_keeps k w true o = refl
trap_keeps k w false o = tt

stmt_keeps : (k : ℕ) (w : World) (s : Stmt) → sets k s ≡ false → Keeps k w (stmt_does s w)
stmt_keeps k w (stmt.Set n e) h = having_keeps k w (word_in e w) (λ x. setting n x w) (λ x. name_keeps k w.names n x h)
stmt_keeps k w (stmt.Load n width e) h = having_keeps k w (word_in e w) (λ at. loading n width at w)
    (λ at. access_keeps k w (first_bad w.pages.read at (bytes_of width)) (Next (set_word n (load w.mem at (bytes_of width)) w)) (name_keeps k w.names n (load w.mem at (bytes_of width)) h))
stmt_keeps k w (stmt.Store width e f) h =
    having_keeps k w (word_in e w) (λ at. having (word_in f w) (λ x. storing width at x w)) (λ at. having_keeps k w (word_in f w) (λ x. storing width at x w)
    (λ x. access_keeps k w (first_bad w.pages.write at (bytes_of width)) (Next (record w { mem = store w.mem at (bytes_of width) x })) refl))
stmt_keeps k w (stmt.Ext e) h = having_keeps k w (word_in e w) (λ target. calling target w) (λ target. answered_keeps k w w.left _)
stmt_keeps k w (stmt.Trap vector e) h = having_keeps k w (word_in e w) (λ x. trapping vector x w) (λ x. trap_keeps k w (nat_eq x 0) _)

then_keeps : (k : ℕ) (w : World) (d : Doing) (f : World → Doing) → Keeps k w d → ((u : World) → Keeps k u (f u)) → Keeps k w (then_do d f)
then_keeps k w (Next u) f h g = from (f u) (g u)
  where
    from : (d : Doing) → Keeps k u d → Keeps k w d
    from (Next t) e = e ∙ h
    from (Halt o) e = tt
    from Jam e = tt
then_keeps k w (Halt o) f h g = tt
then_keeps k w Jam f h g = tt

pub stmts_keep : (k : ℕ) (ss : List Stmt) (w : World) → list_any (sets k) ss ≡ false → Keeps k w (stmts_do ss w)
stmts_keep k [] w h = refl
stmts_keep k (s ∷ ss) w h =
    let p = or_parts (sets k s) (list_any (sets k) ss) h in
    then_keeps k w (stmt_does s w) (stmts_do ss) (stmt_keeps k w s p.0) (λ u. stmts_keep k ss u p.1)

-- statements that don't set a local keep it
pub local_there : (k : ℕ) (ss : List Stmt) (w u : World) → list_any (sets k) ss ≡ false → Runs ss w u → u.names (name.T k) ≡ w.names (name.T k)
local_there k ss w u h r = subst (Keeps k w) r.runs (stmts_keep k ss w h)
