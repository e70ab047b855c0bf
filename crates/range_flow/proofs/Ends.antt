-- A flow's run ends only as a run may end: it returns, faults or asks.
use Rattle.std.proofs.Common.{ℕ, zero, suc, Bool, true, false, nat_eq, if◌then◌else◌, List, [], ◌∷◌, Option, Some, None}
use Rattle.std.specs.Prelude.{slice_get}
use Rattle.dream_words.specs.declared.outcome.Answer.{Answer}
use Rattle.dream_words.specs.declared.outcome.Call.{Call}
use Rattle.dream_words.specs.declared.outcome.Outcome.{Outcome}
use Rattle.dream_words.specs.Same.{IsEnded}
use Rattle.run_parts.specs.Steps.{Next, Halt, Jam, To, End, Nowhere, having, then_do, arrive}
use Rattle.run_parts.specs.World.{World}
use Rattle.dream_words.specs.Memory.{load, store, bytes_of}
use Rattle.dream_words.specs.Pages.{first_bad}
use Rattle.run_parts.specs.Effects.{Doing, allowing, answered_by, loading, set_word, storing}
use Rattle.c_syntax.specs.declared.syntax.CExpr.{CExpr}
use Rattle.c_syntax.specs.Run.{word_in, holds, does_ext}
use Rattle.micro_ir.specs.declared.flow.Case.{Case}
use Rattle.micro_ir.specs.declared.flow.Stmt.{Stmt}
use Rattle.micro_ir.specs.declared.flow.Stmt.TheVariants as stmt
use Rattle.micro_ir.specs.declared.flow.End.{End as BlockEnd}
use Rattle.micro_ir.specs.declared.flow.End.TheVariants as end
use Rattle.micro_ir.specs.declared.flow.Block.{Block}
use Rattle.micro_ir.specs.Run.{Arrive, stmt_does, stmts_do, branch, first_case, by_value, left_by, end_leads, enter, onward, walk}

-- what is done ends the run only so
abbrev HaltsWell : Doing → Type 0
HaltsWell (Next w) = Unit {0}
HaltsWell (Halt o) = IsEnded o
HaltsWell Jam = Unit {0}

abbrev pub EndsWell : Arrive → Type 0
EndsWell (To n w) = Unit {0}
EndsWell (End o) = IsEnded o
EndsWell Nowhere = Unit {0}

having_well : (o : Option ℕ) (k : ℕ → Doing) → ((x : ℕ) → HaltsWell (k x)) → HaltsWell (having o k)
having_well None k h = tt
having_well (Some x) k h = h x

answered_well : (left : List Answer) (calls : List Call) (w : World) → HaltsWell (answered_by left calls w)
answered_well [] calls w = tt
answered_well (a ∷ rest) calls w = tt

trap_well : (b : Bool) (w : World) (o : Outcome) → IsEnded o → HaltsWell (if b then Next w else Halt o)
trap_well true w o h = tt
trap_well false w o h = h

access_well : (bad : Option ℕ) (w : World) (d : Doing) → HaltsWell d → HaltsWell (allowing bad w d)
access_well None w d h = h
access_well (Some at) w d h = tt

ext_well : (e : CExpr) (w : World) → HaltsWell (does_ext e w)
ext_well e w = having_well (word_in e w) _ (λ x. answered_well w.left _ w)

stmt_well : (s : Stmt) (w : World) → HaltsWell (stmt_does s w)
stmt_well (stmt.Set n e) w = having_well (word_in e w) _ (λ x. tt)
stmt_well (stmt.Load n width e) w = having_well (word_in e w) (λ at. loading n width at w) (λ at. access_well (first_bad w.pages.read at (bytes_of width)) w (Next (set_word n (load w.mem at (bytes_of width)) w)) tt)
stmt_well (stmt.Store width e f) w =
    having_well (word_in e w) (λ at. having (word_in f w) (λ x. storing width at x w)) (λ at. having_well (word_in f w) (λ x. storing width at x w)
    (λ x. access_well (first_bad w.pages.write at (bytes_of width)) w (Next (record w { mem = store w.mem at (bytes_of width) x })) tt))
stmt_well (stmt.Ext e) w = ext_well e w
stmt_well (stmt.Trap vector e) w = having_well (word_in e w) _ (λ x. trap_well (nat_eq x 0) w _ tt)

then_well : (d : Doing) (k : World → Doing) → HaltsWell d → ((u : World) → HaltsWell (k u)) → HaltsWell (then_do d k)
then_well (Next u) k h g = g u
then_well (Halt o) k h g = h
then_well Jam k h g = tt

stmts_well : (ss : List Stmt) (w : World) → HaltsWell (stmts_do ss w)
stmts_well [] w = tt
stmts_well (s ∷ ss) w = then_well (stmt_does s w) (stmts_do ss) (stmt_well s w) (stmts_well ss)

branch_well : (o : Option Bool) (a b : ℕ) (w : World) → EndsWell (branch o a b w)
branch_well None a b w = tt
branch_well (Some true) a b w = tt
branch_well (Some false) a b w = tt

to_or : (b : Bool) (n : ℕ) (w : World) (a : Arrive) → EndsWell a → EndsWell (if b then To n w else a)
to_or true n w a h = tt
to_or false n w a h = h

case_well : (cases : List Case) (x : ℕ) (w : World) → EndsWell (first_case cases x w)
case_well [] x w = tt
case_well (c ∷ cases) x w = to_or (nat_eq x c.value) c.to w (first_case cases x w) (case_well cases x w)

value_well : (o : Option ℕ) (cases : List Case) (w : World) → EndsWell (by_value o cases w)
value_well None cases w = tt
value_well (Some x) cases w = case_well cases x w

left_well : (d : Doing) → HaltsWell d → EndsWell (left_by d)
left_well (Next w) h = tt
left_well (Halt o) h = h
left_well Jam h = tt

end_well : (e : BlockEnd) (w : World) → EndsWell (end_leads e w)
end_well (end.Go a) w = tt
end_well (end.Branch t a b) w = branch_well (holds t w) a b w
end_well (end.Switch e cases) w = value_well (word_in e w) cases w
end_well end.Return w = tt
end_well (end.Leave e) w = left_well (does_ext e w) (ext_well e w)

after_well : (d : Doing) (e : BlockEnd) → HaltsWell d → EndsWell (arrive d (end_leads e))
after_well (Next w) e h = end_well e w
after_well (Halt o) e h = h
after_well Jam e h = tt

enter_well : (o : Option Block) (w : World) → EndsWell (enter o w)
enter_well None w = tt
enter_well (Some b) w = after_well (stmts_do b.stmts w) b.end (stmts_well b.stmts w)

onward_well : (a : Arrive) (k : ℕ → World → Arrive) → EndsWell a → ((n : ℕ) (u : World) → EndsWell (k n u)) → EndsWell (onward a k)
onward_well (To n u) k h g = g n u
onward_well (End o) k h g = h
onward_well Nowhere k h g = tt

pub walk_well : (blocks : List Block) (k n : ℕ) (w : World) → EndsWell (walk blocks k n w)
walk_well blocks zero n w = tt
walk_well blocks (suc k) n w = onward_well (enter (slice_get blocks n) w) (walk blocks k) (enter_well (slice_get blocks n) w) (walk_well blocks k)
