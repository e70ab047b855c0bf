-- A flow's run that has come to its end has returned, has faulted or asks.
use Rattle.std.proofs.Common.{◌≡◌, ℕ, zero, suc, nat_eq, Bool, true, false, if◌then◌else◌, List, [], ◌∷◌, Option, Some, None, subst}
use Rattle.std.specs.Prelude.{slice_get}
use Rattle.dream_words.specs.declared.outcome.Answer.{Answer}
use Rattle.dream_words.specs.declared.outcome.Call.{Call}
use Rattle.dream_words.specs.declared.outcome.Outcome.{Outcome}
use Rattle.dream_words.specs.declared.outcome.Outcome.TheVariants as outcome
use Rattle.dream_words.specs.Memory.{bytes_of}
use Rattle.dream_words.specs.Pages.{first_bad}
use Rattle.dream_words.specs.Same.{IsEnded}
use Rattle.run_parts.specs.Steps.{Next, Halt, Jam, having, then_do, To, End, Nowhere, arrive}
use Rattle.run_parts.specs.World.{World}
use Rattle.run_parts.specs.Effects.{Doing, allowing, answered_by}
use Rattle.c_syntax.specs.declared.syntax.CExpr.{CExpr}
use Rattle.c_syntax.specs.Run.{word_in, holds, does_ext}
use Rattle.micro_ir.specs.declared.flow.Case.{Case}
use Rattle.micro_ir.specs.declared.flow.Stmt.{Stmt}
use Rattle.micro_ir.specs.declared.flow.Stmt.TheVariants as stmt
use Rattle.micro_ir.specs.declared.flow.End.{End as BlockEnd}
use Rattle.micro_ir.specs.declared.flow.End.TheVariants as end
use Rattle.micro_ir.specs.declared.flow.Block.{Block}
use Rattle.micro_ir.specs.Run.{Arrive, stmt_does, stmts_do, branch, first_case, by_value, left_by, end_leads, enter, onward, walk}

-- what halts has ended
abbrev DidEnds : Doing → Type 0
DidEnds (Next w) = Unit {0}
DidEnds (Halt o) = IsEnded o
DidEnds Jam = Unit {0}

abbrev ArriveEnds : Arrive → Type 0
ArriveEnds (To n w) = Unit {0}
ArriveEnds (End o) = IsEnded o
ArriveEnds Nowhere = Unit {0}

having_ends : (o : Option ℕ) (f : ℕ → Doing) → ((x : ℕ) → DidEnds (f x)) → DidEnds (having o f)
having_ends None f h = tt
having_ends (Some x) f h = h x

answered_ends : (left : List Answer) (calls : List Call) (w : World) → DidEnds (answered_by left calls w)
answered_ends [] calls w = tt
answered_ends (a ∷ rest) calls w = tt

-- an access, which may fault
access_ends : (bad : Option ℕ) (w u : World) → DidEnds (allowing bad w (Next u))
access_ends None w u = tt
access_ends (Some a) w u = tt

trap_ends : (b : Bool) (vector : ℕ) (w : World) → DidEnds (if b then Next w else Halt (outcome.Faulted vector 0 w.mem w.calls))
trap_ends true vector w = tt
trap_ends false vector w = tt

ext_ends : (e : CExpr) (w : World) → DidEnds (does_ext e w)
ext_ends e w = having_ends (word_in e w) _ (λ x. answered_ends w.left _ w)

stmt_ends : (s : Stmt) (w : World) → DidEnds (stmt_does s w)
stmt_ends (stmt.Set n e) w = having_ends (word_in e w) _ (λ x. tt)
stmt_ends (stmt.Load n width e) w = having_ends (word_in e w) _ (λ at. access_ends (first_bad w.pages.read at (bytes_of width)) w _)
stmt_ends (stmt.Store width e f) w = having_ends (word_in e w) _ (λ at. having_ends (word_in f w) _ (λ x. access_ends (first_bad w.pages.write at (bytes_of width)) w _))
stmt_ends (stmt.Ext e) w = ext_ends e w
stmt_ends (stmt.Trap vector e) w = having_ends (word_in e w) _ (λ x. trap_ends (nat_eq x 0) vector w)

then_ends : (d : Doing) (f : World → Doing) → DidEnds d → ((u : World) → DidEnds (f u)) → DidEnds (then_do d f)
then_ends (Next u) f h g = g u
then_ends (Halt o) f h g = h
then_ends Jam f h g = tt

stmts_end : (ss : List Stmt) (w : World) → DidEnds (stmts_do ss w)
stmts_end [] w = tt
stmts_end (s ∷ ss) w = then_ends (stmt_does s w) (stmts_do ss) (stmt_ends s w) (stmts_end ss)

branch_ends : (o : Option Bool) (a b : ℕ) (w : World) → ArriveEnds (branch o a b w)
branch_ends None a b w = tt
branch_ends (Some true) a b w = tt
branch_ends (Some false) a b w = tt

to_or : (b : Bool) (n : ℕ) (w : World) (a : Arrive) → ArriveEnds a → ArriveEnds (if b then To n w else a)
to_or true n w a h = tt
to_or false n w a h = h

case_ends : (cases : List Case) (x : ℕ) (w : World) → ArriveEnds (first_case cases x w)
case_ends [] x w = tt
case_ends (c ∷ cases) x w = to_or (nat_eq x c.value) c.to w (first_case cases x w) (case_ends cases x w)

value_ends : (o : Option ℕ) (cases : List Case) (w : World) → ArriveEnds (by_value o cases w)
value_ends None cases w = tt
value_ends (Some x) cases w = case_ends cases x w

left_ends : (d : Doing) → DidEnds d → ArriveEnds (left_by d)
left_ends (Next u) h = tt
left_ends (Halt o) h = h
left_ends Jam h = tt

end_ends : (e : BlockEnd) (w : World) → ArriveEnds (end_leads e w)
end_ends (end.Go a) w = tt
end_ends (end.Branch t a b) w = branch_ends (holds t w) a b w
end_ends (end.Switch e cases) w = value_ends (word_in e w) cases w
end_ends end.Return w = tt
end_ends (end.Leave e) w = left_ends (does_ext e w) (ext_ends e w)

after_ends : (d : Doing) (e : BlockEnd) → DidEnds d → ArriveEnds (arrive d (end_leads e))
after_ends (Next u) e h = end_ends e u
after_ends (Halt o) e h = h
after_ends Jam e h = tt

enter_ends : (o : Option Block) (w : World) → ArriveEnds (enter o w)
enter_ends None w = tt
enter_ends (Some b) w = after_ends (stmts_do b.stmts w) b.end (stmts_end b.stmts w)

onward_ends : (a : Arrive) (k : ℕ → World → Arrive) → ArriveEnds a → ((n : ℕ) (u : World) → ArriveEnds (k n u)) → ArriveEnds (onward a k)
onward_ends (To n u) k h g = g n u
onward_ends (End o) k h g = h
onward_ends Nowhere k h g = tt

walk_ends : (blocks : List Block) (k n : ℕ) (w : World) → ArriveEnds (walk blocks k n w)
walk_ends blocks zero n w = tt
walk_ends blocks (suc k) n w = onward_ends (enter (slice_get blocks n) w) (walk blocks k) (enter_ends (slice_get blocks n) w) (walk_ends blocks k)

pub ended : (blocks : List Block) (k n : ℕ) (w : World) (o : Outcome) → walk blocks k n w ≡ End o → IsEnded o
ended blocks k n w o e = subst ArriveEnds e (walk_ends blocks k n w)
