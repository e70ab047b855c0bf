-- Statements, blocks and runs only add calls.
use Rattle.std.proofs.Common.{ℕ, zero, suc, Bool, true, false, nat_eq, if◌then◌else◌, List, [], ◌∷◌, Option, Some, None}
use Rattle.dream_words.specs.declared.outcome.Call.{Call}
use Rattle.dream_words.specs.declared.outcome.Outcome.{Outcome}
use Rattle.run_parts.specs.Parts.{Ends, Over}
use Rattle.run_parts.specs.Steps.{Next, Halt, Jam, To, End, Nowhere, then_do, arrive}
use Rattle.run_parts.specs.World.{World}
use Rattle.run_parts.specs.Effects.{Doing}
use Rattle.run_parts.specs.Laws.{Begins, OutcomeShows, DidShows}
use Rattle.run_parts.proofs.Runs.{begins_self, begins_on, shows_on, having_shows, effects}
use Rattle.c_syntax.specs.Run.{word_in, holds, does_ext}
use Rattle.micro_ir.specs.declared.flow.Case.{Case}
use Rattle.micro_ir.specs.declared.flow.Stmt.{Stmt}
use Rattle.micro_ir.specs.declared.flow.Stmt.TheVariants as stmt
use Rattle.micro_ir.specs.declared.flow.End.{End as BlockEnd}
use Rattle.micro_ir.specs.declared.flow.End.TheVariants as end
use Rattle.micro_ir.specs.declared.flow.Block.{Block}
use Rattle.std.specs.Prelude.{slice_get}
use Rattle.micro_ir.specs.Run.{Arrive, stmt_does, stmts_do, branch, first_case, by_value, left_by, end_leads, block_leads, enter, onward, walk}
use Rattle.micro_ir.specs.Laws.{ArriveShows, OnlyAddCalls}

-- ---- what shows more calls shows fewer

outcome_on : (xs ys : List Call) (o : Outcome) → Begins xs ys → OutcomeShows ys o → OutcomeShows xs o
outcome_on xs ys o h g = shows_on xs ys (Ends (Over o) 0) h g

did_on : (xs ys : List Call) (d : Doing) → Begins xs ys → DidShows ys d → DidShows xs d
did_on xs ys (Next w) h g = begins_on xs ys w.calls h g
did_on xs ys (Halt o) h g = outcome_on xs ys o h g
did_on xs ys Jam h g = tt

pub arrive_on : (xs ys : List Call) (a : Arrive) → Begins xs ys → ArriveShows ys a → ArriveShows xs a
arrive_on xs ys (To n w) h g = begins_on xs ys w.calls h g
arrive_on xs ys (End o) h g = outcome_on xs ys o h g
arrive_on xs ys Nowhere h g = tt

-- ---- statements

ext_adds : (e : _) (w : World) → DidShows w.calls (does_ext e w)
ext_adds e w = having_shows w.calls (word_in e w) _ (λ x. effects.calling_is x w)

pub stmt_adds : (s : Stmt) (w : World) → DidShows w.calls (stmt_does s w)
stmt_adds (stmt.Set n e) w = having_shows w.calls (word_in e w) _ (λ x. effects.setting_is n x w)
stmt_adds (stmt.Load n width e) w = having_shows w.calls (word_in e w) _ (λ x. effects.loading_is n width x w)
stmt_adds (stmt.Store width e f) w = having_shows w.calls (word_in e w) _ (λ at. having_shows w.calls (word_in f w) _ (λ x. effects.storing_is width at x w))
stmt_adds (stmt.Ext e) w = ext_adds e w
stmt_adds (stmt.Trap vector e) w = having_shows w.calls (word_in e w) _ (λ x. effects.trapping_is vector x w)

then_adds : (c : List Call) (d : Doing) (k : World → Doing) → DidShows c d → ((u : World) → DidShows u.calls (k u)) → DidShows c (then_do d k)
then_adds c (Next u) k h g = did_on c u.calls (k u) h (g u)
then_adds c (Halt o) k h g = h
then_adds c Jam k h g = tt

pub stmts_add : (ss : List Stmt) (w : World) → DidShows w.calls (stmts_do ss w)
stmts_add [] w = begins_self w.calls
stmts_add (s ∷ ss) w = then_adds w.calls (stmt_does s w) (stmts_do ss) (stmt_adds s w) (stmts_add ss)

-- ---- blocks

branch_adds : (o : Option Bool) (a b : ℕ) (w : World) → ArriveShows w.calls (branch o a b w)
branch_adds None a b w = tt
branch_adds (Some true) a b w = begins_self w.calls
branch_adds (Some false) a b w = begins_self w.calls

to_or : (b : Bool) (c : List Call) (a : Arrive) (n : ℕ) (w : World) → Begins c w.calls → ArriveShows c a → ArriveShows c (if b then To n w else a)
to_or true c a n w h g = h
to_or false c a n w h g = g

case_adds : (cases : List Case) (x : ℕ) (w : World) → ArriveShows w.calls (first_case cases x w)
case_adds [] x w = tt
case_adds (c ∷ cases) x w = to_or (nat_eq x c.value) w.calls (first_case cases x w) c.to w (begins_self w.calls) (case_adds cases x w)

value_adds : (o : Option ℕ) (cases : List Case) (w : World) → ArriveShows w.calls (by_value o cases w)
value_adds None cases w = tt
value_adds (Some x) cases w = case_adds cases x w

left_adds : (c : List Call) (d : Doing) → DidShows c d → ArriveShows c (left_by d)
left_adds c (Next w) h = h
left_adds c (Halt o) h = h
left_adds c Jam h = tt

end_adds : (e : BlockEnd) (w : World) → ArriveShows w.calls (end_leads e w)
end_adds (end.Go a) w = begins_self w.calls
end_adds (end.Branch t a b) w = branch_adds (holds t w) a b w
end_adds (end.Switch e cases) w = value_adds (word_in e w) cases w
end_adds end.Return w = begins_self w.calls
end_adds (end.Leave e) w = left_adds w.calls (does_ext e w) (ext_adds e w)

after_adds : (c : List Call) (d : Doing) (e : BlockEnd) → DidShows c d → ArriveShows c (arrive d (end_leads e))
after_adds c (Next w) e h = arrive_on c w.calls (end_leads e w) h (end_adds e w)
after_adds c (Halt o) e h = h
after_adds c Jam e h = tt

pub block_adds : (b : Block) (w : World) → ArriveShows w.calls (block_leads b w)
block_adds b w = after_adds w.calls (stmts_do b.stmts w) b.end (stmts_add b.stmts w)

-- ---- runs

pub enter_adds : (o : Option Block) (w : World) → ArriveShows w.calls (enter o w)
enter_adds None w = tt
enter_adds (Some b) w = block_adds b w

pub onward_adds : (c : List Call) (a : Arrive) (k : ℕ → World → Arrive) → ArriveShows c a → ((n : ℕ) (u : World) → ArriveShows u.calls (k n u)) → ArriveShows c (onward a k)
onward_adds c (To n u) k h g = arrive_on c u.calls (k n u) h (g n u)
onward_adds c (End o) k h g = h
onward_adds c Nowhere k h g = tt

pub walk_adds : (blocks : List Block) (k n : ℕ) (w : World) → ArriveShows w.calls (walk blocks k n w)
walk_adds blocks zero n w = begins_self w.calls
walk_adds blocks (suc k) n w = onward_adds w.calls (enter (slice_get blocks n) w) (walk blocks k) (enter_adds (slice_get blocks n) w) (walk_adds blocks k)

pub only_add_calls : OnlyAddCalls
only_add_calls = record { stmt_adds = stmt_adds; block_adds = block_adds; walk_adds = walk_adds }
