-- What a statement does is a run, so a function's run only continues in more turns.
use Rattle.std.proofs.Common.{◌≡◌, ℕ, ◌+◌, List, [], ◌∷◌, refl, sym, ap, ◌∙◌, subst, map, arith, append-nil, None, Some}
use Rattle.dream_words.specs.declared.outcome.Outcome.{Outcome}
use Rattle.dream_words.specs.declared.outcome.Outcome.TheVariants as outcome
use Rattle.dream_words.specs.declared.outcome.Call.{Call}
use Rattle.run_parts.specs.Parts.{Exit, Run, Ends, Goes, Past, Broke, Over, Stuck, skip, in_turn}
use Rattle.run_parts.specs.Steps.{Halt}
use Rattle.run_parts.specs.World.{World, returned, start_world, outcome_of}
use Rattle.run_parts.specs.Laws.{IsRun, Told, Shows, OutcomeShows, AllRuns, AllArms, AllGroups}
use Rattle.run_parts.proofs.Runs.{skip_run, leave_run, in_turn_run, arms_run, switch_run, repeat_run, simply_run, having_shows, effects}
use Rattle.c_syntax.specs.declared.syntax.CStmt as st
use Rattle.c_syntax.specs.declared.syntax.CStmt.{CStmt, CStmt-F, roll-CStmt}
use Rattle.c_syntax.specs.declared.syntax.CArm.{CArm}
use Rattle.c_syntax.specs.declared.syntax.CGroup.{CGroup}
use Rattle.c_syntax.specs.RunLaws.{Continues, MoreTurnsContinue}
use Rattle.c_syntax.specs.Run.{Part, Test, word_in, stmt_at, run, run_arm, run_group, run_all}
use Rattle.c_syntax.proofs.Layers.{run_layer, run_arm_layer, run_group_layer}
use Rattle.c_syntax.proofs.Induct.{Each, StmtCases, every_stmt, each_stmt}

-- ---- each statement is a run

-- statements, arms and groups that are runs
runs_of : (body : List CStmt) → Each (λ s. IsRun (run s)) body → AllRuns (map run body)
runs_of [] h = tt
runs_of (s ∷ ss) h = (h.0, runs_of ss h.1)

arms_of : (arms : List CArm) → Each (λ a. IsRun (run_arm a).1) arms → AllArms (map run_arm arms)
arms_of [] h = tt
arms_of (a ∷ rest) h = (h.0, arms_of rest h.1)

groups_of : (groups : List CGroup) → Each (λ g. IsRun (run_group g).1) groups → AllGroups (map run_group groups)
groups_of [] h = tt
groups_of (g ∷ rest) h = (h.0, groups_of rest h.1)

-- a body
body_is : (body : List CStmt) → Each (λ s. IsRun (run s)) body → IsRun (in_turn (map run body))
body_is body h = in_turn_run _ (runs_of body h)

-- a statement by its parts
by_layer : (y : CStmt-F CStmt CArm CGroup) → IsRun (stmt_at (st.map-CStmt CStmt CArm CGroup Part (Test × Part) (List ℕ × Part) run run_arm run_group y)) → IsRun (run (roll-CStmt y))
by_layer y h = subst IsRun (sym (run_layer y)) h

-- by cases
cases : StmtCases (λ s. IsRun (run s)) (λ a. IsRun (run_arm a).1) (λ g. IsRun (run_group g).1)
cases = record {
  set = λ n a. by_layer (CStmt-F.Set n a) (simply_run _ (λ w. having_shows w.calls (word_in a w) _ (λ x. effects.setting_is n x w)));
  load = λ n width a. by_layer (CStmt-F.Load n width a) (simply_run _ (λ w. having_shows w.calls (word_in a w) _ (λ x. effects.loading_is n width x w)));
  store = λ width a b. by_layer (CStmt-F.Store width a b) (simply_run _ (λ w. having_shows w.calls (word_in a w) _ (λ at. having_shows w.calls (word_in b w) _ (λ x. effects.storing_is width at x w))));
  ext = λ a. by_layer (CStmt-F.Ext a) (simply_run _ (λ w. having_shows w.calls (word_in a w) _ (λ x. effects.calling_is x w)));
  trap = λ v a. by_layer (CStmt-F.Trap v a) (simply_run _ (λ w. having_shows w.calls (word_in a w) _ (λ x. effects.trapping_is v x w)));
  if_none = λ arms ha. by_layer (CStmt-F.If arms None) (arms_run _ skip (arms_of arms ha) skip_run);
  if_some = λ arms last ha hl. by_layer (CStmt-F.If arms (Some last)) (arms_run _ _ (arms_of arms ha) (body_is last hl));
  switch = λ a groups last hg hl. by_layer (CStmt-F.Switch a groups last) (switch_run (word_in a) _ _ (groups_of groups hg) (body_is last hl));
  loop = λ body hb. by_layer (CStmt-F.Loop body) (repeat_run _ _ _ (body_is body hb));
  while = λ t body hb. by_layer (CStmt-F.While t body) (repeat_run _ _ _ (body_is body hb));
  do_while = λ body t hb. by_layer (CStmt-F.DoWhile body t) (repeat_run _ _ _ (body_is body hb));
  break = by_layer CStmt-F.Break leave_run;
  return = by_layer CStmt-F.Return (simply_run (λ w. Halt (returned w)) effects.returning_is);
  arm_of = λ t body hb. subst (λ a. IsRun a.1) (sym (run_arm_layer (record { test = t; body = body }))) (body_is body hb);
  group_of = λ values body hb. subst (λ g. IsRun g.1) (sym (run_group_layer (record { values = values; body = body }))) (body_is body hb);
}

-- every statement is a run
pub run_is : (s : CStmt) → IsRun (run s)
run_is s = every_stmt cases s

-- and so are statements one after another
pub run_all_is : (body : List CStmt) → IsRun (run_all body)
run_all_is body = body_is body (each_stmt cases body)

-- ---- the outcome of a whole run

-- calls that a run shows its outcome shows
shown : (c : List Call) (r : Run World Outcome) → Shows c r → OutcomeShows c (outcome_of r)
shown c (Ends (Past w) m) h = h
shown c (Ends (Broke w) m) h = tt
shown c (Ends (Over o) m) h = h
shown c (Ends Stuck m) h = tt
shown c (Goes w) h = h

-- an outcome stays
stays : (o p : Outcome) → p ≡ o → Continues o p
stays (outcome.Returned r m c) p e = e
stays (outcome.Faulted v a m c) p e = e
stays (outcome.Asking c) p e = e
stays (outcome.Going c) p e = subst (OutcomeShows c) (sym e) ([], sym (append-nil c))
stays outcome.Strayed p e = e
stays outcome.Undecoded p e = e
stays outcome.Stuck p e = e

-- the turns that are left don't matter to an outcome
at_end : (x : Exit World Outcome) (f g : ℕ) → outcome_of (Ends x f) ≡ outcome_of (Ends x g)
at_end (Past w) f g = refl
at_end (Broke w) f g = refl
at_end (Over o) f g = refl
at_end Stuck f g = refl

-- what a run tells its outcome tells
outcome_told : (p : ℕ → Run World Outcome) (m k : ℕ) (r : Run World Outcome) → Told p m r → Continues (outcome_of r) (outcome_of (p (m + k)))
outcome_told p m k (Ends x f) t =
    stays (outcome_of (Ends x f)) (outcome_of (p (m + k)))
    (ap (λ n. outcome_of (p n)) (let z : m + k ≡ t.0 + (f + k) = omega (arith, t.1) in z) ∙ ap outcome_of (t.2 (f + k)) ∙ at_end x (f + k) f)
outcome_told p m k (Goes w) t = shown w.calls (p (m + k)) (t k)

-- the law
pub more_turns : MoreTurnsContinue
more_turns f start answers m k = outcome_told (λ n. run_all f.body n (start_world start answers)) m k _ ((run_all_is f.body).told m (start_world start answers))
