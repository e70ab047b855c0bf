-- Words, Conds and statements do what a reader of C expects.
use Rattle.std.proofs.Common.{◌≡◌, ℕ, zero, suc, ◌≤◌, nat_lt, Bool, true, false, if◌then◌else◌, List, [], ◌∷◌, Option, Some, None, refl, sym, ap, ◌∙◌, map, arith}
use Rattle.dream_words.specs.declared.outcome.Start.{Start}
use Rattle.dream_words.specs.declared.outcome.Answer.{Answer}
use Rattle.dream_words.specs.declared.outcome.Outcome.{Outcome}
use Rattle.dream_words.specs.Registers.{word_of_bit}
use Rattle.run_parts.specs.Parts.{Past, Ends, Goes, has, in_turn, on, caught, decide, given, group_of, rounds, repeat, always, turn, goes_on, skip, leave_loop, after}
use Rattle.run_parts.specs.Steps.{Halt, having, done, simply}
use Rattle.run_parts.specs.World.{Names, World, start_world, returned, outcome_of}
use Rattle.run_parts.specs.Effects.{setting}
use Rattle.c_syntax.specs.declared.syntax.CBin.TheVariants.{Shl, Shr}
use Rattle.c_syntax.specs.declared.syntax.CExpr as e
use Rattle.c_syntax.specs.declared.syntax.CExpr.{CExpr, CExpr-F, roll-CExpr}
use Rattle.c_syntax.specs.declared.syntax.CCond as c
use Rattle.c_syntax.specs.declared.syntax.CCond.{CCond, CCond-F, roll-CCond}
use Rattle.c_syntax.specs.declared.syntax.CStmt as st
use Rattle.c_syntax.specs.declared.syntax.CStmt.{CStmt, CStmt-F, roll-CStmt}
use Rattle.c_syntax.specs.declared.syntax.CArm.{CArm}
use Rattle.c_syntax.specs.declared.syntax.CGroup.{CGroup, roll-CGroup}
use Rattle.c_syntax.specs.declared.syntax.CFun.{CFun}
use Rattle.c_syntax.specs.Value.{Word, Truth, both, picked, word_at, truth_at, word_of, truth_of}
use Rattle.c_syntax.specs.Words.{bin_of}
use Rattle.c_syntax.specs.Run.{Part, Test, word_in, holds, run, run_all, run_arm, run_group, stmt_at, c_run}
use Rattle.c_syntax.specs.AsC.{EvaluatesAsC, RunsAsC}
use Rattle.c_syntax.proofs.Layers.{word_of_layer, truth_of_layer, run_layer, run_group_layer}

-- ---- Words and Conds

-- a Word and a Cond by their parts
word_layer : (y : CExpr-F CCond CExpr) (v : Names) → word_of (roll-CExpr y) v ≡ word_at (e.map-CExpr CCond CExpr Truth Word truth_of word_of y) v
word_layer y v = ap (λ g. g v) (word_of_layer y)

truth_layer : (y : CCond-F CCond CExpr) (v : Names) → truth_of (roll-CCond y) v ≡ truth_at (c.map-CCond CCond CExpr Truth Word truth_of word_of y) v
truth_layer y v = ap (λ g. g v) (truth_of_layer y)

-- a number past a bound isn't below it
not_below : (n k : ℕ) → k ≤ n → nat_lt n k ≡ false
not_below n k h = grind arith

-- an operator that is stuck at its second part is stuck
stuck_by : (f : ℕ → ℕ → Option ℕ) (n : ℕ) → ((x : ℕ) → f x n ≡ None) → (a b : Option ℕ) → b ≡ Some n → both f a b ≡ None
stuck_by f n h None b g = refl
stuck_by f n h (Some x) b g = ap (both f (Some x)) g ∙ h x

-- a value that is asked for only below a bound is none past it
gone : (b : Bool) (o : Option ℕ) → b ≡ false → (if b then o else None) ≡ None
gone b o h = ap (λ q. if q then o else None) h

-- the law on Words and Conds
pub evaluates_as_c : EvaluatesAsC
evaluates_as_c = record {
  and_stops = λ t u v h. truth_layer (CCond-F.And t u) v ∙ ap (λ o. picked o (truth_of u v) (Some false)) h;
  or_stops = λ t u v h. truth_layer (CCond-F.Or t u) v ∙ ap (λ o. picked o (Some true) (truth_of u v)) h;
  picks_first = λ t a b v h. word_layer (CExpr-F.Pick t a b) v ∙ ap (λ o. picked o (word_of a v) (word_of b v)) h;
  picks_second = λ t a b v h. word_layer (CExpr-F.Pick t a b) v ∙ ap (λ o. picked o (word_of a v) (word_of b v)) h;
  shl_is_stuck = λ a b v n h l. word_layer (CExpr-F.Bin Shl a b) v ∙ stuck_by (bin_of Shl) n (λ x. gone _ _ (not_below n 32 l)) (word_of a v) (word_of b v) h;
  shr_is_stuck = λ a b v n h l. word_layer (CExpr-F.Bin Shr a b) v ∙ stuck_by (bin_of Shr) n (λ x. gone _ _ (not_below n 32 l)) (word_of a v) (word_of b v) h;
}

-- ---- statements

-- a statement by its parts
run_at : (y : CStmt-F CStmt CArm CGroup) (m : ℕ) (w : World) → run (roll-CStmt y) m w ≡ stmt_at (st.map-CStmt CStmt CArm CGroup Part (Test × Part) (List ℕ × Part) run run_arm run_group y) m w
run_at y m w = ap (λ p. p m w) (run_layer y)

-- an endless loop over one statement
loop_at : (s : CStmt) (p : Part) (m : ℕ) (w : World) → run s ≡ p → run (roll-CStmt (CStmt-F.Loop (s ∷ []))) m w ≡ repeat always (in_turn (p ∷ [])) always m w
loop_at s p m w h = run_at (CStmt-F.Loop (s ∷ [])) m w ∙ ap (λ q. repeat always (in_turn (q ∷ [])) always m w) h

-- a switch, where its word is evaluated
switch_at : (a : CExpr) (groups : List CGroup) (last : List CStmt) (x m : ℕ) (w : World) → word_in a w ≡ Some x
    → run (roll-CStmt (CStmt-F.Switch a groups last)) m w ≡ on (group_of (map run_group groups) (run_all last) x m w) caught
switch_at a groups last x m w h = run_at (CStmt-F.Switch a groups last) m w ∙ ap (λ o. on (given o (group_of (map run_group groups) (run_all last)) m w) caught) h

-- the first group of a switch, where its values are asked
first_group : (a : CExpr) (values : List ℕ) (body : List CStmt) (groups : List CGroup) (last : List CStmt) (x m : ℕ) (w : World) (b : Bool) → word_in a w ≡ Some x → has values x ≡ b
    → run (roll-CStmt (CStmt-F.Switch a (roll-CGroup (record { values = values; body = body }) ∷ groups) last)) m w
    ≡ on (if b then run_all body m w else group_of (map run_group groups) (run_all last) x m w) caught
first_group a values body groups last x m w b h k =
    switch_at a (roll-CGroup (record { values = values; body = body }) ∷ groups) last x m w h
    ∙ ap (λ g. on (group_of (g ∷ map run_group groups) (run_all last) x m w) caught) (run_group_layer (record { values = values; body = body }))
    ∙ ap (λ q. on (if q then run_all body m w else group_of (map run_group groups) (run_all last) x m w) caught) k

-- the whole run of a function with one statement
whole_at : (f : CFun) (start : Start) (answers : List Answer) (m : ℕ) (s : CStmt) (p : Part) → f.body ≡ s ∷ [] → run s ≡ p
    → c_run f start answers m ≡ outcome_of (in_turn (p ∷ []) m (start_world start answers))
whole_at f start answers m s p h k =
    ap (λ body. outcome_of (run_all body m (start_world start answers))) h
    ∙ ap (λ q. outcome_of (in_turn (q ∷ []) m (start_world start answers))) k

-- an endless loop that does nothing takes all turns
endless : (g m : ℕ) (w : World) → m ≤ g → rounds {E = Outcome} g always skip always m w ≡ Goes w
endless zero m w l = refl
endless (suc g) zero w l = refl
endless (suc g) (suc m) w l = endless g m w (omega (arith, l))

-- a loop whose test fails at once
ending : (enter : Test) (body : Part) (m : ℕ) (w : World) → enter w ≡ Some false → repeat enter body always m w ≡ Ends (Past w) m
ending enter body zero w h = ap (λ o. decide o goes_on skip 0 w) h
ending enter body (suc m) w h = ap (λ o. decide o (turn body always (rounds m enter body always)) skip (suc m) w) h

-- the law on statements and functions
pub runs_as_c : RunsAsC
runs_as_c = record {
  set_is_stuck = λ n a m w h. run_at (CStmt-F.Set n a) m w ∙ ap (λ o. done (having o (λ x. setting n x w)) m) h;
  while_ends = λ t body m w h. run_at (CStmt-F.While t body) m w ∙ ending (holds t) (run_all body) m w h;
  do_enters = λ t body w. run_at (CStmt-F.DoWhile body t) 0 w;
  do_ends = λ t m w h. run_at (CStmt-F.DoWhile [] t) (suc m) w ∙ ap (λ o. decide o (rounds m always skip (holds t)) skip m w) h;
  break_leaves = λ m w. loop_at (roll-CStmt CStmt-F.Break) leave_loop (suc m) w (run_layer CStmt-F.Break);
  break_ends_switch = λ a x m w h. switch_at a [] (roll-CStmt CStmt-F.Break ∷ []) x m w h ∙ ap (λ p. on (in_turn (p ∷ []) m w) caught) (run_layer CStmt-F.Break);
  one_group_runs = λ a values body groups last x m w h k. first_group a values body groups last x m w true h k;
  group_is_passed = λ a values body groups last x m w h k. first_group a values body groups last x m w false h k ∙ sym (switch_at a groups last x m w h);
  default_runs = λ a last x m w h. switch_at a [] last x m w h;
  return_ends_all = λ m w. loop_at (roll-CStmt CStmt-F.Return) (simply (λ v. Halt (returned v))) (suc m) w (run_layer CStmt-F.Return);
  end_returns = λ f start answers m h. ap (λ body. outcome_of (run_all body m (start_world start answers))) h;
  break_of_all_is_stuck = λ f start answers m h. whole_at f start answers m (roll-CStmt CStmt-F.Break) leave_loop h (run_layer CStmt-F.Break);
  endless_goes_on = λ f start answers m h. whole_at f start answers m (roll-CStmt (CStmt-F.Loop [])) (repeat always skip always) h (run_layer (CStmt-F.Loop []))
      ∙ ap (λ r. outcome_of (on r (after skip))) (endless m m (start_world start answers) (omega arith));
  undefined_is_zero = λ start h. ap word_of_bit h;
  locals_are_zero = λ start n. refl;
}
