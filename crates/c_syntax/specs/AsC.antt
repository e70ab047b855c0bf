-- What a reader of C expects of Words, Conds and statements, case by case.
use Rattle.std.specs.Prelude.{◌≡◌, ℕ, suc, ◌≤◌, true, false, List, [], ◌∷◌, Some, None}
use Rattle.dream_words.specs.declared.machine.Name.{Name}
use Rattle.dream_words.specs.declared.machine.Name.TheVariants as name
use Rattle.dream_words.specs.declared.machine.Bit.TheVariants.{Undefined}
use Rattle.dream_words.specs.declared.outcome.Start.{Start}
use Rattle.dream_words.specs.declared.outcome.Answer.{Answer}
use Rattle.dream_words.specs.declared.outcome.Outcome.TheVariants as outcome
use Rattle.run_parts.specs.Parts.{Past, Over, Stuck, Ends, Goes, has, catch_break}
use Rattle.run_parts.specs.World.{Names, World, start_names, start_world, returned}
use Rattle.c_syntax.specs.declared.syntax.CBin.TheVariants.{Shl, Shr}
use Rattle.c_syntax.specs.declared.syntax.CExpr.{CExpr, CExpr-F, roll-CExpr}
use Rattle.c_syntax.specs.declared.syntax.CCond.{CCond, CCond-F, roll-CCond}
use Rattle.c_syntax.specs.declared.syntax.CStmt.{CStmt, CStmt-F, roll-CStmt}
use Rattle.c_syntax.specs.declared.syntax.CGroup.{CGroup, roll-CGroup}
use Rattle.c_syntax.specs.declared.syntax.CFun.{CFun}
use Rattle.c_syntax.specs.Value.{word_of, truth_of}
use Rattle.c_syntax.specs.Run.{word_in, holds, run, run_all, c_run}

-- Words and Conds
pub record EvaluatesAsC : Type 0 where
  -- `&&` is false where its first part is, whatever its second part (C99 6.5.13, 4)
  pub and_stops : (t u : CCond) (v : Names) → truth_of t v ≡ Some false → truth_of (roll-CCond (CCond-F.And t u)) v ≡ Some false
  -- `||` is true where its first part is, whatever its second part (C99 6.5.14, 4)
  pub or_stops : (t u : CCond) (v : Names) → truth_of t v ≡ Some true → truth_of (roll-CCond (CCond-F.Or t u)) v ≡ Some true
  -- the conditional operator evaluates just the part that its test picks (C99 6.5.15, 4)
  pub picks_first : (t : CCond) (a b : CExpr) (v : Names) → truth_of t v ≡ Some true → word_of (roll-CExpr (CExpr-F.Pick t a b)) v ≡ word_of a v
  pub picks_second : (t : CCond) (a b : CExpr) (v : Names) → truth_of t v ≡ Some false → word_of (roll-CExpr (CExpr-F.Pick t a b)) v ≡ word_of b v
  -- a shift by 32 or more is stuck (C99 6.5.7, 3)
  pub shl_is_stuck : (a b : CExpr) (v : Names) (n : ℕ) → word_of b v ≡ Some n → 32 ≤ n → word_of (roll-CExpr (CExpr-F.Bin Shl a b)) v ≡ None
  pub shr_is_stuck : (a b : CExpr) (v : Names) (n : ℕ) → word_of b v ≡ Some n → 32 ≤ n → word_of (roll-CExpr (CExpr-F.Bin Shr a b)) v ≡ None

-- Statements and functions
pub record RunsAsC : Type 0 where
  -- a statement whose word is stuck is stuck
  pub set_is_stuck : (n : Name) (a : CExpr) (m : ℕ) (w : World) → word_in a w ≡ None → run (roll-CStmt (CStmt-F.Set n a)) m w ≡ Ends Stuck m
  -- `while` evaluates its test first, and makes no turn where it is false (C99 6.8.5.1)
  pub while_ends : (t : CCond) (body : List CStmt) (m : ℕ) (w : World) → holds t w ≡ Some false → run (roll-CStmt (CStmt-F.While t body)) m w ≡ Ends (Past w) m
  -- `do` enters its body first, which takes a turn (C99 6.8.5.2)
  pub do_enters : (t : CCond) (body : List CStmt) (w : World) → run (roll-CStmt (CStmt-F.DoWhile body t)) 0 w ≡ Goes w
  -- after an empty body `do` ends where its test is false
  pub do_ends : (t : CCond) (m : ℕ) (w : World) → holds t w ≡ Some false → run (roll-CStmt (CStmt-F.DoWhile [] t)) (suc m) w ≡ Ends (Past w) m
  -- a break leaves its loop (C99 6.8.6.3)
  pub break_leaves : (m : ℕ) (w : World) → run (roll-CStmt (CStmt-F.Loop (roll-CStmt CStmt-F.Break ∷ []))) (suc m) w ≡ Ends (Past w) m
  -- a break ends its switch, and no loop round it
  pub break_ends_switch : (a : CExpr) (x m : ℕ) (w : World) → word_in a w ≡ Some x
      → run (roll-CStmt (CStmt-F.Switch a [] (roll-CStmt CStmt-F.Break ∷ []))) m w ≡ Ends (Past w) m
  -- the group of the value runs, and none after it (C99 6.8.4.2)
  pub one_group_runs : (a : CExpr) (values : List ℕ) (body : List CStmt) (groups : List CGroup) (last : List CStmt) (x m : ℕ) (w : World) → word_in a w ≡ Some x
      → has values x ≡ true → run (roll-CStmt (CStmt-F.Switch a (roll-CGroup (record { values = values; body = body }) ∷ groups) last)) m w ≡ catch_break (run_all body) m w
  -- a group without the value is passed over
  pub group_is_passed : (a : CExpr) (values : List ℕ) (body : List CStmt) (groups : List CGroup) (last : List CStmt) (x m : ℕ) (w : World) → word_in a w ≡ Some x
      → has values x ≡ false → run (roll-CStmt (CStmt-F.Switch a (roll-CGroup (record { values = values; body = body }) ∷ groups) last)) m w
      ≡ run (roll-CStmt (CStmt-F.Switch a groups last)) m w
  -- without groups the default runs
  pub default_runs : (a : CExpr) (last : List CStmt) (x m : ℕ) (w : World) → word_in a w ≡ Some x → run (roll-CStmt (CStmt-F.Switch a [] last)) m w ≡ catch_break (run_all last) m w
  -- a return ends the whole run, also in a loop (C99 6.8.6.4)
  pub return_ends_all : (m : ℕ) (w : World) → run (roll-CStmt (CStmt-F.Loop (roll-CStmt CStmt-F.Return ∷ []))) (suc m) w ≡ Ends (Over (returned w)) m
  -- to reach the end of the function returns (C99 6.9.1, 12)
  pub end_returns : (f : CFun) (start : Start) (answers : List Answer) (m : ℕ) → f.body ≡ [] → c_run f start answers m ≡ returned (start_world start answers)
  -- a break that leaves the whole body is stuck
  pub break_of_all_is_stuck : (f : CFun) (start : Start) (answers : List Answer) (m : ℕ) → f.body ≡ roll-CStmt CStmt-F.Break ∷ [] → c_run f start answers m ≡ outcome.Stuck
  -- an endless loop goes on in any number of turns
  pub endless_goes_on : (f : CFun) (start : Start) (answers : List Answer) (m : ℕ) → f.body ≡ roll-CStmt (CStmt-F.Loop []) ∷ [] → c_run f start answers m ≡ outcome.Going []
  -- an undefined flag is 0 at the start, and so is every local
  pub undefined_is_zero : (start : Start) → start.flags.c ≡ Undefined → start_names start (name.Flag 0) ≡ 0
  pub locals_are_zero : (start : Start) (n : ℕ) → start_names start (name.T n) ≡ 0
