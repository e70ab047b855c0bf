-- The run of statements where what a call of a target does is given. All else is as in the run of a function.
use Rattle.std.specs.Prelude.{ℕ, List, Option, map}
use Rattle.run_parts.specs.Parts.{in_turn, given, repeat}
use Rattle.run_parts.specs.Steps.{simply}
use Rattle.run_parts.specs.Effects.{calling}
use Rattle.c_syntax.specs.declared.syntax.CExpr.{CExpr}
use Rattle.c_syntax.specs.declared.syntax.CCond.{CCond}
use Rattle.c_syntax.specs.declared.syntax.CStmt.{CStmt, CStmt-F, fold-CStmt}
use Rattle.c_syntax.specs.declared.syntax.CArm.{CArm, fold-CArm}
use Rattle.c_syntax.specs.declared.syntax.CGroup.{CGroup, fold-CGroup}
use Rattle.c_syntax.specs.Run.{Part, Test, word_in, stmt_at, arm_at, group_at}
use Rattle.c_run.specs.State.{test_of}

-- a call that is recorded and takes the next answer
abbrev pub by_answers : ℕ → Part
by_answers target = simply (calling target)

-- a call: its Word is evaluated, and then its target does what is given
abbrev pub does_ext_by : (ℕ → Part) → CExpr → Part
does_ext_by does e m w = given (word_in e w) does m w

-- a statement, by its parts
abbrev pub stmt_by : (ℕ → Part) → CStmt-F Part (Test × Part) (List ℕ × Part) → Part
stmt_by does (CStmt-F.Ext e) = does_ext_by does e
stmt_by does s = stmt_at s

-- what a statement does
abbrev pub run_by : (ℕ → Part) → CStmt → Part
run_by does = fold-CStmt Part (Test × Part) (List ℕ × Part) (stmt_by does) arm_at group_at

abbrev pub run_arm_by : (ℕ → Part) → CArm → Test × Part
run_arm_by does = fold-CArm Part (Test × Part) (List ℕ × Part) (stmt_by does) arm_at group_at

abbrev pub run_group_by : (ℕ → Part) → CGroup → List ℕ × Part
run_group_by does = fold-CGroup Part (Test × Part) (List ℕ × Part) (stmt_by does) arm_at group_at

-- what statements do, one after another
abbrev pub run_all_by : (ℕ → Part) → List CStmt → Part
run_all_by does body = in_turn (map (run_by does) body)

-- a loop with a test before its body and a test after it, each of which may be absent
abbrev pub loop_by : (ℕ → Part) → Option CCond → List CStmt → Option CCond → Part
loop_by does enter body again = repeat (test_of enter) (run_all_by does body) (test_of again)
