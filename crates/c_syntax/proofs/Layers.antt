-- What each definition over Words, Conds and statements gives at a layer: the layer's own clause, at what it gives for the
-- parts.
use Rattle.std.proofs.Common.{◌≡◌, ℕ, Bool, List}
use Rattle.c_syntax.specs.declared.syntax.CExpr as e
use Rattle.c_syntax.specs.declared.syntax.CExpr.{CExpr, CExpr-F, roll-CExpr}
use Rattle.c_syntax.specs.declared.syntax.CCond as c
use Rattle.c_syntax.specs.declared.syntax.CCond.{CCond, CCond-F, roll-CCond}
use Rattle.c_syntax.specs.declared.syntax.CStmt as st
use Rattle.c_syntax.specs.declared.syntax.CStmt.{CStmt, CStmt-F, roll-CStmt}
use Rattle.c_syntax.specs.declared.syntax.CArm as arm
use Rattle.c_syntax.specs.declared.syntax.CArm.{CArm, CArm-F, roll-CArm}
use Rattle.c_syntax.specs.declared.syntax.CGroup as group
use Rattle.c_syntax.specs.declared.syntax.CGroup.{CGroup, CGroup-F, roll-CGroup}
use Rattle.c_syntax.specs.declared.syntax.CFun.{CFun}
use Rattle.c_syntax.specs.Value as value
use Rattle.c_syntax.specs.Value.{Word, Truth, word_of, truth_of}
use Rattle.c_syntax.specs.Run as runs
use Rattle.c_syntax.specs.Run.{Part, Test, run, run_arm, run_group}
use Rattle.c_syntax.specs.Tokens as tokens
use Rattle.c_syntax.specs.Tokens.{Tokens, word_tokens, cond_tokens, stmt_tokens, arm_tokens, group_tokens}
use Rattle.c_syntax.specs.Text as text
use Rattle.c_syntax.specs.Text.{Text, Lines, word_text, cond_text, stmt_text, arm_text, group_text}
use Rattle.c_syntax.specs.Depth as depth
use Rattle.c_syntax.specs.Depth.{word_depth, cond_depth, stmt_depth, arm_depth, group_depth}
use Rattle.c_syntax.specs.Formed as formed
use Rattle.c_syntax.specs.Formed.{Allowed, GroupAllowed, names_word, names_cond, stmt_allowed, arm_allowed, group_allowed}

-- ---- values

pub word_of_layer : (y : CExpr-F CCond CExpr) → word_of (roll-CExpr y) ≡ value.word_at (e.map-CExpr CCond CExpr Truth Word truth_of word_of y)
word_of_layer y = e.fold-roll-CExpr Truth Word value.truth_at value.word_at y

pub truth_of_layer : (y : CCond-F CCond CExpr) → truth_of (roll-CCond y) ≡ value.truth_at (c.map-CCond CCond CExpr Truth Word truth_of word_of y)
truth_of_layer y = c.fold-roll-CCond Truth Word value.truth_at value.word_at y

-- ---- runs

pub run_layer : (y : CStmt-F CStmt CArm CGroup) → run (roll-CStmt y) ≡ runs.stmt_at (st.map-CStmt CStmt CArm CGroup Part (Test × Part) (List ℕ × Part) run run_arm run_group y)
run_layer y = st.fold-roll-CStmt Part (Test × Part) (List ℕ × Part) runs.stmt_at runs.arm_at runs.group_at y

pub run_arm_layer : (y : CArm-F CStmt CArm CGroup) → run_arm (roll-CArm y) ≡ runs.arm_at (arm.map-CArm CStmt CArm CGroup Part (Test × Part) (List ℕ × Part) run run_arm run_group y)
run_arm_layer y = arm.fold-roll-CArm Part (Test × Part) (List ℕ × Part) runs.stmt_at runs.arm_at runs.group_at y

pub run_group_layer : (y : CGroup-F CStmt CArm CGroup) → run_group (roll-CGroup y) ≡ runs.group_at (group.map-CGroup CStmt CArm CGroup Part (Test × Part) (List ℕ × Part) run run_arm run_group y)
run_group_layer y = group.fold-roll-CGroup Part (Test × Part) (List ℕ × Part) runs.stmt_at runs.arm_at runs.group_at y

-- ---- tokens

pub word_tokens_layer : (y : CExpr-F CCond CExpr) → word_tokens (roll-CExpr y) ≡ tokens.word_at (e.map-CExpr CCond CExpr Tokens Tokens cond_tokens word_tokens y)
word_tokens_layer y = e.fold-roll-CExpr Tokens Tokens tokens.cond_at tokens.word_at y

pub cond_tokens_layer : (y : CCond-F CCond CExpr) → cond_tokens (roll-CCond y) ≡ tokens.cond_at (c.map-CCond CCond CExpr Tokens Tokens cond_tokens word_tokens y)
cond_tokens_layer y = c.fold-roll-CCond Tokens Tokens tokens.cond_at tokens.word_at y

pub stmt_tokens_layer : (y : CStmt-F CStmt CArm CGroup) → stmt_tokens (roll-CStmt y) ≡ tokens.stmt_at (st.map-CStmt CStmt CArm CGroup Tokens Tokens Tokens stmt_tokens arm_tokens group_tokens y)
stmt_tokens_layer y = st.fold-roll-CStmt Tokens Tokens Tokens tokens.stmt_at tokens.arm_at tokens.group_at y

pub arm_tokens_layer : (y : CArm-F CStmt CArm CGroup) → arm_tokens (roll-CArm y) ≡ tokens.arm_at (arm.map-CArm CStmt CArm CGroup Tokens Tokens Tokens stmt_tokens arm_tokens group_tokens y)
arm_tokens_layer y = arm.fold-roll-CArm Tokens Tokens Tokens tokens.stmt_at tokens.arm_at tokens.group_at y

pub group_tokens_layer : (y : CGroup-F CStmt CArm CGroup) → group_tokens (roll-CGroup y) ≡ tokens.group_at (group.map-CGroup CStmt CArm CGroup Tokens Tokens Tokens stmt_tokens arm_tokens group_tokens y)
group_tokens_layer y = group.fold-roll-CGroup Tokens Tokens Tokens tokens.stmt_at tokens.arm_at tokens.group_at y

-- ---- texts

pub word_text_layer : (y : CExpr-F CCond CExpr) → word_text (roll-CExpr y) ≡ text.word_at (e.map-CExpr CCond CExpr Text Text cond_text word_text y)
word_text_layer y = e.fold-roll-CExpr Text Text text.cond_at text.word_at y

pub cond_text_layer : (y : CCond-F CCond CExpr) → cond_text (roll-CCond y) ≡ text.cond_at (c.map-CCond CCond CExpr Text Text cond_text word_text y)
cond_text_layer y = c.fold-roll-CCond Text Text text.cond_at text.word_at y

pub stmt_text_layer : (y : CStmt-F CStmt CArm CGroup) → stmt_text (roll-CStmt y) ≡ text.stmt_at (st.map-CStmt CStmt CArm CGroup Lines Lines Lines stmt_text arm_text group_text y)
stmt_text_layer y = st.fold-roll-CStmt Lines Lines Lines text.stmt_at text.arm_at text.group_at y

pub arm_text_layer : (y : CArm-F CStmt CArm CGroup) → arm_text (roll-CArm y) ≡ text.arm_at (arm.map-CArm CStmt CArm CGroup Lines Lines Lines stmt_text arm_text group_text y)
arm_text_layer y = arm.fold-roll-CArm Lines Lines Lines text.stmt_at text.arm_at text.group_at y

pub group_text_layer : (y : CGroup-F CStmt CArm CGroup) → group_text (roll-CGroup y) ≡ text.group_at (group.map-CGroup CStmt CArm CGroup Lines Lines Lines stmt_text arm_text group_text y)
group_text_layer y = group.fold-roll-CGroup Lines Lines Lines text.stmt_at text.arm_at text.group_at y

-- ---- depths

pub word_depth_layer : (y : CExpr-F CCond CExpr) → word_depth (roll-CExpr y) ≡ depth.word_depth_at (e.map-CExpr CCond CExpr ℕ ℕ cond_depth word_depth y)
word_depth_layer y = e.fold-roll-CExpr ℕ ℕ depth.cond_depth_at depth.word_depth_at y

pub cond_depth_layer : (y : CCond-F CCond CExpr) → cond_depth (roll-CCond y) ≡ depth.cond_depth_at (c.map-CCond CCond CExpr ℕ ℕ cond_depth word_depth y)
cond_depth_layer y = c.fold-roll-CCond ℕ ℕ depth.cond_depth_at depth.word_depth_at y

pub stmt_depth_layer : (y : CStmt-F CStmt CArm CGroup) → stmt_depth (roll-CStmt y) ≡ depth.stmt_depth_at (st.map-CStmt CStmt CArm CGroup ℕ ℕ ℕ stmt_depth arm_depth group_depth y)
stmt_depth_layer y = st.fold-roll-CStmt ℕ ℕ ℕ depth.stmt_depth_at depth.arm_depth_at depth.group_depth_at y

pub arm_depth_layer : (y : CArm-F CStmt CArm CGroup) → arm_depth (roll-CArm y) ≡ depth.arm_depth_at (arm.map-CArm CStmt CArm CGroup ℕ ℕ ℕ stmt_depth arm_depth group_depth y)
arm_depth_layer y = arm.fold-roll-CArm ℕ ℕ ℕ depth.stmt_depth_at depth.arm_depth_at depth.group_depth_at y

pub group_depth_layer : (y : CGroup-F CStmt CArm CGroup) → group_depth (roll-CGroup y) ≡ depth.group_depth_at (group.map-CGroup CStmt CArm CGroup ℕ ℕ ℕ stmt_depth arm_depth group_depth y)
group_depth_layer y = group.fold-roll-CGroup ℕ ℕ ℕ depth.stmt_depth_at depth.arm_depth_at depth.group_depth_at y

-- ---- conditions

pub names_word_layer : (f : CFun) (y : CExpr-F CCond CExpr) → names_word f (roll-CExpr y) ≡ formed.word_names f (e.map-CExpr CCond CExpr Bool Bool (names_cond f) (names_word f) y)
names_word_layer f y = e.fold-roll-CExpr Bool Bool formed.cond_names (formed.word_names f) y

pub names_cond_layer : (f : CFun) (y : CCond-F CCond CExpr) → names_cond f (roll-CCond y) ≡ formed.cond_names (c.map-CCond CCond CExpr Bool Bool (names_cond f) (names_word f) y)
names_cond_layer f y = c.fold-roll-CCond Bool Bool formed.cond_names (formed.word_names f) y

pub stmt_allowed_layer : (f : CFun) (y : CStmt-F CStmt CArm CGroup) → stmt_allowed f (roll-CStmt y) ≡ formed.stmt_at f (st.map-CStmt CStmt CArm CGroup Allowed Allowed GroupAllowed (stmt_allowed f) (arm_allowed f) (group_allowed f) y)
stmt_allowed_layer f y = st.fold-roll-CStmt Allowed Allowed GroupAllowed (formed.stmt_at f) (formed.arm_at f) formed.group_at y

pub arm_allowed_layer : (f : CFun) (y : CArm-F CStmt CArm CGroup) → arm_allowed f (roll-CArm y) ≡ formed.arm_at f (arm.map-CArm CStmt CArm CGroup Allowed Allowed GroupAllowed (stmt_allowed f) (arm_allowed f) (group_allowed f) y)
arm_allowed_layer f y = arm.fold-roll-CArm Allowed Allowed GroupAllowed (formed.stmt_at f) (formed.arm_at f) formed.group_at y

pub group_allowed_layer : (f : CFun) (y : CGroup-F CStmt CArm CGroup) → group_allowed f (roll-CGroup y) ≡ formed.group_at (group.map-CGroup CStmt CArm CGroup Allowed Allowed GroupAllowed (stmt_allowed f) (arm_allowed f) (group_allowed f) y)
group_allowed_layer f y = group.fold-roll-CGroup Allowed Allowed GroupAllowed (formed.stmt_at f) (formed.arm_at f) formed.group_at y
