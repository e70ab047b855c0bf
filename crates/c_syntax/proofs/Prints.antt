-- Canonical texts letter by letter.
use Rattle.std.proofs.Common.{◌≡◌, ℕ, refl, ap, min, replicate, ◌*◌, ◌≤◌, arith}
use Rattle.std.specs.Fmt.{digits}
use Rattle.c_syntax.specs.declared.syntax.CStmt as st
use Rattle.c_syntax.specs.declared.syntax.CStmt.{CStmt, CStmt-F, roll-CStmt}
use Rattle.c_syntax.specs.declared.syntax.CArm as arm
use Rattle.c_syntax.specs.declared.syntax.CArm.{CArm, CArm-F, roll-CArm}
use Rattle.c_syntax.specs.declared.syntax.CGroup as group
use Rattle.c_syntax.specs.declared.syntax.CGroup.{CGroup, CGroup-F, roll-CGroup}
use Rattle.c_syntax.specs.Text as text
use Rattle.c_syntax.specs.Text.{Text, Lines, stmt_text, arm_text, group_text, indent, canonical_text}
use Rattle.c_syntax.proofs.Layers.{word_text_layer, cond_text_layer, stmt_text_layer, arm_text_layer, group_text_layer}
use Rattle.c_syntax.specs.Prints.{PrintsSo, returns_five, text_of_five, each_statement, text_of_each_statement}

-- the text of statements, arms and groups at a level
stmt_at_level : (y : CStmt-F CStmt CArm CGroup) (level : ℕ) → stmt_text (roll-CStmt y) level ≡ text.stmt_at (st.map-CStmt CStmt CArm CGroup Lines Lines Lines stmt_text arm_text group_text y) level
stmt_at_level y level = ap (λ g. g level) (stmt_text_layer y)

arm_at_level : (y : CArm-F CStmt CArm CGroup) (level : ℕ) → arm_text (roll-CArm y) level ≡ text.arm_at (arm.map-CArm CStmt CArm CGroup Lines Lines Lines stmt_text arm_text group_text y) level
arm_at_level y level = ap (λ g. g level) (arm_text_layer y)

group_at_level : (y : CGroup-F CStmt CArm CGroup) (level : ℕ) → group_text (roll-CGroup y) level ≡ text.group_at (group.map-CGroup CStmt CArm CGroup Lines Lines Lines stmt_text arm_text group_text y) level
group_at_level y level = ap (λ g. g level) (group_text_layer y)

-- the first text
five : canonical_text returns_five ≡ text_of_five
unfolding digits
five = simp (word_text_layer, stmt_at_level) refl

-- the second text
each_one : canonical_text each_statement ≡ text_of_each_statement
unfolding digits
each_one = simp (word_text_layer, cond_text_layer, stmt_at_level, arm_at_level, group_at_level) refl

-- a level past 32 is cut to 32
at_most : (level : ℕ) → 32 ≤ level → min level 32 ≡ 32
at_most level h = omega (arith, h)

deep : (level : ℕ) → 32 ≤ level → indent level ≡ replicate 64 32
deep level h = ap (λ n. replicate (2 * n) 32) (at_most level h)

-- the law
pub prints_so : PrintsSo
prints_so = record { include_has_22_bytes = refl; returns_five_is = five; five_has_95_bytes = refl; deep_levels = deep; each_statement_is = each_one }
