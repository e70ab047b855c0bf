-- When a Cond may stand for the negation of another.
use Rattle.std.specs.Prelude.{◌≡◌, ◌≤◌, Bool, Some, IsTrue, not}
use Rattle.run_parts.specs.World.{Names}
use Rattle.c_syntax.specs.declared.syntax.CCond.{CCond}
use Rattle.c_syntax.specs.Value.{truth_of}
use Rattle.micro_ir.specs.Rule.{cond_has_flow_names}
use Rattle.word_rules.specs.Parts.{cond_parts}
use Rattle.word_rules.specs.Standing.{AreWords}

-- The second Cond may stand for the negation of the first: where the numbers of the first are words and its names a flow's, it
-- is true where the first is false, and false where that is true. It has no more parts.
pub record IsNegation (t u : CCond) : Type 0 where
  pub truth : IsTrue (cond_has_flow_names t) → (v : Names) → AreWords v → (b : Bool) → truth_of t v ≡ Some b → truth_of u v ≡ Some (not b)
  pub names : IsTrue (cond_has_flow_names t) → IsTrue (cond_has_flow_names u)
  pub parts : cond_parts u ≤ cond_parts t
