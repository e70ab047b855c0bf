-- When a Word or a Cond may stand in the place of another.
use Rattle.std.specs.Prelude.{◌≡◌, ℕ, ◌^◌, ◌<◌, ◌≤◌, Bool, Some, IsTrue, bit_and}
use Rattle.dream_words.specs.declared.machine.Name.{Name}
use Rattle.run_parts.specs.World.{Names}
use Rattle.c_syntax.specs.declared.syntax.CExpr.{CExpr}
use Rattle.c_syntax.specs.declared.syntax.CCond.{CCond}
use Rattle.c_syntax.specs.Value.{word_of, truth_of}
use Rattle.micro_ir.specs.Rule.{has_flow_names, cond_has_flow_names}
use Rattle.word_rules.specs.Parts.{word_parts, cond_parts}

-- every name stands for a word
abbrev pub AreWords : Names → Type 0
AreWords v = (n : Name) → v n < 2 ^ 32

-- The second Word may stand for the first: where the numbers of the first are words and its names a flow's, it has the value
-- of the first wherever that has one, and its own numbers and names are such too. It has no more parts.
pub record ForWord (e f : CExpr) : Type 0 where
  pub value : IsTrue (has_flow_names e) → (v : Names) → AreWords v → (x : ℕ) → word_of e v ≡ Some x → word_of f v ≡ Some x
  pub names : IsTrue (has_flow_names e) → IsTrue (has_flow_names f)
  pub parts : word_parts f ≤ word_parts e

-- the same of Conds
pub record ForCond (t u : CCond) : Type 0 where
  pub truth : IsTrue (cond_has_flow_names t) → (v : Names) → AreWords v → (b : Bool) → truth_of t v ≡ Some b → truth_of u v ≡ Some b
  pub names : IsTrue (cond_has_flow_names t) → IsTrue (cond_has_flow_names u)
  pub parts : cond_parts u ≤ cond_parts t

-- A mask covers a Word: its values have no other bits.
abbrev pub IsCoveredBy : CExpr → ℕ → Type 0
IsCoveredBy e mask = IsTrue (has_flow_names e) → (v : Names) → AreWords v → (x : ℕ) → word_of e v ≡ Some x → bit_and x mask ≡ x
