-- What the value, the truth and the depth of a Word or Cond are at a layer, from those of its parts. As rules of `simp` they
-- compute each of them.
use Rattle.std.proofs.Common.{◌≡◌, ℕ, ap}
use Rattle.run_parts.specs.World.{Names}
use Rattle.c_syntax.specs.declared.syntax.CExpr as e
use Rattle.c_syntax.specs.declared.syntax.CExpr.{CExpr, CExpr-F, roll-CExpr}
use Rattle.c_syntax.specs.declared.syntax.CCond as c
use Rattle.c_syntax.specs.declared.syntax.CCond.{CCond, CCond-F, roll-CCond}
use Rattle.c_syntax.specs.Value as value
use Rattle.c_syntax.specs.Value.{Word, Truth, word_of, truth_of}
use Rattle.c_syntax.specs.Depth as depth
use Rattle.c_syntax.specs.Depth.{word_depth, cond_depth}

pub word_layer : (y : CExpr-F CCond CExpr) (v : Names) → word_of (roll-CExpr y) v ≡ value.word_at (e.map-CExpr CCond CExpr Truth Word truth_of word_of y) v
word_layer y v = ap (λ g. g v) (e.fold-roll-CExpr Truth Word value.truth_at value.word_at y)

pub truth_layer : (y : CCond-F CCond CExpr) (v : Names) → truth_of (roll-CCond y) v ≡ value.truth_at (c.map-CCond CCond CExpr Truth Word truth_of word_of y) v
truth_layer y v = ap (λ g. g v) (c.fold-roll-CCond Truth Word value.truth_at value.word_at y)

pub word_depth_layer : (y : CExpr-F CCond CExpr) → word_depth (roll-CExpr y) ≡ depth.word_depth_at (e.map-CExpr CCond CExpr ℕ ℕ cond_depth word_depth y)
word_depth_layer y = e.fold-roll-CExpr ℕ ℕ depth.cond_depth_at depth.word_depth_at y

pub cond_depth_layer : (y : CCond-F CCond CExpr) → cond_depth (roll-CCond y) ≡ depth.cond_depth_at (c.map-CCond CCond CExpr ℕ ℕ cond_depth word_depth y)
cond_depth_layer y = c.fold-roll-CCond ℕ ℕ depth.cond_depth_at depth.word_depth_at y
