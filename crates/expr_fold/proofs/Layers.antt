-- What each definition over Words and Conds gives at a layer.
use Rattle.std.proofs.Common.{◌≡◌, ℕ, Bool, List, Option, ap, ◌∙◌}
use Rattle.run_parts.specs.World.{Names}
use Rattle.c_syntax.specs.declared.syntax.CExpr as e
use Rattle.c_syntax.specs.declared.syntax.CExpr.{CExpr, CExpr-F, roll-CExpr}
use Rattle.c_syntax.specs.declared.syntax.CCond as c
use Rattle.c_syntax.specs.declared.syntax.CCond.{CCond, CCond-F, roll-CCond}
use Rattle.c_syntax.specs.Value.{Word, Truth, word_at, truth_at, word_of, truth_of}
use Rattle.c_syntax.specs.Formed.{cond_names}
use Rattle.c_syntax.proofs.Layers.{word_of_layer, truth_of_layer}
use Rattle.micro_ir.specs.Rule.{word_names, has_flow_names, cond_has_flow_names}
use Rattle.expr_fold.specs.declared.delayed.Delayed.{Delayed}
use Rattle.expr_fold.specs.Placed.{placed_word_at, placed_cond_at, placed_word, placed_cond}

pub ap2 : {A B C : Type 0} (f : A → B → C) (a a' : A) (b b' : B) → a ≡ a' → b ≡ b' → f a b ≡ f a' b'
ap2 f a a' b b' p q = ap (λ x. f x b) p ∙ ap (f a') q

pub ap3 : {A B C D : Type 0} (f : A → B → C → D) (a a' : A) (b b' : B) (c c' : C) → a ≡ a' → b ≡ b' → c ≡ c' → f a b c ≡ f a' b' c'
ap3 f a a' b b' c c' p q r = ap (λ x. f x b c) p ∙ ap2 (f a') b b' c c' q r

pub placed_word_layer : (p : List Delayed) (y : CExpr-F CCond CExpr) → placed_word p (roll-CExpr y) ≡ placed_word_at p (e.map-CExpr CCond CExpr CCond CExpr (placed_cond p) (placed_word p) y)
placed_word_layer p y = e.fold-roll-CExpr CCond CExpr placed_cond_at (placed_word_at p) y

pub placed_cond_layer : (p : List Delayed) (y : CCond-F CCond CExpr) → placed_cond p (roll-CCond y) ≡ placed_cond_at (c.map-CCond CCond CExpr CCond CExpr (placed_cond p) (placed_word p) y)
placed_cond_layer p y = c.fold-roll-CCond CCond CExpr placed_cond_at (placed_word_at p) y

pub cond_names_layer : (y : CCond-F CCond CExpr) → cond_has_flow_names (roll-CCond y) ≡ cond_names (c.map-CCond CCond CExpr Bool Bool cond_has_flow_names has_flow_names y)
cond_names_layer y = c.fold-roll-CCond Bool Bool cond_names word_names y

-- a value by its layer
abbrev pub value_at : CExpr-F CCond CExpr → Names → Option ℕ
value_at y v = word_at (e.map-CExpr CCond CExpr Truth Word truth_of word_of y) v

abbrev pub test_at : CCond-F CCond CExpr → Names → Option Bool
test_at y v = truth_at (c.map-CCond CCond CExpr Truth Word truth_of word_of y) v

pub word_step : (y : CExpr-F CCond CExpr) (v : Names) → word_of (roll-CExpr y) v ≡ value_at y v
word_step y v = ap (λ g. g v) (word_of_layer y)

pub truth_step : (y : CCond-F CCond CExpr) (v : Names) → truth_of (roll-CCond y) v ≡ test_at y v
truth_step y v = ap (λ g. g v) (truth_of_layer y)
