-- Words and Conds of a flow that may stand for others.
use Rattle.std.proofs.Common.{◌≡◌, true, nat_le, subst, sym}
use Rattle.c_syntax.specs.declared.syntax.CExpr.{CExpr}
use Rattle.c_syntax.specs.declared.syntax.CCond.{CCond}
use Rattle.c_syntax.specs.Depth.{word_depth, cond_depth}
use Rattle.micro_ir.specs.Rule.{has_flow_names, cond_has_flow_names}
use Rattle.micro_ir.proofs.Values.{both_true}
use Rattle.word_rules.specs.Standing.{ForWord, ForCond}
use Rattle.word_rules.proofs.Congruence.{and_true}
use Rattle.expr_rewrite.specs.Rewritten.{StandsForWord, StandsForCond}

pub word_stands : (e f : CExpr) → ForWord e f → nat_le (word_depth f) 64 ≡ true → StandsForWord e f
word_stands e f h d = record {
  rule = λ t. and_true (has_flow_names f) (nat_le (word_depth f) 64) (h.names (both_true (has_flow_names e) (nat_le (word_depth e) 64) t).0) d;
  value = λ t. h.value (both_true (has_flow_names e) (nat_le (word_depth e) 64) t).0;
}

pub cond_stands : (t u : CCond) → ForCond t u → nat_le (cond_depth u) 64 ≡ true → StandsForCond t u
cond_stands t u h d = record {
  rule = λ s. and_true (cond_has_flow_names u) (nat_le (cond_depth u) 64) (h.names (both_true (cond_has_flow_names t) (nat_le (cond_depth t) 64) s).0) d;
  truth = λ s. h.truth (both_true (cond_has_flow_names t) (nat_le (cond_depth t) 64) s).0;
}

pub word_itself : (e f : CExpr) → f ≡ e → StandsForWord e f
word_itself e f h = subst (StandsForWord e) (sym h) (record { rule = λ t. t; value = λ t v s x k. k })

pub cond_itself : (t u : CCond) → u ≡ t → StandsForCond t u
cond_itself t u h = subst (StandsForCond t) (sym h) (record { rule = λ s. s; truth = λ s v a b k. k })
