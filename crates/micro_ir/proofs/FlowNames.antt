-- A Word and a Cond of a flow read only names that a flow may have.
use Rattle.std.proofs.Common.{◌≡◌, ◌-◌, ◌^◌, Bool, true, false, not, ◌&&◌, refl, sym, ap, ◌∙◌, subst, Some}
use Rattle.std.specs.Prelude.{IsTrue}
use Rattle.run_parts.specs.World.{Names}
use Rattle.c_syntax.specs.declared.syntax.CExpr as e
use Rattle.c_syntax.specs.declared.syntax.CExpr.{CExpr, CExpr-F, roll-CExpr}
use Rattle.c_syntax.specs.declared.syntax.CCond as c
use Rattle.c_syntax.specs.declared.syntax.CCond.{CCond, CCond-F, roll-CCond}
use Rattle.c_syntax.specs.Words.{bin_of, cmp_of, fn1_of, fn2_of, fn3_of}
use Rattle.c_syntax.specs.Value.{each, both, all_three, picked, Word, Truth, word_of, truth_of, word_at, truth_at}
use Rattle.c_syntax.specs.Formed.{cond_names}
use Rattle.c_syntax.proofs.Induct.{WordCases, every_word, every_cond}
use Rattle.c_syntax.proofs.Layers.{word_of_layer, truth_of_layer}
use Rattle.micro_ir.specs.Rule.{word_names, has_flow_names, cond_has_flow_names}
use Rattle.micro_ir.specs.Laws.{SameFlowNames, FlowNamesDecide}
use Rattle.micro_ir.proofs.Values.{both_true, names_layer}

cond_names_layer : (y : CCond-F CCond CExpr) → cond_has_flow_names (roll-CCond y) ≡ cond_names (c.map-CCond CCond CExpr Bool Bool cond_has_flow_names has_flow_names y)
cond_names_layer y = c.fold-roll-CCond Bool Bool cond_names word_names y

abbrev IsSame : CExpr → Type 0
IsSame a = (v u : Names) → IsTrue (has_flow_names a) → SameFlowNames v u → word_of a v ≡ word_of a u

abbrev IsSameTruth : CCond → Type 0
IsSameTruth t = (v u : Names) → IsTrue (cond_has_flow_names t) → SameFlowNames v u → truth_of t v ≡ truth_of t u

by_word : (y : CExpr-F CCond CExpr) → ((v u : Names) → IsTrue (word_names (e.map-CExpr CCond CExpr Bool Bool cond_has_flow_names has_flow_names y)) → SameFlowNames v u → word_at (e.map-CExpr CCond CExpr Truth Word truth_of word_of y) v ≡ word_at (e.map-CExpr CCond CExpr Truth Word truth_of word_of y) u) → IsSame (roll-CExpr y)
by_word y h = λ v u t s. ap (λ g. g v) (word_of_layer y) ∙ h v u (subst IsTrue (names_layer y) t) s ∙ sym (ap (λ g. g u) (word_of_layer y))

by_cond : (y : CCond-F CCond CExpr) → ((v u : Names) → IsTrue (cond_names (c.map-CCond CCond CExpr Bool Bool cond_has_flow_names has_flow_names y)) → SameFlowNames v u → truth_at (c.map-CCond CCond CExpr Truth Word truth_of word_of y) v ≡ truth_at (c.map-CCond CCond CExpr Truth Word truth_of word_of y) u) → IsSameTruth (roll-CCond y)
by_cond y h = λ v u t s. ap (λ g. g v) (truth_of_layer y) ∙ h v u (subst IsTrue (cond_names_layer y) t) s ∙ sym (ap (λ g. g u) (truth_of_layer y))

cases : WordCases IsSame IsSameTruth
cases = record {
  num = λ n. by_word (CExpr-F.Num n) (λ v u t s. refl);
  name = λ n. by_word (CExpr-F.Name n) (λ v u t s. ap (λ x. Some x) (s n t));
  not_word = λ a ha. by_word (CExpr-F.«CExpr::Not» a) (λ v u t s. ap (each (λ x. 2 ^ 32 - 1 - x)) (ha v u t s));
  bin = λ op a b ha hb. by_word (CExpr-F.Bin op a b) (λ v u t s.
      let p = both_true (has_flow_names a) (has_flow_names b) t in
      ap (λ x. both (bin_of op) x (word_of b v)) (ha v u p.0 s) ∙ ap (both (bin_of op) (word_of a u)) (hb v u p.1 s));
  fn1 = λ f a ha. by_word (CExpr-F.Fn1 f a) (λ v u t s. ap (each (fn1_of f)) (ha v u t s));
  fn2 = λ f a b ha hb. by_word (CExpr-F.Fn2 f a b) (λ v u t s.
      let p = both_true (has_flow_names a) (has_flow_names b) t in
      ap (λ x. both (λ x y. Some (fn2_of f x y)) x (word_of b v)) (ha v u p.0 s) ∙ ap (both (λ x y. Some (fn2_of f x y)) (word_of a u)) (hb v u p.1 s));
  fn3 = λ f a b d ha hb hd. by_word (CExpr-F.Fn3 f a b d) (λ v u t s.
      let p = both_true (has_flow_names a) (has_flow_names b && has_flow_names d) t in
      let q = both_true (has_flow_names b) (has_flow_names d) p.1 in
      ap (λ x. all_three (fn3_of f) x (word_of b v) (word_of d v)) (ha v u p.0 s)
      ∙ ap (λ x. all_three (fn3_of f) (word_of a u) x (word_of d v)) (hb v u q.0 s)
      ∙ ap (all_three (fn3_of f) (word_of a u) (word_of b u)) (hd v u q.1 s));
  pick = λ c a b hc ha hb. by_word (CExpr-F.Pick c a b) (λ v u t s.
      let p = both_true (cond_has_flow_names c) (has_flow_names a && has_flow_names b) t in
      let q = both_true (has_flow_names a) (has_flow_names b) p.1 in
      ap (λ x. picked x (word_of a v) (word_of b v)) (hc v u p.0 s)
      ∙ ap (λ x. picked (truth_of c u) x (word_of b v)) (ha v u q.0 s)
      ∙ ap (picked (truth_of c u) (word_of a u)) (hb v u q.1 s));
  cmp = λ op a b ha hb. by_cond (CCond-F.Cmp op a b) (λ v u t s.
      let p = both_true (has_flow_names a) (has_flow_names b) t in
      ap (λ x. both (λ x y. Some (cmp_of op x y)) x (word_of b v)) (ha v u p.0 s) ∙ ap (both (λ x y. Some (cmp_of op x y)) (word_of a u)) (hb v u p.1 s));
  not_cond = λ t ht. by_cond (CCond-F.«CCond::Not» t) (λ v u n s. ap (each not) (ht v u n s));
  both = λ t r ht hr. by_cond (CCond-F.And t r) (λ v u n s.
      let p = both_true (cond_has_flow_names t) (cond_has_flow_names r) n in
      ap (λ x. picked x (truth_of r v) (Some false)) (ht v u p.0 s) ∙ ap (λ x. picked (truth_of t u) x (Some false)) (hr v u p.1 s));
  either = λ t r ht hr. by_cond (CCond-F.Or t r) (λ v u n s.
      let p = both_true (cond_has_flow_names t) (cond_has_flow_names r) n in
      ap (λ x. picked x (Some true) (truth_of r v)) (ht v u p.0 s) ∙ ap (λ x. picked (truth_of t u) (Some true) x) (hr v u p.1 s));
}

pub same_value : (a : CExpr) → IsSame a
same_value a = every_word cases a

pub same_truth : (t : CCond) → IsSameTruth t
same_truth t = every_cond cases t

pub flow_names_decide : FlowNamesDecide
flow_names_decide = record { same_value = same_value; same_truth = same_truth }
