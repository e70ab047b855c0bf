-- The names that a Word reads decide its value, and those of a Cond its truth.
use Rattle.std.proofs.Common.{◌≡◌, ◌-◌, ◌^◌, true, false, not, ◌||◌, refl, sym, ap, ◌∙◌, subst, Some}
use Rattle.run_parts.specs.World.{Names}
use Rattle.c_syntax.specs.declared.syntax.CExpr as e
use Rattle.c_syntax.specs.declared.syntax.CExpr.{CExpr, CExpr-F, roll-CExpr}
use Rattle.c_syntax.specs.declared.syntax.CCond as c
use Rattle.c_syntax.specs.declared.syntax.CCond.{CCond, CCond-F, roll-CCond}
use Rattle.c_syntax.specs.Words.{bin_of, cmp_of, fn1_of, fn2_of, fn3_of}
use Rattle.c_syntax.specs.Value.{each, both, all_three, picked, Word, Truth, word_of, truth_of, word_at, truth_at}
use Rattle.c_syntax.proofs.Induct.{WordCases, every_word, every_cond}
use Rattle.c_syntax.proofs.Layers.{word_of_layer, truth_of_layer}
use Rattle.flow_passes.specs.Uses.{NameSet, word_reads, cond_reads, word_reads_at, cond_reads_at}
use Rattle.flow_passes.specs.Laws.{SameNames, ReadNamesDecide}
use Rattle.flow_passes.proofs.Names.{or_left, or_right, same_self}

-- what a layer reads
pub word_reads_layer : (y : CExpr-F CCond CExpr) → word_reads (roll-CExpr y) ≡ word_reads_at (e.map-CExpr CCond CExpr NameSet NameSet cond_reads word_reads y)
word_reads_layer y = e.fold-roll-CExpr NameSet NameSet cond_reads_at word_reads_at y

pub cond_reads_layer : (y : CCond-F CCond CExpr) → cond_reads (roll-CCond y) ≡ cond_reads_at (c.map-CCond CCond CExpr NameSet NameSet cond_reads word_reads y)
cond_reads_layer y = c.fold-roll-CCond NameSet NameSet cond_reads_at word_reads_at y

abbrev IsDecided : CExpr → Type 0
IsDecided a = (v u : Names) → SameNames (word_reads a) v u → word_of a u ≡ word_of a v

abbrev IsDecidedCond : CCond → Type 0
IsDecidedCond t = (v u : Names) → SameNames (cond_reads t) v u → truth_of t u ≡ truth_of t v

by_word : (y : CExpr-F CCond CExpr) → ((v u : Names) → SameNames (word_reads_at (e.map-CExpr CCond CExpr NameSet NameSet cond_reads word_reads y)) v u → word_at (e.map-CExpr CCond CExpr Truth Word truth_of word_of y) u ≡ word_at (e.map-CExpr CCond CExpr Truth Word truth_of word_of y) v) → IsDecided (roll-CExpr y)
by_word y h = λ v u s. ap (λ g. g u) (word_of_layer y) ∙ h v u (subst (λ r. SameNames r v u) (word_reads_layer y) s) ∙ sym (ap (λ g. g v) (word_of_layer y))

by_cond : (y : CCond-F CCond CExpr) → ((v u : Names) → SameNames (cond_reads_at (c.map-CCond CCond CExpr NameSet NameSet cond_reads word_reads y)) v u → truth_at (c.map-CCond CCond CExpr Truth Word truth_of word_of y) u ≡ truth_at (c.map-CCond CCond CExpr Truth Word truth_of word_of y) v) → IsDecidedCond (roll-CCond y)
by_cond y h = λ v u s. ap (λ g. g u) (truth_of_layer y) ∙ h v u (subst (λ r. SameNames r v u) (cond_reads_layer y) s) ∙ sym (ap (λ g. g v) (truth_of_layer y))

-- the parts of what is read
in_left : (a b : NameSet) (v u : Names) → SameNames (λ n. a n || b n) v u → SameNames a v u
in_left a b v u s = λ n t. s n (or_left (a n) (b n) t)

in_right : (a b : NameSet) (v u : Names) → SameNames (λ n. a n || b n) v u → SameNames b v u
in_right a b v u s = λ n t. s n (or_right (a n) (b n) t)

cases : WordCases IsDecided IsDecidedCond
cases = record {
  num = λ n. by_word (CExpr-F.Num n) (λ v u s. refl);
  name = λ m. by_word (CExpr-F.Name m) (λ v u s. ap (λ x. Some x) (s m (same_self m)));
  not_word = λ a ha. by_word (CExpr-F.«CExpr::Not» a) (λ v u s. ap (each (λ x. 2 ^ 32 - 1 - x)) (ha v u s));
  bin = λ op a b ha hb. by_word (CExpr-F.Bin op a b) (λ v u s.
      ap (λ x. both (bin_of op) x (word_of b u)) (ha v u (in_left (word_reads a) (word_reads b) v u s)) ∙ ap (both (bin_of op) (word_of a v)) (hb v u (in_right (word_reads a) (word_reads b) v u s)));
  fn1 = λ f a ha. by_word (CExpr-F.Fn1 f a) (λ v u s. ap (each (fn1_of f)) (ha v u s));
  fn2 = λ f a b ha hb. by_word (CExpr-F.Fn2 f a b) (λ v u s.
      ap (λ x. both (λ x y. Some (fn2_of f x y)) x (word_of b u)) (ha v u (in_left (word_reads a) (word_reads b) v u s)) ∙ ap (both (λ x y. Some (fn2_of f x y)) (word_of a v)) (hb v u (in_right (word_reads a) (word_reads b) v u s)));
  fn3 = λ f a b d ha hb hd. by_word (CExpr-F.Fn3 f a b d) (λ v u s.
      let r : NameSet = λ n. word_reads b n || word_reads d n in
      let q = in_right (word_reads a) r v u s in
      ap (λ x. all_three (fn3_of f) x (word_of b u) (word_of d u)) (ha v u (in_left (word_reads a) r v u s))
      ∙ ap (λ x. all_three (fn3_of f) (word_of a v) x (word_of d u)) (hb v u (in_left (word_reads b) (word_reads d) v u q))
      ∙ ap (all_three (fn3_of f) (word_of a v) (word_of b v)) (hd v u (in_right (word_reads b) (word_reads d) v u q)));
  pick = λ t a b ht ha hb. by_word (CExpr-F.Pick t a b) (λ v u s.
      let r : NameSet = λ n. word_reads a n || word_reads b n in
      let q = in_right (cond_reads t) r v u s in
      ap (λ x. picked x (word_of a u) (word_of b u)) (ht v u (in_left (cond_reads t) r v u s))
      ∙ ap (λ x. picked (truth_of t v) x (word_of b u)) (ha v u (in_left (word_reads a) (word_reads b) v u q))
      ∙ ap (picked (truth_of t v) (word_of a v)) (hb v u (in_right (word_reads a) (word_reads b) v u q)));
  cmp = λ op a b ha hb. by_cond (CCond-F.Cmp op a b) (λ v u s.
      ap (λ x. both (λ x y. Some (cmp_of op x y)) x (word_of b u)) (ha v u (in_left (word_reads a) (word_reads b) v u s)) ∙ ap (both (λ x y. Some (cmp_of op x y)) (word_of a v)) (hb v u (in_right (word_reads a) (word_reads b) v u s)));
  not_cond = λ t ht. by_cond (CCond-F.«CCond::Not» t) (λ v u s. ap (each not) (ht v u s));
  both = λ t r ht hr. by_cond (CCond-F.And t r) (λ v u s.
      ap (λ x. picked x (truth_of r u) (Some false)) (ht v u (in_left (cond_reads t) (cond_reads r) v u s)) ∙ ap (λ x. picked (truth_of t v) x (Some false)) (hr v u (in_right (cond_reads t) (cond_reads r) v u s)));
  either = λ t r ht hr. by_cond (CCond-F.Or t r) (λ v u s.
      ap (λ x. picked x (Some true) (truth_of r u)) (ht v u (in_left (cond_reads t) (cond_reads r) v u s)) ∙ ap (λ x. picked (truth_of t v) (Some true) x) (hr v u (in_right (cond_reads t) (cond_reads r) v u s)));
}

pub same_value : (a : CExpr) → IsDecided a
same_value a = every_word cases a

pub same_truth : (t : CCond) → IsDecidedCond t
same_truth t = every_cond cases t

pub read_names_decide : ReadNamesDecide
read_names_decide = record { value = same_value; truth = same_truth }
