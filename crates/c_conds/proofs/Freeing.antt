-- A Word or Cond that doesn't read a local has its value after the local is set.
use Rattle.std.proofs.Common.{◌≡◌, ℕ, nat_eq, Bool, true, false, not, if◌then◌else◌, Some, refl, sym, ap, ◌∙◌}
use Rattle.dream_words.specs.declared.machine.Name.{Name}
use Rattle.dream_words.specs.declared.machine.Name.TheVariants as name
use Rattle.run_parts.specs.World.{Names, with_name}
use Rattle.c_syntax.specs.declared.syntax.CExpr as e
use Rattle.c_syntax.specs.declared.syntax.CExpr.{CExpr, CExpr-F, roll-CExpr}
use Rattle.c_syntax.specs.declared.syntax.CCond as c
use Rattle.c_syntax.specs.declared.syntax.CCond.{CCond, CCond-F, roll-CCond}
use Rattle.c_syntax.specs.Words.{bin_of, cmp_of, fn1_of, fn2_of, fn3_of}
use Rattle.c_syntax.specs.Value.{each, both, all_three, picked, Word, Truth, word_of, truth_of, word_at, truth_at}
use Rattle.c_syntax.proofs.Induct.{WordCases, every_cond}
use Rattle.c_syntax.proofs.Layers.{word_of_layer, truth_of_layer}
use Rattle.c_conds.specs.Free as free
use Rattle.c_conds.specs.Free.{is_other, free_word, free_cond}
use Rattle.c_locals.proofs.Bools.{no_true, and_first, and_second, ap2, ap3}

-- the words after the local is set
abbrev set_b : ℕ → Names → ℕ → Names
set_b k v x = with_name v (name.B k) x

by_test : (b : Bool) (x y : ℕ) → not b ≡ true → (if b then x else y) ≡ y
by_test true x y h = absurd (no_true h)
by_test false x y h = refl

other_stays : (k : ℕ) (n : Name) (v : Names) (x : ℕ) → is_other k n ≡ true → set_b k v x n ≡ v n
other_stays k (name.Reg n) v x h = refl
other_stays k (name.Flag n) v x h = refl
other_stays k name.Fs v x h = refl
other_stays k name.Gs v x h = refl
other_stays k (name.T n) v x h = refl
other_stays k (name.B n) v x h = by_test (nat_eq n k) x (v (name.B n)) h
other_stays k (name.S n) v x h = refl

module _ (k : ℕ) where
  abbrev IsFree : CExpr → Type 0
  IsFree a = free_word k a ≡ true → (v : Names) (x : ℕ) → word_of a (set_b k v x) ≡ word_of a v

  abbrev IsFreeCond : CCond → Type 0
  IsFreeCond t = free_cond k t ≡ true → (v : Names) (x : ℕ) → truth_of t (set_b k v x) ≡ truth_of t v

  abbrev value_at : CExpr-F CCond CExpr → Word
  value_at y = word_at (e.map-CExpr CCond CExpr Truth Word truth_of word_of y)

  abbrev test_at : CCond-F CCond CExpr → Truth
  test_at y = truth_at (c.map-CCond CCond CExpr Truth Word truth_of word_of y)

  by_word : (y : CExpr-F CCond CExpr) → (free.word_at k (e.map-CExpr CCond CExpr Bool Bool (free_cond k) (free_word k) y) ≡ true → (v : Names) (x : ℕ) → value_at y (set_b k v x) ≡ value_at y v) → IsFree (roll-CExpr y)
  by_word y g h v x = ap (λ q. q (set_b k v x)) (word_of_layer y) ∙ g (sym (e.fold-roll-CExpr Bool Bool free.cond_at (free.word_at k) y) ∙ h) v x ∙ sym (ap (λ q. q v) (word_of_layer y))

  by_cond : (y : CCond-F CCond CExpr) → (free.cond_at (c.map-CCond CCond CExpr Bool Bool (free_cond k) (free_word k) y) ≡ true → (v : Names) (x : ℕ) → test_at y (set_b k v x) ≡ test_at y v) → IsFreeCond (roll-CCond y)
  by_cond y g h v x = ap (λ q. q (set_b k v x)) (truth_of_layer y) ∙ g (sym (c.fold-roll-CCond Bool Bool free.cond_at (free.word_at k) y) ∙ h) v x ∙ sym (ap (λ q. q v) (truth_of_layer y))

  cases : WordCases IsFree IsFreeCond
  cases = record {
    num = λ n. by_word (CExpr-F.Num n) (λ h v x. refl);
    name = λ n. by_word (CExpr-F.Name n) (λ h v x. ap (λ y. Some y) (other_stays k n v x h));
    not_word = λ a ha. by_word (CExpr-F.«CExpr::Not» a) (λ h v x. ap (each _) (ha h v x));
    bin = λ op a b ha hb. by_word (CExpr-F.Bin op a b) (λ h v x. ap2 (both (bin_of op)) _ _ _ _ (ha (and_first _ _ h) v x) (hb (and_second (free_word k a) _ h) v x));
    fn1 = λ g a ha. by_word (CExpr-F.Fn1 g a) (λ h v x. ap (each (fn1_of g)) (ha h v x));
    fn2 = λ g a b ha hb. by_word (CExpr-F.Fn2 g a b) (λ h v x. ap2 (both (λ p q. Some (fn2_of g p q))) _ _ _ _ (ha (and_first _ _ h) v x) (hb (and_second (free_word k a) _ h) v x));
    fn3 = λ g a b d ha hb hd. by_word (CExpr-F.Fn3 g a b d) (λ h v x. let i = and_second (free_word k a) _ h in
        ap3 (all_three (fn3_of g)) _ _ _ _ _ _ (ha (and_first _ _ h) v x) (hb (and_first _ _ i) v x) (hd (and_second (free_word k b) _ i) v x));
    pick = λ t a b ht ha hb. by_word (CExpr-F.Pick t a b) (λ h v x. let i = and_second (free_cond k t) _ h in
        ap3 picked _ _ _ _ _ _ (ht (and_first _ _ h) v x) (ha (and_first _ _ i) v x) (hb (and_second (free_word k a) _ i) v x));
    cmp = λ op a b ha hb. by_cond (CCond-F.Cmp op a b) (λ h v x. ap2 (both (λ p q. Some (cmp_of op p q))) _ _ _ _ (ha (and_first _ _ h) v x) (hb (and_second (free_word k a) _ h) v x));
    not_cond = λ t ht. by_cond (CCond-F.«CCond::Not» t) (λ h v x. ap (each not) (ht h v x));
    both = λ t u ht hu. by_cond (CCond-F.And t u) (λ h v x. ap2 (λ p q. picked p q (Some false)) _ _ _ _ (ht (and_first _ _ h) v x) (hu (and_second (free_cond k t) _ h) v x));
    either = λ t u ht hu. by_cond (CCond-F.Or t u) (λ h v x. ap2 (λ p q. picked p (Some true) q) _ _ _ _ (ht (and_first _ _ h) v x) (hu (and_second (free_cond k t) _ h) v x));
  }

  pub free_same : (t : CCond) → IsFreeCond t
  free_same t = every_cond cases t
