-- Words and Conds with new names have the values that they had, where names agree on what is kept.
use Rattle.std.proofs.Common.{◌≡◌, ℕ, Bool, true, false, not, Option, Some, refl, sym, ap, ◌∙◌, subst, nat_eq, arith, rules}
use Rattle.dream_words.specs.declared.machine.Name.{Name}
use Rattle.dream_words.specs.declared.machine.Name.TheVariants as name
use Rattle.run_parts.specs.World.{Names}
use Rattle.c_syntax.specs.declared.syntax.CExpr as e
use Rattle.c_syntax.specs.declared.syntax.CExpr.{CExpr, CExpr-F, roll-CExpr}
use Rattle.c_syntax.specs.declared.syntax.CCond as c
use Rattle.c_syntax.specs.declared.syntax.CCond.{CCond, CCond-F, roll-CCond}
use Rattle.c_syntax.specs.Words.{bin_of, cmp_of, fn1_of, fn2_of, fn3_of}
use Rattle.c_syntax.specs.Value.{Word, Truth, each, both, all_three, picked, word_at, truth_at, word_of, truth_of}
use Rattle.c_syntax.proofs.Induct.{WordCases, every_word, every_cond}
use Rattle.c_syntax.proofs.Layers.{word_of_layer, truth_of_layer}
use Rattle.c_locals.specs.Marks.{Marks}
use Rattle.c_locals.specs.Settled as settled
use Rattle.c_locals.specs.Settled.{new_name, is_kept, renamed_word, renamed_cond}
use Rattle.c_locals.proofs.Bools.{or_left, or_right, ap2, ap3}
use Rattle.c_locals.proofs.ReadNames.{NameSet, same_local, union, word_reads_at, cond_reads_at, word_reads, cond_reads, Knows, word_reads_layer, cond_reads_layer}
use Rattle.c_locals.proofs.Agreeing.{Agree}

pub renamed_word_layer : (f : Name → Name) (y : CExpr-F CCond CExpr) → renamed_word f (roll-CExpr y) ≡ settled.word_at f (e.map-CExpr CCond CExpr CCond CExpr (renamed_cond f) (renamed_word f) y)
renamed_word_layer f y = e.fold-roll-CExpr CCond CExpr settled.cond_at (settled.word_at f) y

pub renamed_cond_layer : (f : Name → Name) (y : CCond-F CCond CExpr) → renamed_cond f (roll-CCond y) ≡ settled.cond_at (c.map-CCond CCond CExpr CCond CExpr (renamed_cond f) (renamed_word f) y)
renamed_cond_layer f y = c.fold-roll-CCond CCond CExpr settled.cond_at (settled.word_at f) y

-- a value by its layer
abbrev value_at : CExpr-F CCond CExpr → Names → Option ℕ
value_at y v = word_at (e.map-CExpr CCond CExpr Truth Word truth_of word_of y) v

abbrev test_at : CCond-F CCond CExpr → Names → Option Bool
test_at y v = truth_at (c.map-CCond CCond CExpr Truth Word truth_of word_of y) v

-- the parts of what is kept
pub first_known : (m : Marks) (r q : NameSet) → Knows m (union r q) → Knows m r
first_known m r q h k i = h k (or_left (r k) (q k) i)

pub second_known : (m : Marks) (r q : NameSet) → Knows m (union r q) → Knows m q
second_known m r q h k i = h k (or_right (r k) (q k) i)

eq_self : (k : ℕ) → nat_eq k k ≡ true
eq_self k = search (rules, arith)

-- a name that is read is kept
pub name_known : (m : Marks) (n : Name) → Knows m (same_local n) → is_kept m n ≡ true
name_known m (name.Reg n) h = refl
name_known m (name.Flag n) h = refl
name_known m name.Fs h = refl
name_known m name.Gs h = refl
name_known m (name.T n) h = h (name.T n) (eq_self n)
name_known m (name.B n) h = h (name.B n) (eq_self n)
name_known m (name.S n) h = refl

module _ (m : Marks) where
  abbrev KeepsWord : CExpr → Type 0
  KeepsWord a = Knows m (word_reads a) → (v u : Names) → Agree m v u → word_of (renamed_word (new_name m) a) u ≡ word_of a v

  abbrev KeepsCond : CCond → Type 0
  KeepsCond t = Knows m (cond_reads t) → (v u : Names) → Agree m v u → truth_of (renamed_cond (new_name m) t) u ≡ truth_of t v

  abbrev rw_ : CExpr → CExpr
  rw_ = renamed_word (new_name m)

  abbrev rc : CCond → CCond
  rc = renamed_cond (new_name m)

  -- a Word y whose renamed Word is z, where their layers give the same
  by_word : (y z : CExpr-F CCond CExpr) → rw_ (roll-CExpr y) ≡ roll-CExpr z
      → (Knows m (word_reads_at (e.map-CExpr CCond CExpr NameSet NameSet cond_reads word_reads y)) → (v u : Names) → Agree m v u → value_at z u ≡ value_at y v)
      → KeepsWord (roll-CExpr y)
  by_word y z r g h v u s = ap (λ q. word_of q u) r ∙ ap (λ k. k u) (word_of_layer z) ∙ g (subst (Knows m) (word_reads_layer y) h) v u s ∙ sym (ap (λ k. k v) (word_of_layer y))

  by_cond : (y z : CCond-F CCond CExpr) → rc (roll-CCond y) ≡ roll-CCond z
      → (Knows m (cond_reads_at (c.map-CCond CCond CExpr NameSet NameSet cond_reads word_reads y)) → (v u : Names) → Agree m v u → test_at z u ≡ test_at y v)
      → KeepsCond (roll-CCond y)
  by_cond y z r g h v u s = ap (λ q. truth_of q u) r ∙ ap (λ k. k u) (truth_of_layer z) ∙ g (subst (Knows m) (cond_reads_layer y) h) v u s ∙ sym (ap (λ k. k v) (truth_of_layer y))

  cases : WordCases KeepsWord KeepsCond
  cases = record {
    num = λ n. by_word (CExpr-F.Num n) (CExpr-F.Num n) (renamed_word_layer (new_name m) (CExpr-F.Num n)) (λ h v u s. refl);
    name = λ n. by_word (CExpr-F.Name n) (CExpr-F.Name (new_name m n)) (renamed_word_layer (new_name m) (CExpr-F.Name n)) (λ h v u s. ap (λ x. Some x) (s n (name_known m n h)));
    not_word = λ a ha. by_word (CExpr-F.«CExpr::Not» a) (CExpr-F.«CExpr::Not» (rw_ a)) (renamed_word_layer (new_name m) (CExpr-F.«CExpr::Not» a)) (λ h v u s. ap (each _) (ha h v u s));
    bin = λ op a b ha hb. by_word (CExpr-F.Bin op a b) (CExpr-F.Bin op (rw_ a) (rw_ b)) (renamed_word_layer (new_name m) (CExpr-F.Bin op a b))
        (λ h v u s. ap2 (both (bin_of op)) _ _ _ _ (ha (first_known m (word_reads a) (word_reads b) h) v u s) (hb (second_known m (word_reads a) (word_reads b) h) v u s));
    fn1 = λ g a ha. by_word (CExpr-F.Fn1 g a) (CExpr-F.Fn1 g (rw_ a)) (renamed_word_layer (new_name m) (CExpr-F.Fn1 g a)) (λ h v u s. ap (each (fn1_of g)) (ha h v u s));
    fn2 = λ g a b ha hb. by_word (CExpr-F.Fn2 g a b) (CExpr-F.Fn2 g (rw_ a) (rw_ b)) (renamed_word_layer (new_name m) (CExpr-F.Fn2 g a b))
        (λ h v u s. ap2 (both (λ x y. Some (fn2_of g x y))) _ _ _ _ (ha (first_known m (word_reads a) (word_reads b) h) v u s) (hb (second_known m (word_reads a) (word_reads b) h) v u s));
    fn3 = λ g a b d ha hb hd. by_word (CExpr-F.Fn3 g a b d) (CExpr-F.Fn3 g (rw_ a) (rw_ b) (rw_ d)) (renamed_word_layer (new_name m) (CExpr-F.Fn3 g a b d))
        (λ h v u s. let k = second_known m (word_reads a) (union (word_reads b) (word_reads d)) h in
        ap3 (all_three (fn3_of g)) _ _ _ _ _ _ (ha (first_known m (word_reads a) (union (word_reads b) (word_reads d)) h) v u s)
        (hb (first_known m (word_reads b) (word_reads d) k) v u s) (hd (second_known m (word_reads b) (word_reads d) k) v u s));
    pick = λ t a b ht ha hb. by_word (CExpr-F.Pick t a b) (CExpr-F.Pick (rc t) (rw_ a) (rw_ b)) (renamed_word_layer (new_name m) (CExpr-F.Pick t a b))
        (λ h v u s. let k = second_known m (cond_reads t) (union (word_reads a) (word_reads b)) h in
        ap3 picked _ _ _ _ _ _ (ht (first_known m (cond_reads t) (union (word_reads a) (word_reads b)) h) v u s)
        (ha (first_known m (word_reads a) (word_reads b) k) v u s) (hb (second_known m (word_reads a) (word_reads b) k) v u s));
    cmp = λ op a b ha hb. by_cond (CCond-F.Cmp op a b) (CCond-F.Cmp op (rw_ a) (rw_ b)) (renamed_cond_layer (new_name m) (CCond-F.Cmp op a b))
        (λ h v u s. ap2 (both (λ x y. Some (cmp_of op x y))) _ _ _ _ (ha (first_known m (word_reads a) (word_reads b) h) v u s) (hb (second_known m (word_reads a) (word_reads b) h) v u s));
    not_cond = λ t ht. by_cond (CCond-F.«CCond::Not» t) (CCond-F.«CCond::Not» (rc t)) (renamed_cond_layer (new_name m) (CCond-F.«CCond::Not» t)) (λ h v u s. ap (each not) (ht h v u s));
    both = λ t q ht hq. by_cond (CCond-F.And t q) (CCond-F.And (rc t) (rc q)) (renamed_cond_layer (new_name m) (CCond-F.And t q))
        (λ h v u s. ap2 (λ x y. picked x y (Some false)) _ _ _ _ (ht (first_known m (cond_reads t) (cond_reads q) h) v u s) (hq (second_known m (cond_reads t) (cond_reads q) h) v u s));
    either = λ t q ht hq. by_cond (CCond-F.Or t q) (CCond-F.Or (rc t) (rc q)) (renamed_cond_layer (new_name m) (CCond-F.Or t q))
        (λ h v u s. ap2 (λ x y. picked x (Some true) y) _ _ _ _ (ht (first_known m (cond_reads t) (cond_reads q) h) v u s) (hq (second_known m (cond_reads t) (cond_reads q) h) v u s));
  }

  pub word_kept : (a : CExpr) → Knows m (word_reads a) → (v u : Names) → Agree m v u → word_of (renamed_word (new_name m) a) u ≡ word_of a v
  word_kept a = every_word cases a

  pub cond_kept : (t : CCond) → Knows m (cond_reads t) → (v u : Names) → Agree m v u → truth_of (renamed_cond (new_name m) t) u ≡ truth_of t v
  cond_kept t = every_cond cases t
