-- How often names stand in Words, and how deep these nest, once a word is put in the place of a name.
use Rattle.std.proofs.Common.{◌≡◌, ℕ, ◌+◌, ◌*◌, ◌≤◌, max, Bool, true, false, cond, ◌||◌, nat_le, List, [], ◌∷◌, refl, sym, ap, ◌∙◌, subst, arith}
use Rattle.std.proofs.Math.Nat.{add-mul}
use Rattle.dream_words.specs.declared.machine.Name.{Name}
use Rattle.c_syntax.specs.declared.syntax.CExpr as e
use Rattle.c_syntax.specs.declared.syntax.CExpr.{CExpr, CExpr-F, roll-CExpr}
use Rattle.c_syntax.specs.declared.syntax.CCond as c
use Rattle.c_syntax.specs.declared.syntax.CCond.{CCond, CCond-F, roll-CCond}
use Rattle.c_syntax.specs.Depth.{word_depth_at, cond_depth_at, word_depth, cond_depth}
use Rattle.c_syntax.proofs.Induct.{WordCases, every_word, every_cond}
use Rattle.c_syntax.proofs.Layers.{word_depth_layer, cond_depth_layer}
use Rattle.flow_passes.specs.Uses.{NameSet, same_name, word_reads, cond_reads, word_reads_at, cond_reads_at}
use Rattle.flow_passes.proofs.Reading.{word_reads_layer, cond_reads_layer}
use Rattle.expr_fold.specs.declared.delayed.Delayed.{Delayed}
use Rattle.expr_fold.specs.Placed.{stands_for, placed_word, placed_cond}
use Rattle.expr_fold.specs.Counts.{Counts, count_in_word_at, count_in_cond_at, count_in_word, count_in_cond}
use Rattle.expr_fold.proofs.Named.{same_true, same_turned, not_both}
use Rattle.expr_fold.proofs.Layers.{ap2, ap3, placed_word_layer, placed_cond_layer}

pub count_layer : (y : CExpr-F CCond CExpr) → count_in_word (roll-CExpr y) ≡ count_in_word_at (e.map-CExpr CCond CExpr Counts Counts count_in_cond count_in_word y)
count_layer y = e.fold-roll-CExpr Counts Counts count_in_cond_at count_in_word_at y

pub cond_count_layer : (y : CCond-F CCond CExpr) → count_in_cond (roll-CCond y) ≡ count_in_cond_at (c.map-CCond CCond CExpr Counts Counts count_in_cond count_in_word y)
cond_count_layer y = c.fold-roll-CCond Counts Counts count_in_cond_at count_in_word_at y

-- what a layer counts
abbrev pub counted_at : CExpr-F CCond CExpr → Counts
counted_at y = count_in_word_at (e.map-CExpr CCond CExpr Counts Counts count_in_cond count_in_word y)

abbrev pub cond_counted_at : CCond-F CCond CExpr → Counts
cond_counted_at y = count_in_cond_at (c.map-CCond CCond CExpr Counts Counts count_in_cond count_in_word y)

-- ---- how often names stand there

-- A name stands c times in a Word, and p times with a word in the place of another one that stands there t times; d is 1
-- where both are one, and the first name stands k times in the word.
pub record IsMoved (p t c d k : ℕ) : Type 0 where
  pub is : p + t * d ≡ c + t * k

pub moved_two : (p q t s c b d k : ℕ) → IsMoved p t c d k → IsMoved q s b d k → IsMoved (p + q) (t + s) (c + b) d k
moved_two p q t s c b d k h g =
    let x = add-mul t s d in
    let y = add-mul t s k in
    let i = h.is in
    let j = g.is in
    record { is = omega (arith, x, y, i, j) }

moved_none : (d k : ℕ) → IsMoved 0 0 0 d k
moved_none d k = record { is = omega arith }

moved_here : (d k : ℕ) → IsMoved k 1 d d k
moved_here d k = record { is = omega arith }

moved_there : (c d k : ℕ) → IsMoved c 0 c d k
moved_there c d k = record { is = omega arith }

module _ (d : Delayed) (n : Name) where
  abbrev pub CountsWord : CExpr → Type 0
  CountsWord a = IsMoved (count_in_word (placed_word (d ∷ []) a) n) (count_in_word a d.name) (count_in_word a n) (cond (same_name d.name n) 1 0) (count_in_word d.word n)

  abbrev pub CountsCond : CCond → Type 0
  CountsCond t = IsMoved (count_in_cond (placed_cond (d ∷ []) t) n) (count_in_cond t d.name) (count_in_cond t n) (cond (same_name d.name n) 1 0) (count_in_word d.word n)

  -- a Word y that becomes z, by their layers
  by_word : (y z : CExpr-F CCond CExpr) → placed_word (d ∷ []) (roll-CExpr y) ≡ roll-CExpr z → IsMoved (counted_at z n) (counted_at y d.name) (counted_at y n) (cond (same_name d.name n) 1 0) (count_in_word d.word n) → CountsWord (roll-CExpr y)
  by_word y z r h =
      subst (λ x. IsMoved x (count_in_word (roll-CExpr y) d.name) (count_in_word (roll-CExpr y) n) (cond (same_name d.name n) 1 0) (count_in_word d.word n)) (sym (ap (λ x. count_in_word x n) r ∙ ap (λ f. f n) (count_layer z)))
      (subst (λ f. IsMoved (counted_at z n) (f d.name) (f n) (cond (same_name d.name n) 1 0) (count_in_word d.word n)) (sym (count_layer y)) h)

  by_cond : (y z : CCond-F CCond CExpr) → placed_cond (d ∷ []) (roll-CCond y) ≡ roll-CCond z → IsMoved (cond_counted_at z n) (cond_counted_at y d.name) (cond_counted_at y n) (cond (same_name d.name n) 1 0) (count_in_word d.word n) → CountsCond (roll-CCond y)
  by_cond y z r h =
      subst (λ x. IsMoved x (count_in_cond (roll-CCond y) d.name) (count_in_cond (roll-CCond y) n) (cond (same_name d.name n) 1 0) (count_in_word d.word n)) (sym (ap (λ x. count_in_cond x n) r ∙ ap (λ f. f n) (cond_count_layer z)))
      (subst (λ f. IsMoved (cond_counted_at z n) (f d.name) (f n) (cond (same_name d.name n) 1 0) (count_in_word d.word n)) (sym (cond_count_layer y)) h)

  -- the name itself, and every other one
  name_moved : (m : Name) (b a : Bool) → same_name d.name m ≡ b → same_name m d.name ≡ a → IsMoved (count_in_word (cond b d.word (roll-CExpr (CExpr-F.Name m))) n) (cond a 1 0) (cond (same_name m n) 1 0) (cond (same_name d.name n) 1 0) (count_in_word d.word n)
  name_moved m true true p q = subst (λ x. IsMoved (count_in_word d.word n) 1 (cond (same_name x n) 1 0) (cond (same_name d.name n) 1 0) (count_in_word d.word n)) (same_true d.name m p) (moved_here _ _)
  name_moved m true false p q = absurd (not_both (same_name m d.name) (same_turned m d.name ∙ p) q)
  name_moved m false true p q = absurd (not_both (same_name m d.name) q (same_turned m d.name ∙ p))
  name_moved m false false p q = subst (λ x. IsMoved x 0 (cond (same_name m n) 1 0) (cond (same_name d.name n) 1 0) (count_in_word d.word n)) (sym (ap (λ f. f n) (count_layer (CExpr-F.Name m)))) (moved_there _ _ _)

  count_cases : WordCases CountsWord CountsCond
  count_cases = record {
    num = λ x. by_word (CExpr-F.Num x) (CExpr-F.Num x) (placed_word_layer (d ∷ []) (CExpr-F.Num x)) (moved_none _ _);
    name = λ m. subst (λ x. IsMoved (count_in_word x n) (count_in_word (roll-CExpr (CExpr-F.Name m)) d.name) (count_in_word (roll-CExpr (CExpr-F.Name m)) n) (cond (same_name d.name n) 1 0) (count_in_word d.word n)) (sym (placed_word_layer (d ∷ []) (CExpr-F.Name m)))
        (subst (λ f. IsMoved (count_in_word (stands_for (d ∷ []) m) n) (f d.name) (f n) (cond (same_name d.name n) 1 0) (count_in_word d.word n)) (sym (count_layer (CExpr-F.Name m))) (name_moved m (same_name d.name m) (same_name m d.name) refl refl));
    not_word = λ a ha. by_word (CExpr-F.«CExpr::Not» a) (CExpr-F.«CExpr::Not» (placed_word (d ∷ []) a)) (placed_word_layer (d ∷ []) (CExpr-F.«CExpr::Not» a)) ha;
    bin = λ op a b ha hb. by_word (CExpr-F.Bin op a b) (CExpr-F.Bin op (placed_word (d ∷ []) a) (placed_word (d ∷ []) b)) (placed_word_layer (d ∷ []) (CExpr-F.Bin op a b)) (moved_two _ _ _ _ _ _ _ _ ha hb);
    fn1 = λ g a ha. by_word (CExpr-F.Fn1 g a) (CExpr-F.Fn1 g (placed_word (d ∷ []) a)) (placed_word_layer (d ∷ []) (CExpr-F.Fn1 g a)) ha;
    fn2 = λ g a b ha hb. by_word (CExpr-F.Fn2 g a b) (CExpr-F.Fn2 g (placed_word (d ∷ []) a) (placed_word (d ∷ []) b)) (placed_word_layer (d ∷ []) (CExpr-F.Fn2 g a b)) (moved_two _ _ _ _ _ _ _ _ ha hb);
    fn3 = λ g a b x ha hb hx. by_word (CExpr-F.Fn3 g a b x) (CExpr-F.Fn3 g (placed_word (d ∷ []) a) (placed_word (d ∷ []) b) (placed_word (d ∷ []) x)) (placed_word_layer (d ∷ []) (CExpr-F.Fn3 g a b x)) (moved_two _ _ _ _ _ _ _ _ ha (moved_two _ _ _ _ _ _ _ _ hb hx));
    pick = λ t a b ht ha hb. by_word (CExpr-F.Pick t a b) (CExpr-F.Pick (placed_cond (d ∷ []) t) (placed_word (d ∷ []) a) (placed_word (d ∷ []) b)) (placed_word_layer (d ∷ []) (CExpr-F.Pick t a b)) (moved_two _ _ _ _ _ _ _ _ ht (moved_two _ _ _ _ _ _ _ _ ha hb));
    cmp = λ op a b ha hb. by_cond (CCond-F.Cmp op a b) (CCond-F.Cmp op (placed_word (d ∷ []) a) (placed_word (d ∷ []) b)) (placed_cond_layer (d ∷ []) (CCond-F.Cmp op a b)) (moved_two _ _ _ _ _ _ _ _ ha hb);
    not_cond = λ t ht. by_cond (CCond-F.«CCond::Not» t) (CCond-F.«CCond::Not» (placed_cond (d ∷ []) t)) (placed_cond_layer (d ∷ []) (CCond-F.«CCond::Not» t)) ht;
    both = λ t r ht hr. by_cond (CCond-F.And t r) (CCond-F.And (placed_cond (d ∷ []) t) (placed_cond (d ∷ []) r)) (placed_cond_layer (d ∷ []) (CCond-F.And t r)) (moved_two _ _ _ _ _ _ _ _ ht hr);
    either = λ t r ht hr. by_cond (CCond-F.Or t r) (CCond-F.Or (placed_cond (d ∷ []) t) (placed_cond (d ∷ []) r)) (placed_cond_layer (d ∷ []) (CCond-F.Or t r)) (moved_two _ _ _ _ _ _ _ _ ht hr);
  }

  pub word_counts : (a : CExpr) → CountsWord a
  word_counts a = every_word count_cases a

  pub cond_counts : (t : CCond) → CountsCond t
  cond_counts t = every_cond count_cases t

-- ---- a name stands in a Word where it stands there once at least

one_of_sum : (x y : ℕ) → (nat_le 1 x || nat_le 1 y) ≡ nat_le 1 (x + y)
one_of_sum x y = grind arith

-- a test whether a number is 1 at least
pub record IsSome (b : Bool) (k : ℕ) : Type 0 where
  pub is : b ≡ nat_le 1 k

pub or_counted : (a b : Bool) (x y : ℕ) → IsSome a x → IsSome b y → IsSome (a || b) (x + y)
or_counted a b x y h g = record { is = ap (λ z. z || b) h.is ∙ ap (λ z. nat_le 1 x || z) g.is ∙ one_of_sum x y }

one_counted : (b : Bool) → IsSome b (cond b 1 0)
one_counted true = record { is = refl }
one_counted false = record { is = refl }

module _ (n : Name) where
  abbrev pub ReadsWord : CExpr → Type 0
  ReadsWord a = IsSome (word_reads a n) (count_in_word a n)

  abbrev pub ReadsCond : CCond → Type 0
  ReadsCond t = IsSome (cond_reads t n) (count_in_cond t n)

  read_word : (y : CExpr-F CCond CExpr) → IsSome (word_reads_at (e.map-CExpr CCond CExpr NameSet NameSet cond_reads word_reads y) n) (counted_at y n) → ReadsWord (roll-CExpr y)
  read_word y h = record { is = ap (λ f. f n) (word_reads_layer y) ∙ h.is ∙ ap (λ f. nat_le 1 (f n)) (sym (count_layer y)) }

  read_cond : (y : CCond-F CCond CExpr) → IsSome (cond_reads_at (c.map-CCond CCond CExpr NameSet NameSet cond_reads word_reads y) n) (cond_counted_at y n) → ReadsCond (roll-CCond y)
  read_cond y h = record { is = ap (λ f. f n) (cond_reads_layer y) ∙ h.is ∙ ap (λ f. nat_le 1 (f n)) (sym (cond_count_layer y)) }

  read_cases : WordCases ReadsWord ReadsCond
  read_cases = record {
    num = λ x. read_word (CExpr-F.Num x) (record { is = refl });
    name = λ m. read_word (CExpr-F.Name m) (one_counted (same_name m n));
    not_word = λ a ha. read_word (CExpr-F.«CExpr::Not» a) ha;
    bin = λ op a b ha hb. read_word (CExpr-F.Bin op a b) (or_counted _ _ _ _ ha hb);
    fn1 = λ g a ha. read_word (CExpr-F.Fn1 g a) ha;
    fn2 = λ g a b ha hb. read_word (CExpr-F.Fn2 g a b) (or_counted _ _ _ _ ha hb);
    fn3 = λ g a b x ha hb hx. read_word (CExpr-F.Fn3 g a b x) (or_counted _ _ _ _ ha (or_counted _ _ _ _ hb hx));
    pick = λ t a b ht ha hb. read_word (CExpr-F.Pick t a b) (or_counted _ _ _ _ ht (or_counted _ _ _ _ ha hb));
    cmp = λ op a b ha hb. read_cond (CCond-F.Cmp op a b) (or_counted _ _ _ _ ha hb);
    not_cond = λ t ht. read_cond (CCond-F.«CCond::Not» t) ht;
    both = λ t r ht hr. read_cond (CCond-F.And t r) (or_counted _ _ _ _ ht hr);
    either = λ t r ht hr. read_cond (CCond-F.Or t r) (or_counted _ _ _ _ ht hr);
  }

  pub word_read : (a : CExpr) → ReadsWord a
  word_read a = every_word read_cases a

  pub cond_read : (t : CCond) → ReadsCond t
  cond_read t = every_cond read_cases t

-- ---- depths

module _ (p q : List Delayed) (deeper : (n : Name) → word_depth (stands_for p n) ≤ word_depth (stands_for q n)) where
  abbrev pub GrowsWord : CExpr → Type 0
  GrowsWord a = word_depth (placed_word p a) ≤ word_depth (placed_word q a)

  abbrev pub GrowsCond : CCond → Type 0
  GrowsCond t = cond_depth (placed_cond p t) ≤ cond_depth (placed_cond q t)

  grow_word : (y x z : CExpr-F CCond CExpr) → placed_word p (roll-CExpr y) ≡ roll-CExpr x → placed_word q (roll-CExpr y) ≡ roll-CExpr z
      → word_depth_at (e.map-CExpr CCond CExpr ℕ ℕ cond_depth word_depth x) ≤ word_depth_at (e.map-CExpr CCond CExpr ℕ ℕ cond_depth word_depth z) → GrowsWord (roll-CExpr y)
  grow_word y x z r s h =
      subst (λ i. i ≤ word_depth (placed_word q (roll-CExpr y))) (sym (ap word_depth r ∙ word_depth_layer x))
      (subst (λ i. word_depth_at (e.map-CExpr CCond CExpr ℕ ℕ cond_depth word_depth x) ≤ i) (sym (ap word_depth s ∙ word_depth_layer z)) h)

  grow_cond : (y x z : CCond-F CCond CExpr) → placed_cond p (roll-CCond y) ≡ roll-CCond x → placed_cond q (roll-CCond y) ≡ roll-CCond z
      → cond_depth_at (c.map-CCond CCond CExpr ℕ ℕ cond_depth word_depth x) ≤ cond_depth_at (c.map-CCond CCond CExpr ℕ ℕ cond_depth word_depth z) → GrowsCond (roll-CCond y)
  grow_cond y x z r s h =
      subst (λ i. i ≤ cond_depth (placed_cond q (roll-CCond y))) (sym (ap cond_depth r ∙ cond_depth_layer x))
      (subst (λ i. cond_depth_at (c.map-CCond CCond CExpr ℕ ℕ cond_depth word_depth x) ≤ i) (sym (ap cond_depth s ∙ cond_depth_layer z)) h)

  -- the same of a layer whose parts are replaced alike
  same_word : (y : CExpr-F CCond CExpr) → ((r : List Delayed) → placed_word r (roll-CExpr y) ≡ roll-CExpr (e.map-CExpr CCond CExpr CCond CExpr (placed_cond r) (placed_word r) y))
      → word_depth_at (e.map-CExpr CCond CExpr ℕ ℕ cond_depth word_depth (e.map-CExpr CCond CExpr CCond CExpr (placed_cond p) (placed_word p) y)) ≤ word_depth_at (e.map-CExpr CCond CExpr ℕ ℕ cond_depth word_depth (e.map-CExpr CCond CExpr CCond CExpr (placed_cond q) (placed_word q) y))
      → GrowsWord (roll-CExpr y)
  same_word y r h = grow_word y _ _ (r p) (r q) h

  same_cond : (y : CCond-F CCond CExpr) → ((r : List Delayed) → placed_cond r (roll-CCond y) ≡ roll-CCond (c.map-CCond CCond CExpr CCond CExpr (placed_cond r) (placed_word r) y))
      → cond_depth_at (c.map-CCond CCond CExpr ℕ ℕ cond_depth word_depth (c.map-CCond CCond CExpr CCond CExpr (placed_cond p) (placed_word p) y)) ≤ cond_depth_at (c.map-CCond CCond CExpr ℕ ℕ cond_depth word_depth (c.map-CCond CCond CExpr CCond CExpr (placed_cond q) (placed_word q) y))
      → GrowsCond (roll-CCond y)
  same_cond y r h = grow_cond y _ _ (r p) (r q) h

  grow_cases : WordCases GrowsWord GrowsCond
  grow_cases = record {
    num = λ n. same_word (CExpr-F.Num n) (λ r. placed_word_layer r (CExpr-F.Num n)) (omega arith);
    name = λ n. subst (λ x. word_depth x ≤ word_depth (placed_word q (roll-CExpr (CExpr-F.Name n)))) (sym (placed_word_layer p (CExpr-F.Name n))) (subst (λ x. word_depth (stands_for p n) ≤ word_depth x) (sym (placed_word_layer q (CExpr-F.Name n))) (deeper n));
    not_word = λ a ha. same_word (CExpr-F.«CExpr::Not» a) (λ r. placed_word_layer r (CExpr-F.«CExpr::Not» a)) (omega (arith, ha));
    bin = λ op a b ha hb. same_word (CExpr-F.Bin op a b) (λ r. placed_word_layer r (CExpr-F.Bin op a b)) (omega (arith, ha, hb));
    fn1 = λ g a ha. same_word (CExpr-F.Fn1 g a) (λ r. placed_word_layer r (CExpr-F.Fn1 g a)) (omega (arith, ha));
    fn2 = λ g a b ha hb. same_word (CExpr-F.Fn2 g a b) (λ r. placed_word_layer r (CExpr-F.Fn2 g a b)) (omega (arith, ha, hb));
    fn3 = λ g a b x ha hb hx. same_word (CExpr-F.Fn3 g a b x) (λ r. placed_word_layer r (CExpr-F.Fn3 g a b x)) (omega (arith, ha, hb, hx));
    pick = λ t a b ht ha hb. same_word (CExpr-F.Pick t a b) (λ r. placed_word_layer r (CExpr-F.Pick t a b)) (omega (arith, ht, ha, hb));
    cmp = λ op a b ha hb. same_cond (CCond-F.Cmp op a b) (λ r. placed_cond_layer r (CCond-F.Cmp op a b)) (omega (arith, ha, hb));
    not_cond = λ t ht. same_cond (CCond-F.«CCond::Not» t) (λ r. placed_cond_layer r (CCond-F.«CCond::Not» t)) (omega (arith, ht));
    both = λ t u ht hu. same_cond (CCond-F.And t u) (λ r. placed_cond_layer r (CCond-F.And t u)) (omega (arith, ht, hu));
    either = λ t u ht hu. same_cond (CCond-F.Or t u) (λ r. placed_cond_layer r (CCond-F.Or t u)) (omega (arith, ht, hu));
  }

  pub word_grows : (a : CExpr) → GrowsWord a
  word_grows a = every_word grow_cases a

  pub cond_grows : (t : CCond) → GrowsCond t
  cond_grows t = every_cond grow_cases t

-- with no word in place it is the same
placed_none_cases : WordCases (λ a. placed_word [] a ≡ a) (λ t. placed_cond [] t ≡ t)
placed_none_cases = record {
  num = λ n. placed_word_layer [] (CExpr-F.Num n);
  name = λ n. placed_word_layer [] (CExpr-F.Name n);
  not_word = λ a ha. placed_word_layer [] (CExpr-F.«CExpr::Not» a) ∙ ap (λ x. roll-CExpr (CExpr-F.«CExpr::Not» x)) ha;
  bin = λ op a b ha hb. placed_word_layer [] (CExpr-F.Bin op a b) ∙ ap2 (λ x y. roll-CExpr (CExpr-F.Bin op x y)) _ _ _ _ ha hb;
  fn1 = λ g a ha. placed_word_layer [] (CExpr-F.Fn1 g a) ∙ ap (λ x. roll-CExpr (CExpr-F.Fn1 g x)) ha;
  fn2 = λ g a b ha hb. placed_word_layer [] (CExpr-F.Fn2 g a b) ∙ ap2 (λ x y. roll-CExpr (CExpr-F.Fn2 g x y)) _ _ _ _ ha hb;
  fn3 = λ g a b x ha hb hx. placed_word_layer [] (CExpr-F.Fn3 g a b x) ∙ ap3 (λ u v w. roll-CExpr (CExpr-F.Fn3 g u v w)) _ _ _ _ _ _ ha hb hx;
  pick = λ t a b ht ha hb. placed_word_layer [] (CExpr-F.Pick t a b) ∙ ap3 (λ u v w. roll-CExpr (CExpr-F.Pick u v w)) _ _ _ _ _ _ ht ha hb;
  cmp = λ op a b ha hb. placed_cond_layer [] (CCond-F.Cmp op a b) ∙ ap2 (λ x y. roll-CCond (CCond-F.Cmp op x y)) _ _ _ _ ha hb;
  not_cond = λ t ht. placed_cond_layer [] (CCond-F.«CCond::Not» t) ∙ ap (λ x. roll-CCond (CCond-F.«CCond::Not» x)) ht;
  both = λ t u ht hu. placed_cond_layer [] (CCond-F.And t u) ∙ ap2 (λ x y. roll-CCond (CCond-F.And x y)) _ _ _ _ ht hu;
  either = λ t u ht hu. placed_cond_layer [] (CCond-F.Or t u) ∙ ap2 (λ x y. roll-CCond (CCond-F.Or x y)) _ _ _ _ ht hu;
}

pub placed_none : (a : CExpr) → placed_word [] a ≡ a
placed_none a = every_word placed_none_cases a

-- no Word is less than 1 deep
depth_by : (y : CExpr-F CCond CExpr) → 1 ≤ word_depth_at (e.map-CExpr CCond CExpr ℕ ℕ cond_depth word_depth y) → 1 ≤ word_depth (roll-CExpr y)
depth_by y h = subst (λ i. 1 ≤ i) (sym (word_depth_layer y)) h

depth_cases : WordCases (λ a. 1 ≤ word_depth a) (λ t. Unit {0})
depth_cases = record {
  num = λ n. depth_by (CExpr-F.Num n) (omega arith);
  name = λ n. depth_by (CExpr-F.Name n) (omega arith);
  not_word = λ a ha. depth_by (CExpr-F.«CExpr::Not» a) (omega arith);
  bin = λ op a b ha hb. depth_by (CExpr-F.Bin op a b) (omega arith);
  fn1 = λ g a ha. depth_by (CExpr-F.Fn1 g a) (omega arith);
  fn2 = λ g a b ha hb. depth_by (CExpr-F.Fn2 g a b) (omega arith);
  fn3 = λ g a b x ha hb hx. depth_by (CExpr-F.Fn3 g a b x) (omega arith);
  pick = λ t a b ht ha hb. depth_by (CExpr-F.Pick t a b) (omega arith);
  cmp = λ op a b ha hb. tt;
  not_cond = λ t ht. tt;
  both = λ t u ht hu. tt;
  either = λ t u ht hu. tt;
}

pub some_depth : (a : CExpr) → 1 ≤ word_depth a
some_depth a = every_word depth_cases a

-- what stands for a name is as deep as the name at least
deeper_name : (d : Delayed) (n : Name) (b : Bool) → word_depth (roll-CExpr (CExpr-F.Name n)) ≤ word_depth (cond b d.word (roll-CExpr (CExpr-F.Name n)))
deeper_name d n true = subst (λ i. i ≤ word_depth d.word) (sym (word_depth_layer (CExpr-F.Name n))) (some_depth d.word)
deeper_name d n false = omega arith

-- a word with another one in place is no less deep
pub placed_deeper : (d : Delayed) (a : CExpr) → word_depth a ≤ word_depth (placed_word (d ∷ []) a)
placed_deeper d a = subst (λ x. word_depth x ≤ word_depth (placed_word (d ∷ []) a)) (placed_none a) (word_grows [] (d ∷ []) (λ n. deeper_name d n (same_name d.name n)) a)

deeper_stands : (m n : Name) (x y : CExpr) (b : Bool) → word_depth x ≤ word_depth y → word_depth (cond b x (roll-CExpr (CExpr-F.Name n))) ≤ word_depth (cond b y (roll-CExpr (CExpr-F.Name n)))
deeper_stands m n x y true h = h
deeper_stands m n x y false h = omega arith

-- with a deeper word in place it is no less deep
pub deeper_in_place : (m : Name) (x y : CExpr) → word_depth x ≤ word_depth y → (n : Name) → word_depth (stands_for ((record { name = m; word = x }) ∷ []) n) ≤ word_depth (stands_for ((record { name = m; word = y }) ∷ []) n)
deeper_in_place m x y h n = deeper_stands m n x y (same_name m n) h
