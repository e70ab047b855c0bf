-- What is safe is never stuck.
use Rattle.std.proofs.Common.{◌≡◌, ℕ, ◌+◌, ◌-◌, ◌*◌, ◌/◌, ◌^◌, ◌<◌, ◌≤◌, nat_lt, Bool, true, false, not, if◌then◌else◌, ◌&&◌, ◌||◌, Option, Some, None, bit_and, bit_or, bit_xor, refl, ap, ◌∙◌, sym, subst, arith}
use Rattle.std.specs.Prelude.{IsTrue}
use Rattle.std.proofs.lemmas.Bool.{false≢true}
use Rattle.std.proofs.lemmas.Bool.Decides.{nat_tests}
use Rattle.std.proofs.lemmas.Nat.{and_le_l, and_le_r}
use Rattle.dream_words.specs.Words.{low_part}
use Rattle.run_parts.specs.World.{Names}
use Rattle.c_syntax.specs.declared.syntax.CBin.{CBin}
use Rattle.c_syntax.specs.declared.syntax.CBin.TheVariants as op
use Rattle.c_syntax.specs.declared.syntax.CExpr as e
use Rattle.c_syntax.specs.declared.syntax.CExpr.{CExpr, CExpr-F, roll-CExpr}
use Rattle.c_syntax.specs.declared.syntax.CCond as c
use Rattle.c_syntax.specs.declared.syntax.CCond.{CCond, CCond-F, roll-CCond}
use Rattle.c_syntax.specs.Value.{word_of, truth_of, each, both, all_three, picked}
use Rattle.c_syntax.specs.Words.{bin_of, cmp_of, fn1_of, fn2_of, fn3_of}
use Rattle.c_syntax.proofs.Induct.{WordCases, every_word, every_cond}
use Rattle.c_words.proofs.Layers.{word_layer, truth_layer}
use Rattle.lift_parts.specs.Safe.{Sure, sure_bin, sure_at, safe_at, sure_of, is_safe, is_safe_cond}

pub both_true : (a b : Bool) → IsTrue (a && b) → IsTrue a × IsTrue b
both_true true b t = (refl, t)
both_true false b t = absurd (false≢true t)

-- a Word that is safe has a value, and it is below 32 where that is sure
pub record Valued (s : Sure) (o : Option ℕ) : Type 0 where
  pub valued : IsTrue s.safe → (x : ℕ) × (o ≡ Some x) × (IsTrue s.small → x < 32)

-- a Cond that is safe has a truth
pub record Told (s : Bool) (o : Option Bool) : Type 0 where
  pub told : IsTrue s → (p : Bool) × (o ≡ Some p)

value_of_both : (f : ℕ → ℕ → Option ℕ) (p q : Option ℕ) (x y z : ℕ) → p ≡ Some x → q ≡ Some y → f x y ≡ Some z → both f p q ≡ Some z
value_of_both f p q x y z g h k = ap (λ o. both f o q) g ∙ ap (both f (Some x)) h ∙ k

-- two safe parts and an operator that always has a value
whole : (f : ℕ → ℕ → ℕ) (a b : Sure) (p q : Option ℕ) → Valued a p → Valued b q → Valued (record { safe = a.safe && b.safe; small = false }) (both (λ x y. Some (f x y)) p q)
whole f a b p q g h = record {
  valued = λ t.
      let (s, r) = both_true a.safe b.safe t in
      let (x, k, _) = g.valued s in
      let (y, l, _) = h.valued r in
      (f x y, value_of_both (λ x y. Some (f x y)) p q x y (f x y) k l refl, λ u. absurd (false≢true u));
}

either_true : (a b : Bool) (P : Type 0) → (IsTrue a → P) → (IsTrue b → P) → IsTrue (a || b) → P
either_true true b P f g t = f refl
either_true false b P f g t = g t

below : (x y z : ℕ) → z ≤ x → x < y → z < y
below x y z h k = omega arith

masked : (a b : Sure) (p q : Option ℕ) → Valued a p → Valued b q → Valued (sure_bin op.And a b) (both (bin_of op.And) p q)
masked a b p q g h = record {
  valued = λ t.
      let (s, r) = both_true a.safe b.safe t in
      let (x, k, i) = g.valued s in
      let (y, l, j) = h.valued r in (
        bit_and x y,
        value_of_both (bin_of op.And) p q x y (bit_and x y) k l refl,
        either_true a.small b.small (bit_and x y < 32) (λ u. below x 32 (bit_and x y) (and_le_l x y) (i u)) (λ u. below y 32 (bit_and x y) (and_le_r x y) (j u)),
      );
}

-- a shift by less than 32
shifted : (f : ℕ → ℕ → Option ℕ) (g : ℕ → ℕ → ℕ) → ((x y : ℕ) → y < 32 → f x y ≡ Some (g x y)) → (a b : Sure) (p q : Option ℕ) → Valued a p → Valued b q
    → Valued (record { safe = a.safe && (b.safe && b.small); small = false }) (both f p q)
shifted f g e a b p q h i = record {
  valued = λ t.
      let (s, r) = both_true a.safe (b.safe && b.small) t in
      let (u, v) = both_true b.safe b.small r in
      let (x, k, _) = h.valued s in
      let (y, l, j) = i.valued u in
      (g x y, value_of_both f p q x y (g x y) k l (e x y (j v)), λ w. absurd (false≢true w));
}

chosen_shift : (y x : ℕ) → y < 32 → (if nat_lt y 32 then Some x else None) ≡ Some x
chosen_shift y x h = ap (λ b. if b then Some x else None) (small y h)
  where
    small : (y : ℕ) → y < 32 → nat_lt y 32 ≡ true
    small y h = grind (arith, nat_tests)

bin_valued : (op : CBin) (a b : Sure) (p q : Option ℕ) → Valued a p → Valued b q → Valued (sure_bin op a b) (both (bin_of op) p q)
bin_valued op.Add a b p q g h = whole (λ x y. low_part 32 (x + y)) a b p q g h
bin_valued op.Sub a b p q g h = whole (λ x y. low_part 32 (x + 2 ^ 32 - y)) a b p q g h
bin_valued op.Mul a b p q g h = whole (λ x y. low_part 32 (x * y)) a b p q g h
bin_valued op.And a b p q g h = masked a b p q g h
bin_valued op.Or a b p q g h = whole bit_or a b p q g h
bin_valued op.Xor a b p q g h = whole bit_xor a b p q g h
bin_valued op.Shl a b p q g h = shifted (bin_of op.Shl) (λ x y. low_part 32 (x * 2 ^ y)) (λ x y l. chosen_shift y (low_part 32 (x * 2 ^ y)) l) a b p q g h
bin_valued op.Shr a b p q g h = shifted (bin_of op.Shr) (λ x y. x / 2 ^ y) (λ x y l. chosen_shift y (x / 2 ^ y) l) a b p q g h

-- one safe part
single : (f : ℕ → ℕ) (a : Sure) (p : Option ℕ) → Valued a p → Valued (record { safe = a.safe; small = false }) (each f p)
single f a p g = record {
  valued = λ t. let (x, k, _) = g.valued t in (f x, ap (each f) k, λ u. absurd (false≢true u));
}

three : (f : ℕ → ℕ → ℕ → ℕ) (a b d : Sure) (p q r : Option ℕ) → Valued a p → Valued b q → Valued d r
    → Valued (record { safe = a.safe && (b.safe && d.safe); small = false }) (all_three f p q r)
three f a b d p q r g h i = record {
  valued = λ t.
      let (s, u) = both_true a.safe (b.safe && d.safe) t in
      let (v, w) = both_true b.safe d.safe u in
      let (x, k, _) = g.valued s in
      let (y, l, _) = h.valued v in
      let (z, m, _) = i.valued w in
      (f x y z, ap (λ o. all_three f o q r) k ∙ ap (λ o. all_three f (Some x) o r) l ∙ ap (all_three f (Some x) (Some y)) m, λ u. absurd (false≢true u));
}

one_of : (b : Bool) (p q : Option ℕ) (x y : ℕ) → p ≡ Some x → q ≡ Some y → (z : ℕ) × (picked (Some b) p q ≡ Some z)
one_of true p q x y g h = (x, g)
one_of false p q x y g h = (y, h)

pick_valued : (t : Bool) (a b : Sure) (o : Option Bool) (p q : Option ℕ) → Told t o → Valued a p → Valued b q → Valued (record { safe = t && (a.safe && b.safe); small = false }) (picked o p q)
pick_valued t a b o p q i g h = record {
  valued = λ all.
      let (s, u) = both_true t (a.safe && b.safe) all in
      let (v, w) = both_true a.safe b.safe u in
      let (c, j) = i.told s in
      let (x, k, _) = g.valued v in
      let (y, l, _) = h.valued w in
      let (z, m) = one_of c p q x y k l in
      (z, ap (λ o. picked o p q) j ∙ m, λ u. absurd (false≢true u));
}

cmp_told : (f : ℕ → ℕ → Bool) (a b : Sure) (p q : Option ℕ) → Valued a p → Valued b q → Told (a.safe && b.safe) (both (λ x y. Some (f x y)) p q)
cmp_told f a b p q g h = record {
  told = λ t.
      let (s, r) = both_true a.safe b.safe t in
      let (x, k, _) = g.valued s in
      let (y, l, _) = h.valued r in
      (f x y, ap (λ o. both (λ x y. Some (f x y)) o q) k ∙ ap (both (λ x y. Some (f x y)) (Some x)) l);
}

not_told : (t : Bool) (o : Option Bool) → Told t o → Told t (each not o)
not_told t o h = record { told = λ s. let (p, k) = h.told s in (not p, ap (each not) k) }

one_truth : (c : Bool) (p q : Option Bool) (x y : Bool) → p ≡ Some x → q ≡ Some y → (z : Bool) × (picked (Some c) p q ≡ Some z)
one_truth true p q x y g h = (x, g)
one_truth false p q x y g h = (y, h)

two_told : (t u : Bool) (o p : Option Bool) → Told t o → Told u p → Told (t && u) (picked o p (Some false)) × Told (t && u) (picked o (Some true) p)
two_told t u o p g h = (
  record {
    told = λ s.
        let (a, b) = both_true t u s in
        let (c, k) = g.told a in
        let (d, l) = h.told b in
        let (z, m) = one_truth c p (Some false) d false l refl in
        (z, ap (λ o. picked o p (Some false)) k ∙ m);
  },
  record {
    told = λ s.
        let (a, b) = both_true t u s in
        let (c, k) = g.told a in
        let (d, l) = h.told b in
        let (z, m) = one_truth c (Some true) p true d refl l in
        (z, ap (λ o. picked o (Some true) p) k ∙ m);
  },
)

-- what is sure of a Word and a Cond at a layer
pub sure_layer : (y : CExpr-F CCond CExpr) → sure_of (roll-CExpr y) ≡ sure_at (e.map-CExpr CCond CExpr Bool Sure is_safe_cond sure_of y)
sure_layer y = e.fold-roll-CExpr Bool Sure safe_at sure_at y

pub safe_layer : (y : CCond-F CCond CExpr) → is_safe_cond (roll-CCond y) ≡ safe_at (c.map-CCond CCond CExpr Bool Sure is_safe_cond sure_of y)
safe_layer y = c.fold-roll-CCond Bool Sure safe_at sure_at y

at_word : (v : Names) (y : CExpr-F CCond CExpr) (s : Sure) (o : Option ℕ) → sure_of (roll-CExpr y) ≡ s → word_of (roll-CExpr y) v ≡ o → Valued s o → Valued (sure_of (roll-CExpr y)) (word_of (roll-CExpr y) v)
at_word v y s o g h k = subst (λ s. Valued s (word_of (roll-CExpr y) v)) (sym g) (subst (Valued s) (sym h) k)

at_cond : (v : Names) (y : CCond-F CCond CExpr) (s : Bool) (o : Option Bool) → is_safe_cond (roll-CCond y) ≡ s → truth_of (roll-CCond y) v ≡ o → Told s o → Told (is_safe_cond (roll-CCond y)) (truth_of (roll-CCond y) v)
at_cond v y s o g h k = subst (λ s. Told s (truth_of (roll-CCond y) v)) (sym g) (subst (Told s) (sym h) k)

num_valued : (n : ℕ) → Valued (record { safe = true; small = nat_lt n 32 }) (Some n)
num_valued n = record { valued = λ t. (n, refl, small (nat_lt n 32) refl) }
  where
    small : (b : Bool) → nat_lt n 32 ≡ b → IsTrue b → n < 32
    small true h t = grind (arith, nat_tests)
    small false h t = absurd (false≢true t)

module _ (v : Names) where
  every : WordCases (λ a. Valued (sure_of a) (word_of a v)) (λ t. Told (is_safe_cond t) (truth_of t v))
  every = record {
    num = λ n. at_word v _ _ _ (sure_layer (CExpr-F.Num n)) (word_layer (CExpr-F.Num n) v) (num_valued n);
    name = λ n. at_word v _ _ _ (sure_layer (CExpr-F.Name n)) (word_layer (CExpr-F.Name n) v) (record { valued = λ t. (v n, refl, λ u. absurd (false≢true u)) });
    not_word = λ a g. at_word v _ _ _ (sure_layer (CExpr-F.«CExpr::Not» a)) (word_layer (CExpr-F.«CExpr::Not» a) v) (single (λ x. 2 ^ 32 - 1 - x) (sure_of a) (word_of a v) g);
    bin = λ op a b g h. at_word v _ _ _ (sure_layer (CExpr-F.Bin op a b)) (word_layer (CExpr-F.Bin op a b) v) (bin_valued op (sure_of a) (sure_of b) (word_of a v) (word_of b v) g h);
    fn1 = λ f a g. at_word v _ _ _ (sure_layer (CExpr-F.Fn1 f a)) (word_layer (CExpr-F.Fn1 f a) v) (single (fn1_of f) (sure_of a) (word_of a v) g);
    fn2 = λ f a b g h. at_word v _ _ _ (sure_layer (CExpr-F.Fn2 f a b)) (word_layer (CExpr-F.Fn2 f a b) v) (whole (fn2_of f) (sure_of a) (sure_of b) (word_of a v) (word_of b v) g h);
    fn3 = λ f a b d g h i. at_word v _ _ _ (sure_layer (CExpr-F.Fn3 f a b d)) (word_layer (CExpr-F.Fn3 f a b d) v) (three (fn3_of f) (sure_of a) (sure_of b) (sure_of d) (word_of a v) (word_of b v) (word_of d v) g h i);
    pick = λ t a b i g h. at_word v _ _ _ (sure_layer (CExpr-F.Pick t a b)) (word_layer (CExpr-F.Pick t a b) v) (pick_valued (is_safe_cond t) (sure_of a) (sure_of b) (truth_of t v) (word_of a v) (word_of b v) i g h);
    cmp = λ op a b g h. at_cond v _ _ _ (safe_layer (CCond-F.Cmp op a b)) (truth_layer (CCond-F.Cmp op a b) v) (cmp_told (cmp_of op) (sure_of a) (sure_of b) (word_of a v) (word_of b v) g h);
    not_cond = λ t g. at_cond v _ _ _ (safe_layer (CCond-F.«CCond::Not» t)) (truth_layer (CCond-F.«CCond::Not» t) v) (not_told (is_safe_cond t) (truth_of t v) g);
    both = λ t u g h. at_cond v _ _ _ (safe_layer (CCond-F.And t u)) (truth_layer (CCond-F.And t u) v) (two_told (is_safe_cond t) (is_safe_cond u) (truth_of t v) (truth_of u v) g h).0;
    either = λ t u g h. at_cond v _ _ _ (safe_layer (CCond-F.Or t u)) (truth_layer (CCond-F.Or t u) v) (two_told (is_safe_cond t) (is_safe_cond u) (truth_of t v) (truth_of u v) g h).1;
  }

-- a safe Word has a value, and a safe Cond a truth, whatever the names stand for
pub safe_value : (a : CExpr) (v : Names) → IsTrue (is_safe a) → (x : ℕ) × (word_of a v ≡ Some x)
safe_value a v t = let (x, e, _) = (every_word (every v) a).valued t in (x, e)

pub safe_truth : (t : CCond) (v : Names) → IsTrue (is_safe_cond t) → (p : Bool) × (truth_of t v ≡ Some p)
safe_truth t v s = (every_cond (every v) t).told s
