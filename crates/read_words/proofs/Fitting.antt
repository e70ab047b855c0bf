-- The parts of a Word or Cond that fits fit one level deeper, and parts that do make a whole that fits.
use Rattle.std.proofs.Common.{◌≡◌, ℕ, ◌+◌, ◌-◌, ◌^◌, ◌<◌, ◌≤◌, max, Bool, true, false, ◌&&◌, refl, sym, ◌∙◌, subst, arith}
use borrow.Author.Tests.{lt-ltb}
use Rattle.c_syntax.specs.declared.syntax.CExpr as e
use Rattle.c_syntax.specs.declared.syntax.CExpr.{CExpr, CExpr-F, roll-CExpr}
use Rattle.c_syntax.specs.declared.syntax.CCond as c
use Rattle.c_syntax.specs.declared.syntax.CCond.{CCond, CCond-F, roll-CCond}
use Rattle.c_syntax.specs.declared.syntax.CBin.{CBin}
use Rattle.c_syntax.specs.declared.syntax.CCmp.{CCmp}
use Rattle.c_syntax.specs.declared.syntax.CFn1.{CFn1}
use Rattle.c_syntax.specs.declared.syntax.CFn2.{CFn2}
use Rattle.c_syntax.specs.declared.syntax.CFn3.{CFn3}
use Rattle.dream_words.specs.declared.machine.Name.{Name}
use Rattle.c_syntax.specs.Formed.{is_declared, word_names, cond_names, names_word, names_cond}
use Rattle.c_syntax.specs.Depth.{word_depth_at, cond_depth_at, word_depth, cond_depth}
use Rattle.c_syntax.proofs.Layers.{word_depth_layer, cond_depth_layer, names_word_layer, names_cond_layer}
use Rattle.c_syntax.proofs.Induct.{WordCases, every_word, every_cond}
use Rattle.read_words.specs.declared.open.Locals.{Locals}
use Rattle.read_words.specs.Turns.{scope}
use Rattle.read_words.specs.Rests.{FitsWord, FitsCond}

-- both of two tests
pub both_true : (a b : Bool) → (a && b) ≡ true → (a ≡ true) × (b ≡ true)
both_true true b h = (refl, h)
both_true false b h = absurd (cc)

pub two_true : (a b : Bool) → a ≡ true → b ≡ true → (a && b) ≡ true
two_true true b h k = k
two_true false b h k = absurd (cc)

-- a Word is at least 1 deep, and a Cond 2
word_deep : (y : CExpr-F CCond CExpr) → 1 ≤ word_depth_at (e.map-CExpr CCond CExpr ℕ ℕ cond_depth word_depth y) → 1 ≤ word_depth (roll-CExpr y)
word_deep y h = subst (λ n. 1 ≤ n) (sym (word_depth_layer y)) h

cond_deep : (y : CCond-F CCond CExpr) → 2 ≤ cond_depth_at (c.map-CCond CCond CExpr ℕ ℕ cond_depth word_depth y) → 2 ≤ cond_depth (roll-CCond y)
cond_deep y h = subst (λ n. 2 ≤ n) (sym (cond_depth_layer y)) h

least : WordCases (λ a. 1 ≤ word_depth a) (λ u. 2 ≤ cond_depth u)
least = record {
  num = λ n. word_deep (CExpr-F.Num n) (omega arith);
  name = λ n. word_deep (CExpr-F.Name n) (omega arith);
  not_word = λ a ha. word_deep (CExpr-F.«CExpr::Not» a) (omega arith);
  bin = λ op a b ha hb. word_deep (CExpr-F.Bin op a b) (omega arith);
  fn1 = λ g a ha. word_deep (CExpr-F.Fn1 g a) (omega arith);
  fn2 = λ g a b ha hb. word_deep (CExpr-F.Fn2 g a b) (omega arith);
  fn3 = λ g a b d ha hb hd. word_deep (CExpr-F.Fn3 g a b d) (omega arith);
  pick = λ u a b hu ha hb. word_deep (CExpr-F.Pick u a b) (omega arith);
  cmp = λ op a b ha hb. cond_deep (CCond-F.Cmp op a b) (omega arith);
  not_cond = λ u hu. cond_deep (CCond-F.«CCond::Not» u) (omega arith);
  both = λ u v hu hv. cond_deep (CCond-F.And u v) (omega arith);
  either = λ u v hu hv. cond_deep (CCond-F.Or u v) (omega arith);
}

pub word_least : (a : CExpr) → 1 ≤ word_depth a
word_least a = every_word least a

pub cond_least : (u : CCond) → 2 ≤ cond_depth u
cond_least u = every_cond least u

module _ (l : Locals) (d : ℕ) where
  word_names_are : (y : CExpr-F CCond CExpr) → FitsWord l d (roll-CExpr y) → word_names (scope l) (e.map-CExpr CCond CExpr Bool Bool (names_cond (scope l)) (names_word (scope l)) y) ≡ true
  word_names_are y h = sym (names_word_layer (scope l) y) ∙ h.names

  word_depth_is : (y : CExpr-F CCond CExpr) → FitsWord l d (roll-CExpr y) → word_depth_at (e.map-CExpr CCond CExpr ℕ ℕ cond_depth word_depth y) ≤ d
  word_depth_is y h = subst (λ n. n ≤ d) (word_depth_layer y) h.deep

  cond_names_are : (y : CCond-F CCond CExpr) → FitsCond l d (roll-CCond y) → cond_names (c.map-CCond CCond CExpr Bool Bool (names_cond (scope l)) (names_word (scope l)) y) ≡ true
  cond_names_are y h = sym (names_cond_layer (scope l) y) ∙ h.names

  cond_depth_is : (y : CCond-F CCond CExpr) → FitsCond l d (roll-CCond y) → cond_depth_at (c.map-CCond CCond CExpr ℕ ℕ cond_depth word_depth y) ≤ d
  cond_depth_is y h = subst (λ n. n ≤ d) (cond_depth_layer y) h.deep

  whole_word : (y : CExpr-F CCond CExpr) → word_names (scope l) (e.map-CExpr CCond CExpr Bool Bool (names_cond (scope l)) (names_word (scope l)) y) ≡ true
      → word_depth_at (e.map-CExpr CCond CExpr ℕ ℕ cond_depth word_depth y) ≤ d → FitsWord l d (roll-CExpr y)
  whole_word y n p = record { names = names_word_layer (scope l) y ∙ n; deep = subst (λ n. n ≤ d) (sym (word_depth_layer y)) p }

  whole_cond : (y : CCond-F CCond CExpr) → cond_names (c.map-CCond CCond CExpr Bool Bool (names_cond (scope l)) (names_word (scope l)) y) ≡ true
      → cond_depth_at (c.map-CCond CCond CExpr ℕ ℕ cond_depth word_depth y) ≤ d → FitsCond l d (roll-CCond y)
  whole_cond y n p = record { names = names_cond_layer (scope l) y ∙ n; deep = subst (λ n. n ≤ d) (sym (cond_depth_layer y)) p }

  pub num_fits : (n : ℕ) → n < 2 ^ 32 → 1 ≤ d → FitsWord l d (roll-CExpr (CExpr-F.Num n))
  num_fits n h p = whole_word (CExpr-F.Num n) (lt-ltb n (2 ^ 32) h) p

  pub name_fits : (n : Name) → is_declared (scope l) n ≡ true → 1 ≤ d → FitsWord l d (roll-CExpr (CExpr-F.Name n))
  name_fits n h p = whole_word (CExpr-F.Name n) h p

  pub name_declared : (n : Name) → FitsWord l d (roll-CExpr (CExpr-F.Name n)) → is_declared (scope l) n ≡ true
  name_declared n h = word_names_are (CExpr-F.Name n) h

  pub not_word_parts : (a : CExpr) → FitsWord l d (roll-CExpr (CExpr-F.«CExpr::Not» a)) → (2 ≤ d) × FitsWord l (d - 1) a
  not_word_parts a h =
      let p : word_depth a + 1 ≤ d = word_depth_is (CExpr-F.«CExpr::Not» a) h in
      (omega (arith, word_least a), record { names = word_names_are (CExpr-F.«CExpr::Not» a) h; deep = omega arith })

  pub not_word_fits : (a : CExpr) → FitsWord l (d - 1) a → FitsWord l d (roll-CExpr (CExpr-F.«CExpr::Not» a))
  not_word_fits a ha =
      let pa : word_depth a ≤ d - 1 = ha.deep in
      let p : word_depth a + 1 ≤ d = omega (arith, word_least a) in
      whole_word (CExpr-F.«CExpr::Not» a) (ha.names) p

  pub bin_parts : (op : CBin) (a : CExpr) (b : CExpr) → FitsWord l d (roll-CExpr (CExpr-F.Bin op a b)) → (2 ≤ d) × FitsWord l (d - 1) a × FitsWord l (d - 1) b
  bin_parts op a b h =
      let p : max (word_depth a) (word_depth b) + 1 ≤ d = word_depth_is (CExpr-F.Bin op a b) h in
      let n = both_true (names_word (scope l) a) (names_word (scope l) b) (word_names_are (CExpr-F.Bin op a b) h) in
      (omega (arith, word_least a, word_least b), record { names = n.0; deep = omega arith }, record { names = n.1; deep = omega arith })

  pub bin_fits : (op : CBin) (a : CExpr) (b : CExpr) → FitsWord l (d - 1) a → FitsWord l (d - 1) b → FitsWord l d (roll-CExpr (CExpr-F.Bin op a b))
  bin_fits op a b ha hb =
      let pa : word_depth a ≤ d - 1 = ha.deep in
      let pb : word_depth b ≤ d - 1 = hb.deep in
      let p : max (word_depth a) (word_depth b) + 1 ≤ d = omega (arith, word_least a, word_least b) in
      whole_word (CExpr-F.Bin op a b) (two_true (names_word (scope l) a) (names_word (scope l) b) ha.names hb.names) p

  pub fn1_parts : (f : CFn1) (a : CExpr) → FitsWord l d (roll-CExpr (CExpr-F.Fn1 f a)) → (2 ≤ d) × FitsWord l (d - 1) a
  fn1_parts f a h =
      let p : word_depth a + 1 ≤ d = word_depth_is (CExpr-F.Fn1 f a) h in
      (omega (arith, word_least a), record { names = word_names_are (CExpr-F.Fn1 f a) h; deep = omega arith })

  pub fn1_fits : (f : CFn1) (a : CExpr) → FitsWord l (d - 1) a → FitsWord l d (roll-CExpr (CExpr-F.Fn1 f a))
  fn1_fits f a ha =
      let pa : word_depth a ≤ d - 1 = ha.deep in
      let p : word_depth a + 1 ≤ d = omega (arith, word_least a) in
      whole_word (CExpr-F.Fn1 f a) (ha.names) p

  pub fn2_parts : (f : CFn2) (a : CExpr) (b : CExpr) → FitsWord l d (roll-CExpr (CExpr-F.Fn2 f a b)) → (2 ≤ d) × FitsWord l (d - 1) a × FitsWord l (d - 1) b
  fn2_parts f a b h =
      let p : max (word_depth a) (word_depth b) + 1 ≤ d = word_depth_is (CExpr-F.Fn2 f a b) h in
      let n = both_true (names_word (scope l) a) (names_word (scope l) b) (word_names_are (CExpr-F.Fn2 f a b) h) in
      (omega (arith, word_least a, word_least b), record { names = n.0; deep = omega arith }, record { names = n.1; deep = omega arith })

  pub fn2_fits : (f : CFn2) (a : CExpr) (b : CExpr) → FitsWord l (d - 1) a → FitsWord l (d - 1) b → FitsWord l d (roll-CExpr (CExpr-F.Fn2 f a b))
  fn2_fits f a b ha hb =
      let pa : word_depth a ≤ d - 1 = ha.deep in
      let pb : word_depth b ≤ d - 1 = hb.deep in
      let p : max (word_depth a) (word_depth b) + 1 ≤ d = omega (arith, word_least a, word_least b) in
      whole_word (CExpr-F.Fn2 f a b) (two_true (names_word (scope l) a) (names_word (scope l) b) ha.names hb.names) p

  pub fn3_parts : (f : CFn3) (a : CExpr) (b : CExpr) (q : CExpr) → FitsWord l d (roll-CExpr (CExpr-F.Fn3 f a b q)) → (2 ≤ d) × FitsWord l (d - 1) a × FitsWord l (d - 1) b × FitsWord l (d - 1) q
  fn3_parts f a b q h =
      let p : max (word_depth a) (max (word_depth b) (word_depth q)) + 1 ≤ d = word_depth_is (CExpr-F.Fn3 f a b q) h in
      let n = both_true (names_word (scope l) a) (names_word (scope l) b && names_word (scope l) q) (word_names_are (CExpr-F.Fn3 f a b q) h) in
      let m = both_true (names_word (scope l) b) (names_word (scope l) q) n.1 in
      (omega (arith, word_least a, word_least b, word_least q), record { names = n.0; deep = omega arith }, record { names = m.0; deep = omega arith }, record { names = m.1; deep = omega arith })

  pub fn3_fits : (f : CFn3) (a : CExpr) (b : CExpr) (q : CExpr) → FitsWord l (d - 1) a → FitsWord l (d - 1) b → FitsWord l (d - 1) q → FitsWord l d (roll-CExpr (CExpr-F.Fn3 f a b q))
  fn3_fits f a b q ha hb hq =
      let pa : word_depth a ≤ d - 1 = ha.deep in
      let pb : word_depth b ≤ d - 1 = hb.deep in
      let pq : word_depth q ≤ d - 1 = hq.deep in
      let p : max (word_depth a) (max (word_depth b) (word_depth q)) + 1 ≤ d = omega (arith, word_least a, word_least b, word_least q) in
      whole_word (CExpr-F.Fn3 f a b q) (two_true (names_word (scope l) a) (names_word (scope l) b && names_word (scope l) q) ha.names (two_true (names_word (scope l) b) (names_word (scope l) q) hb.names hq.names)) p

  pub pick_parts : (u : CCond) (a : CExpr) (b : CExpr) → FitsWord l d (roll-CExpr (CExpr-F.Pick u a b)) → (2 ≤ d) × FitsCond l (d - 1) u × FitsWord l (d - 1) a × FitsWord l (d - 1) b
  pick_parts u a b h =
      let p : max (cond_depth u) (max (word_depth a) (word_depth b)) + 1 ≤ d = word_depth_is (CExpr-F.Pick u a b) h in
      let n = both_true (names_cond (scope l) u) (names_word (scope l) a && names_word (scope l) b) (word_names_are (CExpr-F.Pick u a b) h) in
      let m = both_true (names_word (scope l) a) (names_word (scope l) b) n.1 in
      (omega (arith, cond_least u, word_least a, word_least b), record { names = n.0; deep = omega arith }, record { names = m.0; deep = omega arith }, record { names = m.1; deep = omega arith })

  pub pick_fits : (u : CCond) (a : CExpr) (b : CExpr) → FitsCond l (d - 1) u → FitsWord l (d - 1) a → FitsWord l (d - 1) b → FitsWord l d (roll-CExpr (CExpr-F.Pick u a b))
  pick_fits u a b hu ha hb =
      let pu : cond_depth u ≤ d - 1 = hu.deep in
      let pa : word_depth a ≤ d - 1 = ha.deep in
      let pb : word_depth b ≤ d - 1 = hb.deep in
      let p : max (cond_depth u) (max (word_depth a) (word_depth b)) + 1 ≤ d = omega (arith, cond_least u, word_least a, word_least b) in
      whole_word (CExpr-F.Pick u a b) (two_true (names_cond (scope l) u) (names_word (scope l) a && names_word (scope l) b) hu.names (two_true (names_word (scope l) a) (names_word (scope l) b) ha.names hb.names)) p

  pub cmp_parts : (op : CCmp) (a : CExpr) (b : CExpr) → FitsCond l d (roll-CCond (CCond-F.Cmp op a b)) → (2 ≤ d) × FitsWord l (d - 1) a × FitsWord l (d - 1) b
  cmp_parts op a b h =
      let p : max (word_depth a) (word_depth b) + 1 ≤ d = cond_depth_is (CCond-F.Cmp op a b) h in
      let n = both_true (names_word (scope l) a) (names_word (scope l) b) (cond_names_are (CCond-F.Cmp op a b) h) in
      (omega (arith, word_least a, word_least b), record { names = n.0; deep = omega arith }, record { names = n.1; deep = omega arith })

  pub cmp_fits : (op : CCmp) (a : CExpr) (b : CExpr) → FitsWord l (d - 1) a → FitsWord l (d - 1) b → FitsCond l d (roll-CCond (CCond-F.Cmp op a b))
  cmp_fits op a b ha hb =
      let pa : word_depth a ≤ d - 1 = ha.deep in
      let pb : word_depth b ≤ d - 1 = hb.deep in
      let p : max (word_depth a) (word_depth b) + 1 ≤ d = omega (arith, word_least a, word_least b) in
      whole_cond (CCond-F.Cmp op a b) (two_true (names_word (scope l) a) (names_word (scope l) b) ha.names hb.names) p

  pub not_cond_parts : (u : CCond) → FitsCond l d (roll-CCond (CCond-F.«CCond::Not» u)) → (3 ≤ d) × FitsCond l (d - 1) u
  not_cond_parts u h =
      let p : cond_depth u + 1 ≤ d = cond_depth_is (CCond-F.«CCond::Not» u) h in
      (omega (arith, cond_least u), record { names = cond_names_are (CCond-F.«CCond::Not» u) h; deep = omega arith })

  pub not_cond_fits : (u : CCond) → FitsCond l (d - 1) u → FitsCond l d (roll-CCond (CCond-F.«CCond::Not» u))
  not_cond_fits u hu =
      let pu : cond_depth u ≤ d - 1 = hu.deep in
      let p : cond_depth u + 1 ≤ d = omega (arith, cond_least u) in
      whole_cond (CCond-F.«CCond::Not» u) (hu.names) p

  pub and_parts : (u : CCond) (v : CCond) → FitsCond l d (roll-CCond (CCond-F.And u v)) → (2 ≤ d) × FitsCond l (d - 1) u × FitsCond l (d - 1) v
  and_parts u v h =
      let p : max (cond_depth u) (cond_depth v) + 1 ≤ d = cond_depth_is (CCond-F.And u v) h in
      let n = both_true (names_cond (scope l) u) (names_cond (scope l) v) (cond_names_are (CCond-F.And u v) h) in
      (omega (arith, cond_least u, cond_least v), record { names = n.0; deep = omega arith }, record { names = n.1; deep = omega arith })

  pub and_fits : (u : CCond) (v : CCond) → FitsCond l (d - 1) u → FitsCond l (d - 1) v → FitsCond l d (roll-CCond (CCond-F.And u v))
  and_fits u v hu hv =
      let pu : cond_depth u ≤ d - 1 = hu.deep in
      let pv : cond_depth v ≤ d - 1 = hv.deep in
      let p : max (cond_depth u) (cond_depth v) + 1 ≤ d = omega (arith, cond_least u, cond_least v) in
      whole_cond (CCond-F.And u v) (two_true (names_cond (scope l) u) (names_cond (scope l) v) hu.names hv.names) p

  pub or_parts : (u : CCond) (v : CCond) → FitsCond l d (roll-CCond (CCond-F.Or u v)) → (2 ≤ d) × FitsCond l (d - 1) u × FitsCond l (d - 1) v
  or_parts u v h =
      let p : max (cond_depth u) (cond_depth v) + 1 ≤ d = cond_depth_is (CCond-F.Or u v) h in
      let n = both_true (names_cond (scope l) u) (names_cond (scope l) v) (cond_names_are (CCond-F.Or u v) h) in
      (omega (arith, cond_least u, cond_least v), record { names = n.0; deep = omega arith }, record { names = n.1; deep = omega arith })

  pub or_fits : (u : CCond) (v : CCond) → FitsCond l (d - 1) u → FitsCond l (d - 1) v → FitsCond l d (roll-CCond (CCond-F.Or u v))
  or_fits u v hu hv =
      let pu : cond_depth u ≤ d - 1 = hu.deep in
      let pv : cond_depth v ≤ d - 1 = hv.deep in
      let p : max (cond_depth u) (cond_depth v) + 1 ≤ d = omega (arith, cond_least u, cond_least v) in
      whole_cond (CCond-F.Or u v) (two_true (names_cond (scope l) u) (names_cond (scope l) v) hu.names hv.names) p
