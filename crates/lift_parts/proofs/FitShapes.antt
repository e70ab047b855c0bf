-- Words and Conds of every shape keep the rule of flows and are safe, where their parts do; and blocks of them.
use Rattle.std.proofs.Common.{◌≡◌, ℕ, ◌+◌, ◌<◌, ◌≤◌, max, nat_le, Bool, true, false, ◌&&◌, ◌||◌, refl, sym, subst, lit<, arith}
use Rattle.std.specs.Prelude.{IsTrue}
use Rattle.std.proofs.lemmas.Bool.Decides.{nat_tests}
use Rattle.run_parts.specs.World.{World}
use Rattle.c_syntax.specs.declared.syntax.CBin.TheVariants as op
use Rattle.c_syntax.specs.declared.syntax.CCmp.{CCmp}
use Rattle.c_syntax.specs.declared.syntax.CFn1.{CFn1}
use Rattle.c_syntax.specs.declared.syntax.CFn2.{CFn2}
use Rattle.c_syntax.specs.declared.syntax.CFn3.{CFn3}
use Rattle.c_syntax.specs.declared.syntax.CExpr.{CExpr, CExpr-F}
use Rattle.c_syntax.specs.declared.syntax.CCond as c
use Rattle.c_syntax.specs.declared.syntax.CCond.{CCond, CCond-F, roll-CCond}
use Rattle.c_syntax.specs.Depth.{word_depth, cond_depth}
use Rattle.c_syntax.specs.Formed.{cond_names}
use Rattle.c_words.specs.Built.{num, word_not, bin, fn1, fn2, fn3, pick, cmp, cond_not, and, or, word_if}
use Rattle.c_words.proofs.Layers.{word_depth_layer, cond_depth_layer}
use Rattle.micro_ir.specs.declared.flow.Block.{Block}
use Rattle.micro_ir.specs.Rule.{word_names, has_flow_names, cond_has_flow_names, is_flow_cond, are_flow_stmts, is_flow_end}
use Rattle.micro_ir.specs.Run.{block_leads}
use Rattle.micro_ir.specs.World.{IsWorld}
use Rattle.lift_parts.specs.Lifted.{Stays}
use Rattle.lift_parts.specs.Safe.{Sure, sure_of, safe_at, is_safe, is_safe_cond, are_safe_stmts, is_safe_end, leads_below}
use Rattle.lift_parts.proofs.Sureness.{sure_layer, safe_layer}
use Rattle.lift_parts.proofs.Steady.{safe_stays}
use Rattle.lift_parts.proofs.Fit.{IsFit, AreFit, names_layer, safe_by, both_hold, below_test, under, bin_deep, bin_names, num_fit, masked_fit}

-- a Cond at most so deep, with numbers and names of a flow, in which no shift can be stuck
pub record IsFitCond (depth : ℕ) (t : CCond) : Type 0 where
  pub deep : cond_depth t ≤ depth
  pub names : IsTrue (cond_has_flow_names t)
  pub safe : IsTrue (is_safe_cond t)

cond_names_layer : (y : CCond-F CCond CExpr) → cond_has_flow_names (roll-CCond y) ≡ cond_names (c.map-CCond CCond CExpr Bool Bool cond_has_flow_names has_flow_names y)
cond_names_layer y = c.fold-roll-CCond Bool Bool cond_names word_names y

cond_safe_by : (y : CCond-F CCond CExpr) → IsTrue (safe_at (c.map-CCond CCond CExpr Bool Sure is_safe_cond sure_of y)) → IsTrue (is_safe_cond (roll-CCond y))
cond_safe_by y t = subst IsTrue (sym (safe_layer y)) t

-- where it is at most 64 deep, it is a Cond of a flow
pub fit_cond : (depth : ℕ) (t : CCond) → depth ≤ 64 → IsFitCond depth t → IsTrue (is_flow_cond t)
fit_cond depth t h k =
    let d : cond_depth t ≤ depth = k.deep in
    let e : nat_le (cond_depth t) 64 ≡ true = grind (arith, nat_tests) in
    both_hold (cond_has_flow_names t) (nat_le (cond_depth t) 64) k.names e

pub cond_deeper : (d k : ℕ) (t : CCond) → d ≤ k → IsFitCond d t → IsFitCond k t
cond_deeper d k t h p = let q : cond_depth t ≤ d = p.deep in record { deep = omega arith; names = p.names; safe = p.safe }

one_under : (a d : ℕ) → a ≤ d → a + 1 ≤ d + 1
one_under a d h = omega arith

three_under : (a b x d : ℕ) → a ≤ d → b ≤ d → x ≤ d → max a (max b x) + 1 ≤ d + 1
three_under a b x d h k l = omega arith

-- ---- words

pub not_fit : (d : ℕ) (a : CExpr) → IsFit d a → IsFit (d + 1) (word_not a)
not_fit d a h = record { deep = simp word_depth_layer (one_under (word_depth a) d h.deep); names = simp names_layer h.names; safe = safe_by (CExpr-F.«CExpr::Not» a) h.safe }

pub fn1_fit : (d : ℕ) (f : CFn1) (a : CExpr) → IsFit d a → IsFit (d + 1) (fn1 f a)
fn1_fit d f a h = record { deep = simp word_depth_layer (one_under (word_depth a) d h.deep); names = simp names_layer h.names; safe = safe_by (CExpr-F.Fn1 f a) h.safe }

pub fn2_fit : (d : ℕ) (f : CFn2) (a b : CExpr) → IsFit d a → IsFit d b → IsFit (d + 1) (fn2 f a b)
fn2_fit d f a b h k = record {
  deep = simp word_depth_layer (under (word_depth a) (word_depth b) d h.deep k.deep);
  names = simp names_layer (both_hold (has_flow_names a) (has_flow_names b) h.names k.names);
  safe = safe_by (CExpr-F.Fn2 f a b) (both_hold (is_safe a) (is_safe b) h.safe k.safe);
}

pub fn3_fit : (d : ℕ) (f : CFn3) (a b x : CExpr) → IsFit d a → IsFit d b → IsFit d x → IsFit (d + 1) (fn3 f a b x)
fn3_fit d f a b x h k l = record {
  deep = simp word_depth_layer (three_under (word_depth a) (word_depth b) (word_depth x) d h.deep k.deep l.deep);
  names = simp names_layer (both_hold (has_flow_names a) (has_flow_names b && has_flow_names x) h.names (both_hold (has_flow_names b) (has_flow_names x) k.names l.names));
  safe = safe_by (CExpr-F.Fn3 f a b x) (both_hold (is_safe a) (is_safe b && is_safe x) h.safe (both_hold (is_safe b) (is_safe x) k.safe l.safe));
}

pub pick_fit : (d : ℕ) (t : CCond) (a b : CExpr) → IsFitCond d t → IsFit d a → IsFit d b → IsFit (d + 1) (pick t a b)
pick_fit d t a b l h k = record {
  deep = simp word_depth_layer (three_under (cond_depth t) (word_depth a) (word_depth b) d l.deep h.deep k.deep);
  names = simp names_layer (both_hold (cond_has_flow_names t) (has_flow_names a && has_flow_names b) l.names (both_hold (has_flow_names a) (has_flow_names b) h.names k.names));
  safe = safe_by (CExpr-F.Pick t a b) (both_hold (is_safe_cond t) (is_safe a && is_safe b) l.safe (both_hold (is_safe a) (is_safe b) h.safe k.safe));
}

pub word_if_fit : (d : ℕ) (t : CCond) → 1 ≤ d → IsFitCond d t → IsFit (d + 1) (word_if t)
word_if_fit d t h k = pick_fit d t (num 1) (num 0) k (num_fit d 1 h (lit< tt)) (num_fit d 0 h (lit< tt))

-- ---- counts of shifts

-- a Word whose value is below 32, always
pub record IsCount (depth : ℕ) (n : CExpr) : Type 0 where
  pub fit : IsFit depth n
  pub small : IsTrue (sure_of n).small

right_holds : (p q : Bool) → IsTrue q → IsTrue (p || q)
right_holds true q h = refl
right_holds false q h = h

num_small : (k : ℕ) → k < 32 → IsTrue (sure_of (num k)).small
num_small k h = subst (λ s. IsTrue s.small) (sym (sure_layer (CExpr-F.Num k))) (below_test k 32 h)

pub num_count : (d k : ℕ) → 1 ≤ d → k < 32 → IsCount d (num k)
num_count d k h l = record { fit = num_fit d k h (omega (arith, l)); small = num_small k l }

-- the low bits of a count
pub masked_count : (d : ℕ) (n : CExpr) (k : ℕ) → 1 ≤ d → k < 32 → IsFit d n → IsCount (d + 1) (bin op.And n (num k))
masked_count d n k h l f = record {
  fit = masked_fit d n k h (omega (arith, l)) f;
  small = subst (λ s. IsTrue s.small) (sym (sure_layer (CExpr-F.Bin op.And n (num k)))) (right_holds (sure_of n).small (sure_of (num k)).small (num_small k l));
}

counted : (a n : CExpr) → IsTrue (is_safe a) → IsTrue (is_safe n) → IsTrue (sure_of n).small → IsTrue (is_safe a && (is_safe n && (sure_of n).small))
counted a n h k l = both_hold (is_safe a) (is_safe n && (sure_of n).small) h (both_hold (is_safe n) (sure_of n).small k l)

pub shl_count_fit : (d : ℕ) (a n : CExpr) → IsFit d a → IsCount d n → IsFit (d + 1) (bin op.Shl a n)
shl_count_fit d a n h k = record {
  deep = bin_deep d op.Shl a n h.deep k.fit.deep;
  names = bin_names op.Shl a n h.names k.fit.names;
  safe = safe_by (CExpr-F.Bin op.Shl a n) (counted a n h.safe k.fit.safe k.small);
}

pub shr_count_fit : (d : ℕ) (a n : CExpr) → IsFit d a → IsCount d n → IsFit (d + 1) (bin op.Shr a n)
shr_count_fit d a n h k = record {
  deep = bin_deep d op.Shr a n h.deep k.fit.deep;
  names = bin_names op.Shr a n h.names k.fit.names;
  safe = safe_by (CExpr-F.Bin op.Shr a n) (counted a n h.safe k.fit.safe k.small);
}

-- ---- conditions

pub cmp_fit : (d : ℕ) (f : CCmp) (a b : CExpr) → IsFit d a → IsFit d b → IsFitCond (d + 1) (cmp f a b)
cmp_fit d f a b h k = record {
  deep = simp cond_depth_layer (under (word_depth a) (word_depth b) d h.deep k.deep);
  names = simp cond_names_layer (both_hold (has_flow_names a) (has_flow_names b) h.names k.names);
  safe = cond_safe_by (CCond-F.Cmp f a b) (both_hold (is_safe a) (is_safe b) h.safe k.safe);
}

pub cond_not_fit : (d : ℕ) (t : CCond) → IsFitCond d t → IsFitCond (d + 1) (cond_not t)
cond_not_fit d t h = record { deep = simp cond_depth_layer (one_under (cond_depth t) d h.deep); names = simp cond_names_layer h.names; safe = cond_safe_by (CCond-F.«CCond::Not» t) h.safe }

pub and_fit : (d : ℕ) (t u : CCond) → IsFitCond d t → IsFitCond d u → IsFitCond (d + 1) (and t u)
and_fit d t u h k = record {
  deep = simp cond_depth_layer (under (cond_depth t) (cond_depth u) d h.deep k.deep);
  names = simp cond_names_layer (both_hold (cond_has_flow_names t) (cond_has_flow_names u) h.names k.names);
  safe = cond_safe_by (CCond-F.And t u) (both_hold (is_safe_cond t) (is_safe_cond u) h.safe k.safe);
}

pub or_fit : (d : ℕ) (t u : CCond) → IsFitCond d t → IsFitCond d u → IsFitCond (d + 1) (or t u)
or_fit d t u h k = record {
  deep = simp cond_depth_layer (under (cond_depth t) (cond_depth u) d h.deep k.deep);
  names = simp cond_names_layer (both_hold (cond_has_flow_names t) (cond_has_flow_names u) h.names k.names);
  safe = cond_safe_by (CCond-F.Or t u) (both_hold (is_safe_cond t) (is_safe_cond u) h.safe k.safe);
}

-- ---- blocks

-- A block of fit statements leads, from every world, to an end or to a world at a node that its end names.
pub fit_stays : (nodes stores : ℕ) (b : Block) (w : World) → AreFit stores b.stmts → IsTrue (is_safe_end b.end) → IsTrue (is_flow_end b.end) → IsTrue (leads_below nodes b.end) → IsWorld w
    → Stays nodes (block_leads b w)
fit_stays nodes stores b w h s r l i =
    safe_stays nodes b w (both_hold (are_safe_stmts b.stmts) (is_safe_end b.end) h.safe s) (both_hold (are_flow_stmts b.stmts) (is_flow_end b.end) h.flow r) l i
