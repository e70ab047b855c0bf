-- A Word and a Cond may stand for themselves, what may stand for what may stand for them, and with parts replaced by ones that
-- may stand for these.
use Rattle.std.proofs.Common.{◌≡◌, ℕ, ◌-◌, ◌^◌, ◌≤◌, Bool, true, false, not, ◌&&◌, Option, Some, None, refl, sym, ap, ◌∙◌, subst, arith}
use Rattle.std.specs.Prelude.{IsTrue}
use Rattle.run_parts.specs.World.{Names}
use Rattle.c_syntax.specs.declared.syntax.CBin.{CBin}
use Rattle.c_syntax.specs.declared.syntax.CCmp.{CCmp}
use Rattle.c_syntax.specs.declared.syntax.CFn1.{CFn1}
use Rattle.c_syntax.specs.declared.syntax.CFn2.{CFn2}
use Rattle.c_syntax.specs.declared.syntax.CFn3.{CFn3}
use Rattle.c_syntax.specs.declared.syntax.CExpr.{CExpr}
use Rattle.c_syntax.specs.declared.syntax.CCond.{CCond}
use Rattle.c_syntax.specs.Words.{bin_of, cmp_of, fn1_of, fn2_of, fn3_of}
use Rattle.c_syntax.specs.Value.{each, both, all_three, picked, word_of, truth_of}
use Rattle.c_words.specs.Built.{word_not, bin, fn1, fn2, fn3, pick, cmp, cond_not, and, or}
use Rattle.micro_ir.specs.Rule.{has_flow_names, cond_has_flow_names}
use Rattle.micro_ir.proofs.Values.{both_true}
use Rattle.word_rules.specs.Parts.{word_parts, cond_parts}
use Rattle.word_rules.specs.Standing.{AreWords, ForWord, ForCond}
use Rattle.word_rules.proofs.Layers as l

-- ---- what is given wherever another thing is

abbrev pub Keeps : {A : Type 0} → Option A → Option A → Type 0
Keeps {A} o p = (x : A) → o ≡ Some x → p ≡ Some x

pub each_keeps : {A B : Type 0} (f : A → B) (o p : Option A) → Keeps o p → Keeps (each f o) (each f p)
each_keeps f None p h z e = absurd (let n : ⊥ = cc in n)
each_keeps f (Some x) p h z e = ap (each f) (h x refl) ∙ e

pub both_keeps : {A B C : Type 0} (f : A → B → Option C) (o p : Option A) (q r : Option B) → Keeps o p → Keeps q r → Keeps (both f o q) (both f p r)
both_keeps f None p q r h k z e = absurd (let n : ⊥ = cc in n)
both_keeps f (Some x) p None r h k z e = absurd (let n : ⊥ = cc in n)
both_keeps f (Some x) p (Some y) r h k z e = ap (λ o. both f o r) (h x refl) ∙ ap (both f (Some x)) (k y refl) ∙ e

pub three_keep : (f : ℕ → ℕ → ℕ → ℕ) (a b c x y z : Option ℕ) → Keeps a x → Keeps b y → Keeps c z → Keeps (all_three f a b c) (all_three f x y z)
three_keep f a b c x y z h k l =
    both_keeps (λ p n. Some (p n)) (both (λ m n. Some (f m n)) a b) (both (λ m n. Some (f m n)) x y) c z (both_keeps (λ m n. Some (f m n)) a x b y h k) l

pub picked_keeps : {A : Type 0} (o p : Option Bool) (a b x y : Option A) → Keeps o p → Keeps a x → Keeps b y → Keeps (picked o a b) (picked p x y)
picked_keeps None p a b x y h k l z e = absurd (let n : ⊥ = cc in n)
picked_keeps (Some true) p a b x y h k l z e = ap (λ o. picked o x y) (h true refl) ∙ k z e
picked_keeps (Some false) p a b x y h k l z e = ap (λ o. picked o x y) (h false refl) ∙ l z e

-- ---- names

pub and_true : (a b : Bool) → IsTrue a → IsTrue b → IsTrue (a && b)
and_true true b p q = q
and_true false b p q = p

two_names : (a b x y : Bool) → (IsTrue a → IsTrue x) → (IsTrue b → IsTrue y) → IsTrue (a && b) → IsTrue (x && y)
two_names a b x y f g h = let k = both_true a b h in and_true x y (f k.0) (g k.1)

-- ---- the record, from what layers are

pub word_for : (e f : CExpr) (p q : Bool) (a b : Names → Option ℕ) (m n : ℕ) → has_flow_names e ≡ p → has_flow_names f ≡ q → ((v : Names) → word_of e v ≡ a v) → ((v : Names) → word_of f v ≡ b v)
    → word_parts e ≡ m → word_parts f ≡ n → (IsTrue p → (v : Names) → AreWords v → Keeps (a v) (b v)) → (IsTrue p → IsTrue q) → n ≤ m → ForWord e f
word_for e f p q a b m n ep eq ea eb em en keeps names fewer = record {
  value = λ t v s x h. eb v ∙ keeps (subst IsTrue ep t) v s x (sym (ea v) ∙ h);
  names = λ t. subst IsTrue (sym eq) (names (subst IsTrue ep t));
  parts = omega arith;
}

pub cond_for : (e f : CCond) (p q : Bool) (a b : Names → Option Bool) (m n : ℕ) → cond_has_flow_names e ≡ p → cond_has_flow_names f ≡ q → ((v : Names) → truth_of e v ≡ a v) → ((v : Names) → truth_of f v ≡ b v)
    → cond_parts e ≡ m → cond_parts f ≡ n → (IsTrue p → (v : Names) → AreWords v → Keeps (a v) (b v)) → (IsTrue p → IsTrue q) → n ≤ m → ForCond e f
cond_for e f p q a b m n ep eq ea eb em en keeps names fewer = record {
  truth = λ t v s x h. eb v ∙ keeps (subst IsTrue ep t) v s x (sym (ea v) ∙ h);
  names = λ t. subst IsTrue (sym eq) (names (subst IsTrue ep t));
  parts = omega arith;
}

-- ---- order

pub word_self : (e : CExpr) → ForWord e e
word_self e = record { value = λ t v s x h. h; names = λ t. t; parts = omega arith }

pub cond_self : (t : CCond) → ForCond t t
cond_self t = record { truth = λ p v s x h. h; names = λ p. p; parts = omega arith }

pub word_chain : (e f g : CExpr) → ForWord e f → ForWord f g → ForWord e g
word_chain e f g h k = record {
  value = λ t v s x p. k.value (h.names t) v s x (h.value t v s x p);
  names = λ t. k.names (h.names t);
  parts = omega (arith, h.parts, k.parts);
}

pub cond_chain : (t u w : CCond) → ForCond t u → ForCond u w → ForCond t w
cond_chain t u w h k = record {
  truth = λ p v s x q. k.truth (h.names p) v s x (h.truth p v s x q);
  names = λ p. k.names (h.names p);
  parts = omega (arith, h.parts, k.parts);
}

pub word_equal : (e f g : CExpr) → g ≡ f → ForWord e f → ForWord e g
word_equal e f g p h = subst (ForWord e) (sym p) h

pub cond_equal : (t u w : CCond) → w ≡ u → ForCond t u → ForCond t w
cond_equal t u w p h = subst (ForCond t) (sym p) h

-- ---- each variant

pub not_stands : (a b : CExpr) → ForWord a b → ForWord (word_not a) (word_not b)
not_stands a b h =
    word_for (word_not a) (word_not b) _ _ _ _ _ _ (l.not_names a) (l.not_names b) (λ v. l.not_value v a) (λ v. l.not_value v b) (l.not_parts a) (l.not_parts b)
    (λ t v s. each_keeps (λ x. 2 ^ 32 - 1 - x) (word_of a v) (word_of b v) (h.value t v s))
    h.names (omega (arith, h.parts))

pub bin_stands : (op : CBin) (a b x y : CExpr) → ForWord a x → ForWord b y → ForWord (bin op a b) (bin op x y)
bin_stands op a b x y h k =
    word_for (bin op a b) (bin op x y) _ _ _ _ _ _ (l.bin_names op a b) (l.bin_names op x y) (λ v. l.bin_value v op a b) (λ v. l.bin_value v op x y) (l.bin_parts op a b) (l.bin_parts op x y)
    (λ t v s. let n = both_true (has_flow_names a) (has_flow_names b) t in both_keeps (bin_of op) (word_of a v) (word_of x v) (word_of b v) (word_of y v) (h.value n.0 v s) (k.value n.1 v s))
    (two_names _ _ _ _ h.names k.names) (omega (arith, h.parts, k.parts))

pub fn1_stands : (f : CFn1) (a b : CExpr) → ForWord a b → ForWord (fn1 f a) (fn1 f b)
fn1_stands f a b h =
    word_for (fn1 f a) (fn1 f b) _ _ _ _ _ _ (l.fn1_names f a) (l.fn1_names f b) (λ v. l.fn1_value v f a) (λ v. l.fn1_value v f b) (l.fn1_parts f a) (l.fn1_parts f b)
    (λ t v s. each_keeps (fn1_of f) (word_of a v) (word_of b v) (h.value t v s))
    h.names (omega (arith, h.parts))

pub fn2_stands : (f : CFn2) (a b x y : CExpr) → ForWord a x → ForWord b y → ForWord (fn2 f a b) (fn2 f x y)
fn2_stands f a b x y h k =
    word_for (fn2 f a b) (fn2 f x y) _ _ _ _ _ _ (l.fn2_names f a b) (l.fn2_names f x y) (λ v. l.fn2_value v f a b) (λ v. l.fn2_value v f x y) (l.fn2_parts f a b) (l.fn2_parts f x y)
    (λ t v s. let n = both_true (has_flow_names a) (has_flow_names b) t in
    both_keeps (λ p q. Some (fn2_of f p q)) (word_of a v) (word_of x v) (word_of b v) (word_of y v) (h.value n.0 v s) (k.value n.1 v s))
    (two_names _ _ _ _ h.names k.names) (omega (arith, h.parts, k.parts))

pub fn3_stands : (f : CFn3) (a b d x y z : CExpr) → ForWord a x → ForWord b y → ForWord d z → ForWord (fn3 f a b d) (fn3 f x y z)
fn3_stands f a b d x y z h k g =
    word_for (fn3 f a b d) (fn3 f x y z) _ _ _ _ _ _ (l.fn3_names f a b d) (l.fn3_names f x y z) (λ v. l.fn3_value v f a b d) (λ v. l.fn3_value v f x y z) (l.fn3_parts f a b d) (l.fn3_parts f x y z)
    (λ t v s. let n = both_true (has_flow_names a) (has_flow_names b && has_flow_names d) t in let m = both_true (has_flow_names b) (has_flow_names d) n.1 in
    three_keep (fn3_of f) (word_of a v) (word_of b v) (word_of d v) (word_of x v) (word_of y v) (word_of z v) (h.value n.0 v s) (k.value m.0 v s) (g.value m.1 v s))
    (two_names _ _ _ _ h.names (two_names _ _ _ _ k.names g.names)) (omega (arith, h.parts, k.parts, g.parts))

pub pick_stands : (t u : CCond) (a b x y : CExpr) → ForCond t u → ForWord a x → ForWord b y → ForWord (pick t a b) (pick u x y)
pick_stands t u a b x y g h k =
    word_for (pick t a b) (pick u x y) _ _ _ _ _ _ (l.pick_names t a b) (l.pick_names u x y) (λ v. l.pick_value v t a b) (λ v. l.pick_value v u x y) (l.pick_parts t a b) (l.pick_parts u x y)
    (λ p v s. let n = both_true (cond_has_flow_names t) (has_flow_names a && has_flow_names b) p in let m = both_true (has_flow_names a) (has_flow_names b) n.1 in
    picked_keeps (truth_of t v) (truth_of u v) (word_of a v) (word_of b v) (word_of x v) (word_of y v) (g.truth n.0 v s) (h.value m.0 v s) (k.value m.1 v s))
    (two_names _ _ _ _ g.names (two_names _ _ _ _ h.names k.names)) (omega (arith, g.parts, h.parts, k.parts))

pub cmp_stands : (op : CCmp) (a b x y : CExpr) → ForWord a x → ForWord b y → ForCond (cmp op a b) (cmp op x y)
cmp_stands op a b x y h k =
    cond_for (cmp op a b) (cmp op x y) _ _ _ _ _ _ (l.cmp_names op a b) (l.cmp_names op x y) (λ v. l.cmp_value v op a b) (λ v. l.cmp_value v op x y) (l.cmp_parts op a b) (l.cmp_parts op x y)
    (λ t v s. let n = both_true (has_flow_names a) (has_flow_names b) t in
    both_keeps (λ p q. Some (cmp_of op p q)) (word_of a v) (word_of x v) (word_of b v) (word_of y v) (h.value n.0 v s) (k.value n.1 v s))
    (two_names _ _ _ _ h.names k.names) (omega (arith, h.parts, k.parts))

pub cond_not_stands : (t u : CCond) → ForCond t u → ForCond (cond_not t) (cond_not u)
cond_not_stands t u h =
    cond_for (cond_not t) (cond_not u) _ _ _ _ _ _ (l.cond_not_names t) (l.cond_not_names u) (λ v. l.cond_not_value v t) (λ v. l.cond_not_value v u) (l.cond_not_parts t) (l.cond_not_parts u)
    (λ p v s. each_keeps not (truth_of t v) (truth_of u v) (h.truth p v s))
    h.names (omega (arith, h.parts))

pub and_stands : (t u x y : CCond) → ForCond t x → ForCond u y → ForCond (and t u) (and x y)
and_stands t u x y h k =
    cond_for (and t u) (and x y) _ _ _ _ _ _ (l.and_names t u) (l.and_names x y) (λ v. l.and_value v t u) (λ v. l.and_value v x y) (l.and_parts t u) (l.and_parts x y)
    (λ p v s. let n = both_true (cond_has_flow_names t) (cond_has_flow_names u) p in
    picked_keeps (truth_of t v) (truth_of x v) (truth_of u v) (Some false) (truth_of y v) (Some false) (h.truth n.0 v s) (k.truth n.1 v s) (λ z e. e))
    (two_names _ _ _ _ h.names k.names) (omega (arith, h.parts, k.parts))

pub or_stands : (t u x y : CCond) → ForCond t x → ForCond u y → ForCond (or t u) (or x y)
or_stands t u x y h k =
    cond_for (or t u) (or x y) _ _ _ _ _ _ (l.or_names t u) (l.or_names x y) (λ v. l.or_value v t u) (λ v. l.or_value v x y) (l.or_parts t u) (l.or_parts x y)
    (λ p v s. let n = both_true (cond_has_flow_names t) (cond_has_flow_names u) p in
    picked_keeps (truth_of t v) (truth_of x v) (Some true) (truth_of u v) (Some true) (truth_of y v) (h.truth n.0 v s) (λ z e. e) (k.truth n.1 v s))
    (two_names _ _ _ _ h.names k.names) (omega (arith, h.parts, k.parts))
