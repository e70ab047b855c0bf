-- Conds of two Words: what is to be shown so that one of them may stand for another.
use Rattle.std.proofs.Common.{◌≡◌, ℕ, ◌+◌, ◌^◌, ◌<◌, ◌≤◌, Bool, true, false, not, ◌&&◌, Option, Some, None, refl, sym, ap, ◌∙◌, subst, arith}
use Rattle.std.specs.Prelude.{IsTrue}
use Rattle.run_parts.specs.World.{Names}
use Rattle.c_syntax.specs.declared.syntax.CBin.{CBin}
use Rattle.c_syntax.specs.declared.syntax.CCmp.{CCmp}
use Rattle.c_syntax.specs.declared.syntax.CFn1.{CFn1}
use Rattle.c_syntax.specs.declared.syntax.CFn2.{CFn2}
use Rattle.c_syntax.specs.declared.syntax.CExpr.{CExpr}
use Rattle.c_syntax.specs.declared.syntax.CCond.{CCond}
use Rattle.c_syntax.specs.Words.{bin_of, cmp_of, fn1_of, fn2_of}
use Rattle.c_syntax.specs.Value.{each, both, picked, word_of, truth_of}
use Rattle.c_syntax.specs.Formed.{is_word}
use Rattle.c_words.specs.Built.{num, bin, fn1, fn2, cmp, and, or}
use Rattle.micro_ir.specs.Rule.{has_flow_names, cond_has_flow_names}
use Rattle.micro_ir.specs.Laws.{IsWordOrStuck}
use Rattle.micro_ir.proofs.Values.{both_true, value_small}
use Rattle.word_rules.specs.Parts.{word_parts, cond_parts}
use Rattle.word_rules.specs.Standing.{AreWords, ForCond}
use Rattle.word_rules.proofs.Layers as l
use Rattle.cond_rules.proofs.Names.{two_names}

ap2 : {A B C : Type 0} (f : A → B → C) (a x : A) (b y : B) → a ≡ x → b ≡ y → f a b ≡ f x y
ap2 f a x b y p q = ap (λ z. f z b) p ∙ ap (f x) q

-- a Word of two Words
pub data Shape : Type 0 where
  first : Shape
  second : Shape
  number : ℕ → Shape
  joined : CBin → Shape → Shape → Shape
  one : CFn1 → Shape → Shape
  two : CFn2 → Shape → Shape → Shape

-- a Cond of two Words
pub data Test : Type 0 where
  test : CCmp → Shape → Shape → Test
  all : Test → Test → Test
  any : Test → Test → Test

-- ---- what they are of two Words

abbrev pub word_by : CExpr → CExpr → Shape → CExpr
word_by a b first = a
word_by a b second = b
word_by a b (number n) = num n
word_by a b (joined op s t) = bin op (word_by a b s) (word_by a b t)
word_by a b (one f s) = fn1 f (word_by a b s)
word_by a b (two f s t) = fn2 f (word_by a b s) (word_by a b t)

abbrev pub cond_by : CExpr → CExpr → Test → CCond
cond_by a b (test op s t) = cmp op (word_by a b s) (word_by a b t)
cond_by a b (all s t) = and (cond_by a b s) (cond_by a b t)
cond_by a b (any s t) = or (cond_by a b s) (cond_by a b t)

-- ---- what they give, have as names and as parts, by what the two Words do

abbrev pub value_by : Option ℕ → Option ℕ → Shape → Option ℕ
value_by o p first = o
value_by o p second = p
value_by o p (number n) = Some n
value_by o p (joined op s t) = both (bin_of op) (value_by o p s) (value_by o p t)
value_by o p (one f s) = each (fn1_of f) (value_by o p s)
value_by o p (two f s t) = both (λ x y. Some (fn2_of f x y)) (value_by o p s) (value_by o p t)

abbrev pub truth_by : Option ℕ → Option ℕ → Test → Option Bool
truth_by o p (test op s t) = both (λ x y. Some (cmp_of op x y)) (value_by o p s) (value_by o p t)
truth_by o p (all s t) = picked (truth_by o p s) (truth_by o p t) (Some false)
truth_by o p (any s t) = picked (truth_by o p s) (Some true) (truth_by o p t)

abbrev pub names_by : Bool → Bool → Shape → Bool
names_by p q first = p
names_by p q second = q
names_by p q (number n) = is_word n
names_by p q (joined op s t) = names_by p q s && names_by p q t
names_by p q (one f s) = names_by p q s
names_by p q (two f s t) = names_by p q s && names_by p q t

abbrev pub test_names_by : Bool → Bool → Test → Bool
test_names_by p q (test op s t) = names_by p q s && names_by p q t
test_names_by p q (all s t) = test_names_by p q s && test_names_by p q t
test_names_by p q (any s t) = test_names_by p q s && test_names_by p q t

abbrev pub parts_by : ℕ → ℕ → Shape → ℕ
parts_by m n first = m
parts_by m n second = n
parts_by m n (number k) = 1
parts_by m n (joined op s t) = parts_by m n s + parts_by m n t + 1
parts_by m n (one f s) = parts_by m n s + 1
parts_by m n (two f s t) = parts_by m n s + parts_by m n t + 1

abbrev pub test_parts_by : ℕ → ℕ → Test → ℕ
test_parts_by m n (test op s t) = parts_by m n s + parts_by m n t + 1
test_parts_by m n (all s t) = test_parts_by m n s + test_parts_by m n t + 1
test_parts_by m n (any s t) = test_parts_by m n s + test_parts_by m n t + 1

module _ (a b : CExpr) where
  word_value : (v : Names) (s : Shape) → word_of (word_by a b s) v ≡ value_by (word_of a v) (word_of b v) s
  word_value v first = refl
  word_value v second = refl
  word_value v (number n) = l.num_value v n
  word_value v (joined op s t) = l.bin_value v op _ _ ∙ ap2 (both (bin_of op)) _ _ _ _ (word_value v s) (word_value v t)
  word_value v (one f s) = l.fn1_value v f _ ∙ ap (each (fn1_of f)) (word_value v s)
  word_value v (two f s t) = l.fn2_value v f _ _ ∙ ap2 (both (λ x y. Some (fn2_of f x y))) _ _ _ _ (word_value v s) (word_value v t)

  cond_value : (v : Names) (s : Test) → truth_of (cond_by a b s) v ≡ truth_by (word_of a v) (word_of b v) s
  cond_value v (test op s t) = l.cmp_value v op _ _ ∙ ap2 (both (λ x y. Some (cmp_of op x y))) _ _ _ _ (word_value v s) (word_value v t)
  cond_value v (all s t) = l.and_value v _ _ ∙ ap2 (λ p q. picked p q (Some false)) _ _ _ _ (cond_value v s) (cond_value v t)
  cond_value v (any s t) = l.or_value v _ _ ∙ ap2 (λ p q. picked p (Some true) q) _ _ _ _ (cond_value v s) (cond_value v t)

  word_named : (s : Shape) → has_flow_names (word_by a b s) ≡ names_by (has_flow_names a) (has_flow_names b) s
  word_named first = refl
  word_named second = refl
  word_named (number n) = l.num_names n
  word_named (joined op s t) = l.bin_names op _ _ ∙ ap2 ◌&&◌ _ _ _ _ (word_named s) (word_named t)
  word_named (one f s) = l.fn1_names f _ ∙ word_named s
  word_named (two f s t) = l.fn2_names f _ _ ∙ ap2 ◌&&◌ _ _ _ _ (word_named s) (word_named t)

  cond_named : (s : Test) → cond_has_flow_names (cond_by a b s) ≡ test_names_by (has_flow_names a) (has_flow_names b) s
  cond_named (test op s t) = l.cmp_names op _ _ ∙ ap2 ◌&&◌ _ _ _ _ (word_named s) (word_named t)
  cond_named (all s t) = l.and_names _ _ ∙ ap2 ◌&&◌ _ _ _ _ (cond_named s) (cond_named t)
  cond_named (any s t) = l.or_names _ _ ∙ ap2 ◌&&◌ _ _ _ _ (cond_named s) (cond_named t)

  word_parted : (s : Shape) → word_parts (word_by a b s) ≡ parts_by (word_parts a) (word_parts b) s
  word_parted first = refl
  word_parted second = refl
  word_parted (number n) = l.num_parts n
  word_parted (joined op s t) = l.bin_parts op _ _ ∙ ap2 (λ m n. m + n + 1) _ _ _ _ (word_parted s) (word_parted t)
  word_parted (one f s) = l.fn1_parts f _ ∙ ap (λ m. m + 1) (word_parted s)
  word_parted (two f s t) = l.fn2_parts f _ _ ∙ ap2 (λ m n. m + n + 1) _ _ _ _ (word_parted s) (word_parted t)

  cond_parted : (s : Test) → cond_parts (cond_by a b s) ≡ test_parts_by (word_parts a) (word_parts b) s
  cond_parted (test op s t) = l.cmp_parts op _ _ ∙ ap2 (λ m n. m + n + 1) _ _ _ _ (word_parted s) (word_parted t)
  cond_parted (all s t) = l.and_parts _ _ ∙ ap2 (λ m n. m + n + 1) _ _ _ _ (cond_parted s) (cond_parted t)
  cond_parted (any s t) = l.or_parts _ _ ∙ ap2 (λ m n. m + n + 1) _ _ _ _ (cond_parted s) (cond_parted t)

-- ---- one for another

-- what is said of each value of a Word
abbrev pub Has : CExpr → (ℕ → Type 0) → Type 0
Has e P = IsTrue (has_flow_names e) → (v : Names) → AreWords v → (x : ℕ) → word_of e v ≡ Some x → P x

pub is_small : (e : CExpr) → Has e (λ x. x < 2 ^ 32)
is_small e t v s x h = subst IsWordOrStuck h (value_small e t v s)

-- a test needs both Words
pub record NeedsBoth (t : Test) : Type 0 where
  pub first_value : (p : Option ℕ) → truth_by None p t ≡ None
  pub second_value : (x : ℕ) → truth_by (Some x) None t ≡ None
  pub first_name : (q : Bool) → test_names_by false q t ≡ false
  pub second_name : test_names_by true false t ≡ false

-- a test needs the first
pub record NeedsFirst (t : Test) : Type 0 where
  pub value : (p : Option ℕ) → truth_by None p t ≡ None
  pub name : (q : Bool) → test_names_by false q t ≡ false

both_named : (t : Test) (p q : Bool) → NeedsBoth t → IsTrue (test_names_by p q t) → IsTrue p × IsTrue q
both_named t true true n h = (cc, cc)
both_named t true false n h = absurd (let e = n.second_name in let z : ⊥ = cc in z)
both_named t false q n h = absurd (let e = n.first_name q in let z : ⊥ = cc in z)

module _ (t u : Test) (a b : CExpr) (P Q : ℕ → Type 0) (p : Has a P) (q : Has b Q) where
  -- where both are needed
  pub two_for : NeedsBoth t → test_names_by true true u ≡ true
      → test_parts_by (word_parts a) (word_parts b) u ≤ test_parts_by (word_parts a) (word_parts b) t
      → ((x y : ℕ) → P x → Q y → truth_by (Some x) (Some y) t ≡ truth_by (Some x) (Some y) u)
      → ForCond (cond_by a b t) (cond_by a b u)
  two_for needs named fewer law = record {
    truth = λ n v s c e.
        let k = given n in
        cond_value a b v u ∙ same (word_of a v) (word_of b v) c (λ x h. p k.0 v s x h) (λ y h. q k.1 v s y h) (sym (cond_value a b v t) ∙ e);
    names = λ n. let k = given n in subst IsTrue (sym (cond_named a b u ∙ ap2 (λ i j. test_names_by i j u) _ _ _ _ k.0 k.1 ∙ named)) refl;
    parts = subst (λ m. m ≤ cond_parts (cond_by a b t)) (sym (cond_parted a b u)) (subst (λ m. test_parts_by (word_parts a) (word_parts b) u ≤ m) (sym (cond_parted a b t)) fewer);
  }
    where
      given : IsTrue (cond_has_flow_names (cond_by a b t)) → IsTrue (has_flow_names a) × IsTrue (has_flow_names b)
      given n = both_named t (has_flow_names a) (has_flow_names b) needs (subst IsTrue (cond_named a b t) n)

      same : (o r : Option ℕ) (c : Bool) → ((x : ℕ) → o ≡ Some x → P x) → ((y : ℕ) → r ≡ Some y → Q y) → truth_by o r t ≡ Some c → truth_by o r u ≡ Some c
      same None r c h k e = absurd (let f = needs.first_value r in let z : ⊥ = cc in z)
      same (Some x) None c h k e = absurd (let f = needs.second_value x in let z : ⊥ = cc in z)
      same (Some x) (Some y) c h k e = sym (law x y (h x refl) (k y refl)) ∙ e

-- where just the first is there
pub one_with : (t u : Test) (a : CExpr) (P : ℕ → Type 0) → Has a P → NeedsFirst t → test_names_by true true u ≡ true
    → test_parts_by (word_parts a) (word_parts a) u ≤ test_parts_by (word_parts a) (word_parts a) t
    → ((x : ℕ) → P x → truth_by (Some x) (Some x) t ≡ truth_by (Some x) (Some x) u)
    → ForCond (cond_by a a t) (cond_by a a u)
one_with t u a P p needs named fewer law = record {
  truth = λ n v s c e. cond_value a a v u ∙ same (word_of a v) c (λ x h. p (given n) v s x h) (sym (cond_value a a v t) ∙ e);
  names = λ n. subst IsTrue (sym (cond_named a a u ∙ ap (λ i. test_names_by i i u) (given n) ∙ named)) refl;
  parts = subst (λ m. m ≤ cond_parts (cond_by a a t)) (sym (cond_parted a a u)) (subst (λ m. test_parts_by (word_parts a) (word_parts a) u ≤ m) (sym (cond_parted a a t)) fewer);
}
  where
    named_first : (q : Bool) → IsTrue (test_names_by q q t) → IsTrue q
    named_first true h = refl
    named_first false h = absurd (let e = needs.name false in let z : ⊥ = cc in z)

    given : IsTrue (cond_has_flow_names (cond_by a a t)) → IsTrue (has_flow_names a)
    given n = named_first (has_flow_names a) (subst IsTrue (cond_named a a t) n)

    same : (o : Option ℕ) (c : Bool) → ((x : ℕ) → o ≡ Some x → P x) → truth_by o o t ≡ Some c → truth_by o o u ≡ Some c
    same None c h e = absurd (let f = needs.value None in let z : ⊥ = cc in z)
    same (Some x) c h e = sym (law x (h x refl)) ∙ e

pub one_for : (t u : Test) (a : CExpr) → NeedsFirst t → test_names_by true true u ≡ true
    → test_parts_by (word_parts a) (word_parts a) u ≤ test_parts_by (word_parts a) (word_parts a) t
    → ((x : ℕ) → x < 2 ^ 32 → truth_by (Some x) (Some x) t ≡ truth_by (Some x) (Some x) u)
    → ForCond (cond_by a a t) (cond_by a a u)
one_for t u a needs named fewer law = one_with t u a (λ x. x < 2 ^ 32) (is_small a) needs named fewer law
