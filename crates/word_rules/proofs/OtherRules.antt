-- Rules on the other Words and on negations: what may stand for one, and is plain.
use Rattle.std.proofs.Common.{◌≡◌, ℕ, ◌+◌, ◌-◌, ◌^◌, ◌<◌, ◌≤◌, Bool, true, false, not, ◌&&◌, Some, refl, sym, ap, ◌∙◌, subst, arith}
use Rattle.std.specs.Prelude.{IsTrue}
use Rattle.run_parts.specs.World.{Names}
use Rattle.c_syntax.specs.declared.syntax.CFn1.{CFn1}
use Rattle.c_syntax.specs.declared.syntax.CFn2.{CFn2}
use Rattle.c_syntax.specs.declared.syntax.CFn3.{CFn3}
use Rattle.c_syntax.specs.declared.syntax.CExpr as words
use Rattle.c_syntax.specs.declared.syntax.CExpr.{CExpr}
use Rattle.c_syntax.specs.declared.syntax.CExpr.TheVariants as word
use Rattle.c_syntax.specs.declared.syntax.CCond as conds
use Rattle.c_syntax.specs.declared.syntax.CCond.{CCond}
use Rattle.c_syntax.specs.declared.syntax.CCond.TheVariants as test
use Rattle.c_syntax.specs.Words.{fn1_of, fn2_of, fn3_of}
use Rattle.c_syntax.specs.Value.{both, word_of, truth_of}
use Rattle.c_syntax.proofs.Induct.{WordCases, every_word, every_cond}
use Rattle.c_words.specs.Built.{num, name, word_not, bin, fn1, fn2, fn3, pick, cmp, cond_not, and, or}
use Rattle.micro_ir.specs.Rule.{has_flow_names, cond_has_flow_names}
use Rattle.micro_ir.proofs.Values.{both_true}
use Rattle.word_rules.specs.Parts.{word_parts}
use Rattle.word_rules.specs.Standing.{ForWord}
use Rattle.word_rules.specs.Plain.{Look, is_numeric, is_complement, word_look, cond_look, is_plain, is_plain_cond}
use Rattle.word_rules.specs.Settled.{Settles, SettlesCond}
use Rattle.word_rules.proofs.Congruence.{word_self, cond_self}
use Rattle.word_rules.proofs.Covered.{each_case, both_case, picked_case, value_of_num}
use Rattle.word_rules.proofs.Layers as l
use Rattle.word_rules.proofs.Looks.{num_plain, name_look, not_look, bin_look, fn1_look, fn2_look, fn3_look, pick_look, cmp_look, cond_not_look, and_look, or_look}
use Rattle.word_rules.proofs.Rules.{word_small, is_small}

whole_true : (b c : Bool) → IsTrue b → c ≡ true → IsTrue (b && c)
whole_true true c h g = g
whole_true false c h g = h

-- ---- complements

for_not : (a f : CExpr) → ((v : Names) (x : ℕ) → word_of a v ≡ Some x → x < 2 ^ 32 → word_of f v ≡ Some (2 ^ 32 - 1 - x)) → (IsTrue (has_flow_names a) → IsTrue (has_flow_names f)) → word_parts f ≤ word_parts a + 1 → ForWord (word_not a) f
for_not a f value names fewer = record {
  value = λ t v s z h.
      let n = subst IsTrue (l.not_names a) t in
      each_case (λ x. 2 ^ 32 - 1 - x) (word_of a v) z _ (sym (l.not_value v a) ∙ h) (λ x e g. value v x e (word_small a v x n s e) ∙ ap Some g);
  names = λ t. names (subst IsTrue (l.not_names a) t);
  parts = let p = l.not_parts a in omega (arith, p, fewer);
}

pub not_of_number : (a e : CExpr) (n r : ℕ) → a ≡ words.Num n → e ≡ words.Num r → r ≡ 2 ^ 32 - 1 - n → Settles (word_not a) e
not_of_number a e n r i j k = subst (Settles (word_not a)) (word.rolls-Num r ∙ sym j) (record {
  stands = for_not a (num r)
      (λ v x f s. let p : x ≡ n = value_of_num a n x v (i ∙ sym (word.rolls-Num n)) f in l.num_value v r ∙ ap Some (k ∙ ap (λ m. 2 ^ 32 - 1 - m) (sym p)))
      (λ t. is_small r (omega arith))
      (let p = l.num_parts r in omega (arith, p));
  plain = λ h. num_plain r;
})

twice_not : (x y z : ℕ) → y < 2 ^ 32 → 2 ^ 32 - 1 - y ≡ x → y ≡ 2 ^ 32 - 1 - x
twice_not x y z s e = omega arith

pub not_of_not : (a b e : CExpr) → a ≡ words.Not b → e ≡ b → Settles (word_not a) e
not_of_not a b e i j = subst (Settles (word_not a)) (sym j) (subst (λ w. Settles (word_not w) b) (word.rolls-Not b ∙ sym i) (record {
  stands = record {
    value = λ t v s z h.
        let n = subst IsTrue (l.not_names b) (subst IsTrue (l.not_names (word_not b)) t) in
        each_case (λ x. 2 ^ 32 - 1 - x) (word_of (word_not b) v) z _ (sym (l.not_value v (word_not b)) ∙ h)
        (λ x e g. each_case (λ x. 2 ^ 32 - 1 - x) (word_of b v) x _ (sym (l.not_value v b) ∙ e)
        (λ y f k. f ∙ ap Some (twice_not x y z (word_small b v y n s f) k ∙ g)));
    names = λ t. subst IsTrue (l.not_names b) (subst IsTrue (l.not_names (word_not b)) t);
    parts = let p = l.not_parts (word_not b) in let q = l.not_parts b in omega (arith, p, q);
  };
  plain = λ h.
      let p : IsTrue (is_plain (word_not b)) = sym (ap (λ k. k.parts) (not_look (word_not b))) ∙ h in
      (both_true (is_plain b) (not (is_numeric (word_look b).kind) && not (is_complement (word_look b).kind)) (sym (ap (λ k. k.whole) (not_look b)) ∙ p)).0;
}))

-- what is no number and no complement may stand under one
abbrev IsOpen : CExpr → Type 0
IsOpen a = (not (is_numeric (word_look a).kind) && not (is_complement (word_look a).kind)) ≡ true

open_look : (a : CExpr) (k : Look) → word_look a ≡ k → (not (is_numeric k.kind) && not (is_complement k.kind)) ≡ true → IsOpen a
open_look a k e h = ap (λ w. not (is_numeric w.kind) && not (is_complement w.kind)) e ∙ h

abbrev OpensWord : CExpr → Type 0
OpensWord a = ((n : ℕ) → a ≡ words.Num n → ⊥) → ((b : CExpr) → a ≡ words.Not b → ⊥) → IsOpen a

abbrev OpensCond : CCond → Type 0
OpensCond t = ((u : CCond) → t ≡ conds.Not u → ⊥) → not (is_complement (cond_look t).kind) ≡ true

positive_look : (t : CCond) (k : Look) → cond_look t ≡ k → is_complement k.kind ≡ false → not (is_complement (cond_look t).kind) ≡ true
positive_look t k e h = ap (λ w. not (is_complement w.kind)) e ∙ ap not h

open_cases : WordCases OpensWord OpensCond
open_cases = record {
  num = λ n h g. absurd (h n (word.rolls-Num n));
  name = λ n h g. open_look (name n) _ (name_look n) refl;
  not_word = λ a p h g. absurd (g a (word.rolls-Not a));
  bin = λ op a b p q h g. open_look (bin op a b) _ (bin_look op a b) refl;
  fn1 = λ f a p h g. open_look (fn1 f a) _ (fn1_look f a) refl;
  fn2 = λ f a b p q h g. open_look (fn2 f a b) _ (fn2_look f a b) refl;
  fn3 = λ f a b d p q r h g. open_look (fn3 f a b d) _ (fn3_look f a b d) refl;
  pick = λ t a b p q r h g. open_look (pick t a b) _ (pick_look t a b) refl;
  cmp = λ op a b p q h. positive_look (cmp op a b) _ (cmp_look op a b) refl;
  not_cond = λ t p h. absurd (h t (test.rolls-Not t));
  both = λ t u p q h. positive_look (and t u) _ (and_look t u) refl;
  either = λ t u p q h. positive_look (or t u) _ (or_look t u) refl;
}

open_kind : (a : CExpr) → OpensWord a
open_kind a = every_word open_cases a

positive_kind : (t : CCond) → OpensCond t
positive_kind t = every_cond open_cases t

pub not_built : (a e : CExpr) → ((n : ℕ) → a ≡ words.Num n → ⊥) → ((b : CExpr) → a ≡ words.Not b → ⊥) → e ≡ word_not a → Settles (word_not a) e
not_built a e h g i = subst (Settles (word_not a)) (sym i) (record {
  stands = word_self (word_not a);
  plain = λ t.
      let p : IsTrue (is_plain a) = sym (ap (λ k. k.parts) (not_look a)) ∙ t in
      ap (λ k. k.whole) (not_look a) ∙ whole_true (is_plain a) _ p (open_kind a h g);
})

-- ---- functions

pub fn1_of_number : (f : CFn1) (a : CExpr) (n r : ℕ) → a ≡ num n → r ≡ fn1_of f n → r < 2 ^ 32 → Settles (fn1 f a) (num r)
fn1_of_number f a n r i j s = record {
  stands = record {
    value = λ t v w z h. each_case (fn1_of f) (word_of a v) z _ (sym (l.fn1_value v f a) ∙ h)
        (λ x e g. l.num_value v r ∙ ap Some (j ∙ ap (fn1_of f) (sym (value_of_num a n x v i e)) ∙ g));
    names = λ t. is_small r s;
    parts = let p = l.num_parts r in let q = l.fn1_parts f a in omega (arith, p, q);
  };
  plain = λ h. num_plain r;
}

pub fn1_built : (f : CFn1) (a e : CExpr) → e ≡ fn1 f a → Settles (fn1 f a) e
fn1_built f a e i = subst (Settles (fn1 f a)) (sym i) (record {
  stands = word_self (fn1 f a);
  plain = λ h. ap (λ k. k.whole) (fn1_look f a) ∙ whole_true (is_plain a) true (sym (ap (λ k. k.parts) (fn1_look f a)) ∙ h) refl;
})

pub fn2_of_numbers : (f : CFn2) (a b : CExpr) (m n r : ℕ) → a ≡ num m → b ≡ num n → r ≡ fn2_of f m n → r < 2 ^ 32 → Settles (fn2 f a b) (num r)
fn2_of_numbers f a b m n r i j k s = record {
  stands = record {
    value = λ t v w z h. both_case (λ x y. Some (fn2_of f x y)) (word_of a v) (word_of b v) z _ (sym (l.fn2_value v f a b) ∙ h)
        (λ x y e g u. l.num_value v r ∙ ap Some (k ∙ ap (λ q. fn2_of f q n) (sym (value_of_num a m x v i e)) ∙ ap (fn2_of f x) (sym (value_of_num b n y v j g))) ∙ u);
    names = λ t. is_small r s;
    parts = let p = l.num_parts r in let q = l.fn2_parts f a b in omega (arith, p, q);
  };
  plain = λ h. num_plain r;
}

pub fn2_built : (f : CFn2) (a b e : CExpr) → e ≡ fn2 f a b → Settles (fn2 f a b) e
fn2_built f a b e i = subst (Settles (fn2 f a b)) (sym i) (record {
  stands = word_self (fn2 f a b);
  plain = λ h. ap (λ k. k.whole) (fn2_look f a b) ∙ whole_true (is_plain a && is_plain b) true (sym (ap (λ k. k.parts) (fn2_look f a b)) ∙ h) refl;
})

pub fn3_of_numbers : (f : CFn3) (a b d : CExpr) (m n o r : ℕ) → a ≡ num m → b ≡ num n → d ≡ num o → r ≡ fn3_of f m n o → r < 2 ^ 32 → Settles (fn3 f a b d) (num r)
fn3_of_numbers f a b d m n o r i j k l' s = record {
  stands = record {
    value = λ t v w z h. both_case (λ p y. Some (p y)) (both (λ x y. Some (fn3_of f x y)) (word_of a v) (word_of b v)) (word_of d v) z _ (sym (l.fn3_value v f a b d) ∙ h)
        (λ p q e g u. both_case (λ x y. Some (fn3_of f x y)) (word_of a v) (word_of b v) p _ e
        (λ x y ex ey c.
        let same : fn3_of f x y ≡ p = cc in
        let last : p q ≡ z = cc in
        l.num_value v r ∙ ap Some (l' ∙ ap (λ w'. fn3_of f w' n o) (sym (value_of_num a m x v i ex)) ∙ ap (λ w'. fn3_of f x w' o) (sym (value_of_num b n y v j ey)) ∙ ap (fn3_of f x y) (sym (value_of_num d o q v k g)) ∙ ap (λ w'. w' q) same ∙ last)));
    names = λ t. is_small r s;
    parts = let p = l.num_parts r in let q = l.fn3_parts f a b d in omega (arith, p, q);
  };
  plain = λ h. num_plain r;
}

pub fn3_built : (f : CFn3) (a b d e : CExpr) → e ≡ fn3 f a b d → Settles (fn3 f a b d) e
fn3_built f a b d e i = subst (Settles (fn3 f a b d)) (sym i) (record {
  stands = word_self (fn3 f a b d);
  plain = λ h. ap (λ k. k.whole) (fn3_look f a b d) ∙ whole_true (is_plain a && (is_plain b && is_plain d)) true (sym (ap (λ k. k.parts) (fn3_look f a b d)) ∙ h) refl;
})

-- ---- the conditional operator

pub pick_of_equal : (t : CCond) (a b : CExpr) → a ≡ b → Settles (pick t a b) a
pick_of_equal t a b i = record {
  stands = record {
    value = λ n v s z h. picked_case (truth_of t v) (word_of a v) (word_of b v) z _ (sym (l.pick_value v t a b) ∙ h) (λ e. e) (λ e. ap (λ w. word_of w v) i ∙ e);
    names = λ n. (both_true (has_flow_names a) (has_flow_names b) (both_true (cond_has_flow_names t) (has_flow_names a && has_flow_names b) (subst IsTrue (l.pick_names t a b) n)).1).0;
    parts = let p = l.pick_parts t a b in omega (arith, p);
  };
  plain = λ h. (both_true (is_plain a) (is_plain b) (both_true (is_plain_cond t) (is_plain a && is_plain b) (sym (ap (λ k. k.parts) (pick_look t a b)) ∙ h)).1).0;
}

pub pick_built : (t : CCond) (a b e : CExpr) → e ≡ pick t a b → Settles (pick t a b) e
pick_built t a b e i = subst (Settles (pick t a b)) (sym i) (record {
  stands = word_self (pick t a b);
  plain = λ h. ap (λ k. k.whole) (pick_look t a b) ∙ whole_true (is_plain_cond t && (is_plain a && is_plain b)) true (sym (ap (λ k. k.parts) (pick_look t a b)) ∙ h) refl;
})

-- ---- negations

not_twice : (p q r : Bool) → not p ≡ q → not q ≡ r → p ≡ r
not_twice true q r h g = ap not h ∙ g
not_twice false q r h g = ap not h ∙ g

pub negation_of_negation : (t u r : CCond) → t ≡ conds.Not u → r ≡ u → SettlesCond (cond_not t) r
negation_of_negation t u r i j = subst (SettlesCond (cond_not t)) (sym j) (subst (λ w. SettlesCond (cond_not w) u) (test.rolls-Not u ∙ sym i) (record {
  stands = record {
    truth = λ n v s z h. each_case not (truth_of (cond_not u) v) z _ (sym (l.cond_not_value v (cond_not u)) ∙ h)
        (λ q e g. each_case not (truth_of u v) q _ (sym (l.cond_not_value v u) ∙ e) (λ p f k. f ∙ ap Some (not_twice p q z k g)));
    names = λ n. subst IsTrue (l.cond_not_names u) (subst IsTrue (l.cond_not_names (cond_not u)) n);
    parts = let p = l.cond_not_parts (cond_not u) in let q = l.cond_not_parts u in omega (arith, p, q);
  };
  plain = λ h.
      let p : IsTrue (is_plain_cond (cond_not u)) = sym (ap (λ k. k.parts) (cond_not_look (cond_not u))) ∙ h in
      (both_true (is_plain_cond u) (not (is_complement (cond_look u).kind)) (sym (ap (λ k. k.whole) (cond_not_look u)) ∙ p)).0;
}))

pub negation_built : (t r : CCond) → ((u : CCond) → t ≡ conds.Not u → ⊥) → r ≡ cond_not t → SettlesCond (cond_not t) r
negation_built t r h i = subst (SettlesCond (cond_not t)) (sym i) (record {
  stands = cond_self (cond_not t);
  plain = λ n. ap (λ k. k.whole) (cond_not_look t) ∙ whole_true (is_plain_cond t) _ (sym (ap (λ k. k.parts) (cond_not_look t)) ∙ n) (positive_kind t h);
})
