-- The opposite of a Cond.
use Rattle.std.proofs.Common.{◌≡◌, ℕ, nat_eq, nat_lt, nat_le, Bool, true, false, not, ◌&&◌, Option, Some, None, refl, sym, ap, ◌∙◌, subst, rules, arith}
use Rattle.std.specs.Prelude.{Result, Ok, Err, IfOk}
use Rattle.run_parts.specs.World.{Names}
use Rattle.c_syntax.specs.declared.syntax.CCmp.{CCmp}
use Rattle.c_syntax.specs.declared.syntax.CCmp.TheVariants.{Eq, Ne, Lt, Le}
use Rattle.c_syntax.specs.declared.syntax.CExpr.{CExpr}
use Rattle.c_syntax.specs.declared.syntax.CCond as c
use Rattle.c_syntax.specs.declared.syntax.CCond.{CCond, CCond-F, roll-CCond}
use Rattle.c_syntax.specs.declared.syntax.CFun.{CFun}
use Rattle.c_syntax.specs.Words.{cmp_of}
use Rattle.c_syntax.specs.Value.{Truth, Word, each, both, truth_at, word_of, truth_of}
use Rattle.c_syntax.specs.Formed.{names_word}
use Rattle.c_syntax.proofs.Layers.{truth_of_layer, names_cond_layer}
use Rattle.c_words.specs.Built as built
use Rattle.c_conds.specs.Placed.{IsOpposite}
use Rattle.c_locals.proofs.Bools.{and_first, and_second, and_both}

pub truth_step : (y : CCond-F CCond CExpr) (v : Names) → truth_of (roll-CCond y) v ≡ truth_at (c.map-CCond CCond CExpr Truth Word truth_of word_of y) v
truth_step y v = ap (λ g. g v) (truth_of_layer y)

-- what a comparison gives
pub compared : CCmp → Option ℕ → Option ℕ → Option Bool
compared op o p = both (λ x y. Some (cmp_of op x y)) o p

not_not : (b : Bool) → b ≡ not (not b)
not_not true = refl
not_not false = refl

not_less : (x y : ℕ) → nat_le y x ≡ not (nat_lt x y)
not_less x y = search (rules, arith)

not_most : (x y : ℕ) → nat_lt y x ≡ not (nat_le x y)
not_most x y = search (rules, arith)

unequal : (o p : Option ℕ) → compared Ne o p ≡ each not (compared Eq o p)
unfolding compared
unequal None p = refl
unequal (Some x) None = refl
unequal (Some x) (Some y) = refl

equal : (o p : Option ℕ) → compared Eq o p ≡ each not (compared Ne o p)
unfolding compared
equal None p = refl
equal (Some x) None = refl
equal (Some x) (Some y) = ap (λ b. Some b) (not_not (nat_eq x y))

at_least : (o p : Option ℕ) → compared Le p o ≡ each not (compared Lt o p)
unfolding compared
at_least None None = refl
at_least None (Some y) = refl
at_least (Some x) None = refl
at_least (Some x) (Some y) = ap (λ b. Some b) (not_less x y)

more : (o p : Option ℕ) → compared Lt p o ≡ each not (compared Le o p)
unfolding compared
more None None = refl
more None (Some y) = refl
more (Some x) None = refl
more (Some x) (Some y) = ap (λ b. Some b) (not_most x y)

-- a comparison and another of the same Words
cmp_opposite : (op oq : CCmp) (a b a' b' : CExpr)
    → ((v : Names) → compared oq (word_of a' v) (word_of b' v) ≡ each not (compared op (word_of a v) (word_of b v)))
    → ((f : CFun) → (names_word f a && names_word f b) ≡ true → (names_word f a' && names_word f b') ≡ true)
    → IsOpposite (built.cmp op a b) (built.cmp oq a' b')
unfolding compared
cmp_opposite op oq a b a' b' h k = record {
  truth = λ v. truth_step (CCond-F.Cmp oq a' b') v ∙ h v ∙ sym (ap (each not) (truth_step (CCond-F.Cmp op a b) v));
  names = λ f e. names_cond_layer f (CCond-F.Cmp oq a' b') ∙ k f (sym (names_cond_layer f (CCond-F.Cmp op a b)) ∙ e);
}

pub opposite_eq : (a b : CExpr) → IsOpposite (built.cmp Eq a b) (built.cmp Ne a b)
opposite_eq a b = cmp_opposite Eq Ne a b a b (λ v. unequal (word_of a v) (word_of b v)) (λ f e. e)

pub opposite_ne : (a b : CExpr) → IsOpposite (built.cmp Ne a b) (built.cmp Eq a b)
opposite_ne a b = cmp_opposite Ne Eq a b a b (λ v. equal (word_of a v) (word_of b v)) (λ f e. e)

swapped : (x y : Bool) → (x && y) ≡ true → (y && x) ≡ true
swapped x y e = and_both y x (and_second x y e) (and_first x y e)

pub opposite_lt : (a b : CExpr) → IsOpposite (built.cmp Lt a b) (built.cmp Le b a)
opposite_lt a b = cmp_opposite Lt Le a b b a (λ v. at_least (word_of a v) (word_of b v)) (λ f e. swapped (names_word f a) (names_word f b) e)

pub opposite_le : (a b : CExpr) → IsOpposite (built.cmp Le a b) (built.cmp Lt b a)
opposite_le a b = cmp_opposite Le Lt a b b a (λ v. more (word_of a v) (word_of b v)) (λ f e. swapped (names_word f a) (names_word f b) e)

each_twice : (o : Option Bool) → o ≡ each not (each not o)
each_twice None = refl
each_twice (Some b) = ap (λ x. Some x) (not_not b)

pub opposite_not : (t : CCond) → IsOpposite (built.cond_not t) t
opposite_not t = record {
  truth = λ v. each_twice (truth_of t v) ∙ sym (ap (each not) (truth_step (CCond-F.«CCond::Not» t) v));
  names = λ f e. sym (names_cond_layer f (CCond-F.«CCond::Not» t)) ∙ e;
}

pub opposite_any : (t : CCond) → IsOpposite t (built.cond_not t)
opposite_any t = record {
  truth = λ v. truth_step (CCond-F.«CCond::Not» t) v;
  names = λ f e. names_cond_layer f (CCond-F.«CCond::Not» t) ∙ e;
}

-- what is known of a result
pub if_ok : {A E : Type 0} (P Q : A → Type 0) (r : Result A E) → ((x : A) → P x → Q x) → IfOk r P → IfOk r Q
if_ok P Q (Ok x) h k = h x k
if_ok P Q (Err e) h k = k

pub opposite_if : {E : Type 0} (t s : CCond) (r : Result CCond E) → t ≡ s → IfOk r (λ u. u ≡ built.cond_not s) → IfOk r (λ u. IsOpposite t u)
opposite_if t s r e = if_ok (λ u. u ≡ built.cond_not s) (λ u. IsOpposite t u) r
    (λ u h. subst (IsOpposite t) (sym h) (subst (λ q. IsOpposite q (built.cond_not s)) (sym e) (opposite_any s)))
