-- What the trees of a plan do.
use Rattle.std.proofs.Common.{◌≡◌, ℕ, nat_eq, Bool, true, false, not, ◌&&◌, ◌||◌, if◌then◌else◌, List, [], ◌∷◌, ◌++◌, map, Option, Some, None, refl, sym, ap, ◌∙◌}
use Rattle.std.specs.Prelude.{IsTrue}
use Rattle.std.proofs.Math.Path.{fun_ext}
use Rattle.dream_words.specs.declared.machine.Name.{Name}
use Rattle.dream_words.specs.declared.machine.Name.TheVariants.{B, S}
use Rattle.dream_words.specs.declared.outcome.Outcome.{Outcome}
use Rattle.dream_words.specs.Words.{bit_of}
use Rattle.run_parts.specs.Parts.{Run, Ends, Goes, Past, Broke, Over, Stuck, skip, on, after, seq, in_turn, decide, choose}
use Rattle.run_parts.specs.Steps.{done, having}
use Rattle.run_parts.specs.World.{World}
use Rattle.run_parts.specs.Effects.{set_word, setting}
use Rattle.c_syntax.specs.declared.syntax.CCond.{CCond, CCond-F}
use Rattle.c_syntax.specs.declared.syntax.CExpr.{CExpr-F}
use Rattle.c_syntax.specs.declared.syntax.CCmp.TheVariants as cmp
use Rattle.c_syntax.specs.Words.{cmp_of}
use Rattle.c_syntax.specs.Value.{each, both, picked}
use Rattle.c_syntax.specs.Run.{Part, word_in, holds}
use Rattle.c_syntax.proofs.Layers.{word_of_layer, truth_of_layer}
use Rattle.c_words.specs.Built as built
use Rattle.cond_terms.specs.declared.term.Lit.TheVariants as lit
use Rattle.cond_terms.specs.declared.term.Term.{Term, Term-F, roll-Term}
use Rattle.cond_terms.proofs.Layers.{truth_layer}
use Rattle.guarded.specs.declared.tree.SetTo.{SetTo}
use Rattle.guarded.specs.declared.tree.SetTo.TheVariants as to
use Rattle.guarded.specs.declared.tree.Tree.{Tree, Tree-F}
use Rattle.guarded.specs.Run.{term_in, term_holds, word_to, tree_does}
use Rattle.guarded.proofs.Layers.{does_layer}
use Rattle.regions.proofs.Standing.{number_is}
use Rattle.micro_ir.proofs.Values.{both_true}
use Rattle.regions.proofs.Blocks.{num_in, pick_in}
use Rattle.flow_plans.specs.declared.plan.Value.{Value}
use Rattle.flow_plans.specs.Known.{is_added, is_test, are_tests}
use Rattle.flow_plans.specs.Emitted.{gathered, number_of, has_value, or_any, any_of, two_ways, test_tree, sets, way_word, picked_word}
use Rattle.flow_plans.proofs.Adding.{word_at}
use Rattle.flow_plans.proofs.Holding.{is_any}

-- ---- one after another

-- trees one after another
abbrev pub all_do : List Tree → Part
all_do ts = in_turn (map tree_does ts)

same : (a b : Part) → ((m : ℕ) (w : World) → a m w ≡ b m w) → a ≡ b
same a b h = fun_ext (λ m. fun_ext (λ w. h m w))

alone : (r : Run World Outcome) → on r (after skip) ≡ r
alone (Ends (Past t) f) = refl
alone (Ends (Broke t) f) = refl
alone (Ends (Over o) f) = refl
alone (Ends Stuck f) = refl
alone (Goes t) = refl

pub one_does : (t : Tree) → all_do (t ∷ []) ≡ tree_does t
one_does t = same _ _ (λ m w. alone (tree_does t m w))

pub gathered_is : (ts : List Tree) → tree_does (gathered ts) ≡ all_do ts
gathered_is [] = does_layer (Tree-F.Seq [])
gathered_is (t ∷ []) = sym (one_does t)
gathered_is (t ∷ u ∷ ts) = does_layer (Tree-F.Seq (t ∷ u ∷ ts))

on_twice : (a b : Part) (r : Run World Outcome) → on r (after (seq a b)) ≡ on (on r (after a)) (after b)
on_twice a b (Ends (Past t) f) = refl
on_twice a b (Ends (Broke t) f) = refl
on_twice a b (Ends (Over o) f) = refl
on_twice a b (Ends Stuck f) = refl
on_twice a b (Goes t) = refl

pub both_do : (ts us : List Tree) → all_do (ts ++ us) ≡ seq (all_do ts) (all_do us)
both_do [] us = refl
both_do (t ∷ ts) us = ap (seq (tree_does t)) (both_do ts us) ∙ same _ _ (λ m w. on_twice (all_do ts) (all_do us) (tree_does t m w))

-- ---- tests

other_way : (b : Bool) (p q : Part) (m : ℕ) (w : World) → decide (Some (not b)) p q m w ≡ decide (Some b) q p m w
other_way true p q m w = refl
other_way false p q m w = refl

pub two_ways_is : (t : Term) (first second : List Tree) → tree_does (two_ways t first second) ≡ choose (term_holds t) (all_do first) (all_do second)
two_ways_is t [] second =
    does_layer (Tree-F.If (roll-Term (Term-F.Not t)) (gathered second) None)
    ∙ ap (λ p. choose (term_holds (roll-Term (Term-F.Not t))) p skip) (gathered_is second)
    ∙ same _ _ (λ m w. ap (λ b. decide (Some b) (all_do second) skip m w) (truth_layer (Term-F.Not t) (λ v. w.names (B v))) ∙ other_way (term_in t w) (all_do second) skip m w)
two_ways_is t (y ∷ ys) [] =
    does_layer (Tree-F.If t (gathered (y ∷ ys)) None) ∙ ap (λ p. choose (term_holds t) p skip) (gathered_is (y ∷ ys))
two_ways_is t (y ∷ ys) (n ∷ ns) =
    does_layer (Tree-F.If t (gathered (y ∷ ys)) (Some (gathered (n ∷ ns))))
    ∙ ap (λ p. choose (term_holds t) p (tree_does (gathered (n ∷ ns)))) (gathered_is (y ∷ ys))
    ∙ ap (λ p. choose (term_holds t) (all_do (y ∷ ys)) p) (gathered_is (n ∷ ns))

number_has : (n : Name) (w : World) → is_test n ≡ true → w.names (B (number_of n)) ≡ word_at n w
number_has (B k) w h = refl
number_has n w h = absurd (let z : ⊥ = cc in z)

has_is : (a : Value) (w : World) → is_test a.name ≡ true → term_in (has_value a) w ≡ nat_eq (word_at a.name w) a.value
has_is a w h = truth_layer (Term-F.Lit (lit.Eq (number_of a.name) a.value)) (λ v. w.names (B v)) ∙ ap (λ x. nat_eq x a.value) (number_has a.name w h)

or_again : (a b c : Bool) → ((a || b) || c) ≡ (a || (b || c))
or_again true b c = refl
or_again false b c = refl

or_any_is : (t : Term) (c : List Value) (w : World) → are_tests c ≡ true → term_in (or_any t c) w ≡ (term_in t w || is_any c w)
or_any_is t [] w h = sym (or_none (term_in t w))
  where
    or_none : (b : Bool) → (b || false) ≡ b
    or_none true = refl
    or_none false = refl
or_any_is t (a ∷ rest) w h =
    let p = both_true (is_test a.name) (are_tests rest) h in
    or_any_is (roll-Term (Term-F.Or t (has_value a))) rest w p.1
    ∙ ap (λ b. b || is_any rest w) (truth_layer (Term-F.Or t (has_value a)) (λ v. w.names (B v)))
    ∙ ap (λ b. (term_in t w || b) || is_any rest w) (has_is a w p.0)
    ∙ or_again (term_in t w) (nat_eq (word_at a.name w) a.value) (is_any rest w)

any_is : (c : List Value) (w : World) → are_tests c ≡ true → term_in (any_of c) w ≡ is_any c w
any_is [] w h = truth_layer Term-F.False (λ v. w.names (B v))
any_is (a ∷ rest) w h =
    let p = both_true (is_test a.name) (are_tests rest) h in
    or_any_is (has_value a) rest w p.1 ∙ ap (λ b. b || is_any rest w) (has_is a w p.0)

-- a test of values as a test of worlds
abbrev pub any_holds : List Value → World → Option Bool
any_holds c w = Some (is_any c w)

by_any : (c : List Value) (p q : Part) → are_tests c ≡ true → choose (term_holds (any_of c)) p q ≡ choose (any_holds c) p q
by_any c p q h = same _ _ (λ m w. ap (λ b. decide (Some b) p q m w) (any_is c w h))

-- that one variable is 0
by_zero : (a : Value) (p q : Part) → is_test a.name ≡ true → a.value ≡ 0 → choose (term_holds (roll-Term (Term-F.Lit (lit.Bool (number_of a.name))))) q p ≡ choose (any_holds (a ∷ [])) p q
by_zero a p q h e = same _ _ (λ m w.
    ap (λ b. decide (Some b) q p m w) (truth_layer (Term-F.Lit (lit.Bool (number_of a.name))) (λ v. w.names (B v)))
    ∙ ap (λ x. decide (Some (not (nat_eq x 0))) q p m w) (number_has a.name w h)
    ∙ other_way (nat_eq (word_at a.name w) 0) q p m w
    ∙ ap (λ x. decide (Some (nat_eq (word_at a.name w) x)) p q m w) (sym e)
    ∙ ap (λ b. decide (Some b) p q m w) (or_last (nat_eq (word_at a.name w) a.value)))
  where
    or_last : (b : Bool) → b ≡ (b || false)
    or_last true = refl
    or_last false = refl

one_test_is : (a : Value) (first second : List Tree) (b : Bool) → nat_eq a.value 0 ≡ b → is_test a.name ≡ true
    → tree_does (if b then two_ways (roll-Term (Term-F.Lit (lit.Bool (number_of a.name)))) second first else two_ways (has_value a) first second) ≡ choose (any_holds (a ∷ [])) (all_do first) (all_do second)
one_test_is a first second true e h =
    two_ways_is (roll-Term (Term-F.Lit (lit.Bool (number_of a.name)))) second first ∙ by_zero a (all_do first) (all_do second) h (number_is a.value 0 e)
one_test_is a first second false e h =
    two_ways_is (has_value a) first second ∙ by_any (a ∷ []) (all_do first) (all_do second) (ap (λ b. b && true) h)

pub test_is : (c : List Value) (first second : List Tree) → are_tests c ≡ true → tree_does (test_tree c first second) ≡ choose (any_holds c) (all_do first) (all_do second)
test_is [] first second h = two_ways_is (any_of []) first second ∙ by_any [] (all_do first) (all_do second) h
test_is (a ∷ []) first second h = one_test_is a first second (nat_eq a.value 0) refl (both_true (is_test a.name) true h).0
test_is (a ∷ b ∷ rest) first second h = two_ways_is (any_of (a ∷ b ∷ rest)) first second ∙ by_any (a ∷ b ∷ rest) (all_do first) (all_do second) h

-- ---- variables that are set

-- what setting a variable does
pub sets_is : (v : Name) (to : SetTo) (m : ℕ) (w : World) → tree_does (sets v to) m w ≡ done (having (word_to to w) (λ x. setting v x w)) m
sets_is v to m w = ap (λ (a : Part). a m w) (does_layer (Tree-F.Set v to))

pub sets_does : (v : Name) (to : SetTo) (x m : ℕ) (w : World) → word_to to w ≡ Some x → tree_does (sets v to) m w ≡ Ends (Past (set_word v x w)) m
sets_does v to x m w h = sets_is v to m w ∙ ap (λ (o : Option ℕ). done (having o (λ y. setting v y w)) m) h

bits : (o : Option Bool) → each bit_of o ≡ picked o (Some 1) (Some 0)
bits None = refl
bits (Some true) = refl
bits (Some false) = refl

pub way_word_is : (t : CCond) (a b : ℕ) (w : World) → word_to (way_word t a b) w ≡ picked (holds t w) (Some a) (Some b)
way_word_is t a b w = at (nat_eq a 1 && nat_eq b 0) refl
  where
    at : (c : Bool) → (nat_eq a 1 && nat_eq b 0) ≡ c → word_to (if c then to.Cond t else to.Expr (built.pick t (built.num a) (built.num b))) w ≡ picked (holds t w) (Some a) (Some b)
    at true e =
        let p = both_true (nat_eq a 1) (nat_eq b 0) e in
        bits (holds t w) ∙ ap (λ x. picked (holds t w) (Some x) (Some 0)) (sym (number_is a 1 p.0)) ∙ ap (λ x. picked (holds t w) (Some a) (Some x)) (sym (number_is b 0 p.1))
    at false e =
        pick_in t (built.num a) (built.num b) w
        ∙ ap (λ o. picked (holds t w) o (word_in (built.num b) w)) (num_in a w)
        ∙ ap (λ o. picked (holds t w) (Some a) o) (num_in b w)

name_in : (n : Name) (w : World) → word_in (built.name n) w ≡ Some (w.names n)
name_in n w = ap (λ g. g w.names) (word_of_layer (CExpr-F.Name n))

added_word : (n : Name) (w : World) → is_added n ≡ true → w.names n ≡ word_at n w
added_word (B k) w h = refl
added_word (S k) w h = refl
added_word n w h = absurd (let z : ⊥ = cc in z)

is_in : (u : Value) (w : World) → is_added u.name ≡ true → holds (built.cmp cmp.Eq (built.name u.name) (built.num u.value)) w ≡ Some (nat_eq (word_at u.name w) u.value)
is_in u w h =
    ap (λ g. g w.names) (truth_of_layer (CCond-F.Cmp cmp.Eq (built.name u.name) (built.num u.value)))
    ∙ ap (λ o. both (λ x y. Some (cmp_of cmp.Eq x y)) o (word_in (built.num u.value) w)) (name_in u.name w ∙ ap (λ (x : ℕ). Some x) (added_word u.name w h))
    ∙ ap (λ o. both (λ x y. Some (cmp_of cmp.Eq x y)) (Some (word_at u.name w)) o) (num_in u.value w)

pub picked_word_is : (u : Value) (a b : ℕ) (w : World) → is_added u.name ≡ true → word_to (picked_word u a b) w ≡ Some (if nat_eq (word_at u.name w) u.value then a else b)
picked_word_is u a b w h =
    pick_in (built.cmp cmp.Eq (built.name u.name) (built.num u.value)) (built.num a) (built.num b) w
    ∙ ap (λ t. picked t (word_in (built.num a) w) (word_in (built.num b) w)) (is_in u w h)
    ∙ at (nat_eq (word_at u.name w) u.value)
  where
    at : (r : Bool) → picked (Some r) (word_in (built.num a) w) (word_in (built.num b) w) ≡ Some (if r then a else b)
    at true = num_in a w
    at false = num_in b w
