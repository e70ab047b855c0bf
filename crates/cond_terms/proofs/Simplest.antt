-- Terms made simple keep their truth and grow no literals.
use Rattle.std.proofs.Common.{◌≡◌, ◌≢◌, ◌⊎◌, inl, inr, Bool, true, false, not, ◌&&◌, ◌||◌, refl, sym, ap, ◌∙◌, subst, arith}
use Rattle.std.proofs.lemmas.Bool.{false≢true}
use Rattle.cond_terms.specs.declared.term.Lit.{Lit}
use Rattle.cond_terms.specs.declared.term.Term as made
use Rattle.cond_terms.specs.declared.term.Term.{Term, Term-F, roll-Term}
use Rattle.cond_terms.specs.declared.term.Term.TheVariants as term
use Rattle.cond_terms.specs.Terms.{Valuation, lit_truth, term_truth, literals}
use Rattle.cond_terms.specs.Nesting.{nesting}
use Rattle.cond_terms.specs.Simple.{constant, turned_at, turned, AreUnlike, IsInner, literal, negated, both, either, IsSimple, told, joint, IsJoined, IsSimplified}
use Rattle.cond_terms.proofs.Induct.{TermCases, every_term}
use Rattle.cond_terms.proofs.Layers.{truth_layer, truth_true, truth_false, truth_lit, truth_not, truth_and, truth_or, literals_true, literals_false, literals_lit, literals_not, literals_and, literals_or}
use Rattle.cond_terms.proofs.Nested.{nesting_true, nesting_false, nesting_and, nesting_or}

-- constants
truth_constant : (b : Bool) (v : Valuation) → term_truth (constant b) v ≡ b
truth_constant true v = truth_true v
truth_constant false v = truth_false v

literals_constant : (b : Bool) → literals (constant b) ≡ 0
literals_constant true = literals_true
literals_constant false = literals_false

nesting_constant : (b : Bool) → nesting (constant b) ≡ 0
nesting_constant true = nesting_true
nesting_constant false = nesting_false

constant_simple : (b : Bool) → IsSimple (constant b)
constant_simple true = inl refl
constant_simple false = inr (inl refl)

-- tables of truth
decides_first : (all y : Bool) → joint all (not all) y ≡ not all
decides_first true y = refl
decides_first false true = refl
decides_first false false = refl

decides_second : (all x : Bool) → joint all x (not all) ≡ not all
decides_second true true = refl
decides_second true false = refl
decides_second false true = refl
decides_second false false = refl

adds_nothing_first : (all y : Bool) → joint all all y ≡ y
adds_nothing_first true y = refl
adds_nothing_first false y = refl

adds_nothing_second : (all x : Bool) → joint all x all ≡ x
adds_nothing_second true true = refl
adds_nothing_second true false = refl
adds_nothing_second false true = refl
adds_nothing_second false false = refl

joint_same : (all x : Bool) → joint all x x ≡ x
joint_same true true = refl
joint_same true false = refl
joint_same false true = refl
joint_same false false = refl

joint_opposite : (all x : Bool) → joint all x (not x) ≡ not all
joint_opposite true true = refl
joint_opposite true false = refl
joint_opposite false true = refl
joint_opposite false false = refl

told_and : (h p q : Bool) → joint h (told h p) (told h q) ≡ told h (p && q)
told_and true p q = refl
told_and false true q = refl
told_and false false q = refl

told_or : (h p q : Bool) → joint (not h) (told h p) (told h q) ≡ told h (p || q)
told_or true p q = refl
told_or false true q = refl
told_or false false q = refl

told_not : (h p : Bool) → told (not h) p ≡ told h (not p)
told_not true p = refl
told_not false true = refl
told_not false false = refl

told_true : (h : Bool) → h ≡ told h true
told_true true = refl
told_true false = refl

told_false : (h : Bool) → not h ≡ told h false
told_false true = refl
told_false false = refl

-- the term with its Nots pushed down, by its layer
turned_layer : (y : Term-F Term) (h : Bool) → turned (roll-Term y) h ≡ turned_at (made.map-Term Term (Bool → Term) turned y) h
turned_layer y h = ap (λ f. f h) (made.fold-roll-Term (Bool → Term) turned_at y)

pub turned_lit : (l : Lit) (h : Bool) → turned (term.Lit l) h ≡ turned_at (Term-F.Lit l) h
turned_lit l h = ap (λ t. turned t h) (sym (term.rolls-Lit l)) ∙ turned_layer (Term-F.Lit l) h

literal_turned : (l : Lit) (h : Bool) (v : Valuation) → term_truth (turned_at (Term-F.Lit l) h) v ≡ told h (lit_truth l v)
literal_turned l true v = truth_lit l v
literal_turned l false v = truth_not (term.Lit l) v ∙ ap not (truth_lit l v)

and_turned : (f g : Bool → Term) (x y : Valuation → Bool) → ((h : Bool) (v : Valuation) → term_truth (f h) v ≡ told h (x v)) → ((h : Bool) (v : Valuation) → term_truth (g h) v ≡ told h (y v))
    → (h : Bool) (v : Valuation) → term_truth (turned_at (Term-F.And f g) h) v ≡ told h (x v && y v)
and_turned f g x y p q true v = truth_and (f true) (g true) v ∙ ap (λ b. b && term_truth (g true) v) (p true v) ∙ ap (λ b. x v && b) (q true v)
and_turned f g x y p q false v =
    truth_or (f false) (g false) v ∙ ap (λ b. b || term_truth (g false) v) (p false v) ∙ ap (λ b. not (x v) || b) (q false v) ∙ told_and false (x v) (y v)

or_turned : (f g : Bool → Term) (x y : Valuation → Bool) → ((h : Bool) (v : Valuation) → term_truth (f h) v ≡ told h (x v)) → ((h : Bool) (v : Valuation) → term_truth (g h) v ≡ told h (y v))
    → (h : Bool) (v : Valuation) → term_truth (turned_at (Term-F.Or f g) h) v ≡ told h (x v || y v)
or_turned f g x y p q true v = truth_or (f true) (g true) v ∙ ap (λ b. b || term_truth (g true) v) (p true v) ∙ ap (λ b. x v || b) (q true v)
or_turned f g x y p q false v =
    truth_and (f false) (g false) v ∙ ap (λ b. b && term_truth (g false) v) (p false v) ∙ ap (λ b. not (x v) && b) (q false v) ∙ told_or false (x v) (y v)

turned_cases : TermCases (λ t. (h : Bool) (v : Valuation) → term_truth (turned t h) v ≡ told h (term_truth t v))
turned_cases = record {
  always = λ h v. ap (λ t. term_truth t v) (turned_layer Term-F.True h) ∙ truth_constant h v ∙ told_true h ∙ ap (told h) (sym (truth_layer Term-F.True v));
  never = λ h v. ap (λ t. term_truth t v) (turned_layer Term-F.False h) ∙ truth_constant (not h) v ∙ told_false h ∙ ap (told h) (sym (truth_layer Term-F.False v));
  lit = λ l h v. ap (λ t. term_truth t v) (turned_layer (Term-F.Lit l) h) ∙ literal_turned l h v ∙ ap (told h) (sym (truth_layer (Term-F.Lit l) v));
  not = λ t p h v. ap (λ t. term_truth t v) (turned_layer (Term-F.Not t) h) ∙ p (not h) v ∙ told_not h (term_truth t v) ∙ ap (told h) (sym (truth_layer (Term-F.Not t) v));
  both = λ s t p q h v. ap (λ t. term_truth t v) (turned_layer (Term-F.And s t) h) ∙ and_turned (turned s) (turned t) (term_truth s) (term_truth t) p q h v ∙ ap (told h) (sym (truth_layer (Term-F.And s t) v));
  either = λ s t p q h v. ap (λ t. term_truth t v) (turned_layer (Term-F.Or s t) h) ∙ or_turned (turned s) (turned t) (term_truth s) (term_truth t) p q h v ∙ ap (told h) (sym (truth_layer (Term-F.Or s t) v));
}

pub turned_truth : (t : Term) (h : Bool) (v : Valuation) → term_truth (turned t h) v ≡ told h (term_truth t v)
turned_truth = every_term turned_cases

-- the part that serves for both
pub first_serves : (all : Bool) (a b : Term) → (a ≡ constant (not all)) ⊎ ((b ≡ constant all) ⊎ (a ≡ b)) → IsJoined all a b a
first_serves all a b (inl e) = record {
  same_truth = λ v. let x : term_truth a v ≡ not all = ap (λ t. term_truth t v) e ∙ truth_constant (not all) v in
      x ∙ sym (decides_first all (term_truth b v)) ∙ ap (λ z. joint all z (term_truth b v)) (sym x);
  no_larger = omega arith;
  no_deeper = omega arith;
  simple = λ p q. p;
}
first_serves all a b (inr (inl e)) = record {
  same_truth = λ v. let y : term_truth b v ≡ all = ap (λ t. term_truth t v) e ∙ truth_constant all v in
      sym (adds_nothing_second all (term_truth a v)) ∙ ap (joint all (term_truth a v)) (sym y);
  no_larger = omega arith;
  no_deeper = omega arith;
  simple = λ p q. p;
}
first_serves all a b (inr (inr e)) = record {
  same_truth = λ v. sym (joint_same all (term_truth a v)) ∙ ap (λ t. joint all (term_truth a v) (term_truth t v)) e;
  no_larger = omega arith;
  no_deeper = omega arith;
  simple = λ p q. p;
}

pub second_serves : (all : Bool) (a b : Term) → (a ≡ constant all) ⊎ (b ≡ constant (not all)) → IsJoined all a b b
second_serves all a b (inl e) = record {
  same_truth = λ v. let x : term_truth a v ≡ all = ap (λ t. term_truth t v) e ∙ truth_constant all v in
      sym (adds_nothing_first all (term_truth b v)) ∙ ap (λ z. joint all z (term_truth b v)) (sym x);
  no_larger = omega arith;
  no_deeper = omega arith;
  simple = λ p q. q;
}
second_serves all a b (inr e) = record {
  same_truth = λ v. let y : term_truth b v ≡ not all = ap (λ t. term_truth t v) e ∙ truth_constant (not all) v in
      y ∙ sym (decides_second all (term_truth a v)) ∙ ap (joint all (term_truth a v)) (sym y);
  no_larger = omega arith;
  no_deeper = omega arith;
  simple = λ p q. q;
}

-- opposite parts make a constant
pub opposite : (all : Bool) (a b made : Term) → b ≡ turned a false → made ≡ constant (not all) → IsJoined all a b made
opposite all a b made e f = record {
  same_truth = λ v. ap (λ t. term_truth t v) f ∙ truth_constant (not all) v ∙ sym (joint_opposite all (term_truth a v)) ∙ ap (joint all (term_truth a v)) (sym (ap (λ t. term_truth t v) e ∙ turned_truth a false v));
  no_larger = omega (arith, ap literals f, literals_constant (not all));
  no_deeper = omega (arith, ap nesting f, nesting_constant (not all));
  simple = λ p q. subst IsSimple (sym f) (constant_simple (not all));
}

-- a simple term that is no constant
inner : (all : Bool) (t : Term) → t ≢ constant all → t ≢ constant (not all) → IsSimple t → IsInner t
inner true t n m (inl e) = absurd (n e)
inner false t n m (inl e) = absurd (m e)
inner true t n m (inr (inl e)) = absurd (m e)
inner false t n m (inr (inl e)) = absurd (n e)
inner all t n m (inr (inr h)) = h

-- parts that are to stand together
pub record StandTogether (all : Bool) (a b : Term) : Type 0 where
  pub not_first : (a ≡ constant (not all)) ⊎ ((b ≡ constant all) ⊎ (a ≡ b)) → ⊥
  pub not_second : (a ≡ constant all) ⊎ (b ≡ constant (not all)) → ⊥
  pub not_opposite : b ≡ turned a false → ⊥

-- a test that fails denies what it tests
denied : (r : Bool) (P : Type 0) → (P → r ≡ true) → r ≡ false → P → ⊥
denied r P h e p = false≢true (sym e ∙ h p)

pub together : (all : Bool) (a b : Term) (p q r : Bool)
    → ((a ≡ constant (not all)) ⊎ ((b ≡ constant all) ⊎ (a ≡ b)) → p ≡ true) → p ≡ false
    → ((a ≡ constant all) ⊎ (b ≡ constant (not all)) → q ≡ true) → q ≡ false
    → (b ≡ turned a false → r ≡ true) → r ≡ false → StandTogether all a b
together all a b p q r first no_first second no_second turn no_turn =
    record { not_first = denied p _ first no_first; not_second = denied q _ second no_second; not_opposite = denied r _ turn no_turn }

unlike : (all : Bool) (a b : Term) → StandTogether all a b → AreUnlike a b
unlike all a b s = record { different = λ e. s.not_first (inr (inr e)); not_opposite = s.not_opposite }

inner_first : (all : Bool) (a b : Term) → StandTogether all a b → IsSimple a → IsInner a
inner_first all a b s p = inner all a (λ e. s.not_second (inl e)) (λ e. s.not_first (inl e)) p

inner_second : (all : Bool) (a b : Term) → StandTogether all a b → IsSimple b → IsInner b
inner_second all a b s p = inner all b (λ e. s.not_first (inr (inl e))) (λ e. s.not_second (inr e)) p

pub stands_as_and : (all : Bool) (a b made : Term) → StandTogether all a b → all ≡ true → made ≡ term.And a b → IsJoined all a b made
stands_as_and all a b made s e f = record {
  same_truth = λ v. ap (λ t. term_truth t v) f ∙ truth_and a b v ∙ ap (λ h. joint h (term_truth a v) (term_truth b v)) (sym e);
  no_larger = omega (arith, ap literals f, literals_and a b);
  no_deeper = omega (arith, ap nesting f, nesting_and a b);
  simple = λ p q. inr (inr (both a b f (unlike all a b s) (inner_first all a b s p) (inner_second all a b s q)));
}

pub stands_as_or : (all : Bool) (a b made : Term) → StandTogether all a b → all ≡ false → made ≡ term.Or a b → IsJoined all a b made
stands_as_or all a b made s e f = record {
  same_truth = λ v. ap (λ t. term_truth t v) f ∙ truth_or a b v ∙ ap (λ h. joint h (term_truth a v) (term_truth b v)) (sym e);
  no_larger = omega (arith, ap literals f, literals_or a b);
  no_deeper = omega (arith, ap nesting f, nesting_or a b);
  simple = λ p q. inr (inr (either a b f (unlike all a b s) (inner_first all a b s p) (inner_second all a b s q)));
}

-- each variant made simple
pub simple_true : (t : Term) (h : Bool) (m : Term) → t ≡ term.True → m ≡ constant h → IsSimplified t h m
simple_true t h m e f = record {
  same_truth = λ v. ap (λ x. term_truth x v) f ∙ truth_constant h v ∙ told_true h ∙ ap (told h) (sym (ap (λ x. term_truth x v) e ∙ truth_true v));
  no_larger = omega (arith, ap literals f, literals_constant h);
  simple = subst IsSimple (sym f) (constant_simple h);
}

pub simple_false : (t : Term) (h : Bool) (m : Term) → t ≡ term.False → m ≡ constant (not h) → IsSimplified t h m
simple_false t h m e f = record {
  same_truth = λ v. ap (λ x. term_truth x v) f ∙ truth_constant (not h) v ∙ told_false h ∙ ap (told h) (sym (ap (λ x. term_truth x v) e ∙ truth_false v));
  no_larger = omega (arith, ap literals f, literals_constant (not h));
  simple = subst IsSimple (sym f) (constant_simple (not h));
}

literal_literals : (l : Lit) (h : Bool) → literals (turned_at (Term-F.Lit l) h) ≡ 1
literal_literals l true = literals_lit l
literal_literals l false = literals_not (term.Lit l) ∙ literals_lit l

literal_simple : (l : Lit) (h : Bool) → IsInner (turned_at (Term-F.Lit l) h)
literal_simple l true = literal l refl
literal_simple l false = negated l refl

pub simple_literal : (t : Term) (l : Lit) (h : Bool) (m : Term) → t ≡ term.Lit l → m ≡ turned (term.Lit l) h → IsSimplified t h m
simple_literal t l h m e f = record {
  same_truth = λ v. ap (λ x. term_truth x v) f ∙ turned_truth (term.Lit l) h v ∙ ap (λ x. told h (term_truth x v)) (sym e);
  no_larger = omega (arith, ap literals (f ∙ turned_lit l h), literal_literals l h, ap literals e, literals_lit l);
  simple = inr (inr (subst IsInner (sym (f ∙ turned_lit l h)) (literal_simple l h)));
}

pub simple_not : (t a : Term) (h : Bool) (m : Term) → t ≡ term.Not a → IsSimplified a (not h) m → IsSimplified t h m
simple_not t a h m e s = record {
  same_truth = λ v. s.same_truth v ∙ told_not h (term_truth a v) ∙ ap (told h) (sym (ap (λ x. term_truth x v) e ∙ truth_not a v));
  no_larger = omega (arith, s.no_larger, ap literals e, literals_not a);
  simple = s.simple;
}

pub simple_and : (t a b : Term) (h : Bool) (x y m : Term) → t ≡ term.And a b → IsSimplified a h x → IsSimplified b h y → IsJoined h x y m → IsSimplified t h m
simple_and t a b h x y m e p q j = record {
  same_truth = λ v. j.same_truth v ∙ ap (λ z. joint h z (term_truth y v)) (p.same_truth v) ∙ ap (joint h (told h (term_truth a v))) (q.same_truth v)
      ∙ told_and h (term_truth a v) (term_truth b v) ∙ ap (told h) (sym (ap (λ x. term_truth x v) e ∙ truth_and a b v));
  no_larger = omega (arith, p.no_larger, q.no_larger, j.no_larger, ap literals e, literals_and a b);
  simple = j.simple p.simple q.simple;
}

pub simple_or : (t a b : Term) (h : Bool) (x y m : Term) → t ≡ term.Or a b → IsSimplified a h x → IsSimplified b h y → IsJoined (not h) x y m → IsSimplified t h m
simple_or t a b h x y m e p q j = record {
  same_truth = λ v. j.same_truth v ∙ ap (λ z. joint (not h) z (term_truth y v)) (p.same_truth v) ∙ ap (joint (not h) (told h (term_truth a v))) (q.same_truth v)
      ∙ told_or h (term_truth a v) (term_truth b v) ∙ ap (told h) (sym (ap (λ x. term_truth x v) e ∙ truth_or a b v));
  no_larger = omega (arith, p.no_larger, q.no_larger, j.no_larger, ap literals e, literals_or a b);
  simple = j.simple p.simple q.simple;
}
