-- The truth and the literals of a term by its parts.
use Rattle.std.proofs.Common.{◌≡◌, ℕ, ◌+◌, Bool, true, false, not, ◌&&◌, ◌||◌, nat_eq, refl, sym, ap, ◌∙◌, arith}
use Rattle.std.proofs.lemmas.Bool.Decides.{nat_tests}
use Rattle.cond_terms.specs.declared.term.Lit.TheVariants as lit
use Rattle.cond_terms.specs.declared.term.Lit.{Lit}
use Rattle.cond_terms.specs.declared.term.Term as term
use Rattle.cond_terms.specs.declared.term.Term.TheVariants as made
use Rattle.cond_terms.specs.declared.term.Term.{Term, Term-F, roll-Term}
use Rattle.cond_terms.specs.Terms.{Valuation, lit_truth, truth_at, term_truth, literals_at, literals}
use Rattle.cond_terms.specs.Laws.{TermsMeanSo}

-- the truth of a term is that of its layer
pub truth_layer : (y : Term-F Term) (v : Valuation) → term_truth (roll-Term y) v ≡ truth_at (term.map-Term Term (Valuation → Bool) term_truth y) v
truth_layer y v = ap (λ f. f v) (term.fold-roll-Term (Valuation → Bool) truth_at y)

-- the literals of a term are those of its layer
pub literals_layer : (y : Term-F Term) → literals (roll-Term y) ≡ literals_at (term.map-Term Term ℕ literals y)
literals_layer y = term.fold-roll-Term ℕ literals_at y

-- the truth of each variant
pub truth_true : (v : Valuation) → term_truth made.True v ≡ true
truth_true v = ap (λ t. term_truth t v) (sym made.rolls-True) ∙ truth_layer Term-F.True v

pub truth_false : (v : Valuation) → term_truth made.False v ≡ false
truth_false v = ap (λ t. term_truth t v) (sym made.rolls-False) ∙ truth_layer Term-F.False v

pub truth_lit : (l : Lit) (v : Valuation) → term_truth (made.Lit l) v ≡ lit_truth l v
truth_lit l v = ap (λ t. term_truth t v) (sym (made.rolls-Lit l)) ∙ truth_layer (Term-F.Lit l) v

pub truth_not : (a : Term) (v : Valuation) → term_truth (made.Not a) v ≡ not (term_truth a v)
truth_not a v = ap (λ t. term_truth t v) (sym (made.rolls-Not a)) ∙ truth_layer (Term-F.Not a) v

pub truth_and : (a b : Term) (v : Valuation) → term_truth (made.And a b) v ≡ (term_truth a v && term_truth b v)
truth_and a b v = ap (λ t. term_truth t v) (sym (made.rolls-And a b)) ∙ truth_layer (Term-F.And a b) v

pub truth_or : (a b : Term) (v : Valuation) → term_truth (made.Or a b) v ≡ (term_truth a v || term_truth b v)
truth_or a b v = ap (λ t. term_truth t v) (sym (made.rolls-Or a b)) ∙ truth_layer (Term-F.Or a b) v

-- the literals of each variant
pub literals_true : literals made.True ≡ 0
literals_true = ap literals (sym made.rolls-True) ∙ literals_layer Term-F.True

pub literals_false : literals made.False ≡ 0
literals_false = ap literals (sym made.rolls-False) ∙ literals_layer Term-F.False

pub literals_lit : (l : Lit) → literals (made.Lit l) ≡ 1
literals_lit l = ap literals (sym (made.rolls-Lit l)) ∙ literals_layer (Term-F.Lit l)

pub literals_not : (a : Term) → literals (made.Not a) ≡ literals a
literals_not a = ap literals (sym (made.rolls-Not a)) ∙ literals_layer (Term-F.Not a)

pub literals_and : (a b : Term) → literals (made.And a b) ≡ literals a + literals b
literals_and a b = ap literals (sym (made.rolls-And a b)) ∙ literals_layer (Term-F.And a b)

pub literals_or : (a b : Term) → literals (made.Or a b) ≡ literals a + literals b
literals_or a b = ap literals (sym (made.rolls-Or a b)) ∙ literals_layer (Term-F.Or a b)

-- tests of numbers
unset : (x : ℕ) → x ≡ 0 → not (nat_eq x 0) ≡ false
unset x h = grind (arith, nat_tests)

equal : (x : ℕ) → nat_eq x x ≡ true
equal x = grind (arith, nat_tests)

-- tables of truth
and_false : (a b : Bool) → b ≡ false → (a && b) ≡ false
and_false true b h = h
and_false false b h = refl

or_true : (a b : Bool) → b ≡ true → (a || b) ≡ true
or_true true b h = refl
or_true false b h = h

de_morgan : (a b : Bool) → not (a && b) ≡ (not a || not b)
de_morgan true b = refl
de_morgan false b = refl

turned : (s t : Term) (v : Valuation) → term_truth (roll-Term (Term-F.Not (roll-Term (Term-F.And s t)))) v
    ≡ term_truth (roll-Term (Term-F.Or (roll-Term (Term-F.Not s)) (roll-Term (Term-F.Not t)))) v
turned s t v =
    truth_layer (Term-F.Not (roll-Term (Term-F.And s t))) v
    ∙ ap not (truth_layer (Term-F.And s t) v)
    ∙ de_morgan (term_truth s v) (term_truth t v)
    ∙ ap (λ b. b || not (term_truth t v)) (sym (truth_layer (Term-F.Not s) v))
    ∙ ap (λ b. term_truth (roll-Term (Term-F.Not s)) v || b) (sym (truth_layer (Term-F.Not t) v))
    ∙ sym (truth_layer (Term-F.Or (roll-Term (Term-F.Not s)) (roll-Term (Term-F.Not t))) v)

pub terms_mean : TermsMeanSo
terms_mean = record {
  zero_is_unset = λ v x h. truth_layer (Term-F.Lit (lit.Bool x)) v ∙ unset (v x) h;
  equal_to_itself = λ v x. truth_layer (Term-F.Lit (lit.Eq x (v x))) v ∙ equal (v x);
  not_turns = λ t v. truth_layer (Term-F.Not t) v;
  and_is_false = λ s t v h. truth_layer (Term-F.And s t) v ∙ and_false (term_truth s v) (term_truth t v) h;
  or_is_true = λ s t v h. truth_layer (Term-F.Or s t) v ∙ or_true (term_truth s v) (term_truth t v) h;
  turned_and = turned;
  constants_are_bare = literals_layer Term-F.True;
}
