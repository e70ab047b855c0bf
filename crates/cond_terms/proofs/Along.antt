-- The Or of the ways along some edges.
use Rattle.std.proofs.Common.{◌≡◌, ℕ, zero, suc, ◌+◌, ◌-◌, ◌/◌, ◌^◌, ◌<◌, ◌≤◌, ◌∙◌, ◌⊎◌, inl, inr, ⊎_elim, sym, ap, subst, refl, arith, Bool, true, false, ◌&&◌, ◌||◌, List, [], ◌∷◌, length, get_or, take, drop, Some, Result, Ok, Err, IfOk, length-drop}
use Rattle.std.specs.Prelude.{◌==◌, Contains, slice_get, slice_index}
use Rattle.std.proofs.lemmas.Option.{slice_get_read}
use Rattle.std.proofs.Math.Nat.{pow-suc}
use Rattle.std.proofs.lemmas.Bool.{false≢true}
use Rattle.std.proofs.lemmas.Bool.Decides.{nat_tests}
use Rattle.std.proofs.lemmas.List.{length-take, take-append-drop, take_all}
use Rattle.std.proofs.lemmas.List.Elements.{Contains-append_cases, Contains-append_left, Contains-append_right, Contains-get_or, All-contains}
use Rattle.cond_terms.specs.declared.term.Term.{Term}
use Rattle.cond_terms.specs.declared.guards.Edge.{Edge}
use Rattle.cond_terms.specs.declared.guards.Guard.{Guard}
use Rattle.cond_terms.specs.declared.guards.Guard.TheVariants as guard
use Rattle.cond_terms.specs.Terms.{Valuation, term_truth, literals}
use Rattle.cond_terms.specs.declared.term.Term.TheVariants as term
use Rattle.cond_terms.specs.Simple.{IsSimple, IsJoined}
use Rattle.cond_terms.proofs.Layers.{truth_false, truth_and, literals_and}
use Rattle.cond_terms.proofs.Nested.{nesting_false}
use Rattle.cond_terms.proofs.Shallow.{simple_is_shallow}
use Rattle.cond_terms.specs.Guards.{read_of}
use Rattle.cond_terms.specs.Reaching.{HaveSources, ComesAlong, IsWay, IsAnyWay, IsShortened}
use Rattle.cond_terms.proofs.Excluding.{both_true}
use Rattle.cond_terms.proofs.Placing.{same_at, at_listed}

-- ---- parts of a list

pub in_front : (h : ℕ) (xs : List ℕ) (x : ℕ) → Contains (take h xs) x → Contains xs x
in_front h xs x c = subst (λ l. Contains l x) (take-append-drop h xs) (Contains-append_left (take h xs) (drop h xs) x c)

pub in_rest : (h : ℕ) (xs : List ℕ) (x : ℕ) → Contains (drop h xs) x → Contains xs x
in_rest h xs x c = subst (λ l. Contains l x) (take-append-drop h xs) (Contains-append_right (take h xs) (drop h xs) x c)

pub front_or_rest : (h : ℕ) (xs : List ℕ) (x : ℕ) → Contains xs x → Contains (take h xs) x ⊎ Contains (drop h xs) x
front_or_rest h xs x c = Contains-append_cases (take h xs) (drop h xs) x (subst (λ l. Contains l x) (sym (take-append-drop h xs)) c)

pub rest_is : (xs : List ℕ) (h : ℕ) → take (length xs - h) (drop h xs) ≡ drop h xs
rest_is xs h = take_all (length xs - h) (drop h xs) (omega (arith, length-drop h xs))

-- a list of one element has that one alone
pub only_one : (xs : List ℕ) (x : ℕ) → length xs ≡ 1 → Contains xs x → x ≡ get_or xs 0 0
only_one [] x e c = absurd (omega (arith, c.1))
only_one (y ∷ []) x e (zero, h, q) = sym q
only_one (y ∷ []) x e (suc k, h, q) = absurd (omega (arith, h))
only_one (y ∷ z ∷ ys) x e c = absurd (let w : ⊥ = omega (arith, e) in w)

-- ---- truths

pub either_true : (a b : Bool) → (a || b) ≡ true → (a ≡ true) ⊎ (b ≡ true)
either_true true b h = inl refl
either_true false b h = inr h

pub first_true : (a b : Bool) → a ≡ true → (a || b) ≡ true
first_true true b h = refl
first_true false b h = absurd (let z : ⊥ = cc in z)

pub second_true : (a b : Bool) → b ≡ true → (a || b) ≡ true
second_true true b h = refl
second_true false b h = h

-- three facts of one result
pub of_three : {X Y : Type 0} (r : Result X Y) (P Q R S : X → Type 0) → ((x : X) → P x → Q x → R x → S x) → IfOk r P → IfOk r Q → IfOk r R → IfOk r S
of_three (Ok x) P Q R S f p q r = f x p q r
of_three (Err e) P Q R S f p q r = p

-- whether a list is empty, and whether it has one element
pub none : (n : ℕ) → true ≡ (n == 0) → n ≡ 0
none n e = grind (arith, nat_tests)

pub many : (n : ℕ) → false ≡ (n == 0) → (n ≡ 1 → ⊥) → 2 ≤ n
many zero e h = absurd (let z : ⊥ = cc in z)
many (suc zero) e h = absurd (h refl)
many (suc (suc n)) e h = omega arith

-- two halves of a list are half as long
halves : (n d : ℕ) → 2 ≤ n → n ≤ 2 ^ d → (e : ℕ) × (d ≡ e + 1) × (n / 2 ≤ 2 ^ e) × (n - n / 2 ≤ 2 ^ e)
halves n zero h k = absurd (let one : 2 ^ 0 ≡ 1 = refl in let z : ⊥ = omega (arith, one, h, k) in z)
halves n (suc e) h k = (let power = pow-suc 2 e in (e, omega arith, omega (arith, power, k), omega (arith, power, k)))

-- ---- guards

-- a simple term of at most 64 literals, of the same truth as another
pub short_guard : (t copied factored made : Term) (name : ℕ) → copied ≡ t → ((v : Valuation) → term_truth factored v ≡ term_truth copied v) → ((v : Valuation) → term_truth made v ≡ term_truth factored v)
    → IsSimple made → (64 < literals made → ⊥) → IsShortened t name (guard.Term made)
short_guard t copied factored made name e f h simple small = record {
  truth = λ v. h v ∙ f v ∙ ap (λ x. term_truth x v) e;
  named = omega (arith, small);
  shallow = λ most low deep. omega (arith, simple_is_shallow made simple, small, low);
}

-- ---- ways

-- the And of what is read of a guard and of a term
pub way_made : (source : Guard) (t a b made : Term) → a ≡ read_of source → b ≡ t → ((v : Valuation) → term_truth made v ≡ term_truth (term.And a b) v) → literals made ≤ literals (term.And a b) → IsSimple made → IsWay source t made
way_made source t a b made e f truth no_larger simple = record {
  truth = λ v. truth v ∙ truth_and a b v ∙ ap (λ x. term_truth x v && term_truth b v) e ∙ ap (λ x. term_truth (read_of source) v && term_truth x v) f;
  simple = simple;
  no_larger = omega (arith, no_larger, literals_and a b, ap literals e, ap literals f);
}

module _ (edges : List Edge) (places : List ℕ) (guards : List Guard) where
  -- what comes along one of some edges comes along one of others that are named too
  pub among : (xs ys : List ℕ) (v : Valuation) (c : ComesAlong edges places guards xs v) → Contains ys c.way → ComesAlong edges places guards ys v
  among xs ys v c named = record {
    way = c.way;
    named = named;
    edge = c.edge;
    edge_at = c.edge_at;
    source = c.source;
    source_at = c.source_at;
    true_source = c.true_source;
    true_term = c.true_term;
  }

  -- the one edge that is named, and its source's guard
  pub one_edge : (ways : List ℕ) → HaveSources edges places guards ways → length ways ≡ 1 → (e : Edge) → e ≡ get_or edges (get_or ways 0 0) e → slice_get edges (get_or ways 0 0) ≡ Some e
  one_edge ways have one e is = slice_get_read edges (length edges) (get_or ways 0 0) e refl (have (get_or ways 0 0) (Contains-get_or ways 0 0 (omega (arith, one)))).0 is

  pub one_source : (ways : List ℕ) → HaveSources edges places guards ways → length ways ≡ 1 → (e : Edge) → e ≡ get_or edges (get_or ways 0 0) e → (j : ℕ) → j ≡ e.from → (j < length places) × (get_or places j 0 < length guards)
  one_source ways have one e is j same =
      let h = (have (get_or ways 0 0) (Contains-get_or ways 0 0 (omega (arith, one)))).1 e (one_edge ways have one e is) in
      (subst (λ i. i < length places) (sym same) h.0, subst (λ i. get_or places i 0 < length guards) (sym same) h.1)

  one_way_at : (ways : List ℕ) (e : Edge) (source : Guard) (made : Term) → length ways ≡ 1 → slice_get edges (get_or ways 0 0) ≡ Some e → slice_get guards (slice_index places e.from) ≡ Some source
      → IsWay source e.term made → IsAnyWay edges places guards ways made
  one_way_at ways e source made one at from w = record {
    truth = λ v. (
      (λ h. let both = both_true _ _ (sym (w.truth v) ∙ h) in
          record {
            way = get_or ways 0 0;
            named = Contains-get_or ways 0 0 (omega (arith, one));
            edge = e;
            edge_at = at;
            source = source;
            source_at = from;
            true_source = both.0;
            true_term = both.1;
          }),
      (λ c. let edge : c.edge ≡ e = same_at edges c.way (get_or ways 0 0) c.edge e (only_one ways c.way one c.named) c.edge_at at in
          let its : c.source ≡ source = same_at guards (slice_index places c.edge.from) (slice_index places e.from) c.source source (ap (λ (x : Edge). slice_index places x.from) edge) c.source_at from in
          w.truth v ∙ ap (λ b. b && term_truth e.term v) (ap (λ g. term_truth (read_of g) v) (sym its) ∙ c.true_source) ∙ ap (λ (x : Edge). term_truth x.term v) (sym edge) ∙ c.true_term),
    );
    simple = w.simple;
    shallow = λ a b d small few.
        let term = All-contains (λ (x : Edge). literals x.term ≤ a) edges e small.0 (at_listed edges e (get_or ways 0 0) at) in
        let read = All-contains (λ its. literals (read_of its) ≤ b) guards source small.1 (at_listed guards source (slice_index places e.from) from) in
        omega (arith, simple_is_shallow made w.simple, w.no_larger, term, read);
  }

  pub one_way : (ways : List ℕ) → HaveSources edges places guards ways → length ways ≡ 1 → (e : Edge) → e ≡ get_or edges (get_or ways 0 0) e → (j : ℕ) → j ≡ e.from → (source : Guard) → source ≡ get_or guards (get_or places j 0) source
      → (made : Term) → IsWay source e.term made → IsAnyWay edges places guards ways made
  one_way ways have one e is j same source read made w =
      let at = one_edge ways have one e is in
      let from = subst (λ i. slice_get guards (get_or places i 0) ≡ Some source) same
      (slice_get_read guards (length guards) (get_or places j 0) source refl (one_source ways have one e is j same).1 read) in
      one_way_at ways e source made one at from w

  -- nothing comes along no edges
  pub no_way : (ways : List ℕ) → length ways ≡ 0 → IsAnyWay edges places guards ways term.False
  no_way ways none = record {
    truth = λ v. ((λ h. absurd (false≢true (sym (truth_false v) ∙ h))), (λ c. absurd (omega (arith, c.named.1, none))));
    simple = inr (inl refl);
    shallow = λ a b d small few. omega (arith, nesting_false);
  }

  pub two_halves : (ways : List ℕ) (a b made : Term) → 2 ≤ length ways → IsAnyWay edges places guards (take (length ways / 2) ways) a
      → IsAnyWay edges places guards (take (length ways - length ways / 2) (drop (length ways / 2) ways)) b → IsJoined false a b made → IsAnyWay edges places guards ways made
  two_halves ways a b made many p q j =
      let h = length ways / 2 in
      let rest : take (length ways - h) (drop h ways) ≡ drop h ways = rest_is ways h in
      record {
        truth = λ v. (
          (λ t. ⊎_elim
              (λ x. let w = (p.truth v).0 x in among (take h ways) ways v w (in_front h ways w.way w.named))
              (λ x. let w = (q.truth v).0 x in among _ ways v w (in_rest h ways w.way (subst (λ l. Contains l w.way) rest w.named)))
              (either_true _ _ (sym (j.same_truth v) ∙ t))),
          (λ c. ⊎_elim
              (λ x. j.same_truth v ∙ first_true _ _ ((p.truth v).1 (among ways (take h ways) v c x)))
              (λ x. j.same_truth v ∙ second_true _ _ ((q.truth v).1 (among ways _ v c (subst (λ l. Contains l c.way) (sym rest) x))))
              (front_or_rest h ways c.way c.named)),
        );
        simple = j.simple p.simple q.simple;
        shallow = λ x y d small few.
            let less = halves (length ways) d many few in
            let first = p.shallow x y less.0 small (omega (arith, length-take h ways, less.2)) in
            let second = q.shallow x y less.0 small (omega (arith, ap length rest, length-drop h ways, less.3)) in
            omega (arith, j.no_deeper, first, second, less.1);
      }
