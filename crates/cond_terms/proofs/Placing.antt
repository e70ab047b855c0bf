-- The places of nodes in an order, and of the edges into each node.
use Rattle.std.proofs.Common.{◌≡◌, ℕ, zero, suc, ◌+◌, ◌<◌, ◌≤◌, ◌∙◌, ⊎_elim, sym, ap, subst, refl, arith, List, [], ◌∷◌, ◌++◌, length, get_or, set, map, Some, length-set, length-append, get_or-set_same, get_or-set_other}
use Rattle.std.specs.Prelude.{All, Contains, slice_get, slice_index, slice_index_or, ◌↔◌}
use Rattle.std.proofs.lemmas.Bool.{cases_eq}
use Rattle.std.proofs.lemmas.Option.{same_Some, slice_get_read, slice_get_within, get_or_from_slice_get}
use Rattle.std.proofs.lemmas.List.{length-map, map-set}
use Rattle.std.proofs.lemmas.List.Elements.{Contains-push_cases, Contains-append_left, Contains-push}
use Rattle.cond_terms.specs.declared.guards.Edge.{Edge}
use Rattle.cond_terms.specs.Reaching.{ArePlaces, LeadsTo, AreWaysIn}

-- one element stands at one place
pub same_at : {X : Type 0} (xs : List X) (i j : ℕ) (x y : X) → i ≡ j → slice_get xs i ≡ Some x → slice_get xs j ≡ Some y → x ≡ y
same_at xs i j x y e p q = same_Some x y (sym p ∙ ap (slice_get xs) e ∙ q)

pub listed_at : {X : Type 0} (xs : List X) (x : X) (c : Contains xs x) → slice_get xs c.0 ≡ Some x
listed_at xs x c = slice_get_read xs (length xs) c.0 x refl c.1 (sym c.2)

pub at_listed : {X : Type 0} (xs : List X) (x : X) (j : ℕ) → slice_get xs j ≡ Some x → Contains xs x
at_listed xs x j e = (j, slice_get_within xs j x e, get_or_from_slice_get xs j x x e)

-- the nodes before place k have their places
pub record PlacesUpTo (count k : ℕ) (order places : List ℕ) : Type 0 where
  pub size : length places ≡ count
  pub stands : (j n : ℕ) → j < k → slice_get order j ≡ Some n → slice_get order (slice_index places n) ≡ Some n

pub PlacesUpTo-start : (count : ℕ) (order places : List ℕ) → length places ≡ count → PlacesUpTo count 0 order places
PlacesUpTo-start count order places size = record { size = size; stands = λ j n h. absurd (let z : ⊥ = omega (arith, h) in z) }

pub PlacesUpTo-more : (count k node : ℕ) (order places : List ℕ) → PlacesUpTo count k order places → node < count → slice_get order k ≡ Some node → PlacesUpTo count (k + 1) order (set places node k)
PlacesUpTo-more count k node order places p inside at = record {
  size = length-set places node k ∙ p.size;
  stands = λ j n h there. ⊎_elim
      (λ e. ap (slice_get order) (ap (slice_index (set places node k)) e ∙ get_or-set_same places node k 0 (omega (arith, inside, p.size))) ∙ at ∙ ap Some (sym e))
      (λ f. ⊎_elim
      (λ q. absurd (f (same_at order j k n node q there at)))
      (λ q. ap (slice_get order) (get_or-set_other places node n k 0 f) ∙ p.stands j n (omega (arith, h, q)) there)
      (cases_eq j k))
      (cases_eq n node);
}

pub PlacesUpTo-end : (count k : ℕ) (order places : List ℕ) → PlacesUpTo count k order places → length order ≤ k → ArePlaces count order places
PlacesUpTo-end count k order places p past = record {
  size = p.size;
  stands = λ j n at. p.stands j n (let h = slice_get_within order j n at in omega (arith, h, past)) at;
}

-- ---- lists of lists that the code has, seen as lists

all_empty : {V : Type 0} (f : V → List ℕ) (vs : List V) → All (λ v. length (f v) ≡ 0) vs → (b a : ℕ) → Contains (slice_index_or (map f vs) b []) a → ⊥
all_empty f [] h b a c = omega (arith, c.1)
all_empty f (v ∷ vs) h zero a c = (let e = h zero v (omega arith) in omega (arith, e, c.1))
all_empty f (v ∷ vs) h (suc b) a c = all_empty f vs (λ i d l. h (suc i) d (omega (arith, l))) b a c

no_length : {V : Type 0} (f : V → List ℕ) (vs : List V) → All (λ v. length (f v) ≡ 0) vs → (b : ℕ) → length (slice_index_or (map f vs) b []) ≡ 0
no_length f [] h b = refl
no_length f (v ∷ vs) h zero = h zero v (omega arith)
no_length f (v ∷ vs) h (suc b) = no_length f vs (λ i d l. h (suc i) d (omega (arith, l))) b

pub at_image : {V : Type 0} (f : V → List ℕ) (vs : List V) (j : ℕ) (v : V) → j < length vs → v ≡ get_or vs j v → f v ≡ slice_index_or (map f vs) j []
at_image f [] j v h e = absurd (omega (arith, h))
at_image f (x ∷ vs) zero v h e = ap f e
at_image f (x ∷ vs) (suc j) v h e = at_image f vs j v (omega (arith, h)) e

-- ---- the edges before place k are in their targets' lists

pub record WaysUpTo (count k : ℕ) (edges : List Edge) (ways : List (List ℕ)) : Type 0 where
  pub size : length ways ≡ count
  pub has : (way n : ℕ) → (Contains (slice_index_or ways n []) way ↔ ((way < k) × LeadsTo edges way n))
  pub few : (n : ℕ) → length (slice_index_or ways n []) ≤ k

pub WaysUpTo-start : {V : Type 0} (f : V → List ℕ) (count : ℕ) (edges : List Edge) (vs : List V) → length vs ≡ count → All (λ v. length (f v) ≡ 0) vs → WaysUpTo count 0 edges (map f vs)
WaysUpTo-start f count edges vs size none = record {
  size = length-map vs f ∙ size;
  has = λ way n. ((λ c. absurd (all_empty f vs none n way c)), (λ q. absurd (omega (arith, q.0))));
  few = λ n. (let e = no_length f vs none n in omega (arith, e));
}

module _ (count k : ℕ) (edges : List Edge) (ways : List (List ℕ)) (p : WaysUpTo count k edges ways) (e : Edge) (at : slice_get edges k ≡ Some e) (inside : e.to < count) where
  abbrev t : ℕ
  t = e.to

  abbrev grown : List (List ℕ)
  grown = set ways t (slice_index_or ways t [] ++ k ∷ [])

  here : slice_index_or grown t [] ≡ slice_index_or ways t [] ++ k ∷ []
  here = get_or-set_same ways t (slice_index_or ways t [] ++ k ∷ []) [] (omega (arith, inside, p.size))

  there : (n : ℕ) → (n ≡ t → ⊥) → slice_index_or grown n [] ≡ slice_index_or ways n []
  there n f = get_or-set_other ways t n (slice_index_or ways t [] ++ k ∷ []) [] f

  grows : (way n : ℕ) → Contains (slice_index_or ways n []) way → Contains (slice_index_or grown n []) way
  grows way n c =
      ⊎_elim
      (λ q. subst (λ m. Contains (slice_index_or grown m []) way) (sym q) (subst (λ l. Contains l way) (sym here) (Contains-append_left (slice_index_or ways t []) (k ∷ []) way (subst (λ m. Contains (slice_index_or ways m []) way) q c))))
      (λ f. subst (λ l. Contains l way) (sym (there n f)) c)
      (cases_eq n t)

  abbrev Had : ℕ → ℕ → Type 0
  Had way n = (way < k + 1) × LeadsTo edges way n

  had : (way n : ℕ) → Contains (slice_index_or ways n []) way → Had way n
  had way n c = (let q = (p.has way n).0 c in (omega (arith, q.0), q.1))

  forward : (way n : ℕ) → Contains (slice_index_or grown n []) way → Had way n
  forward way n c =
      ⊎_elim
      (λ q. ⊎_elim
      (λ old. had way n (subst (λ m. Contains (slice_index_or ways m []) way) (sym q) old))
      (λ same. (omega (arith, same), record { edge = e; edge_at = ap (slice_get edges) (sym same) ∙ at; here = sym q }))
      (Contains-push_cases (slice_index_or ways t []) k way (subst (λ l. Contains l way) here (subst (λ m. Contains (slice_index_or grown m []) way) q c))))
      (λ f. had way n (subst (λ l. Contains l way) (there n f) c))
      (cases_eq n t)

  backward : (way n : ℕ) → Had way n → Contains (slice_index_or grown n []) way
  backward way n (low, leads) =
      ⊎_elim
      (λ q. (let to : t ≡ n = ap (λ (x : Edge). x.to) (sym (same_at edges way k leads.edge e q leads.edge_at at)) ∙ leads.here in
      subst (λ m. Contains (slice_index_or grown m []) way) to (subst (λ l. Contains l way) (sym here) (subst (λ w. Contains (slice_index_or ways t [] ++ k ∷ []) w) (sym q) (Contains-push (slice_index_or ways t []) k)))))
      (λ f. grows way n ((p.has way n).1 (omega (arith, low, f), leads)))
      (cases_eq way k)

  few_grown : (n : ℕ) → length (slice_index_or grown n []) ≤ k + 1
  few_grown n =
      ⊎_elim
      (λ q. omega (arith, ap (λ m. length (slice_index_or grown m [])) q, ap length here, length-append (slice_index_or ways t []) (k ∷ []), p.few t))
      (λ f. omega (arith, ap length (there n f), p.few n))
      (cases_eq n t)

  pub WaysUpTo-more : WaysUpTo count (k + 1) edges grown
  WaysUpTo-more = record {
    size = length-set ways t (slice_index_or ways t [] ++ k ∷ []) ∙ p.size;
    has = λ way n. (forward way n, backward way n);
    few = few_grown;
  }

-- the list in the code has been pushed to
pub WaysUpTo-pushed : {V : Type 0} (f : V → List ℕ) (count k j : ℕ) (edges : List Edge) (vs : List V) (had pushed : V) (e : Edge) → WaysUpTo count k edges (map f vs) → slice_get edges k ≡ Some e → e.to < count → j ≡ e.to
    → had ≡ get_or vs j had → f pushed ≡ f had ++ k ∷ [] → WaysUpTo count (k + 1) edges (map f (set vs j pushed))
WaysUpTo-pushed f count k j edges vs had pushed e p at inside same is q =
    let images = map f vs in
    let within : j < length vs = omega (arith, inside, same, p.size, length-map vs f) in
    let now : map f (set vs j pushed) ≡ set images j (slice_index_or images j [] ++ k ∷ []) =
    map-set f vs j pushed ∙ ap (set images j) (q ∙ ap (λ l. l ++ k ∷ []) (at_image f vs j had within is)) in
    subst (WaysUpTo count (k + 1) edges) (sym (now ∙ ap (λ i. set images i (slice_index_or images i [] ++ k ∷ [])) same)) (WaysUpTo-more count k edges images p e at inside)

pub WaysUpTo-end : (count k : ℕ) (edges : List Edge) (ways : List (List ℕ)) → WaysUpTo count k edges ways → length edges ≡ k → AreWaysIn count edges ways
WaysUpTo-end count k edges ways p past = record {
  size = p.size;
  has = λ way n. (
    (λ c. ((p.has way n).0 c).1),
    (λ l. (p.has way n).1 ((let h = slice_get_within edges way l.edge l.edge_at in omega (arith, h, past)), l)),
  );
  few = λ n. omega (arith, p.few n, past);
}
