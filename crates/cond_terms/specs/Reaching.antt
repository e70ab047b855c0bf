-- How the guards of nodes are made along an order.
use Rattle.std.specs.Prelude.{◌≡◌, ◌↔◌, ℕ, ◌+◌, ◌^◌, ◌<◌, ◌≤◌, Bool, true, false, ◌&&◌, List, [], length, All, Contains, slice_get, slice_index, slice_index_or, Some}
use Rattle.cond_terms.specs.declared.term.Term.{Term}
use Rattle.cond_terms.specs.declared.guards.Edge.{Edge}
use Rattle.cond_terms.specs.declared.guards.Guard.{Guard}
use Rattle.cond_terms.specs.Terms.{Valuation, term_truth, literals}
use Rattle.cond_terms.specs.Nesting.{nesting}
use Rattle.cond_terms.specs.Simple.{IsSimple}
use Rattle.cond_terms.specs.Guards.{term_of, read_of, IsNamedAs}

-- for each node that stands in an order, a place where it stands
pub record ArePlaces (count : ℕ) (order places : List ℕ) : Type 0 where
  pub size : length places ≡ count
  pub stands : (k n : ℕ) → slice_get order k ≡ Some n → slice_get order (slice_index places n) ≡ Some n

-- an edge stands at a place of a list, and leads to a node
pub record LeadsTo (edges : List Edge) (way n : ℕ) : Type 0 where
  pub edge : Edge
  pub edge_at : slice_get edges way ≡ Some edge
  pub here : edge.to ≡ n

-- for each node the places of the edges to it
pub record AreWaysIn (count : ℕ) (edges : List Edge) (ways : List (List ℕ)) : Type 0 where
  pub size : length ways ≡ count
  pub has : (way n : ℕ) → (Contains (slice_index_or ways n []) way ↔ LeadsTo edges way n)
  pub few : (n : ℕ) → length (slice_index_or ways n []) ≤ length edges

-- edges stand at the places that are named, and their sources have guards
abbrev pub HaveSources : List Edge → List ℕ → List Guard → List ℕ → Type 0
HaveSources edges places guards ways =
    (way : ℕ) → Contains ways way → (way < length edges) × ((e : Edge) → slice_get edges way ≡ Some e → (e.from < length places) × (slice_index places e.from < length guards))

-- along one of the edges that are named, what is read of the source's guard and the edge's term are true
pub record ComesAlong (edges : List Edge) (places : List ℕ) (guards : List Guard) (ways : List ℕ) (v : Valuation) : Type 0 where
  pub way : ℕ
  pub named : Contains ways way
  pub edge : Edge
  pub edge_at : slice_get edges way ≡ Some edge
  pub source : Guard
  pub source_at : slice_get guards (slice_index places edge.from) ≡ Some source
  pub true_source : term_truth (read_of source) v ≡ true
  pub true_term : term_truth edge.term v ≡ true

-- The terms of edges have at most so many literals, and so does what is read of guards.
abbrev pub AreSmall : ℕ → ℕ → List Edge → List Guard → Type 0
AreSmall a b edges guards = All (λ e. literals e.term ≤ a) edges × All (λ its. literals (read_of its) ≤ b) guards

-- made is true where what is read of a guard and a term are, and it is simple
pub record IsWay (source : Guard) (t made : Term) : Type 0 where
  pub truth : (v : Valuation) → term_truth made v ≡ (term_truth (read_of source) v && term_truth t v)
  pub simple : IsSimple made
  pub no_larger : literals made ≤ literals (read_of source) + literals t

-- made is true where one of the edges that are named comes; it is simple, and no deeper than small ways and a balanced Or of them
pub record IsAnyWay (edges : List Edge) (places : List ℕ) (guards : List Guard) (ways : List ℕ) (made : Term) : Type 0 where
  pub truth : (v : Valuation) → ((term_truth made v ≡ true) ↔ ComesAlong edges places guards ways v)
  pub simple : IsSimple made
  pub shallow : (a b d : ℕ) → AreSmall a b edges guards → length ways ≤ 2 ^ d → nesting made ≤ b + a + d

-- made is a guard with the truth of the term, named as it has to be
pub record IsShortened (t : Term) (name : ℕ) (made : Guard) : Type 0 where
  pub truth : (v : Valuation) → term_truth (term_of made) v ≡ term_truth t v
  pub named : IsNamedAs name made
  pub shallow : (most : ℕ) → 64 ≤ most → nesting t ≤ most → nesting (term_of made) ≤ most

-- made is the guard of a node
pub record IsGuardMade (is_entry : Bool) (edges : List Edge) (places : List ℕ) (guards : List Guard) (ways : List ℕ) (name : ℕ) (made : Guard) : Type 0 where
  pub at_entry : is_entry ≡ true → (v : Valuation) → term_truth (term_of made) v ≡ true
  pub others : is_entry ≡ false → (v : Valuation) → ((term_truth (term_of made) v ≡ true) ↔ ComesAlong edges places guards ways v)
  pub named : IsNamedAs name made
  pub shallow : (a d : ℕ) → AreSmall a 64 edges guards → length ways ≤ 2 ^ d → nesting (term_of made) ≤ 64 + a + d
