-- The guards of the nodes of an order, one after another.
use Rattle.std.proofs.Common.{◌≡◌, ◌≢◌, ℕ, zero, suc, ◌+◌, ◌^◌, ◌<◌, ◌≤◌, ◌∙◌, ◌⊎◌, inl, inr, ⊎_elim, sym, ap, subst, refl, arith, true, false, List, [], ◌∷◌, ◌++◌, length, get_or, Some, nat_eq, All, map}
use Rattle.std.specs.Prelude.{Contains, slice_get, slice_index, slice_index_or, ◌↔◌}
use Rattle.std.proofs.lemmas.Bool.Decides.{nat_tests}
use Rattle.std.proofs.lemmas.Option.{same_Some, slice_get_within}
use Rattle.std.proofs.lemmas.List.{length-map}
use Rattle.std.proofs.lemmas.List.Elements.{All-contains, All-nil, All-cons, All-push, All-weaker}
use Rattle.graph_order.specs.Graph.{Digraph, HasEdge, step}
use Rattle.graph_order.specs.Order.{IsTopologicalOrder}
use Rattle.cond_terms.specs.declared.term.Lit.TheVariants as lit
use Rattle.cond_terms.specs.declared.guards.Edge.{Edge}
use Rattle.cond_terms.specs.declared.guards.Guard.{Guard}
use Rattle.cond_terms.specs.declared.guards.Guard.TheVariants as guard
use Rattle.cond_terms.specs.Terms.{Valuation, term_truth, literals}
use Rattle.cond_terms.specs.Nesting.{nesting}
use Rattle.cond_terms.specs.Guards.{term_of, read_of, names_of, AreEdgesOf, IsGuardAt, NamesTell, NamesSet, TellTaken, Comes, AreGuards, IsNamedAs, AreNamed, ArePlain, AreShallow}
use Rattle.cond_terms.specs.Reaching.{ArePlaces, LeadsTo, AreWaysIn, HaveSources, ComesAlong, IsGuardMade}
use Rattle.cond_terms.proofs.Placing.{same_at, listed_at, at_listed, at_image}
use Rattle.cond_terms.proofs.Layers.{literals_lit}
use Rattle.cond_terms.proofs.Nested.{plain_is_small}
use Rattle.cond_terms.proofs.Guarding.{guards_tell}

-- ---- a list and one element more

pub at_push : {X : Type 0} (xs : List X) (x y : X) (j : ℕ) → slice_get (xs ++ x ∷ []) j ≡ Some y → ((j < length xs) × (slice_get xs j ≡ Some y)) ⊎ ((j ≡ length xs) × (x ≡ y))
at_push [] x y zero e = inr (refl, same_Some x y e)
at_push [] x y (suc j) e = absurd (let z : ⊥ = cc in z)
at_push (z ∷ xs) x y zero e = inl (omega arith, e)
at_push (z ∷ xs) x y (suc j) e = ⊎_elim (λ p. inl (omega (arith, p.0), p.1)) (λ p. inr (omega (arith, p.0), p.1)) (at_push xs x y j e)

pub kept_by_push : {X : Type 0} (xs ys : List X) (y : X) (j : ℕ) → slice_get xs j ≡ Some y → slice_get (xs ++ ys) j ≡ Some y
kept_by_push [] ys y j e = absurd (let z : ⊥ = cc in z)
kept_by_push (z ∷ xs) ys y zero e = e
kept_by_push (z ∷ xs) ys y (suc j) e = kept_by_push xs ys y j e

-- ---- names

pub names_in : List Guard → ℕ
names_in [] = 0
names_in (its ∷ rest) = names_of its + names_in rest

one_name : (its : Guard) → names_of its ≤ 1
one_name (guard.Term t) = omega arith
one_name (guard.Named x t) = omega arith

pub few_names : (guards : List Guard) → names_in guards ≤ length guards
unfolding names_in
few_names [] = omega arith
few_names (its ∷ rest) = omega (arith, one_name its, few_names rest)

pub no_names : names_in [] ≡ 0
unfolding names_in
no_names = refl

pub names_push : (guards : List Guard) (its : Guard) → names_in (guards ++ its ∷ []) ≡ names_in guards + names_of its
unfolding names_in
names_push [] its = omega arith
names_push (other ∷ rest) its = omega (arith, names_push rest its)

pub named_push : (next : ℕ) (guards : List Guard) (its : Guard) → AreNamed next guards → IsNamedAs (next + names_in guards) its → AreNamed next (guards ++ its ∷ [])
unfolding names_in
named_push next [] its p q = (subst (λ n. IsNamedAs n its) (let e : next + 0 ≡ next = omega arith in e) q, tt)
named_push next (other ∷ rest) its p q =
    (p.0, named_push (next + names_of other) rest its p.1 (subst (λ n. IsNamedAs n its) (let e : next + (names_of other + names_in rest) ≡ next + names_of other + names_in rest = omega arith in e) q))

-- what is read of a guard that is named as it has to be is small
small_read : (name : ℕ) (its : Guard) → IsNamedAs name its → literals (read_of its) ≤ 64
small_read name (guard.Term t) p = p
small_read name (guard.Named x t) p = omega (arith, literals_lit (lit.Bool x))

pub small_reads : (next : ℕ) (guards : List Guard) → AreNamed next guards → All (λ its. literals (read_of its) ≤ 64) guards
small_reads next [] p = All-nil (λ its. literals (read_of its) ≤ 64)
small_reads next (its ∷ rest) p = All-cons (λ x. literals (read_of x) ≤ 64) its rest (small_read next its p.0) (small_reads (next + names_of its) rest p.1)

-- ---- guards of an order so far

-- the guards that there are so far are right, and so are their names
pub record AreGuardsSoFar (entry : ℕ) (edges : List Edge) (order : List ℕ) (guards : List Guard) (first named : ℕ) : Type 0 where
  pub entry_true : (k : ℕ) (its : Guard) (v : Valuation) → IsGuardAt order guards k entry its → term_truth (term_of its) v ≡ true
  pub others : (k n : ℕ) (its : Guard) (v : Valuation) → IsGuardAt order guards k n its → n ≢ entry → ((term_truth (term_of its) v ≡ true) ↔ Comes edges order guards n v)
  pub names : AreNamed first guards
  pub count : named ≡ names_in guards
  pub shallow : (a d : ℕ) → All (λ e. literals e.term ≤ a) edges → length edges ≤ 2 ^ d → AreShallow (64 + a + d) guards

none_there : {X : Type 0} (k : ℕ) (x : X) → slice_get [] k ≡ Some x → ⊥
none_there k x e = let z : ⊥ = cc in z

pub no_guards : (entry : ℕ) (edges : List Edge) (order : List ℕ) (first : ℕ) → AreGuardsSoFar entry edges order [] first 0
no_guards entry edges order first = record {
  entry_true = λ k its v stands. absurd (none_there k its stands.guarded);
  others = λ k n its v stands. absurd (none_there k its stands.guarded);
  names = tt;
  count = sym no_names;
  shallow = λ a d small few. All-nil (λ its. nesting (term_of its) ≤ 64 + a + d);
}

module _ (g : Digraph) (edges : List Edge) (order : List ℕ) (o : IsTopologicalOrder g order) (es : AreEdgesOf g edges) where
  -- where an edge's source stands, and that it is before its target
  source_place : (e : Edge) → Contains edges e → (j : ℕ) × (slice_get order j ≡ Some e.from)
  source_place e listed = let c = (o.reached e.from).1 (es e listed).0 in (c.0, listed_at order e.from c)

  source_before : (e : Edge) (j k n : ℕ) → Contains edges e → e.to ≡ n → slice_get order j ≡ Some e.from → slice_get order k ≡ Some n → j < k
  source_before e j k n listed to source here = o.forward j k e.from n source here (subst (HasEdge g e.from) to (es e listed).1)

  -- the nodes of edges are below a number that is above the order's
  pub sources_below : (count : ℕ) → All (λ n. n < count) order → (e : Edge) → Contains edges e → e.from < count
  sources_below count below e listed = All-contains (λ n. n < count) order e.from below ((o.reached e.from).1 (es e listed).0)

  pub targets_below : (count : ℕ) → All (λ n. n < count) order → (e : Edge) → Contains edges e → e.to < count
  targets_below count below e listed = All-contains (λ n. n < count) order e.to below ((o.reached e.to).1 (step e.from (es e listed).0 (es e listed).1))

  module _ (count : ℕ) (below : All (λ n. n < count) order) (places : List ℕ) (ps : ArePlaces count order places) (guards : List Guard) (k n : ℕ) (size : length guards ≡ k) (at : slice_get order k ≡ Some n)
      (ways : List ℕ) (has : (way : ℕ) → (Contains ways way ↔ LeadsTo edges way n)) (few : length ways ≤ length edges) where
    source_is : (e : Edge) → Contains edges e → (j : ℕ) → slice_get order j ≡ Some e.from → slice_index places e.from ≡ j
    source_is e listed j stands = o.once (slice_index places e.from) j e.from (ps.stands j e.from stands) stands

    pub have_sources : HaveSources edges places guards ways
    have_sources way named =
        let l = (has way).0 named in (
          slice_get_within edges way l.edge l.edge_at,
          λ e there.
              let same : l.edge ≡ e = same_at edges way way l.edge e refl l.edge_at there in
              let listed = at_listed edges e way there in
              let j = source_place e listed in
              let early = source_before e j.0 k n listed (ap (λ (x : Edge). x.to) (sym same) ∙ l.here) j.1 at in
              let is = source_is e listed j.0 j.1 in
              let low = sources_below count below e listed in
              (omega (arith, low, ps.size), omega (arith, early, is, size)),
        )

    comes_from : (v : Valuation) → ComesAlong edges places guards ways v → Comes edges order guards n v
    comes_from v c =
        let l = (has c.way).0 c.named in
        let same : l.edge ≡ c.edge = same_at edges c.way c.way l.edge c.edge refl l.edge_at c.edge_at in
        let listed = at_listed edges c.edge c.way c.edge_at in
        let j = source_place c.edge listed in
        record {
          edge = c.edge;
          listed = listed;
          here = ap (λ (x : Edge). x.to) (sym same) ∙ l.here;
          true_term = c.true_term;
          place = slice_index places c.edge.from;
          source = c.source;
          source_at = record { node = ps.stands j.0 c.edge.from j.1; guarded = c.source_at };
          true_source = c.true_source;
        }

    comes_along : (v : Valuation) → Comes edges order guards n v → ComesAlong edges places guards ways v
    comes_along v c = record {
      way = c.listed.0;
      named = (has c.listed.0).1 (record { edge = c.edge; edge_at = listed_at edges c.edge c.listed; here = c.here });
      edge = c.edge;
      edge_at = listed_at edges c.edge c.listed;
      source = c.source;
      source_at = ap (slice_get guards) (source_is c.edge c.listed c.place c.source_at.node) ∙ c.source_at.guarded;
      true_source = c.true_source;
      true_term = c.true_term;
    }

    module _ (made : Guard) where
      abbrev more : List Guard
      more = guards ++ made ∷ []

      comes_still : (m : ℕ) (v : Valuation) → Comes edges order guards m v → Comes edges order more m v
      comes_still m v c = record {
        edge = c.edge;
        listed = c.listed;
        here = c.here;
        true_term = c.true_term;
        place = c.place;
        source = c.source;
        source_at = record { node = c.source_at.node; guarded = kept_by_push guards (made ∷ []) c.source c.place c.source_at.guarded };
        true_source = c.true_source;
      }

      came_before : (j m : ℕ) (v : Valuation) → slice_get order j ≡ Some m → j ≤ k → Comes edges order more m v → Comes edges order guards m v
      came_before j m v here low c =
          let early = source_before c.edge c.place j m c.listed c.here c.source_at.node here in
          record {
            edge = c.edge;
            listed = c.listed;
            here = c.here;
            true_term = c.true_term;
            place = c.place;
            source = c.source;
            source_at = record { node = c.source_at.node; guarded = ⊎_elim (λ p. p.1) (λ p. absurd (omega (arith, p.0, early, low, size))) (at_push guards made c.source c.place c.source_at.guarded) };
            true_source = c.true_source;
          }

      is_entry : n ≡ g.entry → nat_eq n g.entry ≡ true
      is_entry e = grind (arith, nat_tests)

      is_other : (n ≡ g.entry → ⊥) → nat_eq n g.entry ≡ false
      is_other f = grind (arith, nat_tests)

      pub one_more_guard : (first named name : ℕ) → AreGuardsSoFar g.entry edges order guards first named → name ≡ first + named → IsGuardMade (nat_eq n g.entry) edges places guards ways name made
          → AreGuardsSoFar g.entry edges order more first (named + names_of made)
      one_more_guard first named name p called m = record {
        entry_true = λ j its v stands. ⊎_elim
            (λ q. p.entry_true j its v (record { node = stands.node; guarded = q.1 }))
            (λ q. ap (λ x. term_truth (term_of x) v) (sym q.1) ∙ m.at_entry (is_entry (same_at order k j n g.entry (sym (q.0 ∙ size)) at stands.node)) v)
            (at_push guards made its j stands.guarded);
        others = λ j i its v stands other. ⊎_elim
            (λ q. let told = p.others j i its v (record { node = stands.node; guarded = q.1 }) other in
            (λ h. comes_still i v (told.0 h), λ c. told.1 (came_before j i v stands.node (omega (arith, q.0, size)) c)))
            (λ q. let same : n ≡ i = same_at order k j n i (sym (q.0 ∙ size)) at stands.node in
            let told = m.others (is_other (λ e. other (sym same ∙ e))) v in (
              λ h. subst (λ x. Comes edges order more x v) same (comes_still n v (comes_from v (told.0 (ap (λ x. term_truth (term_of x) v) q.1 ∙ h)))),
              λ c. ap (λ x. term_truth (term_of x) v) (sym q.1) ∙ told.1 (comes_along v (came_before k n v at (omega arith) (subst (λ x. Comes edges order more x v) (sym same) c))),
            ))
            (at_push guards made its j stands.guarded);
        names = named_push first guards made p.names (subst (λ x. IsNamedAs x made) (called ∙ ap (λ x. first + x) p.count) m.named);
        count = omega (arith, p.count, names_push guards made);
        shallow = λ a d small fit. All-push (λ its. nesting (term_of its) ≤ 64 + a + d) guards made (p.shallow a d small fit) (m.shallow a d (small, small_reads first guards p.names) (omega (arith, few, fit)));
      }

  -- the guards of the whole order
  pub all_guards : (guards : List Guard) (first named : ℕ) → length guards ≡ length order → AreGuardsSoFar g.entry edges order guards first named → AreGuards g.entry edges order guards
  all_guards guards first named size p = record { one_each = size; entry_true = p.entry_true; others = p.others }

  module _ (guards : List Guard) (gs : AreGuards g.entry edges order guards) (v : Valuation) where
    -- names that are set to their terms tell
    set_names_tell : (k : ℕ) → NamesSet guards k v → NamesTell g.entry edges order guards k v
    set_names_tell zero set = λ j n x t h. absurd (let z : ⊥ = omega (arith, h) in z)
    set_names_tell (suc k) set =
        let lower = set_names_tell k (λ j x t h there. set j x t (omega (arith, h)) there) in
        λ j n x t h stands.
        let told = guards_tell g edges order guards o es gs j n (guard.Named x t) v stands (λ i m y u b w. lower i m y u (omega (arith, h, b)) w) in
        let same = set j x t h stands.guarded in
        (λ q. told.0 (sym same ∙ q), λ q. same ∙ told.1 q)

  pub tell_taken : (guards : List Guard) → AreGuards g.entry edges order guards → TellTaken g.entry edges order guards
  tell_taken guards gs k n its v stands set = guards_tell g edges order guards o es gs k n its v stands (set_names_tell guards gs v k set)

-- ---- a turn of the loop: the node at place k, and the list of the ways into it

pub record IsTurn {V : Type 0} (f : V → List ℕ) (g : Digraph) (edges : List Edge) (order : List ℕ) (count : ℕ) (places : List ℕ) (lists : List V) (guards : List Guard) (k n : ℕ) (ways : List ℕ) : Type 0 where
  pub in_order : IsTopologicalOrder g order
  pub along : AreEdgesOf g edges
  pub below : All (λ m. m < count) order
  pub places_are : ArePlaces count order places
  pub ways_are : AreWaysIn count edges (map f lists)
  pub size : length guards ≡ k
  pub at : slice_get order k ≡ Some n
  pub list : V
  pub list_is : list ≡ get_or lists n list
  pub same_ways : ways ≡ f list

module _ {V : Type 0} (f : V → List ℕ) (g : Digraph) (edges : List Edge) (order : List ℕ) (count : ℕ) (places : List ℕ) (lists : List V) (guards : List Guard) (k n : ℕ) (ways : List ℕ)
    (t : IsTurn f g edges order count places lists guards k n ways) where
  pub node_below : n < count
  node_below = All-contains (λ m. m < count) order n t.below (at_listed order n k t.at)

  image : ways ≡ slice_index_or (map f lists) n []
  image = t.same_ways ∙ at_image f lists n t.list (omega (arith, node_below, t.ways_are.size, length-map lists f)) t.list_is

  the_ways : (way : ℕ) → (Contains ways way ↔ LeadsTo edges way n)
  the_ways way = subst (λ l. Contains l way ↔ LeadsTo edges way n) (sym image) (t.ways_are.has way n)

  few_ways : length ways ≤ length edges
  few_ways = subst (λ l. length l ≤ length edges) (sym image) (t.ways_are.few n)

  pub turn_sources : HaveSources edges places guards ways
  turn_sources = have_sources g edges order t.in_order t.along count t.below places t.places_are guards k n t.size t.at ways the_ways few_ways

  pub turn_guard : (made : Guard) (first named name entry : ℕ) → AreGuardsSoFar g.entry edges order guards first named → name ≡ first + named → entry ≡ g.entry → IsGuardMade (nat_eq n entry) edges places guards ways name made
      → AreGuardsSoFar g.entry edges order (guards ++ made ∷ []) first (named + names_of made)
  turn_guard made first named name entry p called same m =
      one_more_guard g edges order t.in_order t.along count t.below places t.places_are guards k n t.size t.at ways the_ways few_ways made first named name p called
      (subst (λ e. IsGuardMade (nat_eq n e) edges places guards ways name made) same m)

-- where each edge's term is plain, the guards are shallow
pub plain_are_shallow : (entry : ℕ) (edges : List Edge) (order : List ℕ) (guards : List Guard) (first named : ℕ) → AreGuardsSoFar entry edges order guards first named → length edges ≤ 2 ^ 32 → ArePlain edges → AreShallow 100 guards
plain_are_shallow entry edges order guards first named p few plain =
    All-weaker (λ its. nesting (term_of its) ≤ 64 + 1 + 32) (λ its. nesting (term_of its) ≤ 100) (λ its h. omega (arith, h)) guards
    (p.shallow 1 32 (λ k e h. plain_is_small (get_or edges k e).term (plain k e h)) few)
