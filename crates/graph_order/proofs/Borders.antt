-- Where a part is entered and left, member by member.
use Rattle.std.proofs.Common.{◌≡◌, ℕ, ◌+◌, ◌<◌, ◌≤◌, ◌⊎◌, inl, inr, ⊎_elim, sym, subst, arith, eqb, Bool, false, Option, List, [], ◌∷◌, ◌++◌, length, get_or, take}
use Rattle.std.specs.Prelude.{Contains, slice_index_or, ◌↔◌, IsTrue}
use Rattle.std.specs.List.{dedup}
use Rattle.std.specs.List.Sorted.{IsStrictlyIncreasing, IsPermutation, IsSorted, IsNonDecreasing}
use Rattle.std.specs.Ordering.{nat_cmp, is_lt}
use Rattle.std.proofs.lemmas.Bool.Decides.{nat_tests}
use Rattle.std.proofs.lemmas.List.Kept.{Contains-dedup_nat, Contains-from_dedup}
use Rattle.std.proofs.lemmas.List.Sorted.{Contains-permutation, IsPermutation-sym}
use Rattle.std.proofs.lemmas.Map.Keys.{IsStrictlyIncreasing-dedup}
use Rattle.std.proofs.lemmas.List.Elements.{Contains-append_left, Contains-push, Contains-push_cases}
use Rattle.graph_order.specs.Graph.{Digraph, HasEdge}
use Rattle.graph_order.specs.Owners.{StandsIn}
use Rattle.graph_order.specs.Ends.{HasTwo, AreHeads, AreExits, AddsOutside}
use Rattle.graph_order.proofs.Growing.{nothing_in, had_before, has_now, before_or_now, increasing_push, below_next}
use Rattle.graph_order.proofs.Keeping.{Keeps, Keeps-in, Keeps-out}

-- ---- heads

pub AreHeads-none : (part : ℕ) (bare : List (Option ℕ)) (arrivals : List (List ℕ)) (cycle : Bool) → AreHeads [] part bare arrivals cycle []
AreHeads-none part bare arrivals cycle = record {
  ascend = λ i l. absurd (omega (arith, l));
  has = λ n. ((λ c. absurd (nothing_in n c)), (λ q. absurd (nothing_in n q.0)));
}

module _ (members : List ℕ) (part : ℕ) (bare : List (Option ℕ)) (arrivals : List (List ℕ)) (cycle : Bool) (up : IsStrictlyIncreasing members) (k x : ℕ) (h : k < length members) (at : x ≡ get_or members k x) (heads : List ℕ) (v : AreHeads (take k members) part bare arrivals cycle heads) where
  abbrev Leads : ℕ → Type 0
  Leads n = (StandsIn bare n part → ⊥) ⊎ (IsTrue cycle × HasTwo (slice_index_or arrivals n []))

  keeps : Keeps Leads (take k members) heads
  keeps = record { has = v.has }

  pub AreHeads-in : Leads x → AreHeads (take (k + 1) members) part bare arrivals cycle (heads ++ x ∷ [])
  AreHeads-in p = record {
    ascend = increasing_push heads x v.ascend (λ n c. below_next members k x up h at n ((v.has n).0 c).0);
    has = (Keeps-in Leads members k x h at heads keeps p).has;
  }

  pub AreHeads-out : (Leads x → ⊥) → AreHeads (take (k + 1) members) part bare arrivals cycle heads
  AreHeads-out f = record {
    ascend = v.ascend;
    has = (Keeps-out Leads members k x h at heads keeps f).has;
  }

-- ---- exits

pub AddsOutside-none : (part : ℕ) (owners : List (Option ℕ)) (old : List ℕ) → AddsOutside [] part owners old old
AddsOutside-none part owners old n = (inl, ⊎_elim (λ c. c) (λ p. absurd (nothing_in n p.0)))

module _ (nodes : List ℕ) (part : ℕ) (owners : List (Option ℕ)) (k x : ℕ) (h : k < length nodes) (at : x ≡ get_or nodes k x) (old new : List ℕ) (v : AddsOutside (take k nodes) part owners old new) where
  pub AddsOutside-in : (StandsIn owners x part → ⊥) → AddsOutside (take (k + 1) nodes) part owners old (new ++ x ∷ [])
  AddsOutside-in f n = (
    (λ c. ⊎_elim
        (λ o. ⊎_elim inl (λ p. inr (had_before nodes k x h at n p.0, p.1)) ((v n).0 o))
        (λ e. inr (subst (Contains (take (k + 1) nodes)) e (has_now nodes k x h at), λ s. f (subst (λ m. StandsIn owners m part) (sym e) s)))
        (Contains-push_cases new x n c)),
    (λ q. ⊎_elim
        (λ o. Contains-append_left new (x ∷ []) n ((v n).1 (inl o)))
        (λ p. ⊎_elim
        (λ o. Contains-append_left new (x ∷ []) n ((v n).1 (inr (o, p.1))))
        (λ e. subst (Contains (new ++ x ∷ [])) e (Contains-push new x))
        (before_or_now nodes k x h at n p.0))
        q),
  )

  pub AddsOutside-out : StandsIn owners x part → AddsOutside (take (k + 1) nodes) part owners old new
  AddsOutside-out s n = (
    (λ c. ⊎_elim inl (λ p. inr (had_before nodes k x h at n p.0, p.1)) ((v n).0 c)),
    (λ q. ⊎_elim
        (λ o. (v n).1 (inl o))
        (λ p. ⊎_elim
        (λ o. (v n).1 (inr (o, p.1)))
        (λ e. absurd (p.1 (subst (λ m. StandsIn owners m part) e s)))
        (before_or_now nodes k x h at n p.0))
        q),
  )

-- the targets of some members' edges that don't stand in the part
pub record LeavesTo (g : Digraph) (members : List ℕ) (part : ℕ) (owners : List (Option ℕ)) (exits : List ℕ) : Type 0 where
  pub has : (n : ℕ) → (Contains exits n ↔ ((a : ℕ) × Contains members a × HasEdge g a n × (StandsIn owners n part → ⊥)))

pub LeavesTo-none : (g : Digraph) (part : ℕ) (owners : List (Option ℕ)) (exits : List ℕ) → exits ≡ [] → LeavesTo g [] part owners exits
LeavesTo-none g part owners exits e = subst (LeavesTo g [] part owners) (sym e) (record { has = λ n. ((λ c. absurd (nothing_in n c)), (λ q. absurd (nothing_in q.0 q.1))) })

pub LeavesTo-more : (g : Digraph) (members : List ℕ) (part : ℕ) (owners : List (Option ℕ)) (k x : ℕ) → k < length members → x ≡ get_or members k x → (old new : List ℕ) → LeavesTo g (take k members) part owners old → AddsOutside (slice_index_or g.succ x []) part owners old new → LeavesTo g (take (k + 1) members) part owners new
LeavesTo-more g members part owners k x h at old new v a = record {
  has = λ n. (
    (λ c. ⊎_elim
        (λ o. (let q = (v.has n).0 o in (q.0, had_before members k x h at q.0 q.1, q.2, q.3)))
        (λ p. (x, has_now members k x h at, p.0, p.1))
        ((a n).0 c)),
    (λ q. ⊎_elim
        (λ o. (a n).1 (inl ((v.has n).1 (q.0, o, q.2, q.3))))
        (λ e. (a n).1 (inr (subst (λ m. HasEdge g m n) (sym e) q.2, q.3)))
        (before_or_now members k x h at q.0 q.1)),
  );
}

-- ---- sorted, and each once

not_below : (a b : ℕ) → a ≤ b → is_lt (nat_cmp b a) ≡ false
not_below a b h = grind (arith, nat_tests)

in_order : (xs : List ℕ) → IsNonDecreasing xs → IsSorted nat_cmp xs
in_order xs up k d l h = not_below (get_or xs k d) (get_or xs (k + 1) d) (up k (k + 1) d (omega arith) h)

pub AreExits-from_sorted : (g : Digraph) (members : List ℕ) (part : ℕ) (owners : List (Option ℕ)) (found sorted once : List ℕ) → LeavesTo g members part owners found → IsPermutation found sorted → IsNonDecreasing sorted → once ≡ dedup eqb sorted → AreExits g members part owners once
AreExits-from_sorted g members part owners found sorted once v moved up is = subst (AreExits g members part owners) (sym is) (record {
  ascend = IsStrictlyIncreasing-dedup sorted (in_order sorted up);
  has = λ n. (
    (λ c. (v.has n).0 (Contains-permutation sorted found n (IsPermutation-sym found sorted moved) (Contains-from_dedup eqb sorted n c))),
    (λ q. Contains-dedup_nat sorted n (Contains-permutation found sorted n moved ((v.has n).1 q))),
  );
})
