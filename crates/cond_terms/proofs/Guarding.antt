-- The guards of nodes tell which nodes are taken.
use Rattle.std.proofs.Common.{◌≡◌, ◌≢◌, ◌⊎◌, inl, inr, ℕ, zero, suc, ◌<◌, ◌≤◌, Bool, true, false, List, length, get_or, Some, refl, sym, subst, arith, nat_eq}
use Rattle.std.specs.Prelude.{◌↔◌, Contains, slice_get}
use Rattle.std.proofs.lemmas.Option.{slice_get-get_or, slice_get_read}
use Rattle.std.proofs.lemmas.Bool.Decides.{nat_tests}
use Rattle.graph_order.specs.Graph.{Digraph, HasEdge}
use Rattle.graph_order.specs.Order.{IsTopologicalOrder}
use Rattle.cond_terms.specs.declared.guards.Edge.{Edge}
use Rattle.cond_terms.specs.declared.guards.Guard.{Guard}
use Rattle.cond_terms.specs.declared.guards.Guard.TheVariants as guard
use Rattle.cond_terms.specs.Terms.{Valuation, term_truth}
use Rattle.cond_terms.specs.Guards.{term_of, read_of, IsTaken, begins, along, AreEdgesOf, IsGuardAt, NamesTell, Comes, AreGuards, GuardsTell}

-- a node is the entry or it isn't
is_it : (n m : ℕ) → (n ≡ m) ⊎ (n ≢ m)
is_it n m = go (nat_eq n m) refl
  where
    go : (b : Bool) → nat_eq n m ≡ b → (n ≡ m) ⊎ (n ≢ m)
    go true e = inl (grind (arith, nat_tests))
    go false e = inr (λ h. grind (arith, nat_tests))

module _ (g : Digraph) (edges : List Edge) (order : List ℕ) (guards : List Guard) (o : IsTopologicalOrder g order) (es : AreEdgesOf g edges)
    (gs : AreGuards g.entry edges order guards) (v : Valuation) where
  -- what holds of each place below k
  abbrev Below : ℕ → Type 0
  Below k = (j n : ℕ) (its : Guard) → j < k → IsGuardAt order guards j n its → (term_truth (term_of its) v ≡ true) ↔ IsTaken g.entry edges v n

  -- what is read of an earlier guard tells too
  read_tells : (k j n : ℕ) (its : Guard) → j < k → IsGuardAt order guards j n its → Below k → NamesTell g.entry edges order guards k v → (term_truth (read_of its) v ≡ true) ↔ IsTaken g.entry edges v n
  read_tells k j n (guard.Term t) h stands below names = below j n (guard.Term t) h stands
  read_tells k j n (guard.Named x t) h stands below names = names j n x t h stands

  -- an edge's source stands before its target
  before : (k n : ℕ) (e : Edge) (j : ℕ) → slice_get order k ≡ Some n → Contains edges e → e.to ≡ n → slice_get order j ≡ Some e.from → j < k
  before k n e j here listed to source = o.forward j k e.from n source here (subst (HasEdge g e.from) to (es e listed).1)

  -- the guard of an edge's source
  source_of : (e : Edge) → Contains edges e → (j : ℕ) × (its : Guard) × IsGuardAt order guards j e.from its
  source_of e listed =
      let c = (o.reached e.from).1 (es e listed).0 in
      let within : c.0 < length guards = omega (arith, c.1, gs.one_each) in
      let its = get_or guards c.0 (guard.Term e.term) in
      (c.0, its, record { node = slice_get_read order (length order) c.0 e.from refl c.1 (sym c.2); guarded = slice_get-get_or guards c.0 (guard.Term e.term) within })

  taken_so : (k n : ℕ) (its : Guard) → IsGuardAt order guards k n its → Below k → NamesTell g.entry edges order guards k v → n ≢ g.entry → Comes edges order guards n v → IsTaken g.entry edges v n
  taken_so k n its stands below names other c =
      let early = before k n c.edge c.place stands.node c.listed c.here c.source_at.node in
      along c.edge c.listed c.here c.true_term ((read_tells k c.place c.edge.from c.source early c.source_at below names).0 c.true_source)

  comes_so : (k n : ℕ) (its : Guard) → IsGuardAt order guards k n its → Below k → NamesTell g.entry edges order guards k v → n ≢ g.entry → IsTaken g.entry edges v n → Comes edges order guards n v
  comes_so k n its stands below names other (begins e) = absurd (other e)
  comes_so k n its stands below names other (along e listed here true_term taken) =
      let s = source_of e listed in
      let early = before k n e s.0 stands.node listed here s.2.node in
      record {
        edge = e;
        listed = listed;
        here = here;
        true_term = true_term;
        place = s.0;
        source = s.1;
        source_at = s.2;
        true_source = (read_tells k s.0 e.from s.1 early s.2 below names).1 taken;
      }

  tell_at : (k n : ℕ) (its : Guard) → IsGuardAt order guards k n its → Below k → NamesTell g.entry edges order guards k v → (term_truth (term_of its) v ≡ true) ↔ IsTaken g.entry edges v n
  tell_at k n its stands below names = elim (is_it n g.entry) [
    | inl e ↦ (λ _. begins e, λ _. gs.entry_true k its v (subst (λ m. IsGuardAt order guards k m its) e stands))
    | inr d ↦
        let told = gs.others k n its v stands d in
        (λ h. taken_so k n its stands below names d (told.0 h), λ t. told.1 (comes_so k n its stands below names d t))
  ]

  -- names that tell below a place tell below an earlier one
  fewer : (j k : ℕ) → j ≤ k → NamesTell g.entry edges order guards k v → NamesTell g.entry edges order guards j v
  fewer j k h names i n x t b stands = names i n x t (omega (arith, h, b)) stands

  all_below : (k : ℕ) → NamesTell g.entry edges order guards k v → Below k
  all_below zero names = λ j n its h stands. absurd (let z : ⊥ = omega (arith, h) in z)
  all_below (suc k) names =
      let below = all_below k (fewer k (suc k) (omega arith) names) in
      λ j n its h stands. tell_at j n its stands (λ i m other b w. below i m other (omega (arith, h, b)) w) (fewer j (suc k) (omega (arith, h)) names)

pub guards_tell : GuardsTell
guards_tell g edges order guards o es gs k n its v stands names = tell_at g edges order guards o es gs v k n its stands (all_below g edges order guards o es gs v k names) names
