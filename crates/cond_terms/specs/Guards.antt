-- The guards of the nodes of a graph without cycles.
use Rattle.std.specs.Prelude.{◌≡◌, ◌≢◌, ◌↔◌, ℕ, ◌+◌, ◌<◌, ◌≤◌, true, List, [], ◌∷◌, length, Contains, slice_get, Some, All}
use Rattle.graph_order.specs.Graph.{Digraph, HasEdge, IsReached}
use Rattle.graph_order.specs.Order.{IsTopologicalOrder}
use Rattle.cond_terms.specs.declared.term.Lit.TheVariants as lit
use Rattle.cond_terms.specs.declared.term.Term.{Term}
use Rattle.cond_terms.specs.declared.term.Term.TheVariants as term
use Rattle.cond_terms.specs.declared.guards.Edge.{Edge}
use Rattle.cond_terms.specs.declared.guards.Guard.{Guard}
use Rattle.cond_terms.specs.declared.guards.Guard.TheVariants as guard
use Rattle.cond_terms.specs.Terms.{Valuation, term_truth, literals}
use Rattle.cond_terms.specs.Nesting.{nesting, IsPlain}

-- the term of a guard
abbrev pub term_of : Guard → Term
term_of (guard.Term t) = t
term_of (guard.Named x t) = t

-- what later guards read of a guard: its term, or the variable that is its name
abbrev pub read_of : Guard → Term
read_of (guard.Term t) = t
read_of (guard.Named x t) = term.Lit (lit.Bool x)

-- A node is taken under a valuation: it is the entry, or an edge whose term is true comes to it from a node that is taken.
pub data IsTaken (entry : ℕ) (edges : List Edge) (v : Valuation) : ℕ → Type 0 where
  begins : {n : ℕ} → n ≡ entry → IsTaken entry edges v n
  along : {n : ℕ} (e : Edge) → Contains edges e → e.to ≡ n → term_truth e.term v ≡ true → IsTaken entry edges v e.from → IsTaken entry edges v n

-- each edge goes from a reached node to one of its successors
abbrev pub AreEdgesOf : Digraph → List Edge → Type 0
AreEdgesOf g edges = (e : Edge) → Contains edges e → IsReached g e.from × HasEdge g e.from e.to

-- the guard of a node stands where the node stands in the order
pub record IsGuardAt (order : List ℕ) (guards : List Guard) (k n : ℕ) (its : Guard) : Type 0 where
  pub node : slice_get order k ≡ Some n
  pub guarded : slice_get guards k ≡ Some its

-- the name of each guard before place k tells: the variable isn't 0 exactly where the node is taken
abbrev pub NamesTell : ℕ → List Edge → List ℕ → List Guard → ℕ → Valuation → Type 0
NamesTell entry edges order guards k v =
    (j n x : ℕ) (t : Term) → j < k → IsGuardAt order guards j n (guard.Named x t) → ((term_truth (term.Lit (lit.Bool x)) v ≡ true) ↔ IsTaken entry edges v n)

-- an edge comes to n under a valuation: its term and what is read of the guard of its source are true
pub record Comes (edges : List Edge) (order : List ℕ) (guards : List Guard) (n : ℕ) (v : Valuation) : Type 0 where
  pub edge : Edge
  pub listed : Contains edges edge
  pub here : edge.to ≡ n
  pub true_term : term_truth edge.term v ≡ true
  pub place : ℕ
  pub source : Guard
  pub source_at : IsGuardAt order guards place edge.from source
  pub true_source : term_truth (read_of source) v ≡ true

-- One guard for each node of the order: that of the entry is true; every other is true exactly where an edge comes to its node.
pub record AreGuards (entry : ℕ) (edges : List Edge) (order : List ℕ) (guards : List Guard) : Type 0 where
  pub one_each : length guards ≡ length order
  pub entry_true : (k : ℕ) (its : Guard) (v : Valuation) → IsGuardAt order guards k entry its → term_truth (term_of its) v ≡ true
  pub others : (k n : ℕ) (its : Guard) (v : Valuation) → IsGuardAt order guards k n its → n ≢ entry → ((term_truth (term_of its) v ≡ true) ↔ Comes edges order guards n v)

-- Where the names of the earlier guards tell, a guard's term is true exactly where its node is taken; so a name that is set to its
-- term at its place tells too, whatever the variables of later guards hold.
abbrev pub GuardsTell : Type 0
GuardsTell = (g : Digraph) (edges : List Edge) (order : List ℕ) (guards : List Guard) → IsTopologicalOrder g order → AreEdgesOf g edges
    → AreGuards g.entry edges order guards → (k n : ℕ) (its : Guard) (v : Valuation) → IsGuardAt order guards k n its
    → NamesTell g.entry edges order guards k v → ((term_truth (term_of its) v ≡ true) ↔ IsTaken g.entry edges v n)

-- the name of each guard before place k is set: its variable isn't 0 exactly where its term is true
abbrev pub NamesSet : List Guard → ℕ → Valuation → Type 0
NamesSet guards k v = (j x : ℕ) (t : Term) → j < k → slice_get guards j ≡ Some (guard.Named x t) → term_truth (term.Lit (lit.Bool x)) v ≡ term_truth t v

-- where the names of the earlier guards are set, a guard's term is true exactly where its node is taken
abbrev pub TellTaken : ℕ → List Edge → List ℕ → List Guard → Type 0
TellTaken entry edges order guards =
    (k n : ℕ) (its : Guard) (v : Valuation) → IsGuardAt order guards k n its → NamesSet guards k v → ((term_truth (term_of its) v ≡ true) ↔ IsTaken entry edges v n)

-- how many names a guard has
abbrev pub names_of : Guard → ℕ
names_of (guard.Term t) = 0
names_of (guard.Named x t) = 1

-- a guard has this name where its term has more than 64 literals, and else none
abbrev pub IsNamedAs : ℕ → Guard → Type 0
IsNamedAs name (guard.Term t) = literals t ≤ 64
IsNamedAs name (guard.Named x t) = (64 < literals t) × (x ≡ name)

-- each guard has a name exactly where its term has more than 64 literals, and the names count up
abbrev pub AreNamed : ℕ → List Guard → Type 0
AreNamed next [] = Unit
AreNamed next (its ∷ rest) = IsNamedAs next its × AreNamed (next + names_of its) rest

-- each edge's term is True, a literal or the Not of a literal
abbrev pub ArePlain : List Edge → Type 0
ArePlain edges = All (λ e. IsPlain e.term) edges

-- no guard has more than so many And, Or and Not nested in one another
abbrev pub AreShallow : ℕ → List Guard → Type 0
AreShallow most guards = All (λ its. nesting (term_of its) ≤ most) guards
