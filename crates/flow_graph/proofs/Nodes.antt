-- Each node of what is discovered is that of its place.
use Rattle.std.proofs.Common.{◌≡◌, ℕ, zero, suc, ◌<◌, List, [], ◌∷◌, length, get_or, map, Some, refl, ap, ◌∙◌, subst, arith}
use Rattle.std.specs.Prelude.{Contains, slice_get}
use Rattle.elf_image.specs.declared.image.Segment.{Segment}
use Rattle.elf_image.specs.declared.range.Range.{Range}
use Rattle.graph_order.specs.Graph.{Digraph}
use Rattle.flow_graph.specs.declared.place.Cause.TheVariants.{Instruction, Straddle}
use Rattle.flow_graph.specs.Place.{HasNoPlace}
use Rattle.flow_graph.specs.Discovery as list
use Rattle.flow_graph.specs.Discovery.{number_in, HasSuccessors, IsDiscovered}
use Rattle.flow_graph.specs.Laws.{IsNode, NodesAreTheirPlaces}
use Rattle.flow_graph.proofs.Walked.{zip_at}
use Rattle.flow_graph.proofs.OneDiscoveries.{grows}

-- a place that is read from a list is in it
read : (ks : List ℕ) (k a : ℕ) → slice_get ks k ≡ Some a → (k < length ks) × (get_or ks k a ≡ a)
read [] k a h = absurd (let z : ⊥ = cc in z)
read (x ∷ ks) zero a h = let e : x ≡ a = cc in (omega arith, e)
read (x ∷ ks) (suc k) a h = let p = read ks k a h in (omega (arith, p.0), p.1)

-- the list at a place, by numbers
at_map : (f : ℕ → ℕ) (xss : List (List ℕ)) (k : ℕ) → get_or (map (map f) xss) k [] ≡ map f (get_or xss k [])
at_map f [] k = refl
at_map f (xs ∷ xss) zero = refl
at_map f (xs ∷ xss) (suc k) = at_map f xss k

node_by : (m : List Segment) (r : Range) (places : List ℕ) (g : Digraph) (k a : ℕ) (successors : List ℕ) → HasNoPlace m r → IsDiscovered m r places g → Contains places a
    → get_or g.succ k [] ≡ map (number_in places) successors → HasSuccessors m r a successors → IsNode m r places g k a
node_by m r places g k a successors none d there is (list.begins all b e) = record { all = all; leads = b; list = is ∙ ap (map (number_in places)) e }
node_by m r places g k a successors none d there is (list.none empty e) =
    let reached = (d.reached a).0 there in
    absurd (none.reached a Instruction reached (empty, λ begun. none.reached a Straddle reached (empty, begun)))

pub nodes_are : NodesAreTheirPlaces
nodes_are m r places g d none = (
  (let p = grows m r places g d 0 in ap (λ l. slice_get l 0) p.1),
  λ k a h. (let q = read places k a h in
      let z = zip_at (HasSuccessors m r) places d.lists k a [] d.listed q.0 in
      let succ : get_or g.succ k [] ≡ map (number_in places) (get_or d.lists k []) = ap (λ x. get_or x.succ k []) d.graph ∙ at_map (number_in places) d.lists k in
      node_by m r places g k a (get_or d.lists k []) none d (k, q.0, q.1) succ (subst (λ x. HasSuccessors m r x (get_or d.lists k [])) q.1 z.1)),
)
