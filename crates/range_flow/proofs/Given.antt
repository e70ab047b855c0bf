-- The flow of a range may be given.
use Rattle.std.proofs.Common.{◌≡◌, inl, inr, ℕ, ◌*◌, ◌^◌, ◌<◌, ◌≤◌, nat_eq, List, [], ◌∷◌, ◌++◌, length, Some, refl, sym, ap, ◌∙◌, subst, arith, length-append}
use Rattle.std.specs.Prelude.{IsTrue, slice_get, All, Contains}
use Rattle.std.specs.List.{IsDistinct}
use Rattle.std.proofs.lemmas.Bool.Decides.{Decides-eqb}
use Rattle.std.proofs.lemmas.Cmp.{nat_eq_equiv}
use Rattle.std.proofs.lemmas.List.{length-map}
use Rattle.std.proofs.lemmas.List.Elements.{All-contains, Contains-append_left, Contains-append_right, Contains-append_cases}
use Rattle.std.proofs.lemmas.Map.Made.{length-le_from_is_member, is_member-Decides}
use Rattle.elf_image.specs.declared.image.Segment.{Segment}
use Rattle.elf_image.specs.declared.range.Range.{Range}
use Rattle.micro_ir.specs.declared.flow.Flow.{Flow}
use Rattle.micro_ir.specs.Rule.{are_flow_blocks, nodes_in}
use Rattle.flow_pieces.specs.declared.piece.FlowPiece.{FlowPiece}
use Rattle.range_flow.specs.Pieces.{IsPieceOf, IsLeaveTo, addresses_of, first_node, flow_blocks}
use Rattle.range_flow.specs.Flow.{AreCovering, IsFlowOf}
use Rattle.range_flow.specs.Laws.{FlowIsGiven}
use Rattle.range_flow.proofs.Members.{contains_cases, contains_got, contains_here, contains_later, none_in}
use Rattle.range_flow.proofs.Numbering.{piece_found, piece_member}
use Rattle.range_flow.proofs.Standing.{IsSmall, small, begins, rule}
use Rattle.range_flow.proofs.Joined.{NodesBelow, block_total, node_total, block_total-append, node_total-append, count_blocks, count_nodes, first_within, blocks_below, rule_joined, leave_rule}
use Rattle.range_flow.proofs.RangePlan.{has_place, all_closed}

-- the successors of all pieces
abbrev all_successors : List FlowPiece → List ℕ
all_successors [] = []
all_successors (p ∷ ps) = p.successors ++ all_successors ps

all_contain : (ps : List FlowPiece) (p : FlowPiece) (a : ℕ) → Contains ps p → Contains p.successors a → Contains (all_successors ps) a
all_contain [] p a h g = absurd (none_in p h)
all_contain (q ∷ ps) p a h g = elim (contains_cases q p ps h) [
  | inl e ↦ Contains-append_left q.successors (all_successors ps) a (subst (λ x. Contains x.successors a) (sym e) g)
  | inr i ↦ Contains-append_right q.successors (all_successors ps) a (all_contain ps p a i g)
]

module _ (m : List Segment) (r : Range) where
  -- ---- of the pieces of places

  pieces_few : (ps : List FlowPiece) → ((p : FlowPiece) → Contains ps p → IsPieceOf m r p)
      → (block_total ps ≤ 2 * length ps) × (node_total ps ≤ 1026 * length ps) × (length (all_successors ps) ≤ 1025 * length ps)
  pieces_few [] h = (omega arith, omega arith, omega arith)
  pieces_few (p ∷ ps) h =
      let i : IsSmall m r p = small m r p (h p (contains_here p ps)) in
      let rest = pieces_few ps (λ q g. h q (contains_later p q ps g)) in
      (omega (arith, rest.0, i.blocks), omega (arith, rest.1, i.nodes), omega (arith, rest.2, i.successors, length-append p.successors (all_successors ps)))

-- ---- of the pieces of addresses outside

leaves_few : (ps : List FlowPiece) → ((p : FlowPiece) → Contains ps p → IsLeaveTo p) → (block_total ps ≡ length ps) × (node_total ps ≡ 0)
leaves_few [] h = (refl, refl)
leaves_few (p ∷ ps) h =
    let l = h p (contains_here p ps) in
    let rest = leaves_few ps (λ q g. h q (contains_later p q ps g)) in
    (omega (arith, rest.0, ap length l.blocks), omega (arith, rest.1, ap (λ bs. length (nodes_in bs)) l.blocks))

-- different numbers that all stand in a list are no more than it has
no_more : (xs ys : List ℕ) → IsDistinct nat_eq xs → ((a : ℕ) → Contains xs a → Contains ys a) → length xs ≤ length ys
no_more xs ys once h =
    length-le_from_is_member nat_eq_equiv xs ys once
    (λ q t. (is_member-Decides Decides-eqb ys q).1 (h q ((is_member-Decides Decides-eqb xs q).0 t)))

-- ---- the flow

module _ (m : List Segment) (r : Range) (places : List ℕ) (f : Flow) (covering : AreCovering m r places) (is : IsFlowOf m r places f) where
  abbrev all : List FlowPiece
  all = is.inner ++ is.outer

  piece : (p : FlowPiece) → Contains is.inner p → IsPieceOf m r p
  piece p h = All-contains (IsPieceOf m r) is.inner p is.instructions h

  leave : (p : FlowPiece) → Contains is.outer p → IsLeaveTo p
  leave p h = All-contains IsLeaveTo is.outer p is.leaves h

  outer_few : length is.outer ≤ length (all_successors is.inner)
  outer_few =
      subst (λ n. n ≤ length (all_successors is.inner)) (length-map is.outer (λ p. p.at))
      (no_more (addresses_of is.outer) (all_successors is.inner) is.once (λ a h. let o = is.outside a h in all_contain is.inner o.1 a o.2 o.3))

  few : length places ≤ 2 ^ 16 → (block_total all < 2 ^ 30) × (node_total all < 2 ^ 30)
  few le =
      let i = pieces_few m r is.inner piece in
      let o = leaves_few is.outer leave in
      let count : length is.inner ≤ 2 ^ 16 = subst (λ n. n ≤ 2 ^ 16) (sym (ap length is.at_places) ∙ length-map is.inner (λ p. p.at)) le in (
        omega (arith, block_total-append is.inner is.outer, i.0, i.2, o.0, outer_few, count),
        omega (arith, node_total-append is.inner is.outer, i.1, o.1, count),
      )

  piece_rule : (p : FlowPiece) → Contains all p → IsTrue (are_flow_blocks p.blocks)
  piece_rule p h = elim (Contains-append_cases is.inner is.outer p h) [
    | inl i ↦ rule m r p (piece p i)
    | inr o ↦ subst (λ bs. IsTrue (are_flow_blocks bs)) (sym (leave p o).blocks) (leave_rule p.at (leave p o).word)
  ]

  has_blocks : (p : FlowPiece) → Contains all p → 0 < length p.blocks
  has_blocks p h = elim (Contains-append_cases is.inner is.outer p h) [
    | inl i ↦ begins m r p (piece p i)
    | inr o ↦ subst (λ bs. 0 < length bs) (sym (leave p o).blocks) (omega arith)
  ]

  first_below : (a : ℕ) → Contains (addresses_of all) a → first_node all a < block_total all
  first_below a h =
      let q = piece_found all a h in
      omega (arith, first_within all a q.0 q.1, has_blocks q.0 (piece_member all a q.0 q.1).0)

  some_blocks : 0 < block_total all
  some_blocks =
      let h : Contains (addresses_of all) r.entry = has_place m r places f covering is r.entry (inl (contains_got places 0 r.entry covering.entry)) in
      omega (arith, first_below r.entry h)

  below : All (NodesBelow (block_total all)) (flow_blocks all)
  below = blocks_below all (block_total all) some_blocks 0 all (omega arith) (λ p h j b e. first_below b (all_closed m r places f covering is p b h (contains_got p.successors j b e)))

pub flow_is_given : FlowIsGiven
flow_is_given m r places f covering is le =
    let ps = is.inner ++ is.outer in
    let count : length f.blocks ≡ block_total ps = ap length is.blocks ∙ count_blocks ps 0 ps in
    let nodes : length (nodes_in f.blocks) ≡ node_total ps = ap (λ bs. length (nodes_in bs)) is.blocks ∙ count_nodes ps 0 ps in
    let f' = few m r places f covering is le in
    record {
      checked = record {
        entry_inside = omega (arith, is.entry, count, some_blocks m r places f covering is);
        nodes_inside = λ n a b here named.
            subst (λ c. a < c) (sym count)
            (All-contains (NodesBelow (block_total ps)) (flow_blocks ps) b (below m r places f covering is) (contains_got (flow_blocks ps) n b (subst (λ bs. slice_get bs n ≡ Some b) is.blocks here)) a named);
      };
      rule = subst (λ bs. IsTrue (are_flow_blocks bs)) (sym is.blocks) (rule_joined ps 0 ps (piece_rule m r places f covering is));
      few_blocks = subst (λ c. c < 2 ^ 30) (sym count) f'.0;
      few_nodes = subst (λ c. c < 2 ^ 30) (sym nodes) f'.1;
    }
