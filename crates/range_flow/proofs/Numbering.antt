-- The flow's block at each node of a piece.
use Rattle.std.proofs.Common.{◌≡◌, ◌⊎◌, inl, inr, ℕ, ◌+◌, ◌-◌, ◌<◌, ◌≤◌, Bool, true, false, cond, nat_eq, List, [], ◌∷◌, ◌++◌, length, map, Option, Some, None, refl, sym, ap, ◌∙◌, subst, arith}
use Rattle.std.specs.Prelude.{slice_get, Contains}
use Rattle.std.specs.Option.{option_map}
use Rattle.std.proofs.lemmas.Option.{slice_get-map}
use Rattle.std.proofs.lemmas.List.{length-map}
use Rattle.run_parts.specs.World.{World}
use Rattle.micro_ir.specs.declared.flow.Block.{Block}
use Rattle.micro_ir.specs.Run.{enter}
use Rattle.micro_ir.specs.Laws.{relocate}
use Rattle.micro_ir.proofs.Moves.{blocks_move}
use Rattle.flow_pieces.specs.declared.piece.FlowPiece.{FlowPiece}
use Rattle.range_flow.specs.Pieces.{addresses_of, first_node, node_of, flow_node, moved_block, blocks_from, flow_blocks}
use Rattle.range_flow.proofs.Members.{below_true, below_false, equal_of, itself, contains_here, contains_later, contains_cases, none_in, get_below, get_left, get_right}

-- the first piece at an address
abbrev pub piece_at : List FlowPiece → ℕ → Option FlowPiece
piece_at [] a = None
piece_at (p ∷ ps) a = cond (nat_eq p.at a) (Some p) (piece_at ps a)

-- ---- which piece stands at an address

found_at : (p : FlowPiece) (ps : List FlowPiece) (a : ℕ) → ((p.at ≡ a) ⊎ ((q : FlowPiece) × (piece_at ps a ≡ Some q))) → (b : Bool) → nat_eq p.at a ≡ b → (q : FlowPiece) × (cond b (Some p) (piece_at ps a) ≡ Some q)
found_at p ps a h true e = (p, refl)
found_at p ps a (inl s) false e = absurd (let t : nat_eq p.at a ≡ true = subst (λ x. nat_eq p.at x ≡ true) s (itself p.at) in let z : ⊥ = cc in z)
found_at p ps a (inr h) false e = h

-- an address of a piece has one
pub piece_found : (ps : List FlowPiece) (a : ℕ) → Contains (addresses_of ps) a → (q : FlowPiece) × (piece_at ps a ≡ Some q)
piece_found [] a h = absurd (none_in a h)
piece_found (p ∷ ps) a h = elim (contains_cases p.at a (addresses_of ps) h) [
  | inl e ↦ found_at p ps a (inl e) (nat_eq p.at a) refl
  | inr g ↦ found_at p ps a (inr (piece_found ps a g)) (nat_eq p.at a) refl
]

member_at : (p : FlowPiece) (ps : List FlowPiece) (a : ℕ) (q : FlowPiece) → (piece_at ps a ≡ Some q → Contains ps q × (q.at ≡ a)) → (b : Bool) → nat_eq p.at a ≡ b → cond b (Some p) (piece_at ps a) ≡ Some q → Contains (p ∷ ps) q × (q.at ≡ a)
member_at p ps a q h true e g =
    let s : p ≡ q = cc in
    subst (λ x. Contains (p ∷ ps) x × (x.at ≡ a)) s (contains_here p ps, equal_of p.at a e)
member_at p ps a q h false e g = let r = h g in (contains_later p q ps r.0, r.1)

-- it is one of the pieces, and has that address
pub piece_member : (ps : List FlowPiece) (a : ℕ) (q : FlowPiece) → piece_at ps a ≡ Some q → Contains ps q × (q.at ≡ a)
piece_member [] a q e = absurd (let z : ⊥ = cc in z)
piece_member (p ∷ ps) a q e = member_at p ps a q (piece_member ps a q) (nat_eq p.at a) refl e

-- ---- its blocks in the flow

moved_get : (f : ℕ → ℕ) (bs : List Block) (i : ℕ) (b : Block) → slice_get bs i ≡ Some b → slice_get (map (moved_block f) bs) i ≡ Some (moved_block f b)
moved_get f bs i b e = slice_get-map (moved_block f) bs i ∙ ap (λ o. option_map (moved_block f) o) e

block_at : (all : List FlowPiece) (s : ℕ) (p : FlowPiece) (ps : List FlowPiece) (a i : ℕ) (q : FlowPiece) (b : Block)
    → (piece_at ps a ≡ Some q → slice_get (blocks_from all (s + length p.blocks) ps) (first_node ps a + i) ≡ Some (moved_block (flow_node all (s + length p.blocks + first_node ps a) q) b))
    → slice_get q.blocks i ≡ Some b → (t : Bool) → cond t (Some p) (piece_at ps a) ≡ Some q
    → slice_get (blocks_from all s (p ∷ ps)) (cond t 0 (length p.blocks + first_node ps a) + i) ≡ Some (moved_block (flow_node all (s + cond t 0 (length p.blocks + first_node ps a)) q) b)
block_at all s p ps a i q b h g true e =
    let same : p ≡ q = cc in
    let own = map (moved_block (flow_node all s p)) p.blocks in
    let rest = blocks_from all (s + length p.blocks) ps in
    let first : 0 + i ≡ i = omega arith in
    let start : s ≡ s + 0 = omega arith in
    ap (λ j. slice_get (own ++ rest) j) first
    ∙ get_left own rest i (moved_block (flow_node all s p) b) (moved_get (flow_node all s p) p.blocks i b (subst (λ x. slice_get x.blocks i ≡ Some b) (sym same) g))
    ∙ ap (λ x. Some (moved_block (flow_node all s x) b)) same
    ∙ ap (λ n. Some (moved_block (flow_node all n q) b)) start
block_at all s p ps a i q b h g false e =
    let own = map (moved_block (flow_node all s p)) p.blocks in
    let rest = blocks_from all (s + length p.blocks) ps in
    let count : length own ≡ length p.blocks = length-map p.blocks (moved_block (flow_node all s p)) in
    let place : length p.blocks + first_node ps a + i ≡ length own + (first_node ps a + i) = omega (arith, count) in
    let start : s + length p.blocks + first_node ps a ≡ s + (length p.blocks + first_node ps a) = omega arith in
    ap (λ j. slice_get (own ++ rest) j) place
    ∙ get_right own rest (first_node ps a + i)
    ∙ h e
    ∙ ap (λ n. Some (moved_block (flow_node all n q) b)) start

block_found : (all : List FlowPiece) (s : ℕ) (ps : List FlowPiece) (a i : ℕ) (q : FlowPiece) (b : Block) → piece_at ps a ≡ Some q → slice_get q.blocks i ≡ Some b
    → slice_get (blocks_from all s ps) (first_node ps a + i) ≡ Some (moved_block (flow_node all (s + first_node ps a) q) b)
block_found all s [] a i q b e g = absurd (let z : ⊥ = cc in z)
block_found all s (p ∷ ps) a i q b e g = block_at all s p ps a i q b (λ f. block_found all (s + length p.blocks) ps a i q b f g) g (nat_eq p.at a) e

-- what the flow does at a node of a piece: what the piece's own block does, with the flow's nodes
pub entered : (ps : List FlowPiece) (a i : ℕ) (q : FlowPiece) (w : World) → piece_at ps a ≡ Some q → i < length q.blocks
    → enter (slice_get (flow_blocks ps) (first_node ps a + i)) w ≡ relocate (flow_node ps (first_node ps a) q) (enter (slice_get q.blocks i) w)
entered ps a i q w e lt =
    let g = get_below q.blocks i lt in
    let f = flow_node ps (first_node ps a) q in
    let start : 0 + first_node ps a ≡ first_node ps a = omega arith in
    ap (λ o. enter o w) (block_found ps 0 ps a i q g.0 e g.1 ∙ ap (λ n. Some (moved_block (flow_node ps n q) g.0)) start)
    ∙ blocks_move f g.0 (moved_block f g.0) w refl refl
    ∙ ap (λ o. relocate f (enter o w)) (sym g.1)

-- ---- the flow's nodes: of a block of the piece itself, and of a successor

pub own_node : (ps : List FlowPiece) (s i : ℕ) (p : FlowPiece) → i < length p.blocks → flow_node ps s p i ≡ s + i
own_node ps s i p lt = ap (λ b. cond b (s + i) (node_of ps (slice_get p.successors (i - length p.blocks)))) (below_true i (length p.blocks) lt)

pub next_node : (ps : List FlowPiece) (s : ℕ) (p : FlowPiece) (n j b : ℕ) → n ≡ length p.blocks + j → slice_get p.successors j ≡ Some b → flow_node ps s p n ≡ first_node ps b
next_node ps s p n j b e g =
    let big : length p.blocks ≤ n = omega (arith, e) in
    let rest : n - length p.blocks ≡ j = omega (arith, e) in
    ap (λ t. cond t (s + n) (node_of ps (slice_get p.successors (n - length p.blocks)))) (below_false n (length p.blocks) big)
    ∙ ap (λ i. node_of ps (slice_get p.successors i)) rest ∙ ap (λ o. node_of ps o) g
