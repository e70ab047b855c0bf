-- How many blocks the flow of pieces has, how many nodes they name and which, and that they keep the rule of flows.
use Rattle.std.proofs.Common.{◌≡◌, ℕ, ◌+◌, ◌-◌, ◌^◌, ◌<◌, ◌≤◌, Bool, true, false, cond, nat_eq, nat_le, ◌&&◌, List, [], ◌∷◌, ◌++◌, length, get_or, map, Option, Some, None, refl, sym, ap, ◌∙◌, subst, arith, length-append, ⊎_elim}
use Rattle.std.specs.Prelude.{IsTrue, slice_get, All, Contains}
use Rattle.std.proofs.lemmas.Bool.{cases_lt, lt-ltb}
use Rattle.std.proofs.lemmas.List.{length-map}
use Rattle.std.proofs.lemmas.List.Elements.{All-nil, All-append, All-map}
use Rattle.c_syntax.specs.declared.syntax.CExpr.{CExpr-F}
use Rattle.c_syntax.specs.Depth.{word_depth}
use Rattle.c_syntax.specs.Formed.{is_word}
use Rattle.c_words.specs.Built.{num}
use Rattle.c_words.proofs.Layers.{word_depth_layer}
use Rattle.micro_ir.specs.declared.flow.Case.{Case}
use Rattle.micro_ir.specs.declared.flow.Block.{Block}
use Rattle.micro_ir.specs.declared.flow.End.{End as BlockEnd}
use Rattle.micro_ir.specs.declared.flow.End.TheVariants as end
use Rattle.micro_ir.specs.Checked.{nodes_of}
use Rattle.micro_ir.specs.Laws.{moved_case, moved_end}
use Rattle.micro_ir.specs.Rule.{has_flow_names, is_flow_word, have_words, is_flow_end, are_flow_stmts, is_flow_block, are_flow_blocks, nodes_in}
use Rattle.micro_ir.proofs.Values.{both_true, names_layer}
use Rattle.lift_parts.proofs.Fit.{both_hold}
use Rattle.flow_pieces.specs.declared.piece.FlowPiece.{FlowPiece}
use Rattle.range_flow.specs.Pieces.{leave_block, first_node, node_of, flow_node, moved_block, blocks_from}
use Rattle.range_flow.proofs.Members.{below_true, below_false, contains_here, contains_later, mapped}
use Rattle.range_flow.proofs.Numbering.{piece_at}

-- ---- counts

abbrev pub block_total : List FlowPiece → ℕ
block_total [] = 0
block_total (p ∷ ps) = length p.blocks + block_total ps

abbrev pub node_total : List FlowPiece → ℕ
node_total [] = 0
node_total (p ∷ ps) = length (nodes_in p.blocks) + node_total ps

pub block_total-append : (xs ys : List FlowPiece) → block_total (xs ++ ys) ≡ block_total xs + block_total ys
block_total-append [] ys = omega arith
block_total-append (x ∷ xs) ys = omega (arith, block_total-append xs ys)

pub node_total-append : (xs ys : List FlowPiece) → node_total (xs ++ ys) ≡ node_total xs + node_total ys
node_total-append [] ys = omega arith
node_total-append (x ∷ xs) ys = omega (arith, node_total-append xs ys)

pub count_blocks : (all : List FlowPiece) (s : ℕ) (ps : List FlowPiece) → length (blocks_from all s ps) ≡ block_total ps
count_blocks all s [] = refl
count_blocks all s (p ∷ ps) =
    let own = map (moved_block (flow_node all s p)) p.blocks in
    omega (arith, length-append own (blocks_from all (s + length p.blocks) ps), length-map p.blocks (moved_block (flow_node all s p)), count_blocks all (s + length p.blocks) ps)

cases_moved : (f : ℕ → ℕ) (cases : List Case) → map (λ c. c.to) (map (moved_case f) cases) ≡ map f (map (λ c. c.to) cases)
cases_moved f [] = refl
cases_moved f (c ∷ cases) = ap (λ l. f c.to ∷ l) (cases_moved f cases)

pub nodes_moved : (f : ℕ → ℕ) (e : BlockEnd) → nodes_of (moved_end f e) ≡ map f (nodes_of e)
nodes_moved f (end.Go a) = refl
nodes_moved f (end.Branch t a b) = refl
nodes_moved f (end.Switch e cases) = cases_moved f cases
nodes_moved f end.Return = refl
nodes_moved f (end.Leave e) = refl

nodes_in-append : (xs ys : List Block) → length (nodes_in (xs ++ ys)) ≡ length (nodes_in xs) + length (nodes_in ys)
nodes_in-append [] ys = omega arith
nodes_in-append (x ∷ xs) ys =
    omega (arith, length-append (nodes_of x.end) (nodes_in (xs ++ ys)), length-append (nodes_of x.end) (nodes_in xs), nodes_in-append xs ys)

nodes_in_moved : (f : ℕ → ℕ) (bs : List Block) → length (nodes_in (map (moved_block f) bs)) ≡ length (nodes_in bs)
nodes_in_moved f [] = refl
nodes_in_moved f (b ∷ bs) =
    let own : length (nodes_of (moved_end f b.end)) ≡ length (nodes_of b.end) = ap length (nodes_moved f b.end) ∙ length-map (nodes_of b.end) f in
    omega (arith, own, nodes_in_moved f bs, length-append (nodes_of (moved_end f b.end)) (nodes_in (map (moved_block f) bs)), length-append (nodes_of b.end) (nodes_in bs))

pub count_nodes : (all : List FlowPiece) (s : ℕ) (ps : List FlowPiece) → length (nodes_in (blocks_from all s ps)) ≡ node_total ps
count_nodes all s [] = refl
count_nodes all s (p ∷ ps) =
    let own = map (moved_block (flow_node all s p)) p.blocks in
    omega (arith, nodes_in-append own (blocks_from all (s + length p.blocks) ps), nodes_in_moved (flow_node all s p) p.blocks, count_nodes all (s + length p.blocks) ps)

-- ---- the nodes are below the count

first_at : (p : FlowPiece) (ps : List FlowPiece) (a : ℕ) (q : FlowPiece) → (piece_at ps a ≡ Some q → first_node ps a + length q.blocks ≤ block_total ps) → (t : Bool) → cond t (Some p) (piece_at ps a) ≡ Some q
    → cond t 0 (length p.blocks + first_node ps a) + length q.blocks ≤ block_total (p ∷ ps)
first_at p ps a q h true e = let same : p ≡ q = cc in omega (arith, ap (λ x. length x.blocks) same)
first_at p ps a q h false e = omega (arith, h e)

pub first_within : (ps : List FlowPiece) (a : ℕ) (q : FlowPiece) → piece_at ps a ≡ Some q → first_node ps a + length q.blocks ≤ block_total ps
first_within [] a q e = absurd (let z : ⊥ = cc in z)
first_within (p ∷ ps) a q e = first_at p ps a q (first_within ps a q) (nat_eq p.at a) e

abbrev pub NodesBelow : ℕ → Block → Type 0
NodesBelow n b = (a : ℕ) → Contains (nodes_of b.end) a → a < n

module _ (all : List FlowPiece) (n : ℕ) (some : 0 < n) where
  abbrev LeadsBelow : FlowPiece → Type 0
  LeadsBelow p = (j b : ℕ) → slice_get p.successors j ≡ Some b → first_node all b < n

  next_below : (p : FlowPiece) (j : ℕ) → LeadsBelow p → (o : Option ℕ) → slice_get p.successors j ≡ o → node_of all o < n
  next_below p j h None e = some
  next_below p j h (Some b) e = h j b e

  node_below : (s : ℕ) (p : FlowPiece) → s + length p.blocks ≤ n → LeadsBelow p → (k : ℕ) → flow_node all s p k < n
  node_below s p le h k =
      ⊎_elim
      (λ lt. subst (λ t. cond t (s + k) (node_of all (slice_get p.successors (k - length p.blocks))) < n) (sym (below_true k (length p.blocks) lt)) (omega (arith, lt, le)))
      (λ ge. subst (λ t. cond t (s + k) (node_of all (slice_get p.successors (k - length p.blocks))) < n) (sym (below_false k (length p.blocks) ge)) (next_below p (k - length p.blocks) h _ refl))
      (cases_lt k (length p.blocks))

  moved_below : (f : ℕ → ℕ) → ((k : ℕ) → f k < n) → (b : Block) → NodesBelow n (moved_block f b)
  moved_below f h b a g = let m = mapped f (nodes_of b.end) a (subst (λ l. Contains l a) (nodes_moved f b.end) g) in subst (λ x. x < n) m.2 (h m.0)

  pub blocks_below : (s : ℕ) (ps : List FlowPiece) → s + block_total ps ≤ n → ((p : FlowPiece) → Contains ps p → LeadsBelow p) → All (NodesBelow n) (blocks_from all s ps)
  blocks_below s [] le h = All-nil (NodesBelow n)
  blocks_below s (p ∷ ps) le h =
      let f = flow_node all s p in
      All-append (NodesBelow n) (map (moved_block f) p.blocks) (blocks_from all (s + length p.blocks) ps)
      (All-map (NodesBelow n) (moved_block f) p.blocks (λ k d lt. moved_below f (node_below s p (omega (arith, le)) (h p (contains_here p ps))) (get_or p.blocks k d)))
      (blocks_below (s + length p.blocks) ps (omega (arith, le)) (λ q g. h q (contains_later p q ps g)))

-- ---- the rule of flows

words_moved : (f : ℕ → ℕ) (cases : List Case) → have_words (map (moved_case f) cases) ≡ have_words cases
words_moved f [] = refl
words_moved f (c ∷ cases) = ap (λ t. is_word c.value && t) (words_moved f cases)

end_moved : (f : ℕ → ℕ) (e : BlockEnd) → is_flow_end (moved_end f e) ≡ is_flow_end e
end_moved f (end.Go a) = refl
end_moved f (end.Branch t a b) = refl
end_moved f (end.Switch e cases) = ap (λ t. is_flow_word e && t) (words_moved f cases)
end_moved f end.Return = refl
end_moved f (end.Leave e) = refl

rule_moved : (f : ℕ → ℕ) (bs : List Block) → are_flow_blocks (map (moved_block f) bs) ≡ are_flow_blocks bs
rule_moved f [] = refl
rule_moved f (b ∷ bs) =
    ap (λ t. (are_flow_stmts b.stmts && t) && are_flow_blocks (map (moved_block f) bs)) (end_moved f b.end) ∙ ap (λ t. is_flow_block b && t) (rule_moved f bs)

rule-append : (xs ys : List Block) → IsTrue (are_flow_blocks xs) → IsTrue (are_flow_blocks ys) → IsTrue (are_flow_blocks (xs ++ ys))
rule-append [] ys h g = g
rule-append (x ∷ xs) ys h g = let t = both_true (is_flow_block x) (are_flow_blocks xs) h in both_hold (is_flow_block x) (are_flow_blocks (xs ++ ys)) t.0 (rule-append xs ys t.1 g)

-- pieces whose blocks keep the rule make a flow that does
pub rule_joined : (all : List FlowPiece) (s : ℕ) (ps : List FlowPiece) → ((p : FlowPiece) → Contains ps p → IsTrue (are_flow_blocks p.blocks)) → IsTrue (are_flow_blocks (blocks_from all s ps))
rule_joined all s [] h = refl
rule_joined all s (p ∷ ps) h =
    rule-append (map (moved_block (flow_node all s p)) p.blocks) (blocks_from all (s + length p.blocks) ps)
    (subst (λ t. IsTrue t) (sym (rule_moved (flow_node all s p) p.blocks)) (h p (contains_here p ps)))
    (rule_joined all (s + length p.blocks) ps (λ q g. h q (contains_later p q ps g)))

pub leave_rule : (a : ℕ) → a < 2 ^ 32 → IsTrue (are_flow_blocks (leave_block a ∷ []))
leave_rule a h =
    let names : IsTrue (has_flow_names (num a)) = names_layer (CExpr-F.Num a) ∙ lt-ltb a (2 ^ 32) h in
    let deep : IsTrue (nat_le (word_depth (num a)) 64) = ap (λ d. nat_le d 64) (word_depth_layer (CExpr-F.Num a)) in
    let word : IsTrue (is_flow_word (num a)) = both_hold (has_flow_names (num a)) (nat_le (word_depth (num a)) 64) names deep in
    both_hold (is_flow_block (leave_block a)) true word refl
