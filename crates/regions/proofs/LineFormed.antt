-- The tree of a line is well formed, and has no loop, no test and no selector.
use Rattle.std.proofs.Common.{map, ◌≡◌, ℕ, ◌+◌, false, List, [], ◌∷◌, length, Some, refl, sym, ap, ◌∙◌, subst, arith}
use Rattle.std.specs.Prelude.{IsTrue}
use Rattle.c_syntax.specs.Formed.{all}
use Rattle.micro_ir.specs.declared.flow.Block.{Block}
use Rattle.micro_ir.specs.declared.flow.Flow.{Flow}
use Rattle.micro_ir.specs.Rule.{is_flow_block, are_flow_blocks, KeepsRule}
use Rattle.guarded.specs.declared.tree.Tree.{Tree, Tree-F, roll-Tree}
use Rattle.guarded.specs.Uses.{joined, tree_uses}
use Rattle.guarded.specs.Counts.{Weights, total, stmts_count, end_count, tree_count, each_loop, each_test}
use Rattle.guarded.specs.Formed.{Bodies, deepest_alone, tree_allowed, tree_bodies, IsWellFormed}
use Rattle.guarded.proofs.Induct.{Each}
use Rattle.guarded.proofs.Layers.{allowed_layer, bodies_layer, uses_layer, count_layer}
use Rattle.regions.specs.Plain.{block_tree}
use Rattle.regions.specs.Straight.{line, in_line, straight_tree}
use Rattle.regions.specs.Laws.{IsStraightOf}
use Rattle.regions.proofs.Blocks.{block_rule}
use Rattle.regions.proofs.FlowWords.{AllUses, uses_append, uses_to, IsFlowName, IsTextName, text_names, flow_text, and_true}
use Rattle.regions.proofs.PlainFormed.{block_tree_allowed}
use Rattle.regions.proofs.Counted.{block_deep, block_counted, no_loops, no_tests, end_no_loop, end_no_test}
use Rattle.regions.proofs.Named.{block_named, no_selectors}
use Rattle.regions.proofs.Lines.{every_line, line_tree}
use Rattle.regions.proofs.LineRuns.{straight_follows}

-- the tree of a block that keeps the rule
record IsBlockTree (t : Tree) : Type 0 where
  block : Block
  rule : IsTrue (is_flow_block block)
  is : t ≡ block_tree block

blocks_in_line : (blocks : List Block) → IsTrue (are_flow_blocks blocks) → (k n : ℕ) (ts : List Tree) → line blocks k n ≡ Some ts → Each IsBlockTree ts
blocks_in_line blocks h = every_line blocks (λ n ts. Each IsBlockTree ts)
    (λ n b e w. (record { block = b; rule = block_rule blocks n b e h; is = refl }, tt))
    (λ n c b ts e w r. (record { block = b; rule = block_rule blocks n b e h; is = refl }, r))

-- ---- each member

members_allowed : (ts : List Tree) → Each IsBlockTree ts → IsTrue (all (map tree_allowed ts) false)
members_allowed [] h = refl
members_allowed (t ∷ ts) h =
    and_true (tree_allowed t false) (all (map tree_allowed ts) false)
    (subst (λ u. IsTrue (tree_allowed u false)) (sym h.0.is) (block_tree_allowed h.0.block false h.0.rule)) (members_allowed ts h.1)

members_named : (ts : List Tree) → Each IsBlockTree ts → AllUses IsFlowName (joined (map tree_uses ts))
members_named [] h = tt
members_named (t ∷ ts) h =
    uses_append IsFlowName (tree_uses t) (joined (map tree_uses ts))
    (subst (λ u. AllUses IsFlowName (tree_uses u)) (sym h.0.is) (block_named h.0.block h.0.rule)) (members_named ts h.1)

members_deep : (ts : List Tree) → Each IsBlockTree ts → deepest_alone (map tree_bodies ts) ≡ 0
members_deep [] h = refl
members_deep (t ∷ ts) h =
    let e = ap (λ u. (tree_bodies u).alone) h.0.is ∙ block_deep h.0.block in
    let l = members_deep ts h.1 in
    omega (arith, e, l)

members_count : (w : Weights) → ((b : Block) → stmts_count w b.stmts + end_count w b.end ≡ 0) → (ts : List Tree) → Each IsBlockTree ts → total (map (tree_count w) ts) ≡ 0
members_count w z [] h = refl
members_count w z (t ∷ ts) h =
    let e = ap (tree_count w) h.0.is ∙ block_counted w h.0.block ∙ z h.0.block in
    let l = members_count w z ts h.1 in
    omega (arith, e, l)

no_loop_in : (b : Block) → stmts_count each_loop b.stmts + end_count each_loop b.end ≡ 0
no_loop_in b = let s = no_loops b.stmts in let e = end_no_loop b.end in omega (arith, s, e)

no_test_in : (b : Block) → stmts_count each_test b.stmts + end_count each_test b.end ≡ 0
no_test_in b = let s = no_tests b.stmts in let e = end_no_test b.end in omega (arith, s, e)

-- ---- the whole tree

uses_named : (ts : List Tree) → Each IsBlockTree ts → AllUses IsFlowName (tree_uses (roll-Tree (Tree-F.Seq ts)))
uses_named ts h = subst (λ us. AllUses IsFlowName us) (sym (uses_layer (Tree-F.Seq ts))) (members_named ts h)

well_formed : (ts : List Tree) → Each IsBlockTree ts → IsWellFormed (roll-Tree (Tree-F.Seq ts))
well_formed ts h = record {
  allowed = ap (λ g. g false) (allowed_layer (Tree-F.Seq ts)) ∙ members_allowed ts h;
  names = text_names (tree_uses (roll-Tree (Tree-F.Seq ts))) (uses_to IsFlowName IsTextName flow_text (tree_uses (roll-Tree (Tree-F.Seq ts))) (uses_named ts h));
  depth = let e = ap (λ (d : Bodies). d.alone) (bodies_layer (Tree-F.Seq ts)) in let m = members_deep ts h in omega (arith, e, m);
}

line_formed : (f : Flow) (ts : List Tree) → Each IsBlockTree ts → straight_tree f ≡ Some (roll-Tree (Tree-F.Seq ts)) → KeepsRule f → IsStraightOf f (roll-Tree (Tree-F.Seq ts))
line_formed f ts h e rule = record {
  formed = well_formed ts h;
  follows = straight_follows f (roll-Tree (Tree-F.Seq ts)) rule e;
  loops = count_layer each_loop (Tree-F.Seq ts) ∙ members_count each_loop no_loop_in ts h;
  selectors = no_selectors (roll-Tree (Tree-F.Seq ts)) (uses_named ts h);
  tests = count_layer each_test (Tree-F.Seq ts) ∙ members_count each_test no_test_in ts h;
}

pub is_straight_of : (f : Flow) (t : Tree) → KeepsRule f → straight_tree f ≡ Some t → IsStraightOf f t
is_straight_of f t rule h =
    let l = line_tree (line f.blocks (length f.blocks) f.entry) t h in
    let e : straight_tree f ≡ Some (roll-Tree (Tree-F.Seq l.trees)) = ap in_line l.line_is in
    subst (IsStraightOf f) l.seq (line_formed f l.trees (blocks_in_line f.blocks rule (length f.blocks) f.entry l.trees l.line_is) e rule)
