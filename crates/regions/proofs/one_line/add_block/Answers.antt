use Rattle.std.proofs.Common.{◌++◌, [], ◌∷◌, ap, ◌∙◌, sym, append-nil}
use Rattle.regions.specs.Straight.{way_at, trees_at}
use Rattle.regions.proofs.Stepping.{found_at, past_at}
use Rattle.regions.proofs.one_line.add_block.Goals as goal

pub returns-in-None-clause-tree : goal.returns-in-None-clause-tree
returns-in-None-clause-tree c =
    let here = past_at c.args.blocks.now c.n.inside.0 c.args.n c.n.view_is c.in-None.ensures.lookup.3 in
    sym (append-nil c.args.trees.now) ∙ ap (λ o. c.args.trees.now ++ trees_at o) (sym here)

pub returns-in_ok-push-in-Some-clause-way : goal.returns-in_ok-push-in-Some-clause-way
returns-in_ok-push-in-Some-clause-way c =
    let here = found_at c.args.blocks.now c.n.inside.0 c.args.n c.in-Some.b.now c.n.view_is c.in-Some.ensures.lookup.3.0 c.in-Some.ensures.lookup.1 in
    c.way_of.ensures ∙ ap way_at (sym here)

pub returns-in_ok-push-in-Some-clause-tree : goal.returns-in_ok-push-in-Some-clause-tree
returns-in_ok-push-in-Some-clause-tree c =
    let here = found_at c.args.blocks.now c.n.inside.0 c.args.n c.in-Some.b.now c.n.view_is c.in-Some.ensures.lookup.3.0 c.in-Some.ensures.lookup.1 in
    (c.in_ok-push-in-Some.ensures {u = tt}).ok
    ∙ ap (λ t. c.args.trees.now ++ t ∷ []) (c.in_ok-tree_block-in-Some.ensures {u = tt})
    ∙ ap (λ o. c.args.trees.now ++ trees_at o) (sym here)
