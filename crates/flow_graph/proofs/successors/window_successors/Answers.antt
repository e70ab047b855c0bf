use Rattle.std.proofs.Common.{◌∷◌, ◌++◌, [], suc, ap, ◌∙◌, sym, add-one}
use Rattle.jump_tables.specs.Window.{targets_of}
use Rattle.flow_graph.proofs.successors.window_successors.Goals as goal

pub loop-k-preserved : goal.loop-k-preserved
loop-k-preserved c =
    let k = c.loop-k.k in
    let all = targets_of c.args.m.now c.args.w.now in
    (c.in_ok-push.ensures {u = tt}).ok ∙ ap (λ l. l ++ c.target.result ∷ []) c.loop-k.invariant ∙ ap (λ t. c.args.w.now.default ∷ (all k ++ t ∷ [])) c.target.ensures ∙ ap (λ n. c.args.w.now.default ∷ all n) (sym (add-one k))
