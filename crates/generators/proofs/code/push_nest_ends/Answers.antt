use Rattle.std.proofs.Common.{◌++◌, ◌+◌, ap, ◌∙◌, sym}
use Rattle.std.proofs.lemmas.List.{append_assoc}
use Rattle.generators.specs.Code.{nest_end, nest_ends}
use Rattle.generators.proofs.Next.{next_ends}
use Rattle.generators.proofs.code.push_nest_ends.Goals as goal

pub loop-j-preserved : goal.loop-j-preserved
loop-j-preserved c =
    let j = c.loop-j.j in
    c.in_ok-push_nest_end.ensures ∙ ap (λ xs. xs ++ nest_end (j + 1)) c.loop-j.invariant ∙ append_assoc c.args.bytes.now.items (nest_ends j) (nest_end (j + 1))
    ∙ ap (λ xs. c.args.bytes.now.items ++ xs) (sym (next_ends j))
