use Rattle.flow_passes.proofs.Keeping.{keeping_composes}
use Rattle.dream_engine.proofs.short.folded.Goals as goal

pub returns-clause-keeps : goal.returns-clause-keeps
returns-clause-keeps c =
    let f = c.args.f in
    let placed = c.in_ok-in_place.in_place in
    let rewritten = c.in_ok-rewritten.rewritten in
    let short = c.in_ok-short.short in
    keeping_composes.twice f placed short c.in_ok-in_place.ensures.keeps
    (keeping_composes.twice placed rewritten short c.in_ok-rewritten.ensures.keeps c.in_ok-short.ensures.keeps)
