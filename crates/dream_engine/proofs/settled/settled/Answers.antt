use Rattle.dream_engine.proofs.Settling.{settled_by}
use Rattle.dream_engine.proofs.settled.settled.Goals as goal

pub returns : goal.returns
returns c =
    let placed = c.in_ok-placed.ensures in
    let short = c.in_ok-short.ensures in
    settled_by c.args.f c.in_ok-placed.placed c.in_ok-short.short placed.runs placed.counts placed.address short.formed short.runs short.counts short.address
