use Rattle.dream_engine.proofs.Composed.{short_of}
use Rattle.dream_engine.proofs.short.shortened.Goals as goal

pub returns : goal.returns
returns c = short_of c.args.f c.in_ok-joined.joined c.in_ok-short.short c.in_ok-short.ensures.given c.in_ok-joined.ensures.runs c.in_ok-short.ensures.keeps
