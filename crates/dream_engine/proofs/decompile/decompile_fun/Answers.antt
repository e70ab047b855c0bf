use Rattle.dream_engine.proofs.Settling.{settled_function}
use Rattle.dream_engine.proofs.decompile.decompile_fun.Goals as goal

pub settled-requires : goal.settled-requires
settled-requires c = c.in_ok-f.ensures.formed

pub returns-clause-ok : goal.returns-clause-ok
returns-clause-ok c = settled_function c.args.form c.args.m.now c.args.r.now c.in_ok-f.f c.in_ok-g.g c.in_ok-f.ensures c.in_ok-g.ensures
