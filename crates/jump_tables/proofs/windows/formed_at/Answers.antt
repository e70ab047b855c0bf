use Rattle.jump_tables.proofs.Finding.{inst_is}
use Rattle.jump_tables.proofs.Steps.{inst_formed}
use Rattle.jump_tables.proofs.windows.formed_at.Goals as goal

pub returns-clause-found : goal.returns-clause-found
returns-clause-found c = inst_is c.args.m.now c.args.r.now c.args.at c.inst_at.result c.inst_at.ensures

pub returns-clause-formed : goal.returns-clause-formed
returns-clause-formed c = inst_formed c.args.m.now c.args.r.now c.args.at c.inst_at.result c.inst_at.ensures
