use Rattle.jump_tables.proofs.Fronts.{begins, none_begins}
use Rattle.std.proofs.Common.{take}
use Rattle.jump_tables.proofs.reading.inst_at.Goals as goal

pub returns-in-Inst : goal.returns-in-Inst
returns-in-Inst c =
    begins c.args.m.now c.args.r.now c.args.at c.in-Inst.inst c.in-Inst.size (take c.read-count.result c.read-count.new.bytes) c.read-count.ensures.read c.in-Inst.ensures.0
    c.in-Inst.ensures.1

pub returns-in-Cut : goal.returns-in-Cut
returns-in-Cut c = none_begins c.args.m.now c.args.r.now c.args.at (take c.read-count.result c.read-count.new.bytes) c.read-count.ensures.read c.in-Cut.ensures.0

pub returns-in-None : goal.returns-in-None
returns-in-None c = none_begins c.args.m.now c.args.r.now c.args.at (take c.read-count.result c.read-count.new.bytes) c.read-count.ensures.read c.in-None.ensures.0
