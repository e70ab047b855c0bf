use Rattle.c_conds.proofs.Tests.{ne_if, eq_if, copied_if}
use Rattle.c_conds.proofs.placing.placed_cmp.Goals as goal

pub returns-in-Ne : goal.returns-in-Ne
returns-in-Ne c = ne_if c.args.k c.args.c.now c.args.op c.args.a.now c.args.b.now c.copy_cond.result c.in-Ne.is (c.is_tested.ensures.local c.if-is_tested.true) (c.is_tested.ensures.zero c.if-is_tested.true) c.copy_cond.ensures

pub returns-in_ok-c-in-Eq : goal.returns-in_ok-c-in-Eq
returns-in_ok-c-in-Eq c = eq_if c.args.k c.args.c.now c.in_ok-c-in-Eq.c c.args.op c.args.a.now c.args.b.now c.opposite.result c.in-Eq.is (c.is_tested.ensures.local c.if-is_tested.true) (c.is_tested.ensures.zero c.if-is_tested.true) c.in_ok-c-in-Eq.ensures c.opposite.ensures

pub returns-in-Lt : goal.returns-in-Lt
returns-in-Lt c = copied_if c.args.k c.args.c.now c.args.op c.args.a.now c.args.b.now c.copied.result c.copied.ensures

pub returns-in-Le : goal.returns-in-Le
returns-in-Le c = copied_if c.args.k c.args.c.now c.args.op c.args.a.now c.args.b.now c.copied-in-Le.result c.copied-in-Le.ensures

pub returns-else-is_tested : goal.returns-else-is_tested
returns-else-is_tested c = copied_if c.args.k c.args.c.now c.args.op c.args.a.now c.args.b.now _ c.copied-else-is_tested.ensures
