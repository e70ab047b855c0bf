use Rattle.c_print.proofs.Loops.{cases_more}
use Rattle.c_print.proofs.stmt.put_cases.Goals as goal

pub loop-v-preserved : goal.loop-v-preserved
loop-v-preserved c =
    cases_more c.args.values.now c.loop-v.v-index c.loop-v.page c.put.new.self c.put_number.new.page _ _ c.loop-v-test.true c.put.ensures c.put_number.ensures c.put-in-loop-v.ensures c.loop-v.invariant
