use Rattle.flag_liveness.proofs.Ends.{last_go, last_branch, last_switch, last_return, last_leave}
use Rattle.flag_liveness.proofs.across.read_last.Goals as goal

pub returns-in-Go : goal.returns-in-Go
returns-in-Go c = last_go c.in-Go.field-0 c.args.e.now c.none.result c.new.result c.in-Go.is c.none.ensures c.new.ensures

pub returns-in_ok-add_cond-in-Branch : goal.returns-in_ok-add_cond-in-Branch
returns-in_ok-add_cond-in-Branch c =
    last_branch c.in-Branch.t c.in-Branch.field-1 c.in-Branch.field-2 c.args.e.now c.none-in-Branch.result c.new-seen.result c.add_cond.new.self c.in-Branch.is c.none-in-Branch.ensures c.new-seen.ensures c.in_ok-add_cond-in-Branch.ensures

pub returns-in_ok-add_word-in-Switch : goal.returns-in_ok-add_word-in-Switch
returns-in_ok-add_word-in-Switch c =
    last_switch c.in-Switch.e c.in-Switch.field-1 c.args.e.now c.none-in-Switch.result c.new-seen-in-Switch.result c.add_word.new.self c.in-Switch.is c.none-in-Switch.ensures c.new-seen-in-Switch.ensures c.in_ok-add_word-in-Switch.ensures

pub returns-in-Return : goal.returns-in-Return
returns-in-Return c = last_return c.args.e.now c.registers.result c.new-in-Return.result c.in-Return.is c.registers.ensures c.new-in-Return.ensures

pub returns-in_ok-add_word-in-Leave : goal.returns-in_ok-add_word-in-Leave
returns-in_ok-add_word-in-Leave c =
    last_leave c.in-Leave.e c.args.e.now c.registers-in-Leave.result c.new-seen-in-Leave.result c.add_word-in-Leave.new.self c.in-Leave.is c.registers-in-Leave.ensures c.new-seen-in-Leave.ensures c.in_ok-add_word-in-Leave.ensures
