use Rattle.std.specs.Prelude.{slice_get}
use Rattle.flag_liveness.specs.Lives.{row_in, across_of}
use Rattle.flag_liveness.proofs.Closing.{live_shown}
use Rattle.flag_liveness.proofs.Ends.{at_go, at_branch, at_switch, at_return, at_leave}
use Rattle.flag_liveness.proofs.live.Live.at_end.Goals as goal

pub returns-in-Go : goal.returns-in-Go
returns-in-Go c =
    live_shown c.args.self.now c.args.e.now c.new.result
    (at_go (across_of c.args.self.now) (λ k. row_in (slice_get c.args.self.now.rows.items k)) c.in-Go.a c.args.e.now c.row.result c.new.result c.in-Go.is c.row.ensures (c.new.ensures (across_of c.args.self.now)))

pub returns-in_ok-add_cond-in-Branch : goal.returns-in_ok-add_cond-in-Branch
returns-in_ok-add_cond-in-Branch c =
    live_shown c.args.self.now c.args.e.now c.add_cond.new.self
    (at_branch (across_of c.args.self.now) (λ k. row_in (slice_get c.args.self.now.rows.items k)) c.in-Branch.t c.in-Branch.a c.in-Branch.b c.args.e.now c.either_row.result c.new-seen.result c.add_cond.new.self c.in-Branch.is
    c.either_row.ensures (c.new-seen.ensures (across_of c.args.self.now)) c.in_ok-add_cond-in-Branch.ensures)

pub returns-in_ok-add_word-in-Switch : goal.returns-in_ok-add_word-in-Switch
returns-in_ok-add_word-in-Switch c =
    live_shown c.args.self.now c.args.e.now c.add_word.new.self
    (at_switch (across_of c.args.self.now) (λ k. row_in (slice_get c.args.self.now.rows.items k)) c.in-Switch.e c.in-Switch.cases c.as_slice.result.now c.args.e.now c.any_row.result c.is_empty-goes_on.result c.new-seen-in-Switch.result c.add_word.new.self c.in-Switch.is
    c.as_slice.ensures c.any_row.ensures c.is_empty-goes_on.ensures (c.new-seen-in-Switch.ensures (across_of c.args.self.now)) c.in_ok-add_word-in-Switch.ensures)

pub returns-in-Return : goal.returns-in-Return
returns-in-Return c =
    live_shown c.args.self.now c.args.e.now c.new-in-Return.result
    (at_return (across_of c.args.self.now) (λ k. row_in (slice_get c.args.self.now.rows.items k)) c.args.e.now c.registers.result c.new-in-Return.result c.in-Return.is c.registers.ensures (c.new-in-Return.ensures (across_of c.args.self.now)))

pub returns-in_ok-add_word-in-Leave : goal.returns-in_ok-add_word-in-Leave
returns-in_ok-add_word-in-Leave c =
    live_shown c.args.self.now c.args.e.now c.add_word-in-Leave.new.self
    (at_leave (across_of c.args.self.now) (λ k. row_in (slice_get c.args.self.now.rows.items k)) c.in-Leave.e c.args.e.now c.registers-in-Leave.result c.new-seen-in-Leave.result c.add_word-in-Leave.new.self c.in-Leave.is
    c.registers-in-Leave.ensures (c.new-seen-in-Leave.ensures (across_of c.args.self.now)) c.in_ok-add_word-in-Leave.ensures)
