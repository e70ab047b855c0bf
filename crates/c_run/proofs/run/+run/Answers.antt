use Rattle.std.proofs.Common.{◌+◌, ◌-◌, ◌<◌, true, false, map, drop, Some, None, refl, sym, ap, ◌∙◌, arith, option_copied}
use Rattle.run_parts.specs.Parts.{always, round, on, after, first_arm, group_of, given, caught, has, rounds, repeat}
use Rattle.c_syntax.specs.Run.{Part, Test, holds}
use Rattle.c_run.specs.RunBy.{run_by, run_arm_by, run_group_by, run_all_by}
use Rattle.c_run.specs.State.{world_of, leads, leads_or, test_of}
use Rattle.c_run.proofs.run.+run.Goals as goal
use Rattle.c_run.proofs.CodeRuns.{in_other_words, run_set, run_load, run_store, run_ext, run_trap, arm_at_place, group_at_place, stmt_at_place, drop_past, last_run, run_if, run_switch, run_loop, run_while, run_do, ends_stay, loop_ends, rounds_stuck, rounds_over, rounds_go, rounds_turn, rounds_after}

pub choose-returns-in-Some-true-clause-value : goal.choose-returns-in-Some-true-clause-value
choose-returns-in-Some-true-clause-value g t c =
    let A = g.H.Callees.left c.args.callees.now in let D = g.H.Callees.does c.args.callees.now in λ last.
    let W = world_of A c.loop-arm.state in
    (c.in_ok-sequence-in-Some-true.ensures {u = tt}).value ∙ ap (λ b. run_all_by D b c.loop-arm.turns W) c.as_slice.ensures
    ∙ sym (arm_at_place D c.args.arms.now c.loop-arm.arm-index c.arm-item.result last c.loop-arm.turns W (Some true) c.loop-arm-test.true c.arm-item.is (sym c.truth.ensures ∙ c.in-Some-true.is ∙ ap Some c.in-Some-true.field-0-test))
    ∙ c.loop-arm.invariant.1 last

pub choose-returns-in-None-clause-value : goal.choose-returns-in-None-clause-value
choose-returns-in-None-clause-value g t c =
    let A = g.H.Callees.left c.args.callees.now in let D = g.H.Callees.does c.args.callees.now in λ last.
    sym (arm_at_place D c.args.arms.now c.loop-arm.arm-index c.arm-item.result last c.loop-arm.turns (world_of A c.loop-arm.state) None c.loop-arm-test.true c.arm-item.is (sym c.truth.ensures ∙ c.in-None.is))
    ∙ c.loop-arm.invariant.1 last

pub choose-loop-arm-preserved : goal.choose-loop-arm-preserved
choose-loop-arm-preserved g t c =
    let A = g.H.Callees.left c.args.callees.now in let D = g.H.Callees.does c.args.callees.now in (
      c.loop-arm.invariant.0,
      λ last.
          sym (arm_at_place D c.args.arms.now c.loop-arm.arm-index c.arm-item.result last c.loop-arm.turns (world_of A c.loop-arm.state) (Some false) c.loop-arm-test.true c.arm-item.is (sym c.truth.ensures ∙ c.in-Some-false.is ∙ ap Some c.in-Some-false.field-0-test))
          ∙ c.loop-arm.invariant.1 last,
    )

pub choose-returns-clause-value : goal.choose-returns-clause-value
choose-returns-clause-value g t c =
    let A = g.H.Callees.left c.args.callees.now in let D = g.H.Callees.does c.args.callees.now in λ last.
    ap (λ xs. first_arm (map (run_arm_by D) xs) last c.loop-arm.turns (world_of A c.loop-arm.state)) (sym (drop_past c.args.arms.now c.loop-arm.arm-index (omega (arith, c.loop-arm-test.false)))) ∙ c.loop-arm.invariant.1 last

pub select-returns-then-has-clause-value : goal.select-returns-then-has-clause-value
select-returns-then-has-clause-value g t c =
    let A = g.H.Callees.left c.args.callees.now in let D = g.H.Callees.does c.args.callees.now in λ last.
    let W = world_of A c.loop-group.state in
    (c.in_ok-sequence.ensures {u = tt}).value ∙ ap (λ b. run_all_by D b c.loop-group.turns W) c.as_slice-then-has.ensures
    ∙ sym (group_at_place D c.args.groups.now c.loop-group.group-index c.group-item.result last c.args.x c.loop-group.turns W true c.loop-group-test.true c.group-item.is (ap (λ v. has v c.args.x) (sym c.as_slice.ensures) ∙ sym c.has.ensures ∙ c.if-has.true))
    ∙ c.loop-group.invariant.1 last

pub select-loop-group-preserved : goal.select-loop-group-preserved
select-loop-group-preserved g t c =
    let A = g.H.Callees.left c.args.callees.now in let D = g.H.Callees.does c.args.callees.now in (
      c.loop-group.invariant.0,
      λ last.
          sym (group_at_place D c.args.groups.now c.loop-group.group-index c.group-item.result last c.args.x c.loop-group.turns (world_of A c.loop-group.state) false c.loop-group-test.true c.group-item.is (ap (λ v. has v c.args.x) (sym c.as_slice.ensures) ∙ sym c.has.ensures ∙ c.if-has.false))
          ∙ c.loop-group.invariant.1 last,
    )

pub sequence-returns-in_default : goal.sequence-returns-in_default
sequence-returns-in_default g t c =
    let A = g.H.Callees.left c.args.callees.now in let D = g.H.Callees.does c.args.callees.now in
    let rest : Part = run_all_by D (drop (c.loop-s.s-index + 1) c.args.body.now) in
    let w = world_of A c.loop-s.state in
    let v = world_of A c.statement.new.state in
    let place = sym (stmt_at_place D c.args.body.now c.loop-s.s-index c.s-item.result c.loop-s.turns w c.loop-s-test.true c.s-item.is) ∙ c.loop-s.invariant.1 in
    record {
      value = sym (ends_stay c.in_ok-flow.flow c.statement.new.turns v rest c.in_default.not-Next) ∙ ap (λ r. on r (after rest)) (c.in_ok-flow.ensures {u = tt}).value ∙ place;
      spends = omega (arith, c.loop-s.invariant.0, (c.in_ok-flow.ensures {u = tt}).spends);
    }

pub sequence-loop-s-preserved : goal.sequence-loop-s-preserved
sequence-loop-s-preserved g t c =
    let A = g.H.Callees.left c.args.callees.now in let D = g.H.Callees.does c.args.callees.now in
    let rest : Part = run_all_by D (drop (c.loop-s.s-index + 1) c.args.body.now) in
    let w = world_of A c.loop-s.state in
    let v = world_of A c.statement.new.state in
    let place = sym (stmt_at_place D c.args.body.now c.loop-s.s-index c.s-item.result c.loop-s.turns w c.loop-s-test.true c.s-item.is) ∙ c.loop-s.invariant.1 in (
      omega (arith, c.loop-s.invariant.0, (c.in_ok-flow.ensures {u = tt}).spends),
      sym (ap (λ f. on (leads f c.statement.new.turns v) (after rest)) c.in-Next.is) ∙ ap (λ r. on r (after rest)) (c.in_ok-flow.ensures {u = tt}).value ∙ place,
    )

-- ---- loops

pub repeat-loop-turns-init : goal.repeat-loop-turns-init
repeat-loop-turns-init g t c = (omega arith, (c.args.turns.now, omega arith, refl))

pub repeat-returns-in-None-clause-value : goal.repeat-returns-in-None-clause-value
repeat-returns-in-None-clause-value g t c =
    let A = g.H.Callees.left c.args.callees.now in let D = g.H.Callees.does c.args.callees.now in
    let E : Test = test_of (option_copied c.args.enter) in let B : Part = run_all_by D c.args.body.now in let G : Test = test_of (option_copied c.args.again) in
    let n = c.loop-turns.invariant.1.0 in let w = world_of A c.loop-turns.state in
    sym (rounds_stuck E B G n c.loop-turns.turns w (sym (c.test_of.ensures w refl) ∙ c.in-None.is)) ∙ c.loop-turns.invariant.1.2

pub repeat-returns-in-Some-false-clause-value : goal.repeat-returns-in-Some-false-clause-value
repeat-returns-in-Some-false-clause-value g t c =
    let A = g.H.Callees.left c.args.callees.now in let D = g.H.Callees.does c.args.callees.now in
    let E : Test = test_of (option_copied c.args.enter) in let B : Part = run_all_by D c.args.body.now in let G : Test = test_of (option_copied c.args.again) in
    let n = c.loop-turns.invariant.1.0 in let w = world_of A c.loop-turns.state in
    sym (rounds_over E B G n c.loop-turns.turns w (sym (c.test_of.ensures w refl) ∙ c.in-Some-false.is ∙ ap Some c.in-Some-false.field-0-test)) ∙ c.loop-turns.invariant.1.2

pub repeat-returns-in-Left-clause-value : goal.repeat-returns-in-Left-clause-value
repeat-returns-in-Left-clause-value g t c =
    let A = g.H.Callees.left c.args.callees.now in let D = g.H.Callees.does c.args.callees.now in
    let E : Test = test_of (option_copied c.args.enter) in let B : Part = run_all_by D c.args.body.now in let G : Test = test_of (option_copied c.args.again) in
    let n = c.loop-turns.invariant.1.0 in let w = world_of A c.loop-turns.state in
    let v = world_of A c.sequence.new.state in
    let enters = sym (c.test_of.ensures w refl) ∙ c.in-Some-true.is ∙ ap Some c.in-Some-true.field-0-test in
    let some : 0 < c.loop-turns.turns = omega (arith, c.if-turns-eq0.false) in
    ap (λ f. on (leads f c.sequence.new.turns v) (round G (rounds (n - 1) E B G))) (sym c.in-Left.is)
    ∙ sym (rounds_turn E B G n c.loop-turns.turns w (leads c.in_ok-flow.flow c.sequence.new.turns v) enters some c.loop-turns.invariant.1.1 (c.in_ok-flow.ensures {u = tt}).value)
    ∙ c.loop-turns.invariant.1.2

pub repeat-returns-in_default-clause-value : goal.repeat-returns-in_default-clause-value
repeat-returns-in_default-clause-value g t c =
    let A = g.H.Callees.left c.args.callees.now in let D = g.H.Callees.does c.args.callees.now in
    let E : Test = test_of (option_copied c.args.enter) in let B : Part = run_all_by D c.args.body.now in let G : Test = test_of (option_copied c.args.again) in
    let n = c.loop-turns.invariant.1.0 in let w = world_of A c.loop-turns.state in
    let v = world_of A c.sequence.new.state in
    let enters = sym (c.test_of.ensures w refl) ∙ c.in-Some-true.is ∙ ap Some c.in-Some-true.field-0-test in
    let some : 0 < c.loop-turns.turns = omega (arith, c.if-turns-eq0.false) in
    sym (loop_ends c.in_ok-flow.flow c.sequence.new.turns v G (rounds (n - 1) E B G) c.in_default.not-Next c.in_default.not-Left)
    ∙ sym (rounds_turn E B G n c.loop-turns.turns w (leads c.in_ok-flow.flow c.sequence.new.turns v) enters some c.loop-turns.invariant.1.1 (c.in_ok-flow.ensures {u = tt}).value)
    ∙ c.loop-turns.invariant.1.2

pub repeat-returns-in-None-test_of-clause-value : goal.repeat-returns-in-None-test_of-clause-value
repeat-returns-in-None-test_of-clause-value g t c =
    let A = g.H.Callees.left c.args.callees.now in let D = g.H.Callees.does c.args.callees.now in
    let E : Test = test_of (option_copied c.args.enter) in let B : Part = run_all_by D c.args.body.now in let G : Test = test_of (option_copied c.args.again) in
    let n = c.loop-turns.invariant.1.0 in let w = world_of A c.loop-turns.state in
    let v = world_of A c.sequence.new.state in
    let enters = sym (c.test_of.ensures w refl) ∙ c.in-Some-true.is ∙ ap Some c.in-Some-true.field-0-test in
    let some : 0 < c.loop-turns.turns = omega (arith, c.if-turns-eq0.false) in
    sym (rounds_after E B G n c.loop-turns.turns c.sequence.new.turns w v None enters some c.loop-turns.invariant.1.1
    (sym (ap (λ f. leads f c.sequence.new.turns v) c.in-Next.is) ∙ (c.in_ok-flow.ensures {u = tt}).value) (sym (c.test_of-in-loop-turns.ensures v refl) ∙ c.in-None-test_of.is))
    ∙ c.loop-turns.invariant.1.2

pub repeat-returns-in-Some-false-test_of-clause-value : goal.repeat-returns-in-Some-false-test_of-clause-value
repeat-returns-in-Some-false-test_of-clause-value g t c =
    let A = g.H.Callees.left c.args.callees.now in let D = g.H.Callees.does c.args.callees.now in
    let E : Test = test_of (option_copied c.args.enter) in let B : Part = run_all_by D c.args.body.now in let G : Test = test_of (option_copied c.args.again) in
    let n = c.loop-turns.invariant.1.0 in let w = world_of A c.loop-turns.state in
    let v = world_of A c.sequence.new.state in
    let enters = sym (c.test_of.ensures w refl) ∙ c.in-Some-true.is ∙ ap Some c.in-Some-true.field-0-test in
    let some : 0 < c.loop-turns.turns = omega (arith, c.if-turns-eq0.false) in
    sym (rounds_after E B G n c.loop-turns.turns c.sequence.new.turns w v (Some false) enters some c.loop-turns.invariant.1.1
    (sym (ap (λ f. leads f c.sequence.new.turns v) c.in-Next.is) ∙ (c.in_ok-flow.ensures {u = tt}).value) (sym (c.test_of-in-loop-turns.ensures v refl) ∙ c.in-Some-false-test_of.is ∙ ap Some c.in-Some-false-test_of.field-0-test))
    ∙ c.loop-turns.invariant.1.2

pub repeat-loop-turns-preserved : goal.repeat-loop-turns-preserved
repeat-loop-turns-preserved g t c =
    let A = g.H.Callees.left c.args.callees.now in let D = g.H.Callees.does c.args.callees.now in
    let E : Test = test_of (option_copied c.args.enter) in let B : Part = run_all_by D c.args.body.now in let G : Test = test_of (option_copied c.args.again) in
    let n = c.loop-turns.invariant.1.0 in let w = world_of A c.loop-turns.state in
    let v = world_of A c.sequence.new.state in
    let enters = sym (c.test_of.ensures w refl) ∙ c.in-Some-true.is ∙ ap Some c.in-Some-true.field-0-test in
    let some : 0 < c.loop-turns.turns = omega (arith, c.if-turns-eq0.false) in
    let fewer = (c.in_ok-flow.ensures {u = tt}).spends in (
      omega (arith, c.loop-turns.invariant.0, fewer),
      (
        n - 1,
        omega (arith, c.loop-turns.invariant.1.1, fewer, some),
        sym (rounds_after E B G n c.loop-turns.turns c.sequence.new.turns w v (Some true) enters some c.loop-turns.invariant.1.1
            (sym (ap (λ f. leads f c.sequence.new.turns v) c.in-Next.is) ∙ (c.in_ok-flow.ensures {u = tt}).value) (sym (c.test_of-in-loop-turns.ensures v refl) ∙ c.in-Some-true-test_of.is ∙ ap Some c.in-Some-true-test_of.field-0-test))
            ∙ c.loop-turns.invariant.1.2,
      ),
    )

-- the simple statements: what the state's call ensures is what the statement does
pub statement-returns-in-Set-clause-value : goal.statement-returns-in-Set-clause-value
statement-returns-in-Set-clause-value g t c =
    let A = g.H.Callees.left c.args.callees.now in let D = g.H.Callees.does c.args.callees.now in let W = world_of A c.args.state.now in let T = c.args.turns.now in
    in_other_words _ _ (λ flow h. h A T ∙ sym (run_set D c.in-Set.n c.in-Set.a T W) ∙ ap (λ s. run_by D s T W) (sym c.in-Set.is)) c.set.result c.set.ensures

pub statement-returns-in-Load-clause-value : goal.statement-returns-in-Load-clause-value
statement-returns-in-Load-clause-value g t c =
    let A = g.H.Callees.left c.args.callees.now in let D = g.H.Callees.does c.args.callees.now in let W = world_of A c.args.state.now in let T = c.args.turns.now in
    in_other_words _ _ (λ flow h. h A T ∙ sym (run_load D c.in-Load.n c.in-Load.width c.in-Load.a T W) ∙ ap (λ s. run_by D s T W) (sym c.in-Load.is)) c.load.result c.load.ensures

pub statement-returns-in-Store-clause-value : goal.statement-returns-in-Store-clause-value
statement-returns-in-Store-clause-value g t c =
    let A = g.H.Callees.left c.args.callees.now in let D = g.H.Callees.does c.args.callees.now in let W = world_of A c.args.state.now in let T = c.args.turns.now in
    in_other_words _ _ (λ flow h. h A T ∙ sym (run_store D c.in-Store.width c.in-Store.a c.in-Store.b T W) ∙ ap (λ s. run_by D s T W) (sym c.in-Store.is)) c.store.result c.store.ensures

pub statement-returns-in-Ext-clause-value : goal.statement-returns-in-Ext-clause-value
statement-returns-in-Ext-clause-value g t c =
    let A = g.H.Callees.left c.args.callees.now in let D = g.H.Callees.does c.args.callees.now in let W = world_of A c.args.state.now in let T = c.args.turns.now in
    in_other_words _ _ (λ flow h. h ∙ sym (run_ext D c.in-Ext.a T W) ∙ ap (λ s. run_by D s T W) (sym c.in-Ext.is)) c.ext.result c.ext.ensures.value

pub statement-returns-in-Trap-clause-value : goal.statement-returns-in-Trap-clause-value
statement-returns-in-Trap-clause-value g t c =
    let A = g.H.Callees.left c.args.callees.now in let D = g.H.Callees.does c.args.callees.now in let W = world_of A c.args.state.now in let T = c.args.turns.now in
    c.trap.ensures A T ∙ sym (run_trap D c.in-Trap.vector c.in-Trap.a T W) ∙ ap (λ s. run_by D s T W) (sym c.in-Trap.is)

pub repeat-returns-then-turns-eq0-clause-value : goal.repeat-returns-then-turns-eq0-clause-value
repeat-returns-then-turns-eq0-clause-value g t c =
    let A = g.H.Callees.left c.args.callees.now in let D = g.H.Callees.does c.args.callees.now in
    let E : Test = test_of (option_copied c.args.enter) in let B : Part = run_all_by D c.args.body.now in let G : Test = test_of (option_copied c.args.again) in
    let n = c.loop-turns.invariant.1.0 in let w = world_of A c.loop-turns.state in
    let enters = sym (c.test_of.ensures w refl) ∙ c.in-Some-true.is ∙ ap Some c.in-Some-true.field-0-test in
    sym (rounds_go E B G n c.loop-turns.turns w enters (omega arith)) ∙ c.loop-turns.invariant.1.2

pub select-returns-clause-value : goal.select-returns-clause-value
select-returns-clause-value g t c = λ last.
    let A = g.H.Callees.left c.args.callees.now in let D = g.H.Callees.does c.args.callees.now in
    ap (λ xs. group_of (map (run_group_by D) xs) last c.args.x c.loop-group.turns (world_of A c.loop-group.state)) (sym (drop_past c.args.groups.now c.loop-group.group-index (omega (arith, c.loop-group-test.false)))) ∙ c.loop-group.invariant.1 last

-- an `if`: an arm, the last `else`, or nothing
pub statement-returns-in-Some-clause-value : goal.statement-returns-in-Some-clause-value
statement-returns-in-Some-clause-value g t c =
    let A = g.H.Callees.left c.args.callees.now in let D = g.H.Callees.does c.args.callees.now in let R : Part = last_run D c.in-If.last in let W = world_of A c.args.state.now in let T = c.args.turns.now in
    sym (ap (λ o. leads_or o R c.choose.new.turns (world_of A c.choose.new.state)) c.in-Some.is) ∙ (c.in_ok-flow-in-If.ensures {u = tt}).value R
    ∙ ap (λ xs. first_arm (map (run_arm_by D) xs) R T W) c.as_slice.ensures
    ∙ sym (run_if D c.in-If.arms c.in-If.last T W) ∙ ap (λ s. run_by D s T W) (sym c.in-If.is)

pub statement-returns-in-None-last-clause-value : goal.statement-returns-in-None-last-clause-value
statement-returns-in-None-last-clause-value g t c =
    let A = g.H.Callees.left c.args.callees.now in let D = g.H.Callees.does c.args.callees.now in let R : Part = last_run D c.in-If.last in let W = world_of A c.args.state.now in let T = c.args.turns.now in
    ap (λ o. last_run D o c.choose.new.turns (world_of A c.choose.new.state)) (sym c.in-None-last.is)
    ∙ sym (ap (λ o. leads_or o R c.choose.new.turns (world_of A c.choose.new.state)) c.in-None.is) ∙ (c.in_ok-flow-in-If.ensures {u = tt}).value R
    ∙ ap (λ xs. first_arm (map (run_arm_by D) xs) R T W) c.as_slice.ensures
    ∙ sym (run_if D c.in-If.arms c.in-If.last T W) ∙ ap (λ s. run_by D s T W) (sym c.in-If.is)

pub statement-returns-in-Some-last-clause-value : goal.statement-returns-in-Some-last-clause-value
statement-returns-in-Some-last-clause-value g t c =
    let A = g.H.Callees.left c.args.callees.now in let D = g.H.Callees.does c.args.callees.now in let R : Part = last_run D c.in-If.last in let W = world_of A c.args.state.now in let T = c.args.turns.now in
    in_other_words _ _ (λ flow h. h
    ∙ ap (λ b. run_all_by D b c.choose.new.turns (world_of A c.choose.new.state)) c.as_slice-in-Some-last.ensures
    ∙ ap (λ o. last_run D o c.choose.new.turns (world_of A c.choose.new.state)) (sym c.in-Some-last.is)
    ∙ sym (ap (λ o. leads_or o R c.choose.new.turns (world_of A c.choose.new.state)) c.in-None.is) ∙ (c.in_ok-flow-in-If.ensures {u = tt}).value R
    ∙ ap (λ xs. first_arm (map (run_arm_by D) xs) R T W) c.as_slice.ensures
    ∙ sym (run_if D c.in-If.arms c.in-If.last T W) ∙ ap (λ s. run_by D s T W) (sym c.in-If.is)) c.sequence.result c.sequence.ensures.value

-- a switch: a group, or the default
pub statement-returns-in-Some-2-clause-value : goal.statement-returns-in-Some-2-clause-value
statement-returns-in-Some-2-clause-value g t c =
    let A = g.H.Callees.left c.args.callees.now in let D = g.H.Callees.does c.args.callees.now in let R : Part = run_all_by D c.in-Switch.last in let W = world_of A c.args.state.now in let T = c.args.turns.now in
    let found = sym (ap (λ o. leads_or o R c.select.new.turns (world_of A c.select.new.state)) c.in-Some-2.is) ∙ (c.in_ok-flow-in-Some-value.ensures {u = tt}).value R ∙ ap (λ gs. group_of (map (run_group_by D) gs) R c.in-Some-value.x T W) c.as_slice-in-Some-value.ensures in
    c.caught.ensures c.select.new.turns (world_of A c.select.new.state)
    ∙ ap (λ r. on r caught) found
    ∙ sym (ap (λ o. on (given o (group_of (map (run_group_by D) c.in-Switch.groups) R) T W) caught) (sym c.value.ensures ∙ c.in-Some-value.is))
    ∙ sym (run_switch D c.in-Switch.a c.in-Switch.groups c.in-Switch.last T W) ∙ ap (λ s. run_by D s T W) (sym c.in-Switch.is)

pub statement-returns-in_ok-flow-in-None-2-clause-value : goal.statement-returns-in_ok-flow-in-None-2-clause-value
statement-returns-in_ok-flow-in-None-2-clause-value g t c =
    let A = g.H.Callees.left c.args.callees.now in let D = g.H.Callees.does c.args.callees.now in let R : Part = run_all_by D c.in-Switch.last in let W = world_of A c.args.state.now in let T = c.args.turns.now in
    let found = (c.in_ok-flow-in-None-2.ensures {u = tt}).value
    ∙ ap (λ b. run_all_by D b c.select.new.turns (world_of A c.select.new.state)) c.as_slice-in-None-2.ensures
    ∙ sym (ap (λ o. leads_or o R c.select.new.turns (world_of A c.select.new.state)) c.in-None-2.is) ∙ (c.in_ok-flow-in-Some-value.ensures {u = tt}).value R ∙ ap (λ gs. group_of (map (run_group_by D) gs) R c.in-Some-value.x T W) c.as_slice-in-Some-value.ensures in
    c.caught-in-None-2.ensures c.sequence-in-None-2.new.turns (world_of A c.sequence-in-None-2.new.state)
    ∙ ap (λ r. on r caught) found
    ∙ sym (ap (λ o. on (given o (group_of (map (run_group_by D) c.in-Switch.groups) R) T W) caught) (sym c.value.ensures ∙ c.in-Some-value.is))
    ∙ sym (run_switch D c.in-Switch.a c.in-Switch.groups c.in-Switch.last T W) ∙ ap (λ s. run_by D s T W) (sym c.in-Switch.is)

-- the three loops
pub statement-returns-in-Loop-clause-value : goal.statement-returns-in-Loop-clause-value
statement-returns-in-Loop-clause-value g t c =
    let A = g.H.Callees.left c.args.callees.now in let D = g.H.Callees.does c.args.callees.now in
    let W = world_of A c.args.state.now in let T = c.args.turns.now in
    in_other_words _ _ (λ flow h. h ∙ ap (λ b. repeat always (run_all_by D b) always T W) c.as_slice-in-Loop.ensures
    ∙ sym (run_loop D c.in-Loop.body T W) ∙ ap (λ s. run_by D s T W) (sym c.in-Loop.is)) c.repeat.result c.repeat.ensures.value

pub statement-returns-in-While-clause-value : goal.statement-returns-in-While-clause-value
statement-returns-in-While-clause-value g t c =
    let A = g.H.Callees.left c.args.callees.now in let D = g.H.Callees.does c.args.callees.now in
    let W = world_of A c.args.state.now in let T = c.args.turns.now in
    in_other_words _ _ (λ flow h. h ∙ ap (λ b. repeat (holds c.in-While.t) (run_all_by D b) always T W) c.as_slice-in-While.ensures
    ∙ sym (run_while D c.in-While.t c.in-While.body T W) ∙ ap (λ s. run_by D s T W) (sym c.in-While.is)) c.repeat-in-While.result c.repeat-in-While.ensures.value

pub statement-returns-in-DoWhile-clause-value : goal.statement-returns-in-DoWhile-clause-value
statement-returns-in-DoWhile-clause-value g t c =
    let A = g.H.Callees.left c.args.callees.now in let D = g.H.Callees.does c.args.callees.now in
    let W = world_of A c.args.state.now in let T = c.args.turns.now in
    in_other_words _ _ (λ flow h. h ∙ ap (λ b. repeat always (run_all_by D b) (holds c.in-DoWhile.t) T W) c.as_slice-in-DoWhile.ensures
    ∙ sym (run_do D c.in-DoWhile.body c.in-DoWhile.t T W) ∙ ap (λ s. run_by D s T W) (sym c.in-DoWhile.is)) c.repeat-in-DoWhile.result c.repeat-in-DoWhile.ensures.value
