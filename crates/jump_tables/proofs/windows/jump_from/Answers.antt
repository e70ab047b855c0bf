use Rattle.std.proofs.Common.{◌≡◌, suc, ◌+◌, ◌-◌, true, false, None, option_map, rules, arith, sym, ap, ◌∙◌}
use Rattle.jump_tables.specs.Forms.{Known}
use Rattle.jump_tables.specs.Window.{next_of}
use Rattle.jump_tables.specs.Known.{known_of}
use Rattle.jump_tables.specs.Found.{jump_from}
use Rattle.jump_tables.proofs.Steps.{jump_nowhere, jump_here, jump_later, jump_never, jump_past}
use Rattle.jump_tables.proofs.windows.jump_from.Goals as goal

pub returns-in_err-inst : goal.returns-in_err-inst
returns-in_err-inst c =
    let m = c.args.m.now in
    let r = c.args.r.now in
    let x = c.args.index.now in
    let k = known_of c.loop-step.known in
    let a = c.loop-step.at in
    let n = 4 - c.loop-step._step in
    let none : c.from_residual.result ≡ None = search rules in
    let left : 5 - c.loop-step._step ≡ suc n = omega (arith, c.loop-step-test.true) in
    none ∙ sym (c.loop-step.invariant ∙ ap (λ j. jump_from m r x j k a) left ∙ jump_nowhere m r x n k a (sym c.formed_at.ensures.found ∙ c.in_err-inst.was))

pub returns-in_err-table : goal.returns-in_err-table
returns-in_err-table c =
    let m = c.args.m.now in
    let r = c.args.r.now in
    let x = c.args.index.now in
    let k = known_of c.loop-step.known in
    let a = c.loop-step.at in
    let n = 4 - c.loop-step._step in
    let inst = c.in_ok-inst.inst in
    let size = c.in_ok-inst.size in
    let goal = c.in-Some.goal in
    let none : c.from_residual-in_err-table.result ≡ None = search rules in
    let left : 5 - c.loop-step._step ≡ suc n = omega (arith, c.loop-step-test.true) in
    none ∙ sym (
    c.loop-step.invariant ∙ ap (λ j. jump_from m r x j k a) left
    ∙ jump_here m r x n k a (inst, size) goal (sym c.formed_at.ensures.found ∙ c.in_ok-inst.was) (sym c.goal_of.ensures ∙ c.in-Some.is)
    ∙ ap (option_map (λ t. (a, t))) (sym c.table.ensures ∙ c.in_err-table.was)
    )

pub returns-in-Some : goal.returns-in-Some
returns-in-Some c =
    let m = c.args.m.now in
    let r = c.args.r.now in
    let x = c.args.index.now in
    let k = known_of c.loop-step.known in
    let a = c.loop-step.at in
    let n = 4 - c.loop-step._step in
    let inst = c.in_ok-inst.inst in
    let size = c.in_ok-inst.size in
    let goal = c.in-Some.goal in
    let left : 5 - c.loop-step._step ≡ suc n = omega (arith, c.loop-step-test.true) in
    sym (
    c.loop-step.invariant ∙ ap (λ j. jump_from m r x j k a) left
    ∙ jump_here m r x n k a (inst, size) goal (sym c.formed_at.ensures.found ∙ c.in_ok-inst.was) (sym c.goal_of.ensures ∙ c.in-Some.is)
    ∙ ap (option_map (λ t. (a, t))) (sym c.table.ensures ∙ c.in_ok-table.was)
    )

pub returns-then-not-is_on_path : goal.returns-then-not-is_on_path
returns-then-not-is_on_path c =
    let m = c.args.m.now in
    let r = c.args.r.now in
    let x = c.args.index.now in
    let k = known_of c.loop-step.known in
    let a = c.loop-step.at in
    let n = 4 - c.loop-step._step in
    let inst = c.in_ok-inst.inst in
    let size = c.in_ok-inst.size in
    let left : 5 - c.loop-step._step ≡ suc n = omega (arith, c.loop-step-test.true) in
    let other : c.goal_of.result ≡ None = search rules in
    let off : c.is_on_path.result ≡ false = search rules in
    sym (
    c.loop-step.invariant ∙ ap (λ j. jump_from m r x j k a) left
    ∙ jump_never m r x n k a (inst, size) (sym c.formed_at.ensures.found ∙ c.in_ok-inst.was) (sym c.goal_of.ensures ∙ other) (sym c.is_on_path.ensures ∙ off)
    )

pub loop-step-preserved : goal.loop-step-preserved
loop-step-preserved c =
    let m = c.args.m.now in
    let r = c.args.r.now in
    let x = c.args.index.now in
    let k = known_of c.loop-step.known in
    let a = c.loop-step.at in
    let n = 4 - c.loop-step._step in
    let inst = c.in_ok-inst.inst in
    let size = c.in_ok-inst.size in
    let left : 5 - c.loop-step._step ≡ suc n = omega (arith, c.loop-step-test.true) in
    let fewer : n ≡ 5 - (c.loop-step._step + 1) = omega (arith, c.loop-step-test.true) in
    let other : c.goal_of.result ≡ None = search rules in
    let on : c.is_on_path.result ≡ true = search rules in
    c.loop-step.invariant ∙ ap (λ j. jump_from m r x j k a) left
    ∙ jump_later m r x n k a (inst, size) (sym c.formed_at.ensures.found ∙ c.in_ok-inst.was) (sym c.goal_of.ensures ∙ other) (sym c.is_on_path.ensures ∙ on)
    ∙ ap (λ (j : Known). jump_from m r x n j (next_of a size)) (sym c.after-known.ensures)
    ∙ ap (λ j. jump_from m r x n (known_of c.after-known.result) (next_of a j)) (sym c.from-at.ensures)
    ∙ ap (λ j. jump_from m r x j (known_of c.after-known.result) (next_of a c.from-at.result)) fewer

pub returns : goal.returns
returns c =
    sym (c.loop-step.invariant ∙ jump_past c.args.m.now c.args.r.now c.args.index.now (5 - c.loop-step._step) (known_of c.loop-step.known) c.loop-step.at (omega (arith, c.loop-step-test.false)))
