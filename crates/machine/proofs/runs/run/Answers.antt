use Rattle.std.proofs.Common.{◌+◌, ◌-◌, ap, sym, ◌∙◌}
use Rattle.x86_model.specs.Machine.{At, State, Ending}
use Rattle.machine.specs.Steps.{steps}
use Rattle.machine.specs.Run.{step_at, scene_of, outcome_of}
use Rattle.machine.specs.Coded.{state_with, onward}
use Rattle.machine.proofs.Running.{one_fewer, none_left, is_over}
use Rattle.machine.proofs.runs.run.Goals as goal

pub returns-in_default : goal.returns-in_default
returns-in_default c = λ decoded d.
    let step = step_at (scene_of c.args.image.now c.args.range.now decoded c.args.start.now) in
    let n = c.args.steps in
    let k = c.loop-step._step in
    let old = state_with c.args.start.now.pages c.args.answers.now c.loop-step.machine in
    let new = state_with c.args.start.now.pages c.args.answers.now c.step.new.self in
    c.outcome.ensures c.args.start.now.pages c.args.answers.now
    ∙ ap outcome_of (sym (is_over c.in_ok-led.led new (steps State Ending step (n - (k + 1))) c.in_default.not-To)
    ∙ one_fewer step n k c.loop-step.at old (onward c.in_ok-led.led new) c.loop-step-test.true (c.in_ok-led.ensures decoded d)
    ∙ c.loop-step.invariant decoded d)

pub loop-step-preserved : goal.loop-step-preserved
loop-step-preserved c = λ decoded d.
    let step = step_at (scene_of c.args.image.now c.args.range.now decoded c.args.start.now) in
    let old = state_with c.args.start.now.pages c.args.answers.now c.loop-step.machine in
    let new = state_with c.args.start.now.pages c.args.answers.now c.step.new.self in
    one_fewer step c.args.steps c.loop-step._step c.loop-step.at old (At c.in-To.a new) c.loop-step-test.true
    (sym (ap (λ l. onward l new) c.in-To.is) ∙ c.in_ok-led.ensures decoded d)
    ∙ c.loop-step.invariant decoded d

pub returns : goal.returns
returns c = λ decoded d.
    let step = step_at (scene_of c.args.image.now c.args.range.now decoded c.args.start.now) in
    c.outcome-2.ensures c.args.start.now.pages c.args.answers.now
    ∙ ap outcome_of (sym (none_left step c.args.steps c.loop-step._step c.loop-step.at (state_with c.args.start.now.pages c.args.answers.now c.loop-step.machine) c.loop-step-test.false)
    ∙ c.loop-step.invariant decoded d)
