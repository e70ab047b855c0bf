use Rattle.std.proofs.Common.{◌≡◌, ℕ, ◌-◌, Option}
use Rattle.x86_inst.specs.declared.Inst.{Inst}
use Rattle.x86_model.specs.Machine.{State, Ending}
use Rattle.machine.specs.Steps.{steps}
use Rattle.machine.specs.Code.{Decodes}
use Rattle.machine.specs.Run.{step_at, scene_of, start_state}
use Rattle.machine.specs.Coded.{state_with}
use Rattle.machine.proofs.runs.run.Given as goal

-- The steps that are left lead from here to where all of them lead from the start.
abbrev pub invariant-loop-step : goal.invariant-loop-step
invariant-loop-step l =
    (decoded : ℕ → Option (Inst × ℕ)) → Decodes l.image l.range decoded
    → steps State Ending (step_at (scene_of l.image l.range decoded l.start)) (l.steps - l._step) l.at (state_with l.start.pages l.answers l.machine)
    ≡ steps State Ending (step_at (scene_of l.image l.range decoded l.start)) l.steps l.range.entry (start_state l.start l.answers)
