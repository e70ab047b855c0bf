-- What the code keeps of a run, read as a state, and where a step of it led.
use Rattle.std.specs.Prelude.{◌≡◌, ℕ, List, [], ◌∷◌, ◌++◌, length, drop, Option}
use Rattle.dream_words.specs.declared.outcome.Answer.{Answer}
use Rattle.dream_words.specs.declared.pages.Pages.{Pages}
use Rattle.x86_inst.specs.declared.Inst.{Inst}
use Rattle.x86_model.specs.declared.effect.Go.TheVariants as go
use Rattle.x86_model.specs.Leads.{call_of, answered_or, leads}
use Rattle.x86_model.specs.Machine.{Onward, At, Finished, Strays, Blank, State, Ending, Returned, Faulted, Asking}
use Rattle.machine.specs.declared.settings.Setting.{Setting}
use Rattle.machine.specs.declared.states.Machine.{Machine}
use Rattle.machine.specs.declared.states.Led.{Led}
use Rattle.machine.specs.declared.states.Led.TheVariants as led
use Rattle.machine.specs.Steps.{judged}
use Rattle.machine.specs.Code.{Decodes}
use Rattle.machine.specs.Run.{Scene, answer_breaks, step_at}

-- The state that a machine stands in, with the pages and the answers of its run. The answers that are left are those after
-- the calls so far.
abbrev pub state_with : Pages → List Answer → Machine → State
state_with pages answers m = record {
  regs = m.regs;
  flags = m.flags;
  fs = m.fs;
  gs = m.gs;
  mem = m.mem;
  pages = pages;
  left = drop (length m.calls) answers;
  calls = m.calls;
}

-- the same in a setting
abbrev pub state_of : Setting → Machine → State
state_of s m = state_with s.pages.now s.answers.now m

-- where a step led that left a state
abbrev pub onward : Led → State → Onward State Ending
onward (led.To a) m = At a m
onward led.Returned m = Finished (Returned m.regs m.mem m.calls)
onward (led.Faulted v bad) m = Finished (Faulted v bad m.mem m.calls)
onward led.Asking m = Finished (Asking m.calls)
onward led.Strayed m = Strays
onward led.Undecoded m = Blank

-- the scene of a setting, with the instructions of its range
abbrev pub scene_in : Setting → (ℕ → Option (Inst × ℕ)) → Scene
scene_in s decoded = record { image = s.image.now; range = s.range; decoded = decoded; slot = s.slot }

-- What the code did from an address is one step of every machine that has the instructions of the range.
abbrev pub IsStep : Setting → ℕ → Machine → Led → Machine → Type 0
IsStep s at old to new =
    (decoded : ℕ → Option (Inst × ℕ)) → Decodes s.image.now s.range decoded
    → onward to (state_of s new) ≡ step_at (scene_in s decoded) at (state_of s old)

-- A call is recorded, and takes the next answer, or asks; then the run goes on as is said.
abbrev pub calling : Led → ℕ → State → Onward State Ending
calling then target m =
    let calls = m.calls ++ call_of target m ∷ [] in
    answered_or m.left calls (λ x rest. onward then (record m { regs = x.regs; flags = x.flags; mem = x.mem; left = rest; calls = calls }))

-- a step from an address outside the range
abbrev pub leaving : Scene → ℕ → State → Onward State Ending
leaving sc at m = judged (answer_breaks sc m.left m.mem) (leads (go.LeaveTo at) at at m)
