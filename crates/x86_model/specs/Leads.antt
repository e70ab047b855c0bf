-- How the effect of an instruction continues a run.
use Rattle.std.specs.Prelude.{ℕ, List, [], ◌∷◌, ◌++◌, Option, Some, None}
use Rattle.dream_words.specs.declared.pages.PageRun.{PageRun}
use Rattle.dream_words.specs.declared.outcome.Answer.{Answer}
use Rattle.dream_words.specs.declared.outcome.Call.{Call}
use Rattle.dream_words.specs.Memory.{Mem, load, store, bytes_of}
use Rattle.dream_words.specs.Pages.{first_bad}
use Rattle.x86_inst.specs.declared.Inst.{Inst}
use Rattle.x86_model.specs.declared.effect.Access.{Access}
use Rattle.x86_model.specs.declared.effect.Effect.{Effect}
use Rattle.x86_model.specs.declared.effect.Go.{Go}
use Rattle.x86_model.specs.declared.effect.Go.TheVariants as go
use Rattle.x86_model.specs.declared.effect.Step.{Step}
use Rattle.x86_model.specs.declared.effect.Stored.{Stored}
use Rattle.x86_model.specs.Machine.{Onward, At, Finished, Strays, State, Ending, Returned, Faulted, Asking}
use Rattle.x86_model.specs.Meaning.{effect_of}
use Rattle.x86_model.specs.Reads.{reads_of}

-- ---- where the run goes on

-- a call is recorded with its target, the registers and the memory
abbrev pub call_of : ℕ → State → Call
call_of target m = record { target = target; regs = m.regs; mem = m.mem }

-- a call takes the next answer; the run asks where there is none
abbrev pub answered_or : List Answer → List Call → (Answer → List Answer → Onward State Ending) → Onward State Ending
answered_or [] calls k = Finished (Asking calls)
answered_or (a ∷ rest) calls k = k a rest

-- Where the run goes on. A call is recorded, and the run goes on after it with the answer; where the run leaves, the
-- answer is the returned state. A fault of the instruction itself tells no address.
abbrev pub leads : Go → ℕ → ℕ → State → Onward State Ending
leads go.Next at next m = At next m
leads go.Again at next m = At at m
leads (go.To a) at next m = At a m
leads (go.CallTo a) at next m =
    let calls = m.calls ++ call_of a m ∷ [] in
    answered_or m.left calls (λ x rest. At next (record m { regs = x.regs; flags = x.flags; mem = x.mem; left = rest; calls = calls }))
leads (go.LeaveTo a) at next m =
    let calls = m.calls ++ call_of a m ∷ [] in
    answered_or m.left calls (λ x rest. Finished (Returned x.regs x.mem calls))
leads go.Return at next m = Finished (Returned m.regs m.mem m.calls)
leads (go.Fault v) at next m = Finished (Faulted v 0 m.mem m.calls)
leads go.Stray at next m = Strays

-- the memory after a store
abbrev pub stored : Mem → Option Stored → Mem
stored mem None = mem
stored mem (Some s) = store mem s.at (bytes_of s.width) s.value

-- the state after an effect
abbrev pub after : Effect → State → State
after e m = record m { regs = e.regs; flags = e.flags; mem = stored m.mem e.store }

-- ---- accesses that aren't allowed

-- of two accesses in their order, the address at which the first one that isn't allowed fails
abbrev pub first_of : Option ℕ → Option ℕ → Option ℕ
first_of None b = b
first_of (Some a) b = Some a

-- the first byte of a read that isn't on these pages; where nothing is read there is none
abbrev pub refused : List PageRun → Option Access → Option ℕ
refused runs None = None
refused runs (Some a) = first_bad runs a.at (bytes_of a.width)

-- the first byte that a step may not read, its two reads in their order
abbrev pub refused_read : Inst → State → Option ℕ
refused_read i m = let r = reads_of i m.regs m.fs m.gs in first_of (refused m.pages.read r.first) (refused m.pages.read r.second)

-- the first byte of a store that isn't on these pages; where nothing is stored there is none
abbrev pub refused_word : List PageRun → Option Stored → Option ℕ
refused_word runs None = None
refused_word runs (Some s) = first_bad runs s.at (bytes_of s.width)

-- the first byte that an effect may not store
abbrev pub refused_store : Effect → State → Option ℕ
refused_store e m = refused_word m.pages.write e.store

-- What comes after an access that isn't allowed at an address: a page fault (Intel SDM vol. 3, 6.15, vector 14) with that
-- address and the memory as it was. Where there is none, what comes next.
abbrev pub allowed : Option ℕ → State → Onward State Ending → Onward State Ending
allowed None m next = next
allowed (Some bad) m next = Finished (Faulted 14 bad m.mem m.calls)

-- What an effect leads to, at an address and with the next one: its store comes first.
abbrev pub step_does : Effect → ℕ → ℕ → State → Onward State Ending
step_does e at next m = allowed (refused_store e m) m (leads e.go at next (after e m))

-- ---- a whole step

-- the word that an access reads; where there is none it is 0
abbrev pub read_by : Option Access → Mem → ℕ
read_by None mem = 0
read_by (Some a) mem = load mem a.at (bytes_of a.width)

-- what the step of an instruction begins with
abbrev pub step_of : Inst → ℕ → State → Step
step_of i next m = let r = reads_of i m.regs m.fs m.gs in record {
  regs = m.regs;
  flags = m.flags;
  fs = m.fs;
  gs = m.gs;
  first = read_by r.first m.mem;
  second = read_by r.second m.mem;
  next = next;
}

-- the effect of an instruction in a state
abbrev pub effect_in : Inst → ℕ → State → Effect
effect_in i next m = effect_of i (step_of i next m)

-- What the step of an instruction leads to, but for the strays that the range and its answers decide. Its reads come
-- before everything else.
abbrev pub instruction_does : Inst → ℕ → ℕ → State → Onward State Ending
instruction_does i at next m = allowed (refused_read i m) m (step_does (effect_in i next m) at next m)
