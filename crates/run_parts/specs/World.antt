-- Where a run stands.
use Rattle.std.specs.Prelude.{ℕ, nat_eq, nat_lt, ◌&&◌, if◌then◌else◌, List, []}
use Rattle.dream_words.specs.declared.machine.Regs.{Regs}
use Rattle.dream_words.specs.declared.pages.Pages.{Pages}
use Rattle.dream_words.specs.declared.machine.Name.{Name}
use Rattle.dream_words.specs.declared.machine.Name.TheVariants.{Reg, Flag, Fs, Gs, T, B, S}
use Rattle.dream_words.specs.declared.outcome.Start.{Start}
use Rattle.dream_words.specs.declared.outcome.Answer.{Answer}
use Rattle.dream_words.specs.declared.outcome.Call.{Call}
use Rattle.dream_words.specs.declared.outcome.Outcome.{Outcome}
use Rattle.dream_words.specs.declared.outcome.Outcome.TheVariants as outcome
use Rattle.dream_words.specs.Memory.{Mem}
use Rattle.dream_words.specs.Registers.{reg_of, flag_of}
use Rattle.run_parts.specs.Parts.{Run, Ends, Goes, Past, Broke, Over, Stuck}

-- the word of each name
abbrev pub Names : Type 0
Names = Name → ℕ

-- The words after a name is set. To set a register or a flag that doesn't exist changes nothing.
abbrev pub with_name : Names → Name → ℕ → Names
with_name v (Reg n) x (Reg k) = if nat_eq k n && nat_lt n 8 then x else v (Reg k)
with_name v (Flag n) x (Flag k) = if nat_eq k n && nat_lt n 5 then x else v (Flag k)
with_name v Fs x Fs = x
with_name v Gs x Gs = x
with_name v (T n) x (T k) = if nat_eq k n then x else v (T k)
with_name v (B n) x (B k) = if nat_eq k n then x else v (B k)
with_name v (S n) x (S k) = if nat_eq k n then x else v (S k)
with_name v n x k = v k

-- the eight registers among the names
abbrev pub regs_in : Names → Regs
regs_in v = record {
  eax = v (Reg 0);
  ecx = v (Reg 1);
  edx = v (Reg 2);
  ebx = v (Reg 3);
  esp = v (Reg 4);
  ebp = v (Reg 5);
  esi = v (Reg 6);
  edi = v (Reg 7);
}

-- The words after a call's answer: registers and flags are the answer's, the bases and the locals stay.
abbrev pub answered : Answer → Names → Names
answered a v (Reg n) = reg_of a.regs n
answered a v (Flag n) = flag_of a.flags n
answered a v n = v n

-- The words at the start: registers, flags and bases are the start's, the locals are 0.
abbrev pub start_names : Start → Names
start_names s (Reg n) = reg_of s.regs n
start_names s (Flag n) = flag_of s.flags n
start_names s Fs = s.fs
start_names s Gs = s.gs
start_names s n = 0

-- Where a run stands: the words of the names, the memory, the pages that may be accessed, which no statement changes,
-- the answers that are left and the calls so far.
pub record World : Type 0 where
  pub names : Names
  pub mem : Mem
  pub pages : Pages
  pub left : List Answer
  pub calls : List Call

-- where a run starts
abbrev pub start_world : Start → List Answer → World
start_world s answers = record { names = start_names s; mem = s.mem; pages = s.pages; left = answers; calls = [] }

-- the function returns
abbrev pub returned : World → Outcome
returned w = outcome.Returned (regs_in w.names) w.mem w.calls

-- The outcome of a whole function's run. To come to its end returns; a break that leaves it is stuck.
abbrev pub outcome_of : Run World Outcome → Outcome
outcome_of (Ends (Past w) m) = returned w
outcome_of (Ends (Broke w) m) = outcome.Stuck
outcome_of (Ends (Over o) m) = o
outcome_of (Ends Stuck m) = outcome.Stuck
outcome_of (Goes w) = outcome.Going w.calls
