-- When a world stands for a state of the machine: all is equal, but that a flag which is undefined may be any word.
use Rattle.std.specs.Prelude.{◌≡◌, ℕ}
use Rattle.dream_words.specs.declared.machine.Bit.{Bit}
use Rattle.dream_words.specs.declared.machine.Bit.TheVariants.{Zero, One, Undefined}
use Rattle.dream_words.specs.declared.machine.Flags.{Flags}
use Rattle.dream_words.specs.declared.machine.Name.TheVariants as name
use Rattle.run_parts.specs.World.{Names, World, regs_in}
use Rattle.x86_model.specs.Machine.{State}

-- a word that stands for a flag
abbrev pub StandsFor : Bit → ℕ → Type 0
StandsFor Zero x = x ≡ 0
StandsFor One x = x ≡ 1
StandsFor Undefined x = Unit {0}

-- the names of the flags stand for them
pub record FlagsStand (f : Flags) (v : Names) : Type 0 where
  pub c : StandsFor f.c (v (name.Flag 0))
  pub p : StandsFor f.p (v (name.Flag 1))
  pub z : StandsFor f.z (v (name.Flag 2))
  pub s : StandsFor f.s (v (name.Flag 3))
  pub o : StandsFor f.o (v (name.Flag 4))

-- the world stands for the state
pub record Stands (m : State) (w : World) : Type 0 where
  pub regs : m.regs ≡ regs_in w.names
  pub flags : FlagsStand m.flags w.names
  pub fs : m.fs ≡ w.names name.Fs
  pub gs : m.gs ≡ w.names name.Gs
  pub mem : m.mem ≡ w.mem
  pub pages : m.pages ≡ w.pages
  pub left : m.left ≡ w.left
  pub calls : m.calls ≡ w.calls

-- the state that a world stands for, with these flags
abbrev pub state_in : World → Flags → State
state_in w f = record {
  regs = regs_in w.names;
  flags = f;
  fs = w.names name.Fs;
  gs = w.names name.Gs;
  mem = w.mem;
  pages = w.pages;
  left = w.left;
  calls = w.calls;
}
