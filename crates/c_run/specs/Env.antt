-- What the names of a function stand for, as the code keeps it.
use Rattle.std.specs.Prelude.{ℕ, nat_eq, if◌then◌else◌, slice_index}
use Rattle.dream_words.specs.declared.machine.Name.TheVariants.{Reg, Flag, Fs, Gs, T, B, S}
use Rattle.dream_words.specs.Registers.{reg_of}
use Rattle.run_parts.specs.World.{Names}
use Rattle.c_run.specs.declared.env.FlagWords.{FlagWords}
use Rattle.c_run.specs.declared.env.Env.{Env}

-- the flag of a number; one that doesn't exist is 0
abbrev pub flag_word : FlagWords → ℕ → ℕ
flag_word f n =
    if nat_eq n 0 then f.c else
    if nat_eq n 1 then f.p else
    if nat_eq n 2 then f.z else
    if nat_eq n 3 then f.s else
    if nat_eq n 4 then f.o else 0

-- the flags after one is set; one that doesn't exist isn't set
abbrev pub with_flag : FlagWords → ℕ → ℕ → FlagWords
with_flag f n x = record {
  c = if nat_eq n 0 then x else f.c;
  p = if nat_eq n 1 then x else f.p;
  z = if nat_eq n 2 then x else f.z;
  s = if nat_eq n 3 then x else f.s;
  o = if nat_eq n 4 then x else f.o;
}

-- the words of locals after one is set
abbrev pub with_local : (ℕ → ℕ) → ℕ → ℕ → ℕ → ℕ
with_local v n x k = if nat_eq k n then x else v k

-- the word of each name; a local past the end of its list is 0
abbrev pub names_of : Env → Names
names_of v (Reg n) = reg_of v.regs n
names_of v (Flag n) = flag_word v.flags n
names_of v Fs = v.fs
names_of v Gs = v.gs
names_of v (T n) = slice_index v.temps n
names_of v (B n) = slice_index v.bools n
names_of v (S n) = slice_index v.selectors n
