-- What the names of a flow stand for in an environment.
use Rattle.std.specs.Prelude.{slice_index}
use Rattle.dream_words.specs.declared.machine.Name.TheVariants.{Reg, Flag, Fs, Gs, T, B, S}
use Rattle.dream_words.specs.Registers.{reg_of}
use Rattle.run_parts.specs.World.{Names}
use Rattle.micro_ir.specs.declared.env.Env.{Env}

-- The word of each name. A register, a flag or a temporary that isn't there is 0, and so is each local of another kind.
abbrev pub names_of : Env → Names
names_of v (Reg n) = reg_of v.regs n
names_of v (Flag n) = slice_index v.flags n
names_of v Fs = v.fs
names_of v Gs = v.gs
names_of v (T n) = slice_index v.temps n
names_of v (B n) = 0
names_of v (S n) = 0
