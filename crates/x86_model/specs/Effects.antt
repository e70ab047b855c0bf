-- What rows are made of: how a step ends, what it writes besides, and the flags that it reads.
use Rattle.std.specs.Prelude.{ℕ, ◌%◌, ◌/◌, ◌==◌, ◌||◌, Bool, true, false, not, Option, Some, None, if◌then◌else◌}
use Rattle.x86_inst.specs.declared.Size.{Size}
use Rattle.x86_inst.specs.declared.Size.TheVariants.{W}
use Rattle.x86_inst.specs.declared.Operand.{Operand}
use Rattle.x86_inst.specs.declared.Operand.TheVariants as o
use Rattle.dream_words.specs.declared.machine.Bit.{Bit}
use Rattle.dream_words.specs.declared.machine.Bit.TheVariants.{Zero, One, Undefined}
use Rattle.dream_words.specs.declared.machine.Flags.{Flags}
use Rattle.dream_words.specs.Words.{low_part}
use Rattle.dream_words.specs.Signed.{differ}
use Rattle.dream_words.specs.Registers.{with_reg}
use Rattle.x86_model.specs.declared.effect.Step.{Step}
use Rattle.x86_model.specs.declared.effect.Effect.{Effect}
use Rattle.x86_model.specs.declared.effect.Stored.{Stored}
use Rattle.x86_model.specs.declared.effect.Go.{Go}
use Rattle.x86_model.specs.declared.effect.Go.TheVariants as go
use Rattle.x86_model.specs.Operands.{bits_of, width_of, with_part, address_of}
use Rattle.x86_model.specs.Arithmetic.{minus_of}

-- ---- how a step ends

-- the run goes on after the instruction, with these flags
abbrev pub done : Step → Flags → Effect
done a f = record { regs = a.regs; flags = f; store = None; go = go.Next }

-- the run goes on elsewhere
abbrev pub goes : Go → Step → Effect
goes g a = record { regs = a.regs; flags = a.flags; store = None; go = g }

-- the step strays
abbrev pub stray : Step → Effect
stray a = goes go.Stray a

-- the low part of a value is stored at an address
abbrev pub stored : ℕ → Size → ℕ → Option Stored
stored at size v = Some (record { at = at; width = width_of size; value = low_part (bits_of size) v })

-- a value is written to an operand besides
abbrev pub put : Size → Operand → ℕ → Step → Effect → Effect
put size (o.Reg n) v a e = record e { regs = with_part size e.regs n v }
put size (o.Mem m) v a e = record e { store = stored (address_of m a.regs a.fs a.gs) size v }
put size (o.Imm k) v a e = e

-- a word is pushed besides
abbrev pub push : ℕ → Step → Effect → Effect
push v a e = record e {
  regs = with_reg e.regs 4 (minus_of 32 a.regs.esp 4);
  store = stored (minus_of 32 a.regs.esp 4) W v;
}

-- ---- the flags that a step reads

-- what a flag is known to be
abbrev pub known : Bit → Option Bool
known Zero = Some false
known One = Some true
known Undefined = None

-- what two things that are known give
abbrev pub both : (Bool → Bool → Bool) → Option Bool → Option Bool → Option Bool
both f None q = None
both f (Some x) None = None
both f (Some x) (Some y) = Some (f x y)

abbrev pub either : Bool → Bool → Bool
either x y = x || y

abbrev pub opposite : Option Bool → Option Bool
opposite None = None
opposite (Some b) = Some (not b)

-- The conditions O, B, E, BE, S, P, L and LE (Intel SDM vol. 1, appendix B). Each reads all of its flags.
abbrev pub even_condition : ℕ → Flags → Option Bool
even_condition n f =
    if n == 0 then known f.o else
    (if n == 1 then known f.c else
    (if n == 2 then known f.z else
    (if n == 3 then both either (known f.c) (known f.z) else
    (if n == 4 then known f.s else
    (if n == 5 then known f.p else
    (if n == 6 then both differ (known f.s) (known f.o) else
    both either (known f.z) (both differ (known f.s) (known f.o))))))))

-- A condition by its number, of which the odd ones are the opposites of those before them. None where a flag that it
-- reads is undefined.
abbrev pub condition_of : ℕ → Flags → Option Bool
condition_of n f = if n % 2 == 0 then even_condition (n % 16 / 2) f else opposite (even_condition (n % 16 / 2) f)

-- goes on with what is read, or strays
abbrev pub reading : Option Bool → Step → (Bool → Effect) → Effect
reading None a k = stray a
reading (Some b) a k = k b
