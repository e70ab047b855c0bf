-- Which flags each instruction reads (Intel SDM vol. 1, appendix A), and when one of them is undefined.
use Rattle.std.specs.Prelude.{ℕ, ◌%◌, ◌/◌, ◌==◌, ◌||◌, Bool, true, false, List, [], ◌∷◌, if◌then◌else◌}
use Rattle.x86_inst.specs.declared.Inst.{Inst}
use Rattle.x86_inst.specs.declared.Inst.TheVariants as i
use Rattle.x86_inst.specs.declared.AluOp.{AluOp}
use Rattle.x86_inst.specs.declared.AluOp.TheVariants.{Adc, Sbb}
use Rattle.x86_inst.specs.declared.CarryOp.{CarryOp}
use Rattle.x86_inst.specs.declared.CarryOp.TheVariants.{Flip}
use Rattle.dream_words.specs.declared.machine.Bit.{Bit}
use Rattle.dream_words.specs.declared.machine.Bit.TheVariants.{Zero, One, Undefined}
use Rattle.dream_words.specs.declared.machine.Flags.{Flags}
use Rattle.x86_model.specs.declared.effect.Step.{Step}
use Rattle.x86_model.specs.declared.effect.Go.{Go}
use Rattle.x86_model.specs.declared.effect.Go.TheVariants as go
use Rattle.x86_model.specs.Operands.{value_of}

-- The flags of a condition, by its number (Intel SDM vol. 1, appendix B): O and NO, B and NB, E and NE, BE and NBE, S and
-- NS, P and NP, L and NL, LE and NLE.
abbrev pub condition_flags : ℕ → Flags → List Bit
condition_flags n f =
    let pair = n % 16 / 2 in
    if pair == 0 then f.o ∷ [] else
    (if pair == 1 then f.c ∷ [] else
    (if pair == 2 then f.z ∷ [] else
    (if pair == 3 then f.c ∷ f.z ∷ [] else
    (if pair == 4 then f.s ∷ [] else
    (if pair == 5 then f.p ∷ [] else
    (if pair == 6 then f.s ∷ f.o ∷ [] else
    f.z ∷ f.s ∷ f.o ∷ []))))))

-- ADC and SBB read the carry.
abbrev pub alu_flags_read : AluOp → Flags → List Bit
alu_flags_read Adc f = f.c ∷ []
alu_flags_read Sbb f = f.c ∷ []
alu_flags_read _ f = []

-- CMC reads the carry.
abbrev pub carry_flags_read : CarryOp → Flags → List Bit
carry_flags_read Flip f = f.c ∷ []
carry_flags_read _ f = []

-- the flags that an instruction reads
abbrev pub flags_read : Inst → Flags → List Bit
flags_read (i.Alu op size d s) f = alu_flags_read op f
flags_read (i.Carry op) f = carry_flags_read op f
flags_read (i.Jcc n distance) f = condition_flags n.0 f
flags_read (i.Set n d) f = condition_flags n.0 f
flags_read (i.Cmov n size d s) f = condition_flags n.0 f
flags_read _ f = []

abbrev pub is_undefined : Bit → Bool
is_undefined Zero = false
is_undefined One = false
is_undefined Undefined = true

abbrev pub some_undefined : List Bit → Bool
some_undefined [] = false
some_undefined (b ∷ bits) = is_undefined b || some_undefined bits

-- the instruction reads a flag that is undefined
abbrev pub reads_undefined : Inst → Flags → Bool
reads_undefined i f = some_undefined (flags_read i f)

-- BSF and BSR search their operand, which is 0, for a bit (Intel SDM vol. 2, BSF).
abbrev pub searches_zero : Inst → Step → Bool
searches_zero (i.Scan up size d s tz) a = value_of size s a == 0
searches_zero _ a = false

-- the effect is a stray
abbrev pub is_stray : Go → Bool
is_stray go.Stray = true
is_stray _ = false
