-- What an instruction's operands mean: sizes, parts of registers, addresses and values.
use Rattle.std.specs.Prelude.{ℕ, ◌+◌, ◌-◌, ◌*◌, ◌/◌, ◌%◌, ◌^◌, nat_lt, Option, Some, None, if◌then◌else◌}
use Rattle.x86_inst.specs.declared.Size.{Size}
use Rattle.x86_inst.specs.declared.Size.TheVariants.{B, H, W}
use Rattle.x86_inst.specs.declared.Seg.{Seg}
use Rattle.x86_inst.specs.declared.Seg.TheVariants as seg
use Rattle.x86_inst.specs.declared.Mem.{Mem}
use Rattle.x86_inst.specs.declared.Operand.{Operand}
use Rattle.x86_inst.specs.declared.Operand.TheVariants as o
use Rattle.x86_inst.specs.declared.Count.{Count}
use Rattle.x86_inst.specs.declared.Count.TheVariants as n
use Rattle.dream_words.specs.declared.machine.Regs.{Regs}
use Rattle.dream_words.specs.declared.machine.Width.{Width}
use Rattle.dream_words.specs.declared.machine.Width.TheVariants as width
use Rattle.dream_words.specs.Words.{low_part}
use Rattle.dream_words.specs.Registers.{reg_of, with_reg}
use Rattle.x86_model.specs.declared.effect.Step.{Step}

-- the size in bits
abbrev pub bits_of : Size → ℕ
bits_of B = 8
bits_of H = 16
bits_of W = 32

-- the width of an access
abbrev pub width_of : Size → Width
width_of B = width.B
width_of H = width.H
width_of W = width.W

-- a register of a size: al cl dl bl ah ch dh bh, the low halves, or whole (Intel SDM vol. 1, 3.4.1)
abbrev pub part_of : Size → Regs → ℕ → ℕ
part_of B r n = if nat_lt n 4 then reg_of r n % 2 ^ 8 else reg_of r (n - 4) / 2 ^ 8 % 2 ^ 8
part_of H r n = reg_of r n % 2 ^ 16
part_of W r n = reg_of r n

-- a word with other low bits
abbrev pub with_low : ℕ → ℕ → ℕ → ℕ
with_low bits old v = old / 2 ^ bits * 2 ^ bits + v % 2 ^ bits

-- a word with another second byte
abbrev pub with_second : ℕ → ℕ → ℕ
with_second old v = old / 2 ^ 16 * 2 ^ 16 + (v % 2 ^ 8 * 2 ^ 8 + old % 2 ^ 8)

-- the registers after a register of a size is written; the other bits stay
abbrev pub with_part : Size → Regs → ℕ → ℕ → Regs
with_part B r n v =
    if nat_lt n 4 then with_reg r n (with_low 8 (reg_of r n) v)
    else with_reg r (n - 4) (with_second (reg_of r (n - 4)) v)
with_part H r n v = with_reg r n (with_low 16 (reg_of r n) v)
with_part W r n v = with_reg r n (low_part 32 v)

-- the base that a segment adds; of the others it is 0
abbrev pub base_of : Seg → ℕ → ℕ → ℕ
base_of seg.None fs gs = 0
base_of seg.Fs fs gs = fs
base_of seg.Gs fs gs = gs

abbrev pub reg_or_zero : Option ℕ → Regs → ℕ
reg_or_zero None r = 0
reg_or_zero (Some n) r = reg_of r n

-- the address of a memory operand: the sum of its parts (Intel SDM vol. 1, 3.7.5)
abbrev pub address_of : Mem → Regs → ℕ → ℕ → ℕ
address_of m r fs gs = (reg_or_zero m.base r + reg_or_zero m.index r * m.scale + m.disp + base_of m.seg fs gs) % 2 ^ 32

-- the value of an operand; that of memory is the first word that the step reads
abbrev pub value_of : Size → Operand → Step → ℕ
value_of size (o.Reg n) a = part_of size a.regs n
value_of size (o.Mem m) a = low_part (bits_of size) a.first
value_of size (o.Imm k) a = low_part (bits_of size) k

-- how far a shift goes, modulo 32
abbrev pub count_of : Count → Step → ℕ
count_of n.One a = 1
count_of (n.Imm k) a = k % 32
count_of n.Cl a = a.regs.ecx % 32
