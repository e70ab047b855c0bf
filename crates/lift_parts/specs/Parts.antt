-- The words and statements of which blocks are made: those that read an operand, that are its value, and that write it.
-- The local t0 has the word that is read, and t1 the second one.
use Rattle.std.specs.Prelude.{ℕ, ◌-◌, nat_lt, if◌then◌else◌, List, [], ◌∷◌, Option, Some, None}
use Rattle.dream_words.specs.declared.machine.Name.TheVariants.{Reg, Flag, Fs, Gs, T}
use Rattle.dream_words.specs.Words.{low_part}
use Rattle.x86_inst.specs.declared.Size.{Size}
use Rattle.x86_inst.specs.declared.Size.TheVariants.{B, H, W}
use Rattle.x86_inst.specs.declared.Seg.{Seg}
use Rattle.x86_inst.specs.declared.Seg.TheVariants as seg
use Rattle.x86_inst.specs.declared.Mem.{Mem}
use Rattle.x86_inst.specs.declared.Operand.{Operand}
use Rattle.x86_inst.specs.declared.Operand.TheVariants as o
use Rattle.x86_model.specs.Operands.{bits_of, width_of}
use Rattle.x86_model.specs.Successors.{is_memory}
use Rattle.c_syntax.specs.declared.syntax.CBin.TheVariants as op
use Rattle.c_syntax.specs.declared.syntax.CExpr.{CExpr}
use Rattle.c_words.specs.Built.{num, name, bin}
use Rattle.micro_ir.specs.declared.flow.Stmt.{Stmt}
use Rattle.micro_ir.specs.declared.flow.Stmt.TheVariants as stmt

-- ---- numbers, registers, flags and locals

-- a number, taken to 32 bits
abbrev pub number : ℕ → CExpr
number k = num (low_part 32 k)

abbrev pub reg : ℕ → CExpr
reg n = name (Reg n)

abbrev pub flag : ℕ → CExpr
flag n = name (Flag n)

abbrev pub temp : ℕ → CExpr
temp n = name (T n)

-- ---- values

-- the low part of a word
abbrev pub low_word : Size → CExpr → CExpr
low_word B e = bin op.And e (num 0xff)
low_word H e = bin op.And e (num 0xffff)
low_word W e = e

-- a register of a size: al cl dl bl ah ch dh bh, the low halves, or whole
abbrev pub part_word : Size → ℕ → CExpr
part_word B n = if nat_lt n 4 then bin op.And (reg n) (num 0xff) else bin op.And (bin op.Shr (reg (n - 4)) (num 8)) (num 0xff)
part_word H n = bin op.And (reg n) (num 0xffff)
part_word W n = reg n

-- the index of an address, times its scale, and the displacement
abbrev pub with_index : Option ℕ → ℕ → ℕ → CExpr
with_index None scale disp = number disp
with_index (Some n) scale disp = bin op.Add (bin op.Mul (reg n) (number scale)) (number disp)

-- with a base besides
abbrev pub with_base : Option ℕ → CExpr → CExpr
with_base None e = e
with_base (Some n) e = bin op.Add (reg n) e

-- with the base of a segment besides
abbrev pub with_segment : Seg → CExpr → CExpr
with_segment seg.None e = e
with_segment seg.Fs e = bin op.Add e (name Fs)
with_segment seg.Gs e = bin op.Add e (name Gs)

-- the address of a memory operand
abbrev pub address_word : Mem → CExpr
address_word m = with_segment m.seg (with_base m.base (with_index m.index m.scale m.disp))

-- A word whose low part is the value of an operand; the word of memory was read before.
abbrev pub raw_word : Size → Operand → CExpr
raw_word B (o.Reg n) = if nat_lt n 4 then reg n else bin op.Shr (reg (n - 4)) (num 8)
raw_word H (o.Reg n) = reg n
raw_word W (o.Reg n) = reg n
raw_word size (o.Mem m) = temp 0
raw_word size (o.Imm k) = num (low_part (bits_of size) k)

-- the value of an operand
abbrev pub value_word : Size → Operand → CExpr
value_word size (o.Reg n) = part_word size n
value_word size (o.Mem m) = temp 0
value_word size (o.Imm k) = num (low_part (bits_of size) k)

-- ---- reads and writes

-- a memory operand is read
abbrev pub reads : Size → Operand → List Stmt
reads size (o.Reg n) = []
reads size (o.Mem m) = stmt.Load (T 0) (width_of size) (address_word m) ∷ []
reads size (o.Imm k) = []

-- of two operands the one that is memory is read
abbrev pub pair_reads : Size → Operand → Operand → List Stmt
pair_reads size d s = if is_memory d then reads size d else reads size s

-- a register with a word for its low bits
abbrev pub with_low_word : ℕ → ℕ → ℕ → CExpr → CExpr
with_low_word keep mask n e = bin op.Or (bin op.And (reg n) (num keep)) (bin op.And e (num mask))

-- a register with a word for its second byte
abbrev pub with_second_word : ℕ → CExpr → CExpr
with_second_word n e =
    bin op.Or (bin op.And (reg n) (num 0xffff0000)) (bin op.Or (bin op.Shl (bin op.And e (num 0xff)) (num 8)) (bin op.And (reg n) (num 0xff)))

-- a register of a size is set to a word; its other bits stay
abbrev pub set_part : Size → ℕ → CExpr → Stmt
set_part B n e = if nat_lt n 4 then stmt.Set (Reg n) (with_low_word 0xffffff00 0xff n e) else stmt.Set (Reg (n - 4)) (with_second_word (n - 4) e)
set_part H n e = stmt.Set (Reg n) (with_low_word 0xffff0000 0xffff n e)
set_part W n e = stmt.Set (Reg n) e

-- an operand is set to a word
abbrev pub writes : Size → Operand → CExpr → List Stmt
writes size (o.Reg n) e = set_part size n e ∷ []
writes size (o.Mem m) e = stmt.Store (width_of size) (address_word m) e ∷ []
writes size (o.Imm k) e = []

-- a word is pushed: ESP falls by 4, and the word is stored there
abbrev pub pushes : CExpr → List Stmt
pushes e = stmt.Set (Reg 4) (bin op.Sub (reg 4) (num 4)) ∷ stmt.Store (width_of W) (reg 4) e ∷ []
