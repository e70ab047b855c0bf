-- What one step of each instruction reads, in order.
use Rattle.std.specs.Prelude.{ℕ, ◌+◌, ◌%◌, ◌^◌, ◌==◌, ◌&&◌, Option, Some, None, if◌then◌else◌}
use Rattle.x86_inst.specs.declared.Inst.{Inst}
use Rattle.x86_inst.specs.declared.Inst.TheVariants as i
use Rattle.x86_inst.specs.declared.StrOp.{StrOp}
use Rattle.x86_inst.specs.declared.StrOp.TheVariants.{Movs, Cmps, Stos, Lods, Scas}
use Rattle.x86_inst.specs.declared.Rep.{Rep}
use Rattle.x86_inst.specs.declared.Size.{Size}
use Rattle.x86_inst.specs.declared.Size.TheVariants.{W}
use Rattle.x86_inst.specs.declared.Seg.{Seg}
use Rattle.x86_inst.specs.declared.Operand.{Operand}
use Rattle.x86_inst.specs.declared.Operand.TheVariants as o
use Rattle.dream_words.specs.declared.machine.Regs.{Regs}
use Rattle.x86_model.specs.declared.effect.Access.{Access}
use Rattle.x86_model.specs.declared.effect.Reads.{Reads}
use Rattle.x86_model.specs.Operands.{address_of, base_of, width_of}
use Rattle.x86_model.specs.WideRows.{repeats}

abbrev pub no_reads : Reads
no_reads = record { first = None; second = None }

abbrev pub one_read : Option Access → Reads
one_read a = record { first = a; second = None }

-- the word at an address
abbrev pub word_at : Size → ℕ → Option Access
word_at size at = Some (record { at = at; width = width_of size })

-- what is read of an operand: memory alone
abbrev pub operand_read : Size → Operand → Regs → ℕ → ℕ → Option Access
operand_read size (o.Mem m) r fs gs = word_at size (address_of m r fs gs)
operand_read size (o.Reg n) r fs gs = None
operand_read size (o.Imm k) r fs gs = None

abbrev pub first_access : Option Access → Option Access → Option Access
first_access None b = b
first_access (Some a) b = Some a

-- of two operands at most one is memory
abbrev pub pair_read : Size → Operand → Operand → Regs → ℕ → ℕ → Option Access
pair_read size d s r fs gs = first_access (operand_read size d r fs gs) (operand_read size s r fs gs)

-- the word at ESI, with the segment's base, and the word at EDI
abbrev pub source_read : Size → Seg → Regs → ℕ → ℕ → Option Access
source_read size seg r fs gs = word_at size ((r.esi + base_of seg fs gs) % 2 ^ 32)

abbrev pub target_read : Size → Regs → Option Access
target_read size r = word_at size r.edi

-- one round of a string instruction
abbrev pub round_reads : StrOp → Size → Seg → Regs → ℕ → ℕ → Reads
round_reads Movs size seg r fs gs = one_read (source_read size seg r fs gs)
round_reads Lods size seg r fs gs = one_read (source_read size seg r fs gs)
round_reads Cmps size seg r fs gs = record { first = source_read size seg r fs gs; second = target_read size r }
round_reads Scas size seg r fs gs = one_read (target_read size r)
round_reads Stos size seg r fs gs = no_reads

abbrev pub str_reads : StrOp → Size → Rep → Seg → Regs → ℕ → ℕ → Reads
str_reads op size rep seg r fs gs = if repeats rep && r.ecx == 0 then no_reads else round_reads op size seg r fs gs

-- the reads of a step
abbrev pub reads_of : Inst → Regs → ℕ → ℕ → Reads
reads_of (i.Alu op size d s) r fs gs = one_read (pair_read size d s r fs gs)
reads_of (i.Inc size d) r fs gs = one_read (operand_read size d r fs gs)
reads_of (i.Dec size d) r fs gs = one_read (operand_read size d r fs gs)
reads_of (i.Push s) r fs gs = one_read (operand_read W s r fs gs)
reads_of (i.Pop d) r fs gs = one_read (word_at W r.esp)
reads_of (i.Imul3 size d s k) r fs gs = one_read (operand_read size s r fs gs)
reads_of (i.Jcc n to) r fs gs = no_reads
reads_of (i.Test size d s) r fs gs = one_read (pair_read size d s r fs gs)
reads_of (i.Xchg size d s) r fs gs = one_read (pair_read size d s r fs gs)
reads_of (i.Mov size d s) r fs gs = one_read (operand_read size s r fs gs)
reads_of (i.Lea size d m) r fs gs = no_reads
reads_of i.Nop r fs gs = no_reads
reads_of (i.Widen size) r fs gs = no_reads
reads_of (i.Spread size) r fs gs = no_reads
reads_of (i.Str op size rep seg) r fs gs = str_reads op size rep seg r fs gs
reads_of (i.Shift op size d n) r fs gs = one_read (operand_read size d r fs gs)
reads_of (i.Ret n) r fs gs = no_reads
reads_of i.Leave r fs gs = one_read (word_at W r.ebp)
reads_of (i.Trap v) r fs gs = no_reads
reads_of (i.Loop to) r fs gs = no_reads
reads_of (i.Jecxz to) r fs gs = no_reads
reads_of (i.Call to) r fs gs = no_reads
reads_of (i.Jmp to) r fs gs = no_reads
reads_of (i.Carry op) r fs gs = no_reads
reads_of (i.Not size d) r fs gs = one_read (operand_read size d r fs gs)
reads_of (i.Neg size d) r fs gs = one_read (operand_read size d r fs gs)
reads_of (i.Mul size s) r fs gs = one_read (operand_read size s r fs gs)
reads_of (i.ImulWide size s) r fs gs = one_read (operand_read size s r fs gs)
reads_of (i.Div size s) r fs gs = one_read (operand_read size s r fs gs)
reads_of (i.Idiv size s) r fs gs = one_read (operand_read size s r fs gs)
reads_of (i.CallTo s) r fs gs = one_read (operand_read W s r fs gs)
reads_of (i.JmpTo s) r fs gs = one_read (operand_read W s r fs gs)
reads_of (i.Cmov n size d s) r fs gs = one_read (operand_read size s r fs gs)
reads_of (i.Set n d) r fs gs = no_reads
reads_of (i.Bit op size d s) r fs gs = one_read (pair_read size d s r fs gs)
reads_of (i.DShift left d g n) r fs gs = one_read (operand_read W d r fs gs)
reads_of (i.Imul2 size d s) r fs gs = one_read (operand_read size s r fs gs)
reads_of (i.Movx signed from to d s) r fs gs = one_read (operand_read from s r fs gs)
reads_of (i.Scan up size d s tz) r fs gs = one_read (operand_read size s r fs gs)
reads_of (i.Bswap n) r fs gs = no_reads
