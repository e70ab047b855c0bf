-- What every instruction that has a spelling shows: its registers exist, and at most one of its operands is memory.
use Rattle.std.specs.Prelude.{◌≡◌, ℕ, nat_lt, Bool, true, false, not, ◌&&◌, List, Option, Some, None}
use Rattle.x86_inst.specs.declared.Inst.{Inst}
use Rattle.x86_inst.specs.declared.Inst.TheVariants as i
use Rattle.x86_inst.specs.declared.Mem.{Mem}
use Rattle.x86_inst.specs.declared.Operand.{Operand}
use Rattle.x86_inst.specs.declared.Operand.TheVariants as o
use Rattle.x86_inst.specs.Spelling.{Spells}

-- some bytes spell the instruction
abbrev pub HasSpelling : Inst → Type 0
HasSpelling x = (bytes : List ℕ) × Spells bytes x

-- a register that exists
abbrev pub is_register : ℕ → Bool
is_register n = nat_lt n 8

abbrev pub is_register_or_none : Option ℕ → Bool
is_register_or_none None = true
is_register_or_none (Some n) = is_register n

abbrev pub is_formed_mem : Mem → Bool
is_formed_mem m = is_register_or_none m.base && is_register_or_none m.index

abbrev pub is_formed_operand : Operand → Bool
is_formed_operand (o.Reg n) = is_register n
is_formed_operand (o.Mem m) = is_formed_mem m
is_formed_operand (o.Imm k) = true

abbrev pub is_memory : Operand → Bool
is_memory (o.Reg n) = false
is_memory (o.Mem m) = true
is_memory (o.Imm k) = false

-- two operands, of which at most one is memory
abbrev pub are_formed : Operand → Operand → Bool
are_formed d s = is_formed_operand d && (is_formed_operand s && not (is_memory d && is_memory s))

abbrev pub is_formed : Inst → Bool
is_formed (i.Alu op size d s) = are_formed d s
is_formed (i.Inc size d) = is_formed_operand d
is_formed (i.Dec size d) = is_formed_operand d
is_formed (i.Push s) = is_formed_operand s
is_formed (i.Pop d) = is_formed_operand d
is_formed (i.Imul3 size d s k) = is_register d && is_formed_operand s
is_formed (i.Jcc c distance) = true
is_formed (i.Test size d s) = are_formed d s
is_formed (i.Xchg size d s) = are_formed d s
is_formed (i.Mov size d s) = are_formed d s
is_formed (i.Lea size d m) = is_register d && is_formed_mem m
is_formed i.Nop = true
is_formed (i.Widen size) = true
is_formed (i.Spread size) = true
is_formed (i.Str op size r s) = true
is_formed (i.Shift op size d n) = is_formed_operand d
is_formed (i.Ret n) = true
is_formed i.Leave = true
is_formed (i.Trap v) = true
is_formed (i.Loop distance) = true
is_formed (i.Jecxz distance) = true
is_formed (i.Call distance) = true
is_formed (i.Jmp distance) = true
is_formed (i.Carry op) = true
is_formed (i.Not size d) = is_formed_operand d
is_formed (i.Neg size d) = is_formed_operand d
is_formed (i.Mul size s) = is_formed_operand s
is_formed (i.ImulWide size s) = is_formed_operand s
is_formed (i.Div size s) = is_formed_operand s
is_formed (i.Idiv size s) = is_formed_operand s
is_formed (i.CallTo s) = is_formed_operand s
is_formed (i.JmpTo s) = is_formed_operand s
is_formed (i.Cmov c size d s) = is_register d && is_formed_operand s
is_formed (i.Set c d) = is_formed_operand d
is_formed (i.Bit op size d s) = are_formed d s
is_formed (i.DShift left d g n) = is_formed_operand d && is_register g
is_formed (i.Imul2 size d s) = is_register d && is_formed_operand s
is_formed (i.Movx signed from to d s) = is_register d && is_formed_operand s
is_formed (i.Scan up size d s tz) = is_register d && is_formed_operand s
is_formed (i.Bswap n) = is_register n

-- an instruction that has a spelling is formed
abbrev pub SpelledIsFormed : Type 0
SpelledIsFormed = (x : Inst) → HasSpelling x → is_formed x ≡ true
