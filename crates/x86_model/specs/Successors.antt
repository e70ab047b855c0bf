-- Where the run may go on after an instruction, and which instructions store and ask.
use Rattle.std.specs.Prelude.{ℕ, ◌+◌, ◌%◌, ◌^◌, ◌==◌, ◌||◌, Bool, true, false, List, [], ◌∷◌, if◌then◌else◌}
use Rattle.x86_inst.specs.declared.Inst.{Inst}
use Rattle.x86_inst.specs.declared.Inst.TheVariants as i
use Rattle.x86_inst.specs.declared.AluOp.{AluOp}
use Rattle.x86_inst.specs.declared.AluOp.TheVariants.{Cmp}
use Rattle.x86_inst.specs.declared.BitOp.{BitOp}
use Rattle.x86_inst.specs.declared.BitOp.TheVariants.{Bt}
use Rattle.x86_inst.specs.declared.StrOp.{StrOp}
use Rattle.x86_inst.specs.declared.StrOp.TheVariants.{Movs, Stos}
use Rattle.x86_inst.specs.declared.Count.{Count}
use Rattle.x86_inst.specs.declared.Count.TheVariants as count
use Rattle.x86_inst.specs.declared.Operand.{Operand}
use Rattle.x86_inst.specs.declared.Operand.TheVariants as o
use Rattle.x86_model.specs.Rows.{is_bare}
use Rattle.x86_model.specs.WideRows.{repeats}

-- The successors of an instruction at an address, with the next one, in order: of a branch the target and the next address;
-- of a repeated string instruction itself and the next address; of a jump its target. A return, a fault and a jump
-- by a word have none.
abbrev pub successors_of : Inst → ℕ → ℕ → List ℕ
successors_of (i.Jcc c distance) at next = (next + distance) % 2 ^ 32 ∷ next ∷ []
successors_of (i.Loop distance) at next = (next + distance) % 2 ^ 32 ∷ next ∷ []
successors_of (i.Jecxz distance) at next = (next + distance) % 2 ^ 32 ∷ next ∷ []
successors_of (i.Jmp distance) at next = (next + distance) % 2 ^ 32 ∷ []
successors_of (i.JmpTo s) at next = []
successors_of (i.Ret n) at next = []
successors_of (i.Trap v) at next = []
successors_of (i.Str op size r s) at next = if repeats r then at ∷ next ∷ [] else next ∷ []
successors_of _ at next = next ∷ []

abbrev pub is_memory : Operand → Bool
is_memory (o.Mem m) = true
is_memory (o.Reg n) = false
is_memory (o.Imm k) = false

-- every operation but Cmp writes its operand
abbrev pub writes : AluOp → Bool
writes Cmp = false
writes _ = true

-- every test of a bit but Bt does
abbrev pub writes_bit : BitOp → Bool
writes_bit Bt = false
writes_bit _ = true

abbrev pub writes_string : StrOp → Bool
writes_string Movs = true
writes_string Stos = true
writes_string _ = false

-- a count that is a number and 0 modulo 32
abbrev pub is_none : Count → Bool
is_none count.One = false
is_none (count.Imm k) = k % 32 == 0
is_none count.Cl = false

-- the instruction stores a word
abbrev pub stores : Inst → Bool
stores (i.Push s) = true
stores (i.Call distance) = true
stores (i.CallTo s) = true
stores (i.Str op size r s) = writes_string op
stores (i.Mov size d s) = is_memory d
stores (i.Inc size d) = is_memory d
stores (i.Dec size d) = is_memory d
stores (i.Not size d) = is_memory d
stores (i.Neg size d) = is_memory d
stores (i.Set c d) = is_memory d
stores (i.Pop d) = is_memory d
stores (i.Bit op size d s) = if writes_bit op then is_memory d else false
stores (i.Alu op size d s) = if writes op then is_memory d else false
stores (i.Xchg size d s) = is_memory d || is_memory s
stores (i.Shift op size d n) = if is_none n then false else is_memory d
stores (i.DShift left d g n) = if is_none n then false else is_memory d
stores _ = false

-- the instruction asks: it is a call, or a jump through a bare absolute address
abbrev pub asks : Inst → Bool
asks (i.Call distance) = true
asks (i.CallTo s) = true
asks (i.JmpTo s) = is_bare s
asks _ = false
