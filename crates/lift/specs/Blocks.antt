-- The block that each instruction is lifted to. The code gives exactly these, and of these it is proved that they are the
-- instruction's. The local t0 has the word that is read, t2 the result, and t3 another word.
use Rattle.std.specs.Prelude.{ℕ, ◌+◌, ◌%◌, ◌^◌, Bool, if◌then◌else◌, List, [], ◌∷◌, ◌++◌, not}
use Rattle.dream_words.specs.declared.machine.Name.TheVariants.{Reg, Flag, T}
use Rattle.x86_inst.specs.declared.Inst.{Inst}
use Rattle.x86_inst.specs.declared.Inst.TheVariants as i
use Rattle.x86_inst.specs.declared.AluOp.{AluOp}
use Rattle.x86_inst.specs.declared.AluOp.TheVariants as alu
use Rattle.x86_inst.specs.declared.CarryOp.{CarryOp}
use Rattle.x86_inst.specs.declared.CarryOp.TheVariants.{Flip, Clear, Put}
use Rattle.x86_inst.specs.declared.Size.{Size}
use Rattle.x86_inst.specs.declared.Size.TheVariants.{B, H, W}
use Rattle.x86_inst.specs.declared.Seg.TheVariants as seg
use Rattle.x86_inst.specs.declared.Mem.{Mem}
use Rattle.x86_inst.specs.declared.Operand.{Operand}
use Rattle.x86_inst.specs.declared.Operand.TheVariants as o
use Rattle.x86_model.specs.Operands.{bits_of, width_of}
use Rattle.x86_model.specs.Successors.{is_memory, writes as writes_operand}
use Rattle.c_syntax.specs.declared.syntax.CBin.TheVariants as op
use Rattle.c_syntax.specs.declared.syntax.CCmp.TheVariants as cmp
use Rattle.c_syntax.specs.declared.syntax.CFn2.TheVariants.{Sar}
use Rattle.c_syntax.specs.declared.syntax.CExpr.{CExpr}
use Rattle.c_words.specs.Built.{num, bin, fn2, pick, word_not, word_if, cmp as compare}
use Rattle.micro_ir.specs.declared.flow.Stmt.{Stmt}
use Rattle.micro_ir.specs.declared.flow.Stmt.TheVariants as stmt
use Rattle.micro_ir.specs.declared.flow.End.TheVariants as end
use Rattle.micro_ir.specs.declared.flow.Block.{Block}
use Rattle.lift_parts.specs.Parts.{reg, temp, raw_word, value_word, address_word, reads, pair_reads, writes, pushes}
use Rattle.lift_alu.specs.Words.{alu_words, cond_words, flag_clear}
use Rattle.lift_blocks.specs.Ends.{goes_on, branches, returns}
use Rattle.lift_wide.specs.Wide.{is_wide}
use Rattle.lift_blocks.specs.Flags.{sets_but_carry, sets_flags, computes}
use Rattle.lift_blocks.specs.Extended.{extended}

-- the target of a jump over a distance
abbrev pub target : ℕ → ℕ → CExpr
target next distance = num ((next + distance) % 2 ^ 32)

-- ---- arithmetic

-- ADD, OR, ADC, SBB, AND, SUB, XOR, and CMP, which writes nothing
abbrev pub alu_stmts : AluOp → Size → Operand → Operand → List Stmt
alu_stmts op size d s = let l = alu_words op (bits_of size) (raw_word size d) (raw_word size s) in
    pair_reads size d s ++ (if writes_operand op then computes size d (sets_flags l) l.result else sets_flags l)

-- TEST
abbrev pub test_stmts : Size → Operand → Operand → List Stmt
test_stmts size d s = let l = alu_words alu.And (bits_of size) (raw_word size d) (raw_word size s) in pair_reads size d s ++ sets_flags l

-- INC and DEC keep CF
abbrev pub step_stmts : AluOp → Size → Operand → List Stmt
step_stmts op size d = let l = alu_words op (bits_of size) (raw_word size d) (num 1) in reads size d ++ computes size d (sets_but_carry l) l.result

-- NEG
abbrev pub neg_stmts : Size → Operand → List Stmt
neg_stmts size d = let l = alu_words alu.Sub (bits_of size) (num 0) (raw_word size d) in reads size d ++ computes size d (sets_flags l) l.result

-- CMC, CLC, STC
abbrev pub carry_word : CarryOp → CExpr
carry_word Flip = word_if (flag_clear 0)
carry_word Clear = num 0
carry_word Put = num 1

-- ---- moves

-- MOV
abbrev pub mov_stmts : Size → Operand → Operand → List Stmt
mov_stmts size d s = reads size s ++ writes size d (raw_word size s)

-- LEA: no base of a segment is added
abbrev pub lea_stmts : Size → ℕ → Mem → List Stmt
lea_stmts size d m = writes size (o.Reg d) (address_word (record m { seg = seg.None }))

-- NOT
abbrev pub not_stmts : Size → Operand → List Stmt
not_stmts size d = reads size d ++ writes size d (word_not (raw_word size d))

-- XCHG: both are kept before one is written, and the one that is memory is written before a register of its address changes
abbrev pub exchanges : Size → Operand → Operand → List Stmt
exchanges size d s =
    if is_memory d then writes size d (temp 3) ++ writes size s (temp 2)
    else writes size s (temp 2) ++ writes size d (temp 3)

abbrev pub xchg_stmts : Size → Operand → Operand → List Stmt
xchg_stmts size d s = pair_reads size d s ++ stmt.Set (T 2) (raw_word size d) ∷ stmt.Set (T 3) (raw_word size s) ∷ exchanges size d s

-- MOVSX and MOVZX
abbrev pub movx_stmts : Bool → Size → Size → ℕ → Operand → List Stmt
movx_stmts signed from to d s = reads from s ++ writes to (o.Reg d) (if signed then extended from (raw_word from s) else value_word from s)

-- CBW and CWDE
abbrev pub widen_word : Size → CExpr
widen_word B = extended B (reg 0)
widen_word H = extended B (reg 0)
widen_word W = extended H (reg 0)

-- CWD and CDQ
abbrev pub spread_word : Size → CExpr
spread_word size = fn2 Sar (extended size (reg 0)) (num 31)

-- BSWAP
abbrev pub swapped_word : CExpr → CExpr
swapped_word r =
    bin op.Or (bin op.Shl r (num 24))
    (bin op.Or (bin op.And (bin op.Shl r (num 8)) (num 0xff0000))
    (bin op.Or (bin op.And (bin op.Shr r (num 8)) (num 0xff00)) (bin op.Shr r (num 24))))

-- SETcc
abbrev pub set_stmts : ℕ → Operand → List Stmt
set_stmts c d = writes B d (word_if (cond_words c))

-- CMOVcc: where the condition is false the register gets its own value
abbrev pub cmov_stmts : ℕ → Size → ℕ → Operand → List Stmt
cmov_stmts c size d s = reads size s ++ writes size (o.Reg d) (pick (cond_words c) (raw_word size s) (raw_word size (o.Reg d)))

-- ---- the stack

-- PUSH: the operand is kept before ESP falls
abbrev pub push_stmts : Operand → List Stmt
push_stmts s = reads W s ++ stmt.Set (T 2) (raw_word W s) ∷ pushes (temp 2)

-- ESP grows
abbrev pub pops : ℕ → Stmt
pops n = stmt.Set (Reg 4) (bin op.Add (reg 4) (num n))

-- POP: ESP grows before the word is written
abbrev pub pop_stmts : Operand → List Stmt
pop_stmts d = stmt.Load (T 0) (width_of W) (reg 4) ∷ pops 4 ∷ writes W d (temp 0)

-- LEAVE
abbrev pub leave_stmts : List Stmt
leave_stmts = stmt.Load (T 0) (width_of W) (reg 5) ∷ stmt.Set (Reg 4) (bin op.Add (reg 5) (num 4)) ∷ stmt.Set (Reg 5) (temp 0) ∷ []

-- ---- jumps and calls

-- ECX falls by 1
abbrev pub counts_down : Stmt
counts_down = stmt.Set (Reg 1) (bin op.Sub (reg 1) (num 1))

-- CALL of a target
abbrev pub call_stmts : ℕ → CExpr → List Stmt
call_stmts next to = pushes (num next) ++ stmt.Ext to ∷ []

-- CALL of the address that an operand holds
abbrev pub call_to_stmts : ℕ → Operand → List Stmt
call_to_stmts next s = reads W s ++ stmt.Set (T 2) (raw_word W s) ∷ call_stmts next (temp 2)

-- ---- the table

-- The block of a plain instruction at an address, with the next one. A jump by a word leaves; the wide instructions aren't
-- lifted here.
abbrev pub block_of : Inst → ℕ → ℕ → Block
block_of (i.Alu op size d s) at next = goes_on at (alu_stmts op size d s)
block_of (i.Neg size d) at next = goes_on at (neg_stmts size d)
block_of (i.Inc size d) at next = goes_on at (step_stmts alu.Add size d)
block_of (i.Dec size d) at next = goes_on at (step_stmts alu.Sub size d)
block_of (i.Test size d s) at next = goes_on at (test_stmts size d s)
block_of (i.Mov size d s) at next = goes_on at (mov_stmts size d s)
block_of (i.Lea size d m) at next = goes_on at (lea_stmts size d m)
block_of (i.Push s) at next = goes_on at (push_stmts s)
block_of (i.Pop d) at next = goes_on at (pop_stmts d)
block_of (i.Xchg size d s) at next = goes_on at (xchg_stmts size d s)
block_of (i.Not size d) at next = goes_on at (not_stmts size d)
block_of (i.Movx signed from to d s) at next = goes_on at (movx_stmts signed from to d s)
block_of (i.Widen size) at next = goes_on at (writes size (o.Reg 0) (widen_word size))
block_of (i.Spread size) at next = goes_on at (writes size (o.Reg 2) (spread_word size))
block_of (i.Bswap n) at next = goes_on at (writes W (o.Reg n) (swapped_word (reg n)))
block_of (i.Set c d) at next = goes_on at (set_stmts c.0 d)
block_of (i.Cmov c size d s) at next = goes_on at (cmov_stmts c.0 size d s)
block_of i.Leave at next = goes_on at leave_stmts
block_of i.Nop at next = goes_on at []
block_of (i.Loop distance) at next = branches at (counts_down ∷ []) (compare cmp.Ne (reg 1) (num 0))
block_of (i.Jecxz distance) at next = branches at [] (compare cmp.Eq (reg 1) (num 0))
block_of (i.Jcc c distance) at next = branches at [] (cond_words c.0)
block_of (i.Jmp distance) at next = goes_on at []
block_of (i.JmpTo s) at next = record { at = at; stmts = reads W s; end = end.Leave (raw_word W s) }
block_of (i.Call distance) at next = goes_on at (call_stmts next (target next distance))
block_of (i.CallTo s) at next = goes_on at (call_to_stmts next s)
block_of (i.Ret n) at next = returns at (pops (4 + n) ∷ [])
block_of (i.Trap v) at next = returns at (stmt.Trap v (num 1) ∷ [])
block_of (i.Carry op) at next = goes_on at (stmt.Set (Flag 0) (carry_word op) ∷ [])
block_of _ at next = returns at []

-- the instruction is none of those whose blocks are made elsewhere: products, quotients, shifts, bits and strings
abbrev pub is_plain : Inst → Bool
is_plain x = not (is_wide x)
