-- The statements of shifts and rotations. The local t0 has the operand, and t2 the result.
use Rattle.std.specs.Prelude.{ℕ, ◌-◌, Bool, true, false, if◌then◌else◌, List, [], ◌∷◌, ◌++◌}
use Rattle.dream_words.specs.declared.machine.Name.TheVariants.{Flag, T}
use Rattle.x86_inst.specs.declared.ShiftOp.{ShiftOp}
use Rattle.x86_inst.specs.declared.ShiftOp.TheVariants.{Rol, Ror, Shl, Shr, Sar}
use Rattle.x86_inst.specs.declared.Count.{Count}
use Rattle.x86_inst.specs.declared.Count.TheVariants as n
use Rattle.x86_inst.specs.declared.Size.{Size}
use Rattle.x86_inst.specs.declared.Size.TheVariants.{W}
use Rattle.x86_inst.specs.declared.Operand.{Operand}
use Rattle.x86_inst.specs.declared.Operand.TheVariants as o
use Rattle.x86_model.specs.Operands.{bits_of}
use Rattle.x86_model.specs.Successors.{is_none}
use Rattle.c_syntax.specs.declared.syntax.CBin.TheVariants as op
use Rattle.c_syntax.specs.declared.syntax.CCmp.TheVariants.{Eq}
use Rattle.c_syntax.specs.declared.syntax.CFn2.TheVariants as fn
use Rattle.c_syntax.specs.declared.syntax.CExpr.{CExpr}
use Rattle.c_words.specs.Built.{num, bin, fn2, pick, cmp}
use Rattle.micro_ir.specs.declared.flow.Stmt.{Stmt}
use Rattle.micro_ir.specs.declared.flow.Stmt.TheVariants as stmt
use Rattle.lift_parts.specs.Parts.{flag, low_word, reads, reg, temp, value_word}
use Rattle.lift_alu.specs.Words.{even_word, top_word, zero_word}
use Rattle.lift_blocks.specs.Extended.{extended}
use Rattle.lift_blocks.specs.Flags.{computes}
use Rattle.lift_shifts.specs.Counts.{count_word, before_word, rest_word, turns_word, back_word, may_be_one}

-- the operand's value is taken to t0
abbrev pub takes : Size → Operand → List Stmt
takes size (o.Reg n) = stmt.Set (T 0) (value_word size (o.Reg n)) ∷ []
takes size (o.Mem m) = reads size (o.Mem m)
takes size (o.Imm k) = stmt.Set (T 0) (value_word size (o.Imm k)) ∷ []

-- ---- flags

-- a flag's word; by CL the flag stays where the count is 0
abbrev pub conditional : Count → ℕ → CExpr → CExpr
conditional n.Cl k e = pick (cmp Eq (count_word n.Cl) (num 0)) (flag k) e
conditional n.One k e = e
conditional (n.Imm i) k e = e

abbrev pub sets_flag : Count → ℕ → CExpr → Stmt
sets_flag c k e = stmt.Set (Flag k) (conditional c k e)

-- OF, which every count but 1 leaves undefined or as it is
abbrev pub sets_overflow : Count → CExpr → List Stmt
sets_overflow c e = if may_be_one c then sets_flag c 4 e ∷ [] else []

-- SF, ZF and PF, by the result
abbrev pub sets_result : Size → Count → List Stmt
sets_result size c = sets_flag c 3 (top_word (bits_of size) (temp 2)) ∷ sets_flag c 2 (zero_word (temp 2)) ∷ sets_flag c 1 (even_word (temp 2)) ∷ []

-- the flags with a carry and an overflow; a rotation keeps SF, ZF and PF
abbrev pub sets_shifted : Bool → Size → Count → CExpr → CExpr → List Stmt
sets_shifted rotates size c carry over = sets_overflow c over ++ ((if rotates then [] else sets_result size c) ++ sets_flag c 0 carry ∷ [])

-- ---- shifts and rotations

abbrev pub rotates : ShiftOp → Bool
rotates Rol = true
rotates Ror = true
rotates Shl = false
rotates Shr = false
rotates Sar = false

-- the result. The other part of a rotation goes by 1 besides, so that no count is the size.
abbrev pub shift_word : ShiftOp → Size → Count → CExpr
shift_word Shl size c = low_word size (bin op.Shl (temp 0) (count_word c))
shift_word Shr size c = bin op.Shr (temp 0) (count_word c)
shift_word Sar size c = low_word size (fn2 fn.Sar (extended size (temp 0)) (count_word c))
shift_word Rol size c = low_word size (bin op.Add (bin op.Shl (temp 0) (turns_word size c)) (bin op.Shr (bin op.Shr (temp 0) (back_word size c)) (num 1)))
shift_word Ror size c = low_word size (bin op.Add (bin op.Shl (bin op.Shl (temp 0) (back_word size c)) (num 1)) (bin op.Shr (temp 0) (turns_word size c)))

-- the lowest bit
abbrev pub lowest_word : CExpr → CExpr
lowest_word e = bin op.And e (num 1)

-- CF: the last bit that is shifted out, and of a rotation the bit that came in last
abbrev pub carry_word : ShiftOp → Size → Count → CExpr
carry_word Shl size c = lowest_word (bin op.Shr (temp 0) (rest_word size c))
carry_word Shr size c = lowest_word (bin op.Shr (temp 0) (before_word c))
carry_word Sar size c = lowest_word (fn2 fn.Sar (extended size (temp 0)) (before_word c))
carry_word Rol size c = lowest_word (temp 2)
carry_word Ror size c = top_word (bits_of size) (temp 2)

-- OF of a count of 1
abbrev pub over_word : ShiftOp → Size → CExpr
over_word Shl size = bin op.Xor (top_word (bits_of size) (temp 2)) (top_word (bits_of size) (temp 0))
over_word Shr size = top_word (bits_of size) (temp 0)
over_word Sar size = num 0
over_word Rol size = bin op.Xor (top_word (bits_of size) (temp 2)) (lowest_word (temp 2))
over_word Ror size = bin op.Xor (top_word (bits_of size) (temp 2)) (lowest_word (bin op.Shr (temp 2) (num (bits_of size - 2))))

-- SHL, SHR, SAR, ROL and ROR. By a number that is 0 modulo 32 the operand is read, and nothing more is done.
abbrev pub shift_stmts : ShiftOp → Size → Operand → Count → List Stmt
shift_stmts f size d c =
    if is_none c then reads size d
    else takes size d ++ computes size d (sets_shifted (rotates f) size c (carry_word f size c) (over_word f size)) (shift_word f size c)

-- ---- double shifts

-- a word shifted, and filled with bits of a register
abbrev pub double_word : Bool → ℕ → Count → CExpr
double_word true g c = bin op.Add (bin op.Shl (temp 0) (count_word c)) (bin op.Shr (bin op.Shr (reg g) (back_word W c)) (num 1))
double_word false g c = bin op.Add (bin op.Shl (bin op.Shl (reg g) (back_word W c)) (num 1)) (bin op.Shr (temp 0) (count_word c))

abbrev pub double_carry_word : Bool → Count → CExpr
double_carry_word true c = carry_word Shl W c
double_carry_word false c = carry_word Shr W c

-- SHLD and SHRD
abbrev pub double_stmts : Bool → Operand → ℕ → Count → List Stmt
double_stmts left d g c =
    if is_none c then reads W d
    else takes W d ++ computes W d (sets_shifted false W c (double_carry_word left c) (over_word Shl W)) (double_word left g c)
