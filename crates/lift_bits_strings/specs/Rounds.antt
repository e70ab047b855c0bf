-- The blocks of string instructions: one round, and the test of ECX before the round of a repeated one. The local t0 has the
-- first word that is read, and t1 the second.
use Rattle.std.specs.Prelude.{ℕ, Bool, true, false, if◌then◌else◌, List, [], ◌∷◌, ◌++◌}
use Rattle.dream_words.specs.declared.machine.Name.TheVariants.{Reg, T}
use Rattle.dream_words.specs.Memory.{bytes_of}
use Rattle.x86_inst.specs.declared.AluOp.TheVariants as alu
use Rattle.x86_inst.specs.declared.Inst.{Inst}
use Rattle.x86_inst.specs.declared.Inst.TheVariants as i
use Rattle.x86_inst.specs.declared.StrOp.{StrOp}
use Rattle.x86_inst.specs.declared.StrOp.TheVariants.{Movs, Cmps, Stos, Lods, Scas}
use Rattle.x86_inst.specs.declared.Rep.{Rep}
use Rattle.x86_inst.specs.declared.Rep.TheVariants as rep
use Rattle.x86_inst.specs.declared.Size.{Size}
use Rattle.x86_inst.specs.declared.Seg.{Seg}
use Rattle.x86_model.specs.Operands.{bits_of, width_of}
use Rattle.x86_model.specs.WideRows.{repeats, steps_source, steps_target}
use Rattle.c_syntax.specs.declared.syntax.CBin.TheVariants as op
use Rattle.c_syntax.specs.declared.syntax.CCmp.TheVariants.{Ne}
use Rattle.c_syntax.specs.declared.syntax.CExpr.{CExpr}
use Rattle.c_syntax.specs.declared.syntax.CCond.{CCond}
use Rattle.c_words.specs.Built.{num, bin, cmp}
use Rattle.micro_ir.specs.declared.flow.Stmt.{Stmt}
use Rattle.micro_ir.specs.declared.flow.Stmt.TheVariants as stmt
use Rattle.micro_ir.specs.declared.flow.End.{End as BlockEnd}
use Rattle.micro_ir.specs.declared.flow.End.TheVariants as end
use Rattle.micro_ir.specs.declared.flow.Block.{Block}
use Rattle.lift_parts.specs.Parts.{reg, temp, with_segment, set_part}
use Rattle.lift_alu.specs.Words.{alu_words, flag_set, flag_clear}
use Rattle.lift_blocks.specs.Flags.{sets_flags}

-- ---- one round

-- the address of the source: ESI with the segment's base. That of the target is EDI alone.
abbrev pub source_word : Seg → CExpr
source_word seg = with_segment seg (reg 6)

-- what is read, stored and compared
abbrev pub body_stmts : StrOp → Size → Seg → List Stmt
body_stmts Movs size seg = stmt.Load (T 0) (width_of size) (source_word seg) ∷ stmt.Store (width_of size) (reg 7) (temp 0) ∷ []
body_stmts Stos size seg = stmt.Store (width_of size) (reg 7) (reg 0) ∷ []
body_stmts Lods size seg = stmt.Load (T 0) (width_of size) (source_word seg) ∷ set_part size 0 (temp 0) ∷ []
body_stmts Cmps size seg =
    stmt.Load (T 0) (width_of size) (source_word seg) ∷
    stmt.Load (T 1) (width_of size) (reg 7) ∷
    sets_flags (alu_words alu.Cmp (bits_of size) (temp 0) (temp 1))
body_stmts Scas size seg = stmt.Load (T 0) (width_of size) (reg 7) ∷ sets_flags (alu_words alu.Cmp (bits_of size) (reg 0) (temp 0))

-- a statement where the test holds, else none
abbrev pub where_so : Bool → Stmt → List Stmt
where_so true s = s ∷ []
where_so false s = []

-- a register grows by the bytes of a size
abbrev pub raises : Size → ℕ → Stmt
raises size n = stmt.Set (Reg n) (bin op.Add (reg n) (num (bytes_of (width_of size))))

-- ECX falls by 1
abbrev pub counts_down : Stmt
counts_down = stmt.Set (Reg 1) (bin op.Sub (reg 1) (num 1))

-- ESI and EDI step, and a repeated instruction counts down
abbrev pub step_stmts : StrOp → Size → Rep → List Stmt
step_stmts f size r = where_so (steps_source f) (raises size 6) ++ (where_so (steps_target f) (raises size 7) ++ where_so (repeats r) counts_down)

-- Where the run goes on: to the one successor; or of a repeated instruction, which is node 2 itself, to that one, or by ZF to
-- it or on.
abbrev pub round_end : Rep → BlockEnd
round_end rep.No = end.Go 1
round_end rep.Rep = end.Go 2
round_end rep.Repe = end.Branch (flag_set 2) 2 3
round_end rep.Repne = end.Branch (flag_clear 2) 2 3

-- MOVS, CMPS, STOS, LODS and SCAS
abbrev pub round_block : ℕ → StrOp → Size → Rep → Seg → Block
round_block at f size r seg = record { at = at; stmts = body_stmts f size seg ++ step_stmts f size r; end = round_end r }

-- ---- repeated instructions

-- a repeated string instruction has rounds
abbrev pub has_rounds : Inst → Bool
has_rounds (i.Str f size r seg) = repeats r
has_rounds _ = false

-- ECX isn't 0
abbrev pub some_left : CCond
some_left = cmp Ne (reg 1) (num 0)

-- the test of ECX: node 1 is the round, and node 3 stands for the next address
abbrev pub test_block : ℕ → Block
test_block at = record { at = at; stmts = []; end = end.Branch some_left 1 3 }

-- a block, with the test of ECX before it where the instruction has rounds
abbrev pub with_test : Inst → ℕ → Block → List Block
with_test x at b = if has_rounds x then test_block at ∷ b ∷ [] else b ∷ []
