-- The statements of BT, BTS, BTR and BTC, and of BSF and BSR. The local t0 has the word that is read.
use Rattle.std.specs.Prelude.{ℕ, ◌-◌, Bool, true, false, if◌then◌else◌, List, [], ◌∷◌, ◌++◌}
use Rattle.dream_words.specs.declared.machine.Name.TheVariants.{Flag}
use Rattle.x86_inst.specs.declared.BitOp.{BitOp}
use Rattle.x86_inst.specs.declared.BitOp.TheVariants.{Bt, Bts, Btr, Btc}
use Rattle.x86_inst.specs.declared.Size.{Size}
use Rattle.x86_inst.specs.declared.Operand.{Operand}
use Rattle.x86_inst.specs.declared.Operand.TheVariants as o
use Rattle.x86_model.specs.Operands.{bits_of}
use Rattle.x86_model.specs.Successors.{writes_bit}
use Rattle.c_syntax.specs.declared.syntax.CBin.TheVariants as op
use Rattle.c_syntax.specs.declared.syntax.CFn1.TheVariants.{Bsf, Bsr}
use Rattle.c_syntax.specs.declared.syntax.CExpr.{CExpr}
use Rattle.c_words.specs.Built.{num, bin, fn1, word_not}
use Rattle.micro_ir.specs.declared.flow.Stmt.{Stmt}
use Rattle.micro_ir.specs.declared.flow.Stmt.TheVariants as stmt
use Rattle.lift_parts.specs.Parts.{raw_word, value_word, reads, pair_reads, writes}

-- ---- tests of bits

-- the index of the bit, modulo the size
abbrev pub index_word : Size → Operand → CExpr
index_word size s = bin op.And (raw_word size s) (num (bits_of size - 1))

-- a word with that bit alone
abbrev pub one_bit : Size → Operand → CExpr
one_bit size s = bin op.Shl (num 1) (index_word size s)

-- the bit as it was
abbrev pub old_bit : Size → Operand → Operand → CExpr
old_bit size d s = bin op.And (bin op.Shr (value_word size d) (index_word size s)) (num 1)

-- the operand with its bit kept, set, cleared or flipped
abbrev pub bit_word : BitOp → Size → Operand → Operand → CExpr
bit_word Bt size d s = value_word size d
bit_word Bts size d s = bin op.Or (value_word size d) (one_bit size s)
bit_word Btr size d s = bin op.And (value_word size d) (word_not (one_bit size s))
bit_word Btc size d s = bin op.Xor (value_word size d) (one_bit size s)

-- CF is the old bit
abbrev pub keeps_bit : Size → Operand → Operand → List Stmt
keeps_bit size d s = stmt.Set (Flag 0) (old_bit size d s) ∷ []

-- Of these BT alone doesn't write its operand. ZF is kept, and the other flags are undefined.
abbrev pub bit_stmts : BitOp → Size → Operand → Operand → List Stmt
bit_stmts f size d s = pair_reads size d s ++ (if writes_bit f then keeps_bit size d s ++ writes size d (bit_word f size d s) else keeps_bit size d s)

-- ---- places of bits

-- the place of the lowest or the highest bit that is set
abbrev pub place_word : Bool → CExpr → CExpr
place_word true e = fn1 Bsf e
place_word false e = fn1 Bsr e

-- ZF is 0, but for the spelling of TZCNT, where it is undefined
abbrev pub scan_flag : Bool → List Stmt
scan_flag true = []
scan_flag false = stmt.Set (Flag 2) (num 0) ∷ []

-- BSF and BSR
abbrev pub scan_stmts : Bool → Size → ℕ → Operand → Bool → List Stmt
scan_stmts up size d s tz = reads size s ++ (scan_flag tz ++ writes size (o.Reg d) (place_word up (value_word size s)))
