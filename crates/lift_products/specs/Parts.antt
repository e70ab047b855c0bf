-- What the blocks of products and quotients share: factors, the pair of registers, and the test of a size.
use Rattle.std.specs.Prelude.{ℕ, Bool, true, false, List, [], ◌∷◌}
use Rattle.dream_words.specs.declared.machine.Name.TheVariants.{Flag}
use Rattle.x86_inst.specs.declared.Size.{Size}
use Rattle.x86_inst.specs.declared.Size.TheVariants.{B, H, W}
use Rattle.x86_inst.specs.declared.Operand.{Operand}
use Rattle.c_syntax.specs.declared.syntax.CCmp.TheVariants as test
use Rattle.c_syntax.specs.declared.syntax.CExpr.{CExpr}
use Rattle.c_words.specs.Built.{cmp, word_if}
use Rattle.micro_ir.specs.declared.flow.Stmt.{Stmt}
use Rattle.micro_ir.specs.declared.flow.Stmt.TheVariants as stmt
use Rattle.lift_parts.specs.Parts.{temp, raw_word, value_word, set_part}
use Rattle.lift_blocks.specs.Extended.{extended}

-- the value of an operand as a word of 32 bits: extended by its sign, or by zeros
abbrev pub factor : Bool → Size → Operand → CExpr
factor true size s = extended size (raw_word size s)
factor false size s = value_word size s

-- AH, DX or EDX
abbrev pub high_register : Size → ℕ
high_register B = 4
high_register H = 2
high_register W = 2

-- t1 goes to AL, AX or EAX, and t2 to AH, DX or EDX
abbrev pub pair_writes : Size → List Stmt
pair_writes size = set_part size 0 (temp 1) ∷ set_part size (high_register size) (temp 2) ∷ []

-- 1 where t1, as a signed number, doesn't fit the size: it isn't its own low part extended
abbrev pub unfit_signed : Size → CExpr
unfit_signed size = word_if (cmp test.Ne (extended size (temp 1)) (temp 1))

-- OF and CF are set to a word, and CF last
abbrev pub sets_overflow : CExpr → List Stmt
sets_overflow e = stmt.Set (Flag 4) e ∷ stmt.Set (Flag 0) e ∷ []
