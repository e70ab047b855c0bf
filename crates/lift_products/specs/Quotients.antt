-- The statements of quotients. The local t0 has the word that is read, t1 the quotient, and t2 the remainder. Below 32 bits
-- the functions of 32 bits divide the dividend, extended to two words, by the divisor, extended to one.
use Rattle.std.specs.Prelude.{ℕ, Bool, true, false, List, ◌∷◌, ◌++◌}
use Rattle.dream_words.specs.declared.machine.Name.TheVariants.{T}
use Rattle.x86_inst.specs.declared.Size.{Size}
use Rattle.x86_inst.specs.declared.Size.TheVariants.{B, H, W}
use Rattle.x86_inst.specs.declared.Operand.{Operand}
use Rattle.c_syntax.specs.declared.syntax.CBin.TheVariants as op
use Rattle.c_syntax.specs.declared.syntax.CCmp.TheVariants as test
use Rattle.c_syntax.specs.declared.syntax.CFn2.TheVariants.{Sar}
use Rattle.c_syntax.specs.declared.syntax.CFn3.{CFn3}
use Rattle.c_syntax.specs.declared.syntax.CFn3.TheVariants.{Divubad, Divuq, Divur, Divsbad, Divsq, Divsr}
use Rattle.c_syntax.specs.declared.syntax.CExpr.{CExpr}
use Rattle.c_words.specs.Built.{num, bin, fn2, fn3, cmp, word_if}
use Rattle.micro_ir.specs.declared.flow.Stmt.{Stmt}
use Rattle.micro_ir.specs.declared.flow.Stmt.TheVariants as stmt
use Rattle.lift_parts.specs.Parts.{reg, temp, low_word, reads}
use Rattle.lift_blocks.specs.Extended.{extended}
use Rattle.lift_products.specs.Parts.{factor, pair_writes, unfit_signed}

-- the low word of the dividend: AX extended, DX:AX, or EAX
abbrev pub low_dividend : Bool → Size → CExpr
low_dividend true B = extended H (reg 0)
low_dividend false B = low_word H (reg 0)
low_dividend signed H = bin op.Or (bin op.Shl (reg 2) (num 16)) (low_word H (reg 0))
low_dividend signed W = reg 0

-- what extends a low word
abbrev pub high_extension : Bool → CExpr → CExpr
high_extension true e = fn2 Sar e (num 31)
high_extension false e = num 0

-- the high word of the dividend: the low one extended, or EDX
abbrev pub high_dividend : Bool → Size → CExpr
high_dividend signed B = high_extension signed (low_dividend signed B)
high_dividend signed H = high_extension signed (low_dividend signed H)
high_dividend signed W = reg 2

-- a function of the dividend and the divisor
abbrev pub divided_word : CFn3 → Bool → Size → Operand → CExpr
divided_word f signed size s = fn3 f (high_dividend signed size) (low_dividend signed size) (factor signed size s)

abbrev pub bad_function : Bool → CFn3
bad_function true = Divsbad
bad_function false = Divubad

abbrev pub quotient_function : Bool → CFn3
quotient_function true = Divsq
quotient_function false = Divuq

abbrev pub remainder_function : Bool → CFn3
remainder_function true = Divsr
remainder_function false = Divur

-- 1 where t1 is above the greatest word of a size
abbrev pub unfit_unsigned : ℕ → CExpr
unfit_unsigned greatest = word_if (cmp test.Lt (num greatest) (temp 1))

-- 1 where the quotient in t1 doesn't fit the size, whose greatest word is given
abbrev pub unfit : Bool → Size → ℕ → CExpr
unfit true size greatest = unfit_signed size
unfit false size greatest = unfit_unsigned greatest

-- A word that isn't 0 exactly where there is no quotient: the divisor is 0, or the quotient doesn't fit.
abbrev pub bad_word : Bool → Size → Operand → CExpr
bad_word signed B s = bin op.Or (divided_word (bad_function signed) signed B s) (unfit signed B 0xff)
bad_word signed H s = bin op.Or (divided_word (bad_function signed) signed H s) (unfit signed H 0xffff)
bad_word signed W s = divided_word (bad_function signed) signed W s

-- DIV and IDIV: the trap comes before a register is set
abbrev pub divide_stmts : Bool → Size → Operand → List Stmt
divide_stmts signed size s =
    reads size s ++ stmt.Set (T 1) (divided_word (quotient_function signed) signed size s) ∷ stmt.Trap 0 (bad_word signed size s)
    ∷ stmt.Set (T 2) (divided_word (remainder_function signed) signed size s) ∷ pair_writes size
