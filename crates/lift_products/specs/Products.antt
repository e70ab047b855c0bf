-- The statements of products. The local t0 has the word that is read, t1 the low word of the product, and t2 its high part.
use Rattle.std.specs.Prelude.{ℕ, Bool, true, false, List, ◌∷◌, ◌++◌}
use Rattle.dream_words.specs.declared.machine.Name.TheVariants.{T}
use Rattle.x86_inst.specs.declared.Size.{Size}
use Rattle.x86_inst.specs.declared.Size.TheVariants.{B, H, W}
use Rattle.x86_inst.specs.declared.Operand.{Operand}
use Rattle.x86_inst.specs.declared.Operand.TheVariants as o
use Rattle.c_syntax.specs.declared.syntax.CBin.TheVariants as op
use Rattle.c_syntax.specs.declared.syntax.CCmp.TheVariants as test
use Rattle.c_syntax.specs.declared.syntax.CFn2.{CFn2}
use Rattle.c_syntax.specs.declared.syntax.CFn2.TheVariants.{Sar, Mulhu, Mulhs}
use Rattle.c_syntax.specs.declared.syntax.CExpr.{CExpr}
use Rattle.c_words.specs.Built.{num, bin, fn2, cmp, word_if}
use Rattle.micro_ir.specs.declared.flow.Stmt.{Stmt}
use Rattle.micro_ir.specs.declared.flow.Stmt.TheVariants as stmt
use Rattle.lift_parts.specs.Parts.{temp, reads, writes}
use Rattle.lift_products.specs.Parts.{factor, pair_writes, unfit_signed, sets_overflow}

-- the product of two operands, modulo 2^32; below 32 bits it is whole
abbrev pub product_word : Bool → Size → Operand → Operand → CExpr
product_word signed size p q = bin op.Mul (factor signed size p) (factor signed size q)

-- the function that gives the high word of a product
abbrev pub high_function : Bool → CFn2
high_function true = Mulhs
high_function false = Mulhu

-- the high word of the product of two words
abbrev pub high_product_word : Bool → Operand → Operand → CExpr
high_product_word signed p q = fn2 (high_function signed) (factor signed W p) (factor signed W q)

-- a word whose low part is the high part of the product, where t1 is the product
abbrev pub high_word : Bool → Size → Operand → Operand → CExpr
high_word signed B p q = bin op.Shr (temp 1) (num 8)
high_word signed H p q = bin op.Shr (temp 1) (num 16)
high_word signed W p q = high_product_word signed p q

-- 1 where a high word isn't made of copies of the top bit of t1
abbrev pub unfit_high : CExpr → CExpr
unfit_high high = word_if (cmp test.Ne high (fn2 Sar (temp 1) (num 31)))

-- the word of CF and OF after MUL, and after IMUL of one operand
abbrev pub wide_overflow : Bool → Size → CExpr
wide_overflow false size = word_if (cmp test.Ne (temp 2) (num 0))
wide_overflow true B = unfit_signed B
wide_overflow true H = unfit_signed H
wide_overflow true W = unfit_high (temp 2)

-- MUL, and IMUL of one operand
abbrev pub wide_stmts : Bool → Size → Operand → List Stmt
wide_stmts signed size s =
    reads size s ++ stmt.Set (T 1) (product_word signed size (o.Reg 0) s) ∷ stmt.Set (T 2) (high_word signed size (o.Reg 0) s)
    ∷ (sets_overflow (wide_overflow signed size) ++ pair_writes size)

-- the word of CF and OF after IMUL of two and of three operands
abbrev pub times_overflow : Size → Operand → Operand → CExpr
times_overflow B p q = unfit_signed B
times_overflow H p q = unfit_signed H
times_overflow W p q = unfit_high (high_product_word true p q)

-- a register gets the low part of the signed product of two operands, of which one is read
abbrev pub times_stmts : Size → ℕ → Operand → Operand → Operand → List Stmt
times_stmts size d p q s =
    reads size s ++ stmt.Set (T 1) (product_word true size p q) ∷ (sets_overflow (times_overflow size p q) ++ writes size (o.Reg d) (temp 1))

-- IMUL of two operands
abbrev pub imul2_stmts : Size → ℕ → Operand → List Stmt
imul2_stmts size d s = times_stmts size d (o.Reg d) s s

-- IMUL of three operands
abbrev pub imul3_stmts : Size → ℕ → Operand → ℕ → List Stmt
imul3_stmts size d s k = times_stmts size d s (o.Imm k) s
