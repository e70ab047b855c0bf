-- How far a shift goes, as words: by CL, modulo 32, or a number. No word is stuck, and each is below 32, whatever the names
-- stand for.
use Rattle.std.specs.Prelude.{◌-◌, ◌%◌, ◌==◌, Bool, true}
use Rattle.x86_inst.specs.declared.Count.{Count}
use Rattle.x86_inst.specs.declared.Count.TheVariants as n
use Rattle.x86_inst.specs.declared.Size.{Size}
use Rattle.x86_model.specs.Operands.{bits_of}
use Rattle.c_syntax.specs.declared.syntax.CBin.TheVariants as op
use Rattle.c_syntax.specs.declared.syntax.CExpr.{CExpr}
use Rattle.c_words.specs.Built.{num, bin, word_not}
use Rattle.lift_parts.specs.Parts.{reg}

-- the count
abbrev pub count_word : Count → CExpr
count_word n.One = num 1
count_word (n.Imm k) = num (k % 32)
count_word n.Cl = bin op.And (reg 1) (num 31)

-- one less, where the count isn't 0
abbrev pub before_word : Count → CExpr
before_word n.One = num 0
before_word (n.Imm k) = num (k % 32 - 1)
before_word n.Cl = bin op.And (bin op.Sub (reg 1) (num 1)) (num 31)

-- the size less the count, where the count isn't 0 and at most the size
abbrev pub rest_word : Size → Count → CExpr
rest_word size n.One = num (bits_of size - 1)
rest_word size (n.Imm k) = num ((bits_of size - k % 32) % 32)
rest_word size n.Cl = bin op.And (bin op.Sub (num (bits_of size)) (reg 1)) (num 31)

-- the count modulo the size
abbrev pub turns_word : Size → Count → CExpr
turns_word size n.One = num 1
turns_word size (n.Imm k) = num (k % 32 % bits_of size)
turns_word size n.Cl = bin op.And (reg 1) (num (bits_of size - 1))

-- the size less 1 and less the count modulo the size
abbrev pub back_word : Size → Count → CExpr
back_word size n.One = num (bits_of size - 2)
back_word size (n.Imm k) = num (bits_of size - 1 - k % 32 % bits_of size)
back_word size n.Cl = bin op.And (word_not (reg 1)) (num (bits_of size - 1))

-- a count that may be 1
abbrev pub may_be_one : Count → Bool
may_be_one n.One = true
may_be_one (n.Imm k) = k % 32 == 1
may_be_one n.Cl = true
