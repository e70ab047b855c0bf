-- The words of an operation's result and flags, and the conditions by their numbers, as a reader of C sees them.
use Rattle.std.specs.Prelude.{ℕ, ◌-◌, ◌%◌, ◌^◌, ◌==◌, if◌then◌else◌}
use Rattle.x86_inst.specs.declared.AluOp.{AluOp}
use Rattle.x86_inst.specs.declared.AluOp.TheVariants as op
use Rattle.dream_words.specs.declared.machine.Name.TheVariants.{Flag}
use Rattle.c_syntax.specs.declared.syntax.CBin.{CBin}
use Rattle.c_syntax.specs.declared.syntax.CBin.TheVariants.{Add, Sub, And, Or, Xor, Shr}
use Rattle.c_syntax.specs.declared.syntax.CCmp.TheVariants.{Eq, Ne, Lt}
use Rattle.c_syntax.specs.declared.syntax.CFn1.TheVariants.{Par}
use Rattle.c_syntax.specs.declared.syntax.CExpr.{CExpr}
use Rattle.c_syntax.specs.declared.syntax.CCond.{CCond}
use Rattle.c_words.specs.Built.{num, name, bin, fn1, cmp, and, or, word_if}
use Rattle.lift_alu.specs.declared.alu.AluLift.{AluLift}

-- ---- parts

-- the low bits of a word; a word of 32 bits as it stands
abbrev pub low_word : ℕ → CExpr → CExpr
low_word bits e = if bits == 32 then e else bin And e (num (2 ^ bits - 1))

-- the top bit of a low part
abbrev pub top_word : ℕ → CExpr → CExpr
top_word bits e = bin Shr e (num (bits - 1))

-- whether its low byte has an even number of ones, and whether it is 0
abbrev pub even_word : CExpr → CExpr
even_word e = fn1 Par e

abbrev pub zero_word : CExpr → CExpr
zero_word e = word_if (cmp Eq e (num 0))

-- a flag is set, and is clear
abbrev pub flag_set : ℕ → CCond
flag_set n = cmp Ne (name (Flag n)) (num 0)

abbrev pub flag_clear : ℕ → CCond
flag_clear n = cmp Eq (name (Flag n)) (num 0)

-- a is below b, and a is below b once the carry is added to b
abbrev pub below_word : CExpr → CExpr → CExpr
below_word a b = word_if (cmp Lt a b)

abbrev pub below_with_carry_word : CExpr → CExpr → CExpr
below_with_carry_word a b = word_if (or (cmp Lt a b) (and (cmp Eq a b) (flag_set 0)))

-- the top bits of a and b differ, and so do those of c and d
abbrev pub overflow_word : ℕ → CExpr → CExpr → CExpr → CExpr → CExpr
overflow_word bits a b c d = top_word bits (bin And (bin Xor a b) (bin Xor c d))

-- ---- the six words

-- a result r, its PF, ZF and SF, and CF and OF as given
abbrev pub six_words : ℕ → CExpr → CExpr → CExpr → AluLift
six_words bits r c o = record {
  result = r;
  c = c;
  p = even_word r;
  z = zero_word r;
  s = top_word bits r;
  o = o;
}

-- a sum r of x and y, with its carry
abbrev pub sum_words : ℕ → CExpr → CExpr → CExpr → CExpr → AluLift
sum_words bits x y r c = six_words bits r c (overflow_word bits x r y r)

-- a difference r of x and y, with its borrow
abbrev pub difference_words : ℕ → CExpr → CExpr → CExpr → CExpr → AluLift
difference_words bits x y r c = six_words bits r c (overflow_word bits x y x r)

-- x + y, x + y + cf, x - y and x - y - cf
abbrev pub add_words : ℕ → CExpr → CExpr → AluLift
add_words bits x y = let r = low_word bits (bin Add x y) in sum_words bits x y r (below_word r x)

abbrev pub adc_words : ℕ → CExpr → CExpr → AluLift
adc_words bits x y = let r = low_word bits (bin Add (bin Add x y) (name (Flag 0))) in sum_words bits x y r (below_with_carry_word r x)

abbrev pub sub_words : ℕ → CExpr → CExpr → AluLift
sub_words bits x y = difference_words bits x y (low_word bits (bin Sub x y)) (below_word x y)

abbrev pub sbb_words : ℕ → CExpr → CExpr → AluLift
sbb_words bits x y = difference_words bits x y (low_word bits (bin Sub (bin Sub x y) (name (Flag 0)))) (below_with_carry_word x y)

-- a bitwise operation, which clears CF and OF
abbrev pub logic_words : CBin → ℕ → CExpr → CExpr → AluLift
logic_words f bits x y = six_words bits (bin f x y) (num 0) (num 0)

-- each operation on two low parts; Cmp has the words of Sub
abbrev pub part_words : AluOp → ℕ → CExpr → CExpr → AluLift
part_words op.Add bits x y = add_words bits x y
part_words op.Or bits x y = logic_words Or bits x y
part_words op.Adc bits x y = adc_words bits x y
part_words op.Sbb bits x y = sbb_words bits x y
part_words op.And bits x y = logic_words And bits x y
part_words op.Sub bits x y = sub_words bits x y
part_words op.Xor bits x y = logic_words Xor bits x y
part_words op.Cmp bits x y = sub_words bits x y

-- each operation on the low parts of two words
abbrev pub alu_words : AluOp → ℕ → CExpr → CExpr → AluLift
alu_words op bits a b = part_words op bits (low_word bits a) (low_word bits b)

-- ---- conditions

-- SF and OF differ, and are equal
abbrev pub signs_differ : CCond
signs_differ = cmp Ne (name (Flag 3)) (name (Flag 4))

abbrev pub signs_agree : CCond
signs_agree = cmp Eq (name (Flag 3)) (name (Flag 4))

-- The conditions O, NO, B, AE, E, NE, BE, A, S, NS, P, NP, L, GE, LE and G (Intel SDM vol. 1, appendix B).
abbrev pub row_words : ℕ → CCond
row_words n =
    if n == 0 then flag_set 4 else
    (if n == 1 then flag_clear 4 else
    (if n == 2 then flag_set 0 else
    (if n == 3 then flag_clear 0 else
    (if n == 4 then flag_set 2 else
    (if n == 5 then flag_clear 2 else
    (if n == 6 then or (flag_set 0) (flag_set 2) else
    (if n == 7 then and (flag_clear 0) (flag_clear 2) else
    (if n == 8 then flag_set 3 else
    (if n == 9 then flag_clear 3 else
    (if n == 10 then flag_set 1 else
    (if n == 11 then flag_clear 1 else
    (if n == 12 then signs_differ else
    (if n == 13 then signs_agree else
    (if n == 14 then or (flag_set 2) signs_differ else
    and (flag_clear 2) signs_agree))))))))))))))

-- a condition by its number, modulo 16
abbrev pub cond_words : ℕ → CCond
cond_words n = row_words (n % 16)
