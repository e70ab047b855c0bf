-- The statements of shifts keep the rule of flows and are safe; by CL, and by a number that isn't 0, a shift of memory stores
-- once.
use Rattle.std.proofs.Common.{◌≡◌, ℕ, ◌+◌, ◌-◌, ◌%◌, ◌^◌, ◌<◌, ◌≤◌, Bool, true, false, List, [], ◌∷◌, ◌++◌, refl, subst, lit<, lit≤, arith}
use Rattle.std.specs.Prelude.{IsTrue, if◌then◌else◌}
use Rattle.dream_words.specs.declared.machine.Name.{Name}
use Rattle.dream_words.specs.declared.machine.Name.TheVariants as name
use Rattle.x86_inst.specs.declared.Count.{Count}
use Rattle.x86_inst.specs.declared.Count.TheVariants as n
use Rattle.x86_inst.specs.declared.Operand.{Operand}
use Rattle.x86_inst.specs.declared.Operand.TheVariants as o
use Rattle.x86_inst.specs.declared.ShiftOp.{ShiftOp}
use Rattle.x86_inst.specs.declared.ShiftOp.TheVariants.{Rol, Ror, Shl, Shr, Sar}
use Rattle.x86_inst.specs.declared.Size.{Size}
use Rattle.x86_inst.specs.declared.Size.TheVariants.{B, H, W}
use Rattle.x86_formed.specs.Formed.{is_formed_operand}
use Rattle.x86_model.specs.Operands.{bits_of}
use Rattle.x86_model.specs.Successors.{is_memory, is_none}
use Rattle.c_syntax.specs.declared.syntax.CBin.TheVariants as op
use Rattle.c_syntax.specs.declared.syntax.CCmp.TheVariants as test
use Rattle.c_syntax.specs.declared.syntax.CFn1.TheVariants.{Par, Sx1, Sx2}
use Rattle.c_syntax.specs.declared.syntax.CFn2.TheVariants as fn
use Rattle.c_syntax.specs.declared.syntax.CExpr.{CExpr}
use Rattle.c_words.specs.Built.{bin, cmp, num, word_not}
use Rattle.micro_ir.specs.declared.flow.Stmt.{Stmt}
use Rattle.micro_ir.specs.declared.flow.Stmt.TheVariants as stmt
use Rattle.micro_ir.specs.Rule.{is_flow_name, is_flow_target, is_flow_word}
use Rattle.lift_parts.specs.Lifted.{once}
use Rattle.lift_parts.specs.Parts.{flag, low_word, reads, reg, temp, value_word, writes}
use Rattle.lift_parts.proofs.Fit.{AreFit, IsFit, bin_fit, both_hold, deeper, fit_append, fit_word, masked_fit, more_fit, name_fit, none_fit, num_fit, reads_fit, reg_fit, shl_fit, shr_fit, temp_fit, value_fit}
use Rattle.lift_parts.proofs.FitShapes.{IsCount, cmp_fit, cond_deeper, fn1_fit, fn2_fit, masked_count, not_fit, num_count, pick_fit, shl_count_fit, shr_count_fit, word_if_fit}
use Rattle.lift_parts.proofs.FitWrites.{writes_fit}
use Rattle.lift_alu.specs.Words.{even_word, top_word, zero_word}
use Rattle.lift_blocks.specs.Extended.{extended}
use Rattle.lift_blocks.specs.Flags.{computes}
use Rattle.lift_shifts.specs.Counts.{back_word, before_word, count_word, may_be_one, rest_word, turns_word}
use Rattle.lift_shifts.specs.Shifts.{carry_word, conditional, double_carry_word, double_stmts, double_word, lowest_word, over_word, rotates, sets_flag, sets_overflow, sets_result, sets_shifted, shift_stmts, shift_word, takes}
use Rattle.lift_shifts.proofs.CountWords.{back_below, below_32, less_below, top_below, turns_below}

-- ---- counts, at most 3 deep

ecx_fit : (d : ℕ) → 1 ≤ d → IsFit d (reg 1)
ecx_fit d h = reg_fit d 1 h (lit< tt)

count_fit : (c : Count) → IsCount 3 (count_word c)
count_fit n.One = num_count 3 1 (lit≤ tt) (lit< tt)
count_fit (n.Imm k) = num_count 3 (k % 32) (lit≤ tt) (below_32 k)
count_fit n.Cl = masked_count 2 (reg 1) 31 (lit≤ tt) (lit< tt) (ecx_fit 2 (lit≤ tt))

before_fit : (c : Count) → IsCount 3 (before_word c)
before_fit n.One = num_count 3 0 (lit≤ tt) (lit< tt)
before_fit (n.Imm k) = num_count 3 (k % 32 - 1) (lit≤ tt) (less_below k)
before_fit n.Cl = masked_count 2 (bin op.Sub (reg 1) (num 1)) 31 (lit≤ tt) (lit< tt) (bin_fit 1 op.Sub (reg 1) (num 1) refl (ecx_fit 1 (lit≤ tt)) (num_fit 1 1 (lit≤ tt) (lit< tt)))

size_word : (size : Size) → bits_of size < 2 ^ 32
size_word B = lit< tt
size_word H = lit< tt
size_word W = lit< tt

rest_fit : (size : Size) (c : Count) → IsCount 3 (rest_word size c)
rest_fit size n.One = num_count 3 (bits_of size - 1) (lit≤ tt) (top_below size)
rest_fit size (n.Imm k) = num_count 3 ((bits_of size - k % 32) % 32) (lit≤ tt) (below_32 (bits_of size - k % 32))
rest_fit size n.Cl =
    masked_count 2 (bin op.Sub (num (bits_of size)) (reg 1)) 31 (lit≤ tt) (lit< tt)
    (bin_fit 1 op.Sub (num (bits_of size)) (reg 1) refl (num_fit 1 (bits_of size) (lit≤ tt) (size_word size)) (ecx_fit 1 (lit≤ tt)))

turns_fit : (size : Size) (c : Count) → IsCount 3 (turns_word size c)
turns_fit size n.One = num_count 3 1 (lit≤ tt) (lit< tt)
turns_fit size (n.Imm k) = num_count 3 (k % 32 % bits_of size) (lit≤ tt) (turns_below size (k % 32))
turns_fit size n.Cl = masked_count 2 (reg 1) (bits_of size - 1) (lit≤ tt) (top_below size) (ecx_fit 2 (lit≤ tt))

second_below : (size : Size) → bits_of size - 2 < 32
second_below B = lit< tt
second_below H = lit< tt
second_below W = lit< tt

back_fit : (size : Size) (c : Count) → IsCount 3 (back_word size c)
back_fit size n.One = num_count 3 (bits_of size - 2) (lit≤ tt) (second_below size)
back_fit size (n.Imm k) = num_count 3 (bits_of size - 1 - k % 32 % bits_of size) (lit≤ tt) (back_below size (k % 32))
back_fit size n.Cl = masked_count 2 (word_not (reg 1)) (bits_of size - 1) (lit≤ tt) (top_below size) (not_fit 1 (reg 1) (ecx_fit 1 (lit≤ tt)))

-- ---- words

operand_fit : (d : ℕ) → 1 ≤ d → IsFit d (temp 0)
operand_fit d h = temp_fit d 0 h (lit< tt)

result_fit : (d : ℕ) → 1 ≤ d → IsFit d (temp 2)
result_fit d h = temp_fit d 2 h (lit< tt)

low_fit : (d : ℕ) (size : Size) (e : CExpr) → 1 ≤ d → IsFit d e → IsFit (d + 1) (low_word size e)
low_fit d B e h f = masked_fit d e 0xff h (lit< tt) f
low_fit d H e h f = masked_fit d e 0xffff h (lit< tt) f
low_fit d W e h f = deeper d (d + 1) e (more d) f
  where
    more : (d : ℕ) → d ≤ d + 1
    more d = omega arith

extended_fit : (size : Size) → IsFit 3 (extended size (temp 0))
extended_fit B = fn1_fit 2 Sx1 (temp 0) (operand_fit 2 (lit≤ tt))
extended_fit H = fn1_fit 2 Sx2 (temp 0) (operand_fit 2 (lit≤ tt))
extended_fit W = operand_fit 3 (lit≤ tt)

top_fit : (d : ℕ) (size : Size) (e : CExpr) → 1 ≤ d → IsFit d e → IsFit (d + 1) (top_word (bits_of size) e)
top_fit d size e h f = shr_fit d e (bits_of size - 1) h (top_below size) f

lowest_fit : (d : ℕ) (e : CExpr) → 1 ≤ d → IsFit d e → IsFit (d + 1) (lowest_word e)
lowest_fit d e h f = masked_fit d e 1 h (lit< tt) f

sum_fit : (e f k m : CExpr) → IsFit 3 e → IsFit 3 f → IsCount 3 k → IsCount 3 m → IsFit 6 (bin op.Add (bin op.Shl e k) (bin op.Shr (bin op.Shr f m) (num 1)))
sum_fit e f k m h g i j =
    bin_fit 5 op.Add _ _ refl (deeper 4 5 _ (lit≤ tt) (shl_count_fit 3 e k h i)) (shr_fit 4 (bin op.Shr f m) 1 (lit≤ tt) (lit< tt) (shr_count_fit 3 f m g j))

other_sum_fit : (e f k m : CExpr) → IsFit 3 e → IsFit 3 f → IsCount 3 k → IsCount 3 m → IsFit 6 (bin op.Add (bin op.Shl (bin op.Shl f m) (num 1)) (bin op.Shr e k))
other_sum_fit e f k m h g i j =
    bin_fit 5 op.Add _ _ refl (shl_fit 4 (bin op.Shl f m) 1 (lit≤ tt) (lit< tt) (shl_count_fit 3 f m g j)) (deeper 4 5 _ (lit≤ tt) (shr_count_fit 3 e k h i))

shift_fit : (f : ShiftOp) (size : Size) (c : Count) → IsFit 7 (shift_word f size c)
shift_fit Shl size c = deeper 5 7 _ (lit≤ tt) (low_fit 4 size _ (lit≤ tt) (shl_count_fit 3 (temp 0) (count_word c) (operand_fit 3 (lit≤ tt)) (count_fit c)))
shift_fit Shr size c = deeper 4 7 _ (lit≤ tt) (shr_count_fit 3 (temp 0) (count_word c) (operand_fit 3 (lit≤ tt)) (count_fit c))
shift_fit Sar size c = deeper 5 7 _ (lit≤ tt) (low_fit 4 size _ (lit≤ tt) (fn2_fit 3 fn.Sar (extended size (temp 0)) (count_word c) (extended_fit size) (count_fit c).fit))
shift_fit Rol size c = low_fit 6 size _ (lit≤ tt) (sum_fit (temp 0) (temp 0) (turns_word size c) (back_word size c) (operand_fit 3 (lit≤ tt)) (operand_fit 3 (lit≤ tt)) (turns_fit size c) (back_fit size c))
shift_fit Ror size c = low_fit 6 size _ (lit≤ tt) (other_sum_fit (temp 0) (temp 0) (turns_word size c) (back_word size c) (operand_fit 3 (lit≤ tt)) (operand_fit 3 (lit≤ tt)) (turns_fit size c) (back_fit size c))

double_fit : (left : Bool) (g : ℕ) (c : Count) → g < 8 → IsFit 7 (double_word left g c)
double_fit true g c h = deeper 6 7 _ (lit≤ tt) (sum_fit (temp 0) (reg g) (count_word c) (back_word W c) (operand_fit 3 (lit≤ tt)) (reg_fit 3 g (lit≤ tt) h) (count_fit c) (back_fit W c))
double_fit false g c h = deeper 6 7 _ (lit≤ tt) (other_sum_fit (temp 0) (reg g) (count_word c) (back_word W c) (operand_fit 3 (lit≤ tt)) (reg_fit 3 g (lit≤ tt) h) (count_fit c) (back_fit W c))

carry_fit : (f : ShiftOp) (size : Size) (c : Count) → IsFit 5 (carry_word f size c)
carry_fit Shl size c = lowest_fit 4 _ (lit≤ tt) (shr_count_fit 3 (temp 0) (rest_word size c) (operand_fit 3 (lit≤ tt)) (rest_fit size c))
carry_fit Shr size c = lowest_fit 4 _ (lit≤ tt) (shr_count_fit 3 (temp 0) (before_word c) (operand_fit 3 (lit≤ tt)) (before_fit c))
carry_fit Sar size c = lowest_fit 4 _ (lit≤ tt) (fn2_fit 3 fn.Sar (extended size (temp 0)) (before_word c) (extended_fit size) (before_fit c).fit)
carry_fit Rol size c = lowest_fit 4 (temp 2) (lit≤ tt) (result_fit 4 (lit≤ tt))
carry_fit Ror size c = top_fit 4 size (temp 2) (lit≤ tt) (result_fit 4 (lit≤ tt))

double_carry_fit : (left : Bool) (c : Count) → IsFit 5 (double_carry_word left c)
double_carry_fit true c = carry_fit Shl W c
double_carry_fit false c = carry_fit Shr W c

differ_fit : (size : Size) (e : CExpr) → IsFit 4 e → IsFit 5 (bin op.Xor (top_word (bits_of size) (temp 2)) e)
differ_fit size e h = bin_fit 4 op.Xor _ e refl (top_fit 3 size (temp 2) (lit≤ tt) (result_fit 3 (lit≤ tt))) h

over_fit : (f : ShiftOp) (size : Size) → IsFit 5 (over_word f size)
over_fit Shl size = differ_fit size _ (top_fit 3 size (temp 0) (lit≤ tt) (operand_fit 3 (lit≤ tt)))
over_fit Shr size = top_fit 4 size (temp 0) (lit≤ tt) (operand_fit 4 (lit≤ tt))
over_fit Sar size = num_fit 5 0 (lit≤ tt) (lit< tt)
over_fit Rol size = differ_fit size _ (lowest_fit 3 (temp 2) (lit≤ tt) (result_fit 3 (lit≤ tt)))
over_fit Ror size = differ_fit size _ (lowest_fit 3 _ (lit≤ tt) (shr_fit 2 (temp 2) (bits_of size - 2) (lit≤ tt) (second_below size) (result_fit 2 (lit≤ tt))))

-- ---- flags

as_many : (a b : ℕ) (ss : List Stmt) → a ≡ b → AreFit a ss → AreFit b ss
as_many a b ss e h = subst (λ k. AreFit k ss) e h

-- a name other than a base is set
sets_fit : (d : ℕ) (k : Name) (e : CExpr) (rest : List Stmt) (stores : ℕ) → d ≤ 64 → IsTrue (is_flow_target k) → IsFit d e → AreFit stores rest → AreFit stores (stmt.Set k e ∷ rest)
sets_fit d k e rest stores h t f r =
    as_many (0 + stores) stores (stmt.Set k e ∷ rest) (omega arith)
    (more_fit (stmt.Set k e) rest stores 0 (both_hold (is_flow_target k) (is_flow_word e) t (fit_word d e h f)) f.safe refl refl r)

conditional_fit : (c : Count) (k : ℕ) (e : CExpr) → IsTrue (is_flow_name (name.Flag k)) → IsFit 5 e → IsFit 6 (conditional c k e)
conditional_fit n.Cl k e t f =
    pick_fit 5 (cmp test.Eq (count_word n.Cl) (num 0)) (flag k) e (cond_deeper 4 5 _ (lit≤ tt) (cmp_fit 3 test.Eq (count_word n.Cl) (num 0) (count_fit n.Cl).fit (num_fit 3 0 (lit≤ tt) (lit< tt))))
    (name_fit 5 (name.Flag k) (lit≤ tt) t) f
conditional_fit n.One k e t f = deeper 5 6 e (lit≤ tt) f
conditional_fit (n.Imm i) k e t f = deeper 5 6 e (lit≤ tt) f

flag_fit : (c : Count) (k : ℕ) (e : CExpr) (rest : List Stmt) → IsTrue (is_flow_name (name.Flag k)) → IsTrue (is_flow_target (name.Flag k)) → IsFit 5 e → AreFit 0 rest → AreFit 0 (sets_flag c k e ∷ rest)
flag_fit c k e rest t u f r = sets_fit 6 (name.Flag k) (conditional c k e) rest 0 (lit≤ tt) u (conditional_fit c k e t f) r

overflow_by : (t : Bool) (c : Count) (e : CExpr) → IsFit 5 e → AreFit 0 (if t then sets_flag c 4 e ∷ [] else [])
overflow_by true c e f = flag_fit c 4 e [] refl refl f none_fit
overflow_by false c e f = none_fit

by_result_fit : (size : Size) (c : Count) → AreFit 0 (sets_result size c)
by_result_fit size c =
    flag_fit c 3 (top_word (bits_of size) (temp 2)) _ refl refl (top_fit 4 size (temp 2) (lit≤ tt) (result_fit 4 (lit≤ tt)))
    (flag_fit c 2 (zero_word (temp 2)) _ refl refl
    (deeper 4 5 _ (lit≤ tt) (word_if_fit 3 (cmp test.Eq (temp 2) (num 0)) (lit≤ tt) (cmp_fit 2 test.Eq (temp 2) (num 0) (result_fit 2 (lit≤ tt)) (num_fit 2 0 (lit≤ tt) (lit< tt)))))
    (flag_fit c 1 (even_word (temp 2)) [] refl refl (fn1_fit 4 Par (temp 2) (result_fit 4 (lit≤ tt))) none_fit))

unless_kept : (t : Bool) (size : Size) (c : Count) → AreFit 0 (if t then [] else sets_result size c)
unless_kept true size c = none_fit
unless_kept false size c = by_result_fit size c

shifted_fit : (t : Bool) (size : Size) (c : Count) (carry over : CExpr) → IsFit 5 carry → IsFit 5 over → AreFit 0 (sets_shifted t size c carry over)
shifted_fit t size c carry over h k =
    fit_append (sets_overflow c over) _ 0 0 (overflow_by (may_be_one c) c over k)
    (fit_append (if t then [] else sets_result size c) (sets_flag c 0 carry ∷ []) 0 0 (unless_kept t size c) (flag_fit c 0 carry [] refl refl h none_fit))

-- ---- the whole

takes_fit : (size : Size) (d : Operand) → IsTrue (is_formed_operand d) → AreFit 0 (takes size d)
takes_fit size (o.Mem m) h = reads_fit size (o.Mem m) h
takes_fit size (o.Reg k) h = sets_fit 3 (name.T 0) (value_word size (o.Reg k)) [] 0 (lit≤ tt) refl (value_fit size (o.Reg k) h) none_fit
takes_fit size (o.Imm k) h = sets_fit 3 (name.T 0) (value_word size (o.Imm k)) [] 0 (lit≤ tt) refl (value_fit size (o.Imm k) h) none_fit

computes_fit : (size : Size) (d : Operand) (flags : List Stmt) (e : CExpr) → IsTrue (is_formed_operand d) → AreFit 0 flags → IsFit 7 e
    → AreFit (once (is_memory d)) (takes size d ++ computes size d flags e)
computes_fit size d flags e t f g =
    let k : ℕ = once (is_memory d) in
    as_many (0 + (0 + k)) k _ (omega arith)
    (fit_append (takes size d) (computes size d flags e) 0 (0 + k) (takes_fit size d t)
    (sets_fit 7 (name.T 2) e (flags ++ writes size d (temp 2)) (0 + k) (lit≤ tt) refl g
    (fit_append flags (writes size d (temp 2)) 0 k f (writes_fit 1 size d (temp 2) (lit≤ tt) (lit≤ tt) t (result_fit 1 (lit≤ tt))))))

unless_none : (t : Bool) (k : Bool) (rs ss : List Stmt) → AreFit 0 rs → AreFit (once k) ss → AreFit (once (if t then false else k)) (if t then rs else ss)
unless_none true k rs ss h g = h
unless_none false k rs ss h g = g

pub shift_stmts_fit : (f : ShiftOp) (size : Size) (d : Operand) (c : Count) → IsTrue (is_formed_operand d) → AreFit (once (if is_none c then false else is_memory d)) (shift_stmts f size d c)
shift_stmts_fit f size d c t =
    unless_none (is_none c) (is_memory d) (reads size d) _ (reads_fit size d t)
    (computes_fit size d _ (shift_word f size c) t (shifted_fit (rotates f) size c (carry_word f size c) (over_word f size) (carry_fit f size c) (over_fit f size)) (shift_fit f size c))

pub double_stmts_fit : (left : Bool) (d : Operand) (g : ℕ) (c : Count) → IsTrue (is_formed_operand d) → g < 8 → AreFit (once (if is_none c then false else is_memory d)) (double_stmts left d g c)
double_stmts_fit left d g c t h =
    unless_none (is_none c) (is_memory d) (reads W d) _ (reads_fit W d t)
    (computes_fit W d _ (double_word left g c) t (shifted_fit false W c (double_carry_word left c) (over_word Shl W) (double_carry_fit left c) (over_fit Shl W)) (double_fit left g c h))
