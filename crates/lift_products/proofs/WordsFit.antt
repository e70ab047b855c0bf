-- The words of products keep the rule of flows, and are safe.
use Rattle.std.proofs.Common.{ℕ, ◌+◌, ◌≤◌, Bool, true, false, List, [], ◌∷◌, refl, lit≤, lit<, arith}
use Rattle.std.specs.Prelude.{IsTrue}
use Rattle.dream_words.specs.declared.machine.Name.{Name}
use Rattle.dream_words.specs.declared.machine.Name.TheVariants as name
use Rattle.x86_inst.specs.declared.Size.{Size}
use Rattle.x86_inst.specs.declared.Size.TheVariants.{B, H, W}
use Rattle.x86_inst.specs.declared.Operand.{Operand}
use Rattle.x86_formed.specs.Formed.{is_formed_operand}
use Rattle.c_syntax.specs.declared.syntax.CExpr.{CExpr}
use Rattle.c_syntax.specs.declared.syntax.CBin.TheVariants as op
use Rattle.c_syntax.specs.declared.syntax.CCmp.TheVariants as test
use Rattle.c_syntax.specs.declared.syntax.CFn1.TheVariants.{Sx1, Sx2}
use Rattle.c_syntax.specs.declared.syntax.CFn2.TheVariants.{Sar}
use Rattle.c_words.specs.Built.{num, fn2}
use Rattle.micro_ir.specs.declared.flow.Stmt.{Stmt}
use Rattle.micro_ir.specs.declared.flow.Stmt.TheVariants as stmt
use Rattle.micro_ir.specs.Rule.{is_flow_target, is_flow_word}
use Rattle.lift_parts.specs.Parts.{temp, raw_word, set_part}
use Rattle.lift_parts.proofs.Fit.{IsFit, AreFit, both_hold, bin_fit, deeper, fit_append, fit_word, more_fit, num_fit, raw_fit, shr_fit, temp_fit, value_fit}
use Rattle.lift_parts.proofs.FitShapes.{cmp_fit, fn1_fit, fn2_fit, word_if_fit}
use Rattle.lift_parts.proofs.FitWrites.{set_part_fit}
use Rattle.lift_blocks.specs.Extended.{extended}
use Rattle.lift_products.specs.Parts.{factor, high_register, pair_writes, unfit_signed}
use Rattle.lift_products.specs.Products.{high_function, high_product_word, high_word, product_word, times_overflow, unfit_high, wide_overflow}

-- one set before others, none of which stores
pub set_more : (d : ℕ) (n : Name) (x : CExpr) (rest : List Stmt) → IsTrue (is_flow_target n) → d ≤ 64 → IsFit d x → AreFit 0 rest → AreFit 0 (stmt.Set n x ∷ rest)
set_more d n x rest t h f r = more_fit (stmt.Set n x) rest 0 0 (both_hold (is_flow_target n) (is_flow_word x) t (fit_word d x h f)) f.safe refl refl r

pub t_fit : (d n : ℕ) → 1 ≤ d → n ≤ 3 → IsFit d (temp n)
t_fit d n h k = temp_fit d n h (omega arith)

-- ---- factors

one_more : (d : ℕ) → d ≤ d + 1
one_more d = omega arith

pub extended_fit : (d : ℕ) (size : Size) (x : CExpr) → IsFit d x → IsFit (d + 1) (extended size x)
extended_fit d B x f = fn1_fit d Sx1 x f
extended_fit d H x f = fn1_fit d Sx2 x f
extended_fit d W x f = deeper d (d + 1) x (one_more d) f

pub factor_fit : (signed : Bool) (size : Size) (s : Operand) → IsTrue (is_formed_operand s) → IsFit 3 (factor signed size s)
factor_fit true size s h = extended_fit 2 size (raw_word size s) (raw_fit size s h)
factor_fit false size s h = value_fit size s h

-- ---- words of products

pub product_fit : (signed : Bool) (size : Size) (p q : Operand) → IsTrue (is_formed_operand p) → IsTrue (is_formed_operand q) → IsFit 4 (product_word signed size p q)
product_fit signed size p q h k = bin_fit 3 op.Mul (factor signed size p) (factor signed size q) refl (factor_fit signed size p h) (factor_fit signed size q k)

high_product_fit : (signed : Bool) (p q : Operand) → IsTrue (is_formed_operand p) → IsTrue (is_formed_operand q) → IsFit 4 (high_product_word signed p q)
high_product_fit signed p q h k = fn2_fit 3 (high_function signed) (factor signed W p) (factor signed W q) (factor_fit signed W p h) (factor_fit signed W q k)

pub high_fit : (signed : Bool) (size : Size) (p q : Operand) → IsTrue (is_formed_operand p) → IsTrue (is_formed_operand q) → IsFit 4 (high_word signed size p q)
high_fit signed B p q h k = deeper 2 4 (high_word signed B p q) (lit≤ tt) (shr_fit 1 (temp 1) 8 (lit≤ tt) (lit< tt) (t_fit 1 1 (lit≤ tt) (lit≤ tt)))
high_fit signed H p q h k = deeper 2 4 (high_word signed H p q) (lit≤ tt) (shr_fit 1 (temp 1) 16 (lit≤ tt) (lit< tt) (t_fit 1 1 (lit≤ tt) (lit≤ tt)))
high_fit signed W p q h k = high_product_fit signed p q h k

pub unfit_signed_fit : (size : Size) → IsFit 4 (unfit_signed size)
unfit_signed_fit size = word_if_fit 3 _ (lit≤ tt) (cmp_fit 2 test.Ne (extended size (temp 1)) (temp 1) (extended_fit 1 size (temp 1) (t_fit 1 1 (lit≤ tt) (lit≤ tt))) (t_fit 2 1 (lit≤ tt) (lit≤ tt)))

unfit_high_fit : (x : CExpr) → IsFit 4 x → IsFit 6 (unfit_high x)
unfit_high_fit x f =
    let sign = deeper 2 4 (fn2 Sar (temp 1) (num 31)) (lit≤ tt) (fn2_fit 1 Sar (temp 1) (num 31) (t_fit 1 1 (lit≤ tt) (lit≤ tt)) (num_fit 1 31 (lit≤ tt) (lit< tt))) in
    word_if_fit 5 _ (lit≤ tt) (cmp_fit 4 test.Ne x (fn2 Sar (temp 1) (num 31)) f sign)

pub wide_overflow_fit : (signed : Bool) (size : Size) → IsFit 6 (wide_overflow signed size)
wide_overflow_fit false size = deeper 3 6 (wide_overflow false size) (lit≤ tt) (word_if_fit 2 _ (lit≤ tt) (cmp_fit 1 test.Ne (temp 2) (num 0) (t_fit 1 2 (lit≤ tt) (lit≤ tt)) (num_fit 1 0 (lit≤ tt) (lit< tt))))
wide_overflow_fit true B = deeper 4 6 (unfit_signed B) (lit≤ tt) (unfit_signed_fit B)
wide_overflow_fit true H = deeper 4 6 (unfit_signed H) (lit≤ tt) (unfit_signed_fit H)
wide_overflow_fit true W = unfit_high_fit (temp 2) (t_fit 4 2 (lit≤ tt) (lit≤ tt))

pub times_overflow_fit : (size : Size) (p q : Operand) → IsTrue (is_formed_operand p) → IsTrue (is_formed_operand q) → IsFit 6 (times_overflow size p q)
times_overflow_fit B p q h k = deeper 4 6 (unfit_signed B) (lit≤ tt) (unfit_signed_fit B)
times_overflow_fit H p q h k = deeper 4 6 (unfit_signed H) (lit≤ tt) (unfit_signed_fit H)
times_overflow_fit W p q h k = unfit_high_fit (high_product_word true p q) (high_product_fit true p q h k)

-- ---- statements

pub overflow_more : (x : CExpr) (rest : List Stmt) → IsFit 6 x → AreFit 0 rest → AreFit 0 (stmt.Set (name.Flag 4) x ∷ stmt.Set (name.Flag 0) x ∷ rest)
overflow_more x rest f r = set_more 6 (name.Flag 4) x _ refl (lit≤ tt) f (set_more 6 (name.Flag 0) x rest refl (lit≤ tt) f r)

high_register_fit : (size : Size) (x : CExpr) → IsFit 1 x → AreFit 0 (set_part size (high_register size) x ∷ [])
high_register_fit B x f = set_part_fit 1 B 4 x (lit≤ tt) (lit≤ tt) (lit< tt) f
high_register_fit H x f = set_part_fit 1 H 2 x (lit≤ tt) (lit≤ tt) (lit< tt) f
high_register_fit W x f = set_part_fit 1 W 2 x (lit≤ tt) (lit≤ tt) (lit< tt) f

pub pair_fit : (size : Size) → AreFit 0 (pair_writes size)
pair_fit size =
    fit_append (set_part size 0 (temp 1) ∷ []) (set_part size (high_register size) (temp 2) ∷ []) 0 0
    (set_part_fit 1 size 0 (temp 1) (lit≤ tt) (lit≤ tt) (lit< tt) (t_fit 1 1 (lit≤ tt) (lit≤ tt))) (high_register_fit size (temp 2) (t_fit 1 2 (lit≤ tt) (lit≤ tt)))
