-- The blocks of products are those of their instructions.
use Rattle.std.proofs.Common.{ℕ, Bool, true, false, [], ◌∷◌, refl, lit≤}
use Rattle.std.specs.Prelude.{IsTrue}
use Rattle.std.proofs.lemmas.Bool.{ltb-true}
use Rattle.dream_words.specs.declared.machine.Name.TheVariants as name
use Rattle.x86_inst.specs.declared.Inst.TheVariants as i
use Rattle.x86_inst.specs.declared.Size.{Size}
use Rattle.x86_inst.specs.declared.Operand.{Operand}
use Rattle.x86_inst.specs.declared.Operand.TheVariants as o
use Rattle.x86_formed.specs.Formed.{HasSpelling, is_formed_operand, is_register}
use Rattle.x86_formed.proofs.Spelled.{spelled_is_formed}
use Rattle.lift_parts.specs.Lifted.{AreBlocksOf}
use Rattle.lift_parts.specs.Parts.{temp, reads}
use Rattle.lift_parts.proofs.Fit.{AreFit, fit_append, reads_fit}
use Rattle.lift_parts.proofs.FitWrites.{set_part_fit}
use Rattle.lift_parts.proofs.Sureness.{both_true}
use Rattle.lift_blocks.specs.Ends.{goes_on}
use Rattle.lift_blocks.proofs.OneBlock.{goes_blocks}
use Rattle.lift_products.specs.Products.{high_word, imul2_stmts, imul3_stmts, product_word, times_overflow, times_stmts, wide_overflow, wide_stmts}
use Rattle.lift_products.proofs.ProductRuns.{imul2_goes, imul3_goes, imul_wide_goes, mul_goes}
use Rattle.lift_products.proofs.WordsFit.{high_fit, overflow_more, pair_fit, product_fit, set_more, t_fit, times_overflow_fit, wide_overflow_fit}

wide_fit : (signed : Bool) (size : Size) (s : Operand) → IsTrue (is_formed_operand s) → AreFit 0 (wide_stmts signed size s)
wide_fit signed size s h =
    fit_append (reads size s) _ 0 0 (reads_fit size s h)
    (set_more 4 (name.T 1) (product_word signed size (o.Reg 0) s) _ refl (lit≤ tt) (product_fit signed size (o.Reg 0) s refl h)
    (set_more 4 (name.T 2) (high_word signed size (o.Reg 0) s) _ refl (lit≤ tt) (high_fit signed size (o.Reg 0) s refl h)
    (overflow_more (wide_overflow signed size) _ (wide_overflow_fit signed size) (pair_fit size))))

times_fit : (size : Size) (d : ℕ) (p q s : Operand) → IsTrue (is_register d) → IsTrue (is_formed_operand p) → IsTrue (is_formed_operand q) → IsTrue (is_formed_operand s)
    → AreFit 0 (times_stmts size d p q s)
times_fit size d p q s g h k l =
    fit_append (reads size s) _ 0 0 (reads_fit size s l)
    (set_more 4 (name.T 1) (product_word true size p q) _ refl (lit≤ tt) (product_fit true size p q h k)
    (overflow_more (times_overflow size p q) _ (times_overflow_fit size p q h k) (set_part_fit 1 size d (temp 1) (lit≤ tt) (lit≤ tt) (ltb-true d 8 g) (t_fit 1 1 (lit≤ tt) (lit≤ tt)))))

-- MUL
pub mul_blocks : (size : Size) (s : Operand) (at next : ℕ) → HasSpelling (i.Mul size s) → AreBlocksOf (i.Mul size s) at next (goes_on at (wide_stmts false size s) ∷ [])
mul_blocks size s at next h =
    goes_blocks (i.Mul size s) at next (wide_stmts false size s) refl refl refl tt (wide_fit false size s (spelled_is_formed (i.Mul size s) h)) (mul_goes size s next)

-- IMUL of one operand
pub imul_wide_blocks : (size : Size) (s : Operand) (at next : ℕ) → HasSpelling (i.ImulWide size s) → AreBlocksOf (i.ImulWide size s) at next (goes_on at (wide_stmts true size s) ∷ [])
imul_wide_blocks size s at next h =
    goes_blocks (i.ImulWide size s) at next (wide_stmts true size s) refl refl refl tt (wide_fit true size s (spelled_is_formed (i.ImulWide size s) h)) (imul_wide_goes size s next)

-- IMUL of two operands
pub imul2_blocks : (size : Size) (d : ℕ) (s : Operand) (at next : ℕ) → HasSpelling (i.Imul2 size d s) → AreBlocksOf (i.Imul2 size d s) at next (goes_on at (imul2_stmts size d s) ∷ [])
imul2_blocks size d s at next h =
    let (r, f) = both_true (is_register d) (is_formed_operand s) (spelled_is_formed (i.Imul2 size d s) h) in
    goes_blocks (i.Imul2 size d s) at next (imul2_stmts size d s) refl refl refl tt (times_fit size d (o.Reg d) s s r r f f) (imul2_goes size d s next)

-- IMUL of three operands
pub imul3_blocks : (size : Size) (d : ℕ) (s : Operand) (k at next : ℕ) → HasSpelling (i.Imul3 size d s k) → AreBlocksOf (i.Imul3 size d s k) at next (goes_on at (imul3_stmts size d s k) ∷ [])
imul3_blocks size d s k at next h =
    let (r, f) = both_true (is_register d) (is_formed_operand s) (spelled_is_formed (i.Imul3 size d s k) h) in
    goes_blocks (i.Imul3 size d s k) at next (imul3_stmts size d s k) refl refl refl tt (times_fit size d s (o.Imm k) s r f refl f) (imul3_goes size d s k next)
