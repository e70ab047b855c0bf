-- The blocks of BT, BTS, BTR, BTC, BSF and BSR.
use Rattle.std.proofs.Common.{◌≡◌, ℕ, ◌-◌, ◌<◌, Bool, true, false, [], ◌∷◌, ◌++◌, refl, lit<, lit≤}
use Rattle.std.specs.Prelude.{if◌then◌else◌, IsTrue}
use Rattle.dream_words.specs.declared.machine.Name.TheVariants as name
use Rattle.x86_inst.specs.declared.BitOp.{BitOp}
use Rattle.x86_inst.specs.declared.BitOp.TheVariants.{Bt, Bts, Btr, Btc}
use Rattle.x86_inst.specs.declared.Inst.TheVariants as i
use Rattle.x86_inst.specs.declared.Size.{Size}
use Rattle.x86_inst.specs.declared.Size.TheVariants as size
use Rattle.x86_inst.specs.declared.Operand.{Operand}
use Rattle.x86_inst.specs.declared.Operand.TheVariants as o
use Rattle.x86_formed.specs.Formed.{HasSpelling, is_formed_operand, is_register, are_formed, is_formed}
use Rattle.x86_formed.proofs.Spelled.{spelled_is_formed}
use Rattle.x86_model.specs.Operands.{bits_of}
use Rattle.x86_model.specs.Successors.{is_memory, writes_bit}
use Rattle.c_syntax.specs.declared.syntax.CBin.TheVariants as op
use Rattle.c_syntax.specs.declared.syntax.CFn1.TheVariants.{Bsf, Bsr}
use Rattle.c_syntax.specs.declared.syntax.CExpr.{CExpr}
use Rattle.c_words.specs.Built.{num}
use Rattle.micro_ir.specs.declared.flow.Stmt.TheVariants as stmt
use Rattle.lift_parts.specs.Lifted.{AreBlocksOf, once}
use Rattle.lift_parts.specs.Parts.{pair_reads, raw_word, reads, value_word, writes}
use Rattle.lift_parts.proofs.Fit.{AreFit, IsFit, bin_fit, deeper, fit_word, masked_fit, more_fit, none_fit, num_fit, pair_reads_fit, raw_fit, reads_fit, value_fit}
use Rattle.lift_parts.proofs.FitShapes.{IsCount, fn1_fit, masked_count, not_fit, shl_count_fit, shr_count_fit}
use Rattle.lift_parts.proofs.Sureness.{both_true}
use Rattle.lift_parts.proofs.FitWrites.{writes_fit}
use Rattle.lift_blocks.specs.Ends.{goes_on}
use Rattle.lift_blocks.proofs.OneBlock.{goes_blocks}
use Rattle.lift_bits_strings.specs.BitForms.{bit_stmts, bit_word, index_word, keeps_bit, old_bit, one_bit, place_word, scan_flag, scan_stmts}
use Rattle.lift_bits_strings.proofs.BitGoes.{bit_goes, scan_goes}
use Rattle.lift_bits_strings.proofs.Fitting.{after_fit}

-- ---- tests of bits

top_small : (size : Size) → bits_of size - 1 < 32
top_small size.B = lit< tt
top_small size.H = lit< tt
top_small size.W = lit< tt

index_fit : (size : Size) (s : Operand) → IsTrue (is_formed_operand s) → IsCount 3 (index_word size s)
index_fit size s h = masked_count 2 (raw_word size s) (bits_of size - 1) (lit≤ tt) (top_small size) (raw_fit size s h)

one_fit : (size : Size) (s : Operand) → IsTrue (is_formed_operand s) → IsFit 4 (one_bit size s)
one_fit size s h = shl_count_fit 3 (num 1) (index_word size s) (num_fit 3 1 (lit≤ tt) (lit< tt)) (index_fit size s h)

old_fit : (size : Size) (d s : Operand) → IsTrue (is_formed_operand d) → IsTrue (is_formed_operand s) → IsFit 5 (old_bit size d s)
old_fit size d s h k = masked_fit 4 _ 1 (lit≤ tt) (lit< tt) (shr_count_fit 3 (value_word size d) (index_word size s) (value_fit size d h) (index_fit size s k))

bit_fit : (f : BitOp) (size : Size) (d s : Operand) → IsTrue (is_formed_operand d) → IsTrue (is_formed_operand s) → IsFit 6 (bit_word f size d s)
bit_fit Bt size d s h k = deeper 3 6 (value_word size d) (lit≤ tt) (value_fit size d h)
bit_fit Bts size d s h k = bin_fit 5 op.Or _ _ refl (deeper 3 5 (value_word size d) (lit≤ tt) (value_fit size d h)) (deeper 4 5 (one_bit size s) (lit≤ tt) (one_fit size s k))
bit_fit Btr size d s h k = bin_fit 5 op.And _ _ refl (deeper 3 5 (value_word size d) (lit≤ tt) (value_fit size d h)) (not_fit 4 (one_bit size s) (one_fit size s k))
bit_fit Btc size d s h k = bin_fit 5 op.Xor _ _ refl (deeper 3 5 (value_word size d) (lit≤ tt) (value_fit size d h)) (deeper 4 5 (one_bit size s) (lit≤ tt) (one_fit size s k))

keeps_fit : (size : Size) (d s : Operand) → IsTrue (is_formed_operand d) → IsTrue (is_formed_operand s) → AreFit 0 (keeps_bit size d s)
keeps_fit size d s h k = let f = old_fit size d s h k in more_fit (stmt.Set (name.Flag 0) (old_bit size d s)) [] 0 0 (fit_word 5 (old_bit size d s) (lit≤ tt) f) f.safe refl refl none_fit

bit_rest_fit : (b : Bool) (f : BitOp) (size : Size) (d s : Operand) → IsTrue (is_formed_operand d) → IsTrue (is_formed_operand s)
    → AreFit (once (if b then is_memory d else false)) (if b then keeps_bit size d s ++ writes size d (bit_word f size d s) else keeps_bit size d s)
bit_rest_fit true f size d s h k =
    after_fit (keeps_bit size d s) (writes size d (bit_word f size d s)) (once (is_memory d)) (keeps_fit size d s h k) (writes_fit 6 size d (bit_word f size d s) (lit≤ tt) (lit≤ tt) h (bit_fit f size d s h k))
bit_rest_fit false f size d s h k = keeps_fit size d s h k

-- the operands of an instruction that is formed
two_formed : (d s : Operand) → are_formed d s ≡ true → IsTrue (is_formed_operand d) × IsTrue (is_formed_operand s)
two_formed d s t = let (p, q) = both_true (is_formed_operand d) _ t in (p, (both_true (is_formed_operand s) _ q).0)

bit_stmts_fit : (f : BitOp) (size : Size) (d s : Operand) → are_formed d s ≡ true → AreFit (once (if writes_bit f then is_memory d else false)) (bit_stmts f size d s)
bit_stmts_fit f size d s t =
    let (h, k) = two_formed d s t in
    after_fit (pair_reads size d s) _ (once (if writes_bit f then is_memory d else false)) (pair_reads_fit size d s h k) (bit_rest_fit (writes_bit f) f size d s h k)

-- the block of BT, BTS, BTR or BTC
pub bit_blocks : (f : BitOp) (size : Size) (d s : Operand) (at next : ℕ) → HasSpelling (i.Bit f size d s) → AreBlocksOf (i.Bit f size d s) at next (goes_on at (bit_stmts f size d s) ∷ [])
bit_blocks f size d s at next h =
    goes_blocks (i.Bit f size d s) at next (bit_stmts f size d s) refl refl refl tt (bit_stmts_fit f size d s (spelled_is_formed (i.Bit f size d s) h)) (bit_goes f size d s next)

-- ---- places of bits

place_fit : (up : Bool) (e : CExpr) → IsFit 3 e → IsFit 4 (place_word up e)
place_fit true e h = fn1_fit 3 Bsf e h
place_fit false e h = fn1_fit 3 Bsr e h

scan_flag_fit : (tz : Bool) → AreFit 0 (scan_flag tz)
scan_flag_fit true = none_fit
scan_flag_fit false = let f = num_fit 1 0 (lit≤ tt) (lit< tt) in more_fit (stmt.Set (name.Flag 2) (num 0)) [] 0 0 (fit_word 1 (num 0) (lit≤ tt) f) f.safe refl refl none_fit

scan_stmts_fit : (up : Bool) (size : Size) (d : ℕ) (s : Operand) (tz : Bool) → (is_formed (i.Scan up size d s tz)) ≡ true → AreFit 0 (scan_stmts up size d s tz)
scan_stmts_fit up size d s tz t =
    let (p, q) = both_true (is_register d) (is_formed_operand s) t in
    after_fit (reads size s) _ 0 (reads_fit size s q)
    (after_fit (scan_flag tz) _ 0 (scan_flag_fit tz) (writes_fit 4 size (o.Reg d) _ (lit≤ tt) (lit≤ tt) p (place_fit up (value_word size s) (value_fit size s q))))

-- the block of BSF or BSR
pub scan_blocks : (up : Bool) (size : Size) (d : ℕ) (s : Operand) (tz : Bool) (at next : ℕ) → HasSpelling (i.Scan up size d s tz)
    → AreBlocksOf (i.Scan up size d s tz) at next (goes_on at (scan_stmts up size d s tz) ∷ [])
scan_blocks up size d s tz at next h =
    goes_blocks (i.Scan up size d s tz) at next (scan_stmts up size d s tz) refl refl refl tt (scan_stmts_fit up size d s tz (spelled_is_formed (i.Scan up size d s tz) h)) (scan_goes up size d s tz next)
