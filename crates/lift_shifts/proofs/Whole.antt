-- The block of each shift is that of its instruction.
use Rattle.std.proofs.Common.{◌≡◌, ℕ, ◌^◌, ◌<◌, Bool, [], ◌∷◌, Result, Ok, Err, IfOk, refl, sym, subst}
use Rattle.std.proofs.lemmas.Bool.{ltb-true}
use Rattle.x86_inst.specs.declared.Count.{Count}
use Rattle.x86_inst.specs.declared.Inst.{Inst}
use Rattle.x86_inst.specs.declared.Inst.TheVariants as i
use Rattle.x86_inst.specs.declared.Operand.{Operand}
use Rattle.x86_inst.specs.declared.ShiftOp.{ShiftOp}
use Rattle.x86_inst.specs.declared.Size.{Size}
use Rattle.x86_formed.specs.Formed.{HasSpelling, is_formed_operand, is_register}
use Rattle.x86_formed.proofs.Spelled.{spelled_is_formed}
use Rattle.micro_ir.specs.declared.flow.Block.{Block}
use Rattle.lift_parts.specs.Lifted.{AreBlocksOf}
use Rattle.lift_parts.proofs.Sureness.{both_true}
use Rattle.lift_blocks.specs.Ends.{goes_on}
use Rattle.lift_blocks.proofs.OneBlock.{goes_blocks}
use Rattle.lift_shifts.specs.Shifts.{double_stmts, shift_stmts}
use Rattle.lift_shifts.proofs.Filled.{double_goes}
use Rattle.lift_shifts.proofs.Fitting.{double_stmts_fit, shift_stmts_fit}
use Rattle.lift_shifts.proofs.Leading.{shift_goes}

pub shift_blocks : (f : ShiftOp) (size : Size) (d : Operand) (c : Count) (at next : ℕ) → HasSpelling (i.Shift f size d c)
    → AreBlocksOf (i.Shift f size d c) at next (goes_on at (shift_stmts f size d c) ∷ [])
shift_blocks f size d c at next h =
    goes_blocks (i.Shift f size d c) at next (shift_stmts f size d c) refl refl refl tt (shift_stmts_fit f size d c (spelled_is_formed (i.Shift f size d c) h)) (shift_goes f size d c next)

pub double_blocks : (left : Bool) (d : Operand) (g : ℕ) (c : Count) (at next : ℕ) → HasSpelling (i.DShift left d g c)
    → AreBlocksOf (i.DShift left d g c) at next (goes_on at (double_stmts left d g c) ∷ [])
double_blocks left d g c at next h =
    let (formed, register) = both_true (is_formed_operand d) (is_register g) (spelled_is_formed (i.DShift left d g c) h) in
    goes_blocks (i.DShift left d g c) at next (double_stmts left d g c) refl refl refl tt (double_stmts_fit left d g c formed (ltb-true g 8 register)) (double_goes left d g c next)

-- what a call's block is, it promises
pub promised : {E : Type 0} (x : Inst) (at : ℕ) (made : Block) → ((next : ℕ) → HasSpelling x → AreBlocksOf x at next (made ∷ [])) → (r : Result Block E) → IfOk r (λ b. b ≡ made)
    → IfOk r (λ b. (next : ℕ) → next < 2 ^ 32 → HasSpelling x → AreBlocksOf x at next (b ∷ []))
promised x at made h (Ok b) e = λ next l s. subst (λ b. AreBlocksOf x at next (b ∷ [])) (sym e) (h next s)
promised x at made h (Err e) k = tt
