-- The block is that of the instruction.
use Rattle.std.proofs.Common.{◌≡◌, ◌<◌, ◌^◌, ℕ, true, refl, sym, subst, arith}
use Rattle.x86_inst.specs.declared.Inst.{Inst}
use Rattle.x86_inst.specs.declared.Inst.TheVariants as i
use Rattle.x86_formed.specs.Formed.{HasSpelling}
use Rattle.micro_ir.specs.declared.flow.Block.{Block}
use Rattle.lift_parts.specs.Lifted.{AreBlocksOf}
use Rattle.lift_bits_strings.specs.Rounds.{with_test}
use Rattle.lift_wide.specs.Wide.{is_wide, IsWideBlock}
use Rattle.lift_wide.proofs.lift_wide.Goals as goal
use Rattle.std.specs.Prelude.{Some}

-- what holds of the instruction's variant holds of it
wide_block : (x y : Inst) (at next : ℕ) (b : Block) → x ≡ y → is_wide y ≡ true → next < 2 ^ 32
    → ((n : ℕ) → n < 2 ^ 32 → HasSpelling y → AreBlocksOf y at n (with_test y at b)) → IsWideBlock x at next (Some b)
wide_block x y at next b e w l h = subst (λ z. IsWideBlock z at next (Some b)) (sym e) (w, h next l)

pub returns-in_ok-mul-in-Mul : goal.returns-in_ok-mul-in-Mul
returns-in_ok-mul-in-Mul c = wide_block c.args.i.now (i.Mul c.in-Mul.size c.in-Mul.s) c.args.at c.args.next c.in_ok-mul-in-Mul.field-0 c.in-Mul.is refl (omega arith) c.in_ok-mul-in-Mul.ensures

pub returns-in_ok-imul_wide-in-ImulWide : goal.returns-in_ok-imul_wide-in-ImulWide
returns-in_ok-imul_wide-in-ImulWide c = wide_block c.args.i.now (i.ImulWide c.in-ImulWide.size c.in-ImulWide.s) c.args.at c.args.next c.in_ok-imul_wide-in-ImulWide.field-0 c.in-ImulWide.is refl (omega arith) c.in_ok-imul_wide-in-ImulWide.ensures

pub returns-in_ok-imul2-in-Imul2 : goal.returns-in_ok-imul2-in-Imul2
returns-in_ok-imul2-in-Imul2 c = wide_block c.args.i.now (i.Imul2 c.in-Imul2.size c.in-Imul2.d c.in-Imul2.s) c.args.at c.args.next c.in_ok-imul2-in-Imul2.field-0 c.in-Imul2.is refl (omega arith) c.in_ok-imul2-in-Imul2.ensures

pub returns-in_ok-imul3-in-Imul3 : goal.returns-in_ok-imul3-in-Imul3
returns-in_ok-imul3-in-Imul3 c = wide_block c.args.i.now (i.Imul3 c.in-Imul3.size c.in-Imul3.d c.in-Imul3.s c.in-Imul3.k) c.args.at c.args.next c.in_ok-imul3-in-Imul3.field-0 c.in-Imul3.is refl (omega arith) c.in_ok-imul3-in-Imul3.ensures

pub returns-in_ok-div-in-Div : goal.returns-in_ok-div-in-Div
returns-in_ok-div-in-Div c = wide_block c.args.i.now (i.Div c.in-Div.size c.in-Div.s) c.args.at c.args.next c.in_ok-div-in-Div.field-0 c.in-Div.is refl (omega arith) c.in_ok-div-in-Div.ensures

pub returns-in_ok-idiv-in-Idiv : goal.returns-in_ok-idiv-in-Idiv
returns-in_ok-idiv-in-Idiv c = wide_block c.args.i.now (i.Idiv c.in-Idiv.size c.in-Idiv.s) c.args.at c.args.next c.in_ok-idiv-in-Idiv.field-0 c.in-Idiv.is refl (omega arith) c.in_ok-idiv-in-Idiv.ensures

pub returns-in_ok-shift-in-Shift : goal.returns-in_ok-shift-in-Shift
returns-in_ok-shift-in-Shift c = wide_block c.args.i.now (i.Shift c.in-Shift.op c.in-Shift.size c.in-Shift.d c.in-Shift.n) c.args.at c.args.next c.in_ok-shift-in-Shift.field-0 c.in-Shift.is refl (omega arith) c.in_ok-shift-in-Shift.ensures

pub returns-in_ok-double_shift-in-DShift : goal.returns-in_ok-double_shift-in-DShift
returns-in_ok-double_shift-in-DShift c = wide_block c.args.i.now (i.DShift c.in-DShift.left c.in-DShift.d c.in-DShift.g c.in-DShift.n) c.args.at c.args.next c.in_ok-double_shift-in-DShift.field-0 c.in-DShift.is refl (omega arith) c.in_ok-double_shift-in-DShift.ensures

pub returns-in_ok-bit-in-Bit : goal.returns-in_ok-bit-in-Bit
returns-in_ok-bit-in-Bit c = wide_block c.args.i.now (i.Bit c.in-Bit.op c.in-Bit.size c.in-Bit.d c.in-Bit.s) c.args.at c.args.next c.in_ok-bit-in-Bit.field-0 c.in-Bit.is refl (omega arith) c.in_ok-bit-in-Bit.ensures

pub returns-in_ok-scan-in-Scan : goal.returns-in_ok-scan-in-Scan
returns-in_ok-scan-in-Scan c = wide_block c.args.i.now (i.Scan c.in-Scan.up c.in-Scan.size c.in-Scan.d c.in-Scan.s c.in-Scan.tz) c.args.at c.args.next c.in_ok-scan-in-Scan.field-0 c.in-Scan.is refl (omega arith) c.in_ok-scan-in-Scan.ensures

pub returns-in_ok-string-in-Str : goal.returns-in_ok-string-in-Str
returns-in_ok-string-in-Str c = wide_block c.args.i.now (i.Str c.in-Str.op c.in-Str.size c.in-Str.r c.in-Str.s) c.args.at c.args.next c.in_ok-string-in-Str.field-0 c.in-Str.is refl (omega arith) c.in_ok-string-in-Str.ensures
