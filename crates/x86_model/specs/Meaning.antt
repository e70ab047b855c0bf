-- What one step of each instruction does (Intel SDM vol. 2): the table of all rows.
use Rattle.x86_inst.specs.declared.Inst.{Inst}
use Rattle.x86_inst.specs.declared.Inst.TheVariants as i
use Rattle.x86_model.specs.declared.effect.Step.{Step}
use Rattle.x86_model.specs.declared.effect.Effect.{Effect}
use Rattle.x86_model.specs.declared.effect.Go.TheVariants as go
use Rattle.x86_model.specs.Operands.{value_of}
use Rattle.x86_model.specs.Effects.{done, goes}
use Rattle.x86_model.specs.Rows.{alu_row, inc_row, dec_row, neg_row, push_row, pop_row, target_at, jcc_row, set_row, cmov_row, call_row, jump_to_row, ret_row, leave_row, loop_row, jecxz_row, xchg_row, test_row, movx_row, widen_row, spread_row, bswap_row, mov_row, lea_row, not_row, carry_row}
use Rattle.x86_model.specs.WideRows.{mul_row, div_row, idiv_row, imul_wide_row, imul2_row, imul3_row, shift_row, double_row, bit_row, scan_row, str_row}
use Rattle.x86_inst.specs.declared.Size.TheVariants.{W}

-- the effect of an instruction, from what its step begins with
abbrev pub effect_of : Inst → Step → Effect
effect_of (i.Alu op size d s) a = alu_row op size d s a
effect_of (i.Neg size d) a = neg_row size d a
effect_of (i.Inc size d) a = inc_row size d a
effect_of (i.Dec size d) a = dec_row size d a
effect_of (i.Test size d s) a = test_row size d s a
effect_of (i.Mov size d s) a = mov_row size d s a
effect_of (i.Lea size d m) a = lea_row size d m a
effect_of (i.Push s) a = push_row s a
effect_of (i.Pop d) a = pop_row d a
effect_of (i.Xchg size d s) a = xchg_row size d s a
effect_of (i.Not size d) a = not_row size d a
effect_of (i.Movx signed from to d s) a = movx_row signed from to d s a
effect_of (i.Widen size) a = widen_row size a
effect_of (i.Spread size) a = spread_row size a
effect_of (i.Bswap n) a = bswap_row n a
effect_of (i.Set n d) a = set_row n.0 d a
effect_of (i.Cmov n size d s) a = cmov_row n.0 size d s a
effect_of i.Leave a = leave_row a
effect_of i.Nop a = done a a.flags
effect_of (i.Loop distance) a = loop_row distance a
effect_of (i.Jecxz distance) a = jecxz_row distance a
effect_of (i.Jcc n distance) a = jcc_row n.0 distance a
effect_of (i.Jmp distance) a = goes (go.To (target_at distance a)) a
effect_of (i.JmpTo s) a = jump_to_row s a
effect_of (i.Call distance) a = call_row (target_at distance a) a
effect_of (i.CallTo s) a = call_row (value_of W s a) a
effect_of (i.Ret n) a = ret_row n a
effect_of (i.Trap v) a = goes (go.Fault v) a
effect_of (i.Mul size s) a = mul_row size s a
effect_of (i.ImulWide size s) a = imul_wide_row size s a
effect_of (i.Imul2 size d s) a = imul2_row size d s a
effect_of (i.Imul3 size d s k) a = imul3_row size d s k a
effect_of (i.Div size s) a = div_row size s a
effect_of (i.Idiv size s) a = idiv_row size s a
effect_of (i.Shift op size d n) a = shift_row op size d n a
effect_of (i.DShift left d g n) a = double_row left d g n a
effect_of (i.Bit op size d s) a = bit_row op size d s a
effect_of (i.Scan up size d s tz) a = scan_row up size d s tz a
effect_of (i.Carry op) a = carry_row op a
effect_of (i.Str op size r s) a = str_row op size r a
