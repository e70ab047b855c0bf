-- Each plain instruction that is formed has its block.
use Rattle.std.proofs.Common.{◌≡◌, ℕ, ◌+◌, ◌^◌, ◌<◌, zero, suc, Bool, true, false, [], ◌∷◌, length, refl, sym, subst, arith}
use Rattle.std.specs.Prelude.{slice_get, IsTrue, ◌&&◌}
use Rattle.dream_words.specs.declared.machine.Flags.{Flags}
use Rattle.run_parts.specs.World.{World}
use Rattle.x86_inst.specs.declared.AluOp.TheVariants as alu
use Rattle.x86_inst.specs.declared.Inst.{Inst}
use Rattle.x86_inst.specs.declared.Inst.TheVariants as i
use Rattle.x86_inst.specs.declared.Operand.TheVariants as o
use Rattle.x86_inst.specs.declared.Size.TheVariants.{W}
use Rattle.x86_formed.specs.Formed.{is_formed, HasSpelling}
use Rattle.x86_formed.proofs.Spelled.{spelled_is_formed}
use Rattle.x86_model.specs.Leads.{instruction_does}
use Rattle.x86_model.specs.Successors.{successors_of, stores, asks}
use Rattle.micro_ir.specs.declared.flow.Block.{Block}
use Rattle.micro_ir.specs.Counts.{stores_of_stmts, calls_of_stmts, calls_of_end}
use Rattle.micro_ir.specs.Rule.{is_flow_block}
use Rattle.micro_ir.specs.Run.{enter}
use Rattle.micro_ir.specs.World.{IsWorld}
use Rattle.micro_ir.specs.declared.flow.Stmt.TheVariants as stmt
use Rattle.dream_words.specs.declared.machine.Name.TheVariants as name
use Rattle.lift_parts.specs.Lifted.{block_count, AreBlocksOf, Matches, Stays, once, through}
use Rattle.lift_parts.specs.Parts.{reg, writes}
use Rattle.lift_parts.specs.Stands.{FlagsStand, state_in}
use Rattle.lift.specs.Blocks.{alu_stmts, test_stmts, step_stmts, neg_stmts, carry_word, mov_stmts, lea_stmts, push_stmts, pop_stmts, xchg_stmts, not_stmts, movx_stmts, widen_word, spread_word, swapped_word, set_stmts, cmov_stmts, leave_stmts, block_of, is_plain}
use Rattle.lift_blocks.specs.Effects.{HasEffect}
use Rattle.lift.specs.Given.{leaves_bare, has_words}
use Rattle.lift.proofs.Arithmetic.{alu_goes, test_goes, inc_goes, dec_goes, neg_goes, carry_goes}
use Rattle.lift.proofs.Jumps.{jcc_effect, jecxz_effect, loop_effect, jmp_effect, trap_effect, ret_effect, call_effect, call_to_effect, jmp_to_effect}
use Rattle.lift.proofs.Keeps.{IsKept, block_kept}
use Rattle.lift.proofs.Moves.{nop_goes, mov_goes, lea_goes, not_goes, movx_goes, widen_goes, spread_goes, bswap_goes, set_goes, cmov_goes, xchg_goes}
use Rattle.lift.proofs.Stack.{push_goes, pop_goes, leave_goes}
use Rattle.lift_blocks.proofs.Straight.{goes_effect}

-- ---- effects

block_effect : (x : Inst) (at next : ℕ) → is_plain x ≡ true → is_formed x ≡ true → leaves_bare x ≡ true → HasEffect x at next (block_of x at next)
block_effect (i.Alu f size d s) at next p t e = goes_effect (i.Alu f size d s) at next (alu_stmts f size d s) refl (alu_goes f size d s next)
block_effect (i.Neg size d) at next p t e = goes_effect (i.Neg size d) at next (neg_stmts size d) refl (neg_goes size d next)
block_effect (i.Inc size d) at next p t e = goes_effect (i.Inc size d) at next (step_stmts alu.Add size d) refl (inc_goes size d next)
block_effect (i.Dec size d) at next p t e = goes_effect (i.Dec size d) at next (step_stmts alu.Sub size d) refl (dec_goes size d next)
block_effect (i.Test size d s) at next p t e = goes_effect (i.Test size d s) at next (test_stmts size d s) refl (test_goes size d s next)
block_effect (i.Mov size d s) at next p t e = goes_effect (i.Mov size d s) at next (mov_stmts size d s) refl (mov_goes size d s next)
block_effect (i.Lea size d m) at next p t e = goes_effect (i.Lea size d m) at next (lea_stmts size d m) refl (lea_goes size d m next)
block_effect (i.Push s) at next p t e = goes_effect (i.Push s) at next (push_stmts s) refl (push_goes s next)
block_effect (i.Pop d) at next p t e = goes_effect (i.Pop d) at next (pop_stmts d) refl (pop_goes d next)
block_effect (i.Xchg size d s) at next p t e = goes_effect (i.Xchg size d s) at next (xchg_stmts size d s) refl (xchg_goes size d s next t)
block_effect (i.Not size d) at next p t e = goes_effect (i.Not size d) at next (not_stmts size d) refl (not_goes size d next)
block_effect (i.Movx signed from to d s) at next p t e = goes_effect (i.Movx signed from to d s) at next (movx_stmts signed from to d s) refl (movx_goes signed from to d s next)
block_effect (i.Widen size) at next p t e = goes_effect (i.Widen size) at next (writes size (o.Reg 0) (widen_word size)) refl (widen_goes size next)
block_effect (i.Spread size) at next p t e = goes_effect (i.Spread size) at next (writes size (o.Reg 2) (spread_word size)) refl (spread_goes size next)
block_effect (i.Bswap n) at next p t e = goes_effect (i.Bswap n) at next (writes W (o.Reg n) (swapped_word (reg n))) refl (bswap_goes n next)
block_effect (i.Set c d) at next p t e = goes_effect (i.Set c d) at next (set_stmts c.0 d) refl (set_goes c d next)
block_effect (i.Cmov c size d s) at next p t e = goes_effect (i.Cmov c size d s) at next (cmov_stmts c.0 size d s) refl (cmov_goes c size d s next)
block_effect i.Leave at next p t e = goes_effect i.Leave at next leave_stmts refl (leave_goes next)
block_effect i.Nop at next p t e = goes_effect i.Nop at next [] refl (nop_goes next)
block_effect (i.Carry f) at next p t e = goes_effect (i.Carry f) at next (stmt.Set (name.Flag 0) (carry_word f) ∷ []) refl (carry_goes f next)
block_effect (i.Loop distance) at next p t e = loop_effect distance at next
block_effect (i.Jecxz distance) at next p t e = jecxz_effect distance at next
block_effect (i.Jcc c distance) at next p t e = jcc_effect c distance at next
block_effect (i.Jmp distance) at next p t e = jmp_effect distance at next
block_effect (i.JmpTo s) at next p t e = jmp_to_effect s at next e
block_effect (i.Call distance) at next p t e = call_effect distance at next
block_effect (i.CallTo s) at next p t e = call_to_effect s at next
block_effect (i.Ret n) at next p t e = ret_effect n at next
block_effect (i.Trap v) at next p t e = trap_effect v at next
block_effect (i.Mul size s) at next p t e = absurd cc
block_effect (i.ImulWide size s) at next p t e = absurd cc
block_effect (i.Imul2 size d s) at next p t e = absurd cc
block_effect (i.Imul3 size d s k) at next p t e = absurd cc
block_effect (i.Div size s) at next p t e = absurd cc
block_effect (i.Idiv size s) at next p t e = absurd cc
block_effect (i.Shift f size d n) at next p t e = absurd cc
block_effect (i.DShift left d g n) at next p t e = absurd cc
block_effect (i.Bit f size d s) at next p t e = absurd cc
block_effect (i.Scan up size d s tz) at next p t e = absurd cc
block_effect (i.Str f size r s) at next p t e = absurd cc

-- ---- all of them

-- a plain instruction has one block
one_block : (x : Inst) → is_plain x ≡ true → 1 ≡ block_count x
one_block (i.Str f size r s) p = absurd cc
one_block x p = refl

and_true : (b : Bool) → IsTrue b → IsTrue (b && true)
and_true true h = h
and_true false h = h

-- the one block leads below
first_steady : (x : Inst) (at next : ℕ) (b : Block) → IsKept x at next b → (n : ℕ) (w : World) → n < 1 → IsWorld w → Stays (1 + length (successors_of x at next)) (enter (slice_get (b ∷ []) n) w)
first_steady x at next b g zero w l h = g.steady w h
first_steady x at next b g (suc n) w l h = absurd (omega arith)

-- by the block's effect and by what it keeps, where its instruction has one block
by_count : (x : Inst) (at next : ℕ) (b : Block) → 1 ≡ block_count x → HasEffect x at next b → IsKept x at next b → AreBlocksOf x at next (b ∷ [])
by_count x at next b e h g =
    let p : stores_of_stmts b.stmts ≡ once (stores x) = g.stores in
    let q : calls_of_stmts b.stmts + calls_of_end b.end ≡ once (asks x) = g.calls in
    record {
      count = e;
      effect = subst (λ k. (w : World) (f : Flags) → IsWorld w → FlagsStand f w.names
          → Matches k (successors_of x at next) (instruction_does x at next (state_in w f)) (through k (b ∷ []) (enter (slice_get (b ∷ []) 0) w))) e h.effect;
      steady = subst (λ k. (n : ℕ) (w : World) → n < k → IsWorld w → Stays (k + length (successors_of x at next)) (enter (slice_get (b ∷ []) n) w)) e (first_steady x at next b g);
      rule = and_true (is_flow_block b) g.rule;
      stores = omega arith;
      calls = omega arith;
      ends = g.ends;
      places = (g.place, tt);
    }

-- the block of a plain instruction that has a spelling, where what it holds are words
pub blocks_are : (x : Inst) (at next : ℕ) (b : Block) → next < 2 ^ 32 → is_plain x ≡ true → leaves_bare x ≡ true → has_words x ≡ true → b ≡ block_of x at next
    → HasSpelling x → AreBlocksOf x at next (b ∷ [])
blocks_are x at next b l p e u s h =
    let t = spelled_is_formed x h in
    subst (λ c. AreBlocksOf x at next (c ∷ [])) (sym s) (by_count x at next (block_of x at next) (one_block x p) (block_effect x at next p t e) (block_kept x at next l p t e u))
