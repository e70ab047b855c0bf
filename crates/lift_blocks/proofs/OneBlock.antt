-- Statements that lead on, and keep the rule of flows, are the one block of the instruction.
use Rattle.std.proofs.Common.{◌≡◌, ℕ, ◌+◌, ◌<◌, zero, suc, Bool, true, false, List, [], ◌∷◌, length, refl, sym, subst, arith}
use Rattle.std.specs.Prelude.{slice_get, IsTrue, ◌&&◌}
use Rattle.dream_words.specs.declared.machine.Flags.{Flags}
use Rattle.run_parts.specs.World.{World}
use Rattle.x86_inst.specs.declared.Inst.{Inst}
use Rattle.x86_model.specs.Leads.{instruction_does}
use Rattle.x86_model.specs.Successors.{successors_of, stores, asks}
use Rattle.micro_ir.specs.declared.flow.Block.{Block}
use Rattle.micro_ir.specs.declared.flow.Stmt.{Stmt}
use Rattle.micro_ir.specs.Counts.{stores_of_stmts, calls_of_stmts, calls_of_end}
use Rattle.micro_ir.specs.Rule.{is_flow_end, is_flow_block, are_flow_stmts}
use Rattle.micro_ir.specs.Run.{enter, block_leads}
use Rattle.micro_ir.specs.World.{IsWorld}
use Rattle.lift_parts.specs.Lifted.{block_count, AreBlocksOf, EndAs, Matches, Stays, once, through}
use Rattle.lift_parts.specs.Safe.{is_safe_end, leads_below}
use Rattle.lift_parts.specs.Stands.{FlagsStand, state_in}
use Rattle.lift_parts.proofs.Fit.{AreFit, both_hold}
use Rattle.lift_parts.proofs.FitShapes.{fit_stays}
use Rattle.lift_blocks.specs.Effects.{HasEffect, GoesOn}
use Rattle.lift_blocks.specs.Ends.{goes_on}
use Rattle.lift_blocks.proofs.Straight.{goes_effect}

and_true : (b : Bool) → IsTrue b → IsTrue (b && true)
and_true true h = h
and_true false h = h

-- the one block leads below
first_steady : (nodes : ℕ) (b : Block) → ((w : World) → IsWorld w → Stays nodes (block_leads b w))
    → (n : ℕ) (w : World) → n < 1 → IsWorld w → Stays nodes (enter (slice_get (b ∷ []) n) w)
first_steady nodes b g zero w l h = g w h
first_steady nodes b g (suc n) w l h = absurd (omega arith)

-- A block whose statements are fit, and that has the effect of the instruction, is its one block.
pub fit_blocks : (x : Inst) (at next : ℕ) (b : Block) → 1 ≡ block_count x → AreFit (once (stores x)) b.stmts → calls_of_end b.end ≡ once (asks x) → IsTrue (is_safe_end b.end)
    → IsTrue (is_flow_end b.end) → IsTrue (leads_below (1 + length (successors_of x at next)) b.end) → EndAs x (b ∷ []) → b.at ≡ at → HasEffect x at next b
    → AreBlocksOf x at next (b ∷ [])
fit_blocks x at next b e f c s g l h k effect =
    let p : stores_of_stmts b.stmts ≡ once (stores x) = f.stored in
    let q : calls_of_stmts b.stmts ≡ 0 = f.called in
    record {
      count = e;
      effect = subst (λ k. (w : World) (f : Flags) → IsWorld w → FlagsStand f w.names
          → Matches k (successors_of x at next) (instruction_does x at next (state_in w f)) (through k (b ∷ []) (enter (slice_get (b ∷ []) 0) w))) e effect.effect;
      steady = subst (λ k. (n : ℕ) (w : World) → n < k → IsWorld w → Stays (k + length (successors_of x at next)) (enter (slice_get (b ∷ []) n) w)) e
          (first_steady (1 + length (successors_of x at next)) b (λ w i. fit_stays (1 + length (successors_of x at next)) (once (stores x)) b w f s g l i));
      rule = and_true (is_flow_block b) (both_hold (are_flow_stmts b.stmts) (is_flow_end b.end) f.flow g);
      stores = omega arith;
      calls = omega arith;
      ends = h;
      places = (k, tt);
    }

-- Statements that are fit and lead on are the one block of an instruction whose only successor is the next address.
pub goes_blocks : (x : Inst) (at next : ℕ) (stmts : List Stmt) → 1 ≡ block_count x → successors_of x at next ≡ next ∷ [] → 0 ≡ once (asks x) → EndAs x (goes_on at stmts ∷ [])
    → AreFit (once (stores x)) stmts → GoesOn x next stmts → AreBlocksOf x at next (goes_on at stmts ∷ [])
goes_blocks x at next stmts e s a h f g =
    fit_blocks x at next (goes_on at stmts) e f a refl refl (subst (λ l. IsTrue (leads_below (1 + length l) (goes_on at stmts).end)) (sym s) refl) h refl (goes_effect x at next stmts s g)
