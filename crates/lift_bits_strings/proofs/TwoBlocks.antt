-- The test of ECX and a round are the two blocks of a repeated string instruction.
use Rattle.std.proofs.Common.{◌≡◌, ℕ, zero, suc, ◌+◌, ◌<◌, nat_eq, Bool, true, false, not, List, [], ◌∷◌, length, Some, refl, sym, ap, subst, lit<, lit≤, arith}
use Rattle.std.specs.Prelude.{slice_get, IsTrue, ◌&&◌}
use Rattle.dream_words.specs.declared.machine.Flags.{Flags}
use Rattle.run_parts.specs.World.{World}
use Rattle.dream_words.specs.declared.machine.Name.TheVariants as name
use Rattle.x86_inst.specs.declared.Inst.{Inst}
use Rattle.x86_model.specs.Leads.{instruction_does}
use Rattle.x86_model.specs.Successors.{successors_of, stores, asks}
use Rattle.c_syntax.specs.declared.syntax.CCmp.TheVariants.{Ne}
use Rattle.c_words.specs.Built.{num}
use Rattle.micro_ir.specs.declared.flow.Block.{Block}
use Rattle.micro_ir.specs.Counts.{calls_of_end, calls_of_stmts, stores_of_stmts}
use Rattle.micro_ir.specs.Rule.{are_flow_stmts, is_flow_block, is_flow_cond, is_flow_end}
use Rattle.micro_ir.specs.Run.{block_leads, branch, enter}
use Rattle.micro_ir.specs.World.{IsWorld}
use Rattle.lift_parts.specs.Lifted.{AreBlocksOf, EndAs, Matches, Stays, block_count, once, through}
use Rattle.lift_parts.specs.Parts.{reg}
use Rattle.lift_parts.specs.Safe.{is_safe_end, leads_below}
use Rattle.lift_parts.specs.Stands.{FlagsStand, state_in}
use Rattle.lift_parts.proofs.Fit.{AreFit, both_hold, none_fit, num_fit, reg_fit}
use Rattle.lift_parts.proofs.FitShapes.{IsFitCond, cmp_fit, fit_cond, fit_stays}
use Rattle.lift_blocks.proofs.Does.{cmp_is, name_is, num_is}
use Rattle.lift_bits_strings.specs.Rounds.{some_left, test_block}

-- ---- the test

some_left_fit : IsFitCond 2 some_left
some_left_fit = cmp_fit 1 Ne (reg 1) (num 0) (reg_fit 1 1 (lit≤ tt) (lit< tt)) (num_fit 1 0 (lit≤ tt) (lit< tt))

-- where the test leads
test_leads : (at : ℕ) (w : World) → block_leads (test_block at) w ≡ branch (Some (not (nat_eq (w.names (name.Reg 1)) 0))) 1 3 w
test_leads at w = ap (λ t. branch t 1 3 w) (cmp_is Ne (reg 1) (num 0) w.names (w.names (name.Reg 1)) 0 (name_is (name.Reg 1) w.names) (num_is 0 w.names))

-- what the test, and then the round, do
pub both_lead : (at : ℕ) (b : Block) (w : World) → through 2 (test_block at ∷ b ∷ []) (enter (Some (test_block at)) w)
    ≡ through 2 (test_block at ∷ b ∷ []) (branch (Some (not (nat_eq (w.names (name.Reg 1)) 0))) 1 3 w)
both_lead at b w = ap (through 2 (test_block at ∷ b ∷ [])) (test_leads at w)

-- ---- both blocks

and_true : (b : Bool) → IsTrue b → IsTrue (b && true)
and_true true h = h
and_true false h = h

-- each block leads below
each_steady : (a b : Block) → ((w : World) → IsWorld w → Stays 4 (block_leads a w)) → ((w : World) → IsWorld w → Stays 4 (block_leads b w))
    → (n : ℕ) (w : World) → n < 2 → IsWorld w → Stays 4 (enter (slice_get (a ∷ b ∷ []) n) w)
each_steady a b g h zero w l i = g w i
each_steady a b g h (suc zero) w l i = h w i
each_steady a b g h (suc (suc n)) w l i = absurd (omega arith)

-- The test and a round whose statements are fit are the blocks of an instruction with two, where they have its effect.
pub two_blocks : (x : Inst) (at next : ℕ) (b : Block) → 2 ≡ block_count x → successors_of x at next ≡ at ∷ next ∷ [] → 0 ≡ once (asks x) → AreFit (once (stores x)) b.stmts
    → calls_of_end b.end ≡ 0 → IsTrue (is_safe_end b.end) → IsTrue (is_flow_end b.end) → IsTrue (leads_below 4 b.end) → EndAs x (test_block at ∷ b ∷ []) → b.at ≡ at
    → ((w : World) (f : Flags) → IsWorld w → FlagsStand f w.names
    → Matches 2 (at ∷ next ∷ []) (instruction_does x at next (state_in w f))
    (through 2 (test_block at ∷ b ∷ []) (branch (Some (not (nat_eq (w.names (name.Reg 1)) 0))) 1 3 w)))
    → AreBlocksOf x at next (test_block at ∷ b ∷ [])
two_blocks x at next b e s a f c safe flow below ends place effect =
    let bs : List Block = test_block at ∷ b ∷ [] in
    let p : stores_of_stmts b.stmts ≡ once (stores x) = f.stored in
    let q : calls_of_stmts b.stmts ≡ 0 = f.called in
    let test_flow : IsTrue (is_flow_cond some_left) = fit_cond 2 some_left (lit≤ tt) some_left_fit in
    let test_stays = λ (w : World) (i : IsWorld w). fit_stays 4 0 (test_block at) w none_fit some_left_fit.safe test_flow refl i in
    let round_stays = λ (w : World) (i : IsWorld w). fit_stays 4 (once (stores x)) b w f safe flow below i in
    record {
      count = e;
      effect = subst (λ k. (w : World) (f : Flags) → IsWorld w → FlagsStand f w.names
          → Matches k (successors_of x at next) (instruction_does x at next (state_in w f)) (through k bs (enter (slice_get bs 0) w))) e
          (subst (λ xs. (w : World) (f : Flags) → IsWorld w → FlagsStand f w.names
          → Matches 2 xs (instruction_does x at next (state_in w f)) (through 2 bs (enter (slice_get bs 0) w))) (sym s)
          (λ w f i h. subst (Matches 2 (at ∷ next ∷ []) (instruction_does x at next (state_in w f))) (sym (both_lead at b w)) (effect w f i h)));
      steady = subst (λ k. (n : ℕ) (w : World) → n < k → IsWorld w → Stays (k + length (successors_of x at next)) (enter (slice_get bs n) w)) e
          (subst (λ xs. (n : ℕ) (w : World) → n < 2 → IsWorld w → Stays (2 + length xs) (enter (slice_get bs n) w)) (sym s)
          (each_steady (test_block at) b test_stays round_stays));
      rule = both_hold (is_flow_block (test_block at)) (is_flow_block b && true) test_flow
          (and_true (is_flow_block b) (both_hold (are_flow_stmts b.stmts) (is_flow_end b.end) f.flow flow));
      stores = omega arith;
      calls = omega arith;
      ends = ends;
      places = (refl, (place, tt));
    }
