-- Statements that lead on make a block of the instruction.
use Rattle.std.proofs.Common.{◌≡◌, ℕ, List, [], ◌∷◌, Option, Some, None, refl, sym, ap, subst}
use Rattle.run_parts.specs.Steps.{Next, arrive}
use Rattle.run_parts.specs.World.{World}
use Rattle.run_parts.specs.Effects.{allowing}
use Rattle.dream_words.specs.declared.machine.Flags.{Flags}
use Rattle.x86_inst.specs.declared.Inst.{Inst}
use Rattle.x86_model.specs.declared.effect.Effect.{Effect}
use Rattle.x86_model.specs.declared.effect.Go.{Go}
use Rattle.x86_model.specs.declared.effect.Go.TheVariants as go
use Rattle.x86_model.specs.Machine.{At, Ending, Faulted, Finished, Onward, State, Strays}
use Rattle.x86_model.specs.Leads.{after, allowed, effect_in, first_of, leads, refused_read, refused_store}
use Rattle.x86_model.specs.Successors.{successors_of}
use Rattle.micro_ir.specs.declared.flow.Stmt.{Stmt}
use Rattle.micro_ir.specs.declared.flow.End.TheVariants as end
use Rattle.micro_ir.specs.Run.{enter, block_leads, end_leads}
use Rattle.lift_parts.specs.Stands.{Stands, state_in}
use Rattle.lift_parts.specs.Lifted.{Matches, through}
use Rattle.lift_parts.specs.Shown.{Faults, RunsTo}
use Rattle.lift_blocks.specs.Ends.{goes_on}
use Rattle.lift_blocks.specs.Effects.{HasEffect, LeadsOn, GoesOn}

-- a block whose statements lead to a world leads on there, unless an access of theirs is refused
leads_there : (bad : Option ℕ) (at : ℕ) (stmts : List Stmt) (w u : World) → RunsTo bad stmts w u → block_leads (goes_on at stmts) w ≡ arrive (allowing bad w (Next u)) (end_leads (end.Go 1))
leads_there bad at stmts w u r = ap (λ d. arrive d (end_leads (end.Go 1))) r.runs

-- what a step leads to that goes on, by the accesses that are refused
goes_next : (a b : Option ℕ) (e : Effect) (f : Flags) (at next : ℕ) (stmts : List Stmt) (w u : World) → Stands (after e (state_in w f)) u
    → Matches 1 (next ∷ []) (allowed a (state_in w f) (allowed b (state_in w f) (At next (after e (state_in w f)))))
    (through 1 (goes_on at stmts ∷ []) (arrive (allowing (first_of a b) w (Next u)) (end_leads (end.Go 1))))
goes_next None None e f at next stmts w u h = (0, refl, refl, h)
goes_next None (Some x) e f at next stmts w u h = refl
goes_next (Some x) b e f at next stmts w u h = refl

-- a fault of the statements is that of the step
fault_shown : (x at : ℕ) (succ : List ℕ) (stmts : List Stmt) (w : World) → Faults (Some x) stmts w
    → Matches 1 succ (Finished (Faulted 14 x w.mem w.calls)) (through 1 (goes_on at stmts ∷ []) (enter (Some (goes_on at stmts)) w))
fault_shown x at succ stmts w h =
    subst (λ d. Matches 1 succ (Finished (Faulted 14 x w.mem w.calls)) (through 1 (goes_on at stmts ∷ []) (arrive d (end_leads (end.Go 1))))) (sym h) refl

-- what a step leads to that strays
goes_astray : (a b : Option ℕ) (f : Flags) (at : ℕ) (succ : List ℕ) (stmts : List Stmt) (w : World) → Faults (first_of a b) stmts w
    → Matches 1 succ (allowed a (state_in w f) (allowed b (state_in w f) Strays)) (through 1 (goes_on at stmts ∷ []) (enter (Some (goes_on at stmts)) w))
goes_astray None None f at succ stmts w h = tt
goes_astray None (Some x) f at succ stmts w h = fault_shown x at succ stmts w h
goes_astray (Some x) b f at succ stmts w h = fault_shown x at succ stmts w h

-- by where the run goes
by_go : (g : Go) (a : Option ℕ) (e : Effect) (f : Flags) (at next : ℕ) (succ : List ℕ) (stmts : List Stmt) (w : World) → succ ≡ next ∷ [] → LeadsOn a g e (state_in w f) stmts w
    → Matches 1 succ (allowed a (state_in w f) (allowed (refused_store e (state_in w f)) (state_in w f) (leads g at next (after e (state_in w f)))))
    (through 1 (goes_on at stmts ∷ []) (enter (Some (goes_on at stmts)) w))
by_go go.Next a e f at next succ stmts w s (u, r, h) =
    let b : Option ℕ = refused_store e (state_in w f) in
    let does : Onward State Ending = allowed a (state_in w f) (allowed b (state_in w f) (At next (after e (state_in w f)))) in
    subst (λ l. Matches 1 succ does (through 1 (goes_on at stmts ∷ []) l)) (sym (leads_there (first_of a b) at stmts w u r))
    (subst (λ xs. Matches 1 xs does (through 1 (goes_on at stmts ∷ []) (arrive (allowing (first_of a b) w (Next u)) (end_leads (end.Go 1))))) (sym s)
    (goes_next a b e f at next stmts w u h))
by_go go.Stray a e f at next succ stmts w s h = goes_astray a (refused_store e (state_in w f)) f at succ stmts w h
by_go go.Again a e f at next succ stmts w s h = elim h [ ]
by_go (go.To x) a e f at next succ stmts w s h = elim h [ ]
by_go (go.CallTo x) a e f at next succ stmts w s h = elim h [ ]
by_go (go.LeaveTo x) a e f at next succ stmts w s h = elim h [ ]
by_go go.Return a e f at next succ stmts w s h = elim h [ ]
by_go (go.Fault v) a e f at next succ stmts w s h = elim h [ ]

-- statements that lead on, where the next address is the only successor
pub goes_effect : (x : Inst) (at next : ℕ) (stmts : List Stmt) → successors_of x at next ≡ next ∷ [] → GoesOn x next stmts → HasEffect x at next (goes_on at stmts)
goes_effect x at next stmts s g = record {
  effect = λ w f i h.
      let e : Effect = effect_in x next (state_in w f) in
      by_go e.go (refused_read x (state_in w f)) e f at next (successors_of x at next) stmts w s (g.leads w f i h);
}
