-- A plan that passes gives a tree that follows its flow.
use Rattle.std.specs.Prelude.{IsTrue}
use Rattle.std.proofs.Common.{◌≡◌, ℕ, Bool, false, List, [], ◌∷◌, Option, Some, None, inl, refl, sym, ap, ◌∙◌, subst}
use Rattle.dream_words.specs.declared.machine.Name.{Name}
use Rattle.dream_words.specs.declared.outcome.Start.{Start}
use Rattle.dream_words.specs.declared.outcome.Answer.{Answer}
use Rattle.run_parts.specs.World.{World, start_world}
use Rattle.micro_ir.specs.declared.flow.Flow.{Flow}
use Rattle.micro_ir.specs.Rule.{KeepsRule}
use Rattle.micro_ir.specs.Run as flow
use Rattle.micro_ir.specs.Run.{walk}
use Rattle.guarded.specs.Run.{tree_does}
use Rattle.flow_passes.specs.Along.{NeverStuck}
use Rattle.regions.specs.Follows.{Follows}
use Rattle.regions.proofs.Core.{core, start_bare}
use Rattle.regions.proofs.Tracks.{Clear, Sound, Tracks, from_tracks, to_tracks}
use Rattle.regions.proofs.Following.{None_such, Starts, along}
use Rattle.flow_plans.specs.declared.plan.Entry.{Entry}
use Rattle.flow_plans.specs.declared.plan.Plan.{Plan}
use Rattle.flow_plans.specs.Checked.{checked}
use Rattle.flow_plans.specs.Emitted.{emitted, trees_of}
use Rattle.flow_plans.specs.Laws.{zeros, at_start, is_over, passes, PlansFollow}
use Rattle.flow_plans.proofs.Adding.{at_first}
use Rattle.flow_plans.proofs.Holding.{Hold, Among}
use Rattle.flow_plans.proofs.Emitting.{all_do, gathered_is}
use Rattle.flow_plans.proofs.Tracking.{plan_tracks}

-- at the start the locals are 0
zeros_hold : (vs : List Name) (s : Start) (answers : List Answer) → Hold (zeros vs) (start_world s answers)
zeros_hold [] s answers = tt
zeros_hold (v ∷ vs) s answers = (at_first v s answers, zeros_hold vs s answers)

over : (o : Option (List Entry)) → IsTrue (is_over o) → o ≡ Some []
over None h = absurd (let z : ⊥ = cc in z)
over (Some []) h = refl
over (Some (e ∷ rest)) h = absurd (let z : ⊥ = cc in z)

-- from the start the tree goes along, and comes to no end of its own
pub tree_tracks : (f : Flow) (head : ℕ → Bool) (vs : List Name) (p : Plan) → KeepsRule f → IsTrue (passes f head vs p) → (start : Start) (answers : List Answer)
    → Tracks f.blocks head (Starts f.entry (start_world start answers)) (tree_does (emitted f.blocks p)) (Clear None_such) (Clear None_such)
tree_tracks f head vs p rule pass start answers =
    let s = start_world start answers in
    subst (λ a. Tracks f.blocks head (Starts f.entry s) a (Clear None_such) (Clear None_such)) (sym (gathered_is (trees_of f.blocks p)))
    (from_tracks f.blocks head (Among (at_start f vs)) (Starts f.entry s) (Clear None_such) (Clear None_such) (all_do (trees_of f.blocks p))
    (λ d n t i. inl (i.0, i.1, subst (Hold (zeros vs)) (sym i.2) (zeros_hold vs start answers)))
    (to_tracks f.blocks head (Among (at_start f vs)) (Among []) (Among []) (Clear None_such) (Clear None_such) (all_do (trees_of f.blocks p))
    (λ d n t i. absurd i) (λ d n t i. absurd i)
    (plan_tracks f.blocks head rule p [] (at_start f vs) [] (over (checked f.blocks head p [] (at_start f vs)) pass))))

-- where no run of the flow is stuck
pub starts_sound : (f : Flow) (head : ℕ → Bool) (start : Start) (answers : List Answer) → NeverStuck (flow.flow_run f start answers) → Sound f.blocks head f.entry (core (start_world start answers))
starts_sound f head start answers g k e =
    g k (ap (λ u. flow.outcome_of (walk f.blocks k f.entry u)) (sym (start_bare start answers)) ∙ ap flow.outcome_of e)

pub pass_follows : PlansFollow
pass_follows f head vs p rule pass = record {
  from = λ start answers g.
      let s = start_world start answers in
      along f.blocks head (λ m. tree_does (emitted f.blocks p) m s) f.entry s (start_bare start answers)
      (λ m. (tree_tracks f head vs p rule pass start answers).by 0 f.entry s m (refl, refl, refl) (starts_sound f head start answers g)) g;
}
