-- The tree of a plan that passes makes no more loop turns than the flow enters heads.
use Rattle.std.proofs.Common.{◌≡◌, ℕ, zero, suc, ◌+◌, ◌≤◌, Bool, true, false, cond, if◌then◌else◌, List, refl, sym, ap, ◌∙◌, arith}
use Rattle.std.specs.Prelude.{slice_get}
use Rattle.dream_words.specs.declared.outcome.Outcome.{Outcome}
use Rattle.dream_words.specs.declared.outcome.Start.{Start}
use Rattle.dream_words.specs.declared.outcome.Answer.{Answer}
use Rattle.dream_words.specs.Words.{bit_of}
use Rattle.dream_words.specs.Same.{IsEnded}
use Rattle.run_parts.specs.Parts.{Past, Broke, Over, Stuck, Run, Ends, Goes}
use Rattle.run_parts.specs.Steps.{To, End, Nowhere}
use Rattle.run_parts.specs.World.{World, start_world, outcome_of}
use Rattle.micro_ir.specs.declared.flow.Block.{Block}
use Rattle.micro_ir.specs.Run.{Arrive, enter, walk}
use Rattle.micro_ir.specs.Run as flow
use Rattle.micro_ir.proofs.More.{one_end, goes_before}
use Rattle.guarded.specs.Run.{tree_does}
use Rattle.regions.proofs.Core.{core, start_bare}
use Rattle.regions.proofs.Entries.{entries, one_more_head}
use Rattle.regions.proofs.Entries as counted
use Rattle.regions.proofs.Tracks.{Clear, Kept}
use Rattle.regions.proofs.Following.{None_such}
use Rattle.flow_plans.specs.Emitted.{emitted}
use Rattle.flow_plans.specs.Laws.{count_on, heads_entered, PlansTurn}
use Rattle.flow_plans.proofs.Following.{starts_sound, tree_tracks}

module _ (blocks : List Block) (head : ℕ → Bool) where
  bits : (b : Bool) → bit_of b ≡ cond b 1 0
  bits true = refl
  bits false = refl

  counts : (k : ℕ) → ((n : ℕ) (w : World) → heads_entered blocks head k n w ≡ entries blocks head k n w) → (a : Arrive) → count_on a (heads_entered blocks head k) ≡ counted.count_on a (entries blocks head k)
  counts k h (To n w) = h n w
  counts k h (End o) = refl
  counts k h Nowhere = refl

  same_count : (k n : ℕ) (w : World) → heads_entered blocks head k n w ≡ entries blocks head k n w
  same_count zero n w = refl
  same_count (suc k) n w =
      ap (λ x. x + count_on (enter (slice_get blocks n) w) (heads_entered blocks head k)) (bits (head n))
      ∙ ap (λ x. cond (head n) 1 0 + x) (counts k (same_count k) (enter (slice_get blocks n) w))

  module _ (n : ℕ) (s : World) (bare : core s ≡ s) where
    -- a walk from the bare world
    here : (k : ℕ) (a : Arrive) → walk blocks k n (core s) ≡ a → walk blocks k n s ≡ a
    here k a e = ap (λ u. walk blocks k n u) (sym bare) ∙ e

    turns_case : (k : ℕ) (o : Outcome) → walk blocks k n s ≡ End o → (r : Run World Outcome) → Kept blocks head (Clear None_such) (Clear None_such) 0 n s (entries blocks head k n s) r → outcome_of r ≡ o
    turns_case k o g (Ends (Past t) f) w = absurd w.holds.1
    turns_case k o g (Ends (Broke t) f) w = absurd w.holds.1
    turns_case k o g (Ends (Over p) f) w = one_end blocks w.0 k n s p o (here w.0 (End p) w.1) g
    turns_case k o g (Ends Stuck f) w = absurd w
    turns_case k o g (Goes t) w =
        let p : walk blocks w.steps n s ≡ To w.node (core t) = here w.steps (To w.node (core t)) w.path in
        let lt = goes_before blocks w.steps k n w.node s (core t) o p g in
        let more = one_more_head blocks head w.steps k n s w.node (core t) p w.holds.1 lt in
        let paid : entries blocks head k n s + 0 ≤ entries blocks head w.steps n s + w.debt + 0 = rw bare at w.paid in
        absurd (let z : ⊥ = omega (arith, more, paid, w.holds.0) in z)

    turns : (run : ℕ → Run World Outcome) → ((m : ℕ) → Kept blocks head (Clear None_such) (Clear None_such) 0 n s m (run m)) → (k : ℕ) (a : Arrive) → walk blocks k n s ≡ a → IsEnded (flow.outcome_of a)
        → outcome_of (run (heads_entered blocks head k n s)) ≡ flow.outcome_of a
    turns run kept k (To m t) e h = absurd h
    turns run kept k (End o) e h = ap (λ m. outcome_of (run m)) (same_count k n s) ∙ turns_case k o e (run (entries blocks head k n s)) (kept (entries blocks head k n s))
    turns run kept k Nowhere e h = absurd h

pub plans_turn : PlansTurn
plans_turn f head vs p rule pass start answers g k h =
    let s = start_world start answers in
    turns f.blocks head f.entry s (start_bare start answers) (λ m. tree_does (emitted f.blocks p) m s)
    (λ m. (tree_tracks f head vs p rule pass start answers).by 0 f.entry s m (refl, refl, refl) (starts_sound f head start answers g))
    k (walk f.blocks k f.entry s) refl h
