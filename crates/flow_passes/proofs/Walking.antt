-- Blocks that go alike keep the runs.
use Rattle.std.proofs.Common.{◌≡◌, ℕ, zero, suc, length, List, [], ◌∷◌, Option, Some, None, refl, sym, ap, ◌∙◌, subst, arith}
use Rattle.std.specs.Prelude.{IsTrue, slice_get}
use Rattle.dream_words.specs.declared.outcome.Outcome.TheVariants as outcome
use Rattle.run_parts.specs.Steps.{To, End, Nowhere}
use Rattle.run_parts.specs.World.{World, start_world}
use Rattle.micro_ir.specs.declared.flow.Block.{Block}
use Rattle.micro_ir.specs.Rule.{are_flow_blocks}
use Rattle.micro_ir.specs.Run.{Arrive, enter, onward, walk, outcome_of}
use Rattle.micro_ir.specs.World.{IsWorld}
use Rattle.micro_ir.specs.Laws.{ArriveStays}
use Rattle.micro_ir.proofs.Worlds.{enter_stays, start_is}
use Rattle.flow_passes.specs.Uses.{NameSet}
use Rattle.flow_passes.specs.Alike.{Alike, ArrivesAlike, GoAlike}
use Rattle.flow_passes.specs.Keeps.{entered, then_entered}
use Rattle.flow_passes.specs.Laws.{GoingAlikeKeepsRuns}
use Rattle.flow_passes.proofs.Names.{alike_self}

-- where one list has an element, another of its length has one
pub also_there : {A : Type 0} (xs ys : List A) (n : ℕ) (x : A) → length ys ≡ length xs → slice_get xs n ≡ Some x → (y : A) × (slice_get ys n ≡ Some y)
also_there [] ys n x e h = absurd (let z : ⊥ = cc in z)
also_there (a ∷ xs) [] n x e h = absurd (let z : ⊥ = omega (arith, e) in z)
also_there (a ∷ xs) (b ∷ ys) zero x e h = (b, refl)
also_there (a ∷ xs) (b ∷ ys) (suc n) x e h = also_there xs ys n x (let s : length ys ≡ length xs = omega (arith, e) in s) h

module _ (old new : List Block) (seen : ℕ → NameSet) (old_rule : IsTrue (are_flow_blocks old)) (new_rule : IsTrue (are_flow_blocks new)) (alike : GoAlike seen old new) where
  -- a block is entered
  entered_alike : (n : ℕ) (b : Option Block) (w u : World) → slice_get old n ≡ b → IsWorld w → IsWorld u → Alike (seen n) w u → ArrivesAlike seen (enter b w) (enter (slice_get new n) u)
  entered_alike n None w u e iw iu h = tt
  entered_alike n (Some b) w u e iw iu h =
      let t = also_there old new n b alike.count e in
      subst (λ c. ArrivesAlike seen (enter (Some b) w) (enter c u)) (sym t.1) (alike.blocks n b t.0 e t.1 w u iw iu h)

  onward_alike : (a b : Arrive) (j k : ℕ → World → Arrive) → ArriveStays a → ArriveStays b → ArrivesAlike seen a b
      → ((n : ℕ) (w u : World) → IsWorld w → IsWorld u → Alike (seen n) w u → ArrivesAlike seen (j n w) (k n u)) → ArrivesAlike seen (onward a j) (onward b k)
  onward_alike (To n w) b j k sa sb (u, e, h) go = subst (λ c. ArrivesAlike seen (j n w) (onward c k)) (sym e) (go n w u sa (subst ArriveStays e sb) h)
  onward_alike (End o) b j k sa sb e go = subst (λ c. ArrivesAlike seen (End o) (onward c k)) (sym e) refl
  onward_alike Nowhere b j k sa sb h go = tt

  walks_alike : (k n : ℕ) (w u : World) → IsWorld w → IsWorld u → Alike (seen n) w u → ArrivesAlike seen (walk old k n w) (walk new k n u)
  walks_alike zero n w u iw iu h = (u, refl, h)
  walks_alike (suc k) n w u iw iu h =
      onward_alike (enter (slice_get old n) w) (enter (slice_get new n) u) (walk old k) (walk new k) (enter_stays old n w old_rule iw) (enter_stays new n u new_rule iu)
      (entered_alike n (slice_get old n) w u refl iw iu h) (walks_alike k)

  -- the same blocks are entered
  same_after : (a b : Arrive) (j : ℕ → World → Arrive) (before after : ℕ → World → List ℕ) → ArriveStays a → ArriveStays b → ArrivesAlike seen a b → (onward a j ≡ Nowhere → ⊥)
      → ((n : ℕ) (w u : World) → IsWorld w → IsWorld u → Alike (seen n) w u → (j n w ≡ Nowhere → ⊥) → after n u ≡ before n w) → then_entered b after ≡ then_entered a before
  same_after (To n w) b j before after sa sb (u, e, h) s go = subst (λ c. then_entered c after ≡ before n w) (sym e) (go n w u sa (subst ArriveStays e sb) h s)
  same_after (End o) b j before after sa sb e s go = ap (λ c. then_entered c after) e
  same_after Nowhere b j before after sa sb h s go = absurd (s refl)

  same_entered : (k n : ℕ) (w u : World) → IsWorld w → IsWorld u → Alike (seen n) w u → (walk old k n w ≡ Nowhere → ⊥) → entered new k n u ≡ entered old k n w
  same_entered zero n w u iw iu h s = refl
  same_entered (suc k) n w u iw iu h s =
      ap (λ l. n ∷ l) (same_after (enter (slice_get old n) w) (enter (slice_get new n) u) (walk old k) (entered old k) (entered new k) (enter_stays old n w old_rule iw) (enter_stays new n u new_rule iu)
      (entered_alike n (slice_get old n) w u refl iw iu h) s (same_entered k))

-- what leads alike has the same outcome, where that isn't stuck
same_outcome : (seen : ℕ → NameSet) (a b : Arrive) → ArrivesAlike seen a b → (outcome_of a ≡ outcome.Stuck → ⊥) → outcome_of b ≡ outcome_of a
same_outcome seen (To n w) b (u, e, h) s = ap outcome_of e ∙ ap (λ c. outcome.Going c) h.calls
same_outcome seen (End o) b e s = ap outcome_of e
same_outcome seen Nowhere b h s = absurd (s refl)

pub going_alike_keeps_runs : GoingAlikeKeepsRuns
going_alike_keeps_runs old new seen ro rn e h = record {
  runs = λ start answers k r s.
      let w = start_world start answers in
      let i = start_is start answers r.regs r.fs r.gs r.mem r.answered in
      ap (λ n. outcome_of (walk new.blocks k n w)) e
      ∙ same_outcome seen (walk old.blocks k old.entry w) (walk new.blocks k old.entry w)
      (walks_alike old.blocks new.blocks seen ro rn h k old.entry w w i i (alike_self (seen old.entry) w)) s;
  enters = λ start answers k r s.
      let w = start_world start answers in
      let i = start_is start answers r.regs r.fs r.gs r.mem r.answered in
      ap (λ n. entered new.blocks k n w) e
      ∙ same_entered old.blocks new.blocks seen ro rn h k old.entry w w i i (alike_self (seen old.entry) w) (λ z. s (ap outcome_of z));
}
