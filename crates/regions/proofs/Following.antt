-- A tree that goes along a flow follows it: one induction serves both directions. Run the tree with as many turns as there
-- are heads among the first k blocks: if it still waits, it stands before a head that the flow has yet to enter.
use Rattle.std.proofs.Common.{◌≡◌, ℕ, ◌+◌, ◌-◌, ◌≤◌, Bool, List, refl, sym, ap, ◌∙◌, subst, arith}
use Rattle.dream_words.specs.declared.outcome.Call.{Call}
use Rattle.dream_words.specs.declared.outcome.Outcome.{Outcome}
use Rattle.dream_words.specs.declared.outcome.Outcome.TheVariants as outcome
use Rattle.dream_words.specs.Same.{IsEnded, calls_of}
use Rattle.run_parts.specs.Parts.{Past, Broke, Over, Stuck, Run, Ends, Goes}
use Rattle.run_parts.specs.Steps.{To, End, Nowhere}
use Rattle.run_parts.specs.World.{World, start_world, outcome_of}
use Rattle.run_parts.specs.Laws.{Begins, OutcomeShows}
use Rattle.run_parts.proofs.Runs.{begins_self}
use Rattle.micro_ir.specs.declared.flow.Block.{Block}
use Rattle.micro_ir.specs.declared.flow.Flow.{Flow}
use Rattle.micro_ir.specs.Run.{Arrive, walk, flow_run}
use Rattle.micro_ir.specs.Run as flow
use Rattle.micro_ir.specs.Laws.{ArriveShows}
use Rattle.micro_ir.proofs.More.{one_end, goes_before, calls_later}
use Rattle.guarded.specs.declared.tree.Tree.{Tree}
use Rattle.guarded.specs.Run.{tree_does}
use Rattle.flow_passes.specs.Along.{NeverStuck, GoesAlong}
use Rattle.regions.specs.Follows.{Follows}
use Rattle.regions.proofs.Core.{core, start_bare}
use Rattle.regions.proofs.Entries.{entries, one_more_head, heads_at_most}
use Rattle.regions.proofs.Tracks.{Place, Clear, Sound, Kept, Tracks}
use Rattle.flow_passes.proofs.Ended.{ended}

-- no place
abbrev pub None_such : ℕ → World → Type 0
None_such n s = ⊥

-- the place where a tree starts
abbrev pub Starts : ℕ → World → Place
Starts n s d n' s' = (d ≡ 0) × (n' ≡ n) × (s' ≡ s)

-- the calls of an end that has come
shows_calls : (c : List Call) (o : Outcome) → IsEnded o → OutcomeShows c o → Begins c (calls_of o)
shows_calls c (outcome.Returned r m cs) h s = s
shows_calls c (outcome.Faulted v a m cs) h s = s
shows_calls c (outcome.Asking cs) h s = s
shows_calls c (outcome.Going cs) h s = absurd h
shows_calls c outcome.Strayed h s = absurd h
shows_calls c outcome.Undecoded h s = absurd h
shows_calls c outcome.Stuck h s = absurd h

module _ (blocks : List Block) (head : ℕ → Bool) (run : ℕ → Run World Outcome) (n : ℕ) (s : World) (bare : core s ≡ s)
    (kept : (m : ℕ) → Kept blocks head (Clear None_such) (Clear None_such) 0 n s m (run m)) where
  abbrev Nothing_else : ℕ → Run World Outcome → Type 0
  Nothing_else m r = Kept blocks head (Clear None_such) (Clear None_such) 0 n s m r

  abbrev flow_at : ℕ → Outcome
  flow_at k = flow.outcome_of (walk blocks k n s)

  abbrev tree_at : ℕ → Outcome
  tree_at m = outcome_of (run m)

  -- a walk from the bare world
  here : (k : ℕ) (a : Arrive) → walk blocks k n (core s) ≡ a → walk blocks k n s ≡ a
  here k a e = ap (λ u. walk blocks k n u) (sym bare) ∙ e

  -- where the flow has ended within k blocks the tree has ended in as many turns as there are heads among them
  ends_case : (k : ℕ) (o : Outcome) → walk blocks k n s ≡ End o → (r : Run World Outcome) → Nothing_else (entries blocks head k n s) r → outcome_of r ≡ o
  ends_case k o g (Ends (Past t) f) w = absurd w.holds.1
  ends_case k o g (Ends (Broke t) f) w = absurd w.holds.1
  ends_case k o g (Ends (Over p) f) w = one_end blocks w.0 k n s p o (here w.0 (End p) w.1) g
  ends_case k o g (Ends Stuck f) w = absurd w
  ends_case k o g (Goes t) w =
      let p : walk blocks w.steps n s ≡ To w.node (core t) = here w.steps (To w.node (core t)) w.path in
      let lt = goes_before blocks w.steps k n w.node s (core t) o p g in
      let more = one_more_head blocks head w.steps k n s w.node (core t) p w.holds.1 lt in
      let paid : entries blocks head k n s + 0 ≤ entries blocks head w.steps n s + w.debt + 0 = rw bare at w.paid in
      absurd (let z : ⊥ = omega (arith, more, paid, w.holds.0) in z)

  ends : (k : ℕ) (a : Arrive) → walk blocks k n s ≡ a → IsEnded (flow.outcome_of a) → (m : ℕ) × (tree_at m ≡ flow.outcome_of a)
  ends k (To m t) e h = absurd h
  ends k (End o) e h = (entries blocks head k n s, ends_case k o e (run (entries blocks head k n s)) (kept (entries blocks head k n s)))
  ends k Nowhere e h = absurd h

  ends_only : (m : ℕ) (r : Run World Outcome) → Nothing_else m r → IsEnded (outcome_of r) → (k : ℕ) × (flow_at k ≡ outcome_of r)
  ends_only m (Ends (Past t) f) w h = absurd w.holds.1
  ends_only m (Ends (Broke t) f) w h = absurd w.holds.1
  ends_only m (Ends (Over o) f) w h = (w.0, ap flow.outcome_of (here w.0 (End o) w.1))
  ends_only m (Ends Stuck f) w h = absurd w
  ends_only m (Goes t) w h = absurd h

  calls_case : (k m : ℕ) (t : World) → walk blocks k n s ≡ To m t → (r : Run World Outcome) → Nothing_else k r → Begins t.calls (calls_of (outcome_of r))
  calls_case k m t g (Ends (Past u) f) w = absurd w.holds.1
  calls_case k m t g (Ends (Broke u) f) w = absurd w.holds.1
  calls_case k m t g (Ends (Over o) f) w =
      let p : walk blocks w.0 n s ≡ End o = here w.0 (End o) w.1 in
      let lt = goes_before blocks k w.0 n m s t o g p in
      let eq : k + (w.0 - k) ≡ w.0 = omega (arith, lt) in
      let at : walk blocks (k + (w.0 - k)) n s ≡ End o = ap (λ i. walk blocks i n s) eq ∙ p in
      shows_calls t.calls o (ended blocks w.0 n s o p) (subst (ArriveShows t.calls) at (calls_later blocks k (w.0 - k) n m s t g))
  calls_case k m t g (Ends Stuck f) w = absurd w
  calls_case k m t g (Goes u) w =
      let p : walk blocks w.steps n s ≡ To w.node (core u) = here w.steps (To w.node (core u)) w.path in
      let paid : k + 0 ≤ entries blocks head w.steps n s + w.debt + 0 = rw bare at w.paid in
      let le : k ≤ w.steps = omega (arith, paid, w.holds.0, heads_at_most blocks head w.steps n s) in
      let eq : k + (w.steps - k) ≡ w.steps = omega (arith, le) in
      let at : walk blocks (k + (w.steps - k)) n s ≡ To w.node (core u) = ap (λ i. walk blocks i n s) eq ∙ p in
      subst (ArriveShows t.calls) at (calls_later blocks k (w.steps - k) n m s t g)

  calls : (k : ℕ) (c : List Call) (a : Arrive) → walk blocks k n s ≡ a → flow.outcome_of a ≡ outcome.Going c → (m : ℕ) × Begins c (calls_of (tree_at m))
  calls k c (To m t) e h =
      let same : t.calls ≡ c = cc in
      (k, subst (λ x. Begins x (calls_of (tree_at k))) same (calls_case k m t e (run k) (kept k)))
  calls k c (End o) e h =
      let m = entries blocks head k n s in
      let same : tree_at m ≡ outcome.Going c = ends_case k o e (run m) (kept m) ∙ h in
      (m, subst (λ p. Begins c (calls_of p)) (sym same) (begins_self c))
  calls k c Nowhere e h = absurd (let z : ⊥ = cc in z)

  calls_only : (m : ℕ) (c : List Call) (r : Run World Outcome) → Nothing_else m r → outcome_of r ≡ outcome.Going c → (k : ℕ) × Begins c (calls_of (flow_at k))
  calls_only m c (Ends (Past t) f) w h = absurd w.holds.1
  calls_only m c (Ends (Broke t) f) w h = absurd w.holds.1
  calls_only m c (Ends (Over o) f) w h =
      let same : flow_at w.0 ≡ outcome.Going c = ap flow.outcome_of (here w.0 (End o) w.1) ∙ h in
      (w.0, subst (λ p. Begins c (calls_of p)) (sym same) (begins_self c))
  calls_only m c (Ends Stuck f) w h = absurd w
  calls_only m c (Goes t) w h =
      let same : flow_at w.steps ≡ outcome.Going c = ap flow.outcome_of (here w.steps (To w.node (core t)) w.path) ∙ h in
      (w.steps, subst (λ p. Begins c (calls_of p)) (sym same) (begins_self c))

  never : NeverStuck flow_at → (m : ℕ) (r : Run World Outcome) → Nothing_else m r → outcome_of r ≡ outcome.Stuck → ⊥
  never g m (Ends (Past t) f) w h = absurd w.holds.1
  never g m (Ends (Broke t) f) w h = absurd w.holds.1
  never g m (Ends (Over o) f) w h = g w.0 (ap flow.outcome_of (here w.0 (End o) w.1) ∙ h)
  never g m (Ends Stuck f) w h = absurd w
  never g m (Goes t) w h = let z : ⊥ = cc in z

  pub along : NeverStuck flow_at → GoesAlong flow_at tree_at
  along g = record {
    ends = λ k h. ends k (walk blocks k n s) refl h;
    ends_only = λ m h. ends_only m (run m) (kept m) h;
    calls = λ k c h. calls k c (walk blocks k n s) refl h;
    calls_only = λ m c h. calls_only m c (run m) (kept m) h;
    never_stuck = λ m h. never g m (run m) (kept m) h;
  }

-- a tree that goes along a flow from its entry, in each world, to no other place follows it
pub follows : (f : Flow) (head : ℕ → Bool) (t : Tree)
    → ((s : World) → Tracks f.blocks head (Starts f.entry s) (tree_does t) (Clear None_such) (Clear None_such)) → Follows f t
follows f head t h = record {
  from = λ start answers g.
      let s = start_world start answers in
      let sound : Sound f.blocks head f.entry (core s) = λ k e. g k (ap (λ u. flow.outcome_of (walk f.blocks k f.entry u)) (sym (start_bare start answers)) ∙ ap flow.outcome_of e) in
      along f.blocks head (λ m. tree_does t m s) f.entry s (start_bare start answers) (λ m. (h s).by 0 f.entry s m (refl, refl, refl) sound) g;
}
