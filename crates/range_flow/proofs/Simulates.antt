-- A flow that keeps up with a machine agrees with it.
use Rattle.std.proofs.Common.{◌≡◌, ◌⊎◌, inl, inr, ℕ, zero, suc, ◌+◌, ◌-◌, ◌<◌, ◌≤◌, List, refl, sym, ap, ◌∙◌, subst, arith, ⊎_elim}
use Rattle.std.proofs.lemmas.Bool.{cases_lt}
use Rattle.dream_words.specs.declared.outcome.Call.{Call}
use Rattle.dream_words.specs.declared.outcome.Outcome.{Outcome}
use Rattle.dream_words.specs.declared.outcome.Outcome.TheVariants as outcome
use Rattle.dream_words.specs.Same.{Same, IsEnded, IsGoing, calls_of, AreFront}
use Rattle.dream_words.specs.Agreement.{Agreeing}
use Rattle.dream_words.proofs.Outcomes.{Same_refl, AreFront_refl, AreFront-append}
use Rattle.run_parts.specs.Laws.{Begins, OutcomeShows}
use Rattle.run_parts.specs.Steps.{To, End, Nowhere}
use Rattle.run_parts.specs.World.{World}
use Rattle.run_parts.proofs.Runs.{begins_self}
use Rattle.x86_model.specs.Machine.{Onward, At, Finished, Strays, Blank, State, Ending, Returned, Faulted, Asking, ending_outcome}
use Rattle.machine.specs.Steps.{go_on, steps}
use Rattle.machine.specs.Run.{outcome_of as machine_outcome}
use Rattle.machine.proofs.Staying.{more_steps}
use Rattle.micro_ir.specs.declared.flow.Block.{Block}
use Rattle.micro_ir.specs.Run.{Arrive, onward, walk, outcome_of as flow_outcome}
use Rattle.micro_ir.specs.Laws.{ArriveShows}
use Rattle.micro_ir.proofs.Adds.{walk_adds}
use Rattle.micro_ir.proofs.More.{more_blocks, more_from}

-- ---- outcomes

pub ending_ends : (e : Ending) → IsEnded (ending_outcome e)
ending_ends (Returned r m calls) = tt
ending_ends (Faulted v at m calls) = tt
ending_ends (Asking calls) = tt

front_of : (cs ds : List Call) → Begins cs ds → AreFront cs ds
front_of cs ds h = subst (λ l. AreFront cs l) (sym h.1) (AreFront-append cs h.0)

shows_itself : (o : Outcome) → OutcomeShows (calls_of o) o
shows_itself (outcome.Returned r m calls) = begins_self calls
shows_itself (outcome.Faulted v at m calls) = begins_self calls
shows_itself (outcome.Asking calls) = begins_self calls
shows_itself (outcome.Going calls) = begins_self calls
shows_itself outcome.Strayed = tt
shows_itself outcome.Undecoded = tt
shows_itself outcome.Stuck = tt

ending_shows : (cs : List Call) (e : Ending) → OutcomeShows cs (ending_outcome e) → AreFront cs (calls_of (ending_outcome e))
ending_shows cs (Returned r m calls) h = front_of cs calls h
ending_shows cs (Faulted v at m calls) h = front_of cs calls h
ending_shows cs (Asking calls) h = front_of cs calls h

module _ (step : ℕ → State → Onward State Ending) (blocks : List Block) (Known : ℕ → Type 0) (node_at : ℕ → ℕ) (Rel : State → World → Type 0) where
  -- what the machine comes to, the flow comes to; a stray frees the flow
  abbrev pub Meets : Onward State Ending → Arrive → Type 0
  Meets (At a m) (To n w) = Known a × (n ≡ node_at a) × Rel m w
  Meets (At a m) (End o) = ⊥
  Meets (At a m) Nowhere = ⊥
  Meets (Finished e) (To n w) = ⊥
  Meets (Finished e) (End o) = ending_outcome e ≡ o
  Meets (Finished e) Nowhere = ⊥
  Meets Strays r = Unit {0}
  Meets Blank r = ⊥

  -- From an address that has a piece, so many steps of the machine are so many blocks of the flow. Before the last of
  -- these steps the run goes on, without calls.
  pub record Stretch (a : ℕ) (m : State) (w : World) : Type 0 where
    pub moves : ℕ
    pub count : ℕ
    pub some_move : 1 ≤ moves
    pub some_block : 1 ≤ count
    pub meets : Meets (steps State Ending step moves a m) (walk blocks count (node_at a) w)
    pub between : (i : ℕ) → i < moves → (b : ℕ) × (u : State) × (steps State Ending step i a m ≡ At b u) × (u.calls ≡ m.calls)

  -- after s stretches the machine has made as many steps at least, and the flow has entered as many blocks
  record Reaches (s a : ℕ) (m : State) (w : World) : Type 0 where
    pub moves : ℕ
    pub count : ℕ
    pub far : s ≤ moves
    pub enough : s ≤ count
    pub meets : Meets (steps State Ending step moves a m) (walk blocks count (node_at a) w)

  -- the steps and the blocks that come after
  steps_on : (j k a : ℕ) (m : State) (r : Onward State Ending) → steps State Ending step j a m ≡ r → steps State Ending step (j + k) a m ≡ go_on r (steps State Ending step k)
  steps_on j k a m r e = more_steps State Ending step j k a m ∙ ap (λ q. go_on q (steps State Ending step k)) e

  reaches_by : (s a : ℕ) (m : State) (w : World) (moves count : ℕ) (r : Onward State Ending) (x : Arrive) → s ≤ moves → s ≤ count → steps State Ending step moves a m ≡ r → walk blocks count (node_at a) w ≡ x → Meets r x → Reaches s a m w
  reaches_by s a m w moves count r x far enough e f h = record {
    moves = moves;
    count = count;
    far = far;
    enough = enough;
    meets = subst (λ q. Meets q (walk blocks count (node_at a) w)) (sym e) (subst (λ y. Meets r y) (sym f) h);
  }

  after_stretch : (s : ℕ) → ((a : ℕ) (m : State) (w : World) → Known a → Rel m w → Reaches s a m w) → (a : ℕ) (m : State) (w : World) (j k : ℕ) → 1 ≤ j → 1 ≤ k → (r : Onward State Ending) (x : Arrive) → steps State Ending step j a m ≡ r → walk blocks k (node_at a) w ≡ x → Meets r x → Reaches (suc s) a m w
  after_stretch s h a m w j k gj gk (At b n) (To p u) e f met =
      let rest = h b n u met.0 met.2 in
      reaches_by (suc s) a m w (j + rest.moves) (k + rest.count) (steps State Ending step rest.moves b n) (walk blocks rest.count (node_at b) u) (omega (arith, gj, rest.far)) (omega (arith, gk, rest.enough))
      (steps_on j rest.moves a m (At b n) e)
      (more_from blocks k rest.count (node_at a) w (To p u) f ∙ ap (λ q. walk blocks rest.count q u) met.1)
      rest.meets
  after_stretch s h a m w j k gj gk (At b n) (End o) e f met = absurd met
  after_stretch s h a m w j k gj gk (At b n) Nowhere e f met = absurd met
  after_stretch s h a m w j k gj gk (Finished d) (To p u) e f met = absurd met
  after_stretch s h a m w j k gj gk (Finished d) (End o) e f met =
      reaches_by (suc s) a m w (j + s) (k + s) (Finished d) (End o) (omega (arith, gj)) (omega (arith, gk))
      (steps_on j s a m (Finished d) e)
      (more_from blocks k s (node_at a) w (End o) f)
      met
  after_stretch s h a m w j k gj gk (Finished d) Nowhere e f met = absurd met
  after_stretch s h a m w j k gj gk Strays x e f met =
      reaches_by (suc s) a m w (j + s) (suc s) Strays (walk blocks (suc s) (node_at a) w) (omega (arith, gj)) (omega arith) (steps_on j s a m Strays e) refl tt
  after_stretch s h a m w j k gj gk Blank x e f met = absurd met

  module _ (keeps : (a : ℕ) (m : State) (w : World) → Known a → Rel m w → Stretch a m w) where
    reach : (s a : ℕ) (m : State) (w : World) → Known a → Rel m w → Reaches s a m w
    reach zero a m w known st = record { moves = 0; count = 0; far = omega arith; enough = omega arith; meets = (known, refl, st) }
    reach (suc s) a m w known st =
        let t = keeps a m w known st in
        after_stretch s (reach s) a m w t.moves t.count t.some_move t.some_block (steps State Ending step t.moves a m) (walk blocks t.count (node_at a) w) refl refl t.meets

    module _ (same_calls : (m : State) (w : World) → Rel m w → m.calls ≡ w.calls) where
      -- ---- the machine's run, seen from the flow's

      -- calls of a run that goes on are the flow's; and an address without an instruction is never come to
      abbrev Told : Onward State Ending → Arrive → Type 0
      Told (At b u) x = AreFront u.calls (calls_of (flow_outcome x))
      Told (Finished e) x = Unit {0}
      Told Strays x = Unit {0}
      Told Blank x = ⊥

      abbrev Seen : ℕ → ℕ → State → World → Type 0
      Seen n a m w = (k : ℕ) × Told (steps State Ending step n a m) (walk blocks k (node_at a) w)

      seen_by : (n a : ℕ) (m : State) (w : World) (k : ℕ) (r : Onward State Ending) (x : Arrive) → steps State Ending step n a m ≡ r → walk blocks k (node_at a) w ≡ x → Told r x → Seen n a m w
      seen_by n a m w k r x e f h = (k, subst (λ q. Told q (walk blocks k (node_at a) w)) (sym e) (subst (λ y. Told r y) (sym f) h))

      seen_after : (n i : ℕ) → ((a : ℕ) (m : State) (w : World) → Known a → Rel m w → Seen i a m w) → (a : ℕ) (m : State) (w : World) (j k : ℕ) → n ≡ j + i → (r : Onward State Ending) (x : Arrive) → steps State Ending step j a m ≡ r → walk blocks k (node_at a) w ≡ x → Meets r x → Seen n a m w
      seen_after n i h a m w j k eq (At b u) (To p v) e f met =
          let rest = h b u v met.0 met.2 in
          seen_by n a m w (k + rest.0) (steps State Ending step i b u) (walk blocks rest.0 (node_at b) v)
          (ap (λ q. steps State Ending step q a m) eq ∙ steps_on j i a m (At b u) e)
          (more_from blocks k rest.0 (node_at a) w (To p v) f ∙ ap (λ q. walk blocks rest.0 q v) met.1)
          rest.1
      seen_after n i h a m w j k eq (At b u) (End o) e f met = absurd met
      seen_after n i h a m w j k eq (At b u) Nowhere e f met = absurd met
      seen_after n i h a m w j k eq (Finished d) x e f met =
          seen_by n a m w 0 (Finished d) (To (node_at a) w) (ap (λ q. steps State Ending step q a m) eq ∙ steps_on j i a m (Finished d) e) refl tt
      seen_after n i h a m w j k eq Strays x e f met =
          seen_by n a m w 0 Strays (To (node_at a) w) (ap (λ q. steps State Ending step q a m) eq ∙ steps_on j i a m Strays e) refl tt
      seen_after n i h a m w j k eq Blank x e f met = absurd met

      -- by a bound g on the steps
      seen : (g n a : ℕ) (m : State) (w : World) → n < g → Known a → Rel m w → Seen n a m w
      seen zero n a m w lt known st = absurd (let z : ⊥ = omega (arith, lt) in z)
      seen (suc g) n a m w lt known st =
          let t = keeps a m w known st in
          ⊎_elim
          (λ before.
          let mid = t.between n before in
          let front : AreFront mid.1.calls w.calls = subst (λ cs. AreFront cs w.calls) (sym (same_calls m w st) ∙ sym mid.3) (AreFront_refl w.calls) in
          seen_by n a m w 0 (At mid.0 mid.1) (To (node_at a) w) mid.2 refl front)
          (λ le.
          let eq : n ≡ t.moves + (n - t.moves) = omega (arith, le) in
          let less : n - t.moves < g = omega (arith, le, lt, t.some_move) in
          seen_after n (n - t.moves) (λ a m w known st. seen g (n - t.moves) a m w less known st) a m w t.moves t.count eq (steps State Ending step t.moves a m) (walk blocks t.count (node_at a) w) refl refl t.meets)
          (cases_lt n t.moves)

      -- ---- ends

      ends_case : (r : Onward State Ending) (i : ℕ) (x : Arrive) → Meets (go_on r (steps State Ending step i)) x → IsEnded (machine_outcome r) → Same (machine_outcome r) (flow_outcome x)
      ends_case (At a m) i x met h = absurd h
      ends_case (Finished e) i (To n w) met h = absurd met
      ends_case (Finished e) i (End o) met h = subst (λ y. Same (ending_outcome e) y) met (Same_refl (ending_outcome e))
      ends_case (Finished e) i Nowhere met h = absurd met
      ends_case Strays i x met h = absurd h
      ends_case Blank i x met h = absurd h

      ended_case : (r : Onward State Ending) (o : Outcome) → Meets r (End o) → Same (machine_outcome r) o ⊎ (machine_outcome r ≡ outcome.Strayed)
      ended_case (At a m) o met = absurd met
      ended_case (Finished e) o met = inl (subst (λ y. Same (ending_outcome e) y) met (Same_refl (ending_outcome e)))
      ended_case Strays o met = inr refl
      ended_case Blank o met = absurd met

      ends_only_case : (r : Onward State Ending) (x : Arrive) (i : ℕ) → Meets r (onward x (walk blocks i)) → IsEnded (flow_outcome x) → Same (machine_outcome r) (flow_outcome x) ⊎ (machine_outcome r ≡ outcome.Strayed)
      ends_only_case r (To n w) i met h = absurd h
      ends_only_case r (End o) i met h = ended_case r o met
      ends_only_case r Nowhere i met h = absurd h

      -- ---- calls

      going_case : (r : Onward State Ending) (x : Arrive) → Told r x → IsGoing (machine_outcome r) → AreFront (calls_of (machine_outcome r)) (calls_of (flow_outcome x))
      going_case (At a m) x t h = t
      going_case (Finished e) x t h = absurd (subst (λ o. IsEnded o) h.1 (ending_ends e))
      going_case Strays x t h = tt
      going_case Blank x t h = absurd t

      -- calls that stand at the front of the flow's stand at the front of the machine's
      front_case : (cs : List Call) (r : Onward State Ending) (x : Arrive) → Meets r x → ArriveShows cs x → AreFront cs (calls_of (machine_outcome r)) ⊎ (machine_outcome r ≡ outcome.Strayed)
      front_case cs (At a m) (To n w) met p = inl (front_of cs m.calls (subst (λ ds. Begins cs ds) (sym (same_calls m w met.2)) p))
      front_case cs (At a m) (End o) met p = absurd met
      front_case cs (At a m) Nowhere met p = absurd met
      front_case cs (Finished e) (To n w) met p = absurd met
      front_case cs (Finished e) (End o) met p = inl (ending_shows cs e (subst (λ y. OutcomeShows cs y) (sym met) p))
      front_case cs (Finished e) Nowhere met p = absurd met
      front_case cs Strays x met p = inr refl
      front_case cs Blank x met p = absurd met

      undecoded_case : (r : Onward State Ending) (x : Arrive) → Told r x → machine_outcome r ≡ outcome.Undecoded → ⊥
      undecoded_case (At b u) x t h = cc
      undecoded_case (Finished e) x t h = subst (λ o. IsEnded o) h (ending_ends e)
      undecoded_case Strays x t h = cc
      undecoded_case Blank x t h = t

      module _ (a : ℕ) (m : State) (w : World) (known : Known a) (st : Rel m w) (unstuck : (k : ℕ) → flow_outcome (walk blocks k (node_at a) w) ≡ outcome.Stuck → ⊥) where
        -- some steps come as far as k blocks at least
        longer : (k : ℕ) → (n : ℕ) × (i : ℕ) × Meets (steps State Ending step n a m) (onward (walk blocks k (node_at a) w) (walk blocks i))
        longer k =
            let r = reach k a m w known st in
            let eq : r.count ≡ k + (r.count - k) = omega (arith, r.enough) in
            (r.moves, r.count - k, subst (λ x. Meets (steps State Ending step r.moves a m) x) (ap (λ j. walk blocks j (node_at a) w) eq ∙ more_blocks blocks k (r.count - k) (node_at a) w) r.meets)

        -- some blocks come as far as n steps at least
        further : (n : ℕ) → (k : ℕ) × (i : ℕ) × Meets (go_on (steps State Ending step n a m) (steps State Ending step i)) (walk blocks k (node_at a) w)
        further n =
            let r = reach n a m w known st in
            let eq : r.moves ≡ n + (r.moves - n) = omega (arith, r.far) in
            (r.count, r.moves - n, subst (λ y. Meets y (walk blocks r.count (node_at a) w)) (ap (λ j. steps State Ending step j a m) eq ∙ more_steps State Ending step n (r.moves - n) a m) r.meets)

        calls_case : (k n : ℕ) (x : Arrive) → walk blocks k (node_at a) w ≡ x → (i : ℕ) → Meets (steps State Ending step n a m) (onward x (walk blocks i))
            → AreFront (calls_of (flow_outcome x)) (calls_of (machine_outcome (steps State Ending step n a m))) ⊎ (machine_outcome (steps State Ending step n a m) ≡ outcome.Strayed)
        calls_case k n (To p u) e i met = front_case u.calls (steps State Ending step n a m) (walk blocks i p u) met (walk_adds blocks i p u)
        calls_case k n (End o) e i met = front_case (calls_of o) (steps State Ending step n a m) (End o) met (shows_itself o)
        calls_case k n Nowhere e i met = absurd (unstuck k (ap flow_outcome e))

        or_strays : (n : ℕ) (P : Outcome → Type 0) → P (machine_outcome (steps State Ending step n a m)) ⊎ (machine_outcome (steps State Ending step n a m) ≡ outcome.Strayed)
            → ((n : ℕ) × P (machine_outcome (steps State Ending step n a m))) ⊎ ((n : ℕ) × (machine_outcome (steps State Ending step n a m) ≡ outcome.Strayed))
        or_strays n P (inl p) = inl (n, p)
        or_strays n P (inr q) = inr (n, q)

        see : (n : ℕ) → Seen n a m w
        see n = seen (suc n) n a m w (omega arith) known st

        pub agreeing : Agreeing (λ n. machine_outcome (steps State Ending step n a m)) (λ k. flow_outcome (walk blocks k (node_at a) w))
        agreeing = record {
          ends_alike = λ n h. let f = further n in (f.0, ends_case (steps State Ending step n a m) f.1 (walk blocks f.0 (node_at a) w) f.2 h);
          ends_only_so = λ k h. let l = longer k in or_strays l.0 (λ o. Same o (flow_outcome (walk blocks k (node_at a) w))) (ends_only_case (steps State Ending step l.0 a m) (walk blocks k (node_at a) w) l.1 l.2 h);
          calls_agree = λ n h. let s = see n in (s.0, going_case (steps State Ending step n a m) (walk blocks s.0 (node_at a) w) s.1 h);
          calls_only_so = λ k. let l = longer k in or_strays l.0 (λ o. AreFront (calls_of (flow_outcome (walk blocks k (node_at a) w))) (calls_of o)) (calls_case k l.0 (walk blocks k (node_at a) w) refl l.1 l.2);
          never_stuck = unstuck;
          never_undecoded = λ n h. let s = see n in undecoded_case (steps State Ending step n a m) (walk blocks s.0 (node_at a) w) s.1 h;
        }
