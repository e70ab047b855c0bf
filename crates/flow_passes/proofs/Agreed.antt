-- What a meaning agrees with, one that goes along with it agrees with. So it is with a flow that keeps the runs of another,
-- or that joins them.
use Rattle.std.proofs.Common.{◌≡◌, ◌⊎◌, inl, inr, ℕ, ◌+◌, ◌-◌, ◌≤◌, List, refl, sym, ◌∙◌, subst, arith}
use Rattle.std.proofs.Math.Path.{fun_ext}
use Rattle.dream_words.specs.declared.outcome.Start.{Start}
use Rattle.dream_words.specs.declared.outcome.Answer.{Answer}
use Rattle.dream_words.specs.declared.outcome.Call.{Call}
use Rattle.dream_words.specs.declared.outcome.Outcome.{Outcome}
use Rattle.dream_words.specs.declared.outcome.Outcome.TheVariants.{Returned, Faulted, Asking, Strayed, Undecoded, Stuck, Going}
use Rattle.dream_words.specs.Same.{Same, IsEnded, calls_of, AreFront}
use Rattle.dream_words.specs.Agreement.{Agreeing, Strays}
use Rattle.dream_words.proofs.Outcomes.{Same-IsEnded, AreFront_refl, AreFront_trans, AreFront-append}
use Rattle.run_parts.specs.Laws.{Begins, OutcomeShows}
use Rattle.run_parts.proofs.Runs.{begins_self}
use Rattle.run_parts.specs.Steps.{To, End, Nowhere}
use Rattle.run_parts.specs.World.{start_world}
use Rattle.c_syntax.specs.RunLaws.{Continues}
use Rattle.micro_ir.specs.declared.flow.Flow.{Flow}
use Rattle.micro_ir.specs.Run.{Arrive, walk, outcome_of, flow_run}
use Rattle.micro_ir.proofs.More.{run_continues}
use Rattle.flow_passes.specs.Along.{NeverStuck, GoesAlong}
use Rattle.flow_passes.specs.Keeps.{InRange, KeepsRuns, JoinsRuns}
use Rattle.flow_passes.specs.Laws.{ChangedAgree}
use Rattle.flow_passes.proofs.Ended.{ended}

front_of : (cs ds : List Call) → Begins cs ds → AreFront cs ds
front_of cs ds b = subst (AreFront cs) (sym b.1) (AreFront-append cs b.0)

-- Each run of one meaning shows its calls in some run of another, where those that have ended and those that go on do. A
-- run that is stuck or strays has no calls to show.
module _ (old new : ℕ → Outcome) (ends : (k : ℕ) → IsEnded (old k) → (m : ℕ) × (new m ≡ old k))
    (going : (k : ℕ) (c : List Call) → old k ≡ Going c → (m : ℕ) × Begins c (calls_of (new m))) where
  ended_shown : (k : ℕ) → IsEnded (old k) → (m : ℕ) × AreFront (calls_of (old k)) (calls_of (new m))
  ended_shown k h =
      let e = ends k h in
      (e.0, subst (λ o. AreFront (calls_of (old k)) (calls_of o)) (sym e.1) (AreFront_refl (calls_of (old k))))

  shown : (k : ℕ) (o : Outcome) → old k ≡ o → (m : ℕ) × AreFront (calls_of (old k)) (calls_of (new m))
  shown k (Going c) e =
      let g = going k c e in
      (g.0, subst (λ o. AreFront (calls_of o) (calls_of (new g.0))) (sym e) (front_of c (calls_of (new g.0)) g.1))
  shown k Strayed e = (0, subst (λ o. AreFront (calls_of o) (calls_of (new 0))) (sym e) tt)
  shown k Undecoded e = (0, subst (λ o. AreFront (calls_of o) (calls_of (new 0))) (sym e) tt)
  shown k Stuck e = (0, subst (λ o. AreFront (calls_of o) (calls_of (new 0))) (sym e) tt)
  shown k (Returned r m c) e = ended_shown k (subst IsEnded (sym e) tt)
  shown k (Faulted v a m c) e = ended_shown k (subst IsEnded (sym e) tt)
  shown k (Asking c) e = ended_shown k (subst IsEnded (sym e) tt)

module _ (machine old new : ℕ → Outcome) (a : Agreeing machine old) (g : GoesAlong old new) where
  ends_back : (m : ℕ) → IsEnded (new m) → ((n : ℕ) × Same (machine n) (new m)) ⊎ Strays machine
  ends_back m h =
      let e = g.ends_only m h in
      let P : Outcome → Type 0 = λ o. ((n : ℕ) × Same (machine n) o) ⊎ Strays machine in
      subst P e.1 (a.ends_only_so e.0 (subst IsEnded (sym e.1) h))

  calls_back : (m k : ℕ) → AreFront (calls_of (new m)) (calls_of (old k)) → ((n : ℕ) × AreFront (calls_of (old k)) (calls_of (machine n))) ⊎ Strays machine
      → ((n : ℕ) × AreFront (calls_of (new m)) (calls_of (machine n))) ⊎ Strays machine
  calls_back m k f (inl (n, h)) = inl (n, AreFront_trans (calls_of (new m)) (calls_of (old k)) (calls_of (machine n)) f h)
  calls_back m k f (inr s) = inr s

  pub agreed : Agreeing machine new
  agreed = record {
    ends_alike = λ n h.
        let e = a.ends_alike n h in
        let f = g.ends e.0 (Same-IsEnded (machine n) (old e.0) e.1 h) in
        (f.0, subst (λ o. Same (machine n) o) (sym f.1) e.1);
    ends_only_so = ends_back;
    calls_agree = λ n h.
        let e = a.calls_agree n h in
        let f = shown old new g.ends g.calls e.0 (old e.0) refl in
        (f.0, AreFront_trans (calls_of (machine n)) (calls_of (old e.0)) (calls_of (new f.0)) e.1 f.1);
    calls_only_so = λ m.
        let f = shown new old g.ends_only g.calls_only m (new m) refl in
        calls_back m f.0 f.1 (a.calls_only_so f.0);
    never_stuck = g.never_stuck;
    never_undecoded = a.never_undecoded;
  }

-- ---- the same runs

kept : (machine : ℕ → Outcome) (f g : Flow) (start : Start) (answers : List Answer) → InRange start answers → KeepsRuns f g → Agreeing machine (flow_run f start answers) → Agreeing machine (flow_run g start answers)
kept machine f g start answers r h a =
    subst (λ run. Agreeing machine run) (sym (fun_ext (λ k. h.runs start answers k r (a.never_stuck k)))) a

-- ---- joined runs

-- a run that has ended is that of more blocks
ended_stays : (o p : Outcome) → Continues o p → IsEnded o → p ≡ o
ended_stays (Returned r m c) p h i = h
ended_stays (Faulted v a m c) p h i = h
ended_stays (Asking c) p h i = h
ended_stays Strayed p h i = absurd i
ended_stays Undecoded p h i = absurd i
ended_stays Stuck p h i = absurd i
ended_stays (Going c) p h i = absurd i

-- what a run of a flow has as its outcome: it has ended, goes on or is stuck
abbrev Shown : Outcome → Type 0
Shown o = IsEnded o ⊎ ((c : List Call) × (o ≡ Going c)) ⊎ (o ≡ Stuck)

arrived : (a : Arrive) → ((o : Outcome) → a ≡ End o → IsEnded o) → Shown (outcome_of a)
arrived (To n w) h = inr (inl (w.calls, refl))
arrived (End o) h = inl (h o refl)
arrived Nowhere h = inr (inr refl)

flow_shown : (f : Flow) (start : Start) (answers : List Answer) (k : ℕ) → Shown (flow_run f start answers k)
flow_shown f start answers k = arrived (walk f.blocks k f.entry (start_world start answers)) (λ o e. ended f.blocks k f.entry (start_world start answers) o e)

-- the calls that such an outcome shows
begun : (c : List Call) (o : Outcome) → OutcomeShows c o → Shown o → (o ≡ Stuck → ⊥) → Begins c (calls_of o)
begun c (Returned r m d) h s n = h
begun c (Faulted v a m d) h s n = h
begun c (Asking d) h s n = h
begun c (Going d) h s n = h
begun c Strayed h (inl s) n = absurd s
begun c Strayed h (inr (inl s)) n = absurd (let e = s.1 in let z : ⊥ = cc in z)
begun c Strayed h (inr (inr s)) n = absurd (let z : ⊥ = cc in z)
begun c Undecoded h (inl s) n = absurd s
begun c Undecoded h (inr (inl s)) n = absurd (let e = s.1 in let z : ⊥ = cc in z)
begun c Undecoded h (inr (inr s)) n = absurd (let z : ⊥ = cc in z)
begun c Stuck h s n = absurd (n refl)

going_stays : (o p : Outcome) (c : List Call) → o ≡ Going c → Continues o p → OutcomeShows c p
going_stays o p c e h = subst (λ q. Continues q p) e h

module _ (f g : Flow) (start : Start) (answers : List Answer) (never : NeverStuck (flow_run f start answers))
    (joins : (k : ℕ) → (m : ℕ) × (k ≤ m) × (flow_run g start answers k ≡ flow_run f start answers m)) where
  later : (k m : ℕ) → k ≤ m → Continues (flow_run f start answers k) (flow_run f start answers m)
  later k m l =
      subst (λ n. Continues (flow_run f start answers k) (flow_run f start answers n)) (let s : k + (m - k) ≡ m = omega (arith, l) in s)
      (run_continues f start answers k (m - k))

  along : GoesAlong (flow_run f start answers) (flow_run g start answers)
  along = record {
    ends = λ k h. let j = joins k in (k, j.2 ∙ ended_stays (flow_run f start answers k) (flow_run f start answers j.0) (later k j.0 j.1) h);
    ends_only = λ m h. let j = joins m in (j.0, sym j.2);
    calls = λ k c e.
        let j = joins k in
        let shows = going_stays (flow_run f start answers k) (flow_run f start answers j.0) c e (later k j.0 j.1) in
        (k, subst (λ o. Begins c (calls_of o)) (sym j.2) (begun c (flow_run f start answers j.0) shows (flow_shown f start answers j.0) (never j.0)));
    calls_only = λ m c e.
        let j = joins m in
        (j.0, subst (λ o. Begins c (calls_of o)) (j.2) (subst (λ o. Begins c (calls_of o)) (sym e) (begins_self c)));
    never_stuck = λ k e. let j = joins k in never j.0 (sym j.2 ∙ e);
  }

joined : (machine : ℕ → Outcome) (f g : Flow) (start : Start) (answers : List Answer) → JoinsRuns f g → Agreeing machine (flow_run f start answers) → Agreeing machine (flow_run g start answers)
joined machine f g start answers h a =
    agreed machine (flow_run f start answers) (flow_run g start answers) a (along f g start answers a.never_stuck (h.runs start answers a.never_stuck))

pub changed_agree : ChangedAgree
changed_agree = record { kept = kept; joined = joined }
