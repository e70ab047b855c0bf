-- A step of the machine that doesn't stray keeps the frozen bytes.
use Rattle.std.proofs.Common.{◌≡◌, inl, inr, ℕ, zero, suc, ◌+◌, ◌%◌, ◌^◌, Bool, true, false, cond, List, [], ◌∷◌, ◌++◌, Option, Some, None, refl, sym, ap, ◌∙◌, subst}
use Rattle.std.specs.Prelude.{IsSome, is_none, ◌&&◌, ◌||◌}
use Rattle.std.proofs.lemmas.Bool.{and_from, cases_eq, both_ways, or_parts}
use Rattle.elf_image.specs.declared.image.Segment.{Segment}
use Rattle.elf_image.specs.Range.{is_inside}
use Rattle.dream_words.specs.declared.outcome.Answer.{Answer}
use Rattle.dream_words.specs.declared.outcome.Call.{Call}
use Rattle.dream_words.specs.Memory.{Mem, byte_at}
use Rattle.x86_inst.specs.declared.Inst.{Inst}
use Rattle.x86_model.specs.declared.effect.Go.{Go}
use Rattle.x86_model.specs.declared.effect.Go.TheVariants as go
use Rattle.x86_model.specs.Machine.{Onward, At, Finished, Strays, Blank, State, Ending, Returned}
use Rattle.x86_model.specs.Leads.{after, allowed, call_of, answered_or, leads, stored, effect_in, instruction_does, refused_read, refused_store}
use Rattle.machine.specs.Steps.{judged, go_on, steps}
use Rattle.machine.specs.Code.{is_broken}
use Rattle.machine.specs.Run.{Scene, answer_breaks, goes_middle, is_allowed, reads_allowed, returns_elsewhere, strays, act, acts, step_at, takes_broken}
use Rattle.x86_model.specs.Undefined.{is_stray, reads_undefined}
use Rattle.machine.specs.Laws.{Breaks, AnswerBreaks, CallsTo}
use Rattle.machine.specs.Laws as laws
use Rattle.machine.proofs.Straying.{broken}
use Rattle.flow_pieces.specs.Covered.{HasFrozen}

kept_frozen : (m : List Segment) (s : ℕ) (old new : Mem) → (Breaks m s old new → ⊥) → HasFrozen m old → HasFrozen m new
kept_frozen m s old new h f a b e = elim (cases_eq (byte_at old a) (byte_at new a)) [
  | inl same ↦ sym same ∙ f a b e
  | inr other ↦ absurd (h (inl (a, subst (λ o. IsSome o) (sym e) refl, other)))
]

module _ (sc : Scene) where
  at_mem : (c d : ℕ) (n u : State) → HasFrozen sc.image n.mem → ◌≡◌ {A = Onward State Ending} (At c n) (At d u) → HasFrozen sc.image u.mem
  at_mem c d n u f e = let same : n ≡ u = cc in subst (λ x. HasFrozen sc.image x.mem) same f

  call_kept : (n u : State) (old : Mem) (next c : ℕ) (calls : List Call) (left : List Answer) → HasFrozen sc.image old → (AnswerBreaks sc left old → ⊥)
      → answered_or left calls (λ x rest. At next (record n { regs = x.regs; flags = x.flags; mem = x.mem; left = rest; calls = calls })) ≡ At c u → HasFrozen sc.image u.mem
  call_kept n u old next c calls [] f b e = absurd (let z : ⊥ = cc in z)
  call_kept n u old next c calls (x ∷ rest) f b e =
      at_mem next c (record n { regs = x.regs; flags = x.flags; mem = x.mem; left = rest; calls = calls }) u (kept_frozen sc.image sc.slot old x.mem b f) e

  leave_never : (u : State) (c : ℕ) (calls : List Call) (left : List Answer) → answered_or left calls (λ x rest. Finished (Returned x.regs x.mem calls)) ≡ At c u → ⊥
  leave_never u c calls [] e = cc
  leave_never u c calls (x ∷ rest) e = cc

  -- where a call takes its answer, that breaks nothing
  abbrev Unbroken : State → Go → Type 0
  Unbroken m g = (a : ℕ) → CallsTo a g → AnswerBreaks sc m.left m.mem → ⊥

  -- n is the state m after the effect's own changes
  leads_kept : (g : Go) (m n u : State) (at next c : ℕ) → n.left ≡ m.left → HasFrozen sc.image m.mem → HasFrozen sc.image n.mem → Unbroken m g → leads g at next n ≡ At c u → HasFrozen sc.image u.mem
  leads_kept go.Next m n u at next c l f g s e = at_mem next c n u g e
  leads_kept go.Again m n u at next c l f g s e = at_mem at c n u g e
  leads_kept (go.To a) m n u at next c l f g s e = at_mem a c n u g e
  leads_kept (go.CallTo a) m n u at next c l f g s e =
      call_kept n u m.mem next c (n.calls ++ call_of a n ∷ []) n.left f (λ b. s a laws.call (subst (λ x. AnswerBreaks sc x m.mem) l b)) e
  leads_kept (go.LeaveTo a) m n u at next c l f g s e = absurd (leave_never u c (n.calls ++ call_of a n ∷ []) n.left e)
  leads_kept go.Return m n u at next c l f g s e = absurd (let z : ⊥ = cc in z)
  leads_kept (go.Fault v) m n u at next c l f g s e = absurd (let z : ⊥ = cc in z)
  leads_kept go.Stray m n u at next c l f g s e = absurd (let z : ⊥ = cc in z)

  unjudged : (t : Bool) (r : Onward State Ending) (c : ℕ) (u : State) → judged t r ≡ At c u → (t ≡ false) × (r ≡ At c u)
  unjudged true r c u e = absurd (let z : ⊥ = cc in z)
  unjudged false r c u e = (refl, e)

  -- a step that leads on is one of which no access is refused
  unrefused : (o : Option ℕ) (m : State) (r : Onward State Ending) (c : ℕ) (u : State) → allowed o m r ≡ At c u → (is_none o ≡ true) × (r ≡ At c u)
  unrefused None m r c u e = (refl, e)
  unrefused (Some bad) m r c u e = absurd (let z : ⊥ = cc in z)

  -- a call that takes an answer that breaks the memory is told by the test
  taken_broken : (m : State) (g : Go) (a : ℕ) → CallsTo a g → AnswerBreaks sc m.left m.mem → takes_broken sc m g ≡ true
  taken_broken m _ a laws.call b = answer_broken m.left b
    where
      answer_broken : (left : List Answer) → AnswerBreaks sc left m.mem → answer_breaks sc left m.mem ≡ true
      answer_broken [] b = absurd b
      answer_broken (x ∷ rest) b = broken sc.image sc.slot m.mem x.mem b
  taken_broken m _ a laws.leave b = answer_broken m.left b
    where
      answer_broken : (left : List Answer) → AnswerBreaks sc left m.mem → answer_breaks sc left m.mem ≡ true
      answer_broken [] b = absurd b
      answer_broken (x ∷ rest) b = broken sc.image sc.slot m.mem x.mem b

  acts_kept : (i : Inst) (at next c : ℕ) (m u : State) → HasFrozen sc.image m.mem → acts sc i at next m ≡ At c u → HasFrozen sc.image u.mem
  acts_kept i at next c m u f e =
      let x = effect_in i next m in
      let j = unjudged (strays sc i m x) (instruction_does i at next m) c u e in
      let reads = unrefused (refused_read i m) m (allowed (refused_store x m) m (leads x.go at next (after x m))) c u j.1 in
      let store = unrefused (refused_store x m) m (leads x.go at next (after x m)) c u reads.1 in
      let all : is_allowed i m x ≡ true = and_from (is_none (refused_read i m)) (is_none (refused_store x m)) reads.0 store.0 in
      let breaks : Bool = is_broken sc.image sc.slot m.mem (stored m.mem x.store) in
      let first = or_parts (is_allowed i m x && (breaks || takes_broken sc m x.go))
      (returns_elsewhere sc m x.go || (reads_undefined i m.flags || (reads_allowed i m && (is_stray x.go || goes_middle sc i x.go)))) j.0 in
      let kept_both : (breaks || takes_broken sc m x.go) ≡ false = ap (λ t. t && (breaks || takes_broken sc m x.go)) (sym all) ∙ first.0 in
      let both = or_parts breaks (takes_broken sc m x.go) kept_both in
      let kept : HasFrozen sc.image (stored m.mem x.store) =
      kept_frozen sc.image sc.slot m.mem (stored m.mem x.store) (λ b. both_ways breaks both.0 (broken sc.image sc.slot m.mem (stored m.mem x.store) b)) f in
      leads_kept x.go m (after x m) u at next c refl f kept (λ a g b. both_ways (takes_broken sc m x.go) both.1 (taken_broken m x.go a g b)) store.1

  act_kept : (o : Option (Inst × ℕ)) (at c : ℕ) (m u : State) → HasFrozen sc.image m.mem → act sc at m o ≡ At c u → HasFrozen sc.image u.mem
  act_kept None at c m u f e = absurd (let z : ⊥ = cc in z)
  act_kept (Some d) at c m u f e = acts_kept d.0 at ((at + d.1) % 2 ^ 32) c m u f e

  step_kept_by : (t : Bool) (at c : ℕ) (m u : State) → HasFrozen sc.image m.mem → cond t (act sc at m (sc.decoded at)) (judged (answer_breaks sc m.left m.mem) (leads (go.LeaveTo at) at at m)) ≡ At c u → HasFrozen sc.image u.mem
  step_kept_by true at c m u f e = act_kept (sc.decoded at) at c m u f e
  step_kept_by false at c m u f e =
      let j = unjudged (answer_breaks sc m.left m.mem) (leads (go.LeaveTo at) at at m) c u e in
      absurd (leave_never u c (m.calls ++ call_of at m ∷ []) m.left j.1)

  step_kept : (at c : ℕ) (m u : State) → HasFrozen sc.image m.mem → step_at sc at m ≡ At c u → HasFrozen sc.image u.mem
  step_kept at c m u f e = step_kept_by (is_inside sc.range at) at c m u f e

  on_kept : (k : ℕ) → ((at c : ℕ) (m u : State) → HasFrozen sc.image m.mem → steps State Ending (step_at sc) k at m ≡ At c u → HasFrozen sc.image u.mem)
      → (r : Onward State Ending) (c : ℕ) (u : State) → ((b : ℕ) (v : State) → r ≡ At b v → HasFrozen sc.image v.mem) → go_on r (steps State Ending (step_at sc) k) ≡ At c u → HasFrozen sc.image u.mem
  on_kept k h (At b v) c u f e = h b c v u (f b v refl) e
  on_kept k h (Finished d) c u f e = absurd (let z : ⊥ = cc in z)
  on_kept k h Strays c u f e = absurd (let z : ⊥ = cc in z)
  on_kept k h Blank c u f e = absurd (let z : ⊥ = cc in z)

  -- so do any number of steps
  pub steps_kept : (k at c : ℕ) (m u : State) → HasFrozen sc.image m.mem → steps State Ending (step_at sc) k at m ≡ At c u → HasFrozen sc.image u.mem
  steps_kept zero at c m u f e = at_mem at c m u f e
  steps_kept (suc k) at c m u f e = on_kept k (λ b d v t. steps_kept k b d v t) (step_at sc at m) c u (λ b v g. step_kept at b m v f g) e
