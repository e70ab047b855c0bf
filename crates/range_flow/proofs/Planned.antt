-- The flow of a plan keeps up with the machine, and is never stuck.
use Rattle.std.proofs.Common.{◌≡◌, ℕ, zero, suc, ◌+◌, ◌-◌, ◌<◌, ◌≤◌, true, cond, nat_eq, List, [], ◌∷◌, length, Some, refl, sym, ap, ◌∙◌, subst, arith, ⊎_elim}
use Rattle.std.specs.Prelude.{slice_get}
use Rattle.std.proofs.lemmas.Bool.{cases_lt}
use Rattle.std.proofs.lemmas.List.Elements.{All-contains}
use Rattle.elf_image.specs.declared.image.Segment.{Segment}
use Rattle.dream_words.specs.declared.outcome.Start.{Start}
use Rattle.dream_words.specs.declared.outcome.Answer.{Answer}
use Rattle.dream_words.specs.declared.outcome.Outcome.TheVariants as outcome
use Rattle.dream_words.specs.declared.machine.Bit.{Bit}
use Rattle.dream_words.specs.declared.machine.Bit.TheVariants.{Zero, One, Undefined}
use Rattle.dream_words.specs.Registers.{word_of_bit}
use Rattle.dream_words.specs.Same.{IsEnded}
use Rattle.dream_words.specs.Agreement.{Agreeing}
use Rattle.dream_words.specs.Ranges.{AreAnswers}
use Rattle.x86_model.specs.Machine.{Onward, At, Finished, Strays, Blank, State, Ending}
use Rattle.machine.specs.Steps.{steps}
use Rattle.machine.specs.Run.{Scene, scene_of, step_at, start_state, machine_run, IsStart, outcome_of as machine_outcome}
use Rattle.run_parts.specs.Steps.{To, End, Nowhere}
use Rattle.run_parts.specs.World.{World, start_world}
use Rattle.micro_ir.specs.Run.{Arrive, enter, onward, walk, outcome_of}
use Rattle.micro_ir.specs.Laws.{relocate}
use Rattle.micro_ir.specs.World.{IsWorld}
use Rattle.micro_ir.proofs.Worlds.{start_is}
use Rattle.lift_parts.specs.Stands.{StandsFor}
use Rattle.lift_parts.specs.Lifted.{through, Matches, Stays}
use Rattle.flow_pieces.specs.declared.piece.FlowPiece.{FlowPiece}
use Rattle.range_flow.specs.Pieces.{addresses_of, first_node, flow_node, flow_blocks}
use Rattle.flow_pieces.specs.Covered.{HasFrozen, Follows, IsCovered}
use Rattle.range_flow.specs.Plan.{IsPlan}
use Rattle.range_flow.specs.Laws.{PlannedFlowsAgree}
use Rattle.range_flow.proofs.Ends.{EndsWell, walk_well}
use Rattle.range_flow.proofs.Frozen.{steps_kept}
use Rattle.range_flow.proofs.Members.{below_true, below_false, itself, contains_got, get_below}
use Rattle.range_flow.proofs.Numbering.{piece_at, piece_found, piece_member, entered, own_node, next_node}
use Rattle.range_flow.proofs.Simulates as sim

module _ (sc : Scene) (ps : List FlowPiece) (plan : IsPlan sc ps) where
  abbrev Known : ℕ → Type 0
  Known a = (p : FlowPiece) × (piece_at ps a ≡ Some p)

  abbrev Meets : Onward State Ending → Arrive → Type 0
  Meets = sim.Meets (step_at sc) (flow_blocks ps) Known (first_node ps) (Follows sc.image)

  covered_at : (a : ℕ) (p : FlowPiece) → piece_at ps a ≡ Some p → IsCovered sc p
  covered_at a p e = All-contains (IsCovered sc) ps p plan.covered (piece_member ps a p e).0

  next_known : (a : ℕ) (p : FlowPiece) (j b : ℕ) → piece_at ps a ≡ Some p → slice_get p.successors j ≡ Some b → Known b
  next_known a p j b e g = piece_found ps b (plan.closed p b (piece_member ps a p e).0 (contains_got p.successors j b g))

  -- the machine's memory has the frozen bytes wherever it comes to
  abbrev Kept : Onward State Ending → Type 0
  Kept r = (b : ℕ) (u : State) → r ≡ At b u → HasFrozen sc.image u.mem

  meets_of : (a : ℕ) (p : FlowPiece) → piece_at ps a ≡ Some p → (r : Onward State Ending) (x : Arrive) → Kept r → Matches (length p.blocks) p.successors r x → Stays (length p.blocks + length p.successors) x
      → Meets r (relocate (flow_node ps (first_node ps a) p) x)
  meets_of a p e (At b m) (To n w) f h s =
      (next_known a p h.0 b e h.2, next_node ps (first_node ps a) p n h.0 b h.1 h.2, record { world = s.1; frozen_bytes = f b m refl; stands = h.3 })
  meets_of a p e (At b m) (End o) f h s = absurd h
  meets_of a p e (At b m) Nowhere f h s = absurd h
  meets_of a p e (Finished d) (To n w) f h s = absurd h
  meets_of a p e (Finished d) (End o) f h s = h
  meets_of a p e (Finished d) Nowhere f h s = absurd h
  meets_of a p e Strays x f h s = tt
  meets_of a p e Blank x f h s = absurd h

  -- one block of the flow, and two
  one_block : (n : ℕ) (w : World) (x : Arrive) → enter (slice_get (flow_blocks ps) n) w ≡ x → walk (flow_blocks ps) 1 n w ≡ x
  one_block n w (To k u) e = ap (λ y. onward y (walk (flow_blocks ps) 0)) e
  one_block n w (End o) e = ap (λ y. onward y (walk (flow_blocks ps) 0)) e
  one_block n w Nowhere e = ap (λ y. onward y (walk (flow_blocks ps) 0)) e

  two_blocks : (n : ℕ) (w : World) (k : ℕ) (u : World) → enter (slice_get (flow_blocks ps) n) w ≡ To k u → (x : Arrive) → enter (slice_get (flow_blocks ps) k) u ≡ x → walk (flow_blocks ps) 2 n w ≡ x
  two_blocks n w k u e x f = ap (λ y. onward y (walk (flow_blocks ps) 1)) e ∙ one_block k u x f

  first_entered : (a : ℕ) (p : FlowPiece) (w : World) → piece_at ps a ≡ Some p → enter (slice_get (flow_blocks ps) (first_node ps a)) w ≡ relocate (flow_node ps (first_node ps a) p) (enter (slice_get p.blocks 0) w)
  first_entered a p w e =
      let n : first_node ps a ≡ first_node ps a + 0 = omega arith in
      ap (λ k. enter (slice_get (flow_blocks ps) k) w) n ∙ entered ps a 0 p w e (covered_at a p e).begins

  -- ---- the steps of a piece are one or two blocks of the flow

  abbrev Comes : ℕ → World → Onward State Ending → Type 0
  Comes a w r = (k : ℕ) × (1 ≤ k) × Meets r (walk (flow_blocks ps) k (first_node ps a) w)

  comes_by : (a k : ℕ) (w : World) (r : Onward State Ending) (x : Arrive) → 1 ≤ k → walk (flow_blocks ps) k (first_node ps a) w ≡ x → Meets r x → Comes a w r
  comes_by a k w r x le e h = (k, le, subst (λ y. Meets r y) (sym e) h)

  step_comes : (a : ℕ) (p : FlowPiece) → piece_at ps a ≡ Some p → (r : Onward State Ending) (w : World) (x : Arrive) → IsWorld w → enter (slice_get p.blocks 0) w ≡ x → Kept r
      → Matches (length p.blocks) p.successors r (through (length p.blocks) p.blocks x) → Stays (length p.blocks + length p.successors) x → Comes a w r
  step_comes a p e r w (To n u) iw g f h s =
      let c = covered_at a p e in
      let q = flow_node ps (first_node ps a) p in
      let first = first_entered a p w e ∙ ap (relocate q) g in
      ⊎_elim
      (λ lt.
      let path : enter (slice_get (flow_blocks ps) (first_node ps a)) w ≡ To (first_node ps a + n) u = first ∙ ap (λ k. To k u) (own_node ps (first_node ps a) n p lt) in
      let second = entered ps a n p u e lt in
      let met = subst (λ b. Matches (length p.blocks) p.successors r (cond b (enter (slice_get p.blocks n) u) (To n u))) (below_true n (length p.blocks) lt) h in
      comes_by a 2 w r (relocate q (enter (slice_get p.blocks n) u)) (omega arith) (two_blocks (first_node ps a) w (first_node ps a + n) u path (relocate q (enter (slice_get p.blocks n) u)) second)
      (meets_of a p e r (enter (slice_get p.blocks n) u) f met (c.steady n u lt s.1 (c.onward 0 n w u c.begins iw (c.ready_first w) g lt))))
      (λ le.
      let met = subst (λ b. Matches (length p.blocks) p.successors r (cond b (enter (slice_get p.blocks n) u) (To n u))) (below_false n (length p.blocks) le) h in
      comes_by a 1 w r (To (q n) u) (omega arith) (one_block (first_node ps a) w (To (q n) u) first) (meets_of a p e r (To n u) f met s))
      (cases_lt n (length p.blocks))
  step_comes a p e r w (End o) iw g f h s =
      let first = first_entered a p w e ∙ ap (relocate (flow_node ps (first_node ps a) p)) g in
      comes_by a 1 w r (End o) (omega arith) (one_block (first_node ps a) w (End o) first) (meets_of a p e r (End o) f h tt)
  step_comes a p e r w Nowhere iw g f h s = absurd s

  -- what is said of a piece's own address, of the address where it is found
  keeps_at : (a : ℕ) (p : FlowPiece) → piece_at ps a ≡ Some p → p.at ≡ a → (m : State) (w : World) → Follows sc.image m w
      → sim.Stretch (step_at sc) (flow_blocks ps) Known (first_node ps) (Follows sc.image) a m w
  keeps_at a p e same m w st =
      let c = covered_at a p e in
      let effect = subst (λ b. Matches (length p.blocks) p.successors (steps State Ending (step_at sc) (c.moves m) b m) (through (length p.blocks) p.blocks (enter (slice_get p.blocks 0) w))) same (c.effect m w st) in
      let k = step_comes a p e (steps State Ending (step_at sc) (c.moves m) a m) w (enter (slice_get p.blocks 0) w) st.world refl
      (λ b u g. steps_kept sc (c.moves m) a b m u st.frozen_bytes g) effect (c.steady 0 w c.begins st.world (c.ready_first w)) in
      record {
        moves = c.moves m;
        count = k.0;
        some_move = c.some_move m;
        some_block = k.1;
        meets = k.2;
        between = λ i lt. subst (λ x. (b : ℕ) × (u : State) × (steps State Ending (step_at sc) i x m ≡ At b u) × (u.calls ≡ m.calls)) same (c.between m w i st lt);
      }

  keeps : (a : ℕ) (m : State) (w : World) → Known a → Follows sc.image m w → sim.Stretch (step_at sc) (flow_blocks ps) Known (first_node ps) (Follows sc.image) a m w
  keeps a m w known st = keeps_at a known.0 known.1 (piece_member ps a known.0 known.1).1 m w st

  -- ---- never stuck

  -- the flow stands at a block that there is
  record Stood (n : ℕ) (w : World) : Type 0 where
    pub address : ℕ
    pub piece : FlowPiece
    pub own : ℕ
    pub there : piece_at ps address ≡ Some piece
    pub small : own < length piece.blocks
    pub node : n ≡ first_node ps address + own
    pub world : IsWorld w
    pub ready : (covered_at address piece there).ready own w ≡ true

  abbrev Safe : Arrive → Type 0
  Safe (To n w) = Stood n w
  Safe (End o) = Unit {0}
  Safe Nowhere = ⊥

  stood_first : (a : ℕ) (w : World) → Known a → IsWorld w → (n : ℕ) → n ≡ first_node ps a → Stood n w
  stood_first a w known iw n e =
      let c = covered_at a known.0 known.1 in
      record { address = a; piece = known.0; own = 0; there = known.1; small = c.begins; node = omega (arith, e); world = iw; ready = c.ready_first w }

  safe_target : (a : ℕ) (p : FlowPiece) (e : piece_at ps a ≡ Some p) (n : ℕ) (w : World) → n < length p.blocks + length p.successors → IsWorld w → (n < length p.blocks → (covered_at a p e).ready n w ≡ true)
      → Stood (flow_node ps (first_node ps a) p n) w
  safe_target a p e n w lt iw r =
      ⊎_elim
      (λ own. record { address = a; piece = p; own = n; there = e; small = own; node = own_node ps (first_node ps a) n p own; world = iw; ready = r own })
      (λ big.
      let got = get_below p.successors (n - length p.blocks) (omega (arith, lt, big)) in
      let eq : n ≡ length p.blocks + (n - length p.blocks) = omega (arith, big) in
      stood_first got.0 w (next_known a p (n - length p.blocks) got.0 e got.1) iw (flow_node ps (first_node ps a) p n) (next_node ps (first_node ps a) p n (n - length p.blocks) got.0 eq got.1))
      (cases_lt n (length p.blocks))

  safe_from : (a : ℕ) (p : FlowPiece) (e : piece_at ps a ≡ Some p) (x : Arrive) → Stays (length p.blocks + length p.successors) x
      → ((k : ℕ) (u : World) → x ≡ To k u → k < length p.blocks → (covered_at a p e).ready k u ≡ true) → Safe (relocate (flow_node ps (first_node ps a) p) x)
  safe_from a p e (To n w) s r = safe_target a p e n w s.0 s.1 (r n w refl)
  safe_from a p e (End o) s r = tt
  safe_from a p e Nowhere s r = s

  safe_block : (n : ℕ) (w : World) → Stood n w → Safe (enter (slice_get (flow_blocks ps) n) w)
  safe_block n w st =
      let c = covered_at st.address st.piece st.there in
      subst (λ x. Safe x) (sym (ap (λ k. enter (slice_get (flow_blocks ps) k) w) st.node ∙ entered ps st.address st.own st.piece w st.there st.small))
      (safe_from st.address st.piece st.there (enter (slice_get st.piece.blocks st.own) w) (c.steady st.own w st.small st.world st.ready)
      (λ k u g lt. c.onward st.own k w u st.small st.world st.ready g lt))

  safe_on : (k : ℕ) → ((n : ℕ) (w : World) → Stood n w → Safe (walk (flow_blocks ps) k n w)) → (x : Arrive) → Safe x → Safe (onward x (walk (flow_blocks ps) k))
  safe_on k h (To n w) s = h n w s
  safe_on k h (End o) s = tt
  safe_on k h Nowhere s = s

  safe_walk : (k n : ℕ) (w : World) → Stood n w → Safe (walk (flow_blocks ps) k n w)
  safe_walk zero n w st = st
  safe_walk (suc k) n w st = safe_on k (safe_walk k) (enter (slice_get (flow_blocks ps) n) w) (safe_block n w st)

  not_stuck : (x : Arrive) → Safe x → EndsWell x → outcome_of x ≡ outcome.Stuck → ⊥
  not_stuck (To n w) s h e = cc
  not_stuck (End o) s h e = subst (λ q. IsEnded q) e h
  not_stuck Nowhere s h e = s

  unstuck : (a : ℕ) (w : World) → Known a → IsWorld w → (k : ℕ) → outcome_of (walk (flow_blocks ps) k (first_node ps a) w) ≡ outcome.Stuck → ⊥
  unstuck a w known iw k e =
      not_stuck (walk (flow_blocks ps) k (first_node ps a) w) (safe_walk k (first_node ps a) w (stood_first a w known iw (first_node ps a) refl)) (walk_well (flow_blocks ps) k (first_node ps a) w) e

  -- ---- from the entry

  agrees_from : (a : ℕ) (m : State) (w : World) → Known a → Follows sc.image m w → Agreeing (λ n. machine_outcome (steps State Ending (step_at sc) n a m)) (λ k. outcome_of (walk (flow_blocks ps) k (first_node ps a) w))
  agrees_from a m w known st =
      sim.agreeing (step_at sc) (flow_blocks ps) Known (first_node ps) (Follows sc.image) keeps (λ m w s. s.stands.calls) a m w known st (unstuck a w known st.world)

-- ---- the start

bit_stands : (b : Bit) → StandsFor b (word_of_bit b)
bit_stands Zero = refl
bit_stands One = refl
bit_stands Undefined = tt

start_follows : (m : List Segment) (start : Start) (answers : List Answer) → IsStart m start → AreAnswers answers → Follows m (start_state start answers) (start_world start answers)
start_follows m start answers s a = record {
  world = start_is start answers s.regs s.fs s.gs s.bytes a;
  frozen_bytes = s.frozen_bytes;
  stands = record {
    regs = refl;
    flags = record { c = bit_stands start.flags.c; p = bit_stands start.flags.p; z = bit_stands start.flags.z; s = bit_stands start.flags.s; o = bit_stands start.flags.o };
    fs = refl;
    gs = refl;
    mem = refl;
    pages = refl;
    left = refl;
    calls = refl;
  };
}

first_is : (ps : List FlowPiece) (a : ℕ) → slice_get (addresses_of ps) 0 ≡ Some a → first_node ps a ≡ 0
first_is [] a e = absurd (let z : ⊥ = cc in z)
first_is (p ∷ ps) a e =
    let same : p.at ≡ a = cc in
    ap (λ b. cond b 0 (length p.blocks + first_node ps a)) (subst (λ x. nat_eq p.at x ≡ true) same (itself p.at))

pub planned_flows_agree : PlannedFlowsAgree
planned_flows_agree m r decoded ps f start answers plan blocks entry s a =
    let sc = scene_of m r decoded start in
    let known = piece_found ps r.entry (contains_got (addresses_of ps) 0 r.entry plan.entry) in
    let w = start_world start answers in
    let agrees = agrees_from sc ps plan r.entry (start_state start answers) w known (start_follows m start answers s a) in
    subst (λ n. Agreeing (machine_run m r decoded start answers) (λ k. outcome_of (walk f.blocks k n w))) (first_is ps r.entry plan.entry ∙ sym entry)
    (subst (λ bs. Agreeing (machine_run m r decoded start answers) (λ k. outcome_of (walk bs k (first_node ps r.entry) w))) (sym blocks) agrees)
