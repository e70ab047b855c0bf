-- The piece of an instruction does what its step does, and the piece of an address outside what the machine does there.
use Rattle.std.proofs.Common.{◌≡◌, ℕ, zero, suc, ◌+◌, ◌%◌, ◌^◌, ◌<◌, Bool, true, false, cond, if◌then◌else◌, List, [], ◌∷◌, ◌++◌, length, Option, Some, refl, sym, ap, ◌∙◌, subst, arith}
use Rattle.std.specs.Prelude.{slice_get}
use Rattle.elf_image.specs.declared.image.Segment.{Segment}
use Rattle.elf_image.specs.declared.range.Range.{Range}
use Rattle.elf_image.specs.Range.{is_inside}
use Rattle.dream_words.specs.declared.outcome.Start.{Start}
use Rattle.dream_words.specs.declared.outcome.Answer.{Answer}
use Rattle.dream_words.specs.declared.outcome.Call.{Call}
use Rattle.dream_words.specs.declared.outcome.Outcome.TheVariants as outcome
use Rattle.x86_inst.specs.declared.Inst.{Inst}
use Rattle.x86_inst.specs.declared.Inst.TheVariants as i
use Rattle.x86_model.specs.declared.effect.Go.TheVariants as go
use Rattle.x86_model.specs.Machine.{Onward, At, Finished, Strays, Blank, State, Ending, Returned}
use Rattle.x86_model.specs.Leads.{call_of, answered_or, leads, effect_in, instruction_does}
use Rattle.x86_model.specs.Successors.{successors_of}
use Rattle.x86_model.specs.WideRows.{repeats}
use Rattle.machine.specs.Code.{Decodes}
use Rattle.machine.specs.Steps.{judged, go_on, steps}
use Rattle.machine.specs.Run.{Scene, scene_of, answer_breaks, strays, act, step_at}
use Rattle.run_parts.specs.Steps.{having}
use Rattle.run_parts.specs.World.{World, Names, regs_in}
use Rattle.run_parts.specs.Effects.{answered_by, calling}
use Rattle.c_syntax.specs.Value.{word_of}
use Rattle.c_words.specs.Built.{num}
use Rattle.c_words.proofs.Layers.{word_layer}
use Rattle.micro_ir.specs.declared.flow.Block.{Block}
use Rattle.micro_ir.specs.Run.{Arrive, enter, left_by}
use Rattle.micro_ir.specs.World.{IsWorld}
use Rattle.lift_parts.specs.Stands.{Stands}
use Rattle.lift_parts.specs.Lifted.{block_count, through, Matches, Stays}
use Rattle.flow_pieces.specs.declared.piece.FlowPiece.{FlowPiece}
use Rattle.window_blocks.proofs.Straight.{state_is}
use Rattle.flow_pieces.specs.Covered.{Follows, IsCovered}
use Rattle.range_flow.specs.Pieces as pieces
use Rattle.range_flow.specs.Pieces.{IsInstructionPiece, IsPieceOf, IsLeaveTo, leave_block}
use Rattle.range_flow.proofs.Beginning.{decoded_is}

-- the tests of strays change nothing of what is matched
judged_matches : (b : ℕ) (succ : List ℕ) (t : Bool) (r : Onward State Ending) (x : Arrive) → Matches b succ r x → Matches b succ (judged t r) x
judged_matches b succ true r x h = tt
judged_matches b succ false r x h = h

-- ---- one step

module _ (sc : Scene) where
  one_more : (r : Onward State Ending) → go_on r (steps State Ending (step_at sc) 0) ≡ r
  one_more (At a m) = refl
  one_more (Finished e) = refl
  one_more Strays = refl
  one_more Blank = refl

  one_step : (a : ℕ) (m : State) → steps State Ending (step_at sc) 1 a m ≡ step_at sc a m
  one_step a m = one_more (step_at sc a m)

  before_one : (a : ℕ) (m : State) (i : ℕ) → i < 1 → (b : ℕ) × (u : State) × (steps State Ending (step_at sc) i a m ≡ At b u) × (u.calls ≡ m.calls)
  before_one a m zero lt = (a, m, refl, refl)
  before_one a m (suc i) lt = absurd (let z : ⊥ = omega (arith, lt) in z)

  -- a piece that does what one step does is covered
  covered_by : (p : FlowPiece) → 0 < length p.blocks
      → ((s : State) (w : World) → Follows sc.image s w → Matches (length p.blocks) p.successors (step_at sc p.at s) (through (length p.blocks) p.blocks (enter (slice_get p.blocks 0) w)))
      → ((n : ℕ) (w : World) → n < length p.blocks → IsWorld w → Stays (length p.blocks + length p.successors) (enter (slice_get p.blocks n) w)) → IsCovered sc p
  covered_by p begins effect steady = record {
    begins = begins;
    ready = λ n w. true;
    ready_first = λ w. refl;
    onward = λ n k w u lt iw r g own. refl;
    moves = λ s. 1;
    some_move = λ s. omega arith;
    between = λ s w i f lt. before_one p.at s i lt;
    effect = λ s w f. subst (λ r. Matches (length p.blocks) p.successors r (through (length p.blocks) p.blocks (enter (slice_get p.blocks 0) w))) (sym (one_step p.at s)) (effect s w f);
    steady = λ n w lt iw r. steady n w lt iw;
  }

-- ---- the piece of an instruction

one_or_two : (b : Bool) → 0 < (if b then 2 else 1)
one_or_two true = omega arith
one_or_two false = omega arith

-- an instruction has a block
pub some_block : (x : Inst) → 0 < block_count x
some_block (i.Str op size r s) = one_or_two (repeats r)
some_block x = omega arith

module _ (m : List Segment) (r : Range) (decoded : ℕ → Option (Inst × ℕ)) (decodes : Decodes m r decoded) (start : Start) where
  abbrev sc : Scene
  sc = scene_of m r decoded start

  module _ (p : FlowPiece) (inside : is_inside r p.at ≡ true) (h : IsInstructionPiece m r p) where
    abbrev next : ℕ
    next = (p.at + h.size) % 2 ^ 32

    step_is : (s : State) → step_at sc p.at s ≡ judged (strays sc h.inst s (effect_in h.inst next s)) (instruction_does h.inst p.at next s)
    step_is s =
        ap (λ t. cond t (act sc p.at s (decoded p.at)) (judged (answer_breaks sc s.left s.mem) (leads (go.LeaveTo p.at) p.at p.at s))) inside
        ∙ ap (λ o. act sc p.at s o) (decoded_is m r decoded p.at h.inst h.size decodes h.begins)

    piece_effect : (s : State) (w : World) → Follows m s w → Matches (length p.blocks) p.successors (step_at sc p.at s) (through (length p.blocks) p.blocks (enter (slice_get p.blocks 0) w))
    piece_effect s w f =
        let e = h.blocks.effect w s.flags f.world f.stands.flags in
        let here = subst (λ u. Matches (block_count h.inst) (successors_of h.inst p.at next) (instruction_does h.inst p.at next u) (through (block_count h.inst) p.blocks (enter (slice_get p.blocks 0) w))) (state_is s w f.stands) e in
        let counted = subst (λ c. Matches c (successors_of h.inst p.at next) (instruction_does h.inst p.at next s) (through c p.blocks (enter (slice_get p.blocks 0) w))) (sym h.blocks.count) here in
        let led = subst (λ l. Matches (length p.blocks) l (instruction_does h.inst p.at next s) (through (length p.blocks) p.blocks (enter (slice_get p.blocks 0) w))) (sym h.successors) counted in
        subst (λ q. Matches (length p.blocks) p.successors q (through (length p.blocks) p.blocks (enter (slice_get p.blocks 0) w))) (sym (step_is s))
        (judged_matches (length p.blocks) p.successors (strays sc h.inst s (effect_in h.inst next s)) (instruction_does h.inst p.at next s) _ led)

    piece_steady : (n : ℕ) (w : World) → n < length p.blocks → IsWorld w → Stays (length p.blocks + length p.successors) (enter (slice_get p.blocks n) w)
    piece_steady n w lt iw =
        subst (λ c. Stays (c + length p.successors) (enter (slice_get p.blocks n) w)) (sym h.blocks.count)
        (subst (λ l. Stays (block_count h.inst + length l) (enter (slice_get p.blocks n) w)) (sym h.successors) (h.blocks.steady n w (subst (λ c. n < c) h.blocks.count lt) iw))

    pub instruction_covered : IsCovered sc p
    instruction_covered = covered_by sc p (subst (λ c. 0 < c) (sym h.blocks.count) (some_block h.inst)) piece_effect piece_steady

-- the piece of a place is covered
pub place_covered : (m : List Segment) (r : Range) (decoded : ℕ → Option (Inst × ℕ)) → Decodes m r decoded → (start : Start) (p : FlowPiece) → is_inside r p.at ≡ true
    → IsPieceOf m r p → IsCovered (scene_of m r decoded start) p
place_covered m r decoded d start p inside (pieces.of_instruction h) = instruction_covered m r decoded d start p inside h
place_covered m r decoded d start p inside (pieces.of_window h) =
    subst (λ l. IsCovered (scene_of m r decoded start) (record { at = p.at; blocks = p.blocks; successors = l })) (sym h.successors) (h.blocks.covered decoded start d)

-- ---- the piece of an address outside

num_is : (a : ℕ) (v : Names) → word_of (num a) v ≡ Some a
num_is a v = simp word_layer

answered_leaves : (w : World) (blocks : List Block) (cs ds : List Call) → cs ≡ ds → (left : List Answer)
    → Matches 1 [] (answered_or left cs (λ x rest. Finished (Returned x.regs x.mem cs))) (through 1 blocks (left_by (answered_by left ds w)))
answered_leaves w blocks cs ds e [] = ap (λ c. outcome.Asking c) e
answered_leaves w blocks cs ds e (x ∷ rest) = ap (λ c. outcome.Returned x.regs x.mem c) e

same_call : (s : State) (w : World) (a : ℕ) → Stands s w → s.calls ++ call_of a s ∷ [] ≡ w.calls ++ record { target = a; regs = regs_in w.names; mem = w.mem } ∷ []
same_call s w a h =
    ap (λ cs. cs ++ call_of a s ∷ []) h.calls
    ∙ ap (λ r. w.calls ++ record { target = a; regs = r; mem = s.mem } ∷ []) h.regs
    ∙ ap (λ x. w.calls ++ record { target = a; regs = regs_in w.names; mem = x } ∷ []) h.mem

enter_leave : (a : ℕ) (w : World) → enter (Some (leave_block a)) w ≡ left_by (calling a w)
enter_leave a w = ap (λ o. left_by (having o (λ x. calling x w))) (num_is a w.names)

leave_matches : (s : State) (w : World) (a : ℕ) → Stands s w → Matches 1 [] (leads (go.LeaveTo a) a a s) (through 1 (leave_block a ∷ []) (enter (Some (leave_block a)) w))
leave_matches s w a h =
    let cs = s.calls ++ call_of a s ∷ [] in
    let ds = w.calls ++ record { target = a; regs = regs_in w.names; mem = w.mem } ∷ [] in
    subst (λ x. Matches 1 [] (leads (go.LeaveTo a) a a s) (through 1 (leave_block a ∷ []) x)) (sym (enter_leave a w))
    (subst (λ l. Matches 1 [] (answered_or l cs (λ x rest. Finished (Returned x.regs x.mem cs))) (through 1 (leave_block a ∷ []) (left_by (answered_by w.left ds w)))) (sym h.left)
    (answered_leaves w (leave_block a ∷ []) cs ds (same_call s w a h) w.left))

answered_stays : (nodes : ℕ) (w : World) (ds : List Call) (left : List Answer) → Stays nodes (left_by (answered_by left ds w))
answered_stays nodes w ds [] = tt
answered_stays nodes w ds (x ∷ rest) = tt

leave_stays : (a n : ℕ) (w : World) → n < 1 → Stays 1 (enter (slice_get (leave_block a ∷ []) n) w)
leave_stays a zero w lt = subst (λ x. Stays 1 x) (sym (enter_leave a w)) (answered_stays 1 w _ w.left)
leave_stays a (suc n) w lt = absurd (let z : ⊥ = omega (arith, lt) in z)

module _ (sc : Scene) (p : FlowPiece) (outside : is_inside sc.range p.at ≡ false) (h : IsLeaveTo p) where
  leave_step : (s : State) → step_at sc p.at s ≡ judged (answer_breaks sc s.left s.mem) (leads (go.LeaveTo p.at) p.at p.at s)
  leave_step s = ap (λ t. cond t (act sc p.at s (sc.decoded p.at)) (judged (answer_breaks sc s.left s.mem) (leads (go.LeaveTo p.at) p.at p.at s))) outside

  leave_effect : (s : State) (w : World) → Follows sc.image s w → Matches (length p.blocks) p.successors (step_at sc p.at s) (through (length p.blocks) p.blocks (enter (slice_get p.blocks 0) w))
  leave_effect s w f =
      subst (λ bs. Matches (length bs) p.successors (step_at sc p.at s) (through (length bs) bs (enter (slice_get bs 0) w))) (sym h.blocks)
      (subst (λ l. Matches 1 l (step_at sc p.at s) (through 1 (leave_block p.at ∷ []) (enter (Some (leave_block p.at)) w))) (sym h.successors)
      (subst (λ q. Matches 1 [] q (through 1 (leave_block p.at ∷ []) (enter (Some (leave_block p.at)) w))) (sym (leave_step s))
      (judged_matches 1 [] (answer_breaks sc s.left s.mem) (leads (go.LeaveTo p.at) p.at p.at s) _ (leave_matches s w p.at f.stands))))

  leave_steady : (n : ℕ) (w : World) → n < length p.blocks → IsWorld w → Stays (length p.blocks + length p.successors) (enter (slice_get p.blocks n) w)
  leave_steady n w lt iw =
      subst (λ bs. Stays (length bs + length p.successors) (enter (slice_get bs n) w)) (sym h.blocks)
      (subst (λ l. Stays (1 + length l) (enter (slice_get (leave_block p.at ∷ []) n) w)) (sym h.successors)
      (leave_stays p.at n w (subst (λ bs. n < length bs) h.blocks lt)))

  pub leave_covered : IsCovered sc p
  leave_covered = covered_by sc p (subst (λ bs. 0 < length bs) (sym h.blocks) (omega arith)) leave_effect leave_steady
