-- What the statements of an instruction do that has one block, goes on, and neither stores nor asks.
use Rattle.std.proofs.Common.{◌≡◌, ℕ, zero, suc, ◌+◌, ◌<◌, nat_lt, Bool, true, false, if◌then◌else◌, List, [], ◌∷◌, length, Option, Some, None, refl, sym, ap, ◌∙◌, subst, arith}
use Rattle.std.specs.Prelude.{slice_get, IsTrue}
use Rattle.std.proofs.lemmas.Bool.Decides.{nat_tests}
use Rattle.dream_words.specs.declared.machine.Regs.{Regs}
use Rattle.dream_words.specs.declared.machine.Name.TheVariants as name
use Rattle.dream_words.specs.declared.outcome.Answer.{Answer}
use Rattle.dream_words.specs.declared.outcome.Call.{Call}
use Rattle.dream_words.specs.declared.outcome.Outcome.TheVariants as outcome
use Rattle.dream_words.specs.declared.pages.Pages.{Pages}
use Rattle.dream_words.specs.Memory.{Mem, bytes_of}
use Rattle.dream_words.specs.Pages.{all_pages, every_page}
use Rattle.dream_words.proofs.Allowed.{none_bad}
use Rattle.x86_inst.specs.declared.Inst.{Inst}
use Rattle.x86_model.specs.declared.effect.Access.{Access}
use Rattle.x86_model.specs.declared.effect.Effect.{Effect}
use Rattle.x86_model.specs.declared.effect.Go.TheVariants as go
use Rattle.x86_model.specs.Leads.{allowed, effect_in, instruction_does, refused, refused_read}
use Rattle.x86_model.specs.Leads as access
use Rattle.x86_model.specs.Reads.{reads_of}
use Rattle.x86_model.specs.Machine.{At, Finished, Faulted, State}
use Rattle.x86_model.specs.Successors.{asks, stores, successors_of}
use Rattle.run_parts.specs.Effects.{Doing, answered_by, calling}
use Rattle.run_parts.specs.Steps.{Next, Halt, Jam, To, arrive, having}
use Rattle.run_parts.specs.World.{World, answered, regs_in, returned}
use Rattle.c_syntax.specs.Run.{does_ext, word_in}
use Rattle.micro_ir.specs.declared.flow.Block.{Block}
use Rattle.micro_ir.specs.declared.flow.End.{End as BlockEnd}
use Rattle.micro_ir.specs.declared.flow.End.TheVariants as end
use Rattle.micro_ir.specs.Counts.{calls_of_end, calls_of_stmts, stores_of_stmts}
use Rattle.micro_ir.specs.Rule.{are_flow_stmts, is_flow_block, is_flow_end}
use Rattle.micro_ir.specs.Run.{enter, end_leads, left_by, stmts_do}
use Rattle.micro_ir.specs.World.{IsWorld}
use Rattle.lift_parts.specs.Lifted.{AreBlocksOf, IsPlain, Matches, Stays, block_count, once, through}
use Rattle.lift_parts.specs.Shown.{Runs}
use Rattle.lift_parts.specs.Stands.{Stands, state_in}
use Rattle.lift_parts.proofs.Sureness.{both_true}
use Rattle.window_steps.proofs.Quiet.{does_next}
use Rattle.window_blocks.proofs.Doing.{IsDone, Settles, settles}

-- the instruction has one block, goes on to the next address, and neither stores nor asks
pub record IsStraight (x : Inst) (at next : ℕ) (b : Block) : Type 0 where
  pub blocks : AreBlocksOf x at next (b ∷ [])
  pub one : block_count x ≡ 1
  pub goes : successors_of x at next ≡ next ∷ []
  pub no_store : stores x ≡ false
  pub no_ask : asks x ≡ false
  pub plain : IsPlain b.end

-- ---- the state of a world

same_state : (s : State) (r : Regs) (fs gs : ℕ) (mem : Mem) (pages : Pages) (left : List Answer) (calls : List Call) → s.regs ≡ r → s.fs ≡ fs → s.gs ≡ gs → s.mem ≡ mem → s.pages ≡ pages → s.left ≡ left → s.calls ≡ calls
    → ◌≡◌ {A = State} (record { regs = r; flags = s.flags; fs = fs; gs = gs; mem = mem; pages = pages; left = left; calls = calls }) s
same_state s r fs gs mem pages left calls a b c d p e f =
    ap (λ x. record { regs = x; flags = s.flags; fs = fs; gs = gs; mem = mem; pages = pages; left = left; calls = calls }) (sym a)
    ∙ ap (λ x. record { regs = s.regs; flags = s.flags; fs = x; gs = gs; mem = mem; pages = pages; left = left; calls = calls }) (sym b)
    ∙ ap (λ x. record { regs = s.regs; flags = s.flags; fs = s.fs; gs = x; mem = mem; pages = pages; left = left; calls = calls }) (sym c)
    ∙ ap (λ x. record { regs = s.regs; flags = s.flags; fs = s.fs; gs = s.gs; mem = x; pages = pages; left = left; calls = calls }) (sym d)
    ∙ ap (λ x. record { regs = s.regs; flags = s.flags; fs = s.fs; gs = s.gs; mem = s.mem; pages = x; left = left; calls = calls }) (sym p)
    ∙ ap (λ x. record { regs = s.regs; flags = s.flags; fs = s.fs; gs = s.gs; mem = s.mem; pages = s.pages; left = x; calls = calls }) (sym e)
    ∙ ap (λ x. record { regs = s.regs; flags = s.flags; fs = s.fs; gs = s.gs; mem = s.mem; pages = s.pages; left = s.left; calls = x }) (sym f)

pub state_is : (s : State) (w : World) → Stands s w → state_in w s.flags ≡ s
state_is s w h = same_state s (regs_in w.names) (w.names name.Fs) (w.names name.Gs) w.mem w.pages w.left w.calls h.regs h.fs h.gs h.mem h.pages h.left h.calls

-- ---- where the statements lead

-- they lead to a world that stands for the state
abbrev pub Reaches : State → Doing → Type 0
Reaches t d = (u : World) × (d ≡ Next u) × Stands t u

left_ends : (d : Doing) (t : State) (next : ℕ) (b : Block) → Matches 1 (next ∷ []) (At next t) (through 1 (b ∷ []) (left_by d)) → ⊥
left_ends (Next w) t next b h = h
left_ends (Halt o) t next b h = h
left_ends Jam t next b h = h

-- a block that leads to itself leads to no successor
never_again : (d : Doing) (n next : ℕ) (t : State) → n < 1 → Matches 1 (next ∷ []) (At next t) (arrive d (end_leads (end.Go n))) → ⊥
never_again (Next u) n next t l h = let e : n ≡ 1 + h.0 = h.1 in omega (arith, l, e)
never_again (Halt o) n next t l h = h
never_again Jam n next t l h = h

never_through : (d : Doing) (next : ℕ) (b : Block) (t : State) → b.end ≡ end.Go 0 → Matches 1 (next ∷ []) (At next t) (through 1 (b ∷ []) (arrive d (end_leads b.end))) → ⊥
never_through (Next u) next b t e h =
    never_again (stmts_do b.stmts u) 0 next t (omega arith)
    (subst (λ q. Matches 1 (next ∷ []) (At next t) (arrive (stmts_do b.stmts u) (end_leads q))) e (subst (λ q. Matches 1 (next ∷ []) (At next t) (through 1 (b ∷ []) (end_leads q u))) e h))
never_through (Halt o) next b t e h = h
never_through Jam next b t e h = h

below_one : (n : ℕ) → true ≡ nat_lt n 1 → n < 1
below_one n e = grind (arith, nat_tests)

go_by : (c : Bool) (n next : ℕ) (b : Block) (t : State) (u : World) → c ≡ nat_lt n 1 → b.end ≡ end.Go n
    → Matches 1 (next ∷ []) (At next t) (if c then enter (slice_get (b ∷ []) n) u else To n u) → Stands t u
go_by true zero next b t u e g h = absurd (never_again (stmts_do b.stmts u) 0 next t (omega arith) (subst (λ q. Matches 1 (next ∷ []) (At next t) (arrive (stmts_do b.stmts u) (end_leads q))) g h))
go_by true (suc n) next b t u e g h = absurd (let l : suc n < 1 = below_one (suc n) e in let z : ⊥ = omega (arith, l) in z)
go_by false n next b t u e g h = h.3

end_by : (q : BlockEnd) (next : ℕ) (b : Block) (t : State) (u : World) → b.end ≡ q → IsPlain q → Matches 1 (next ∷ []) (At next t) (through 1 (b ∷ []) (end_leads q u)) → Stands t u
end_by (end.Go n) next b t u e p h = go_by (nat_lt n 1) n next b t u refl e h
end_by (end.Branch c x y) next b t u e p h = absurd p
end_by (end.Switch c cases) next b t u e p h = absurd p
end_by end.Return next b t u e p h = absurd h
end_by (end.Leave c) next b t u e p h = absurd (left_ends (does_ext c u) t next b h)

doing_by : (d : Doing) (next : ℕ) (b : Block) (t : State) → IsPlain b.end → Matches 1 (next ∷ []) (At next t) (through 1 (b ∷ []) (arrive d (end_leads b.end))) → Reaches t d
doing_by (Next u) next b t p h = (u, refl, end_by b.end next b t u refl p h)
doing_by (Halt o) next b t p h = absurd h
doing_by Jam next b t p h = absurd h

-- ---- where the statements end the run

returned_no : (w : World) (at : ℕ) (mem : Mem) (calls : List Call) → outcome.Faulted 14 at mem calls ≡ returned w → ⊥
returned_no w at mem calls h = cc

asks_no : (left : List Answer) (made : List Call) (w : World) (at next : ℕ) (b : Block) (mem : Mem) (calls : List Call)
    → Matches 1 (next ∷ []) (Finished (Faulted 14 at mem calls)) (through 1 (b ∷ []) (left_by (answered_by left made w))) → ⊥
asks_no [] made w at next b mem calls h = let e : outcome.Faulted 14 at mem calls ≡ outcome.Asking made = h in cc
asks_no (a ∷ rest) made w at next b mem calls h = let e : outcome.Faulted 14 at mem calls ≡ returned (record w { names = answered a w.names; mem = a.mem; left = rest; calls = made }) = h in cc

leaves_no : (o : Option ℕ) (w : World) (at next : ℕ) (b : Block) (mem : Mem) (calls : List Call)
    → Matches 1 (next ∷ []) (Finished (Faulted 14 at mem calls)) (through 1 (b ∷ []) (left_by (having o (λ target. calling target w)))) → ⊥
leaves_no None w at next b mem calls h = h
leaves_no (Some target) w at next b mem calls h = asks_no w.left _ w at next b mem calls h

goes_no : (c : Bool) (n at next : ℕ) (b : Block) (mem : Mem) (calls : List Call) (u : World) → c ≡ nat_lt n 1 → (b.end ≡ end.Go 0 → ⊥) → b.end ≡ end.Go n
    → Matches 1 (next ∷ []) (Finished (Faulted 14 at mem calls)) (if c then enter (slice_get (b ∷ []) n) u else To n u) → ⊥
goes_no true zero at next b mem calls u e f g h = f g
goes_no true (suc n) at next b mem calls u e f g h = let l : suc n < 1 = below_one (suc n) e in let z : ⊥ = omega (arith, l) in z
goes_no false n at next b mem calls u e f g h = h

ends_no : (q : BlockEnd) (at next : ℕ) (b : Block) (mem : Mem) (calls : List Call) (u : World) → (b.end ≡ end.Go 0 → ⊥) → b.end ≡ q → IsPlain q
    → Matches 1 (next ∷ []) (Finished (Faulted 14 at mem calls)) (through 1 (b ∷ []) (end_leads q u)) → ⊥
ends_no (end.Go n) at next b mem calls u f e p h = goes_no (nat_lt n 1) n at next b mem calls u refl f e h
ends_no (end.Branch c x y) at next b mem calls u f e p h = p
ends_no (end.Switch c cases) at next b mem calls u f e p h = p
ends_no end.Return at next b mem calls u f e p h = returned_no u at mem calls h
ends_no (end.Leave c) at next b mem calls u f e p h = leaves_no (word_in c u) u at next b mem calls h

-- a block that faults where its end leads to no block of its own does so in its statements
halts_by : (d : Doing) (at next : ℕ) (b : Block) (mem : Mem) (calls : List Call) → (b.end ≡ end.Go 0 → ⊥) → IsPlain b.end
    → Matches 1 (next ∷ []) (Finished (Faulted 14 at mem calls)) (through 1 (b ∷ []) (arrive d (end_leads b.end))) → d ≡ Halt (outcome.Faulted 14 at mem calls)
halts_by (Next u) at next b mem calls f p h = absurd (ends_no b.end at next b mem calls u f refl p h)
halts_by (Halt o) at next b mem calls f p h = ap (λ x. Halt x) (sym h)
halts_by Jam at next b mem calls f p h = absurd h

-- ---- with all pages

-- the state, and the world, with all pages
abbrev free : State → State
free s = record s { pages = all_pages }

abbrev free_world : World → World
free_world w = record w { pages = all_pages }

none_refused : (o : Option Access) → refused every_page o ≡ None
none_refused None = refl
none_refused (Some a) = none_bad a.at (bytes_of a.width)

free_reads : (x : Inst) (s : State) → refused_read x (free s) ≡ None
free_reads x s =
    let r = reads_of x s.regs s.fs s.gs in
    ap (λ o. access.first_of o (refused every_page r.second)) (none_refused r.first) ∙ none_refused r.second

-- the state after an instruction that stores nothing
abbrev pub state_with : State → Effect → State
state_with s e = record s { regs = e.regs; flags = e.flags }

module _ (x : Inst) (at next : ℕ) (b : Block) (i : IsStraight x at next b) where
  -- what the block does from a world that stands for a state
  matched : (s : State) (w : World) → IsWorld w → Stands s w → Matches 1 (next ∷ []) (instruction_does x at next s) (through 1 (b ∷ []) (enter (Some b) w))
  matched s w is st =
      let h = i.blocks.effect w s.flags is st.flags in
      let h1 = subst (λ q. Matches (block_count x) (successors_of x at next) (instruction_does x at next q) (through (block_count x) (b ∷ []) (enter (Some b) w))) (state_is s w st) h in
      let h2 = subst (λ l. Matches (block_count x) l (instruction_does x at next s) (through (block_count x) (b ∷ []) (enter (Some b) w))) i.goes h1 in
      subst (λ n. Matches n (next ∷ []) (instruction_does x at next s) (through n (b ∷ []) (enter (Some b) w))) i.one h2

  module _ (s : State) (w : World) (is : IsWorld w) (st : Stands s w) (stores : (effect_in x next s).store ≡ None) (goes : (effect_in x next s).go ≡ go.Next) where
    -- with all pages the step goes on
    free_goes : instruction_does x at next (free s) ≡ At next (state_with (free s) (effect_in x next s))
    free_goes = does_next x at next (free s) stores goes ∙ ap (λ o. allowed o (free s) (At next (state_with (free s) (effect_in x next s)))) (free_reads x s)

    free_is : IsWorld (free_world w)
    free_is = record { words = is.words; no_register = is.no_register; no_flag = is.no_flag; bytes = is.bytes; answers = is.answers }

    free_stands : Stands (free s) (free_world w)
    free_stands = record { regs = st.regs; flags = st.flags; fs = st.fs; gs = st.gs; mem = st.mem; pages = refl; left = st.left; calls = st.calls }

    -- so the block doesn't lead to itself
    forward : b.end ≡ end.Go 0 → ⊥
    forward e =
        let h = subst (λ o. Matches 1 (next ∷ []) o (through 1 (b ∷ []) (enter (Some b) (free_world w)))) free_goes (matched (free s) (free_world w) free_is free_stands) in
        never_through (stmts_do b.stmts (free_world w)) next b (state_with (free s) (effect_in x next s)) e h

    -- where no read is refused they lead to a world that stands for the state after the instruction
    pub straight_runs : refused_read x s ≡ None → (u : World) × Runs b.stmts w u × Stands (state_with s (effect_in x next s)) u
    straight_runs e =
        let does = does_next x at next s stores goes ∙ ap (λ o. allowed o s (At next (state_with s (effect_in x next s)))) e in
        let h = subst (λ o. Matches 1 (next ∷ []) o (through 1 (b ∷ []) (enter (Some b) w))) does (matched s w is st) in
        let (u, r, k) = doing_by (stmts_do b.stmts w) next b (state_with s (effect_in x next s)) i.plain h in
        (u, record { runs = r }, k)

    -- where one is they end with its fault
    pub straight_halts : (bad : ℕ) → refused_read x s ≡ Some bad → stmts_do b.stmts w ≡ Halt (outcome.Faulted 14 bad s.mem s.calls)
    straight_halts bad e =
        let does = does_next x at next s stores goes ∙ ap (λ o. allowed o s (At next (state_with s (effect_in x next s)))) e in
        let h = subst (λ o. Matches 1 (next ∷ []) o (through 1 (b ∷ []) (enter (Some b) w))) does (matched s w is st) in
        halts_by (stmts_do b.stmts w) bad next b s.mem s.calls forward i.plain h

  -- they keep the rule of flows, and store and call nothing
  block_flow : IsTrue (is_flow_block b)
  block_flow = (both_true (is_flow_block b) true i.blocks.rule).0

  pub straight_flow : IsTrue (are_flow_stmts b.stmts)
  straight_flow = (both_true (are_flow_stmts b.stmts) (is_flow_end b.end) block_flow).0

  pub straight_stores : stores_of_stmts b.stmts ≡ 0
  straight_stores =
      let e : stores_of_stmts b.stmts + 0 ≡ once false = i.blocks.stores ∙ ap once i.no_store in
      let f : once false ≡ 0 = refl in
      omega (arith, e, f)

  pub straight_calls : calls_of_stmts b.stmts ≡ 0
  straight_calls =
      let e : calls_of_stmts b.stmts + (calls_of_end b.end + 0) ≡ once false = i.blocks.calls ∙ ap once i.no_ask in
      let f : once false ≡ 0 = refl in
      omega (arith, e, f)

  -- they are stuck in no world
  done_by : (d : Doing) (nodes : ℕ) → Stays nodes (arrive d (end_leads b.end)) → IsDone d
  done_by (Next u) nodes h = tt
  done_by (Halt o) nodes h = tt
  done_by Jam nodes h = h

  pub straight_settles : (w : World) → IsWorld w → Settles (stmts_do b.stmts w)
  straight_settles w is =
      let first : 0 < block_count x = subst (λ n. 0 < n) (sym i.one) (omega arith) in
      settles b.stmts w straight_flow (done_by (stmts_do b.stmts w) (block_count x + length (successors_of x at next)) (i.blocks.steady 0 w first is)) is
