-- What the statements along a path do: they keep up with the machine, and what is known after its instructions holds.
use Rattle.std.proofs.Common.{ℕ, ◌+◌, ◌%◌, ◌^◌, ◌<◌, Bool, true, false, if◌then◌else◌, List, [], ◌∷◌, ◌++◌, length, length-append, Option, Some, None, ◌≡◌, ◌⊎◌, inl, inr, refl, sym, ap, ◌∙◌, subst, arith}
use Rattle.std.specs.Prelude.{IsTrue, ◌&&◌, ◌||◌, not, ◌==◌}
use Rattle.elf_image.specs.declared.image.Segment.{Segment}
use Rattle.elf_image.specs.declared.range.Range.{Range}
use Rattle.dream_words.specs.declared.outcome.Start.{Start}
use Rattle.dream_words.specs.Ranges.{AreBytes}
use Rattle.dream_words.specs.Registers.{reg_of}
use Rattle.x86_inst.specs.declared.Inst.{Inst}
use Rattle.x86_model.specs.Leads.{allowed, refused_read}
use Rattle.x86_model.specs.Machine.{Onward, At, State, Ending, Faulted, ending_outcome}
use Rattle.x86_model.specs.Successors.{is_memory}
use Rattle.machine.specs.Code.{BeginsAt, Decodes}
use Rattle.machine.specs.Run.{Scene, step_at}
use Rattle.run_parts.specs.Steps.{Halt}
use Rattle.run_parts.specs.World.{World}
use Rattle.micro_ir.specs.declared.flow.Block.{Block}
use Rattle.micro_ir.specs.declared.flow.Stmt.{Stmt}
use Rattle.micro_ir.specs.Counts.{calls_of_stmts, stores_of_stmts}
use Rattle.micro_ir.specs.Rule.{are_flow_stmts, is_flow_stmt}
use Rattle.micro_ir.specs.Run.{stmts_do}
use Rattle.micro_ir.specs.World.{IsWorld}
use Rattle.lift_parts.specs.Lifted.{AreBlocksOf}
use Rattle.lift_parts.specs.Shown.{Runs}
use Rattle.lift_parts.specs.Stands.{Stands}
use Rattle.lift_parts.proofs.Chains.{none_run, runs_append}
use Rattle.lift_parts.proofs.Sureness.{both_true}
use Rattle.lift_parts.proofs.Values.{names_of_world, reg_fits}
use Rattle.jump_tables.specs.Forms.{Index, Known, after, after_all, is_on_path}
use Rattle.jump_tables.specs.Window.{next_of}
use Rattle.window_steps.specs.Knowledge.{Holds}
use Rattle.window_steps.proofs.Moves.{RegsFit}
use Rattle.window_steps.proofs.Paths.{Move, Steps, path_move, path_step, state_after, mov, movzx, lea, shl, add}
use Rattle.window_steps.proofs.Quiet.{Quiet, Stops, quiet_more, scene, stops_later}
use Rattle.window_steps.proofs.Tables.{Frozen}
use Rattle.window_blocks.specs.Path.{LiftedPath, none, more}
use Rattle.window_blocks.proofs.Doing.{Settles, halts_append, halts_then, settles_append, world_there}
use Rattle.window_blocks.proofs.Straight.{IsStraight, straight_calls, straight_flow, straight_halts, straight_runs, straight_settles, straight_stores}

-- ---- the instructions of a path go on

shl_stores : (p q : Bool) → (not q || p) ≡ true → (if p then false else q) ≡ false
shl_stores true q h = refl
shl_stores false true h = absurd (let z : ⊥ = cc in z)
shl_stores false false h = refl

pub move_straight : (inst : Inst) (at next : ℕ) (b : Block) → Move inst → AreBlocksOf inst at next (b ∷ []) → IsStraight inst at next b
move_straight _ at next b (mov size d s) a = record { blocks = a; one = refl; goes = refl; no_store = refl; no_ask = refl; plain = a.ends }
move_straight _ at next b (movzx from to d s) a = record { blocks = a; one = refl; goes = refl; no_store = refl; no_ask = refl; plain = a.ends }
move_straight _ at next b (lea size d m) a = record { blocks = a; one = refl; goes = refl; no_store = refl; no_ask = refl; plain = a.ends }
move_straight _ at next b (shl size d c g) a = record { blocks = a; one = refl; goes = refl; no_store = shl_stores (c % 32 == 0) (is_memory d) g; no_ask = refl; plain = a.ends }
move_straight _ at next b (add size d v) a = record { blocks = a; one = refl; goes = refl; no_store = refl; no_ask = refl; plain = a.ends }

-- ---- what a world shows of its state

pub regs_fit : (s : State) (w : World) → IsWorld w → Stands s w → RegsFit s.regs
regs_fit s w i h n = subst (λ r. reg_of r n < 2 ^ 32) (sym h.regs) (reg_fits w.names (names_of_world w i) n)

pub bytes_fit : (s : State) (w : World) → IsWorld w → Stands s w → AreBytes s.mem
bytes_fit s w i h = subst AreBytes (sym h.mem) i.bytes

-- ---- along a path

pub after_one_more : (x : Index) (k : Known) (insts : List Inst) (inst : Inst) → after_all x k (insts ++ inst ∷ []) ≡ after x (after_all x k insts) inst
after_one_more x k [] inst = refl
after_one_more x k (i ∷ insts) inst = after_one_more x (after x k i) insts inst

-- So many steps lead to an address, and statements to a world that stands for the state there; what is known there holds.
pub record Along (sc : Scene) (m : List Segment) (x : Index) (n count a : ℕ) (s : State) (at : ℕ) (k : Known) (stmts : List Stmt) (w : World) : Type 0 where
  pub state : State
  pub world : World
  pub quiet : Quiet sc count a s at state
  pub runs : Runs stmts w world
  pub is : IsWorld world
  pub stands : Stands state world
  pub frozen : Frozen m state.mem
  pub holds : Holds x n k state

-- Fewer than so many steps lead along, and the next one faults, as the statements do.
pub record EndsThere (sc : Scene) (count a : ℕ) (s : State) (stmts : List Stmt) (w : World) : Type 0 where
  pub ending : Ending
  pub stops : Stops sc count a s ending
  pub halts : stmts_do stmts w ≡ Halt (ending_outcome ending)

-- A step from a state to which so many quiet ones led, of which a read is refused, ends the run.
pub stops_here : (sc : Scene) (count a at : ℕ) (s t : State) (bad : ℕ) (o : Option ℕ) (led : Onward State Ending) → Quiet sc count a s at t
    → step_at sc at t ≡ allowed o t led → o ≡ Some bad → Stops sc (count + 1) a s (Faulted 14 bad t.mem t.calls)
stops_here sc count a at s t bad o led q e h =
    record { count = count; fewer = omega arith; at = at; state = t; quiet = q; ends = e ∙ ap (λ x. allowed x t led) h }

module _ (m : List Segment) (r : Range) (decoded : ℕ → Option (Inst × ℕ)) (decodes : Decodes m r decoded) (start : Start) where
  abbrev sc : Scene
  sc = scene m r decoded decodes start

  -- one more instruction of a path
  along_more : (x : Index) (n count a at size : ℕ) (s : State) (k : Known) (w : World) (insts : List Inst) (inst : Inst) (stmts : List Stmt) (b : Block)
      → BeginsAt m r at inst size → is_on_path inst ≡ true → AreBlocksOf inst at (next_of at size) (b ∷ [])
      → Along sc m x n (count + length insts) a s at (after_all x k insts) stmts w
      → EndsThere sc (count + length (insts ++ inst ∷ [])) a s (stmts ++ b.stmts) w
      ⊎ Along sc m x n (count + length (insts ++ inst ∷ [])) a s (next_of at size) (after_all x k (insts ++ inst ∷ [])) (stmts ++ b.stmts) w
  along_more x n count a at size s k w insts inst stmts b begins on blocks p = by (refused_read inst p.state) refl
    where
      known : Known
      known = after_all x k insts

      next : ℕ
      next = next_of at size

      given : Steps sc x known n at next inst p.state
      given = path_step m r decoded decodes start x known n at size inst p.state begins on p.holds (regs_fit p.state p.world p.is p.stands) (bytes_fit p.state p.world p.is p.stands)

      straight : IsStraight inst at next b
      straight = move_straight inst at next b (path_move inst on) blocks

      total : count + length insts + 1 ≡ count + length (insts ++ inst ∷ [])
      total = let long = length-append insts (inst ∷ []) in let one : length (inst ∷ []) ≡ 1 = refl in omega (arith, long, one)

      there : Onward State Ending
      there = At next (state_after inst next p.state)

      by : (o : Option ℕ) → refused_read inst p.state ≡ o
          → EndsThere sc (count + length (insts ++ inst ∷ [])) a s (stmts ++ b.stmts) w
          ⊎ Along sc m x n (count + length (insts ++ inst ∷ [])) a s next (after_all x k (insts ++ inst ∷ [])) (stmts ++ b.stmts) w
      by (Some bad) e = inl (record {
        ending = Faulted 14 bad p.state.mem p.state.calls;
        stops = subst (λ c. Stops sc c a s (Faulted 14 bad p.state.mem p.state.calls)) total (stops_here sc (count + length insts) a at s p.state bad (refused_read inst p.state) there p.quiet given.step e);
        halts = halts_then stmts b.stmts w p.world (ending_outcome (Faulted 14 bad p.state.mem p.state.calls)) p.runs (straight_halts inst at next b straight p.state p.world p.is p.stands given.stores given.goes bad e);
      })
      by None e =
          let u = straight_runs inst at next b straight p.state p.world p.is p.stands given.stores given.goes e in
          inr (record {
            state = state_after inst next p.state;
            world = u.0;
            quiet = subst (λ c. Quiet sc c a s next (state_after inst next p.state)) total
                (quiet_more sc (count + length insts) a at next s p.state (state_after inst next p.state) p.quiet (given.step ∙ ap (λ o. allowed o p.state there) e) refl);
            runs = runs_append stmts b.stmts p.runs u.1;
            is = world_there b.stmts p.world u.0 (straight_flow inst at next b straight) p.is u.1;
            stands = u.2;
            frozen = p.frozen;
            holds = subst (λ c. Holds x n c (state_after inst next p.state)) (sym (after_one_more x k insts inst)) given.holds;
          })

  ends_later : (x : Index) (n count a at size : ℕ) (s : State) (w : World) (insts : List Inst) (inst : Inst) (stmts : List Stmt) (b : Block)
      → EndsThere sc (count + length insts) a s stmts w → EndsThere sc (count + length (insts ++ inst ∷ [])) a s (stmts ++ b.stmts) w
  ends_later x n count a at size s w insts inst stmts b p =
      let long = length-append insts (inst ∷ []) in
      record {
        ending = p.ending;
        stops = stops_later sc (count + length insts) (count + length (insts ++ inst ∷ [])) a s p.ending (omega (arith, long)) p.stops;
        halts = halts_append stmts b.stmts w (ending_outcome p.ending) p.halts;
      }

  pub path_along : (x : Index) (n count a from at : ℕ) (s t : State) (k : Known) (w : World) (insts : List Inst) (stmts : List Stmt) → Quiet sc count a s from t
      → IsWorld w → Stands t w → Frozen m t.mem → Holds x n k t → LiftedPath m r from at insts stmts
      → EndsThere sc (count + length insts) a s stmts w ⊎ Along sc m x n (count + length insts) a s at (after_all x k insts) stmts w
  path_along x n count a from _ s t k w _ _ q i st f h none =
      let same : count ≡ count + 0 = omega arith in
      inr (record { state = t; world = w; quiet = subst (λ c. Quiet sc c a s from t) same q; runs = none_run w; is = i; stands = st; frozen = f; holds = h })
  path_along x n count a from _ s t k w _ _ q i st f h (more at size insts inst stmts b before begins on blocks) =
      elim (path_along x n count a from at s t k w insts stmts q i st f h before) [
        | inl p ↦ inl (ends_later x n count a at size s w insts inst stmts b p)
        | inr p ↦ along_more x n count a at size s k w insts inst stmts b begins on blocks p
      ]

-- ---- from every world

both_hold : (p q : Bool) → IsTrue p → IsTrue q → IsTrue (p && q)
both_hold true q h k = k
both_hold false q h k = h

pub flow_append : (xs ys : List Stmt) → IsTrue (are_flow_stmts xs) → IsTrue (are_flow_stmts ys) → IsTrue (are_flow_stmts (xs ++ ys))
flow_append [] ys h k = k
flow_append (x ∷ xs) ys h k = let (p, q) = both_true (is_flow_stmt x) (are_flow_stmts xs) h in both_hold (is_flow_stmt x) (are_flow_stmts (xs ++ ys)) p (flow_append xs ys q k)

pub stores_append : (xs ys : List Stmt) → stores_of_stmts (xs ++ ys) ≡ stores_of_stmts xs + stores_of_stmts ys
stores_append [] ys = omega arith
stores_append (x ∷ xs) ys = let e = stores_append xs ys in omega (arith, e)

pub calls_append : (xs ys : List Stmt) → calls_of_stmts (xs ++ ys) ≡ calls_of_stmts xs + calls_of_stmts ys
calls_append [] ys = omega arith
calls_append (x ∷ xs) ys = let e = calls_append xs ys in omega (arith, e)

-- statements that keep the rule of flows, are stuck in no world, and neither store nor call
pub record AreQuiet (ss : List Stmt) : Type 0 where
  pub flow : IsTrue (are_flow_stmts ss)
  pub settles : (w : World) → IsWorld w → Settles (stmts_do ss w)
  pub stores : stores_of_stmts ss ≡ 0
  pub calls : calls_of_stmts ss ≡ 0

pub quiet_append : (xs ys : List Stmt) → AreQuiet xs → AreQuiet ys → AreQuiet (xs ++ ys)
quiet_append xs ys p q =
    let a = stores_append xs ys in
    let b = p.stores in
    let c = q.stores in
    let d = calls_append xs ys in
    let e = p.calls in
    let f = q.calls in
    record {
      flow = flow_append xs ys p.flow q.flow;
      settles = λ w i. settles_append xs ys w (p.settles w i) q.settles;
      stores = omega (arith, a, b, c);
      calls = omega (arith, d, e, f);
    }

pub straight_quiet : (inst : Inst) (at next : ℕ) (b : Block) → IsStraight inst at next b → AreQuiet b.stmts
straight_quiet inst at next b s = record {
  flow = straight_flow inst at next b s;
  settles = straight_settles inst at next b s;
  stores = straight_stores inst at next b s;
  calls = straight_calls inst at next b s;
}

pub path_quiet : (m : List Segment) (r : Range) (from at : ℕ) (insts : List Inst) (stmts : List Stmt) → LiftedPath m r from at insts stmts → AreQuiet stmts
path_quiet m r from _ _ _ none = record { flow = refl; settles = λ w i. i; stores = refl; calls = refl }
path_quiet m r from _ _ _ (more at size insts inst stmts b before begins on blocks) =
    quiet_append stmts b.stmts (path_quiet m r from at insts stmts before)
    (straight_quiet inst at (next_of at size) b (move_straight inst at (next_of at size) b (path_move inst on) blocks))
