-- The two blocks of a window do what the machine does there, in several steps.
use Rattle.std.proofs.Common.{◌≡◌, ◌⊎◌, inl, inr, ℕ, zero, suc, ◌+◌, ◌*◌, ◌%◌, ◌^◌, ◌<◌, ◌≤◌, Bool, true, false, nat_eq, nat_lt, if◌then◌else◌, List, [], ◌∷◌, ◌++◌, length, length-append, Option, Some, None, refl, sym, ap, ◌∙◌, subst, arith, lit≤}
use Rattle.std.specs.Prelude.{◌&&◌, ◌||◌, not, IsTrue, slice_get}
use Rattle.std.specs.List.{list_any}
use Rattle.std.proofs.lemmas.Bool.{and_parts, cases_eq, eqb-true, ltb-true}
use Rattle.std.proofs.lemmas.Nat.{mod_below, pow_pos}
use Rattle.elf_image.specs.declared.image.Segment.{Segment}
use Rattle.elf_image.specs.declared.range.Range.{Range}
use Rattle.dream_words.specs.declared.machine.Name.TheVariants as name
use Rattle.dream_words.specs.declared.outcome.Start.{Start}
use Rattle.dream_words.specs.declared.outcome.Outcome.{Outcome}
use Rattle.dream_words.specs.declared.outcome.Outcome.TheVariants as outcome
use Rattle.dream_words.specs.Memory.{Mem}
use Rattle.dream_words.specs.Registers.{reg_of}
use Rattle.dream_words.specs.Words.{low_part}
use Rattle.x86_inst.specs.declared.AluOp.TheVariants.{Cmp}
use Rattle.x86_inst.specs.declared.Inst.{Inst}
use Rattle.x86_inst.specs.declared.Inst.TheVariants as i
use Rattle.x86_inst.specs.declared.Operand.{Operand}
use Rattle.x86_inst.specs.declared.Operand.TheVariants as o
use Rattle.x86_inst.specs.declared.Size.{Size}
use Rattle.x86_inst.specs.declared.Size.TheVariants.{B, H, W}
use Rattle.x86_formed.specs.Formed.{is_formed_operand, is_memory}
use Rattle.x86_model.specs.Leads.{allowed, refused, refused_read}
use Rattle.x86_model.specs.Leads as access
use Rattle.x86_model.specs.Machine.{Onward, At, Finished, State, Ending, Faulted, ending_outcome}
use Rattle.x86_model.specs.Reads.{operand_read}
use Rattle.x86_model.specs.Operands.{bits_of}
use Rattle.machine.specs.Code.{Decodes}
use Rattle.machine.specs.Run.{Scene, step_at}
use Rattle.run_parts.specs.Steps.{Halt, To, End}
use Rattle.run_parts.specs.World.{World}
use Rattle.c_syntax.specs.declared.syntax.CCond.{CCond}
use Rattle.c_words.specs.Built.{name as named}
use Rattle.micro_ir.specs.declared.flow.Block.{Block}
use Rattle.micro_ir.specs.declared.flow.Case.{Case}
use Rattle.micro_ir.specs.declared.flow.Stmt.{Stmt}
use Rattle.micro_ir.specs.declared.flow.Stmt.TheVariants as stmt
use Rattle.micro_ir.specs.Counts.{calls_of, calls_of_end, stores_of}
use Rattle.micro_ir.specs.Rule.{are_flow_blocks, are_flow_stmts, have_words, is_flow_block, is_flow_cond, is_flow_end, is_flow_target, is_flow_word}
use Rattle.micro_ir.specs.Run.{Arrive, block_leads, enter}
use Rattle.micro_ir.specs.World.{IsWorld}
use Rattle.lift_parts.specs.Lifted.{Matches, Stays, through}
use Rattle.lift_parts.specs.Parts.{pair_reads, reads, temp, value_word}
use Rattle.lift_parts.specs.Shown.{RunsTo}
use Rattle.lift_parts.specs.Stands.{Stands}
use Rattle.lift_parts.proofs.Chains.{runs_append}
use Rattle.lift_parts.proofs.Fit.{below_test, both_hold, fit_word, temp_fit, value_fit}
use Rattle.jump_tables.specs.Forms.{Index, Known, after_all, at_first, first_forms}
use Rattle.jump_tables.specs.Window.{IsWindow, frozen_word, next_of, target_of, targets_of, window_successors}
use Rattle.jump_tables.specs.declared.forms.Form.TheVariants as form
use Rattle.jump_tables.specs.declared.table.TableWindow.{TableWindow}
use Rattle.flow_pieces.specs.Covered.{Follows, IsCovered}
use Rattle.window_steps.specs.Knowledge.{Holds, Says, is_above, value_in}
use Rattle.window_steps.proofs.Branches.{Turns, branch_step, compare_step, taken, turns, value_below}
use Rattle.window_steps.proofs.Moves.{RegsFit}
use Rattle.window_steps.proofs.Paths.{begins_formed}
use Rattle.window_steps.proofs.Quiet.{Quiet, Stops, Told, quiet_more, quiet_none, quiet_told, run_from, scene, some_step, stops_later, stops_told, up_to}
use Rattle.window_steps.proofs.Tables.{jump_step}
use Rattle.window_blocks.specs.Locals.{sets}
use Rattle.window_blocks.specs.Path.{LiftedPath}
use Rattle.window_blocks.specs.Shapes.{first_end, first_of, last_of}
use Rattle.window_blocks.proofs.Doing.{halts_append, halts_then, runs_on, runs_out}
use Rattle.window_blocks.proofs.First.{Tells, block_ends, compared, copy_halts, copy_runs, first_leads}
use Rattle.window_blocks.proofs.PathRuns.{Along, AreQuiet, EndsThere, bytes_fit, calls_append, flow_append, stores_append, path_along, path_quiet, quiet_append, regs_fit, stops_here, straight_quiet}
use Rattle.window_blocks.proofs.Second.{CasesLead, any_stands, any_state, reads_quiet, reads_stand, second_leads, second_stays}
use Rattle.window_blocks.proofs.Straight.{IsStraight}

-- ---- the targets in their order

get_left : (xs ys : List ℕ) (k y : ℕ) → slice_get xs k ≡ Some y → slice_get (xs ++ ys) k ≡ Some y
get_left [] ys k y h = absurd (let z : ⊥ = cc in z)
get_left (x ∷ xs) ys zero y h = h
get_left (x ∷ xs) ys (suc k) y h = get_left xs ys k y h

get_end : (xs : List ℕ) (y : ℕ) → slice_get (xs ++ y ∷ []) (length xs) ≡ Some y
get_end [] y = refl
get_end (x ∷ xs) y = get_end xs y

pub targets_length : (m : List Segment) (w : TableWindow) (n : ℕ) → length (targets_of m w n) ≡ n
targets_length m w zero = refl
targets_length m w (suc n) =
    let e = length-append (targets_of m w n) (target_of m w n ∷ []) in
    let f = targets_length m w n in
    let one : length (target_of m w n ∷ []) ≡ 1 = refl in
    omega (arith, e, f, one)

target_got : (m : List Segment) (w : TableWindow) (n x : ℕ) → x < n → slice_get (targets_of m w n) x ≡ Some (target_of m w x)
target_got m w zero x h = absurd (let z : ⊥ = omega (arith, h) in z)
target_got m w (suc n) x h = elim (cases_eq x n) [
  | inl e ↦ ap (λ k. slice_get (targets_of m w n ++ target_of m w n ∷ []) k) (e ∙ sym (targets_length m w n)) ∙ get_end (targets_of m w n) (target_of m w n) ∙ ap (λ k. Some (target_of m w k)) (sym e)
  | inr ne ↦ get_left (targets_of m w n) (target_of m w n ∷ []) x (target_of m w x) (target_got m w n x (omega (arith, h, ne)))
]

-- ---- what is known after the comparison

first_if : (b : Bool) (mem : Mem) (n r u v : ℕ) → b ≡ nat_eq n r → (n ≡ r → u ≡ v) → Says mem v (if b then form.Scaled 1 0 else form.Unknown) u
first_if true mem n r u v e h = scaled (h (eqb-true n r (sym e)))
  where
    scaled : u ≡ v → u % 2 ^ 32 ≡ (1 * v + 0) % 2 ^ 32
    scaled e = omega (arith, e)
first_if false mem n r u v e h = tt

first_says : (size : Size) (x : Operand) (s : State) (n : ℕ) → Says s.mem (value_in size x s) (first_forms size x n) (reg_of s.regs n)
first_says B x s n = tt
first_says H x s n = tt
first_says W (o.Reg r) s n = first_if (nat_eq n r) s.mem n r (reg_of s.regs n) (reg_of s.regs r) refl (λ e. ap (reg_of s.regs) e)
first_says W (o.Mem m) s n = tt
first_says W (o.Imm k) s n = tt

same_in : (size : Size) (x : Operand) (bound : ℕ) (s : State) → value_in size x (compared size x bound s) ≡ value_in size x s
same_in size (o.Reg n) bound s = refl
same_in size (o.Mem m) bound s = refl
same_in size (o.Imm k) bound s = refl

first_holds : (x : Index) (bound : ℕ) (s : State) → Holds x (value_in x.size x.operand s) (at_first x) (compared x.size x.operand bound s)
first_holds x bound s = record {
  forms = λ n l. first_says x.size x.operand s n;
  kept = λ e. same_in x.size x.operand bound s;
}

-- a single access
first_alone : (o : Option ℕ) → access.first_of o None ≡ o
first_alone None = refl
first_alone (Some x) = refl

-- ---- the blocks

-- What the blocks of a window are made of: a block of the comparison, whose flags keep t0, a condition, the statements along the
-- path, which keep the copy, and cases.
pub record AreParts (m : List Segment) (r : Range) (a : ℕ) (w : TableWindow) (win : IsWindow m r a w) (saved : ℕ) (t : CCond) (b : Block) (flags path : List Stmt) (cases : List Case) : Type 0 where
  pub compare : IsStraight (i.Alu Cmp win.index.size win.index.operand (o.Imm win.bound)) a (next_of a win.compare_size) b
  pub shape : b.stmts ≡ pair_reads win.index.size win.index.operand (o.Imm win.bound) ++ flags
  pub flags_keep : list_any (sets 0) flags ≡ false
  pub tells : Tells win.condition.0 t
  pub lifted : LiftedPath m r w.path w.jump win.insts path
  pub keeps : list_any (sets saved) (path ++ reads W win.goal) ≡ false
  pub case_leads : CasesLead w.count cases

module _ (m : List Segment) (r : Range) (a : ℕ) (w : TableWindow) (win : IsWindow m r a w) (saved : ℕ) (t : CCond) (b : Block) (flags path : List Stmt) (cases : List Case)
    (parts : AreParts m r a w win saved t b flags path cases) where
  abbrev size : Size
  size = win.index.size

  abbrev x : Operand
  x = win.index.operand

  abbrev pub first : Block
  first = first_of a win.index.size win.index.operand win.condition.0 saved t b.stmts

  abbrev pub last : Block
  last = last_of w.path win.goal saved path cases

  abbrev blocks : List Block
  blocks = first ∷ last ∷ []

  abbrev value : State → ℕ
  value s = value_in win.index.size win.index.operand s

  abbrev after : State → State
  after s = compared win.index.size win.index.operand win.bound s

  bound_below : low_part (bits_of size) win.bound < 2 ^ bits_of size
  bound_below = mod_below win.bound (2 ^ bits_of size) (pow_pos (bits_of size))

  abbrev next : ℕ
  next = next_of (next_of a win.compare_size) win.branch_size

  turning : (s : State) (fit : RegsFit s.regs)
      → Turns size (value s) (low_part (bits_of size) win.bound) (value_below size x s fit) bound_below win.condition.0 ((next + win.distance) % 2 ^ 32) next w.default w.path w.count
  turning s fit = turns size (value s) (low_part (bits_of size) win.bound) (value_below size x s fit) bound_below win.condition.0 ((next + win.distance) % 2 ^ 32) next w.default w.path w.count win.splits

  -- ---- the first block

  record Entered (s : State) (u : World) : Type 0 where
    pub world : World
    pub leads : block_leads first u ≡ To (if nat_lt (value s) w.count then 1 else 2) world
    pub is : IsWorld world
    pub stands : Stands (after s) world
    pub copy : world.names (name.T saved) ≡ value s

  abbrev compare : Inst
  compare = i.Alu Cmp win.index.size win.index.operand (o.Imm win.bound)

  entered : (s : State) (u : World) → IsWorld u → Stands s u → refused_read compare s ≡ None → Entered s u
  entered s u is st e =
      let c = copy_runs a (next_of a win.compare_size) size x win.bound saved b flags parts.compare parts.shape parts.flags_keep win.place s u is st e in
      let k = turning s (regs_fit s u is st) in
      record {
        world = c.world;
        leads = first_leads a (b.stmts ++ stmt.Set (name.T saved) (value_word size x) ∷ []) (is_above win.condition.0) (nat_lt (value s) w.count) win.condition.0 t (after s).flags u c.world c.runs parts.tells c.stands.flags k.truth;
        is = c.is;
        stands = c.stands;
        copy = c.copy;
      }

  -- where the read of the comparison is refused the block ends with its fault
  barred : (s : State) (u : World) → IsWorld u → Stands s u → (bad : ℕ) → refused_read compare s ≡ Some bad → block_leads first u ≡ End (outcome.Faulted 14 bad s.mem s.calls)
  barred s u is st bad e =
      block_ends first u (outcome.Faulted 14 bad s.mem s.calls)
      (copy_halts a (next_of a win.compare_size) size x win.bound saved b flags parts.compare parts.shape parts.flags_keep win.place s u is st bad e)

  -- ---- the machine

  module _ (decoded : ℕ → Option (Inst × ℕ)) (decodes : Decodes m r decoded) (start : Start) where
    abbrev sc : Scene
    sc = scene m r decoded decodes start

    start_stops : (s : State) (bad : ℕ) → refused_read compare s ≡ Some bad → Stops sc 1 a s (Faulted 14 bad s.mem s.calls)
    start_stops s bad e =
        stops_here sc 0 a a s s bad (refused_read compare s) (At (next_of a win.compare_size) (after s)) (quiet_none sc a s) (compare_step m r decoded decodes start a win.compare_size size x win.bound s win.compares win.place) e

    start_quiet : (s : State) → RegsFit s.regs → refused_read compare s ≡ None → Quiet sc 2 a s (if nat_lt (value s) w.count then w.path else w.default) (after s)
    start_quiet s fit e =
        let k = turning s fit in
        let low : ℕ = low_part (bits_of size) win.bound in
        let middle : ℕ = next_of a win.compare_size in
        let goes = taken size (value s) low (value_below size x s fit) bound_below win.condition.0 ((next + win.distance) % 2 ^ 32) next w.default w.path w.count k in
        let p : Bool = if is_above win.condition.0 then not (nat_lt (value s) w.count) else nat_lt (value s) w.count in
        let step = compare_step m r decoded decodes start a win.compare_size size x win.bound s win.compares win.place ∙ ap (λ o. allowed o s (At middle (after s))) e in
        quiet_more sc 1 a middle (if nat_lt (value s) w.count then w.path else w.default) s (after s) (after s)
        (quiet_more sc 0 a a middle s s (after s) (quiet_none sc a s) step refl)
        (branch_step m r decoded decodes start middle win.branch_size win.condition win.distance (after s) p win.branches k.truth k.calm ∙ ap (λ d. At d (after s)) goes) refl

    -- ---- where the index isn't too great

    abbrev many_steps : ℕ
    many_steps = 2 + length win.insts + 1

    record Reached (s : State) (u : World) : Type 0 where
      pub state : State
      pub world : World
      pub quiet : Quiet sc (2 + length win.insts + 1) a s (target_of m w (value s)) state
      pub leads : block_leads last u ≡ To (3 + value s) world
      pub stands : Stands state world

    abbrev path_stmts : List Stmt
    path_stmts = path ++ reads W win.goal

    -- the path is gone along, and the jump's word is read
    jumped : (s : State) (u : World) (e : Entered s u) → true ≡ nat_lt (value s) w.count
        → Along sc m win.index (value s) (2 + length win.insts) a s w.jump (after_all win.index (at_first win.index) win.insts) path e.world
        → EndsThere sc (2 + length win.insts + 1) a s (path ++ reads W win.goal) e.world ⊎ Reached s e.world
    jumped s u e c along = by (refused_read (i.JmpTo win.goal) along.state) refl
      where
        lt : value s < w.count
        lt = ltb-true (value s) w.count (sym c)

        known : Known
        known = after_all win.index (at_first win.index) win.insts

        there : Onward State Ending
        there = At (frozen_word m (w.table + 4 * value s)) along.state

        step : step_at sc w.jump along.state ≡ allowed (refused_read (i.JmpTo win.goal) along.state) along.state there
        step = jump_step m r decoded decodes start win.index known (value s) w.jump win.jump_size w.count w.table win.goal along.state win.jumps win.through along.holds
            (bytes_fit along.state along.world along.is along.stands) along.frozen win.entries lt

        read : ℕ × ℕ → (v : World) × RunsTo (refused along.world.pages.read (operand_read W win.goal along.state.regs along.state.fs along.state.gs)) (reads W win.goal) along.world v × Stands along.state v
        read z = reads_stand win.goal 0 along.state along.world along.is along.stands

        same_read : (o : Option ℕ) → refused_read (i.JmpTo win.goal) along.state ≡ o → refused along.world.pages.read (operand_read W win.goal along.state.regs along.state.fs along.state.gs) ≡ o
        same_read o h =
            ap (λ p. refused p.read (operand_read W win.goal along.state.regs along.state.fs along.state.gs)) (sym along.stands.pages)
            ∙ sym (first_alone (refused along.state.pages.read (operand_read W win.goal along.state.regs along.state.fs along.state.gs))) ∙ h

        by : (o : Option ℕ) → refused_read (i.JmpTo win.goal) along.state ≡ o → EndsThere sc (2 + length win.insts + 1) a s (path ++ reads W win.goal) e.world ⊎ Reached s e.world
        by (Some bad) h =
            let (v, runs, st) = read (0, 0) in
            let out = runs_out (refused along.world.pages.read (operand_read W win.goal along.state.regs along.state.fs along.state.gs)) (reads W win.goal) along.world v bad (same_read (Some bad) h) runs in
            inl (record {
              ending = Faulted 14 bad along.state.mem along.state.calls;
              stops = stops_here sc (2 + length win.insts) a w.jump s along.state bad (refused_read (i.JmpTo win.goal) along.state) there along.quiet step h;
              halts = halts_then path (reads W win.goal) e.world along.world (outcome.Faulted 14 bad along.state.mem along.state.calls) along.runs
                  (out ∙ ap (λ q. Halt (outcome.Faulted 14 bad q along.world.calls)) (sym along.stands.mem) ∙ ap (λ q. Halt (outcome.Faulted 14 bad along.state.mem q)) (sym along.stands.calls));
            })
        by None h =
            let (v, runs, st) = read (0, 0) in
            let on = runs_on (refused along.world.pages.read (operand_read W win.goal along.state.regs along.state.fs along.state.gs)) (reads W win.goal) along.world v (same_read None h) runs in
            inr (record {
              state = along.state;
              world = v;
              quiet = quiet_more sc (2 + length win.insts) a w.jump (target_of m w (value s)) s along.state along.state along.quiet (step ∙ ap (λ o. allowed o along.state there) h) refl;
              leads = second_leads w.path saved w.count (path ++ reads W win.goal) cases parts.keeps parts.case_leads (value s) e.world v e.copy lt (runs_append path (reads W win.goal) along.runs on);
              stands = st;
            })

    reached : (s : State) (u : World) → Follows m s u → refused_read compare s ≡ None → (e : Entered s u) → true ≡ nat_lt (value s) w.count
        → EndsThere sc (2 + length win.insts + 1) a s (path ++ reads W win.goal) e.world ⊎ Reached s e.world
    reached s u f allowed_read e c =
        let fit = regs_fit s u f.world f.stands in
        let q : Quiet sc 2 a s w.path (after s) = subst (λ d. Quiet sc 2 a s (if d then w.path else w.default) (after s)) (sym c) (start_quiet s fit allowed_read) in
        elim (path_along m r decoded decodes start win.index (value s) 2 a w.path w.jump s (after s) (at_first win.index) e.world win.insts path q e.is e.stands f.frozen_bytes (first_holds win.index win.bound s) parts.lifted) [
          | inl p ↦ inl (record {
            ending = p.ending;
            stops = stops_later sc (2 + length win.insts) (2 + length win.insts + 1) a s p.ending (omega arith) p.stops;
            halts = halts_append path (reads W win.goal) e.world (ending_outcome p.ending) p.halts;
          })
          | inr along ↦ jumped s u e c along
        ]

    -- ---- both

    abbrev most : State → ℕ
    most s = if nat_lt (value s) w.count then 2 + length win.insts + 1 else 2

    abbrev moves : State → ℕ
    moves s = up_to sc (most s) a s

    some_by : (c : Bool) (n : ℕ) → 0 < (if c then 2 + n + 1 else 2)
    some_by true n = omega arith
    some_by false n = omega arith

    -- What is told of the machine's steps, and that the blocks do the same.
    record Done (n : ℕ) (s : State) (u : World) : Type 0 where
      pub onward : Onward State Ending
      pub told : Told sc n a s onward
      pub matches : Matches 2 (window_successors m w) onward (through 2 blocks (block_leads first u))

    done_barred : (n : ℕ) (s : State) (u : World) → 1 ≤ n → Follows m s u → (bad : ℕ) → refused_read compare s ≡ Some bad → Done n s u
    done_barred n s u l f bad e = record {
      onward = Finished (Faulted 14 bad s.mem s.calls);
      told = stops_told sc n a s (Faulted 14 bad s.mem s.calls) (stops_later sc 1 n a s (Faulted 14 bad s.mem s.calls) l (start_stops s bad e));
      matches = subst (λ y. Matches 2 (window_successors m w) (Finished (Faulted 14 bad s.mem s.calls)) (through 2 blocks y)) (sym (barred s u f.world f.stands bad e)) refl;
    }

    done_by : (c : Bool) (s : State) (u : World) → Follows m s u → refused_read compare s ≡ None → c ≡ nat_lt (value s) w.count → Done (if c then 2 + length win.insts + 1 else 2) s u
    done_by true s u f allowed_read c =
        let e = entered s u f.world f.stands allowed_read in
        let lt : value s < w.count = ltb-true (value s) w.count (sym c) in
        let leads : block_leads first u ≡ To 1 e.world = subst (λ d. block_leads first u ≡ To (if d then 1 else 2) e.world) (sym c) e.leads in
        elim (reached s u f allowed_read e c) [
          | inl p ↦ record {
            onward = Finished p.ending;
            told = stops_told sc (2 + length win.insts + 1) a s p.ending p.stops;
            matches = subst (λ y. Matches 2 (window_successors m w) (Finished p.ending) (through 2 blocks y)) (sym leads)
                (subst (λ y. Matches 2 (window_successors m w) (Finished p.ending) y) (sym (block_ends last e.world (ending_outcome p.ending) p.halts)) refl);
          }
          | inr h ↦ record {
            onward = At (target_of m w (value s)) h.state;
            told = quiet_told sc (2 + length win.insts + 1) a s (target_of m w (value s)) h.state h.quiet;
            matches = subst (λ y. Matches 2 (window_successors m w) (At (target_of m w (value s)) h.state) (through 2 blocks y)) (sym leads)
                (subst (λ y. Matches 2 (window_successors m w) (At (target_of m w (value s)) h.state) y) (sym h.leads)
                (suc (value s), omega arith, target_got m w w.count (value s) lt, h.stands));
          }
        ]
    done_by false s u f allowed_read c =
        let e = entered s u f.world f.stands allowed_read in
        let leads : block_leads first u ≡ To 2 e.world = subst (λ d. block_leads first u ≡ To (if d then 1 else 2) e.world) (sym c) e.leads in
        let q : Quiet sc 2 a s w.default (after s) = subst (λ d. Quiet sc 2 a s (if d then w.path else w.default) (after s)) (sym c) (start_quiet s (regs_fit s u f.world f.stands) allowed_read) in
        record {
          onward = At w.default (after s);
          told = quiet_told sc 2 a s w.default (after s) q;
          matches = subst (λ y. Matches 2 (window_successors m w) (At w.default (after s)) (through 2 blocks y)) (sym leads) (0, refl, refl, e.stands);
        }

    done : (s : State) (u : World) → Follows m s u → Done (most s) s u
    done s u f = by (refused_read compare s) refl
      where
        by : (o : Option ℕ) → refused_read compare s ≡ o → Done (most s) s u
        by (Some bad) e = done_barred (most s) s u (some_by (nat_lt (value s) w.count) (length win.insts)) f bad e
        by None e = done_by (nat_lt (value s) w.count) s u f e refl

    effect : (s : State) (u : World) → Follows m s u → Matches 2 (window_successors m w) (run_from sc (moves s) a s) (through 2 blocks (block_leads first u))
    effect s u f = let d = done s u f in subst (λ o. Matches 2 (window_successors m w) o (through 2 blocks (block_leads first u))) (sym d.told.leads) d.matches

    -- ---- from every world

    abbrev ready : ℕ → World → Bool
    ready n u = nat_eq n 0 || nat_lt (u.names (name.T saved)) w.count

    many : 2 + length (window_successors m w) ≡ 3 + w.count
    many = let e = targets_length m w w.count in let f : length (window_successors m w) ≡ suc (length (targets_of m w w.count)) = refl in omega (arith, e, f)

    path_ready : AreQuiet (path ++ reads W win.goal)
    path_ready = quiet_append path (reads W win.goal) (path_quiet m r w.path w.jump win.insts path parts.lifted) (reads_quiet win.goal (begins_formed m r w.jump (i.JmpTo win.goal) win.jump_size win.jumps))

    first_stays : (c : Bool) (u : World) → IsWorld u → Stays (2 + length (window_successors m w)) (To (if c then 1 else 2) u)
    first_stays true u is = (omega (arith, many), is)
    first_stays false u is = (omega (arith, many), is)

    steady : (n : ℕ) (u : World) → n < 2 → IsWorld u → ready n u ≡ true → Stays (2 + length (window_successors m w)) (enter (slice_get blocks n) u)
    steady zero u l is e = by (refused_read compare (any_state u)) refl
      where
        by : (o : Option ℕ) → refused_read compare (any_state u) ≡ o → Stays (2 + length (window_successors m w)) (enter (slice_get blocks 0) u)
        by (Some bad) g = subst (λ y. Stays (2 + length (window_successors m w)) y) (sym (barred (any_state u) u is (any_stands u) bad g)) tt
        by None g =
            let h = entered (any_state u) u is (any_stands u) g in
            subst (λ y. Stays (2 + length (window_successors m w)) y) (sym h.leads) (first_stays (nat_lt (value (any_state u)) w.count) h.world h.is)
    steady (suc zero) u l is e =
        let k : ℕ = u.names (name.T saved) in
        let lt : k < w.count = ltb-true k w.count e in
        elim (second_stays w.path saved w.count (path ++ reads W win.goal) cases parts.keeps parts.case_leads path_ready k u is refl lt) [
          | inl (v, leads, there) ↦ subst (λ y. Stays (2 + length (window_successors m w)) y) (sym leads) (omega (arith, many, lt), there)
          | inr (q, ends) ↦ subst (λ y. Stays (2 + length (window_successors m w)) y) (sym ends) tt
        ]
    steady (suc (suc n)) u l is e = absurd (let z : ⊥ = omega (arith, l) in z)

    first_onward : (c : Bool) (k : ℕ) (s : State) (v u : World) → c ≡ nat_lt (value s) w.count → v.names (name.T saved) ≡ value s → ◌≡◌ {A = Arrive} (To (if c then 1 else 2) v) (To k u) → k < 2 → ready k u ≡ true
    first_onward true k s v u c copy e l =
        let same : v ≡ u = cc in
        let one : 1 ≡ k = cc in
        let here : nat_lt (u.names (name.T saved)) w.count ≡ true = subst (λ y. nat_lt (y.names (name.T saved)) w.count ≡ true) same (ap (λ n. nat_lt n w.count) copy ∙ sym c) in
        subst (λ n. ready n u ≡ true) one here
    first_onward false k s v u c copy e l = let two : 2 ≡ k = cc in absurd (let z : ⊥ = omega (arith, l, two) in z)

    onward : (n k : ℕ) (u v : World) → n < 2 → IsWorld u → ready n u ≡ true → enter (slice_get blocks n) u ≡ To k v → k < 2 → ready k v ≡ true
    onward zero k u v l is e g lt = by (refused_read compare (any_state u)) refl
      where
        by : (o : Option ℕ) → refused_read compare (any_state u) ≡ o → ready k v ≡ true
        by (Some bad) f = absurd (let z : ◌≡◌ {A = Arrive} (End (outcome.Faulted 14 bad (any_state u).mem (any_state u).calls)) (To k v) = sym (barred (any_state u) u is (any_stands u) bad f) ∙ g in cc)
        by None f =
            let h = entered (any_state u) u is (any_stands u) f in
            first_onward (nat_lt (value (any_state u)) w.count) k (any_state u) h.world v refl h.copy (sym h.leads ∙ g) lt
    onward (suc zero) k u v l is e g lt =
        let x : ℕ = u.names (name.T saved) in
        let small : x < w.count = ltb-true x w.count e in
        elim (second_stays w.path saved w.count (path ++ reads W win.goal) cases parts.keeps parts.case_leads path_ready x u is refl small) [
          | inl (y, leads, there) ↦ absurd (far x k y v (sym leads ∙ g) lt)
          | inr (q, ends) ↦ absurd (no_end q k v (sym ends ∙ g))
        ]
      where
        far : (x k : ℕ) (y v : World) → ◌≡◌ {A = Arrive} (To (3 + x) y) (To k v) → k < 2 → ⊥
        far x k y v e l = let same : 3 + x ≡ k = cc in omega (arith, same, l)

        no_end : (q : Outcome) (k : ℕ) (v : World) → ◌≡◌ {A = Arrive} (End q) (To k v) → ⊥
        no_end q k v e = cc
    onward (suc (suc n)) k u v l is e g lt = absurd (let z : ⊥ = omega (arith, l) in z)

    -- the piece of the window is covered
    pub window_covered : IsCovered (scene m r decoded decodes start) (record { at = a; blocks = first ∷ last ∷ []; successors = window_successors m w })
    window_covered = record {
      begins = omega arith;
      moves = moves;
      some_move = λ s. some_step sc (most s) a s (some_by (nat_lt (value s) w.count) (length win.insts));
      between = λ s u k f l. (done s u f).told.between k l;
      effect = effect;
      ready = ready;
      ready_first = λ u. refl;
      steady = steady;
      onward = onward;
    }

  -- ---- their rule and their counts

  copy_flow : saved < 2 ^ 31 → IsTrue (are_flow_stmts (stmt.Set (name.T saved) (value_word size x) ∷ []))
  copy_flow l =
      let formed = and_parts (is_formed_operand x) (is_formed_operand (o.Imm win.bound) && not (is_memory x && is_memory (o.Imm win.bound)))
      (begins_formed m r a (i.Alu Cmp size x (o.Imm win.bound)) win.compare_size win.compares) in
      let target : IsTrue (is_flow_target (name.T saved)) = both_hold (nat_lt saved (2 ^ 31)) true (below_test saved (2 ^ 31) l) refl in
      let word : IsTrue (is_flow_word (value_word size x)) = fit_word 3 (value_word size x) (lit≤ tt) (value_fit size x formed.0) in
      both_hold (is_flow_target (name.T saved) && is_flow_word (value_word size x)) true (both_hold (is_flow_target (name.T saved)) (is_flow_word (value_word size x)) target word) refl

  end_flow : (above : Bool) → IsTrue (is_flow_cond t) → IsTrue (is_flow_end (first_end above t))
  end_flow true h = h
  end_flow false h = h

  end_calls : (above : Bool) → calls_of_end (first_end above t) ≡ 0
  end_calls true = refl
  end_calls false = refl

  path_given : AreQuiet (path ++ reads W win.goal)
  path_given = quiet_append path (reads W win.goal) (path_quiet m r w.path w.jump win.insts path parts.lifted) (reads_quiet win.goal (begins_formed m r w.jump (i.JmpTo win.goal) win.jump_size win.jumps))

  compare_quiet : AreQuiet b.stmts
  compare_quiet = straight_quiet (i.Alu Cmp size x (o.Imm win.bound)) a (next_of a win.compare_size) b parts.compare

  pub window_rule : saved < 2 ^ 31 → IsTrue (is_flow_cond t) → IsTrue (have_words cases) → IsTrue (are_flow_blocks (first ∷ last ∷ []))
  window_rule l c h =
      let ends = fit_word 1 (temp saved) (lit≤ tt) (temp_fit 1 saved (lit≤ tt) l) in
      both_hold (is_flow_block first) (is_flow_block last && true)
      (both_hold (are_flow_stmts first.stmts) (is_flow_end first.end) (flow_append b.stmts (stmt.Set (name.T saved) (value_word size x) ∷ []) compare_quiet.flow (copy_flow l)) (end_flow (is_above win.condition.0) c))
      (both_hold (is_flow_block last) true (both_hold (are_flow_stmts last.stmts) (is_flow_end last.end) path_given.flow (both_hold (is_flow_word (named (name.T saved))) (have_words cases) ends h)) refl)

  pub window_stores : stores_of (first ∷ last ∷ []) ≡ 0
  window_stores =
      let p = stores_append b.stmts (stmt.Set (name.T saved) (value_word size x) ∷ []) in
      let q = compare_quiet.stores in
      let s = path_given.stores in
      omega (arith, p, q, s)

  pub window_calls : calls_of (first ∷ last ∷ []) ≡ 0
  window_calls =
      let p = calls_append b.stmts (stmt.Set (name.T saved) (value_word size x) ∷ []) in
      let q = compare_quiet.calls in
      let s = path_given.calls in
      let e = end_calls (is_above win.condition.0) in
      omega (arith, p, q, s, e)
