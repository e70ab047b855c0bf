-- The first block of a window: the comparison, the copy of the index, and the branch.
use Rattle.std.proofs.Common.{◌≡◌, ℕ, ◌^◌, ◌<◌, Bool, true, false, if◌then◌else◌, List, [], ◌∷◌, ◌++◌, Option, Some, None, refl, sym, ap, ◌∙◌, subst}
use Rattle.std.specs.Prelude.{not}
use Rattle.std.specs.List.{list_any}
use Rattle.std.proofs.lemmas.Bool.{eq-eqb}
use Rattle.dream_words.specs.declared.machine.Flags.{Flags}
use Rattle.dream_words.specs.declared.machine.Name.TheVariants as name
use Rattle.dream_words.specs.declared.outcome.Outcome.{Outcome}
use Rattle.dream_words.specs.declared.outcome.Outcome.TheVariants as outcome
use Rattle.dream_words.specs.Words.{low_part}
use Rattle.x86_inst.specs.declared.AluOp.TheVariants.{Cmp}
use Rattle.x86_inst.specs.declared.Inst.TheVariants as i
use Rattle.x86_inst.specs.declared.Operand.{Operand}
use Rattle.x86_inst.specs.declared.Operand.TheVariants as o
use Rattle.x86_inst.specs.declared.Size.{Size}
use Rattle.x86_model.specs.declared.effect.Step.{Step}
use Rattle.x86_model.specs.Arithmetic.{difference_flags}
use Rattle.x86_model.specs.Effects.{condition_of}
use Rattle.x86_model.specs.declared.effect.Go.TheVariants as go
use Rattle.x86_model.specs.Leads.{effect_in, read_by, refused, refused_read, step_of}
use Rattle.x86_model.specs.Leads as access
use Rattle.x86_model.specs.Machine.{State}
use Rattle.x86_model.specs.Operands.{bits_of, value_of}
use Rattle.x86_model.specs.Reads.{pair_read}
use Rattle.run_parts.specs.Effects.{set_word}
use Rattle.run_parts.specs.Steps.{Halt, To, End, arrive}
use Rattle.run_parts.specs.World.{Names, World, with_name}
use Rattle.c_syntax.specs.declared.syntax.CCond.{CCond}
use Rattle.c_syntax.specs.Value.{truth_of, word_of}
use Rattle.micro_ir.specs.declared.flow.Block.{Block}
use Rattle.micro_ir.specs.declared.flow.Stmt.{Stmt}
use Rattle.micro_ir.specs.declared.flow.Stmt.TheVariants as stmt
use Rattle.micro_ir.specs.Run.{block_leads, branch, end_leads, stmts_do}
use Rattle.micro_ir.specs.World.{IsWorld}
use Rattle.micro_ir.proofs.Worlds.{set_stays}
use Rattle.lift_parts.specs.Parts.{pair_reads, value_word}
use Rattle.lift_parts.specs.Shown.{Runs, Shows}
use Rattle.lift_parts.specs.Stands.{FlagsStand, Stands}
use Rattle.lift_parts.proofs.Chains.{none_run, runs_append, set_runs}
use Rattle.lift_parts.proofs.Kept.{flags_temp, pair_reads_run}
use Rattle.lift_parts.proofs.Values.{names_of_world, value_is, value_is_word}
use Rattle.jump_tables.specs.Window.{is_place}
use Rattle.window_steps.specs.Knowledge.{value_in}
use Rattle.window_steps.proofs.Operands.{with_regs}
use Rattle.window_blocks.specs.Locals.{sets}
use Rattle.window_blocks.specs.Shapes.{first_end}
use Rattle.window_blocks.proofs.Doing.{halts_append, local_there, runs_on, runs_rest, world_there}
use Rattle.window_blocks.proofs.Straight.{IsStraight, state_with, straight_flow, straight_halts, straight_runs}

-- ---- the comparison

-- the state after it
abbrev pub compared : Size → Operand → ℕ → State → State
compared size x bound s = with_regs s s.regs (difference_flags (bits_of size) (value_in size x s) (low_part (bits_of size) bound) false)

compare_stores : (next : ℕ) (size : Size) (x : Operand) (bound : ℕ) (s : State) → is_place x ≡ true → (effect_in (i.Alu Cmp size x (o.Imm bound)) next s).store ≡ None
compare_stores next size (o.Reg n) bound s e = refl
compare_stores next size (o.Mem m) bound s e = refl
compare_stores next size (o.Imm k) bound s e = absurd (let z : ⊥ = cc in z)

compare_goes : (next : ℕ) (size : Size) (x : Operand) (bound : ℕ) (s : State) → is_place x ≡ true → (effect_in (i.Alu Cmp size x (o.Imm bound)) next s).go ≡ go.Next
compare_goes next size (o.Reg n) bound s e = refl
compare_goes next size (o.Mem m) bound s e = refl
compare_goes next size (o.Imm k) bound s e = absurd (let z : ⊥ = cc in z)

compare_leaves : (next : ℕ) (size : Size) (x : Operand) (bound : ℕ) (s : State) → is_place x ≡ true → state_with s (effect_in (i.Alu Cmp size x (o.Imm bound)) next s) ≡ compared size x bound s
compare_leaves next size (o.Reg n) bound s e = refl
compare_leaves next size (o.Mem m) bound s e = refl
compare_leaves next size (o.Imm k) bound s e = absurd (let z : ⊥ = cc in z)

-- the first of two accesses isn't refused where none is
first_none : (a b : Option ℕ) → access.first_of a b ≡ None → a ≡ None
first_none None b e = refl
first_none (Some x) b e = absurd (let z : ⊥ = cc in z)

same_value : (next : ℕ) (size : Size) (x : Operand) (bound : ℕ) (s : State) → is_place x ≡ true → value_of size x (step_of (i.Alu Cmp size x (o.Imm bound)) next s) ≡ value_in size x s
same_value next size (o.Reg n) bound s e = refl
same_value next size (o.Mem m) bound s e = refl
same_value next size (o.Imm k) bound s e = absurd (let z : ⊥ = cc in z)

-- ---- the copy

-- a local that is set has its word
set_local : (v : Names) (k x : ℕ) → with_name v (name.T k) x (name.T k) ≡ x
set_local v k x = ap (λ b. if b then x else v (name.T k)) (eq-eqb k k refl)

-- Where the first statements lead: a world that stands for the state after the comparison, and that keeps the index.
pub record Copied (stmts : List Stmt) (saved : ℕ) (s t : State) (n : ℕ) (w : World) : Type 0 where
  pub world : World
  pub runs : Runs stmts w world
  pub is : IsWorld world
  pub stands : Stands t world
  pub copy : world.names (name.T saved) ≡ n

module _ (at next : ℕ) (size : Size) (x : Operand) (bound saved : ℕ) (b : Block) (flags : List Stmt) (straight : IsStraight (i.Alu Cmp size x (o.Imm bound)) at next b)
    (shape : b.stmts ≡ pair_reads size x (o.Imm bound) ++ flags) (keeps : list_any (sets 0) flags ≡ false) (place : is_place x ≡ true) where
  -- where the read is refused the statements end with its fault
  pub copy_halts : (s : State) (w : World) → IsWorld w → Stands s w → (bad : ℕ) → refused_read (i.Alu Cmp size x (o.Imm bound)) s ≡ Some bad
      → stmts_do (b.stmts ++ stmt.Set (name.T saved) (value_word size x) ∷ []) w ≡ Halt (outcome.Faulted 14 bad s.mem s.calls)
  copy_halts s w is st bad e =
      halts_append b.stmts (stmt.Set (name.T saved) (value_word size x) ∷ []) w (outcome.Faulted 14 bad s.mem s.calls)
      (straight_halts (i.Alu Cmp size x (o.Imm bound)) at next b straight s w is st (compare_stores next size x bound s place) (compare_goes next size x bound s place) bad e)

  pub copy_runs : (s : State) (w : World) → IsWorld w → Stands s w → refused_read (i.Alu Cmp size x (o.Imm bound)) s ≡ None → Copied (b.stmts ++ stmt.Set (name.T saved) (value_word size x) ∷ []) saved s (compared size x bound s) (value_in size x s) w
  copy_runs s w is st allowed_read =
      let inst = i.Alu Cmp size x (o.Imm bound) in
      let a : Step = step_of inst next s in
      let t : State = compared size x bound s in
      let (u, runs, led) = straight_runs inst at next b straight s w is st (compare_stores next size x bound s place) (compare_goes next size x bound s place) allowed_read in
      let stands : Stands t u = subst (λ q. Stands q u) (compare_leaves next size x bound s place) led in
      let there : IsWorld u = world_there b.stmts w u (straight_flow inst at next b straight) is runs in
      let shown : Shows a w.names = record { regs = sym st.regs; fs = sym st.fs; gs = sym st.gs } in
      let (v, made, read, first, second) = pair_reads_run size x (o.Imm bound) a w (names_of_world w is) is.bytes shown (ap (read_by (pair_read size x (o.Imm bound) s.regs s.fs s.gs)) st.mem) in
      let unrefused : refused w.pages.read (pair_read size x (o.Imm bound) s.regs s.fs s.gs) ≡ None =
      ap (λ p. refused p.read (pair_read size x (o.Imm bound) s.regs s.fs s.gs)) (sym st.pages) ∙ first_none (refused s.pages.read (pair_read size x (o.Imm bound) s.regs s.fs s.gs)) (refused s.pages.read None) allowed_read in
      let reads = runs_on (refused w.pages.read (pair_read size x (o.Imm bound) s.regs s.fs s.gs)) (pair_reads size x (o.Imm bound)) w v unrefused made in
      let rest : Runs flags v u = runs_rest (pair_reads size x (o.Imm bound)) flags w v u reads (subst (λ ss. Runs ss w u) shape runs) in
      let kept : u.names (name.T 0) ≡ v.names (name.T 0) = local_there 0 flags v u keeps rest in
      let shown_there : Shows a u.names = record { regs = sym stands.regs; fs = sym stands.fs; gs = sym stands.gs } in
      let value : word_of (value_word size x) u.names ≡ Some (value_in size x s) =
      value_is a u.names (names_of_world u there) shown_there size x (record { read = λ e. kept ∙ first.read e }) ∙ ap (λ n. Some n) (same_value next size x bound s place) in
      let small : value_in size x s < 2 ^ 32 = subst (λ n. n < 2 ^ 32) (same_value next size x bound s place) (value_is_word a u.names (names_of_world u there) shown_there size x) in
      record {
        world = set_word (name.T saved) (value_in size x s) u;
        runs = runs_append b.stmts (stmt.Set (name.T saved) (value_word size x) ∷ []) runs (set_runs (name.T saved) (value_word size x) (value_in size x s) value (none_run _));
        is = set_stays u (name.T saved) (value_in size x s) there small;
        stands = record {
          regs = stands.regs;
          flags = flags_temp t.flags u.names saved (value_in size x s) stands.flags;
          fs = stands.fs;
          gs = stands.gs;
          mem = stands.mem;
          pages = stands.pages;
          left = stands.left;
          calls = stands.calls;
        };
        copy = set_local u.names saved (value_in size x s);
      }

-- ---- the branch

-- a Cond is the condition of a number, where that is known
pub record Tells (c : ℕ) (t : CCond) : Type 0 where
  pub tells : (v : Names) (f : Flags) → FlagsStand f v → (p : Bool) × (truth_of t v ≡ Some p) × ((b : Bool) → condition_of c f ≡ Some b → p ≡ b)

branch_by : (above below : Bool) (t : CCond) (w : World) → truth_of t w.names ≡ Some (if above then not below else below) → end_leads (first_end above t) w ≡ To (if below then 1 else 2) w
branch_by true true t w h = ap (λ o. branch o 2 1 w) h
branch_by true false t w h = ap (λ o. branch o 2 1 w) h
branch_by false true t w h = ap (λ o. branch o 1 2 w) h
branch_by false false t w h = ap (λ o. branch o 1 2 w) h

pub first_leads : (at : ℕ) (stmts : List Stmt) (above below : Bool) (c : ℕ) (t : CCond) (f : Flags) (w u : World) → Runs stmts w u → Tells c t → FlagsStand f u.names
    → condition_of c f ≡ Some (if above then not below else below)
    → block_leads (record { at = at; stmts = stmts; end = first_end above t }) w ≡ To (if below then 1 else 2) u
first_leads at stmts above below c t f w u r tells st h =
    let (p, truth, known) = tells.tells u.names f st in
    ap (λ d. arrive d (end_leads (first_end above t))) r.runs
    ∙ branch_by above below t u (truth ∙ ap (λ q. Some q) (known (if above then not below else below) h))

-- a block whose statements end the run ends it
pub block_ends : (b : Block) (w : World) (o : Outcome) → stmts_do b.stmts w ≡ Halt o → block_leads b w ≡ End o
block_ends b w o h = ap (λ d. arrive d (end_leads b.end)) h
