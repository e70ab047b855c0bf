-- The second block of a window: the path, and the switch by the copy of the index.
use Rattle.std.proofs.Common.{◌≡◌, ◌⊎◌, inl, inr, ℕ, ◌+◌, ◌<◌, true, false, List, Some, refl, sym, ap, ◌∙◌}
use Rattle.std.specs.List.{list_any}
use Rattle.dream_words.specs.declared.machine.Bit.TheVariants.{Undefined}
use Rattle.dream_words.specs.declared.machine.Flags.{Flags}
use Rattle.dream_words.specs.declared.machine.Name.{Name}
use Rattle.dream_words.specs.declared.machine.Name.TheVariants as name
use Rattle.dream_words.specs.declared.outcome.Outcome.{Outcome}
use Rattle.x86_inst.specs.declared.Inst.TheVariants as i
use Rattle.x86_inst.specs.declared.Operand.{Operand}
use Rattle.x86_inst.specs.declared.Size.TheVariants.{W}
use Rattle.x86_formed.specs.Formed.{is_formed_operand}
use Rattle.x86_model.specs.declared.effect.Step.{Step}
use Rattle.x86_model.specs.Leads.{read_by, refused, step_of}
use Rattle.x86_model.specs.Machine.{State}
use Rattle.x86_model.specs.Reads.{operand_read}
use Rattle.run_parts.specs.Effects.{Doing}
use Rattle.run_parts.specs.Steps.{Next, Halt, Jam, To, End, arrive}
use Rattle.run_parts.specs.World.{Names, World}
use Rattle.c_syntax.specs.Value.{word_of}
use Rattle.c_words.specs.Built.{name as named}
use Rattle.c_words.proofs.Layers.{word_layer}
use Rattle.micro_ir.specs.declared.flow.Block.{Block}
use Rattle.micro_ir.specs.declared.flow.Case.{Case}
use Rattle.micro_ir.specs.declared.flow.End.TheVariants as end
use Rattle.micro_ir.specs.declared.flow.Stmt.{Stmt}
use Rattle.micro_ir.specs.Run.{block_leads, by_value, end_leads, first_case, stmts_do}
use Rattle.micro_ir.specs.World.{IsWorld}
use Rattle.lift_parts.specs.Parts.{reads}
use Rattle.lift_parts.specs.Shown.{Runs, RunsTo, Shows}
use Rattle.lift_parts.specs.Stands.{Stands, state_in}
use Rattle.lift_parts.proofs.Fit.{reads_fit}
use Rattle.lift_parts.proofs.Kept.{flags_stay, reads_run}
use Rattle.lift_parts.proofs.Values.{names_of_world}
use Rattle.window_blocks.specs.Locals.{sets}
use Rattle.window_blocks.proofs.Doing.{Keeps, Settles, local_there, runs_settle, stmts_keep}
use Rattle.window_blocks.proofs.PathRuns.{AreQuiet}

-- ---- the read of the jump's word

-- from a world that stands for a state it leads to another one that does
pub reads_stand : (p : Operand) (next : ℕ) (s : State) (w : World) → IsWorld w → Stands s w → (u : World) × RunsTo (refused w.pages.read (operand_read W p s.regs s.fs s.gs)) (reads W p) w u × Stands s u
reads_stand p next s w is st =
    let a : Step = step_of (i.JmpTo p) next s in
    let shown : Shows a w.names = record { regs = sym st.regs; fs = sym st.fs; gs = sym st.gs } in
    let (u, runs, read, first) = reads_run W p a w (names_of_world w is) is.bytes shown (ap (read_by (operand_read W p s.regs s.fs s.gs)) st.mem) in (
      u,
      runs,
      record {
        regs = st.regs ∙ sym read.regs;
        flags = flags_stay s.flags w.names u.names read.flags st.flags;
        fs = st.fs ∙ sym read.fs;
        gs = st.gs ∙ sym read.gs;
        mem = st.mem ∙ sym read.mem;
        pages = st.pages ∙ sym read.pages;
        left = st.left ∙ sym read.left;
        calls = st.calls ∙ sym read.calls;
      },
    )

-- every world stands for a state
pub no_flags : Flags
no_flags = record { c = Undefined; p = Undefined; z = Undefined; s = Undefined; o = Undefined }

pub any_state : World → State
any_state w = state_in w (record { c = Undefined; p = Undefined; z = Undefined; s = Undefined; o = Undefined })

pub any_stands : (w : World) → Stands (any_state w) w
unfolding any_state
any_stands w = record { regs = refl; flags = record { c = tt; p = tt; z = tt; s = tt; o = tt }; fs = refl; gs = refl; mem = refl; pages = refl; left = refl; calls = refl }

pub reads_quiet : (p : Operand) → is_formed_operand p ≡ true → AreQuiet (reads W p)
reads_quiet p e =
    let f = reads_fit W p e in
    record {
      flow = f.flow;
      settles = λ w is. let (u, runs, st) = reads_stand p 0 (any_state w) w is (any_stands w) in
          runs_settle (refused w.pages.read (operand_read W p (any_state w).regs (any_state w).fs (any_state w).gs)) (reads W p) w u f.flow is runs;
      stores = f.stored;
      calls = f.called;
    }

-- ---- the switch

name_is : (n : Name) (v : Names) → word_of (named n) v ≡ Some (v n)
name_is n v = simp word_layer

-- each index leads to its case
pub record CasesLead (count : ℕ) (cases : List Case) : Type 0 where
  pub leads : (x : ℕ) (w : World) → x < count → first_case cases x w ≡ To (3 + x) w

module _ (at saved count : ℕ) (stmts : List Stmt) (cases : List Case) (keeps : list_any (sets saved) stmts ≡ false) (c : CasesLead count cases) where
  abbrev pub second : Block
  second = record { at = at; stmts = stmts; end = end.Switch (named (name.T saved)) cases }

  switch_leads : (x : ℕ) (w u : World) → w.names (name.T saved) ≡ x → x < count → u.names (name.T saved) ≡ w.names (name.T saved) → end_leads (end.Switch (named (name.T saved)) cases) u ≡ To (3 + x) u
  switch_leads x w u e l k = ap (λ o. by_value o cases u) (name_is (name.T saved) u.names ∙ ap (λ n. Some n) (k ∙ e)) ∙ c.leads x u l

  -- a copy that isn't too great leads to its case
  pub second_leads : (x : ℕ) (w u : World) → w.names (name.T saved) ≡ x → x < count → Runs stmts w u → block_leads second w ≡ To (3 + x) u
  second_leads x w u e l r =
      ap (λ d. arrive d (end_leads (end.Switch (named (name.T saved)) cases))) r.runs ∙ switch_leads x w u e l (local_there saved stmts w u keeps r)

  -- from every world with such a copy the block leads there, or the run ends
  second_by : (x : ℕ) (w : World) (d : Doing) → w.names (name.T saved) ≡ x → x < count → Settles d → Keeps saved w d
      → ((u : World) × (arrive d (end_leads (end.Switch (named (name.T saved)) cases)) ≡ To (3 + x) u) × IsWorld u) ⊎ ((o : Outcome) × (arrive d (end_leads (end.Switch (named (name.T saved)) cases)) ≡ End o))
  second_by x w (Next u) e l h k = inl (u, switch_leads x w u e l k, h)
  second_by x w (Halt o) e l h k = inr (o, refl)
  second_by x w Jam e l h k = absurd h

  pub second_stays : AreQuiet stmts → (x : ℕ) (w : World) → IsWorld w → w.names (name.T saved) ≡ x → x < count
      → ((u : World) × (block_leads second w ≡ To (3 + x) u) × IsWorld u) ⊎ ((o : Outcome) × (block_leads second w ≡ End o))
  second_stays q x w is e l = second_by x w (stmts_do stmts w) e l (q.settles w is) (stmts_keep saved stmts w keeps)
