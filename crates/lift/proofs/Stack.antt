-- The blocks of PUSH, POP and LEAVE have their effects.
use Rattle.std.proofs.Common.{◌≡◌, ℕ, ◌+◌, ◌%◌, ◌^◌, ◌<◌, List, [], ◌∷◌, Option, Some, None, refl, sym, ap, ◌∙◌, subst, arith}
use Rattle.std.proofs.lemmas.Nat.{mod_below}
use Rattle.dream_words.specs.declared.machine.Name.TheVariants as name
use Rattle.dream_words.specs.Memory.{load}
use Rattle.dream_words.specs.Pages.{first_bad}
use Rattle.dream_words.specs.Registers.{with_reg}
use Rattle.dream_words.specs.Words.{low_part}
use Rattle.run_parts.specs.World.{Names, World, with_name}
use Rattle.x86_inst.specs.declared.Inst.TheVariants as i
use Rattle.x86_inst.specs.declared.Size.TheVariants.{W}
use Rattle.x86_inst.specs.declared.Operand.{Operand}
use Rattle.x86_model.specs.declared.effect.Step.{Step}
use Rattle.x86_model.specs.Arithmetic.{minus_of}
use Rattle.x86_model.specs.Effects.{done, push}
use Rattle.x86_model.specs.Leads.{after, stored}
use Rattle.x86_model.specs.Operands.{value_of, width_of}
use Rattle.x86_model.specs.Rows.{leave_row, pop_row, popped, push_row}
use Rattle.c_syntax.specs.declared.syntax.CBin.TheVariants as op
use Rattle.c_syntax.specs.Value.{word_of}
use Rattle.c_words.specs.Built.{bin, num}
use Rattle.micro_ir.specs.declared.flow.Stmt.{Stmt}
use Rattle.micro_ir.specs.declared.flow.Stmt.TheVariants as stmt
use Rattle.lift_parts.specs.Parts.{raw_word, reads, reg, temp}
use Rattle.lift_parts.specs.Shown.{AreNames, Runs, RunsTo, Shows}
use Rattle.lift_parts.specs.Stands.{FlagsStand, Stands, state_in}
use Rattle.lift_parts.proofs.Chains.{first_of_none, load_runs, none_run, runs_by, set_runs, set_runs_to}
use Rattle.lift_parts.proofs.Values.{load_fits, raw_is}
use Rattle.lift_parts.proofs.Writes.{Pushed, names_set, pushes_run, reg_set, shows_temp, write_after}
use Rattle.lift.specs.Blocks.{leave_stmts, pop_stmts, pops, push_stmts}
use Rattle.lift_blocks.specs.Effects.{GoesOn, LeadsOn}
use Rattle.lift_parts.proofs.Kept.{AfterRead, flags_stay, reads_run}
use Rattle.lift_blocks.proofs.Common.{KeepsRest, by_step, kept, leads_next, local_kept, puts_from, read_keeps, reg_kept}
use Rattle.lift_blocks.proofs.MoveWords.{bin_value, same_low, name_value, num_value}

-- ---- PUSH

-- the world after a push stands for the state after it
pushed_stands : (value : ℕ) (a : Step) (w u t : World) → FlagsStand a.flags w.names → KeepsRest w u → Pushed value a (done a a.flags) u t
    → Stands (after (push value a (done a a.flags)) (state_in w a.flags)) t
pushed_stands value a w u t h k r = record {
  regs = sym r.regs;
  flags = flags_stay a.flags w.names t.names (λ n. r.flags n ∙ k.flags n) h;
  fs = sym (r.fs ∙ k.fs);
  gs = sym (r.gs ∙ k.gs);
  mem = sym (r.mem ∙ ap (λ m. stored m (push value a (done a a.flags)).store) k.mem);
  pages = sym (r.pages ∙ k.pages);
  left = sym (r.left ∙ k.left);
  calls = sym (r.calls ∙ k.calls);
}

-- the word is kept in t2 before ESP falls
push_from : (bad : Option ℕ) (s : Operand) (a : Step) (w u : World) (x : ℕ) → FlagsStand a.flags w.names → RunsTo bad (reads W s) w u → AfterRead a w u
    → word_of (raw_word W s) u.names ≡ Some x → x < 2 ^ 32 → low_part 32 x ≡ value_of W s a
    → LeadsOn bad (push_row s a).go (push_row s a) (state_in w a.flags) (push_stmts s) w
push_from bad s a w u x h r k is fits low =
    let v : Names = with_name u.names (name.T 2) x in
    let (t, runs, pushed) = pushes_run (temp 2) x (value_of W s a) a (done a a.flags) (record u { names = v }) (names_set u.names (name.T 2) x k.names fits)
    (shows_temp a u.names 2 x k.shows) k.shows.regs (name_value (with_name v (name.Reg 4) (minus_of 32 a.regs.esp 4)) (name.T 2)) (same_low W x (value_of W s a) low) in
    leads_next bad (push_row s a) (state_in w a.flags) (push_stmts s) w t refl
    (write_after bad (push_row s a).store (reads W s) _ k.mem k.pages k.calls r (set_runs_to _ (name.T 2) (raw_word W s) x is runs))
    (pushed_stands (value_of W s a) a w (record u { names = v }) t h (local_kept w u 2 x (read_keeps a w u k)) pushed)

pub push_goes : (s : Operand) (next : ℕ) → GoesOn (i.Push s) next (push_stmts s)
push_goes s next = by_step (i.Push s) next (push_stmts s) (λ a. refl) (λ a w b.
    let (u, runs, after, shown) = reads_run W s a w b.names b.bytes b.shows b.first in
    let (x, is, fits, low) = raw_is a u.names after.names after.shows W s shown in
    push_from _ s a w u x b.flags runs after is fits low)

-- ---- POP

-- a register plus 4
plus_four : (v : Names) (n : ℕ) → word_of (bin op.Add (reg n) (num 4)) v ≡ Some (low_part 32 (v (name.Reg n) + 4))
plus_four v n = bin_value v op.Add (reg n) (num 4) (v (name.Reg n)) 4 (name_value v (name.Reg n)) (num_value v 4)

-- the names after a word was read, and after ESP grew by 4 besides
abbrev taken : Names → ℕ → Names
taken v x = with_name v (name.T 0) x

abbrev raised : Names → ℕ → Names
raised v x = with_name (taken v x) (name.Reg 4) (low_part 32 (v (name.Reg 4) + 4))

-- the step with the stack pointer raised
abbrev popping : Step → Step
popping a = record a { regs = popped 4 a.regs }

raised_shows : (a : Step) (v : Names) (x : ℕ) → Shows a v → Shows (popping a) (raised v x)
raised_shows a v x s = record { regs = reg_set (taken v x) 4 (low_part 32 (v (name.Reg 4) + 4)) ∙ ap (popped 4) s.regs; fs = s.fs; gs = s.gs }

raised_names : (v : Names) (x : ℕ) → AreNames v → x < 2 ^ 32 → AreNames (raised v x)
raised_names v x h k = names_set (taken v x) (name.Reg 4) (low_part 32 (v (name.Reg 4) + 4)) (names_set v (name.T 0) x h k) (mod_below _ (2 ^ 32) (omega arith))

-- the word at ESP is read, and ESP grows
abbrev pop_begins : List Stmt
pop_begins = stmt.Load (name.T 0) (width_of W) (reg 4) ∷ pops 4 ∷ []

pop_begins_run : (a : Step) (w : World) → Shows a w.names → RunsTo (first_bad w.pages.read a.regs.esp 4) pop_begins w (record w { names = raised w.names (load w.mem a.regs.esp 4) })
pop_begins_run a w s =
    load_runs (name.T 0) (width_of W) (reg 4) a.regs.esp (name_value w.names (name.Reg 4) ∙ ap (λ r. Some r.esp) s.regs)
    (set_runs (name.Reg 4) (bin op.Add (reg 4) (num 4)) (low_part 32 (w.names (name.Reg 4) + 4)) (plus_four (taken w.names (load w.mem a.regs.esp 4)) 4)
    (none_run (record w { names = raised w.names (load w.mem a.regs.esp 4) })))

-- the word is put, with an address of memory that is computed after ESP grew
pop_from : (bad : Option ℕ) (d : Operand) (a : Step) (w : World) (x : ℕ) → AreNames w.names → Shows a w.names → FlagsStand a.flags w.names → a.first ≡ x → x < 2 ^ 32
    → RunsTo bad pop_begins w (record w { names = raised w.names x }) → LeadsOn bad (pop_row d a).go (pop_row d a) (state_in w a.flags) (pop_stmts d) w
pop_from bad d a w x h s f e l r =
    puts_from bad W d (temp 0) x a.first a (popping a) pop_begins w (record w { names = raised w.names x }) f r (reg_kept w (record w { names = taken w.names x }) 4 _ (local_kept w w 0 x (kept w)))
    (raised_names w.names x h l) (raised_shows a w.names x s) (name_value (raised w.names x) (name.T 0)) l (ap (low_part 32) (sym e))

pub pop_goes : (d : Operand) (next : ℕ) → GoesOn (i.Pop d) next (pop_stmts d)
pop_goes d next = by_step (i.Pop d) next (pop_stmts d) (λ a. refl) (λ a w b.
    pop_from _ d a w (load w.mem a.regs.esp 4) b.names b.shows b.flags b.first (load_fits w.mem b.bytes a.regs.esp W) (pop_begins_run a w b.shows))

-- ---- LEAVE

-- the names after ESP became EBP plus 4, and EBP the word that was read
abbrev left_by : Names → ℕ → Names
left_by v x = with_name (with_name (taken v x) (name.Reg 4) (low_part 32 (v (name.Reg 5) + 4))) (name.Reg 5) x

abbrev leave_rest : List Stmt
leave_rest = stmt.Set (name.Reg 4) (bin op.Add (reg 5) (num 4)) ∷ stmt.Set (name.Reg 5) (temp 0) ∷ []

leave_runs : (a : Step) (w : World) (x : ℕ) → Shows a w.names → load w.mem a.regs.ebp 4 ≡ x → RunsTo (first_bad w.pages.read a.regs.ebp 4) leave_stmts w (record w { names = left_by w.names x })
leave_runs a w x s e =
    load_runs (name.T 0) (width_of W) (reg 5) a.regs.ebp (name_value w.names (name.Reg 5) ∙ ap (λ r. Some r.ebp) s.regs)
    (subst (λ k. Runs leave_rest (record w { names = taken w.names k }) (record w { names = left_by w.names x })) (sym e)
    (set_runs (name.Reg 4) (bin op.Add (reg 5) (num 4)) (low_part 32 (w.names (name.Reg 5) + 4)) (plus_four (taken w.names x) 5)
    (set_runs (name.Reg 5) (temp 0) x (name_value _ (name.T 0)) (none_run (record w { names = left_by w.names x })))))

left_stands : (a : Step) (w : World) → Shows a w.names → FlagsStand a.flags w.names → Stands (after (leave_row a) (state_in w a.flags)) (record w { names = left_by w.names a.first })
left_stands a w s f =
    let v : Names = taken w.names a.first in
    let u : Names = with_name v (name.Reg 4) (low_part 32 (w.names (name.Reg 5) + 4)) in
    record {
      regs = sym (reg_set u 5 a.first ∙ ap (λ r. with_reg r 5 a.first) (reg_set v 4 (low_part 32 (w.names (name.Reg 5) + 4)))
          ∙ ap (λ r. with_reg (with_reg r 4 ((r.ebp + 4) % 2 ^ 32)) 5 a.first) s.regs);
      flags = record { c = f.c; p = f.p; z = f.z; s = f.s; o = f.o };
      fs = refl;
      gs = refl;
      mem = refl;
      pages = refl;
      left = refl;
      calls = refl;
    }

pub leave_goes : (next : ℕ) → GoesOn i.Leave next leave_stmts
leave_goes next = by_step i.Leave next leave_stmts (λ a. refl) (λ a w b.
    let bad : Option ℕ = first_bad w.pages.read a.regs.ebp 4 in
    leads_next bad (leave_row a) (state_in w a.flags) leave_stmts w (record w { names = left_by w.names a.first }) refl
    (runs_by bad _ (sym (first_of_none bad)) (leave_runs a w a.first b.shows (sym b.first))) (left_stands a w b.shows b.flags))
