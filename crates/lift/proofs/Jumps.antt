-- The blocks of jumps and calls have the effects of their instructions.
use Rattle.std.proofs.Common.{◌≡◌, ℕ, ◌+◌, ◌%◌, ◌^◌, ◌<◌, Bool, true, false, not, nat_eq, List, [], ◌∷◌, ◌++◌, Option, Some, None, refl, sym, ap, ◌∙◌, subst, lit<, arith}
use Rattle.std.specs.Prelude.{if◌then◌else◌}
use Rattle.std.proofs.Math.Nat.{mod-eq_of_lt}
use Rattle.dream_words.specs.declared.machine.Flags.{Flags}
use Rattle.dream_words.specs.declared.machine.Name.TheVariants as name
use Rattle.dream_words.specs.declared.outcome.Answer.{Answer}
use Rattle.dream_words.specs.declared.outcome.Call.{Call}
use Rattle.dream_words.specs.declared.outcome.Outcome.TheVariants as outcome
use Rattle.dream_words.specs.Memory.{Mem as Memory, load, store, bytes_of}
use Rattle.dream_words.specs.Pages.{first_bad}
use Rattle.dream_words.specs.Registers.{with_reg, reg_of}
use Rattle.dream_words.specs.Words.{low_part}
use Rattle.run_parts.specs.Steps.{Next, having, then_do, arrive}
use Rattle.run_parts.specs.World.{World, with_name, regs_in}
use Rattle.run_parts.specs.Effects.{Doing, allowing, answered_by, calling}
use Rattle.c_syntax.specs.declared.syntax.CBin.TheVariants as op
use Rattle.c_syntax.specs.declared.syntax.CCmp.TheVariants as test
use Rattle.c_syntax.specs.declared.syntax.CExpr.{CExpr}
use Rattle.c_syntax.specs.Value.{word_of, truth_of}
use Rattle.c_words.specs.Built.{num, bin, cmp}
use Rattle.x86_inst.specs.declared.Cond.{Cond}
use Rattle.x86_inst.specs.declared.Inst.{Inst}
use Rattle.x86_inst.specs.declared.Inst.TheVariants as i
use Rattle.x86_inst.specs.declared.Mem.{Mem}
use Rattle.x86_inst.specs.declared.Operand.{Operand}
use Rattle.x86_inst.specs.declared.Operand.TheVariants as o
use Rattle.x86_inst.specs.declared.Size.TheVariants.{W}
use Rattle.x86_model.specs.declared.effect.Effect.{Effect}
use Rattle.x86_model.specs.declared.effect.Go.TheVariants as go
use Rattle.x86_model.specs.declared.effect.Step.{Step}
use Rattle.x86_model.specs.Arithmetic.{minus_of}
use Rattle.x86_model.specs.Effects.{condition_of, reading, done, goes}
use Rattle.x86_model.specs.Machine.{State, At, Ending, Finished, Onward, Returned}
use Rattle.x86_model.specs.Operands.{width_of, address_of, value_of}
use Rattle.x86_model.specs.Leads.{allowed, call_of, answered_or, effect_in, instruction_does, step_does, step_of, leads}
use Rattle.x86_model.specs.Reads.{reads_of}
use Rattle.x86_model.specs.Rows.{is_bare}
use Rattle.micro_ir.specs.declared.flow.Block.{Block}
use Rattle.micro_ir.specs.declared.flow.End.TheVariants as end
use Rattle.micro_ir.specs.declared.flow.Stmt.TheVariants as stmt
use Rattle.micro_ir.specs.Run.{Arrive, branch, end_leads, stmts_do, left_by}
use Rattle.micro_ir.specs.World.{IsWorld}
use Rattle.lift_parts.specs.Parts.{reg, temp, address_word, raw_word, reads}
use Rattle.lift_parts.specs.Stands.{FlagsStand, Stands, state_in}
use Rattle.lift_parts.specs.Lifted.{Matches, through}
use Rattle.lift_alu.specs.Lifts.{IsKnownAs}
use Rattle.lift_alu.specs.Words.{cond_words}
use Rattle.lift_alu.proofs.Truths.{cond_truth}
use Rattle.lift.specs.Blocks.{target, counts_down, call_stmts, call_to_stmts, block_of}
use Rattle.lift_blocks.specs.Effects.{HasEffect}
use Rattle.lift_blocks.proofs.Common.{one_refused}
use Rattle.lift_blocks.proofs.Does.{num_is, name_is, bin_is, cmp_is, minus_is, set_does, load_does, store_does, ext_does, trap_does, names_of, flags_reg, flags_answered, stands_here}
use Rattle.lift_parts.proofs.Values.{address_is, reg_is, load_fits}
use Rattle.lift_parts.proofs.Writes.{store_low}

-- ---- accesses

-- what an access that is allowed leads to, or its fault
allowed_case : (bad : Option ℕ) (succ : List ℕ) (w u : World) (f : Flags) (next : Onward State Ending) (d : Doing) (k : World → Arrive) (blocks : List Block) → u.mem ≡ w.mem → u.calls ≡ w.calls
    → Matches 1 succ next (through 1 blocks (arrive d k)) → Matches 1 succ (allowed bad (state_in w f) next) (through 1 blocks (arrive (allowing bad u d) k))
allowed_case None succ w u f next d k blocks m c h = h
allowed_case (Some at) succ w u f next d k blocks m c h =
    ap (λ m. outcome.Faulted 14 at m w.calls) (sym m) ∙ ap (λ cs. outcome.Faulted 14 at u.mem cs) (sym c)

-- ---- jumps

-- a branch by a truth, where the step jumps by the same truth
branch_case : (to at next : ℕ) (x : Inst) (w : World) (f : Flags) (blocks : List Block) (b p : Bool) → FlagsStand f w.names → p ≡ b
    → Matches 1 (to ∷ next ∷ [])
    (step_does (if b then goes (go.To to) (step_of x next (state_in w f)) else done (step_of x next (state_in w f)) f) at next (state_in w f))
    (through 1 blocks (branch (Some p) 1 2 w))
branch_case to at next x w f blocks true true h e = (0, refl, refl, stands_here w f h)
branch_case to at next x w f blocks false false h e = (1, refl, refl, stands_here w f h)
branch_case to at next x w f blocks true false h e = absurd cc
branch_case to at next x w f blocks false true h e = absurd cc

-- the same by what is known of a truth
branch_known : (to at next : ℕ) (x : Inst) (w : World) (f : Flags) (blocks : List Block) (k : Option Bool) (p : Bool) (r : Option Bool) → FlagsStand f w.names
    → r ≡ Some p → IsKnownAs k p
    → Matches 1 (to ∷ next ∷ [])
    (step_does (reading k (step_of x next (state_in w f)) (λ b. if b then goes (go.To to) (step_of x next (state_in w f)) else done (step_of x next (state_in w f)) f)) at next (state_in w f))
    (through 1 blocks (branch r 1 2 w))
branch_known to at next x w f blocks None p r h e k = tt
branch_known to at next x w f blocks (Some b) p r h e k =
    subst (λ q. Matches 1 (to ∷ next ∷ [])
    (step_does (if b then goes (go.To to) (step_of x next (state_in w f)) else done (step_of x next (state_in w f)) f) at next (state_in w f))
    (through 1 blocks (branch q 1 2 w))) (sym e) (branch_case to at next x w f blocks b p h k)

pub jcc_effect : (c : Cond) (distance at next : ℕ) → HasEffect (i.Jcc c distance) at next (block_of (i.Jcc c distance) at next)
jcc_effect c distance at next = record {
  effect = λ w f is h.
      let t = (cond_truth c.0).truth w.names f h in
      branch_known ((next + distance) % 2 ^ 32) at next (i.Jcc c distance) w f (block_of (i.Jcc c distance) at next ∷ []) (condition_of c.0 f) t.0 (truth_of (cond_words c.0) w.names) h t.1 t.2;
}

pub jecxz_effect : (distance at next : ℕ) → HasEffect (i.Jecxz distance) at next (block_of (i.Jecxz distance) at next)
jecxz_effect distance at next = record {
  effect = λ w f is h.
      let zero_test = cmp_is test.Eq (reg 1) (num 0) w.names (w.names (name.Reg 1)) 0 (name_is (name.Reg 1) w.names) (num_is 0 w.names) in
      branch_known ((next + distance) % 2 ^ 32) at next (i.Jecxz distance) w f (block_of (i.Jecxz distance) at next ∷ []) (Some (nat_eq (w.names (name.Reg 1)) 0)) (nat_eq (w.names (name.Reg 1)) 0)
      (truth_of (cmp test.Eq (reg 1) (num 0)) w.names) h zero_test refl;
}

-- the world after ECX is n
abbrev counted : World → ℕ → World
counted w n = record w { names = with_name w.names (name.Reg 1) n }

stands_counted : (w : World) (f : Flags) (n : ℕ) → FlagsStand f w.names → Stands (record (state_in w f) { regs = with_reg (regs_in w.names) 1 n }) (counted w n)
stands_counted w f n h = record { regs = refl; flags = flags_reg f w.names 1 n h; fs = refl; gs = refl; mem = refl; pages = refl; left = refl; calls = refl }

loop_case : (to at next n : ℕ) (x : Inst) (w : World) (f : Flags) (blocks : List Block) (b : Bool) → FlagsStand f w.names
    → Matches 1 (to ∷ next ∷ [])
    (step_does (record (goes (if b then go.Next else go.To to) (step_of x next (state_in w f))) { regs = with_reg (regs_in w.names) 1 n }) at next (state_in w f))
    (through 1 blocks (branch (Some (not b)) 1 2 (counted w n)))
loop_case to at next n x w f blocks true h = (1, refl, refl, stands_counted w f n h)
loop_case to at next n x w f blocks false h = (0, refl, refl, stands_counted w f n h)

-- where the block leads
loop_leads : (w : World) → IsWorld w
    → arrive (stmts_do (counts_down ∷ []) w) (end_leads (end.Branch (cmp test.Ne (reg 1) (num 0)) 1 2))
    ≡ branch (Some (not (nat_eq (minus_of 32 (w.names (name.Reg 1)) 1) 0))) 1 2 (counted w (minus_of 32 (w.names (name.Reg 1)) 1))
loop_leads w is =
    let ecx = w.names (name.Reg 1) in
    let n = minus_of 32 ecx 1 in
    let value = bin_is op.Sub (reg 1) (num 1) w.names ecx 1 (name_is (name.Reg 1) w.names) (num_is 1 w.names) ∙ ap (λ k. Some k) (minus_is ecx 1 (is.words (name.Reg 1)) (lit< tt)) in
    let u = counted w n in
    let truth = cmp_is test.Ne (reg 1) (num 0) u.names n 0 (name_is (name.Reg 1) u.names) (num_is 0 u.names) in
    ap (λ d. arrive d (end_leads (end.Branch (cmp test.Ne (reg 1) (num 0)) 1 2))) (set_does (name.Reg 1) (bin op.Sub (reg 1) (num 1)) [] w n value)
    ∙ ap (λ r. branch r 1 2 u) truth

pub loop_effect : (distance at next : ℕ) → HasEffect (i.Loop distance) at next (block_of (i.Loop distance) at next)
loop_effect distance at next = record {
  effect = λ w f is h.
      let to = (next + distance) % 2 ^ 32 in
      let n = minus_of 32 (w.names (name.Reg 1)) 1 in
      subst (λ r. Matches 1 (to ∷ next ∷ []) (instruction_does (i.Loop distance) at next (state_in w f)) (through 1 (block_of (i.Loop distance) at next ∷ []) r))
      (sym (loop_leads w is)) (loop_case to at next n (i.Loop distance) w f (block_of (i.Loop distance) at next ∷ []) (nat_eq n 0) h);
}

pub jmp_effect : (distance at next : ℕ) → HasEffect (i.Jmp distance) at next (block_of (i.Jmp distance) at next)
jmp_effect distance at next = record { effect = λ w f is h. (0, refl, refl, stands_here w f h) }

-- ---- returns and faults

pub trap_effect : (vector at next : ℕ) → HasEffect (i.Trap vector) at next (block_of (i.Trap vector) at next)
trap_effect vector at next = record {
  effect = λ w f is h.
      let d = ap (λ d. arrive d (end_leads end.Return)) (trap_does vector (num 1) [] w 1 (num_is 1 w.names)) in
      subst (λ r. Matches 1 [] (instruction_does (i.Trap vector) at next (state_in w f)) (through 1 (block_of (i.Trap vector) at next ∷ []) r)) (sym d) refl;
}

pub ret_effect : (n at next : ℕ) → HasEffect (i.Ret n) at next (block_of (i.Ret n) at next)
ret_effect n at next = record {
  effect = λ w f is h.
      let esp = w.names (name.Reg 4) in
      let value = bin_is op.Add (reg 4) (num (4 + n)) w.names esp (4 + n) (name_is (name.Reg 4) w.names) (num_is (4 + n) w.names) in
      let d = ap (λ d. arrive d (end_leads end.Return)) (set_does (name.Reg 4) (bin op.Add (reg 4) (num (4 + n))) [] w (low_part 32 (esp + (4 + n))) value) in
      subst (λ r. Matches 1 [] (instruction_does (i.Ret n) at next (state_in w f)) (through 1 (block_of (i.Ret n) at next ∷ []) r)) (sym d) refl;
}

-- ---- calls

low_twice : (x : ℕ) → low_part 32 (low_part 32 x) ≡ low_part 32 x
low_twice x = omega arith

-- the world after a word is pushed at an address
abbrev pushed : World → ℕ → Memory → World
pushed w esp mem = record w { names = with_name w.names (name.Reg 4) esp; mem = mem }

-- the state of that world
abbrev pushed_state : World → Flags → ℕ → Memory → State
pushed_state w f esp mem = record (state_in w f) { regs = with_reg (regs_in w.names) 4 esp; mem = mem }

-- a call goes on with its answer, or asks
call_case : (at next esp : ℕ) (w : World) (f : Flags) (mem : Memory) (blocks : List Block) (left : List Answer) (calls : List Call)
    → Matches 1 (next ∷ [])
    (answered_or left calls (λ x rest. At next (record (pushed_state w f esp mem) { regs = x.regs; flags = x.flags; mem = x.mem; left = rest; calls = calls })))
    (through 1 blocks (arrive (then_do (answered_by left calls (pushed w esp mem)) (stmts_do [])) (end_leads (end.Go 1))))
call_case at next esp w f mem blocks [] calls = refl
call_case at next esp w f mem blocks (x ∷ rest) calls =
    (0, refl, refl, record { regs = refl; flags = flags_answered x (pushed w esp mem).names; fs = refl; gs = refl; mem = refl; pages = refl; left = refl; calls = refl })

-- the world after ESP is set alone
abbrev lowered : World → ℕ → World
lowered w esp = record w { names = with_name w.names (name.Reg 4) esp }

-- where the statements of a call lead
call_does : (next to esp : ℕ) (e : CExpr) (w : World) → esp ≡ minus_of 32 (w.names (name.Reg 4)) 4 → w.names (name.Reg 4) < 2 ^ 32
    → word_of e (with_name w.names (name.Reg 4) esp) ≡ Some to
    → stmts_do (call_stmts next e) w
    ≡ allowing (first_bad w.pages.write esp (bytes_of (width_of W))) (lowered w esp)
    (then_do (calling to (pushed w esp (store w.mem esp (bytes_of (width_of W)) next))) (stmts_do []))
call_does next to esp e w s below h =
    let old = w.names (name.Reg 4) in
    let less = bin_is op.Sub (reg 4) (num 4) w.names old 4 (name_is (name.Reg 4) w.names) (num_is 4 w.names) ∙ ap (λ k. Some k) (minus_is old 4 below (lit< tt) ∙ sym s) in
    let u : World = lowered w esp in
    set_does (name.Reg 4) (bin op.Sub (reg 4) (num 4)) (stmt.Store (width_of W) (reg 4) (num next) ∷ stmt.Ext e ∷ []) w esp less
    ∙ store_does (width_of W) (reg 4) (num next) (stmt.Ext e ∷ []) u esp next (name_is (name.Reg 4) u.names) (num_is next u.names)
    ∙ ap (allowing (first_bad w.pages.write esp (bytes_of (width_of W))) u) (ext_does e [] (pushed w esp (store w.mem esp (bytes_of (width_of W)) next)) to h)

-- what a call's step does in the state of a world
abbrev call_step : (next to esp : ℕ) → World → Flags → Effect
call_step next to esp w f = record {
  regs = with_reg (regs_in w.names) 4 esp;
  flags = f;
  store = Some (record { at = esp; width = width_of W; value = low_part 32 next });
  go = go.CallTo to;
}

-- the step and the statements lead to the same
call_leads : (at next to : ℕ) (e : CExpr) (w : World) (f : Flags) (blocks : List Block) → w.names (name.Reg 4) < 2 ^ 32
    → ((esp : ℕ) → word_of e (with_name w.names (name.Reg 4) esp) ≡ Some to)
    → Matches 1 (next ∷ []) (step_does (call_step next to (minus_of 32 (w.names (name.Reg 4)) 4) w f) at next (state_in w f))
    (through 1 blocks (arrive (stmts_do (call_stmts next e) w) (end_leads (end.Go 1))))
call_leads at next to e w f blocks below h =
    let esp = minus_of 32 (w.names (name.Reg 4)) 4 in
    let wide = bytes_of (width_of W) in
    let low = store_low w.mem esp W (low_part 32 next) next (low_twice next) in
    let calls : Memory → List Call = λ mem. w.calls ++ call_of to (pushed_state w f esp mem) ∷ [] in
    let m : Memory = store w.mem esp wide (low_part 32 next) in
    let bad = first_bad w.pages.write esp wide in
    let onward = leads (go.CallTo to) at next (pushed_state w f esp m) in
    subst (λ d. Matches 1 (next ∷ []) (allowed bad (state_in w f) onward) (through 1 blocks (arrive d (end_leads (end.Go 1)))))
    (sym (call_does next to esp e w refl below (h esp)))
    (allowed_case bad (next ∷ []) w (lowered w esp) f onward (then_do (calling to (pushed w esp (store w.mem esp wide next))) (stmts_do [])) (end_leads (end.Go 1)) blocks refl refl
    (subst (λ mem. Matches 1 (next ∷ []) onward
    (through 1 blocks (arrive (then_do (calling to (pushed w esp mem)) (stmts_do [])) (end_leads (end.Go 1)))))
    low (call_case at next esp w f m blocks w.left (calls m))))

pub call_effect : (distance at next : ℕ) → HasEffect (i.Call distance) at next (block_of (i.Call distance) at next)
call_effect distance at next = record {
  effect = λ w f is h. call_leads at next ((next + distance) % 2 ^ 32) (target next distance) w f (block_of (i.Call distance) at next ∷ []) (is.words (name.Reg 4))
      (λ esp. num_is ((next + distance) % 2 ^ 32) (with_name w.names (name.Reg 4) esp));
}

-- ---- by a word

-- what the step of a call or a jump by a word begins with
abbrev word_step : Operand → ℕ → World → Flags → Step
word_step s next w f = step_of (i.CallTo s) next (state_in w f)

-- the address of memory, and the word there
memory_address : (m : Mem) (next : ℕ) (w : World) (f : Flags) → IsWorld w → word_of (address_word m) w.names ≡ Some (address_of m (regs_in w.names) (w.names name.Fs) (w.names name.Gs))
memory_address m next w f is = address_is (word_step (o.Mem m) next w f) w.names (names_of w is) (record { regs = refl; fs = refl; gs = refl }) m

-- the world after the word is read
abbrev with_read : World → Mem → World
with_read w m = record w { names = with_name w.names (name.T 0) (load w.mem (address_of m (regs_in w.names) (w.names name.Fs) (w.names name.Gs)) (bytes_of (width_of W))) }

-- the address at which the read of memory is refused
abbrev refused_at : Mem → World → Option ℕ
refused_at m w = first_bad w.pages.read (address_of m (regs_in w.names) (w.names name.Fs) (w.names name.Gs)) (bytes_of (width_of W))

-- a word that is read is its low part
low_read : (w : World) (at : ℕ) → IsWorld w → load w.mem at (bytes_of (width_of W)) ≡ low_part 32 (load w.mem at (bytes_of (width_of W)))
low_read w at is = let below : load w.mem at (bytes_of (width_of W)) < 2 ^ 32 = load_fits w.mem is.bytes at W in sym (mod-eq_of_lt below)

-- the statements lead to those of a call of t2, and the step is that of a call of its word; or the read is refused
call_by : (bad : Option ℕ) (at next to : ℕ) (s : Operand) (w u : World) (f : Flags) → u.names (name.Reg 4) < 2 ^ 32 → word_of (raw_word W s) u.names ≡ Some to
    → stmts_do (call_to_stmts next s) w ≡ allowing bad w (stmts_do (stmt.Set (name.T 2) (raw_word W s) ∷ call_stmts next (temp 2)) u)
    → Matches 1 (next ∷ []) (allowed bad (state_in w f) (step_does (call_step next to (minus_of 32 (u.names (name.Reg 4)) 4) u f) at next (state_in u f)))
    (through 1 (block_of (i.CallTo s) at next ∷ []) (arrive (stmts_do (call_to_stmts next s) w) (end_leads (end.Go 1))))
call_by bad at next to s w u f below value does =
    let t : World = record u { names = with_name u.names (name.T 2) to } in
    let d = does ∙ ap (allowing bad w) (set_does (name.T 2) (raw_word W s) (call_stmts next (temp 2)) u to value) in
    let step = step_does (call_step next to (minus_of 32 (u.names (name.Reg 4)) 4) u f) at next (state_in u f) in
    subst (λ d. Matches 1 (next ∷ []) (allowed bad (state_in w f) step) (through 1 (block_of (i.CallTo s) at next ∷ []) (arrive d (end_leads (end.Go 1))))) (sym d)
    (allowed_case bad (next ∷ []) w w f step (stmts_do (call_stmts next (temp 2)) t) (end_leads (end.Go 1)) (block_of (i.CallTo s) at next ∷ []) refl refl
    (call_leads at next to (temp 2) t f (block_of (i.CallTo s) at next ∷ []) below (λ esp. name_is (name.T 2) (with_name t.names (name.Reg 4) esp))))

pub call_to_effect : (s : Operand) (at next : ℕ) → HasEffect (i.CallTo s) at next (block_of (i.CallTo s) at next)
call_to_effect (o.Reg n) at next = record {
  effect = λ w f is h. call_by None at next (reg_of (regs_in w.names) n) (o.Reg n) w w f (is.words (name.Reg 4))
      (name_is (name.Reg n) w.names ∙ ap (λ x. Some x) (reg_is w.names (names_of w is) n)) refl;
}
call_to_effect (o.Imm k) at next = record {
  effect = λ w f is h. call_by None at next (low_part 32 k) (o.Imm k) w w f (is.words (name.Reg 4)) (num_is (low_part 32 k) w.names) refl;
}
call_to_effect (o.Mem m) at next = record {
  effect = λ w f is h.
      let place = address_of m (regs_in w.names) (w.names name.Fs) (w.names name.Gs) in
      let x : Inst = i.CallTo (o.Mem m) in
      subst (λ bad. Matches 1 (next ∷ []) (allowed bad (state_in w f) (step_does (effect_in x next (state_in w f)) at next (state_in w f)))
      (through 1 (block_of x at next ∷ []) (arrive (stmts_do (call_to_stmts next (o.Mem m)) w) (end_leads (end.Go 1)))))
      (one_refused w.pages.read (reads_of x (regs_in w.names) (w.names name.Fs) (w.names name.Gs)) refl)
      (call_by (refused_at m w) at next (low_part 32 (load w.mem place (bytes_of (width_of W)))) (o.Mem m) w (with_read w m) f (is.words (name.Reg 4))
      (name_is (name.T 0) (with_read w m).names ∙ ap (λ x. Some x) (low_read w place is))
      (load_does (name.T 0) (width_of W) (address_word m) (stmt.Set (name.T 2) (temp 0) ∷ call_stmts next (temp 2)) w place (memory_address m next w f is)));
}

-- a jump that leaves ends with its answer, or asks
leave_case : (blocks : List Block) (u : World) (left : List Answer) (calls : List Call)
    → Matches 1 [] (answered_or left calls (λ x rest. Finished (Returned x.regs x.mem calls))) (through 1 blocks (left_by (answered_by left calls u)))
leave_case blocks u [] calls = refl
leave_case blocks u (x ∷ rest) calls = refl

-- where the block leads once the word is read
leave_leads : (m : Mem) (next : ℕ) (w : World) (f : Flags) → IsWorld w
    → end_leads (end.Leave (temp 0)) (with_read w m) ≡ left_by (calling (value_of W (o.Mem m) (word_step (o.Mem m) next w f)) (with_read w m))
leave_leads m next w f is =
    let place = address_of m (regs_in w.names) (w.names name.Fs) (w.names name.Gs) in
    let u = with_read w m in
    ap (λ v. left_by (having v (λ t. calling t u))) (name_is (name.T 0) u.names ∙ ap (λ x. Some x) (low_read w place is))

-- by what is known of the operand
leave_by : (b : Bool) (at next : ℕ) (m : Mem) (w : World) (f : Flags) → IsWorld w → b ≡ true
    → Matches 1 []
    (allowed (refused_at m w) (state_in w f)
    (step_does (goes (if b then go.LeaveTo (value_of W (o.Mem m) (word_step (o.Mem m) next w f)) else go.To (value_of W (o.Mem m) (word_step (o.Mem m) next w f))) (word_step (o.Mem m) next w f)) at next (state_in w f)))
    (through 1 (block_of (i.JmpTo (o.Mem m)) at next ∷ []) (arrive (stmts_do (reads W (o.Mem m)) w) (end_leads (end.Leave (temp 0)))))
leave_by false at next m w f is e = absurd cc
leave_by true at next m w f is e =
    let to = value_of W (o.Mem m) (word_step (o.Mem m) next w f) in
    let place = address_of m (regs_in w.names) (w.names name.Fs) (w.names name.Gs) in
    let blocks = block_of (i.JmpTo (o.Mem m)) at next ∷ [] in
    let onward = leads (go.LeaveTo to) at next (state_in w f) in
    subst (λ d. Matches 1 [] (allowed (refused_at m w) (state_in w f) onward) (through 1 blocks (arrive d (end_leads (end.Leave (temp 0))))))
    (sym (load_does (name.T 0) (width_of W) (address_word m) [] w place (memory_address m next w f is)))
    (allowed_case (refused_at m w) [] w w f onward (Next (with_read w m)) (end_leads (end.Leave (temp 0))) blocks refl refl
    (subst (λ r. Matches 1 [] onward (through 1 blocks r)) (sym (leave_leads m next w f is))
    (leave_case blocks (with_read w m) w.left (w.calls ++ call_of to (state_in w f) ∷ []))))

pub jmp_to_effect : (s : Operand) (at next : ℕ) → is_bare s ≡ true → HasEffect (i.JmpTo s) at next (block_of (i.JmpTo s) at next)
jmp_to_effect (o.Reg n) at next e = absurd cc
jmp_to_effect (o.Imm k) at next e = absurd cc
jmp_to_effect (o.Mem m) at next e = record {
  effect = λ w f is h.
      let x : Inst = i.JmpTo (o.Mem m) in
      subst (λ bad. Matches 1 [] (allowed bad (state_in w f) (step_does (effect_in x next (state_in w f)) at next (state_in w f)))
      (through 1 (block_of x at next ∷ []) (arrive (stmts_do (reads W (o.Mem m)) w) (end_leads (end.Leave (temp 0))))))
      (one_refused w.pages.read (reads_of x (regs_in w.names) (w.names name.Fs) (w.names name.Gs)) refl)
      (leave_by (is_bare (o.Mem m)) at next m w f is e);
}
