-- The statements of quotients trap where there is none, and else lead to quotient and remainder.
use Rattle.std.proofs.Common.{◌≡◌, ℕ, Bool, true, false, nat_eq, nat_lt, if◌then◌else◌, List, [], ◌∷◌, ◌++◌, Option, Some, None, refl, sym, ap, ◌∙◌, subst}
use Rattle.std.specs.Prelude.{is_none}
use Rattle.dream_words.specs.declared.machine.Name.TheVariants as name
use Rattle.dream_words.specs.declared.machine.Regs.{Regs}
use Rattle.dream_words.specs.declared.outcome.Outcome.TheVariants as outcome
use Rattle.dream_words.specs.Words.{bit_of, low_part}
use Rattle.run_parts.specs.Effects.{Doing, set_word, trapping}
use Rattle.run_parts.specs.Steps.{Next, Halt, Jam, arrive, having, then_do}
use Rattle.run_parts.specs.World.{Names, World}
use Rattle.x86_inst.specs.declared.Size.{Size}
use Rattle.x86_inst.specs.declared.Size.TheVariants.{B, H, W}
use Rattle.x86_inst.specs.declared.Operand.{Operand}
use Rattle.x86_inst.specs.declared.Operand.TheVariants as o
use Rattle.x86_model.specs.declared.effect.Step.{Step}
use Rattle.x86_model.specs.Leads.{allowed, step_does}
use Rattle.x86_model.specs.Machine.{Faulted, Finished}
use Rattle.x86_model.specs.Operands.{bits_of, value_of}
use Rattle.x86_model.specs.WideRows.{divided, with_pair}
use Rattle.c_syntax.specs.declared.syntax.CBin.TheVariants as op
use Rattle.c_syntax.specs.declared.syntax.CCmp.TheVariants as test
use Rattle.c_syntax.specs.declared.syntax.CExpr.{CExpr}
use Rattle.c_syntax.specs.declared.syntax.CFn3.{CFn3}
use Rattle.c_syntax.specs.Value.{word_of}
use Rattle.c_syntax.specs.Words.{fn3_of, quotient, remainder}
use Rattle.c_words.specs.Built.{num}
use Rattle.micro_ir.specs.declared.flow.Stmt.{Stmt}
use Rattle.micro_ir.specs.declared.flow.Stmt.TheVariants as stmt
use Rattle.micro_ir.specs.declared.flow.End.TheVariants as end
use Rattle.micro_ir.specs.Run.{block_leads, end_leads, stmts_do}
use Rattle.lift_parts.specs.Lifted.{Matches, through}
use Rattle.lift_parts.specs.Parts.{reads, temp}
use Rattle.lift_parts.specs.Shown.{AreNames, Runs, RunsTo}
use Rattle.lift_parts.specs.Stands.{Stands, state_in}
use Rattle.lift_parts.proofs.Chains.{faults_append, runs_append, set_runs}
use Rattle.lift_parts.proofs.Kept.{AfterRead}
use Rattle.lift_parts.proofs.Values.{value_fits}
use Rattle.lift_blocks.specs.Ends.{goes_on}
use Rattle.lift_blocks.proofs.Does.{set_does, trap_does}
use Rattle.lift_blocks.proofs.MoveWords.{bin_value, name_value, num_value}
use Rattle.lift_products.specs.Parts.{factor, pair_writes}
use Rattle.lift_products.specs.Quotients.{bad_function, bad_word, divide_stmts, divided_word, high_dividend, low_dividend, quotient_function, remainder_function, unfit, unfit_unsigned}
use Rattle.lift_products.proofs.Dividends.{AreWords, high_dividend_value, high_number, low_dividend_value, low_number, quotient_tells, quotient_words, sized_quotient, word_quotient}
use Rattle.lift_products.proofs.DivisionNumbers.{Tells, bad_value, unfits}
use Rattle.lift_products.proofs.Factors.{factor_of}
use Rattle.lift_products.proofs.FactorWords.{Sees, factor_value, fn3_value, sees_temp, test_value}
use Rattle.lift_products.proofs.PairWords.{pair_runs}
use Rattle.lift_products.proofs.ProductRuns.{unfit_signed_value}

-- ---- words

-- whether t1 fits, as a number without sign
unfit_unsigned_value : (v : Names) (greatest x : ℕ) → v (name.T 1) ≡ x → word_of (unfit_unsigned greatest) v ≡ Some (bit_of (nat_lt greatest x))
unfit_unsigned_value v greatest x e =
    test_value v test.Lt (num greatest) (temp 1) greatest (v (name.T 1)) (num_value v greatest) (name_value v (name.T 1)) ∙ ap (λ n. Some (bit_of (nat_lt greatest n))) e

byte_unfit : (signed : Bool) (v : Names) (x : ℕ) → AreNames v → v (name.T 1) ≡ x → word_of (unfit signed B 0xff) v ≡ Some (bit_of (unfits signed B x))
byte_unfit true v x h e = unfit_signed_value B v x h e
byte_unfit false v x h e = unfit_unsigned_value v 0xff x e

half_unfit : (signed : Bool) (v : Names) (x : ℕ) → AreNames v → v (name.T 1) ≡ x → word_of (unfit signed H 0xffff) v ≡ Some (bit_of (unfits signed H x))
half_unfit true v x h e = unfit_signed_value H v x h e
half_unfit false v x h e = unfit_unsigned_value v 0xffff x e

-- the functions of a quotient
quotient_by : (signed : Bool) (size : Size) (r : Regs) (d : ℕ) → fn3_of (quotient_function signed) (high_number signed size r) (low_number signed size r) (factor_of signed size d) ≡ quotient (word_quotient signed size r d)
quotient_by true size r d = refl
quotient_by false size r d = refl

remainder_by : (signed : Bool) (size : Size) (r : Regs) (d : ℕ) → fn3_of (remainder_function signed) (high_number signed size r) (low_number signed size r) (factor_of signed size d) ≡ remainder (word_quotient signed size r d)
remainder_by true size r d = refl
remainder_by false size r d = refl

bad_by : (signed : Bool) (size : Size) (r : Regs) (d : ℕ) → fn3_of (bad_function signed) (high_number signed size r) (low_number signed size r) (factor_of signed size d) ≡ bit_of (is_none (word_quotient signed size r d))
bad_by true size r d = refl
bad_by false size r d = refl

module _ (signed : Bool) (s : Operand) (a : Step) where
  -- the quotient of the words
  abbrev given : Size → Option (ℕ × ℕ)
  given size = word_quotient signed size a.regs (value_of size s a)

  divided_value : (size : Size) (f : CFn3) (v : Names) → Sees size s s a v
      → word_of (divided_word f signed size s) v ≡ Some (fn3_of f (high_number signed size a.regs) (low_number signed size a.regs) (factor_of signed size (value_of size s a)))
  divided_value size f v h =
      fn3_value v f (high_dividend signed size) (low_dividend signed size) (factor signed size s)
      (high_number signed size a.regs) (low_number signed size a.regs) (factor_of signed size (value_of size s a))
      (high_dividend_value v h.names signed size ∙ ap (λ r. Some (high_number signed size r)) h.shows.regs)
      (low_dividend_value v h.names signed size ∙ ap (λ r. Some (low_number signed size r)) h.shows.regs)
      (factor_value signed size s a v h.names h.shows h.first)

  quotient_value : (size : Size) (v : Names) → Sees size s s a v → word_of (divided_word (quotient_function signed) signed size s) v ≡ Some (quotient (given size))
  quotient_value size v h = divided_value size (quotient_function signed) v h ∙ ap Some (quotient_by signed size a.regs (value_of size s a))

  remainder_value : (size : Size) (v : Names) → Sees size s s a v → word_of (divided_word (remainder_function signed) signed size s) v ≡ Some (remainder (given size))
  remainder_value size v h = divided_value size (remainder_function signed) v h ∙ ap Some (remainder_by signed size a.regs (value_of size s a))

  none_value : (size : Size) (v : Names) → Sees size s s a v → word_of (divided_word (bad_function signed) signed size s) v ≡ Some (bit_of (is_none (given size)))
  none_value size v h = divided_value size (bad_function signed) v h ∙ ap Some (bad_by signed size a.regs (value_of size s a))

  -- where t1 is the quotient of the words
  bad_is : (size : Size) (v : Names) → Sees size s s a v → v (name.T 1) ≡ quotient (given size) → word_of (bad_word signed size s) v ≡ Some (bad_value signed size (given size))
  bad_is B v h e =
      bin_value v op.Or (divided_word (bad_function signed) signed B s) (unfit signed B 0xff) (bit_of (is_none (given B))) (bit_of (unfits signed B (quotient (given B))))
      (none_value B v h) (byte_unfit signed v (quotient (given B)) h.names e)
  bad_is H v h e =
      bin_value v op.Or (divided_word (bad_function signed) signed H s) (unfit signed H 0xffff) (bit_of (is_none (given H))) (bit_of (unfits signed H (quotient (given H))))
      (none_value H v h) (half_unfit signed v (quotient (given H)) h.names e)
  bad_is W v h e = none_value W v h

-- ---- statements

-- what is done in two parts
in_parts : (d : Doing) (k : World → Doing) → then_do d k ≡ then_do (then_do d (stmts_do [])) k
in_parts (Next u) k = refl
in_parts (Halt e) k = refl
in_parts Jam k = refl

-- what comes after a read
after_reads : (size : Size) (s : Operand) (rest : List Stmt) (w u : World) → Runs (reads size s) w u → stmts_do (reads size s ++ rest) w ≡ stmts_do rest u
after_reads size (o.Reg n) rest w u r = ap (λ d. then_do d (stmts_do rest)) r.runs
after_reads size (o.Imm k) rest w u r = ap (λ d. then_do d (stmts_do rest)) r.runs
after_reads size (o.Mem m) rest w u r = in_parts _ (stmts_do rest) ∙ ap (λ d. then_do d (stmts_do rest)) r.runs

-- a trap that isn't taken
trap_runs : {w u : World} {rest : List Stmt} (vector : ℕ) (e : CExpr) → word_of e w.names ≡ Some 0 → Runs rest w u → Runs (stmt.Trap vector e ∷ rest) w u
trap_runs {w} {u} {rest} vector e h r = record { runs = ap (λ o. then_do (having o (λ x. trapping vector x w)) (stmts_do rest)) h ∙ r.runs }

-- a trap that is taken ends all
trap_ends : (vector : ℕ) (e : CExpr) (rest : List Stmt) (w : World) (x : ℕ) → word_of e w.names ≡ Some x → nat_eq x 0 ≡ false
    → stmts_do (stmt.Trap vector e ∷ rest) w ≡ Halt (outcome.Faulted vector 0 w.mem w.calls)
trap_ends vector e rest w x h k = trap_does vector e rest w x h ∙ ap (λ b. then_do (if b then Next w else Halt (outcome.Faulted vector 0 w.mem w.calls)) (stmts_do rest)) k

module _ (signed : Bool) (size : Size) (s : Operand) (a : Step) (w u : World) (runs : Runs (reads size s) w u) (read : AfterRead a w u) (h0 : Sees size s s a u.names) where
  abbrev p : Option (ℕ × ℕ)
  p = word_quotient signed size a.regs (value_of size s a)

  p_words : AreWords p
  p_words = quotient_words signed (high_number signed size a.regs) (low_number signed size a.regs) (factor_of signed size (value_of size s a))

  -- the world after the quotient is kept
  abbrev kept : World
  kept = set_word (name.T 1) (quotient p) u

  kept_sees : Sees size s s a kept.names
  kept_sees = sees_temp size s s a u.names 1 (quotient p) refl p_words.first h0

  -- the statements after the trap
  abbrev rest : List Stmt
  rest = stmt.Set (name.T 2) (divided_word (remainder_function signed) signed size s) ∷ pair_writes size

  -- where there is no quotient, the trap is taken
  faults : nat_eq (bad_value signed size p) 0 ≡ false → stmts_do (divide_stmts signed size s) w ≡ Halt (outcome.Faulted 0 0 w.mem w.calls)
  faults e =
      after_reads size s (stmt.Set (name.T 1) (divided_word (quotient_function signed) signed size s) ∷ stmt.Trap 0 (bad_word signed size s) ∷ rest) w u runs
      ∙ set_does (name.T 1) (divided_word (quotient_function signed) signed size s) (stmt.Trap 0 (bad_word signed size s) ∷ rest) u (quotient p) (quotient_value signed s a size u.names h0)
      ∙ trap_ends 0 (bad_word signed size s) rest kept (bad_value signed size p) (bad_is signed s a size kept.names kept_sees refl) e
      ∙ ap (λ m. Halt (outcome.Faulted 0 0 m u.calls)) read.mem
      ∙ ap (λ c. Halt (outcome.Faulted 0 0 w.mem c)) read.calls

  -- else the pair's registers get its quotient and its remainder
  divides : (q r : ℕ) → bad_value signed size p ≡ 0 → low_part (bits_of size) (quotient p) ≡ low_part (bits_of size) q → low_part (bits_of size) (remainder p) ≡ low_part (bits_of size) r
      → (t : World) × Runs (divide_stmts signed size s) w t × Stands (record (state_in w a.flags) { regs = (divided (Some (q, r)) size a).regs; flags = (divided (Some (q, r)) size a).flags }) t
  divides q r e f g =
      let u2 : World = set_word (name.T 2) (remainder p) kept in
      let h2 : Sees size s s a u2.names = sees_temp size s s a kept.names 2 (remainder p) refl p_words.second kept_sees in
      let (t, last, sets) = pair_runs size r q u2 h2.names f g in (
        t,
        runs_append (reads size s) _ runs
            (set_runs (name.T 1) (divided_word (quotient_function signed) signed size s) (quotient p) (quotient_value signed s a size u.names h0)
            (trap_runs 0 (bad_word signed size s) (bad_is signed s a size kept.names kept_sees refl ∙ ap Some e)
            (set_runs (name.T 2) (divided_word (remainder_function signed) signed size s) (remainder p) (remainder_value signed s a size kept.names kept_sees) last))),
        record {
          regs = sym (sets.regs ∙ ap (λ k. with_pair size k r q) read.shows.regs);
          flags = record { c = tt; p = tt; z = tt; s = tt; o = tt };
          fs = sym (sets.fs ∙ read.fs);
          gs = sym (sets.gs ∙ read.gs);
          mem = sym (sets.mem ∙ read.mem);
          pages = sym (sets.pages ∙ read.pages);
          left = sym (sets.left ∙ read.left);
          calls = sym (sets.calls ∙ read.calls);
        },
      )

  -- the block leads where the step does, by its quotient
  block_by : (at next : ℕ) (d : Option (ℕ × ℕ)) → Tells (bits_of size) (bad_value signed size p) p d
      → Matches 1 (next ∷ []) (step_does (divided d size a) at next (state_in w a.flags))
      (through 1 (goes_on at (divide_stmts signed size s) ∷ []) (block_leads (goes_on at (divide_stmts signed size s)) w))
  block_by at next None e =
      subst (λ k. Matches 1 (next ∷ []) (step_does (divided None size a) at next (state_in w a.flags)) (through 1 (goes_on at (divide_stmts signed size s) ∷ []) k))
      (sym (ap (λ d. arrive d (end_leads (end.Go 1))) (faults e))) refl
  block_by at next (Some (q, r)) e =
      let (t, leads, stands) = divides q r e.0 e.1 e.2 in
      subst (λ k. Matches 1 (next ∷ []) (step_does (divided (Some (q, r)) size a) at next (state_in w a.flags)) (through 1 (goes_on at (divide_stmts signed size s) ∷ []) k))
      (sym (ap (λ d. arrive d (end_leads (end.Go 1))) leads.runs)) (0, refl, refl, stands)

  divides_as : (at next : ℕ) → Matches 1 (next ∷ []) (step_does (divided (sized_quotient signed size a.regs (value_of size s a)) size a) at next (state_in w a.flags))
      (through 1 (goes_on at (divide_stmts signed size s) ∷ []) (block_leads (goes_on at (divide_stmts signed size s)) w))
  divides_as at next = block_by at next (sized_quotient signed size a.regs (value_of size s a)) (quotient_tells signed size a.regs (value_of size s a) (value_fits a u.names h0.names h0.shows size s))

-- Where the read is refused the block ends with its fault, and else it leads where the step does after it.
pub divides_after : (bad : Option ℕ) (signed : Bool) (size : Size) (s : Operand) (a : Step) (w u : World) → RunsTo bad (reads size s) w u → AfterRead a w u → Sees size s s a u.names → (at next : ℕ)
    → Matches 1 (next ∷ []) (allowed bad (state_in w a.flags) (step_does (divided (sized_quotient signed size a.regs (value_of size s a)) size a) at next (state_in w a.flags)))
    (through 1 (goes_on at (divide_stmts signed size s) ∷ []) (block_leads (goes_on at (divide_stmts signed size s)) w))
divides_after None signed size s a w u runs read h at next = divides_as signed size s a w u (record { runs = runs.runs }) read h at next
divides_after (Some bad) signed size s a w u runs read h at next =
    subst (λ d. Matches 1 (next ∷ []) (Finished (Faulted 14 bad w.mem w.calls)) (through 1 (goes_on at (divide_stmts signed size s) ∷ []) (arrive d (end_leads (end.Go 1)))))
    (sym (faults_append (Some bad) (reads size s) _ runs)) refl
