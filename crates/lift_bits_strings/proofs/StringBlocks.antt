-- The blocks of string instructions.
use Rattle.std.proofs.Common.{◌≡◌, ℕ, nat_eq, Bool, true, false, not, List, [], ◌∷◌, ◌++◌, Option, Some, None, refl, sym, ap, subst, lit≤}
use Rattle.std.specs.Prelude.{if◌then◌else◌, IsSome}
use Rattle.dream_words.specs.declared.machine.Bit.{Bit}
use Rattle.dream_words.specs.declared.machine.Bit.TheVariants.{Zero, One, Undefined}
use Rattle.dream_words.specs.declared.machine.Flags.{Flags}
use Rattle.dream_words.specs.declared.machine.Name.TheVariants as name
use Rattle.run_parts.specs.Steps.{arrive}
use Rattle.run_parts.specs.World.{World, regs_in}
use Rattle.x86_inst.specs.declared.Inst.TheVariants as i
use Rattle.x86_inst.specs.declared.Rep.{Rep}
use Rattle.x86_inst.specs.declared.Rep.TheVariants as rep
use Rattle.x86_inst.specs.declared.Seg.{Seg}
use Rattle.x86_inst.specs.declared.Size.{Size}
use Rattle.x86_inst.specs.declared.StrOp.{StrOp}
use Rattle.x86_inst.specs.declared.StrOp.TheVariants.{Movs, Cmps, Stos, Lods, Scas}
use Rattle.x86_formed.specs.Formed.{HasSpelling}
use Rattle.x86_model.specs.declared.effect.Effect.{Effect}
use Rattle.x86_model.specs.declared.effect.Go.TheVariants as go
use Rattle.x86_model.specs.declared.effect.Reads.{Reads}
use Rattle.x86_model.specs.declared.effect.Step.{Step}
use Rattle.x86_model.specs.Arithmetic.{flag_if}
use Rattle.x86_model.specs.Effects.{done, known}
use Rattle.x86_model.specs.Leads.{after, allowed, first_of, leads, read_by, refused_store, refused_word, step_does}
use Rattle.x86_model.specs.Machine.{At, Ending, Faulted, Finished, Onward, State}
use Rattle.x86_model.specs.Reads.{no_reads, round_reads}
use Rattle.x86_model.specs.WideRows.{again, repeated, repeats, round_of, steps_source, steps_target, whole_round}
use Rattle.c_syntax.specs.declared.syntax.CCmp.TheVariants.{Eq, Ne}
use Rattle.c_words.specs.Built.{num}
use Rattle.micro_ir.specs.declared.flow.Block.{Block}
use Rattle.micro_ir.specs.Run.{block_leads, branch, end_leads}
use Rattle.micro_ir.specs.World.{IsWorld}
use Rattle.lift_parts.specs.Lifted.{AreBlocksOf, Matches, through}
use Rattle.lift_parts.specs.Parts.{flag}
use Rattle.lift_parts.specs.Shown.{Runs, RunsTo}
use Rattle.lift_parts.specs.Stands.{FlagsStand, Stands, StandsFor, state_in}
use Rattle.lift_parts.proofs.Chains.{none_run, runs_append, runs_by, then_runs}
use Rattle.lift_parts.proofs.FitShapes.{fit_cond}
use Rattle.lift_parts.proofs.Values.{names_of_world}
use Rattle.lift_alu.specs.Words.{flag_clear, flag_set}
use Rattle.lift_blocks.specs.Effects.{GoesOn}
use Rattle.lift_blocks.proofs.Common.{leads_next}
use Rattle.lift_blocks.proofs.Does.{cmp_is, name_is, num_is, stands_here}
use Rattle.lift_blocks.proofs.OneBlock.{goes_blocks}
use Rattle.lift_bits_strings.specs.Rounds.{body_stmts, counts_down, raises, round_block, round_end, step_stmts, test_block, where_so, with_test}
use Rattle.lift_bits_strings.proofs.Bodies.{body_reaches, refused_reads, round_step}
use Rattle.lift_bits_strings.proofs.RoundFit.{clear_cond_fit, round_fit, set_cond_fit}
use Rattle.lift_bits_strings.proofs.Reaching.{Reaches, counts, reached_stands, source_steps, target_steps}
use Rattle.lift_bits_strings.proofs.Repeating.{may_repeat, spelled_may_repeat}
use Rattle.lift_bits_strings.proofs.TwoBlocks.{two_blocks}

-- ---- a whole round

-- the effect of a round, where ESI and EDI have stepped, and of a repeated one where ECX has counted down
abbrev round_effect : StrOp → Size → Rep → Seg → ℕ → World → Flags → Effect
round_effect f size r s next w flags = repeated r (whole_round f size (round_step f size s next w flags))

-- the first byte that a round may not read
abbrev unread : StrOp → Size → Seg → World → Option ℕ
unread f size s w = refused_reads (round_reads f size s (regs_in w.names) (w.names name.Fs) (w.names name.Gs)) w

-- the first byte that a round may not access
abbrev refused_first : StrOp → Size → Rep → Seg → ℕ → World → Flags → Option ℕ
refused_first f size r s next w flags = first_of (unread f size s w) (refused_store (round_effect f size r s next w flags) (state_in w flags))

abbrev Round : StrOp → Size → Rep → Seg → ℕ → World → Flags → Type 0
Round f size r s next w flags =
    (u : World) × RunsTo (refused_first f size r s next w flags) (body_stmts f size s ++ step_stmts f size r) w u × Reaches (round_effect f size r s next w flags) w u

-- what is stored stays where ECX counts down
stored_still : (r : Rep) (e : Effect) → e.store ≡ (repeated r e).store
stored_still rep.No e = refl
stored_still rep.Rep e = refl
stored_still rep.Repe e = refl
stored_still rep.Repne e = refl

-- ECX counts down where the instruction is repeated
count_reaches : (r : Rep) (e : Effect) (w u : World) → Reaches e w u → (t : World) × Runs (where_so (repeats r) counts_down) u t × Reaches (repeated r e) w t
count_reaches rep.No e w u h = (u, none_run u, h)
count_reaches rep.Rep e w u h = counts e (again rep.Rep e.flags.z) w u h
count_reaches rep.Repe e w u h = counts e (again rep.Repe e.flags.z) w u h
count_reaches rep.Repne e w u h = counts e (again rep.Repne e.flags.z) w u h

round_reaches : (f : StrOp) (size : Size) (r : Rep) (s : Seg) (next : ℕ) (w : World) (flags : Flags) → IsWorld w → FlagsStand flags w.names → Round f size r s next w flags
round_reaches f size r s next w flags i h =
    let (u, body, at_body) = body_reaches size s next w flags (names_of_world w i) i.bytes h f in
    let e : Effect = round_of f size (round_step f size s next w flags) in
    let (v, source, at_source) = source_steps (steps_source f) size e w u at_body in
    let (x, target, at_target) = target_steps (steps_target f) size _ w v at_source in
    let (t, count, at_count) = count_reaches r (whole_round f size (round_step f size s next w flags)) w x at_target in (
      t,
      runs_by _ (refused_first f size r s next w flags)
          (ap (λ o. first_of (unread f size s w) (refused_word w.pages.write o)) (stored_still r (whole_round f size (round_step f size s next w flags))))
          (then_runs _ (body_stmts f size s) (step_stmts f size r) body
          (runs_append (where_so (steps_source f) (raises size 6)) _ source (runs_append (where_so (steps_target f) (raises size 7)) (where_so (repeats r) counts_down) target count))),
      at_count,
    )

-- ---- where a round leads

-- what comes after an access that isn't allowed, and after another
allowed_twice : (a b : Option ℕ) (m : State) (x : Onward State Ending) → allowed (first_of a b) m x ≡ allowed a m (allowed b m x)
allowed_twice None b m x = refl
allowed_twice (Some k) b m x = refl

-- a block whose statements lead to a world goes on by its end there, unless an access of theirs is refused
block_does : (bad : Option ℕ) (succ : List ℕ) (b : Block) (x : Onward State Ending) (w u : World) (f : Flags) → RunsTo bad b.stmts w u → Matches 2 succ x (end_leads b.end u)
    → Matches 2 succ (allowed bad (state_in w f) x) (block_leads b w)
block_does None succ b x w u f r h = subst (λ d. Matches 2 succ x (arrive d (end_leads b.end))) (sym r.runs) h
block_does (Some k) succ b x w u f r h = subst (λ d. Matches 2 succ (Finished (Faulted 14 k w.mem w.calls)) (arrive d (end_leads b.end))) (sym r.runs) refl

-- where ZF is known, it decides between the instruction itself and the next address
by_zero : (z : Bit) (at next : ℕ) (m : State) (u : World) (k : ℕ) → IsSome (known z) → StandsFor z k → Stands m u
    → Matches 2 (at ∷ next ∷ []) (leads (again rep.Repe z) at next m) (branch (Some (not (nat_eq k 0))) 2 3 u)
    × Matches 2 (at ∷ next ∷ []) (leads (again rep.Repne z) at next m) (branch (Some (nat_eq k 0)) 2 3 u)
by_zero Zero at next m u k g h s = (
  subst (λ k. Matches 2 (at ∷ next ∷ []) (At next m) (branch (Some (not (nat_eq k 0))) 2 3 u)) (sym h) (1, refl, refl, s),
  subst (λ k. Matches 2 (at ∷ next ∷ []) (At at m) (branch (Some (nat_eq k 0)) 2 3 u)) (sym h) (0, refl, refl, s),
)
by_zero One at next m u k g h s = (
  subst (λ k. Matches 2 (at ∷ next ∷ []) (At at m) (branch (Some (not (nat_eq k 0))) 2 3 u)) (sym h) (0, refl, refl, s),
  subst (λ k. Matches 2 (at ∷ next ∷ []) (At next m) (branch (Some (nat_eq k 0)) 2 3 u)) (sym h) (1, refl, refl, s),
)
by_zero Undefined at next m u k g h s = absurd cc

is_known : (b : Bool) → IsSome (known (flag_if b))
is_known true = refl
is_known false = refl

-- a comparison sets ZF
zero_known : (f : StrOp) (size : Size) (a : Step) → may_repeat f rep.Repe ≡ true → IsSome (known (whole_round f size a).flags.z)
zero_known Cmps size a e = is_known _
zero_known Scas size a e = is_known _
zero_known Movs size a e = absurd cc
zero_known Stos size a e = absurd cc
zero_known Lods size a e = absurd cc

-- who may repeat while ZF is clear may repeat while it is set
same_repeat : (f : StrOp) → may_repeat f rep.Repne ≡ true → may_repeat f rep.Repe ≡ true
same_repeat Cmps e = refl
same_repeat Scas e = refl
same_repeat Movs e = absurd cc
same_repeat Stos e = absurd cc
same_repeat Lods e = absurd cc

-- ---- the effect of a repeated instruction

abbrev Does : Rep → ℕ → StrOp → Size → Seg → ℕ → World → Flags → Type 0
Does r at f size s next w flags =
    Matches 2 (at ∷ next ∷ []) (allowed (unread f size s w) (state_in w flags) (step_does (round_effect f size r s next w flags) at next (state_in w flags)))
    (block_leads (round_block at f size r s) w)

-- the round faults, or goes on by its end
round_does : (r : Rep) (at : ℕ) (f : StrOp) (size : Size) (s : Seg) (next : ℕ) (w u : World) (flags : Flags) → RunsTo (refused_first f size r s next w flags) (body_stmts f size s ++ step_stmts f size r) w u
    → let e : Effect = round_effect f size r s next w flags in Matches 2 (at ∷ next ∷ []) (leads e.go at next (after e (state_in w flags))) (end_leads (round_end r) u) → Does r at f size s next w flags
round_does r at f size s next w u flags runs h =
    let e : Effect = round_effect f size r s next w flags in
    let m : State = state_in w flags in
    let x : Onward State Ending = leads e.go at next (after e m) in
    subst (λ y. Matches 2 (at ∷ next ∷ []) y (block_leads (round_block at f size r s) w)) (allowed_twice (unread f size s w) (refused_store e m) m x)
    (block_does (refused_first f size r s next w flags) (at ∷ next ∷ []) (round_block at f size r s) x w u flags runs h)

rep_does : (at : ℕ) (f : StrOp) (size : Size) (s : Seg) (next : ℕ) (w : World) (flags : Flags) → IsWorld w → FlagsStand flags w.names → Does rep.Rep at f size s next w flags
rep_does at f size s next w flags i h =
    let (u, runs, reach) = round_reaches f size rep.Rep s next w flags i h in
    round_does rep.Rep at f size s next w u flags runs (0, refl, refl, reached_stands (round_effect f size rep.Rep s next w flags) w u flags reach)

repe_does : (at : ℕ) (f : StrOp) (size : Size) (s : Seg) (next : ℕ) (w : World) (flags : Flags) → IsWorld w → FlagsStand flags w.names → may_repeat f rep.Repe ≡ true
    → Does rep.Repe at f size s next w flags
repe_does at f size s next w flags i h may =
    let e : Effect = round_effect f size rep.Repe s next w flags in
    let (u, runs, reach) = round_reaches f size rep.Repe s next w flags i h in
    let zf : ℕ = u.names (name.Flag 2) in
    let test = cmp_is Ne (flag 2) (num 0) u.names zf 0 (name_is (name.Flag 2) u.names) (num_is 0 u.names) in
    round_does rep.Repe at f size s next w u flags runs
    (subst (λ t. Matches 2 (at ∷ next ∷ []) (leads e.go at next (after e (state_in w flags))) (branch t 2 3 u)) (sym test)
    (by_zero e.flags.z at next (after e (state_in w flags)) u zf (zero_known f size (round_step f size s next w flags) may) reach.flags.z (reached_stands e w u flags reach)).0)

repne_does : (at : ℕ) (f : StrOp) (size : Size) (s : Seg) (next : ℕ) (w : World) (flags : Flags) → IsWorld w → FlagsStand flags w.names → may_repeat f rep.Repne ≡ true
    → Does rep.Repne at f size s next w flags
repne_does at f size s next w flags i h may =
    let e : Effect = round_effect f size rep.Repne s next w flags in
    let (u, runs, reach) = round_reaches f size rep.Repne s next w flags i h in
    let zf : ℕ = u.names (name.Flag 2) in
    let test = cmp_is Eq (flag 2) (num 0) u.names zf 0 (name_is (name.Flag 2) u.names) (num_is 0 u.names) in
    round_does rep.Repne at f size s next w u flags runs
    (subst (λ t. Matches 2 (at ∷ next ∷ []) (leads e.go at next (after e (state_in w flags))) (branch t 2 3 u)) (sym test)
    (by_zero e.flags.z at next (after e (state_in w flags)) u zf (zero_known f size (round_step f size s next w flags) (same_repeat f may)) reach.flags.z (reached_stands e w u flags reach)).1)

repeated_does : (r : Rep) (at : ℕ) (f : StrOp) (size : Size) (s : Seg) (next : ℕ) (w : World) (flags : Flags) → IsWorld w → FlagsStand flags w.names
    → repeats r ≡ true → may_repeat f r ≡ true → Does r at f size s next w flags
repeated_does rep.No at f size s next w flags i h some may = absurd cc
repeated_does rep.Rep at f size s next w flags i h some may = rep_does at f size s next w flags i h
repeated_does rep.Repe at f size s next w flags i h some may = repe_does at f size s next w flags i h may
repeated_does rep.Repne at f size s next w flags i h some may = repne_does at f size s next w flags i h may

-- what the step reads, what it begins with, and its effect, by whether ECX is 0
abbrev string_reads : Bool → StrOp → Size → Seg → World → Reads
string_reads none f size s w = if none then no_reads else round_reads f size s (regs_in w.names) (w.names name.Fs) (w.names name.Gs)

abbrev string_step : Bool → StrOp → Size → Seg → ℕ → World → Flags → Step
string_step none f size s next w flags =
    let r = string_reads none f size s w in
    record (round_step f size s next w flags) { first = read_by r.first w.mem; second = read_by r.second w.mem }

abbrev string_effect : Bool → StrOp → Size → Rep → Seg → ℕ → World → Flags → Effect
string_effect none f size r s next w flags =
    if none then done (string_step none f size s next w flags) flags else repeated r (whole_round f size (string_step none f size s next w flags))

-- the test leads to the round, or on
string_does : (none : Bool) (r : Rep) (at : ℕ) (f : StrOp) (size : Size) (s : Seg) (next : ℕ) (w : World) (flags : Flags) → IsWorld w → FlagsStand flags w.names
    → repeats r ≡ true → may_repeat f r ≡ true
    → Matches 2 (at ∷ next ∷ [])
    (allowed (refused_reads (string_reads none f size s w) w) (state_in w flags) (step_does (string_effect none f size r s next w flags) at next (state_in w flags)))
    (through 2 (test_block at ∷ round_block at f size r s ∷ []) (branch (Some (not none)) 1 3 w))
string_does true r at f size s next w flags i h some may = (1, refl, refl, stands_here w flags h)
string_does false r at f size s next w flags i h some may = repeated_does r at f size s next w flags i h some may

-- ---- an instruction that isn't repeated

goes_next : (f : StrOp) (size : Size) (a : Step) → (whole_round f size a).go ≡ go.Next
goes_next Movs size a = refl
goes_next Stos size a = refl
goes_next Lods size a = refl
goes_next Cmps size a = refl
goes_next Scas size a = refl

string_goes : (f : StrOp) (size : Size) (s : Seg) (next : ℕ) → GoesOn (i.Str f size rep.No s) next (body_stmts f size s ++ step_stmts f size rep.No)
string_goes f size s next = record {
  leads = λ w flags i h.
      let e : Effect = round_effect f size rep.No s next w flags in
      let (u, runs, reach) = round_reaches f size rep.No s next w flags i h in
      leads_next (unread f size s w) e (state_in w flags) (body_stmts f size s ++ step_stmts f size rep.No) w u (goes_next f size (round_step f size s next w flags)) runs (reached_stands e w u flags reach);
}

-- ---- all of them

pub string_blocks : (f : StrOp) (size : Size) (r : Rep) (s : Seg) (at next : ℕ) → HasSpelling (i.Str f size r s)
    → AreBlocksOf (i.Str f size r s) at next (with_test (i.Str f size r s) at (round_block at f size r s))
string_blocks f size rep.No s at next h =
    goes_blocks (i.Str f size rep.No s) at next (body_stmts f size s ++ step_stmts f size rep.No) refl refl refl tt (round_fit f size rep.No s) (string_goes f size s next)
string_blocks f size rep.Rep s at next h =
    two_blocks (i.Str f size rep.Rep s) at next (round_block at f size rep.Rep s) refl refl refl (round_fit f size rep.Rep s) refl refl refl refl ((refl, refl), refl) refl
    (λ w flags i g. string_does (nat_eq (w.names (name.Reg 1)) 0) rep.Rep at f size s next w flags i g refl (spelled_may_repeat f size rep.Rep s h))
string_blocks f size rep.Repe s at next h =
    two_blocks (i.Str f size rep.Repe s) at next (round_block at f size rep.Repe s) refl refl refl (round_fit f size rep.Repe s) refl set_cond_fit.safe (fit_cond 2 (flag_set 2) (lit≤ tt) set_cond_fit) refl ((refl, refl), (refl, refl)) refl
    (λ w flags i g. string_does (nat_eq (w.names (name.Reg 1)) 0) rep.Repe at f size s next w flags i g refl (spelled_may_repeat f size rep.Repe s h))
string_blocks f size rep.Repne s at next h =
    two_blocks (i.Str f size rep.Repne s) at next (round_block at f size rep.Repne s) refl refl refl (round_fit f size rep.Repne s) refl clear_cond_fit.safe (fit_cond 2 (flag_clear 2) (lit≤ tt) clear_cond_fit) refl ((refl, refl), (refl, refl)) refl
    (λ w flags i g. string_does (nat_eq (w.names (name.Reg 1)) 0) rep.Repne at f size s next w flags i g refl (spelled_may_repeat f size rep.Repne s h))
