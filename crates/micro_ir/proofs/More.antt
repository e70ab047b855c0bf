-- A run of more blocks is the run of the first of them, and then of the others.
use Rattle.std.proofs.Common.{◌≡◌, ℕ, zero, suc, ◌+◌, ◌-◌, ◌<◌, ◌≤◌, ⊎_elim, List, refl, sym, ap, ◌∙◌, subst, zero-add, arith}
use Rattle.std.specs.Prelude.{slice_get}
use Rattle.std.proofs.lemmas.Bool.{cases_lt}
use Rattle.dream_words.specs.declared.outcome.Start.{Start}
use Rattle.dream_words.specs.declared.outcome.Answer.{Answer}
use Rattle.dream_words.specs.declared.outcome.Outcome.{Outcome}
use Rattle.dream_words.specs.declared.outcome.Outcome.TheVariants as outcome
use Rattle.run_parts.specs.Steps.{To, End, Nowhere}
use Rattle.run_parts.specs.World.{World, start_world}
use Rattle.run_parts.proofs.Runs.{begins_self}
use Rattle.c_syntax.specs.RunLaws.{Continues}
use Rattle.micro_ir.specs.declared.flow.Block.{Block}
use Rattle.micro_ir.specs.declared.flow.Flow.{Flow}
use Rattle.micro_ir.specs.Run.{Arrive, enter, onward, walk, outcome_of, flow_run}
use Rattle.micro_ir.specs.Laws.{ArriveShows, MoreBlocksContinue}
use Rattle.micro_ir.proofs.Adds.{walk_adds}

suc_plus : (j k : ℕ) → suc j + k ≡ suc (j + k)
suc_plus j k = omega arith

onward_twice : (a : Arrive) (f g h : ℕ → World → Arrive) → ((n : ℕ) (w : World) → f n w ≡ onward (g n w) h) → onward a f ≡ onward (onward a g) h
onward_twice (To n w) f g h e = e n w
onward_twice (End o) f g h e = refl
onward_twice Nowhere f g h e = refl

-- the first j blocks, and then the next k
pub more_blocks : (blocks : List Block) (j k n : ℕ) (w : World) → walk blocks (j + k) n w ≡ onward (walk blocks j n w) (walk blocks k)
more_blocks blocks zero k n w = ap (λ i. walk blocks i n w) (zero-add k)
more_blocks blocks (suc j) k n w =
    ap (λ i. walk blocks i n w) (suc_plus j k)
    ∙ onward_twice (enter (slice_get blocks n) w) (walk blocks (j + k)) (walk blocks j) (walk blocks k) (more_blocks blocks j k)

-- what follows, where the first blocks lead there
pub more_from : (blocks : List Block) (j k n : ℕ) (w : World) (a : Arrive) → walk blocks j n w ≡ a → walk blocks (j + k) n w ≡ onward a (walk blocks k)
more_from blocks j k n w a e = more_blocks blocks j k n w ∙ ap (λ b. onward b (walk blocks k)) e

pub end_stays : (blocks : List Block) (j k n : ℕ) (w : World) (o : Outcome) → walk blocks j n w ≡ End o → walk blocks (j + k) n w ≡ End o
end_stays blocks j k n w o e = more_from blocks j k n w (End o) e

pub nowhere_stays : (blocks : List Block) (j k n : ℕ) (w : World) → walk blocks j n w ≡ Nowhere → walk blocks (j + k) n w ≡ Nowhere
nowhere_stays blocks j k n w e = more_from blocks j k n w Nowhere e

-- the same, where the numbers of blocks are compared
pub end_later : (blocks : List Block) (j k n : ℕ) (w : World) (o : Outcome) → j ≤ k → walk blocks j n w ≡ End o → walk blocks k n w ≡ End o
end_later blocks j k n w o l e =
    ap (λ i. walk blocks i n w) (let s : k ≡ j + (k - j) = omega (arith, l) in s) ∙ end_stays blocks j (k - j) n w o e

pub one_end : (blocks : List Block) (j k n : ℕ) (w : World) (o p : Outcome) → walk blocks j n w ≡ End o → walk blocks k n w ≡ End p → o ≡ p
one_end blocks j k n w o p d e =
    let f = end_stays blocks j k n w o d in
    let g = end_stays blocks k j n w p e in
    let s : j + k ≡ k + j = omega arith in
    let both : End o ≡ walk blocks (k + j) n w = sym f ∙ ap (λ i. walk blocks i n w) s in
    cc

pub goes_before : (blocks : List Block) (j k n m : ℕ) (w u : World) (o : Outcome) → walk blocks j n w ≡ To m u → walk blocks k n w ≡ End o → j < k
goes_before blocks j k n m w u o d e = ⊎_elim (λ l. l) (λ l. absurd (let f = end_later blocks k j n w o l e in let z : ⊥ = cc in z)) (cases_lt j k)

pub calls_later : (blocks : List Block) (j k n m : ℕ) (w u : World) → walk blocks j n w ≡ To m u → ArriveShows u.calls (walk blocks (j + k) n w)
calls_later blocks j k n m w u e = subst (ArriveShows u.calls) (sym (more_from blocks j k n w (To m u) e)) (walk_adds blocks k m u)

-- ---- the outcome of a run

continues_self : (o : Outcome) → Continues o o
continues_self (outcome.Returned r m c) = refl
continues_self (outcome.Faulted v a m c) = refl
continues_self (outcome.Asking c) = refl
continues_self (outcome.Going c) = begins_self c
continues_self outcome.Strayed = refl
continues_self outcome.Undecoded = refl
continues_self outcome.Stuck = refl

going_continues : (c : _) (a : Arrive) → ArriveShows c a → Continues (outcome.Going c) (outcome_of a)
going_continues c (To n w) h = h
going_continues c (End o) h = h
going_continues c Nowhere h = tt

onward_continues : (a : Arrive) (k : ℕ → World → Arrive) → ((n : ℕ) (u : World) → ArriveShows u.calls (k n u)) → Continues (outcome_of a) (outcome_of (onward a k))
onward_continues (To n w) k h = going_continues w.calls (k n w) (h n w)
onward_continues (End o) k h = continues_self o
onward_continues Nowhere k h = refl

pub run_continues : (f : Flow) (start : Start) (answers : List Answer) (j k : ℕ) → Continues (flow_run f start answers j) (flow_run f start answers (j + k))
run_continues f start answers j k =
    subst (λ a. Continues (flow_run f start answers j) (outcome_of a)) (sym (more_blocks f.blocks j k f.entry (start_world start answers)))
    (onward_continues (walk f.blocks j f.entry (start_world start answers)) (walk f.blocks k) (walk_adds f.blocks k))

pub more_blocks_continue : MoreBlocksContinue
more_blocks_continue = record {
  more_blocks = more_blocks;
  end_stays = end_stays;
  nowhere_stays = nowhere_stays;
  one_end = one_end;
  goes_before = goes_before;
  calls_later = calls_later;
  run_continues = run_continues;
}
