-- Steps of the machine that go on without calls.
use Rattle.std.proofs.Common.{◌≡◌, ℕ, zero, suc, ◌+◌, ◌^◌, ◌<◌, ◌≤◌, Bool, true, false, cond, inl, inr, List, [], length, take, Option, None, refl, sym, ap, ◌∙◌, subst, arith, length-append}
use Rattle.std.specs.Prelude.{◌&&◌, ◌||◌, if◌then◌else◌, min, ◌-◌}
use Rattle.std.proofs.Math.Bool.{and-false}
use Rattle.std.proofs.lemmas.Bool.{cases_lt, cases_Bool}
use Rattle.elf_image.specs.declared.image.Segment.{Segment}
use Rattle.elf_image.specs.declared.range.Range.{Range}
use Rattle.elf_image.specs.Range.{is_inside, frozen_from, bytes_to_end}
use Rattle.dream_words.specs.declared.outcome.Start.{Start}
use Rattle.x86_inst.specs.declared.Inst.{Inst}
use Rattle.x86_inst.specs.Spelling.{Spells, opcode, opcode_bytes}
use Rattle.x86_model.specs.declared.effect.Effect.{Effect}
use Rattle.x86_model.specs.declared.effect.Go.TheVariants as go
use Rattle.x86_model.specs.Leads.{allowed, effect_in, instruction_does, leads, refused_read, refused_word, stored}
use Rattle.x86_model.specs.Undefined.{is_stray, reads_undefined}
use Rattle.x86_model.specs.Machine.{Onward, At, Finished, Strays, Blank, State, Ending}
use Rattle.machine.specs.Code.{BeginsAt, Decodes, is_broken}
use Rattle.machine.specs.Run.{Scene, scene_of, act, answer_breaks, goes_middle, is_allowed, reads_allowed, returns_elsewhere, step_at, strays, takes_broken}
use Rattle.machine.specs.Steps.{go_on, judged, steps}
use Rattle.machine.proofs.Fetching.{decoded_is}
use Rattle.machine.proofs.Staying.{more_steps}
use Rattle.machine.proofs.Straying.{unbroken}
use Rattle.jump_tables.specs.Window.{next_of}

-- ---- several steps

-- so many steps from an address
abbrev pub run_from : Scene → ℕ → ℕ → State → Onward State Ending
run_from sc n a s = steps State Ending (step_at sc) n a s

-- so many steps lead from an address and a state to others, without calls
pub record Quiet (sc : Scene) (n a : ℕ) (s : State) (b : ℕ) (t : State) : Type 0 where
  pub leads : run_from sc n a s ≡ At b t
  pub calls : t.calls ≡ s.calls
  pub between : (i : ℕ) → i < n → (c : ℕ) × (u : State) × (run_from sc i a s ≡ At c u) × (u.calls ≡ s.calls)

pub quiet_none : (sc : Scene) (a : ℕ) (s : State) → Quiet sc 0 a s a s
quiet_none sc a s = record { leads = refl; calls = refl; between = λ i lt. absurd (let z : ⊥ = omega (arith, lt) in z) }

-- and one more
pub quiet_more : (sc : Scene) (n a b c : ℕ) (s t u : State) → Quiet sc n a s b t → step_at sc b t ≡ At c u → u.calls ≡ t.calls → Quiet sc (n + 1) a s c u
quiet_more sc n a b c s t u q e k = record {
  leads = more_steps State Ending (step_at sc) n 1 a s ∙ ap (λ r. go_on r (steps State Ending (step_at sc) 1)) q.leads
      ∙ ap (λ r. go_on r (steps State Ending (step_at sc) 0)) e;
  calls = k ∙ q.calls;
  between = λ i lt. elim (cases_lt i n) [
    | inl l ↦ q.between i l
    | inr ge ↦ let same : i ≡ n = omega (arith, lt, ge) in (b, t, ap (λ j. run_from sc j a s) same ∙ q.leads, q.calls)
  ];
}

-- Fewer than n steps lead along from an address and a state without calls, and the next one ends the run.
pub record Stops (sc : Scene) (n a : ℕ) (s : State) (e : Ending) : Type 0 where
  pub count : ℕ
  pub fewer : count < n
  pub at : ℕ
  pub state : State
  pub quiet : Quiet sc count a s at state
  pub ends : step_at sc at state ≡ Finished e

pub stops_later : (sc : Scene) (n k a : ℕ) (s : State) (e : Ending) → n ≤ k → Stops sc n a s e → Stops sc k a s e
stops_later sc n k a s e l p = record { count = p.count; fewer = omega (arith, l, p.fewer); at = p.at; state = p.state; quiet = p.quiet; ends = p.ends }

-- ---- up to the first step that doesn't lead on

abbrev counted : Onward State Ending → (ℕ → State → ℕ) → ℕ
counted (At b t) f = suc (f b t)
counted (Finished e) f = 1
counted Strays f = 1
counted Blank f = 1

-- how many of n steps there are up to that one
abbrev pub up_to : Scene → ℕ → ℕ → State → ℕ
up_to sc zero a s = 0
up_to sc (suc n) a s = counted (step_at sc a s) (up_to sc n)

counted_some : (o : Onward State Ending) (f : ℕ → State → ℕ) → 1 ≤ counted o f
counted_some (At b t) f = omega arith
counted_some (Finished e) f = omega arith
counted_some Strays f = omega arith
counted_some Blank f = omega arith

pub some_step : (sc : Scene) (n a : ℕ) (s : State) → 0 < n → 1 ≤ up_to sc n a s
some_step sc zero a s l = absurd (let z : ⊥ = omega (arith, l) in z)
some_step sc (suc n) a s l = counted_some (step_at sc a s) (up_to sc n)

module _ (sc : Scene) where
  -- where all lead on, all are counted
  pub all_counted : (n a : ℕ) (s : State) (b : ℕ) (t : State) → run_from sc n a s ≡ At b t → up_to sc n a s ≡ n
  all_counted zero a s b t h = refl
  all_counted (suc n) a s b t h = by (step_at sc a s) refl (λ c u. all_counted n c u b t)
    where
      by : (o : Onward State Ending) → step_at sc a s ≡ o → ((c : ℕ) (u : State) → run_from sc n c u ≡ At b t → up_to sc n c u ≡ n) → up_to sc (suc n) a s ≡ suc n
      by (At c u) e rest = ap (λ x. counted x (up_to sc n)) e ∙ ap (λ k. suc k) (rest c u (ap (λ x. go_on x (steps State Ending (step_at sc) n)) (sym e) ∙ h))
      by (Finished x) e rest = absurd (let g : ◌≡◌ {A = Onward State Ending} (Finished x) (At b t) = ap (λ x. go_on x (steps State Ending (step_at sc) n)) (sym e) ∙ h in cc)
      by Strays e rest = absurd (let g : ◌≡◌ {A = Onward State Ending} Strays (At b t) = ap (λ x. go_on x (steps State Ending (step_at sc) n)) (sym e) ∙ h in cc)
      by Blank e rest = absurd (let g : ◌≡◌ {A = Onward State Ending} Blank (At b t) = ap (λ x. go_on x (steps State Ending (step_at sc) n)) (sym e) ∙ h in cc)

  -- where one ends the run, those up to it are counted
  pub end_counted : (k n a : ℕ) (s : State) (b : ℕ) (t : State) (x : Ending) → k < n → run_from sc k a s ≡ At b t → step_at sc b t ≡ Finished x → up_to sc n a s ≡ k + 1
  end_counted k zero a s b t x l h e = absurd (let z : ⊥ = omega (arith, l) in z)
  end_counted zero (suc n) a s b t x l h e =
      let same : step_at sc a s ≡ Finished x = ap (λ o. go_on o (step_at sc)) h ∙ e in ap (λ o. counted o (up_to sc n)) same
  end_counted (suc k) (suc n) a s b t x l h e = by (step_at sc a s) refl (λ c u g. end_counted k n c u b t x (omega (arith, l)) g e)
    where
      by : (o : Onward State Ending) → step_at sc a s ≡ o → ((c : ℕ) (u : State) → run_from sc k c u ≡ At b t → up_to sc n c u ≡ k + 1) → up_to sc (suc n) a s ≡ suc k + 1
      by (At c u) g rest = ap (λ y. counted y (up_to sc n)) g ∙ ap (λ k. suc k) (rest c u (ap (λ y. go_on y (steps State Ending (step_at sc) k)) (sym g) ∙ h))
          ∙ (let z : suc (k + 1) ≡ suc k + 1 = omega arith in z)
      by (Finished y) g rest = absurd (let f : ◌≡◌ {A = Onward State Ending} (Finished y) (At b t) = ap (λ y. go_on y (steps State Ending (step_at sc) k)) (sym g) ∙ h in cc)
      by Strays g rest = absurd (let f : ◌≡◌ {A = Onward State Ending} Strays (At b t) = ap (λ y. go_on y (steps State Ending (step_at sc) k)) (sym g) ∙ h in cc)
      by Blank g rest = absurd (let f : ◌≡◌ {A = Onward State Ending} Blank (At b t) = ap (λ y. go_on y (steps State Ending (step_at sc) k)) (sym g) ∙ h in cc)

  -- What is told of the steps up to the first one that doesn't lead on: before it each leads on without calls.
  pub record Told (n a : ℕ) (s : State) (o : Onward State Ending) : Type 0 where
    pub leads : run_from sc (up_to sc n a s) a s ≡ o
    pub between : (i : ℕ) → i < up_to sc n a s → (c : ℕ) × (u : State) × (run_from sc i a s ≡ At c u) × (u.calls ≡ s.calls)

  pub quiet_told : (n a : ℕ) (s : State) (b : ℕ) (t : State) → Quiet sc n a s b t → Told n a s (At b t)
  quiet_told n a s b t q =
      let same = all_counted n a s b t q.leads in
      record {
        leads = ap (λ k. run_from sc k a s) same ∙ q.leads;
        between = λ i l. q.between i (subst (λ k. i < k) same l);
      }

  pub stops_told : (n a : ℕ) (s : State) (x : Ending) → Stops sc n a s x → Told n a s (Finished x)
  stops_told n a s x p =
      let same = end_counted p.count n a s p.at p.state x p.fewer p.quiet.leads p.ends in
      record {
        leads = ap (λ k. run_from sc k a s) same ∙ more_steps State Ending (step_at sc) p.count 1 a s ∙ ap (λ r. go_on r (steps State Ending (step_at sc) 1)) p.quiet.leads
            ∙ ap (λ r. go_on r (steps State Ending (step_at sc) 0)) p.ends;
        between = λ i l. elim (cases_lt i p.count) [
          | inl k ↦ p.quiet.between i k
          | inr ge ↦
              let below : i < p.count + 1 = subst (λ k. i < k) same l in
              let here : i ≡ p.count = omega (arith, below, ge) in
              (p.at, p.state, ap (λ j. run_from sc j a s) here ∙ p.quiet.leads, p.quiet.calls)
        ];
      }

-- ---- an address at which an instruction begins is inside

some_opcode : (e : Bool) (op : ℕ) → 0 < length (opcode_bytes e op)
some_opcode true op = omega arith
some_opcode false op = omega arith

some_byte : (x : List ℕ) (i : Inst) → Spells x i → 0 < length x
some_byte x i s =
    let f = s.follows in
    omega (arith, ap length s.bytes, length-append s.prefix s.s, ap length f.bytes, length-append (opcode_bytes f.r.escape (opcode f.r f.low)) f.rest, some_opcode f.r.escape (opcode f.r f.low))

none_taken : (n : ℕ) → ◌≡◌ {A = List ℕ} (take n []) []
none_taken zero = refl
none_taken (suc n) = refl

nothing_spells : (x : List ℕ) (n : ℕ) (i : Inst) → x ≡ [] → Spells (take n x) i → ⊥
nothing_spells x n i e s =
    let short : 0 < 0 = subst (λ y. 0 < length y) (ap (take n) e ∙ none_taken n) (some_byte (take n x) i s) in
    omega (arith, short)

pub begins_inside : (m : List Segment) (r : Range) (a : ℕ) (i : Inst) (n : ℕ) → BeginsAt m r a i n → is_inside r a ≡ true
begins_inside m r a i n b = elim (cases_Bool (is_inside r a)) [
  | inl e ↦ e
  | inr e ↦ absurd (nothing_spells (bytes_to_end m r a) n i (ap (λ t. frozen_from m a (if t then min (r.entry + r.size) (2 ^ 32) - a else 0)) e) b.spelled)
]

-- ---- one step

-- a step that stores nothing, reads no undefined flag and goes on, or to an address, doesn't stray
calm : (sc : Scene) (i : Inst) (s : State) (e : Effect) → e.store ≡ None → takes_broken sc s e.go ≡ false → returns_elsewhere sc s e.go ≡ false
    → (is_stray e.go || goes_middle sc i e.go) ≡ false → reads_undefined i s.flags ≡ false → strays sc i s e ≡ false
calm sc i s e h t r g u =
    ap (λ o. (is_allowed i s e && (is_broken sc.image sc.slot s.mem (stored s.mem o) || takes_broken sc s e.go))
    || (returns_elsewhere sc s e.go || (reads_undefined i s.flags || (reads_allowed i s && (is_stray e.go || goes_middle sc i e.go))))) h
    ∙ ap (λ b. (is_allowed i s e && (b || takes_broken sc s e.go))
    || (returns_elsewhere sc s e.go || (reads_undefined i s.flags || (reads_allowed i s && (is_stray e.go || goes_middle sc i e.go))))) (unbroken sc.image sc.slot s.mem)
    ∙ ap (λ b. (is_allowed i s e && b)
    || (returns_elsewhere sc s e.go || (reads_undefined i s.flags || (reads_allowed i s && (is_stray e.go || goes_middle sc i e.go))))) t
    ∙ ap (λ b. b || (returns_elsewhere sc s e.go || (reads_undefined i s.flags || (reads_allowed i s && (is_stray e.go || goes_middle sc i e.go))))) (and-false (is_allowed i s e))
    ∙ ap (λ b. b || (reads_undefined i s.flags || (reads_allowed i s && (is_stray e.go || goes_middle sc i e.go)))) r
    ∙ ap (λ b. b || (reads_allowed i s && (is_stray e.go || goes_middle sc i e.go))) u
    ∙ ap (λ b. reads_allowed i s && b) g
    ∙ and-false (reads_allowed i s)

calm_next : (sc : Scene) (i : Inst) (s : State) (e : Effect) → e.store ≡ None → e.go ≡ go.Next → reads_undefined i s.flags ≡ false → strays sc i s e ≡ false
calm_next sc i s e h g u = calm sc i s e h (ap (takes_broken sc s) g) (ap (returns_elsewhere sc s) g) (ap (λ k. is_stray k || goes_middle sc i k) g) u

calm_to : (sc : Scene) (i : Inst) (b : ℕ) (s : State) (e : Effect) → e.store ≡ None → e.go ≡ go.To b → reads_undefined i s.flags ≡ false → strays sc i s e ≡ false
calm_to sc i b s e h g u = calm sc i s e h (ap (takes_broken sc s) g) (ap (returns_elsewhere sc s) g) (ap (λ k. is_stray k || goes_middle sc i k) g) u

-- without the tests of strays, a step that stores nothing and goes on, or to an address, leads there, unless a read is refused
pub does_next : (i : Inst) (at next : ℕ) (s : State) → (effect_in i next s).store ≡ None → (effect_in i next s).go ≡ go.Next
    → instruction_does i at next s ≡ allowed (refused_read i s) s (At next (record s { regs = (effect_in i next s).regs; flags = (effect_in i next s).flags }))
does_next i at next s h g =
    let e = effect_in i next s in
    ap (λ o. allowed (refused_read i s) s (allowed (refused_word s.pages.write o) s (leads e.go at next (record s { regs = e.regs; flags = e.flags; mem = stored s.mem o })))) h
    ∙ ap (λ k. allowed (refused_read i s) s (leads k at next (record s { regs = e.regs; flags = e.flags }))) g

pub does_to : (i : Inst) (at next b : ℕ) (s : State) → (effect_in i next s).store ≡ None → (effect_in i next s).go ≡ go.To b
    → instruction_does i at next s ≡ allowed (refused_read i s) s (At b (record s { regs = (effect_in i next s).regs; flags = (effect_in i next s).flags }))
does_to i at next b s h g =
    let e = effect_in i next s in
    ap (λ o. allowed (refused_read i s) s (allowed (refused_word s.pages.write o) s (leads e.go at next (record s { regs = e.regs; flags = e.flags; mem = stored s.mem o })))) h
    ∙ ap (λ k. allowed (refused_read i s) s (leads k at next (record s { regs = e.regs; flags = e.flags }))) g

module _ (m : List Segment) (r : Range) (decoded : ℕ → Option (Inst × ℕ)) (decodes : Decodes m r decoded) (start : Start) where
  abbrev pub scene : Scene
  scene = scene_of m r decoded start

  step_is : (a : ℕ) (i : Inst) (n : ℕ) (s : State) → BeginsAt m r a i n
      → step_at scene a s ≡ judged (strays scene i s (effect_in i (next_of a n) s)) (instruction_does i a (next_of a n) s)
  step_is a i n s b =
      ap (λ t. cond t (act scene a s (decoded a)) (judged (answer_breaks scene s.left s.mem) (leads (go.LeaveTo a) a a s))) (begins_inside m r a i n b)
      ∙ ap (λ o. act scene a s o) (decoded_is m r decoded a i n decodes b)

  pub step_next : (a : ℕ) (i : Inst) (n : ℕ) (s : State) → BeginsAt m r a i n → (effect_in i (next_of a n) s).store ≡ None → (effect_in i (next_of a n) s).go ≡ go.Next
      → reads_undefined i s.flags ≡ false
      → step_at scene a s ≡ allowed (refused_read i s) s (At (next_of a n) (record s { regs = (effect_in i (next_of a n) s).regs; flags = (effect_in i (next_of a n) s).flags }))
  step_next a i n s b h g u =
      step_is a i n s b ∙ ap (λ t. judged t (instruction_does i a (next_of a n) s)) (calm_next scene i s (effect_in i (next_of a n) s) h g u) ∙ does_next i a (next_of a n) s h g

  pub step_to : (a : ℕ) (i : Inst) (n to : ℕ) (s : State) → BeginsAt m r a i n → (effect_in i (next_of a n) s).store ≡ None → (effect_in i (next_of a n) s).go ≡ go.To to
      → reads_undefined i s.flags ≡ false
      → step_at scene a s ≡ allowed (refused_read i s) s (At to (record s { regs = (effect_in i (next_of a n) s).regs; flags = (effect_in i (next_of a n) s).flags }))
  step_to a i n to s b h g u =
      step_is a i n s b ∙ ap (λ t. judged t (instruction_does i a (next_of a n) s)) (calm_to scene i to s (effect_in i (next_of a n) s) h g u) ∙ does_to i a (next_of a n) to s h g
