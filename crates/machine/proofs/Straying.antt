-- When a step strays, in tests and in words.
use Rattle.std.proofs.Common.{◌≡◌, ℕ, zero, suc, ◌+◌, ◌-◌, ◌%◌, ◌^◌, ◌<◌, ◌≤◌, ◌⊎◌, inl, inr, ◌↔◌, Bool, true, false, not, ◌&&◌, ◌||◌, ◌==◌, nat_le, nat_lt, List, [], ◌∷◌, length, Option, Some, refl, sym, ap, subst, ◌∙◌, arith, cond, add-zero}
use Rattle.std.specs.Prelude.{IsSome}
use Rattle.std.proofs.lemmas.Bool.{cases_eq, cases_Bool, eqb-true, eqb-false, ne_eqb, le-leb, lt-ltb, leb-true, ltb-true, and_parts, and_from, and_cases, or_cases, or_parts, or_left, or_right, not-true, not_from_false, both_ways}
use Rattle.elf_image.specs.declared.image.Segment.{Segment}
use Rattle.elf_image.specs.Image.{frozen_byte, is_frozen_in}
use Rattle.elf_image.specs.Range.{is_inside}
use Rattle.dream_words.specs.declared.outcome.Answer.{Answer}
use Rattle.dream_words.specs.Memory.{Mem, byte_at}
use Rattle.x86_inst.specs.declared.Inst.{Inst}
use Rattle.x86_model.specs.declared.effect.Go.{Go}
use Rattle.x86_model.specs.declared.effect.Go.TheVariants.{Next, Again, To, CallTo, LeaveTo, Return, Fault, Stray}
use Rattle.x86_model.specs.declared.effect.Effect.{Effect}
use Rattle.x86_model.specs.Machine.{State}
use Rattle.x86_model.specs.Leads.{stored, step_of, effect_in}
use Rattle.x86_model.specs.Undefined.{reads_undefined, is_stray}
use Rattle.x86_model.specs.Laws.{StraysSo}
use Rattle.machine.specs.Code.{all_below, keeps_frozen, keeps_slot, is_broken}
use Rattle.machine.specs.Run.{Scene, is_indirect, answer_breaks, is_middle, reads_allowed, is_allowed, takes_broken, goes_middle, returns_elsewhere, strays}
use Rattle.machine.specs.Laws.{StrayingIsExact, Straying, Breaks, AnswerBreaks, IsMiddle, CallsTo}
use Rattle.machine.specs.Laws as laws

-- ---- a test below a number

fails_below : (n : ℕ) (test : ℕ → Bool) → all_below n test ≡ false → (k : ℕ) × (k < n) × (test k ≡ false)
fails_below zero test h = absurd (both_ways false refl (sym h))
fails_below (suc n) test h = elim (and_cases (all_below n test) (test n) h) [
  | inl e ↦ let p = fails_below n test e in (p.0, omega (arith, p.1), p.2)
  | inr e ↦ (n, omega arith, e)
]

pub holds_below : (n k : ℕ) (test : ℕ → Bool) → all_below n test ≡ true → k < n → test k ≡ true
holds_below zero k test h lt = absurd (omega (arith, lt))
holds_below (suc n) k test h lt =
    let p = and_parts (all_below n test) (test n) h in
    elim (cases_eq k n) [
      | inl e ↦ subst (λ j. test j ≡ true) (sym e) p.1
      | inr ne ↦ holds_below n k test p.0 (omega (arith, ne))
    ]

-- ---- frozen bytes

-- a byte of a segment is frozen in it
is_in : (s : Segment) (k : ℕ) → s.writable ≡ false → k < length s.bytes → is_frozen_in s (s.at + k) ≡ true
is_in s k w lt =
    and_from (not s.writable) (nat_le s.at (s.at + k) && nat_lt (s.at + k) (s.at + length s.bytes)) (not_from_false s.writable w)
    (and_from (nat_le s.at (s.at + k)) (nat_lt (s.at + k) (s.at + length s.bytes)) (le-leb s.at (s.at + k) (omega arith)) (lt-ltb (s.at + k) (s.at + length s.bytes) (omega (arith, lt))))

some_if : (t : Bool) (b : ℕ) (o : Option ℕ) → (t ≡ true) ⊎ IsSome o → IsSome (cond t (Some b) o)
some_if true b o h = refl
some_if false b o (inl e) = absurd (both_ways false refl e)
some_if false b o (inr h) = h

if_some : (t : Bool) (b : ℕ) (o : Option ℕ) → IsSome (cond t (Some b) o) → (t ≡ true) ⊎ ((t ≡ false) × IsSome o)
if_some true b o h = inl refl
if_some false b o h = inr (refl, h)

-- a frozen byte is another
Changes : List Segment → Mem → Mem → Type 0
Changes m old new = (a : ℕ) × IsSome (frozen_byte m a) × (byte_at old a ≡ byte_at new a → ⊥)

frozen_changes : (m : List Segment) (old new : Mem) → keeps_frozen m old new ≡ false → Changes m old new
unfolding Changes
frozen_changes [] old new h = absurd (both_ways true h refl)
frozen_changes (s ∷ ss) old new h =
    let same : ℕ → Bool = λ k. byte_at old (s.at + k) == byte_at new (s.at + k) in
    elim (and_cases (s.writable || all_below (length s.bytes) same) (keeps_frozen ss old new) h) [
      | inl e ↦
          let p = or_parts s.writable (all_below (length s.bytes) same) e in
          let f = fails_below (length s.bytes) same p.1 in
          (s.at + f.0, some_if (is_frozen_in s (s.at + f.0)) _ (frozen_byte ss (s.at + f.0)) (inl (is_in s f.0 p.0 f.1)), eqb-false (byte_at old (s.at + f.0)) (byte_at new (s.at + f.0)) f.2)
      | inr e ↦
          let p = frozen_changes ss old new e in
          (p.0, some_if (is_frozen_in s p.0) _ (frozen_byte ss p.0) (inr p.1), p.2)
    ]

frozen_stays : (m : List Segment) (old new : Mem) (a : ℕ) → keeps_frozen m old new ≡ true → IsSome (frozen_byte m a) → byte_at old a ≡ byte_at new a
frozen_stays [] old new a h some = absurd (both_ways false refl some)
frozen_stays (s ∷ ss) old new a h some =
    let same : ℕ → Bool = λ k. byte_at old (s.at + k) == byte_at new (s.at + k) in
    let p = and_parts (s.writable || all_below (length s.bytes) same) (keeps_frozen ss old new) h in
    elim (if_some (is_frozen_in s a) _ (frozen_byte ss a) some) [
      | inl is ↦
          let q = and_parts (not s.writable) (nat_le s.at a && nat_lt a (s.at + length s.bytes)) is in
          let r = and_parts (nat_le s.at a) (nat_lt a (s.at + length s.bytes)) q.1 in
          let above : s.at ≤ a = leb-true s.at a r.0 in
          let below : a < s.at + length s.bytes = ltb-true a (s.at + length s.bytes) r.1 in
          let lt : a - s.at < length s.bytes = omega (arith, above, below) in
          let at : s.at + (a - s.at) ≡ a = omega (arith, above) in
          let kept : all_below (length s.bytes) same ≡ true = elim (or_cases s.writable (all_below (length s.bytes) same) p.0) [
            | inl w ↦ absurd (both_ways s.writable (not-true s.writable q.0) w)
            | inr k ↦ k
          ] in
          let e : byte_at old (s.at + (a - s.at)) ≡ byte_at new (s.at + (a - s.at)) = eqb-true _ _ (holds_below (length s.bytes) (a - s.at) same kept lt) in
          subst (λ b. byte_at old b ≡ byte_at new b) at e
      | inr no' ↦ frozen_stays ss old new a p.1 no'.1
    ]

-- ---- the return slot

SlotChanges : ℕ → Mem → Mem → Type 0
SlotChanges s old new = (k : ℕ) × (k < 4) × (byte_at old ((s + k) % 2 ^ 32) ≡ byte_at new ((s + k) % 2 ^ 32) → ⊥)

first_byte : (s : ℕ) (old new : Mem) → (byte_at old (s % 2 ^ 32) ≡ byte_at new (s % 2 ^ 32)) ↔ (byte_at old ((s + 0) % 2 ^ 32) ≡ byte_at new ((s + 0) % 2 ^ 32))
first_byte s old new =
    (subst (λ a. byte_at old (a % 2 ^ 32) ≡ byte_at new (a % 2 ^ 32)) (sym (add-zero s)), subst (λ a. byte_at old (a % 2 ^ 32) ≡ byte_at new (a % 2 ^ 32)) (add-zero s))

slot_changes : (s : ℕ) (old new : Mem) → keeps_slot s old new ≡ false → SlotChanges s old new
unfolding SlotChanges
slot_changes s old new h =
    let test : ℕ → Bool = λ a. byte_at old (a % 2 ^ 32) == byte_at new (a % 2 ^ 32) in
    elim (and_cases (test s) (test (s + 1) && (test (s + 2) && test (s + 3))) h) [
      | inl f ↦ (0, omega arith, λ g. eqb-false _ _ f ((first_byte s old new).1 g))
      | inr e ↦ elim (and_cases (test (s + 1)) (test (s + 2) && test (s + 3)) e) [
        | inl f ↦ (1, omega arith, eqb-false _ _ f)
        | inr g ↦ elim (and_cases (test (s + 2)) (test (s + 3)) g) [
          | inl f ↦ (2, omega arith, eqb-false _ _ f)
          | inr f ↦ (3, omega arith, eqb-false _ _ f)
        ]
      ]
    ]

slot_stays : (s : ℕ) (old new : Mem) (k : ℕ) → keeps_slot s old new ≡ true → k < 4 → byte_at old ((s + k) % 2 ^ 32) ≡ byte_at new ((s + k) % 2 ^ 32)
slot_stays s old new k h lt =
    let test : ℕ → Bool = λ a. byte_at old (a % 2 ^ 32) == byte_at new (a % 2 ^ 32) in
    let p = and_parts (test s) (test (s + 1) && (test (s + 2) && test (s + 3))) h in
    let q = and_parts (test (s + 1)) (test (s + 2) && test (s + 3)) p.1 in
    let r = and_parts (test (s + 2)) (test (s + 3)) q.1 in
    at k lt ((first_byte s old new).0 (eqb-true _ _ p.0)) (eqb-true _ _ q.0) (eqb-true _ _ r.0) (eqb-true _ _ r.1)
  where
    at : (k : ℕ) → k < 4 → byte_at old ((s + 0) % 2 ^ 32) ≡ byte_at new ((s + 0) % 2 ^ 32) → byte_at old ((s + 1) % 2 ^ 32) ≡ byte_at new ((s + 1) % 2 ^ 32)
        → byte_at old ((s + 2) % 2 ^ 32) ≡ byte_at new ((s + 2) % 2 ^ 32) → byte_at old ((s + 3) % 2 ^ 32) ≡ byte_at new ((s + 3) % 2 ^ 32)
        → byte_at old ((s + k) % 2 ^ 32) ≡ byte_at new ((s + k) % 2 ^ 32)
    at zero lt a b c d = a
    at (suc zero) lt a b c d = b
    at (suc (suc zero)) lt a b c d = c
    at (suc (suc (suc zero))) lt a b c d = d
    at (suc (suc (suc (suc k)))) lt a b c d = absurd (omega (arith, lt))

-- ---- both

pub breaks : (m : List Segment) (s : ℕ) (old new : Mem) → is_broken m s old new ≡ true → Breaks m s old new
unfolding Changes SlotChanges
breaks m s old new h = elim (and_cases (keeps_frozen m old new) (keeps_slot s old new) (not-true _ h)) [
  | inl e ↦ inl (frozen_changes m old new e)
  | inr e ↦ inr (slot_changes s old new e)
]

pub broken : (m : List Segment) (s : ℕ) (old new : Mem) → Breaks m s old new → is_broken m s old new ≡ true
broken m s old new h = elim (cases_Bool (keeps_frozen m old new && keeps_slot s old new)) [
  | inl e ↦
      let p = and_parts (keeps_frozen m old new) (keeps_slot s old new) e in
      absurd (elim h [ inl c ↦ c.2 (frozen_stays m old new c.0 p.0 c.1) | inr c ↦ c.2 (slot_stays s old new c.0 p.1 c.1) ])
  | inr e ↦ not_from_false _ e
]

answer_broken : (sc : Scene) (left : List Answer) (old : Mem) → AnswerBreaks sc left old → answer_breaks sc left old ≡ true
answer_broken sc [] old h = absurd h
answer_broken sc (a ∷ rest) old h = broken sc.image sc.slot old a.mem h

breaks_answer : (sc : Scene) (left : List Answer) (old : Mem) → answer_breaks sc left old ≡ true → AnswerBreaks sc left old
breaks_answer sc [] old h = absurd (both_ways false refl h)
breaks_answer sc (a ∷ rest) old h = breaks sc.image sc.slot old a.mem h

middle : (sc : Scene) (i : Inst) (a : ℕ) → is_middle sc i a ≡ true → IsMiddle sc i a
middle sc i a h =
    let p = and_parts (is_indirect i) (is_inside sc.range a && not (a == sc.range.entry)) h in
    let q = and_parts (is_inside sc.range a) (not (a == sc.range.entry)) p.1 in
    record { indirect = p.0; inside = q.0; other = eqb-false a sc.range.entry (not-true _ q.1) }

is_middle_if : (sc : Scene) (i : Inst) (a : ℕ) → IsMiddle sc i a → is_middle sc i a ≡ true
is_middle_if sc i a h =
    and_from (is_indirect i) (is_inside sc.range a && not (a == sc.range.entry)) h.indirect
    (and_from (is_inside sc.range a) (not (a == sc.range.entry)) h.inside (not_from_false _ (ne_eqb a sc.range.entry h.other)))

-- ---- reasons of a step, by where its effect goes

taken : (sc : Scene) (m : State) (g : Go) → takes_broken sc m g ≡ true → (a : ℕ) × CallsTo a g × AnswerBreaks sc m.left m.mem
taken sc m (CallTo a) h = (a, laws.call, breaks_answer sc m.left m.mem h)
taken sc m (LeaveTo a) h = (a, laws.leave, breaks_answer sc m.left m.mem h)
taken sc m Next h = absurd (both_ways false refl h)
taken sc m Again h = absurd (both_ways false refl h)
taken sc m (To a) h = absurd (both_ways false refl h)
taken sc m Return h = absurd (both_ways false refl h)
taken sc m (Fault v) h = absurd (both_ways false refl h)
taken sc m Stray h = absurd (both_ways false refl h)

is_taken : (sc : Scene) (m : State) (a : ℕ) (g : Go) → CallsTo a g → AnswerBreaks sc m.left m.mem → takes_broken sc m g ≡ true
is_taken sc m a _ laws.call h = answer_broken sc m.left m.mem h
is_taken sc m a _ laws.leave h = answer_broken sc m.left m.mem h

gone : (sc : Scene) (i : Inst) (g : Go) → goes_middle sc i g ≡ true → (a : ℕ) × CallsTo a g × IsMiddle sc i a
gone sc i (CallTo a) h = (a, laws.call, middle sc i a h)
gone sc i (LeaveTo a) h = (a, laws.leave, middle sc i a h)
gone sc i Next h = absurd (both_ways false refl h)
gone sc i Again h = absurd (both_ways false refl h)
gone sc i (To a) h = absurd (both_ways false refl h)
gone sc i Return h = absurd (both_ways false refl h)
gone sc i (Fault v) h = absurd (both_ways false refl h)
gone sc i Stray h = absurd (both_ways false refl h)

is_gone : (sc : Scene) (i : Inst) (a : ℕ) (g : Go) → CallsTo a g → IsMiddle sc i a → goes_middle sc i g ≡ true
is_gone sc i a _ laws.call h = is_middle_if sc i a h
is_gone sc i a _ laws.leave h = is_middle_if sc i a h

returned : (sc : Scene) (m : State) (g : Go) → returns_elsewhere sc m g ≡ true → (g ≡ Return) × (m.regs.esp ≡ sc.slot → ⊥)
returned sc m Return h = (refl, eqb-false m.regs.esp sc.slot (not-true _ h))
returned sc m (CallTo a) h = absurd (both_ways false refl h)
returned sc m (LeaveTo a) h = absurd (both_ways false refl h)
returned sc m Next h = absurd (both_ways false refl h)
returned sc m Again h = absurd (both_ways false refl h)
returned sc m (To a) h = absurd (both_ways false refl h)
returned sc m (Fault v) h = absurd (both_ways false refl h)
returned sc m Stray h = absurd (both_ways false refl h)

is_returned : (sc : Scene) (m : State) (g : Go) → g ≡ Return → (m.regs.esp ≡ sc.slot → ⊥) → returns_elsewhere sc m g ≡ true
is_returned sc m g e ne = ap (returns_elsewhere sc m) e ∙ not_from_false _ (ne_eqb m.regs.esp sc.slot ne)

strays_at : (g : Go) → is_stray g ≡ true → g ≡ Stray
strays_at Stray h = refl
strays_at (CallTo a) h = absurd (both_ways false refl h)
strays_at (LeaveTo a) h = absurd (both_ways false refl h)
strays_at Next h = absurd (both_ways false refl h)
strays_at Again h = absurd (both_ways false refl h)
strays_at (To a) h = absurd (both_ways false refl h)
strays_at Return h = absurd (both_ways false refl h)
strays_at (Fault v) h = absurd (both_ways false refl h)

-- ---- a step

module _ (law : StraysSo) (sc : Scene) (i : Inst) (next : ℕ) (m : State) where
  -- the effect of the step
  abbrev effect : Effect
  effect = effect_in i next m

  -- the four parts of the test
  abbrev changes : Bool
  changes = is_broken sc.image sc.slot m.mem (stored m.mem effect.store) || takes_broken sc m effect.go

  abbrev astray : Bool
  astray = is_stray effect.go || goes_middle sc i effect.go

  by_change : (is_allowed i m effect && changes) ≡ true → Straying sc i next m
  by_change h =
      let p = and_parts (is_allowed i m effect) changes h in
      elim (or_cases (is_broken sc.image sc.slot m.mem (stored m.mem effect.store)) (takes_broken sc m effect.go) p.1) [
        | inl b ↦ laws.store p.0 (breaks sc.image sc.slot m.mem (stored m.mem effect.store) b)
        | inr t ↦ let q = taken sc m effect.go t in laws.answer p.0 q.0 q.1 q.2
      ]

  by_way : (reads_allowed i m && astray) ≡ true → Straying sc i next m
  by_way h =
      let p = and_parts (reads_allowed i m) astray h in
      elim (or_cases (is_stray effect.go) (goes_middle sc i effect.go) p.1) [
        | inl s ↦ elim ((law i (step_of i next m)).0 (strays_at effect.go s)) [ inl u ↦ laws.undefined u | inr z ↦ laws.search p.0 z ]
        | inr g ↦ let q = gone sc i effect.go g in laws.middle p.0 q.0 q.1 q.2
      ]

  reason : strays sc i m effect ≡ true → Straying sc i next m
  reason h = elim (or_cases (is_allowed i m effect && changes) (returns_elsewhere sc m effect.go || (reads_undefined i m.flags || (reads_allowed i m && astray))) h) [
    | inl c ↦ by_change c
    | inr h' ↦ elim (or_cases (returns_elsewhere sc m effect.go) (reads_undefined i m.flags || (reads_allowed i m && astray)) h') [
      | inl r ↦ let q = returned sc m effect.go r in laws.elsewhere q.0 q.1
      | inr h'' ↦ elim (or_cases (reads_undefined i m.flags) (reads_allowed i m && astray) h'') [
        | inl u ↦ laws.undefined u
        | inr w ↦ by_way w
      ]
    ]
  ]

  if_changes : is_allowed i m effect ≡ true → changes ≡ true → strays sc i m effect ≡ true
  if_changes a c = or_left (is_allowed i m effect && changes) _ (and_from (is_allowed i m effect) changes a c)

  if_way : reads_allowed i m ≡ true → astray ≡ true → strays sc i m effect ≡ true
  if_way a w =
      or_right (is_allowed i m effect && changes) _ (or_right (returns_elsewhere sc m effect.go) _ (or_right (reads_undefined i m.flags) _ (and_from (reads_allowed i m) astray a w)))

  by_reason : Straying sc i next m → strays sc i m effect ≡ true
  by_reason (laws.store a b) = if_changes a (or_left _ (takes_broken sc m effect.go) (broken sc.image sc.slot m.mem (stored m.mem effect.store) b))
  by_reason (laws.answer a t calls b) = if_changes a (or_right (is_broken sc.image sc.slot m.mem (stored m.mem effect.store)) _ (is_taken sc m t effect.go calls b))
  by_reason (laws.elsewhere e ne) =
      or_right (is_allowed i m effect && changes) _ (or_left (returns_elsewhere sc m effect.go) _ (is_returned sc m effect.go e ne))
  by_reason (laws.undefined u) =
      or_right (is_allowed i m effect && changes) _ (or_right (returns_elsewhere sc m effect.go) _ (or_left (reads_undefined i m.flags) _ u))
  by_reason (laws.search a z) = if_way a (or_left _ (goes_middle sc i effect.go) (ap is_stray ((law i (step_of i next m)).1 (inr z))))
  by_reason (laws.middle a t calls h) = if_way a (or_right (is_stray effect.go) _ (is_gone sc i t effect.go calls h))

pub straying_is_exact : StraysSo → StrayingIsExact
straying_is_exact law sc i next m = (reason law sc i next m, by_reason law sc i next m)

-- memory that isn't written is kept
pub unbroken : (m : List Segment) (s : ℕ) (mem : Mem) → is_broken m s mem mem ≡ false
unbroken m s mem = elim (cases_Bool (is_broken m s mem mem)) [
  | inl e ↦ absurd (elim (breaks m s mem mem e) [ inl c ↦ c.2 refl | inr c ↦ c.2 refl ])
  | inr e ↦ e
]
