-- The code of a range that is frozen as a whole, and what begins at an address of it.
use Rattle.std.proofs.Common.{◌≡◌, ℕ, zero, suc, ◌+◌, ◌-◌, ◌%◌, ◌^◌, ◌<◌, ◌≤◌, min, Bool, true, false, not, ◌&&◌, ◌==◌, if◌then◌else◌, List, [], ◌∷◌, length, drop, filter, Option, Some, None, refl, sym, ap, ◌∙◌, subst, arith, add-zero, length-append}
use Rattle.std.proofs.lemmas.Bool.{le-leb, lt-ltb, and_from, and_parts, both_ways, eq-eqb, ne_eqb}
use Rattle.elf_image.specs.declared.image.Segment.{Segment}
use Rattle.elf_image.specs.declared.range.Range.{Range}
use Rattle.elf_image.specs.Image.{frozen_byte}
use Rattle.elf_image.specs.Range.{is_inside, before_some, frozen_from, bytes_to_end}
use Rattle.x86_inst.specs.declared.Inst.{Inst}
use Rattle.x86_inst.specs.declared.Inst.TheVariants as inst
use Rattle.x86_inst.specs.declared.Operand.TheVariants as o
use Rattle.x86_inst.specs.declared.AluOp.TheVariants.{Cmp}
use Rattle.x86_decode.specs.Decodes.{Decodes}
use Rattle.x86_decode.specs.declared.decoder.Decoded.{Decoded}
use Rattle.x86_decode.specs.declared.decoder.Decoded.TheVariants as decoded
use Rattle.x86_model.specs.Rows.{is_bare}
use Rattle.x86_model.specs.WideRows.{repeats}
use Rattle.x86_model.specs.Successors.{successors_of}
use Rattle.machine.specs.Code.{BeginsAt}
use Rattle.flow_graph.specs.declared.place.Cause.{Cause}
use Rattle.flow_graph.specs.declared.place.Cause.TheVariants as cause
use Rattle.jump_tables.specs.declared.table.TableWindow.{TableWindow}
use Rattle.jump_tables.specs.Window.{next_of, IsWindow, HasNoWindow, target_of, targets_of, window_successors}
use Rattle.flow_graph.specs.Reach as reach
use Rattle.flow_graph.specs.Place.{HasCause}
use Rattle.flow_graph.specs.Discovery as list
use Rattle.flow_graph.specs.Discovery.{HasSuccessors}
use Rattle.flow_graph.specs.Sites.{call_cause, cause_of, found_successors, found_cause, CauseIs, IsSite, IsCode}
use Rattle.flow_graph.proofs.Frozen.{entry_inside}
use Rattle.flow_graph.proofs.OnePlaces.{some_begins, one_at}

-- ---- the code at an address

drop_frozen : (m : List Segment) (j a k : ℕ) → j ≤ length (frozen_from m a (j + k)) → drop j (frozen_from m a (j + k)) ≡ frozen_from m (a + j) k
drop_frozen m zero a k h = let e : 0 + k ≡ k = omega arith in ap (frozen_from m a) e ∙ ap (λ b. frozen_from m b k) (sym (add-zero a))
drop_frozen m (suc j) a k h =
    let e : suc j + k ≡ suc (j + k) = omega arith in
    let h' : suc j ≤ length (frozen_from m a (suc (j + k))) = subst (λ n. suc j ≤ length (frozen_from m a n)) e h in
    ap (λ n. drop (suc j) (frozen_from m a n)) e ∙ at (frozen_byte m a) h' (λ g. drop_frozen m j (a + 1) k g)
  where
    at : (o : Option ℕ) → suc j ≤ length (before_some o (frozen_from m (a + 1) (j + k))) → (j ≤ length (frozen_from m (a + 1) (j + k)) → drop j (frozen_from m (a + 1) (j + k)) ≡ frozen_from m (a + 1 + j) k)
        → drop (suc j) (before_some o (frozen_from m (a + 1) (j + k))) ≡ frozen_from m (a + suc j) k
    at None g rest = absurd (omega (arith, g))
    at (Some b) g rest = let e : a + 1 + j ≡ a + suc j = omega arith in rest (omega (arith, g)) ∙ ap (λ n. frozen_from m n k) e

pub inside_at : (r : Range) (at : ℕ) → at < r.size → is_inside r (r.entry + at) ≡ true
inside_at r at h = and_from _ _ (le-leb r.entry (r.entry + at) (omega arith)) (lt-ltb (r.entry + at) (r.entry + r.size) (omega (arith, h)))

room_at : (r : Range) (at : ℕ) → at < r.size → r.entry + r.size ≤ 2 ^ 32
    → (if is_inside r (r.entry + at) then min (r.entry + r.size) (2 ^ 32) - (r.entry + at) else 0) ≡ r.size - at
room_at r at h fits = let e : min (r.entry + r.size) (2 ^ 32) - (r.entry + at) ≡ r.size - at = grind (arith, h, fits) in rw (inside_at r at h) e

-- the bytes to the end of a range that is frozen as a whole are the rest of its code
pub code_at : (m : List Segment) (r : Range) (at : ℕ) → at < r.size → r.entry + r.size ≤ 2 ^ 32 → length (bytes_to_end m r r.entry) ≡ r.size
    → bytes_to_end m r (r.entry + at) ≡ drop at (bytes_to_end m r r.entry)
code_at m r at h fits whole =
    let sum : at + (r.size - at) ≡ r.size = omega (arith, h) in
    let first : bytes_to_end m r r.entry ≡ frozen_from m r.entry (at + (r.size - at)) =
    let e : (if is_inside r r.entry then min (r.entry + r.size) (2 ^ 32) - r.entry else 0) ≡ r.size =
    (let f : min (r.entry + r.size) (2 ^ 32) - r.entry ≡ r.size = grind (arith, fits) in rw (entry_inside r (omega (arith, h))) f) in
    ap (frozen_from m r.entry) (e ∙ sym sum) in
    let long : at ≤ length (frozen_from m r.entry (at + (r.size - at))) = omega (arith, ap length first, whole, h) in
    ap (frozen_from m (r.entry + at)) (room_at r at h fits) ∙ sym (drop_frozen m at r.entry (r.size - at) long) ∙ ap (drop at) (sym first)

-- ---- what begins at an address

-- the successors of what begins there, where no window stands
decoded_successors : (m : List Segment) (r : Range) (a : ℕ) (d : Decoded) → HasNoWindow m r a → Decodes (bytes_to_end m r a) d → HasSuccessors m r a (found_successors r a d)
decoded_successors m r a (decoded.Inst i n) none h =
    list.begins (successors_of i a (next_of a n)) (reach.of_instruction i n (record { within = h.0; spelled = h.1 }) none refl) refl
decoded_successors m r a decoded.Cut none h = list.none h.0 refl
decoded_successors m r a decoded.None none h = list.none h.0 refl

-- a target that is inside and isn't the entry
call_inside : (r : Range) (target : ℕ) → is_inside r target ≡ true → (target ≡ r.entry → ⊥) → call_cause r target ≡ Some cause.CallInside
call_inside r target h other = ap (λ b. if b then Some cause.CallInside else None) (and_from (is_inside r target) (not (target == r.entry)) h (ap not (ne_eqb target r.entry other)))

inside_call : (r : Range) (target : ℕ) (c : Cause) → call_cause r target ≡ Some c → (c ≡ cause.CallInside) × (is_inside r target ≡ true) × (target ≡ r.entry → ⊥)
inside_call r target c h = by (is_inside r target && not (target == r.entry)) refl h
  where
    by : (b : Bool) → (is_inside r target && not (target == r.entry)) ≡ b → (if b then Some cause.CallInside else None) ≡ Some c
        → (c ≡ cause.CallInside) × (is_inside r target ≡ true) × (target ≡ r.entry → ⊥)
    by true e h = (let p = and_parts (is_inside r target) (not (target == r.entry)) e in
        (let is : c ≡ cause.CallInside = cc in is, p.0, λ q. both_ways (not (target == r.entry)) (ap not (eq-eqb target r.entry q)) p.1))
    by false e h = absurd (let z : ⊥ = cc in z)

-- a cause of the instruction that begins there is the one that the instruction is
is_cause : (m : List Segment) (r : Range) (a : ℕ) (i : Inst) (n : ℕ) (c : Cause) → BeginsAt m r a i n → HasCause m r a c → cause_of r i (next_of a n) ≡ Some c
is_cause m r a i n cause.Instruction b h = absurd (some_begins m r a i n b h.0)
is_cause m r a i n cause.Straddle b h = absurd (some_begins m r a i n b h.0)
is_cause m r a i n cause.IndirectJump b h =
    let p = one_at m r a i (inst.JmpTo h.s) n h.n b h.begins in
    ap (λ j. cause_of r j (next_of a n)) p.1 ∙ ap (λ t. if t then None else Some cause.IndirectJump) h.loose
is_cause m r a i n cause.CallInside b h =
    let p = one_at m r a i (inst.Call h.distance) n h.n b h.begins in
    let same : (next_of a n + h.distance) % 2 ^ 32 ≡ (next_of a h.n + h.distance) % 2 ^ 32 = ap (λ k. (next_of a k + h.distance) % 2 ^ 32) p.0 in
    ap (λ j. cause_of r j (next_of a n)) p.1 ∙ ap (call_cause r) same ∙ call_inside r ((next_of a h.n + h.distance) % 2 ^ 32) h.inside h.other
is_cause m r a i n cause.RangeEmpty b h = absurd h
is_cause m r a i n cause.RangeTooLarge b h = absurd h
is_cause m r a i n cause.RangeUnbacked b h = absurd h

-- the cause that the instruction is, is one there
has_cause : (m : List Segment) (r : Range) (a : ℕ) (i : Inst) (n : ℕ) (c : Cause) → BeginsAt m r a i n → cause_of r i (next_of a n) ≡ Some c → HasCause m r a c
has_cause m r a (inst.JmpTo s) n c b e = by (is_bare s) refl e
  where
    by : (t : Bool) → is_bare s ≡ t → (if t then None else Some cause.IndirectJump) ≡ Some c → HasCause m r a c
    by true loose e = absurd (let z : ⊥ = cc in z)
    by false loose e = (let is : cause.IndirectJump ≡ c = cc in
        subst (HasCause m r a) is (record { s = s; n = n; begins = b; loose = loose }))
has_cause m r a (inst.Call distance) n c b e =
    let p = inside_call r ((next_of a n + distance) % 2 ^ 32) c e in
    subst (HasCause m r a) (sym p.0) (record { distance = distance; n = n; begins = b; inside = p.1; other = p.2 })
has_cause m r a _ n c b e = absurd (let z : ⊥ = cc in z)

by_cause : (m : List Segment) (r : Range) (a : ℕ) (i : Inst) (n : ℕ) (o : Option Cause) → BeginsAt m r a i n → cause_of r i (next_of a n) ≡ o → CauseIs m r a o
by_cause m r a i n None b e = λ c h. (let f : cause_of r i (next_of a n) ≡ Some c = is_cause m r a i n c b h in let z : ⊥ = cc in z)
by_cause m r a i n (Some c) b e = has_cause m r a i n c b e

decoded_cause : (m : List Segment) (r : Range) (a : ℕ) (d : Decoded) → Decodes (bytes_to_end m r a) d → CauseIs m r a (found_cause r a d)
decoded_cause m r a (decoded.Inst i n) h = by_cause m r a i n (cause_of r i (next_of a n)) (record { within = h.0; spelled = h.1 }) refl
decoded_cause m r a decoded.Cut h = h
decoded_cause m r a decoded.None h = h

-- ---- there are at most two

few_of : (i : Inst) (at next : ℕ) → length (successors_of i at next) ≤ 2
few_of (inst.Jcc c distance) at next = omega arith
few_of (inst.Loop distance) at next = omega arith
few_of (inst.Jecxz distance) at next = omega arith
few_of (inst.Jmp distance) at next = omega arith
few_of (inst.JmpTo s) at next = omega arith
few_of (inst.Ret n) at next = omega arith
few_of (inst.Trap v) at next = omega arith
few_of (inst.Str op size r s) at next = by (repeats r)
  where
    by : (b : Bool) → length (if b then at ∷ next ∷ [] else next ∷ []) ≤ 2
    by true = omega arith
    by false = omega arith
few_of _ at next = omega arith

filter_shorter : (p : ℕ → Bool) (xs : List ℕ) → length (filter p xs) ≤ length xs
filter_shorter p [] = omega arith
filter_shorter p (x ∷ xs) = by (p x) (filter_shorter p xs)
  where
    by : (b : Bool) → length (filter p xs) ≤ length xs → length (if b then x ∷ filter p xs else filter p xs) ≤ suc (length xs)
    by true h = omega (arith, h)
    by false h = omega (arith, h)

few_successors : (r : Range) (a : ℕ) (d : Decoded) → length (found_successors r a d) ≤ 2
few_successors r a (decoded.Inst i n) = omega (arith, filter_shorter (is_inside r) (successors_of i a (next_of a n)), few_of i a (next_of a n))
few_successors r a decoded.Cut = omega arith
few_successors r a decoded.None = omega arith

-- ---- a window has no cause, and at most 1,025 successors

window_cause : (m : List Segment) (r : Range) (a : ℕ) (w : TableWindow) → IsWindow m r a w → CauseIs m r a None
window_cause m r a w h = by_cause m r a (inst.Alu Cmp h.index.size h.index.operand (o.Imm h.bound)) h.compare_size None h.compares refl

as_many_targets : (m : List Segment) (w : TableWindow) (n : ℕ) → length (targets_of m w n) ≡ n
as_many_targets m w zero = refl
as_many_targets m w (suc n) = omega (arith, length-append (targets_of m w n) (target_of m w n ∷ []), as_many_targets m w n)

-- ---- what stands at an address

pub window_stands : (m : List Segment) (r : Range) (a : ℕ) (w : TableWindow) (successors : List ℕ) (why : Option Cause) → IsWindow m r a w
    → successors ≡ filter (is_inside r) (window_successors m w) → why ≡ None → IsSite m r a successors why
window_stands m r a w successors why h is none = record {
  listed = list.begins (window_successors m w) (reach.of_window w h refl) is;
  causes = subst (CauseIs m r a) (sym none) (window_cause m r a w h);
  few = omega (arith, ap length is, filter_shorter (is_inside r) (window_successors m w), as_many_targets m w w.count, h.most);
}

pub instruction_stands : (m : List Segment) (r : Range) (a : ℕ) (d : Decoded) (successors : List ℕ) (why : Option Cause) → HasNoWindow m r a
    → Decodes (bytes_to_end m r a) d → successors ≡ found_successors r a d → why ≡ found_cause r a d → IsSite m r a successors why
instruction_stands m r a d successors why none h is causes = record {
  listed = subst (HasSuccessors m r a) (sym is) (decoded_successors m r a d none h);
  causes = subst (CauseIs m r a) (sym causes) (decoded_cause m r a d h);
  few = omega (arith, ap length is, few_successors r a d);
}

-- ---- the walk reads the code at an address

pub decoded_at : (m : List Segment) (r : Range) (code rest : List ℕ) (at : ℕ) (d : Decoded) → IsCode m r code → r.entry ≤ at → at < r.entry + r.size
    → rest ≡ drop (at - r.entry) code → Decodes rest d → Decodes (bytes_to_end m r at) d
decoded_at m r code rest at d c low high is h =
    let k = at - r.entry in
    let sum : r.entry + k ≡ at = omega (arith, low) in
    let whole : length (bytes_to_end m r r.entry) ≡ r.size = ap length (sym c.code_is) ∙ c.whole in
    let there : bytes_to_end m r (r.entry + k) ≡ drop k (bytes_to_end m r r.entry) = code_at m r k (omega (arith, low, high)) c.fits whole in
    let same : rest ≡ bytes_to_end m r at = is ∙ ap (drop k) c.code_is ∙ sym there ∙ ap (bytes_to_end m r) sum in
    subst (λ x. Decodes x d) same h
