-- A range has at most one named place.
use Rattle.std.proofs.Common.{◌≡◌, ℕ, ◌≤◌, List, Option, Some, None, refl, sym, ◌∙◌, subst, ap, arith}
use Rattle.elf_image.specs.declared.image.Segment.{Segment}
use Rattle.elf_image.specs.declared.range.Range.{Range}
use Rattle.elf_image.specs.Range.{bytes_to_end}
use Rattle.x86_inst.specs.declared.Inst.{Inst}
use Rattle.x86_inst.specs.declared.Inst.TheVariants as i
use Rattle.x86_decode.specs.Decodes.{NoneBegins}
use Rattle.machine.specs.Code.{BeginsAt}
use Rattle.flow_graph.proofs.Beginning.{one_beginning}
use Rattle.flow_graph.specs.declared.place.Place.{Place}
use Rattle.flow_graph.specs.declared.place.Cause.{Cause}
use Rattle.flow_graph.specs.declared.place.Cause.TheVariants.{Instruction, Straddle, IndirectJump, CallInside, RangeEmpty, RangeTooLarge, RangeUnbacked}
use Rattle.flow_graph.specs.Place.{place_of, HasCause, HasIndirectJump, HasCallInside, NamedAfter, IsLeastPlace, range_place}
use Rattle.flow_graph.specs.Laws.{OnePlace}

-- where an instruction begins, it isn't so that none begins
pub some_begins : (m : List Segment) (r : Range) (a : ℕ) (i : Inst) (n : ℕ) → BeginsAt m r a i n → NoneBegins (bytes_to_end m r a) → ⊥
some_begins m r a i n h none = none n i h.spelled

-- one instruction at most begins at an address
pub one_at : (m : List Segment) (r : Range) (a : ℕ) (i j : Inst) (n k : ℕ) → BeginsAt m r a i n → BeginsAt m r a j k → (n ≡ k) × (i ≡ j)
one_at m r a i j n k h g = one_beginning (bytes_to_end m r a) n k i j h.within g.within h.spelled g.spelled

-- a jump isn't a call
pub jump_or_call : (m : List Segment) (r : Range) (a : ℕ) → HasIndirectJump m r a → HasCallInside m r a → ⊥
jump_or_call m r a h k =
    let e : i.JmpTo h.s ≡ i.Call k.distance = (one_at m r a (i.JmpTo h.s) (i.Call k.distance) h.n k.n h.begins k.begins).1 in cc

-- where none begins, no jump and no call does
no_jump : (m : List Segment) (r : Range) (a : ℕ) → NoneBegins (bytes_to_end m r a) → HasIndirectJump m r a → ⊥
no_jump m r a none h = some_begins m r a (i.JmpTo h.s) h.n h.begins none

no_call : (m : List Segment) (r : Range) (a : ℕ) → NoneBegins (bytes_to_end m r a) → HasCallInside m r a → ⊥
no_call m r a none h = some_begins m r a (i.Call h.distance) h.n h.begins none

-- an address has at most one cause
pub one_cause : (m : List Segment) (r : Range) (a : ℕ) (c d : Cause) → HasCause m r a c → HasCause m r a d → c ≡ d
one_cause m r a Instruction Instruction h k = refl
one_cause m r a Straddle Straddle h k = refl
one_cause m r a IndirectJump IndirectJump h k = refl
one_cause m r a CallInside CallInside h k = refl
one_cause m r a Instruction Straddle h k = absurd (h.1 k.1)
one_cause m r a Straddle Instruction h k = absurd (k.1 h.1)
one_cause m r a Instruction IndirectJump h k = absurd (no_jump m r a h.0 k)
one_cause m r a Instruction CallInside h k = absurd (no_call m r a h.0 k)
one_cause m r a IndirectJump Instruction h k = absurd (no_jump m r a k.0 h)
one_cause m r a CallInside Instruction h k = absurd (no_call m r a k.0 h)
one_cause m r a Straddle IndirectJump h k = absurd (no_jump m r a h.0 k)
one_cause m r a Straddle CallInside h k = absurd (no_call m r a h.0 k)
one_cause m r a IndirectJump Straddle h k = absurd (no_jump m r a k.0 h)
one_cause m r a CallInside Straddle h k = absurd (no_call m r a k.0 h)
one_cause m r a IndirectJump CallInside h k = absurd (jump_or_call m r a h k)
one_cause m r a CallInside IndirectJump h k = absurd (jump_or_call m r a k h)
one_cause m r a RangeEmpty d h k = absurd h
one_cause m r a RangeTooLarge d h k = absurd h
one_cause m r a RangeUnbacked d h k = absurd h
one_cause m r a Instruction RangeEmpty h k = absurd k
one_cause m r a Instruction RangeTooLarge h k = absurd k
one_cause m r a Instruction RangeUnbacked h k = absurd k
one_cause m r a Straddle RangeEmpty h k = absurd k
one_cause m r a Straddle RangeTooLarge h k = absurd k
one_cause m r a Straddle RangeUnbacked h k = absurd k
one_cause m r a IndirectJump RangeEmpty h k = absurd k
one_cause m r a IndirectJump RangeTooLarge h k = absurd k
one_cause m r a IndirectJump RangeUnbacked h k = absurd k
one_cause m r a CallInside RangeEmpty h k = absurd k
one_cause m r a CallInside RangeTooLarge h k = absurd k
one_cause m r a CallInside RangeUnbacked h k = absurd k

-- two least places are at one address
one_address : (m : List Segment) (r : Range) (p q : Place) → IsLeastPlace m r p → IsLeastPlace m r q → p.at ≡ q.at
one_address m r p q h k =
    let low : p.at ≤ q.at = h.least q.at q.cause k.reached k.has_cause in
    let high : q.at ≤ p.at = k.least p.at p.cause h.reached h.has_cause in
    omega arith

same_parts : (p q : Place) → p.at ≡ q.at → p.cause ≡ q.cause → p ≡ q
same_parts p q e f = ap (λ a. place_of a p.cause) e ∙ ap (λ c. place_of q.at c) f

one_least : (m : List Segment) (r : Range) (p q : Place) → IsLeastPlace m r p → IsLeastPlace m r q → p ≡ q
one_least m r p q h k =
    let e : p.at ≡ q.at = one_address m r p q h k in
    same_parts p q e (one_cause m r q.at p.cause q.cause (subst (λ a. HasCause m r a p.cause) e h.has_cause) k.has_cause)

named_after : (o : Option Place) (m : List Segment) (r : Range) (p q : Place) → NamedAfter o m r p → NamedAfter o m r q → p ≡ q
named_after (Some s) m r p q h k = h ∙ sym k
named_after None m r p q h k = one_least m r p q h k

pub one_place : OnePlace
one_place m r p q h k = named_after (range_place m r) m r p q h k
