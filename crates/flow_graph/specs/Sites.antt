-- What the walk over a range takes from what stands at an address, and what it makes of it.
use Rattle.std.specs.Prelude.{◌≡◌, ℕ, ◌+◌, ◌%◌, ◌^◌, ◌≤◌, ◌==◌, ◌&&◌, not, nat_lt, List, [], length, Option, Some, None, filter, if◌then◌else◌}
use Rattle.elf_image.specs.declared.image.Segment.{Segment}
use Rattle.elf_image.specs.declared.range.Range.{Range}
use Rattle.elf_image.specs.Range.{is_inside, bytes_to_end}
use Rattle.x86_inst.specs.declared.Inst.{Inst}
use Rattle.x86_inst.specs.declared.Inst.TheVariants as i
use Rattle.x86_decode.specs.declared.decoder.Decoded.{Decoded}
use Rattle.x86_decode.specs.declared.decoder.Decoded.TheVariants as decoded
use Rattle.x86_model.specs.Rows.{is_bare}
use Rattle.x86_model.specs.Successors.{successors_of}
use Rattle.jump_tables.specs.Window.{next_of}
use Rattle.flow_graph.specs.Place.{place_of, HasCause}
use Rattle.flow_graph.specs.Discovery.{HasSuccessors}
use Rattle.flow_graph.specs.declared.place.Place.{Place}
use Rattle.flow_graph.specs.declared.place.Cause.{Cause}
use Rattle.flow_graph.specs.declared.place.Cause.TheVariants as cause

-- the successors of an instruction that are inside, in order
abbrev pub inside_successors : Range → Inst → ℕ → ℕ → List ℕ
inside_successors r i at next = filter (is_inside r) (successors_of i at next)

-- a target that is inside and isn't the entry is a cause
abbrev pub call_cause : Range → ℕ → Option Cause
call_cause r target = if is_inside r target && not (target == r.entry) then Some cause.CallInside else None

-- the cause that an instruction is, with the next address
abbrev pub cause_of : Range → Inst → ℕ → Option Cause
cause_of r (i.JmpTo s) next = if is_bare s then None else Some cause.IndirectJump
cause_of r (i.Call distance) next = call_cause r ((next + distance) % 2 ^ 32)
cause_of r _ next = None

-- the inside successors at an address without a window, by what begins there
abbrev pub found_successors : Range → ℕ → Decoded → List ℕ
found_successors r at (decoded.Inst i n) = inside_successors r i at (next_of at n)
found_successors r at decoded.Cut = []
found_successors r at decoded.None = []

-- and the cause
abbrev pub found_cause : Range → ℕ → Decoded → Option Cause
found_cause r at (decoded.Inst i n) = cause_of r i (next_of at n)
found_cause r at decoded.Cut = Some cause.Straddle
found_cause r at decoded.None = Some cause.Instruction

-- the cause of an address, if it has one
abbrev pub CauseIs : List Segment → Range → ℕ → Option Cause → Type 0
CauseIs m r a None = (c : Cause) → HasCause m r a c → ⊥
CauseIs m r a (Some c) = HasCause m r a c

-- What stands at an address: its successors that are inside, in order, of which there are at most those of a window of
-- 1,024 entries, and its cause.
pub record IsSite (m : List Segment) (r : Range) (a : ℕ) (successors : List ℕ) (why : Option Cause) : Type 0 where
  pub listed : HasSuccessors m r a successors
  pub causes : CauseIs m r a why
  pub few : length successors ≤ 1025

-- a range that is frozen as a whole, and its code
pub record IsCode (m : List Segment) (r : Range) (code : List ℕ) : Type 0 where
  pub code_is : code ≡ bytes_to_end m r r.entry
  pub whole : length code ≡ r.size
  pub fits : r.entry + r.size ≤ 2 ^ 32

-- the lesser of a place and another one
abbrev pub lesser : Option Place → ℕ → Cause → Option Place
lesser None at why = Some (place_of at why)
lesser (Some p) at why = if nat_lt at p.at then Some (place_of at why) else Some p

-- the least place so far, after one more address with its cause
abbrev pub least_with : Option Place → ℕ → Option Cause → Option Place
least_with named at None = named
least_with named at (Some why) = lesser named at why
