-- Which place of a range is outside the profile, if any.
use Rattle.std.specs.Prelude.{◌≡◌, ◌≢◌, ℕ, zero, suc, ◌+◌, ◌-◌, ◌%◌, ◌^◌, ◌≤◌, ◌==◌, nat_lt, min, true, false, List, Option, Some, None, if◌then◌else◌}
use Rattle.std.specs.Option.{option_map}
use Rattle.elf_image.specs.declared.image.Segment.{Segment}
use Rattle.elf_image.specs.declared.range.Range.{Range}
use Rattle.elf_image.specs.Image.{frozen_byte}
use Rattle.elf_image.specs.Range.{is_inside, bytes_to_end}
use Rattle.x86_inst.specs.declared.Operand.{Operand}
use Rattle.x86_inst.specs.declared.Inst.TheVariants as i
use Rattle.x86_decode.specs.Decodes.{NoneBegins, IsBegun}
use Rattle.x86_model.specs.Rows.{is_bare}
use Rattle.machine.specs.Code.{BeginsAt}
use Rattle.jump_tables.specs.Window.{next_of}
use Rattle.flow_graph.specs.Reach.{Reaches}
use Rattle.flow_graph.specs.declared.place.Place.{Place}
use Rattle.flow_graph.specs.declared.place.Cause.{Cause}
use Rattle.flow_graph.specs.declared.place.Cause.TheVariants as cause
use Rattle.flow_graph.specs.declared.place.FlowFault.{FlowFault}
use Rattle.flow_graph.specs.declared.place.FlowFault.TheVariants as fault

abbrev pub place_of : ℕ → Cause → Place
place_of at why = record { at = at; cause = why }

-- the numbers of the causes
abbrev pub cause_number : Cause → ℕ
cause_number cause.Instruction = 1
cause_number cause.Straddle = 2
cause_number cause.IndirectJump = 3
cause_number cause.CallInside = 4
cause_number cause.RangeEmpty = 5
cause_number cause.RangeTooLarge = 6
cause_number cause.RangeUnbacked = 7

-- ---- the range as a whole

-- an address whose byte isn't frozen, or else a later one
abbrev pub unless_frozen : Option ℕ → ℕ → Option ℕ → Option ℕ
unless_frozen None a later = Some a
unless_frozen (Some b) a later = later

-- the first of k addresses from a on whose byte isn't frozen
abbrev pub first_unfrozen : List Segment → ℕ → ℕ → Option ℕ
first_unfrozen m a zero = None
first_unfrozen m a (suc k) = unless_frozen (frozen_byte m a) a (first_unfrozen m (a + 1) k)

-- 0xffffffff, where the range goes past it
abbrev pub or_last : Range → Option ℕ → Option ℕ
or_last r (Some a) = Some a
or_last r None = if nat_lt (2 ^ 32) (r.entry + r.size) then Some (2 ^ 32 - 1) else None

-- the first address of the range whose byte isn't frozen; 0xffffffff where the range goes past it and all up to it are
abbrev pub unbacked : List Segment → Range → Option ℕ
unbacked m r = or_last r (first_unfrozen m r.entry (min r.size (2 ^ 32 - r.entry)))

-- RangeEmpty, RangeTooLarge and RangeUnbacked, in this order
abbrev pub range_place : List Segment → Range → Option Place
range_place m r =
    if r.size == 0 then Some (place_of r.entry cause.RangeEmpty) else
    (if nat_lt 65536 r.size then Some (place_of r.entry cause.RangeTooLarge) else option_map (λ a. place_of a cause.RangeUnbacked) (unbacked m r))

-- ---- the causes at a reached address

-- A jump by a word begins there that isn't through a bare absolute address. One at the end of a window isn't reached through
-- it.
pub record HasIndirectJump (m : List Segment) (r : Range) (a : ℕ) : Type 0 where
  pub s : Operand
  pub n : ℕ
  pub begins : BeginsAt m r a (i.JmpTo s) n
  pub loose : is_bare s ≡ false

-- a call begins there whose target is inside and isn't the entry
pub record HasCallInside (m : List Segment) (r : Range) (a : ℕ) : Type 0 where
  pub distance : ℕ
  pub n : ℕ
  pub begins : BeginsAt m r a (i.Call distance) n
  pub inside : is_inside r ((next_of a n + distance) % 2 ^ 32) ≡ true
  pub other : (next_of a n + distance) % 2 ^ 32 ≢ r.entry

-- Instruction: the bytes up to the range's end begin with no spelling and don't begin one.
-- Straddle: they are a proper front of a spelling.
abbrev pub HasCause : List Segment → Range → ℕ → Cause → Type 0
HasCause m r a cause.Instruction = NoneBegins (bytes_to_end m r a) × (IsBegun (bytes_to_end m r a) → ⊥)
HasCause m r a cause.Straddle = NoneBegins (bytes_to_end m r a) × IsBegun (bytes_to_end m r a)
HasCause m r a cause.IndirectJump = HasIndirectJump m r a
HasCause m r a cause.CallInside = HasCallInside m r a
HasCause m r a cause.RangeEmpty = ⊥
HasCause m r a cause.RangeTooLarge = ⊥
HasCause m r a cause.RangeUnbacked = ⊥

-- ---- the named place

-- the least reached address with a cause
pub record IsLeastPlace (m : List Segment) (r : Range) (p : Place) : Type 0 where
  pub reached : Reaches m r p.at
  pub has_cause : HasCause m r p.at p.cause
  pub least : (a : ℕ) (c : Cause) → Reaches m r a → HasCause m r a c → p.at ≤ a

-- the place of the range as a whole, or else the least reached one
abbrev pub NamedAfter : Option Place → List Segment → Range → Place → Type 0
NamedAfter (Some q) m r p = p ≡ q
NamedAfter None m r p = IsLeastPlace m r p

abbrev pub NamedPlace : List Segment → Range → Place → Type 0
NamedPlace m r p = NamedAfter (range_place m r) m r p

-- no place is named
pub record HasNoPlace (m : List Segment) (r : Range) : Type 0 where
  pub range : range_place m r ≡ None
  pub reached : (a : ℕ) (c : Cause) → Reaches m r a → HasCause m r a c → ⊥

-- There is no text only at the named place; memory may run out at any time.
abbrev pub HasNoText : List Segment → Range → FlowFault → Type 0
HasNoText m r (fault.Outside p) = NamedPlace m r p
HasNoText m r fault.Memory = Unit {0}

-- the place is the one that is refused
abbrev pub Names : Option Place → FlowFault → Type 0
Names named (fault.Outside p) = named ≡ Some p
Names named fault.Memory = Unit {0}
