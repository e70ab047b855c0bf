-- The first byte of a range that isn't frozen, and the code of a range that is frozen as a whole.
use Rattle.std.proofs.Common.{◌≡◌, ℕ, zero, suc, ◌+◌, ◌-◌, ◌^◌, ◌<◌, ◌≤◌, inl, inr, min, true, false, nat_eq, nat_lt, nat_le, if◌then◌else◌, List, length, Option, Some, None, refl, sym, ap, ◌∙◌, arith, add-zero}
use Rattle.std.specs.Option.{option_map}
use Rattle.std.proofs.lemmas.Bool.{le-leb, lt-ltb, le-ltb, cases_lt, and_from, and_parts, leb-true, ltb-true, ne_eqb}
use Rattle.elf_image.specs.declared.image.Segment.{Segment}
use Rattle.elf_image.specs.declared.range.Range.{Range}
use Rattle.elf_image.specs.Image.{frozen_byte}
use Rattle.elf_image.specs.Range.{is_inside, before_some, frozen_from, bytes_to_end}
use Rattle.flow_graph.specs.declared.place.Cause.TheVariants as cause
use Rattle.flow_graph.specs.Place.{first_unfrozen, unless_frozen, or_last, unbacked, range_place, place_of}

-- no more than k bytes of k
pub at_most : (m : List Segment) (a k : ℕ) → length (frozen_from m a k) ≤ k
at_most m a zero = omega arith
at_most m a (suc k) = at (frozen_byte m a) (at_most m (a + 1) k)
  where
    at : (o : Option ℕ) → length (frozen_from m (a + 1) k) ≤ k → length (before_some o (frozen_from m (a + 1) k)) ≤ suc k
    at None h = omega arith
    at (Some b) h = omega (arith, h)

-- how many bytes are frozen tells the first that isn't
first_by : (m : List Segment) (a k : ℕ) → length (frozen_from m a k) < k → first_unfrozen m a k ≡ Some (a + length (frozen_from m a k))
first_by m a zero h = absurd (omega (arith, h))
first_by m a (suc k) h = at (frozen_byte m a) (λ g. first_by m (a + 1) k g) h
  where
    at : (o : Option ℕ) → (length (frozen_from m (a + 1) k) < k → first_unfrozen m (a + 1) k ≡ Some (a + 1 + length (frozen_from m (a + 1) k)))
        → length (before_some o (frozen_from m (a + 1) k)) < suc k
        → unless_frozen o a (first_unfrozen m (a + 1) k) ≡ Some (a + length (before_some o (frozen_from m (a + 1) k)))
    at None rest h = ap (λ n. Some n) (sym (add-zero a))
    at (Some b) rest h =
        let n = length (frozen_from m (a + 1) k) in
        let e : a + 1 + n ≡ a + suc n = omega arith in
        rest (omega (arith, h)) ∙ ap (λ j. Some j) e

none_by : (m : List Segment) (a k : ℕ) → k ≤ length (frozen_from m a k) → first_unfrozen m a k ≡ None
none_by m a zero h = refl
none_by m a (suc k) h = at (frozen_byte m a) (λ g. none_by m (a + 1) k g) h
  where
    at : (o : Option ℕ) → (k ≤ length (frozen_from m (a + 1) k) → first_unfrozen m (a + 1) k ≡ None) → suc k ≤ length (before_some o (frozen_from m (a + 1) k))
        → unless_frozen o a (first_unfrozen m (a + 1) k) ≡ None
    at None rest h = absurd (omega (arith, h))
    at (Some b) rest h = rest (omega (arith, h))

-- ---- the code of a range that isn't empty

pub entry_inside : (r : Range) → 0 < r.size → is_inside r r.entry ≡ true
entry_inside r h = and_from _ _ (le-leb r.entry r.entry (omega arith)) (lt-ltb r.entry (r.entry + r.size) (omega (arith, h)))

pub inside_bounds : (r : Range) (a : ℕ) → is_inside r a ≡ true → (r.entry ≤ a) × (a < r.entry + r.size)
inside_bounds r a h =
    let p = and_parts (nat_le r.entry a) (nat_lt a (r.entry + r.size)) h in
    (leb-true r.entry a p.0, ltb-true a (r.entry + r.size) p.1)

-- how many addresses there are to the range's end, and to the last one
abbrev room : Range → ℕ
room r = min r.size (2 ^ 32 - r.entry)

room_is : (r : Range) → 0 < r.size → (if is_inside r r.entry then min (r.entry + r.size) (2 ^ 32) - r.entry else 0) ≡ room r
room_is r h = let e : min (r.entry + r.size) (2 ^ 32) - r.entry ≡ room r = grind arith in rw (entry_inside r h) e

code_is : (m : List Segment) (r : Range) → 0 < r.size → bytes_to_end m r r.entry ≡ frozen_from m r.entry (room r)
code_is m r h = ap (frozen_from m r.entry) (room_is r h)

pub code_at_most : (m : List Segment) (r : Range) → 0 < r.size → length (bytes_to_end m r r.entry) ≤ r.size
code_at_most m r h =
    let e : length (bytes_to_end m r r.entry) ≡ length (frozen_from m r.entry (room r)) = ap length (code_is m r h) in
    let a : length (frozen_from m r.entry (room r)) ≤ room r = at_most m r.entry (room r) in
    grind (arith, e, a)

-- where the code is shorter than the range, its first byte that isn't frozen is after it, or past the last address
pub short_code : (m : List Segment) (r : Range) → 0 < r.size → r.entry < 2 ^ 32 → length (bytes_to_end m r r.entry) < r.size
    → unbacked m r ≡ Some (min (r.entry + length (bytes_to_end m r r.entry)) (2 ^ 32 - 1))
short_code m r some word short =
    let n = length (frozen_from m r.entry (room r)) in
    let e : length (bytes_to_end m r r.entry) ≡ n = ap length (code_is m r some) in
    elim (cases_lt n (room r)) [
      | inl lt ↦
          let here : min (r.entry + n) (2 ^ 32 - 1) ≡ r.entry + n = grind (arith, lt, word) in
          ap (or_last r) (first_by m r.entry (room r) lt) ∙ ap (λ a. Some a) (sym here) ∙ ap (λ k. Some (min (r.entry + k) (2 ^ 32 - 1))) (sym e)
      | inr le ↦
          let past : 2 ^ 32 < r.entry + r.size = grind (arith, le, e, short, word) in
          let last : min (r.entry + n) (2 ^ 32 - 1) ≡ 2 ^ 32 - 1 = grind (arith, le, e, short, word) in
          ap (or_last r) (none_by m r.entry (room r) le) ∙ ap (λ t. if t then Some (2 ^ 32 - 1) else None) (lt-ltb (2 ^ 32) (r.entry + r.size) past)
          ∙ ap (λ a. Some a) (sym last) ∙ ap (λ k. Some (min (r.entry + k) (2 ^ 32 - 1))) (sym e)
    ]

-- where it isn't shorter, the range is frozen as a whole
pub whole_fits : (m : List Segment) (r : Range) → 0 < r.size → r.entry < 2 ^ 32 → r.size ≤ length (bytes_to_end m r r.entry) → r.entry + r.size ≤ 2 ^ 32
whole_fits m r some word long =
    let e : length (bytes_to_end m r r.entry) ≡ length (frozen_from m r.entry (room r)) = ap length (code_is m r some) in
    let a : length (frozen_from m r.entry (room r)) ≤ room r = at_most m r.entry (room r) in
    grind (arith, e, a, long, word)

pub whole_code : (m : List Segment) (r : Range) → 0 < r.size → r.entry < 2 ^ 32 → r.size ≤ length (bytes_to_end m r r.entry) → unbacked m r ≡ None
whole_code m r some word long =
    let e : length (bytes_to_end m r r.entry) ≡ length (frozen_from m r.entry (room r)) = ap length (code_is m r some) in
    let fits : r.entry + r.size ≤ 2 ^ 32 = whole_fits m r some word long in
    let le : room r ≤ length (frozen_from m r.entry (room r)) = grind (arith, e, long) in
    ap (or_last r) (none_by m r.entry (room r) le) ∙ ap (λ t. if t then Some (2 ^ 32 - 1) else None) (le-ltb (2 ^ 32) (r.entry + r.size) fits)

-- ---- the place of the range as a whole

ne_zero : (r : Range) → 0 < r.size → nat_eq r.size 0 ≡ false
ne_zero r h = ne_eqb r.size 0 (λ e. omega (arith, h, e))

few_enough : (r : Range) → r.size ≤ 65536 → nat_lt 65536 r.size ≡ false
few_enough r h = le-ltb 65536 r.size h

place_is : (m : List Segment) (r : Range) → 0 < r.size → r.size ≤ 65536 → range_place m r ≡ option_map (λ a. place_of a cause.RangeUnbacked) (unbacked m r)
place_is m r some few = rw (ne_zero r some, few_enough r few) refl

pub short_place : (m : List Segment) (r : Range) (n at : ℕ) → 0 < r.size → r.size ≤ 65536 → r.entry < 2 ^ 32 → n ≡ length (bytes_to_end m r r.entry) → n < r.size
    → at ≡ min (r.entry + n) (2 ^ 32 - 1) → range_place m r ≡ Some (place_of at cause.RangeUnbacked)
short_place m r n at some few word is short here =
    let short' : length (bytes_to_end m r r.entry) < r.size = omega (arith, is, short) in
    place_is m r some few ∙ ap (option_map (λ a. place_of a cause.RangeUnbacked)) (short_code m r some word short')
    ∙ ap (λ k. Some (place_of (min (r.entry + k) (2 ^ 32 - 1)) cause.RangeUnbacked)) (sym is) ∙ ap (λ a. Some (place_of a cause.RangeUnbacked)) (sym here)

pub no_range_place : (m : List Segment) (r : Range) (n : ℕ) → 0 < r.size → r.size ≤ 65536 → r.entry < 2 ^ 32 → n ≡ length (bytes_to_end m r r.entry) → r.size ≤ n
    → range_place m r ≡ None
no_range_place m r n some few word is long =
    place_is m r some few ∙ ap (option_map (λ a. place_of a cause.RangeUnbacked)) (whole_code m r some word (omega (arith, is, long)))
