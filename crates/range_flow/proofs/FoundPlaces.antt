-- What discovery finds covers the range, and is few.
use Rattle.std.proofs.Common.{◌≡◌, ℕ, ◌+◌, ◌<◌, ◌≤◌, Bool, true, false, cond, ◌==◌, nat_eq, nat_le, nat_lt, List, [], ◌∷◌, length, Option, Some, None, refl, ap, subst, arith}
use Rattle.std.specs.Prelude.{slice_get, Contains}
use Rattle.std.specs.List.{IsDistinct, concat}
use Rattle.std.specs.Option.{option_map}
use Rattle.std.proofs.lemmas.Bool.{and_parts, leb-true, ltb-true, ltb-false}
use Rattle.std.proofs.lemmas.Bool.Decides.{Decides-eqb}
use Rattle.std.proofs.lemmas.Map.Made.{is_member-Decides}
use Rattle.elf_image.specs.declared.image.Segment.{Segment}
use Rattle.elf_image.specs.declared.range.Range.{Range}
use Rattle.elf_image.specs.Range.{is_inside}
use Rattle.flow_graph.specs.declared.place.Place.{Place}
use Rattle.flow_graph.specs.declared.place.Cause.TheVariants as cause
use Rattle.flow_graph.specs.Reach as reach
use Rattle.flow_graph.specs.Reach.{Reaches}
use Rattle.flow_graph.specs.Place.{place_of, unbacked, range_place}
use Rattle.flow_graph.proofs.Firsts.{Grows, grows_all, distinct_firsts, few_in_row}
use Rattle.range_flow.specs.Laws.{DiscoveredCover}

reached_inside : (m : List Segment) (r : Range) (a : ℕ) → Reaches m r a → is_inside r a ≡ true
reached_inside m r _ (reach.entry h) = h
reached_inside m r _ (reach.along a b list h g s e) = e

-- a list of addresses begins with the first of them
begins_so : (a : ℕ) (places : List ℕ) → Grows (a ∷ []) places → slice_get places 0 ≡ Some a
begins_so a places g = ap (λ l. slice_get l 0) g.1

size_by : (empty large : Bool) (p q : Place) (o : Option Place) → cond empty (Some p) (cond large (Some q) o) ≡ None → large ≡ false
size_by true large p q o e = absurd (let z : ⊥ = cc in z)
size_by false true p q o e = absurd (let z : ⊥ = cc in z)
size_by false false p q o e = refl

few_addresses : (m : List Segment) (r : Range) → range_place m r ≡ None → r.size ≤ 65536
few_addresses m r e =
    ltb-false 65536 r.size
    (size_by (r.size == 0) (nat_lt 65536 r.size) (place_of r.entry cause.RangeEmpty) (place_of r.entry cause.RangeTooLarge) (option_map (λ a. place_of a cause.RangeUnbacked) (unbacked m r)) e)

within : (r : Range) (a : ℕ) → is_inside r a ≡ true → (r.entry ≤ a) × (a < r.entry + r.size)
within r a h =
    let p = and_parts (nat_le r.entry a) (nat_lt a (r.entry + r.size)) h in
    (leb-true r.entry a p.0, ltb-true a (r.entry + r.size) p.1)

pub discovered_cover : DiscoveredCover
discovered_cover m r places g d none =
    let inside : (a : ℕ) → Contains places a → is_inside r a ≡ true = λ a h. reached_inside m r a ((d.reached a).0 h) in
    let apart : IsDistinct nat_eq places = subst (λ l. IsDistinct nat_eq l) d.order (distinct_firsts (r.entry ∷ concat d.lists)) in
    let few : length places ≤ r.size = few_in_row r.entry r.size places apart (λ a h. within r a (inside a ((is_member-Decides Decides-eqb places a).0 h))) in (
      record {
        entry = begins_so r.entry places (subst (λ l. Grows (r.entry ∷ []) l) d.order (grows_all (concat d.lists) (r.entry ∷ [])));
        inside = inside;
        closed = λ a b list h s e t. (d.reached b).1 (reach.along a b list ((d.reached a).0 h) s e t);
      },
      omega (arith, few, few_addresses m r none.range),
    )
