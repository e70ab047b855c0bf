-- The pieces of places and of the addresses outside that they lead to are those of the flow of the range.
use Rattle.std.proofs.Common.{◌≡◌, ◌⊎◌, inl, inr, ℕ, ◌*◌, ◌^◌, ◌<◌, ◌≤◌, Bool, true, false, not, ◌||◌, ◌&&◌, nat_eq, List, [], ◌∷◌, ◌++◌, length, map, refl, sym, ap, ◌∙◌, subst, arith}
use Rattle.std.specs.Prelude.{All, Contains, Result, Ok, Err, IfOk}
use Rattle.std.specs.List.{list_any, IsDistinct}
use Rattle.std.proofs.lemmas.Bool.{and_parts, and_from}
use Rattle.std.proofs.lemmas.List.Elements.{All-head, All-tail, All-map, All-contains}
use Rattle.elf_image.specs.declared.image.Segment.{Segment}
use Rattle.elf_image.specs.declared.range.Range.{Range}
use Rattle.elf_image.specs.Range.{is_inside}
use Rattle.micro_ir.specs.declared.flow.Flow.{Flow}
use Rattle.flow_graph.proofs.Walked.{contains_has, has_contains}
use Rattle.range_flow.specs.declared.lifted.Lifted.{Lifted}
use Rattle.range_flow.specs.Pieces.{IsPieceOf, IsLeaveTo, addresses_of, flow_blocks}
use Rattle.range_flow.specs.Flow.{IsOutsideOf, IsFlowOf}
use Rattle.range_flow.specs.Nodes.{piece_of, pieces_of, leave_piece, total_of, successors_in, leads_outside}
use Rattle.range_flow.specs.Lifting.{IsLiftedIn}
use Rattle.range_flow.proofs.Members.{contains_cases, contains_here, contains_later, contains_mapped, mapped, none_in}
use Rattle.range_flow.proofs.Standing.{IsSmall, small}
use Rattle.range_flow.proofs.RangePlan.{all_by}

-- ---- how many

-- each has at most two blocks and 1,025 successors
pub few_lifted : (m : List Segment) (r : Range) (ls : List Lifted) → All (IsLiftedIn m r) ls → (total_of ls ≤ 2 * length ls) × (successors_in ls ≤ 1025 * length ls)
few_lifted m r [] h = (omega arith, omega arith)
few_lifted m r (l ∷ ls) h =
    let x : IsSmall m r (piece_of l) = small m r (piece_of l) (All-head (IsLiftedIn m r) l ls h) in
    let rest = few_lifted m r ls (All-tail (IsLiftedIn m r) l ls h) in
    (omega (arith, rest.0, x.blocks), omega (arith, rest.1, x.successors))

-- ---- the addresses outside

or_cases : (x y : Bool) → (x || y) ≡ true → (x ≡ true) ⊎ (y ≡ true)
or_cases true y h = inl refl
or_cases false y h = inr h

or_left : (x y : Bool) → x ≡ true → (x || y) ≡ true
or_left x y h = ap (λ b. b || y) h

or_right : (x y : Bool) → y ≡ true → (x || y) ≡ true
or_right true y h = refl
or_right false y h = h

not_true : (b : Bool) → not b ≡ true → b ≡ false
not_true true h = absurd (let z : ⊥ = cc in z)
not_true false h = refl

leads_from : (r : Range) (ls : List Lifted) (a : ℕ) → leads_outside r ls a ≡ true
    → (is_inside r a ≡ false) × (l : Lifted) × Contains ls l × Contains l.successors.items a
leads_from r [] a h = absurd (let z : ⊥ = cc in z)
leads_from r (l ∷ ls) a h = elim (or_cases (not (is_inside r a) && list_any (nat_eq a) l.successors.items) (leads_outside r ls a) h) [
  | inl e ↦
      let p = and_parts (not (is_inside r a)) (list_any (nat_eq a) l.successors.items) e in
      (not_true (is_inside r a) p.0, l, contains_here l ls, has_contains l.successors.items a p.1)
  | inr e ↦ let q = leads_from r ls a e in (q.0, q.1, contains_later l q.1 ls q.2, q.3)
]

leads_to : (r : Range) (ls : List Lifted) (a : ℕ) (l : Lifted) → is_inside r a ≡ false → Contains ls l → Contains l.successors.items a → leads_outside r ls a ≡ true
leads_to r [] a l out h s = absurd (none_in l h)
leads_to r (x ∷ ls) a l out h s = elim (contains_cases x l ls h) [
  | inl e ↦
      or_left _ (leads_outside r ls a)
      (and_from (not (is_inside r a)) (list_any (nat_eq a) x.successors.items) (ap not out) (contains_has x.successors.items a (subst (λ y. Contains y.successors.items a) (sym e) s)))
  | inr e ↦ or_right (not (is_inside r a) && list_any (nat_eq a) x.successors.items) (leads_outside r ls a) (leads_to r ls a l out e s)
]

-- ---- the addresses of pieces

lifted_addresses : (ls : List Lifted) → addresses_of (pieces_of ls) ≡ map (λ l. l.at) ls
lifted_addresses [] = refl
lifted_addresses (l ∷ ls) = ap (λ rest. l.at ∷ rest) (lifted_addresses ls)

leave_addresses : (keys : List ℕ) → addresses_of (map leave_piece keys) ≡ keys
leave_addresses [] = refl
leave_addresses (k ∷ keys) = ap (λ rest. k ∷ rest) (leave_addresses keys)

-- ---- the flow

module _ (m : List Segment) (r : Range) (places : List ℕ)
    (ls : List Lifted) (keys : List ℕ) (here : map (λ l. l.at) ls ≡ places) (lifted : All (IsLiftedIn m r) ls)
    (members : (a : ℕ) → list_any (nat_eq a) keys ≡ leads_outside r ls a) (distinct : IsDistinct nat_eq keys) (words : All (λ a. a < 2 ^ 32) keys) where
  outside_from : (a : ℕ) → Contains keys a → IsOutsideOf r (pieces_of ls) a
  outside_from a h =
      let q = leads_from r ls a (sym (members a) ∙ contains_has keys a h) in
      (q.0, piece_of q.1, contains_mapped piece_of ls q.1 q.2, q.3)

  outside_to : (a : ℕ) → IsOutsideOf r (pieces_of ls) a → Contains keys a
  outside_to a (out, p, h, s) =
      let q = mapped piece_of ls p h in
      has_contains keys a (members a ∙ leads_to r ls a q.0 out q.1 (subst (λ y. Contains y.successors a) (sym q.2) s))

  pub is_flow : (f : Flow) → f.blocks ≡ flow_blocks (pieces_of ls ++ map leave_piece keys) → f.entry ≡ 0 → IsFlowOf m r places f
  is_flow f blocks entry = record {
    inner = pieces_of ls;
    outer = map leave_piece keys;
    at_places = lifted_addresses ls ∙ here;
    instructions = All-map (IsPieceOf m r) piece_of ls lifted;
    leaves = All-map IsLeaveTo leave_piece keys (all_by (λ a. IsLeaveTo (leave_piece a)) keys (λ a h. record { word = All-contains (λ b. b < 2 ^ 32) keys a words h; blocks = refl; successors = refl }));
    outside = λ a h. outside_from a (subst (λ ks. Contains ks a) (leave_addresses keys) h);
    complete = λ a h. subst (λ ks. Contains ks a) (sym (leave_addresses keys)) (outside_to a h);
    once = subst (IsDistinct nat_eq) (sym (leave_addresses keys)) distinct;
    blocks = blocks;
    entry = entry;
  }

-- ---- a result with two clauses

pub both_ok : {T E : Type 0} (r : Result T E) (P Q R : T → Type 0) → ((x : T) → P x → Q x → R x) → IfOk r P → IfOk r Q → IfOk r R
both_ok (Ok x) P Q R f p q = f x p q
both_ok (Err e) P Q R f p q = tt
