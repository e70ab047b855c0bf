-- The pieces of a range's flow are a plan.
use Rattle.std.proofs.Common.{◌≡◌, ◌⊎◌, inl, inr, ℕ, Bool, true, false, List, ◌++◌, get_or, Option, refl, sym, ap, ◌∙◌, subst}
use Rattle.std.specs.Prelude.{slice_get, All, Contains}
use Rattle.std.proofs.lemmas.List.{map-append}
use Rattle.std.proofs.lemmas.List.Elements.{All-contains, All-append, Contains-get_or, Contains-append_left, Contains-append_right, Contains-append_cases}
use Rattle.elf_image.specs.declared.image.Segment.{Segment}
use Rattle.elf_image.specs.declared.range.Range.{Range}
use Rattle.elf_image.specs.Range.{is_inside}
use Rattle.dream_words.specs.declared.outcome.Start.{Start}
use Rattle.x86_inst.specs.declared.Inst.{Inst}
use Rattle.machine.specs.Code.{Decodes}
use Rattle.machine.specs.Run.{scene_of}
use Rattle.micro_ir.specs.declared.flow.Flow.{Flow}
use Rattle.flow_pieces.specs.declared.piece.FlowPiece.{FlowPiece}
use Rattle.range_flow.specs.Pieces.{IsPieceOf, IsLeaveTo, addresses_of}
use Rattle.range_flow.specs.Flow.{AreCovering, IsFlowOf}
use Rattle.flow_pieces.specs.Covered.{IsCovered}
use Rattle.range_flow.specs.Plan.{IsPlan}
use Rattle.range_flow.specs.Laws.{FlowsAgree}
use Rattle.range_flow.proofs.Members.{contains_mapped, none_in, get_left}
use Rattle.range_flow.proofs.Covering.{place_covered, leave_covered}
use Rattle.range_flow.proofs.Standing.{leads}
use Rattle.range_flow.proofs.Planned.{planned_flows_agree}

pub all_by : {A : Type 0} (P : A → Type 0) (xs : List A) → ((x : A) → Contains xs x → P x) → All P xs
all_by P xs h = λ k d lt. h (get_or xs k d) (Contains-get_or xs k d lt)

module _ (m : List Segment) (r : Range) (places : List ℕ) (f : Flow) (covering : AreCovering m r places) (is : IsFlowOf m r places f) where
  -- a piece of the places has its address among them
  pub inner_place : (p : FlowPiece) → Contains is.inner p → Contains places p.at
  inner_place p h = subst (λ l. Contains l p.at) is.at_places (contains_mapped (λ q. q.at) is.inner p h)

  all_addresses : addresses_of (is.inner ++ is.outer) ≡ places ++ addresses_of is.outer
  all_addresses = map-append (λ q. q.at) is.inner is.outer ∙ ap (λ l. l ++ addresses_of is.outer) is.at_places

  pub has_place : (a : ℕ) → Contains places a ⊎ Contains (addresses_of is.outer) a → Contains (addresses_of (is.inner ++ is.outer)) a
  has_place a (inl h) = subst (λ l. Contains l a) (sym all_addresses) (Contains-append_left places (addresses_of is.outer) a h)
  has_place a (inr h) = subst (λ l. Contains l a) (sym all_addresses) (Contains-append_right places (addresses_of is.outer) a h)

  -- a successor of a place is a place or an address outside that has a piece
  next_place : (p : FlowPiece) (a : ℕ) → Contains is.inner p → Contains p.successors a → (t : Bool) → is_inside r a ≡ t → Contains places a ⊎ Contains (addresses_of is.outer) a
  next_place p a h g true e =
      inl (covering.closed p.at a p.successors (inner_place p h) (leads m r p (All-contains (IsPieceOf m r) is.inner p is.instructions h)) g e)
  next_place p a h g false e = inr (is.complete a (e, p, h, g))

  pub all_closed : (p : FlowPiece) (a : ℕ) → Contains (is.inner ++ is.outer) p → Contains p.successors a → Contains (addresses_of (is.inner ++ is.outer)) a
  all_closed p a h g = elim (Contains-append_cases is.inner is.outer p h) [
    | inl i ↦ has_place a (next_place p a i g (is_inside r a) refl)
    | inr o ↦ absurd (none_in a (subst (λ l. Contains l a) (All-contains IsLeaveTo is.outer p is.leaves o).successors g))
  ]

  pub is_plan : (decoded : ℕ → Option (Inst × ℕ)) → Decodes m r decoded → (start : Start) → IsPlan (scene_of m r decoded start) (is.inner ++ is.outer)
  is_plan decoded d start = record {
    covered = All-append (IsCovered (scene_of m r decoded start)) is.inner is.outer
        (all_by (IsCovered (scene_of m r decoded start)) is.inner
        (λ p h. place_covered m r decoded d start p (covering.inside p.at (inner_place p h)) (All-contains (IsPieceOf m r) is.inner p is.instructions h)))
        (all_by (IsCovered (scene_of m r decoded start)) is.outer
        (λ p h. leave_covered (scene_of m r decoded start) p (is.outside p.at (contains_mapped (λ q. q.at) is.outer p h)).0 (All-contains IsLeaveTo is.outer p is.leaves h)));
    closed = all_closed;
    entry = ap (λ l. slice_get l 0) all_addresses ∙ get_left places (addresses_of is.outer) 0 r.entry covering.entry;
  }

pub flows_agree : FlowsAgree
flows_agree m r decoded places f start answers d covering is s a =
    planned_flows_agree m r decoded (is.inner ++ is.outer) f start answers (is_plan m r places f covering is decoded d start) is.blocks is.entry s a
