use Rattle.std.proofs.Common.{rules, ℕ, zero, suc, ◌≡◌, ◌++◌, ◌∷◌, length-append, Vec, Global, IfOk, OnOk, IfErr, Result, Ok, Err, ◌+◌, ◌-◌, ◌<◌, ◌≤◌, List, [], length, take, drop, map, length-drop, Option, Some, None, sym, ap, subst, ◌∙◌, arith}
use Rattle.std.proofs.lemmas.List.{length-map, take_all}
use Rattle.elf_image.specs.declared.image.Segment.{Segment}
use Rattle.elf_image.specs.declared.range.Range.{Range}
use Rattle.graph_order.specs.declared.graph.NodeId.{NodeId}
use Rattle.flow_graph.specs.declared.place.Place.{Place}
use Rattle.flow_graph.specs.declared.place.Found.{Found}
use Rattle.flow_graph.specs.declared.place.FlowFault.{FlowFault}
use Rattle.flow_graph.specs.declared.place.FlowFault.TheVariants as fault
use Rattle.flow_graph.specs.Place.{range_place, HasNoPlace, HasNoText, Names}
use Rattle.flow_graph.specs.Discovery.{IsDiscovered}
use Rattle.std.specs.Prelude.{slice_get}
use Rattle.flow_graph.proofs.Frozen.{entry_inside}
use Rattle.flow_graph.proofs.Walked.{IsWalked, begins_walk, waiting_reached, reached_inside, few_found, fewer_lists, turn, discovered, no_place, named_place}
use Rattle.flow_graph.specs.Sites.{IsCode}
use Rattle.flow_graph.proofs.discovery.discover.Goals as goal

-- the lists in a vector of vectors
abbrev inner : List (Vec NodeId Global) → List (List ℕ)
inner ls = map (λ v. v.items) ls

as_many : (ls : List (Vec NodeId Global)) → length (inner ls) ≡ length ls
as_many ls = length-map ls (λ v. v.items)

-- a turn makes one list more, and there are no more lists than places
smaller : (size : ℕ) (keys : List ℕ) (old new : List (Vec NodeId Global)) (at : ℕ) (list : List ℕ) → length keys ≤ size → Some at ≡ slice_get keys (length old)
    → inner new ≡ inner old ++ list ∷ [] → size - length new < size - length old
smaller size keys old new at list few waits more =
    let longer : length (inner new) ≡ length (inner old) + 1 = ap length more ∙ length-append (inner old) (list ∷ []) in
    omega (arith, few, got keys (length old) at waits, longer, as_many new, as_many old)
  where
    got : (ks : List ℕ) (n at : ℕ) → Some at ≡ slice_get ks n → n < length ks
    got [] n at h = absurd (let z : ⊥ = cc in z)
    got (k ∷ ks) zero at h = omega arith
    got (k ∷ ks) (suc n) at h = omega (arith, got ks n at h)

-- ---- the end

over : (keys : List ℕ) (ls : List (Vec NodeId Global)) → None ≡ slice_get keys (length ls) → slice_get keys (length (inner ls)) ≡ None
over keys ls h = ap (slice_get keys) (as_many ls) ∙ sym h

module _ (m : List Segment) (r : Range) (keys : List ℕ) (lists : List (List ℕ)) (named : Option Place) (w : IsWalked m r keys lists named) (h : slice_get keys (length lists) ≡ None) where
  discovers : (res : Result Found FlowFault) → IfOk res (λ f. f.places.items ≡ keys) → IfOk res (λ f. f.graph ≡ record { entry = 0; succ = lists })
      → IfOk res (λ f. IsDiscovered m r f.places.items f.graph)
  discovers (Ok f) p g = subst (λ ks. IsDiscovered m r ks f.graph) (sym p) (discovered m r keys lists named w h f.graph g)
  discovers (Err e) p g = tt

  has_none : range_place m r ≡ None → (res : Result Found FlowFault) → OnOk res (named ≡ None) → OnOk res (HasNoPlace m r)
  has_none none (Ok f) is = no_place m r keys lists named w h none is
  has_none none (Err e) is = tt

  is_named : range_place m r ≡ None → (res : Result Found FlowFault) → IfErr res (Names named) → IfErr res (HasNoText m r)
  is_named none (Ok f) is = tt
  is_named none (Err (fault.Outside p)) is = named_place m r keys lists named w h p none is
  is_named none (Err fault.Memory) is = tt

-- ---- the goals

pub loop-at-init : goal.loop-at-init
loop-at-init c =
    let f = c.in_ok-code.ensures {u = tt} in
    let w = c.in_ok-walk.ensures {u = tt} in
    rw (w.places, w.lists, w.named) (begins_walk c.args.m.now c.args.r.now (entry_inside c.args.r.now f.some))

pub site_at-requires-clause-code : goal.site_at-requires-clause-code
site_at-requires-clause-code c =
    let f = c.in_ok-code.ensures {u = tt} in
    let code : IsCode c.args.m.now c.args.r.now c.in_ok-code.code.items = record { code_is = f.code; whole = f.len; fits = f.fits } in
    subst (IsCode c.args.m.now c.args.r.now) (sym c.deref.ensures.value) code

pub site_at-requires-clause-inside : goal.site_at-requires-clause-inside
site_at-requires-clause-inside c =
    let m = c.args.m.now in
    let r = c.args.r.now in
    reached_inside m r c.in-Some.at (waiting_reached m r c.loop-at.walk.places.keys _ c.loop-at.walk.named c.loop-at.invariant _ c.in-Some.at (sym (c.in-Some.ensures {u = tt})))

pub visit-requires : goal.visit-requires
visit-requires c =
    let f = c.in_ok-code.ensures {u = tt} in
    omega (arith, f.few, few_found c.args.m.now c.args.r.now c.loop-at.walk.places.keys _ c.loop-at.walk.named c.loop-at.invariant, (c.in_ok-site.ensures {u = tt}).few)

pub loop-at-smaller : goal.loop-at-smaller
loop-at-smaller c =
    let v = c.in_ok-visit.ensures {u = tt} in
    let w = c.loop-at.invariant in
    let r = c.args.r.now in
    let keys = c.loop-at.walk.places.keys in
    let few : length keys ≤ r.size = few_found c.args.m.now r keys _ c.loop-at.walk.named w in
    smaller r.size keys c.loop-at.walk.lists.items c.visit.new.self.lists.items c.in-Some.at _ few (c.in-Some.ensures {u = tt}) v.lists

pub loop-at-preserved : goal.loop-at-preserved
loop-at-preserved c =
    let s = c.in_ok-site.ensures {u = tt} in
    let v = c.in_ok-visit.ensures {u = tt} in
    let w = c.loop-at.invariant in
    let m = c.args.m.now in
    let r = c.args.r.now in
    let keys = c.loop-at.walk.places.keys in
    let at = c.in-Some.at in
    let waits : slice_get keys (length (inner c.loop-at.walk.lists.items)) ≡ Some at = ap (slice_get keys) (as_many c.loop-at.walk.lists.items) ∙ sym (c.in-Some.ensures {u = tt}) in
    turn m r keys _ c.loop-at.walk.named w _ _ _ at _ _ waits s.listed s.causes v.places v.lists v.named

pub finish-requires : goal.finish-requires
finish-requires c =
    let f = c.in_ok-code.ensures {u = tt} in
    let w = c.loop-at.invariant in
    omega (
      arith,
      f.few,
      few_found c.args.m.now c.args.r.now c.loop-at.walk.places.keys _ c.loop-at.walk.named w,
      fewer_lists c.args.m.now c.args.r.now c.loop-at.walk.places.keys _ c.loop-at.walk.named w,
      as_many c.loop-at.walk.lists.items,
    )

pub returns-clause-discovered : goal.returns-clause-discovered
returns-clause-discovered c =
    let e = c.finish.ensures in
    discovers c.args.m.now c.args.r.now c.loop-at.walk.places.keys _ c.loop-at.walk.named c.loop-at.invariant (over c.loop-at.walk.places.keys c.loop-at.walk.lists.items (c.in_default.ensures {u = tt}))
    c.finish.result e.places e.graph

pub returns-clause-no_place : goal.returns-clause-no_place
returns-clause-no_place c =
    let f = c.in_ok-code.ensures {u = tt} in
    has_none c.args.m.now c.args.r.now c.loop-at.walk.places.keys _ c.loop-at.walk.named c.loop-at.invariant (over c.loop-at.walk.places.keys c.loop-at.walk.lists.items (c.in_default.ensures {u = tt}))
    f.frozen c.finish.result c.finish.ensures.none

pub returns-clause-err : goal.returns-clause-err
returns-clause-err c =
    let f = c.in_ok-code.ensures {u = tt} in
    is_named c.args.m.now c.args.r.now c.loop-at.walk.places.keys _ c.loop-at.walk.named c.loop-at.invariant (over c.loop-at.walk.places.keys c.loop-at.walk.lists.items (c.in_default.ensures {u = tt}))
    f.frozen c.finish.result c.finish.ensures.err
