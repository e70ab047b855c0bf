-- What is discovered of a range is determined.
use Rattle.std.proofs.Common.{◌≡◌, ℕ, zero, suc, ◌<◌, ◌≤◌, inl, inr, true, nat_eq, List, [], ◌∷◌, ◌++◌, length, take, drop, get_or, filter, fold, map, refl, sym, ap, ◌∙◌, subst, arith}
use Rattle.std.specs.Prelude.{Contains}
use Rattle.std.specs.List.{concat, AllZip, IsDistinct}
use Rattle.std.proofs.lemmas.Bool.{cases_lt}
use Rattle.std.proofs.lemmas.Cmp.{nat_eq_equiv}
use Rattle.std.proofs.lemmas.List.{take-append-drop, take-append-le, get_or-take, take_all}
use Rattle.std.proofs.lemmas.List.Folds.{concat-append}
use Rattle.std.proofs.lemmas.List.Sums.{fold-append}
use Rattle.std.proofs.lemmas.Map.Made.{length-le_from_is_member}
use Rattle.elf_image.specs.declared.image.Segment.{Segment}
use Rattle.elf_image.specs.declared.range.Range.{Range}
use Rattle.elf_image.specs.Range.{is_inside}
use Rattle.graph_order.specs.Graph.{Digraph}
use Rattle.flow_graph.specs.Reach as reach
use Rattle.flow_graph.specs.Reach.{AreSuccessors, Reaches}
use Rattle.flow_graph.specs.Discovery as list
use Rattle.flow_graph.specs.Discovery.{with_new, firsts, number_in, HasSuccessors, IsDiscovered}
use Rattle.flow_graph.specs.Laws.{OneDiscovery}
use Rattle.flow_graph.proofs.Firsts.{Has, Grows, has_left, has_right, has_one, has_all, grows_all, distinct_firsts}
use Rattle.flow_graph.proofs.OneLists.{one_inside}
use Rattle.flow_graph.proofs.Walked.{has_contains, in_concat, zip_at, next_there}

same_lists : (m : List Segment) (r : Range) (places : List ℕ) (xss yss : List (List ℕ)) → AllZip (HasSuccessors m r) places xss → AllZip (HasSuccessors m r) places yss → xss ≡ yss
same_lists m r [] [] [] h k = refl
same_lists m r [] [] (ys ∷ yss) h k = absurd k
same_lists m r [] (xs ∷ xss) yss h k = absurd h
same_lists m r (a ∷ places) [] yss h k = absurd h
same_lists m r (a ∷ places) (xs ∷ xss) [] h k = absurd k
same_lists m r (a ∷ places) (xs ∷ xss) (ys ∷ yss) h k =
    ap (λ l. l ∷ xss) (one_inside m r a xs ys h.0 k.0) ∙ ap (λ l. ys ∷ l) (same_lists m r places xss yss h.1 k.1)

zip_take : {A B : Type 0} (R : A → B → Type 0) (n : ℕ) (xs : List A) (ys : List B) → AllZip R xs ys → AllZip R (take n xs) (take n ys)
zip_take R zero xs ys h = tt
zip_take R (suc n) [] [] h = tt
zip_take R (suc n) [] (y ∷ ys) h = absurd h
zip_take R (suc n) (x ∷ xs) [] h = absurd h
zip_take R (suc n) (x ∷ xs) (y ∷ ys) h = (h.0, zip_take R n xs ys h.1)

get_front : (xs more : List ℕ) (k d : ℕ) → k < length xs → get_or (xs ++ more) k d ≡ get_or xs k d
get_front [] more k d h = absurd (omega (arith, h))
get_front (x ∷ xs) more zero d h = refl
get_front (x ∷ xs) more (suc k) d h = get_front xs more k d (omega (arith, h))

longer : (xs more : List ℕ) → length xs ≤ length (xs ++ more)
longer [] more = omega arith
longer (x ∷ xs) more = omega (arith, longer xs more)

below_take : {A : Type 0} (n k : ℕ) (xs : List A) → k < n → k < length xs → k < length (take n xs)
below_take zero k xs h lt = absurd (omega (arith, h))
below_take (suc n) k [] h lt = absurd (omega (arith, lt))
below_take (suc n) zero (x ∷ xs) h lt = omega arith
below_take (suc n) (suc k) (x ∷ xs) h lt = omega (arith, below_take n k xs (omega (arith, h)) (omega (arith, lt)))

-- ---- what the lists of the first places give

module _ (m : List Segment) (r : Range) (places : List ℕ) (g : Digraph) (d : IsDiscovered m r places g) where
  -- the places that the entry and the first k lists give
  abbrev front : ℕ → List ℕ
  front k = firsts (r.entry ∷ concat (take k d.lists))

  pub grows : (k : ℕ) → Grows (front k) places
  grows k =
      let lists : concat d.lists ≡ concat (take k d.lists) ++ concat (drop k d.lists) = ap concat (sym (take-append-drop k d.lists)) ∙ concat-append (take k d.lists) (drop k d.lists) in
      let whole : places ≡ fold with_new (front k) (concat (drop k d.lists)) =
      sym d.order ∙ ap (λ l. firsts (r.entry ∷ l)) lists ∙ fold-append with_new [] (r.entry ∷ concat (take k d.lists)) (concat (drop k d.lists)) in
      subst (Grows (front k)) (sym whole) (grows_all (concat (drop k d.lists)) (front k))

  -- where they are no more than k, they hold all that is reached
  module _ (k : ℕ) (few : length (front k) ≤ k) where
    leads : (j a b : ℕ) (all : List ℕ) → j < length (front k) → get_or (front k) j a ≡ a → AreSuccessors m r a all → Contains all b → is_inside r b ≡ true
        → Has (front k) b
    leads j a b all lt at are s inside =
        let there : get_or places j a ≡ a = ap (λ l. get_or l j a) (grows k).1 ∙ get_front (front k) (grows k).0 j a lt ∙ at in
        let more : length (front k) ≤ length places = subst (λ l. length (front k) ≤ length l) (sym (grows k).1) (longer (front k) (grows k).0) in
        let p = zip_at (HasSuccessors m r) places d.lists j a [] d.listed (omega (arith, lt, more)) in
        let below : j < k = omega (arith, lt, few) in
        let here : HasSuccessors m r a (get_or d.lists j []) = subst (λ x. HasSuccessors m r x (get_or d.lists j [])) there p.1 in
        let in_list : Has (get_or (take k d.lists) j []) b = subst (λ l. Has l b) (sym (get_or-take k d.lists j [] below)) (next_there m r a b all (get_or d.lists j []) are s inside here) in
        has_all (r.entry ∷ concat (take k d.lists)) [] b (has_right (r.entry ∷ []) (concat (take k d.lists)) b (in_concat (take k d.lists) j b (below_take k j d.lists below p.0) in_list))

    holds_all : (a : ℕ) → Reaches m r a → Has (front k) a
    holds_all _ (reach.entry h) = has_all (r.entry ∷ concat (take k d.lists)) [] r.entry (has_left (r.entry ∷ []) (concat (take k d.lists)) r.entry (has_one r.entry))
    holds_all _ (reach.along a b all h are s inside) =
        let there = has_contains (front k) a (holds_all a h) in
        leads there.0 a b all there.1 there.2 are s inside

    no_more : length places ≤ k
    no_more =
        let distinct : IsDistinct nat_eq places = subst (IsDistinct nat_eq) d.order (distinct_firsts (r.entry ∷ concat d.lists)) in
        let le : length places ≤ length (front k) = length-le_from_is_member nat_eq_equiv places (front k) distinct (λ q h. holds_all q ((d.reached q).0 (has_contains places q h))) in
        omega (arith, le, few)

  -- so the lists of the first k places give one place more, where there is one
  one_more_place : (k : ℕ) → k < length places → k < length (front k)
  one_more_place k h = elim (cases_lt k (length (front k))) [
    | inl lt ↦ lt
    | inr le ↦ absurd (omega (arith, h, no_more k le))
  ]

-- ---- two discoveries of a range

module _ (m : List Segment) (r : Range) (places others : List ℕ) (g h : Digraph) (d : IsDiscovered m r places g) (e : IsDiscovered m r others h) where
  same_front : (k : ℕ) → take k places ≡ take k others → front m r places g d k ≡ front m r others h e k
  same_front k t =
      let lists : take k d.lists ≡ take k e.lists =
      same_lists m r (take k others) (take k d.lists) (take k e.lists) (subst (λ ks. AllZip (HasSuccessors m r) ks (take k d.lists)) t (zip_take (HasSuccessors m r) k places d.lists d.listed)) (zip_take (HasSuccessors m r) k others e.lists e.listed) in
      ap (λ l. firsts (r.entry ∷ concat l)) lists

  -- the places of one begin those of the other
  agree : (k : ℕ) → k ≤ length places → (k ≤ length others) × (take k places ≡ take k others)
  agree zero le = (omega arith, refl)
  agree (suc k) le =
      let p = agree k (omega (arith, le)) in
      let f = front m r places g d k in
      let long : suc k ≤ length f = omega (arith, one_more_place m r places g d k (omega (arith, le))) in
      let a = grows m r places g d k in
      let b : Grows f others = subst (λ l. Grows l others) (sym (same_front k p.1)) (grows m r others h e k) in
      let more : length f ≤ length others = subst (λ l. length f ≤ length l) (sym b.1) (longer f b.0) in
      (omega (arith, long, more), ap (take (suc k)) a.1 ∙ take-append-le (suc k) f a.0 long ∙ sym (take-append-le (suc k) f b.0 long) ∙ ap (take (suc k)) (sym b.1))

both : (m : List Segment) (r : Range) (places others : List ℕ) (g h : Digraph) → IsDiscovered m r places g → IsDiscovered m r others h → places ≡ others
both m r places others g h d e =
    let p = agree m r places others g h d e (length places) (omega arith) in
    let q = agree m r others places h g e d (length others) (omega arith) in
    sym (take_all (length places) places (omega arith)) ∙ p.1 ∙ take_all (length places) others (omega (arith, q.0))

pub one_discovery : OneDiscovery
one_discovery m r places others g h d e =
    let same : places ≡ others = both m r places others g h d e in
    let lists : d.lists ≡ e.lists = same_lists m r others d.lists e.lists (subst (λ ks. AllZip (HasSuccessors m r) ks d.lists) same d.listed) e.listed in
    let graph : g ≡ h =
    d.graph ∙ ap (λ ks. record { entry = 0; succ = map (map (number_in ks)) d.lists }) same ∙ ap (λ l. record { entry = 0; succ = map (map (number_in others)) l }) lists ∙ sym e.graph in
    (same, graph)
