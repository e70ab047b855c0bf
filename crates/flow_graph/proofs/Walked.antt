-- What a walk over a range has found, turn by turn.
use Rattle.std.proofs.Common.{◌≡◌, ℕ, zero, suc, ◌+◌, ◌<◌, ◌≤◌, ◌⊎◌, inl, inr, Bool, true, false, cond, nat_eq, nat_lt, nat_le, if◌then◌else◌, List, [], ◌∷◌, ◌++◌, length, take, get_or, filter, fold, map, Option, Some, None, refl, sym, ap, ◌∙◌, subst, arith, append-nil, length-append}
use Rattle.std.specs.Prelude.{Contains, slice_get}
use Rattle.std.specs.List.{concat, AllZip, IsDistinct}
use Rattle.std.proofs.lemmas.Bool.{both_ways, cases_eq, cases_lt, ne_eqb, lt-ltb, le-ltb, leb-true, ltb-true, and_parts}
use Rattle.std.proofs.lemmas.Cmp.{nat_eq_equiv}
use Rattle.std.proofs.lemmas.List.{map-append}
use Rattle.std.proofs.lemmas.List.Folds.{concat-append}
use Rattle.std.proofs.lemmas.List.Sums.{fold-append}
use Rattle.std.proofs.lemmas.Map.Views.{Contains-from_any, list_any-from_Contains}
use Rattle.elf_image.specs.declared.image.Segment.{Segment}
use Rattle.elf_image.specs.declared.range.Range.{Range}
use Rattle.elf_image.specs.Range.{is_inside}
use Rattle.graph_order.specs.Graph.{Digraph}
use Rattle.flow_graph.specs.declared.place.Place.{Place}
use Rattle.flow_graph.specs.declared.place.Cause.{Cause}
use Rattle.flow_graph.specs.Reach as reach
use Rattle.flow_graph.specs.Reach.{AreSuccessors, Reaches}
use Rattle.flow_graph.specs.Place.{place_of, range_place, HasCause, HasNoPlace, NamedPlace}
use Rattle.flow_graph.specs.Discovery as list
use Rattle.flow_graph.specs.Discovery.{with_new, firsts, number_in, HasSuccessors, IsDiscovered}
use Rattle.flow_graph.specs.Sites.{least_with, CauseIs}
use Rattle.flow_graph.proofs.Frozen.{inside_bounds}
use Rattle.flow_graph.proofs.Firsts.{Has, Grows, has_left, has_right, has_either, has_one, only_one, none_has, has_all, all_or_old, grows_all, numbers_stay, distinct_firsts, few_in_row}
use Rattle.flow_graph.proofs.OneLists.{one_list, leads_begins}

-- ---- lists

eq_same : (a b : ℕ) → nat_eq a b ≡ true → a ≡ b
eq_same a b h = elim (cases_eq a b) [
  | inl e ↦ e
  | inr ne ↦ absurd (both_ways (nat_eq a b) (ne_eqb a b ne) h)
]

pub contains_has : (xs : List ℕ) (a : ℕ) → Contains xs a → Has xs a
contains_has xs a h = list_any-from_Contains nat_eq_equiv a xs h

pub has_contains : (xs : List ℕ) (a : ℕ) → Has xs a → Contains xs a
has_contains xs a h = Contains-from_any eq_same a xs h

-- what a filter keeps passes, and was there
kept : (p : ℕ → Bool) (xs : List ℕ) (a : ℕ) → Has (filter p xs) a → Has xs a × (p a ≡ true)
kept p [] a h = absurd (none_has a h)
kept p (x ∷ xs) a h = by (p x) refl (kept p xs a) h
  where
    by : (b : Bool) → p x ≡ b → (Has (filter p xs) a → Has xs a × (p a ≡ true)) → Has (cond b (x ∷ filter p xs) (filter p xs)) a → Has (x ∷ xs) a × (p a ≡ true)
    by true e rest h = elim (has_either (x ∷ []) (filter p xs) a h) [
      | inl here ↦ (let is : a ≡ x = only_one x a here in (has_left (x ∷ []) xs a here, ap p is ∙ e))
      | inr later ↦ (has_right (x ∷ []) xs a (rest later).0, (rest later).1)
    ]
    by false e rest h = (has_right (x ∷ []) xs a (rest h).0, (rest h).1)

-- what was there and passes is kept
keeps : (p : ℕ → Bool) (xs : List ℕ) (a : ℕ) → Has xs a → p a ≡ true → Has (filter p xs) a
keeps p [] a h passes = absurd (none_has a h)
keeps p (x ∷ xs) a h passes = by (p x) refl (has_either (x ∷ []) xs a h) (λ later. keeps p xs a later passes)
  where
    by : (b : Bool) → p x ≡ b → Has (x ∷ []) a ⊎ Has xs a → (Has xs a → Has (filter p xs) a) → Has (cond b (x ∷ filter p xs) (filter p xs)) a
    by true e (inl here) rest = has_left (x ∷ []) (filter p xs) a here
    by true e (inr later) rest = has_right (x ∷ []) (filter p xs) a (rest later)
    by false e (inl here) rest = absurd (both_ways (p x) e (ap p (sym (only_one x a here)) ∙ passes))
    by false e (inr later) rest = rest later

-- a list of lists has what one of them has
pub in_concat : (xss : List (List ℕ)) (k a : ℕ) → k < length xss → Has (get_or xss k []) a → Has (concat xss) a
in_concat [] k a lt h = absurd (omega (arith, lt))
in_concat (xs ∷ xss) zero a lt h = has_left xs (concat xss) a h
in_concat (xs ∷ xss) (suc k) a lt h = has_right xs (concat xss) a (in_concat xss k a (omega (arith, lt)) h)

-- the numbers of members stay, list by list
lists_stay : (xss : List (List ℕ)) (ks new : List ℕ) → Grows ks new → ((a : ℕ) → Has (concat xss) a → Has ks a)
    → map (map (number_in new)) xss ≡ map (map (number_in ks)) xss
lists_stay [] ks new g h = refl
lists_stay (xs ∷ xss) ks new g h =
    let head : map (number_in new) xs ≡ map (number_in ks) xs = numbers_stay xs ks new g (λ a m. h a (has_left xs (concat xss) a m)) in
    let tail : map (map (number_in new)) xss ≡ map (map (number_in ks)) xss = lists_stay xss ks new g (λ a m. h a (has_right xs (concat xss) a m)) in
    ap (λ n. n ∷ map (map (number_in new)) xss) head ∙ ap (λ l. map (number_in ks) xs ∷ l) tail

zip_push : {A B : Type 0} (R : A → B → Type 0) (xs : List A) (ys : List B) (x : A) (y : B) → AllZip R xs ys → R x y → AllZip R (xs ++ x ∷ []) (ys ++ y ∷ [])
zip_push R [] [] x y h k = (k, tt)
zip_push R [] (b ∷ ys) x y h k = absurd h
zip_push R (a ∷ xs) [] x y h k = absurd h
zip_push R (a ∷ xs) (b ∷ ys) x y h k = (h.0, zip_push R xs ys x y h.1 k)

pub zip_at : {A B : Type 0} (R : A → B → Type 0) (xs : List A) (ys : List B) (k : ℕ) (d : A) (e : B) → AllZip R xs ys → k < length xs → (k < length ys) × R (get_or xs k d) (get_or ys k e)
zip_at R [] ys k d e h lt = absurd (omega (arith, lt))
zip_at R (a ∷ xs) [] k d e h lt = absurd h
zip_at R (a ∷ xs) (b ∷ ys) zero d e h lt = (omega arith, h.0)
zip_at R (a ∷ xs) (b ∷ ys) (suc k) d e h lt = let p = zip_at R xs ys k d e h.1 (omega (arith, lt)) in (omega (arith, p.0), p.1)

pub zip_length : {A B : Type 0} (R : A → B → Type 0) (xs : List A) (ys : List B) → AllZip R xs ys → length xs ≡ length ys
zip_length R [] [] h = refl
zip_length R [] (b ∷ ys) h = absurd h
zip_length R (a ∷ xs) [] h = absurd h
zip_length R (a ∷ xs) (b ∷ ys) h = ap suc (zip_length R xs ys h.1)

shorter : (n : ℕ) (ks : List ℕ) → length (take n ks) ≤ length ks
shorter zero ks = omega arith
shorter (suc n) [] = omega arith
shorter (suc n) (k ∷ ks) = omega (arith, shorter n ks)

-- one place more of a list that may grow
one_more_of : (ks more : List ℕ) (n at : ℕ) → slice_get ks n ≡ Some at → take (n + 1) (ks ++ more) ≡ take n ks ++ at ∷ []
one_more_of [] more n at h = cc
one_more_of (k ∷ ks) more zero at h = ap (λ x. x ∷ []) (λ i. some_of (h i))
  where
    some_of : Option ℕ → ℕ
    some_of None = k
    some_of (Some x) = x
one_more_of (k ∷ ks) more (suc n) at h =
    let e : suc n + 1 ≡ suc (n + 1) = omega arith in
    ap (λ j. take j (k ∷ (ks ++ more))) e ∙ ap (λ l. k ∷ l) (one_more_of ks more n at h)

all_of : (ks : List ℕ) (n : ℕ) → slice_get ks n ≡ None → take n ks ≡ ks
all_of [] zero h = refl
all_of [] (suc n) h = refl
all_of (k ∷ ks) zero h = absurd (let z : ⊥ = cc in z)
all_of (k ∷ ks) (suc n) h = ap (λ l. k ∷ l) (all_of ks n h)

-- ---- what a walk has found

-- no address has a cause, or the place is the least one that has
abbrev pub IsLeastOf : List Segment → Range → List ℕ → Option Place → Type 0
IsLeastOf m r passed None = (a : ℕ) (c : Cause) → Has passed a → HasCause m r a c → ⊥
IsLeastOf m r passed (Some p) = Has passed p.at × HasCause m r p.at p.cause × ((a : ℕ) (c : Cause) → Has passed a → HasCause m r a c → p.at ≤ a)

pub record IsWalked (m : List Segment) (r : Range) (keys : List ℕ) (lists : List (List ℕ)) (named : Option Place) : Type 0 where
  pub addresses : List (List ℕ)
  pub listed : AllZip (HasSuccessors m r) (take (length addresses) keys) addresses
  pub order : firsts (r.entry ∷ concat addresses) ≡ keys
  pub numbered : lists ≡ map (map (number_in keys)) addresses
  pub reached : (a : ℕ) → Has keys a → Reaches m r a
  pub least : IsLeastOf m r (take (length addresses) keys) named

pub begins_walk : (m : List Segment) (r : Range) → is_inside r r.entry ≡ true → IsWalked m r (r.entry ∷ []) [] None
begins_walk m r inside = record {
  addresses = [];
  listed = tt;
  order = refl;
  numbered = refl;
  reached = λ a h. subst (Reaches m r) (sym (only_one r.entry a h)) (reach.entry inside);
  least = λ a c h. absurd (none_has a h);
}

-- an inside successor of a reached address is reached
pub reaches_next : (m : List Segment) (r : Range) (at : ℕ) (successors : List ℕ) (a : ℕ) → Reaches m r at → HasSuccessors m r at successors → Has successors a → Reaches m r a
reaches_next m r at successors a h (list.begins all b e) s =
    let p = kept (is_inside r) all a (subst (λ l. Has l a) e s) in
    reach.along at a all h b (has_contains all a p.0) p.1
reaches_next m r at successors a h (list.none b e) s = absurd (none_has a (subst (λ l. Has l a) e s))

-- and each of them is in the list
pub next_there : (m : List Segment) (r : Range) (a b : ℕ) (all successors : List ℕ) → AreSuccessors m r a all → Contains all b → is_inside r b ≡ true
    → HasSuccessors m r a successors → Has successors b
next_there m r a b all successors leads s inside (list.begins other k e) =
    let there : Has other b = subst (λ l. Has l b) (one_list m r a all other leads k) (contains_has all b s) in
    subst (λ l. Has l b) (sym e) (keeps (is_inside r) other b there inside)
next_there m r a b all successors leads s inside (list.none none e) = absurd (leads_begins m r a all leads none)

-- what is reached is inside
pub reached_inside : (m : List Segment) (r : Range) (a : ℕ) → Reaches m r a → is_inside r a ≡ true
reached_inside m r _ (reach.entry h) = h
reached_inside m r _ (reach.along a b all h leads s inside) = inside

pub reached_bounds : (m : List Segment) (r : Range) (a : ℕ) → Reaches m r a → (r.entry ≤ a) × (a < r.entry + r.size)
reached_bounds m r a h = inside_bounds r a (reached_inside m r a h)

-- ---- the least place

pub least_more : (m : List Segment) (r : Range) (passed : List ℕ) (named : Option Place) (at : ℕ) (why : Option Cause) → IsLeastOf m r passed named → CauseIs m r at why
    → IsLeastOf m r (passed ++ at ∷ []) (least_with named at why)
least_more m r passed None at None h k = λ a c there cause. elim (has_either passed (at ∷ []) a there) [
  | inl old ↦ h a c old cause
  | inr new ↦ k c (subst (λ x. HasCause m r x c) (only_one at a new) cause)
]
least_more m r passed (Some p) at None h k = (
  has_left passed (at ∷ []) p.at h.0,
  h.1,
  λ a c there cause. elim (has_either passed (at ∷ []) a there) [
    | inl old ↦ h.2 a c old cause
    | inr new ↦ absurd (k c (subst (λ x. HasCause m r x c) (only_one at a new) cause))
  ],
)
least_more m r passed None at (Some why) h k = (
  has_right passed (at ∷ []) at (has_one at),
  k,
  λ a c there cause. elim (has_either passed (at ∷ []) a there) [
    | inl old ↦ absurd (h a c old cause)
    | inr new ↦ omega (arith, only_one at a new)
  ],
)
least_more m r passed (Some p) at (Some why) h k = elim (cases_lt at p.at) [
  | inl lt ↦
      subst (IsLeastOf m r (passed ++ at ∷ [])) (ap (λ b. if b then Some (place_of at why) else Some p) (sym (lt-ltb at p.at lt))) (
        has_right passed (at ∷ []) at (has_one at),
        k,
        λ a c there cause. elim (has_either passed (at ∷ []) a there) [
          | inl old ↦ omega (arith, lt, h.2 a c old cause)
          | inr new ↦ omega (arith, only_one at a new)
        ],
      )
  | inr le ↦
      subst (IsLeastOf m r (passed ++ at ∷ [])) (ap (λ b. if b then Some (place_of at why) else Some p) (sym (le-ltb at p.at le))) (
        has_left passed (at ∷ []) p.at h.0,
        h.1,
        λ a c there cause. elim (has_either passed (at ∷ []) a there) [
          | inl old ↦ h.2 a c old cause
          | inr new ↦ omega (arith, le, only_one at a new)
        ],
      )
]

-- ---- a turn

module _ (m : List Segment) (r : Range) (keys : List ℕ) (lists : List (List ℕ)) (named : Option Place) (w : IsWalked m r keys lists named) where
  pub as_many : length lists ≡ length w.addresses
  as_many = ap length w.numbered ∙ length_map (map (number_in keys)) w.addresses
    where
      length_map : (f : List ℕ → List ℕ) (xss : List (List ℕ)) → length (map f xss) ≡ length xss
      length_map f [] = refl
      length_map f (xs ∷ xss) = ap suc (length_map f xss)

  -- a place that waits is reached
  pub waiting_reached : (n at : ℕ) → slice_get keys n ≡ Some at → Reaches m r at
  waiting_reached n at h = w.reached at (got keys n at h)
    where
      got : (ks : List ℕ) (n at : ℕ) → slice_get ks n ≡ Some at → Has ks at
      got [] n at h = cc
      got (k ∷ ks) zero at h = let e : k ≡ at = cc in has_left (k ∷ []) ks at (subst (λ x. Has (k ∷ []) x) e (has_one k))
      got (k ∷ ks) (suc n) at h = has_right (k ∷ []) ks at (got ks n at h)

  -- what the lists name has been found
  named_found : (a : ℕ) → Has (concat w.addresses) a → Has keys a
  named_found a h = subst (λ l. Has l a) w.order (has_all (r.entry ∷ concat w.addresses) [] a (has_right (r.entry ∷ []) (concat w.addresses) a h))

  -- the walk after one turn
  pub turn : (new : List ℕ) (longer : List (List ℕ)) (least : Option Place) (at : ℕ) (successors : List ℕ) (why : Option Cause)
      → slice_get keys (length lists) ≡ Some at → HasSuccessors m r at successors → CauseIs m r at why → new ≡ fold with_new keys successors
      → longer ≡ lists ++ map (number_in new) successors ∷ [] → least ≡ least_with named at why → IsWalked m r new longer least
  turn new longer least at successors why waits has cause is more named' =
      let grows : Grows keys new = subst (Grows keys) (sym is) (grows_all successors keys) in
      let waits' : slice_get keys (length w.addresses) ≡ Some at = subst (λ n. slice_get keys n ≡ Some at) as_many waits in
      let many : length (w.addresses ++ successors ∷ []) ≡ length w.addresses + 1 = omega (arith, length-append w.addresses (successors ∷ [])) in
      let passed : take (length (w.addresses ++ successors ∷ [])) new ≡ take (length w.addresses) keys ++ at ∷ [] =
      ap (λ n. take n new) many ∙ ap (take (length w.addresses + 1)) grows.1 ∙ one_more_of keys grows.0 (length w.addresses) at waits' in
      let joined : concat (w.addresses ++ successors ∷ []) ≡ concat w.addresses ++ successors = concat-append w.addresses (successors ∷ []) ∙ ap (λ l. concat w.addresses ++ l) (append-nil successors) in
      record {
        addresses = w.addresses ++ successors ∷ [];
        listed = subst (λ ks. AllZip (HasSuccessors m r) ks (w.addresses ++ successors ∷ [])) (sym passed)
            (zip_push (HasSuccessors m r) (take (length w.addresses) keys) w.addresses at successors w.listed has);
        order = ap (λ l. firsts (r.entry ∷ l)) joined ∙ fold-append with_new [] (r.entry ∷ concat w.addresses) successors
            ∙ ap (λ ks. fold with_new ks successors) w.order ∙ sym is;
        numbered = more ∙ ap (λ l. l ++ map (number_in new) successors ∷ []) (w.numbered ∙ sym (lists_stay w.addresses keys new grows named_found))
            ∙ sym (map-append (map (number_in new)) w.addresses (successors ∷ []));
        reached = λ a h. elim (all_or_old successors keys a (subst (λ l. Has l a) is h)) [
          | inl old ↦ w.reached a old
          | inr next ↦ reaches_next m r at successors a (waiting_reached (length lists) at waits) has next
        ];
        least = subst (IsLeastOf m r (take (length (w.addresses ++ successors ∷ [])) new)) (sym named')
            (subst (λ ks. IsLeastOf m r ks (least_with named at why)) (sym passed)
            (least_more m r (take (length w.addresses) keys) named at why w.least cause));
      }

  -- what is found is inside
  pub found_inside : (a : ℕ) → Has keys a → (r.entry ≤ a) × (a < r.entry + r.size)
  found_inside a h = reached_bounds m r a (w.reached a h)

  pub few_found : length keys ≤ r.size
  few_found = few_in_row r.entry r.size keys (subst (IsDistinct nat_eq) w.order (distinct_firsts (r.entry ∷ concat w.addresses))) found_inside

  pub fewer_lists : length lists ≤ length keys
  fewer_lists =
      let same : length (take (length w.addresses) keys) ≡ length w.addresses = zip_length (HasSuccessors m r) (take (length w.addresses) keys) w.addresses w.listed in
      let short : length (take (length w.addresses) keys) ≤ length keys = shorter (length w.addresses) keys in
      omega (arith, same, short, as_many)

  -- ---- the end of a walk

  -- a place that waits no more leaves a list for each place
  module _ (over : slice_get keys (length lists) ≡ None) where
    all_passed : take (length w.addresses) keys ≡ keys
    all_passed = all_of keys (length w.addresses) (subst (λ n. slice_get keys n ≡ None) as_many over)

    all_listed : AllZip (HasSuccessors m r) keys w.addresses
    all_listed = subst (λ ks. AllZip (HasSuccessors m r) ks w.addresses) all_passed w.listed

    -- what the place k leads to is found
    leads : (k a b : ℕ) (all : List ℕ) → k < length keys → get_or keys k a ≡ a → AreSuccessors m r a all → Contains all b → is_inside r b ≡ true → Has keys b
    leads k a b all lt at are s inside =
        let p = zip_at (HasSuccessors m r) keys w.addresses k a [] all_listed lt in
        let here : HasSuccessors m r a (get_or w.addresses k []) = subst (λ x. HasSuccessors m r x (get_or w.addresses k [])) at p.1 in
        named_found b (in_concat w.addresses k b p.0 (next_there m r a b all (get_or w.addresses k []) are s inside here))

    pub complete : (a : ℕ) → Reaches m r a → Has keys a
    complete _ (reach.entry h) = subst (λ l. Has l r.entry) w.order (has_all (r.entry ∷ concat w.addresses) [] r.entry (has_left (r.entry ∷ []) (concat w.addresses) r.entry (has_one r.entry)))
    complete _ (reach.along a b all h are s inside) =
        let there = has_contains keys a (complete a h) in
        leads there.0 a b all there.1 there.2 are s inside

    pub discovered : (g : Digraph) → g ≡ record { entry = 0; succ = lists } → IsDiscovered m r keys g
    discovered g is = record {
      lists = w.addresses;
      listed = all_listed;
      order = w.order;
      reached = λ a. (λ h. w.reached a (contains_has keys a h), λ h. has_contains keys a (complete a h));
      graph = is ∙ ap (λ l. record { entry = 0; succ = l }) w.numbered;
    }

    pub no_place : range_place m r ≡ None → named ≡ None → HasNoPlace m r
    no_place none is = record {
      range = none;
      reached = λ a c h cause. (subst (IsLeastOf m r keys) is (subst (λ ks. IsLeastOf m r ks named) all_passed w.least)) a c (complete a h) cause;
    }

    pub named_place : (p : Place) → range_place m r ≡ None → named ≡ Some p → NamedPlace m r p
    named_place p none is =
        let least : IsLeastOf m r keys (Some p) = subst (IsLeastOf m r keys) is (subst (λ ks. IsLeastOf m r ks named) all_passed w.least) in
        rw none (record { reached = w.reached p.at least.0; has_cause = least.1; least = λ a c h cause. least.2 a c (complete a h) cause })
