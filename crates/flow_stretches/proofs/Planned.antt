-- The stretches that are found are those of the flow.
use Rattle.std.proofs.Common.{◌≡◌, ◌≢◌, ◌⊎◌, inl, inr, ℕ, ◌<◌, ◌↔◌, Bool, List, [], ◌∷◌, length, get_or, map, take, Option, Some, None, sym, ap, ◌∙◌, subst, arith}
use Rattle.std.specs.Prelude.{slice_get, slice_index_or, Contains, All, AllPairs}
use Rattle.std.specs.List.{concat}
use Rattle.std.specs.List.Sorted.{IsStrictlyIncreasing}
use Rattle.std.proofs.lemmas.List.Elements.{All-contains, All-head, All-tail, Contains-get_or}
use Rattle.std.proofs.lemmas.List.{length-map}
use Rattle.micro_ir.specs.Checked.{nodes_of}
use Rattle.flow_stretches.specs.declared.comers.Comers.{Comers}
use Rattle.graph_order.specs.Graph.{Digraph, IsReached, Walk, stay, step, IsMarked}
use Rattle.micro_ir.specs.declared.flow.Block.{Block}
use Rattle.micro_ir.specs.declared.flow.Flow.{Flow}
use Rattle.micro_ir.specs.Rule.{IsGiven}
use Rattle.flow_stretches.specs.Joined.{graph_of, IsFollowed, IsFirst, first_of, last_from, Path, IsStretch, AreStretches}
use Rattle.flow_stretches.specs.Known.{comers_at, AreComers, ComesTo, IsKnown, NextIn, IsPath, AreNext, ArePaths, marked_from, name_by}
use Rattle.flow_stretches.proofs.Members.{contains_got, contains_here, contains_later, contains_cases, got_of, mapped_at, at_mapped, none_in}
use Rattle.flow_stretches.proofs.Reached.{reached_inside, entry_first, follows_edge, follows_reached}
use Rattle.flow_stretches.proofs.Marking.{once_none, once_head, once_tail, once_append, in_concat, of_concat, is_marked, marked_name, marked_once, marked_rising}
use Rattle.flow_stretches.proofs.Places.{at_place, place_is, one_place, path_once}

-- what is found of the blocks of a flow
pub record ArePlanned (f : Flow) (next : List (Option ℕ)) (firsts : List Bool) : Type 0 where
  pub size : length next ≡ length f.blocks
  pub exact : (k m : ℕ) → (NextIn next k m ↔ IsFollowed f k m)
  pub marks : length firsts ≡ length f.blocks
  pub reached : (n : ℕ) → IsMarked firsts n → IsReached (graph_of f) n
  pub first : (k n : ℕ) → IsMarked firsts n → NextIn next k n → ⊥
  pub others : (n : ℕ) → IsReached (graph_of f) n → IsMarked firsts n ⊎ ((k : ℕ) × NextIn next k n)

path_other : (R S : ℕ → ℕ → Type 0) → ((k m : ℕ) → R k m → S k m) → (n : ℕ) (ms : List ℕ) → Path R n ms → Path S n ms
path_other R S h n [] p = tt
path_other R S h n (m ∷ ms) p = (h n m p.0, path_other R S h m ms p.1)

-- of two lists with a common number their places
places_of : (n : ℕ) (ms : List ℕ) (a : ℕ) → Contains (n ∷ ms) a → (i : ℕ) × (i < length (n ∷ ms)) × (at_place n ms i ≡ a)
places_of n ms a h = (h.0, h.1, sym (place_is n ms h.0 a h.1) ∙ h.2)

-- two paths with a common node begin alike
meet_alike : (next : List (Option ℕ)) (ns ks : List ℕ) (a : ℕ) → AreNext next → IsPath next (first_of ns) ns → IsPath next (first_of ks) ks → ((k : ℕ) → NextIn next k (first_of ns) → ⊥) → ((k : ℕ) → NextIn next k (first_of ks) → ⊥)
    → Contains ns a → Contains ks a → first_of ns ≡ first_of ks
meet_alike next ns ks a are p q bn bk h g =
    let i = places_of (first_of ns) p.others a (subst (λ l. Contains l a) p.are h) in
    let j = places_of (first_of ks) q.others a (subst (λ l. Contains l a) q.are g) in
    (one_place (NextIn next) are.apart (first_of ns) (first_of ks) p.others q.others bn bk p.path q.path i.0 j.0 i.1 j.1 (i.2 ∙ sym j.2)).1

-- paths from different nodes that are after none have no node twice
paths_once : (next : List (Option ℕ)) (paths : List (List ℕ)) → AreNext next → All (λ nodes. IsPath next (first_of nodes) nodes) paths → ((nodes : List ℕ) → Contains paths nodes → (k : ℕ) → NextIn next k (first_of nodes) → ⊥)
    → AllPairs (λ a b. a ≢ b) (map first_of paths) → AllPairs (λ a b. a ≢ b) (concat paths)
paths_once next [] are each begins once = once_none
paths_once next (p ∷ paths) are each begins once =
    let P : List ℕ → Type 0 = λ nodes. IsPath next (first_of nodes) nodes in
    let own = All-head P p paths each in
    let rest = All-tail P p paths each in
    let bp = begins p (contains_here p paths) in
    once_append p (concat paths)
    (subst (AllPairs (λ (a b : ℕ). a ≢ b)) (sym own.are) (path_once (NextIn next) are.apart (first_of p) own.others bp own.path))
    (paths_once next paths are rest (λ nodes c. begins nodes (contains_later p nodes paths c)) (once_tail (first_of p) (map first_of paths) once))
    (λ x y h g e.
    let q = of_concat paths y g in
    let alike = meet_alike next p q.0 y are own (All-contains P paths q.0 rest q.1) bp (begins q.0 (contains_later p q.0 paths q.1)) (subst (Contains p) e h) q.2 in
    let at = got_of paths q.0 q.1 in
    once_head (first_of p) (map first_of paths) once (first_of q.0) (contains_got (map first_of paths) at.0 (first_of q.0) (at_mapped first_of paths at.0 q.0 at.1)) alike)

-- what is after a node of a path is one too
path_closed : (next : List (Option ℕ)) (n : ℕ) (ms : List ℕ) (a m : ℕ) → Path (NextIn next) n ms → slice_index_or next (last_from n ms) None ≡ None → NextIn next a m → Contains (n ∷ ms) a → Contains (n ∷ ms) m
path_closed next n [] a m p ends e c = elim (contains_cases n a [] c) [
  | inl s ↦ absurd (let z : None ≡ Some m = sym ends ∙ ap (λ k. slice_index_or next k None) s ∙ e in let y : ⊥ = cc in y)
  | inr g ↦ absurd (none_in a g)
]
path_closed next n (k ∷ ms) a m p ends e c = elim (contains_cases n a (k ∷ ms) c) [
  | inl s ↦
      let o : Some k ≡ Some m = sym p.0 ∙ ap (λ i. slice_index_or next i None) s ∙ e in
      let t : k ≡ m = cc in
      contains_later n m (k ∷ ms) (subst (Contains (k ∷ ms)) t (contains_here k ms))
  | inr g ↦ contains_later n m (k ∷ ms) (path_closed next k ms a m p.1 ends e g)
]

module _ (f : Flow) (given : IsGiven f) (next : List (Option ℕ)) (firsts : List Bool) (plan : ArePlanned f next firsts) where
  pub are_next : AreNext next
  are_next = record {
    inside = λ k m e. subst (λ n. m < n) (sym plan.size) (reached_inside f m given.checked (follows_reached f k m ((plan.exact k m).0 e)));
    apart = λ a b m e g.
        let p = (plan.exact a m).0 e in
        let q = (plan.exact b m).0 g in
        q.alone a p.reached (follows_edge f a m p);
  }

  marked_first : (n : ℕ) → IsMarked firsts n → IsFirst f n
  marked_first n m = record { reached = plan.reached n m; follows_none = λ k h. plan.first k n m ((plan.exact k n).1 h) }

  first_marked : (n : ℕ) → IsFirst f n → IsMarked firsts n
  first_marked n h = elim (plan.others n h.reached) [
    | inl m ↦ m
    | inr r ↦ absurd (h.follows_none r.0 ((plan.exact r.0 n).0 r.1))
  ]

  module _ (paths : List (List ℕ)) (are : ArePaths next firsts paths) where
    head_marked : (nodes : List ℕ) → Contains paths nodes → IsMarked firsts (first_of nodes)
    head_marked nodes c =
        let at = got_of paths nodes c in
        is_marked firsts (first_of nodes) (subst (λ l. Contains l (first_of nodes)) are.heads (contains_got (map first_of paths) at.0 (first_of nodes) (at_mapped first_of paths at.0 nodes at.1)))

    pub once : AllPairs (λ a b. a ≢ b) (concat paths)
    once = paths_once next paths are_next are.each (λ nodes c k. plan.first k (first_of nodes) (head_marked nodes c)) (subst (AllPairs (λ (a b : ℕ). a ≢ b)) (sym are.heads) (marked_once firsts 0))

    own_path : (nodes : List ℕ) → Contains paths nodes → IsPath next (first_of nodes) nodes
    own_path nodes c = All-contains (λ (l : List ℕ). IsPath next (first_of l) l) paths nodes are.each c

    stretch : (nodes : List ℕ) → Contains paths nodes → IsStretch f nodes
    stretch nodes c =
        let p = own_path nodes c in
        record {
          first = first_of nodes;
          others = p.others;
          are = p.are;
          begins = marked_first (first_of nodes) (head_marked nodes c);
          path = path_other (NextIn next) (IsFollowed f) (λ k m. (plan.exact k m).0) (first_of nodes) p.others p.path;
          ends = λ m h. let e : None ≡ Some m = sym p.ends ∙ (plan.exact (last_from (first_of nodes) p.others) m).1 h in let z : ⊥ = cc in z;
        }

    pub each : All (IsStretch f) paths
    each k d h = stretch (get_or paths k d) (Contains-get_or paths k d h)

    on_path : (n : ℕ) (ms : List ℕ) (a : ℕ) → IsReached (graph_of f) n → Path (IsFollowed f) n ms → Contains (n ∷ ms) a → IsReached (graph_of f) a
    on_path n [] a r p c = elim (contains_cases n a [] c) [
      | inl s ↦ subst (IsReached (graph_of f)) s r
      | inr g ↦ absurd (none_in a g)
    ]
    on_path n (m ∷ ms) a r p c = elim (contains_cases n a (m ∷ ms) c) [
      | inl s ↦ subst (IsReached (graph_of f)) s r
      | inr g ↦ on_path m ms a (follows_reached f n m p.0) p.1 g
    ]

    pub are_reached : (n : ℕ) → Contains (concat paths) n → IsReached (graph_of f) n
    are_reached n c =
        let q = of_concat paths n c in
        let s = stretch q.0 q.1 in
        on_path s.first s.others n s.begins.reached s.path (subst (λ l. Contains l n) s.are q.2)

    module _ (names : List ℕ) (named : (n : ℕ) → n < length firsts → name_by names n ≡ length (marked_from 0 (take n firsts))) where
      names_stretch : (n : ℕ) → IsFirst f n → (others : List ℕ) × (slice_get paths (name_by names n) ≡ Some (n ∷ others))
      names_stretch n h =
          let inside : n < length firsts = subst (λ l. n < l) (sym plan.marks) (reached_inside f n given.checked h.reached) in
          let at : slice_get (map first_of paths) (name_by names n) ≡ Some n =
          ap (λ l. slice_get l (name_by names n)) are.heads ∙ ap (slice_get (marked_from 0 firsts)) (named n inside) ∙ marked_name firsts n (first_marked n h) in
          let r = mapped_at first_of paths (name_by names n) n at in
          let p = own_path r.0 (contains_got paths (name_by names n) r.0 r.1) in
          (p.others, r.1 ∙ ap (λ l. Some l) (p.are ∙ ap (λ k. k ∷ p.others) r.2))

      first_covered : (n : ℕ) → IsFirst f n → Contains (concat paths) n
      first_covered n h =
          let s = names_stretch n h in
          in_concat paths (n ∷ s.0) n (contains_got paths (name_by names n) (n ∷ s.0) s.1) (contains_here n s.0)

      covered : (n : ℕ) → Walk (graph_of f) f.entry n → Contains (concat paths) n
      covered n (stay e) = subst (Contains (concat paths)) e (first_covered f.entry (entry_first f))
      covered n (step b w h) = elim (plan.others n (step b w h)) [
        | inl m ↦ first_covered n (marked_first n m)
        | inr r ↦
            let follows = (plan.exact r.0 n).0 r.1 in
            let same : b ≡ r.0 = follows.alone b w h in
            let after : NextIn next b n = subst (λ k. NextIn next k n) (sym same) r.1 in
            let q = of_concat paths b (covered b w) in
            let p = own_path q.0 q.1 in
            in_concat paths q.0 n q.1 (subst (λ l. Contains l n) (sym p.are) (path_closed next (first_of q.0) p.others b n p.path p.ends after (subst (λ l. Contains l b) p.are q.2)))
      ]

      pub are_stretches : AreStretches f paths (name_by names)
      are_stretches = record {
        each = each;
        named = names_stretch;
        once = once;
        reached = λ n. (are_reached n, covered n);
        ordered = subst IsStrictlyIncreasing (sym are.heads) (marked_rising firsts);
      }

-- ---- what the joining wants

pub some_each : (f : Flow) (paths : List (List ℕ)) (name : ℕ → ℕ) → AreStretches f paths name → All (λ (nodes : List ℕ). 0 < length nodes) paths
some_each f paths name are k d h = omega (arith, ap length (are.each k d h).are)

pub inside_all : (f : Flow) (paths : List (List ℕ)) (name : ℕ → ℕ) → IsGiven f → AreStretches f paths name → All (λ n. n < length f.blocks) (concat paths)
inside_all f paths name given are k d h =
    let n = get_or (concat paths) k d in
    reached_inside f n given.checked ((are.reached n).0 (Contains-get_or (concat paths) k d h))

-- ---- what the code finds

pub known_of : (f : Flow) (g : Digraph) (reached : List Bool) (list : List Comers) → g ≡ graph_of f → length reached ≡ length g.succ → ((n : ℕ) → (IsMarked reached n ↔ IsReached g n)) → length list ≡ length g.succ
    → ((n : ℕ) → AreComers (ComesTo g n) (comers_at list n)) → IsKnown f reached list
known_of f g reached list e marks exact count comes =
    let size : length g.succ ≡ length f.blocks = ap (λ (h : Digraph). length h.succ) e ∙ length-map f.blocks (λ (b : Block). nodes_of b.end) in
    record {
      marks = marks ∙ size;
      exact = λ n. subst (λ h. IsMarked reached n ↔ IsReached h n) e (exact n);
      count = count ∙ size;
      comes = λ n. subst (λ h. AreComers (ComesTo h n) (comers_at list n)) e (comes n);
    }

pub next_within : (f : Flow) (reached : List Bool) (list : List Comers) (next : List (Option ℕ)) → IsGiven f → IsKnown f reached list → ((k m : ℕ) → (NextIn next k m ↔ IsFollowed f k m)) → (k m : ℕ) → NextIn next k m → m < length reached
next_within f reached list next given known exact k m e = omega (arith, known.marks, reached_inside f m given.checked (follows_reached f k m ((exact k m).0 e)))

pub planned_of : (f : Flow) (reached firsts : List Bool) (list : List Comers) (next : List (Option ℕ)) → IsKnown f reached list → length next ≡ length f.blocks → ((k m : ℕ) → (NextIn next k m ↔ IsFollowed f k m))
    → length firsts ≡ length reached → ((n : ℕ) → IsMarked firsts n → IsMarked reached n) → ((k n : ℕ) → IsMarked firsts n → NextIn next k n → ⊥)
    → ((n : ℕ) → IsMarked reached n → (IsMarked firsts n ⊎ ((k : ℕ) × NextIn next k n))) → ArePlanned f next firsts
planned_of f reached firsts list next known size exact count stays first others = record {
  size = size;
  exact = exact;
  marks = count ∙ known.marks;
  reached = λ n m. (known.exact n).0 (stays n m);
  first = first;
  others = λ n r. others n ((known.exact n).1 r);
}

-- the same, where the code names what is found in other words
pub planned_by : (f : Flow) (reached firsts : List Bool) (list : List Comers) (ns next : List (Option ℕ)) → ns ≡ next → IsKnown f reached list → length next ≡ length f.blocks → ((k m : ℕ) → (NextIn next k m ↔ IsFollowed f k m))
    → length firsts ≡ length reached → ((n : ℕ) → IsMarked firsts n → IsMarked reached n) → ((k n : ℕ) → IsMarked firsts n → NextIn ns k n → ⊥)
    → ((n : ℕ) → IsMarked reached n → (IsMarked firsts n ⊎ ((k : ℕ) × NextIn ns k n))) → ArePlanned f next firsts
planned_by f reached firsts list ns next e known size exact count stays first others =
    planned_of f reached firsts list next known size exact count stays
    (subst (λ os. (k n : ℕ) → IsMarked firsts n → NextIn os k n → ⊥) e first)
    (subst (λ os. (n : ℕ) → IsMarked reached n → (IsMarked firsts n ⊎ ((k : ℕ) × NextIn os k n))) e others)

pub known_by : (f : Flow) (rs reached : List Bool) (cs list : List Comers) → rs ≡ reached → cs ≡ list → IsKnown f reached list → IsKnown f rs cs
known_by f rs reached cs list e g known = subst (λ c. IsKnown f rs c) (sym g) (subst (λ r. IsKnown f r list) (sym e) known)

pub paths_by : (ns next : List (Option ℕ)) (fs firsts : List Bool) (paths : List (List ℕ)) → ns ≡ next → fs ≡ firsts → ArePaths ns fs paths → ArePaths next firsts paths
paths_by ns next fs firsts paths e g are = subst (λ f. ArePaths next f paths) g (subst (λ n. ArePaths n fs paths) e are)

pub begin_by : (os ns : List (Option ℕ)) (fs firsts : List Bool) → os ≡ ns → fs ≡ firsts → ((k n : ℕ) → IsMarked firsts n → NextIn ns k n → ⊥) → (k n : ℕ) → IsMarked fs n → NextIn os k n → ⊥
begin_by os ns fs firsts e g h = subst (λ o. (k n : ℕ) → IsMarked fs n → NextIn o k n → ⊥) (sym e) (subst (λ f. (k n : ℕ) → IsMarked f n → NextIn ns k n → ⊥) (sym g) h)

pub names_by : (fs firsts : List Bool) (names : List ℕ) → fs ≡ firsts → ((n : ℕ) → n < length fs → name_by names n ≡ length (marked_from 0 (take n fs))) → (n : ℕ) → n < length firsts → name_by names n ≡ length (marked_from 0 (take n firsts))
names_by fs firsts names e h = subst (λ f. (n : ℕ) → n < length f → name_by names n ≡ length (marked_from 0 (take n f))) e h
