-- A search that marks what the entry reaches.
use Rattle.std.proofs.Common.{◌≡◌, ℕ, ◌<◌, ◌∙◌, ◌⊎◌, inl, inr, ⊎_elim, sym, ap, subst, refl, arith, Bool, true, false, List, [], ◌∷◌, ◌++◌, length, set, replicate, length-set}
use Rattle.std.specs.Prelude.{Contains, ◌↔◌, slice_index_or}
use Rattle.std.proofs.lemmas.List.{length-replicate}
use Rattle.std.proofs.lemmas.List.Elements.{Contains-append_cases, Contains-append_left, Contains-push}
use Rattle.graph_order.specs.Graph.{Digraph, HasEdge, stay, step, IsReached, IsMarked}
use Rattle.graph_order.specs.Marks.{Visits}
use Rattle.graph_order.proofs.Marked.{marked_inside, none_marked, marked_either, set_is_marked, only_one}
use Rattle.graph_order.proofs.Growing.{nothing_in}

-- only reached nodes are marked, and an edge leads from a marked node to an unmarked one only where the first waits
pub record Searches (g : Digraph) (marks : List Bool) (waiting : List ℕ) : Type 0 where
  pub size : length marks ≡ length g.succ
  pub begun : IsMarked marks g.entry
  pub sound : (n : ℕ) → IsMarked marks n → IsReached g n
  pub waits : (n : ℕ) → Contains waiting n → IsMarked marks n
  pub closed : (n m : ℕ) → IsMarked marks n → HasEdge g n m → Contains waiting n ⊎ IsMarked marks m

-- the entry alone is marked, and waits
pub Searches-start : (g : Digraph) (marks : List Bool) (j : ℕ) → marks ≡ replicate (length g.succ) false → j ≡ g.entry → g.entry < length g.succ → Searches g (set marks j true) (g.entry ∷ [])
Searches-start g marks j e same h =
    let size : length marks ≡ length g.succ = ap length e ∙ length-replicate (length g.succ) false in
    let only = λ (n : ℕ) (m : IsMarked (set marks j true) n). ⊎_elim {C = n ≡ g.entry} (λ q. q ∙ same) (λ q. absurd (none_marked (length g.succ) n (subst (λ bs. IsMarked bs n) e q))) (marked_either marks j n m) in
    let begun : IsMarked (set marks j true) g.entry = subst (IsMarked (set marks j true)) same (set_is_marked marks j (omega (arith, size, same, h))) in
    record {
      size = length-set marks j true ∙ size;
      begun = begun;
      sound = λ n m. stay (sym (only n m));
      waits = λ n w. subst (IsMarked (set marks j true)) (sym (only_one g.entry n w)) begun;
      closed = λ n k m e. inl (subst (λ x. Contains (g.entry ∷ []) x) (sym (only n m)) (Contains-push [] g.entry));
    }

-- a node that waited has had its successors visited
pub Searches-turn : (g : Digraph) (marks new : List Bool) (old rest waiting : List ℕ) (node : ℕ) → old ≡ rest ++ node ∷ [] → length new ≡ length marks → Searches g marks old → Visits (slice_index_or g.succ node []) marks rest new waiting → Searches g new waiting
Searches-turn g marks new old rest waiting node e size s v =
    let here : IsMarked marks node = s.waits node (subst (λ l. Contains l node) (sym e) (Contains-push rest node)) in
    record {
      size = size ∙ s.size;
      begun = v.marks_stay g.entry s.begun;
      sound = λ n m. ⊎_elim (s.sound n) (λ p. step node (s.sound node here) p.0) (v.new_marks n m);
      waits = λ n w. ⊎_elim (λ q. v.marks_stay n (s.waits n (subst (λ l. Contains l n) (sym e) (Contains-append_left rest (node ∷ []) n q)))) (λ p. p.0) (v.new_waiting n w);
      closed = λ n k m edge.
          ⊎_elim
          (λ was. ⊎_elim
          (λ w. ⊎_elim
          (λ q. inl (v.queue_stays n q))
          (λ q. inr (v.all_marked k (subst (λ x. HasEdge g x k) (only_one node n q) edge)))
          (Contains-append_cases rest (node ∷ []) n (subst (λ l. Contains l n) e w)))
          (λ q. inr (v.marks_stay k q))
          (s.closed n k was edge))
          (λ p. inl p.1)
          (v.new_marks n m);
    }

all_reached : (g : Digraph) (marks : List Bool) → Searches g marks [] → (n : ℕ) → IsReached g n → IsMarked marks n
all_reached g marks s n (stay e) = subst (IsMarked marks) e s.begun
all_reached g marks s n (step b w e) = ⊎_elim (λ h. absurd (nothing_in b h)) (λ m. m) (s.closed b n (all_reached g marks s b w) e)

-- when nothing waits, the marks are exact
pub Searches-end : (g : Digraph) (marks : List Bool) → Searches g marks [] → (n : ℕ) → (IsMarked marks n ↔ IsReached g n)
Searches-end g marks s n = (s.sound n, all_reached g marks s n)

-- a list without elements
empty_list : (xs : List ℕ) → length xs ≡ 0 → xs ≡ []
empty_list [] e = refl
empty_list (x ∷ xs) e = absurd (omega (arith, e))

-- the same, where the list that waits has no elements
pub Searches-exact : (g : Digraph) (marks : List Bool) (waiting : List ℕ) → length waiting ≡ 0 → Searches g marks waiting → (n : ℕ) → (IsMarked marks n ↔ IsReached g n)
Searches-exact g marks waiting e s = Searches-end g marks (subst (Searches g marks) (empty_list waiting e) s)

-- a node that waits is one of the graph's
pub waits_inside : (g : Digraph) (marks : List Bool) (waiting : List ℕ) (n : ℕ) → Searches g marks waiting → Contains waiting n → n < length g.succ
waits_inside g marks waiting n s w = omega (arith, marked_inside marks n (s.waits n w), s.size)
