-- Who comes to nodes, one node after another.
use Rattle.std.proofs.Common.{◌≡◌, ◌≢◌, ◌⊎◌, inl, inr, ⊎_elim, ℕ, zero, suc, ◌+◌, ◌<◌, ◌≤◌, Bool, true, false, ◌||◌, ◌↔◌, nat_eq, cond, List, [], ◌∷◌, length, get_or, set, take, replicate, refl, sym, ap, ◌∙◌, subst, arith, rules}
use Rattle.std.specs.Prelude.{Contains, slice_index_or}
use Rattle.std.specs.List.{list_any}
use Rattle.std.proofs.lemmas.Bool.{cases_lt, cases_eq}
use Rattle.std.proofs.lemmas.List.{get_or-set_same, get_or-set_other, get_or_past}
use Rattle.std.proofs.lemmas.List.Folds.{list_any_more}
use Rattle.graph_order.specs.Graph.{Digraph, HasEdge, IsReached, IsMarked}
use Rattle.flow_stretches.specs.declared.comers.Comers.{Comers}
use Rattle.flow_stretches.specs.declared.comers.Comers.TheVariants as comers
use Rattle.flow_stretches.specs.Known.{with_comer, comers_at, AreComers, ComesTo}
use Rattle.flow_stretches.proofs.Members.{equal_of, itself, contains_here, contains_later, contains_cases, none_in}

-- ---- one node

-- who comes once it is noted or not that one does
abbrev pub noted : Bool → Comers → ℕ → Comers
noted b c k = cond b (with_comer c k) c

with_one : (j k : ℕ) (b : Bool) → nat_eq j k ≡ b → with_comer (cond b (comers.One j) comers.Several) k ≡ cond b (comers.One j) comers.Several
with_one j k true e = ap (λ t. cond t (comers.One j) comers.Several) e
with_one j k false e = refl

with_self : (k : ℕ) → with_comer (comers.One k) k ≡ comers.One k
with_self k = ap (λ b. cond b (comers.One k) comers.Several) (itself k)

-- noted twice is noted once
with_twice : (c : Comers) (k : ℕ) → with_comer (with_comer c k) k ≡ with_comer c k
with_twice comers.Nobody k = with_self k
with_twice (comers.One j) k = with_one j k (nat_eq j k) refl
with_twice comers.Several k = refl

noted_more : (b : Bool) (c : Comers) (k : ℕ) → with_comer (noted b c k) k ≡ noted (b || true) c k
noted_more true c k = with_twice c k
noted_more false c k = refl

noted_same : (b : Bool) (c : Comers) (k : ℕ) → noted b c k ≡ noted (b || false) c k
noted_same true c k = refl
noted_same false c k = refl

-- ---- some targets

-- a node comes to each of some targets
pub record AreNoted (k : ℕ) (targets : List ℕ) (old new : List Comers) : Type 0 where
  pub each : (n : ℕ) → comers_at new n ≡ noted (list_any (λ t. nat_eq n t) targets) (comers_at old n) k

pub noted_none : (k : ℕ) (old : List Comers) → AreNoted k [] old old
noted_none k old = record { each = λ n. refl }

different : (n t : ℕ) → n ≢ t → nat_eq n t ≡ false
different n t h = search (rules, h)

pub noted_next : (k : ℕ) (targets : List ℕ) (i t : ℕ) (old list : List Comers) → i < length targets → get_or targets i 0 ≡ t → t < length list → AreNoted k (take i targets) old list
    → AreNoted k (take (i + 1) targets) old (set list t (with_comer (comers_at list t) k))
noted_next k targets i t old list h e inside are = record {
  each = λ n.
      let more : list_any (λ s. nat_eq n s) (take (i + 1) targets) ≡ (list_any (λ s. nat_eq n s) (take i targets) || nat_eq n t) =
      list_any_more (λ s. nat_eq n s) targets i 0 h ∙ ap (λ s. list_any (λ u. nat_eq n u) (take i targets) || nat_eq n s) e in
      elim (cases_eq n t) [
        | inl s ↦
            let here : comers_at (set list t (with_comer (comers_at list t) k)) n ≡ with_comer (comers_at list t) k =
            ap (λ m. comers_at (set list t (with_comer (comers_at list t) k)) m) s ∙ get_or-set_same list t (with_comer (comers_at list t) k) comers.Nobody inside in
            here
            ∙ ap (λ m. with_comer (comers_at list m) k) (sym s)
            ∙ ap (λ c. with_comer c k) (are.each n)
            ∙ noted_more (list_any (λ s. nat_eq n s) (take i targets)) (comers_at old n) k
            ∙ ap (λ b. noted (list_any (λ s. nat_eq n s) (take i targets) || b) (comers_at old n) k) (sym (ap (λ m. nat_eq m t) s ∙ itself t))
            ∙ ap (λ b. noted b (comers_at old n) k) (sym more)
        | inr d ↦
            get_or-set_other list t n (with_comer (comers_at list t) k) comers.Nobody d
            ∙ are.each n
            ∙ noted_same (list_any (λ s. nat_eq n s) (take i targets)) (comers_at old n) k
            ∙ ap (λ b. noted (list_any (λ s. nat_eq n s) (take i targets) || b) (comers_at old n) k) (sym (different n t d))
            ∙ ap (λ b. noted b (comers_at old n) k) (sym more)
      ];
}

-- ---- who comes

comers_same : (P Q : ℕ → Type 0) (c : Comers) → ((a : ℕ) → P a → Q a) → ((a : ℕ) → Q a → P a) → AreComers P c → AreComers Q c
comers_same P Q comers.Nobody f g h = λ a q. h a (g a q)
comers_same P Q (comers.One k) f g h = (f k h.0, λ a q. h.1 a (g a q))
comers_same P Q comers.Several f g h = (h.0, h.1, h.2, f h.0 h.3, f h.1 h.4)

one_more : (P : ℕ → Type 0) (j k : ℕ) (b : Bool) → nat_eq j k ≡ b → P j → ((a : ℕ) → P a → a ≡ j) → AreComers (λ a. P a ⊎ (a ≡ k)) (cond b (comers.One j) comers.Several)
one_more P j k true e p only = (inl p, λ a q. ⊎_elim (only a) (λ s. s ∙ sym (equal_of j k e)) q)
one_more P j k false e p only = (j, k, (λ s. let t : nat_eq j k ≡ true = ap (λ m. nat_eq j m) (sym s) ∙ itself j in let z : true ≡ false = sym t ∙ e in absurd (let y : ⊥ = cc in y)), inl p, inr refl)

comers_with : (P : ℕ → Type 0) (c : Comers) (k : ℕ) → AreComers P c → AreComers (λ a. P a ⊎ (a ≡ k)) (with_comer c k)
comers_with P comers.Nobody k h = (inr refl, λ a q. ⊎_elim (λ p. absurd (h a p)) (λ s. s) q)
comers_with P (comers.One j) k h = one_more P j k (nat_eq j k) refl h.0 h.1
comers_with P comers.Several k h = (h.0, h.1, h.2, inl h.3, inl h.4)

-- ---- all nodes below one

-- the reached nodes below k that have an edge to n
pub record ComesBelow (g : Digraph) (k n a : ℕ) : Type 0 where
  pub below : a < k
  pub reached : IsReached g a
  pub edge : HasEdge g a n

pub record ComersUpTo (g : Digraph) (k : ℕ) (list : List Comers) : Type 0 where
  pub count : length list ≡ length g.succ
  pub each : (n : ℕ) → AreComers (ComesBelow g k n) (comers_at list n)

nobody : (m n : ℕ) → comers_at (replicate m comers.Nobody) n ≡ comers.Nobody
nobody zero n = refl
nobody (suc m) zero = refl
nobody (suc m) (suc n) = nobody m n

length_of : (m : ℕ) → length (replicate m comers.Nobody) ≡ m
length_of zero = refl
length_of (suc m) = ap suc (length_of m)

pub up_to_none : (g : Digraph) → ComersUpTo g 0 (replicate (length g.succ) comers.Nobody)
up_to_none g = record {
  count = length_of (length g.succ);
  each = λ n. subst (AreComers (ComesBelow g 0 n)) (sym (nobody (length g.succ) n)) (λ a h. omega (arith, h.below));
}

any_here : (n t : ℕ) (targets : List ℕ) → (list_any (λ s. nat_eq n s) targets ≡ true → Contains targets n) → (b : Bool) → nat_eq n t ≡ b → (b || list_any (λ s. nat_eq n s) targets) ≡ true → Contains (t ∷ targets) n
any_here n t targets h true s f = subst (λ m. Contains (t ∷ targets) m) (sym (equal_of n t s)) (contains_here t targets)
any_here n t targets h false s f = contains_later t n targets (h f)

any_named : (n : ℕ) (targets : List ℕ) → list_any (λ t. nat_eq n t) targets ≡ true → Contains targets n
any_named n [] e = absurd (let z : ⊥ = cc in z)
any_named n (t ∷ targets) e = any_here n t targets (any_named n targets) (nat_eq n t) refl e

or_true : (b : Bool) → (b || true) ≡ true
or_true true = refl
or_true false = refl

named_any : (n : ℕ) (targets : List ℕ) → Contains targets n → list_any (λ t. nat_eq n t) targets ≡ true
named_any n [] h = absurd (none_in n h)
named_any n (t ∷ targets) h = elim (contains_cases t n targets h) [
  | inl e ↦ ap (λ b. b || list_any (λ s. nat_eq n s) targets) (ap (λ m. nat_eq n m) e ∙ itself n)
  | inr p ↦ ap (λ b. nat_eq n t || b) (named_any n targets p) ∙ or_true (nat_eq n t)
]

below_more : (g : Digraph) (k n : ℕ) (b : Bool) → list_any (λ t. nat_eq n t) (slice_index_or g.succ k []) ≡ b → (c : Comers) → IsReached g k → AreComers (ComesBelow g k n) c → AreComers (ComesBelow g (k + 1) n) (noted b c k)
below_more g k n true e c r h =
    comers_same (λ a. ComesBelow g k n a ⊎ (a ≡ k)) (ComesBelow g (k + 1) n) (with_comer c k)
    (λ a q. elim q [
      | inl p ↦ record { below = omega (arith, p.below); reached = p.reached; edge = p.edge }
      | inr s ↦ subst (ComesBelow g (k + 1) n) (sym s) (record { below = omega arith; reached = r; edge = any_named n (slice_index_or g.succ k []) e })
    ])
    (λ a q. elim (cases_lt a k) [
      | inl l ↦ inl (record { below = l; reached = q.reached; edge = q.edge })
      | inr m ↦ inr (omega (arith, m, q.below))
    ])
    (comers_with (ComesBelow g k n) c k h)
below_more g k n false e c r h =
    comers_same (ComesBelow g k n) (ComesBelow g (k + 1) n) c
    (λ a p. record { below = omega (arith, p.below); reached = p.reached; edge = p.edge })
    (λ a q. elim (cases_lt a k) [
      | inl l ↦ record { below = l; reached = q.reached; edge = q.edge }
      | inr m ↦
          let s : a ≡ k = omega (arith, m, q.below) in
          let named = named_any n (slice_index_or g.succ k []) (subst (λ j. HasEdge g j n) s q.edge) in
          let z : true ≡ false = sym named ∙ e in
          absurd (let y : ⊥ = cc in y)
    ])
    h

-- one more node that is reached
pub up_to_more : (g : Digraph) (k : ℕ) (old new : List Comers) → length new ≡ length old → IsReached g k → ComersUpTo g k old → AreNoted k (slice_index_or g.succ k []) old new → ComersUpTo g (k + 1) new
up_to_more g k old new size r up are = record {
  count = size ∙ up.count;
  each = λ n. subst (AreComers (ComesBelow g (k + 1) n)) (sym (are.each n)) (below_more g k n (list_any (λ t. nat_eq n t) (slice_index_or g.succ k [])) refl (comers_at old n) r (up.each n));
}

-- and one that isn't
pub up_to_skip : (g : Digraph) (k : ℕ) (list : List Comers) → (IsReached g k → ⊥) → ComersUpTo g k list → ComersUpTo g (k + 1) list
up_to_skip g k list none up = record {
  count = up.count;
  each = λ n. comers_same (ComesBelow g k n) (ComesBelow g (k + 1) n) (comers_at list n)
      (λ a p. record { below = omega (arith, p.below); reached = p.reached; edge = p.edge })
      (λ a q. elim (cases_lt a k) [
        | inl l ↦ record { below = l; reached = q.reached; edge = q.edge }
        | inr m ↦ absurd (none (let s : a ≡ k = omega (arith, m, q.below) in subst (IsReached g) s q.reached))
      ])
      (up.each n);
}

no_edge : (g : Digraph) (a n : ℕ) → length g.succ ≤ a → HasEdge g a n → ⊥
no_edge g a n h e = none_in n (subst (λ l. Contains l n) (get_or_past g.succ a [] h) e)

pub up_to_all : (g : Digraph) (k : ℕ) (list : List Comers) → length g.succ ≤ k → ComersUpTo g k list → (n : ℕ) → AreComers (ComesTo g n) (comers_at list n)
up_to_all g k list full up n =
    comers_same (ComesBelow g k n) (ComesTo g n) (comers_at list n)
    (λ a p. record { reached = p.reached; edge = p.edge })
    (λ a q. elim (cases_lt a (length g.succ)) [
      | inl l ↦ record { below = omega (arith, l, full); reached = q.reached; edge = q.edge }
      | inr m ↦ absurd (no_edge g a n m q.edge)
    ])
    (up.each n)

pub unreached : (g : Digraph) (marks : List Bool) (k : ℕ) → ((n : ℕ) → (IsMarked marks n ↔ IsReached g n)) → slice_index_or marks k false ≡ false → IsReached g k → ⊥
unreached g marks k exact e r = let z : true ≡ false = sym ((exact k).1 r) ∙ e in let y : ⊥ = cc in y
