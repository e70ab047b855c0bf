-- Paths of nodes, each with the next one after it.
use Rattle.std.proofs.Common.{◌≡◌, ◌≢◌, inl, inr, ℕ, zero, suc, ◌+◌, ◌<◌, ◌≤◌, Bool, true, false, List, [], ◌∷◌, ◌++◌, length, get_or, map, take, Option, Some, None, refl, sym, ap, ◌∙◌, subst, arith, length-append, append-nil}
use Rattle.std.specs.Prelude.{slice_index_or, Contains, AllPairs}
use Rattle.std.proofs.lemmas.Bool.{cases_eq}
use Rattle.std.proofs.lemmas.Bool.Decides.{Decides-eqb}
use Rattle.std.proofs.lemmas.Cmp.{nat_eq_equiv}
use Rattle.std.proofs.lemmas.List.Elements.{All-push}
use Rattle.std.proofs.lemmas.Map.Made.{length-le_from_is_member, is_member-Decides, IsDistinct-from_AllPairs}
use Rattle.flow_stretches.specs.Joined.{first_of, last_from, Path}
use Rattle.flow_stretches.specs.Known.{NextIn, IsPath, AreNext, ArePaths, marked_from}
use Rattle.flow_stretches.proofs.Marking.{marked_next}
use Rattle.flow_stretches.proofs.Members.{contains_here, contains_later, contains_cases, none_in}

-- ---- a path so far

-- nodes from one on, each with the next one after it, to a last one
pub record PathTo (next : List (Option ℕ)) (first last : ℕ) (nodes : List ℕ) : Type 0 where
  pub others : List ℕ
  pub are : nodes ≡ first ∷ others
  pub path : Path (NextIn next) first others
  pub to : last_from first others ≡ last

pub path_alone : (next : List (Option ℕ)) (first : ℕ) → PathTo next first first (first ∷ [])
path_alone next first = record { others = []; are = refl; path = tt; to = refl }

longer : (R : ℕ → ℕ → Type 0) (n : ℕ) (ms : List ℕ) (m : ℕ) → Path R n ms → R (last_from n ms) m → Path R n (ms ++ m ∷ [])
longer R n [] m p r = (r, tt)
longer R n (k ∷ ms) m p r = (p.0, longer R k ms m p.1 r)

last_pushed : (m : ℕ) (ms : List ℕ) (n : ℕ) → last_from m (ms ++ n ∷ []) ≡ n
last_pushed m [] n = refl
last_pushed m (k ∷ ms) n = last_pushed k ms n

pub path_more : (next : List (Option ℕ)) (first last m : ℕ) (nodes : List ℕ) → NextIn next last m → PathTo next first last nodes → PathTo next first m (nodes ++ m ∷ [])
path_more next first last m nodes e p = record {
  others = p.others ++ m ∷ [];
  are = ap (λ ns. ns ++ m ∷ []) p.are;
  path = longer (NextIn next) first p.others m p.path (subst (λ k. NextIn next k m) (sym p.to) e);
  to = last_pushed first p.others m;
}

pub path_whole : (next : List (Option ℕ)) (first last : ℕ) (nodes : List ℕ) → slice_index_or next last None ≡ None → PathTo next first last nodes → IsPath next first nodes
path_whole next first last nodes e p = record { others = p.others; are = p.are; path = p.path; ends = ap (λ k. slice_index_or next k None) p.to ∙ e }

-- ---- places on paths

-- where a node stands on a path
abbrev pub at_place : ℕ → List ℕ → ℕ → ℕ
at_place n ms zero = n
at_place n [] (suc i) = 0
at_place n (m ∷ ms) (suc i) = at_place m ms i

place_step : (R : ℕ → ℕ → Type 0) (n : ℕ) (ms : List ℕ) (i : ℕ) → Path R n ms → i < length ms → R (at_place n ms i) (at_place n ms (suc i))
place_step R n [] i p h = absurd (let z : ⊥ = omega (arith, h) in z)
place_step R n (m ∷ ms) zero p h = p.0
place_step R n (m ∷ ms) (suc i) p h = place_step R m ms i p.1 (omega (arith, h))

pub place_is : (n : ℕ) (ms : List ℕ) (i d : ℕ) → i < length (n ∷ ms) → get_or (n ∷ ms) i d ≡ at_place n ms i
place_is n ms zero d h = refl
place_is n [] (suc i) d h = absurd (let z : ⊥ = omega (arith, h) in z)
place_is n (m ∷ ms) (suc i) d h = place_is m ms i d (omega (arith, h))

-- Two places of paths from nodes that are after none, at which one node stands, are one place, and the paths begin alike.
pub one_place : (R : ℕ → ℕ → Type 0) → ((a b m : ℕ) → R a m → R b m → a ≡ b) → (n k : ℕ) (ms ks : List ℕ) → ((a : ℕ) → R a n → ⊥) → ((a : ℕ) → R a k → ⊥) → Path R n ms → Path R k ks
    → (i j : ℕ) → i < length (n ∷ ms) → j < length (k ∷ ks) → at_place n ms i ≡ at_place k ks j → (i ≡ j) × (n ≡ k)
one_place R apart n k ms ks bn bk p q zero zero hi hj e = (refl, e)
one_place R apart n k ms ks bn bk p q zero (suc j) hi hj e = absurd (bn (at_place k ks j) (subst (λ m. R (at_place k ks j) m) (sym e) (place_step R k ks j q (omega (arith, hj)))))
one_place R apart n k ms ks bn bk p q (suc i) zero hi hj e = absurd (bk (at_place n ms i) (subst (λ m. R (at_place n ms i) m) e (place_step R n ms i p (omega (arith, hi)))))
one_place R apart n k ms ks bn bk p q (suc i) (suc j) hi hj e =
    let a : R (at_place n ms i) (at_place k ks (suc j)) = subst (λ m. R (at_place n ms i) m) e (place_step R n ms i p (omega (arith, hi))) in
    let b : R (at_place k ks j) (at_place k ks (suc j)) = place_step R k ks j q (omega (arith, hj)) in
    let r = one_place R apart n k ms ks bn bk p q i j (omega (arith, hi)) (omega (arith, hj)) (apart (at_place n ms i) (at_place k ks j) (at_place k ks (suc j)) a b) in
    (ap suc r.0, r.1)

-- a path from a node that is after none has no node twice
pub path_once : (R : ℕ → ℕ → Type 0) → ((a b m : ℕ) → R a m → R b m → a ≡ b) → (n : ℕ) (ms : List ℕ) → ((a : ℕ) → R a n → ⊥) → Path R n ms → AllPairs (λ a b. a ≢ b) (n ∷ ms)
path_once R apart n ms bn p = λ i j d l h e.
    let hi : i < length (n ∷ ms) = omega (arith, l, h) in
    let same : at_place n ms i ≡ at_place n ms j = sym (place_is n ms i d hi) ∙ e ∙ place_is n ms j d h in
    let r = one_place R apart n n ms ms bn bn p p i j hi h same in
    omega (arith, l, r.0)

-- ---- how long a path is

-- the numbers below a count
below : ℕ → List ℕ
below zero = []
below (suc n) = n ∷ below n

below_length : (n : ℕ) → length (below n) ≡ n
unfolding below
below_length zero = refl
below_length (suc n) = ap suc (below_length n)

in_below : (n k : ℕ) → k < n → Contains (below n) k
unfolding below
in_below zero k h = absurd (let z : ⊥ = omega (arith, h) in z)
in_below (suc n) k h = elim (cases_eq k n) [
  | inl e ↦ subst (λ m. Contains (n ∷ below n) m) (sym e) (contains_here n (below n))
  | inr d ↦ contains_later n k (below n) (in_below n k (omega (arith, h, d)))
]

-- different numbers that all stand in a list are no more than it has
no_more : (xs ys : List ℕ) → AllPairs (λ a b. a ≢ b) xs → ((a : ℕ) → Contains xs a → Contains ys a) → length xs ≤ length ys
no_more xs ys once h =
    length-le_from_is_member nat_eq_equiv xs ys (IsDistinct-from_AllPairs Decides-eqb xs once)
    (λ q t. (is_member-Decides Decides-eqb ys q).1 (h q ((is_member-Decides Decides-eqb xs q).0 t)))

-- different numbers below a count are no more than that
pub few_different : (xs : List ℕ) (n : ℕ) → AllPairs (λ a b. a ≢ b) xs → ((a : ℕ) → Contains xs a → a < n) → length xs ≤ n
few_different xs n once h = omega (arith, no_more xs (below n) once (λ a c. in_below n a (h a c)), below_length n)

path_inside : (next : List (Option ℕ)) (n : ℕ) (ms : List ℕ) → AreNext next → n < length next → Path (NextIn next) n ms → (a : ℕ) → Contains (n ∷ ms) a → a < length next
path_inside next n [] are h p a c = elim (contains_cases n a [] c) [
  | inl e ↦ subst (λ k. k < length next) e h
  | inr g ↦ absurd (none_in a g)
]
path_inside next n (m ∷ ms) are h p a c = elim (contains_cases n a (m ∷ ms) c) [
  | inl e ↦ subst (λ k. k < length next) e h
  | inr g ↦ path_inside next m ms are (are.inside n m p.0) p.1 a g
]

-- a path that goes on is shorter than the count
pub path_short : (next : List (Option ℕ)) (first last m : ℕ) (nodes : List ℕ) → AreNext next → first < length next → ((k : ℕ) → NextIn next k first → ⊥) → NextIn next last m → PathTo next first last nodes → length nodes < length next
path_short next first last m nodes are h begins e p =
    let q = path_more next first last m nodes e p in
    let few : length (first ∷ q.others) ≤ length next =
    few_different (first ∷ q.others) (length next) (path_once (NextIn next) are.apart first q.others begins q.path) (path_inside next first q.others are h q.path) in
    let size : length (nodes ++ m ∷ []) ≡ length (first ∷ q.others) = ap length q.are in
    omega (arith, few, size, length-append nodes (m ∷ []))

-- the last node of a path is inside
pub last_inside : (next : List (Option ℕ)) (first last : ℕ) (nodes : List ℕ) → AreNext next → first < length next → PathTo next first last nodes → last < length next
last_inside next first last nodes are h p = subst (λ k. k < length next) p.to (ends_inside first p.others h p.path)
  where
    ends_inside : (n : ℕ) (ms : List ℕ) → n < length next → Path (NextIn next) n ms → last_from n ms < length next
    ends_inside n [] l q = l
    ends_inside n (k ∷ ms) l q = ends_inside k ms (are.inside n k q.0) q.1

-- ---- all paths

pub none_of : (o : Option ℕ) → ((x : ℕ) → o ≡ Some x → ⊥) → o ≡ None
none_of None h = refl
none_of (Some x) h = absurd (h x refl)

pub paths_none : (next : List (Option ℕ)) → ArePaths next [] []
paths_none next = record { heads = refl; each = λ k d h. absurd (let z : ⊥ = omega (arith, h) in z) }

map_pushed : {A B : Type 0} (v : A → B) (xs : List A) (x : A) → map v (xs ++ x ∷ []) ≡ map v xs ++ v x ∷ []
map_pushed v [] x = refl
map_pushed v (y ∷ xs) x = ap (λ l. v y ∷ l) (map_pushed v xs x)

pub paths_more : {A : Type 0} (v : A → List ℕ) (next : List (Option ℕ)) (firsts : List Bool) (i : ℕ) (ps : List A) (p : A) → i < length firsts → slice_index_or firsts i false ≡ true → ArePaths next (take i firsts) (map v ps) → IsPath next i (v p)
    → ArePaths next (take (i + 1) firsts) (map v (ps ++ p ∷ []))
paths_more v next firsts i ps p h e are path =
    let head : first_of (v p) ≡ i = ap first_of path.are in
    let own : IsPath next (first_of (v p)) (v p) = subst (λ k. IsPath next k (v p)) (sym head) path in
    subst (ArePaths next (take (i + 1) firsts)) (sym (map_pushed v ps p)) (record {
      heads =
          map_pushed first_of (map v ps) (v p)
          ∙ ap (λ l. l ++ first_of (v p) ∷ []) are.heads
          ∙ ap (λ k. marked_from 0 (take i firsts) ++ k ∷ []) head
          ∙ sym (marked_next firsts i true h e);
      each = All-push (λ (nodes : List ℕ). IsPath next (first_of nodes) nodes) (map v ps) (v p) are.each own;
    })

pub paths_skip : (next : List (Option ℕ)) (firsts : List Bool) (i : ℕ) (paths : List (List ℕ)) → i < length firsts → slice_index_or firsts i false ≡ false → ArePaths next (take i firsts) paths → ArePaths next (take (i + 1) firsts) paths
paths_skip next firsts i paths h e are = record {
  heads = are.heads ∙ sym (append-nil (marked_from 0 (take i firsts))) ∙ sym (marked_next firsts i false h e);
  each = are.each;
}

take_whole : (xs : List Bool) (i : ℕ) → length xs ≤ i → take i xs ≡ xs
take_whole [] zero h = refl
take_whole [] (suc i) h = refl
take_whole (x ∷ xs) zero h = absurd (let z : ⊥ = omega (arith, h) in z)
take_whole (x ∷ xs) (suc i) h = ap (λ l. x ∷ l) (take_whole xs i (omega (arith, h)))

pub paths_all : (next : List (Option ℕ)) (firsts : List Bool) (i : ℕ) (paths : List (List ℕ)) → length firsts ≤ i → ArePaths next (take i firsts) paths → ArePaths next firsts paths
paths_all next firsts i paths h are = subst (λ l. ArePaths next l paths) (take_whole firsts i h) are
