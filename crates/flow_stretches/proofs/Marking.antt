-- The places of marks, and lists without a number twice.
use Rattle.std.proofs.Common.{◌≡◌, ◌≢◌, inl, inr, ℕ, zero, suc, ◌+◌, ◌<◌, ◌≤◌, Bool, true, false, cond, List, [], ◌∷◌, ◌++◌, length, get_or, take, Some, refl, sym, ap, ◌∙◌, subst, arith, length-append}
use Rattle.std.specs.Prelude.{slice_get, slice_index, slice_index_or, Contains, AllPairs}
use Rattle.std.specs.List.{concat}
use Rattle.std.specs.List.Sorted.{IsStrictlyIncreasing}
use Rattle.std.proofs.lemmas.List.Elements.{Contains-get_or, Contains-append_left, Contains-append_right, Contains-append_cases}
use Rattle.graph_order.specs.Graph.{IsMarked}
use Rattle.flow_stretches.specs.Known.{marked_from, name_by}
use Rattle.std.proofs.lemmas.Bool.{cases_lt}
use Rattle.std.proofs.lemmas.List.{take_more}
use Rattle.flow_stretches.proofs.Members.{contains_here, contains_later, contains_cases, none_in}

-- ---- no number twice

pub once_none : AllPairs (λ (a b : ℕ). a ≢ b) []
once_none i j d l h = absurd (let z : ⊥ = omega (arith, h) in z)

pub once_more : (x : ℕ) (xs : List ℕ) → ((y : ℕ) → Contains xs y → x ≢ y) → AllPairs (λ a b. a ≢ b) xs → AllPairs (λ a b. a ≢ b) (x ∷ xs)
once_more x xs apart once zero zero d l h = absurd (let z : ⊥ = omega (arith, l) in z)
once_more x xs apart once zero (suc j) d l h = apart (get_or xs j d) (Contains-get_or xs j d (omega (arith, h)))
once_more x xs apart once (suc i) zero d l h = absurd (let z : ⊥ = omega (arith, l) in z)
once_more x xs apart once (suc i) (suc j) d l h = once i j d (omega (arith, l)) (omega (arith, h))

pub once_head : (n : ℕ) (ns : List ℕ) → AllPairs (λ a b. a ≢ b) (n ∷ ns) → (m : ℕ) → Contains ns m → n ≢ m
once_head n ns once m h = λ e. once 0 (suc h.0) m (omega arith) (omega (arith, h.1)) (e ∙ sym h.2)

pub once_tail : (n : ℕ) (ns : List ℕ) → AllPairs (λ a b. a ≢ b) (n ∷ ns) → AllPairs (λ a b. a ≢ b) ns
once_tail n ns once = λ i j d l h. once (suc i) (suc j) d (omega (arith, l)) (omega (arith, h))

pub once_append : (xs ys : List ℕ) → AllPairs (λ a b. a ≢ b) xs → AllPairs (λ a b. a ≢ b) ys → ((x y : ℕ) → Contains xs x → Contains ys y → x ≢ y) → AllPairs (λ a b. a ≢ b) (xs ++ ys)
once_append [] ys p q apart = q
once_append (x ∷ xs) ys p q apart =
    once_more x (xs ++ ys)
    (λ y c. elim (Contains-append_cases xs ys y c) [
      | inl h ↦ once_head x xs p y h
      | inr h ↦ apart x y (contains_here x xs) h
    ])
    (once_append xs ys (once_tail x xs p) q (λ a b h g. apart a b (contains_later x a xs h) g))

-- ---- lists joined end to end

pub in_concat : (lists : List (List ℕ)) (list : List ℕ) (n : ℕ) → Contains lists list → Contains list n → Contains (concat lists) n
in_concat [] list n h c = absurd (none_in list h)
in_concat (l ∷ lists) list n h c = elim (contains_cases l list lists h) [
  | inl e ↦ Contains-append_left l (concat lists) n (subst (λ ns. Contains ns n) (sym e) c)
  | inr g ↦ Contains-append_right l (concat lists) n (in_concat lists list n g c)
]

pub of_concat : (lists : List (List ℕ)) (n : ℕ) → Contains (concat lists) n → (list : List ℕ) × Contains lists list × Contains list n
of_concat [] n h = absurd (none_in n h)
of_concat (l ∷ lists) n h = elim (Contains-append_cases l (concat lists) n h) [
  | inl c ↦ (l, contains_here l lists, c)
  | inr c ↦ let r = of_concat lists n c in (r.0, contains_later l r.0 lists r.1, r.2)
]

-- ---- marks

-- a place of a mark is that of one
pub marked_place : (marks : List Bool) (k n : ℕ) → Contains (marked_from k marks) n → (i : ℕ) × (n ≡ k + i) × IsMarked marks i
marked_place [] k n h = absurd (none_in n h)
marked_place (true ∷ marks) k n h = elim (contains_cases k n (marked_from (suc k) marks) h) [
  | inl e ↦ (0, omega (arith, e), refl)
  | inr c ↦ let r = marked_place marks (suc k) n c in (suc r.0, omega (arith, r.1), r.2)
]
marked_place (false ∷ marks) k n h = let r = marked_place marks (suc k) n h in (suc r.0, omega (arith, r.1), r.2)

pub is_marked : (marks : List Bool) (n : ℕ) → Contains (marked_from 0 marks) n → IsMarked marks n
is_marked marks n h = let r = marked_place marks 0 n h in subst (IsMarked marks) (let s : r.0 ≡ n = omega (arith, r.1) in s) r.2

-- a marked place stands after those before it
name_from : (marks : List Bool) (k n : ℕ) → IsMarked marks n → slice_get (marked_from k marks) (length (marked_from k (take n marks))) ≡ Some (k + n)
name_from [] k n m = absurd (let z : ⊥ = cc in z)
name_from (true ∷ marks) k zero m = let e : k ≡ k + 0 = omega arith in ap (λ i. Some i) e
name_from (false ∷ marks) k zero m = absurd (let z : ⊥ = cc in z)
name_from (true ∷ marks) k (suc n) m = let e : suc k + n ≡ k + suc n = omega arith in name_from marks (suc k) n m ∙ ap (λ i. Some i) e
name_from (false ∷ marks) k (suc n) m = let e : suc k + n ≡ k + suc n = omega arith in name_from marks (suc k) n m ∙ ap (λ i. Some i) e

pub marked_name : (marks : List Bool) (n : ℕ) → IsMarked marks n → slice_get (marked_from 0 marks) (length (marked_from 0 (take n marks))) ≡ Some n
marked_name marks n m = let e : 0 + n ≡ n = omega arith in name_from marks 0 n m ∙ ap (λ i. Some i) e

marked_least : (marks : List Bool) (k n : ℕ) → Contains (marked_from k marks) n → k ≤ n
marked_least marks k n h = let r = marked_place marks k n h in omega (arith, r.1)

pub marked_once : (marks : List Bool) (k : ℕ) → AllPairs (λ a b. a ≢ b) (marked_from k marks)
marked_once [] k = once_none
marked_once (true ∷ marks) k = once_more k (marked_from (suc k) marks) (λ y c e. omega (arith, marked_least marks (suc k) y c, e)) (marked_once marks (suc k))
marked_once (false ∷ marks) k = marked_once marks (suc k)

rising : (marks : List Bool) (k i : ℕ) → suc i < length (marked_from k marks) → slice_index (marked_from k marks) i < slice_index (marked_from k marks) (suc i)
rising [] k i h = absurd (let z : ⊥ = omega (arith, h) in z)
rising (true ∷ marks) k zero h = marked_least marks (suc k) (slice_index (marked_from (suc k) marks) 0) (Contains-get_or (marked_from (suc k) marks) 0 0 (omega (arith, h)))
rising (true ∷ marks) k (suc i) h = rising marks (suc k) i (omega (arith, h))
rising (false ∷ marks) k i h = rising marks (suc k) i h

pub marked_rising : (marks : List Bool) → IsStrictlyIncreasing (marked_from 0 marks)
marked_rising marks i h =
    let e : suc i ≡ i + 1 = omega arith in
    subst (λ j. slice_index (marked_from 0 marks) i < slice_index (marked_from 0 marks) j) e (rising marks 0 i (omega (arith, h)))

-- ---- marks one after another

marked_append : (marks : List Bool) (k : ℕ) (b : Bool) → marked_from k (marks ++ b ∷ []) ≡ marked_from k marks ++ marked_from (k + length marks) (b ∷ [])
marked_append [] k b = let e : k ≡ k + 0 = omega arith in ap (λ i. marked_from i (b ∷ [])) e
marked_append (true ∷ marks) k b =
    let e : suc k + length marks ≡ k + suc (length marks) = omega arith in
    ap (λ ns. k ∷ ns) (marked_append marks (suc k) b ∙ ap (λ i. marked_from (suc k) marks ++ marked_from i (b ∷ [])) e)
marked_append (false ∷ marks) k b =
    let e : suc k + length marks ≡ k + suc (length marks) = omega arith in
    marked_append marks (suc k) b ∙ ap (λ i. marked_from (suc k) marks ++ marked_from i (b ∷ [])) e

full_front : (marks : List Bool) (i : ℕ) → i ≤ length marks → length (take i marks) ≡ i
full_front marks zero h = refl
full_front [] (suc i) h = absurd (let z : ⊥ = omega (arith, h) in z)
full_front (m ∷ marks) (suc i) h = ap suc (full_front marks i (omega (arith, h)))

take_next : (marks : List Bool) (i : ℕ) (b : Bool) → i < length marks → slice_index_or marks i false ≡ b → (take (i + 1) marks ≡ take i marks ++ b ∷ []) × (length (take i marks) ≡ i)
take_next marks i b h e = (take_more marks i false h ∙ ap (λ c. take i marks ++ c ∷ []) e, full_front marks i (omega (arith, h)))

-- one more place, that of a mark or not
pub marked_next : (marks : List Bool) (i : ℕ) (b : Bool) → i < length marks → slice_index_or marks i false ≡ b → marked_from 0 (take (i + 1) marks) ≡ marked_from 0 (take i marks) ++ marked_from i (b ∷ [])
marked_next marks i b h e =
    let r = take_next marks i b h e in
    let s : 0 + length (take i marks) ≡ i = omega (arith, r.1) in
    ap (marked_from 0) r.0 ∙ marked_append (take i marks) 0 b ∙ ap (λ j. marked_from 0 (take i marks) ++ marked_from j (b ∷ [])) s

pub few_marked : (marks : List Bool) (k : ℕ) → length (marked_from k marks) ≤ length marks
few_marked [] k = omega arith
few_marked (true ∷ marks) k = omega (arith, few_marked marks (suc k))
few_marked (false ∷ marks) k = omega (arith, few_marked marks (suc k))

-- ---- parts of a list without a number twice

pub once_left : (xs ys : List ℕ) → AllPairs (λ a b. a ≢ b) (xs ++ ys) → AllPairs (λ a b. a ≢ b) xs
once_left [] ys p = once_none
once_left (x ∷ xs) ys p = once_more x xs (λ y c. once_head x (xs ++ ys) p y (Contains-append_left xs ys y c)) (once_left xs ys (once_tail x (xs ++ ys) p))

pub once_right : (xs ys : List ℕ) → AllPairs (λ a b. a ≢ b) (xs ++ ys) → AllPairs (λ a b. a ≢ b) ys
once_right [] ys p = p
once_right (x ∷ xs) ys p = once_right xs ys (once_tail x (xs ++ ys) p)

pub once_apart : (xs ys : List ℕ) (a : ℕ) → AllPairs (λ a b. a ≢ b) (xs ++ ys) → Contains xs a → Contains ys a → ⊥
once_apart [] ys a p c g = none_in a c
once_apart (x ∷ xs) ys a p c g = elim (contains_cases x a xs c) [
  | inl e ↦ once_head x (xs ++ ys) p a (Contains-append_right xs ys a g) e
  | inr h ↦ once_apart xs ys a (once_tail x (xs ++ ys) p) h g
]

-- ---- names

short_front : {A : Type 0} (i : ℕ) (xs : List A) → length (take i xs) ≤ i
short_front zero xs = omega arith
short_front (suc i) [] = omega arith
short_front (suc i) (x ∷ xs) = omega (arith, short_front i xs)

pub few_before : (marks : List Bool) (i : ℕ) → length (marked_from 0 (take i marks)) ≤ i
few_before marks i = omega (arith, few_marked (take i marks) 0, short_front i marks)

-- the names of the first nodes, each how many first nodes come before it
pub record NamesUpTo (firsts : List Bool) (i : ℕ) (names : List ℕ) (count : ℕ) : Type 0 where
  pub size : length names ≡ i
  pub counted : count ≡ length (marked_from 0 (take i firsts))
  pub each : (n : ℕ) → n < i → name_by names n ≡ length (marked_from 0 (take n firsts))

name_left : (xs ys : List ℕ) (i : ℕ) → i < length xs → name_by (xs ++ ys) i ≡ name_by xs i
name_left [] ys i h = absurd (let z : ⊥ = omega (arith, h) in z)
name_left (x ∷ xs) ys zero h = refl
name_left (x ∷ xs) ys (suc i) h = name_left xs ys i (omega (arith, h))

name_last : (xs : List ℕ) (x : ℕ) → name_by (xs ++ x ∷ []) (length xs) ≡ x
name_last [] x = refl
name_last (y ∷ xs) x = name_last xs x

count_more : (i : ℕ) (b : Bool) (count more : ℕ) → more ≡ cond b (count + 1) count → more ≡ count + length (marked_from i (b ∷ []))
count_more i true count more e = omega (arith, e)
count_more i false count more e = omega (arith, e)

pub names_none : (firsts : List Bool) (names : List ℕ) → names ≡ [] → NamesUpTo firsts 0 names 0
names_none firsts names e = record { size = ap length e; counted = refl; each = λ n h. absurd (let z : ⊥ = omega (arith, h) in z) }

pub names_more : (firsts : List Bool) (i : ℕ) (b : Bool) (names new : List ℕ) (count more : ℕ) → i < length firsts → slice_index_or firsts i false ≡ b → new ≡ names ++ count ∷ [] → more ≡ cond b (count + 1) count
    → NamesUpTo firsts i names count → NamesUpTo firsts (i + 1) new more
names_more firsts i b names new count more h e p s up =
    let marked = ap length (marked_next firsts i b h e) ∙ length-append (marked_from 0 (take i firsts)) (marked_from i (b ∷ [])) in
    record {
      size = omega (arith, ap length p, length-append names (count ∷ []), up.size);
      counted = omega (arith, marked, count_more i b count more s, up.counted);
      each = λ n l. elim (cases_lt n i) [
        | inl m ↦ ap (λ ns. name_by ns n) p ∙ name_left names (count ∷ []) n (omega (arith, m, up.size)) ∙ up.each n m
        | inr g ↦
            let t : n ≡ length names = omega (arith, g, l, up.size) in
            let u : i ≡ n = omega (arith, g, l) in
            ap (λ ns. name_by ns n) p ∙ ap (λ k. name_by (names ++ count ∷ []) k) t ∙ name_last names count ∙ up.counted ∙ ap (λ k. length (marked_from 0 (take k firsts))) u
      ];
    }
