-- Lists of addresses that grow by those that aren't there yet, and the numbers of their members.
use Rattle.std.proofs.Common.{◌≡◌, ℕ, zero, suc, ◌+◌, ◌<◌, ◌≤◌, ◌⊎◌, inl, inr, Bool, true, false, not, cond, ◌||◌, nat_eq, if◌then◌else◌, List, [], ◌∷◌, ◌++◌, length, take, get_or, fold, map, refl, sym, ap, ◌∙◌, subst, arith, append_assoc, append-nil, add-one, length-append}
use Rattle.std.specs.List.{list_any, range_with_len, IsDistinct}
use Rattle.std.proofs.Math.Seq.{take-suc}
use Rattle.std.proofs.lemmas.Bool.{both_ways, cases_eq, eq-eqb, ne_eqb}
use Rattle.std.proofs.lemmas.Cmp.{nat_eq_equiv}
use Rattle.std.proofs.lemmas.List.{map-append}
use Rattle.std.proofs.lemmas.List.Folds.{list_any-append}
use Rattle.std.proofs.lemmas.List.Sums.{fold-append}
use Rattle.std.proofs.lemmas.List.FromFn.{length-range_with_len}
use Rattle.std.proofs.lemmas.Map.Keys.{IsDistinct-push}
use Rattle.std.proofs.lemmas.Map.Made.{length-le_from_is_member}
use Rattle.flow_graph.specs.Discovery.{with_new, firsts, number_in}

-- ---- membership, by the test

abbrev pub Has : List ℕ → ℕ → Type 0
Has ks a = list_any (nat_eq a) ks ≡ true

same_self : (a : ℕ) → nat_eq a a ≡ true
same_self a = eq-eqb a a refl

pub has_left : (xs ys : List ℕ) (a : ℕ) → Has xs a → Has (xs ++ ys) a
has_left xs ys a h = list_any-append (nat_eq a) xs ys ∙ ap (λ b. b || list_any (nat_eq a) ys) h

pub has_right : (xs ys : List ℕ) (a : ℕ) → Has ys a → Has (xs ++ ys) a
has_right xs ys a h = list_any-append (nat_eq a) xs ys ∙ ap (λ b. list_any (nat_eq a) xs || b) h ∙ or_true (list_any (nat_eq a) xs)
  where
    or_true : (b : Bool) → (b || true) ≡ true
    or_true true = refl
    or_true false = refl

pub has_either : (xs ys : List ℕ) (a : ℕ) → Has (xs ++ ys) a → Has xs a ⊎ Has ys a
has_either xs ys a h = by (list_any (nat_eq a) xs) refl
  where
    by : (b : Bool) → list_any (nat_eq a) xs ≡ b → Has xs a ⊎ Has ys a
    by true e = inl e
    by false e = inr (ap (λ b. b || list_any (nat_eq a) ys) (sym e) ∙ sym (list_any-append (nat_eq a) xs ys) ∙ h)

pub has_one : (a : ℕ) → Has (a ∷ []) a
has_one a = ap (λ b. b || false) (same_self a)

pub only_one : (x a : ℕ) → Has (x ∷ []) a → a ≡ x
only_one x a h = elim (cases_eq a x) [
  | inl e ↦ e
  | inr ne ↦ absurd (both_ways (nat_eq a x || false) (ap (λ b. b || false) (ne_eqb a x ne)) h)
]

pub none_has : (a : ℕ) → Has [] a → ⊥
none_has a h = cc

-- ---- one more address

pub has_new : (ks : List ℕ) (a : ℕ) → Has (with_new ks a) a
has_new ks a = by (list_any (nat_eq a) ks) refl
  where
    by : (b : Bool) → list_any (nat_eq a) ks ≡ b → Has (if b then ks else ks ++ a ∷ []) a
    by true e = e
    by false e = has_right ks (a ∷ []) a (has_one a)

-- a list with more behind it
abbrev pub Grows : List ℕ → List ℕ → Type 0
Grows ks new = (more : List ℕ) × (new ≡ ks ++ more)

pub grows_new : (ks : List ℕ) (a : ℕ) → Grows ks (with_new ks a)
grows_new ks a = by (list_any (nat_eq a) ks)
  where
    by : (b : Bool) → Grows ks (if b then ks else ks ++ a ∷ [])
    by true = ([], sym (append-nil ks))
    by false = (a ∷ [], refl)

pub has_grown : (ks new : List ℕ) (a : ℕ) → Grows ks new → Has ks a → Has new a
has_grown ks new a g h = subst (λ l. Has l a) (sym g.1) (has_left ks g.0 a h)

new_or_old : (ks : List ℕ) (x a : ℕ) → Has (with_new ks x) a → Has ks a ⊎ (a ≡ x)
new_or_old ks x a h = by (list_any (nat_eq x) ks) h
  where
    by : (b : Bool) → Has (if b then ks else ks ++ x ∷ []) a → Has ks a ⊎ (a ≡ x)
    by true h = inl h
    by false h = elim (has_either ks (x ∷ []) a h) [
      | inl old ↦ inl old
      | inr new ↦ inr (only_one x a new)
    ]

distinct_new : (ks : List ℕ) (a : ℕ) → IsDistinct nat_eq ks → IsDistinct nat_eq (with_new ks a)
distinct_new ks a d = by (list_any (nat_eq a) ks) refl
  where
    by : (b : Bool) → list_any (nat_eq a) ks ≡ b → IsDistinct nat_eq (if b then ks else ks ++ a ∷ [])
    by true e = d
    by false e = IsDistinct-push nat_eq_equiv ks a d e

pub longer_by_one : (ks : List ℕ) (a : ℕ) → length (with_new ks a) ≤ length ks + 1
longer_by_one ks a = by (list_any (nat_eq a) ks)
  where
    by : (b : Bool) → length (if b then ks else ks ++ a ∷ []) ≤ length ks + 1
    by true = omega arith
    by false = omega (arith, length-append ks (a ∷ []))

-- ---- many more addresses

pub grows_all : (xs ks : List ℕ) → Grows ks (fold with_new ks xs)
grows_all [] ks = ([], sym (append-nil ks))
grows_all (x ∷ xs) ks =
    let p = grows_new ks x in
    let q = grows_all xs (with_new ks x) in
    (p.0 ++ q.0, q.1 ∙ ap (λ l. l ++ q.0) p.1 ∙ append_assoc ks p.0 q.0)

pub has_all : (xs ks : List ℕ) (a : ℕ) → Has xs a → Has (fold with_new ks xs) a
has_all [] ks a h = absurd (none_has a h)
has_all (x ∷ xs) ks a h = elim (has_either (x ∷ []) xs a h) [
  | inl here ↦ has_grown (with_new ks x) (fold with_new (with_new ks x) xs) a (grows_all xs (with_new ks x)) (subst (λ k. Has (with_new ks x) k) (sym (only_one x a here)) (has_new ks x))
  | inr later ↦ has_all xs (with_new ks x) a later
]

pub all_or_old : (xs ks : List ℕ) (a : ℕ) → Has (fold with_new ks xs) a → Has ks a ⊎ Has xs a
all_or_old [] ks a h = inl h
all_or_old (x ∷ xs) ks a h = elim (all_or_old xs (with_new ks x) a h) [
  | inl new ↦ elim (new_or_old ks x a new) [
    | inl old ↦ inl old
    | inr e ↦ inr (has_left (x ∷ []) xs a (subst (λ k. Has (x ∷ []) k) (sym e) (has_one x)))
  ]
  | inr later ↦ inr (has_right (x ∷ []) xs a later)
]

distinct_all : (xs ks : List ℕ) → IsDistinct nat_eq ks → IsDistinct nat_eq (fold with_new ks xs)
distinct_all [] ks d = d
distinct_all (x ∷ xs) ks d = distinct_all xs (with_new ks x) (distinct_new ks x d)

distinct_none : IsDistinct nat_eq []
unfolding IsDistinct
distinct_none = tt

pub distinct_firsts : (xs : List ℕ) → IsDistinct nat_eq (firsts xs)
distinct_firsts xs = distinct_all xs [] distinct_none

-- ---- how many addresses a range has

has_range : (e n q : ℕ) → e ≤ q → q < e + n → Has (range_with_len e n) q
has_range e zero q low high = absurd (omega (arith, low, high))
has_range e (suc n) q low high = elim (cases_eq q e) [
  | inl is ↦ has_left (e ∷ []) (range_with_len (e + 1) n) q (subst (λ k. Has (e ∷ []) k) (sym is) (has_one e))
  | inr ne ↦ has_right (e ∷ []) (range_with_len (e + 1) n) q (has_range (e + 1) n q (omega (arith, low, ne)) (omega (arith, high)))
]

-- different addresses among n in a row are at most n
pub few_in_row : (e n : ℕ) (ks : List ℕ) → IsDistinct nat_eq ks → ((a : ℕ) → Has ks a → (e ≤ a) × (a < e + n)) → length ks ≤ n
few_in_row e n ks d inside =
    let le : length ks ≤ length (range_with_len e n) = length-le_from_is_member nat_eq_equiv ks (range_with_len e n) d (λ q h. has_range e n q (inside q h).0 (inside q h).1) in
    omega (arith, le, length-range_with_len e n)

-- ---- the numbers of members

number_stays : (ks more : List ℕ) (a : ℕ) → Has ks a → number_in (ks ++ more) a ≡ number_in ks a
number_stays [] more a h = absurd (none_has a h)
number_stays (k ∷ ks) more a h = by (nat_eq a k) (number_stays ks more a) h
  where
    by : (b : Bool) → (Has ks a → number_in (ks ++ more) a ≡ number_in ks a) → (b || list_any (nat_eq a) ks) ≡ true
        → cond (not b) (1 + number_in (ks ++ more) a) 0 ≡ cond (not b) (1 + number_in ks a) 0
    by true rest h = refl
    by false rest h = ap (λ n. 1 + n) (rest h)

number_last : (ks : List ℕ) (a : ℕ) → number_in (ks ++ a ∷ []) a ≡ number_in ks a
number_last [] a = ap (λ b. cond (not b) 1 0) (same_self a)
number_last (k ∷ ks) a = by (nat_eq a k) (number_last ks a)
  where
    by : (b : Bool) → number_in (ks ++ a ∷ []) a ≡ number_in ks a → cond (not b) (1 + number_in (ks ++ a ∷ []) a) 0 ≡ cond (not b) (1 + number_in ks a) 0
    by true rest = refl
    by false rest = ap (λ n. 1 + n) rest

-- a new address has the number of those before it, and one that is there keeps its own
number_new : (ks : List ℕ) (a : ℕ) → number_in (with_new ks a) a ≡ number_in ks a
number_new ks a = by (list_any (nat_eq a) ks)
  where
    by : (b : Bool) → number_in (if b then ks else ks ++ a ∷ []) a ≡ number_in ks a
    by true = refl
    by false = number_last ks a

-- the numbers of members stay in a list that grows
pub numbers_stay : (xs ks new : List ℕ) → Grows ks new → ((a : ℕ) → Has xs a → Has ks a) → map (number_in new) xs ≡ map (number_in ks) xs
numbers_stay [] ks new g h = refl
numbers_stay (x ∷ xs) ks new g h =
    let head : number_in new x ≡ number_in ks x = ap (λ l. number_in l x) g.1 ∙ number_stays ks g.0 x (h x (has_left (x ∷ []) xs x (has_one x))) in
    let tail : map (number_in new) xs ≡ map (number_in ks) xs = numbers_stay xs ks new g (λ a m. h a (has_right (x ∷ []) xs a m)) in
    ap (λ n. n ∷ map (number_in new) xs) head ∙ ap (λ l. number_in ks x ∷ l) tail

-- ---- a loop that adds addresses and keeps their numbers

pub record AreNumbered (old xs keys numbers : List ℕ) (i : ℕ) : Type 0 where
  pub keys_are : keys ≡ fold with_new old xs
  pub numbers_are : numbers ≡ map (number_in keys) xs
  pub few : length keys ≤ length old + i

pub none_numbered : (old : List ℕ) → AreNumbered old [] old [] 0
none_numbered old = record { keys_are = refl; numbers_are = refl; few = omega arith }

pub one_more : (old all keys new numbers : List ℕ) (i x n : ℕ) → AreNumbered old (take i all) keys numbers i → i < length all → x ≡ get_or all i 0
    → new ≡ with_new keys x → n ≡ number_in keys x → AreNumbered old (take (i + 1) all) new (numbers ++ n ∷ []) (i + 1)
one_more old all keys new numbers i x n h lt at is num =
    let front : take (i + 1) all ≡ take i all ++ x ∷ [] = ap (λ k. take k all) (add-one i) ∙ take-suc all i 0 lt ∙ ap (λ k. take i all ++ k ∷ []) (sym at) in
    let grown : new ≡ fold with_new old (take i all ++ x ∷ []) = is ∙ ap (λ l. with_new l x) h.keys_are ∙ sym (fold-append with_new old (take i all) (x ∷ [])) in
    let grows : Grows keys new = subst (Grows keys) (sym is) (grows_new keys x) in
    let there : (a : ℕ) → Has (take i all) a → Has keys a = (λ a m. subst (λ l. Has l a) (sym h.keys_are) (has_all (take i all) old a m)) in
    let last : n ≡ number_in new x = num ∙ sym (number_new keys x) ∙ ap (λ l. number_in l x) (sym is) in
    let nums : numbers ++ n ∷ [] ≡ map (number_in new) (take i all ++ x ∷ []) =
    ap (λ l. l ++ n ∷ []) (h.numbers_are ∙ sym (numbers_stay (take i all) keys new grows there))
    ∙ ap (λ k. map (number_in new) (take i all) ++ k ∷ []) last ∙ sym (map-append (number_in new) (take i all) (x ∷ [])) in
    record {
      keys_are = grown ∙ ap (fold with_new old) (sym front);
      numbers_are = nums ∙ ap (map (number_in new)) (sym front);
      few = omega (arith, h.few, ap length is, longer_by_one keys x);
    }
