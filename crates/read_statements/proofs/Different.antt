-- The values of a switch: none stands twice, and while they are fewer than the words, one is left.
use Rattle.std.proofs.Common.{◌≡◌, ◌⊎◌, inl, inr, ℕ, zero, suc, ◌^◌, ◌<◌, ◌≤◌, Bool, true, false, not, ◌||◌, nat_eq, eqb, if◌then◌else◌, List, [], ◌∷◌, ◌++◌, length, refl, sym, ap, ◌∙◌, arith}
use Rattle.std.specs.List.{list_any, IsDistinct, AllByRecursion}
use Rattle.std.proofs.lemmas.Bool.{eqb-true, eq-eqb}
use Rattle.std.proofs.lemmas.List.{append_assoc}
use Rattle.std.proofs.lemmas.Map.Keys.{IsDistinct-cons}
use Rattle.std.proofs.lemmas.Map.Steps.{length-le_from_distinct_below, le-length_from_below}
use borrow.Author.Tests.{lt-ltb, ltb-true}
use Rattle.run_parts.specs.Parts.{has}
use Rattle.c_syntax.specs.declared.syntax.CGroup.{CGroup}
use Rattle.c_syntax.specs.Formed.{is_word, are_distinct, are_words, group_allowed}
use Rattle.read_words.specs.declared.open.Locals.{Locals}
use Rattle.read_words.specs.Turns.{scope}
use Rattle.read_words.proofs.Fitting.{both_true, two_true}
use Rattle.read_statements.specs.Rests.{values_of}

pub not_false : (b : Bool) → not b ≡ true → b ≡ false
not_false true h = absurd (let z : ⊥ = cc in z)
not_false false h = refl

pub not_true : (b : Bool) → b ≡ false → not b ≡ true
not_true true h = absurd (let z : ⊥ = cc in z)
not_true false h = refl

neither : (p q : Bool) → (p || q) ≡ false → (p ≡ false) × (q ≡ false)
neither true q h = absurd (let z : ⊥ = cc in z)
neither false q h = (refl, h)

none : (p q : Bool) → p ≡ false → q ≡ false → (p || q) ≡ false
none true q h k = absurd (let z : ⊥ = cc in z)
none false q h k = k

-- the first of two, and the other
first_no : (b p : Bool) → (if b then true else p) ≡ false → (b ≡ false) × (p ≡ false)
first_no true p h = absurd (let z : ⊥ = cc in z)
first_no false p h = (refl, h)

both_no : (b p : Bool) → b ≡ false → p ≡ false → (if b then true else p) ≡ false
both_no true p h k = absurd (let z : ⊥ = cc in z)
both_no false p h k = k

-- equality of numbers goes both ways
unequal : (a b : ℕ) → nat_eq a b ≡ false → nat_eq b a ≡ false
unequal a b h = tested (nat_eq b a) refl
  where
    tested : (q : Bool) → nat_eq b a ≡ q → q ≡ false
    tested true e = absurd (let f : nat_eq a b ≡ true = eq-eqb a b (sym (eqb-true b a e)) in cc)
    tested false e = refl

has_more : (xs ys : List ℕ) (v : ℕ) → has (xs ++ ys) v ≡ (has xs v || has ys v)
has_more [] ys v = refl
has_more (x ∷ xs) ys v = step (nat_eq v x) (has (xs ++ ys) v) (has xs v) (has ys v) (has_more xs ys v)
  where
    step : (b p q r : Bool) → p ≡ (q || r) → (if b then true else p) ≡ ((if b then true else q) || r)
    step true p q r e = refl
    step false p q r e = e

-- what is before has none twice
pub distinct_front : (xs ys : List ℕ) → are_distinct (xs ++ ys) ≡ true → are_distinct xs ≡ true
distinct_front [] ys h = refl
distinct_front (x ∷ xs) ys h =
    let p = both_true (not (has (xs ++ ys) x)) (are_distinct (xs ++ ys)) h in
    let n = neither (has xs x) (has ys x) (sym (has_more xs ys x) ∙ not_false (has (xs ++ ys) x) p.0) in
    two_true (not (has xs x)) (are_distinct xs) (not_true (has xs x) n.0) (distinct_front xs ys p.1)

-- one that comes later isn't among those before
pub distinct_fresh : (xs : List ℕ) (v : ℕ) (ys : List ℕ) → are_distinct (xs ++ v ∷ ys) ≡ true → has xs v ≡ false
distinct_fresh [] v ys h = refl
distinct_fresh (x ∷ xs) v ys h =
    let p = both_true (not (has (xs ++ v ∷ ys) x)) (are_distinct (xs ++ v ∷ ys)) h in
    let n = neither (has xs x) (has (v ∷ ys) x) (sym (has_more xs (v ∷ ys) x) ∙ not_false (has (xs ++ v ∷ ys) x) p.0) in
    let m = first_no (nat_eq x v) (has ys x) n.1 in
    both_no (nat_eq v x) (has xs v) (unequal x v m.0) (distinct_fresh xs v ys p.1)

-- one more that isn't among them
pub distinct_push : (xs : List ℕ) (v : ℕ) → are_distinct xs ≡ true → has xs v ≡ false → are_distinct (xs ++ v ∷ []) ≡ true
distinct_push [] v d h = refl
distinct_push (x ∷ xs) v d h =
    let p = both_true (not (has xs x)) (are_distinct xs) d in
    let n = first_no (nat_eq v x) (has xs v) h in
    let m : has (xs ++ v ∷ []) x ≡ false = has_more xs (v ∷ []) x ∙ none (has xs x) (has (v ∷ []) x) (not_false (has xs x) p.0) (both_no (nat_eq x v) false (unequal v x n.0) refl) in
    two_true (not (has (xs ++ v ∷ []) x)) (are_distinct (xs ++ v ∷ [])) (not_true (has (xs ++ v ∷ []) x) m) (distinct_push xs v p.1 n.1)

pub words_push : (xs : List ℕ) (v : ℕ) → are_words xs ≡ true → v < 2 ^ 32 → are_words (xs ++ v ∷ []) ≡ true
words_push [] v w h = two_true (is_word v) true (lt-ltb v (2 ^ 32) h) refl
words_push (x ∷ xs) v w h = let p = both_true (is_word x) (are_words xs) w in two_true (is_word x) (are_words (xs ++ v ∷ [])) p.0 (words_push xs v p.1 h)

pub words_back : (xs ys : List ℕ) → are_words (xs ++ ys) ≡ true → are_words ys ≡ true
words_back [] ys w = w
words_back (x ∷ xs) ys w = words_back xs ys (both_true (is_word x) (are_words (xs ++ ys)) w).1

-- the values of one more group
pub values_push : (l : Locals) (gs : List CGroup) (g : CGroup) → values_of l (gs ++ g ∷ []) ≡ values_of l gs ++ (group_allowed (scope l) g).0
values_push l [] g = nil_right ((group_allowed (scope l) g).0)
  where
    nil_right : (xs : List ℕ) → xs ++ [] ≡ xs
    nil_right [] = refl
    nil_right (x ∷ xs) = ap (λ q. x ∷ q) (nil_right xs)
values_push l (h ∷ gs) g =
    ap (λ q. (group_allowed (scope l) h).0 ++ q) (values_push l gs g) ∙ sym (append_assoc (group_allowed (scope l) h).0 (values_of l gs) (group_allowed (scope l) g).0)

-- ---- how many values there are

apart_all : (xs : List ℕ) (x : ℕ) → has xs x ≡ false → AllByRecursion (λ y. eqb x y ≡ false) xs
apart_all [] x h = tt
apart_all (y ∷ ys) x h = let p = first_no (eqb x y) (has ys x) h in (p.0, apart_all ys x p.1)

none_distinct : IsDistinct eqb []
unfolding IsDistinct
none_distinct = tt

all_distinct : (xs : List ℕ) → are_distinct xs ≡ true → IsDistinct eqb xs
all_distinct [] h = none_distinct
all_distinct (x ∷ xs) h =
    let p = both_true (not (has xs x)) (are_distinct xs) h in
    IsDistinct-cons eqb x xs (apart_all xs x (not_false (has xs x) p.0)) (all_distinct xs p.1)

pub any_is : (xs : List ℕ) (q : ℕ) → list_any (eqb q) xs ≡ has xs q
any_is [] q = refl
any_is (y ∷ ys) q = step (eqb q y) (list_any (eqb q) ys) (has ys q) (any_is ys q)
  where
    step : (b p r : Bool) → p ≡ r → (b || p) ≡ (if b then true else r)
    step true p r e = refl
    step false p r e = e

-- words are below their bound
words_below : (xs : List ℕ) → are_words xs ≡ true → (q : ℕ) → has xs q ≡ true → q < 2 ^ 32
words_below [] w q h = absurd (let z : ⊥ = cc in z)
words_below (x ∷ xs) w q h =
    let p = both_true (is_word x) (are_words xs) w in
    one (nat_eq q x) refl h (words_below xs p.1 q) (ltb-true x (2 ^ 32) p.0)
  where
    one : (b : Bool) → nat_eq q x ≡ b → (if b then true else has xs q) ≡ true → (has xs q ≡ true → q < 2 ^ 32) → x < 2 ^ 32 → q < 2 ^ 32
    one true e h more m = let g : q ≡ x = eqb-true q x e in omega arith
    one false e h more m = more h

few : (xs : List ℕ) → are_distinct xs ≡ true → are_words xs ≡ true → length xs ≤ 2 ^ 32
few xs d w = length-le_from_distinct_below xs (2 ^ 32) (all_distinct xs d) (λ q e. words_below xs w q (sym (any_is xs q) ∙ e))

-- where one more word isn't among them, they are fewer than the words
pub has_room_for : (xs : List ℕ) (v : ℕ) → are_distinct xs ≡ true → are_words xs ≡ true → has xs v ≡ false → v < 2 ^ 32 → length xs < 2 ^ 32
has_room_for xs v d w h p =
    let n : length (v ∷ xs) ≤ 2 ^ 32 = few (v ∷ xs) (two_true (not (has xs v)) (are_distinct xs) (not_true (has xs v) h) d) (two_true (is_word v) (are_words xs) (lt-ltb v (2 ^ 32) p) w) in
    omega arith

-- a number below n that isn't among them, unless all are
abbrev Free : List ℕ → ℕ → Type 0
Free xs n = (v : ℕ) × (v < n) × (has xs v ≡ false)

below_or : (xs : List ℕ) (n : ℕ) → ((q : ℕ) → q < n → has xs q ≡ true) ⊎ Free xs n
below_or xs zero = inl (λ q h. absurd (let z : ⊥ = omega arith in z))
below_or xs (suc n) = one (has xs n) refl (below_or xs n)
  where
    same : (q : ℕ) → q < suc n → ((q < n) ⊎ (q ≡ n))
    same q h = grind arith

    all_so : has xs n ≡ true → ((q : ℕ) → q < n → has xs q ≡ true) → (q : ℕ) → ((q < n) ⊎ (q ≡ n)) → has xs q ≡ true
    all_so e f q (inl h) = f q h
    all_so e f q (inr h) = ap (has xs) h ∙ e

    one : (b : Bool) → has xs n ≡ b → (((q : ℕ) → q < n → has xs q ≡ true) ⊎ Free xs n) → (((q : ℕ) → q < suc n → has xs q ≡ true) ⊎ Free xs (suc n))
    one true e (inl f) = inl (λ q h. all_so e f q (same q h))
    one true e (inr (v, p, h)) = inr (v, omega arith, h)
    one false e f = inr (n, omega arith, e)

-- where they are fewer than the words, a word isn't among them
pub free_word : (xs : List ℕ) → length xs < 2 ^ 32 → Free xs (2 ^ 32)
free_word xs h = found (below_or xs (2 ^ 32))
  where
    found : (((q : ℕ) → q < 2 ^ 32 → has xs q ≡ true) ⊎ Free xs (2 ^ 32)) → Free xs (2 ^ 32)
    found (inl f) = absurd (let n : 2 ^ 32 ≤ length xs = le-length_from_below xs (2 ^ 32) (λ q p. any_is xs q ∙ f q p) in omega arith)
    found (inr z) = z
