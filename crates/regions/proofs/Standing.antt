-- Whether a number stands in a list.
use Rattle.std.proofs.Common.{◌≡◌, ℕ, Bool, true, false, ◌||◌, nat_eq, nat_lt, nat_le, ◌<◌, ◌≤◌, if◌then◌else◌, List, [], ◌∷◌, ◌++◌, refl, ap, ◌∙◌, arith}
use Rattle.std.specs.List.{list_any}
use Rattle.std.proofs.lemmas.Bool.Decides.{nat_tests}
use Rattle.run_parts.specs.Parts.{has}

-- ---- tests of numbers

pub same_number : (n : ℕ) → nat_eq n n ≡ true
same_number n = grind (arith, nat_tests)

pub other_number : (x v : ℕ) → (x ≡ v → ⊥) → nat_eq x v ≡ false
other_number x v h = grind (arith, nat_tests)

pub number_is : (x v : ℕ) → nat_eq x v ≡ true → x ≡ v
number_is x v h = grind (arith, nat_tests)

pub lt_true : (n m : ℕ) → n < m → nat_lt n m ≡ true
lt_true n m h = grind (arith, nat_tests)

pub le_true : (n m : ℕ) → n ≤ m → nat_le n m ≡ true
le_true n m h = grind (arith, nat_tests)

pub lt_from : (n m : ℕ) → nat_lt n m ≡ true → n < m
lt_from n m h = grind (arith, nat_tests)

pub le_from : (n m : ℕ) → nat_le n m ≡ true → n ≤ m
le_from n m h = grind (arith, nat_tests)

-- ---- lists

either_way : (y x : ℕ) → nat_eq y x ≡ nat_eq x y
either_way y x = grind arith

first_or : (b c : Bool) (p q : Bool) → b ≡ c → p ≡ q → (b || p) ≡ (if c then true else q)
first_or b true p q e f = ap (λ x. x || p) e
first_or b false p q e f = ap (λ x. x || p) e ∙ f

pub any_has : (xs : List ℕ) (x : ℕ) → list_any (λ y. nat_eq y x) xs ≡ has xs x
any_has [] x = refl
any_has (y ∷ ys) x = first_or (nat_eq y x) (nat_eq x y) (list_any (λ z. nat_eq z x) ys) (has ys x) (either_way y x) (any_has ys x)

-- a number that stands in no list is none of its numbers
pub not_seen : (seen : List ℕ) (x v : ℕ) → has seen x ≡ false → has seen v ≡ true → nat_eq x v ≡ false
not_seen seen x v h g = other_number x v (λ (e : x ≡ v). let p : has seen x ≡ true = ap (has seen) e ∙ g in let z : ⊥ = cc in z)

-- another number at the end
pub has_more : (seen : List ℕ) (x v : ℕ) → has seen x ≡ false → nat_eq x v ≡ false → has (seen ++ v ∷ []) x ≡ false
has_more [] x v h e = ap (λ (b : Bool). if b then true else false) e
has_more (y ∷ ys) x v h e = step (nat_eq x y) (has ys x) (has (ys ++ v ∷ []) x) h (λ g. has_more ys x v g e)
  where
    step : (b p q : Bool) → (if b then true else p) ≡ false → (p ≡ false → q ≡ false) → (if b then true else q) ≡ false
    step true p q i k = i
    step false p q i k = k i

or_later : (b p q : Bool) → (p ≡ true → q ≡ true) → (if b then true else p) ≡ true → (if b then true else q) ≡ true
or_later true p q h g = refl
or_later false p q h g = h g

pub has_still : (seen : List ℕ) (x v : ℕ) → has seen x ≡ true → has (seen ++ v ∷ []) x ≡ true
has_still [] x v h = absurd (let z : ⊥ = cc in z)
has_still (y ∷ ys) x v h = or_later (nat_eq x y) (has ys x) (has (ys ++ v ∷ []) x) (has_still ys x v) h

or_true : (b p : Bool) → p ≡ true → (if b then true else p) ≡ true
or_true true p h = refl
or_true false p h = h

pub has_last : (seen : List ℕ) (v : ℕ) → has (seen ++ v ∷ []) v ≡ true
has_last [] v = ap (λ (b : Bool). if b then true else false) (same_number v)
has_last (y ∷ ys) v = or_true (nat_eq v y) (has (ys ++ v ∷ []) v) (has_last ys v)
