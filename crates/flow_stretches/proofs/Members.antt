-- Elements of lists, by their places.
use Rattle.std.proofs.Common.{◌≡◌, ◌⊎◌, inl, inr, ℕ, zero, suc, true, nat_eq, List, [], ◌∷◌, map, Some, refl, ap, ◌∙◌, arith, rules}
use Rattle.std.specs.Prelude.{slice_get, Contains}
use Rattle.std.specs.Option.{option_map}
use Rattle.std.proofs.lemmas.Option.{slice_get_within, get_or_from_slice_get, slice_get-get_or, slice_get-map}
use Rattle.std.proofs.lemmas.List.Elements.{Contains-append_right, Contains-append_cases}

pub equal_of : (x a : ℕ) → nat_eq x a ≡ true → x ≡ a
equal_of x a e = search (rules, e)

pub itself : (a : ℕ) → nat_eq a a ≡ true
itself a = search rules

pub contains_got : {A : Type 0} (xs : List A) (j : ℕ) (x : A) → slice_get xs j ≡ Some x → Contains xs x
contains_got xs j x e = (j, slice_get_within xs j x e, get_or_from_slice_get xs j x x e)

pub got_of : {A : Type 0} (xs : List A) (x : A) → Contains xs x → (j : ℕ) × (slice_get xs j ≡ Some x)
got_of xs x h = (h.0, slice_get-get_or xs h.0 x h.1 ∙ ap (λ y. Some y) h.2)

pub contains_here : {A : Type 0} (x : A) (xs : List A) → Contains (x ∷ xs) x
contains_here x xs = contains_got (x ∷ xs) 0 x refl

pub contains_later : {A : Type 0} (x y : A) (xs : List A) → Contains xs y → Contains (x ∷ xs) y
contains_later x y xs h = Contains-append_right (x ∷ []) xs y h

one_of : {A : Type 0} (x y : A) (j : ℕ) → slice_get (x ∷ []) j ≡ Some y → x ≡ y
one_of x y zero e = cc
one_of x y (suc j) e = absurd (let z : ⊥ = cc in z)

pub contains_cases : {A : Type 0} (x y : A) (xs : List A) → Contains (x ∷ xs) y → (x ≡ y) ⊎ Contains xs y
contains_cases x y xs h = elim (Contains-append_cases (x ∷ []) xs y h) [
  | inl p ↦ let g = got_of (x ∷ []) y p in inl (one_of x y g.0 g.1)
  | inr p ↦ inr p
]

pub none_in : {A : Type 0} (x : A) → Contains [] x → ⊥
none_in x h = omega (arith, h.1)

-- a member of a mapped list is the image of one
pub mapped : {A B : Type 0} (f : A → B) (xs : List A) (y : B) → Contains (map f xs) y → (x : A) × Contains xs x × (f x ≡ y)
mapped f [] y h = absurd (none_in y h)
mapped f (x ∷ xs) y h = elim (contains_cases (f x) y (map f xs) h) [
  | inl e ↦ (x, contains_here x xs, e)
  | inr p ↦ let r = mapped f xs y p in (r.0, contains_later x r.0 xs r.1, r.2)
]

-- an element of a mapped list is the image of the one at its place
pub mapped_at : {A B : Type 0} (f : A → B) (xs : List A) (n : ℕ) (y : B) → slice_get (map f xs) n ≡ Some y → (x : A) × (slice_get xs n ≡ Some x) × (f x ≡ y)
mapped_at f [] n y e = absurd (let z : ⊥ = cc in z)
mapped_at f (x ∷ xs) zero y e = (x, refl, cc)
mapped_at f (x ∷ xs) (suc n) y e = mapped_at f xs n y e

pub at_mapped : {A B : Type 0} (f : A → B) (xs : List A) (n : ℕ) (x : A) → slice_get xs n ≡ Some x → slice_get (map f xs) n ≡ Some (f x)
at_mapped f xs n x e = slice_get-map f xs n ∙ ap (λ o. option_map f o) e
