-- The lists of nodes that the code has, seen as lists.
use Rattle.std.proofs.Common.{◌≡◌, ℕ, zero, suc, ◌<◌, ap, refl, arith, List, [], ◌∷◌, length, get_or, set, map}
use Rattle.std.specs.Prelude.{All, Contains, slice_index_or}

pub all_empty : {V : Type 0} (f : V → List ℕ) (vs : List V) → All (λ v. length (f v) ≡ 0) vs → (b a : ℕ) → Contains (slice_index_or (map f vs) b []) a → ⊥
all_empty f [] h b a c = omega (arith, c.1)
all_empty f (v ∷ vs) h zero a c = (let e = h zero v (omega arith) in omega (arith, e, c.1))
all_empty f (v ∷ vs) h (suc b) a c = all_empty f vs (λ i d l. h (suc i) d (omega (arith, l))) b a c

-- a list of the images, and the images after a change
pub at_image : {V : Type 0} (f : V → List ℕ) (vs : List V) (j : ℕ) (v : V) → j < length vs → v ≡ get_or vs j v → f v ≡ slice_index_or (map f vs) j []
at_image f [] j v h e = absurd (omega (arith, h))
at_image f (x ∷ vs) zero v h e = ap f e
at_image f (x ∷ vs) (suc j) v h e = at_image f vs j v (omega (arith, h)) e

pub map-set : {V : Type 0} (f : V → List ℕ) (vs : List V) (j : ℕ) (v : V) → map f (set vs j v) ≡ set (map f vs) j (f v)
map-set f [] j v = refl
map-set f (x ∷ vs) zero v = refl
map-set f (x ∷ vs) (suc j) v = ap (λ l. f x ∷ l) (map-set f vs j v)
