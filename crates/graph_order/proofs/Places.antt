-- Elements at places, in lists one after another.
use Rattle.std.proofs.Common.{◌≡◌, ℕ, zero, suc, ◌+◌, ◌-◌, ◌<◌, ◌∙◌, ◌⊎◌, inl, inr, ⊎_elim, sym, ap, subst, refl, arith, List, [], ◌∷◌, ◌++◌, length, Some, map, reverse, get_or}
use Rattle.std.specs.Prelude.{Contains}
use Rattle.std.specs.Option.{option_map}
use Rattle.std.proofs.lemmas.Option.{none-some, same_Some, slice_get-map, slice_get-get_or, slice_get_within, get_or_from_slice_get}
use Rattle.std.proofs.lemmas.List.{length-reverse, get_or-reverse}
use Rattle.std.proofs.lemmas.List.Elements.{Contains-append_right}
use Rattle.graph_order.specs.Finish.{IsAt}

module _ {X : Type 0} where
  pub at_inside : (xs : List X) (i : ℕ) (x : X) → IsAt xs i x → i < length xs
  at_inside xs i x e = slice_get_within xs i x e

  pub at_left : (xs ys : List X) (i : ℕ) (x : X) → IsAt xs i x → IsAt (xs ++ ys) i x
  at_left [] ys i x e = absurd (none-some x e)
  at_left (y ∷ xs) ys zero x e = e
  at_left (y ∷ xs) ys (suc i) x e = at_left xs ys i x e

  pub at_right : (xs ys : List X) (i : ℕ) (x : X) (k : ℕ) → k ≡ length xs + i → IsAt ys i x → IsAt (xs ++ ys) k x
  at_right [] ys i x k q e = (let p : i ≡ k = omega (arith, q) in subst (λ n. IsAt ys n x) p e)
  at_right (y ∷ xs) ys i x zero q e = absurd (omega (arith, q))
  at_right (y ∷ xs) ys i x (suc k) q e = at_right xs ys i x k (omega (arith, q)) e

  pub at_cases : (xs ys : List X) (k : ℕ) (x : X) → IsAt (xs ++ ys) k x → IsAt xs k x ⊎ ((i : ℕ) × (k ≡ length xs + i) × IsAt ys i x)
  at_cases [] ys k x e = inr (k, omega arith, e)
  at_cases (y ∷ xs) ys zero x e = inl e
  at_cases (y ∷ xs) ys (suc k) x e = ⊎_elim inl (λ p. inr (p.0, omega (arith, p.1), p.2)) (at_cases xs ys k x e)

  pub at_only : (y x : X) (i : ℕ) → IsAt (y ∷ []) i x → (i ≡ 0) × (y ≡ x)
  at_only y x zero e = (refl, same_Some y x e)
  at_only y x (suc i) e = absurd (none-some x e)

  -- the last element, and those before it
  pub at_pop : (xs : List X) (y x : X) (k : ℕ) → IsAt (xs ++ y ∷ []) k x → IsAt xs k x ⊎ ((k ≡ length xs) × (y ≡ x))
  at_pop xs y x k e = ⊎_elim inl (λ p. let o = at_only y x p.0 p.2 in inr (omega (arith, p.1, o.0), o.1)) (at_cases xs (y ∷ []) k x e)

  pub at_top : (xs : List X) (y : X) → IsAt (xs ++ y ∷ []) (length xs) y
  at_top xs y = at_right xs (y ∷ []) zero y (length xs) (omega arith) refl

  pub at_none : (xs : List X) (i : ℕ) (x : X) → length xs ≡ 0 → IsAt xs i x → ⊥
  at_none xs i x e a = (let l = at_inside xs i x a in omega (arith, l, e))

  -- what stands in a list of images
  pub at_map : (f : ℕ → X) (ns : List ℕ) (i : ℕ) (x : X) → IsAt (map f ns) i x → (n : ℕ) × Contains ns n × (x ≡ f n)
  at_map f [] i x e = absurd (none-some x e)
  at_map f (m ∷ ns) zero x e = (m, (zero, omega arith, refl), sym (same_Some (f m) x e))
  at_map f (m ∷ ns) (suc i) x e = (let p = at_map f ns i x e in (p.0, Contains-append_right (m ∷ []) ns p.0 p.1, p.2))

  pub map_at : (f : ℕ → X) (ns : List ℕ) (n : ℕ) → Contains ns n → (i : ℕ) × IsAt (map f ns) i (f n)
  map_at f ns n (k, h, q) = (k, slice_get-map f ns k ∙ ap (option_map f) (slice_get-get_or ns k n h ∙ ap Some q))

-- where an element stands, and that what stands somewhere is one
pub place_of : (xs : List ℕ) (n : ℕ) → Contains xs n → (i : ℕ) × IsAt xs i n
place_of xs n (i, h, q) = (i, slice_get-get_or xs i n h ∙ ap Some q)

pub at_Contains : (xs : List ℕ) (i n : ℕ) → IsAt xs i n → Contains xs n
at_Contains xs i n a = (i, at_inside xs i n a, get_or_from_slice_get xs i n n a)

-- the same place from the other end
pub at_reverse : (xs : List ℕ) (i n : ℕ) → IsAt (reverse xs) i n → (j : ℕ) × (i + j + 1 ≡ length xs) × IsAt xs j n
at_reverse xs i n a =
    let h : i < length xs = (let l = at_inside (reverse xs) i n a in omega (arith, l, length-reverse xs)) in
    let j = length xs - 1 - i in
    let same : get_or xs j n ≡ n = sym (get_or-reverse xs i n h) ∙ get_or_from_slice_get (reverse xs) i n n a in
    (j, omega (arith, h), slice_get-get_or xs j n (omega (arith, h)) ∙ ap Some same)
