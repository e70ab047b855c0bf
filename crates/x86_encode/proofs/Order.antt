-- The order of spellings, part by part.
use Rattle.std.proofs.Common.{◌≡◌, ℕ, suc, ◌<◌, List, [], ◌∷◌, ◌++◌, length, refl, ◌∙◌, inl, inr, arith, length-append}
use Rattle.x86_encode.specs.Least.{NoGreater, AtMost}

pub NoGreater-refl : (x : List ℕ) → NoGreater x x
NoGreater-refl [] = tt
NoGreater-refl (a ∷ x) = inr (refl, NoGreater-refl x)

pub AtMost-refl : (x : List ℕ) → AtMost x x
AtMost-refl x = inr (refl, NoGreater-refl x)

NoGreater-append : (x y a b : List ℕ) → length x ≡ length y → NoGreater x y → NoGreater a b → NoGreater (x ++ a) (y ++ b)
NoGreater-append [] [] a b e h k = k
NoGreater-append [] (d ∷ y) a b e h k = absurd (omega (arith, e))
NoGreater-append (c ∷ x) [] a b e h k = absurd h
NoGreater-append (c ∷ x) (d ∷ y) a b e h k =
    elim h [ inl lt ↦ inl lt | inr p ↦ inr (p.0, NoGreater-append x y a b (let s : suc (length x) ≡ suc (length y) = e in omega (arith, s)) p.1 k) ]

-- parts that are least make a whole that is least
pub AtMost-append : (x y a b : List ℕ) → AtMost x y → AtMost a b → AtMost (x ++ a) (y ++ b)
AtMost-append x y a b h k =
    elim h [
      | inl lt ↦ inl (elim k as (λ _. length (x ++ a) < length (y ++ b)) [
        | inl lt' ↦ omega (arith, length-append x a, length-append y b)
        | inr p ↦ omega (arith, length-append x a, length-append y b, p.0)
      ])
      | inr p ↦ elim k [
        | inl lt ↦ inl (omega (arith, length-append x a, length-append y b, p.0))
        | inr q ↦ inr (omega (arith, length-append x a, length-append y b, p.0, q.0), NoGreater-append x y a b p.0 p.1 q.1)
      ]
    ]

NoGreater-trans : (x y z : List ℕ) → NoGreater x y → NoGreater y z → NoGreater x z
NoGreater-trans [] y z h k = tt
NoGreater-trans (a ∷ x) [] z h k = absurd h
NoGreater-trans (a ∷ x) (b ∷ y) [] h k = absurd k
NoGreater-trans (a ∷ x) (b ∷ y) (c ∷ z) h k =
    elim h [
      | inl lt ↦ elim k [ inl lt' ↦ inl (omega arith) | inr q ↦ inl (omega (arith, q.0)) ]
      | inr p ↦ elim k [ inl lt' ↦ inl (omega (arith, p.0)) | inr q ↦ inr (p.0 ∙ q.0, NoGreater-trans x y z p.1 q.1) ]
    ]

pub AtMost-trans : (x y z : List ℕ) → AtMost x y → AtMost y z → AtMost x z
AtMost-trans x y z h k =
    elim h [
      | inl lt ↦ elim k [ inl lt' ↦ inl (omega arith) | inr q ↦ inl (omega (arith, q.0)) ]
      | inr p ↦ elim k [ inl lt' ↦ inl (omega (arith, p.0)) | inr q ↦ inr (p.0 ∙ q.0, NoGreater-trans x y z p.1 q.1) ]
    ]
