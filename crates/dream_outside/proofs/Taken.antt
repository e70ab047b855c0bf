-- What is left of a file after a front of it was taken.
use Rattle.std.proofs.Common.{◌≡◌, ◌<◌, ◌+◌, ℕ, List, [], ◌∷◌, ◌++◌, length, take, drop, min, refl, sym, ap, ◌∙◌, arith, add-zero, drop-drop}
use Rattle.std.proofs.lemmas.List.{take-append-drop}

-- the front that was taken, and then what is left
pub front_taken : (xs front : List ℕ) (at n : ℕ) → front ≡ take n (drop at xs) → drop at xs ≡ front ++ drop (at + n) xs
front_taken xs front at n e = rw e (sym (take-append-drop n (drop at xs)) ∙ ap (λ r. take n (drop at xs) ++ r) (drop-drop n at xs))

empty : (xs : List ℕ) → length xs ≡ 0 → xs ≡ []
empty [] e = refl
empty (x ∷ xs) e = absurd (omega (arith, e))

-- where nothing fits into a buffer that isn't empty, nothing is left
pub none_left : (xs : List ℕ) (at n room : ℕ) → n ≡ min room (length (drop at xs)) → n ≡ 0 → 0 < room → drop (at + n) xs ≡ []
none_left xs at n room e z some =
    let none : length (drop at xs) ≡ 0 = grind (arith, e, z, some) in
    rw z (rw add-zero (empty (drop at xs) none))
