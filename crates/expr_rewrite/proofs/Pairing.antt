-- Lists that are related element by element grow by one element each.
use Rattle.std.proofs.Common.{◌≡◌, ℕ, ◌+◌, ◌<◌, ◌≤◌, List, [], ◌∷◌, ◌++◌, length, take, get_or, sym, ap, ◌∙◌, subst, arith}
use Rattle.std.proofs.lemmas.List.{take_more}
use Rattle.std.proofs.Math.Seq.{take-length}
use Rattle.expr_rewrite.specs.Pairs.{Pairs}

pub pairs_more : {A : Type 0} (r : A → A → Type 0) (xs ys : List A) (x y : A) → Pairs r xs ys → r x y → Pairs r (xs ++ x ∷ []) (ys ++ y ∷ [])
pairs_more r [] [] x y h k = (k, tt)
pairs_more r [] (b ∷ ys) x y h k = absurd h
pairs_more r (a ∷ xs) [] x y h k = absurd h
pairs_more r (a ∷ xs) (b ∷ ys) x y h k = (h.0, pairs_more r xs ys x y h.1 k)

-- what is made of the first elements, and of one more
pub pairs_step : {A : Type 0} (r : A → A → Type 0) (all : List A) (i : ℕ) (x y : A) (made : List A) → i < length all → x ≡ get_or all i x → Pairs r (take i all) made → r x y
    → Pairs r (take (i + 1) all) (made ++ y ∷ [])
pairs_step r all i x y made l e h k =
    subst (λ xs. Pairs r xs (made ++ y ∷ [])) (sym (take_more all i x l ∙ ap (λ z. take i all ++ z ∷ []) (sym e))) (pairs_more r (take i all) made x y h k)

-- what is made of all
pub pairs_all : {A : Type 0} (r : A → A → Type 0) (all : List A) (i : ℕ) (made : List A) → length all ≤ i → i ≤ length all → Pairs r (take i all) made → Pairs r all made
pairs_all r all i made a b h =
    let e : i ≡ length all = omega arith in
    subst (λ xs. Pairs r xs made) (ap (λ n. take n all) e ∙ take-length all) h
