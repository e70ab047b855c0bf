-- What loops have put: what is put and what is left are the whole.
use Rattle.std.proofs.Common.{◌≡◌, ℕ, suc, ◌+◌, ◌*◌, ◌<◌, ◌≤◌, List, [], ◌∷◌, ◌++◌, length, map, get_or, drop, drop-cons, replicate, refl, ap, sym, ◌∙◌, arith, append_assoc}
use Rattle.std.specs.Prelude.{codes}
use Rattle.std.proofs.lemmas.List.{drop_all}
use Rattle.std.proofs.lemmas.Grind.{replicate_next}
use Rattle.c_syntax.specs.declared.syntax.CArm.{CArm}
use Rattle.c_syntax.specs.Spelling.{num_text}
use Rattle.c_syntax.specs.Text.{Text, Lines, all, more_arms, arms_text, arm_text, cases_text}
use Rattle.c_print.specs.Page.{Shown, puts}
use Rattle.c_print.proofs.Shows.{puts-append, then}

-- a list from a place on begins with what stands there
drop_here : {X : Type 0} (i : ℕ) (xs : List X) (d : X) → i < length xs → drop i xs ≡ get_or xs i d ∷ drop (i + 1) xs
drop_here i xs d l =
    let s : suc i ≡ i + 1 = omega arith in
    drop-cons xs i d l ∙ ap (λ k. get_or xs i d ∷ drop k xs) s

-- one element more is put
pub left_more : {X : Type 0} (whole : List X → Text) (one : X → Text) → ((x : X) (xs : List X) → whole (x ∷ xs) ≡ one x ++ whole xs)
    → (xs : List X) (i : ℕ) (d : X) (p q g : Shown) → i < length xs → q ≡ puts p (one (get_or xs i d)) → puts p (whole (drop i xs)) ≡ g → puts q (whole (drop (i + 1) xs)) ≡ g
left_more whole one step xs i d p q g l e inv =
    ap (λ s. puts s (whole (drop (i + 1) xs))) e ∙ sym (puts-append p (one (get_or xs i d)) (whole (drop (i + 1) xs))) ∙ ap (puts p) (sym (step (get_or xs i d) (drop (i + 1) xs)))
    ∙ ap (λ ys. puts p (whole ys)) (sym (drop_here i xs d l)) ∙ inv

-- all elements are put
pub left_none : {X : Type 0} (whole : List X → Text) → whole [] ≡ [] → (xs : List X) (i : ℕ) (p g : Shown) → length xs ≤ i → puts p (whole (drop i xs)) ≡ g → p ≡ g
left_none whole none xs i p g l inv = ap (puts p) (sym none) ∙ ap (λ ys. puts p (whole ys)) (sym (drop_all i xs l)) ∙ inv

-- texts at a level
pub all_more : {X : Type 0} (f : X → Lines) (level : ℕ) (xs : List X) (i : ℕ) (x : X) (p q g : Shown) → i < length xs → x ≡ get_or xs i x → q ≡ puts p (f x level)
    → puts p (all (map f (drop i xs)) level) ≡ g → puts q (all (map f (drop (i + 1) xs)) level) ≡ g
all_more f level xs i x p q g l h e = left_more (λ xs. all (map f xs) level) (λ x. f x level) (λ x xs. refl) xs i x p q g l (e ∙ ap (λ y. puts p (f y level)) h)

pub all_put : {X : Type 0} (f : X → Lines) (level : ℕ) (xs : List X) (i : ℕ) (p g : Shown) → length xs ≤ i → puts p (all (map f (drop i xs)) level) ≡ g → p ≡ g
all_put f level = left_none (λ xs. all (map f xs) level) refl

-- the values of a group
pub cases_more : (vs : List ℕ) (i : ℕ) (p s t q g : Shown) → i < length vs → s ≡ puts p (codes "case ") → t ≡ puts s (num_text (get_or vs i 0)) → q ≡ puts t (codes ": ")
    → puts p (cases_text (drop i vs)) ≡ g → puts q (cases_text (drop (i + 1) vs)) ≡ g
cases_more vs i p s t q g l e f h =
    let v = get_or vs i 0 in
    left_more cases_text (λ v. codes "case " ++ num_text v ++ codes ": ") (λ v vs. refl) vs i 0 p q g l
    (then p t q (codes "case " ++ num_text v) (codes ": ") (then p s t (codes "case ") (num_text v) e f) h)

pub cases_put : (vs : List ℕ) (i : ℕ) (p g : Shown) → length vs ≤ i → puts p (cases_text (drop i vs)) ≡ g → p ≡ g
cases_put = left_none cases_text refl

-- arms, and the sign before the first of them
abbrev pub arms_from : Text → List Lines → Lines
arms_from sign [] level = []
arms_from sign (a ∷ arms) level = sign ++ a level ++ more_arms arms level

from_first : (arms : List Lines) (level : ℕ) → arms_from [] arms level ≡ arms_text arms level
from_first [] level = refl
from_first (a ∷ arms) level = refl

from_later : (arms : List Lines) (level : ℕ) → arms_from (codes " else ") arms level ≡ more_arms arms level
from_later [] level = refl
from_later (a ∷ arms) level = refl

pub arms_begin : (arms : List CArm) (level : ℕ) (p : Shown) → puts p (arms_from [] (map arm_text arms) level) ≡ puts p (arms_text (map arm_text arms) level)
arms_begin arms level p = ap (puts p) (from_first (map arm_text arms) level)

pub arms_more : (sign : Text) (level : ℕ) (arms : List CArm) (i : ℕ) (a : CArm) (p s q g : Shown) → i < length arms → a ≡ get_or arms i a → s ≡ puts p sign → q ≡ puts s (arm_text a level)
    → puts p (arms_from sign (map arm_text (drop i arms)) level) ≡ g → puts q (arms_from (codes " else ") (map arm_text (drop (i + 1) arms)) level) ≡ g
arms_more sign level arms i a p s q g l h e f inv =
    ap (puts q) (from_later (map arm_text (drop (i + 1) arms)) level)
    ∙ ap (λ t. puts t (more_arms (map arm_text (drop (i + 1) arms)) level)) (then p s q sign (arm_text a level) e f)
    ∙ sym (puts-append p (sign ++ arm_text a level) (more_arms (map arm_text (drop (i + 1) arms)) level))
    ∙ ap (λ rest. puts p (arms_from sign (map arm_text rest) level)) (sym (drop_here i arms a l ∙ ap (λ b. b ∷ drop (i + 1) arms) (sym h))) ∙ inv

pub arms_put : (sign : Text) (level : ℕ) (arms : List CArm) (i : ℕ) (p g : Shown) → length arms ≤ i → puts p (arms_from sign (map arm_text (drop i arms)) level) ≡ g → p ≡ g
arms_put sign level = left_none (λ arms. arms_from sign (map arm_text arms) level) refl

-- blanks
pub blanks_more : (i : ℕ) → replicate {A = ℕ} (2 * (i + 1)) 32 ≡ replicate (2 * i) 32 ++ 32 ∷ 32 ∷ []
blanks_more i =
    let n : 2 * (i + 1) ≡ 2 * i + 1 + 1 = omega arith in
    ap (λ k. replicate {A = ℕ} k 32) n ∙ replicate_next {X = ℕ} (2 * i + 1) 32 ∙ ap (λ t. t ++ 32 ∷ []) (replicate_next {X = ℕ} (2 * i) 32) ∙ append_assoc (replicate {A = ℕ} (2 * i) 32) (32 ∷ []) (32 ∷ [])
