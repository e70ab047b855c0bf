-- Where a number stands among ascending ones, and what comes of putting it there.
use Rattle.std.proofs.Common.{◌≡◌, ℕ, zero, suc, ◌+◌, ◌<◌, ◌≤◌, nat_eq, nat_lt, true, false, if◌then◌else◌, List, [], ◌∷◌, length, refl, sym, ap, ◌∙◌, arith}
use Rattle.std.specs.Prelude.{slice_index, insert}
use Rattle.std.specs.List.Sorted.{IsStrictlyIncreasing}
use Rattle.std.proofs.lemmas.Bool.Decides.{nat_tests}
use Rattle.guarded.specs.Numbers.{with_number}
use Rattle.c_emit.specs.Emitted.{below}
use Rattle.c_emit.specs.Places.{IsPlace}

-- tests of numbers
less : (n k : ℕ) → n < k → nat_lt n k ≡ true
less n k h = grind (arith, nat_tests)

not_less : (n k : ℕ) → k ≤ n → nat_lt n k ≡ false
not_less n k h = grind (arith, nat_tests)

same : (n k : ℕ) → n ≡ k → nat_eq n k ≡ true
same n k h = grind (arith, nat_tests)

not_same : (n k : ℕ) → (n ≡ k → ⊥) → nat_eq n k ≡ false
not_same n k h = grind (arith, nat_tests)

-- each of ascending numbers is at least its place
at_least : (ks : List ℕ) → IsStrictlyIncreasing ks → (j : ℕ) → j < length ks → j ≤ slice_index ks j
at_least ks h zero l = omega arith
at_least ks h (suc j) l =
    let a = at_least ks h j (omega arith) in
    let b = h j (omega arith) in
    let e : j + 1 ≡ suc j = omega arith in
    omega (arith, ap (λ i. slice_index ks i) e)

-- a place is at most the number
pub place_below : (ks : List ℕ) (n i : ℕ) → IsStrictlyIncreasing ks → IsPlace ks n i → i ≤ n
place_below ks n zero h p = omega arith
place_below ks n (suc i) h p =
    let w = p.within in
    let a = at_least ks h i (omega arith) in
    let b = p.before i (omega arith) in
    omega arith

-- the place in the rest
place_rest : (k : ℕ) (ks : List ℕ) (n i : ℕ) → IsPlace (k ∷ ks) n (suc i) → IsPlace ks n i
place_rest k ks n i p = record {
  within = let w = p.within in omega arith;
  before = λ j h. p.before (suc j) (omega arith);
  after = λ j h l. p.after (suc j) (omega arith) (omega arith);
}

place_on : (k : ℕ) (ks : List ℕ) (n : ℕ) → IsPlace (k ∷ ks) n 0 → IsPlace ks n 0
place_on k ks n p = record {
  within = omega arith;
  before = λ j h. absurd (omega arith);
  after = λ j h l. p.after (suc j) (omega arith) (omega arith);
}

-- as many numbers are below it
pub below_is : (ks : List ℕ) (n i : ℕ) → IsPlace ks n i → below ks n ≡ i
below_is [] n i p = let w = p.within in omega arith
below_is (k ∷ ks) n zero p =
    ap (λ b. if b then below ks n + 1 else below ks n) (not_less k n (p.after 0 (omega arith) (omega arith))) ∙ below_is ks n 0 (place_on k ks n p)
below_is (k ∷ ks) n (suc i) p =
    let e = below_is ks n i (place_rest k ks n i p) in
    ap (λ b. if b then below ks n + 1 else below ks n) (less k n (p.before 0 (omega arith))) ∙ (let r : below ks n + 1 ≡ suc i = omega arith in r)

-- a number that stands there isn't put
pub put_same : (ks : List ℕ) (n i : ℕ) → IsPlace ks n i → i < length ks → slice_index ks i ≡ n → with_number ks n ≡ ks
put_same [] n i p l e = absurd (omega arith)
put_same (k ∷ ks) n zero p l e =
    ap (λ b. if b then n ∷ k ∷ ks else (if nat_eq n k then k ∷ ks else k ∷ with_number ks n)) (not_less n k (omega arith))
    ∙ ap (λ b. if b then k ∷ ks else k ∷ with_number ks n) (same n k (sym e))
put_same (k ∷ ks) n (suc i) p l e =
    let b = p.before 0 (omega arith) in
    ap (λ b. if b then n ∷ k ∷ ks else (if nat_eq n k then k ∷ ks else k ∷ with_number ks n)) (not_less n k (omega arith))
    ∙ ap (λ b. if b then k ∷ ks else k ∷ with_number ks n) (not_same n k (λ g. omega arith))
    ∙ ap (λ xs. k ∷ xs) (put_same ks n i (place_rest k ks n i p) (omega arith) e)

-- any other is put at its place
pub put_new : (ks : List ℕ) (n i : ℕ) → IsPlace ks n i → (i < length ks → slice_index ks i ≡ n → ⊥) → with_number ks n ≡ insert ks i n
put_new [] n zero p d = refl
put_new [] n (suc i) p d = absurd (let w = p.within in omega arith)
put_new (k ∷ ks) n zero p d =
    let a = p.after 0 (omega arith) (omega arith) in
    let other : (k ≡ n) → ⊥ = d (omega arith) in
    ap (λ b. if b then n ∷ k ∷ ks else (if nat_eq n k then k ∷ ks else k ∷ with_number ks n)) (less n k (omega arith))
put_new (k ∷ ks) n (suc i) p d =
    let b = p.before 0 (omega arith) in
    ap (λ b. if b then n ∷ k ∷ ks else (if nat_eq n k then k ∷ ks else k ∷ with_number ks n)) (not_less n k (omega arith))
    ∙ ap (λ b. if b then k ∷ ks else k ∷ with_number ks n) (not_same n k (λ g. omega arith))
    ∙ ap (λ xs. k ∷ xs) (put_new ks n i (place_rest k ks n i p) (λ l. d (omega arith)))

-- ---- they ascend still

rest_rises : (k : ℕ) (ks : List ℕ) → IsStrictlyIncreasing (k ∷ ks) → IsStrictlyIncreasing ks
rest_rises k ks h j l =
    let e : suc j + 1 ≡ suc (j + 1) = omega arith in
    let a = h (suc j) (omega arith) in
    omega (arith, ap (λ i. slice_index (k ∷ ks) i) e)

with_first : (k : ℕ) (ks : List ℕ) → (0 < length ks → k < slice_index ks 0) → IsStrictlyIncreasing ks → (j : ℕ) → j + 1 < length (k ∷ ks) → slice_index (k ∷ ks) j < slice_index (k ∷ ks) (j + 1)
with_first k ks a h zero l = a (omega arith)
with_first k ks a h (suc j) l =
    let e : suc j + 1 ≡ suc (j + 1) = omega arith in
    let b = h j (omega arith) in
    omega (arith, ap (λ i. slice_index (k ∷ ks) i) e)

first_below : (k : ℕ) (ks : List ℕ) (n i : ℕ) → k < n → (0 < length ks → k < slice_index ks 0) → i ≤ length ks → k < slice_index (insert ks i n) 0
first_below k ks n zero b a w = b
first_below k [] n (suc i) b a w = absurd (omega arith)
first_below k (j ∷ js) n (suc i) b a w = a (omega arith)

pub put_rises : (ks : List ℕ) (n i : ℕ) → IsStrictlyIncreasing ks → IsPlace ks n i → (i < length ks → slice_index ks i ≡ n → ⊥) → IsStrictlyIncreasing (insert ks i n)
put_rises ks n zero h p d = with_first n ks (λ l. let a = p.after 0 (omega arith) l in let o = d l in omega arith) h
put_rises [] n (suc i) h p d = absurd (let w = p.within in omega arith)
put_rises (k ∷ ks) n (suc i) h p d =
    with_first k (insert ks i n)
    (λ l. first_below k ks n i (p.before 0 (omega arith)) (λ m. h 0 (omega arith)) (let w = p.within in omega arith))
    (put_rises ks n i (rest_rises k ks h) (place_rest k ks n i p) (λ l. d (omega arith)))
