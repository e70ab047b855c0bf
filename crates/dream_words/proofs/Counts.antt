-- How many numbers below a bound pass a test, counted over a list that has each of them once.
use Rattle.std.proofs.Common.{zero, suc, ◌≡◌, ◌≢◌, ℕ, ◌+◌, ◌<◌, ◌^◌, Bool, true, false, List, [], ◌∷◌, Option, Some, None, refl, sym, ap, ◌∙◌, subst, arith, cond, is_some, unwrap_or, eq-eqb}
use Rattle.std.specs.Prelude.{All, count_by, not, ◌==◌, ◌&&◌}
use Rattle.std.specs.Map.{keys_of}
use Rattle.std.specs.BTreeMap.{is_at}
use Rattle.std.specs.Cmp.{unsigned_tied, nat_cmp_total, eq_by_cmp_equiv}
use Rattle.std.specs.Ordering.{nat_cmp, eq_by_cmp}
use Rattle.std.specs.List.{IsDistinct}
use Rattle.std.specs.List.Sorted.{IsStrictlySortedBy}
use Rattle.std.proofs.lemmas.Bool.{ne_eqb, cases_eq}
use Rattle.std.proofs.Common.{⊎_elim}
use Rattle.std.proofs.Math.Dec.{eqb-zero-suc, eqb-suc-zero}
use Rattle.std.proofs.lemmas.List.Elements.{All-cons, All-tail, All-head}
use Rattle.std.proofs.lemmas.List.Sums.{sum_by-cons}
use Rattle.std.proofs.lemmas.Map.{lookup-none}
use Rattle.std.proofs.lemmas.Map.Entries.{none_past_head}
use Rattle.std.proofs.lemmas.Map.Keys.{IsDistinct-from_sorted, sorted_tail}
use Rattle.dream_words.specs.Memory.{byte_at, count_below, differences, seen}
use Rattle.dream_words.proofs.Seen.{entry_at, byte_at-seen}

-- ---- a loop that counts what is left of a list

module _ {A : Type 0} (p : A → Bool) where
  count_by-cons : (x : A) (xs : List A) → count_by p (x ∷ xs) ≡ cond (p x) 1 0 + count_by p xs
  count_by-cons x xs = sum_by-cons (λ y. cond (p y) 1 0) x xs

  -- the next element passes
  pub count_taken : (n total : ℕ) (x : A) (s t : List A) → s ≡ x ∷ t → p x ≡ true → n + count_by p s ≡ total → n + 1 + count_by p t ≡ total
  count_taken n total x s t e h c =
      let more : count_by p s ≡ 1 + count_by p t = ap (count_by p) e ∙ count_by-cons x t ∙ ap (λ b. cond b 1 0 + count_by p t) h in
      omega (arith, more, c)

  -- the next element doesn't pass
  pub count_passed : (n total : ℕ) (x : A) (s t : List A) → s ≡ x ∷ t → p x ≡ false → n + count_by p s ≡ total → n + count_by p t ≡ total
  count_passed n total x s t e h c =
      let more : count_by p s ≡ 0 + count_by p t = ap (count_by p) e ∙ count_by-cons x t ∙ ap (λ b. cond b 1 0 + count_by p t) h in
      omega (arith, more, c)

-- what follows where each element that is left passes
pub all_taken : {A B : Type 0} (P : A → Type 0) (x : A) (s t : List A) → s ≡ x ∷ t → P x → (All P s → B) → All P t → B
all_taken P x s t e h f a = f (subst (λ l. All P l) (sym e) (All-cons P x t h a))

-- ---- a count below a bound

abbrev bit : Bool → ℕ
bit b = cond b 1 0

count_below-none : (n : ℕ) (t : ℕ → Bool) → ((a : ℕ) → a < n → t a ≡ false) → count_below n t ≡ 0
unfolding count_below
count_below-none zero t h = refl
count_below-none (suc n) t h =
    let fewer : count_below n t ≡ 0 = count_below-none n t (λ a l. h a (omega (arith, l))) in
    let last : bit (t n) ≡ 0 = ap bit (h n (omega arith)) in
    omega (arith, fewer, last)

-- a test that one of two tests passes, and never both
count_below-split : (n : ℕ) (t u v : ℕ → Bool) → ((a : ℕ) → a < n → bit (t a) ≡ bit (u a) + bit (v a)) → count_below n t ≡ count_below n u + count_below n v
unfolding count_below
count_below-split zero t u v h = refl
count_below-split (suc n) t u v h =
    let fewer = count_below-split n t u v (λ a l. h a (omega (arith, l))) in
    omega (arith, fewer, h n (omega arith))

other_fails : (a k : ℕ) (b : Bool) → a ≢ k → ((a == k) && b) ≡ false
other_fails a k b h = ap (λ e. e && b) (ne_eqb a k h)

-- one number passes, where b holds
count_below-one : (n k : ℕ) (b : Bool) → k < n → count_below n (λ a. (a == k) && b) ≡ bit b
unfolding count_below
count_below-one zero k b h = absurd (omega (arith, h))
count_below-one (suc n) k b h =
    ⊎_elim
    (λ e.
    let fewer = count_below-none n (λ a. (a == k) && b) (λ a l. other_fails a k b (omega (arith, l, e))) in
    let last : bit ((n == k) && b) ≡ bit b = ap (λ t. bit (t && b)) (eq-eqb n k e) in
    omega (arith, fewer, last))
    (λ ne.
    let fewer = count_below-one n k b (omega (arith, h, ne)) in
    let last : bit ((n == k) && b) ≡ 0 = ap bit (other_fails n k b ne) in
    omega (arith, fewer, last))
    (cases_eq n k)

-- ---- a count over entries

-- the test of the value that there is
abbrev pub passes : Option ℕ → (ℕ → Bool) → Bool
passes None p = false
passes (Some v) p = p v

one_more_entry : (es : List (ℕ × ℕ)) (k v a : ℕ) (p : ℕ → ℕ → Bool) → IsDistinct (eq_by_cmp nat_cmp) (keys_of ((k, v) ∷ es)) → bit (passes (entry_at ((k, v) ∷ es) a) (p a)) ≡ bit ((a == k) && p k v) + bit (passes (entry_at es a) (p a))
one_more_entry es k v a p d =
    ⊎_elim
    (λ e.
    let here : is_at (nat_cmp a) k ≡ true = unsigned_tied a k ∙ eq-eqb a k e in
    let past : entry_at es a ≡ None = lookup-none (is_at (nat_cmp a)) es (none_past_head (eq_by_cmp_equiv nat_cmp_total) a (k, v) es d here) in
    let first : bit (passes (entry_at ((k, v) ∷ es) a) (p a)) ≡ bit (p a v) = ap (λ b. bit (passes (cond b (Some v) (entry_at es a)) (p a))) here in
    let second : bit ((a == k) && p k v) ≡ bit (p a v) = ap (λ b. bit (b && p k v)) (eq-eqb a k e) ∙ ap (λ q. bit (p q v)) (sym e) in
    let third : bit (passes (entry_at es a) (p a)) ≡ 0 = ap (λ o. bit (passes o (p a))) past in
    omega (arith, first, second, third))
    (λ ne.
    let off : is_at (nat_cmp a) k ≡ false = unsigned_tied a k ∙ ne_eqb a k ne in
    let first : bit (passes (entry_at ((k, v) ∷ es) a) (p a)) ≡ bit (passes (entry_at es a) (p a)) = ap (λ b. bit (passes (cond b (Some v) (entry_at es a)) (p a))) off in
    let second : bit ((a == k) && p k v) ≡ 0 = ap bit (other_fails a k (p k v) ne) in
    omega (arith, first, second))
    (cases_eq a k)

-- how many numbers below n have an entry that passes
pub count_below-entries : (n : ℕ) (es : List (ℕ × ℕ)) (p : ℕ → ℕ → Bool) → IsStrictlySortedBy nat_cmp (keys_of es) → All (λ e. e.0 < n) es → count_below n (λ a. passes (entry_at es a) (p a)) ≡ count_by (λ e. p e.0 e.1) es
count_below-entries n [] p s h = count_below-none n (λ a. false) (λ a l. refl)
count_below-entries n (e ∷ es) p s h =
    let split = count_below-split n (λ a. passes (entry_at (e ∷ es) a) (p a)) (λ a. (a == e.0) && p e.0 e.1) (λ a. passes (entry_at es a) (p a)) (λ a l. one_more_entry es e.0 e.1 a p (IsDistinct-from_sorted nat_cmp (keys_of (e ∷ es)) s)) in
    let one = count_below-one n e.0 (p e.0 e.1) (All-head (λ e. e.0 < n) e es h) in
    let rest = count_below-entries n es p (sorted_tail nat_cmp e.0 (keys_of es) s) (All-tail (λ e. e.0 < n) e es h) in
    let more = count_by-cons (λ e. p e.0 e.1) e es in
    omega (arith, split, one, rest, more)

-- ---- two trees

zero_turned : (v : ℕ) → (0 == v) ≡ (v == 0)
zero_turned zero = refl
zero_turned (suc v) = eqb-zero-suc v ∙ sym (eqb-suc-zero v)

-- A byte differs where the one tree keeps it and the other has it otherwise, or where only the other keeps it and it isn't 0.
bytes_differ : (o q : Option ℕ) (x y : ℕ) → x ≡ unwrap_or o 0 → y ≡ unwrap_or q 0 → bit (not (x == y)) ≡ bit (passes o (λ v. not (v == y))) + bit (passes q (λ v. not (is_some o) && not (v == 0)))
bytes_differ None None x y e f = rw (e, f) refl
bytes_differ None (Some v) x y e f = rw (e, f, zero_turned v) (omega arith)
bytes_differ (Some w) None x y e f = rw e (omega arith)
bytes_differ (Some w) (Some v) x y e f = rw e (omega arith)

pub differences-seen : (es fs : List (ℕ × ℕ)) → IsStrictlySortedBy nat_cmp (keys_of es) → IsStrictlySortedBy nat_cmp (keys_of fs) → All (λ e. e.0 < 2 ^ 32) es → All (λ e. e.0 < 2 ^ 32) fs → count_by (λ e. not (e.1 == byte_at (seen fs) e.0)) es + count_by (λ e. not (is_some (entry_at es e.0)) && not (e.1 == 0)) fs ≡ differences (seen es) (seen fs)
differences-seen es fs s t h k =
    let split = count_below-split (2 ^ 32) (λ a. not (byte_at (seen es) a == byte_at (seen fs) a)) (λ a. passes (entry_at es a) (λ v. not (v == byte_at (seen fs) a))) (λ a. passes (entry_at fs a) (λ v. not (is_some (entry_at es a)) && not (v == 0))) (λ a l. bytes_differ (entry_at es a) (entry_at fs a) (byte_at (seen es) a) (byte_at (seen fs) a) (byte_at-seen es a) (byte_at-seen fs a)) in
    let one = count_below-entries (2 ^ 32) es (λ a v. not (v == byte_at (seen fs) a)) s h in
    let other = count_below-entries (2 ^ 32) fs (λ a v. not (is_some (entry_at es a)) && not (v == 0)) t k in
    sym (split ∙ omega (arith, one, other))

-- ---- the tests of the loops, as they stand there

pub is_other : (v b w : ℕ) → b ≡ w → (v ≡ b → ⊥) → not (v == w) ≡ true
is_other v b w e h = rw (← e) (ap not (ne_eqb v b h))

pub is_added : (v : ℕ) (b d : Bool) → b ≡ d → b ≡ false → (v ≡ 0 → ⊥) → (not d && not (v == 0)) ≡ true
is_added v b d e f h = ap (λ t. not t && not (v == 0)) (sym e ∙ f) ∙ ap not (ne_eqb v 0 h)

-- it is kept there too
pub not_alone : (v : ℕ) (b d : Bool) → b ≡ d → b ≡ true → (not d && not (v == 0)) ≡ false
not_alone v b d e f = ap (λ t. not t && not (v == 0)) (sym e ∙ f)

-- it is 0
pub not_set : (v : ℕ) (d : Bool) → v ≡ 0 → (not d && not (v == 0)) ≡ false
not_set v true h = refl
not_set v false h = ap not (eq-eqb v 0 h)
