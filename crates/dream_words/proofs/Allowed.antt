-- What holds of the pages of an access, and of its first byte that isn't allowed.
use Rattle.std.proofs.Common.{◌≡◌, ◌<◌, ℕ, zero, suc, ◌+◌, ◌%◌, ◌/◌, ◌^◌, Bool, true, false, Option, Some, None, List, [], ◌∷◌, refl, sym, ap, ◌∙◌, subst, arith, if◌then◌else◌}
use Rattle.std.proofs.lemmas.Option.{none-some, same_Some}
use Rattle.dream_words.specs.declared.pages.PageRun.{PageRun}
use Rattle.dream_words.specs.Pages.{page_of, is_in_run, is_in, first_bad, every_page, IsFirstBad, FirstBadIsExact}

-- an address below 2^32 is on some page
in_all : (a : ℕ) → is_in (page_of (a % 2 ^ 32)) every_page ≡ true
in_all a = let h : a % 2 ^ 32 / 4096 < 2 ^ 20 = omega arith in grind (arith, h)

-- what is answered where the first byte is allowed, and where it isn't
pub step_on : (runs : List PageRun) (a k : ℕ) → is_in (page_of (a % 2 ^ 32)) runs ≡ true → first_bad runs a (suc k) ≡ first_bad runs (a + 1) k
unfolding first_bad
step_on runs a k e = rw e refl

pub step_off : (runs : List PageRun) (a k : ℕ) → is_in (page_of (a % 2 ^ 32)) runs ≡ false → first_bad runs a (suc k) ≡ Some (a % 2 ^ 32)
unfolding first_bad
step_off runs a k e = rw e refl

pub no_more : (runs : List PageRun) (a : ℕ) → first_bad runs a 0 ≡ None
unfolding first_bad
no_more runs a = refl

-- with all pages no byte is refused
pub none_bad : (a k : ℕ) → first_bad every_page a k ≡ None
none_bad a zero = no_more every_page a
none_bad a (suc k) = step_on every_page a k (in_all a) ∙ none_bad (a + 1) k

-- ---- which byte it is

-- the j-th of the bytes from an address on may be accessed
abbrev byte_allowed : List PageRun → ℕ → ℕ → Bool
byte_allowed runs at j = is_in (page_of ((at + j) % 2 ^ 32)) runs

module _ (runs : List PageRun) where
  -- bytes counted from the next address on
  shifted : (at j : ℕ) → byte_allowed runs (at + 1) j ≡ byte_allowed runs at (suc j)
  shifted at j = ap (λ n. is_in (page_of (n % 2 ^ 32)) runs) (let z : at + 1 + j ≡ at + suc j = omega arith in z)

  at_once : (at : ℕ) → byte_allowed runs at 0 ≡ is_in (page_of (at % 2 ^ 32)) runs
  at_once at = ap (λ n. is_in (page_of (n % 2 ^ 32)) runs) (let z : at + 0 ≡ at = omega arith in z)

  exact_none : (at k : ℕ) → first_bad runs at k ≡ None → (j : ℕ) → j < k → byte_allowed runs at j ≡ true
  exact_none at zero e j l = absurd (let z : ⊥ = omega (arith, l) in z)
  exact_none at (suc k) e j l = pick (is_in (page_of (at % 2 ^ 32)) runs) refl j l (exact_none (at + 1) k)
    where
      pick : (b : Bool) → is_in (page_of (at % 2 ^ 32)) runs ≡ b → (j : ℕ) → j < suc k → (first_bad runs (at + 1) k ≡ None → (i : ℕ) → i < k → byte_allowed runs (at + 1) i ≡ true) → byte_allowed runs at j ≡ true
      pick true h zero l rest = at_once at ∙ h
      pick true h (suc j) l rest = sym (shifted at j) ∙ rest (sym (step_on runs at k h) ∙ e) j (omega (arith, l))
      pick false h j l rest = absurd (none-some (at % 2 ^ 32) (sym e ∙ step_off runs at k h))

  exact_all : (at k : ℕ) → ((j : ℕ) → j < k → byte_allowed runs at j ≡ true) → first_bad runs at k ≡ None
  exact_all at zero h = no_more runs at
  exact_all at (suc k) h = step_on runs at k (sym (at_once at) ∙ h 0 (omega arith)) ∙ exact_all (at + 1) k (λ j l. shifted at j ∙ h (suc j) (omega (arith, l)))

  -- the bytes before the first one that isn't allowed, counted from the one before them on
  before_more : (at place : ℕ) → is_in (page_of (at % 2 ^ 32)) runs ≡ true → ((j : ℕ) → j < place → byte_allowed runs (at + 1) j ≡ true) → (j : ℕ) → j < suc place → byte_allowed runs at j ≡ true
  before_more at place h b zero l = at_once at ∙ h
  before_more at place h b (suc j) l = sym (shifted at j) ∙ b j (omega (arith, l))

  exact_some : (at k a : ℕ) → first_bad runs at k ≡ Some a → IsFirstBad runs at k a
  exact_some at zero a e = absurd (none-some a (sym (no_more runs at) ∙ e))
  exact_some at (suc k) a e = pick (is_in (page_of (at % 2 ^ 32)) runs) refl (exact_some (at + 1) k a)
    where
      later : is_in (page_of (at % 2 ^ 32)) runs ≡ true → IsFirstBad runs (at + 1) k a → IsFirstBad runs at (suc k) a
      later h r = record {
        place = suc r.place;
        inside = omega (arith, r.inside);
        address = r.address ∙ ap (λ n. n % 2 ^ 32) (let z : at + 1 + r.place ≡ at + suc r.place = omega arith in z);
        refused = r.refused;
        before = before_more at r.place h r.before;
      }

      here : is_in (page_of (at % 2 ^ 32)) runs ≡ false → at % 2 ^ 32 ≡ a → IsFirstBad runs at (suc k) a
      here h same = record {
        place = 0;
        inside = omega arith;
        address = sym same ∙ ap (λ n. n % 2 ^ 32) (let z : at ≡ at + 0 = omega arith in z);
        refused = ap (λ n. is_in (page_of n) runs) (sym same) ∙ h;
        before = λ j l. absurd (let z : ⊥ = omega (arith, l) in z);
      }

      pick : (b : Bool) → is_in (page_of (at % 2 ^ 32)) runs ≡ b → (first_bad runs (at + 1) k ≡ Some a → IsFirstBad runs (at + 1) k a) → IsFirstBad runs at (suc k) a
      pick true h rest = later h (rest (sym (step_on runs at k h) ∙ e))
      pick false h rest = here h (same_Some (at % 2 ^ 32) a (sym (step_off runs at k h) ∙ e))

pub exact : FirstBadIsExact
exact = record { some = exact_some; none = exact_none; all = exact_all }
