-- What a page shows after texts.
use Rattle.std.proofs.Common.{◌≡◌, ℕ, ◌+◌, ◌-◌, ◌^◌, zero, suc, ◌<◌, ◌≤◌, min, cond, List, [], ◌∷◌, ◌++◌, length, take, Some, None, refl, ap, sym, ◌∙◌, arith, length-append, append_assoc, append-nil}
use borrow.Author.Tests.{lt-ltb, le-ltb}
use Rattle.c_print.specs.Page.{Shown, with_byte, kept_with, puts}

-- two texts one after the other
pub puts-append : (s : Shown) (x y : List ℕ) → puts s (x ++ y) ≡ puts (puts s x) y
puts-append s [] y = refl
puts-append s (b ∷ x) y = puts-append (with_byte s b) x y

-- one text after another, where what the page showed between is named
pub then : (s t u : Shown) (x y : List ℕ) → t ≡ puts s x → u ≡ puts t y → u ≡ puts s (x ++ y)
then s t u x y e f = f ∙ ap (λ p. puts p y) e ∙ sym (puts-append s x y)

-- ---- the count, the room and the bytes

-- a page that only counts
pub puts-counting : (c r : ℕ) (x : List ℕ) → c < 2 ^ 64
    → puts (record { count = c; room = r; kept = None }) x ≡ record { count = min (c + length x) (2 ^ 64 - 1); room = r; kept = None }
unfolding with_byte
puts-counting c r [] h = ap (λ n. record { count = n; room = r; kept = None }) (omega arith)
puts-counting c r (b ∷ x) h =
    puts-counting (min (c + 1) (2 ^ 64 - 1)) r x (omega arith)
    ∙ ap (λ n. record { count = n; room = r; kept = None }) (omega arith)

-- a page that keeps these bytes
abbrev pub keeps : ℕ → ℕ → List ℕ → Shown
keeps c r k = record { count = c; room = r; kept = Some k }

-- its bytes with one more, where it is full and where it has room
full_keeps : (r b : ℕ) (k : List ℕ) → r ≡ length k + 0 → kept_with r b k ≡ k
full_keeps r b k e = ap (λ t. cond t (k ++ b ∷ []) k) (le-ltb (length k) r (omega (arith, e)))

room_keeps : (r b m : ℕ) (k : List ℕ) → r ≡ length k + suc m → kept_with r b k ≡ k ++ b ∷ []
room_keeps r b m k e = ap (λ t. cond t (k ++ b ∷ []) k) (lt-ltb (length k) r (omega (arith, e)))

-- counts of one byte and of the rest
count_more : (c n : ℕ) → min (min (c + 1) (2 ^ 64 - 1) + n) (2 ^ 64 - 1) ≡ min (c + suc n) (2 ^ 64 - 1)
count_more c n = omega arith

-- the room that is left after one byte
one_more : (r m b : ℕ) (k : List ℕ) → r ≡ length k + suc m → r ≡ length (k ++ b ∷ []) + m
one_more r m b k e = omega (arith, e, length-append k (b ∷ []))

-- a page that keeps bytes and has room for m more
pub puts-keeping : (c r m : ℕ) (k x : List ℕ) → c < 2 ^ 64 → r ≡ length k + m → puts (keeps c r k) x ≡ keeps (min (c + length x) (2 ^ 64 - 1)) r (k ++ take m x)
unfolding with_byte
puts-keeping c r zero k [] h e = ap (λ n. keeps n r k) (omega arith) ∙ ap (λ t. keeps (min (c + 0) (2 ^ 64 - 1)) r t) (sym (append-nil k))
puts-keeping c r (suc m) k [] h e = ap (λ n. keeps n r k) (omega arith) ∙ ap (λ t. keeps (min (c + 0) (2 ^ 64 - 1)) r t) (sym (append-nil k))
puts-keeping c r zero k (b ∷ x) h e =
    ap (λ t. puts (keeps (min (c + 1) (2 ^ 64 - 1)) r t) x) (full_keeps r b k e)
    ∙ puts-keeping (min (c + 1) (2 ^ 64 - 1)) r zero k x (omega arith) e
    ∙ ap (λ n. keeps n r (k ++ [])) (count_more c (length x))
puts-keeping c r (suc m) k (b ∷ x) h e =
    ap (λ t. puts (keeps (min (c + 1) (2 ^ 64 - 1)) r t) x) (room_keeps r b m k e)
    ∙ puts-keeping (min (c + 1) (2 ^ 64 - 1)) r m (k ++ b ∷ []) x (omega arith) (one_more r m b k e)
    ∙ ap (λ n. keeps n r ((k ++ b ∷ []) ++ take m x)) (count_more c (length x))
    ∙ ap (λ t. keeps (min (c + suc (length x)) (2 ^ 64 - 1)) r t) (append_assoc k (b ∷ []) (take m x))

-- a page after a text, by its parts: one that keeps bytes, and one that only counts
pub put_kept : (c n r : ℕ) (k l x : List ℕ) (s : Shown) → c < 2 ^ 64 → length k ≤ r → n ≡ min (c + length x) (2 ^ 64 - 1) → l ≡ k ++ take (r - length k) x → keeps c r k ≡ s
    → keeps n r l ≡ puts s x
put_kept c n r k l x s h w e f g =
    ap (λ m. keeps m r l) e ∙ ap (λ t. keeps (min (c + length x) (2 ^ 64 - 1)) r t) f ∙ sym (puts-keeping c r (r - length k) k x h (omega (arith, w))) ∙ ap (λ p. puts p x) g

pub put_counted : (c n r : ℕ) (x : List ℕ) (s : Shown) → c < 2 ^ 64 → n ≡ min (c + length x) (2 ^ 64 - 1) → record { count = c; room = r; kept = None } ≡ s
    → record { count = n; room = r; kept = None } ≡ puts s x
put_counted c n r x s h e g =
    ap (λ m. record { count = m; room = r; kept = None }) e ∙ sym (puts-counting c r x h) ∙ ap (λ p. puts p x) g
