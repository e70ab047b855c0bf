-- Bytes that are put one after another, and words as such bytes.
use Rattle.dream_words.specs.Memory.{Mem, with_byte, place}
use Rattle.std.proofs.Common.{zero, suc, ◌≡◌, ℕ, ◌+◌, ◌%◌, ◌^◌, ◌<◌, List, [], ◌∷◌, length, get_or, take, refl, arith, add-one, add-zero}

place-suc : (m : Mem) (a : ℕ) (vs : List ℕ) (i : ℕ) → i < length vs → place m a (take (suc i) vs) ≡ with_byte (place m a (take i vs)) ((a + i) % 2 ^ 32) (get_or vs i 0)
place-suc m a [] i h = absurd (omega (arith, h))
place-suc m a (v ∷ vs) zero h = rw add-zero refl
place-suc m a (v ∷ vs) (suc i) h =
    let e : a + suc i ≡ a + 1 + i = omega arith in
    rw e (place-suc (with_byte m (a % 2 ^ 32) v) (a + 1) vs i (omega (arith, h)))

-- one more byte of a list is put after the ones before it
pub place-more : (m : Mem) (a : ℕ) (vs : List ℕ) (i : ℕ) → i < length vs → place m a (take (i + 1) vs) ≡ with_byte (place m a (take i vs)) ((a + i) % 2 ^ 32) (get_or vs i 0)
place-more m a vs i h = rw add-one (place-suc m a vs i h)

-- the address after one that wrapped around
pub next_address : (a i at : ℕ) → at ≡ (a + i) % 2 ^ 32 → (at + 1) % 2 ^ 32 ≡ (a + (i + 1)) % 2 ^ 32
next_address a i at e = omega (arith, e)
