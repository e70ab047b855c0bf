-- What a memory has after bytes are set, and that memories with equal bytes read and change alike.
use Rattle.std.proofs.Common.{zero, suc, ◌≡◌, ℕ, ◌+◌, ◌*◌, ◌/◌, ◌%◌, ◌^◌, ◌<◌, Bool, true, false, List, [], ◌∷◌, Option, Some, unwrap_or, refl, sym, ap, ◌∙◌, cond, arith, lit<, pow-suc}
use Rattle.std.specs.Prelude.{nat_eq}
use Rattle.std.specs.Ordering.{nat_cmp, eq_by_cmp}
use Rattle.std.specs.Cmp.{unsigned_tied}
use Rattle.std.proofs.lemmas.Bool.{eq-eqb, ne_eqb}
use Rattle.std.proofs.lemmas.Nat.{mod_below}
use Rattle.dream_words.specs.Memory.{Mem, byte_at, with_byte, load, store, place, SameMemory}
use Rattle.dream_words.specs.Ranges.{AreBytes}
use Rattle.dream_words.proofs.Seen.{get-with_byte, without_zero}

byte_of_either : (b : Bool) (v : ℕ) (o : Option ℕ) → unwrap_or (cond b (without_zero (Some v)) o) 0 ≡ cond b v (unwrap_or o 0)
byte_of_either true zero o = refl
byte_of_either true (suc v) o = refl
byte_of_either false v o = refl

-- the byte at an address after one is set
pub byte_at-with_byte : (m : Mem) (k v q : ℕ) → byte_at (with_byte m k v) q ≡ cond (nat_eq q k) v (byte_at m q)
byte_at-with_byte m k v q =
    ap (λ (o : Option ℕ). unwrap_or o 0) (get-with_byte m k v q)
    ∙ byte_of_either (eq_by_cmp nat_cmp q k) v _
    ∙ ap (λ b. cond b v (byte_at m q)) (unsigned_tied q k)

-- the byte that was set
pub byte_at-with_byte_same : (m : Mem) (k v : ℕ) → byte_at (with_byte m k v) k ≡ v
byte_at-with_byte_same m k v = byte_at-with_byte m k v k ∙ ap (λ b. cond b v (byte_at m k)) (eq-eqb k k refl)

-- every other byte
pub byte_at-with_byte_other : (m : Mem) (k v q : ℕ) → (q ≡ k → ⊥) → byte_at (with_byte m k v) q ≡ byte_at m q
byte_at-with_byte_other m k v q h = byte_at-with_byte m k v q ∙ ap (λ b. cond b v (byte_at m q)) (ne_eqb q k h)

-- ---- memories with equal bytes

pub SameMemory_refl : (m : Mem) → SameMemory m m
SameMemory_refl m = λ a h. refl

pub SameMemory_sym : (m n : Mem) → SameMemory m n → SameMemory n m
SameMemory_sym m n p = λ a h. sym (p a h)

pub SameMemory_trans : (k m n : Mem) → SameMemory k m → SameMemory m n → SameMemory k n
SameMemory_trans k m n p q = λ a h. p a h ∙ q a h

pub SameMemory-with_byte : (m n : Mem) (k v : ℕ) → SameMemory m n → SameMemory (with_byte m k v) (with_byte n k v)
SameMemory-with_byte m n k v p =
    λ a h. byte_at-with_byte m k v a ∙ ap (cond (nat_eq a k) v) (p a h) ∙ sym (byte_at-with_byte n k v a)

pub SameMemory-store : (m n : Mem) (a k v : ℕ) → SameMemory m n → SameMemory (store m a k v) (store n a k v)
SameMemory-store m n a zero v p = p
SameMemory-store m n a (suc k) v p =
    SameMemory-store (with_byte m (a % 2 ^ 32) (v % 256)) (with_byte n (a % 2 ^ 32) (v % 256)) (a + 1) k (v / 256)
    (SameMemory-with_byte m n (a % 2 ^ 32) (v % 256) p)

pub SameMemory-place : (m n : Mem) (a : ℕ) (vs : List ℕ) → SameMemory m n → SameMemory (place m a vs) (place n a vs)
SameMemory-place m n a [] p = p
SameMemory-place m n a (v ∷ vs) p =
    SameMemory-place (with_byte m (a % 2 ^ 32) v) (with_byte n (a % 2 ^ 32) v) (a + 1) vs (SameMemory-with_byte m n (a % 2 ^ 32) v p)

pub load-SameMemory : (m n : Mem) (a k : ℕ) → SameMemory m n → load m a k ≡ load n a k
load-SameMemory m n a zero p = refl
load-SameMemory m n a (suc k) p =
    ap (λ b. b + 256 * load m (a + 1) k) (p (a % 2 ^ 32) (mod_below a (2 ^ 32) (lit< tt)))
    ∙ ap (λ w. byte_at n (a % 2 ^ 32) + 256 * w) (load-SameMemory m n (a + 1) k p)

-- ---- ranges

pub AreBytes-with_byte : (m : Mem) (k v : ℕ) → AreBytes m → v < 256 → AreBytes (with_byte m k v)
AreBytes-with_byte m k v h l =
    λ a. rw (byte_at-with_byte m k v a) (elim (nat_eq a k) as (λ b. cond b v (byte_at m a) < 256) [ true ↦ l | false ↦ h a ])

pub AreBytes-store : (m : Mem) (a k v : ℕ) → AreBytes m → AreBytes (store m a k v)
AreBytes-store m a zero v h = h
AreBytes-store m a (suc k) v h =
    AreBytes-store (with_byte m (a % 2 ^ 32) (v % 256)) (a + 1) k (v / 256)
    (AreBytes-with_byte m (a % 2 ^ 32) (v % 256) h (mod_below v 256 (lit< tt)))

-- a word of k bytes fits k bytes
pub load-lt : (m : Mem) (a k : ℕ) → AreBytes m → load m a k < 256 ^ k
load-lt m a zero h = lit< tt
load-lt m a (suc k) h =
    let low = h (a % 2 ^ 32) in
    let high = load-lt m (a + 1) k h in
    let power : 256 ^ suc k ≡ 256 ^ k * 256 = pow-suc 256 k in
    omega (arith, low, high, power)
