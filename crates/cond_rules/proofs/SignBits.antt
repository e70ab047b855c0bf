-- Words as signed numbers: what the top bits of two words and of their difference say.
use Rattle.std.proofs.Common.{◌≡◌, ℕ, ℤ, pos, negsuc, ◌+◌, ◌-◌, ◌/◌, ◌%◌, ◌^◌, ◌<◌, ◌≤◌, ◌-ℤ◌, Bool, true, false, not, ◌&&◌, ◌||◌, cond, nat_eq, nat_le, nat_lt, bit_and, refl, sym, ap, ◌∙◌, subst, arith, lit<, ◌⊎◌, inl, inr, int_lt}
use Rattle.std.specs.Prelude.{bit_xor, if◌then◌else◌, unsigned_abs}
use Rattle.std.specs.Int.{int_rem_euclid}
use Rattle.std.proofs.lemmas.Bool.{cases_lt}
use Rattle.std.proofs.lemmas.Bool.Decides.{nat_tests}
use Rattle.std.proofs.lemmas.Int.{int_rem_euclid_is, ints}
use Rattle.std.proofs.lemmas.Nat.{and_mask, and_shr, mod_below, xor_shr}
use Rattle.std.proofs.Math.Nat.{mod-eq_of_lt}
use Rattle.dream_words.specs.Words.{bit_of, low_part, sign_bit, signed_part, sign_extended}
use Rattle.dream_words.specs.Signed.{differ}

-- ---- extension by the sign

abbrev extended_by : Bool → ℕ → ℕ → ℕ
extended_by true full low = low + (2 ^ 32 - full)
extended_by false full low = low

taken : (s : Bool) (full low : ℕ) → low < full → full ≤ 2 ^ 32
    → unsigned_abs (int_rem_euclid (if s then pos low -ℤ pos full else pos low) (pos (2 ^ 32))) ≡ extended_by s full low
taken true full low h k =
    ap unsigned_abs (int_rem_euclid_is (pos low -ℤ pos full) (pos (2 ^ 32)) (2 ^ 32) 1 (low + (2 ^ 32 - full)) (omega arith) refl (omega (arith, ints))) ∙ mod-eq_of_lt (omega arith)
taken false full low h k = mod-eq_of_lt (omega arith)

extended_8 : (x : ℕ) → sign_extended 8 x ≡ extended_by (sign_bit 8 x) (2 ^ 8) (low_part 8 x)
extended_8 x = taken (sign_bit 8 x) (2 ^ 8) (low_part 8 x) (omega arith) (omega arith)

extended_16 : (x : ℕ) → sign_extended 16 x ≡ extended_by (sign_bit 16 x) (2 ^ 16) (low_part 16 x)
extended_16 x = taken (sign_bit 16 x) (2 ^ 16) (low_part 16 x) (omega arith) (omega arith)

-- a word as a signed number, where half of the words are below `half`
abbrev pub signed_at : ℕ → ℕ → ℕ → ℤ
signed_at half full x = cond (nat_le half x) (pos x -ℤ pos full) (pos x)

-- a number below half of the words, and one that isn't
below_half : (half x : ℕ) → x < half → nat_le half x ≡ false
below_half half x h = grind (arith, nat_tests)

above_half : (half x : ℕ) → half ≤ x → nat_le half x ≡ true
above_half half x h = grind (arith, nat_tests)

moved : (x full m : ℕ) → full ≤ m → pos (x + (m - full)) -ℤ pos m ≡ pos x -ℤ pos full
moved x full m h = omega (arith, ints)

-- what was extended to 32 bits is the same signed number
again : (half full x : ℕ) → full ≡ half + half → full < 2 ^ 32 → x < full → signed_part 32 (extended_by (nat_le half x) full x) ≡ signed_at half full x
again half full x e k l =
    elim (cases_lt x half) [
      | inl h ↦
          let n : nat_le half x ≡ false = below_half half x h in
          let m : x % 2 ^ 32 ≡ x = mod-eq_of_lt (omega (arith, k, l)) in
          let s : nat_le (2 ^ 31) x ≡ false = below_half (2 ^ 31) x (omega (arith, e, k, h)) in
          rw n (rw m (rw s refl))
      | inr h ↦
          let n : nat_le half x ≡ true = above_half half x h in
          let m : (x + (2 ^ 32 - full)) % 2 ^ 32 ≡ x + (2 ^ 32 - full) = mod-eq_of_lt (omega (arith, k, l)) in
          let s : nat_le (2 ^ 31) (x + (2 ^ 32 - full)) ≡ true = above_half (2 ^ 31) (x + (2 ^ 32 - full)) (omega (arith, e, k, h)) in
          rw n (rw m (rw s (moved x full (2 ^ 32) (omega (arith, k)))))
    ]

pub signed_again_8 : (x : ℕ) → signed_part 32 (sign_extended 8 x) ≡ signed_part 8 x
signed_again_8 x = ap (signed_part 32) (extended_8 x) ∙ again (2 ^ 7) (2 ^ 8) (low_part 8 x) refl (omega arith) (omega arith)

pub signed_again_16 : (x : ℕ) → signed_part 32 (sign_extended 16 x) ≡ signed_part 16 x
signed_again_16 x = ap (signed_part 32) (extended_16 x) ∙ again (2 ^ 15) (2 ^ 16) (low_part 16 x) refl (omega arith) (omega arith)

-- ---- the sign of a difference, and its overflow

-- r is the difference of x and y, wrapped around at most once
abbrev IsDifference : ℕ → ℕ → ℕ → ℕ → Type 0
IsDifference full x y r = (x ≡ y + r) ⊎ (x + full ≡ y + r)

module _ (half full x y r : ℕ) (e : full ≡ half + half) (xl : x < full) (yl : y < full) (rl : r < full) (w : IsDifference full x y r) where
  abbrev SignsTell : Type 0
  SignsTell =
      differ (nat_le half r) (differ (nat_le half x) (nat_le half y) && differ (nat_le half x) (nat_le half r)) ≡ int_lt (signed_at half full x) (signed_at half full y)

  -- the difference's sign differs from its overflow where x is less
  signs_tell : SignsTell
  signs_tell =
      elim (cases_lt x half) [
        | inl a ↦ elim (cases_lt y half) [ inl b ↦ rw (below_half half x a, below_half half y b) (grind (arith, nat_tests, ints)) | inr b ↦ rw (below_half half x a, above_half half y b) (grind (arith, nat_tests, ints)) ]
        | inr a ↦ elim (cases_lt y half) [ inl b ↦ rw (above_half half x a, below_half half y b) (grind (arith, nat_tests, ints)) | inr b ↦ rw (above_half half x a, above_half half y b) (grind (arith, nat_tests, ints)) ]
      ]

-- ---- top bits, by a shift

xor_of_bits : (a b : Bool) → bit_xor (bit_of a) (bit_of b) ≡ bit_of (differ a b)
xor_of_bits true true = refl
xor_of_bits true false = refl
xor_of_bits false true = refl
xor_of_bits false false = refl

and_of_bits : (a b : Bool) → bit_and (bit_of a) (bit_of b) ≡ bit_of (a && b)
and_of_bits true true = refl
and_of_bits true false = refl
and_of_bits false true = refl
and_of_bits false false = refl

tops_differ : (k w x y z : ℕ) (a b c d : Bool) → w / 2 ^ k ≡ bit_of a → x / 2 ^ k ≡ bit_of b → y / 2 ^ k ≡ bit_of c → z / 2 ^ k ≡ bit_of d
    → bit_and (bit_xor w x) (bit_xor y z) / 2 ^ k ≡ bit_of (differ a b && differ c d)
tops_differ k w x y z a b c d e f g h =
    and_shr (bit_xor w x) (bit_xor y z) k
    ∙ rw (xor_shr w x k, xor_shr y z k, e, f, g, h, xor_of_bits a b, xor_of_bits c d) (and_of_bits (differ a b) (differ c d))

bits_same : (a b : Bool) → nat_eq (bit_of a) (bit_of b) ≡ not (differ a b)
bits_same true true = refl
bits_same true false = refl
bits_same false true = refl
bits_same false false = refl

pub bit_is_0 : (a : Bool) → nat_eq (bit_of a) 0 ≡ not a
bit_is_0 true = refl
bit_is_0 false = refl

-- the sign of the difference r is its overflow where x isn't less than y
abbrev SignIsOverflow : ℕ → ℕ → ℕ → ℕ → ℕ → Type 0
SignIsOverflow k full x y r =
    nat_eq (r / 2 ^ k) (bit_and (bit_xor x y) (bit_xor x r) / 2 ^ k) ≡ nat_eq (bit_of (int_lt (signed_at (2 ^ k) full x) (signed_at (2 ^ k) full y))) 0

-- by top bits that are those of the words
module _ (k full x y r : ℕ) (e : full ≡ 2 ^ k + 2 ^ k) (xl : x < full) (yl : y < full) (rl : r < full) (w : IsDifference full x y r)
    (xt : x / 2 ^ k ≡ bit_of (nat_le (2 ^ k) x)) (yt : y / 2 ^ k ≡ bit_of (nat_le (2 ^ k) y)) (rt : r / 2 ^ k ≡ bit_of (nat_le (2 ^ k) r)) where
  sign_is_overflow : SignIsOverflow k full x y r
  sign_is_overflow =
      let s : Bool = nat_le (2 ^ k) r in
      let o : Bool = differ (nat_le (2 ^ k) x) (nat_le (2 ^ k) y) && differ (nat_le (2 ^ k) x) (nat_le (2 ^ k) r) in
      rw (rt, tops_differ k x y x r (nat_le (2 ^ k) x) (nat_le (2 ^ k) y) (nat_le (2 ^ k) x) (nat_le (2 ^ k) r) xt yt xt rt)
      (bits_same s o ∙ ap not (signs_tell (2 ^ k) full x y r e xl yl rl w) ∙ sym (bit_is_0 (int_lt (signed_at (2 ^ k) full x) (signed_at (2 ^ k) full y))))

top_8 : (x : ℕ) → x < 2 ^ 8 → x / 2 ^ 7 ≡ bit_of (nat_le (2 ^ 7) x)
top_8 x h = grind (arith, nat_tests)

top_16 : (x : ℕ) → x < 2 ^ 16 → x / 2 ^ 15 ≡ bit_of (nat_le (2 ^ 15) x)
top_16 x h = grind (arith, nat_tests)

top_32 : (x : ℕ) → x < 2 ^ 32 → x / 2 ^ 31 ≡ bit_of (nat_le (2 ^ 31) x)
top_32 x h = grind (arith, nat_tests)

wraps_8 : (x y : ℕ) → x < 2 ^ 8 → y < 2 ^ 8 → IsDifference (2 ^ 8) x y (low_part 8 (low_part 32 (x + 2 ^ 32 - y)))
wraps_8 x y h k = grind arith

wraps_16 : (x y : ℕ) → x < 2 ^ 16 → y < 2 ^ 16 → IsDifference (2 ^ 16) x y (low_part 16 (low_part 32 (x + 2 ^ 32 - y)))
wraps_16 x y h k = grind arith

wraps_32 : (x y : ℕ) → x < 2 ^ 32 → y < 2 ^ 32 → IsDifference (2 ^ 32) x y (low_part 32 (x + 2 ^ 32 - y))
wraps_32 x y h k = grind arith

-- a word below 2 to the number of bits, as a signed number
signed_low : (half full x : ℕ) → x < full → (if nat_le half (x % full) then pos (x % full) -ℤ pos full else pos (x % full)) ≡ signed_at half full x
signed_low half full x h = rw (mod-eq_of_lt h) refl

less_8 : (x y : ℕ) → x < 2 ^ 8 → y < 2 ^ 8 → int_lt (signed_part 32 (sign_extended 8 x)) (signed_part 32 (sign_extended 8 y)) ≡ int_lt (signed_at (2 ^ 7) (2 ^ 8) x) (signed_at (2 ^ 7) (2 ^ 8) y)
less_8 x y h k = rw (signed_again_8 x, signed_again_8 y, signed_low (2 ^ 7) (2 ^ 8) x h, signed_low (2 ^ 7) (2 ^ 8) y k) refl

less_16 : (x y : ℕ) → x < 2 ^ 16 → y < 2 ^ 16 → int_lt (signed_part 32 (sign_extended 16 x)) (signed_part 32 (sign_extended 16 y)) ≡ int_lt (signed_at (2 ^ 15) (2 ^ 16) x) (signed_at (2 ^ 15) (2 ^ 16) y)
less_16 x y h k = rw (signed_again_16 x, signed_again_16 y, signed_low (2 ^ 15) (2 ^ 16) x h, signed_low (2 ^ 15) (2 ^ 16) y k) refl

less_32 : (x y : ℕ) → x < 2 ^ 32 → y < 2 ^ 32 → int_lt (signed_part 32 x) (signed_part 32 y) ≡ int_lt (signed_at (2 ^ 31) (2 ^ 32) x) (signed_at (2 ^ 31) (2 ^ 32) y)
less_32 x y h k = rw (signed_low (2 ^ 31) (2 ^ 32) x h, signed_low (2 ^ 31) (2 ^ 32) y k) refl

-- ---- the laws

pub sign_is_overflow_8 : (x y : ℕ) → x < 2 ^ 8 → y < 2 ^ 8
    → nat_eq (bit_and (low_part 32 (x + 2 ^ 32 - y)) 255 / 2 ^ 7) (bit_and (bit_xor x y) (bit_xor x (bit_and (low_part 32 (x + 2 ^ 32 - y)) 255)) / 2 ^ 7)
    ≡ nat_eq (bit_of (int_lt (signed_part 32 (sign_extended 8 x)) (signed_part 32 (sign_extended 8 y)))) 0
sign_is_overflow_8 x y h k =
    let r : ℕ = low_part 8 (low_part 32 (x + 2 ^ 32 - y)) in
    let rl : r < 2 ^ 8 = mod_below (low_part 32 (x + 2 ^ 32 - y)) (2 ^ 8) (lit< tt) in
    rw (and_mask (low_part 32 (x + 2 ^ 32 - y)) 8, less_8 x y h k) (sign_is_overflow 7 (2 ^ 8) x y r refl h k rl (wraps_8 x y h k) (top_8 x h) (top_8 y k) (top_8 r rl))

pub sign_is_overflow_16 : (x y : ℕ) → x < 2 ^ 16 → y < 2 ^ 16
    → nat_eq (bit_and (low_part 32 (x + 2 ^ 32 - y)) 65535 / 2 ^ 15) (bit_and (bit_xor x y) (bit_xor x (bit_and (low_part 32 (x + 2 ^ 32 - y)) 65535)) / 2 ^ 15)
    ≡ nat_eq (bit_of (int_lt (signed_part 32 (sign_extended 16 x)) (signed_part 32 (sign_extended 16 y)))) 0
sign_is_overflow_16 x y h k =
    let r : ℕ = low_part 16 (low_part 32 (x + 2 ^ 32 - y)) in
    let rl : r < 2 ^ 16 = mod_below (low_part 32 (x + 2 ^ 32 - y)) (2 ^ 16) (lit< tt) in
    rw (and_mask (low_part 32 (x + 2 ^ 32 - y)) 16, less_16 x y h k) (sign_is_overflow 15 (2 ^ 16) x y r refl h k rl (wraps_16 x y h k) (top_16 x h) (top_16 y k) (top_16 r rl))

pub sign_is_overflow_32 : (x y : ℕ) → x < 2 ^ 32 → y < 2 ^ 32
    → nat_eq (low_part 32 (x + 2 ^ 32 - y) / 2 ^ 31) (bit_and (bit_xor x y) (bit_xor x (low_part 32 (x + 2 ^ 32 - y))) / 2 ^ 31)
    ≡ nat_eq (bit_of (int_lt (signed_part 32 x) (signed_part 32 y))) 0
sign_is_overflow_32 x y h k =
    let r : ℕ = low_part 32 (x + 2 ^ 32 - y) in
    let rl : r < 2 ^ 32 = mod_below (x + 2 ^ 32 - y) (2 ^ 32) (lit< tt) in
    rw (less_32 x y h k) (sign_is_overflow 31 (2 ^ 32) x y r refl h k rl (wraps_32 x y h k) (top_32 x h) (top_32 y k) (top_32 r rl))

-- a number is negative where its top bit is set
negative_at : (half full x : ℕ) → x < full → int_lt (signed_at half full x) (pos 0) ≡ nat_le half x
negative_at half full x h =
    elim (cases_lt x half) [ inl a ↦ rw (below_half half x a) (grind (arith, nat_tests, ints)) | inr a ↦ rw (above_half half x a) (grind (arith, nat_tests, ints)) ]

pub sign_8 : (x : ℕ) → nat_eq (bit_and x 255 / 2 ^ 7) 0 ≡ nat_eq (bit_of (int_lt (signed_part 32 (sign_extended 8 x)) (signed_part 32 0))) 0
sign_8 x =
    let m : x % 2 ^ 8 < 2 ^ 8 = mod_below x (2 ^ 8) (lit< tt) in
    rw (and_mask x 8, top_8 (x % 2 ^ 8) m, signed_again_8 x, negative_at (2 ^ 7) (2 ^ 8) (x % 2 ^ 8) m) refl

pub sign_16 : (x : ℕ) → nat_eq (bit_and x 65535 / 2 ^ 15) 0 ≡ nat_eq (bit_of (int_lt (signed_part 32 (sign_extended 16 x)) (signed_part 32 0))) 0
sign_16 x =
    let m : x % 2 ^ 16 < 2 ^ 16 = mod_below x (2 ^ 16) (lit< tt) in
    rw (and_mask x 16, top_16 (x % 2 ^ 16) m, signed_again_16 x, negative_at (2 ^ 15) (2 ^ 16) (x % 2 ^ 16) m) refl

pub sign_32 : (x : ℕ) → x < 2 ^ 32 → nat_eq (x / 2 ^ 31) 0 ≡ nat_eq (bit_of (int_lt (signed_part 32 x) (signed_part 32 0))) 0
sign_32 x h = rw (top_32 x h, signed_low (2 ^ 31) (2 ^ 32) x h, negative_at (2 ^ 31) (2 ^ 32) x h) refl

-- ---- at most, by equal and less

module _ (half full x y : ℕ) (e : full ≡ half + half) (xl : x < full) (yl : y < full) where
  abbrev AtMost : Type 0
  AtMost = not (int_lt (signed_at half full y) (signed_at half full x)) ≡ (nat_eq x y || int_lt (signed_at half full x) (signed_at half full y))

  at_most : AtMost
  at_most =
      elim (cases_lt x half) [
        | inl a ↦ elim (cases_lt y half) [ inl b ↦ rw (below_half half x a, below_half half y b) (grind (arith, nat_tests, ints)) | inr b ↦ rw (below_half half x a, above_half half y b) (grind (arith, nat_tests, ints)) ]
        | inr a ↦ elim (cases_lt y half) [ inl b ↦ rw (above_half half x a, below_half half y b) (grind (arith, nat_tests, ints)) | inr b ↦ rw (above_half half x a, above_half half y b) (grind (arith, nat_tests, ints)) ]
      ]

pub at_most_8 : (x y : ℕ) → x < 2 ^ 8 → y < 2 ^ 8
    → not (int_lt (signed_part 32 (sign_extended 8 y)) (signed_part 32 (sign_extended 8 x))) ≡ (nat_eq x y || int_lt (signed_part 32 (sign_extended 8 x)) (signed_part 32 (sign_extended 8 y)))
at_most_8 x y h k = rw (less_8 y x k h, less_8 x y h k) (at_most (2 ^ 7) (2 ^ 8) x y refl h k)

pub at_most_16 : (x y : ℕ) → x < 2 ^ 16 → y < 2 ^ 16
    → not (int_lt (signed_part 32 (sign_extended 16 y)) (signed_part 32 (sign_extended 16 x))) ≡ (nat_eq x y || int_lt (signed_part 32 (sign_extended 16 x)) (signed_part 32 (sign_extended 16 y)))
at_most_16 x y h k = rw (less_16 y x k h, less_16 x y h k) (at_most (2 ^ 15) (2 ^ 16) x y refl h k)

pub at_most_32 : (x y : ℕ) → x < 2 ^ 32 → y < 2 ^ 32 → not (int_lt (signed_part 32 y) (signed_part 32 x)) ≡ (nat_eq x y || int_lt (signed_part 32 x) (signed_part 32 y))
at_most_32 x y h k = rw (less_32 y x k h, less_32 x y h k) (at_most (2 ^ 31) (2 ^ 32) x y refl h k)
