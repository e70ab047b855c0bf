-- What operators give with a number on the right, with one word on both sides, and one after the other.
use Rattle.std.proofs.Common.{◌≡◌, ℕ, ◌+◌, ◌-◌, ◌*◌, ◌/◌, ◌%◌, ◌^◌, ◌<◌, ◌≤◌, max, true, false, ◌&&◌, nat_eq, Some, refl, sym, ap, ◌∙◌, subst, arith, rules, lit<}
use Rattle.std.specs.Prelude.{bit_and, bit_or, bit_xor}
use Rattle.std.specs.Int.{bit_at}
use Rattle.std.specs.Int.Bits.{and_self, and_zero_r, or_self, or_zero_r, xor_self, xor_zero_r}
use Rattle.std.proofs.lemmas.Nat.{and_comm, or_comm, xor_comm, and_assoc, mod_below, mul-mod_first, mul-mod_second, and_le_l, or_lt, xor_lt}
use Rattle.std.proofs.lemmas.Nat.Bits.{bit_at_or, bit_at_xor, same_from_bits}
use Rattle.std.proofs.lemmas.Bool.{eqb-true}
use Rattle.std.proofs.Math.Nat.{mul_comm, mul_assoc}
use Rattle.dream_words.specs.Words.{low_part}
use Rattle.c_syntax.specs.declared.syntax.CBin.{CBin}
use Rattle.c_syntax.specs.declared.syntax.CBin.TheVariants as bin
use Rattle.c_syntax.specs.Words.{bin_of}
use Rattle.c_syntax.specs.Value.{both}
use Rattle.word_rules.specs.Operators.{commutes, gives_first, gives_nought, cancels, absorbs, opposite, twice}
use Rattle.word_rules.specs.Plain.{drops_nought}
use Rattle.word_rules.specs.Turns.{TurnsTo, Merges}
use Rattle.word_rules.proofs.Bits.{all_covers}

-- ---- exchanged

pub commutes_so : (op : CBin) (x y : ℕ) → commutes op ≡ true → bin_of op x y ≡ bin_of op y x
commutes_so bin.Add x y h = let e : x + y ≡ y + x = omega arith in ap (λ n. Some (low_part 32 n)) e
commutes_so bin.Sub x y h = absurd (let n : ⊥ = cc in n)
commutes_so bin.Mul x y h = ap (λ n. Some (low_part 32 n)) (mul_comm x y)
commutes_so bin.And x y h = ap Some (and_comm x y)
commutes_so bin.Or x y h = ap Some (or_comm x y)
commutes_so bin.Xor x y h = ap Some (xor_comm x y)
commutes_so bin.Shl x y h = absurd (let n : ⊥ = cc in n)
commutes_so bin.Shr x y h = absurd (let n : ⊥ = cc in n)

-- ---- with a number on the right

-- what a sum, a difference, a product and the shifts give with such a number
sum_first : (x z : ℕ) → x < 2 ^ 32 → Some (low_part 32 (x + 0)) ≡ Some z → z ≡ x
sum_first x z s e = let f : low_part 32 (x + 0) ≡ z = cc in omega (arith, s, f)

difference_first : (x z : ℕ) → x < 2 ^ 32 → Some (low_part 32 (x + 2 ^ 32 - 0)) ≡ Some z → z ≡ x
difference_first x z s e = let f : low_part 32 (x + 2 ^ 32 - 0) ≡ z = cc in omega (arith, s, f)

product_first : (x z : ℕ) → x < 2 ^ 32 → Some (low_part 32 (x * 1)) ≡ Some z → z ≡ x
product_first x z s e = let f : low_part 32 (x * 1) ≡ z = cc in omega (arith, s, f)

right_first : (x z : ℕ) → Some (x / 1) ≡ Some z → z ≡ x
right_first x z e = let f : x / 1 ≡ z = cc in omega (arith, f)

first_at : (op : CBin) (k m x z : ℕ) → k ≡ m → bin_of op x k ≡ Some z → bin_of op x m ≡ Some z
first_at op k m x z i e = subst (λ n. bin_of op x n ≡ Some z) i e

pub first_so : (op : CBin) (k x z : ℕ) → gives_first op k ≡ true → x < 2 ^ 32 → bin_of op x k ≡ Some z → z ≡ x
first_so bin.Add k x z h s e = sum_first x z s (first_at bin.Add k 0 x z (eqb-true k 0 h) e)
first_so bin.Sub k x z h s e = difference_first x z s (first_at bin.Sub k 0 x z (eqb-true k 0 h) e)
first_so bin.Mul k x z h s e = product_first x z s (first_at bin.Mul k 1 x z (eqb-true k 1 h) e)
first_so bin.And k x z h s e = let f : Some (bit_and x (2 ^ 32 - 1)) ≡ Some z = first_at bin.And k (2 ^ 32 - 1) x z (eqb-true k (2 ^ 32 - 1) h) e in let g : bit_and x (2 ^ 32 - 1) ≡ z = cc in sym g ∙ all_covers x s
first_so bin.Or k x z h s e = let f : Some (bit_or x 0) ≡ Some z = first_at bin.Or k 0 x z (eqb-true k 0 h) e in let g : bit_or x 0 ≡ z = cc in sym g ∙ or_zero_r x
first_so bin.Xor k x z h s e = let f : Some (bit_xor x 0) ≡ Some z = first_at bin.Xor k 0 x z (eqb-true k 0 h) e in let g : bit_xor x 0 ≡ z = cc in sym g ∙ xor_zero_r x
first_so bin.Shl k x z h s e = product_first x z s (first_at bin.Shl k 0 x z (eqb-true k 0 h) e)
first_so bin.Shr k x z h s e = right_first x z (first_at bin.Shr k 0 x z (eqb-true k 0 h) e)

-- where a number changes something, it is no 0 that is dropped
pub first_else : (op : CBin) (k : ℕ) → gives_first op k ≡ false → (drops_nought op && nat_eq k 0) ≡ false
first_else bin.Add k h = h
first_else bin.Sub k h = h
first_else bin.Mul k h = refl
first_else bin.And k h = refl
first_else bin.Or k h = h
first_else bin.Xor k h = h
first_else bin.Shl k h = h
first_else bin.Shr k h = h

product_nought : (x z : ℕ) → Some (low_part 32 (x * 0)) ≡ Some z → z ≡ 0
product_nought x z e = let f : low_part 32 (x * 0) ≡ z = cc in omega (arith, f)

pub nought_so : (op : CBin) (k x z : ℕ) → gives_nought op k ≡ true → bin_of op x k ≡ Some z → z ≡ 0
nought_so bin.Add k x z h e = absurd (let n : ⊥ = cc in n)
nought_so bin.Sub k x z h e = absurd (let n : ⊥ = cc in n)
nought_so bin.Mul k x z h e = product_nought x z (first_at bin.Mul k 0 x z (eqb-true k 0 h) e)
nought_so bin.And k x z h e = let f : Some (bit_and x 0) ≡ Some z = first_at bin.And k 0 x z (eqb-true k 0 h) e in let g : bit_and x 0 ≡ z = cc in sym g ∙ and_zero_r x
nought_so bin.Or k x z h e = absurd (let n : ⊥ = cc in n)
nought_so bin.Xor k x z h e = absurd (let n : ⊥ = cc in n)
nought_so bin.Shl k x z h e = absurd (let n : ⊥ = cc in n)
nought_so bin.Shr k x z h e = absurd (let n : ⊥ = cc in n)

-- ---- with one word on both sides

pub cancels_so : (op : CBin) (x z : ℕ) → cancels op ≡ true → x < 2 ^ 32 → bin_of op x x ≡ Some z → z ≡ 0
cancels_so bin.Add x z h s e = absurd (let n : ⊥ = cc in n)
cancels_so bin.Sub x z h s e = let f : low_part 32 (x + 2 ^ 32 - x) ≡ z = cc in omega (arith, s, f)
cancels_so bin.Mul x z h s e = absurd (let n : ⊥ = cc in n)
cancels_so bin.And x z h s e = absurd (let n : ⊥ = cc in n)
cancels_so bin.Or x z h s e = absurd (let n : ⊥ = cc in n)
cancels_so bin.Xor x z h s e = let f : bit_xor x x ≡ z = cc in sym f ∙ xor_self x
cancels_so bin.Shl x z h s e = absurd (let n : ⊥ = cc in n)
cancels_so bin.Shr x z h s e = absurd (let n : ⊥ = cc in n)

pub absorbs_so : (op : CBin) (x z : ℕ) → absorbs op ≡ true → bin_of op x x ≡ Some z → z ≡ x
absorbs_so bin.Add x z h e = absurd (let n : ⊥ = cc in n)
absorbs_so bin.Sub x z h e = absurd (let n : ⊥ = cc in n)
absorbs_so bin.Mul x z h e = absurd (let n : ⊥ = cc in n)
absorbs_so bin.And x z h e = let f : bit_and x x ≡ z = cc in sym f ∙ and_self x
absorbs_so bin.Or x z h e = let f : bit_or x x ≡ z = cc in sym f ∙ or_self x
absorbs_so bin.Xor x z h e = absurd (let n : ⊥ = cc in n)
absorbs_so bin.Shl x z h e = absurd (let n : ⊥ = cc in n)
absorbs_so bin.Shr x z h e = absurd (let n : ⊥ = cc in n)

-- ---- turned

sum_turned : (x k : ℕ) → 2 ^ 31 < k → k < 2 ^ 32 → low_part 32 (x + k) ≡ low_part 32 (x + 2 ^ 32 - low_part 32 (2 ^ 32 - k))
sum_turned x k h s = omega arith

difference_turned : (x k : ℕ) → 2 ^ 31 < k → k < 2 ^ 32 → low_part 32 (x + 2 ^ 32 - k) ≡ low_part 32 (x + low_part 32 (2 ^ 32 - k))
difference_turned x k h s = omega arith

turned_some : (k : ℕ) → 2 ^ 31 < k → k < 2 ^ 32 → nat_eq (low_part 32 (2 ^ 32 - k)) 0 ≡ false
turned_some k h s = let e : 0 < low_part 32 (2 ^ 32 - k) = omega arith in search (rules, arith)

same_turn : (op : CBin) (k : ℕ) → k < 2 ^ 32 → TurnsTo op k (op, k)
same_turn op k s = record { value = λ x z t e. e; small = s; effect = λ h. h }

pub keeps_turn : (op : CBin) (k : ℕ) → k < 2 ^ 32 → TurnsTo op k (op, k)
keeps_turn op k s = same_turn op k s

pub turn_so : (op : CBin) (k : ℕ) → 2 ^ 31 < k → k < 2 ^ 32 → TurnsTo op k (opposite op k)
turn_so bin.Add k h s = record {
  value = λ x z t e. ap Some (sym (sum_turned x k h s)) ∙ e;
  small = mod_below (2 ^ 32 - k) (2 ^ 32) (lit< tt);
  effect = λ g. turned_some k h s;
}
turn_so bin.Sub k h s = record {
  value = λ x z t e. ap Some (sym (difference_turned x k h s)) ∙ e;
  small = mod_below (2 ^ 32 - k) (2 ^ 32) (lit< tt);
  effect = λ g. turned_some k h s;
}
turn_so bin.Mul k h s = same_turn bin.Mul k s
turn_so bin.And k h s = same_turn bin.And k s
turn_so bin.Or k h s = same_turn bin.Or k s
turn_so bin.Xor k h s = same_turn bin.Xor k s
turn_so bin.Shl k h s = same_turn bin.Shl k s
turn_so bin.Shr k h s = same_turn bin.Shr k s

-- ---- one after the other

sums_merge : (x j k : ℕ) → low_part 32 (low_part 32 (x + j) + k) ≡ low_part 32 (x + low_part 32 (j + k))
sums_merge x j k = omega arith

differences_merge : (x j k : ℕ) → j < 2 ^ 32 → k < 2 ^ 32 → low_part 32 (low_part 32 (x + 2 ^ 32 - j) + 2 ^ 32 - k) ≡ low_part 32 (x + 2 ^ 32 - low_part 32 (j + k))
differences_merge x j k h g = omega arith

products_merge : (x j k : ℕ) → low_part 32 (low_part 32 (x * j) * k) ≡ low_part 32 (x * low_part 32 (j * k))
products_merge x j k = mul-mod_first (x * j) k (2 ^ 32) ∙ ap (low_part 32) (mul_assoc x j k) ∙ sym (mul-mod_second x (j * k) (2 ^ 32))

or_merges : (x j k : ℕ) → bit_or (bit_or x j) k ≡ bit_or x (bit_or j k)
or_merges x j k =
    same_from_bits _ _ (λ i. three_of (bit_at x i) (bit_at j i) (bit_at k i) _ _ _ _ (bit_at_or x j i) (bit_at_or (bit_or x j) k i) (bit_at_or j k i) (bit_at_or x (bit_or j k) i))
  where
    three_of : (a b c p q r s : ℕ) → p ≡ max a b → q ≡ max p c → r ≡ max b c → s ≡ max a r → q ≡ s
    three_of a b c p q r s e f g h = omega arith

xor_merges : (x j k : ℕ) → bit_xor (bit_xor x j) k ≡ bit_xor x (bit_xor j k)
xor_merges x j k =
    same_from_bits _ _ (λ i. three_of (bit_at x i) (bit_at j i) (bit_at k i) _ _ _ _ (bit_at_xor x j i) (bit_at_xor (bit_xor x j) k i) (bit_at_xor j k i) (bit_at_xor x (bit_xor j k) i))
  where
    three_of : (a b c p q r s : ℕ) → p ≡ (a + b) % 2 → q ≡ (p + c) % 2 → r ≡ (b + c) % 2 → s ≡ (a + r) % 2 → q ≡ s
    three_of a b c p q r s e f g h = omega arith

merges : (inner : CBin) (j : ℕ) (op : CBin) (k : ℕ) (f : CBin) (m : ℕ) → m < 2 ^ 32 → ((x : ℕ) → x < 2 ^ 32 → both (bin_of op) (bin_of inner x j) (Some k) ≡ bin_of f x m) → Merges inner j op k (f, m)
merges inner j op k f m s law = record { value = λ x z t e. sym (law x t) ∙ e; small = s }

pub twice_so : (op : CBin) (j k m : ℕ) → j < 2 ^ 32 → k < 2 ^ 32 → twice op j k ≡ Some m → Merges op j op k (op, m)
twice_so bin.Add j k m h g e =
    let f : low_part 32 (j + k) ≡ m = cc in
    subst (λ n. Merges bin.Add j bin.Add k (bin.Add, n)) f (merges bin.Add j bin.Add k bin.Add (low_part 32 (j + k)) (mod_below (j + k) (2 ^ 32) (lit< tt)) (λ x t. ap Some (sums_merge x j k)))
twice_so bin.Sub j k m h g e =
    let f : low_part 32 (j + k) ≡ m = cc in
    subst (λ n. Merges bin.Sub j bin.Sub k (bin.Sub, n)) f (merges bin.Sub j bin.Sub k bin.Sub (low_part 32 (j + k)) (mod_below (j + k) (2 ^ 32) (lit< tt)) (λ x t. ap Some (differences_merge x j k h g)))
twice_so bin.Mul j k m h g e =
    let f : low_part 32 (j * k) ≡ m = cc in
    subst (λ n. Merges bin.Mul j bin.Mul k (bin.Mul, n)) f (merges bin.Mul j bin.Mul k bin.Mul (low_part 32 (j * k)) (mod_below (j * k) (2 ^ 32) (lit< tt)) (λ x t. ap Some (products_merge x j k)))
twice_so bin.And j k m h g e =
    let f : bit_and j k ≡ m = cc in
    let l : bit_and j k ≤ j = and_le_l j k in
    subst (λ n. Merges bin.And j bin.And k (bin.And, n)) f (merges bin.And j bin.And k bin.And (bit_and j k) (omega (arith, l, h)) (λ x t. ap Some (and_assoc k x j)))
twice_so bin.Or j k m h g e =
    let f : bit_or j k ≡ m = cc in
    subst (λ n. Merges bin.Or j bin.Or k (bin.Or, n)) f (merges bin.Or j bin.Or k bin.Or (bit_or j k) (or_lt 32 j k h g) (λ x t. ap Some (or_merges x j k)))
twice_so bin.Xor j k m h g e =
    let f : bit_xor j k ≡ m = cc in
    subst (λ n. Merges bin.Xor j bin.Xor k (bin.Xor, n)) f (merges bin.Xor j bin.Xor k bin.Xor (bit_xor j k) (xor_lt 32 j k h g) (λ x t. ap Some (xor_merges x j k)))
twice_so bin.Shl j k m h g e = absurd (let n : ⊥ = cc in n)
twice_so bin.Shr j k m h g e = absurd (let n : ⊥ = cc in n)

sum_less : (x j k : ℕ) → j < 2 ^ 32 → k < 2 ^ 32 → low_part 32 (low_part 32 (x + j) + 2 ^ 32 - k) ≡ low_part 32 (x + low_part 32 (j + 2 ^ 32 - k))
sum_less x j k h g = omega arith

difference_more : (x j k : ℕ) → j < 2 ^ 32 → k < 2 ^ 32 → low_part 32 (low_part 32 (x + 2 ^ 32 - j) + k) ≡ low_part 32 (x + low_part 32 (k + 2 ^ 32 - j))
difference_more x j k h g = omega arith

pub sum_then_less : (j k m : ℕ) → j < 2 ^ 32 → k < 2 ^ 32 → m ≡ low_part 32 (j + 2 ^ 32 - k) → Merges bin.Add j bin.Sub k (bin.Add, m)
sum_then_less j k m h g e =
    subst (λ n. Merges bin.Add j bin.Sub k (bin.Add, n)) (sym e)
    (merges bin.Add j bin.Sub k bin.Add (low_part 32 (j + 2 ^ 32 - k)) (mod_below (j + 2 ^ 32 - k) (2 ^ 32) (lit< tt)) (λ x t. ap Some (sum_less x j k h g)))

pub difference_then_more : (j k m : ℕ) → j < 2 ^ 32 → k < 2 ^ 32 → m ≡ low_part 32 (k + 2 ^ 32 - j) → Merges bin.Sub j bin.Add k (bin.Add, m)
difference_then_more j k m h g e =
    subst (λ n. Merges bin.Sub j bin.Add k (bin.Add, n)) (sym e)
    (merges bin.Sub j bin.Add k bin.Add (low_part 32 (k + 2 ^ 32 - j)) (mod_below (k + 2 ^ 32 - j) (2 ^ 32) (lit< tt)) (λ x t. ap Some (difference_more x j k h g)))

pub twice_merges : (inner op : CBin) (j k m : ℕ) → inner ≡ op → j < 2 ^ 32 → k < 2 ^ 32 → twice op j k ≡ Some m → Merges inner j op k (op, m)
twice_merges inner op j k m i h g e = subst (λ o. Merges o j op k (op, m)) (sym i) (twice_so op j k m h g e)
