-- The value of a Word is a word, where names have words and its numbers are words.
use Rattle.std.proofs.Common.{◌≡◌, ℕ, ℤ, zero, suc, ◌+◌, ◌-◌, ◌*◌, ◌/◌, ◌%◌, ◌^◌, ◌<◌, ◌≤◌, min, Bool, true, false, cond, not, nat_eq, nat_lt, nat_le, ◌||◌, ◌&&◌, Option, Some, None, refl, sym, subst, arith, rules, lit<}
use Rattle.std.specs.Prelude.{IsTrue, bit_and, int_lt, int_div, int_rem, is_none}
use Rattle.std.proofs.lemmas.Nat.{and_le_l, or_lt, xor_lt, mod_below}
use Rattle.std.proofs.lemmas.Bool.{ltb-true, leb-false}
use Rattle.std.proofs.Math.Nat.{div-le_self, div-lt_iff_lt-mul}
use Rattle.dream_words.specs.declared.machine.Name.{Name}
use Rattle.dream_words.specs.Words.{low_part, sign_bit, signed_part, bit_of, has_even_ones, lowest_one, highest_one, wide_number, fits_signed, quotient_of, signed_quotient_of, word_of as taken_to}
use Rattle.run_parts.specs.World.{Names}
use Rattle.c_syntax.specs.declared.syntax.CBin.{CBin}
use Rattle.c_syntax.specs.declared.syntax.CBin.TheVariants.{Add, Sub, Mul, And, Or, Xor, Shl, Shr}
use Rattle.c_syntax.specs.declared.syntax.CFn1.{CFn1}
use Rattle.c_syntax.specs.declared.syntax.CFn1.TheVariants.{Sx1, Sx2, Par, Bsf, Bsr}
use Rattle.c_syntax.specs.declared.syntax.CFn2.{CFn2}
use Rattle.c_syntax.specs.declared.syntax.CFn2.TheVariants.{Sar, Lts, Mulhu, Mulhs}
use Rattle.c_syntax.specs.declared.syntax.CFn3.{CFn3}
use Rattle.c_syntax.specs.declared.syntax.CFn3.TheVariants.{Divubad, Divuq, Divur, Divsbad, Divsq, Divsr}
use Rattle.c_syntax.specs.declared.syntax.CExpr as e
use Rattle.c_syntax.specs.declared.syntax.CExpr.{CExpr, CExpr-F, roll-CExpr}
use Rattle.c_syntax.specs.declared.syntax.CCond.{CCond}
use Rattle.c_syntax.specs.Words.{bin_of, fn1_of, fn2_of, fn3_of, quotient, remainder}
use Rattle.c_syntax.specs.Value.{each, both, all_three, picked, Word, Truth, word_of, truth_of, word_at}
use Rattle.c_syntax.specs.Formed.{cond_names}
use Rattle.c_syntax.proofs.Induct.{WordCases, every_word}
use Rattle.c_syntax.proofs.Layers.{word_of_layer}
use Rattle.micro_ir.specs.Rule.{word_names, has_flow_names, cond_has_flow_names}
use Rattle.micro_ir.specs.Laws.{IsWordOrStuck}

-- ---- operators of two words

if_small : (b : Bool) (x : ℕ) → x < 2 ^ 32 → IsWordOrStuck (cond b (Some x) None)
if_small true x h = h
if_small false x h = tt

bin_small : (op : CBin) (x y : ℕ) → x < 2 ^ 32 → y < 2 ^ 32 → IsWordOrStuck (bin_of op x y)
bin_small Add x y h g = mod_below (x + y) (2 ^ 32) (lit< tt)
bin_small Sub x y h g = mod_below (x + 2 ^ 32 - y) (2 ^ 32) (lit< tt)
bin_small Mul x y h g = mod_below (x * y) (2 ^ 32) (lit< tt)
bin_small And x y h g = let l : bit_and x y ≤ x = and_le_l x y in omega (arith, l, h)
bin_small Or x y h g = or_lt 32 x y h g
bin_small Xor x y h g = xor_lt 32 x y h g
bin_small Shl x y h g = if_small (nat_lt y 32) (low_part 32 (x * 2 ^ y)) (mod_below (x * 2 ^ y) (2 ^ 32) (lit< tt))
bin_small Shr x y h g = let l : x / 2 ^ y ≤ x = div-le_self x (2 ^ y) in if_small (nat_lt y 32) (x / 2 ^ y) (omega (arith, l, h))

-- ---- functions of one word

bit_small : (b : Bool) → bit_of b < 2 ^ 32
bit_small true = omega arith
bit_small false = omega arith

taken_small : (z : ℤ) → taken_to 32 z < 2 ^ 32
taken_small z = search (arith)

-- the place of the lowest one is at most the number of places
lowest_one-le : (k v : ℕ) → lowest_one k v ≤ k
unfolding lowest_one
lowest_one-le zero v = omega arith
lowest_one-le (suc k) v = at (nat_eq (v % 2) 1) (lowest_one-le k (v / 2))
  where
    at : (b : Bool) → lowest_one k (v / 2) ≤ k → cond b 0 (lowest_one k (v / 2) + 1) ≤ suc k
    at true h = omega arith
    at false h = omega (arith, h)

-- and so is that of the highest one
highest_one-le : (k v : ℕ) → highest_one k v ≤ k
unfolding highest_one
highest_one-le zero v = omega arith
highest_one-le (suc k) v = at (nat_le (2 ^ k) v) (highest_one-le k v)
  where
    at : (b : Bool) → highest_one k v ≤ k → cond b k (highest_one k v) ≤ suc k
    at true h = omega arith
    at false h = omega (arith, h)

fn1_small : (f : CFn1) (x : ℕ) → fn1_of f x < 2 ^ 32
fn1_small Sx1 x = taken_small (signed_part 8 x)
fn1_small Sx2 x = taken_small (signed_part 16 x)
fn1_small Par x = bit_small (has_even_ones x)
fn1_small Bsf x = let l = lowest_one-le 31 x in omega (arith, l)
fn1_small Bsr x = let l = highest_one-le 32 x in omega (arith, l)

-- ---- functions of two words

shifted_small : (b : Bool) (x k : ℕ) → x < 2 ^ 32 → cond b (2 ^ 32 - 1 - (2 ^ 32 - 1 - x) / 2 ^ k) (x / 2 ^ k) < 2 ^ 32
shifted_small true x k h = omega arith
shifted_small false x k h = let l : x / 2 ^ k ≤ x = div-le_self x (2 ^ k) in omega (arith, l, h)

below_product : (x y : ℕ) → x < 2 ^ 32 → y < 2 ^ 32 → x * y < 2 ^ 32 * 2 ^ 32
below_product x y h g = grind (arith, h, g)

-- the high half of a number of two words
half_small : (x : ℕ) → x < 2 ^ 32 * 2 ^ 32 → x / 2 ^ 32 < 2 ^ 32
half_small x h = (div-lt_iff_lt-mul {k = 2 ^ 32} {x = x} {y = 2 ^ 32} (lit< tt)).1 h

wide_small : (z : ℤ) → taken_to 64 z < 2 ^ 32 * 2 ^ 32
wide_small z = search (arith)

fn2_small : (f : CFn2) (x y : ℕ) → x < 2 ^ 32 → fn2_of f x y < 2 ^ 32
fn2_small Sar x y h = shifted_small (sign_bit 32 x) x (min y 31) h
fn2_small Lts x y h = bit_small (int_lt (signed_part 32 x) (signed_part 32 y))
fn2_small Mulhu x y h = half_small (low_part 32 x * low_part 32 y) (below_product (low_part 32 x) (low_part 32 y) (mod_below x (2 ^ 32) (lit< tt)) (mod_below y (2 ^ 32) (lit< tt)))
fn2_small Mulhs x y h = half_small _ (wide_small _)

-- ---- divisions

quotient_small : (b : Bool) (q r : ℕ) → (b ≡ false → q < 2 ^ 32) → quotient (cond b None (Some (q, r))) < 2 ^ 32
quotient_small true q r h = lit< tt
quotient_small false q r h = h refl

remainder_small : (b : Bool) (q r : ℕ) → (b ≡ false → r < 2 ^ 32) → remainder (cond b None (Some (q, r))) < 2 ^ 32
remainder_small true q r h = lit< tt
remainder_small false q r h = h refl

right_false : (a b : Bool) → (a || b) ≡ false → b ≡ false
right_false true b e = absurd (let z : ⊥ = cc in z)
right_false false b e = e

left_false : (a b : Bool) → (a || b) ≡ false → a ≡ false
left_false true b e = absurd (let z : ⊥ = cc in z)
left_false false b e = refl

some_of : (d : ℕ) → nat_eq d 0 ≡ false → 0 < d
some_of d e = search (rules, arith, e)

fn3_small : (f : CFn3) (x y z : ℕ) → fn3_of f x y z < 2 ^ 32
fn3_small Divubad x y z = bit_small (is_none (quotient_of 32 x y z))
fn3_small Divuq x y z =
    quotient_small (nat_eq (low_part 32 z) 0 || nat_le (2 ^ 32) (wide_number 32 x y / low_part 32 z)) (wide_number 32 x y / low_part 32 z) (wide_number 32 x y % low_part 32 z)
    (λ e. leb-false (2 ^ 32) (wide_number 32 x y / low_part 32 z) (right_false (nat_eq (low_part 32 z) 0) (nat_le (2 ^ 32) (wide_number 32 x y / low_part 32 z)) e))
fn3_small Divur x y z =
    remainder_small (nat_eq (low_part 32 z) 0 || nat_le (2 ^ 32) (wide_number 32 x y / low_part 32 z)) (wide_number 32 x y / low_part 32 z) (wide_number 32 x y % low_part 32 z)
    (λ e.
    let some : 0 < low_part 32 z = some_of (low_part 32 z) (left_false (nat_eq (low_part 32 z) 0) (nat_le (2 ^ 32) (wide_number 32 x y / low_part 32 z)) e) in
    let less : wide_number 32 x y % low_part 32 z < low_part 32 z = mod_below (wide_number 32 x y) (low_part 32 z) some in
    let small : low_part 32 z < 2 ^ 32 = mod_below z (2 ^ 32) (lit< tt) in
    omega (arith, less, small))
fn3_small Divsbad x y z = bit_small (is_none (signed_quotient_of 32 x y z))
fn3_small Divsq x y z =
    let n = signed_part (32 + 32) (wide_number 32 x y) in
    let q = int_div n (signed_part 32 z) in
    quotient_small (nat_eq (low_part 32 z) 0 || not (fits_signed 32 q)) (taken_to 32 q) (taken_to 32 (int_rem n (signed_part 32 z))) (λ e. taken_small q)
fn3_small Divsr x y z =
    let n = signed_part (32 + 32) (wide_number 32 x y) in
    let q = int_div n (signed_part 32 z) in
    let r = int_rem n (signed_part 32 z) in
    remainder_small (nat_eq (low_part 32 z) 0 || not (fits_signed 32 q)) (taken_to 32 q) (taken_to 32 r) (λ e. taken_small r)

-- ---- a layer of a Word

one_small : (f : ℕ → ℕ) (a : Option ℕ) → ((x : ℕ) → f x < 2 ^ 32) → IsWordOrStuck (each f a)
one_small f None h = tt
one_small f (Some x) h = h x

two_small : (op : CBin) (a b : Option ℕ) → IsWordOrStuck a → IsWordOrStuck b → IsWordOrStuck (both (bin_of op) a b)
two_small op None b h g = tt
two_small op (Some x) None h g = tt
two_small op (Some x) (Some y) h g = bin_small op x y h g

pair_small : (f : CFn2) (a b : Option ℕ) → IsWordOrStuck a → IsWordOrStuck (both (λ x y. Some (fn2_of f x y)) a b)
pair_small f None b h = tt
pair_small f (Some x) None h = tt
pair_small f (Some x) (Some y) h = fn2_small f x y h

three_small : (f : CFn3) (a b c : Option ℕ) → IsWordOrStuck (all_three (fn3_of f) a b c)
three_small f None b c = tt
three_small f (Some x) None c = tt
three_small f (Some x) (Some y) None = tt
three_small f (Some x) (Some y) (Some z) = fn3_small f x y z

picked_small : (t : Option Bool) (a b : Option ℕ) → IsWordOrStuck a → IsWordOrStuck b → IsWordOrStuck (picked t a b)
picked_small None a b h g = tt
picked_small (Some true) a b h g = h
picked_small (Some false) a b h g = g

-- ---- Words

pub both_true : (a b : Bool) → IsTrue (a && b) → IsTrue a × IsTrue b
both_true true b h = (refl, h)
both_true false b h = absurd (let z : ⊥ = cc in z)

-- the names of a Word are those of its layer
pub names_layer : (y : CExpr-F CCond CExpr) → has_flow_names (roll-CExpr y) ≡ word_names (e.map-CExpr CCond CExpr Bool Bool cond_has_flow_names has_flow_names y)
names_layer y = e.fold-roll-CExpr Bool Bool cond_names word_names y

-- names have words
abbrev HaveWords : Names → Type 0
HaveWords v = (n : Name) → v n < 2 ^ 32

abbrev IsSmall : CExpr → Type 0
IsSmall a = IsTrue (has_flow_names a) → (v : Names) → HaveWords v → IsWordOrStuck (word_of a v)

by_layer : (y : CExpr-F CCond CExpr) → (IsTrue (word_names (e.map-CExpr CCond CExpr Bool Bool cond_has_flow_names has_flow_names y)) → (v : Names) → HaveWords v → IsWordOrStuck (word_at (e.map-CExpr CCond CExpr Truth Word truth_of word_of y) v)) → IsSmall (roll-CExpr y)
by_layer y h = λ t v s. subst (λ g. IsWordOrStuck (g v)) (sym (word_of_layer y)) (h (subst IsTrue (names_layer y) t) v s)

cases : WordCases IsSmall (λ t. Unit {0})
cases = record {
  num = λ n. by_layer (CExpr-F.Num n) (λ t v s. ltb-true n (2 ^ 32) t);
  name = λ n. by_layer (CExpr-F.Name n) (λ t v s. s n);
  not_word = λ a ha. by_layer (CExpr-F.«CExpr::Not» a) (λ t v s. one_small (λ x. 2 ^ 32 - 1 - x) (word_of a v) (λ x. omega arith));
  bin = λ op a b ha hb. by_layer (CExpr-F.Bin op a b) (λ t v s. let p = both_true _ _ t in two_small op (word_of a v) (word_of b v) (ha p.0 v s) (hb p.1 v s));
  fn1 = λ f a ha. by_layer (CExpr-F.Fn1 f a) (λ t v s. one_small (fn1_of f) (word_of a v) (fn1_small f));
  fn2 = λ f a b ha hb. by_layer (CExpr-F.Fn2 f a b) (λ t v s. let p = both_true _ _ t in pair_small f (word_of a v) (word_of b v) (ha p.0 v s));
  fn3 = λ f a b d ha hb hd. by_layer (CExpr-F.Fn3 f a b d) (λ t v s. three_small f (word_of a v) (word_of b v) (word_of d v));
  pick = λ c a b hc ha hb. by_layer (CExpr-F.Pick c a b) (λ t v s.
      let p = both_true (cond_has_flow_names c) (has_flow_names a && has_flow_names b) t in
      let q = both_true (has_flow_names a) (has_flow_names b) p.1 in
      picked_small (truth_of c v) (word_of a v) (word_of b v) (ha q.0 v s) (hb q.1 v s));
  cmp = λ op a b ha hb. tt;
  not_cond = λ t ht. tt;
  both = λ t u ht hu. tt;
  either = λ t u ht hu. tt;
}

-- the value of a Word whose numbers are words, where each name has a word
pub value_small : (a : CExpr) → IsSmall a
value_small a = every_word cases a
