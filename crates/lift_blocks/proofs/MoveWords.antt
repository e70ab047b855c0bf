-- What the words of moves give.
use Rattle.std.proofs.Common.{◌≡◌, ℕ, ℤ, pos, negsuc, ◌+◌, ◌-◌, ◌^◌, ◌<◌, ◌≤◌, ◌-ℤ◌, Bool, true, false, nat_le, Some, refl, sym, ap, ◌∙◌, arith}
use Rattle.std.specs.Prelude.{if◌then◌else◌, unsigned_abs}
use Rattle.std.specs.Int.{int_rem_euclid}
use Rattle.std.proofs.lemmas.Bool.Decides.{nat_tests}
use Rattle.std.proofs.lemmas.Int.{int_rem_euclid_is, ints}
use Rattle.std.proofs.Math.Nat.{mod-eq_of_lt}
use Rattle.dream_words.specs.declared.machine.Name.{Name}
use Rattle.dream_words.specs.Words.{bit_of, low_part, shifted_signed, sign_bit, sign_extended, signed_part, word_of as word_taken}
use Rattle.run_parts.specs.World.{Names}
use Rattle.x86_inst.specs.declared.Size.{Size}
use Rattle.x86_inst.specs.declared.Size.TheVariants.{B, H, W}
use Rattle.x86_model.specs.Operands.{bits_of}
use Rattle.c_syntax.specs.declared.syntax.CBin.{CBin}
use Rattle.c_syntax.specs.declared.syntax.CFn1.{CFn1}
use Rattle.c_syntax.specs.declared.syntax.CFn1.TheVariants.{Sx1, Sx2}
use Rattle.c_syntax.specs.declared.syntax.CFn2.{CFn2}
use Rattle.c_syntax.specs.declared.syntax.CExpr.{CExpr}
use Rattle.c_syntax.specs.declared.syntax.CCond.{CCond}
use Rattle.c_syntax.specs.Value.{truth_of, word_of}
use Rattle.c_syntax.specs.Words.{bin_of, fn1_of, fn2_of}
use Rattle.c_words.specs.Built.{bin, fn1, fn2, name, num, pick, word_if, word_not}
use Rattle.c_words.proofs.Layers.{word_layer}
use Rattle.lift_parts.proofs.Values.{low_again}
use Rattle.lift_blocks.specs.Extended.{extended}

-- ---- one layer

pub num_value : (v : Names) (n : ℕ) → word_of (num n) v ≡ Some n
num_value v n = simp word_layer

pub name_value : (v : Names) (n : Name) → word_of (name n) v ≡ Some (v n)
name_value v n = simp word_layer

pub not_value : (v : Names) (e : CExpr) (x : ℕ) → word_of e v ≡ Some x → word_of (word_not e) v ≡ Some (2 ^ 32 - 1 - x)
not_value v e x h = simp (word_layer, h)

pub bin_value : (v : Names) (op : CBin) (a b : CExpr) (x y : ℕ) → word_of a v ≡ Some x → word_of b v ≡ Some y → word_of (bin op a b) v ≡ bin_of op x y
bin_value v op a b x y h k = simp (word_layer, h, k)

fn1_value : (v : Names) (f : CFn1) (e : CExpr) (x : ℕ) → word_of e v ≡ Some x → word_of (fn1 f e) v ≡ Some (fn1_of f x)
fn1_value v f e x h = simp (word_layer, h)

pub fn2_value : (v : Names) (f : CFn2) (a b : CExpr) (x y : ℕ) → word_of a v ≡ Some x → word_of b v ≡ Some y → word_of (fn2 f a b) v ≡ Some (fn2_of f x y)
fn2_value v f a b x y h k = simp (word_layer, h, k)

pub word_if_value : (v : Names) (t : CCond) (p : Bool) → truth_of t v ≡ Some p → word_of (word_if t) v ≡ Some (bit_of p)
word_if_value v t true h = simp (word_layer, h)
word_if_value v t false h = simp (word_layer, h)

pub pick_value : (v : Names) (t : CCond) (a b : CExpr) (x y : ℕ) (p : Bool) → truth_of t v ≡ Some p → word_of a v ≡ Some x → word_of b v ≡ Some y
    → word_of (pick t a b) v ≡ Some (if p then x else y)
pick_value v t a b x y true h k l = simp (word_layer, h, k)
pick_value v t a b x y false h k l = simp (word_layer, h, l)

-- ---- low parts

-- a word whose low part is a value has the low part of the value
pub same_low : (size : Size) (x y : ℕ) → low_part (bits_of size) x ≡ y → low_part (bits_of size) x ≡ low_part (bits_of size) y
same_low size x y h = sym (ap (low_part (bits_of size)) (sym h) ∙ low_again size x)

-- the complement of a value is that of its word
pub low_not : (size : Size) (x y : ℕ) → x < 2 ^ 32 → low_part (bits_of size) x ≡ y
    → low_part (bits_of size) (2 ^ 32 - 1 - x) ≡ low_part (bits_of size) (2 ^ bits_of size - 1 - y)
low_not B x y l h = omega arith
low_not H x y l h = omega arith
low_not W x y l h = omega arith

-- ---- extension by the sign

-- what it gives, by the sign
abbrev pub extended_by : Bool → ℕ → ℕ → ℕ
extended_by true full low = low + (2 ^ 32 - full)
extended_by false full low = low

taken : (s : Bool) (full low : ℕ) → low < full → full ≤ 2 ^ 32
    → unsigned_abs (int_rem_euclid (if s then pos low -ℤ pos full else pos low) (pos (2 ^ 32))) ≡ extended_by s full low
taken true full low h k =
    ap unsigned_abs (int_rem_euclid_is (pos low -ℤ pos full) (pos (2 ^ 32)) (2 ^ 32) 1 (low + (2 ^ 32 - full)) (omega arith) refl (omega (arith, ints))) ∙ mod-eq_of_lt (omega arith)
taken false full low h k = mod-eq_of_lt (omega arith)

pub extended_is : (size : Size) (x : ℕ) → sign_extended (bits_of size) x ≡ extended_by (sign_bit (bits_of size) x) (2 ^ bits_of size) (low_part (bits_of size) x)
extended_is B x = taken (sign_bit 8 x) (2 ^ 8) (low_part 8 x) (omega arith) (omega arith)
extended_is H x = taken (sign_bit 16 x) (2 ^ 16) (low_part 16 x) (omega arith) (omega arith)
extended_is W x = taken (sign_bit 32 x) (2 ^ 32) (low_part 32 x) (omega arith) (omega arith)

-- by the low part alone
pub extended_again : (size : Size) (x y : ℕ) → low_part (bits_of size) x ≡ y → sign_extended (bits_of size) x ≡ sign_extended (bits_of size) y
extended_again size x y h =
    ap (λ l. word_taken 32 (if nat_le (2 ^ (bits_of size - 1)) l then pos l -ℤ pos (2 ^ bits_of size) else pos l)) (same_low size x y h)

extended_whole : (s : Bool) (x : ℕ) → extended_by s (2 ^ 32) x ≡ x
extended_whole true x = omega arith
extended_whole false x = refl

word_fits : (z : ℤ) → word_taken 32 z < 2 ^ 32
word_fits (pos a) = omega arith
word_fits (negsuc a) = omega arith

pub extended_below : (size : Size) (x : ℕ) → sign_extended (bits_of size) x < 2 ^ 32
extended_below size x = word_fits (signed_part (bits_of size) x)

pub extended_value : (v : Names) (size : Size) (e : CExpr) (x : ℕ) → word_of e v ≡ Some x → x < 2 ^ 32 → word_of (extended size e) v ≡ Some (sign_extended (bits_of size) x)
extended_value v B e x h l = fn1_value v Sx1 e x h
extended_value v H e x h l = fn1_value v Sx2 e x h
extended_value v W e x h l = h ∙ ap Some (sym (extended_is W x ∙ ap (extended_by (sign_bit 32 x) (2 ^ 32)) (mod-eq_of_lt l) ∙ extended_whole (sign_bit 32 x) x))

-- ---- copies of the sign

-- an extended word is shifted until its sign alone is left
spread_by : (s : Bool) (half low : ℕ) → half ≤ 2 ^ 31 → low < half + half → nat_le half low ≡ s
    → shifted_signed (extended_by s (half + half) low) 31 ≡ (if s then 2 ^ 32 - 1 else 0)
spread_by true half low k l h =
    let p : half ≤ low = grind (arith, nat_tests) in
    let t : sign_bit 32 (low + (2 ^ 32 - (half + half))) ≡ true = grind (arith, nat_tests) in
    rw t (omega arith)
spread_by false half low k l h =
    let p : low < half = grind (arith, nat_tests) in
    let t : sign_bit 32 low ≡ false = grind (arith, nat_tests) in
    rw t (omega arith)

pub spread_is : (size : Size) (x : ℕ) → shifted_signed (sign_extended (bits_of size) x) 31 ≡ (if sign_bit (bits_of size) x then 2 ^ 32 - 1 else 0)
spread_is B x = ap (λ z. shifted_signed z 31) (extended_is B x) ∙ spread_by (sign_bit 8 x) (2 ^ 7) (low_part 8 x) (omega arith) (omega arith) refl
spread_is H x = ap (λ z. shifted_signed z 31) (extended_is H x) ∙ spread_by (sign_bit 16 x) (2 ^ 15) (low_part 16 x) (omega arith) (omega arith) refl
spread_is W x = ap (λ z. shifted_signed z 31) (extended_is W x) ∙ spread_by (sign_bit 32 x) (2 ^ 31) (low_part 32 x) (omega arith) (omega arith) refl

pub sign_again : (size : Size) (x y : ℕ) → low_part (bits_of size) x ≡ y → sign_bit (bits_of size) x ≡ sign_bit (bits_of size) y
sign_again size x y h = ap (nat_le (2 ^ (bits_of size - 1))) (same_low size x y h)

pub ones_below : (s : Bool) → (if s then 2 ^ 32 - 1 else 0) < 2 ^ 32
ones_below true = omega arith
ones_below false = omega arith

-- all ones of 32 bits are all ones of a size
pub low_ones : (size : Size) (s : Bool) → low_part (bits_of size) (if s then 2 ^ 32 - 1 else 0) ≡ low_part (bits_of size) (if s then 2 ^ bits_of size - 1 else 0)
low_ones B true = refl
low_ones H true = refl
low_ones W true = refl
low_ones B false = refl
low_ones H false = refl
low_ones W false = refl
