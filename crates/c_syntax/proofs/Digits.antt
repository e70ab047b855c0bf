-- The digits of a number are bytes that go on with a number, and with a word.
use Rattle.std.proofs.Common.{◌≡◌, ℕ, zero, suc, ◌/◌, ◌%◌, ◌<◌, Bool, true, false, ◌||◌, cond, List, [], ◌∷◌, ◌++◌, refl, arith, nat_eq}
use Rattle.std.specs.Fmt.{digits, digits_onto, digit_glyph}
use Rattle.c_syntax.specs.Lex.{is_letter, is_digit, begins_word}
use Rattle.c_syntax.specs.Spelling.{last_digits, decimal}
use Rattle.c_syntax.proofs.Induct.{Each}

-- a byte that a number takes
abbrev pub in_number : ℕ → Bool
in_number b = is_letter b || is_digit b

-- a byte that a word takes
abbrev pub in_word : ℕ → Bool
in_word b = begins_word b || is_digit b

-- bytes that a number takes
abbrev pub Tail : List ℕ → Type 0
Tail = Each (λ b. in_number b ≡ true)

-- bytes that a word takes
abbrev pub WordTail : List ℕ → Type 0
WordTail = Each (λ b. in_word b ≡ true)

-- what is a letter or a digit is a letter, `_` or a digit
also_low : (l u d : Bool) → (l || d) ≡ true → ((l || u) || d) ≡ true
also_low true u d h = refl
also_low false true d h = refl
also_low false false d h = h

-- what a number takes a word takes too
pub word_tail : (w : List ℕ) → Tail w → WordTail w
word_tail [] h = tt
word_tail (b ∷ w) h = (also_low (is_letter b) (nat_eq b 95) (is_digit b) h.0, word_tail w h.1)

-- what holds of each of two lists holds of them together
pub each_append : (P : ℕ → Type 0) (v w : List ℕ) → Each P v → Each P w → Each P (v ++ w)
each_append P [] w h k = k
each_append P (b ∷ v) w h k = (h.0, each_append P v w h.1 k)

-- a hexadecimal digit is such a byte
glyph_byte : (d : ℕ) → d < 16 → in_number (digit_glyph false d) ≡ true
glyph_byte zero h = refl
glyph_byte (suc zero) h = refl
glyph_byte (suc (suc zero)) h = refl
glyph_byte (suc (suc (suc zero))) h = refl
glyph_byte (suc (suc (suc (suc zero)))) h = refl
glyph_byte (suc (suc (suc (suc (suc zero))))) h = refl
glyph_byte (suc (suc (suc (suc (suc (suc zero)))))) h = refl
glyph_byte (suc (suc (suc (suc (suc (suc (suc zero))))))) h = refl
glyph_byte (suc (suc (suc (suc (suc (suc (suc (suc zero)))))))) h = refl
glyph_byte (suc (suc (suc (suc (suc (suc (suc (suc (suc zero))))))))) h = refl
glyph_byte (suc (suc (suc (suc (suc (suc (suc (suc (suc (suc zero)))))))))) h = refl
glyph_byte (suc (suc (suc (suc (suc (suc (suc (suc (suc (suc (suc zero))))))))))) h = refl
glyph_byte (suc (suc (suc (suc (suc (suc (suc (suc (suc (suc (suc (suc zero)))))))))))) h = refl
glyph_byte (suc (suc (suc (suc (suc (suc (suc (suc (suc (suc (suc (suc (suc zero))))))))))))) h = refl
glyph_byte (suc (suc (suc (suc (suc (suc (suc (suc (suc (suc (suc (suc (suc (suc zero)))))))))))))) h = refl
glyph_byte (suc (suc (suc (suc (suc (suc (suc (suc (suc (suc (suc (suc (suc (suc (suc zero))))))))))))))) h = refl
glyph_byte (suc (suc (suc (suc (suc (suc (suc (suc (suc (suc (suc (suc (suc (suc (suc (suc d)))))))))))))))) h = absurd (omega arith)

-- one of two lists of such bytes
either_tail : (b : Bool) (x y : List ℕ) → Tail x → Tail y → Tail (cond b x y)
either_tail true x y h k = h
either_tail false x y h k = k

-- the digits of a number in a base up to 16 are such bytes
digits_tail : (base : ℕ) → ((n : ℕ) → n % base < 16) → (k n : ℕ) (acc : List ℕ) → Tail acc → Tail (digits_onto k base false n acc)
digits_tail base low zero n acc h = h
digits_tail base low (suc k) n acc h =
    either_tail (nat_eq (n / base) 0) (digit_glyph false (n % base) ∷ acc) (digits_onto k base false (n / base) (digit_glyph false (n % base) ∷ acc)) (glyph_byte (n % base) (low n), h)
    (digits_tail base low k (n / base) (digit_glyph false (n % base) ∷ acc) (glyph_byte (n % base) (low n), h))

-- those of a hexadecimal number
pub hex_tail : (n : ℕ) → Tail (digits 16 false n)
unfolding digits
hex_tail n = digits_tail 16 (λ n. omega arith) 64 n [] tt

-- those of a decimal number
pub decimal_tail : (n : ℕ) → Tail (decimal n)
unfolding digits
decimal_tail n = digits_tail 10 (λ n. omega arith) 64 n [] tt

-- those of an address
pub last_tail : (k n : ℕ) → Tail (last_digits k n)
last_tail zero n = tt
last_tail (suc k) n = each_append (λ b. in_number b ≡ true) (last_digits k (n / 16)) (digit_glyph false (n % 16) ∷ []) (last_tail k (n / 16)) (glyph_byte (n % 16) (omega arith), tt)
