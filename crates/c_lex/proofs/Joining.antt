-- When two lists of bytes are equal, part by part.
use Rattle.std.proofs.Common.{◌≡◌, ℕ, ◌/◌, ◌%◌, ◌^◌, ◌<◌, ◌≤◌, Bool, true, false, ◌&&◌, nat_eq, List, [], ◌∷◌, ◌++◌, length, take, drop, codes, refl, sym, ap, ◌∙◌, arith, append_assoc, ⊎_elim}
use Rattle.std.specs.Str.{bytes_eq}
use Rattle.std.specs.Fmt.{digit_glyph, digits}
use Rattle.std.proofs.lemmas.Fmt.{hex_one_digit}
use Rattle.std.proofs.lemmas.Bool.{cases_lt}
use Rattle.c_syntax.specs.Spelling.{num_text}
use Rattle.c_lex.proofs.Hexadecimals.{hexadecimal_step}

and_false : (b c : Bool) → c ≡ false → (b && c) ≡ false
and_false true c h = h
and_false false c h = refl

and_first : (b c d e : Bool) → c ≡ (d && e) → (b && c) ≡ ((b && d) && e)
and_first true c d e h = h
and_first false c d e h = refl

and_last : (b c d e : Bool) → c ≡ (e && d) → (b && c) ≡ (e && (b && d))
and_last true c d e h = h
and_last false c d true h = refl
and_last false c d false h = refl

-- two texts one after the other
pub joined : (s p q : List ℕ) → length p ≤ length s → bytes_eq s (p ++ q) ≡ (bytes_eq (take (length p) s) p && bytes_eq (drop (length p) s) q)
joined s [] q h = refl
joined [] (x ∷ p) q h = absurd (omega arith)
joined (a ∷ s) (x ∷ p) q h = and_first (nat_eq a x) (bytes_eq s (p ++ q)) (bytes_eq (take (length p) s) p) (bytes_eq (drop (length p) s) q) (joined s p q (omega arith))

pub too_short : (s p q : List ℕ) → length s < length p → bytes_eq s (p ++ q) ≡ false
too_short [] [] q h = absurd (omega arith)
too_short [] (x ∷ p) q h = refl
too_short (a ∷ s) [] q h = absurd (omega arith)
too_short (a ∷ s) (x ∷ p) q h = and_false (nat_eq a x) (bytes_eq s (p ++ q)) (too_short s p q (omega arith))

-- the last byte apart
pub by_last : (p q : List ℕ) (x y : ℕ) → bytes_eq (p ++ x ∷ []) (q ++ y ∷ []) ≡ (nat_eq x y && bytes_eq p q)
by_last [] [] x y = refl
by_last [] (b ∷ []) x y = and_false (nat_eq x b) false refl ∙ sym (and_false (nat_eq x y) false refl)
by_last [] (b ∷ (c ∷ q)) x y = and_false (nat_eq x b) false refl ∙ sym (and_false (nat_eq x y) false refl)
by_last (a ∷ []) [] x y = and_false (nat_eq a y) false refl ∙ sym (and_false (nat_eq x y) false refl)
by_last (a ∷ (c ∷ p)) [] x y = and_false (nat_eq a y) false refl ∙ sym (and_false (nat_eq x y) false refl)
by_last (a ∷ p) (b ∷ q) x y = and_last (nat_eq a b) (bytes_eq (p ++ x ∷ []) (q ++ y ∷ [])) (bytes_eq p q) (nat_eq x y) (by_last p q x y)

-- `0x` and the digits of a number, the last digit apart
pub one_digit : (s front : List ℕ) (last n : ℕ) → s ≡ front ++ last ∷ [] → n < 16
    → bytes_eq s (codes "0x" ++ digits 16 false n) ≡ (nat_eq last (digit_glyph false (n % 16)) && bytes_eq front (codes "0x"))
one_digit s front last n e h =
    let m : n % 16 ≡ n = omega arith in
    ap (λ t. bytes_eq t (codes "0x" ++ digits 16 false n)) e
    ∙ ap (λ t. bytes_eq (front ++ last ∷ []) (codes "0x" ++ t)) (hex_one_digit false n h)
    ∙ by_last front (codes "0x") last (digit_glyph false n)
    ∙ ap (λ k. nat_eq last (digit_glyph false k) && bytes_eq front (codes "0x")) (sym m)

pub more_digits : (s front : List ℕ) (last n : ℕ) → s ≡ front ++ last ∷ [] → 16 ≤ n → n < 2 ^ 32
    → bytes_eq s (codes "0x" ++ digits 16 false n) ≡ (nat_eq last (digit_glyph false (n % 16)) && bytes_eq front (codes "0x" ++ digits 16 false (n / 16)))
more_digits s front last n e h l =
    ap (λ t. bytes_eq t (codes "0x" ++ digits 16 false n)) e
    ∙ ap (λ t. bytes_eq (front ++ last ∷ []) (codes "0x" ++ t)) (hexadecimal_step n h l)
    ∙ ap (bytes_eq (front ++ last ∷ [])) (sym (append_assoc (codes "0x") (digits 16 false (n / 16)) (digit_glyph false (n % 16) ∷ [])))
    ∙ by_last front (codes "0x" ++ digits 16 false (n / 16)) last (digit_glyph false (n % 16))

-- where the last digit is another
pub other_digit : (s front : List ℕ) (last n : ℕ) → s ≡ front ++ last ∷ [] → n < 2 ^ 32 → nat_eq last (digit_glyph false (n % 16)) ≡ false
    → bytes_eq s (codes "0x" ++ digits 16 false n) ≡ false
other_digit s front last n e l h = ⊎_elim
    (λ k. one_digit s front last n e k ∙ ap (λ q. q && bytes_eq front (codes "0x")) h)
    (λ k. more_digits s front last n e k l ∙ ap (λ q. q && bytes_eq front (codes "0x" ++ digits 16 false (n / 16))) h)
    (cases_lt n 16)

-- a number, its `u` apart
pub with_u : (s front : List ℕ) (last n : ℕ) → s ≡ front ++ last ∷ [] → bytes_eq s (num_text n) ≡ (nat_eq last 117 && bytes_eq front (codes "0x" ++ digits 16 false n))
with_u s front last n e =
    ap (λ t. bytes_eq t (num_text n)) e
    ∙ ap (bytes_eq (front ++ last ∷ [])) (sym (append_assoc (codes "0x") (digits 16 false n) (codes "u")))
    ∙ by_last front (codes "0x" ++ digits 16 false n) last 117
