-- Each token is found by its spelling, and what is found is a token.
use Rattle.std.proofs.Common.{◌≡◌, ℕ, zero, suc, ◌+◌, ◌*◌, ◌/◌, ◌%◌, ◌^◌, ◌<◌, Bool, true, false, ◌&&◌, cond, if◌then◌else◌, List, [], ◌∷◌, ◌++◌, Option, Some, None, refl, sym, ap, ◌∙◌, subst, arith, nat_eq, append_assoc, append-nil, codes, length}
use Rattle.std.proofs.lemmas.Bool.{eqb-true}
use Rattle.std.proofs.lemmas.Slice.Eq.{bytes_eq-Decides}
use Rattle.std.specs.Fmt.{digits, digits_onto, digit_glyph}
use Rattle.std.specs.Str.{bytes_eq}
use Rattle.dream_words.specs.declared.machine.Width.TheVariants as width
use Rattle.dream_words.specs.declared.machine.Name.TheVariants as name
use Rattle.c_syntax.specs.declared.syntax.CBin.TheVariants as bin
use Rattle.c_syntax.specs.declared.syntax.CCmp.TheVariants as cmp
use Rattle.c_syntax.specs.declared.syntax.CFn1.TheVariants as fn1
use Rattle.c_syntax.specs.declared.syntax.CFn2.TheVariants as fn2
use Rattle.c_syntax.specs.declared.syntax.CFn3.TheVariants as fn3
use Rattle.c_syntax.specs.declared.token.Token.{Token}
use Rattle.c_syntax.specs.declared.token.Token.TheVariants as tok
use Rattle.c_syntax.specs.Lex.{is_digit}
use Rattle.c_syntax.specs.Spelling.{spelling, last_digits, decimal}
use Rattle.c_lex.specs.Lexemes.{IsToken, IsTokenOf}
use Rattle.c_lex.specs.Candidates.{value, read, fixed, find, local, candidate}

-- a digit counts by its value
read_glyph : (base d n : ℕ) (bs : List ℕ) → d < 16 → read base n (digit_glyph false d ∷ bs) ≡ read base ((base * n + d) % 2 ^ 32) bs
read_glyph base zero n bs h = refl
read_glyph base (suc zero) n bs h = refl
read_glyph base (suc (suc zero)) n bs h = refl
read_glyph base (suc (suc (suc zero))) n bs h = refl
read_glyph base (suc (suc (suc (suc zero)))) n bs h = refl
read_glyph base (suc (suc (suc (suc (suc zero))))) n bs h = refl
read_glyph base (suc (suc (suc (suc (suc (suc zero)))))) n bs h = refl
read_glyph base (suc (suc (suc (suc (suc (suc (suc zero))))))) n bs h = refl
read_glyph base (suc (suc (suc (suc (suc (suc (suc (suc zero)))))))) n bs h = refl
read_glyph base (suc (suc (suc (suc (suc (suc (suc (suc (suc zero))))))))) n bs h = refl
read_glyph base (suc (suc (suc (suc (suc (suc (suc (suc (suc (suc zero)))))))))) n bs h = refl
read_glyph base (suc (suc (suc (suc (suc (suc (suc (suc (suc (suc (suc zero))))))))))) n bs h = refl
read_glyph base (suc (suc (suc (suc (suc (suc (suc (suc (suc (suc (suc (suc zero)))))))))))) n bs h = refl
read_glyph base (suc (suc (suc (suc (suc (suc (suc (suc (suc (suc (suc (suc (suc zero))))))))))))) n bs h = refl
read_glyph base (suc (suc (suc (suc (suc (suc (suc (suc (suc (suc (suc (suc (suc (suc zero)))))))))))))) n bs h = refl
read_glyph base (suc (suc (suc (suc (suc (suc (suc (suc (suc (suc (suc (suc (suc (suc (suc zero))))))))))))))) n bs h = refl
read_glyph base (suc (suc (suc (suc (suc (suc (suc (suc (suc (suc (suc (suc (suc (suc (suc (suc d)))))))))))))))) n bs h = absurd (omega arith)

-- two cases
by_bool : {P : Type 0} (x : Bool) → (x ≡ true → P) → (x ≡ false → P) → P
by_bool true f g = f refl
by_bool false f g = g refl

-- powers, by recursion
abbrev pow2 : ℕ → ℕ
pow2 zero = 1
pow2 (suc k) = 2 * pow2 k

-- the word that two parts of a number make
abbrev whole : ℕ → ℕ → ℕ → ℕ
whole base q r = (base * q + r) % 2 ^ 32

module _ (base : ℕ) (low : (n : ℕ) → n % base < 16) (splits : (n : ℕ) → n < 2 ^ 32 → whole base (n / base) (n % base) ≡ n) (falls : (n m : ℕ) → n < 2 * m → n / base < m)
    (smaller : (n : ℕ) → n < 2 ^ 32 → n / base < 2 ^ 32) where
  -- what is read of the digits of a number is the number
  read_digits : (k n : ℕ) (bs : List ℕ) → n < pow2 k → n < 2 ^ 32 → read base 0 (digits_onto k base false n bs) ≡ read base n bs
  read_digits zero n bs h l = let e : 0 ≡ n = omega arith in ap (λ q. read base q bs) e
  read_digits (suc k) n bs h l = by_bool (nat_eq (n / base) 0)
      (λ e. ap (λ q. read base 0 (if q then digit_glyph false (n % base) ∷ bs else digits_onto k base false (n / base) (digit_glyph false (n % base) ∷ bs))) e
      ∙ read_glyph base (n % base) 0 bs (low n) ∙ ap (λ q. read base q bs) (ap (λ q. whole base q (n % base)) (sym (eqb-true (n / base) 0 e)) ∙ splits n l))
      (λ e. ap (λ q. read base 0 (if q then digit_glyph false (n % base) ∷ bs else digits_onto k base false (n / base) (digit_glyph false (n % base) ∷ bs))) e
      ∙ read_digits k (n / base) (digit_glyph false (n % base) ∷ bs) (falls n (pow2 k) h) (smaller n l)
      ∙ read_glyph base (n % base) (n / base) bs (low n) ∙ ap (λ q. read base q bs) (splits n l))

-- powers of 16, by recursion
abbrev pow16 : ℕ → ℕ
pow16 zero = 1
pow16 (suc k) = 16 * pow16 k

-- a digit less
below16 : (n m : ℕ) → n < 16 * m → n / 16 < m
below16 n m h = omega arith

splits16 : (n : ℕ) → n < 2 ^ 32 → whole 16 (n / 16) (n % 16) ≡ n
splits16 n l = omega arith

splits10 : (n : ℕ) → n < 2 ^ 32 → whole 10 (n / 10) (n % 10) ≡ n
splits10 n l = omega arith

-- what is read of the digits of an address is the address
read_last : (k n : ℕ) (bs : List ℕ) → n < pow16 k → n < 2 ^ 32 → read 16 0 (last_digits k n ++ bs) ≡ read 16 n bs
read_last zero n bs h l = let e : 0 ≡ n = omega arith in ap (λ q. read 16 q bs) e
read_last (suc k) n bs h l =
    ap (read 16 0) (append_assoc (last_digits k (n / 16)) (digit_glyph false (n % 16) ∷ []) bs)
    ∙ read_last k (n / 16) (digit_glyph false (n % 16) ∷ bs) (below16 n (pow16 k) h) (omega arith)
    ∙ read_glyph 16 (n % 16) (n / 16) bs (omega arith)
    ∙ ap (λ q. read 16 q bs) (splits16 n l)

-- with what follows them
digits_then : (k base n : ℕ) (bs cs : List ℕ) → digits_onto k base false n bs ++ cs ≡ digits_onto k base false n (bs ++ cs)
digits_then zero base n bs cs = refl
digits_then (suc k) base n bs cs = by_bool (nat_eq (n / base) 0)
    (λ e. ap (λ q. (if q then digit_glyph false (n % base) ∷ bs else digits_onto k base false (n / base) (digit_glyph false (n % base) ∷ bs)) ++ cs) e
    ∙ ap (λ q. if q then digit_glyph false (n % base) ∷ (bs ++ cs) else digits_onto k base false (n / base) (digit_glyph false (n % base) ∷ (bs ++ cs))) (sym e))
    (λ e. ap (λ q. (if q then digit_glyph false (n % base) ∷ bs else digits_onto k base false (n / base) (digit_glyph false (n % base) ∷ bs)) ++ cs) e
    ∙ digits_then k base (n / base) (digit_glyph false (n % base) ∷ bs) cs
    ∙ ap (λ q. if q then digit_glyph false (n % base) ∷ (bs ++ cs) else digits_onto k base false (n / base) (digit_glyph false (n % base) ∷ (bs ++ cs))) (sym e))

-- it begins with a decimal digit
abbrev First : List ℕ → Type 0
First [] = ⊥
First (b ∷ bs) = is_digit b ≡ true

-- a decimal digit is one
glyph_digit : (d : ℕ) → d < 10 → is_digit (digit_glyph false d) ≡ true
glyph_digit zero h = refl
glyph_digit (suc zero) h = refl
glyph_digit (suc (suc zero)) h = refl
glyph_digit (suc (suc (suc zero))) h = refl
glyph_digit (suc (suc (suc (suc zero)))) h = refl
glyph_digit (suc (suc (suc (suc (suc zero))))) h = refl
glyph_digit (suc (suc (suc (suc (suc (suc zero)))))) h = refl
glyph_digit (suc (suc (suc (suc (suc (suc (suc zero))))))) h = refl
glyph_digit (suc (suc (suc (suc (suc (suc (suc (suc zero)))))))) h = refl
glyph_digit (suc (suc (suc (suc (suc (suc (suc (suc (suc zero))))))))) h = refl
glyph_digit (suc (suc (suc (suc (suc (suc (suc (suc (suc (suc d)))))))))) h = absurd (omega arith)

-- one of two that begin so
either_first : (b : Bool) (x y : List ℕ) → First x → First y → First (cond b x y)
either_first true x y h k = h
either_first false x y h k = k

-- decimal digits begin so
digits_first : (k n : ℕ) (bs : List ℕ) → First bs → First (digits_onto k 10 false n bs)
digits_first zero n bs h = h
digits_first (suc k) n bs h =
    either_first (nat_eq (n / 10) 0) (digit_glyph false (n % 10) ∷ bs) (digits_onto k 10 false (n / 10) (digit_glyph false (n % 10) ∷ bs)) (glyph_digit (n % 10) (omega arith))
    (digits_first k (n / 10) (digit_glyph false (n % 10) ∷ bs) (glyph_digit (n % 10) (omega arith)))

decimal_first : (n : ℕ) → First (decimal n)
unfolding digits
decimal_first n =
    either_first (nat_eq (n / 10) 0) (digit_glyph false (n % 10) ∷ []) (digits_onto 63 10 false (n / 10) (digit_glyph false (n % 10) ∷ [])) (glyph_digit (n % 10) (omega arith))
    (digits_first 63 (n / 10) (digit_glyph false (n % 10) ∷ []) (glyph_digit (n % 10) (omega arith)))

-- what is read of the spelling of a number is the number
read_decimal : (n : ℕ) → n < 2 ^ 32 → read 10 0 (decimal n) ≡ n
unfolding digits
read_decimal n h = read_digits 10 (λ n. omega arith) splits10 (λ n m h. omega arith) (λ n h. omega arith) 64 n [] (omega arith) h

read_hex : (n : ℕ) → n < 2 ^ 32 → read 16 0 (digits 16 false n ++ codes "u") ≡ n
unfolding digits
read_hex n h =
    ap (read 16 0) (digits_then 64 16 n [] (codes "u")) ∙ read_digits 16 (λ n. omega arith) splits16 (λ n m h. omega arith) (λ n h. omega arith) 64 n (codes "u") (omega arith) h

read_address : (n : ℕ) → n < 2 ^ 32 → read 16 0 (last_digits 8 n) ≡ n
read_address n h = ap (read 16 0) (sym (append-nil (last_digits 8 n))) ∙ read_last 8 n [] h h

-- a local is found by its letter and its number
local_of : (a : ℕ) (w : List ℕ) → nat_eq a 48 ≡ false → nat_eq a 102 ≡ false → First w → candidate (a ∷ w) ≡ Some (tok.Name (local a (read 10 0 w)))
local_of a [] h k f = absurd f
local_of a (b ∷ bs) h k f =
    ap (λ q. if q && nat_eq b 120 then Some (tok.Num (read 16 0 bs)) else if nat_eq a 102 && nat_eq b 95 then Some (tok.Function (read 16 0 bs)) else if is_digit b then Some (tok.Name (local a (read 10 0 (b ∷ bs)))) else find fixed (a ∷ b ∷ bs)) h
    ∙ ap (λ q. if q && nat_eq b 95 then Some (tok.Function (read 16 0 bs)) else if is_digit b then Some (tok.Name (local a (read 10 0 (b ∷ bs)))) else find fixed (a ∷ b ∷ bs)) k
    ∙ ap (λ q. if q then Some (tok.Name (local a (read 10 0 (b ∷ bs)))) else find fixed (a ∷ b ∷ bs)) f

-- each token is found by its spelling
token_found : (x : Token) → IsToken x → candidate (spelling x) ≡ Some x
token_found (tok.Num n) h = ap (λ q. Some (tok.Num q)) (read_hex n h)
token_found (tok.Function n) h = ap (λ q. Some (tok.Function q)) (read_address n h)
token_found (tok.Name (name.T n)) h = local_of 116 (decimal n) refl refl (decimal_first n) ∙ ap (λ q. Some (tok.Name (name.T q))) (read_decimal n h)
token_found (tok.Name (name.B n)) h = local_of 98 (decimal n) refl refl (decimal_first n) ∙ ap (λ q. Some (tok.Name (name.B q))) (read_decimal n h)
token_found (tok.Name (name.S n)) h = local_of 115 (decimal n) refl refl (decimal_first n) ∙ ap (λ q. Some (tok.Name (name.S q))) (read_decimal n h)
token_found tok.Open h = refl
token_found tok.Close h = refl
token_found tok.Begin h = refl
token_found tok.End h = refl
token_found tok.Semicolon h = refl
token_found tok.Colon h = refl
token_found tok.Comma h = refl
token_found tok.Question h = refl
token_found tok.Assign h = refl
token_found tok.Tilde h = refl
token_found tok.Bang h = refl
token_found tok.Both h = refl
token_found tok.Either h = refl
token_found tok.Ext h = refl
token_found tok.Trap h = refl
token_found tok.If h = refl
token_found tok.Else h = refl
token_found tok.Switch h = refl
token_found tok.Case h = refl
token_found tok.Default h = refl
token_found tok.While h = refl
token_found tok.Do h = refl
token_found tok.Break h = refl
token_found tok.Return h = refl
token_found tok.Void h = refl
token_found tok.Uint32 h = refl
token_found tok.Zero h = refl
token_found tok.One h = refl
token_found (tok.Op bin.Add) h = refl
token_found (tok.Op bin.Sub) h = refl
token_found (tok.Op bin.Mul) h = refl
token_found (tok.Op bin.And) h = refl
token_found (tok.Op bin.Or) h = refl
token_found (tok.Op bin.Xor) h = refl
token_found (tok.Op bin.Shl) h = refl
token_found (tok.Op bin.Shr) h = refl
token_found (tok.Compare cmp.Eq) h = refl
token_found (tok.Compare cmp.Ne) h = refl
token_found (tok.Compare cmp.Lt) h = refl
token_found (tok.Compare cmp.Le) h = refl
token_found (tok.Fn1 fn1.Sx1) h = refl
token_found (tok.Fn1 fn1.Sx2) h = refl
token_found (tok.Fn1 fn1.Par) h = refl
token_found (tok.Fn1 fn1.Bsf) h = refl
token_found (tok.Fn1 fn1.Bsr) h = refl
token_found (tok.Fn2 fn2.Sar) h = refl
token_found (tok.Fn2 fn2.Lts) h = refl
token_found (tok.Fn2 fn2.Mulhu) h = refl
token_found (tok.Fn2 fn2.Mulhs) h = refl
token_found (tok.Fn3 fn3.Divubad) h = refl
token_found (tok.Fn3 fn3.Divuq) h = refl
token_found (tok.Fn3 fn3.Divur) h = refl
token_found (tok.Fn3 fn3.Divsbad) h = refl
token_found (tok.Fn3 fn3.Divsq) h = refl
token_found (tok.Fn3 fn3.Divsr) h = refl
token_found (tok.Ld width.B) h = refl
token_found (tok.Ld width.H) h = refl
token_found (tok.Ld width.W) h = refl
token_found (tok.St width.B) h = refl
token_found (tok.St width.H) h = refl
token_found (tok.St width.W) h = refl
token_found (tok.Name (name.Reg zero)) h = refl
token_found (tok.Name (name.Reg (suc zero))) h = refl
token_found (tok.Name (name.Reg (suc (suc zero)))) h = refl
token_found (tok.Name (name.Reg (suc (suc (suc zero))))) h = refl
token_found (tok.Name (name.Reg (suc (suc (suc (suc zero)))))) h = refl
token_found (tok.Name (name.Reg (suc (suc (suc (suc (suc zero))))))) h = refl
token_found (tok.Name (name.Reg (suc (suc (suc (suc (suc (suc zero)))))))) h = refl
token_found (tok.Name (name.Reg (suc (suc (suc (suc (suc (suc (suc zero))))))))) h = refl
token_found (tok.Name (name.Flag zero)) h = refl
token_found (tok.Name (name.Flag (suc zero))) h = refl
token_found (tok.Name (name.Flag (suc (suc zero)))) h = refl
token_found (tok.Name (name.Flag (suc (suc (suc zero))))) h = refl
token_found (tok.Name (name.Flag (suc (suc (suc (suc zero)))))) h = refl
token_found (tok.Name name.Fs) h = refl
token_found (tok.Name name.Gs) h = refl
token_found (tok.Name (name.Reg (suc (suc (suc (suc (suc (suc (suc (suc n)))))))))) h = absurd (omega arith)
token_found (tok.Name (name.Flag (suc (suc (suc (suc (suc n))))))) h = absurd (omega arith)

-- no two tokens have one spelling
pub one_token : (x y : Token) → IsToken x → IsToken y → spelling x ≡ spelling y → x ≡ y
one_token x y hx hy e = let s : Some x ≡ Some y = sym (token_found x hx) ∙ ap candidate e ∙ token_found y hy in cc

-- what is found, if anything, is a token
abbrev Known : Option Token → Type 0
Known (Some x) = IsToken x
Known None = Unit {0}

known_if : (q : Bool) (a b : Option Token) → Known a → Known b → Known (if q then a else b)
known_if true a b h k = h
known_if false a b h k = k

-- what holds of all tokens of a list
abbrev pub AreTokens : List Token → Type 0
AreTokens [] = Unit {0}
AreTokens (x ∷ xs) = IsToken x × AreTokens xs

known_find : (xs : List Token) (bs : List ℕ) → AreTokens xs → Known (find xs bs)
known_find [] bs h = tt
known_find (x ∷ xs) bs h = known_if (bytes_eq bs (spelling x)) (Some x) (find xs bs) h.0 (known_find xs bs h.1)

fixed_tokens : AreTokens fixed
fixed_tokens =
    (tt, (tt, (tt, (tt, (tt, (tt, (tt, (tt, (tt, (tt, (tt, (tt, (tt, (tt, (tt, (tt, (tt, (tt, (tt, (tt, (tt, (tt, (tt, (tt, (tt, (tt, (tt, (tt, (tt, (tt, (tt, (tt, (tt, (tt, (tt, (tt, (tt, (tt, (tt, (tt, (tt, (tt, (tt, (tt, (tt, (tt, (tt, (tt, (tt, (tt, (tt, (tt, (tt, (tt, (tt, (tt, (tt, (tt, (tt, (tt, (tt, (omega arith, (omega arith, (omega arith, (omega arith, (omega arith, (omega arith, (omega arith, (omega arith, (omega arith, (omega arith, (omega arith, (omega arith, (omega arith, (tt, (tt, tt))))))))))))))))))))))))))))))))))))))))))))))))))))))))))))))))))))))))))))

small_if : (q : Bool) (a b : ℕ) → a < 2 ^ 32 → b < 2 ^ 32 → (if q then a else b) < 2 ^ 32
small_if true a b h k = h
small_if false a b h k = k

read_small : (base n : ℕ) (bs : List ℕ) → n < 2 ^ 32 → read base n bs < 2 ^ 32
read_small base n [] h = h
read_small base n (b ∷ bs) h = small_if (nat_eq b 117) n (read base (whole base n (value b)) bs) h (read_small base (whole base n (value b)) bs (omega arith))

known_local : (q r : Bool) (n : ℕ) → n < 2 ^ 32 → IsToken (tok.Name (if q then name.T n else if r then name.B n else name.S n))
known_local true r n h = h
known_local false true n h = h
known_local false false n h = h

known : (bs : List ℕ) → Known (candidate bs)
known [] = tt
known (a ∷ []) = known_find fixed (a ∷ []) fixed_tokens
known (a ∷ b ∷ bs) =
    known_if (nat_eq a 48 && nat_eq b 120) _ _ (read_small 16 0 bs (omega arith))
    (known_if (nat_eq a 102 && nat_eq b 95) _ _ (read_small 16 0 bs (omega arith))
    (known_if (is_digit b) _ _ (known_local (nat_eq a 116) (nat_eq a 98) (read 10 0 (b ∷ bs)) (read_small 10 0 (b ∷ bs) (omega arith))) (known_find fixed (a ∷ b ∷ bs) fixed_tokens)))

-- the token that some bytes spell is the one that they may spell, if they do
pub spelled_so : (bs : List ℕ) (x : Token) → candidate bs ≡ Some x → bytes_eq bs (spelling x) ≡ true → IsTokenOf bs (Some x)
spelled_so bs x e s = (subst Known e (known bs), sym ((bytes_eq-Decides bs (spelling x)).0 s))

pub none_so : (bs : List ℕ) → candidate bs ≡ None → IsTokenOf bs None
none_so bs e x h s = let k : Some x ≡ None = sym (token_found x h) ∙ ap candidate s ∙ e in absurd (cc)

pub none_spelled : (bs : List ℕ) (x : Token) → candidate bs ≡ Some x → bytes_eq bs (spelling x) ≡ false → IsTokenOf bs None
none_spelled bs x e f y h s =
    let k : Some y ≡ Some x = sym (token_found y h) ∙ ap candidate s ∙ e in
    let g : y ≡ x = cc in
    let t : bytes_eq bs (spelling x) ≡ true = (bytes_eq-Decides bs (spelling x)).1 (sym s ∙ ap spelling g) in
    absurd (cc)

-- a token of a list is found where it is the first that is spelled so
pub find_stops : (x : Token) (xs : List Token) (bs : List ℕ) → bytes_eq bs (spelling x) ≡ true → find (x ∷ xs) bs ≡ Some x
find_stops x xs bs h = ap (λ q. if q then Some x else find xs bs) h

pub find_goes : (x : Token) (xs : List Token) (bs : List ℕ) → bytes_eq bs (spelling x) ≡ false → find (x ∷ xs) bs ≡ find xs bs
find_goes x xs bs h = ap (λ q. if q then Some x else find xs bs) h

-- fewer than two bytes
pub short_candidate : (bs : List ℕ) → length bs < 2 → find fixed bs ≡ candidate bs
short_candidate [] h = refl
short_candidate (a ∷ []) h = refl
short_candidate (a ∷ b ∷ bs) h = absurd (omega arith)
