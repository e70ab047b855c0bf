-- Different tokens are spelled differently: what token is spelled by some bytes.
use Rattle.std.proofs.Common.{◌≡◌, ℕ, zero, suc, ◌+◌, ◌-◌, ◌*◌, ◌/◌, ◌%◌, ◌^◌, ◌<◌, Bool, true, false, ◌&&◌, cond, if◌then◌else◌, List, [], ◌∷◌, ◌++◌, Option, Some, None, refl, sym, ap, ◌∙◌, arith, nat_eq, nat_lt, append_assoc, append-nil, codes}
use Rattle.std.proofs.lemmas.Bool.{eqb-true}
use Rattle.std.specs.Fmt.{digits, digits_onto, digit_glyph}
use Rattle.dream_words.specs.declared.machine.Width.TheVariants as width
use Rattle.dream_words.specs.declared.machine.Name.{Name}
use Rattle.dream_words.specs.declared.machine.Name.TheVariants as name
use Rattle.c_syntax.specs.declared.syntax.CBin.TheVariants as bin
use Rattle.c_syntax.specs.declared.syntax.CCmp.TheVariants.{Eq, Ne, Lt, Le}
use Rattle.c_syntax.specs.declared.syntax.CFn1.TheVariants.{Sx1, Sx2, Par, Bsf, Bsr}
use Rattle.c_syntax.specs.declared.syntax.CFn2.TheVariants.{Sar, Lts, Mulhu, Mulhs}
use Rattle.c_syntax.specs.declared.syntax.CFn3.TheVariants.{Divubad, Divuq, Divur, Divsbad, Divsq, Divsr}
use Rattle.c_syntax.specs.declared.token.Token.{Token}
use Rattle.c_syntax.specs.declared.token.Token.TheVariants as t
use Rattle.c_syntax.specs.Lex.{is_digit}
use Rattle.c_syntax.specs.Spelling.{spelling, last_digits, decimal}
use Rattle.c_syntax.proofs.Lexing.{spelt}

-- the number that digits write, after a number so far; `u` ends it
abbrev value : ℕ → ℕ
value b = if nat_lt b 58 then b - 48 else b - 87

abbrev read : ℕ → ℕ → List ℕ → ℕ
read base n [] = n
read base n (b ∷ bs) = if nat_eq b 117 then n else read base (base * n + value b) bs

-- a digit counts by its value
read_glyph : (base d n : ℕ) (bs : List ℕ) → d < 16 → read base n (digit_glyph false d ∷ bs) ≡ read base (base * n + d) bs
read_glyph base zero n bs h = refl
read_glyph base (suc zero) n bs h = refl
read_glyph base (suc (suc zero)) n bs h = refl
read_glyph base (suc (suc (suc zero))) n bs h = refl
read_glyph base (suc (suc (suc (suc zero)))) n bs h = refl
read_glyph base (suc (suc (suc (suc (suc zero))))) n bs h = refl
read_glyph base (suc (suc (suc (suc (suc (suc zero)))))) n bs h = refl
read_glyph base (suc (suc (suc (suc (suc (suc (suc zero))))))) n bs h = refl
read_glyph base (suc (suc (suc (suc (suc (suc (suc (suc zero)))))))) n bs h = refl
read_glyph base (suc (suc (suc (suc (suc (suc (suc (suc (suc zero))))))))) n bs h = refl
read_glyph base (suc (suc (suc (suc (suc (suc (suc (suc (suc (suc zero)))))))))) n bs h = refl
read_glyph base (suc (suc (suc (suc (suc (suc (suc (suc (suc (suc (suc zero))))))))))) n bs h = refl
read_glyph base (suc (suc (suc (suc (suc (suc (suc (suc (suc (suc (suc (suc zero)))))))))))) n bs h = refl
read_glyph base (suc (suc (suc (suc (suc (suc (suc (suc (suc (suc (suc (suc (suc zero))))))))))))) n bs h = refl
read_glyph base (suc (suc (suc (suc (suc (suc (suc (suc (suc (suc (suc (suc (suc (suc zero)))))))))))))) n bs h = refl
read_glyph base (suc (suc (suc (suc (suc (suc (suc (suc (suc (suc (suc (suc (suc (suc (suc zero))))))))))))))) n bs h = refl
read_glyph base (suc (suc (suc (suc (suc (suc (suc (suc (suc (suc (suc (suc (suc (suc (suc (suc d)))))))))))))))) n bs h = absurd (omega arith)

-- two cases
by_bool : {P : Type 0} (x : Bool) → (x ≡ true → P) → (x ≡ false → P) → P
by_bool true f g = f refl
by_bool false f g = g refl

-- powers, by recursion
abbrev pow2 : ℕ → ℕ
pow2 zero = 1
pow2 (suc k) = 2 * pow2 k

module _ (base : ℕ) (low : (n : ℕ) → n % base < 16) (splits : (n : ℕ) → base * (n / base) + n % base ≡ n) (falls : (n m : ℕ) → n < 2 * m → n / base < m) where
  -- what is read of the digits of a number is the number
  read_digits : (k n : ℕ) (bs : List ℕ) → n < pow2 k → read base 0 (digits_onto k base false n bs) ≡ read base n bs
  read_digits zero n bs h = let e : 0 ≡ n = omega arith in ap (λ q. read base q bs) e
  read_digits (suc k) n bs h = by_bool (nat_eq (n / base) 0)
      (λ e. ap (λ q. read base 0 (if q then digit_glyph false (n % base) ∷ bs else digits_onto k base false (n / base) (digit_glyph false (n % base) ∷ bs))) e
      ∙ read_glyph base (n % base) 0 bs (low n) ∙ ap (λ q. read base q bs) (ap (λ q. base * q + n % base) (sym (eqb-true (n / base) 0 e)) ∙ splits n))
      (λ e. ap (λ q. read base 0 (if q then digit_glyph false (n % base) ∷ bs else digits_onto k base false (n / base) (digit_glyph false (n % base) ∷ bs))) e
      ∙ read_digits k (n / base) (digit_glyph false (n % base) ∷ bs) (falls n (pow2 k) h)
      ∙ read_glyph base (n % base) (n / base) bs (low n) ∙ ap (λ q. read base q bs) (splits n))

-- powers of 16, by recursion
abbrev pow16 : ℕ → ℕ
pow16 zero = 1
pow16 (suc k) = 16 * pow16 k

-- a digit less
below16 : (n m : ℕ) → n < 16 * m → n / 16 < m
below16 n m h = omega arith

-- what is read of the digits of an address is the address
read_last : (k n : ℕ) (bs : List ℕ) → n < pow16 k → read 16 0 (last_digits k n ++ bs) ≡ read 16 n bs
read_last zero n bs h = let e : 0 ≡ n = omega arith in ap (λ q. read 16 q bs) e
read_last (suc k) n bs h =
    ap (read 16 0) (append_assoc (last_digits k (n / 16)) (digit_glyph false (n % 16) ∷ []) bs)
    ∙ read_last k (n / 16) (digit_glyph false (n % 16) ∷ bs) (below16 n (pow16 k) h)
    ∙ read_glyph 16 (n % 16) (n / 16) bs (omega arith)
    ∙ (let e : 16 * (n / 16) + n % 16 ≡ n = omega arith in ap (λ q. read 16 q bs) e)

-- with what follows them
digits_then : (k base n : ℕ) (bs cs : List ℕ) → digits_onto k base false n bs ++ cs ≡ digits_onto k base false n (bs ++ cs)
digits_then zero base n bs cs = refl
digits_then (suc k) base n bs cs = by_bool (nat_eq (n / base) 0)
    (λ e. ap (λ q. (if q then digit_glyph false (n % base) ∷ bs else digits_onto k base false (n / base) (digit_glyph false (n % base) ∷ bs)) ++ cs) e
    ∙ ap (λ q. if q then digit_glyph false (n % base) ∷ (bs ++ cs) else digits_onto k base false (n / base) (digit_glyph false (n % base) ∷ (bs ++ cs))) (sym e))
    (λ e. ap (λ q. (if q then digit_glyph false (n % base) ∷ bs else digits_onto k base false (n / base) (digit_glyph false (n % base) ∷ bs)) ++ cs) e
    ∙ digits_then k base (n / base) (digit_glyph false (n % base) ∷ bs) cs
    ∙ ap (λ q. if q then digit_glyph false (n % base) ∷ (bs ++ cs) else digits_onto k base false (n / base) (digit_glyph false (n % base) ∷ (bs ++ cs))) (sym e))

-- it begins with a decimal digit
abbrev First : List ℕ → Type 0
First [] = ⊥
First (b ∷ bs) = is_digit b ≡ true

-- a decimal digit is one
glyph_digit : (d : ℕ) → d < 10 → is_digit (digit_glyph false d) ≡ true
glyph_digit zero h = refl
glyph_digit (suc zero) h = refl
glyph_digit (suc (suc zero)) h = refl
glyph_digit (suc (suc (suc zero))) h = refl
glyph_digit (suc (suc (suc (suc zero)))) h = refl
glyph_digit (suc (suc (suc (suc (suc zero))))) h = refl
glyph_digit (suc (suc (suc (suc (suc (suc zero)))))) h = refl
glyph_digit (suc (suc (suc (suc (suc (suc (suc zero))))))) h = refl
glyph_digit (suc (suc (suc (suc (suc (suc (suc (suc zero)))))))) h = refl
glyph_digit (suc (suc (suc (suc (suc (suc (suc (suc (suc zero))))))))) h = refl
glyph_digit (suc (suc (suc (suc (suc (suc (suc (suc (suc (suc d)))))))))) h = absurd (omega arith)

-- one of two that begin so
either_first : (b : Bool) (x y : List ℕ) → First x → First y → First (cond b x y)
either_first true x y h k = h
either_first false x y h k = k

-- decimal digits begin so
digits_first : (k n : ℕ) (bs : List ℕ) → First bs → First (digits_onto k 10 false n bs)
digits_first zero n bs h = h
digits_first (suc k) n bs h =
    either_first (nat_eq (n / 10) 0) (digit_glyph false (n % 10) ∷ bs) (digits_onto k 10 false (n / 10) (digit_glyph false (n % 10) ∷ bs)) (glyph_digit (n % 10) (omega arith))
    (digits_first k (n / 10) (digit_glyph false (n % 10) ∷ bs) (glyph_digit (n % 10) (omega arith)))

decimal_first : (n : ℕ) → First (decimal n)
unfolding digits
decimal_first n =
    either_first (nat_eq (n / 10) 0) (digit_glyph false (n % 10) ∷ []) (digits_onto 63 10 false (n / 10) (digit_glyph false (n % 10) ∷ [])) (glyph_digit (n % 10) (omega arith))
    (digits_first 63 (n / 10) (digit_glyph false (n % 10) ∷ []) (glyph_digit (n % 10) (omega arith)))

-- what is read of the spelling of a number is the number
read_decimal : (n : ℕ) → n < 2 ^ 32 → read 10 0 (decimal n) ≡ n
unfolding digits
read_decimal n h = read_digits 10 (λ n. omega arith) (λ n. omega arith) (λ n m h. omega arith) 64 n [] (omega arith)

read_hex : (n : ℕ) → n < 2 ^ 32 → read 16 0 (digits 16 false n ++ codes "u") ≡ n
unfolding digits
read_hex n h = ap (read 16 0) (digits_then 64 16 n [] (codes "u")) ∙ read_digits 16 (λ n. omega arith) (λ n. omega arith) (λ n m h. omega arith) 64 n (codes "u") (omega arith)

read_address : (n : ℕ) → n < 2 ^ 32 → read 16 0 (last_digits 8 n) ≡ n
read_address n h = ap (read 16 0) (sym (append-nil (last_digits 8 n))) ∙ read_last 8 n [] h

-- the tokens of one spelling each
abbrev fixed : List Token
fixed = t.Open ∷ t.Close ∷ t.Begin ∷ t.End ∷ t.Semicolon ∷ t.Colon ∷ t.Comma ∷ t.Question ∷ t.Assign ∷ t.Tilde ∷ t.Bang ∷ t.Both ∷ t.Either ∷ t.Ext ∷ t.Trap ∷ t.If ∷ t.Else ∷ t.Switch ∷ t.Case ∷ t.Default ∷ t.While ∷ t.Do ∷ t.Break ∷ t.Return ∷ t.Void ∷ t.Uint32 ∷ t.Zero ∷ t.One ∷ t.Op bin.Add ∷ t.Op bin.Sub ∷ t.Op bin.Mul ∷ t.Op bin.And ∷ t.Op bin.Or ∷ t.Op bin.Xor ∷ t.Op bin.Shl ∷ t.Op bin.Shr ∷ t.Compare Eq ∷ t.Compare Ne ∷ t.Compare Lt ∷ t.Compare Le ∷ t.Fn1 Sx1 ∷ t.Fn1 Sx2 ∷ t.Fn1 Par ∷ t.Fn1 Bsf ∷ t.Fn1 Bsr ∷ t.Fn2 Sar ∷ t.Fn2 Lts ∷ t.Fn2 Mulhu ∷ t.Fn2 Mulhs ∷ t.Fn3 Divubad ∷ t.Fn3 Divuq ∷ t.Fn3 Divur ∷ t.Fn3 Divsbad ∷ t.Fn3 Divsq ∷ t.Fn3 Divsr ∷ t.Ld width.B ∷ t.Ld width.H ∷ t.Ld width.W ∷ t.St width.B ∷ t.St width.H ∷ t.St width.W ∷ t.Name (name.Reg 0) ∷ t.Name (name.Reg 1) ∷ t.Name (name.Reg 2) ∷ t.Name (name.Reg 3) ∷ t.Name (name.Reg 4) ∷ t.Name (name.Reg 5) ∷ t.Name (name.Reg 6) ∷ t.Name (name.Reg 7) ∷ t.Name (name.Flag 0) ∷ t.Name (name.Flag 1) ∷ t.Name (name.Flag 2) ∷ t.Name (name.Flag 3) ∷ t.Name (name.Flag 4) ∷ t.Name name.Fs ∷ t.Name name.Gs ∷ []

-- two spellings are equal
abbrev same : List ℕ → List ℕ → Bool
same [] [] = true
same (a ∷ as') (b ∷ bs) = nat_eq a b && same as' bs
same _ _ = false

-- the first of several tokens that is spelled so
abbrev find : List Token → List ℕ → Option Token
find [] bs = None
find (x ∷ xs) bs = if same (spelling x) bs then Some x else find xs bs

-- a local by its letter
abbrev local : ℕ → ℕ → Name
local a n = if nat_eq a 116 then name.T n else if nat_eq a 98 then name.B n else name.S n

-- the token that is spelled so
abbrev token_of : List ℕ → Option Token
token_of [] = None
token_of (a ∷ []) = find fixed (a ∷ [])
token_of (a ∷ b ∷ bs) =
    if nat_eq a 48 && nat_eq b 120 then Some (t.Num (read 16 0 bs)) else
    if nat_eq a 102 && nat_eq b 95 then Some (t.Function (read 16 0 bs)) else
    if is_digit b then Some (t.Name (local a (read 10 0 (b ∷ bs)))) else find fixed (a ∷ b ∷ bs)

-- a number that a token may have
abbrev pub IsWord : ℕ → Type 0
IsWord n = n < 2 ^ 32

-- the numbers of the token are those of some text
abbrev pub IsToken : Token → Type 0
IsToken (t.Num n) = IsWord n
IsToken (t.Function n) = IsWord n
IsToken (t.Name (name.Reg n)) = n < 8
IsToken (t.Name (name.Flag n)) = n < 5
IsToken (t.Name (name.T n)) = IsWord n
IsToken (t.Name (name.B n)) = IsWord n
IsToken (t.Name (name.S n)) = IsWord n
IsToken _ = Unit {0}

-- the numbers of all tokens are
abbrev pub AreTokens : List Token → Type 0
AreTokens [] = Unit {0}
AreTokens (x ∷ xs) = IsToken x × AreTokens xs

-- a local is found by its letter and its number
local_of : (a : ℕ) (w : List ℕ) → (nat_eq a 48 ≡ false) → (nat_eq a 102 ≡ false) → First w → token_of (a ∷ w) ≡ Some (t.Name (local a (read 10 0 w)))
local_of a [] h k f = absurd f
local_of a (b ∷ bs) h k f =
    ap (λ q. if q && nat_eq b 120 then Some (t.Num (read 16 0 bs)) else if nat_eq a 102 && nat_eq b 95 then Some (t.Function (read 16 0 bs)) else if is_digit b then Some (t.Name (local a (read 10 0 (b ∷ bs)))) else find fixed (a ∷ b ∷ bs)) h
    ∙ ap (λ q. if q && nat_eq b 95 then Some (t.Function (read 16 0 bs)) else if is_digit b then Some (t.Name (local a (read 10 0 (b ∷ bs)))) else find fixed (a ∷ b ∷ bs)) k
    ∙ ap (λ q. if q then Some (t.Name (local a (read 10 0 (b ∷ bs)))) else find fixed (a ∷ b ∷ bs)) f

-- each token is found by its spelling
token_found : (x : Token) → IsToken x → token_of (spelling x) ≡ Some x
token_found (t.Num n) h = ap (λ q. Some (t.Num q)) (read_hex n h)
token_found (t.Function n) h = ap (λ q. Some (t.Function q)) (read_address n h)
token_found (t.Name (name.T n)) h = local_of 116 (decimal n) refl refl (decimal_first n) ∙ ap (λ q. Some (t.Name (name.T q))) (read_decimal n h)
token_found (t.Name (name.B n)) h = local_of 98 (decimal n) refl refl (decimal_first n) ∙ ap (λ q. Some (t.Name (name.B q))) (read_decimal n h)
token_found (t.Name (name.S n)) h = local_of 115 (decimal n) refl refl (decimal_first n) ∙ ap (λ q. Some (t.Name (name.S q))) (read_decimal n h)
token_found t.Open h = refl
token_found t.Close h = refl
token_found t.Begin h = refl
token_found t.End h = refl
token_found t.Semicolon h = refl
token_found t.Colon h = refl
token_found t.Comma h = refl
token_found t.Question h = refl
token_found t.Assign h = refl
token_found t.Tilde h = refl
token_found t.Bang h = refl
token_found t.Both h = refl
token_found t.Either h = refl
token_found t.Ext h = refl
token_found t.Trap h = refl
token_found t.If h = refl
token_found t.Else h = refl
token_found t.Switch h = refl
token_found t.Case h = refl
token_found t.Default h = refl
token_found t.While h = refl
token_found t.Do h = refl
token_found t.Break h = refl
token_found t.Return h = refl
token_found t.Void h = refl
token_found t.Uint32 h = refl
token_found t.Zero h = refl
token_found t.One h = refl
token_found (t.Op bin.Add) h = refl
token_found (t.Op bin.Sub) h = refl
token_found (t.Op bin.Mul) h = refl
token_found (t.Op bin.And) h = refl
token_found (t.Op bin.Or) h = refl
token_found (t.Op bin.Xor) h = refl
token_found (t.Op bin.Shl) h = refl
token_found (t.Op bin.Shr) h = refl
token_found (t.Compare Eq) h = refl
token_found (t.Compare Ne) h = refl
token_found (t.Compare Lt) h = refl
token_found (t.Compare Le) h = refl
token_found (t.Fn1 Sx1) h = refl
token_found (t.Fn1 Sx2) h = refl
token_found (t.Fn1 Par) h = refl
token_found (t.Fn1 Bsf) h = refl
token_found (t.Fn1 Bsr) h = refl
token_found (t.Fn2 Sar) h = refl
token_found (t.Fn2 Lts) h = refl
token_found (t.Fn2 Mulhu) h = refl
token_found (t.Fn2 Mulhs) h = refl
token_found (t.Fn3 Divubad) h = refl
token_found (t.Fn3 Divuq) h = refl
token_found (t.Fn3 Divur) h = refl
token_found (t.Fn3 Divsbad) h = refl
token_found (t.Fn3 Divsq) h = refl
token_found (t.Fn3 Divsr) h = refl
token_found (t.Ld width.B) h = refl
token_found (t.Ld width.H) h = refl
token_found (t.Ld width.W) h = refl
token_found (t.St width.B) h = refl
token_found (t.St width.H) h = refl
token_found (t.St width.W) h = refl
token_found (t.Name (name.Reg zero)) h = refl
token_found (t.Name (name.Reg (suc zero))) h = refl
token_found (t.Name (name.Reg (suc (suc zero)))) h = refl
token_found (t.Name (name.Reg (suc (suc (suc zero))))) h = refl
token_found (t.Name (name.Reg (suc (suc (suc (suc zero)))))) h = refl
token_found (t.Name (name.Reg (suc (suc (suc (suc (suc zero))))))) h = refl
token_found (t.Name (name.Reg (suc (suc (suc (suc (suc (suc zero)))))))) h = refl
token_found (t.Name (name.Reg (suc (suc (suc (suc (suc (suc (suc zero))))))))) h = refl
token_found (t.Name (name.Flag zero)) h = refl
token_found (t.Name (name.Flag (suc zero))) h = refl
token_found (t.Name (name.Flag (suc (suc zero)))) h = refl
token_found (t.Name (name.Flag (suc (suc (suc zero))))) h = refl
token_found (t.Name (name.Flag (suc (suc (suc (suc zero)))))) h = refl
token_found (t.Name name.Fs) h = refl
token_found (t.Name name.Gs) h = refl
token_found (t.Name (name.Reg (suc (suc (suc (suc (suc (suc (suc (suc n)))))))))) h = absurd (omega arith)
token_found (t.Name (name.Flag (suc (suc (suc (suc (suc n))))))) h = absurd (omega arith)

-- so no two tokens have one spelling
one_token : (x y : Token) → IsToken x → IsToken y → spelling x ≡ spelling y → x ≡ y
one_token x y hx hy e = let s : Some x ≡ Some y = sym (token_found x hx) ∙ ap token_of e ∙ token_found y hy in cc

-- equal lists have equal first members and equal rests
heads : {a b : List ℕ} {as' bs : List (List ℕ)} → a ∷ as' ≡ b ∷ bs → a ≡ b
heads h = cc

tails : {a b : List ℕ} {as' bs : List (List ℕ)} → a ∷ as' ≡ b ∷ bs → as' ≡ bs
tails h = cc

-- tokens with one spelling are the same
pub one_spelling : (xs ys : List Token) → AreTokens xs → AreTokens ys → spelt xs ≡ spelt ys → xs ≡ ys
one_spelling [] [] hx hy e = refl
one_spelling [] (y ∷ ys) hx hy e = absurd (cc)
one_spelling (x ∷ xs) [] hx hy e = absurd (cc)
one_spelling (x ∷ xs) (y ∷ ys) hx hy e =
    let h : x ≡ y = one_token x y hx.0 hy.0 (heads e) in let k : xs ≡ ys = one_spelling xs ys hx.1 hy.1 (tails e) in cc
