-- The one token that some bytes may spell, found by their first bytes.
use Rattle.std.specs.Prelude.{ℕ, ◌+◌, ◌-◌, ◌*◌, ◌%◌, ◌^◌, ◌&&◌, nat_eq, nat_lt, List, [], ◌∷◌, Option, Some, None, if◌then◌else◌}
use Rattle.std.specs.Str.{bytes_eq}
use Rattle.dream_words.specs.declared.machine.Name.{Name}
use Rattle.dream_words.specs.declared.machine.Name.TheVariants as name
use Rattle.dream_words.specs.declared.machine.Width.TheVariants as width
use Rattle.c_syntax.specs.declared.syntax.CBin.TheVariants as bin
use Rattle.c_syntax.specs.declared.syntax.CCmp.TheVariants as cmp
use Rattle.c_syntax.specs.declared.syntax.CFn1.TheVariants as fn1
use Rattle.c_syntax.specs.declared.syntax.CFn2.TheVariants as fn2
use Rattle.c_syntax.specs.declared.syntax.CFn3.TheVariants as fn3
use Rattle.c_syntax.specs.declared.token.Token.{Token}
use Rattle.c_syntax.specs.declared.token.Token.TheVariants as tok
use Rattle.c_syntax.specs.Lex.{is_digit}
use Rattle.c_syntax.specs.Spelling.{spelling}

-- what a digit counts, from 0 to 9 and a to f
abbrev pub value : ℕ → ℕ
value b = if nat_lt b 58 then b - 48 else b - 87

-- the word that digits write in a base, after a word so far; `u` ends it
abbrev pub read : ℕ → ℕ → List ℕ → ℕ
read base n [] = n
read base n (b ∷ bs) = if nat_eq b 117 then n else read base ((base * n + value b) % 2 ^ 32) bs

-- the tokens of one spelling each
abbrev pub fixed : List Token
fixed =
    tok.Open ∷ tok.Close ∷ tok.Begin ∷ tok.End ∷ tok.Semicolon ∷ tok.Colon ∷ tok.Comma ∷ tok.Question ∷ tok.Assign ∷ tok.Tilde ∷ tok.Bang ∷
    tok.Both ∷ tok.Either ∷ tok.Ext ∷ tok.Trap ∷ tok.If ∷ tok.Else ∷ tok.Switch ∷ tok.Case ∷ tok.Default ∷ tok.While ∷ tok.Do ∷ tok.Break ∷
    tok.Return ∷ tok.Void ∷ tok.Uint32 ∷ tok.Zero ∷ tok.One ∷ tok.Op bin.Add ∷ tok.Op bin.Sub ∷ tok.Op bin.Mul ∷ tok.Op bin.And ∷
    tok.Op bin.Or ∷ tok.Op bin.Xor ∷ tok.Op bin.Shl ∷ tok.Op bin.Shr ∷ tok.Compare cmp.Eq ∷ tok.Compare cmp.Ne ∷ tok.Compare cmp.Lt ∷
    tok.Compare cmp.Le ∷ tok.Fn1 fn1.Sx1 ∷ tok.Fn1 fn1.Sx2 ∷ tok.Fn1 fn1.Par ∷ tok.Fn1 fn1.Bsf ∷ tok.Fn1 fn1.Bsr ∷ tok.Fn2 fn2.Sar ∷
    tok.Fn2 fn2.Lts ∷ tok.Fn2 fn2.Mulhu ∷ tok.Fn2 fn2.Mulhs ∷ tok.Fn3 fn3.Divubad ∷ tok.Fn3 fn3.Divuq ∷ tok.Fn3 fn3.Divur ∷
    tok.Fn3 fn3.Divsbad ∷ tok.Fn3 fn3.Divsq ∷ tok.Fn3 fn3.Divsr ∷ tok.Ld width.B ∷ tok.Ld width.H ∷ tok.Ld width.W ∷ tok.St width.B ∷
    tok.St width.H ∷ tok.St width.W ∷ tok.Name (name.Reg 0) ∷ tok.Name (name.Reg 1) ∷ tok.Name (name.Reg 2) ∷ tok.Name (name.Reg 3) ∷
    tok.Name (name.Reg 4) ∷ tok.Name (name.Reg 5) ∷ tok.Name (name.Reg 6) ∷ tok.Name (name.Reg 7) ∷ tok.Name (name.Flag 0) ∷
    tok.Name (name.Flag 1) ∷ tok.Name (name.Flag 2) ∷ tok.Name (name.Flag 3) ∷ tok.Name (name.Flag 4) ∷ tok.Name name.Fs ∷
    tok.Name name.Gs ∷ []

-- the first of several tokens that is spelled so
abbrev pub find : List Token → List ℕ → Option Token
find [] bs = None
find (x ∷ xs) bs = if bytes_eq bs (spelling x) then Some x else find xs bs

-- a local, by the letter of its kind and its number
abbrev pub local : ℕ → ℕ → Name
local a n = if nat_eq a 116 then name.T n else if nat_eq a 98 then name.B n else name.S n

-- the token that some bytes may spell
abbrev pub candidate : List ℕ → Option Token
candidate [] = None
candidate (a ∷ []) = find fixed (a ∷ [])
candidate (a ∷ b ∷ bs) =
    if nat_eq a 48 && nat_eq b 120 then Some (tok.Num (read 16 0 bs)) else
    if nat_eq a 102 && nat_eq b 95 then Some (tok.Function (read 16 0 bs)) else
    if is_digit b then Some (tok.Name (local a (read 10 0 (b ∷ bs)))) else find fixed (a ∷ b ∷ bs)
