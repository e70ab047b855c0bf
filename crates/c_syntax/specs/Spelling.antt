-- How tokens are spelled. Texts and lists of tokens share these spellings.
use Rattle.std.specs.Prelude.{ℕ, zero, suc, ◌/◌, ◌%◌, false, List, [], ◌∷◌, ◌++◌, codes, slice_index_or}
use Rattle.std.specs.Fmt.{digits, digit_glyph}
use Rattle.dream_words.specs.declared.machine.Width.{Width}
use Rattle.dream_words.specs.declared.machine.Width.TheVariants as width
use Rattle.dream_words.specs.declared.machine.Name.{Name}
use Rattle.dream_words.specs.declared.machine.Name.TheVariants as name
use Rattle.c_syntax.specs.declared.syntax.CBin.{CBin}
use Rattle.c_syntax.specs.declared.syntax.CBin.TheVariants as bin
use Rattle.c_syntax.specs.declared.syntax.CCmp.{CCmp}
use Rattle.c_syntax.specs.declared.syntax.CCmp.TheVariants.{Eq, Ne, Lt, Le}
use Rattle.c_syntax.specs.declared.syntax.CFn1.{CFn1}
use Rattle.c_syntax.specs.declared.syntax.CFn1.TheVariants.{Sx1, Sx2, Par, Bsf, Bsr}
use Rattle.c_syntax.specs.declared.syntax.CFn2.{CFn2}
use Rattle.c_syntax.specs.declared.syntax.CFn2.TheVariants.{Sar, Lts, Mulhu, Mulhs}
use Rattle.c_syntax.specs.declared.syntax.CFn3.{CFn3}
use Rattle.c_syntax.specs.declared.syntax.CFn3.TheVariants.{Divubad, Divuq, Divur, Divsbad, Divsq, Divsr}
use Rattle.c_syntax.specs.declared.token.Token.{Token}
use Rattle.c_syntax.specs.declared.token.Token.TheVariants as tok

-- the last k hexadecimal digits of a number, from 0 to 9 and a to f
abbrev pub last_digits : ℕ → ℕ → List ℕ
last_digits zero n = []
last_digits (suc k) n = last_digits k (n / 16) ++ digit_glyph false (n % 16) ∷ []

-- A number: `0x`, its hexadecimal digits without a leading zero (`0x0u` for 0), and `u` (C99 6.4.4.1).
abbrev pub num_text : ℕ → List ℕ
num_text n = codes "0x" ++ digits 16 false n ++ codes "u"

-- the name of a function: `f_` and its address in eight hexadecimal digits
abbrev pub function_text : ℕ → List ℕ
function_text address = codes "f_" ++ last_digits 8 address

-- the decimal digits of a number without a leading zero
abbrev pub decimal : ℕ → List ℕ
decimal n = digits 10 false n

-- the eight registers, by their numbers
abbrev pub register_names : List (List ℕ)
register_names = codes "eax" ∷ codes "ecx" ∷ codes "edx" ∷ codes "ebx" ∷ codes "esp" ∷ codes "ebp" ∷ codes "esi" ∷ codes "edi" ∷ []

-- the five flags, by their numbers
abbrev pub flag_names : List (List ℕ)
flag_names = codes "cf" ∷ codes "pf" ∷ codes "zf" ∷ codes "sf" ∷ codes "of" ∷ []

-- A register, a flag, the base of a segment, or a local: its kind's letter and its number. A register or a flag that
-- doesn't exist stands in no text; here it is spelled as the first one.
abbrev pub name_text : Name → List ℕ
name_text (name.Reg n) = slice_index_or register_names n (codes "eax")
name_text (name.Flag n) = slice_index_or flag_names n (codes "cf")
name_text name.Fs = codes "fsbase"
name_text name.Gs = codes "gsbase"
name_text (name.T n) = codes "t" ++ decimal n
name_text (name.B n) = codes "b" ++ decimal n
name_text (name.S n) = codes "s" ++ decimal n

-- an operator
abbrev pub op_text : CBin → List ℕ
op_text bin.Add = codes "+"
op_text bin.Sub = codes "-"
op_text bin.Mul = codes "*"
op_text bin.And = codes "&"
op_text bin.Or = codes "|"
op_text bin.Xor = codes "^"
op_text bin.Shl = codes "<<"
op_text bin.Shr = codes ">>"

-- a comparison
abbrev pub cmp_text : CCmp → List ℕ
cmp_text Eq = codes "=="
cmp_text Ne = codes "!="
cmp_text Lt = codes "<"
cmp_text Le = codes "<="

-- the functions of one, two and three words
abbrev pub fn1_text : CFn1 → List ℕ
fn1_text Sx1 = codes "sx1"
fn1_text Sx2 = codes "sx2"
fn1_text Par = codes "par"
fn1_text Bsf = codes "bsf"
fn1_text Bsr = codes "bsr"

abbrev pub fn2_text : CFn2 → List ℕ
fn2_text Sar = codes "sar"
fn2_text Lts = codes "lts"
fn2_text Mulhu = codes "mulhu"
fn2_text Mulhs = codes "mulhs"

abbrev pub fn3_text : CFn3 → List ℕ
fn3_text Divubad = codes "divubad"
fn3_text Divuq = codes "divuq"
fn3_text Divur = codes "divur"
fn3_text Divsbad = codes "divsbad"
fn3_text Divsq = codes "divsq"
fn3_text Divsr = codes "divsr"

-- a load and a store of so many bytes
abbrev pub ld_text : Width → List ℕ
ld_text width.B = codes "ld1"
ld_text width.H = codes "ld2"
ld_text width.W = codes "ld4"

abbrev pub st_text : Width → List ℕ
st_text width.B = codes "st1"
st_text width.H = codes "st2"
st_text width.W = codes "st4"

-- a token
abbrev pub spelling : Token → List ℕ
spelling tok.Open = codes "("
spelling tok.Close = codes ")"
spelling tok.Begin = codes "{"
spelling tok.End = codes "}"
spelling tok.Semicolon = codes ";"
spelling tok.Colon = codes ":"
spelling tok.Comma = codes ","
spelling tok.Question = codes "?"
spelling tok.Assign = codes "="
spelling tok.Tilde = codes "~"
spelling tok.Bang = codes "!"
spelling tok.Both = codes "&&"
spelling tok.Either = codes "||"
spelling (tok.Op op) = op_text op
spelling (tok.Compare op) = cmp_text op
spelling (tok.Num n) = num_text n
spelling (tok.Name n) = name_text n
spelling (tok.Fn1 f) = fn1_text f
spelling (tok.Fn2 f) = fn2_text f
spelling (tok.Fn3 f) = fn3_text f
spelling (tok.Ld w) = ld_text w
spelling (tok.St w) = st_text w
spelling tok.Ext = codes "ext"
spelling tok.Trap = codes "trap"
spelling tok.If = codes "if"
spelling tok.Else = codes "else"
spelling tok.Switch = codes "switch"
spelling tok.Case = codes "case"
spelling tok.Default = codes "default"
spelling tok.While = codes "while"
spelling tok.Do = codes "do"
spelling tok.Break = codes "break"
spelling tok.Return = codes "return"
spelling tok.Void = codes "void"
spelling tok.Uint32 = codes "uint32_t"
spelling tok.Zero = codes "0u"
spelling tok.One = codes "1"
spelling (tok.Function address) = function_text address
