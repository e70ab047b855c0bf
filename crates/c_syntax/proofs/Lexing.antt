-- Steps of lexing: what one token, and the text before it, becomes.
use Rattle.std.proofs.Common.{◌≡◌, ℕ, zero, suc, Bool, true, false, ◌||◌, List, [], ◌∷◌, ◌++◌, if◌then◌else◌, refl, sym, ap, ◌∙◌, append_assoc, append-nil, nat_eq, map, codes}
use Rattle.dream_words.specs.declared.machine.Width.{Width}
use Rattle.dream_words.specs.declared.machine.Width.TheVariants as width
use Rattle.dream_words.specs.declared.machine.Name.{Name}
use Rattle.dream_words.specs.declared.machine.Name.TheVariants as name
use Rattle.c_syntax.specs.declared.syntax.CBin.{CBin}
use Rattle.c_syntax.specs.declared.syntax.CBin.TheVariants as bin
use Rattle.c_syntax.specs.declared.syntax.CCmp.{CCmp}
use Rattle.c_syntax.specs.declared.syntax.CCmp.TheVariants.{Eq, Ne, Lt, Le}
use Rattle.c_syntax.specs.declared.syntax.CFn1.{CFn1}
use Rattle.c_syntax.specs.declared.syntax.CFn1.TheVariants.{Sx1, Sx2, Par, Bsf, Bsr}
use Rattle.c_syntax.specs.declared.syntax.CFn2.{CFn2}
use Rattle.c_syntax.specs.declared.syntax.CFn2.TheVariants.{Sar, Lts, Mulhu, Mulhs}
use Rattle.c_syntax.specs.declared.syntax.CFn3.{CFn3}
use Rattle.c_syntax.specs.declared.syntax.CFn3.TheVariants.{Divubad, Divuq, Divur, Divsbad, Divsq, Divsr}
use Rattle.std.specs.Fmt.{digits}
use Rattle.c_syntax.specs.declared.token.Token.{Token}
use Rattle.c_syntax.specs.declared.token.Token.TheVariants as t
use Rattle.c_syntax.specs.Lex.{is_letter, is_digit, begins_word, is_blank, extends, lex}
use Rattle.c_syntax.specs.Spelling.{spelling, num_text, name_text, function_text, last_digits, decimal, op_text, cmp_text, fn1_text, fn2_text, fn3_text, ld_text, st_text}
use Rattle.c_syntax.proofs.Induct.{Each}
use Rattle.c_syntax.proofs.Digits.{in_number, in_word, WordTail, word_tail, each_append, hex_tail, decimal_tail, last_tail}

-- tokens by their spellings
abbrev pub spelt : List Token → List (List ℕ)
spelt = map spelling

-- no letter, no `_` and no digit comes first
abbrev pub IsApart : List ℕ → Type 0
IsApart [] = Unit {0}
IsApart (b ∷ bs) = (begins_word b ≡ false) × (is_digit b ≡ false)

-- a token in front of others
pub after : (s : List ℕ) {x y : List (List ℕ)} → x ≡ y → s ∷ x ≡ s ∷ y
after s h = ap (λ q. s ∷ q) h

-- a byte that doesn't make the token longer
apart : (a : ℕ) (w : List ℕ) (c : ℕ) (rest : List ℕ) → extends (a ∷ w) c ≡ false → lex (a ∷ w) (c ∷ rest) ≡ (a ∷ w) ∷ lex [] (c ∷ rest)
apart a w c rest f = ap (λ q. if q then lex ((a ∷ w) ++ c ∷ []) rest else (a ∷ w) ∷ (if is_blank c then lex [] rest else lex (c ∷ []) rest)) f

-- a mark that nothing makes longer
pub marks : (a : ℕ) → ((c : ℕ) → extends (a ∷ []) c ≡ false) → (rest : List ℕ) → lex (a ∷ []) rest ≡ (a ∷ []) ∷ lex [] rest
marks a alone [] = refl
marks a alone (c ∷ rest) = apart a [] c rest (alone c)

-- the marks that stand before anything
pub opens : (rest : List ℕ) (r : List Token) → lex [] rest ≡ spelt r → lex (40 ∷ []) rest ≡ codes "(" ∷ spelt r
opens rest r h = marks 40 (λ c. refl) rest ∙ after (codes "(") h

pub closes : (rest : List ℕ) (r : List Token) → lex [] rest ≡ spelt r → lex (41 ∷ []) rest ≡ codes ")" ∷ spelt r
closes rest r h = marks 41 (λ c. refl) rest ∙ after (codes ")") h

pub ends : (rest : List ℕ) (r : List Token) → lex [] rest ≡ spelt r → lex (125 ∷ []) rest ≡ codes "}" ∷ spelt r
ends rest r h = marks 125 (λ c. refl) rest ∙ after (codes "}") h

pub tilde : (rest : List ℕ) (r : List Token) → lex [] rest ≡ spelt r → lex (126 ∷ []) rest ≡ codes "~" ∷ spelt r
tilde rest r h = marks 126 (λ c. refl) rest ∙ after (codes "~") h

-- a run of bytes that a first byte takes
module _ (a : ℕ) (joins : ℕ → Bool) (same : (v : List ℕ) (b : ℕ) → extends (a ∷ v) b ≡ joins b)
    (stops : (b : ℕ) → begins_word b ≡ false → is_digit b ≡ false → joins b ≡ false) where
  -- a byte that makes the token longer
  step : (v : List ℕ) (b : ℕ) (text : List ℕ) → joins b ≡ true → lex (a ∷ v) (b ∷ text) ≡ lex (a ∷ (v ++ b ∷ [])) text
  step v b text h = ap (λ q. if q then lex ((a ∷ v) ++ b ∷ []) text else (a ∷ v) ∷ (if is_blank b then lex [] text else lex (b ∷ []) text)) (same v b ∙ h)

  -- bytes that make it longer, up to one that doesn't
  pub run_on : (v w rest : List ℕ) → Each (λ b. joins b ≡ true) w → IsApart rest → lex (a ∷ v) (w ++ rest) ≡ (a ∷ (v ++ w)) ∷ lex [] rest
  run_on v [] [] h r = ap (λ l. (a ∷ l) ∷ []) (sym (append-nil v))
  run_on v [] (c ∷ rest) h r = apart a v c rest (same v c ∙ stops c r.0 r.1) ∙ ap (λ l. (a ∷ l) ∷ lex [] (c ∷ rest)) (sym (append-nil v))
  run_on v (b ∷ w) rest h r = step v b (w ++ rest) h.0 ∙ run_on (v ++ b ∷ []) w rest h.1 r ∙ ap (λ l. (a ∷ l) ∷ lex [] rest) (append_assoc v (b ∷ []) w)

-- what is apart ends a word, and a number
stops_word : (b : ℕ) → begins_word b ≡ false → is_digit b ≡ false → in_word b ≡ false
stops_word b l d = ap (λ q. q || is_digit b) l ∙ d

-- neither of two is so
first_false : (l u : Bool) → (l || u) ≡ false → l ≡ false
first_false true u h = h
first_false false u h = refl

stops_number : (b : ℕ) → begins_word b ≡ false → is_digit b ≡ false → in_number b ≡ false
stops_number b l d = ap (λ q. q || is_digit b) (first_false (is_letter b) (nat_eq b 95) l) ∙ d

-- a word, by its first letter and the others
pub word_run : (a : ℕ) → ((v : List ℕ) (b : ℕ) → extends (a ∷ v) b ≡ in_word b) → (w rest : List ℕ) → WordTail w → IsApart rest → lex (a ∷ []) (w ++ rest) ≡ (a ∷ w) ∷ lex [] rest
word_run a same w rest h r = run_on a in_word same stops_word [] w rest h r

-- a number
pub num_step : (n : ℕ) (rest : List ℕ) (r : List Token) → IsApart rest → lex [] rest ≡ spelt r → lex [] (num_text n ++ rest) ≡ spelt (t.Num n ∷ r)
num_step n rest r free h =
    run_on 48 in_number (λ v b. refl) stops_number [] (120 ∷ (digits 16 false n ++ codes "u")) rest (refl, each_append (λ b. in_number b ≡ true) (digits 16 false n) (codes "u") (hex_tail n) (refl, tt)) free
    ∙ after (num_text n) h

-- the name of the function
pub function_step : (n : ℕ) (rest : List ℕ) (r : List Token) → IsApart rest → lex [] rest ≡ spelt r → lex [] (function_text n ++ rest) ≡ spelt (t.Function n ∷ r)
function_step n rest r free h = word_run 102 (λ v b. refl) (95 ∷ last_digits 8 n) rest (refl, word_tail (last_digits 8 n) (last_tail 8 n)) free ∙ after (function_text n) h

-- a name
pub name_reads : (n : Name) (rest : List ℕ) → IsApart rest → lex [] (name_text n ++ rest) ≡ name_text n ∷ lex [] rest
name_reads (name.Reg zero) rest free = word_run 101 (λ v b. refl) (97 ∷ 120 ∷ []) rest (refl, (refl, tt)) free
name_reads (name.Reg (suc zero)) rest free = word_run 101 (λ v b. refl) (99 ∷ 120 ∷ []) rest (refl, (refl, tt)) free
name_reads (name.Reg (suc (suc zero))) rest free = word_run 101 (λ v b. refl) (100 ∷ 120 ∷ []) rest (refl, (refl, tt)) free
name_reads (name.Reg (suc (suc (suc zero)))) rest free = word_run 101 (λ v b. refl) (98 ∷ 120 ∷ []) rest (refl, (refl, tt)) free
name_reads (name.Reg (suc (suc (suc (suc zero))))) rest free = word_run 101 (λ v b. refl) (115 ∷ 112 ∷ []) rest (refl, (refl, tt)) free
name_reads (name.Reg (suc (suc (suc (suc (suc zero)))))) rest free = word_run 101 (λ v b. refl) (98 ∷ 112 ∷ []) rest (refl, (refl, tt)) free
name_reads (name.Reg (suc (suc (suc (suc (suc (suc zero))))))) rest free = word_run 101 (λ v b. refl) (115 ∷ 105 ∷ []) rest (refl, (refl, tt)) free
name_reads (name.Reg (suc (suc (suc (suc (suc (suc (suc zero)))))))) rest free = word_run 101 (λ v b. refl) (100 ∷ 105 ∷ []) rest (refl, (refl, tt)) free
name_reads (name.Reg (suc (suc (suc (suc (suc (suc (suc (suc n))))))))) rest free = word_run 101 (λ v b. refl) (97 ∷ 120 ∷ []) rest (refl, (refl, tt)) free
name_reads (name.Flag zero) rest free = word_run 99 (λ v b. refl) (102 ∷ []) rest (refl, tt) free
name_reads (name.Flag (suc zero)) rest free = word_run 112 (λ v b. refl) (102 ∷ []) rest (refl, tt) free
name_reads (name.Flag (suc (suc zero))) rest free = word_run 122 (λ v b. refl) (102 ∷ []) rest (refl, tt) free
name_reads (name.Flag (suc (suc (suc zero)))) rest free = word_run 115 (λ v b. refl) (102 ∷ []) rest (refl, tt) free
name_reads (name.Flag (suc (suc (suc (suc zero))))) rest free = word_run 111 (λ v b. refl) (102 ∷ []) rest (refl, tt) free
name_reads (name.Flag (suc (suc (suc (suc (suc n)))))) rest free = word_run 99 (λ v b. refl) (102 ∷ []) rest (refl, tt) free
name_reads name.Fs rest free = word_run 102 (λ v b. refl) (115 ∷ 98 ∷ 97 ∷ 115 ∷ 101 ∷ []) rest (refl, (refl, (refl, (refl, (refl, tt))))) free
name_reads name.Gs rest free = word_run 103 (λ v b. refl) (115 ∷ 98 ∷ 97 ∷ 115 ∷ 101 ∷ []) rest (refl, (refl, (refl, (refl, (refl, tt))))) free
name_reads (name.T n) rest free = word_run 116 (λ v b. refl) (decimal n) rest (word_tail (decimal n) (decimal_tail n)) free
name_reads (name.B n) rest free = word_run 98 (λ v b. refl) (decimal n) rest (word_tail (decimal n) (decimal_tail n)) free
name_reads (name.S n) rest free = word_run 115 (λ v b. refl) (decimal n) rest (word_tail (decimal n) (decimal_tail n)) free

pub name_step : (n : Name) (rest : List ℕ) (r : List Token) → IsApart rest → lex [] rest ≡ spelt r → lex [] (name_text n ++ rest) ≡ spelt (t.Name n ∷ r)
name_step n rest r free h = name_reads n rest free ∙ after (name_text n) h

-- an operator, with a space on either side
pub op_step : (op : CBin) (rest : List ℕ) (r : List Token) → lex [] rest ≡ spelt r → lex [] (op_text op ++ 32 ∷ rest) ≡ spelt (t.Op op ∷ r)
op_step bin.Add rest r h = after (codes "+") h
op_step bin.Sub rest r h = after (codes "-") h
op_step bin.Mul rest r h = after (codes "*") h
op_step bin.And rest r h = after (codes "&") h
op_step bin.Or rest r h = after (codes "|") h
op_step bin.Xor rest r h = after (codes "^") h
op_step bin.Shl rest r h = after (codes "<<") h
op_step bin.Shr rest r h = after (codes ">>") h

-- a comparison, with a space on either side
pub cmp_step : (op : CCmp) (rest : List ℕ) (r : List Token) → lex [] rest ≡ spelt r → lex [] (cmp_text op ++ 32 ∷ rest) ≡ spelt (t.Compare op ∷ r)
cmp_step Eq rest r h = after (codes "==") h
cmp_step Ne rest r h = after (codes "!=") h
cmp_step Lt rest r h = after (codes "<") h
cmp_step Le rest r h = after (codes "<=") h

-- a function's name and its parenthesis
pub fn1_step : (f : CFn1) (rest : List ℕ) (r : List Token) → lex [] rest ≡ spelt r → lex [] (fn1_text f ++ 40 ∷ rest) ≡ spelt (t.Fn1 f ∷ t.Open ∷ r)
fn1_step Sx1 rest r h = after (codes "sx1") (opens rest r h)
fn1_step Sx2 rest r h = after (codes "sx2") (opens rest r h)
fn1_step Par rest r h = after (codes "par") (opens rest r h)
fn1_step Bsf rest r h = after (codes "bsf") (opens rest r h)
fn1_step Bsr rest r h = after (codes "bsr") (opens rest r h)

pub fn2_step : (f : CFn2) (rest : List ℕ) (r : List Token) → lex [] rest ≡ spelt r → lex [] (fn2_text f ++ 40 ∷ rest) ≡ spelt (t.Fn2 f ∷ t.Open ∷ r)
fn2_step Sar rest r h = after (codes "sar") (opens rest r h)
fn2_step Lts rest r h = after (codes "lts") (opens rest r h)
fn2_step Mulhu rest r h = after (codes "mulhu") (opens rest r h)
fn2_step Mulhs rest r h = after (codes "mulhs") (opens rest r h)

pub fn3_step : (f : CFn3) (rest : List ℕ) (r : List Token) → lex [] rest ≡ spelt r → lex [] (fn3_text f ++ 40 ∷ rest) ≡ spelt (t.Fn3 f ∷ t.Open ∷ r)
fn3_step Divubad rest r h = after (codes "divubad") (opens rest r h)
fn3_step Divuq rest r h = after (codes "divuq") (opens rest r h)
fn3_step Divur rest r h = after (codes "divur") (opens rest r h)
fn3_step Divsbad rest r h = after (codes "divsbad") (opens rest r h)
fn3_step Divsq rest r h = after (codes "divsq") (opens rest r h)
fn3_step Divsr rest r h = after (codes "divsr") (opens rest r h)

-- a load and a store, with the parenthesis
pub ld_step : (w : Width) (rest : List ℕ) (r : List Token) → lex [] rest ≡ spelt r → lex [] (ld_text w ++ 40 ∷ rest) ≡ spelt (t.Ld w ∷ t.Open ∷ r)
ld_step width.B rest r h = after (codes "ld1") (opens rest r h)
ld_step width.H rest r h = after (codes "ld2") (opens rest r h)
ld_step width.W rest r h = after (codes "ld4") (opens rest r h)

pub st_step : (w : Width) (rest : List ℕ) (r : List Token) → lex [] rest ≡ spelt r → lex [] (st_text w ++ 40 ∷ rest) ≡ spelt (t.St w ∷ t.Open ∷ r)
st_step width.B rest r h = after (codes "st1") (opens rest r h)
st_step width.H rest r h = after (codes "st2") (opens rest r h)
st_step width.W rest r h = after (codes "st4") (opens rest r h)
