-- The tokens of a text, each as its bytes (C99 6.4).
use Rattle.std.specs.Prelude.{ℕ, Bool, false, ◌&&◌, ◌||◌, nat_eq, nat_le, List, [], ◌∷◌, ◌++◌, if◌then◌else◌}

-- 0 to 9
abbrev pub is_digit : ℕ → Bool
is_digit b = nat_le 48 b && nat_le b 57

-- a to z, A to Z
abbrev pub is_letter : ℕ → Bool
is_letter b = (nat_le 97 b && nat_le b 122) || (nat_le 65 b && nat_le b 90)

-- a letter or `_` (C99 6.4.2.1, nondigit)
abbrev pub begins_word : ℕ → Bool
begins_word b = is_letter b || nat_eq b 95

-- space, tab, carriage return, line feed
abbrev pub is_blank : ℕ → Bool
is_blank b = nat_eq b 32 || (nat_eq b 9 || (nat_eq b 13 || nat_eq b 10))

-- the marks of two bytes: == != <= << >> && || (C99 6.4.6)
abbrev pub is_pair : ℕ → ℕ → Bool
is_pair a b =
    (nat_eq a 61 && nat_eq b 61) || ((nat_eq a 33 && nat_eq b 61) || ((nat_eq a 60 && nat_eq b 61) || ((nat_eq a 60 && nat_eq b 60)
    || ((nat_eq a 62 && nat_eq b 62) || ((nat_eq a 38 && nat_eq b 38) || (nat_eq a 124 && nat_eq b 124))))))

-- A byte makes a token longer. What begins with a letter or `_` takes letters, digits and `_`; what begins with a digit
-- takes letters and digits; a mark of one byte takes the second byte of a mark of two. So the longest token that can be
-- is found byte by byte (C99 6.4, 4); any other byte is a token by itself.
abbrev pub extends : List ℕ → ℕ → Bool
extends [] b = false
extends (a ∷ more) b =
    if begins_word a then begins_word b || is_digit b else
    (if is_digit a then is_letter b || is_digit b else alone more (is_pair a b))
  where
    alone : List ℕ → Bool → Bool
    alone [] pair = pair
    alone (c ∷ cs) pair = false

-- a token that has ended, in front of those after it; nothing where none was begun
abbrev pub ended : List ℕ → List (List ℕ) → List (List ℕ)
ended [] tokens = tokens
ended (b ∷ bs) tokens = (b ∷ bs) ∷ tokens

-- The tokens of a text, after some bytes of the first one. Blanks end a token and belong to none.
abbrev pub lex : List ℕ → List ℕ → List (List ℕ)
lex token [] = ended token []
lex token (b ∷ text) =
    if extends token b then lex (token ++ b ∷ []) text else
    ended token (if is_blank b then lex [] text else lex (b ∷ []) text)

-- the tokens of a text
abbrev pub tokens_in : List ℕ → List (List ℕ)
tokens_in text = lex [] text
