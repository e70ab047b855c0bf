-- What words of the command line say of a start: registers that are set, and arguments.
use Rattle.std.specs.Prelude.{ℕ, ◌&&◌, ◌==◌, nat_le, Bool, List, [], ◌∷◌, ◌++◌, length, Option, Some, None, is_some, if◌then◌else◌, codes}
use Rattle.std.specs.List.{before_first, after_first, list_all}
use Rattle.std.specs.Str.{bytes_eq}
use Rattle.run_lines.specs.declared.words.StartWord.{StartWord}
use Rattle.run_lines.specs.declared.words.StartWord.TheVariants.{Register, Argument}
use Rattle.run_lines.specs.Numbers.{value_of}

-- the number of the register of a name (Intel SDM vol. 2, 2.1.5, table 2-2)
abbrev pub register_of : List ℕ → Option ℕ
register_of name =
    if bytes_eq name (codes "eax") then Some 0 else
    (if bytes_eq name (codes "ecx") then Some 1 else
    (if bytes_eq name (codes "edx") then Some 2 else
    (if bytes_eq name (codes "ebx") then Some 3 else
    (if bytes_eq name (codes "esp") then Some 4 else
    (if bytes_eq name (codes "ebp") then Some 5 else
    (if bytes_eq name (codes "esi") then Some 6 else
    (if bytes_eq name (codes "edi") then Some 7 else None)))))))

-- what is said by a word that has a value as a whole, or after its first `=`, where the register of a name stands before
abbrev pub said : Option ℕ → Option ℕ → Option ℕ → Option StartWord
said (Some v) after register = Some (Argument v)
said None None register = None
said None (Some v) None = None
said None (Some v) (Some n) = Some (Register n v)

-- what a word says: a value is the next argument, and NAME=VALUE sets the register of the name
abbrev pub start_word_of : List ℕ → Option StartWord
start_word_of word = said (value_of word) (value_of (after_first (λ b. b == 61) word)) (register_of (before_first (λ b. b == 61) word))

-- each of the words says something, and there are at most 64
abbrev pub are_start_words : List (List ℕ) → Bool
are_start_words words = nat_le (length words) 64 && list_all (λ w. is_some (start_word_of w)) words

-- ---- all words

-- what words say: the registers that are set, by number, each with its value, in the order of the words, and the
-- arguments in theirs
pub record Given : Type 0 where
  pub registers : List (ℕ × ℕ)
  pub arguments : List ℕ

abbrev pub register_in : Option StartWord → List (ℕ × ℕ)
register_in None = []
register_in (Some (Register n v)) = (n, v) ∷ []
register_in (Some (Argument v)) = []

abbrev pub argument_in : Option StartWord → List ℕ
argument_in None = []
argument_in (Some (Register n v)) = []
argument_in (Some (Argument v)) = v ∷ []

abbrev pub registers_in : List (List ℕ) → List (ℕ × ℕ)
registers_in [] = []
registers_in (w ∷ ws) = register_in (start_word_of w) ++ registers_in ws

abbrev pub arguments_in : List (List ℕ) → List ℕ
arguments_in [] = []
arguments_in (w ∷ ws) = argument_in (start_word_of w) ++ arguments_in ws

abbrev pub given_by : List (List ℕ) → Given
given_by words = record { registers = registers_in words; arguments = arguments_in words }
