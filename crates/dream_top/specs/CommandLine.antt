-- Which lists of words are which command. The words are those after the program's name.
use Rattle.std.specs.Prelude.{ℕ, ◌+◌, ◌-◌, ◌*◌, ◌&&◌, ◌==◌, nat_le, nat_eq, Bool, false, List, [], ◌∷◌, length, drop, Option, Some, None, if◌then◌else◌, codes, map, string_bytes}
use Rattle.std.specs.List.{starts_with, before_first, after_first}
use Rattle.std.specs.Option.{option_and_then, option_map}
use Rattle.std.specs.Str.{bytes_eq}
use Rattle.elf_image.specs.declared.range.Range.{Range}
use Rattle.elf_image.specs.Range.{range}
use Rattle.dream_engine.specs.declared.form.Form.{Form}
use Rattle.dream_engine.specs.declared.form.Form.TheVariants.{Structured, Plain}
use Rattle.run_lines.specs.Numbers.{count_of}
use Rattle.run_lines.specs.StartWords.{are_start_words}
use Rattle.dream_top.specs.declared.words.Func as words_func
use Rattle.dream_top.specs.declared.words.Func.TheVariants as func_variant
use Rattle.dream_top.specs.declared.words.Target as words_target
use Rattle.dream_top.specs.declared.words.Command as words
use Rattle.dream_top.specs.declared.words.Command.TheVariants as variant

-- ---- FUNC

-- the value of a hexadecimal digit: `0` to `9`, `a` to `f` or `A` to `F`
abbrev pub hex_digit : ℕ → Option ℕ
hex_digit b =
    if nat_le 48 b && nat_le b 57 then Some (b - 48) else
    (if nat_le 97 b && nat_le b 102 then Some (b - 97 + 10) else
    (if nat_le 65 b && nat_le b 70 then Some (b - 65 + 10) else None))

-- the value of digits that come after those of v
abbrev pub hex_after : ℕ → List ℕ → Option ℕ
hex_after v [] = Some v
hex_after v (b ∷ bs) = option_and_then (λ d. hex_after (16 * v + d) bs) (hex_digit b)

-- the value of one to eight hexadecimal digits
abbrev pub hex_number : List ℕ → Option ℕ
hex_number digits = if nat_le 1 (length digits) && nat_le (length digits) 8 then hex_after 0 digits else None

-- the range of an address and a size with a `+` between them
abbrev pub sum_form : List ℕ → Option Range
sum_form sum =
    option_and_then (λ entry. option_and_then (λ size. Some (range entry size)) (hex_number (after_first (λ b. b == 43) sum)))
    (hex_number (before_first (λ b. b == 43) sum))

-- `0x`, one to eight hexadecimal digits, `+`, and one to eight hexadecimal digits for the size
abbrev pub address_form : List ℕ → Option Range
address_form func = if starts_with nat_eq func (codes "0x") then sum_form (drop 2 func) else None

-- what FUNC says: a function's addresses, or its name
pub data Func : Type 0 where
  At : Range → Func
  Named : List ℕ → Func

-- a FUNC with the range of its address form, if it is one: every other is a name
abbrev pub func_with : List ℕ → Option Range → Func
func_with func (Some r) = At r
func_with func None = Named func

-- an address form says its range, and every other FUNC is a name
abbrev pub func_of : List ℕ → Func
func_of func = func_with func (address_form func)

-- ---- the commands

-- a function: what FUNC says of the file at a path
pub record Target : Type 0 where
  pub path : List ℕ
  pub func : Func

abbrev pub target : List ℕ → Func → Target
target path func = record { path = path; func = func }

-- what the words ask for: the C of a function in a form, its runs of so many steps from a start that words give, the canonical
-- text of the text at a path, the line of a drill of so many functions, or the header that each text includes
pub data Command : Type 0 where
  Decompile : Form → Target → Command
  Run : Target → ℕ → List (List ℕ) → Command
  Tidy : List ℕ → Command
  Drill : ℕ → Command
  Prelude : Command

-- the function that is asked for, if one is
abbrev pub function_of : Command → Option Target
function_of (Decompile form f) = Some f
function_of (Run f n words) = Some f
function_of (Tidy path) = None
function_of (Drill n) = None
function_of Prelude = None

-- the path of the file that is read, if one is
abbrev pub path_of : Command → Option (List ℕ)
path_of (Decompile form f) = Some f.path
path_of (Run f n words) = Some f.path
path_of (Tidy path) = Some path
path_of (Drill n) = None
path_of Prelude = None

-- what the program's FUNC says
abbrev pub func_said : words_func.Func → Func
func_said (func_variant.At r) = At r
func_said (func_variant.Named name) = Named name.now

-- the function of the program's words
abbrev pub target_said : words_target.Target → Target
target_said t = target t.path.now (func_said t.func)

-- what the program's command asks for
abbrev pub asked_by : words.Command → Command
asked_by (variant.Decompile form f) = Decompile form (target_said f)
asked_by (variant.Run f n words) = Run (target_said f) n (map string_bytes words.now)
asked_by (variant.Tidy path) = Tidy path.now
asked_by (variant.Drill n) = Drill n
asked_by variant.Prelude = Prelude

-- `decompile` asks for the structured form, and `plain` for the plain one.
abbrev pub form_named : List ℕ → Option Form
form_named name = if bytes_eq name (codes "decompile") then Some Structured else (if bytes_eq name (codes "plain") then Some Plain else None)

-- PATH and FUNC are not empty.
abbrev pub function_at : List ℕ → List ℕ → Option Target
function_at [] func = None
function_at (b ∷ bs) [] = None
function_at (b ∷ bs) (c ∷ cs) = Some (target (b ∷ bs) (func_of (c ∷ cs)))

-- a form and a function, where there are both
abbrev pub asks : Option Form → Option Target → Option Command
asks None f = None
asks (Some form) None = None
asks (Some form) (Some f) = Some (Decompile form f)

-- `decompile PATH FUNC` and `plain PATH FUNC`
abbrev pub function_asked : List (List ℕ) → Option Command
function_asked (name ∷ path ∷ func ∷ []) = asks (form_named name) (function_at path func)
function_asked _ = None

-- a function, and a count of steps
abbrev pub asks_run : Option Target → Option ℕ → List (List ℕ) → Option Command
asks_run None n words = None
asks_run (Some f) None words = None
asks_run (Some f) (Some n) words = Some (Run f n words)

-- `run PATH FUNC N WORD ..`: N is 0 to 1,000,000, and each of at most 64 WORDs says something of the start.
abbrev pub run_asked : List (List ℕ) → Option Command
run_asked (name ∷ path ∷ func ∷ n ∷ words) =
    if bytes_eq name (codes "run") && are_start_words words then asks_run (function_at path func) (count_of 0 1000000 n) words else None
run_asked _ = None

-- `drill N`: N is 1 to 4,000.
abbrev pub drill_asked : List (List ℕ) → Option Command
drill_asked (name ∷ n ∷ []) = if bytes_eq name (codes "drill") then option_map (λ count. Drill count) (count_of 1 4000 n) else None
drill_asked _ = None

-- a text, where PATH isn't empty
abbrev pub tidy_at : List ℕ → Option Command
tidy_at [] = None
tidy_at (b ∷ bs) = Some (Tidy (b ∷ bs))

-- `tidy PATH`
abbrev pub tidy_asked : List (List ℕ) → Option Command
tidy_asked (name ∷ path ∷ []) = if bytes_eq name (codes "tidy") then tidy_at path else None
tidy_asked _ = None

-- a command, or else another
abbrev pub or_else : Option Command → Option Command → Option Command
or_else None c = c
or_else (Some c) d = Some c

-- `prelude`
abbrev pub is_prelude : List (List ℕ) → Bool
is_prelude (name ∷ []) = bytes_eq name (codes "prelude")
is_prelude _ = false

-- One of these; every other list of words is no command.
abbrev pub command_of : List (List ℕ) → Option Command
command_of words = if is_prelude words then Some Prelude else or_else (function_asked words) (or_else (run_asked words) (or_else (tidy_asked words) (drill_asked words)))
