-- The file that loads a code has an image.
use Rattle.std.proofs.Common.{◌≡◌, ℕ, ◌+◌, ◌*◌, ◌%◌, ◌^◌, ◌<◌, ◌≤◌, Bool, false, List, ◌∷◌, ◌++◌, [], length, nat_lt, Option, None, Result, Ok, Err, refl, sym, ap, ◌∙◌, arith, le-ltb}
use Rattle.std.proofs.lemmas.List.{length-append}
use Rattle.std.proofs.lemmas.Bool.{and_right, or_from}
use Rattle.std.specs.Int.{byte_at}
use Rattle.elf_image.specs.declared.image.Segment.{Segment}
use Rattle.elf_image.specs.declared.image.ElfFault.{ElfFault}
use Rattle.elf_image.specs.First.{first_below}
use Rattle.elf_image.specs.Header.{entry_count, is_load, offset_of, address_of, file_size_of, size_of}
use Rattle.elf_image.specs.Rules.{is_outside, first_rule, header_rules, headers_fault, first_broken}
use Rattle.elf_image.specs.Image.{image_of, segments_of}
use Rattle.generators.specs.Code.{pieces}
use Rattle.generators.specs.Files.{elf_header, program_header, file_of}
use Rattle.generators.proofs.Lengths.{pieces_short}
use Rattle.drill_lines.specs.Laws.{CodeHasImage, DrillHasImage}

-- no rule is broken
abbrev AreUnbroken : List (Bool × ElfFault) → Type 0
AreUnbroken [] = Unit {0}
AreUnbroken (rule ∷ rules) = (rule.0 ≡ false) × AreUnbroken rules

-- then the other fault counts
unbroken : (rules : List (Bool × ElfFault)) (other : Option ElfFault) → AreUnbroken rules → first_rule rules other ≡ other
unbroken [] other h = refl
unbroken (rule ∷ rules) other h = rw h.0 (unbroken rules other h.1)

-- no number below one passes
one_below : (test : ℕ → Bool) → test 0 ≡ false → first_below 1 test ≡ None
one_below test e = rw e refl

-- the four bytes of a word, the lowest first
word_is : (x : ℕ) → x < 2 ^ 32 → byte_at 0 x + 256 * (byte_at 1 x + 256 * (byte_at 2 x + 256 * (byte_at 3 x + 256 * 0))) ≡ x
word_is x h = omega arith

-- how long the file is
file_long : (code : List ℕ) → length (file_of code) ≡ 84 + length code
file_long code =
    let a : length elf_header ≡ 52 = refl in
    let b : length (program_header (84 + length code)) ≡ 32 = refl in
    let c = length-append elf_header (program_header (84 + length code) ++ code) in
    let d = length-append (program_header (84 + length code)) code in
    omega (arith, a, b, c, d)

module _ (code : List ℕ) (l : length code < 2 ^ 31) where
  abbrev file : List ℕ
  file = file_of code

  size_word : (84 + length code) % 2 ^ 32 ≡ 84 + length code
  size_word = omega arith

  file_size : file_size_of file 0 ≡ 84 + length code
  file_size = word_is ((84 + length code) % 2 ^ 32) (omega arith) ∙ size_word

  whole_size : size_of file 0 ≡ 84 + length code
  whole_size = word_is ((84 + length code) % 2 ^ 32) (omega arith) ∙ size_word

  inside : is_outside file 0 ≡ false
  inside =
      let a : nat_lt (length file) (offset_of file 0 + file_size_of file 0) ≡ false = le-ltb _ _ (omega (arith, file_long code, file_size)) in
      let b : nat_lt (size_of file 0) (file_size_of file 0) ≡ false = le-ltb _ _ (omega (arith, file_size, whole_size)) in
      let d : nat_lt (2 ^ 32) (address_of file 0 + size_of file 0) ≡ false = le-ltb _ _ (omega (arith, whole_size)) in
      and_right (is_load file 0) _ (or_from _ _ a (or_from _ _ b d))

  headers : headers_fault file ≡ None
  headers = rw (one_below (is_outside file) inside) refl

  none_broken : first_broken file ≡ None
  none_broken =
      let a : nat_lt (length file) 52 ≡ false = le-ltb _ _ (omega (arith, file_long code)) in
      let b : nat_lt (length file) 84 ≡ false = le-ltb _ _ (omega (arith, file_long code)) in
      unbroken (header_rules file) (headers_fault file) (a, (refl, (refl, (refl, (refl, (refl, (refl, (refl, (refl, (b, tt)))))))))) ∙ headers

pub code_images : CodeHasImage
code_images code l = (segments_of (file_of code) (entry_count (file_of code)), rw (none_broken code l) refl)

pub drill_images : DrillHasImage
drill_images n some few = code_images (pieces n) (let l : length (pieces n) ≤ 100 * n = pieces_short n in omega arith)

-- so it isn't refused
pub never_refused : (n : ℕ) (bytes : List ℕ) (f : ElfFault) → 1 ≤ n → n ≤ 4000 → bytes ≡ file_of (pieces n) → image_of bytes ≡ Err f → ⊥
never_refused n bytes f some few is e =
    let p = drill_images n some few in
    let q : ◌≡◌ {A = Result (List Segment) ElfFault} (Ok p.0) (Err f) = sym p.1 ∙ ap image_of (sym is) ∙ e in
    cc
