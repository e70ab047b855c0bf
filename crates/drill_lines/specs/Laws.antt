-- Laws that a reader expects of the files of drills.
use Rattle.std.specs.Prelude.{◌≡◌, ℕ, ◌≤◌, ◌<◌, ◌^◌, List, length, Ok}
use Rattle.elf_image.specs.declared.image.Segment.{Segment}
use Rattle.elf_image.specs.Image.{image_of}
use Rattle.generators.specs.Code.{pieces}
use Rattle.generators.specs.Files.{file_of}

-- The file that loads a code of fewer than 2^31 bytes has an image.
abbrev pub CodeHasImage : Type 0
CodeHasImage = (code : List ℕ) → length code < 2 ^ 31 → (m : List Segment) × (image_of (file_of code) ≡ Ok m)

-- The file of a drill has an image.
abbrev pub DrillHasImage : Type 0
DrillHasImage = (n : ℕ) → 1 ≤ n → n ≤ 4000 → (m : List Segment) × (image_of (file_of (pieces n)) ≡ Ok m)
