-- Laws that a reader expects of the starts that words give.
use Rattle.std.specs.Prelude.{◌≡◌, ℕ, ◌<◌, List, slice_index, Some, Ok}
use Rattle.elf_image.specs.declared.image.Segment.{Segment}
use Rattle.elf_image.specs.Image.{image_of, backed_byte}
use Rattle.dream_words.specs.declared.outcome.Start.{Start}
use Rattle.machine.specs.Run.{IsStart}
use Rattle.run_lines.specs.StartWords.{given_by}
use Rattle.run_lines.specs.Starts.{IsStartOf}

-- what an image has at its addresses are bytes
abbrev pub HoldsBytes : List Segment → Type 0
HoldsBytes m = (a b : ℕ) → backed_byte m a ≡ Some b → b < 256

-- The image of a file of bytes has bytes.
abbrev pub FilesHoldBytes : Type 0
FilesHoldBytes = (bytes : List ℕ) (m : List Segment) → ((k : ℕ) → slice_index bytes k < 256) → image_of bytes ≡ Ok m → HoldsBytes m

-- What words give is a start of the machine, over an image of bytes.
abbrev pub StartsAreStarts : Type 0
StartsAreStarts = (m : List Segment) (words : List (List ℕ)) (s : Start) → HoldsBytes m → IsStartOf m (given_by words) s → IsStart m s
