-- The line of a drill.
use Rattle.std.specs.Prelude.{◌≡◌, ℕ, List, ◌++◌, codes, Ok}
use Rattle.std.specs.List.{AllZip, sum_by}
use Rattle.std.specs.Fmt.{decimal}
use Rattle.elf_image.specs.declared.image.Segment.{Segment}
use Rattle.elf_image.specs.declared.range.Range.{Range}
use Rattle.elf_image.specs.Image.{image_of}
use Rattle.generators.specs.Code.{pieces, ranges}
use Rattle.generators.specs.Files.{file_of}
use Rattle.drill_lines.specs.declared.range_counts.Counts.{Counts}
use Rattle.drill_lines.specs.declared.line.Totals.{Totals}
use Rattle.drill_lines.specs.Counts.{HasCountsIn}

-- how many addresses ranges have, one after another
abbrev pub bytes_in : List Range → ℕ
bytes_in ranges = sum_by (λ r. r.size) ranges

-- the sum of each count
abbrev pub totals_of : List Counts → Totals
totals_of counts = record {
  accepted = sum_by (λ c. c.accepted) counts;
  components = sum_by (λ c. c.components) counts;
  selectors = sum_by (λ c. c.selectors) counts;
  ext = sum_by (λ c. c.ext) counts;
  stores = sum_by (λ c. c.stores) counts;
}

-- the line of so many functions of so many bytes, with its line feed; all numbers are decimal
abbrev pub line_of : ℕ → ℕ → Totals → List ℕ
line_of functions bytes t =
    codes "functions=" ++ decimal functions ++ codes " bytes=" ++ decimal bytes ++ codes " accepted=" ++ decimal t.accepted
    ++ codes " components=" ++ decimal t.components ++ codes " selectors=" ++ decimal t.selectors ++ codes " ext=" ++ decimal t.ext
    ++ codes " stores=" ++ decimal t.stores ++ codes "\n"

-- The text is the line of the drill of n functions: its file has an image, each of its ranges has its counts there, and the line
-- tells how many functions there are, the bytes of their ranges, and the sums of the counts.
pub record IsDrillLine (n : ℕ) (text : List ℕ) : Type 0 where
  pub image : List Segment
  pub is_image : image_of (file_of (pieces n)) ≡ Ok image
  pub counts : List Counts
  pub counted : AllZip (HasCountsIn image) (ranges n) counts
  pub is_line : text ≡ line_of n (bytes_in (ranges n)) (totals_of counts)
