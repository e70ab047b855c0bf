-- What holds of windows by their definition alone.
use Rattle.std.specs.Prelude.{◌≡◌, ℕ, List}
use Rattle.elf_image.specs.declared.image.Segment.{Segment}
use Rattle.elf_image.specs.declared.range.Range.{Range}
use Rattle.jump_tables.specs.declared.table.TableWindow.{TableWindow}
use Rattle.jump_tables.specs.Window.{IsWindow}

-- At most one window stands at an address.
abbrev pub OneWindow : Type 0
OneWindow = (m : List Segment) (r : Range) (a : ℕ) (w v : TableWindow) → IsWindow m r a w → IsWindow m r a v → w ≡ v
