-- What is made for the places of a range.
use Rattle.std.specs.Prelude.{◌≡◌, ℕ, true, List}
use Rattle.elf_image.specs.declared.image.Segment.{Segment}
use Rattle.elf_image.specs.declared.range.Range.{Range}
use Rattle.elf_image.specs.Range.{bytes_to_end}
use Rattle.x86_inst.specs.declared.Inst.{Inst}
use Rattle.x86_decode.specs.Decodes.{NoneBegins}
use Rattle.machine.specs.Code.{BeginsAt}
use Rattle.lift.specs.Given.{leaves_bare}
use Rattle.range_flow.specs.declared.lifted.Lifted.{Lifted}
use Rattle.range_flow.specs.Pieces.{IsPieceOf}
use Rattle.range_flow.specs.Nodes.{piece_of}

-- it is the piece of its address
abbrev pub IsLiftedIn : List Segment → Range → Lifted → Type 0
IsLiftedIn m r l = IsPieceOf m r (piece_of l)

-- An instruction begins at an address, and if it is a jump by a word, then through a bare absolute address.
pub record CanBeLifted (m : List Segment) (r : Range) (a : ℕ) : Type 0 where
  pub begins : NoneBegins (bytes_to_end m r a) → ⊥
  pub bare : (i : Inst) (n : ℕ) → BeginsAt m r a i n → leaves_bare i ≡ true
