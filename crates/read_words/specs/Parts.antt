-- What a Word or Cond that is being read is, as the laws see it.
use Rattle.std.specs.Prelude.{◌≡◌, [], reverse, Result, Ok, Err}
use Rattle.read_words.specs.declared.open.Item.{Item}
use Rattle.read_words.specs.declared.open.State.TheVariants as state
use Rattle.read_words.specs.declared.part.Part.{Part}
use Rattle.read_words.specs.Turns.{Reading}
use Rattle.read_words.specs.Reads.{IsOpen}

-- the open parts are kept from outside inwards, and listed from inside outwards
abbrev pub reading_of : Part → Reading
reading_of p = record { state = p.state; open' = reverse p.«open» }

-- it is whole, and is this Word or Cond; or it isn't whole yet, and stays as it was
abbrev pub IsFinished : Part → Result Item Part → Type 0
IsFinished p (Ok i) = reading_of p ≡ record { state = state.Have i; open' = [] }
IsFinished p (Err q) = (q ≡ p) × IsOpen (reading_of p).state (reading_of p).open'
