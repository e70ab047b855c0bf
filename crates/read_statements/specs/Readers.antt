-- What a function that is being read is, as the laws see it. What is open is kept from outside inwards, and listed from
-- inside outwards.
use Rattle.std.specs.Prelude.{Option, Some, None, reverse}
use Rattle.c_syntax.specs.declared.syntax.CFun.{CFun}
use Rattle.read_words.specs.Parts.{reading_of}
use Rattle.read_statements.specs.declared.body.Place as code_place
use Rattle.read_statements.specs.declared.body.Place.TheVariants as place
use Rattle.read_statements.specs.declared.body.Body as code_body
use Rattle.read_statements.specs.declared.body.Outcome as code_outcome
use Rattle.read_statements.specs.declared.body.Outcome.TheVariants as outcome
use Rattle.read_statements.specs.declared.reader.Reader.{Reader}
use Rattle.read_statements.specs.declared.reader.Reader.TheVariants as reader
use Rattle.read_statements.specs.Turns.{Place, At, Inside, Body, Outcome, Going, Ended, State, Begun, Declaring, Within, Whole}

abbrev pub place_of : code_place.Place → Place
place_of (place.At p) = At p
place_of (place.Inside u p) = Inside u (reading_of p)

abbrev pub body_of : code_body.Body → Body
body_of b = record { open' = reverse b.«open»; stmts = b.stmts; place = place_of b.place }

abbrev pub outcome_of : code_outcome.Outcome → Outcome
outcome_of (outcome.Going b) = Going (body_of b)
outcome_of (outcome.Ended ss) = Ended ss

abbrev pub state_of : Reader → State
state_of (reader.Begun h) = Begun h
state_of (reader.Declaring a l d) = Declaring a l d
state_of (reader.Within a l b) = Within a l (body_of b)
state_of (reader.Whole f) = Whole f

-- the function, where all of it was read
abbrev pub whole_of : State → Option CFun
whole_of (Begun h) = None
whole_of (Declaring a l d) = None
whole_of (Within a l b) = None
whole_of (Whole f) = Some f
