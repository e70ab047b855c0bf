-- What each simple statement does in a world, once its words are evaluated.
use Rattle.std.specs.Prelude.{ℕ, nat_eq, if◌then◌else◌, List, [], ◌∷◌, ◌++◌, Option, Some, None}
use Rattle.dream_words.specs.declared.machine.Width.{Width}
use Rattle.dream_words.specs.declared.machine.Name.{Name}
use Rattle.dream_words.specs.declared.outcome.Answer.{Answer}
use Rattle.dream_words.specs.declared.outcome.Call.{Call}
use Rattle.dream_words.specs.declared.outcome.Outcome.{Outcome}
use Rattle.dream_words.specs.declared.outcome.Outcome.TheVariants as outcome
use Rattle.dream_words.specs.Memory.{load, store, bytes_of}
use Rattle.dream_words.specs.Pages.{first_bad}
use Rattle.run_parts.specs.Steps.{Did, Next, Halt}
use Rattle.run_parts.specs.World.{World, with_name, regs_in, answered}

-- what is done in a world
abbrev pub Doing : Type 0
Doing = Did World Outcome

-- the world after a name is set
abbrev pub set_word : Name → ℕ → World → World
set_word n x w = record w { names = with_name w.names n x }

-- What follows an access whose first byte that isn't allowed is at an address: a page fault (Intel SDM vol. 3, 6.15,
-- vector 14) with that address and the memory before it. Where there is no such byte, what comes next.
abbrev pub allowing : Option ℕ → World → Doing → Doing
allowing None w next = next
allowing (Some bad) w next = Halt (outcome.Faulted 14 bad w.mem w.calls)

-- what follows a read of the bytes at an address
abbrev pub reading : ℕ → Width → World → Doing → Doing
reading at width w next = allowing (first_bad w.pages.read at (bytes_of width)) w next

-- what follows a write to the bytes at an address
abbrev pub writing : ℕ → Width → World → Doing → Doing
writing at width w next = allowing (first_bad w.pages.write at (bytes_of width)) w next

-- a name is set to a word
abbrev pub setting : Name → ℕ → World → Doing
setting n x w = Next (set_word n x w)

-- a name is set to the bytes at an address, extended by zeros
abbrev pub loading : Name → Width → ℕ → World → Doing
loading n width at w = reading at width w (Next (set_word n (load w.mem at (bytes_of width)) w))

-- the low bytes of a word are put at an address
abbrev pub storing : Width → ℕ → ℕ → World → Doing
storing width at x w = writing at width w (Next (record w { mem = store w.mem at (bytes_of width) x }))

-- With these calls made, the next answer is taken; where there is none the run asks.
abbrev pub answered_by : List Answer → List Call → World → Doing
answered_by [] calls w = Halt (outcome.Asking calls)
answered_by (a ∷ rest) calls w = Next (record w { names = answered a w.names; mem = a.mem; left = rest; calls = calls })

-- a call is recorded, with its target, the registers and the memory, and takes the next answer
abbrev pub calling : ℕ → World → Doing
calling target w = answered_by w.left (w.calls ++ record { target = target; regs = regs_in w.names; mem = w.mem } ∷ []) w

-- the fault of a vector comes where the word isn't 0; it tells no address
abbrev pub trapping : ℕ → ℕ → World → Doing
trapping vector x w = if nat_eq x 0 then Next w else Halt (outcome.Faulted vector 0 w.mem w.calls)
