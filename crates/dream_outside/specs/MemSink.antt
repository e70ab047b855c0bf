-- A stream kept in memory: what it took, and which of its calls fail.
use Rattle.std.specs.Prelude.{◌≡◌, ◌⊎◌, ◌-◌, ◌<◌, ℕ, min, List, length, Contains}
use Rattle.dream_outside.specs.declared.mem_sink.MemSink.{MemSink}
use Rattle.dream_outside.specs.MemFiles.{raised}

-- the bytes taken so far
abbrev pub taken_by : MemSink → List ℕ
taken_by s = s.bytes.items

abbrev pub faults_of : MemSink → ℕ
faults_of s = s.faults

-- how many bytes it takes in all, and in one call
abbrev pub room_of : MemSink → ℕ
room_of s = s.room

abbrev pub step_of : MemSink → ℕ
step_of s = s.step

-- how many calls there were
abbrev pub puts_of : MemSink → ℕ
puts_of s = s.puts

-- the numbers of the calls that fail
abbrev pub failing_puts : MemSink → List ℕ
failing_puts s = s.fails.items

-- how much of a piece is taken: no more than a step, and no more than the room that is left
abbrev pub share_of : MemSink → List ℕ → ℕ
share_of s piece = min (min (length piece) s.step) (s.room - length s.bytes.items)

-- the next call fails: it is listed, or the piece isn't empty and no room is left
abbrev pub IsRefusing : MemSink → List ℕ → Type 0
IsRefusing s piece = Contains s.fails.items (raised s.puts) ⊎ ((0 < length piece) × (s.room ≡ length s.bytes.items))

-- a call raises the count of faults just where it fails, and changes neither room, step nor list
pub record Counts (old new : MemSink) (piece : List ℕ) : Type 0 where
  pub fault : IsRefusing old piece → new.faults ≡ raised old.faults
  pub none : (IsRefusing old piece → ⊥) → new.faults ≡ old.faults
  pub puts : new.puts ≡ raised old.puts
  pub fails : new.fails.items ≡ old.fails.items
  pub room : new.room ≡ old.room
  pub step : new.step ≡ old.step
