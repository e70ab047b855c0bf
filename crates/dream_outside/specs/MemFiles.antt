-- Files kept in memory: what they hold, and which of their calls fail.
use Rattle.std.specs.Prelude.{◌≡◌, ◌+◌, ◌-◌, ◌^◌, ℕ, min, List, [], ◌∷◌, drop, Option, Some, None, if◌then◌else◌, slice_get, unwrap_or, string_bytes, Contains}
use Rattle.std.specs.Option.{option_map}
use Rattle.std.specs.Str.{bytes_eq}
use Rattle.dream_outside.specs.declared.mem_files.MemFile.{MemFile}
use Rattle.dream_outside.specs.declared.mem_files.MemFiles.{MemFiles}

-- the bytes at a path: those of the first file that has it
abbrev pub bytes_at : List MemFile → List ℕ → Option (List ℕ)
bytes_at [] path = None
bytes_at (f ∷ fs) path = if bytes_eq (string_bytes f.path) path then Some f.bytes.items else bytes_at fs path

-- the bytes of the file at a place in the list, and none past its end
abbrev pub opened : List MemFile → ℕ → List ℕ
opened files place = unwrap_or (option_map (λ f. f.bytes.items) (slice_get files place)) []

-- the bytes by path
abbrev pub held_by : MemFiles → List ℕ → Option (List ℕ)
held_by m = bytes_at m.files.items

-- the bytes of the opened file that are still to be taken
abbrev pub left_in : MemFiles → List ℕ
left_in m = drop m.at (opened m.files.items m.place)

-- how many bytes were taken since a file was opened
abbrev pub got_by : MemFiles → ℕ
got_by m = m.got

abbrev pub faults_of : MemFiles → ℕ
faults_of m = m.faults

-- how many calls there were
abbrev pub calls_of : MemFiles → ℕ
calls_of m = m.calls

-- the numbers of the calls that fail
abbrev pub failing_calls : MemFiles → List ℕ
failing_calls m = m.fails.items

-- a count after one more: it stays at its end
abbrev pub raised : ℕ → ℕ
raised n = min (n + 1) (2 ^ 64 - 1)

-- the number of the next call
abbrev pub counted_call : MemFiles → ℕ
counted_call m = raised m.calls

-- the next call is to fail
abbrev pub IsFailing : MemFiles → Type 0
IsFailing m = Contains m.fails.items (counted_call m)

-- a call raises the count of faults just where it is to fail
pub record RaisesFault (old new : MemFiles) : Type 0 where
  pub fault : IsFailing old → new.faults ≡ raised old.faults
  pub none : (IsFailing old → ⊥) → new.faults ≡ old.faults
