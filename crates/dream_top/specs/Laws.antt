-- What follows from the meaning of the answers alone.
use Rattle.std.specs.Prelude.{◌≡◌, ◌⊎◌, ℕ, ◌<◌, ◌≤◌, List, [], ◌∷◌, length, Some, None, Ok, Err, codes}
use Rattle.std.specs.Io.KnownBytes.{Appends}
use Rattle.dream_outside.specs.Causes.{Rose, IsUnheld, HoldsAt}
use Rattle.elf_image.specs.declared.image.Segment.{Segment}
use Rattle.elf_image.specs.declared.image.ElfFault.{ElfFault}
use Rattle.elf_image.specs.declared.range.Range.{Range}
use Rattle.elf_image.specs.Image.{image_of}
use Rattle.elf_symbols.specs.declared.find.FindFault.TheVariants as find
use Rattle.elf_symbols.specs.Functions.{function_named}
use Rattle.flow_graph.specs.declared.place.Place.{Place}
use Rattle.c_syntax.specs.declared.syntax.CFun.{CFun}
use Rattle.c_syntax.specs.Text.{canonical_text}
use Rattle.c_syntax.specs.Stands.{StandsFor}
use Rattle.c_read.specs.Refusals.{IsRefusedAt}
use Rattle.flow_graph.specs.Place.{NamedPlace, HasNoPlace}
use Rattle.dream_top.specs.declared.status.Status.{Status}
use Rattle.dream_top.specs.declared.status.Status.TheVariants.{Done, Usage, ReadFault, WriteFault, NoMemory, NotElf, NoFunction, Outside, FileTooLarge, NotProfile}
use Rattle.dream_top.specs.CommandLine.{Named, Target, Command, Tidy, Drill, function_of, path_of, command_of}
use Rattle.dream_top.specs.Answers.{limit, Reading, Writing, Finds, StopsIn, Answers}
use Rattle.dream_top.specs.Header.{header_text}

-- no count of faults rose
pub record HasNoFault (i : Reading) (o : Writing) : Type 0 where
  pub files : Rose i.faults i.faults_now → ⊥
  pub out : Rose o.faults o.faults_now → ⊥

-- The words ask for a function, its path holds these bytes, within the limit, and they have this image and the function, which
-- is at this range.
pub record IsAccepted (words : List (List ℕ)) (i : Reading) (c : Command) (f : Target) (bytes : List ℕ) (m : List Segment) (r : Range) : Type 0 where
  pub command : command_of words ≡ Some c
  pub function : function_of c ≡ Some f
  pub held : HoldsAt i.held f.path bytes
  pub small : length bytes ≤ limit
  pub found : Finds m bytes f.func r

-- Completeness: a function that its file has, where the file is accepted and the range has no place outside the profile, is
-- done, unless a count of faults rises or memory runs out.
abbrev pub NoRefusalWithoutCause : Type 0
NoRefusalWithoutCause =
    (words : List (List ℕ)) (i : Reading) (o : Writing) (c : Command) (f : Target) (bytes : List ℕ) (m : List Segment) (r : Range) (s : Status)
    → IsAccepted words i c f bytes m r → HasNoPlace m r → HasNoFault i o → Answers s i o (command_of words) → (s ≡ Done) ⊎ (s ≡ NoMemory)

-- Each cause has its answer, unless the count of faults of the files rises or memory runs out.
pub record EachCauseHasItsAnswer : Type 0 where
  -- words that are no command
  pub usage : (i : Reading) (o : Writing) (s : Status) → Answers s i o None → s ≡ Usage
  -- a path that holds nothing
  pub unheld : (i : Reading) (o : Writing) (c : Command) (path : List ℕ) (s : Status) → IsUnheld i.held path → path_of c ≡ Some path → Answers s i o (Some c)
      → (s ≡ ReadFault) ⊎ (s ≡ NoMemory)
  -- more bytes than the limit that were taken, where the count of bytes was no more than that before the call
  pub too_many : (i : Reading) (o : Writing) (c : Command) (path : List ℕ) (s : Status) → i.got ≤ limit → limit < i.got_now → path_of c ≡ Some path → Answers s i o (Some c)
      → (s ≡ FileTooLarge) ⊎ (s ≡ NoMemory)
  -- a file that is longer than the limit
  pub too_large : (i : Reading) (o : Writing) (c : Command) (path bytes : List ℕ) (s : Status) → HoldsAt i.held path bytes → limit < length bytes
      → (Rose i.faults i.faults_now → ⊥) → path_of c ≡ Some path → Answers s i o (Some c) → (s ≡ FileTooLarge) ⊎ (s ≡ NoMemory)
  -- a file that breaks a rule
  pub broken : (i : Reading) (o : Writing) (c : Command) (f : Target) (bytes : List ℕ) (fault : ElfFault) (s : Status) → HoldsAt i.held f.path bytes
      → length bytes ≤ limit → image_of bytes ≡ Err fault → (Rose i.faults i.faults_now → ⊥) → function_of c ≡ Some f → Answers s i o (Some c) → (s ≡ NotElf fault) ⊎ (s ≡ NoMemory)
  -- a name that is to be found in broken sections of a file that has an image
  pub broken_sections : (i : Reading) (o : Writing) (c : Command) (f : Target) (bytes : List ℕ) (m : List Segment) (name : List ℕ) (fault : ElfFault) (s : Status)
      → HoldsAt i.held f.path bytes → length bytes ≤ limit → image_of bytes ≡ Ok m → f.func ≡ Named name → function_named bytes name ≡ Err (find.Elf fault)
      → (Rose i.faults i.faults_now → ⊥) → function_of c ≡ Some f → Answers s i o (Some c) → (s ≡ NotElf fault) ⊎ (s ≡ NoMemory)
  -- a name that no function has, in a file that has an image and whose sections are not broken
  pub no_function : (i : Reading) (o : Writing) (c : Command) (f : Target) (bytes : List ℕ) (m : List Segment) (name : List ℕ) (s : Status)
      → HoldsAt i.held f.path bytes → length bytes ≤ limit → image_of bytes ≡ Ok m → f.func ≡ Named name → function_named bytes name ≡ Err find.NoFunction
      → (Rose i.faults i.faults_now → ⊥) → function_of c ≡ Some f → Answers s i o (Some c) → (s ≡ NoFunction) ⊎ (s ≡ NoMemory)
  -- a range with a place outside the profile, which is named
  pub outside : (words : List (List ℕ)) (i : Reading) (o : Writing) (c : Command) (f : Target) (bytes : List ℕ) (m : List Segment) (r : Range) (p : Place) (s : Status)
      → IsAccepted words i c f bytes m r → NamedPlace m r p → (Rose i.faults i.faults_now → ⊥) → Answers s i o (command_of words)
      → (s ≡ Outside p) ⊎ (s ≡ NoMemory)
  -- a text that stands for a function: the whole canonical text of that function is written, unless memory runs out or a count
  -- of faults rises
  pub tidy : (words : List (List ℕ)) (i : Reading) (o : Writing) (path bytes : List ℕ) (f : CFun) (s : Status) → command_of words ≡ Some (Tidy path)
      → HoldsAt i.held path bytes → length bytes ≤ limit → StandsFor bytes f → HasNoFault i o → Answers s i o (command_of words)
      → ((s ≡ Done) × Appends o.taken o.taken_now (canonical_text f)) ⊎ (s ≡ NoMemory)
  -- a text that stands for no function: there is just one place at which it is refused, and it is told
  pub not_profile : (words : List (List ℕ)) (i : Reading) (o : Writing) (path bytes : List ℕ) (s : Status) → command_of words ≡ Some (Tidy path)
      → HoldsAt i.held path bytes → length bytes ≤ limit → ((f : CFun) → StandsFor bytes f → ⊥) → (Rose i.faults i.faults_now → ⊥) → Answers s i o (command_of words)
      → ((at : ℕ) × IsRefusedAt bytes at × ((k : ℕ) → IsRefusedAt bytes k → k ≡ at) × (s ≡ NotProfile at)) ⊎ (s ≡ NoMemory)
  -- a drill that is asked for: done, unless memory runs out or the count of faults of the output rises
  pub drill : (words : List (List ℕ)) (i : Reading) (o : Writing) (n : ℕ) (s : Status) → command_of words ≡ Some (Drill n) → Answers s i o (command_of words)
      → (s ≡ Done) ⊎ ((s ≡ NoMemory) ⊎ ((s ≡ WriteFault) × Rose o.faults o.faults_now))
  -- the header that is asked for: all of it, or a front of it where the count of faults of the output rises
  pub prelude : (i : Reading) (o : Writing) (s : Status) → Answers s i o (command_of (codes "prelude" ∷ []))
      → ((s ≡ Done) × Appends o.taken o.taken_now header_text) ⊎ ((s ≡ WriteFault) × StopsIn o header_text)
  -- the header, where the count of faults of the output doesn't rise
  pub prelude_done : (i : Reading) (o : Writing) (s : Status) → (Rose o.faults o.faults_now → ⊥) → Answers s i o (command_of (codes "prelude" ∷ []))
      → s ≡ Done
