-- What each status of the program says of the words, the files and the streams that it was given.
use Rattle.std.specs.Prelude.{◌≡◌, ◌⊎◌, ℕ, ◌<◌, ◌≤◌, List, ◌++◌, length, Option, Some, None, Result, Ok, Err}
use Rattle.std.specs.Option.{IsSomeAnd}
use Rattle.std.specs.Io.KnownBytes.{Keeps, Appends}
use Rattle.dream_outside.specs.Causes.{Store, Rose, IsUnheld}
use Rattle.elf_image.specs.declared.image.Segment.{Segment}
use Rattle.elf_image.specs.declared.image.ElfFault.{ElfFault}
use Rattle.elf_image.specs.Image.{image_of}
use Rattle.elf_symbols.specs.declared.find.FindFault.{FindFault}
use Rattle.elf_symbols.specs.declared.find.FindFault.TheVariants as find
use Rattle.elf_symbols.specs.Functions.{function_named}
use Rattle.flow_graph.specs.Place.{NamedPlace}
use Rattle.c_syntax.specs.declared.syntax.CFun.{CFun}
use Rattle.c_syntax.specs.Text.{canonical_text}
use Rattle.c_syntax.specs.Stands.{StandsFor}
use Rattle.c_read.specs.Refusals.{IsRefusedAt}
use Rattle.elf_image.specs.declared.range.Range.{Range}
use Rattle.dream_engine.specs.Agreement.{IsDecompiled}
use Rattle.dream_top.specs.declared.status.Status.{Status}
use Rattle.dream_top.specs.declared.status.Status.TheVariants.{Done, Usage, ReadFault, WriteFault, NoMemory, NotElf, NoFunction, Outside, FileTooLarge, NotProfile}
use Rattle.dream_top.specs.CommandLine.{Func, At, Named, Target, Command, Decompile, Run, Tidy, Drill, Prelude}
use Rattle.dream_top.specs.Runs.{IsRunText}
use Rattle.run_lines.specs.StartWords.{given_by}
use Rattle.drill_lines.specs.Lines.{IsDrillLine}
use Rattle.dream_top.specs.Header.{header_text}

-- the most bytes that a file may have
abbrev pub limit : ℕ
limit = 67108864

-- ---- what is seen of the outside

-- The files before a call and after it: what they hold, their counts of faults, and how many bytes of the opened file
-- were taken.
pub record Reading : Type 0 where
  pub held : Store
  pub faults : ℕ
  pub faults_now : ℕ
  pub got : ℕ
  pub got_now : ℕ

-- a stream before a call and after it: what it has taken, where it tells, and its counts of faults
pub record Writing : Type 0 where
  pub taken : Option (List ℕ)
  pub taken_now : Option (List ℕ)
  pub faults : ℕ
  pub faults_now : ℕ

abbrev pub reading_of : Store → ℕ → ℕ → ℕ → ℕ → Reading
reading_of held faults faults_now got got_now = record { held = held; faults = faults; faults_now = faults_now; got = got; got_now = got_now }

abbrev pub writing_of : Option (List ℕ) → Option (List ℕ) → ℕ → ℕ → Writing
writing_of taken taken_now faults faults_now = record { taken = taken; taken_now = taken_now; faults = faults; faults_now = faults_now }

-- There is a file at the path, and its bytes are such. It says nothing where the store doesn't tell its files.
abbrev pub Holds : Store → List ℕ → (List ℕ → Type 0) → Type 0
Holds None path P = Unit {0}
Holds (Some files) path P = IsSomeAnd (files path) P

-- the stream's count of faults rose, and it took a front of the text
pub record StopsIn (o : Writing) (text : List ℕ) : Type 0 where
  pub rose : Rose o.faults o.faults_now
  pub front : List ℕ
  pub rest : List ℕ
  pub is_front : text ≡ front ++ rest
  pub took : Appends o.taken o.taken_now front

-- the stream took a front of the text, and it is the whole text unless the count of faults rose
pub record Tells (o : Writing) (text : List ℕ) : Type 0 where
  pub front : List ℕ
  pub rest : List ℕ
  pub is_front : text ≡ front ++ rest
  pub took : Appends o.taken o.taken_now front
  pub whole : (front ≡ text) ⊎ Rose o.faults o.faults_now

-- ---- the causes

-- The file can't be read: the count of faults rose, or nothing is held at the path. It doesn't come after more bytes than
-- the limit were taken; a file that wasn't opened leaves the count of bytes as it was.
pub record IsReadFault (i : Reading) (path : List ℕ) : Type 0 where
  pub cause : Rose i.faults i.faults_now ⊎ IsUnheld i.held path
  pub within : limit < i.got_now → i.got_now ≡ i.got

-- More bytes than the limit were taken of the file, and it has more. No call on it failed before.
pub record IsTooLarge (i : Reading) (path : List ℕ) : Type 0 where
  pub got : limit < i.got_now
  pub quiet : i.faults_now ≡ i.faults
  pub held : Holds i.held path (λ bytes. limit < length bytes)

-- the file at the path was taken whole, within the limit, and its bytes are such
pub record Loads (i : Reading) (path : List ℕ) (P : List ℕ → Type 0) : Type 0 where
  pub got : i.got_now ≤ limit
  pub held : Holds i.held path (λ bytes. (length bytes ≤ limit) × P bytes)

-- ---- which function is meant

-- The range that FUNC says in a file's bytes, or why it says none: a name says that of the first function of the name.
abbrev pub range_in : List ℕ → Func → Result Range FindFault
range_in bytes (At r) = Ok r
range_in bytes (Named name) = function_named bytes name

-- the bytes have this image, and FUNC says this range in them
pub record Finds (m : List Segment) (bytes : List ℕ) (func : Func) (r : Range) : Type 0 where
  pub image : image_of bytes ≡ Ok m
  pub range : range_in bytes func ≡ Ok r

-- the bytes have an image, and FUNC says no range in them, for this reason
pub record FindsNone (bytes : List ℕ) (func : Func) (why : FindFault) : Type 0 where
  pub m : List Segment
  pub image : image_of bytes ≡ Ok m
  pub range : range_in bytes func ≡ Err why

-- The bytes have no image for this fault, or they have one, and it is a fault of the sections in which FUNC, a name, is to
-- be found.
abbrev pub IsNotElf : List ℕ → Func → ElfFault → Type 0
IsNotElf bytes func fault = (image_of bytes ≡ Err fault) ⊎ FindsNone bytes func (find.Elf fault)

-- the bytes have an image, and FUNC is a name that no function of theirs has
abbrev pub IsNoFunction : List ℕ → Func → Type 0
IsNoFunction bytes func = FindsNone bytes func find.NoFunction

-- the file at the path has an image and the range that FUNC says, which are such
pub record LoadsFunction (i : Reading) (f : Target) (P : List Segment → Range → Type 0) : Type 0 where
  pub m : List Segment
  pub r : Range
  pub loads : Loads i f.path (λ bytes. Finds m bytes f.func r)
  pub holds : P m r

-- what a text is of a range of an image: that of a function in a form, or the two lines of its runs
abbrev pub Made : Type 1
Made = List Segment → Range → List ℕ → Type 0

-- the text is what is to be made of the function
abbrev pub Makes : Made → Reading → Target → List ℕ → Type 0
Makes P i f text = LoadsFunction i f (λ m r. P m r text)

-- why a function is refused before anything is written
abbrev pub Refuses : Status → Reading → Target → Type 0
Refuses ReadFault i f = IsReadFault i f.path
Refuses FileTooLarge i f = IsTooLarge i f.path
Refuses (NotElf fault) i f = Loads i f.path (λ bytes. IsNotElf bytes f.func fault)
Refuses NoFunction i f = Loads i f.path (λ bytes. IsNoFunction bytes f.func)
Refuses (Outside place) i f = LoadsFunction i f (λ m r. NamedPlace m r place)
Refuses NoMemory i f = Unit {0}
Refuses Done i f = ⊥
Refuses Usage i f = ⊥
Refuses WriteFault i f = ⊥
Refuses (NotProfile at) i f = ⊥

-- ---- a text

-- the file at the path was taken whole, within the limit, and these are its bytes
abbrev pub Takes : Reading → List ℕ → List ℕ → Type 0
Takes i path bytes = Loads i path (λ held. held ≡ bytes)

-- the text at the path stands for a function, and this is the canonical text of that function
pub record Tidies (i : Reading) (path text : List ℕ) : Type 0 where
  pub bytes : List ℕ
  pub f : CFun
  pub takes : Takes i path bytes
  pub stands : StandsFor bytes f
  pub canonical : text ≡ canonical_text f

-- the text at the path stands for no function, and is refused at this place
pub record IsNotProfile (i : Reading) (path : List ℕ) (at : ℕ) : Type 0 where
  pub bytes : List ℕ
  pub takes : Takes i path bytes
  pub refused : IsRefusedAt bytes at

-- why a text is refused before anything is written
abbrev pub RefusesText : Status → Reading → List ℕ → Type 0
RefusesText ReadFault i path = IsReadFault i path
RefusesText FileTooLarge i path = IsTooLarge i path
RefusesText (NotProfile at) i path = IsNotProfile i path at
RefusesText NoMemory i path = Unit {0}
RefusesText Done i path = ⊥
RefusesText Usage i path = ⊥
RefusesText WriteFault i path = ⊥
RefusesText (NotElf fault) i path = ⊥
RefusesText NoFunction i path = ⊥
RefusesText (Outside place) i path = ⊥

-- ---- the answers

-- What a status says where a text is to be made. The output grows by the whole of it at Done, by a front of it at WriteFault, and
-- not at all otherwise, for a reason.
abbrev pub AnswersMade : (List ℕ → Type 0) → (Status → Type 0) → Status → Writing → Type 0
AnswersMade makes refuses Done o = (text : List ℕ) × makes text × Appends o.taken o.taken_now text
AnswersMade makes refuses WriteFault o = (text : List ℕ) × makes text × StopsIn o text
AnswersMade makes refuses s o = refuses s × Keeps o.taken o.taken_now

-- where something is to be made of a function
abbrev pub AnswersFunction : Made → Status → Reading → Writing → Target → Type 0
AnswersFunction P s i o f = AnswersMade (Makes P i f) (λ why. Refuses why i f) s o

-- where a text is to be made canonical
abbrev pub AnswersTidy : Status → Reading → Writing → List ℕ → Type 0
AnswersTidy s i o path = AnswersMade (Tidies i path) (λ why. RefusesText why i path) s o

-- nothing is written, and the status is the reason
abbrev pub IsLeft : Status → Status → Option (List ℕ) → Option (List ℕ) → Type 0
IsLeft why s taken taken_now = (s ≡ why) × Keeps taken taken_now

-- What a status says of a text that is known before: the output grows by the whole of it at Done and by a front of it at
-- WriteFault. No other status comes.
abbrev pub Writes : Status → Writing → List ℕ → Type 0
Writes Done o text = Appends o.taken o.taken_now text
Writes WriteFault o text = StopsIn o text
Writes s o text = ⊥

-- memory ran out
abbrev pub WantsMemory : Status → Type 0
WantsMemory NoMemory = Unit {0}
WantsMemory s = ⊥

-- where a text is to be made of words alone
abbrev pub WritesMade : (List ℕ → Type 0) → Status → Writing → Type 0
WritesMade P s o = AnswersMade P WantsMemory s o

-- The line of a drill is written, and no call on the files changed their counts.
pub record AnswersDrill (n : ℕ) (s : Status) (i : Reading) (o : Writing) : Type 0 where
  pub writes : WritesMade (IsDrillLine n) s o
  pub no_fault : i.faults_now ≡ i.faults
  pub not_read : i.got_now ≡ i.got

-- The header is written, and no call on the files changed their counts.
pub record AnswersPrelude (s : Status) (i : Reading) (o : Writing) : Type 0 where
  pub writes : Writes s o header_text
  pub no_fault : i.faults_now ≡ i.faults
  pub not_read : i.got_now ≡ i.got

-- What a status says. Words that are no command are answered by Usage, and no others are.
abbrev pub Answers : Status → Reading → Writing → Option Command → Type 0
Answers s i o None = (s ≡ Usage) × Keeps o.taken o.taken_now
Answers s i o (Some (Decompile form f)) = AnswersFunction (IsDecompiled form) s i o f
Answers s i o (Some (Run f n words)) = AnswersFunction (IsRunText n (given_by words)) s i o f
Answers s i o (Some (Tidy path)) = AnswersTidy s i o path
Answers s i o (Some (Drill n)) = AnswersDrill n s i o
Answers s i o (Some Prelude) = AnswersPrelude s i o
