-- What the parts of reading a file say to each other.
use Rattle.std.specs.Prelude.{◌≡◌, ℕ, ◌<◌, ◌≤◌, Bool, true, false, List, ◌++◌, length, Option, Some}
use Rattle.std.specs.Io.KnownBytes.{Consumes, IsAtEnd}
use Rattle.dream_outside.specs.Causes.{Rose, counted}
use Rattle.dream_top.specs.declared.load.LoadFault.{LoadFault}
use Rattle.dream_top.specs.declared.load.LoadFault.TheVariants.{Fault, TooLarge, Memory}
use Rattle.dream_top.specs.declared.status.Status.{Status}
use Rattle.dream_top.specs.declared.status.Status.TheVariants.{ReadFault, FileTooLarge, NoMemory, NotElf, NoFunction, Outside, NotProfile}
use Rattle.elf_image.specs.declared.image.ImageFault.{ImageFault}
use Rattle.elf_image.specs.declared.image.ImageFault.TheVariants as image
use Rattle.elf_symbols.specs.declared.find.FindFault.{FindFault}
use Rattle.elf_symbols.specs.declared.find.FindFault.TheVariants as find
use Rattle.flow_graph.specs.declared.place.FlowFault.{FlowFault}
use Rattle.flow_graph.specs.declared.place.FlowFault.TheVariants as flow
use Rattle.c_read.specs.declared.text.TextFault.{TextFault}
use Rattle.c_read.specs.declared.text.TextFault.TheVariants as text
use Rattle.dream_top.specs.Answers.{limit, Reading, IsReadFault, IsTooLarge}

-- one turn of reading: some bytes more, or the end
pub record TakesPiece (old new : List ℕ) (left left_now : Option (List ℕ)) (got got_now : ℕ) (more : Bool) : Type 0 where
  pub piece : List ℕ
  pub added : new ≡ old ++ piece
  pub taken : Consumes left left_now piece
  pub count : got_now ≡ counted got (length piece)
  pub some : more ≡ true → 0 < length piece
  pub none : more ≡ false → length piece ≡ 0
  pub end : more ≡ false → IsAtEnd left_now

-- why a turn of reading stops
abbrev pub StopsPiece : LoadFault → ℕ → ℕ → ℕ → ℕ → Type 0
StopsPiece Fault before now got got_now = Rose before now × (got_now ≡ got)
StopsPiece TooLarge before now got got_now = ⊥
StopsPiece Memory before now got got_now = Unit {0}

-- all the bytes that are left were taken
pub record TakesAll (bytes : List ℕ) (left : Option (List ℕ)) (got_now : ℕ) : Type 0 where
  pub count : got_now ≡ length bytes
  pub small : length bytes ≤ limit
  pub whole : (all : List ℕ) → left ≡ Some all → all ≡ bytes

-- why not all the bytes that are left were taken
abbrev pub StopsTaking : LoadFault → Option (List ℕ) → ℕ → ℕ → ℕ → Type 0
StopsTaking Fault left got_now before now = Rose before now × (got_now ≤ limit)
StopsTaking TooLarge left got_now before now = (limit < got_now) × (now ≡ before) × ((all : List ℕ) → left ≡ Some all → limit < length all)
StopsTaking Memory left got_now before now = Unit {0}

-- why a file could not be loaded
abbrev pub StopsLoading : LoadFault → Reading → List ℕ → Type 0
StopsLoading Fault i path = IsReadFault i path
StopsLoading TooLarge i path = IsTooLarge i path
StopsLoading Memory i path = Unit {0}

-- ---- the status of each fault on the way to a text

abbrev pub load_status : LoadFault → Status
load_status Fault = ReadFault
load_status TooLarge = FileTooLarge
load_status Memory = NoMemory

abbrev pub image_status : ImageFault → Status
image_status (image.Elf fault) = NotElf fault
image_status image.Memory = NoMemory

abbrev pub find_status : FindFault → Status
find_status (find.Elf fault) = NotElf fault
find_status find.NoFunction = NoFunction

abbrev pub flow_status : FlowFault → Status
flow_status (flow.Outside place) = Outside place
flow_status flow.Memory = NoMemory

abbrev pub text_status : TextFault → Status
text_status (text.At at) = NotProfile at
text_status text.Memory = NoMemory
