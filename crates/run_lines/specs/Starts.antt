-- The start that words of the command line give.
use Rattle.std.specs.Prelude.{◌≡◌, ℕ, ◌+◌, ◌/◌, ◌%◌, ◌^◌, List, [], ◌∷◌, Some, is_some, unwrap_or, if◌then◌else◌}
use Rattle.elf_image.specs.declared.image.Segment.{Segment}
use Rattle.elf_image.specs.Image.{frozen_byte, backed_byte}
use Rattle.dream_words.specs.declared.machine.Regs.{Regs}
use Rattle.dream_words.specs.declared.machine.Flags.{Flags}
use Rattle.dream_words.specs.declared.machine.Bit.TheVariants.{Zero}
use Rattle.dream_words.specs.declared.outcome.Start.{Start}
use Rattle.dream_words.specs.Registers.{with_reg}
use Rattle.dream_words.specs.Memory.{Mem, byte_at, store}
use Rattle.dream_words.specs.Pages.{all_pages}
use Rattle.run_lines.specs.StartWords.{Given}

-- ---- registers and flags

-- registers before any is named: ESP is 0xbfff0000, and the others are 0
abbrev pub first_regs : Regs
first_regs = record { eax = 0; ecx = 0; edx = 0; ebx = 0; esp = 3221159936; ebp = 0; esi = 0; edi = 0 }

-- the registers after some are set, one after another
abbrev pub with_registers : Regs → List (ℕ × ℕ) → Regs
with_registers r [] = r
with_registers r (p ∷ ps) = with_registers (with_reg r p.0 p.1) ps

-- each flag is 0
abbrev pub clear_flags : Flags
clear_flags = record { c = Zero; p = Zero; z = Zero; s = Zero; o = Zero }

-- ---- memory

-- the low byte of a number is put at an address, unless the byte there is frozen
abbrev pub with_free : List Segment → Mem → ℕ → ℕ → Mem
with_free m mem a v = if is_some (frozen_byte m a) then mem else store mem a 1 v

-- so are the four bytes of a word, little-endian, where each address wraps around
abbrev pub with_argument : List Segment → Mem → ℕ → ℕ → Mem
with_argument m mem a v =
    with_free m (with_free m (with_free m (with_free m mem a v)
    ((a + 1) % 2 ^ 32) (v / 2 ^ 8)) ((a + 2) % 2 ^ 32) (v / 2 ^ 16)) ((a + 3) % 2 ^ 32) (v / 2 ^ 24)

-- the memory after arguments are stored above an address: the j-th of them, counted from 1, 4j bytes above it
abbrev pub with_arguments : List Segment → Mem → ℕ → List ℕ → Mem
with_arguments m mem a [] = mem
with_arguments m mem a (v ∷ vs) = with_arguments m (with_argument m mem ((a + 4) % 2 ^ 32) v) ((a + 4) % 2 ^ 32) vs

-- ---- starts

-- all flags and both bases are 0, and every page may be read and written
abbrev pub start_with : Regs → Mem → Start
start_with regs mem = record { regs = regs; flags = clear_flags; fs = 0; gs = 0; mem = mem; pages = all_pages }

-- The start: the named registers are set in their order, and then the arguments are stored above ESP.
abbrev pub start_of : List Segment → Given → Mem → Start
start_of m given before =
    let regs = with_registers first_regs given.registers in
    start_with regs (with_arguments m before regs.esp given.arguments)

-- the memory has each byte of the image, those that are frozen among them, and 0 elsewhere
pub record HasImage (m : List Segment) (mem : Mem) : Type 0 where
  pub backed : (a : ℕ) → byte_at mem a ≡ unwrap_or (backed_byte m a) 0
  pub frozen : (a b : ℕ) → frozen_byte m a ≡ Some b → byte_at mem a ≡ b

-- the start that words give over the memory of an image
pub record IsStartOf (m : List Segment) (given : Given) (s : Start) : Type 0 where
  pub before : Mem
  pub image : HasImage m before
  pub is : s ≡ start_of m given before
