-- Where a window stands: a comparison of an index with a number, a branch by it, and on its path a jump through a table.
use Rattle.std.specs.Prelude.{◌≡◌, ℕ, zero, suc, ◌+◌, ◌*◌, ◌%◌, ◌^◌, ◌<◌, ◌≤◌, ◌==◌, true, false, Bool, List, [], ◌∷◌, ◌++◌, length, unwrap_or, Option, Some, None, if◌then◌else◌}
use Rattle.elf_image.specs.declared.image.Segment.{Segment}
use Rattle.elf_image.specs.declared.range.Range.{Range}
use Rattle.elf_image.specs.Image.{frozen_byte}
use Rattle.dream_words.specs.Words.{low_part}
use Rattle.x86_inst.specs.declared.AluOp.TheVariants.{Cmp}
use Rattle.x86_inst.specs.declared.Cond.{Cond}
use Rattle.x86_inst.specs.declared.Operand.{Operand}
use Rattle.x86_inst.specs.declared.Operand.TheVariants as o
use Rattle.x86_inst.specs.declared.Inst.{Inst}
use Rattle.x86_inst.specs.declared.Inst.TheVariants as i
use Rattle.x86_model.specs.Operands.{bits_of}
use Rattle.machine.specs.Code.{BeginsAt}
use Rattle.jump_tables.specs.Forms.{Index, is_on_path, at_first, after_all, table_of}
use Rattle.jump_tables.specs.declared.table.TableWindow.{TableWindow}

-- the address after n bytes
abbrev pub next_of : ℕ → ℕ → ℕ
next_of a n = (a + n) % 2 ^ 32

-- where a branch after a comparison with k leads: where the index is too great, and else; and how many indices aren't too great
pub record Split : Type 0 where
  pub default : ℕ
  pub path : ℕ
  pub count : ℕ

abbrev pub split : ℕ → ℕ → ℕ → Split
split default path count = record { default = default; path = path; count = count }

-- A branch by A or AE goes to its target for an index that is too great, and one by BE or B for the others. By A and BE there are k + 1
-- others, by AE and B there are k. (Intel SDM vol. 2, Jcc.)
abbrev pub split_of : ℕ → ℕ → ℕ → ℕ → Option Split
split_of condition k target next =
    if condition == 7 then Some (split target next (k + 1)) else
    (if condition == 3 then Some (split target next k) else
    (if condition == 6 then Some (split next target (k + 1)) else
    (if condition == 2 then Some (split next target k) else None)))

-- instructions of a path, one after another from an address up to another one
pub data IsPath (m : List Segment) (r : Range) (end : ℕ) : ℕ → List Inst → Type 0 where
  over : IsPath m r end end []
  onward : (a n : ℕ) (inst : Inst) (rest : List Inst) → BeginsAt m r a inst n → is_on_path inst ≡ true → IsPath m r end (next_of a n) rest
      → IsPath m r end a (inst ∷ rest)

-- a register or memory, and no number
abbrev pub is_place : Operand → Bool
is_place (o.Reg n) = true
is_place (o.Mem m) = true
is_place (o.Imm k) = false

-- A window stands at an address. There CMP compares the index, a register or memory, with a number; a branch follows. On its path at
-- most four instructions lead to a jump by a word, which by their forms goes through the table. All of these are spelled inside
-- the range. The table has 1 to 1,024 entries of four bytes, and each byte of them is frozen.
pub record IsWindow (m : List Segment) (r : Range) (a : ℕ) (w : TableWindow) : Type 0 where
  pub index : Index
  pub bound : ℕ
  pub compare_size : ℕ
  pub compares : BeginsAt m r a (i.Alu Cmp index.size index.operand (o.Imm bound)) compare_size
  pub place : is_place index.operand ≡ true
  pub condition : Cond
  pub distance : ℕ
  pub branch_size : ℕ
  pub branches : BeginsAt m r (next_of a compare_size) (i.Jcc condition distance) branch_size
  pub splits : split_of condition.0 (low_part (bits_of index.size) bound)
      ((next_of (next_of a compare_size) branch_size + distance) % 2 ^ 32) (next_of (next_of a compare_size) branch_size)
      ≡ Some (split w.default w.path w.count)
  pub insts : List Inst
  pub path : IsPath m r w.jump w.path insts
  pub few : length insts ≤ 4
  pub goal : Operand
  pub jump_size : ℕ
  pub jumps : BeginsAt m r w.jump (i.JmpTo goal) jump_size
  pub through : table_of (after_all index (at_first index) insts).forms goal ≡ Some w.table
  pub some : 1 ≤ w.count
  pub most : w.count ≤ 1024
  pub entries : (k : ℕ) → k < 4 * w.count → (b : ℕ) × (frozen_byte m ((w.table + k) % 2 ^ 32) ≡ Some b)

-- no window stands at an address
pub record HasNoWindow (m : List Segment) (r : Range) (a : ℕ) : Type 0 where
  pub none : (w : TableWindow) → IsWindow m r a w → ⊥

-- ---- its successors

-- the word of frozen bytes at an address, the lowest byte first; each address is taken modulo 2^32
abbrev pub frozen_at : List Segment → ℕ → ℕ
frozen_at m a = unwrap_or (frozen_byte m (a % 2 ^ 32)) 0

abbrev pub frozen_word : List Segment → ℕ → ℕ
frozen_word m a = frozen_at m a + 2 ^ 8 * frozen_at m (a + 1) + 2 ^ 16 * frozen_at m (a + 2) + 2 ^ 24 * frozen_at m (a + 3)

-- the target of entry k
abbrev pub target_of : List Segment → TableWindow → ℕ → ℕ
target_of m w k = frozen_word m (w.table + 4 * k)

-- the targets of the first n entries
abbrev pub targets_of : List Segment → TableWindow → ℕ → List ℕ
targets_of m w zero = []
targets_of m w (suc n) = targets_of m w n ++ target_of m w n ∷ []

-- the successors of a window: its default, and then the target of each entry
abbrev pub window_successors : List Segment → TableWindow → List ℕ
window_successors m w = w.default ∷ targets_of m w w.count

-- the window that stands at an address; None exactly where none does
abbrev pub IsWindowAt : List Segment → Range → ℕ → Option TableWindow → Type 0
IsWindowAt m r a (Some w) = IsWindow m r a w
IsWindowAt m r a None = HasNoWindow m r a

-- the instruction that begins at an address, with its length; None exactly where none begins
abbrev pub IsInstAt : List Segment → Range → ℕ → Option (Inst × ℕ) → Type 0
IsInstAt m r a (Some d) = BeginsAt m r a d.0 d.1
IsInstAt m r a None = (inst : Inst) (n : ℕ) → BeginsAt m r a inst n → ⊥
