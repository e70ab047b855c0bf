-- What is known of a state at a place of a window's path, when the index had a value at its comparison.
use Rattle.std.specs.Prelude.{◌≡◌, ℕ, ◌+◌, ◌*◌, ◌%◌, ◌^◌, ◌<◌, ◌==◌, ◌||◌, Bool, true}
use Rattle.dream_words.specs.Memory.{Mem, load, bytes_of}
use Rattle.dream_words.specs.Registers.{reg_of}
use Rattle.dream_words.specs.Words.{low_part}
use Rattle.x86_inst.specs.declared.Size.{Size}
use Rattle.x86_inst.specs.declared.Operand.{Operand}
use Rattle.x86_inst.specs.declared.Operand.TheVariants as o
use Rattle.x86_model.specs.Machine.{State}
use Rattle.x86_model.specs.Operands.{bits_of, width_of, part_of, address_of}
use Rattle.jump_tables.specs.declared.forms.Form.{Form}
use Rattle.jump_tables.specs.declared.forms.Form.TheVariants as form
use Rattle.jump_tables.specs.Forms.{Index, Known}

-- the value of an operand of a size in a state
abbrev pub value_in : Size → Operand → State → ℕ
value_in size (o.Reg n) s = part_of size s.regs n
value_in size (o.Mem m) s = low_part (bits_of size) (load s.mem (address_of m s.regs s.fs s.gs) (bytes_of (width_of size)))
value_in size (o.Imm k) s = low_part (bits_of size) k

-- what a form says of a word in a memory, where the index was i
abbrev pub Says : Mem → ℕ → Form → ℕ → Type 0
Says mem i (form.Scaled a c) v = v % 2 ^ 32 ≡ (a * i + c) % 2 ^ 32
Says mem i (form.Entry t) v = v ≡ load mem ((t + 4 * i) % 2 ^ 32) 4
Says mem i form.Unknown v = Unit {0}

-- What is known holds of a state, where the index was i: each register is as its form says, and while the index's registers
-- are kept, its operand has that value again.
pub record Holds (x : Index) (i : ℕ) (k : Known) (s : State) : Type 0 where
  pub forms : (n : ℕ) → n < 8 → Says s.mem i (k.forms n) (reg_of s.regs n)
  pub kept : k.is_kept ≡ true → value_in x.size x.operand s ≡ i

-- A and AE go to their target for an index that is too great, and BE and B for the others.
abbrev pub is_above : ℕ → Bool
is_above condition = condition == 7 || condition == 3
