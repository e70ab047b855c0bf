-- What registers hold on the path from a comparison of an index to a jump through a table. It is decided by the spelling of
-- the instructions alone.
use Rattle.std.specs.Prelude.{ℕ, ◌+◌, ◌-◌, ◌*◌, ◌%◌, ◌^◌, ◌==◌, ◌&&◌, ◌||◌, Bool, true, false, not, nat_eq, nat_lt, List, [], ◌∷◌, Option, Some, None, if◌then◌else◌}
use Rattle.x86_inst.specs.declared.Size.{Size}
use Rattle.x86_inst.specs.declared.Size.TheVariants.{B, H, W}
use Rattle.x86_inst.specs.declared.Seg.{Seg}
use Rattle.x86_inst.specs.declared.Seg.TheVariants as seg
use Rattle.x86_inst.specs.declared.Mem.{Mem}
use Rattle.x86_inst.specs.declared.Operand.{Operand}
use Rattle.x86_inst.specs.declared.Operand.TheVariants as o
use Rattle.x86_inst.specs.declared.Count.TheVariants as count
use Rattle.x86_inst.specs.declared.AluOp.TheVariants.{Add}
use Rattle.x86_inst.specs.declared.ShiftOp.TheVariants.{Shl}
use Rattle.x86_inst.specs.declared.Inst.{Inst}
use Rattle.x86_inst.specs.declared.Inst.TheVariants as i
use Rattle.x86_model.specs.Successors.{is_memory}
use Rattle.jump_tables.specs.declared.forms.Form.{Form}
use Rattle.jump_tables.specs.declared.forms.Form.TheVariants as form

-- ---- equal operands

abbrev pub same_size : Size → Size → Bool
same_size B B = true
same_size H H = true
same_size W W = true
same_size _ _ = false

abbrev pub same_seg : Seg → Seg → Bool
same_seg seg.None seg.None = true
same_seg seg.Fs seg.Fs = true
same_seg seg.Gs seg.Gs = true
same_seg _ _ = false

abbrev pub same_register : Option ℕ → Option ℕ → Bool
same_register None None = true
same_register (Some a) (Some b) = nat_eq a b
same_register _ _ = false

abbrev pub same_memory : Mem → Mem → Bool
same_memory m n =
    same_register m.base n.base && (same_register m.index n.index && (nat_eq m.scale n.scale && (nat_eq m.disp n.disp && same_seg m.seg n.seg)))

abbrev pub same_operand : Operand → Operand → Bool
same_operand (o.Reg a) (o.Reg b) = nat_eq a b
same_operand (o.Mem m) (o.Mem n) = same_memory m n
same_operand (o.Imm j) (o.Imm k) = nat_eq j k
same_operand _ _ = false

-- ---- the instructions of a path, and which registers they write

-- MOV to a register, MOVZX, LEA, SHL by a number, and ADD of a number to a register. None stores.
abbrev pub is_on_path : Inst → Bool
is_on_path (i.Mov size (o.Reg d) s) = true
is_on_path (i.Movx signed from to d s) = not signed
is_on_path (i.Lea size d m) = true
is_on_path (i.Shift Shl size d (count.Imm n)) = not (is_memory d) || n % 32 == 0
is_on_path (i.Alu Add size (o.Reg d) (o.Imm k)) = true
is_on_path _ = false

-- the 32-bit register of which a register of a size is a part
abbrev pub whole : Size → ℕ → ℕ
whole B n = if nat_lt n 4 then n else n - 4
whole H n = n
whole W n = n

abbrev pub whole_of : Size → Operand → Option ℕ
whole_of size (o.Reg n) = Some (whole size n)
whole_of size (o.Mem m) = None
whole_of size (o.Imm k) = None

-- the 32-bit register of which an instruction of a path writes a part
abbrev pub written : Inst → Option ℕ
written (i.Mov size d s) = whole_of size d
written (i.Movx signed from to d s) = Some (whole to d)
written (i.Lea size d m) = Some (whole size d)
written (i.Shift op size d n) = whole_of size d
written (i.Alu op size d s) = whole_of size d
written _ = None

-- it is the register of an operand, or one of its address
abbrev pub is_part_of : Size → Operand → Option ℕ → Bool
is_part_of size x None = false
is_part_of size (o.Reg n) (Some r) = nat_eq (whole size n) r
is_part_of size (o.Mem m) (Some r) = same_register m.base (Some r) || same_register m.index (Some r)
is_part_of size (o.Imm k) (Some r) = false

-- ---- forms

-- a form with a number added, and one taken so many times
abbrev pub plus : ℕ → Form → Form
plus k (form.Scaled a c) = form.Scaled a ((c + k) % 2 ^ 32)
plus k (form.Entry t) = form.Unknown
plus k form.Unknown = form.Unknown

abbrev pub times : ℕ → Form → Form
times n (form.Scaled a c) = form.Scaled (a * n % 2 ^ 32) (c * n % 2 ^ 32)
times n (form.Entry t) = form.Unknown
times n form.Unknown = form.Unknown

-- the sum of two forms
abbrev pub both : Form → Form → Form
both (form.Scaled a c) (form.Scaled b d) = form.Scaled ((a + b) % 2 ^ 32) ((c + d) % 2 ^ 32)
both _ _ = form.Unknown

-- the form of each 32-bit register
abbrev pub Forms : Type 0
Forms = ℕ → Form

-- a part of an address that may be missing
abbrev pub form_or_zero : Forms → Option ℕ → Form
form_or_zero forms None = form.Scaled 0 0
form_or_zero forms (Some r) = forms r

-- The form of an address without a base of a segment: the sum of its base's, its index's times the scale, and the
-- displacement.
abbrev pub address_form : Forms → Mem → Form
address_form forms m = plus m.disp (both (form_or_zero forms m.base) (times m.scale (form_or_zero forms m.index)))

abbrev pub is_plain : Seg → Bool
is_plain seg.None = true
is_plain seg.Fs = false
is_plain seg.Gs = false

-- the table that an address leads through, which is four times the index from it
abbrev pub table_at : Form → Option ℕ
table_at (form.Scaled a c) = if nat_eq a 4 then Some c else None
table_at (form.Entry t) = None
table_at form.Unknown = None

abbrev pub memory_table : Forms → Mem → Option ℕ
memory_table forms m = if is_plain m.seg then table_at (address_form forms m) else None

-- the form of the word at such an address
abbrev pub entry_of : Option ℕ → Form
entry_of None = form.Unknown
entry_of (Some t) = form.Entry t

-- ---- along a path

-- The index: an operand of a size.
pub record Index : Type 0 where
  pub size : Size
  pub operand : Operand

-- What is known at a place of a path: the registers' forms, and whether no part of the index's register, or of a register
-- of its address, has been written.
pub record Known : Type 0 where
  pub forms : Forms
  pub is_kept : Bool

-- an operand of a size that reads the index again
abbrev pub reads_again : Index → Known → Size → Operand → Bool
reads_again x k size s = k.is_kept && (same_size size x.size && same_operand s x.operand)

-- the form of a 32-bit register after MOV of 32 bits
abbrev pub moved_form : Index → Known → Operand → Form
moved_form x k (o.Imm v) = form.Scaled 0 v
moved_form x k (o.Reg s) = k.forms s
moved_form x k (o.Mem m) = if reads_again x k W (o.Mem m) then form.Scaled 1 0 else entry_of (memory_table k.forms m)

-- The form of the register that an instruction of a path writes, after it. It is unknown but after these, at 32 bits: MOV,
-- MOVZX of the index, LEA, SHL by a number, ADD of a number.
abbrev pub form_after : Index → Known → Inst → Form
form_after x k (i.Mov W d s) = moved_form x k s
form_after x k (i.Movx false from W d s) = if reads_again x k from s then form.Scaled 1 0 else form.Unknown
form_after x k (i.Lea W d m) = address_form k.forms m
form_after x k (i.Shift Shl W (o.Reg d) (count.Imm n)) = times (2 ^ (n % 32)) (k.forms d)
form_after x k (i.Alu Add W (o.Reg d) (o.Imm v)) = plus v (k.forms d)
form_after x k _ = form.Unknown

-- the forms with another one of a register, if one is written
abbrev pub with_form : Forms → Option ℕ → Form → Forms
with_form forms None f = forms
with_form forms (Some r) f = λ n. if nat_eq n r then f else forms n

-- what is known after an instruction of a path
abbrev pub after : Index → Known → Inst → Known
after x k inst = record {
  forms = with_form k.forms (written inst) (form_after x k inst);
  is_kept = k.is_kept && not (is_part_of x.size x.operand (written inst));
}

-- At first no register has a form, but the index itself, where it is a 32-bit register.
abbrev pub first_forms : Size → Operand → Forms
first_forms W (o.Reg r) = λ n. if nat_eq n r then form.Scaled 1 0 else form.Unknown
first_forms _ _ = λ n. form.Unknown

abbrev pub at_first : Index → Known
at_first x = record { forms = first_forms x.size x.operand; is_kept = true }

-- what is known after some instructions
abbrev pub after_all : Index → Known → List Inst → Known
after_all x k [] = k
after_all x k (inst ∷ insts) = after_all x (after x k inst) insts

-- the table that a jump by a word goes through
abbrev pub table_of : Forms → Operand → Option ℕ
table_of forms (o.Reg r) = entry_table (forms r) where
  entry_table : Form → Option ℕ
  entry_table (form.Scaled a c) = None
  entry_table (form.Entry t) = Some t
  entry_table form.Unknown = None
table_of forms (o.Mem m) = memory_table forms m
table_of forms (o.Imm k) = None
