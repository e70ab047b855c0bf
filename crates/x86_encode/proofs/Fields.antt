-- What the parts of an instruction show of the fields that it was made of.
use Rattle.std.proofs.Common.{◌≡◌, ℕ, zero, suc, ◌+◌, ◌-◌, ◌%◌, ◌<◌, ◌≤◌, ◌^◌, Bool, true, false, cond, Option, Some, None, refl, sym, ap, subst, ◌∙◌, inl, inr, arith}
use Rattle.std.specs.Prelude.{◌==◌, ◌||◌, nat_lt, is_some}
use Rattle.std.proofs.lemmas.Bool.{eqb-true}
use Rattle.x86_inst.specs.declared.Size.{Size}
use Rattle.x86_inst.specs.declared.Size.TheVariants.{B, H, W}
use Rattle.x86_inst.specs.declared.Operand.TheVariants as operand
use Rattle.x86_inst.specs.declared.StrOp.{StrOp}
use Rattle.x86_inst.specs.declared.StrOp.TheVariants.{Movs, Cmps, Stos, Lods, Scas}
use Rattle.x86_inst.specs.Rows.{Fields, sign_extended}
use Rattle.x86_inst.specs.Table.{alu_op, bit_op, shift_op, compare_repeat, plain_repeat, M}
use Rattle.x86_decode.specs.declared.forms.Sizing.{Sizing}
use Rattle.x86_decode.specs.declared.forms.Sizing.TheVariants.{Byte, Prefixed}
use Rattle.x86_decode.specs.declared.forms.Immediate.{Immediate}
use Rattle.x86_decode.specs.declared.forms.Immediate.TheVariants.{Plain, Extended}
use Rattle.x86_decode.specs.declared.forms.Source.{Source}
use Rattle.x86_decode.specs.declared.forms.Source.TheVariants as source
use Rattle.x86_decode.specs.declared.forms.Shifted.{Shifted}
use Rattle.x86_decode.specs.declared.forms.Shifted.TheVariants.{ByOne, ByImm, ByCl}
use Rattle.x86_decode.specs.declared.forms.Form.{Form}
use Rattle.x86_decode.specs.declared.forms.Form.TheVariants as form
use Rattle.x86_decode.specs.View.{size_of, number_of, operand_of, count_of, rep_of, string_segment, inst_of}
use Rattle.x86_encode.specs.Parts.{alu_digit, shift_digit, bit_digit, repeat_of, count_number, tz_repeat, parts_of, no_fields, named_segment, stored, with_operand, with_size, fields_from}
use Rattle.x86_encode.proofs.Flags.{or_split}

-- ---- the fields that are shown, taken from the fields themselves

abbrev pub show : Source → (f g : Fields) → Fields
show source.Rm f g = record g { rm = f.rm; segment = named_segment f.rm }
show source.Reg f g = record g { reg = f.reg }
show source.Low f g = record g { low = f.low }
show source.AfterLow f g = record g { low = f.low }
show source.Accumulator f g = g
show (source.Imm k) f g = record g { imm = f.imm }
show source.Offset f g = record g { imm = f.imm; segment = f.segment }

abbrev pub show_size : Sizing → (f g : Fields) → Fields
show_size Byte f g = g
show_size Prefixed f g = record g { size = f.size }

abbrev pub show_count : Shifted → Fields → ℕ
show_count ByOne f = 0
show_count ByImm f = f.imm
show_count ByCl f = 0

abbrev pub show_rm : Fields → Fields
show_rm f = show source.Rm f no_fields

abbrev pub shown_of : Form → Fields → Fields
shown_of (form.AluByOpcode z a b) f = show_size z f (show a f (show b f (record no_fields { low = f.low })))
shown_of (form.AluByReg z a b) f = show_size z f (show a f (show b f (record no_fields { reg = f.reg })))
shown_of (form.Inc z a) f = show_size z f (show a f no_fields)
shown_of (form.Dec z a) f = show_size z f (show a f no_fields)
shown_of (form.Push a) f = show a f no_fields
shown_of (form.Pop a) f = show a f no_fields
shown_of (form.Imul3 k) f = record (show_rm f) { size = f.size; reg = f.reg; imm = f.imm }
shown_of (form.Jcc k) f = record no_fields { low = f.low; imm = f.imm }
shown_of (form.Test z a b) f = show_size z f (show a f (show b f no_fields))
shown_of (form.Xchg z a b) f = show_size z f (show a f (show b f no_fields))
shown_of (form.Mov z a b) f = show_size z f (show a f (show b f no_fields))
shown_of form.Lea f = record no_fields { rm = operand.Mem (M f); size = f.size; reg = f.reg }
shown_of form.Nop f = no_fields
shown_of form.Widen f = record no_fields { size = f.size }
shown_of form.Spread f = record no_fields { size = f.size }
shown_of (form.Str op z) f = show_size z f (record no_fields { repeat = f.repeat; segment = string_segment op f.segment })
shown_of (form.Shift z c) f = show_size z f (record (show_rm f) { reg = f.reg; imm = show_count c f })
shown_of form.RetImm f = record no_fields { imm = f.imm }
shown_of form.Ret f = no_fields
shown_of form.Leave f = no_fields
shown_of (form.Trap n) f = no_fields
shown_of form.Loop f = record no_fields { imm = f.imm }
shown_of form.Jecxz f = record no_fields { imm = f.imm }
shown_of form.Call f = record no_fields { imm = f.imm }
shown_of (form.Jmp k) f = record no_fields { imm = f.imm }
shown_of (form.Carry op) f = no_fields
shown_of (form.Not z) f = show_size z f (show_rm f)
shown_of (form.Neg z) f = show_size z f (show_rm f)
shown_of (form.Mul z) f = show_size z f (show_rm f)
shown_of (form.ImulWide z) f = show_size z f (show_rm f)
shown_of (form.Div z) f = show_size z f (show_rm f)
shown_of (form.Idiv z) f = show_size z f (show_rm f)
shown_of form.CallTo f = show_rm f
shown_of form.JmpTo f = show_rm f
shown_of form.Cmov f = record (show_rm f) { low = f.low; size = f.size; reg = f.reg }
shown_of form.Set f = record (show_rm f) { low = f.low }
shown_of form.BitByOpcode f = record (show_rm f) { low = f.low; size = f.size; reg = f.reg }
shown_of form.BitByReg f = record (show_rm f) { reg = f.reg; size = f.size; imm = f.imm }
shown_of (form.DShift left c) f = record (show_rm f) { reg = f.reg; imm = show_count c f }
shown_of form.Imul2 f = record (show_rm f) { size = f.size; reg = f.reg }
shown_of (form.MovxByte signed) f = record (show_rm f) { size = f.size; reg = f.reg }
shown_of (form.MovxHalf signed) f = record (show_rm f) { reg = f.reg }
shown_of (form.Scan true) f = record (show_rm f) { size = f.size; reg = f.reg; repeat = f.repeat }
shown_of (form.Scan false) f = record (show_rm f) { size = f.size; reg = f.reg }
shown_of form.Bswap f = record no_fields { low = f.low }

-- ---- numbers come back

extended_again : (s : Size) (n : ℕ) → n < 256 → sign_extended s n % 256 ≡ n
extended_again B n lt = omega arith
extended_again H n lt = at (nat_lt (n % 256) 128)
  where
    at : (b : Bool) → cond b (n % 256) (n % 256 + 0xFF00) % 256 ≡ n
    at true = omega arith
    at false = omega arith
extended_again W n lt = at (nat_lt (n % 256) 128)
  where
    at : (b : Bool) → cond b (n % 256) (n % 256 + 0xFFFFFF00) % 256 ≡ n
    at true = omega arith
    at false = omega arith

alu_again : (n : ℕ) → n < 8 → alu_digit (alu_op n) ≡ n
alu_again zero h = refl
alu_again (suc zero) h = refl
alu_again (suc (suc zero)) h = refl
alu_again (suc (suc (suc zero))) h = refl
alu_again (suc (suc (suc (suc zero)))) h = refl
alu_again (suc (suc (suc (suc (suc zero))))) h = refl
alu_again (suc (suc (suc (suc (suc (suc zero)))))) h = refl
alu_again (suc (suc (suc (suc (suc (suc (suc zero))))))) h = refl
alu_again (suc (suc (suc (suc (suc (suc (suc (suc n)))))))) h = absurd (omega arith)

bit_again : (n : ℕ) → n < 4 → bit_digit (bit_op n) ≡ n + 4
bit_again zero h = refl
bit_again (suc zero) h = refl
bit_again (suc (suc zero)) h = refl
bit_again (suc (suc (suc zero))) h = refl
bit_again (suc (suc (suc (suc n)))) h = absurd (omega arith)

-- the digits of shifts
abbrev pub is_shift : ℕ → Bool
is_shift n = n == 0 || (n == 1 || (n == 4 || (n == 5 || n == 7)))

shift_again : (n : ℕ) → is_shift n ≡ true → shift_digit (shift_op n) ≡ n
shift_again n h =
    elim (or_split (n == 0) _ h) [
      | inl e ↦ at 0 (eqb-true n 0 e) refl
      | inr h ↦ elim (or_split (n == 1) _ h) [
        | inl e ↦ at 1 (eqb-true n 1 e) refl
        | inr h ↦ elim (or_split (n == 4) _ h) [
          | inl e ↦ at 4 (eqb-true n 4 e) refl
          | inr h ↦ elim (or_split (n == 5) _ h) [ inl e ↦ at 5 (eqb-true n 5 e) refl | inr e ↦ at 7 (eqb-true n 7 e) refl ]
        ]
      ]
    ]
  where
    at : (m : ℕ) → n ≡ m → shift_digit (shift_op m) ≡ m → shift_digit (shift_op n) ≡ n
    at m e k = subst (λ z. shift_digit (shift_op z) ≡ z) (sym e) k

-- which repeats are told apart
pub data IsRepeat (o : Option ℕ) : Type 0 where
  none : o ≡ None → IsRepeat o
  f3 : o ≡ Some 0xF3 → IsRepeat o
  f2 : o ≡ Some 0xF2 → IsRepeat o

pub data IsF3 (o : Option ℕ) : Type 0 where
  once : o ≡ None → IsF3 o
  by_f3 : o ≡ Some 0xF3 → IsF3 o

plain_again : (o : Option ℕ) → IsF3 o → repeat_of (plain_repeat o) ≡ o
plain_again o h = elim h [ once e ↦ subst (λ z. repeat_of (plain_repeat z) ≡ z) (sym e) refl | by_f3 e ↦ subst (λ z. repeat_of (plain_repeat z) ≡ z) (sym e) refl ]

compare_again : (o : Option ℕ) → IsRepeat o → repeat_of (compare_repeat o) ≡ o
compare_again o h =
    elim h [
      | none e ↦ subst (λ z. repeat_of (compare_repeat z) ≡ z) (sym e) refl
      | f3 e ↦ subst (λ z. repeat_of (compare_repeat z) ≡ z) (sym e) refl
      | f2 e ↦ subst (λ z. repeat_of (compare_repeat z) ≡ z) (sym e) refl
    ]

tz_again : (o : Option ℕ) → IsF3 o → tz_repeat (is_some o) ≡ o
tz_again o h = elim h [ once e ↦ subst (λ z. tz_repeat (is_some z) ≡ z) (sym e) refl | by_f3 e ↦ subst (λ z. tz_repeat (is_some z) ≡ z) (sym e) refl ]

-- ---- what a form asks of its fields

abbrev pub AsksNumber : Immediate → Fields → Type 0
AsksNumber Plain f = Unit {0}
AsksNumber Extended f = f.imm < 256

abbrev pub AsksSource : Source → Fields → Type 0
AsksSource source.Rm f = Unit {0}
AsksSource source.Reg f = Unit {0}
AsksSource source.Low f = Unit {0}
AsksSource source.AfterLow f = Unit {0}
AsksSource source.Accumulator f = Unit {0}
AsksSource (source.Imm k) f = AsksNumber k f
AsksSource source.Offset f = Unit {0}

abbrev pub AsksCount : Shifted → Fields → Type 0
AsksCount ByOne f = Unit {0}
AsksCount ByImm f = f.imm < 256
AsksCount ByCl f = Unit {0}

abbrev pub AsksRepeat : StrOp → Fields → Type 0
AsksRepeat Movs f = IsF3 f.repeat
AsksRepeat Cmps f = IsRepeat f.repeat
AsksRepeat Stos f = IsF3 f.repeat
AsksRepeat Lods f = IsF3 f.repeat
AsksRepeat Scas f = IsRepeat f.repeat

abbrev pub Asks : Form → Fields → Type 0
Asks (form.AluByOpcode z a b) f = (f.low < 8) × (AsksSource a f × AsksSource b f)
Asks (form.AluByReg z a b) f = (f.reg < 8) × (AsksSource a f × AsksSource b f)
Asks (form.Inc z a) f = AsksSource a f
Asks (form.Dec z a) f = AsksSource a f
Asks (form.Push a) f = AsksSource a f
Asks (form.Pop a) f = AsksSource a f
Asks (form.Imul3 k) f = AsksNumber k f
Asks (form.Jcc k) f = AsksNumber k f
Asks (form.Test z a b) f = AsksSource a f × AsksSource b f
Asks (form.Xchg z a b) f = AsksSource a f × AsksSource b f
Asks (form.Mov z a b) f = AsksSource a f × AsksSource b f
Asks form.Lea f = Unit {0}
Asks form.Nop f = ⊥
Asks form.Widen f = Unit {0}
Asks form.Spread f = Unit {0}
Asks (form.Str op z) f = AsksRepeat op f
Asks (form.Shift z c) f = (is_shift f.reg ≡ true) × AsksCount c f
Asks form.RetImm f = f.imm < 2 ^ 16
Asks form.Ret f = Unit {0}
Asks form.Leave f = Unit {0}
Asks (form.Trap n) f = Unit {0}
Asks form.Loop f = f.imm < 256
Asks form.Jecxz f = f.imm < 256
Asks form.Call f = Unit {0}
Asks (form.Jmp k) f = AsksNumber k f
Asks (form.Carry op) f = Unit {0}
Asks (form.Not z) f = Unit {0}
Asks (form.Neg z) f = Unit {0}
Asks (form.Mul z) f = Unit {0}
Asks (form.ImulWide z) f = Unit {0}
Asks (form.Div z) f = Unit {0}
Asks (form.Idiv z) f = Unit {0}
Asks form.CallTo f = Unit {0}
Asks form.JmpTo f = Unit {0}
Asks form.Cmov f = Unit {0}
Asks form.Set f = Unit {0}
Asks form.BitByOpcode f = f.low < 4
Asks form.BitByReg f = (4 ≤ f.reg) × (f.reg < 8)
Asks (form.DShift left c) f = AsksCount c f
Asks form.Imul2 f = Unit {0}
Asks (form.MovxByte signed) f = Unit {0}
Asks (form.MovxHalf signed) f = Unit {0}
Asks (form.Scan up) f = IsF3 f.repeat
Asks form.Bswap f = Unit {0}

-- ---- the parts give the fields back

number_again : (k : Immediate) (s : Size) (f : Fields) → AsksNumber k f → stored k (number_of k s f.imm) ≡ f.imm
number_again Plain s f h = refl
number_again Extended s f h = extended_again s f.imm h

operand_again : (a : Source) (s : Size) (f g : Fields) → AsksSource a f → with_operand a (operand_of a s f) g ≡ show a f g
operand_again source.Rm s f g h = refl
operand_again source.Reg s f g h = refl
operand_again source.Low s f g h = refl
operand_again source.AfterLow s f g h = let e : f.low + 1 - 1 ≡ f.low = omega arith in ap (λ (n : ℕ). record g { low = n }) e
operand_again source.Accumulator s f g h = refl
operand_again (source.Imm k) s f g h = ap (λ (n : ℕ). record g { imm = n }) (number_again k s f h)
operand_again source.Offset s f g h = refl

size_again : (z : Sizing) (f g : Fields) → with_size z (size_of z f) g ≡ show_size z f g
size_again Byte f g = refl
size_again Prefixed f g = refl

one_again : (z : Sizing) (a : Source) (f g : Fields) → AsksSource a f → with_size z (size_of z f) (with_operand a (operand_of a (size_of z f) f) g) ≡ show_size z f (show a f g)
one_again z a f g h = ap (λ (x : Fields). with_size z (size_of z f) x) (operand_again a (size_of z f) f g h) ∙ size_again z f (show a f g)

two_again : (z : Sizing) (a b : Source) (f g : Fields) → AsksSource a f → AsksSource b f →
    with_size z (size_of z f) (with_operand a (operand_of a (size_of z f) f) (with_operand b (operand_of b (size_of z f) f) g)) ≡ show_size z f (show a f (show b f g))
two_again z a b f g h k =
    ap (λ (x : Fields). with_size z (size_of z f) (with_operand a (operand_of a (size_of z f) f) x)) (operand_again b (size_of z f) f g k)
    ∙ one_again z a f (show b f g) h

count_again : (c : Shifted) (f : Fields) → AsksCount c f → count_number (count_of c f) ≡ show_count c f
count_again ByOne f h = refl
count_again ByImm f h = let e : f.imm % 256 ≡ f.imm = omega arith in e
count_again ByCl f h = refl

string_again : (op : StrOp) (f : Fields) → AsksRepeat op f → repeat_of (rep_of op f.repeat) ≡ f.repeat
string_again Movs f h = plain_again f.repeat h
string_again Cmps f h = compare_again f.repeat h
string_again Stos f h = plain_again f.repeat h
string_again Lods f h = plain_again f.repeat h
string_again Scas f h = compare_again f.repeat h

pub shown_again : (k : Form) (f : Fields) → Asks k f → fields_from k (parts_of (inst_of k f)) ≡ shown_of k f
shown_again (form.AluByOpcode z a b) f h =
    ap (λ (n : ℕ). with_size z (size_of z f) (with_operand a (operand_of a (size_of z f) f) (with_operand b (operand_of b (size_of z f) f) (record no_fields { low = n })))) (alu_again f.low h.0)
    ∙ two_again z a b f (record no_fields { low = f.low }) h.1.0 h.1.1
shown_again (form.AluByReg z a b) f h =
    ap (λ (n : ℕ). with_size z (size_of z f) (with_operand a (operand_of a (size_of z f) f) (with_operand b (operand_of b (size_of z f) f) (record no_fields { reg = n })))) (alu_again f.reg h.0)
    ∙ two_again z a b f (record no_fields { reg = f.reg }) h.1.0 h.1.1
shown_again (form.Inc z a) f h = one_again z a f no_fields h
shown_again (form.Dec z a) f h = one_again z a f no_fields h
shown_again (form.Push a) f h = operand_again a W f no_fields h
shown_again (form.Pop a) f h = operand_again a W f no_fields h
shown_again (form.Imul3 k) f h = ap (λ (n : ℕ). record (show_rm f) { size = f.size; reg = f.reg; imm = n }) (number_again k f.size f h)
shown_again (form.Jcc k) f h = ap (λ (n : ℕ). record no_fields { low = f.low; imm = n }) (number_again k W f h)
shown_again (form.Test z a b) f h = two_again z a b f no_fields h.0 h.1
shown_again (form.Xchg z a b) f h = two_again z a b f no_fields h.0 h.1
shown_again (form.Mov z a b) f h = two_again z a b f no_fields h.0 h.1
shown_again form.Lea f h = refl
shown_again form.Nop f h = absurd h
shown_again form.Widen f h = refl
shown_again form.Spread f h = refl
shown_again (form.Str op z) f h =
    ap (λ (o : Option ℕ). with_size z (size_of z f) (record no_fields { repeat = o; segment = string_segment op f.segment })) (string_again op f h)
    ∙ size_again z f (record no_fields { repeat = f.repeat; segment = string_segment op f.segment })
shown_again (form.Shift z c) f h =
    ap (λ (n : ℕ). with_size z (size_of z f) (record (show_rm f) { reg = n; imm = count_number (count_of c f) })) (shift_again f.reg h.0)
    ∙ ap (λ (n : ℕ). with_size z (size_of z f) (record (show_rm f) { reg = f.reg; imm = n })) (count_again c f h.1)
    ∙ size_again z f (record (show_rm f) { reg = f.reg; imm = show_count c f })
shown_again form.RetImm f h = let e : f.imm % 2 ^ 16 ≡ f.imm = omega arith in ap (λ (n : ℕ). record no_fields { imm = n }) e
shown_again form.Ret f h = refl
shown_again form.Leave f h = refl
shown_again (form.Trap n) f h = refl
shown_again form.Loop f h = ap (λ (n : ℕ). record no_fields { imm = n }) (extended_again W f.imm h)
shown_again form.Jecxz f h = ap (λ (n : ℕ). record no_fields { imm = n }) (extended_again W f.imm h)
shown_again form.Call f h = refl
shown_again (form.Jmp k) f h = ap (λ (n : ℕ). record no_fields { imm = n }) (number_again k W f h)
shown_again (form.Carry op) f h = refl
shown_again (form.Not z) f h = size_again z f (show_rm f)
shown_again (form.Neg z) f h = size_again z f (show_rm f)
shown_again (form.Mul z) f h = size_again z f (show_rm f)
shown_again (form.ImulWide z) f h = size_again z f (show_rm f)
shown_again (form.Div z) f h = size_again z f (show_rm f)
shown_again (form.Idiv z) f h = size_again z f (show_rm f)
shown_again form.CallTo f h = refl
shown_again form.JmpTo f h = refl
shown_again form.Cmov f h = refl
shown_again form.Set f h = refl
shown_again form.BitByOpcode f h = let e : bit_digit (bit_op f.low) - 4 ≡ f.low = omega (arith, bit_again f.low h) in ap (λ (n : ℕ). record (show_rm f) { low = n; size = f.size; reg = f.reg }) e
shown_again form.BitByReg f h = let e : bit_digit (bit_op (f.reg - 4)) ≡ f.reg = omega (arith, bit_again (f.reg - 4) (omega (arith, h.0, h.1)), h.0) in ap (λ (n : ℕ). record (show_rm f) { reg = n; size = f.size; imm = f.imm }) e
shown_again (form.DShift left c) f h = ap (λ (n : ℕ). record (show_rm f) { reg = f.reg; imm = n }) (count_again c f h)
shown_again form.Imul2 f h = refl
shown_again (form.MovxByte signed) f h = refl
shown_again (form.MovxHalf signed) f h = refl
shown_again (form.Scan true) f h = ap (λ (o : Option ℕ). record (show_rm f) { size = f.size; reg = f.reg; repeat = o }) (tz_again f.repeat h)
shown_again (form.Scan false) f h = refl
shown_again form.Bswap f h = refl
