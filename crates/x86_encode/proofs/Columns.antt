-- What the columns of a row say of the fields that its instruction shows: tests over the whole table.
use Rattle.std.proofs.Common.{◌≡◌, ℕ, zero, suc, ◌<◌, ◌≤◌, ◌^◌, Bool, true, false, cond, List, [], ◌∷◌, Option, Some, None, refl, sym, ap, subst, arith}
use Rattle.std.specs.Prelude.{◌==◌, ◌&&◌, ◌||◌, nat_lt, nat_le, is_some, if◌then◌else◌, map, filter, slice_get}
use Rattle.std.specs.List.{list_all}
use Rattle.std.proofs.lemmas.Bool.{leb-true}
use Rattle.x86_inst.specs.declared.Inst.{Inst}
use Rattle.x86_inst.specs.declared.Size.{Size}
use Rattle.x86_inst.specs.declared.Size.TheVariants.{W}
use Rattle.x86_inst.specs.declared.Seg.{Seg}
use Rattle.x86_inst.specs.declared.Seg.TheVariants as seg
use Rattle.x86_inst.specs.declared.Operand.{Operand}
use Rattle.x86_inst.specs.declared.Operand.TheVariants as operand
use Rattle.x86_inst.specs.declared.StrOp.{StrOp}
use Rattle.x86_inst.specs.declared.StrOp.TheVariants.{Movs, Cmps, Stos, Lods, Scas}
use Rattle.x86_inst.specs.Rows.{Fields}
use Rattle.x86_inst.specs.Table.{M}
use Rattle.x86_decode.specs.declared.rows.Row.{Row}
use Rattle.x86_decode.specs.declared.rows.Mode.{Mode}
use Rattle.x86_decode.specs.declared.rows.Mode.TheVariants.{AnyModRm, MemoryOnly, RegisterOnly, Digit, DigitFrom, ShiftDigit, Exactly}
use Rattle.x86_decode.specs.declared.rows.Width.{Width}
use Rattle.x86_decode.specs.declared.rows.Width.TheVariants.{NoImm, Imm8, Imm16, ImmV, Imm32}
use Rattle.x86_decode.specs.declared.rows.Repeats.{Repeats}
use Rattle.x86_decode.specs.declared.rows.Repeats.TheVariants.{Never, F3Allowed, F2F3Allowed, F3Needed}
use Rattle.x86_decode.specs.declared.table.TheConstants.{TABLE}
use Rattle.x86_decode.specs.declared.forms.Immediate.{Immediate}
use Rattle.x86_decode.specs.declared.forms.Immediate.TheVariants.{Plain, Extended}
use Rattle.x86_decode.specs.declared.forms.Source.{Source}
use Rattle.x86_decode.specs.declared.forms.Source.TheVariants as source
use Rattle.x86_decode.specs.declared.forms.Shifted.{Shifted}
use Rattle.x86_decode.specs.declared.forms.Shifted.TheVariants.{ByOne, ByImm, ByCl}
use Rattle.x86_decode.specs.declared.forms.Form.{Form}
use Rattle.x86_decode.specs.declared.forms.Form.TheVariants as form
use Rattle.x86_decode.specs.View.{inst_of}
use Rattle.x86_encode.specs.Bytes.{reg_for}
use Rattle.x86_encode.specs.Parts.{named_segment}
use Rattle.x86_encode.proofs.Fields.{shown_of, is_shift, IsRepeat, none, f3, IsF3, once, by_f3, Asks, AsksNumber, AsksSource, AsksCount, AsksRepeat}
use Rattle.x86_encode.proofs.Flags.{and_true}

-- ---- the rows but those of Nop

abbrev pub is_nop : Form → Bool
is_nop form.Nop = true
is_nop other = false

abbrev pub is_lea : Form → Bool
is_lea form.Lea = true
is_lea other = false

abbrev pub is_set : Form → Bool
is_set form.Set = true
is_set other = false

abbrev pub shows_repeat : Form → Bool
shows_repeat (form.Str op z) = true
shows_repeat (form.Scan up) = up
shows_repeat other = false

abbrev pub is_offset : Source → Bool
is_offset source.Offset = true
is_offset other = false

abbrev pub is_based : StrOp → Bool
is_based Movs = true
is_based Cmps = true
is_based Stos = false
is_based Lods = true
is_based Scas = false

abbrev pub shows_segment : Form → Bool
shows_segment (form.Mov z a b) = is_offset a || is_offset b
shows_segment (form.Str op z) = is_based op
shows_segment other = false

abbrev pub kept : Row → Bool
kept r = if is_nop r.form then false else true

-- ---- columns

abbrev pub reg_in : Option Mode → ℕ → ℕ
reg_in None n = 0
reg_in (Some k) n = reg_for k n

-- the fields that the row's bytes give back
abbrev pub row_fields : Row → Fields → Fields
row_fields r f = record (shown_of r.form f) { reg = reg_in r.modrm (shown_of r.form f).reg }

abbrev pub row_size : Row → Fields → Size
row_size r f = if r.sized then f.size else W

abbrev pub row_low : Row → Fields → ℕ
row_low r f = if r.count == 1 then 0 else f.low

abbrev pub row_repeat : Row → Fields → Option ℕ
row_repeat r f = if shows_repeat r.form then f.repeat else None

abbrev pub row_rm : Row → Fields → Operand
row_rm r f = if is_some r.modrm then (if is_lea r.form then operand.Mem (M f) else f.rm) else operand.Reg 0

abbrev pub row_segment : Row → Fields → Seg
row_segment r f = if is_some r.modrm then named_segment (shown_of r.form f).rm else if shows_segment r.form then f.segment else seg.None

abbrev pub reg_of : Bool → Mode → ℕ → ℕ
reg_of set AnyModRm n = if set then 0 else n
reg_of set MemoryOnly n = n
reg_of set RegisterOnly n = n
reg_of set (Digit d) n = d
reg_of set (DigitFrom d) n = n
reg_of set ShiftDigit n = n
reg_of set (Exactly b) n = n

abbrev pub row_reg : Row → Fields → ℕ
row_reg r f = elim r.modrm [ None ↦ 0 | Some k ↦ reg_of (is_set r.form) k f.reg ]

abbrev pub is_none : Width → Bool
is_none NoImm = true
is_none other = false

abbrev pub row_imm : Row → Fields → ℕ
row_imm r f = if is_none r.imm then 0 else f.imm

-- ---- each column, over the table at once

insts : map {B = Fields → Inst} (λ r. λ f. inst_of r.form (row_fields r f)) (filter kept TABLE) ≡ map {B = Fields → Inst} (λ r. λ f. inst_of r.form f) (filter kept TABLE)
insts = refl

sizes : map {B = Fields → Size} (λ r. λ f. (shown_of r.form f).size) (filter kept TABLE) ≡ map {B = Fields → Size} (λ r. λ f. row_size r f) (filter kept TABLE)
sizes = refl

lows : map {B = Fields → ℕ} (λ r. λ f. (shown_of r.form f).low) (filter kept TABLE) ≡ map {B = Fields → ℕ} (λ r. λ f. row_low r f) (filter kept TABLE)
lows = refl

repeats : map {B = Fields → Option ℕ} (λ r. λ f. (shown_of r.form f).repeat) (filter kept TABLE) ≡ map {B = Fields → Option ℕ} (λ r. λ f. row_repeat r f) (filter kept TABLE)
repeats = refl

rms : map {B = Fields → Operand} (λ r. λ f. (shown_of r.form f).rm) (filter kept TABLE) ≡ map {B = Fields → Operand} (λ r. λ f. row_rm r f) (filter kept TABLE)
rms = refl

segments : map {B = Fields → Seg} (λ r. λ f. (shown_of r.form f).segment) (filter kept TABLE) ≡ map {B = Fields → Seg} (λ r. λ f. row_segment r f) (filter kept TABLE)
segments = refl

regs : map {B = Fields → ℕ} (λ r. λ f. reg_in r.modrm (shown_of r.form f).reg) (filter kept TABLE) ≡ map {B = Fields → ℕ} (λ r. λ f. row_reg r f) (filter kept TABLE)
regs = refl

imms : map {B = Fields → ℕ} (λ r. λ f. (shown_of r.form f).imm) (filter kept TABLE) ≡ map {B = Fields → ℕ} (λ r. λ f. row_imm r f) (filter kept TABLE)
imms = refl

-- ---- what a form asks of the columns of its row

abbrev is_imm8 : Width → Bool
is_imm8 Imm8 = true
is_imm8 other = false

abbrev is_imm16 : Width → Bool
is_imm16 Imm16 = true
is_imm16 other = false

abbrev suits_number : Immediate → Width → Bool
suits_number Plain w = true
suits_number Extended w = is_imm8 w

abbrev suits_source : Source → Width → Bool
suits_source (source.Imm k) w = suits_number k w
suits_source other w = true

abbrev suits_count : Shifted → Width → Bool
suits_count ByOne w = true
suits_count ByImm w = is_imm8 w
suits_count ByCl w = true

abbrev only_f3 : Repeats → Bool
only_f3 Never = true
only_f3 F3Allowed = true
only_f3 F2F3Allowed = false
only_f3 F3Needed = false

abbrev f3_or_f2 : Repeats → Bool
f3_or_f2 Never = true
f3_or_f2 F3Allowed = true
f3_or_f2 F2F3Allowed = true
f3_or_f2 F3Needed = false

abbrev suits_repeat : StrOp → Repeats → Bool
suits_repeat Movs k = only_f3 k
suits_repeat Cmps k = f3_or_f2 k
suits_repeat Stos k = only_f3 k
suits_repeat Lods k = only_f3 k
suits_repeat Scas k = f3_or_f2 k

abbrev is_shift_mode : Option Mode → Bool
is_shift_mode (Some ShiftDigit) = true
is_shift_mode other = false

abbrev is_from_4 : Option Mode → Bool
is_from_4 (Some (DigitFrom d)) = nat_le 4 d
is_from_4 other = false

abbrev suits : Form → Row → Bool
suits (form.AluByOpcode z a b) r = nat_le r.count 8 && (suits_source a r.imm && suits_source b r.imm)
suits (form.AluByReg z a b) r = suits_source a r.imm && suits_source b r.imm
suits (form.Inc z a) r = suits_source a r.imm
suits (form.Dec z a) r = suits_source a r.imm
suits (form.Push a) r = suits_source a r.imm
suits (form.Pop a) r = suits_source a r.imm
suits (form.Imul3 k) r = suits_number k r.imm
suits (form.Jcc k) r = suits_number k r.imm
suits (form.Test z a b) r = suits_source a r.imm && suits_source b r.imm
suits (form.Xchg z a b) r = suits_source a r.imm && suits_source b r.imm
suits (form.Mov z a b) r = suits_source a r.imm && suits_source b r.imm
suits form.Nop r = false
suits (form.Str op z) r = suits_repeat op r.repeats
suits (form.Shift z c) r = is_shift_mode r.modrm && suits_count c r.imm
suits form.RetImm r = is_imm16 r.imm
suits form.Loop r = is_imm8 r.imm
suits form.Jecxz r = is_imm8 r.imm
suits (form.Jmp k) r = suits_number k r.imm
suits form.BitByOpcode r = nat_le r.count 4
suits form.BitByReg r = is_from_4 r.modrm
suits (form.DShift left c) r = suits_count c r.imm
suits (form.Scan up) r = only_f3 r.repeats
suits other r = true

-- no row is for one ModRM byte alone, and Lea is for memory
abbrev pub good_mode : Bool → Option Mode → Bool
good_mode lea None = true
good_mode lea (Some AnyModRm) = if lea then false else true
good_mode lea (Some MemoryOnly) = true
good_mode lea (Some RegisterOnly) = if lea then false else true
good_mode lea (Some (Digit d)) = (if lea then false else true) && nat_lt d 8
good_mode lea (Some (DigitFrom d)) = if lea then false else true
good_mode lea (Some ShiftDigit) = if lea then false else true
good_mode lea (Some (Exactly b)) = false

abbrev pub needs_no_f3 : Repeats → Bool
needs_no_f3 F3Needed = false
needs_no_f3 other = true

all_suit : list_all (λ r. suits r.form r && (good_mode (is_lea r.form) r.modrm && needs_no_f3 r.repeats)) (filter kept TABLE) ≡ true
all_suit = refl

-- ---- a row of the table

map_get : {A : Type 0} (q : Row → Bool) (F G : Row → A) (rs : List Row) (j : ℕ) (r : Row) → map F (filter q rs) ≡ map G (filter q rs) → slice_get rs j ≡ Some r → q r ≡ true → F r ≡ G r
map_get q F G [] j r e g t = absurd cc
map_get {A} q F G (s ∷ rs) zero r e g t = let k : s ≡ r = cc in let u : q s ≡ true = subst (λ x. q x ≡ true) (sym k) t in subst (λ x. F x ≡ G x) k (at (q s) u e)
  where
    at : (b : Bool) → b ≡ true → map F (cond b (s ∷ filter q rs) (filter q rs)) ≡ map G (cond b (s ∷ filter q rs) (filter q rs)) → F s ≡ G s
    at true u e = cc
    at false u e = absurd cc
map_get {A} q F G (s ∷ rs) (suc j) r e g t = map_get q F G rs j r (at (q s) e) g t
  where
    at : (b : Bool) → map F (cond b (s ∷ filter q rs) (filter q rs)) ≡ map G (cond b (s ∷ filter q rs) (filter q rs)) → map F (filter q rs) ≡ map G (filter q rs)
    at true e = cc
    at false e = e

all_get : (q p : Row → Bool) (rs : List Row) (j : ℕ) (r : Row) → list_all p (filter q rs) ≡ true → slice_get rs j ≡ Some r → q r ≡ true → p r ≡ true
all_get q p [] j r e g t = absurd cc
all_get q p (s ∷ rs) zero r e g t = let k : s ≡ r = cc in let u : q s ≡ true = subst (λ x. q x ≡ true) (sym k) t in subst (λ x. p x ≡ true) k (at (q s) u e)
  where
    at : (b : Bool) → b ≡ true → list_all p (cond b (s ∷ filter q rs) (filter q rs)) ≡ true → p s ≡ true
    at true u e = (and_true (p s) (list_all p (filter q rs)) e).0
    at false u e = absurd cc
all_get q p (s ∷ rs) (suc j) r e g t = all_get q p rs j r (at (q s) e) g t
  where
    at : (b : Bool) → list_all p (cond b (s ∷ filter q rs) (filter q rs)) ≡ true → list_all p (filter q rs) ≡ true
    at true e = (and_true (p s) (list_all p (filter q rs)) e).1
    at false e = e

-- ---- what is read by a row

abbrev pub RegTaken : Option Mode → ℕ → Type 0
RegTaken None n = Unit {0}
RegTaken (Some AnyModRm) n = Unit {0}
RegTaken (Some MemoryOnly) n = Unit {0}
RegTaken (Some RegisterOnly) n = Unit {0}
RegTaken (Some (Digit d)) n = n ≡ d
RegTaken (Some (DigitFrom d)) n = d ≤ n
RegTaken (Some ShiftDigit) n = is_shift n ≡ true
RegTaken (Some (Exactly b)) n = Unit {0}

abbrev pub ImmBelow : Width → ℕ → Type 0
ImmBelow NoImm n = n ≡ 0
ImmBelow Imm8 n = n < 256
ImmBelow Imm16 n = n < 2 ^ 16
ImmBelow ImmV n = Unit {0}
ImmBelow Imm32 n = Unit {0}

abbrev pub RepeatIn : Repeats → Option ℕ → Type 0
RepeatIn Never o = o ≡ None
RepeatIn F3Allowed o = IsF3 o
RepeatIn F2F3Allowed o = IsRepeat o
RepeatIn F3Needed o = Unit {0}

pub record IsRead (r : Row) (f : Fields) : Type 0 where
  pub low : f.low < r.count
  pub reg : f.reg < 8
  pub taken : RegTaken r.modrm f.reg
  pub imm : ImmBelow r.imm f.imm
  pub repeat : RepeatIn r.repeats f.repeat

imm8_below : (w : Width) (n : ℕ) → is_imm8 w ≡ true → ImmBelow w n → n < 256
imm8_below NoImm n e h = absurd cc
imm8_below Imm8 n e h = h
imm8_below Imm16 n e h = absurd cc
imm8_below ImmV n e h = absurd cc
imm8_below Imm32 n e h = absurd cc

imm16_below : (w : Width) (n : ℕ) → is_imm16 w ≡ true → ImmBelow w n → n < 2 ^ 16
imm16_below NoImm n e h = absurd cc
imm16_below Imm8 n e h = absurd cc
imm16_below Imm16 n e h = h
imm16_below ImmV n e h = absurd cc
imm16_below Imm32 n e h = absurd cc

asks_number : (k : Immediate) (w : Width) (f : Fields) → suits_number k w ≡ true → ImmBelow w f.imm → AsksNumber k f
asks_number Plain w f e h = tt
asks_number Extended w f e h = imm8_below w f.imm e h

asks_source : (a : Source) (w : Width) (f : Fields) → suits_source a w ≡ true → ImmBelow w f.imm → AsksSource a f
asks_source source.Rm w f e h = tt
asks_source source.Reg w f e h = tt
asks_source source.Low w f e h = tt
asks_source source.AfterLow w f e h = tt
asks_source source.Accumulator w f e h = tt
asks_source (source.Imm k) w f e h = asks_number k w f e h
asks_source source.Offset w f e h = tt

asks_count : (c : Shifted) (w : Width) (f : Fields) → suits_count c w ≡ true → ImmBelow w f.imm → AsksCount c f
asks_count ByOne w f e h = tt
asks_count ByImm w f e h = imm8_below w f.imm e h
asks_count ByCl w f e h = tt

asks_f3 : (k : Repeats) (o : Option ℕ) → only_f3 k ≡ true → RepeatIn k o → IsF3 o
asks_f3 Never o e h = once h
asks_f3 F3Allowed o e h = h
asks_f3 F2F3Allowed o e h = absurd cc
asks_f3 F3Needed o e h = absurd cc

either_of : (o : Option ℕ) → IsF3 o → IsRepeat o
either_of o h = elim h [ once e ↦ none e | by_f3 e ↦ f3 e ]

asks_either : (k : Repeats) (o : Option ℕ) → f3_or_f2 k ≡ true → RepeatIn k o → IsRepeat o
asks_either Never o e h = none h
asks_either F3Allowed o e h = either_of o h
asks_either F2F3Allowed o e h = h
asks_either F3Needed o e h = absurd cc

asks_repeat : (op : StrOp) (k : Repeats) (f : Fields) → suits_repeat op k ≡ true → RepeatIn k f.repeat → AsksRepeat op f
asks_repeat Movs k f e h = asks_f3 k f.repeat e h
asks_repeat Cmps k f e h = asks_either k f.repeat e h
asks_repeat Stos k f e h = asks_f3 k f.repeat e h
asks_repeat Lods k f e h = asks_f3 k f.repeat e h
asks_repeat Scas k f e h = asks_either k f.repeat e h

asks_shift : (k : Option Mode) (n : ℕ) → is_shift_mode k ≡ true → RegTaken k n → is_shift n ≡ true
asks_shift None n e h = absurd cc
asks_shift (Some AnyModRm) n e h = absurd cc
asks_shift (Some MemoryOnly) n e h = absurd cc
asks_shift (Some RegisterOnly) n e h = absurd cc
asks_shift (Some (Digit d)) n e h = absurd cc
asks_shift (Some (DigitFrom d)) n e h = absurd cc
asks_shift (Some ShiftDigit) n e h = h
asks_shift (Some (Exactly b)) n e h = absurd cc

asks_from_4 : (k : Option Mode) (n : ℕ) → is_from_4 k ≡ true → RegTaken k n → 4 ≤ n
asks_from_4 None n e h = absurd cc
asks_from_4 (Some AnyModRm) n e h = absurd cc
asks_from_4 (Some MemoryOnly) n e h = absurd cc
asks_from_4 (Some RegisterOnly) n e h = absurd cc
asks_from_4 (Some (Digit d)) n e h = absurd cc
asks_from_4 (Some (DigitFrom d)) n e h = omega (arith, leb-true 4 d e, h)
asks_from_4 (Some ShiftDigit) n e h = absurd cc
asks_from_4 (Some (Exactly b)) n e h = absurd cc

asks_of : (k : Form) (r : Row) (f : Fields) → suits k r ≡ true → IsRead r f → Asks k f
asks_of (form.AluByOpcode z a b) r f e h =
    let t = and_true (nat_le r.count 8) _ e in
    let u = and_true (suits_source a r.imm) (suits_source b r.imm) t.1 in
    (omega (arith, leb-true r.count 8 t.0, h.low), (asks_source a r.imm f u.0 h.imm, asks_source b r.imm f u.1 h.imm))
asks_of (form.AluByReg z a b) r f e h = let u = and_true _ _ e in (h.reg, (asks_source a r.imm f u.0 h.imm, asks_source b r.imm f u.1 h.imm))
asks_of (form.Inc z a) r f e h = asks_source a r.imm f e h.imm
asks_of (form.Dec z a) r f e h = asks_source a r.imm f e h.imm
asks_of (form.Push a) r f e h = asks_source a r.imm f e h.imm
asks_of (form.Pop a) r f e h = asks_source a r.imm f e h.imm
asks_of (form.Imul3 k) r f e h = asks_number k r.imm f e h.imm
asks_of (form.Jcc k) r f e h = asks_number k r.imm f e h.imm
asks_of (form.Test z a b) r f e h = let u = and_true _ _ e in (asks_source a r.imm f u.0 h.imm, asks_source b r.imm f u.1 h.imm)
asks_of (form.Xchg z a b) r f e h = let u = and_true _ _ e in (asks_source a r.imm f u.0 h.imm, asks_source b r.imm f u.1 h.imm)
asks_of (form.Mov z a b) r f e h = let u = and_true _ _ e in (asks_source a r.imm f u.0 h.imm, asks_source b r.imm f u.1 h.imm)
asks_of form.Lea r f e h = tt
asks_of form.Nop r f e h = absurd cc
asks_of form.Widen r f e h = tt
asks_of form.Spread r f e h = tt
asks_of (form.Str op z) r f e h = asks_repeat op r.repeats f e h.repeat
asks_of (form.Shift z c) r f e h = let u = and_true _ _ e in (asks_shift r.modrm f.reg u.0 h.taken, asks_count c r.imm f u.1 h.imm)
asks_of form.RetImm r f e h = imm16_below r.imm f.imm e h.imm
asks_of form.Ret r f e h = tt
asks_of form.Leave r f e h = tt
asks_of (form.Trap n) r f e h = tt
asks_of form.Loop r f e h = imm8_below r.imm f.imm e h.imm
asks_of form.Jecxz r f e h = imm8_below r.imm f.imm e h.imm
asks_of form.Call r f e h = tt
asks_of (form.Jmp k) r f e h = asks_number k r.imm f e h.imm
asks_of (form.Carry op) r f e h = tt
asks_of (form.Not z) r f e h = tt
asks_of (form.Neg z) r f e h = tt
asks_of (form.Mul z) r f e h = tt
asks_of (form.ImulWide z) r f e h = tt
asks_of (form.Div z) r f e h = tt
asks_of (form.Idiv z) r f e h = tt
asks_of form.CallTo r f e h = tt
asks_of form.JmpTo r f e h = tt
asks_of form.Cmov r f e h = tt
asks_of form.Set r f e h = tt
asks_of form.BitByOpcode r f e h = omega (arith, leb-true r.count 4 e, h.low)
asks_of form.BitByReg r f e h = (asks_from_4 r.modrm f.reg e h.taken, h.reg)
asks_of (form.DShift left c) r f e h = asks_count c r.imm f e h.imm
asks_of form.Imul2 r f e h = tt
asks_of (form.MovxByte signed) r f e h = tt
asks_of (form.MovxHalf signed) r f e h = tt
asks_of (form.Scan up) r f e h = asks_f3 r.repeats f.repeat e h.repeat
asks_of form.Bswap r f e h = tt

-- what the table says of a row, and of fields read by it
pub record Says (r : Row) (f : Fields) : Type 0 where
  pub inst : inst_of r.form (row_fields r f) ≡ inst_of r.form f
  pub size : (shown_of r.form f).size ≡ row_size r f
  pub low : (shown_of r.form f).low ≡ row_low r f
  pub repeat : (shown_of r.form f).repeat ≡ row_repeat r f
  pub rm : (shown_of r.form f).rm ≡ row_rm r f
  pub segment : (shown_of r.form f).segment ≡ row_segment r f
  pub reg : reg_in r.modrm (shown_of r.form f).reg ≡ row_reg r f
  pub imm : (shown_of r.form f).imm ≡ row_imm r f
  pub asks : IsRead r f → Asks r.form f
  pub mode : good_mode (is_lea r.form) r.modrm ≡ true
  pub unneeded : needs_no_f3 r.repeats ≡ true

pub says : (j : ℕ) (r : Row) (f : Fields) → slice_get TABLE j ≡ Some r → kept r ≡ true → Says r f
says j r f g t =
    let u = and_true (suits r.form r) _ (all_get kept (λ r. suits r.form r && (good_mode (is_lea r.form) r.modrm && needs_no_f3 r.repeats)) TABLE j r all_suit g t) in
    let v = and_true (good_mode (is_lea r.form) r.modrm) (needs_no_f3 r.repeats) u.1 in
    record {
      inst = ap (λ (h : Fields → Inst). h f) (map_get {A = Fields → Inst} kept (λ r. λ f. inst_of r.form (row_fields r f)) (λ r. λ f. inst_of r.form f) TABLE j r insts g t);
      size = ap (λ (h : Fields → Size). h f) (map_get {A = Fields → Size} kept (λ r. λ f. (shown_of r.form f).size) (λ r. λ f. row_size r f) TABLE j r sizes g t);
      low = ap (λ (h : Fields → ℕ). h f) (map_get {A = Fields → ℕ} kept (λ r. λ f. (shown_of r.form f).low) (λ r. λ f. row_low r f) TABLE j r lows g t);
      repeat = ap (λ (h : Fields → Option ℕ). h f) (map_get {A = Fields → Option ℕ} kept (λ r. λ f. (shown_of r.form f).repeat) (λ r. λ f. row_repeat r f) TABLE j r repeats g t);
      rm = ap (λ (h : Fields → Operand). h f) (map_get {A = Fields → Operand} kept (λ r. λ f. (shown_of r.form f).rm) (λ r. λ f. row_rm r f) TABLE j r rms g t);
      segment = ap (λ (h : Fields → Seg). h f) (map_get {A = Fields → Seg} kept (λ r. λ f. (shown_of r.form f).segment) (λ r. λ f. row_segment r f) TABLE j r segments g t);
      reg = ap (λ (h : Fields → ℕ). h f) (map_get {A = Fields → ℕ} kept (λ r. λ f. reg_in r.modrm (shown_of r.form f).reg) (λ r. λ f. row_reg r f) TABLE j r regs g t);
      imm = ap (λ (h : Fields → ℕ). h f) (map_get {A = Fields → ℕ} kept (λ r. λ f. (shown_of r.form f).imm) (λ r. λ f. row_imm r f) TABLE j r imms g t);
      asks = asks_of r.form r f u.0;
      mode = v.0;
      unneeded = v.1;
    }
