-- Which steps stray, row by row.
use Rattle.std.proofs.Common.{◌≡◌, ℕ, ◌%◌, ◌/◌, ◌==◌, ◌&&◌, ◌||◌, inl, inr, Bool, true, false, if◌then◌else◌, List, [], ◌∷◌, Option, Some, None, refl, ap, sym, ◌∙◌}
use Rattle.std.specs.Prelude.{is_none}
use Rattle.std.proofs.lemmas.Bool.{both_ways, or_cases, or_left, or_right}
use Rattle.x86_inst.specs.declared.Inst.{Inst}
use Rattle.x86_inst.specs.declared.Inst.TheVariants as i
use Rattle.x86_inst.specs.declared.AluOp.{AluOp}
use Rattle.x86_inst.specs.declared.AluOp.TheVariants.{Add, Or, Adc, Sbb, And, Sub, Xor, Cmp}
use Rattle.x86_inst.specs.declared.BitOp.{BitOp}
use Rattle.x86_inst.specs.declared.BitOp.TheVariants.{Bt, Bts, Btr, Btc}
use Rattle.x86_inst.specs.declared.CarryOp.{CarryOp}
use Rattle.x86_inst.specs.declared.CarryOp.TheVariants.{Flip, Clear, Put}
use Rattle.x86_inst.specs.declared.Count.{Count}
use Rattle.x86_inst.specs.declared.Count.TheVariants as count
use Rattle.x86_inst.specs.declared.Operand.{Operand}
use Rattle.x86_inst.specs.declared.Operand.TheVariants as o
use Rattle.x86_inst.specs.declared.Rep.{Rep}
use Rattle.x86_inst.specs.declared.Rep.TheVariants as rep
use Rattle.x86_inst.specs.declared.Size.{Size}
use Rattle.x86_inst.specs.declared.Size.TheVariants.{B, W}
use Rattle.x86_inst.specs.declared.StrOp.{StrOp}
use Rattle.x86_inst.specs.declared.StrOp.TheVariants.{Movs, Cmps, Stos, Lods, Scas}
use Rattle.dream_words.specs.declared.machine.Bit.{Bit}
use Rattle.dream_words.specs.declared.machine.Bit.TheVariants.{Zero, One, Undefined}
use Rattle.dream_words.specs.declared.machine.Flags.{Flags}
use Rattle.x86_model.specs.declared.effect.Step.{Step}
use Rattle.x86_model.specs.declared.effect.Effect.{Effect}
use Rattle.x86_model.specs.declared.effect.Go.{Go}
use Rattle.x86_model.specs.declared.effect.Go.TheVariants as go
use Rattle.x86_model.specs.Operands.{value_of, count_of}
use Rattle.x86_model.specs.Effects.{done, goes, put, known, both, opposite, even_condition, condition_of, reading}
use Rattle.x86_model.specs.Arithmetic.{minus_of}
use Rattle.x86_model.specs.Rows.{alu_done, alu_carry, target_at, is_bare}
use Rattle.x86_model.specs.WideRows.{divided, shift_none, bit_written, whole_round, again, repeated, repeats}
use Rattle.x86_model.specs.Meaning.{effect_of}
use Rattle.x86_model.specs.Undefined.{is_stray, condition_flags, alu_flags_read, some_undefined, reads_undefined, searches_zero}
use Rattle.x86_model.specs.Laws.{StraysSo}

-- ---- what isn't a stray

-- the effect is no stray
abbrev GoesOn : Effect → Type 0
GoesOn e = is_stray e.go ≡ false

put_goes : (size : Size) (d : Operand) (v : ℕ) (a : Step) (e : Effect) → GoesOn e → GoesOn (put size d v a e)
put_goes size (o.Reg n) v a e h = h
put_goes size (o.Mem m) v a e h = h
put_goes size (o.Imm k) v a e h = h

if_goes : (t : Bool) (x y : Effect) → GoesOn x → GoesOn y → GoesOn (if t then x else y)
if_goes true x y h k = h
if_goes false x y h k = k

if_leads : (t : Bool) (x y : Go) → is_stray x ≡ false → is_stray y ≡ false → is_stray (if t then x else y) ≡ false
if_leads true x y h k = h
if_leads false x y h k = k

alu_goes : (op : AluOp) (size : Size) (d : Operand) (x y : ℕ) (c : Bool) (a : Step) → GoesOn (alu_done op size d x y c a)
alu_goes Cmp size d x y c a = refl
alu_goes Add size d x y c a = put_goes size d _ a _ refl
alu_goes Or size d x y c a = put_goes size d _ a _ refl
alu_goes Adc size d x y c a = put_goes size d _ a _ refl
alu_goes Sbb size d x y c a = put_goes size d _ a _ refl
alu_goes And size d x y c a = put_goes size d _ a _ refl
alu_goes Sub size d x y c a = put_goes size d _ a _ refl
alu_goes Xor size d x y c a = put_goes size d _ a _ refl

bit_goes : (op : BitOp) (size : Size) (d : Operand) (v : ℕ) (a : Step) (e : Effect) → GoesOn e → GoesOn (bit_written op size d v a e)
bit_goes Bt size d v a e h = h
bit_goes Bts size d v a e h = put_goes size d v a e h
bit_goes Btr size d v a e h = put_goes size d v a e h
bit_goes Btc size d v a e h = put_goes size d v a e h

none_goes : (n : Count) (size : Size) (d : Operand) (x : ℕ) (a : Step) → GoesOn (shift_none n size d x a)
none_goes count.Cl size d x a = put_goes size d x a _ refl
none_goes count.One size d x a = refl
none_goes (count.Imm k) size d x a = refl

divided_goes : (q : Option (ℕ × ℕ)) (size : Size) (a : Step) → GoesOn (divided q size a)
divided_goes None size a = refl
divided_goes (Some (q, r)) size a = refl

again_leads : (r : Rep) (z : Bit) → is_stray (again r z) ≡ false
again_leads rep.No z = refl
again_leads rep.Rep z = refl
again_leads rep.Repe Zero = refl
again_leads rep.Repe One = refl
again_leads rep.Repe Undefined = refl
again_leads rep.Repne Zero = refl
again_leads rep.Repne One = refl
again_leads rep.Repne Undefined = refl

round_goes : (op : StrOp) (size : Size) (a : Step) → GoesOn (whole_round op size a)
round_goes Movs size a = refl
round_goes Cmps size a = refl
round_goes Stos size a = refl
round_goes Lods size a = refl
round_goes Scas size a = refl

repeated_goes : (r : Rep) (e : Effect) → GoesOn e → GoesOn (repeated r e)
repeated_goes rep.No e h = h
repeated_goes rep.Rep e h = refl
repeated_goes rep.Repe e h = again_leads rep.Repe e.flags.z
repeated_goes rep.Repne e h = again_leads rep.Repne e.flags.z

-- ---- flags that are read

-- a step that reads flags strays exactly where one of them isn't known
reading_strays : (q : Option Bool) (a : Step) (k : Bool → Effect) → ((b : Bool) → GoesOn (k b)) → is_stray (reading q a k).go ≡ is_none q
reading_strays None a k h = refl
reading_strays (Some b) a k h = h b

-- these flags aren't known exactly where one of them is undefined
abbrev pub IsUnknown : Option Bool → List Bit → Type 0
IsUnknown q bits = is_none q ≡ some_undefined bits

unknown : (b : Bit) → IsUnknown (known b) (b ∷ [])
unknown Zero = refl
unknown One = refl
unknown Undefined = refl

unknown_both : (f : Bool → Bool → Bool) (b : Bit) (q : Option Bool) (bits : List Bit) → IsUnknown q bits → IsUnknown (both f (known b) q) (b ∷ bits)
unknown_both f Zero None bits h = h
unknown_both f Zero (Some x) bits h = h
unknown_both f One None bits h = h
unknown_both f One (Some x) bits h = h
unknown_both f Undefined q bits h = refl

unknown_if : (t : Bool) (p q : Option Bool) (xs ys : List Bit) → IsUnknown p xs → IsUnknown q ys → IsUnknown (if t then p else q) (if t then xs else ys)
unknown_if true p q xs ys h k = h
unknown_if false p q xs ys h k = k

unknown_opposite : (q : Option Bool) → is_none (opposite q) ≡ is_none q
unknown_opposite None = refl
unknown_opposite (Some b) = refl

-- the eight pairs of conditions
unknown_pair : (n : ℕ) (f : Flags) → IsUnknown (even_condition (n % 16 / 2) f) (condition_flags n f)
unknown_pair n f =
    let pair : ℕ = n % 16 / 2 in
    unknown_if (pair == 0) _ _ _ _ (unknown f.o)
    (unknown_if (pair == 1) _ _ _ _ (unknown f.c)
    (unknown_if (pair == 2) _ _ _ _ (unknown f.z)
    (unknown_if (pair == 3) _ _ _ _ (unknown_both _ f.c _ (f.z ∷ []) (unknown f.z))
    (unknown_if (pair == 4) _ _ _ _ (unknown f.s)
    (unknown_if (pair == 5) _ _ _ _ (unknown f.p)
    (unknown_if (pair == 6) _ _ _ _ (unknown_both _ f.s _ (f.o ∷ []) (unknown f.o))
    (unknown_both _ f.z _ (f.s ∷ f.o ∷ []) (unknown_both _ f.s _ (f.o ∷ []) (unknown f.o)))))))))

pub unknown_condition : (n : ℕ) (f : Flags) → IsUnknown (condition_of n f) (condition_flags n f)
unknown_condition n f = by_parity (n % 2 == 0)
  where
    by_parity : (t : Bool) → IsUnknown (if t then even_condition (n % 16 / 2) f else opposite (even_condition (n % 16 / 2) f)) (condition_flags n f)
    by_parity true = unknown_pair n f
    by_parity false = unknown_opposite (even_condition (n % 16 / 2) f) ∙ unknown_pair n f

unknown_carry : (op : AluOp) (a : Step) → IsUnknown (alu_carry op a) (alu_flags_read op a.flags)
unknown_carry Adc a = unknown a.flags.c
unknown_carry Sbb a = unknown a.flags.c
unknown_carry Add a = refl
unknown_carry Or a = refl
unknown_carry And a = refl
unknown_carry Sub a = refl
unknown_carry Xor a = refl
unknown_carry Cmp a = refl

-- ---- rows

-- the effect is a stray exactly where the two tests say so
abbrev StraysAs : Inst → Step → Type 0
StraysAs x a = is_stray (effect_of x a).go ≡ (reads_undefined x a.flags || searches_zero x a)

or_false : (t : Bool) → t ≡ (t || false)
or_false true = refl
or_false false = refl

-- a step that reads flags and searches nothing
by_flags : (q : Option Bool) (bits : List Bit) (a : Step) (k : Bool → Effect) → ((b : Bool) → GoesOn (k b)) → IsUnknown q bits → is_stray (reading q a k).go ≡ (some_undefined bits || false)
by_flags q bits a k h u = reading_strays q a k h ∙ u ∙ or_false (some_undefined bits)

carry_strays : (op : CarryOp) (a : Step) → StraysAs (i.Carry op) a
carry_strays Flip a = by_flags (known a.flags.c) (a.flags.c ∷ []) a _ (λ b. refl) (unknown a.flags.c)
carry_strays Clear a = refl
carry_strays Put a = refl

-- a search of 0 strays
if_searches : (t : Bool) (a : Step) (e : Effect) → GoesOn e → is_stray (if t then goes go.Stray a else e).go ≡ t
if_searches true a e h = refl
if_searches false a e h = h

strays_as : (x : Inst) (a : Step) → StraysAs x a
strays_as (i.Alu op size d s) a = by_flags (alu_carry op a) (alu_flags_read op a.flags) a _ (λ c. alu_goes op size d (value_of size d a) (value_of size s a) c a) (unknown_carry op a)
strays_as (i.Neg size d) a = put_goes size d _ a _ refl
strays_as (i.Inc size d) a = put_goes size d _ a _ refl
strays_as (i.Dec size d) a = put_goes size d _ a _ refl
strays_as (i.Test size d s) a = refl
strays_as (i.Mov size d s) a = put_goes size d _ a _ refl
strays_as (i.Lea size d m) a = refl
strays_as (i.Push s) a = refl
strays_as (i.Pop d) a = put_goes W d _ _ _ refl
strays_as (i.Xchg size d s) a = put_goes size d _ a _ (put_goes size s _ a _ refl)
strays_as (i.Not size d) a = put_goes size d _ a _ refl
strays_as (i.Movx signed from to d s) a = refl
strays_as (i.Widen size) a = refl
strays_as (i.Spread size) a = refl
strays_as (i.Bswap n) a = refl
strays_as (i.Set n d) a = by_flags (condition_of n.0 a.flags) (condition_flags n.0 a.flags) a _ (λ b. put_goes B d _ a _ refl) (unknown_condition n.0 a.flags)
strays_as (i.Cmov n size d s) a = by_flags (condition_of n.0 a.flags) (condition_flags n.0 a.flags) a _ (λ b. if_goes b _ _ refl refl) (unknown_condition n.0 a.flags)
strays_as i.Leave a = refl
strays_as i.Nop a = refl
strays_as (i.Loop distance) a = if_leads (minus_of 32 a.regs.ecx 1 == 0) go.Next (go.To (target_at distance a)) refl refl
strays_as (i.Jecxz distance) a = if_goes (a.regs.ecx == 0) _ _ refl refl
strays_as (i.Jcc n distance) a = by_flags (condition_of n.0 a.flags) (condition_flags n.0 a.flags) a _ (λ b. if_goes b _ _ refl refl) (unknown_condition n.0 a.flags)
strays_as (i.Jmp distance) a = refl
strays_as (i.JmpTo s) a = if_leads (is_bare s) (go.LeaveTo (value_of W s a)) (go.To (value_of W s a)) refl refl
strays_as (i.Call distance) a = refl
strays_as (i.CallTo s) a = refl
strays_as (i.Ret n) a = refl
strays_as (i.Trap v) a = refl
strays_as (i.Mul size s) a = refl
strays_as (i.ImulWide size s) a = refl
strays_as (i.Imul2 size d s) a = refl
strays_as (i.Imul3 size d s k) a = refl
strays_as (i.Div size s) a = divided_goes _ size a
strays_as (i.Idiv size s) a = divided_goes _ size a
strays_as (i.Shift op size d n) a = if_goes (count_of n a == 0) _ _ (none_goes n size d (value_of size d a) a) (put_goes size d _ a _ refl)
strays_as (i.DShift left d g n) a = if_goes (count_of n a == 0) _ _ (none_goes n W d (value_of W d a) a) (put_goes W d _ a _ refl)
strays_as (i.Bit op size d s) a = bit_goes op size d _ a _ refl
strays_as (i.Scan up size d s tz) a = if_searches (value_of size s a == 0) a _ refl
strays_as (i.Carry op) a = carry_strays op a
strays_as (i.Str op size r s) a = if_goes (repeats r && a.regs.ecx == 0) (done a a.flags) (repeated r (whole_round op size a)) refl (repeated_goes r (whole_round op size a) (round_goes op size a))

-- ---- in words

is_stray_if : (g : Go) → g ≡ go.Stray → is_stray g ≡ true
is_stray_if g e = ap is_stray e

stray_if : (g : Go) → is_stray g ≡ true → g ≡ go.Stray
stray_if go.Next h = absurd (both_ways false refl h)
stray_if go.Again h = absurd (both_ways false refl h)
stray_if (go.To a) h = absurd (both_ways false refl h)
stray_if (go.CallTo a) h = absurd (both_ways false refl h)
stray_if (go.LeaveTo a) h = absurd (both_ways false refl h)
stray_if go.Return h = absurd (both_ways false refl h)
stray_if (go.Fault v) h = absurd (both_ways false refl h)
stray_if go.Stray h = refl

pub strays_so : StraysSo
strays_so x a = (
  (λ e. or_cases (reads_undefined x a.flags) (searches_zero x a) (sym (strays_as x a) ∙ is_stray_if (effect_of x a).go e)),
  (λ h. stray_if (effect_of x a).go (strays_as x a ∙ elim h [
    | inl u ↦ or_left (reads_undefined x a.flags) (searches_zero x a) u
    | inr s ↦ or_right (reads_undefined x a.flags) (searches_zero x a) s
  ])),
)
