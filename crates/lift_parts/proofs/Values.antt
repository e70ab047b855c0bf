-- What the words of operands are, where the names show a step.
use Rattle.std.proofs.Common.{◌≡◌, ℕ, zero, suc, ◌+◌, ◌-◌, ◌*◌, ◌/◌, ◌^◌, ◌<◌, ◌≤◌, ◌%◌, nat_lt, nat_eq, Bool, true, false, if◌then◌else◌, Option, Some, None, refl, ap, sym, ◌∙◌, subst, arith}
use Rattle.std.proofs.lemmas.Nat.{and_mask, mod_below, pow_pos, mul-mod_second}
use Rattle.std.proofs.Math.Nat.{mod-eq_of_lt}
use Rattle.std.proofs.lemmas.Bool.Decides.{nat_tests}
use Rattle.dream_words.specs.declared.machine.Regs.{Regs}
use Rattle.dream_words.specs.declared.machine.Name.TheVariants as name
use Rattle.dream_words.specs.Memory.{Mem as Memory, byte_at, load, bytes_of}
use Rattle.dream_words.specs.Ranges.{AreBytes}
use Rattle.dream_words.specs.Registers.{reg_of}
use Rattle.dream_words.specs.Words.{low_part}
use Rattle.run_parts.specs.World.{Names, World, regs_in}
use Rattle.c_syntax.specs.declared.syntax.CBin.TheVariants as op
use Rattle.c_syntax.specs.declared.syntax.CExpr.{CExpr}
use Rattle.c_syntax.specs.Value.{word_of, both}
use Rattle.c_syntax.specs.Words.{bin_of}
use Rattle.c_words.specs.Built.{num, bin}
use Rattle.c_words.proofs.Layers.{word_layer}
use Rattle.micro_ir.specs.World.{IsWorld}
use Rattle.x86_inst.specs.declared.Seg.{Seg}
use Rattle.x86_inst.specs.declared.Seg.TheVariants as seg
use Rattle.x86_inst.specs.declared.Size.{Size}
use Rattle.x86_inst.specs.declared.Size.TheVariants as size
use Rattle.x86_inst.specs.declared.Mem.{Mem}
use Rattle.x86_inst.specs.declared.Operand.{Operand}
use Rattle.x86_inst.specs.declared.Operand.TheVariants as o
use Rattle.x86_model.specs.declared.effect.Step.{Step}
use Rattle.x86_model.specs.Operands.{bits_of, width_of, part_of, base_of, reg_or_zero, address_of, value_of}
use Rattle.lift_parts.specs.Parts.{reg, temp, part_word, with_index, with_base, with_segment, address_word, raw_word, value_word, low_word}
use Rattle.lift_parts.specs.Shown.{AreNames, Shows, ShowsRead}

-- in a world names stand for words
pub names_of_world : (w : World) → IsWorld w → AreNames w.names
names_of_world w h = record { words = h.words; no_register = h.no_register }

-- ---- registers

-- a number that is another one
pub not_equal : (n k : ℕ) → k < n → nat_eq n k ≡ false
not_equal n k h = grind (arith, nat_tests)

passed : (b : Bool) (x y : ℕ) → b ≡ false → (if b then x else y) ≡ y
passed b x y h = ap (λ b. if b then x else y) h

-- a register that doesn't exist is 0
pub no_reg : (r : Regs) (n : ℕ) → 8 ≤ n → reg_of r n ≡ 0
no_reg r n h =
    passed _ r.eax _ (not_equal n 0 (omega arith))
    ∙ passed _ r.ecx _ (not_equal n 1 (omega arith))
    ∙ passed _ r.edx _ (not_equal n 2 (omega arith))
    ∙ passed _ r.ebx _ (not_equal n 3 (omega arith))
    ∙ passed _ r.esp _ (not_equal n 4 (omega arith))
    ∙ passed _ r.ebp _ (not_equal n 5 (omega arith))
    ∙ passed _ r.esi _ (not_equal n 6 (omega arith))
    ∙ passed _ r.edi _ (not_equal n 7 (omega arith))

past : (v : Names) → AreNames v → (n : ℕ) → 8 ≤ n → v (name.Reg n) ≡ reg_of (regs_in v) n
past v h n l = h.no_register n l ∙ sym (no_reg (regs_in v) n l)

-- a register by its name
pub reg_is : (v : Names) → AreNames v → (n : ℕ) → v (name.Reg n) ≡ reg_of (regs_in v) n
reg_is v h zero = refl
reg_is v h (suc zero) = refl
reg_is v h (suc (suc zero)) = refl
reg_is v h (suc (suc (suc zero))) = refl
reg_is v h (suc (suc (suc (suc zero)))) = refl
reg_is v h (suc (suc (suc (suc (suc zero))))) = refl
reg_is v h (suc (suc (suc (suc (suc (suc zero)))))) = refl
reg_is v h (suc (suc (suc (suc (suc (suc (suc zero))))))) = refl
reg_is v h (suc (suc (suc (suc (suc (suc (suc (suc k)))))))) = past v h (suc (suc (suc (suc (suc (suc (suc (suc k)))))))) (omega arith)

-- a register fits
pub reg_fits : (v : Names) → AreNames v → (n : ℕ) → reg_of (regs_in v) n < 2 ^ 32
reg_fits v h n = subst (λ x. x < 2 ^ 32) (reg_is v h n) (h.words (name.Reg n))

-- a word that a test chooses
chosen : (v : Names) (b : Bool) (e f : CExpr) (x y : ℕ) → word_of e v ≡ Some x → word_of f v ≡ Some y → word_of (if b then e else f) v ≡ Some (if b then x else y)
chosen v true e f x y p q = p
chosen v false e f x y p q = q

-- the low bits of a word
masked_is : (v : Names) (e : CExpr) (x k : ℕ) → word_of e v ≡ Some x → word_of (bin op.And e (num (2 ^ k - 1))) v ≡ Some (x % 2 ^ k)
masked_is v e x k h = simp word_layer (ap (λ o. both (bin_of op.And) o (Some (2 ^ k - 1))) h ∙ ap Some (and_mask x k))

pub low_is : (v : Names) (size : Size) (e : CExpr) (x : ℕ) → x < 2 ^ 32 → word_of e v ≡ Some x → word_of (low_word size e) v ≡ Some (low_part (bits_of size) x)
low_is v size.B e x l h = masked_is v e x 8 h
low_is v size.H e x l h = masked_is v e x 16 h
low_is v size.W e x l h = h ∙ ap Some (sym (mod-eq_of_lt l))

-- the word of a register, and of its bytes from the second on
reg_word_is : (v : Names) → AreNames v → (n : ℕ) → word_of (reg n) v ≡ Some (reg_of (regs_in v) n)
reg_word_is v h n = simp word_layer (ap Some (reg_is v h n))

high_word_is : (v : Names) → AreNames v → (n : ℕ) → word_of (bin op.Shr (reg n) (num 8)) v ≡ Some (reg_of (regs_in v) n / 2 ^ 8)
high_word_is v h n = simp word_layer (ap (λ x. Some (x / 2 ^ 8)) (reg_is v h n))

pub part_is : (v : Names) → AreNames v → (size : Size) (n : ℕ) → word_of (part_word size n) v ≡ Some (part_of size (regs_in v) n)
part_is v h size.B n =
    chosen v (nat_lt n 4) _ _ _ _ (masked_is v (reg n) (reg_of (regs_in v) n) 8 (reg_word_is v h n))
    (masked_is v (bin op.Shr (reg (n - 4)) (num 8)) (reg_of (regs_in v) (n - 4) / 2 ^ 8) 8 (high_word_is v h (n - 4)))
part_is v h size.H n = masked_is v (reg n) (reg_of (regs_in v) n) 16 (reg_word_is v h n)
part_is v h size.W n = reg_word_is v h n

-- ---- addresses

index_is : (v : Names) → AreNames v → (i : Option ℕ) (scale disp : ℕ) → word_of (with_index i scale disp) v ≡ Some (low_part 32 (reg_or_zero i (regs_in v) * scale + disp))
index_is v h None scale disp = simp word_layer (ap Some (omega arith))
index_is v h (Some n) scale disp =
    let x : ℕ = reg_of (regs_in v) n in
    simp word_layer (
    ap (λ r. Some (low_part 32 (low_part 32 (r * low_part 32 scale) + low_part 32 disp))) (reg_is v h n)
    ∙ ap (λ k. Some (low_part 32 (k + low_part 32 disp))) (mul-mod_second x scale (2 ^ 32))
    ∙ ap Some (added (x * scale) disp))
  where
    added : (a b : ℕ) → low_part 32 (low_part 32 a + low_part 32 b) ≡ low_part 32 (a + b)
    added a b = omega arith

base_is : (v : Names) → AreNames v → (b : Option ℕ) (e : CExpr) (x : ℕ) → word_of e v ≡ Some (low_part 32 x)
    → word_of (with_base b e) v ≡ Some (low_part 32 (reg_or_zero b (regs_in v) + x))
base_is v h None e x k = k ∙ ap Some (omega arith)
base_is v h (Some n) e x k =
    simp word_layer (ap (both (bin_of op.Add) (Some (v (name.Reg n)))) k ∙ ap (λ r. Some (low_part 32 (r + low_part 32 x))) (reg_is v h n) ∙ ap Some (added (reg_of (regs_in v) n) x))
  where
    added : (a b : ℕ) → low_part 32 (a + low_part 32 b) ≡ low_part 32 (a + b)
    added a b = omega arith

segment_is : (v : Names) (s : Seg) (e : CExpr) (x : ℕ) → word_of e v ≡ Some (low_part 32 x)
    → word_of (with_segment s e) v ≡ Some (low_part 32 (x + base_of s (v name.Fs) (v name.Gs)))
segment_is v seg.None e x k = k ∙ ap Some (omega arith)
segment_is v seg.Fs e x k = simp word_layer (ap (λ o. both (bin_of op.Add) o (Some (v name.Fs))) k ∙ ap Some (omega arith))
segment_is v seg.Gs e x k = simp word_layer (ap (λ o. both (bin_of op.Add) o (Some (v name.Gs))) k ∙ ap Some (omega arith))

-- an address by registers and bases of the names
address_in : (v : Names) → AreNames v → (m : Mem) → word_of (address_word m) v ≡ Some (address_of m (regs_in v) (v name.Fs) (v name.Gs))
address_in v h m =
    segment_is v m.seg _ _ (base_is v h m.base _ _ (index_is v h m.index m.scale m.disp))
    ∙ ap Some (summed (reg_or_zero m.base (regs_in v)) (reg_or_zero m.index (regs_in v) * m.scale) m.disp (base_of m.seg (v name.Fs) (v name.Gs)))
  where
    summed : (a b c d : ℕ) → low_part 32 (a + (b + c) + d) ≡ (a + b + c + d) % 2 ^ 32
    summed a b c d = omega arith

pub address_is : (a : Step) (v : Names) → AreNames v → Shows a v → (m : Mem) → word_of (address_word m) v ≡ Some (address_of m a.regs a.fs a.gs)
address_is a v h s m =
    address_in v h m
    ∙ ap (λ r. Some (address_of m r (v name.Fs) (v name.Gs))) s.regs
    ∙ ap (λ b. Some (address_of m a.regs b (v name.Gs))) s.fs
    ∙ ap (λ b. Some (address_of m a.regs a.fs b)) s.gs

-- ---- operands

-- a low part is its own low part
pub low_again : (size : Size) (x : ℕ) → low_part (bits_of size) (low_part (bits_of size) x) ≡ low_part (bits_of size) x
low_again size.B x = omega arith
low_again size.H x = omega arith
low_again size.W x = omega arith

-- a low part fits its size
pub low_fits : (size : Size) (x : ℕ) → low_part (bits_of size) x < 2 ^ bits_of size
low_fits size x = mod_below x (2 ^ bits_of size) (pow_pos (bits_of size))

-- what fits a size is a word
pub word_fits : (size : Size) (x : ℕ) → x < 2 ^ bits_of size → x < 2 ^ 32
word_fits size.B x h = omega arith
word_fits size.H x h = omega arith
word_fits size.W x h = h

-- what is known of the word of an operand
abbrev pub IsRaw : Size → CExpr → Names → ℕ → Type 0
IsRaw size e v value = (x : ℕ) × (word_of e v ≡ Some x) × (x < 2 ^ 32) × (low_part (bits_of size) x ≡ value)

raw_chosen : (size : Size) (v : Names) (b : Bool) (e f : CExpr) (x y : ℕ) → IsRaw size e v x → IsRaw size f v y → IsRaw size (if b then e else f) v (if b then x else y)
raw_chosen size v true e f x y p q = p
raw_chosen size v false e f x y p q = q

raw_reg : (v : Names) → AreNames v → (size : Size) (n : ℕ) → IsRaw size (raw_word size (o.Reg n)) v (part_of size (regs_in v) n)
raw_reg v h size.B n =
    raw_chosen size.B v (nat_lt n 4) _ _ _ _ (reg_of (regs_in v) n, reg_word_is v h n, reg_fits v h n, refl)
    (reg_of (regs_in v) (n - 4) / 2 ^ 8, high_word_is v h (n - 4), (let k : reg_of (regs_in v) (n - 4) < 2 ^ 32 = reg_fits v h (n - 4) in omega arith), refl)
raw_reg v h size.H n = (reg_of (regs_in v) n, reg_word_is v h n, reg_fits v h n, refl)
raw_reg v h size.W n = (reg_of (regs_in v) n, reg_word_is v h n, reg_fits v h n, mod-eq_of_lt (reg_fits v h n))

raw_mem : (a : Step) (v : Names) → AreNames v → (size : Size) → v (name.T 0) ≡ low_part (bits_of size) a.first
    → (e : CExpr) → word_of e v ≡ Some (v (name.T 0)) → IsRaw size e v (low_part (bits_of size) a.first)
raw_mem a v h size k e g = (v (name.T 0), g, h.words (name.T 0), ap (low_part (bits_of size)) k ∙ low_again size a.first)

raw_imm : (v : Names) (size : Size) (k : ℕ) → IsRaw size (num (low_part (bits_of size) k)) v (low_part (bits_of size) k)
raw_imm v size k = (low_part (bits_of size) k, simp word_layer refl, word_fits size _ (low_fits size k), low_again size k)

temp_is : (v : Names) (n : ℕ) → word_of (temp n) v ≡ Some (v (name.T n))
temp_is v n = simp word_layer refl

-- a word whose low part is the operand's value
pub raw_is : (a : Step) (v : Names) → AreNames v → Shows a v → (size : Size) (o : Operand) → ShowsRead size o a v
    → (x : ℕ) × (word_of (raw_word size o) v ≡ Some x) × (x < 2 ^ 32) × (low_part (bits_of size) x ≡ value_of size o a)
raw_is a v h s size (o.Reg n) r = subst (λ r. IsRaw size (raw_word size (o.Reg n)) v (part_of size r n)) s.regs (raw_reg v h size n)
raw_is a v h s size.B (o.Mem m) r = raw_mem a v h size.B (r.read refl) _ (temp_is v 0)
raw_is a v h s size.H (o.Mem m) r = raw_mem a v h size.H (r.read refl) _ (temp_is v 0)
raw_is a v h s size.W (o.Mem m) r = raw_mem a v h size.W (r.read refl) _ (temp_is v 0)
raw_is a v h s size.B (o.Imm k) r = raw_imm v size.B k
raw_is a v h s size.H (o.Imm k) r = raw_imm v size.H k
raw_is a v h s size.W (o.Imm k) r = raw_imm v size.W k

pub value_is : (a : Step) (v : Names) → AreNames v → Shows a v → (size : Size) (o : Operand) → ShowsRead size o a v
    → word_of (value_word size o) v ≡ Some (value_of size o a)
value_is a v h s size (o.Reg n) r = part_is v h size n ∙ ap (λ r. Some (part_of size r n)) s.regs
value_is a v h s size (o.Mem m) r = temp_is v 0 ∙ ap Some (r.read refl)
value_is a v h s size (o.Imm k) r = simp word_layer refl

-- a part of a register fits its size
chosen_fits : (b : Bool) (x y k : ℕ) → x < k → y < k → (if b then x else y) < k
chosen_fits true x y k p q = p
chosen_fits false x y k p q = q

part_fits : (v : Names) → AreNames v → (size : Size) (n : ℕ) → part_of size (regs_in v) n < 2 ^ bits_of size
part_fits v h size.B n = chosen_fits (nat_lt n 4) _ _ _ (mod_below (reg_of (regs_in v) n) (2 ^ 8) (pow_pos 8)) (mod_below (reg_of (regs_in v) (n - 4) / 2 ^ 8) (2 ^ 8) (pow_pos 8))
part_fits v h size.H n = mod_below (reg_of (regs_in v) n) (2 ^ 16) (pow_pos 16)
part_fits v h size.W n = reg_fits v h n

-- a value fits its size
pub value_fits : (a : Step) (v : Names) → AreNames v → Shows a v → (size : Size) (o : Operand) → value_of size o a < 2 ^ bits_of size
value_fits a v h s size (o.Reg n) = subst (λ r. part_of size r n < 2 ^ bits_of size) s.regs (part_fits v h size n)
value_fits a v h s size (o.Mem m) = low_fits size a.first
value_fits a v h s size (o.Imm k) = low_fits size k

-- a value is a word
pub value_is_word : (a : Step) (v : Names) → AreNames v → Shows a v → (size : Size) (o : Operand) → value_of size o a < 2 ^ 32
value_is_word a v h s size o = word_fits size (value_of size o a) (value_fits a v h s size o)

-- a word that is read fits its size
pub load_fits : (m : Memory) → AreBytes m → (at : ℕ) (size : Size) → load m at (bytes_of (width_of size)) < 2 ^ bits_of size
load_fits m h at size.B = let p : byte_at m (at % 2 ^ 32) < 256 = h (at % 2 ^ 32) in omega arith
load_fits m h at size.H =
    let p : byte_at m (at % 2 ^ 32) < 256 = h (at % 2 ^ 32) in
    let q : byte_at m ((at + 1) % 2 ^ 32) < 256 = h ((at + 1) % 2 ^ 32) in
    omega arith
load_fits m h at size.W =
    let p : byte_at m (at % 2 ^ 32) < 256 = h (at % 2 ^ 32) in
    let q : byte_at m ((at + 1) % 2 ^ 32) < 256 = h ((at + 1) % 2 ^ 32) in
    let r : byte_at m ((at + 1 + 1) % 2 ^ 32) < 256 = h ((at + 1 + 1) % 2 ^ 32) in
    let t : byte_at m ((at + 1 + 1 + 1) % 2 ^ 32) < 256 = h ((at + 1 + 1 + 1) % 2 ^ 32) in
    omega arith

-- what is read is its own low part, so that t0 shows it after a read
pub load_low : (m : Memory) → AreBytes m → (at : ℕ) (size : Size)
    → load m at (bytes_of (width_of size)) ≡ low_part (bits_of size) (load m at (bytes_of (width_of size)))
load_low m h at size = sym (mod-eq_of_lt (load_fits m h at size))
