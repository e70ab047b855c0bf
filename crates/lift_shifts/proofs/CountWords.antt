-- What the words of a count give.
use Rattle.std.proofs.Common.{◌≡◌, ℕ, ◌+◌, ◌-◌, ◌%◌, ◌^◌, ◌<◌, ◌≤◌, nat_eq, true, false, bit_and, Some, refl, ap, ◌∙◌, subst, lit<, arith}
use Rattle.std.proofs.lemmas.Nat.{and_mask}
use Rattle.dream_words.specs.declared.machine.Name.TheVariants as name
use Rattle.dream_words.specs.Words.{low_part}
use Rattle.run_parts.specs.World.{Names}
use Rattle.x86_inst.specs.declared.Count.{Count}
use Rattle.x86_inst.specs.declared.Count.TheVariants as n
use Rattle.x86_inst.specs.declared.Size.{Size}
use Rattle.x86_inst.specs.declared.Size.TheVariants.{B, H, W}
use Rattle.x86_model.specs.declared.effect.Step.{Step}
use Rattle.x86_model.specs.Operands.{bits_of, count_of}
use Rattle.x86_model.specs.Successors.{is_none}
use Rattle.c_syntax.specs.declared.syntax.CBin.TheVariants as op
use Rattle.c_syntax.specs.declared.syntax.CExpr.{CExpr}
use Rattle.c_syntax.specs.Value.{word_of}
use Rattle.c_words.specs.Built.{num, bin, word_not}
use Rattle.lift_parts.specs.Parts.{reg}
use Rattle.lift_parts.specs.Shown.{AreNames, Shows}
use Rattle.lift_blocks.proofs.MoveWords.{bin_value, name_value, not_value, num_value}
use Rattle.lift_shifts.specs.Counts.{count_word, before_word, rest_word, turns_word, back_word, may_be_one}

-- ---- numbers

pub below_size : (size : Size) (c : ℕ) → c % bits_of size < bits_of size
below_size B c = omega arith
below_size H c = omega arith
below_size W c = omega arith

before_number : (r : ℕ) → r < 2 ^ 32 → 0 < r % 32 → low_part 32 (r + 2 ^ 32 - 1) % 32 ≡ r % 32 - 1
before_number r h l = omega arith

rest_number : (size : Size) (r : ℕ) → r < 2 ^ 32 → 0 < r % 32 → r % 32 ≤ bits_of size → low_part 32 (bits_of size + 2 ^ 32 - r) % 32 ≡ bits_of size - r % 32
rest_number B r h l k = omega arith
rest_number H r h l k = omega arith
rest_number W r h l k = omega arith

rest_fixed : (size : Size) (c : ℕ) → 0 < c → c ≤ bits_of size → (bits_of size - c) % 32 ≡ bits_of size - c
rest_fixed B c h k = omega arith
rest_fixed H c h k = omega arith
rest_fixed W c h k = omega arith

turns_number : (size : Size) (r : ℕ) → bit_and r (bits_of size - 1) ≡ r % 32 % bits_of size
turns_number B r = and_mask r 3 ∙ omega arith
turns_number H r = and_mask r 4 ∙ omega arith
turns_number W r = and_mask r 5 ∙ omega arith

back_number : (size : Size) (r : ℕ) → r < 2 ^ 32 → bit_and (2 ^ 32 - 1 - r) (bits_of size - 1) ≡ bits_of size - 1 - r % 32 % bits_of size
back_number B r h = and_mask (2 ^ 32 - 1 - r) 3 ∙ omega arith
back_number H r h = and_mask (2 ^ 32 - 1 - r) 4 ∙ omega arith
back_number W r h = and_mask (2 ^ 32 - 1 - r) 5 ∙ omega arith

one_turn : (size : Size) → 1 ≡ 1 % bits_of size
one_turn B = refl
one_turn H = refl
one_turn W = refl

one_back : (size : Size) → bits_of size - 2 ≡ bits_of size - 1 - 1 % bits_of size
one_back B = refl
one_back H = refl
one_back W = refl

pub below_32 : (x : ℕ) → x % 32 < 32
below_32 x = omega arith

pub less_below : (x : ℕ) → x % 32 - 1 < 32
less_below x = omega arith

pub top_below : (size : Size) → bits_of size - 1 < 32
top_below B = lit< tt
top_below H = lit< tt
top_below W = lit< tt

-- ---- words

-- ECX as a step shows it
ecx_is : (a : Step) (v : Names) → Shows a v → v (name.Reg 1) ≡ a.regs.ecx
ecx_is a v s = ap (λ r. r.ecx) s.regs

pub count_is : (a : Step) (v : Names) → Shows a v → (c : Count) → word_of (count_word c) v ≡ Some (count_of c a)
count_is a v s n.One = num_value v 1
count_is a v s (n.Imm k) = num_value v (k % 32)
count_is a v s n.Cl =
    bin_value v op.And (reg 1) (num 31) (v (name.Reg 1)) 31 (name_value v (name.Reg 1)) (num_value v 31)
    ∙ ap Some (and_mask (v (name.Reg 1)) 5)
    ∙ ap (λ r. Some (r % 32)) (ecx_is a v s)

pub count_below : (c : Count) (a : Step) → count_of c a < 32
count_below n.One a = lit< tt
count_below (n.Imm k) a = below_32 k
count_below n.Cl a = below_32 a.regs.ecx

-- a word below 32, which is a number where that is defined
abbrev pub IsAmount : CExpr → Names → (ℕ → Type 0) → Type 0
IsAmount e v P = (y : ℕ) × (word_of e v ≡ Some y) × (y < 32) × P y

pub before_is : (a : Step) (v : Names) → AreNames v → Shows a v → (c : Count) → IsAmount (before_word c) v (λ y. 0 < count_of c a → y ≡ count_of c a - 1)
before_is a v h s n.One = (0, num_value v 0, lit< tt, λ l. refl)
before_is a v h s (n.Imm k) = (k % 32 - 1, num_value v (k % 32 - 1), less_below k, λ l. refl)
before_is a v h s n.Cl =
    let r : ℕ = v (name.Reg 1) in
    let y : ℕ = low_part 32 (r + 2 ^ 32 - 1) in (
      y % 32,
      bin_value v op.And (bin op.Sub (reg 1) (num 1)) (num 31) y 31 (bin_value v op.Sub (reg 1) (num 1) r 1 (name_value v (name.Reg 1)) (num_value v 1)) (num_value v 31) ∙ ap Some (and_mask y 5),
      below_32 y,
      subst (λ e. 0 < e % 32 → low_part 32 (r + 2 ^ 32 - 1) % 32 ≡ e % 32 - 1) (ecx_is a v s) (before_number r (h.words (name.Reg 1))),
    )

pub rest_is : (size : Size) (a : Step) (v : Names) → AreNames v → Shows a v → (c : Count)
    → IsAmount (rest_word size c) v (λ y. 0 < count_of c a → count_of c a ≤ bits_of size → y ≡ bits_of size - count_of c a)
rest_is size a v h s n.One = (bits_of size - 1, num_value v (bits_of size - 1), top_below size, λ l k. refl)
rest_is size a v h s (n.Imm k) =
    ((bits_of size - k % 32) % 32, num_value v ((bits_of size - k % 32) % 32), below_32 (bits_of size - k % 32), λ l g. rest_fixed size (k % 32) l g)
rest_is size a v h s n.Cl =
    let r : ℕ = v (name.Reg 1) in
    let y : ℕ = low_part 32 (bits_of size + 2 ^ 32 - r) in (
      y % 32,
      bin_value v op.And (bin op.Sub (num (bits_of size)) (reg 1)) (num 31) y 31
          (bin_value v op.Sub (num (bits_of size)) (reg 1) (bits_of size) r (num_value v (bits_of size)) (name_value v (name.Reg 1))) (num_value v 31) ∙ ap Some (and_mask y 5),
      below_32 y,
      subst (λ e. 0 < e % 32 → e % 32 ≤ bits_of size → low_part 32 (bits_of size + 2 ^ 32 - r) % 32 ≡ bits_of size - e % 32) (ecx_is a v s) (rest_number size r (h.words (name.Reg 1))),
    )

pub turns_is : (size : Size) (a : Step) (v : Names) → Shows a v → (c : Count) → word_of (turns_word size c) v ≡ Some (count_of c a % bits_of size)
turns_is size a v s n.One = num_value v 1 ∙ ap Some (one_turn size)
turns_is size a v s (n.Imm k) = num_value v (k % 32 % bits_of size)
turns_is size a v s n.Cl =
    bin_value v op.And (reg 1) (num (bits_of size - 1)) (v (name.Reg 1)) (bits_of size - 1) (name_value v (name.Reg 1)) (num_value v (bits_of size - 1))
    ∙ ap Some (turns_number size (v (name.Reg 1)))
    ∙ ap (λ r. Some (r % 32 % bits_of size)) (ecx_is a v s)

pub back_is : (size : Size) (a : Step) (v : Names) → AreNames v → Shows a v → (c : Count) → word_of (back_word size c) v ≡ Some (bits_of size - 1 - count_of c a % bits_of size)
back_is size a v h s n.One = num_value v (bits_of size - 2) ∙ ap Some (one_back size)
back_is size a v h s (n.Imm k) = num_value v (bits_of size - 1 - k % 32 % bits_of size)
back_is size a v h s n.Cl =
    let r : ℕ = v (name.Reg 1) in
    bin_value v op.And (word_not (reg 1)) (num (bits_of size - 1)) (2 ^ 32 - 1 - r) (bits_of size - 1) (not_value v (reg 1) r (name_value v (name.Reg 1))) (num_value v (bits_of size - 1))
    ∙ ap Some (back_number size r (h.words (name.Reg 1)))
    ∙ ap (λ r. Some (bits_of size - 1 - r % 32 % bits_of size)) (ecx_is a v s)

pub turns_below : (size : Size) (c : ℕ) → c % bits_of size < 32
turns_below B c = omega arith
turns_below H c = omega arith
turns_below W c = omega arith

pub back_below : (size : Size) (c : ℕ) → bits_of size - 1 - c % bits_of size < 32
back_below B c = omega arith
back_below H c = omega arith
back_below W c = omega arith

-- ---- counts that are 0 or 1

-- a count that can't be 1 isn't 1
pub not_one : (c : Count) (a : Step) → may_be_one c ≡ false → nat_eq (count_of c a) 1 ≡ false
not_one n.One a e = absurd cc
not_one (n.Imm k) a e = e
not_one n.Cl a e = absurd cc

-- a count that is 0 where it isn't a number that is 0
pub by_cl : (c : Count) (a : Step) → is_none c ≡ false → nat_eq (count_of c a) 0 ≡ true → c ≡ n.Cl
by_cl n.One a e f = absurd cc
by_cl (n.Imm k) a e f = absurd cc
by_cl n.Cl a e f = refl
