-- Parts of registers, and pairs of conditions.
use Rattle.std.proofs.Common.{◌≡◌, ◌≢◌, ℕ, suc, zero, ◌+◌, ◌-◌, ◌*◌, ◌/◌, ◌%◌, ◌^◌, ◌<◌, Bool, true, false, nat_eq, nat_lt, if◌then◌else◌, arith, refl, ap, sym, ◌∙◌}
use Rattle.std.proofs.lemmas.Bool.Decides.{nat_tests}
use Rattle.x86_inst.specs.declared.Size.{Size}
use Rattle.x86_inst.specs.declared.Size.TheVariants.{B, H, W}
use Rattle.dream_words.specs.declared.machine.Flags.{Flags}
use Rattle.dream_words.specs.declared.machine.Regs.{Regs}
use Rattle.dream_words.specs.Registers.{reg_of, with_reg}
use Rattle.dream_words.specs.Words.{low_part}
use Rattle.x86_model.specs.Operands.{bits_of, part_of, with_part, with_low, with_second}
use Rattle.x86_model.specs.Effects.{condition_of, even_condition, opposite}

-- ---- registers

-- the register that is set
reg_of-with_reg : (r : Regs) (n v : ℕ) → n < 8 → reg_of (with_reg r n v) n ≡ v
reg_of-with_reg r zero v h = refl
reg_of-with_reg r (suc zero) v h = refl
reg_of-with_reg r (suc (suc zero)) v h = refl
reg_of-with_reg r (suc (suc (suc zero))) v h = refl
reg_of-with_reg r (suc (suc (suc (suc zero)))) v h = refl
reg_of-with_reg r (suc (suc (suc (suc (suc zero))))) v h = refl
reg_of-with_reg r (suc (suc (suc (suc (suc (suc zero)))))) v h = refl
reg_of-with_reg r (suc (suc (suc (suc (suc (suc (suc zero))))))) v h = refl
reg_of-with_reg r (suc (suc (suc (suc (suc (suc (suc (suc n)))))))) v h = absurd (omega (arith, h))

-- a word of another number stays
kept : (n k v x : ℕ) → nat_eq n k ≡ false → (if nat_eq n k then v else x) ≡ x
kept n k v x e = rw e refl

-- the other registers
reg_of-with_other : (r : Regs) (n k v : ℕ) → k < 8 → nat_eq n k ≡ false → reg_of (with_reg r n v) k ≡ reg_of r k
reg_of-with_other r n zero v h e = kept n 0 v r.eax e
reg_of-with_other r n (suc zero) v h e = kept n 1 v r.ecx e
reg_of-with_other r n (suc (suc zero)) v h e = kept n 2 v r.edx e
reg_of-with_other r n (suc (suc (suc zero))) v h e = kept n 3 v r.ebx e
reg_of-with_other r n (suc (suc (suc (suc zero)))) v h e = kept n 4 v r.esp e
reg_of-with_other r n (suc (suc (suc (suc (suc zero))))) v h e = kept n 5 v r.ebp e
reg_of-with_other r n (suc (suc (suc (suc (suc (suc zero)))))) v h e = kept n 6 v r.esi e
reg_of-with_other r n (suc (suc (suc (suc (suc (suc (suc zero))))))) v h e = kept n 7 v r.edi e
reg_of-with_other r n (suc (suc (suc (suc (suc (suc (suc (suc k)))))))) v h e = absurd (omega (arith, h))

apart : (n k : ℕ) → n ≢ k → nat_eq n k ≡ false
apart n k h = grind (arith, nat_tests)

equal : (n k : ℕ) → nat_eq n k ≡ true → n ≡ k
equal n k e = grind (arith, nat_tests)

-- ---- bytes of a word

low_read : (old v : ℕ) → with_low 8 old v % 2 ^ 8 ≡ v % 2 ^ 8
low_read old v = omega arith

low_keeps : (old v : ℕ) → with_low 8 old v / 2 ^ 8 % 2 ^ 8 ≡ old / 2 ^ 8 % 2 ^ 8
low_keeps old v = omega arith

second_read : (old v : ℕ) → with_second old v / 2 ^ 8 % 2 ^ 8 ≡ v % 2 ^ 8
second_read old v = omega arith

second_keeps : (old v : ℕ) → with_second old v % 2 ^ 8 ≡ old % 2 ^ 8
second_keeps old v = omega arith

half_read : (old v : ℕ) → with_low 16 old v % 2 ^ 16 ≡ v % 2 ^ 16
half_read old v = omega arith

-- ---- parts

byte_read : (r : Regs) (n v : ℕ) (t : Bool) → nat_lt n 4 ≡ t → n < 8 → part_of B (with_part B r n v) n ≡ v % 2 ^ 8
byte_read r n v true e h = rw e (ap (λ x. x % 2 ^ 8) (reg_of-with_reg r n (with_low 8 (reg_of r n) v) h) ∙ low_read (reg_of r n) v)
byte_read r n v false e h = rw e (ap (λ x. x / 2 ^ 8 % 2 ^ 8) (reg_of-with_reg r (n - 4) (with_second (reg_of r (n - 4)) v) (omega (arith, h))) ∙ second_read (reg_of r (n - 4)) v)

-- what was written, taken to its size
pub parts_read_back : (size : Size) (r : Regs) (n v : ℕ) → n < 8 → part_of size (with_part size r n v) n ≡ low_part (bits_of size) v
parts_read_back B r n v h = byte_read r n v (nat_lt n 4) refl h
parts_read_back H r n v h = ap (λ x. x % 2 ^ 16) (reg_of-with_reg r n (with_low 16 (reg_of r n) v) h) ∙ half_read (reg_of r n) v
parts_read_back W r n v h = reg_of-with_reg r n (low_part 32 v) h

-- a low byte after another is written
low_apart : (r : Regs) (n k v : ℕ) (t : Bool) → nat_lt n 4 ≡ t → nat_lt k 4 ≡ true → n < 8 → k < 8 → n ≢ k → part_of B (with_part B r n v) k ≡ part_of B r k
low_apart r n k v true e f h i d = rw (e, f) (ap (λ x. x % 2 ^ 8) (reg_of-with_other r n k (with_low 8 (reg_of r n) v) i (apart n k d)))
low_apart r n k v false e f h i d = by_register (nat_eq (n - 4) k) refl
  where
    by_register : (s : Bool) → nat_eq (n - 4) k ≡ s → part_of B (with_part B r n v) k ≡ part_of B r k
    by_register true g =
        rw (e, f) (rw (sym (equal (n - 4) k g)) (ap (λ x. x % 2 ^ 8) (reg_of-with_reg r (n - 4) (with_second (reg_of r (n - 4)) v) (omega (arith, h))) ∙ second_keeps (reg_of r (n - 4)) v))
    by_register false g = rw (e, f) (ap (λ x. x % 2 ^ 8) (reg_of-with_other r (n - 4) k (with_second (reg_of r (n - 4)) v) i g))

-- a second byte after another is written
second_apart : (r : Regs) (n k v : ℕ) (t : Bool) → nat_lt n 4 ≡ t → nat_lt k 4 ≡ false → n < 8 → k < 8 → n ≢ k → part_of B (with_part B r n v) k ≡ part_of B r k
second_apart r n k v true e f h i d = by_register (nat_eq n (k - 4)) refl
  where
    by_register : (s : Bool) → nat_eq n (k - 4) ≡ s → part_of B (with_part B r n v) k ≡ part_of B r k
    by_register true g =
        rw (e, f) (rw (sym (equal n (k - 4) g)) (ap (λ x. x / 2 ^ 8 % 2 ^ 8) (reg_of-with_reg r n (with_low 8 (reg_of r n) v) h) ∙ low_keeps (reg_of r n) v))
    by_register false g = rw (e, f) (ap (λ x. x / 2 ^ 8 % 2 ^ 8) (reg_of-with_other r n (k - 4) (with_low 8 (reg_of r n) v) (omega (arith, i)) g))
second_apart r n k v false e f h i d =
    let g : nat_eq (n - 4) (k - 4) ≡ false = grind (arith, nat_tests) in
    rw (e, f) (ap (λ x. x / 2 ^ 8 % 2 ^ 8) (reg_of-with_other r (n - 4) (k - 4) (with_second (reg_of r (n - 4)) v) (omega (arith, i)) g))

byte_apart : (r : Regs) (n k v : ℕ) (s : Bool) → nat_lt k 4 ≡ s → n < 8 → k < 8 → n ≢ k → part_of B (with_part B r n v) k ≡ part_of B r k
byte_apart r n k v true e h i d = low_apart r n k v (nat_lt n 4) refl e h i d
byte_apart r n k v false e h i d = second_apart r n k v (nat_lt n 4) refl e h i d

pub parts_are_apart : (size : Size) (r : Regs) (n k v : ℕ) → n < 8 → k < 8 → n ≢ k → part_of size (with_part size r n v) k ≡ part_of size r k
parts_are_apart B r n k v h i d = byte_apart r n k v (nat_lt k 4) refl h i d
parts_are_apart H r n k v h i d = ap (λ x. x % 2 ^ 16) (reg_of-with_other r n k (with_low 16 (reg_of r n) v) i (apart n k d))
parts_are_apart W r n k v h i d = reg_of-with_other r n k (low_part 32 v) i (apart n k d)

-- ---- conditions

pub conditions_are_opposite : (n : ℕ) (f : Flags) → condition_of (n * 2 + 1) f ≡ opposite (condition_of (n * 2) f)
conditions_are_opposite n f =
    let odd : nat_eq ((n * 2 + 1) % 2) 0 ≡ false = grind (arith, nat_tests) in
    let even : nat_eq (n * 2 % 2) 0 ≡ true = grind (arith, nat_tests) in
    let place : (n * 2 + 1) % 16 / 2 ≡ n * 2 % 16 / 2 = omega arith in
    rw (odd, even) (ap (λ k. opposite (even_condition k f)) place)
