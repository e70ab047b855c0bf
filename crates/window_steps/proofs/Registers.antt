-- Registers after one of them, or a part of one, is set.
use Rattle.std.proofs.Common.{◌≡◌, ℕ, zero, suc, ◌-◌, ◌/◌, ◌%◌, ◌^◌, ◌<◌, ◌≤◌, Bool, true, false, nat_eq, nat_lt, if◌then◌else◌, refl, sym, ap, ◌∙◌, arith}
use Rattle.std.proofs.lemmas.Bool.Decides.{nat_tests}
use Rattle.dream_words.specs.declared.machine.Regs.{Regs}
use Rattle.dream_words.specs.Registers.{reg_of, with_reg}
use Rattle.dream_words.specs.Words.{low_part}
use Rattle.x86_inst.specs.declared.Size.{Size}
use Rattle.x86_inst.specs.declared.Size.TheVariants.{B, H, W}
use Rattle.x86_model.specs.Operands.{part_of, with_low, with_part, with_second}
use Rattle.jump_tables.specs.Forms.{whole}

not_equal : (n k : ℕ) → k < n → nat_eq n k ≡ false
not_equal n k h = grind (arith, nat_tests)

-- a register that doesn't exist is 0
no_reg : (r : Regs) (n : ℕ) → 8 ≤ n → reg_of r n ≡ 0
no_reg r n h =
    simp (not_equal n 0 (omega arith), not_equal n 1 (omega arith), not_equal n 2 (omega arith), not_equal n 3 (omega arith), not_equal n 4 (omega arith), not_equal n 5 (omega arith), not_equal n 6 (omega arith), not_equal n 7 (omega arith)) refl

-- another register stays
pub reg_other : (r : Regs) (d n v : ℕ) → nat_eq d n ≡ false → reg_of (with_reg r d v) n ≡ reg_of r n
reg_other r d zero v h = ap (λ b. if b then v else r.eax) h
reg_other r d (suc zero) v h = ap (λ b. if b then v else r.ecx) h
reg_other r d (suc (suc zero)) v h = ap (λ b. if b then v else r.edx) h
reg_other r d (suc (suc (suc zero))) v h = ap (λ b. if b then v else r.ebx) h
reg_other r d (suc (suc (suc (suc zero)))) v h = ap (λ b. if b then v else r.esp) h
reg_other r d (suc (suc (suc (suc (suc zero))))) v h = ap (λ b. if b then v else r.ebp) h
reg_other r d (suc (suc (suc (suc (suc (suc zero)))))) v h = ap (λ b. if b then v else r.esi) h
reg_other r d (suc (suc (suc (suc (suc (suc (suc zero))))))) v h = ap (λ b. if b then v else r.edi) h
reg_other r d (suc (suc (suc (suc (suc (suc (suc (suc k)))))))) v h =
    no_reg (with_reg r d v) (suc (suc (suc (suc (suc (suc (suc (suc k)))))))) (omega arith) ∙ sym (no_reg r (suc (suc (suc (suc (suc (suc (suc (suc k)))))))) (omega arith))

-- the one that is set has the word
pub reg_same : (r : Regs) (d v : ℕ) → d < 8 → reg_of (with_reg r d v) d ≡ v
reg_same r zero v h = refl
reg_same r (suc zero) v h = refl
reg_same r (suc (suc zero)) v h = refl
reg_same r (suc (suc (suc zero))) v h = refl
reg_same r (suc (suc (suc (suc zero)))) v h = refl
reg_same r (suc (suc (suc (suc (suc zero))))) v h = refl
reg_same r (suc (suc (suc (suc (suc (suc zero)))))) v h = refl
reg_same r (suc (suc (suc (suc (suc (suc (suc zero))))))) v h = refl
reg_same r (suc (suc (suc (suc (suc (suc (suc (suc k)))))))) v h = absurd (let z : ⊥ = omega (arith, h) in z)

-- a part is set in the register of which it is one
byte_other : (b : Bool) (r : Regs) (d n v : ℕ) → nat_eq (if b then d else d - 4) n ≡ false
    → reg_of (if b then with_reg r d (with_low 8 (reg_of r d) v) else with_reg r (d - 4) (with_second (reg_of r (d - 4)) v)) n ≡ reg_of r n
byte_other true r d n v h = reg_other r d n (with_low 8 (reg_of r d) v) h
byte_other false r d n v h = reg_other r (d - 4) n (with_second (reg_of r (d - 4)) v) h

pub part_other : (size : Size) (r : Regs) (d n v : ℕ) → nat_eq (whole size d) n ≡ false → reg_of (with_part size r d v) n ≡ reg_of r n
part_other B r d n v h = byte_other (nat_lt d 4) r d n v h
part_other H r d n v h = reg_other r d n (with_low 16 (reg_of r d) v) h
part_other W r d n v h = reg_other r d n (low_part 32 v) h

-- a part is that of its register
byte_same : (b : Bool) (r q : Regs) (n : ℕ) → reg_of r (if b then n else n - 4) ≡ reg_of q (if b then n else n - 4)
    → (if b then reg_of r n % 2 ^ 8 else reg_of r (n - 4) / 2 ^ 8 % 2 ^ 8) ≡ (if b then reg_of q n % 2 ^ 8 else reg_of q (n - 4) / 2 ^ 8 % 2 ^ 8)
byte_same true r q n h = ap (λ x. x % 2 ^ 8) h
byte_same false r q n h = ap (λ x. x / 2 ^ 8 % 2 ^ 8) h

pub part_same : (size : Size) (r q : Regs) (n : ℕ) → reg_of r (whole size n) ≡ reg_of q (whole size n) → part_of size r n ≡ part_of size q n
part_same B r q n h = byte_same (nat_lt n 4) r q n h
part_same H r q n h = ap (λ x. x % 2 ^ 16) h
part_same W r q n h = h
