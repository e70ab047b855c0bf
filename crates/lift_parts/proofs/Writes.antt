-- What a write to an operand leads to, and that names which are set apart from registers still show a step.
use Rattle.std.proofs.Common.{◌≡◌, ℕ, zero, suc, ◌+◌, ◌-◌, ◌*◌, ◌/◌, ◌%◌, ◌^◌, ◌<◌, ◌≤◌, nat_lt, nat_eq, ◌&&◌, Bool, true, false, if◌then◌else◌, List, [], ◌∷◌, ◌++◌, Option, Some, None, bit_and, bit_or, lit≤, refl, ap, sym, ◌∙◌, subst, arith}
use Rattle.std.proofs.lemmas.Bool.Decides.{nat_tests}
use Rattle.std.proofs.lemmas.Nat.{and_mask, or_shifted, mod_below, pow_pos}
use Rattle.std.proofs.lemmas.Nat.Bits.{and_high_mask}
use Rattle.std.proofs.Math.Nat.{mod-eq_of_lt}
use Rattle.dream_words.specs.declared.machine.Name.{Name}
use Rattle.dream_words.specs.declared.machine.Name.TheVariants as name
use Rattle.dream_words.specs.declared.machine.Regs.{Regs}
use Rattle.dream_words.specs.Memory.{Mem as Memory, with_byte, store, bytes_of}
use Rattle.dream_words.specs.Registers.{reg_of, with_reg}
use Rattle.dream_words.specs.Words.{low_part}
use Rattle.run_parts.specs.World.{Names, World, with_name, regs_in}
use Rattle.c_syntax.specs.declared.syntax.CBin.TheVariants as op
use Rattle.c_syntax.specs.declared.syntax.CExpr.{CExpr}
use Rattle.c_syntax.specs.Value.{word_of, both}
use Rattle.c_syntax.specs.Words.{bin_of}
use Rattle.c_words.specs.Built.{num, bin}
use Rattle.c_words.proofs.Layers.{word_layer}
use Rattle.micro_ir.specs.declared.flow.Stmt.{Stmt}
use Rattle.micro_ir.specs.declared.flow.Stmt.TheVariants as stmt
use Rattle.x86_inst.specs.declared.Size.{Size}
use Rattle.x86_inst.specs.declared.Size.TheVariants as size
use Rattle.x86_inst.specs.declared.Operand.{Operand}
use Rattle.x86_inst.specs.declared.Operand.TheVariants as o
use Rattle.x86_model.specs.declared.effect.Step.{Step}
use Rattle.x86_model.specs.declared.effect.Effect.{Effect}
use Rattle.x86_model.specs.declared.effect.Stored.{Stored}
use Rattle.x86_model.specs.Arithmetic.{minus_of}
use Rattle.x86_model.specs.Operands.{bits_of, width_of, part_of, with_low, with_second, with_part, address_of}
use Rattle.x86_model.specs.Effects.{put, push}
use Rattle.x86_model.specs.Leads.{first_of, stored, refused_word}
use Rattle.lift_parts.specs.Parts.{reg, set_part, with_low_word, with_second_word, address_word, writes, pushes}
use Rattle.lift_parts.specs.Shown.{AreNames, Shows, Runs, RunsTo}
use Rattle.lift_parts.proofs.Chains.{none_run, runs_allowed, runs_by, runs_to_append, set_runs, set_runs_to, store_runs}
use Rattle.lift_parts.proofs.Values.{not_equal, reg_is, reg_fits, address_is, low_again as low_part_again}

-- ---- numbers

-- only the low bytes of a word are stored
pub store_low : (m : Memory) (at : ℕ) (size : Size) (x y : ℕ) → low_part (bits_of size) x ≡ low_part (bits_of size) y
    → store m at (bytes_of (width_of size)) x ≡ store m at (bytes_of (width_of size)) y
store_low m at size.B x y h = ap (λ b. with_byte m (at % 2 ^ 32) b) h
store_low m at size.H x y h =
    let p : x % 256 ≡ y % 256 = omega arith in
    let q : x / 256 % 256 ≡ y / 256 % 256 = omega arith in
    ap (λ b. with_byte (with_byte m (at % 2 ^ 32) b) ((at + 1) % 2 ^ 32) (x / 256 % 256)) p
    ∙ ap (λ b. with_byte (with_byte m (at % 2 ^ 32) (y % 256)) ((at + 1) % 2 ^ 32) b) q
store_low m at size.W x y h =
    let p : x % 256 ≡ y % 256 = omega arith in
    let q : x / 256 % 256 ≡ y / 256 % 256 = omega arith in
    let r : x / 256 / 256 % 256 ≡ y / 256 / 256 % 256 = omega arith in
    let t : x / 256 / 256 / 256 % 256 ≡ y / 256 / 256 / 256 % 256 = omega arith in
    ap (λ b. with_byte (with_byte (with_byte (with_byte m (at % 2 ^ 32) b) ((at + 1) % 2 ^ 32) (x / 256 % 256)) ((at + 1 + 1) % 2 ^ 32) (x / 256 / 256 % 256)) ((at + 1 + 1 + 1) % 2 ^ 32) (x / 256 / 256 / 256 % 256)) p
    ∙ ap (λ b. with_byte (with_byte (with_byte (with_byte m (at % 2 ^ 32) (y % 256)) ((at + 1) % 2 ^ 32) b) ((at + 1 + 1) % 2 ^ 32) (x / 256 / 256 % 256)) ((at + 1 + 1 + 1) % 2 ^ 32) (x / 256 / 256 / 256 % 256)) q
    ∙ ap (λ b. with_byte (with_byte (with_byte (with_byte m (at % 2 ^ 32) (y % 256)) ((at + 1) % 2 ^ 32) (y / 256 % 256)) ((at + 1 + 1) % 2 ^ 32) b) ((at + 1 + 1 + 1) % 2 ^ 32) (x / 256 / 256 / 256 % 256)) r
    ∙ ap (λ b. with_byte (with_byte (with_byte (with_byte m (at % 2 ^ 32) (y % 256)) ((at + 1) % 2 ^ 32) (y / 256 % 256)) ((at + 1 + 1) % 2 ^ 32) (y / 256 / 256 % 256)) ((at + 1 + 1 + 1) % 2 ^ 32) b) t

-- masks that put bytes together
low_byte_is : (old v : ℕ) → old < 2 ^ 32 → bit_or (bit_and old 0xffff_ff00) (bit_and v 0xff) ≡ with_low 8 old v
low_byte_is old v h =
    ap (λ n. bit_or n (bit_and v 0xff)) (and_high_mask 32 8 (lit≤ tt) old h)
    ∙ ap (λ n. bit_or (old / 2 ^ 8 * 2 ^ 8) n) (and_mask v 8)
    ∙ or_shifted (old / 2 ^ 8) 8 (v % 2 ^ 8) (mod_below v (2 ^ 8) (pow_pos 8))

low_half_is : (old v : ℕ) → old < 2 ^ 32 → bit_or (bit_and old 0xffff_0000) (bit_and v 0xffff) ≡ with_low 16 old v
low_half_is old v h =
    ap (λ n. bit_or n (bit_and v 0xffff)) (and_high_mask 32 16 (lit≤ tt) old h)
    ∙ ap (λ n. bit_or (old / 2 ^ 16 * 2 ^ 16) n) (and_mask v 16)
    ∙ or_shifted (old / 2 ^ 16) 16 (v % 2 ^ 16) (mod_below v (2 ^ 16) (pow_pos 16))

second_byte_is : (old v : ℕ) → old < 2 ^ 32 → bit_or (bit_and old 0xffff_0000) (bit_or (bit_and v 0xff * 2 ^ 8 % 2 ^ 32) (bit_and old 0xff)) ≡ with_second old v
second_byte_is old v h =
    let a : v % 2 ^ 8 < 2 ^ 8 = mod_below v (2 ^ 8) (pow_pos 8) in
    let b : old % 2 ^ 8 < 2 ^ 8 = mod_below old (2 ^ 8) (pow_pos 8) in
    let m : v % 2 ^ 8 * 2 ^ 8 % 2 ^ 32 ≡ v % 2 ^ 8 * 2 ^ 8 = omega arith in
    let i : v % 2 ^ 8 * 2 ^ 8 + old % 2 ^ 8 < 2 ^ 16 = omega arith in
    ap (λ n. bit_or n (bit_or (bit_and v 0xff * 2 ^ 8 % 2 ^ 32) (bit_and old 0xff))) (and_high_mask 32 16 (lit≤ tt) old h)
    ∙ ap (λ n. bit_or (old / 2 ^ 16 * 2 ^ 16) (bit_or (n * 2 ^ 8 % 2 ^ 32) (bit_and old 0xff))) (and_mask v 8)
    ∙ ap (λ n. bit_or (old / 2 ^ 16 * 2 ^ 16) (bit_or n (bit_and old 0xff))) m
    ∙ ap (λ n. bit_or (old / 2 ^ 16 * 2 ^ 16) (bit_or (v % 2 ^ 8 * 2 ^ 8) n)) (and_mask old 8)
    ∙ ap (λ n. bit_or (old / 2 ^ 16 * 2 ^ 16) n) (or_shifted (v % 2 ^ 8) 8 (old % 2 ^ 8) b)
    ∙ or_shifted (old / 2 ^ 16) 16 (v % 2 ^ 8 * 2 ^ 8 + old % 2 ^ 8) i

low_byte_fits : (old v : ℕ) → old < 2 ^ 32 → with_low 8 old v < 2 ^ 32
low_byte_fits old v h = omega arith

low_half_fits : (old v : ℕ) → old < 2 ^ 32 → with_low 16 old v < 2 ^ 32
low_half_fits old v h = omega arith

second_byte_fits : (old v : ℕ) → old < 2 ^ 32 → with_second old v < 2 ^ 32
second_byte_fits old v h = omega arith

-- ---- a register is set

-- what is set among the registers of names
set_past : (v : Names) (n x : ℕ) → 8 ≤ n → regs_in (with_name v (name.Reg n) x) ≡ regs_in v
set_past v n x h =
    simp (other 0 n (omega arith), other 1 n (omega arith), other 2 n (omega arith), other 3 n (omega arith), other 4 n (omega arith), other 5 n (omega arith), other 6 n (omega arith), other 7 n (omega arith)) refl
  where
    other : (k n : ℕ) → k < n → nat_eq k n ≡ false
    other k n h = grind (arith, nat_tests)

pub no_reg_set : (r : Regs) (n x : ℕ) → 8 ≤ n → with_reg r n x ≡ r
no_reg_set r n x h =
    simp (not_equal n 0 (omega arith), not_equal n 1 (omega arith), not_equal n 2 (omega arith), not_equal n 3 (omega arith), not_equal n 4 (omega arith), not_equal n 5 (omega arith), not_equal n 6 (omega arith), not_equal n 7 (omega arith)) refl

set_past_too : (v : Names) (n x : ℕ) → 8 ≤ n → regs_in (with_name v (name.Reg n) x) ≡ with_reg (regs_in v) n x
set_past_too v n x h = set_past v n x h ∙ sym (no_reg_set (regs_in v) n x h)

pub reg_set : (v : Names) (n x : ℕ) → regs_in (with_name v (name.Reg n) x) ≡ with_reg (regs_in v) n x
reg_set v zero x = refl
reg_set v (suc zero) x = refl
reg_set v (suc (suc zero)) x = refl
reg_set v (suc (suc (suc zero))) x = refl
reg_set v (suc (suc (suc (suc zero)))) x = refl
reg_set v (suc (suc (suc (suc (suc zero))))) x = refl
reg_set v (suc (suc (suc (suc (suc (suc zero)))))) x = refl
reg_set v (suc (suc (suc (suc (suc (suc (suc zero))))))) x = refl
reg_set v (suc (suc (suc (suc (suc (suc (suc (suc k)))))))) x = set_past_too v (suc (suc (suc (suc (suc (suc (suc (suc k)))))))) x (omega arith)

-- a register that is set to what it is
pub reg_again : (r : Regs) (n : ℕ) → with_reg r n (reg_of r n) ≡ r
reg_again r zero = refl
reg_again r (suc zero) = refl
reg_again r (suc (suc zero)) = refl
reg_again r (suc (suc (suc zero))) = refl
reg_again r (suc (suc (suc (suc zero)))) = refl
reg_again r (suc (suc (suc (suc (suc zero))))) = refl
reg_again r (suc (suc (suc (suc (suc (suc zero)))))) = refl
reg_again r (suc (suc (suc (suc (suc (suc (suc zero))))))) = refl
reg_again r (suc (suc (suc (suc (suc (suc (suc (suc k)))))))) = past r (suc (suc (suc (suc (suc (suc (suc (suc k)))))))) (omega arith)
  where
    past : (r : Regs) (n : ℕ) → 8 ≤ n → with_reg r n (reg_of r n) ≡ r
    past r n h = no_reg_set r n (reg_of r n) h

-- a register that is set to its own part stays
again_by : (b : Bool) (r : Regs) (n m : ℕ) → (if b then with_reg r n (with_low 8 (reg_of r n) (if b then reg_of r n % 2 ^ 8 else reg_of r m / 2 ^ 8 % 2 ^ 8))
    else with_reg r m (with_second (reg_of r m) (if b then reg_of r n % 2 ^ 8 else reg_of r m / 2 ^ 8 % 2 ^ 8))) ≡ r
again_by true r n m = ap (with_reg r n) (low_again (reg_of r n)) ∙ reg_again r n
  where
    low_again : (x : ℕ) → with_low 8 x (x % 2 ^ 8) ≡ x
    low_again x = omega arith
again_by false r n m = ap (with_reg r m) (second_again (reg_of r m)) ∙ reg_again r m
  where
    second_again : (x : ℕ) → with_second x (x / 2 ^ 8 % 2 ^ 8) ≡ x
    second_again x = omega arith

pub part_again : (size : Size) (v : Names) → AreNames v → (n : ℕ) → with_part size (regs_in v) n (part_of size (regs_in v) n) ≡ regs_in v
part_again size.B v h n = again_by (nat_lt n 4) (regs_in v) n (n - 4)
part_again size.H v h n = ap (with_reg (regs_in v) n) (low_again (reg_of (regs_in v) n)) ∙ reg_again (regs_in v) n
  where
    low_again : (x : ℕ) → with_low 16 x (x % 2 ^ 16) ≡ x
    low_again x = omega arith
part_again size.W v h n = ap (with_reg (regs_in v) n) (mod-eq_of_lt (reg_fits v h n)) ∙ reg_again (regs_in v) n

-- ---- names that are set are names

chosen_word : (b : Bool) (x y : ℕ) → x < 2 ^ 32 → y < 2 ^ 32 → (if b then x else y) < 2 ^ 32
chosen_word true x y p q = p
chosen_word false x y p q = q

words_set : (v : Names) (n : Name) (x : ℕ) → ((k : Name) → v k < 2 ^ 32) → x < 2 ^ 32 → (k : Name) → with_name v n x k < 2 ^ 32
words_set v (name.Reg n) x h l (name.Reg k) = chosen_word _ _ _ l (h (name.Reg k))
words_set v (name.Flag n) x h l (name.Flag k) = chosen_word _ _ _ l (h (name.Flag k))
words_set v name.Fs x h l name.Fs = l
words_set v name.Gs x h l name.Gs = l
words_set v (name.T n) x h l (name.T k) = chosen_word _ _ _ l (h (name.T k))
words_set v (name.B n) x h l (name.B k) = chosen_word _ _ _ l (h (name.B k))
words_set v (name.S n) x h l (name.S k) = chosen_word _ _ _ l (h (name.S k))
words_set v n x h l k = h k

kept_past : (k n x y : ℕ) → 8 ≤ k → (if nat_eq k n && nat_lt n 8 then x else y) ≡ y
kept_past k n x y h = ap (λ b. if b then x else y) (neither k n h)
  where
    neither : (k n : ℕ) → 8 ≤ k → (nat_eq k n && nat_lt n 8) ≡ false
    neither k n h = grind (arith, nat_tests)

no_register_set : (v : Names) (n : Name) (x : ℕ) → ((k : ℕ) → 8 ≤ k → v (name.Reg k) ≡ 0) → (k : ℕ) → 8 ≤ k → with_name v n x (name.Reg k) ≡ 0
no_register_set v (name.Reg n) x h k l = kept_past k n x (v (name.Reg k)) l ∙ h k l
no_register_set v (name.Flag n) x h k l = h k l
no_register_set v name.Fs x h k l = h k l
no_register_set v name.Gs x h k l = h k l
no_register_set v (name.T n) x h k l = h k l
no_register_set v (name.B n) x h k l = h k l
no_register_set v (name.S n) x h k l = h k l

pub names_set : (v : Names) (n : Name) (x : ℕ) → AreNames v → x < 2 ^ 32 → AreNames (with_name v n x)
names_set v n x h k = record { words = words_set v n x h.words k; no_register = no_register_set v n x h.no_register }

-- names that are no registers and no bases don't change what is shown
pub shows_temp : (a : Step) (v : Names) (n x : ℕ) → Shows a v → Shows a (with_name v (name.T n) x)
shows_temp a v n x s = record { regs = s.regs; fs = s.fs; gs = s.gs }

pub shows_flag : (a : Step) (v : Names) (n x : ℕ) → Shows a v → Shows a (with_name v (name.Flag n) x)
shows_flag a v n x s = record { regs = s.regs; fs = s.fs; gs = s.gs }

-- ---- statements that set a register

-- Registers are such, and all else is as before.
pub record Sets (r : Regs) (w u : World) : Type 0 where
  pub regs : regs_in u.names ≡ r
  pub names : AreNames u.names
  pub flags : (n : ℕ) → u.names (name.Flag n) ≡ w.names (name.Flag n)
  pub temps : (n : ℕ) → u.names (name.T n) ≡ w.names (name.T n)
  pub fs : u.names name.Fs ≡ w.names name.Fs
  pub gs : u.names name.Gs ≡ w.names name.Gs
  pub mem : u.mem ≡ w.mem
  pub pages : u.pages ≡ w.pages
  pub left : u.left ≡ w.left
  pub calls : u.calls ≡ w.calls

-- a statement leads to such registers
abbrev pub LeadsTo : Stmt → World → Regs → Type 0
LeadsTo s w r = (u : World) × Runs (s ∷ []) w u × Sets r w u

-- a whole register is set
pub whole_runs : (w : World) → AreNames w.names → (n : ℕ) (e : CExpr) (x : ℕ) → word_of e w.names ≡ Some x → x < 2 ^ 32 → LeadsTo (stmt.Set (name.Reg n) e) w (with_reg (regs_in w.names) n x)
whole_runs w h n e x k l = (
  record w { names = with_name w.names (name.Reg n) x },
  set_runs (name.Reg n) e x k (none_run _),
  record {
    regs = reg_set w.names n x;
    names = names_set w.names (name.Reg n) x h l;
    flags = λ k. refl;
    temps = λ k. refl;
    fs = refl;
    gs = refl;
    mem = refl;
    pages = refl;
    left = refl;
    calls = refl;
  },
)

-- the words that set the low bits and the second byte of a register
low_word_is : (keep mask : ℕ) (v : Names) → AreNames v → (n : ℕ) (e : CExpr) (x : ℕ) → word_of e v ≡ Some x
    → word_of (with_low_word keep mask n e) v ≡ Some (bit_or (bit_and (reg_of (regs_in v) n) keep) (bit_and x mask))
low_word_is keep mask v h n e x k =
    simp word_layer (
    ap (λ o. both (bin_of op.Or) (Some (bit_and (v (name.Reg n)) keep)) (both (bin_of op.And) o (Some mask))) k
    ∙ ap (λ r. Some (bit_or (bit_and r keep) (bit_and x mask))) (reg_is v h n))

second_word_is : (v : Names) → AreNames v → (n : ℕ) (e : CExpr) (x : ℕ) → word_of e v ≡ Some x
    → word_of (with_second_word n e) v ≡ Some (bit_or (bit_and (reg_of (regs_in v) n) 0xffff_0000) (bit_or (bit_and x 0xff * 2 ^ 8 % 2 ^ 32) (bit_and (reg_of (regs_in v) n) 0xff)))
second_word_is v h n e x k =
    simp word_layer (
    ap (λ o. both (bin_of op.Or) (Some (bit_and (v (name.Reg n)) 0xffff_0000))
    (both (bin_of op.Or) (both (bin_of op.Shl) (both (bin_of op.And) o (Some 0xff)) (Some 8)) (Some (bit_and (v (name.Reg n)) 0xff)))) k
    ∙ ap (λ r. Some (bit_or (bit_and r 0xffff_0000) (bit_or (bit_and x 0xff * 2 ^ 8 % 2 ^ 32) (bit_and r 0xff)))) (reg_is v h n))

-- a register is set to the word that the proof says it is
set_to : (w : World) (n x y : ℕ) (s : Stmt) → LeadsTo s w (with_reg (regs_in w.names) n x) → x ≡ y → LeadsTo s w (with_reg (regs_in w.names) n y)
set_to w n x y s r e = subst (λ x. LeadsTo s w (with_reg (regs_in w.names) n x)) e r

low_byte_runs : (w : World) → AreNames w.names → (n : ℕ) (e : CExpr) (word value : ℕ) → word_of e w.names ≡ Some word → word % 2 ^ 8 ≡ value % 2 ^ 8
    → LeadsTo (stmt.Set (name.Reg n) (with_low_word 0xffffff00 0xff n e)) w (with_reg (regs_in w.names) n (with_low 8 (reg_of (regs_in w.names) n) value))
low_byte_runs w h n e word value k q =
    let old : ℕ = reg_of (regs_in w.names) n in
    set_to w n _ _ _
    (whole_runs w h n _ _ (low_word_is 0xffffff00 0xff w.names h n e word k ∙ ap Some (low_byte_is old word (reg_fits w.names h n))) (low_byte_fits old word (reg_fits w.names h n)))
    (ap (λ b. old / 2 ^ 8 * 2 ^ 8 + b) q)

low_half_runs : (w : World) → AreNames w.names → (n : ℕ) (e : CExpr) (word value : ℕ) → word_of e w.names ≡ Some word → word % 2 ^ 16 ≡ value % 2 ^ 16
    → LeadsTo (stmt.Set (name.Reg n) (with_low_word 0xffff0000 0xffff n e)) w (with_reg (regs_in w.names) n (with_low 16 (reg_of (regs_in w.names) n) value))
low_half_runs w h n e word value k q =
    let old : ℕ = reg_of (regs_in w.names) n in
    set_to w n _ _ _
    (whole_runs w h n _ _ (low_word_is 0xffff0000 0xffff w.names h n e word k ∙ ap Some (low_half_is old word (reg_fits w.names h n))) (low_half_fits old word (reg_fits w.names h n)))
    (ap (λ b. old / 2 ^ 16 * 2 ^ 16 + b) q)

second_byte_runs : (w : World) → AreNames w.names → (n : ℕ) (e : CExpr) (word value : ℕ) → word_of e w.names ≡ Some word → word % 2 ^ 8 ≡ value % 2 ^ 8
    → LeadsTo (stmt.Set (name.Reg n) (with_second_word n e)) w (with_reg (regs_in w.names) n (with_second (reg_of (regs_in w.names) n) value))
second_byte_runs w h n e word value k q =
    let old : ℕ = reg_of (regs_in w.names) n in
    set_to w n _ _ _
    (whole_runs w h n _ _ (second_word_is w.names h n e word k ∙ ap Some (second_byte_is old word (reg_fits w.names h n))) (second_byte_fits old word (reg_fits w.names h n)))
    (ap (λ b. old / 2 ^ 16 * 2 ^ 16 + (b * 2 ^ 8 + old % 2 ^ 8)) q)

leads_by : (b : Bool) (w : World) (s t : Stmt) (r q : Regs) → LeadsTo s w r → LeadsTo t w q → LeadsTo (if b then s else t) w (if b then r else q)
leads_by true w s t r q x y = x
leads_by false w s t r q x y = y

-- a part of a register is set
pub part_runs : (size : Size) (n : ℕ) (x : CExpr) (word value : ℕ) (w : World) → AreNames w.names → word_of x w.names ≡ Some word → word < 2 ^ 32
    → low_part (bits_of size) word ≡ low_part (bits_of size) value → LeadsTo (set_part size n x) w (with_part size (regs_in w.names) n value)
part_runs size.B n x word value w h k l q = leads_by (nat_lt n 4) w _ _ _ _ (low_byte_runs w h n x word value k q) (second_byte_runs w h (n - 4) x word value k q)
part_runs size.H n x word value w h k l q = low_half_runs w h n x word value k q
part_runs size.W n x word value w h k l q = set_to w n _ _ _ (whole_runs w h n x word k l) (sym (mod-eq_of_lt l) ∙ q)

-- ---- writes

-- What is known after a write of x to an operand, where the value v was to be put there: registers and memory are those of
-- the effect e with that value put; all else is as before.
pub record Written (size : Size) (o : Operand) (value : ℕ) (a : Step) (e : Effect) (w u : World) : Type 0 where
  pub regs : regs_in u.names ≡ (put size o value a e).regs
  pub mem : u.mem ≡ stored w.mem (put size o value a e).store
  pub pages : u.pages ≡ w.pages
  pub names : AreNames u.names
  pub flags : (n : ℕ) → u.names (name.Flag n) ≡ w.names (name.Flag n)
  pub temps : (n : ℕ) → u.names (name.T n) ≡ w.names (name.T n)
  pub fs : u.names name.Fs ≡ w.names name.Fs
  pub gs : u.names name.Gs ≡ w.names name.Gs
  pub left : u.left ≡ w.left
  pub calls : u.calls ≡ w.calls

-- an effect that stores nothing leaves memory as it is
stores_none : (m : Memory) (o : Option Stored) → o ≡ None → m ≡ stored m o
stores_none m o e = sym (ap (stored m) e)

-- a write to a register
write_reg : (size : Size) (n value : ℕ) (a : Step) (e : Effect) (w : World) (s : Stmt) → regs_in w.names ≡ e.regs → e.store ≡ None
    → LeadsTo s w (with_part size (regs_in w.names) n value)
    → (u : World) × RunsTo (refused_word w.pages.write e.store) (s ∷ []) w u × Written size (o.Reg n) value a e w u
write_reg size n value a e w s r m p = let (u, runs, sets) = p in (
  u,
  runs_by None (refused_word w.pages.write e.store) (sym (ap (refused_word w.pages.write) m)) (runs_allowed runs),
  record {
    regs = sets.regs ∙ ap (λ r. with_part size r n value) r;
    mem = sets.mem ∙ stores_none w.mem e.store m;
    pages = sets.pages;
    names = sets.names;
    flags = sets.flags;
    temps = sets.temps;
    fs = sets.fs;
    gs = sets.gs;
    left = sets.left;
    calls = sets.calls;
  },
)

-- A write leads there, where the world's registers are those of the effect so far, which stores nothing yet; unless the
-- write is refused.
pub writes_run : (size : Size) (o : Operand) (x : CExpr) (word value : ℕ) (a : Step) (e : Effect) (w : World)
    → AreNames w.names → Shows a w.names → regs_in w.names ≡ e.regs → e.store ≡ None
    → word_of x w.names ≡ Some word → word < 2 ^ 32 → low_part (bits_of size) word ≡ low_part (bits_of size) value
    → (u : World) × RunsTo (refused_word w.pages.write (put size o value a e).store) (writes size o x) w u × Written size o value a e w u
writes_run size (o.Reg n) x word value a e w h s r m k l q = write_reg size n value a e w _ r m (part_runs size n x word value w h k l q)
writes_run size (o.Mem p) x word value a e w h s r m k l q = (
  record w { mem = store w.mem (address_of p a.regs a.fs a.gs) (bytes_of (width_of size)) word },
  store_runs (width_of size) (address_word p) x (address_of p a.regs a.fs a.gs) word (address_is a w.names h s p) k (none_run _),
  record {
    regs = r;
    mem = store_low w.mem (address_of p a.regs a.fs a.gs) size word (low_part (bits_of size) value) (q ∙ sym (low_part_again size value));
    pages = refl;
    names = h;
    flags = λ n. refl;
    temps = λ n. refl;
    fs = refl;
    gs = refl;
    left = refl;
    calls = refl;
  },
)
writes_run size (o.Imm i) x word value a e w h s r m k l q = (
  w,
  runs_by None (refused_word w.pages.write e.store) (sym (ap (refused_word w.pages.write) m)) (runs_allowed (none_run w)),
  record {
    regs = r;
    mem = stores_none w.mem e.store m;
    pages = refl;
    names = h;
    flags = λ n. refl;
    temps = λ n. refl;
    fs = refl;
    gs = refl;
    left = refl;
    calls = refl;
  },
)

-- a write after statements that keep memory, pages and calls
pub write_after : {w u t : World} (bad : Option ℕ) (o : Option Stored) (before stmts : List Stmt) → u.mem ≡ w.mem → u.pages ≡ w.pages → u.calls ≡ w.calls → RunsTo bad before w u
    → RunsTo (refused_word u.pages.write o) stmts u t → RunsTo (first_of bad (refused_word w.pages.write o)) (before ++ stmts) w t
write_after {w} {u} {t} bad o before stmts m p c r s =
    runs_to_append bad (refused_word w.pages.write o) before stmts m c r
    (runs_by (refused_word u.pages.write o) (refused_word w.pages.write o) (ap (λ p. refused_word p.write o) p) s)

-- ---- the stack

-- What is known after a value was pushed besides the effect e.
pub record Pushed (value : ℕ) (a : Step) (e : Effect) (w u : World) : Type 0 where
  pub regs : regs_in u.names ≡ (push value a e).regs
  pub mem : u.mem ≡ stored w.mem (push value a e).store
  pub pages : u.pages ≡ w.pages
  pub names : AreNames u.names
  pub flags : (n : ℕ) → u.names (name.Flag n) ≡ w.names (name.Flag n)
  pub temps : (n : ℕ) → u.names (name.T n) ≡ w.names (name.T n)
  pub fs : u.names name.Fs ≡ w.names name.Fs
  pub gs : u.names name.Gs ≡ w.names name.Gs
  pub left : u.left ≡ w.left
  pub calls : u.calls ≡ w.calls

-- ESP less 4
esp_less : (a : Step) (v : Names) → AreNames v → Shows a v → word_of (bin op.Sub (reg 4) (num 4)) v ≡ Some (minus_of 32 a.regs.esp 4)
esp_less a v h s = simp word_layer (ap (λ x. Some (low_part 32 (x + 2 ^ 32 - 4))) (ap (λ r. r.esp) s.regs) ∙ ap Some (less a.regs.esp (subst (λ r. r.esp < 2 ^ 32) s.regs (h.words (name.Reg 4)))))
  where
    less : (x : ℕ) → x < 2 ^ 32 → low_part 32 (x + 2 ^ 32 - 4) ≡ minus_of 32 x 4
    less x h = omega arith

-- A push leads there, unless it is refused. The word is evaluated after ESP fell.
pub pushes_run : (x : CExpr) (word value : ℕ) (a : Step) (e : Effect) (w : World)
    → AreNames w.names → Shows a w.names → regs_in w.names ≡ e.regs
    → word_of x (with_name w.names (name.Reg 4) (minus_of 32 a.regs.esp 4)) ≡ Some word → low_part 32 word ≡ low_part 32 value
    → (u : World) × RunsTo (refused_word w.pages.write (push value a e).store) (pushes x) w u × Pushed value a e w u
pushes_run x word value a e w h s r k q =
    let sp : ℕ = minus_of 32 a.regs.esp 4 in
    let below : sp < 2 ^ 32 = mod_below (low_part 32 a.regs.esp + 2 ^ 32 - low_part 32 4) (2 ^ 32) (pow_pos 32) in
    let v : Names = with_name w.names (name.Reg 4) sp in (
      record w { names = v; mem = store w.mem sp (bytes_of (width_of size.W)) word },
      set_runs_to _ (name.Reg 4) _ sp (esp_less a w.names h s) (store_runs (width_of size.W) (reg 4) x sp word (simp word_layer refl) k (none_run _)),
      record {
        regs = reg_set w.names 4 sp ∙ ap (λ r. with_reg r 4 sp) r;
        mem = store_low w.mem sp size.W word (low_part 32 value) (q ∙ sym (low_part_again size.W value));
        pages = refl;
        names = names_set w.names (name.Reg 4) sp h below;
        flags = λ n. refl;
        temps = λ n. refl;
        fs = refl;
        gs = refl;
        left = refl;
        calls = refl;
      },
    )
