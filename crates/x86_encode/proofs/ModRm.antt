-- The ModRM byte of the least bytes of an operand.
use Rattle.std.proofs.Common.{◌≡◌, ℕ, zero, suc, ◌+◌, ◌*◌, ◌/◌, ◌%◌, ◌^◌, ◌<◌, ◌≤◌, Bool, true, false, cond, List, [], ◌∷◌, Option, Some, None, refl, sym, ap, subst, ◌∙◌, inl, inr, arith}
use Rattle.std.specs.Prelude.{◌==◌, ◌||◌, nat_le, MatchBool}
use Rattle.std.proofs.lemmas.Bool.{cases_lt, ltb-true, lt-ltb, leb-true, le-leb, eqb-true, eq-eqb}
use Rattle.x86_inst.specs.declared.Seg.{Seg}
use Rattle.x86_inst.specs.declared.Seg.TheVariants as seg
use Rattle.x86_inst.specs.declared.Mem.{Mem}
use Rattle.x86_inst.specs.declared.Operand.{Operand}
use Rattle.x86_inst.specs.declared.Operand.TheVariants as operand
use Rattle.x86_inst.specs.Rows.{takes}
use Rattle.x86_inst.specs.Table.{mem_of}
use Rattle.x86_inst.specs.Spelling.{IsRm, IsSib, IsDisplaced, IsRegister}
use Rattle.x86_decode.specs.declared.rows.Mode.{Mode}
use Rattle.x86_decode.specs.declared.rows.Mode.TheVariants.{AnyModRm, MemoryOnly, RegisterOnly, Digit, DigitFrom, ShiftDigit, Exactly}
use Rattle.x86_decode.specs.View.{mode_of}
use Rattle.x86_encode.specs.Bytes.{four_bytes, least_mod, scale_bits, is_scale, is_rm}
use Rattle.x86_encode.specs.Parts.{named_segment}
use Rattle.x86_encode.specs.Least.{AtMost}
use Rattle.x86_encode.proofs.Order.{AtMost-refl, NoGreater-refl}
use Rattle.x86_encode.proofs.Operands.{disp_bytes, least_mem, least_rm}
use Rattle.x86_encode.proofs.Spelled.{Shape, register, direct, based, scaled, indexed, LeastSpells}
use Rattle.x86_encode.proofs.Columns.{RegTaken, reg_of, good_mode}
use Rattle.x86_encode.proofs.Flags.{true_and}

-- ---- an operand's kind

-- below mod 3 the operand is memory
pub memory_of : (s : Seg) (md rm : ℕ) (l : List ℕ) (o : Operand) → md < 3 → IsRm s md rm l o → (x : Mem) × (o ≡ operand.Mem x)
memory_of s md rm l o lt h = at (md == 3) (rm == 4) refl h
  where
    sib : (l : List ℕ) → IsSib s md l o → (x : Mem) × (o ≡ operand.Mem x)
    sib [] h = absurd h
    sib (b ∷ l) h = (_, h.1)

    at : (u v : Bool) → (md == 3) ≡ u → MatchBool u (IsRegister rm l o) (MatchBool v (IsSib s md l o) (IsDisplaced s md rm l o)) → (x : Mem) × (o ≡ operand.Mem x)
    at true v e h = absurd (omega (arith, eqb-true md 3 e))
    at false true e h = sib l h
    at false false e h = (_, h.1)

-- and at mod 3 it is a register
pub register_at : (s : Seg) (md rm : ℕ) (l : List ℕ) (o : Operand) → md ≡ 3 → IsRm s md rm l o → o ≡ operand.Reg rm
register_at s md rm l o e h = (subst (λ b. MatchBool b (IsRegister rm l o) (MatchBool (rm == 4) (IsSib s md l o) (IsDisplaced s md rm l o))) (eq-eqb md 3 e) h).1

-- the least bytes of memory have a mod below 3
memory_mod : (s : Seg) (reg : ℕ) (o : Operand) (x : Mem) (a : LeastSpells s reg o) → o ≡ operand.Mem x → a.md < 3
memory_mod s reg o x a e =
    elim (cases_lt a.md 3) [
      | inl lt ↦ lt
      | inr le ↦
          let k : a.md ≡ 3 = omega (arith, a.md_lt) in
          let r = register_at s a.md a.rm a.rest o k a.spells in
          let z : operand.Mem x ≡ operand.Reg a.rm = sym e ∙ r in
          absurd cc
    ]

register_mod : (s : Seg) (reg : ℕ) (o : Operand) (r : ℕ) (a : LeastSpells s reg o) → o ≡ operand.Reg r → a.md ≡ 3
register_mod s reg o r a e =
    elim (cases_lt a.md 3) [
      | inr le ↦ omega (arith, a.md_lt)
      | inl lt ↦
          let x = memory_of s a.md a.rm a.rest o lt a.spells in
          let z : operand.Reg r ≡ operand.Mem x.0 = sym e ∙ x.1 in
          absurd cc
    ]

-- ---- the mode takes the new byte

abbrev pub byte : (md reg rm : ℕ) → ℕ
byte md reg rm = 64 * md + 8 * reg + rm

-- the operand of a mode that is for memory or for a register alone
abbrev pub SuitsMode : Mode → Operand → Type 0
SuitsMode AnyModRm o = Unit {0}
SuitsMode MemoryOnly o = (x : Mem) × (o ≡ operand.Mem x)
SuitsMode RegisterOnly o = (r : ℕ) × (o ≡ operand.Reg r)
SuitsMode (Digit d) o = Unit {0}
SuitsMode (DigitFrom d) o = Unit {0}
SuitsMode ShiftDigit o = Unit {0}
SuitsMode (Exactly b) o = Unit {0}

pub suits_mode : (k : Mode) (s : Seg) (m : ℕ) (l : List ℕ) (o : Operand) → m < 256 → takes (mode_of k) m ≡ true → IsRm s (m / 64) (m % 8) l o → SuitsMode k o
suits_mode AnyModRm s m l o lt t h = tt
suits_mode MemoryOnly s m l o lt t h = memory_of s (m / 64) (m % 8) l o (let k : m < 192 = ltb-true m 192 t in omega arith) h
suits_mode RegisterOnly s m l o lt t h = (m % 8, register_at s (m / 64) (m % 8) l o (let k : 192 ≤ m = leb-true 192 m t in omega arith) h)
suits_mode (Digit d) s m l o lt t h = tt
suits_mode (DigitFrom d) s m l o lt t h = tt
suits_mode ShiftDigit s m l o lt t h = tt
suits_mode (Exactly b) s m l o lt t h = tt

-- a mode that takes m takes the byte with the same reg field, or with its digit
pub takes_again : (k : Mode) (lea set : Bool) (s : Seg) (m : ℕ) (o : Operand) → good_mode lea (Some k) ≡ true → takes (mode_of k) m ≡ true → SuitsMode k o →
    (a : LeastSpells s (reg_of set k (m / 8 % 8)) o) → reg_of set k (m / 8 % 8) < 8 → takes (mode_of k) (byte a.md (reg_of set k (m / 8 % 8)) a.rm) ≡ true
takes_again AnyModRm lea set s m o g t h a lt = refl
takes_again MemoryOnly lea set s m o g t h a lt = lt-ltb _ 192 (let k : a.md < 3 = memory_mod s _ o h.0 a h.1 in omega (arith, a.rm_lt))
takes_again RegisterOnly lea set s m o g t h a lt = le-leb 192 _ (let k : a.md ≡ 3 = register_mod s _ o h.0 a h.1 in omega (arith, k))
takes_again (Digit d) lea set s m o g t h a lt = eq-eqb _ d (let e : (64 * a.md + 8 * d + a.rm) / 8 % 8 ≡ d = omega (arith, a.rm_lt) in e)
takes_again (DigitFrom d) lea set s m o g t h a lt =
    let e : (64 * a.md + 8 * (m / 8 % 8) + a.rm) / 8 % 8 ≡ m / 8 % 8 = omega (arith, a.rm_lt) in
    subst (λ z. nat_le d z ≡ true) (sym e) t
takes_again ShiftDigit lea set s m o g t h a lt =
    let e : (64 * a.md + 8 * (m / 8 % 8) + a.rm) / 8 % 8 ≡ m / 8 % 8 = omega (arith, a.rm_lt) in
    subst (λ z. (z == 0 || (z == 1 || (z == 4 || (z == 5 || z == 7)))) ≡ true) (sym e) t
takes_again (Exactly b) lea set s m o g t h a lt = absurd cc

pub reg_taken : (k : Mode) (m : ℕ) → takes (mode_of k) m ≡ true → RegTaken (Some k) (m / 8 % 8)
reg_taken AnyModRm m t = tt
reg_taken MemoryOnly m t = tt
reg_taken RegisterOnly m t = tt
reg_taken (Digit d) m t = eqb-true (m / 8 % 8) d t
reg_taken (DigitFrom d) m t = leb-true d (m / 8 % 8) t
reg_taken ShiftDigit m t = t
reg_taken (Exactly b) m t = tt

-- the new reg field is no more than the old one
pub reg_le : (set : Bool) (k : Mode) (n : ℕ) → RegTaken (Some k) n → reg_of set k n ≤ n
reg_le true AnyModRm n h = omega arith
reg_le false AnyModRm n h = omega arith
reg_le set MemoryOnly n h = omega arith
reg_le set RegisterOnly n h = omega arith
reg_le set (Digit d) n h = omega (arith, h)
reg_le set (DigitFrom d) n h = omega arith
reg_le set ShiftDigit n h = omega arith
reg_le set (Exactly b) n h = omega arith

-- ---- an operand fits ModRM and SIB

scale_is : (ss : ℕ) → ss < 4 → is_scale (2 ^ ss) ≡ true
scale_is zero h = refl
scale_is (suc zero) h = refl
scale_is (suc (suc zero)) h = refl
scale_is (suc (suc (suc zero))) h = refl
scale_is (suc (suc (suc (suc n)))) h = absurd (omega arith)

pub is_rm_of : (reg : ℕ) (s : Seg) (o : Operand) → reg < 8 → Shape s o → is_rm reg o ≡ true
is_rm_of reg s o lt h =
    let r8 = lt-ltb reg 8 lt in
    elim h [
      | register r r_lt e ↦ subst (λ z. is_rm reg z ≡ true) (sym e) (true_and _ _ r8 (lt-ltb r 8 r_lt))
      | direct disp d_lt e ↦ subst (λ z. is_rm reg z ≡ true) (sym e) (true_and _ _ r8 refl)
      | based b disp b_lt d_lt e ↦ subst (λ z. is_rm reg z ≡ true) (sym e) (true_and _ _ r8 (true_and _ _ (lt-ltb b 8 b_lt) refl))
      | scaled x ss disp x_lt n4 ss_lt d_lt e ↦ subst (λ z. is_rm reg z ≡ true) (sym e) (true_and _ _ r8 (true_and _ _ (lt-ltb x 8 x_lt) (scale_is ss ss_lt)))
      | indexed b x ss disp b_lt x_lt n4 ss_lt d_lt e ↦
          subst (λ z. is_rm reg z ≡ true) (sym e) (true_and _ _ r8 (true_and _ _ (lt-ltb b 8 b_lt) (true_and _ _ (lt-ltb x 8 x_lt) (scale_is ss ss_lt))))
    ]

-- an operand's shape in the segment that it names
pub reshape : (s : Seg) (o : Operand) → Shape s o → Shape (named_segment o) o
reshape s o h =
    elim h [
      | register r lt e ↦ register r lt e
      | direct disp lt e ↦ subst (λ z. Shape z o) (sym (ap named_segment e)) (direct disp lt e)
      | based b disp l lt e ↦ subst (λ z. Shape z o) (sym (ap named_segment e)) (based b disp l lt e)
      | scaled x ss disp l n m lt e ↦ subst (λ z. Shape z o) (sym (ap named_segment e)) (scaled x ss disp l n m lt e)
      | indexed b x ss disp k l n m lt e ↦ subst (λ z. Shape z o) (sym (ap named_segment e)) (indexed b x ss disp k l n m lt e)
    ]

-- the operand without a segment
abbrev pub bare : Operand → Operand
bare o = operand.Mem (record (mem_of o) { seg = seg.None })

pub bare_shape : (s : Seg) (o : Operand) → Shape s o → Shape seg.None (bare o)
bare_shape s o h =
    elim h [
      | register r lt e ↦ direct 0 (omega arith) (ap bare e)
      | direct disp lt e ↦ direct disp lt (ap bare e)
      | based b disp l lt e ↦ based b disp l lt (ap bare e)
      | scaled x ss disp l n m lt e ↦ scaled x ss disp l n m lt (ap bare e)
      | indexed b x ss disp k l n m lt e ↦ indexed b x ss disp k l n m lt (ap bare e)
    ]

-- a segment changes no byte of an address
pub bare_least : (reg : ℕ) (o : Operand) (x : Mem) → o ≡ operand.Mem x → least_rm reg (bare o) ≡ least_rm reg o
bare_least reg o x e = subst (λ z. least_rm reg (bare z) ≡ least_rm reg z) (sym e) refl

-- ---- a lesser reg field makes lesser bytes

head_le : (a b : ℕ) (l : List ℕ) → a ≤ b → AtMost (a ∷ l) (b ∷ l)
head_le a b l le =
    elim (cases_lt a b) [
      | inl lt ↦ inr (refl, inl lt)
      | inr ge ↦ inr (refl, inr (omega arith, NoGreater-refl l))
    ]

least_mem_le : (a b : ℕ) (base index : Option ℕ) (scale disp : ℕ) → a ≤ b → AtMost (least_mem a base index scale disp) (least_mem b base index scale disp)
least_mem_le a b None None scale disp le = head_le (8 * a + 5) (8 * b + 5) (four_bytes disp) (omega arith)
least_mem_le a b None (Some x) scale disp le = head_le (8 * a + 4) (8 * b + 4) ((64 * scale_bits scale + 8 * x + 5) ∷ four_bytes disp) (omega arith)
least_mem_le a b (Some c) None scale disp le = at (c == 4)
  where
    at : (t : Bool) →
        AtMost (cond t ((64 * least_mod c disp + 8 * a + 4) ∷ 36 ∷ disp_bytes (least_mod c disp) disp) ((64 * least_mod c disp + 8 * a + c) ∷ disp_bytes (least_mod c disp) disp))
        (cond t ((64 * least_mod c disp + 8 * b + 4) ∷ 36 ∷ disp_bytes (least_mod c disp) disp) ((64 * least_mod c disp + 8 * b + c) ∷ disp_bytes (least_mod c disp) disp))
    at true = head_le (64 * least_mod c disp + 8 * a + 4) (64 * least_mod c disp + 8 * b + 4) (36 ∷ disp_bytes (least_mod c disp) disp) (omega arith)
    at false = head_le (64 * least_mod c disp + 8 * a + c) (64 * least_mod c disp + 8 * b + c) (disp_bytes (least_mod c disp) disp) (omega arith)
least_mem_le a b (Some c) (Some x) scale disp le =
    head_le (64 * least_mod c disp + 8 * a + 4) (64 * least_mod c disp + 8 * b + 4) ((64 * scale_bits scale + 8 * x + c) ∷ disp_bytes (least_mod c disp) disp) (omega arith)

pub least_rm_le : (a b : ℕ) (o : Operand) → a ≤ b → AtMost (least_rm a o) (least_rm b o)
least_rm_le a b (operand.Reg r) le = head_le (192 + 8 * a + r) (192 + 8 * b + r) [] (omega arith)
least_rm_le a b (operand.Mem m) le = least_mem_le a b m.base m.index m.scale m.disp le
least_rm_le a b (operand.Imm n) le = AtMost-refl []
