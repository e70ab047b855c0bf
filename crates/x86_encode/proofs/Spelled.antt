-- The least ModRM, SIB and displacement spell their operand.
use Rattle.std.proofs.Common.{◌≡◌, ℕ, ◌+◌, ◌*◌, ◌/◌, ◌%◌, ◌^◌, ◌<◌, ◌≤◌, Bool, true, false, cond, ltb, List, [], ◌∷◌, length, Option, Some, None, refl, sym, ap, subst, ◌∙◌, inl, inr, arith}
use Rattle.std.specs.Prelude.{MatchBool, ◌==◌, ◌||◌, nat_lt, nat_le}
use Rattle.std.proofs.lemmas.Bool.{le-ltb, ltb-true, lt-ltb, leb-true, eqb-true}
use Rattle.std.proofs.lemmas.Bool.Decides.{eqb_tells}
use Rattle.x86_inst.specs.declared.Seg.{Seg}
use Rattle.x86_inst.specs.declared.Operand.{Operand}
use Rattle.x86_inst.specs.declared.Operand.TheVariants as operand
use Rattle.x86_inst.specs.Spelling.{AreBytes, base_of, displacement_len, displacement, mem, index_of, scale_of, IsSib, IsDisplaced, IsRegister, IsRm}
use Rattle.x86_encode.specs.Bytes.{four_bytes, fits_byte, least_mod}
use Rattle.x86_encode.proofs.Operands.{disp_bytes, least_rm, absent, present, base_kind, scale_again, false_of}

-- ---- which operands have a spelling

abbrev memory : Option ℕ → Option ℕ → ℕ → ℕ → Seg → Operand
memory base index scale disp seg = operand.Mem (record { base = base; index = index; scale = scale; disp = disp; seg = seg })

pub data Shape (seg : Seg) (o : Operand) : Type 0 where
  register : (r : ℕ) → r < 8 → o ≡ operand.Reg r → Shape seg o
  direct : (disp : ℕ) → disp < 2 ^ 32 → o ≡ memory None None 1 disp seg → Shape seg o
  based : (b disp : ℕ) → b < 8 → disp < 2 ^ 32 → o ≡ memory (Some b) None 1 disp seg → Shape seg o
  scaled : (x ss disp : ℕ) → x < 8 → (x ≡ 4 → ⊥) → ss < 4 → disp < 2 ^ 32 → o ≡ memory None (Some x) (2 ^ ss) disp seg → Shape seg o
  indexed : (b x ss disp : ℕ) → b < 8 → x < 8 → (x ≡ 4 → ⊥) → ss < 4 → disp < 2 ^ 32 → o ≡ memory (Some b) (Some x) (2 ^ ss) disp seg → Shape seg o

disp_len_cases : (md base : ℕ) → displacement_len md base ≤ 4
disp_len_cases md base = at (md == 1) (md == 2) (base == 5)
  where
    at : (u v w : Bool) → cond u 1 (cond v 4 (cond w 4 0)) ≤ 4
    at true v w = omega arith
    at false true w = omega arith
    at false false true = omega arith
    at false false false = omega arith

disp_below : (l : List ℕ) → AreBytes l → length l ≤ 4 → displacement l < 2 ^ 32
disp_below [] h le = omega arith
disp_below (a ∷ []) h le = at (nat_lt a 128)
  where
    at : (t : Bool) → cond t a (a + 4294967040) < 2 ^ 32
    at true = omega (arith, h.0)
    at false = omega (arith, h.0)
disp_below (a ∷ b ∷ []) h le = omega (arith, h.0, h.1.0)
disp_below (a ∷ b ∷ c ∷ []) h le = omega (arith, h.0, h.1.0, h.1.1.0)
disp_below (a ∷ b ∷ c ∷ d ∷ []) h le = omega (arith, h.0, h.1.0, h.1.1.0, h.1.1.1.0)
disp_below (a ∷ b ∷ c ∷ d ∷ e ∷ l) h le = absurd (omega arith)

module _ (seg : Seg) (md rm : ℕ) (rm_lt : rm < 8) where
  displaced_shape : (l : List ℕ) (o : Operand) → AreBytes l → IsDisplaced seg md rm l o → Shape seg o
  displaced_shape l o bytes h =
      let lt = disp_below l bytes (omega (arith, h.0, disp_len_cases md rm)) in
      elim (base_kind md rm) [
        | absent e f ↦
            let k : base_of md rm ≡ None = rw (e, f) refl in
            direct (displacement l) lt (h.1 ∙ ap (λ (b : Option ℕ). memory b None 1 (displacement l) seg) k)
        | present no5 k ↦ based rm (displacement l) rm_lt lt (h.1 ∙ ap (λ (b : Option ℕ). memory b None 1 (displacement l) seg) k)
      ]

  sib_shape : (s : List ℕ) (o : Operand) → AreBytes s → IsSib seg md s o → Shape seg o
  sib_shape [] o bytes h = absurd h
  sib_shape (sib ∷ l) o bytes h =
      let lt = disp_below l bytes.1 (omega (arith, h.0, disp_len_cases md (sib % 8))) in
      let b_lt : sib % 8 < 8 = omega arith in
      let x_lt : sib / 8 % 8 < 8 = omega arith in
      let ss_lt : sib / 64 < 4 = omega (arith, bytes.0) in
      elim (eqb_tells (sib / 8 % 8) 4) [
        | inl t ↦
            let e : o ≡ memory (base_of md (sib % 8)) None 1 (displacement l) seg = h.1 ∙ ap (λ u. memory (base_of md (sib % 8)) (cond u None (Some (sib / 8 % 8))) (cond u 1 (2 ^ (sib / 64))) (displacement l) seg) t.0 in
            elim (base_kind md (sib % 8)) [
              | absent f g ↦ let k : base_of md (sib % 8) ≡ None = rw (f, g) refl in direct (displacement l) lt (e ∙ ap (λ (b : Option ℕ). memory b None 1 (displacement l) seg) k)
              | present no5 k ↦ based (sib % 8) (displacement l) b_lt lt (e ∙ ap (λ (b : Option ℕ). memory b None 1 (displacement l) seg) k)
            ]
        | inr t ↦
            let e : o ≡ memory (base_of md (sib % 8)) (Some (sib / 8 % 8)) (2 ^ (sib / 64)) (displacement l) seg = h.1 ∙ ap (λ u. memory (base_of md (sib % 8)) (cond u None (Some (sib / 8 % 8))) (cond u 1 (2 ^ (sib / 64))) (displacement l) seg) t.0 in
            elim (base_kind md (sib % 8)) [
              | absent f g ↦ let k : base_of md (sib % 8) ≡ None = rw (f, g) refl in scaled (sib / 8 % 8) (sib / 64) (displacement l) x_lt t.1 ss_lt lt (e ∙ ap (λ (b : Option ℕ). memory b (Some (sib / 8 % 8)) (2 ^ (sib / 64)) (displacement l) seg) k)
              | present no5 k ↦ indexed (sib % 8) (sib / 8 % 8) (sib / 64) (displacement l) b_lt x_lt t.1 ss_lt lt (e ∙ ap (λ (b : Option ℕ). memory b (Some (sib / 8 % 8)) (2 ^ (sib / 64)) (displacement l) seg) k)
            ]
      ]

  pub shape_of : (l : List ℕ) (o : Operand) → AreBytes l → IsRm seg md rm l o → Shape seg o
  shape_of l o bytes h = at (md == 3) (rm == 4) h
    where
      at : (u v : Bool) → MatchBool u (IsRegister rm l o) (MatchBool v (IsSib seg md l o) (IsDisplaced seg md rm l o)) → Shape seg o
      at true v h = register rm rm_lt h.1
      at false true h = sib_shape l o bytes h
      at false false h = displaced_shape l o bytes h

-- ---- the least one spells it

record Displaces (b disp : ℕ) : Type 0 where
  small : least_mod b disp < 3
  len : length (disp_bytes (least_mod b disp) disp) ≡ displacement_len (least_mod b disp) b
  value : displacement (disp_bytes (least_mod b disp) disp) ≡ disp
  base : base_of (least_mod b disp) b ≡ Some b
  bytes : AreBytes (disp_bytes (least_mod b disp) disp)

abbrev ModIs : ℕ → ℕ → ℕ → Type 0
ModIs b disp n = least_mod b disp ≡ n

displaces_by : (b disp n : ℕ) → ModIs b disp n → n < 3 → length (disp_bytes n disp) ≡ displacement_len n b → displacement (disp_bytes n disp) ≡ disp → base_of n b ≡ Some b → AreBytes (disp_bytes n disp) → Displaces b disp
displaces_by b disp n e lt len value base bytes = record {
  small = subst (λ k. k < 3) (sym e) lt;
  len = subst (λ k. length (disp_bytes k disp) ≡ displacement_len k b) (sym e) len;
  value = subst (λ k. displacement (disp_bytes k disp) ≡ disp) (sym e) value;
  base = subst (λ k. base_of k b ≡ Some b) (sym e) base;
  bytes = subst (λ k. AreBytes (disp_bytes k disp)) (sym e) bytes;
}

byte_value : (disp : ℕ) → disp < 2 ^ 32 → fits_byte disp ≡ true → displacement (disp % 256 ∷ []) ≡ disp
byte_value disp lt e = at (nat_lt disp 128) (nat_le 4294967168 disp) refl refl e
  where
    at : (u v : Bool) → nat_lt disp 128 ≡ u → nat_le 4294967168 disp ≡ v → (u || v) ≡ true → displacement (disp % 256 ∷ []) ≡ disp
    at true v f g t =
        let small : disp < 128 = ltb-true disp 128 f in
        let q : disp % 256 ≡ disp = omega arith in
        let k : ltb (disp % 256) 128 ≡ true = lt-ltb (disp % 256) 128 (omega arith) in
        rw k q
    at false true f g t =
        let large : 4294967168 ≤ disp = leb-true 4294967168 disp g in
        let k : ltb (disp % 256) 128 ≡ false = le-ltb (disp % 256) 128 (omega arith) in
        rw k (omega arith)
    at false false f g t = absurd cc

four_value : (disp : ℕ) → disp < 2 ^ 32 → displacement (four_bytes disp) ≡ disp
four_value disp lt = omega arith

displaces : (b disp : ℕ) → disp < 2 ^ 32 → Displaces b disp
displaces b disp lt = at (disp == 0) (b == 5) (fits_byte disp) refl refl refl
  where
    at : (u v w : Bool) → (disp == 0) ≡ u → (b == 5) ≡ v → fits_byte disp ≡ w → Displaces b disp
    at true true w e f g =
        let z : disp ≡ 0 = eqb-true disp 0 e in
        displaces_by b disp 1 (rw (e, f) refl) (omega arith) refl (rw z refl) refl (omega arith, tt)
    at true false w e f g =
        let z : disp ≡ 0 = eqb-true disp 0 e in
        displaces_by b disp 0 (rw (e, f) refl) (omega arith) (rw f refl) (sym z) (rw f refl) tt
    at false v true e f g = displaces_by b disp 1 (rw (e, g) refl) (omega arith) refl (byte_value disp lt g) refl (omega arith, tt)
    at false v false e f g = displaces_by b disp 2 (rw (e, g) refl) (omega arith) refl (four_value disp lt) refl (omega arith, (omega arith, (omega arith, (omega arith, tt))))

pub record LeastSpells (seg : Seg) (reg : ℕ) (o : Operand) : Type 0 where
  pub md : ℕ
  pub rm : ℕ
  pub rest : List ℕ
  pub md_lt : md < 4
  pub rm_lt : rm < 8
  pub is : least_rm reg o ≡ (64 * md + 8 * reg + rm) ∷ rest
  pub spells : IsRm seg md rm rest o
  pub bytes : AreBytes rest

-- by a SIB byte, and without
by_sib : (seg : Seg) (md : ℕ) (rest : List ℕ) (o : Operand) → md < 3 → IsSib seg md rest o → IsRm seg md 4 rest o
by_sib seg md rest o lt h = subst (λ u. MatchBool u (IsRegister 4 rest o) (IsSib seg md rest o)) (sym (false_of md 3 (λ e. omega arith))) h

by_disp : (seg : Seg) (md rm : ℕ) (rest : List ℕ) (o : Operand) → md < 3 → (rm ≡ 4 → ⊥) → IsDisplaced seg md rm rest o → IsRm seg md rm rest o
by_disp seg md rm rest o lt no4 h =
    subst (λ u. MatchBool u (IsRegister rm rest o) (MatchBool (rm == 4) (IsSib seg md rest o) (IsDisplaced seg md rm rest o))) (sym (false_of md 3 (λ e. omega arith)))
    (subst (λ u. MatchBool u (IsSib seg md rest o) (IsDisplaced seg md rm rest o)) (sym (false_of rm 4 no4)) h)

mem_is : (seg : Seg) (md base : ℕ) (index : Option ℕ) (scale : ℕ) (l : List ℕ) (b : Option ℕ) (disp : ℕ) → base_of md base ≡ b → displacement l ≡ disp → memory b index scale disp seg ≡ mem seg md base index scale l
mem_is seg md base index scale l b disp e f = ap (λ (z : Option ℕ). memory z index scale disp seg) (sym e) ∙ ap (λ n. memory (base_of md base) index scale n seg) (sym f)

module _ (seg : Seg) (reg : ℕ) where
  least_based : (b disp : ℕ) → b < 8 → disp < 2 ^ 32 → LeastSpells seg reg (memory (Some b) None 1 disp seg)
  least_based b disp b_lt lt =
      let d = displaces b disp lt in
      elim (eqb_tells b 4) [
        | inl t ↦
            let four : b ≡ 4 = t.1 in
            let len : length (disp_bytes (least_mod b disp) disp) ≡ displacement_len (least_mod b disp) 4 = d.len ∙ ap (displacement_len (least_mod b disp)) four in
            let at4 : base_of (least_mod b disp) 4 ≡ Some b = ap (base_of (least_mod b disp)) (sym four) ∙ d.base in
            record {
              md = least_mod b disp;
              rm = 4;
              rest = 36 ∷ disp_bytes (least_mod b disp) disp;
              md_lt = omega (arith, d.small);
              rm_lt = omega arith;
              is = rw t.0 refl;
              spells = by_sib seg (least_mod b disp) (36 ∷ disp_bytes (least_mod b disp) disp) (memory (Some b) None 1 disp seg) d.small
                  (len, mem_is seg (least_mod b disp) 4 None 1 (disp_bytes (least_mod b disp) disp) (Some b) disp at4 d.value);
              bytes = (omega arith, d.bytes);
            }
        | inr t ↦ record {
          md = least_mod b disp;
          rm = b;
          rest = disp_bytes (least_mod b disp) disp;
          md_lt = omega (arith, d.small);
          rm_lt = b_lt;
          is = rw t.0 refl;
          spells = by_disp seg (least_mod b disp) b (disp_bytes (least_mod b disp) disp) (memory (Some b) None 1 disp seg) d.small t.1
              (d.len, mem_is seg (least_mod b disp) b None 1 (disp_bytes (least_mod b disp) disp) (Some b) disp d.base d.value);
          bytes = d.bytes;
        }
      ]

  least_direct : (disp : ℕ) → disp < 2 ^ 32 → LeastSpells seg reg (memory None None 1 disp seg)
  least_direct disp lt = record {
    md = 0;
    rm = 5;
    rest = four_bytes disp;
    md_lt = omega arith;
    rm_lt = omega arith;
    is = ap (λ n. n ∷ four_bytes disp) (let e : 8 * reg + 5 ≡ 64 * 0 + 8 * reg + 5 = omega arith in e);
    spells = (refl, mem_is seg 0 5 None 1 (four_bytes disp) None disp refl (four_value disp lt));
    bytes = (omega arith, (omega arith, (omega arith, (omega arith, tt))));
  }

  module _ (x ss : ℕ) (x_lt : x < 8) (no4 : x ≡ 4 → ⊥) (ss_lt : ss < 4) where
    sib_of : ℕ → ℕ
    sib_of b = 64 * ss + 8 * x + b

    sib_operand : (b md disp : ℕ) (l : List ℕ) (o : Option ℕ) → b < 8 → base_of md b ≡ o → displacement l ≡ disp → length l ≡ displacement_len md b → IsSib seg md ((64 * ss + 8 * x + b) ∷ l) (memory o (Some x) (2 ^ ss) disp seg)
    sib_operand b md disp l o b_lt base value len =
        let e0 : (64 * ss + 8 * x + b) % 8 ≡ b = omega arith in
        let e1 : (64 * ss + 8 * x + b) / 8 % 8 ≡ x = omega arith in
        let e2 : (64 * ss + 8 * x + b) / 64 ≡ ss = omega arith in
        let i : index_of x ≡ Some x = rw (false_of x 4 no4) refl in
        let s : scale_of ss x ≡ 2 ^ ss = rw (false_of x 4 no4) refl in (
          len ∙ ap (displacement_len md) (sym e0),
          mem_is seg md b (Some x) (2 ^ ss) l o disp base value
              ∙ ap (λ (z : Option ℕ). mem seg md b z (2 ^ ss) l) (sym i)
              ∙ ap (λ n. mem seg md b (index_of x) n l) (sym s)
              ∙ ap (λ n. mem seg md n (index_of x) (scale_of ss x) l) (sym e0)
              ∙ ap (λ n. mem seg md ((64 * ss + 8 * x + b) % 8) (index_of n) (scale_of ss n) l) (sym e1)
              ∙ ap (λ n. mem seg md ((64 * ss + 8 * x + b) % 8) (index_of ((64 * ss + 8 * x + b) / 8 % 8)) (scale_of n ((64 * ss + 8 * x + b) / 8 % 8)) l) (sym e2),
        )

    least_indexed : (b disp : ℕ) → b < 8 → disp < 2 ^ 32 → LeastSpells seg reg (memory (Some b) (Some x) (2 ^ ss) disp seg)
    least_indexed b disp b_lt lt =
        let d = displaces b disp lt in
        record {
          md = least_mod b disp;
          rm = 4;
          rest = (64 * ss + 8 * x + b) ∷ disp_bytes (least_mod b disp) disp;
          md_lt = omega (arith, d.small);
          rm_lt = omega arith;
          is = ap (λ n. (64 * least_mod b disp + 8 * reg + 4) ∷ (64 * n + 8 * x + b) ∷ disp_bytes (least_mod b disp) disp) (scale_again ss ss_lt);
          spells = by_sib seg (least_mod b disp) _ (memory (Some b) (Some x) (2 ^ ss) disp seg) d.small
              (sib_operand b (least_mod b disp) disp (disp_bytes (least_mod b disp) disp) (Some b) b_lt d.base d.value d.len);
          bytes = (omega arith, d.bytes);
        }

    least_scaled : (disp : ℕ) → disp < 2 ^ 32 → LeastSpells seg reg (memory None (Some x) (2 ^ ss) disp seg)
    least_scaled disp lt = record {
      md = 0;
      rm = 4;
      rest = (64 * ss + 8 * x + 5) ∷ four_bytes disp;
      md_lt = omega arith;
      rm_lt = omega arith;
      is = ap (λ n. (8 * reg + 4) ∷ (64 * n + 8 * x + 5) ∷ four_bytes disp) (scale_again ss ss_lt) ∙ ap (λ n. n ∷ (64 * ss + 8 * x + 5) ∷ four_bytes disp) (let e : 8 * reg + 4 ≡ 64 * 0 + 8 * reg + 4 = omega arith in e);
      spells = sib_operand 5 0 disp (four_bytes disp) None (omega arith) refl (four_value disp lt) refl;
      bytes = (omega arith, (omega arith, (omega arith, (omega arith, (omega arith, tt)))));
    }

  pub least_spells : (o : Operand) → Shape seg o → LeastSpells seg reg o
  least_spells o h =
      elim h [
        | register r lt e ↦ subst (LeastSpells seg reg) (sym e) (record { md = 3; rm = r; rest = []; md_lt = omega arith; rm_lt = lt; is = refl; spells = (refl, refl); bytes = tt })
        | direct disp lt e ↦ subst (LeastSpells seg reg) (sym e) (least_direct disp lt)
        | based b disp b_lt lt e ↦ subst (LeastSpells seg reg) (sym e) (least_based b disp b_lt lt)
        | scaled x ss disp x_lt no4 ss_lt lt e ↦ subst (LeastSpells seg reg) (sym e) (least_scaled x ss x_lt no4 ss_lt disp lt)
        | indexed b x ss disp b_lt x_lt no4 ss_lt lt e ↦ subst (LeastSpells seg reg) (sym e) (least_indexed x ss x_lt no4 ss_lt b disp b_lt lt)
      ]
