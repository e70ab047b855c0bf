-- The least ModRM, SIB and displacement of an operand.
use Rattle.std.proofs.Common.{◌≡◌, ℕ, zero, suc, ◌+◌, ◌*◌, ◌/◌, ◌%◌, ◌^◌, ◌<◌, ◌≤◌, Bool, true, false, cond, ltb, leb, nat_eq, List, [], ◌∷◌, length, Option, Some, None, refl, sym, ap, subst, ◌∙◌, inl, inr, ◌⊎◌, arith}
use Rattle.std.specs.Prelude.{MatchBool, ◌==◌, nat_lt, if◌then◌else◌}
use Rattle.std.proofs.lemmas.Bool.{cases_lt, ltb-false, le-ltb, ltb-true, lt-ltb, le-leb, eqb-true}
use Rattle.std.proofs.lemmas.Bool.Decides.{eqb_tells}
use Rattle.x86_inst.specs.declared.Seg.{Seg}
use Rattle.x86_inst.specs.declared.Operand.{Operand}
use Rattle.x86_inst.specs.declared.Operand.TheVariants as operand
use Rattle.x86_inst.specs.Spelling.{AreBytes, little_endian, base_of, displacement_len, displacement, mem, index_of, scale_of, IsSib, IsDisplaced, IsRegister, IsRm}
use Rattle.x86_encode.specs.Bytes.{four_bytes, fits_byte, least_mod, scale_bits}
use Rattle.x86_encode.specs.Least.{AtMost}
use Rattle.x86_encode.proofs.Order.{AtMost-refl, NoGreater-refl}

-- the displacement of a mod
abbrev pub disp_bytes : (md disp : ℕ) → List ℕ
disp_bytes md disp = if md == 1 then disp % 256 ∷ [] else if md == 2 then four_bytes disp else []

-- the least mod is less and its displacement shorter, or it is the same displacement
data Shorter (md base disp : ℕ) (rest : List ℕ) : Type 0 where
  less : length (disp_bytes (least_mod base disp) disp) < length rest → Shorter md base disp rest
  same : least_mod base disp ≡ md → disp_bytes (least_mod base disp) disp ≡ rest → Shorter md base disp rest

pub four_again : (a b c d : ℕ) → a < 256 → b < 256 → c < 256 → d < 256 → four_bytes (little_endian (a ∷ b ∷ c ∷ d ∷ [])) ≡ a ∷ b ∷ c ∷ d ∷ []
four_again a b c d ha hb hc hd =
    let n = little_endian (a ∷ b ∷ c ∷ d ∷ []) in
    let e0 : (a + 256 * (b + 256 * (c + 256 * (d + 256 * 0)))) % 256 ≡ a = omega arith in
    let e1 : (a + 256 * (b + 256 * (c + 256 * (d + 256 * 0)))) / 256 % 256 ≡ b = omega arith in
    let e2 : (a + 256 * (b + 256 * (c + 256 * (d + 256 * 0)))) / 65536 % 256 ≡ c = omega arith in
    let e3 : (a + 256 * (b + 256 * (c + 256 * (d + 256 * 0)))) / 16777216 % 256 ≡ d = omega arith in
    rw (e0, e1, e2, e3) refl

least_zero : (base : ℕ) → (base ≡ 5 → ⊥) → least_mod base 0 ≡ 0
least_zero base h = elim (eqb_tells base 5) [ inl t ↦ absurd (h t.1) | inr t ↦ rw t.0 refl ]

-- mod 1
byte_least : (base d : ℕ) → d < 256 → Shorter 1 base (displacement (d ∷ [])) (d ∷ [])
byte_least base d lt = at (nat_lt d 128) refl
  where
    small : (z f : Bool) → (d == 0) ≡ z → (base == 5) ≡ f → d < 128 → Shorter 1 base d (d ∷ [])
    small true true e f h = same (rw (e, f) refl) (rw (e, f) (let k : d ≡ 0 = eqb-true d 0 e in rw k refl))
    small true false e f h = less (rw (e, f) (omega arith))
    small false f e g h =
        let t : ltb d 128 ≡ true = lt-ltb d 128 h in
        let q : d % 256 ≡ d = omega arith in
        same (rw (e, t) refl) (rw (e, t) (rw q refl))

    at : (b : Bool) → nat_lt d 128 ≡ b → Shorter 1 base (cond b d (d + 4294967040)) (d ∷ [])
    at true e = small (d == 0) (base == 5) refl refl (ltb-true d 128 e)
    at false e =
        let ge : 128 ≤ d = ltb-false d 128 e in
        let z : nat_eq (d + 4294967040) 0 ≡ false = elim (eqb_tells (d + 4294967040) 0) [ inl t ↦ absurd (omega (arith, t.1)) | inr t ↦ t.0 ] in
        let a : ltb (d + 4294967040) 128 ≡ false = le-ltb (d + 4294967040) 128 (omega arith) in
        let b : leb 4294967168 (d + 4294967040) ≡ true = le-leb 4294967168 (d + 4294967040) (omega arith) in
        let q : (d + 4294967040) % 256 ≡ d = omega arith in
        same (rw (z, a, b) refl) (rw (z, a, b) (rw q refl))

-- mod 2
word_least : (base a b c d : ℕ) → a < 256 → b < 256 → c < 256 → d < 256 → Shorter 2 base (little_endian (a ∷ b ∷ c ∷ d ∷ [])) (a ∷ b ∷ c ∷ d ∷ [])
word_least base a b c d ha hb hc hd = at (little_endian (a ∷ b ∷ c ∷ d ∷ []) == 0) (base == 5) (fits_byte (little_endian (a ∷ b ∷ c ∷ d ∷ []))) refl refl refl
  where
    at : (z f w : Bool) → (little_endian (a ∷ b ∷ c ∷ d ∷ []) == 0) ≡ z → (base == 5) ≡ f → fits_byte (little_endian (a ∷ b ∷ c ∷ d ∷ [])) ≡ w → Shorter 2 base (little_endian (a ∷ b ∷ c ∷ d ∷ [])) (a ∷ b ∷ c ∷ d ∷ [])
    at true true w e f g = less (rw (e, f) (omega arith))
    at true false w e f g = less (rw (e, f) (omega arith))
    at false f true e h g = less (rw (e, g) (omega arith))
    at false f false e h g = same (rw (e, g) refl) (rw (e, g) (four_again a b c d ha hb hc hd))

-- the displacement of a base that has one, at the mod that it has
any_least : (md base : ℕ) (rest : List ℕ) → md < 3 → (md ≡ 0 → base ≡ 5 → ⊥) → AreBytes rest → length rest ≡ displacement_len md base → Shorter md base (displacement rest) rest
any_least md base rest lt no5 bytes len = at md base rest lt no5 bytes len (md == 1) (md == 2) (base == 5) refl refl refl
  where
    at : (md base : ℕ) (rest : List ℕ) → md < 3 → (md ≡ 0 → base ≡ 5 → ⊥) → AreBytes rest → length rest ≡ displacement_len md base → (u v w : Bool) → (md == 1) ≡ u → (md == 2) ≡ v → (base == 5) ≡ w → Shorter md base (displacement rest) rest
    at md base rest lt no5 bytes len true v w e f g =
        let k : length rest ≡ 1 = rw e at len in
        let m : md ≡ 1 = eqb-true md 1 e in
        subst (λ n. Shorter n base (displacement rest) rest) (sym m) (one rest bytes k)
      where
        one : (rest : List ℕ) → AreBytes rest → length rest ≡ 1 → Shorter 1 base (displacement rest) rest
        one [] h k = absurd (omega (arith, k))
        one (d ∷ []) h k = byte_least base d h.0
        one (d ∷ c ∷ r) h k = absurd (omega (arith, k))
    at md base rest lt no5 bytes len false true w e f g =
        let k : length rest ≡ 4 = rw (e, f) at len in
        let m : md ≡ 2 = eqb-true md 2 f in
        subst (λ n. Shorter n base (displacement rest) rest) (sym m) (four rest bytes k)
      where
        four : (rest : List ℕ) → AreBytes rest → length rest ≡ 4 → Shorter 2 base (displacement rest) rest
        four [] h k = absurd (omega (arith, k))
        four (a ∷ []) h k = absurd (omega (arith, k))
        four (a ∷ b ∷ []) h k = absurd (omega (arith, k))
        four (a ∷ b ∷ c ∷ []) h k = absurd (omega (arith, k))
        four (a ∷ b ∷ c ∷ d ∷ []) h k = word_least base a b c d h.0 h.1.0 h.1.1.0 h.1.1.1.0
        four (a ∷ b ∷ c ∷ d ∷ x ∷ r) h k = absurd (omega (arith, k))
    at md base rest lt no5 bytes len false false w e f g =
        let m : md ≡ 0 = zero_of md lt e f in
        let n : base ≡ 5 → ⊥ = no5 m in
        let len' : length rest ≡ 0 = rw (e, f, not5 base n) at len in
        subst (λ n. Shorter n base (displacement rest) rest) (sym m) (none rest n len')
      where
        zero_of : (md : ℕ) → md < 3 → (md == 1) ≡ false → (md == 2) ≡ false → md ≡ 0
        zero_of md lt e f = elim (eqb_tells md 1) [ inl t ↦ absurd (let x = t.0 in cc) | inr t ↦ elim (eqb_tells md 2) [ inl u ↦ absurd (let x = u.0 in cc) | inr u ↦ omega (arith, t.1, u.1) ] ]

        not5 : (base : ℕ) → (base ≡ 5 → ⊥) → (base == 5) ≡ false
        not5 base h = elim (eqb_tells base 5) [ inl t ↦ absurd (h t.1) | inr t ↦ t.0 ]

        none : (rest : List ℕ) → (base ≡ 5 → ⊥) → length rest ≡ 0 → Shorter 0 base (displacement rest) rest
        none [] h k = same (least_zero base h) (rw (least_zero base h) refl)
        none (x ∷ r) h k = absurd (omega (arith, k))

-- ---- the operand

-- the least ModRM, SIB and displacement of an address, with a register in the reg field
abbrev pub least_mem : (reg : ℕ) → (base index : Option ℕ) → (scale disp : ℕ) → List ℕ
least_mem reg None None scale disp = (8 * reg + 5) ∷ four_bytes disp
least_mem reg None (Some x) scale disp = (8 * reg + 4) ∷ (64 * scale_bits scale + 8 * x + 5) ∷ four_bytes disp
least_mem reg (Some b) None scale disp =
    if b == 4 then (64 * least_mod b disp + 8 * reg + 4) ∷ 36 ∷ disp_bytes (least_mod b disp) disp
    else (64 * least_mod b disp + 8 * reg + b) ∷ disp_bytes (least_mod b disp) disp
least_mem reg (Some b) (Some x) scale disp =
    (64 * least_mod b disp + 8 * reg + 4) ∷ (64 * scale_bits scale + 8 * x + b) ∷ disp_bytes (least_mod b disp) disp

-- and of an r/m operand
abbrev pub least_rm : ℕ → Operand → List ℕ
least_rm reg (operand.Reg r) = (192 + 8 * reg + r) ∷ []
least_rm reg (operand.Mem m) = least_mem reg m.base m.index m.scale m.disp
least_rm reg (operand.Imm n) = []

-- a shorter displacement, or the same one, behind bytes that are no more
behind : (md base disp : ℕ) (rest : List ℕ) (f : ℕ → ℕ) → Shorter md base disp rest → AtMost (f (least_mod base disp) ∷ disp_bytes (least_mod base disp) disp) (f md ∷ rest)
behind md base disp rest f h =
    elim h [
      | less lt ↦ inl (omega arith)
      | same e k ↦ rw (k, e) (AtMost-refl (f md ∷ rest))
    ]

behind_sib : (md base disp a b : ℕ) (rest : List ℕ) (f : ℕ → ℕ) → a ≤ b → Shorter md base disp rest → AtMost (f (least_mod base disp) ∷ a ∷ disp_bytes (least_mod base disp) disp) (f md ∷ b ∷ rest)
behind_sib md base disp a b rest f le h =
    elim h [
      | less lt ↦ inl (omega arith)
      | same e k ↦ rw (k, e) (at (cases_lt a b))
    ]
  where
    at : (a < b) ⊎ (b ≤ a) → AtMost (f md ∷ a ∷ rest) (f md ∷ b ∷ rest)
    at (inl lt) = inr (refl, inr (refl, inl lt))
    at (inr ge) = inr (refl, inr (refl, inr (omega arith, NoGreater-refl rest)))

-- ---- every spelling of an operand is at least as long and as great

four_is : (rest : List ℕ) → AreBytes rest → length rest ≡ 4 → four_bytes (displacement rest) ≡ rest
four_is [] h k = absurd (omega (arith, k))
four_is (a ∷ []) h k = absurd (omega (arith, k))
four_is (a ∷ b ∷ []) h k = absurd (omega (arith, k))
four_is (a ∷ b ∷ c ∷ []) h k = absurd (omega (arith, k))
four_is (a ∷ b ∷ c ∷ d ∷ []) h k = four_again a b c d h.0 h.1.0 h.1.1.0 h.1.1.1.0
four_is (a ∷ b ∷ c ∷ d ∷ x ∷ r) h k = absurd (omega (arith, k))

four_long : (n : ℕ) → length (four_bytes n) ≡ 4
four_long n = refl

pub false_of : (a b : ℕ) → (a ≡ b → ⊥) → nat_eq a b ≡ false
false_of a b h = elim (eqb_tells a b) [ inl t ↦ absurd (h t.1) | inr t ↦ t.0 ]

-- mod and base, by whether there is a base
pub data Base (md base : ℕ) : Type 0 where
  absent : md ≡ 0 → base ≡ 5 → Base md base
  present : (md ≡ 0 → base ≡ 5 → ⊥) → base_of md base ≡ Some base → Base md base

pub base_kind : (md base : ℕ) → Base md base
base_kind md base =
    elim (eqb_tells md 0) [
      | inl t ↦ elim (eqb_tells base 5) [
        | inl u ↦ absent t.1 u.1
        | inr u ↦ present (λ e f. u.1 f) (rw (t.0, u.0) refl)
      ]
      | inr t ↦ present (λ e f. t.1 e) (rw t.0 refl)
    ]

equal_at_most : (x y : List ℕ) → x ≡ y → AtMost x y
equal_at_most x y e = subst (λ (l : List ℕ). AtMost x l) e (AtMost-refl x)

of_at_most : (x y z : List ℕ) → x ≡ y → AtMost y z → AtMost x z
of_at_most x y z e h = subst (λ (l : List ℕ). AtMost l z) (sym e) h

abbrev without_sib : (reg b disp : ℕ) → List ℕ
without_sib reg b disp = (64 * least_mod b disp + 8 * reg + b) ∷ disp_bytes (least_mod b disp) disp

abbrev with_sib : (reg b sib disp : ℕ) → List ℕ
with_sib reg b sib disp = (64 * least_mod b disp + 8 * reg + 4) ∷ sib ∷ disp_bytes (least_mod b disp) disp

module _ (seg : Seg) (md reg rm : ℕ) (md_lt : md < 3) where
  plain_least : (rest : List ℕ) → (rm ≡ 4 → ⊥) → AreBytes rest → length rest ≡ displacement_len md rm → AtMost (least_rm reg (mem seg md rm None 1 rest)) ((64 * md + 8 * reg + rm) ∷ rest)
  plain_least rest no4 bytes len =
      elim (base_kind md rm) [
        | absent e f ↦
            let len' : length rest ≡ 4 = rw (e, f) at len in
            let b : base_of md rm ≡ None = rw (e, f) refl in
            let m : 8 * reg + 5 ≡ 64 * md + 8 * reg + rm = omega (arith, e, f) in
            equal_at_most (least_rm reg (mem seg md rm None 1 rest)) ((64 * md + 8 * reg + rm) ∷ rest)
            (ap (λ (o : Option ℕ). least_mem reg o None 1 (displacement rest)) b ∙ ap (λ (l : List ℕ). (8 * reg + 5) ∷ l) (four_is rest bytes len') ∙ ap (λ n. n ∷ rest) m)
        | present no5 b ↦
            of_at_most (least_rm reg (mem seg md rm None 1 rest)) (without_sib reg rm (displacement rest)) ((64 * md + 8 * reg + rm) ∷ rest)
            (ap (λ (o : Option ℕ). least_mem reg o None 1 (displacement rest)) b ∙ ap (λ t. cond t (with_sib reg rm 36 (displacement rest)) (without_sib reg rm (displacement rest))) (false_of rm 4 no4))
            (behind md rm (displacement rest) rest (λ n. 64 * n + 8 * reg + rm) (any_least md rm rest md_lt no5 bytes len))
      ]

-- a longer string
longer : (x y : List ℕ) → length x < length y → AtMost x y
longer x y h = inl h

shorter_len : (md base disp : ℕ) (rest : List ℕ) → Shorter md base disp rest → length (disp_bytes (least_mod base disp) disp) ≤ length rest
shorter_len md base disp rest h = elim h [ less lt ↦ omega arith | same e k ↦ omega (arith, ap length k) ]

pub scale_again : (ss : ℕ) → ss < 4 → scale_bits (2 ^ ss) ≡ ss
scale_again zero h = refl
scale_again (suc zero) h = refl
scale_again (suc (suc zero)) h = refl
scale_again (suc (suc (suc zero))) h = refl
scale_again (suc (suc (suc (suc n)))) h = absurd (omega arith)

module _ (seg : Seg) (md reg ss x b : ℕ) (md_lt : md < 3) (ss_lt : ss < 4) where
  abbrev sib_byte : ℕ
  sib_byte = 64 * ss + 8 * x + b

  -- SIB without an index
  no_index : (rest : List ℕ) → x ≡ 4 → AreBytes rest → length rest ≡ displacement_len md b → AtMost (least_rm reg (mem seg md b None 1 rest)) ((64 * md + 8 * reg + 4) ∷ sib_byte ∷ rest)
  no_index rest x4 bytes len =
      elim (base_kind md b) [
        | absent e f ↦
            let len' : length rest ≡ 4 = rw (e, f) at len in
            let k : base_of md b ≡ None = rw (e, f) refl in
            of_at_most (least_rm reg (mem seg md b None 1 rest)) ((8 * reg + 5) ∷ rest) ((64 * md + 8 * reg + 4) ∷ sib_byte ∷ rest)
            (ap (λ (o : Option ℕ). least_mem reg o None 1 (displacement rest)) k ∙ ap (λ (l : List ℕ). (8 * reg + 5) ∷ l) (four_is rest bytes len'))
            (inl (omega arith))
        | present no5 k ↦
            let h = any_least md b rest md_lt no5 bytes len in
            elim (eqb_tells b 4) [
              | inl t ↦
                  let e : b ≡ 4 = t.1 in
                  of_at_most (least_rm reg (mem seg md b None 1 rest)) (with_sib reg b 36 (displacement rest)) ((64 * md + 8 * reg + 4) ∷ sib_byte ∷ rest)
                  (ap (λ (o : Option ℕ). least_mem reg o None 1 (displacement rest)) k ∙ ap (λ t. cond t (with_sib reg b 36 (displacement rest)) (without_sib reg b (displacement rest))) t.0)
                  (behind_sib md b (displacement rest) 36 sib_byte rest (λ n. 64 * n + 8 * reg + 4) (omega (arith, e, x4)) h)
              | inr t ↦
                  of_at_most (least_rm reg (mem seg md b None 1 rest)) (without_sib reg b (displacement rest)) ((64 * md + 8 * reg + 4) ∷ sib_byte ∷ rest)
                  (ap (λ (o : Option ℕ). least_mem reg o None 1 (displacement rest)) k ∙ ap (λ t. cond t (with_sib reg b 36 (displacement rest)) (without_sib reg b (displacement rest))) t.0)
                  (inl (omega (arith, shorter_len md b (displacement rest) rest h)))
            ]
      ]

  -- SIB with an index
  with_index : (rest : List ℕ) → AreBytes rest → length rest ≡ displacement_len md b → AtMost (least_rm reg (mem seg md b (Some x) (2 ^ ss) rest)) ((64 * md + 8 * reg + 4) ∷ sib_byte ∷ rest)
  with_index rest bytes len =
      let sc : 64 * scale_bits (2 ^ ss) + 8 * x + b ≡ sib_byte = ap (λ n. 64 * n + 8 * x + b) (scale_again ss ss_lt) in
      elim (base_kind md b) [
        | absent e f ↦
            let len' : length rest ≡ 4 = rw (e, f) at len in
            let k : base_of md b ≡ None = rw (e, f) refl in
            let m : 8 * reg + 4 ≡ 64 * md + 8 * reg + 4 = omega (arith, e) in
            let n : 64 * scale_bits (2 ^ ss) + 8 * x + 5 ≡ sib_byte = ap (λ n. 64 * n + 8 * x + 5) (scale_again ss ss_lt) ∙ ap (λ n. 64 * ss + 8 * x + n) (sym f) in
            equal_at_most (least_rm reg (mem seg md b (Some x) (2 ^ ss) rest)) ((64 * md + 8 * reg + 4) ∷ sib_byte ∷ rest)
            (ap (λ (o : Option ℕ). least_mem reg o (Some x) (2 ^ ss) (displacement rest)) k ∙ ap (λ (l : List ℕ). (8 * reg + 4) ∷ (64 * scale_bits (2 ^ ss) + 8 * x + 5) ∷ l) (four_is rest bytes len') ∙ ap (λ n. n ∷ (64 * scale_bits (2 ^ ss) + 8 * x + 5) ∷ rest) m ∙ ap (λ n. (64 * md + 8 * reg + 4) ∷ n ∷ rest) n)
        | present no5 k ↦
            of_at_most (least_rm reg (mem seg md b (Some x) (2 ^ ss) rest)) (with_sib reg b sib_byte (displacement rest)) ((64 * md + 8 * reg + 4) ∷ sib_byte ∷ rest)
            (ap (λ (o : Option ℕ). least_mem reg o (Some x) (2 ^ ss) (displacement rest)) k ∙ ap (λ n. with_sib reg b n (displacement rest)) sc)
            (behind_sib md b (displacement rest) sib_byte sib_byte rest (λ n. 64 * n + 8 * reg + 4) (omega arith) (any_least md b rest md_lt no5 bytes len))
      ]

module _ (seg : Seg) (md reg rm : ℕ) (md_lt : md < 4) where
  sib_least : (s : List ℕ) (o : Operand) → md < 3 → rm ≡ 4 → AreBytes s → IsSib seg md s o → AtMost (least_rm reg o) ((64 * md + 8 * reg + rm) ∷ s)
  sib_least [] o lt r4 bytes h = absurd h
  sib_least (sib ∷ rest) o lt r4 bytes h =
      let parts : 64 * (sib / 64) + 8 * (sib / 8 % 8) + sib % 8 ≡ sib = omega arith in
      let ss_lt : sib / 64 < 4 = omega (arith, bytes.0) in
      let goal_is : (64 * md + 8 * reg + 4) ∷ (64 * (sib / 64) + 8 * (sib / 8 % 8) + sib % 8) ∷ rest ≡ (64 * md + 8 * reg + rm) ∷ sib ∷ rest =
      ap (λ n. (64 * md + 8 * reg + 4) ∷ n ∷ rest) parts ∙ ap (λ n. (64 * md + 8 * reg + n) ∷ sib ∷ rest) (sym r4) in
      subst (λ (l : List ℕ). AtMost (least_rm reg o) l) goal_is
      (of_at_most (least_rm reg o) (least_rm reg (mem seg md (sib % 8) (index_of (sib / 8 % 8)) (scale_of (sib / 64) (sib / 8 % 8)) rest)) _ (ap (least_rm reg) h.1)
      (elim (eqb_tells (sib / 8 % 8) 4) [
        | inl t ↦
            of_at_most (least_rm reg (mem seg md (sib % 8) (index_of (sib / 8 % 8)) (scale_of (sib / 64) (sib / 8 % 8)) rest)) (least_rm reg (mem seg md (sib % 8) None 1 rest)) _
            (ap (λ t. least_rm reg (mem seg md (sib % 8) (cond t None (Some (sib / 8 % 8))) (cond t 1 (2 ^ (sib / 64))) rest)) t.0)
            (no_index seg md reg (sib / 64) (sib / 8 % 8) (sib % 8) lt ss_lt rest t.1 bytes.1 h.0)
        | inr t ↦
            of_at_most (least_rm reg (mem seg md (sib % 8) (index_of (sib / 8 % 8)) (scale_of (sib / 64) (sib / 8 % 8)) rest)) (least_rm reg (mem seg md (sib % 8) (Some (sib / 8 % 8)) (2 ^ (sib / 64)) rest)) _
            (ap (λ t. least_rm reg (mem seg md (sib % 8) (cond t None (Some (sib / 8 % 8))) (cond t 1 (2 ^ (sib / 64))) rest)) t.0)
            (with_index seg md reg (sib / 64) (sib / 8 % 8) (sib % 8) lt ss_lt rest bytes.1 h.0)
      ]))

  -- every spelling of an operand, by ModRM and what follows it, comes after the least one
  pub rm_least : (s : List ℕ) (o : Operand) → AreBytes s → IsRm seg md rm s o → AtMost (least_rm reg o) ((64 * md + 8 * reg + rm) ∷ s)
  rm_least s o bytes h =
      elim (eqb_tells md 3) [
        | inl t ↦
            let k : IsRegister rm s o = subst (λ b. MatchBool b (IsRegister rm s o) (MatchBool (rm == 4) (IsSib seg md s o) (IsDisplaced seg md rm s o))) t.0 h in
            let m : 192 + 8 * reg + rm ≡ 64 * md + 8 * reg + rm = omega (arith, t.1) in
            equal_at_most (least_rm reg o) ((64 * md + 8 * reg + rm) ∷ s)
            (ap (least_rm reg) k.1 ∙ ap (λ n. n ∷ []) m ∙ ap (λ (l : List ℕ). (64 * md + 8 * reg + rm) ∷ l) (sym k.0))
        | inr t ↦
            let lt : md < 3 = omega (arith, t.1) in
            let k : MatchBool (rm == 4) (IsSib seg md s o) (IsDisplaced seg md rm s o) = subst (λ b. MatchBool b (IsRegister rm s o) (MatchBool (rm == 4) (IsSib seg md s o) (IsDisplaced seg md rm s o))) t.0 h in
            elim (eqb_tells rm 4) [
              | inl u ↦ sib_least s o lt u.1 bytes (subst (λ b. MatchBool b (IsSib seg md s o) (IsDisplaced seg md rm s o)) u.0 k)
              | inr u ↦
                  let d : IsDisplaced seg md rm s o = subst (λ b. MatchBool b (IsSib seg md s o) (IsDisplaced seg md rm s o)) u.0 k in
                  of_at_most (least_rm reg o) (least_rm reg (mem seg md rm None 1 s)) ((64 * md + 8 * reg + rm) ∷ s) (ap (least_rm reg) d.1)
                  (plain_least seg md reg rm lt s u.1 bytes d.0)
            ]
      ]
