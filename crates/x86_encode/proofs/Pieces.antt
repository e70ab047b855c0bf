-- The least bytes of a row, piece by piece.
use Rattle.std.proofs.Common.{◌≡◌, ◌≢◌, ℕ, ◌+◌, ◌*◌, ◌/◌, ◌%◌, ◌≤◌, Bool, true, false, cond, List, [], ◌∷◌, ◌++◌, length, Option, Some, None, refl, sym, ap, subst, ◌∙◌, arith, append_assoc}
use Rattle.std.specs.Prelude.{◌==◌}
use Rattle.std.specs.Option.{option_to_list}
use Rattle.std.proofs.lemmas.List.{append-nil}
use Rattle.x86_inst.specs.declared.Size.{Size}
use Rattle.x86_inst.specs.declared.Size.TheVariants.{B, H, W}
use Rattle.x86_inst.specs.declared.Seg.{Seg}
use Rattle.x86_inst.specs.declared.Operand.{Operand}
use Rattle.x86_inst.specs.declared.Operand.TheVariants as operand
use Rattle.x86_inst.specs.Rows.{Prefixes, Fields, Width, NoImm, Imm8, Imm16, ImmV, Imm32, width}
use Rattle.x86_inst.specs.Spelling.{AreBytes, little_endian, opcode, opcode_bytes}
use Rattle.x86_decode.specs.declared.rows.Row.{Row}
use Rattle.x86_decode.specs.declared.rows.Mode.{Mode}
use Rattle.x86_decode.specs.View.{row_of, width_of}
use Rattle.x86_encode.specs.Bytes.{four_bytes, least_mod, scale_bits, with_immediate, with_displacement, with_memory, with_rm, with_modrm, size_prefix, segment_prefix, prefix_bytes, reg_for, spelling_of}
use Rattle.x86_encode.proofs.Operands.{four_again, disp_bytes, least_mem, least_rm}
use Rattle.x86_encode.proofs.Prefix.{least_prefixes}

-- ---- an immediate

abbrev pub imm_bytes : (width n : ℕ) → List ℕ
imm_bytes width n =
    cond (width == 0) [] (cond (width == 1) (n % 256 ∷ []) (cond (width == 2) (n % 256 ∷ n / 256 % 256 ∷ []) (four_bytes n)))

with_immediate_is : (x : List ℕ) (w n : ℕ) → with_immediate x w n ≡ x ++ imm_bytes w n
with_immediate_is x w n = at (w == 0) (w == 1) (w == 2)
  where
    at : (t u v : Bool) → cond t x (cond u (x ++ (n % 256 ∷ [])) (cond v (x ++ (n % 256 ∷ n / 256 % 256 ∷ [])) (x ++ four_bytes n))) ≡ x ++ cond t [] (cond u (n % 256 ∷ []) (cond v (n % 256 ∷ n / 256 % 256 ∷ []) (four_bytes n)))
    at true u v = sym (append-nil x)
    at false true v = refl
    at false false true = refl
    at false false false = refl

bytes_again : (s : List ℕ) → AreBytes s → length s ≤ 4 → length s ≢ 3 → imm_bytes (length s) (little_endian s) ≡ s
bytes_again [] h le ne = refl
bytes_again (a ∷ []) h le ne = let e : (a + 256 * 0) % 256 ≡ a = omega (arith, h.0) in ap (λ (n : ℕ). n ∷ []) e
bytes_again (a ∷ b ∷ []) h le ne =
    let e : (a + 256 * (b + 256 * 0)) % 256 ≡ a = omega (arith, h.0, h.1.0) in
    let f : (a + 256 * (b + 256 * 0)) / 256 % 256 ≡ b = omega (arith, h.0, h.1.0) in
    ap (λ (n : ℕ). n ∷ (a + 256 * (b + 256 * 0)) / 256 % 256 ∷ []) e ∙ ap (λ (n : ℕ). a ∷ n ∷ []) f
bytes_again (a ∷ b ∷ c ∷ []) h le ne = absurd (ne refl)
bytes_again (a ∷ b ∷ c ∷ d ∷ []) h le ne = four_again a b c d h.0 h.1.0 h.1.1.0 h.1.1.1.0
bytes_again (a ∷ b ∷ c ∷ d ∷ e ∷ s) h le ne = absurd (omega arith)

width_small : (w : Width) (s : Size) → width w s ≤ 4
width_small NoImm s = omega arith
width_small Imm8 s = omega arith
width_small Imm16 s = omega arith
width_small ImmV B = omega arith
width_small ImmV H = omega arith
width_small ImmV W = omega arith
width_small Imm32 s = omega arith

width_not_3 : (w : Width) (s : Size) → width w s ≢ 3
width_not_3 NoImm s = λ e. absurd (omega (arith, e))
width_not_3 Imm8 s = λ e. absurd (omega (arith, e))
width_not_3 Imm16 s = λ e. absurd (omega (arith, e))
width_not_3 ImmV B = λ e. absurd (omega (arith, e))
width_not_3 ImmV H = λ e. absurd (omega (arith, e))
width_not_3 ImmV W = λ e. absurd (omega (arith, e))
width_not_3 Imm32 s = λ e. absurd (omega (arith, e))

-- the bytes of an immediate come back
pub imm_again : (w : Width) (size : Size) (s : List ℕ) → AreBytes s → length s ≡ width w size → imm_bytes (width w size) (little_endian s) ≡ s
imm_again w size s h e =
    subst (λ n. imm_bytes n (little_endian s) ≡ s) e
    (bytes_again s h (omega (arith, e, width_small w size)) (λ k. width_not_3 w size (sym e ∙ k)))

-- ---- an operand

with_displacement_is : (x : List ℕ) (md d : ℕ) → with_displacement x md d ≡ x ++ disp_bytes md d
with_displacement_is x md d = at (md == 1) (md == 2)
  where
    at : (t u : Bool) → cond t (x ++ (d % 256 ∷ [])) (cond u (x ++ four_bytes d) x) ≡ x ++ cond t (d % 256 ∷ []) (cond u (four_bytes d) [])
    at true u = refl
    at false true = refl
    at false false = sym (append-nil x)

with_memory_is : (x : List ℕ) (reg : ℕ) (base index : Option ℕ) (scale disp : ℕ) → with_memory x reg base index scale disp ≡ x ++ least_mem reg base index scale disp
with_memory_is x reg None None scale disp =
    append_assoc x ((64 * 0 + 8 * reg + 5) ∷ []) (four_bytes disp) ∙ (let e : 64 * 0 + 8 * reg + 5 ≡ 8 * reg + 5 = omega arith in ap (λ n. x ++ (n ∷ four_bytes disp)) e)
with_memory_is x reg None (Some i) scale disp =
    append_assoc x ((64 * 0 + 8 * reg + 4) ∷ (64 * scale_bits scale + 8 * i + 5) ∷ []) (four_bytes disp)
    ∙ (let e : 64 * 0 + 8 * reg + 4 ≡ 8 * reg + 4 = omega arith in ap (λ n. x ++ (n ∷ (64 * scale_bits scale + 8 * i + 5) ∷ four_bytes disp)) e)
with_memory_is x reg (Some b) None scale disp = at (b == 4)
  where
    md : ℕ
    md = least_mod b disp

    at : (t : Bool) →
        with_displacement (cond t (x ++ ((64 * least_mod b disp + 8 * reg + 4) ∷ 36 ∷ [])) (x ++ ((64 * least_mod b disp + 8 * reg + b) ∷ []))) (least_mod b disp) disp
        ≡ x ++ cond t ((64 * least_mod b disp + 8 * reg + 4) ∷ 36 ∷ disp_bytes (least_mod b disp) disp) ((64 * least_mod b disp + 8 * reg + b) ∷ disp_bytes (least_mod b disp) disp)
    at true = with_displacement_is (x ++ ((64 * least_mod b disp + 8 * reg + 4) ∷ 36 ∷ [])) (least_mod b disp) disp ∙ append_assoc x ((64 * least_mod b disp + 8 * reg + 4) ∷ 36 ∷ []) (disp_bytes (least_mod b disp) disp)
    at false = with_displacement_is (x ++ ((64 * least_mod b disp + 8 * reg + b) ∷ [])) (least_mod b disp) disp ∙ append_assoc x ((64 * least_mod b disp + 8 * reg + b) ∷ []) (disp_bytes (least_mod b disp) disp)
with_memory_is x reg (Some b) (Some i) scale disp =
    with_displacement_is (x ++ ((64 * least_mod b disp + 8 * reg + 4) ∷ (64 * scale_bits scale + 8 * i + b) ∷ [])) (least_mod b disp) disp
    ∙ append_assoc x ((64 * least_mod b disp + 8 * reg + 4) ∷ (64 * scale_bits scale + 8 * i + b) ∷ []) (disp_bytes (least_mod b disp) disp)

with_rm_is : (x : List ℕ) (reg : ℕ) (o : Operand) → with_rm x reg o ≡ x ++ least_rm reg o
with_rm_is x reg (operand.Reg r) = refl
with_rm_is x reg (operand.Mem m) = with_memory_is x reg m.base m.index m.scale m.disp
with_rm_is x reg (operand.Imm n) = sym (append-nil x)

-- ---- a row

-- the prefixes that give the fields
abbrev pub prefixes_for : Size → Seg → Option ℕ → Prefixes
prefixes_for size s o = record { size = size_prefix size; segment = segment_prefix s; repeat = o }

abbrev pub modrm_bytes : Option Mode → Fields → List ℕ
modrm_bytes None f = []
modrm_bytes (Some k) f = least_rm (reg_for k f.reg) f.rm

with_modrm_is : (x : List ℕ) (o : Option Mode) (f : Fields) → with_modrm x o f ≡ x ++ modrm_bytes o f
with_modrm_is x None f = sym (append-nil x)
with_modrm_is x (Some k) f = with_rm_is x (reg_for k f.reg) f.rm

-- prefixes, opcode, operand and immediate
pub spelling_is : (r : Row) (f : Fields) →
    spelling_of r f ≡ least_prefixes (prefixes_for f.size f.segment f.repeat) ++ (opcode_bytes r.escape (opcode (row_of r) f.low) ++ (modrm_bytes r.modrm f ++ imm_bytes (width (width_of r.imm) f.size) f.imm))
spelling_is r f =
    let P = prefix_bytes f in
    let O = opcode_bytes r.escape (opcode (row_of r) f.low) in
    let A = modrm_bytes r.modrm f in
    let I = imm_bytes (width (width_of r.imm) f.size) f.imm in
    with_immediate_is (with_modrm (prefix_bytes f ++ O) r.modrm f) (width (width_of r.imm) f.size) f.imm
    ∙ ap (λ (l : List ℕ). l ++ I) (with_modrm_is (P ++ O) r.modrm f)
    ∙ append_assoc (P ++ O) A I
    ∙ append_assoc P O (A ++ I)
    ∙ ap (λ (l : List ℕ). l ++ (O ++ (A ++ I))) (append_assoc (option_to_list (segment_prefix f.segment)) (option_to_list (size_prefix f.size)) (option_to_list f.repeat))
