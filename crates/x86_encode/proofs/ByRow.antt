-- A spelling by a row comes no earlier than the least bytes of that row that give its fields, and these spell the same instruction.
use Rattle.std.proofs.Common.{◌≡◌, ℕ, ◌+◌, ◌*◌, ◌/◌, ◌%◌, ◌<◌, ◌≤◌, ◌^◌, Bool, true, false, cond, List, [], ◌∷◌, ◌++◌, length, Option, Some, None, refl, sym, ap, subst, ◌∙◌, inl, inr, arith}
use Rattle.std.specs.Prelude.{◌==◌, is_some, slice_get}
use Rattle.std.proofs.lemmas.Bool.{ltb-true}
use Rattle.std.proofs.lemmas.Bool.Decides.{eqb_tells}
use Rattle.x86_inst.specs.declared.Inst.{Inst}
use Rattle.x86_inst.specs.declared.Size.{Size}
use Rattle.x86_inst.specs.declared.Seg.TheVariants as seg
use Rattle.x86_inst.specs.declared.Operand.{Operand}
use Rattle.x86_inst.specs.declared.Operand.TheVariants as operand
use Rattle.x86_inst.specs.Rows.{Prefixes, Fields, operand_size, segment_of, allows_repeat, takes, width}
use Rattle.x86_inst.specs.Rows as spec
use Rattle.x86_inst.specs.Table.{table}
use Rattle.x86_inst.specs.Spelling.{AreBytes, ArePrefixes, allows, allows_size, opcode, opcode_bytes, fields, little_endian, IsRm, Completes, Operands, Spells}
use Rattle.x86_decode.specs.declared.rows.Row.{Row}
use Rattle.x86_decode.specs.declared.rows.Mode.{Mode}
use Rattle.x86_decode.specs.declared.rows.Mode.TheVariants.{AnyModRm, MemoryOnly, RegisterOnly, Digit, DigitFrom, ShiftDigit, Exactly}
use Rattle.x86_decode.specs.declared.rows.Width.{Width}
use Rattle.x86_decode.specs.declared.rows.Width.TheVariants.{NoImm, Imm8, Imm16, ImmV, Imm32}
use Rattle.x86_decode.specs.declared.rows.Repeats.{Repeats}
use Rattle.x86_decode.specs.View.{row_of, width_of, modrm_of, mode_of, repeats_of, inst_of}
use Rattle.x86_encode.specs.Bytes.{size_prefix, segment_prefix, reg_for, spelling_of, is_rm, has_rm, HasSpelling}
use Rattle.x86_encode.specs.Parts.{named_segment}
use Rattle.x86_encode.specs.Least.{AtMost}
use Rattle.x86_encode.proofs.Order.{AtMost-refl, AtMost-append, AtMost-trans}
use Rattle.x86_encode.proofs.Operands.{least_rm, rm_least}
use Rattle.x86_encode.proofs.Spelled.{Shape, shape_of, least_spells}
use Rattle.x86_encode.proofs.Prefix.{least_prefixes, prefixes_least, Kept, dropped, kept}
use Rattle.x86_encode.proofs.Fields.{shown_of, IsRepeat, none}
use Rattle.x86_encode.proofs.Columns.{is_lea, is_set, shows_repeat, shows_segment, row_fields, reg_in, reg_of, is_none, good_mode, needs_no_f3, RegTaken, ImmBelow, IsRead, Says}
use Rattle.x86_encode.proofs.Pieces.{imm_bytes, imm_again, prefixes_for, modrm_bytes, spelling_is}
use Rattle.x86_encode.proofs.Needed.{needed_are, needed_bytes, size_kept, segment_kept, names_of, named_kept, repeat_is, repeat_in, allows_none, size_again, segment_again, size_allowed, size_from}
use Rattle.x86_encode.proofs.ModRm.{memory_of, SuitsMode, suits_mode, takes_again, reg_taken, reg_le, is_rm_of, reshape, bare, bare_shape, bare_least, least_rm_le}
use Rattle.x86_encode.proofs.Flags.{and_true, true_and}

AreBytes-append : (x y : List ℕ) → AreBytes x → AreBytes y → AreBytes (x ++ y)
AreBytes-append [] y h k = k
AreBytes-append (b ∷ x) y h k = (h.0, AreBytes-append x y h.1 k)

AreBytes-front : (s y : List ℕ) → AreBytes (s ++ y) → AreBytes s
AreBytes-front [] y h = tt
AreBytes-front (b ∷ s) y h = (h.0, AreBytes-front s y h.1)

AreBytes-back : (s y : List ℕ) → AreBytes (s ++ y) → AreBytes y
AreBytes-back [] y h = h
AreBytes-back (b ∷ s) y h = AreBytes-back s y h.1

-- ---- the columns

low_is : (c n : ℕ) → n < c → cond (c == 1) 0 n ≡ n
low_is c n lt = elim (eqb_tells c 1) [ inl t ↦ (let e : 0 ≡ n = omega (arith, t.1) in rw t.0 e) | inr t ↦ rw t.0 refl ]

imm_is : (w : Width) (size : Size) (s : List ℕ) → length s ≡ width (width_of w) size → cond (is_none w) 0 (little_endian s) ≡ little_endian s
imm_is NoImm size [] e = refl
imm_is NoImm size (b ∷ s) e = absurd (omega (arith, e))
imm_is Imm8 size s e = refl
imm_is Imm16 size s e = refl
imm_is ImmV size s e = refl
imm_is Imm32 size s e = refl

one_byte : (s : List ℕ) → AreBytes s → length s ≡ 1 → little_endian s < 256
one_byte [] h e = absurd (omega (arith, e))
one_byte (a ∷ []) h e = omega (arith, h.0)
one_byte (a ∷ b ∷ s) h e = absurd (omega (arith, e))

two_bytes : (s : List ℕ) → AreBytes s → length s ≡ 2 → little_endian s < 2 ^ 16
two_bytes [] h e = absurd (omega (arith, e))
two_bytes (a ∷ []) h e = absurd (omega (arith, e))
two_bytes (a ∷ b ∷ []) h e = omega (arith, h.0, h.1.0)
two_bytes (a ∷ b ∷ c ∷ s) h e = absurd (omega (arith, e))

no_bytes : (s : List ℕ) → length s ≡ 0 → little_endian s ≡ 0
no_bytes [] e = refl
no_bytes (b ∷ s) e = absurd (omega (arith, e))

imm_below : (w : Width) (size : Size) (s : List ℕ) → AreBytes s → length s ≡ width (width_of w) size → ImmBelow w (little_endian s)
imm_below NoImm size s h e = no_bytes s e
imm_below Imm8 size s h e = one_byte s h e
imm_below Imm16 size s h e = two_bytes s h e
imm_below ImmV size s h e = tt
imm_below Imm32 size s h e = tt

-- the repeat that is shown: kept, allowed, and a repeat
record Shown_repeat (k : Repeats) (o p : Option ℕ) : Type 0 where
  within : Kept o p
  allowed : allows_repeat (repeats_of k) o ≡ true
  is : IsRepeat o

shown_repeat : (b : Bool) (k : Repeats) (o : Option ℕ) → IsRepeat o → allows_repeat (repeats_of k) o ≡ true → needs_no_f3 k ≡ true → Shown_repeat k (cond b o None) o
shown_repeat true k o h a n = record { within = kept refl; allowed = a; is = h }
shown_repeat false k o h a n = record { within = dropped refl; allowed = allows_none k n; is = none refl }

shown_segment : (b : Bool) (o : Option ℕ) → Kept (segment_prefix (cond b (segment_of o) seg.None)) o
shown_segment true o = segment_kept o
shown_segment false o = dropped refl

fields_path : (f g : Fields) → f.size ≡ g.size → f.segment ≡ g.segment → f.repeat ≡ g.repeat → f.low ≡ g.low → f.reg ≡ g.reg → f.rm ≡ g.rm → f.imm ≡ g.imm → f ≡ g
fields_path f g a b c d e r m = λ i. record { size = a i; segment = b i; repeat = c i; low = d i; reg = e i; rm = r i; imm = m i }

-- ---- the least bytes of a row

-- they spell the instruction, and come no later than y
pub record Best (r : Row) (i : Inst) (h : Fields) (y : List ℕ) : Type 0 where
  pub spells : Spells (spelling_of r h) i
  pub fits : HasSpelling r h
  pub at_most : AtMost (spelling_of r h) y

-- what stands in a spelling by a row
pub record Stands (r : Row) (j : ℕ) (l : List ℕ) (p : Prefixes) (low : ℕ) (rest : List ℕ) : Type 0 where
  pub listed : slice_get table j ≡ Some (row_of r)
  pub allowed : allows (row_of r) p ≡ true
  pub within : low < r.count
  pub are : ArePrefixes l p
  pub bytes : AreBytes (l ++ (opcode_bytes r.escape (opcode (row_of r) low) ++ rest))

opcode_small : (e : Bool) (op : ℕ) → AreBytes (opcode_bytes e op) → op < 256
opcode_small true op h = h.1.0
opcode_small false op h = h.0

module _ (r : Row) (j : ℕ) (l : List ℕ) (p : Prefixes) (low : ℕ) (rest : List ℕ) (i : Inst) where
  abbrev opcode_at : List ℕ
  opcode_at = opcode_bytes r.escape (opcode (row_of r) low)

  -- from the bytes after the opcode to the whole
  assemble : (h : Fields) (t : List ℕ) → Stands r j l p low rest → h.size ≡ operand_size p.size → h.low ≡ low → Kept (segment_prefix h.segment) p.segment →
      Shown_repeat r.repeats h.repeat p.repeat → modrm_bytes r.modrm h ++ imm_bytes (width (width_of r.imm) h.size) h.imm ≡ t →
      Operands (row_of r) (prefixes_for h.size h.segment h.repeat) low (row_of r).modrm t i → AreBytes t → AtMost t rest → has_rm r.modrm h ≡ true → Best r i h (l ++ (opcode_at ++ rest))
  assemble h t st size_is low_eq segment_in repeat_in_p tail operands t_bytes t_least fits =
      let q = prefixes_for h.size h.segment h.repeat in
      let whole : spelling_of r h ≡ least_prefixes q ++ (opcode_at ++ t) =
      spelling_is r h
      ∙ ap (λ n. least_prefixes q ++ (opcode_bytes r.escape (opcode (row_of r) n) ++ (modrm_bytes r.modrm h ++ imm_bytes (width (width_of r.imm) h.size) h.imm))) low_eq
      ∙ ap (λ (z : List ℕ). least_prefixes q ++ (opcode_at ++ z)) tail in
      let op_bytes = AreBytes-front opcode_at rest (AreBytes-back l (opcode_at ++ rest) st.bytes) in
      let parts = and_true (allows_size r.sized p.size) (allows_repeat (repeats_of r.repeats) p.repeat) st.allowed in
      let size_in : Kept (size_prefix h.size) p.size = subst (λ z. Kept (size_prefix z) p.size) (sym size_is) (size_kept l p.size st.are.size) in
      let size_ok : allows_size r.sized (size_prefix h.size) ≡ true = subst (λ z. allows_size r.sized (size_prefix z) ≡ true) (sym size_is) (size_allowed r.sized p.size parts.0) in
      record {
        spells = record {
          prefix = least_prefixes q;
          p = q;
          s = opcode_at ++ t;
          bytes = whole;
          are_bytes = subst AreBytes (sym whole) (AreBytes-append (least_prefixes q) (opcode_at ++ t) (needed_bytes h.size h.segment h.repeat repeat_in_p.is) (AreBytes-append opcode_at t op_bytes t_bytes));
          prefixes = needed_are h.size h.segment h.repeat repeat_in_p.is;
          follows = record {
            r = row_of r;
            place = j;
            low = low;
            rest = t;
            listed = st.listed;
            allowed = true_and (allows_size r.sized (size_prefix h.size)) (allows_repeat (repeats_of r.repeats) h.repeat) size_ok repeat_in_p.allowed;
            within = st.within;
            bytes = refl;
            operands = operands;
          };
        };
        fits = (subst (λ n. opcode (row_of r) n < 256) (sym low_eq) (opcode_small r.escape (opcode (row_of r) low) op_bytes), fits);
        at_most = subst (λ (z : List ℕ). AtMost z (l ++ (opcode_at ++ rest))) (sym whole)
            (AtMost-append (least_prefixes q) l (opcode_at ++ t) (opcode_at ++ rest)
            (prefixes_least l p q st.are (record { size = size_in; segment = segment_in; repeat = repeat_in_p.within }))
            (AtMost-append opcode_at opcode_at t rest (AtMost-refl opcode_at) t_least));
      }

  -- ---- without ModRM

  abbrev pub none_fields : Fields
  none_fields = fields p low 0 (operand.Reg 0) (little_endian rest)

  pub none_read : r.modrm ≡ None → Stands r j l p low rest → length rest ≡ width (width_of r.imm) (operand_size p.size) → IsRead r none_fields
  none_read none_is st len =
      let parts = and_true (allows_size r.sized p.size) (allows_repeat (repeats_of r.repeats) p.repeat) st.allowed in
      let bytes = AreBytes-back opcode_at rest (AreBytes-back l (opcode_at ++ rest) st.bytes) in
      record {
        low = st.within;
        reg = omega arith;
        taken = subst (λ o. RegTaken o 0) (sym none_is) tt;
        imm = imm_below r.imm (operand_size p.size) rest bytes len;
        repeat = repeat_in r.repeats p.repeat (repeat_is l p.repeat st.are.repeat) parts.1;
      }

  pub none_best : r.modrm ≡ None → Stands r j l p low rest → Says r none_fields → length rest ≡ width (width_of r.imm) (operand_size p.size) → i ≡ inst_of r.form none_fields →
      Best r i (shown_of r.form none_fields) (l ++ (opcode_at ++ rest))
  none_best none_is st says len inst =
      let h = shown_of r.form none_fields in
      let parts = and_true (allows_size r.sized p.size) (allows_repeat (repeats_of r.repeats) p.repeat) st.allowed in
      let bytes = AreBytes-back opcode_at rest (AreBytes-back l (opcode_at ++ rest) st.bytes) in
      let size_is : h.size ≡ operand_size p.size = says.size ∙ size_from r.sized p.size parts.0 in
      let low_eq : h.low ≡ low = says.low ∙ low_is r.count low st.within in
      let imm_eq : h.imm ≡ little_endian rest = says.imm ∙ imm_is r.imm (operand_size p.size) rest len in
      let no_modrm : is_some r.modrm ≡ false = ap is_some none_is in
      let segment_eq : h.segment ≡ cond (shows_segment r.form) (segment_of p.segment) seg.None =
      says.segment ∙ ap (λ b. cond b (named_segment h.rm) (cond (shows_segment r.form) (segment_of p.segment) seg.None)) no_modrm in
      let rm_eq : h.rm ≡ operand.Reg 0 = says.rm ∙ ap (λ b. cond b (cond (is_lea r.form) (bare (operand.Reg 0)) (operand.Reg 0)) (operand.Reg 0)) no_modrm in
      let repeat = shown_repeat (shows_repeat r.form) r.repeats p.repeat (repeat_is l p.repeat st.are.repeat) parts.1 says.unneeded in
      let q = prefixes_for h.size h.segment h.repeat in
      let size_q : operand_size q.size ≡ h.size = ap (λ z. operand_size (size_prefix z)) size_is ∙ size_again p.size ∙ sym size_is in
      let len_q : length rest ≡ width (width_of r.imm) (operand_size q.size) = len ∙ ap (width (width_of r.imm)) (sym (size_q ∙ size_is)) in
      let imm_tail : imm_bytes (width (width_of r.imm) h.size) h.imm ≡ rest =
      ap (imm_bytes (width (width_of r.imm) h.size)) imm_eq ∙ imm_again (width_of r.imm) h.size rest bytes (len ∙ ap (width (width_of r.imm)) (sym size_is)) in
      let tail : modrm_bytes r.modrm h ++ imm_bytes (width (width_of r.imm) h.size) h.imm ≡ rest = ap (λ o. modrm_bytes o h ++ imm_bytes (width (width_of r.imm) h.size) h.imm) none_is ∙ imm_tail in
      let reg_eq : 0 ≡ reg_in r.modrm h.reg = sym (ap (λ o. reg_in o h.reg) none_is) in
      let same : fields q low 0 (operand.Reg 0) (little_endian rest) ≡ row_fields r none_fields =
      fields_path (fields q low 0 (operand.Reg 0) (little_endian rest)) (row_fields r none_fields) size_q (segment_again h.segment) refl (sym low_eq) reg_eq (sym rm_eq) (sym imm_eq) in
      let inst_q : i ≡ inst_of r.form (fields q low 0 (operand.Reg 0) (little_endian rest)) = inst ∙ sym says.inst ∙ ap (inst_of r.form) (sym same) in
      assemble h rest st size_is low_eq (subst (λ z. Kept (segment_prefix z) p.segment) (sym segment_eq) (shown_segment (shows_segment r.form) p.segment))
      (subst (λ o. Shown_repeat r.repeats o p.repeat) (sym says.repeat) repeat)
      tail (subst (λ o. Operands (row_of r) q low (modrm_of o) rest i) (sym none_is) (len_q, inst_q)) bytes (AtMost-refl rest) (ap (λ o. has_rm o h) none_is)

  -- ---- with ModRM

  module _ (k : Mode) (m : ℕ) (s : List ℕ) (some_is : r.modrm ≡ Some k) (rest_is : rest ≡ m ∷ s) (c : Completes (row_of r) p low m s i) where
    abbrev pub some_fields : Fields
    some_fields = fields p low (m / 8 % 8) c.rm (little_endian c.imm)

    tail_bytes : Stands r j l p low rest → AreBytes (m ∷ (c.address ++ c.imm))
    tail_bytes st =
        let t = subst AreBytes rest_is (AreBytes-back opcode_at rest (AreBytes-back l (opcode_at ++ rest) st.bytes)) in
        (t.0, subst AreBytes c.bytes t.1)

    pub some_read : takes (mode_of k) m ≡ true → Stands r j l p low rest → IsRead r some_fields
    some_read taken st =
        let parts = and_true (allows_size r.sized p.size) (allows_repeat (repeats_of r.repeats) p.repeat) st.allowed in
        let bytes = tail_bytes st in
        record {
          low = st.within;
          reg = omega arith;
          taken = subst (λ o. RegTaken o (m / 8 % 8)) (sym some_is) (reg_taken k m taken);
          imm = imm_below r.imm (operand_size p.size) c.imm (AreBytes-back c.address c.imm bytes.1) c.width;
          repeat = repeat_in r.repeats p.repeat (repeat_is l p.repeat st.are.repeat) parts.1;
        }

    -- the operand that is shown: Lea shows no segment
    abbrev lea : Bool
    lea = is_lea r.form

    abbrev shown_rm : Operand
    shown_rm = cond lea (bare c.rm) c.rm

    -- its shape, its segment, its kind and its least bytes
    record Shown_rm : Type 0 where
      shape : Shape (named_segment shown_rm) shown_rm
      segment : Kept (segment_prefix (named_segment shown_rm)) p.segment
      suits : SuitsMode k shown_rm
      least : (reg : ℕ) → least_rm reg shown_rm ≡ least_rm reg c.rm

    plain_rm : Stands r j l p low rest → takes (mode_of k) m ≡ true → lea ≡ false → Shown_rm
    plain_rm st taken e =
        let bytes = tail_bytes st in
        let shape = shape_of (segment_of p.segment) (m / 64) (m % 8) (omega arith) c.address c.rm (AreBytes-front c.address c.imm bytes.1) c.operand in
        let o : c.rm ≡ shown_rm = sym (ap (λ b. cond b (bare c.rm) c.rm) e) in
        record {
          shape = subst (λ z. Shape (named_segment z) z) o (reshape (segment_of p.segment) c.rm shape);
          segment = subst (λ z. Kept (segment_prefix (named_segment z)) p.segment) o (named_kept c.rm p.segment (names_of (segment_of p.segment) (m / 64) (m % 8) c.address c.rm c.operand));
          suits = subst (SuitsMode k) o (suits_mode k (segment_of p.segment) m c.address c.rm bytes.0 taken c.operand);
          least = λ reg. ap (least_rm reg) (sym o);
        }

    lea_memory : (k : Mode) → good_mode true (Some k) ≡ true → takes (mode_of k) m ≡ true → m < 256 → k ≡ MemoryOnly
    lea_memory AnyModRm g t lt = absurd cc
    lea_memory MemoryOnly g t lt = refl
    lea_memory RegisterOnly g t lt = absurd cc
    lea_memory (Digit d) g t lt = absurd cc
    lea_memory (DigitFrom d) g t lt = absurd cc
    lea_memory ShiftDigit g t lt = absurd cc
    lea_memory (Exactly b) g t lt = absurd cc

    bare_rm : Stands r j l p low rest → takes (mode_of k) m ≡ true → good_mode lea (Some k) ≡ true → lea ≡ true → Shown_rm
    bare_rm st taken g e =
        let bytes = tail_bytes st in
        let shape = shape_of (segment_of p.segment) (m / 64) (m % 8) (omega arith) c.address c.rm (AreBytes-front c.address c.imm bytes.1) c.operand in
        let o : bare c.rm ≡ shown_rm = sym (ap (λ b. cond b (bare c.rm) c.rm) e) in
        let k_is = lea_memory k (subst (λ b. good_mode b (Some k) ≡ true) e g) taken bytes.0 in
        let t : takes spec.MemoryOnly m ≡ true = subst (λ z. takes (mode_of z) m ≡ true) k_is taken in
        let x = memory_of (segment_of p.segment) (m / 64) (m % 8) c.address c.rm (let lt : m < 192 = ltb-true m 192 t in omega arith) c.operand in
        record {
          shape = subst (λ z. Shape (named_segment z) z) o (bare_shape (segment_of p.segment) c.rm shape);
          segment = subst (λ z. Kept (segment_prefix (named_segment z)) p.segment) o (dropped refl);
          suits = subst (SuitsMode k) o (subst (λ z. SuitsMode z (bare c.rm)) (sym k_is) (_, refl));
          least = λ reg. ap (least_rm reg) (sym o) ∙ bare_least reg c.rm x.0 x.1;
        }

    shown_of_rm : Stands r j l p low rest → takes (mode_of k) m ≡ true → good_mode lea (Some k) ≡ true → Shown_rm
    shown_of_rm st taken g = at lea refl
      where
        at : (b : Bool) → lea ≡ b → Shown_rm
        at true e = bare_rm st taken g e
        at false e = plain_rm st taken e

    abbrev new_reg : ℕ
    new_reg = reg_of (is_set r.form) k (m / 8 % 8)

    pub some_best : takes (mode_of k) m ≡ true → Stands r j l p low rest → Says r some_fields → Best r i (shown_of r.form some_fields) (l ++ (opcode_at ++ rest))
    some_best taken st says =
        let h = shown_of r.form some_fields in
        let parts = and_true (allows_size r.sized p.size) (allows_repeat (repeats_of r.repeats) p.repeat) st.allowed in
        let bytes = tail_bytes st in
        let imm_bytes_are = AreBytes-back c.address c.imm bytes.1 in
        let address_bytes = AreBytes-front c.address c.imm bytes.1 in
        let good : good_mode lea (Some k) ≡ true = subst (λ o. good_mode lea o ≡ true) some_is says.mode in
        let size_is : h.size ≡ operand_size p.size = says.size ∙ size_from r.sized p.size parts.0 in
        let low_eq : h.low ≡ low = says.low ∙ low_is r.count low st.within in
        let imm_eq : h.imm ≡ little_endian c.imm = says.imm ∙ imm_is r.imm (operand_size p.size) c.imm c.width in
        let has_modrm : is_some r.modrm ≡ true = ap is_some some_is in
        let rm_eq : h.rm ≡ shown_rm = says.rm ∙ ap (λ b. cond b shown_rm (operand.Reg 0)) has_modrm in
        let segment_eq : h.segment ≡ named_segment shown_rm =
        says.segment ∙ ap (λ b. cond b (named_segment h.rm) (cond (shows_segment r.form) (segment_of p.segment) seg.None)) has_modrm ∙ ap named_segment rm_eq in
        let reg_is : reg_in r.modrm h.reg ≡ new_reg = says.reg ∙ ap (λ o. elim o as (λ _. ℕ) [ None ↦ 0 | Some z ↦ reg_of (is_set r.form) z (m / 8 % 8) ]) some_is in
        let reg_eq : reg_for k h.reg ≡ new_reg = sym (ap (λ o. reg_in o h.reg) some_is) ∙ reg_is in
        let shown = shown_of_rm st taken good in
        let old_reg : m / 8 % 8 < 8 = omega arith in
        let reg_less : new_reg ≤ m / 8 % 8 = reg_le (is_set r.form) k (m / 8 % 8) (reg_taken k m taken) in
        let reg_lt : new_reg < 8 = omega arith in
        let a = least_spells (named_segment shown_rm) new_reg shown_rm shown.shape in
        let repeat = shown_repeat (shows_repeat r.form) r.repeats p.repeat (repeat_is l p.repeat st.are.repeat) parts.1 says.unneeded in
        let q = prefixes_for h.size h.segment h.repeat in
        let n : ℕ = 64 * a.md + 8 * new_reg + a.rm in
        let n_md : (64 * a.md + 8 * new_reg + a.rm) / 64 ≡ a.md = omega (arith, a.rm_lt, reg_lt) in
        let n_rm : (64 * a.md + 8 * new_reg + a.rm) % 8 ≡ a.rm = omega (arith, a.rm_lt) in
        let n_reg : (64 * a.md + 8 * new_reg + a.rm) / 8 % 8 ≡ new_reg = omega (arith, a.rm_lt, reg_lt) in
        let n_lt : 64 * a.md + 8 * new_reg + a.rm < 256 = omega (arith, a.rm_lt, a.md_lt, reg_lt) in
        let size_q : operand_size q.size ≡ h.size = ap (λ z. operand_size (size_prefix z)) size_is ∙ size_again p.size ∙ sym size_is in
        let segment_q : segment_of q.segment ≡ named_segment shown_rm = segment_again h.segment ∙ segment_eq in
        let width_q : length c.imm ≡ width (width_of r.imm) (operand_size q.size) = c.width ∙ ap (width (width_of r.imm)) (sym (size_q ∙ size_is)) in
        let t = (64 * a.md + 8 * new_reg + a.rm) ∷ (a.rest ++ c.imm) in
        let imm_tail : imm_bytes (width (width_of r.imm) h.size) h.imm ≡ c.imm =
        ap (imm_bytes (width (width_of r.imm) h.size)) imm_eq ∙ imm_again (width_of r.imm) h.size c.imm imm_bytes_are (c.width ∙ ap (width (width_of r.imm)) (sym size_is)) in
        let modrm_tail : modrm_bytes r.modrm h ≡ (64 * a.md + 8 * new_reg + a.rm) ∷ a.rest =
        ap (λ o. modrm_bytes o h) some_is ∙ ap (λ z. least_rm z h.rm) reg_eq ∙ ap (least_rm new_reg) rm_eq ∙ a.is in
        let tail : modrm_bytes r.modrm h ++ imm_bytes (width (width_of r.imm) h.size) h.imm ≡ (64 * a.md + 8 * new_reg + a.rm) ∷ (a.rest ++ c.imm) =
        ap (λ (z : List ℕ). z ++ imm_bytes (width (width_of r.imm) h.size) h.imm) modrm_tail ∙ ap (λ (z : List ℕ). (64 * a.md + 8 * new_reg + a.rm) ∷ (a.rest ++ z)) imm_tail in
        let same : fields q low ((64 * a.md + 8 * new_reg + a.rm) / 8 % 8) shown_rm (little_endian c.imm) ≡ row_fields r some_fields =
        fields_path (fields q low ((64 * a.md + 8 * new_reg + a.rm) / 8 % 8) shown_rm (little_endian c.imm)) (row_fields r some_fields)
        size_q (segment_again h.segment) refl (sym low_eq) (n_reg ∙ sym reg_is) (sym rm_eq) (sym imm_eq) in
        let completes : Completes (row_of r) q low (64 * a.md + 8 * new_reg + a.rm) (a.rest ++ c.imm) i = record {
          address = a.rest;
          imm = c.imm;
          rm = shown_rm;
          bytes = refl;
          operand = subst (λ z. IsRm z ((64 * a.md + 8 * new_reg + a.rm) / 64) ((64 * a.md + 8 * new_reg + a.rm) % 8) a.rest shown_rm) (sym segment_q)
              (subst (λ z. IsRm (named_segment shown_rm) z ((64 * a.md + 8 * new_reg + a.rm) % 8) a.rest shown_rm) (sym n_md)
              (subst (λ z. IsRm (named_segment shown_rm) a.md z a.rest shown_rm) (sym n_rm) a.spells));
          width = width_q;
          inst = c.inst ∙ sym says.inst ∙ ap (inst_of r.form) (sym same);
        } in
        let takes_n = takes_again k lea (is_set r.form) (named_segment shown_rm) m shown_rm good taken shown.suits a reg_lt in
        let m_is : 64 * (m / 64) + 8 * (m / 8 % 8) + m % 8 ≡ m = omega (arith, bytes.0) in
        let old : AtMost (least_rm (m / 8 % 8) c.rm) (m ∷ c.address) =
        subst (λ z. AtMost (least_rm (m / 8 % 8) c.rm) (z ∷ c.address)) m_is
        (rm_least (segment_of p.segment) (m / 64) (m / 8 % 8) (m % 8) (let lt : m < 256 = bytes.0 in omega arith) c.address c.rm address_bytes c.operand) in
        let new : AtMost (least_rm new_reg shown_rm) (m ∷ c.address) =
        AtMost-trans (least_rm new_reg shown_rm) (least_rm (m / 8 % 8) c.rm) (m ∷ c.address)
        (subst (λ (z : List ℕ). AtMost z (least_rm (m / 8 % 8) c.rm)) (sym (shown.least new_reg)) (least_rm_le new_reg (m / 8 % 8) c.rm reg_less)) old in
        let new_at : AtMost ((64 * a.md + 8 * new_reg + a.rm) ∷ a.rest) (m ∷ c.address) = subst (λ (z : List ℕ). AtMost z (m ∷ c.address)) a.is new in
        let least : AtMost ((64 * a.md + 8 * new_reg + a.rm) ∷ (a.rest ++ c.imm)) rest =
        subst (λ (z : List ℕ). AtMost ((64 * a.md + 8 * new_reg + a.rm) ∷ (a.rest ++ c.imm)) z) (sym (rest_is ∙ ap (λ (z : List ℕ). m ∷ z) c.bytes))
        (AtMost-append ((64 * a.md + 8 * new_reg + a.rm) ∷ a.rest) (m ∷ c.address) c.imm c.imm new_at (AtMost-refl c.imm)) in
        let fits : has_rm r.modrm h ≡ true =
        ap (λ o. has_rm o h) some_is ∙ ap (λ z. is_rm z h.rm) reg_eq ∙ ap (is_rm new_reg) rm_eq ∙ is_rm_of new_reg (named_segment shown_rm) shown_rm reg_lt shown.shape in
        assemble h ((64 * a.md + 8 * new_reg + a.rm) ∷ (a.rest ++ c.imm)) st size_is low_eq
        (subst (λ z. Kept (segment_prefix z) p.segment) (sym segment_eq) shown.segment)
        (subst (λ o. Shown_repeat r.repeats o p.repeat) (sym says.repeat) repeat)
        tail
        (subst (λ o. Operands (row_of r) q low (modrm_of o) ((64 * a.md + 8 * new_reg + a.rm) ∷ (a.rest ++ c.imm)) i) (sym some_is) (takes_n, completes))
        (n_lt, AreBytes-append a.rest c.imm a.bytes imm_bytes_are) least fits
