-- What reading says of spellings.
use Rattle.std.proofs.Common.{◌≡◌, ℕ, suc, ◌+◌, ◌-◌, ◌/◌, ◌%◌, ◌<◌, ◌≤◌, Bool, true, false, cond, List, [], ◌∷◌, ◌++◌, length, take, drop, get_or, Option, Some, None, Ok, Err, refl, sym, ap, subst, ◌∙◌, arith, length-append, append_assoc}
use Rattle.std.specs.Prelude.{◌==◌, ◌||◌, filter, MatchBool}
use Rattle.std.specs.Option.{option_to_list}
use Rattle.std.proofs.lemmas.List.{take_at, take-append-drop, append-nil}
use Rattle.x86_inst.specs.declared.Inst.{Inst}
use Rattle.x86_inst.specs.declared.Size.{Size}
use Rattle.x86_inst.specs.declared.Size.TheVariants.{B, H, W}
use Rattle.x86_inst.specs.declared.Seg.{Seg}
use Rattle.x86_inst.specs.declared.Operand.{Operand}
use Rattle.x86_inst.specs.Rows.{Prefixes, Row, Mode, Width, NoImm, Imm8, Imm16, ImmV, Imm32, width, operand_size, segment_of}
use Rattle.x86_inst.specs.Spelling.{AreBytes, opcode, opcode_bytes, Operands, ArePrefixes, AllPrefixBytes, is_size, is_segment, is_repeat, Spells, OneReading, IsRm, IsSib, IsDisplaced, IsRegister, displacement_len}
use Rattle.x86_decode.specs.declared.fields.Stop.{Stop}
use Rattle.x86_decode.specs.declared.fields.Stop.TheVariants.{Cut, Bad}
use Rattle.x86_decode.specs.Reading.{read_at}
use Rattle.x86_decode.specs.Decodes.{NoneBegins, IsBegun}
use Rattle.x86_decode.proofs.Strings.{AreBytes-append, ok_is}
use Rattle.x86_decode.proofs.Prefixed.{Spelled, reads_all}

pub AreBytes-from : (x : List ℕ) → ((i : ℕ) → get_or x i 0 < 256) → AreBytes x
AreBytes-from [] h = tt
AreBytes-from (b ∷ x) h = (h 0, AreBytes-from x (λ i. h (suc i)))

AreBytes-front : (s y : List ℕ) → AreBytes (s ++ y) → AreBytes s
AreBytes-front [] y h = tt
AreBytes-front (b ∷ s) y h = (h.0, AreBytes-front s y h.1)

spells : (x : List ℕ) (i : Inst) → AreBytes x → Spelled x i → Spells x i
spells x i b h = record { prefix = h.prefix; p = h.p; s = h.s; bytes = h.bytes; are_bytes = b; prefixes = h.prefixes; follows = h.follows }

spelled : (x : List ℕ) (i : Inst) → Spells x i → Spelled x i
spelled x i h = record { prefix = h.prefix; p = h.p; s = h.s; bytes = h.bytes; prefixes = h.prefixes; follows = h.follows }

-- a spelling is read, whatever follows
pub again : (x : List ℕ) (i : Inst) → Spells x i → (y : List ℕ) → read_at (x ++ y) ≡ Ok (i, y)
again x i h y = reads_all.complete x i (spelled x i h) y

pub one_reading : OneReading
one_reading x y i j h k =
    let a : read_at (x ++ y) ≡ Ok (i, y) = again x i h y in
    let b : read_at (x ++ y) ≡ Ok (j, []) = ap read_at (sym (append-nil (x ++ y))) ∙ again (x ++ y) j k [] in
    let e : (i, y) ≡ (j, []) = ok_is (i, y) (j, []) (sym a ∙ b) in
    (ap (λ (p : Inst × List ℕ). p.1) e, ap (λ (p : Inst × List ℕ). p.0) e)

pub none_begins : (x : List ℕ) (d : Stop) → read_at x ≡ Err d → NoneBegins x
none_begins x d e n i h =
    let k : read_at x ≡ Ok (i, drop n x) = ap read_at (sym (take-append-drop n x)) ∙ again (take n x) i h (drop n x) in
    cc

pub is_begun : (x : List ℕ) → AreBytes x → read_at x ≡ Err Cut → IsBegun x
is_begun x b e =
    let k = reads_all.cut x e in
    (k.0, k.2, spells (x ++ k.0) k.2 (AreBytes-append x k.0 b k.1) k.3)

pub not_begun : (x : List ℕ) → read_at x ≡ Err Bad → IsBegun x → ⊥
not_begun x e h =
    let a = reads_all.bad x e (h.0 ++ []) in
    let b : read_at (x ++ (h.0 ++ [])) ≡ Ok (h.1, []) = ap read_at (sym (append_assoc x h.0 [])) ∙ again (x ++ h.0) h.1 h.2 [] in
    cc

-- ---- a spelling has at most 15 bytes

length_option : (o : Option ℕ) → length (option_to_list o) ≤ 1
length_option None = omega arith
length_option (Some b) = omega arith

length_prefixes : (l : List ℕ) → AllPrefixBytes l → length l ≤ length (filter is_size l) + length (filter is_segment l) + length (filter is_repeat l)
length_prefixes [] h = omega arith
length_prefixes (b ∷ l) h = at (is_size b) (is_segment b) (is_repeat b) h.0 (length_prefixes l h.1)
  where
    at : (u v w : Bool) → (u || (v || w)) ≡ true → length l ≤ length (filter is_size l) + length (filter is_segment l) + length (filter is_repeat l) →
        suc (length l) ≤ length (cond u (b ∷ filter is_size l) (filter is_size l)) + length (cond v (b ∷ filter is_segment l) (filter is_segment l)) + length (cond w (b ∷ filter is_repeat l) (filter is_repeat l))
    at true true true t le = omega arith
    at true true false t le = omega arith
    at true false true t le = omega arith
    at true false false t le = omega arith
    at false true true t le = omega arith
    at false true false t le = omega arith
    at false false true t le = omega arith
    at false false false t le = absurd cc

short_prefixes : (l : List ℕ) (p : Prefixes) → ArePrefixes l p → length l ≤ 3
short_prefixes l p h =
    omega (arith, length_prefixes l h.only, ap length h.size, ap length h.segment, ap length h.repeat, length_option p.size, length_option p.segment, length_option p.repeat)

width_short : (w : Width) (s : Size) → width w s ≤ 4
width_short NoImm s = omega arith
width_short Imm8 s = omega arith
width_short Imm16 s = omega arith
width_short ImmV B = omega arith
width_short ImmV H = omega arith
width_short ImmV W = omega arith
width_short Imm32 s = omega arith

displacement_short : (md base : ℕ) → displacement_len md base ≤ 4
displacement_short md base = at (md == 1) (md == 2) (base == 5)
  where
    at : (u v w : Bool) → cond u 1 (cond v 4 (cond w 4 0)) ≤ 4
    at true v w = omega arith
    at false true w = omega arith
    at false false true = omega arith
    at false false false = omega arith

sib_short : (seg : Seg) (md : ℕ) (s : List ℕ) (o : Operand) → IsSib seg md s o → length s ≤ 5
sib_short seg md [] o h = absurd h
sib_short seg md (b ∷ s) o h = omega (arith, h.0, displacement_short md (b % 8))

rm_short : (seg : Seg) (md rm : ℕ) (s : List ℕ) (o : Operand) → IsRm seg md rm s o → length s ≤ 5
rm_short seg md rm s o h = at (md == 3) (rm == 4) h
  where
    at : (u v : Bool) → MatchBool u (IsRegister rm s o) (MatchBool v (IsSib seg md s o) (IsDisplaced seg md rm s o)) → length s ≤ 5
    at true v h = omega (arith, ap length h.0)
    at false true h = sib_short seg md s o h
    at false false h = omega (arith, h.0, displacement_short md rm)

operands_short : (r : Row) (p : Prefixes) (low : ℕ) (k : Option Mode) (s : List ℕ) (i : Inst) → Operands r p low k s i → length s ≤ 10
operands_short r p low None s i h = omega (arith, h.0, width_short r.imm (operand_size p.size))
operands_short r p low (Some k) [] i h = absurd h
operands_short r p low (Some k) (m ∷ s) i h =
    omega (arith, ap length h.1.bytes, length-append h.1.address h.1.imm, rm_short (segment_of p.segment) (m / 64) (m % 8) h.1.address h.1.rm h.1.operand, h.1.width, width_short r.imm (operand_size p.size))

opcode_short : (e : Bool) (op : ℕ) → length (opcode_bytes e op) ≤ 2
opcode_short true op = omega arith
opcode_short false op = omega arith

short : (x : List ℕ) (i : Inst) → Spelled x i → length x ≤ 15
short x i h =
    let f = h.follows in
    omega (
      arith,
      ap length h.bytes,
      length-append h.prefix h.s,
      short_prefixes h.prefix h.p h.prefixes,
      ap length f.bytes,
      length-append (opcode_bytes f.r.escape (opcode f.r f.low)) f.rest,
      opcode_short f.r.escape (opcode f.r f.low),
      operands_short f.r h.p f.low f.r.modrm f.rest i f.operands,
    )

-- what was read
pub record Front (x : List ℕ) (i : Inst) (n : ℕ) : Type 0 where
  pub within : n ≤ length x
  pub small : n ≤ 15
  pub spells : Spells (take n x) i

pub front : (x : List ℕ) (i : Inst) (y : List ℕ) → AreBytes x → read_at x ≡ Ok (i, y) → Front x i (length x - length y)
front x i y b e =
    let k = reads_all.sound x i y e in
    let l : length x ≡ length k.0 + length y = ap length k.1 ∙ length-append k.0 y in
    let n : length x - length y ≡ length k.0 = omega arith in
    let t : take (length x - length y) x ≡ k.0 = rw n (ap (take (length k.0)) k.1 ∙ take_at k.0 y (length k.0) refl) in
    let bytes : AreBytes k.0 = AreBytes-front k.0 y (subst AreBytes k.1 b) in
    record { within = omega arith; small = omega (arith, short k.0 i k.2); spells = subst (λ (z : List ℕ). Spells z i) (sym t) (spells k.0 i bytes k.2) }

pub within : (x : List ℕ) (i : Inst) (y : List ℕ) → AreBytes x → read_at x ≡ Ok (i, y) → length y ≤ length x
within x i y b e =
    let k = reads_all.sound x i y e in
    omega (arith, ap length k.1, length-append k.0 y)
