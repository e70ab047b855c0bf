-- An r/m operand is read as it is spelled.
use Rattle.std.proofs.Common.{◌≡◌, ℕ, ◌/◌, ◌%◌, Bool, true, false, cond, List, [], ◌∷◌, ◌++◌, length, Option, Some, None, Ok, refl, ap, ◌∙◌, arith}
use Rattle.std.specs.Prelude.{MatchBool, ◌==◌}
use Rattle.x86_inst.specs.declared.Inst.{Inst}
use Rattle.x86_inst.specs.declared.Seg.{Seg}
use Rattle.x86_inst.specs.declared.Operand.{Operand}
use Rattle.x86_inst.specs.declared.Operand.TheVariants as operand
use Rattle.x86_inst.specs.Rows.{Prefixes, Row, width, operand_size, segment_of}
use Rattle.x86_inst.specs.Spelling.{displacement_len, mem, index_of, scale_of, fields, little_endian, IsSib, IsDisplaced, IsRegister, IsRm, Completes}
use Rattle.x86_decode.specs.Reading.{Read, ◌>>=◌, bytes_at, byte_then, number_at, displaced_at, sib_at, rm_at, completes_at}
use Rattle.x86_decode.proofs.Strings.{Reads, Some_of, AreBytes-append, HasLength, reads_bytes, some_bytes, reads_done, Then, reads_then, reads_as, reads_map, reads_if, ByteThen, reads_byte}

abbrev IsAt : Seg → (md base : ℕ) → Option ℕ → (scale : ℕ) → List ℕ → Operand → Type 0
IsAt seg md base index scale disp o = (length disp ≡ displacement_len md base) × (o ≡ mem seg md base index scale disp)

reads_displaced : (seg : Seg) (md base : ℕ) (index : Option ℕ) (scale : ℕ) → Reads (displaced_at seg md base index scale) (IsAt seg md base index scale)
reads_displaced seg md base index scale =
    reads_as (displaced_at seg md base index scale) _ (IsAt seg md base index scale)
    (reads_map (bytes_at (displacement_len md base)) (HasLength (displacement_len md base)) (mem seg md base index scale) (reads_bytes (displacement_len md base)))
    (λ s o h. (h.1.1, h.2 ∙ ap (mem seg md base index scale) h.1.0))
    (λ s o h. (s, (refl, h.0), h.1))

some_displaced : (seg : Seg) (md base : ℕ) (index : Option ℕ) (scale : ℕ) → Some_of (IsAt seg md base index scale)
some_displaced seg md base index scale =
    let z = some_bytes (displacement_len md base) in
    record { s = z.s; a = mem seg md base index scale z.s; are_bytes = z.are_bytes; holds = (z.holds.1, refl) }

abbrev IsSibWith : Seg → (md : ℕ) → ℕ → List ℕ → Operand → Type 0
IsSibWith seg md sib = IsAt seg md (sib % 8) (index_of (sib / 8 % 8)) (scale_of (sib / 64) (sib / 8 % 8))

sib_to : (seg : Seg) (md : ℕ) (s : List ℕ) (o : Operand) → ByteThen (IsSibWith seg md) s o → IsSib seg md s o
sib_to seg md [] o h = h
sib_to seg md (b ∷ s) o h = h

sib_from : (seg : Seg) (md : ℕ) (s : List ℕ) (o : Operand) → IsSib seg md s o → ByteThen (IsSibWith seg md) s o
sib_from seg md [] o h = h
sib_from seg md (b ∷ s) o h = h

reads_sib : (seg : Seg) (md : ℕ) → Reads (byte_then (sib_at seg md)) (IsSib seg md)
reads_sib seg md =
    reads_as (byte_then (sib_at seg md)) (ByteThen (IsSibWith seg md)) (IsSib seg md)
    (reads_byte (sib_at seg md) (IsSibWith seg md) (λ b. reads_displaced seg md (b % 8) (index_of (b / 8 % 8)) (scale_of (b / 64) (b / 8 % 8)))
    0 (omega arith) (some_displaced seg md 0 (Some 0) 1))
    (sib_to seg md) (sib_from seg md)

some_sib : (seg : Seg) (md : ℕ) → Some_of (IsSib seg md)
some_sib seg md =
    let d = some_displaced seg md 0 (Some 0) 1 in
    record { s = 0 ∷ d.s; a = d.a; are_bytes = (omega arith, d.are_bytes); holds = d.holds }

pub reads_rm : (seg : Seg) (md rm : ℕ) → Reads (rm_at seg md rm) (IsRm seg md rm)
unfolding rm_at
reads_rm seg md rm =
    reads_if (md == 3) (λ x. Ok (operand.Reg rm, x)) (λ x. cond (rm == 4) (byte_then (sib_at seg md) x) (displaced_at seg md rm None 1 x))
    (IsRegister rm) (λ s o. MatchBool (rm == 4) (IsSib seg md s o) (IsDisplaced seg md rm s o))
    (reads_done (operand.Reg rm))
    (reads_if (rm == 4) (byte_then (sib_at seg md)) (displaced_at seg md rm None 1) (IsSib seg md) (IsDisplaced seg md rm)
    (reads_sib seg md) (reads_displaced seg md rm None 1))

some_if : {A : Type 0} (b : Bool) (R S : List ℕ → A → Type 0) → Some_of R → Some_of S → Some_of (λ s a. MatchBool b (R s a) (S s a))
some_if true R S r s = record { s = r.s; a = r.a; are_bytes = r.are_bytes; holds = r.holds }
some_if false R S r s = record { s = s.s; a = s.a; are_bytes = s.are_bytes; holds = s.holds }

pub some_rm : (seg : Seg) (md rm : ℕ) → Some_of (IsRm seg md rm)
some_rm seg md rm =
    some_if (md == 3) (IsRegister rm) (λ s o. MatchBool (rm == 4) (IsSib seg md s o) (IsDisplaced seg md rm s o))
    (record { s = []; a = operand.Reg rm; are_bytes = tt; holds = (refl, refl) })
    (some_if (rm == 4) (IsSib seg md) (IsDisplaced seg md rm) (some_sib seg md) (some_displaced seg md rm None 1))

-- ---- the immediate

abbrev pub IsNumber : ℕ → List ℕ → ℕ → Type 0
IsNumber n s v = (length s ≡ n) × (v ≡ little_endian s)

reads_number : (n : ℕ) → Reads (number_at n) (IsNumber n)
reads_number n =
    reads_as (number_at n) _ (IsNumber n)
    (reads_map (bytes_at n) (HasLength n) little_endian (reads_bytes n))
    (λ s v h. (h.1.1, h.2 ∙ ap little_endian h.1.0))
    (λ s v h. (s, (refl, h.0), h.1))

-- a value made of the immediate
abbrev pub Immediate : ℕ → (ℕ → Inst) → List ℕ → Inst → Type 0
Immediate n f s i = (length s ≡ n) × (i ≡ f (little_endian s))

abbrev pub immediate_at : ℕ → (ℕ → Inst) → List ℕ → Read Inst
immediate_at n f x = number_at n x >>= λ v. Ok (f v.0, v.1)

pub reads_immediate : (n : ℕ) (f : ℕ → Inst) → Reads (immediate_at n f) (Immediate n f)
reads_immediate n f =
    reads_as (immediate_at n f) _ (Immediate n f)
    (reads_map (number_at n) (IsNumber n) f (reads_number n))
    (λ s i h. (h.1.0, h.2 ∙ ap f h.1.1))
    (λ s i h. (little_endian s, (h.0, refl), h.1))

pub some_immediate : (n : ℕ) (f : ℕ → Inst) → Some_of (Immediate n f)
some_immediate n f =
    let z = some_bytes n in
    record { s = z.s; a = f (little_endian z.s); are_bytes = z.are_bytes; holds = (z.holds.1, refl) }

-- ---- a row's operand and immediate

module _ (r : Row) (p : Prefixes) (low m : ℕ) where
  abbrev made : Operand → ℕ → Inst
  made o n = r.inst (fields p low (m / 8 % 8) o n)

  abbrev imm_len : ℕ
  imm_len = width r.imm (operand_size p.size)

  abbrev Parts : List ℕ → Inst → Type 0
  Parts = Then (IsRm (segment_of p.segment) (m / 64) (m % 8)) (λ o. Immediate imm_len (made o))

  completes_to : (s : List ℕ) (i : Inst) → Parts s i → Completes r p low m s i
  completes_to s i h = record { address = h.front; imm = h.back; rm = h.value; bytes = h.parts; operand = h.first; width = h.second.0; inst = h.second.1 }

  completes_from : (s : List ℕ) (i : Inst) → Completes r p low m s i → Parts s i
  completes_from s i h = record { front = h.address; back = h.imm; value = h.rm; parts = h.bytes; first = h.operand; second = (h.width, h.inst) }

  pub reads_completes : Reads (completes_at r p low m) (Completes r p low m)
  unfolding completes_at
  reads_completes =
      reads_as (completes_at r p low m) Parts (Completes r p low m)
      (reads_then (rm_at (segment_of p.segment) (m / 64) (m % 8)) (IsRm (segment_of p.segment) (m / 64) (m % 8))
      (λ o. immediate_at imm_len (made o)) (λ o. Immediate imm_len (made o))
      (reads_rm (segment_of p.segment) (m / 64) (m % 8))
      (λ o. reads_immediate imm_len (made o))
      (λ o. some_immediate imm_len (made o)))
      completes_to completes_from

  pub some_completes : Some_of (Completes r p low m)
  some_completes =
      let o = some_rm (segment_of p.segment) (m / 64) (m % 8) in
      let n = some_immediate imm_len (made o.a) in
      record {
        s = o.s ++ n.s;
        a = n.a;
        are_bytes = AreBytes-append o.s n.s o.are_bytes n.are_bytes;
        holds = record { address = o.s; imm = n.s; rm = o.a; bytes = refl; operand = o.holds; width = n.holds.0; inst = n.holds.1 };
      }
