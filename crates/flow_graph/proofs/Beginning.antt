-- What the bytes of a range begin with: one instruction at most, and of some bytes.
use Rattle.std.proofs.Common.{◌≡◌, ℕ, zero, suc, ◌+◌, ◌-◌, ◌<◌, ◌≤◌, inl, inr, Bool, true, false, List, [], ◌++◌, length, take, drop, Option, Some, None, refl, sym, ap, ◌∙◌, subst, arith, length-append, take-add, length-take}
use Rattle.std.proofs.lemmas.Bool.{cases_lt}
use Rattle.elf_image.specs.declared.image.Segment.{Segment}
use Rattle.elf_image.specs.declared.range.Range.{Range}
use Rattle.elf_image.specs.Range.{bytes_to_end}
use Rattle.x86_inst.specs.declared.Inst.{Inst}
use Rattle.x86_inst.specs.Spelling.{Spells, opcode, opcode_bytes}
use Rattle.x86_decode.proofs.Decoding.{one_reading}
use Rattle.machine.specs.Code.{BeginsAt, Decodes}

some_opcode : (e : Bool) (op : ℕ) → 0 < length (opcode_bytes e op)
some_opcode true op = omega arith
some_opcode false op = omega arith

-- a spelling has a byte
pub some_byte : (x : List ℕ) (i : Inst) → Spells x i → 0 < length x
some_byte x i s =
    let f = s.follows in
    omega (arith, ap length s.bytes, length-append s.prefix s.s, ap length f.bytes, length-append (opcode_bytes f.r.escape (opcode f.r f.low)) f.rest, some_opcode f.r.escape (opcode f.r f.low))

pub some_bytes : (x : List ℕ) (n : ℕ) (i : Inst) → Spells (take n x) i → 0 < n
some_bytes x zero i s = some_byte [] i s
some_bytes x (suc n) i s = omega arith

-- a shorter front begins a longer one
fronts : (x : List ℕ) (n k : ℕ) → take (n + k) x ≡ take n x ++ take k (drop n x)
fronts x n k = take-add n k x

one_of_two : (x : List ℕ) (n k : ℕ) (i j : Inst) → n + k ≤ length x → Spells (take n x) i → Spells (take (n + k) x) j → (k ≡ 0) × (i ≡ j)
one_of_two x n k i j le s t =
    let e = one_reading (take n x) (take k (drop n x)) i j s (subst (λ y. Spells y j) (fronts x n k) t) in
    let none : length (take k (drop n x)) ≡ 0 = ap length e.0 in
    let whole : length (take (n + k) x) ≡ length (take n x) + length (take k (drop n x)) = ap length (fronts x n k) ∙ length-append (take n x) (take k (drop n x)) in
    (grind (arith, none, whole, length-take n x, length-take (n + k) x, le), e.1)

-- the bytes begin with one instruction at most
pub one_beginning : (x : List ℕ) (n k : ℕ) (i j : Inst) → n ≤ length x → k ≤ length x → Spells (take n x) i → Spells (take k x) j → (n ≡ k) × (i ≡ j)
one_beginning x n k i j le lk s t = elim (cases_lt n k) [
  | inl lt ↦
      let e : n + (k - n) ≡ k = omega (arith, lt) in
      let p = one_of_two x n (k - n) i j (omega (arith, lk, lt)) s (subst (λ y. Spells (take y x) j) (sym e) t) in
      (omega (arith, lt, p.0), p.1)
  | inr ge ↦
      let e : k + (n - k) ≡ n = omega (arith, ge) in
      let p = one_of_two x k (n - k) j i (omega (arith, le, ge)) t (subst (λ y. Spells (take y x) i) (sym e) s) in
      (omega (arith, ge, p.0), sym p.1)
]

-- the instruction that is found at an address is the one that begins there
decoded_by : (m : List Segment) (r : Range) (decoded : ℕ → Option (Inst × ℕ)) (a : ℕ) (i : Inst) (n : ℕ) (o : Option (Inst × ℕ))
    → Decodes m r decoded → decoded a ≡ o → BeginsAt m r a i n → o ≡ Some (i, n)
decoded_by m r decoded a i n None d e b = absurd (d.none a i n e b)
decoded_by m r decoded a i n (Some (j, k)) d e b =
    let f = d.found a j k e in
    let p = one_beginning (bytes_to_end m r a) k n j i f.within b.within f.spelled b.spelled in
    (λ t. Some (p.1 t, p.0 t))

pub decoded_is : (m : List Segment) (r : Range) (decoded : ℕ → Option (Inst × ℕ)) (a : ℕ) (i : Inst) (n : ℕ) → Decodes m r decoded → BeginsAt m r a i n
    → decoded a ≡ Some (i, n)
decoded_is m r decoded a i n d b = decoded_by m r decoded a i n (decoded a) d refl b
