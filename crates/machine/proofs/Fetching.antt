-- What the bytes from an address on begin with: one instruction at most, and within 15 bytes.
use Rattle.std.proofs.Common.{◌≡◌, ℕ, zero, suc, ◌+◌, ◌-◌, ◌^◌, ◌<◌, ◌≤◌, inl, inr, Bool, true, nat_lt, List, [], ◌∷◌, ◌++◌, length, take, drop, Option, Some, None, Ok, min, refl, sym, ap, ◌∙◌, subst, arith, length-append, take-add, length-take, append-nil}
use Rattle.std.specs.Prelude.{nat_le, if◌then◌else◌}
use Rattle.std.proofs.lemmas.Bool.{cases_lt, and_parts, and_from, ltb-true, lt-ltb, le-leb}
use Rattle.std.proofs.lemmas.List.{take_all}
use Rattle.elf_image.specs.declared.image.Segment.{Segment}
use Rattle.elf_image.specs.declared.range.Range.{Range}
use Rattle.elf_image.specs.Image.{frozen_byte}
use Rattle.elf_image.specs.Range.{range, is_inside, frozen_from, before_some, bytes_to_end}
use Rattle.x86_inst.specs.declared.Inst.{Inst}
use Rattle.x86_inst.specs.Spelling.{Spells}
use Rattle.x86_decode.specs.Reading.{read_at}
use Rattle.x86_decode.specs.Decodes.{NoneBegins}
use Rattle.x86_decode.proofs.Decoding.{one_reading, again, front}
use Rattle.machine.specs.Code.{BeginsAt, Decodes}

-- ---- one instruction

-- a shorter front begins a longer one
fronts : (x : List ℕ) (n k : ℕ) → take (n + k) x ≡ take n x ++ take k (drop n x)
fronts x n k = take-add n k x

one_of_two : (x : List ℕ) (n k : ℕ) (i j : Inst) → n + k ≤ length x → Spells (take n x) i → Spells (take (n + k) x) j → (k ≡ 0) × (i ≡ j)
one_of_two x n k i j le s t =
    let e = one_reading (take n x) (take k (drop n x)) i j s (subst (λ y. Spells y j) (fronts x n k) t) in
    let none : length (take k (drop n x)) ≡ 0 = ap length e.0 in
    let whole : length (take (n + k) x) ≡ length (take n x) + length (take k (drop n x)) = ap length (fronts x n k) ∙ length-append (take n x) (take k (drop n x)) in
    (grind (arith, none, whole, length-take n x, length-take (n + k) x, le), e.1)

-- the bytes begin with one instruction at most
one_beginning : (x : List ℕ) (n k : ℕ) (i j : Inst) → n ≤ length x → k ≤ length x → Spells (take n x) i → Spells (take k x) j → (n ≡ k) × (i ≡ j)
one_beginning x n k i j le lk s t = elim (cases_lt n k) [
  | inl lt ↦
      let e : n + (k - n) ≡ k = omega (arith, lt) in
      let p = one_of_two x n (k - n) i j (omega (arith, lk, lt)) s (subst (λ y. Spells (take y x) j) (sym e) t) in
      (omega (arith, lt, p.0), p.1)
  | inr ge ↦
      let e : k + (n - k) ≡ n = omega (arith, ge) in
      let p = one_of_two x k (n - k) j i (omega (arith, le, ge)) t (subst (λ y. Spells (take y x) i) (sym e) s) in
      (omega (arith, ge, p.0), sym p.1)
]

decoded_by : (m : List Segment) (r : Range) (decoded : ℕ → Option (Inst × ℕ)) (a : ℕ) (i : Inst) (n : ℕ) (o : Option (Inst × ℕ))
    → Decodes m r decoded → decoded a ≡ o → BeginsAt m r a i n → o ≡ Some (i, n)
decoded_by m r decoded a i n None d e b = absurd (d.none a i n e b)
decoded_by m r decoded a i n (Some (j, k)) d e b =
    let f = d.found a j k e in
    let p = one_beginning (bytes_to_end m r a) k n j i f.within b.within f.spelled b.spelled in
    (λ t. Some (p.1 t, p.0 t))

-- the instruction that is found at an address is the one that begins there
pub decoded_is : (m : List Segment) (r : Range) (decoded : ℕ → Option (Inst × ℕ)) (a : ℕ) (i : Inst) (n : ℕ) → Decodes m r decoded → BeginsAt m r a i n
    → decoded a ≡ Some (i, n)
decoded_is m r decoded a i n d b = decoded_by m r decoded a i n (decoded a) d refl b

-- ---- within 15 bytes

short : (x : List ℕ) (i : Inst) → Spells x i → length x ≤ 15
short x i s =
    let read : read_at x ≡ Ok (i, []) = ap read_at (sym (append-nil x)) ∙ again x i s [] in
    omega (arith, (front x i [] s.are_bytes read).small)

-- the bytes that are looked at are a front
cut : (m : List Segment) (a n k : ℕ) → n ≤ k → frozen_from m a n ≡ take n (frozen_from m a k)
cut m a zero k h = refl
cut m a (suc n) zero h = absurd (omega (arith, h))
cut m a (suc n) (suc k) h = at (frozen_byte m a) (cut m (a + 1) n k (omega (arith, h)))
  where
    at : (o : Option ℕ) → frozen_from m (a + 1) n ≡ take n (frozen_from m (a + 1) k) → before_some o (frozen_from m (a + 1) n) ≡ take (suc n) (before_some o (frozen_from m (a + 1) k))
    at None e = refl
    at (Some b) e = ap (λ xs. b ∷ xs) e

at_most : (m : List Segment) (a k : ℕ) → length (frozen_from m a k) ≤ k
at_most m a zero = omega arith
at_most m a (suc k) = at (frozen_byte m a) (at_most m (a + 1) k)
  where
    at : (o : Option ℕ) → length (frozen_from m (a + 1) k) ≤ k → length (before_some o (frozen_from m (a + 1) k)) ≤ suc k
    at None h = omega arith
    at (Some b) h = omega (arith, h)

-- fewer of them are a front of all
pub fewer : (m : List Segment) (a n k l : ℕ) → l ≡ min n k → frozen_from m a l ≡ take n (frozen_from m a k)
fewer m a n k l e = elim (cases_lt n k) [
  | inl lt ↦ let f : l ≡ n = omega (arith, lt, e) in ap (frozen_from m a) f ∙ cut m a n k (omega (arith, lt))
  | inr le ↦ let f : l ≡ k = omega (arith, le, e) in ap (frozen_from m a) f ∙ sym (take_all n (frozen_from m a k) (omega (arith, le, at_most m a k)))
]

take_take : (x : List ℕ) (n k : ℕ) → n ≤ k → take n (take k x) ≡ take n x
take_take x zero k h = refl
take_take x (suc n) zero h = absurd (omega (arith, h))
take_take [] (suc n) (suc k) h = refl
take_take (b ∷ x) (suc n) (suc k) h = ap (λ xs. b ∷ xs) (take_take x n k (omega (arith, h)))

-- the instruction that 15 bytes begin with is found
pub found_is : (m : List Segment) (r : Range) (decoded : ℕ → Option (Inst × ℕ)) (a : ℕ) (i : Inst) (n : ℕ) → Decodes m r decoded
    → n ≤ length (take 15 (bytes_to_end m r a)) → Spells (take n (take 15 (bytes_to_end m r a))) i → Some (i, n) ≡ decoded a
found_is m r decoded a i n d le s =
    let x : List ℕ = bytes_to_end m r a in
    let l = length-take 15 x in
    sym (decoded_is m r decoded a i n d (record { within = omega (arith, le, l); spelled = subst (λ y. Spells y i) (take_take x n 15 (omega (arith, le, l))) s }))

none_by : (m : List Segment) (r : Range) (decoded : ℕ → Option (Inst × ℕ)) (a : ℕ) (o : Option (Inst × ℕ)) → Decodes m r decoded
    → NoneBegins (take 15 (bytes_to_end m r a)) → decoded a ≡ o → o ≡ None
none_by m r decoded a None d none e = refl
none_by m r decoded a (Some (i, n)) d none e =
    let x : List ℕ = bytes_to_end m r a in
    let f = d.found a i n e in
    let le : n ≤ 15 = omega (arith, short (take n x) i f.spelled, length-take n x, f.within) in
    absurd (none n i (subst (λ y. Spells y i) (sym (take_take x n 15 le)) f.spelled))

-- where they begin with none, none is
pub none_is : (m : List Segment) (r : Range) (decoded : ℕ → Option (Inst × ℕ)) (a : ℕ) → Decodes m r decoded
    → NoneBegins (take 15 (bytes_to_end m r a)) → None ≡ decoded a
none_is m r decoded a d none = sym (none_by m r decoded a (decoded a) d none refl)

-- the bytes of the window of a range, which has 15 of them at most
pub window_is : (m : List Segment) (r : Range) (at l : ℕ) → is_inside r at ≡ true → l ≡ min (r.entry + r.size - at) 15
    → bytes_to_end m (range at l) at ≡ take 15 (bytes_to_end m r at)
window_is m r at l h e =
    let p = and_parts (nat_le r.entry at) (nat_lt at (r.entry + r.size)) h in
    let below : at < r.entry + r.size = ltb-true at (r.entry + r.size) p.1 in
    let inside : is_inside (range at l) at ≡ true = and_from (nat_le at at) (nat_lt at (at + l)) (le-leb at at (omega arith)) (lt-ltb at (at + l) (omega (arith, e, below))) in
    ap (λ (b : Bool). frozen_from m at (if b then min (at + l) (2 ^ 32) - at else 0)) inside
    ∙ fewer m at 15 (min (r.entry + r.size) (2 ^ 32) - at) (min (at + l) (2 ^ 32) - at) (omega (arith, e, below))
    ∙ sym (ap (λ (b : Bool). take 15 (frozen_from m at (if b then min (r.entry + r.size) (2 ^ 32) - at else 0))) h)
