-- At every address the bytes begin with an instruction, or with none.
use Rattle.std.proofs.Common.{◌≡◌, ℕ, zero, suc, ◌-◌, ◌<◌, ◌≤◌, ◌⊎◌, inl, inr, Bool, true, false, cond, nat_lt, List, [], ◌∷◌, length, take, Option, Some, None, Result, Ok, Err, refl, ap, subst, arith, rules}
use Rattle.std.proofs.lemmas.Bool.{cases_lt}
use Rattle.elf_image.specs.declared.image.Segment.{Segment}
use Rattle.elf_image.specs.declared.range.Range.{Range}
use Rattle.elf_image.specs.Range.{bytes_to_end}
use Rattle.x86_inst.specs.declared.Inst.{Inst}
use Rattle.x86_inst.specs.Spelling.{AreBytes, Spells}
use Rattle.x86_decode.specs.declared.fields.Stop.{Stop}
use Rattle.x86_decode.specs.Reading.{read_at}
use Rattle.x86_decode.specs.Decodes.{NoneBegins}
use Rattle.x86_decode.proofs.Decoding.{front, none_begins}
use Rattle.machine.specs.Code.{Decodes}

-- the numbers at the front of a list that are bytes
byte_front : List ℕ → List ℕ
byte_front [] = []
byte_front (b ∷ x) = cond (nat_lt b 256) (b ∷ byte_front x) []

front_bytes : (x : List ℕ) → AreBytes (byte_front x)
unfolding byte_front
front_bytes [] = tt
front_bytes (b ∷ x) = at (cases_lt b 256) (front_bytes x)
  where
    at : (b < 256) ⊎ (256 ≤ b) → AreBytes (byte_front x) → AreBytes (cond (nat_lt b 256) (b ∷ byte_front x) [])
    at (inl lt) rest = let is : nat_lt b 256 ≡ true = search (rules, arith) in rw is (lt, rest)
    at (inr le) rest = let no' : nat_lt b 256 ≡ false = search (rules, arith) in rw no' tt

-- a front of bytes is one of the bytes at the front
take_bytes : (x : List ℕ) (n : ℕ) → AreBytes (take n x) → take n x ≡ take n (byte_front x)
unfolding byte_front
take_bytes [] n h = refl
take_bytes (b ∷ x) zero h = refl
take_bytes (b ∷ x) (suc n) h =
    let lt : b < 256 = h.0 in
    let is : nat_lt b 256 ≡ true = search (rules, arith) in
    rw is (ap (λ t. b ∷ t) (take_bytes x n h.1))

-- and the other way round
take_front : (x : List ℕ) (n : ℕ) → n ≤ length (byte_front x) → take n (byte_front x) ≡ take n x
unfolding byte_front
take_front [] n h = refl
take_front (b ∷ x) zero h = refl
take_front (b ∷ x) (suc n) h = at (cases_lt b 256) (take_front x n) h
  where
    at : (b < 256) ⊎ (256 ≤ b) → (n ≤ length (byte_front x) → take n (byte_front x) ≡ take n x)
        → suc n ≤ length (cond (nat_lt b 256) (b ∷ byte_front x) []) → take (suc n) (cond (nat_lt b 256) (b ∷ byte_front x) []) ≡ b ∷ take n x
    at (inl lt) rest h =
        let is : nat_lt b 256 ≡ true = search (rules, arith) in
        let h' : suc n ≤ suc (length (byte_front x)) = subst (λ t. suc n ≤ length (cond t (b ∷ byte_front x) [])) is h in
        rw is (ap (λ t. b ∷ t) (rest (omega (arith, h'))))
    at (inr le) rest h =
        let no' : nat_lt b 256 ≡ false = search (rules, arith) in
        let h' : suc n ≤ 0 = subst (λ t. suc n ≤ length (cond t (b ∷ byte_front x) [])) no' h in
        absurd (omega (arith, h'))

shorter : (x : List ℕ) → length (byte_front x) ≤ length x
unfolding byte_front
shorter [] = omega arith
shorter (b ∷ x) = at (nat_lt b 256) (shorter x)
  where
    at : (t : Bool) → length (byte_front x) ≤ length x → length (cond t (b ∷ byte_front x) []) ≤ suc (length x)
    at true h = omega (arith, h)
    at false h = omega arith

-- the bytes begin with this instruction, or with none
Begins : List ℕ → Type 0
Begins x = ((i : Inst) × (n : ℕ) × (n ≤ length x) × Spells (take n x) i) ⊎ NoneBegins x

begins_by : (x : List ℕ) (o : Result (Inst × List ℕ) Stop) → read_at (byte_front x) ≡ o → Begins x
unfolding Begins
begins_by x (Ok (i, rest)) e =
    let f = front (byte_front x) i rest (front_bytes x) e in
    let n : ℕ = length (byte_front x) - length rest in
    inl (i, n, omega (arith, f.within, shorter x), subst (λ t. Spells t i) (take_front x n f.within) f.spells)
begins_by x (Err stop) e =
    inr (λ n i h. none_begins (byte_front x) stop e n i (subst (λ t. Spells t i) (take_bytes x n h.are_bytes) h))

begins : (x : List ℕ) → Begins x
begins x = begins_by x (read_at (byte_front x)) refl

answer : (x : List ℕ) → Begins x → Option (Inst × ℕ)
unfolding Begins
answer x (inl f) = Some (f.0, f.1)
answer x (inr g) = None

found : (x : List ℕ) (d : Begins x) (i : Inst) (n : ℕ) → answer x d ≡ Some (i, n) → (n ≤ length x) × Spells (take n x) i
unfolding Begins answer
found x (inl f) i n e =
    let p : ◌≡◌ {A = Inst × ℕ} (f.0, f.1) (i, n) = let e' : ◌≡◌ {A = Option (Inst × ℕ)} (Some (f.0, f.1)) (Some (i, n)) = e in cc in
    subst (λ (q : Inst × ℕ). (q.1 ≤ length x) × Spells (take q.1 x) q.0) p (f.2, f.3)
found x (inr g) i n e = absurd (let e' : ◌≡◌ {A = Option (Inst × ℕ)} None (Some (i, n)) = e in cc)

none : (x : List ℕ) (d : Begins x) (i : Inst) (n : ℕ) → answer x d ≡ None → Spells (take n x) i → ⊥
unfolding Begins answer
none x (inl f) i n e s = absurd (let e' : ◌≡◌ {A = Option (Inst × ℕ)} (Some (f.0, f.1)) None = e in cc)
none x (inr g) i n e s = g n i s

-- every range has its instructions
pub decodes : (m : List Segment) (r : Range) → (decoded : ℕ → Option (Inst × ℕ)) × Decodes m r decoded
decodes m r = (
  (λ a. answer (bytes_to_end m r a) (begins (bytes_to_end m r a))),
  record {
    found = λ a i n e. let h = found (bytes_to_end m r a) (begins (bytes_to_end m r a)) i n e in record { within = h.0; spelled = h.1 };
    none = λ a i n e h. none (bytes_to_end m r a) (begins (bytes_to_end m r a)) i n e h.spelled;
  },
)
