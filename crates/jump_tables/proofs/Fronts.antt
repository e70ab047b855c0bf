-- The bytes at the front of those up to the range's end, and what they begin with.
use Rattle.std.proofs.Common.{◌≡◌, ℕ, zero, suc, ◌+◌, ◌-◌, ◌^◌, ◌<◌, ◌≤◌, min, if◌then◌else◌, List, [], ◌∷◌, ◌++◌, length, take, Some, None, refl, sym, ap, ◌∙◌, subst, arith, append-nil, append_assoc}
use Rattle.std.proofs.Math.ListN.{set}
use Rattle.std.proofs.lemmas.List.{take_more_set}
use Rattle.elf_image.specs.declared.image.Segment.{Segment}
use Rattle.elf_image.specs.declared.range.Range.{Range}
use Rattle.elf_image.specs.Image.{frozen_byte}
use Rattle.elf_image.specs.Range.{is_inside, before_some, frozen_from, bytes_to_end}
use Rattle.x86_inst.specs.declared.Inst.{Inst}
use Rattle.x86_inst.specs.Spelling.{Spells}
use Rattle.x86_decode.specs.Decodes.{NoneBegins}
use Rattle.machine.specs.Code.{BeginsAt, Decodes}
use Rattle.machine.proofs.Fetching.{fewer, found_is, none_is}
use Rattle.jump_tables.specs.Found.{found}
use Rattle.jump_tables.proofs.Finding.{begins_found, found_begins}

-- where no byte is frozen there are no more
ended : (m : List Segment) (a n : ℕ) → frozen_byte m a ≡ None → frozen_from m a n ≡ []
ended m a zero e = refl
ended m a (suc n) e = ap (λ o. before_some o (frozen_from m (a + 1) n)) e

-- a frozen byte, and then the ones after it
begun : (m : List Segment) (a n b : ℕ) → frozen_byte m a ≡ Some b → 0 < n → frozen_from m a n ≡ b ∷ frozen_from m (a + 1) (n - 1)
begun m a zero b e lt = absurd (omega (arith, lt))
begun m a (suc n) b e lt =
    let one : suc n - 1 ≡ n = omega arith in
    ap (λ o. before_some o (frozen_from m (a + 1) n)) e ∙ ap (λ k. b ∷ frozen_from m (a + 1) k) (sym one)

-- the front of the bytes up to the range's end
pub front_is : (m : List Segment) (r : Range) (a l : ℕ) → l ≡ min 15 (if is_inside r a then min (r.entry + r.size) (2 ^ 32) - a else 0)
    → frozen_from m a l ≡ take 15 (bytes_to_end m r a)
front_is m r a l e = fewer m a 15 (if is_inside r a then min (r.entry + r.size) (2 ^ 32) - a else 0) l e

pub front_ends : (m : List Segment) (a k l : ℕ) (bytes : List ℕ) → frozen_byte m (a + k) ≡ None → frozen_from m a l ≡ take k bytes ++ frozen_from m (a + k) (l - k)
    → take k bytes ≡ frozen_from m a l
front_ends m a k l bytes none e = sym (e ∙ ap (λ xs. take k bytes ++ xs) (ended m (a + k) (l - k) none) ∙ append-nil (take k bytes))

pub front_all : (m : List Segment) (a k l n : ℕ) (bytes : List ℕ) → l ≤ k → k ≡ n → frozen_from m a l ≡ take k bytes ++ frozen_from m (a + k) (l - k)
    → take n bytes ≡ frozen_from m a l
front_all m a k l n bytes le is e =
    let none : l - k ≡ 0 = omega (arith, le) in
    ap (λ j. take j bytes) (sym is) ∙ sym (e ∙ ap (λ j. take k bytes ++ frozen_from m (a + k) j) none ∙ append-nil (take k bytes))

pub front_more : (m : List Segment) (a k l b : ℕ) (bytes : List ℕ) → frozen_byte m (a + k) ≡ Some b → k < l → k < length bytes
    → frozen_from m a l ≡ take k bytes ++ frozen_from m (a + k) (l - k)
    → frozen_from m a l ≡ take (k + 1) (set bytes k b) ++ frozen_from m (a + (k + 1)) (l - (k + 1))
front_more m a k l b bytes some lt long e =
    let at : a + k + 1 ≡ a + (k + 1) = omega arith in
    let left : l - k - 1 ≡ l - (k + 1) = omega (arith, lt) in
    e
    ∙ ap (λ xs. take k bytes ++ xs) (begun m (a + k) (l - k) b some (omega (arith, lt)))
    ∙ sym (append_assoc (take k bytes) (b ∷ []) (frozen_from m (a + k + 1) (l - k - 1)))
    ∙ ap (λ xs. xs ++ frozen_from m (a + k + 1) (l - k - 1)) (sym (take_more_set bytes k b long))
    ∙ ap (λ n. take (k + 1) (set bytes k b) ++ frozen_from m n (l - k - 1)) at
    ∙ ap (λ n. take (k + 1) (set bytes k b) ++ frozen_from m (a + (k + 1)) n) left

-- ---- what begins there

decodes : (m : List Segment) (r : Range) → Decodes m r (found m r)
decodes m r = record {
  found = λ a i n e. found_begins m r a (i, n) e;
  none = λ a i n e b. (let f = begins_found m r a i n b in let z : ⊥ = cc in z);
}

-- an instruction at the front of the first 15 bytes begins there
pub begins : (m : List Segment) (r : Range) (a : ℕ) (i : Inst) (n : ℕ) (x : List ℕ) → x ≡ take 15 (bytes_to_end m r a) → n ≤ length x → Spells (take n x) i → BeginsAt m r a i n
begins m r a i n x e le s =
    found_begins m r a (i, n) (sym (found_is m r (found m r) a i n (decodes m r) (subst (λ (y : List ℕ). n ≤ length y) e le) (subst (λ (y : List ℕ). Spells (take n y) i) e s)))

-- where the first 15 bytes begin with none, none does
pub none_begins : (m : List Segment) (r : Range) (a : ℕ) (x : List ℕ) → x ≡ take 15 (bytes_to_end m r a) → NoneBegins x → (i : Inst) (n : ℕ) → BeginsAt m r a i n → ⊥
none_begins m r a x e none i n b =
    let f = begins_found m r a i n b in
    let g = none_is m r (found m r) a (decodes m r) (subst NoneBegins e none) in
    let z : ⊥ = cc in z
