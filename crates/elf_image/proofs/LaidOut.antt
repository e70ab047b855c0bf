-- The segments of a file without a fault are laid out.
use Rattle.std.proofs.Common.{◌≡◌, ℕ, zero, suc, ◌+◌, ◌^◌, ◌<◌, ◌≤◌, Bool, true, false, nat_lt, List, [], ◌∷◌, ◌++◌, length, drop, Option, Some, None, refl, sym, subst, inl, inr, arith, ltb-false, length-take, append-nil}
use Rattle.std.specs.Prelude.{◌||◌, is_some, min, max}
use Rattle.std.proofs.lemmas.Bool.{cases_Bool, and_cases, or_parts, both_ways, and_from, lt-ltb}
use Rattle.elf_image.specs.declared.image.Segment.{Segment}
use Rattle.elf_image.specs.Header.{entry_count, is_load, offset_of, address_of, file_size_of, size_of}
use Rattle.elf_image.specs.First.{first_below}
use Rattle.elf_image.specs.Rules.{first_broken, is_outside, is_overlapping, meets}
use Rattle.elf_image.specs.Image.{segment_of, segments_of, loaded_of}
use Rattle.elf_image.specs.Layout.{IsPlaced, AreApart, IsApartFrom, AreLaidOut}
use Rattle.elf_image.proofs.FileFacts.{none_passes, each_inside, each_apart}

-- a segment whose header is inside is placed
placed : (bytes : List ℕ) (k : ℕ) → is_outside bytes k ≡ false → is_load bytes k ≡ true → IsPlaced (segment_of bytes k)
placed bytes k out load =
    let f : ℕ = file_size_of bytes k in
    let o : ℕ = offset_of bytes k in
    let n : ℕ = size_of bytes k in
    let past : Bool = nat_lt (2 ^ 32) (address_of bytes k + n) in
    elim (and_cases (is_load bytes k) (nat_lt (length bytes) (o + f) || (nat_lt n f || past)) out) [
      | inl e ↦ absurd (both_ways (is_load bytes k) e load)
      | inr e ↦
          let q = or_parts (nat_lt n f) past (or_parts (nat_lt (length bytes) (o + f)) (nat_lt n f || past) e).1 in
          let within : address_of bytes k + n ≤ 2 ^ 32 = ltb-false (2 ^ 32) (address_of bytes k + n) q.1 in
          let given : f ≤ n = ltb-false n f q.0 in
          record { within = within; given = omega (arith, given, length-take f (drop o bytes)) }
    ]

-- segments that don't meet lie apart
apart : (bytes : List ℕ) (k j : ℕ) → is_load bytes j ≡ true → meets bytes k j ≡ false → AreApart (segment_of bytes k) (segment_of bytes j)
apart bytes k j load none a l m n o =
    let lt : max (address_of bytes j) (address_of bytes k) < min (address_of bytes j + size_of bytes j) (address_of bytes k + size_of bytes k) = omega (arith, l, m, n, o) in
    both_ways (meets bytes k j) none (and_from (is_load bytes j) _ load (lt-ltb _ _ lt))

apart_append : (s : Segment) (xs ys : List Segment) → IsApartFrom s xs → IsApartFrom s ys → IsApartFrom s (xs ++ ys)
apart_append s [] ys h k = k
apart_append s (x ∷ xs) ys h k = (h.0, apart_append s xs ys h.1 k)

laid_append : (xs : List Segment) (s : Segment) → AreLaidOut xs → IsPlaced s → IsApartFrom s xs → AreLaidOut (xs ++ s ∷ [])
laid_append [] s h p k = (p, tt, tt)
laid_append (x ∷ xs) s h p k =
    (h.0, apart_append x xs (s ∷ []) h.1 ((λ a l m n o. k.0 a n o l m), tt), laid_append xs s h.2 p k.1)

-- a header that meets none of the first j has a segment that lies apart from theirs
apart_from : (bytes : List ℕ) (k j : ℕ) → ((i : ℕ) → i < j → meets bytes k i ≡ false) → IsApartFrom (segment_of bytes k) (segments_of bytes j)
apart_from bytes k zero h = tt
apart_from bytes k (suc j) h =
    apart_append (segment_of bytes k) (segments_of bytes j) (loaded_of bytes j) (apart_from bytes k j (λ i lt. h i (omega (arith, lt))))
    (elim (cases_Bool (is_load bytes j)) [
      | inl e ↦ rw e (apart bytes k j e (h j (omega arith)), tt)
      | inr e ↦ rw e tt
    ])

none_of : (o : Option ℕ) → is_some o ≡ false → o ≡ None
none_of None e = refl
none_of (Some k) e = cc

segments_laid_out : (bytes : List ℕ) (n : ℕ) → ((k : ℕ) → k < n → is_outside bytes k ≡ false) → ((k : ℕ) → k < n → is_overlapping bytes k ≡ false)
    → AreLaidOut (segments_of bytes n)
segments_laid_out bytes zero inside apart = tt
segments_laid_out bytes (suc n) inside apart =
    let before = segments_laid_out bytes n (λ k lt. inside k (omega (arith, lt))) (λ k lt. apart k (omega (arith, lt))) in
    elim (cases_Bool (is_load bytes n)) [
      | inl e ↦
          let none : first_below n (meets bytes n) ≡ None = elim (and_cases (is_load bytes n) (is_some (first_below n (meets bytes n))) (apart n (omega arith))) [
            | inl f ↦ absurd (both_ways (is_load bytes n) f e)
            | inr f ↦ none_of _ f
          ] in
          rw e (laid_append (segments_of bytes n) (segment_of bytes n) before (placed bytes n (inside n (omega arith)) e)
          (apart_from bytes n n (λ i lt. none_passes n i (meets bytes n) lt none)))
      | inr e ↦ rw e (subst AreLaidOut (sym (append-nil (segments_of bytes n))) before)
    ]

pub laid_out : (bytes : List ℕ) → first_broken bytes ≡ None → AreLaidOut (segments_of bytes (entry_count bytes))
laid_out bytes h = segments_laid_out bytes (entry_count bytes) (λ k lt. each_inside bytes k h lt) (λ k lt. each_apart bytes k h lt)
