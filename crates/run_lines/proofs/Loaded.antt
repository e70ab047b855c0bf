-- What a file of bytes loads are bytes.
use Rattle.std.proofs.Common.{◌≡◌, ℕ, zero, suc, ◌-◌, ◌<◌, Bool, true, false, cond, inl, inr, List, [], ◌∷◌, ◌++◌, take, drop, get_or, Option, Some, None, Ok, refl, sym, ap, subst, arith, lit<}
use Rattle.std.specs.Prelude.{is_some, unwrap_or}
use Rattle.std.proofs.lemmas.Bool.{cases_Bool, true≢false}
use Rattle.elf_image.specs.declared.image.Segment.{Segment}
use Rattle.elf_image.specs.declared.image.ElfFault.{ElfFault}
use Rattle.elf_image.specs.Header.{entry_count, is_load, offset_of, file_size_of}
use Rattle.elf_image.specs.Rules.{first_broken}
use Rattle.elf_image.specs.Image.{image_of, segments_of, loaded_of, is_backed_in, backed_byte}
use Rattle.dream_words.specs.Memory.{Mem}
use Rattle.dream_words.specs.Ranges.{AreBytes}
use Rattle.run_lines.specs.Laws.{HoldsBytes}
use Rattle.run_lines.specs.Starts.{HasImage}

-- ---- lists of bytes

small_drop : (n : ℕ) (xs : List ℕ) → ((k : ℕ) → get_or xs k 0 < 256) → (k : ℕ) → get_or (drop n xs) k 0 < 256
small_drop zero xs h k = h k
small_drop (suc n) [] h k = h k
small_drop (suc n) (x ∷ xs) h k = small_drop n xs (λ j. h (suc j)) k

small_take : (n : ℕ) (xs : List ℕ) → ((k : ℕ) → get_or xs k 0 < 256) → (k : ℕ) → get_or (take n xs) k 0 < 256
small_take zero xs h k = lit< tt
small_take (suc n) [] h k = h k
small_take (suc n) (x ∷ xs) h zero = h 0
small_take (suc n) (x ∷ xs) h (suc k) = small_take n xs (λ j. h (suc j)) k

-- ---- segments of bytes

abbrev HaveBytes : List Segment → Type 0
HaveBytes [] = Unit {0}
HaveBytes (s ∷ ss) = ((k : ℕ) → get_or s.bytes k 0 < 256) × HaveBytes ss

have_append : (xs ys : List Segment) → HaveBytes xs → HaveBytes ys → HaveBytes (xs ++ ys)
have_append [] ys h k = k
have_append (x ∷ xs) ys h k = (h.0, have_append xs ys h.1 k)

segments_have : (bytes : List ℕ) (n : ℕ) → ((k : ℕ) → get_or bytes k 0 < 256) → HaveBytes (segments_of bytes n)
segments_have bytes zero h = tt
segments_have bytes (suc n) h =
    let one : (k : ℕ) → get_or (take (file_size_of bytes n) (drop (offset_of bytes n) bytes)) k 0 < 256 =
    small_take (file_size_of bytes n) (drop (offset_of bytes n) bytes) (small_drop (offset_of bytes n) bytes h) in
    have_append (segments_of bytes n) (loaded_of bytes n) (segments_have bytes n h)
    (elim (cases_Bool (is_load bytes n)) [ inl e ↦ rw e (one, tt) | inr e ↦ rw e tt ])

backed_in : (u : Bool) (x b : ℕ) (o : Option ℕ) → x < 256 → (o ≡ Some b → b < 256) → cond u (Some x) o ≡ Some b → b < 256
backed_in true x b o small rest e = let is : x ≡ b = ap (λ p. unwrap_or p 0) e in omega (arith, small, is)
backed_in false x b o small rest e = rest e

backed_small : (ss : List Segment) → HaveBytes ss → (a b : ℕ) → backed_byte ss a ≡ Some b → b < 256
backed_small [] h a b e = absurd (true≢false (sym (ap is_some e)))
backed_small (s ∷ ss) h a b e =
    backed_in (is_backed_in s a) (get_or s.bytes (a - s.at) 0) b (backed_byte ss a) (h.0 (a - s.at)) (backed_small ss h.1 a b) e

-- ---- files

loaded : (bytes : List ℕ) (m : List Segment) (o : Option ElfFault) → first_broken bytes ≡ o → image_of bytes ≡ Ok m → segments_of bytes (entry_count bytes) ≡ m
loaded bytes m None is e = let is_it = rw is at e in cc
loaded bytes m (Some f) is e = absurd (let is_not = rw is at e in cc)

pub files_bytes : (bytes : List ℕ) (m : List Segment) → ((k : ℕ) → get_or bytes k 0 < 256) → image_of bytes ≡ Ok m → HoldsBytes m
files_bytes bytes m h e =
    subst HoldsBytes (loaded bytes m (first_broken bytes) refl e)
    (backed_small (segments_of bytes (entry_count bytes)) (segments_have bytes (entry_count bytes) h))

-- ---- memories

small_or_zero : (o : Option ℕ) → ((b : ℕ) → o ≡ Some b → b < 256) → unwrap_or o 0 < 256
small_or_zero None h = lit< tt
small_or_zero (Some b) h = h b refl

-- the memory of an image of bytes has bytes
pub image_bytes : (m : List Segment) (mem : Mem) → HoldsBytes m → HasImage m mem → AreBytes mem
image_bytes m mem h image = λ a. subst (λ b. b < 256) (sym (image.backed a)) (small_or_zero (backed_byte m a) (h a))
