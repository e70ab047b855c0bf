-- The bytes of segments that are put into a memory, one segment after another.
use Rattle.std.proofs.Common.{◌≡◌, ℕ, zero, suc, ◌+◌, ◌-◌, ◌%◌, ◌^◌, ◌<◌, ◌≤◌, ◌⊎◌, inl, inr, Bool, true, false, cond, nat_le, nat_lt, List, [], ◌∷◌, length, get_or, Option, Some, None, unwrap_or, refl, sym, ap, subst, ◌∙◌, arith}
use Rattle.std.specs.Prelude.{IsSome, is_some, not, ◌&&◌}
use Rattle.std.proofs.lemmas.Bool.{cases_lt, cases_Bool, leb-true, ltb-true, and_parts, leb-false, ltb-false, and_cases, false_from_ne_true, true≢false, and_from, lt-ltb}
use Rattle.std.specs.Ordering.{nat_cmp}
use Rattle.std.specs.FinMap.{get-empty}
use Rattle.elf_image.specs.declared.image.Segment.{Segment}
use Rattle.elf_image.specs.Image.{frozen_byte, backed_byte, is_frozen_in, is_backed_in}
use Rattle.elf_image.specs.Layout.{IsPlaced, IsApartFrom, AreLaidOut}
use Rattle.dream_words.specs.Memory.{Mem, byte_at, with_byte, place, no_bytes}
use Rattle.dream_words.proofs.Memories.{byte_at-with_byte_same, byte_at-with_byte_other}

-- ---- bytes that are put at an address

place_other : (m : Mem) (at : ℕ) (vs : List ℕ) (q : ℕ) → at + length vs ≤ 2 ^ 32 → (q < at) ⊎ (at + length vs ≤ q) → byte_at (place m at vs) q ≡ byte_at m q
place_other m at [] q le h = refl
place_other m at (v ∷ vs) q le h =
    let ne : q ≡ at % 2 ^ 32 → ⊥ = λ e. elim h [ inl l ↦ omega (arith, le, l, e) | inr l ↦ omega (arith, le, l, e) ] in
    let next : (q < at + 1) ⊎ (at + 1 + length vs ≤ q) = elim h [ inl l ↦ inl (omega (arith, l)) | inr l ↦ inr (omega (arith, l)) ] in
    place_other (with_byte m (at % 2 ^ 32) v) (at + 1) vs q (omega (arith, le)) next
    ∙ byte_at-with_byte_other m (at % 2 ^ 32) v q ne

place_same : (m : Mem) (at : ℕ) (vs : List ℕ) (k : ℕ) → at + length vs ≤ 2 ^ 32 → k < length vs → byte_at (place m at vs) (at + k) ≡ get_or vs k 0
place_same m at [] k le h = absurd (omega (arith, h))
place_same m at (v ∷ vs) zero le h =
    let e : at + 0 ≡ at % 2 ^ 32 = omega (arith, le) in
    place_other (with_byte m (at % 2 ^ 32) v) (at + 1) vs (at + 0) (omega (arith, le)) (inl (omega arith))
    ∙ ap (byte_at (with_byte m (at % 2 ^ 32) v)) e ∙ byte_at-with_byte_same m (at % 2 ^ 32) v
place_same m at (v ∷ vs) (suc k) le h =
    let e : at + suc k ≡ at + 1 + k = omega arith in
    ap (byte_at (place (with_byte m (at % 2 ^ 32) v) (at + 1) vs)) e
    ∙ place_same (with_byte m (at % 2 ^ 32) v) (at + 1) vs k (omega (arith, le)) (omega (arith, h))

-- ---- segments

-- the memory after the bytes of segments are put there
abbrev pub placed : Mem → List Segment → Mem
placed m [] = m
placed m (s ∷ ss) = placed (place m s.at s.bytes) ss

-- an address of a segment is none of those that lie apart from it
not_backed : (s : Segment) (ss : List Segment) (a : ℕ) → IsApartFrom s ss → is_backed_in s a ≡ true → backed_byte ss a ≡ None
not_backed s [] a h b = refl
not_backed s (t ∷ ts) a h b =
    let p = and_parts (nat_le s.at a) (nat_lt a (s.at + s.size)) b in
    let not_here : is_backed_in t a ≡ false = false_from_ne_true (is_backed_in t a) (λ e.
    let q = and_parts (nat_le t.at a) (nat_lt a (t.at + t.size)) e in
    h.0 a (leb-true _ _ p.0) (ltb-true _ _ p.1) (leb-true _ _ q.0) (ltb-true _ _ q.1))
    in
    ap (λ u. cond u (Some (get_or t.bytes (a - t.at) 0)) (backed_byte ts a)) not_here ∙ not_backed s ts a h.1 b

past : (vs : List ℕ) (k : ℕ) → length vs ≤ k → get_or vs k 0 ≡ 0
past [] k h = refl
past (v ∷ vs) zero h = absurd (omega (arith, h))
past (v ∷ vs) (suc k) h = past vs k (omega (arith, h))

module _ (s : Segment) (m : Mem) (a : ℕ) where
  -- the byte at an address of the segment
  here : IsPlaced s → is_backed_in s a ≡ true → byte_at m a ≡ 0 → byte_at (place m s.at s.bytes) a ≡ get_or s.bytes (a - s.at) 0
  here p b z =
      let q = and_parts (nat_le s.at a) (nat_lt a (s.at + s.size)) b in
      let above : s.at ≤ a = leb-true _ _ q.0 in
      let le : s.at + length s.bytes ≤ 2 ^ 32 = omega (arith, p.within, p.given) in
      elim (cases_lt (a - s.at) (length s.bytes)) [
        | inl lt ↦
            let e : s.at + (a - s.at) ≡ a = omega (arith, above) in
            ap (byte_at (place m s.at s.bytes)) (sym e) ∙ place_same m s.at s.bytes (a - s.at) le lt
        | inr ge ↦ place_other m s.at s.bytes a le (inr (omega (arith, above, ge))) ∙ z ∙ sym (past s.bytes (a - s.at) ge)
      ]

  -- the byte at another address
  elsewhere : IsPlaced s → is_backed_in s a ≡ false → byte_at (place m s.at s.bytes) a ≡ byte_at m a
  elsewhere p b =
      let le : s.at + length s.bytes ≤ 2 ^ 32 = omega (arith, p.within, p.given) in
      let out : (a < s.at) ⊎ (s.at + length s.bytes ≤ a) = elim (and_cases (nat_le s.at a) (nat_lt a (s.at + s.size)) b) [
        | inl e ↦ inl (leb-false _ _ e)
        | inr e ↦ inr (let f : s.at + s.size ≤ a = ltb-false _ _ e in omega (arith, f, p.given))
      ] in
      place_other m s.at s.bytes a le out

some_none : (o : Option ℕ) → o ≡ None → IsSome o → ⊥
some_none o e h = true≢false (sym h ∙ ap is_some e)

-- each byte of segments that lie apart is put where the memory had 0
pub placed_is : (ss : List Segment) (m : Mem) (a : ℕ) → AreLaidOut ss → (IsSome (backed_byte ss a) → byte_at m a ≡ 0)
    → byte_at (placed m ss) a ≡ unwrap_or (backed_byte ss a) (byte_at m a)
placed_is [] m a h z = refl
placed_is (s ∷ ss) m a h z =
    let next : Mem = place m s.at s.bytes in
    let by : Bool → Option ℕ = λ u. cond u (Some (get_or s.bytes (a - s.at) 0)) (backed_byte ss a) in
    elim (cases_Bool (is_backed_in s a)) [
      | inl b ↦
          let none = not_backed s ss a h.1 b in
          let zero' : byte_at m a ≡ 0 = z (subst (λ u. IsSome (by u)) (sym b) refl) in
          placed_is ss next a h.2 (λ some. absurd (some_none _ none some))
          ∙ ap (λ o. unwrap_or o (byte_at next a)) none
          ∙ here s m a h.0 b zero'
          ∙ sym (ap (λ u. unwrap_or (by u) (byte_at m a)) b)
      | inr b ↦
          let same = elsewhere s m a h.0 b in
          placed_is ss next a h.2 (λ some. same ∙ z (subst (λ u. IsSome (by u)) (sym b) some))
          ∙ ap (unwrap_or (backed_byte ss a)) same
          ∙ sym (ap (λ u. unwrap_or (by u) (byte_at m a)) b)
    ]

-- in a memory of zeros
pub all_placed : (ss : List Segment) (a : ℕ) → AreLaidOut ss → byte_at (placed no_bytes ss) a ≡ unwrap_or (backed_byte ss a) 0
all_placed ss a h =
    let z : byte_at no_bytes a ≡ 0 = ap (λ (o : Option ℕ). unwrap_or o 0) (get-empty nat_cmp a) in
    placed_is ss no_bytes a h (λ some. z) ∙ ap (unwrap_or (backed_byte ss a)) z

some≢none : (o : Option ℕ) (b : ℕ) → o ≡ Some b → o ≡ None → ⊥
some≢none o b e f = true≢false (sym (ap is_some e) ∙ ap is_some f)

-- in segments that lie apart the byte that is frozen at an address is the one that is backed there
pub frozen_is_backed : (ss : List Segment) (a b : ℕ) → AreLaidOut ss → frozen_byte ss a ≡ Some b → backed_byte ss a ≡ Some b
frozen_is_backed [] a b h e = e
frozen_is_backed (s ∷ ss) a b h e =
    let by : Bool → Option ℕ → Option ℕ = λ u o. cond u (Some (get_or s.bytes (a - s.at) 0)) o in
    elim (cases_Bool (is_frozen_in s a)) [
      | inl f ↦
          let p = and_parts (nat_le s.at a) (nat_lt a (s.at + length s.bytes)) (and_parts (not s.writable) (nat_le s.at a && nat_lt a (s.at + length s.bytes)) f).1 in
          let below : a < s.at + length s.bytes = ltb-true a (s.at + length s.bytes) p.1 in
          let given : length s.bytes ≤ s.size = h.0.given in
          let backed : is_backed_in s a ≡ true = and_from (nat_le s.at a) (nat_lt a (s.at + s.size)) p.0 (lt-ltb a (s.at + s.size) (omega (arith, below, given))) in
          ap (λ u. by u (backed_byte ss a)) backed ∙ sym (ap (λ u. by u (frozen_byte ss a)) f) ∙ e
      | inr f ↦
          let back = frozen_is_backed ss a b h.2 (sym (ap (λ u. by u (frozen_byte ss a)) f) ∙ e) in
          let away : is_backed_in s a ≡ false = false_from_ne_true (is_backed_in s a) (λ t. some≢none (backed_byte ss a) b back (not_backed s ss a h.1 t)) in
          ap (λ u. by u (backed_byte ss a)) away ∙ back
    ]
