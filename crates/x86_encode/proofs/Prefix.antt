-- The least prefix bytes.
use Rattle.std.proofs.Common.{◌≡◌, ℕ, suc, ◌+◌, ◌<◌, Bool, true, false, cond, List, [], ◌∷◌, ◌++◌, length, Option, Some, None, refl, sym, ap, subst, ◌∙◌, inl, inr, arith, length-append}
use Rattle.std.specs.Prelude.{◌==◌, ◌||◌, filter, IsTrue}
use Rattle.std.specs.Option.{option_to_list}
use Rattle.std.proofs.lemmas.Bool.{eqb-true}
use Rattle.x86_inst.specs.Rows.{Prefixes}
use Rattle.x86_inst.specs.Spelling.{AllPrefixBytes, ArePrefixes, is_size, is_segment, is_repeat}
use Rattle.x86_encode.specs.Least.{NoGreater, AtMost}
use Rattle.x86_encode.proofs.Order.{AtMost-refl, AtMost-append, AtMost-trans}
use Rattle.x86_encode.proofs.Flags.{or_split}

-- what kind of prefix byte it is
data Kind (b : ℕ) : Type 0 where
  size : is_size b ≡ true → is_segment b ≡ false → is_repeat b ≡ false → Kind b
  segment : is_size b ≡ false → is_segment b ≡ true → is_repeat b ≡ false → Kind b
  repeat : is_size b ≡ false → is_segment b ≡ false → is_repeat b ≡ true → Kind b

no_repeat : (b : ℕ) → is_segment b ≡ true → is_repeat b ≡ false
no_repeat b e = at (b == 0xF2) (b == 0xF3) refl refl
  where
    at : (u v : Bool) → (b == 0xF2) ≡ u → (b == 0xF3) ≡ v → (u || v) ≡ false
    at true v f g = let k : is_segment 0xF2 ≡ true = subst (λ n. is_segment n ≡ true) (eqb-true b 0xF2 f) e in absurd cc
    at false true f g = let k : is_segment 0xF3 ≡ true = subst (λ n. is_segment n ≡ true) (eqb-true b 0xF3 g) e in absurd cc
    at false false f g = refl

kind : (b : ℕ) → IsTrue (is_size b || (is_segment b || is_repeat b)) → Kind b
kind b t = at (is_size b) (is_segment b) (is_repeat b) refl refl refl t
  where
    at : (u v w : Bool) → is_size b ≡ u → is_segment b ≡ v → is_repeat b ≡ w → (u || (v || w)) ≡ true → Kind b
    at true v w e f g t =
        let k = eqb-true b 0x66 e in
        size e (subst (λ n. is_segment n ≡ false) (sym k) refl) (subst (λ n. is_repeat n ≡ false) (sym k) refl)
    at false true w e f g t = segment e f (no_repeat b f)
    at false false true e f g t = repeat e f g
    at false false false e f g t = absurd cc

-- segments come before 66, and 66 before repeats
size_is : (b : ℕ) → is_size b ≡ true → b ≡ 0x66
size_is b e = eqb-true b 0x66 e

segment_low : (b : ℕ) → is_segment b ≡ true → b < 0x66
segment_low b e =
    elim (or_split (b == 0x26) _ e) [
      | inl f ↦ omega (arith, eqb-true b 0x26 f)
      | inr e ↦ elim (or_split (b == 0x2E) _ e) [
        | inl f ↦ omega (arith, eqb-true b 0x2E f)
        | inr e ↦ elim (or_split (b == 0x36) _ e) [
          | inl f ↦ omega (arith, eqb-true b 0x36 f)
          | inr e ↦ elim (or_split (b == 0x3E) _ e) [
            | inl f ↦ omega (arith, eqb-true b 0x3E f)
            | inr e ↦ elim (or_split (b == 0x64) _ e) [
              | inl f ↦ omega (arith, eqb-true b 0x64 f)
              | inr f ↦ omega (arith, eqb-true b 0x65 f)
            ]
          ]
        ]
      ]
    ]

repeat_high : (b : ℕ) → is_repeat b ≡ true → 0x66 < b
repeat_high b e =
    elim (or_split (b == 0xF2) _ e) [ inl f ↦ omega (arith, eqb-true b 0xF2 f) | inr f ↦ omega (arith, eqb-true b 0xF3 f) ]

-- the head of what passes a test passes it
pub filter_head : (f : ℕ → Bool) (l : List ℕ) (c : ℕ) (r : List ℕ) → filter f l ≡ c ∷ r → f c ≡ true
filter_head f [] c r e = absurd cc
filter_head f (b ∷ l) c r e = at (f b) refl (filter_head f l c r) e
  where
    at : (t : Bool) → f b ≡ t → (filter f l ≡ c ∷ r → f c ≡ true) → cond t (b ∷ filter f l) (filter f l) ≡ c ∷ r → f c ≡ true
    at true t rest e = let k : b ≡ c = cc in subst (λ n. f n ≡ true) k t
    at false t rest e = rest e

filter_take : (f : ℕ → Bool) (b : ℕ) (l : List ℕ) → f b ≡ true → filter f (b ∷ l) ≡ b ∷ filter f l
filter_take f b l t = rw t refl

filter_skip : (f : ℕ → Bool) (b : ℕ) (l : List ℕ) → f b ≡ false → filter f (b ∷ l) ≡ filter f l
filter_skip f b l t = rw t refl

-- segments, then the size, then repeats
abbrev three : List ℕ → List ℕ → List ℕ → List ℕ
three s z r = s ++ (z ++ r)

abbrev sorted : List ℕ → List ℕ
sorted l = three (filter is_segment l) (filter is_size l) (filter is_repeat l)

length_three : (s z r : List ℕ) → length (three s z r) ≡ length s + (length z + length r)
length_three s z r = omega (arith, length-append s (z ++ r), length-append z r)

record IsLeast (l x : List ℕ) : Type 0 where
  len : length l ≡ length x
  no_greater : NoGreater l x

sorted_is : (b : ℕ) (l s z r : List ℕ) → filter is_segment (b ∷ l) ≡ s → filter is_size (b ∷ l) ≡ z → filter is_repeat (b ∷ l) ≡ r → sorted (b ∷ l) ≡ three s z r
sorted_is b l s z r e f g = ap (λ (x : List ℕ). three x (filter is_size (b ∷ l)) (filter is_repeat (b ∷ l))) e ∙ ap (λ (x : List ℕ). three s x (filter is_repeat (b ∷ l))) f ∙ ap (λ (x : List ℕ). three s z x) g

sorted_least : (l : List ℕ) → AllPrefixBytes l → IsLeast (sorted l) l
sorted_least [] h = record { len = refl; no_greater = tt }
sorted_least (b ∷ l) h =
    elim (kind b h.0) [
      | segment e f g ↦
          let eq = sorted_is b l _ _ _ (filter_take is_segment b l f) (filter_skip is_size b l e) (filter_skip is_repeat b l g) in
          subst (λ (x : List ℕ). IsLeast x (b ∷ l)) (sym eq) (record { len = ap suc (sorted_least l h.1).len; no_greater = inr (refl, (sorted_least l h.1).no_greater) })
      | size e f g ↦
          let eq = sorted_is b l _ _ _ (filter_skip is_segment b l f) (filter_take is_size b l e) (filter_skip is_repeat b l g) in
          subst (λ (x : List ℕ). IsLeast x (b ∷ l)) (sym eq)
          (with_size (filter is_segment l) (filter is_size l) (filter is_repeat l) (λ c r k. let lt = segment_low c (filter_head is_segment l c r k) in omega (arith, size_is b e)) (sorted_least l h.1))
      | repeat e f g ↦
          let eq = sorted_is b l _ _ _ (filter_skip is_segment b l f) (filter_skip is_size b l e) (filter_take is_repeat b l g) in
          subst (λ (x : List ℕ). IsLeast x (b ∷ l)) (sym eq)
          (with_repeat (filter is_segment l) (filter is_size l) (filter is_repeat l)
          (λ c r k. let lt = segment_low c (filter_head is_segment l c r k) in omega (arith, repeat_high b g))
          (λ c r k. let eq = size_is c (filter_head is_size l c r k) in omega (arith, repeat_high b g))
          (sorted_least l h.1))
    ]
  where
    with_size : (s z r : List ℕ) → ((c : ℕ) (t : List ℕ) → s ≡ c ∷ t → c < b) → IsLeast (three s z r) l → IsLeast (three s (b ∷ z) r) (b ∷ l)
    with_size [] z r low k = record { len = ap suc k.len; no_greater = inr (refl, k.no_greater) }
    with_size (c ∷ s) z r low k = record { len = omega (arith, length_three (c ∷ s) (b ∷ z) r, length_three (c ∷ s) z r, k.len); no_greater = inl (low c s refl) }

    with_repeat : (s z r : List ℕ) → ((c : ℕ) (t : List ℕ) → s ≡ c ∷ t → c < b) → ((c : ℕ) (t : List ℕ) → z ≡ c ∷ t → c < b) → IsLeast (three s z r) l → IsLeast (three s z (b ∷ r)) (b ∷ l)
    with_repeat [] [] r low low' k = record { len = ap suc k.len; no_greater = inr (refl, k.no_greater) }
    with_repeat [] (c ∷ z) r low low' k = record { len = omega (arith, length_three [] (c ∷ z) (b ∷ r), length_three [] (c ∷ z) r, k.len); no_greater = inl (low' c z refl) }
    with_repeat (c ∷ s) z r low low' k = record { len = omega (arith, length_three (c ∷ s) z (b ∷ r), length_three (c ∷ s) z r, k.len); no_greater = inl (low c s refl) }

-- ---- the prefixes that are needed

abbrev pub least_prefixes : Prefixes → List ℕ
least_prefixes q = three (option_to_list q.segment) (option_to_list q.size) (option_to_list q.repeat)

-- a prefix is kept or dropped
pub data Kept (q p : Option ℕ) : Type 0 where
  dropped : q ≡ None → Kept q p
  kept : q ≡ p → Kept q p

pub record Within (q p : Prefixes) : Type 0 where
  pub size : Kept q.size p.size
  pub segment : Kept q.segment p.segment
  pub repeat : Kept q.repeat p.repeat

option_least : (q p : Option ℕ) → Kept q p → AtMost (option_to_list q) (option_to_list p)
option_least q p h = elim h [ dropped e ↦ subst (λ o. AtMost (option_to_list o) (option_to_list p)) (sym e) (at p) | kept e ↦ subst (λ o. AtMost (option_to_list o) (option_to_list p)) (sym e) (AtMost-refl (option_to_list p)) ]
  where
    at : (p : Option ℕ) → AtMost [] (option_to_list p)
    at None = AtMost-refl []
    at (Some b) = inl (omega arith)

pub prefixes_least : (l : List ℕ) (p q : Prefixes) → ArePrefixes l p → Within q p → AtMost (least_prefixes q) l
prefixes_least l p q h w =
    let a : AtMost (least_prefixes q) (least_prefixes p) =
    AtMost-append (option_to_list q.segment) (option_to_list p.segment) (option_to_list q.size ++ option_to_list q.repeat) (option_to_list p.size ++ option_to_list p.repeat)
    (option_least q.segment p.segment w.segment)
    (AtMost-append (option_to_list q.size) (option_to_list p.size) (option_to_list q.repeat) (option_to_list p.repeat) (option_least q.size p.size w.size) (option_least q.repeat p.repeat w.repeat)) in
    let b : sorted l ≡ least_prefixes p = ap (λ (x : List ℕ). three x (filter is_size l) (filter is_repeat l)) h.segment ∙ ap (λ (x : List ℕ). three (option_to_list p.segment) x (filter is_repeat l)) h.size ∙ ap (λ (x : List ℕ). three (option_to_list p.segment) (option_to_list p.size) x) h.repeat in
    let s = sorted_least l h.only in
    let c : AtMost (sorted l) l = inr (s.len, s.no_greater) in
    AtMost-trans (least_prefixes q) (least_prefixes p) l a (subst (λ (x : List ℕ). AtMost x l) b c)
