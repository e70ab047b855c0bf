-- Prefixes in any order, and what follows them.
use Rattle.std.proofs.Common.{◌≡◌, ℕ, Bool, true, false, List, [], ◌∷◌, ◌++◌, Option, Some, None, Ok, Err, refl, sym, ap, subst, ◌∙◌}
use Rattle.std.specs.Prelude.{◌==◌, ◌&&◌, ◌||◌, IsTrue, nat_lt, filter}
use Rattle.std.specs.Option.{option_to_list}
use Rattle.std.proofs.lemmas.Bool.{eqb-true}
use Rattle.x86_inst.specs.declared.Inst.{Inst}
use Rattle.x86_inst.specs.Rows.{Prefixes}
use Rattle.x86_inst.specs.Spelling.{AreBytes, opcode, opcode_bytes, Follows, ArePrefixes, AllPrefixBytes, is_size, is_segment, is_repeat}
use Rattle.x86_decode.specs.declared.fields.Stop.TheVariants.{Cut, Bad}
use Rattle.x86_decode.specs.Reading.{Read, ◌>>=◌, prefixes_at, follows_at, read_at}
use Rattle.x86_decode.proofs.Strings.{Reads}
use Rattle.x86_decode.proofs.Separate.{and_true, no, good_opcode, good_row}
use Rattle.x86_decode.proofs.Whole.{reads_follows, some_follows}

-- ---- one group

-- the bytes of a group, behind what is there, come to what is there in the end
abbrev Adds : Option ℕ → (ℕ → Bool) → List ℕ → Option ℕ → Type 0
Adds o f bytes o' = option_to_list o ++ filter f bytes ≡ option_to_list o'

filter_take : (f : ℕ → Bool) (b : ℕ) (bytes : List ℕ) → f b ≡ true → filter f (b ∷ bytes) ≡ b ∷ filter f bytes
filter_take f b bytes t = rw t refl

filter_skip : (f : ℕ → Bool) (b : ℕ) (bytes : List ℕ) → f b ≡ false → filter f (b ∷ bytes) ≡ filter f bytes
filter_skip f b bytes t = rw t refl

adds_take : (f : ℕ → Bool) (b : ℕ) (bytes : List ℕ) (o : Option ℕ) → f b ≡ true → Adds (Some b) f bytes o → Adds None f (b ∷ bytes) o
adds_take f b bytes o t h = filter_take f b bytes t ∙ h

adds_taken : (f : ℕ → Bool) (b : ℕ) (bytes : List ℕ) (o : Option ℕ) → f b ≡ true → Adds None f (b ∷ bytes) o → Adds (Some b) f bytes o
adds_taken f b bytes o t h = sym (filter_take f b bytes t) ∙ h

adds_skip : (f : ℕ → Bool) (b : ℕ) (bytes : List ℕ) (o o' : Option ℕ) → f b ≡ false → Adds o f bytes o' → Adds o f (b ∷ bytes) o'
adds_skip f b bytes o o' t h = ap (λ (l : List ℕ). option_to_list o ++ l) (filter_skip f b bytes t) ∙ h

adds_skipped : (f : ℕ → Bool) (b : ℕ) (bytes : List ℕ) (o o' : Option ℕ) → f b ≡ false → Adds o f (b ∷ bytes) o' → Adds o f bytes o'
adds_skipped f b bytes o o' t h = ap (λ (l : List ℕ). option_to_list o ++ l) (sym (filter_skip f b bytes t)) ∙ h

two_are : (a b : ℕ) (l : List ℕ) (o : Option ℕ) → a ∷ b ∷ l ≡ option_to_list o → ⊥
two_are a b l None e = cc
two_are a b l (Some c) e = let k : b ∷ l ≡ [] = cc in cc

adds_twice : (f : ℕ → Bool) (c b : ℕ) (bytes : List ℕ) (o : Option ℕ) → f b ≡ true → Adds (Some c) f (b ∷ bytes) o → ⊥
adds_twice f c b bytes o t h = two_are c b (filter f bytes) o (ap (λ (l : List ℕ). c ∷ l) (sym (filter_take f b bytes t)) ∙ h)

adds_nil : (f : ℕ → Bool) (o : Option ℕ) → Adds o f [] o
adds_nil f None = refl
adds_nil f (Some b) = refl

adds_end : (f : ℕ → Bool) (o o' : Option ℕ) → Adds o f [] o' → o ≡ o'
adds_end f None None h = refl
adds_end f None (Some b) h = absurd cc
adds_end f (Some a) None h = absurd cc
adds_end f (Some a) (Some b) h = let k : a ≡ b = cc in ap (λ (x : ℕ). Some x) k

-- ---- all groups

record More (p : Prefixes) (bytes : List ℕ) (q : Prefixes) : Type 0 where
  only : AllPrefixBytes bytes
  size : Adds p.size is_size bytes q.size
  segment : Adds p.segment is_segment bytes q.segment
  repeat : Adds p.repeat is_repeat bytes q.repeat

-- more prefixes, and what follows them
record From (p : Prefixes) (x : List ℕ) (i : Inst) : Type 0 where
  prefix : List ℕ
  q : Prefixes
  s : List ℕ
  bytes : x ≡ prefix ++ s
  more : More p prefix q
  follows : Follows q s i

-- what kind of byte it is
data Kind (b : ℕ) : Type 0 where
  size : is_size b ≡ true → is_segment b ≡ false → is_repeat b ≡ false → Kind b
  segment : is_size b ≡ false → is_segment b ≡ true → is_repeat b ≡ false → Kind b
  repeat : is_size b ≡ false → is_segment b ≡ false → is_repeat b ≡ true → Kind b
  other : is_size b ≡ false → is_segment b ≡ false → is_repeat b ≡ false → Kind b

or_cases : (a b : Bool) → (a || b) ≡ true → a ≡ false → b ≡ true
or_cases true b e f = absurd cc
or_cases false b e f = e

no_repeat : (b : ℕ) → is_segment b ≡ true → is_repeat b ≡ false
no_repeat b e = at (b == 0xF2) (b == 0xF3) refl refl
  where
    at : (u v : Bool) → (b == 0xF2) ≡ u → (b == 0xF3) ≡ v → (u || v) ≡ false
    at true v f g = let k : is_segment 0xF2 ≡ true = subst (λ n. is_segment n ≡ true) (eqb-true b 0xF2 f) e in absurd cc
    at false true f g = let k : is_segment 0xF3 ≡ true = subst (λ n. is_segment n ≡ true) (eqb-true b 0xF3 g) e in absurd cc
    at false false f g = refl

kind : (b : ℕ) → Kind b
kind b = at (is_size b) (is_segment b) (is_repeat b) refl refl refl
  where
    at : (u v w : Bool) → is_size b ≡ u → is_segment b ≡ v → is_repeat b ≡ w → Kind b
    at true v w e f g =
        let k = eqb-true b 0x66 e in
        size e (subst (λ n. is_segment n ≡ false) (sym k) refl) (subst (λ n. is_repeat n ≡ false) (sym k) refl)
    at false true w e f g = segment e f (no_repeat b f)
    at false false true e f g = repeat e f g
    at false false false e f g = other e f g

-- ---- one step

data Step (p : Prefixes) (b : ℕ) : Type 0 where
  again : (q : Prefixes) → ((x : List ℕ) → prefixes_at p (b ∷ x) ≡ prefixes_at q x) → ((x : List ℕ) (i : Inst) → From q x i → From p (b ∷ x) i) → ((x : List ℕ) (i : Inst) → From p (b ∷ x) i → From q x i) → Step p b
  stop : ((x : List ℕ) → prefixes_at p (b ∷ x) ≡ Err Bad) → ((x : List ℕ) (i : Inst) → From p (b ∷ x) i → ⊥) → Step p b
  here : ((x : List ℕ) → prefixes_at p (b ∷ x) ≡ Ok (p, b ∷ x)) → ((x : List ℕ) (i : Inst) → Follows p (b ∷ x) i → From p (b ∷ x) i) → ((x : List ℕ) (i : Inst) → From p (b ∷ x) i → Follows p (b ∷ x) i) → Step p b

abbrev is_prefix : ℕ → Bool
is_prefix b = is_size b || (is_segment b || is_repeat b)

-- no prefix byte follows the prefixes
no_prefix : (q : Prefixes) (b : ℕ) (x : List ℕ) (i : Inst) → Follows q (b ∷ x) i → is_prefix b ≡ false
no_prefix q b x i h = at h.r.escape refl
  where
    none : (u v w : Bool) → no u ≡ true → (no v && no w) ≡ true → (u || (v || w)) ≡ false
    none true v w e f = absurd cc
    none false true w e f = absurd cc
    none false false true e f = absurd cc
    none false false false e f = refl

    at : (e : Bool) → h.r.escape ≡ e → is_prefix b ≡ false
    at true e =
        let l : b ∷ x ≡ 0x0F ∷ opcode h.r h.low ∷ h.rest = h.bytes ∙ ap (λ z. opcode_bytes z (opcode h.r h.low) ++ h.rest) e in
        let k : b ≡ 0x0F = cc in
        subst (λ n. is_prefix n ≡ false) (sym k) refl
    at false e =
        let l : b ∷ x ≡ opcode h.r h.low ∷ h.rest = h.bytes ∙ ap (λ z. opcode_bytes z (opcode h.r h.low) ++ h.rest) e in
        let k : b ≡ opcode h.r h.low = cc in
        let g = subst (λ z. good_opcode z (opcode h.r h.low) ≡ true) e ((good_row h.place h.r h.listed).opcodes h.low h.within) in
        let g1 = (and_true (nat_lt (opcode h.r h.low) 256) _ g).1 in
        let g2 = (and_true (no (opcode h.r h.low == 0x0F)) _ g1).1 in
        let g3 = and_true (no (is_size (opcode h.r h.low))) _ g2 in
        subst (λ n. is_prefix n ≡ false) (sym k) (none (is_size (opcode h.r h.low)) (is_segment (opcode h.r h.low)) (is_repeat (opcode h.r h.low)) g3.0 g3.1)

-- a string of From that begins with a byte has it as its first prefix, or has no prefix
data First (p : Prefixes) (b : ℕ) (x : List ℕ) (i : Inst) : Type 0 where
  none : Follows p (b ∷ x) i → First p b x i
  some : (prefix s : List ℕ) (q : Prefixes) → x ≡ prefix ++ s → IsTrue (is_prefix b) → AllPrefixBytes prefix → Adds p.size is_size (b ∷ prefix) q.size → Adds p.segment is_segment (b ∷ prefix) q.segment → Adds p.repeat is_repeat (b ∷ prefix) q.repeat → Follows q s i → First p b x i

same_prefixes : (p q : Prefixes) → p.size ≡ q.size → p.segment ≡ q.segment → p.repeat ≡ q.repeat → p ≡ q
same_prefixes p q e f g = rw (e, f, g) refl

first_of : (p : Prefixes) (b : ℕ) (x : List ℕ) (i : Inst) → From p (b ∷ x) i → First p b x i
first_of p b x i h = at h.prefix h.bytes h.more
  where
    at : (prefix : List ℕ) → b ∷ x ≡ prefix ++ h.s → More p prefix h.q → First p b x i
    at [] e m =
        let k = same_prefixes p h.q (adds_end is_size p.size h.q.size m.size) (adds_end is_segment p.segment h.q.segment m.segment) (adds_end is_repeat p.repeat h.q.repeat m.repeat) in
        none (subst (λ (z : Prefixes). Follows z (b ∷ x) i) (sym k) (subst (λ (l : List ℕ). Follows h.q l i) (sym e) h.follows))
    at (c ∷ prefix) e m =
        let k : c ≡ b = cc in
        let l : x ≡ prefix ++ h.s = cc in
        some prefix h.s h.q l (subst (λ n. is_prefix n ≡ true) k m.only.0) m.only.1
        (subst (λ n. Adds p.size is_size (n ∷ prefix) h.q.size) k m.size)
        (subst (λ n. Adds p.segment is_segment (n ∷ prefix) h.q.segment) k m.segment)
        (subst (λ n. Adds p.repeat is_repeat (n ∷ prefix) h.q.repeat) k m.repeat)
        h.follows

is_of : (u v w : Bool) → u ≡ false → v ≡ false → w ≡ false → (u || (v || w)) ≡ true → ⊥
is_of true v w e f g h = cc
is_of false true w e f g h = cc
is_of false false true e f g h = cc
is_of false false false e f g h = cc

-- ---- a byte of the group size

module _ (p : Prefixes) (b : ℕ) (e : is_size b ≡ true) (f : is_segment b ≡ false) (g : is_repeat b ≡ false) where
  size_to : p.size ≡ None → (x : List ℕ) (i : Inst) → From (record p { size = Some b }) x i → From p (b ∷ x) i
  size_to n x i h = record {
    prefix = b ∷ h.prefix;
    q = h.q;
    s = h.s;
    bytes = ap (λ (l : List ℕ). b ∷ l) h.bytes;
    more = record {
      only = (rw e refl, h.more.only);
      size = subst (λ o. Adds o is_size (b ∷ h.prefix) h.q.size) (sym n) (adds_take is_size b h.prefix h.q.size e h.more.size);
      segment = adds_skip is_segment b h.prefix p.segment h.q.segment f h.more.segment;
      repeat = adds_skip is_repeat b h.prefix p.repeat h.q.repeat g h.more.repeat;
    };
    follows = h.follows;
  }

  size_from : p.size ≡ None → (x : List ℕ) (i : Inst) → From p (b ∷ x) i → From (record p { size = Some b }) x i
  size_from n x i h =
      elim (first_of p b x i h) [
        | none k ↦ absurd (let t : is_prefix b ≡ true = rw e refl in let u = no_prefix p b x i k in cc)
        | some prefix s q bytes t only a1 a2 a3 k ↦ record {
          prefix = prefix;
          q = q;
          s = s;
          bytes = bytes;
          more = record { only = only; size = adds_taken is_size b prefix q.size e (subst (λ o. Adds o is_size (b ∷ prefix) q.size) n a1); segment = adds_skipped is_segment b prefix p.segment q.segment f a2; repeat = adds_skipped is_repeat b prefix p.repeat q.repeat g a3 };
          follows = k;
        }
      ]

  size_twice : (c : ℕ) → p.size ≡ Some c → (x : List ℕ) (i : Inst) → From p (b ∷ x) i → ⊥
  size_twice c n x i h =
      elim (first_of p b x i h) [
        | none k ↦ let t : is_prefix b ≡ true = rw e refl in let u = no_prefix p b x i k in cc
        | some prefix s q bytes t only a1 a2 a3 k ↦ adds_twice is_size c b prefix q.size e (subst (λ o. Adds o is_size (b ∷ prefix) q.size) n a1)
      ]

  size_step : (o : Option ℕ) → p.size ≡ o → Step p b
  unfolding prefixes_at
  size_step None n = again (record p { size = Some b }) size_goes (size_to n) (size_from n)
    where
      size_goes : (x : List ℕ) → prefixes_at p (b ∷ x) ≡ prefixes_at (record p { size = Some b }) x
      size_goes x = rw (e, n) refl
  size_step (Some c) n = stop size_stops (size_twice c n)
    where
      size_stops : (x : List ℕ) → prefixes_at p (b ∷ x) ≡ Err Bad
      size_stops x = rw (e, n) refl

-- ---- a byte of the group segment

module _ (p : Prefixes) (b : ℕ) (e : is_size b ≡ false) (f : is_segment b ≡ true) (g : is_repeat b ≡ false) where
  segment_to : p.segment ≡ None → (x : List ℕ) (i : Inst) → From (record p { segment = Some b }) x i → From p (b ∷ x) i
  segment_to n x i h = record {
    prefix = b ∷ h.prefix;
    q = h.q;
    s = h.s;
    bytes = ap (λ (l : List ℕ). b ∷ l) h.bytes;
    more = record {
      only = (rw (e, f) refl, h.more.only);
      size = adds_skip is_size b h.prefix p.size h.q.size e h.more.size;
      segment = subst (λ o. Adds o is_segment (b ∷ h.prefix) h.q.segment) (sym n) (adds_take is_segment b h.prefix h.q.segment f h.more.segment);
      repeat = adds_skip is_repeat b h.prefix p.repeat h.q.repeat g h.more.repeat;
    };
    follows = h.follows;
  }

  segment_from : p.segment ≡ None → (x : List ℕ) (i : Inst) → From p (b ∷ x) i → From (record p { segment = Some b }) x i
  segment_from n x i h =
      elim (first_of p b x i h) [
        | none k ↦ absurd (let t : is_prefix b ≡ true = rw (e, f) refl in let u = no_prefix p b x i k in cc)
        | some prefix s q bytes t only a1 a2 a3 k ↦ record {
          prefix = prefix;
          q = q;
          s = s;
          bytes = bytes;
          more = record { only = only; size = adds_skipped is_size b prefix p.size q.size e a1; segment = adds_taken is_segment b prefix q.segment f (subst (λ o. Adds o is_segment (b ∷ prefix) q.segment) n a2); repeat = adds_skipped is_repeat b prefix p.repeat q.repeat g a3 };
          follows = k;
        }
      ]

  segment_twice : (c : ℕ) → p.segment ≡ Some c → (x : List ℕ) (i : Inst) → From p (b ∷ x) i → ⊥
  segment_twice c n x i h =
      elim (first_of p b x i h) [
        | none k ↦ let t : is_prefix b ≡ true = rw (e, f) refl in let u = no_prefix p b x i k in cc
        | some prefix s q bytes t only a1 a2 a3 k ↦ adds_twice is_segment c b prefix q.segment f (subst (λ o. Adds o is_segment (b ∷ prefix) q.segment) n a2)
      ]

  segment_step : (o : Option ℕ) → p.segment ≡ o → Step p b
  unfolding prefixes_at
  segment_step None n = again (record p { segment = Some b }) segment_goes (segment_to n) (segment_from n)
    where
      segment_goes : (x : List ℕ) → prefixes_at p (b ∷ x) ≡ prefixes_at (record p { segment = Some b }) x
      segment_goes x = rw (e, f, n) refl
  segment_step (Some c) n = stop segment_stops (segment_twice c n)
    where
      segment_stops : (x : List ℕ) → prefixes_at p (b ∷ x) ≡ Err Bad
      segment_stops x = rw (e, f, n) refl

-- ---- a byte of the group repeat

module _ (p : Prefixes) (b : ℕ) (e : is_size b ≡ false) (f : is_segment b ≡ false) (g : is_repeat b ≡ true) where
  repeat_to : p.repeat ≡ None → (x : List ℕ) (i : Inst) → From (record p { repeat = Some b }) x i → From p (b ∷ x) i
  repeat_to n x i h = record {
    prefix = b ∷ h.prefix;
    q = h.q;
    s = h.s;
    bytes = ap (λ (l : List ℕ). b ∷ l) h.bytes;
    more = record {
      only = (rw (e, f, g) refl, h.more.only);
      size = adds_skip is_size b h.prefix p.size h.q.size e h.more.size;
      segment = adds_skip is_segment b h.prefix p.segment h.q.segment f h.more.segment;
      repeat = subst (λ o. Adds o is_repeat (b ∷ h.prefix) h.q.repeat) (sym n) (adds_take is_repeat b h.prefix h.q.repeat g h.more.repeat);
    };
    follows = h.follows;
  }

  repeat_from : p.repeat ≡ None → (x : List ℕ) (i : Inst) → From p (b ∷ x) i → From (record p { repeat = Some b }) x i
  repeat_from n x i h =
      elim (first_of p b x i h) [
        | none k ↦ absurd (let t : is_prefix b ≡ true = rw (e, f, g) refl in let u = no_prefix p b x i k in cc)
        | some prefix s q bytes t only a1 a2 a3 k ↦ record {
          prefix = prefix;
          q = q;
          s = s;
          bytes = bytes;
          more = record { only = only; size = adds_skipped is_size b prefix p.size q.size e a1; segment = adds_skipped is_segment b prefix p.segment q.segment f a2; repeat = adds_taken is_repeat b prefix q.repeat g (subst (λ o. Adds o is_repeat (b ∷ prefix) q.repeat) n a3) };
          follows = k;
        }
      ]

  repeat_twice : (c : ℕ) → p.repeat ≡ Some c → (x : List ℕ) (i : Inst) → From p (b ∷ x) i → ⊥
  repeat_twice c n x i h =
      elim (first_of p b x i h) [
        | none k ↦ let t : is_prefix b ≡ true = rw (e, f, g) refl in let u = no_prefix p b x i k in cc
        | some prefix s q bytes t only a1 a2 a3 k ↦ adds_twice is_repeat c b prefix q.repeat g (subst (λ o. Adds o is_repeat (b ∷ prefix) q.repeat) n a3)
      ]

  repeat_step : (o : Option ℕ) → p.repeat ≡ o → Step p b
  unfolding prefixes_at
  repeat_step None n = again (record p { repeat = Some b }) repeat_goes (repeat_to n) (repeat_from n)
    where
      repeat_goes : (x : List ℕ) → prefixes_at p (b ∷ x) ≡ prefixes_at (record p { repeat = Some b }) x
      repeat_goes x = rw (e, f, g, n) refl
  repeat_step (Some c) n = stop repeat_stops (repeat_twice c n)
    where
      repeat_stops : (x : List ℕ) → prefixes_at p (b ∷ x) ≡ Err Bad
      repeat_stops x = rw (e, f, g, n) refl

-- ---- another byte

module _ (p : Prefixes) (b : ℕ) (e : is_size b ≡ false) (f : is_segment b ≡ false) (g : is_repeat b ≡ false) where
  other_goes : (x : List ℕ) → prefixes_at p (b ∷ x) ≡ Ok (p, b ∷ x)
  unfolding prefixes_at
  other_goes x = rw (e, f, g) refl

  other_to : (x : List ℕ) (i : Inst) → Follows p (b ∷ x) i → From p (b ∷ x) i
  other_to x i h = record { prefix = []; q = p; s = b ∷ x; bytes = refl; more = record { only = tt; size = adds_nil is_size p.size; segment = adds_nil is_segment p.segment; repeat = adds_nil is_repeat p.repeat }; follows = h }

  other_from : (x : List ℕ) (i : Inst) → From p (b ∷ x) i → Follows p (b ∷ x) i
  other_from x i h =
      elim (first_of p b x i h) [
        | none k ↦ k
        | some prefix s q bytes t only a1 a2 a3 k ↦ absurd (is_of (is_size b) (is_segment b) (is_repeat b) e f g t)
      ]

step : (p : Prefixes) (b : ℕ) → Step p b
step p b =
    elim (kind b) [
      | size e f g ↦ size_step p b e f g p.size refl
      | segment e f g ↦ segment_step p b e f g p.segment refl
      | repeat e f g ↦ repeat_step p b e f g p.repeat refl
      | other e f g ↦ here (other_goes p b e f g) (other_to p b e f g) (other_from p b e f g)
    ]

-- ---- all prefixes

abbrev next : Prefixes × List ℕ → Read Inst
next q = follows_at q.0 q.1

from_at : Prefixes → List ℕ → Read Inst
from_at p x = prefixes_at p x >>= next

nil_is : (p : Prefixes) → from_at p [] ≡ Err Cut
unfolding from_at prefixes_at
nil_is p = refl

goes : (p q : Prefixes) (b : ℕ) (x : List ℕ) → prefixes_at p (b ∷ x) ≡ prefixes_at q x → from_at p (b ∷ x) ≡ from_at q x
unfolding from_at
goes p q b x e = ap (λ (r : Read Prefixes). r >>= next) e

stops : (p : Prefixes) (b : ℕ) (x : List ℕ) → prefixes_at p (b ∷ x) ≡ Err Bad → from_at p (b ∷ x) ≡ Err Bad
unfolding from_at
stops p b x e = ap (λ (r : Read Prefixes). r >>= next) e

ends : (p : Prefixes) (b : ℕ) (x : List ℕ) → prefixes_at p (b ∷ x) ≡ Ok (p, b ∷ x) → from_at p (b ∷ x) ≡ follows_at p (b ∷ x)
unfolding from_at
ends p b x e = ap (λ (r : Read Prefixes). r >>= next) e

nil_from : (p : Prefixes) (i : Inst) → From p [] i → ⊥
nil_from p i h = at h.prefix h.s h.bytes h.follows
  where
    no_follows : (q : Prefixes) → Follows q [] i → ⊥
    no_follows q k = nil_opcode k.r.escape k.bytes
      where
        nil_opcode : (e : Bool) → [] ≡ opcode_bytes e (opcode k.r k.low) ++ k.rest → ⊥
        nil_opcode true e = cc
        nil_opcode false e = cc

    at : (prefix s : List ℕ) → [] ≡ prefix ++ s → Follows h.q s i → ⊥
    at [] s e k = no_follows h.q (subst (λ (l : List ℕ). Follows h.q l i) (sym e) k)
    at (c ∷ prefix) s e k = cc

from_complete : (x : List ℕ) (p : Prefixes) (i : Inst) → From p x i → (y : List ℕ) → from_at p (x ++ y) ≡ Ok (i, y)
from_complete [] p i h y = absurd (nil_from p i h)
from_complete (b ∷ x) p i h y =
    elim (step p b) [
      | again q e to from ↦ goes p q b (x ++ y) (e (x ++ y)) ∙ from_complete x q i (from x i h) y
      | stop e no ↦ absurd (no x i h)
      | here e to from ↦ ends p b (x ++ y) (e (x ++ y)) ∙ (reads_follows p).complete (b ∷ x) i (from x i h) y
    ]

from_sound : (x : List ℕ) (p : Prefixes) (i : Inst) (y : List ℕ) → from_at p x ≡ Ok (i, y) → (s : List ℕ) × (x ≡ s ++ y) × From p s i
from_sound [] p i y h = absurd (let k = nil_is p in cc)
from_sound (b ∷ x) p i y h =
    elim (step p b) [
      | again q e to from ↦
          let k = from_sound x q i y (sym (goes p q b x (e x)) ∙ h) in
          (b ∷ k.0, ap (λ (l : List ℕ). b ∷ l) k.1, to k.0 i k.2)
      | stop e no ↦ absurd (let k = stops p b x (e x) in cc)
      | here e to from ↦
          let k = (reads_follows p).sound (b ∷ x) i y (sym (ends p b x (e x)) ∙ h) in
          begun k.0 k.1 k.2 to
    ]
  where
    begun : (s : List ℕ) → b ∷ x ≡ s ++ y → Follows p s i → ((x : List ℕ) (i : Inst) → Follows p (b ∷ x) i → From p (b ∷ x) i) → (s : List ℕ) × (b ∷ x ≡ s ++ y) × From p s i
    begun [] e k to = absurd (nil_from p i (record { prefix = []; q = p; s = []; bytes = refl; more = record { only = tt; size = adds_nil is_size p.size; segment = adds_nil is_segment p.segment; repeat = adds_nil is_repeat p.repeat }; follows = k }))
    begun (c ∷ s) e k to = let l : c ≡ b = cc in (c ∷ s, e, subst (λ n. From p (n ∷ s) i) (sym l) (to s i (subst (λ n. Follows p (n ∷ s) i) l k)))

from_cut : (x : List ℕ) (p : Prefixes) → from_at p x ≡ Err Cut → (y : List ℕ) × AreBytes y × (i : Inst) × From p (x ++ y) i
from_cut [] p h =
    let z = some_follows p in
    (z.s, z.are_bytes, z.a, record { prefix = []; q = p; s = z.s; bytes = refl; more = record { only = tt; size = adds_nil is_size p.size; segment = adds_nil is_segment p.segment; repeat = adds_nil is_repeat p.repeat }; follows = z.holds })
from_cut (b ∷ x) p h =
    elim (step p b) [
      | again q e to from ↦
          let k = from_cut x q (sym (goes p q b x (e x)) ∙ h) in
          (k.0, k.1, k.2, to (x ++ k.0) k.2 k.3)
      | stop e no ↦ absurd (let k = stops p b x (e x) in cc)
      | here e to from ↦
          let k = (reads_follows p).cut (b ∷ x) (sym (ends p b x (e x)) ∙ h) in
          (k.0, k.1, k.2, to (x ++ k.0) k.2 k.3)
    ]

from_bad : (x : List ℕ) (p : Prefixes) → from_at p x ≡ Err Bad → (y : List ℕ) → from_at p (x ++ y) ≡ Err Bad
from_bad [] p h y = absurd (let k = nil_is p in cc)
from_bad (b ∷ x) p h y =
    elim (step p b) [
      | again q e to from ↦ goes p q b (x ++ y) (e (x ++ y)) ∙ from_bad x q (sym (goes p q b x (e x)) ∙ h) y
      | stop e no ↦ stops p b (x ++ y) (e (x ++ y))
      | here e to from ↦ ends p b (x ++ y) (e (x ++ y)) ∙ (reads_follows p).bad (b ∷ x) (sym (ends p b x (e x)) ∙ h) y
    ]

abbrev no_prefixes : Prefixes
no_prefixes = record { size = None; segment = None; repeat = None }

-- a spelling whose bytes may be any numbers
pub record Spelled (x : List ℕ) (i : Inst) : Type 0 where
  pub prefix : List ℕ
  pub p : Prefixes
  pub s : List ℕ
  pub bytes : x ≡ prefix ++ s
  pub prefixes : ArePrefixes prefix p
  pub follows : Follows p s i

to_spelled : (x : List ℕ) (i : Inst) → From no_prefixes x i → Spelled x i
to_spelled x i h = record { prefix = h.prefix; p = h.q; s = h.s; bytes = h.bytes; prefixes = record { only = h.more.only; size = h.more.size; segment = h.more.segment; repeat = h.more.repeat }; follows = h.follows }

from_spelled : (x : List ℕ) (i : Inst) → Spelled x i → From no_prefixes x i
from_spelled x i h = record { prefix = h.prefix; q = h.p; s = h.s; bytes = h.bytes; more = record { only = h.prefixes.only; size = h.prefixes.size; segment = h.prefixes.segment; repeat = h.prefixes.repeat }; follows = h.follows }

pub reads_all : Reads read_at Spelled
unfolding read_at from_at
reads_all = record {
  complete = λ s i h y. from_complete s no_prefixes i (from_spelled s i h) y;
  sound = λ x i y e. let k = from_sound x no_prefixes i y e in (k.0, k.1, to_spelled k.0 i k.2);
  cut = λ x e. let k = from_cut x no_prefixes e in (k.0, k.1, k.2, to_spelled (x ++ k.0) k.2 k.3);
  bad = λ x e y. from_bad x no_prefixes e y;
}
