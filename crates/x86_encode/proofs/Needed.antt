-- The prefixes that fields need: they are prefixes, and no more than any that give the fields.
use Rattle.std.proofs.Common.{◌≡◌, ℕ, Bool, true, false, cond, List, [], ◌∷◌, Option, Some, None, refl, sym, ap, subst, inl, inr, arith}
use Rattle.std.specs.Prelude.{◌==◌, filter, MatchBool}
use Rattle.std.specs.Option.{option_to_list}
use Rattle.std.proofs.lemmas.Bool.{eqb-true}
use Rattle.x86_inst.specs.declared.Size.{Size}
use Rattle.x86_inst.specs.declared.Size.TheVariants.{B, H, W}
use Rattle.x86_inst.specs.declared.Seg.{Seg}
use Rattle.x86_inst.specs.declared.Seg.TheVariants as seg
use Rattle.x86_inst.specs.declared.Operand.{Operand}
use Rattle.x86_inst.specs.Rows.{operand_size, segment_of, allows_repeat}
use Rattle.x86_inst.specs.Spelling.{AreBytes, ArePrefixes, is_size, is_repeat, allows_size, IsRm, IsSib, IsDisplaced, IsRegister}
use Rattle.x86_decode.specs.declared.rows.Repeats.{Repeats}
use Rattle.x86_decode.specs.declared.rows.Repeats.TheVariants.{Never, F3Allowed, F2F3Allowed, F3Needed}
use Rattle.x86_decode.specs.View.{repeats_of}
use Rattle.x86_encode.specs.Bytes.{size_prefix, segment_prefix}
use Rattle.x86_encode.specs.Parts.{named_segment}
use Rattle.x86_encode.proofs.Fields.{IsRepeat, none, f3, f2, once, by_f3}
use Rattle.x86_encode.proofs.Columns.{RepeatIn, needs_no_f3}
use Rattle.x86_encode.proofs.Pieces.{prefixes_for}
use Rattle.x86_encode.proofs.Prefix.{least_prefixes, Kept, dropped, kept, filter_head}
use Rattle.x86_encode.proofs.Flags.{or_split}

-- ---- they are prefixes

are_none : (size : Size) (s : Seg) → ArePrefixes (least_prefixes (prefixes_for size s None)) (prefixes_for size s None)
are_none B seg.None = record { only = tt; size = refl; segment = refl; repeat = refl }
are_none B seg.Fs = record { only = (refl, tt); size = refl; segment = refl; repeat = refl }
are_none B seg.Gs = record { only = (refl, tt); size = refl; segment = refl; repeat = refl }
are_none H seg.None = record { only = (refl, tt); size = refl; segment = refl; repeat = refl }
are_none H seg.Fs = record { only = (refl, (refl, tt)); size = refl; segment = refl; repeat = refl }
are_none H seg.Gs = record { only = (refl, (refl, tt)); size = refl; segment = refl; repeat = refl }
are_none W seg.None = record { only = tt; size = refl; segment = refl; repeat = refl }
are_none W seg.Fs = record { only = (refl, tt); size = refl; segment = refl; repeat = refl }
are_none W seg.Gs = record { only = (refl, tt); size = refl; segment = refl; repeat = refl }

bytes_none : (size : Size) (s : Seg) → AreBytes (least_prefixes (prefixes_for size s None))
bytes_none B seg.None = tt
bytes_none B seg.Fs = (omega arith, tt)
bytes_none B seg.Gs = (omega arith, tt)
bytes_none H seg.None = (omega arith, tt)
bytes_none H seg.Fs = (omega arith, (omega arith, tt))
bytes_none H seg.Gs = (omega arith, (omega arith, tt))
bytes_none W seg.None = tt
bytes_none W seg.Fs = (omega arith, tt)
bytes_none W seg.Gs = (omega arith, tt)

are_f3 : (size : Size) (s : Seg) → ArePrefixes (least_prefixes (prefixes_for size s (Some 0xF3))) (prefixes_for size s (Some 0xF3))
are_f3 B seg.None = record { only = (refl, tt); size = refl; segment = refl; repeat = refl }
are_f3 B seg.Fs = record { only = (refl, (refl, tt)); size = refl; segment = refl; repeat = refl }
are_f3 B seg.Gs = record { only = (refl, (refl, tt)); size = refl; segment = refl; repeat = refl }
are_f3 H seg.None = record { only = (refl, (refl, tt)); size = refl; segment = refl; repeat = refl }
are_f3 H seg.Fs = record { only = (refl, (refl, (refl, tt))); size = refl; segment = refl; repeat = refl }
are_f3 H seg.Gs = record { only = (refl, (refl, (refl, tt))); size = refl; segment = refl; repeat = refl }
are_f3 W seg.None = record { only = (refl, tt); size = refl; segment = refl; repeat = refl }
are_f3 W seg.Fs = record { only = (refl, (refl, tt)); size = refl; segment = refl; repeat = refl }
are_f3 W seg.Gs = record { only = (refl, (refl, tt)); size = refl; segment = refl; repeat = refl }

bytes_f3 : (size : Size) (s : Seg) → AreBytes (least_prefixes (prefixes_for size s (Some 0xF3)))
bytes_f3 B seg.None = (omega arith, tt)
bytes_f3 B seg.Fs = (omega arith, (omega arith, tt))
bytes_f3 B seg.Gs = (omega arith, (omega arith, tt))
bytes_f3 H seg.None = (omega arith, (omega arith, tt))
bytes_f3 H seg.Fs = (omega arith, (omega arith, (omega arith, tt)))
bytes_f3 H seg.Gs = (omega arith, (omega arith, (omega arith, tt)))
bytes_f3 W seg.None = (omega arith, tt)
bytes_f3 W seg.Fs = (omega arith, (omega arith, tt))
bytes_f3 W seg.Gs = (omega arith, (omega arith, tt))

are_f2 : (size : Size) (s : Seg) → ArePrefixes (least_prefixes (prefixes_for size s (Some 0xF2))) (prefixes_for size s (Some 0xF2))
are_f2 B seg.None = record { only = (refl, tt); size = refl; segment = refl; repeat = refl }
are_f2 B seg.Fs = record { only = (refl, (refl, tt)); size = refl; segment = refl; repeat = refl }
are_f2 B seg.Gs = record { only = (refl, (refl, tt)); size = refl; segment = refl; repeat = refl }
are_f2 H seg.None = record { only = (refl, (refl, tt)); size = refl; segment = refl; repeat = refl }
are_f2 H seg.Fs = record { only = (refl, (refl, (refl, tt))); size = refl; segment = refl; repeat = refl }
are_f2 H seg.Gs = record { only = (refl, (refl, (refl, tt))); size = refl; segment = refl; repeat = refl }
are_f2 W seg.None = record { only = (refl, tt); size = refl; segment = refl; repeat = refl }
are_f2 W seg.Fs = record { only = (refl, (refl, tt)); size = refl; segment = refl; repeat = refl }
are_f2 W seg.Gs = record { only = (refl, (refl, tt)); size = refl; segment = refl; repeat = refl }

bytes_f2 : (size : Size) (s : Seg) → AreBytes (least_prefixes (prefixes_for size s (Some 0xF2)))
bytes_f2 B seg.None = (omega arith, tt)
bytes_f2 B seg.Fs = (omega arith, (omega arith, tt))
bytes_f2 B seg.Gs = (omega arith, (omega arith, tt))
bytes_f2 H seg.None = (omega arith, (omega arith, tt))
bytes_f2 H seg.Fs = (omega arith, (omega arith, (omega arith, tt)))
bytes_f2 H seg.Gs = (omega arith, (omega arith, (omega arith, tt)))
bytes_f2 W seg.None = (omega arith, tt)
bytes_f2 W seg.Fs = (omega arith, (omega arith, tt))
bytes_f2 W seg.Gs = (omega arith, (omega arith, tt))

pub needed_are : (size : Size) (s : Seg) (o : Option ℕ) → IsRepeat o → ArePrefixes (least_prefixes (prefixes_for size s o)) (prefixes_for size s o)
needed_are size s o h =
    elim h [
      | none e ↦ subst (λ z. ArePrefixes (least_prefixes (prefixes_for size s z)) (prefixes_for size s z)) (sym e) (are_none size s)
      | f3 e ↦ subst (λ z. ArePrefixes (least_prefixes (prefixes_for size s z)) (prefixes_for size s z)) (sym e) (are_f3 size s)
      | f2 e ↦ subst (λ z. ArePrefixes (least_prefixes (prefixes_for size s z)) (prefixes_for size s z)) (sym e) (are_f2 size s)
    ]

pub needed_bytes : (size : Size) (s : Seg) (o : Option ℕ) → IsRepeat o → AreBytes (least_prefixes (prefixes_for size s o))
needed_bytes size s o h =
    elim h [
      | none e ↦ subst (λ z. AreBytes (least_prefixes (prefixes_for size s z))) (sym e) (bytes_none size s)
      | f3 e ↦ subst (λ z. AreBytes (least_prefixes (prefixes_for size s z))) (sym e) (bytes_f3 size s)
      | f2 e ↦ subst (λ z. AreBytes (least_prefixes (prefixes_for size s z))) (sym e) (bytes_f2 size s)
    ]

-- ---- they are among those that stand

pub size_kept : (l : List ℕ) (o : Option ℕ) → filter is_size l ≡ option_to_list o → Kept (size_prefix (operand_size o)) o
size_kept l None e = kept refl
size_kept l (Some b) e = let k : b ≡ 0x66 = eqb-true b 0x66 (filter_head is_size l b [] e) in kept (ap (λ (n : ℕ). Some n) (sym k))

pub segment_kept : (o : Option ℕ) → Kept (segment_prefix (segment_of o)) o
segment_kept None = dropped refl
segment_kept (Some b) = at (b == 0x64) (b == 0x65) refl refl
  where
    at : (u v : Bool) → (b == 0x64) ≡ u → (b == 0x65) ≡ v → Kept (segment_prefix (cond u seg.Fs (cond v seg.Gs seg.None))) (Some b)
    at true v e f = kept (ap (λ (n : ℕ). Some n) (sym (eqb-true b 0x64 e)))
    at false true e f = kept (ap (λ (n : ℕ). Some n) (sym (eqb-true b 0x65 f)))
    at false false e f = dropped refl

-- an operand names the segment of the prefixes, or none
pub data Names (rm : Operand) (s : Seg) : Type 0 where
  its : named_segment rm ≡ s → Names rm s
  no : named_segment rm ≡ seg.None → Names rm s

pub names_of : (s : Seg) (md rm : ℕ) (l : List ℕ) (o : Operand) → IsRm s md rm l o → Names o s
names_of s md rm l o h = at (md == 3) (rm == 4) h
  where
    sib : (l : List ℕ) → IsSib s md l o → Names o s
    sib [] h = absurd h
    sib (b ∷ l) h = its (ap named_segment h.1)

    at : (u v : Bool) → MatchBool u (IsRegister rm l o) (MatchBool v (IsSib s md l o) (IsDisplaced s md rm l o)) → Names o s
    at true v h = no (ap named_segment h.1)
    at false true h = sib l h
    at false false h = its (ap named_segment h.1)

pub named_kept : (o : Operand) (p : Option ℕ) → Names o (segment_of p) → Kept (segment_prefix (named_segment o)) p
named_kept o p h = elim h [ its e ↦ subst (λ s. Kept (segment_prefix s) p) (sym e) (segment_kept p) | no e ↦ dropped (ap segment_prefix e) ]

-- F2 and F3 are all the repeats
pub repeat_is : (l : List ℕ) (o : Option ℕ) → filter is_repeat l ≡ option_to_list o → IsRepeat o
repeat_is l None e = none refl
repeat_is l (Some b) e =
    elim (or_split (b == 0xF2) (b == 0xF3) (filter_head is_repeat l b [] e)) [
      | inl t ↦ f2 (ap (λ (n : ℕ). Some n) (eqb-true b 0xF2 t))
      | inr t ↦ f3 (ap (λ (n : ℕ). Some n) (eqb-true b 0xF3 t))
    ]

-- ---- a row's repeats

some_f3 : (b : ℕ) → (b == 0xF3) ≡ true → Some b ≡ Some 0xF3
some_f3 b e = ap (λ (n : ℕ). Some n) (eqb-true b 0xF3 e)

pub repeat_in : (k : Repeats) (o : Option ℕ) → IsRepeat o → allows_repeat (repeats_of k) o ≡ true → RepeatIn k o
repeat_in Never None h e = refl
repeat_in Never (Some b) h e = absurd cc
repeat_in F3Allowed None h e = once refl
repeat_in F3Allowed (Some b) h e = by_f3 (some_f3 b e)
repeat_in F2F3Allowed o h e = h
repeat_in F3Needed o h e = tt

pub allows_none : (k : Repeats) → needs_no_f3 k ≡ true → allows_repeat (repeats_of k) None ≡ true
allows_none Never e = refl
allows_none F3Allowed e = refl
allows_none F2F3Allowed e = refl
allows_none F3Needed e = absurd cc

-- ---- and they give the fields back

pub size_again : (o : Option ℕ) → operand_size (size_prefix (operand_size o)) ≡ operand_size o
size_again None = refl
size_again (Some b) = refl

pub segment_again : (s : Seg) → segment_of (segment_prefix s) ≡ s
segment_again seg.None = refl
segment_again seg.Fs = refl
segment_again seg.Gs = refl

pub size_allowed : (b : Bool) (o : Option ℕ) → allows_size b o ≡ true → allows_size b (size_prefix (operand_size o)) ≡ true
size_allowed b None h = refl
size_allowed b (Some c) h = h

-- a row without 66 has 32 bits
pub size_from : (b : Bool) (o : Option ℕ) → allows_size b o ≡ true → cond b (operand_size o) W ≡ operand_size o
size_from true o h = refl
size_from false None h = refl
size_from false (Some c) h = absurd cc
