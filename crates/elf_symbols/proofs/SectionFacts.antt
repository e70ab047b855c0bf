-- What holds of the sections of a file that break no rule.
use Rattle.std.proofs.Common.{◌≡◌, ◌<◌, ◌≤◌, ◌+◌, ◌*◌, ◌⊎◌, ℕ, zero, suc, List, [], ◌∷◌, length, Bool, true, false, Option, Some, None, refl, sym, ap, ◌∙◌, arith, subst, inl, inr, slice_get, nat_lt, nat_le, ltb-false, leb-false}
use Rattle.std.specs.Prelude.{◌||◌, ◌&&◌, ◌==◌}
use Rattle.std.proofs.lemmas.Bool.{cases_lt, and_cases, or_parts, both_ways, or_left, or_right, or_cases, eqb-true, eq-eqb}
use Rattle.elf_image.specs.declared.image.ElfFault.{ElfFault}
use Rattle.elf_image.specs.First.{first_below}
use Rattle.elf_image.specs.Rules.{first_rule}
use Rattle.elf_symbols.specs.Sections.{section_table, section_count, section_place, section_type, section_link, holds_symbols, passes_end, is_section_outside, section_fault, section_rules, broken_sections}

below_or_last : (k m : ℕ) → k < suc m → (k < m) ⊎ (k ≡ m)
below_or_last k m h = elim (cases_lt k m) [ inl lt ↦ inl lt | inr le ↦ inr (omega arith) ]

-- below k no number passes, and k does
pub first_is : (n k : ℕ) (test : ℕ → Bool) → k < n → first_below k test ≡ None → test k ≡ true → first_below n test ≡ Some k
first_is zero k test lt none passes = absurd (omega arith)
first_is (suc m) k test lt none passes = elim (below_or_last k m lt) [
  | inl h ↦ rw (first_is m k test h none passes) refl
  | inr e ↦
      let none' : first_below m test ≡ None = subst (λ j. first_below j test ≡ None) e none in
      let yes' : test m ≡ true = subst (λ j. test j ≡ true) e passes in
      rw (none', yes') (ap (λ j. Some j) (sym e))
]

none_before : (m : ℕ) (test : ℕ → Bool) (o : Option ℕ) (b : Bool) → first_below m test ≡ o → test m ≡ b → first_below (suc m) test ≡ None → (o ≡ None) × (b ≡ false)
none_before m test None false e f h = (refl, refl)
none_before m test None true e f h = absurd (let h' = rw (e, f) at h in cc)
none_before m test (Some k) b e f h = absurd (let h' = rw e at h in cc)

-- no number passes
none_passes : (n k : ℕ) (test : ℕ → Bool) → k < n → first_below n test ≡ None → test k ≡ false
none_passes zero k test lt h = absurd (omega arith)
none_passes (suc m) k test lt h =
    let parts = none_before m test (first_below m test) (test m) refl refl h in
    elim (below_or_last k m lt) [
      | inl less ↦ none_passes m k test less parts.0
      | inr e ↦ subst (λ j. test j ≡ false) (sym e) parts.1
    ]

rest_none : (rules : List (Bool × ElfFault)) (other : Option ElfFault) → first_rule rules other ≡ None → other ≡ None
rest_none [] other h = h
rest_none ((true, f) ∷ rules) other h = absurd (cc)
rest_none ((false, f) ∷ rules) other h = rest_none rules other h

each_false : (rules : List (Bool × ElfFault)) (other : Option ElfFault) (k : ℕ) (rule : Bool × ElfFault) → first_rule rules other ≡ None → slice_get rules k ≡ Some rule → rule.0 ≡ false
each_false [] other k rule h g = absurd (cc)
each_false ((true, f) ∷ rules) other k rule h g = absurd (let h' : ◌≡◌ {A = Option ElfFault} (Some f) None = h in cc)
each_false ((false, f) ∷ rules) other zero rule h g = let e : Some (false, f) ≡ Some rule = g in let e' : (false, f) ≡ rule = cc in ap (λ r. r.0) (sym e')
each_false ((false, f) ∷ rules) other (suc k) rule h g = each_false rules other k rule h g

no_fault : (bytes : List ℕ) (o : Option ℕ) → section_fault bytes o ≡ None → o ≡ None
no_fault bytes None h = refl
no_fault bytes (Some k) h = absurd (cc)

-- The file has an ELF header.
pub header_inside : (bytes : List ℕ) → broken_sections bytes ≡ None → 52 ≤ length bytes
header_inside bytes h =
    let p : nat_lt (length bytes) 52 ≡ false = each_false (section_rules bytes) (section_fault bytes (first_below (section_count bytes) (is_section_outside bytes))) 0 _ h refl in
    ltb-false (length bytes) 52 p

-- The table of section headers is inside.
pub table_inside : (bytes : List ℕ) → broken_sections bytes ≡ None → section_table bytes + 40 * section_count bytes ≤ length bytes
table_inside bytes h =
    let p : nat_lt (length bytes) (section_table bytes + 40 * section_count bytes) ≡ false = each_false (section_rules bytes) (section_fault bytes (first_below (section_count bytes) (is_section_outside bytes))) 2 _ h refl in
    ltb-false (length bytes) (section_table bytes + 40 * section_count bytes) p

-- no section is outside
each_inside : (bytes : List ℕ) (k : ℕ) → broken_sections bytes ≡ None → k < section_count bytes → is_section_outside bytes k ≡ false
each_inside bytes k h lt =
    none_passes (section_count bytes) k (is_section_outside bytes) lt
    (no_fault bytes _ (rest_none (section_rules bytes) (section_fault bytes (first_below (section_count bytes) (is_section_outside bytes))) h))

-- a section of one of the two types holds symbols
of_type : (bytes : List ℕ) (k type : ℕ) → (type == 2 || type == 11) ≡ true → section_type bytes k ≡ type → holds_symbols bytes k ≡ true
of_type bytes k type t e = ap (λ n. n == 2 || n == 11) e ∙ t

-- A symbol section and its string section are inside.
pub record AreInside (bytes : List ℕ) (k : ℕ) : Type 0 where
  pub symbols : passes_end bytes k ≡ false
  pub link : section_link bytes k < section_count bytes
  pub strings : passes_end bytes (section_link bytes k) ≡ false

pub are_inside : (bytes : List ℕ) (k type : ℕ) → broken_sections bytes ≡ None → k < section_count bytes → (type == 2 || type == 11) ≡ true → section_type bytes k ≡ type → AreInside bytes k
are_inside bytes k type h lt t e =
    let linked : Bool = nat_le (section_count bytes) (section_link bytes k) in
    let strings : Bool = passes_end bytes (section_link bytes k) in
    elim (and_cases (holds_symbols bytes k) (passes_end bytes k || (linked || strings)) (each_inside bytes k h lt)) [
      | inl none ↦ absurd (both_ways (holds_symbols bytes k) none (of_type bytes k type t e))
      | inr sound ↦
          let parts = or_parts (passes_end bytes k) (linked || strings) sound in
          let others = or_parts linked strings parts.1 in
          record { symbols = parts.0; link = leb-false (section_count bytes) (section_link bytes k) others.0; strings = others.1 }
    ]

-- The header of a section is inside.
pub place_inside : (bytes : List ℕ) (k : ℕ) → broken_sections bytes ≡ None → k < section_count bytes → section_place bytes k + 40 ≤ length bytes
place_inside bytes k h lt = omega (arith, lt, table_inside bytes h)
