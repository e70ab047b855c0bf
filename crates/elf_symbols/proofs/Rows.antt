-- The first function of a name in lists that stand in a row.
use Rattle.std.proofs.Common.{◌≡◌, ◌<◌, ◌+◌, ◌⊎◌, ℕ, zero, suc, List, [], ◌∷◌, ◌++◌, Bool, true, false, Option, Some, None, refl, sym, ap, subst, ◌∙◌, inl, inr, arith, append_assoc}
use Rattle.std.specs.Prelude.{bytes_eq, if◌then◌else◌}
use Rattle.std.proofs.lemmas.Bool.{cases_Bool, cases_lt}
use Rattle.elf_image.specs.declared.range.Range.{Range}
use Rattle.elf_symbols.specs.declared.named.Named.{Named}
use Rattle.elf_symbols.specs.Symbols.{is_name}
use Rattle.elf_symbols.specs.Functions.{rows_below, under_name, range_named}

-- the range of one list, or else of the next
abbrev pub or_else : Option Range → Option Range → Option Range
or_else None other = other
or_else (Some r) other = Some r

chosen : (b : Bool) (r : Range) (o p : Option Range) → (if b then Some r else or_else o p) ≡ or_else (if b then Some r else o) p
chosen true r o p = refl
chosen false r o p = refl

pub named_append : (xs ys : List Named) (name : List ℕ) → range_named (xs ++ ys) name ≡ or_else (range_named xs name) (range_named ys name)
named_append [] ys name = refl
named_append (x ∷ xs) ys name =
    ap (λ o. if bytes_eq x.name name then Some x.range else o) (named_append xs ys name)
    ∙ chosen (bytes_eq x.name name) x.range (range_named xs name) (range_named ys name)

-- none in the first k rows and none in the next
pub none_more : (k : ℕ) (f : ℕ → List Named) (name : List ℕ) → range_named (rows_below k f) name ≡ None → range_named (f k) name ≡ None
    → range_named (rows_below (suc k) f) name ≡ None
none_more k f name before here = named_append (rows_below k f) (f k) name ∙ ap (λ o. or_else o (range_named (f k) name)) before ∙ here

below_or_last : (k m : ℕ) → k < suc m → (k < m) ⊎ (k ≡ m)
below_or_last k m h = elim (cases_lt k m) [ inl lt ↦ inl lt | inr le ↦ inr (omega arith) ]

-- none in the first k rows, and then one
pub first_in_row : (n k : ℕ) (f : ℕ → List Named) (name : List ℕ) (r : Range) → k < n → range_named (rows_below k f) name ≡ None → range_named (f k) name ≡ Some r
    → range_named (rows_below n f) name ≡ Some r
first_in_row zero k f name r lt before here = absurd (omega (arith, lt))
first_in_row (suc m) k f name r lt before here =
    named_append (rows_below m f) (f m) name
    ∙ elim (below_or_last k m lt) [
      | inl h ↦ ap (λ o. or_else o (range_named (f m) name)) (first_in_row m k f name r h before here)
      | inr e ↦
          let before' : range_named (rows_below m f) name ≡ None = subst (λ j. range_named (rows_below j f) name ≡ None) e before in
          let here' : range_named (f m) name ≡ Some r = subst (λ j. range_named (f j) name ≡ Some r) e here in
          ap (λ o. or_else o (range_named (f m) name)) before' ∙ here'
    ]

-- one function under a name that may be there
pub named_one : (o : Option (List ℕ)) (r : Range) (name : List ℕ) → range_named (under_name o r) name ≡ (if is_name o name then Some r else None)
named_one None r name = refl
named_one (Some n) r name = refl

-- a list, a row and the next row
pub row_added : (xs ys zs : List Named) (k : ℕ) (f : ℕ → List Named) → ys ≡ xs ++ rows_below k f → zs ≡ ys ++ f k → zs ≡ xs ++ rows_below (suc k) f
row_added xs ys zs k f before here = here ∙ ap (λ l. l ++ f k) before ∙ append_assoc xs (rows_below k f) (f k)
