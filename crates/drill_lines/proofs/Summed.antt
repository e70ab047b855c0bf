-- Sums of counts, one summand more at a time.
use Rattle.std.proofs.Common.{◌≡◌, ℕ, ◌+◌, ◌<◌, List, length, take, get_or, refl, sym, ap, ◌∙◌}
use Rattle.std.proofs.lemmas.List.Sums.{sum_by_more}
use Rattle.drill_lines.specs.declared.range_counts.Counts.{Counts}
use Rattle.drill_lines.specs.declared.line.Totals.{Totals}
use Rattle.drill_lines.specs.Lines.{totals_of}
use Rattle.drill_lines.specs.Sums.{with_counts}

-- all sums with the next counts
next_totals : (xs : List Counts) (i : ℕ) (d : Counts) → i < length xs → totals_of (take (i + 1) xs) ≡ with_counts (totals_of (take i xs)) (get_or xs i d)
next_totals xs i d l =
    let a = sum_by_more (λ c. c.accepted) xs i d l in
    let b = sum_by_more (λ c. c.components) xs i d l in
    let e = sum_by_more (λ c. c.selectors) xs i d l in
    let f = sum_by_more (λ c. c.ext) xs i d l in
    let g = sum_by_more (λ c. c.stores) xs i d l in
    rw (a, b, e, f, g) refl

pub more_totals : (xs : List Counts) (i : ℕ) (d : Counts) (old new : Totals) → i < length xs → new ≡ with_counts old (get_or xs i d) → old ≡ totals_of (take i xs) → new ≡ totals_of (take (i + 1) xs)
more_totals xs i d old new l e f = e ∙ ap (λ t. with_counts t (get_or xs i d)) f ∙ sym (next_totals xs i d l)
