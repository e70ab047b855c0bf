-- The decoder's table is the opcode table.
use Rattle.std.proofs.Common.{◌≡◌, Bool, true, false, List, [], ◌∷◌, Some, refl, ap, ◌∙◌, cond}
use Rattle.std.specs.Prelude.{map, ◌||◌}
use Rattle.std.specs.List.{find, list_any}
use Rattle.std.specs.Option.{option_map}
use Rattle.x86_inst.specs.Rows as spec
use Rattle.x86_inst.specs.Table.{table}
use Rattle.x86_decode.specs.declared.rows.Row.{Row}
use Rattle.x86_decode.specs.declared.table.TheConstants.{TABLE}
use Rattle.x86_decode.specs.View.{row_of}

pub rows_are : map row_of TABLE ≡ table
unfolding table
rows_are = refl

pub find-map : (p : spec.Row → Bool) (rs : List Row) → option_map row_of (find (λ r. p (row_of r)) rs) ≡ find p (map row_of rs)
find-map p [] = refl
find-map p (r ∷ rs) = at (p (row_of r)) (find-map p rs)
  where
    at : (b : Bool) → option_map row_of (find (λ r. p (row_of r)) rs) ≡ find p (map row_of rs) → option_map row_of (cond b (Some r) (find (λ r. p (row_of r)) rs)) ≡ cond b (Some (row_of r)) (find p (map row_of rs))
    at true e = refl
    at false e = e

pub list_any-map : (p : spec.Row → Bool) (rs : List Row) → list_any (λ r. p (row_of r)) rs ≡ list_any p (map row_of rs)
list_any-map p [] = refl
list_any-map p (r ∷ rs) = ap (λ b. p (row_of r) || b) (list_any-map p rs)

-- the first of the decoder's rows is the first of the table
pub find_is : (p : spec.Row → Bool) → option_map row_of (find (λ r. p (row_of r)) TABLE) ≡ find p table
find_is p = find-map p TABLE ∙ ap (find p) rows_are

pub list_any_is : (p : spec.Row → Bool) → list_any (λ r. p (row_of r)) TABLE ≡ list_any p table
list_any_is p = list_any-map p TABLE ∙ ap (list_any p) rows_are
