-- What the code knows at a place of a path, which has the forms of eight registers, as what the definitions know there.
use Rattle.std.specs.Prelude.{List, slice_index_or}
use Rattle.jump_tables.specs.declared.forms.Form.{Form}
use Rattle.jump_tables.specs.declared.forms.Form.TheVariants as form
use Rattle.jump_tables.specs.declared.known.Known as known
use Rattle.jump_tables.specs.Forms.{Forms, Known}

-- the form of each register; past the last one there is none
abbrev pub forms_of : List Form → Forms
forms_of forms = λ n. slice_index_or forms n form.Unknown

abbrev pub known_of : known.Known → Known
known_of k = record { forms = forms_of k.forms; is_kept = k.is_kept }
