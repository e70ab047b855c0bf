use Rattle.std.proofs.Common.{◌≡◌, drop}
use Rattle.c_syntax.specs.Text.{cases_text}
use Rattle.c_print.specs.Page.{puts}
use Rattle.c_print.proofs.stmt.put_cases.Given as goal

-- the values so far are put
abbrev pub invariant-loop-v : goal.invariant-loop-v
invariant-loop-v l = puts l.page (cases_text (drop l.v-index l.values)) ≡ puts l.initial.page (cases_text l.values)
