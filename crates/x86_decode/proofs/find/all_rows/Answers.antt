use Rattle.x86_decode.proofs.Same.{rows_are}
use Rattle.x86_decode.proofs.find.all_rows.Goals as goal

pub returns-clause-table : goal.returns-clause-table
returns-clause-table c = rows_are
