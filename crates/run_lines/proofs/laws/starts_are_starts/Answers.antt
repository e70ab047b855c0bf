use Rattle.run_lines.proofs.Said.{starts_start}
use Rattle.run_lines.proofs.laws.starts_are_starts.Goals as goal

pub returns : goal.returns
returns c = starts_start
