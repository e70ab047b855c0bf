use Rattle.run_lines.proofs.Loaded.{files_bytes}
use Rattle.run_lines.proofs.laws.files_hold_bytes.Goals as goal

pub returns : goal.returns
returns c = files_bytes
