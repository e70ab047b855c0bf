use Rattle.guarded.proofs.Runs.{more_turns}
use Rattle.guarded.proofs.laws.more_turns_continue.Goals as goal

pub returns : goal.returns
returns c = more_turns
