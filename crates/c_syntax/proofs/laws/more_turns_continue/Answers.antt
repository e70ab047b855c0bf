use Rattle.c_syntax.proofs.Runs.{more_turns}
use Rattle.c_syntax.proofs.laws.more_turns_continue.Goals as goal

pub returns : goal.returns
returns c = more_turns
