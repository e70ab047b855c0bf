use Rattle.machine.proofs.Staying.{outcomes_stay}
use Rattle.machine.proofs.laws.outcomes_stay.Goals as goal

pub returns : goal.returns
returns c = outcomes_stay
