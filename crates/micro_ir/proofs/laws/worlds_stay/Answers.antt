use Rattle.micro_ir.proofs.Worlds.{worlds_stay}
use Rattle.micro_ir.proofs.laws.worlds_stay.Goals as goal

pub returns : goal.returns
returns c = worlds_stay
