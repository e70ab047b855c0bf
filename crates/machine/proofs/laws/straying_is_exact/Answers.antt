use Rattle.machine.proofs.Straying.{straying_is_exact}
use Rattle.machine.proofs.laws.straying_is_exact.Goals as goal

pub returns : goal.returns
returns c = straying_is_exact c.strays_so.ensures
