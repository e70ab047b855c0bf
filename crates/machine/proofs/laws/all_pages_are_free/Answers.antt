use Rattle.machine.proofs.Unrefused.{all_pages_are_free}
use Rattle.machine.proofs.laws.all_pages_are_free.Goals as goal

pub returns : goal.returns
returns c = all_pages_are_free c.all_pages_allow_all.ensures
