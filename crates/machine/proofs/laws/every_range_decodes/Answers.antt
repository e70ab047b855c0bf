use Rattle.machine.proofs.Beginnings.{decodes}
use Rattle.machine.proofs.laws.every_range_decodes.Goals as goal

pub returns : goal.returns
returns c = decodes
