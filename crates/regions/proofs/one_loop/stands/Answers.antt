use Rattle.std.proofs.Common.{◌∙◌}
use Rattle.regions.proofs.Standing.{any_has}
use Rattle.regions.proofs.one_loop.stands.Goals as goal

pub returns : goal.returns
returns c = c.contains.ensures.value ∙ any_has c.args.values.now c.args.x
