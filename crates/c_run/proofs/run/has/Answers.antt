use Rattle.std.proofs.Common.{◌∙◌}
use Rattle.c_run.proofs.CodeRuns.{any_has}
use Rattle.c_run.proofs.run.has.Goals as goal

pub returns : goal.returns
returns c = c.contains.ensures.value ∙ any_has c.args.values.now c.args.x
