use Rattle.std.proofs.Common.{ap, sym, ◌∙◌}
use Rattle.run_parts.specs.Parts.{Ends, Past}
use Rattle.run_parts.specs.Steps.{done, having}
use Rattle.run_parts.specs.Effects.{setting}
use Rattle.c_run.specs.State.{world_of}
use Rattle.c_run.proofs.state.State.set.Goals as goal

pub returns : goal.returns
returns c = λ left m. let w = world_of left c.args.self.now in
    ap (λ v. Ends (Past v) m) ((c.in_ok-assign.ensures {u = tt}) left)
    ∙ sym (ap (λ o. done (having o (λ x. setting c.args.n x w)) m) (sym c.value.ensures ∙ c.in-Some.is))
