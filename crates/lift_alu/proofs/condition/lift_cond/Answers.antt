use Rattle.lift_alu.proofs.condition.lift_cond.Goals as goal
use Rattle.lift_alu.proofs.Truths.{truth_of_words}

pub returns-clause-truth : goal.returns-clause-truth
returns-clause-truth c = truth_of_words c.args.c.0 c.numbered.result c.numbered.ensures
