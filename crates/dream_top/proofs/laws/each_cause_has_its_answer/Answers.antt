use Rattle.dream_top.proofs.Causes.{each_cause_has_its_answer}
use Rattle.dream_top.proofs.laws.each_cause_has_its_answer.Goals as goal

pub returns : goal.returns
returns c = each_cause_has_its_answer c.one_function.ensures c.one_place.ensures
