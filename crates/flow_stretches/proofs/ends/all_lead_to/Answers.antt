use Rattle.std.proofs.Common.{rules, tests, nat_eq}
use Rattle.std.proofs.lemmas.Iterator.{YieldsList-from_slice}
use Rattle.std.proofs.lemmas.Iterator.Search.{all_from_yields_List}
use Rattle.micro_ir.specs.declared.flow.Case.{Case}
use Rattle.flow_stretches.proofs.ends.all_lead_to.Goals as goal

pub returns : goal.returns
returns c = all_from_yields_List (λ (x : Case). nat_eq x.to c.args.n) _ _ _ c.all.ensures.ran (YieldsList-from_slice c.args.cases.now cc) (λ x b q k. search (rules, tests))
