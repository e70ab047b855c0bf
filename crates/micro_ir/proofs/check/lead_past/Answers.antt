use Rattle.std.proofs.Common.{rules, tests, ◌∙◌, nat_le}
use Rattle.std.proofs.lemmas.Iterator.{YieldsList-from_slice}
use Rattle.std.proofs.lemmas.Iterator.Search.{any_from_yields_List}
use Rattle.micro_ir.specs.declared.flow.Case.{Case}
use Rattle.micro_ir.proofs.Named.{any_case}
use Rattle.micro_ir.proofs.check.lead_past.Goals as goal

pub returns : goal.returns
returns c =
    any_from_yields_List (λ (x : Case). nat_le c.args.count x.to) _ _ _ c.any.ensures.ran (YieldsList-from_slice c.args.cases.now cc) (λ x b q k. search (rules, tests))
    ∙ any_case (λ n. nat_le c.args.count n) c.args.cases.now
