use Rattle.std.proofs.Common.{rules, tests, ◌∙◌, sym}
use Rattle.std.proofs.lemmas.Iterator.{YieldsList-from_slice}
use Rattle.std.proofs.lemmas.Iterator.Search.{any_from_yields_List}
use Rattle.micro_ir.specs.declared.flow.Case.{Case}
use Rattle.flag_liveness.specs.Lives.{live_of}
use Rattle.flag_liveness.proofs.Cases.{any_case}
use Rattle.flag_liveness.proofs.live.Live.is_live_in.Goals as goal

pub returns : goal.returns
returns c =
    any_from_yields_List (λ (x : Case). live_of c.args.self.now x.to c.args.n) _ _ _ c.any.ensures.ran (YieldsList-from_slice c.args.cases.now cc) (λ x b q k. search (rules, tests))
    ∙ sym (any_case (λ k. live_of c.args.self.now k c.args.n) c.args.cases.now)
