use Rattle.std.proofs.Common.{◌∙◌, rules, tests}
use Rattle.std.proofs.lemmas.Iterator.{YieldsList-from_slice}
use Rattle.std.proofs.lemmas.Iterator.Search.{any_from_yields_List}
use Rattle.read_statements.proofs.Reversed.{catches, breakable_reversed}
use Rattle.read_statements.proofs.turns.breakable.Goals as goal

pub returns : goal.returns
returns c =
    let any_is = any_from_yields_List catches _ _ c.any.result c.any.ensures.ran (YieldsList-from_slice c.args.around.now cc) (λ x b q k. search (rules, tests)) in
    any_is ∙ breakable_reversed c.args.around.now
