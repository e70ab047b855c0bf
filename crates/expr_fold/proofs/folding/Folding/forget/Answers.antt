use Rattle.std.proofs.Common.{not, rules}
use Rattle.std.proofs.lemmas.Fn.{filter_same}
use Rattle.flow_passes.specs.Uses.{same_name}
use Rattle.expr_fold.proofs.folding.Folding.forget.Goals as goal

pub returns-clause-delayed : goal.returns-clause-delayed
returns-clause-delayed c = filter_same _ (λ d. not (same_name d.name c.args.n)) _ (λ x b f r. search rules) _ _ c.retain.ensures.filtered
