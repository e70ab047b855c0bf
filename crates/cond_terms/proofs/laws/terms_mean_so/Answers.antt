use Rattle.cond_terms.proofs.Layers.{terms_mean}
use Rattle.cond_terms.proofs.laws.terms_mean_so.Goals as goal

pub returns : goal.returns
returns c = terms_mean
