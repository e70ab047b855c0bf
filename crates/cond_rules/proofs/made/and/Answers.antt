use Rattle.std.proofs.lemmas.Result.{IfOk-weaker}
use Rattle.word_rules.proofs.Congruence.{cond_equal, cond_self}
use Rattle.cond_rules.proofs.made.and.Goals as goal

pub returns-in-None : goal.returns-in-None
returns-in-None c = IfOk-weaker c.and.result _ _ (λ r e. cond_equal _ _ r e (cond_self _)) c.and.ensures
