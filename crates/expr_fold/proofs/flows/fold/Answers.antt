use Rattle.flow_passes.proofs.Keeping.{keeping_composes}
use Rattle.expr_fold.proofs.flows.fold.Goals as goal

pub returns : goal.returns
returns c = record {
  given = c.in_ok-made.ensures.given;
  keeps = keeping_composes.twice c.args.f c.in_ok-folded.folded c.in_ok-made.made c.in_ok-folded.ensures.keeps c.in_ok-made.ensures.keeps;
  direct = c.in_ok-made.ensures.direct;
}
