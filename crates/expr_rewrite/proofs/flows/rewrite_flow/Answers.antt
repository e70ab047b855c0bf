use Rattle.std.proofs.Common.{refl, subst}
use Rattle.micro_ir.specs.declared.flow.Flow.{Flow}
use Rattle.expr_fold.proofs.Folded.{flow_given, flow_keeps}
use Rattle.expr_rewrite.specs.Pairs.{Pairs}
use Rattle.expr_rewrite.specs.Rewritten.{StandsForBlock}
use Rattle.expr_rewrite.proofs.Keeping.{everything, blocks_fold}
use Rattle.expr_rewrite.proofs.flows.rewrite_flow.Goals as goal

pub returns-clause-given : goal.returns-clause-given
returns-clause-given c =
    let f = c.args.f in
    let made : Flow = record { entry = f.entry; blocks = c.in_ok-rewritten.rewritten } in
    let pairs = subst (λ bs. Pairs StandsForBlock bs c.in_ok-rewritten.rewritten) c.as_slice.ensures c.in_ok-rewritten.ensures in
    flow_given (λ j. everything) f made c.requires (blocks_fold 0 f.blocks c.in_ok-rewritten.rewritten pairs c.requires.rule) refl

pub returns-clause-keeps : goal.returns-clause-keeps
returns-clause-keeps c =
    let f = c.args.f in
    let made : Flow = record { entry = f.entry; blocks = c.in_ok-rewritten.rewritten } in
    let pairs = subst (λ bs. Pairs StandsForBlock bs c.in_ok-rewritten.rewritten) c.as_slice.ensures c.in_ok-rewritten.ensures in
    flow_keeps (λ j. everything) f made c.requires (blocks_fold 0 f.blocks c.in_ok-rewritten.rewritten pairs c.requires.rule) refl
