use Rattle.std.proofs.Common.{List, sym, refl, subst}
use Rattle.std.specs.Prelude.{IsTrue, IfSome}
use Rattle.micro_ir.specs.declared.flow.Block.{Block}
use Rattle.micro_ir.specs.declared.flow.Flow.{Flow}
use Rattle.micro_ir.specs.Rule.{are_flow_blocks}
use Rattle.flow_passes.proofs.Keeping.{keeping_composes}
use Rattle.flag_liveness.specs.Lives.{live_of}
use Rattle.expr_fold.specs.Folds.{LivesIn, FoldsBlocks}
use Rattle.expr_fold.proofs.Folded.{flow_given, flow_keeps}
use Rattle.expr_fold.proofs.Made.{seen_given, seen_keeps, seen_lives}
use Rattle.expr_fold.proofs.flows.folded.Goals as goal

pub blocks-requires-clause-rule : goal.blocks-requires-clause-rule
blocks-requires-clause-rule c =
    let given = seen_given c.args.f c.in_ok-f.f (live_of c.in_ok-live.live) c.requires c.in_ok-live.ensures c.in_ok-f.ensures in
    subst (λ bs. IsTrue (are_flow_blocks bs)) (sym c.as_slice.ensures) given.rule

pub blocks-requires-clause-lives : goal.blocks-requires-clause-lives
blocks-requires-clause-lives c = subst (LivesIn (live_of c.in_ok-live.live)) (sym c.as_slice.ensures) (seen_lives c.args.f c.in_ok-f.f (live_of c.in_ok-live.live) c.in_ok-live.ensures c.in_ok-f.ensures)

pub returns-in-None-clause-given : goal.returns-in-None-clause-given
returns-in-None-clause-given c = seen_given c.args.f c.in_ok-f.f (live_of c.in_ok-live.live) c.requires c.in_ok-live.ensures c.in_ok-f.ensures

pub returns-in-None-clause-keeps : goal.returns-in-None-clause-keeps
returns-in-None-clause-keeps c = seen_keeps c.args.f c.in_ok-f.f (live_of c.in_ok-live.live) c.requires c.in_ok-live.ensures c.in_ok-f.ensures

pub returns-clause-given : goal.returns-clause-given
returns-clause-given c =
    let live = live_of c.in_ok-live.live in
    let f = c.in_ok-f.f in
    let made : Flow = record { entry = f.entry; blocks = c.in-Some.folded } in
    let given = c.as_slice.result.now in
    let folds = subst (λ o. IfSome o (λ (cs : List Block). FoldsBlocks live 0 given cs)) c.in-Some.is (c.in_ok-blocks.ensures {u = tt}) in
    flow_given live f made (seen_given c.args.f f live c.requires c.in_ok-live.ensures c.in_ok-f.ensures) (subst (λ bs. FoldsBlocks live 0 bs c.in-Some.folded) c.as_slice.ensures folds) refl

pub returns-clause-keeps : goal.returns-clause-keeps
returns-clause-keeps c =
    let live = live_of c.in_ok-live.live in
    let f = c.in_ok-f.f in
    let made : Flow = record { entry = f.entry; blocks = c.in-Some.folded } in
    let given = c.as_slice.result.now in
    let folds = subst (λ o. IfSome o (λ (cs : List Block). FoldsBlocks live 0 given cs)) c.in-Some.is (c.in_ok-blocks.ensures {u = tt}) in
    let f_given = seen_given c.args.f f live c.requires c.in_ok-live.ensures c.in_ok-f.ensures in
    keeping_composes.twice c.args.f f made (seen_keeps c.args.f f live c.requires c.in_ok-live.ensures c.in_ok-f.ensures)
    (flow_keeps live f made f_given (subst (λ bs. FoldsBlocks live 0 bs c.in-Some.folded) c.as_slice.ensures folds) refl)
