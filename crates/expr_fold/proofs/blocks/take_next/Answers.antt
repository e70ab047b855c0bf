use Rattle.std.proofs.Common.{◌≡◌, ◌+◌, arith, subst, get_or}
use Rattle.std.proofs.lemmas.List.{take_rest}
use Rattle.micro_ir.specs.declared.flow.Stmt.TheVariants as stmt
use Rattle.flag_liveness.specs.Before.{live_at}
use Rattle.flag_liveness.specs.Lives.{live_of}
use Rattle.expr_fold.specs.Follows.{IsLost}
use Rattle.expr_fold.proofs.Folded.{follows_into}
use Rattle.expr_fold.proofs.blocks.take_next.Goals as goal

pub returns-then-branch : goal.returns-then-branch
returns-then-branch c =
    let last = live_at c.args.end.now (live_of c.args.live.now) in
    let all = c.args.stmts.now in
    let at = c.args.at in
    let old = c.args.folding.now in
    let new = c.step_into.new.folding in
    let load = stmt.Load c.in-Load.t c.in-Load.width c.in-Load.e in
    let inside = c.requires in (
      omega arith,
      omega (arith, inside),
      follows_into last all at load c.in-Some.r old.done old.delayed.items new.done new.delayed.items inside (subst (λ x. x ≡ get_or all at x) c.in-Load.is c.index-stmts-at.is)
          (subst (λ x. IsLost last x c.in-Some.r) (take_rest all (at + 1)) c.in-Some.ensures.lost)
          (c.in_ok-step_into.ensures {u = tt} c.if-branch.true),
    )
