use Rattle.std.proofs.Common.{◌-◌, length, refl, sym, subst, arith}
use Rattle.std.specs.Prelude.{IsTrue}
use Rattle.micro_ir.specs.Rule.{are_flow_stmts}
use Rattle.flag_liveness.specs.Before.{live_at, live_before_all}
use Rattle.flag_liveness.specs.Within.{names_within, Agree}
use Rattle.flag_liveness.specs.Lives.{live_of, across_of}
use Rattle.flag_liveness.proofs.Going.{goes_none, goes_more, goes_all}
use Rattle.flag_liveness.proofs.live.Live.before.Goals as goal

pub loop-k-init : goal.loop-k-init
loop-k-init c = goes_none (across_of c.args.self.now) c.as_slice-stmts.result.now (length c.as_slice-stmts.result.now) (live_at c.args.b.now.end (live_of c.args.self.now)) c.in_ok-seen.seen refl c.in_ok-seen.ensures

pub loop-k-preserved : goal.loop-k-preserved
loop-k-preserved c =
    goes_more (across_of c.args.self.now) c.as_slice-stmts.result.now c.loop-k.k (c.loop-k.k - 1) (live_at c.args.b.now.end (live_of c.args.self.now)) c.loop-k.seen c.pass.new.self c.index-stmts-k.result
    (subst (λ ss. IsTrue (are_flow_stmts ss)) (sym c.as_slice-stmts.ensures) c.requires) c.loop-k.invariant (omega arith) c.index-stmts-k.is c.in_ok-pass.ensures.names

pub returns : goal.returns
returns c =
    subst (λ ss. Agree (names_within (across_of c.args.self.now) c.loop-k.seen) (live_before_all ss (live_at c.args.b.now.end (live_of c.args.self.now)))) c.as_slice-stmts.ensures
    (goes_all (across_of c.args.self.now) c.as_slice-stmts.result.now c.loop-k.k (live_at c.args.b.now.end (live_of c.args.self.now)) c.loop-k.seen c.loop-k.invariant (omega arith))
