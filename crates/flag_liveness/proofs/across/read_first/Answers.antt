use Rattle.std.proofs.Common.{ℕ, Bool, ◌-◌, length, refl, subst, arith}
use Rattle.flow_passes.specs.Uses.{end_reads}
use Rattle.flag_liveness.specs.Across.{read_first}
use Rattle.flag_liveness.specs.Within.{names_within, Agree}
use Rattle.flag_liveness.proofs.Going.{reads_none, reads_more, reads_all}
use Rattle.flag_liveness.proofs.across.read_first.Goals as goal

pub loop-k-init : goal.loop-k-init
loop-k-init c = reads_none c.as_slice-stmts.result.now (length c.as_slice-stmts.result.now) (end_reads c.args.b.now.end) c.in_ok-seen.seen refl c.in_ok-seen.ensures

pub loop-k-preserved : goal.loop-k-preserved
loop-k-preserved c = reads_more c.as_slice-stmts.result.now c.loop-k.k (c.loop-k.k - 1) (end_reads c.args.b.now.end) c.loop-k.seen c.go_back.new.self c.index-stmts-k.result c.loop-k.invariant (omega arith) c.index-stmts-k.is c.in_ok-go_back.ensures

pub returns : goal.returns
returns c =
    subst (λ ss. (across : ℕ → Bool) → Agree (names_within across c.loop-k.seen) (read_first ss (end_reads c.args.b.now.end))) c.as_slice-stmts.ensures
    (reads_all c.as_slice-stmts.result.now c.loop-k.k (end_reads c.args.b.now.end) c.loop-k.seen c.loop-k.invariant (omega arith))
