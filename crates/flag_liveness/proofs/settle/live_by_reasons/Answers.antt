use Rattle.std.proofs.Common.{sym, subst}
use Rattle.std.specs.Prelude.{IsTrue}
use Rattle.std.specs.Ordering.{nat_cmp}
use Rattle.std.specs.BTreeSet as set
use Rattle.micro_ir.specs.Rule.{are_flow_blocks}
use Rattle.flag_liveness.specs.Across.{Crosses}
use Rattle.flag_liveness.specs.Lives.{across_of, live_of}
use Rattle.flag_liveness.specs.Settled.{AreClosed}
use Rattle.flag_liveness.specs.Reasons.{NodesInside, HaveReasons}
use Rattle.flag_liveness.proofs.Closing.{are_live}
use Rattle.flag_liveness.proofs.Reasons.{reasons_none}
use Rattle.flag_liveness.proofs.settle.live_by_reasons.Goals as goal

pub settle-requires-clause-rule : goal.settle-requires-clause-rule
settle-requires-clause-rule c = subst (λ bs. IsTrue (are_flow_blocks bs)) (sym c.as_slice-blocks.ensures) c.requires.rule

pub settle-requires-clause-nodes : goal.settle-requires-clause-nodes
settle-requires-clause-nodes c = subst (λ bs. NodesInside bs) (sym c.as_slice-blocks.ensures) c.requires.checked.nodes_inside

pub settle-requires-clause-reasons : goal.settle-requires-clause-reasons
settle-requires-clause-reasons c = reasons_none c.as_slice-blocks.result.now c.in_ok-rows.rows.items c.in_ok-temps.temps c.in_ok-rows.ensures.count c.in_ok-rows.ensures.none

pub returns : goal.returns
returns c = record {
  closed =
      are_live c.args.f.now c.settle.new.live (subst (λ bs. AreClosed bs c.settle.new.live) c.as_slice-blocks.ensures c.in_ok-settle.ensures.closed)
      (subst (λ bs. Crosses bs (across_of c.settle.new.live)) c.as_slice-blocks.ensures (subst (λ t. Crosses c.as_slice-blocks.result.now (set.contains nat_cmp t)) (sym c.settle.ensures.temps) c.in_ok-temps.ensures));
  reasons = subst (λ bs. HaveReasons bs (live_of c.settle.new.live)) c.as_slice-blocks.ensures c.in_ok-settle.ensures.reasons;
}
