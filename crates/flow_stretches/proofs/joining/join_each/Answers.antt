use Rattle.std.proofs.Common.{map, take, drop, suc}
use Rattle.flow_stretches.specs.Known.{name_by}
use Rattle.flow_stretches.proofs.Taking.{next_some, next_inside, next_once}
use Rattle.flow_stretches.proofs.Each.{each_none, each_at, each_more, each_all}
use Rattle.flow_stretches.proofs.joining.join_each.Goals as goal

pub loop-nodes-init : goal.loop-nodes-init
loop-nodes-init c = each_none (λ v. v.items) c.args.blocks.now (name_by c.args.names.now) c.args.stretches.now c.new-joined.result.items c.requires.some c.requires.inside c.requires.once c.new-joined.ensures.items

pub join-requires-clause-some : goal.join-requires-clause-some
join-requires-clause-some c =
    next_some c.args.blocks.now (name_by c.args.names.now) (take c.loop-nodes.nodes-index (map (λ v. v.items) c.args.stretches.now)) (drop (suc c.loop-nodes.nodes-index) (map (λ v. v.items) c.args.stretches.now)) c.deref.result.now c.loop-nodes.joined.items c.loop-nodes.blocks
    (each_at (λ v. v.items) c.args.blocks.now (name_by c.args.names.now) c.args.stretches.now c.loop-nodes.nodes-index c.nodes-item.result c.deref.result.now c.loop-nodes.joined.items c.loop-nodes.blocks c.loop-nodes-test.true c.nodes-item.is c.deref.ensures.value c.loop-nodes.invariant)

pub join-requires-clause-inside : goal.join-requires-clause-inside
join-requires-clause-inside c =
    next_inside c.args.blocks.now (name_by c.args.names.now) (take c.loop-nodes.nodes-index (map (λ v. v.items) c.args.stretches.now)) (drop (suc c.loop-nodes.nodes-index) (map (λ v. v.items) c.args.stretches.now)) c.deref.result.now c.loop-nodes.joined.items c.loop-nodes.blocks
    (each_at (λ v. v.items) c.args.blocks.now (name_by c.args.names.now) c.args.stretches.now c.loop-nodes.nodes-index c.nodes-item.result c.deref.result.now c.loop-nodes.joined.items c.loop-nodes.blocks c.loop-nodes-test.true c.nodes-item.is c.deref.ensures.value c.loop-nodes.invariant)

pub join-requires-clause-once : goal.join-requires-clause-once
join-requires-clause-once c =
    next_once c.args.blocks.now (name_by c.args.names.now) (take c.loop-nodes.nodes-index (map (λ v. v.items) c.args.stretches.now)) (drop (suc c.loop-nodes.nodes-index) (map (λ v. v.items) c.args.stretches.now)) c.deref.result.now c.loop-nodes.joined.items c.loop-nodes.blocks
    (each_at (λ v. v.items) c.args.blocks.now (name_by c.args.names.now) c.args.stretches.now c.loop-nodes.nodes-index c.nodes-item.result c.deref.result.now c.loop-nodes.joined.items c.loop-nodes.blocks c.loop-nodes-test.true c.nodes-item.is c.deref.ensures.value c.loop-nodes.invariant)

pub loop-nodes-preserved : goal.loop-nodes-preserved
loop-nodes-preserved c =
    each_more (λ v. v.items) c.args.blocks.now (name_by c.args.names.now) c.args.stretches.now c.loop-nodes.nodes-index c.nodes-item.result c.deref.result.now c.loop-nodes.joined.items c.loop-nodes.blocks c.push.new.self.items c.join.new.blocks c.in_ok-join.field-0
    c.loop-nodes-test.true c.nodes-item.is c.deref.ensures.value c.in_ok-push.ensures.items c.join.auto.blocks c.in_ok-join.ensures.block c.in_ok-join.ensures.left c.loop-nodes.invariant

pub returns : goal.returns
returns c = each_all (λ v. v.items) c.args.blocks.now (name_by c.args.names.now) c.args.stretches.now c.loop-nodes.nodes-index c.loop-nodes.joined.items c.loop-nodes.blocks c.loop-nodes-test.false c.loop-nodes.invariant
