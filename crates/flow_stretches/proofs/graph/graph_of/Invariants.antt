use Rattle.std.proofs.Common.{◌≡◌, map, take}
use Rattle.micro_ir.specs.Checked.{nodes_of}
use Rattle.flow_stretches.proofs.graph.graph_of.Given as goal

abbrev pub invariant-loop-block : goal.invariant-loop-block
invariant-loop-block l = map (λ v. v.items) l.lists.items ≡ map (λ b. nodes_of b.end) (take l.block-index l.blocks)
