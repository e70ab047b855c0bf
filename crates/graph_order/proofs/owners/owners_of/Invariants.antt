use Rattle.std.proofs.Common.{map, length}
use Rattle.graph_order.proofs.Owning.{OwnersUpTo}
use Rattle.graph_order.proofs.owners.owners_of.Given as goal

abbrev pub invariant-loop-part : goal.invariant-loop-part
invariant-loop-part l = OwnersUpTo (length l.g.succ) (map (λ v. v.items) l.parts) l.part l.owners.items
