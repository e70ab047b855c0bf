use Rattle.std.proofs.Common.{take}
use Rattle.flow_graph.proofs.Firsts.{AreNumbered}
use Rattle.flow_graph.proofs.walk.numbers_of.Given as goal

abbrev pub invariant-loop-address : goal.invariant-loop-address
invariant-loop-address l = AreNumbered l.initial.places.keys (take l.address-index l.addresses) l.places.keys l.numbers.items l.address-index
