use Rattle.std.proofs.Common.{ap, sym, ◌∙◌}
use Rattle.std.specs.Option.{option_copied}
use Rattle.graph_order.proofs.Places.{at_Contains}
use Rattle.graph_order.proofs.Growing.{two_from_other}
use Rattle.graph_order.proofs.arrivals.has_two.Goals as goal

pub returns-in-Some : goal.returns-in-Some
returns-in-Some c = two_from_other c.args.nodes.now c.in-Some.field-0.now (at_Contains c.args.nodes.now 0 c.in-Some.field-0.now (sym c.first.ensures.value ∙ ap option_copied c.in-Some.is)) c.has_other.result c.has_other.ensures
