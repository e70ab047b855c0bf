-- Ends that lead to one node, whatever is tested.
use Rattle.std.specs.Prelude.{ℕ, nat_eq, List, [], ◌∷◌, Option, Some, None, if◌then◌else◌}
use Rattle.std.specs.List.{list_all}
use Rattle.micro_ir.specs.declared.flow.Case.{Case}
use Rattle.micro_ir.specs.declared.flow.End.{End as BlockEnd}
use Rattle.micro_ir.specs.declared.flow.End.TheVariants as end

-- the one node that an end leads to; none for a switch, whatever its cases are
abbrev pub only_target : BlockEnd → Option ℕ
only_target (end.Go a) = Some a
only_target (end.Branch t a b) = if nat_eq a b then Some a else None
only_target (end.Switch e cases) = None
only_target end.Return = None
only_target (end.Leave e) = None

-- the node that all of some cases lead to, where there is a case
abbrev pub shared_target : List Case → Option ℕ
shared_target [] = None
shared_target (c ∷ cases) = if list_all (λ d. nat_eq d.to c.to) cases then Some c.to else None

-- an end that goes to a node, where there is one
abbrev pub go_or : Option ℕ → BlockEnd → BlockEnd
go_or (Some a) e = end.Go a
go_or None e = e

-- An end that leads to one node, whatever is tested, goes there.
abbrev pub straight : BlockEnd → BlockEnd
straight (end.Go a) = end.Go a
straight (end.Branch t a b) = if nat_eq a b then end.Go a else end.Branch t a b
straight (end.Switch e cases) = go_or (shared_target cases) (end.Switch e cases)
straight end.Return = end.Return
straight (end.Leave e) = end.Leave e
