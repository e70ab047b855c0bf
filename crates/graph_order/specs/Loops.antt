-- The loops of a graph.
use Rattle.std.specs.Prelude.{List, All, map}
use Rattle.graph_order.specs.Graph.{Digraph}
use Rattle.graph_order.specs.Components.{IsPart}
use Rattle.graph_order.specs.Listed.{AreComponents}
use Rattle.graph_order.specs.declared.parts.Part.{Part}

-- The loops of a graph: its components, all of them, in order, each with its heads and its exit targets.
pub record AreLoops (g : Digraph) (parts : List Part) : Type 0 where
  pub components : AreComponents g (map (λ part. part.members.items) parts)
  pub each : All (λ part. IsPart g part.members.items part.heads.items part.exits.items) parts
