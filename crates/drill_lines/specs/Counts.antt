-- What is counted of a range of an image.
use Rattle.std.specs.Prelude.{◌≡◌, ℕ, List, length}
use Rattle.elf_image.specs.declared.image.Segment.{Segment}
use Rattle.elf_image.specs.declared.range.Range.{Range}
use Rattle.graph_order.specs.Graph.{Digraph}
use Rattle.graph_order.specs.Listed.{AreComponents}
use Rattle.flow_graph.specs.declared.place.Place.{Place}
use Rattle.flow_graph.specs.Place.{NamedPlace, HasNoPlace}
use Rattle.flow_graph.specs.Discovery.{IsDiscovered}
use Rattle.c_syntax.specs.declared.syntax.CFun.{CFun}
use Rattle.guarded.specs.Counts.{selectors_in, ext_in, stores_in}
use Rattle.dream_engine.specs.declared.form.Form.TheVariants.{Structured}
use Rattle.dream_engine.specs.Agreement.{IsFunctionOf}
use Rattle.drill_lines.specs.declared.range_counts.Counts.{Counts}

-- what is counted of a range with a named place: nothing
abbrev pub nothing : Counts
nothing = record { accepted = 0; components = 0; selectors = 0; ext = 0; stores = 0 }

-- the counts of an accepted range with so many components, and of its function
abbrev pub counts_with : ℕ → CFun → Counts
counts_with components f =
    record { accepted = 1; components = components; selectors = selectors_in f; ext = ext_in f; stores = stores_in f }

-- a place of the range is named, and nothing is counted
pub record IsRefused (m : List Segment) (r : Range) (counts : Counts) : Type 0 where
  pub place : Place
  pub named : NamedPlace m r place
  pub counted : counts ≡ nothing

-- No place is named. The components are those of the graph that is discovered of the range, and the other counts are those
-- of a function of the range.
pub record IsAccepted (m : List Segment) (r : Range) (counts : Counts) : Type 0 where
  pub no_place : HasNoPlace m r
  pub places : List ℕ
  pub graph : Digraph
  pub discovered : IsDiscovered m r places graph
  pub parts : List (List ℕ)
  pub components : AreComponents graph parts
  pub function : CFun
  pub is_function : IsFunctionOf Structured m r function
  pub counted : counts ≡ counts_with (length parts) function

-- the range is refused or accepted, and these are its counts
pub data HasCountsIn (m : List Segment) (r : Range) (counts : Counts) : Type 0 where
  refused : IsRefused m r counts → HasCountsIn m r counts
  accepted : IsAccepted m r counts → HasCountsIn m r counts
