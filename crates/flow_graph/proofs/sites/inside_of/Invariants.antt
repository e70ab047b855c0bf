use Rattle.std.proofs.Common.{◌≡◌, filter, take}
use Rattle.elf_image.specs.Range.{is_inside}
use Rattle.flow_graph.proofs.sites.inside_of.Given as goal

abbrev pub invariant-loop-address : goal.invariant-loop-address
invariant-loop-address l = l.inside.items ≡ filter (is_inside l.r) (take l.address-index l.all)
