use Rattle.std.proofs.Common.{◌≡◌, drop}
use Rattle.elf_image.specs.Layout.{AreLaidOut}
use Rattle.machine.specs.Code.{keeps_frozen}
use Rattle.machine.proofs.held.keeps_frozen.Given as goal

abbrev pub invariant-loop-s : goal.invariant-loop-s
invariant-loop-s l = AreLaidOut (drop l.s-index l.segments) × (keeps_frozen (drop l.s-index l.segments) l.old l.new ≡ keeps_frozen l.segments l.old l.new)
