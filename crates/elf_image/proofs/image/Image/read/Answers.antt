use Rattle.std.proofs.Common.{subst, sym}
use Rattle.elf_image.specs.Layout.{AreLaidOut}
use Rattle.elf_image.proofs.LaidOut.{laid_out}
use Rattle.elf_image.proofs.image.Image.read.Goals as goal

pub invariant_of-result : goal.invariant_of-result
invariant_of-result c = subst AreLaidOut (sym c.in-Ok.ensures) (laid_out c.args.bytes.now (sym c.in-None.ensures))
