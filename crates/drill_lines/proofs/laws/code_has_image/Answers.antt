use Rattle.drill_lines.proofs.Imaged.{code_images}
use Rattle.drill_lines.proofs.laws.code_has_image.Goals as goal

pub returns : goal.returns
returns c = code_images
