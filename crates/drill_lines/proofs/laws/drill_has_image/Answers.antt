use Rattle.drill_lines.proofs.Imaged.{drill_images}
use Rattle.drill_lines.proofs.laws.drill_has_image.Goals as goal

pub returns : goal.returns
returns c = drill_images
