use Rattle.std.proofs.Common.{◌∙◌}
use Rattle.x86_decode.specs.View.{prefixes_of}
use Rattle.x86_decode.specs.Reading.{allows_0F}
use Rattle.x86_decode.proofs.Same.{list_any_is}
use Rattle.x86_decode.proofs.find.allows_escape.Goals as goal

pub returns : goal.returns
returns c = c.any_escape.ensures ∙ list_any_is (allows_0F (prefixes_of c.args.p.now))
