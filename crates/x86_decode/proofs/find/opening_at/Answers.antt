use Rattle.std.proofs.Common.{ap, ◌∙◌}
use Rattle.std.specs.Option.{option_map}
use Rattle.x86_decode.specs.View.{prefixes_of, row_of, opens_at}
use Rattle.x86_decode.proofs.Same.{find_is}
use Rattle.x86_decode.proofs.find.opening_at.Goals as goal

pub returns : goal.returns
returns c = ap (option_map row_of) c.find_row_at.ensures ∙ find_is (opens_at (prefixes_of c.args.p.now) c.args.escape c.args.op c.args.modrm)
