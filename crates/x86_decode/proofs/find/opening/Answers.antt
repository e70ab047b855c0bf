use Rattle.std.proofs.Common.{ap, ◌∙◌}
use Rattle.std.specs.Option.{option_map}
use Rattle.x86_decode.specs.View.{prefixes_of, row_of, opens}
use Rattle.x86_decode.proofs.Same.{find_is}
use Rattle.x86_decode.proofs.find.opening.Goals as goal

pub returns : goal.returns
returns c = ap (option_map row_of) c.find_row.ensures ∙ find_is (opens (prefixes_of c.args.p.now) c.args.escape c.args.op)
