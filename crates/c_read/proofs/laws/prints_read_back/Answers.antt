use Rattle.c_syntax.specs.Text.{canonical_text}
use Rattle.c_read.proofs.laws.prints_read_back.Goals as goal

pub returns : goal.returns
returns c = λ f r w. c.reads_exactly.ensures (canonical_text f) f r (c.canonical_stands.ensures f w)
