use Rattle.std.proofs.Common.{subst}
use Rattle.dream_top.specs.Answers.{writing_of, Writes}
use Rattle.dream_top.proofs.top.write_header.Goals as goal

pub returns : goal.returns
returns g c =
    let sink = g.K.Sink in
    let o = writing_of (sink.taken c.args.out.now) (sink.taken c.write_text.new.out) (sink.faults c.args.out.now) (sink.faults c.write_text.new.out) in
    subst (λ t. Writes c.write_text.result o t) c.as_bytes.ensures.value c.write_text.ensures
