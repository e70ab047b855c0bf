use Rattle.std.proofs.Common.{IfOk, sym, subst}
use Rattle.dream_top.specs.Answers.{writing_of, Writes}
use Rattle.dream_top.proofs.top.write_made.Goals as goal

pub returns-in-Ok-clause-ok : goal.returns-in-Ok-clause-ok
returns-in-Ok-clause-ok g c =
    let sink = g.K.Sink in
    let o = writing_of (sink.taken c.args.out.now) (sink.taken c.write_text.new.out) (sink.faults c.args.out.now) (sink.faults c.write_text.new.out) in
    subst (λ r. IfOk r (λ t. Writes c.write_text.result o t.items)) (sym c.in-Ok.is)
    (subst (λ t. Writes c.write_text.result o t) c.deref.ensures.value c.write_text.ensures)
