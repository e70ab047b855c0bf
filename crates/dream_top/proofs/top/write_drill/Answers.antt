use Rattle.std.proofs.Common.{subst}
use Rattle.drill_lines.specs.Lines.{IsDrillLine}
use Rattle.dream_top.specs.Answers.{writing_of, WantsMemory, Writes}
use Rattle.dream_top.proofs.Made.{made}
use Rattle.dream_top.proofs.top.write_drill.Goals as goal

pub returns-in-Ok : goal.returns-in-Ok
returns-in-Ok g c =
    let sink = g.K.Sink in
    let o = writing_of (sink.taken c.args.out.now) (sink.taken c.write_text.new.out) (sink.faults c.args.out.now) (sink.faults c.write_text.new.out) in
    made (IsDrillLine c.args.functions) WantsMemory o c.in-Ok.text.items c.write_text.result c.in-Ok.ensures
    (subst (λ t. Writes c.write_text.result o t) c.deref.ensures.value c.write_text.ensures)
