use Rattle.dream_top.proofs.Lines.{joined}
use Rattle.dream_top.proofs.runs.two_lines.Goals as goal

pub returns : goal.returns
returns c = λ decoded d.
    joined c.args.image.now c.args.range.now decoded c.args.f.now c.args.start.now c.args.steps c.from-steps.result c.in_ok-text.text.items c.in_ok-second.second.items c.deref.result.now
    c.extend_from_slice.new.self.items c.from-steps.ensures (c.in_ok-text.ensures decoded d) c.in_ok-second.ensures c.deref.ensures.value c.in_ok-extend_from_slice.ensures.items
