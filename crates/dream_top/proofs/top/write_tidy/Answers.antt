use Rattle.dream_top.specs.Answers.{reading_of, writing_of, Tidies, RefusesText}
use Rattle.dream_top.proofs.Made.{answered}
use Rattle.dream_top.proofs.top.write_tidy.Goals as goal

pub returns : goal.returns
returns g c =
    let files = g.F.Files in
    let sink = g.K.Sink in
    let i = reading_of (files.held c.args.files.now) (files.faults c.args.files.now) (files.faults c.tidy-made.new.files) (files.got c.args.files.now) (files.got c.tidy-made.new.files) in
    let o = writing_of (sink.taken c.args.out.now) (sink.taken c.write_made.new.out) (sink.faults c.args.out.now) (sink.faults c.write_made.new.out) in
    answered (Tidies i c.args.path.now) (λ why. RefusesText why i c.args.path.now) o (λ r. r) (λ r. r) (λ t. t.items)
    c.tidy-made.result c.write_made.result c.tidy-made.ensures.ok c.tidy-made.ensures.err c.write_made.ensures.ok c.write_made.ensures.err
