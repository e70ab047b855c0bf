use Rattle.std.proofs.Common.{map, string_bytes}
use Rattle.run_lines.specs.StartWords.{given_by}
use Rattle.dream_top.specs.Runs.{IsRunText}
use Rattle.dream_top.specs.CommandLine.{target_said}
use Rattle.dream_top.specs.Answers.{reading_of, writing_of, Makes, Refuses}
use Rattle.dream_top.proofs.Made.{answered}
use Rattle.dream_top.proofs.top.write_run.Goals as goal

pub returns : goal.returns
returns g c =
    let files = g.F.Files in
    let sink = g.K.Sink in
    let i = reading_of (files.held c.args.files.now) (files.faults c.args.files.now) (files.faults c.run-made.new.files) (files.got c.args.files.now) (files.got c.run-made.new.files) in
    let o = writing_of (sink.taken c.args.out.now) (sink.taken c.write_made.new.out) (sink.faults c.args.out.now) (sink.faults c.write_made.new.out) in
    answered (Makes (IsRunText c.args.steps (given_by (map string_bytes c.args.words.now))) i (target_said c.args.target)) (λ why. Refuses why i (target_said c.args.target)) o (λ r. r) (λ r. r) (λ t. t.items)
    c.run-made.result c.write_made.result c.run-made.ensures.ok c.run-made.ensures.err c.write_made.ensures.ok c.write_made.ensures.err
