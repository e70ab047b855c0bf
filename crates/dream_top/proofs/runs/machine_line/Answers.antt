use Rattle.std.proofs.Common.{◌≡◌, ap, ◌∙◌}
use Rattle.std.proofs.lemmas.Result.{IfOk-weaker}
use Rattle.run_lines.specs.Lines.{line_of}
use Rattle.dream_top.proofs.runs.machine_line.Goals as goal

pub returns : goal.returns
returns c =
    IfOk-weaker c.line.result (λ line. line.items ≡ line_of c.in_ok-outcome.outcome c.args.start.now.mem) _
    (λ line e decoded d. e ∙ ap (λ o. line_of o c.args.start.now.mem) (c.in_ok-outcome.ensures decoded d)) c.line.ensures
