use Rattle.std.proofs.Common.{ap, ◌∙◌, map}
use Rattle.run_parts.specs.Parts.{in_turn}
use Rattle.run_parts.specs.World.{outcome_of}
use Rattle.c_syntax.specs.Run.{run_all}
use Rattle.c_run.specs.RunBy.{by_answers, run_all_by}
use Rattle.c_run.specs.State.{Left, after_calls, world_of}
use Rattle.c_run.proofs.CodeRuns.{run_by_answers}
use Rattle.c_run.proofs.run.run_c.Goals as goal

pub returns : goal.returns
returns c =
    let left : Left = after_calls c.args.answers.now in let w = world_of left c.in_ok-state.state in
    c.outcome.ensures c.sequence.new.turns left
    ∙ ap outcome_of ((c.in_ok-flow.ensures {u = tt}).value
    ∙ ap (λ b. run_all_by by_answers b c.args.turns w) c.as_slice.ensures
    ∙ ap (λ r. in_turn (map r c.args.f.now.body) c.args.turns w) run_by_answers
    ∙ ap (λ w. run_all c.args.f.now.body c.args.turns w) ((c.in_ok-state.ensures {u = tt}) left))
