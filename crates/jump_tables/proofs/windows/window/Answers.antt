use Rattle.std.proofs.Common.{◌≡◌, None, rules, sym, ◌∙◌}
use Rattle.jump_tables.proofs.Standing.{window_stands}
use Rattle.jump_tables.proofs.Steps.{window_nowhere, window_here}
use Rattle.jump_tables.proofs.windows.window.Goals as goal

pub returns-in_err-comparison : goal.returns-in_err-comparison
returns-in_err-comparison c =
    let none : c.from_residual.result ≡ None = search rules in
    let e = window_nowhere c.args.m.now c.args.r.now c.args.at (sym c.comparison_at.ensures.found ∙ c.in_err-comparison.was) in
    window_stands c.args.m.now c.args.r.now c.args.at c.from_residual.result (none ∙ sym e)

pub returns : goal.returns
returns c =
    let e = window_here c.args.m.now c.args.r.now c.args.at c.in_ok-comparison.comparison (sym c.comparison_at.ensures.found ∙ c.in_ok-comparison.was) in
    window_stands c.args.m.now c.args.r.now c.args.at c.window_from.result (c.window_from.ensures ∙ sym e)
