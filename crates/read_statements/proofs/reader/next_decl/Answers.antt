use Rattle.std.proofs.Common.{ap, ◌∙◌}
use Rattle.read_statements.specs.Turns.{Body, became, body_step}
use Rattle.read_statements.proofs.Declared.{no_decl}
use Rattle.read_statements.proofs.reader.next_decl.Goals as goal

pub returns-in_ok-outcome-in_default : goal.returns-in_ok-outcome-in_default
returns-in_ok-outcome-in_default c =
    c.became.ensures
    ∙ ap (became c.args.address c.args.locals) c.in_ok-outcome-in_default.ensures
    ∙ ap (λ (b : Body). became c.args.address c.args.locals (body_step c.args.locals b c.args.token)) c.new.ensures
    ∙ no_decl c.args.address c.args.locals c.args.token c.in_default.not-Uint32
