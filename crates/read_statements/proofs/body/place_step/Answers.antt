use Rattle.std.proofs.Common.{◌≡◌, reverse, Option, option_map, IfOk, sym, ap, subst, ◌∙◌}
use Rattle.read_words.specs.declared.part.Part.{Part}
use Rattle.read_words.specs.Parts.{reading_of}
use Rattle.read_words.specs.Turns as words
use Rattle.read_statements.specs.Turns.{Outcome, breakable, depth_left, turn, turned, went, place_step}
use Rattle.read_statements.specs.Readers.{place_of, outcome_of}
use Rattle.read_statements.proofs.Settling.{whole_step, open_step}
use Rattle.read_statements.proofs.body.place_step.Goals as goal

pub returns-in_ok-turn-in-At : goal.returns-in_ok-turn-in-At
returns-in_ok-turn-in-At c =
    let os = reverse c.args.body.open in
    let at : turned os c.args.body.stmts c.in_ok-turn-in-At.turn ≡ place_step c.args.locals os c.args.body.stmts (place_of c.args.body.place) c.args.token =
    ap (turned os c.args.body.stmts) c.in_ok-turn-in-At.ensures
    ∙ ap (λ ps. turned os c.args.body.stmts (turn c.args.locals (breakable (reverse ps)) (depth_left (reverse ps)) c.in-At.point c.args.token)) c.as_slice.ensures
    ∙ sym (ap (λ p. place_step c.args.locals os c.args.body.stmts (place_of p) c.args.token) c.in-At.is)
    in subst (λ (t : Option Outcome). IfOk c.after_turn.result (λ o. option_map outcome_of o ≡ t)) at c.after_turn.ensures

pub returns-in-Ok : goal.returns-in-Ok
returns-in-Ok c =
    let os = reverse c.args.body.open in
    let after : turned os c.args.body.stmts c.after_part.result ≡ place_step c.args.locals os c.args.body.stmts (place_of c.args.body.place) c.args.token =
    ap (turned os c.args.body.stmts) c.after_part.ensures
    ∙ whole_step c.args.locals os c.args.body.stmts c.in-Inside.wanted (reading_of c.in-Inside.part) c.in-Ok.item c.args.token c.in-Ok.ensures
    ∙ sym (ap (λ p. place_step c.args.locals os c.args.body.stmts (place_of p) c.args.token) c.in-Inside.is)
    in subst (λ (t : Option Outcome). IfOk c.after_turn-in-Ok.result (λ o. option_map outcome_of o ≡ t)) after c.after_turn-in-Ok.ensures

pub returns-in_ok-part-in-Err : goal.returns-in_ok-part-in-Err
returns-in_ok-part-in-Err c =
    let os = reverse c.args.body.open in
    let u = c.in-Inside.wanted in
    c.went.ensures
    ∙ ap (went os c.args.body.stmts u) c.in_ok-part-in-Err.ensures
    ∙ ap (λ (p : Part). went os c.args.body.stmts u (words.step_of c.args.locals p.state (reverse p.«open») c.args.token)) c.in-Err.ensures.0
    ∙ open_step c.args.locals os c.args.body.stmts u (reading_of c.in-Inside.part) c.args.token c.in-Err.ensures.1
    ∙ sym (ap (λ p. place_step c.args.locals os c.args.body.stmts (place_of p) c.args.token) c.in-Inside.is)
