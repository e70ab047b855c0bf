use Rattle.std.proofs.Common.{ap, ◌∙◌}
use Rattle.cond_terms.specs.declared.term.Term.TheVariants as term
use Rattle.cond_terms.proofs.Simplest.{together, first_serves, second_serves, opposite, stands_as_and, stands_as_or}
use Rattle.cond_terms.proofs.simple.joined.Goals as goal

pub returns-then-first_serves : goal.returns-then-first_serves
returns-then-first_serves c = first_serves c.args.all c.args.a c.args.b (c.first_serves.ensures.0 c.if-first_serves.true)

pub returns-then-second_serves : goal.returns-then-second_serves
returns-then-second_serves c = second_serves c.args.all c.args.a c.args.b (c.second_serves.ensures.0 c.if-second_serves.true)

pub returns-then-is_turned : goal.returns-then-is_turned
returns-then-is_turned c = opposite c.args.all c.args.a c.args.b c.constant.result (c.is_turned.ensures.0 c.if-is_turned.true) c.constant.ensures

pub returns-then-all : goal.returns-then-all
returns-then-all c =
    let apart = together c.args.all c.args.a c.args.b c.first_serves.result c.second_serves.result c.is_turned.result c.first_serves.ensures.1
    c.if-first_serves.false c.second_serves.ensures.1 c.if-second_serves.false c.is_turned.ensures.1 c.if-is_turned.false in
    stands_as_and c.args.all c.args.a c.args.b _ apart c.if-all.true (ap (λ x. term.And x c.in_ok-b.b) c.in_ok-a.ensures ∙ ap (term.And c.args.a) c.in_ok-b.ensures)

pub returns-else-all : goal.returns-else-all
returns-else-all c =
    let apart = together c.args.all c.args.a c.args.b c.first_serves.result c.second_serves.result c.is_turned.result c.first_serves.ensures.1
    c.if-first_serves.false c.second_serves.ensures.1 c.if-second_serves.false c.is_turned.ensures.1 c.if-is_turned.false in
    stands_as_or c.args.all c.args.a c.args.b _ apart c.if-all.false (ap (λ x. term.Or x c.in_ok-b.b) c.in_ok-a.ensures ∙ ap (term.Or c.args.a) c.in_ok-b.ensures)
