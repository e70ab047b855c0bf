use Rattle.std.proofs.Common.{◌∙◌, sym}
use Rattle.cond_rules.proofs.Choosing.{first_chosen, second_chosen}
use Rattle.cond_rules.proofs.chosen.chosen.Goals as goal

pub returns-then-not-second : goal.returns-then-not-second
returns-then-not-second c =
    let s = c.in-Some in
    let n = c.in-Some-Some-Some in
    first_chosen c.args.op s.t.now n.i n.j n.k c.args.a.now s.x.now s.y.now c.args.b.now c.in_ok-copy_cond.field-0 s.ensures n.ensures n.ensures' n.ensures''
    (sym c.apply-first.ensures ∙ c.if-first.true) (sym c.apply-second.ensures ∙ c.if-not-second.true) (c.in_ok-copy_cond.ensures {u = tt})

pub returns-then-not-first : goal.returns-then-not-first
returns-then-not-first c =
    let s = c.in-Some in
    let n = c.in-Some-Some-Some in
    second_chosen c.args.op s.t.now n.i n.j n.k c.args.a.now s.x.now s.y.now c.args.b.now c.in_ok-negated.field-0 s.ensures n.ensures n.ensures' n.ensures''
    (sym c.apply-first.ensures ∙ c.if-not-first.true) (sym c.apply-second.ensures ∙ c.if-second.true) (c.in_ok-negated.ensures {u = tt})
