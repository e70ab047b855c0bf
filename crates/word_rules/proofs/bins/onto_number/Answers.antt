use Rattle.std.proofs.Common.{sym, ap, ◌∙◌, unwrap_or, arith, rules}
use Rattle.std.proofs.lemmas.Result.{IfOk-weaker}
use Rattle.c_words.specs.Built.{bin}
use Rattle.word_rules.proofs.Rules.{settles_to, onto_two_numbers, onto_nought, onto_first, onto_covered, onto_turned, no_number}
use Rattle.word_rules.proofs.bins.onto_number.Goals as goal

pub returns-in-Some : goal.returns-in-Some
returns-in-Some c =
    settles_to _ _ _ c.num.ensures
    (onto_two_numbers c.args.op c.args.a c.in-Some.j c.args.k c.unwrap_or.result c.in-Some.ensures (c.unwrap_or.ensures ∙ ap (λ o. unwrap_or o 0) c.apply.ensures) (omega arith))

pub returns-then-gives_nought : goal.returns-then-gives_nought
returns-then-gives_nought c = settles_to _ _ _ c.num-then-gives_nought.ensures (onto_nought c.args.op c.args.a c.args.k (sym c.gives_nought.ensures ∙ c.if-gives_nought.true))

pub returns-then-gives_first : goal.returns-then-gives_first
returns-then-gives_first c = onto_first c.args.op c.args.a c.args.k (sym c.gives_first.ensures ∙ c.if-gives_first.true)

pub returns-then-covers : goal.returns-then-covers
returns-then-covers c = onto_covered c.args.op c.args.a c.args.k (search rules) (c.covers.ensures c.if-covers.true)

pub returns : goal.returns
returns c =
    let none = no_number c.args.a c.number.result c.number.ensures c.in_default.not-Some in
    IfOk-weaker c.bin.result _ _
    (λ e i. onto_turned c.args.op c.args.a e c.args.k c.turned-op.result none (sym c.gives_first.ensures ∙ c.if-gives_first.false) c.turned-op.ensures (i ∙ ap (bin c.turned-op.result.0 c.args.a) c.num-2.ensures))
    c.bin.ensures
