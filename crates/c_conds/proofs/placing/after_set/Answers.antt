use Rattle.std.proofs.Common.{◌∙◌, sym}
use Rattle.c_syntax.specs.declared.syntax.CExpr.TheVariants as word
use Rattle.c_words.specs.Built.{pick}
use Rattle.c_locals.proofs.Bools.{ap3}
use Rattle.c_conds.proofs.Tests.{set_if}
use Rattle.c_conds.proofs.placing.after_set.Goals as goal

pub returns-then-is_outcome : goal.returns-then-is_outcome
returns-then-is_outcome c = set_if c.args.k c.args.e.now c.get-c.result.now c.get-a.result.now c.get-b.result.now c.args.t.now c.small.result
    (c.in-Pick.is ∙ sym (word.rolls-Pick c.in-Pick.c c.in-Pick.a c.in-Pick.b) ∙ sym (ap3 pick _ _ _ _ _ _ c.get-c.ensures c.get-a.ensures c.get-b.ensures))
    (c.is_outcome.ensures.one c.if-is_outcome.true) (c.is_outcome.ensures.zero c.if-is_outcome.true) (c.is_outcome.ensures.free c.if-is_outcome.true) c.small.ensures
