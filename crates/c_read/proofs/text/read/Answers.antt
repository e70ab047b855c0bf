use Rattle.std.proofs.Common.{Some, None, sym, subst}
use Rattle.std.proofs.lemmas.Bool.Decides.{Decides-eqb}
use Rattle.std.proofs.lemmas.Slice.Eq.{strip_prefix_is}
use Rattle.c_syntax.specs.Text.{include_line}
use Rattle.c_read.specs.Answers.{IsAnswer}
use Rattle.c_read.specs.Refusals.{IsRefusedAt}
use Rattle.c_read.proofs.Places.{lacks_line}
use Rattle.c_read.proofs.text.read.Goals as goal

pub returns-in-None : goal.returns-in-None
returns-in-None c =
    let lacks = strip_prefix_is Decides-eqb c.args.text.now include_line None c.in-None.ensures.cases in
    subst (IsRefusedAt c.args.text.now) (sym c.without_include_line.ensures) (lacks_line c.args.text.now lacks)

pub returns-in-Some : goal.returns-in-Some
returns-in-Some c =
    let begins = strip_prefix_is Decides-eqb c.args.text.now include_line (Some c.in-Some.rest) c.in-Some.ensures.cases in
    subst (λ t. IsAnswer t c.read_rest.result) (sym begins) c.read_rest.ensures
