use Rattle.std.proofs.Common.{ap, sym, ◌∙◌, ◌&&◌, ◌++◌, codes, false, eq-eqb}
use Rattle.std.specs.Fmt.{digits}
use Rattle.std.specs.Str.{bytes_eq}
use borrow.Author.Tests.{ne_eqb}
use Rattle.c_lex.proofs.Joining.{with_u}
use Rattle.c_lex.proofs.numbers.is_number.Goals as goal

pub returns-then-last-eq117 : goal.returns-then-last-eq117
returns-then-last-eq117 c =
    c.is_hexadecimal.ensures
    ∙ sym (with_u c.args.bytes.now c.in-Some.front.now c.in-Some.last.now c.args.n c.in-Some.ensures.cases.0
    ∙ ap (λ q. q && bytes_eq c.in-Some.front.now (codes "0x" ++ digits 16 false c.args.n)) (eq-eqb _ _ c.if-last-eq117.true))

pub returns-else-last-eq117 : goal.returns-else-last-eq117
returns-else-last-eq117 c =
    sym (with_u c.args.bytes.now c.in-Some.front.now c.in-Some.last.now c.args.n c.in-Some.ensures.cases.0
    ∙ ap (λ q. q && bytes_eq c.in-Some.front.now (codes "0x" ++ digits 16 false c.args.n)) (ne_eqb _ _ c.if-last-eq117.false))
