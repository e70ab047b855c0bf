use Rattle.std.proofs.Common.{ap, sym, ◌∙◌, arith, ◌&&◌, ◌/◌, ◌++◌, codes, false, eq-eqb}
use Rattle.std.specs.Fmt.{digits}
use Rattle.std.specs.Str.{bytes_eq}
use borrow.Author.Tests.{ne_eqb}
use Rattle.c_lex.proofs.Joining.{one_digit, more_digits, other_digit}
use Rattle.c_lex.proofs.numbers.+is_hexadecimal.Goals as goal

pub returns-then-n-lt16 : goal.returns-then-n-lt16
returns-then-n-lt16 t c =
    c.eq.ensures ∙ ap (bytes_eq c.in-Some.front.now) c.as_slice.ensures
    ∙ sym (one_digit c.args.bytes.now c.in-Some.front.now c.in-Some.last.now c.args.n c.in-Some.ensures.cases.0 (omega arith)
    ∙ ap (λ q. q && bytes_eq c.in-Some.front.now (codes "0x")) (eq-eqb _ _ (c.if-last-glyph.true ∙ c.glyph.ensures)))

pub returns-else-n-lt16 : goal.returns-else-n-lt16
returns-else-n-lt16 t c =
    c.is_hexadecimal.ensures
    ∙ sym (more_digits c.args.bytes.now c.in-Some.front.now c.in-Some.last.now c.args.n c.in-Some.ensures.cases.0 (omega arith) (omega arith)
    ∙ ap (λ q. q && bytes_eq c.in-Some.front.now (codes "0x" ++ digits 16 false (c.args.n / 16))) (eq-eqb _ _ (c.if-last-glyph.true ∙ c.glyph.ensures)))

pub returns-else-last-glyph : goal.returns-else-last-glyph
returns-else-last-glyph t c =
    sym (other_digit c.args.bytes.now c.in-Some.front.now c.in-Some.last.now c.args.n c.in-Some.ensures.cases.0 (omega arith)
    (ne_eqb _ _ (λ e. c.if-last-glyph.false (e ∙ sym c.glyph.ensures))))
