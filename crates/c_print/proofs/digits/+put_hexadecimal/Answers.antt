use Rattle.std.proofs.Common.{false, ◌/◌, ◌%◌, ◌∷◌, [], ap, sym, ◌∙◌, arith}
use Rattle.std.specs.Fmt.{digit_glyph, digits}
use Rattle.std.proofs.lemmas.Fmt.{hex_one_digit}
use Rattle.c_print.specs.Page.{puts}
use Rattle.c_print.proofs.Shows.{then}
use Rattle.c_print.proofs.Hexadecimals.{hexadecimal_step}
use Rattle.c_print.proofs.digits.+put_hexadecimal.Goals as goal

pub returns-then-n-ge16 : goal.returns-then-n-ge16
returns-then-n-ge16 t c =
    then _ _ _ (digits 16 false (c.args.n / 16)) (digit_glyph false (c.args.n % 16) ∷ []) c.put_hexadecimal.ensures (c.put.ensures ∙ ap (λ d. puts c.put_hexadecimal.new.page (d ∷ [])) c.glyph.ensures.value)
    ∙ ap (puts c.args.page.now) (sym (hexadecimal_step c.args.n c.if-n-ge16.true (omega arith)))

pub returns-else-n-ge16 : goal.returns-else-n-ge16
returns-else-n-ge16 t c =
    c.put-else-n-ge16.ensures ∙ ap (λ d. puts c.args.page.now (d ∷ [])) c.glyph-else-n-ge16.ensures.value
    ∙ ap (puts c.args.page.now) (sym (hex_one_digit false c.args.n (omega arith)))
