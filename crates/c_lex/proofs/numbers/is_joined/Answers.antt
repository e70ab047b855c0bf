use Rattle.std.proofs.Common.{ap, sym, ◌∙◌, ◌&&◌, length, drop}
use Rattle.std.specs.Str.{bytes_eq}
use Rattle.std.proofs.lemmas.List.{take_rest}
use Rattle.c_lex.proofs.Joining.{joined}
use Rattle.c_lex.proofs.numbers.is_joined.Goals as goal

pub returns-then-eq : goal.returns-then-eq
returns-then-eq c =
    c.eq-then-eq.ensures
    ∙ ap (λ t. bytes_eq t c.args.second.now) (take_rest c.args.bytes.now (length c.args.first.now))
    ∙ sym (joined c.args.bytes.now c.args.first.now c.args.second.now c.if-bytes-n.false
    ∙ ap (λ q. q && bytes_eq (drop (length c.args.first.now) c.args.bytes.now) c.args.second.now) (sym c.eq.ensures ∙ c.if-eq.true))

pub returns-else-eq : goal.returns-else-eq
returns-else-eq c =
    c.if-eq.false
    ∙ sym (joined c.args.bytes.now c.args.first.now c.args.second.now c.if-bytes-n.false
    ∙ ap (λ q. q && bytes_eq (drop (length c.args.first.now) c.args.bytes.now) c.args.second.now) (sym c.eq.ensures ∙ c.if-eq.false))
