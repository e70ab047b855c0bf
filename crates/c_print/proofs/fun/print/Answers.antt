use Rattle.std.proofs.Common.{◌≡◌, List, ℕ, Option, Some, refl, sym, subst}
use Rattle.std.specs.Option.{IsSome}
use Rattle.c_syntax.specs.Text.{canonical_text}
use Rattle.c_print.proofs.Functions.{keeps_all}
use Rattle.c_print.proofs.fun.print.Goals as goal

one_text : (o : Option (List ℕ)) (x y : List ℕ) → o ≡ Some x → o ≡ Some y → x ≡ y
one_text o x y e f = cc

pub into_text-requires : goal.into_text-requires
into_text-requires c =
    subst IsSome (sym (keeps_all (canonical_text c.args.f.now) c.in_ok-page.page c.put_fun.new.page c.text_len-len.result c.text_len-len.ensures c.if-len.false c.in_ok-page.ensures c.put_fun.ensures)) refl

pub returns : goal.returns
returns c =
    one_text c.put_fun.new.page.kept c.into_text.result.items (canonical_text c.args.f.now) c.into_text.ensures
    (keeps_all (canonical_text c.args.f.now) c.in_ok-page.page c.put_fun.new.page c.text_len-len.result c.text_len-len.ensures c.if-len.false c.in_ok-page.ensures c.put_fun.ensures)
