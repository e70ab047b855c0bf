use Rattle.c_syntax.specs.Text.{canonical_text}
use Rattle.c_print.proofs.Functions.{counts_all}
use Rattle.c_print.proofs.fun.text_len.Goals as goal

pub returns : goal.returns
returns c = counts_all (canonical_text c.args.f.now) c.counting-page.result c.put_fun.new.page c.count.result c.counting-page.ensures c.put_fun.ensures c.count.ensures
