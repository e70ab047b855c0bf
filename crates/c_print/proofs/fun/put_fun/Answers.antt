use Rattle.std.proofs.Common.{refl, ap, ◌∙◌, map}
use Rattle.dream_words.specs.declared.machine.Name.TheVariants as name
use Rattle.c_syntax.specs.Text.{all, stmt_text}
use Rattle.c_print.specs.Page.{puts}
use Rattle.c_print.proofs.Functions.{put_whole}
use Rattle.c_print.proofs.fun.put_fun.Goals as goal

pub returns : goal.returns
returns c =
    let body = c.put_all.ensures ∙ ap (λ ss. puts c.put_decls-3.new.page (all (map stmt_text ss) 1)) c.as_slice.ensures in
    put_whole c.args.f.now c.args.page.now c.put.new.self c.put_function.new.page c.put-2.new.self c.put_decls.new.page c.put_decls-2.new.page c.put_decls-3.new.page c.put_all.new.page c.put-3.new.self
    c.put.ensures c.put_function.ensures c.put-2.ensures (c.put_decls.ensures name.T (λ n. refl)) (c.put_decls-2.ensures name.B (λ n. refl)) (c.put_decls-3.ensures name.S (λ n. refl)) body c.put-3.ensures
