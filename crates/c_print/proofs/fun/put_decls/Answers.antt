use Rattle.c_print.proofs.Functions.{decl_more}
use Rattle.c_print.proofs.fun.put_decls.Goals as goal

pub loop-n-preserved : goal.loop-n-preserved
loop-n-preserved c = λ kind h. decl_more kind c.args.letter.now c.loop-n.n _ c.loop-n.page c.put.new.self c.put_local.new.page _ (h c.loop-n.n) (c.loop-n.invariant kind h) c.put.ensures c.put_local.ensures c.put-in-loop-n.ensures
