use Rattle.std.proofs.Common.{◌<◌, ◌^◌, ap, sym, subst, ◌∙◌, arith}
use Rattle.c_emit.specs.Gathered.{with_tree}
use Rattle.c_emit.specs.Laws.{IsTreeOf}
use Rattle.c_emit.proofs.Gathering.{emitted_by}
use Rattle.c_emit.proofs.Whole.{is_tree_of}
use Rattle.c_emit.proofs.trees.emit.Goals as goal

pub returns : goal.returns
returns c =
    let is_word : c.args.address < 2 ^ 32 = omega arith in
    let exact =
    emitted_by c.args.t.now c.args.address c.tree.new.l c.temps.result c.bools.result c.selectors.result c.in_ok-body.body (c.in_ok-tree.ensures ∙ ap (with_tree c.args.t.now) c.new-locals.ensures)
    c.temps.ensures c.bools.ensures c.selectors.ensures c.in_ok-body.ensures in
    record {
      exact = exact;
      same = subst (IsTreeOf c.args.t.now) (sym exact) (is_tree_of c.args.t.now c.args.address is_word);
    }
