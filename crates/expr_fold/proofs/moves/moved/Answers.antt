use Rattle.std.proofs.Common.{refl, subst}
use Rattle.micro_ir.specs.declared.flow.Flow.{Flow}
use Rattle.expr_fold.specs.Counts.{reads_of}
use Rattle.expr_fold.specs.Counted.{Counted, once_of}
use Rattle.expr_fold.proofs.Directly.{counted_once, moved_given, moved_keeps, moved_direct}
use Rattle.expr_fold.proofs.moves.moved.Goals as goal

pub returns : goal.returns
returns c =
    let once = once_of c.in_ok-reads.reads in
    let f = c.args.f in
    let made : Flow = record { entry = f.entry; blocks = c.in_ok-blocks.blocks } in
    let h = counted_once c.in_ok-reads.reads f.blocks (subst (λ bs. Counted c.in_ok-reads.reads (reads_of bs)) c.as_slice.ensures c.in_ok-reads.ensures) in
    record {
      given = moved_given once f made h c.requires c.in_ok-blocks.ensures refl;
      keeps = moved_keeps once f made h c.requires c.in_ok-blocks.ensures refl;
      direct = moved_direct once f.blocks made h c.in_ok-blocks.ensures;
    }
