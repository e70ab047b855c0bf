use Rattle.std.proofs.Common.{◌++◌, ◌∷◌, [], ap, ◌∙◌, sym, subst, arith, None, length, length-append}
use Rattle.std.specs.Prelude.{slice_index_or}
use Rattle.flow_stretches.proofs.Places.{PathTo, path_alone, path_more, path_short, path_whole, none_of}
use Rattle.flow_stretches.proofs.paths.path_from.Goals as goal

pub loop-last-init : goal.loop-last-init
loop-last-init c = (c.requires.inside, subst (PathTo c.args.next.now c.args.first c.args.first) (sym (c.in_ok-push.ensures.items ∙ ap (λ l. l ++ c.args.first ∷ []) c.new-nodes.ensures.items)) (path_alone c.args.next.now c.args.first))

pub loop-last-smaller : goal.loop-last-smaller
loop-last-smaller c =
    let short = path_short c.args.next.now c.args.first c.loop-last.last c.in-Some.m c.loop-last.nodes.items c.requires.next c.requires.inside c.requires.begins c.in-Some.is c.loop-last.invariant.1 in
    omega (arith, short, ap length c.in_ok-push-2.ensures.items, length-append c.loop-last.nodes.items (c.in-Some.m ∷ []))

pub loop-last-preserved : goal.loop-last-preserved
loop-last-preserved c = (
  c.requires.next.inside c.loop-last.last c.in-Some.m c.in-Some.is,
  subst (PathTo c.args.next.now c.args.first c.in-Some.m) (sym c.in_ok-push-2.ensures.items) (path_more c.args.next.now c.args.first c.loop-last.last c.in-Some.m c.loop-last.nodes.items c.in-Some.is c.loop-last.invariant.1),
)

pub returns : goal.returns
returns c = path_whole c.args.next.now c.args.first c.loop-last.last c.loop-last.nodes.items (none_of (slice_index_or c.args.next.now c.loop-last.last None) c.in_default.not-Some) c.loop-last.invariant.1
