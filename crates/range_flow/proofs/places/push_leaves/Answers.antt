use Rattle.std.proofs.Common.{◌≡◌, ◌++◌, ◌∷◌, [], ◌^◌, ◌<◌, get_or, take, sym, subst, arith}
use Rattle.std.specs.Prelude.{All}
use Rattle.std.proofs.lemmas.List.{take_more}
use Rattle.std.proofs.lemmas.List.Elements.{All-push}
use Rattle.range_flow.specs.Nodes.{piece_of, pieces_of, leave_piece}
use Rattle.range_flow.proofs.Placing.{mapped_more, leave_more}
use Rattle.range_flow.proofs.places.push_leaves.Goals as goal

pub loop-address-preserved : goal.loop-address-preserved
loop-address-preserved c =
    let l = c.in_ok-leave_to.field-0 in
    let i = c.loop-address.address-index in
    let all = c.loop-address.all.items in
    let new : c.push.new.self.items ≡ all ++ l ∷ [] = (c.in_ok-push.ensures {u = tt}).items in
    let is = c.in_ok-leave_to.ensures {u = tt} in
    let n = leave_more all c.push.new.self.items l (get_or c.args.outside.now i 0) _ new is.piece c.loop-address.invariant.1 in (
      mapped_more piece_of leave_piece all c.push.new.self.items l (pieces_of c.args.all.now.items) c.args.outside.now i 0 c.loop-address-test.true new c.loop-address.invariant.0 is.piece,
      omega (arith, n),
      subst (All (λ a. a < 2 ^ 32)) (sym (take_more c.args.outside.now i 0 c.loop-address-test.true)) (All-push (λ a. a < 2 ^ 32) (take i c.args.outside.now) (get_or c.args.outside.now i 0) c.loop-address.invariant.2 is.word),
    )
