use Rattle.std.proofs.Common.{[], ◌∷◌, ◌++◌, ◌+◌, take, get_or, refl, sym, subst}
use Rattle.flow_graph.proofs.Firsts.{AreNumbered, one_more}
use Rattle.flow_graph.proofs.walk.numbers_of.Goals as goal

pub loop-address-preserved : goal.loop-address-preserved
loop-address-preserved c =
    let p = c.in_ok-number.ensures in
    let i = c.loop-address.address-index in
    let more : AreNumbered c.args.places.now.keys (take (i + 1) c.args.addresses.now) c.insert_full.new.self.keys (c.loop-address.numbers.items ++ c.in_ok-number.number ∷ []) (i + 1) =
    one_more c.args.places.now.keys c.args.addresses.now c.loop-address.places.keys c.insert_full.new.self.keys c.loop-address.numbers.items i
    (get_or c.args.addresses.now i 0) c.in_ok-number.number c.loop-address.invariant c.loop-address-test.true refl p.keys p.index in
    subst (λ ns. AreNumbered c.args.places.now.keys (take (i + 1) c.args.addresses.now) c.insert_full.new.self.keys ns (i + 1)) (sym (c.in_ok-push.ensures {u = tt}).items) more
