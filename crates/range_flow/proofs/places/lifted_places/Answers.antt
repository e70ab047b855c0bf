use Rattle.std.proofs.Common.{◌≡◌, ◌++◌, ◌∷◌, [], sym, subst}
use Rattle.std.specs.Prelude.{All}
use Rattle.std.proofs.lemmas.List.Elements.{All-push}
use Rattle.range_flow.specs.Lifting.{IsLiftedIn}
use Rattle.range_flow.proofs.Placing.{mapped_on}
use Rattle.range_flow.proofs.places.lifted_places.Goals as goal

pub loop-place-preserved : goal.loop-place-preserved
loop-place-preserved c =
    let l = c.in_ok-lifted_at.field-0 in
    let i = c.loop-place.place-index in
    let all = c.loop-place.all.items in
    let new : c.push.new.self.items ≡ all ++ l ∷ [] = (c.in_ok-push.ensures {u = tt}).items in
    let is = c.in_ok-lifted_at.ensures {u = tt} in (
      mapped_on (λ x. x.at) all c.push.new.self.items l c.args.places.now i 0 c.loop-place-test.true new c.loop-place.invariant.0 is.here,
      subst (All (IsLiftedIn c.args.m.now c.args.r)) (sym new) (All-push (IsLiftedIn c.args.m.now c.args.r) all l c.loop-place.invariant.1 is.lifted),
    )
