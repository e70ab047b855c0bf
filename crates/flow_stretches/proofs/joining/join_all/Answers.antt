use Rattle.std.proofs.Common.{◌≡◌, ◌<◌, map, length, ◌∙◌, sym, subst}
use Rattle.std.specs.Prelude.{All, IfOk}
use Rattle.std.specs.List.{concat}
use Rattle.flow_stretches.specs.Joined.{join_of}
use Rattle.flow_stretches.specs.Known.{name_by}
use Rattle.flow_stretches.proofs.joining.join_all.Goals as goal

pub join_each-requires-clause-inside : goal.join_each-requires-clause-inside
join_each-requires-clause-inside c =
    subst (λ bs. All (λ n. n < length bs) (concat (map (λ l. l.items) c.args.stretches.now))) (sym (c.deref_mut.ensures.value ∙ c.in_ok-left.ensures {u = tt})) c.requires.inside

pub returns : goal.returns
returns c =
    subst (λ bs. IfOk c.join_each.result (λ v. v.items ≡ map (join_of bs (name_by c.args.names.now)) (map (λ l. l.items) c.args.stretches.now))) (c.deref_mut.ensures.value ∙ c.in_ok-left.ensures {u = tt}) c.join_each.ensures
