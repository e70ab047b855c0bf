use Rattle.std.proofs.Common.{◌≡◌, ◌<◌, ◌≢◌, map, length, ap, ◌∙◌, sym, subst, arith}
use Rattle.std.specs.Prelude.{All, AllPairs}
use Rattle.std.specs.List.{concat}
use Rattle.std.proofs.lemmas.List.{get_or_read}
use Rattle.micro_ir.specs.Rule.{IsGiven}
use Rattle.flow_stretches.specs.Joined.{AreStretches}
use Rattle.flow_stretches.specs.Known.{name_by}
use Rattle.flow_stretches.proofs.Each.{some_vecs, are_by, inside_by, joined_by}
use Rattle.flow_stretches.proofs.Planned.{some_each, inside_all}
use Rattle.flow_stretches.proofs.Given.{joined_is_given}
use Rattle.flow_stretches.proofs.Walking.{joined_runs}
use Rattle.flow_stretches.proofs.stretches.join_stretches.Goals as goal

pub plan_of-requires : goal.plan_of-requires
plan_of-requires c = subst (λ bs. IsGiven (record { entry = c.args.f.entry; blocks = bs })) (sym c.as_slice.ensures) c.requires.given

pub join_all-requires-clause-some : goal.join_all-requires-clause-some
join_all-requires-clause-some c =
    let are : AreStretches c.args.f (map (λ l. l.items) c.in_ok-plan.plan.stretches.items) (name_by c.in_ok-plan.plan.names.items) =
    are_by c.args.f c.as_slice.result.now (map (λ l. l.items) c.in_ok-plan.plan.stretches.items) (name_by c.in_ok-plan.plan.names.items) c.as_slice.ensures c.in_ok-plan.ensures.stretches in
    subst (λ vs. All (λ v. 0 < length v.items) vs) (sym c.deref-2.ensures.value)
    (some_vecs (λ v. v.items) c.in_ok-plan.plan.stretches.items (some_each c.args.f (map (λ l. l.items) c.in_ok-plan.plan.stretches.items) (name_by c.in_ok-plan.plan.names.items) are))

pub join_all-requires-clause-inside : goal.join_all-requires-clause-inside
join_all-requires-clause-inside c =
    let are : AreStretches c.args.f (map (λ l. l.items) c.in_ok-plan.plan.stretches.items) (name_by c.in_ok-plan.plan.names.items) =
    are_by c.args.f c.as_slice.result.now (map (λ l. l.items) c.in_ok-plan.plan.stretches.items) (name_by c.in_ok-plan.plan.names.items) c.as_slice.ensures c.in_ok-plan.ensures.stretches in
    inside_by c.args.f (map (λ l. l.items) c.in_ok-plan.plan.stretches.items) (map (λ l. l.items) c.deref-2.result.now) (ap (map (λ l. l.items)) c.deref-2.ensures.value)
    (inside_all c.args.f (map (λ l. l.items) c.in_ok-plan.plan.stretches.items) (name_by c.in_ok-plan.plan.names.items) c.requires.given are)

pub join_all-requires-clause-once : goal.join_all-requires-clause-once
join_all-requires-clause-once c =
    let are : AreStretches c.args.f (map (λ l. l.items) c.in_ok-plan.plan.stretches.items) (name_by c.in_ok-plan.plan.names.items) =
    are_by c.args.f c.as_slice.result.now (map (λ l. l.items) c.in_ok-plan.plan.stretches.items) (name_by c.in_ok-plan.plan.names.items) c.as_slice.ensures c.in_ok-plan.ensures.stretches in
    subst (λ vs. AllPairs (λ a b. a ≢ b) (concat (map (λ l. l.items) vs))) (sym c.deref-2.ensures.value) are.once

pub returns-clause-joined : goal.returns-clause-joined
returns-clause-joined c =
    let are : AreStretches c.args.f (map (λ l. l.items) c.in_ok-plan.plan.stretches.items) (name_by c.in_ok-plan.plan.names.items) =
    are_by c.args.f c.as_slice.result.now (map (λ l. l.items) c.in_ok-plan.plan.stretches.items) (name_by c.in_ok-plan.plan.names.items) c.as_slice.ensures c.in_ok-plan.ensures.stretches in
    let inside : c.entry.inside.0 < length c.in_ok-plan.plan.names.items = omega (arith, c.in_ok-plan.ensures.entry, c.entry.view_is) in
    let entry : c.index.result.now ≡ name_by c.in_ok-plan.plan.names.items c.args.f.entry =
    get_or_read c.in_ok-plan.plan.names.items c.entry.inside.0 c.index.result.now inside c.index.ensures 0 ∙ ap (name_by c.in_ok-plan.plan.names.items) c.entry.view_is in
    joined_by c.args.f (map (λ l. l.items) c.in_ok-plan.plan.stretches.items) (map (λ l. l.items) c.deref-2.result.now) c.in_ok-plan.plan.names.items c.deref.result.now c.index.result.now c.from_vec.result (ap (map (λ l. l.items)) c.deref-2.ensures.value) c.deref.ensures.value are entry (c.from_vec.ensures ∙ c.in_ok-blocks.ensures {u = tt})

pub returns-clause-given : goal.returns-clause-given
returns-clause-given c =
    let are : AreStretches c.args.f (map (λ l. l.items) c.in_ok-plan.plan.stretches.items) (name_by c.in_ok-plan.plan.names.items) =
    are_by c.args.f c.as_slice.result.now (map (λ l. l.items) c.in_ok-plan.plan.stretches.items) (name_by c.in_ok-plan.plan.names.items) c.as_slice.ensures c.in_ok-plan.ensures.stretches in
    let inside : c.entry.inside.0 < length c.in_ok-plan.plan.names.items = omega (arith, c.in_ok-plan.ensures.entry, c.entry.view_is) in
    let entry : c.index.result.now ≡ name_by c.in_ok-plan.plan.names.items c.args.f.entry =
    get_or_read c.in_ok-plan.plan.names.items c.entry.inside.0 c.index.result.now inside c.index.ensures 0 ∙ ap (name_by c.in_ok-plan.plan.names.items) c.entry.view_is in
    joined_is_given c.args.f (record { entry = c.index.result.now; blocks = c.from_vec.result }) c.requires.given
    (joined_by c.args.f (map (λ l. l.items) c.in_ok-plan.plan.stretches.items) (map (λ l. l.items) c.deref-2.result.now) c.in_ok-plan.plan.names.items c.deref.result.now c.index.result.now c.from_vec.result (ap (map (λ l. l.items)) c.deref-2.ensures.value) c.deref.ensures.value are entry (c.from_vec.ensures ∙ c.in_ok-blocks.ensures {u = tt}))

pub returns-clause-runs : goal.returns-clause-runs
returns-clause-runs c =
    let are : AreStretches c.args.f (map (λ l. l.items) c.in_ok-plan.plan.stretches.items) (name_by c.in_ok-plan.plan.names.items) =
    are_by c.args.f c.as_slice.result.now (map (λ l. l.items) c.in_ok-plan.plan.stretches.items) (name_by c.in_ok-plan.plan.names.items) c.as_slice.ensures c.in_ok-plan.ensures.stretches in
    let inside : c.entry.inside.0 < length c.in_ok-plan.plan.names.items = omega (arith, c.in_ok-plan.ensures.entry, c.entry.view_is) in
    let entry : c.index.result.now ≡ name_by c.in_ok-plan.plan.names.items c.args.f.entry =
    get_or_read c.in_ok-plan.plan.names.items c.entry.inside.0 c.index.result.now inside c.index.ensures 0 ∙ ap (name_by c.in_ok-plan.plan.names.items) c.entry.view_is in
    joined_runs c.args.f (record { entry = c.index.result.now; blocks = c.from_vec.result }) c.requires.given
    (joined_by c.args.f (map (λ l. l.items) c.in_ok-plan.plan.stretches.items) (map (λ l. l.items) c.deref-2.result.now) c.in_ok-plan.plan.names.items c.deref.result.now c.index.result.now c.from_vec.result (ap (map (λ l. l.items)) c.deref-2.ensures.value) c.deref.ensures.value are entry (c.from_vec.ensures ∙ c.in_ok-blocks.ensures {u = tt}))
