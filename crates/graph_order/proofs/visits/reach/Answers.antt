use Rattle.std.proofs.Common.{◌≡◌, ℕ, List, [], ◌∷◌, ◌++◌, length, take, drop, ◌∙◌, ap, sym, subst, arith, Bool, false, replicate}
use Rattle.std.proofs.lemmas.Grind.{common_steps}
use Rattle.std.proofs.lemmas.List.Elements.{Contains-push}
use Rattle.std.specs.Prelude.{Contains}
use Rattle.graph_order.specs.Marks.{Visits}
use Rattle.graph_order.proofs.Reached.{Searches-start, Searches-turn, Searches-exact, waits_inside}
use Rattle.graph_order.proofs.visits.reach.Goals as goal

pub loop-node-init : goal.loop-node-init
loop-node-init c =
    let waiting : c.push.new.self.items ≡ c.args.g.now.entry ∷ [] =
    c.in_ok-push.ensures.items
    ∙ ap (λ l. l ++ c.entry-entry.result ∷ []) c.new-waiting.ensures.items
    ∙ ap (λ n. n ∷ []) c.entry-entry.ensures.value in
    let marks : c.in_ok-reached.reached.items ≡ replicate (length c.args.g.now.succ) false =
    c.in_ok-reached.ensures.items_if_clones_equal (λ y e. e) ∙ ap (λ n. replicate n false) c.count.ensures.value in
    rw waiting (Searches-start c.args.g.now c.in_ok-reached.reached.items c.entry.inside.0 marks (c.entry.view_is ∙ c.entry-entry.ensures.value) (omega (arith, c.entry-entry.ensures.value, c.entry-entry.ensures.inside)))

pub succ-requires : goal.succ-requires
succ-requires c =
    waits_inside c.args.g.now c.loop-node.reached.items c.loop-node.waiting.items c.in-Some.node c.loop-node.invariant
    (subst (λ l. Contains l c.in-Some.node) (sym c.in-Some.ensures.items) (Contains-push c.pop.new.self.items c.in-Some.node))

refill : (n : ℕ) (new old : List Bool) → length new ≡ n → take n (new ++ drop (length new) old) ≡ new
refill n new old e = grind (arith, common_steps)

pub loop-node-preserved : goal.loop-node-preserved
loop-node-preserved c =
    let size : length c.visit.new.reached ≡ length c.loop-node.reached.items = omega (arith, c.visit.auto.reached, c.deref_mut.ensures.len, c.loop-node.reached.ok.0) in
    let full : length c.visit.new.reached ≡ c.loop-node.reached.len = omega (arith, size, c.loop-node.reached.ok.0) in
    rw (refill c.loop-node.reached.len c.visit.new.reached c.loop-node.reached.items full)
    (Searches-turn c.args.g.now c.loop-node.reached.items c.visit.new.reached c.loop-node.waiting.items c.pop.new.self.items c.visit.new.waiting.items c.in-Some.node c.in-Some.ensures.items size c.loop-node.invariant
    (subst (λ ns. Visits ns c.loop-node.reached.items c.pop.new.self.items c.visit.new.reached c.visit.new.waiting.items) c.succ.ensures.value
    (subst (λ bs. Visits c.succ.result.now bs c.pop.new.self.items c.visit.new.reached c.visit.new.waiting.items) c.deref_mut.ensures.value c.in_ok-visit.ensures)))

pub returns-clause-exact : goal.returns-clause-exact
returns-clause-exact c = Searches-exact c.args.g.now c.loop-node.reached.items c.loop-node.waiting.items (omega (arith, c.in_default.ensures.cases.0, c.loop-node.waiting.ok.0)) c.loop-node.invariant
