use Rattle.std.proofs.Common.{◌<◌, ◌≡◌, ℕ, sym, subst, arith, ⊎_elim, List, [], ◌∷◌, ◌++◌, length, get_or}
use Rattle.std.specs.Prelude.{Contains}
use Rattle.std.proofs.lemmas.List.Elements.{Contains-push_cases}
use Rattle.graph_order.specs.Graph.{Digraph, HasEdge, IsReached}
use Rattle.cond_terms.specs.declared.guards.Edge.{Edge}
use Rattle.cond_terms.specs.Guards.{AreEdgesOf}
use Rattle.rows_of_text.proofs.guards.add_branch.Goals as goal

one_more : (g : Digraph) (edges : List Edge) (e : Edge) → AreEdgesOf g edges → IsReached g e.from → HasEdge g e.from e.to → AreEdgesOf g (edges ++ e ∷ [])
one_more g edges e p r h x c = ⊎_elim (λ q. p x q) (λ q. subst (λ (y : Edge). IsReached g y.from × HasEdge g y.from y.to) q (r, h)) (Contains-push_cases edges e x c)

listed : (xs ys : List ℕ) (k x : ℕ) → xs ≡ ys → k < length xs → x ≡ get_or xs k x → Contains ys x
listed xs ys k x same h is = subst (λ l. Contains l x) same (k, h, sym is)

pub returns-in_ok-push-2 : goal.returns-in_ok-push-2
returns-in_ok-push-2 c =
    let g = c.args.g.now in
    let first = listed c.succ.result.now _ 0 c.first-item.result c.succ.ensures.value (omega (arith, c.in-len2.len_at_least)) c.first-item.is in
    let second = listed c.succ.result.now _ 1 c.second-item.result c.succ.ensures.value (omega (arith, c.in-len2.len_at_least)) c.second-item.is in
    let one : AreEdgesOf g c.push.new.self = subst (AreEdgesOf g) (sym c.in_ok-push.ensures.ok) (one_more g c.args.list.now _ c.requires.edges c.requires.reached first) in
    subst (AreEdgesOf g) (sym c.in_ok-push-2.ensures.ok) (one_more g c.push.new.self _ one c.requires.reached second)
