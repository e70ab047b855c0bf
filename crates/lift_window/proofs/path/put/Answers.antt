use Rattle.std.proofs.Common.{◌≡◌, ◌++◌, ◌∷◌, [], rules, ap, sym, subst, ◌∙◌}
use Rattle.std.proofs.lemmas.Result.{on_ok_weaker}
use Rattle.lift_window.specs.Walk.{IsPut}
use Rattle.lift_window.proofs.Walking.{put_none, put_one}
use Rattle.lift_window.proofs.path.put.Goals as goal

pub lift-requires : goal.lift-requires
lift-requires c = record { leaves = c.requires }

pub returns-in-None : goal.returns-in-None
returns-in-None c =
    let none : c.in_ok-blocks.blocks.items ≡ [] = search rules in
    put_none c.args.i.now c.args.at c.args.next c.in_ok-blocks.blocks.items c.args.stmts.now none (c.in_ok-blocks.ensures {u = tt})

pub returns : goal.returns
returns c =
    let last : c.in_ok-blocks.blocks.items ≡ c.pop.new.self.items ++ c.in-Some.block ∷ [] = search rules in
    let put = put_one c.args.i.now c.args.at c.args.next c.in_ok-blocks.blocks.items c.pop.new.self.items c.in-Some.block c.args.stmts.now last (c.in_ok-blocks.ensures {u = tt}) in
    on_ok_weaker c.append.result (λ e. subst (λ ss. IsPut c.args.i.now c.args.at c.args.next c.args.stmts.now ss) (sym e) put) c.append.ensures
