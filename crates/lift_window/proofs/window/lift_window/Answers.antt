use Rattle.std.proofs.Common.{◌≡◌, ◌^◌, ◌<◌, ◌∷◌, [], Option, Some, None, false, rules, sym, ap, subst, ◌∙◌}
use Rattle.std.specs.Prelude.{unwrap_or}
use Rattle.std.specs.List.{list_any}
use Rattle.lift_window.specs.Parts.{parts_of}
use Rattle.lift_window.specs.declared.parts.Parts.{Parts}
use Rattle.lift_window.proofs.Making.{made_by, never_none, same_parts}
use Rattle.lift_window.proofs.window.lift_window.Goals as goal

pub unreachable-requires : goal.unreachable-requires
unreachable-requires c = never_none (parts_of c.requires) c.parts_at.result c.in-None.is (c.parts_at.ensures c.requires)

pub returns : goal.returns
returns c =
    let same = same_parts c.in-Some.p (parts_of c.requires) c.parts_at.result c.in-Some.is (c.parts_at.ensures c.requires) in
    made_by c.args.m.now c.args.r c.args.at c.args.w c.requires c.in_ok-from_array-in-Some.field-0.items c.in_ok-first-in-Some.first c.in_ok-last-in-Some.last c.in-Some.p c.in_ok-saved-in-Some.saved
    c.in_ok-path-in-Some.path c.in_ok-stmts-in-Some.stmts same (c.in_ok-path-in-Some.ensures {u = tt}) (c.in_ok-stmts-in-Some.ensures {u = tt}) ((c.in_ok-saved-in-Some.ensures {u = tt}).local) (search rules)
    (c.in_ok-first-in-Some.ensures {u = tt}) (c.in_ok-last-in-Some.ensures {u = tt}) (search rules)
