use Rattle.std.proofs.Common.{◌≡◌, ◌*◌, None, sym, ◌∙◌, rules, arith}
use Rattle.jump_tables.proofs.Tables.{unfrozen}
use Rattle.jump_tables.proofs.table.is_frozen.Goals as goal

pub returns-then-is_none : goal.returns-then-is_none
returns-then-is_none c =
    let none : c.frozen.result ≡ None = search rules in
    sym (unfrozen c.args.m.now c.args.table c.loop-k.k (4 * c.args.count) (omega arith) (sym c.frozen.ensures ∙ none))
