-- The flows of the tests may be given.
use Rattle.std.proofs.Common.{◌≡◌, ◌^◌, ◌<◌, length, None, [], ◌∷◌, refl, lit<}
use Rattle.micro_ir.specs.declared.flow.End.TheVariants as end
use Rattle.micro_ir.specs.declared.flow.Flow.{Flow}
use Rattle.micro_ir.specs.Checked.{bad_block}
use Rattle.micro_ir.specs.Rule.{nodes_in, KeepsRule, IsGiven}
use Rattle.micro_ir.proofs.Named.{none_bad}

given : (f : Flow) → bad_block f ≡ None → KeepsRule f → length f.blocks < 2 ^ 30 → length (nodes_in f.blocks) < 2 ^ 30 → IsGiven f
given f b r l n = record { checked = none_bad f b; rule = r; few_blocks = l; few_nodes = n }

-- two blocks that go to each other
abbrev pub ring_flow : Flow
ring_flow = record { entry = 1; blocks = record { at = 4096; stmts = []; «end» = end.Go 1 } ∷ record { at = 4096; stmts = []; «end» = end.Go 0 } ∷ [] }

pub ring_given : IsGiven ring_flow
ring_given = given ring_flow refl refl (lit< tt) (lit< tt)

-- a block that goes on at the other one, which returns
abbrev pub pair_flow : Flow
pair_flow = record { entry = 0; blocks = record { at = 4096; stmts = []; «end» = end.Go 1 } ∷ record { at = 4096; stmts = []; «end» = end.Return } ∷ [] }

pub pair_given : IsGiven pair_flow
pair_given = given pair_flow refl refl (lit< tt) (lit< tt)
