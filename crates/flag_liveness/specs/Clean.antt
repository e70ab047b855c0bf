-- What is left of a flow when what nobody sees is dropped.
use Rattle.std.specs.Prelude.{ℕ, List, [], ◌∷◌, map, if◌then◌else◌}
use Rattle.micro_ir.specs.declared.flow.Stmt.{Stmt}
use Rattle.micro_ir.specs.declared.flow.Block.{Block}
use Rattle.micro_ir.specs.declared.flow.Flow.{Flow}
use Rattle.flow_passes.specs.Uses.{NameSet}
use Rattle.flag_liveness.specs.Before.{is_unseen, live_before_all, live_at}

-- the statements that somebody sees
abbrev pub cleaned : List Stmt → NameSet → List Stmt
cleaned [] after = []
cleaned (s ∷ ss) after = if is_unseen s (live_before_all ss after) then cleaned ss after else s ∷ cleaned ss after

abbrev pub cleaned_block : (ℕ → NameSet) → Block → Block
cleaned_block live b = record { at = b.at; stmts = cleaned b.stmts (live_at b.end live); end = b.end }

abbrev pub cleaned_flow : (ℕ → NameSet) → Flow → Flow
cleaned_flow live f = record { entry = f.entry; blocks = map (cleaned_block live) f.blocks }
