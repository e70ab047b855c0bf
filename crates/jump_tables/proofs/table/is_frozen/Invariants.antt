use Rattle.std.proofs.Common.{◌≡◌, true}
use Rattle.jump_tables.specs.Found.{all_frozen}
use Rattle.jump_tables.proofs.table.is_frozen.Given as goal

-- the bytes so far are frozen
abbrev pub invariant-loop-k : goal.invariant-loop-k
invariant-loop-k l = all_frozen l.m l.table l.k ≡ true
