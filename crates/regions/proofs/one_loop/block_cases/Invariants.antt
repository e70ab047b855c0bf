use Rattle.std.proofs.Common.{◌≡◌, ◌++◌, drop}
use Rattle.regions.specs.Plain.{block_cases}
use Rattle.regions.proofs.one_loop.block_cases.Given as goal

abbrev pub invariant-loop-b : goal.invariant-loop-b
invariant-loop-b l = (l.n ≡ l.b-index) × (l.cases ++ block_cases l.n (drop l.b-index l.blocks) ≡ block_cases 0 l.blocks)
