use Rattle.std.proofs.Common.{◌≡◌, [], ◌++◌, drop}
use Rattle.regions.specs.Plain.{value_cases}
use Rattle.regions.proofs.one_loop.value_cases.Given as goal

abbrev pub invariant-loop-c : goal.invariant-loop-c
invariant-loop-c l = l.trees ++ value_cases l.seen (drop l.c-index l.cases) ≡ value_cases [] l.cases
