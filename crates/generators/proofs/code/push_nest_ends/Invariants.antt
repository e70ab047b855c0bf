use Rattle.std.proofs.Common.{◌≡◌, ◌++◌}
use Rattle.generators.specs.Code.{nest_ends}
use Rattle.generators.proofs.code.push_nest_ends.Given as goal

abbrev pub invariant-loop-j : goal.invariant-loop-j
invariant-loop-j l = l.bytes.items ≡ l.fn.bytes.items ++ nest_ends l.j
