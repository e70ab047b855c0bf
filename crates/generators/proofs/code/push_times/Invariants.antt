use Rattle.std.proofs.Common.{◌≡◌, ◌++◌}
use Rattle.generators.specs.Code.{times}
use Rattle.generators.proofs.code.push_times.Given as goal

abbrev pub invariant-loop : goal.invariant-loop
invariant-loop l = l.bytes.items ≡ l.initial.bytes.items ++ times l.counter l.part
