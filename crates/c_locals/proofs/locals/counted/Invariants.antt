use Rattle.std.proofs.Common.{◌≡◌, ◌≤◌, ◌+◌, drop}
use Rattle.c_locals.specs.Settled.{count_of}
use Rattle.c_locals.proofs.locals.counted.Given as goal

abbrev pub invariant-loop-kept : goal.invariant-loop-kept
invariant-loop-kept l = (l.count ≤ l.kept-index) × (l.count + count_of (drop l.kept-index l.marks) ≡ count_of l.marks)
