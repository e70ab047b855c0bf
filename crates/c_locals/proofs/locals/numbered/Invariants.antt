use Rattle.std.proofs.Common.{◌≡◌, ◌≤◌, ◌++◌, drop}
use Rattle.c_locals.specs.Settled.{numbers_of}
use Rattle.c_locals.proofs.locals.numbered.Given as goal

abbrev pub invariant-loop-kept : goal.invariant-loop-kept
invariant-loop-kept l = (l.next ≤ l.kept-index) × (l.numbers.items ++ numbers_of (drop l.kept-index l.marks) l.next ≡ numbers_of l.marks 0)
