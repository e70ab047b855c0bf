use Rattle.std.proofs.Common.{◌≡◌, All, length}
use Rattle.cond_terms.proofs.places.empty_lists.Given as goal

abbrev pub invariant-loop : goal.invariant-loop
invariant-loop l = (length l.lists.items ≡ l.counter) × All (λ v. length v.items ≡ 0) l.lists.items
