use Rattle.std.proofs.Common.{map}
use Rattle.cond_terms.proofs.Placing.{WaysUpTo}
use Rattle.cond_terms.proofs.places.ways_in.Given as goal

abbrev pub invariant-loop-place : goal.invariant-loop-place
invariant-loop-place l = WaysUpTo l.count l.place l.edges (map (λ v. v.items) l.ways.items)
