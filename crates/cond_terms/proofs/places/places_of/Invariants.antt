use Rattle.cond_terms.proofs.Placing.{PlacesUpTo}
use Rattle.cond_terms.proofs.places.places_of.Given as goal

abbrev pub invariant-loop-place : goal.invariant-loop-place
invariant-loop-place l = PlacesUpTo l.count l.place l.order l.places.items
