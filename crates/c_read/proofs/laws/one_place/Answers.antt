use Rattle.c_read.proofs.Places.{one_place_is}
use Rattle.c_read.proofs.laws.one_place.Goals as goal

pub returns : goal.returns
returns c = λ text m n p q. one_place_is text m n p.place q.place
