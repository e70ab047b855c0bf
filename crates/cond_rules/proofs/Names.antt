-- Names of two parts.
use Rattle.std.proofs.Common.{Bool, true, false, ◌&&◌}
use Rattle.std.specs.Prelude.{IsTrue}
use Rattle.micro_ir.proofs.Values.{both_true}

pub both_and : (a b : Bool) → IsTrue a → IsTrue b → IsTrue (a && b)
both_and true b p q = q
both_and false b p q = p

pub two_names : (a b x y : Bool) → (IsTrue a → IsTrue x) → (IsTrue b → IsTrue y) → IsTrue (a && b) → IsTrue (x && y)
two_names a b x y f g h = let k = both_true a b h in both_and x y (f k.0) (g k.1)
