-- When a function of C does what another does, and reads better.
use Rattle.std.specs.Prelude.{◌≡◌}
use Rattle.c_syntax.specs.declared.syntax.CFun.{CFun}
use Rattle.c_syntax.specs.Formed.{IsWellFormed}
use Rattle.c_locals.specs.Keeps.{KeepsTurns, KeepsCounts}

-- It is well formed, has the other's address and counts, and each of its runs that isn't stuck, in as many turns.
pub record IsSettledOf (f g : CFun) : Type 0 where
  pub formed : IsWellFormed g
  pub runs : KeepsTurns f g
  pub counts : KeepsCounts f g
  pub address : g.address ≡ f.address
