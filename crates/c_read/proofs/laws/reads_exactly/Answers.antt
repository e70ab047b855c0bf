use Rattle.std.proofs.Common.{◌≡◌, ◌⊎◌, inl, inr, List, ℕ, Result, Ok, Err, refl, ap}
use Rattle.c_syntax.specs.declared.syntax.CFun.{CFun}
use Rattle.c_syntax.specs.Stands.{OneFunction, StandsFor}
use Rattle.c_read.specs.declared.text.TextFault.{TextFault}
use Rattle.c_read.specs.declared.text.TextFault.TheVariants.{At, Memory}
use Rattle.c_read.specs.Answers.{IsAnswer}
use Rattle.c_read.proofs.laws.reads_exactly.Goals as goal

reads : OneFunction → (text : List ℕ) (f : CFun) (r : Result CFun TextFault) → StandsFor text f → IsAnswer text r → (r ≡ Ok f) ⊎ (r ≡ Err Memory)
reads one text f (Ok g) st a = inl (ap Ok (one text g f a st))
reads one text f (Err (At n)) st a = absurd (a.stands_for_none f st)
reads one text f (Err Memory) st a = inr refl

pub returns : goal.returns
returns c = reads c.one_function.ensures
