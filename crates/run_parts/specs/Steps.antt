-- What simple statements do. They make no loop turn; a text has them as parts, a flow has lists of them in its blocks.
use Rattle.std.specs.Prelude.{ℕ, List, [], ◌∷◌, Option, Some, None}
use Rattle.run_parts.specs.Parts.{Run, Ends, Past, Over, Stuck, Part}

-- What a simple statement does: it leads to a next state, it ends the run, or it is stuck.
pub data Did (S E : Type 0) : Type 0 where
  Next : S → Did S E
  Halt : E → Did S E
  Jam : Did S E

-- what is done with a word that is evaluated first; stuck where the word is
abbrev pub having : {S E A : Type 0} → Option A → (A → Did S E) → Did S E
having None k = Jam
having (Some v) k = k v

-- what is done, as a run that leaves all turns over
abbrev pub done : {S E : Type 0} → Did S E → ℕ → Run S E
done (Next t) m = Ends (Past t) m
done (Halt e) m = Ends (Over e) m
done Jam m = Ends Stuck m

-- a simple statement as a part
abbrev pub simply : {S E : Type 0} → (S → Did S E) → Part S E
simply f m s = done (f s) m

-- what comes after a simple statement
abbrev pub then_do : {S E : Type 0} → Did S E → (S → Did S E) → Did S E
then_do (Next t) k = k t
then_do (Halt e) k = Halt e
then_do Jam k = Jam

-- simple statements one after another
abbrev pub do_all : {S E : Type 0} → List (S → Did S E) → S → Did S E
do_all [] s = Next s
do_all (f ∷ fs) s = then_do (f s) (do_all fs)

-- Where a block of a flow leads: to the block of a number, to the run's end, or it is stuck.
pub data Arrive (S E : Type 0) : Type 0 where
  To : ℕ → S → Arrive S E
  End : E → Arrive S E
  Nowhere : Arrive S E

-- where a block leads by its end, after its statements
abbrev pub arrive : {S E : Type 0} → Did S E → (S → Arrive S E) → Arrive S E
arrive (Next t) k = k t
arrive (Halt e) k = End e
arrive Jam k = Nowhere
