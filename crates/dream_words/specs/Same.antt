-- When two outcomes are the same: equal kinds with equal contents, where memories have equal bytes.
use Rattle.std.specs.Prelude.{◌≡◌, List, [], ◌∷◌}
use Rattle.dream_words.specs.declared.outcome.Call.{Call}
use Rattle.dream_words.specs.declared.outcome.Outcome.{Outcome}
use Rattle.dream_words.specs.declared.outcome.Outcome.TheVariants.{Returned, Faulted, Asking, Strayed, Undecoded, Stuck, Going}
use Rattle.dream_words.specs.Memory.{SameMemory}

pub record SameCall (a b : Call) : Type 0 where
  pub target : a.target ≡ b.target
  pub regs : a.regs ≡ b.regs
  pub mem : SameMemory a.mem b.mem

abbrev pub SameCalls : List Call → List Call → Type 0
SameCalls [] [] = Unit {0}
SameCalls (a ∷ as') (b ∷ bs) = SameCall a b × SameCalls as' bs
SameCalls [] (b ∷ bs) = ⊥
SameCalls (a ∷ as') [] = ⊥

-- Flags are in no contents.
abbrev pub Same : Outcome → Outcome → Type 0
Same (Returned r m cs) (Returned r' m' cs') = (r ≡ r') × SameMemory m m' × SameCalls cs cs'
Same (Faulted v a m cs) (Faulted v' a' m' cs') = (v ≡ v') × (a ≡ a') × SameMemory m m' × SameCalls cs cs'
Same (Asking cs) (Asking cs') = SameCalls cs cs'
Same Strayed Strayed = Unit {0}
Same Undecoded Undecoded = Unit {0}
Same Stuck Stuck = Unit {0}
Same (Going cs) (Going cs') = SameCalls cs cs'
Same _ _ = ⊥

-- the run has returned, faulted or asks
abbrev pub IsEnded : Outcome → Type 0
IsEnded (Returned r m cs) = Unit {0}
IsEnded (Faulted v a m cs) = Unit {0}
IsEnded (Asking cs) = Unit {0}
IsEnded Strayed = ⊥
IsEnded Undecoded = ⊥
IsEnded Stuck = ⊥
IsEnded (Going cs) = ⊥

-- the run goes on
abbrev pub IsGoing : Outcome → Type 0
IsGoing o = (cs : List Call) × (o ≡ Going cs)

-- the calls of an outcome; a run that strayed, is stuck or has no instruction tells none
abbrev pub calls_of : Outcome → List Call
calls_of (Returned r m cs) = cs
calls_of (Faulted v a m cs) = cs
calls_of (Asking cs) = cs
calls_of Strayed = []
calls_of Undecoded = []
calls_of Stuck = []
calls_of (Going cs) = cs

-- the first calls are the front of the second
abbrev pub AreFront : List Call → List Call → Type 0
AreFront [] bs = Unit {0}
AreFront (a ∷ as') [] = ⊥
AreFront (a ∷ as') (b ∷ bs) = SameCall a b × AreFront as' bs
