-- The names that a renaming knows: those that a tree has.
use Rattle.std.proofs.Common.{◌≡◌, Bool, true, List, [], ◌∷◌, ◌++◌}
use Rattle.dream_words.specs.declared.machine.Name.{Name}
use Rattle.guarded.specs.Uses.{Use, name_of}

-- each use is of a known name
abbrev pub Known : (Name → Bool) → List Use → Type 0
Known X [] = Unit {0}
Known X (u ∷ us) = (X (name_of u) ≡ true) × Known X us

pub known_first : (X : Name → Bool) (us vs : List Use) → Known X (us ++ vs) → Known X us
known_first X [] vs h = tt
known_first X (u ∷ us) vs h = (h.0, known_first X us vs h.1)

pub known_second : (X : Name → Bool) (us vs : List Use) → Known X (us ++ vs) → Known X vs
known_second X [] vs h = h
known_second X (u ∷ us) vs h = known_second X us vs h.1
