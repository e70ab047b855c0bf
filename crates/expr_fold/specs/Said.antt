-- Words that say by a name, once it is set, what they said by the word that it is set to.
use Rattle.std.specs.Prelude.{◌≡◌, List, [], ◌∷◌, IsTrue}
use Rattle.c_syntax.specs.declared.syntax.CExpr.{CExpr}
use Rattle.expr_fold.specs.declared.delayed.Delayed.{Delayed}
use Rattle.expr_fold.specs.Placed.{placed_word}
use Rattle.expr_fold.specs.Fits.{word_fits}

-- the second word is the first one, where the word to which a name is set stands in the place of the name; and it fits
abbrev pub IsSaid : Delayed → CExpr → CExpr → Type 0
IsSaid d a b = (placed_word (d ∷ []) b ≡ a) × IsTrue (word_fits b)

-- so it is of each delayed word
abbrev pub AreSaid : Delayed → List Delayed → List Delayed → Type 0
AreSaid d [] [] = Unit {0}
AreSaid d (x ∷ xs) (y ∷ ys) = (y.name ≡ x.name) × IsSaid d x.word y.word × AreSaid d xs ys
AreSaid d xs ys = ⊥
