-- What is written of a text that is to be made.
use Rattle.std.proofs.Common.{◌≡◌, ℕ, List, Result, Ok, Err, IfOk, IfErr, sym, subst}
use Rattle.std.specs.Io.KnownBytes.{Keeps}
use Rattle.dream_top.specs.declared.status.Status.{Status}
use Rattle.dream_top.specs.declared.status.Status.TheVariants.{Done, WriteFault}
use Rattle.dream_top.specs.Answers.{Writing, AnswersMade, IsLeft, Writes}

module _ (makes : List ℕ → Type 0) (refuses : Status → Type 0) (o : Writing) where
  -- one that was made
  pub made : (text : List ℕ) (s : Status) → makes text → Writes s o text → AnswersMade makes refuses s o
  made text Done m w = (text, m, w)
  made text WriteFault m w = (text, m, w)
  made text s m w = absurd w

  module _ (done : refuses Done → ⊥) (stopped : refuses WriteFault → ⊥) where
    -- one that wasn't
    refused : (why : Status) → refuses why → Keeps o.taken o.taken_now → AnswersMade makes refuses why o
    refused Done r k = absurd (done r)
    refused WriteFault r k = absurd (stopped r)
    refused s r k = (r, k)

    -- either
    pub answered : {A : Type 0} (items : A → List ℕ) (r : Result A Status) (s : Status) → IfOk r (λ t. makes (items t)) → IfErr r refuses
        → IfOk r (λ t. Writes s o (items t)) → IfErr r (λ why. IsLeft why s o.taken o.taken_now) → AnswersMade makes refuses s o
    answered items (Ok text) s m n w l = made (items text) s m w
    answered items (Err why) s m n w l = subst (λ x. AnswersMade makes refuses x o) (sym l.0) (refused why n l.1)
