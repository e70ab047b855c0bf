-- The best of several codes.
use Rattle.std.proofs.Common.{◌≡◌, ℕ, suc, get_or, ◌+◌, ◌<◌, List, length, Option, Some, None, sym, ap, subst, ◌∙◌, inl, inr, ◌⊎◌, arith}
use Rattle.std.specs.Prelude.{IfSome, IsSomeAnd, slice_get}
use Rattle.std.proofs.lemmas.Bool.{cases_lt}
use Rattle.std.proofs.lemmas.Option.{slice_get-get_or}
use Rattle.x86_inst.specs.declared.Inst.{Inst}
use Rattle.x86_inst.specs.Spelling.{Spells}
use Rattle.x86_decode.specs.declared.rows.Row.{Row}
use Rattle.x86_encode.specs.declared.code.Code.{Code}
use Rattle.x86_encode.specs.Bytes.{bytes_of, spelling_of, HasSpelling}
use Rattle.x86_encode.specs.Parts.{parts_of, fields_from}
use Rattle.x86_encode.specs.Least.{AtMost, SpellsIt, Reaches, IsLeastOf}
use Rattle.x86_encode.proofs.Order.{AtMost-refl, AtMost-trans}

-- the result comes no later than y
abbrev pub Before : Option Code → List ℕ → Type 0
Before result y = IsSomeAnd result (λ b. AtMost (bytes_of b) y)

-- each of the first n rows whose least bytes spell the instruction has been reached
abbrev pub Reached : Inst → List Row → ℕ → Option Code → Type 0
Reached i rows n best =
    (j : ℕ) (r : Row) → j < n → slice_get rows j ≡ Some r → HasSpelling r (fields_from r.form (parts_of i)) →
    Spells (spelling_of r (fields_from r.form (parts_of i))) i → Before best (spelling_of r (fields_from r.form (parts_of i)))

pub sound_of : (i : Inst) (best other result : Option Code) → IsLeastOf best other result → IfSome best (SpellsIt i) → IfSome other (SpellsIt i) → IfSome result (SpellsIt i)
sound_of i None other result e h k = subst (λ r. IfSome r (SpellsIt i)) (sym e) k
sound_of i (Some a) None result e h k = subst (λ r. IfSome r (SpellsIt i)) (sym e) h
sound_of i (Some a) (Some b) result e h k =
    elim e [ inl p ↦ subst (λ r. IfSome r (SpellsIt i)) (sym p.0) h | inr p ↦ subst (λ r. IfSome r (SpellsIt i)) (sym p.0) k ]

-- what the best came before, the result does
pub before_best : (best other result : Option Code) (y : List ℕ) → IsLeastOf best other result → Before best y → Before result y
before_best None other result y e h = absurd h
before_best (Some a) None result y e h = subst (λ r. Before r y) (sym e) h
before_best (Some a) (Some b) result y e h =
    elim e [
      | inl p ↦ subst (λ r. Before r y) (sym p.0) h
      | inr p ↦ subst (λ r. Before r y) (sym p.0) (AtMost-trans (bytes_of b) (bytes_of a) y p.1 h)
    ]

-- and what the other has
pub before_other : (best other result : Option Code) (y : List ℕ) → IsLeastOf best other result → IsSomeAnd other (λ c. bytes_of c ≡ y) → Before result y
before_other best None result y e h = absurd h
before_other None (Some b) result y e h = subst (λ r. Before r y) (sym e) (subst (λ (z : List ℕ). AtMost (bytes_of b) z) h (AtMost-refl (bytes_of b)))
before_other (Some a) (Some b) result y e h =
    elim e [
      | inl p ↦ subst (λ r. Before r y) (sym p.0) (subst (λ (z : List ℕ). AtMost (bytes_of a) z) h p.1)
      | inr p ↦ subst (λ r. Before r y) (sym p.0) (subst (λ (z : List ℕ). AtMost (bytes_of b) z) h (AtMost-refl (bytes_of b)))
    ]

-- one row more
pub reached_more : (i : Inst) (rows : List Row) (n : ℕ) (d : Row) (best other result : Option Code) → n < length rows →
    IsLeastOf best other result → Reaches (get_or rows n d) i other → Reached i rows n best → Reached i rows (n + 1) result
reached_more i rows n d best other result lt e here before j r less g has spells = cases (nat_cases j n (omega arith))
  where
    nat_cases : (j n : ℕ) → j < suc n → (j ≡ n) ⊎ (j < n)
    nat_cases j n lt = elim (cases_lt j n) [ inl less ↦ inr less | inr le ↦ inl (omega arith) ]

    cases : (j ≡ n) ⊎ (j < n) → Before result (spelling_of r (fields_from r.form (parts_of i)))
    cases (inr less) = before_best best other result _ e (before j r less g has spells)
    cases (inl eq) =
        let k : Some r ≡ Some (get_or rows n d) = sym g ∙ ap (slice_get rows) eq ∙ slice_get-get_or rows n d lt in
        let is : get_or rows n d ≡ r = let x = k in cc in
        before_other best other result _ e (subst (λ (x : Row). Reaches x i other) is here has spells)
