-- The nodes of cases.
use Rattle.std.proofs.Common.{◌≡◌, ℕ, ◌+◌, ◌<◌, Bool, true, false, ◌||◌, List, [], ◌∷◌, map, length, get_or, drop, refl, sym, ap, ◌∙◌, add-one, drop-cons}
use Rattle.std.specs.List.{list_any}
use Rattle.micro_ir.specs.declared.flow.Case.{Case}

-- what is so of the node of some case
pub any_case : (p : ℕ → Bool) (cases : List Case) → list_any p (map (λ (c : Case). c.to) cases) ≡ list_any (λ (c : Case). p c.to) cases
any_case p [] = refl
any_case p (c ∷ cases) = ap (λ b. p c.to || b) (any_case p cases)

or_turn : (r h t s whole : Bool) → s ≡ (r || h) → (r || (h || t)) ≡ whole → (s || t) ≡ whole
or_turn true h t s whole p q = ap (λ b. b || t) p ∙ q
or_turn false h t s whole p q = ap (λ b. b || t) p ∙ q

-- what is so of the node of one of the cases that are left
pub rest_step : (p : ℕ → Bool) (i : ℕ) (cases : List Case) (d : Case) (r s whole : Bool) → i < length cases → s ≡ (r || p (get_or cases i d).to)
    → (r || list_any p (map (λ (c : Case). c.to) (drop i cases))) ≡ whole → (s || list_any p (map (λ (c : Case). c.to) (drop (i + 1) cases))) ≡ whole
rest_step p i cases d r s whole l e h =
    or_turn r (p (get_or cases i d).to) _ s whole e
    (ap (λ t. r || (p (get_or cases i d).to || list_any p (map (λ (c : Case). c.to) (drop t cases)))) (add-one i)
    ∙ ap (λ t. r || list_any p (map (λ (c : Case). c.to) t)) (sym (drop-cons cases i d l)) ∙ h)
