use Rattle.std.proofs.Common.{[], ◌∷◌, ◌++◌, not, List, ℕ, Bool, ap, ◌∙◌, if◌then◌else◌}
use Rattle.run_parts.specs.Parts.{has}
use Rattle.read_statements.specs.Turns.{with_new}
use Rattle.read_statements.proofs.Different.{any_is}
use Rattle.read_statements.proofs.values.Values.add.Goals as goal

pub returns-clause-new : goal.returns-clause-new
returns-clause-new c =
    c.in_ok-is_new.ensures.added ∙ ap not (any_is c.self.inside.set.keys c.args.value) ∙ ap (λ (xs : List ℕ). not (has xs c.args.value)) c.self.view_is

pub returns-clause-added : goal.returns-clause-added
returns-clause-added c =
    c.in_ok-is_new.ensures.keys
    ∙ ap (λ (b : Bool). if b then c.self.inside.set.keys else c.self.inside.set.keys ++ c.args.value ∷ []) (any_is c.self.inside.set.keys c.args.value)
    ∙ ap (λ (xs : List ℕ). with_new xs c.args.value) c.self.view_is
