-- What the tree of a flow is, form by form.
use Rattle.std.specs.Prelude.{◌⊎◌, ℕ, Bool}
use Rattle.micro_ir.specs.declared.flow.Flow.{Flow}
use Rattle.guarded.specs.declared.tree.Tree.{Tree}
use Rattle.regions.specs.Laws.{IsPlainOf, IsStraightOf}
use Rattle.flow_plans.specs.Laws.{IsTreeOf}
use Rattle.dream_engine.specs.declared.form.Form.{Form}
use Rattle.dream_engine.specs.declared.form.Form.TheVariants.{Structured, Plain}

-- The tree of a plan: for some heads it makes no more turns than heads are entered.
abbrev pub IsPlannedOf : Flow → Tree → Type 0
IsPlannedOf f t = (head : ℕ → Bool) × IsTreeOf f head t

abbrev pub IsTreeIn : Form → Flow → Tree → Type 0
IsTreeIn Plain f t = IsPlainOf f t
IsTreeIn Structured f t = IsStraightOf f t ⊎ (IsPlannedOf f t ⊎ IsPlainOf f t)
