use Rattle.std.proofs.Common.{◌≡◌, Bool, true, false, not, ap, sym, ◌∙◌}
use Rattle.std.specs.Prelude.{is_none}
use Rattle.x86_model.proofs.Strays.{unknown_condition}
use Rattle.x86_model.proofs.undefined.condition_is_undefined.Goals as goal

turned : (t b : Bool) → t ≡ not b → b ≡ not t
turned t true e = ap not (sym e)
turned t false e = ap not (sym e)

pub returns : goal.returns
returns c =
    turned _ c.is_none.result c.is_none.ensures ∙ ap is_none c.condition.ensures ∙ unknown_condition c.args.n.0 c.args.f.now
