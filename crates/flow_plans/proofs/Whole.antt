-- What holds of the tree of a plan that is let through.
use Rattle.std.proofs.Common.{◌≡◌, ℕ, nat_le, Bool, true, false, List, sym, subst}
use Rattle.dream_words.specs.declared.machine.Name.{Name}
use Rattle.micro_ir.specs.declared.flow.Flow.{Flow}
use Rattle.micro_ir.specs.Rule.{KeepsRule}
use Rattle.guarded.specs.declared.tree.Tree.{Tree}
use Rattle.regions.proofs.Standing.{le_from}
use Rattle.flow_plans.specs.declared.plan.Plan.{Plan}
use Rattle.flow_plans.specs.Emitted.{emitted}
use Rattle.flow_plans.specs.Fitting.{fits, nest}
use Rattle.flow_plans.specs.Laws.{passes, IsTreeOf}
use Rattle.flow_plans.proofs.Following.{pass_follows}
use Rattle.flow_plans.proofs.Turning.{plans_turn}
use Rattle.flow_plans.proofs.Forming.{plans_form}

pub is_tree : (f : Flow) (head : ℕ → Bool) (vs : List Name) (p : Plan) (t : Tree) → KeepsRule f → fits p false ≡ true → nat_le (nest p) 512 ≡ true → passes f head vs p ≡ true
    → t ≡ emitted f.blocks p → IsTreeOf f head t
is_tree f head vs p t rule fit nests pass e = subst (IsTreeOf f head) (sym e) (record {
  formed = plans_form f p rule fit (le_from (nest p) 512 nests);
  follows = pass_follows f head vs p rule pass;
  turns = plans_turn f head vs p rule pass;
})
