-- What holds of the plain tree, and of the straight one.
use Rattle.std.proofs.Common.{◌≡◌, Option, Some, None, sym}
use Rattle.std.specs.Prelude.{IfSome}
use Rattle.micro_ir.specs.declared.flow.Flow.{Flow}
use Rattle.micro_ir.specs.Rule.{IsGiven}
use Rattle.regions.specs.Plain.{plain_tree}
use Rattle.regions.specs.Straight.{straight_tree}
use Rattle.regions.specs.Laws.{IsPlainOf, IsStraightOf}
use Rattle.guarded.specs.declared.tree.Tree.{Tree}
use Rattle.regions.proofs.LineFormed.{is_straight_of}
use Rattle.regions.proofs.PlainRuns.{plain_follows}
use Rattle.regions.proofs.PlainFormed.{plain_allowed}
use Rattle.regions.proofs.Counted.{plain_deep, plain_loops, plain_tests, plain_calls, plain_stores}
use Rattle.regions.proofs.Named.{plain_named, plain_selectors}

pub is_plain_of : (f : Flow) → IsGiven f → IsPlainOf f (plain_tree f)
is_plain_of f g = record {
  formed = record { allowed = plain_allowed f g; names = plain_named f g.rule; depth = plain_deep f };
  follows = plain_follows f g.rule;
  loops = plain_loops f;
  selectors = plain_selectors f g.rule;
  tests = plain_tests f;
  calls = plain_calls f;
  stores = plain_stores f;
}

-- of the straight tree that there may be
pub is_straight : (f : Flow) → IsGiven f → (o : Option Tree) → o ≡ straight_tree f → IfSome o (λ t. IsStraightOf f t)
is_straight f g None e = tt
is_straight f g (Some t) e = is_straight_of f t g.rule (sym e)
