-- All that holds of the function of a tree.
use Rattle.std.proofs.Common.{ℕ, ◌^◌, ◌<◌}
use Rattle.guarded.specs.declared.tree.Tree.{Tree}
use Rattle.guarded.specs.Counts.{each_loop, each_test, each_ext, each_store}
use Rattle.c_emit.specs.Emitted.{emitted}
use Rattle.c_emit.specs.Laws.{renumbering, IsTreeOf}
use Rattle.c_emit.proofs.Local.{emit_keeps}
use Rattle.c_emit.proofs.Counting.{printed_counted}
use Rattle.c_emit.proofs.Naming.{printed_moved}
use Rattle.c_emit.proofs.Declaring.{emit_is_formed, emit_declares}
use Rattle.c_emit.proofs.LoosePairs.{emit_adds_none}

pub is_tree_of : (t : Tree) (address : ℕ) → address < 2 ^ 32 → IsTreeOf t (emitted t address)
is_tree_of t address a = record {
  runs = emit_keeps t address;
  formed = emit_is_formed t address a;
  loops = printed_counted each_loop (renumbering t) t;
  tests = printed_counted each_test (renumbering t) t;
  calls = printed_counted each_ext (renumbering t) t;
  stores = printed_counted each_store (renumbering t) t;
  selectors = emit_declares.selectors_count t address;
  names = printed_moved (renumbering t) t;
  loose = emit_adds_none t address;
}
