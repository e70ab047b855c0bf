use Rattle.guarded.specs.Uses.{names_of, tree_uses}
use Rattle.guarded.specs.Numbers.{locals_of}
use Rattle.guarded.specs.Counts.{each_loop, each_test, each_ext, each_store}
use Rattle.c_emit.specs.Emitted.{new_name}
use Rattle.c_emit.proofs.Counting.{printed_counted}
use Rattle.c_emit.proofs.laws.emit_keeps_counts.Goals as goal

pub returns : goal.returns
returns c = record {
  loops = λ t address. printed_counted each_loop (new_name (locals_of (names_of (tree_uses t)))) t;
  tests = λ t address. printed_counted each_test (new_name (locals_of (names_of (tree_uses t)))) t;
  calls = λ t address. printed_counted each_ext (new_name (locals_of (names_of (tree_uses t)))) t;
  stores = λ t address. printed_counted each_store (new_name (locals_of (names_of (tree_uses t)))) t;
}
