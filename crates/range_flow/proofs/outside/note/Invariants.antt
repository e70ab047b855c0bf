use Rattle.std.proofs.Common.{◌≡◌, ℕ, ◌+◌, ◌≤◌, ◌||◌, ◌&&◌, nat_eq, not, length, drop}
use Rattle.std.specs.List.{list_any}
use Rattle.indexmap.specs.IndexSet.{contains}
use Rattle.elf_image.specs.Range.{is_inside}
use Rattle.range_flow.proofs.outside.note.Given as goal

abbrev pub invariant-loop-address : goal.invariant-loop-address
invariant-loop-address l =
    ((a : ℕ) → (contains nat_eq l.outside a || not (is_inside l.r a) && list_any (nat_eq a) (drop l.address-index l.addresses))
    ≡ (contains nat_eq l.fn.outside a || not (is_inside l.r a) && list_any (nat_eq a) l.addresses))
    × (length l.outside.keys ≤ length l.fn.outside.keys + l.address-index)
