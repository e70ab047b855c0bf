use Rattle.std.proofs.Common.{◌≡◌, ◌-◌, length}
use Rattle.regions.specs.Straight.{line, behind}
use Rattle.regions.proofs.one_line.line.Given as goal

abbrev pub invariant-loop-count : goal.invariant-loop-count
invariant-loop-count l = behind l.trees (line l.blocks (length l.blocks - l._count) l.node) ≡ line l.blocks (length l.blocks) l.fn.entry
