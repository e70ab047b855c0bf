use Rattle.std.proofs.Common.{◌≡◌, ◌+◌, ◌<◌, ◌^◌, drop, map}
use Rattle.guarded.specs.Counts.{total, c_stmt_count, c_arm_count, c_group_count}
use Rattle.drill_lines.specs.Statements.{at_most, weights_of}
use Rattle.drill_lines.proofs.statements.+statements.Given as goal

-- the statements so far are counted
abbrev pub invariant-count_all-loop-s : goal.invariant-count_all-loop-s
invariant-count_all-loop-s l = record {
  counted : at_most (l.count + total (map (c_stmt_count (weights_of l.kind)) (drop l.s-index l.stmts))) ≡ at_most (total (map (c_stmt_count (weights_of l.kind)) l.stmts));
  small : l.count < 2 ^ 64;
}

-- the arms so far
abbrev pub invariant-count_arms-loop-arm : goal.invariant-count_arms-loop-arm
invariant-count_arms-loop-arm l = record {
  counted : at_most (l.count + total (map (c_arm_count (weights_of l.kind)) (drop l.arm-index l.arms))) ≡ at_most (total (map (c_arm_count (weights_of l.kind)) l.arms));
  small : l.count < 2 ^ 64;
}

-- the groups so far
abbrev pub invariant-count_groups-loop-group : goal.invariant-count_groups-loop-group
invariant-count_groups-loop-group l = record {
  counted : at_most (l.count + total (map (c_group_count (weights_of l.kind)) (drop l.group-index l.groups))) ≡ at_most (total (map (c_group_count (weights_of l.kind)) l.groups));
  small : l.count < 2 ^ 64;
}
