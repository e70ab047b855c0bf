use Rattle.std.proofs.Common.{◌||◌, map, drop}
use Rattle.std.specs.List.{list_any}
use Rattle.flag_liveness.specs.Rows.{row_names, SameRow}
use Rattle.flag_liveness.specs.Lives.{held_in}
use Rattle.flag_liveness.proofs.live.Live.any_row.Given as goal

abbrev pub invariant-loop-c : goal.invariant-loop-c
invariant-loop-c l = SameRow (λ n. row_names l.row n || list_any (λ k. held_in l.self k n) (map (λ c. c.to) (drop l.c-index l.cases))) (λ n. list_any (λ k. held_in l.self k n) (map (λ c. c.to) l.cases))
