use Rattle.std.proofs.Common.{◌≡◌, map, drop}
use Rattle.std.specs.List.{list_any}
use Rattle.flag_liveness.specs.Lives.{live_of}
use Rattle.expr_fold.proofs.ends.is_live_in.Given as goal

abbrev pub invariant-loop-c : goal.invariant-loop-c
invariant-loop-c l = list_any (λ k. live_of l.live k l.n) (map (λ c. c.to) (drop l.c-index l.cases)) ≡ list_any (λ k. live_of l.live k l.n) (map (λ c. c.to) l.cases)
