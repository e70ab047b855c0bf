use Rattle.std.proofs.Common.{◌≡◌, ◌++◌, drop}
use Rattle.flow_plans.specs.Checked.{case_ways}
use Rattle.flow_plans.proofs.check.case_ways.Given as goal

abbrev pub invariant-loop-c : goal.invariant-loop-c
invariant-loop-c l = l.all ++ case_ways l.name l.known (drop l.c-index l.cases) ≡ case_ways l.name l.known l.cases
