use Rattle.std.proofs.Common.{◌≡◌, ◌≤◌, ℕ, map, drop, option_copied}
use Rattle.run_parts.specs.Parts.{first_arm, group_of, rounds, repeat}
use Rattle.c_syntax.specs.Run.{Part}
use Rattle.c_run.specs.RunBy.{run_arm_by, run_group_by, run_all_by}
use Rattle.c_run.specs.State.{world_of, test_of}
use Rattle.c_run.proofs.run.+run.Given as goal

-- Some number of rounds, no fewer than turns are left, does from here what the whole loop does.
abbrev pub invariant-repeat-loop-turns : goal.invariant-repeat-loop-turns
invariant-repeat-loop-turns g l =
    (l.turns ≤ l.fn.turns)
    × ((rest : ℕ) × (l.turns ≤ rest)
    × (rounds rest (test_of (option_copied l.enter)) (run_all_by (g.H.Callees.does l.callees) l.body) (test_of (option_copied l.again)) l.turns (world_of (g.H.Callees.left l.callees) l.state)
    ≡ repeat (test_of (option_copied l.enter)) (run_all_by (g.H.Callees.does l.callees) l.body) (test_of (option_copied l.again)) l.fn.turns (world_of (g.H.Callees.left l.callees) l.fn.state)))

abbrev pub decreases-repeat-loop-turns : goal.decreases-repeat-loop-turns
decreases-repeat-loop-turns g l = l.turns

-- The statements that are left do what all of them do.
abbrev pub invariant-sequence-loop-s : goal.invariant-sequence-loop-s
invariant-sequence-loop-s g l =
    (l.turns ≤ l.fn.turns)
    × (run_all_by (g.H.Callees.does l.callees) (drop l.s-index l.body) l.turns (world_of (g.H.Callees.left l.callees) l.state)
    ≡ run_all_by (g.H.Callees.does l.callees) l.body l.fn.turns (world_of (g.H.Callees.left l.callees) l.fn.state))

-- The arms that are left do what all of them do.
abbrev pub invariant-choose-loop-arm : goal.invariant-choose-loop-arm
invariant-choose-loop-arm g l =
    (l.turns ≤ l.fn.turns)
    × ((last : Part) → first_arm (map (run_arm_by (g.H.Callees.does l.callees)) (drop l.arm-index l.arms)) last l.turns (world_of (g.H.Callees.left l.callees) l.state)
    ≡ first_arm (map (run_arm_by (g.H.Callees.does l.callees)) l.arms) last l.fn.turns (world_of (g.H.Callees.left l.callees) l.fn.state))

-- The groups that are left do what all of them do.
abbrev pub invariant-select-loop-group : goal.invariant-select-loop-group
invariant-select-loop-group g l =
    (l.turns ≤ l.fn.turns)
    × ((last : Part) → group_of (map (run_group_by (g.H.Callees.does l.callees)) (drop l.group-index l.groups)) last l.x l.turns (world_of (g.H.Callees.left l.callees) l.state)
    ≡ group_of (map (run_group_by (g.H.Callees.does l.callees)) l.groups) last l.x l.fn.turns (world_of (g.H.Callees.left l.callees) l.fn.state))
