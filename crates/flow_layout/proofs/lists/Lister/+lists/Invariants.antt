use Rattle.std.proofs.Common.{◌≡◌, ◌≤◌}
use Rattle.flow_layout.proofs.lists.Lister.+lists.Given as goal

-- the room falls
abbrev pub decreases-list : goal.decreases-list
decreases-list l = l.room

abbrev pub decreases-lay : goal.decreases-lay
decreases-lay l = l.room

abbrev pub decreases-item : goal.decreases-item
decreases-item l = l.room

abbrev pub decreases-out : goal.decreases-out
decreases-out l = l.room

abbrev pub decreases-arm : goal.decreases-arm
decreases-arm l = l.room

abbrev pub decreases-branch : goal.decreases-branch
decreases-branch l = l.room

abbrev pub decreases-arms : goal.decreases-arms
decreases-arms l = l.room

abbrev pub decreases-choose : goal.decreases-choose
decreases-choose l = l.room

-- the room is that of the call, and there is some
abbrev pub invariant-lay-loop-item : goal.invariant-lay-loop-item
invariant-lay-loop-item l = (l.room ≡ l.fn.room) × (1 ≤ l.room)
