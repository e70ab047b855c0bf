use Rattle.std.proofs.Common.{take}
use Rattle.flow_stretches.proofs.Coming.{AreNoted}
use Rattle.flow_stretches.proofs.comers.note.Given as goal

abbrev pub invariant-loop-target : goal.invariant-loop-target
invariant-loop-target l = AreNoted l.k (take l.target-index l.targets) l.initial.comers l.comers
