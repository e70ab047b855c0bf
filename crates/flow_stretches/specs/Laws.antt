-- What holds of a flow whose blocks are those of another one, joined.
use Rattle.micro_ir.specs.declared.flow.Flow.{Flow}
use Rattle.micro_ir.specs.Rule.{IsGiven}
use Rattle.flow_passes.specs.Keeps.{JoinsRuns}
use Rattle.flow_stretches.specs.Joined.{IsJoined}

-- Its runs are those of the other one.
abbrev pub JoinedRuns : Type 0
JoinedRuns = (f g : Flow) → IsGiven f → IsJoined f g → JoinsRuns f g

-- It may be given.
abbrev pub JoinedIsGiven : Type 0
JoinedIsGiven = (f g : Flow) → IsGiven f → IsJoined f g → IsGiven g
