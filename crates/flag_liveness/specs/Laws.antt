-- What holds of every flow and sets of live names.
use Rattle.std.specs.Prelude.{ℕ}
use Rattle.micro_ir.specs.declared.flow.Flow.{Flow}
use Rattle.micro_ir.specs.Rule.{IsGiven}
use Rattle.flow_passes.specs.Uses.{NameSet}
use Rattle.flow_passes.specs.Keeps.{Keeps}
use Rattle.flag_liveness.specs.Before.{AreLive}
use Rattle.flag_liveness.specs.Clean.{cleaned_flow}

-- A flow that is given, without what nobody sees by closed sets of live names, is given too, and keeps the flow.
abbrev pub CleaningKeeps : Type 0
CleaningKeeps = (f : Flow) (live : ℕ → NameSet) → IsGiven f → AreLive f live → IsGiven (cleaned_flow live f) × Keeps f (cleaned_flow live f)
