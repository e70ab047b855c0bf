-- What holds of the flow of a range.
use Rattle.std.specs.Prelude.{◌≡◌, ℕ, ◌^◌, ◌≤◌, List, length, Option}
use Rattle.elf_image.specs.declared.image.Segment.{Segment}
use Rattle.elf_image.specs.declared.range.Range.{Range}
use Rattle.dream_words.specs.declared.outcome.Start.{Start}
use Rattle.dream_words.specs.declared.outcome.Answer.{Answer}
use Rattle.dream_words.specs.Agreement.{Agreeing}
use Rattle.dream_words.specs.Ranges.{AreAnswers}
use Rattle.x86_inst.specs.declared.Inst.{Inst}
use Rattle.machine.specs.Code.{Decodes}
use Rattle.machine.specs.Run.{IsStart, machine_run, scene_of}
use Rattle.micro_ir.specs.declared.flow.Flow.{Flow}
use Rattle.micro_ir.specs.Run.{flow_run}
use Rattle.micro_ir.specs.Rule.{IsGiven}
use Rattle.micro_ir.specs.Counts.{stores_of, calls_of}
use Rattle.graph_order.specs.Graph.{Digraph}
use Rattle.flow_graph.specs.Place.{HasNoPlace}
use Rattle.flow_graph.specs.Discovery.{IsDiscovered}
use Rattle.flow_pieces.specs.declared.piece.FlowPiece.{FlowPiece}
use Rattle.range_flow.specs.Pieces.{flow_blocks}
use Rattle.range_flow.specs.Flow.{AreCovering, IsFlowOf}
use Rattle.range_flow.specs.Plan.{IsPlan}
use Rattle.range_flow.specs.Counts.{HasCounts}

-- The flow of a plan agrees with the machine, from every start and with any answers.
abbrev pub PlannedFlowsAgree : Type 0
PlannedFlowsAgree = (m : List Segment) (r : Range) (decoded : ℕ → Option (Inst × ℕ)) (pieces : List FlowPiece) (f : Flow) (start : Start) (answers : List Answer)
    → IsPlan (scene_of m r decoded start) pieces → f.blocks ≡ flow_blocks pieces → f.entry ≡ 0 → IsStart m start → AreAnswers answers
    → Agreeing (machine_run m r decoded start answers) (flow_run f start answers)

-- The flow of a range agrees with the machine.
abbrev pub FlowsAgree : Type 0
FlowsAgree = (m : List Segment) (r : Range) (decoded : ℕ → Option (Inst × ℕ)) (places : List ℕ) (f : Flow) (start : Start) (answers : List Answer)
    → Decodes m r decoded → AreCovering m r places → IsFlowOf m r places f → IsStart m start → AreAnswers answers
    → Agreeing (machine_run m r decoded start answers) (flow_run f start answers)

-- The flow of at most 65,536 places may be given to what makes a tree of it.
abbrev pub FlowIsGiven : Type 0
FlowIsGiven = (m : List Segment) (r : Range) (places : List ℕ) (f : Flow) → AreCovering m r places → IsFlowOf m r places f → length places ≤ 2 ^ 16 → IsGiven f

-- The flow has as many stores and calls as the range has stores and asks.
abbrev pub FlowCounts : Type 0
FlowCounts = (m : List Segment) (r : Range) (places : List ℕ) (f : Flow) → IsFlowOf m r places f → HasCounts m r places (stores_of f.blocks) (calls_of f.blocks)

-- What discovery finds covers the range, and is few.
abbrev pub DiscoveredCover : Type 0
DiscoveredCover = (m : List Segment) (r : Range) (places : List ℕ) (g : Digraph) → IsDiscovered m r places g → HasNoPlace m r
    → AreCovering m r places × (length places ≤ 2 ^ 16)
