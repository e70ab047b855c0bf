-- What a reader expects of flows.
use Rattle.std.specs.Prelude.{◌≡◌, ℕ, ◌+◌, ◌^◌, ◌<◌, List, Option, Some, None, map, IsTrue}
use Rattle.dream_words.specs.declared.machine.Name.{Name}
use Rattle.dream_words.specs.declared.outcome.Start.{Start}
use Rattle.dream_words.specs.declared.outcome.Answer.{Answer}
use Rattle.dream_words.specs.declared.outcome.Call.{Call}
use Rattle.dream_words.specs.declared.outcome.Outcome.{Outcome}
use Rattle.dream_words.specs.Ranges.{AreWords, AreBytes, AreAnswers}
use Rattle.run_parts.specs.Laws.{Begins, OutcomeShows, DidShows}
use Rattle.run_parts.specs.Steps.{Next, Halt, Jam, To, End, Nowhere}
use Rattle.run_parts.specs.World.{World, Names, start_world}
use Rattle.run_parts.specs.Effects.{Doing}
use Rattle.c_syntax.specs.declared.syntax.CExpr.{CExpr}
use Rattle.c_syntax.specs.declared.syntax.CCond.{CCond}
use Rattle.c_syntax.specs.Value.{word_of, truth_of}
use Rattle.c_syntax.specs.RunLaws.{Continues}
use Rattle.c_syntax.specs.Run.{word_in}
use Rattle.micro_ir.specs.declared.flow.Case.{Case}
use Rattle.micro_ir.specs.declared.flow.Stmt.{Stmt}
use Rattle.micro_ir.specs.declared.flow.End.{End as BlockEnd}
use Rattle.micro_ir.specs.declared.flow.End.TheVariants as end
use Rattle.micro_ir.specs.declared.flow.Block.{Block}
use Rattle.micro_ir.specs.declared.flow.Flow.{Flow}
use Rattle.micro_ir.specs.Run.{Arrive, stmt_does, block_leads, onward, walk, flow_run}
use Rattle.micro_ir.specs.Rule.{is_flow_name, has_flow_names, cond_has_flow_names, is_flow_word, is_flow_stmt, is_flow_block, are_flow_blocks}
use Rattle.micro_ir.specs.World.{IsWorld}

-- ---- calls are only added

-- the calls where a block leads begin with these; what leads nowhere tells none
abbrev pub ArriveShows : List Call → Arrive → Type 0
ArriveShows c (To n w) = Begins c w.calls
ArriveShows c (End o) = OutcomeShows c o
ArriveShows c Nowhere = Unit {0}

-- Statements, blocks and runs only add calls.
pub record OnlyAddCalls : Type 0 where
  pub stmt_adds : (s : Stmt) (w : World) → DidShows w.calls (stmt_does s w)
  pub block_adds : (b : Block) (w : World) → ArriveShows w.calls (block_leads b w)
  pub walk_adds : (blocks : List Block) (k n : ℕ) (w : World) → ArriveShows w.calls (walk blocks k n w)

-- ---- more blocks

-- A run of more blocks is the run of the first of them, and then of the others. So its end stays, it has one end, it
-- goes on only before its end, and the calls of a run that goes on begin those of each longer one.
pub record MoreBlocksContinue : Type 0 where
  pub more_blocks : (blocks : List Block) (j k n : ℕ) (w : World) → walk blocks (j + k) n w ≡ onward (walk blocks j n w) (walk blocks k)
  pub end_stays : (blocks : List Block) (j k n : ℕ) (w : World) (o : Outcome) → walk blocks j n w ≡ End o → walk blocks (j + k) n w ≡ End o
  pub nowhere_stays : (blocks : List Block) (j k n : ℕ) (w : World) → walk blocks j n w ≡ Nowhere → walk blocks (j + k) n w ≡ Nowhere
  pub one_end : (blocks : List Block) (j k n : ℕ) (w : World) (o p : Outcome) → walk blocks j n w ≡ End o → walk blocks k n w ≡ End p → o ≡ p
  pub goes_before : (blocks : List Block) (j k n m : ℕ) (w u : World) (o : Outcome) → walk blocks j n w ≡ To m u → walk blocks k n w ≡ End o → j < k
  pub calls_later : (blocks : List Block) (j k n m : ℕ) (w u : World) → walk blocks j n w ≡ To m u → ArriveShows u.calls (walk blocks (j + k) n w)
  pub run_continues : (f : Flow) (start : Start) (answers : List Answer) (j k : ℕ) → Continues (flow_run f start answers j) (flow_run f start answers (j + k))

-- ---- other nodes

-- a case, and an end, whose nodes are named anew
abbrev pub moved_case : (ℕ → ℕ) → Case → Case
moved_case f c = record { value = c.value; to = f c.to }

abbrev pub moved_end : (ℕ → ℕ) → BlockEnd → BlockEnd
moved_end f (end.Go a) = end.Go (f a)
moved_end f (end.Branch t a b) = end.Branch t (f a) (f b)
moved_end f (end.Switch e cases) = end.Switch e (map (moved_case f) cases)
moved_end f end.Return = end.Return
moved_end f (end.Leave e) = end.Leave e

-- where a block leads whose nodes are named anew
abbrev pub relocate : (ℕ → ℕ) → Arrive → Arrive
relocate f (To n w) = To (f n) w
relocate f (End o) = End o
relocate f Nowhere = Nowhere

-- A block with the same statements and with the nodes of its end named anew does the same, and leads to the new nodes.
abbrev pub BlocksMove : Type 0
BlocksMove = (f : ℕ → ℕ) (a b : Block) (w : World) → b.stmts ≡ a.stmts → b.end ≡ moved_end f a.end → block_leads b w ≡ relocate f (block_leads a w)

-- ---- names

-- the names that a flow may have stand for the same words
abbrev pub SameFlowNames : Names → Names → Type 0
SameFlowNames v u = (n : Name) → IsTrue (is_flow_name n) → v n ≡ u n

-- The names that a flow may have decide the value of each of its Words, and the truth of each of its Conds.
pub record FlowNamesDecide : Type 0 where
  pub same_value : (e : CExpr) (v u : Names) → IsTrue (has_flow_names e) → SameFlowNames v u → word_of e v ≡ word_of e u
  pub same_truth : (t : CCond) (v u : Names) → IsTrue (cond_has_flow_names t) → SameFlowNames v u → truth_of t v ≡ truth_of t u

-- ---- worlds

-- a value, where there is one, is a word
abbrev pub IsWordOrStuck : Option ℕ → Type 0
IsWordOrStuck None = Unit {0}
IsWordOrStuck (Some x) = x < 2 ^ 32

-- what is done leads to a world, where it leads on
abbrev pub DidStays : Doing → Type 0
DidStays (Next w) = IsWorld w
DidStays (Halt o) = Unit {0}
DidStays Jam = Unit {0}

-- the same of a block
abbrev pub ArriveStays : Arrive → Type 0
ArriveStays (To n w) = IsWorld w
ArriveStays (End o) = Unit {0}
ArriveStays Nowhere = Unit {0}

-- A start in its range is a world. From a world the Words of a flow have words as values, and its statements, its blocks
-- and its runs lead to worlds, whatever is answered.
pub record WorldsStay : Type 0 where
  pub start_is : (start : Start) (answers : List Answer) → AreWords start.regs → start.fs < 2 ^ 32 → start.gs < 2 ^ 32 → AreBytes start.mem → AreAnswers answers → IsWorld (start_world start answers)
  pub value_is : (e : CExpr) (w : World) → IsTrue (is_flow_word e) → IsWorld w → IsWordOrStuck (word_in e w)
  pub stmt_stays : (s : Stmt) (w : World) → IsTrue (is_flow_stmt s) → IsWorld w → DidStays (stmt_does s w)
  pub block_stays : (b : Block) (w : World) → IsTrue (is_flow_block b) → IsWorld w → ArriveStays (block_leads b w)
  pub walk_stays : (blocks : List Block) (k n : ℕ) (w : World) → IsTrue (are_flow_blocks blocks) → IsWorld w → ArriveStays (walk blocks k n w)
