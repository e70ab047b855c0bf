-- What holds of flows that are changed.
use Rattle.std.specs.Prelude.{◌≡◌, ◌⊎◌, ℕ, List, Contains, IsTrue}
use Rattle.dream_words.specs.declared.machine.Name.{Name}
use Rattle.dream_words.specs.declared.outcome.Start.{Start}
use Rattle.dream_words.specs.declared.outcome.Answer.{Answer}
use Rattle.dream_words.specs.declared.outcome.Outcome.{Outcome}
use Rattle.dream_words.specs.Agreement.{Agreeing}
use Rattle.run_parts.specs.World.{World, Names}
use Rattle.c_syntax.specs.declared.syntax.CExpr.{CExpr}
use Rattle.c_syntax.specs.declared.syntax.CCond.{CCond}
use Rattle.c_syntax.specs.Value.{word_of, truth_of}
use Rattle.micro_ir.specs.declared.flow.Stmt.{Stmt}
use Rattle.micro_ir.specs.declared.flow.End.{End as BlockEnd}
use Rattle.micro_ir.specs.declared.flow.Flow.{Flow}
use Rattle.micro_ir.specs.Checked.{nodes_of}
use Rattle.micro_ir.specs.Rule.{KeepsRule, is_flow_stmt}
use Rattle.micro_ir.specs.Run.{stmt_does, end_leads, flow_run}
use Rattle.micro_ir.specs.World.{IsWorld}
use Rattle.micro_ir.specs.Counts.{stores_of, calls_of}
use Rattle.flow_passes.specs.Uses.{NameSet, word_reads, cond_reads, stmt_reads, stmt_sets, end_reads}
use Rattle.flow_passes.specs.Alike.{Alike, DoesAlike, ArrivesAlike, GoAlike}
use Rattle.flow_passes.specs.Keeps.{InRange, Keeps, KeepsRuns, JoinsRuns}

-- each name of the first set is in the second
abbrev pub Within : NameSet → NameSet → Type 0
Within a b = (n : Name) → IsTrue (a n) → IsTrue (b n)

-- names stand for the same words, where they are seen
abbrev pub SameNames : NameSet → Names → Names → Type 0
SameNames seen v u = (n : Name) → IsTrue (seen n) → u n ≡ v n

-- The names that a Word reads decide its value, and those of a Cond its truth.
pub record ReadNamesDecide : Type 0 where
  pub value : (e : CExpr) (v u : Names) → SameNames (word_reads e) v u → word_of e u ≡ word_of e v
  pub truth : (t : CCond) (v u : Names) → SameNames (cond_reads t) v u → truth_of t u ≡ truth_of t v

-- A statement does alike from worlds that are alike in what it reads: after it is seen what it sets, and what was seen before.
abbrev pub StatementsSee : Type 0
StatementsSee = (s : Stmt) (before after : NameSet) (w u : World) → IsTrue (is_flow_stmt s) → IsWorld w → IsWorld u → Within (stmt_reads s) before
    → ((n : Name) → IsTrue (after n) → IsTrue (stmt_sets s n) ⊎ IsTrue (before n)) → Alike before w u → DoesAlike after (stmt_does s w) (stmt_does s u)

-- An end leads alike from worlds that are alike in what it reads, and in what is seen where it leads.
abbrev pub EndsSee : Type 0
EndsSee = (e : BlockEnd) (before : NameSet) (seen : ℕ → NameSet) (w u : World) → Within (end_reads e) before
    → ((n : ℕ) → Contains (nodes_of e) n → Within (seen n) before) → Alike before w u → ArrivesAlike seen (end_leads e w) (end_leads e u)

-- Blocks that go alike keep the runs.
abbrev pub GoingAlikeKeepsRuns : Type 0
GoingAlikeKeepsRuns = (old new : Flow) (seen : ℕ → NameSet) → KeepsRule old → KeepsRule new → new.entry ≡ old.entry → GoAlike seen old.blocks new.blocks → KeepsRuns old new

-- What keeps a flow that keeps another keeps that one, and a flow keeps itself.
pub record KeepingComposes : Type 0 where
  pub same : (f : Flow) → Keeps f f
  pub twice : (f g h : Flow) → Keeps f g → Keeps g h → Keeps f h

-- A flow that keeps another has its stores and calls.
abbrev pub KeepingCounts : Type 0
KeepingCounts = (f g : Flow) → Keeps f g → (stores_of g.blocks ≡ stores_of f.blocks) × (calls_of g.blocks ≡ calls_of f.blocks)

-- What a flow agrees with, a flow agrees with that keeps it, or that joins its runs.
pub record ChangedAgree : Type 0 where
  pub kept : (machine : ℕ → Outcome) (f g : Flow) (start : Start) (answers : List Answer) → InRange start answers → KeepsRuns f g
      → Agreeing machine (flow_run f start answers) → Agreeing machine (flow_run g start answers)
  pub joined : (machine : ℕ → Outcome) (f g : Flow) (start : Start) (answers : List Answer) → JoinsRuns f g
      → Agreeing machine (flow_run f start answers) → Agreeing machine (flow_run g start answers)
