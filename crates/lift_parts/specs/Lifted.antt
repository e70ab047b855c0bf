-- When blocks are those of an instruction: they have its effect, are never stuck, and lead to its successors.
use Rattle.std.specs.Prelude.{◌≡◌, ℕ, ◌+◌, ◌<◌, nat_lt, Bool, List, [], ◌∷◌, length, slice_get, Some, IsTrue, MatchBool, if◌then◌else◌}
use Rattle.dream_words.specs.declared.machine.Flags.{Flags}
use Rattle.x86_inst.specs.declared.Inst.{Inst}
use Rattle.x86_inst.specs.declared.Inst.TheVariants as i
use Rattle.x86_inst.specs.declared.Rep.{Rep}
use Rattle.x86_inst.specs.declared.Rep.TheVariants as rep
use Rattle.x86_model.specs.Machine.{Onward, At, Finished, Strays, Blank, State, Ending, ending_outcome}
use Rattle.x86_model.specs.Leads.{instruction_does}
use Rattle.x86_model.specs.Successors.{successors_of, stores, asks}
use Rattle.x86_model.specs.WideRows.{repeats}
use Rattle.run_parts.specs.Steps.{To, End, Nowhere}
use Rattle.run_parts.specs.World.{World}
use Rattle.micro_ir.specs.declared.flow.Block.{Block}
use Rattle.micro_ir.specs.declared.flow.End.{End as BlockEnd}
use Rattle.micro_ir.specs.declared.flow.End.TheVariants as end
use Rattle.micro_ir.specs.Run.{Arrive, enter}
use Rattle.micro_ir.specs.World.{IsWorld}
use Rattle.micro_ir.specs.Rule.{are_flow_blocks}
use Rattle.micro_ir.specs.Counts.{stores_of, calls_of}
use Rattle.lift_parts.specs.Stands.{FlagsStand, Stands, state_in}

-- how many blocks an instruction has: a repeated string instruction two, the test of ECX and the round
abbrev pub block_count : Inst → ℕ
block_count (i.Str op size r s) = if repeats r then 2 else 1
block_count _ = 1

-- Where a block led, and one more block where it led to one of the instruction's own.
abbrev pub through : ℕ → List Block → Arrive → Arrive
through b blocks (To n w) = if nat_lt n b then enter (slice_get blocks n) w else To n w
through b blocks (End o) = End o
through b blocks Nowhere = Nowhere

-- The blocks led where the step leads: node b + j stands for the j-th successor. A step that strays frees them.
abbrev pub Matches : ℕ → List ℕ → Onward State Ending → Arrive → Type 0
Matches b succ (At a m) (To n w) = (j : ℕ) × (n ≡ b + j) × (slice_get succ j ≡ Some a) × Stands m w
Matches b succ (At a m) (End o) = ⊥
Matches b succ (At a m) Nowhere = ⊥
Matches b succ (Finished e) (To n w) = ⊥
Matches b succ (Finished e) (End o) = ending_outcome e ≡ o
Matches b succ (Finished e) Nowhere = ⊥
Matches b succ Strays r = Unit {0}
Matches b succ Blank r = ⊥

-- a block led to an own node or a successor, in a world, or to the run's end
abbrev pub Stays : ℕ → Arrive → Type 0
Stays nodes (To n w) = (n < nodes) × IsWorld w
Stays nodes (End o) = Unit {0}
Stays nodes Nowhere = ⊥

-- a Branch between two nodes
abbrev pub IsBranch : ℕ → ℕ → BlockEnd → Type 0
IsBranch a b (end.Branch t x y) = (x ≡ a) × (y ≡ b)
IsBranch a b (end.Go n) = ⊥
IsBranch a b (end.Switch e cases) = ⊥
IsBranch a b end.Return = ⊥
IsBranch a b (end.Leave e) = ⊥

-- neither a Branch nor a Switch
abbrev pub IsPlain : BlockEnd → Type 0
IsPlain (end.Go n) = Unit {0}
IsPlain end.Return = Unit {0}
IsPlain (end.Leave e) = Unit {0}
IsPlain (end.Branch t x y) = ⊥
IsPlain (end.Switch e cases) = ⊥

-- one block that ends so
abbrev pub OneEnds : (BlockEnd → Type 0) → List Block → Type 0
OneEnds P [] = ⊥
OneEnds P (b ∷ []) = P b.end
OneEnds P (a ∷ b ∷ rest) = ⊥

-- two blocks that end so
abbrev pub TwoEnd : (BlockEnd → Type 0) → (BlockEnd → Type 0) → List Block → Type 0
TwoEnd P Q [] = ⊥
TwoEnd P Q (a ∷ []) = ⊥
TwoEnd P Q (a ∷ b ∷ []) = P a.end × Q b.end
TwoEnd P Q (a ∷ b ∷ c ∷ rest) = ⊥

-- The end of a round of a repeated string instruction: REP stands again, REPE and REPNE stand again or go on.
abbrev pub EndsRound : Rep → BlockEnd → Type 0
EndsRound rep.No e = ⊥
EndsRound rep.Rep e = e ≡ end.Go 2
EndsRound rep.Repe e = IsBranch 2 3 e
EndsRound rep.Repne e = IsBranch 2 3 e

-- The ends of an instruction's blocks: a branch goes to its target or on; the test of a repeated string instruction goes to
-- the round or on; no other end is a Branch or a Switch.
abbrev pub EndAs : Inst → List Block → Type 0
EndAs (i.Jcc c distance) blocks = OneEnds (IsBranch 1 2) blocks
EndAs (i.Loop distance) blocks = OneEnds (IsBranch 1 2) blocks
EndAs (i.Jecxz distance) blocks = OneEnds (IsBranch 1 2) blocks
EndAs (i.Str op size r s) blocks = MatchBool (repeats r) (TwoEnd (IsBranch 1 3) (EndsRound r) blocks) (OneEnds IsPlain blocks)
EndAs _ blocks = OneEnds IsPlain blocks

-- each block stands for code at the address
abbrev pub AllAt : ℕ → List Block → Type 0
AllAt at [] = Unit {0}
AllAt at (b ∷ bs) = (b.at ≡ at) × AllAt at bs

-- 1 where it holds, else 0
abbrev pub once : Bool → ℕ
once b = if b then 1 else 0

-- The blocks of an instruction at an address, with the next one.
pub record AreBlocksOf (x : Inst) (at next : ℕ) (blocks : List Block) : Type 0 where
  pub count : length blocks ≡ block_count x
  -- from every world that stands for a state, they do what the instruction's step does in that state
  pub effect : (w : World) (f : Flags) → IsWorld w → FlagsStand f w.names
      → Matches (block_count x) (successors_of x at next) (instruction_does x at next (state_in w f)) (through (block_count x) blocks (enter (slice_get blocks 0) w))
  -- from every world, whether the step strays or not, none is stuck and each leads to a node of its own or a successor
  pub steady : (n : ℕ) (w : World) → n < block_count x → IsWorld w
      → Stays (block_count x + length (successors_of x at next)) (enter (slice_get blocks n) w)
  -- they keep the rule of flows
  pub rule : IsTrue (are_flow_blocks blocks)
  pub stores : stores_of blocks ≡ once (stores x)
  pub calls : calls_of blocks ≡ once (asks x)
  pub ends : EndAs x blocks
  pub places : AllAt at blocks
