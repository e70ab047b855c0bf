-- When blocks are those of a window.
use Rattle.std.specs.Prelude.{◌≡◌, ◌⊎◌, ℕ, zero, suc, ◌+◌, List, [], ◌∷◌, ◌++◌, length, map, Option, IsTrue}
use Rattle.elf_image.specs.declared.image.Segment.{Segment}
use Rattle.elf_image.specs.declared.range.Range.{Range}
use Rattle.dream_words.specs.declared.outcome.Start.{Start}
use Rattle.dream_words.specs.declared.machine.Name.TheVariants.{T}
use Rattle.x86_inst.specs.declared.Inst.{Inst}
use Rattle.machine.specs.Code.{Decodes}
use Rattle.machine.specs.Run.{scene_of}
use Rattle.c_words.specs.Built.{name}
use Rattle.micro_ir.specs.declared.flow.Block.{Block}
use Rattle.micro_ir.specs.declared.flow.Case.{Case}
use Rattle.micro_ir.specs.declared.flow.End.{End as BlockEnd}
use Rattle.micro_ir.specs.declared.flow.End.TheVariants as end
use Rattle.micro_ir.specs.Rule.{are_flow_blocks}
use Rattle.micro_ir.specs.Counts.{stores_of, calls_of}
use Rattle.lift_parts.specs.Lifted.{IsBranch}
use Rattle.jump_tables.specs.declared.table.TableWindow.{TableWindow}
use Rattle.jump_tables.specs.Window.{window_successors}
use Rattle.flow_pieces.specs.declared.piece.FlowPiece.{FlowPiece}
use Rattle.flow_pieces.specs.Covered.{IsCovered}

-- the piece of a window at an address
abbrev pub window_piece : List Segment → ℕ → TableWindow → List Block → FlowPiece
window_piece m a w blocks = record { at = a; blocks = blocks; successors = window_successors m w }

-- The cases of the values 0 to n - 1: value k leads to the target of entry k, which is node 3 + k after the two blocks and the default.
abbrev pub entry_cases : ℕ → List Case
entry_cases zero = []
entry_cases (suc n) = entry_cases n ++ record { value = n; to = 3 + n } ∷ []

-- the first block branches to the default or on, either way round
abbrev pub EndsFirst : BlockEnd → Type 0
EndsFirst e = IsBranch 2 1 e ⊎ IsBranch 1 2 e

-- the second one switches over a local to the targets
pub record EndsSecond (w : TableWindow) (e : BlockEnd) : Type 0 where
  pub saved : ℕ
  pub switches : e ≡ end.Switch (name (T saved)) (entry_cases w.count)

-- two blocks that end so
abbrev pub EndAsWindow : TableWindow → List Block → Type 0
EndAsWindow w [] = ⊥
EndAsWindow w (a ∷ []) = ⊥
EndAsWindow w (a ∷ b ∷ []) = EndsFirst a.end × EndsSecond w b.end
EndAsWindow w (a ∷ b ∷ c ∷ rest) = ⊥

-- The blocks of a window at an address: from each state that hasn't strayed they do what the machine does there in several
-- steps, up to the default or a target. The second one ends in a switch over a saved copy of the index. They keep the rule of flows, and
-- store and call nothing.
pub record AreWindowBlocks (m : List Segment) (r : Range) (a : ℕ) (w : TableWindow) (blocks : List Block) : Type 0 where
  pub covered : (decoded : ℕ → Option (Inst × ℕ)) (start : Start) → Decodes m r decoded → IsCovered (scene_of m r decoded start) (window_piece m a w blocks)
  pub ends : EndAsWindow w blocks
  pub rule : IsTrue (are_flow_blocks blocks)
  pub stores : stores_of blocks ≡ 0
  pub calls : calls_of blocks ≡ 0
