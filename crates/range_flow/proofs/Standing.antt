-- What holds of a piece, be it a window's or an instruction's.
use Rattle.std.proofs.Common.{◌≡◌, ◌+◌, ◌%◌, ◌^◌, ◌<◌, ◌≤◌, List, length, sym, ap, ◌∙◌, subst, arith}
use Rattle.std.specs.Prelude.{IsTrue}
use Rattle.elf_image.specs.declared.image.Segment.{Segment}
use Rattle.elf_image.specs.declared.range.Range.{Range}
use Rattle.x86_inst.specs.declared.Inst.{Inst}
use Rattle.x86_inst.specs.declared.Inst.TheVariants as i
use Rattle.x86_inst.specs.declared.AluOp.TheVariants.{Cmp}
use Rattle.x86_inst.specs.declared.Operand.TheVariants as o
use Rattle.x86_model.specs.Successors.{stores as is_store, asks as is_ask}
use Rattle.micro_ir.specs.Rule.{are_flow_blocks, nodes_in}
use Rattle.micro_ir.specs.Counts.{stores_of, calls_of}
use Rattle.lift_parts.specs.Lifted.{once}
use Rattle.flow_graph.specs.Reach as reach
use Rattle.flow_graph.specs.Reach.{AreSuccessors}
use Rattle.flow_pieces.specs.declared.piece.FlowPiece.{FlowPiece}
use Rattle.range_flow.specs.Pieces as pieces
use Rattle.range_flow.specs.Pieces.{IsPieceOf}
use Rattle.range_flow.specs.Counts.{StandsAt}
use Rattle.range_flow.proofs.Covering.{some_block}
use Rattle.range_flow.proofs.Few.{ends_few, few_blocks, few_successors, window_blocks_few, window_nodes_few, window_successors_few}

module _ (m : List Segment) (r : Range) (p : FlowPiece) where
  -- it has at most two blocks, names at most 1,026 nodes, and has at most 1,025 successors
  pub record IsSmall : Type 0 where
    pub blocks : length p.blocks ≤ 2
    pub nodes : length (nodes_in p.blocks) ≤ 1026
    pub successors : length p.successors ≤ 1025

  pub small : IsPieceOf m r p → IsSmall
  small (pieces.of_instruction h) = record {
    blocks = subst (λ n. n ≤ 2) (sym h.blocks.count) (few_blocks h.inst);
    nodes = omega (arith, ends_few h.inst p.blocks h.blocks.ends);
    successors = omega (arith, subst (λ l. length l ≤ 2) (sym h.successors) (few_successors h.inst p.at ((p.at + h.size) % 2 ^ 32)));
  }
  small (pieces.of_window h) = record {
    blocks = omega (arith, window_blocks_few h.window p.blocks h.blocks.ends);
    nodes = omega (arith, window_nodes_few h.window p.blocks h.blocks.ends, h.stands.most);
    successors = omega (arith, ap length h.successors ∙ window_successors_few m h.window, h.stands.most);
  }

  pub begins : IsPieceOf m r p → 0 < length p.blocks
  begins (pieces.of_instruction h) = subst (λ n. 0 < n) (sym h.blocks.count) (some_block h.inst)
  begins (pieces.of_window h) = omega (arith, window_blocks_few h.window p.blocks h.blocks.ends)

  pub rule : IsPieceOf m r p → IsTrue (are_flow_blocks p.blocks)
  rule (pieces.of_instruction h) = h.blocks.rule
  rule (pieces.of_window h) = h.blocks.rule

  pub leads : IsPieceOf m r p → AreSuccessors m r p.at p.successors
  leads (pieces.of_instruction h) = reach.of_instruction h.inst h.size h.begins h.no_window h.successors
  leads (pieces.of_window h) = reach.of_window h.window h.stands h.successors

  -- the instruction at its address stores and asks as its blocks do; that of a window does neither
  pub record Does : Type 0 where
    pub inst : Inst
    pub stands : StandsAt m r p.at inst
    pub stores : stores_of p.blocks ≡ once (is_store inst)
    pub calls : calls_of p.blocks ≡ once (is_ask inst)

  pub does : IsPieceOf m r p → Does
  does (pieces.of_instruction h) = record {
    inst = h.inst;
    stands = record { size = h.size; begins = h.begins };
    stores = h.blocks.stores;
    calls = h.blocks.calls;
  }
  does (pieces.of_window h) = record {
    inst = i.Alu Cmp h.stands.index.size h.stands.index.operand (o.Imm h.stands.bound);
    stands = record { size = h.stands.compare_size; begins = h.stands.compares };
    stores = h.blocks.stores;
    calls = h.blocks.calls;
  }
