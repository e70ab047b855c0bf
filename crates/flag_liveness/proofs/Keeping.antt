-- A flow without what nobody sees keeps the flow.
use Rattle.std.proofs.Common.{ℕ, ◌<◌, length, map, refl, sym, subst}
use Rattle.std.proofs.lemmas.List.{length-map}
use Rattle.std.specs.Prelude.{IsTrue, Contains, ◌^◌}
use Rattle.run_parts.specs.World.{World}
use Rattle.micro_ir.specs.declared.flow.Block.{Block}
use Rattle.micro_ir.specs.declared.flow.Flow.{Flow}
use Rattle.micro_ir.specs.Checked.{nodes_of, IsChecked}
use Rattle.micro_ir.specs.Rule.{IsGiven, are_flow_stmts}
use Rattle.micro_ir.specs.Run.{stmts_do, block_leads}
use Rattle.micro_ir.specs.World.{IsWorld}
use Rattle.flow_passes.specs.Uses.{NameSet}
use Rattle.flow_passes.specs.Alike.{Alike, ArrivesAlike, GoAlike}
use Rattle.flow_passes.specs.Keeps.{KeepsBlock}
use Rattle.flow_passes.proofs.Names.{alike_within}
use Rattle.flow_passes.proofs.Walking.{going_alike_keeps_runs}
use Rattle.flag_liveness.specs.Before.{AreLive, live_in, live_at}
use Rattle.flag_liveness.specs.Clean.{cleaned, cleaned_block, cleaned_flow}
use Rattle.flag_liveness.specs.Laws.{CleaningKeeps}
use Rattle.flag_liveness.proofs.Alike.{cleaned_alike, arrive_alike}
use Rattle.flag_liveness.proofs.Kept.{keeps_block, blocks_rule, same_nodes, block_rule, mapped_is, unmapped}

-- a block leads alike without what nobody sees
block_alike : (live : ℕ → NameSet) (b : Block) (w u : World) → IsTrue (are_flow_stmts b.stmts) → IsWorld w → IsWorld u → Alike (live_in b live) w u → ArrivesAlike live (block_leads b w) (block_leads (cleaned_block live b) u)
block_alike live b w u t i j a = arrive_alike live b.end (stmts_do b.stmts w) (stmts_do (cleaned b.stmts (live_at b.end live)) u) (cleaned_alike b.stmts (live_at b.end live) w u t i j a)

go_alike : (f : Flow) (live : ℕ → NameSet) → IsGiven f → AreLive f live → GoAlike live f.blocks (map (cleaned_block live) f.blocks)
go_alike f live g h = record {
  count = length-map f.blocks (cleaned_block live);
  blocks = λ n b c e d w u i j a.
      subst (λ x. ArrivesAlike live (block_leads b w) (block_leads x u)) (sym (mapped_is (cleaned_block live) f.blocks n b c e d))
      (block_alike live b w u (block_rule f.blocks n b e g.rule) i j (alike_within (live_in b live) (live n) w u (h n b e) a));
}

checked : (f : Flow) (live : ℕ → NameSet) → IsChecked f → IsChecked (cleaned_flow live f)
checked f live h = record {
  entry_inside = subst (λ n. f.entry < n) (sym (length-map f.blocks (cleaned_block live))) h.entry_inside;
  nodes_inside = λ n a c e i.
      let p = unmapped (cleaned_block live) f.blocks n c e in
      subst (λ k. a < k) (sym (length-map f.blocks (cleaned_block live))) (h.nodes_inside n a p.0 p.1 (subst (λ x. Contains (nodes_of x.end) a) p.2 i));
}

given : (f : Flow) (live : ℕ → NameSet) → IsGiven f → IsGiven (cleaned_flow live f)
given f live g = record {
  checked = checked f live g.checked;
  rule = blocks_rule live f.blocks g.rule;
  few_blocks = subst (λ n. n < 2 ^ 30) (sym (length-map f.blocks (cleaned_block live))) g.few_blocks;
  few_nodes = subst (λ xs. length xs < 2 ^ 30) (sym (same_nodes live f.blocks)) g.few_nodes;
}

pub cleaning_keeps : CleaningKeeps
cleaning_keeps f live g h = (
  given f live g,
  record {
    entry = refl;
    count = length-map f.blocks (cleaned_block live);
    blocks = λ n b c e d. subst (λ x. KeepsBlock b x) (sym (mapped_is (cleaned_block live) f.blocks n b c e d)) (keeps_block live b);
    runs = going_alike_keeps_runs f (cleaned_flow live f) live g.rule (blocks_rule live f.blocks g.rule) refl (go_alike f live g h);
  },
)
