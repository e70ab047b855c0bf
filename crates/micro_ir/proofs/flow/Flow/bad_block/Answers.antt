use Rattle.std.proofs.Common.{rules, tests, ◌≡◌, sym, nat_le, false}
use Rattle.std.specs.Prelude.{position}
use Rattle.std.proofs.lemmas.Iterator.{YieldsList-from_slice}
use Rattle.std.proofs.lemmas.Iterator.Search.{position_from_yields_List}
use Rattle.micro_ir.specs.declared.flow.Block.{Block}
use Rattle.micro_ir.specs.Checked.{names_outside}
use Rattle.micro_ir.proofs.Named.{blocks_decide}
use Rattle.micro_ir.proofs.flow.Flow.bad_block.Goals as goal

pub returns-clause-value : goal.returns-clause-value
returns-clause-value c =
    let inside : nat_le c.len-count.result c.args.self.now.entry ≡ false = cc in
    let blocks : c.iter.result.rest.now ≡ c.args.self.now.blocks = cc in
    let first : c.position.result ≡ position (λ (b : Block). names_outside c.len-count.result b.end) c.args.self.now.blocks = position_from_yields_List (λ (b : Block). names_outside c.len-count.result b.end) _ _ c.position.result c.position.ensures.ran (YieldsList-from_slice c.args.self.now.blocks blocks) (λ x b q k. search (rules, tests)) in
    sym (blocks_decide c.args.self.now c.len-count.result c.position.result c.len-count.ensures inside first)
