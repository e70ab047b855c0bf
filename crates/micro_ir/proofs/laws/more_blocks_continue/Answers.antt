use Rattle.micro_ir.proofs.More.{more_blocks_continue}
use Rattle.micro_ir.proofs.laws.more_blocks_continue.Goals as goal

pub returns : goal.returns
returns c = more_blocks_continue
