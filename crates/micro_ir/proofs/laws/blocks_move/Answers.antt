use Rattle.micro_ir.proofs.Moves.{blocks_move}
use Rattle.micro_ir.proofs.laws.blocks_move.Goals as goal

pub returns : goal.returns
returns c = blocks_move
