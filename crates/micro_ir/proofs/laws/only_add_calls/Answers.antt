use Rattle.micro_ir.proofs.Adds.{only_add_calls}
use Rattle.micro_ir.proofs.laws.only_add_calls.Goals as goal

pub returns : goal.returns
returns c = only_add_calls
