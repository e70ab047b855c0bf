use Rattle.read_statements.proofs.Declared.{no_function}
use Rattle.read_statements.proofs.reader.at_function.Goals as goal

pub returns-in_default : goal.returns-in_default
returns-in_default c = no_function c.args.token c.in_default.not-Function
