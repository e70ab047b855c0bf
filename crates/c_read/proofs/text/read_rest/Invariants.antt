use Rattle.std.proofs.Common.{◌-◌, ◌≤◌, length}
use Rattle.read_statements.specs.Readers.{state_of}
use Rattle.c_read.proofs.Fronts.{Front}
use Rattle.c_read.proofs.text.read_rest.Given as goal

abbrev pub invariant-loop-lexeme : goal.invariant-loop-lexeme
invariant-loop-lexeme l = (l.from ≤ length l.rest) × Front l.rest l.from (state_of l.reader)

abbrev pub decreases-loop-lexeme : goal.decreases-loop-lexeme
decreases-loop-lexeme l = length l.rest - l.from
