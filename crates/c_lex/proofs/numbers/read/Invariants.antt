use Rattle.std.proofs.Common.{◌≡◌, drop}
use Rattle.c_lex.specs.Candidates as by_bytes
use Rattle.c_lex.proofs.numbers.read.Given as goal

-- what is left, after the word so far, writes what all of it writes
abbrev pub invariant-loop-digit : goal.invariant-loop-digit
invariant-loop-digit l = by_bytes.read l.base l.n (drop l.digit-index l.digits) ≡ by_bytes.read l.base 0 l.digits
