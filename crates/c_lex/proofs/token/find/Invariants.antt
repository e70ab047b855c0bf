use Rattle.std.proofs.Common.{◌≡◌, drop}
use Rattle.c_lex.specs.Candidates as by_bytes
use Rattle.c_lex.proofs.token.find.Given as goal

-- the first token that is spelled so is among those that are left
abbrev pub invariant-loop-token : goal.invariant-loop-token
invariant-loop-token l = by_bytes.find (drop l.token-index l.tokens) l.bytes ≡ by_bytes.find l.tokens l.bytes
