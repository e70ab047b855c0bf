use Rattle.std.proofs.Common.{◌≡◌, ◌<◌, ◌≤◌, length, drop, [], ◌∷◌, slice_range}
use Rattle.c_syntax.specs.Lex as lex
use Rattle.c_lex.specs.Lexemes.{places}
use Rattle.c_lex.proofs.scan.token_end.Given as goal

-- the bytes so far belong to the token
abbrev pub invariant-loop-end : goal.invariant-loop-end
invariant-loop-end l = record {
  long : l.fn.at < l.end;
  inside : l.end ≤ length l.text;
  tokens : lex.tokens_in (drop l.fn.at l.text) ≡ lex.lex (slice_range l.text l.fn.at l.end) (drop l.end l.text);
  places : places [] l.fn.at (drop l.fn.at l.text) ≡ l.fn.at ∷ places (slice_range l.text l.fn.at l.end) l.end (drop l.end l.text);
}
