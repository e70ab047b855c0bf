use Rattle.std.proofs.Common.{◌≡◌, ◌≤◌, length, drop, []}
use Rattle.c_syntax.specs.Lex as lex
use Rattle.c_lex.specs.Lexemes.{places}
use Rattle.c_lex.proofs.scan.skip_blanks.Given as goal

-- only blanks have come
abbrev pub invariant-loop-at : goal.invariant-loop-at
invariant-loop-at l = record {
  after : l.fn.from ≤ l.at;
  inside : l.at ≤ length l.text;
  tokens : lex.tokens_in (drop l.fn.from l.text) ≡ lex.tokens_in (drop l.at l.text);
  places : places [] l.fn.from (drop l.fn.from l.text) ≡ places [] l.at (drop l.at l.text);
}
