use Rattle.c_lex.proofs.numbers.+is_hexadecimal.Given as goal

-- the number falls
abbrev pub decreases-is_hexadecimal : goal.decreases-is_hexadecimal
decreases-is_hexadecimal l = l.n
