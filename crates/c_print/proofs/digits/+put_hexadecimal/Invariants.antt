use Rattle.c_print.proofs.digits.+put_hexadecimal.Given as goal

-- the number falls
abbrev pub decreases-put_hexadecimal : goal.decreases-put_hexadecimal
decreases-put_hexadecimal l = l.n
