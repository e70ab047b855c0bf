-- Words extended by their signs.
use Rattle.x86_inst.specs.declared.Size.{Size}
use Rattle.x86_inst.specs.declared.Size.TheVariants.{B, H, W}
use Rattle.c_syntax.specs.declared.syntax.CFn1.TheVariants.{Sx1, Sx2}
use Rattle.c_syntax.specs.declared.syntax.CExpr.{CExpr}
use Rattle.c_words.specs.Built.{fn1}

-- a word extended by its sign from a size
abbrev pub extended : Size → CExpr → CExpr
extended B e = fn1 Sx1 e
extended H e = fn1 Sx2 e
extended W e = e
