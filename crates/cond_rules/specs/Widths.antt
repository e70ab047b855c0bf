-- The low part, the top bit and the signed form of a Word, by a width.
use Rattle.std.specs.Prelude.{◌≡◌, Bool, true, false, ℕ, ◌-◌, ◌^◌, ◌<◌, Some, IsTrue}
use Rattle.dream_words.specs.declared.machine.Width.{Width}
use Rattle.dream_words.specs.declared.machine.Width.TheVariants.{B, H, W}
use Rattle.run_parts.specs.World.{Names}
use Rattle.c_syntax.specs.declared.syntax.CBin.TheVariants.{And, Xor, Shr}
use Rattle.c_syntax.specs.declared.syntax.CCmp.{CCmp}
use Rattle.c_syntax.specs.declared.syntax.CCmp.TheVariants.{Eq, Ne, Lt, Le}
use Rattle.c_syntax.specs.declared.syntax.CFn1.TheVariants.{Sx1, Sx2}
use Rattle.c_syntax.specs.declared.syntax.CFn2.TheVariants.{Lts}
use Rattle.c_syntax.specs.declared.syntax.CExpr.{CExpr}
use Rattle.c_syntax.specs.Value.{word_of}
use Rattle.c_words.specs.Built.{num, bin, fn1, fn2}
use Rattle.micro_ir.specs.Rule.{has_flow_names}
use Rattle.word_rules.specs.Standing.{AreWords}

-- how many bits a width has
abbrev pub bits_at : Width → ℕ
bits_at B = 8
bits_at H = 16
bits_at W = 32

-- the low bits of a Word; a Word of 32 bits as it stands
abbrev pub low_of : Width → CExpr → CExpr
low_of B e = bin And e (num 255)
low_of H e = bin And e (num 65535)
low_of W e = e

-- a Word shifted to the top bit of a width
abbrev pub top_of : Width → CExpr → CExpr
top_of w e = bin Shr e (num (bits_at w - 1))

-- the low bits of a Word, extended by their sign
abbrev pub signed_of : Width → CExpr → CExpr
signed_of B e = fn1 Sx1 e
signed_of H e = fn1 Sx2 e
signed_of W e = e

-- 1 where the first Word is less than the second as signed numbers, else 0
abbrev pub less_of : CExpr → CExpr → CExpr
less_of a b = fn2 Lts a b

-- whether the top bits of x and y differ, and those of x and r: the overflow of the difference r of x and y
abbrev pub overflow_of : Width → CExpr → CExpr → CExpr → CExpr
overflow_of w x y r = top_of w (bin And (bin Xor x y) (bin Xor x r))

-- each value of a Word is below 2 to the number of bits
abbrev pub IsWithin : Width → CExpr → Type 0
IsWithin w e = IsTrue (has_flow_names e) → (v : Names) → AreWords v → (x : ℕ) → word_of e v ≡ Some x → x < 2 ^ bits_at w

-- the comparisons that tell equal words from others
abbrev pub is_equality : CCmp → Bool
is_equality Eq = true
is_equality Ne = true
is_equality Lt = false
is_equality Le = false
