-- Operators with a number on the right, or with one word on both sides.
use Rattle.std.specs.Prelude.{ℕ, ◌+◌, ◌-◌, ◌*◌, ◌^◌, Bool, true, false, nat_eq, Option, Some, None, bit_and, bit_or, bit_xor}
use Rattle.dream_words.specs.Words.{low_part}
use Rattle.c_syntax.specs.declared.syntax.CBin.{CBin}
use Rattle.c_syntax.specs.declared.syntax.CBin.TheVariants as bin

-- two words may be exchanged
abbrev pub commutes : CBin → Bool
commutes bin.Add = true
commutes bin.Sub = false
commutes bin.Mul = true
commutes bin.And = true
commutes bin.Or = true
commutes bin.Xor = true
commutes bin.Shl = false
commutes bin.Shr = false

-- the number on the right changes nothing
abbrev pub gives_first : CBin → ℕ → Bool
gives_first bin.Add k = nat_eq k 0
gives_first bin.Sub k = nat_eq k 0
gives_first bin.Mul k = nat_eq k 1
gives_first bin.And k = nat_eq k (2 ^ 32 - 1)
gives_first bin.Or k = nat_eq k 0
gives_first bin.Xor k = nat_eq k 0
gives_first bin.Shl k = nat_eq k 0
gives_first bin.Shr k = nat_eq k 0

-- the number on the right leaves 0
abbrev pub gives_nought : CBin → ℕ → Bool
gives_nought bin.Add k = false
gives_nought bin.Sub k = false
gives_nought bin.Mul k = nat_eq k 0
gives_nought bin.And k = nat_eq k 0
gives_nought bin.Or k = false
gives_nought bin.Xor k = false
gives_nought bin.Shl k = false
gives_nought bin.Shr k = false

-- one word on both sides leaves 0, or that word
abbrev pub cancels : CBin → Bool
cancels bin.Add = false
cancels bin.Sub = true
cancels bin.Mul = false
cancels bin.And = false
cancels bin.Or = false
cancels bin.Xor = true
cancels bin.Shl = false
cancels bin.Shr = false

abbrev pub absorbs : CBin → Bool
absorbs bin.Add = false
absorbs bin.Sub = false
absorbs bin.Mul = false
absorbs bin.And = true
absorbs bin.Or = true
absorbs bin.Xor = false
absorbs bin.Shl = false
absorbs bin.Shr = false

-- a difference in the place of a sum with the negative number, and the other way round
abbrev pub opposite : CBin → ℕ → CBin × ℕ
opposite bin.Add k = (bin.Sub, low_part 32 (2 ^ 32 - k))
opposite bin.Sub k = (bin.Add, low_part 32 (2 ^ 32 - k))
opposite bin.Mul k = (bin.Mul, k)
opposite bin.And k = (bin.And, k)
opposite bin.Or k = (bin.Or, k)
opposite bin.Xor k = (bin.Xor, k)
opposite bin.Shl k = (bin.Shl, k)
opposite bin.Shr k = (bin.Shr, k)

-- the number that does at once what two do, one after the other
abbrev pub twice : CBin → ℕ → ℕ → Option ℕ
twice bin.Add j k = Some (low_part 32 (j + k))
twice bin.Sub j k = Some (low_part 32 (j + k))
twice bin.Mul j k = Some (low_part 32 (j * k))
twice bin.And j k = Some (bit_and j k)
twice bin.Or j k = Some (bit_or j k)
twice bin.Xor j k = Some (bit_xor j k)
twice bin.Shl j k = None
twice bin.Shr j k = None
