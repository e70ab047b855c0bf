-- What is asked of an instruction that is lifted.
use Rattle.std.specs.Prelude.{◌+◌, ◌^◌, nat_lt, Bool, true}
use Rattle.x86_inst.specs.declared.Inst.{Inst}
use Rattle.x86_inst.specs.declared.Inst.TheVariants as i
use Rattle.x86_model.specs.Rows.{is_bare}

-- a jump by a word is one through a bare absolute address
abbrev pub leaves_bare : Inst → Bool
leaves_bare (i.JmpTo s) = is_bare s
leaves_bare _ = true

-- the numbers that its block has as they stand are words
abbrev pub has_words : Inst → Bool
has_words (i.Ret n) = nat_lt (4 + n) (2 ^ 32)
has_words (i.Trap v) = nat_lt v (2 ^ 32)
has_words _ = true
