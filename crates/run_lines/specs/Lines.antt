-- The line that tells an outcome. Registers and targets are eight hexadecimal digits; all other numbers are decimal.
use Rattle.std.specs.Prelude.{ℕ, ◌-◌, List, ◌++◌, length, codes, slice_get, Option, Some, None}
use Rattle.std.specs.Fmt.{decimal}
use Rattle.dream_words.specs.declared.outcome.Call.{Call}
use Rattle.dream_words.specs.declared.outcome.Outcome.{Outcome}
use Rattle.dream_words.specs.declared.outcome.Outcome.TheVariants.{Returned, Faulted, Asking, Strayed, Undecoded, Stuck, Going}
use Rattle.dream_words.specs.Memory.{Mem, differences}
use Rattle.c_syntax.specs.Spelling.{last_digits}

-- the target of a call; 0 where there is none
abbrev pub target_of : Option Call → ℕ
target_of None = 0
target_of (Some c) = c.target

-- the target of the last call
abbrev pub last_target : List Call → ℕ
last_target calls = target_of (slice_get calls (length calls - 1))

-- The line of an outcome, with its line feed. `calls` is how many calls are recorded, `target` that of the last, and
-- `changed` at how many addresses the byte is another than in the start's memory.
abbrev pub line_of : Outcome → Mem → List ℕ
line_of (Returned r mem calls) start =
    codes "returned eax=" ++ last_digits 8 r.eax ++ codes " ecx=" ++ last_digits 8 r.ecx ++ codes " edx=" ++ last_digits 8 r.edx
    ++ codes " ebx=" ++ last_digits 8 r.ebx ++ codes " esp=" ++ last_digits 8 r.esp ++ codes " ebp=" ++ last_digits 8 r.ebp
    ++ codes " esi=" ++ last_digits 8 r.esi ++ codes " edi=" ++ last_digits 8 r.edi
    ++ codes " calls=" ++ decimal (length calls) ++ codes " changed=" ++ decimal (differences start mem) ++ codes "\n"
line_of (Faulted vector at mem calls) start =
    codes "faulted vector=" ++ decimal vector ++ codes " calls=" ++ decimal (length calls)
    ++ codes " changed=" ++ decimal (differences start mem) ++ codes "\n"
line_of (Asking calls) start = codes "asking target=" ++ last_digits 8 (last_target calls) ++ codes " calls=" ++ decimal (length calls) ++ codes "\n"
line_of Strayed start = codes "strayed\n"
line_of Undecoded start = codes "undecoded\n"
line_of Stuck start = codes "stuck\n"
line_of (Going calls) start = codes "going calls=" ++ decimal (length calls) ++ codes "\n"
