-- The exit statuses of the program.
use Rattle.std.specs.Prelude.{ℕ}
use Rattle.dream_top.specs.declared.status.Status.{Status}
use Rattle.dream_top.specs.declared.status.Status.TheVariants.{Done, Usage, ReadFault, WriteFault, NoMemory, NotElf, NoFunction, Outside, FileTooLarge, NotProfile}

-- the exit status of each answer
abbrev pub code_of : Status → ℕ
code_of Done = 0
code_of Usage = 1
code_of ReadFault = 2
code_of WriteFault = 3
code_of NoMemory = 4
code_of (NotElf f) = 5
code_of NoFunction = 6
code_of (Outside p) = 7
code_of FileTooLarge = 8
code_of (NotProfile at) = 9
