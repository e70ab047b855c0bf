-- The note of each status: one line, with a line feed.
use Rattle.std.specs.Prelude.{ℕ, List, [], ◌∷◌, ◌++◌, codes, slice_index_or}
use Rattle.std.specs.Fmt.{decimal}
use Rattle.c_syntax.specs.Spelling.{last_digits}
use Rattle.flow_graph.specs.declared.place.Cause.{Cause}
use Rattle.flow_graph.specs.declared.place.Cause.TheVariants.{Instruction, Straddle, IndirectJump, CallInside, RangeEmpty, RangeTooLarge, RangeUnbacked}
use Rattle.dream_top.specs.declared.status.Status.{Status}
use Rattle.dream_top.specs.declared.status.Status.TheVariants.{Done, Usage, ReadFault, WriteFault, NoMemory, NotElf, NoFunction, Outside, FileTooLarge, NotProfile}

-- what is wrong with a file: the names of the kinds, by their numbers from 1
abbrev pub kind_names : List (List ℕ)
kind_names =
    codes "" ∷ codes "Short" ∷ codes "Magic" ∷ codes "Class" ∷ codes "Order" ∷ codes "Version" ∷ codes "Type" ∷ codes "Machine"
    ∷ codes "EntrySize" ∷ codes "TableOutside" ∷ codes "SegmentOutside" ∷ codes "Overlap" ∷ codes "SectionOutside" ∷ []

abbrev pub kind_name : ℕ → List ℕ
kind_name kind = slice_index_or kind_names kind []

-- why a place is outside the profile
abbrev pub cause_name : Cause → List ℕ
cause_name Instruction = codes "Instruction"
cause_name Straddle = codes "Straddle"
cause_name IndirectJump = codes "IndirectJump"
cause_name CallInside = codes "CallInside"
cause_name RangeEmpty = codes "RangeEmpty"
cause_name RangeTooLarge = codes "RangeTooLarge"
cause_name RangeUnbacked = codes "RangeUnbacked"

-- The note that tells a status. A place in a file or a text is decimal; an address is `0x` and eight digits.
abbrev pub note_of : Status → List ℕ
note_of Done = []
note_of Usage = codes "dream: usage: decompile PATH FUNC, plain PATH FUNC, run PATH FUNC N WORDS, tidy PATH, drill N, prelude\n"
note_of ReadFault = codes "dream: read fault\n"
note_of WriteFault = codes "dream: write fault\n"
note_of NoMemory = codes "dream: no memory\n"
note_of (NotElf fault) = codes "dream: not an accepted ELF file: " ++ kind_name fault.kind ++ codes " at " ++ decimal fault.at ++ codes "\n"
note_of NoFunction = codes "dream: no such function\n"
note_of (Outside place) = codes "dream: outside the profile: " ++ cause_name place.cause ++ codes " at 0x" ++ last_digits 8 place.at ++ codes "\n"
note_of FileTooLarge = codes "dream: file too large\n"
note_of (NotProfile at) = codes "dream: not a profile text at " ++ decimal at ++ codes "\n"
