use Rattle.std.proofs.Common.{◌≡◌, drop}
use Rattle.dream_outside.specs.MemFiles.{bytes_at}
use Rattle.dream_outside.proofs.mem_files.place_of.Given as goal

-- none of the files so far has the path
abbrev pub invariant-loop-i : goal.invariant-loop-i
invariant-loop-i l = bytes_at (drop l.i l.files) l.path ≡ bytes_at l.files l.path
