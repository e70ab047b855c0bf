use Rattle.std.proofs.Common.{◌≡◌, ◌≤◌, ◌+◌, ◌-◌, length}
use Rattle.std.specs.Io.KnownBytes.{Consumes}
use Rattle.dream_top.specs.Answers.{limit}
use Rattle.dream_top.proofs.load.take_all.Given as goal

-- the bytes so far are those that were taken, and the count says how many
abbrev pub invariant-loop-bytes : goal.invariant-loop-bytes
invariant-loop-bytes g l =
    let files = g.F.Files in
    record {
      count : files.got l.files ≡ length l.bytes.items;
      small : length l.bytes.items ≤ limit;
      consumed : Consumes (files.left l.fn.files) (files.left l.files) l.bytes.items;
      quiet : files.faults l.files ≡ files.faults l.fn.files;
      held : files.held l.files ≡ files.held l.fn.files;
    }

abbrev pub decreases-loop-bytes : goal.decreases-loop-bytes
decreases-loop-bytes g l = limit + 1 - length l.bytes.items
