use Rattle.std.proofs.Common.{◌≡◌, ◌+◌, ◌==◌, true}
use Rattle.dream_words.specs.Memory.{byte_at}
use Rattle.machine.specs.Code.{all_below}
use Rattle.machine.proofs.held.keeps_bytes.Given as goal

abbrev pub invariant-loop-k : goal.invariant-loop-k
invariant-loop-k l = all_below l.k (λ k. byte_at l.old (l.at + k) == byte_at l.new (l.at + k)) ≡ true
