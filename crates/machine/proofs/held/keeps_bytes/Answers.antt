use Rattle.std.proofs.Common.{◌≡◌, ℕ, ◌+◌, ◌==◌, Bool, false, rules, sym}
use Rattle.std.proofs.lemmas.Bool.{both_ways, false_from_ne_true}
use Rattle.dream_words.specs.Memory.{byte_at}
use Rattle.machine.proofs.Straying.{holds_below}
use Rattle.machine.proofs.held.keeps_bytes.Goals as goal

pub returns-then-not-same : goal.returns-then-not-same
returns-then-not-same c =
    let test : ℕ → Bool = λ k. byte_at c.args.old.now (c.args.at + k) == byte_at c.args.new.now (c.args.at + k) in
    let k = c.loop-k.k in
    let fails : test k ≡ false = search rules in
    sym (false_from_ne_true _ (λ h. both_ways (test k) fails (holds_below c.args.count k test h c.loop-k-test.true)))
