use Rattle.std.proofs.Common.{◌∙◌, ap, ◌+◌}
use Rattle.std.specs.Prelude.{not, ◌==◌, count_by}
use Rattle.dream_words.specs.Memory.{byte_at, seen}
use Rattle.dream_words.proofs.Counts.{differences-seen}
use Rattle.dream_words.proofs.tree.differences.Goals as goal

pub returns : goal.returns
returns c =
    ap (λ n. n + c.added.result) c.changed.ensures.count
    ∙ ap (λ n. count_by (λ e. not (e.1 == byte_at (seen c.args.other.now.entries) e.0)) c.args.one.now.entries + n) c.added.ensures.count
    ∙ differences-seen c.args.one.now.entries c.args.other.now.entries c.changed.ensures.ordered c.added.ensures.ordered c.changed.ensures.addresses c.added.ensures.addresses
