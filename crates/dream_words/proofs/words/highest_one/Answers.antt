use Rattle.std.proofs.Common.{◌∙◌}
use Rattle.dream_words.proofs.Ones.{highest_one-log}
use Rattle.dream_words.proofs.words.highest_one.Goals as goal

pub returns : goal.returns
returns c =
    let e = c.checked_ilog2.ensures in
    c.unwrap_or.ensures ∙ highest_one-log c.checked_ilog2.result 32 c.args.v e.none e.power_le e.next_power_gt e.bound
