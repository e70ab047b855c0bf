use Rattle.std.proofs.Common.{ℕ, Option, sym, ap, ◌∙◌, unwrap_or}
use Rattle.dream_words.proofs.Seen.{byte_at-seen}
use Rattle.dream_words.proofs.tree.byte.Goals as goal

pub returns : goal.returns
returns c =
    c.unwrap_or.ensures
    ∙ ap (λ (o : Option ℕ). unwrap_or o 0) (c.copied.ensures ∙ c.get.ensures.value)
    ∙ sym (byte_at-seen c.args.tree.now.entries c.args.a)
