use Rattle.std.proofs.Common.{◌≡◌, false, is_some}
use Rattle.dream_words.proofs.Seen.{entry_at, seen_zero}
use Rattle.dream_words.proofs.tree.make_room_at.Goals as goal

pub returns-in_ok-insert-clause-same : goal.returns-in_ok-insert-clause-same
returns-in_ok-insert-clause-same c =
    let none : is_some (entry_at c.args.tree.now.entries c.args.a) ≡ false = cc in
    seen_zero c.args.tree.now.entries c.insert.new.self.entries c.args.a none c.in_ok-insert.ensures.updates.0
