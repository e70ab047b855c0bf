use Rattle.std.proofs.Common.{◌≡◌, ◌+◌, ◌%◌, ◌^◌, ◌||◌, get_or, ap, sym, subst, ◌∙◌}
use Rattle.dream_words.specs.Memory.{bytes_of}
use Rattle.machine.specs.Held.{changes, store_changes}
use Rattle.machine.proofs.Stores.{store_four}
use Rattle.machine.proofs.held.word_changes.Goals as goal

pub returns-else-pair_changes : goal.returns-else-pair_changes
returns-else-pair_changes c =
    let m = c.args.image.now in let s = c.args.slot in let old = c.args.mem.now in let at = c.args.at in
    let r = c.to_le_bytes.result in let e = c.to_le_bytes.ensures in
    subst (λ w. c.pair_changes-else-pair_changes.result ≡ store_changes m s old at (bytes_of w) c.args.value) (sym c.in-W.is)
    (store_four m s old at c.args.value (get_or r 1 0) (get_or r 2 0) (get_or r 3 0) c.pair_changes-in-W.result c.pair_changes-else-pair_changes.result c.ranges.at.fits
    (ap (λ xs. get_or xs 1 0) e) (ap (λ xs. get_or xs 2 0) e) (ap (λ xs. get_or xs 3 0) e)
    (c.pair_changes-in-W.ensures ∙ ap (λ xs. changes m s old at (get_or xs 0 0) || changes m s old ((at + 1) % 2 ^ 32) (get_or r 1 0)) e)
    c.if-pair_changes.false c.pair_changes-else-pair_changes.ensures)
