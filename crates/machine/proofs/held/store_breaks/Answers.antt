use Rattle.std.proofs.Common.{sym, ap, ◌∙◌}
use Rattle.machine.specs.Code.{is_broken}
use Rattle.x86_model.specs.Leads.{stored}
use Rattle.machine.proofs.Straying.{unbroken}
use Rattle.machine.proofs.Stores.{store_breaks_is}
use Rattle.machine.proofs.held.store_breaks.Goals as goal

pub returns-in-None : goal.returns-in-None
returns-in-None c =
    let m = c.args.image.now in let mem = c.args.mem.now in
    sym (ap (λ o. is_broken m c.args.slot mem (stored mem o)) c.in-None.is ∙ unbroken m c.args.slot mem)

pub returns-in-Some : goal.returns-in-Some
returns-in-Some c =
    let m = c.args.image.now in let mem = c.args.mem.now in let s = c.in-Some.s in
    c.word_changes.ensures
    ∙ sym (ap (λ o. is_broken m c.args.slot mem (stored mem o)) c.in-Some.is ∙ store_breaks_is m c.args.slot mem s.at s.value s.width c.ranges.slot.fits)
