use Rattle.std.proofs.Common.{◌≡◌, ◌+◌, ◌-◌, rules, min, ap, ◌∙◌, true}
use Rattle.elf_image.specs.Range.{is_inside, bytes_to_end}
use Rattle.machine.proofs.Fetching.{window_is}
use Rattle.machine.proofs.settings.window.Goals as goal

pub returns : goal.returns
returns c = λ m.
    let r = c.args.range in
    let inside : is_inside r c.args.at ≡ true = search rules in
    let l : c.min.result ≡ min (r.entry + r.size - c.args.at) 15 = search rules in
    ap (λ s. bytes_to_end m s c.args.at) c.new-2.ensures ∙ window_is m r c.args.at c.min.result inside l
