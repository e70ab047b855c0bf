use Rattle.std.proofs.Common.{◌≡◌, List, ℕ, ◌≤◌, length, take, subst, ◌∙◌}
use Rattle.elf_image.specs.Range.{bytes_to_end}
use Rattle.x86_inst.specs.Spelling.{Spells}
use Rattle.x86_decode.specs.Decodes.{NoneBegins}
use Rattle.machine.proofs.Fetching.{found_is, none_is}
use Rattle.machine.proofs.settings.fetch.Goals as goal

pub returns-in-Inst : goal.returns-in-Inst
returns-in-Inst c = λ decoded d.
    let m = c.args.image.now in let h = c.in-Inst.ensures in
    let e : c.deref.result.now ≡ take 15 (bytes_to_end m c.args.range c.args.at) = c.deref.ensures.value ∙ c.in_ok-bytes.ensures ∙ c.window.ensures m in
    found_is m c.args.range decoded c.args.at c.in-Inst.inst c.in-Inst.len d
    (subst (λ (x : List ℕ). c.in-Inst.len ≤ length x) e h.0) (subst (λ (x : List ℕ). Spells (take c.in-Inst.len x) c.in-Inst.inst) e h.1)

pub returns-in-Cut : goal.returns-in-Cut
returns-in-Cut c = λ decoded d.
    let m = c.args.image.now in
    let e : c.deref.result.now ≡ take 15 (bytes_to_end m c.args.range c.args.at) = c.deref.ensures.value ∙ c.in_ok-bytes.ensures ∙ c.window.ensures m in
    none_is m c.args.range decoded c.args.at d (subst NoneBegins e c.in-Cut.ensures.0)

pub returns : goal.returns
returns c = λ decoded d.
    let m = c.args.image.now in
    let e : c.deref.result.now ≡ take 15 (bytes_to_end m c.args.range c.args.at) = c.deref.ensures.value ∙ c.in_ok-bytes.ensures ∙ c.window.ensures m in
    none_is m c.args.range decoded c.args.at d (subst NoneBegins e c.in-None.ensures.0)
