use Rattle.std.proofs.Common.{◌≡◌, true, subst, sym, ◌∙◌, string_bytes}
use Rattle.std.specs.Str.{bytes_eq}
use Rattle.dream_outside.proofs.Held.{found_at}
use Rattle.dream_outside.proofs.mem_files.place_of.Goals as goal

pub returns-then-eq-clause-within : goal.returns-then-eq-clause-within
returns-then-eq-clause-within c =
    let same : bytes_eq (string_bytes c.index-files-i.result.path) c.args.path.now ≡ true = subst (λ s. bytes_eq s c.args.path.now ≡ true) c.as_str.ensures.value (sym c.eq.ensures ∙ c.if-eq.true) in
    found_at c.args.files.now c.loop-i.i c.args.path.now c.index-files-i.result c.loop-i-test.true c.index-files-i.is same c.loop-i.invariant
