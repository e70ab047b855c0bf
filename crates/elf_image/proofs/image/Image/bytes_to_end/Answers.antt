use Rattle.std.proofs.Common.{◌≡◌, ◌<◌, ◌+◌, ◌-◌, ◌++◌, ◌∷◌, [], sym, ap, ◌∙◌, arith}
use Rattle.elf_image.specs.Range.{frozen_from}
use Rattle.elf_image.proofs.FrozenBytes.{none_more, one_more}
use Rattle.elf_image.proofs.image.Image.bytes_to_end.Goals as goal

pub returns-in-None : goal.returns-in-None
returns-in-None c =
    sym (none_more c.args.self.now (c.args.at + c.loop-k.k) (c.room-k-end.result - c.loop-k.k) c.loop-k.bytes.items (sym (c.in-None.ensures {u = tt})))
    ∙ sym c.loop-k.invariant ∙ ap (frozen_from c.args.self.now c.args.at) c.room-k-end.ensures.value

pub loop-k-preserved : goal.loop-k-preserved
loop-k-preserved c =
    let some : 0 < c.room-k-end.result - c.loop-k.k = omega (arith, c.loop-k-test.true) in
    let at : c.args.at + c.loop-k.k + 1 ≡ c.args.at + (c.loop-k.k + 1) = omega arith in
    let rest : c.room-k-end.result - c.loop-k.k - 1 ≡ c.room-k-end.result - (c.loop-k.k + 1) = omega arith in
    c.loop-k.invariant
    ∙ one_more c.args.self.now (c.args.at + c.loop-k.k) (c.room-k-end.result - c.loop-k.k) c.in-Some.byte c.loop-k.bytes.items (sym (c.in-Some.ensures {u = tt})) some
    ∙ ap (λ a. (c.loop-k.bytes.items ++ c.in-Some.byte ∷ []) ++ frozen_from c.args.self.now a (c.room-k-end.result - c.loop-k.k - 1)) at
    ∙ ap (λ n. (c.loop-k.bytes.items ++ c.in-Some.byte ∷ []) ++ frozen_from c.args.self.now (c.args.at + (c.loop-k.k + 1)) n) rest
    ∙ ap (λ xs. xs ++ frozen_from c.args.self.now (c.args.at + (c.loop-k.k + 1)) (c.room-k-end.result - (c.loop-k.k + 1))) (sym c.in_ok-push-in-Some.ensures.items)
