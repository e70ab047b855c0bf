use Rattle.std.proofs.Common.{arith, ap, sym, ◌∙◌, length, ◌≡◌, take, ℕ, List}
use Rattle.dream_outside.specs.MemFiles.{left_in, opened}
use Rattle.dream_outside.proofs.Taken.{front_taken, none_left}
use Rattle.dream_outside.proofs.mem_files.MemFilesFiles.take.Goals as goal

pub returns-clause-bytes : goal.returns-clause-bytes
returns-clause-bytes c =
    let m = c.is_failing.new.self in
    let xs : List ℕ = opened m.files.items m.place in
    let n = c.copy_front-count.result in
    let same : left_in m ≡ left_in c.args.self.now = ap left_in (c.is_failing.ensures.none c.if-is_failing.false) in (
      sym same ∙ front_taken xs _ m.at n (c.copy_front-count.ensures.bytes ∙ ap (take n) c.rest.ensures),
      λ z some. none_left xs m.at n (length c.copy_front-count.new.into) (grind (arith, c.copy_front-count.ensures.count, c.copy_front-count.auto.into, ap length c.rest.ensures)) z some,
    )
