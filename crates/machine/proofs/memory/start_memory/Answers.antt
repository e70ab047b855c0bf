use Rattle.std.proofs.Common.{◌≡◌, ℕ, List, [], drop, ap, sym, ◌∙◌}
use Rattle.std.specs.Prelude.{unwrap_or}
use Rattle.std.proofs.lemmas.List.{drop_all}
use Rattle.elf_image.specs.declared.image.Segment.{Segment}
use Rattle.elf_image.specs.Image.{backed_byte}
use Rattle.dream_words.specs.Memory.{byte_at, no_bytes}
use Rattle.machine.proofs.Placed.{placed, all_placed, frozen_is_backed}
use Rattle.machine.proofs.memory.start_memory.Goals as goal

backed : (c : goal.After-loop-s) → (a : ℕ) → byte_at c.loop-s.mem a ≡ unwrap_or (backed_byte c.args.image.now a) 0
backed c a =
    let items : List Segment = c.segments-s-items.result.now in
    let none : drop c.loop-s.s-index items ≡ [] = drop_all c.loop-s.s-index items c.loop-s-test.false in
    ap (λ m. byte_at m a) (sym (ap (placed c.loop-s.mem) none) ∙ c.loop-s.invariant.1 ∙ ap (placed no_bytes) c.segments-s-items.ensures.all)
    ∙ all_placed c.args.image.now a c.segments-s-items.ensures.laid_out

pub returns : goal.returns
returns c = record {
  backed = backed c;
  frozen = λ a b e. backed c a ∙ ap (λ o. unwrap_or o 0) (frozen_is_backed c.args.image.now a b c.segments-s-items.ensures.laid_out e);
}
