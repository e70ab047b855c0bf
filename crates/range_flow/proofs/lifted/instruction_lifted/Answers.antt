use Rattle.std.proofs.Common.{◌+◌, ◌%◌, ◌^◌, take, ap, subst, ◌∙◌}
use Rattle.elf_image.specs.Range.{bytes_to_end}
use Rattle.lift_parts.specs.Lifted.{AreBlocksOf}
use Rattle.x86_model.specs.Successors.{successors_of}
use Rattle.range_flow.proofs.Begun.{none_begins}
use Rattle.range_flow.proofs.lifted.instruction_lifted.Goals as goal

pub unreachable-requires : goal.unreachable-requires
unreachable-requires c = c.requires.can.begins (none_begins c.args.m.now c.args.r c.args.at (c.in-None.ensures {u = tt}))

pub returns-clause-piece : goal.returns-clause-piece
returns-clause-piece c =
    let begins = c.in-Some.ensures {u = tt} in
    let i = c.in-Some.i in
    let at = c.args.at in
    record {
      inst = i;
      size = c.in-Some.n;
      begins = begins;
      no_window = c.requires.no_window;
      successors = c.in_ok-successors-in-Some.ensures {u = tt} ∙ ap (λ k. successors_of i at ((at + k) % 2 ^ 32)) c.from.ensures;
      blocks = subst (λ k. AreBlocksOf i at ((at + k) % 2 ^ 32) c.in_ok-blocks-in-Some.blocks.items) c.from.ensures
          (c.in_ok-blocks-in-Some.ensures {u = tt} (take c.in-Some.n (bytes_to_end c.args.m.now c.args.r at), begins.spelled));
    }
