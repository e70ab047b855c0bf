use Rattle.std.proofs.Common.{◌+◌, ◌%◌, ◌^◌, get_or, take, sym, ap, ◌∙◌, arith}
use Rattle.dream_words.specs.Memory.{seen, with_byte, place}
use Rattle.dream_words.proofs.Seen.{room_stays}
use Rattle.dream_words.proofs.Places.{place-more, next_address}
use Rattle.dream_words.proofs.tree.overwrite.Goals as goal

pub overwrite_at-requires : goal.overwrite_at-requires
overwrite_at-requires c =
    rw c.loop-byte.invariant.at
    (room_stays c.args.tree.now.entries c.loop-byte.tree.entries ((c.args.a + c.loop-byte.byte-index) % 2 ^ 32) c.loop-byte.invariant.keys
    (c.requires c.loop-byte.byte-index (omega arith)))

pub loop-byte-preserved : goal.loop-byte-preserved
loop-byte-preserved c =
    record {
      at = next_address c.args.a c.loop-byte.byte-index c.loop-byte.at c.loop-byte.invariant.at;
      placed = (
          let more = place-more (seen c.args.tree.now.entries) c.args.a c.args.bytes.now c.loop-byte.byte-index (omega arith) in
          c.overwrite_at.ensures.set
          ∙ ap (λ m. with_byte m c.loop-byte.at (get_or c.args.bytes.now c.loop-byte.byte-index 0)) c.loop-byte.invariant.placed
          ∙ ap (λ k. with_byte (place (seen c.args.tree.now.entries) c.args.a (take c.loop-byte.byte-index c.args.bytes.now)) k (get_or c.args.bytes.now c.loop-byte.byte-index 0)) c.loop-byte.invariant.at
          ∙ sym more);
      keys = c.overwrite_at.ensures.keys ∙ c.loop-byte.invariant.keys;
    }
