use Rattle.std.proofs.Common.{◌≡◌, ◌<◌, ◌^◌, ◌∷◌, length, ap, arith}
use Rattle.std.specs.Prelude.{not, ◌==◌}
use Rattle.std.specs.Map.Iter.{deref_pair}
use Rattle.std.proofs.lemmas.Map.Iter.{rest_more}
use Rattle.dream_words.specs.Memory.{byte_at, seen}
use Rattle.dream_words.proofs.Counts.{count_taken, all_taken, is_other}
use Rattle.dream_words.proofs.tree.changed.Goals as goal

pub loop-a-preserved-then-v-byte : goal.loop-a-preserved-then-v-byte
loop-a-preserved-then-v-byte c =
    let more : c.loop-a.a-iterator ≡ (c.in-Some.a.now, c.in-Some.v.now) ∷ c.next.new.self = rest_more deref_pair _ _ _ (c.in-Some.a, c.in-Some.v) c.in-Some.is c.next.ensures.steps in
    let one_less = ap length more in
    let word : c.in-Some.a.now < 2 ^ 32 = omega arith in
    record {
      count = count_taken (λ e. not (e.1 == byte_at (seen c.args.other.now.entries) e.0)) c.loop-a.count _ _ _ _ more (is_other c.in-Some.v.now c.byte.result _ c.byte.ensures c.if-v-byte.true) c.loop-a.invariant.count;
      small = omega arith;
      addresses = all_taken (λ e. e.0 < 2 ^ 32) _ _ _ more word c.loop-a.invariant.addresses;
    }
