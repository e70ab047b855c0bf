use Rattle.std.proofs.Common.{◌≡◌, ◌<◌, ◌^◌, ◌∷◌, length, ap, arith, false}
use Rattle.std.specs.Prelude.{not, is_some, ◌==◌, ◌&&◌}
use Rattle.std.specs.Ordering.{nat_cmp}
use Rattle.std.specs.BTreeMap.{get}
use Rattle.std.specs.Map.Iter.{deref_pair}
use Rattle.std.proofs.lemmas.Map.Iter.{rest_more}
use Rattle.dream_words.proofs.Counts.{count_taken, count_passed, all_taken, is_added, not_set, not_alone}
use Rattle.dream_words.proofs.tree.added.Goals as goal
use Rattle.dream_words.proofs.tree.added.Goals.{else-not-keeps-via-then-not-keeps+else-v-ne0, else-not-keeps-via-else-not-keeps}

pub loop-a-preserved-then-v-ne0 : goal.loop-a-preserved-then-v-ne0
loop-a-preserved-then-v-ne0 c =
    let more : c.loop-a.a-iterator ≡ (c.in-Some.a.now, c.in-Some.v.now) ∷ c.next.new.self = rest_more deref_pair _ _ _ (c.in-Some.a, c.in-Some.v) c.in-Some.is c.next.ensures.steps in
    let one_less = ap length more in
    let word : c.in-Some.a.now < 2 ^ 32 = omega arith in
    record {
      count = count_taken (λ e. not (is_some (get nat_cmp c.args.tree.now e.0)) && not (e.1 == 0)) c.loop-a.count _ _ _ _ more (is_added c.in-Some.v.now c.keeps.result _ c.keeps.ensures c.if-not-keeps.true c.if-v-ne0.true) c.loop-a.invariant.count;
      small = omega arith;
      addresses = all_taken (λ e. e.0 < 2 ^ 32) _ _ _ more word c.loop-a.invariant.addresses;
    }

pub loop-a-preserved : goal.loop-a-preserved
loop-a-preserved c =
    let more : c.loop-a.a-iterator ≡ (c.in-Some.a.now, c.in-Some.v.now) ∷ c.next.new.self = rest_more deref_pair _ _ _ (c.in-Some.a, c.in-Some.v) c.in-Some.is c.next.ensures.steps in
    let one_less = ap length more in
    let word : c.in-Some.a.now < 2 ^ 32 = omega arith in
    let fails : (not (is_some (get nat_cmp c.args.tree.now c.in-Some.a.now)) && not (c.in-Some.v.now == 0)) ≡ false =
    elim c.else-not-keeps.branch [
      | else-not-keeps-via-then-not-keeps+else-v-ne0 w ↦ not_set c.in-Some.v.now _ w.if-v-ne0.false
      | else-not-keeps-via-else-not-keeps w ↦ not_alone c.in-Some.v.now c.keeps.result _ c.keeps.ensures w.if-not-keeps.false
    ] in
    record {
      count = count_passed (λ e. not (is_some (get nat_cmp c.args.tree.now e.0)) && not (e.1 == 0)) c.loop-a.count _ _ _ _ more fails c.loop-a.invariant.count;
      small = omega arith;
      addresses = all_taken (λ e. e.0 < 2 ^ 32) _ _ _ more word c.loop-a.invariant.addresses;
    }
