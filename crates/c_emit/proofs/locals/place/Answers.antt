use Rattle.std.proofs.Common.{ltb, ltb-true, ltb-false, arith, rules}
use Rattle.std.proofs.lemmas.List.Sorted.{IsPartitionPoint-from_clause, IsPartitionedBy-ltb}
use Rattle.std.proofs.lemmas.Map.Keys.{sorted_from_strictly_increasing, non_decreasing_from_sorted}
use Rattle.c_emit.proofs.locals.place.Goals as goal

pub returns : goal.returns
returns c =
    let rises = non_decreasing_from_sorted c.args.numbers.now (sorted_from_strictly_increasing c.args.numbers.now c.requires) in
    let parted = IsPartitionedBy-ltb (λ p. p) c.args.numbers.now c.args.n rises in
    let point = IsPartitionPoint-from_clause (λ p. ltb p c.args.n) _ _ c.partition_point.ensures.partitioned parted (λ a r q k. search rules) in
    record {
      within = c.partition_point.ensures.bound;
      before = λ j h. ltb-true _ _ (point.0 j 0 (omega arith) h);
      after = λ j h l. ltb-false _ _ (point.1 j 0 h l);
    }
