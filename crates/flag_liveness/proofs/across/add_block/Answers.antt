use Rattle.std.proofs.Common.{◌∙◌, false}
use Rattle.std.specs.Ordering.{nat_cmp}
use Rattle.std.specs.BTreeSet as set
use Rattle.dream_words.specs.declared.machine.Name.TheVariants.{T}
use Rattle.flow_passes.proofs.Names.{or_left, or_right}
use Rattle.flag_liveness.proofs.Crossing.{only_live}
use Rattle.flag_liveness.proofs.across.add_block.Goals as goal

pub returns : goal.returns
returns c = record {
  keeps = λ i t. c.in_ok-append.ensures.inserts_all.0 i ∙ or_left _ _ t;
  adds = λ i t r. c.in_ok-append.ensures.inserts_all.0 i ∙ or_right _ _ (only_live (set.contains nat_cmp c.in_ok-seen.seen.live i) c.in_ok-seen.seen.goes_on _ (c.in_ok-seen.ensures (λ k. false) (T i) t) r);
}
