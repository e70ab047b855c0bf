use Rattle.std.proofs.Common.{◌≡◌, ℕ, List, length, take, drop, ◌++◌, ◌∙◌, ap, subst, arith, replicate}
use Rattle.std.proofs.lemmas.Grind.{common_steps}
use Rattle.flow_stretches.specs.declared.comers.Comers.{Comers}
use Rattle.flow_stretches.specs.declared.comers.Comers.TheVariants as comers
use Rattle.flow_stretches.proofs.Coming.{AreNoted, up_to_none, up_to_more, up_to_skip, up_to_all, unreached}
use Rattle.flow_stretches.proofs.comers.comers_in.Goals as goal
use Rattle.flow_stretches.proofs.comers.comers_in.Goals.{then-reached-k, else-reached-k}

refill : (n : ℕ) (new old : List Comers) → length new ≡ n → take n (new ++ drop (length new) old) ≡ new
refill n new old e = grind (arith, common_steps)

pub loop-k-init : goal.loop-k-init
loop-k-init c =
    let marks : c.in_ok-comers.comers.items ≡ replicate (length c.args.g.now.succ) comers.Nobody =
    c.in_ok-comers.ensures.items_if_clones_equal (λ y e. e) ∙ ap (λ n. replicate n comers.Nobody) c.count.ensures.value in
    rw marks (up_to_none c.args.g.now)

pub loop-k-preserved : goal.loop-k-preserved
loop-k-preserved c =
    elim c.if-reached-k.branch [
      | then-reached-k w ↦
          let size : length w.note.new.comers ≡ c.loop-k.comers.len = omega (arith, w.note.auto.comers, w.deref_mut.ensures.len) in
          let same : length w.note.new.comers ≡ length c.loop-k.comers.items = omega (arith, w.note.auto.comers, ap length w.deref_mut.ensures.value) in
          rw (w.comers-is, refill c.loop-k.comers.len w.note.new.comers c.loop-k.comers.items size)
          (up_to_more c.args.g.now c.loop-k.k c.loop-k.comers.items w.note.new.comers same ((c.requires.exact c.loop-k.k).0 w.if-reached-k.true) c.loop-k.invariant
          (subst (λ ns. AreNoted c.loop-k.k ns c.loop-k.comers.items w.note.new.comers) w.succ.ensures.value
          (subst (λ cs. AreNoted c.loop-k.k w.succ.result.now cs w.note.new.comers) w.deref_mut.ensures.value (record { each = w.note.ensures }))))
      | else-reached-k w ↦ rw w.comers-is (up_to_skip c.args.g.now c.loop-k.k c.loop-k.comers.items (unreached c.args.g.now c.args.reached.now c.loop-k.k c.requires.exact w.if-reached-k.false) c.loop-k.invariant)
    ]

pub returns-clause-count : goal.returns-clause-count
returns-clause-count c = c.loop-k.invariant.count

pub returns-clause-comes : goal.returns-clause-comes
returns-clause-comes c = up_to_all c.args.g.now c.loop-k.k c.loop-k.comers.items (omega (arith, c.loop-k-test.false, c.count-k-end.ensures.value)) c.loop-k.invariant
