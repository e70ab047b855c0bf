use Rattle.std.proofs.Common.{◌≡◌, ℕ, List, sym, ap, subst, length, ◌∙◌}
use Rattle.x86_inst.specs.declared.Inst.{Inst}
use Rattle.x86_inst.specs.Spelling.{Spells}
use Rattle.std.proofs.lemmas.Bool.{eqb-true}
use Rattle.x86_encode.specs.Bytes.{bytes_of}
use Rattle.x86_encode.proofs.Fronts.{of_whole, same_reading, not_none, read_back}
use Rattle.x86_encode.proofs.trial.spells.Goals as goal

pub returns-then-from-bytes-clause-spelling : goal.returns-then-from-bytes-clause-spelling
returns-then-from-bytes-clause-spelling c =
    let d = c.in-Inst.ensures in
    let n : c.in-Inst.len ≡ length c.as_slice-bytes.result.now = sym c.from.ensures ∙ c.if-from-bytes.true in (
      λ t.
          subst (λ (l : List ℕ). Spells l c.args.i.now) c.as_slice-bytes.ensures.bytes
          (subst (λ (j : Inst). Spells c.as_slice-bytes.result.now j) (c.same.ensures.0 t) (of_whole c.as_slice-bytes.result.now c.in-Inst.len c.in-Inst.j n d.1)),
      λ h.
          c.same.ensures.1
          (same_reading c.one_reading.ensures c.as_slice-bytes.result.now c.in-Inst.len c.args.i.now c.in-Inst.j d.0
          (subst (λ (l : List ℕ). Spells l c.args.i.now) (sym c.as_slice-bytes.ensures.bytes) h) d.1).1,
    )

pub returns-else-from-bytes-clause-spelling : goal.returns-else-from-bytes-clause-spelling
returns-else-from-bytes-clause-spelling c =
    let d = c.in-Inst.ensures in (
      λ t. absurd (c.if-from-bytes.false (eqb-true _ _ t)),
      λ h.
          absurd
          (c.if-from-bytes.false
          (c.from.ensures ∙
          (same_reading c.one_reading.ensures c.as_slice-bytes.result.now c.in-Inst.len c.args.i.now c.in-Inst.j d.0
          (subst (λ (l : List ℕ). Spells l c.args.i.now) (sym c.as_slice-bytes.ensures.bytes) h) d.1).0)),
    )

pub returns-in-Cut-clause-spelling : goal.returns-in-Cut-clause-spelling
returns-in-Cut-clause-spelling c = (
  λ t. absurd cc,
  λ h. absurd (not_none c.as_slice-bytes.result.now c.args.i.now (subst (λ (l : List ℕ). Spells l c.args.i.now) (sym c.as_slice-bytes.ensures.bytes) h) c.in-Cut.ensures.0),
)

pub returns-in-None-clause-spelling : goal.returns-in-None-clause-spelling
returns-in-None-clause-spelling c = (
  λ t. absurd cc,
  λ h. absurd (not_none c.as_slice-bytes.result.now c.args.i.now (subst (λ (l : List ℕ). Spells l c.args.i.now) (sym c.as_slice-bytes.ensures.bytes) h) c.in-None.ensures.0),
)

pub returns-then-from-bytes-clause-read_back : goal.returns-then-from-bytes-clause-read_back
returns-then-from-bytes-clause-read_back c =
    λ t d h.
    let x = c.as_slice-bytes.ensures.bytes in
    let s = (returns-then-from-bytes-clause-spelling c).0 t in
    read_back c.one_reading.ensures (bytes_of c.args.code.now) c.args.i.now c.args.code.now.len (sym (ap length x) ∙ c.as_slice-bytes.ensures.len) s d h
