use Rattle.std.proofs.Common.{◌+◌, ◌∙◌, sym, arith}
use Rattle.std.proofs.lemmas.Bool.{false≢true}
use Rattle.std.proofs.lemmas.Result.{IfOk-weaker}
use Rattle.cond_terms.proofs.Layers.{truth_true, literals_true}
use Rattle.cond_terms.proofs.Nested.{nesting_true}
use Rattle.cond_terms.proofs.reached.guard_of.Goals as goal

pub returns-then-is_entry : goal.returns-then-is_entry
returns-then-is_entry c = record {
  at_entry = λ e v. truth_true v;
  others = λ e. absurd (false≢true (sym e ∙ c.if-is_entry.true));
  named = omega (arith, literals_true);
  shallow = λ a d small few. omega (arith, nesting_true);
}

pub returns : goal.returns
returns c =
    IfOk-weaker c.shortened.result _ _
    (λ m s. record {
      at_entry = λ e. absurd (false≢true (sym c.if-is_entry.false ∙ e));
      others = λ _ v. ((λ h. (c.in_ok-any.ensures.truth v).0 (sym (s.truth v) ∙ h)), (λ w. s.truth v ∙ (c.in_ok-any.ensures.truth v).1 w));
      named = s.named;
      shallow = λ a d small few. s.shallow (64 + a + d) (omega arith) (c.in_ok-any.ensures.shallow a 64 d small few);
    })
    c.shortened.ensures
