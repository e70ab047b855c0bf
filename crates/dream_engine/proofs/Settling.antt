-- A function that does what the function of a range does is a function of that range.
use Rattle.std.proofs.Common.{◌≡◌, ◌⊎◌, inl, inr, ℕ, List, Option, sym, ap, subst, ◌∙◌}
use Rattle.std.proofs.Math.Path.{fun_ext}
use Rattle.elf_image.specs.declared.image.Segment.{Segment}
use Rattle.elf_image.specs.declared.range.Range.{Range}
use Rattle.dream_words.specs.declared.outcome.Outcome.{Outcome}
use Rattle.dream_words.specs.declared.outcome.Start.{Start}
use Rattle.dream_words.specs.declared.outcome.Answer.{Answer}
use Rattle.dream_words.specs.declared.outcome.Outcome.TheVariants as outcome
use Rattle.dream_words.specs.Agreement.{Agreeing}
use Rattle.dream_words.specs.Same.{IsEnded}
use Rattle.machine.specs.Run.{machine_run}
use Rattle.c_syntax.specs.declared.syntax.CFun.{CFun}
use Rattle.c_syntax.specs.Formed.{IsWellFormed}
use Rattle.c_syntax.specs.Run.{c_run}
use Rattle.c_conds.specs.Keeps.{HasTurns}
use Rattle.c_locals.specs.Keeps.{KeepsTurns, KeepsCounts}
use Rattle.dream_engine.specs.declared.form.Form.{Form}
use Rattle.dream_engine.specs.declared.form.Form.TheVariants.{Structured, Plain}
use Rattle.dream_engine.specs.Agreement.{Agrees, HasTurnsAtHeads, HasForm, IsSelectorLoop, IsStraightLine, IsFunctionOf}
use Rattle.dream_engine.specs.Settled.{IsSettledOf}

-- one after the other
pub settled_by : (f placed g : CFun) → HasTurns f placed → KeepsCounts f placed → placed.address ≡ f.address → IsWellFormed g → KeepsTurns placed g → KeepsCounts placed g → g.address ≡ placed.address → IsSettledOf f g
settled_by f placed g same counts at formed keeps more to = record {
  formed = formed;
  runs = record { by = λ start answers m free. keeps.by start answers m (λ e. free (sym (same.by start answers m) ∙ e)) ∙ same.by start answers m };
  counts = record {
    loops = more.loops ∙ counts.loops;
    tests = more.tests ∙ counts.tests;
    calls = more.calls ∙ counts.calls;
    stores = more.stores ∙ counts.stores;
    selectors = more.selectors ∙ counts.selectors;
  };
  address = to ∙ at;
}

-- the same outcome, where that is ended
settled_run : (f g : CFun) (start : Start) (answers : List Answer) (m : ℕ) (o : Outcome) → IsSettledOf f g → c_run f start answers m ≡ o → IsEnded o → c_run g start answers m ≡ o
settled_run f g start answers m o s e ended = s.runs.by start answers m (λ stuck. subst IsEnded (sym e ∙ stuck) ended) ∙ e

settled_agrees : (m : List Segment) (r : Range) (f g : CFun) → IsSettledOf f g → Agrees m r f → Agrees m r g
settled_agrees m r f g s a = record {
  address = s.address ∙ a.address;
  runs = λ decoded d start i answers w.
      let old = a.runs decoded d start i answers w in
      subst (λ run. Agreeing (machine_run m r decoded start answers) run) (sym (fun_ext (λ k. s.runs.by start answers k (old.never_stuck k)))) old;
}

settled_loop : (f g : CFun) → IsSettledOf f g → IsSelectorLoop f → IsSelectorLoop g
settled_loop f g s h = (s.counts.loops ∙ h.0, s.counts.selectors ∙ h.1)

settled_line : (f g : CFun) → IsSettledOf f g → IsStraightLine f → IsStraightLine g
settled_line f g s (loops, tests, selectors) = (s.counts.loops ∙ loops, s.counts.tests ∙ tests, s.counts.selectors ∙ selectors)

settled_turns : (m : List Segment) (r : Range) (f g : CFun) → IsSettledOf f g → HasTurnsAtHeads m r f → HasTurnsAtHeads m r g
settled_turns m r f g s h = record {
  flow = h.flow;
  head = h.head;
  agrees = h.agrees;
  turns = λ start answers never k ended. settled_run f g start answers _ _ s (h.turns start answers never k ended) ended;
}

settled_form : (form : Form) (m : List Segment) (r : Range) (f g : CFun) → IsSettledOf f g → HasForm form m r f → HasForm form m r g
settled_form Plain m r f g s h = settled_loop f g s h
settled_form Structured m r f g s (inl h) = inl (settled_line f g s h)
settled_form Structured m r f g s (inr (inl h)) = inr (inl (settled_turns m r f g s h))
settled_form Structured m r f g s (inr (inr h)) = inr (inr (settled_loop f g s h))

pub settled_function : (form : Form) (m : List Segment) (r : Range) (f g : CFun) → IsFunctionOf form m r f → IsSettledOf f g → IsFunctionOf form m r g
settled_function form m r f g h s = record {
  no_place = h.no_place;
  formed = s.formed;
  in_form = settled_form form m r f g s h.in_form;
  agrees = settled_agrees m r f g s h.agrees;
}
