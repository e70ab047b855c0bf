use Rattle.std.proofs.Common.{◌≡◌, Option, Some, None, refl, ap, sym, ◌∙◌}
use Rattle.dream_words.specs.Memory.{load, bytes_of}
use Rattle.run_parts.specs.Parts.{Ends, Past}
use Rattle.run_parts.specs.Steps.{Next, done, having}
use Rattle.run_parts.specs.Effects.{set_word, allowing, loading}
use Rattle.c_run.specs.State.{world_of}
use Rattle.c_run.proofs.state.State.load.Goals as goal

-- what is no `Some` is `None`
is_none : {A : Type 0} (o : Option A) → ((x : A) → o ≡ Some x → ⊥) → o ≡ None
is_none None h = refl
is_none (Some x) h = absurd (h x refl)

pub returns : goal.returns
returns c = λ left m. let w = world_of left c.args.self.now in
    ap (λ v. Ends (Past v) m) ((c.in_ok-assign.ensures {u = tt}) left)
    ∙ ap (λ x. Ends (Past (set_word c.args.n x w)) m) c.load-x.ensures
    ∙ sym (ap (λ bad. done (allowing bad w (Next (set_word c.args.n (load w.mem c.in-Some.at (bytes_of c.args.width)) w))) m) (sym c.first_bad.ensures ∙ is_none c.first_bad.result c.in_default-first_bad.not-Some))
    ∙ sym (ap (λ o. done (having o (λ at. loading c.args.n c.args.width at w)) m) (sym c.value.ensures ∙ c.in-Some.is))
