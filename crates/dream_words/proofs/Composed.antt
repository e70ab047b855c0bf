-- Agreement goes on through a meaning in between.
use Rattle.std.proofs.Common.{◌≡◌, ◌⊎◌, inl, inr, ℕ, refl, sym, subst}
use Rattle.dream_words.specs.declared.outcome.Outcome.{Outcome}
use Rattle.dream_words.specs.declared.outcome.Outcome.TheVariants.{Returned, Faulted, Asking, Strayed, Undecoded, Stuck, Going}
use Rattle.dream_words.specs.Same.{Same, IsEnded, calls_of, AreFront}
use Rattle.dream_words.specs.Agreement.{Agreeing, Strays}
use Rattle.dream_words.proofs.Outcomes.{Same_sym, Same_trans, Same-IsEnded, AreFront_trans, AreFront-Same}

module _ (first second third : ℕ → Outcome) (a : Agreeing first second) (b : Agreeing second third) (kept : Strays second → ⊥) where
  ends_on : (n k : ℕ) → IsEnded (first n) → Same (first n) (second k) → (m : ℕ) × Same (first n) (third m)
  ends_on n k h s =
      let e = b.ends_alike k (Same-IsEnded (first n) (second k) s h) in
      (e.0, Same_trans (first n) (second k) (third e.0) s e.1)

  ends_back : (m : ℕ) → IsEnded (third m) → ((k : ℕ) × Same (second k) (third m)) ⊎ Strays second → ((n : ℕ) × Same (first n) (third m)) ⊎ Strays first
  ends_back m h (inr s) = absurd (kept s)
  ends_back m h (inl (k, s)) =
      elim (a.ends_only_so k (Same-IsEnded (third m) (second k) (Same_sym (second k) (third m) s) h)) [
        | inl e ↦ inl (e.0, Same_trans (first e.0) (second k) (third m) e.1 s)
        | inr e ↦ inr e
      ]

  ended_calls : (k : ℕ) → IsEnded (second k) → (m : ℕ) × AreFront (calls_of (second k)) (calls_of (third m))
  ended_calls k h = let e = b.ends_alike k h in (e.0, AreFront-Same (second k) (third e.0) e.1)

  -- the calls of the middle meaning are a front of the last one's
  calls_on : (k : ℕ) (o : Outcome) → second k ≡ o → (m : ℕ) × AreFront (calls_of (second k)) (calls_of (third m))
  calls_on k (Going cs) e = b.calls_agree k (cs, e)
  calls_on k Strayed e = absurd (kept (k, e))
  calls_on k Undecoded e = absurd (b.never_undecoded k e)
  calls_on k Stuck e = absurd (a.never_stuck k e)
  calls_on k (Returned r m cs) e = ended_calls k (subst (λ o. IsEnded o) (sym e) tt)
  calls_on k (Faulted v a m cs) e = ended_calls k (subst (λ o. IsEnded o) (sym e) tt)
  calls_on k (Asking cs) e = ended_calls k (subst (λ o. IsEnded o) (sym e) tt)

  calls_back : (m : ℕ) → ((k : ℕ) × AreFront (calls_of (third m)) (calls_of (second k))) ⊎ Strays second → ((n : ℕ) × AreFront (calls_of (third m)) (calls_of (first n))) ⊎ Strays first
  calls_back m (inr s) = absurd (kept s)
  calls_back m (inl (k, f)) =
      elim (a.calls_only_so k) [
        | inl e ↦ inl (e.0, AreFront_trans (calls_of (third m)) (calls_of (second k)) (calls_of (first e.0)) f e.1)
        | inr e ↦ inr e
      ]

  pub composed : Agreeing first third
  composed = record {
    ends_alike = λ n h. let e = a.ends_alike n h in ends_on n e.0 h e.1;
    ends_only_so = λ m h. ends_back m h (b.ends_only_so m h);
    calls_agree = λ n h.
        let e = a.calls_agree n h in
        let f = calls_on e.0 (second e.0) refl in
        (f.0, AreFront_trans (calls_of (first n)) (calls_of (second e.0)) (calls_of (third f.0)) e.1 f.1);
    calls_only_so = λ m. calls_back m (b.calls_only_so m);
    never_stuck = b.never_stuck;
    never_undecoded = a.never_undecoded;
  }
