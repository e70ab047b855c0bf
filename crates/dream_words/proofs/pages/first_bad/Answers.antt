use Rattle.std.proofs.Common.{◌≡◌, ℕ, suc, ◌+◌, ◌-◌, ◌%◌, ◌^◌, Bool, true, false, Option, Some, None, refl, sym, ap, ◌∙◌, subst, arith, rules}
use Rattle.std.specs.Prelude.{◌==◌, not}
use Rattle.dream_words.specs.Memory.{bytes_of}
use Rattle.dream_words.specs.Pages.{page_of, is_in, first_bad as first_bad_of}
use Rattle.dream_words.proofs.Allowed.{step_on, step_off, no_more}
use Rattle.dream_words.proofs.pages.first_bad.Goals as goal

pub returns-then-not-is_allowed : goal.returns-then-not-is_allowed
returns-then-not-is_allowed c =
    let more : bytes_of c.args.w - c.loop-k.k ≡ suc (bytes_of c.args.w - (c.loop-k.k + 1)) = search rules in
    let off : is_in (page_of ((c.args.at + c.loop-k.k) % 2 ^ 32)) c.args.runs.now ≡ false = search rules in
    sym (ap (first_bad_of c.args.runs.now (c.args.at + c.loop-k.k)) more ∙ step_off c.args.runs.now (c.args.at + c.loop-k.k) (bytes_of c.args.w - (c.loop-k.k + 1)) off) ∙ c.loop-k.invariant.left

pub loop-k-preserved : goal.loop-k-preserved
loop-k-preserved c =
    let more : bytes_of c.args.w - c.loop-k.k ≡ suc (bytes_of c.args.w - (c.loop-k.k + 1)) = search rules in
    let on : is_in (page_of ((c.args.at + c.loop-k.k) % 2 ^ 32)) c.args.runs.now ≡ true = search rules in
    let same : c.args.at + c.loop-k.k + 1 ≡ c.args.at + (c.loop-k.k + 1) = omega arith in
    record {
      left = ap (λ a. first_bad_of c.args.runs.now a (bytes_of c.args.w - (c.loop-k.k + 1))) (sym same)
          ∙ sym (ap (first_bad_of c.args.runs.now (c.args.at + c.loop-k.k)) more ∙ step_on c.args.runs.now (c.args.at + c.loop-k.k) (bytes_of c.args.w - (c.loop-k.k + 1)) on)
          ∙ c.loop-k.invariant.left;
    }

pub returns : goal.returns
returns c =
    let none : bytes_of c.args.w - c.loop-k.k ≡ 0 = search rules in
    sym (no_more c.args.runs.now (c.args.at + c.loop-k.k)) ∙ ap (first_bad_of c.args.runs.now (c.args.at + c.loop-k.k)) (sym none) ∙ c.loop-k.invariant.left
