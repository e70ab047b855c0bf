-- The lines of two runs, one after the other.
use Rattle.std.proofs.Common.{◌≡◌, ℕ, ◌*◌, List, [], ◌++◌, Option, subst, ap, ◌∙◌}
use Rattle.elf_image.specs.declared.image.Segment.{Segment}
use Rattle.elf_image.specs.declared.range.Range.{Range}
use Rattle.dream_words.specs.declared.outcome.Start.{Start}
use Rattle.x86_inst.specs.declared.Inst.{Inst}
use Rattle.machine.specs.Run.{machine_run}
use Rattle.c_syntax.specs.declared.syntax.CFun.{CFun}
use Rattle.c_syntax.specs.Run.{c_run}
use Rattle.run_lines.specs.Lines.{line_of}
use Rattle.dream_top.specs.Runs.{two_lines}

pub joined : (m : List Segment) (r : Range) (decoded : ℕ → Option (Inst × ℕ)) (f : CFun) (start : Start) (n k : ℕ) (a b c all : List ℕ) → k ≡ n
    → a ≡ line_of (machine_run m r decoded start [] k) start.mem → b ≡ line_of (c_run f start [] (2 * k)) start.mem → c ≡ b → all ≡ a ++ c
    → all ≡ two_lines m r decoded f start n
joined m r decoded f start n k a b c all e p q s t =
    subst (λ j. all ≡ two_lines m r decoded f start j) e
    (t ∙ ap (λ x. a ++ x) (s ∙ q) ∙ ap (λ x. x ++ line_of (c_run f start [] (2 * k)) start.mem) p)
