use Rattle.std.proofs.Common.{◌≡◌, ◌++◌, ℕ}
use Rattle.dream_words.specs.declared.machine.Name.{Name}
use Rattle.c_syntax.specs.Spelling.{decimal, name_text}
use Rattle.c_syntax.specs.Text.{decls_text}
use Rattle.c_print.specs.Page.{puts}
use Rattle.c_print.proofs.fun.put_decls.Given as goal

-- the declarations so far
abbrev pub invariant-loop-n : goal.invariant-loop-n
invariant-loop-n l = (kind : ℕ → Name) → ((n : ℕ) → name_text (kind n) ≡ l.letter ++ decimal n) → l.page ≡ puts l.initial.page (decls_text kind l.n)
