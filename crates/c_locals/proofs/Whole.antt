-- A function without the locals that nothing reads is well formed where the first is.
use Rattle.std.proofs.Common.{◌≡◌, ◌<◌, ◌^◌, ℕ, Bool, true, nat_lt, ltb-true, lt-ltb, length, get_or, List, refl, sym, ap, ◌∙◌, subst, arith}
use Rattle.dream_words.specs.declared.machine.Name.TheVariants as name
use Rattle.c_syntax.specs.declared.syntax.CFun.{CFun}
use Rattle.c_syntax.specs.Formed.{IsWellFormed}
use Rattle.c_syntax.specs.declared.syntax.CStmt.{CStmt}
use Rattle.c_locals.specs.Marks.{Marks, marks_of}
use Rattle.c_locals.specs.Settled.{count_of, new_number, settled_all, settled_with, settled}
use Rattle.c_locals.specs.Keeps.{KeepsTurns, KeepsCounts}
use Rattle.c_locals.proofs.Numbers.{few, below_count}
use Rattle.c_locals.proofs.Marking.{all_known, as_temps, as_bools}
use Rattle.c_locals.proofs.FormedStmts.{all_allowed, all_deep}
use Rattle.c_locals.proofs.FormedWords.{Declares}
use Rattle.c_locals.proofs.StmtRuns.{runs_kept}
use Rattle.c_locals.proofs.Counting as counting

-- the new number of a local that is kept is declared
in_count : (bs : List Bool) (n d : ℕ) → length bs ≡ d → get_or bs n true ≡ true → nat_lt n d ≡ true → nat_lt (new_number bs n) (count_of bs) ≡ true
in_count bs n d l e h =
    let i : n < length bs = let j = ltb-true n d h in omega (arith, j, l) in
    let k : new_number bs n < count_of bs = let g = below_count bs 0 n n i e in omega (arith, g) in
    lt-ltb _ _ k

declares : (f : CFun) → Declares (marks_of f) f (settled f)
declares f (name.Reg n) e h = h
declares f (name.Flag n) e h = h
declares f name.Fs e h = refl
declares f name.Gs e h = refl
declares f (name.T n) e h = in_count (marks_of f).temps n f.temps (as_temps f) e h
declares f (name.B n) e h = in_count (marks_of f).bools n f.bools (as_bools f) e h
declares f (name.S n) e h = h

pub stays_formed : (f : CFun) → IsWellFormed f → IsWellFormed (settled f)
stays_formed f h = record {
  address = h.address;
  temps = let c = few (marks_of f).temps in let l = as_temps f in let t = h.temps in omega (arith, c, l, t);
  bools = let c = few (marks_of f).bools in let l = as_bools f in let t = h.bools in omega (arith, c, l, t);
  selectors = h.selectors;
  allowed = all_allowed (marks_of f) f (settled f) (declares f) f.body (all_known f) h.allowed;
  depth = let d = all_deep (marks_of f) f (settled f) (declares f) f.body in let t = h.depth in omega (arith, d, t);
}

pub keeps_turns : (f : CFun) → KeepsTurns f (settled f)
keeps_turns f = runs_kept (marks_of f) f (all_known f)

pub keeps_counts : (f : CFun) → KeepsCounts f (settled f)
keeps_counts f = counting.keeps_counts (marks_of f) f

-- its marks are few
pub few_temps : (f : CFun) (m : Marks) → m ≡ marks_of f → f.temps < 2 ^ 32 → length m.temps < 2 ^ 32
few_temps f m e h = subst (λ (k : Marks). length k.temps < 2 ^ 32) (sym e) (let l = as_temps f in omega (arith, l, h))

pub few_bools : (f : CFun) (m : Marks) → m ≡ marks_of f → f.bools < 2 ^ 32 → length m.bools < 2 ^ 32
few_bools f m e h = subst (λ (k : Marks). length k.bools < 2 ^ 32) (sym e) (let l = as_bools f in omega (arith, l, h))

by_parts : CFun → ℕ → ℕ → List CStmt → CFun
by_parts f temps bools body = record { address = f.address; temps = temps; bools = bools; selectors = f.selectors; body = body }

-- what is built is that function
pub settled_by : (f : CFun) (m : Marks) (temps bools : ℕ) (body : List CStmt) → m ≡ marks_of f → temps ≡ count_of m.temps → bools ≡ count_of m.bools → body ≡ settled_all m f.body
    → ◌≡◌ {A = CFun} (record { address = f.address; temps = temps; bools = bools; selectors = f.selectors; body = body }) (settled f)
unfolding by_parts
settled_by f m temps bools body e t b s =
    ap (λ (x : ℕ). by_parts f x bools body) t ∙ ap (λ (x : ℕ). by_parts f (count_of m.temps) x body) b ∙ ap (λ (x : List CStmt). by_parts f (count_of m.temps) (count_of m.bools) x) s
    ∙ ap (λ (k : Marks). settled_with k f) e

-- What is promised of a function that is that one.
pub record Promised (f g : CFun) : Type 0 where
  pub formed : IsWellFormed g
  pub runs : KeepsTurns f g
  pub counts : KeepsCounts f g

pub promised : (f g : CFun) → IsWellFormed f → g ≡ settled f → Promised f g
promised f g h e = subst (Promised f) (sym e) (record { formed = stays_formed f h; runs = keeps_turns f; counts = keeps_counts f })
