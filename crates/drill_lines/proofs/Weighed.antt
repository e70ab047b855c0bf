-- Counts of calls and of stores, of lists as far as a loop has come.
use Rattle.std.proofs.Common.{◌≡◌, ℕ, ◌+◌, ◌^◌, ◌<◌, ◌≤◌, List, [], ◌∷◌, length, map, drop, refl, ap, arith}
use Rattle.std.proofs.lemmas.List.{drop_all}
use Rattle.c_syntax.specs.declared.syntax.CStmt.{CStmt}
use Rattle.guarded.specs.Counts.{Weights, total, c_stmt_count, c_count}
use Rattle.drill_lines.specs.Statements.{at_most}

-- statements one after another
pub count_all_is : (w : Weights) (ss : List CStmt) → total (map (c_stmt_count w) ss) ≡ c_count w ss
count_all_is w [] = refl
count_all_is w (s ∷ ss) = ap (λ n. c_stmt_count w s + n) (count_all_is w ss)

-- all are counted where none is left
pub all_counted : {X : Type 0} (f : X → ℕ) (xs : List X) (i c g : ℕ) → length xs ≤ i → c < 2 ^ 64 → at_most (c + total (map f (drop i xs))) ≡ g → c ≡ g
all_counted f xs i c g l small inv =
    let t : total (map f (drop i xs)) ≡ 0 = ap (λ ys. total (map f ys)) (drop_all i xs l) in
    omega (arith, t, small, inv)
