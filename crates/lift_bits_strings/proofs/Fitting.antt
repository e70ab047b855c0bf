-- Statements that are fit, with statements before them that don't store.
use Rattle.std.proofs.Common.{◌≡◌, ℕ, ◌+◌, List, ◌∷◌, ◌++◌, subst, arith}
use Rattle.std.specs.Prelude.{IsTrue}
use Rattle.micro_ir.specs.declared.flow.Stmt.{Stmt}
use Rattle.micro_ir.specs.Counts.{calls_of_stmt, stores_of_stmt}
use Rattle.micro_ir.specs.Rule.{is_flow_stmt}
use Rattle.lift_parts.specs.Safe.{is_safe_stmt}
use Rattle.lift_parts.proofs.Fit.{AreFit, fit_append, more_fit}

none_more : (n : ℕ) → 0 + n ≡ n
none_more n = omega arith

more_none : (n : ℕ) → n + 0 ≡ n
more_none n = omega arith

pub before_fit : (s : Stmt) (ss : List Stmt) (n : ℕ) → IsTrue (is_flow_stmt s) → IsTrue (is_safe_stmt s) → stores_of_stmt s ≡ 0 → calls_of_stmt s ≡ 0 → AreFit n ss → AreFit n (s ∷ ss)
before_fit s ss n h k l m r = subst (λ n. AreFit n (s ∷ ss)) (none_more n) (more_fit s ss n 0 h k l m r)

pub after_fit : (xs ys : List Stmt) (n : ℕ) → AreFit 0 xs → AreFit n ys → AreFit n (xs ++ ys)
after_fit xs ys n h k = subst (λ n. AreFit n (xs ++ ys)) (none_more n) (fit_append xs ys 0 n h k)

pub then_fit : (xs ys : List Stmt) (n : ℕ) → AreFit n xs → AreFit 0 ys → AreFit n (xs ++ ys)
then_fit xs ys n h k = subst (λ n. AreFit n (xs ++ ys)) (more_none n) (fit_append xs ys n 0 h k)
