-- All of the statements of two lists, one after the other, are allowed.
use Rattle.std.proofs.Common.{map, ◌≡◌, Bool, true, List, [], ◌∷◌, ◌++◌, refl}
use Rattle.c_syntax.specs.declared.syntax.CStmt.{CStmt}
use Rattle.c_syntax.specs.declared.syntax.CFun.{CFun}
use Rattle.c_syntax.specs.Formed.{all, stmt_allowed}
use Rattle.c_locals.proofs.Bools.{and_first, and_second, and_both}

pub all_first : (f : CFun) (xs ys : List CStmt) (b : Bool) → all (map (stmt_allowed f) (xs ++ ys)) b ≡ true → all (map (stmt_allowed f) xs) b ≡ true
all_first f [] ys b h = refl
all_first f (x ∷ xs) ys b h = and_both _ _ (and_first _ _ h) (all_first f xs ys b (and_second (stmt_allowed f x b) _ h))

pub all_second : (f : CFun) (xs ys : List CStmt) (b : Bool) → all (map (stmt_allowed f) (xs ++ ys)) b ≡ true → all (map (stmt_allowed f) ys) b ≡ true
all_second f [] ys b h = h
all_second f (x ∷ xs) ys b h = all_second f xs ys b (and_second (stmt_allowed f x b) _ h)

pub all_both : (f : CFun) (xs ys : List CStmt) (b : Bool) → all (map (stmt_allowed f) xs) b ≡ true → all (map (stmt_allowed f) ys) b ≡ true → all (map (stmt_allowed f) (xs ++ ys)) b ≡ true
all_both f [] ys b h k = k
all_both f (x ∷ xs) ys b h k = and_both _ _ (and_first _ _ h) (all_both f xs ys b (and_second (stmt_allowed f x b) _ h) k)
