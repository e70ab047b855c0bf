-- A function whose body is like another's has its runs and counts, and is well formed where it is.
use Rattle.std.proofs.Common.{map, ◌≡◌, ℕ, ◌+◌, max, Bool, true, false, ◌&&◌, List, [], ◌∷◌, refl, sym, ap, ◌∙◌, subst, arith}
use Rattle.run_parts.specs.World.{start_world, outcome_of}
use Rattle.c_syntax.specs.declared.syntax.CStmt.{CStmt}
use Rattle.c_syntax.specs.declared.syntax.CFun.{CFun}
use Rattle.c_syntax.specs.Depth.{deepest, stmt_depth, stmts_depth}
use Rattle.c_syntax.specs.Formed.{Allowed, all, stmt_allowed, stmts_allowed, IsWellFormed}
use Rattle.c_syntax.specs.Run.{Part}
use Rattle.guarded.specs.Counts.{Weights, total, c_stmt_count, c_count, each_loop, each_test, each_ext, each_store}
use Rattle.c_conds.specs.Placed.{AreLike}
use Rattle.c_locals.specs.Keeps.{KeepsCounts}
use Rattle.c_locals.proofs.FormedStmts.{all_is, deepest_is}
use Rattle.c_conds.specs.Keeps.{HasTurns}
use Rattle.c_conds.proofs.Formed.{with_body, stmts_same}

count_is : (w : Weights) (ss : List CStmt) → total (map (c_stmt_count w) ss) ≡ c_count w ss
count_is w [] = refl
count_is w (s ∷ ss) = ap (λ (n : ℕ). c_stmt_count w s + n) (count_is w ss)

counted : (w : Weights) (ss ts : List CStmt) → AreLike ss ts → c_count w ts ≡ c_count w ss
counted w ss ts a = sym (count_is w ts) ∙ a.counts w ∙ count_is w ss

-- What is promised of the function.
pub record Promised (f g : CFun) : Type 0 where
  pub formed : IsWellFormed g
  pub runs : HasTurns f g
  pub counts : KeepsCounts f g

pub promised : (f : CFun) (ts : List CStmt) → IsWellFormed f → AreLike f.body ts → Promised f (with_body f ts)
promised f ts h a = record {
  formed = record {
    address = h.address;
    temps = h.temps;
    bools = h.bools;
    selectors = h.selectors;
    allowed =
        let k : all (map (stmt_allowed (with_body f ts)) f.body) false ≡ true =
        subst (λ (p : CStmt → Allowed). all (map p f.body) false ≡ true) (stmts_same f ts) (all_is f f.body ∙ h.allowed) in
        sym (all_is (with_body f ts) ts) ∙ a.allowed (with_body f ts) false k;
    depth = let d = a.deep in let p = deepest_is ts in let q = deepest_is f.body in let t = h.depth in omega (arith, d, p, q, t);
  };
  runs = record { by = λ start answers m. ap (λ (p : Part). outcome_of (p m (start_world start answers))) a.does };
  counts = record {
    loops = counted each_loop f.body ts a;
    tests = counted each_test f.body ts a;
    calls = counted each_ext f.body ts a;
    stores = counted each_store f.body ts a;
    selectors = refl;
  };
}
