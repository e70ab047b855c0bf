-- What Conds, statements and lists of them keep when conditions are put in the place of locals.
use Rattle.std.specs.Prelude.{◌≡◌, ◌≤◌, ℕ, Bool, true, not, map, List, [], ◌∷◌, Some}
use Rattle.dream_words.specs.declared.machine.Name.TheVariants as name
use Rattle.dream_words.specs.Words.{bit_of}
use Rattle.run_parts.specs.Parts.{Ends, Past, seq}
use Rattle.run_parts.specs.World.{Names, World, with_name}
use Rattle.c_syntax.specs.declared.syntax.CExpr.{CExpr}
use Rattle.c_syntax.specs.declared.syntax.CCond.{CCond}
use Rattle.c_syntax.specs.declared.syntax.CStmt.{CStmt}
use Rattle.c_syntax.specs.declared.syntax.CArm.{CArm}
use Rattle.c_syntax.specs.declared.syntax.CGroup.{CGroup}
use Rattle.c_syntax.specs.declared.syntax.CFun.{CFun}
use Rattle.c_syntax.specs.Value.{each, word_of, truth_of}
use Rattle.c_syntax.specs.Depth.{cond_depth, deepest, stmt_depth, arm_depth, group_depth}
use Rattle.c_syntax.specs.Formed.{all, names_cond, word_allowed, cond_allowed, stmt_allowed, arm_allowed, group_allowed}
use Rattle.c_syntax.specs.Run.{holds, run, run_arm, run_group, run_all}
use Rattle.guarded.specs.Counts.{Weights, total, c_stmt_count, c_arm_count, c_group_count}

-- The second Cond is the opposite of the first.
pub record IsOpposite (t u : CCond) : Type 0 where
  pub truth : (v : Names) → truth_of u v ≡ each not (truth_of t v)
  pub names : (f : CFun) → names_cond f t ≡ true → names_cond f u ≡ true

-- The Cond u is t with the condition c in the place of a local that holds its outcome.
pub record IsPlaced (k : ℕ) (c t u : CCond) : Type 0 where
  pub truth : (v : Names) (x : Bool) → truth_of c v ≡ Some x → v (name.B k) ≡ bit_of x → truth_of u v ≡ truth_of t v
  pub names : (f : CFun) → names_cond f c ≡ true → names_cond f t ≡ true → names_cond f u ≡ true

-- And it nests no deeper than a Cond may.
pub record IsSmall (k : ℕ) (c t u : CCond) : Type 0 where
  pub placed : IsPlaced k c t u
  pub deep : cond_depth u ≤ 256

-- After a local for the outcome of a test is set to a word, the Cond u holds just where t does.
pub record SetHolds (k : ℕ) (e : CExpr) (t u : CCond) : Type 0 where
  pub truth : (v : Names) (x : ℕ) → word_of e v ≡ Some x → truth_of u (with_name v (name.B k) x) ≡ truth_of t (with_name v (name.B k) x)
  pub allowed : (f : CFun) → word_allowed f e ≡ true → cond_allowed f t ≡ true → cond_allowed f u ≡ true

-- After statements that come to their end, the Cond u holds just where t does; it is allowed where they and t are.
pub record HoldsAfter (before : List CStmt) (t u : CCond) : Type 0 where
  pub truth : (n k : ℕ) (w w' : World) → run_all before n w ≡ Ends (Past w') k → holds u w' ≡ holds t w'
  pub allowed : (f : CFun) (b : Bool) → all (map (stmt_allowed f) before) b ≡ true → cond_allowed f t ≡ true → cond_allowed f u ≡ true

-- After statements, t does what s does; it has its counts and its depth, and is allowed where they and s are.
pub record FollowsLike (before : List CStmt) (s t : CStmt) : Type 0 where
  pub does : seq (run_all before) (run t) ≡ seq (run_all before) (run s)
  pub counts : (w : Weights) → c_stmt_count w t ≡ c_stmt_count w s
  pub deep : stmt_depth t ≡ stmt_depth s
  pub allowed : (f : CFun) (b : Bool) → all (map (stmt_allowed f) before) b ≡ true → stmt_allowed f s b ≡ true → stmt_allowed f t b ≡ true

-- Statements ts do what ss do, have their counts and their depth, and are allowed where they are.
pub record AreLike (ss ts : List CStmt) : Type 0 where
  pub does : run_all ts ≡ run_all ss
  pub counts : (w : Weights) → total (map (c_stmt_count w) ts) ≡ total (map (c_stmt_count w) ss)
  pub deep : deepest (map stmt_depth ts) ≡ deepest (map stmt_depth ss)
  pub allowed : (f : CFun) (b : Bool) → all (map (stmt_allowed f) ss) b ≡ true → all (map (stmt_allowed f) ts) b ≡ true

-- An arm of an `if` after statements: a test that holds alike there, and a body that does the same.
pub record ArmLike (before : List CStmt) (a b : CArm) : Type 0 where
  pub truth : (n k : ℕ) (w w' : World) → run_all before n w ≡ Ends (Past w') k → (run_arm b).0 w' ≡ (run_arm a).0 w'
  pub does : (run_arm b).1 ≡ (run_arm a).1
  pub counts : (w : Weights) → c_arm_count w b ≡ c_arm_count w a
  pub deep : arm_depth b ≡ arm_depth a
  pub allowed : (f : CFun) (x : Bool) → all (map (stmt_allowed f) before) x ≡ true → arm_allowed f a x ≡ true → arm_allowed f b x ≡ true

abbrev pub ArmsLike : List CStmt → List CArm → List CArm → Type 0
ArmsLike before [] [] = Unit {0}
ArmsLike before [] (b ∷ bs) = ⊥
ArmsLike before (a ∷ as') [] = ⊥
ArmsLike before (a ∷ as') (b ∷ bs) = ArmLike before a b × ArmsLike before as' bs

-- A group of a switch: the same values, and a body that does the same.
pub record GroupLike (a b : CGroup) : Type 0 where
  pub does : run_group b ≡ run_group a
  pub counts : (w : Weights) → c_group_count w b ≡ c_group_count w a
  pub deep : group_depth b ≡ group_depth a
  pub values : (f : CFun) → (group_allowed f b).0 ≡ (group_allowed f a).0
  pub allowed : (f : CFun) → (group_allowed f a).1 ≡ true → (group_allowed f b).1 ≡ true

abbrev pub GroupsLike : List CGroup → List CGroup → Type 0
GroupsLike [] [] = Unit {0}
GroupsLike [] (b ∷ bs) = ⊥
GroupsLike (a ∷ as') [] = ⊥
GroupsLike (a ∷ as') (b ∷ bs) = GroupLike a b × GroupsLike as' bs
