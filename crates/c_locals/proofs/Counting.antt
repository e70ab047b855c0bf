-- The loops, tests, calls and stores of statements stay as many.
use Rattle.std.proofs.Common.{map, ◌≡◌, ℕ, ◌+◌, Bool, true, false, if◌then◌else◌, List, [], ◌∷◌, Option, Some, None, refl, sym, ap, ◌∙◌, arith}
use Rattle.dream_words.specs.declared.machine.Name.{Name}
use Rattle.c_syntax.specs.declared.syntax.CExpr.{CExpr}
use Rattle.c_syntax.specs.declared.syntax.CCond.{CCond}
use Rattle.c_syntax.specs.declared.syntax.CStmt as st
use Rattle.c_syntax.specs.declared.syntax.CStmt.{CStmt, CStmt-F, roll-CStmt}
use Rattle.c_syntax.specs.declared.syntax.CArm as arm
use Rattle.c_syntax.specs.declared.syntax.CArm.{CArm, CArm-F, roll-CArm}
use Rattle.c_syntax.specs.declared.syntax.CGroup as group
use Rattle.c_syntax.specs.declared.syntax.CGroup.{CGroup, CGroup-F, roll-CGroup}
use Rattle.c_syntax.specs.declared.syntax.CFun.{CFun}
use Rattle.c_syntax.proofs.Induct.{Each, StmtCases, each_stmt}
use Rattle.guarded.specs.Counts.{Weights, total, c_stmt_count_at, c_arm_count_at, c_group_count_at, c_stmt_count, c_arm_count, c_group_count, c_count, each_loop, each_test, each_ext, each_store}
use Rattle.c_locals.specs.Marks.{Marks}
use Rattle.c_locals.specs.Settled as settled
use Rattle.c_locals.specs.Settled.{new_name, is_kept, renamed_word, renamed_cond, those, settled_stmt, settled_arm, settled_group, settled_all, settled_with}
use Rattle.c_locals.specs.Keeps.{KeepsCounts}
use Rattle.c_locals.proofs.Bools.{ap2}
use Rattle.c_locals.proofs.StmtRuns.{settled_layer, settled_arm_layer, settled_group_layer}

module _ (w : Weights) (m : Marks) where
  stmt_layer : (y : CStmt-F CStmt CArm CGroup) → c_stmt_count w (roll-CStmt y) ≡ c_stmt_count_at w (st.map-CStmt CStmt CArm CGroup ℕ ℕ ℕ (c_stmt_count w) (c_arm_count w) (c_group_count w) y)
  stmt_layer y = st.fold-roll-CStmt ℕ ℕ ℕ (c_stmt_count_at w) (c_arm_count_at w) c_group_count_at y

  arm_layer : (y : CArm-F CStmt CArm CGroup) → c_arm_count w (roll-CArm y) ≡ c_arm_count_at w (arm.map-CArm CStmt CArm CGroup ℕ ℕ ℕ (c_stmt_count w) (c_arm_count w) (c_group_count w) y)
  arm_layer y = arm.fold-roll-CArm ℕ ℕ ℕ (c_stmt_count_at w) (c_arm_count_at w) c_group_count_at y

  group_layer : (y : CGroup-F CStmt CArm CGroup) → c_group_count w (roll-CGroup y) ≡ c_group_count_at (group.map-CGroup CStmt CArm CGroup ℕ ℕ ℕ (c_stmt_count w) (c_arm_count w) (c_group_count w) y)
  group_layer y = group.fold-roll-CGroup ℕ ℕ ℕ (c_stmt_count_at w) (c_arm_count_at w) c_group_count_at y

  abbrev maybe_count : Option CStmt → ℕ
  maybe_count None = 0
  maybe_count (Some s) = c_stmt_count w s

  abbrev Counted : CStmt → Type 0
  Counted s = maybe_count (settled_stmt m s) ≡ c_stmt_count w s

  abbrev CountedArm : CArm → Type 0
  CountedArm a = c_arm_count w (settled_arm m a) ≡ c_arm_count w a

  abbrev CountedGroup : CGroup → Type 0
  CountedGroup g = c_group_count w (settled_group m g) ≡ c_group_count w g

  abbrev sum_of : List CStmt → ℕ
  sum_of ss = total (map (c_stmt_count w) ss)

  cons_counted : (o : Option CStmt) (os : List (Option CStmt)) (a b : ℕ) → maybe_count o ≡ a → sum_of (those os) ≡ b → sum_of (those (o ∷ os)) ≡ a + b
  cons_counted None os a b p q = omega (arith, p, q)
  cons_counted (Some s) os a b p q = omega (arith, p, q)

  body_counted : (ss : List CStmt) → Each Counted ss → sum_of (settled_all m ss) ≡ sum_of ss
  body_counted [] e = refl
  body_counted (s ∷ ss) e = cons_counted (settled_stmt m s) (map (settled_stmt m) ss) _ _ e.0 (body_counted ss e.1)

  arms_counted : (as' : List CArm) → Each CountedArm as' → total (map (c_arm_count w) (map (settled_arm m) as')) ≡ total (map (c_arm_count w) as')
  arms_counted [] e = refl
  arms_counted (a ∷ as') e = ap2 (λ (x y : ℕ). x + y) _ _ _ _ e.0 (arms_counted as' e.1)

  groups_counted : (gs : List CGroup) → Each CountedGroup gs → total (map (c_group_count w) (map (settled_group m) gs)) ≡ total (map (c_group_count w) gs)
  groups_counted [] e = refl
  groups_counted (g ∷ gs) e = ap2 (λ (x y : ℕ). x + y) _ _ _ _ e.0 (groups_counted gs e.1)

  abbrev left_of : CStmt-F CStmt CArm CGroup → Option CStmt
  left_of y = settled.stmt_at m (st.map-CStmt CStmt CArm CGroup (Option CStmt) CArm CGroup (settled_stmt m) (settled_arm m) (settled_group m) y)

  abbrev count_of : CStmt-F CStmt CArm CGroup → ℕ
  count_of y = c_stmt_count_at w (st.map-CStmt CStmt CArm CGroup ℕ ℕ ℕ (c_stmt_count w) (c_arm_count w) (c_group_count w) y)

  by_stmt : (y : CStmt-F CStmt CArm CGroup) → maybe_count (left_of y) ≡ count_of y → Counted (roll-CStmt y)
  by_stmt y k = ap maybe_count (settled_layer m y) ∙ k ∙ sym (stmt_layer y)

  stays : (y z : CStmt-F CStmt CArm CGroup) → left_of y ≡ Some (roll-CStmt z) → count_of z ≡ count_of y → Counted (roll-CStmt y)
  stays y z e k = by_stmt y (ap maybe_count e ∙ stmt_layer z ∙ k)

  abbrev new : CExpr → CExpr
  new = renamed_word (new_name m)

  abbrev new_cond : CCond → CCond
  new_cond = renamed_cond (new_name m)

  set_by : (b : Bool) (n : Name) (a : CExpr) → maybe_count (if b then Some (roll-CStmt (CStmt-F.Set (new_name m n) (new a))) else None) ≡ 0
  set_by true n a = stmt_layer (CStmt-F.Set (new_name m n) (new a))
  set_by false n a = refl

  arm_by : (t : CCond) (body : List CStmt) → Each Counted body → CountedArm (roll-CArm (record { test = t; body = body }))
  arm_by t body e =
      let y : CArm-F CStmt CArm CGroup = record { test = t; body = body } in
      let z : CArm-F CStmt CArm CGroup = record { test = new_cond t; body = settled_all m body } in
      ap (c_arm_count w) (settled_arm_layer m y) ∙ arm_layer z ∙ ap (λ (n : ℕ). w.test + n) (body_counted body e) ∙ sym (arm_layer y)

  group_by : (values : List ℕ) (body : List CStmt) → Each Counted body → CountedGroup (roll-CGroup (record { values = values; body = body }))
  group_by values body e =
      let y : CGroup-F CStmt CArm CGroup = record { values = values; body = body } in
      let z : CGroup-F CStmt CArm CGroup = record { values = values; body = settled_all m body } in
      ap (c_group_count w) (settled_group_layer m y) ∙ group_layer z ∙ body_counted body e ∙ sym (group_layer y)

  cases : StmtCases Counted CountedArm CountedGroup
  cases = record {
    set = λ n a. by_stmt (CStmt-F.Set n a) (set_by (is_kept m n) n a);
    load = λ n x a. stays (CStmt-F.Load n x a) (CStmt-F.Load (new_name m n) x (new a)) refl refl;
    store = λ x a b. stays (CStmt-F.Store x a b) (CStmt-F.Store x (new a) (new b)) refl refl;
    ext = λ a. stays (CStmt-F.Ext a) (CStmt-F.Ext (new a)) refl refl;
    trap = λ v a. stays (CStmt-F.Trap v a) (CStmt-F.Trap v (new a)) refl refl;
    if_none = λ arms e. stays (CStmt-F.If arms None) (CStmt-F.If (map (settled_arm m) arms) None) refl (arms_counted arms e);
    if_some = λ arms last e k. stays (CStmt-F.If arms (Some last)) (CStmt-F.If (map (settled_arm m) arms) (Some (settled_all m last))) refl
        (ap2 (λ (x y : ℕ). x + y) _ _ _ _ (arms_counted arms e) (body_counted last k));
    switch = λ a groups last e k. stays (CStmt-F.Switch a groups last) (CStmt-F.Switch (new a) (map (settled_group m) groups) (settled_all m last)) refl
        (ap2 (λ (x y : ℕ). w.test + (x + y)) _ _ _ _ (groups_counted groups e) (body_counted last k));
    loop = λ body e. stays (CStmt-F.Loop body) (CStmt-F.Loop (settled_all m body)) refl (ap (λ (x : ℕ). w.loop + x) (body_counted body e));
    while = λ t body e. stays (CStmt-F.While t body) (CStmt-F.While (new_cond t) (settled_all m body)) refl (ap (λ (x : ℕ). w.loop + (w.test + x)) (body_counted body e));
    do_while = λ body t e. stays (CStmt-F.DoWhile body t) (CStmt-F.DoWhile (settled_all m body) (new_cond t)) refl (ap (λ (x : ℕ). w.loop + (w.test + x)) (body_counted body e));
    break = stays CStmt-F.Break CStmt-F.Break refl refl;
    return = stays CStmt-F.Return CStmt-F.Return refl refl;
    arm_of = arm_by;
    group_of = group_by;
  }

  count_total : (ss : List CStmt) → sum_of ss ≡ c_count w ss
  count_total [] = refl
  count_total (s ∷ ss) = ap (λ (n : ℕ). c_stmt_count w s + n) (count_total ss)

  pub all_counted : (ss : List CStmt) → c_count w (settled_all m ss) ≡ c_count w ss
  all_counted ss = sym (count_total (settled_all m ss)) ∙ body_counted ss (each_stmt cases ss) ∙ count_total ss

pub keeps_counts : (m : Marks) (f : CFun) → KeepsCounts f (settled_with m f)
keeps_counts m f = record {
  loops = all_counted each_loop m f.body;
  tests = all_counted each_test m f.body;
  calls = all_counted each_ext m f.body;
  stores = all_counted each_store m f.body;
  selectors = refl;
}
