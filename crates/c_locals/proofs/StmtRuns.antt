-- Statements without the Sets of names that aren't kept do alike; so a run that isn't stuck is kept.
use Rattle.std.proofs.Common.{map, ◌≡◌, ℕ, Bool, true, false, if◌then◌else◌, List, [], ◌∷◌, Option, Some, None, refl, sym, ap, ◌∙◌, subst}
use Rattle.dream_words.specs.declared.machine.Name.{Name}
use Rattle.dream_words.specs.declared.outcome.Outcome.{Outcome}
use Rattle.dream_words.specs.declared.outcome.Outcome.TheVariants as outcome
use Rattle.run_parts.specs.Parts.{Run, Ends, Goes, Past, Broke, Over, Stuck, skip, seq, always}
use Rattle.run_parts.specs.Steps.{simply}
use Rattle.run_parts.specs.World.{World, start_world, start_names, outcome_of}
use Rattle.c_syntax.specs.declared.syntax.CExpr.{CExpr}
use Rattle.c_syntax.specs.declared.syntax.CCond.{CCond}
use Rattle.c_syntax.specs.declared.syntax.CStmt as st
use Rattle.c_syntax.specs.declared.syntax.CStmt.{CStmt, CStmt-F, roll-CStmt}
use Rattle.c_syntax.specs.declared.syntax.CArm as arm
use Rattle.c_syntax.specs.declared.syntax.CArm.{CArm, CArm-F, roll-CArm}
use Rattle.c_syntax.specs.declared.syntax.CGroup as group
use Rattle.c_syntax.specs.declared.syntax.CGroup.{CGroup, CGroup-F, roll-CGroup}
use Rattle.c_syntax.specs.declared.syntax.CFun.{CFun}
use Rattle.c_syntax.specs.Run as runs
use Rattle.c_syntax.specs.Run.{Part, Test, word_in, holds, does_set, run, run_arm, run_group, run_all, c_run}
use Rattle.c_syntax.proofs.Layers.{run_layer, run_arm_layer, run_group_layer}
use Rattle.c_syntax.proofs.Induct.{Each, StmtCases, each_stmt}
use Rattle.c_locals.specs.Marks.{Marks}
use Rattle.c_locals.specs.Settled as settled
use Rattle.c_locals.specs.Settled.{new_name, is_kept, renamed_word, renamed_cond, those, settled_stmt, settled_arm, settled_group, settled_all, settled_with}
use Rattle.c_locals.specs.Keeps.{KeepsTurns}
use Rattle.c_locals.proofs.ReadNames.{NameSet, same_local, nothing, union, any, word_reads, cond_reads, stmt_reads_at, stmt_reads, arm_reads, group_reads, stmts_read, Knows, stmt_reads_layer, arm_reads_layer, group_reads_layer}
use Rattle.c_locals.proofs.Agreeing.{Agree, agree_start}
use Rattle.c_locals.proofs.Renamed.{first_known, second_known, name_known}
use Rattle.c_locals.proofs.PartsAlike.{RunAlike, PartAlike, TestAlike, skip_alike, leave_alike, seq_alike, ArmsAlike, no_arm, arm_more, arms_alike, GroupsAlike, no_group, group_more, switch_alike, repeat_alike}
use Rattle.c_locals.proofs.Simple.{value_alike, test_alike, set_does, drop_does, load_does, store_does, ext_does, trap_does, return_does, returns_same}

pub settled_layer : (m : Marks) (y : CStmt-F CStmt CArm CGroup) → settled_stmt m (roll-CStmt y) ≡ settled.stmt_at m (st.map-CStmt CStmt CArm CGroup (Option CStmt) CArm CGroup (settled_stmt m) (settled_arm m) (settled_group m) y)
settled_layer m y = st.fold-roll-CStmt (Option CStmt) CArm CGroup (settled.stmt_at m) (settled.arm_at m) settled.group_at y

pub settled_arm_layer : (m : Marks) (y : CArm-F CStmt CArm CGroup) → settled_arm m (roll-CArm y) ≡ settled.arm_at m (arm.map-CArm CStmt CArm CGroup (Option CStmt) CArm CGroup (settled_stmt m) (settled_arm m) (settled_group m) y)
settled_arm_layer m y = arm.fold-roll-CArm (Option CStmt) CArm CGroup (settled.stmt_at m) (settled.arm_at m) settled.group_at y

pub settled_group_layer : (m : Marks) (y : CGroup-F CStmt CArm CGroup) → settled_group m (roll-CGroup y) ≡ settled.group_at (group.map-CGroup CStmt CArm CGroup (Option CStmt) CArm CGroup (settled_stmt m) (settled_arm m) (settled_group m) y)
settled_group_layer m y = group.fold-roll-CGroup (Option CStmt) CArm CGroup (settled.stmt_at m) (settled.arm_at m) settled.group_at y

-- what is left of a statement does
abbrev maybe_does : Option CStmt → Part
maybe_does None = skip
maybe_does (Some s) = run s

module _ (m : Marks) where
  abbrev As : Part → Part → Type 0
  As a b = PartAlike (Agree m) a b

  abbrev Kept : CStmt → Type 0
  Kept s = Knows m (stmt_reads s) → As (run s) (maybe_does (settled_stmt m s))

  abbrev ArmAs : Test × Part → Test × Part → Type 0
  ArmAs p q = TestAlike (Agree m) p.0 q.0 × As p.1 q.1

  abbrev KeptArm : CArm → Type 0
  KeptArm a = Knows m (arm_reads a) → ArmAs (run_arm a) (run_arm (settled_arm m a))

  abbrev GroupAs : List ℕ × Part → List ℕ × Part → Type 0
  GroupAs p q = (p.0 ≡ q.0) × As p.1 q.1

  abbrev KeptGroup : CGroup → Type 0
  KeptGroup g = Knows m (group_reads g) → GroupAs (run_group g) (run_group (settled_group m g))

  -- ---- lists

  cons_alike : (o : Option CStmt) (os : List (Option CStmt)) (a b : Part) → As a (maybe_does o) → As b (run_all (those os)) → As (seq a b) (run_all (those (o ∷ os)))
  cons_alike None os a b ha hb = record { by = λ n w v s. (seq_alike (Agree m) a skip b (run_all (those os)) ha hb).by n w v s }
  cons_alike (Some t) os a b ha hb = seq_alike (Agree m) a (run t) b (run_all (those os)) ha hb

  body_kept : (ss : List CStmt) → Each Kept ss → Knows m (stmts_read ss) → As (run_all ss) (run_all (settled_all m ss))
  body_kept [] e h = skip_alike (Agree m)
  body_kept (s ∷ ss) e h =
      cons_alike (settled_stmt m s) (map (settled_stmt m) ss) (run s) (run_all ss)
      (e.0 (first_known m (stmt_reads s) (stmts_read ss) h))
      (body_kept ss e.1 (second_known m (stmt_reads s) (stmts_read ss) h))

  arms_kept : (as' : List CArm) → Each KeptArm as' → Knows m (any (map arm_reads as')) → ArmsAlike (Agree m) (map run_arm as') (map run_arm (map (settled_arm m) as'))
  arms_kept [] e h = no_arm
  arms_kept (a ∷ as') e h =
      let k = e.0 (first_known m (arm_reads a) (any (map arm_reads as')) h) in
      arm_more (run_arm a) (run_arm (settled_arm m a)) _ _ k.0 k.1 (arms_kept as' e.1 (second_known m (arm_reads a) (any (map arm_reads as')) h))

  groups_kept : (gs : List CGroup) → Each KeptGroup gs → Knows m (any (map group_reads gs)) → GroupsAlike (Agree m) (map run_group gs) (map run_group (map (settled_group m) gs))
  groups_kept [] e h = no_group
  groups_kept (g ∷ gs) e h =
      let k = e.0 (first_known m (group_reads g) (any (map group_reads gs)) h) in
      group_more (run_group g) (run_group (settled_group m g)) _ _ k.0 k.1 (groups_kept gs e.1 (second_known m (group_reads g) (any (map group_reads gs)) h))

  -- ---- layers

  abbrev parts_of : CStmt-F CStmt CArm CGroup → Part
  parts_of y = runs.stmt_at (st.map-CStmt CStmt CArm CGroup Part (Test × Part) (List ℕ × Part) run run_arm run_group y)

  abbrev left_of : CStmt-F CStmt CArm CGroup → Option CStmt
  left_of y = settled.stmt_at m (st.map-CStmt CStmt CArm CGroup (Option CStmt) CArm CGroup (settled_stmt m) (settled_arm m) (settled_group m) y)

  abbrev read_of : CStmt-F CStmt CArm CGroup → NameSet
  read_of y = stmt_reads_at (st.map-CStmt CStmt CArm CGroup NameSet NameSet NameSet stmt_reads arm_reads group_reads y)

  by_stmt : (y : CStmt-F CStmt CArm CGroup) → (Knows m (read_of y) → As (parts_of y) (maybe_does (left_of y))) → Kept (roll-CStmt y)
  by_stmt y k h =
      subst (λ (a : Part). As a (maybe_does (settled_stmt m (roll-CStmt y)))) (sym (run_layer y))
      (subst (λ (o : Option CStmt). As (parts_of y) (maybe_does o)) (sym (settled_layer m y)) (k (subst (Knows m) (stmt_reads_layer y) h)))

  -- a statement that stays, as z
  stays : (y z : CStmt-F CStmt CArm CGroup) → left_of y ≡ Some (roll-CStmt z) → (Knows m (read_of y) → As (parts_of y) (parts_of z)) → Kept (roll-CStmt y)
  stays y z e k = by_stmt y (λ h.
      subst (λ (o : Option CStmt). As (parts_of y) (maybe_does o)) (sym e) (subst (λ (b : Part). As (parts_of y) b) (sym (run_layer z)) (k h)))

  abbrev new : CExpr → CExpr
  new = renamed_word (new_name m)

  abbrev new_cond : CCond → CCond
  new_cond = renamed_cond (new_name m)

  -- a Set stays or goes
  set_by : (b : Bool) (n : Name) (a : CExpr) → is_kept m n ≡ b → Knows m (word_reads a)
      → As (simply (does_set n a)) (maybe_does (if b then Some (roll-CStmt (CStmt-F.Set (new_name m n) (new a))) else None))
  set_by true n a i h = subst (λ (b : Part). As (simply (does_set n a)) b) (sym (run_layer (CStmt-F.Set (new_name m n) (new a)))) (set_does m n a i h)
  set_by false n a i h = drop_does m n a i

  arm_by : (t : CCond) (body : List CStmt) → Each Kept body → KeptArm (roll-CArm (record { test = t; body = body }))
  arm_by t body e h =
      let y : CArm-F CStmt CArm CGroup = record { test = t; body = body } in
      let z : CArm-F CStmt CArm CGroup = record { test = new_cond t; body = settled_all m body } in
      let k : Knows m (union (cond_reads t) (stmts_read body)) = subst (Knows m) (arm_reads_layer y) h in
      subst (λ (p : Test × Part). ArmAs p (run_arm (settled_arm m (roll-CArm y)))) (sym (run_arm_layer y))
      (subst (λ (p : Test × Part). ArmAs (holds t, run_all body) p) (sym (ap run_arm (settled_arm_layer m y) ∙ run_arm_layer z))
      (test_alike m t (first_known m (cond_reads t) (stmts_read body) k), body_kept body e (second_known m (cond_reads t) (stmts_read body) k)))

  group_by : (values : List ℕ) (body : List CStmt) → Each Kept body → KeptGroup (roll-CGroup (record { values = values; body = body }))
  group_by values body e h =
      let y : CGroup-F CStmt CArm CGroup = record { values = values; body = body } in
      let z : CGroup-F CStmt CArm CGroup = record { values = values; body = settled_all m body } in
      let k : Knows m (stmts_read body) = subst (Knows m) (group_reads_layer y) h in
      subst (λ (p : List ℕ × Part). GroupAs p (run_group (settled_group m (roll-CGroup y)))) (sym (run_group_layer y))
      (subst (λ (p : List ℕ × Part). GroupAs (values, run_all body) p) (sym (ap run_group (settled_group_layer m y) ∙ run_group_layer z))
      (refl, body_kept body e k))

  cases : StmtCases Kept KeptArm KeptGroup
  cases = record {
    set = λ n a. by_stmt (CStmt-F.Set n a) (λ h. set_by (is_kept m n) n a refl h);
    load = λ n w a. stays (CStmt-F.Load n w a) (CStmt-F.Load (new_name m n) w (new a)) refl (λ h.
        load_does m n w a (name_known m n (second_known m (word_reads a) (same_local n) h)) (first_known m (word_reads a) (same_local n) h));
    store = λ w a b. stays (CStmt-F.Store w a b) (CStmt-F.Store w (new a) (new b)) refl (λ h.
        store_does m w a b (first_known m (word_reads a) (word_reads b) h) (second_known m (word_reads a) (word_reads b) h));
    ext = λ a. stays (CStmt-F.Ext a) (CStmt-F.Ext (new a)) refl (λ h. ext_does m a h);
    trap = λ v a. stays (CStmt-F.Trap v a) (CStmt-F.Trap v (new a)) refl (λ h. trap_does m v a h);
    if_none = λ arms e. stays (CStmt-F.If arms None) (CStmt-F.If (map (settled_arm m) arms) None) refl (λ h.
        arms_alike (Agree m) _ _ _ _ (arms_kept arms e (first_known m (any (map arm_reads arms)) nothing h)) (skip_alike (Agree m)));
    if_some = λ arms last e k. stays (CStmt-F.If arms (Some last)) (CStmt-F.If (map (settled_arm m) arms) (Some (settled_all m last))) refl (λ h.
        arms_alike (Agree m) _ _ _ _ (arms_kept arms e (first_known m (any (map arm_reads arms)) (stmts_read last) h))
        (body_kept last k (second_known m (any (map arm_reads arms)) (stmts_read last) h)));
    switch = λ a groups last e k. stays (CStmt-F.Switch a groups last) (CStmt-F.Switch (new a) (map (settled_group m) groups) (settled_all m last)) refl (λ h.
        let q = second_known m (word_reads a) (union (any (map group_reads groups)) (stmts_read last)) h in
        switch_alike (Agree m) (word_in a) (word_in (new a)) _ _ _ _ (value_alike m a (first_known m (word_reads a) (union (any (map group_reads groups)) (stmts_read last)) h))
        (groups_kept groups e (first_known m (any (map group_reads groups)) (stmts_read last) q))
        (body_kept last k (second_known m (any (map group_reads groups)) (stmts_read last) q)));
    loop = λ body e. stays (CStmt-F.Loop body) (CStmt-F.Loop (settled_all m body)) refl (λ h.
        repeat_alike (Agree m) always always _ _ always always (λ w v s. refl) (body_kept body e h) (λ w v s. refl));
    while = λ t body e. stays (CStmt-F.While t body) (CStmt-F.While (new_cond t) (settled_all m body)) refl (λ h.
        repeat_alike (Agree m) (holds t) (holds (new_cond t)) _ _ always always (test_alike m t (first_known m (cond_reads t) (stmts_read body) h))
        (body_kept body e (second_known m (cond_reads t) (stmts_read body) h)) (λ w v s. refl));
    do_while = λ body t e. stays (CStmt-F.DoWhile body t) (CStmt-F.DoWhile (settled_all m body) (new_cond t)) refl (λ h.
        repeat_alike (Agree m) always always _ _ (holds t) (holds (new_cond t)) (λ w v s. refl)
        (body_kept body e (first_known m (stmts_read body) (cond_reads t) h)) (test_alike m t (second_known m (stmts_read body) (cond_reads t) h)));
    break = stays CStmt-F.Break CStmt-F.Break refl (λ h. leave_alike (Agree m));
    return = stays CStmt-F.Return CStmt-F.Return refl (λ h. return_does m);
    arm_of = arm_by;
    group_of = group_by;
  }

  all_alike : (ss : List CStmt) → Knows m (stmts_read ss) → As (run_all ss) (run_all (settled_all m ss))
  all_alike ss h = body_kept ss (each_stmt cases ss) h

  -- runs that are alike have one outcome, where that of the first isn't stuck
  outcome_same : (r q : Run World Outcome) → RunAlike (Agree m) r q → (outcome_of r ≡ outcome.Stuck → ⊥) → outcome_of q ≡ outcome_of r
  outcome_same (Ends (Past w) n) q e h = ap outcome_of e.1 ∙ returns_same m w e.0 e.2
  outcome_same (Ends (Broke w) n) q e h = ap outcome_of e.1
  outcome_same (Ends (Over o) n) q e h = ap outcome_of e
  outcome_same (Ends Stuck n) q e h = absurd (h refl)
  outcome_same (Goes w) q e h = ap outcome_of e.1

  pub runs_kept : (f : CFun) → Knows m (stmts_read f.body) → KeepsTurns f (settled_with m f)
  runs_kept f h = record {
    by = λ start answers n k.
        outcome_same (run_all f.body n (start_world start answers)) (run_all (settled_all m f.body) n (start_world start answers))
        ((all_alike f.body h).by n (start_world start answers) (start_names start) (agree_start m start)) k;
  }
