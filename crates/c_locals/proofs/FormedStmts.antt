-- Statements with new names are allowed where they were, and nest no deeper.
use Rattle.std.proofs.Common.{map, ◌≡◌, ◌≤◌, ℕ, ◌+◌, max, Bool, true, false, not, ◌&&◌, if◌then◌else◌, List, [], ◌∷◌, ◌++◌, Option, Some, None, refl, sym, ap, ◌∙◌, subst, arith}
use Rattle.dream_words.specs.declared.machine.Name.{Name}
use Rattle.dream_words.specs.declared.machine.Name.TheVariants as name
use Rattle.c_syntax.specs.declared.syntax.CExpr.{CExpr}
use Rattle.c_syntax.specs.declared.syntax.CCond.{CCond}
use Rattle.c_syntax.specs.declared.syntax.CStmt as st
use Rattle.c_syntax.specs.declared.syntax.CStmt.{CStmt, CStmt-F, roll-CStmt}
use Rattle.c_syntax.specs.declared.syntax.CArm.{CArm, CArm-F, roll-CArm}
use Rattle.c_syntax.specs.declared.syntax.CGroup.{CGroup, CGroup-F, roll-CGroup}
use Rattle.c_syntax.specs.declared.syntax.CFun.{CFun}
use Rattle.c_syntax.specs.Depth.{deepest, stmt_depth_at, stmt_depth, arm_depth, group_depth, stmts_depth}
use Rattle.c_syntax.specs.Formed as formed
use Rattle.c_syntax.specs.Formed.{is_base, is_target, has_any, are_words, are_distinct, Allowed, all, else_allowed, GroupAllowed, groups_values, all_groups, word_allowed, cond_allowed, stmt_allowed, arm_allowed, group_allowed, stmts_allowed}
use Rattle.c_syntax.proofs.Induct.{Each, StmtCases, each_stmt}
use Rattle.c_syntax.proofs.Layers.{stmt_allowed_layer, arm_allowed_layer, group_allowed_layer, stmt_depth_layer, arm_depth_layer, group_depth_layer}
use Rattle.c_locals.specs.Marks.{Marks}
use Rattle.c_locals.specs.Settled as settled
use Rattle.c_locals.specs.Settled.{new_name, is_kept, renamed_word, renamed_cond, those, settled_stmt, settled_arm, settled_group, settled_all}
use Rattle.c_locals.proofs.Bools.{and_first, and_second, and_both}
use Rattle.c_locals.proofs.ReadNames.{NameSet, same_local, nothing, union, any, word_reads, cond_reads, stmt_reads_at, stmt_reads, arm_reads, group_reads, stmts_read, Knows, stmt_reads_layer, arm_reads_layer, group_reads_layer}
use Rattle.c_locals.proofs.Renamed.{first_known, second_known, name_known}
use Rattle.c_locals.proofs.FormedWords.{Declares, word_ok, cond_ok}
use Rattle.c_locals.proofs.StmtRuns.{settled_layer, settled_arm_layer, settled_group_layer}

base_same : (m : Marks) (n : Name) → is_base (new_name m n) ≡ is_base n
base_same m (name.Reg n) = refl
base_same m (name.Flag n) = refl
base_same m name.Fs = refl
base_same m name.Gs = refl
base_same m (name.T n) = refl
base_same m (name.B n) = refl
base_same m (name.S n) = refl

-- statements one after another are allowed outside of loops and switches
pub all_is : (f : CFun) (ss : List CStmt) → all (map (stmt_allowed f) ss) false ≡ stmts_allowed f ss
all_is f [] = refl
all_is f (s ∷ ss) = ap (λ (b : Bool). stmt_allowed f s false && b) (all_is f ss)

pub deepest_is : (ss : List CStmt) → deepest (map stmt_depth ss) ≡ stmts_depth ss
deepest_is [] = refl
deepest_is (s ∷ ss) = ap (λ (n : ℕ). max (stmt_depth s) n) (deepest_is ss)

abbrev maybe_depth : Option CStmt → ℕ
maybe_depth None = 0
maybe_depth (Some s) = stmt_depth s

module _ (m : Marks) (f g : CFun) (dec : Declares m f g) where
  abbrev new : CExpr → CExpr
  new = renamed_word (new_name m)

  abbrev new_cond : CCond → CCond
  new_cond = renamed_cond (new_name m)

  target_ok : (n : Name) → is_kept m n ≡ true → is_target f n ≡ true → is_target g (new_name m n) ≡ true
  target_ok n h k = and_both _ _ (dec n h (and_first _ _ k)) (ap not (base_same m n) ∙ and_second _ _ k)

  abbrev maybe_allowed : Option CStmt → Allowed
  maybe_allowed None b = true
  maybe_allowed (Some s) b = stmt_allowed g s b

  -- what was allowed is, where the names are kept
  abbrev Passes : NameSet → Allowed → Allowed → Type 0
  Passes r a c = Knows m r → (b : Bool) → a b ≡ true → c b ≡ true

  abbrev Fits : CStmt → Type 0
  Fits s = (maybe_depth (settled_stmt m s) ≤ stmt_depth s) × Passes (stmt_reads s) (stmt_allowed f s) (maybe_allowed (settled_stmt m s))

  abbrev FitsArm : CArm → Type 0
  FitsArm a = (arm_depth (settled_arm m a) ≤ arm_depth a) × Passes (arm_reads a) (arm_allowed f a) (arm_allowed g (settled_arm m a))

  -- a group keeps its values
  abbrev FitsGroup : CGroup → Type 0
  FitsGroup a = (group_depth (settled_group m a) ≤ group_depth a) × ((group_allowed g (settled_group m a)).0 ≡ (group_allowed f a).0)
      × (Knows m (group_reads a) → (group_allowed f a).1 ≡ true → (group_allowed g (settled_group m a)).1 ≡ true)

  -- ---- lists

  cons_deep : (o : Option CStmt) (os : List (Option CStmt)) (a b : ℕ) → maybe_depth o ≤ a → deepest (map stmt_depth (those os)) ≤ b → deepest (map stmt_depth (those (o ∷ os))) ≤ max a b
  cons_deep None os a b p q = omega (arith, p, q)
  cons_deep (Some s) os a b p q = omega (arith, p, q)

  body_deep : (ss : List CStmt) → Each Fits ss → deepest (map stmt_depth (settled_all m ss)) ≤ deepest (map stmt_depth ss)
  body_deep [] e = omega arith
  body_deep (s ∷ ss) e = cons_deep (settled_stmt m s) (map (settled_stmt m) ss) (stmt_depth s) (deepest (map stmt_depth ss)) e.0.0 (body_deep ss e.1)

  arms_deep : (as' : List CArm) → Each FitsArm as' → deepest (map arm_depth (map (settled_arm m) as')) ≤ deepest (map arm_depth as')
  arms_deep [] e = omega arith
  arms_deep (a ∷ as') e = let p = e.0.0 in let q = arms_deep as' e.1 in omega (arith, p, q)

  groups_deep : (gs : List CGroup) → Each FitsGroup gs → deepest (map group_depth (map (settled_group m) gs)) ≤ deepest (map group_depth gs)
  groups_deep [] e = omega arith
  groups_deep (a ∷ gs) e = let p = e.0.0 in let q = groups_deep gs e.1 in omega (arith, p, q)

  cons_pass : (o : Option CStmt) (os : List (Option CStmt)) (b : Bool) → maybe_allowed o b ≡ true → all (map (stmt_allowed g) (those os)) b ≡ true → all (map (stmt_allowed g) (those (o ∷ os))) b ≡ true
  cons_pass None os b p q = q
  cons_pass (Some s) os b p q = and_both _ _ p q

  body_pass : (ss : List CStmt) → Each Fits ss → Passes (stmts_read ss) (all (map (stmt_allowed f) ss)) (all (map (stmt_allowed g) (settled_all m ss)))
  body_pass [] e h b k = refl
  body_pass (s ∷ ss) e h b k = cons_pass (settled_stmt m s) (map (settled_stmt m) ss) b
      (e.0.1 (first_known m (stmt_reads s) (stmts_read ss) h) b (and_first _ _ k))
      (body_pass ss e.1 (second_known m (stmt_reads s) (stmts_read ss) h) b (and_second (stmt_allowed f s b) _ k))

  arms_pass : (as' : List CArm) → Each FitsArm as' → Passes (any (map arm_reads as')) (all (map (arm_allowed f) as')) (all (map (arm_allowed g) (map (settled_arm m) as')))
  arms_pass [] e h b k = refl
  arms_pass (a ∷ as') e h b k = and_both _ _
      (e.0.1 (first_known m (arm_reads a) (any (map arm_reads as')) h) b (and_first _ _ k))
      (arms_pass as' e.1 (second_known m (arm_reads a) (any (map arm_reads as')) h) b (and_second (arm_allowed f a b) _ k))

  arms_any : (as' : List CArm) → has_any (map (arm_allowed f) as') ≡ true → has_any (map (arm_allowed g) (map (settled_arm m) as')) ≡ true
  arms_any [] h = h
  arms_any (a ∷ as') h = refl

  groups_pass : (gs : List CGroup) → Each FitsGroup gs → Knows m (any (map group_reads gs)) → all_groups (map (group_allowed f) gs) ≡ true → all_groups (map (group_allowed g) (map (settled_group m) gs)) ≡ true
  groups_pass [] e h k = refl
  groups_pass (a ∷ gs) e h k = and_both _ _
      (e.0.2 (first_known m (group_reads a) (any (map group_reads gs)) h) (and_first _ _ k))
      (groups_pass gs e.1 (second_known m (group_reads a) (any (map group_reads gs)) h) (and_second (group_allowed f a).1 _ k))

  same_values : (gs : List CGroup) → Each FitsGroup gs → groups_values (map (group_allowed g) (map (settled_group m) gs)) ≡ groups_values (map (group_allowed f) gs)
  same_values [] e = refl
  same_values (a ∷ gs) e = ap (λ (vs : List ℕ). vs ++ groups_values (map (group_allowed g) (map (settled_group m) gs))) e.0.1 ∙ ap (λ (vs : List ℕ). (group_allowed f a).0 ++ vs) (same_values gs e.1)

  -- ---- layers

  abbrev left_of : CStmt-F CStmt CArm CGroup → Option CStmt
  left_of y = settled.stmt_at m (st.map-CStmt CStmt CArm CGroup (Option CStmt) CArm CGroup (settled_stmt m) (settled_arm m) (settled_group m) y)

  abbrev depth_of : CStmt-F CStmt CArm CGroup → ℕ
  depth_of y = stmt_depth_at (st.map-CStmt CStmt CArm CGroup ℕ ℕ ℕ stmt_depth arm_depth group_depth y)

  abbrev read_of : CStmt-F CStmt CArm CGroup → NameSet
  read_of y = stmt_reads_at (st.map-CStmt CStmt CArm CGroup NameSet NameSet NameSet stmt_reads arm_reads group_reads y)

  abbrev allowed_of : CFun → CStmt-F CStmt CArm CGroup → Allowed
  allowed_of h y = formed.stmt_at h (st.map-CStmt CStmt CArm CGroup Allowed Allowed GroupAllowed (stmt_allowed h) (arm_allowed h) (group_allowed h) y)

  by_stmt : (y : CStmt-F CStmt CArm CGroup) → maybe_depth (left_of y) ≤ depth_of y → Passes (read_of y) (allowed_of f y) (maybe_allowed (left_of y)) → Fits (roll-CStmt y)
  by_stmt y d k = (
    subst (λ (n : ℕ). maybe_depth (settled_stmt m (roll-CStmt y)) ≤ n) (sym (stmt_depth_layer y)) (subst (λ (o : Option CStmt). maybe_depth o ≤ depth_of y) (sym (settled_layer m y)) d),
    λ h b i. ap (λ (o : Option CStmt). maybe_allowed o b) (settled_layer m y) ∙ k (subst (Knows m) (stmt_reads_layer y) h) b (sym (ap (λ (a : Allowed). a b) (stmt_allowed_layer f y)) ∙ i),
  )

  -- a statement that stays, as z
  stays : (y z : CStmt-F CStmt CArm CGroup) → left_of y ≡ Some (roll-CStmt z) → depth_of z ≤ depth_of y → Passes (read_of y) (allowed_of f y) (allowed_of g z) → Fits (roll-CStmt y)
  stays y z e d k = by_stmt y
      (subst (λ (o : Option CStmt). maybe_depth o ≤ depth_of y) (sym e) (subst (λ (n : ℕ). n ≤ depth_of y) (sym (stmt_depth_layer z)) d))
      (λ h b i. ap (λ (o : Option CStmt). maybe_allowed o b) e ∙ ap (λ (a : Allowed). a b) (stmt_allowed_layer g z) ∙ k h b i)

  zero_deep : 0 ≤ 0
  zero_deep = omega arith

  set_deep : (b : Bool) (n : Name) (a : CExpr) → maybe_depth (if b then Some (roll-CStmt (CStmt-F.Set (new_name m n) (new a))) else None) ≤ 0
  set_deep true n a = let e = stmt_depth_layer (CStmt-F.Set (new_name m n) (new a)) in omega (arith, e)
  set_deep false n a = omega arith

  set_pass : (c : Bool) (n : Name) (a : CExpr) → is_kept m n ≡ c → Knows m (word_reads a) → (b : Bool) → (is_target f n && word_allowed f a) ≡ true
      → maybe_allowed (if c then Some (roll-CStmt (CStmt-F.Set (new_name m n) (new a))) else None) b ≡ true
  set_pass true n a i h b k = ap (λ (x : Allowed). x b) (stmt_allowed_layer g (CStmt-F.Set (new_name m n) (new a))) ∙ and_both _ _ (target_ok n i (and_first _ _ k)) (word_ok m f g dec a h (and_second _ _ k))
  set_pass false n a i h b k = refl

  two_words : (a b : CExpr) → Knows m (union (word_reads a) (word_reads b)) → (word_allowed f a && word_allowed f b) ≡ true → (word_allowed g (new a) && word_allowed g (new b)) ≡ true
  two_words a b h k = and_both _ _ (word_ok m f g dec a (first_known m (word_reads a) (word_reads b) h) (and_first _ _ k)) (word_ok m f g dec b (second_known m (word_reads a) (word_reads b) h) (and_second _ _ k))

  body_more : (ss : List CStmt) → Each Fits ss → deepest (map stmt_depth (settled_all m ss)) + 1 ≤ deepest (map stmt_depth ss) + 1
  body_more ss e = let p = body_deep ss e in omega (arith, p)

  two_deep : (a b c d : ℕ) → a ≤ c → b ≤ d → max a b ≤ max c d
  two_deep a b c d p q = omega (arith, p, q)

  arm_by : (t : CCond) (body : List CStmt) → Each Fits body → FitsArm (roll-CArm (record { test = t; body = body }))
  arm_by t body e =
      let y : CArm-F CStmt CArm CGroup = record { test = t; body = body } in
      let z : CArm-F CStmt CArm CGroup = record { test = new_cond t; body = settled_all m body } in (
        let p : arm_depth (settled_arm m (roll-CArm y)) ≡ deepest (map stmt_depth (settled_all m body)) + 1 = ap arm_depth (settled_arm_layer m y) ∙ arm_depth_layer z in
            let q : arm_depth (roll-CArm y) ≡ deepest (map stmt_depth body) + 1 = arm_depth_layer y in
            let d = body_deep body e in
            omega (arith, p, q, d),
        λ h b i.
            let k : Knows m (union (cond_reads t) (stmts_read body)) = subst (Knows m) (arm_reads_layer y) h in
            let a : (cond_allowed f t && all (map (stmt_allowed f) body) b) ≡ true = sym (ap (λ (x : Allowed). x b) (arm_allowed_layer f y)) ∙ i in
            ap (λ (x : CArm). arm_allowed g x b) (settled_arm_layer m y) ∙ ap (λ (x : Allowed). x b) (arm_allowed_layer g z)
            ∙ and_both _ _ (cond_ok m f g dec t (first_known m (cond_reads t) (stmts_read body) k) (and_first _ _ a))
            (body_pass body e (second_known m (cond_reads t) (stmts_read body) k) b (and_second (cond_allowed f t) _ a)),
      )

  group_by : (values : List ℕ) (body : List CStmt) → Each Fits body → FitsGroup (roll-CGroup (record { values = values; body = body }))
  group_by values body e =
      let y : CGroup-F CStmt CArm CGroup = record { values = values; body = body } in
      let z : CGroup-F CStmt CArm CGroup = record { values = values; body = settled_all m body } in
      let r : group_allowed g (settled_group m (roll-CGroup y)) ≡ (values, has_any values && (are_words values && all (map (stmt_allowed g) (settled_all m body)) true)) =
      ap (group_allowed g) (settled_group_layer m y) ∙ group_allowed_layer g z in (
        let p : group_depth (settled_group m (roll-CGroup y)) ≡ deepest (map stmt_depth (settled_all m body)) + 1 = ap group_depth (settled_group_layer m y) ∙ group_depth_layer z in
            let q : group_depth (roll-CGroup y) ≡ deepest (map stmt_depth body) + 1 = group_depth_layer y in
            let d = body_deep body e in
            omega (arith, p, q, d),
        ap (λ (x : GroupAllowed). x.0) r ∙ sym (ap (λ (x : GroupAllowed). x.0) (group_allowed_layer f y)),
        λ h i.
            let k : Knows m (stmts_read body) = subst (Knows m) (group_reads_layer y) h in
            let a : (has_any values && (are_words values && all (map (stmt_allowed f) body) true)) ≡ true = sym (ap (λ (x : GroupAllowed). x.1) (group_allowed_layer f y)) ∙ i in
            let c = and_second (has_any values) _ a in
            ap (λ (x : GroupAllowed). x.1) r ∙ and_both _ _ (and_first _ _ a) (and_both _ _ (and_first _ _ c) (body_pass body e k true (and_second (are_words values) _ c))),
      )

  cases : StmtCases Fits FitsArm FitsGroup
  cases = record {
    set = λ n a. by_stmt (CStmt-F.Set n a) (set_deep (is_kept m n) n a) (λ h b k. set_pass (is_kept m n) n a refl h b k);
    load = λ n w a. stays (CStmt-F.Load n w a) (CStmt-F.Load (new_name m n) w (new a)) refl zero_deep (λ h b k. and_both _ _
        (target_ok n (name_known m n (second_known m (word_reads a) (same_local n) h)) (and_first _ _ k))
        (word_ok m f g dec a (first_known m (word_reads a) (same_local n) h) (and_second _ _ k)));
    store = λ w a c. stays (CStmt-F.Store w a c) (CStmt-F.Store w (new a) (new c)) refl zero_deep (λ h b k. two_words a c h k);
    ext = λ a. stays (CStmt-F.Ext a) (CStmt-F.Ext (new a)) refl zero_deep (λ h b k. word_ok m f g dec a h k);
    trap = λ v a. stays (CStmt-F.Trap v a) (CStmt-F.Trap v (new a)) refl zero_deep (λ h b k. and_both _ _ (and_first _ _ k) (word_ok m f g dec a h (and_second _ _ k)));
    if_none = λ arms e. stays (CStmt-F.If arms None) (CStmt-F.If (map (settled_arm m) arms) None) refl (two_deep _ 0 _ 0 (arms_deep arms e) zero_deep) (λ h b k.
        let c = and_second (has_any (map (arm_allowed f) arms)) _ k in
        and_both _ _ (arms_any arms (and_first _ _ k)) (and_both _ _ (arms_pass arms e (first_known m (any (map arm_reads arms)) nothing h) b (and_first _ _ c)) refl));
    if_some = λ arms last e i. stays (CStmt-F.If arms (Some last)) (CStmt-F.If (map (settled_arm m) arms) (Some (settled_all m last))) refl (two_deep _ _ _ _ (arms_deep arms e) (body_more last i)) (λ h b k.
        let c = and_second (has_any (map (arm_allowed f) arms)) _ k in
        and_both _ _ (arms_any arms (and_first _ _ k)) (and_both _ _ (arms_pass arms e (first_known m (any (map arm_reads arms)) (stmts_read last) h) b (and_first _ _ c))
        (body_pass last i (second_known m (any (map arm_reads arms)) (stmts_read last) h) b (and_second (all (map (arm_allowed f) arms) b) _ c))));
    switch = λ a groups last e i. stays (CStmt-F.Switch a groups last) (CStmt-F.Switch (new a) (map (settled_group m) groups) (settled_all m last)) refl (two_deep _ _ _ _ (groups_deep groups e) (body_more last i)) (λ h b k.
        let q = second_known m (word_reads a) (union (any (map group_reads groups)) (stmts_read last)) h in
        let c = and_second (word_allowed f a) _ k in
        let d = and_second (all_groups (map (group_allowed f) groups)) _ c in
        and_both _ _ (word_ok m f g dec a (first_known m (word_reads a) (union (any (map group_reads groups)) (stmts_read last)) h) (and_first _ _ k))
        (and_both _ _ (groups_pass groups e (first_known m (any (map group_reads groups)) (stmts_read last) q) (and_first _ _ c))
        (and_both _ _ (ap are_distinct (same_values groups e) ∙ and_first _ _ d)
        (body_pass last i (second_known m (any (map group_reads groups)) (stmts_read last) q) true (and_second (are_distinct (groups_values (map (group_allowed f) groups))) _ d)))));
    loop = λ body e. stays (CStmt-F.Loop body) (CStmt-F.Loop (settled_all m body)) refl (body_more body e) (λ h b k. body_pass body e h true k);
    while = λ t body e. stays (CStmt-F.While t body) (CStmt-F.While (new_cond t) (settled_all m body)) refl (body_more body e) (λ h b k. and_both _ _
        (cond_ok m f g dec t (first_known m (cond_reads t) (stmts_read body) h) (and_first _ _ k))
        (body_pass body e (second_known m (cond_reads t) (stmts_read body) h) true (and_second (cond_allowed f t) _ k)));
    do_while = λ body t e. stays (CStmt-F.DoWhile body t) (CStmt-F.DoWhile (settled_all m body) (new_cond t)) refl (body_more body e) (λ h b k. and_both _ _
        (body_pass body e (first_known m (stmts_read body) (cond_reads t) h) true (and_first _ _ k))
        (cond_ok m f g dec t (second_known m (stmts_read body) (cond_reads t) h) (and_second (all (map (stmt_allowed f) body) true) _ k)));
    break = stays CStmt-F.Break CStmt-F.Break refl zero_deep (λ h b k. k);
    return = stays CStmt-F.Return CStmt-F.Return refl zero_deep (λ h b k. refl);
    arm_of = arm_by;
    group_of = group_by;
  }

  pub all_allowed : (ss : List CStmt) → Knows m (stmts_read ss) → stmts_allowed f ss ≡ true → stmts_allowed g (settled_all m ss) ≡ true
  all_allowed ss h k = sym (all_is g (settled_all m ss)) ∙ body_pass ss (each_stmt cases ss) h false (all_is f ss ∙ k)

  pub all_deep : (ss : List CStmt) → stmts_depth (settled_all m ss) ≤ stmts_depth ss
  all_deep ss = let p = deepest_is (settled_all m ss) in let q = deepest_is ss in let d = body_deep ss (each_stmt cases ss) in omega (arith, p, q, d)
