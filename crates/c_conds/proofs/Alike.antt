-- What holds of the parts of a statement with conditions in place holds of the statement.
use Rattle.std.proofs.Common.{map, ◌≡◌, ℕ, zero, suc, ◌+◌, max, Bool, true, false, List, [], ◌∷◌, ◌++◌, Option, Some, None, refl, sym, ap, ◌∙◌, subst, arith}
use Rattle.dream_words.specs.declared.outcome.Outcome.{Outcome}
use Rattle.run_parts.specs.Parts.{Past, Broke, Over, Stuck, Run, Ends, Goes, on, after, skip, seq, decide, first_arm, switch, always, round, turn, rounds, repeat}
use Rattle.run_parts.specs.World.{World}
use Rattle.c_syntax.specs.declared.syntax.CExpr.{CExpr}
use Rattle.c_syntax.specs.declared.syntax.CCond.{CCond}
use Rattle.c_syntax.specs.declared.syntax.CStmt as st
use Rattle.c_syntax.specs.declared.syntax.CStmt.{CStmt, CStmt-F, roll-CStmt}
use Rattle.c_syntax.specs.declared.syntax.CArm as arm
use Rattle.c_syntax.specs.declared.syntax.CArm.{CArm, CArm-F, roll-CArm}
use Rattle.c_syntax.specs.declared.syntax.CGroup as group
use Rattle.c_syntax.specs.declared.syntax.CGroup.{CGroup, CGroup-F, roll-CGroup}
use Rattle.c_syntax.specs.declared.syntax.CFun.{CFun}
use Rattle.c_syntax.specs.Depth.{deepest, stmt_depth, arm_depth, group_depth}
use Rattle.c_syntax.specs.Formed.{has_any, are_words, are_distinct, Allowed, all, GroupAllowed, groups_values, all_groups, word_allowed, cond_allowed, stmt_allowed, arm_allowed, group_allowed}
use Rattle.c_syntax.specs.Run.{Part, Test, word_in, holds, run, run_arm, run_group, run_all}
use Rattle.c_syntax.proofs.Layers.{run_layer, run_arm_layer, run_group_layer, stmt_depth_layer, arm_depth_layer, group_depth_layer, stmt_allowed_layer, arm_allowed_layer, group_allowed_layer}
use Rattle.guarded.specs.Counts.{Weights, total, c_stmt_count_at, c_arm_count_at, c_group_count_at, c_stmt_count, c_arm_count, c_group_count}
use Rattle.c_conds.specs.Placed.{HoldsAfter, FollowsLike, AreLike, ArmLike, ArmsLike, GroupLike, GroupsLike}
use Rattle.c_locals.proofs.Bools.{and_first, and_second, and_both, ap2}
use Rattle.c_emit.proofs.StmtRuns.{equal_parts, run_append, run_one}
use Rattle.c_conds.proofs.Lists.{all_first, all_second, all_both}

-- ---- layers of counts

count_layer : (w : Weights) (y : CStmt-F CStmt CArm CGroup) → c_stmt_count w (roll-CStmt y) ≡ c_stmt_count_at w (st.map-CStmt CStmt CArm CGroup ℕ ℕ ℕ (c_stmt_count w) (c_arm_count w) (c_group_count w) y)
count_layer w y = st.fold-roll-CStmt ℕ ℕ ℕ (c_stmt_count_at w) (c_arm_count_at w) c_group_count_at y

arm_count_layer : (w : Weights) (y : CArm-F CStmt CArm CGroup) → c_arm_count w (roll-CArm y) ≡ c_arm_count_at w (arm.map-CArm CStmt CArm CGroup ℕ ℕ ℕ (c_stmt_count w) (c_arm_count w) (c_group_count w) y)
arm_count_layer w y = arm.fold-roll-CArm ℕ ℕ ℕ (c_stmt_count_at w) (c_arm_count_at w) c_group_count_at y

group_count_layer : (w : Weights) (y : CGroup-F CStmt CArm CGroup) → c_group_count w (roll-CGroup y) ≡ c_group_count_at (group.map-CGroup CStmt CArm CGroup ℕ ℕ ℕ (c_stmt_count w) (c_arm_count w) (c_group_count w) y)
group_count_layer w y = group.fold-roll-CGroup ℕ ℕ ℕ (c_stmt_count_at w) (c_arm_count_at w) c_group_count_at y

-- ---- lists

total_snoc : (f : CStmt → ℕ) (xs : List CStmt) (s : CStmt) → total (map f (xs ++ s ∷ [])) ≡ total (map f xs) + f s
total_snoc f [] s = omega arith
total_snoc f (x ∷ xs) s = let e = total_snoc f xs s in omega (arith, e)

deepest_snoc : (xs : List CStmt) (s : CStmt) → deepest (map stmt_depth (xs ++ s ∷ [])) ≡ max (deepest (map stmt_depth xs)) (stmt_depth s)
deepest_snoc [] s = omega arith
deepest_snoc (x ∷ xs) s = let e = deepest_snoc xs s in omega (arith, e)

pub like_nil : AreLike [] []
like_nil = record { does = refl; counts = λ w. refl; deep = refl; allowed = λ f b h. refl }

pub like_snoc : (xs ks : List CStmt) (s t : CStmt) → AreLike xs ks → FollowsLike ks s t → AreLike (xs ++ s ∷ []) (ks ++ t ∷ [])
like_snoc xs ks s t a l = record {
  does = run_append ks (t ∷ []) ∙ ap (seq (run_all ks)) (run_one t) ∙ l.does ∙ ap (λ (p : Part). seq p (run s)) a.does ∙ sym (run_append xs (s ∷ []) ∙ ap (seq (run_all xs)) (run_one s));
  counts = λ w. let p = a.counts w in let q = l.counts w in let e = total_snoc (c_stmt_count w) ks t in let g = total_snoc (c_stmt_count w) xs s in omega (arith, p, q, e, g);
  deep = let p = a.deep in let q = l.deep in let e = deepest_snoc ks t in let g = deepest_snoc xs s in omega (arith, p, q, e, g);
  allowed = λ f b h.
      let i = a.allowed f b (all_first f xs (s ∷ []) b h) in
      all_both f ks (t ∷ []) b i (and_both _ _ (l.allowed f b i (and_first _ _ (all_second f xs (s ∷ []) b h))) refl);
}

-- ---- statements

-- the same statement
pub follow_same : (before : List CStmt) (s t : CStmt) → t ≡ s → FollowsLike before s t
follow_same before s t e = subst (FollowsLike before s) (sym e) (record { does = refl; counts = λ w. refl; deep = refl; allowed = λ f b h k. k })

-- a statement that does the same whatever stands before
follow_by : (before : List CStmt) (y z : CStmt-F CStmt CArm CGroup) → run (roll-CStmt z) ≡ run (roll-CStmt y) → ((w : Weights) → c_stmt_count w (roll-CStmt z) ≡ c_stmt_count w (roll-CStmt y))
    → stmt_depth (roll-CStmt z) ≡ stmt_depth (roll-CStmt y) → ((f : CFun) (b : Bool) → stmt_allowed f (roll-CStmt y) b ≡ true → stmt_allowed f (roll-CStmt z) b ≡ true)
    → FollowsLike before (roll-CStmt y) (roll-CStmt z)
follow_by before y z r c d a = record { does = ap (seq (run_all before)) r; counts = c; deep = d; allowed = λ f b h k. a f b k }

body_more : (ss ts : List CStmt) → AreLike ss ts → deepest (map stmt_depth ts) + 1 ≡ deepest (map stmt_depth ss) + 1
body_more ss ts a = ap (λ (n : ℕ). n + 1) a.deep

pub loop_like : (before ss ts : List CStmt) → AreLike ss ts → FollowsLike before (roll-CStmt (CStmt-F.Loop ss)) (roll-CStmt (CStmt-F.Loop ts))
loop_like before ss ts a = let y : CStmt-F CStmt CArm CGroup = CStmt-F.Loop ss in let z : CStmt-F CStmt CArm CGroup = CStmt-F.Loop ts in
    follow_by before y z
    (run_layer z ∙ ap (λ (p : Part). repeat always p always) a.does ∙ sym (run_layer y))
    (λ w. count_layer w z ∙ ap (λ (n : ℕ). w.loop + n) (a.counts w) ∙ sym (count_layer w y))
    (stmt_depth_layer z ∙ body_more ss ts a ∙ sym (stmt_depth_layer y))
    (λ f b k. ap (λ (g : Allowed). g b) (stmt_allowed_layer f z) ∙ a.allowed f true (sym (ap (λ (g : Allowed). g b) (stmt_allowed_layer f y)) ∙ k))

pub while_like : (before : List CStmt) (t : CCond) (ss ts : List CStmt) → AreLike ss ts → FollowsLike before (roll-CStmt (CStmt-F.While t ss)) (roll-CStmt (CStmt-F.While t ts))
while_like before t ss ts a = let y : CStmt-F CStmt CArm CGroup = CStmt-F.While t ss in let z : CStmt-F CStmt CArm CGroup = CStmt-F.While t ts in
    follow_by before y z
    (run_layer z ∙ ap (λ (p : Part). repeat (holds t) p always) a.does ∙ sym (run_layer y))
    (λ w. count_layer w z ∙ ap (λ (n : ℕ). w.loop + (w.test + n)) (a.counts w) ∙ sym (count_layer w y))
    (stmt_depth_layer z ∙ body_more ss ts a ∙ sym (stmt_depth_layer y))
    (λ f b k. let h = sym (ap (λ (g : Allowed). g b) (stmt_allowed_layer f y)) ∙ k in
    ap (λ (g : Allowed). g b) (stmt_allowed_layer f z) ∙ and_both _ _ (and_first _ _ h) (a.allowed f true (and_second (cond_allowed f t) _ h)))

-- ---- a test after a body

decide_same : (o p : Option Bool) (a b : Part) (n : ℕ) (w : World) → o ≡ p → a n w ≡ b n w → decide o a skip n w ≡ decide p b skip n w
decide_same o p a b n w e g = ap (λ (x : Option Bool). decide x a skip n w) e ∙ by p
  where
    by : (q : Option Bool) → decide q a skip n w ≡ decide q b skip n w
    by None = refl
    by (Some true) = g
    by (Some false) = refl

round_same : (r : Run World Outcome) (t u : Test) (a b : Part) → ((w' : World) (k : ℕ) → r ≡ Ends (Past w') k → u w' ≡ t w') → ((k : ℕ) (w : World) → b k w ≡ a k w) → on r (round u b) ≡ on r (round t a)
round_same (Ends (Past w') k) t u a b h g = decide_same (u w') (t w') b a k w' (h w' k refl) (g k w')
round_same (Ends (Broke w) k) t u a b h g = refl
round_same (Ends (Over o) k) t u a b h g = refl
round_same (Ends Stuck k) t u a b h g = refl
round_same (Goes w) t u a b h g = refl

module _ (body : Part) (t u : Test) (h : (n k : ℕ) (w w' : World) → body n w ≡ Ends (Past w') k → u w' ≡ t w') where
  turn_same : (a b : Part) → ((k : ℕ) (w : World) → b k w ≡ a k w) → (n : ℕ) (w : World) → turn body u b n w ≡ turn body t a n w
  turn_same a b g zero w = refl
  turn_same a b g (suc n) w = round_same (body n w) t u a b (λ w' k e. h n k w w' e) g

  rounds_same : (g n : ℕ) (w : World) → rounds g always body u n w ≡ rounds g always body t n w
  rounds_same zero n w = refl
  rounds_same (suc g) n w = turn_same (rounds g always body t) (rounds g always body u) (λ k v. rounds_same g k v) n w

  repeat_same : repeat always body u ≡ repeat always body t
  repeat_same = equal_parts _ _ (λ n w. rounds_same n n w)

pub do_like : (before ss ts : List CStmt) (t u : CCond) → AreLike ss ts → HoldsAfter ts t u → FollowsLike before (roll-CStmt (CStmt-F.DoWhile ss t)) (roll-CStmt (CStmt-F.DoWhile ts u))
do_like before ss ts t u a o = let y : CStmt-F CStmt CArm CGroup = CStmt-F.DoWhile ss t in let z : CStmt-F CStmt CArm CGroup = CStmt-F.DoWhile ts u in
    follow_by before y z
    (run_layer z ∙ repeat_same (run_all ts) (holds t) (holds u) o.truth ∙ ap (λ (p : Part). repeat always p (holds t)) a.does ∙ sym (run_layer y))
    (λ w. count_layer w z ∙ ap (λ (n : ℕ). w.loop + (w.test + n)) (a.counts w) ∙ sym (count_layer w y))
    (stmt_depth_layer z ∙ body_more ss ts a ∙ sym (stmt_depth_layer y))
    (λ f b k. let h = sym (ap (λ (g : Allowed). g b) (stmt_allowed_layer f y)) ∙ k in let i = a.allowed f true (and_first _ _ h) in
    ap (λ (g : Allowed). g b) (stmt_allowed_layer f z) ∙ and_both _ _ i (o.allowed f true i (and_second (all (map (stmt_allowed f) ss) true) _ h)))

-- ---- groups

groups_run : (as' bs : List CGroup) → GroupsLike as' bs → map run_group bs ≡ map run_group as'
groups_run [] [] h = refl
groups_run [] (b ∷ bs) h = absurd h
groups_run (a ∷ as') [] h = absurd h
groups_run (a ∷ as') (b ∷ bs) h = ap2 (λ (x : List ℕ × Part) (xs : List (List ℕ × Part)). x ∷ xs) _ _ _ _ h.0.does (groups_run as' bs h.1)

groups_count : (w : Weights) (as' bs : List CGroup) → GroupsLike as' bs → total (map (c_group_count w) bs) ≡ total (map (c_group_count w) as')
groups_count w [] [] h = refl
groups_count w [] (b ∷ bs) h = absurd h
groups_count w (a ∷ as') [] h = absurd h
groups_count w (a ∷ as') (b ∷ bs) h = ap2 (λ (x y : ℕ). x + y) _ _ _ _ (h.0.counts w) (groups_count w as' bs h.1)

groups_deep : (as' bs : List CGroup) → GroupsLike as' bs → deepest (map group_depth bs) ≡ deepest (map group_depth as')
groups_deep [] [] h = refl
groups_deep [] (b ∷ bs) h = absurd h
groups_deep (a ∷ as') [] h = absurd h
groups_deep (a ∷ as') (b ∷ bs) h = ap2 (λ (x y : ℕ). max x y) _ _ _ _ h.0.deep (groups_deep as' bs h.1)

groups_same : (f : CFun) (as' bs : List CGroup) → GroupsLike as' bs → groups_values (map (group_allowed f) bs) ≡ groups_values (map (group_allowed f) as')
groups_same f [] [] h = refl
groups_same f [] (b ∷ bs) h = absurd h
groups_same f (a ∷ as') [] h = absurd h
groups_same f (a ∷ as') (b ∷ bs) h = ap2 (λ (x y : List ℕ). x ++ y) _ _ _ _ (h.0.values f) (groups_same f as' bs h.1)

groups_pass : (f : CFun) (as' bs : List CGroup) → GroupsLike as' bs → all_groups (map (group_allowed f) as') ≡ true → all_groups (map (group_allowed f) bs) ≡ true
groups_pass f [] [] h k = k
groups_pass f [] (b ∷ bs) h k = absurd h
groups_pass f (a ∷ as') [] h k = absurd h
groups_pass f (a ∷ as') (b ∷ bs) h k = and_both _ _ (h.0.allowed f (and_first _ _ k)) (groups_pass f as' bs h.1 (and_second (group_allowed f a).1 _ k))

pub switch_like : (before : List CStmt) (e : CExpr) (as' bs : List CGroup) (ss ts : List CStmt) → GroupsLike as' bs → AreLike ss ts
    → FollowsLike before (roll-CStmt (CStmt-F.Switch e as' ss)) (roll-CStmt (CStmt-F.Switch e bs ts))
switch_like before e as' bs ss ts g a = let y : CStmt-F CStmt CArm CGroup = CStmt-F.Switch e as' ss in let z : CStmt-F CStmt CArm CGroup = CStmt-F.Switch e bs ts in
    follow_by before y z
    (run_layer z ∙ ap2 (λ (x : List (List ℕ × Part)) (p : Part). switch (word_in e) x p) _ _ _ _ (groups_run as' bs g) a.does ∙ sym (run_layer y))
    (λ w. count_layer w z ∙ ap2 (λ (n k : ℕ). w.test + (n + k)) _ _ _ _ (groups_count w as' bs g) (a.counts w) ∙ sym (count_layer w y))
    (stmt_depth_layer z ∙ ap2 (λ (n k : ℕ). max n k) _ _ _ _ (groups_deep as' bs g) (body_more ss ts a) ∙ sym (stmt_depth_layer y))
    (λ f b k. let h = sym (ap (λ (x : Allowed). x b) (stmt_allowed_layer f y)) ∙ k in
    let i = and_second (word_allowed f e) _ h in
    let j = and_second (all_groups (map (group_allowed f) as')) _ i in
    ap (λ (x : Allowed). x b) (stmt_allowed_layer f z) ∙ and_both _ _ (and_first _ _ h) (and_both _ _ (groups_pass f as' bs g (and_first _ _ i))
    (and_both _ _ (ap are_distinct (groups_same f as' bs g) ∙ and_first _ _ j) (a.allowed f true (and_second (are_distinct (groups_values (map (group_allowed f) as'))) _ j)))))

pub group_like : (values : List ℕ) (ss ts : List CStmt) → AreLike ss ts → GroupLike (roll-CGroup (record { values = values; body = ss })) (roll-CGroup (record { values = values; body = ts }))
group_like values ss ts a = let y : CGroup-F CStmt CArm CGroup = record { values = values; body = ss } in let z : CGroup-F CStmt CArm CGroup = record { values = values; body = ts } in record {
  does = run_group_layer z ∙ ap (λ (p : Part). (values, p)) a.does ∙ sym (run_group_layer y);
  counts = λ w. group_count_layer w z ∙ a.counts w ∙ sym (group_count_layer w y);
  deep = group_depth_layer z ∙ body_more ss ts a ∙ sym (group_depth_layer y);
  values = λ f. ap (λ (x : GroupAllowed). x.0) (group_allowed_layer f z) ∙ sym (ap (λ (x : GroupAllowed). x.0) (group_allowed_layer f y));
  allowed = λ f k. let h = sym (ap (λ (x : GroupAllowed). x.1) (group_allowed_layer f y)) ∙ k in let i = and_second (has_any values) _ h in
      ap (λ (x : GroupAllowed). x.1) (group_allowed_layer f z) ∙ and_both _ _ (and_first _ _ h) (and_both _ _ (and_first _ _ i) (a.allowed f true (and_second (are_words values) _ i)));
}

pub groups_snoc : (as' bs : List CGroup) (a b : CGroup) → GroupsLike as' bs → GroupLike a b → GroupsLike (as' ++ a ∷ []) (bs ++ b ∷ [])
groups_snoc [] [] a b h k = (k, tt)
groups_snoc [] (y ∷ ys) a b h k = absurd h
groups_snoc (x ∷ xs) [] a b h k = absurd h
groups_snoc (x ∷ xs) (y ∷ ys) a b h k = (h.0, groups_snoc xs ys a b h.1 k)

-- ---- arms

decide_rest : (o : Option Bool) (a r q : Part) (n : ℕ) (w : World) → r n w ≡ q n w → decide o a r n w ≡ decide o a q n w
decide_rest None a r q n w e = refl
decide_rest (Some true) a r q n w e = refl
decide_rest (Some false) a r q n w e = e

arms_run : (before : List CStmt) (as' bs : List CArm) → ArmsLike before as' bs → (last last' : Part) → last' ≡ last → (n k : ℕ) (w w' : World) → run_all before n w ≡ Ends (Past w') k
    → first_arm (map run_arm bs) last' k w' ≡ first_arm (map run_arm as') last k w'
arms_run before [] [] h last last' e n k w w' r = ap (λ (p : Part). p k w') e
arms_run before [] (b ∷ bs) h last last' e n k w w' r = absurd h
arms_run before (a ∷ as') [] h last last' e n k w w' r = absurd h
arms_run before (a ∷ as') (b ∷ bs) h last last' e n k w w' r =
    ap2 (λ (o : Option Bool) (p : Part). decide o p (first_arm (map run_arm bs) last') k w') _ _ _ _ (h.0.truth n k w w' r) h.0.does
    ∙ decide_rest ((run_arm a).0 w') (run_arm a).1 (first_arm (map run_arm bs) last') (first_arm (map run_arm as') last) k w' (arms_run before as' bs h.1 last last' e n k w w' r)

arms_count : (before : List CStmt) (w : Weights) (as' bs : List CArm) → ArmsLike before as' bs → total (map (c_arm_count w) bs) ≡ total (map (c_arm_count w) as')
arms_count before w [] [] h = refl
arms_count before w [] (b ∷ bs) h = absurd h
arms_count before w (a ∷ as') [] h = absurd h
arms_count before w (a ∷ as') (b ∷ bs) h = ap2 (λ (x y : ℕ). x + y) _ _ _ _ (h.0.counts w) (arms_count before w as' bs h.1)

arms_deep : (before : List CStmt) (as' bs : List CArm) → ArmsLike before as' bs → deepest (map arm_depth bs) ≡ deepest (map arm_depth as')
arms_deep before [] [] h = refl
arms_deep before [] (b ∷ bs) h = absurd h
arms_deep before (a ∷ as') [] h = absurd h
arms_deep before (a ∷ as') (b ∷ bs) h = ap2 (λ (x y : ℕ). max x y) _ _ _ _ h.0.deep (arms_deep before as' bs h.1)

arms_any : (before : List CStmt) (f : CFun) (as' bs : List CArm) → ArmsLike before as' bs → has_any (map (arm_allowed f) as') ≡ true → has_any (map (arm_allowed f) bs) ≡ true
arms_any before f [] [] h k = k
arms_any before f [] (b ∷ bs) h k = absurd h
arms_any before f (a ∷ as') [] h k = absurd h
arms_any before f (a ∷ as') (b ∷ bs) h k = refl

arms_pass : (before : List CStmt) (f : CFun) (x : Bool) → all (map (stmt_allowed f) before) x ≡ true → (as' bs : List CArm) → ArmsLike before as' bs → all (map (arm_allowed f) as') x ≡ true → all (map (arm_allowed f) bs) x ≡ true
arms_pass before f x i [] [] h k = k
arms_pass before f x i [] (b ∷ bs) h k = absurd h
arms_pass before f x i (a ∷ as') [] h k = absurd h
arms_pass before f x i (a ∷ as') (b ∷ bs) h k = and_both _ _ (h.0.allowed f x i (and_first _ _ k)) (arms_pass before f x i as' bs h.1 (and_second (arm_allowed f a x) _ k))

after_same : (r : Run World Outcome) (p q : Part) → ((w' : World) (k : ℕ) → r ≡ Ends (Past w') k → p k w' ≡ q k w') → on r (after p) ≡ on r (after q)
after_same (Ends (Past w) k) p q h = h w k refl
after_same (Ends (Broke w) k) p q h = refl
after_same (Ends (Over o) k) p q h = refl
after_same (Ends Stuck k) p q h = refl
after_same (Goes w) p q h = refl

-- an `if` after statements, by what it does there
if_run : (before : List CStmt) (y z : CStmt-F CStmt CArm CGroup) (as' bs : List CArm) (last last' : Part) → ArmsLike before as' bs → last' ≡ last
    → run (roll-CStmt y) ≡ first_arm (map run_arm as') last → run (roll-CStmt z) ≡ first_arm (map run_arm bs) last' → seq (run_all before) (run (roll-CStmt z)) ≡ seq (run_all before) (run (roll-CStmt y))
if_run before y z as' bs last last' h e ry rz =
    ap (seq (run_all before)) rz
    ∙ equal_parts _ _ (λ n w. after_same (run_all before n w) (first_arm (map run_arm bs) last') (first_arm (map run_arm as') last) (λ w' k r. arms_run before as' bs h last last' e n k w w' r))
    ∙ ap (seq (run_all before)) (sym ry)

pub if_none_like : (before : List CStmt) (as' bs : List CArm) → ArmsLike before as' bs → FollowsLike before (roll-CStmt (CStmt-F.If as' None)) (roll-CStmt (CStmt-F.If bs None))
if_none_like before as' bs h = let y : CStmt-F CStmt CArm CGroup = CStmt-F.If as' None in let z : CStmt-F CStmt CArm CGroup = CStmt-F.If bs None in record {
  does = if_run before y z as' bs skip skip h refl (run_layer y) (run_layer z);
  counts = λ w. count_layer w z ∙ arms_count before w as' bs h ∙ sym (count_layer w y);
  deep = stmt_depth_layer z ∙ ap (λ (n : ℕ). max n 0) (arms_deep before as' bs h) ∙ sym (stmt_depth_layer y);
  allowed = λ f b i k. let j = sym (ap (λ (x : Allowed). x b) (stmt_allowed_layer f y)) ∙ k in let l = and_second (has_any (map (arm_allowed f) as')) _ j in
      ap (λ (x : Allowed). x b) (stmt_allowed_layer f z) ∙ and_both _ _ (arms_any before f as' bs h (and_first _ _ j)) (and_both _ _ (arms_pass before f b i as' bs h (and_first _ _ l)) refl);
}

pub if_some_like : (before : List CStmt) (as' bs : List CArm) (ss ts : List CStmt) → ArmsLike before as' bs → AreLike ss ts
    → FollowsLike before (roll-CStmt (CStmt-F.If as' (Some ss))) (roll-CStmt (CStmt-F.If bs (Some ts)))
if_some_like before as' bs ss ts h a = let y : CStmt-F CStmt CArm CGroup = CStmt-F.If as' (Some ss) in let z : CStmt-F CStmt CArm CGroup = CStmt-F.If bs (Some ts) in record {
  does = if_run before y z as' bs (run_all ss) (run_all ts) h a.does (run_layer y) (run_layer z);
  counts = λ w. count_layer w z ∙ ap2 (λ (n k : ℕ). n + k) _ _ _ _ (arms_count before w as' bs h) (a.counts w) ∙ sym (count_layer w y);
  deep = stmt_depth_layer z ∙ ap2 (λ (n k : ℕ). max n k) _ _ _ _ (arms_deep before as' bs h) (body_more ss ts a) ∙ sym (stmt_depth_layer y);
  allowed = λ f b i k. let j = sym (ap (λ (x : Allowed). x b) (stmt_allowed_layer f y)) ∙ k in let l = and_second (has_any (map (arm_allowed f) as')) _ j in
      ap (λ (x : Allowed). x b) (stmt_allowed_layer f z) ∙ and_both _ _ (arms_any before f as' bs h (and_first _ _ j)) (and_both _ _ (arms_pass before f b i as' bs h (and_first _ _ l))
      (a.allowed f b (and_second (all (map (arm_allowed f) as') b) _ l)));
}

pub arm_like : (before : List CStmt) (t u : CCond) (ss ts : List CStmt) → HoldsAfter before t u → AreLike ss ts → ArmLike before (roll-CArm (record { test = t; body = ss })) (roll-CArm (record { test = u; body = ts }))
arm_like before t u ss ts o a = let y : CArm-F CStmt CArm CGroup = record { test = t; body = ss } in let z : CArm-F CStmt CArm CGroup = record { test = u; body = ts } in record {
  truth = λ n k w w' r. ap (λ (p : Test × Part). p.0 w') (run_arm_layer z) ∙ o.truth n k w w' r ∙ sym (ap (λ (p : Test × Part). p.0 w') (run_arm_layer y));
  does = ap (λ (p : Test × Part). p.1) (run_arm_layer z) ∙ a.does ∙ sym (ap (λ (p : Test × Part). p.1) (run_arm_layer y));
  counts = λ w. arm_count_layer w z ∙ ap (λ (n : ℕ). w.test + n) (a.counts w) ∙ sym (arm_count_layer w y);
  deep = arm_depth_layer z ∙ body_more ss ts a ∙ sym (arm_depth_layer y);
  allowed = λ f x i k. let j = sym (ap (λ (g : Allowed). g x) (arm_allowed_layer f y)) ∙ k in
      ap (λ (g : Allowed). g x) (arm_allowed_layer f z) ∙ and_both _ _ (o.allowed f x i (and_first _ _ j)) (a.allowed f x (and_second (cond_allowed f t) _ j));
}

pub arms_snoc : (before : List CStmt) (as' bs : List CArm) (a b : CArm) → ArmsLike before as' bs → ArmLike before a b → ArmsLike before (as' ++ a ∷ []) (bs ++ b ∷ [])
arms_snoc before [] [] a b h k = (k, tt)
arms_snoc before [] (y ∷ ys) a b h k = absurd h
arms_snoc before (x ∷ xs) [] a b h k = absurd h
arms_snoc before (x ∷ xs) (y ∷ ys) a b h k = (h.0, arms_snoc before xs ys a b h.1 k)
