-- The parts of a statement, arm or group that fits fit, and parts that do make a whole that fits.
use Rattle.std.proofs.Common.{◌≡◌, ℕ, ◌+◌, ◌-◌, ◌^◌, ◌<◌, ◌≤◌, max, Bool, true, ◌&&◌, nat_le, List, [], ◌∷◌, ◌++◌, Some, None, map, refl, sym, ap, ◌∙◌, subst, arith}
use borrow.Author.Tests.{lt-ltb, ltb-true, leb-true, le-leb}
use Rattle.c_syntax.specs.declared.syntax.CExpr.{CExpr}
use Rattle.c_syntax.specs.declared.syntax.CCond.{CCond}
use Rattle.c_syntax.specs.declared.syntax.CStmt as st
use Rattle.c_syntax.specs.declared.syntax.CStmt.{CStmt, CStmt-F, roll-CStmt, ind-CStmt}
use Rattle.c_syntax.specs.declared.syntax.CArm.{CArm, CArm-F, roll-CArm, ind-CArm}
use Rattle.c_syntax.specs.declared.syntax.CGroup.{CGroup, CGroup-F, roll-CGroup, ind-CGroup}
use Rattle.c_syntax.specs.Formed as ok
use Rattle.c_syntax.specs.Formed.{Allowed, GroupAllowed, is_word, is_target, has_any, are_words, are_distinct, all_groups, groups_values, names_word, names_cond, word_allowed, cond_allowed, stmt_allowed, arm_allowed, group_allowed}
use Rattle.c_syntax.specs.Depth as depth
use Rattle.c_syntax.specs.Depth.{word_depth, cond_depth, deepest, stmt_depth, arm_depth, group_depth}
use Rattle.c_syntax.proofs.Layers.{stmt_allowed_layer, arm_allowed_layer, group_allowed_layer, stmt_depth_layer, arm_depth_layer, group_depth_layer}
use Rattle.read_words.specs.declared.open.Locals.{Locals}
use Rattle.read_words.specs.Turns.{scope}
use Rattle.read_words.specs.Rests.{FitsWord, FitsCond}
use Rattle.read_words.proofs.Fitting.{both_true, two_true}
use Rattle.read_statements.specs.Rests.{FitsStmt, FitsArm, FitsGroup, FitsStmts, FitsArms, FitsGroups, FitsLast, values_of}

-- each statement, arm and group is made of a layer
pub stmt_rolled : (s : CStmt) → (y : CStmt-F CStmt CArm CGroup) × (s ≡ roll-CStmt y)
stmt_rolled s = ind-CStmt (λ s. (y : CStmt-F CStmt CArm CGroup) × (s ≡ roll-CStmt y)) (λ a. (y : CArm-F CStmt CArm CGroup) × (a ≡ roll-CArm y)) (λ g. (y : CGroup-F CStmt CArm CGroup) × (g ≡ roll-CGroup y))
    (λ x y h. (x, refl)) (λ x y h. (x, refl)) (λ x y h. (x, refl)) s

pub arm_rolled : (a : CArm) → (y : CArm-F CStmt CArm CGroup) × (a ≡ roll-CArm y)
arm_rolled a = ind-CArm (λ s. (y : CStmt-F CStmt CArm CGroup) × (s ≡ roll-CStmt y)) (λ a. (y : CArm-F CStmt CArm CGroup) × (a ≡ roll-CArm y)) (λ g. (y : CGroup-F CStmt CArm CGroup) × (g ≡ roll-CGroup y))
    (λ x y h. (x, refl)) (λ x y h. (x, refl)) (λ x y h. (x, refl)) a

pub group_rolled : (g : CGroup) → (y : CGroup-F CStmt CArm CGroup) × (g ≡ roll-CGroup y)
group_rolled g = ind-CGroup (λ s. (y : CStmt-F CStmt CArm CGroup) × (s ≡ roll-CStmt y)) (λ a. (y : CArm-F CStmt CArm CGroup) × (a ≡ roll-CArm y)) (λ g. (y : CGroup-F CStmt CArm CGroup) × (g ≡ roll-CGroup y))
    (λ x y h. (x, refl)) (λ x y h. (x, refl)) (λ x y h. (x, refl)) g

module _ (l : Locals) where
  -- Words and Conds
  pub word_fits : (a : CExpr) → word_allowed (scope l) a ≡ true → FitsWord l 256 a
  word_fits a h = let p = both_true (names_word (scope l) a) (nat_le (word_depth a) 256) h in record { names = p.0; deep = leb-true (word_depth a) 256 p.1 }

  pub word_ok : (a : CExpr) → FitsWord l 256 a → word_allowed (scope l) a ≡ true
  word_ok a f = two_true (names_word (scope l) a) (nat_le (word_depth a) 256) f.names (le-leb (word_depth a) 256 f.deep)

  pub cond_fits : (c : CCond) → cond_allowed (scope l) c ≡ true → FitsCond l 256 c
  cond_fits c h = let p = both_true (names_cond (scope l) c) (nat_le (cond_depth c) 256) h in record { names = p.0; deep = leb-true (cond_depth c) 256 p.1 }

  pub cond_ok : (c : CCond) → FitsCond l 256 c → cond_allowed (scope l) c ≡ true
  cond_ok c f = two_true (names_cond (scope l) c) (nat_le (cond_depth c) 256) f.names (le-leb (cond_depth c) 256 f.deep)

  -- statements one after another
  pub stmts_fit : (b : Bool) (d : ℕ) (ss : List CStmt) → ok.all (map (stmt_allowed (scope l)) ss) b ≡ true → deepest (map stmt_depth ss) ≤ d → FitsStmts l b d ss
  stmts_fit b d [] h p = tt
  stmts_fit b d (s ∷ ss) h p =
      let q = both_true (stmt_allowed (scope l) s b) (ok.all (map (stmt_allowed (scope l)) ss) b) h in
      (record { allowed = q.0; deep = omega arith }, stmts_fit b d ss q.1 (omega arith))

  pub stmts_ok : (b : Bool) (d : ℕ) (ss : List CStmt) → FitsStmts l b d ss → ok.all (map (stmt_allowed (scope l)) ss) b ≡ true
  stmts_ok b d [] f = refl
  stmts_ok b d (s ∷ ss) f = two_true (stmt_allowed (scope l) s b) (ok.all (map (stmt_allowed (scope l)) ss) b) f.0.allowed (stmts_ok b d ss f.1)

  pub stmts_deep : (b : Bool) (d : ℕ) (ss : List CStmt) → FitsStmts l b d ss → deepest (map stmt_depth ss) ≤ d
  stmts_deep b d [] f = omega arith
  stmts_deep b d (s ∷ ss) f = let p = f.0.deep in let q = stmts_deep b d ss f.1 in omega arith

  -- arms
  pub arms_fit : (b : Bool) (d : ℕ) (ss : List CArm) → ok.all (map (arm_allowed (scope l)) ss) b ≡ true → deepest (map arm_depth ss) ≤ d → FitsArms l b d ss
  arms_fit b d [] h p = tt
  arms_fit b d (s ∷ ss) h p =
      let q = both_true (arm_allowed (scope l) s b) (ok.all (map (arm_allowed (scope l)) ss) b) h in
      (record { allowed = q.0; deep = omega arith }, arms_fit b d ss q.1 (omega arith))

  pub arms_ok : (b : Bool) (d : ℕ) (ss : List CArm) → FitsArms l b d ss → ok.all (map (arm_allowed (scope l)) ss) b ≡ true
  arms_ok b d [] f = refl
  arms_ok b d (s ∷ ss) f = two_true (arm_allowed (scope l) s b) (ok.all (map (arm_allowed (scope l)) ss) b) f.0.allowed (arms_ok b d ss f.1)

  pub arms_deep : (b : Bool) (d : ℕ) (ss : List CArm) → FitsArms l b d ss → deepest (map arm_depth ss) ≤ d
  arms_deep b d [] f = omega arith
  arms_deep b d (s ∷ ss) f = let p = f.0.deep in let q = arms_deep b d ss f.1 in omega arith

  -- groups
  pub groups_fit : (d : ℕ) (ss : List CGroup) → all_groups (map (group_allowed (scope l)) ss) ≡ true → deepest (map group_depth ss) ≤ d → FitsGroups l d ss
  groups_fit d [] h p = tt
  groups_fit d (s ∷ ss) h p =
      let q = both_true (group_allowed (scope l) s).1 (all_groups (map (group_allowed (scope l)) ss)) h in
      (record { allowed = q.0; deep = omega arith }, groups_fit d ss q.1 (omega arith))

  pub groups_ok : (d : ℕ) (ss : List CGroup) → FitsGroups l d ss → all_groups (map (group_allowed (scope l)) ss) ≡ true
  groups_ok d [] f = refl
  groups_ok d (s ∷ ss) f = two_true (group_allowed (scope l) s).1 (all_groups (map (group_allowed (scope l)) ss)) f.0.allowed (groups_ok d ss f.1)

  pub groups_deep : (d : ℕ) (ss : List CGroup) → FitsGroups l d ss → deepest (map group_depth ss) ≤ d
  groups_deep d [] f = omega arith
  groups_deep d (s ∷ ss) f = let p = f.0.deep in let q = groups_deep d ss f.1 in omega arith

  -- there are as many tests as arms
  any_arms : (arms : List CArm) → has_any (map (arm_allowed (scope l)) arms) ≡ has_any arms
  any_arms [] = refl
  any_arms (a ∷ arms) = refl

  -- what is known of the parts of each statement
  abbrev pub Parts : Bool → ℕ → CStmt-F CStmt CArm CGroup → Type 0
  Parts b d (CStmt-F.Set n a) = (is_target (scope l) n ≡ true) × FitsWord l 256 a
  Parts b d (CStmt-F.Load n w a) = (is_target (scope l) n ≡ true) × FitsWord l 256 a
  Parts b d (CStmt-F.Store w a v) = FitsWord l 256 a × FitsWord l 256 v
  Parts b d (CStmt-F.Ext a) = FitsWord l 256 a
  Parts b d (CStmt-F.Trap v a) = (v < 2 ^ 32) × FitsWord l 256 a
  Parts b d (CStmt-F.If arms last) = (has_any arms ≡ true) × (1 ≤ d) × FitsArms l b d arms × FitsLast l b d last
  Parts b d (CStmt-F.Switch a groups last) = FitsWord l 256 a × (1 ≤ d) × FitsGroups l d groups × (are_distinct (values_of l groups) ≡ true) × FitsStmts l true (d - 1) last
  Parts b d (CStmt-F.Loop body) = (1 ≤ d) × FitsStmts l true (d - 1) body
  Parts b d (CStmt-F.While c body) = FitsCond l 256 c × (1 ≤ d) × FitsStmts l true (d - 1) body
  Parts b d (CStmt-F.DoWhile body c) = (1 ≤ d) × FitsStmts l true (d - 1) body × FitsCond l 256 c
  Parts b d CStmt-F.Break = b ≡ true
  Parts b d CStmt-F.Return = Unit {0}

  -- an arm, and a group
  arm_ok_at : (b : Bool) (d : ℕ) (y : CArm-F CStmt CArm CGroup) → FitsArm l b d (roll-CArm y) → (cond_allowed (scope l) y.test && ok.all (map (stmt_allowed (scope l)) y.body) b) ≡ true
  arm_ok_at b d y f = ap (λ g. g b) (sym (arm_allowed_layer (scope l) y)) ∙ f.allowed

  arm_deep_at : (b : Bool) (d : ℕ) (y : CArm-F CStmt CArm CGroup) → FitsArm l b d (roll-CArm y) → deepest (map stmt_depth y.body) + 1 ≤ d
  arm_deep_at b d y f = subst (λ n. n ≤ d) (arm_depth_layer y) f.deep

  pub arm_parts : (b : Bool) (d : ℕ) (y : CArm-F CStmt CArm CGroup) → FitsArm l b d (roll-CArm y) → FitsCond l 256 y.test × (1 ≤ d) × FitsStmts l b (d - 1) y.body
  arm_parts b d y f =
      let p = both_true (cond_allowed (scope l) y.test) (ok.all (map (stmt_allowed (scope l)) y.body) b) (arm_ok_at b d y f) in
      let q = arm_deep_at b d y f in
      (cond_fits y.test p.0, omega arith, stmts_fit b (d - 1) y.body p.1 (omega arith))

  pub arm_fits : (b : Bool) (d : ℕ) (y : CArm-F CStmt CArm CGroup) → FitsCond l 256 y.test → 1 ≤ d → FitsStmts l b (d - 1) y.body → FitsArm l b d (roll-CArm y)
  arm_fits b d y c p f =
      let q = stmts_deep b (d - 1) y.body f in
      let n : deepest (map stmt_depth y.body) + 1 ≤ d = omega arith in
      record {
        allowed = ap (λ g. g b) (arm_allowed_layer (scope l) y) ∙ two_true (cond_allowed (scope l) y.test) (ok.all (map (stmt_allowed (scope l)) y.body) b) (cond_ok y.test c) (stmts_ok b (d - 1) y.body f);
        deep = subst (λ n. n ≤ d) (sym (arm_depth_layer y)) n;
      }

  pub group_values_are : (y : CGroup-F CStmt CArm CGroup) → (group_allowed (scope l) (roll-CGroup y)).0 ≡ y.values
  group_values_are y = ap (λ g. g.0) (group_allowed_layer (scope l) y)

  group_ok_at : (d : ℕ) (y : CGroup-F CStmt CArm CGroup) → FitsGroup l d (roll-CGroup y) → (has_any y.values && (are_words y.values && ok.all (map (stmt_allowed (scope l)) y.body) true)) ≡ true
  group_ok_at d y f = ap (λ g. g.1) (sym (group_allowed_layer (scope l) y)) ∙ f.allowed

  group_deep_at : (d : ℕ) (y : CGroup-F CStmt CArm CGroup) → FitsGroup l d (roll-CGroup y) → deepest (map stmt_depth y.body) + 1 ≤ d
  group_deep_at d y f = subst (λ n. n ≤ d) (group_depth_layer y) f.deep

  pub group_parts : (d : ℕ) (y : CGroup-F CStmt CArm CGroup) → FitsGroup l d (roll-CGroup y) → (has_any y.values ≡ true) × (are_words y.values ≡ true) × (1 ≤ d) × FitsStmts l true (d - 1) y.body
  group_parts d y f =
      let p = both_true (has_any y.values) (are_words y.values && ok.all (map (stmt_allowed (scope l)) y.body) true) (group_ok_at d y f) in
      let r = both_true (are_words y.values) (ok.all (map (stmt_allowed (scope l)) y.body) true) p.1 in
      let q = group_deep_at d y f in
      (p.0, r.0, omega arith, stmts_fit true (d - 1) y.body r.1 (omega arith))

  pub group_fits : (d : ℕ) (y : CGroup-F CStmt CArm CGroup) → has_any y.values ≡ true → are_words y.values ≡ true → 1 ≤ d → FitsStmts l true (d - 1) y.body → FitsGroup l d (roll-CGroup y)
  group_fits d y v w p f =
      let q = stmts_deep true (d - 1) y.body f in
      let n : deepest (map stmt_depth y.body) + 1 ≤ d = omega arith in
      record {
        allowed = ap (λ g. g.1) (group_allowed_layer (scope l) y) ∙ two_true (has_any y.values) (are_words y.values && ok.all (map (stmt_allowed (scope l)) y.body) true) v
            (two_true (are_words y.values) (ok.all (map (stmt_allowed (scope l)) y.body) true) w (stmts_ok true (d - 1) y.body f));
        deep = subst (λ n. n ≤ d) (sym (group_depth_layer y)) n;
      }

  -- arms need depth
  arms_room : (b : Bool) (d : ℕ) (arms : List CArm) → has_any arms ≡ true → FitsArms l b d arms → 1 ≤ d
  arms_room b d [] h f = absurd (cc)
  arms_room b d (a ∷ arms) h f =
      let y = arm_rolled a in (arm_parts b d y.0 (subst (FitsArm l b d) y.1 f.0)).1

  module _ (b : Bool) (d : ℕ) where
    allowed_at : (y : CStmt-F CStmt CArm CGroup) → FitsStmt l b d (roll-CStmt y)
        → ok.stmt_at (scope l) (st.map-CStmt CStmt CArm CGroup Allowed Allowed GroupAllowed (stmt_allowed (scope l)) (arm_allowed (scope l)) (group_allowed (scope l)) y) b ≡ true
    allowed_at y f = ap (λ g. g b) (sym (stmt_allowed_layer (scope l) y)) ∙ f.allowed

    deep_at : (y : CStmt-F CStmt CArm CGroup) → FitsStmt l b d (roll-CStmt y) → depth.stmt_depth_at (st.map-CStmt CStmt CArm CGroup ℕ ℕ ℕ stmt_depth arm_depth group_depth y) ≤ d
    deep_at y f = subst (λ n. n ≤ d) (stmt_depth_layer y) f.deep

    whole : (y : CStmt-F CStmt CArm CGroup)
        → ok.stmt_at (scope l) (st.map-CStmt CStmt CArm CGroup Allowed Allowed GroupAllowed (stmt_allowed (scope l)) (arm_allowed (scope l)) (group_allowed (scope l)) y) b ≡ true
        → depth.stmt_depth_at (st.map-CStmt CStmt CArm CGroup ℕ ℕ ℕ stmt_depth arm_depth group_depth y) ≤ d → FitsStmt l b d (roll-CStmt y)
    whole y h p = record { allowed = ap (λ g. g b) (stmt_allowed_layer (scope l) y) ∙ h; deep = subst (λ n. n ≤ d) (sym (stmt_depth_layer y)) p }

    pub parts : (y : CStmt-F CStmt CArm CGroup) → FitsStmt l b d (roll-CStmt y) → Parts b d y
    parts (CStmt-F.Set n a) f = let p = both_true (is_target (scope l) n) (word_allowed (scope l) a) (allowed_at (CStmt-F.Set n a) f) in (p.0, word_fits a p.1)
    parts (CStmt-F.Load n w a) f = let p = both_true (is_target (scope l) n) (word_allowed (scope l) a) (allowed_at (CStmt-F.Load n w a) f) in (p.0, word_fits a p.1)
    parts (CStmt-F.Store w a v) f = let p = both_true (word_allowed (scope l) a) (word_allowed (scope l) v) (allowed_at (CStmt-F.Store w a v) f) in (word_fits a p.0, word_fits v p.1)
    parts (CStmt-F.Ext a) f = word_fits a (allowed_at (CStmt-F.Ext a) f)
    parts (CStmt-F.Trap v a) f = let p = both_true (is_word v) (word_allowed (scope l) a) (allowed_at (CStmt-F.Trap v a) f) in (ltb-true v (2 ^ 32) p.0, word_fits a p.1)
    parts (CStmt-F.If arms None) f =
        let p = both_true (has_any (map (arm_allowed (scope l)) arms)) (ok.all (map (arm_allowed (scope l)) arms) b && true) (allowed_at (CStmt-F.If arms None) f) in
        let q = both_true (ok.all (map (arm_allowed (scope l)) arms) b) true p.1 in
        let n : max (deepest (map arm_depth arms)) 0 ≤ d = deep_at (CStmt-F.If arms None) f in
        let fa : FitsArms l b d arms = arms_fit b d arms q.0 (omega arith) in
        let an = sym (any_arms arms) ∙ p.0 in
        (an, arms_room b d arms an fa, fa, tt)
    parts (CStmt-F.If arms (Some last)) f =
        let p = both_true (has_any (map (arm_allowed (scope l)) arms)) (ok.all (map (arm_allowed (scope l)) arms) b && ok.all (map (stmt_allowed (scope l)) last) b) (allowed_at (CStmt-F.If arms (Some last)) f) in
        let q = both_true (ok.all (map (arm_allowed (scope l)) arms) b) (ok.all (map (stmt_allowed (scope l)) last) b) p.1 in
        let n : max (deepest (map arm_depth arms)) (deepest (map stmt_depth last) + 1) ≤ d = deep_at (CStmt-F.If arms (Some last)) f in
        (sym (any_arms arms) ∙ p.0, omega arith, arms_fit b d arms q.0 (omega arith), stmts_fit b (d - 1) last q.1 (omega arith))
    parts (CStmt-F.Switch a groups last) f =
        let p = both_true (word_allowed (scope l) a) (all_groups (map (group_allowed (scope l)) groups) && (are_distinct (values_of l groups) && ok.all (map (stmt_allowed (scope l)) last) true)) (allowed_at (CStmt-F.Switch a groups last) f) in
        let q = both_true (all_groups (map (group_allowed (scope l)) groups)) (are_distinct (values_of l groups) && ok.all (map (stmt_allowed (scope l)) last) true) p.1 in
        let s = both_true (are_distinct (values_of l groups)) (ok.all (map (stmt_allowed (scope l)) last) true) q.1 in
        let n : max (deepest (map group_depth groups)) (deepest (map stmt_depth last) + 1) ≤ d = deep_at (CStmt-F.Switch a groups last) f in
        (word_fits a p.0, omega arith, groups_fit d groups q.0 (omega arith), s.0, stmts_fit true (d - 1) last s.1 (omega arith))
    parts (CStmt-F.Loop body) f =
        let n : deepest (map stmt_depth body) + 1 ≤ d = deep_at (CStmt-F.Loop body) f in
        (omega arith, stmts_fit true (d - 1) body (allowed_at (CStmt-F.Loop body) f) (omega arith))
    parts (CStmt-F.While c body) f =
        let p = both_true (cond_allowed (scope l) c) (ok.all (map (stmt_allowed (scope l)) body) true) (allowed_at (CStmt-F.While c body) f) in
        let n : deepest (map stmt_depth body) + 1 ≤ d = deep_at (CStmt-F.While c body) f in
        (cond_fits c p.0, omega arith, stmts_fit true (d - 1) body p.1 (omega arith))
    parts (CStmt-F.DoWhile body c) f =
        let p = both_true (ok.all (map (stmt_allowed (scope l)) body) true) (cond_allowed (scope l) c) (allowed_at (CStmt-F.DoWhile body c) f) in
        let n : deepest (map stmt_depth body) + 1 ≤ d = deep_at (CStmt-F.DoWhile body c) f in
        (omega arith, stmts_fit true (d - 1) body p.0 (omega arith), cond_fits c p.1)
    parts CStmt-F.Break f = allowed_at CStmt-F.Break f
    parts CStmt-F.Return f = tt

    pub fits : (y : CStmt-F CStmt CArm CGroup) → Parts b d y → FitsStmt l b d (roll-CStmt y)
    fits (CStmt-F.Set n a) h = whole (CStmt-F.Set n a) (two_true (is_target (scope l) n) (word_allowed (scope l) a) h.0 (word_ok a h.1)) (omega arith)
    fits (CStmt-F.Load n w a) h = whole (CStmt-F.Load n w a) (two_true (is_target (scope l) n) (word_allowed (scope l) a) h.0 (word_ok a h.1)) (omega arith)
    fits (CStmt-F.Store w a v) h = whole (CStmt-F.Store w a v) (two_true (word_allowed (scope l) a) (word_allowed (scope l) v) (word_ok a h.0) (word_ok v h.1)) (omega arith)
    fits (CStmt-F.Ext a) h = whole (CStmt-F.Ext a) (word_ok a h) (omega arith)
    fits (CStmt-F.Trap v a) h = whole (CStmt-F.Trap v a) (two_true (is_word v) (word_allowed (scope l) a) (lt-ltb v (2 ^ 32) h.0) (word_ok a h.1)) (omega arith)
    fits (CStmt-F.If arms None) h =
        let n = arms_deep b d arms h.2 in
        let m : max (deepest (map arm_depth arms)) 0 ≤ d = omega arith in
        whole (CStmt-F.If arms None) (two_true (has_any (map (arm_allowed (scope l)) arms)) (ok.all (map (arm_allowed (scope l)) arms) b && true) (any_arms arms ∙ h.0) (two_true (ok.all (map (arm_allowed (scope l)) arms) b) true (arms_ok b d arms h.2) refl)) m
    fits (CStmt-F.If arms (Some last)) h =
        let n = arms_deep b d arms h.2 in
        let k = stmts_deep b (d - 1) last h.3 in
        let p = h.1 in
        let m : max (deepest (map arm_depth arms)) (deepest (map stmt_depth last) + 1) ≤ d = omega arith in
        whole (CStmt-F.If arms (Some last)) (two_true (has_any (map (arm_allowed (scope l)) arms)) (ok.all (map (arm_allowed (scope l)) arms) b && ok.all (map (stmt_allowed (scope l)) last) b) (any_arms arms ∙ h.0)
        (two_true (ok.all (map (arm_allowed (scope l)) arms) b) (ok.all (map (stmt_allowed (scope l)) last) b) (arms_ok b d arms h.2) (stmts_ok b (d - 1) last h.3))) m
    fits (CStmt-F.Switch a groups last) h =
        let n = groups_deep d groups h.2 in
        let k = stmts_deep true (d - 1) last h.4 in
        let p = h.1 in
        let m : max (deepest (map group_depth groups)) (deepest (map stmt_depth last) + 1) ≤ d = omega arith in
        whole (CStmt-F.Switch a groups last)
        (two_true (word_allowed (scope l) a) (all_groups (map (group_allowed (scope l)) groups) && (are_distinct (values_of l groups) && ok.all (map (stmt_allowed (scope l)) last) true)) (word_ok a h.0)
        (two_true (all_groups (map (group_allowed (scope l)) groups)) (are_distinct (values_of l groups) && ok.all (map (stmt_allowed (scope l)) last) true) (groups_ok d groups h.2)
        (two_true (are_distinct (values_of l groups)) (ok.all (map (stmt_allowed (scope l)) last) true) h.3 (stmts_ok true (d - 1) last h.4)))) m
    fits (CStmt-F.Loop body) h =
        let k = stmts_deep true (d - 1) body h.1 in let p = h.0 in
        let m : deepest (map stmt_depth body) + 1 ≤ d = omega arith in
        whole (CStmt-F.Loop body) (stmts_ok true (d - 1) body h.1) m
    fits (CStmt-F.While c body) h =
        let k = stmts_deep true (d - 1) body h.2 in let p = h.1 in
        let m : deepest (map stmt_depth body) + 1 ≤ d = omega arith in
        whole (CStmt-F.While c body) (two_true (cond_allowed (scope l) c) (ok.all (map (stmt_allowed (scope l)) body) true) (cond_ok c h.0) (stmts_ok true (d - 1) body h.2)) m
    fits (CStmt-F.DoWhile body c) h =
        let k = stmts_deep true (d - 1) body h.1 in let p = h.0 in
        let m : deepest (map stmt_depth body) + 1 ≤ d = omega arith in
        whole (CStmt-F.DoWhile body c) (two_true (ok.all (map (stmt_allowed (scope l)) body) true) (cond_allowed (scope l) c) (stmts_ok true (d - 1) body h.1) (cond_ok c h.2)) m
    fits CStmt-F.Break h = whole CStmt-F.Break h (omega arith)
    fits CStmt-F.Return h = whole CStmt-F.Return refl (omega arith)

  -- one more at the end
  pub stmts_push : (b : Bool) (d : ℕ) (ss : List CStmt) (s : CStmt) → FitsStmts l b d ss → FitsStmt l b d s → FitsStmts l b d (ss ++ s ∷ [])
  stmts_push b d [] s f h = (h, tt)
  stmts_push b d (x ∷ ss) s f h = (f.0, stmts_push b d ss s f.1 h)

  pub arms_push : (b : Bool) (d : ℕ) (ss : List CArm) (s : CArm) → FitsArms l b d ss → FitsArm l b d s → FitsArms l b d (ss ++ s ∷ [])
  arms_push b d [] s f h = (h, tt)
  arms_push b d (x ∷ ss) s f h = (f.0, arms_push b d ss s f.1 h)

  pub groups_push : (d : ℕ) (ss : List CGroup) (s : CGroup) → FitsGroups l d ss → FitsGroup l d s → FitsGroups l d (ss ++ s ∷ [])
  groups_push d [] s f h = (h, tt)
  groups_push d (x ∷ ss) s f h = (f.0, groups_push d ss s f.1 h)
