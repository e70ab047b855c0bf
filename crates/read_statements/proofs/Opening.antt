-- What comes first where several statements, arms, groups or values may come, and what it makes of the rest.
use Rattle.std.proofs.Common.{◌≡◌, ◌⊎◌, inl, inr, ℕ, ◌-◌, ◌^◌, ◌≤◌, Bool, true, List, [], ◌∷◌, ◌++◌, Option, Some, None, map, refl, sym, ap, ◌∙◌, subst}
use Rattle.std.proofs.lemmas.List.{append_assoc, append-nil}
use borrow.Author.Tests.{lt-ltb, ltb-true}
use Rattle.c_syntax.specs.declared.syntax.CStmt.{CStmt, CStmt-F, roll-CStmt}
use Rattle.c_syntax.specs.declared.syntax.CArm.{CArm, CArm-F, roll-CArm}
use Rattle.c_syntax.specs.declared.syntax.CGroup.{CGroup, CGroup-F, roll-CGroup}
use Rattle.c_syntax.specs.declared.token.Token.{Token}
use Rattle.c_syntax.specs.declared.token.Token.TheVariants as tok
use Rattle.c_syntax.specs.Tokens.{cond_tokens, all, body_tokens, more_arms, cases_tokens, stmt_tokens, arm_tokens, group_tokens}
use Rattle.c_syntax.specs.Formed.{is_word, are_distinct, are_words, group_allowed}
use Rattle.c_syntax.proofs.Layers.{arm_tokens_layer, group_tokens_layer}
use Rattle.read_words.specs.declared.open.Locals.{Locals}
use Rattle.read_words.specs.declared.open.Item.TheVariants as item
use Rattle.read_words.specs.Turns.{scope}
use Rattle.read_words.specs.Rests.{Follows}
use Rattle.read_words.proofs.Fitting.{both_true, two_true}
use Rattle.read_statements.specs.declared.open.Switching.{Switching}
use Rattle.read_statements.specs.declared.open.Nest.TheVariants as nest
use Rattle.read_statements.specs.Turns.{with_value}
use Rattle.read_statements.specs.Rests.{Then, StmtRest, BodyRest, FitsStmt, FitsArm, FitsGroup, FitsStmts, FitsArms, FitsGroups, FitsLast, last_tokens, values_of, StmtsThen, Next, ElseThen, AfterElse, GroupsThen, GroupRest, with_values, ValuesThen, CaseThen, NestThen}
use Rattle.read_statements.proofs.Parts.{arm_rolled, arm_parts, arm_fits, group_rolled, group_parts, group_fits, group_values_are}
use Rattle.read_statements.proofs.Different.{distinct_front, distinct_fresh}

-- a statement, and then tokens that may follow it
abbrev pub OneStmt : Locals → Bool → ℕ → StmtRest → Then
OneStmt l b d k ts = (s : CStmt) × FitsStmt l b d s × ((r : List Token) × (ts ≡ stmt_tokens s r) × k s r)

module _ (l : Locals) (b : Bool) (d : ℕ) where
  -- ---- statements

  pub stmts_open : (k : BodyRest) (ss : List CStmt) (ts : List Token) → StmtsThen l b d k ss ts → Follows tok.End (k ss) ts ⊎ OneStmt l b d (Next l b d k ss) ts
  stmts_open k ss ts ([], f, (r, e, z)) = inl (r, e, subst (λ q. k q r) (append-nil ss) z)
  stmts_open k ss ts (s ∷ more, f, (r, e, z)) =
      inr (s, f.0, (all (map stmt_tokens more) (tok.End ∷ r), e, (more, f.1, (r, refl, subst (λ q. k q r) (sym (append_assoc ss (s ∷ []) more)) z))))

  pub stmts_end : (k : BodyRest) (ss : List CStmt) (ts : List Token) → Follows tok.End (k ss) ts → StmtsThen l b d k ss ts
  stmts_end k ss ts (r, e, z) = ([], tt, (r, e, subst (λ q. k q r) (sym (append-nil ss)) z))

  pub stmts_more : (k : BodyRest) (ss : List CStmt) (ts : List Token) → OneStmt l b d (Next l b d k ss) ts → StmtsThen l b d k ss ts
  stmts_more k ss ts (s, f, (r1, e1, (more, g, (r, e, z)))) =
      (s ∷ more, (f, g), (r, e1 ∙ ap (stmt_tokens s) e, subst (λ q. k q r) (append_assoc ss (s ∷ []) more) z))

  module _ (k : StmtRest) where
    -- ---- arms

    else_arm : (arms : List CArm) (ts : List Token) (y : CArm-F CStmt CArm CGroup) (more : List CArm) (last : Option (List CStmt)) (r : List Token) → FitsArm l b d (roll-CArm y) → FitsArms l b d more → FitsLast l b d last
        → ts ≡ tok.Else ∷ arm_tokens (roll-CArm y) (more_arms (map arm_tokens more) (last_tokens last r)) → k (roll-CStmt (CStmt-F.If (arms ++ roll-CArm y ∷ more) last)) r
        → Follows tok.Else (AfterElse l b d k arms) ts
    else_arm arms ts y more last r f g h e z =
        let p = arm_parts l b d y f in
        let rest : List Token = more_arms (map arm_tokens more) (last_tokens last r) in
        let body : List Token = all (map stmt_tokens y.body) (tok.End ∷ rest) in (
          tok.If ∷ tok.Open ∷ cond_tokens y.test (tok.Close ∷ tok.Begin ∷ body),
          e ∙ ap (λ q. tok.Else ∷ q rest) (arm_tokens_layer y),
          inl (
            tok.Open ∷ cond_tokens y.test (tok.Close ∷ tok.Begin ∷ body),
            refl,
            (
              cond_tokens y.test (tok.Close ∷ tok.Begin ∷ body),
              refl,
              (
                item.Cond y.test,
                (refl, p.0),
                (
                  tok.Close ∷ tok.Begin ∷ body,
                  refl,
                  (
                    tok.Begin ∷ body,
                    refl,
                    (
                      body,
                      refl,
                      (y.body, p.2, (rest, refl, (more, g, (last, h, (r, refl, subst (λ q. k (roll-CStmt (CStmt-F.If q last)) r) (sym (append_assoc arms (roll-CArm y ∷ []) more)) z))))),
                    ),
                  ),
                ),
              ),
            ),
          ),
        )

    pub else_open : (arms : List CArm) (ts : List Token) → ElseThen l b d k arms ts → k (roll-CStmt (CStmt-F.If arms None)) ts ⊎ Follows tok.Else (AfterElse l b d k arms) ts
    else_open arms ts ([], f, (None, h, (r, e, z))) = inl (subst (k (roll-CStmt (CStmt-F.If arms None))) (sym e) (subst (λ q. k (roll-CStmt (CStmt-F.If q None)) r) (append-nil arms) z))
    else_open arms ts ([], f, (Some last, h, (r, e, z))) =
        inr (body_tokens (map stmt_tokens last) r, e, inr (all (map stmt_tokens last) (tok.End ∷ r), refl, (last, h, (r, refl, subst (λ q. k (roll-CStmt (CStmt-F.If q (Some last))) r) (append-nil arms) z))))
    else_open arms ts (a ∷ more, f, (last, h, (r, e, z))) =
        let y = arm_rolled a in
        inr (else_arm arms ts y.0 more last r (subst (FitsArm l b d) y.1 f.0) f.1 h (e ∙ ap (λ q. tok.Else ∷ arm_tokens q (more_arms (map arm_tokens more) (last_tokens last r))) y.1)
        (subst (λ q. k (roll-CStmt (CStmt-F.If (arms ++ q ∷ more) last)) r) y.1 z))

    pub else_none : (arms : List CArm) (ts : List Token) → k (roll-CStmt (CStmt-F.If arms None)) ts → ElseThen l b d k arms ts
    else_none arms ts z = ([], tt, (None, tt, (ts, refl, subst (λ q. k (roll-CStmt (CStmt-F.If q None)) ts) (sym (append-nil arms)) z)))

    pub else_more : (arms : List CArm) (ts : List Token) → 1 ≤ d → Follows tok.Else (AfterElse l b d k arms) ts → ElseThen l b d k arms ts
    else_more arms ts p (r0, e0, inr (r1, e1, (last, h, (r, e, z)))) =
        ([], tt, (Some last, h, (r, e0 ∙ ap (λ q. tok.Else ∷ q) (e1 ∙ ap (λ q. tok.Begin ∷ q) e), subst (λ q. k (roll-CStmt (CStmt-F.If q (Some last))) r) (sym (append-nil arms)) z)))
    else_more arms ts p (r0, e0, inl (r1, e1, (r2, e2, (item.Word a, f, (r3, e3, z))))) = absurd z
    else_more arms ts p (r0, e0, inl (r1, e1, (r2, e2, (item.Cond c, f, (r3, e3, (r4, e4, (r5, e5, (body, g, (r6, e6, (more, h, (last, hl, (r, e, z)))))))))))) =
        let y : CArm-F CStmt CArm CGroup = record { test = c; body = body } in (
          roll-CArm y ∷ more,
          (arm_fits l b d y f.1 p g, h),
          (
            last,
            hl,
            (
              r,
              e0 ∙ ap (λ q. tok.Else ∷ q) (e1 ∙ ap (λ q. tok.If ∷ q) (e2 ∙ ap (λ q. tok.Open ∷ q) (e3 ∙ ap (cond_tokens c) (e4 ∙ ap (λ q. tok.Close ∷ q) (e5 ∙ ap (λ q. tok.Begin ∷ q) (e6 ∙ ap (λ q. all (map stmt_tokens body) (tok.End ∷ q)) e))))))
                  ∙ sym (ap (λ q. tok.Else ∷ q (more_arms (map arm_tokens more) (last_tokens last r))) (arm_tokens_layer y)),
              subst (λ q. k (roll-CStmt (CStmt-F.If q last)) r) (append_assoc arms (roll-CArm y ∷ []) more) z,
            ),
          ),
        )

    -- ---- the values of a group

    -- no more values
    same_switch : (s : Switching) → with_values s [] ≡ s
    same_switch s = ap (λ q. record { word = s.word; groups = s.groups; used = q }) (append-nil s.used)

    more_switch : (s : Switching) (v : ℕ) (vs : List ℕ) → with_values (with_value s v) vs ≡ with_values s (v ∷ vs)
    more_switch s v vs = ap (λ q. record { word = s.word; groups = s.groups; used = q }) (append_assoc s.used (v ∷ []) vs)

    abbrev Made : Switching → List ℕ → Then
    Made s vs = StmtsThen l true (d - 1) (GroupRest l d k s vs) []

    made_same : (s t : Switching) (vs ws : List ℕ) (ts : List Token) → s ≡ t → vs ≡ ws → Made s vs ts → Made t ws ts
    made_same s t vs ws ts e g h = subst (λ q. Made q ws ts) e (subst (λ q. Made s q ts) g h)

    pub values_open : (s : Switching) (vs : List ℕ) (ts : List Token) → ValuesThen l d k s vs ts → Follows tok.Begin (NestThen l b d k (nest.Group s vs)) ts ⊎ Follows tok.Case (CaseThen l d k s vs) ts
    values_open s vs ts ([], w, h, (r, e, z)) = inl (r, e, made_same (with_values s []) s (vs ++ []) vs r (same_switch s) (append-nil vs) z)
    values_open s vs ts (v ∷ more, w, h, (r, e, z)) =
        let p = both_true (is_word v) (are_words more) w in
        inr (
          tok.Num v ∷ tok.Colon ∷ cases_tokens more (tok.Begin ∷ r),
          e,
          (
            v,
            ltb-true v (2 ^ 32) p.0,
            distinct_fresh s.used v more h,
            (
              tok.Colon ∷ cases_tokens more (tok.Begin ∷ r),
              refl,
              (
                cases_tokens more (tok.Begin ∷ r),
                refl,
                (
                  more,
                  p.1,
                  ap are_distinct (append_assoc s.used (v ∷ []) more) ∙ h,
                  (r, refl, made_same (with_values s (v ∷ more)) (with_values (with_value s v) more) (vs ++ v ∷ more) ((vs ++ v ∷ []) ++ more) r (sym (more_switch s v more)) (sym (append_assoc vs (v ∷ []) more)) z),
                ),
              ),
            ),
          ),
        )

    pub values_begin : (s : Switching) (vs : List ℕ) (ts : List Token) → are_distinct s.used ≡ true → Follows tok.Begin (NestThen l b d k (nest.Group s vs)) ts → ValuesThen l d k s vs ts
    values_begin s vs ts h (r, e, z) = ([], refl, ap are_distinct (append-nil s.used) ∙ h, (r, e, made_same s (with_values s []) vs (vs ++ []) r (sym (same_switch s)) (sym (append-nil vs)) z))

    pub values_more : (s : Switching) (vs : List ℕ) (ts : List Token) → Follows tok.Case (CaseThen l d k s vs) ts → ValuesThen l d k s vs ts
    values_more s vs ts (r0, e0, (v, p, n, (r1, e1, (r2, e2, (more, w, h, (r, e, z)))))) = (
      v ∷ more,
      two_true (is_word v) (are_words more) (lt-ltb v (2 ^ 32) p) w,
      ap are_distinct (sym (append_assoc s.used (v ∷ []) more)) ∙ h,
      (
        r,
        e0 ∙ ap (λ q. tok.Case ∷ q) (e1 ∙ ap (λ q. tok.Num v ∷ q) (e2 ∙ ap (λ q. tok.Colon ∷ q) e)),
        made_same (with_values (with_value s v) more) (with_values s (v ∷ more)) ((vs ++ v ∷ []) ++ more) (vs ++ v ∷ more) r (more_switch s v more) (append_assoc vs (v ∷ []) more) z,
      ),
    )

    -- ---- groups

    abbrev DefaultThen : Switching → Then
    DefaultThen s = Follows tok.Colon (Follows tok.Begin (NestThen l b d k (nest.Default s.word s.groups)))

    -- what is used after a group's values
    used_more : (s : Switching) (v : ℕ) (vs more : List ℕ) → ((s.used ++ v ∷ []) ++ vs) ++ more ≡ s.used ++ (v ∷ vs ++ more)
    used_more s v vs more = append_assoc (s.used ++ v ∷ []) vs more ∙ append_assoc s.used (v ∷ []) (vs ++ more)

    group_open : (s : Switching) (ts : List Token) (vs : List ℕ) (body : List CStmt) (more : List CGroup) (last : List CStmt) (r : List Token)
        → FitsGroup l d (roll-CGroup (record { values = vs; body = body })) → FitsGroups l d more → are_distinct (s.used ++ (vs ++ values_of l more)) ≡ true → FitsStmts l true (d - 1) last
        → ts ≡ cases_tokens vs (body_tokens (map stmt_tokens body) (tok.Break ∷ tok.Semicolon ∷ all (map group_tokens more) (tok.Default ∷ tok.Colon ∷ body_tokens (map stmt_tokens last) (tok.Break ∷ tok.Semicolon ∷ tok.End ∷ r))))
        → k (roll-CStmt (CStmt-F.Switch s.word (s.groups ++ roll-CGroup (record { values = vs; body = body }) ∷ more) last)) r
        → Follows tok.Case (CaseThen l d k s []) ts
    group_open s ts [] body more last r f g h fl e z = absurd (let p = (group_parts l d (record { values = []; body = body }) f).0 in let q : ⊥ = cc in q)
    group_open s ts (v ∷ vs) body more last r f g h fl e z =
        let p = group_parts l d (record { values = v ∷ vs; body = body }) f in
        let w = both_true (is_word v) (are_words vs) p.1 in
        let d' : are_distinct (((s.used ++ v ∷ []) ++ vs) ++ values_of l more) ≡ true = ap are_distinct (used_more s v vs (values_of l more)) ∙ h in
        let r3 : List Token = all (map group_tokens more) (tok.Default ∷ tok.Colon ∷ body_tokens (map stmt_tokens last) (tok.Break ∷ tok.Semicolon ∷ tok.End ∷ r)) in
        let r2 : List Token = all (map stmt_tokens body) (tok.End ∷ tok.Break ∷ tok.Semicolon ∷ r3) in
        let r1 : List Token = cases_tokens vs (tok.Begin ∷ r2) in (
          tok.Num v ∷ tok.Colon ∷ r1,
          e,
          (
            v,
            ltb-true v (2 ^ 32) w.0,
            distinct_fresh s.used v (vs ++ values_of l more) h,
            (
              tok.Colon ∷ r1,
              refl,
              (
                r1,
                refl,
                (
                  vs,
                  w.1,
                  distinct_front ((s.used ++ v ∷ []) ++ vs) (values_of l more) d',
                  (
                    r2,
                    refl,
                    (
                      body,
                      p.3,
                      (
                        tok.Break ∷ tok.Semicolon ∷ r3,
                        refl,
                        (
                          tok.Semicolon ∷ r3,
                          refl,
                          (
                            r3,
                            refl,
                            (
                              more,
                              g,
                              d',
                              (
                                last,
                                fl,
                                (
                                  r,
                                  refl,
                                  subst (λ q. k (roll-CStmt (CStmt-F.Switch s.word q last)) r) (sym (append_assoc s.groups (roll-CGroup (record { values = v ∷ vs; body = body }) ∷ []) more)) z,
                                ),
                              ),
                            ),
                          ),
                        ),
                      ),
                    ),
                  ),
                ),
              ),
            ),
          ),
        )

    group_made : (s : Switching) (ts : List Token) (g : CGroup) (y : CGroup-F CStmt CArm CGroup) (more : List CGroup) (last : List CStmt) (r : List Token) → g ≡ roll-CGroup y
        → FitsGroup l d g → FitsGroups l d more → are_distinct (s.used ++ ((group_allowed (scope l) g).0 ++ values_of l more)) ≡ true → FitsStmts l true (d - 1) last
        → ts ≡ group_tokens g (all (map group_tokens more) (tok.Default ∷ tok.Colon ∷ body_tokens (map stmt_tokens last) (tok.Break ∷ tok.Semicolon ∷ tok.End ∷ r)))
        → k (roll-CStmt (CStmt-F.Switch s.word (s.groups ++ g ∷ more) last)) r
        → Follows tok.Case (CaseThen l d k s []) ts
    group_made s ts g y more last r i f gs h fl e z =
        let r3 : List Token = all (map group_tokens more) (tok.Default ∷ tok.Colon ∷ body_tokens (map stmt_tokens last) (tok.Break ∷ tok.Semicolon ∷ tok.End ∷ r)) in
        group_open s ts y.values y.body more last r (subst (FitsGroup l d) i f) gs
        (sym (ap (λ q. are_distinct (s.used ++ (q ++ values_of l more))) (ap (λ q. (group_allowed (scope l) q).0) i ∙ group_values_are l y)) ∙ h)
        fl (e ∙ ap (λ q. group_tokens q r3) i ∙ ap (λ q. q r3) (group_tokens_layer y)) (subst (λ q. k (roll-CStmt (CStmt-F.Switch s.word (s.groups ++ q ∷ more) last)) r) i z)

    pub groups_open : (s : Switching) (ts : List Token) → GroupsThen l d k s ts → Follows tok.Default (DefaultThen s) ts ⊎ Follows tok.Case (CaseThen l d k s []) ts
    groups_open s ts ([], f, h, (last, fl, (r, e, z))) =
        let r2 : List Token = tok.Break ∷ tok.Semicolon ∷ tok.End ∷ r in
        inl (
          tok.Colon ∷ body_tokens (map stmt_tokens last) r2,
          e,
          (
            body_tokens (map stmt_tokens last) r2,
            refl,
            (
              all (map stmt_tokens last) (tok.End ∷ r2),
              refl,
              (last, fl, (r2, refl, (tok.Semicolon ∷ tok.End ∷ r, refl, (tok.End ∷ r, refl, (r, refl, subst (λ q. k (roll-CStmt (CStmt-F.Switch s.word q last)) r) (append-nil s.groups) z))))),
            ),
          ),
        )
    groups_open s ts (g ∷ more, f, h, (last, fl, (r, e, z))) = let y = group_rolled g in inr (group_made s ts g y.0 more last r y.1 f.0 f.1 h fl e z)

    pub groups_default : (s : Switching) (ts : List Token) → are_distinct s.used ≡ true → Follows tok.Default (DefaultThen s) ts → GroupsThen l d k s ts
    groups_default s ts h (r0, e0, (r1, e1, (r2, e2, (last, fl, (r3, e3, (r4, e4, (r5, e5, (r, e, z)))))))) = (
      [],
      tt,
      ap are_distinct (append-nil s.used) ∙ h,
      (
        last,
        fl,
        (
          r,
          e0 ∙ ap (λ q. tok.Default ∷ q) (e1 ∙ ap (λ q. tok.Colon ∷ q) (e2 ∙ ap (λ q. tok.Begin ∷ q) (e3 ∙ ap (λ q. all (map stmt_tokens last) (tok.End ∷ q)) (e4 ∙ ap (λ q. tok.Break ∷ q) (e5 ∙ ap (λ q. tok.Semicolon ∷ q) e))))),
          subst (λ q. k (roll-CStmt (CStmt-F.Switch s.word q last)) r) (sym (append-nil s.groups)) z,
        ),
      ),
    )

    pub groups_more : (s : Switching) (ts : List Token) → 1 ≤ d → Follows tok.Case (CaseThen l d k s []) ts → GroupsThen l d k s ts
    groups_more s ts p (r0, e0, (v, n, u, (r1, e1, (r2, e2, (vs, w, h, (r3, e3, (body, fb, (r4, e4, (r5, e5, (r6, e6, (more, g, hm, (last, fl, (r, e, z))))))))))))) =
        let y : CGroup-F CStmt CArm CGroup = record { values = v ∷ vs; body = body } in
        let r7 : List Token = all (map group_tokens more) (tok.Default ∷ tok.Colon ∷ body_tokens (map stmt_tokens last) (tok.Break ∷ tok.Semicolon ∷ tok.End ∷ r)) in (
          roll-CGroup y ∷ more,
          (group_fits l d y refl (two_true (is_word v) (are_words vs) (lt-ltb v (2 ^ 32) n) w) p fb, g),
          ap (λ q. are_distinct (s.used ++ (q ++ values_of l more))) (group_values_are l y) ∙ sym (ap are_distinct (used_more s v vs (values_of l more))) ∙ hm,
          (
            last,
            fl,
            (
              r,
              e0 ∙ ap (λ q. tok.Case ∷ q) (e1 ∙ ap (λ q. tok.Num v ∷ q) (e2 ∙ ap (λ q. tok.Colon ∷ q) (e3 ∙ ap (λ q. cases_tokens vs (tok.Begin ∷ q)) (e4 ∙ ap (λ q. all (map stmt_tokens body) (tok.End ∷ q))
                  (e5 ∙ ap (λ q. tok.Break ∷ q) (e6 ∙ ap (λ q. tok.Semicolon ∷ q) e)))))) ∙ sym (ap (λ q. q r7) (group_tokens_layer y)),
              subst (λ q. k (roll-CStmt (CStmt-F.Switch s.word q last)) r) (append_assoc s.groups (roll-CGroup y ∷ []) more) z,
            ),
          ),
        )
