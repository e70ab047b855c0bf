-- The first token of a statement, and the tokens after it.
use Rattle.std.proofs.Common.{◌≡◌, inl, inr, ℕ, ◌≤◌, Bool, true, List, [], ◌∷◌, Option, Some, None, map, refl, sym, ap, ◌∙◌, subst}
use Rattle.c_syntax.specs.declared.syntax.CStmt as st
use Rattle.c_syntax.specs.declared.syntax.CStmt.{CStmt, CStmt-F, roll-CStmt}
use Rattle.c_syntax.specs.declared.syntax.CArm.{CArm, CArm-F, roll-CArm}
use Rattle.c_syntax.specs.declared.syntax.CGroup.{CGroup}
use Rattle.c_syntax.specs.declared.token.Token.{Token}
use Rattle.c_syntax.specs.declared.token.Token.TheVariants as tok
use Rattle.c_syntax.specs.Tokens as tokens
use Rattle.c_syntax.specs.Tokens.{Tokens, word_tokens, cond_tokens, all, body_tokens, more_arms, cases_tokens, stmt_tokens, arm_tokens, group_tokens}
use Rattle.c_syntax.specs.Formed.{is_target, has_any}
use Rattle.c_syntax.proofs.Layers.{stmt_tokens_layer, arm_tokens_layer}
use Rattle.dream_words.specs.declared.machine.Name.{Name}
use Rattle.dream_words.specs.declared.machine.Width.{Width}
use Rattle.read_words.specs.declared.open.Locals.{Locals}
use Rattle.read_words.specs.declared.open.Item.TheVariants as item
use Rattle.read_words.specs.Turns.{scope}
use Rattle.read_words.specs.Rests.{Follows}
use Rattle.read_words.proofs.Beginning.{head_of, tail_of}
use Rattle.read_statements.specs.declared.open.Use.TheVariants as use'
use Rattle.read_statements.specs.declared.open.Nest.TheVariants as nest
use Rattle.read_statements.specs.Rests.{Then, StmtRest, FitsStmt, FitsArm, FitsArms, FitsLast, last_tokens, UseThen, SourceThen, TrapThen, WhileThen, NestThen}
use Rattle.read_statements.proofs.Parts.{Parts, parts, fits, stmt_rolled, arm_rolled, arm_parts, arm_fits}
use Rattle.read_statements.proofs.Opening.{OneStmt}

module _ (l : Locals) (b : Bool) (d : ℕ) (k : StmtRest) where
  -- what the first token of a statement is, and what comes after it
  abbrev pub Starts : Token → Then
  Starts (tok.Name n) ts = (is_target (scope l) n ≡ true) × Follows tok.Assign (SourceThen l b d k n) ts
  Starts (tok.St w) ts = Follows tok.Open (UseThen l b d k (use'.Address w)) ts
  Starts tok.Ext ts = Follows tok.Open (UseThen l b d k use'.Ext) ts
  Starts tok.Trap ts = Follows tok.Open (TrapThen l b d k) ts
  Starts tok.If ts = (1 ≤ d) × Follows tok.Open (UseThen l b d k (use'.If [])) ts
  Starts tok.Switch ts = (1 ≤ d) × Follows tok.Open (UseThen l b d k use'.Switch) ts
  Starts tok.While ts = (1 ≤ d) × Follows tok.Open (WhileThen l b d k) ts
  Starts tok.Do ts = (1 ≤ d) × Follows tok.Begin (NestThen l b d k nest.Do) ts
  Starts tok.Break ts = (b ≡ true) × Follows tok.Semicolon (k (roll-CStmt CStmt-F.Break)) ts
  Starts tok.Return ts = Follows tok.Semicolon (k (roll-CStmt CStmt-F.Return)) ts
  Starts _ ts = ⊥

  begun : (x y : Token) (ts us : List Token) → x ∷ ts ≡ y ∷ us → Starts y us → Starts x ts
  begun x y ts us e h = subst (λ q. Starts q ts) (sym (head_of e)) (subst (Starts y) (sym (tail_of e)) h)

  -- the tokens of a layer
  at_layer : (y : CStmt-F CStmt CArm CGroup) (ts r : List Token) → ts ≡ stmt_tokens (roll-CStmt y) r → ts ≡ tokens.stmt_at (st.map-CStmt CStmt CArm CGroup Tokens Tokens Tokens stmt_tokens arm_tokens group_tokens y) r
  at_layer y ts r e = e ∙ ap (λ p. p r) (stmt_tokens_layer y)

  -- an `if`, by its first arm
  if_starts : (x : Token) (ts : List Token) (y : CArm-F CStmt CArm CGroup) (more : List CArm) (last : Option (List CStmt)) (r : List Token) → FitsArm l b d (roll-CArm y) → FitsArms l b d more → FitsLast l b d last
      → x ∷ ts ≡ arm_tokens (roll-CArm y) (more_arms (map arm_tokens more) (last_tokens last r)) → k (roll-CStmt (CStmt-F.If (roll-CArm y ∷ more) last)) r → Starts x ts
  if_starts x ts y more last r f g h e z =
      let p = arm_parts l b d y f in
      let rest : List Token = more_arms (map arm_tokens more) (last_tokens last r) in
      let body : List Token = all (map stmt_tokens y.body) (tok.End ∷ rest) in
      begun x tok.If ts (tok.Open ∷ cond_tokens y.test (tok.Close ∷ tok.Begin ∷ body)) (e ∙ ap (λ q. q rest) (arm_tokens_layer y)) (
        p.1,
        (
          cond_tokens y.test (tok.Close ∷ tok.Begin ∷ body),
          refl,
          (
            item.Cond y.test,
            (refl, p.0),
            (
              tok.Close ∷ tok.Begin ∷ body,
              refl,
              (
                tok.Begin ∷ body,
                refl,
                (
                  body,
                  refl,
                  (y.body, p.2, (rest, refl, (more, g, (last, h, (r, refl, z))))),
                ),
              ),
            ),
          ),
        ),
      )

  some_if : (x : Token) (ts : List Token) (arms : List CArm) (last : Option (List CStmt)) (r : List Token) → has_any arms ≡ true → FitsArms l b d arms → FitsLast l b d last
      → x ∷ ts ≡ tokens.arms_tokens (map arm_tokens arms) (last_tokens last r) → k (roll-CStmt (CStmt-F.If arms last)) r → Starts x ts
  some_if x ts [] last r a f h e z = absurd (let q : ⊥ = cc in q)
  some_if x ts (m ∷ more) last r a f h e z =
      let y = arm_rolled m in
      if_starts x ts y.0 more last r (subst (FitsArm l b d) y.1 f.0) f.1 h (e ∙ ap (λ q. arm_tokens q (more_arms (map arm_tokens more) (last_tokens last r))) y.1)
      (subst (λ q. k (roll-CStmt (CStmt-F.If (q ∷ more) last)) r) y.1 z)

  stmt_starts : (y : CStmt-F CStmt CArm CGroup) (x : Token) (ts r : List Token) → Parts l b d y
      → x ∷ ts ≡ tokens.stmt_at (st.map-CStmt CStmt CArm CGroup Tokens Tokens Tokens stmt_tokens arm_tokens group_tokens y) r → k (roll-CStmt y) r → Starts x ts
  stmt_starts (CStmt-F.Set n a) x ts r p e z =
      begun x (tok.Name n) ts (tok.Assign ∷ word_tokens a (tok.Semicolon ∷ r)) e
      (p.0, (word_tokens a (tok.Semicolon ∷ r), refl, inr (item.Word a, (refl, p.1), (tok.Semicolon ∷ r, refl, (r, refl, z)))))
  stmt_starts (CStmt-F.Load n w a) x ts r p e z =
      begun x (tok.Name n) ts (tok.Assign ∷ tok.Ld w ∷ tok.Open ∷ word_tokens a (tok.Close ∷ tok.Semicolon ∷ r)) e (
        p.0,
        (
          tok.Ld w ∷ tok.Open ∷ word_tokens a (tok.Close ∷ tok.Semicolon ∷ r),
          refl,
          inl (
            w,
            (
              tok.Open ∷ word_tokens a (tok.Close ∷ tok.Semicolon ∷ r),
              refl,
              (
                word_tokens a (tok.Close ∷ tok.Semicolon ∷ r),
                refl,
                (item.Word a, (refl, p.1), (tok.Close ∷ tok.Semicolon ∷ r, refl, (tok.Semicolon ∷ r, refl, (r, refl, z)))),
              ),
            ),
          ),
        ),
      )
  stmt_starts (CStmt-F.Store w a v) x ts r p e z =
      begun x (tok.St w) ts (tok.Open ∷ word_tokens a (tok.Comma ∷ word_tokens v (tok.Close ∷ tok.Semicolon ∷ r))) e (
        word_tokens a (tok.Comma ∷ word_tokens v (tok.Close ∷ tok.Semicolon ∷ r)),
        refl,
        (
          item.Word a,
          (refl, p.0),
          (
            tok.Comma ∷ word_tokens v (tok.Close ∷ tok.Semicolon ∷ r),
            refl,
            (
              word_tokens v (tok.Close ∷ tok.Semicolon ∷ r),
              refl,
              (item.Word v, (refl, p.1), (tok.Close ∷ tok.Semicolon ∷ r, refl, (tok.Semicolon ∷ r, refl, (r, refl, z)))),
            ),
          ),
        ),
      )
  stmt_starts (CStmt-F.Ext a) x ts r p e z =
      begun x tok.Ext ts (tok.Open ∷ word_tokens a (tok.Close ∷ tok.Semicolon ∷ r)) e
      (word_tokens a (tok.Close ∷ tok.Semicolon ∷ r), refl, (item.Word a, (refl, p), (tok.Close ∷ tok.Semicolon ∷ r, refl, (tok.Semicolon ∷ r, refl, (r, refl, z)))))
  stmt_starts (CStmt-F.Trap v a) x ts r p e z =
      begun x tok.Trap ts (tok.Open ∷ tok.Num v ∷ tok.Comma ∷ word_tokens a (tok.Close ∷ tok.Semicolon ∷ r)) e (
        tok.Num v ∷ tok.Comma ∷ word_tokens a (tok.Close ∷ tok.Semicolon ∷ r),
        refl,
        (
          v,
          p.0,
          (
            tok.Comma ∷ word_tokens a (tok.Close ∷ tok.Semicolon ∷ r),
            refl,
            (
              word_tokens a (tok.Close ∷ tok.Semicolon ∷ r),
              refl,
              (item.Word a, (refl, p.1), (tok.Close ∷ tok.Semicolon ∷ r, refl, (tok.Semicolon ∷ r, refl, (r, refl, z)))),
            ),
          ),
        ),
      )
  stmt_starts (CStmt-F.If arms None) x ts r p e z = some_if x ts arms None r p.0 p.2 tt e z
  stmt_starts (CStmt-F.If arms (Some last)) x ts r p e z = some_if x ts arms (Some last) r p.0 p.2 p.3 e z
  stmt_starts (CStmt-F.Switch a groups last) x ts r p e z =
      let rest : List Token = all (map group_tokens groups) (tok.Default ∷ tok.Colon ∷ body_tokens (map stmt_tokens last) (tok.Break ∷ tok.Semicolon ∷ tok.End ∷ r)) in
      begun x tok.Switch ts (tok.Open ∷ word_tokens a (tok.Close ∷ tok.Begin ∷ rest)) e (
        p.1,
        (
          word_tokens a (tok.Close ∷ tok.Begin ∷ rest),
          refl,
          (
            item.Word a,
            (refl, p.0),
            (
              tok.Close ∷ tok.Begin ∷ rest,
              refl,
              (
                tok.Begin ∷ rest,
                refl,
                (
                  rest,
                  refl,
                  (groups, p.2, p.3, (last, p.4, (r, refl, z))),
                ),
              ),
            ),
          ),
        ),
      )
  stmt_starts (CStmt-F.Loop body) x ts r p e z =
      let rest : List Token = all (map stmt_tokens body) (tok.End ∷ r) in
      begun x tok.While ts (tok.Open ∷ tok.One ∷ tok.Close ∷ tok.Begin ∷ rest) e
      (p.0, (tok.One ∷ tok.Close ∷ tok.Begin ∷ rest, refl, inl (tok.Close ∷ tok.Begin ∷ rest, refl, (tok.Begin ∷ rest, refl, (rest, refl, (body, p.1, (r, refl, z)))))))
  stmt_starts (CStmt-F.While c body) x ts r p e z =
      let rest : List Token = all (map stmt_tokens body) (tok.End ∷ r) in
      begun x tok.While ts (tok.Open ∷ cond_tokens c (tok.Close ∷ tok.Begin ∷ rest)) e
      (p.1, (cond_tokens c (tok.Close ∷ tok.Begin ∷ rest), refl, inr (item.Cond c, (refl, p.0), (tok.Close ∷ tok.Begin ∷ rest, refl, (tok.Begin ∷ rest, refl, (rest, refl, (body, p.2, (r, refl, z))))))))
  stmt_starts (CStmt-F.DoWhile body c) x ts r p e z =
      let tail : List Token = cond_tokens c (tok.Close ∷ tok.Semicolon ∷ r) in
      let rest : List Token = all (map stmt_tokens body) (tok.End ∷ tok.While ∷ tok.Open ∷ tail) in
      begun x tok.Do ts (tok.Begin ∷ rest) e
      (p.0, (rest, refl, (body, p.1, (tok.While ∷ tok.Open ∷ tail, refl, (tok.Open ∷ tail, refl, (tail, refl, (item.Cond c, (refl, p.2), (tok.Close ∷ tok.Semicolon ∷ r, refl, (tok.Semicolon ∷ r, refl, (r, refl, z))))))))))
  stmt_starts CStmt-F.Break x ts r p e z = begun x tok.Break ts (tok.Semicolon ∷ r) e (p, (r, refl, z))
  stmt_starts CStmt-F.Return x ts r p e z = begun x tok.Return ts (tok.Semicolon ∷ r) e (r, refl, z)

  -- a statement begins with its first token
  pub one_starts : (x : Token) (ts : List Token) → OneStmt l b d k (x ∷ ts) → Starts x ts
  one_starts x ts (s, f, (r, e, z)) =
      let y = stmt_rolled s in
      stmt_starts y.0 x ts r (parts l b d y.0 (subst (FitsStmt l b d) y.1 f)) (at_layer y.0 (x ∷ ts) r (e ∙ ap (λ q. stmt_tokens q r) y.1)) (subst (λ q. k q r) y.1 z)

  -- and it has some
  pub one_not_none : OneStmt l b d k [] → ⊥
  one_not_none (s, f, (r, e, z)) = let y = stmt_rolled s in none_empty r y.0 (parts l b d y.0 (subst (FitsStmt l b d) y.1 f)) (at_layer y.0 [] r (e ∙ ap (λ q. stmt_tokens q r) y.1))
    where
      nil_no : {x : Token} {xs : List Token} → [] ≡ x ∷ xs → ⊥
      nil_no h = cc

      arm_empty : (r q : List Token) (a : CArm) → [] ≡ arm_tokens a q → ⊥
      arm_empty r q a e = let y = arm_rolled a in nil_no (e ∙ ap (λ m. arm_tokens m q) y.1 ∙ ap (λ p. p q) (arm_tokens_layer y.0))

      if_empty : (arms : List CArm) (r q : List Token) → has_any arms ≡ true → [] ≡ tokens.arms_tokens (map arm_tokens arms) q → ⊥
      if_empty [] r q a e = absurd (let z : ⊥ = cc in z)
      if_empty (m ∷ more) r q a e = arm_empty r (more_arms (map arm_tokens more) q) m e

      none_empty : (r : List Token) (y : CStmt-F CStmt CArm CGroup) → Parts l b d y
          → [] ≡ tokens.stmt_at (st.map-CStmt CStmt CArm CGroup Tokens Tokens Tokens stmt_tokens arm_tokens group_tokens y) r → ⊥
      none_empty r (CStmt-F.Set n a) p e = nil_no e
      none_empty r (CStmt-F.Load n w a) p e = nil_no e
      none_empty r (CStmt-F.Store w a v) p e = nil_no e
      none_empty r (CStmt-F.Ext a) p e = nil_no e
      none_empty r (CStmt-F.Trap v a) p e = nil_no e
      none_empty r (CStmt-F.If arms None) p e = if_empty arms r r p.0 e
      none_empty r (CStmt-F.If arms (Some last)) p e = if_empty arms r (tok.Else ∷ body_tokens (map stmt_tokens last) r) p.0 e
      none_empty r (CStmt-F.Switch a groups last) p e = nil_no e
      none_empty r (CStmt-F.Loop body) p e = nil_no e
      none_empty r (CStmt-F.While c body) p e = nil_no e
      none_empty r (CStmt-F.DoWhile body c) p e = nil_no e
      none_empty r CStmt-F.Break p e = nil_no e
      none_empty r CStmt-F.Return p e = nil_no e

  -- ---- what such a token and the tokens after it make

  made : (y : CStmt-F CStmt CArm CGroup) (ts r : List Token) → Parts l b d y
      → ts ≡ tokens.stmt_at (st.map-CStmt CStmt CArm CGroup Tokens Tokens Tokens stmt_tokens arm_tokens group_tokens y) r → k (roll-CStmt y) r → OneStmt l b d k ts
  made y ts r p e z = (roll-CStmt y, fits l b d y p, (r, e ∙ sym (ap (λ p. p r) (stmt_tokens_layer y)), z))

  name_made : (n : Name) (ts : List Token) → Starts (tok.Name n) ts → OneStmt l b d k (tok.Name n ∷ ts)
  name_made n ts (t, (r0, e0, inl (w, (r1, e1, (r2, e2, (item.Cond c, f, (r3, e3, z))))))) = absurd z
  name_made n ts (t, (r0, e0, inl (w, (r1, e1, (r2, e2, (item.Word a, f, (r3, e3, (r4, e4, (r, e, z))))))))) =
      made (CStmt-F.Load n w a) (tok.Name n ∷ ts) r (t, f.1)
      (ap (λ q. tok.Name n ∷ q) (e0 ∙ ap (λ q. tok.Assign ∷ q) (e1 ∙ ap (λ q. tok.Ld w ∷ q) (e2 ∙ ap (λ q. tok.Open ∷ q) (e3 ∙ ap (word_tokens a) (e4 ∙ ap (λ q. tok.Close ∷ q) e)))))) z
  name_made n ts (t, (r0, e0, inr (item.Cond c, f, (r1, e1, z)))) = absurd z
  name_made n ts (t, (r0, e0, inr (item.Word a, f, (r1, e1, (r, e, z))))) =
      made (CStmt-F.Set n a) (tok.Name n ∷ ts) r (t, f.1) (ap (λ q. tok.Name n ∷ q) (e0 ∙ ap (λ q. tok.Assign ∷ q) (e1 ∙ ap (word_tokens a) e))) z

  store_made : (w : Width) (ts : List Token) → Starts (tok.St w) ts → OneStmt l b d k (tok.St w ∷ ts)
  store_made w ts (r0, e0, (item.Cond c, f, (r1, e1, z))) = absurd z
  store_made w ts (r0, e0, (item.Word a, f, (r1, e1, (r2, e2, (item.Cond c, g, (r3, e3, z)))))) = absurd z
  store_made w ts (r0, e0, (item.Word a, f, (r1, e1, (r2, e2, (item.Word v, g, (r3, e3, (r4, e4, (r, e, z)))))))) =
      made (CStmt-F.Store w a v) (tok.St w ∷ ts) r (f.1, g.1)
      (ap (λ q. tok.St w ∷ q) (e0 ∙ ap (λ q. tok.Open ∷ q) (e1 ∙ ap (word_tokens a) (e2 ∙ ap (λ q. tok.Comma ∷ q) (e3 ∙ ap (word_tokens v) (e4 ∙ ap (λ q. tok.Close ∷ q) e)))))) z

  ext_made : (ts : List Token) → Starts tok.Ext ts → OneStmt l b d k (tok.Ext ∷ ts)
  ext_made ts (r0, e0, (item.Cond c, f, (r1, e1, z))) = absurd z
  ext_made ts (r0, e0, (item.Word a, f, (r1, e1, (r2, e2, (r, e, z))))) =
      made (CStmt-F.Ext a) (tok.Ext ∷ ts) r f.1 (ap (λ q. tok.Ext ∷ q) (e0 ∙ ap (λ q. tok.Open ∷ q) (e1 ∙ ap (word_tokens a) (e2 ∙ ap (λ q. tok.Close ∷ q) e)))) z

  trap_made : (ts : List Token) → Starts tok.Trap ts → OneStmt l b d k (tok.Trap ∷ ts)
  trap_made ts (r0, e0, (v, p, (r1, e1, (r2, e2, (item.Cond c, f, (r3, e3, z)))))) = absurd z
  trap_made ts (r0, e0, (v, p, (r1, e1, (r2, e2, (item.Word a, f, (r3, e3, (r4, e4, (r, e, z)))))))) =
      made (CStmt-F.Trap v a) (tok.Trap ∷ ts) r (p, f.1)
      (ap (λ q. tok.Trap ∷ q) (e0 ∙ ap (λ q. tok.Open ∷ q) (e1 ∙ ap (λ q. tok.Num v ∷ q) (e2 ∙ ap (λ q. tok.Comma ∷ q) (e3 ∙ ap (word_tokens a) (e4 ∙ ap (λ q. tok.Close ∷ q) e)))))) z

  -- an `if` of these arms
  arms_made : (arms : List CArm) (last : Option (List CStmt)) (ts r : List Token) → has_any arms ≡ true → 1 ≤ d → FitsArms l b d arms → FitsLast l b d last
      → ts ≡ tokens.arms_tokens (map arm_tokens arms) (last_tokens last r) → k (roll-CStmt (CStmt-F.If arms last)) r → OneStmt l b d k ts
  arms_made arms None ts r a p f h e z = made (CStmt-F.If arms None) ts r (a, p, f, tt) e z
  arms_made arms (Some last) ts r a p f h e z = made (CStmt-F.If arms (Some last)) ts r (a, p, f, h) e z

  if_made : (ts : List Token) → Starts tok.If ts → OneStmt l b d k (tok.If ∷ ts)
  if_made ts (p, (r0, e0, (item.Word a, f, (r1, e1, z)))) = absurd z
  if_made ts (p, (r0, e0, (item.Cond c, f, (r1, e1, (r2, e2, (r3, e3, (body, g, (r4, e4, (more, h, (last, hl, (r, e, z))))))))))) =
      let y : CArm-F CStmt CArm CGroup = record { test = c; body = body } in
      arms_made (roll-CArm y ∷ more) last (tok.If ∷ ts) r refl p (arm_fits l b d y f.1 p g, h) hl
      (ap (λ q. tok.If ∷ q) (e0 ∙ ap (λ q. tok.Open ∷ q) (e1 ∙ ap (cond_tokens c) (e2 ∙ ap (λ q. tok.Close ∷ q) (e3 ∙ ap (λ q. tok.Begin ∷ q) (e4 ∙ ap (λ q. all (map stmt_tokens body) (tok.End ∷ q)) e)))))
      ∙ sym (ap (λ q. q (more_arms (map arm_tokens more) (last_tokens last r))) (arm_tokens_layer y))) z

  switch_made : (ts : List Token) → Starts tok.Switch ts → OneStmt l b d k (tok.Switch ∷ ts)
  switch_made ts (p, (r0, e0, (item.Cond c, f, (r1, e1, z)))) = absurd z
  switch_made ts (p, (r0, e0, (item.Word a, f, (r1, e1, (r2, e2, (r3, e3, (groups, g, h, (last, fl, (r, e, z))))))))) =
      made (CStmt-F.Switch a groups last) (tok.Switch ∷ ts) r (f.1, p, g, h, fl)
      (ap (λ q. tok.Switch ∷ q) (e0 ∙ ap (λ q. tok.Open ∷ q) (e1 ∙ ap (word_tokens a) (e2 ∙ ap (λ q. tok.Close ∷ q) (e3 ∙ ap (λ q. tok.Begin ∷ q) e))))) z

  while_made : (ts : List Token) → Starts tok.While ts → OneStmt l b d k (tok.While ∷ ts)
  while_made ts (p, (r0, e0, inl (r1, e1, (r2, e2, (r3, e3, (body, f, (r, e, z))))))) =
      made (CStmt-F.Loop body) (tok.While ∷ ts) r (p, f) (ap (λ q. tok.While ∷ q) (e0 ∙ ap (λ q. tok.Open ∷ q) (e1 ∙ ap (λ q. tok.One ∷ q) (e2 ∙ ap (λ q. tok.Close ∷ q) (e3 ∙ ap (λ q. tok.Begin ∷ q) e))))) z
  while_made ts (p, (r0, e0, inr (item.Word a, f, (r1, e1, z)))) = absurd z
  while_made ts (p, (r0, e0, inr (item.Cond c, f, (r1, e1, (r2, e2, (r3, e3, (body, g, (r, e, z)))))))) =
      made (CStmt-F.While c body) (tok.While ∷ ts) r (f.1, p, g) (ap (λ q. tok.While ∷ q) (e0 ∙ ap (λ q. tok.Open ∷ q) (e1 ∙ ap (cond_tokens c) (e2 ∙ ap (λ q. tok.Close ∷ q) (e3 ∙ ap (λ q. tok.Begin ∷ q) e))))) z

  do_made : (ts : List Token) → Starts tok.Do ts → OneStmt l b d k (tok.Do ∷ ts)
  do_made ts (p, (r0, e0, (body, f, (r1, e1, (r2, e2, (r3, e3, (item.Word a, g, (r4, e4, z)))))))) = absurd z
  do_made ts (p, (r0, e0, (body, f, (r1, e1, (r2, e2, (r3, e3, (item.Cond c, g, (r4, e4, (r5, e5, (r, e, z)))))))))) =
      made (CStmt-F.DoWhile body c) (tok.Do ∷ ts) r (p, f, g.1)
      (ap (λ q. tok.Do ∷ q) (e0 ∙ ap (λ q. tok.Begin ∷ q) (e1 ∙ ap (λ q. all (map stmt_tokens body) (tok.End ∷ q)) (e2 ∙ ap (λ q. tok.While ∷ q) (e3 ∙ ap (λ q. tok.Open ∷ q) (e4 ∙ ap (cond_tokens c) (e5 ∙ ap (λ q. tok.Close ∷ q) e))))))) z

  -- what begins so is a statement
  pub starts_one : (x : Token) (ts : List Token) → Starts x ts → OneStmt l b d k (x ∷ ts)
  starts_one (tok.Name n) ts h = name_made n ts h
  starts_one (tok.St w) ts h = store_made w ts h
  starts_one tok.Ext ts h = ext_made ts h
  starts_one tok.Trap ts h = trap_made ts h
  starts_one tok.If ts h = if_made ts h
  starts_one tok.Switch ts h = switch_made ts h
  starts_one tok.While ts h = while_made ts h
  starts_one tok.Do ts h = do_made ts h
  starts_one tok.Break ts (p, (r, e, z)) = made CStmt-F.Break (tok.Break ∷ ts) r p (ap (λ q. tok.Break ∷ q) e) z
  starts_one tok.Return ts (r, e, z) = made CStmt-F.Return (tok.Return ∷ ts) r tt (ap (λ q. tok.Return ∷ q) e) z
  starts_one _ ts h = absurd h
