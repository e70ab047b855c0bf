-- All tokens of a well-formed function may stand in a text.
use Rattle.std.proofs.Common.{◌≡◌, ℕ, zero, suc, ◌^◌, ◌<◌, Bool, true, false, ◌&&◌, List, [], ◌∷◌, Some, None, refl, sym, ap, ◌∙◌, subst, arith, map, All}
use Rattle.std.proofs.lemmas.List.Elements.{All-nil, All-cons}
use borrow.Author.Tests.{ltb-true}
use Rattle.dream_words.specs.declared.machine.Name.{Name}
use Rattle.dream_words.specs.declared.machine.Name.TheVariants as name
use Rattle.c_syntax.specs.declared.syntax.CExpr as e
use Rattle.c_syntax.specs.declared.syntax.CExpr.{CExpr, CExpr-F, roll-CExpr}
use Rattle.c_syntax.specs.declared.syntax.CCond as c
use Rattle.c_syntax.specs.declared.syntax.CCond.{CCond, CCond-F, roll-CCond}
use Rattle.c_syntax.specs.declared.syntax.CStmt as st
use Rattle.c_syntax.specs.declared.syntax.CStmt.{CStmt, CStmt-F, roll-CStmt}
use Rattle.c_syntax.specs.declared.syntax.CArm as arm
use Rattle.c_syntax.specs.declared.syntax.CArm.{CArm, CArm-F, roll-CArm}
use Rattle.c_syntax.specs.declared.syntax.CGroup as group
use Rattle.c_syntax.specs.declared.syntax.CGroup.{CGroup, CGroup-F, roll-CGroup}
use Rattle.c_syntax.specs.declared.syntax.CFun.{CFun}
use Rattle.c_syntax.specs.declared.token.Token.{Token}
use Rattle.c_syntax.specs.declared.token.Token.TheVariants as tok
use Rattle.c_syntax.specs.Formed as ok
use Rattle.c_syntax.specs.Formed.{Allowed, GroupAllowed, IsWellFormed, is_word, is_declared, is_target, word_names, cond_names, names_word, names_cond, word_allowed, cond_allowed, stmt_allowed, arm_allowed, group_allowed, groups_values, all_groups, has_any, are_words, are_distinct}
use Rattle.c_syntax.specs.Tokens as tokens
use Rattle.c_syntax.specs.Tokens.{Tokens, word_tokens, cond_tokens, stmt_tokens, arm_tokens, group_tokens, stmts_tokens, decls_tokens, cases_tokens, fun_tokens}
use Rattle.c_syntax.proofs.Layers.{word_tokens_layer, cond_tokens_layer, stmt_tokens_layer, arm_tokens_layer, group_tokens_layer, names_word_layer, names_cond_layer, stmt_allowed_layer, arm_allowed_layer, group_allowed_layer}
use Rattle.c_syntax.proofs.Induct.{Each, WordCases, StmtCases, every_word, every_cond, every_stmt}
use Rattle.c_lex.specs.Lexemes.{IsToken}
use Rattle.c_lex.proofs.Found.{AreTokens}

-- tokens one after another, as std says it
all_tokens : (xs : List Token) → AreTokens xs → All IsToken xs
all_tokens [] h = All-nil IsToken
all_tokens (x ∷ xs) h = All-cons IsToken x xs h.0 (all_tokens xs h.1)

-- both of two conditions hold
both_true : (a b : Bool) → (a && b) ≡ true → (a ≡ true) × (b ≡ true)
both_true true b h = (refl, h)
both_true false b h = absurd (cc)

-- before tokens that may stand in a text a part puts such tokens
abbrev Keeps : Tokens → Type 0
Keeps p = (r : List Token) → AreTokens r → AreTokens (p r)

-- a number that is allowed is a word
word_of : (n : ℕ) → is_word n ≡ true → n < 2 ^ 32
word_of n h = ltb-true n (2 ^ 32) h

module _ (f : CFun) (w : IsWellFormed f) where
  -- a name of the function may stand in a text
  name_of : (n : Name) → is_declared f n ≡ true → IsToken (tok.Name n)
  name_of (name.Reg n) h = ltb-true n 8 h
  name_of (name.Flag n) h = ltb-true n 5 h
  name_of name.Fs h = tt
  name_of name.Gs h = tt
  name_of (name.T n) h = let l = ltb-true n f.temps h in let k = w.temps in omega arith
  name_of (name.B n) h = let l = ltb-true n f.bools h in let k = w.bools in omega arith
  name_of (name.S n) h = let l = ltb-true n f.selectors h in let k = w.selectors in omega arith

  -- ---- Words and Conds

  -- a Word and a Cond whose numbers and names are allowed put such tokens
  abbrev WordKeeps : CExpr → Type 0
  WordKeeps a = names_word f a ≡ true → Keeps (word_tokens a)

  abbrev CondKeeps : CCond → Type 0
  CondKeeps u = names_cond f u ≡ true → Keeps (cond_tokens u)

  -- a layer over them
  word_layer : (y : CExpr-F CCond CExpr)
      → (word_names f (e.map-CExpr CCond CExpr Bool Bool (names_cond f) (names_word f) y) ≡ true
      → Keeps (tokens.word_at (e.map-CExpr CCond CExpr Tokens Tokens cond_tokens word_tokens y)))
      → WordKeeps (roll-CExpr y)
  word_layer y k h = subst Keeps (sym (word_tokens_layer y)) (k (sym (names_word_layer f y) ∙ h))

  cond_layer : (y : CCond-F CCond CExpr)
      → (cond_names (c.map-CCond CCond CExpr Bool Bool (names_cond f) (names_word f) y) ≡ true
      → Keeps (tokens.cond_at (c.map-CCond CCond CExpr Tokens Tokens cond_tokens word_tokens y)))
      → CondKeeps (roll-CCond y)
  cond_layer y k h = subst Keeps (sym (cond_tokens_layer y)) (k (sym (names_cond_layer f y) ∙ h))

  -- by cases
  word_cases : WordCases WordKeeps CondKeeps
  word_cases = record {
    num = λ n. word_layer (CExpr-F.Num n) (λ h r v. (word_of n h, v));
    name = λ n. word_layer (CExpr-F.Name n) (λ h r v. (name_of n h, v));
    not_word = λ a ha. word_layer (CExpr-F.«CExpr::Not» a) (λ h r v. (tt, (tt, ha h _ (tt, v))));
    bin = λ op a b ha hb. word_layer (CExpr-F.Bin op a b) (λ h r v.
        let p = both_true (names_word f a) (names_word f b) h in (tt, ha p.0 _ (tt, hb p.1 _ (tt, v))));
    fn1 = λ g a ha. word_layer (CExpr-F.Fn1 g a) (λ h r v. (tt, (tt, ha h _ (tt, v))));
    fn2 = λ g a b ha hb. word_layer (CExpr-F.Fn2 g a b) (λ h r v.
        let p = both_true (names_word f a) (names_word f b) h in (tt, (tt, ha p.0 _ (tt, hb p.1 _ (tt, v)))));
    fn3 = λ g a b d ha hb hd. word_layer (CExpr-F.Fn3 g a b d) (λ h r v.
        let p = both_true (names_word f a) (names_word f b && names_word f d) h in let q = both_true (names_word f b) (names_word f d) p.1 in
        (tt, (tt, ha p.0 _ (tt, hb q.0 _ (tt, hd q.1 _ (tt, v))))));
    pick = λ u a b hu ha hb. word_layer (CExpr-F.Pick u a b) (λ h r v.
        let p = both_true (names_cond f u) (names_word f a && names_word f b) h in let q = both_true (names_word f a) (names_word f b) p.1 in
        (tt, hu p.0 _ (tt, ha q.0 _ (tt, hb q.1 _ (tt, v)))));
    cmp = λ op a b ha hb. cond_layer (CCond-F.Cmp op a b) (λ h r v.
        let p = both_true (names_word f a) (names_word f b) h in (tt, ha p.0 _ (tt, hb p.1 _ (tt, v))));
    not_cond = λ u hu. cond_layer (CCond-F.«CCond::Not» u) (λ h r v. (tt, (tt, hu h _ (tt, v))));
    both = λ u x hu hx. cond_layer (CCond-F.And u x) (λ h r v.
        let p = both_true (names_cond f u) (names_cond f x) h in (tt, hu p.0 _ (tt, hx p.1 _ (tt, v))));
    either = λ u x hu hx. cond_layer (CCond-F.Or u x) (λ h r v.
        let p = both_true (names_cond f u) (names_cond f x) h in (tt, hu p.0 _ (tt, hx p.1 _ (tt, v))));
  }

  word_keeps : (a : CExpr) → word_allowed f a ≡ true → Keeps (word_tokens a)
  word_keeps a h = every_word word_cases a (both_true (names_word f a) _ h).0

  cond_keeps : (u : CCond) → cond_allowed f u ≡ true → Keeps (cond_tokens u)
  cond_keeps u h = every_cond word_cases u (both_true (names_cond f u) _ h).0

  -- a name that is assigned
  target_keeps : (n : Name) → is_target f n ≡ true → IsToken (tok.Name n)
  target_keeps n h = name_of n (both_true (is_declared f n) _ h).0

  -- ---- statements, arms and groups

  -- a statement, an arm and a group that are allowed put such tokens
  abbrev StmtKeeps : CStmt → Type 0
  StmtKeeps s = (b : Bool) → stmt_allowed f s b ≡ true → Keeps (stmt_tokens s)

  abbrev ArmKeeps : CArm → Type 0
  ArmKeeps a = (b : Bool) → arm_allowed f a b ≡ true → Keeps (arm_tokens a)

  abbrev GroupKeeps : CGroup → Type 0
  GroupKeeps g = (group_allowed f g).1 ≡ true → Keeps (group_tokens g)

  -- statements one after another
  all_keeps : (ss : List CStmt) → Each StmtKeeps ss → (b : Bool) → ok.all (map (stmt_allowed f) ss) b ≡ true → Keeps (tokens.all (map stmt_tokens ss))
  all_keeps [] h b l r v = v
  all_keeps (s ∷ ss) h b l r v =
      let p = both_true (stmt_allowed f s b) (ok.all (map (stmt_allowed f) ss) b) l in h.0 b p.0 _ (all_keeps ss h.1 b p.1 r v)

  -- a Body
  body_keeps : (ss : List CStmt) → Each StmtKeeps ss → (b : Bool) → ok.all (map (stmt_allowed f) ss) b ≡ true → Keeps (tokens.body_tokens (map stmt_tokens ss))
  body_keeps ss h b l r v = (tt, all_keeps ss h b l _ (tt, v))

  -- the arms after the first
  more_keeps : (as' : List CArm) → Each ArmKeeps as' → (b : Bool) → ok.all (map (arm_allowed f) as') b ≡ true → Keeps (tokens.more_arms (map arm_tokens as'))
  more_keeps [] h b l r v = v
  more_keeps (a ∷ as') h b l r v =
      let p = both_true (arm_allowed f a b) (ok.all (map (arm_allowed f) as') b) l in (tt, h.0 b p.0 _ (more_keeps as' h.1 b p.1 r v))

  -- all arms
  arms_keep : (as' : List CArm) → Each ArmKeeps as' → (b : Bool) → ok.all (map (arm_allowed f) as') b ≡ true → Keeps (tokens.arms_tokens (map arm_tokens as'))
  arms_keep [] h b l r v = v
  arms_keep (a ∷ as') h b l r v =
      let p = both_true (arm_allowed f a b) (ok.all (map (arm_allowed f) as') b) l in h.0 b p.0 _ (more_keeps as' h.1 b p.1 r v)

  -- groups one after another
  groups_keep : (gs : List CGroup) → Each GroupKeeps gs → all_groups (map (group_allowed f) gs) ≡ true → Keeps (tokens.all (map group_tokens gs))
  groups_keep [] h l r v = v
  groups_keep (g ∷ gs) h l r v =
      let p = both_true (group_allowed f g).1 (all_groups (map (group_allowed f) gs)) l in h.0 p.0 _ (groups_keep gs h.1 p.1 r v)

  -- the values of a group
  cases_keep : (vs : List ℕ) → are_words vs ≡ true → Keeps (cases_tokens vs)
  cases_keep [] h r v = v
  cases_keep (n ∷ vs) h r v = let p = both_true (is_word n) (are_words vs) h in (tt, (word_of n p.0, (tt, cases_keep vs p.1 r v)))

  -- a layer over statements, arms and groups
  stmt_layer : (y : CStmt-F CStmt CArm CGroup)
      → ((b : Bool)
      → ok.stmt_at f (st.map-CStmt CStmt CArm CGroup Allowed Allowed GroupAllowed (stmt_allowed f) (arm_allowed f) (group_allowed f) y) b ≡ true
      → Keeps (tokens.stmt_at (st.map-CStmt CStmt CArm CGroup Tokens Tokens Tokens stmt_tokens arm_tokens group_tokens y)))
      → StmtKeeps (roll-CStmt y)
  stmt_layer y k b h = subst Keeps (sym (stmt_tokens_layer y)) (k b (ap (λ g. g b) (sym (stmt_allowed_layer f y)) ∙ h))

  arm_layer : (y : CArm-F CStmt CArm CGroup)
      → ((b : Bool)
      → ok.arm_at f (arm.map-CArm CStmt CArm CGroup Allowed Allowed GroupAllowed (stmt_allowed f) (arm_allowed f) (group_allowed f) y) b ≡ true
      → Keeps (tokens.arm_at (arm.map-CArm CStmt CArm CGroup Tokens Tokens Tokens stmt_tokens arm_tokens group_tokens y)))
      → ArmKeeps (roll-CArm y)
  arm_layer y k b h = subst Keeps (sym (arm_tokens_layer y)) (k b (ap (λ g. g b) (sym (arm_allowed_layer f y)) ∙ h))

  group_layer : (y : CGroup-F CStmt CArm CGroup)
      → ((ok.group_at (group.map-CGroup CStmt CArm CGroup Allowed Allowed GroupAllowed (stmt_allowed f) (arm_allowed f) (group_allowed f) y)).1 ≡ true
      → Keeps (tokens.group_at (group.map-CGroup CStmt CArm CGroup Tokens Tokens Tokens stmt_tokens arm_tokens group_tokens y)))
      → GroupKeeps (roll-CGroup y)
  group_layer y k h = subst Keeps (sym (group_tokens_layer y)) (k (ap (λ g. g.1) (sym (group_allowed_layer f y)) ∙ h))

  -- an `if` without and with an `else`
  if_none_keeps : (as' : List CArm) → Each ArmKeeps as' → StmtKeeps (roll-CStmt (CStmt-F.If as' None))
  if_none_keeps as' h = stmt_layer (CStmt-F.If as' None) (λ b l.
      let p = both_true (has_any (map (arm_allowed f) as')) (ok.all (map (arm_allowed f) as') b && true) l in
      let q = both_true (ok.all (map (arm_allowed f) as') b) true p.1 in arms_keep as' h b q.0)

  if_some_keeps : (as' : List CArm) (last : List CStmt) → Each ArmKeeps as' → Each StmtKeeps last → StmtKeeps (roll-CStmt (CStmt-F.If as' (Some last)))
  if_some_keeps as' last h hl = stmt_layer (CStmt-F.If as' (Some last)) (λ b l r v.
      let p = both_true (has_any (map (arm_allowed f) as')) (ok.all (map (arm_allowed f) as') b && ok.all (map (stmt_allowed f) last) b) l in
      let q = both_true (ok.all (map (arm_allowed f) as') b) (ok.all (map (stmt_allowed f) last) b) p.1 in
      arms_keep as' h b q.0 _ (tt, body_keeps last hl b q.1 r v))

  -- a `switch`
  switch_keeps : (a : CExpr) (gs : List CGroup) (ss : List CStmt) → Each GroupKeeps gs → Each StmtKeeps ss → StmtKeeps (roll-CStmt (CStmt-F.Switch a gs ss))
  switch_keeps a gs ss hg hs = stmt_layer (CStmt-F.Switch a gs ss) (λ b l r v.
      let groups : Bool = all_groups (map (group_allowed f) gs) in
      let distinct : Bool = are_distinct (groups_values (map (group_allowed f) gs)) in
      let body : Bool = ok.all (map (stmt_allowed f) ss) true in
      let p = both_true (word_allowed f a) (groups && (distinct && body)) l in
      let q = both_true groups (distinct && body) p.1 in
      let s = both_true distinct body q.1 in
      (tt, (tt, word_keeps a p.0 _ (tt, (tt, groups_keep gs hg q.0 _ (tt, (tt, body_keeps ss hs true s.1 _ (tt, (tt, (tt, v))))))))))

  -- by cases
  stmt_cases : StmtCases StmtKeeps ArmKeeps GroupKeeps
  stmt_cases = record {
    set = λ n a. stmt_layer (CStmt-F.Set n a) (λ b l r v.
        let p = both_true (is_target f n) (word_allowed f a) l in (target_keeps n p.0, (tt, word_keeps a p.1 _ (tt, v))));
    load = λ n k a. stmt_layer (CStmt-F.Load n k a) (λ b l r v.
        let p = both_true (is_target f n) (word_allowed f a) l in (target_keeps n p.0, (tt, (tt, (tt, word_keeps a p.1 _ (tt, (tt, v)))))));
    store = λ k a b. stmt_layer (CStmt-F.Store k a b) (λ x l r v.
        let p = both_true (word_allowed f a) (word_allowed f b) l in (tt, (tt, word_keeps a p.0 _ (tt, word_keeps b p.1 _ (tt, (tt, v))))));
    ext = λ a. stmt_layer (CStmt-F.Ext a) (λ b l r v. (tt, (tt, word_keeps a l _ (tt, (tt, v)))));
    trap = λ n a. stmt_layer (CStmt-F.Trap n a) (λ b l r v.
        let p = both_true (is_word n) (word_allowed f a) l in (tt, (tt, (word_of n p.0, (tt, word_keeps a p.1 _ (tt, (tt, v)))))));
    if_none = if_none_keeps;
    if_some = if_some_keeps;
    switch = switch_keeps;
    loop = λ ss hs. stmt_layer (CStmt-F.Loop ss) (λ b l r v. (tt, (tt, (tt, (tt, body_keeps ss hs true l r v)))));
    while = λ u ss hs. stmt_layer (CStmt-F.While u ss) (λ b l r v.
        let p = both_true (cond_allowed f u) (ok.all (map (stmt_allowed f) ss) true) l in
        (tt, (tt, cond_keeps u p.0 _ (tt, body_keeps ss hs true p.1 r v))));
    do_while = λ ss u hs. stmt_layer (CStmt-F.DoWhile ss u) (λ b l r v.
        let p = both_true (ok.all (map (stmt_allowed f) ss) true) (cond_allowed f u) l in
        (tt, body_keeps ss hs true p.0 _ (tt, (tt, cond_keeps u p.1 _ (tt, (tt, v))))));
    break = stmt_layer CStmt-F.Break (λ b l r v. (tt, (tt, v)));
    return = stmt_layer CStmt-F.Return (λ b l r v. (tt, (tt, v)));
    arm_of = λ u ss hs. arm_layer (record { test = u; body = ss }) (λ b l r v.
        let p = both_true (cond_allowed f u) (ok.all (map (stmt_allowed f) ss) b) l in
        (tt, (tt, cond_keeps u p.0 _ (tt, body_keeps ss hs b p.1 r v))));
    group_of = λ vs ss hs. group_layer (record { values = vs; body = ss }) (λ l r v.
        let p = both_true (has_any vs) (are_words vs && ok.all (map (stmt_allowed f) ss) true) l in
        let q = both_true (are_words vs) (ok.all (map (stmt_allowed f) ss) true) p.1 in
        cases_keep vs q.0 _ (body_keeps ss hs true q.1 _ (tt, (tt, v))));
  }

  -- ---- the function

  -- all statements
  stmts_keep : (ss : List CStmt) → ok.stmts_allowed f ss ≡ true → Keeps (stmts_tokens ss)
  stmts_keep [] h r v = v
  stmts_keep (s ∷ ss) h r v =
      let p = both_true (stmt_allowed f s false) (ok.stmts_allowed f ss) h in every_stmt stmt_cases s false p.0 _ (stmts_keep ss p.1 r v)

  -- the declarations of the locals of a kind
  decls_keep : (kind : ℕ → Name) → ((m : ℕ) → m < 2 ^ 32 → IsToken (tok.Name (kind m))) → (n : ℕ) → n < 2 ^ 32 → Keeps (decls_tokens kind n)
  decls_keep kind h zero l r v = v
  decls_keep kind h (suc n) l r v = decls_keep kind h n (omega arith) _ (tt, (h n (omega arith), (tt, (tt, (tt, v)))))

  -- all tokens
  fun_keeps : AreTokens (fun_tokens f)
  fun_keeps =
      let body = stmts_keep f.body w.allowed (tok.End ∷ []) (tt, tt) in
      let selectors = decls_keep name.S (λ m l. l) f.selectors w.selectors _ body in
      let bools = decls_keep name.B (λ m l. l) f.bools w.bools _ selectors in
      let temps = decls_keep name.T (λ m l. l) f.temps w.temps _ bools in
      (tt, (w.address, (tt, (tt, (tt, (tt, temps))))))

-- the law
pub function_tokens : (f : CFun) → IsWellFormed f → All IsToken (fun_tokens f)
function_tokens f w = all_tokens (fun_tokens f) (fun_keeps f w)
