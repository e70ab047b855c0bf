-- Of a well-formed function the statements are read, and all numbers and names in its tokens are those of some text.
use Rattle.std.proofs.Common.{◌≡◌, ℕ, ◌^◌, ◌<◌, Bool, true, false, ◌&&◌, List, [], ◌∷◌, Some, None, refl, sym, ap, ◌∙◌, subst, arith, map}
use borrow.Author.Tests.{ltb-true}
use Rattle.dream_words.specs.declared.machine.Name.{Name}
use Rattle.dream_words.specs.declared.machine.Name.TheVariants as name
use Rattle.c_syntax.specs.declared.syntax.CExpr as e
use Rattle.c_syntax.specs.declared.syntax.CExpr.{CExpr, CExpr-F, roll-CExpr}
use Rattle.c_syntax.specs.declared.syntax.CCond as c
use Rattle.c_syntax.specs.declared.syntax.CCond.{CCond, CCond-F, roll-CCond}
use Rattle.c_syntax.specs.declared.syntax.CStmt as st
use Rattle.c_syntax.specs.declared.syntax.CStmt.{CStmt, CStmt-F, roll-CStmt}
use Rattle.c_syntax.specs.declared.syntax.CArm as arm
use Rattle.c_syntax.specs.declared.syntax.CArm.{CArm, CArm-F, roll-CArm}
use Rattle.c_syntax.specs.declared.syntax.CGroup as group
use Rattle.c_syntax.specs.declared.syntax.CGroup.{CGroup, CGroup-F, roll-CGroup}
use Rattle.c_syntax.specs.declared.syntax.CFun.{CFun}
use Rattle.c_syntax.specs.declared.token.Token.{Token}
use Rattle.c_syntax.specs.declared.token.Token.TheVariants as t
use Rattle.c_syntax.specs.Formed as ok
use Rattle.c_syntax.specs.Formed.{Allowed, GroupAllowed, is_word, is_declared, is_base, is_target, word_names, cond_names, names_word, names_cond, word_allowed, cond_allowed, stmt_allowed, arm_allowed, group_allowed, groups_values, all_groups, else_allowed, has_any, are_words, are_distinct}
use Rattle.c_syntax.specs.Tokens as tokens
use Rattle.c_syntax.specs.Tokens.{Tokens, word_tokens, cond_tokens, stmt_tokens, arm_tokens, group_tokens, stmts_tokens, cases_tokens}
use Rattle.c_syntax.proofs.Layers.{word_tokens_layer, cond_tokens_layer, stmt_tokens_layer, arm_tokens_layer, group_tokens_layer, names_word_layer, names_cond_layer, stmt_allowed_layer, arm_allowed_layer, group_allowed_layer}
use Rattle.c_syntax.proofs.Induct.{Each, WordCases, StmtCases, every_word, every_cond, every_stmt}
use Rattle.c_syntax.proofs.Spelled.{IsWord, IsToken, AreTokens}
use Rattle.c_syntax.proofs.ReadStmts as read
use Rattle.c_syntax.proofs.ReadStmts.{StmtRead, ArmRead, GroupRead, AllRead, ArmsRead, GroupsRead, LastRead, mapped}

-- both of two conditions hold
pub both_true : (a b : Bool) → (a && b) ≡ true → (a ≡ true) × (b ≡ true)
both_true true b h = (refl, h)
both_true false b h = absurd (cc)

-- before tokens of some text a part puts tokens of some text
abbrev pub Keeps : Tokens → Type 0
Keeps p = (r : List Token) → AreTokens r → AreTokens (p r)

-- how many locals a function may have
pub record Bounds (f : CFun) : Type 0 where
  pub temps : f.temps < 2 ^ 32
  pub bools : f.bools < 2 ^ 32
  pub selectors : f.selectors < 2 ^ 32

-- a number that is allowed is a word
word_of : (n : ℕ) → is_word n ≡ true → IsWord n
word_of n h = ltb-true n (2 ^ 32) h

-- a name of the function stands in some text
name_of : (f : CFun) → Bounds f → (n : Name) → is_declared f n ≡ true → IsToken (t.Name n)
name_of f w (name.Reg n) h = ltb-true n 8 h
name_of f w (name.Flag n) h = ltb-true n 5 h
name_of f w name.Fs h = tt
name_of f w name.Gs h = tt
name_of f w (name.T n) h = let l = ltb-true n f.temps h in let k = w.temps in omega arith
name_of f w (name.B n) h = let l = ltb-true n f.bools h in let k = w.bools in omega arith
name_of f w (name.S n) h = let l = ltb-true n f.selectors h in let k = w.selectors in omega arith

module _ (f : CFun) (w : Bounds f) where
  -- a Word and a Cond whose numbers and names are allowed put such tokens
  abbrev WordKeeps : CExpr → Type 0
  WordKeeps a = names_word f a ≡ true → Keeps (word_tokens a)

  abbrev CondKeeps : CCond → Type 0
  CondKeeps u = names_cond f u ≡ true → Keeps (cond_tokens u)

  -- a layer over them
  word_layer : (y : CExpr-F CCond CExpr)
      → (word_names f (e.map-CExpr CCond CExpr Bool Bool (names_cond f) (names_word f) y) ≡ true → Keeps (tokens.word_at (e.map-CExpr CCond CExpr Tokens Tokens cond_tokens word_tokens y)))
      → WordKeeps (roll-CExpr y)
  word_layer y k h = subst Keeps (sym (word_tokens_layer y)) (k (sym (names_word_layer f y) ∙ h))

  cond_layer : (y : CCond-F CCond CExpr)
      → (cond_names (c.map-CCond CCond CExpr Bool Bool (names_cond f) (names_word f) y) ≡ true → Keeps (tokens.cond_at (c.map-CCond CCond CExpr Tokens Tokens cond_tokens word_tokens y)))
      → CondKeeps (roll-CCond y)
  cond_layer y k h = subst Keeps (sym (cond_tokens_layer y)) (k (sym (names_cond_layer f y) ∙ h))

  -- by cases
  keeping : WordCases WordKeeps CondKeeps
  keeping = record {
    num = λ n. word_layer (CExpr-F.Num n) (λ h r v. (word_of n h, v));
    name = λ n. word_layer (CExpr-F.Name n) (λ h r v. (name_of f w n h, v));
    not_word = λ a ha. word_layer (CExpr-F.«CExpr::Not» a) (λ h r v. (tt, (tt, ha h _ (tt, v))));
    bin = λ op a b ha hb. word_layer (CExpr-F.Bin op a b) (λ h r v. let p = both_true (names_word f a) (names_word f b) h in (tt, ha p.0 _ (tt, hb p.1 _ (tt, v))));
    fn1 = λ g a ha. word_layer (CExpr-F.Fn1 g a) (λ h r v. (tt, (tt, ha h _ (tt, v))));
    fn2 = λ g a b ha hb. word_layer (CExpr-F.Fn2 g a b) (λ h r v. let p = both_true (names_word f a) (names_word f b) h in (tt, (tt, ha p.0 _ (tt, hb p.1 _ (tt, v)))));
    fn3 = λ g a b d ha hb hd. word_layer (CExpr-F.Fn3 g a b d) (λ h r v.
        let p = both_true (names_word f a) (names_word f b && names_word f d) h in let q = both_true (names_word f b) (names_word f d) p.1 in
        (tt, (tt, ha p.0 _ (tt, hb q.0 _ (tt, hd q.1 _ (tt, v))))));
    pick = λ u a b hu ha hb. word_layer (CExpr-F.Pick u a b) (λ h r v.
        let p = both_true (names_cond f u) (names_word f a && names_word f b) h in let q = both_true (names_word f a) (names_word f b) p.1 in
        (tt, hu p.0 _ (tt, ha q.0 _ (tt, hb q.1 _ (tt, v)))));
    cmp = λ op a b ha hb. cond_layer (CCond-F.Cmp op a b) (λ h r v. let p = both_true (names_word f a) (names_word f b) h in (tt, ha p.0 _ (tt, hb p.1 _ (tt, v))));
    not_cond = λ u hu. cond_layer (CCond-F.«CCond::Not» u) (λ h r v. (tt, (tt, hu h _ (tt, v))));
    both = λ u x hu hx. cond_layer (CCond-F.And u x) (λ h r v. let p = both_true (names_cond f u) (names_cond f x) h in (tt, hu p.0 _ (tt, hx p.1 _ (tt, v))));
    either = λ u x hu hx. cond_layer (CCond-F.Or u x) (λ h r v. let p = both_true (names_cond f u) (names_cond f x) h in (tt, hu p.0 _ (tt, hx p.1 _ (tt, v))));
  }

  word_keeps : (a : CExpr) → word_allowed f a ≡ true → Keeps (word_tokens a)
  word_keeps a h = every_word keeping a (both_true (names_word f a) _ h).0

  cond_keeps : (u : CCond) → cond_allowed f u ≡ true → Keeps (cond_tokens u)
  cond_keeps u h = every_cond keeping u (both_true (names_cond f u) _ h).0

  -- a name that is assigned
  target_keeps : (n : Name) → is_target f n ≡ true → IsToken (t.Name n)
  target_keeps n h = name_of f w n (both_true (is_declared f n) _ h).0

  record Good (s : CStmt) (p : Tokens) : Type 0 where
    pub read : StmtRead s p
    pub keeps : Keeps p

  record GoodArm (a : CArm) (p : Tokens) : Type 0 where
    pub read : ArmRead a p
    pub keeps : Keeps p

  record GoodGroup (g : CGroup) (p : Tokens) : Type 0 where
    pub read : GroupRead g p
    pub keeps : Keeps p

  -- a statement, an arm and a group that are allowed are read, and put tokens of some text
  abbrev StmtGood : CStmt → Type 0
  StmtGood s = (b : Bool) → stmt_allowed f s b ≡ true → Good s (stmt_tokens s)

  abbrev ArmGood : CArm → Type 0
  ArmGood a = (b : Bool) → arm_allowed f a b ≡ true → GoodArm a (arm_tokens a)

  abbrev GroupGood : CGroup → Type 0
  GroupGood g = (group_allowed f g).1 ≡ true → GoodGroup g (group_tokens g)

  -- the same of each of a list
  abbrev AllGood : List CStmt → Type 0
  AllGood = Each (λ s. Good s (stmt_tokens s))

  abbrev ArmsGood : List CArm → Type 0
  ArmsGood = Each (λ a. GoodArm a (arm_tokens a))

  abbrev GroupsGood : List CGroup → Type 0
  GroupsGood = Each (λ g. GoodGroup g (group_tokens g))

  -- from each to all
  all_good : (ss : List CStmt) → Each StmtGood ss → (b : Bool) → ok.all (map (stmt_allowed f) ss) b ≡ true → AllGood ss
  all_good [] h b l = tt
  all_good (s ∷ ss) h b l = let p = both_true (stmt_allowed f s b) (ok.all (map (stmt_allowed f) ss) b) l in (h.0 b p.0, all_good ss h.1 b p.1)

  arms_good : (as' : List CArm) → Each ArmGood as' → (b : Bool) → ok.all (map (arm_allowed f) as') b ≡ true → ArmsGood as'
  arms_good [] h b l = tt
  arms_good (a ∷ as') h b l = let p = both_true (arm_allowed f a b) (ok.all (map (arm_allowed f) as') b) l in (h.0 b p.0, arms_good as' h.1 b p.1)

  groups_good : (gs : List CGroup) → Each GroupGood gs → all_groups (map (group_allowed f) gs) ≡ true → GroupsGood gs
  groups_good [] h l = tt
  groups_good (g ∷ gs) h l = let p = both_true (group_allowed f g).1 (all_groups (map (group_allowed f) gs)) l in (h.0 p.0, groups_good gs h.1 p.1)

  reads : (ss : List CStmt) → AllGood ss → AllRead ss
  reads [] h = tt
  reads (s ∷ ss) h = (h.0.read, reads ss h.1)

  -- the arms and groups of a list are read
  arms_reads : (as' : List CArm) → ArmsGood as' → ArmsRead as'
  arms_reads [] h = tt
  arms_reads (s ∷ ss) h = (h.0.read, arms_reads ss h.1)

  groups_reads : (gs : List CGroup) → GroupsGood gs → GroupsRead gs
  groups_reads [] h = tt
  groups_reads (s ∷ ss) h = (h.0.read, groups_reads ss h.1)

  -- a list puts tokens of some text where each part does
  all_keeps : (ss : List CStmt) → AllGood ss → Keeps (tokens.all (map stmt_tokens ss))
  all_keeps [] h r v = v
  all_keeps (s ∷ ss) h r v = h.0.keeps _ (all_keeps ss h.1 r v)

  -- so does a Body
  body_keeps : (ss : List CStmt) → AllGood ss → Keeps (tokens.body_tokens (map stmt_tokens ss))
  body_keeps ss h r v = (tt, all_keeps ss h _ (tt, v))

  -- so do the arms after the first
  more_keeps : (as' : List CArm) → ArmsGood as' → Keeps (tokens.more_arms (map arm_tokens as'))
  more_keeps [] h r v = v
  more_keeps (a ∷ as') h r v = (tt, h.0.keeps _ (more_keeps as' h.1 r v))

  -- so do groups
  groups_keeps : (gs : List CGroup) → GroupsGood gs → Keeps (tokens.all (map group_tokens gs))
  groups_keeps [] h r v = v
  groups_keeps (g ∷ gs) h r v = h.0.keeps _ (groups_keeps gs h.1 r v)

  -- so do the values of a group
  cases_keeps : (vs : List ℕ) → are_words vs ≡ true → Keeps (cases_tokens vs)
  cases_keeps [] h r v = v
  cases_keeps (n ∷ vs) h r v = let p = both_true (is_word n) (are_words vs) h in (tt, (word_of n p.0, (tt, cases_keeps vs p.1 r v)))

  -- a layer over statements, arms and groups
  stmt_layer : (y : CStmt-F CStmt CArm CGroup)
      → ((b : Bool) → ok.stmt_at f (st.map-CStmt CStmt CArm CGroup Allowed Allowed GroupAllowed (stmt_allowed f) (arm_allowed f) (group_allowed f) y) b ≡ true
      → Good (roll-CStmt y) (tokens.stmt_at (st.map-CStmt CStmt CArm CGroup Tokens Tokens Tokens stmt_tokens arm_tokens group_tokens y)))
      → StmtGood (roll-CStmt y)
  stmt_layer y k b h =
      subst (Good (roll-CStmt y)) (sym (stmt_tokens_layer y))
      (k b (ap (λ g. g b) (sym (stmt_allowed_layer f y)) ∙ h))

  arm_layer : (y : CArm-F CStmt CArm CGroup)
      → ((b : Bool) → ok.arm_at f (arm.map-CArm CStmt CArm CGroup Allowed Allowed GroupAllowed (stmt_allowed f) (arm_allowed f) (group_allowed f) y) b ≡ true
      → GoodArm (roll-CArm y) (tokens.arm_at (arm.map-CArm CStmt CArm CGroup Tokens Tokens Tokens stmt_tokens arm_tokens group_tokens y)))
      → ArmGood (roll-CArm y)
  arm_layer y k b h =
      subst (GoodArm (roll-CArm y)) (sym (arm_tokens_layer y))
      (k b (ap (λ g. g b) (sym (arm_allowed_layer f y)) ∙ h))

  group_layer : (y : CGroup-F CStmt CArm CGroup)
      → ((ok.group_at (group.map-CGroup CStmt CArm CGroup Allowed Allowed GroupAllowed (stmt_allowed f) (arm_allowed f) (group_allowed f) y)).1 ≡ true
      → GoodGroup (roll-CGroup y) (tokens.group_at (group.map-CGroup CStmt CArm CGroup Tokens Tokens Tokens stmt_tokens arm_tokens group_tokens y)))
      → GroupGood (roll-CGroup y)
  group_layer y k h =
      subst (GoodGroup (roll-CGroup y)) (sym (group_tokens_layer y))
      (k (ap (λ g. g.1) (sym (group_allowed_layer f y)) ∙ h))

  -- an `if` without and with an `else`
  if_none_good : (as' : List CArm) → Each ArmGood as' → StmtGood (roll-CStmt (CStmt-F.If as' None))
  if_none_good [] h = stmt_layer (CStmt-F.If [] None) (λ b l. absurd (cc))
  if_none_good (a ∷ as') h = stmt_layer (CStmt-F.If (a ∷ as') None) (λ b l.
      let p = both_true (ok.all (map (arm_allowed f) (a ∷ as')) b) true l in let q : ArmsGood (a ∷ as') = arms_good (a ∷ as') h b p.0 in
      record { read = read.if_read a as' q.0.read (arms_reads as' q.1) None tt; keeps = λ r v. q.0.keeps _ (more_keeps as' q.1 r v) })

  if_some_good : (as' : List CArm) (last : List CStmt) → Each ArmGood as' → Each StmtGood last → StmtGood (roll-CStmt (CStmt-F.If as' (Some last)))
  if_some_good [] last h hl = stmt_layer (CStmt-F.If [] (Some last)) (λ b l. absurd (cc))
  if_some_good (a ∷ as') last h hl = stmt_layer (CStmt-F.If (a ∷ as') (Some last)) (λ b l.
      let p = both_true (ok.all (map (arm_allowed f) (a ∷ as')) b) (ok.all (map (stmt_allowed f) last) b) l in
      let q : ArmsGood (a ∷ as') = arms_good (a ∷ as') h b p.0 in let s : AllGood last = all_good last hl b p.1 in
      record { read = read.if_read a as' q.0.read (arms_reads as' q.1) (Some last) (reads last s); keeps = λ r v. q.0.keeps _ (more_keeps as' q.1 _ (tt, body_keeps last s r v)) })

  -- by cases
  good : StmtCases StmtGood ArmGood GroupGood
  good = record {
    set = λ n a. stmt_layer (CStmt-F.Set n a) (λ b l. let p = both_true (is_target f n) (word_allowed f a) l in
        record { read = read.set_read n a; keeps = λ r v. (target_keeps n p.0, (tt, word_keeps a p.1 _ (tt, v))) });
    load = λ n k a. stmt_layer (CStmt-F.Load n k a) (λ b l. let p = both_true (is_target f n) (word_allowed f a) l in
        record { read = read.load_read n k a; keeps = λ r v. (target_keeps n p.0, (tt, (tt, (tt, word_keeps a p.1 _ (tt, (tt, v)))))) });
    store = λ k a b. stmt_layer (CStmt-F.Store k a b) (λ x l. let p = both_true (word_allowed f a) (word_allowed f b) l in
        record { read = read.store_read k a b; keeps = λ r v. (tt, (tt, word_keeps a p.0 _ (tt, word_keeps b p.1 _ (tt, (tt, v))))) });
    ext = λ a. stmt_layer (CStmt-F.Ext a) (λ b l. record { read = read.ext_read a; keeps = λ r v. (tt, (tt, word_keeps a l _ (tt, (tt, v)))) });
    trap = λ n a. stmt_layer (CStmt-F.Trap n a) (λ b l. let p = both_true (is_word n) (word_allowed f a) l in
        record { read = read.trap_read n a; keeps = λ r v. (tt, (tt, (word_of n p.0, (tt, word_keeps a p.1 _ (tt, (tt, v)))))) });
    if_none = if_none_good;
    if_some = if_some_good;
    switch = λ a gs ss hg hs. stmt_layer (CStmt-F.Switch a gs ss) (λ b l.
        let p = both_true (word_allowed f a) (all_groups (map (group_allowed f) gs) && (are_distinct (groups_values (map (group_allowed f) gs)) && ok.all (map (stmt_allowed f) ss) true)) l in
        let q = both_true (all_groups (map (group_allowed f) gs)) (are_distinct (groups_values (map (group_allowed f) gs)) && ok.all (map (stmt_allowed f) ss) true) p.1 in
        let s = both_true (are_distinct (groups_values (map (group_allowed f) gs))) (ok.all (map (stmt_allowed f) ss) true) q.1 in
        let x : GroupsGood gs = groups_good gs hg q.0 in let y : AllGood ss = all_good ss hs true s.1 in
        record {
          read = read.switch_read a gs ss (groups_reads gs x) (reads ss y);
          keeps = λ r v. (tt, (tt, word_keeps a p.0 _ (tt, (tt, groups_keeps gs x _ (tt, (tt, body_keeps ss y _ (tt, (tt, (tt, v)))))))));
        });
    loop = λ ss hs. stmt_layer (CStmt-F.Loop ss) (λ b l. let y : AllGood ss = all_good ss hs true l in
        record { read = read.loop_read ss (reads ss y); keeps = λ r v. (tt, (tt, (tt, (tt, body_keeps ss y r v)))) });
    while = λ u ss hs. stmt_layer (CStmt-F.While u ss) (λ b l. let p = both_true (cond_allowed f u) (ok.all (map (stmt_allowed f) ss) true) l in let y : AllGood ss = all_good ss hs true p.1 in
        record { read = read.while_read u ss (reads ss y); keeps = λ r v. (tt, (tt, cond_keeps u p.0 _ (tt, body_keeps ss y r v))) });
    do_while = λ ss u hs. stmt_layer (CStmt-F.DoWhile ss u) (λ b l. let p = both_true (ok.all (map (stmt_allowed f) ss) true) (cond_allowed f u) l in let y : AllGood ss = all_good ss hs true p.0 in
        record { read = read.do_read ss u (reads ss y); keeps = λ r v. (tt, body_keeps ss y _ (tt, (tt, cond_keeps u p.1 _ (tt, (tt, v))))) });
    break = stmt_layer CStmt-F.Break (λ b l. record { read = read.break_read; keeps = λ r v. (tt, (tt, v)) });
    return = stmt_layer CStmt-F.Return (λ b l. record { read = read.return_read; keeps = λ r v. (tt, (tt, v)) });
    arm_of = λ u ss hs. arm_layer (record { test = u; body = ss }) (λ b l. let p = both_true (cond_allowed f u) (ok.all (map (stmt_allowed f) ss) b) l in let y : AllGood ss = all_good ss hs b p.1 in
        record { read = read.arm_read u ss (reads ss y); keeps = λ r v. (tt, (tt, cond_keeps u p.0 _ (tt, body_keeps ss y r v))) });
    group_of = λ vs ss hs. group_layer (record { values = vs; body = ss }) (λ l.
        let p = both_true (has_any vs) (are_words vs && ok.all (map (stmt_allowed f) ss) true) l in let q = both_true (are_words vs) (ok.all (map (stmt_allowed f) ss) true) p.1 in
        let y : AllGood ss = all_good ss hs true q.1 in
        record { read = read.group_read vs ss (reads ss y); keeps = λ r v. cases_keeps vs q.0 _ (body_keeps ss y _ (tt, (tt, v))) });
  }

  -- the statements of a well-formed function are read
  pub stmts_read : (ss : List CStmt) → ok.stmts_allowed f ss ≡ true → AllRead ss
  stmts_read [] h = tt
  stmts_read (s ∷ ss) h = let p = both_true (stmt_allowed f s false) (ok.stmts_allowed f ss) h in ((every_stmt good s false p.0).read, stmts_read ss p.1)

  -- and their tokens are those of some text
  pub stmts_keep : (ss : List CStmt) → ok.stmts_allowed f ss ≡ true → Keeps (stmts_tokens ss)
  stmts_keep [] h r v = v
  stmts_keep (s ∷ ss) h r v = let p = both_true (stmt_allowed f s false) (ok.stmts_allowed f ss) h in (every_stmt good s false p.0).keeps _ (stmts_keep ss p.1 r v)
