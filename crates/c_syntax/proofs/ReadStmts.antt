-- The statement, body and function at the front of some tokens: a parser that inverts the tokens.
use Rattle.std.proofs.Common.{◌≡◌, ℕ, zero, suc, ◌+◌, ◌≤◌, Bool, true, false, List, [], ◌∷◌, Option, Some, None, refl, ap, ◌∙◌, arith, map}
use Rattle.dream_words.specs.declared.machine.Name.{Name}
use Rattle.dream_words.specs.declared.machine.Width.{Width}
use Rattle.c_syntax.specs.declared.syntax.CExpr.{CExpr}
use Rattle.c_syntax.specs.declared.syntax.CCond.{CCond}
use Rattle.c_syntax.specs.declared.syntax.CStmt.{CStmt, CStmt-F, roll-CStmt}
use Rattle.c_syntax.specs.declared.syntax.CArm.{CArm, roll-CArm}
use Rattle.c_syntax.specs.declared.syntax.CGroup.{CGroup, roll-CGroup}
use Rattle.c_syntax.specs.declared.token.Token.{Token}
use Rattle.c_syntax.specs.declared.token.Token.TheVariants as t
use Rattle.c_syntax.specs.Tokens.{Tokens, word_tokens, cond_tokens, all, body_tokens, more_arms, else_tokens, cases_tokens, stmt_at, arm_at, group_at, stmt_tokens, arm_tokens, group_tokens}
use Rattle.c_syntax.proofs.Induct.{Each}
use Rattle.c_syntax.specs.Depth.{word_depth, cond_depth}
use Rattle.c_syntax.proofs.ReadWords.{item, with_word, with_cond, comma, Starts, then_word, then_cond, word_read, cond_read}

-- what is read, and the tokens after it
abbrev pub Of : Type 0 → Type 0
Of A = Option (A × List Token)

-- what is made of it
abbrev pub and_then : {A B : Type 0} → Of A → (A → List Token → Option B) → Option B
and_then (Some (a, ts)) next = next a ts
and_then None next = None

-- what must follow a part
abbrev semicolon : {A : Type 0} → A → List Token → Of A
semicolon a (t.Semicolon ∷ ts) = Some (a, ts)
semicolon a _ = None

abbrev close_semicolon : {A : Type 0} → A → List Token → Of A
close_semicolon a (t.Close ∷ t.Semicolon ∷ ts) = Some (a, ts)
close_semicolon a _ = None

abbrev break_semicolon : {A : Type 0} → A → List Token → Of A
break_semicolon a (t.Break ∷ t.Semicolon ∷ ts) = Some (a, ts)
break_semicolon a _ = None

abbrev switch_end : {A : Type 0} → A → List Token → Of A
switch_end a (t.Break ∷ t.Semicolon ∷ t.End ∷ ts) = Some (a, ts)
switch_end a _ = None

abbrev ended : {A : Type 0} → A → List Token → Of A
ended a (t.End ∷ ts) = Some (a, ts)
ended a _ = None

-- how statements are read
abbrev pub Stmts : Type 0
Stmts = List Token → Of (List CStmt)

-- a Body
abbrev body : Stmts → Stmts
body ss (t.Begin ∷ ts) = and_then (ss ts) ended
body ss _ = None

-- an arm, from after its Cond
abbrev arm_body : Stmts → CCond → List Token → Of CArm
arm_body ss u (t.Close ∷ ts) = and_then (body ss ts) (λ b ts. Some (roll-CArm (record { test = u; body = b }), ts))
arm_body ss u _ = None

-- an arm
abbrev arm_of : ℕ → Stmts → List Token → Of CArm
arm_of k ss (t.If ∷ t.Open ∷ ts) = with_cond (item k ts) (arm_body ss)
arm_of k ss _ = None

-- the arms after the first, and the last `else`
abbrev Rest : Type 0
Rest = List CArm × Option (List CStmt)

-- after an `else`
abbrev after_else : ℕ → Stmts → (List Token → Of Rest) → List Token → Of Rest
after_else k ss next (t.Begin ∷ ts) = and_then (body ss (t.Begin ∷ ts)) (λ b ts. Some (([], Some b), ts))
after_else k ss next ts = and_then (arm_of k ss ts) (λ a ts. and_then (next ts) (λ p ts. Some ((a ∷ p.0, p.1), ts)))

-- and what comes after an arm
abbrev more : ℕ → Stmts → ℕ → List Token → Of Rest
more k ss zero ts = None
more k ss (suc m) (t.Else ∷ ts) = after_else k ss (more k ss m) ts
more k ss (suc m) ts = Some (([], None), ts)

-- the values of a group
abbrev values : ℕ → List Token → Of (List ℕ)
values zero ts = None
values (suc m) (t.Case ∷ t.Num v ∷ t.Colon ∷ ts) = and_then (values m ts) (λ vs ts. Some (v ∷ vs, ts))
values (suc m) ts = Some ([], ts)

-- a group
abbrev group_of : ℕ → Stmts → List Token → Of CGroup
group_of k ss ts = and_then (values k ts) (λ vs ts. and_then (body ss ts) (λ b. break_semicolon (roll-CGroup (record { values = vs; body = b }))))

-- the groups of a switch, up to its default
abbrev groups : (List Token → Of CGroup) → ℕ → List Token → Of (List CGroup)
groups one zero ts = None
groups one (suc m) (t.Default ∷ ts) = Some ([], t.Default ∷ ts)
groups one (suc m) ts = and_then (one ts) (λ g ts. and_then (groups one m ts) (λ gs ts. Some (g ∷ gs, ts)))

-- an assignment, from after its `=`
abbrev load : ℕ → Name → Width → List Token → Of CStmt
load k n w (t.Open ∷ ts) = with_word (item k ts) (λ a. close_semicolon (roll-CStmt (CStmt-F.Load n w a)))
load k n w _ = None

abbrev assigned : ℕ → Name → List Token → Of CStmt
assigned k n (t.Ld w ∷ ts) = load k n w ts
assigned k n ts = with_word (item k ts) (λ a. semicolon (roll-CStmt (CStmt-F.Set n a)))

-- a switch, from its default, and from after its Word
abbrev switch_last : Stmts → CExpr → List CGroup → List Token → Of CStmt
switch_last ss a gs (t.Default ∷ t.Colon ∷ ts) = and_then (body ss ts) (λ b. switch_end (roll-CStmt (CStmt-F.Switch a gs b)))
switch_last ss a gs _ = None

abbrev switch_groups : ℕ → Stmts → CExpr → List Token → Of CStmt
switch_groups k ss a (t.Close ∷ t.Begin ∷ ts) = and_then (groups (group_of k ss) k ts) (switch_last ss a)
switch_groups k ss a _ = None

-- the two forms of `while`, and `do` from after its Body
abbrev endless : Stmts → List Token → Of CStmt
endless ss (t.Close ∷ ts) = and_then (body ss ts) (λ b ts. Some (roll-CStmt (CStmt-F.Loop b), ts))
endless ss _ = None

abbrev while_body : Stmts → CCond → List Token → Of CStmt
while_body ss u (t.Close ∷ ts) = and_then (body ss ts) (λ b ts. Some (roll-CStmt (CStmt-F.While u b), ts))
while_body ss u _ = None

abbrev while_test : ℕ → Stmts → List Token → Of CStmt
while_test k ss (t.One ∷ ts) = endless ss ts
while_test k ss ts = with_cond (item k ts) (while_body ss)

abbrev do_test : ℕ → List CStmt → List Token → Of CStmt
do_test k b (t.While ∷ t.Open ∷ ts) = with_cond (item k ts) (λ u. close_semicolon (roll-CStmt (CStmt-F.DoWhile b u)))
do_test k b _ = None

-- an `if` of its arms
abbrev if_of : CArm → Rest → List Token → Of CStmt
if_of a p ts = Some (roll-CStmt (CStmt-F.If (a ∷ p.0) p.1), ts)

-- a statement, by its first token
abbrev pub stmt : ℕ → Stmts → List Token → Of CStmt
stmt k ss (t.Name n ∷ t.Assign ∷ ts) = assigned k n ts
stmt k ss (t.St w ∷ t.Open ∷ ts) = with_word (item k ts) (λ a ts. comma ts (λ ts. with_word (item k ts) (λ b. close_semicolon (roll-CStmt (CStmt-F.Store w a b)))))
stmt k ss (t.Ext ∷ t.Open ∷ ts) = with_word (item k ts) (λ a. close_semicolon (roll-CStmt (CStmt-F.Ext a)))
stmt k ss (t.Trap ∷ t.Open ∷ t.Num v ∷ t.Comma ∷ ts) = with_word (item k ts) (λ a. close_semicolon (roll-CStmt (CStmt-F.Trap v a)))
stmt k ss (t.If ∷ ts) = and_then (arm_of k ss (t.If ∷ ts)) (λ a ts. and_then (more k ss k ts) (if_of a))
stmt k ss (t.Switch ∷ t.Open ∷ ts) = with_word (item k ts) (switch_groups k ss)
stmt k ss (t.While ∷ t.Open ∷ ts) = while_test k ss ts
stmt k ss (t.Do ∷ ts) = and_then (body ss ts) (do_test k)
stmt k ss (t.Break ∷ ts) = semicolon (roll-CStmt CStmt-F.Break) ts
stmt k ss (t.Return ∷ ts) = semicolon (roll-CStmt CStmt-F.Return) ts
stmt k ss _ = None

-- the statements up to a closing brace
abbrev pub stmts : ℕ → Stmts
stmts zero ts = None
stmts (suc k) (t.End ∷ ts) = Some ([], t.End ∷ ts)
stmts (suc k) ts = and_then (stmt k (stmts k) ts) (λ s ts. and_then (stmts k ts) (λ ss ts. Some (s ∷ ss, ts)))

-- the tokens with which a statement begins
abbrev pub begins_stmt : Token → Bool
begins_stmt (t.Name n) = true
begins_stmt (t.St w) = true
begins_stmt t.Ext = true
begins_stmt t.Trap = true
begins_stmt t.If = true
begins_stmt t.Switch = true
begins_stmt t.While = true
begins_stmt t.Do = true
begins_stmt t.Break = true
begins_stmt t.Return = true
begins_stmt _ = false

-- tokens that begin as a statement does
abbrev pub Begins : List Token → Type 0
Begins [] = ⊥
Begins (x ∷ ts) = begins_stmt x ≡ true

-- tokens that don't begin with `else`, that begin with `if`, and that begin as a group or its Body does
abbrev NotElse : List Token → Type 0
NotElse (t.Else ∷ ts) = ⊥
NotElse _ = Unit {0}

abbrev IsIf : List Token → Type 0
IsIf (t.If ∷ ts) = Unit {0}
IsIf _ = ⊥

abbrev pub BeginsGroup : List Token → Type 0
BeginsGroup (t.Case ∷ ts) = Unit {0}
BeginsGroup (t.Begin ∷ ts) = Unit {0}
BeginsGroup _ = ⊥

-- a statement begins with no `else`
not_else : (ts : List Token) → Begins ts → NotElse ts
not_else [] s = absurd s
not_else (t.Else ∷ ts) s = absurd (cc)
not_else (x ∷ ts) s = tt

-- which branch the parser takes
stmts_more : (k : ℕ) (ts : List Token) → Begins ts → stmts (suc k) ts ≡ and_then (stmt k (stmts k) ts) (λ s ts. and_then (stmts k ts) (λ ss ts. Some (s ∷ ss, ts)))
stmts_more k [] s = absurd s
stmts_more k (t.End ∷ ts) s = absurd (cc)
stmts_more k (x ∷ ts) s = refl

assigned_word : (k : ℕ) (n : Name) (ts : List Token) → Starts ts → assigned k n ts ≡ with_word (item k ts) (λ a. semicolon (roll-CStmt (CStmt-F.Set n a)))
assigned_word k n [] s = absurd s
assigned_word k n (t.Ld w ∷ ts) s = absurd (cc)
assigned_word k n (x ∷ ts) s = refl

while_cond : (k : ℕ) (ss : Stmts) (ts : List Token) → Starts ts → while_test k ss ts ≡ with_cond (item k ts) (while_body ss)
while_cond k ss [] s = absurd s
while_cond k ss (t.One ∷ ts) s = absurd (cc)
while_cond k ss (x ∷ ts) s = refl

more_none : (k : ℕ) (ss : Stmts) (m : ℕ) (ts : List Token) → NotElse ts → more k ss (suc m) ts ≡ Some (([], None), ts)
more_none k ss m [] s = refl
more_none k ss m (t.Else ∷ ts) s = absurd s
more_none k ss m (x ∷ ts) s = refl

else_if : (k : ℕ) (ss : Stmts) (next : List Token → Of Rest) (ts : List Token) → IsIf ts → after_else k ss next ts ≡ and_then (arm_of k ss ts) (λ a ts. and_then (next ts) (λ p ts. Some ((a ∷ p.0, p.1), ts)))
else_if k ss next [] s = absurd s
else_if k ss next (t.If ∷ ts) s = refl
else_if k ss next (x ∷ ts) s = absurd s

stmt_if : (k : ℕ) (ss : Stmts) (ts : List Token) → IsIf ts → stmt k ss ts ≡ and_then (arm_of k ss ts) (λ a ts. and_then (more k ss k ts) (if_of a))
stmt_if k ss [] s = absurd s
stmt_if k ss (t.If ∷ ts) s = refl
stmt_if k ss (x ∷ ts) s = absurd s

groups_more : (one : List Token → Of CGroup) (m : ℕ) (ts : List Token) → BeginsGroup ts → groups one (suc m) ts ≡ and_then (one ts) (λ g ts. and_then (groups one m ts) (λ gs ts. Some (g ∷ gs, ts)))
groups_more one m [] s = absurd s
groups_more one m (t.Case ∷ ts) s = refl
groups_more one m (t.Begin ∷ ts) s = refl
groups_more one m (x ∷ ts) s = absurd s

if_begins : (ts : List Token) → IsIf ts → Begins ts
if_begins [] s = absurd s
if_begins (t.If ∷ ts) s = refl
if_begins (x ∷ ts) s = absurd s

pub record StmtRead (s : CStmt) (p : Tokens) : Type 0 where
  pub size : ℕ
  pub reads : (k : ℕ) (r : List Token) → size ≤ k → NotElse r → stmt k (stmts k) (p r) ≡ Some (s, r)
  pub begins : (r : List Token) → Begins (p r)

pub record ArmRead (a : CArm) (p : Tokens) : Type 0 where
  pub size : ℕ
  pub reads : (k : ℕ) (r : List Token) → size ≤ k → arm_of k (stmts k) (p r) ≡ Some (a, r)
  pub is_if : (r : List Token) → IsIf (p r)

pub record GroupRead (g : CGroup) (p : Tokens) : Type 0 where
  pub size : ℕ
  pub reads : (k : ℕ) (r : List Token) → size ≤ k → group_of k (stmts k) (p r) ≡ Some (g, r)
  pub begins : (r : List Token) → BeginsGroup (p r)

-- each of a list is read
abbrev pub AllRead : List CStmt → Type 0
AllRead = Each (λ s. StmtRead s (stmt_tokens s))

abbrev pub ArmsRead : List CArm → Type 0
ArmsRead = Each (λ a. ArmRead a (arm_tokens a))

abbrev pub GroupsRead : List CGroup → Type 0
GroupsRead = Each (λ g. GroupRead g (group_tokens g))

-- how deep the parser goes for a list
abbrev pub size_of : (ss : List CStmt) → AllRead ss → ℕ
size_of [] h = 1
size_of (s ∷ ss) h = suc (h.0.size + size_of ss h.1)

-- what follows a statement of a body
following : (ss : List CStmt) → AllRead ss → (r : List Token) → NotElse (all (map stmt_tokens ss) (t.End ∷ r))
following [] h r = tt
following (s ∷ ss) h r = not_else _ (h.0.begins (all (map stmt_tokens ss) (t.End ∷ r)))

-- statements up to a closing brace are read
pub stmts_read : (ss : List CStmt) (h : AllRead ss) (k : ℕ) (r : List Token) → size_of ss h ≤ k → stmts k (all (map stmt_tokens ss) (t.End ∷ r)) ≡ Some (ss, t.End ∷ r)
stmts_read [] h zero r l = absurd (omega arith)
stmts_read [] h (suc k) r l = refl
stmts_read (s ∷ ss) h zero r l = absurd (omega arith)
stmts_read (s ∷ ss) h (suc k) r l =
    stmts_more k _ (h.0.begins (all (map stmt_tokens ss) (t.End ∷ r)))
    ∙ ap (λ o. and_then o (λ s ts. and_then (stmts k ts) (λ ss ts. Some (s ∷ ss, ts)))) (h.0.reads k _ (omega arith) (following ss h.1 r))
    ∙ ap (λ o. and_then o (λ ss ts. Some (s ∷ ss, ts))) (stmts_read ss h.1 k r (omega arith))

-- so is a Body
pub body_read : (ss : List CStmt) (h : AllRead ss) (k : ℕ) (r : List Token) → size_of ss h ≤ k → body (stmts k) (body_tokens (map stmt_tokens ss) r) ≡ Some (ss, r)
body_read ss h k r l = ap (λ o. and_then o ended) (stmts_read ss h k r l)

-- a body, and what is made of it
then_body : {B : Type 0} (ss : List CStmt) (h : AllRead ss) (k : ℕ) (r : List Token) (next : List CStmt → List Token → Option B) → size_of ss h ≤ k
    → and_then (body (stmts k) (body_tokens (map stmt_tokens ss) r)) next ≡ next ss r
then_body ss h k r next l = ap (λ o. and_then o next) (body_read ss h k r l)

-- and the last `else`
abbrev pub LastRead : Option (List CStmt) → Type 0
LastRead None = Unit {0}
LastRead (Some ss) = AllRead ss

-- each of a list by its tokens
abbrev pub mapped : Option (List CStmt) → Option (List Tokens)
mapped None = None
mapped (Some ss) = Some (map stmt_tokens ss)

-- how deep the parser goes for the parts of a statement
abbrev values_size : List ℕ → ℕ
values_size [] = 1
values_size (v ∷ vs) = suc (values_size vs)

abbrev last_size : (last : Option (List CStmt)) → LastRead last → ℕ
last_size None h = 1
last_size (Some ss) h = suc (size_of ss h)

abbrev arms_size : (arms : List CArm) → ArmsRead arms → ℕ
arms_size [] h = 0
arms_size (a ∷ as') h = suc (h.0.size + arms_size as' h.1)

-- the arms after the first are read
more_read : (arms : List CArm) (h : ArmsRead arms) (last : Option (List CStmt)) (hl : LastRead last) (k m : ℕ) (r : List Token)
    → arms_size arms h + last_size last hl ≤ k → arms_size arms h + last_size last hl ≤ m → NotElse r
    → more k (stmts k) m (more_arms (map arm_tokens arms) (else_tokens (mapped last) r)) ≡ Some ((arms, last), r)
more_read [] h None hl k zero r l n s = absurd (omega arith)
more_read [] h None hl k (suc m) r l n s = more_none k (stmts k) m r s
more_read [] h (Some ss) hl k zero r l n s = absurd (omega arith)
more_read [] h (Some ss) hl k (suc m) r l n s = then_body ss hl k r _ (omega arith)
more_read (a ∷ as') h last hl k zero r l n s = absurd (omega arith)
more_read (a ∷ as') h last hl k (suc m) r l n s =
    else_if k (stmts k) (more k (stmts k) m) _ (h.0.is_if (more_arms (map arm_tokens as') (else_tokens (mapped last) r)))
    ∙ ap (λ o. and_then o (λ a ts. and_then (more k (stmts k) m ts) (λ p ts. Some ((a ∷ p.0, p.1), ts)))) (h.0.reads k _ (omega arith))
    ∙ ap (λ o. and_then o (λ p ts. Some ((a ∷ p.0, p.1), ts))) (more_read as' h.1 last hl k m r (omega arith) (omega arith) s)

-- an `if` is read
pub if_read : (a : CArm) (as' : List CArm) (ha : ArmRead a (arm_tokens a)) (h : ArmsRead as') (last : Option (List CStmt)) (hl : LastRead last)
    → StmtRead (roll-CStmt (CStmt-F.If (a ∷ as') last)) (stmt_at (CStmt-F.If (map arm_tokens (a ∷ as')) (mapped last)))
if_read a as' ha h last hl = record {
  size = ha.size + (arms_size as' h + last_size last hl);
  begins = λ r. if_begins _ (ha.is_if (more_arms (map arm_tokens as') (else_tokens (mapped last) r)));
  reads = λ k r l s.
      stmt_if k (stmts k) _ (ha.is_if (more_arms (map arm_tokens as') (else_tokens (mapped last) r)))
      ∙ ap (λ o. and_then o (λ a ts. and_then (more k (stmts k) k ts) (if_of a))) (ha.reads k _ (omega arith))
      ∙ ap (λ o. and_then o (if_of a)) (more_read as' h last hl k k r (omega arith) (omega arith) s);
}

-- the values of a group are read
values_read : (vs : List ℕ) (m : ℕ) (r : List Token) → values_size vs ≤ m → values m (cases_tokens vs (t.Begin ∷ r)) ≡ Some (vs, t.Begin ∷ r)
values_read [] zero r l = absurd (omega arith)
values_read [] (suc m) r l = refl
values_read (v ∷ vs) zero r l = absurd (omega arith)
values_read (v ∷ vs) (suc m) r l = ap (λ o. and_then o (λ vs ts. Some (v ∷ vs, ts))) (values_read vs m r (omega arith))

-- a group begins with a `case`, or its Body
cases_begin : (vs : List ℕ) (r : List Token) → BeginsGroup (cases_tokens vs (t.Begin ∷ r))
cases_begin [] r = tt
cases_begin (v ∷ vs) r = tt

-- a group is read
pub group_read : (vs : List ℕ) (ss : List CStmt) (h : AllRead ss)
    → GroupRead (roll-CGroup (record { values = vs; body = ss })) (group_at (record { values = vs; body = map stmt_tokens ss }))
group_read vs ss h = record {
  size = values_size vs + size_of ss h;
  begins = λ r. cases_begin vs _;
  reads = λ k r l.
      ap (λ o. and_then o (λ vs ts. and_then (body (stmts k) ts) (λ b. break_semicolon (roll-CGroup (record { values = vs; body = b }))))) (values_read vs k _ (omega arith))
      ∙ then_body ss h k (t.Break ∷ t.Semicolon ∷ r) _ (omega arith);
}

-- an arm is read
pub arm_read : (u : CCond) (ss : List CStmt) (h : AllRead ss)
    → ArmRead (roll-CArm (record { test = u; body = ss })) (arm_at (record { test = u; body = map stmt_tokens ss }))
arm_read u ss h = record {
  size = cond_depth u + size_of ss h;
  is_if = λ r. tt;
  reads = λ k r l. then_cond u (cond_tokens u) (cond_depth u) (cond_read u) k (t.Close ∷ body_tokens (map stmt_tokens ss) r) _ (omega arith) ∙ then_body ss h k r _ (omega arith);
}

abbrev groups_size : (gs : List CGroup) → GroupsRead gs → ℕ
groups_size [] h = 1
groups_size (g ∷ gs) h = suc (h.0.size + groups_size gs h.1)

-- groups are read
groups_read : (gs : List CGroup) (h : GroupsRead gs) (k m : ℕ) (r : List Token) → groups_size gs h ≤ k → groups_size gs h ≤ m
    → groups (group_of k (stmts k)) m (all (map group_tokens gs) (t.Default ∷ r)) ≡ Some (gs, t.Default ∷ r)
groups_read [] h k zero r l n = absurd (omega arith)
groups_read [] h k (suc m) r l n = refl
groups_read (g ∷ gs) h k zero r l n = absurd (omega arith)
groups_read (g ∷ gs) h k (suc m) r l n =
    groups_more (group_of k (stmts k)) m _ (h.0.begins (all (map group_tokens gs) (t.Default ∷ r)))
    ∙ ap (λ o. and_then o (λ g ts. and_then (groups (group_of k (stmts k)) m ts) (λ gs ts. Some (g ∷ gs, ts)))) (h.0.reads k _ (omega arith))
    ∙ ap (λ o. and_then o (λ gs ts. Some (g ∷ gs, ts))) (groups_read gs h.1 k m r (omega arith) (omega arith))

-- each form of a statement is read
pub set_read : (n : Name) (a : CExpr) → StmtRead (roll-CStmt (CStmt-F.Set n a)) (stmt_at (CStmt-F.Set n a))
set_read n a = record {
  size = word_depth a;
  begins = λ r. refl;
  reads = λ k r l s. assigned_word k n _ ((word_read a).starts (t.Semicolon ∷ r)) ∙ then_word a (word_tokens a) (word_depth a) (word_read a) k (t.Semicolon ∷ r) _ l;
}

pub load_read : (n : Name) (w : Width) (a : CExpr) → StmtRead (roll-CStmt (CStmt-F.Load n w a)) (stmt_at (CStmt-F.Load n w a))
load_read n w a = record {
  size = word_depth a;
  begins = λ r. refl;
  reads = λ k r l s. then_word a (word_tokens a) (word_depth a) (word_read a) k (t.Close ∷ t.Semicolon ∷ r) _ l;
}

pub store_read : (w : Width) (a b : CExpr) → StmtRead (roll-CStmt (CStmt-F.Store w a b)) (stmt_at (CStmt-F.Store w a b))
store_read w a b = record {
  size = word_depth a + word_depth b;
  begins = λ r. refl;
  reads = λ k r l s. then_word a (word_tokens a) (word_depth a) (word_read a) k (t.Comma ∷ word_tokens b (t.Close ∷ t.Semicolon ∷ r)) _ (omega arith)
      ∙ then_word b (word_tokens b) (word_depth b) (word_read b) k (t.Close ∷ t.Semicolon ∷ r) _ (omega arith);
}

pub ext_read : (a : CExpr) → StmtRead (roll-CStmt (CStmt-F.Ext a)) (stmt_at (CStmt-F.Ext a))
ext_read a = record {
  size = word_depth a;
  begins = λ r. refl;
  reads = λ k r l s. then_word a (word_tokens a) (word_depth a) (word_read a) k (t.Close ∷ t.Semicolon ∷ r) _ l;
}

pub trap_read : (v : ℕ) (a : CExpr) → StmtRead (roll-CStmt (CStmt-F.Trap v a)) (stmt_at (CStmt-F.Trap v a))
trap_read v a = record {
  size = word_depth a;
  begins = λ r. refl;
  reads = λ k r l s. then_word a (word_tokens a) (word_depth a) (word_read a) k (t.Close ∷ t.Semicolon ∷ r) _ l;
}

pub switch_read : (a : CExpr) (gs : List CGroup) (ss : List CStmt) (hg : GroupsRead gs) (h : AllRead ss)
    → StmtRead (roll-CStmt (CStmt-F.Switch a gs ss)) (stmt_at (CStmt-F.Switch a (map group_tokens gs) (map stmt_tokens ss)))
switch_read a gs ss hg h = record {
  size = word_depth a + groups_size gs hg + size_of ss h;
  begins = λ r. refl;
  reads = λ k r l s.
      then_word a (word_tokens a) (word_depth a) (word_read a) k (t.Close ∷ t.Begin ∷ all (map group_tokens gs) (t.Default ∷ t.Colon ∷ body_tokens (map stmt_tokens ss) (t.Break ∷ t.Semicolon ∷ t.End ∷ r))) (switch_groups k (stmts k)) (omega arith)
      ∙ ap (λ o. and_then o (switch_last (stmts k) a)) (groups_read gs hg k k (t.Colon ∷ body_tokens (map stmt_tokens ss) (t.Break ∷ t.Semicolon ∷ t.End ∷ r)) (omega arith) (omega arith))
      ∙ then_body ss h k (t.Break ∷ t.Semicolon ∷ t.End ∷ r) _ (omega arith);
}

pub loop_read : (ss : List CStmt) (h : AllRead ss) → StmtRead (roll-CStmt (CStmt-F.Loop ss)) (stmt_at (CStmt-F.Loop (map stmt_tokens ss)))
loop_read ss h = record {
  size = size_of ss h;
  begins = λ r. refl;
  reads = λ k r l s. then_body ss h k r _ l;
}

pub while_read : (u : CCond) (ss : List CStmt) (h : AllRead ss) → StmtRead (roll-CStmt (CStmt-F.While u ss)) (stmt_at (CStmt-F.While u (map stmt_tokens ss)))
while_read u ss h = record {
  size = cond_depth u + size_of ss h;
  begins = λ r. refl;
  reads = λ k r l s. while_cond k (stmts k) _ ((cond_read u).starts (t.Close ∷ body_tokens (map stmt_tokens ss) r))
      ∙ then_cond u (cond_tokens u) (cond_depth u) (cond_read u) k (t.Close ∷ body_tokens (map stmt_tokens ss) r) (while_body (stmts k)) (omega arith) ∙ then_body ss h k r _ (omega arith);
}

pub do_read : (ss : List CStmt) (u : CCond) (h : AllRead ss) → StmtRead (roll-CStmt (CStmt-F.DoWhile ss u)) (stmt_at (CStmt-F.DoWhile (map stmt_tokens ss) u))
do_read ss u h = record {
  size = cond_depth u + size_of ss h;
  begins = λ r. refl;
  reads = λ k r l s. then_body ss h k (t.While ∷ t.Open ∷ cond_tokens u (t.Close ∷ t.Semicolon ∷ r)) (do_test k) (omega arith)
      ∙ then_cond u (cond_tokens u) (cond_depth u) (cond_read u) k (t.Close ∷ t.Semicolon ∷ r) _ (omega arith);
}

pub break_read : StmtRead (roll-CStmt CStmt-F.Break) (stmt_at CStmt-F.Break)
break_read = record { size = 0; begins = λ r. refl; reads = λ k r l s. refl }

pub return_read : StmtRead (roll-CStmt CStmt-F.Return) (stmt_at CStmt-F.Return)
return_read = record { size = 0; begins = λ r. refl; reads = λ k r l s. refl }
