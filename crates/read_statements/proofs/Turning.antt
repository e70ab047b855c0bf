-- Each token at a place in a Body is read exactly.
use Rattle.std.proofs.Common.{◌≡◌, ◌⊎◌, inl, inr, ℕ, ◌^◌, ◌<◌, ◌≤◌, Bool, true, false, not, nat_le, List, [], ◌∷◌, ◌++◌, length, Option, Some, None, if◌then◌else◌, refl, sym, ap, ◌∙◌, subst}
use Rattle.std.proofs.lemmas.List.{append_assoc}
use borrow.Author.Tests.{lt-ltb, ltb-true, leb-true, le-leb}
use Rattle.dream_words.specs.declared.machine.Name.{Name}
use Rattle.dream_words.specs.declared.machine.Width.{Width}
use Rattle.run_parts.specs.Parts.{has}
use Rattle.c_syntax.specs.declared.syntax.CExpr.{CExpr}
use Rattle.c_syntax.specs.declared.syntax.CCond.{CCond}
use Rattle.c_syntax.specs.declared.syntax.CStmt.{CStmt, CStmt-F, roll-CStmt}
use Rattle.c_syntax.specs.declared.syntax.CArm.{CArm}
use Rattle.c_syntax.specs.declared.token.Token.{Token}
use Rattle.c_syntax.specs.declared.token.Token.TheVariants as tok
use Rattle.c_syntax.specs.Formed.{is_target, are_distinct, has_any}
use Rattle.c_lex.specs.Lexemes.{IsToken}
use Rattle.read_words.specs.declared.open.Locals.{Locals}
use Rattle.read_words.specs.declared.open.Item.{Item}
use Rattle.read_words.specs.declared.open.Item.TheVariants as item
use Rattle.read_words.specs.Turns.{scope}
use Rattle.read_words.specs.Rests as words
use Rattle.read_words.specs.Rests.{Follows, FitsWord, FitsCond}
use Rattle.read_words.proofs.Beginning as words_begin
use Rattle.read_words.proofs.Beginning.{head_of, tail_of}
use Rattle.read_statements.specs.declared.open.Mark.{Mark}
use Rattle.read_statements.specs.declared.open.Mark.TheVariants as mark
use Rattle.read_statements.specs.declared.open.Use.{Use}
use Rattle.read_statements.specs.declared.open.Use.TheVariants as use'
use Rattle.read_statements.specs.declared.open.Switching.{Switching}
use Rattle.read_statements.specs.declared.open.Nest.TheVariants as nest
use Rattle.read_statements.specs.declared.open.Point.{Point}
use Rattle.read_statements.specs.declared.open.Point.TheVariants as point
use Rattle.read_statements.specs.declared.open.Turn.{Turn}
use Rattle.read_statements.specs.declared.open.Turn.TheVariants as turn'
use Rattle.read_statements.specs.Turns.{is_mark, expect, at_stmt, at_load, trap_number, at_one, at_else, after_else, has_room, at_group, case_number, after_case, with_value, turn, after_word, after_cond, after_part, wanted_for}
use Rattle.read_statements.specs.Rests.{Then, BodyRest, FitsStmt, StmtsThen, Next, ElseThen, AfterElse, GroupsThen, ValuesThen, CaseThen, NestThen, UseRest, UseThen, SourceThen, TrapThen, WhileThen, PointRest}
use Rattle.read_statements.specs.Reads.{SwitchFits, DefaultFits, UseFits, NestFits, PointFits, SomeFit}
use Rattle.read_statements.proofs.Parts.{fits}
use Rattle.read_statements.proofs.Different.{not_false, not_true, distinct_push, words_push, has_room_for}
use Rattle.read_statements.proofs.Opening.{OneStmt, stmts_open, stmts_end, stmts_more, else_open, else_more, values_open, values_begin, values_more, groups_open, groups_default, groups_more}
use Rattle.read_statements.proofs.Beginning.{Starts, one_starts, starts_one}

-- the token that a mark is
abbrev pub mark_token : Mark → Token
mark_token mark.Open = tok.Open
mark_token mark.Close = tok.Close
mark_token mark.Begin = tok.Begin
mark_token mark.End = tok.End
mark_token mark.Semicolon = tok.Semicolon
mark_token mark.Colon = tok.Colon
mark_token mark.Comma = tok.Comma
mark_token mark.Assign = tok.Assign
mark_token mark.While = tok.While
mark_token mark.Break = tok.Break
mark_token mark.Void = tok.Void
mark_token mark.Zero = tok.Zero

pub mark_same : (m : Mark) → is_mark m (mark_token m) ≡ true
mark_same mark.Open = refl
mark_same mark.Close = refl
mark_same mark.Begin = refl
mark_same mark.End = refl
mark_same mark.Semicolon = refl
mark_same mark.Colon = refl
mark_same mark.Comma = refl
mark_same mark.Assign = refl
mark_same mark.While = refl
mark_same mark.Break = refl
mark_same mark.Void = refl
mark_same mark.Zero = refl

no_truth : {A : Type 0} → false ≡ true → A
no_truth h = absurd (let z : ⊥ = cc in z)

pub mark_is : (m : Mark) (x : Token) → is_mark m x ≡ true → x ≡ mark_token m
mark_is mark.Open tok.Open h = refl
mark_is mark.Open _ h = no_truth h
mark_is mark.Close tok.Close h = refl
mark_is mark.Close _ h = no_truth h
mark_is mark.Begin tok.Begin h = refl
mark_is mark.Begin _ h = no_truth h
mark_is mark.End tok.End h = refl
mark_is mark.End _ h = no_truth h
mark_is mark.Semicolon tok.Semicolon h = refl
mark_is mark.Semicolon _ h = no_truth h
mark_is mark.Colon tok.Colon h = refl
mark_is mark.Colon _ h = no_truth h
mark_is mark.Comma tok.Comma h = refl
mark_is mark.Comma _ h = no_truth h
mark_is mark.Assign tok.Assign h = refl
mark_is mark.Assign _ h = no_truth h
mark_is mark.While tok.While h = refl
mark_is mark.While _ h = no_truth h
mark_is mark.Break tok.Break h = refl
mark_is mark.Break _ h = no_truth h
mark_is mark.Void tok.Void h = refl
mark_is mark.Void _ h = no_truth h
mark_is mark.Zero tok.Zero h = refl
mark_is mark.Zero _ h = no_truth h

-- what a place wants of the token, where it may go on in two ways
abbrev pub IsSettled : Point → Token → Type 0
IsSettled (point.Assigned n) (tok.Ld w) = Unit {0}
IsSettled (point.Assigned n) _ = ⊥
IsSettled point.WhileTest tok.One = Unit {0}
IsSettled point.WhileTest _ = ⊥
IsSettled (point.AfterArm arms) tok.Else = Unit {0}
IsSettled (point.AfterArm arms) _ = ⊥
IsSettled _ _ = Unit {0}

-- equal tokens have equal parts
ld_of : {v w : Width} → tok.Ld v ≡ tok.Ld w → v ≡ w
ld_of h = cc

num_of : {v w : ℕ} → tok.Num v ≡ tok.Num w → v ≡ w
num_of h = cc

-- one value more is some
pub any_push : (vs : List ℕ) (v : ℕ) → has_any (vs ++ v ∷ []) ≡ true
any_push [] v = refl
any_push (w ∷ vs) v = refl

-- a token that follows
pub tail_in : {x : Token} {ts : List Token} (P : Then) → Follows x P (x ∷ ts) → P ts
tail_in P h = subst P (sym (tail_of h.1)) h.2

module _ (l : Locals) (b : Bool) (d : ℕ) (k : BodyRest) (ss : List CStmt) where
  -- the tokens after a turn
  abbrev pub TurnRest : Turn → Then
  TurnRest (turn'.To p) = PointRest l b d k ss p
  TurnRest (turn'.Part u) = UseThen l b d (Next l b d k ss) u
  TurnRest (turn'.Done s) = Next l b d k ss s
  TurnRest (turn'.Opens n) = NestThen l b d (Next l b d k ss) n
  TurnRest turn'.Ends = k ss

  -- what a turn makes fits
  abbrev pub TurnFits : Turn → Type 0
  TurnFits (turn'.To p) = PointFits l b d p
  TurnFits (turn'.Part u) = UseFits l b d u
  TurnFits (turn'.Done s) = FitsStmt l b d s
  TurnFits (turn'.Opens n) = NestFits l b d n
  TurnFits turn'.Ends = Unit {0}

  -- a token was read, or is refused
  abbrev pub IsTurn : Option Turn → List Token → Type 0 → Type 0
  IsTurn None ts before = before → ⊥
  IsTurn (Some t) ts before = TurnFits t × ((before → TurnRest t ts) × (TurnRest t ts → before))

  turn_if : (q : Bool) (t : Turn) (ts : List Token) (before : Type 0) → (q ≡ true → IsTurn (Some t) ts before) → (before → q ≡ true) → IsTurn (if q then Some t else None) ts before
  turn_if true t ts before f g = f refl
  turn_if false t ts before f g = λ h. no_truth (g h)

  expect_is : (m : Mark) (t : Turn) (x : Token) (ts : List Token) → TurnFits t → IsTurn (expect m t x) ts (Follows (mark_token m) (TurnRest t) (x ∷ ts))
  expect_is m t x ts f = turn_if (is_mark m x) t ts (Follows (mark_token m) (TurnRest t) (x ∷ ts))
      (λ e. (f, ((λ h. subst (TurnRest t) (sym (tail_of h.1)) h.2), (λ z. (ts, ap (λ q. q ∷ ts) (mark_is m x e), z)))))
      (λ h. ap (is_mark m) (head_of h.1) ∙ mark_same m)

  -- where no Word or Cond begins so
  no_word : (u : Use) (x : Token) (ts : List Token) → words_begin.Starts l (wanted_for u) 256 (UseRest l b d (Next l b d k ss) u) x ts ≡ ⊥ → UseThen l b d (Next l b d k ss) u (x ∷ ts) → ⊥
  no_word u x ts e h = subst (λ q. q) e (words_begin.wants_start l (wanted_for u) 256 (UseRest l b d (Next l b d k ss) u) x ts h)

  -- what begins a statement is none of what ends the Body
  pub only_one : (x : Token) (ts : List Token) → (x ≡ tok.End → ⊥) → StmtsThen l b d k ss (x ∷ ts) → Starts l b d (Next l b d k ss) x ts
  only_one x ts n h = one (stmts_open l b d k ss (x ∷ ts) h)
    where
      one : Follows tok.End (k ss) (x ∷ ts) ⊎ OneStmt l b d (Next l b d k ss) (x ∷ ts) → Starts l b d (Next l b d k ss) x ts
      one (inl q) = absurd (n (head_of q.1))
      one (inr q) = one_starts l b d (Next l b d k ss) x ts q

  only_end : (ts : List Token) → StmtsThen l b d k ss (tok.End ∷ ts) → k ss ts
  only_end ts h = one (stmts_open l b d k ss (tok.End ∷ ts) h)
    where
      one : Follows tok.End (k ss) (tok.End ∷ ts) ⊎ OneStmt l b d (Next l b d k ss) (tok.End ∷ ts) → k ss ts
      one (inl q) = tail_in (k ss) q
      one (inr q) = absurd (one_starts l b d (Next l b d k ss) tok.End ts q)

  one_more : (x : Token) (ts : List Token) → Starts l b d (Next l b d k ss) x ts → StmtsThen l b d k ss (x ∷ ts)
  one_more x ts h = stmts_more l b d k ss (x ∷ ts) (starts_one l b d (Next l b d k ss) x ts h)

  -- a statement that needs a Body
  deep_is : (x : Token) (t : Turn) (ts : List Token) (P : Type 0) → (x ≡ tok.End → ⊥) → (Starts l b d (Next l b d k ss) x ts → (1 ≤ d) × P) → ((1 ≤ d) × P → Starts l b d (Next l b d k ss) x ts)
      → (1 ≤ d → TurnFits t) → (P → TurnRest t ts) → (TurnRest t ts → P) → IsTurn (if nat_le 1 d then Some t else None) ts (StmtsThen l b d k ss (x ∷ ts))
  deep_is x t ts P n to from f there back = turn_if (nat_le 1 d) t ts (StmtsThen l b d k ss (x ∷ ts))
      (λ q. (f (leb-true 1 d q), ((λ h. there (to (only_one x ts n h)).1), (λ z. one_more x ts (from (leb-true 1 d q, back z))))))
      (λ h. le-leb 1 d (to (only_one x ts n h)).0)

  -- the token at a statement's place
  stmt_is : (x : Token) (ts : List Token) → IsTurn (at_stmt l b d x) ts (StmtsThen l b d k ss (x ∷ ts))
  stmt_is (tok.Name n) ts = turn_if (is_target (scope l) n) (turn'.To (point.Named n)) ts (StmtsThen l b d k ss (tok.Name n ∷ ts))
      (λ q. (q, ((λ h. (only_one (tok.Name n) ts (λ e. cc) h).1), (λ z. one_more (tok.Name n) ts (q, z)))))
      (λ h. (only_one (tok.Name n) ts (λ e. cc) h).0)
  stmt_is (tok.St w) ts = (tt, ((λ h. only_one (tok.St w) ts (λ e. cc) h), (λ z. one_more (tok.St w) ts z)))
  stmt_is tok.Ext ts = (tt, ((λ h. only_one tok.Ext ts (λ e. cc) h), (λ z. one_more tok.Ext ts z)))
  stmt_is tok.Trap ts = (tt, ((λ h. only_one tok.Trap ts (λ e. cc) h), (λ z. one_more tok.Trap ts z)))
  stmt_is tok.If ts = deep_is tok.If (turn'.To (point.Called (use'.If []))) ts (Follows tok.Open (UseThen l b d (Next l b d k ss) (use'.If [])) ts) (λ e. cc) (λ h. h) (λ h. h) (λ p. (p, tt)) (λ h. h) (λ h. h)
  stmt_is tok.Switch ts = deep_is tok.Switch (turn'.To (point.Called use'.Switch)) ts (Follows tok.Open (UseThen l b d (Next l b d k ss) use'.Switch) ts) (λ e. cc) (λ h. h) (λ h. h) (λ p. p) (λ h. h) (λ h. h)
  stmt_is tok.While ts = deep_is tok.While (turn'.To point.WhileOpen) ts (Follows tok.Open (WhileThen l b d (Next l b d k ss)) ts) (λ e. cc) (λ h. h) (λ h. h) (λ p. p) (λ h. h) (λ h. h)
  stmt_is tok.Do ts = deep_is tok.Do (turn'.To (point.Begins nest.Do)) ts (Follows tok.Begin (NestThen l b d (Next l b d k ss) nest.Do) ts) (λ e. cc) (λ h. h) (λ h. h) (λ p. p) (λ h. h) (λ h. h)
  stmt_is tok.Break ts = turn_if b (turn'.To (point.Semicolon (roll-CStmt CStmt-F.Break))) ts (StmtsThen l b d k ss (tok.Break ∷ ts))
      (λ q. (fits l b d CStmt-F.Break q, ((λ h. (only_one tok.Break ts (λ e. cc) h).1), (λ z. one_more tok.Break ts (q, z)))))
      (λ h. (only_one tok.Break ts (λ e. cc) h).0)
  stmt_is tok.Return ts = (fits l b d CStmt-F.Return tt, ((λ h. only_one tok.Return ts (λ e. cc) h), (λ z. one_more tok.Return ts z)))
  stmt_is tok.End ts = (tt, ((λ h. only_end ts h), (λ z. stmts_end l b d k ss (tok.End ∷ ts) (ts, refl, z))))
  stmt_is x ts = λ h. only_one x ts (λ e. cc) h

  -- a load
  load_is : (n : Name) (x : Token) (ts : List Token) → is_target (scope l) n ≡ true → IsSettled (point.Assigned n) x → IsTurn (at_load n x) ts (SourceThen l b d (Next l b d k ss) n (x ∷ ts))
  load_is n (tok.Ld w) ts f i = (f, (there, (λ z. inl (w, (ts, refl, z)))))
    where
      there : SourceThen l b d (Next l b d k ss) n (tok.Ld w ∷ ts) → Follows tok.Open (UseThen l b d (Next l b d k ss) (use'.Load n w)) ts
      there (inl (v, (r, e, z))) =
          subst (λ q. Follows tok.Open (UseThen l b d (Next l b d k ss) (use'.Load n q)) ts) (sym (ld_of (head_of e)))
          (subst (Follows tok.Open (UseThen l b d (Next l b d k ss) (use'.Load n v))) (sym (tail_of e)) z)
      there (inr z) = absurd (no_word (use'.Set n) (tok.Ld w) ts refl z)
  load_is n x ts f i = absurd i

  -- the number of a trap
  number_is : (x : Token) (ts : List Token) → IsToken x → IsTurn (trap_number x) ts (TrapThen l b d (Next l b d k ss) (x ∷ ts))
  number_is (tok.Num v) ts i = (i, (there, (λ z. (v, i, (ts, refl, z)))))
    where
      there : TrapThen l b d (Next l b d k ss) (tok.Num v ∷ ts) → Follows tok.Comma (UseThen l b d (Next l b d k ss) (use'.Trap v)) ts
      there (u, p, (r, e, z)) =
          subst (λ q. Follows tok.Comma (UseThen l b d (Next l b d k ss) (use'.Trap q)) ts) (sym (num_of (head_of e)))
          (subst (Follows tok.Comma (UseThen l b d (Next l b d k ss) (use'.Trap u))) (sym (tail_of e)) z)
  number_is x ts i = λ h. absurd (cc (head_of h.2.1))

  -- `1` after `while (`
  one_is : (x : Token) (ts : List Token) → 1 ≤ d → IsSettled point.WhileTest x → IsTurn (at_one x) ts (WhileThen l b d (Next l b d k ss) (x ∷ ts))
  one_is tok.One ts f i = (f, (there, (λ z. inl (ts, refl, z))))
    where
      there : WhileThen l b d (Next l b d k ss) (tok.One ∷ ts) → Follows tok.Close (Follows tok.Begin (NestThen l b d (Next l b d k ss) nest.Loop)) ts
      there (inl h) = tail_in (Follows tok.Close (Follows tok.Begin (NestThen l b d (Next l b d k ss) nest.Loop))) h
      there (inr z) = absurd (no_word use'.While tok.One ts refl z)
  one_is x ts f i = absurd i

  -- `else`, and what comes after it
  after_else_is : (arms : List CArm) (x : Token) (ts : List Token) → SomeFit l b d arms → IsTurn (after_else arms x) ts (AfterElse l b d (Next l b d k ss) arms (x ∷ ts))
  after_else_is arms tok.If ts f = ((f.0, f.1), (there, (λ z. inl (ts, refl, z))))
    where
      there : AfterElse l b d (Next l b d k ss) arms (tok.If ∷ ts) → Follows tok.Open (UseThen l b d (Next l b d k ss) (use'.If arms)) ts
      there (inl h) = tail_in (Follows tok.Open (UseThen l b d (Next l b d k ss) (use'.If arms))) h
      there (inr h) = absurd (cc (head_of h.1))
  after_else_is arms tok.Begin ts f = (f, (there, (λ z. inr (ts, refl, z))))
    where
      there : AfterElse l b d (Next l b d k ss) arms (tok.Begin ∷ ts) → NestThen l b d (Next l b d k ss) (nest.Else arms) ts
      there (inl h) = absurd (cc (head_of h.1))
      there (inr h) = tail_in (NestThen l b d (Next l b d k ss) (nest.Else arms)) h
  after_else_is arms x ts f = refused
    where
      refused : AfterElse l b d (Next l b d k ss) arms (x ∷ ts) → ⊥
      refused (inl h) = cc (head_of h.1)
      refused (inr h) = cc (head_of h.1)

  -- a switch with no default yet is one of which the default comes
  default_fits : (s : Switching) → SwitchFits l d s [] → DefaultFits l d s.word s.groups
  default_fits s f = record { deep = f.deep; word_fits = f.word_fits; groups_fit = f.groups_fit; distinct = ap are_distinct (sym (append_nil _) ∙ sym f.used) ∙ f.distinct }
    where
      append_nil : (xs : List ℕ) → xs ++ [] ≡ xs
      append_nil [] = refl
      append_nil (x ∷ xs) = ap (λ q. x ∷ q) (append_nil xs)

  -- one value more
  pub value_fits : (s : Switching) (vs : List ℕ) (v : ℕ) → SwitchFits l d s vs → v < 2 ^ 32 → has s.used v ≡ false → SwitchFits l d (with_value s v) (vs ++ v ∷ [])
  value_fits s vs v f p n = record {
    deep = f.deep;
    word_fits = f.word_fits;
    groups_fit = f.groups_fit;
    used = ap (λ q. q ++ v ∷ []) f.used ∙ append_assoc _ vs (v ∷ []);
    distinct = distinct_push s.used v f.distinct n;
    words = words_push s.used v f.words p;
  }

  -- where a case may come, a value is left
  room_for : (s : Switching) (vs ws : List ℕ) (ts : List Token) → SwitchFits l d s vs → CaseThen l d (Next l b d k ss) s ws ts → has_room s ≡ true
  room_for s vs ws ts f (v, p, n, z) = lt-ltb (length s.used) (2 ^ 32) (has_room_for s.used v f.distinct f.words n p)

  -- `case` or `default`
  group_is : (s : Switching) (x : Token) (ts : List Token) → SwitchFits l d s [] → IsTurn (at_group s x) ts (GroupsThen l d (Next l b d k ss) s (x ∷ ts))
  group_is s tok.Case ts f = turn_if (has_room s) (turn'.To (point.CaseNumber s [])) ts (GroupsThen l d (Next l b d k ss) s (tok.Case ∷ ts))
      (λ q. ((f, ltb-true (length s.used) (2 ^ 32) q), (there, (λ z. groups_more l b d (Next l b d k ss) s (tok.Case ∷ ts) f.deep (ts, refl, z)))))
      (λ h. room_for s [] [] ts f (there h))
    where
      there : GroupsThen l d (Next l b d k ss) s (tok.Case ∷ ts) → CaseThen l d (Next l b d k ss) s [] ts
      there h = one (groups_open l b d (Next l b d k ss) s (tok.Case ∷ ts) h)
        where
          one : Follows tok.Default (Follows tok.Colon (Follows tok.Begin (NestThen l b d (Next l b d k ss) (nest.Default s.word s.groups)))) (tok.Case ∷ ts)
              ⊎ Follows tok.Case (CaseThen l d (Next l b d k ss) s []) (tok.Case ∷ ts) → CaseThen l d (Next l b d k ss) s [] ts
          one (inl q) = absurd (cc (head_of q.1))
          one (inr q) = tail_in (CaseThen l d (Next l b d k ss) s []) q
  group_is s tok.Default ts f = (default_fits s f, (there, (λ z. groups_default l b d (Next l b d k ss) s (tok.Default ∷ ts) f.distinct (ts, refl, z))))
    where
      there : GroupsThen l d (Next l b d k ss) s (tok.Default ∷ ts) → Follows tok.Colon (Follows tok.Begin (NestThen l b d (Next l b d k ss) (nest.Default s.word s.groups))) ts
      there h = one (groups_open l b d (Next l b d k ss) s (tok.Default ∷ ts) h)
        where
          one : Follows tok.Default (Follows tok.Colon (Follows tok.Begin (NestThen l b d (Next l b d k ss) (nest.Default s.word s.groups)))) (tok.Default ∷ ts)
              ⊎ Follows tok.Case (CaseThen l d (Next l b d k ss) s []) (tok.Default ∷ ts) → Follows tok.Colon (Follows tok.Begin (NestThen l b d (Next l b d k ss) (nest.Default s.word s.groups))) ts
          one (inl q) = tail_in (Follows tok.Colon (Follows tok.Begin (NestThen l b d (Next l b d k ss) (nest.Default s.word s.groups)))) q
          one (inr q) = absurd (cc (head_of q.1))
  group_is s x ts f = λ h. one (groups_open l b d (Next l b d k ss) s (x ∷ ts) h)
    where
      one : Follows tok.Default (Follows tok.Colon (Follows tok.Begin (NestThen l b d (Next l b d k ss) (nest.Default s.word s.groups)))) (x ∷ ts)
          ⊎ Follows tok.Case (CaseThen l d (Next l b d k ss) s []) (x ∷ ts) → ⊥
      one (inl q) = cc (head_of q.1)
      one (inr q) = cc (head_of q.1)

  -- the number after `case`
  case_is : (s : Switching) (vs : List ℕ) (x : Token) (ts : List Token) → IsToken x → SwitchFits l d s vs → IsTurn (case_number s vs x) ts (CaseThen l d (Next l b d k ss) s vs (x ∷ ts))
  case_is s vs (tok.Num v) ts i f = turn_if (not (has s.used v)) (turn'.To (point.CaseColon (with_value s v) (vs ++ v ∷ []))) ts (CaseThen l d (Next l b d k ss) s vs (tok.Num v ∷ ts))
      (λ q. ((value_fits s vs v f i (not_false (has s.used v) q), any_push vs v), ((λ h. (there h).1), (λ z. (v, i, not_false (has s.used v) q, (ts, refl, z))))))
      (λ h. not_true (has s.used v) (there h).0)
    where
      there : CaseThen l d (Next l b d k ss) s vs (tok.Num v ∷ ts) → (has s.used v ≡ false) × Follows tok.Colon (ValuesThen l d (Next l b d k ss) (with_value s v) (vs ++ v ∷ [])) ts
      there (u, p, n, (r, e, z)) =
          subst (λ q. (has s.used q ≡ false) × Follows tok.Colon (ValuesThen l d (Next l b d k ss) (with_value s q) (vs ++ q ∷ [])) ts) (sym (num_of (head_of e)))
          (n, subst (Follows tok.Colon (ValuesThen l d (Next l b d k ss) (with_value s u) (vs ++ u ∷ []))) (sym (tail_of e)) z)
  case_is s vs x ts i f = λ h. absurd (cc (head_of h.3.1))

  -- `case` or `{` after a value
  after_case_is : (s : Switching) (vs : List ℕ) (x : Token) (ts : List Token) → SwitchFits l d s vs → has_any vs ≡ true → IsTurn (after_case s vs x) ts (ValuesThen l d (Next l b d k ss) s vs (x ∷ ts))
  after_case_is s vs tok.Case ts f a = turn_if (has_room s) (turn'.To (point.CaseNumber s vs)) ts (ValuesThen l d (Next l b d k ss) s vs (tok.Case ∷ ts))
      (λ q. ((f, ltb-true (length s.used) (2 ^ 32) q), (there, (λ z. values_more l b d (Next l b d k ss) s vs (tok.Case ∷ ts) (ts, refl, z)))))
      (λ h. room_for s vs vs ts f (there h))
    where
      there : ValuesThen l d (Next l b d k ss) s vs (tok.Case ∷ ts) → CaseThen l d (Next l b d k ss) s vs ts
      there h = one (values_open l b d (Next l b d k ss) s vs (tok.Case ∷ ts) h)
        where
          one : Follows tok.Begin (NestThen l b d (Next l b d k ss) (nest.Group s vs)) (tok.Case ∷ ts) ⊎ Follows tok.Case (CaseThen l d (Next l b d k ss) s vs) (tok.Case ∷ ts)
              → CaseThen l d (Next l b d k ss) s vs ts
          one (inl q) = absurd (cc (head_of q.1))
          one (inr q) = tail_in (CaseThen l d (Next l b d k ss) s vs) q
  after_case_is s vs tok.Begin ts f a = ((f, a), (there, (λ z. values_begin l b d (Next l b d k ss) s vs (tok.Begin ∷ ts) f.distinct (ts, refl, z))))
    where
      there : ValuesThen l d (Next l b d k ss) s vs (tok.Begin ∷ ts) → NestThen l b d (Next l b d k ss) (nest.Group s vs) ts
      there h = one (values_open l b d (Next l b d k ss) s vs (tok.Begin ∷ ts) h)
        where
          one : Follows tok.Begin (NestThen l b d (Next l b d k ss) (nest.Group s vs)) (tok.Begin ∷ ts) ⊎ Follows tok.Case (CaseThen l d (Next l b d k ss) s vs) (tok.Begin ∷ ts)
              → NestThen l b d (Next l b d k ss) (nest.Group s vs) ts
          one (inl q) = tail_in (NestThen l b d (Next l b d k ss) (nest.Group s vs)) q
          one (inr q) = absurd (cc (head_of q.1))
  after_case_is s vs x ts f a = λ h. one (values_open l b d (Next l b d k ss) s vs (x ∷ ts) h)
    where
      one : Follows tok.Begin (NestThen l b d (Next l b d k ss) (nest.Group s vs)) (x ∷ ts) ⊎ Follows tok.Case (CaseThen l d (Next l b d k ss) s vs) (x ∷ ts) → ⊥
      one (inl q) = cc (head_of q.1)
      one (inr q) = cc (head_of q.1)

  -- the token after a Word or Cond that is whole
  word_is : (u : Use) (a : CExpr) (x : Token) (ts : List Token) → UseFits l b d u → FitsWord l 256 a → IsTurn (after_word u a x) ts (UseRest l b d (Next l b d k ss) u (item.Word a) (x ∷ ts))
  word_is (use'.Set n) a x ts f g = expect_is mark.Semicolon (turn'.Done (roll-CStmt (CStmt-F.Set n a))) x ts (fits l b d (CStmt-F.Set n a) (f, g))
  word_is (use'.Load n w) a x ts f g = expect_is mark.Close (turn'.To (point.Semicolon (roll-CStmt (CStmt-F.Load n w a)))) x ts (fits l b d (CStmt-F.Load n w a) (f, g))
  word_is (use'.Address w) a x ts f g = expect_is mark.Comma (turn'.Part (use'.Value w a)) x ts g
  word_is (use'.Value w a) v x ts f g = expect_is mark.Close (turn'.To (point.Semicolon (roll-CStmt (CStmt-F.Store w a v)))) x ts (fits l b d (CStmt-F.Store w a v) (f, g))
  word_is use'.Ext a x ts f g = expect_is mark.Close (turn'.To (point.Semicolon (roll-CStmt (CStmt-F.Ext a)))) x ts (fits l b d (CStmt-F.Ext a) g)
  word_is (use'.Trap v) a x ts f g = expect_is mark.Close (turn'.To (point.Semicolon (roll-CStmt (CStmt-F.Trap v a)))) x ts (fits l b d (CStmt-F.Trap v a) (f, g))
  word_is use'.Switch a x ts f g = expect_is mark.Close (turn'.To (point.SwitchBegin a)) x ts (f, g)
  word_is (use'.If arms) a x ts f g = λ h. h
  word_is use'.While a x ts f g = λ h. h
  word_is (use'.Do body) a x ts f g = λ h. h

  cond_is : (u : Use) (c : CCond) (x : Token) (ts : List Token) → UseFits l b d u → FitsCond l 256 c → IsTurn (after_cond u c x) ts (UseRest l b d (Next l b d k ss) u (item.Cond c) (x ∷ ts))
  cond_is (use'.Set n) c x ts f g = λ h. h
  cond_is (use'.Load n w) c x ts f g = λ h. h
  cond_is (use'.Address w) c x ts f g = λ h. h
  cond_is (use'.Value w a) c x ts f g = λ h. h
  cond_is use'.Ext c x ts f g = λ h. h
  cond_is (use'.Trap v) c x ts f g = λ h. h
  cond_is use'.Switch c x ts f g = λ h. h
  cond_is (use'.If arms) c x ts f g = expect_is mark.Close (turn'.To (point.Begins (nest.Arm arms c))) x ts (f, g)
  cond_is use'.While c x ts f g = expect_is mark.Close (turn'.To (point.Begins (nest.While c))) x ts (f, g)
  cond_is (use'.Do body) c x ts f g = expect_is mark.Close (turn'.To (point.Semicolon (roll-CStmt (CStmt-F.DoWhile body c)))) x ts (fits l b d (CStmt-F.DoWhile body c) (f.0, f.1, g))

  pub after_part_is : (u : Use) (i : Item) (x : Token) (ts : List Token) → UseFits l b d u → words.Fits l (wanted_for u) 256 i → IsTurn (after_part u i x) ts (UseRest l b d (Next l b d k ss) u i (x ∷ ts))
  after_part_is u (item.Word a) x ts f g = word_is u a x ts f g.1
  after_part_is u (item.Cond c) x ts f g = cond_is u c x ts f g.1

-- `else` after an arm
else_is : (l : Locals) (b : Bool) (d : ℕ) (k : BodyRest) (ss : List CStmt) (arms : List CArm) (x : Token) (ts : List Token) → SomeFit l b d arms → IsSettled (point.AfterArm arms) x
    → IsTurn l b d k ss (at_else arms x) ts (ElseThen l b d (Next l b d k ss) arms (x ∷ ts))
else_is l b d k ss arms tok.Else ts f i = (f, (there, (λ z. else_more l b d (Next l b d k ss) arms (tok.Else ∷ ts) f.0 (ts, refl, z))))
  where
    there : ElseThen l b d (Next l b d k ss) arms (tok.Else ∷ ts) → AfterElse l b d (Next l b d k ss) arms ts
    there h = one (else_open l b d (Next l b d k ss) arms (tok.Else ∷ ts) h)
      where
        one : Next l b d k ss (roll-CStmt (CStmt-F.If arms None)) (tok.Else ∷ ts) ⊎ Follows tok.Else (AfterElse l b d (Next l b d k ss) arms) (tok.Else ∷ ts) → AfterElse l b d (Next l b d k ss) arms ts
        one (inl q) = absurd (only_one l b d k (ss ++ roll-CStmt (CStmt-F.If arms None) ∷ []) tok.Else ts (λ e. cc) q)
        one (inr q) = tail_in (AfterElse l b d (Next l b d k ss) arms) q
else_is l b d k ss arms x ts f i = absurd i

module _ (l : Locals) (b : Bool) (d : ℕ) (k : BodyRest) (ss : List CStmt) where
  -- the token at a place
  pub turn_is : (p : Point) (x : Token) (ts : List Token) → IsToken x → PointFits l b d p → IsSettled p x → IsTurn l b d k ss (turn l b d p x) ts (PointRest l b d k ss p (x ∷ ts))
  turn_is point.Stmt x ts i f g = stmt_is l b d k ss x ts
  turn_is (point.Named n) x ts i f g = expect_is l b d k ss mark.Assign (turn'.To (point.Assigned n)) x ts f
  turn_is (point.Assigned n) x ts i f g = load_is l b d k ss n x ts f g
  turn_is (point.Called u) x ts i f g = expect_is l b d k ss mark.Open (turn'.Part u) x ts f
  turn_is point.TrapOpen x ts i f g = expect_is l b d k ss mark.Open (turn'.To point.TrapNumber) x ts tt
  turn_is point.TrapNumber x ts i f g = number_is l b d k ss x ts i
  turn_is (point.TrapComma v) x ts i f g = expect_is l b d k ss mark.Comma (turn'.Part (use'.Trap v)) x ts f
  turn_is point.WhileOpen x ts i f g = expect_is l b d k ss mark.Open (turn'.To point.WhileTest) x ts f
  turn_is point.WhileTest x ts i f g = one_is l b d k ss x ts f g
  turn_is point.LoopClose x ts i f g = expect_is l b d k ss mark.Close (turn'.To (point.Begins nest.Loop)) x ts f
  turn_is (point.Begins n) x ts i f g = expect_is l b d k ss mark.Begin (turn'.Opens n) x ts f
  turn_is (point.AfterArm arms) x ts i f g = else_is l b d k ss arms x ts f g
  turn_is (point.AfterElse arms) x ts i f g = after_else_is l b d k ss arms x ts f
  turn_is (point.AfterDo body) x ts i f g = expect_is l b d k ss mark.While (turn'.To (point.Called (use'.Do body))) x ts f
  turn_is (point.SwitchBegin e) x ts i f g = expect_is l b d k ss mark.Begin (turn'.To (point.Group (record { word = e; groups = []; used = [] }))) x ts
      (record { deep = f.0; word_fits = f.1; groups_fit = tt; used = refl; distinct = refl; words = refl })
  turn_is (point.Group s) x ts i f g = group_is l b d k ss s x ts f
  turn_is (point.CaseNumber s vs) x ts i f g = case_is l b d k ss s vs x ts i f.0
  turn_is (point.CaseColon s vs) x ts i f g = expect_is l b d k ss mark.Colon (turn'.To (point.AfterCase s vs)) x ts f
  turn_is (point.AfterCase s vs) x ts i f g = after_case_is l b d k ss s vs x ts f.0 f.1
  turn_is (point.GroupBreak s) x ts i f g = expect_is l b d k ss mark.Break (turn'.To (point.GroupSemicolon s)) x ts f
  turn_is (point.GroupSemicolon s) x ts i f g = expect_is l b d k ss mark.Semicolon (turn'.To (point.Group s)) x ts f
  turn_is (point.DefaultColon e groups) x ts i f g = expect_is l b d k ss mark.Colon (turn'.To (point.Begins (nest.Default e groups))) x ts f
  turn_is (point.SwitchBreak s) x ts i f g = expect_is l b d k ss mark.Break (turn'.To (point.SwitchSemicolon s)) x ts f
  turn_is (point.SwitchSemicolon s) x ts i f g = expect_is l b d k ss mark.Semicolon (turn'.To (point.SwitchEnd s)) x ts f
  turn_is (point.SwitchEnd s) x ts i f g = expect_is l b d k ss mark.End (turn'.Done s) x ts f
  turn_is (point.Semicolon s) x ts i f g = expect_is l b d k ss mark.Semicolon (turn'.Done s) x ts f
