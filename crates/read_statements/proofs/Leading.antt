-- What was read can be completed.
use Rattle.std.proofs.Common.{◌≡◌, inl, inr, ℕ, ◌-◌, ◌^◌, ◌<◌, ◌≤◌, Bool, true, false, nat_lt, nat_eq, List, [], ◌∷◌, ◌++◌, length, Some, None, refl, sym, ap, ◌∙◌, subst, arith}
use Rattle.std.proofs.lemmas.List.{append-nil}
use Rattle.std.proofs.lemmas.Bool.{eq-eqb}
use borrow.Author.Tests.{lt-ltb}
use Rattle.dream_words.specs.declared.machine.Name.{Name}
use Rattle.dream_words.specs.declared.machine.Name.TheVariants as name
use Rattle.run_parts.specs.Parts.{has}
use Rattle.c_syntax.specs.declared.syntax.CExpr.{CExpr}
use Rattle.c_syntax.specs.declared.syntax.CStmt.{CStmt, CStmt-F, roll-CStmt}
use Rattle.c_syntax.specs.declared.syntax.CArm.{CArm, CArm-F, roll-CArm}
use Rattle.c_syntax.specs.declared.syntax.CGroup.{CGroup}
use Rattle.c_syntax.specs.declared.syntax.CFun.{CFun}
use Rattle.c_syntax.specs.declared.token.Token.{Token}
use Rattle.c_syntax.specs.declared.token.Token.TheVariants as tok
use Rattle.c_syntax.specs.Formed.{are_distinct, has_any, is_target, IsWellFormed}
use Rattle.read_words.specs.declared.open.Locals.{Locals}
use Rattle.read_words.specs.declared.open.Item.{Item}
use Rattle.read_words.specs.declared.open.Item.TheVariants as item
use Rattle.read_words.specs.declared.open.Wanted.TheVariants as want
use Rattle.read_words.specs.declared.open.State.TheVariants as state
use Rattle.read_words.specs.Turns as words_turns
use Rattle.read_words.specs.Turns.{Reading, scope}
use Rattle.read_words.specs.Rests as words
use Rattle.read_words.specs.Rests.{Follows}
use Rattle.read_words.specs.Reads as words_reads
use Rattle.read_words.proofs.Fitting.{two_true}
use Rattle.read_statements.specs.declared.open.Head.{Head}
use Rattle.read_statements.specs.declared.open.Head.TheVariants as head
use Rattle.read_statements.specs.declared.open.Decl.{Decl}
use Rattle.read_statements.specs.declared.open.Decl.TheVariants as decl
use Rattle.read_statements.specs.declared.open.Use.{Use}
use Rattle.read_statements.specs.declared.open.Use.TheVariants as use'
use Rattle.read_statements.specs.declared.open.Switching.{Switching}
use Rattle.read_statements.specs.declared.open.Nest.{Nest}
use Rattle.read_statements.specs.declared.open.Nest.TheVariants as nest
use Rattle.read_statements.specs.declared.open.Open.{Open}
use Rattle.read_statements.specs.declared.open.Point.{Point}
use Rattle.read_statements.specs.declared.open.Point.TheVariants as point
use Rattle.read_statements.specs.Turns.{wanted_for, Place, At, Inside, Body, breaks_in, breakable, depth_left, placed, shut, with_value, with_group, State, Begun, Declaring, Within, Whole, fun_of, no_locals, may_declare, with_local}
use Rattle.read_statements.specs.Rests.{Then, StmtRest, BodyRest, FitsStmt, FitsStmts, values_of, Ending, TrapThen, Next, ElseThen, AfterElse, GroupsThen, ValuesThen, CaseThen, NestRest, NestThen, UseRest, UseThen, SourceThen, WhileThen, PlaceRest, Rests, BodyGoesOn, Ends, DeclsThen, AddressThen, GoesOn}
use Rattle.read_statements.specs.Reads.{DoFits, SwitchFits, UseFits, NestFits, PointFits, PlaceFits, SomeFit, OpenFit, BodyFits, Bounds, HeadFits, HasLocal, CanGoOn}
use Rattle.read_statements.proofs.Parts.{fits, arm_fits, arms_push}
use Rattle.read_statements.proofs.Different.{free_word}
use Rattle.read_statements.proofs.Opening.{stmts_end, else_none, values_begin}
use Rattle.read_statements.proofs.Steps.{part_read, nest_out, switch_fits, any_arm, shut_is}
use Rattle.read_statements.proofs.States.{well_formed, local_bounds}
use Rattle.read_words.proofs.Ends as words_ends
use Rattle.read_statements.proofs.Turning.{any_push, value_fits}

module _ (l : Locals) (b : Bool) (d : ℕ) where
  -- A statement that fits, to which tokens lead, whatever may follow it.
  abbrev pub Lead : (StmtRest → Then) → Type 1
  Lead P = (s : CStmt) × FitsStmt l b d s × ((k : StmtRest) (ts : List Token) → k s ts → (us : List Token) × P k us)

  -- one token more before it
  follow_lead : (x : Token) (P : StmtRest → Then) → Lead P → Lead (λ k. Follows x (P k))
  follow_lead x P m = (m.0, m.1, (λ k ts z. let y : (us : List Token) × P k us = m.2 k ts z in (x ∷ y.0, (y.0, refl, y.1))))

  -- a statement that is whole
  whole_lead : (s : CStmt) → FitsStmt l b d s → Lead (λ k. k s)
  whole_lead s f = (s, f, (λ k ts z. (ts, z)))

  semicolon_lead : (s : CStmt) → FitsStmt l b d s → Lead (λ k. Follows tok.Semicolon (k s))
  semicolon_lead s f = follow_lead tok.Semicolon (λ k. k s) (whole_lead s f)

  close_lead : (s : CStmt) → FitsStmt l b d s → Lead (λ k. Ending tok.Close k s)
  close_lead s f = follow_lead tok.Close (λ k. Follows tok.Semicolon (k s)) (semicolon_lead s f)

  -- a Word or Cond that is being read, where it can be gone on from when it is whole
  part_lead : (u : Use) (r : Reading) → words_reads.IsRead l (wanted_for u) r → ((i : Item) → words.Fits l (wanted_for u) 256 i → Lead (λ k. UseRest l b d k u i))
      → Lead (λ k. words.GoesOn l (UseRest l b d k u) r.state r.open')
  part_lead u r h lead =
      let g : words_ends.Leads l (wanted_for u) 256 (λ k us. words.GoesOn l k r.state r.open' us) = words_ends.reading_leads l (wanted_for u) r h in
      let m : Lead (λ k. UseRest l b d k u g.0) = lead g.0 g.1 in
      (m.0, m.1, (λ k ts z. let y : (us : List Token) × UseRest l b d k u g.0 us = m.2 k ts z in g.2 (UseRest l b d k u) y.0 y.1))

  begin_lead : (u : Use) → ((i : Item) → words.Fits l (wanted_for u) 256 i → Lead (λ k. UseRest l b d k u i)) → Lead (λ k. UseThen l b d k u)
  begin_lead u lead = part_lead u (record { state = state.Want (wanted_for u); open' = [] }) (part_read l u) lead

  no_cond : {A : Type 1} → words_turns.takes_cond want.Word ≡ true → A
  no_cond h = absurd (cc (h))

  no_word : {A : Type 1} → words_turns.takes_word want.Cond ≡ true → A
  no_word h = absurd (cc (h))

  value_lead : (w : _) (a : CExpr) → words.FitsWord l 256 a → (i : Item) → words.Fits l want.Word 256 i → Lead (λ k. UseRest l b d k (use'.Value w a) i)
  value_lead w a f (item.Word v) g = close_lead (roll-CStmt (CStmt-F.Store w a v)) (fits l b d (CStmt-F.Store w a v) (f, g.1))
  value_lead w a f (item.Cond c) g = no_cond g.0

  do_lead : (body : List CStmt) → DoFits l d body → (i : Item) → words.Fits l want.Cond 256 i → Lead (λ k. UseRest l b d k (use'.Do body) i)
  do_lead body f (item.Cond c) g = close_lead (roll-CStmt (CStmt-F.DoWhile body c)) (fits l b d (CStmt-F.DoWhile body c) (f.0, f.1, g.1))
  do_lead body f (item.Word a) g = no_word g.0

  -- arms, and groups
  else_lead : (arms : List CArm) → SomeFit l b d arms → Lead (λ k. ElseThen l b d k arms)
  else_lead arms f = (roll-CStmt (CStmt-F.If arms None), fits l b d (CStmt-F.If arms None) (f.2, f.0, f.1, tt), (λ k ts z. (ts, else_none l b d k arms ts z)))

  groups_lead : (s : Switching) → SwitchFits l d s [] → Lead (λ k. GroupsThen l d k s)
  groups_lead s f = (
    roll-CStmt (CStmt-F.Switch s.word s.groups []),
    fits l b d (CStmt-F.Switch s.word s.groups []) (f.word_fits, f.deep, f.groups_fit, ap are_distinct (sym (append-nil (values_of l s.groups)) ∙ sym f.used) ∙ f.distinct, tt),
    (λ k ts z. (
      tok.Default ∷ tok.Colon ∷ tok.Begin ∷ tok.End ∷ tok.Break ∷ tok.Semicolon ∷ tok.End ∷ ts,
      (
        [],
        tt,
        ap are_distinct (append-nil s.used) ∙ f.distinct,
        ([], tt, (ts, refl, subst (λ q. k (roll-CStmt (CStmt-F.Switch s.word q [])) ts) (sym (append-nil s.groups)) z)),
      ),
    )),
  )

  -- a Body with no statements
  rest_lead : (n : Nest) → NestFits l b d n → Lead (λ k. NestRest l b d k n [])
  rest_lead (nest.Arm arms c) f =
      let y : CArm-F CStmt CArm CGroup = record { test = c; body = [] } in
      else_lead (arms ++ roll-CArm y ∷ []) (f.0.0, arms_push l b d arms (roll-CArm y) f.0.1 (arm_fits l b d y f.1 f.0.0 tt), any_arm arms (roll-CArm y))
  rest_lead (nest.Else arms) f = whole_lead (roll-CStmt (CStmt-F.If arms (Some []))) (fits l b d (CStmt-F.If arms (Some [])) (f.2, f.0, f.1, tt))
  rest_lead nest.Loop f = whole_lead (roll-CStmt (CStmt-F.Loop [])) (fits l b d (CStmt-F.Loop []) (f, tt))
  rest_lead (nest.While c) f = whole_lead (roll-CStmt (CStmt-F.While c [])) (fits l b d (CStmt-F.While c []) (f.1, f.0, tt))
  rest_lead nest.Do f =
      follow_lead tok.While (λ k. Follows tok.Open (UseThen l b d k (use'.Do []))) (follow_lead tok.Open (λ k. UseThen l b d k (use'.Do [])) (begin_lead (use'.Do []) (do_lead [] (f, tt))))
  rest_lead (nest.Group s vs) f =
      follow_lead tok.Break (λ k. Follows tok.Semicolon (GroupsThen l d k (with_group s vs []))) (follow_lead tok.Semicolon (λ k. GroupsThen l d k (with_group s vs []))
      (groups_lead (with_group s vs []) (switch_fits l d s vs [] f.0 f.1 tt)))
  rest_lead (nest.Default e gs) f =
      let s : CStmt = roll-CStmt (CStmt-F.Switch e gs []) in
      follow_lead tok.Break (λ k. Follows tok.Semicolon (Follows tok.End (k s))) (follow_lead tok.Semicolon (λ k. Follows tok.End (k s))
      (follow_lead tok.End (λ k. k s) (whole_lead s (fits l b d (CStmt-F.Switch e gs []) (f.word_fits, f.deep, f.groups_fit, f.distinct, tt)))))

  nest_lead : (n : Nest) → NestFits l b d n → Lead (λ k. NestThen l b d k n)
  nest_lead n f =
      let m : Lead (λ k. NestRest l b d k n []) = rest_lead n f in
      (m.0, m.1, (λ k ts z. let y : (us : List Token) × NestRest l b d k n [] us = m.2 k ts z in (tok.End ∷ y.0, nest_out l b d k n (tok.End ∷ y.0) ([], tt, (y.0, refl, y.1)))))

  begins_lead : (n : Nest) → NestFits l b d n → Lead (λ k. Follows tok.Begin (NestThen l b d k n))
  begins_lead n f = follow_lead tok.Begin (λ k. NestThen l b d k n) (nest_lead n f)

  -- after a Word or Cond
  use_lead : (u : Use) → UseFits l b d u → (i : Item) → words.Fits l (wanted_for u) 256 i → Lead (λ k. UseRest l b d k u i)
  use_lead (use'.Set n) f (item.Word a) g = semicolon_lead (roll-CStmt (CStmt-F.Set n a)) (fits l b d (CStmt-F.Set n a) (f, g.1))
  use_lead (use'.Load n w) f (item.Word a) g = close_lead (roll-CStmt (CStmt-F.Load n w a)) (fits l b d (CStmt-F.Load n w a) (f, g.1))
  use_lead (use'.Address w) f (item.Word a) g = follow_lead tok.Comma (λ k. UseThen l b d k (use'.Value w a)) (begin_lead (use'.Value w a) (value_lead w a g.1))
  use_lead (use'.Value w v) f i g = value_lead w v f i g
  use_lead use'.Ext f (item.Word a) g = close_lead (roll-CStmt (CStmt-F.Ext a)) (fits l b d (CStmt-F.Ext a) g.1)
  use_lead (use'.Trap v) f (item.Word a) g = close_lead (roll-CStmt (CStmt-F.Trap v a)) (fits l b d (CStmt-F.Trap v a) (f, g.1))
  use_lead use'.Switch f (item.Word a) g =
      let s : Switching = record { word = a; groups = []; used = [] } in
      follow_lead tok.Close (λ k. Follows tok.Begin (GroupsThen l d k s)) (follow_lead tok.Begin (λ k. GroupsThen l d k s)
      (groups_lead s (record { deep = f; word_fits = g.1; groups_fit = tt; used = refl; distinct = refl; words = refl })))
  use_lead (use'.If arms) f (item.Cond c) g = follow_lead tok.Close (λ k. Follows tok.Begin (NestThen l b d k (nest.Arm arms c))) (begins_lead (nest.Arm arms c) (f, g.1))
  use_lead use'.While f (item.Cond c) g = follow_lead tok.Close (λ k. Follows tok.Begin (NestThen l b d k (nest.While c))) (begins_lead (nest.While c) (f, g.1))
  use_lead (use'.Do body) f i g = do_lead body f i g
  use_lead (use'.Set n) f (item.Cond c) g = no_cond g.0
  use_lead (use'.Load n w) f (item.Cond c) g = no_cond g.0
  use_lead (use'.Address w) f (item.Cond c) g = no_cond g.0
  use_lead use'.Ext f (item.Cond c) g = no_cond g.0
  use_lead (use'.Trap v) f (item.Cond c) g = no_cond g.0
  use_lead use'.Switch f (item.Cond c) g = no_cond g.0
  use_lead (use'.If arms) f (item.Word a) g = no_word g.0
  use_lead use'.While f (item.Word a) g = no_word g.0

  then_lead : (u : Use) → UseFits l b d u → Lead (λ k. UseThen l b d k u)
  then_lead u f = begin_lead u (use_lead u f)

  source_lead : (n : Name) → is_target (scope l) n ≡ true → Lead (λ k. SourceThen l b d k n)
  source_lead n f =
      let m : Lead (λ k. UseThen l b d k (use'.Set n)) = then_lead (use'.Set n) f in
      (m.0, m.1, (λ k ts z. let y : (us : List Token) × UseThen l b d k (use'.Set n) us = m.2 k ts z in (y.0, inr y.1)))

  trap_lead : Lead (λ k. TrapThen l b d k)
  trap_lead =
      let m : Lead (λ k. Follows tok.Comma (UseThen l b d k (use'.Trap 0))) = follow_lead tok.Comma (λ k. UseThen l b d k (use'.Trap 0)) (then_lead (use'.Trap 0) (omega arith)) in
      (m.0, m.1, (λ k ts z. let y : (us : List Token) × Follows tok.Comma (UseThen l b d k (use'.Trap 0)) us = m.2 k ts z in (tok.Num 0 ∷ y.0, (0, omega arith, (y.0, refl, y.1)))))

  loop_lead : 1 ≤ d → Lead (λ k. Follows tok.Close (Follows tok.Begin (NestThen l b d k nest.Loop)))
  loop_lead f = follow_lead tok.Close (λ k. Follows tok.Begin (NestThen l b d k nest.Loop)) (begins_lead nest.Loop f)

  while_lead : 1 ≤ d → Lead (λ k. WhileThen l b d k)
  while_lead f =
      let m : Lead (λ k. Follows tok.One (Follows tok.Close (Follows tok.Begin (NestThen l b d k nest.Loop)))) = follow_lead tok.One (λ k. Follows tok.Close (Follows tok.Begin (NestThen l b d k nest.Loop))) (loop_lead f) in
      (m.0, m.1, (λ k ts z. let y : (us : List Token) × Follows tok.One (Follows tok.Close (Follows tok.Begin (NestThen l b d k nest.Loop))) us = m.2 k ts z in (y.0, inl y.1)))

  after_else_lead : (arms : List CArm) → SomeFit l b d arms → Lead (λ k. AfterElse l b d k arms)
  after_else_lead arms f =
      let m : Lead (λ k. Follows tok.Begin (NestThen l b d k (nest.Else arms))) = begins_lead (nest.Else arms) f in
      (m.0, m.1, (λ k ts z. let y : (us : List Token) × Follows tok.Begin (NestThen l b d k (nest.Else arms)) us = m.2 k ts z in (y.0, inr y.1)))

  values_lead : (s : Switching) (vs : List ℕ) → SwitchFits l d s vs → has_any vs ≡ true → Lead (λ k. ValuesThen l d k s vs)
  values_lead s vs f a =
      let m : Lead (λ k. Follows tok.Begin (NestThen l b d k (nest.Group s vs))) = begins_lead (nest.Group s vs) (f, a) in
      (m.0, m.1, (λ k ts z. let y : (us : List Token) × Follows tok.Begin (NestThen l b d k (nest.Group s vs)) us = m.2 k ts z in (y.0, values_begin l b d k s vs y.0 f.distinct y.1)))

  case_lead : (s : Switching) (vs : List ℕ) → SwitchFits l d s vs → length s.used < 2 ^ 32 → Lead (λ k. CaseThen l d k s vs)
  case_lead s vs f p =
      let v : (v : ℕ) × (v < 2 ^ 32) × (has s.used v ≡ false) = free_word s.used p in
      let g : SwitchFits l d (with_value s v.0) (vs ++ v.0 ∷ []) = value_fits l b d (λ q ts. ⊥) [] s vs v.0 f v.1 v.2 in
      let m : Lead (λ k. Follows tok.Colon (ValuesThen l d k (with_value s v.0) (vs ++ v.0 ∷ []))) = follow_lead tok.Colon (λ k. ValuesThen l d k (with_value s v.0) (vs ++ v.0 ∷ [])) (values_lead (with_value s v.0) (vs ++ v.0 ∷ []) g (any_push vs v.0)) in
      (m.0, m.1, (λ k ts z. let y : (us : List Token) × Follows tok.Colon (ValuesThen l d k (with_value s v.0) (vs ++ v.0 ∷ [])) us = m.2 k ts z in (tok.Num v.0 ∷ y.0, (v.0, v.1, v.2, (y.0, refl, y.1)))))

  -- the innermost Body can be completed
  abbrev pub PlaceLead : Place → Type 1
  PlaceLead p = (more : List CStmt) × FitsStmts l b d more × ((k : BodyRest) (ss : List CStmt) (ts : List Token) → k (ss ++ more) ts → (us : List Token) × PlaceRest l b d k ss p us)

  ends : (p : Place) (P : StmtRest → Then) → Lead P → ((k : BodyRest) (ss : List CStmt) (us : List Token) → P (Next l b d k ss) us → PlaceRest l b d k ss p us) → PlaceLead p
  ends p P m to = (
    m.0 ∷ [],
    (m.1, tt),
    (λ k ss ts z.
        let y : (us : List Token) × P (Next l b d k ss) us = m.2 (Next l b d k ss) (tok.End ∷ ts) (stmts_end l b d k (ss ++ m.0 ∷ []) (tok.End ∷ ts) (ts, refl, z)) in
        (y.0, to k ss y.0 y.1)),
  )

  point_lead : (p : Point) → PointFits l b d p → PlaceLead (At p)
  point_lead point.Stmt f = ([], tt, (λ k ss ts z. (tok.End ∷ ts, stmts_end l b d k ss (tok.End ∷ ts) (ts, refl, subst (λ q. k q ts) (append-nil ss) z))))
  point_lead (point.Named n) f = ends (At (point.Named n)) (λ k. Follows tok.Assign (SourceThen l b d k n)) (follow_lead tok.Assign (λ k. SourceThen l b d k n) (source_lead n f)) (λ k ss us z. z)
  point_lead (point.Assigned n) f = ends (At (point.Assigned n)) (λ k. SourceThen l b d k n) (source_lead n f) (λ k ss us z. z)
  point_lead (point.Called u) f = ends (At (point.Called u)) (λ k. Follows tok.Open (UseThen l b d k u)) (follow_lead tok.Open (λ k. UseThen l b d k u) (then_lead u f)) (λ k ss us z. z)
  point_lead point.TrapOpen f = ends (At point.TrapOpen) (λ k. Follows tok.Open (TrapThen l b d k)) (follow_lead tok.Open (λ k. TrapThen l b d k) trap_lead) (λ k ss us z. z)
  point_lead point.TrapNumber f = ends (At point.TrapNumber) (λ k. TrapThen l b d k) trap_lead (λ k ss us z. z)
  point_lead (point.TrapComma v) f =
      ends (At (point.TrapComma v)) (λ k. Follows tok.Comma (UseThen l b d k (use'.Trap v))) (follow_lead tok.Comma (λ k. UseThen l b d k (use'.Trap v)) (then_lead (use'.Trap v) f)) (λ k ss us z. z)
  point_lead point.WhileOpen f = ends (At point.WhileOpen) (λ k. Follows tok.Open (WhileThen l b d k)) (follow_lead tok.Open (λ k. WhileThen l b d k) (while_lead f)) (λ k ss us z. z)
  point_lead point.WhileTest f = ends (At point.WhileTest) (λ k. WhileThen l b d k) (while_lead f) (λ k ss us z. z)
  point_lead point.LoopClose f = ends (At point.LoopClose) (λ k. Follows tok.Close (Follows tok.Begin (NestThen l b d k nest.Loop))) (loop_lead f) (λ k ss us z. z)
  point_lead (point.Begins n) f = ends (At (point.Begins n)) (λ k. Follows tok.Begin (NestThen l b d k n)) (begins_lead n f) (λ k ss us z. z)
  point_lead (point.AfterArm arms) f = ends (At (point.AfterArm arms)) (λ k. ElseThen l b d k arms) (else_lead arms f) (λ k ss us z. z)
  point_lead (point.AfterElse arms) f = ends (At (point.AfterElse arms)) (λ k. AfterElse l b d k arms) (after_else_lead arms f) (λ k ss us z. z)
  point_lead (point.AfterDo body) f =
      ends (At (point.AfterDo body)) (λ k. Follows tok.While (Follows tok.Open (UseThen l b d k (use'.Do body))))
      (follow_lead tok.While (λ k. Follows tok.Open (UseThen l b d k (use'.Do body))) (follow_lead tok.Open (λ k. UseThen l b d k (use'.Do body)) (then_lead (use'.Do body) f))) (λ k ss us z. z)
  point_lead (point.SwitchBegin e) f =
      let s : Switching = record { word = e; groups = []; used = [] } in
      ends (At (point.SwitchBegin e)) (λ k. Follows tok.Begin (GroupsThen l d k s))
      (follow_lead tok.Begin (λ k. GroupsThen l d k s) (groups_lead s (record { deep = f.0; word_fits = f.1; groups_fit = tt; used = refl; distinct = refl; words = refl }))) (λ k ss us z. z)
  point_lead (point.Group s) f = ends (At (point.Group s)) (λ k. GroupsThen l d k s) (groups_lead s f) (λ k ss us z. z)
  point_lead (point.CaseNumber s vs) f = ends (At (point.CaseNumber s vs)) (λ k. CaseThen l d k s vs) (case_lead s vs f.0 f.1) (λ k ss us z. z)
  point_lead (point.CaseColon s vs) f = ends (At (point.CaseColon s vs)) (λ k. Follows tok.Colon (ValuesThen l d k s vs)) (follow_lead tok.Colon (λ k. ValuesThen l d k s vs) (values_lead s vs f.0 f.1)) (λ k ss us z. z)
  point_lead (point.AfterCase s vs) f = ends (At (point.AfterCase s vs)) (λ k. ValuesThen l d k s vs) (values_lead s vs f.0 f.1) (λ k ss us z. z)
  point_lead (point.GroupBreak s) f =
      ends (At (point.GroupBreak s)) (λ k. Follows tok.Break (Follows tok.Semicolon (GroupsThen l d k s)))
      (follow_lead tok.Break (λ k. Follows tok.Semicolon (GroupsThen l d k s)) (follow_lead tok.Semicolon (λ k. GroupsThen l d k s) (groups_lead s f))) (λ k ss us z. z)
  point_lead (point.GroupSemicolon s) f = ends (At (point.GroupSemicolon s)) (λ k. Follows tok.Semicolon (GroupsThen l d k s)) (follow_lead tok.Semicolon (λ k. GroupsThen l d k s) (groups_lead s f)) (λ k ss us z. z)
  point_lead (point.DefaultColon e gs) f =
      ends (At (point.DefaultColon e gs)) (λ k. Follows tok.Colon (Follows tok.Begin (NestThen l b d k (nest.Default e gs))))
      (follow_lead tok.Colon (λ k. Follows tok.Begin (NestThen l b d k (nest.Default e gs))) (begins_lead (nest.Default e gs) f)) (λ k ss us z. z)
  point_lead (point.SwitchBreak s) f =
      ends (At (point.SwitchBreak s)) (λ k. Follows tok.Break (Follows tok.Semicolon (Follows tok.End (k s))))
      (follow_lead tok.Break (λ k. Follows tok.Semicolon (Follows tok.End (k s))) (follow_lead tok.Semicolon (λ k. Follows tok.End (k s)) (follow_lead tok.End (λ k. k s) (whole_lead s f)))) (λ k ss us z. z)
  point_lead (point.SwitchSemicolon s) f =
      ends (At (point.SwitchSemicolon s)) (λ k. Follows tok.Semicolon (Follows tok.End (k s))) (follow_lead tok.Semicolon (λ k. Follows tok.End (k s)) (follow_lead tok.End (λ k. k s) (whole_lead s f))) (λ k ss us z. z)
  point_lead (point.SwitchEnd s) f = ends (At (point.SwitchEnd s)) (λ k. Follows tok.End (k s)) (follow_lead tok.End (λ k. k s) (whole_lead s f)) (λ k ss us z. z)
  point_lead (point.Semicolon s) f = ends (At (point.Semicolon s)) (λ k. Follows tok.Semicolon (k s)) (semicolon_lead s f) (λ k ss us z. z)

  place_lead : (p : Place) → PlaceFits l b d p → PlaceLead p
  place_lead (At p) f = point_lead p f
  place_lead (Inside u r) f = ends (Inside u r) (λ k. words.GoesOn l (UseRest l b d k u) r.state r.open') (part_lead u r f.1 (use_lead u f.0)) (λ k ss us z. z)

-- statements that fit, one after others
stmts_append : (l : Locals) (b : Bool) (d : ℕ) (ss more : List CStmt) → FitsStmts l b d ss → FitsStmts l b d more → FitsStmts l b d (ss ++ more)
stmts_append l b d [] more f g = g
stmts_append l b d (s ∷ ss) more f g = (f.0, stmts_append l b d ss more f.1 g)

module _ (l : Locals) where
  -- the statements of the function, to which tokens lead
  abbrev BodyLead : Body → Type 1
  BodyLead b = (ss : List CStmt) × FitsStmts l false 512 ss × ((k : BodyRest) (ts : List Token) → k ss ts → (us : List Token) × BodyGoesOn l k b us)

  -- a Body that ends, where the one round it can be completed
  abbrev Completes : List Open → Type 1
  Completes os = (ss : List CStmt) (p : Place) → FitsStmts l (breakable os) (depth_left os) ss → PlaceFits l (breakable os) (depth_left os) p → BodyLead (placed os ss p)

  shut_lead : (os : List Open) (before : List CStmt) (n : Nest) (body : List CStmt) → BodyFits l (shut os before n body) → Completes os → BodyLead (shut os before n body)
  shut_lead os before (nest.Arm arms c) body f rec = rec before (At (point.AfterArm (arms ++ roll-CArm (record { test = c; body = body }) ∷ []))) f.stmts_fit f.place_fits
  shut_lead os before (nest.Else arms) body f rec = rec (before ++ roll-CStmt (CStmt-F.If arms (Some body)) ∷ []) (At point.Stmt) f.stmts_fit tt
  shut_lead os before nest.Loop body f rec = rec (before ++ roll-CStmt (CStmt-F.Loop body) ∷ []) (At point.Stmt) f.stmts_fit tt
  shut_lead os before (nest.While c) body f rec = rec (before ++ roll-CStmt (CStmt-F.While c body) ∷ []) (At point.Stmt) f.stmts_fit tt
  shut_lead os before nest.Do body f rec = rec before (At (point.AfterDo body)) f.stmts_fit f.place_fits
  shut_lead os before (nest.Group s vs) body f rec = rec before (At (point.GroupBreak (with_group s vs body))) f.stmts_fit f.place_fits
  shut_lead os before (nest.Default e gs) body f rec = rec before (At (point.SwitchBreak (roll-CStmt (CStmt-F.Switch e gs body)))) f.stmts_fit f.place_fits

  leads : (os : List Open) → OpenFit l os → Completes os
  leads [] fo ss p f g =
      let m : PlaceLead l false 512 p = place_lead l false 512 p g in
      (ss ++ m.0, stmts_append l false 512 ss m.0 f m.1, (λ k ts z. m.2 k ss ts z))
  leads (o ∷ os) fo ss p f g =
      let b : Bool = breaks_in (breakable os) o.nest in
      let d : ℕ = depth_left os - 1 in
      let m : PlaceLead l b d p = place_lead l b d p g in
      let body : List CStmt = ss ++ m.0 in
      let fb : FitsStmts l b d body = stmts_append l b d ss m.0 f m.1 in
      let h : BodyLead (shut os o.before o.nest body) = shut_lead os o.before o.nest body (shut_is l (λ q ts. ⊥) os o.before fo.2 fo.1 o.nest body [] fo.0 fb).0 (leads os fo.2) in (
        h.0,
        h.1,
        (λ k ts z.
            let y : (us : List Token) × BodyGoesOn l k (shut os o.before o.nest body) us = h.2 k ts z in
            m.2 (Rests l k (o ∷ os)) ss y.0 ((shut_is l k os o.before fo.2 fo.1 o.nest body y.0 fo.0 fb).1.1 y.1)),
      )

  body_lead : (b : Body) → BodyFits l b → BodyLead b
  body_lead b f = leads b.open' f.open_fit b.stmts b.place f.stmts_fit f.place_fits

-- ---- the declarations and the head

abbrev Completed : State → Type 0
Completed s = (f : CFun) × IsWellFormed f × ((ts : List Token) × GoesOn s f ts)

-- no more declarations, and no statements
none_more : (a : ℕ) (l : Locals) → DeclsThen (fun_of a l []) a l (tok.End ∷ [])
none_more a l = ([], tt, (tok.End ∷ [], refl, ([], tt, ([], refl, (refl, refl)))))

decl_lead : (a : ℕ) (l : Locals) (d : Decl) → Bounds a l → HasLocal l d → Completed (Declaring a l d)
decl_lead a l decl.Next b h = (fun_of a l [], well_formed a l [] b tt, (tok.End ∷ [], none_more a l))
decl_lead a l decl.Local b h =
    let n : Name = name.S l.selectors in
    let m : may_declare l n ≡ true = two_true (nat_eq l.selectors l.selectors) (nat_lt l.selectors (2 ^ 32 - 1)) (eq-eqb l.selectors l.selectors refl) (lt-ltb l.selectors (2 ^ 32 - 1) h) in
    let r : List Token = tok.End ∷ [] in (
      fun_of a (with_local l n) [],
      well_formed a (with_local l n) [] (local_bounds (fun_of a l []) a l n b m) tt,
      (tok.Name n ∷ tok.Assign ∷ tok.Zero ∷ tok.Semicolon ∷ r, (n, m, (tok.Assign ∷ tok.Zero ∷ tok.Semicolon ∷ r, refl, (tok.Zero ∷ tok.Semicolon ∷ r, refl, (tok.Semicolon ∷ r, refl, (r, refl, none_more a (with_local l n))))))),
    )
decl_lead a l decl.Assign b h =
    let r : List Token = tok.End ∷ [] in
    (fun_of a l [], well_formed a l [] b tt, (tok.Assign ∷ tok.Zero ∷ tok.Semicolon ∷ r, (tok.Zero ∷ tok.Semicolon ∷ r, refl, (tok.Semicolon ∷ r, refl, (r, refl, none_more a l)))))
decl_lead a l decl.Zero b h =
    let r : List Token = tok.End ∷ [] in (fun_of a l [], well_formed a l [] b tt, (tok.Zero ∷ tok.Semicolon ∷ r, (tok.Semicolon ∷ r, refl, (r, refl, none_more a l))))
decl_lead a l decl.Semicolon b h = (fun_of a l [], well_formed a l [] b tt, (tok.Semicolon ∷ tok.End ∷ [], (tok.End ∷ [], refl, none_more a l)))

empty_formed : (a : ℕ) → a < 2 ^ 32 → IsWellFormed (fun_of a no_locals [])
empty_formed a p = well_formed a no_locals [] (record { address = p; temps = omega arith; bools = omega arith; selectors = omega arith }) tt

-- the tokens after the name
abbrev Empty1 : List Token
Empty1 = tok.Begin ∷ tok.End ∷ []

abbrev Empty2 : List Token
Empty2 = tok.Void ∷ tok.Close ∷ Empty1

address_lead : (a : ℕ) → AddressThen (fun_of a no_locals []) a (tok.Open ∷ Empty2)
address_lead a = (Empty2, refl, (tok.Close ∷ Empty1, refl, (Empty1, refl, (tok.End ∷ [], refl, none_more a no_locals))))

head_lead : (h : Head) → HeadFits h → Completed (Begun h)
head_lead head.Void p =
    (fun_of 0 no_locals [], empty_formed 0 (omega arith), (tok.Void ∷ tok.Function 0 ∷ tok.Open ∷ Empty2, (tok.Function 0 ∷ tok.Open ∷ Empty2, refl, (0, omega arith, (tok.Open ∷ Empty2, refl, address_lead 0)))))
head_lead head.Function p = (fun_of 0 no_locals [], empty_formed 0 (omega arith), (tok.Function 0 ∷ tok.Open ∷ Empty2, (0, omega arith, (tok.Open ∷ Empty2, refl, address_lead 0))))
head_lead (head.Open a) p = (fun_of a no_locals [], empty_formed a p, (tok.Open ∷ Empty2, address_lead a))
head_lead (head.Nothing a) p = (fun_of a no_locals [], empty_formed a p, (Empty2, (tok.Close ∷ Empty1, refl, (Empty1, refl, (tok.End ∷ [], refl, none_more a no_locals)))))
head_lead (head.Close a) p = (fun_of a no_locals [], empty_formed a p, (tok.Close ∷ Empty1, (Empty1, refl, (tok.End ∷ [], refl, none_more a no_locals))))
head_lead (head.Begin a) p = (fun_of a no_locals [], empty_formed a p, (Empty1, (tok.End ∷ [], refl, none_more a no_locals)))

pub can_go_on_is : CanGoOn
can_go_on_is (Begun h) r = head_lead h r
can_go_on_is (Declaring a l d) r = decl_lead a l d r.0 r.1
can_go_on_is (Within a l b) r =
    let m : BodyLead l b = body_lead l b r.1 in
    (fun_of a l m.0, well_formed a l m.0 r.0 m.1, m.2 (Ends (fun_of a l m.0) a l) [] (refl, refl))
can_go_on_is (Whole f) r = (f, r, ([], (refl, refl)))
