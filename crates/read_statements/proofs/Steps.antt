-- The law on the reading of a token, over all the Bodies that are open, the declarations and the head.
use Rattle.std.proofs.Common.{◌≡◌, ◌⊎◌, inl, inr, ℕ, ◌-◌, Bool, true, false, List, [], ◌∷◌, ◌++◌, Option, Some, None, refl, sym, ap, ◌∙◌, arith}
use Rattle.std.proofs.lemmas.List.{append-nil}
use Rattle.dream_words.specs.declared.machine.Name.{Name}
use Rattle.c_syntax.specs.declared.syntax.CStmt.{CStmt, CStmt-F, roll-CStmt}
use Rattle.c_syntax.specs.declared.syntax.CArm.{CArm, roll-CArm}
use Rattle.c_syntax.specs.declared.syntax.CGroup.{CGroup, CGroup-F, roll-CGroup}
use Rattle.c_syntax.specs.declared.token.Token.{Token}
use Rattle.c_syntax.specs.declared.token.Token.TheVariants as tok
use Rattle.c_syntax.specs.Formed.{are_words, has_any}
use Rattle.c_lex.specs.Lexemes.{IsToken}
use Rattle.read_words.specs.declared.open.Locals.{Locals}
use Rattle.read_words.specs.declared.open.State as words_state
use Rattle.read_words.specs.declared.open.State.TheVariants as state
use Rattle.read_words.specs.declared.open.Open as words_open
use Rattle.read_words.specs.Turns as words_turns
use Rattle.read_words.specs.Turns.{Reading, scope}
use Rattle.read_words.specs.Rests as words
use Rattle.read_words.specs.Rests.{Follows}
use Rattle.read_words.specs.Reads as words_reads
use Rattle.read_words.proofs.Beginning.{head_of}
use Rattle.read_words.proofs.Steps as words_steps
use Rattle.read_statements.specs.declared.open.Use.{Use}
use Rattle.read_statements.specs.declared.open.Use.TheVariants as use'
use Rattle.read_statements.specs.declared.open.Switching.{Switching}
use Rattle.read_statements.specs.declared.open.Nest.{Nest}
use Rattle.read_statements.specs.declared.open.Nest.TheVariants as nest
use Rattle.read_statements.specs.declared.open.Open.{Open}
use Rattle.read_statements.specs.declared.open.Point.{Point}
use Rattle.read_statements.specs.declared.open.Point.TheVariants as point
use Rattle.read_statements.specs.declared.open.Turn.{Turn}
use Rattle.read_statements.specs.declared.open.Turn.TheVariants as turn'
use Rattle.read_statements.specs.Turns.{turn, after_part, wanted_for, Place, At, Inside, Body, breaks_in, breakable, depth_left, placed, done, shut, Outcome, Going, Ended, closed, turned, went, part_step, settled_step, body_step, with_group}
use Rattle.read_statements.specs.Rests.{Then, StmtRest, BodyRest, FitsStmt, FitsStmts, values_of, StmtsThen, Next, ElseThen, AfterElse, NestRest, NestThen, UseRest, UseThen, SourceThen, WhileThen, PointRest, Rests, BodyGoesOn}
use Rattle.read_statements.specs.Reads.{SwitchFits, UseFits, NestFits, PointFits, PlaceFits, SomeFit, OpenFit, BodyFits}
use Rattle.read_statements.proofs.Parts.{fits, arm_fits, group_fits, group_values_are, stmts_push, arms_push, groups_push}
use Rattle.read_statements.proofs.Different.{values_push, words_back}
use Rattle.read_statements.proofs.Opening.{else_open, else_none}
use Rattle.read_statements.proofs.Turning.{IsSettled, IsTurn, turn_is, after_part_is}

no_truth : {A : Type 0} → false ≡ true → A
no_truth h = absurd (let z : ⊥ = cc in z)

-- ---- a Body is of what it is

module _ (l : Locals) (b : Bool) (d : ℕ) (k : StmtRest) where
  abbrev pub Inner : Nest → Then
  Inner n = StmtsThen l (breaks_in b n) (d - 1) (NestRest l b d k n) []

  pub nest_in : (n : Nest) (ts : List Token) → NestThen l b d k n ts → Inner n ts
  nest_in (nest.Arm arms c) ts h = h
  nest_in (nest.Else arms) ts h = h
  nest_in nest.Loop ts h = h
  nest_in (nest.While c) ts h = h
  nest_in nest.Do ts h = h
  nest_in (nest.Group s vs) ts h = h
  nest_in (nest.Default e gs) ts h = h

  pub nest_out : (n : Nest) (ts : List Token) → Inner n ts → NestThen l b d k n ts
  nest_out (nest.Arm arms c) ts h = h
  nest_out (nest.Else arms) ts h = h
  nest_out nest.Loop ts h = h
  nest_out (nest.While c) ts h = h
  nest_out nest.Do ts h = h
  nest_out (nest.Group s vs) ts h = h
  nest_out (nest.Default e gs) ts h = h

-- a Word or Cond of which nothing has been read
pub part_read : (l : Locals) (u : Use) → words_reads.IsRead l (wanted_for u) (record { state = state.Want (wanted_for u); open' = [] })
part_read l (use'.Set n) = record { open_fit = tt; state_fits = (refl, omega arith) }
part_read l (use'.Load n w) = record { open_fit = tt; state_fits = (refl, omega arith) }
part_read l (use'.Address w) = record { open_fit = tt; state_fits = (refl, omega arith) }
part_read l (use'.Value w a) = record { open_fit = tt; state_fits = (refl, omega arith) }
part_read l use'.Ext = record { open_fit = tt; state_fits = (refl, omega arith) }
part_read l (use'.Trap v) = record { open_fit = tt; state_fits = (refl, omega arith) }
part_read l use'.Switch = record { open_fit = tt; state_fits = (refl, omega arith) }
part_read l (use'.If arms) = record { open_fit = tt; state_fits = (refl, omega arith) }
part_read l use'.While = record { open_fit = tt; state_fits = (refl, omega arith) }
part_read l (use'.Do body) = record { open_fit = tt; state_fits = (refl, omega arith) }

-- one arm more is some
pub any_arm : (arms : List CArm) (a : CArm) → has_any (arms ++ a ∷ []) ≡ true
any_arm [] a = refl
any_arm (x ∷ arms) a = refl

-- a switch with one group more
pub switch_fits : (l : Locals) (d : ℕ) (s : Switching) (vs : List ℕ) (body : List CStmt) → SwitchFits l d s vs → has_any vs ≡ true → FitsStmts l true (d - 1) body → SwitchFits l d (with_group s vs body) []
switch_fits l d s vs body f a g =
    let y : CGroup-F CStmt CArm CGroup = record { values = vs; body = body } in
    let w : are_words vs ≡ true = words_back (values_of l s.groups) vs (ap are_words (sym f.used) ∙ f.words) in
    record {
      deep = f.deep;
      word_fits = f.word_fits;
      groups_fit = groups_push l d s.groups (roll-CGroup y) f.groups_fit (group_fits l d y a w f.deep g);
      used = f.used ∙ sym (append-nil (values_of l (s.groups ++ roll-CGroup y ∷ [])) ∙ values_push l s.groups (roll-CGroup y) ∙ ap (λ q. values_of l s.groups ++ q) (group_values_are l y));
      distinct = f.distinct;
      words = f.words;
    }

module _ (l : Locals) (k : BodyRest) where
  -- a token was read, or is refused, by the Bodies that are open
  abbrev pub IsOutcome : Option Outcome → List Token → Type 0 → Type 0
  IsOutcome None ts before = before → ⊥
  IsOutcome (Some (Going b)) ts before = BodyFits l b × ((before → BodyGoesOn l k b ts) × (BodyGoesOn l k b ts → before))
  IsOutcome (Some (Ended ss)) ts before = FitsStmts l false 512 ss × ((before → k ss ts) × (k ss ts → before))

  outcome_same : (o : Option Outcome) (ts : List Token) (A B : Type 0) → (A → B) → (B → A) → IsOutcome o ts B → IsOutcome o ts A
  outcome_same None ts A B f g h = λ a. h (f a)
  outcome_same (Some (Going b)) ts A B f g h = (h.0, ((λ a. h.1.0 (f a)), (λ z. g (h.1.1 z))))
  outcome_same (Some (Ended ss)) ts A B f g h = (h.0, ((λ a. h.1.0 (f a)), (λ z. g (h.1.1 z))))

  module _ (os : List Open) (ss : List CStmt) (fo : OpenFit l os) (fs : FitsStmts l (breakable os) (depth_left os) ss) where
    -- the place after a Body
    done_fits : (s : CStmt) → FitsStmt l (breakable os) (depth_left os) s → BodyFits l (done os ss s)
    done_fits s f = record { open_fit = fo; stmts_fit = stmts_push l (breakable os) (depth_left os) ss s fs f; place_fits = tt }

    abbrev pub Shuts : Nest → List CStmt → List Token → Type 0
    Shuts n body ts =
        BodyFits l (shut os ss n body)
        × ((NestRest l (breakable os) (depth_left os) (Next l (breakable os) (depth_left os) (Rests l k os) ss) n body ts → BodyGoesOn l k (shut os ss n body) ts)
        × (BodyGoesOn l k (shut os ss n body) ts → NestRest l (breakable os) (depth_left os) (Next l (breakable os) (depth_left os) (Rests l k os) ss) n body ts))

    pub shut_is : (n : Nest) (body : List CStmt) (ts : List Token) → NestFits l (breakable os) (depth_left os) n → FitsStmts l (breaks_in (breakable os) n) (depth_left os - 1) body → Shuts n body ts
    shut_is (nest.Arm arms c) body ts f g = (
      record {
        open_fit = fo;
        stmts_fit = fs;
        place_fits = (
          f.0.0,
          arms_push l (breakable os) (depth_left os) arms (roll-CArm (record { test = c; body = body })) f.0.1 (arm_fits l (breakable os) (depth_left os) (record { test = c; body = body }) f.1 f.0.0 g),
          any_arm arms (roll-CArm (record { test = c; body = body })),
        );
      },
      ((λ h. h), (λ h. h)),
    )
    shut_is (nest.Else arms) body ts f g =
        (done_fits (roll-CStmt (CStmt-F.If arms (Some body))) (fits l (breakable os) (depth_left os) (CStmt-F.If arms (Some body)) (f.2, f.0, f.1, g)), ((λ h. h), (λ h. h)))
    shut_is nest.Loop body ts f g = (done_fits (roll-CStmt (CStmt-F.Loop body)) (fits l (breakable os) (depth_left os) (CStmt-F.Loop body) (f, g)), ((λ h. h), (λ h. h)))
    shut_is (nest.While c) body ts f g = (done_fits (roll-CStmt (CStmt-F.While c body)) (fits l (breakable os) (depth_left os) (CStmt-F.While c body) (f.1, f.0, g)), ((λ h. h), (λ h. h)))
    shut_is nest.Do body ts f g = (record { open_fit = fo; stmts_fit = fs; place_fits = (f, g) }, ((λ h. h), (λ h. h)))
    shut_is (nest.Group s vs) body ts f g =
        (record { open_fit = fo; stmts_fit = fs; place_fits = switch_fits l (depth_left os) s vs body f.0 f.1 g }, ((λ h. h), (λ h. h)))
    shut_is (nest.Default e gs) body ts f g = (
      record {
        open_fit = fo;
        stmts_fit = fs;
        place_fits = fits l (breakable os) (depth_left os) (CStmt-F.Switch e gs body) (f.word_fits, f.deep, f.groups_fit, f.distinct, g);
      },
      ((λ h. h), (λ h. h)),
    )

  closed_is : (os : List Open) (ss : List CStmt) (ts : List Token) (before : Type 0) → OpenFit l os → FitsStmts l (breakable os) (depth_left os) ss
      → (before → Rests l k os ss ts) → (Rests l k os ss ts → before) → IsOutcome (Some (closed os ss)) ts before
  closed_is [] ss ts before fo fs to from = (fs, (to, from))
  closed_is (o ∷ os) ss ts before fo fs to from =
      let h = shut_is os o.before fo.2 fo.1 o.nest ss ts fo.0 fs in (h.0, ((λ a. h.1.0 (to a)), (λ z. from (h.1.1 z))))

  -- a turn at the innermost place is a step of all the Bodies
  turned_is : (os : List Open) (ss : List CStmt) (t : Option Turn) (ts : List Token) (before : Type 0) → OpenFit l os → FitsStmts l (breakable os) (depth_left os) ss
      → IsTurn l (breakable os) (depth_left os) (Rests l k os) ss t ts before → IsOutcome (turned os ss t) ts before
  turned_is os ss None ts before fo fs h = h
  turned_is os ss (Some (turn'.To p)) ts before fo fs h = (record { open_fit = fo; stmts_fit = fs; place_fits = h.0 }, h.1)
  turned_is os ss (Some (turn'.Part u)) ts before fo fs h = (record { open_fit = fo; stmts_fit = fs; place_fits = (h.0, part_read l u) }, h.1)
  turned_is os ss (Some (turn'.Done s)) ts before fo fs h = (done_fits os ss fo fs s h.0, h.1)
  turned_is os ss (Some (turn'.Opens n)) ts before fo fs h = (
    record { open_fit = (h.0, fs, fo); stmts_fit = tt; place_fits = tt },
    (
      (λ a. nest_in l (breakable os) (depth_left os) (Next l (breakable os) (depth_left os) (Rests l k os) ss) n ts (h.1.0 a)),
      (λ z. h.1.1 (nest_out l (breakable os) (depth_left os) (Next l (breakable os) (depth_left os) (Rests l k os) ss) n ts z)),
    ),
  )
  turned_is os ss (Some turn'.Ends) ts before fo fs h = closed_is os ss ts before fo fs h.1.0 h.1.1

  module _ (os : List Open) (ss : List CStmt) (fo : OpenFit l os) (fs : FitsStmts l (breakable os) (depth_left os) ss) where
    -- what may follow a statement here
    abbrev Here : StmtRest
    Here = Next l (breakable os) (depth_left os) (Rests l k os) ss

    -- a Word or Cond goes on
    went_is : (u : Use) (r : Option Reading) (ts : List Token) (before : Type 0) → UseFits l (breakable os) (depth_left os) u
        → words_reads.IsStep l (wanted_for u) (UseRest l (breakable os) (depth_left os) Here u) r ts before → IsOutcome (went os ss u r) ts before
    went_is u None ts before f h = h
    went_is u (Some r) ts before f h = (record { open_fit = fo; stmts_fit = fs; place_fits = (f, h.0) }, h.1)

    pub inside_is : (u : Use) (s : words_state.State) (ws : List words_open.Open) (x : Token) (ts : List Token) → UseFits l (breakable os) (depth_left os) u
        → words_reads.IsRead l (wanted_for u) (record { state = s; open' = ws }) → IsToken x
        → IsOutcome (part_step l os ss u s ws x) ts (words.GoesOn l (UseRest l (breakable os) (depth_left os) Here u) s ws (x ∷ ts))
    inside_is u (state.Have j) [] x ts f h i =
        turned_is os ss (after_part u j x) ts (UseRest l (breakable os) (depth_left os) Here u j (x ∷ ts)) fo fs
        (after_part_is l (breakable os) (depth_left os) (Rests l k os) ss u j x ts f h.state_fits)
    inside_is u (state.Have j) (w ∷ ws) x ts f h i =
        went_is u (words_turns.step_of l (state.Have j) (w ∷ ws) x) ts (words.GoesOn l (UseRest l (breakable os) (depth_left os) Here u) (state.Have j) (w ∷ ws) (x ∷ ts)) f
        (words_steps.step_is l (wanted_for u) (UseRest l (breakable os) (depth_left os) Here u) (state.Have j) (w ∷ ws) x ts h.open_fit h.state_fits tt i)
    inside_is u (state.Want v) ws x ts f h i =
        went_is u (words_turns.step_of l (state.Want v) ws x) ts (words.GoesOn l (UseRest l (breakable os) (depth_left os) Here u) (state.Want v) ws (x ∷ ts)) f
        (words_steps.step_is l (wanted_for u) (UseRest l (breakable os) (depth_left os) Here u) (state.Want v) ws x ts h.open_fit h.state_fits tt i)
    inside_is u (state.Paren v) ws x ts f h i =
        went_is u (words_turns.step_of l (state.Paren v) ws x) ts (words.GoesOn l (UseRest l (breakable os) (depth_left os) Here u) (state.Paren v) ws (x ∷ ts)) f
        (words_steps.step_is l (wanted_for u) (UseRest l (breakable os) (depth_left os) Here u) (state.Paren v) ws x ts h.open_fit h.state_fits tt i)
    inside_is u (state.Call g) ws x ts f h i =
        went_is u (words_turns.step_of l (state.Call g) ws x) ts (words.GoesOn l (UseRest l (breakable os) (depth_left os) Here u) (state.Call g) ws (x ∷ ts)) f
        (words_steps.step_is l (wanted_for u) (UseRest l (breakable os) (depth_left os) Here u) (state.Call g) ws x ts h.open_fit h.state_fits tt i)

    -- the step at a place
    abbrev Steps : Point → Token → List Token → Type 0
    Steps p x ts = IsOutcome (body_step l (placed os ss (At p)) x) ts (PointRest l (breakable os) (depth_left os) (Rests l k os) ss p (x ∷ ts))

    plain_is : (p : Point) (x : Token) (ts : List Token) → PointFits l (breakable os) (depth_left os) p → IsToken x → IsSettled p x
        → IsOutcome (turned os ss (turn l (breakable os) (depth_left os) p x)) ts (PointRest l (breakable os) (depth_left os) (Rests l k os) ss p (x ∷ ts))
    plain_is p x ts f i g =
        turned_is os ss (turn l (breakable os) (depth_left os) p x) ts (PointRest l (breakable os) (depth_left os) (Rests l k os) ss p (x ∷ ts)) fo fs
        (turn_is l (breakable os) (depth_left os) (Rests l k os) ss p x ts i f g)

    -- a Word or Cond begins here
    part_is : (u : Use) (x : Token) (ts : List Token) (before : Type 0) → UseFits l (breakable os) (depth_left os) u → IsToken x → (before → UseThen l (breakable os) (depth_left os) Here u (x ∷ ts))
        → (UseThen l (breakable os) (depth_left os) Here u (x ∷ ts) → before) → IsOutcome (part_step l os ss u (state.Want (wanted_for u)) [] x) ts before
    part_is u x ts before f i to from =
        outcome_same (part_step l os ss u (state.Want (wanted_for u)) [] x) ts before (UseThen l (breakable os) (depth_left os) Here u (x ∷ ts)) to from
        (inside_is u (state.Want (wanted_for u)) [] x ts f (part_read l u) i)

    not_load : (n : Name) (x : Token) (ts : List Token) → ((w : _) → x ≡ tok.Ld w → ⊥) → SourceThen l (breakable os) (depth_left os) Here n (x ∷ ts) → UseThen l (breakable os) (depth_left os) Here (use'.Set n) (x ∷ ts)
    not_load n x ts a (inl (w, q)) = absurd (a w (head_of q.1))
    not_load n x ts a (inr q) = q

    assign_is : (n : Name) (x : Token) (ts : List Token) → PointFits l (breakable os) (depth_left os) (point.Assigned n) → IsToken x → Steps (point.Assigned n) x ts
    assign_is n (tok.Ld w) ts f i = plain_is (point.Assigned n) (tok.Ld w) ts f i tt
    assign_is n x ts f i = part_is (use'.Set n) x ts (SourceThen l (breakable os) (depth_left os) Here n (x ∷ ts)) f i (not_load n x ts (λ w e. cc)) (λ z. inr z)

    not_one : (x : Token) (ts : List Token) → (x ≡ tok.One → ⊥) → WhileThen l (breakable os) (depth_left os) Here (x ∷ ts) → UseThen l (breakable os) (depth_left os) Here use'.While (x ∷ ts)
    not_one x ts a (inl q) = absurd (a (head_of q.1))
    not_one x ts a (inr q) = q

    while_is : (x : Token) (ts : List Token) → PointFits l (breakable os) (depth_left os) point.WhileTest → IsToken x → Steps point.WhileTest x ts
    while_is tok.One ts f i = plain_is point.WhileTest tok.One ts f i tt
    while_is x ts f i = part_is use'.While x ts (WhileThen l (breakable os) (depth_left os) Here (x ∷ ts)) f i (not_one x ts (λ e. cc)) (λ z. inr z)

  module _ (os : List Open) (ss : List CStmt) (fo : OpenFit l os) (fs : FitsStmts l (breakable os) (depth_left os) ss) where
    not_else : (arms : List CArm) (x : Token) (ts : List Token) → (x ≡ tok.Else → ⊥) → ElseThen l (breakable os) (depth_left os) (Here os ss fo fs) arms (x ∷ ts) → Here os ss fo fs (roll-CStmt (CStmt-F.If arms None)) (x ∷ ts)
    not_else arms x ts a h = one (else_open l (breakable os) (depth_left os) (Here os ss fo fs) arms (x ∷ ts) h)
      where
        one : Here os ss fo fs (roll-CStmt (CStmt-F.If arms None)) (x ∷ ts) ⊎ Follows tok.Else (AfterElse l (breakable os) (depth_left os) (Here os ss fo fs) arms) (x ∷ ts)
            → Here os ss fo fs (roll-CStmt (CStmt-F.If arms None)) (x ∷ ts)
        one (inl q) = q
        one (inr q) = absurd (a (head_of q.1))

    -- an `if` is whole
    whole_is : (arms : List CArm) (x : Token) (ts : List Token) → SomeFit l (breakable os) (depth_left os) arms → IsToken x → (x ≡ tok.Else → ⊥)
        → IsOutcome (settled_step l (done os ss (roll-CStmt (CStmt-F.If arms None))) x) ts (ElseThen l (breakable os) (depth_left os) (Here os ss fo fs) arms (x ∷ ts))
    whole_is arms x ts f i a =
        let s : CStmt = roll-CStmt (CStmt-F.If arms None) in
        outcome_same (settled_step l (done os ss s) x) ts (ElseThen l (breakable os) (depth_left os) (Here os ss fo fs) arms (x ∷ ts)) (Here os ss fo fs s (x ∷ ts))
        (not_else arms x ts a) (else_none l (breakable os) (depth_left os) (Here os ss fo fs) arms (x ∷ ts))
        (plain_is os (ss ++ s ∷ []) fo (stmts_push l (breakable os) (depth_left os) ss s fs (fits l (breakable os) (depth_left os) (CStmt-F.If arms None) (f.2, f.0, f.1, tt))) point.Stmt x ts tt i tt)

    if_is : (arms : List CArm) (x : Token) (ts : List Token) → SomeFit l (breakable os) (depth_left os) arms → IsToken x → Steps os ss fo fs (point.AfterArm arms) x ts
    if_is arms tok.Else ts f i = plain_is os ss fo fs (point.AfterArm arms) tok.Else ts f i tt
    if_is arms x ts f i = whole_is arms x ts f i (λ e. cc)

    pub point_is : (p : Point) (x : Token) (ts : List Token) → PointFits l (breakable os) (depth_left os) p → IsToken x → Steps os ss fo fs p x ts
    point_is (point.Assigned n) x ts f i = assign_is os ss fo fs n x ts f i
    point_is point.WhileTest x ts f i = while_is os ss fo fs x ts f i
    point_is (point.AfterArm arms) x ts f i = if_is arms x ts f i
    point_is p x ts f i = plain_is os ss fo fs p x ts f i tt

  pub body_is : (b : Body) (x : Token) (ts : List Token) → BodyFits l b → IsToken x → IsOutcome (body_step l b x) ts (BodyGoesOn l k b (x ∷ ts))
  body_is b x ts f i = at b.place f.place_fits
    where
      at : (p : Place) → PlaceFits l (breakable b.open') (depth_left b.open') p → IsOutcome (body_step l (placed b.open' b.stmts p) x) ts (BodyGoesOn l k (placed b.open' b.stmts p) (x ∷ ts))
      at (At p) g = point_is b.open' b.stmts f.open_fit f.stmts_fit p x ts g i
      at (Inside u r) g = inside_is b.open' b.stmts f.open_fit f.stmts_fit u r.state r.open' x ts g.0 g.1 i
