-- What isn't the whole function doesn't go on with no tokens, and at the start a function goes on with its own.
use Rattle.std.proofs.Common.{◌≡◌, zero, suc, ◌⊎◌, inl, inr, ℕ, ◌+◌, ◌-◌, ◌^◌, ◌<◌, ◌≤◌, Bool, true, false, ◌&&◌, nat_lt, nat_eq, List, [], ◌∷◌, ◌++◌, map, None, refl, sym, ap, ◌∙◌, subst, arith}
use Rattle.std.proofs.lemmas.Bool.{eqb-true, eq-eqb}
use borrow.Author.Tests.{lt-ltb}
use Rattle.dream_words.specs.declared.machine.Name.{Name}
use Rattle.dream_words.specs.declared.machine.Name.TheVariants as name
use Rattle.c_syntax.specs.declared.syntax.CStmt.{CStmt, CStmt-F, roll-CStmt}
use Rattle.c_syntax.specs.declared.syntax.CArm.{CArm}
use Rattle.c_syntax.specs.declared.syntax.CFun.{CFun}
use Rattle.c_syntax.specs.declared.token.Token.{Token}
use Rattle.c_syntax.specs.declared.token.Token.TheVariants as tok
use Rattle.c_syntax.specs.Tokens.{all, stmt_tokens, stmts_tokens, decls_tokens, fun_tokens}
use Rattle.c_syntax.specs.Depth.{stmts_depth}
use Rattle.c_syntax.specs.Formed.{stmt_allowed, stmts_allowed, IsWellFormed}
use Rattle.read_words.specs.declared.open.Locals.{Locals}
use Rattle.read_words.specs.declared.open.Item.{Item}
use Rattle.read_words.specs.declared.open.Item.TheVariants as item
use Rattle.read_words.specs.declared.open.State as words_state
use Rattle.read_words.specs.declared.open.State.TheVariants as state
use Rattle.read_words.specs.declared.open.Open as words_open
use Rattle.read_words.specs.Turns.{scope}
use Rattle.read_words.specs.Rests as words
use Rattle.read_words.specs.Rests.{Follows}
use Rattle.read_words.proofs.Fitting.{both_true, two_true}
use Rattle.read_statements.specs.declared.open.Head.{Head}
use Rattle.read_statements.specs.declared.open.Head.TheVariants as head
use Rattle.read_statements.specs.declared.open.Decl.{Decl}
use Rattle.read_statements.specs.declared.open.Decl.TheVariants as decl
use Rattle.read_statements.specs.declared.open.Use.{Use}
use Rattle.read_statements.specs.declared.open.Use.TheVariants as use'
use Rattle.read_statements.specs.declared.open.Switching.{Switching}
use Rattle.read_statements.specs.declared.open.Nest.TheVariants as nest
use Rattle.read_statements.specs.declared.open.Point.{Point}
use Rattle.read_statements.specs.declared.open.Point.TheVariants as point
use Rattle.read_statements.specs.Turns.{wanted_for, Place, At, Inside, breakable, depth_left, State, Begun, Declaring, Within, Whole, start, fun_of, no_locals, may_declare, with_local}
use Rattle.read_statements.specs.Rests.{BodyRest, FitsStmts, StmtsThen, Next, ElseThen, AfterElse, GroupsThen, ValuesThen, CaseThen, NestThen, UseRest, UseThen, SourceThen, WhileThen, PointRest, PlaceRest, Rests, Ends, Declares, with_locals, names_tokens, Statements, DeclsThen, DeclRest, HeadRest, GoesOn}
use Rattle.read_statements.specs.Reads.{Bounds, AtTheEnd, FromTheStart}
use Rattle.read_statements.proofs.Opening.{OneStmt, stmts_open, else_open, groups_open, values_open}
use Rattle.read_statements.proofs.States.{well_formed, local_bounds}
use Rattle.read_statements.proofs.Beginning.{one_not_none}
use Rattle.read_words.proofs.Ends as words_ends

-- ---- the end

nil_no : {x : Token} {xs : List Token} → [] ≡ x ∷ xs → ⊥
nil_no h = cc

module _ (l : Locals) (b : Bool) (d : ℕ) (k : BodyRest) where
  stmts_nil : (ss : List CStmt) → StmtsThen l b d k ss [] → ⊥
  stmts_nil ss h = one (stmts_open l b d k ss [] h)
    where
      one : Follows tok.End (k ss) [] ⊎ OneStmt l b d (Next l b d k ss) [] → ⊥
      one (inl q) = nil_no q.1
      one (inr q) = one_not_none l b d (Next l b d k ss) q

  module _ (ss : List CStmt) where
    part_nil : (u : Use) → UseThen l b d (Next l b d k ss) u [] → ⊥
    part_nil u h = words_ends.wants_more l (wanted_for u) 256 (UseRest l b d (Next l b d k ss) u) h

    source_nil : (n : Name) → SourceThen l b d (Next l b d k ss) n [] → ⊥
    source_nil n (inl (w, q)) = nil_no q.1
    source_nil n (inr q) = part_nil (use'.Set n) q

    while_nil : WhileThen l b d (Next l b d k ss) [] → ⊥
    while_nil (inl q) = nil_no q.1
    while_nil (inr q) = part_nil use'.While q

    else_nil : (arms : List CArm) → AfterElse l b d (Next l b d k ss) arms [] → ⊥
    else_nil arms (inl q) = nil_no q.1
    else_nil arms (inr q) = nil_no q.1

    arm_nil : (arms : List CArm) → ElseThen l b d (Next l b d k ss) arms [] → ⊥
    arm_nil arms h = one (else_open l b d (Next l b d k ss) arms [] h)
      where
        one : Next l b d k ss (roll-CStmt (CStmt-F.If arms None)) [] ⊎ Follows tok.Else (AfterElse l b d (Next l b d k ss) arms) [] → ⊥
        one (inl q) = stmts_nil (ss ++ roll-CStmt (CStmt-F.If arms None) ∷ []) q
        one (inr q) = nil_no q.1

    groups_nil : (s : Switching) → GroupsThen l d (Next l b d k ss) s [] → ⊥
    groups_nil s h = one (groups_open l b d (Next l b d k ss) s [] h)
      where
        one : Follows tok.Default (Follows tok.Colon (Follows tok.Begin (NestThen l b d (Next l b d k ss) (nest.Default s.word s.groups)))) [] ⊎ Follows tok.Case (CaseThen l d (Next l b d k ss) s []) [] → ⊥
        one (inl q) = nil_no q.1
        one (inr q) = nil_no q.1

    values_nil : (s : Switching) (vs : List ℕ) → ValuesThen l d (Next l b d k ss) s vs [] → ⊥
    values_nil s vs h = one (values_open l b d (Next l b d k ss) s vs [] h)
      where
        one : Follows tok.Begin (NestThen l b d (Next l b d k ss) (nest.Group s vs)) [] ⊎ Follows tok.Case (CaseThen l d (Next l b d k ss) s vs) [] → ⊥
        one (inl q) = nil_no q.1
        one (inr q) = nil_no q.1

    point_nil : (p : Point) → PointRest l b d k ss p [] → ⊥
    point_nil point.Stmt h = stmts_nil ss h
    point_nil (point.Named n) h = nil_no h.1
    point_nil (point.Assigned n) h = source_nil n h
    point_nil (point.Called u) h = nil_no h.1
    point_nil point.TrapOpen h = nil_no h.1
    point_nil point.TrapNumber h = nil_no h.2.1
    point_nil (point.TrapComma v) h = nil_no h.1
    point_nil point.WhileOpen h = nil_no h.1
    point_nil point.WhileTest h = while_nil h
    point_nil point.LoopClose h = nil_no h.1
    point_nil (point.Begins n) h = nil_no h.1
    point_nil (point.AfterArm arms) h = arm_nil arms h
    point_nil (point.AfterElse arms) h = else_nil arms h
    point_nil (point.AfterDo body) h = nil_no h.1
    point_nil (point.SwitchBegin e) h = nil_no h.1
    point_nil (point.Group s) h = groups_nil s h
    point_nil (point.CaseNumber s vs) h = nil_no h.3.1
    point_nil (point.CaseColon s vs) h = nil_no h.1
    point_nil (point.AfterCase s vs) h = values_nil s vs h
    point_nil (point.GroupBreak s) h = nil_no h.1
    point_nil (point.GroupSemicolon s) h = nil_no h.1
    point_nil (point.DefaultColon e groups) h = nil_no h.1
    point_nil (point.SwitchBreak s) h = nil_no h.1
    point_nil (point.SwitchSemicolon s) h = nil_no h.1
    point_nil (point.SwitchEnd s) h = nil_no h.1
    point_nil (point.Semicolon s) h = nil_no h.1

    whole_nil : (u : Use) (i : Item) → UseRest l b d (Next l b d k ss) u i [] → ⊥
    whole_nil (use'.Set n) (item.Word a) h = nil_no h.1
    whole_nil (use'.Load n w) (item.Word a) h = nil_no h.1
    whole_nil (use'.Address w) (item.Word a) h = nil_no h.1
    whole_nil (use'.Value w v) (item.Word a) h = nil_no h.1
    whole_nil use'.Ext (item.Word a) h = nil_no h.1
    whole_nil (use'.Trap v) (item.Word a) h = nil_no h.1
    whole_nil use'.Switch (item.Word a) h = nil_no h.1
    whole_nil (use'.If arms) (item.Cond c) h = nil_no h.1
    whole_nil use'.While (item.Cond c) h = nil_no h.1
    whole_nil (use'.Do body) (item.Cond c) h = nil_no h.1
    whole_nil (use'.Set n) (item.Cond c) h = h
    whole_nil (use'.Load n w) (item.Cond c) h = h
    whole_nil (use'.Address w) (item.Cond c) h = h
    whole_nil (use'.Value w v) (item.Cond c) h = h
    whole_nil use'.Ext (item.Cond c) h = h
    whole_nil (use'.Trap v) (item.Cond c) h = h
    whole_nil use'.Switch (item.Cond c) h = h
    whole_nil (use'.If arms) (item.Word a) h = h
    whole_nil use'.While (item.Word a) h = h
    whole_nil (use'.Do body) (item.Word a) h = h

    inside_nil : (u : Use) (s : words_state.State) (ws : List words_open.Open) → words.GoesOn l (UseRest l b d (Next l b d k ss) u) s ws [] → ⊥
    inside_nil u (state.Have i) [] h = whole_nil u i h
    inside_nil u (state.Have i) (w ∷ ws) h = words_ends.goes_on_more l (UseRest l b d (Next l b d k ss) u) (state.Have i) (w ∷ ws) tt h
    inside_nil u (state.Want v) ws h = words_ends.goes_on_more l (UseRest l b d (Next l b d k ss) u) (state.Want v) ws tt h
    inside_nil u (state.Paren v) ws h = words_ends.goes_on_more l (UseRest l b d (Next l b d k ss) u) (state.Paren v) ws tt h
    inside_nil u (state.Call g) ws h = words_ends.goes_on_more l (UseRest l b d (Next l b d k ss) u) (state.Call g) ws tt h

    place_nil : (p : Place) → PlaceRest l b d k ss p [] → ⊥
    place_nil (At p) h = point_nil p h
    place_nil (Inside u r) h = inside_nil u r.state r.open' h

module _ (f : CFun) where
  decls_nil : (a : ℕ) (l : Locals) → DeclsThen f a l [] → ⊥
  decls_nil a l ([], d, (r, e, z)) = stmts_nil l false 512 (Ends f a l) [] (subst (Statements f a l) (sym e) z)
  decls_nil a l (n ∷ ns, d, (r, e, z)) = nil_no e

  decl_nil : (a : ℕ) (l : Locals) (d : Decl) → DeclRest f a l d [] → ⊥
  decl_nil a l decl.Next h = decls_nil a l h
  decl_nil a l decl.Local h = nil_no h.2.1
  decl_nil a l decl.Assign h = nil_no h.1
  decl_nil a l decl.Zero h = nil_no h.1
  decl_nil a l decl.Semicolon h = nil_no h.1

  head_nil : (h : Head) → HeadRest f h [] → ⊥
  head_nil head.Void h = nil_no h.1
  head_nil head.Function h = nil_no h.2.1
  head_nil (head.Open a) h = nil_no h.1
  head_nil (head.Nothing a) h = nil_no h.1
  head_nil (head.Close a) h = nil_no h.1
  head_nil (head.Begin a) h = nil_no h.1

  state_end : (s : State) → GoesOn s f [] → s ≡ Whole f
  state_end (Begun h) g = absurd (head_nil h g)
  state_end (Declaring a l d) g = absurd (decl_nil a l d g)
  state_end (Within a l b) g = absurd (place_nil l (breakable b.open') (depth_left b.open') (Rests l (Ends f a l) b.open') b.stmts b.place g)
  state_end (Whole h) g = ap (λ q. Whole q) (sym g.1)

pub at_the_end_is : AtTheEnd
at_the_end_is s f = (state_end f s, (λ e. subst (λ q. GoesOn q f []) (sym e) (refl, refl)))

-- ---- the start

-- the declarations of these locals
abbrev Decls : Locals → List Token → List Token
Decls l r = decls_tokens name.T l.temps (decls_tokens name.B l.bools (decls_tokens name.S l.selectors r))

abbrev Decl1 : Name → List Token → List Token
Decl1 n r = tok.Uint32 ∷ tok.Name n ∷ tok.Assign ∷ tok.Zero ∷ tok.Semicolon ∷ r

one_decl : (kind : ℕ → Name) (n : ℕ) (r : List Token) → decls_tokens kind n (Decl1 (kind n) r) ≡ decls_tokens kind (n + 1) r
one_decl kind n r = let e : suc n ≡ n + 1 = omega arith in ap (λ q. decls_tokens kind q r) e

decl_t : (t b s n : ℕ) (r : List Token) → n ≡ t → b ≡ 0 → s ≡ 0
    → decls_tokens name.T t (decls_tokens name.B b (decls_tokens name.S s (Decl1 (name.T n) r))) ≡ decls_tokens name.T (t + 1) (decls_tokens name.B b (decls_tokens name.S s r))
decl_t t b s n r en eb es =
    ap (λ q. decls_tokens name.T t (decls_tokens name.B q (decls_tokens name.S s (Decl1 (name.T n) r)))) eb
    ∙ ap (λ q. decls_tokens name.T t (decls_tokens name.B 0 (decls_tokens name.S q (Decl1 (name.T n) r)))) es
    ∙ ap (λ q. decls_tokens name.T t (Decl1 (name.T q) r)) en
    ∙ one_decl name.T t r
    ∙ sym (ap (λ q. decls_tokens name.T (t + 1) (decls_tokens name.B 0 (decls_tokens name.S q r))) es)
    ∙ sym (ap (λ q. decls_tokens name.T (t + 1) (decls_tokens name.B q (decls_tokens name.S s r))) eb)

decl_b : (t b s n : ℕ) (r : List Token) → n ≡ b → s ≡ 0
    → decls_tokens name.T t (decls_tokens name.B b (decls_tokens name.S s (Decl1 (name.B n) r))) ≡ decls_tokens name.T t (decls_tokens name.B (b + 1) (decls_tokens name.S s r))
decl_b t b s n r en es =
    ap (λ q. decls_tokens name.T t (decls_tokens name.B b (decls_tokens name.S q (Decl1 (name.B n) r)))) es
    ∙ ap (λ q. decls_tokens name.T t (decls_tokens name.B b (Decl1 (name.B q) r))) en
    ∙ ap (decls_tokens name.T t) (one_decl name.B b r)
    ∙ sym (ap (λ q. decls_tokens name.T t (decls_tokens name.B (b + 1) (decls_tokens name.S q r))) es)

decl_s : (t b s n : ℕ) (r : List Token) → n ≡ s
    → decls_tokens name.T t (decls_tokens name.B b (decls_tokens name.S s (Decl1 (name.S n) r))) ≡ decls_tokens name.T t (decls_tokens name.B b (decls_tokens name.S (s + 1) r))
decl_s t b s n r en =
    ap (λ q. decls_tokens name.T t (decls_tokens name.B b (decls_tokens name.S s (Decl1 (name.S q) r)))) en
    ∙ ap (λ q. decls_tokens name.T t (decls_tokens name.B b q)) (one_decl name.S s r)

name_decl : (l : Locals) (n : Name) (r : List Token) → may_declare l n ≡ true → Decls l (Decl1 n r) ≡ Decls (with_local l n) r
name_decl l (name.T n) r h =
    let p = both_true (nat_eq n l.temps) (nat_eq l.bools 0 && (nat_eq l.selectors 0 && nat_lt n (2 ^ 32 - 1))) h in
    let q = both_true (nat_eq l.bools 0) (nat_eq l.selectors 0 && nat_lt n (2 ^ 32 - 1)) p.1 in
    let s = both_true (nat_eq l.selectors 0) (nat_lt n (2 ^ 32 - 1)) q.1 in
    decl_t l.temps l.bools l.selectors n r (eqb-true n l.temps p.0) (eqb-true l.bools 0 q.0) (eqb-true l.selectors 0 s.0)
name_decl l (name.B n) r h =
    let q = both_true (nat_eq n l.bools) (nat_eq l.selectors 0 && nat_lt n (2 ^ 32 - 1)) h in
    let s = both_true (nat_eq l.selectors 0) (nat_lt n (2 ^ 32 - 1)) q.1 in
    decl_b l.temps l.bools l.selectors n r (eqb-true n l.bools q.0) (eqb-true l.selectors 0 s.0)
name_decl l (name.S n) r h =
    let s = both_true (nat_eq n l.selectors) (nat_lt n (2 ^ 32 - 1)) h in
    decl_s l.temps l.bools l.selectors n r (eqb-true n l.selectors s.0)
name_decl l (name.Reg n) r h = absurd (let z : ⊥ = cc in z)
name_decl l (name.Flag n) r h = absurd (let z : ⊥ = cc in z)
name_decl l name.Fs r h = absurd (let z : ⊥ = cc in z)
name_decl l name.Gs r h = absurd (let z : ⊥ = cc in z)

-- names that are declared in turn are the declarations of their locals
names_are : (l : Locals) (ns : List Name) (r : List Token) → Declares l ns → Decls l (names_tokens ns r) ≡ Decls (with_locals l ns) r
names_are l [] r d = refl
names_are l (n ∷ ns) r d = name_decl l n (names_tokens ns r) d.0 ∙ names_are (with_local l n) ns r d.1

names_bounds : (a : ℕ) (l : Locals) (ns : List Name) → Bounds a l → Declares l ns → Bounds a (with_locals l ns)
names_bounds a l [] b d = b
names_bounds a l (n ∷ ns) b d = names_bounds a (with_local l n) ns (local_bounds (fun_of a l []) a l n b d.0) d.1

-- statements, as they stand in a function
same_stmts : (ss : List CStmt) (r : List Token) → stmts_tokens ss r ≡ all (map stmt_tokens ss) r
same_stmts [] r = refl
same_stmts (s ∷ ss) r = ap (stmt_tokens s) (same_stmts ss r)

-- each of them fits
stmts_fit : (l : Locals) (ss : List CStmt) → stmts_allowed (scope l) ss ≡ true → stmts_depth ss ≤ 512 → FitsStmts l false 512 ss
stmts_fit l [] h p = tt
stmts_fit l (s ∷ ss) h p =
    let q = both_true (stmt_allowed (scope l) s false) (stmts_allowed (scope l) ss) h in
    (record { allowed = q.0; deep = omega arith }, stmts_fit l ss q.1 (omega arith))

-- all locals can be declared in turn
abbrev Reach : Locals → Type 0
Reach l = (ns : List Name) × Declares no_locals ns × (with_locals no_locals ns ≡ l)

declares_push : (l : Locals) (ns : List Name) (n : Name) → Declares l ns → may_declare (with_locals l ns) n ≡ true → Declares l (ns ++ n ∷ [])
declares_push l [] n d h = (h, tt)
declares_push l (m ∷ ns) n d h = (d.0, declares_push (with_local l m) ns n d.1 h)

locals_push : (l : Locals) (ns : List Name) (n : Name) → with_locals l (ns ++ n ∷ []) ≡ with_local (with_locals l ns) n
locals_push l [] n = refl
locals_push l (m ∷ ns) n = locals_push (with_local l m) ns n

reach_more : (l : Locals) (n : Name) → may_declare l n ≡ true → Reach l → Reach (with_local l n)
reach_more l n h (ns, d, e) = (ns ++ n ∷ [], declares_push no_locals ns n d (ap (λ q. may_declare q n) e ∙ h), locals_push no_locals ns n ∙ ap (λ q. with_local q n) e)

reach_t : (t : ℕ) → t < 2 ^ 32 → Reach (record { temps = t; bools = 0; selectors = 0 })
reach_t zero p = ([], tt, refl)
reach_t (suc t) p =
    let e : t + 1 ≡ suc t = omega arith in
    subst (λ q. Reach (record { temps = q; bools = 0; selectors = 0 })) e
    (reach_more (record { temps = t; bools = 0; selectors = 0 }) (name.T t) (two_true (nat_eq t t) (nat_lt t (2 ^ 32 - 1)) (eq-eqb t t refl) (lt-ltb t (2 ^ 32 - 1) (omega arith))) (reach_t t (omega arith)))

reach_b : (t b : ℕ) → t < 2 ^ 32 → b < 2 ^ 32 → Reach (record { temps = t; bools = b; selectors = 0 })
reach_b t zero p q = reach_t t p
reach_b t (suc b) p q =
    let e : b + 1 ≡ suc b = omega arith in
    subst (λ q. Reach (record { temps = t; bools = q; selectors = 0 })) e
    (reach_more (record { temps = t; bools = b; selectors = 0 }) (name.B b) (two_true (nat_eq b b) (nat_lt b (2 ^ 32 - 1)) (eq-eqb b b refl) (lt-ltb b (2 ^ 32 - 1) (omega arith))) (reach_b t b p (omega arith)))

reach_s : (t b s : ℕ) → t < 2 ^ 32 → b < 2 ^ 32 → s < 2 ^ 32 → Reach (record { temps = t; bools = b; selectors = s })
reach_s t b zero p q r = reach_b t b p q
reach_s t b (suc s) p q r =
    let e : s + 1 ≡ suc s = omega arith in
    subst (λ q. Reach (record { temps = t; bools = b; selectors = q })) e
    (reach_more (record { temps = t; bools = b; selectors = s }) (name.S s) (two_true (nat_eq s s) (nat_lt s (2 ^ 32 - 1)) (eq-eqb s s refl) (lt-ltb s (2 ^ 32 - 1) (omega arith))) (reach_s t b s p q (omega arith)))

pub from_the_start_is : FromTheStart
from_the_start_is f ts = (there, back)
  where
    there : GoesOn start f ts → IsWellFormed f × (ts ≡ fun_tokens f)
    there (r0, e0, (a, p, (r1, e1, (r2, e2, (r3, e3, (r4, e4, (r5, e5, (ns, d, (r6, e6, (ss, g, (r7, e7, z))))))))))) =
        let l : Locals = with_locals no_locals ns in
        let nb : Bounds a no_locals = record { address = p; temps = omega arith; bools = omega arith; selectors = omega arith } in
        let w : IsWellFormed (fun_of a l ss) = well_formed a l ss (names_bounds a no_locals ns nb d) g in
        let e : r5 ≡ Decls l (stmts_tokens ss (tok.End ∷ [])) =
        e6 ∙ ap (names_tokens ns) (e7 ∙ ap (λ q. all (map stmt_tokens ss) (tok.End ∷ q)) z.0 ∙ sym (same_stmts ss (tok.End ∷ []))) ∙ names_are no_locals ns (stmts_tokens ss (tok.End ∷ [])) d in (
          subst IsWellFormed (sym z.1) w,
          e0 ∙ ap (λ q. tok.Void ∷ q) (e1 ∙ ap (λ q. tok.Function a ∷ q) (e2 ∙ ap (λ q. tok.Open ∷ q) (e3 ∙ ap (λ q. tok.Void ∷ q) (e4 ∙ ap (λ q. tok.Close ∷ q) (e5 ∙ ap (λ q. tok.Begin ∷ q) e)))))
              ∙ ap fun_tokens (sym z.1),
        )

    back : IsWellFormed f × (ts ≡ fun_tokens f) → GoesOn start f ts
    back (w, e) =
        let l : Locals = record { temps = f.temps; bools = f.bools; selectors = f.selectors } in
        let m : Reach l = reach_s f.temps f.bools f.selectors w.temps w.bools w.selectors in
        let r6 : List Token = all (map stmt_tokens f.body) (tok.End ∷ []) in
        let r5 : List Token = names_tokens m.0 r6 in
        let g : Decls l (stmts_tokens f.body (tok.End ∷ [])) ≡ r5 =
        ap (Decls l) (same_stmts f.body (tok.End ∷ [])) ∙ sym (names_are no_locals m.0 r6 m.1 ∙ ap (λ q. Decls q r6) m.2) in (
          tok.Function f.address ∷ tok.Open ∷ tok.Void ∷ tok.Close ∷ tok.Begin ∷ r5,
          e ∙ ap (λ q. tok.Void ∷ tok.Function f.address ∷ tok.Open ∷ tok.Void ∷ tok.Close ∷ tok.Begin ∷ q) g,
          (
            f.address,
            w.address,
            (
              tok.Open ∷ tok.Void ∷ tok.Close ∷ tok.Begin ∷ r5,
              refl,
              (
                tok.Void ∷ tok.Close ∷ tok.Begin ∷ r5,
                refl,
                (
                  tok.Close ∷ tok.Begin ∷ r5,
                  refl,
                  (
                    tok.Begin ∷ r5,
                    refl,
                    (
                      r5,
                      refl,
                      (m.0, m.1, (r6, refl, subst (λ q. Statements f f.address q r6) (sym m.2) (f.body, stmts_fit l f.body w.allowed w.depth, ([], refl, (refl, refl))))),
                    ),
                  ),
                ),
              ),
            ),
          ),
        )
