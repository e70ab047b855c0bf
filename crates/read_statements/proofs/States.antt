-- The law on the reading of a token: declarations and head.
use Rattle.std.proofs.Common.{◌≡◌, ℕ, ◌-◌, ◌^◌, ◌<◌, ◌≤◌, Bool, true, false, ◌&&◌, nat_lt, nat_eq, List, [], ◌∷◌, Option, Some, None, if◌then◌else◌, refl, sym, ap, ◌∙◌, subst, arith}
use Rattle.std.proofs.lemmas.Bool.{eqb-true}
use borrow.Author.Tests.{lt-ltb, ltb-true}
use Rattle.dream_words.specs.declared.machine.Name.{Name}
use Rattle.dream_words.specs.declared.machine.Name.TheVariants as name
use Rattle.c_syntax.specs.declared.syntax.CStmt.{CStmt}
use Rattle.c_syntax.specs.declared.syntax.CFun.{CFun}
use Rattle.c_syntax.specs.declared.token.Token.{Token}
use Rattle.c_syntax.specs.declared.token.Token.TheVariants as tok
use Rattle.c_syntax.specs.Depth.{stmts_depth}
use Rattle.c_syntax.specs.Formed.{stmt_allowed, stmts_allowed, IsWellFormed}
use Rattle.c_lex.specs.Lexemes.{IsToken}
use Rattle.read_words.specs.declared.open.Locals.{Locals}
use Rattle.read_words.specs.Turns.{scope}
use Rattle.read_words.specs.Rests.{Follows}
use Rattle.read_words.proofs.Fitting.{both_true, two_true}
use Rattle.read_words.proofs.Beginning.{head_of, tail_of}
use Rattle.read_statements.specs.declared.open.Mark.{Mark}
use Rattle.read_statements.specs.declared.open.Mark.TheVariants as mark
use Rattle.read_statements.specs.declared.open.Head.{Head}
use Rattle.read_statements.specs.declared.open.Head.TheVariants as head
use Rattle.read_statements.specs.declared.open.Decl.{Decl}
use Rattle.read_statements.specs.declared.open.Decl.TheVariants as decl
use Rattle.read_statements.specs.declared.open.Point.TheVariants as point
use Rattle.read_statements.specs.Turns.{is_mark, expect, At, placed, Outcome, Going, Ended, body_step, State, Begun, Declaring, Within, Whole, fun_of, no_locals, may_declare, with_local, at_function, head_step, became, first_step, next_decl, at_local, decl_step, step_of}
use Rattle.read_statements.specs.Rests.{FitsStmts, BodyGoesOn, Ends, names_tokens, Statements, DeclsThen, NamedThen, DeclRest, AddressThen, FunctionThen, HeadRest, GoesOn}
use Rattle.read_statements.specs.Reads.{Bounds, HeadFits, IsRead, IsStep, OneToken}
use Rattle.read_statements.proofs.Steps.{IsOutcome, body_is}
use Rattle.read_statements.proofs.Turning.{mark_token, mark_same, mark_is, only_one}

no_truth : {A : Type 0} → false ≡ true → A
no_truth h = absurd (let z : ⊥ = cc in z)

fun_is : {a c : ℕ} → tok.Function a ≡ tok.Function c → a ≡ c
fun_is h = cc

name_is : {m n : Name} → tok.Name m ≡ tok.Name n → m ≡ n
name_is h = cc

-- ---- a function of statements that fit is well formed

module _ (a : ℕ) (l : Locals) where
  all_allowed : (ss : List CStmt) → FitsStmts l false 512 ss → stmts_allowed (scope l) ss ≡ true
  all_allowed [] f = refl
  all_allowed (s ∷ ss) f = two_true (stmt_allowed (scope l) s false) (stmts_allowed (scope l) ss) f.0.allowed (all_allowed ss f.1)

  all_deep : (ss : List CStmt) → FitsStmts l false 512 ss → stmts_depth ss ≤ 512
  all_deep [] f = omega arith
  all_deep (s ∷ ss) f = let p = f.0.deep in let q = all_deep ss f.1 in omega arith

  pub well_formed : (ss : List CStmt) → Bounds a l → FitsStmts l false 512 ss → IsWellFormed (fun_of a l ss)
  well_formed ss b f = record {
    address = b.address;
    temps = b.temps;
    bools = b.bools;
    selectors = b.selectors;
    allowed = all_allowed ss f;
    depth = all_deep ss f;
  }

module _ (f : CFun) where
  -- what became of the Bodies
  became_is : (a : ℕ) (l : Locals) (o : Option Outcome) (ts : List Token) (before : Type 0) → Bounds a l → IsOutcome l (Ends f a l) o ts before → IsStep f (became a l o) ts before
  became_is a l None ts before b h = h
  became_is a l (Some (Going c)) ts before b h = ((b, h.0), h.1)
  became_is a l (Some (Ended ss)) ts before b h = (well_formed a l ss b h.0, h.1)

  step_if : (q : Bool) (s : State) (ts : List Token) (before : Type 0) → (q ≡ true → IsStep f (Some s) ts before) → (before → q ≡ true) → IsStep f (if q then Some s else None) ts before
  step_if true s ts before g h = g refl
  step_if false s ts before g h = λ z. no_truth (h z)

  step_same : (s : Option State) (ts : List Token) (A B : Type 0) → (A → B) → (B → A) → IsStep f s ts B → IsStep f s ts A
  step_same None ts A B to from h = λ a. h (to a)
  step_same (Some s) ts A B to from h = (h.0, ((λ a. h.1.0 (to a)), (λ z. from (h.1.1 z))))

  expect_is : (m : Mark) (s : State) (x : Token) (ts : List Token) → IsRead s → IsStep f (expect m s x) ts (Follows (mark_token m) (GoesOn s f) (x ∷ ts))
  expect_is m s x ts r = step_if (is_mark m x) s ts (Follows (mark_token m) (GoesOn s f) (x ∷ ts))
      (λ e. (r, ((λ h. subst (GoesOn s f) (sym (tail_of h.1)) h.2), (λ z. (ts, ap (λ q. q ∷ ts) (mark_is m x e), z)))))
      (λ h. ap (is_mark m) (head_of h.1) ∙ mark_same m)

  -- ---- declarations

  module _ (a : ℕ) (l : Locals) where
    -- after the declarations comes no other
    only_stmts : (x : Token) (ts : List Token) → (x ≡ tok.Uint32 → ⊥) → DeclsThen f a l (x ∷ ts) → Statements f a l (x ∷ ts)
    only_stmts x ts n ([], d, (r, e, z)) = subst (Statements f a l) (sym e) z
    only_stmts x ts n (m ∷ ns, d, (r, e, z)) = absurd (n (head_of e))

    only_decl : (ts : List Token) → DeclsThen f a l (tok.Uint32 ∷ ts) → DeclRest f a l decl.Local ts
    only_decl ts ([], d, (r, e, z)) = absurd (only_one l false 512 (Ends f a l) [] tok.Uint32 ts (λ e. cc) (subst (Statements f a l) (sym e) z))
    only_decl ts (n ∷ ns, d, (r, e, z)) =
        let r0 : List Token = names_tokens ns r in
        (n, d.0, (tok.Assign ∷ tok.Zero ∷ tok.Semicolon ∷ r0, tail_of e, (tok.Zero ∷ tok.Semicolon ∷ r0, refl, (tok.Semicolon ∷ r0, refl, (r0, refl, (ns, d.1, (r, refl, z)))))))

    one_decl : (ts : List Token) → DeclRest f a l decl.Local ts → DeclsThen f a l (tok.Uint32 ∷ ts)
    one_decl ts (n, m, (r0, e0, (r1, e1, (r2, e2, (r3, e3, (ns, d, (r, e, z))))))) =
        (n ∷ ns, (m, d), (r, ap (λ q. tok.Uint32 ∷ q) (e0 ∙ ap (λ q. tok.Name n ∷ q) (e1 ∙ ap (λ q. tok.Assign ∷ q) (e2 ∙ ap (λ q. tok.Zero ∷ q) (e3 ∙ ap (λ q. tok.Semicolon ∷ q) e)))), z))

    -- a local that may be declared: there is room for its number
    room : (n : Name) → may_declare l n ≡ true → l.selectors < 2 ^ 32 - 1
    room (name.T n) h =
        let p = both_true (nat_eq n l.temps) (nat_eq l.bools 0 && (nat_eq l.selectors 0 && nat_lt n (2 ^ 32 - 1))) h in
        let q = both_true (nat_eq l.bools 0) (nat_eq l.selectors 0 && nat_lt n (2 ^ 32 - 1)) p.1 in
        let r = both_true (nat_eq l.selectors 0) (nat_lt n (2 ^ 32 - 1)) q.1 in
        let e : l.selectors ≡ 0 = eqb-true l.selectors 0 r.0 in omega arith
    room (name.B n) h =
        let q = both_true (nat_eq n l.bools) (nat_eq l.selectors 0 && nat_lt n (2 ^ 32 - 1)) h in
        let r = both_true (nat_eq l.selectors 0) (nat_lt n (2 ^ 32 - 1)) q.1 in
        let e : l.selectors ≡ 0 = eqb-true l.selectors 0 r.0 in omega arith
    room (name.S n) h =
        let r = both_true (nat_eq n l.selectors) (nat_lt n (2 ^ 32 - 1)) h in
        let e : n ≡ l.selectors = eqb-true n l.selectors r.0 in
        let p : n < 2 ^ 32 - 1 = ltb-true n (2 ^ 32 - 1) r.1 in omega arith
    room (name.Reg n) h = no_truth h
    room (name.Flag n) h = no_truth h
    room name.Fs h = no_truth h
    room name.Gs h = no_truth h

    -- with it the locals stay within their bounds
    pub local_bounds : (n : Name) → Bounds a l → may_declare l n ≡ true → Bounds a (with_local l n)
    local_bounds (name.T n) b h =
        let p = both_true (nat_eq n l.temps) (nat_eq l.bools 0 && (nat_eq l.selectors 0 && nat_lt n (2 ^ 32 - 1))) h in
        let q = both_true (nat_eq l.bools 0) (nat_eq l.selectors 0 && nat_lt n (2 ^ 32 - 1)) p.1 in
        let r = both_true (nat_eq l.selectors 0) (nat_lt n (2 ^ 32 - 1)) q.1 in
        let e : n ≡ l.temps = eqb-true n l.temps p.0 in
        let m : n < 2 ^ 32 - 1 = ltb-true n (2 ^ 32 - 1) r.1 in
        record { address = b.address; temps = omega arith; bools = b.bools; selectors = b.selectors }
    local_bounds (name.B n) b h =
        let q = both_true (nat_eq n l.bools) (nat_eq l.selectors 0 && nat_lt n (2 ^ 32 - 1)) h in
        let r = both_true (nat_eq l.selectors 0) (nat_lt n (2 ^ 32 - 1)) q.1 in
        let e : n ≡ l.bools = eqb-true n l.bools q.0 in
        let m : n < 2 ^ 32 - 1 = ltb-true n (2 ^ 32 - 1) r.1 in
        record { address = b.address; temps = b.temps; bools = omega arith; selectors = b.selectors }
    local_bounds (name.S n) b h =
        let r = both_true (nat_eq n l.selectors) (nat_lt n (2 ^ 32 - 1)) h in
        let e : n ≡ l.selectors = eqb-true n l.selectors r.0 in
        let m : n < 2 ^ 32 - 1 = ltb-true n (2 ^ 32 - 1) r.1 in
        record { address = b.address; temps = b.temps; bools = b.bools; selectors = omega arith }
    local_bounds (name.Reg n) b h = no_truth h
    local_bounds (name.Flag n) b h = no_truth h
    local_bounds name.Fs b h = no_truth h
    local_bounds name.Gs b h = no_truth h

    stmts_are : (x : Token) (ts : List Token) → Bounds a l → IsToken x → (x ≡ tok.Uint32 → ⊥) → IsStep f (first_step a l x) ts (DeclsThen f a l (x ∷ ts))
    stmts_are x ts b i n =
        step_same (first_step a l x) ts (DeclsThen f a l (x ∷ ts)) (Statements f a l (x ∷ ts)) (only_stmts x ts n) (λ z. ([], tt, (x ∷ ts, refl, z)))
        (became_is a l (body_step l (placed [] [] (At point.Stmt)) x) ts (Statements f a l (x ∷ ts)) b
        (body_is l (Ends f a l) (placed [] [] (At point.Stmt)) x ts (record { open_fit = tt; stmts_fit = tt; place_fits = tt }) i))

    next_is : (x : Token) (ts : List Token) → Bounds a l → IsToken x → IsStep f (next_decl a l x) ts (DeclsThen f a l (x ∷ ts))
    next_is tok.Uint32 ts b i = step_if (nat_lt l.selectors (2 ^ 32 - 1)) (Declaring a l decl.Local) ts (DeclsThen f a l (tok.Uint32 ∷ ts))
        (λ q. ((b, ltb-true l.selectors (2 ^ 32 - 1) q), (only_decl ts, one_decl ts)))
        (λ h. let g = only_decl ts h in lt-ltb l.selectors (2 ^ 32 - 1) (room g.0 g.1))
    next_is x ts b i = stmts_are x ts b i (λ e. cc)

    local_is : (x : Token) (ts : List Token) → Bounds a l → IsStep f (at_local a l x) ts (DeclRest f a l decl.Local (x ∷ ts))
    local_is (tok.Name n) ts b = step_if (may_declare l n) (Declaring a (with_local l n) decl.Assign) ts (DeclRest f a l decl.Local (tok.Name n ∷ ts))
        (λ q. ((local_bounds n b q, tt), ((λ h. (there h).1), (λ z. (n, q, (ts, refl, z))))))
        (λ h. (there h).0)
      where
        there : DeclRest f a l decl.Local (tok.Name n ∷ ts) → (may_declare l n ≡ true) × NamedThen f a (with_local l n) ts
        there (m, d, (r, e, z)) =
            subst (λ q. (may_declare l q ≡ true) × NamedThen f a (with_local l q) ts) (sym (name_is (head_of e))) (d, subst (NamedThen f a (with_local l m)) (sym (tail_of e)) z)
    local_is x ts b = λ h. absurd (cc (head_of h.2.1))

    decl_is : (d : Decl) (x : Token) (ts : List Token) → Bounds a l → IsToken x → IsStep f (decl_step a l d x) ts (DeclRest f a l d (x ∷ ts))
    decl_is decl.Next x ts b i = next_is x ts b i
    decl_is decl.Local x ts b i = local_is x ts b
    decl_is decl.Assign x ts b i = expect_is mark.Assign (Declaring a l decl.Zero) x ts (b, tt)
    decl_is decl.Zero x ts b i = expect_is mark.Zero (Declaring a l decl.Semicolon) x ts (b, tt)
    decl_is decl.Semicolon x ts b i = expect_is mark.Semicolon (Declaring a l decl.Next) x ts (b, tt)

  -- ---- the head

  function_is : (x : Token) (ts : List Token) → IsToken x → IsStep f (at_function x) ts (FunctionThen f (x ∷ ts))
  function_is (tok.Function a) ts i = (i, (there, (λ z. (a, i, (ts, refl, z)))))
    where
      there : FunctionThen f (tok.Function a ∷ ts) → AddressThen f a ts
      there (c, p, (r, e, z)) = subst (λ q. AddressThen f q ts) (sym (fun_is (head_of e))) (subst (AddressThen f c) (sym (tail_of e)) z)
  function_is x ts i = λ h. absurd (cc (head_of h.2.1))

  no_bounds : (a : ℕ) → a < 2 ^ 32 → Bounds a no_locals
  no_bounds a p = record { address = p; temps = omega arith; bools = omega arith; selectors = omega arith }

  head_is : (h : Head) (x : Token) (ts : List Token) → HeadFits h → IsToken x → IsStep f (head_step h x) ts (HeadRest f h (x ∷ ts))
  head_is head.Void x ts p i = expect_is mark.Void (Begun head.Function) x ts tt
  head_is head.Function x ts p i = function_is x ts i
  head_is (head.Open a) x ts p i = expect_is mark.Open (Begun (head.Nothing a)) x ts p
  head_is (head.Nothing a) x ts p i = expect_is mark.Void (Begun (head.Close a)) x ts p
  head_is (head.Close a) x ts p i = expect_is mark.Close (Begun (head.Begin a)) x ts p
  head_is (head.Begin a) x ts p i = expect_is mark.Begin (Declaring a no_locals decl.Next) x ts (no_bounds a p, tt)

  pub state_is : (s : State) (x : Token) (ts : List Token) → IsRead s → IsToken x → IsStep f (step_of s x) ts (GoesOn s f (x ∷ ts))
  state_is (Begun h) x ts r i = head_is h x ts r i
  state_is (Declaring a l d) x ts r i = decl_is a l d x ts r.0 i
  state_is (Within a l b) x ts r i = became_is a l (body_step l b x) ts (BodyGoesOn l (Ends f a l) b (x ∷ ts)) r.0 (body_is l (Ends f a l) b x ts r.1 i)
  state_is (Whole g) x ts r i = λ h. absurd (let e = h.0 in let z : ⊥ = cc in z)

pub one_token_is : OneToken
one_token_is s f x ts r i = state_is f s x ts r i
