-- A text stands for at most one function: a parser of whole functions that inverts the tokens.
use Rattle.std.proofs.Common.{◌≡◌, ℕ, zero, suc, ◌+◌, ◌<◌, ◌≤◌, ◌-◌, Bool, true, false, if◌then◌else◌, List, [], ◌∷◌, ◌++◌, Option, Some, None, refl, sym, ap, ◌∙◌, arith, map}
use Rattle.dream_words.specs.declared.machine.Name.{Name}
use Rattle.dream_words.specs.declared.machine.Name.TheVariants as name
use Rattle.c_syntax.specs.declared.syntax.CStmt.{CStmt}
use Rattle.c_syntax.specs.declared.syntax.CFun.{CFun}
use Rattle.c_syntax.specs.declared.token.Token.{Token}
use Rattle.c_syntax.specs.declared.token.Token.TheVariants as t
use Rattle.c_syntax.specs.Lex.{lex}
use Rattle.c_syntax.specs.Text.{include_line}
use Rattle.c_syntax.specs.Tokens.{all, stmt_tokens, stmts_tokens, decls_tokens, fun_tokens}
use Rattle.c_syntax.specs.Formed.{IsWellFormed}
use Rattle.c_syntax.specs.Stands.{OneFunction}
use Rattle.c_syntax.proofs.Spelled.{IsToken, AreTokens, one_spelling}
use Rattle.c_syntax.proofs.ReadStmts.{Of, and_then, stmts, size_of, AllRead, Begins}
use Rattle.c_syntax.proofs.ReadStmts as read
use Rattle.c_syntax.proofs.Formed.{Bounds, Keeps}
use Rattle.c_syntax.proofs.Formed as formed

-- the three kinds of locals
abbrev is_t : Name → Bool
is_t (name.T n) = true
is_t _ = false

abbrev is_b : Name → Bool
is_b (name.B n) = true
is_b _ = false

abbrev is_s : Name → Bool
is_s (name.S n) = true
is_s _ = false

-- how many declarations of a kind stand at the front, after c others
abbrev count : (Name → Bool) → ℕ → ℕ → List Token → Of ℕ
count is zero c ts = None
count is (suc m) c (t.Uint32 ∷ t.Name n ∷ t.Assign ∷ t.Zero ∷ t.Semicolon ∷ ts) =
    if is n then count is m (suc c) ts else Some (c, t.Uint32 ∷ t.Name n ∷ t.Assign ∷ t.Zero ∷ t.Semicolon ∷ ts)
count is (suc m) c ts = Some (c, ts)

-- the function that tokens are those of
abbrev function : ℕ → List Token → Option CFun
function k (t.Void ∷ t.Function a ∷ t.Open ∷ t.Void ∷ t.Close ∷ t.Begin ∷ ts) =
    and_then (count is_t k 0 ts) (λ temps ts. and_then (count is_b k 0 ts) (λ bools ts. and_then (count is_s k 0 ts) (λ selectors ts.
    and_then (stmts k ts) (λ ss ts. Some (record { address = a; temps = temps; bools = bools; selectors = selectors; body = ss })))))
function k _ = None

-- no declaration of the kind comes first
abbrev Without : (Name → Bool) → List Token → Type 0
Without is ts = (m c : ℕ) → count is (suc m) c ts ≡ Some (c, ts)

-- no statement begins as a declaration does
without_stmt : (is : Name → Bool) (ts : List Token) → Begins ts → Without is ts
without_stmt is [] s m c = absurd s
without_stmt is (t.Uint32 ∷ ts) s m c = absurd (cc)
without_stmt is (x ∷ ts) s m c = refl

without_stmts : (is : Name → Bool) (ss : List CStmt) → AllRead ss → (r : List Token) → Without is (stmts_tokens ss (t.End ∷ r))
without_stmts is [] h r m c = refl
without_stmts is (s ∷ ss) h r m c = without_stmt is _ (h.0.begins (stmts_tokens ss (t.End ∷ r))) m c

-- declarations of another kind don't count
without_decls : (is : Name → Bool) (kind : ℕ → Name) → ((n : ℕ) → is (kind n) ≡ false) → (n : ℕ) (r : List Token) → Without is r → Without is (decls_tokens kind n r)
without_decls is kind not zero r h = h
without_decls is kind not (suc n) r h = without_decls is kind not n _ (λ m c.
    ap (λ q. if q then count is m (suc c) r else Some (c, t.Uint32 ∷ t.Name (kind n) ∷ t.Assign ∷ t.Zero ∷ t.Semicolon ∷ r)) (not n))

-- the declarations of a kind are counted
counted : (is : Name → Bool) (kind : ℕ → Name) → ((n : ℕ) → is (kind n) ≡ true) → (n m c d : ℕ) (r ts : List Token) → ((c' : ℕ) → count is m c' r ≡ Some (c' + d, ts))
    → count is (n + m) c (decls_tokens kind n r) ≡ Some (c + (n + d), ts)
counted is kind yes' zero m c d r ts h =
    (let e : 0 + m ≡ m = omega arith in ap (λ q. count is q c r) e) ∙ h c ∙ (let e : c + d ≡ c + (0 + d) = omega arith in ap (λ q. Some (q, ts)) e)
counted is kind yes' (suc n) m c d r ts h =
    (let e : suc n + m ≡ n + suc m = omega arith in ap (λ q. count is q c (decls_tokens kind (suc n) r)) e)
    ∙ counted is kind yes' n (suc m) c (suc d) (t.Uint32 ∷ t.Name (kind n) ∷ t.Assign ∷ t.Zero ∷ t.Semicolon ∷ r) ts (λ c'.
    ap (λ q. if q then count is m (suc c') r else Some (c', t.Uint32 ∷ t.Name (kind n) ∷ t.Assign ∷ t.Zero ∷ t.Semicolon ∷ r)) (yes' n)
    ∙ h (suc c') ∙ (let e : suc c' + d ≡ c' + suc d = omega arith in ap (λ q. Some (q, ts)) e))
    ∙ (let e : c + (n + suc d) ≡ c + (suc n + d) = omega arith in ap (λ q. Some (q, ts)) e)

-- the declarations of a kind are counted, up to those of the next
all_counted : (is : Name → Bool) (kind : ℕ → Name) → ((n : ℕ) → is (kind n) ≡ true) → (n k : ℕ) (r : List Token) → Without is r → suc n ≤ k
    → count is k 0 (decls_tokens kind n r) ≡ Some (n, r)
all_counted is kind yes' n zero r h l = absurd (omega arith)
all_counted is kind yes' n (suc k) r h l =
    (let e : suc k ≡ n + suc (k - n) = omega arith in ap (λ q. count is q 0 (decls_tokens kind n r)) e)
    ∙ counted is kind yes' n (suc (k - n)) 0 0 r r (λ c. h (k - n) c ∙ (let e : c ≡ c + 0 = omega arith in ap (λ q. Some (q, r)) e))
    ∙ (let e : 0 + (n + 0) ≡ n = omega arith in ap (λ q. Some (q, r)) e)

-- statements, as they stand in a function
same_stmts : (ss : List CStmt) (r : List Token) → stmts_tokens ss r ≡ all (map stmt_tokens ss) r
same_stmts [] r = refl
same_stmts (s ∷ ss) r = ap (stmt_tokens s) (same_stmts ss r)

module _ (f : CFun) (w : IsWellFormed f) where
  -- the statements are read
  read_stmts : AllRead f.body
  read_stmts = formed.stmts_read f (record { temps = w.temps; bools = w.bools; selectors = w.selectors }) f.body w.allowed

  -- enough for every recursion of the parser
  pub enough : ℕ
  enough = suc f.temps + suc f.bools + suc f.selectors + size_of f.body read_stmts

  -- the parser inverts the tokens of a well-formed function
  pub fun_read : (k : ℕ) → enough ≤ k → function k (fun_tokens f) ≡ Some f
  unfolding enough
  fun_read k l =
      let ss : List Token = stmts_tokens f.body (t.End ∷ []) in
      let selectors : List Token = decls_tokens name.S f.selectors ss in
      let bools : List Token = decls_tokens name.B f.bools selectors in
      ap (λ o. and_then o (λ temps ts. and_then (count is_b k 0 ts) (λ bools ts. and_then (count is_s k 0 ts) (λ selectors ts.
      and_then (stmts k ts) (λ ss ts. Some (record { address = f.address; temps = temps; bools = bools; selectors = selectors; body = ss }))))))
      (all_counted is_t name.T (λ n. refl) f.temps k bools
      (without_decls is_t name.B (λ n. refl) f.bools selectors (without_decls is_t name.S (λ n. refl) f.selectors ss (without_stmts is_t f.body read_stmts []))) (omega arith))
      ∙ ap (λ o. and_then o (λ bools ts. and_then (count is_s k 0 ts) (λ selectors ts.
      and_then (stmts k ts) (λ ss ts. Some (record { address = f.address; temps = f.temps; bools = bools; selectors = selectors; body = ss })))))
      (all_counted is_b name.B (λ n. refl) f.bools k selectors (without_decls is_b name.S (λ n. refl) f.selectors ss (without_stmts is_b f.body read_stmts [])) (omega arith))
      ∙ ap (λ o. and_then o (λ selectors ts. and_then (stmts k ts) (λ ss ts. Some (record { address = f.address; temps = f.temps; bools = f.bools; selectors = selectors; body = ss }))))
      (all_counted is_s name.S (λ n. refl) f.selectors k ss (without_stmts is_s f.body read_stmts []) (omega arith))
      ∙ ap (λ o. and_then o (λ ss ts. Some (record { address = f.address; temps = f.temps; bools = f.bools; selectors = f.selectors; body = ss })))
      (ap (stmts k) (same_stmts f.body (t.End ∷ [])) ∙ read.stmts_read f.body read_stmts k [] (omega arith))

  -- the declared names stand in some text
  decls_keep : (kind : ℕ → Name) → (n : ℕ) → ((m : ℕ) → m < n → IsToken (t.Name (kind m))) → Keeps (decls_tokens kind n)
  decls_keep kind zero h r v = v
  decls_keep kind (suc n) h r v = decls_keep kind n (λ m l. h m (omega arith)) _ (tt, (h n (omega arith), (tt, (tt, (tt, v)))))

  -- all tokens of a well-formed function are those of some text
  pub fun_tokens_are : AreTokens (fun_tokens f)
  fun_tokens_are =
      let a = w.temps in let b = w.bools in let s = w.selectors in (
        tt,
        (
          w.address,
          (
            tt,
            (
              tt,
              (
                tt,
                (
                  tt,
                  decls_keep name.T f.temps (λ m l. omega arith) _ (decls_keep name.B f.bools (λ m l. omega arith) _ (decls_keep name.S f.selectors (λ m l. omega arith) _
                      (formed.stmts_keep f (record { temps = w.temps; bools = w.bools; selectors = w.selectors }) f.body w.allowed _ (tt, tt)))),
                ),
              ),
            ),
          ),
        ),
      )

-- tokens are those of at most one well-formed function
pub one_reading : (f g : CFun) → IsWellFormed f → IsWellFormed g → fun_tokens f ≡ fun_tokens g → f ≡ g
one_reading f g wf wg e =
    let k : ℕ = enough f wf + enough g wg in
    let s : Some f ≡ Some g = sym (fun_read f wf k (omega arith)) ∙ ap (function k) e ∙ fun_read g wg k (omega arith) in cc

-- what follows the include line
same_rest : (xs ys : List ℕ) → include_line ++ xs ≡ include_line ++ ys → xs ≡ ys
same_rest xs ys h = cc

-- the law
pub one_function : OneFunction
one_function text f g sf sg =
    let r : sf.rest ≡ sg.rest = same_rest sf.rest sg.rest (sym sf.begins ∙ sg.begins) in
    one_reading f g sf.well_formed sg.well_formed
    (one_spelling (fun_tokens f) (fun_tokens g) (fun_tokens_are f sf.well_formed) (fun_tokens_are g sg.well_formed) (sym sf.tokens ∙ ap (lex []) r ∙ sg.tokens))
