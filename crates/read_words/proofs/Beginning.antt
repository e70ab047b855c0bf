-- The first token of what is wanted, and the tokens after it.
use Rattle.std.proofs.Common.{◌≡◌, inl, inr, ℕ, ◌-◌, ◌≤◌, true, List, [], ◌∷◌, refl, sym, ap, ◌∙◌, subst, arith}
use Rattle.c_syntax.specs.declared.syntax.CExpr.{CExpr, CExpr-F, roll-CExpr}
use Rattle.c_syntax.specs.declared.syntax.CCond.{CCond, CCond-F, roll-CCond}
use Rattle.c_syntax.specs.declared.syntax.CFn1.{CFn1}
use Rattle.c_syntax.specs.declared.syntax.CFn2.{CFn2}
use Rattle.c_syntax.specs.declared.syntax.CFn3.{CFn3}
use Rattle.c_syntax.specs.declared.token.Token.{Token}
use Rattle.c_syntax.specs.declared.token.Token.TheVariants as tok
use Rattle.read_words.specs.declared.open.Locals.{Locals}
use Rattle.read_words.specs.declared.open.Item.TheVariants as item
use Rattle.read_words.specs.declared.open.Wanted.{Wanted}
use Rattle.read_words.specs.declared.open.Wanted.TheVariants as want
use Rattle.read_words.specs.declared.open.Call.{Call}
use Rattle.read_words.specs.declared.open.Call.TheVariants as call
use Rattle.c_syntax.specs.Tokens.{word_tokens, cond_tokens}
use Rattle.c_syntax.specs.Formed.{is_declared}
use Rattle.c_syntax.proofs.Layers.{word_tokens_layer, cond_tokens_layer}
use Rattle.c_syntax.proofs.Induct.{WordCases, every_word, every_cond}
use Rattle.c_lex.specs.Lexemes.{IsToken}
use Rattle.read_words.specs.Turns.{scope, takes_word, takes_cond, argument}
use Rattle.read_words.specs.Rests.{Rest, FitsWord, FitsCond, Follows, Wants, After, InParens, WordSign, CondSign}
use Rattle.read_words.proofs.Fitting.{num_fits, name_fits, name_declared, not_word_parts, not_word_fits, bin_parts, bin_fits, fn1_parts, fn1_fits, fn2_parts, fn2_fits, fn3_parts, fn3_fits, pick_parts, pick_fits, cmp_parts, cmp_fits, not_cond_parts, not_cond_fits, and_parts, and_fits, or_parts, or_fits}

-- equal lists have equal first members and equal rests
pub head_of : {x y : Token} {xs ys : List Token} → x ∷ xs ≡ y ∷ ys → x ≡ y
head_of h = cc

pub tail_of : {x y : Token} {xs ys : List Token} → x ∷ xs ≡ y ∷ ys → xs ≡ ys
tail_of h = cc

module _ (l : Locals) (w : Wanted) (d : ℕ) (k : Rest) where
  -- a function's name, and what comes after it
  abbrev pub Calls : Call → List Token → Type 0
  Calls f ts = (takes_word w ≡ true) × (2 ≤ d) × Follows tok.Open (Wants l want.Word (d - 1) (After l d k (argument f))) ts

  -- what the first token is, and what comes after it
  abbrev pub Starts : Token → List Token → Type 0
  Starts (tok.Num n) ts = (takes_word w ≡ true) × k (item.Word (roll-CExpr (CExpr-F.Num n))) ts
  Starts (tok.Name n) ts = (takes_word w ≡ true) × (is_declared (scope l) n ≡ true) × k (item.Word (roll-CExpr (CExpr-F.Name n))) ts
  Starts (tok.Fn1 f) ts = Calls (call.One f) ts
  Starts (tok.Fn2 f) ts = Calls (call.Two f) ts
  Starts (tok.Fn3 f) ts = Calls (call.Three f) ts
  Starts tok.Open ts = (2 ≤ d) × InParens l d k w ts
  Starts _ ts = ⊥

  begun : (x y : Token) (ts us : List Token) → x ∷ ts ≡ y ∷ us → Starts y us → Starts x ts
  begun x y ts us e h = subst (λ q. Starts q ts) (sym (head_of e)) (subst (Starts y) (sym (tail_of e)) h)

  abbrev WordStarts : CExpr → Type 0
  WordStarts a = (x : Token) (ts r : List Token) → takes_word w ≡ true → FitsWord l d a → x ∷ ts ≡ word_tokens a r → k (item.Word a) r → Starts x ts

  abbrev CondStarts : CCond → Type 0
  CondStarts c = (x : Token) (ts r : List Token) → takes_cond w ≡ true → FitsCond l d c → x ∷ ts ≡ cond_tokens c r → k (item.Cond c) r → Starts x ts

  word_starts : WordCases WordStarts CondStarts
  word_starts = record {
    num = λ n x ts r t f e z. begun x (tok.Num n) ts r (e ∙ ap (λ p. p r) (word_tokens_layer (CExpr-F.Num n))) (t, z);
    name = λ n x ts r t f e z. begun x (tok.Name n) ts r (e ∙ ap (λ p. p r) (word_tokens_layer (CExpr-F.Name n))) (t, name_declared l d n f, z);
    not_word = λ a ha x ts r t f e z. let p = not_word_parts l d a f in
        begun x tok.Open ts (tok.Tilde ∷ word_tokens a (tok.Close ∷ r)) (e ∙ ap (λ p. p r) (word_tokens_layer (CExpr-F.«CExpr::Not» a)))
        (p.0, inl (t, (word_tokens a (tok.Close ∷ r), refl, (item.Word a, (refl, p.1), (tok.Close ∷ r, refl, (r, refl, z))))));
    bin = λ op a b ha hb x ts r t f e z. let p = bin_parts l d op a b f in
        begun x tok.Open ts (word_tokens a (tok.Op op ∷ word_tokens b (tok.Close ∷ r))) (e ∙ ap (λ p. p r) (word_tokens_layer (CExpr-F.Bin op a b)))
        (p.0, inr (inr (item.Word a, (refl, p.1), (tok.Op op ∷ word_tokens b (tok.Close ∷ r), refl, (t, (item.Word b, (refl, p.2), (tok.Close ∷ r, refl, (r, refl, z))))))));
    fn1 = λ g a ha x ts r t f e z. let p = fn1_parts l d g a f in
        begun x (tok.Fn1 g) ts (tok.Open ∷ word_tokens a (tok.Close ∷ r)) (e ∙ ap (λ p. p r) (word_tokens_layer (CExpr-F.Fn1 g a)))
        (t, p.0, (word_tokens a (tok.Close ∷ r), refl, (item.Word a, (refl, p.1), (tok.Close ∷ r, refl, (r, refl, z)))));
    fn2 = λ g a b ha hb x ts r t f e z. let p = fn2_parts l d g a b f in
        begun x (tok.Fn2 g) ts (tok.Open ∷ word_tokens a (tok.Comma ∷ word_tokens b (tok.Close ∷ r))) (e ∙ ap (λ p. p r) (word_tokens_layer (CExpr-F.Fn2 g a b))) (
          t,
          p.0,
          (
            word_tokens a (tok.Comma ∷ word_tokens b (tok.Close ∷ r)),
            refl,
            (
              item.Word a,
              (refl, p.1),
              (
                tok.Comma ∷ word_tokens b (tok.Close ∷ r),
                refl,
                (word_tokens b (tok.Close ∷ r), refl, (item.Word b, (refl, p.2), (tok.Close ∷ r, refl, (r, refl, z)))),
              ),
            ),
          ),
        );
    fn3 = λ g a b q ha hb hq x ts r t f e z. let p = fn3_parts l d g a b q f in
        begun x (tok.Fn3 g) ts (tok.Open ∷ word_tokens a (tok.Comma ∷ word_tokens b (tok.Comma ∷ word_tokens q (tok.Close ∷ r)))) (e ∙ ap (λ p. p r) (word_tokens_layer (CExpr-F.Fn3 g a b q))) (
          t,
          p.0,
          (
            word_tokens a (tok.Comma ∷ word_tokens b (tok.Comma ∷ word_tokens q (tok.Close ∷ r))),
            refl,
            (
              item.Word a,
              (refl, p.1),
              (
                tok.Comma ∷ word_tokens b (tok.Comma ∷ word_tokens q (tok.Close ∷ r)),
                refl,
                (
                  word_tokens b (tok.Comma ∷ word_tokens q (tok.Close ∷ r)),
                  refl,
                  (
                    item.Word b,
                    (refl, p.2),
                    (
                      tok.Comma ∷ word_tokens q (tok.Close ∷ r),
                      refl,
                      (word_tokens q (tok.Close ∷ r), refl, (item.Word q, (refl, p.3), (tok.Close ∷ r, refl, (r, refl, z)))),
                    ),
                  ),
                ),
              ),
            ),
          ),
        );
    pick = λ u a b hu ha hb x ts r t f e z. let p = pick_parts l d u a b f in
        begun x tok.Open ts (cond_tokens u (tok.Question ∷ word_tokens a (tok.Colon ∷ word_tokens b (tok.Close ∷ r)))) (e ∙ ap (λ p. p r) (word_tokens_layer (CExpr-F.Pick u a b))) (
          p.0,
          inr (inr (
            item.Cond u,
            (refl, p.1),
            (
              tok.Question ∷ word_tokens a (tok.Colon ∷ word_tokens b (tok.Close ∷ r)),
              refl,
              (
                t,
                (
                  item.Word a,
                  (refl, p.2),
                  (
                    tok.Colon ∷ word_tokens b (tok.Close ∷ r),
                    refl,
                    (word_tokens b (tok.Close ∷ r), refl, (item.Word b, (refl, p.3), (tok.Close ∷ r, refl, (r, refl, z)))),
                  ),
                ),
              ),
            ),
          )),
        );
    cmp = λ op a b ha hb x ts r t f e z. let p = cmp_parts l d op a b f in
        begun x tok.Open ts (word_tokens a (tok.Compare op ∷ word_tokens b (tok.Close ∷ r))) (e ∙ ap (λ p. p r) (cond_tokens_layer (CCond-F.Cmp op a b)))
        (p.0, inr (inr (item.Word a, (refl, p.1), (tok.Compare op ∷ word_tokens b (tok.Close ∷ r), refl, (t, (item.Word b, (refl, p.2), (tok.Close ∷ r, refl, (r, refl, z))))))));
    not_cond = λ u hu x ts r t f e z. let p = not_cond_parts l d u f in
        begun x tok.Open ts (tok.Bang ∷ cond_tokens u (tok.Close ∷ r)) (e ∙ ap (λ p. p r) (cond_tokens_layer (CCond-F.«CCond::Not» u)))
        (omega arith, inr (inl (t, (cond_tokens u (tok.Close ∷ r), refl, (item.Cond u, (refl, p.1), (tok.Close ∷ r, refl, (r, refl, z)))))));
    both = λ u v hu hv x ts r t f e z. let p = and_parts l d u v f in
        begun x tok.Open ts (cond_tokens u (tok.Both ∷ cond_tokens v (tok.Close ∷ r))) (e ∙ ap (λ p. p r) (cond_tokens_layer (CCond-F.And u v)))
        (p.0, inr (inr (item.Cond u, (refl, p.1), (tok.Both ∷ cond_tokens v (tok.Close ∷ r), refl, (t, (item.Cond v, (refl, p.2), (tok.Close ∷ r, refl, (r, refl, z))))))));
    either = λ u v hu hv x ts r t f e z. let p = or_parts l d u v f in
        begun x tok.Open ts (cond_tokens u (tok.Either ∷ cond_tokens v (tok.Close ∷ r))) (e ∙ ap (λ p. p r) (cond_tokens_layer (CCond-F.Or u v)))
        (p.0, inr (inr (item.Cond u, (refl, p.1), (tok.Either ∷ cond_tokens v (tok.Close ∷ r), refl, (t, (item.Cond v, (refl, p.2), (tok.Close ∷ r, refl, (r, refl, z))))))));
  }

  -- what is wanted begins with its first token
  pub wants_start : (x : Token) (ts : List Token) → Wants l w d k (x ∷ ts) → Starts x ts
  wants_start x ts (item.Word a, f, (r, e, z)) = every_word word_starts a x ts r f.0 f.1 e z
  wants_start x ts (item.Cond c, f, (r, e, z)) = every_cond word_starts c x ts r f.0 f.1 e z

  -- what such a token and the tokens after it make
  word_made : (y : CExpr-F CCond CExpr) (ts us r : List Token) → takes_word w ≡ true → FitsWord l d (roll-CExpr y) → ts ≡ us → word_tokens (roll-CExpr y) r ≡ us → k (item.Word (roll-CExpr y)) r → Wants l w d k ts
  word_made y ts us r t f e g z = (item.Word (roll-CExpr y), (t, f), (r, e ∙ sym g, z))

  cond_made : (y : CCond-F CCond CExpr) (ts us r : List Token) → takes_cond w ≡ true → FitsCond l d (roll-CCond y) → ts ≡ us → cond_tokens (roll-CCond y) r ≡ us → k (item.Cond (roll-CCond y)) r → Wants l w d k ts
  cond_made y ts us r t f e g z = (item.Cond (roll-CCond y), (t, f), (r, e ∙ sym g, z))

  -- a function and its arguments
  one_made : (g : CFn1) (ts : List Token) → Calls (call.One g) ts → Wants l w d k (tok.Fn1 g ∷ ts)
  one_made g ts (t, p, (us, e, (item.Cond c, f, q))) = absurd q.2
  one_made g ts (t, p, (us, e, (item.Word a, f, (r1, e1, (r, e2, z))))) =
      word_made (CExpr-F.Fn1 g a) (tok.Fn1 g ∷ ts) (tok.Fn1 g ∷ tok.Open ∷ word_tokens a (tok.Close ∷ r)) r t (fn1_fits l d g a f.1)
      (ap (λ q. tok.Fn1 g ∷ q) (e ∙ ap (λ q. tok.Open ∷ q) (e1 ∙ ap (word_tokens a) e2))) (ap (λ p. p r) (word_tokens_layer (CExpr-F.Fn1 g a))) z

  two_made : (g : CFn2) (ts : List Token) → Calls (call.Two g) ts → Wants l w d k (tok.Fn2 g ∷ ts)
  two_made g ts (t, p, (us, e, (item.Cond c, f, q))) = absurd q.2
  two_made g ts (t, p, (us, e, (item.Word a, f, (r1, e1, (u2, e2, (item.Cond c, fb, q)))))) = absurd q.2
  two_made g ts (t, p, (us, e, (item.Word a, f, (r1, e1, (u2, e2, (item.Word b, fb, (r3, e3, (r, e4, z)))))))) =
      word_made (CExpr-F.Fn2 g a b) (tok.Fn2 g ∷ ts) (tok.Fn2 g ∷ tok.Open ∷ word_tokens a (tok.Comma ∷ word_tokens b (tok.Close ∷ r))) r t (fn2_fits l d g a b f.1 fb.1)
      (ap (λ q. tok.Fn2 g ∷ q) (e ∙ ap (λ q. tok.Open ∷ q) (e1 ∙ ap (word_tokens a) (e2 ∙ ap (λ q. tok.Comma ∷ q) (e3 ∙ ap (word_tokens b) e4))))) (ap (λ p. p r) (word_tokens_layer (CExpr-F.Fn2 g a b))) z

  three_made : (g : CFn3) (ts : List Token) → Calls (call.Three g) ts → Wants l w d k (tok.Fn3 g ∷ ts)
  three_made g ts (t, p, (us, e, (item.Cond c, f, q))) = absurd q.2
  three_made g ts (t, p, (us, e, (item.Word a, f, (r1, e1, (u2, e2, (item.Cond c, fb, q)))))) = absurd q.2
  three_made g ts (t, p, (us, e, (item.Word a, f, (r1, e1, (u2, e2, (item.Word b, fb, (r3, e3, (u4, e4, (item.Cond c, fd, q))))))))) = absurd q.2
  three_made g ts (t, p, (us, e, (item.Word a, f, (r1, e1, (u2, e2, (item.Word b, fb, (r3, e3, (u4, e4, (item.Word v, fd, (r5, e5, (r, e6, z))))))))))) =
      word_made (CExpr-F.Fn3 g a b v) (tok.Fn3 g ∷ ts) (tok.Fn3 g ∷ tok.Open ∷ word_tokens a (tok.Comma ∷ word_tokens b (tok.Comma ∷ word_tokens v (tok.Close ∷ r)))) r t (fn3_fits l d g a b v f.1 fb.1 fd.1)
      (ap (λ q. tok.Fn3 g ∷ q) (e ∙ ap (λ q. tok.Open ∷ q) (e1 ∙ ap (word_tokens a) (e2 ∙ ap (λ q. tok.Comma ∷ q) (e3 ∙ ap (word_tokens b) (e4 ∙ ap (λ q. tok.Comma ∷ q) (e5 ∙ ap (word_tokens v) e6)))))))
      (ap (λ p. p r) (word_tokens_layer (CExpr-F.Fn3 g a b v))) z

  -- after a first Word, and after a first Cond
  word_first : (ts : List Token) (a : CExpr) (r1 : List Token) → FitsWord l (d - 1) a → ts ≡ word_tokens a r1 → WordSign l d k w a r1 → Wants l w d k (tok.Open ∷ ts)
  word_first ts a [] f e z = absurd z
  word_first ts a (tok.Op op ∷ r2) f e (t, (item.Cond c, fb, q)) = absurd q.2
  word_first ts a (tok.Op op ∷ r2) f e (t, (item.Word b, fb, (r3, e3, (r, e4, z)))) =
      word_made (CExpr-F.Bin op a b) (tok.Open ∷ ts) (tok.Open ∷ word_tokens a (tok.Op op ∷ word_tokens b (tok.Close ∷ r))) r t (bin_fits l d op a b f fb.1)
      (ap (λ q. tok.Open ∷ q) (e ∙ ap (λ q. word_tokens a (tok.Op op ∷ q)) (e3 ∙ ap (word_tokens b) e4))) (ap (λ p. p r) (word_tokens_layer (CExpr-F.Bin op a b))) z
  word_first ts a (tok.Compare op ∷ r2) f e (t, (item.Cond c, fb, q)) = absurd q.2
  word_first ts a (tok.Compare op ∷ r2) f e (t, (item.Word b, fb, (r3, e3, (r, e4, z)))) =
      cond_made (CCond-F.Cmp op a b) (tok.Open ∷ ts) (tok.Open ∷ word_tokens a (tok.Compare op ∷ word_tokens b (tok.Close ∷ r))) r t (cmp_fits l d op a b f fb.1)
      (ap (λ q. tok.Open ∷ q) (e ∙ ap (λ q. word_tokens a (tok.Compare op ∷ q)) (e3 ∙ ap (word_tokens b) e4))) (ap (λ p. p r) (cond_tokens_layer (CCond-F.Cmp op a b))) z
  word_first ts a (_ ∷ r2) f e z = absurd z

  cond_first : (ts : List Token) (u : CCond) (r1 : List Token) → FitsCond l (d - 1) u → ts ≡ cond_tokens u r1 → CondSign l d k w u r1 → Wants l w d k (tok.Open ∷ ts)
  cond_first ts u [] f e z = absurd z
  cond_first ts u (tok.Question ∷ r2) f e (t, (item.Cond c, fa, q)) = absurd q.2
  cond_first ts u (tok.Question ∷ r2) f e (t, (item.Word a, fa, (r3, e3, (u4, e4, (item.Cond c, fb, q))))) = absurd q.2
  cond_first ts u (tok.Question ∷ r2) f e (t, (item.Word a, fa, (r3, e3, (u4, e4, (item.Word b, fb, (r5, e5, (r, e6, z))))))) =
      word_made (CExpr-F.Pick u a b) (tok.Open ∷ ts) (tok.Open ∷ cond_tokens u (tok.Question ∷ word_tokens a (tok.Colon ∷ word_tokens b (tok.Close ∷ r)))) r t (pick_fits l d u a b f fa.1 fb.1)
      (ap (λ q. tok.Open ∷ q) (e ∙ ap (λ q. cond_tokens u (tok.Question ∷ q)) (e3 ∙ ap (word_tokens a) (e4 ∙ ap (λ q. tok.Colon ∷ q) (e5 ∙ ap (word_tokens b) e6))))) (ap (λ p. p r) (word_tokens_layer (CExpr-F.Pick u a b))) z
  cond_first ts u (tok.Both ∷ r2) f e (t, (item.Word a, fb, q)) = absurd q.2
  cond_first ts u (tok.Both ∷ r2) f e (t, (item.Cond v, fb, (r3, e3, (r, e4, z)))) =
      cond_made (CCond-F.And u v) (tok.Open ∷ ts) (tok.Open ∷ cond_tokens u (tok.Both ∷ cond_tokens v (tok.Close ∷ r))) r t (and_fits l d u v f fb.1)
      (ap (λ q. tok.Open ∷ q) (e ∙ ap (λ q. cond_tokens u (tok.Both ∷ q)) (e3 ∙ ap (cond_tokens v) e4))) (ap (λ p. p r) (cond_tokens_layer (CCond-F.And u v))) z
  cond_first ts u (tok.Either ∷ r2) f e (t, (item.Word a, fb, q)) = absurd q.2
  cond_first ts u (tok.Either ∷ r2) f e (t, (item.Cond v, fb, (r3, e3, (r, e4, z)))) =
      cond_made (CCond-F.Or u v) (tok.Open ∷ ts) (tok.Open ∷ cond_tokens u (tok.Either ∷ cond_tokens v (tok.Close ∷ r))) r t (or_fits l d u v f fb.1)
      (ap (λ q. tok.Open ∷ q) (e ∙ ap (λ q. cond_tokens u (tok.Either ∷ q)) (e3 ∙ ap (cond_tokens v) e4))) (ap (λ p. p r) (cond_tokens_layer (CCond-F.Or u v))) z
  cond_first ts u (_ ∷ r2) f e z = absurd z

  -- after `(`
  parens_made : (ts : List Token) → InParens l d k w ts → Wants l w d k (tok.Open ∷ ts)
  parens_made ts (inl (t, (us, e, (item.Cond c, f, q)))) = absurd q.2
  parens_made ts (inl (t, (us, e, (item.Word a, f, (r1, e1, (r, e2, z)))))) =
      word_made (CExpr-F.«CExpr::Not» a) (tok.Open ∷ ts) (tok.Open ∷ tok.Tilde ∷ word_tokens a (tok.Close ∷ r)) r t (not_word_fits l d a f.1)
      (ap (λ q. tok.Open ∷ q) (e ∙ ap (λ q. tok.Tilde ∷ q) (e1 ∙ ap (word_tokens a) e2))) (ap (λ p. p r) (word_tokens_layer (CExpr-F.«CExpr::Not» a))) z
  parens_made ts (inr (inl (t, (us, e, (item.Word a, f, q))))) = absurd q.2
  parens_made ts (inr (inl (t, (us, e, (item.Cond u, f, (r1, e1, (r, e2, z))))))) =
      cond_made (CCond-F.«CCond::Not» u) (tok.Open ∷ ts) (tok.Open ∷ tok.Bang ∷ cond_tokens u (tok.Close ∷ r)) r t (not_cond_fits l d u f.1)
      (ap (λ q. tok.Open ∷ q) (e ∙ ap (λ q. tok.Bang ∷ q) (e1 ∙ ap (cond_tokens u) e2))) (ap (λ p. p r) (cond_tokens_layer (CCond-F.«CCond::Not» u))) z
  parens_made ts (inr (inr (item.Word a, f, (r1, e1, z)))) = word_first ts a r1 f.1 e1 z
  parens_made ts (inr (inr (item.Cond u, f, (r1, e1, z)))) = cond_first ts u r1 f.1 e1 z

  -- what begins with such a token is wanted
  pub start_wants : (x : Token) (ts : List Token) → IsToken x → 1 ≤ d → Starts x ts → Wants l w d k (x ∷ ts)
  start_wants (tok.Num n) ts i p (t, z) = word_made (CExpr-F.Num n) (tok.Num n ∷ ts) (tok.Num n ∷ ts) ts t (num_fits l d n i p) refl (ap (λ q. q ts) (word_tokens_layer (CExpr-F.Num n))) z
  start_wants (tok.Name n) ts i p (t, q, z) = word_made (CExpr-F.Name n) (tok.Name n ∷ ts) (tok.Name n ∷ ts) ts t (name_fits l d n q p) refl (ap (λ q. q ts) (word_tokens_layer (CExpr-F.Name n))) z
  start_wants (tok.Fn1 f) ts i p h = one_made f ts h
  start_wants (tok.Fn2 f) ts i p h = two_made f ts h
  start_wants (tok.Fn3 f) ts i p h = three_made f ts h
  start_wants tok.Open ts i p (q, h) = parens_made ts h
  start_wants _ ts i p h = absurd h
