-- Each token is read exactly: what was read goes on with it where it isn't refused, and then with the same tokens.
use Rattle.std.proofs.Common.{◌≡◌, inl, inr, ℕ, ◌-◌, ◌≤◌, Bool, true, false, ◌&&◌, nat_le, List, ◌∷◌, Option, Some, None, if◌then◌else◌, refl, sym, subst, arith}
use borrow.Author.Tests.{leb-true, le-leb}
use Rattle.c_syntax.specs.declared.syntax.CExpr.{CExpr, CExpr-F, roll-CExpr}
use Rattle.c_syntax.specs.declared.syntax.CCond.{CCond, CCond-F, roll-CCond}
use Rattle.c_syntax.specs.declared.token.Token.{Token}
use Rattle.c_syntax.specs.declared.token.Token.TheVariants as tok
use Rattle.read_words.specs.declared.open.Locals.{Locals}
use Rattle.read_words.specs.declared.open.Item.{Item}
use Rattle.read_words.specs.declared.open.Item.TheVariants as item
use Rattle.read_words.specs.declared.open.Wanted.{Wanted}
use Rattle.read_words.specs.declared.open.Wanted.TheVariants as want
use Rattle.read_words.specs.declared.open.Call.{Call}
use Rattle.read_words.specs.declared.open.Call.TheVariants as call
use Rattle.read_words.specs.declared.open.Open.{Open}
use Rattle.read_words.specs.declared.open.Open.TheVariants as open'
use Rattle.read_words.specs.declared.open.State.{State}
use Rattle.read_words.specs.declared.open.State.TheVariants as state
use Rattle.read_words.specs.declared.open.Turn.{Turn}
use Rattle.c_syntax.specs.Depth.{cond_depth}
use Rattle.c_syntax.specs.Formed.{is_declared}
use Rattle.c_lex.specs.Lexemes.{IsToken}
use Rattle.read_words.specs.Turns.{scope, takes_word, takes_cond, argument, opens, begin, first, paren, called, at_close, at_comma, at_colon, word_sign, cond_sign, after_word, after_cond, after, staying}
use Rattle.read_words.specs.Rests.{Rest, Fits, FitsWord, FitsCond, Follows, Wants, After, InParens, WordSign, CondSign, StateRest}
use Rattle.read_words.specs.Reads.{HasDepth, OpenFits, StateFits, wanted_in}
use Rattle.read_words.proofs.Fitting.{both_true, two_true, word_least, cond_least, num_fits, name_fits, not_word_fits, bin_fits, fn1_fits, fn2_fits, fn3_fits, pick_fits, cmp_fits, not_cond_fits, and_fits, or_fits}
use Rattle.read_words.proofs.Beginning.{Calls, wants_start, start_wants, head_of, tail_of}

-- what a test can't be
no_truth : {A : Type 0} (b : Bool) → b ≡ true → b ≡ false → A
no_truth true h k = absurd (cc)
no_truth false h k = absurd (cc)

-- there is depth for a Word at least
pub depth_one : (w : Wanted) (d : ℕ) → HasDepth w d → 1 ≤ d
depth_one want.Word d h = h
depth_one want.Cond d h = omega arith
depth_one want.Either d h = h

-- a Cond that is wanted has its depth
pub wants_deep : (l : Locals) (d : ℕ) (k : Rest) (ts : List Token) → Wants l want.Cond d k ts → 2 ≤ d
wants_deep l d k ts (item.Word a, f, q) = absurd (cc (f.0))
wants_deep l d k ts (item.Cond c, f, q) = let p : cond_depth c ≤ d = f.1.deep in omega (arith, cond_least c)

module _ (l : Locals) (w : Wanted) (d : ℕ) (k : Rest) where
  -- a part has begun with a token, or is refused
  abbrev pub IsBegin : Option State → List Token → Type 0 → Type 0
  IsBegin None ts before = before → ⊥
  IsBegin (Some s) ts before = StateFits l w d s × ((before → StateRest l d k s ts) × (StateRest l d k s ts → before))

  begin_if : (q : Bool) (s : State) (ts : List Token) (before : Type 0) → (q ≡ true → IsBegin (Some s) ts before) → (before → q ≡ true) → IsBegin (if q then Some s else None) ts before
  begin_if true s ts before f g = f refl
  begin_if false s ts before f g = λ h. no_truth false (g h) refl

  begin_call : (f : Call) (x : Token) (ts : List Token) → (Wants l w d k (x ∷ ts) → Calls l w d k f ts) → (Calls l w d k f ts → Wants l w d k (x ∷ ts))
      → IsBegin (if takes_word w && nat_le 2 d then Some (state.Call f) else None) ts (Wants l w d k (x ∷ ts))
  begin_call f x ts to from = begin_if (takes_word w && nat_le 2 d) (state.Call f) ts (Wants l w d k (x ∷ ts))
      (λ q. let p = both_true (takes_word w) (nat_le 2 d) q in let n = leb-true 2 d p.1 in ((p.0, n), ((λ h. (to h).2), (λ h. from (p.0, n, h)))))
      (λ h. let c = to h in two_true (takes_word w) (nat_le 2 d) c.0 (le-leb 2 d c.1))

  pub begin_is : (x : Token) (ts : List Token) → IsToken x → HasDepth w d → IsBegin (begin l w d x) ts (Wants l w d k (x ∷ ts))
  begin_is (tok.Num n) ts i p = begin_if (takes_word w) (state.Have (item.Word (roll-CExpr (CExpr-F.Num n)))) ts (Wants l w d k (tok.Num n ∷ ts))
      (λ q. ((q, num_fits l d n i (depth_one w d p)), ((λ h. (wants_start l w d k (tok.Num n) ts h).1), (λ z. start_wants l w d k (tok.Num n) ts i (depth_one w d p) (q, z)))))
      (λ h. (wants_start l w d k (tok.Num n) ts h).0)
  begin_is (tok.Name n) ts i p = begin_if (takes_word w && is_declared (scope l) n) (state.Have (item.Word (roll-CExpr (CExpr-F.Name n)))) ts (Wants l w d k (tok.Name n ∷ ts))
      (λ q. let b = both_true (takes_word w) (is_declared (scope l) n) q in
      ((b.0, name_fits l d n b.1 (depth_one w d p)), ((λ h. (wants_start l w d k (tok.Name n) ts h).2), (λ z. start_wants l w d k (tok.Name n) ts i (depth_one w d p) (b.0, b.1, z)))))
      (λ h. let s = wants_start l w d k (tok.Name n) ts h in two_true (takes_word w) (is_declared (scope l) n) s.0 s.1)
  begin_is (tok.Fn1 f) ts i p = begin_call (call.One f) (tok.Fn1 f) ts (wants_start l w d k (tok.Fn1 f) ts) (start_wants l w d k (tok.Fn1 f) ts i (depth_one w d p))
  begin_is (tok.Fn2 f) ts i p = begin_call (call.Two f) (tok.Fn2 f) ts (wants_start l w d k (tok.Fn2 f) ts) (start_wants l w d k (tok.Fn2 f) ts i (depth_one w d p))
  begin_is (tok.Fn3 f) ts i p = begin_call (call.Three f) (tok.Fn3 f) ts (wants_start l w d k (tok.Fn3 f) ts) (start_wants l w d k (tok.Fn3 f) ts i (depth_one w d p))
  begin_is tok.Open ts i p = begin_if (nat_le 2 d) (state.Paren w) ts (Wants l w d k (tok.Open ∷ ts))
      (λ q. let n = leb-true 2 d q in ((refl, n), ((λ h. (wants_start l w d k tok.Open ts h).1), (λ z. start_wants l w d k tok.Open ts i (depth_one w d p) (n, z)))))
      (λ h. le-leb 2 d (wants_start l w d k tok.Open ts h).0)
  begin_is x ts i p = λ h. wants_start l w d k x ts h

  -- the tokens after a turn
  abbrev pub TurnRest : Option Open → State → List Token → Type 0
  TurnRest None s = StateRest l d k s
  TurnRest (Some o) s = StateRest l (d - 1) (After l d k o) s

  -- what a turn makes fits
  abbrev pub TurnFits : Option Open → State → Type 0
  TurnFits None s = StateFits l w d s
  TurnFits (Some o) s = OpenFits l w d o × StateFits l (wanted_in o) (d - 1) s

  -- a token was read, or is refused
  abbrev pub IsTurn : Option Turn → List Token → Type 0 → Type 0
  IsTurn None ts before = before → ⊥
  IsTurn (Some t) ts before = TurnFits t.round t.state × ((before → TurnRest t.round t.state ts) × (TurnRest t.round t.state ts → before))

  turn_if : (q : Bool) (t : Turn) (ts : List Token) (before : Type 0) → (q ≡ true → IsTurn (Some t) ts before) → (before → q ≡ true) → IsTurn (if q then Some t else None) ts before
  turn_if true t ts before f g = f refl
  turn_if false t ts before f g = λ h. no_truth false (g h) refl

  turn_same : (t : Option Turn) (ts : List Token) (A B : Type 0) → (A → B) → (B → A) → IsTurn t ts B → IsTurn t ts A
  turn_same None ts A B f g h = λ a. h (f a)
  turn_same (Some t) ts A B f g h = (h.0, ((λ a. h.1.0 (f a)), (λ z. g (h.1.1 z))))

  pub staying_is : (s : Option State) (ts : List Token) (before : Type 0) → IsBegin s ts before → IsTurn (staying s) ts before
  staying_is None ts before h = h
  staying_is (Some s) ts before h = h

module _ (l : Locals) (w : Wanted) (d : ℕ) (k : Rest) where
  first_is : (s : Option State) (ts : List Token) (before : Type 0) → 2 ≤ d → IsBegin l want.Either (d - 1) (After l d k (open'.First w)) s ts before → IsTurn l w d k (first w s) ts before
  first_is None ts before p h = h
  first_is (Some s) ts before p h = (((refl, p), h.0), h.1)

  -- the token after `(`
  only_first : (x : Token) (ts : List Token) → (x ≡ tok.Tilde → ⊥) → (x ≡ tok.Bang → ⊥) → InParens l d k w (x ∷ ts) → Wants l want.Either (d - 1) (After l d k (open'.First w)) (x ∷ ts)
  only_first x ts f g (inl (t, (us, e, q))) = absurd (f (head_of e))
  only_first x ts f g (inr (inl (t, (us, e, q)))) = absurd (g (head_of e))
  only_first x ts f g (inr (inr q)) = q

  tilde_only : (ts : List Token) → InParens l d k w (tok.Tilde ∷ ts) → (takes_word w ≡ true) × Wants l want.Word (d - 1) (After l d k open'.NotWord) ts
  tilde_only ts (inl (t, (us, e, q))) = (t, subst (Wants l want.Word (d - 1) (After l d k open'.NotWord)) (sym (tail_of e)) q)
  tilde_only ts (inr (inl (t, (us, e, q)))) = absurd (cc (head_of e))
  tilde_only ts (inr (inr q)) = absurd (wants_start l want.Either (d - 1) (After l d k (open'.First w)) tok.Tilde ts q)

  bang_only : (ts : List Token) → InParens l d k w (tok.Bang ∷ ts) → (takes_cond w ≡ true) × Wants l want.Cond (d - 1) (After l d k open'.NotCond) ts
  bang_only ts (inl (t, (us, e, q))) = absurd (cc (head_of e))
  bang_only ts (inr (inl (t, (us, e, q)))) = (t, subst (Wants l want.Cond (d - 1) (After l d k open'.NotCond)) (sym (tail_of e)) q)
  bang_only ts (inr (inr q)) = absurd (wants_start l want.Either (d - 1) (After l d k (open'.First w)) tok.Bang ts q)

  pub paren_is : (x : Token) (ts : List Token) → IsToken x → 2 ≤ d → IsTurn l w d k (paren l w d x) ts (InParens l d k w (x ∷ ts))
  paren_is tok.Tilde ts i p = turn_if l w d k (takes_word w) (opens open'.NotWord (state.Want want.Word)) ts (InParens l d k w (tok.Tilde ∷ ts))
      (λ q. (((q, p), (refl, omega arith)), ((λ h. (tilde_only ts h).1), (λ z. inl (q, (ts, refl, z))))))
      (λ h. (tilde_only ts h).0)
  paren_is tok.Bang ts i p = turn_if l w d k (takes_cond w && nat_le 3 d) (opens open'.NotCond (state.Want want.Cond)) ts (InParens l d k w (tok.Bang ∷ ts))
      (λ q. let b = both_true (takes_cond w) (nat_le 3 d) q in let n = leb-true 3 d b.1 in
      (((b.0, n), (refl, omega arith)), ((λ h. (bang_only ts h).1), (λ z. inr (inl (b.0, (ts, refl, z)))))))
      (λ h. let o = bang_only ts h in let m = wants_deep l (d - 1) (After l d k open'.NotCond) ts o.1 in two_true (takes_cond w) (nat_le 3 d) o.0 (le-leb 3 d (omega arith)))
  paren_is x ts i p = turn_same l w d k (first w (begin l want.Either (d - 1) x)) ts (InParens l d k w (x ∷ ts)) (Wants l want.Either (d - 1) (After l d k (open'.First w)) (x ∷ ts))
      (only_first x ts (λ e. cc) (λ e. cc)) (λ z. inr (inr z))
      (first_is (begin l want.Either (d - 1) x) ts (Wants l want.Either (d - 1) (After l d k (open'.First w)) (x ∷ ts)) p
      (begin_is l want.Either (d - 1) (After l d k (open'.First w)) x ts i (omega arith)))

  -- the token after a function's name
  argument_fits : (f : Call) → takes_word w ≡ true → 2 ≤ d → OpenFits l w d (argument f) × StateFits l (wanted_in (argument f)) (d - 1) (state.Want want.Word)
  argument_fits (call.One f) t p = ((t, p), (refl, omega arith))
  argument_fits (call.Two f) t p = ((t, p), (refl, omega arith))
  argument_fits (call.Three f) t p = ((t, p), (refl, omega arith))

  pub called_is : (f : Call) (x : Token) (ts : List Token) → takes_word w ≡ true → 2 ≤ d → IsTurn l w d k (called f x) ts (StateRest l d k (state.Call f) (x ∷ ts))
  called_is f tok.Open ts t p = (argument_fits f t p, ((λ h. subst (Wants l want.Word (d - 1) (After l d k (argument f))) (sym (tail_of h.1)) h.2), (λ z. (ts, refl, z))))
  called_is f x ts t p = λ h. absurd (cc (head_of h.1))

  -- where one token must come
  close_is : (i : Item) (x : Token) (ts : List Token) → Fits l w d i → IsTurn l w d k (at_close i x) ts (Follows tok.Close (k i) (x ∷ ts))
  close_is i tok.Close ts f = (f, ((λ h. subst (k i) (sym (tail_of h.1)) h.2), (λ z. (ts, refl, z))))
  close_is i x ts f = λ h. absurd (cc (head_of h.1))

  comma_is : (o : Open) (x : Token) (ts : List Token) → OpenFits l w d o → StateFits l (wanted_in o) (d - 1) (state.Want want.Word)
      → IsTurn l w d k (at_comma o x) ts (Follows tok.Comma (Wants l want.Word (d - 1) (After l d k o)) (x ∷ ts))
  comma_is o tok.Comma ts f g = ((f, g), ((λ h. subst (Wants l want.Word (d - 1) (After l d k o)) (sym (tail_of h.1)) h.2), (λ z. (ts, refl, z))))
  comma_is o x ts f g = λ h. absurd (cc (head_of h.1))

  colon_is : (o : Open) (x : Token) (ts : List Token) → OpenFits l w d o → StateFits l (wanted_in o) (d - 1) (state.Want want.Word)
      → IsTurn l w d k (at_colon o x) ts (Follows tok.Colon (Wants l want.Word (d - 1) (After l d k o)) (x ∷ ts))
  colon_is o tok.Colon ts f g = ((f, g), ((λ h. subst (Wants l want.Word (d - 1) (After l d k o)) (sym (tail_of h.1)) h.2), (λ z. (ts, refl, z))))
  colon_is o x ts f g = λ h. absurd (cc (head_of h.1))

  -- a part leaves depth for the next one
  word_room : (a : CExpr) → FitsWord l (d - 1) a → 1 ≤ d - 1
  word_room a f = let p = f.deep in omega (arith, word_least a)

  cond_room : (c : CCond) → FitsCond l (d - 1) c → 2 ≤ d - 1
  cond_room c f = let p = f.deep in omega (arith, cond_least c)

  -- the sign after a first part
  word_sign_is : (a : CExpr) (x : Token) (ts : List Token) → FitsWord l (d - 1) a → IsTurn l w d k (word_sign w a x) ts (WordSign l d k w a (x ∷ ts))
  word_sign_is a (tok.Op op) ts f = turn_if l w d k (takes_word w) (opens (open'.Bin op a) (state.Want want.Word)) ts (WordSign l d k w a (tok.Op op ∷ ts))
      (λ q. (((q, f), (refl, word_room a f)), ((λ h. h.1), (λ z. (q, z))))) (λ h. h.0)
  word_sign_is a (tok.Compare op) ts f = turn_if l w d k (takes_cond w) (opens (open'.Cmp op a) (state.Want want.Word)) ts (WordSign l d k w a (tok.Compare op ∷ ts))
      (λ q. (((q, f), (refl, word_room a f)), ((λ h. h.1), (λ z. (q, z))))) (λ h. h.0)
  word_sign_is a x ts f = λ h. h

  cond_sign_is : (c : CCond) (x : Token) (ts : List Token) → FitsCond l (d - 1) c → IsTurn l w d k (cond_sign w c x) ts (CondSign l d k w c (x ∷ ts))
  cond_sign_is c tok.Question ts f = let r = cond_room c f in turn_if l w d k (takes_word w) (opens (open'.PickFirst c) (state.Want want.Word)) ts (CondSign l d k w c (tok.Question ∷ ts))
      (λ q. (((q, f), (refl, omega arith)), ((λ h. h.1), (λ z. (q, z))))) (λ h. h.0)
  cond_sign_is c tok.Both ts f = turn_if l w d k (takes_cond w) (opens (open'.And c) (state.Want want.Cond)) ts (CondSign l d k w c (tok.Both ∷ ts))
      (λ q. (((q, f), (refl, cond_room c f)), ((λ h. h.1), (λ z. (q, z))))) (λ h. h.0)
  cond_sign_is c tok.Either ts f = turn_if l w d k (takes_cond w) (opens (open'.Or c) (state.Want want.Cond)) ts (CondSign l d k w c (tok.Either ∷ ts))
      (λ q. (((q, f), (refl, cond_room c f)), ((λ h. h.1), (λ z. (q, z))))) (λ h. h.0)
  cond_sign_is c x ts f = λ h. h

  -- the token after a part inside an open one
  pub after_word_is : (o : Open) (a : CExpr) (x : Token) (ts : List Token) → OpenFits l w d o → takes_word (wanted_in o) ≡ true → FitsWord l (d - 1) a
      → IsTurn l w d k (after_word o a x) ts (After l d k o (item.Word a) (x ∷ ts))
  after_word_is open'.NotWord a x ts o t f = close_is (item.Word (roll-CExpr (CExpr-F.«CExpr::Not» a))) x ts (o.0, not_word_fits l d a f)
  after_word_is open'.NotCond a x ts o t f = λ h. h
  after_word_is (open'.First v) a x ts o t f =
      subst (λ q. IsTurn l w d k (word_sign q a x) ts (WordSign l d k q a (x ∷ ts))) (sym o.0) (word_sign_is a x ts f)
  after_word_is (open'.Bin op a) b x ts o t f = close_is (item.Word (roll-CExpr (CExpr-F.Bin op a b))) x ts (o.0, bin_fits l d op a b o.1 f)
  after_word_is (open'.Cmp op a) b x ts o t f = close_is (item.Cond (roll-CCond (CCond-F.Cmp op a b))) x ts (o.0, cmp_fits l d op a b o.1 f)
  after_word_is (open'.And c) a x ts o t f = λ h. h
  after_word_is (open'.Or c) a x ts o t f = λ h. h
  after_word_is (open'.PickFirst c) a x ts o t f = colon_is (open'.PickSecond c a) x ts (o.0, o.1, f) (refl, word_room a f)
  after_word_is (open'.PickSecond c a) b x ts o t f = close_is (item.Word (roll-CExpr (CExpr-F.Pick c a b))) x ts (o.0, pick_fits l d c a b o.1 o.2 f)
  after_word_is (open'.One g) a x ts o t f = close_is (item.Word (roll-CExpr (CExpr-F.Fn1 g a))) x ts (o.0, fn1_fits l d g a f)
  after_word_is (open'.TwoFirst g) a x ts o t f = comma_is (open'.TwoSecond g a) x ts (o.0, f) (refl, word_room a f)
  after_word_is (open'.TwoSecond g a) b x ts o t f = close_is (item.Word (roll-CExpr (CExpr-F.Fn2 g a b))) x ts (o.0, fn2_fits l d g a b o.1 f)
  after_word_is (open'.ThreeFirst g) a x ts o t f = comma_is (open'.ThreeSecond g a) x ts (o.0, f) (refl, word_room a f)
  after_word_is (open'.ThreeSecond g a) b x ts o t f = comma_is (open'.ThreeThird g a b) x ts (o.0, o.1, f) (refl, word_room b f)
  after_word_is (open'.ThreeThird g a b) v x ts o t f = close_is (item.Word (roll-CExpr (CExpr-F.Fn3 g a b v))) x ts (o.0, fn3_fits l d g a b v o.1 o.2 f)

  pub after_cond_is : (o : Open) (c : CCond) (x : Token) (ts : List Token) → OpenFits l w d o → takes_cond (wanted_in o) ≡ true → FitsCond l (d - 1) c
      → IsTurn l w d k (after_cond o c x) ts (After l d k o (item.Cond c) (x ∷ ts))
  after_cond_is open'.NotWord c x ts o t f = λ h. h
  after_cond_is open'.NotCond c x ts o t f = close_is (item.Cond (roll-CCond (CCond-F.«CCond::Not» c))) x ts (o.0, not_cond_fits l d c f)
  after_cond_is (open'.First v) c x ts o t f =
      subst (λ q. IsTurn l w d k (cond_sign q c x) ts (CondSign l d k q c (x ∷ ts))) (sym o.0) (cond_sign_is c x ts f)
  after_cond_is (open'.Bin op a) c x ts o t f = λ h. h
  after_cond_is (open'.Cmp op a) c x ts o t f = λ h. h
  after_cond_is (open'.And c) v x ts o t f = close_is (item.Cond (roll-CCond (CCond-F.And c v))) x ts (o.0, and_fits l d c v o.1 f)
  after_cond_is (open'.Or c) v x ts o t f = close_is (item.Cond (roll-CCond (CCond-F.Or c v))) x ts (o.0, or_fits l d c v o.1 f)
  after_cond_is (open'.PickFirst v) c x ts o t f = λ h. h
  after_cond_is (open'.PickSecond v a) c x ts o t f = λ h. h
  after_cond_is (open'.One g) c x ts o t f = λ h. h
  after_cond_is (open'.TwoFirst g) c x ts o t f = λ h. h
  after_cond_is (open'.TwoSecond g a) c x ts o t f = λ h. h
  after_cond_is (open'.ThreeFirst g) c x ts o t f = λ h. h
  after_cond_is (open'.ThreeSecond g a) c x ts o t f = λ h. h
  after_cond_is (open'.ThreeThird g a b) c x ts o t f = λ h. h

  pub after_is : (o : Open) (i : Item) (x : Token) (ts : List Token) → OpenFits l w d o → Fits l (wanted_in o) (d - 1) i → IsTurn l w d k (after o i x) ts (After l d k o i (x ∷ ts))
  after_is o (item.Word a) x ts f g = after_word_is o a x ts f g.0 g.1
  after_is o (item.Cond c) x ts f g = after_cond_is o c x ts f g.0 g.1
