-- What was read can be completed, and what isn't whole doesn't end.
use Rattle.std.proofs.Common.{◌≡◌, inl, inr, ℕ, ◌-◌, ◌≤◌, true, List, [], ◌∷◌, refl, sym, ap, ◌∙◌, subst, arith}
use Rattle.c_syntax.specs.declared.syntax.CExpr.{CExpr, CExpr-F, roll-CExpr}
use Rattle.c_syntax.specs.declared.syntax.CCond.{CCond, CCond-F, roll-CCond}
use Rattle.c_syntax.specs.declared.token.Token.{Token}
use Rattle.c_syntax.specs.declared.token.Token.TheVariants as tok
use Rattle.read_words.specs.declared.open.Locals.{Locals}
use Rattle.read_words.specs.declared.open.Item.{Item}
use Rattle.read_words.specs.declared.open.Item.TheVariants as item
use Rattle.read_words.specs.declared.open.Wanted.{Wanted}
use Rattle.read_words.specs.declared.open.Wanted.TheVariants as want
use Rattle.read_words.specs.declared.open.Call.{Call}
use Rattle.read_words.specs.declared.open.Call.TheVariants as call
use Rattle.read_words.specs.declared.open.Open.{Open}
use Rattle.read_words.specs.declared.open.Open.TheVariants as open'
use Rattle.read_words.specs.declared.open.State.{State}
use Rattle.read_words.specs.declared.open.State.TheVariants as state
use Rattle.c_syntax.specs.declared.syntax.CCmp.TheVariants as cmp
use Rattle.c_syntax.specs.declared.syntax.CBin.TheVariants as bin
use Rattle.c_syntax.specs.Tokens.{word_tokens, cond_tokens}
use Rattle.c_syntax.proofs.Layers.{word_tokens_layer, cond_tokens_layer}
use Rattle.c_syntax.proofs.Induct.{WordCases, every_word, every_cond}
use Rattle.read_words.specs.Turns.{Reading, takes_word, takes_cond, depth_left}
use Rattle.read_words.specs.Rests.{Rest, Fits, FitsWord, FitsCond, Follows, Wants, After, InParens, Sign, StateRest, Rests, GoesOn, item_tokens}
use Rattle.read_words.specs.Reads.{HasDepth, OpenFits, StateFits, OpenFit, wanted, wanted_in, IsRead, IsOpen, Ends, CanGoOn, NotTheEnd, FromTheStart}
use Rattle.read_words.proofs.Fitting.{word_least, cond_least, num_fits, not_word_fits, bin_fits, fn1_fits, fn2_fits, fn3_fits, pick_fits, cmp_fits, not_cond_fits, and_fits, or_fits}

-- A Word or Cond that fits, to which tokens lead, whatever may follow it.
abbrev pub Leads : Locals → Wanted → ℕ → (Rest → List Token → Type 0) → Type 1
Leads l w d before = (i : Item) × Fits l w d i × ((k : Rest) (ts : List Token) → k i ts → (us : List Token) × before k us)

-- the least Word, and the least Cond
abbrev zero : CExpr
zero = roll-CExpr (CExpr-F.Num 0)

abbrev same : CCond
same = roll-CCond (CCond-F.Cmp cmp.Eq zero zero)

zero_fits : (l : Locals) (d : ℕ) → 1 ≤ d → FitsWord l d zero
zero_fits l d h = num_fits l d 0 (omega arith) h

same_fits : (l : Locals) (d : ℕ) → 2 ≤ d → FitsCond l d same
same_fits l d h = cmp_fits l d cmp.Eq zero zero (zero_fits l (d - 1) (omega arith)) (zero_fits l (d - 1) (omega arith))

-- what is wanted can be had
pub want_leads : (l : Locals) (w : Wanted) (d : ℕ) → HasDepth w d → Leads l w d (λ k. Wants l w d k)
want_leads l want.Word d h = let f = zero_fits l d h in (item.Word zero, (refl, f), (λ k ts z. (word_tokens zero ts, (item.Word zero, (refl, f), (ts, refl, z)))))
want_leads l want.Cond d h = let f = same_fits l d h in (item.Cond same, (refl, f), (λ k ts z. (cond_tokens same ts, (item.Cond same, (refl, f), (ts, refl, z)))))
want_leads l want.Either d h = let f = zero_fits l d h in (item.Word zero, (refl, f), (λ k ts z. (word_tokens zero ts, (item.Word zero, (refl, f), (ts, refl, z)))))

module _ (l : Locals) (d : ℕ) (h : 2 ≤ d) where
  nought : FitsWord l (d - 1) zero
  nought = zero_fits l (d - 1) (omega arith)

  tilde_leads : (w : Wanted) → takes_word w ≡ true → Leads l w d (λ k. InParens l d k w)
  tilde_leads w t = (
    item.Word (roll-CExpr (CExpr-F.«CExpr::Not» zero)),
    (t, not_word_fits l d zero nought),
    (λ k ts z.
        (tok.Tilde ∷ word_tokens zero (tok.Close ∷ ts), inl (t, (word_tokens zero (tok.Close ∷ ts), refl, (item.Word zero, (refl, nought), (tok.Close ∷ ts, refl, (ts, refl, z))))))),
  )

  paren_leads : (w : Wanted) → Leads l w d (λ k. InParens l d k w)
  paren_leads want.Word = tilde_leads want.Word refl
  paren_leads want.Cond = (
    item.Cond same,
    (refl, cmp_fits l d cmp.Eq zero zero nought nought),
    (λ k ts z. (
      word_tokens zero (tok.Compare cmp.Eq ∷ word_tokens zero (tok.Close ∷ ts)),
      inr (inr (
        item.Word zero,
        (refl, nought),
        (
          tok.Compare cmp.Eq ∷ word_tokens zero (tok.Close ∷ ts),
          refl,
          (refl, (item.Word zero, (refl, nought), (tok.Close ∷ ts, refl, (ts, refl, z)))),
        ),
      )),
    )),
  )
  paren_leads want.Either = tilde_leads want.Either refl

  call_leads : (w : Wanted) (f : Call) → takes_word w ≡ true → Leads l w d (λ k. StateRest l d k (state.Call f))
  call_leads w (call.One g) t = (
    item.Word (roll-CExpr (CExpr-F.Fn1 g zero)),
    (t, fn1_fits l d g zero nought),
    (λ k ts z.
        (tok.Open ∷ word_tokens zero (tok.Close ∷ ts), (word_tokens zero (tok.Close ∷ ts), refl, (item.Word zero, (refl, nought), (tok.Close ∷ ts, refl, (ts, refl, z)))))),
  )
  call_leads w (call.Two g) t = (
    item.Word (roll-CExpr (CExpr-F.Fn2 g zero zero)),
    (t, fn2_fits l d g zero zero nought nought),
    (λ k ts z. (
      tok.Open ∷ word_tokens zero (tok.Comma ∷ word_tokens zero (tok.Close ∷ ts)),
      (
        word_tokens zero (tok.Comma ∷ word_tokens zero (tok.Close ∷ ts)),
        refl,
        (item.Word zero, (refl, nought), (tok.Comma ∷ word_tokens zero (tok.Close ∷ ts), refl, (word_tokens zero (tok.Close ∷ ts), refl, (item.Word zero, (refl, nought), (tok.Close ∷ ts, refl, (ts, refl, z)))))),
      ),
    )),
  )
  call_leads w (call.Three g) t = (
    item.Word (roll-CExpr (CExpr-F.Fn3 g zero zero zero)),
    (t, fn3_fits l d g zero zero zero nought nought nought),
    (λ k ts z. (
      tok.Open ∷ word_tokens zero (tok.Comma ∷ word_tokens zero (tok.Comma ∷ word_tokens zero (tok.Close ∷ ts))),
      (
        word_tokens zero (tok.Comma ∷ word_tokens zero (tok.Comma ∷ word_tokens zero (tok.Close ∷ ts))),
        refl,
        (
          item.Word zero,
          (refl, nought),
          (
            tok.Comma ∷ word_tokens zero (tok.Comma ∷ word_tokens zero (tok.Close ∷ ts)),
            refl,
            (
              word_tokens zero (tok.Comma ∷ word_tokens zero (tok.Close ∷ ts)),
              refl,
              (item.Word zero, (refl, nought), (tok.Comma ∷ word_tokens zero (tok.Close ∷ ts), refl, (word_tokens zero (tok.Close ∷ ts), refl, (item.Word zero, (refl, nought), (tok.Close ∷ ts, refl, (ts, refl, z)))))),
            ),
          ),
        ),
      ),
    )),
  )

-- the innermost part can be completed
state_leads : (l : Locals) (w : Wanted) (d : ℕ) (s : State) → StateFits l w d s → Leads l w d (λ k. StateRest l d k s)
state_leads l w d (state.Want v) h = subst (λ q. Leads l w d (λ k. Wants l q d k)) (sym h.0) (want_leads l w d h.1)
state_leads l w d (state.Paren v) h = subst (λ q. Leads l w d (λ k. InParens l d k q)) (sym h.0) (paren_leads l d h.1 w)
state_leads l w d (state.Call f) h = call_leads l d h.1 w f h.0
state_leads l w d (state.Have i) h = (i, h, (λ k ts z. (ts, z)))

module _ (l : Locals) (d : ℕ) where
  deep_word : (a : CExpr) → FitsWord l (d - 1) a → 1 ≤ d - 1
  deep_word a f = let p = f.deep in omega (arith, word_least a)

  deep_cond : (c : CCond) → FitsCond l (d - 1) c → 2 ≤ d - 1
  deep_cond c f = let p = f.deep in omega (arith, cond_least c)

  -- one more Word
  more : 1 ≤ d - 1 → FitsWord l (d - 1) zero
  more h = zero_fits l (d - 1) h

  plus_leads : (w : Wanted) (a : CExpr) → takes_word w ≡ true → FitsWord l (d - 1) a → Leads l w d (λ k us. Sign l d k w (item.Word a) us)
  plus_leads w a t f = let n = more (deep_word a f) in (
    item.Word (roll-CExpr (CExpr-F.Bin bin.Add a zero)),
    (t, bin_fits l d bin.Add a zero f n),
    (λ k ts z.
        (tok.Op bin.Add ∷ word_tokens zero (tok.Close ∷ ts), (t, (item.Word zero, (refl, n), (tok.Close ∷ ts, refl, (ts, refl, z)))))),
  )

  pick_leads : (w : Wanted) (c : CCond) → takes_word w ≡ true → FitsCond l (d - 1) c → Leads l w d (λ k us. Sign l d k w (item.Cond c) us)
  pick_leads w c t f = let m = deep_cond c f in let n = more (omega arith) in (
    item.Word (roll-CExpr (CExpr-F.Pick c zero zero)),
    (t, pick_fits l d c zero zero f n n),
    (λ k ts z. (
      tok.Question ∷ word_tokens zero (tok.Colon ∷ word_tokens zero (tok.Close ∷ ts)),
      (
        t,
        (
          item.Word zero,
          (refl, n),
          (
            tok.Colon ∷ word_tokens zero (tok.Close ∷ ts),
            refl,
            (word_tokens zero (tok.Close ∷ ts), refl, (item.Word zero, (refl, n), (tok.Close ∷ ts, refl, (ts, refl, z)))),
          ),
        ),
      ),
    )),
  )

  and_leads : (w : Wanted) (c : CCond) → takes_cond w ≡ true → FitsCond l (d - 1) c → Leads l w d (λ k us. Sign l d k w (item.Cond c) us)
  and_leads w c t f = let n = same_fits l (d - 1) (deep_cond c f) in (
    item.Cond (roll-CCond (CCond-F.And c same)),
    (t, and_fits l d c same f n),
    (λ k ts z.
        (tok.Both ∷ cond_tokens same (tok.Close ∷ ts), (t, (item.Cond same, (refl, n), (tok.Close ∷ ts, refl, (ts, refl, z)))))),
  )

  sign_leads : (w : Wanted) (i : Item) → Fits l want.Either (d - 1) i → Leads l w d (λ k us. Sign l d k w i us)
  sign_leads want.Word (item.Word a) f = plus_leads want.Word a refl f.1
  sign_leads want.Cond (item.Word a) f = let n = more (deep_word a f.1) in (
    item.Cond (roll-CCond (CCond-F.Cmp cmp.Eq a zero)),
    (refl, cmp_fits l d cmp.Eq a zero f.1 n),
    (λ k ts z.
        (tok.Compare cmp.Eq ∷ word_tokens zero (tok.Close ∷ ts), (refl, (item.Word zero, (refl, n), (tok.Close ∷ ts, refl, (ts, refl, z)))))),
  )
  sign_leads want.Either (item.Word a) f = plus_leads want.Either a refl f.1
  sign_leads want.Word (item.Cond c) f = pick_leads want.Word c refl f.1
  sign_leads want.Cond (item.Cond c) f = and_leads want.Cond c refl f.1
  sign_leads want.Either (item.Cond c) f = and_leads want.Either c refl f.1

  no_cond : {A : Type 1} → takes_cond want.Word ≡ true → A
  no_cond h = absurd (cc (h))

  no_word : {A : Type 1} → takes_word want.Cond ≡ true → A
  no_word h = absurd (cc (h))

  -- a whole part inside an open one can be completed to the open one
  open_leads : (w : Wanted) (o : Open) (i : Item) → OpenFits l w d o → Fits l (wanted_in o) (d - 1) i → Leads l w d (λ k us. After l d k o i us)
  open_leads w open'.NotWord (item.Word a) p f = (item.Word (roll-CExpr (CExpr-F.«CExpr::Not» a)), (p.0, not_word_fits l d a f.1), (λ k ts z. (tok.Close ∷ ts, (ts, refl, z))))
  open_leads w open'.NotCond (item.Cond c) p f = (item.Cond (roll-CCond (CCond-F.«CCond::Not» c)), (p.0, not_cond_fits l d c f.1), (λ k ts z. (tok.Close ∷ ts, (ts, refl, z))))
  open_leads w (open'.First v) i p f = subst (λ q. Leads l w d (λ k us. Sign l d k q i us)) (sym p.0) (sign_leads w i f)
  open_leads w (open'.Bin op a) (item.Word b) p f = (item.Word (roll-CExpr (CExpr-F.Bin op a b)), (p.0, bin_fits l d op a b p.1 f.1), (λ k ts z. (tok.Close ∷ ts, (ts, refl, z))))
  open_leads w (open'.Cmp op a) (item.Word b) p f = (item.Cond (roll-CCond (CCond-F.Cmp op a b)), (p.0, cmp_fits l d op a b p.1 f.1), (λ k ts z. (tok.Close ∷ ts, (ts, refl, z))))
  open_leads w (open'.And c) (item.Cond v) p f = (item.Cond (roll-CCond (CCond-F.And c v)), (p.0, and_fits l d c v p.1 f.1), (λ k ts z. (tok.Close ∷ ts, (ts, refl, z))))
  open_leads w (open'.Or c) (item.Cond v) p f = (item.Cond (roll-CCond (CCond-F.Or c v)), (p.0, or_fits l d c v p.1 f.1), (λ k ts z. (tok.Close ∷ ts, (ts, refl, z))))
  open_leads w (open'.PickFirst c) (item.Word a) p f = let n = more (deep_word a f.1) in (
    item.Word (roll-CExpr (CExpr-F.Pick c a zero)),
    (p.0, pick_fits l d c a zero p.1 f.1 n),
    (λ k ts z.
        (tok.Colon ∷ word_tokens zero (tok.Close ∷ ts), (word_tokens zero (tok.Close ∷ ts), refl, (item.Word zero, (refl, n), (tok.Close ∷ ts, refl, (ts, refl, z)))))),
  )
  open_leads w (open'.PickSecond c a) (item.Word b) p f = (item.Word (roll-CExpr (CExpr-F.Pick c a b)), (p.0, pick_fits l d c a b p.1 p.2 f.1), (λ k ts z. (tok.Close ∷ ts, (ts, refl, z))))
  open_leads w (open'.One g) (item.Word a) p f = (item.Word (roll-CExpr (CExpr-F.Fn1 g a)), (p.0, fn1_fits l d g a f.1), (λ k ts z. (tok.Close ∷ ts, (ts, refl, z))))
  open_leads w (open'.TwoFirst g) (item.Word a) p f = let n = more (deep_word a f.1) in (
    item.Word (roll-CExpr (CExpr-F.Fn2 g a zero)),
    (p.0, fn2_fits l d g a zero f.1 n),
    (λ k ts z.
        (tok.Comma ∷ word_tokens zero (tok.Close ∷ ts), (word_tokens zero (tok.Close ∷ ts), refl, (item.Word zero, (refl, n), (tok.Close ∷ ts, refl, (ts, refl, z)))))),
  )
  open_leads w (open'.TwoSecond g a) (item.Word b) p f = (item.Word (roll-CExpr (CExpr-F.Fn2 g a b)), (p.0, fn2_fits l d g a b p.1 f.1), (λ k ts z. (tok.Close ∷ ts, (ts, refl, z))))
  open_leads w (open'.ThreeFirst g) (item.Word a) p f = let n = more (deep_word a f.1) in (
    item.Word (roll-CExpr (CExpr-F.Fn3 g a zero zero)),
    (p.0, fn3_fits l d g a zero zero f.1 n n),
    (λ k ts z. (
      tok.Comma ∷ word_tokens zero (tok.Comma ∷ word_tokens zero (tok.Close ∷ ts)),
      (
        word_tokens zero (tok.Comma ∷ word_tokens zero (tok.Close ∷ ts)),
        refl,
        (
          item.Word zero,
          (refl, n),
          (
            tok.Comma ∷ word_tokens zero (tok.Close ∷ ts),
            refl,
            (word_tokens zero (tok.Close ∷ ts), refl, (item.Word zero, (refl, n), (tok.Close ∷ ts, refl, (ts, refl, z)))),
          ),
        ),
      ),
    )),
  )
  open_leads w (open'.ThreeSecond g a) (item.Word b) p f = let n = more (deep_word b f.1) in (
    item.Word (roll-CExpr (CExpr-F.Fn3 g a b zero)),
    (p.0, fn3_fits l d g a b zero p.1 f.1 n),
    (λ k ts z.
        (tok.Comma ∷ word_tokens zero (tok.Close ∷ ts), (word_tokens zero (tok.Close ∷ ts), refl, (item.Word zero, (refl, n), (tok.Close ∷ ts, refl, (ts, refl, z)))))),
  )
  open_leads w (open'.ThreeThird g a b) (item.Word v) p f = (item.Word (roll-CExpr (CExpr-F.Fn3 g a b v)), (p.0, fn3_fits l d g a b v p.1 p.2 f.1), (λ k ts z. (tok.Close ∷ ts, (ts, refl, z))))
  open_leads w open'.NotWord (item.Cond c) p f = no_cond f.0
  open_leads w open'.NotCond (item.Word a) p f = no_word f.0
  open_leads w (open'.Bin op a) (item.Cond c) p f = no_cond f.0
  open_leads w (open'.Cmp op a) (item.Cond c) p f = no_cond f.0
  open_leads w (open'.And c) (item.Word a) p f = no_word f.0
  open_leads w (open'.Or c) (item.Word a) p f = no_word f.0
  open_leads w (open'.PickFirst u) (item.Cond c) p f = no_cond f.0
  open_leads w (open'.PickSecond u a) (item.Cond c) p f = no_cond f.0
  open_leads w (open'.One g) (item.Cond c) p f = no_cond f.0
  open_leads w (open'.TwoFirst g) (item.Cond c) p f = no_cond f.0
  open_leads w (open'.TwoSecond g a) (item.Cond c) p f = no_cond f.0
  open_leads w (open'.ThreeFirst g) (item.Cond c) p f = no_cond f.0
  open_leads w (open'.ThreeSecond g a) (item.Cond c) p f = no_cond f.0
  open_leads w (open'.ThreeThird g a b) (item.Cond c) p f = no_cond f.0

-- a whole part inside all that is open can be completed to the whole
rests_lead : (l : Locals) (w : Wanted) (os : List Open) (i : Item) → OpenFit l w os → Fits l (wanted w os) (depth_left os) i → Leads l w 256 (λ k us. Rests l k os i us)
rests_lead l w [] i h f = (i, f, (λ k ts z. (ts, z)))
rests_lead l w (o ∷ os) i h f =
    let g : Leads l (wanted w os) (depth_left os) (λ k us. After l (depth_left os) k o i us) = open_leads l (depth_left os) (wanted w os) o i h.0 f in
    let m : Leads l w 256 (λ k us. Rests l k os g.0 us) = rests_lead l w os g.0 h.1 g.1 in
    (m.0, m.1, (λ k ts z. let y : (us : List Token) × Rests l k os g.0 us = m.2 k ts z in g.2 (Rests l k os) y.0 y.1))

-- what was read can be completed
pub reading_leads : (l : Locals) (w : Wanted) (r : Reading) → IsRead l w r → Leads l w 256 (λ k us. GoesOn l k r.state r.open' us)
reading_leads l w r h =
    let g : Leads l (wanted w r.open') (depth_left r.open') (λ k. StateRest l (depth_left r.open') k r.state) = state_leads l (wanted w r.open') (depth_left r.open') r.state h.state_fits in
    let m : Leads l w 256 (λ k us. Rests l k r.open' g.0 us) = rests_lead l w r.open' g.0 h.open_fit g.1 in
    (m.0, m.1, (λ k ts z. let y : (us : List Token) × Rests l k r.open' g.0 us = m.2 k ts z in g.2 (Rests l k r.open') y.0 y.1))

pub can_go_on_is : CanGoOn
can_go_on_is l w r h =
    let m : Leads l w 256 (λ k us. GoesOn l k r.state r.open' us) = reading_leads l w r h in
    (m.0, m.1, m.2 (Ends m.0) [] (refl, refl))

pub from_the_start_is : FromTheStart
from_the_start_is l w j ts = (there, (λ h. (j, h.0, ([], h.1, (refl, refl)))))
  where
    there : GoesOn l (Ends j) (state.Want w) [] ts → Fits l w 256 j × (ts ≡ item_tokens j [])
    there (i, f, (r, e, z)) = (subst (Fits l w 256) z.1 f, e ∙ ap (item_tokens i) z.0 ∙ ap (λ q. item_tokens q []) z.1)

-- ---- the end

nil_no : {x : Token} {xs : List Token} → [] ≡ x ∷ xs → ⊥
nil_no h = cc

no_empty : WordCases (λ a. (r : List Token) → [] ≡ word_tokens a r → ⊥) (λ c. (r : List Token) → [] ≡ cond_tokens c r → ⊥)
no_empty = record {
  num = λ n r e. nil_no (e ∙ ap (λ p. p r) (word_tokens_layer (CExpr-F.Num n)));
  name = λ n r e. nil_no (e ∙ ap (λ p. p r) (word_tokens_layer (CExpr-F.Name n)));
  not_word = λ a ha r e. nil_no (e ∙ ap (λ p. p r) (word_tokens_layer (CExpr-F.«CExpr::Not» a)));
  bin = λ op a b ha hb r e. nil_no (e ∙ ap (λ p. p r) (word_tokens_layer (CExpr-F.Bin op a b)));
  fn1 = λ g a ha r e. nil_no (e ∙ ap (λ p. p r) (word_tokens_layer (CExpr-F.Fn1 g a)));
  fn2 = λ g a b ha hb r e. nil_no (e ∙ ap (λ p. p r) (word_tokens_layer (CExpr-F.Fn2 g a b)));
  fn3 = λ g a b q ha hb hq r e. nil_no (e ∙ ap (λ p. p r) (word_tokens_layer (CExpr-F.Fn3 g a b q)));
  pick = λ u a b hu ha hb r e. nil_no (e ∙ ap (λ p. p r) (word_tokens_layer (CExpr-F.Pick u a b)));
  cmp = λ op a b ha hb r e. nil_no (e ∙ ap (λ p. p r) (cond_tokens_layer (CCond-F.Cmp op a b)));
  not_cond = λ u hu r e. nil_no (e ∙ ap (λ p. p r) (cond_tokens_layer (CCond-F.«CCond::Not» u)));
  both = λ u v hu hv r e. nil_no (e ∙ ap (λ p. p r) (cond_tokens_layer (CCond-F.And u v)));
  either = λ u v hu hv r e. nil_no (e ∙ ap (λ p. p r) (cond_tokens_layer (CCond-F.Or u v)));
}

pub wants_more : (l : Locals) (w : Wanted) (d : ℕ) (k : Rest) → Wants l w d k [] → ⊥
wants_more l w d k (item.Word a, f, (r, e, z)) = every_word no_empty a r e
wants_more l w d k (item.Cond c, f, (r, e, z)) = every_cond no_empty c r e

follows_more : (x : Token) (P : List Token → Type 0) → Follows x P [] → ⊥
follows_more x P (r, e, z) = nil_no e

parens_more : (l : Locals) (d : ℕ) (k : Rest) (w : Wanted) → InParens l d k w [] → ⊥
parens_more l d k w (inl (t, (us, e, q))) = nil_no e
parens_more l d k w (inr (inl (t, (us, e, q)))) = nil_no e
parens_more l d k w (inr (inr q)) = wants_more l want.Either (d - 1) (After l d k (open'.First w)) q

after_word_more : (l : Locals) (d : ℕ) (k : Rest) (o : Open) (a : CExpr) → After l d k o (item.Word a) [] → ⊥
after_word_more l d k open'.NotWord a h = nil_no h.1
after_word_more l d k open'.NotCond a h = h
after_word_more l d k (open'.First w) a h = h
after_word_more l d k (open'.Bin op b) a h = nil_no h.1
after_word_more l d k (open'.Cmp op b) a h = nil_no h.1
after_word_more l d k (open'.And c) a h = h
after_word_more l d k (open'.Or c) a h = h
after_word_more l d k (open'.PickFirst c) a h = nil_no h.1
after_word_more l d k (open'.PickSecond c b) a h = nil_no h.1
after_word_more l d k (open'.One g) a h = nil_no h.1
after_word_more l d k (open'.TwoFirst g) a h = nil_no h.1
after_word_more l d k (open'.TwoSecond g b) a h = nil_no h.1
after_word_more l d k (open'.ThreeFirst g) a h = nil_no h.1
after_word_more l d k (open'.ThreeSecond g b) a h = nil_no h.1
after_word_more l d k (open'.ThreeThird g b v) a h = nil_no h.1

after_cond_more : (l : Locals) (d : ℕ) (k : Rest) (o : Open) (c : CCond) → After l d k o (item.Cond c) [] → ⊥
after_cond_more l d k open'.NotWord c h = h
after_cond_more l d k open'.NotCond c h = nil_no h.1
after_cond_more l d k (open'.First w) c h = h
after_cond_more l d k (open'.Bin op b) c h = h
after_cond_more l d k (open'.Cmp op b) c h = h
after_cond_more l d k (open'.And v) c h = nil_no h.1
after_cond_more l d k (open'.Or v) c h = nil_no h.1
after_cond_more l d k (open'.PickFirst v) c h = h
after_cond_more l d k (open'.PickSecond v b) c h = h
after_cond_more l d k (open'.One g) c h = h
after_cond_more l d k (open'.TwoFirst g) c h = h
after_cond_more l d k (open'.TwoSecond g b) c h = h
after_cond_more l d k (open'.ThreeFirst g) c h = h
after_cond_more l d k (open'.ThreeSecond g b) c h = h
after_cond_more l d k (open'.ThreeThird g b v) c h = h

pub goes_on_more : (l : Locals) (k : Rest) (s : State) (os : List Open) → IsOpen s os → GoesOn l k s os [] → ⊥
goes_on_more l k (state.Want w) os o h = wants_more l w (depth_left os) (Rests l k os) h
goes_on_more l k (state.Paren w) os o h = parens_more l (depth_left os) (Rests l k os) w h
goes_on_more l k (state.Call f) os o h = nil_no h.1
goes_on_more l k (state.Have i) [] o h = o
goes_on_more l k (state.Have (item.Word a)) (p ∷ os) o h = after_word_more l (depth_left os) (Rests l k os) p a h
goes_on_more l k (state.Have (item.Cond c)) (p ∷ os) o h = after_cond_more l (depth_left os) (Rests l k os) p c h

pub not_the_end_is : NotTheEnd
not_the_end_is l j r o h = goes_on_more l (Ends j) r.state r.open' o h
