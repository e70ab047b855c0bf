-- The Word or Cond at the front of some tokens: a parser that inverts the tokens.
use Rattle.std.proofs.Common.{◌≡◌, ℕ, zero, suc, ◌+◌, ◌≤◌, max, Bool, true, false, List, [], ◌∷◌, Option, Some, None, refl, sym, ap, ◌∙◌, subst, arith}
use Rattle.c_syntax.specs.declared.syntax.CBin.{CBin}
use Rattle.c_syntax.specs.declared.syntax.CCmp.{CCmp}
use Rattle.c_syntax.specs.declared.syntax.CFn1.{CFn1}
use Rattle.c_syntax.specs.declared.syntax.CFn2.{CFn2}
use Rattle.c_syntax.specs.declared.syntax.CFn3.{CFn3}
use Rattle.c_syntax.specs.declared.syntax.CExpr as e
use Rattle.c_syntax.specs.declared.syntax.CExpr.{CExpr, CExpr-F, roll-CExpr}
use Rattle.c_syntax.specs.declared.syntax.CCond as c
use Rattle.c_syntax.specs.declared.syntax.CCond.{CCond, CCond-F, roll-CCond}
use Rattle.c_syntax.specs.declared.token.Token.{Token}
use Rattle.c_syntax.specs.declared.token.Token.TheVariants as t
use Rattle.c_syntax.specs.Tokens.{Tokens, word_at, cond_at, word_tokens, cond_tokens}
use Rattle.c_syntax.specs.Depth.{word_depth_at, cond_depth_at, word_depth, cond_depth}
use Rattle.c_syntax.proofs.Items.{Item, Word, Cond, item_tokens, OneItem}
use Rattle.c_syntax.proofs.Layers.{word_tokens_layer, cond_tokens_layer, word_depth_layer, cond_depth_layer}
use Rattle.c_syntax.proofs.Induct.{WordCases, every_word, every_cond}

-- the item that is read, and the tokens after it
abbrev pub Found : Type 0
Found = Option (Item × List Token)

-- what is made of a Word, or of a Cond, and of the tokens that follow it
abbrev pub with_word : {B : Type 0} → Found → (CExpr → List Token → Option B) → Option B
with_word (Some (Word a, ts)) next = next a ts
with_word _ next = None

abbrev pub with_cond : {B : Type 0} → Found → (CCond → List Token → Option B) → Option B
with_cond (Some (Cond d, ts)) next = next d ts
with_cond _ next = None

-- what must follow a part
abbrev pub close : Item → List Token → Found
close i (t.Close ∷ ts) = Some (i, ts)
close i _ = None

abbrev pub comma : {B : Type 0} → List Token → (List Token → Option B) → Option B
comma (t.Comma ∷ ts) next = next ts
comma _ next = None

abbrev pub colon : {B : Type 0} → List Token → (List Token → Option B) → Option B
colon (t.Colon ∷ ts) next = next ts
colon _ next = None

-- after a first Word or Cond in parentheses
abbrev pub word_first : (List Token → Found) → CExpr → List Token → Found
word_first item a (t.Op op ∷ ts) = with_word (item ts) (λ b. close (Word (roll-CExpr (CExpr-F.Bin op a b))))
word_first item a (t.Compare op ∷ ts) = with_word (item ts) (λ b. close (Cond (roll-CCond (CCond-F.Cmp op a b))))
word_first item a _ = None

abbrev pub cond_first : (List Token → Found) → CCond → List Token → Found
cond_first item d (t.Question ∷ ts) = with_word (item ts) (λ a ts. colon ts (λ ts. with_word (item ts) (λ b. close (Word (roll-CExpr (CExpr-F.Pick d a b))))))
cond_first item d (t.Both ∷ ts) = with_cond (item ts) (λ u. close (Cond (roll-CCond (CCond-F.And d u))))
cond_first item d (t.Either ∷ ts) = with_cond (item ts) (λ u. close (Cond (roll-CCond (CCond-F.Or d u))))
cond_first item d _ = None

-- after an opening parenthesis and an item
abbrev pub inner : (List Token → Found) → Found → Found
inner item (Some (Word a, ts)) = word_first item a ts
inner item (Some (Cond d, ts)) = cond_first item d ts
inner item None = None

-- after an opening parenthesis
abbrev pub opened : (List Token → Found) → List Token → Found
opened item (t.Tilde ∷ ts) = with_word (item ts) (λ a. close (Word (roll-CExpr (CExpr-F.«CExpr::Not» a))))
opened item (t.Bang ∷ ts) = with_cond (item ts) (λ d. close (Cond (roll-CCond (CCond-F.«CCond::Not» d))))
opened item ts = inner item (item ts)

-- the item at the front, of a depth of at most k
abbrev pub item : ℕ → List Token → Found
item zero ts = None
item (suc k) (t.Num n ∷ ts) = Some (Word (roll-CExpr (CExpr-F.Num n)), ts)
item (suc k) (t.Name n ∷ ts) = Some (Word (roll-CExpr (CExpr-F.Name n)), ts)
item (suc k) (t.Open ∷ ts) = opened (item k) ts
item (suc k) (t.Fn1 f ∷ t.Open ∷ ts) = with_word (item k ts) (λ a. close (Word (roll-CExpr (CExpr-F.Fn1 f a))))
item (suc k) (t.Fn2 f ∷ t.Open ∷ ts) = with_word (item k ts) (λ a ts. comma ts (λ ts. with_word (item k ts) (λ b. close (Word (roll-CExpr (CExpr-F.Fn2 f a b))))))
item (suc k) (t.Fn3 f ∷ t.Open ∷ ts) =
    with_word (item k ts) (λ a ts. comma ts (λ ts. with_word (item k ts) (λ b ts. comma ts (λ ts. with_word (item k ts) (λ d. close (Word (roll-CExpr (CExpr-F.Fn3 f a b d))))))))
item (suc k) ts = None

-- the tokens with which a Word or Cond begins
abbrev pub starts_item : Token → Bool
starts_item (t.Num n) = true
starts_item (t.Name n) = true
starts_item t.Open = true
starts_item (t.Fn1 f) = true
starts_item (t.Fn2 f) = true
starts_item (t.Fn3 f) = true
starts_item _ = false

-- tokens that begin so
abbrev pub Starts : List Token → Type 0
Starts [] = ⊥
Starts (x ∷ ts) = starts_item x ≡ true

-- the tokens are read as the item, whatever follows, where d or more of Words and Conds may nest
pub record IsRead (i : Item) (p : Tokens) (d : ℕ) : Type 0 where
  pub reads : (k : ℕ) (r : List Token) → d ≤ k → item k (p r) ≡ Some (i, r)
  pub starts : (r : List Token) → Starts (p r)

-- what begins an item is no `~` and no `!`
pub opened_inner : (f : List Token → Found) (ts : List Token) → Starts ts → opened f ts ≡ inner f (f ts)
opened_inner f [] s = absurd s
opened_inner f (t.Tilde ∷ ts) s = absurd (cc)
opened_inner f (t.Bang ∷ ts) s = absurd (cc)
opened_inner f (x ∷ ts) s = refl

-- a bound on the depth leaves one more for the parts
pub at_least : (d : ℕ) (P : ℕ → Type 0) → ((k : ℕ) → d ≤ k → P (suc k)) → (k : ℕ) → suc d ≤ k → P k
at_least d P h zero l = absurd (omega (arith, l))
at_least d P h (suc k) l = h k (omega (arith, l))

-- a Word or Cond that is read, and what is made of it
pub then_word : {B : Type 0} (a : CExpr) (p : Tokens) (d : ℕ) (q : IsRead (Word a) p d) (k : ℕ) (r : List Token) (next : CExpr → List Token → Option B) → d ≤ k → with_word (item k (p r)) next ≡ next a r
then_word a p d q k r next l = ap (λ o. with_word o next) (q.reads k r l)

pub then_cond : {B : Type 0} (u : CCond) (p : Tokens) (d : ℕ) (q : IsRead (Cond u) p d) (k : ℕ) (r : List Token) (next : CCond → List Token → Option B) → d ≤ k → with_cond (item k (p r)) next ≡ next u r
then_cond u p d q k r next l = ap (λ o. with_cond o next) (q.reads k r l)

-- the first item in parentheses
pub first_word : (a : CExpr) (p : Tokens) (d : ℕ) (q : IsRead (Word a) p d) (k : ℕ) (r : List Token) → d ≤ k → opened (item k) (p r) ≡ word_first (item k) a r
first_word a p d q k r l = opened_inner (item k) (p r) (q.starts r) ∙ ap (inner (item k)) (q.reads k r l)

pub first_cond : (u : CCond) (p : Tokens) (d : ℕ) (q : IsRead (Cond u) p d) (k : ℕ) (r : List Token) → d ≤ k → opened (item k) (p r) ≡ cond_first (item k) u r
first_cond u p d q k r l = opened_inner (item k) (p r) (q.starts r) ∙ ap (inner (item k)) (q.reads k r l)

module _ (a b d : CExpr) (p q s : Tokens) (da db dd : ℕ) (ha : IsRead (Word a) p da) (hb : IsRead (Word b) q db) (hd : IsRead (Word d) s dd) where
  -- each form of a Word
  not_word_read : IsRead (Word (roll-CExpr (CExpr-F.«CExpr::Not» a))) (word_at (CExpr-F.«CExpr::Not» p)) (suc (da))
  not_word_read = record {
    starts = λ r. refl;
    reads = λ k r. at_least (da) (λ k. item k ((word_at (CExpr-F.«CExpr::Not» p)) r) ≡ Some (Word (roll-CExpr (CExpr-F.«CExpr::Not» a)), r)) (λ k l.
        then_word a p da ha k (t.Close ∷ r) _ l) k;
  }

  bin_read : (op : CBin) → IsRead (Word (roll-CExpr (CExpr-F.Bin op a b))) (word_at (CExpr-F.Bin op p q)) (suc (max da db))
  bin_read op = record {
    starts = λ r. refl;
    reads = λ k r. at_least (max da db) (λ k. item k ((word_at (CExpr-F.Bin op p q)) r) ≡ Some (Word (roll-CExpr (CExpr-F.Bin op a b)), r)) (λ k l.
        first_word a p da ha k _ (omega (arith, l)) ∙ then_word b q db hb k (t.Close ∷ r) _ (omega (arith, l))) k;
  }

  fn1_read : (f : CFn1) → IsRead (Word (roll-CExpr (CExpr-F.Fn1 f a))) (word_at (CExpr-F.Fn1 f p)) (suc (da))
  fn1_read f = record {
    starts = λ r. refl;
    reads = λ k r. at_least (da) (λ k. item k ((word_at (CExpr-F.Fn1 f p)) r) ≡ Some (Word (roll-CExpr (CExpr-F.Fn1 f a)), r)) (λ k l.
        then_word a p da ha k (t.Close ∷ r) _ l) k;
  }

  fn2_read : (f : CFn2) → IsRead (Word (roll-CExpr (CExpr-F.Fn2 f a b))) (word_at (CExpr-F.Fn2 f p q)) (suc (max da db))
  fn2_read f = record {
    starts = λ r. refl;
    reads = λ k r. at_least (max da db) (λ k. item k ((word_at (CExpr-F.Fn2 f p q)) r) ≡ Some (Word (roll-CExpr (CExpr-F.Fn2 f a b)), r)) (λ k l.
        then_word a p da ha k (t.Comma ∷ q (t.Close ∷ r)) _ (omega (arith, l)) ∙ then_word b q db hb k (t.Close ∷ r) _ (omega (arith, l))) k;
  }

  fn3_read : (f : CFn3) → IsRead (Word (roll-CExpr (CExpr-F.Fn3 f a b d))) (word_at (CExpr-F.Fn3 f p q s)) (suc (max da (max db dd)))
  fn3_read f = record {
    starts = λ r. refl;
    reads = λ k r. at_least (max da (max db dd)) (λ k. item k ((word_at (CExpr-F.Fn3 f p q s)) r) ≡ Some (Word (roll-CExpr (CExpr-F.Fn3 f a b d)), r)) (λ k l.
        then_word a p da ha k (t.Comma ∷ q (t.Comma ∷ s (t.Close ∷ r))) _ (omega (arith, l)) ∙ then_word b q db hb k (t.Comma ∷ s (t.Close ∷ r)) _ (omega (arith, l)) ∙ then_word d s dd hd k (t.Close ∷ r) _ (omega (arith, l))) k;
  }

  -- a comparison
  cmp_read : (op : CCmp) → IsRead (Cond (roll-CCond (CCond-F.Cmp op a b))) (cond_at (CCond-F.Cmp op p q)) (suc (max da db))
  cmp_read op = record {
    starts = λ r. refl;
    reads = λ k r. at_least (max da db) (λ k. item k ((cond_at (CCond-F.Cmp op p q)) r) ≡ Some (Cond (roll-CCond (CCond-F.Cmp op a b)), r)) (λ k l.
        first_word a p da ha k _ (omega (arith, l)) ∙ then_word b q db hb k (t.Close ∷ r) _ (omega (arith, l))) k;
  }

module _ (u v : CCond) (a b : CExpr) (x y p q : Tokens) (du dv da db : ℕ) (hu : IsRead (Cond u) x du) (hv : IsRead (Cond v) y dv) (ha : IsRead (Word a) p da) (hb : IsRead (Word b) q db) where
  -- the conditional word
  pick_read : IsRead (Word (roll-CExpr (CExpr-F.Pick u a b))) (word_at (CExpr-F.Pick x p q)) (suc (max du (max da db)))
  pick_read = record {
    starts = λ r. refl;
    reads = λ k r. at_least (max du (max da db)) (λ k. item k ((word_at (CExpr-F.Pick x p q)) r) ≡ Some (Word (roll-CExpr (CExpr-F.Pick u a b)), r)) (λ k l.
        first_cond u x du hu k _ (omega (arith, l)) ∙ then_word a p da ha k (t.Colon ∷ q (t.Close ∷ r)) _ (omega (arith, l)) ∙ then_word b q db hb k (t.Close ∷ r) _ (omega (arith, l))) k;
  }

module _ (u v : CCond) (x y : Tokens) (du dv : ℕ) (hu : IsRead (Cond u) x du) (hv : IsRead (Cond v) y dv) where
  -- the other forms of a Cond
  not_cond_read : IsRead (Cond (roll-CCond (CCond-F.«CCond::Not» u))) (cond_at (CCond-F.«CCond::Not» x)) (suc (du))
  not_cond_read = record {
    starts = λ r. refl;
    reads = λ k r. at_least (du) (λ k. item k ((cond_at (CCond-F.«CCond::Not» x)) r) ≡ Some (Cond (roll-CCond (CCond-F.«CCond::Not» u)), r)) (λ k l.
        then_cond u x du hu k (t.Close ∷ r) _ l) k;
  }

  both_read : IsRead (Cond (roll-CCond (CCond-F.And u v))) (cond_at (CCond-F.And x y)) (suc (max du dv))
  both_read = record {
    starts = λ r. refl;
    reads = λ k r. at_least (max du dv) (λ k. item k ((cond_at (CCond-F.And x y)) r) ≡ Some (Cond (roll-CCond (CCond-F.And u v)), r)) (λ k l.
        first_cond u x du hu k _ (omega (arith, l)) ∙ then_cond v y dv hv k (t.Close ∷ r) _ (omega (arith, l))) k;
  }

  either_read : IsRead (Cond (roll-CCond (CCond-F.Or u v))) (cond_at (CCond-F.Or x y)) (suc (max du dv))
  either_read = record {
    starts = λ r. refl;
    reads = λ k r. at_least (max du dv) (λ k. item k ((cond_at (CCond-F.Or x y)) r) ≡ Some (Cond (roll-CCond (CCond-F.Or u v)), r)) (λ k l.
        first_cond u x du hu k _ (omega (arith, l)) ∙ then_cond v y dv hv k (t.Close ∷ r) _ (omega (arith, l))) k;
  }

-- a layer over them
word_layer : (d : ℕ) (y : CExpr-F CCond CExpr) → IsRead (Word (roll-CExpr y)) (word_at (e.map-CExpr CCond CExpr Tokens Tokens cond_tokens word_tokens y)) d
    → d ≤ word_depth_at (e.map-CExpr CCond CExpr ℕ ℕ cond_depth word_depth y) → IsRead (Word (roll-CExpr y)) (word_tokens (roll-CExpr y)) (word_depth (roll-CExpr y))
word_layer d y h k =
    let l : d ≤ word_depth (roll-CExpr y) = subst (λ n. d ≤ n) (sym (word_depth_layer y)) k in
    subst (λ p. IsRead (Word (roll-CExpr y)) p (word_depth (roll-CExpr y))) (sym (word_tokens_layer y)) (record { starts = h.starts; reads = λ m r n. h.reads m r (omega arith) })

cond_layer : (d : ℕ) (y : CCond-F CCond CExpr) → IsRead (Cond (roll-CCond y)) (cond_at (c.map-CCond CCond CExpr Tokens Tokens cond_tokens word_tokens y)) d
    → d ≤ cond_depth_at (c.map-CCond CCond CExpr ℕ ℕ cond_depth word_depth y) → IsRead (Cond (roll-CCond y)) (cond_tokens (roll-CCond y)) (cond_depth (roll-CCond y))
cond_layer d y h k =
    let l : d ≤ cond_depth (roll-CCond y) = subst (λ n. d ≤ n) (sym (cond_depth_layer y)) k in
    subst (λ p. IsRead (Cond (roll-CCond y)) p (cond_depth (roll-CCond y))) (sym (cond_tokens_layer y)) (record { starts = h.starts; reads = λ m r n. h.reads m r (omega arith) })

-- by cases
reading : WordCases (λ a. IsRead (Word a) (word_tokens a) (word_depth a)) (λ u. IsRead (Cond u) (cond_tokens u) (cond_depth u))
reading = record {
  num = λ n. word_layer 1 (CExpr-F.Num n) (record { starts = λ r. refl; reads = λ k r. at_least 0 (λ k. item k (t.Num n ∷ r) ≡ Some (Word (roll-CExpr (CExpr-F.Num n)), r)) (λ k l. refl) k }) (omega arith);
  name = λ n. word_layer 1 (CExpr-F.Name n) (record { starts = λ r. refl; reads = λ k r. at_least 0 (λ k. item k (t.Name n ∷ r) ≡ Some (Word (roll-CExpr (CExpr-F.Name n)), r)) (λ k l. refl) k }) (omega arith);
  not_word = λ a ha. word_layer _ (CExpr-F.«CExpr::Not» a) (not_word_read a a a _ _ _ _ _ _ ha ha ha) (omega arith);
  bin = λ op a b ha hb. word_layer _ (CExpr-F.Bin op a b) (bin_read a b b _ _ _ _ _ _ ha hb hb op) (omega arith);
  fn1 = λ f a ha. word_layer _ (CExpr-F.Fn1 f a) (fn1_read a a a _ _ _ _ _ _ ha ha ha f) (omega arith);
  fn2 = λ f a b ha hb. word_layer _ (CExpr-F.Fn2 f a b) (fn2_read a b b _ _ _ _ _ _ ha hb hb f) (omega arith);
  fn3 = λ f a b d ha hb hd. word_layer _ (CExpr-F.Fn3 f a b d) (fn3_read a b d _ _ _ _ _ _ ha hb hd f) (omega arith);
  pick = λ u a b hu ha hb. word_layer _ (CExpr-F.Pick u a b) (pick_read u u a b _ _ _ _ _ _ _ _ hu hu ha hb) (omega arith);
  cmp = λ op a b ha hb. cond_layer _ (CCond-F.Cmp op a b) (cmp_read a b b _ _ _ _ _ _ ha hb hb op) (omega arith);
  not_cond = λ u hu. cond_layer _ (CCond-F.«CCond::Not» u) (not_cond_read u u _ _ _ _ hu hu) (omega arith);
  both = λ u v hu hv. cond_layer _ (CCond-F.And u v) (both_read u v _ _ _ _ hu hv) (omega arith);
  either = λ u v hu hv. cond_layer _ (CCond-F.Or u v) (either_read u v _ _ _ _ hu hv) (omega arith);
}

-- every Word and every Cond is read
pub word_read : (a : CExpr) → IsRead (Word a) (word_tokens a) (word_depth a)
word_read a = every_word reading a

pub cond_read : (u : CCond) → IsRead (Cond u) (cond_tokens u) (cond_depth u)
cond_read u = every_cond reading u

-- the depth of a Word or Cond
abbrev pub item_depth : Item → ℕ
item_depth (Word a) = word_depth a
item_depth (Cond u) = cond_depth u

-- the parser inverts the tokens, at the depth of the item and above
pub item_read : (i : Item) (k : ℕ) (r : List Token) → item_depth i ≤ k → item k (item_tokens i r) ≡ Some (i, r)
item_read (Word a) k r l = (word_read a).reads k r l
item_read (Cond u) k r l = (cond_read u).reads k r l

-- tokens that the parser refuses at a depth begin with no item of that depth
pub none_begins : (d : ℕ) (ts : List Token) → item d ts ≡ None → (i : Item) (r : List Token) → item_depth i ≤ d → item_tokens i r ≡ ts → ⊥
none_begins d ts h i r l e = let s : ◌≡◌ {A = Found} (Some (i, r)) None = sym (item_read i d r l) ∙ ap (item d) e ∙ h in cc

-- what is found is one item and one rest
found_pair : {x y : Item × List Token} → Some x ≡ Some y → x ≡ y
found_pair {x} {y} h = ap (λ o. elim o as (λ _. Item × List Token) [ None ↦ x | Some z ↦ z ]) h

-- tokens begin with those of at most one item
pub one_item : OneItem
one_item i j r s h =
    let k : ℕ = item_depth i + item_depth j in
    let same : (i, r) ≡ (j, s) = found_pair (sym (item_read i k r (omega arith)) ∙ ap (item k) h ∙ item_read j k s (omega arith)) in
    (ap (λ z. z.0) same, ap (λ z. z.1) same)
