-- Which Words are plain, from their parts.
use Rattle.std.proofs.Common.{◌≡◌, ℕ, Bool, true, false, cond, not, ◌&&◌, nat_eq, refl, sym, ap, ◌∙◌}
use Rattle.std.specs.Prelude.{IsTrue}
use Rattle.dream_words.specs.declared.machine.Name.{Name}
use Rattle.c_syntax.specs.declared.syntax.CBin.{CBin}
use Rattle.c_syntax.specs.declared.syntax.CCmp.{CCmp}
use Rattle.c_syntax.specs.declared.syntax.CFn1.{CFn1}
use Rattle.c_syntax.specs.declared.syntax.CFn2.{CFn2}
use Rattle.c_syntax.specs.declared.syntax.CFn3.{CFn3}
use Rattle.c_syntax.specs.declared.syntax.CExpr as e
use Rattle.c_syntax.specs.declared.syntax.CExpr.{CExpr, CExpr-F, roll-CExpr}
use Rattle.c_syntax.specs.declared.syntax.CCond as c
use Rattle.c_syntax.specs.declared.syntax.CCond.{CCond, CCond-F, roll-CCond, fold-CCond}
use Rattle.c_words.specs.Built.{num, name, word_not, bin, fn1, fn2, fn3, pick, cmp, cond_not, and, or}
use Rattle.c_syntax.proofs.Induct.{WordCases, every_word}
use Rattle.word_rules.specs.Numbers.{is_number_at, is_number}
use Rattle.word_rules.specs.Plain.{Kind, nought, number, complement, other, is_nought, is_numeric, is_complement, drops_nought, stays, Look, look, word_look_at, cond_look_at, word_look, cond_look, is_plain, is_plain_cond}

word_look_layer : (y : CExpr-F CCond CExpr) → word_look (roll-CExpr y) ≡ word_look_at (e.map-CExpr CCond CExpr Look Look cond_look word_look y)
word_look_layer y = e.fold-roll-CExpr Look Look cond_look_at word_look_at y

cond_look_layer : (y : CCond-F CCond CExpr) → cond_look (roll-CCond y) ≡ cond_look_at (c.map-CCond CCond CExpr Look Look cond_look word_look y)
cond_look_layer y = c.fold-roll-CCond Look Look cond_look_at word_look_at y

is_number_layer : (y : CExpr-F CCond CExpr) → is_number (roll-CExpr y) ≡ is_number_at (e.map-CExpr CCond CExpr Bool Bool (fold-CCond Bool Bool (λ t. false) is_number_at) is_number y)
is_number_layer y = e.fold-roll-CExpr Bool Bool (λ t. false) is_number_at y

pub num_look : (n : ℕ) → word_look (num n) ≡ look (cond (nat_eq n 0) nought number) true true
num_look n = word_look_layer (CExpr-F.Num n)

pub name_look : (n : Name) → word_look (name n) ≡ look other true true
name_look n = word_look_layer (CExpr-F.Name n)

pub not_look : (a : CExpr) → word_look (word_not a) ≡ look complement (is_plain a) (not (is_numeric (word_look a).kind) && not (is_complement (word_look a).kind))
not_look a = word_look_layer (CExpr-F.«CExpr::Not» a)

pub bin_look : (op : CBin) (a b : CExpr) → word_look (bin op a b) ≡ look other (is_plain a && is_plain b) (stays op (word_look a).kind (word_look b).kind)
bin_look op a b = word_look_layer (CExpr-F.Bin op a b)

pub fn1_look : (f : CFn1) (a : CExpr) → word_look (fn1 f a) ≡ look other (is_plain a) true
fn1_look f a = word_look_layer (CExpr-F.Fn1 f a)

pub fn2_look : (f : CFn2) (a b : CExpr) → word_look (fn2 f a b) ≡ look other (is_plain a && is_plain b) true
fn2_look f a b = word_look_layer (CExpr-F.Fn2 f a b)

pub fn3_look : (f : CFn3) (a b d : CExpr) → word_look (fn3 f a b d) ≡ look other (is_plain a && (is_plain b && is_plain d)) true
fn3_look f a b d = word_look_layer (CExpr-F.Fn3 f a b d)

pub pick_look : (t : CCond) (a b : CExpr) → word_look (pick t a b) ≡ look other (is_plain_cond t && (is_plain a && is_plain b)) true
pick_look t a b = word_look_layer (CExpr-F.Pick t a b)

pub cmp_look : (op : CCmp) (a b : CExpr) → cond_look (cmp op a b) ≡ look other (is_plain a && is_plain b) true
cmp_look op a b = cond_look_layer (CCond-F.Cmp op a b)

pub cond_not_look : (t : CCond) → cond_look (cond_not t) ≡ look complement (is_plain_cond t) (not (is_complement (cond_look t).kind))
cond_not_look t = cond_look_layer (CCond-F.«CCond::Not» t)

pub and_look : (t u : CCond) → cond_look (and t u) ≡ look other (is_plain_cond t && is_plain_cond u) true
and_look t u = cond_look_layer (CCond-F.And t u)

pub or_look : (t u : CCond) → cond_look (or t u) ≡ look other (is_plain_cond t && is_plain_cond u) true
or_look t u = cond_look_layer (CCond-F.Or t u)

-- ---- numbers

pub num_plain : (n : ℕ) → IsTrue (is_plain (num n))
num_plain n = ap (λ k. k.whole) (num_look n)

either_numeric : (b : Bool) → is_numeric (cond b nought number) ≡ true
either_numeric true = refl
either_numeric false = refl

nought_by : (b : Bool) → is_nought (cond b nought number) ≡ b
nought_by true = refl
nought_by false = refl

pub num_numeric : (n : ℕ) → is_numeric (word_look (num n)).kind ≡ true
num_numeric n = ap (λ k. is_numeric k.kind) (num_look n) ∙ either_numeric (nat_eq n 0)

pub num_nought : (n : ℕ) → is_nought (word_look (num n)).kind ≡ nat_eq n 0
num_nought n = ap (λ k. is_nought k.kind) (num_look n) ∙ nought_by (nat_eq n 0)

abbrev Tells : CExpr → Type 0
Tells a = is_number a ≡ is_numeric (word_look a).kind

tells_at : (y : CExpr-F CCond CExpr) → is_number_at (e.map-CExpr CCond CExpr Bool Bool (fold-CCond Bool Bool (λ t. false) is_number_at) is_number y) ≡ is_numeric (word_look_at (e.map-CExpr CCond CExpr Look Look cond_look word_look y)).kind → Tells (roll-CExpr y)
tells_at y h = is_number_layer y ∙ h ∙ sym (ap (λ k. is_numeric k.kind) (word_look_layer y))

tells_cases : WordCases Tells (λ t. Unit {0})
tells_cases = record {
  num = λ n. tells_at (CExpr-F.Num n) (sym (either_numeric (nat_eq n 0)));
  name = λ n. tells_at (CExpr-F.Name n) refl;
  not_word = λ a ha. tells_at (CExpr-F.«CExpr::Not» a) refl;
  bin = λ op a b ha hb. tells_at (CExpr-F.Bin op a b) refl;
  fn1 = λ f a ha. tells_at (CExpr-F.Fn1 f a) refl;
  fn2 = λ f a b ha hb. tells_at (CExpr-F.Fn2 f a b) refl;
  fn3 = λ f a b d ha hb hd. tells_at (CExpr-F.Fn3 f a b d) refl;
  pick = λ t a b ht ha hb. tells_at (CExpr-F.Pick t a b) refl;
  cmp = λ op a b ha hb. tt;
  not_cond = λ t ht. tt;
  both = λ t u ht hu. tt;
  either = λ t u ht hu. tt;
}

-- a number is numeric to what is around it
pub number_tells : (a : CExpr) → is_number a ≡ is_numeric (word_look a).kind
number_tells a = every_word tells_cases a

-- ---- operators

nought_is_numeric : (k : Kind) → is_numeric k ≡ false → is_nought k ≡ false
nought_is_numeric nought h = absurd (let n : ⊥ = cc in n)
nought_is_numeric number h = refl
nought_is_numeric complement h = refl
nought_is_numeric other h = refl

stays_first : (p q r s : Bool) → p ≡ false → (r && s) ≡ false → (not (p && q) && not (r && s)) ≡ true
stays_first true q r s h g = absurd (let n : ⊥ = cc in n)
stays_first false q r s h g = ap not g

stays_second : (p q r s : Bool) → q ≡ false → s ≡ false → (not (p && q) && not (r && s)) ≡ true
stays_second true true r s h g = absurd (let n : ⊥ = cc in n)
stays_second true false true true h g = absurd (let n : ⊥ = cc in n)
stays_second true false true false h g = refl
stays_second true false false s h g = refl
stays_second false q true true h g = absurd (let n : ⊥ = cc in n)
stays_second false q true false h g = refl
stays_second false q false s h g = refl

and_one : (p q : Bool) → IsTrue p → q ≡ true → IsTrue (p && q)
and_one true q h g = g
and_one false q h g = absurd (let n : ⊥ = cc in n)

-- where its first part is no number, and its second part no number that is dropped
pub bin_number_plain : (op : CBin) (a : CExpr) (k : ℕ) → is_number a ≡ false → (drops_nought op && nat_eq k 0) ≡ false → IsTrue (is_plain a) → IsTrue (is_plain (bin op a (num k)))
bin_number_plain op a k n h p =
    let i : is_numeric (word_look a).kind ≡ false = sym (number_tells a) ∙ n in
    let j : (drops_nought op && is_nought (word_look (num k)).kind) ≡ false = ap (λ b. drops_nought op && b) (num_nought k) ∙ h in
    ap (λ w. w.whole) (bin_look op a (num k))
    ∙ and_one (is_plain a && is_plain (num k)) (stays op (word_look a).kind (word_look (num k)).kind) (and_one (is_plain a) (is_plain (num k)) p (num_plain k))
    (stays_first (is_numeric (word_look a).kind) (is_numeric (word_look (num k)).kind) (drops_nought op) (is_nought (word_look (num k)).kind) i j)

-- where its second part is no number
pub bin_plain : (op : CBin) (a b : CExpr) → is_number b ≡ false → IsTrue (is_plain a) → IsTrue (is_plain b) → IsTrue (is_plain (bin op a b))
bin_plain op a b n p q =
    let i : is_numeric (word_look b).kind ≡ false = sym (number_tells b) ∙ n in
    let j : is_nought (word_look b).kind ≡ false = nought_is_numeric (word_look b).kind i in
    ap (λ w. w.whole) (bin_look op a b)
    ∙ and_one (is_plain a && is_plain b) (stays op (word_look a).kind (word_look b).kind) (and_one (is_plain a) (is_plain b) p q)
    (stays_second (is_numeric (word_look a).kind) (is_numeric (word_look b).kind) (drops_nought op) (is_nought (word_look b).kind) i j)
