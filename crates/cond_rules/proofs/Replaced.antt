-- Words and Conds with parts replaced by ones that may stand for these, where they are given as the code has them.
use Rattle.std.proofs.Common.{◌≡◌, ℕ, sym, ◌∙◌, subst}
use Rattle.dream_words.specs.declared.machine.Name.{Name}
use Rattle.c_syntax.specs.declared.syntax.CBin.{CBin}
use Rattle.c_syntax.specs.declared.syntax.CCmp.{CCmp}
use Rattle.c_syntax.specs.declared.syntax.CFn1.{CFn1}
use Rattle.c_syntax.specs.declared.syntax.CFn2.{CFn2}
use Rattle.c_syntax.specs.declared.syntax.CFn3.{CFn3}
use Rattle.c_syntax.specs.declared.syntax.CExpr as words
use Rattle.c_syntax.specs.declared.syntax.CExpr.{CExpr}
use Rattle.c_syntax.specs.declared.syntax.CExpr.TheVariants as word
use Rattle.c_syntax.specs.declared.syntax.CCond as conds
use Rattle.c_syntax.specs.declared.syntax.CCond.{CCond}
use Rattle.c_syntax.specs.declared.syntax.CCond.TheVariants as test
use Rattle.c_words.specs.Built.{num, name, word_not, bin, fn1, fn2, fn3, pick, cmp, cond_not, and, or}
use Rattle.word_rules.specs.Standing.{ForWord, ForCond}
use Rattle.word_rules.proofs.Congruence.{not_stands, bin_stands, fn1_stands, fn2_stands, fn3_stands, pick_stands, cmp_stands, cond_not_stands, and_stands, or_stands, cond_chain, cond_self}

-- a Word, and a Cond, that is given as equal to another
word_from : (e f g h : CExpr) → e ≡ f → g ≡ h → ForWord f h → ForWord e g
word_from e f g h p q k = subst (ForWord e) (sym q) (subst (λ z. ForWord z h) (sym p) k)

part_from : (a g x : CExpr) → g ≡ a → ForWord g x → ForWord a x
part_from a g x e h = subst (λ z. ForWord z x) e h

cond_from : (t u w : CCond) → t ≡ u → ForCond u w → ForCond t w
cond_from t u w p k = subst (λ z. ForCond z w) (sym p) k

test_from : (t g x : CCond) → g ≡ t → ForCond g x → ForCond t x
test_from t g x e h = subst (λ z. ForCond z x) e h

pub not_made : (e a x r : CExpr) → e ≡ words.Not a → r ≡ words.Not x → ForWord a x → ForWord e r
not_made e a x r h k p = word_from e (word_not a) r (word_not x) (h ∙ sym (word.rolls-Not a)) (k ∙ sym (word.rolls-Not x)) (not_stands a x p)

pub bin_made : (op : CBin) (e a b x y r : CExpr) → e ≡ words.Bin op a b → r ≡ words.Bin op x y → ForWord a x → ForWord b y → ForWord e r
bin_made op e a b x y r h k p q = word_from e (bin op a b) r (bin op x y) (h ∙ sym (word.rolls-Bin op a b)) (k ∙ sym (word.rolls-Bin op x y)) (bin_stands op a b x y p q)

pub fn1_made : (f : CFn1) (e a x r : CExpr) → e ≡ words.Fn1 f a → r ≡ words.Fn1 f x → ForWord a x → ForWord e r
fn1_made f e a x r h k p = word_from e (fn1 f a) r (fn1 f x) (h ∙ sym (word.rolls-Fn1 f a)) (k ∙ sym (word.rolls-Fn1 f x)) (fn1_stands f a x p)

pub fn2_made : (f : CFn2) (e a b x y r : CExpr) → e ≡ words.Fn2 f a b → r ≡ words.Fn2 f x y → ForWord a x → ForWord b y → ForWord e r
fn2_made f e a b x y r h k p q = word_from e (fn2 f a b) r (fn2 f x y) (h ∙ sym (word.rolls-Fn2 f a b)) (k ∙ sym (word.rolls-Fn2 f x y)) (fn2_stands f a b x y p q)

pub fn3_made : (f : CFn3) (e a b d x y z r : CExpr) → e ≡ words.Fn3 f a b d → r ≡ words.Fn3 f x y z → ForWord a x → ForWord b y → ForWord d z → ForWord e r
fn3_made f e a b d x y z r h k p q s =
    word_from e (fn3 f a b d) r (fn3 f x y z) (h ∙ sym (word.rolls-Fn3 f a b d)) (k ∙ sym (word.rolls-Fn3 f x y z)) (fn3_stands f a b d x y z p q s)

pub pick_made : (t g u : CCond) (e a b x y r : CExpr) → e ≡ words.Pick t a b → g ≡ t → r ≡ words.Pick u x y → ForCond g u → ForWord a x → ForWord b y → ForWord e r
pick_made t g u e a b x y r h i k p q s =
    word_from e (pick t a b) r (pick u x y) (h ∙ sym (word.rolls-Pick t a b)) (k ∙ sym (word.rolls-Pick u x y)) (pick_stands t u a b x y (test_from t g u i p) q s)

-- the Cond w may stand for a layer of parts that may stand for those of t
pub cmp_made : (op : CCmp) (t : CCond) (a b x y : CExpr) (w : CCond) → t ≡ conds.Cmp op a b → ForWord a x → ForWord b y → ForCond (cmp op x y) w → ForCond t w
cmp_made op t a b x y w h p q k = cond_from t (cmp op a b) w (h ∙ sym (test.rolls-Cmp op a b)) (cond_chain (cmp op a b) (cmp op x y) w (cmp_stands op a b x y p q) k)

pub cond_not_made : (t u g x w : CCond) → t ≡ conds.Not u → g ≡ u → ForCond g x → ForCond (cond_not x) w → ForCond t w
cond_not_made t u g x w h i p k = cond_from t (cond_not u) w (h ∙ sym (test.rolls-Not u)) (cond_chain (cond_not u) (cond_not x) w (cond_not_stands u x (test_from u g x i p)) k)

pub and_made : (t u m g h x y w : CCond) → t ≡ conds.And u m → g ≡ u → h ≡ m → ForCond g x → ForCond h y → ForCond (and x y) w → ForCond t w
and_made t u m g h x y w e i j p q k =
    cond_from t (and u m) w (e ∙ sym (test.rolls-And u m)) (cond_chain (and u m) (and x y) w (and_stands u m x y (test_from u g x i p) (test_from m h y j q)) k)

pub or_made : (t u m g h x y w : CCond) → t ≡ conds.Or u m → g ≡ u → h ≡ m → ForCond g x → ForCond h y → ForCond (or x y) w → ForCond t w
or_made t u m g h x y w e i j p q k =
    cond_from t (or u m) w (e ∙ sym (test.rolls-Or u m)) (cond_chain (or u m) (or x y) w (or_stands u m x y (test_from u g x i p) (test_from m h y j q)) k)

-- where no rule applies
pub cmp_plain : (op : CCmp) (a b : CExpr) → ForCond (cmp op a b) (conds.Cmp op a b)
cmp_plain op a b = subst (ForCond (cmp op a b)) (test.rolls-Cmp op a b) (cond_self (cmp op a b))
