-- Plain Words and Conds in the place of others, from ones in the place of their parts.
use Rattle.std.proofs.Common.{◌≡◌, ℕ, Bool, true, false, ◌&&◌, refl, sym, ap, ◌∙◌, subst}
use Rattle.std.specs.Prelude.{IsTrue}
use Rattle.dream_words.specs.declared.machine.Name.{Name}
use Rattle.c_syntax.specs.declared.syntax.CBin.{CBin}
use Rattle.c_syntax.specs.declared.syntax.CCmp.{CCmp}
use Rattle.c_syntax.specs.declared.syntax.CFn1.{CFn1}
use Rattle.c_syntax.specs.declared.syntax.CFn2.{CFn2}
use Rattle.c_syntax.specs.declared.syntax.CFn3.{CFn3}
use Rattle.c_syntax.specs.declared.syntax.CExpr as words
use Rattle.c_syntax.specs.declared.syntax.CExpr.{CExpr}
use Rattle.c_syntax.specs.declared.syntax.CExpr.TheVariants as word
use Rattle.c_syntax.specs.declared.syntax.CCond as conds
use Rattle.c_syntax.specs.declared.syntax.CCond.{CCond}
use Rattle.c_syntax.specs.declared.syntax.CCond.TheVariants as test
use Rattle.c_words.specs.Built.{num, name, word_not, bin, fn1, fn2, fn3, pick, cmp, cond_not, and, or}
use Rattle.word_rules.specs.Standing.{ForWord, ForCond}
use Rattle.word_rules.specs.Plain.{is_plain, is_plain_cond, has_plain_parts, cond_has_plain_parts}
use Rattle.word_rules.specs.Settled.{Settles, SettlesCond, IsPlainFor, IsPlainForCond}
use Rattle.word_rules.proofs.Congruence.{and_true, word_self, word_chain, cond_chain, not_stands, bin_stands, fn1_stands, fn2_stands, fn3_stands, pick_stands, cmp_stands, cond_not_stands, and_stands, or_stands}
use Rattle.word_rules.proofs.Looks.{num_plain, name_look, not_look, bin_look, fn1_look, fn2_look, fn3_look, pick_look, cmp_look, cond_not_look, and_look, or_look}

-- what settles a Word with plain parts
settled_for : (d e f g : CExpr) → d ≡ e → ForWord e f → IsTrue (has_plain_parts f) → Settles f g → IsPlainFor d g
settled_for d e f g i h p s = record { stands = subst (λ w. ForWord w g) (sym i) (word_chain e f g h s.stands); plain = s.plain p }

settled_cond : (t u w x : CCond) → t ≡ u → ForCond u w → IsTrue (cond_has_plain_parts w) → SettlesCond w x → IsPlainForCond t x
settled_cond t u w x i h p s = record { stands = subst (λ y. ForCond y x) (sym i) (cond_chain u w x h s.stands); plain = s.plain p }

-- what is in the place of a part
part : (a x y : CExpr) → x ≡ a → IsPlainFor x y → IsPlainFor a y
part a x y i h = subst (λ w. IsPlainFor w y) i h

part_cond : (t u w : CCond) → u ≡ t → IsPlainForCond u w → IsPlainForCond t w
part_cond t u w i h = subst (λ x. IsPlainForCond x w) i h

-- ---- Words

pub num_for : (n : ℕ) (e r : CExpr) → e ≡ words.Num n → r ≡ num n → IsPlainFor e r
num_for n e r i j = subst (IsPlainFor e) (sym j) (subst (λ w. IsPlainFor w (num n)) (word.rolls-Num n ∙ sym i) (record { stands = word_self (num n); plain = num_plain n }))

pub name_for : (n : Name) (e r : CExpr) → e ≡ words.Name n → r ≡ name n → IsPlainFor e r
name_for n e r i j = subst (IsPlainFor e) (sym j) (subst (λ w. IsPlainFor w (name n)) (word.rolls-Name n ∙ sym i) (record { stands = word_self (name n); plain = ap (λ k. k.whole) (name_look n) }))

pub not_for : (a x y e r : CExpr) → e ≡ words.Not a → x ≡ a → IsPlainFor x y → Settles (word_not y) r → IsPlainFor e r
not_for a x y e r i j h s =
    let p = part a x y j h in
    settled_for e (word_not a) (word_not y) r (i ∙ sym (word.rolls-Not a)) (not_stands a y p.stands) (ap (λ k. k.parts) (not_look y) ∙ p.plain) s

pub bin_for : (op : CBin) (a b w x y z e r : CExpr) → e ≡ words.Bin op a b → w ≡ a → x ≡ b → IsPlainFor w y → IsPlainFor x z → Settles (bin op y z) r → IsPlainFor e r
bin_for op a b w x y z e r i j k h g s =
    let p = part a w y j h in let q = part b x z k g in
    settled_for e (bin op a b) (bin op y z) r (i ∙ sym (word.rolls-Bin op a b)) (bin_stands op a b y z p.stands q.stands) (ap (λ m. m.parts) (bin_look op y z) ∙ and_true (is_plain y) (is_plain z) p.plain q.plain) s

pub fn1_for : (f : CFn1) (a x y e r : CExpr) → e ≡ words.Fn1 f a → x ≡ a → IsPlainFor x y → Settles (fn1 f y) r → IsPlainFor e r
fn1_for f a x y e r i j h s =
    let p = part a x y j h in
    settled_for e (fn1 f a) (fn1 f y) r (i ∙ sym (word.rolls-Fn1 f a)) (fn1_stands f a y p.stands) (ap (λ k. k.parts) (fn1_look f y) ∙ p.plain) s

pub fn2_for : (f : CFn2) (a b w x y z e r : CExpr) → e ≡ words.Fn2 f a b → w ≡ a → x ≡ b → IsPlainFor w y → IsPlainFor x z → Settles (fn2 f y z) r → IsPlainFor e r
fn2_for f a b w x y z e r i j k h g s =
    let p = part a w y j h in let q = part b x z k g in
    settled_for e (fn2 f a b) (fn2 f y z) r (i ∙ sym (word.rolls-Fn2 f a b)) (fn2_stands f a b y z p.stands q.stands) (ap (λ m. m.parts) (fn2_look f y z) ∙ and_true (is_plain y) (is_plain z) p.plain q.plain) s

pub fn3_for : (f : CFn3) (a b d u w x y z o e r : CExpr) → e ≡ words.Fn3 f a b d → u ≡ a → w ≡ b → x ≡ d → IsPlainFor u y → IsPlainFor w z → IsPlainFor x o → Settles (fn3 f y z o) r → IsPlainFor e r
fn3_for f a b d u w x y z o e r i j k l h g n s =
    let p = part a u y j h in let q = part b w z k g in let t = part d x o l n in
    settled_for e (fn3 f a b d) (fn3 f y z o) r (i ∙ sym (word.rolls-Fn3 f a b d)) (fn3_stands f a b d y z o p.stands q.stands t.stands)
    (ap (λ m. m.parts) (fn3_look f y z o) ∙ and_true (is_plain y) (is_plain z && is_plain o) p.plain (and_true (is_plain z) (is_plain o) q.plain t.plain)) s

pub pick_for : (t u v : CCond) (a b w x y z e r : CExpr) → e ≡ words.Pick t a b → u ≡ t → w ≡ a → x ≡ b → IsPlainForCond u v → IsPlainFor w y → IsPlainFor x z → Settles (pick v y z) r → IsPlainFor e r
pick_for t u v a b w x y z e r i l j k n h g s =
    let p = part a w y j h in let q = part b x z k g in let o = part_cond t u v l n in
    settled_for e (pick t a b) (pick v y z) r (i ∙ sym (word.rolls-Pick t a b)) (pick_stands t v a b y z o.stands p.stands q.stands)
    (ap (λ m. m.parts) (pick_look v y z) ∙ and_true (is_plain_cond v) (is_plain y && is_plain z) o.plain (and_true (is_plain y) (is_plain z) p.plain q.plain)) s

-- ---- Conds

and_self_true : (b : Bool) → IsTrue b → IsTrue (b && true)
and_self_true true h = refl
and_self_true false h = h

-- one that is built with plain parts
built_cond : (t u w r : CCond) → t ≡ u → ForCond u w → IsTrue (is_plain_cond w) → r ≡ w → IsPlainForCond t r
built_cond t u w r i h p j = subst (IsPlainForCond t) (sym j) (record { stands = subst (λ y. ForCond y w) (sym i) h; plain = p })

pub cmp_for : (op : CCmp) (a b y z : CExpr) (t r : CCond) → t ≡ conds.Cmp op a b → IsPlainFor a y → IsPlainFor b z → r ≡ cmp op y z → IsPlainForCond t r
cmp_for op a b y z t r i p q j =
    built_cond t (cmp op a b) (cmp op y z) r (i ∙ sym (test.rolls-Cmp op a b)) (cmp_stands op a b y z p.stands q.stands)
    (ap (λ m. m.whole) (cmp_look op y z) ∙ and_self_true (is_plain y && is_plain z) (and_true (is_plain y) (is_plain z) p.plain q.plain)) j

pub cond_not_for : (t u w x r : CCond) → x ≡ conds.Not t → u ≡ t → IsPlainForCond u w → SettlesCond (cond_not w) r → IsPlainForCond x r
cond_not_for t u w x r i j h s =
    let p = part_cond t u w j h in
    settled_cond x (cond_not t) (cond_not w) r (i ∙ sym (test.rolls-Not t)) (cond_not_stands t w p.stands) (ap (λ k. k.parts) (cond_not_look w) ∙ p.plain) s

pub and_for : (t u v w x y e r : CCond) → e ≡ conds.And t u → v ≡ t → w ≡ u → IsPlainForCond v x → IsPlainForCond w y → r ≡ and x y → IsPlainForCond e r
and_for t u v w x y e r i j k h g l =
    let p = part_cond t v x j h in let q = part_cond u w y k g in
    built_cond e (and t u) (and x y) r (i ∙ sym (test.rolls-And t u)) (and_stands t u x y p.stands q.stands)
    (ap (λ m. m.whole) (and_look x y) ∙ and_self_true (is_plain_cond x && is_plain_cond y) (and_true (is_plain_cond x) (is_plain_cond y) p.plain q.plain)) l

pub or_for : (t u v w x y e r : CCond) → e ≡ conds.Or t u → v ≡ t → w ≡ u → IsPlainForCond v x → IsPlainForCond w y → r ≡ or x y → IsPlainForCond e r
or_for t u v w x y e r i j k h g l =
    let p = part_cond t v x j h in let q = part_cond u w y k g in
    built_cond e (or t u) (or x y) r (i ∙ sym (test.rolls-Or t u)) (or_stands t u x y p.stands q.stands)
    (ap (λ m. m.whole) (or_look x y) ∙ and_self_true (is_plain_cond x && is_plain_cond y) (and_true (is_plain_cond x) (is_plain_cond y) p.plain q.plain)) l
