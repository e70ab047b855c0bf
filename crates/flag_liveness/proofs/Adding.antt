-- What is made live one after another.
use Rattle.std.proofs.Common.{◌≡◌, ℕ, Bool, true, false, cond, ◌||◌, refl, sym, subst, ◌∙◌}
use Rattle.dream_words.specs.declared.machine.Name.{Name}
use Rattle.c_syntax.specs.declared.syntax.CBin.{CBin}
use Rattle.c_syntax.specs.declared.syntax.CCmp.{CCmp}
use Rattle.c_syntax.specs.declared.syntax.CFn1.{CFn1}
use Rattle.c_syntax.specs.declared.syntax.CFn2.{CFn2}
use Rattle.c_syntax.specs.declared.syntax.CFn3.{CFn3}
use Rattle.c_syntax.specs.declared.syntax.CExpr as words
use Rattle.c_syntax.specs.declared.syntax.CExpr.{CExpr, CExpr-F, roll-CExpr}
use Rattle.c_syntax.specs.declared.syntax.CExpr.TheVariants as word
use Rattle.c_syntax.specs.declared.syntax.CCond as conds
use Rattle.c_syntax.specs.declared.syntax.CCond.TheVariants as test
use Rattle.c_syntax.specs.declared.syntax.CCond.{CCond, CCond-F, roll-CCond}
use Rattle.flow_passes.specs.Uses.{NameSet, same_name, word_reads, cond_reads, word_reads_at, cond_reads_at}
use Rattle.flow_passes.proofs.Reading.{word_reads_layer, cond_reads_layer}
use Rattle.flag_liveness.specs.declared.seen.Seen.{Seen}
use Rattle.flag_liveness.specs.Within.{names_within, Agree, Adds}

or_two : (r s a b d : Bool) → b ≡ (r || a) → d ≡ (s || b) → d ≡ ((r || s) || a)
or_two true true a b d p q = q
or_two true false a b d p q = q ∙ p
or_two false true a b d p q = q
or_two false false a b d p q = q ∙ p

or_right : (r s t a : Bool) → (((r || s) || t) || a) ≡ ((r || (s || t)) || a)
or_right true s t a = refl
or_right false s t a = refl

-- some names, and then others
pub adds_two : (r s : NameSet) (x y z : Seen) → Adds r x y → Adds s y z → Adds (λ n. r n || s n) x z
adds_two r s x y z p q = record { names = λ across n t. or_two (r n) (s n) _ _ _ (p.names across n t) (q.names across n t) }

pub adds_three : (r s t : NameSet) (x y z v : Seen) → Adds r x y → Adds s y z → Adds t z v → Adds (λ n. r n || (s n || t n)) x v
adds_three r s t x y z v p q k = record {
  names = λ across n h. (adds_two (λ n. r n || s n) t x z v (adds_two r s x y z p q) k).names across n h ∙ or_right (r n) (s n) (t n) (names_within across x n);
}

-- the names of a Word, and of a Cond, by its layer
word_layer : (y : CExpr-F CCond CExpr) (e : CExpr) (x z : Seen) → e ≡ roll-CExpr y → Adds (word_reads_at (words.map-CExpr CCond CExpr NameSet NameSet cond_reads word_reads y)) x z → Adds (word_reads e) x z
word_layer y e x z i p = subst (λ (k : CExpr). Adds (word_reads k) x z) (sym i) (subst (λ (r : NameSet). Adds r x z) (sym (word_reads_layer y)) p)

cond_layer : (y : CCond-F CCond CExpr) (t : CCond) (x z : Seen) → t ≡ roll-CCond y → Adds (cond_reads_at (conds.map-CCond CCond CExpr NameSet NameSet cond_reads word_reads y)) x z → Adds (cond_reads t) x z
cond_layer y t x z i p = subst (λ (k : CCond). Adds (cond_reads k) x z) (sym i) (subst (λ (r : NameSet). Adds r x z) (sym (cond_reads_layer y)) p)

-- what is made live by a Word, and by a Cond, is so by an equal one
word_is : (a b : CExpr) (x y : Seen) → b ≡ a → Adds (word_reads b) x y → Adds (word_reads a) x y
word_is a b x y i p = subst (λ (k : CExpr). Adds (word_reads k) x y) i p

cond_is : (a b : CCond) (x y : Seen) → b ≡ a → Adds (cond_reads b) x y → Adds (cond_reads a) x y
cond_is a b x y i p = subst (λ (k : CCond). Adds (cond_reads k) x y) i p

nothing_more : (x : Seen) → Adds (λ n. false) x x
nothing_more x = record { names = λ across n t. refl }

-- the names of Words by their parts
pub adds_num : (n : ℕ) (e : CExpr) (x : Seen) → e ≡ (words.Num n) → Adds (word_reads e) x x
adds_num n e x i = word_layer (CExpr-F.Num n) e x x (i ∙ sym (word.rolls-Num n)) (nothing_more x)

pub adds_name : (n : Name) (e : CExpr) (x y : Seen) → e ≡ (words.Name n) → Adds (same_name n) x y → Adds (word_reads e) x y
adds_name n e x y i p = word_layer (CExpr-F.Name n) e x y (i ∙ sym (word.rolls-Name n)) p

pub adds_not : (a b e : CExpr) (x y : Seen) → e ≡ (words.Not a) → b ≡ a → Adds (word_reads b) x y → Adds (word_reads e) x y
adds_not a b e x y i j p = word_layer (CExpr-F.«CExpr::Not» a) e x y (i ∙ sym (word.rolls-Not a)) (word_is a b x y j p)

pub adds_fn1 : (f : CFn1) (a b e : CExpr) (x y : Seen) → e ≡ (words.Fn1 f a) → b ≡ a → Adds (word_reads b) x y → Adds (word_reads e) x y
adds_fn1 f a b e x y i j p = word_layer (CExpr-F.Fn1 f a) e x y (i ∙ sym (word.rolls-Fn1 f a)) (word_is a b x y j p)

pub adds_bin : (f : CBin) (a b c d e : CExpr) (x y z : Seen) → e ≡ (words.Bin f a b) → c ≡ a → d ≡ b → Adds (word_reads c) x y → Adds (word_reads d) y z → Adds (word_reads e) x z
adds_bin f a b c d e x y z h i j p q = word_layer (CExpr-F.Bin f a b) e x z (h ∙ sym (word.rolls-Bin f a b)) (adds_two (word_reads a) (word_reads b) x y z (word_is a c x y i p) (word_is b d y z j q))

pub adds_fn2 : (f : CFn2) (a b c d e : CExpr) (x y z : Seen) → e ≡ (words.Fn2 f a b) → c ≡ a → d ≡ b → Adds (word_reads c) x y → Adds (word_reads d) y z → Adds (word_reads e) x z
adds_fn2 f a b c d e x y z h i j p q = word_layer (CExpr-F.Fn2 f a b) e x z (h ∙ sym (word.rolls-Fn2 f a b)) (adds_two (word_reads a) (word_reads b) x y z (word_is a c x y i p) (word_is b d y z j q))

pub adds_fn3 : (f : CFn3) (a b c a' b' c' e : CExpr) (x y z v : Seen) → e ≡ (words.Fn3 f a b c) → a' ≡ a → b' ≡ b → c' ≡ c → Adds (word_reads a') x y → Adds (word_reads b') y z → Adds (word_reads c') z v → Adds (word_reads e) x v
adds_fn3 f a b c a' b' c' e x y z v h i j l p q r =
    word_layer (CExpr-F.Fn3 f a b c) e x v (h ∙ sym (word.rolls-Fn3 f a b c))
    (adds_three (word_reads a) (word_reads b) (word_reads c) x y z v (word_is a a' x y i p) (word_is b b' y z j q) (word_is c c' z v l r))

pub adds_pick : (t u : CCond) (a b c d e : CExpr) (x y z v : Seen) → e ≡ (words.Pick t a b) → u ≡ t → c ≡ a → d ≡ b → Adds (cond_reads u) x y → Adds (word_reads c) y z → Adds (word_reads d) z v → Adds (word_reads e) x v
adds_pick t u a b c d e x y z v h i j l p q r =
    word_layer (CExpr-F.Pick t a b) e x v (h ∙ sym (word.rolls-Pick t a b))
    (adds_three (cond_reads t) (word_reads a) (word_reads b) x y z v (cond_is t u x y i p) (word_is a c y z j q) (word_is b d z v l r))

-- the names of Conds by their parts
pub adds_cmp : (f : CCmp) (a b : CExpr) (t : CCond) (x y z : Seen) → t ≡ (conds.Cmp f a b) → Adds (word_reads a) x y → Adds (word_reads b) y z → Adds (cond_reads t) x z
adds_cmp f a b t x y z h p q = cond_layer (CCond-F.Cmp f a b) t x z (h ∙ sym (test.rolls-Cmp f a b)) (adds_two (word_reads a) (word_reads b) x y z p q)

pub adds_cond_not : (a b t : CCond) (x y : Seen) → t ≡ (conds.Not a) → b ≡ a → Adds (cond_reads b) x y → Adds (cond_reads t) x y
adds_cond_not a b t x y i j p = cond_layer (CCond-F.«CCond::Not» a) t x y (i ∙ sym (test.rolls-Not a)) (cond_is a b x y j p)

pub adds_and : (a b c d t : CCond) (x y z : Seen) → t ≡ (conds.And a b) → c ≡ a → d ≡ b → Adds (cond_reads c) x y → Adds (cond_reads d) y z → Adds (cond_reads t) x z
adds_and a b c d t x y z h i j p q = cond_layer (CCond-F.And a b) t x z (h ∙ sym (test.rolls-And a b)) (adds_two (cond_reads a) (cond_reads b) x y z (cond_is a c x y i p) (cond_is b d y z j q))

pub adds_or : (a b c d t : CCond) (x y z : Seen) → t ≡ (conds.Or a b) → c ≡ a → d ≡ b → Adds (cond_reads c) x y → Adds (cond_reads d) y z → Adds (cond_reads t) x z
adds_or a b c d t x y z h i j p q = cond_layer (CCond-F.Or a b) t x z (h ∙ sym (test.rolls-Or a b)) (adds_two (cond_reads a) (cond_reads b) x y z (cond_is a c x y i p) (cond_is b d y z j q))

or_set : (r : Bool) (a b : Bool) → b ≡ cond r true a → b ≡ (r || a)
or_set true a b p = p
or_set false a b p = p

-- a name that is set to be live
pub adds_one : (n : Name) (x y : Seen) → ((across : ℕ → Bool) → Agree (names_within across y) (λ m. cond (same_name n m) true (names_within across x m))) → Adds (same_name n) x y
adds_one n x y h = record { names = λ across m t. or_set (same_name n m) _ _ (h across m t) }
