-- Words and Conds with new names are allowed where they were, and as deep as they were.
use Rattle.std.proofs.Common.{◌≡◌, ℕ, ◌+◌, max, Bool, true, ◌&&◌, nat_le, refl, sym, ap, ◌∙◌, subst}
use Rattle.dream_words.specs.declared.machine.Name.{Name}
use Rattle.c_syntax.specs.declared.syntax.CExpr as e
use Rattle.c_syntax.specs.declared.syntax.CExpr.{CExpr, CExpr-F, roll-CExpr}
use Rattle.c_syntax.specs.declared.syntax.CCond as c
use Rattle.c_syntax.specs.declared.syntax.CCond.{CCond, CCond-F, roll-CCond}
use Rattle.c_syntax.specs.declared.syntax.CFun.{CFun}
use Rattle.c_syntax.specs.Depth.{word_depth_at, cond_depth_at, word_depth, cond_depth}
use Rattle.c_syntax.specs.Formed.{is_declared, cond_names, word_names, names_word, names_cond, word_allowed, cond_allowed}
use Rattle.c_syntax.proofs.Induct.{WordCases, every_word, every_cond}
use Rattle.c_syntax.proofs.Layers.{word_depth_layer, cond_depth_layer, names_word_layer, names_cond_layer}
use Rattle.c_locals.specs.Marks.{Marks}
use Rattle.c_locals.specs.Settled.{new_name, is_kept, renamed_word, renamed_cond}
use Rattle.c_locals.proofs.Bools.{and_first, and_second, and_both, ap2, ap3}
use Rattle.c_locals.proofs.ReadNames.{NameSet, union, word_reads_at, cond_reads_at, word_reads, cond_reads, Knows, word_reads_layer, cond_reads_layer}
use Rattle.c_locals.proofs.Renamed.{renamed_word_layer, renamed_cond_layer, first_known, second_known, name_known}

-- a name that is declared and kept is declared under its new name
abbrev pub Declares : Marks → CFun → CFun → Type 0
Declares m f g = (n : Name) → is_kept m n ≡ true → is_declared f n ≡ true → is_declared g (new_name m n) ≡ true

module _ (m : Marks) (f g : CFun) (dec : Declares m f g) where
  abbrev new : CExpr → CExpr
  new = renamed_word (new_name m)

  abbrev new_cond : CCond → CCond
  new_cond = renamed_cond (new_name m)

  -- a Word fits, and is as deep
  abbrev FitsWord : CExpr → Type 0
  FitsWord a = (word_depth (new a) ≡ word_depth a) × (Knows m (word_reads a) → names_word f a ≡ true → names_word g (new a) ≡ true)

  abbrev FitsCond : CCond → Type 0
  FitsCond t = (cond_depth (new_cond t) ≡ cond_depth t) × (Knows m (cond_reads t) → names_cond f t ≡ true → names_cond g (new_cond t) ≡ true)

  abbrev deep : CExpr-F CCond CExpr → ℕ
  deep y = word_depth_at (e.map-CExpr CCond CExpr ℕ ℕ cond_depth word_depth y)

  abbrev deep_cond : CCond-F CCond CExpr → ℕ
  deep_cond y = cond_depth_at (c.map-CCond CCond CExpr ℕ ℕ cond_depth word_depth y)

  abbrev named : CFun → CExpr-F CCond CExpr → Bool
  named h y = word_names h (e.map-CExpr CCond CExpr Bool Bool (names_cond h) (names_word h) y)

  abbrev named_cond : CFun → CCond-F CCond CExpr → Bool
  named_cond h y = cond_names (c.map-CCond CCond CExpr Bool Bool (names_cond h) (names_word h) y)

  by_word : (y z : CExpr-F CCond CExpr) → new (roll-CExpr y) ≡ roll-CExpr z → deep z ≡ deep y
      → (Knows m (word_reads_at (e.map-CExpr CCond CExpr NameSet NameSet cond_reads word_reads y)) → named f y ≡ true → named g z ≡ true) → FitsWord (roll-CExpr y)
  by_word y z r d k = (
    ap word_depth r ∙ word_depth_layer z ∙ d ∙ sym (word_depth_layer y),
    λ h n. ap (names_word g) r ∙ names_word_layer g z ∙ k (subst (Knows m) (word_reads_layer y) h) (sym (names_word_layer f y) ∙ n),
  )

  by_cond : (y z : CCond-F CCond CExpr) → new_cond (roll-CCond y) ≡ roll-CCond z → deep_cond z ≡ deep_cond y
      → (Knows m (cond_reads_at (c.map-CCond CCond CExpr NameSet NameSet cond_reads word_reads y)) → named_cond f y ≡ true → named_cond g z ≡ true) → FitsCond (roll-CCond y)
  by_cond y z r d k = (
    ap cond_depth r ∙ cond_depth_layer z ∙ d ∙ sym (cond_depth_layer y),
    λ h n. ap (names_cond g) r ∙ names_cond_layer g z ∙ k (subst (Knows m) (cond_reads_layer y) h) (sym (names_cond_layer f y) ∙ n),
  )

  -- two parts
  two_fit : (r q : NameSet) (a b a' b' : Bool) → (Knows m r → a ≡ true → a' ≡ true) → (Knows m q → b ≡ true → b' ≡ true) → Knows m (union r q) → (a && b) ≡ true → (a' && b') ≡ true
  two_fit r q a b a' b' p s h n = and_both a' b' (p (first_known m r q h) (and_first a b n)) (s (second_known m r q h) (and_second a b n))

  deeper : (a a' b b' : ℕ) → a ≡ a' → b ≡ b' → max a b + 1 ≡ max a' b' + 1
  deeper a a' b b' p q = ap2 (λ (x y : ℕ). max x y + 1) a a' b b' p q

  deeper3 : (a a' b b' d d' : ℕ) → a ≡ a' → b ≡ b' → d ≡ d' → max a (max b d) + 1 ≡ max a' (max b' d') + 1
  deeper3 a a' b b' d d' p q r = ap3 (λ (x y z : ℕ). max x (max y z) + 1) a a' b b' d d' p q r

  cases : WordCases FitsWord FitsCond
  cases = record {
    num = λ n. by_word (CExpr-F.Num n) (CExpr-F.Num n) (renamed_word_layer (new_name m) (CExpr-F.Num n)) refl (λ h k. k);
    name = λ n. by_word (CExpr-F.Name n) (CExpr-F.Name (new_name m n)) (renamed_word_layer (new_name m) (CExpr-F.Name n)) refl (λ h k. dec n (name_known m n h) k);
    not_word = λ a ha. by_word (CExpr-F.«CExpr::Not» a) (CExpr-F.«CExpr::Not» (new a)) (renamed_word_layer (new_name m) (CExpr-F.«CExpr::Not» a)) (ap (λ (x : ℕ). x + 1) ha.0) ha.1;
    bin = λ op a b ha hb. by_word (CExpr-F.Bin op a b) (CExpr-F.Bin op (new a) (new b)) (renamed_word_layer (new_name m) (CExpr-F.Bin op a b)) (deeper _ _ _ _ ha.0 hb.0)
        (two_fit (word_reads a) (word_reads b) _ _ _ _ ha.1 hb.1);
    fn1 = λ o a ha. by_word (CExpr-F.Fn1 o a) (CExpr-F.Fn1 o (new a)) (renamed_word_layer (new_name m) (CExpr-F.Fn1 o a)) (ap (λ (x : ℕ). x + 1) ha.0) ha.1;
    fn2 = λ o a b ha hb. by_word (CExpr-F.Fn2 o a b) (CExpr-F.Fn2 o (new a) (new b)) (renamed_word_layer (new_name m) (CExpr-F.Fn2 o a b)) (deeper _ _ _ _ ha.0 hb.0)
        (two_fit (word_reads a) (word_reads b) _ _ _ _ ha.1 hb.1);
    fn3 = λ o a b d ha hb hd. by_word (CExpr-F.Fn3 o a b d) (CExpr-F.Fn3 o (new a) (new b) (new d)) (renamed_word_layer (new_name m) (CExpr-F.Fn3 o a b d)) (deeper3 _ _ _ _ _ _ ha.0 hb.0 hd.0)
        (two_fit (word_reads a) (union (word_reads b) (word_reads d)) _ _ _ _ ha.1 (two_fit (word_reads b) (word_reads d) _ _ _ _ hb.1 hd.1));
    pick = λ t a b ht ha hb. by_word (CExpr-F.Pick t a b) (CExpr-F.Pick (new_cond t) (new a) (new b)) (renamed_word_layer (new_name m) (CExpr-F.Pick t a b)) (deeper3 _ _ _ _ _ _ ht.0 ha.0 hb.0)
        (two_fit (cond_reads t) (union (word_reads a) (word_reads b)) _ _ _ _ ht.1 (two_fit (word_reads a) (word_reads b) _ _ _ _ ha.1 hb.1));
    cmp = λ op a b ha hb. by_cond (CCond-F.Cmp op a b) (CCond-F.Cmp op (new a) (new b)) (renamed_cond_layer (new_name m) (CCond-F.Cmp op a b)) (deeper _ _ _ _ ha.0 hb.0)
        (two_fit (word_reads a) (word_reads b) _ _ _ _ ha.1 hb.1);
    not_cond = λ t ht. by_cond (CCond-F.«CCond::Not» t) (CCond-F.«CCond::Not» (new_cond t)) (renamed_cond_layer (new_name m) (CCond-F.«CCond::Not» t)) (ap (λ (x : ℕ). x + 1) ht.0) ht.1;
    both = λ t u ht hu. by_cond (CCond-F.And t u) (CCond-F.And (new_cond t) (new_cond u)) (renamed_cond_layer (new_name m) (CCond-F.And t u)) (deeper _ _ _ _ ht.0 hu.0)
        (two_fit (cond_reads t) (cond_reads u) _ _ _ _ ht.1 hu.1);
    either = λ t u ht hu. by_cond (CCond-F.Or t u) (CCond-F.Or (new_cond t) (new_cond u)) (renamed_cond_layer (new_name m) (CCond-F.Or t u)) (deeper _ _ _ _ ht.0 hu.0)
        (two_fit (cond_reads t) (cond_reads u) _ _ _ _ ht.1 hu.1);
  }

  pub word_ok : (a : CExpr) → Knows m (word_reads a) → word_allowed f a ≡ true → word_allowed g (renamed_word (new_name m) a) ≡ true
  word_ok a h k =
      let p = every_word cases a in
      and_both _ _ (p.1 h (and_first _ _ k)) (ap (λ (d : ℕ). nat_le d 256) p.0 ∙ and_second _ _ k)

  pub cond_ok : (t : CCond) → Knows m (cond_reads t) → cond_allowed f t ≡ true → cond_allowed g (renamed_cond (new_name m) t) ≡ true
  cond_ok t h k =
      let p = every_cond cases t in
      and_both _ _ (p.1 h (and_first _ _ k)) (ap (λ (d : ℕ). nat_le d 256) p.0 ∙ and_second _ _ k)
