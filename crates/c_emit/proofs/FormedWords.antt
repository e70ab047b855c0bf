-- Words, Conds and terms with new names are allowed where they were, and as deep as they were.
use Rattle.std.proofs.Common.{◌≡◌, ℕ, ◌+◌, max, Bool, true, false, ◌&&◌, nat_le, List, ◌++◌, refl, sym, ap, ◌∙◌, subst}
use Rattle.dream_words.specs.declared.machine.Name.{Name}
use Rattle.dream_words.specs.declared.machine.Name.TheVariants as name
use Rattle.c_syntax.specs.declared.syntax.CCmp.{CCmp}
use Rattle.c_syntax.specs.declared.syntax.CCmp.TheVariants.{Eq, Ne}
use Rattle.c_syntax.specs.declared.syntax.CExpr as e
use Rattle.c_syntax.specs.declared.syntax.CExpr.{CExpr, CExpr-F, roll-CExpr}
use Rattle.c_syntax.specs.declared.syntax.CCond as c
use Rattle.c_syntax.specs.declared.syntax.CCond.{CCond, CCond-F, roll-CCond}
use Rattle.c_syntax.specs.declared.syntax.CFun.{CFun}
use Rattle.c_syntax.specs.Depth.{word_depth, cond_depth}
use Rattle.c_syntax.specs.Formed.{is_word, is_declared, cond_names, word_names, names_word, names_cond, word_allowed, cond_allowed}
use Rattle.c_syntax.proofs.Induct.{WordCases, every_word, every_cond}
use Rattle.c_syntax.proofs.Layers.{word_depth_layer, cond_depth_layer, names_word_layer, names_cond_layer}
use Rattle.c_words.specs.Built as built
use Rattle.cond_terms.specs.declared.term.Lit.{Lit}
use Rattle.cond_terms.specs.declared.term.Lit.TheVariants as lit
use Rattle.cond_terms.specs.declared.term.Term as term
use Rattle.cond_terms.specs.declared.term.Term.{Term, Term-F, roll-Term}
use Rattle.guarded.specs.declared.tree.SetTo.{SetTo}
use Rattle.guarded.specs.declared.tree.SetTo.TheVariants as to
use Rattle.guarded.specs.Uses.{Use, word_uses, cond_uses, word_uses_at, cond_uses_at, lit_uses, term_uses_at, term_uses, to_uses}
use Rattle.guarded.specs.Formed.{word_numbers, numbers_word, numbers_cond, lit_numbers, term_numbers, numbers_term, term_depth, picked_depth, word_fits, term_fits, to_fits}
use Rattle.guarded.proofs.Induct.{TermCases, every_term}
use Rattle.guarded.proofs.Layers.{term_uses_layer, numbers_term_layer, term_depth_layer}
use Rattle.c_emit.specs.Emitted.{renamed_word, renamed_cond, always_cond, never_cond, lit_cond, term_cond, word_to}
use Rattle.c_emit.proofs.Known.{Known, known_first, known_second}
use Rattle.c_emit.proofs.Renaming.{ap2, ap3, word_uses_layer, cond_uses_layer, renamed_word_layer, renamed_cond_layer, term_cond_layer}

-- ---- both of two

pub and_first : (a b : Bool) → (a && b) ≡ true → a ≡ true
and_first true b h = refl
and_first false b h = h

pub and_second : (a b : Bool) → (a && b) ≡ true → b ≡ true
and_second true b h = h
and_second false b h = absurd (never h)
  where
    never : false ≡ true → ⊥
    never e = cc

pub and_both : (a b : Bool) → a ≡ true → b ≡ true → (a && b) ≡ true
and_both a b p q = ap (λ x. x && b) p ∙ q

-- ---- depths

module _ (f : Name → Name) where
  abbrev KeepsDepth : CExpr → Type 0
  KeepsDepth a = word_depth (renamed_word f a) ≡ word_depth a

  abbrev KeepsCondDepth : CCond → Type 0
  KeepsCondDepth t = cond_depth (renamed_cond f t) ≡ cond_depth t

  deep_case : (y z : CExpr-F CCond CExpr) (m n : ℕ) → renamed_word f (roll-CExpr y) ≡ roll-CExpr z → word_depth (roll-CExpr z) ≡ m → word_depth (roll-CExpr y) ≡ n → m ≡ n → KeepsDepth (roll-CExpr y)
  deep_case y z m n r p q g = ap word_depth r ∙ p ∙ g ∙ sym q

  deep_cond : (y z : CCond-F CCond CExpr) (m n : ℕ) → renamed_cond f (roll-CCond y) ≡ roll-CCond z → cond_depth (roll-CCond z) ≡ m → cond_depth (roll-CCond y) ≡ n → m ≡ n → KeepsCondDepth (roll-CCond y)
  deep_cond y z m n r p q g = ap cond_depth r ∙ p ∙ g ∙ sym q

  deepest_of : (a a' b b' : ℕ) → a ≡ a' → b ≡ b' → max a b + 1 ≡ max a' b' + 1
  deepest_of a a' b b' p q = ap2 (λ (x y : ℕ). max x y + 1) a a' b b' p q

  deep_cases : WordCases KeepsDepth KeepsCondDepth
  deep_cases = record {
    num = λ n. let y : CExpr-F CCond CExpr = CExpr-F.Num n in deep_case y y _ _ (renamed_word_layer f y) (word_depth_layer y) (word_depth_layer y) refl;
    name = λ n. let y : CExpr-F CCond CExpr = CExpr-F.Name n in let z : CExpr-F CCond CExpr = CExpr-F.Name (f n) in deep_case y z _ _ (renamed_word_layer f y) (word_depth_layer z) (word_depth_layer y) refl;
    not_word = λ a ha. let y : CExpr-F CCond CExpr = CExpr-F.«CExpr::Not» a in let z : CExpr-F CCond CExpr = CExpr-F.«CExpr::Not» (renamed_word f a) in
        deep_case y z _ _ (renamed_word_layer f y) (word_depth_layer z) (word_depth_layer y) (ap (λ (x : ℕ). x + 1) ha);
    bin = λ op a b ha hb. let y : CExpr-F CCond CExpr = CExpr-F.Bin op a b in let z : CExpr-F CCond CExpr = CExpr-F.Bin op (renamed_word f a) (renamed_word f b) in
        deep_case y z _ _ (renamed_word_layer f y) (word_depth_layer z) (word_depth_layer y) (deepest_of _ _ _ _ ha hb);
    fn1 = λ g a ha. let y : CExpr-F CCond CExpr = CExpr-F.Fn1 g a in let z : CExpr-F CCond CExpr = CExpr-F.Fn1 g (renamed_word f a) in
        deep_case y z _ _ (renamed_word_layer f y) (word_depth_layer z) (word_depth_layer y) (ap (λ (x : ℕ). x + 1) ha);
    fn2 = λ g a b ha hb. let y : CExpr-F CCond CExpr = CExpr-F.Fn2 g a b in let z : CExpr-F CCond CExpr = CExpr-F.Fn2 g (renamed_word f a) (renamed_word f b) in
        deep_case y z _ _ (renamed_word_layer f y) (word_depth_layer z) (word_depth_layer y) (deepest_of _ _ _ _ ha hb);
    fn3 = λ g a b d ha hb hd. let y : CExpr-F CCond CExpr = CExpr-F.Fn3 g a b d in let z : CExpr-F CCond CExpr = CExpr-F.Fn3 g (renamed_word f a) (renamed_word f b) (renamed_word f d) in
        deep_case y z _ _ (renamed_word_layer f y) (word_depth_layer z) (word_depth_layer y) (ap3 (λ (p q r : ℕ). max p (max q r) + 1) _ _ _ _ _ _ ha hb hd);
    pick = λ t a b ht ha hb. let y : CExpr-F CCond CExpr = CExpr-F.Pick t a b in let z : CExpr-F CCond CExpr = CExpr-F.Pick (renamed_cond f t) (renamed_word f a) (renamed_word f b) in
        deep_case y z _ _ (renamed_word_layer f y) (word_depth_layer z) (word_depth_layer y) (ap3 (λ (p q r : ℕ). max p (max q r) + 1) _ _ _ _ _ _ ht ha hb);
    cmp = λ op a b ha hb. let y : CCond-F CCond CExpr = CCond-F.Cmp op a b in let z : CCond-F CCond CExpr = CCond-F.Cmp op (renamed_word f a) (renamed_word f b) in
        deep_cond y z _ _ (renamed_cond_layer f y) (cond_depth_layer z) (cond_depth_layer y) (deepest_of _ _ _ _ ha hb);
    not_cond = λ t ht. let y : CCond-F CCond CExpr = CCond-F.«CCond::Not» t in let z : CCond-F CCond CExpr = CCond-F.«CCond::Not» (renamed_cond f t) in
        deep_cond y z _ _ (renamed_cond_layer f y) (cond_depth_layer z) (cond_depth_layer y) (ap (λ (x : ℕ). x + 1) ht);
    both = λ t u ht hu. let y : CCond-F CCond CExpr = CCond-F.And t u in let z : CCond-F CCond CExpr = CCond-F.And (renamed_cond f t) (renamed_cond f u) in
        deep_cond y z _ _ (renamed_cond_layer f y) (cond_depth_layer z) (cond_depth_layer y) (deepest_of _ _ _ _ ht hu);
    either = λ t u ht hu. let y : CCond-F CCond CExpr = CCond-F.Or t u in let z : CCond-F CCond CExpr = CCond-F.Or (renamed_cond f t) (renamed_cond f u) in
        deep_cond y z _ _ (renamed_cond_layer f y) (cond_depth_layer z) (cond_depth_layer y) (deepest_of _ _ _ _ ht hu);
  }

  pub word_deep : (a : CExpr) → word_depth (renamed_word f a) ≡ word_depth a
  word_deep a = every_word deep_cases a

  pub cond_deep : (t : CCond) → cond_depth (renamed_cond f t) ≡ cond_depth t
  cond_deep t = every_cond deep_cases t

  -- ---- depths of terms

  num_deep : (n : ℕ) → word_depth (built.num n) ≡ 1
  num_deep n = word_depth_layer (CExpr-F.Num n)

  pub name_deep : (n : Name) → word_depth (built.name n) ≡ 1
  name_deep n = word_depth_layer (CExpr-F.Name n)

  -- a comparison of two Words of depth 1, and two of them
  compared_deep : (op : CCmp) (a b : CExpr) → word_depth a ≡ 1 → word_depth b ≡ 1 → cond_depth (built.cmp op a b) ≡ 2
  compared_deep op a b p q = cond_depth_layer (CCond-F.Cmp op a b) ∙ deepest_of (word_depth a) 1 (word_depth b) 1 p q

  zeros_deep : (op : CCmp) → cond_depth (built.or (built.cmp op (built.num 0) (built.num 0)) (built.cmp op (built.num 0) (built.num 0))) ≡ 3
  zeros_deep op =
      let z = compared_deep op (built.num 0) (built.num 0) (num_deep 0) (num_deep 0) in
      cond_depth_layer (CCond-F.Or (built.cmp op (built.num 0) (built.num 0)) (built.cmp op (built.num 0) (built.num 0))) ∙ deepest_of _ 2 _ 2 z z

  lit_deep : (l : Lit) → cond_depth (lit_cond f l) ≡ 2
  lit_deep (lit.Bool v) = compared_deep Ne (built.name (f (name.B v))) (built.num 0) (name_deep (f (name.B v))) (num_deep 0)
  lit_deep (lit.Eq v x) = compared_deep Eq (built.name (f (name.B v))) (built.num x) (name_deep (f (name.B v))) (num_deep x)

  abbrev KeepsTermDepth : Term → Type 0
  KeepsTermDepth t = cond_depth (term_cond f t) ≡ term_depth t

  deep_term : (y : Term-F Term) (z : CCond) (m n : ℕ) → term_cond f (roll-Term y) ≡ z → cond_depth z ≡ m → term_depth (roll-Term y) ≡ n → m ≡ n → KeepsTermDepth (roll-Term y)
  deep_term y z m n r p q g = ap cond_depth r ∙ p ∙ g ∙ sym q

  deep_terms : TermCases KeepsTermDepth
  deep_terms = record {
    always = deep_term Term-F.True always_cond 3 3 (term_cond_layer f Term-F.True) (zeros_deep Eq) (term_depth_layer Term-F.True) refl;
    never = deep_term Term-F.False never_cond 3 3 (term_cond_layer f Term-F.False) (zeros_deep Ne) (term_depth_layer Term-F.False) refl;
    lit = λ l. deep_term (Term-F.Lit l) (lit_cond f l) 2 2 (term_cond_layer f (Term-F.Lit l)) (lit_deep l) (term_depth_layer (Term-F.Lit l)) refl;
    not = λ t ht. deep_term (Term-F.Not t) (built.cond_not (term_cond f t)) _ _ (term_cond_layer f (Term-F.Not t)) (cond_depth_layer (CCond-F.«CCond::Not» (term_cond f t))) (term_depth_layer (Term-F.Not t)) (ap (λ (x : ℕ). x + 1) ht);
    both = λ s t hs ht. deep_term (Term-F.And s t) (built.and (term_cond f s) (term_cond f t)) _ _ (term_cond_layer f (Term-F.And s t)) (cond_depth_layer (CCond-F.And (term_cond f s) (term_cond f t))) (term_depth_layer (Term-F.And s t)) (deepest_of _ _ _ _ hs ht);
    either = λ s t hs ht. deep_term (Term-F.Or s t) (built.or (term_cond f s) (term_cond f t)) _ _ (term_cond_layer f (Term-F.Or s t)) (cond_depth_layer (CCond-F.Or (term_cond f s) (term_cond f t))) (term_depth_layer (Term-F.Or s t)) (deepest_of _ _ _ _ hs ht);
  }

  pub term_deep : (t : Term) → cond_depth (term_cond f t) ≡ term_depth t
  term_deep t = every_term deep_terms t

  pub picked_deep : (t : CCond) → word_depth (built.word_if t) ≡ picked_depth (cond_depth t)
  picked_deep t =
      word_depth_layer (CExpr-F.Pick t (built.num 1) (built.num 0))
      ∙ ap2 (λ (x y : ℕ). max (cond_depth t) (max x y) + 1) _ 1 _ 1 (num_deep 1) (num_deep 0)

  -- ---- names and numbers

  module _ (g : CFun) where
    -- a name whose new name is declared
    abbrev pub declares : Name → Bool
    declares n = is_declared g (f n)

    abbrev FitsWord : CExpr → Type 0
    FitsWord a = Known declares (word_uses a) → numbers_word a ≡ true → names_word g (renamed_word f a) ≡ true

    abbrev FitsCond : CCond → Type 0
    FitsCond t = Known declares (cond_uses t) → numbers_cond t ≡ true → names_cond g (renamed_cond f t) ≡ true

    fits_case : (y z : CExpr-F CCond CExpr) → renamed_word f (roll-CExpr y) ≡ roll-CExpr z
        → (Known declares (word_uses_at (e.map-CExpr CCond CExpr (List Use) (List Use) cond_uses word_uses y)) → word_numbers (e.map-CExpr CCond CExpr Bool Bool numbers_cond numbers_word y) ≡ true
        → word_names g (e.map-CExpr CCond CExpr Bool Bool (names_cond g) (names_word g) z) ≡ true)
        → FitsWord (roll-CExpr y)
    fits_case y z r k h n = ap (names_word g) r ∙ names_word_layer g z ∙ k (subst (Known declares) (word_uses_layer y) h) (sym (e.fold-roll-CExpr Bool Bool cond_names word_numbers y) ∙ n)

    fits_cond : (y z : CCond-F CCond CExpr) → renamed_cond f (roll-CCond y) ≡ roll-CCond z
        → (Known declares (cond_uses_at (c.map-CCond CCond CExpr (List Use) (List Use) cond_uses word_uses y)) → cond_names (c.map-CCond CCond CExpr Bool Bool numbers_cond numbers_word y) ≡ true
        → cond_names (c.map-CCond CCond CExpr Bool Bool (names_cond g) (names_word g) z) ≡ true)
        → FitsCond (roll-CCond y)
    fits_cond y z r k h n = ap (names_cond g) r ∙ names_cond_layer g z ∙ k (subst (Known declares) (cond_uses_layer y) h) (sym (c.fold-roll-CCond Bool Bool cond_names word_numbers y) ∙ n)

    -- two parts
    two_fit : (us vs : List Use) (a b a' b' : Bool) → (Known declares us → a ≡ true → a' ≡ true) → (Known declares vs → b ≡ true → b' ≡ true) → Known declares (us ++ vs) → (a && b) ≡ true → (a' && b') ≡ true
    two_fit us vs a b a' b' p q h n = and_both a' b' (p (known_first declares us vs h) (and_first a b n)) (q (known_second declares us vs h) (and_second a b n))

    fits_cases : WordCases FitsWord FitsCond
    fits_cases = record {
      num = λ n. let y : CExpr-F CCond CExpr = CExpr-F.Num n in fits_case y y (renamed_word_layer f y) (λ h k. k);
      name = λ n. let y : CExpr-F CCond CExpr = CExpr-F.Name n in fits_case y (CExpr-F.Name (f n)) (renamed_word_layer f y) (λ h k. h.0);
      not_word = λ a ha. let y : CExpr-F CCond CExpr = CExpr-F.«CExpr::Not» a in fits_case y (CExpr-F.«CExpr::Not» (renamed_word f a)) (renamed_word_layer f y) ha;
      bin = λ op a b ha hb. let y : CExpr-F CCond CExpr = CExpr-F.Bin op a b in fits_case y (CExpr-F.Bin op (renamed_word f a) (renamed_word f b)) (renamed_word_layer f y)
          (two_fit (word_uses a) (word_uses b) _ _ _ _ ha hb);
      fn1 = λ o a ha. let y : CExpr-F CCond CExpr = CExpr-F.Fn1 o a in fits_case y (CExpr-F.Fn1 o (renamed_word f a)) (renamed_word_layer f y) ha;
      fn2 = λ o a b ha hb. let y : CExpr-F CCond CExpr = CExpr-F.Fn2 o a b in fits_case y (CExpr-F.Fn2 o (renamed_word f a) (renamed_word f b)) (renamed_word_layer f y)
          (two_fit (word_uses a) (word_uses b) _ _ _ _ ha hb);
      fn3 = λ o a b d ha hb hd. let y : CExpr-F CCond CExpr = CExpr-F.Fn3 o a b d in fits_case y (CExpr-F.Fn3 o (renamed_word f a) (renamed_word f b) (renamed_word f d)) (renamed_word_layer f y)
          (two_fit (word_uses a) (word_uses b ++ word_uses d) _ _ _ _ ha (two_fit (word_uses b) (word_uses d) _ _ _ _ hb hd));
      pick = λ t a b ht ha hb. let y : CExpr-F CCond CExpr = CExpr-F.Pick t a b in fits_case y (CExpr-F.Pick (renamed_cond f t) (renamed_word f a) (renamed_word f b)) (renamed_word_layer f y)
          (two_fit (cond_uses t) (word_uses a ++ word_uses b) _ _ _ _ ht (two_fit (word_uses a) (word_uses b) _ _ _ _ ha hb));
      cmp = λ op a b ha hb. let y : CCond-F CCond CExpr = CCond-F.Cmp op a b in fits_cond y (CCond-F.Cmp op (renamed_word f a) (renamed_word f b)) (renamed_cond_layer f y)
          (two_fit (word_uses a) (word_uses b) _ _ _ _ ha hb);
      not_cond = λ t ht. let y : CCond-F CCond CExpr = CCond-F.«CCond::Not» t in fits_cond y (CCond-F.«CCond::Not» (renamed_cond f t)) (renamed_cond_layer f y) ht;
      both = λ t u ht hu. let y : CCond-F CCond CExpr = CCond-F.And t u in fits_cond y (CCond-F.And (renamed_cond f t) (renamed_cond f u)) (renamed_cond_layer f y)
          (two_fit (cond_uses t) (cond_uses u) _ _ _ _ ht hu);
      either = λ t u ht hu. let y : CCond-F CCond CExpr = CCond-F.Or t u in fits_cond y (CCond-F.Or (renamed_cond f t) (renamed_cond f u)) (renamed_cond_layer f y)
          (two_fit (cond_uses t) (cond_uses u) _ _ _ _ ht hu);
    }

    word_names_fit : (a : CExpr) → Known declares (word_uses a) → numbers_word a ≡ true → names_word g (renamed_word f a) ≡ true
    word_names_fit a = every_word fits_cases a

    cond_names_fit : (t : CCond) → Known declares (cond_uses t) → numbers_cond t ≡ true → names_cond g (renamed_cond f t) ≡ true
    cond_names_fit t = every_cond fits_cases t

    -- ---- terms

    num_fits : (n : ℕ) → is_word n ≡ true → names_word g (built.num n) ≡ true
    num_fits n h = names_word_layer g (CExpr-F.Num n) ∙ h

    name_fits : (n : Name) → is_declared g n ≡ true → names_word g (built.name n) ≡ true
    name_fits n h = names_word_layer g (CExpr-F.Name n) ∙ h

    compared_fits : (op : CCmp) (a b : CExpr) → names_word g a ≡ true → names_word g b ≡ true → names_cond g (built.cmp op a b) ≡ true
    compared_fits op a b p q = names_cond_layer g (CCond-F.Cmp op a b) ∙ and_both _ _ p q

    zeros_fit : (op : CCmp) → names_cond g (built.or (built.cmp op (built.num 0) (built.num 0)) (built.cmp op (built.num 0) (built.num 0))) ≡ true
    zeros_fit op =
        let z = compared_fits op (built.num 0) (built.num 0) (num_fits 0 refl) (num_fits 0 refl) in
        names_cond_layer g (CCond-F.Or (built.cmp op (built.num 0) (built.num 0)) (built.cmp op (built.num 0) (built.num 0))) ∙ and_both _ _ z z

    lit_fits : (l : Lit) → Known declares (lit_uses l) → lit_numbers l ≡ true → names_cond g (lit_cond f l) ≡ true
    lit_fits (lit.Bool v) h n = compared_fits Ne (built.name (f (name.B v))) (built.num 0) (name_fits (f (name.B v)) h.0) (num_fits 0 refl)
    lit_fits (lit.Eq v x) h n = compared_fits Eq (built.name (f (name.B v))) (built.num x) (name_fits (f (name.B v)) h.0) (num_fits x n)

    abbrev FitsTerm : Term → Type 0
    FitsTerm t = Known declares (term_uses t) → numbers_term t ≡ true → names_cond g (term_cond f t) ≡ true

    term_case : (y : Term-F Term) (z : CCond) → term_cond f (roll-Term y) ≡ z
        → (Known declares (term_uses_at (term.map-Term Term (List Use) term_uses y)) → term_numbers (term.map-Term Term Bool numbers_term y) ≡ true → names_cond g z ≡ true)
        → FitsTerm (roll-Term y)
    term_case y z r k h n = ap (names_cond g) r ∙ k (subst (Known declares) (term_uses_layer y) h) (sym (numbers_term_layer y) ∙ n)

    term_cases : TermCases FitsTerm
    term_cases = record {
      always = term_case Term-F.True always_cond (term_cond_layer f Term-F.True) (λ h n. zeros_fit Eq);
      never = term_case Term-F.False never_cond (term_cond_layer f Term-F.False) (λ h n. zeros_fit Ne);
      lit = λ l. term_case (Term-F.Lit l) (lit_cond f l) (term_cond_layer f (Term-F.Lit l)) (lit_fits l);
      not = λ t ht. term_case (Term-F.Not t) (built.cond_not (term_cond f t)) (term_cond_layer f (Term-F.Not t)) (λ h n. names_cond_layer g (CCond-F.«CCond::Not» (term_cond f t)) ∙ ht h n);
      both = λ s t hs ht. term_case (Term-F.And s t) (built.and (term_cond f s) (term_cond f t)) (term_cond_layer f (Term-F.And s t))
          (λ h n. names_cond_layer g (CCond-F.And (term_cond f s) (term_cond f t)) ∙ two_fit (term_uses s) (term_uses t) _ _ _ _ hs ht h n);
      either = λ s t hs ht. term_case (Term-F.Or s t) (built.or (term_cond f s) (term_cond f t)) (term_cond_layer f (Term-F.Or s t))
          (λ h n. names_cond_layer g (CCond-F.Or (term_cond f s) (term_cond f t)) ∙ two_fit (term_uses s) (term_uses t) _ _ _ _ hs ht h n);
    }

    term_names_fit : (t : Term) → Known declares (term_uses t) → numbers_term t ≡ true → names_cond g (term_cond f t) ≡ true
    term_names_fit t = every_term term_cases t

    -- ---- allowed

    pub word_ok : (a : CExpr) → Known declares (word_uses a) → word_fits a ≡ true → word_allowed g (renamed_word f a) ≡ true
    word_ok a h k = and_both _ _ (word_names_fit a h (and_first _ _ k)) (ap (λ (d : ℕ). nat_le d 256) (word_deep a) ∙ and_second _ _ k)

    pub term_ok : (t : Term) → Known declares (term_uses t) → term_fits t ≡ true → cond_allowed g (term_cond f t) ≡ true
    term_ok t h k = and_both _ _ (term_names_fit t h (and_first _ _ k)) (ap (λ (d : ℕ). nat_le d 256) (term_deep t) ∙ and_second _ _ k)

    -- a Cond as a Word
    picked_ok : (t : CCond) (d : ℕ) → names_cond g t ≡ true → cond_depth t ≡ d → nat_le (picked_depth d) 256 ≡ true → word_allowed g (built.word_if t) ≡ true
    picked_ok t d p q k = and_both _ _
        (names_word_layer g (CExpr-F.Pick t (built.num 1) (built.num 0)) ∙ and_both _ _ p (and_both _ _ (num_fits 1 refl) (num_fits 0 refl)))
        (ap (λ (x : ℕ). nat_le x 256) (picked_deep t ∙ ap picked_depth q) ∙ k)

    pub to_ok : (t : SetTo) → Known declares (to_uses t) → to_fits t ≡ true → word_allowed g (word_to f t) ≡ true
    to_ok (to.Expr a) h k = word_ok a h k
    to_ok (to.Cond t) h k = picked_ok (renamed_cond f t) _ (cond_names_fit t h (and_first _ _ k)) (cond_deep t) (and_second _ _ k)
    to_ok (to.Term t) h k = picked_ok (term_cond f t) _ (term_names_fit t h (and_first _ _ k)) (term_deep t) (and_second _ _ k)
