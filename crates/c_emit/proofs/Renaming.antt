-- Words, Conds and terms with new names have the values that they had, where names are read through the renaming.
use Rattle.std.proofs.Common.{◌≡◌, ℕ, Bool, true, false, not, ◌&&◌, ◌||◌, if◌then◌else◌, List, ◌++◌, Option, Some, refl, sym, ap, ◌∙◌, subst}
use Rattle.dream_words.specs.declared.machine.Name.{Name}
use Rattle.dream_words.specs.declared.machine.Name.TheVariants as name
use Rattle.run_parts.specs.World.{Names}
use Rattle.c_syntax.specs.declared.syntax.CCmp.TheVariants.{Eq, Ne}
use Rattle.c_syntax.specs.declared.syntax.CExpr as e
use Rattle.c_syntax.specs.declared.syntax.CExpr.{CExpr, CExpr-F, roll-CExpr}
use Rattle.c_syntax.specs.declared.syntax.CCond as c
use Rattle.c_syntax.specs.declared.syntax.CCond.{CCond, CCond-F, roll-CCond}
use Rattle.c_syntax.specs.Words.{bin_of, cmp_of, fn1_of, fn2_of, fn3_of}
use Rattle.c_syntax.specs.Value.{Word, Truth, each, both, all_three, picked, word_at, truth_at, word_of, truth_of}
use Rattle.c_syntax.proofs.Induct.{WordCases, every_word, every_cond}
use Rattle.c_syntax.proofs.Layers.{word_of_layer, truth_of_layer}
use Rattle.c_words.specs.Built as built
use Rattle.cond_terms.specs.declared.term.Lit.{Lit}
use Rattle.cond_terms.specs.declared.term.Lit.TheVariants as lit
use Rattle.cond_terms.specs.declared.term.Term as term
use Rattle.cond_terms.specs.declared.term.Term.{Term, Term-F, roll-Term}
use Rattle.cond_terms.specs.Terms.{lit_truth, truth_at as term_truth_at, term_truth}
use Rattle.cond_terms.proofs.Layers.{truth_layer}
use Rattle.guarded.specs.Uses.{Use, word_uses, cond_uses, word_uses_at, cond_uses_at, lit_uses, term_uses_at, term_uses}
use Rattle.guarded.proofs.Induct.{TermCases, every_term}
use Rattle.guarded.proofs.Layers.{term_uses_layer}
use Rattle.c_emit.specs.Emitted.{renamed_word_at, renamed_cond_at, renamed_word, renamed_cond, term_cond_at, term_cond, lit_cond, always_cond, never_cond}
use Rattle.c_emit.proofs.Known.{Known, known_first, known_second}

-- names as they are read through a renaming of the known ones; the others are 0
abbrev pub pulled : (Name → Bool) → (Name → Name) → Names → Names
pulled X f v n = if X n then v (f n) else 0

pub ap2 : {A B C : Type 0} (f : A → B → C) (a a' : A) (b b' : B) → a ≡ a' → b ≡ b' → f a b ≡ f a' b'
ap2 f a a' b b' p q = ap (λ x. f x b) p ∙ ap (f a') q

pub ap3 : {A B C D : Type 0} (f : A → B → C → D) (a a' : A) (b b' : B) (c c' : C) → a ≡ a' → b ≡ b' → c ≡ c' → f a b c ≡ f a' b' c'
ap3 f a a' b b' c c' p q r = ap (λ x. f x b c) p ∙ ap2 (f a') b b' c c' q r

-- ---- layers

pub word_uses_layer : (y : CExpr-F CCond CExpr) → word_uses (roll-CExpr y) ≡ word_uses_at (e.map-CExpr CCond CExpr (List Use) (List Use) cond_uses word_uses y)
word_uses_layer y = e.fold-roll-CExpr (List Use) (List Use) cond_uses_at word_uses_at y

pub cond_uses_layer : (y : CCond-F CCond CExpr) → cond_uses (roll-CCond y) ≡ cond_uses_at (c.map-CCond CCond CExpr (List Use) (List Use) cond_uses word_uses y)
cond_uses_layer y = c.fold-roll-CCond (List Use) (List Use) cond_uses_at word_uses_at y

module _ (f : Name → Name) where
  pub renamed_word_layer : (y : CExpr-F CCond CExpr) → renamed_word f (roll-CExpr y) ≡ renamed_word_at f (e.map-CExpr CCond CExpr CCond CExpr (renamed_cond f) (renamed_word f) y)
  renamed_word_layer y = e.fold-roll-CExpr CCond CExpr renamed_cond_at (renamed_word_at f) y

  pub renamed_cond_layer : (y : CCond-F CCond CExpr) → renamed_cond f (roll-CCond y) ≡ renamed_cond_at (c.map-CCond CCond CExpr CCond CExpr (renamed_cond f) (renamed_word f) y)
  renamed_cond_layer y = c.fold-roll-CCond CCond CExpr renamed_cond_at (renamed_word_at f) y

  pub term_cond_layer : (y : Term-F Term) → term_cond f (roll-Term y) ≡ term_cond_at f (term.map-Term Term CCond (term_cond f) y)
  term_cond_layer y = term.fold-roll-Term CCond (term_cond_at f) y

-- a value by its layer
abbrev value_at : CExpr-F CCond CExpr → Names → Option ℕ
value_at y v = word_at (e.map-CExpr CCond CExpr Truth Word truth_of word_of y) v

abbrev test_at : CCond-F CCond CExpr → Names → Option Bool
test_at y v = truth_at (c.map-CCond CCond CExpr Truth Word truth_of word_of y) v

pub word_step : (y : CExpr-F CCond CExpr) (v : Names) → word_of (roll-CExpr y) v ≡ value_at y v
word_step y v = ap (λ g. g v) (word_of_layer y)

pub truth_step : (y : CCond-F CCond CExpr) (v : Names) → truth_of (roll-CCond y) v ≡ test_at y v
truth_step y v = ap (λ g. g v) (truth_of_layer y)

-- ---- Words and Conds

module _ (X : Name → Bool) (f : Name → Name) where
  abbrev KeepsWord : CExpr → Type 0
  KeepsWord a = Known X (word_uses a) → (v : Names) → word_of (renamed_word f a) v ≡ word_of a (pulled X f v)

  abbrev KeepsCond : CCond → Type 0
  KeepsCond t = Known X (cond_uses t) → (v : Names) → truth_of (renamed_cond f t) v ≡ truth_of t (pulled X f v)

  -- a Word y whose renamed Word is z, where their layers give the same
  word_case : (y z : CExpr-F CCond CExpr) (v : Names) → renamed_word f (roll-CExpr y) ≡ roll-CExpr z → value_at z v ≡ value_at y (pulled X f v)
      → word_of (renamed_word f (roll-CExpr y)) v ≡ word_of (roll-CExpr y) (pulled X f v)
  word_case y z v r g = ap (λ q. word_of q v) r ∙ word_step z v ∙ g ∙ sym (word_step y (pulled X f v))

  cond_case : (y z : CCond-F CCond CExpr) (v : Names) → renamed_cond f (roll-CCond y) ≡ roll-CCond z → test_at z v ≡ test_at y (pulled X f v)
      → truth_of (renamed_cond f (roll-CCond y)) v ≡ truth_of (roll-CCond y) (pulled X f v)
  cond_case y z v r g = ap (λ q. truth_of q v) r ∙ truth_step z v ∙ g ∙ sym (truth_step y (pulled X f v))

  -- the uses of a layer are known
  word_known : (y : CExpr-F CCond CExpr) → Known X (word_uses (roll-CExpr y)) → Known X (word_uses_at (e.map-CExpr CCond CExpr (List Use) (List Use) cond_uses word_uses y))
  word_known y h = subst (Known X) (word_uses_layer y) h

  cond_known : (y : CCond-F CCond CExpr) → Known X (cond_uses (roll-CCond y)) → Known X (cond_uses_at (c.map-CCond CCond CExpr (List Use) (List Use) cond_uses word_uses y))
  cond_known y h = subst (Known X) (cond_uses_layer y) h

  read_known : (n : Name) (v : Names) → X n ≡ true → Some (v (f n)) ≡ Some (pulled X f v n)
  read_known n v h = ap (λ (b : Bool). Some (if b then v (f n) else 0)) (sym h)

  cases : WordCases KeepsWord KeepsCond
  cases = record {
    num = λ n h v. word_case (CExpr-F.Num n) (CExpr-F.Num n) v (renamed_word_layer f (CExpr-F.Num n)) refl;
    name = λ n h v. word_case (CExpr-F.Name n) (CExpr-F.Name (f n)) v (renamed_word_layer f (CExpr-F.Name n)) (read_known n v (word_known (CExpr-F.Name n) h).0);
    not_word = λ a ha h v.
        word_case (CExpr-F.«CExpr::Not» a) (CExpr-F.«CExpr::Not» (renamed_word f a)) v (renamed_word_layer f (CExpr-F.«CExpr::Not» a))
        (ap (each _) (ha (word_known (CExpr-F.«CExpr::Not» a) h) v));
    bin = λ op a b ha hb h v. let k = word_known (CExpr-F.Bin op a b) h in
        word_case (CExpr-F.Bin op a b) (CExpr-F.Bin op (renamed_word f a) (renamed_word f b)) v (renamed_word_layer f (CExpr-F.Bin op a b))
        (ap2 (both (bin_of op)) _ _ _ _ (ha (known_first X (word_uses a) (word_uses b) k) v) (hb (known_second X (word_uses a) (word_uses b) k) v));
    fn1 = λ g a ha h v.
        word_case (CExpr-F.Fn1 g a) (CExpr-F.Fn1 g (renamed_word f a)) v (renamed_word_layer f (CExpr-F.Fn1 g a))
        (ap (each (fn1_of g)) (ha (word_known (CExpr-F.Fn1 g a) h) v));
    fn2 = λ g a b ha hb h v. let k = word_known (CExpr-F.Fn2 g a b) h in
        word_case (CExpr-F.Fn2 g a b) (CExpr-F.Fn2 g (renamed_word f a) (renamed_word f b)) v (renamed_word_layer f (CExpr-F.Fn2 g a b))
        (ap2 (both (λ x y. Some (fn2_of g x y))) _ _ _ _ (ha (known_first X (word_uses a) (word_uses b) k) v) (hb (known_second X (word_uses a) (word_uses b) k) v));
    fn3 = λ g a b d ha hb hd h v. let k = word_known (CExpr-F.Fn3 g a b d) h in let k2 = known_second X (word_uses a) (word_uses b ++ word_uses d) k in
        word_case (CExpr-F.Fn3 g a b d) (CExpr-F.Fn3 g (renamed_word f a) (renamed_word f b) (renamed_word f d)) v (renamed_word_layer f (CExpr-F.Fn3 g a b d))
        (ap3 (all_three (fn3_of g)) _ _ _ _ _ _ (ha (known_first X (word_uses a) (word_uses b ++ word_uses d) k) v)
        (hb (known_first X (word_uses b) (word_uses d) k2) v) (hd (known_second X (word_uses b) (word_uses d) k2) v));
    pick = λ t a b ht ha hb h v. let k = word_known (CExpr-F.Pick t a b) h in let k2 = known_second X (cond_uses t) (word_uses a ++ word_uses b) k in
        word_case (CExpr-F.Pick t a b) (CExpr-F.Pick (renamed_cond f t) (renamed_word f a) (renamed_word f b)) v (renamed_word_layer f (CExpr-F.Pick t a b))
        (ap3 picked _ _ _ _ _ _ (ht (known_first X (cond_uses t) (word_uses a ++ word_uses b) k) v)
        (ha (known_first X (word_uses a) (word_uses b) k2) v) (hb (known_second X (word_uses a) (word_uses b) k2) v));
    cmp = λ op a b ha hb h v. let k = cond_known (CCond-F.Cmp op a b) h in
        cond_case (CCond-F.Cmp op a b) (CCond-F.Cmp op (renamed_word f a) (renamed_word f b)) v (renamed_cond_layer f (CCond-F.Cmp op a b))
        (ap2 (both (λ x y. Some (cmp_of op x y))) _ _ _ _ (ha (known_first X (word_uses a) (word_uses b) k) v) (hb (known_second X (word_uses a) (word_uses b) k) v));
    not_cond = λ t ht h v.
        cond_case (CCond-F.«CCond::Not» t) (CCond-F.«CCond::Not» (renamed_cond f t)) v (renamed_cond_layer f (CCond-F.«CCond::Not» t))
        (ap (each not) (ht (cond_known (CCond-F.«CCond::Not» t) h) v));
    both = λ t u ht hu h v. let k = cond_known (CCond-F.And t u) h in
        cond_case (CCond-F.And t u) (CCond-F.And (renamed_cond f t) (renamed_cond f u)) v (renamed_cond_layer f (CCond-F.And t u))
        (ap2 (λ x y. picked x y (Some false)) _ _ _ _ (ht (known_first X (cond_uses t) (cond_uses u) k) v) (hu (known_second X (cond_uses t) (cond_uses u) k) v));
    either = λ t u ht hu h v. let k = cond_known (CCond-F.Or t u) h in
        cond_case (CCond-F.Or t u) (CCond-F.Or (renamed_cond f t) (renamed_cond f u)) v (renamed_cond_layer f (CCond-F.Or t u))
        (ap2 (λ x y. picked x (Some true) y) _ _ _ _ (ht (known_first X (cond_uses t) (cond_uses u) k) v) (hu (known_second X (cond_uses t) (cond_uses u) k) v));
  }

  pub word_kept : (a : CExpr) → Known X (word_uses a) → (v : Names) → word_of (renamed_word f a) v ≡ word_of a (pulled X f v)
  word_kept a = every_word cases a

  pub cond_kept : (t : CCond) → Known X (cond_uses t) → (v : Names) → truth_of (renamed_cond f t) v ≡ truth_of t (pulled X f v)
  cond_kept t = every_cond cases t

  -- ---- terms

  -- the truth of a term where variables are the locals for tests
  abbrev pub term_at : Term → Names → Bool
  term_at t v = term_truth t (λ x. v (name.B x))

  abbrev KeepsTerm : Term → Type 0
  KeepsTerm t = Known X (term_uses t) → (v : Names) → truth_of (term_cond f t) v ≡ Some (term_at t (pulled X f v))

  pub num_value : (n : ℕ) (v : Names) → word_of (built.num n) v ≡ Some n
  num_value n v = word_step (CExpr-F.Num n) v

  name_value : (n : Name) (v : Names) → word_of (built.name n) v ≡ Some (v n)
  name_value n v = word_step (CExpr-F.Name n) v

  -- a comparison of a name, or of 0, with a number
  always_true : (v : Names) → truth_of always_cond v ≡ Some true
  always_true v =
      truth_step (CCond-F.Or (built.cmp Eq (built.num 0) (built.num 0)) (built.cmp Eq (built.num 0) (built.num 0))) v
      ∙ ap (λ o. picked o (Some true) (truth_of (built.cmp Eq (built.num 0) (built.num 0)) v))
      (truth_step (CCond-F.Cmp Eq (built.num 0) (built.num 0)) v ∙ ap (λ o. both (λ x y. Some (cmp_of Eq x y)) o o) (num_value 0 v))

  zero_differs : (v : Names) → truth_of (built.cmp Ne (built.num 0) (built.num 0)) v ≡ Some false
  zero_differs v = truth_step (CCond-F.Cmp Ne (built.num 0) (built.num 0)) v ∙ ap (λ o. both (λ x y. Some (cmp_of Ne x y)) o o) (num_value 0 v)

  never_true : (v : Names) → truth_of never_cond v ≡ Some false
  never_true v =
      truth_step (CCond-F.Or (built.cmp Ne (built.num 0) (built.num 0)) (built.cmp Ne (built.num 0) (built.num 0))) v
      ∙ ap (λ o. picked o (Some true) (truth_of (built.cmp Ne (built.num 0) (built.num 0)) v)) (zero_differs v)
      ∙ zero_differs v

  -- the word of a known variable
  variable : (x : ℕ) (v : Names) → X (name.B x) ≡ true → word_of (built.name (f (name.B x))) v ≡ Some (pulled X f v (name.B x))
  variable x v h = name_value (f (name.B x)) v ∙ read_known (name.B x) v h

  lit_kept : (l : Lit) → Known X (lit_uses l) → (v : Names) → truth_of (lit_cond f l) v ≡ Some (lit_truth l (λ x. pulled X f v (name.B x)))
  lit_kept (lit.Bool x) h v =
      truth_step (CCond-F.Cmp Ne (built.name (f (name.B x))) (built.num 0)) v
      ∙ ap2 (both (λ p q. Some (cmp_of Ne p q))) _ _ _ _ (variable x v h.0) (num_value 0 v)
  lit_kept (lit.Eq x n) h v =
      truth_step (CCond-F.Cmp Eq (built.name (f (name.B x))) (built.num n)) v
      ∙ ap2 (both (λ p q. Some (cmp_of Eq p q))) _ _ _ _ (variable x v h.0) (num_value n v)

  both_true : (a b : Bool) → picked (Some a) (Some b) (Some false) ≡ Some (a && b)
  both_true true b = refl
  both_true false b = refl

  either_true : (a b : Bool) → picked (Some a) (Some true) (Some b) ≡ Some (a || b)
  either_true true b = refl
  either_true false b = refl

  -- the truth of a term by its layer
  term_case : (y : Term-F Term) (z : CCond) (b : Bool) (v : Names) → term_cond f (roll-Term y) ≡ z → truth_of z v ≡ Some b
      → b ≡ term_truth_at (term.map-Term Term ((ℕ → ℕ) → Bool) term_truth y) (λ x. pulled X f v (name.B x))
      → truth_of (term_cond f (roll-Term y)) v ≡ Some (term_at (roll-Term y) (pulled X f v))
  term_case y z b v r g h = ap (λ q. truth_of q v) r ∙ g ∙ ap (λ q. Some q) (h ∙ sym (truth_layer y (λ x. pulled X f v (name.B x))))

  term_known : (y : Term-F Term) → Known X (term_uses (roll-Term y)) → Known X (term_uses_at (term.map-Term Term (List Use) term_uses y))
  term_known y h = subst (Known X) (term_uses_layer y) h

  term_cases : TermCases KeepsTerm
  term_cases = record {
    always = λ h v. term_case Term-F.True always_cond true v (term_cond_layer f Term-F.True) (always_true v) refl;
    never = λ h v. term_case Term-F.False never_cond false v (term_cond_layer f Term-F.False) (never_true v) refl;
    lit = λ l h v. term_case (Term-F.Lit l) (lit_cond f l) _ v (term_cond_layer f (Term-F.Lit l)) (lit_kept l (term_known (Term-F.Lit l) h) v) refl;
    not = λ t ht h v.
        term_case (Term-F.Not t) (built.cond_not (term_cond f t)) _ v (term_cond_layer f (Term-F.Not t))
        (truth_step (CCond-F.«CCond::Not» (term_cond f t)) v ∙ ap (each not) (ht (term_known (Term-F.Not t) h) v)) refl;
    both = λ s t hs ht h v. let k = term_known (Term-F.And s t) h in
        term_case (Term-F.And s t) (built.and (term_cond f s) (term_cond f t)) _ v (term_cond_layer f (Term-F.And s t))
        (truth_step (CCond-F.And (term_cond f s) (term_cond f t)) v
        ∙ ap2 (λ x y. picked x y (Some false)) _ _ _ _ (hs (known_first X (term_uses s) (term_uses t) k) v) (ht (known_second X (term_uses s) (term_uses t) k) v)
        ∙ both_true (term_at s (pulled X f v)) (term_at t (pulled X f v))) refl;
    either = λ s t hs ht h v. let k = term_known (Term-F.Or s t) h in
        term_case (Term-F.Or s t) (built.or (term_cond f s) (term_cond f t)) _ v (term_cond_layer f (Term-F.Or s t))
        (truth_step (CCond-F.Or (term_cond f s) (term_cond f t)) v
        ∙ ap2 (λ x y. picked x (Some true) y) _ _ _ _ (hs (known_first X (term_uses s) (term_uses t) k) v) (ht (known_second X (term_uses s) (term_uses t) k) v)
        ∙ either_true (term_at s (pulled X f v)) (term_at t (pulled X f v))) refl;
  }

  pub term_kept : (t : Term) → Known X (term_uses t) → (v : Names) → truth_of (term_cond f t) v ≡ Some (term_at t (pulled X f v))
  term_kept t = every_term term_cases t
