-- Two terms that are written alike are equal, and a clash of two written terms is a clash of the terms.
use Rattle.std.proofs.Common.{◌≡◌, inl, inr, ℕ, Bool, true, List, ◌++◌, refl, sym, ap, ◌∙◌, subst}
use Rattle.dream_words.specs.declared.machine.Name.{Name}
use Rattle.dream_words.specs.declared.machine.Name.TheVariants as name
use Rattle.c_syntax.specs.declared.syntax.CCmp.{CCmp}
use Rattle.c_syntax.specs.declared.syntax.CCmp.TheVariants.{Eq, Ne}
use Rattle.c_syntax.specs.declared.syntax.CExpr.{CExpr, CExpr-F, roll-CExpr, out-CExpr, out-roll-CExpr}
use Rattle.c_syntax.specs.declared.syntax.CCond.{CCond, CCond-F, roll-CCond, out-CCond, out-roll-CCond}
use Rattle.c_words.specs.Built as built
use Rattle.cond_terms.specs.declared.term.Lit.{Lit}
use Rattle.cond_terms.specs.declared.term.Lit.TheVariants as lit
use Rattle.cond_terms.specs.declared.term.Term.{Term, Term-F, roll-Term}
use Rattle.guarded.specs.Uses.{Use, lit_uses, term_uses}
use Rattle.guarded.specs.Loose as loose
use Rattle.guarded.specs.Loose.{IsConjunct, compared, not_compared, IsValueTest, CondsClash, IsPart, lit_term, not_term, TermsClash}
use Rattle.guarded.proofs.Induct.{every_term}
use Rattle.guarded.proofs.Layers.{term_uses_layer}
use Rattle.c_emit.specs.Emitted.{lit_cond, always_cond, never_cond, term_cond}
use Rattle.c_emit.proofs.Known.{Known, known_first, known_second}
use Rattle.c_emit.proofs.Renaming.{ap2, term_cond_layer}

-- ---- equal values have equal layers

peel_cond : (y z : CCond-F CCond CExpr) → roll-CCond y ≡ roll-CCond z → y ≡ z
peel_cond y z e = sym (out-roll-CCond y) ∙ ap out-CCond e ∙ out-roll-CCond z

peel_word : (y z : CExpr-F CCond CExpr) → roll-CExpr y ≡ roll-CExpr z → y ≡ z
peel_word y z e = sym (out-roll-CExpr y) ∙ ap out-CExpr e ∙ out-roll-CExpr z

-- the parts of equal comparisons, of equal `&&`s and of equal `!`s
same_op : (o p : CCmp) (a b x y : CExpr) → built.cmp o a b ≡ built.cmp p x y → o ≡ p
same_op o p a b x y e = let q : CCond-F.Cmp o a b ≡ CCond-F.Cmp p x y = peel_cond _ _ e in cc

same_left : (o p : CCmp) (a b x y : CExpr) → built.cmp o a b ≡ built.cmp p x y → a ≡ x
same_left o p a b x y e = let q : CCond-F.Cmp o a b ≡ CCond-F.Cmp p x y = peel_cond _ _ e in cc

same_right : (o p : CCmp) (a b x y : CExpr) → built.cmp o a b ≡ built.cmp p x y → b ≡ y
same_right o p a b x y e = let q : CCond-F.Cmp o a b ≡ CCond-F.Cmp p x y = peel_cond _ _ e in cc

same_first : (s t u v : CCond) → built.and s t ≡ built.and u v → s ≡ u
same_first s t u v e = let q : CCond-F.And s t ≡ CCond-F.And u v = peel_cond _ _ e in cc

same_second : (s t u v : CCond) → built.and s t ≡ built.and u v → t ≡ v
same_second s t u v e = let q : CCond-F.And s t ≡ CCond-F.And u v = peel_cond _ _ e in cc

same_inside : (s t : CCond) → built.cond_not s ≡ built.cond_not t → s ≡ t
same_inside s t e = let q : CCond-F.«CCond::Not» s ≡ CCond-F.«CCond::Not» t = peel_cond _ _ e in cc

same_name : (n m : Name) → built.name n ≡ built.name m → n ≡ m
same_name n m e = let q : CExpr-F.Name n ≡ CExpr-F.Name m = peel_word _ _ e in cc

same_num : (n m : ℕ) → built.num n ≡ built.num m → n ≡ m
same_num n m e = let q : CExpr-F.Num n ≡ CExpr-F.Num m = peel_word _ _ e in cc

same_left_or : (s t u v : CCond) → built.or s t ≡ built.or u v → s ≡ u
same_left_or s t u v e = let q : CCond-F.Or s t ≡ CCond-F.Or u v = peel_cond _ _ e in cc

same_right_or : (s t u v : CCond) → built.or s t ≡ built.or u v → t ≡ v
same_right_or s t u v e = let q : CCond-F.Or s t ≡ CCond-F.Or u v = peel_cond _ _ e in cc

-- Conds of different kinds differ
or_is_cmp : {A : Type 0} (s t : CCond) (o : CCmp) (a b : CExpr) → built.or s t ≡ built.cmp o a b → A
or_is_cmp s t o a b e = absurd (let q : CCond-F.Or s t ≡ CCond-F.Cmp o a b = peel_cond _ _ e in let n : ⊥ = cc in n)

or_is_and : {A : Type 0} (s t u v : CCond) → built.or s t ≡ built.and u v → A
or_is_and s t u v e = absurd (let q : CCond-F.Or s t ≡ CCond-F.And u v = peel_cond _ _ e in let n : ⊥ = cc in n)

or_is_not : {A : Type 0} (s t u : CCond) → built.or s t ≡ built.cond_not u → A
or_is_not s t u e = absurd (let q : CCond-F.Or s t ≡ CCond-F.«CCond::Not» u = peel_cond _ _ e in let n : ⊥ = cc in n)

and_is_cmp : {A : Type 0} (s t : CCond) (o : CCmp) (a b : CExpr) → built.and s t ≡ built.cmp o a b → A
and_is_cmp s t o a b e = absurd (let q : CCond-F.And s t ≡ CCond-F.Cmp o a b = peel_cond _ _ e in let n : ⊥ = cc in n)

and_is_not : {A : Type 0} (s t u : CCond) → built.and s t ≡ built.cond_not u → A
and_is_not s t u e = absurd (let q : CCond-F.And s t ≡ CCond-F.«CCond::Not» u = peel_cond _ _ e in let n : ⊥ = cc in n)

not_is_cmp : {A : Type 0} (s : CCond) (o : CCmp) (a b : CExpr) → built.cond_not s ≡ built.cmp o a b → A
not_is_cmp s o a b e = absurd (let q : CCond-F.«CCond::Not» s ≡ CCond-F.Cmp o a b = peel_cond _ _ e in let n : ⊥ = cc in n)

num_is_name : {A : Type 0} (x : ℕ) (n : Name) → built.num x ≡ built.name n → A
num_is_name x n e = absurd (let q : CExpr-F.Num x ≡ CExpr-F.Name n = peel_word _ _ e in let n' : ⊥ = cc in n')

-- the conjuncts of a Cond: the whole, or those of the sides of its `&&`
data View (d c : CCond) : Type 0 where
  is_whole : c ≡ d → View d c
  in_first : (s t : CCond) → c ≡ built.and s t → IsConjunct d s → View d c
  in_second : (s t : CCond) → c ≡ built.and s t → IsConjunct d t → View d c

view : (d c : CCond) → IsConjunct d c → View d c
view d c (loose.whole e) = is_whole e
view d c (loose.first s t e h) = in_first s t e h
view d c (loose.second s t e h) = in_second s t e h

module _ (X : Name → Bool) (f : Name → Name) (apart : (n m : Name) → X n ≡ true → X m ≡ true → f n ≡ f m → n ≡ m) where
  -- what a Cond is in a term: a literal, or the Not of one
  record IsLit (d : CCond) (t : Term) : Type 0 where
    lit : Lit
    part : IsPart (lit_term lit) t
    known : Known X (lit_uses lit)
    is : d ≡ lit_cond f lit

  record IsNot (d : CCond) (t : Term) : Type 0 where
    lit : Lit
    part : IsPart (not_term lit) t
    known : Known X (lit_uses lit)
    is : d ≡ built.cond_not (lit_cond f lit)

  -- a term that is just a literal
  record IsJustLit (d : CCond) (t : Term) : Type 0 where
    lit : Lit
    whole : t ≡ lit_term lit
    known : Known X (lit_uses lit)
    is : d ≡ lit_cond f lit

  -- the uses of the parts of a term
  term_known : (y : Term-F Term) (us : List Use) → term_uses (roll-Term y) ≡ us → Known X (term_uses (roll-Term y)) → Known X us
  term_known y us e h = subst (Known X) e h

  -- ---- a term that is written as a comparison is a literal

  zeros_is_lit : {A : Type 0} (p o : CCmp) (a b : CExpr) → built.or (built.cmp p (built.num 0) (built.num 0)) (built.cmp p (built.num 0) (built.num 0)) ≡ built.cmp o a b → A
  zeros_is_lit p o a b e = or_is_cmp (built.cmp p (built.num 0) (built.num 0)) (built.cmp p (built.num 0) (built.num 0)) o a b e

  literal : (t : Term) → Known X (term_uses t) → (o : CCmp) (a b : CExpr) → term_cond f t ≡ built.cmp o a b → IsJustLit (built.cmp o a b) t
  literal t = every_term {P = λ t. Known X (term_uses t) → (o : CCmp) (a b : CExpr) → term_cond f t ≡ built.cmp o a b → IsJustLit (built.cmp o a b) t} (record {
    always = λ h o a b e. zeros_is_lit Eq o a b (sym (term_cond_layer f Term-F.True) ∙ e);
    never = λ h o a b e. zeros_is_lit Ne o a b (sym (term_cond_layer f Term-F.False) ∙ e);
    lit = λ l h o a b e. record {
      lit = l;
      whole = refl;
      known = term_known (Term-F.Lit l) (lit_uses l) (term_uses_layer (Term-F.Lit l)) h;
      is = sym (sym (term_cond_layer f (Term-F.Lit l)) ∙ e);
    };
    not = λ s hs h o a b e. not_is_cmp (term_cond f s) o a b (sym (term_cond_layer f (Term-F.Not s)) ∙ e);
    both = λ s u hs hu h o a b e. and_is_cmp (term_cond f s) (term_cond f u) o a b (sym (term_cond_layer f (Term-F.And s u)) ∙ e);
    either = λ s u hs hu h o a b e. or_is_cmp (term_cond f s) (term_cond f u) o a b (sym (term_cond_layer f (Term-F.Or s u)) ∙ e);
  }) t

  -- ---- the conjuncts of a written term

  -- a Cond that is no `&&` is its only conjunct
  leaf : {A : Type 0} (d c z : CCond) → View d c → c ≡ z → (z ≡ d → A) → ((s t : CCond) → z ≡ built.and s t → A) → A
  leaf d c z (is_whole e) r p q = p (sym r ∙ e)
  leaf d c z (in_first s t e h) r p q = q s t (sym r ∙ e)
  leaf d c z (in_second s t e h) r p q = q s t (sym r ∙ e)

  -- and those of an `&&` are those of its sides
  branch : {A : Type 0} (d c s u : CCond) → View d c → c ≡ built.and s u → (built.and s u ≡ d → A) → (IsConjunct d s → A) → (IsConjunct d u → A) → A
  branch d c s u (is_whole e) r p q w = p (sym r ∙ e)
  branch d c s u (in_first s' u' e h) r p q w = q (subst (IsConjunct d) (sym (same_first s u s' u' (sym r ∙ e))) h)
  branch d c s u (in_second s' u' e h) r p q w = w (subst (IsConjunct d) (sym (same_second s u s' u' (sym r ∙ e))) h)

  lit_is_and : {A : Type 0} (l : Lit) (s t : CCond) → lit_cond f l ≡ built.and s t → A
  lit_is_and (lit.Bool v) s t e = and_is_cmp s t Ne (built.name (f (name.B v))) (built.num 0) (sym e)
  lit_is_and (lit.Eq v x) s t e = and_is_cmp s t Eq (built.name (f (name.B v))) (built.num x) (sym e)

  lit_is_not : {A : Type 0} (l : Lit) (s : CCond) → lit_cond f l ≡ built.cond_not s → A
  lit_is_not (lit.Bool v) s e = not_is_cmp s Ne (built.name (f (name.B v))) (built.num 0) (sym e)
  lit_is_not (lit.Eq v x) s e = not_is_cmp s Eq (built.name (f (name.B v))) (built.num x) (sym e)

  first_lit : (d : CCond) (s u : Term) → IsLit d s → IsLit d (roll-Term (Term-F.And s u))
  first_lit d s u i = record { lit = i.lit; part = loose.first s u refl i.part; known = i.known; is = i.is }

  second_lit : (d : CCond) (s u : Term) → IsLit d u → IsLit d (roll-Term (Term-F.And s u))
  second_lit d s u i = record { lit = i.lit; part = loose.second s u refl i.part; known = i.known; is = i.is }

  first_not : (d : CCond) (s u : Term) → IsNot d s → IsNot d (roll-Term (Term-F.And s u))
  first_not d s u i = record { lit = i.lit; part = loose.first s u refl i.part; known = i.known; is = i.is }

  second_not : (d : CCond) (s u : Term) → IsNot d u → IsNot d (roll-Term (Term-F.And s u))
  second_not d s u i = record { lit = i.lit; part = loose.second s u refl i.part; known = i.known; is = i.is }

  -- a conjunct that is a comparison
  lit_in : (t : Term) → Known X (term_uses t) → (o : CCmp) (a b : CExpr) → IsConjunct (compared o a b) (term_cond f t) → IsLit (compared o a b) t
  lit_in t = every_term {P = λ t. Known X (term_uses t) → (o : CCmp) (a b : CExpr) → IsConjunct (compared o a b) (term_cond f t) → IsLit (compared o a b) t} (record {
    always = λ h o a b k. leaf _ _ always_cond (view _ _ k) (term_cond_layer f Term-F.True) (λ e. zeros_is_lit Eq o a b e) (λ s u e. or_is_and _ _ s u e);
    never = λ h o a b k. leaf _ _ never_cond (view _ _ k) (term_cond_layer f Term-F.False) (λ e. zeros_is_lit Ne o a b e) (λ s u e. or_is_and _ _ s u e);
    lit = λ l h o a b k. leaf _ _ (lit_cond f l) (view _ _ k) (term_cond_layer f (Term-F.Lit l))
        (λ e. record { lit = l; part = loose.whole refl; known = term_known (Term-F.Lit l) (lit_uses l) (term_uses_layer (Term-F.Lit l)) h; is = sym e })
        (λ s u e. lit_is_and l s u e);
    not = λ t' ht h o a b k. leaf _ _ (built.cond_not (term_cond f t')) (view _ _ k) (term_cond_layer f (Term-F.Not t'))
        (λ e. not_is_cmp (term_cond f t') o a b e) (λ s u e. and_is_not s u (term_cond f t') (sym e));
    both = λ s u hs hu h o a b k.
        let n = term_known (Term-F.And s u) (term_uses s ++ term_uses u) (term_uses_layer (Term-F.And s u)) h in
        branch _ _ (term_cond f s) (term_cond f u) (view _ _ k) (term_cond_layer f (Term-F.And s u)) (λ e. and_is_cmp (term_cond f s) (term_cond f u) o a b e)
        (λ c. first_lit _ s u (hs (known_first X (term_uses s) (term_uses u) n) o a b c)) (λ c. second_lit _ s u (hu (known_second X (term_uses s) (term_uses u) n) o a b c));
    either = λ s u hs hu h o a b k. leaf _ _ (built.or (term_cond f s) (term_cond f u)) (view _ _ k) (term_cond_layer f (Term-F.Or s u))
        (λ e. or_is_cmp (term_cond f s) (term_cond f u) o a b e) (λ v w e. or_is_and (term_cond f s) (term_cond f u) v w e);
  }) t

  -- a conjunct that is the `!` of one
  not_in : (t : Term) → Known X (term_uses t) → (o : CCmp) (a b : CExpr) → IsConjunct (not_compared o a b) (term_cond f t) → IsNot (not_compared o a b) t
  not_in t = every_term {P = λ t. Known X (term_uses t) → (o : CCmp) (a b : CExpr) → IsConjunct (not_compared o a b) (term_cond f t) → IsNot (not_compared o a b) t} (record {
    always = λ h o a b k. leaf _ _ always_cond (view _ _ k) (term_cond_layer f Term-F.True) (λ e. or_is_not _ _ (compared o a b) e) (λ s u e. or_is_and _ _ s u e);
    never = λ h o a b k. leaf _ _ never_cond (view _ _ k) (term_cond_layer f Term-F.False) (λ e. or_is_not _ _ (compared o a b) e) (λ s u e. or_is_and _ _ s u e);
    lit = λ l h o a b k. leaf _ _ (lit_cond f l) (view _ _ k) (term_cond_layer f (Term-F.Lit l)) (λ e. lit_is_not l (compared o a b) e) (λ s u e. lit_is_and l s u e);
    not = λ t' ht h o a b k. leaf _ _ (built.cond_not (term_cond f t')) (view _ _ k) (term_cond_layer f (Term-F.Not t'))
        (λ e.
        let i = literal t' (term_known (Term-F.Not t') (term_uses t') (term_uses_layer (Term-F.Not t')) h) o a b (same_inside (term_cond f t') (compared o a b) e) in
        record { lit = i.lit; part = loose.whole (ap (λ (q : Term). roll-Term (Term-F.Not q)) i.whole); known = i.known; is = ap built.cond_not i.is })
        (λ s u e. and_is_not s u (term_cond f t') (sym e));
    both = λ s u hs hu h o a b k.
        let n = term_known (Term-F.And s u) (term_uses s ++ term_uses u) (term_uses_layer (Term-F.And s u)) h in
        branch _ _ (term_cond f s) (term_cond f u) (view _ _ k) (term_cond_layer f (Term-F.And s u)) (λ e. and_is_not (term_cond f s) (term_cond f u) (compared o a b) e)
        (λ c. first_not _ s u (hs (known_first X (term_uses s) (term_uses u) n) o a b c)) (λ c. second_not _ s u (hu (known_second X (term_uses s) (term_uses u) n) o a b c));
    either = λ s u hs hu h o a b k. leaf _ _ (built.or (term_cond f s) (term_cond f u)) (view _ _ k) (term_cond_layer f (Term-F.Or s u))
        (λ e. or_is_not (term_cond f s) (term_cond f u) (compared o a b) e) (λ v w e. or_is_and (term_cond f s) (term_cond f u) v w e);
  }) t

  -- ---- equal written literals are equal

  same_variable : (v w : ℕ) → X (name.B v) ≡ true → X (name.B w) ≡ true → f (name.B v) ≡ f (name.B w) → v ≡ w
  same_variable v w p q e = let n : name.B v ≡ name.B w = apart (name.B v) (name.B w) p q e in cc

  eq_is_ne : {A : Type 0} → Eq ≡ Ne → A
  eq_is_ne e = absurd (let n : ⊥ = cc in n)

  lit_same : (l m : Lit) → Known X (lit_uses l) → Known X (lit_uses m) → lit_cond f l ≡ lit_cond f m → l ≡ m
  lit_same (lit.Bool v) (lit.Bool w) h k e = ap (λ n. lit.Bool n) (same_variable v w h.0 k.0 (same_name _ _ (same_left _ _ _ _ _ _ e)))
  lit_same (lit.Bool v) (lit.Eq w n) h k e = eq_is_ne (sym (same_op _ _ _ _ _ _ e))
  lit_same (lit.Eq v m) (lit.Bool w) h k e = eq_is_ne (same_op _ _ _ _ _ _ e)
  lit_same (lit.Eq v m) (lit.Eq w n) h k e =
      ap (λ j. lit.Eq j m) (same_variable v w h.0 k.0 (same_name _ _ (same_left _ _ _ _ _ _ e))) ∙ ap (λ j. lit.Eq w j) (same_num _ _ (same_right _ _ _ _ _ _ e))

  -- ---- a conjunct that compares a name with a number

  record IsValue (n : Name) (x : ℕ) (t : Term) : Type 0 where
    variable : ℕ
    part : IsPart (lit_term (lit.Eq variable x)) t
    known : X (name.B variable) ≡ true
    is : f (name.B variable) ≡ n

  value_of : (n : Name) (x : ℕ) (t : Term) (l : Lit) → IsPart (lit_term l) t → Known X (lit_uses l) → IsValueTest n x (lit_cond f l) → IsValue n x t
  value_of n x t (lit.Bool v) p k (inl e) = eq_is_ne (sym (same_op _ _ _ _ _ _ e))
  value_of n x t (lit.Bool v) p k (inr e) = eq_is_ne (sym (same_op _ _ _ _ _ _ e))
  value_of n x t (lit.Eq v y) p k (inl e) = record {
    variable = v;
    part = subst (λ (j : ℕ). IsPart (lit_term (lit.Eq v j)) t) (same_num _ _ (same_right _ _ _ _ _ _ e)) p;
    known = k.0;
    is = same_name _ _ (same_left _ _ _ _ _ _ e);
  }
  value_of n x t (lit.Eq v y) p k (inr e) = num_is_name x (f (name.B v)) (sym (same_left _ _ _ _ _ _ e))

  value_in : (t : Term) → Known X (term_uses t) → (n : Name) (x : ℕ) (d : CCond) → IsConjunct d (term_cond f t) → IsValueTest n x d → IsValue n x t
  value_in t h n x d k (inl e) =
      let i = lit_in t h Eq (built.name n) (built.num x) (subst (λ (q : CCond). IsConjunct q (term_cond f t)) e k) in
      value_of n x t i.lit i.part i.known (inl (sym i.is))
  value_in t h n x d k (inr e) =
      let i = lit_in t h Eq (built.num x) (built.name n) (subst (λ (q : CCond). IsConjunct q (term_cond f t)) e k) in
      value_of n x t i.lit i.part i.known (inr (sym i.is))

  -- ---- a clash of written terms is one of the terms

  pub terms_clash : (s t : Term) → Known X (term_uses s) → Known X (term_uses t) → CondsClash (term_cond f s) (term_cond f t) → TermsClash s t
  terms_clash s t h k (loose.one_is_turned o a b p q) =
      let i = lit_in s h o a b p in
      let j = not_in t k o a b q in
      let e = lit_same i.lit j.lit i.known j.known (sym i.is ∙ same_inside (compared o a b) (lit_cond f j.lit) j.is) in
      loose.one_is_turned i.lit i.part (subst (λ (l : Lit). IsPart (not_term l) t) (sym e) j.part)
  terms_clash s t h k (loose.other_is_turned o a b p q) =
      let i = not_in s h o a b p in
      let j = lit_in t k o a b q in
      let e = lit_same i.lit j.lit i.known j.known (sym (same_inside (compared o a b) (lit_cond f i.lit) i.is) ∙ j.is) in
      loose.other_is_turned i.lit i.part (subst (λ (l : Lit). IsPart (lit_term l) t) (sym e) j.part)
  terms_clash s t h k (loose.two_values n x y d e p q u v differ) =
      let i = value_in s h n x d p u in
      let j = value_in t k n y e q v in
      let same = same_variable i.variable j.variable i.known j.known (i.is ∙ sym j.is) in
      loose.two_values i.variable x y i.part (subst (λ (w : ℕ). IsPart (lit_term (lit.Eq w y)) t) (sym same) j.part) differ

  -- ---- terms that are written alike

  -- both parts of a term of two are known
  parts_known : (y : Term-F Term) (s u : Term) → term_uses (roll-Term y) ≡ term_uses s ++ term_uses u → Known X (term_uses (roll-Term y)) → Known X (term_uses s) × Known X (term_uses u)
  parts_known y s u e h =
      let n = term_known y (term_uses s ++ term_uses u) e h in
      (known_first X (term_uses s) (term_uses u) n, known_second X (term_uses s) (term_uses u) n)

  and_known : (s u : Term) → Known X (term_uses (roll-Term (Term-F.And s u))) → Known X (term_uses s) × Known X (term_uses u)
  and_known s u = parts_known (Term-F.And s u) s u (term_uses_layer (Term-F.And s u))

  or_known : (s u : Term) → Known X (term_uses (roll-Term (Term-F.Or s u))) → Known X (term_uses s) × Known X (term_uses u)
  or_known s u = parts_known (Term-F.Or s u) s u (term_uses_layer (Term-F.Or s u))

  -- the two constants, `(z || z)` where z compares 0 with 0
  abbrev zero_compared : CCmp → CCond
  zero_compared o = built.cmp o (built.num 0) (built.num 0)

  abbrev zeros : CCmp → CCond
  zeros o = built.or (zero_compared o) (zero_compared o)

  zeros_same : (o p : CCmp) → zeros o ≡ zeros p → o ≡ p
  zeros_same o p e = same_op o p (built.num 0) (built.num 0) (built.num 0) (built.num 0) (same_left_or _ _ _ _ e)

  zero_is_lit : {A : Type 0} (o : CCmp) (l : Lit) → zero_compared o ≡ lit_cond f l → A
  zero_is_lit o (lit.Bool v) e = num_is_name 0 (f (name.B v)) (same_left _ _ _ _ _ _ e)
  zero_is_lit o (lit.Eq v x) e = num_is_name 0 (f (name.B v)) (same_left _ _ _ _ _ _ e)

  -- an Or of terms is written as neither constant
  zeros_is_or : {A : Type 0} (o : CCmp) (s u : Term) → Known X (term_uses s) → zeros o ≡ built.or (term_cond f s) (term_cond f u) → A
  zeros_is_or o s u h e =
      let i = literal s h o (built.num 0) (built.num 0) (sym (same_left_or _ _ _ _ e)) in
      zero_is_lit o i.lit i.is

  lit_is_or : {A : Type 0} (l : Lit) (s t : CCond) → built.or s t ≡ lit_cond f l → A
  lit_is_or (lit.Bool v) s t e = or_is_cmp s t Ne (built.name (f (name.B v))) (built.num 0) e
  lit_is_or (lit.Eq v x) s t e = or_is_cmp s t Eq (built.name (f (name.B v))) (built.num x) e

  -- the terms that are written as a Cond are this one
  abbrev IsOnly : CCond → Term → Type 0
  IsOnly z s = (t : Term) → Known X (term_uses t) → z ≡ term_cond f t → s ≡ t

  only_always : IsOnly always_cond (roll-Term Term-F.True)
  only_always t = every_term {P = λ t. Known X (term_uses t) → always_cond ≡ term_cond f t → roll-Term Term-F.True ≡ t} (record {
    always = λ h e. refl;
    never = λ h e. eq_is_ne (zeros_same Eq Ne (e ∙ term_cond_layer f Term-F.False));
    lit = λ l h e. lit_is_or l (zero_compared Eq) (zero_compared Eq) (e ∙ term_cond_layer f (Term-F.Lit l));
    not = λ t' ht h e. or_is_not _ _ (term_cond f t') (e ∙ term_cond_layer f (Term-F.Not t'));
    both = λ s u hs hu h e. or_is_and _ _ (term_cond f s) (term_cond f u) (e ∙ term_cond_layer f (Term-F.And s u));
    either = λ s u hs hu h e. zeros_is_or Eq s u (or_known s u h).0 (e ∙ term_cond_layer f (Term-F.Or s u));
  }) t

  only_never : IsOnly never_cond (roll-Term Term-F.False)
  only_never t = every_term {P = λ t. Known X (term_uses t) → never_cond ≡ term_cond f t → roll-Term Term-F.False ≡ t} (record {
    always = λ h e. eq_is_ne (sym (zeros_same Ne Eq (e ∙ term_cond_layer f Term-F.True)));
    never = λ h e. refl;
    lit = λ l h e. lit_is_or l (zero_compared Ne) (zero_compared Ne) (e ∙ term_cond_layer f (Term-F.Lit l));
    not = λ t' ht h e. or_is_not _ _ (term_cond f t') (e ∙ term_cond_layer f (Term-F.Not t'));
    both = λ s u hs hu h e. or_is_and _ _ (term_cond f s) (term_cond f u) (e ∙ term_cond_layer f (Term-F.And s u));
    either = λ s u hs hu h e. zeros_is_or Ne s u (or_known s u h).0 (e ∙ term_cond_layer f (Term-F.Or s u));
  }) t

  only_lit : (l : Lit) → Known X (lit_uses l) → IsOnly (lit_cond f l) (lit_term l)
  only_lit l k t = every_term {P = λ t. Known X (term_uses t) → lit_cond f l ≡ term_cond f t → lit_term l ≡ t} (record {
    always = λ h e. lit_is_or l _ _ (sym (e ∙ term_cond_layer f Term-F.True));
    never = λ h e. lit_is_or l _ _ (sym (e ∙ term_cond_layer f Term-F.False));
    lit = λ m h e. ap lit_term (lit_same l m k (term_known (Term-F.Lit m) (lit_uses m) (term_uses_layer (Term-F.Lit m)) h) (e ∙ term_cond_layer f (Term-F.Lit m)));
    not = λ t' ht h e. lit_is_not l (term_cond f t') (e ∙ term_cond_layer f (Term-F.Not t'));
    both = λ s u hs hu h e. lit_is_and l (term_cond f s) (term_cond f u) (e ∙ term_cond_layer f (Term-F.And s u));
    either = λ s u hs hu h e. lit_is_or l (term_cond f s) (term_cond f u) (sym (e ∙ term_cond_layer f (Term-F.Or s u)));
  }) t

  only_not : (s : Term) → IsOnly (term_cond f s) s → IsOnly (built.cond_not (term_cond f s)) (roll-Term (Term-F.Not s))
  only_not s k t = every_term {P = λ t. Known X (term_uses t) → built.cond_not (term_cond f s) ≡ term_cond f t → roll-Term (Term-F.Not s) ≡ t} (record {
    always = λ h e. or_is_not _ _ (term_cond f s) (sym (e ∙ term_cond_layer f Term-F.True));
    never = λ h e. or_is_not _ _ (term_cond f s) (sym (e ∙ term_cond_layer f Term-F.False));
    lit = λ m h e. lit_is_not m (term_cond f s) (sym (e ∙ term_cond_layer f (Term-F.Lit m)));
    not = λ t' ht h e. ap (λ (q : Term). roll-Term (Term-F.Not q))
        (k t' (term_known (Term-F.Not t') (term_uses t') (term_uses_layer (Term-F.Not t')) h) (same_inside (term_cond f s) (term_cond f t') (e ∙ term_cond_layer f (Term-F.Not t'))));
    both = λ u v hu hv h e. and_is_not (term_cond f u) (term_cond f v) (term_cond f s) (sym (e ∙ term_cond_layer f (Term-F.And u v)));
    either = λ u v hu hv h e. or_is_not (term_cond f u) (term_cond f v) (term_cond f s) (sym (e ∙ term_cond_layer f (Term-F.Or u v)));
  }) t

  only_and : (s u : Term) → IsOnly (term_cond f s) s → IsOnly (term_cond f u) u → IsOnly (built.and (term_cond f s) (term_cond f u)) (roll-Term (Term-F.And s u))
  only_and s u k l t = every_term {P = λ t. Known X (term_uses t) → built.and (term_cond f s) (term_cond f u) ≡ term_cond f t → roll-Term (Term-F.And s u) ≡ t} (record {
    always = λ h e. or_is_and _ _ (term_cond f s) (term_cond f u) (sym (e ∙ term_cond_layer f Term-F.True));
    never = λ h e. or_is_and _ _ (term_cond f s) (term_cond f u) (sym (e ∙ term_cond_layer f Term-F.False));
    lit = λ m h e. lit_is_and m (term_cond f s) (term_cond f u) (sym (e ∙ term_cond_layer f (Term-F.Lit m)));
    not = λ t' ht h e. and_is_not (term_cond f s) (term_cond f u) (term_cond f t') (e ∙ term_cond_layer f (Term-F.Not t'));
    both = λ v w hv hw h e.
        let g = e ∙ term_cond_layer f (Term-F.And v w) in
        ap2 (λ (p q : Term). roll-Term (Term-F.And p q)) s v u w (k v (and_known v w h).0 (same_first _ _ _ _ g)) (l w (and_known v w h).1 (same_second _ _ _ _ g));
    either = λ v w hv hw h e. or_is_and (term_cond f v) (term_cond f w) (term_cond f s) (term_cond f u) (sym (e ∙ term_cond_layer f (Term-F.Or v w)));
  }) t

  only_or : (s u : Term) → Known X (term_uses s) → IsOnly (term_cond f s) s → IsOnly (term_cond f u) u → IsOnly (built.or (term_cond f s) (term_cond f u)) (roll-Term (Term-F.Or s u))
  only_or s u n k l t = every_term {P = λ t. Known X (term_uses t) → built.or (term_cond f s) (term_cond f u) ≡ term_cond f t → roll-Term (Term-F.Or s u) ≡ t} (record {
    always = λ h e. zeros_is_or Eq s u n (sym (e ∙ term_cond_layer f Term-F.True));
    never = λ h e. zeros_is_or Ne s u n (sym (e ∙ term_cond_layer f Term-F.False));
    lit = λ m h e. lit_is_or m (term_cond f s) (term_cond f u) (e ∙ term_cond_layer f (Term-F.Lit m));
    not = λ t' ht h e. or_is_not (term_cond f s) (term_cond f u) (term_cond f t') (e ∙ term_cond_layer f (Term-F.Not t'));
    both = λ v w hv hw h e. or_is_and (term_cond f s) (term_cond f u) (term_cond f v) (term_cond f w) (e ∙ term_cond_layer f (Term-F.And v w));
    either = λ v w hv hw h e.
        let g = e ∙ term_cond_layer f (Term-F.Or v w) in
        ap2 (λ (p q : Term). roll-Term (Term-F.Or p q)) s v u w (k v (or_known v w h).0 (same_left_or _ _ _ _ g)) (l w (or_known v w h).1 (same_right_or _ _ _ _ g));
  }) t

  -- known terms that are written alike are equal
  pub terms_same : (s : Term) → Known X (term_uses s) → IsOnly (term_cond f s) s
  terms_same s = every_term {P = λ s. Known X (term_uses s) → IsOnly (term_cond f s) s} (record {
    always = λ h t k e. only_always t k (sym (term_cond_layer f Term-F.True) ∙ e);
    never = λ h t k e. only_never t k (sym (term_cond_layer f Term-F.False) ∙ e);
    lit = λ l h t k e. only_lit l (term_known (Term-F.Lit l) (lit_uses l) (term_uses_layer (Term-F.Lit l)) h) t k (sym (term_cond_layer f (Term-F.Lit l)) ∙ e);
    not = λ s' hs h t k e. only_not s' (hs (term_known (Term-F.Not s') (term_uses s') (term_uses_layer (Term-F.Not s')) h)) t k (sym (term_cond_layer f (Term-F.Not s')) ∙ e);
    both = λ s' u hs hu h t k e. only_and s' u (hs (and_known s' u h).0) (hu (and_known s' u h).1) t k (sym (term_cond_layer f (Term-F.And s' u)) ∙ e);
    either = λ s' u hs hu h t k e. only_or s' u (or_known s' u h).0 (hs (or_known s' u h).0) (hu (or_known s' u h).1) t k (sym (term_cond_layer f (Term-F.Or s' u)) ∙ e);
  }) s
