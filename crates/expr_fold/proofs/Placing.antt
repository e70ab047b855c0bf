-- Words with delayed words in place have, among names that lag, the values that they had.
use Rattle.std.proofs.Common.{◌≡◌, ◌-◌, ◌^◌, Bool, true, false, cond, not, ◌&&◌, ◌||◌, List, [], ◌∷◌, Some, refl, sym, ap, ◌∙◌, subst}
use Rattle.std.specs.Prelude.{IsTrue}
use Rattle.dream_words.specs.declared.machine.Name.{Name}
use Rattle.run_parts.specs.World.{Names}
use Rattle.c_syntax.specs.declared.syntax.CExpr as e
use Rattle.c_syntax.specs.declared.syntax.CExpr.{CExpr, CExpr-F, roll-CExpr}
use Rattle.c_syntax.specs.declared.syntax.CCond as c
use Rattle.c_syntax.specs.declared.syntax.CCond.{CCond, CCond-F, roll-CCond}
use Rattle.c_syntax.specs.Words.{bin_of, cmp_of, fn1_of, fn2_of, fn3_of}
use Rattle.c_syntax.specs.Value.{each, both, all_three, picked, word_of, truth_of}
use Rattle.c_syntax.specs.Formed.{cond_names}
use Rattle.c_syntax.proofs.Induct.{WordCases, every_word, every_cond}
use Rattle.micro_ir.specs.Rule.{is_flow_name, is_flow_target, is_flow_word, word_names, has_flow_names, cond_has_flow_names}
use Rattle.micro_ir.proofs.Values.{both_true, names_layer}
use Rattle.flow_passes.specs.Uses.{NameSet, same_name, word_reads, cond_reads, word_reads_at, cond_reads_at}
use Rattle.flow_passes.proofs.Names.{or_left, or_right, same_self}
use Rattle.flow_passes.proofs.Reading.{word_reads_layer, cond_reads_layer}
use Rattle.expr_fold.specs.declared.delayed.Delayed.{Delayed}
use Rattle.expr_fold.specs.Delayed.{is_delayed, are_flow_delayed, AreHeld}
use Rattle.expr_fold.specs.Placed.{stands_for, placed_word, placed_cond}
use Rattle.expr_fold.proofs.Named.{same_true, or_false, and_true}
use Rattle.expr_fold.proofs.Layers.{ap2, ap3, placed_word_layer, placed_cond_layer, cond_names_layer, value_at, test_at, word_step, truth_step}

-- what is read and isn't delayed is the same
abbrev pub SameBut : List Delayed → Names → Names → NameSet → Type 0
SameBut p v u r = (n : Name) → IsTrue (r n) → is_delayed p n ≡ false → u n ≡ v n

-- ---- values

first_or_rest : (d : Delayed) (ds : List Delayed) (n : Name) (v u : Names) (b : Bool) → same_name d.name n ≡ b → word_of d.word u ≡ Some (v d.name)
    → (b ≡ false → word_of (stands_for ds n) u ≡ Some (v n)) → word_of (cond b d.word (stands_for ds n)) u ≡ Some (v n)
first_or_rest d ds n v u true e h rest = h ∙ ap (λ m. Some (v m)) (same_true d.name n e)
first_or_rest d ds n v u false e h rest = rest refl

stands_value : (p : List Delayed) (n : Name) (v u : Names) → AreHeld p v u → (is_delayed p n ≡ false → u n ≡ v n) → word_of (stands_for p n) u ≡ Some (v n)
stands_value [] n v u h s = word_step (CExpr-F.Name n) u ∙ ap (λ x. Some x) (s refl)
stands_value (d ∷ ds) n v u h s =
    let rest : same_name d.name n ≡ false → word_of (stands_for ds n) u ≡ Some (v n) = λ f. stands_value ds n v u h.1 (λ g. s (or_false (same_name d.name n) (is_delayed ds n) f g)) in
    first_or_rest d ds n v u (same_name d.name n) refl h.0 rest

module _ (p : List Delayed) (v u : Names) (held : AreHeld p v u) where
  abbrev KeepsWord : CExpr → Type 0
  KeepsWord a = SameBut p v u (word_reads a) → word_of (placed_word p a) u ≡ word_of a v

  abbrev KeepsCond : CCond → Type 0
  KeepsCond t = SameBut p v u (cond_reads t) → truth_of (placed_cond p t) u ≡ truth_of t v

  -- a Word y that becomes z, where their layers give the same
  word_case : (y z : CExpr-F CCond CExpr) → placed_word p (roll-CExpr y) ≡ roll-CExpr z → value_at z u ≡ value_at y v → word_of (placed_word p (roll-CExpr y)) u ≡ word_of (roll-CExpr y) v
  word_case y z r g = ap (λ q. word_of q u) r ∙ word_step z u ∙ g ∙ sym (word_step y v)

  cond_case : (y z : CCond-F CCond CExpr) → placed_cond p (roll-CCond y) ≡ roll-CCond z → test_at z u ≡ test_at y v → truth_of (placed_cond p (roll-CCond y)) u ≡ truth_of (roll-CCond y) v
  cond_case y z r g = ap (λ q. truth_of q u) r ∙ truth_step z u ∙ g ∙ sym (truth_step y v)

  -- what a layer reads
  word_same : (y : CExpr-F CCond CExpr) → SameBut p v u (word_reads (roll-CExpr y)) → SameBut p v u (word_reads_at (e.map-CExpr CCond CExpr NameSet NameSet cond_reads word_reads y))
  word_same y s = subst (SameBut p v u) (word_reads_layer y) s

  cond_same : (y : CCond-F CCond CExpr) → SameBut p v u (cond_reads (roll-CCond y)) → SameBut p v u (cond_reads_at (c.map-CCond CCond CExpr NameSet NameSet cond_reads word_reads y))
  cond_same y s = subst (SameBut p v u) (cond_reads_layer y) s

  in_left : (a b : NameSet) → SameBut p v u (λ n. a n || b n) → SameBut p v u a
  in_left a b s = λ n t f. s n (or_left (a n) (b n) t) f

  in_right : (a b : NameSet) → SameBut p v u (λ n. a n || b n) → SameBut p v u b
  in_right a b s = λ n t f. s n (or_right (a n) (b n) t) f

  value_cases : WordCases KeepsWord KeepsCond
  value_cases = record {
    num = λ n s. word_case (CExpr-F.Num n) (CExpr-F.Num n) (placed_word_layer p (CExpr-F.Num n)) refl;
    name = λ n s.
        ap (λ q. word_of q u) (placed_word_layer p (CExpr-F.Name n)) ∙ stands_value p n v u held (λ f. word_same (CExpr-F.Name n) s n (same_self n) f) ∙ sym (word_step (CExpr-F.Name n) v);
    not_word = λ a ha s.
        word_case (CExpr-F.«CExpr::Not» a) (CExpr-F.«CExpr::Not» (placed_word p a)) (placed_word_layer p (CExpr-F.«CExpr::Not» a)) (ap (each (λ x. 2 ^ 32 - 1 - x)) (ha (word_same (CExpr-F.«CExpr::Not» a) s)));
    bin = λ op a b ha hb s. let k = word_same (CExpr-F.Bin op a b) s in
        word_case (CExpr-F.Bin op a b) (CExpr-F.Bin op (placed_word p a) (placed_word p b)) (placed_word_layer p (CExpr-F.Bin op a b))
        (ap2 (both (bin_of op)) _ _ _ _ (ha (in_left (word_reads a) (word_reads b) k)) (hb (in_right (word_reads a) (word_reads b) k)));
    fn1 = λ g a ha s.
        word_case (CExpr-F.Fn1 g a) (CExpr-F.Fn1 g (placed_word p a)) (placed_word_layer p (CExpr-F.Fn1 g a)) (ap (each (fn1_of g)) (ha (word_same (CExpr-F.Fn1 g a) s)));
    fn2 = λ g a b ha hb s. let k = word_same (CExpr-F.Fn2 g a b) s in
        word_case (CExpr-F.Fn2 g a b) (CExpr-F.Fn2 g (placed_word p a) (placed_word p b)) (placed_word_layer p (CExpr-F.Fn2 g a b))
        (ap2 (both (λ x y. Some (fn2_of g x y))) _ _ _ _ (ha (in_left (word_reads a) (word_reads b) k)) (hb (in_right (word_reads a) (word_reads b) k)));
    fn3 = λ g a b d ha hb hd s. let k = word_same (CExpr-F.Fn3 g a b d) s in
        let r : NameSet = λ n. word_reads b n || word_reads d n in
        let k2 = in_right (word_reads a) r k in
        word_case (CExpr-F.Fn3 g a b d) (CExpr-F.Fn3 g (placed_word p a) (placed_word p b) (placed_word p d)) (placed_word_layer p (CExpr-F.Fn3 g a b d))
        (ap3 (all_three (fn3_of g)) _ _ _ _ _ _ (ha (in_left (word_reads a) r k)) (hb (in_left (word_reads b) (word_reads d) k2)) (hd (in_right (word_reads b) (word_reads d) k2)));
    pick = λ t a b ht ha hb s. let k = word_same (CExpr-F.Pick t a b) s in
        let r : NameSet = λ n. word_reads a n || word_reads b n in
        let k2 = in_right (cond_reads t) r k in
        word_case (CExpr-F.Pick t a b) (CExpr-F.Pick (placed_cond p t) (placed_word p a) (placed_word p b)) (placed_word_layer p (CExpr-F.Pick t a b))
        (ap3 picked _ _ _ _ _ _ (ht (in_left (cond_reads t) r k)) (ha (in_left (word_reads a) (word_reads b) k2)) (hb (in_right (word_reads a) (word_reads b) k2)));
    cmp = λ op a b ha hb s. let k = cond_same (CCond-F.Cmp op a b) s in
        cond_case (CCond-F.Cmp op a b) (CCond-F.Cmp op (placed_word p a) (placed_word p b)) (placed_cond_layer p (CCond-F.Cmp op a b))
        (ap2 (both (λ x y. Some (cmp_of op x y))) _ _ _ _ (ha (in_left (word_reads a) (word_reads b) k)) (hb (in_right (word_reads a) (word_reads b) k)));
    not_cond = λ t ht s.
        cond_case (CCond-F.«CCond::Not» t) (CCond-F.«CCond::Not» (placed_cond p t)) (placed_cond_layer p (CCond-F.«CCond::Not» t)) (ap (each not) (ht (cond_same (CCond-F.«CCond::Not» t) s)));
    both = λ t r ht hr s. let k = cond_same (CCond-F.And t r) s in
        cond_case (CCond-F.And t r) (CCond-F.And (placed_cond p t) (placed_cond p r)) (placed_cond_layer p (CCond-F.And t r))
        (ap2 (λ x y. picked x y (Some false)) _ _ _ _ (ht (in_left (cond_reads t) (cond_reads r) k)) (hr (in_right (cond_reads t) (cond_reads r) k)));
    either = λ t r ht hr s. let k = cond_same (CCond-F.Or t r) s in
        cond_case (CCond-F.Or t r) (CCond-F.Or (placed_cond p t) (placed_cond p r)) (placed_cond_layer p (CCond-F.Or t r))
        (ap2 (λ x y. picked x (Some true) y) _ _ _ _ (ht (in_left (cond_reads t) (cond_reads r) k)) (hr (in_right (cond_reads t) (cond_reads r) k)));
  }

  pub word_placed : (a : CExpr) → KeepsWord a
  word_placed a = every_word value_cases a

  pub cond_placed : (t : CCond) → KeepsCond t
  cond_placed t = every_cond value_cases t

-- ---- names

stands_names : (p : List Delayed) (n : Name) → IsTrue (are_flow_delayed p) → IsTrue (has_flow_names (roll-CExpr (CExpr-F.Name n))) → IsTrue (has_flow_names (stands_for p n))
stands_names [] n h t = t
stands_names (d ∷ ds) n h t =
    let k = both_true (is_flow_target d.name && is_flow_word d.word) (are_flow_delayed ds) h in
    let j = both_true (is_flow_target d.name) (is_flow_word d.word) k.0 in
    one_or (same_name d.name n) d.word (stands_for ds n) (both_true (has_flow_names d.word) _ j.1).0 (stands_names ds n k.1 t)
  where
    one_or : (b : Bool) (x y : CExpr) → IsTrue (has_flow_names x) → IsTrue (has_flow_names y) → IsTrue (has_flow_names (cond b x y))
    one_or true x y h g = h
    one_or false x y h g = g

module _ (p : List Delayed) (rule : IsTrue (are_flow_delayed p)) where
  abbrev NamesWord : CExpr → Type 0
  NamesWord a = IsTrue (has_flow_names a) → IsTrue (has_flow_names (placed_word p a))

  abbrev NamesCond : CCond → Type 0
  NamesCond t = IsTrue (cond_has_flow_names t) → IsTrue (cond_has_flow_names (placed_cond p t))

  by_word : (y z : CExpr-F CCond CExpr) → placed_word p (roll-CExpr y) ≡ roll-CExpr z
      → (IsTrue (word_names (e.map-CExpr CCond CExpr Bool Bool cond_has_flow_names has_flow_names y)) → IsTrue (word_names (e.map-CExpr CCond CExpr Bool Bool cond_has_flow_names has_flow_names z))) → NamesWord (roll-CExpr y)
  by_word y z r g h = subst (λ q. IsTrue (has_flow_names q)) (sym r) (subst IsTrue (sym (names_layer z)) (g (subst IsTrue (names_layer y) h)))

  by_cond : (y z : CCond-F CCond CExpr) → placed_cond p (roll-CCond y) ≡ roll-CCond z
      → (IsTrue (cond_names (c.map-CCond CCond CExpr Bool Bool cond_has_flow_names has_flow_names y)) → IsTrue (cond_names (c.map-CCond CCond CExpr Bool Bool cond_has_flow_names has_flow_names z))) → NamesCond (roll-CCond y)
  by_cond y z r g h = subst (λ q. IsTrue (cond_has_flow_names q)) (sym r) (subst IsTrue (sym (cond_names_layer z)) (g (subst IsTrue (cond_names_layer y) h)))

  two : (a b c d : Bool) → (IsTrue a → IsTrue c) → (IsTrue b → IsTrue d) → IsTrue (a && b) → IsTrue (c && d)
  two a b c d f g h = let k = both_true a b h in and_true c d (f k.0) (g k.1)

  name_cases : WordCases NamesWord NamesCond
  name_cases = record {
    num = λ n. by_word (CExpr-F.Num n) (CExpr-F.Num n) (placed_word_layer p (CExpr-F.Num n)) (λ h. h);
    name = λ n h. subst (λ q. IsTrue (has_flow_names q)) (sym (placed_word_layer p (CExpr-F.Name n))) (stands_names p n rule h);
    not_word = λ a ha. by_word (CExpr-F.«CExpr::Not» a) (CExpr-F.«CExpr::Not» (placed_word p a)) (placed_word_layer p (CExpr-F.«CExpr::Not» a)) ha;
    bin = λ op a b ha hb. by_word (CExpr-F.Bin op a b) (CExpr-F.Bin op (placed_word p a) (placed_word p b)) (placed_word_layer p (CExpr-F.Bin op a b)) (two _ _ _ _ ha hb);
    fn1 = λ g a ha. by_word (CExpr-F.Fn1 g a) (CExpr-F.Fn1 g (placed_word p a)) (placed_word_layer p (CExpr-F.Fn1 g a)) ha;
    fn2 = λ g a b ha hb. by_word (CExpr-F.Fn2 g a b) (CExpr-F.Fn2 g (placed_word p a) (placed_word p b)) (placed_word_layer p (CExpr-F.Fn2 g a b)) (two _ _ _ _ ha hb);
    fn3 = λ g a b d ha hb hd. by_word (CExpr-F.Fn3 g a b d) (CExpr-F.Fn3 g (placed_word p a) (placed_word p b) (placed_word p d)) (placed_word_layer p (CExpr-F.Fn3 g a b d)) (two _ _ _ _ ha (two _ _ _ _ hb hd));
    pick = λ t a b ht ha hb. by_word (CExpr-F.Pick t a b) (CExpr-F.Pick (placed_cond p t) (placed_word p a) (placed_word p b)) (placed_word_layer p (CExpr-F.Pick t a b)) (two _ _ _ _ ht (two _ _ _ _ ha hb));
    cmp = λ op a b ha hb. by_cond (CCond-F.Cmp op a b) (CCond-F.Cmp op (placed_word p a) (placed_word p b)) (placed_cond_layer p (CCond-F.Cmp op a b)) (two _ _ _ _ ha hb);
    not_cond = λ t ht. by_cond (CCond-F.«CCond::Not» t) (CCond-F.«CCond::Not» (placed_cond p t)) (placed_cond_layer p (CCond-F.«CCond::Not» t)) ht;
    both = λ t r ht hr. by_cond (CCond-F.And t r) (CCond-F.And (placed_cond p t) (placed_cond p r)) (placed_cond_layer p (CCond-F.And t r)) (two _ _ _ _ ht hr);
    either = λ t r ht hr. by_cond (CCond-F.Or t r) (CCond-F.Or (placed_cond p t) (placed_cond p r)) (placed_cond_layer p (CCond-F.Or t r)) (two _ _ _ _ ht hr);
  }

  pub word_named : (a : CExpr) → NamesWord a
  word_named a = every_word name_cases a

  pub cond_named : (t : CCond) → NamesCond t
  cond_named t = every_cond name_cases t

-- ---- and back

-- the name for which the word stands, and every other one
unstands_names : (d : Delayed) (n : Name) (b : Bool) → same_name d.name n ≡ b → IsTrue (is_flow_target d.name) → IsTrue (has_flow_names (cond b d.word (roll-CExpr (CExpr-F.Name n)))) → IsTrue (has_flow_names (roll-CExpr (CExpr-F.Name n)))
unstands_names d n true e t h = subst IsTrue (sym (names_layer (CExpr-F.Name n))) (subst (λ m. IsTrue (is_flow_name m)) (same_true d.name n e) (both_true (is_flow_name d.name) _ t).0)
unstands_names d n false e t h = h

module _ (d : Delayed) (target : IsTrue (is_flow_target d.name)) where
  abbrev UnnamesWord : CExpr → Type 0
  UnnamesWord a = IsTrue (has_flow_names (placed_word (d ∷ []) a)) → IsTrue (has_flow_names a)

  abbrev UnnamesCond : CCond → Type 0
  UnnamesCond t = IsTrue (cond_has_flow_names (placed_cond (d ∷ []) t)) → IsTrue (cond_has_flow_names t)

  un_word : (y z : CExpr-F CCond CExpr) → placed_word (d ∷ []) (roll-CExpr y) ≡ roll-CExpr z
      → (IsTrue (word_names (e.map-CExpr CCond CExpr Bool Bool cond_has_flow_names has_flow_names z)) → IsTrue (word_names (e.map-CExpr CCond CExpr Bool Bool cond_has_flow_names has_flow_names y))) → UnnamesWord (roll-CExpr y)
  un_word y z r g h = subst IsTrue (sym (names_layer y)) (g (subst IsTrue (names_layer z) (subst (λ q. IsTrue (has_flow_names q)) r h)))

  un_cond : (y z : CCond-F CCond CExpr) → placed_cond (d ∷ []) (roll-CCond y) ≡ roll-CCond z
      → (IsTrue (cond_names (c.map-CCond CCond CExpr Bool Bool cond_has_flow_names has_flow_names z)) → IsTrue (cond_names (c.map-CCond CCond CExpr Bool Bool cond_has_flow_names has_flow_names y))) → UnnamesCond (roll-CCond y)
  un_cond y z r g h = subst IsTrue (sym (cond_names_layer y)) (g (subst IsTrue (cond_names_layer z) (subst (λ q. IsTrue (cond_has_flow_names q)) r h)))

  un_two : (a b c d : Bool) → (IsTrue a → IsTrue c) → (IsTrue b → IsTrue d) → IsTrue (a && b) → IsTrue (c && d)
  un_two a b c d f g h = let k = both_true a b h in and_true c d (f k.0) (g k.1)

  unname_cases : WordCases UnnamesWord UnnamesCond
  unname_cases = record {
    num = λ n. un_word (CExpr-F.Num n) (CExpr-F.Num n) (placed_word_layer (d ∷ []) (CExpr-F.Num n)) (λ h. h);
    name = λ n h. unstands_names d n (same_name d.name n) refl target (subst (λ q. IsTrue (has_flow_names q)) (placed_word_layer (d ∷ []) (CExpr-F.Name n)) h);
    not_word = λ a ha. un_word (CExpr-F.«CExpr::Not» a) (CExpr-F.«CExpr::Not» (placed_word (d ∷ []) a)) (placed_word_layer (d ∷ []) (CExpr-F.«CExpr::Not» a)) ha;
    bin = λ op a b ha hb. un_word (CExpr-F.Bin op a b) (CExpr-F.Bin op (placed_word (d ∷ []) a) (placed_word (d ∷ []) b)) (placed_word_layer (d ∷ []) (CExpr-F.Bin op a b)) (un_two _ _ _ _ ha hb);
    fn1 = λ g a ha. un_word (CExpr-F.Fn1 g a) (CExpr-F.Fn1 g (placed_word (d ∷ []) a)) (placed_word_layer (d ∷ []) (CExpr-F.Fn1 g a)) ha;
    fn2 = λ g a b ha hb. un_word (CExpr-F.Fn2 g a b) (CExpr-F.Fn2 g (placed_word (d ∷ []) a) (placed_word (d ∷ []) b)) (placed_word_layer (d ∷ []) (CExpr-F.Fn2 g a b)) (un_two _ _ _ _ ha hb);
    fn3 = λ g a b x ha hb hx. un_word (CExpr-F.Fn3 g a b x) (CExpr-F.Fn3 g (placed_word (d ∷ []) a) (placed_word (d ∷ []) b) (placed_word (d ∷ []) x)) (placed_word_layer (d ∷ []) (CExpr-F.Fn3 g a b x)) (un_two _ _ _ _ ha (un_two _ _ _ _ hb hx));
    pick = λ t a b ht ha hb. un_word (CExpr-F.Pick t a b) (CExpr-F.Pick (placed_cond (d ∷ []) t) (placed_word (d ∷ []) a) (placed_word (d ∷ []) b)) (placed_word_layer (d ∷ []) (CExpr-F.Pick t a b)) (un_two _ _ _ _ ht (un_two _ _ _ _ ha hb));
    cmp = λ op a b ha hb. un_cond (CCond-F.Cmp op a b) (CCond-F.Cmp op (placed_word (d ∷ []) a) (placed_word (d ∷ []) b)) (placed_cond_layer (d ∷ []) (CCond-F.Cmp op a b)) (un_two _ _ _ _ ha hb);
    not_cond = λ t ht. un_cond (CCond-F.«CCond::Not» t) (CCond-F.«CCond::Not» (placed_cond (d ∷ []) t)) (placed_cond_layer (d ∷ []) (CCond-F.«CCond::Not» t)) ht;
    both = λ t r ht hr. un_cond (CCond-F.And t r) (CCond-F.And (placed_cond (d ∷ []) t) (placed_cond (d ∷ []) r)) (placed_cond_layer (d ∷ []) (CCond-F.And t r)) (un_two _ _ _ _ ht hr);
    either = λ t r ht hr. un_cond (CCond-F.Or t r) (CCond-F.Or (placed_cond (d ∷ []) t) (placed_cond (d ∷ []) r)) (placed_cond_layer (d ∷ []) (CCond-F.Or t r)) (un_two _ _ _ _ ht hr);
  }

  pub word_unplaced : (a : CExpr) → UnnamesWord a
  word_unplaced a = every_word unname_cases a
