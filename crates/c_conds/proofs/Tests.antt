-- A condition in the place of the local that holds its outcome: in a Cond, and in a test after statements.
use Rattle.std.proofs.Common.{◌≡◌, ◌-◌, ℕ, suc, length, nat_eq, Bool, true, false, not, if◌then◌else◌, List, [], ◌∷◌, ◌++◌, Option, Some, None, refl, sym, ap, ◌∙◌, subst, rules, arith, le-leb}
use Rattle.std.specs.Prelude.{Result, IfOk, IfSome, slice_get}
use Rattle.dream_words.specs.declared.machine.Name.{Name}
use Rattle.dream_words.specs.declared.machine.Name.TheVariants as name
use Rattle.dream_words.specs.Words.{bit_of}
use Rattle.dream_words.specs.declared.outcome.Outcome.{Outcome}
use Rattle.run_parts.specs.Parts.{Past, Broke, Over, Stuck, Run, Ends, Goes, on, after}
use Rattle.run_parts.specs.Steps.{having, done}
use Rattle.run_parts.specs.World.{Names, World, with_name}
use Rattle.run_parts.specs.Effects.{set_word, setting}
use Rattle.c_syntax.specs.declared.syntax.CCmp.{CCmp}
use Rattle.c_syntax.specs.declared.syntax.CCmp.TheVariants.{Eq, Ne}
use Rattle.c_syntax.specs.declared.syntax.CExpr as e
use Rattle.c_syntax.specs.declared.syntax.CExpr.{CExpr, CExpr-F, roll-CExpr}
use Rattle.c_syntax.specs.declared.syntax.CCond.{CCond, CCond-F}
use Rattle.c_syntax.specs.declared.syntax.CStmt.{CStmt, CStmt-F, roll-CStmt}
use Rattle.c_syntax.specs.Words.{cmp_of}
use Rattle.c_syntax.specs.Value.{each, both, picked, Word, Truth, word_at, word_of, truth_of}
use Rattle.c_syntax.specs.Formed.{is_target, names_cond}
use Rattle.c_syntax.specs.Run.{word_in, holds, run_all}
use Rattle.c_syntax.proofs.Layers.{word_of_layer, names_cond_layer, names_word_layer, run_layer, stmt_allowed_layer}
use Rattle.c_words.specs.Built as built
use Rattle.c_conds.specs.Free.{free_cond}
use Rattle.c_conds.specs.Placed.{IsOpposite, IsPlaced, IsSmall, SetHolds, HoldsAfter}
use Rattle.c_locals.proofs.Bools.{and_first, and_second, and_both, ap2}
use Rattle.c_conds.proofs.Freeing.{free_same}
use Rattle.c_conds.proofs.Opposites.{truth_step, if_ok}
use Rattle.c_emit.proofs.StmtRuns.{run_append, run_one}
use Rattle.c_conds.proofs.Lists.{all_second}

word_step : (y : CExpr-F CCond CExpr) (v : Names) → word_of (roll-CExpr y) v ≡ word_at (e.map-CExpr CCond CExpr Truth Word truth_of word_of y) v
word_step y v = ap (λ g. g v) (word_of_layer y)

-- ---- in a Cond

pub placed_same : (k : ℕ) (c t : CCond) → IsPlaced k c t t
placed_same k c t = record { truth = λ v x h e. refl; names = λ f h e. e }

abbrev tested : ℕ → CExpr
tested k = built.name (name.B k)

bit_is : (x : Bool) → Some x ≡ Some (cmp_of Ne (bit_of x) 0)
bit_is true = refl
bit_is false = refl

bit_isnt : (x : Bool) → each not (Some x) ≡ Some (cmp_of Eq (bit_of x) 0)
bit_isnt true = refl
bit_isnt false = refl

-- what a comparison of the local with 0 gives
local_cmp : (k : ℕ) (v : Names) (x : Bool) → v (name.B k) ≡ bit_of x
    → both (λ p q. Some (cmp_of Ne p q)) (word_of (tested k) v) (word_of (built.num 0) v) ≡ Some (cmp_of Ne (bit_of x) 0)
local_cmp k v x h = ap2 (both (λ p q. Some (cmp_of Ne p q))) _ _ _ _ (word_step (CExpr-F.Name (name.B k)) v ∙ ap (λ n. Some n) h) (word_step (CExpr-F.Num 0) v)

local_cmp_eq : (k : ℕ) (v : Names) (x : Bool) → v (name.B k) ≡ bit_of x
    → both (λ p q. Some (cmp_of Eq p q)) (word_of (tested k) v) (word_of (built.num 0) v) ≡ Some (cmp_of Eq (bit_of x) 0)
local_cmp_eq k v x h = ap2 (both (λ p q. Some (cmp_of Eq p q))) _ _ _ _ (word_step (CExpr-F.Name (name.B k)) v ∙ ap (λ n. Some n) h) (word_step (CExpr-F.Num 0) v)

pub placed_ne : (k : ℕ) (c : CCond) → IsPlaced k c (built.cmp Ne (tested k) (built.num 0)) c
placed_ne k c = record {
  truth = λ v x h e. h ∙ bit_is x ∙ sym (truth_step (CCond-F.Cmp Ne (tested k) (built.num 0)) v ∙ local_cmp k v x e);
  names = λ f h e. h;
}

pub placed_eq : (k : ℕ) (c u : CCond) → IsOpposite c u → IsPlaced k c (built.cmp Eq (tested k) (built.num 0)) u
placed_eq k c u o = record {
  truth = λ v x h e. o.truth v ∙ ap (each not) h ∙ bit_isnt x ∙ sym (truth_step (CCond-F.Cmp Eq (tested k) (built.num 0)) v ∙ local_cmp_eq k v x e);
  names = λ f h e. o.names f h;
}

pub placed_not : (k : ℕ) (c t u r : CCond) → IsPlaced k c t u → IsOpposite u r → IsPlaced k c (built.cond_not t) r
placed_not k c t u r p o = record {
  truth = λ v x h e. o.truth v ∙ ap (each not) (p.truth v x h e) ∙ sym (truth_step (CCond-F.«CCond::Not» t) v);
  names = λ f h e. o.names f (p.names f h (sym (names_cond_layer f (CCond-F.«CCond::Not» t)) ∙ e));
}

pub placed_and : (k : ℕ) (c t u t' u' : CCond) → IsPlaced k c t t' → IsPlaced k c u u' → IsPlaced k c (built.and t u) (built.and t' u')
placed_and k c t u t' u' p q = record {
  truth = λ v x h e. truth_step (CCond-F.And t' u') v ∙ ap2 (λ a b. picked a b (Some false)) _ _ _ _ (p.truth v x h e) (q.truth v x h e) ∙ sym (truth_step (CCond-F.And t u) v);
  names = λ f h e. let i = sym (names_cond_layer f (CCond-F.And t u)) ∙ e in
      names_cond_layer f (CCond-F.And t' u') ∙ and_both _ _ (p.names f h (and_first _ _ i)) (q.names f h (and_second (names_cond f t) _ i));
}

pub placed_or : (k : ℕ) (c t u t' u' : CCond) → IsPlaced k c t t' → IsPlaced k c u u' → IsPlaced k c (built.or t u) (built.or t' u')
placed_or k c t u t' u' p q = record {
  truth = λ v x h e. truth_step (CCond-F.Or t' u') v ∙ ap2 (λ a b. picked a (Some true) b) _ _ _ _ (p.truth v x h e) (q.truth v x h e) ∙ sym (truth_step (CCond-F.Or t u) v);
  names = λ f h e. let i = sym (names_cond_layer f (CCond-F.Or t u)) ∙ e in
      names_cond_layer f (CCond-F.Or t' u') ∙ and_both _ _ (p.names f h (and_first _ _ i)) (q.names f h (and_second (names_cond f t) _ i));
}

-- ---- after the local is set

abbrev set_to : CCond → CExpr
set_to c = built.pick c (built.num 1) (built.num 0)

value_or : ℕ → Option ℕ → ℕ
value_or d None = d
value_or d (Some x) = x

no_some : {A : Type 0} (x : A) → None ≡ Some x → ⊥
no_some x h = cc

at_self : (k x y : ℕ) → (if nat_eq k k then x else y) ≡ x
at_self k x y = search (rules, arith)

-- the condition has an outcome, and the word is it
outcome_is : (o : Option Bool) (x : ℕ) → picked o (Some 1) (Some 0) ≡ Some x → (b : Bool) × (o ≡ Some b) × (x ≡ bit_of b)
unfolding value_or
outcome_is None x h = absurd (no_some x h)
outcome_is (Some true) x h = (true, refl, sym (ap (value_or 0) h))
outcome_is (Some false) x h = (false, refl, sym (ap (value_or 0) h))

pub set_holds : (k : ℕ) (c t u : CCond) → free_cond k c ≡ true → IsSmall k c t u → SetHolds k (set_to c) t u
set_holds k c t u h s = record {
  truth = λ v x e.
      let z : picked (truth_of c v) (Some 1) (Some 0) ≡ Some x =
      sym (word_step (CExpr-F.Pick c (built.num 1) (built.num 0)) v ∙ ap2 (picked (truth_of c v)) _ _ _ _ (word_step (CExpr-F.Num 1) v) (word_step (CExpr-F.Num 0) v)) ∙ e in
      let o = outcome_is (truth_of c v) x z in
      s.placed.truth (with_name v (name.B k) x) o.0 (free_same k c h v x ∙ o.1) (at_self k x (v (name.B k)) ∙ o.2);
  allowed = λ f i j. and_both _ _
      (s.placed.names f (and_first _ _ (sym (names_word_layer f (CExpr-F.Pick c (built.num 1) (built.num 0))) ∙ and_first _ _ i)) (and_first _ _ j))
      (le-leb _ _ s.deep);
}

-- ---- after statements

world_or : World → Run World Outcome → World
world_or d (Ends (Past w) n) = w
world_or d (Ends (Broke w) n) = d
world_or d (Ends (Over o) n) = d
world_or d (Ends Stuck n) = d
world_or d (Goes w) = d

is_past : Run World Outcome → Bool
is_past (Ends (Past w) n) = true
is_past (Ends (Broke w) n) = false
is_past (Ends (Over o) n) = false
is_past (Ends Stuck n) = false
is_past (Goes w) = false

not_past : (r : Run World Outcome) (w : World) (n : ℕ) → is_past r ≡ false → r ≡ Ends (Past w) n → ⊥
unfolding is_past
not_past r w n h e = let z : is_past r ≡ true = ap is_past e in cc

-- where a Set came to its end, its word has a value
set_past : (k : ℕ) (o : Option ℕ) (w w' : World) (n j : ℕ) → done (having o (λ x. setting (name.B k) x w)) n ≡ Ends (Past w') j → (x : ℕ) × (o ≡ Some x) × (w' ≡ set_word (name.B k) x w)
unfolding is_past world_or
set_past k None w w' n j h = absurd (not_past (Ends Stuck n) w' j refl h)
set_past k (Some x) w w' n j h = (x, refl, sym (ap (world_or w) h))

pub set_after : (k : ℕ) (a : CExpr) (t u : CCond) → SetHolds k a t u → HoldsAfter (roll-CStmt (CStmt-F.Set (name.B k) a) ∷ []) t u
set_after k a t u s = let y : CStmt = roll-CStmt (CStmt-F.Set (name.B k) a) in record {
  truth = λ n j w w' h.
      let p = set_past k (word_in a w) w w' n j (sym (ap (λ g. g n w) (run_one y ∙ run_layer (CStmt-F.Set (name.B k) a))) ∙ h) in
      subst (λ (z : World). holds u z ≡ holds t z) (sym p.2) (s.truth w.names p.0 p.1);
  allowed = λ f b i j. s.allowed f (and_second (is_target f (name.B k)) _ (sym (ap (λ (g : Bool → Bool). g b) (stmt_allowed_layer f (CStmt-F.Set (name.B k) a))) ∙ and_first _ _ i)) j;
}

-- after a run that came to its end by its last part
past_from : (r : Run World Outcome) (last : List CStmt) (w' : World) (j : ℕ) → on r (after (run_all last)) ≡ Ends (Past w') j
    → (n : ℕ) × (w : World) × (run_all last n w ≡ Ends (Past w') j)
unfolding is_past
past_from (Ends (Past w) n) last w' j h = (n, w, h)
past_from (Ends (Broke w) n) last w' j h = absurd (not_past (Ends (Broke w) n) w' j refl h)
past_from (Ends (Over o) n) last w' j h = absurd (not_past (Ends (Over o) n) w' j refl h)
past_from (Ends Stuck n) last w' j h = absurd (not_past (Ends Stuck n) w' j refl h)
past_from (Goes w) last w' j h = absurd (not_past (Goes w) w' j refl h)

pub last_after : (before last : List CStmt) (t u : CCond) → HoldsAfter last t u → HoldsAfter (before ++ last) t u
last_after before last t u s = record {
  truth = λ n j w w' h.
      let p = past_from (run_all before n w) last w' j (sym (ap (λ g. g n w) (run_append before last)) ∙ h) in
      s.truth p.0 j p.1 w' p.2;
  allowed = λ f b i. s.allowed f b (all_second f before last b i);
}

pub same_after : (before : List CStmt) (t : CCond) → HoldsAfter before t t
same_after before t = record { truth = λ n j w w' h. refl; allowed = λ f b i j. j }

-- ---- results

same_if : {E : Type 0} (k : ℕ) (c t : CCond) (r : Result CCond E) → IfOk r (λ u. u ≡ t) → IfOk r (λ u. IsPlaced k c t u)
same_if k c t r = if_ok (λ u. u ≡ t) (λ u. IsPlaced k c t u) r (λ u h. subst (λ q. IsPlaced k c t q) (sym h) (placed_same k c t))

pub copied_if : {E : Type 0} (k : ℕ) (c : CCond) (op : CCmp) (a b : CExpr) (r : Result CCond E) → IfOk r (λ u. u ≡ built.cmp op a b) → IfOk r (λ u. IsPlaced k c (built.cmp op a b) u)
copied_if k c op a b r h = same_if k c (built.cmp op a b) r h

tests_as : (k : ℕ) (c u : CCond) (op oq : CCmp) (a b : CExpr) → op ≡ oq → a ≡ tested k → b ≡ built.num 0 → IsPlaced k c (built.cmp oq (tested k) (built.num 0)) u → IsPlaced k c (built.cmp op a b) u
tests_as k c u op oq a b eo ea eb h =
    subst (λ o. IsPlaced k c (built.cmp o a b) u) (sym eo) (subst (λ x. IsPlaced k c (built.cmp oq x b) u) (sym ea) (subst (λ x. IsPlaced k c (built.cmp oq (tested k) x) u) (sym eb) h))

pub ne_if : {E : Type 0} (k : ℕ) (c : CCond) (op : CCmp) (a b : CExpr) (r : Result CCond E) → op ≡ Ne → a ≡ tested k → b ≡ built.num 0 → IfOk r (λ u. u ≡ c) → IfOk r (λ u. IsPlaced k c (built.cmp op a b) u)
ne_if k c op a b r eo ea eb = if_ok (λ u. u ≡ c) (λ u. IsPlaced k c (built.cmp op a b) u) r
    (λ u h. tests_as k c u op Ne a b eo ea eb (subst (λ q. IsPlaced k c (built.cmp Ne (tested k) (built.num 0)) q) (sym h) (placed_ne k c)))

pub eq_if : {E : Type 0} (k : ℕ) (c d : CCond) (op : CCmp) (a b : CExpr) (r : Result CCond E) → op ≡ Eq → a ≡ tested k → b ≡ built.num 0 → d ≡ c → IfOk r (λ u. IsOpposite d u) → IfOk r (λ u. IsPlaced k c (built.cmp op a b) u)
eq_if k c d op a b r eo ea eb ed = if_ok (λ u. IsOpposite d u) (λ u. IsPlaced k c (built.cmp op a b) u) r
    (λ u h. tests_as k c u op Eq a b eo ea eb (placed_eq k c u (subst (λ q. IsOpposite q u) ed h)))

pub not_if : {E : Type 0} (k : ℕ) (c t s u : CCond) (r : Result CCond E) → t ≡ built.cond_not s → IsPlaced k c s u → IfOk r (λ v. IsOpposite u v) → IfOk r (λ v. IsPlaced k c t v)
not_if k c t s u r e p = if_ok (λ v. IsOpposite u v) (λ v. IsPlaced k c t v) r (λ v h. subst (λ q. IsPlaced k c q v) (sym e) (placed_not k c s u v p h))

pub and_if : {E : Type 0} (k : ℕ) (c t p q p' q' : CCond) (r : Result CCond E) → t ≡ built.and p q → IsPlaced k c p p' → IsPlaced k c q q' → IfOk r (λ v. v ≡ built.and p' q') → IfOk r (λ v. IsPlaced k c t v)
and_if k c t p q p' q' r e hp hq = if_ok (λ v. v ≡ built.and p' q') (λ v. IsPlaced k c t v) r
    (λ v h. subst (λ x. IsPlaced k c t x) (sym h) (subst (λ x. IsPlaced k c x (built.and p' q')) (sym e) (placed_and k c p q p' q' hp hq)))

pub or_if : {E : Type 0} (k : ℕ) (c t p q p' q' : CCond) (r : Result CCond E) → t ≡ built.or p q → IsPlaced k c p p' → IsPlaced k c q q' → IfOk r (λ v. v ≡ built.or p' q') → IfOk r (λ v. IsPlaced k c t v)
or_if k c t p q p' q' r e hp hq = if_ok (λ v. v ≡ built.or p' q') (λ v. IsPlaced k c t v) r
    (λ v h. subst (λ x. IsPlaced k c t x) (sym h) (subst (λ x. IsPlaced k c x (built.or p' q')) (sym e) (placed_or k c p q p' q' hp hq)))

pub as_placed : {E : Type 0} (k : ℕ) (c t s : CCond) (r : Result CCond E) → t ≡ s → IfOk r (λ v. IsPlaced k c s v) → IfOk r (λ v. IsPlaced k c t v)
as_placed k c t s r e = if_ok (λ v. IsPlaced k c s v) (λ v. IsPlaced k c t v) r (λ v h. subst (λ q. IsPlaced k c q v) (sym e) h)

-- what is known of an answer that may be missing
if_some : {A E : Type 0} (P Q : A → Type 0) (r : Result (Option A) E) → ((x : A) → P x → Q x) → IfOk r (λ o. IfSome o P) → IfOk r (λ o. IfSome o Q)
if_some P Q r h = if_ok (λ o. IfSome o P) (λ o. IfSome o Q) r by
  where
    by : (o : Option _) → IfSome o P → IfSome o Q
    by None k = k
    by (Some x) k = h x k

pub set_if : {E : Type 0} (k : ℕ) (e : CExpr) (c : CCond) (a b : CExpr) (t : CCond) (r : Result (Option CCond) E) → e ≡ built.pick c a b → a ≡ built.num 1 → b ≡ built.num 0 → free_cond k c ≡ true
    → IfOk r (λ o. IfSome o (λ u. IsSmall k c t u)) → IfOk r (λ o. IfSome o (λ u. SetHolds k e t u))
set_if k e c a b t r ee ea eb h = if_some (λ u. IsSmall k c t u) (λ u. SetHolds k e t u) r
    (λ u s. subst (λ x. SetHolds k x t u) (sym (ee ∙ ap2 (λ x y. built.pick c x y) _ _ _ _ ea eb)) (set_holds k c t u h s))

pub after_if : {E : Type 0} (s : CStmt) (n : Name) (k : ℕ) (a : CExpr) (t : CCond) (r : Result (Option CCond) E) → s ≡ roll-CStmt (CStmt-F.Set n a) → n ≡ name.B k
    → IfOk r (λ o. IfSome o (λ u. SetHolds k a t u)) → IfOk r (λ o. IfSome o (λ u. HoldsAfter (s ∷ []) t u))
after_if s n k a t r es en = if_some (λ u. SetHolds k a t u) (λ u. HoldsAfter (s ∷ []) t u) r
    (λ u h. subst (λ x. HoldsAfter (x ∷ []) t u) (sym (es ∙ ap (λ m. roll-CStmt (CStmt-F.Set m a)) en)) (set_after k a t u h))

pub same_after_if : {E : Type 0} (before : List CStmt) (t : CCond) (r : Result CCond E) → IfOk r (λ u. u ≡ t) → IfOk r (λ u. HoldsAfter before t u)
same_after_if before t r = if_ok (λ u. u ≡ t) (λ u. HoldsAfter before t u) r (λ u h. subst (HoldsAfter before t) (sym h) (same_after before t))

-- a list by its last member
last_split : (xs : List CStmt) (p : CStmt) → slice_get xs (length xs - 1) ≡ Some p → (before : List CStmt) × (xs ≡ before ++ p ∷ [])
last_split [] p h = absurd (no_some p h)
last_split (x ∷ []) p h = ([], ap (λ (o : Option CStmt). or_else x o ∷ []) h) where
  or_else : CStmt → Option CStmt → CStmt
  or_else d None = d
  or_else d (Some y) = y
last_split (x ∷ y ∷ ys) p h =
    let e : length (x ∷ y ∷ ys) - 1 ≡ suc (length (y ∷ ys) - 1) = omega arith in
    let i = last_split (y ∷ ys) p (subst (λ (n : ℕ). slice_get (x ∷ y ∷ ys) n ≡ Some p) e h) in
    (x ∷ i.0, ap (λ (zs : List CStmt). x ∷ zs) i.1)

pub after_last : (xs : List CStmt) (p : CStmt) (t u : CCond) → slice_get xs (length xs - 1) ≡ Some p → HoldsAfter (p ∷ []) t u → HoldsAfter xs t u
after_last xs p t u h s = let i = last_split xs p h in subst (λ (zs : List CStmt). HoldsAfter zs t u) (sym i.1) (last_after i.0 (p ∷ []) t u s)
