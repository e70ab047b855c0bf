-- Lists of delayed sets that lose some or gain one.
use Rattle.std.proofs.Common.{◌≡◌, ℕ, zero, suc, ◌+◌, ◌<◌, ◌≤◌, nat_le, length, take, get_or, arith, Bool, true, false, cond, not, ◌&&◌, ◌||◌, ◌⊎◌, inl, inr, List, [], ◌∷◌, ◌++◌, Some, refl, sym, ap, ◌∙◌, subst}
use Rattle.std.specs.Prelude.{IsTrue, slice_get, remove, filter}
use Rattle.dream_words.specs.declared.machine.Name.{Name}
use Rattle.run_parts.specs.World.{Names, with_name}
use Rattle.c_syntax.specs.declared.syntax.CExpr.{CExpr}
use Rattle.c_syntax.specs.Value.{word_of}
use Rattle.std.proofs.lemmas.List.{take_more}
use Rattle.std.proofs.Math.Seq.{take-length}
use Rattle.c_syntax.specs.Depth.{word_depth}
use Rattle.micro_ir.specs.Rule.{is_flow_target, is_flow_word, has_flow_names}
use Rattle.micro_ir.proofs.Values.{both_true}
use Rattle.flow_passes.specs.Uses.{same_name, is_flag, word_reads}
use Rattle.flow_passes.proofs.Reading.{same_value}
use Rattle.expr_fold.specs.declared.delayed.Delayed.{Delayed}
use Rattle.expr_fold.specs.Delayed.{is_delayed, none_reads, are_flags, are_flow_delayed, AreHeld}
use Rattle.expr_fold.specs.Said.{IsSaid, AreSaid}
use Rattle.flow_passes.proofs.Names.{same_self}
use Rattle.expr_fold.proofs.Named.{same_true, true_or_false, or_false, first_false, second_false, and_true, not_true, not_both, set_here, set_there}
use Rattle.expr_fold.proofs.Placing.{word_placed, word_unplaced}

-- ---- one more

pub held_append : (p : List Delayed) (d : Delayed) (v u : Names) → AreHeld p v u → word_of d.word u ≡ Some (v d.name) → AreHeld (p ++ d ∷ []) v u
held_append [] d v u h e = (e, tt)
held_append (x ∷ xs) d v u h e = (h.0, held_append xs d v u h.1 e)

pub rule_append : (p : List Delayed) (d : Delayed) → IsTrue (are_flow_delayed p) → IsTrue (is_flow_target d.name && is_flow_word d.word) → IsTrue (are_flow_delayed (p ++ d ∷ []))
rule_append [] d h e = and_true (is_flow_target d.name && is_flow_word d.word) true e refl
rule_append (x ∷ xs) d h e =
    let k = both_true (is_flow_target x.name && is_flow_word x.word) (are_flow_delayed xs) h in
    and_true (is_flow_target x.name && is_flow_word x.word) (are_flow_delayed (xs ++ d ∷ [])) k.0 (rule_append xs d k.1 e)

pub delayed_append : (p : List Delayed) (d : Delayed) (n : Name) → is_delayed (p ++ d ∷ []) n ≡ false → (is_delayed p n ≡ false) × (same_name d.name n ≡ false)
delayed_append [] d n e = (refl, first_false (same_name d.name n) false e)
delayed_append (x ∷ xs) d n e =
    let k = delayed_append xs d n (second_false (same_name x.name n) (is_delayed (xs ++ d ∷ []) n) e) in
    (or_false (same_name x.name n) (is_delayed xs n) (first_false (same_name x.name n) (is_delayed (xs ++ d ∷ []) n) e) k.0, k.1)

-- ---- those that pass a test

filter_step : (b : Bool) (d : Delayed) (r : List Delayed) (v u : Names) → (b ≡ true → word_of d.word u ≡ Some (v d.name)) → AreHeld r v u → AreHeld (cond b (d ∷ r) r) v u
filter_step true d r v u f h = (f refl, h)
filter_step false d r v u f h = h

pub filter_held : (test : Delayed → Bool) (p : List Delayed) (v u v' u' : Names) → ((d : Delayed) → test d ≡ true → word_of d.word u ≡ Some (v d.name) → word_of d.word u' ≡ Some (v' d.name))
    → AreHeld p v u → AreHeld (filter test p) v' u'
filter_held test [] v u v' u' f h = tt
filter_held test (d ∷ ds) v u v' u' f h = filter_step (test d) d (filter test ds) v' u' (λ e. f d e h.0) (filter_held test ds v u v' u' f h.1)

rule_step : (b : Bool) (d : Delayed) (r : List Delayed) → IsTrue (is_flow_target d.name && is_flow_word d.word) → IsTrue (are_flow_delayed r) → IsTrue (are_flow_delayed (cond b (d ∷ r) r))
rule_step true d r f h = and_true (is_flow_target d.name && is_flow_word d.word) (are_flow_delayed r) f h
rule_step false d r f h = h

pub filter_rule : (test : Delayed → Bool) (p : List Delayed) → IsTrue (are_flow_delayed p) → IsTrue (are_flow_delayed (filter test p))
filter_rule test [] h = h
filter_rule test (d ∷ ds) h =
    let k = both_true (is_flow_target d.name && is_flow_word d.word) (are_flow_delayed ds) h in
    rule_step (test d) d (filter test ds) k.0 (filter_rule test ds k.1)

delayed_step : (b : Bool) (d : Delayed) (r s : List Delayed) (n : Name) → (b ≡ false → same_name d.name n ≡ false) → (is_delayed r n ≡ false → is_delayed s n ≡ false)
    → is_delayed (cond b (d ∷ r) r) n ≡ false → (same_name d.name n || is_delayed s n) ≡ false
delayed_step true d r s n f g e = or_false (same_name d.name n) (is_delayed s n) (first_false (same_name d.name n) (is_delayed r n) e) (g (second_false (same_name d.name n) (is_delayed r n) e))
delayed_step false d r s n f g e = or_false (same_name d.name n) (is_delayed s n) (f refl) (g e)

pub filter_delayed : (test : Delayed → Bool) (p : List Delayed) (n : Name) → ((d : Delayed) → test d ≡ false → same_name d.name n ≡ false) → is_delayed (filter test p) n ≡ false → is_delayed p n ≡ false
filter_delayed test [] n f e = refl
filter_delayed test (d ∷ ds) n f e = delayed_step (test d) d (filter test ds) ds n (f d) (filter_delayed test ds n f) e

-- ---- one less

pub pick_held : (p : List Delayed) (i : ℕ) (d : Delayed) (v u : Names) → slice_get p i ≡ Some d → AreHeld p v u → (word_of d.word u ≡ Some (v d.name)) × AreHeld (remove p i) v u
pick_held [] i d v u e h = absurd (let z : ⊥ = cc in z)
pick_held (x ∷ xs) zero d v u e h = let same : x ≡ d = cc in (subst (λ y. word_of y.word u ≡ Some (v y.name)) same h.0, h.1)
pick_held (x ∷ xs) (suc i) d v u e h = let k = pick_held xs i d v u e h.1 in (k.0, (h.0, k.1))

pub pick_rule : (p : List Delayed) (i : ℕ) (d : Delayed) → slice_get p i ≡ Some d → IsTrue (are_flow_delayed p) → IsTrue (is_flow_target d.name && is_flow_word d.word) × IsTrue (are_flow_delayed (remove p i))
pick_rule [] i d e h = absurd (let z : ⊥ = cc in z)
pick_rule (x ∷ xs) zero d e h =
    let same : x ≡ d = cc in
    let k = both_true (is_flow_target x.name && is_flow_word x.word) (are_flow_delayed xs) h in
    (subst (λ y. IsTrue (is_flow_target y.name && is_flow_word y.word)) same k.0, k.1)
pick_rule (x ∷ xs) (suc i) d e h =
    let k = both_true (is_flow_target x.name && is_flow_word x.word) (are_flow_delayed xs) h in
    let j = pick_rule xs i d e k.1 in
    (j.0, and_true (is_flow_target x.name && is_flow_word x.word) (are_flow_delayed (remove xs i)) k.0 j.1)

pub pick_delayed : (p : List Delayed) (i : ℕ) (d : Delayed) (n : Name) → slice_get p i ≡ Some d → same_name d.name n ≡ false → is_delayed (remove p i) n ≡ false → is_delayed p n ≡ false
pick_delayed [] i d n e f g = refl
pick_delayed (x ∷ xs) zero d n e f g = let same : x ≡ d = cc in or_false (same_name x.name n) (is_delayed xs n) (ap (λ y. same_name y.name n) same ∙ f) g
pick_delayed (x ∷ xs) (suc i) d n e f g =
    or_false (same_name x.name n) (is_delayed xs n) (first_false (same_name x.name n) (is_delayed (remove xs i) n) g)
    (pick_delayed xs i d n e f (second_false (same_name x.name n) (is_delayed (remove xs i) n) g))

-- ---- names that no delayed word reads

-- a name that is read isn't one that isn't
read_apart : (a : CExpr) (m k : Name) → word_reads a m ≡ false → IsTrue (word_reads a k) → (same_name m k ≡ true) ⊎ (same_name m k ≡ false) → same_name m k ≡ false
read_apart a m k f t (inl e) = absurd (not_both (word_reads a k) t (ap (word_reads a) (sym (same_true m k e)) ∙ f))
read_apart a m k f t (inr e) = e

-- a word keeps its value where a name is set that it doesn't read
pub value_unread : (a : CExpr) (u : Names) (m : Name) (x : ℕ) → word_reads a m ≡ false → word_of a (with_name u m x) ≡ word_of a u
value_unread a u m x f = same_value a u (with_name u m x) (λ k t. set_there u m x k (read_apart a m k f t (true_or_false (same_name m k))))

pub unread_held : (p : List Delayed) (m : Name) (v u : Names) (x : ℕ) → IsTrue (none_reads p m) → AreHeld p v u → AreHeld p v (with_name u m x)
unread_held [] m v u x n h = tt
unread_held (d ∷ ds) m v u x n h =
    let k = both_true (not (word_reads d.word m)) (none_reads ds m) n in
    (value_unread d.word u m x (not_true (word_reads d.word m) k.0) ∙ h.0, unread_held ds m v u x k.1 h.1)

-- ---- words that are said by a name that is set

-- a word has after the set the value that it had
said_value : (d : Delayed) (a b : CExpr) (u : Names) (x : ℕ) → IsTrue (is_flow_target d.name) → word_of d.word u ≡ Some x → IsSaid d a b → word_of b (with_name u d.name x) ≡ word_of a u
said_value d a b u x t e s =
    let v = with_name u d.name x in
    sym (word_placed (d ∷ []) v u (e ∙ ap (λ y. Some y) (sym (set_here u d.name x d.name t (same_self d.name))), tt) b
    (λ k r f. sym (set_there u d.name x k (first_false (same_name d.name k) false f)))) ∙ ap (λ y. word_of y u) s.0

pub said_held : (d : Delayed) (p q : List Delayed) (v u : Names) (x : ℕ) → IsTrue (is_flow_target d.name) → word_of d.word u ≡ Some x → AreSaid d p q → AreHeld p v u → AreHeld q v (with_name u d.name x)
said_held d [] [] v u x t e s h = tt
said_held d [] (y ∷ ys) v u x t e s h = absurd s
said_held d (z ∷ zs) [] v u x t e s h = absurd s
said_held d (z ∷ zs) (y ∷ ys) v u x t e s h =
    (said_value d z.word y.word u x t e s.1 ∙ h.0 ∙ ap (λ n. Some (v n)) (sym s.0), said_held d zs ys v u x t e s.2 h.1)

pub said_delayed : (d : Delayed) (p q : List Delayed) (n : Name) → AreSaid d p q → is_delayed q n ≡ is_delayed p n
said_delayed d [] [] n s = refl
said_delayed d [] (y ∷ ys) n s = absurd s
said_delayed d (z ∷ zs) [] n s = absurd s
said_delayed d (z ∷ zs) (y ∷ ys) n s = ap (λ m. same_name m n || is_delayed ys n) s.0 ∙ ap (λ b. same_name z.name n || b) (said_delayed d zs ys n s.2)

pub said_rule : (d : Delayed) (p q : List Delayed) → IsTrue (is_flow_target d.name) → AreSaid d p q → IsTrue (are_flow_delayed p) → IsTrue (are_flow_delayed q)
said_rule d [] [] t s h = h
said_rule d [] (y ∷ ys) t s h = absurd s
said_rule d (z ∷ zs) [] t s h = absurd s
said_rule d (z ∷ zs) (y ∷ ys) t s h =
    let k = both_true (is_flow_target z.name && is_flow_word z.word) (are_flow_delayed zs) h in
    let j = both_true (is_flow_target z.name) (is_flow_word z.word) k.0 in
    let names = (both_true (has_flow_names z.word) (nat_le (word_depth z.word) 64) j.1).0 in
    let word = and_true (has_flow_names y.word) (nat_le (word_depth y.word) 64) (word_unplaced d t y.word (subst (λ w. IsTrue (has_flow_names w)) (sym s.1.0) names)) s.1.1 in
    and_true (is_flow_target y.name && is_flow_word y.word) (are_flow_delayed ys) (and_true (is_flow_target y.name) (is_flow_word y.word) (ap is_flow_target s.0 ∙ j.0) word) (said_rule d zs ys t s.2 k.1)

-- one more
pub said_more : (d : Delayed) (p q : List Delayed) (x y : Delayed) → AreSaid d p q → y.name ≡ x.name → IsSaid d x.word y.word → AreSaid d (p ++ x ∷ []) (q ++ y ∷ [])
said_more d [] [] x y s e i = (e, i, tt)
said_more d [] (w ∷ ws) x y s e i = absurd s
said_more d (z ∷ zs) [] x y s e i = absurd s
said_more d (z ∷ zs) (w ∷ ws) x y s e i = (s.0, s.1, said_more d zs ws x y s.2 e i)

pub said_next : (d : Delayed) (all : List Delayed) (i : ℕ) (x y : Delayed) (q q' : List Delayed) → i < length all → x ≡ get_or all i x → q' ≡ q ++ y ∷ [] → y.name ≡ x.name → IsSaid d x.word y.word → AreSaid d (take i all) q → AreSaid d (take (i + 1) all) q'
said_next d all i x y q q' l g e f s h =
    subst (AreSaid d (take (i + 1) all)) (sym e) (subst (λ z. AreSaid d z (q ++ y ∷ [])) (sym (take_more all i x l ∙ ap (λ z. take i all ++ z ∷ []) (sym g))) (said_more d (take i all) q x y h f s))

pub said_all : (d : Delayed) (all : List Delayed) (i : ℕ) (q : List Delayed) → length all ≤ i → i ≤ length all → AreSaid d (take i all) q → AreSaid d all q
said_all d all i q a b h =
    let e : i ≡ length all = omega arith in
    subst (λ z. AreSaid d z q) (ap (λ n. take n all) e ∙ take-length all) h

-- ---- flags

flag_apart : (m n : Name) → IsTrue (is_flag m) → is_flag n ≡ false → (same_name m n ≡ true) ⊎ (same_name m n ≡ false) → same_name m n ≡ false
flag_apart m n t f (inl e) = absurd (not_both (is_flag n) (ap is_flag (sym (same_true m n e)) ∙ t) f)
flag_apart m n t f (inr e) = e

pub flags_delayed : (p : List Delayed) (n : Name) → IsTrue (are_flags p) → is_flag n ≡ false → is_delayed p n ≡ false
flags_delayed [] n h f = refl
flags_delayed (d ∷ ds) n h f =
    let k = both_true (is_flag d.name) (are_flags ds) h in
    or_false (same_name d.name n) (is_delayed ds n) (flag_apart d.name n k.0 f (true_or_false (same_name d.name n))) (flags_delayed ds n k.1 f)
