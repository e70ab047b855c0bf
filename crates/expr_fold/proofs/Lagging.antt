-- Names that lag still lag after a step.
use Rattle.std.proofs.Common.{◌≡◌, ℕ, true, false, not, ◌&&◌, ◌||◌, ◌⊎◌, inl, inr, List, [], ◌∷◌, ◌++◌, Some, refl, sym, ap, ◌∙◌}
use Rattle.std.specs.Prelude.{IsTrue, slice_get, remove}
use Rattle.dream_words.specs.declared.machine.Name.{Name}
use Rattle.dream_words.specs.declared.machine.Name.TheVariants as n
use Rattle.dream_words.specs.declared.outcome.Answer.{Answer}
use Rattle.run_parts.specs.World.{Names, with_name, answered}
use Rattle.c_syntax.specs.declared.syntax.CExpr.{CExpr, CExpr-F, roll-CExpr}
use Rattle.c_syntax.specs.Value.{word_of}
use Rattle.micro_ir.specs.Rule.{is_flow_target}
use Rattle.micro_ir.proofs.Values.{both_true}
use Rattle.flow_passes.specs.Uses.{NameSet, same_name, is_register, is_flag}
use Rattle.flow_passes.specs.Laws.{Within, SameNames}
use Rattle.flow_passes.proofs.Names.{same_self, answered_same}
use Rattle.expr_fold.specs.declared.delayed.Delayed.{Delayed}
use Rattle.expr_fold.specs.Delayed.{is_delayed, none_reads, without, are_flags, AreHeld}
use Rattle.expr_fold.specs.Said.{AreSaid}
use Rattle.expr_fold.specs.Follows.{Lags}
use Rattle.expr_fold.proofs.Named.{same_true, same_turned, set_here, set_there, true_or_false, and_true, not_true, not_both, second_false}
use Rattle.expr_fold.proofs.Layers.{word_step}
use Rattle.expr_fold.proofs.Lists.{held_append, delayed_append, filter_held, filter_delayed, pick_held, pick_delayed, unread_held, said_held, said_delayed, flags_delayed}

-- what is seen less lags too
pub lag_within : (less more : NameSet) (p : List Delayed) (v u : Names) → Within less more → Lags more p v u → Lags less p v u
lag_within less more p v u i l = record { held = l.held; others = λ n t f. l.others n (i n t) f }

-- nothing is delayed where all is the same
pub lag_none : (seen : NameSet) (v u : Names) → SameNames seen v u → Lags seen [] v u
lag_none seen v u s = record { held = tt; others = λ n t f. s n t }

-- ---- a delayed set is done

set_others : (seen : NameSet) (p : List Delayed) (i : ℕ) (d : Delayed) (v u : Names) → slice_get p i ≡ Some d → IsTrue (is_flow_target d.name) → Lags seen p v u
    → (k : Name) → IsTrue (seen k) → is_delayed (remove p i) k ≡ false → (same_name d.name k ≡ true) ⊎ (same_name d.name k ≡ false) → with_name u d.name (v d.name) k ≡ v k
set_others seen p i d v u e t l k s f (inl g) = set_here u d.name (v d.name) k t g ∙ ap v (same_true d.name k g)
set_others seen p i d v u e t l k s f (inr g) = set_there u d.name (v d.name) k g ∙ l.others k s (pick_delayed p i d k e g f)

pub lag_set : (seen : NameSet) (p : List Delayed) (i : ℕ) (d : Delayed) (q : List Delayed) (v u : Names) → slice_get p i ≡ Some d → IsTrue (is_flow_target d.name) → AreSaid d (remove p i) q → Lags seen p v u
    → Lags seen q v (with_name u d.name (v d.name))
lag_set seen p i d q v u e t n l =
    let k = pick_held p i d v u e l.held in
    record {
      held = said_held d (remove p i) q v u (v d.name) t k.0 n k.1;
      others = λ k s f. set_others seen p i d v u e t l k s (sym (said_delayed d (remove p i) q k n) ∙ f) (true_or_false (same_name d.name k));
    }

-- and its word has the value of its name
pub set_value : (seen : NameSet) (p : List Delayed) (i : ℕ) (d : Delayed) (v u : Names) → slice_get p i ≡ Some d → Lags seen p v u → word_of d.word u ≡ Some (v d.name)
set_value seen p i d v u e l = (pick_held p i d v u e l.held).0

-- it stands at the end
pub lag_back : (seen : NameSet) (p : List Delayed) (i : ℕ) (d : Delayed) (v u : Names) → slice_get p i ≡ Some d → Lags seen p v u → Lags seen (remove p i ++ d ∷ []) v u
lag_back seen p i d v u e l = record {
  held = let k = pick_held p i d v u e l.held in held_append (remove p i) d v u k.1 k.0;
  others = λ k s f. let g = delayed_append (remove p i) d k f in l.others k s (pick_delayed p i d k e g.1 g.0);
}

-- ---- a name is set

other_turned : (n k : Name) → not (same_name k n) ≡ true → same_name n k ≡ false
other_turned n k e = same_turned n k ∙ not_true (same_name k n) e

-- the delayed words of other names
others_held : (n : Name) (x : ℕ) (p : List Delayed) (v u : Names) → AreHeld p v u → AreHeld (without n p) (with_name v n x) u
others_held n x p v u h =
    filter_held (λ d. not (same_name d.name n)) p v u (with_name v n x) u (λ d t e. e ∙ ap (λ y. Some y) (sym (set_there v n x d.name (other_turned n d.name t)))) h

-- a delayed name that isn't the one
same_false : (n k : Name) (d : Delayed) → same_name n k ≡ false → not (same_name d.name n) ≡ false → (same_name d.name n ≡ true) ⊎ (same_name d.name n ≡ false) → same_name d.name k ≡ false
same_false n k d f e (inl t) = ap (λ m. same_name m k) (same_true d.name n t) ∙ f
same_false n k d f e (inr t) = absurd (not_both (not (same_name d.name n)) (ap not t) e)

others_delayed : (n k : Name) (p : List Delayed) → same_name n k ≡ false → is_delayed (without n p) k ≡ false → is_delayed p k ≡ false
others_delayed n k p f e = filter_delayed (λ d. not (same_name d.name n)) p k (λ d t. same_false n k d f t (true_or_false (same_name d.name n))) e

delay_others : (seen : NameSet) (n : Name) (x : ℕ) (p : List Delayed) (v u : Names) → Lags seen p v u → (k : Name) → same_name n k ≡ false → is_delayed (without n p) k ≡ false → IsTrue (same_name n k) ⊎ IsTrue (seen k)
    → u k ≡ with_name v n x k
delay_others seen n x p v u l k g f (inl s) = absurd (not_both (same_name n k) s g)
delay_others seen n x p v u l k g f (inr s) = l.others k s (others_delayed n k p g f) ∙ sym (set_there v n x k g)

pub lag_delay : (seen after : NameSet) (n : Name) (a : CExpr) (x : ℕ) (p : List Delayed) (v u : Names) → IsTrue (is_flow_target n) → word_of a u ≡ Some x
    → ((k : Name) → IsTrue (after k) → IsTrue (same_name n k) ⊎ IsTrue (seen k)) → Lags seen p v u → Lags after (without n p ++ (record { name = n; word = a }) ∷ []) (with_name v n x) u
lag_delay seen after n a x p v u t e s l = record {
  held = held_append (without n p) (record { name = n; word = a }) (with_name v n x) u (others_held n x p v u l.held) (e ∙ ap (λ y. Some y) (sym (set_here v n x n t (same_self n))));
  others = λ k i f. let g = delayed_append (without n p) (record { name = n; word = a }) k f in delay_others seen n x p v u l k g.1 g.0 (s k i);
}

-- the same word is set in both
load_others : (seen : NameSet) (n : Name) (x : ℕ) (p : List Delayed) (v u : Names) → IsTrue (is_flow_target n) → Lags seen p v u → (k : Name) → is_delayed (without n p) k ≡ false → IsTrue (same_name n k) ⊎ IsTrue (seen k)
    → (same_name n k ≡ true) ⊎ (same_name n k ≡ false) → with_name u n x k ≡ with_name v n x k
load_others seen n x p v u t l k f s (inl g) = set_here u n x k t g ∙ sym (set_here v n x k t g)
load_others seen n x p v u t l k f (inl s) (inr g) = absurd (not_both (same_name n k) s g)
load_others seen n x p v u t l k f (inr s) (inr g) = set_there u n x k g ∙ l.others k s (others_delayed n k p g f) ∙ sym (set_there v n x k g)

pub lag_load : (seen after : NameSet) (n : Name) (x : ℕ) (p : List Delayed) (v u : Names) → IsTrue (is_flow_target n) → IsTrue (none_reads (without n p) n)
    → ((k : Name) → IsTrue (after k) → IsTrue (same_name n k) ⊎ IsTrue (seen k)) → Lags seen p v u → Lags after (without n p) (with_name v n x) (with_name u n x)
lag_load seen after n x p v u t r s l = record {
  held = unread_held (without n p) n (with_name v n x) u x r (others_held n x p v u l.held);
  others = λ k i f. load_others seen n x p v u t l k f (s k i) (true_or_false (same_name n k));
}

-- a name isn't seen any more
pub lag_lose : (seen after : NameSet) (n : Name) (p : List Delayed) (v u : Names) → ((k : Name) → IsTrue (after k) → IsTrue (seen k) × (same_name n k ≡ false)) → Lags seen p v u → Lags after (without n p) v u
lag_lose seen after n p v u s l = record {
  held = filter_held (λ d. not (same_name d.name n)) p v u v u (λ d t e. e) l.held;
  others = λ k i f. let g = s k i in l.others k g.0 (others_delayed n k p g.1 f);
}

-- a name is set that isn't seen after it
pub lag_lost : (seen after : NameSet) (n : Name) (x : ℕ) (p : List Delayed) (v u : Names) → ((k : Name) → IsTrue (after k) → IsTrue (seen k) × (same_name n k ≡ false)) → Lags seen p v u → Lags after (without n p) (with_name v n x) u
lag_lost seen after n x p v u s l = record {
  held = others_held n x p v u l.held;
  others = λ k i f. let g = s k i in l.others k g.0 (others_delayed n k p g.1 f) ∙ sym (set_there v n x k g.1);
}

-- a word is set in the old names to one name, and in the new ones to another, which isn't seen after it and stands for the one
into_others : (seen after : NameSet) (t r : Name) (x : ℕ) (p : List Delayed) (v u : Names) → after r ≡ false → Lags seen p v u → (k : Name) → IsTrue (after k) → same_name t k ≡ false → is_delayed (without r (without t p)) k ≡ false
    → IsTrue (same_name t k) ⊎ IsTrue (seen k) → (same_name r k ≡ true) ⊎ (same_name r k ≡ false) → with_name u r x k ≡ with_name v t x k
into_others seen after t r x p v u lost l k i g f s (inl e) = absurd (not_both (after k) i (ap after (sym (same_true r k e)) ∙ lost))
into_others seen after t r x p v u lost l k i g f (inl s) (inr e) = absurd (not_both (same_name t k) s g)
into_others seen after t r x p v u lost l k i g f (inr s) (inr e) =
    set_there u r x k e ∙ l.others k s (others_delayed t k p g (others_delayed r k (without t p) e f)) ∙ sym (set_there v t x k g)

pub lag_into : (seen after : NameSet) (t r : Name) (x : ℕ) (p : List Delayed) (v u : Names) → IsTrue (is_flow_target t) → IsTrue (is_flow_target r) → IsTrue (none_reads (without r (without t p)) r)
    → ((k : Name) → IsTrue (after k) → IsTrue (same_name t k) ⊎ IsTrue (seen k)) → after r ≡ false → Lags seen p v u
    → Lags after (without r (without t p) ++ (record { name = t; word = roll-CExpr (CExpr-F.Name r) }) ∷ []) (with_name v t x) (with_name u r x)
lag_into seen after t r x p v u gt gr n s lost l =
    let d : Delayed = record { name = t; word = roll-CExpr (CExpr-F.Name r) } in
    let q = without r (without t p) in
    record {
      held = held_append q d (with_name v t x) (with_name u r x)
          (unread_held q r (with_name v t x) u x n (filter_held (λ e. not (same_name e.name r)) (without t p) (with_name v t x) u (with_name v t x) u (λ e h k. k) (others_held t x p v u l.held)))
          (word_step (CExpr-F.Name r) (with_name u r x) ∙ ap (λ y. Some y) (set_here u r x r gr (same_self r) ∙ sym (set_here v t x t gt (same_self t))));
      others = λ k i f. let g = delayed_append q d k f in into_others seen after t r x p v u lost l k i g.1 g.0 (s k i) (true_or_false (same_name r k));
    }

-- a name is set to the word that it has among the new names
pub lag_same : (seen after : NameSet) (m : Name) (x : ℕ) (p : List Delayed) (v u : Names) → IsTrue (is_flow_target m) → u m ≡ x → ((k : Name) → IsTrue (after k) → IsTrue (same_name m k) ⊎ IsTrue (seen k)) → Lags seen p v u
    → Lags after (without m p) (with_name v m x) u
lag_same seen after m x p v u t e s l = record {
  held = others_held m x p v u l.held;
  others = λ k i f. by_case k f (s k i) (true_or_false (same_name m k));
}
  where
    by_case : (k : Name) → is_delayed (without m p) k ≡ false → IsTrue (same_name m k) ⊎ IsTrue (seen k) → (same_name m k ≡ true) ⊎ (same_name m k ≡ false) → u k ≡ with_name v m x k
    by_case k f i (inl g) = ap u (sym (same_true m k g)) ∙ e ∙ sym (set_here v m x k t g)
    by_case k f i (inr g) = delay_others seen m x p v u l k g f i

-- ---- a call is answered

-- what isn't a flag is the same, where only flags are delayed
pub unflagged : (seen : NameSet) (p : List Delayed) (v u : Names) → IsTrue (are_flags p) → Lags seen p v u → (k : Name) → IsTrue (seen k) → is_flag k ≡ false → u k ≡ v k
unflagged seen p v u r l k s f = l.others k s (flags_delayed p k r f)

answer_others : (a : Answer) (seen : NameSet) (p : List Delayed) (v u : Names) → IsTrue (are_flags p) → Lags seen p v u → (k : Name) → IsTrue (is_register k || is_flag k) ⊎ IsTrue (seen k)
    → (IsTrue (is_register k || is_flag k)) ⊎ ((is_register k || is_flag k) ≡ false) → answered a u k ≡ answered a v k
answer_others a seen p v u r l k s (inl b) = answered_same a v u k (inl b)
answer_others a seen p v u r l k (inl s) (inr b) = answered_same a v u k (inl s)
answer_others a seen p v u r l k (inr s) (inr b) = answered_same a v u k (inr (unflagged seen p v u r l k s (second_false (is_register k) (is_flag k) b)))

pub lag_answer : (a : Answer) (seen after : NameSet) (p : List Delayed) (v u : Names) → IsTrue (are_flags p) → ((k : Name) → IsTrue (after k) → IsTrue (is_register k || is_flag k) ⊎ IsTrue (seen k)) → Lags seen p v u
    → Lags after [] (answered a v) (answered a u)
lag_answer a seen after p v u r s l = lag_none after (answered a v) (answered a u) (λ k i. answer_others a seen p v u r l k (s k i) (true_or_false (is_register k || is_flag k)))

register_no_flag : (k : Name) → IsTrue (is_register k) → is_flag k ≡ false
register_no_flag (n.Reg a) t = refl
register_no_flag (n.Flag a) t = absurd (let z : ⊥ = cc in z)
register_no_flag n.Fs t = refl
register_no_flag n.Gs t = refl
register_no_flag (n.T a) t = refl
register_no_flag (n.B a) t = refl
register_no_flag (n.S a) t = refl

-- the registers are the same, where only flags are delayed
pub same_registers : (seen : NameSet) (p : List Delayed) (v u : Names) → IsTrue (are_flags p) → Within is_register seen → Lags seen p v u → SameNames is_register v u
same_registers seen p v u r i l k t = unflagged seen p v u r l k (i k t) (register_no_flag k t)
