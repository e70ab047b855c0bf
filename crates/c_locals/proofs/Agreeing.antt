-- Names that agree on what is kept: the words of the new names are those of the old ones.
use Rattle.std.proofs.Common.{◌≡◌, ℕ, Bool, true, false, cond, nat_eq, nat_lt, ◌&&◌, get_or, List, refl, sym, ap, ◌∙◌, rules, arith}
use Rattle.dream_words.specs.declared.machine.Name.{Name}
use Rattle.dream_words.specs.declared.machine.Name.TheVariants as n
use Rattle.dream_words.specs.declared.outcome.Answer.{Answer}
use Rattle.dream_words.specs.declared.outcome.Start.{Start}
use Rattle.run_parts.specs.World.{Names, with_name, regs_in, answered, start_names}
use Rattle.c_locals.specs.Marks.{Marks}
use Rattle.c_locals.specs.Settled.{new_number, new_name, is_kept}
use Rattle.c_locals.proofs.Bools.{no_true}
use Rattle.c_locals.proofs.Numbers.{one_new}

abbrev pub Agree : Marks → Names → Names → Type 0
Agree m v u = (k : Name) → is_kept m k ≡ true → u (new_name m k) ≡ v k

same_number : (a b : ℕ) → nat_eq a b ≡ true → a ≡ b
same_number a b h = search (rules, arith, h)

eq_self : (k : ℕ) → nat_eq k k ≡ true
eq_self k = search (rules, arith)

-- new numbers are one where the numbers are
same_test : (bs : List Bool) (j k : ℕ) → get_or bs j true ≡ true → get_or bs k true ≡ true → nat_eq (new_number bs k) (new_number bs j) ≡ nat_eq k j
same_test bs j k mj mk = by (nat_eq (new_number bs k) (new_number bs j)) (nat_eq k j) refl refl
  where
    by : (a b : Bool) → nat_eq (new_number bs k) (new_number bs j) ≡ a → nat_eq k j ≡ b → a ≡ b
    by true true e g = refl
    by false false e g = refl
    by true false e g = absurd (no_true (sym g ∙ ap (λ i. nat_eq k i) (one_new bs j k mj mk (sym (same_number _ _ e))) ∙ eq_self k))
    by false true e g = absurd (no_true (sym e ∙ ap (λ i. nat_eq (new_number bs k) (new_number bs i)) (sym (same_number k j g)) ∙ eq_self (new_number bs k)))

chosen : (b c : Bool) (x y z : ℕ) → b ≡ c → y ≡ z → cond b x y ≡ cond c x z
chosen b c x y z p q = ap (λ a. cond a x y) p ∙ ap (cond c x) q

-- a kept name is set in both
set_kept : (m : Marks) (v u : Names) (i : Name) (x : ℕ) (k : Name) → is_kept m i ≡ true → is_kept m k ≡ true → u (new_name m k) ≡ v k
    → with_name u (new_name m i) x (new_name m k) ≡ with_name v i x k
set_kept m v u (n.Reg j) x (n.Reg k) hi hk e = ap (cond (nat_eq k j && nat_lt j 8) x) e
set_kept m v u (n.Flag j) x (n.Flag k) hi hk e = ap (cond (nat_eq k j && nat_lt j 5) x) e
set_kept m v u n.Fs x n.Fs hi hk e = refl
set_kept m v u n.Gs x n.Gs hi hk e = refl
set_kept m v u (n.T j) x (n.T k) hi hk e = chosen _ _ x _ _ (same_test m.temps j k hi hk) e
set_kept m v u (n.B j) x (n.B k) hi hk e = chosen _ _ x _ _ (same_test m.bools j k hi hk) e
set_kept m v u (n.S j) x (n.S k) hi hk e = ap (cond (nat_eq k j) x) e
set_kept m v u i x k hi hk e = e

pub agree_set : (m : Marks) (v u : Names) (i : Name) (x : ℕ) → is_kept m i ≡ true → Agree m v u → Agree m (with_name v i x) (with_name u (new_name m i) x)
agree_set m v u i x hi h k hk = set_kept m v u i x k hi hk (h k hk)

-- a name that isn't kept isn't one that is
other : (bs : List Bool) (j k x y z : ℕ) → get_or bs j true ≡ false → get_or bs k true ≡ true → y ≡ z → y ≡ cond (nat_eq k j) x z
other bs j k x y z hj hk e = by (nat_eq k j) refl
  where
    by : (b : Bool) → nat_eq k j ≡ b → y ≡ cond b x z
    by false g = e
    by true g = absurd (no_true (sym hj ∙ ap (λ i. get_or bs i true) (sym (same_number k j g)) ∙ hk))

true_no : true ≡ false → ⊥
true_no e = cc

-- a name that isn't kept is set in the first alone
set_dropped : (m : Marks) (v u : Names) (i : Name) (x : ℕ) (k : Name) → is_kept m i ≡ false → is_kept m k ≡ true → u (new_name m k) ≡ v k → u (new_name m k) ≡ with_name v i x k
set_dropped m v u (n.Reg j) x k hi hk e = absurd (true_no hi)
set_dropped m v u (n.Flag j) x k hi hk e = absurd (true_no hi)
set_dropped m v u n.Fs x k hi hk e = absurd (true_no hi)
set_dropped m v u n.Gs x k hi hk e = absurd (true_no hi)
set_dropped m v u (n.S j) x k hi hk e = absurd (true_no hi)
set_dropped m v u (n.T j) x (n.T k) hi hk e = other m.temps j k x _ _ hi hk e
set_dropped m v u (n.B j) x (n.B k) hi hk e = other m.bools j k x _ _ hi hk e
set_dropped m v u i x k hi hk e = e

pub agree_drop : (m : Marks) (v u : Names) (i : Name) (x : ℕ) → is_kept m i ≡ false → Agree m v u → Agree m (with_name v i x) u
agree_drop m v u i x hi h k hk = set_dropped m v u i x k hi hk (h k hk)

pub agree_regs : (m : Marks) (v u : Names) → Agree m v u → regs_in u ≡ regs_in v
agree_regs m v u s =
    let a : u (n.Reg 0) ≡ v (n.Reg 0) = s (n.Reg 0) refl in
    let b : u (n.Reg 1) ≡ v (n.Reg 1) = s (n.Reg 1) refl in
    let c : u (n.Reg 2) ≡ v (n.Reg 2) = s (n.Reg 2) refl in
    let d : u (n.Reg 3) ≡ v (n.Reg 3) = s (n.Reg 3) refl in
    let e : u (n.Reg 4) ≡ v (n.Reg 4) = s (n.Reg 4) refl in
    let f : u (n.Reg 5) ≡ v (n.Reg 5) = s (n.Reg 5) refl in
    let g : u (n.Reg 6) ≡ v (n.Reg 6) = s (n.Reg 6) refl in
    let h : u (n.Reg 7) ≡ v (n.Reg 7) = s (n.Reg 7) refl in
    cc

answer_at : (m : Marks) (a : Answer) (v u : Names) (k : Name) → u (new_name m k) ≡ v k → answered a u (new_name m k) ≡ answered a v k
answer_at m a v u (n.Reg k) e = refl
answer_at m a v u (n.Flag k) e = refl
answer_at m a v u k e = e

pub agree_answer : (m : Marks) (a : Answer) (v u : Names) → Agree m v u → Agree m (answered a v) (answered a u)
agree_answer m a v u h k hk = answer_at m a v u k (h k hk)

start_at : (m : Marks) (s : Start) (k : Name) → start_names s (new_name m k) ≡ start_names s k
start_at m s (n.Reg k) = refl
start_at m s (n.Flag k) = refl
start_at m s n.Fs = refl
start_at m s n.Gs = refl
start_at m s (n.T k) = refl
start_at m s (n.B k) = refl
start_at m s (n.S k) = refl

pub agree_start : (m : Marks) (s : Start) → Agree m (start_names s) (start_names s)
agree_start m s k hk = start_at m s k
