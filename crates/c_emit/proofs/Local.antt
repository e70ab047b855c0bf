-- The renumbering of the locals of a tree is a renaming of its names: it keeps different names apart.
use Rattle.std.proofs.Common.{◌≡◌, ℕ, ◌+◌, ◌<◌, ◌≤◌, nat_eq, nat_lt, Bool, true, false, if◌then◌else◌, List, [], ◌∷◌, refl, sym, ap, ◌∙◌, arith}
use Rattle.std.proofs.lemmas.Bool.Decides.{nat_tests}
use Rattle.dream_words.specs.declared.machine.Name.{Name}
use Rattle.dream_words.specs.declared.machine.Name.TheVariants as name
use Rattle.dream_words.specs.declared.outcome.Answer.{Answer}
use Rattle.dream_words.specs.declared.outcome.Start.{Start}
use Rattle.run_parts.specs.Parts.{has}
use Rattle.run_parts.specs.World.{Names, with_name, answered, start_names}
use Rattle.guarded.specs.Uses.{Use, name_of, names_of, tree_uses}
use Rattle.guarded.specs.Numbers.{with_number, Locals, no_locals, with_local, with_locals, locals_of}
use Rattle.c_emit.specs.Emitted.{below, new_name}
use Rattle.c_emit.specs.Laws.{EmitKeepsRuns}
use Rattle.c_emit.proofs.Known.{Known}
use Rattle.c_emit.proofs.Renaming.{pulled}
use Rattle.c_emit.proofs.StmtRuns.{IsRenaming}
use Rattle.c_emit.proofs.TreeRuns.{runs_kept}

-- a name that the locals have, or that is no local
abbrev pub is_known : Locals → Name → Bool
is_known l (name.Reg n) = true
is_known l (name.Flag n) = true
is_known l name.Fs = true
is_known l name.Gs = true
is_known l (name.T n) = has l.temps n
is_known l (name.B n) = has l.bools n
is_known l (name.S n) = has l.selectors n

-- ---- numbers

-- a Bool is one of the two
pub data IsCase (b : Bool) : Type 0 where
  is_true : b ≡ true → IsCase b
  is_false : b ≡ false → IsCase b

pub case_of : (b : Bool) → IsCase b
case_of true = is_true refl
case_of false = is_false refl

pub same_number : (n : ℕ) → nat_eq n n ≡ true
same_number n = grind (arith, nat_tests)

pub equal_numbers : (n k : ℕ) → nat_eq n k ≡ true → n ≡ k
equal_numbers n k h = grind (arith, nat_tests)

other_numbers : (n k : ℕ) → (n ≡ k → ⊥) → nat_eq n k ≡ false
other_numbers n k h = grind (arith, nat_tests)

pub is_below : (n k : ℕ) → nat_lt n k ≡ true → n < k
is_below n k h = grind (arith, nat_tests)

pub not_below : (n k : ℕ) → nat_lt n k ≡ false → k ≤ n
not_below n k h = grind (arith, nat_tests)

pub less_test : (n k : ℕ) → n < k → nat_lt n k ≡ true
less_test n k h = grind (arith, nat_tests)

-- one more number
below_step : (b c : Bool) (x y : ℕ) → (b ≡ true → c ≡ true) → x ≤ y → (if b then x + 1 else x) ≤ (if c then y + 1 else y)
below_step true true x y h l = omega arith
below_step true false x y h l = absurd (true_is_false (h refl))
  where
    true_is_false : false ≡ true → ⊥
    true_is_false e = cc
below_step false true x y h l = omega arith
below_step false false x y h l = l

-- more are below a greater number
below_grows : (ks : List ℕ) (n m : ℕ) → n ≤ m → below ks n ≤ below ks m
below_grows [] n m h = omega arith
below_grows (k ∷ ks) n m h = below_step (nat_lt k n) (nat_lt k m) (below ks n) (below ks m) (λ e. less_test k m (let l = is_below k n e in omega arith)) (below_grows ks n m h)

-- strictly more where the lesser number is one of them
below_first : (k n m x y : ℕ) → nat_eq n k ≡ true → n < m → x ≤ y → (if nat_lt k n then x + 1 else x) < (if nat_lt k m then y + 1 else y)
below_first k n m x y e l h = grind (arith, nat_tests)

pub below_apart : (ks : List ℕ) (n m : ℕ) → has ks n ≡ true → n < m → below ks n < below ks m
below_apart [] n m h l = absurd (no_true h)
  where
    no_true : false ≡ true → ⊥
    no_true e = cc
below_apart (k ∷ ks) n m h l = by (case_of (nat_eq n k)) (λ g. below_apart ks n m g l)
  where
    step : (b c : Bool) (x y : ℕ) → (b ≡ true → c ≡ true) → x < y → (if b then x + 1 else x) < (if c then y + 1 else y)
    step true true x y g l' = omega arith
    step true false x y g l' = absurd (no_true (g refl))
      where
        no_true : false ≡ true → ⊥
        no_true e = cc
    step false true x y g l' = omega arith
    step false false x y g l' = l'

    by : IsCase (nat_eq n k) → (has ks n ≡ true → below ks n < below ks m) → (if nat_lt k n then below ks n + 1 else below ks n) < (if nat_lt k m then below ks m + 1 else below ks m)
    by (is_true e) rest = below_first k n m (below ks n) (below ks m) e l (below_grows ks n m (omega arith))
    by (is_false e) rest =
        step (nat_lt k n) (nat_lt k m) (below ks n) (below ks m) (λ g. less_test k m (let p = is_below k n g in omega arith))
        (rest (sym (ap (λ b. if b then true else has ks n) e) ∙ h))

-- so different numbers get different ones
data IsOrder (n m : ℕ) : Type 0 where
  less : n < m → IsOrder n m
  equal : n ≡ m → IsOrder n m
  greater : m < n → IsOrder n m

order_of : (n m : ℕ) → IsOrder n m
order_of n m = by (case_of (nat_lt n m)) (case_of (nat_lt m n))
  where
    by : IsCase (nat_lt n m) → IsCase (nat_lt m n) → IsOrder n m
    by (is_true a) b = less (is_below n m a)
    by (is_false a) (is_true b) = greater (is_below m n b)
    by (is_false a) (is_false b) = equal (let p = not_below n m a in let q = not_below m n b in omega arith)

pub keeps_apart : (ks : List ℕ) (n k : ℕ) → has ks n ≡ true → has ks k ≡ true → nat_eq (below ks k) (below ks n) ≡ nat_eq k n
keeps_apart ks n k hn hk = by (order_of k n)
  where
    by : IsOrder k n → nat_eq (below ks k) (below ks n) ≡ nat_eq k n
    by (less l) = other_numbers (below ks k) (below ks n) (λ e. let p = below_apart ks k n hk l in omega arith) ∙ sym (other_numbers k n (λ e. omega arith))
    by (equal e) = ap (λ j. nat_eq (below ks j) (below ks n)) e ∙ same_number (below ks n) ∙ sym (ap (λ j. nat_eq j n) e ∙ same_number n)
    by (greater l) = other_numbers (below ks k) (below ks n) (λ e. let p = below_apart ks n k hn l in omega arith) ∙ sym (other_numbers k n (λ e. omega arith))

-- a known number is set, and read again
number_set : (ks : List ℕ) (n k x y : ℕ) → has ks n ≡ true
    → (if has ks k then (if nat_eq (below ks k) (below ks n) then x else y) else 0) ≡ (if nat_eq k n then x else (if has ks k then y else 0))
number_set ks n k x y h = by (case_of (has ks k))
  where
    by : IsCase (has ks k) → (if has ks k then (if nat_eq (below ks k) (below ks n) then x else y) else 0) ≡ (if nat_eq k n then x else (if has ks k then y else 0))
    by (is_true e) =
        ap (λ b. if b then (if nat_eq (below ks k) (below ks n) then x else y) else 0) e
        ∙ ap (λ b. if b then x else y) (keeps_apart ks n k h e)
        ∙ sym (ap (λ b. if nat_eq k n then x else (if b then y else 0)) e)
    by (is_false e) =
        ap (λ b. if b then (if nat_eq (below ks k) (below ks n) then x else y) else 0) e
        ∙ sym (ap (λ b. if b then x else (if has ks k then y else 0)) (other_numbers k n (λ g. not_both (sym (ap (has ks) g ∙ h) ∙ e))) ∙ ap (λ b. if b then y else 0) e)
      where
        not_both : true ≡ false → ⊥
        not_both q = cc

if_same : (b : Bool) → ◌≡◌ {A = ℕ} (if b then 0 else 0) 0
if_same true = refl
if_same false = refl

-- ---- names

reg_sets : (l : Locals) (v : Names) (n x : ℕ) (k : Name) → pulled (is_known l) (new_name l) (with_name v (name.Reg n) x) k ≡ with_name (pulled (is_known l) (new_name l) v) (name.Reg n) x k
reg_sets l v n x (name.Reg k) = refl
reg_sets l v n x (name.Flag k) = refl
reg_sets l v n x name.Fs = refl
reg_sets l v n x name.Gs = refl
reg_sets l v n x (name.T k) = refl
reg_sets l v n x (name.B k) = refl
reg_sets l v n x (name.S k) = refl

flag_sets : (l : Locals) (v : Names) (n x : ℕ) (k : Name) → pulled (is_known l) (new_name l) (with_name v (name.Flag n) x) k ≡ with_name (pulled (is_known l) (new_name l) v) (name.Flag n) x k
flag_sets l v n x (name.Reg k) = refl
flag_sets l v n x (name.Flag k) = refl
flag_sets l v n x name.Fs = refl
flag_sets l v n x name.Gs = refl
flag_sets l v n x (name.T k) = refl
flag_sets l v n x (name.B k) = refl
flag_sets l v n x (name.S k) = refl

fs_sets : (l : Locals) (v : Names) (x : ℕ) (k : Name) → pulled (is_known l) (new_name l) (with_name v name.Fs x) k ≡ with_name (pulled (is_known l) (new_name l) v) name.Fs x k
fs_sets l v x (name.Reg k) = refl
fs_sets l v x (name.Flag k) = refl
fs_sets l v x name.Fs = refl
fs_sets l v x name.Gs = refl
fs_sets l v x (name.T k) = refl
fs_sets l v x (name.B k) = refl
fs_sets l v x (name.S k) = refl

gs_sets : (l : Locals) (v : Names) (x : ℕ) (k : Name) → pulled (is_known l) (new_name l) (with_name v name.Gs x) k ≡ with_name (pulled (is_known l) (new_name l) v) name.Gs x k
gs_sets l v x (name.Reg k) = refl
gs_sets l v x (name.Flag k) = refl
gs_sets l v x name.Fs = refl
gs_sets l v x name.Gs = refl
gs_sets l v x (name.T k) = refl
gs_sets l v x (name.B k) = refl
gs_sets l v x (name.S k) = refl

t_sets : (l : Locals) (v : Names) (n x : ℕ) → is_known l (name.T n) ≡ true → (k : Name) → pulled (is_known l) (new_name l) (with_name v (new_name l (name.T n)) x) k ≡ with_name (pulled (is_known l) (new_name l) v) (name.T n) x k
t_sets l v n x h (name.Reg k) = refl
t_sets l v n x h (name.Flag k) = refl
t_sets l v n x h name.Fs = refl
t_sets l v n x h name.Gs = refl
t_sets l v n x h (name.T k) = number_set l.temps n k x (v (name.T (below l.temps k))) h
t_sets l v n x h (name.B k) = refl
t_sets l v n x h (name.S k) = refl

b_sets : (l : Locals) (v : Names) (n x : ℕ) → is_known l (name.B n) ≡ true → (k : Name) → pulled (is_known l) (new_name l) (with_name v (new_name l (name.B n)) x) k ≡ with_name (pulled (is_known l) (new_name l) v) (name.B n) x k
b_sets l v n x h (name.Reg k) = refl
b_sets l v n x h (name.Flag k) = refl
b_sets l v n x h name.Fs = refl
b_sets l v n x h name.Gs = refl
b_sets l v n x h (name.T k) = refl
b_sets l v n x h (name.B k) = number_set l.bools n k x (v (name.B (below l.bools k))) h
b_sets l v n x h (name.S k) = refl

s_sets : (l : Locals) (v : Names) (n x : ℕ) → is_known l (name.S n) ≡ true → (k : Name) → pulled (is_known l) (new_name l) (with_name v (new_name l (name.S n)) x) k ≡ with_name (pulled (is_known l) (new_name l) v) (name.S n) x k
s_sets l v n x h (name.Reg k) = refl
s_sets l v n x h (name.Flag k) = refl
s_sets l v n x h name.Fs = refl
s_sets l v n x h name.Gs = refl
s_sets l v n x h (name.T k) = refl
s_sets l v n x h (name.B k) = refl
s_sets l v n x h (name.S k) = number_set l.selectors n k x (v (name.S (below l.selectors k))) h

name_sets : (l : Locals) (v : Names) (n : Name) (x : ℕ) → is_known l n ≡ true → (k : Name) → pulled (is_known l) (new_name l) (with_name v (new_name l n) x) k ≡ with_name (pulled (is_known l) (new_name l) v) n x k
name_sets l v (name.Reg n) x h k = reg_sets l v n x k
name_sets l v (name.Flag n) x h k = flag_sets l v n x k
name_sets l v name.Fs x h k = fs_sets l v x k
name_sets l v name.Gs x h k = gs_sets l v x k
name_sets l v (name.T n) x h k = t_sets l v n x h k
name_sets l v (name.B n) x h k = b_sets l v n x h k
name_sets l v (name.S n) x h k = s_sets l v n x h k

name_answers : (l : Locals) (a : Answer) (v : Names) (k : Name) → pulled (is_known l) (new_name l) (answered a v) k ≡ answered a (pulled (is_known l) (new_name l) v) k
name_answers l a v (name.Reg k) = refl
name_answers l a v (name.Flag k) = refl
name_answers l a v name.Fs = refl
name_answers l a v name.Gs = refl
name_answers l a v (name.T k) = refl
name_answers l a v (name.B k) = refl
name_answers l a v (name.S k) = refl

name_starts : (l : Locals) (s : Start) (k : Name) → pulled (is_known l) (new_name l) (start_names s) k ≡ start_names s k
name_starts l s (name.Reg k) = refl
name_starts l s (name.Flag k) = refl
name_starts l s name.Fs = refl
name_starts l s name.Gs = refl
name_starts l s (name.T k) = if_same (has l.temps k)
name_starts l s (name.B k) = if_same (has l.bools k)
name_starts l s (name.S k) = if_same (has l.selectors k)

pub is_renaming : (l : Locals) → IsRenaming (is_known l) (new_name l)
is_renaming l = record {
  sets = λ v n x h k. name_sets l v n x h k;
  regs = λ v. refl;
  answers = λ a v k. name_answers l a v k;
  starts = λ s k. name_starts l s k;
}

-- ---- the locals of a tree know its names

-- a number that was put in is there, and those before it are too
put_there : (ks : List ℕ) (n : ℕ) → has (with_number ks n) n ≡ true
put_there [] n = ap (λ b. if b then true else false) (same_number n)
put_there (k ∷ ks) n = by (put_there ks n) (case_of (nat_lt n k)) (case_of (nat_eq n k))
  where
    by : has (with_number ks n) n ≡ true → IsCase (nat_lt n k) → IsCase (nat_eq n k) → has (if nat_lt n k then n ∷ k ∷ ks else (if nat_eq n k then k ∷ ks else k ∷ with_number ks n)) n ≡ true
    by rest (is_true a) b = ap (λ q. has (if q then n ∷ k ∷ ks else (if nat_eq n k then k ∷ ks else k ∷ with_number ks n)) n) a ∙ ap (λ q. if q then true else has (k ∷ ks) n) (same_number n)
    by rest (is_false a) (is_true b) =
        ap (λ q. has (if q then n ∷ k ∷ ks else (if nat_eq n k then k ∷ ks else k ∷ with_number ks n)) n) a
        ∙ ap (λ q. has (if q then k ∷ ks else k ∷ with_number ks n) n) b
        ∙ ap (λ q. if q then true else has ks n) b
    by rest (is_false a) (is_false b) =
        ap (λ q. has (if q then n ∷ k ∷ ks else (if nat_eq n k then k ∷ ks else k ∷ with_number ks n)) n) a
        ∙ ap (λ q. has (if q then k ∷ ks else k ∷ with_number ks n) n) b
        ∙ ap (λ q. if q then true else has (with_number ks n) n) b
        ∙ rest

has_more : (b : Bool) (x y : Bool) → (x ≡ true → y ≡ true) → (if b then true else x) ≡ true → (if b then true else y) ≡ true
has_more true x y h e = refl
has_more false x y h e = h e

has_second : (b x : Bool) → x ≡ true → (if b then true else x) ≡ true
has_second true x e = refl
has_second false x e = e

stays_there : (ks : List ℕ) (n k : ℕ) → has ks k ≡ true → has (with_number ks n) k ≡ true
stays_there [] n k h = absurd (no_true h)
  where
    no_true : false ≡ true → ⊥
    no_true e = cc
stays_there (j ∷ ks) n k h = by (stays_there ks n k) (nat_lt n j) (nat_eq n j)
  where
    by : (has ks k ≡ true → has (with_number ks n) k ≡ true) → (p q : Bool) → has (if p then n ∷ j ∷ ks else (if q then j ∷ ks else j ∷ with_number ks n)) k ≡ true
    by rest true q = has_second (nat_eq k n) (has (j ∷ ks) k) h
    by rest false true = h
    by rest false false = has_more (nat_eq k j) (has ks k) (has (with_number ks n) k) rest h

pub added_known : (l : Locals) (n : Name) → is_known (with_local l n) n ≡ true
added_known l (name.Reg n) = refl
added_known l (name.Flag n) = refl
added_known l name.Fs = refl
added_known l name.Gs = refl
added_known l (name.T n) = put_there l.temps n
added_known l (name.B n) = put_there l.bools n
added_known l (name.S n) = put_there l.selectors n

stays_known : (l : Locals) (n k : Name) → is_known l k ≡ true → is_known (with_local l n) k ≡ true
stays_known l (name.Reg n) (name.Reg k) h = h
stays_known l (name.Reg n) (name.Flag k) h = h
stays_known l (name.Reg n) name.Fs h = h
stays_known l (name.Reg n) name.Gs h = h
stays_known l (name.Reg n) (name.T k) h = h
stays_known l (name.Reg n) (name.B k) h = h
stays_known l (name.Reg n) (name.S k) h = h
stays_known l (name.Flag n) (name.Reg k) h = h
stays_known l (name.Flag n) (name.Flag k) h = h
stays_known l (name.Flag n) name.Fs h = h
stays_known l (name.Flag n) name.Gs h = h
stays_known l (name.Flag n) (name.T k) h = h
stays_known l (name.Flag n) (name.B k) h = h
stays_known l (name.Flag n) (name.S k) h = h
stays_known l name.Fs (name.Reg k) h = h
stays_known l name.Fs (name.Flag k) h = h
stays_known l name.Fs name.Fs h = h
stays_known l name.Fs name.Gs h = h
stays_known l name.Fs (name.T k) h = h
stays_known l name.Fs (name.B k) h = h
stays_known l name.Fs (name.S k) h = h
stays_known l name.Gs (name.Reg k) h = h
stays_known l name.Gs (name.Flag k) h = h
stays_known l name.Gs name.Fs h = h
stays_known l name.Gs name.Gs h = h
stays_known l name.Gs (name.T k) h = h
stays_known l name.Gs (name.B k) h = h
stays_known l name.Gs (name.S k) h = h
stays_known l (name.T n) (name.Reg k) h = h
stays_known l (name.T n) (name.Flag k) h = h
stays_known l (name.T n) name.Fs h = h
stays_known l (name.T n) name.Gs h = h
stays_known l (name.T n) (name.T k) h = stays_there l.temps n k h
stays_known l (name.T n) (name.B k) h = h
stays_known l (name.T n) (name.S k) h = h
stays_known l (name.B n) (name.Reg k) h = h
stays_known l (name.B n) (name.Flag k) h = h
stays_known l (name.B n) name.Fs h = h
stays_known l (name.B n) name.Gs h = h
stays_known l (name.B n) (name.T k) h = h
stays_known l (name.B n) (name.B k) h = stays_there l.bools n k h
stays_known l (name.B n) (name.S k) h = h
stays_known l (name.S n) (name.Reg k) h = h
stays_known l (name.S n) (name.Flag k) h = h
stays_known l (name.S n) name.Fs h = h
stays_known l (name.S n) name.Gs h = h
stays_known l (name.S n) (name.T k) h = h
stays_known l (name.S n) (name.B k) h = h
stays_known l (name.S n) (name.S k) h = stays_there l.selectors n k h

pub still_known : (l : Locals) (ns : List Name) (k : Name) → is_known l k ≡ true → is_known (with_locals l ns) k ≡ true
still_known l [] k h = h
still_known l (n ∷ ns) k h = still_known (with_local l n) ns k (stays_known l n k h)

all_known : (l : Locals) (us : List Use) (X : Name → Bool) → ((k : Name) → is_known (with_locals l (names_of us)) k ≡ true → X k ≡ true) → Known X us
all_known l [] X h = tt
all_known l (u ∷ us) X h = (h (name_of u) (still_known (with_local l (name_of u)) (names_of us) (name_of u) (added_known l (name_of u))), all_known (with_local l (name_of u)) us X h)

-- the locals of uses know them
pub uses_known : (us : List Use) → Known (is_known (locals_of (names_of us))) us
uses_known us = all_known no_locals us _ (λ k h. h)

-- the law
pub emit_keeps : EmitKeepsRuns
emit_keeps t address start answers m =
    let l = locals_of (names_of (tree_uses t)) in
    runs_kept (is_known l) (new_name l) (is_renaming l) t (uses_known (tree_uses t)) start answers m
