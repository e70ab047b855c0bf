-- The words of added variables: what sets them, and what keeps them.
use Rattle.std.proofs.Common.{◌≡◌, ℕ, nat_eq, Bool, true, false, if◌then◌else◌, List, [], ◌∷◌, Option, Some, None, refl, sym, ap, ◌∙◌}
use Rattle.std.specs.Prelude.{IsTrue}
use Rattle.std.proofs.Math.Path.{fun_ext}
use Rattle.dream_words.specs.declared.machine.Name.{Name}
use Rattle.dream_words.specs.declared.machine.Name.TheVariants.{Reg, Flag, Fs, Gs, T, B, S}
use Rattle.dream_words.specs.declared.machine.Width.{Width}
use Rattle.dream_words.specs.declared.outcome.Start.{Start}
use Rattle.dream_words.specs.declared.outcome.Answer.{Answer}
use Rattle.dream_words.specs.declared.outcome.Call.{Call}
use Rattle.dream_words.specs.declared.outcome.Outcome.{Outcome}
use Rattle.dream_words.specs.declared.outcome.Outcome.TheVariants as outcome
use Rattle.dream_words.specs.Pages.{first_bad}
use Rattle.dream_words.specs.Memory.{load, bytes_of}
use Rattle.run_parts.specs.World.{World, Names, with_name, start_world}
use Rattle.run_parts.specs.Steps.{Next, Halt, Jam, having, then_do}
use Rattle.run_parts.specs.Effects.{Doing, set_word, allowing, loading, storing, calling, answered_by, trapping}
use Rattle.c_syntax.specs.Run.{word_in, does_ext}
use Rattle.micro_ir.specs.declared.flow.Stmt.{Stmt}
use Rattle.micro_ir.specs.declared.flow.Stmt.TheVariants as stmt
use Rattle.micro_ir.specs.Rule.{is_flow_name, is_flow_target, is_flow_word, is_flow_stmt, are_flow_stmts}
use Rattle.micro_ir.specs.Run.{stmt_does, stmts_do}
use Rattle.micro_ir.proofs.Values.{both_true}
use Rattle.flow_passes.specs.Uses.{same_name}
use Rattle.flow_plans.specs.Known.{is_added}
use Rattle.regions.proofs.Core.{core, core_names, selector_apart}
use Rattle.regions.proofs.Standing.{same_number, number_is}

-- the word of an added variable
abbrev pub word_at : Name → World → ℕ
word_at (B n) w = w.names (B n)
word_at (S n) w = w.names (S n)
word_at m w = 0

-- ---- names

pub name_is : (a b : Name) → same_name a b ≡ true → a ≡ b
name_is (Reg a) (Reg b) h = ap (λ k. Reg k) (number_is a b h)
name_is (Flag a) (Flag b) h = ap (λ k. Flag k) (number_is a b h)
name_is Fs Fs h = refl
name_is Gs Gs h = refl
name_is (T a) (T b) h = ap (λ k. T k) (number_is a b h)
name_is (B a) (B b) h = ap (λ k. B k) (number_is a b h)
name_is (S a) (S b) h = ap (λ k. S k) (number_is a b h)
name_is a b h = absurd (let z : ⊥ = cc in z)

-- ---- a variable is set

pub set_here : (n : Name) (x : ℕ) (w : World) → IsTrue (is_added n) → word_at n (set_word n x w) ≡ x
set_here (B k) x w h = ap (λ b. if b then x else w.names (B k)) (same_number k)
set_here (S k) x w h = ap (λ b. if b then x else w.names (S k)) (same_number k)
set_here n x w h = absurd (let z : ⊥ = cc in z)

pub set_other : (n k : Name) (x : ℕ) (w : World) → same_name k n ≡ false → word_at k (set_word n x w) ≡ word_at k w
set_other (B j) (B k) x w h = ap (λ b. if b then x else w.names (B k)) h
set_other (S j) (S k) x w h = ap (λ b. if b then x else w.names (S k)) h
set_other n (B k) x w h = refl
set_other n (S k) x w h = refl
set_other n (Reg k) x w h = refl
set_other n (Flag k) x w h = refl
set_other n Fs x w h = refl
set_other n Gs x w h = refl
set_other n (T k) x w h = refl

in_world : (w : World) (u v : Names) → ((n : Name) → u n ≡ v n) → ◌≡◌ {A = World} (record w { names = u }) (record w { names = v })
in_world w u v h = ap (λ (n : Names). record w { names = n }) (fun_ext h)

test_at : (n x : ℕ) (v : Names) (k : Name) → core_names (with_name v (B n) x) k ≡ core_names v k
test_at n x v (Reg k) = refl
test_at n x v (Flag k) = refl
test_at n x v Fs = refl
test_at n x v Gs = refl
test_at n x v (T k) = refl
test_at n x v (B k) = refl
test_at n x v (S k) = refl

-- the flow doesn't see it
pub set_bare : (n : Name) (x : ℕ) (w : World) → IsTrue (is_added n) → core (set_word n x w) ≡ core w
set_bare (B k) x w h = in_world w _ _ (test_at k x w.names)
set_bare (S k) x w h = selector_apart k x w
set_bare n x w h = absurd (let z : ⊥ = cc in z)

-- at the start each is 0
pub at_first : (n : Name) (s : Start) (answers : List Answer) → word_at n (start_world s answers) ≡ 0
at_first (B k) s answers = refl
at_first (S k) s answers = refl
at_first n s answers = refl

-- ---- statements of a flow keep them

-- where what is done leads to a world, the variable has its word there
abbrev pub Stays : Name → World → Doing → Type 0
Stays k w (Next t) = word_at k t ≡ word_at k w
Stays k w (Halt o) = Unit {0}
Stays k w Jam = Unit {0}

set_keeps : (k n : Name) (x : ℕ) (w : World) → IsTrue (is_flow_target n) → word_at k (set_word n x w) ≡ word_at k w
set_keeps k (B j) x w h = absurd (let z : ⊥ = cc in z)
set_keeps k (S j) x w h = absurd (let z : ⊥ = cc in z)
set_keeps (B i) n x w h = refl
set_keeps (S i) n x w h = refl
set_keeps k n x w h = refl

having_keeps : (k : Name) (w : World) (o : Option ℕ) (f : ℕ → Doing) → ((x : ℕ) → Stays k w (f x)) → Stays k w (having o f)
having_keeps k w None f h = tt
having_keeps k w (Some x) f h = h x

allowing_keeps : (k : Name) (w : World) (bad : Option ℕ) (d : Doing) → Stays k w d → Stays k w (allowing bad w d)
allowing_keeps k w None d h = h
allowing_keeps k w (Some a) d h = tt

answered_keeps : (k : Name) (w : World) (left : List Answer) (calls : List Call) → Stays k w (answered_by left calls w)
answered_keeps k w [] calls = tt
answered_keeps (B n) w (a ∷ rest) calls = refl
answered_keeps (S n) w (a ∷ rest) calls = refl
answered_keeps k w (a ∷ rest) calls = refl

same_kept : (k : Name) (w t : World) → t.names ≡ w.names → word_at k t ≡ word_at k w
same_kept (B n) w t h = ap (λ v. v (B n)) h
same_kept (S n) w t h = ap (λ v. v (S n)) h
same_kept k w t h = refl

trap_keeps : (k : Name) (w : World) (vector x : ℕ) → Stays k w (trapping vector x w)
trap_keeps k w vector x = at (nat_eq x 0) (outcome.Faulted vector 0 w.mem w.calls)
  where
    at : (b : Bool) (o : Outcome) → Stays k w (if b then Next w else Halt o)
    at true o = refl
    at false o = tt

stmt_keeps : (k : Name) (s : Stmt) (w : World) → IsTrue (is_flow_stmt s) → Stays k w (stmt_does s w)
stmt_keeps k (stmt.Set n e) w h =
    having_keeps k w (word_in e w) _ (λ x. set_keeps k n x w (both_true (is_flow_target n) (is_flow_word e) h).0)
stmt_keeps k (stmt.Load n width e) w h =
    having_keeps k w (word_in e w) _ (λ at. allowing_keeps k w (first_bad w.pages.read at (bytes_of width)) (Next (set_word n (load w.mem at (bytes_of width)) w)) (set_keeps k n _ w (both_true (is_flow_target n) (is_flow_word e) h).0))
stmt_keeps k (stmt.Store width e f) w h =
    having_keeps k w (word_in e w) _ (λ at. having_keeps k w (word_in f w) _ (λ x. allowing_keeps k w (first_bad w.pages.write at (bytes_of width)) _ (same_kept k w _ refl)))
stmt_keeps k (stmt.Ext e) w h = having_keeps k w (word_in e w) _ (λ x. answered_keeps k w w.left _)
stmt_keeps k (stmt.Trap vector e) w h = having_keeps k w (word_in e w) _ (λ x. trap_keeps k w vector x)

then_keeps : (k : Name) (w : World) (d : Doing) (f : World → Doing) → Stays k w d → ((t : World) → Stays k t (f t)) → Stays k w (then_do d f)
then_keeps k w (Next t) f h g = on (f t) (g t)
  where
    on : (d : Doing) → Stays k t d → Stays k w d
    on (Next u) i = i ∙ h
    on (Halt o) i = tt
    on Jam i = tt
then_keeps k w (Halt o) f h g = tt
then_keeps k w Jam f h g = tt

all_keep : (k : Name) (ss : List Stmt) (w : World) → IsTrue (are_flow_stmts ss) → Stays k w (stmts_do ss w)
all_keep k [] w h = refl
all_keep k (s ∷ ss) w h =
    let p = both_true (is_flow_stmt s) (are_flow_stmts ss) h in
    then_keeps k w (stmt_does s w) (stmts_do ss) (stmt_keeps k s w p.0) (λ t. all_keep k ss t p.1)

-- after statements of a flow each added variable has its word
pub stmts_keep : (k : Name) (ss : List Stmt) (w t : World) → IsTrue (are_flow_stmts ss) → stmts_do ss w ≡ Next t → word_at k t ≡ word_at k w
stmts_keep k ss w t h e = at (stmts_do ss w) e (all_keep k ss w h)
  where
    at : (d : Doing) → d ≡ Next t → Stays k w d → word_at k t ≡ word_at k w
    at (Next u) e i = let same : u ≡ t = cc in ap (word_at k) (sym same) ∙ i
    at (Halt o) e i = absurd (let z : ⊥ = cc in z)
    at Jam e i = absurd (let z : ⊥ = cc in z)
