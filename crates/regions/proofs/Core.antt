-- The world of a flow: that of a tree, without the locals that the tree adds.
use Rattle.std.proofs.Common.{◌≡◌, ℕ, nat_eq, Bool, true, false, if◌then◌else◌, List, [], ◌∷◌, Option, Some, None, refl, ap, ◌∙◌, arith}
use Rattle.std.specs.Prelude.{IsTrue}
use Rattle.std.proofs.Math.Path.{fun_ext}
use Rattle.std.proofs.lemmas.Bool.Decides.{nat_tests}
use Rattle.dream_words.specs.declared.machine.Name.{Name}
use Rattle.dream_words.specs.declared.machine.Name.TheVariants.{Reg, Flag, Fs, Gs, T, B, S}
use Rattle.dream_words.specs.declared.machine.Width.{Width}
use Rattle.dream_words.specs.declared.outcome.Start.{Start}
use Rattle.dream_words.specs.declared.outcome.Answer.{Answer}
use Rattle.dream_words.specs.declared.outcome.Call.{Call}
use Rattle.dream_words.specs.declared.outcome.Outcome.TheVariants as outcome
use Rattle.dream_words.specs.Memory.{load, store, bytes_of}
use Rattle.dream_words.specs.Pages.{first_bad}
use Rattle.run_parts.specs.World.{World, Names, with_name, answered, start_names, start_world}
use Rattle.run_parts.specs.Steps.{Next, Halt, Jam, having, then_do}
use Rattle.run_parts.specs.Effects.{Doing, set_word, allowing, loading, storing, answered_by}
use Rattle.c_syntax.specs.declared.syntax.CExpr.{CExpr}
use Rattle.c_syntax.specs.declared.syntax.CCond.{CCond}
use Rattle.c_syntax.specs.Run.{word_in, holds, does_ext}
use Rattle.micro_ir.specs.declared.flow.Stmt.{Stmt}
use Rattle.micro_ir.specs.declared.flow.Stmt.TheVariants as stmt
use Rattle.micro_ir.specs.Rule.{is_flow_name, is_flow_target, has_flow_names, cond_has_flow_names, is_flow_word, is_flow_cond, is_flow_stmt, are_flow_stmts}
use Rattle.micro_ir.specs.Run.{stmt_does, stmts_do}
use Rattle.micro_ir.specs.Laws.{SameFlowNames}
use Rattle.micro_ir.proofs.FlowNames.{same_value, same_truth}
use Rattle.micro_ir.proofs.Values.{both_true}

-- the words without the locals that a tree adds
abbrev pub core_names : Names → Names
core_names v (Reg n) = v (Reg n)
core_names v (Flag n) = v (Flag n)
core_names v Fs = v Fs
core_names v Gs = v Gs
core_names v (T n) = v (T n)
core_names v (B n) = 0
core_names v (S n) = 0

abbrev pub core : World → World
core w = record w { names = core_names w.names }

-- what is done, seen without them
abbrev pub core_did : Doing → Doing
core_did (Next w) = Next (core w)
core_did (Halt o) = Halt o
core_did Jam = Jam

in_world : (w : World) (u v : Names) → ((n : Name) → u n ≡ v n) → ◌≡◌ {A = World} (record w { names = u }) (record w { names = v })
in_world w u v h = ap (λ (n : Names). record w { names = n }) (fun_ext h)

-- ---- the locals that are added

selector_at : (n x : ℕ) (v : Names) (k : Name) → core_names (with_name v (S n) x) k ≡ core_names v k
selector_at n x v (Reg k) = refl
selector_at n x v (Flag k) = refl
selector_at n x v Fs = refl
selector_at n x v Gs = refl
selector_at n x v (T k) = refl
selector_at n x v (B k) = refl
selector_at n x v (S k) = refl

-- to set a selector changes nothing else
pub selector_apart : (n x : ℕ) (w : World) → core (set_word (S n) x w) ≡ core w
selector_apart n x w = in_world w _ _ (selector_at n x w.names)

same_number : (n : ℕ) → nat_eq n n ≡ true
same_number n = grind (arith, nat_tests)

-- a selector that is set has the word
pub selector_set : (n x : ℕ) (w : World) → (set_word (S n) x w).names (S n) ≡ x
selector_set n x w = ap (λ b. if b then x else w.names (S n)) (same_number n)

start_at : (s : Start) (k : Name) → core_names (start_names s) k ≡ start_names s k
start_at s (Reg k) = refl
start_at s (Flag k) = refl
start_at s Fs = refl
start_at s Gs = refl
start_at s (T k) = refl
start_at s (B k) = refl
start_at s (S k) = refl

-- at the start they are 0
pub start_bare : (s : Start) (answers : List Answer) → core (start_world s answers) ≡ start_world s answers
start_bare s answers = in_world (start_world s answers) _ _ (start_at s)

-- ---- Words, Conds and statements don't see them

flow_names_at : (v : Names) (n : Name) → IsTrue (is_flow_name n) → core_names v n ≡ v n
flow_names_at v (Reg n) h = refl
flow_names_at v (Flag n) h = refl
flow_names_at v Fs h = refl
flow_names_at v Gs h = refl
flow_names_at v (T n) h = refl
flow_names_at v (B n) h = absurd (let z : ⊥ = cc in z)
flow_names_at v (S n) h = absurd (let z : ⊥ = cc in z)

same_names : (v : Names) → SameFlowNames (core_names v) v
same_names v n h = flow_names_at v n h

pub word_bare : (e : CExpr) (w : World) → IsTrue (is_flow_word e) → word_in e (core w) ≡ word_in e w
word_bare e w h = same_value e (core_names w.names) w.names (both_true (has_flow_names e) _ h).0 (same_names w.names)

pub cond_bare : (t : CCond) (w : World) → IsTrue (is_flow_cond t) → holds t (core w) ≡ holds t w
cond_bare t w h = same_truth t (core_names w.names) w.names (both_true (cond_has_flow_names t) _ h).0 (same_names w.names)

set_at : (n : Name) (x : ℕ) (v : Names) (k : Name) → IsTrue (is_flow_name n) → with_name (core_names v) n x k ≡ core_names (with_name v n x) k
set_at (B n) x v k h = absurd (let z : ⊥ = cc in z)
set_at (S n) x v k h = absurd (let z : ⊥ = cc in z)
set_at n x v (Reg k) h = refl
set_at n x v (Flag k) h = refl
set_at n x v Fs h = refl
set_at n x v Gs h = refl
set_at n x v (T k) h = refl
set_at n x v (B k) h = refl
set_at n x v (S k) h = refl

set_bare : (n : Name) (x : ℕ) (w : World) → IsTrue (is_flow_target n) → set_word n x (core w) ≡ core (set_word n x w)
set_bare n x w h = in_world w _ _ (λ k. set_at n x w.names k (both_true (is_flow_name n) _ h).0)

answer_at : (a : Answer) (v : Names) (k : Name) → answered a (core_names v) k ≡ core_names (answered a v) k
answer_at a v (Reg k) = refl
answer_at a v (Flag k) = refl
answer_at a v Fs = refl
answer_at a v Gs = refl
answer_at a v (T k) = refl
answer_at a v (B k) = refl
answer_at a v (S k) = refl

answered_bare : (left : List Answer) (calls : List Call) (w : World) → answered_by left calls (core w) ≡ core_did (answered_by left calls w)
answered_bare [] calls w = refl
answered_bare (a ∷ rest) calls w = ap (λ (v : Names). Next (record w { names = v; mem = a.mem; left = rest; calls = calls })) (fun_ext (answer_at a w.names))

-- an access, which reads no name
allowing_bare : (bad : Option ℕ) (w : World) (d d' : Doing) → d ≡ core_did d' → allowing bad (core w) d ≡ core_did (allowing bad w d')
allowing_bare None w d d' h = h
allowing_bare (Some a) w d d' h = refl

load_bare : (n : Name) (width : Width) (at : ℕ) (w : World) → IsTrue (is_flow_target n) → loading n width at (core w) ≡ core_did (loading n width at w)
load_bare n width at w h = let x = load w.mem at (bytes_of width) in
    allowing_bare (first_bad w.pages.read at (bytes_of width)) w (Next (set_word n x (core w))) (Next (set_word n x w)) (ap (λ (u : World). Next u) (set_bare n x w h))

store_bare : (width : Width) (at x : ℕ) (w : World) → storing width at x (core w) ≡ core_did (storing width at x w)
store_bare width at x w = let mem = store w.mem at (bytes_of width) x in
    allowing_bare (first_bad w.pages.write at (bytes_of width)) w (Next (record (core w) { mem = mem })) (Next (record w { mem = mem })) refl

trap_bare : (vector : ℕ) (b : Bool) (w : World) → (if b then Next (core w) else Halt (outcome.Faulted vector 0 w.mem w.calls)) ≡ core_did (if b then Next w else Halt (outcome.Faulted vector 0 w.mem w.calls))
trap_bare vector true w = refl
trap_bare vector false w = refl

having_bare : (o p : Option ℕ) (f g : ℕ → Doing) → o ≡ p → ((x : ℕ) → f x ≡ core_did (g x)) → having o f ≡ core_did (having p g)
having_bare o None f g e h = ap (λ r. having r f) e
having_bare o (Some x) f g e h = ap (λ r. having r f) e ∙ h x

pub ext_bare : (e : CExpr) (w : World) → IsTrue (is_flow_word e) → does_ext e (core w) ≡ core_did (does_ext e w)
ext_bare e w h = having_bare (word_in e (core w)) (word_in e w) _ _ (word_bare e w h) (λ x. answered_bare w.left _ w)

stmt_bare : (s : Stmt) (w : World) → IsTrue (is_flow_stmt s) → stmt_does s (core w) ≡ core_did (stmt_does s w)
stmt_bare (stmt.Set n e) w h =
    let p = both_true (is_flow_target n) (is_flow_word e) h in
    having_bare (word_in e (core w)) (word_in e w) _ _ (word_bare e w p.1) (λ x. ap (λ (u : World). Next u) (set_bare n x w p.0))
stmt_bare (stmt.Load n width e) w h =
    let p = both_true (is_flow_target n) (is_flow_word e) h in
    having_bare (word_in e (core w)) (word_in e w) _ _ (word_bare e w p.1) (λ at. load_bare n width at w p.0)
stmt_bare (stmt.Store width e f) w h =
    let p = both_true (is_flow_word e) (is_flow_word f) h in
    having_bare (word_in e (core w)) (word_in e w) _ _ (word_bare e w p.0)
    (λ at. having_bare (word_in f (core w)) (word_in f w) _ _ (word_bare f w p.1) (λ x. store_bare width at x w))
stmt_bare (stmt.Ext e) w h = ext_bare e w h
stmt_bare (stmt.Trap vector e) w h =
    having_bare (word_in e (core w)) (word_in e w) _ _ (word_bare e w (both_true _ (is_flow_word e) h).1) (λ x. trap_bare vector (nat_eq x 0) w)

then_bare : (d : Doing) (f : World → Doing) → ((w : World) → f (core w) ≡ core_did (f w)) → then_do (core_did d) f ≡ core_did (then_do d f)
then_bare (Next w) f h = h w
then_bare (Halt o) f h = refl
then_bare Jam f h = refl

pub stmts_bare : (ss : List Stmt) (w : World) → IsTrue (are_flow_stmts ss) → stmts_do ss (core w) ≡ core_did (stmts_do ss w)
stmts_bare [] w h = refl
stmts_bare (s ∷ ss) w h =
    let p = both_true (is_flow_stmt s) (are_flow_stmts ss) h in
    ap (λ d. then_do d (stmts_do ss)) (stmt_bare s w p.0) ∙ then_bare (stmt_does s w) (stmts_do ss) (λ u. stmts_bare ss u p.1)
