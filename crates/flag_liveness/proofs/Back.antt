-- What is live before statements that are gone back over.
use Rattle.std.proofs.Common.{◌≡◌, ℕ, Bool, true, false, cond, not, ◌||◌, ◌&&◌, refl, sym, ap, subst, ◌∙◌}
use Rattle.dream_words.specs.declared.machine.Name.{Name}
use Rattle.dream_words.specs.declared.machine.Width.{Width}
use Rattle.c_syntax.specs.declared.syntax.CExpr.{CExpr}
use Rattle.micro_ir.specs.declared.flow.Stmt.{Stmt}
use Rattle.micro_ir.specs.declared.flow.Stmt.TheVariants as stmt
use Rattle.flow_passes.specs.Uses.{same_name, is_register, is_flag, word_reads, stmt_reads, stmt_sets}
use Rattle.flag_liveness.specs.declared.seen.Seen.{Seen}
use Rattle.flag_liveness.specs.Before.{is_unseen, live_before}
use Rattle.flag_liveness.specs.Within.{names_within, Agree, Adds, GoesBack}
use Rattle.flag_liveness.proofs.Adding.{adds_two}

-- a name is made dead, and then the names of a Word live
or_unset : (w s x y z : Bool) → y ≡ cond s false x → z ≡ (w || y) → z ≡ (w || (x && not s))
or_unset true s x y z p q = q
or_unset false true true y z p q = q ∙ p
or_unset false true false y z p q = q ∙ p
or_unset false false true y z p q = q ∙ p
or_unset false false false y z p q = q ∙ p

or_all : (w x z : Bool) → z ≡ (w || x) → z ≡ (w || (x && not false))
or_all true x z p = p
or_all false true z p = p
or_all false false z p = p

or_call : (w r f x y z : Bool) → y ≡ (r || (x && not (r || f))) → z ≡ (w || y) → z ≡ ((r || w) || (x && not (r || f)))
or_call true true f x y z p q = q
or_call true false f x y z p q = q
or_call false true f x y z p q = q ∙ p
or_call false false f x y z p q = q ∙ p

-- what is live with a name made dead
abbrev pub Unset : Name → Seen → Seen → Type 0
Unset m x y = (across : ℕ → Bool) → Agree (names_within across y) (λ n. cond (same_name m n) false (names_within across x n))

pub back_set : (m : Name) (e : CExpr) (s : Stmt) (x y z : Seen) → s ≡ stmt.Set m e → Unset m x y → Adds (word_reads e) y z → GoesBack s x z
back_set m e s x y z i h p = subst (λ (k : Stmt). GoesBack k x z) (sym i) (record { names = λ across n t. or_unset (word_reads e n) (same_name m n) (names_within across x n) _ _ (h across n t) (p.names across n t) })

pub back_load : (m : Name) (wide : Width) (e : CExpr) (s : Stmt) (x y z : Seen) → s ≡ stmt.Load m wide e → Unset m x y → Adds (word_reads e) y z → GoesBack s x z
back_load m wide e s x y z i h p =
    subst (λ (k : Stmt). GoesBack k x z) (sym i) (record { names = λ across n t. or_unset (word_reads e n) (same_name m n) (names_within across x n) _ _ (h across n t) (p.names across n t) })

pub back_store : (wide : Width) (e f : CExpr) (s : Stmt) (x y z : Seen) → s ≡ stmt.Store wide e f → Adds (word_reads e) x y → Adds (word_reads f) y z → GoesBack s x z
back_store wide e f s x y z i p q =
    subst (λ (k : Stmt). GoesBack k x z) (sym i)
    (record { names = λ across n t. or_all (word_reads e n || word_reads f n) (names_within across x n) _ ((adds_two (word_reads e) (word_reads f) x y z p q).names across n t) })

pub back_trap : (vector : ℕ) (e : CExpr) (s : Stmt) (x y : Seen) → s ≡ stmt.Trap vector e → Adds (word_reads e) x y → GoesBack s x y
back_trap vector e s x y i p = subst (λ (k : Stmt). GoesBack k x y) (sym i) (record { names = λ across n t. or_all (word_reads e n) (names_within across x n) _ (p.names across n t) })

pub back_ext : (e : CExpr) (s : Stmt) (x y z : Seen) → s ≡ stmt.Ext e
    → ((across : ℕ → Bool) → Agree (names_within across y) (λ n. is_register n || (names_within across x n && not (is_register n || is_flag n)))) → Adds (word_reads e) y z → GoesBack s x z
back_ext e s x y z i h p =
    subst (λ (k : Stmt). GoesBack k x z) (sym i)
    (record { names = λ across n t. or_call (word_reads e n) (is_register n) (is_flag n) (names_within across x n) _ _ (h across n t) (p.names across n t) })

seen_before : (b : Bool) (x y : Bool) → b ≡ false → cond b x y ≡ y
seen_before true x y e = ap (λ t. cond t x y) e
seen_before false x y e = refl

-- a statement that somebody sees
pub passes : (s : Stmt) (across : ℕ → Bool) (x y : Seen) → is_unseen s (names_within across x) ≡ false → GoesBack s x y → Agree (names_within across y) (live_before s (names_within across x))
passes s across x y e h = λ n t. h.names across n t ∙ sym (seen_before (is_unseen s (names_within across x)) (names_within across x n) (stmt_reads s n || (names_within across x n && not (stmt_sets s n))) e)
