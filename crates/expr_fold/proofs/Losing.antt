-- Names that aren't seen again.
use Rattle.std.proofs.Common.{◌≡◌, ℕ, suc, ◌+◌, ◌<◌, ◌≤◌, Bool, true, false, cond, not, ◌&&◌, ◌||◌, List, ◌∷◌, length, get_or, drop, sym, ap, subst, ◌∙◌, arith, drop-cons}
use Rattle.std.proofs.Math.Seq.{drop-length}
use Rattle.dream_words.specs.declared.machine.Name.{Name}
use Rattle.micro_ir.specs.declared.flow.Stmt.{Stmt}
use Rattle.flow_passes.specs.Uses.{NameSet, stmt_reads, stmt_sets}
use Rattle.flag_liveness.specs.Before.{is_unseen, live_before_all}
use Rattle.expr_fold.specs.Follows.{IsLost}

unread_unseen : (u r s x : Bool) → u ≡ false → r ≡ false → (x ≡ false) → cond u x (r || (x && not s)) ≡ false
unread_unseen u r s x e f g = ap (λ c. cond c x (r || (x && not s))) e ∙ ap (λ c. c || (x && not s)) f ∙ ap (λ c. c && not s) g

unread_set : (u r s x : Bool) → u ≡ false → r ≡ false → s ≡ true → cond u x (r || (x && not s)) ≡ false
unread_set u r s true e f g = ap (λ c. cond c true (r || (true && not s))) e ∙ ap (λ c. c || (true && not s)) f ∙ ap not g
unread_set u r s false e f g = ap (λ c. cond c false (r || (false && not s))) e ∙ ap (λ c. c || false) f

-- a statement that doesn't read it
lost_step : (last : NameSet) (s : Stmt) (ss : List Stmt) (t : Name) → stmt_reads s t ≡ false → IsLost last ss t → IsLost last (s ∷ ss) t
lost_step last s ss t e h seen = unread_unseen (is_unseen s (live_before_all ss last)) (stmt_reads s t) (stmt_sets s t) (live_before_all ss last t) seen.0 e (h seen.1)

-- or sets it
lost_set : (last : NameSet) (s : Stmt) (ss : List Stmt) (t : Name) → stmt_reads s t ≡ false → stmt_sets s t ≡ true → IsLost last (s ∷ ss) t
lost_set last s ss t e f seen = unread_set (is_unseen s (live_before_all ss last)) (stmt_reads s t) (stmt_sets s t) (live_before_all ss last t) seen.0 e f

at_place : (all : List Stmt) (i : ℕ) (s : Stmt) → i < length all → s ≡ get_or all i s → drop i all ≡ s ∷ drop (i + 1) all
at_place all i s l e = drop-cons all i s l ∙ ap (λ x. x ∷ drop (suc i) all) (sym e) ∙ ap (λ n. s ∷ drop n all) (let g : suc i ≡ i + 1 = omega arith in g)

pub lost_more : (last : NameSet) (all : List Stmt) (i : ℕ) (s : Stmt) (t : Name) → i < length all → s ≡ get_or all i s → stmt_reads s t ≡ false
    → (IsLost last (drop i all) t → IsLost last all t) → IsLost last (drop (i + 1) all) t → IsLost last all t
lost_more last all i s t l e r h g = h (subst (λ x. IsLost last x t) (sym (at_place all i s l e)) (lost_step last s (drop (i + 1) all) t r g))

pub lost_here : (last : NameSet) (all : List Stmt) (i : ℕ) (s : Stmt) (t : Name) → i < length all → s ≡ get_or all i s → stmt_reads s t ≡ false → stmt_sets s t ≡ true
    → (IsLost last (drop i all) t → IsLost last all t) → IsLost last all t
lost_here last all i s t l e r f h = h (subst (λ x. IsLost last x t) (sym (at_place all i s l e)) (lost_set last s (drop (i + 1) all) t r f))

pub lost_last : (last : NameSet) (all : List Stmt) (i : ℕ) (t : Name) → length all ≤ i → i ≤ length all → last t ≡ false → (IsLost last (drop i all) t → IsLost last all t) → IsLost last all t
lost_last last all i t a b f h =
    let e : i ≡ length all = omega arith in
    h (subst (λ x. IsLost last x t) (sym (ap (λ n. drop n all) e ∙ drop-length all)) (λ seen. f))
