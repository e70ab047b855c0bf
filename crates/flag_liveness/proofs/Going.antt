-- Statements that are gone back over.
use Rattle.std.proofs.Common.{◌≡◌, ℕ, zero, suc, ◌<◌, ◌≤◌, Bool, not, ◌&&◌, ◌||◌, List, [], ◌∷◌, length, get_or, drop, sym, ap, subst, ◌∙◌, arith, drop-cons}
use Rattle.std.proofs.Math.Seq.{drop-length}
use Rattle.std.specs.Prelude.{IsTrue}
use Rattle.micro_ir.specs.declared.flow.Stmt.{Stmt}
use Rattle.micro_ir.specs.Rule.{is_flow_stmt, are_flow_stmts}
use Rattle.micro_ir.proofs.Values.{both_true}
use Rattle.flow_passes.specs.Uses.{NameSet, stmt_reads, stmt_sets}
use Rattle.flag_liveness.specs.declared.seen.Seen.{Seen}
use Rattle.flag_liveness.specs.Before.{live_before, live_before_all}
use Rattle.flag_liveness.specs.Across.{read_first}
use Rattle.flag_liveness.specs.Within.{names_within, Agree, GoesBack}
use Rattle.flag_liveness.proofs.Making.{same_before}

flow_drop : (k : ℕ) (ss : List Stmt) → IsTrue (are_flow_stmts ss) → IsTrue (are_flow_stmts (drop k ss))
flow_drop zero ss t = t
flow_drop (suc k) [] t = t
flow_drop (suc k) (s ∷ ss) t = flow_drop k ss (both_true (is_flow_stmt s) (are_flow_stmts ss) t).1

-- one more statement
one_more : (stmts : List Stmt) (k j : ℕ) (s : Stmt) → j < length stmts → k ≡ suc j → s ≡ get_or stmts j s → drop j stmts ≡ s ∷ drop k stmts
one_more stmts k j s l e i = drop-cons stmts j s l ∙ ap (λ x. x ∷ drop (suc j) stmts) (sym i) ∙ ap (λ x. s ∷ drop x stmts) (sym e)

-- What is live before the statements from a place on is known.
pub record Goes (across : ℕ → Bool) (stmts : List Stmt) (k : ℕ) (last : NameSet) (now : Seen) : Type 0 where
  pub inside : k ≤ length stmts
  pub live : Agree (names_within across now) (live_before_all (drop k stmts) last)

pub goes_none : (across : ℕ → Bool) (stmts : List Stmt) (k : ℕ) (last : NameSet) (x : Seen) → k ≡ length stmts → Agree (names_within across x) last → Goes across stmts k last x
goes_none across stmts k last x e h = record {
  inside = omega arith;
  live = λ n t. h n t ∙ ap (λ ss. live_before_all ss last n) (sym (ap (λ i. drop i stmts) e ∙ drop-length stmts));
}

pub goes_more : (across : ℕ → Bool) (stmts : List Stmt) (k j : ℕ) (last : NameSet) (x y : Seen) (s : Stmt) → IsTrue (are_flow_stmts stmts) → Goes across stmts k last x → k ≡ suc j → s ≡ get_or stmts j s
    → Agree (names_within across y) (live_before s (names_within across x)) → Goes across stmts j last y
goes_more across stmts k j last x y s t h e i b =
    let within : k ≤ length stmts = h.inside in
    let more : drop j stmts ≡ s ∷ drop k stmts = one_more stmts k j s (omega arith) e i in
    let flow : IsTrue (is_flow_stmt s) = (both_true (is_flow_stmt s) (are_flow_stmts (drop k stmts)) (subst (λ ss. IsTrue (are_flow_stmts ss)) more (flow_drop j stmts t))).0 in
    record {
      inside = omega arith;
      live = λ n q. b n q ∙ same_before s (names_within across x) (live_before_all (drop k stmts) last) flow h.live n q ∙ ap (λ ss. live_before_all ss last n) (sym more);
    }

pub goes_all : (across : ℕ → Bool) (stmts : List Stmt) (k : ℕ) (last : NameSet) (x : Seen) → Goes across stmts k last x → k ≡ 0 → Agree (names_within across x) (live_before_all stmts last)
goes_all across stmts k last x h e = λ n t. h.live n t ∙ ap (λ i. live_before_all (drop i stmts) last n) e

-- What the statements from a place on read before they set it is known.
pub record Reads (stmts : List Stmt) (k : ℕ) (last : NameSet) (now : Seen) : Type 0 where
  pub inside : k ≤ length stmts
  pub reads : (across : ℕ → Bool) → Agree (names_within across now) (read_first (drop k stmts) last)

pub reads_none : (stmts : List Stmt) (k : ℕ) (last : NameSet) (x : Seen) → k ≡ length stmts → ((across : ℕ → Bool) → Agree (names_within across x) last) → Reads stmts k last x
reads_none stmts k last x e h = record {
  inside = omega arith;
  reads = λ across n t. h across n t ∙ ap (λ ss. read_first ss last n) (sym (ap (λ i. drop i stmts) e ∙ drop-length stmts));
}

pub reads_more : (stmts : List Stmt) (k j : ℕ) (last : NameSet) (x y : Seen) (s : Stmt) → Reads stmts k last x → k ≡ suc j → s ≡ get_or stmts j s → GoesBack s x y → Reads stmts j last y
reads_more stmts k j last x y s h e i b =
    let within : k ≤ length stmts = h.inside in
    let more : drop j stmts ≡ s ∷ drop k stmts = one_more stmts k j s (omega arith) e i in
    record {
      inside = omega arith;
      reads = λ across n q. b.names across n q ∙ ap (λ x. stmt_reads s n || (x && not (stmt_sets s n))) (h.reads across n q) ∙ ap (λ ss. read_first ss last n) (sym more);
    }

pub reads_all : (stmts : List Stmt) (k : ℕ) (last : NameSet) (x : Seen) → Reads stmts k last x → k ≡ 0 → (across : ℕ → Bool) → Agree (names_within across x) (read_first stmts last)
reads_all stmts k last x h e = λ across n t. h.reads across n t ∙ ap (λ i. read_first (drop i stmts) last n) e
