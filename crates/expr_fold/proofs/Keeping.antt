-- A block in which words are put into what follows directly keeps the rule of flows, and what the block has.
use Rattle.std.proofs.Common.{◌≡◌, ℕ, ◌+◌, true, ◌&&◌, List, [], ◌∷◌, Some, refl, ap, ◌∙◌, arith}
use Rattle.std.specs.Prelude.{IsTrue}
use Rattle.dream_words.specs.declared.machine.Name.{Name}
use Rattle.c_syntax.specs.declared.syntax.CExpr.{CExpr}
use Rattle.c_syntax.specs.Formed.{is_word}
use Rattle.micro_ir.specs.declared.flow.Stmt.{Stmt}
use Rattle.micro_ir.specs.declared.flow.Stmt.TheVariants as stmt
use Rattle.micro_ir.specs.declared.flow.End.{End as BlockEnd}
use Rattle.micro_ir.specs.declared.flow.End.TheVariants as end
use Rattle.micro_ir.specs.Counts.{stores_of_stmt, stores_of_stmts, calls_of_stmt, calls_of_stmts}
use Rattle.micro_ir.specs.Rule.{is_flow_target, is_flow_word, is_flow_stmt, are_flow_stmts, is_flow_end}
use Rattle.micro_ir.proofs.Values.{both_true}
use Rattle.flow_passes.specs.Uses.{NameSet}
use Rattle.flow_passes.specs.Keeps.{loads_of_stmt, loads_of_stmts, EndsAlike}
use Rattle.expr_fold.specs.declared.delayed.Delayed.{Delayed}
use Rattle.expr_fold.specs.Delayed.{are_flow_delayed}
use Rattle.expr_fold.specs.Placed.{placed_word, placed_stmt, placed_end}
use Rattle.expr_fold.specs.Fits.{word_fits, stmt_fits}
use Rattle.expr_fold.specs.Ends.{end_fits}
use Rattle.expr_fold.specs.Moved.{Rest, first_with, one_more, set_before, stmt_before, moved}
use Rattle.expr_fold.proofs.Named.{and_true}
use Rattle.expr_fold.proofs.Stepping.{placed_flow}
use Rattle.expr_fold.proofs.Folded.{end_rule}
use Rattle.expr_fold.proofs.Moving.{set_cases, first_cases}

-- ---- the rule

-- a statement with words in place keeps the rule, where it fits
stmt_rule : (p : List Delayed) (s : Stmt) → IsTrue (are_flow_delayed p) → IsTrue (is_flow_stmt s) → IsTrue (stmt_fits (placed_stmt p s)) → IsTrue (is_flow_stmt (placed_stmt p s))
stmt_rule p (stmt.Set m a) r t f = let k = both_true (is_flow_target m) (is_flow_word a) t in and_true (is_flow_target m) _ k.0 (placed_flow p a _ refl f r k.1)
stmt_rule p (stmt.Load m width a) r t f = let k = both_true (is_flow_target m) (is_flow_word a) t in and_true (is_flow_target m) _ k.0 (placed_flow p a _ refl f r k.1)
stmt_rule p (stmt.Store width a b) r t f =
    let k = both_true (is_flow_word a) (is_flow_word b) t in
    let g = both_true (word_fits (placed_word p a)) (word_fits (placed_word p b)) f in
    and_true (is_flow_word (placed_word p a)) (is_flow_word (placed_word p b)) (placed_flow p a _ refl g.0 r k.0) (placed_flow p b _ refl g.1 r k.1)
stmt_rule p (stmt.Ext a) r t f = placed_flow p a _ refl f r t
stmt_rule p (stmt.Trap vector a) r t f = let k = both_true (is_word vector) (is_flow_word a) t in and_true (is_word vector) _ k.0 (placed_flow p a _ refl f r k.1)

-- statements and an end keep it
abbrev pub IsRuled : List Stmt → BlockEnd → Type 0
IsRuled ss e = IsTrue (are_flow_stmts ss) × IsTrue (is_flow_end e)

one_ruled : (s : Stmt) (r : Rest) → IsTrue (is_flow_stmt s) → IsRuled r.0 r.1 → IsRuled (one_more s r).0 (one_more s r).1
one_ruled s r t h = (and_true (is_flow_stmt s) (are_flow_stmts r.0) t h.0, h.1)

first_ruled : (d : Delayed) → IsTrue (are_flow_delayed (d ∷ [])) → (ss : List Stmt) (e : BlockEnd) (q : Rest) → first_with d ss e ≡ Some q → IsRuled ss e → IsRuled q.0 q.1
first_ruled d r = first_cases d (λ ss e q. IsRuled ss e → IsRuled q.0 q.1) (λ e i f h. (refl, end_rule (d ∷ []) e r h.1 f))
    (λ s ss e i f h. let k = both_true (is_flow_stmt s) (are_flow_stmts ss) h.0 in (and_true (is_flow_stmt (placed_stmt (d ∷ []) s)) (are_flow_stmts ss) (stmt_rule (d ∷ []) s r k.0 f) k.1, h.1))

stmt_ruled : (once : NameSet) (s : Stmt) (r : Rest) → IsTrue (is_flow_stmt s) → IsRuled r.0 r.1 → IsRuled (stmt_before once s r).0 (stmt_before once s r).1
stmt_ruled once (stmt.Set m a) r t h =
    set_cases once (record { name = m; word = a }) r (λ q. IsRuled q.0 q.1) (λ f. one_ruled (stmt.Set m a) r t h) (λ f. one_ruled (stmt.Set m a) r t h)
    (λ q o e. first_ruled (record { name = m; word = a }) (and_true (is_flow_target m && is_flow_word a) true t refl) r.0 r.1 q e h)
stmt_ruled once (stmt.Load m width a) r t h = one_ruled (stmt.Load m width a) r t h
stmt_ruled once (stmt.Store width a b) r t h = one_ruled (stmt.Store width a b) r t h
stmt_ruled once (stmt.Ext a) r t h = one_ruled (stmt.Ext a) r t h
stmt_ruled once (stmt.Trap vector a) r t h = one_ruled (stmt.Trap vector a) r t h

pub moved_ruled : (once : NameSet) (ss : List Stmt) (e : BlockEnd) → IsRuled ss e → IsRuled (moved once ss ([], e)).0 (moved once ss ([], e)).1
moved_ruled once [] e h = h
moved_ruled once (s ∷ ss) e h = let k = both_true (is_flow_stmt s) (are_flow_stmts ss) h.0 in stmt_ruled once s (moved once ss ([], e)) k.0 (moved_ruled once ss e (k.1, h.1))

-- ---- what a block has

alike_placed : (p : List Delayed) (a b : BlockEnd) → EndsAlike a b → EndsAlike a (placed_end p b)
alike_placed p a (end.Go b) h = h
alike_placed p (end.Branch t x y) (end.Branch u c d) h = h
alike_placed p a (end.Branch u c d) h = absurd h
alike_placed p (end.Switch x cases) (end.Switch y others) h = h
alike_placed p a (end.Switch y others) h = absurd h
alike_placed p a end.Return h = h
alike_placed p (end.Leave x) (end.Leave y) h = h
alike_placed p a (end.Leave y) h = absurd h

alike_self : (a : BlockEnd) → EndsAlike a a
alike_self (end.Go a) = refl
alike_self (end.Branch t a b) = (refl, refl)
alike_self (end.Switch a cases) = refl
alike_self end.Return = tt
alike_self (end.Leave a) = tt

-- the rest of a block has as many loads, stores and calls as another, and an end of its kind
pub record HasAlike (ss : List Stmt) (e : BlockEnd) (r : Rest) : Type 0 where
  pub end : EndsAlike e r.1
  pub loads : loads_of_stmts r.0 ≡ loads_of_stmts ss
  pub stores : stores_of_stmts r.0 ≡ stores_of_stmts ss
  pub calls : calls_of_stmts r.0 ≡ calls_of_stmts ss

one_alike : (s : Stmt) (ss : List Stmt) (e : BlockEnd) (r : Rest) → HasAlike ss e r → HasAlike (s ∷ ss) e (one_more s r)
one_alike s ss e r h = record { end = h.end; loads = ap (λ x. loads_of_stmt s + x) h.loads; stores = ap (λ x. stores_of_stmt s + x) h.stores; calls = ap (λ x. calls_of_stmt s + x) h.calls }

loads_placed : (p : List Delayed) (s : Stmt) → loads_of_stmt (placed_stmt p s) ≡ loads_of_stmt s
loads_placed p (stmt.Set m a) = refl
loads_placed p (stmt.Load m width a) = refl
loads_placed p (stmt.Store width a b) = refl
loads_placed p (stmt.Ext a) = refl
loads_placed p (stmt.Trap vector a) = refl

stores_placed : (p : List Delayed) (s : Stmt) → stores_of_stmt (placed_stmt p s) ≡ stores_of_stmt s
stores_placed p (stmt.Set m a) = refl
stores_placed p (stmt.Load m width a) = refl
stores_placed p (stmt.Store width a b) = refl
stores_placed p (stmt.Ext a) = refl
stores_placed p (stmt.Trap vector a) = refl

calls_placed : (p : List Delayed) (s : Stmt) → calls_of_stmt (placed_stmt p s) ≡ calls_of_stmt s
calls_placed p (stmt.Set m a) = refl
calls_placed p (stmt.Load m width a) = refl
calls_placed p (stmt.Store width a b) = refl
calls_placed p (stmt.Ext a) = refl
calls_placed p (stmt.Trap vector a) = refl

first_alike : (d : Delayed) (all : List Stmt) (last : BlockEnd) (ss : List Stmt) (e : BlockEnd) (q : Rest) → first_with d ss e ≡ Some q → HasAlike all last (ss, e) → HasAlike all last q
first_alike d all last = first_cases d (λ ss e q. HasAlike all last (ss, e) → HasAlike all last q)
    (λ e i f h. record { end = alike_placed (d ∷ []) last e h.end; loads = h.loads; stores = h.stores; calls = h.calls })
    (λ s ss e i f h. record {
      end = h.end;
      loads = ap (λ x. x + loads_of_stmts ss) (loads_placed (d ∷ []) s) ∙ h.loads;
      stores = ap (λ x. x + stores_of_stmts ss) (stores_placed (d ∷ []) s) ∙ h.stores;
      calls = ap (λ x. x + calls_of_stmts ss) (calls_placed (d ∷ []) s) ∙ h.calls;
    })

-- a set has none of them
zero_more : (n : ℕ) → n ≡ 0 + n
zero_more n = omega arith

without_set : (ss : List Stmt) (e : BlockEnd) (r : Rest) (m : Name) (a : CExpr) → HasAlike ss e r → HasAlike (stmt.Set m a ∷ ss) e r
without_set ss e r m a h = record { end = h.end; loads = h.loads ∙ zero_more _; stores = h.stores ∙ zero_more _; calls = h.calls ∙ zero_more _ }

stmt_alike : (once : NameSet) (s : Stmt) (ss : List Stmt) (e : BlockEnd) (r : Rest) → HasAlike ss e r → HasAlike (s ∷ ss) e (stmt_before once s r)
stmt_alike once (stmt.Set m a) ss e r h =
    set_cases once (record { name = m; word = a }) r (HasAlike (stmt.Set m a ∷ ss) e) (λ f. one_alike (stmt.Set m a) ss e r h) (λ f. one_alike (stmt.Set m a) ss e r h)
    (λ q o i. first_alike (record { name = m; word = a }) (stmt.Set m a ∷ ss) e r.0 r.1 q i (without_set ss e r m a h))
stmt_alike once (stmt.Load m width a) ss e r h = one_alike (stmt.Load m width a) ss e r h
stmt_alike once (stmt.Store width a b) ss e r h = one_alike (stmt.Store width a b) ss e r h
stmt_alike once (stmt.Ext a) ss e r h = one_alike (stmt.Ext a) ss e r h
stmt_alike once (stmt.Trap vector a) ss e r h = one_alike (stmt.Trap vector a) ss e r h

pub moved_alike : (once : NameSet) (ss : List Stmt) (e : BlockEnd) → HasAlike ss e (moved once ss ([], e))
moved_alike once [] e = record { end = alike_self e; loads = refl; stores = refl; calls = refl }
moved_alike once (s ∷ ss) e = stmt_alike once s ss e (moved once ss ([], e)) (moved_alike once ss e)
