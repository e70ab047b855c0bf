-- What follows old statements still follows after a step of the pass.
use Rattle.std.proofs.Common.{◌≡◌, ℕ, ◌+◌, not, nat_le, true, List, [], ◌∷◌, ◌++◌, Some, refl, sym, ap, ◌∙◌, subst, arith}
use Rattle.std.specs.Prelude.{IsTrue, slice_get, remove}
use Rattle.dream_words.specs.declared.machine.Name.{Name}
use Rattle.dream_words.specs.declared.machine.Width.{Width}
use Rattle.run_parts.specs.Steps.{Next, Halt, Jam, having, then_do}
use Rattle.run_parts.specs.World.{World, Names}
use Rattle.run_parts.specs.Effects.{Doing, set_word}
use Rattle.c_syntax.specs.declared.syntax.CExpr as e
use Rattle.c_syntax.specs.declared.syntax.CExpr.{CExpr, CExpr-F, roll-CExpr}
use Rattle.micro_ir.specs.declared.flow.Stmt.{Stmt}
use Rattle.micro_ir.specs.declared.flow.Stmt.TheVariants as stmt
use Rattle.c_syntax.specs.Depth.{word_depth, word_depth_at, cond_depth_at}
use Rattle.c_syntax.specs.Formed.{is_base}
use Rattle.micro_ir.specs.Rule.{is_flow_name, has_flow_names, is_flow_target, is_flow_word, is_flow_stmt, are_flow_stmts}
use Rattle.micro_ir.specs.Run.{stmt_does, stmts_do}
use Rattle.micro_ir.specs.Counts.{stores_of_stmt, stores_of_stmts, calls_of_stmt, calls_of_stmts}
use Rattle.micro_ir.proofs.Values.{both_true, names_layer}
use Rattle.flow_passes.specs.Uses.{NameSet}
use Rattle.flow_passes.specs.Keeps.{loads_of_stmt, loads_of_stmts}
use Rattle.expr_fold.specs.declared.delayed.Delayed.{Delayed}
use Rattle.expr_fold.specs.Delayed.{none_reads, without, are_flags, are_flow_delayed}
use Rattle.expr_fold.specs.Placed.{placed_word, placed_stmt}
use Rattle.expr_fold.specs.Said.{AreSaid}
use Rattle.expr_fold.specs.Follows.{Lags, Behind, DoesBehind, Follows, Waits, Takes, TakesInto}
use Rattle.expr_fold.proofs.Named.{and_true}
use Rattle.expr_fold.proofs.Lists.{rule_append, filter_rule, pick_rule, said_rule}
use Rattle.expr_fold.proofs.Lagging.{lag_set, set_value, lag_back}
use Rattle.expr_fold.proofs.Doing.{behind_names, store_behind, trap_does, load_behind, into_behind, ext_behind, delay_behind, same_behind}

-- ---- one more statement

then_next : (d : Doing) → then_do d (λ w. Next w) ≡ d
then_next (Next w) = refl
then_next (Halt o) = refl
then_next Jam = refl

then_then : (d : Doing) (f g : World → Doing) → then_do (then_do d f) g ≡ then_do d (λ w. then_do (f w) g)
then_then (Next w) f g = refl
then_then (Halt o) f g = refl
then_then Jam f g = refl

pub one_more : (ss : List Stmt) (s : Stmt) (w : World) → stmts_do (ss ++ s ∷ []) w ≡ then_do (stmts_do ss w) (stmt_does s)
one_more [] s w = then_next (stmt_does s w)
one_more (r ∷ rs) s w = by_rest (stmt_does r w) (one_more rs s) where
  by_rest : (d : Doing) → ((u : World) → stmts_do (rs ++ s ∷ []) u ≡ then_do (stmts_do rs u) (stmt_does s)) → then_do d (stmts_do (rs ++ s ∷ [])) ≡ then_do (then_do d (stmts_do rs)) (stmt_does s)
  by_rest (Next u) h = h u
  by_rest (Halt o) h = refl
  by_rest Jam h = refl

pub rule_more : (ss : List Stmt) (s : Stmt) → IsTrue (are_flow_stmts ss) → IsTrue (is_flow_stmt s) → IsTrue (are_flow_stmts (ss ++ s ∷ []))
rule_more [] s h t = and_true (is_flow_stmt s) true t refl
rule_more (r ∷ rs) s h t = let k = both_true (is_flow_stmt r) (are_flow_stmts rs) h in and_true (is_flow_stmt r) (are_flow_stmts (rs ++ s ∷ [])) k.0 (rule_more rs s k.1 t)

loads_more : (ss : List Stmt) (s : Stmt) → loads_of_stmts (ss ++ s ∷ []) ≡ loads_of_stmts ss + loads_of_stmt s
loads_more [] s = omega arith
loads_more (r ∷ rs) s = let e = loads_more rs s in omega (arith, e)

stores_more : (ss : List Stmt) (s : Stmt) → stores_of_stmts (ss ++ s ∷ []) ≡ stores_of_stmts ss + stores_of_stmt s
stores_more [] s = omega arith
stores_more (r ∷ rs) s = let e = stores_more rs s in omega (arith, e)

calls_more : (ss : List Stmt) (s : Stmt) → calls_of_stmts (ss ++ s ∷ []) ≡ calls_of_stmts ss + calls_of_stmt s
calls_more [] s = omega arith
calls_more (r ∷ rs) s = let e = calls_more rs s in omega (arith, e)

-- ---- what is done

-- between statements a set is done
wait_by : (seen : NameSet) (p q : List Delayed) (d e : Doing) (g : World → Doing) → DoesBehind seen p d e → ((w u : World) → Behind seen p w u → DoesBehind seen q (Next w) (g u)) → DoesBehind seen q d (then_do e g)
wait_by seen p q Jam e g h k = tt
wait_by seen p q (Halt o) e g h k = ap (λ x. then_do x g) h
wait_by seen p q (Next w) e g (u, f, b) k = subst (λ x. DoesBehind seen q (Next w) (then_do x g)) (sym f) (k w u b)

-- a statement is done in both
both_by : (seen after : NameSet) (p q : List Delayed) (d e : Doing) (f g : World → Doing) → DoesBehind seen p d e → ((w u : World) → Behind seen p w u → DoesBehind after q (f w) (g u)) → DoesBehind after q (then_do d f) (then_do e g)
both_by seen after p q Jam e f g h k = tt
both_by seen after p q (Halt o) e f g h k = ap (λ x. then_do x g) h
both_by seen after p q (Next w) e f g (u, r, b) k = subst (λ x. DoesBehind after q (f w) (then_do x g)) (sym r) (k w u b)

-- a statement is done in the old ones alone
old_by : (seen after : NameSet) (p q : List Delayed) (d e : Doing) (f : World → Doing) → DoesBehind seen p d e → ((w u : World) → Behind seen p w u → DoesBehind after q (f w) (Next u)) → DoesBehind after q (then_do d f) e
old_by seen after p q Jam e f h k = tt
old_by seen after p q (Halt o) e f h k = h
old_by seen after p q (Next w) e f (u, r, b) k = subst (λ x. DoesBehind after q (f w) x) (sym r) (k w u b)

-- nothing is done, and other sets are delayed
same_by : (seen : NameSet) (p q : List Delayed) (d e : Doing) → DoesBehind seen p d e → ((w u : World) → Behind seen p w u → Behind seen q w u) → DoesBehind seen q d e
same_by seen p q Jam e h k = tt
same_by seen p q (Halt o) e h k = h
same_by seen p q (Next w) e (u, r, b) k = (u, r, k w u b)

-- from a world with other names alone
from_names : (seen after : NameSet) (p q : List Delayed) (w u : World) (d : Doing) (g : World → Doing) → Behind seen p w u → ((v : Names) → Lags seen p w.names v → DoesBehind after q d (g (record w { names = v }))) → DoesBehind after q d (g u)
from_names seen after p q w u d g b k = subst (λ x. DoesBehind after q d (g x)) (sym (behind_names seen p w u b)) (k u.names b.names)

-- ---- steps between statements

set_does : (seen : NameSet) (p : List Delayed) (i : ℕ) (d : Delayed) (q : List Delayed) (w : World) (v : Names) → slice_get p i ≡ Some d → IsTrue (is_flow_target d.name) → AreSaid d (remove p i) q → Lags seen p w.names v
    → DoesBehind seen q (Next w) (stmt_does (stmt.Set d.name d.word) (record w { names = v }))
set_does seen p i d q w v e t n l =
    subst (λ o. DoesBehind seen q (Next w) (having o (λ x. Next (set_word d.name x (record w { names = v }))))) (sym (set_value seen p i d w.names v e l))
    (set_word d.name (w.names d.name) (record w { names = v }), refl, record { names = lag_set seen p i d q w.names v e t n l; mem = refl; pages = refl; left = refl; calls = refl })

-- a delayed set is done, and the others are said by its name
pub waits_set : (new : List Stmt) (p : List Delayed) (i : ℕ) (d : Delayed) (q : List Delayed) → slice_get p i ≡ Some d → AreSaid d (remove p i) q → Waits new p (new ++ stmt.Set d.name d.word ∷ []) q
waits_set new p i d q e n before seen old h =
    let k = pick_rule p i d e h.delayed_rule in
    let t = both_true (is_flow_target d.name) (is_flow_word d.word) k.0 in
    record {
      does = λ w u iw iu al. subst (DoesBehind seen q (stmts_do old w)) (sym (one_more new (stmt.Set d.name d.word) u))
          (wait_by seen p q (stmts_do old w) (stmts_do new u) (stmt_does (stmt.Set d.name d.word)) (h.does w u iw iu al)
          (λ x y b. from_names seen seen p q x y (Next x) (stmt_does (stmt.Set d.name d.word)) b (λ v l. set_does seen p i d q x v e t.0 n l)));
      rule = rule_more new (stmt.Set d.name d.word) h.rule k.0;
      delayed_rule = said_rule d (remove p i) q t.0 n k.1;
      loads = loads_more new (stmt.Set d.name d.word) ∙ (let r = h.loads in omega (arith, r));
      stores = stores_more new (stmt.Set d.name d.word) ∙ (let r = h.stores in omega (arith, r));
      calls = calls_more new (stmt.Set d.name d.word) ∙ (let r = h.calls in omega (arith, r));
    }

-- a delayed set stands at the end
pub waits_back : (new : List Stmt) (p : List Delayed) (i : ℕ) (d : Delayed) → slice_get p i ≡ Some d → Waits new p new (remove p i ++ d ∷ [])
waits_back new p i d e before seen old h =
    let k = pick_rule p i d e h.delayed_rule in
    record {
      does = λ w u iw iu al. same_by seen p (remove p i ++ d ∷ []) (stmts_do old w) (stmts_do new u) (h.does w u iw iu al)
          (λ x y b. record { names = lag_back seen p i d x.names y.names e b.names; mem = b.mem; pages = b.pages; left = b.left; calls = b.calls });
      rule = h.rule;
      delayed_rule = rule_append (remove p i) d k.1 k.0;
      loads = h.loads;
      stores = h.stores;
      calls = h.calls;
    }

pub waits_on : (a : List Stmt) (p : List Delayed) (b : List Stmt) (q : List Delayed) (c : List Stmt) (r : List Delayed) → Waits a p b q → Waits b q c r → Waits a p c r
waits_on a p b q c r f g before seen old h = g before seen old (f before seen old h)

-- ---- statements

-- what a statement done in both gives
taken : (s t : Stmt) (before seen after : NameSet) (old new : List Stmt) (p q : List Delayed) → IsTrue (is_flow_stmt t) → IsTrue (are_flow_delayed q) → loads_of_stmt t ≡ loads_of_stmt s → stores_of_stmt t ≡ stores_of_stmt s
    → calls_of_stmt t ≡ calls_of_stmt s → ((w : World) (v : Names) → Lags seen p w.names v → DoesBehind after q (stmt_does s w) (stmt_does t (record w { names = v }))) → Follows before seen old new p
    → Follows before after (old ++ s ∷ []) (new ++ t ∷ []) q
taken s t before seen after old new p q r dr el es ec k h = record {
  does = λ w u iw iu al. subst (λ x. DoesBehind after q x (stmts_do (new ++ t ∷ []) u)) (sym (one_more old s w)) (subst (DoesBehind after q (then_do (stmts_do old w) (stmt_does s))) (sym (one_more new t u))
      (both_by seen after p q (stmts_do old w) (stmts_do new u) (stmt_does s) (stmt_does t) (h.does w u iw iu al) (λ x y b. from_names seen after p q x y (stmt_does s x) (stmt_does t) b (λ v l. k x v l))));
  rule = rule_more new t h.rule r;
  delayed_rule = dr;
  loads = loads_more new t ∙ (let a = h.loads in let b = loads_more old s in omega (arith, a, b, el));
  stores = stores_more new t ∙ (let a = h.stores in let b = stores_more old s in omega (arith, a, b, es));
  calls = calls_more new t ∙ (let a = h.calls in let b = calls_more old s in omega (arith, a, b, ec));
}

pub takes_store : (width : Width) (a b : CExpr) (new : List Stmt) (p : List Delayed) → IsTrue (is_flow_stmt (placed_stmt p (stmt.Store width a b)))
    → Takes (stmt.Store width a b) new p (new ++ placed_stmt p (stmt.Store width a b) ∷ []) p
takes_store width a b new p r before seen after old t s h =
    taken (stmt.Store width a b) (placed_stmt p (stmt.Store width a b)) before seen after old new p p r h.delayed_rule refl refl refl (λ w v l. store_behind width a b seen after p w v s l) h

pub takes_trap : (vector : ℕ) (a : CExpr) (new : List Stmt) (p : List Delayed) → IsTrue (is_flow_stmt (placed_stmt p (stmt.Trap vector a)))
    → Takes (stmt.Trap vector a) new p (new ++ placed_stmt p (stmt.Trap vector a) ∷ []) p
takes_trap vector a new p r before seen after old t s h =
    taken (stmt.Trap vector a) (placed_stmt p (stmt.Trap vector a)) before seen after old new p p r h.delayed_rule refl refl refl (λ w v l. trap_does vector a seen after p w v s l) h

pub takes_load : (m : Name) (width : Width) (a : CExpr) (new : List Stmt) (p : List Delayed) → IsTrue (is_flow_stmt (placed_stmt p (stmt.Load m width a))) → IsTrue (none_reads (without m p) m)
    → Takes (stmt.Load m width a) new p (new ++ placed_stmt p (stmt.Load m width a) ∷ []) (without m p)
takes_load m width a new p r n before seen after old t s h =
    taken (stmt.Load m width a) (placed_stmt p (stmt.Load m width a)) before seen after old new p (without m p) r (filter_rule _ p h.delayed_rule) refl refl refl
    (λ w v l. load_behind m width a seen after p w v (both_true (is_flow_target m) (is_flow_word a) t).0 n s l) h

pub takes_ext : (a : CExpr) (new : List Stmt) (p : List Delayed) → IsTrue (is_flow_stmt (placed_stmt p (stmt.Ext a))) → IsTrue (are_flags p)
    → Takes (stmt.Ext a) new p (new ++ placed_stmt p (stmt.Ext a) ∷ []) []
takes_ext a new p r n before seen after old t s h =
    taken (stmt.Ext a) (placed_stmt p (stmt.Ext a)) before seen after old new p [] r refl refl refl refl (λ w v l. ext_behind a seen after p w v n s l) h

pub takes_set : (m : Name) (a : CExpr) (new : List Stmt) (p : List Delayed) → IsTrue (is_flow_stmt (placed_stmt p (stmt.Set m a)))
    → Takes (stmt.Set m a) new p new (without m p ++ (record { name = m; word = placed_word p a }) ∷ [])
takes_set m a new p r before seen after old t s h =
    let q : List Delayed = without m p ++ (record { name = m; word = placed_word p a }) ∷ [] in
    record {
      does = λ w u iw iu al. subst (λ x. DoesBehind after q x (stmts_do new u)) (sym (one_more old (stmt.Set m a) w))
          (old_by seen after p q (stmts_do old w) (stmts_do new u) (stmt_does (stmt.Set m a)) (h.does w u iw iu al)
          (λ x y b. from_names seen after p q x y (stmt_does (stmt.Set m a) x) (λ z. Next z) b (λ v l. delay_behind m a seen after p x v (both_true (is_flow_target m) (is_flow_word a) t).0 s l)));
      rule = h.rule;
      delayed_rule = rule_append (without m p) (record { name = m; word = placed_word p a }) (filter_rule _ p h.delayed_rule) r;
      loads = (let x = h.loads in let y = loads_more old (stmt.Set m a) in omega (arith, x, y));
      stores = (let x = h.stores in let y = stores_more old (stmt.Set m a) in omega (arith, x, y));
      calls = (let x = h.calls in let y = calls_more old (stmt.Set m a) in omega (arith, x, y));
    }

-- a set of a name to the word that it has among the new names
pub takes_same : (m : Name) (a : CExpr) (new : List Stmt) (p : List Delayed) → placed_word p a ≡ roll-CExpr (CExpr-F.Name m) → Takes (stmt.Set m a) new p new (without m p)
takes_same m a new p e before seen after old t s h = record {
  does = λ w u iw iu al. subst (λ x. DoesBehind after (without m p) x (stmts_do new u)) (sym (one_more old (stmt.Set m a) w))
      (old_by seen after p (without m p) (stmts_do old w) (stmts_do new u) (stmt_does (stmt.Set m a)) (h.does w u iw iu al)
      (λ x y b. from_names seen after p (without m p) x y (stmt_does (stmt.Set m a) x) (λ z. Next z) b (λ v l. same_behind m a seen after p x v (both_true (is_flow_target m) (is_flow_word a) t).0 s e l)));
  rule = h.rule;
  delayed_rule = filter_rule _ p h.delayed_rule;
  loads = (let x = h.loads in let y = loads_more old (stmt.Set m a) in omega (arith, x, y));
  stores = (let x = h.stores in let y = stores_more old (stmt.Set m a) in omega (arith, x, y));
  calls = (let x = h.calls in let y = calls_more old (stmt.Set m a) in omega (arith, x, y));
}

-- a name alone is a word of a flow
name_rule : (r : Name) → IsTrue (is_flow_target r) → IsTrue (is_flow_word (roll-CExpr (CExpr-F.Name r)))
name_rule r g =
    let named = both_true (is_flow_name r) (not (is_base r)) g in
    and_true (has_flow_names (roll-CExpr (CExpr-F.Name r))) (nat_le (word_depth (roll-CExpr (CExpr-F.Name r))) 64) (subst IsTrue (sym (names_layer (CExpr-F.Name r))) named.0)
    (subst (λ n. IsTrue (nat_le n 64)) (sym (e.fold-roll-CExpr ℕ ℕ cond_depth_at word_depth_at (CExpr-F.Name r))) refl)

-- a load into another name
pub takes_into : (t r : Name) (width : Width) (a : CExpr) (new : List Stmt) (p : List Delayed) → IsTrue (is_flow_target r) → IsTrue (is_flow_word (placed_word p a)) → IsTrue (none_reads (without r (without t p)) r)
    → TakesInto (stmt.Load t width a) r new p (new ++ stmt.Load r width (placed_word p a) ∷ []) (without r (without t p) ++ (record { name = t; word = roll-CExpr (CExpr-F.Name r) }) ∷ [])
takes_into t r width a new p gr f n before seen after old rule s lost h =
    let q = without r (without t p) in
    let d : Delayed = record { name = t; word = roll-CExpr (CExpr-F.Name r) } in
    let gt = (both_true (is_flow_target t) (is_flow_word a) rule).0 in
    taken (stmt.Load t width a) (stmt.Load r width (placed_word p a)) before seen after old new p (q ++ d ∷ []) (and_true (is_flow_target r) (is_flow_word (placed_word p a)) gr f)
    (rule_append q d (filter_rule _ (without t p) (filter_rule _ p h.delayed_rule)) (and_true (is_flow_target t) (is_flow_word d.word) gt (name_rule r gr))) refl refl refl
    (λ w v l. into_behind t r width a seen after p w v gt gr n s lost l) h
