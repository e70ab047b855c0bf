-- A statement with delayed words in place does, from a world that is behind, what the statement does.
use Rattle.std.proofs.Common.{◌≡◌, ◌⊎◌, inl, inr, ℕ, Bool, true, false, cond, nat_eq, ◌||◌, List, [], ◌∷◌, ◌++◌, Option, Some, None, refl, sym, ap, ◌∙◌, subst}
use Rattle.std.specs.Prelude.{IsTrue}
use Rattle.dream_words.specs.declared.machine.Name.{Name}
use Rattle.dream_words.specs.declared.machine.Width.{Width}
use Rattle.dream_words.specs.declared.outcome.Answer.{Answer}
use Rattle.dream_words.specs.declared.outcome.Call.{Call}
use Rattle.dream_words.specs.declared.outcome.Outcome.{Outcome}
use Rattle.dream_words.specs.declared.outcome.Outcome.TheVariants as outcome
use Rattle.dream_words.specs.Memory.{load, store, bytes_of}
use Rattle.dream_words.specs.Pages.{first_bad}
use Rattle.run_parts.specs.Steps.{Next, Halt, having, then_do}
use Rattle.run_parts.specs.World.{Names, World, with_name, regs_in, answered}
use Rattle.run_parts.specs.Effects.{Doing, set_word, allowing, answered_by, calling}
use Rattle.c_syntax.specs.declared.syntax.CExpr.{CExpr, CExpr-F, roll-CExpr}
use Rattle.c_syntax.specs.Value.{word_of}
use Rattle.c_syntax.specs.Run.{word_in}
use Rattle.micro_ir.specs.declared.flow.Stmt.{Stmt}
use Rattle.micro_ir.specs.declared.flow.Stmt.TheVariants as stmt
use Rattle.micro_ir.specs.Rule.{is_flow_target}
use Rattle.micro_ir.specs.Run.{stmt_does}
use Rattle.flow_passes.specs.Uses.{NameSet, same_name, is_register, is_flag, word_reads}
use Rattle.flow_passes.specs.Laws.{Within}
use Rattle.flow_passes.proofs.Names.{or_left, or_right, same_self, same_regs, but_names}
use Rattle.expr_fold.specs.declared.delayed.Delayed.{Delayed}
use Rattle.expr_fold.specs.Delayed.{none_reads, without, are_flags}
use Rattle.expr_fold.specs.Placed.{placed_word, placed_stmt}
use Rattle.expr_fold.specs.Follows.{Lags, Behind, DoesBehind, Sees}
use Rattle.expr_fold.proofs.Placing.{word_placed}
use Rattle.expr_fold.proofs.Named.{same_true, set_here, true_or_false, not_both}
use Rattle.expr_fold.proofs.Layers.{word_step}
use Rattle.expr_fold.proofs.Lagging.{lag_within, lag_delay, lag_load, lag_into, lag_same, lag_answer, same_registers}

-- ---- worlds

-- a world that is behind differs in its names alone
pub behind_names : (seen : NameSet) (p : List Delayed) (w u : World) → Behind seen p w u → u ≡ record w { names = u.names }
behind_names seen p w u b = but_names (λ n. false) w u (record { names = λ n t. absurd (let z : ⊥ = cc in z); mem = b.mem; pages = b.pages; left = b.left; calls = b.calls })

-- what lags in names is behind
pub behind_by : (seen : NameSet) (p : List Delayed) (w : World) (v : Names) → Lags seen p w.names v → Behind seen p w (record w { names = v })
behind_by seen p w v l = record { names = l; mem = refl; pages = refl; left = refl; calls = refl }

-- the value of a word in place
pub value_lags : (a : CExpr) (seen : NameSet) (p : List Delayed) (v u : Names) → Within (word_reads a) seen → Lags seen p v u → word_of (placed_word p a) u ≡ word_of a v
value_lags a seen p v u i l = word_placed p v u l.held a (λ n t f. l.others n (i n t) f)

having_behind : (after : NameSet) (q : List Delayed) (o p : Option ℕ) (k j : ℕ → Doing) → p ≡ o → ((x : ℕ) → DoesBehind after q (k x) (j x)) → DoesBehind after q (having o k) (having p j)
having_behind after q None p k j e h = tt
having_behind after q (Some x) p k j e h = subst (λ y. DoesBehind after q (k x) (having y j)) (sym e) (h x)

allowed_behind : (after : NameSet) (q : List Delayed) (bad : Option ℕ) (w : World) (v : Names) (d e : Doing) → DoesBehind after q d e → DoesBehind after q (allowing bad w d) (allowing bad (record w { names = v }) e)
allowed_behind after q None w v d e h = h
allowed_behind after q (Some a) w v d e h = refl

-- what is seen and not set was seen
unset_within : (sets seen after : NameSet) → ((n : Name) → IsTrue (after n) → IsTrue (sets n) ⊎ IsTrue (seen n)) → ((n : Name) → sets n ≡ false) → Within after seen
unset_within sets seen after s none n i = by_case (s n i) (none n) where
  by_case : IsTrue (sets n) ⊎ IsTrue (seen n) → sets n ≡ false → IsTrue (seen n)
  by_case (inl t) f = absurd (let z : ⊥ = cc in z)
  by_case (inr t) f = t

-- ---- statements that are done at once

trap_behind : (after : NameSet) (q : List Delayed) (b : Bool) (o : Outcome) (w : World) (v : Names) → Lags after q w.names v → DoesBehind after q (cond b (Next w) (Halt o)) (cond b (Next (record w { names = v })) (Halt o))
trap_behind after q true o w v l = (record w { names = v }, refl, behind_by after q w v l)
trap_behind after q false o w v l = refl

pub store_behind : (width : Width) (a b : CExpr) (seen after : NameSet) (p : List Delayed) (w : World) (v : Names) → Sees (stmt.Store width a b) seen after → Lags seen p w.names v
    → DoesBehind after p (stmt_does (stmt.Store width a b) w) (stmt_does (placed_stmt p (stmt.Store width a b)) (record w { names = v }))
store_behind width a b seen after p w v s l =
    having_behind after p (word_in a w) (word_in (placed_word p a) (record w { names = v })) _ _ (value_lags a seen p w.names v (λ n r. s.reads n (or_left (word_reads a n) (word_reads b n) r)) l)
    (λ at. having_behind after p (word_in b w) (word_in (placed_word p b) (record w { names = v })) _ _ (value_lags b seen p w.names v (λ n r. s.reads n (or_right (word_reads a n) (word_reads b n) r)) l)
    (λ x. allowed_behind after p (first_bad w.pages.write at (bytes_of width)) w v _ _ (
      record w { names = v; mem = store w.mem at (bytes_of width) x },
      refl,
      record { names = lag_within after seen p w.names v (unset_within (λ n. false) seen after s.after_it (λ n. refl)) l; mem = refl; pages = refl; left = refl; calls = refl },
    )))

pub trap_does : (vector : ℕ) (a : CExpr) (seen after : NameSet) (p : List Delayed) (w : World) (v : Names) → Sees (stmt.Trap vector a) seen after → Lags seen p w.names v
    → DoesBehind after p (stmt_does (stmt.Trap vector a) w) (stmt_does (placed_stmt p (stmt.Trap vector a)) (record w { names = v }))
trap_does vector a seen after p w v s l =
    having_behind after p (word_in a w) (word_in (placed_word p a) (record w { names = v })) _ _ (value_lags a seen p w.names v s.reads l)
    (λ x. trap_behind after p (nat_eq x 0) (outcome.Faulted vector 0 w.mem w.calls) w v (lag_within after seen p w.names v (unset_within (λ n. false) seen after s.after_it (λ n. refl)) l))

pub load_behind : (m : Name) (width : Width) (a : CExpr) (seen after : NameSet) (p : List Delayed) (w : World) (v : Names) → IsTrue (is_flow_target m) → IsTrue (none_reads (without m p) m)
    → Sees (stmt.Load m width a) seen after → Lags seen p w.names v
    → DoesBehind after (without m p) (stmt_does (stmt.Load m width a) w) (stmt_does (placed_stmt p (stmt.Load m width a)) (record w { names = v }))
load_behind m width a seen after p w v t r s l =
    having_behind after (without m p) (word_in a w) (word_in (placed_word p a) (record w { names = v })) _ _ (value_lags a seen p w.names v s.reads l)
    (λ at. allowed_behind after (without m p) (first_bad w.pages.read at (bytes_of width)) w v _ _ (
      set_word m (load w.mem at (bytes_of width)) (record w { names = v }),
      refl,
      record { names = lag_load seen after m (load w.mem at (bytes_of width)) p w.names v t r s.after_it l; mem = refl; pages = refl; left = refl; calls = refl },
    ))

-- ---- a load into another name

pub into_behind : (t r : Name) (width : Width) (a : CExpr) (seen after : NameSet) (p : List Delayed) (w : World) (v : Names) → IsTrue (is_flow_target t) → IsTrue (is_flow_target r)
    → IsTrue (none_reads (without r (without t p)) r) → Sees (stmt.Load t width a) seen after → after r ≡ false → Lags seen p w.names v
    → DoesBehind after (without r (without t p) ++ (record { name = t; word = roll-CExpr (CExpr-F.Name r) }) ∷ []) (stmt_does (stmt.Load t width a) w) (stmt_does (stmt.Load r width (placed_word p a)) (record w { names = v }))
into_behind t r width a seen after p w v gt gr n s lost l =
    let q : List Delayed = without r (without t p) ++ (record { name = t; word = roll-CExpr (CExpr-F.Name r) }) ∷ [] in
    having_behind after q (word_in a w) (word_in (placed_word p a) (record w { names = v })) _ _ (value_lags a seen p w.names v s.reads l)
    (λ at. allowed_behind after q (first_bad w.pages.read at (bytes_of width)) w v _ _ (
      set_word r (load w.mem at (bytes_of width)) (record w { names = v }),
      refl,
      record { names = lag_into seen after t r (load w.mem at (bytes_of width)) p w.names v gt gr n s.after_it lost l; mem = refl; pages = refl; left = refl; calls = refl },
    ))

-- ---- calls

answer_behind : (seen after : NameSet) (p : List Delayed) (left : List Answer) (calls : List Call) (w : World) (v : Names) → IsTrue (are_flags p)
    → ((n : Name) → IsTrue (after n) → IsTrue (is_register n || is_flag n) ⊎ IsTrue (seen n)) → Lags seen p w.names v
    → DoesBehind after [] (answered_by left calls w) (answered_by left calls (record w { names = v }))
answer_behind seen after p [] calls w v r s l = refl
answer_behind seen after p (a ∷ rest) calls w v r s l =
    (record w { names = answered a v; mem = a.mem; left = rest; calls = calls }, refl, record { names = lag_answer a seen after p w.names v r s l; mem = refl; pages = refl; left = refl; calls = refl })

pub calling_behind : (seen after : NameSet) (p : List Delayed) (target : ℕ) (w : World) (v : Names) → IsTrue (are_flags p) → Within is_register seen
    → ((n : Name) → IsTrue (after n) → IsTrue (is_register n || is_flag n) ⊎ IsTrue (seen n)) → Lags seen p w.names v
    → DoesBehind after [] (calling target w) (calling target (record w { names = v }))
calling_behind seen after p target w v r i s l =
    subst (λ q. DoesBehind after [] (calling target w) (answered_by w.left (w.calls ++ (record { target = target; regs = q; mem = w.mem }) ∷ []) (record w { names = v })))
    (sym (same_regs w.names v (same_registers seen p w.names v r i l)))
    (answer_behind seen after p w.left (w.calls ++ (record { target = target; regs = regs_in w.names; mem = w.mem }) ∷ []) w v r s l)

pub ext_behind : (a : CExpr) (seen after : NameSet) (p : List Delayed) (w : World) (v : Names) → IsTrue (are_flags p) → Sees (stmt.Ext a) seen after → Lags seen p w.names v
    → DoesBehind after [] (stmt_does (stmt.Ext a) w) (stmt_does (placed_stmt p (stmt.Ext a)) (record w { names = v }))
ext_behind a seen after p w v r s l =
    having_behind after [] (word_in a w) (word_in (placed_word p a) (record w { names = v })) _ _ (value_lags a seen p w.names v (λ n t. s.reads n (or_right (is_register n) (word_reads a n) t)) l)
    (λ target. calling_behind seen after p target w v r (λ n t. s.reads n (or_left (is_register n) (word_reads a n) t)) s.after_it l)

-- ---- a set that is delayed

delayed_by : (after : NameSet) (m : Name) (a : CExpr) (q : ℕ → List Delayed) (o : Option ℕ) (w : World) (v : Names) → ((x : ℕ) → o ≡ Some x → Lags after (q x) (with_name w.names m x) v)
    → (r : List Delayed) → ((x : ℕ) → q x ≡ r) → DoesBehind after r (having o (λ x. Next (set_word m x w))) (Next (record w { names = v }))
delayed_by after m a q None w v h r e = tt
delayed_by after m a q (Some x) w v h r e =
    (record w { names = v }, refl, record { names = subst (λ y. Lags after y (with_name w.names m x) v) (e x) (h x refl); mem = refl; pages = refl; left = refl; calls = refl })

pub delay_behind : (m : Name) (a : CExpr) (seen after : NameSet) (p : List Delayed) (w : World) (v : Names) → IsTrue (is_flow_target m) → Sees (stmt.Set m a) seen after → Lags seen p w.names v
    → DoesBehind after (without m p ++ (record { name = m; word = placed_word p a }) ∷ []) (stmt_does (stmt.Set m a) w) (Next (record w { names = v }))
delay_behind m a seen after p w v t s l =
    delayed_by after m a (λ x. without m p ++ (record { name = m; word = placed_word p a }) ∷ []) (word_in a w) w v
    (λ x e. lag_delay seen after m (placed_word p a) x p w.names v t (value_lags a seen p w.names v s.reads l ∙ e) s.after_it l)
    (without m p ++ (record { name = m; word = placed_word p a }) ∷ []) (λ x. refl)

-- a set of a name to the word that it has among the new names
some_same : (x y : ℕ) → Some x ≡ Some y → x ≡ y
some_same x y e = cc

pub same_behind : (m : Name) (a : CExpr) (seen after : NameSet) (p : List Delayed) (w : World) (v : Names) → IsTrue (is_flow_target m) → Sees (stmt.Set m a) seen after → placed_word p a ≡ roll-CExpr (CExpr-F.Name m)
    → Lags seen p w.names v → DoesBehind after (without m p) (stmt_does (stmt.Set m a) w) (Next (record w { names = v }))
same_behind m a seen after p w v t s e l =
    delayed_by after m a (λ x. without m p) (word_in a w) w v
    (λ x f. lag_same seen after m x p w.names v t
    (some_same (v m) x (sym (ap (λ b. word_of b v) e ∙ word_step (CExpr-F.Name m) v) ∙ value_lags a seen p w.names v s.reads l ∙ f)) s.after_it l)
    (without m p) (λ x. refl)
