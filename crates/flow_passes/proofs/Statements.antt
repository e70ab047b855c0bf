-- A statement does alike from worlds that are alike in what it reads.
use Rattle.std.proofs.Common.{◌≡◌, ◌⊎◌, inl, inr, ℕ, Bool, true, false, cond, nat_eq, ◌||◌, List, [], ◌∷◌, ◌++◌, Option, Some, None, refl, sym, subst}
use Rattle.std.specs.Prelude.{IsTrue}
use Rattle.dream_words.specs.declared.machine.Name.{Name}
use Rattle.dream_words.specs.declared.outcome.Answer.{Answer}
use Rattle.dream_words.specs.declared.outcome.Call.{Call}
use Rattle.dream_words.specs.declared.outcome.Outcome.{Outcome}
use Rattle.dream_words.specs.declared.outcome.Outcome.TheVariants as outcome
use Rattle.dream_words.specs.Memory.{load, store, bytes_of}
use Rattle.dream_words.specs.Pages.{first_bad}
use Rattle.run_parts.specs.Steps.{Next, Halt, having}
use Rattle.run_parts.specs.World.{Names, World, regs_in, answered}
use Rattle.run_parts.specs.Effects.{Doing, set_word, allowing, answered_by, calling}
use Rattle.c_syntax.specs.declared.syntax.CExpr.{CExpr}
use Rattle.c_syntax.specs.Run.{word_in}
use Rattle.micro_ir.specs.declared.flow.Stmt.{Stmt}
use Rattle.micro_ir.specs.declared.flow.Stmt.TheVariants as stmt
use Rattle.micro_ir.specs.Rule.{is_flow_target, is_flow_word, is_flow_stmt}
use Rattle.micro_ir.specs.Run.{stmt_does}
use Rattle.micro_ir.proofs.Values.{both_true}
use Rattle.flow_passes.specs.Uses.{NameSet, same_name, is_register, is_flag, word_reads, stmt_reads, stmt_sets}
use Rattle.flow_passes.specs.Alike.{DoesAlike}
use Rattle.flow_passes.specs.Laws.{Within, SameNames, StatementsSee}
use Rattle.flow_passes.proofs.Names.{or_left, or_right, set_same, same_regs, but_names, alike_by, answered_same}
use Rattle.flow_passes.proofs.Reading.{same_value}

-- the same word, where its names are seen
pub value_seen : (a : CExpr) (before : NameSet) (v u : Names) → Within (word_reads a) before → SameNames before v u → SameNames (word_reads a) v u
value_seen a before v u i s = λ n t. s n (i n t)

having_alike : (after : NameSet) (o p : Option ℕ) (k j : ℕ → Doing) → p ≡ o → ((x : ℕ) → DoesAlike after (k x) (j x)) → DoesAlike after (having o k) (having p j)
having_alike after None p k j e h = tt
having_alike after (Some x) p k j e h = subst (λ q. DoesAlike after (k x) (having q j)) (sym e) (h x)

-- the world after a name is set
set_alike : (after : NameSet) (m : Name) (x : ℕ) (w : World) (v : Names) → IsTrue (is_flow_target m) → ((n : Name) → IsTrue (after n) → IsTrue (same_name m n) ⊎ (v n ≡ w.names n))
    → DoesAlike after (Next (set_word m x w)) (Next (set_word m x (record w { names = v })))
set_alike after m x w v t h = (set_word m x (record w { names = v }), refl, record { names = λ n i. set_same w.names v m x n t (h n i); mem = refl; pages = refl; left = refl; calls = refl })

-- an access, which may fault
allowed_alike : (after : NameSet) (bad : Option ℕ) (w : World) (v : Names) (d e : Doing) → DoesAlike after d e → DoesAlike after (allowing bad w d) (allowing bad (record w { names = v }) e)
allowed_alike after None w v d e h = h
allowed_alike after (Some a) w v d e h = refl

-- what an answer gives
answer_alike : (after : NameSet) (left : List Answer) (calls : List Call) (w : World) (v : Names) → ((n : Name) → IsTrue (after n) → IsTrue (is_register n || is_flag n) ⊎ (v n ≡ w.names n))
    → DoesAlike after (answered_by left calls w) (answered_by left calls (record w { names = v }))
answer_alike after [] calls w v h = refl
answer_alike after (a ∷ rest) calls w v h =
    (record w { names = answered a v; mem = a.mem; left = rest; calls = calls }, refl, record { names = λ n i. answered_same a w.names v n (h n i); mem = refl; pages = refl; left = refl; calls = refl })

-- a call, which is recorded with the registers
pub call_alike : (after : NameSet) (target : ℕ) (w : World) (v : Names) → SameNames is_register w.names v → ((n : Name) → IsTrue (after n) → IsTrue (is_register n || is_flag n) ⊎ (v n ≡ w.names n))
    → DoesAlike after (calling target w) (calling target (record w { names = v }))
call_alike after target w v r h =
    subst (λ q. DoesAlike after (calling target w) (answered_by w.left (w.calls ++ (record { target = target; regs = q; mem = w.mem }) ∷ []) (record w { names = v }))) (sym (same_regs w.names v r))
    (answer_alike after w.left (w.calls ++ (record { target = target; regs = regs_in w.names; mem = w.mem }) ∷ []) w v h)

trap_alike : (after : NameSet) (b : Bool) (o : Outcome) (w : World) (v : Names) → SameNames after w.names v → DoesAlike after (cond b (Next w) (Halt o)) (cond b (Next (record w { names = v })) (Halt o))
trap_alike after true o w v h = (record w { names = v }, refl, alike_by after w v h)
trap_alike after false o w v h = refl

-- what was seen before and isn't set is the same
unset : (before after : NameSet) (w : World) (v : Names) (sets : NameSet) → SameNames before w.names v → ((n : Name) → IsTrue (after n) → IsTrue (sets n) ⊎ IsTrue (before n))
    → (n : Name) → IsTrue (after n) → IsTrue (sets n) ⊎ (v n ≡ w.names n)
unset before after w v sets s h n i = unset_by (h n i) where
  unset_by : IsTrue (sets n) ⊎ IsTrue (before n) → IsTrue (sets n) ⊎ (v n ≡ w.names n)
  unset_by (inl t) = inl t
  unset_by (inr t) = inr (s n t)

-- nothing is set
kept : (before after : NameSet) (w : World) (v : Names) → SameNames before w.names v → ((n : Name) → IsTrue (after n) → IsTrue false ⊎ IsTrue (before n)) → SameNames after w.names v
kept before after w v s h n i = kept_by (h n i) where
  kept_by : IsTrue false ⊎ IsTrue (before n) → v n ≡ w.names n
  kept_by (inl t) = absurd (let z : ⊥ = cc in z)
  kept_by (inr t) = s n t

-- from worlds that differ in names alone
by_names : (s : Stmt) (before after : NameSet) (w : World) (v : Names) → IsTrue (is_flow_stmt s) → Within (stmt_reads s) before
    → ((n : Name) → IsTrue (after n) → IsTrue (stmt_sets s n) ⊎ IsTrue (before n)) → SameNames before w.names v → DoesAlike after (stmt_does s w) (stmt_does s (record w { names = v }))
by_names (stmt.Set m a) before after w v t i h s =
    having_alike after (word_in a w) (word_in a (record w { names = v })) _ _ (same_value a w.names v (value_seen a before w.names v i s))
    (λ x. set_alike after m x w v (both_true (is_flow_target m) (is_flow_word a) t).0 (unset before after w v (same_name m) s h))
by_names (stmt.Load m width a) before after w v t i h s =
    having_alike after (word_in a w) (word_in a (record w { names = v })) _ _ (same_value a w.names v (value_seen a before w.names v i s))
    (λ at. allowed_alike after (first_bad w.pages.read at (bytes_of width)) w v _ _
    (set_alike after m (load w.mem at (bytes_of width)) w v (both_true (is_flow_target m) (is_flow_word a) t).0 (unset before after w v (same_name m) s h)))
by_names (stmt.Store width a b) before after w v t i h s =
    having_alike after (word_in a w) (word_in a (record w { names = v })) _ _ (same_value a w.names v (value_seen a before w.names v (λ n r. i n (or_left (word_reads a n) (word_reads b n) r)) s))
    (λ at. having_alike after (word_in b w) (word_in b (record w { names = v })) _ _ (same_value b w.names v (value_seen b before w.names v (λ n r. i n (or_right (word_reads a n) (word_reads b n) r)) s))
    (λ x. allowed_alike after (first_bad w.pages.write at (bytes_of width)) w v _ _
    (record w { names = v; mem = store w.mem at (bytes_of width) x }, refl, record { names = kept before after w v s h; mem = refl; pages = refl; left = refl; calls = refl })))
by_names (stmt.Ext a) before after w v t i h s =
    having_alike after (word_in a w) (word_in a (record w { names = v })) _ _ (same_value a w.names v (value_seen a before w.names v (λ n r. i n (or_right (is_register n) (word_reads a n) r)) s))
    (λ target. call_alike after target w v (λ n r. s n (i n (or_left (is_register n) (word_reads a n) r))) (unset before after w v (λ n. is_register n || is_flag n) s h))
by_names (stmt.Trap vector a) before after w v t i h s =
    having_alike after (word_in a w) (word_in a (record w { names = v })) _ _ (same_value a w.names v (value_seen a before w.names v i s))
    (λ x. trap_alike after (nat_eq x 0) (outcome.Faulted vector 0 w.mem w.calls) w v (kept before after w v s h))

pub statements_see : StatementsSee
statements_see s before after w u t iw iu i h al =
    subst (λ x. DoesAlike after (stmt_does s w) (stmt_does s x)) (sym (but_names before w u al)) (by_names s before after w u.names t i h al.names)
