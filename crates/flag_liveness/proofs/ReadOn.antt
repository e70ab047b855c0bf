-- What is live before statements is read from there on.
use Rattle.std.proofs.Common.{◌≡◌, inl, inr, ℕ, zero, suc, Bool, true, false, cond, not, ◌&&◌, ◌||◌, List, [], ◌∷◌, Some, drop, refl, sym, ap, ◌∙◌}
use Rattle.std.proofs.lemmas.Bool.{false≢true}
use Rattle.std.proofs.lemmas.List.Folds.{Any-from_list_any}
use Rattle.std.specs.Prelude.{IsTrue, Contains, slice_get}
use Rattle.std.specs.List.{list_any}
use Rattle.dream_words.specs.declared.machine.Name.{Name}
use Rattle.c_syntax.specs.declared.syntax.CExpr.{CExpr}
use Rattle.micro_ir.specs.declared.flow.Stmt.{Stmt}
use Rattle.micro_ir.specs.declared.flow.Stmt.TheVariants as stmt
use Rattle.micro_ir.specs.declared.flow.End.{End as BlockEnd}
use Rattle.micro_ir.specs.declared.flow.Block.{Block}
use Rattle.micro_ir.specs.Checked.{nodes_of}
use Rattle.flow_passes.specs.Uses.{NameSet, same_name, stmt_reads, stmt_sets, end_reads}
use Rattle.flow_passes.specs.Laws.{Within}
use Rattle.flow_passes.proofs.Names.{or_left, or_right, either_of}
use Rattle.flag_liveness.specs.Before.{is_itself, is_unseen, live_before_all, live_at}
use Rattle.flag_liveness.specs.Clean.{cleaned}
use Rattle.flag_liveness.specs.Read as read
use Rattle.flag_liveness.specs.Read.{IsReadFrom}
use Rattle.flag_liveness.proofs.Setting.{same_is}

-- ---- more live names

not_less : (x y z : Bool) → (x ≡ true → y ≡ true) → (not y || z) ≡ true → (not x || z) ≡ true
not_less false y z f t = refl
not_less true true z f t = t
not_less true false z f t = absurd (false≢true (f refl))

-- what nobody sees, nobody sees where less is live
unseen_less : (s : Stmt) (small big : NameSet) → Within small big → is_unseen s big ≡ true → is_unseen s small ≡ true
unseen_less (stmt.Set m e) small big w t = not_less (small m) (big m) (is_itself m e) (w m) t
unseen_less (stmt.Load m width e) small big w t = t
unseen_less (stmt.Store width e f) small big w t = t
unseen_less (stmt.Ext e) small big w t = t
unseen_less (stmt.Trap vector e) small big w t = t

only_dead : (x y z : Bool) → (not x || z) ≡ true → (not y || z) ≡ false → x ≡ false
only_dead false y z t u = refl
only_dead true y true t u = absurd (false≢true (sym u ∙ or_true (not y))) where
  or_true : (b : Bool) → (b || true) ≡ true
  or_true true = refl
  or_true false = refl
only_dead true y false t u = absurd (false≢true t)

other_name : (m k : Name) (small : NameSet) (b : Bool) → same_name m k ≡ b → small m ≡ false → small k ≡ true → b ≡ false
other_name m k small true s d t = absurd (false≢true (sym d ∙ ap small (same_is m k s) ∙ t))
other_name m k small false s d t = refl

-- what somebody sees only where more is live sets no name that is live where less is
sets_no_live : (s : Stmt) (small big : NameSet) (k : Name) → is_unseen s small ≡ true → is_unseen s big ≡ false → small k ≡ true → stmt_sets s k ≡ false
sets_no_live (stmt.Set m e) small big k t u h = other_name m k small (same_name m k) refl (only_dead (small m) (big m) (is_itself m e) t u) h
sets_no_live (stmt.Load m width e) small big k t u h = absurd (false≢true t)
sets_no_live (stmt.Store width e f) small big k t u h = refl
sets_no_live (stmt.Ext e) small big k t u h = absurd (false≢true t)
sets_no_live (stmt.Trap vector e) small big k t u h = refl

grown : (r x y q : Bool) → (x ≡ true → y ≡ true) → (r || (x && not q)) ≡ true → (r || (y && not q)) ≡ true
grown true x y q f t = refl
grown false false y q f t = absurd (false≢true t)
grown false true true q f t = t
grown false true false q f t = absurd (false≢true (f refl))

unset : (r y q : Bool) → y ≡ true → q ≡ false → (r || (y && not q)) ≡ true
unset true y q h u = refl
unset false true true h u = sym u
unset false true false h u = refl
unset false false q h u = absurd (false≢true h)

step_within : (a b : Bool) (s : Stmt) (small big : NameSet) (k : Name) → is_unseen s small ≡ a → is_unseen s big ≡ b → Within small big → IsTrue (cond a (small k) (stmt_reads s k || (small k && not (stmt_sets s k))))
    → IsTrue (cond b (big k) (stmt_reads s k || (big k && not (stmt_sets s k))))
step_within true true s small big k p q w t = w k t
step_within true false s small big k p q w t = unset (stmt_reads s k) (big k) (stmt_sets s k) (w k t) (sets_no_live s small big k p q t)
step_within false true s small big k p q w t = absurd (false≢true (sym p ∙ unseen_less s small big w q))
step_within false false s small big k p q w t = grown (stmt_reads s k) (small k) (big k) (stmt_sets s k) (w k) t

-- where more is live after statements, more is live before them
all_within : (ss : List Stmt) (small big : NameSet) → Within small big → Within (live_before_all ss small) (live_before_all ss big)
all_within [] small big w = w
all_within (s ∷ ss) small big w =
    let less = live_before_all ss small in
    let more = live_before_all ss big in
    λ k t. step_within (is_unseen s less) (is_unseen s more) s less more k refl refl (all_within ss small big w) t

some_grown : (p q : ℕ → Bool) (xs : List ℕ) → ((x : ℕ) → p x ≡ true → q x ≡ true) → list_any p xs ≡ true → list_any q xs ≡ true
some_grown p q [] f t = t
some_grown p q (x ∷ xs) f t = elim (either_of (p x) (list_any p xs) t) [
  | inl h ↦ or_left (q x) (list_any q xs) (f x h)
  | inr h ↦ or_right (q x) (list_any q xs) (some_grown p q xs f h)
]

-- and at an end, where more is live at its nodes
pub end_within : (e : BlockEnd) (small big : ℕ → NameSet) → ((k : ℕ) → Within (small k) (big k)) → Within (live_at e small) (live_at e big)
end_within e small big w i t = elim (either_of (end_reads e i) (list_any (λ k. small k i) (nodes_of e)) t) [
  | inl h ↦ or_left (end_reads e i) (list_any (λ k. big k i) (nodes_of e)) h
  | inr h ↦ or_right (end_reads e i) (list_any (λ k. big k i) (nodes_of e)) (some_grown (λ k. small k i) (λ k. big k i) (nodes_of e) (λ k. w k i) h)
]

-- ---- from a place on

module _ (blocks : List Block) (e : BlockEnd) (k : Name) where
  -- past a statement that reads the name, or doesn't set it
  past : (r x q : Bool) (s : Stmt) (rest : List Stmt) → stmt_reads s k ≡ r → stmt_sets s k ≡ q → (r || (x && not q)) ≡ true → (x ≡ true → IsReadFrom blocks k rest e) → IsReadFrom blocks k (s ∷ rest) e
  past true x q s rest i j t f = read.here s rest e i
  past false true false s rest i j t f = read.later s rest e (ap not j) (f refl)
  past false true true s rest i j t f = absurd (false≢true t)
  past false false q s rest i j t f = absurd (false≢true t)

  step : (a b : Bool) (s : Stmt) (rest : List Stmt) (small big : NameSet) → is_unseen s small ≡ a → is_unseen s big ≡ b → Within small big → cond a (small k) (stmt_reads s k || (small k && not (stmt_sets s k))) ≡ true
      → (small k ≡ true → IsReadFrom blocks k rest e) → IsReadFrom blocks k (cond b rest (s ∷ rest)) e
  step true true s rest small big p q w t f = f t
  step true false s rest small big p q w t f = read.later s rest e (ap not (sets_no_live s small big k p q t)) (f t)
  step false true s rest small big p q w t f = absurd (false≢true (sym p ∙ unseen_less s small big w q))
  step false false s rest small big p q w t f = past (stmt_reads s k) (small k) (stmt_sets s k) s rest refl refl t f

  -- a name that is live before statements is read from there on, when they are cleaned by larger sets
  pub read_on : (ss : List Stmt) (small big : NameSet) → Within small big → live_before_all ss small k ≡ true → (small k ≡ true → IsReadFrom blocks k [] e) → IsReadFrom blocks k (cleaned ss big) e
  read_on [] small big w t f = f t
  read_on (s ∷ ss) small big w t f =
      let less = live_before_all ss small in
      let more = live_before_all ss big in
      step (is_unseen s less) (is_unseen s more) s (cleaned ss big) less more refl refl (all_within ss small big w) t (λ h. read_on ss small big w h f)

-- a name that is live at an end is read from there on, if it is so from each node where it is live
pub read_at_end : (blocks : List Block) (e : BlockEnd) (live : ℕ → NameSet) (i : Name)
    → ((k : ℕ) → Contains (nodes_of e) k → live k i ≡ true → (b : Block) × (slice_get blocks k ≡ Some b) × IsReadFrom blocks i b.stmts b.end) → live_at e live i ≡ true → IsReadFrom blocks i [] e
read_at_end blocks e live i f t = elim (either_of (end_reads e i) (list_any (λ k. live k i) (nodes_of e)) t) [
  | inl h ↦ read.last e h
  | inr h ↦
      let found = Any-from_list_any (λ k. live k i) (nodes_of e) h in
      let is_node : Contains (nodes_of e) found.1 = (found.0, found.2, found.3) in
      let to = f found.1 is_node found.4 in
      read.across e found.1 to.0 is_node to.1 to.2
]

-- ---- a Set that is kept

-- What is known of a Set that is kept: the statements after it are cleaned too, and its name is live before them.
pub record Kept (all : List Stmt) (after : NameSet) (j : ℕ) (m : Name) : Type 0 where
  pub rest : List Stmt
  pub next : drop (suc j) all ≡ cleaned rest after
  pub live : live_before_all rest after m ≡ true

not_dead : (x z : Bool) → (not x || z) ≡ false → x ≡ true
not_dead true z t = refl
not_dead false z t = absurd (false≢true (sym t))

kept_now : (s : Stmt) (ss : List Stmt) (after : NameSet) (m : Name) (e : CExpr) → s ≡ stmt.Set m e → is_unseen s (live_before_all ss after) ≡ false → live_before_all ss after m ≡ true
kept_now s ss after m e i u = not_dead (live_before_all ss after m) (is_itself m e) (sym (ap (λ x. is_unseen x (live_before_all ss after)) i) ∙ u)

same_some : (x y : Stmt) → Some x ≡ Some y → x ≡ y
same_some x y e = cc

kept_step : (b : Bool) (s : Stmt) (ss : List Stmt) (after : NameSet) (j : ℕ) (m : Name) (e : CExpr) → is_unseen s (live_before_all ss after) ≡ b → slice_get (cond b (cleaned ss after) (s ∷ cleaned ss after)) j ≡ Some (stmt.Set m e)
    → ((i : ℕ) → slice_get (cleaned ss after) i ≡ Some (stmt.Set m e) → Kept (cleaned ss after) after i m) → Kept (cond b (cleaned ss after) (s ∷ cleaned ss after)) after j m
kept_step true s ss after j m e u t f = f j t
kept_step false s ss after zero m e u t f = record { rest = ss; next = refl; live = kept_now s ss after m e (same_some s (stmt.Set m e) t) u }
kept_step false s ss after (suc j) m e u t f =
    let h = f j t in
    record { rest = h.rest; next = h.next; live = h.live }

pub kept_set : (ss : List Stmt) (after : NameSet) (j : ℕ) (m : Name) (e : CExpr) → slice_get (cleaned ss after) j ≡ Some (stmt.Set m e) → Kept (cleaned ss after) after j m
kept_set [] after j m e t = absurd (let z : ⊥ = cc in z)
kept_set (s ∷ ss) after j m e t = kept_step (is_unseen s (live_before_all ss after)) s ss after j m e refl t (λ i q. kept_set ss after i m e q)
