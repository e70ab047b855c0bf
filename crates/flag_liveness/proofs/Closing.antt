-- Rows that are closed, and temporaries, make sets of live names that are closed.
use Rattle.std.proofs.Common.{◌≡◌, ◌⊎◌, inl, inr, ℕ, nat_lt, Bool, true, false, cond, not, ◌&&◌, ◌||◌, List, [], ◌∷◌, Some, refl, sym, ap, ◌∙◌}
use Rattle.std.proofs.lemmas.Bool.{false≢true}
use Rattle.std.specs.Prelude.{IsTrue, slice_get}
use Rattle.std.specs.List.{list_any}
use Rattle.dream_words.specs.declared.machine.Name.{Name}
use Rattle.dream_words.specs.declared.machine.Name.TheVariants as n
use Rattle.c_syntax.specs.declared.syntax.CExpr.{CExpr, CExpr-F}
use Rattle.c_syntax.specs.declared.syntax.CExpr.TheVariants as word
use Rattle.micro_ir.specs.declared.flow.Stmt.{Stmt}
use Rattle.micro_ir.specs.declared.flow.Stmt.TheVariants as stmt
use Rattle.micro_ir.specs.declared.flow.End.{End as BlockEnd}
use Rattle.micro_ir.specs.declared.flow.Block.{Block}
use Rattle.micro_ir.specs.declared.flow.Flow.{Flow}
use Rattle.micro_ir.specs.Checked.{nodes_of}
use Rattle.micro_ir.specs.Rule.{is_flow_target}
use Rattle.flow_passes.specs.Uses.{NameSet, same_name, word_reads, stmt_reads, stmt_sets, end_reads}
use Rattle.flow_passes.proofs.Names.{or_left, or_right}
use Rattle.flow_passes.proofs.Reading.{word_reads_layer}
use Rattle.flag_liveness.specs.declared.live.Live.{Live}
use Rattle.flag_liveness.specs.declared.seen.Seen.{Seen}
use Rattle.flag_liveness.specs.Before.{is_itself, is_unseen, live_before_all, live_at, live_in, AreLive}
use Rattle.flag_liveness.specs.Across.{read_first, Crosses}
use Rattle.flag_liveness.specs.Within.{names_within, Agree}
use Rattle.flag_liveness.specs.Lives.{held_in, live_of, across_of}
use Rattle.flag_liveness.specs.Settled.{AreClosed}
use Rattle.flag_liveness.proofs.Setting.{same_is}

-- ---- what is live is read first, or is live across

or_cases : (a b : Bool) → (a || b) ≡ true → (a ≡ true) ⊎ (b ≡ true)
or_cases true b h = inl refl
or_cases false b h = inr h

-- a Word that is just a name reads it
itself_reads : (m : Name) (e : CExpr) (k : Name) → is_itself m e ≡ true → same_name m k ≡ true → word_reads e k ≡ true
itself_reads m (word.Name j) k h t = ap (λ g. g k) (ap word_reads (sym (word.rolls-Name j)) ∙ word_reads_layer (CExpr-F.Name j)) ∙ ap (λ i. same_name i k) (sym (same_is m j h)) ∙ t
itself_reads m e k h t = absurd (false≢true h)

not_both : (b : Bool) → not b ≡ true → b ≡ true → ⊥
not_both true p q = false≢true p
not_both false p q = false≢true q

-- past what nobody sees
past_set : (m : Name) (e : CExpr) (after : NameSet) (k : Name) (r b : Bool) → same_name m k ≡ b → (not (after m) || is_itself m e) ≡ true → after k ≡ true → r ≡ true → (word_reads e k || (r && not b)) ≡ true
past_set m e after k true false s u a p = or_right (word_reads e k) true refl
past_set m e after k false b s u a p = absurd (false≢true p)
past_set m e after k true true s u a p = elim (or_cases (not (after m)) (is_itself m e) u) [
  | inl q ↦ absurd (not_both (after m) q (ap after (same_is m k s) ∙ a))
  | inr q ↦ or_left (word_reads e k) false (itself_reads m e k q s)
]

past_unseen : (s : Stmt) (after : NameSet) (k : Name) (r : Bool) → is_unseen s after ≡ true → after k ≡ true → r ≡ true → (stmt_reads s k || (r && not (stmt_sets s k))) ≡ true
past_unseen (stmt.Set m e) after k r u a p = past_set m e after k r (same_name m k) refl u a p
past_unseen (stmt.Load m width e) after k r u a p = absurd (false≢true u)
past_unseen (stmt.Store width e g) after k r u a p = absurd (false≢true u)
past_unseen (stmt.Ext e) after k r u a p = absurd (false≢true u)
past_unseen (stmt.Trap vector e) after k r u a p = absurd (false≢true u)

past_seen : (q x s r c : Bool) → (q || (x && not s)) ≡ true → (x ≡ true → (r ≡ true) ⊎ (c ≡ true)) → ((q || (r && not s)) ≡ true) ⊎ (c ≡ true)
past_seen true x s r c h f = inl refl
past_seen false false s r c h f = absurd (false≢true h)
past_seen false true true r c h f = absurd (false≢true h)
past_seen false true false r c h f = elim (f refl) [ inl p ↦ inl (ap (λ b. b && true) p) | inr p ↦ inr p ]

module _ (last carry : NameSet) (k : Name) where
  step : (b : Bool) (s : Stmt) (ss : List Stmt) (after : NameSet) → is_unseen s after ≡ b → cond b (after k) (stmt_reads s k || (after k && not (stmt_sets s k))) ≡ true
      → (after k ≡ true → (read_first ss last k ≡ true) ⊎ (carry k ≡ true)) → (read_first (s ∷ ss) last k ≡ true) ⊎ (carry k ≡ true)
  step true s ss after u t f = elim (f t) [ inl p ↦ inl (past_unseen s after k (read_first ss last k) u t p) | inr p ↦ inr p ]
  step false s ss after u t f = past_seen (stmt_reads s k) (after k) (stmt_sets s k) (read_first ss last k) (carry k) t f

  read_or_carried : (ss : List Stmt) → live_before_all ss (λ i. last i || carry i) k ≡ true → (read_first ss last k ≡ true) ⊎ (carry k ≡ true)
  read_or_carried [] t = or_cases (last k) (carry k) t
  read_or_carried (s ∷ ss) t = step (is_unseen s (live_before_all ss (λ i. last i || carry i))) s ss (live_before_all ss (λ i. last i || carry i)) refl t (λ a. read_or_carried ss a)

-- ---- names that no flow sets

live_same : (a b : NameSet) (k : Name) → a k ≡ b k → a k ≡ b k
live_same a b k e = e

pub target_live : (k : Name) (h : Bool) → IsTrue (is_flow_target k) → (not (is_flow_target k) || h) ≡ h
target_live k h t = ap (λ b. not b || h) t

any_same : (p q : ℕ → Bool) (xs : List ℕ) → ((x : ℕ) → p x ≡ q x) → list_any p xs ≡ list_any q xs
any_same p q [] h = refl
any_same p q (x ∷ xs) h = ap (λ b. b || list_any p xs) (h x) ∙ ap (λ b. q x || b) (any_same p q xs h)

-- what is live at an end, also by the names that no flow sets
pub live_shown : (l : Live) (e : BlockEnd) (s : Seen) → Agree (names_within (across_of l) s) (live_at e (held_in l)) → Agree (names_within (across_of l) s) (live_at e (live_of l))
live_shown l e s h = λ k t. h k t ∙ ap (λ b. end_reads e k || b) (any_same (λ j. held_in l j k) (λ j. live_of l j k) (nodes_of e) (λ j. sym (target_live k (held_in l j k) t)))

-- ---- all names

any_is : (b : Bool) (xs : List ℕ) → list_any (λ k. b) xs ≡ true → b ≡ true
any_is true xs t = refl
any_is false [] t = t
any_is false (x ∷ xs) t = any_is false xs t

pub not_target : (k : Name) (h : Bool) → is_flow_target k ≡ false → (not (is_flow_target k) || h) ≡ true
not_target k h e = ap (λ b. not b || h) e

temp_live : (f : Flow) (l : Live) (k : ℕ) (b : Block) (i : ℕ) → Crosses f.blocks (across_of l) → slice_get f.blocks k ≡ Some b → IsTrue (is_flow_target (n.T i)) → live_in b (live_of l) (n.T i) ≡ true → across_of l i ≡ true
temp_live f l k b i c e t h = elim (read_or_carried (end_reads b.end) (λ j. list_any (λ m. live_of l m j) (nodes_of b.end)) (n.T i) b.stmts h) [
  | inl p ↦ c k b e i t p
  | inr p ↦ any_is (across_of l i) (nodes_of b.end) (sym (any_same (λ m. live_of l m (n.T i)) (λ m. across_of l i) (nodes_of b.end) (λ m. target_live (n.T i) (across_of l i) t)) ∙ p)
]

pub and_self : (b : Bool) → b ≡ true → IsTrue (b && true)
and_self true e = refl
and_self false e = e

pub and_not : (b : Bool) → b ≡ false → (b && true) ≡ false
and_not true e = e
and_not false e = refl

pub are_live : (f : Flow) (l : Live) → AreClosed f.blocks l → Crosses f.blocks (across_of l) → AreLive f (live_of l)
are_live f l h c k b e (n.Reg i) t = by (nat_lt i 8) refl where
  by : (x : Bool) → nat_lt i 8 ≡ x → IsTrue (live_of l k (n.Reg i))
  by true q = h k b e (n.Reg i) q t
  by false q = not_target (n.Reg i) (held_in l k (n.Reg i)) (and_not (nat_lt i 8) q)
are_live f l h c k b e (n.Flag i) t = by (nat_lt i 5) refl where
  by : (x : Bool) → nat_lt i 5 ≡ x → IsTrue (live_of l k (n.Flag i))
  by true q = h k b e (n.Flag i) q t
  by false q = not_target (n.Flag i) (held_in l k (n.Flag i)) (and_not (nat_lt i 5) q)
are_live f l h c k b e (n.T i) t = by (is_flow_target (n.T i)) refl where
  by : (x : Bool) → is_flow_target (n.T i) ≡ x → IsTrue (live_of l k (n.T i))
  by true q = target_live (n.T i) (across_of l i) q ∙ temp_live f l k b i c e q t
  by false q = not_target (n.T i) (held_in l k (n.T i)) q
are_live f l h c k b e n.Fs t = refl
are_live f l h c k b e n.Gs t = refl
are_live f l h c k b e (n.B i) t = refl
are_live f l h c k b e (n.S i) t = refl
