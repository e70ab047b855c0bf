-- What somebody sees does alike.
use Rattle.std.proofs.Common.{◌≡◌, ◌⊎◌, inl, inr, ℕ, Bool, true, false, cond, not, ◌&&◌, ◌||◌, List, [], ◌∷◌, Option, Some, None, refl, sym, ap, subst, ◌∙◌}
use Rattle.std.proofs.lemmas.Bool.{false≢true}
use Rattle.std.proofs.lemmas.List.Folds.{list_any_at}
use Rattle.std.specs.Prelude.{IsTrue, Contains}
use Rattle.std.specs.List.{list_any}
use Rattle.dream_words.specs.declared.machine.Name.{Name}
use Rattle.run_parts.specs.Steps.{Next, Halt, Jam, having, then_do, arrive}
use Rattle.run_parts.specs.World.{World}
use Rattle.run_parts.specs.Effects.{Doing, set_word, setting}
use Rattle.c_syntax.specs.declared.syntax.CExpr.{CExpr}
use Rattle.c_syntax.specs.Run.{word_in}
use Rattle.micro_ir.specs.declared.flow.Stmt.{Stmt}
use Rattle.micro_ir.specs.declared.flow.Stmt.TheVariants as stmt
use Rattle.micro_ir.specs.declared.flow.End.{End as BlockEnd}
use Rattle.micro_ir.specs.Checked.{nodes_of}
use Rattle.micro_ir.specs.Rule.{is_flow_stmt, are_flow_stmts}
use Rattle.micro_ir.specs.Run.{stmt_does, stmts_do, end_leads}
use Rattle.micro_ir.specs.World.{IsWorld}
use Rattle.micro_ir.specs.Laws.{DidStays}
use Rattle.micro_ir.proofs.Values.{both_true}
use Rattle.micro_ir.proofs.Worlds.{stmt_stays}
use Rattle.flow_passes.specs.Uses.{NameSet, same_name, stmt_reads, stmt_sets, end_reads}
use Rattle.flow_passes.specs.Alike.{Alike, DoesAlike, ArrivesAlike}
use Rattle.flow_passes.proofs.Names.{or_left, or_right}
use Rattle.flow_passes.proofs.Statements.{statements_see}
use Rattle.flow_passes.proofs.Ends.{ends_see}
use Rattle.flag_liveness.specs.Before.{is_itself, is_unseen, live_before, live_before_all, live_at}
use Rattle.flag_liveness.specs.Clean.{cleaned}
use Rattle.flag_liveness.proofs.Setting.{same_is, set_other, set_itself, itself_value}

cond_no : (b x y : Bool) → b ≡ false → cond b x y ≡ y
cond_no true x y e = absurd (false≢true (sym e))
cond_no false x y e = refl

cond_yes : (b x y : Bool) → b ≡ true → cond b x y ≡ x
cond_yes true x y e = refl
cond_yes false x y e = absurd (false≢true e)

or_cases : (a b : Bool) → (a || b) ≡ true → (a ≡ true) ⊎ (b ≡ true)
or_cases true b h = inl refl
or_cases false b h = inr h

-- what is live after a statement is set by it, or is live before it
set_or_live : (r x s : Bool) → x ≡ true → (s ≡ true) ⊎ ((r || (x && not s)) ≡ true)
set_or_live r x true h = inl refl
set_or_live true x false h = inr refl
set_or_live false true false h = inr refl
set_or_live false false false h = inr h

-- a statement that somebody sees does alike
seen_alike : (s : Stmt) (after : NameSet) (w u : World) → is_unseen s after ≡ false → IsTrue (is_flow_stmt s) → IsWorld w → IsWorld u → Alike (live_before s after) w u → DoesAlike after (stmt_does s w) (stmt_does s u)
seen_alike s after w u e t i j a =
    statements_see s (live_before s after) after w u t i j
    (λ n r. cond_no (is_unseen s after) _ _ e ∙ or_left (stmt_reads s n) _ r)
    (λ n x. elim (set_or_live (stmt_reads s n) (after n) (stmt_sets s n) x) [ inl y ↦ inl y | inr y ↦ inr (cond_no (is_unseen s after) _ _ e ∙ y) ]) a

then_alike : (a b : NameSet) (d e : Doing) (k l : World → Doing) → DidStays d → DidStays e → DoesAlike a d e → ((x y : World) → IsWorld x → IsWorld y → Alike a x y → DoesAlike b (k x) (l y)) → DoesAlike b (then_do d k) (then_do e l)
then_alike a b Jam e k l i j h f = tt
then_alike a b (Halt o) e k l i j h f = ap (λ d. then_do d l) h
then_alike a b (Next x) e k l i j h f = subst (λ d. DoesAlike b (k x) (then_do d l)) (sym h.1) (f x h.0 i (subst DidStays h.1 j) h.2)

-- a set of a name that nobody sees
other_word : (m : Name) (x : ℕ) (after : NameSet) (w u : World) → not (after m) ≡ true → ((n : Name) → IsTrue (after n) → u.names n ≡ w.names n) → (n : Name) → IsTrue (after n) → u.names n ≡ (set_word m x w).names n
other_word m x after w u h a n t = a n t ∙ sym (set_other w.names m n x (apart (same_name m n) refl)) where
  dead : (b : Bool) → not b ≡ true → b ≡ true → ⊥
  dead true p q = false≢true p
  dead false p q = false≢true q

  apart : (b : Bool) → same_name m n ≡ b → b ≡ false
  apart false e = refl
  apart true e = absurd (dead (after m) h (ap after (same_is m n e) ∙ t))

own_word : (m : Name) (x : ℕ) (after : NameSet) (w u : World) → x ≡ w.names m → ((n : Name) → IsTrue (after n) → u.names n ≡ w.names n) → (n : Name) → IsTrue (after n) → u.names n ≡ (set_word m x w).names n
own_word m x after w u e a n t = a n t ∙ sym (ap (λ y. (set_word m y w).names n) e ∙ set_itself w.names m n)

some_is : (x y : ℕ) (o : Option ℕ) → o ≡ Some x → o ≡ Some y → x ≡ y
some_is x y o p q = cc

unseen_names : (m : Name) (e : CExpr) (x : ℕ) (after : NameSet) (w u : World) → (not (after m) || is_itself m e) ≡ true → word_in e w ≡ Some x → ((n : Name) → IsTrue (after n) → u.names n ≡ w.names n)
    → (n : Name) → IsTrue (after n) → u.names n ≡ (set_word m x w).names n
unseen_names m e x after w u h o a =
    elim (or_cases (not (after m)) (is_itself m e) h) [
      | inl p ↦ other_word m x after w u p a
      | inr p ↦ own_word m x after w u (some_is x (w.names m) (word_in e w) o (itself_value m e w.names p)) a
    ]

unseen_set : (m : Name) (o : Option ℕ) (after last : NameSet) (w u : World) (k l : World → Doing) → DidStays (having o (λ x. setting m x w)) → IsWorld u → ((x : ℕ) → o ≡ Some x → Alike after (set_word m x w) u)
    → ((x y : World) → IsWorld x → IsWorld y → Alike after x y → DoesAlike last (k x) (l y)) → DoesAlike last (then_do (having o (λ x. setting m x w)) k) (l u)
unseen_set m None after last w u k l i j a f = tt
unseen_set m (Some x) after last w u k l i j a f = f (set_word m x w) u i j (a x refl)

-- what nobody sees, left out
unseen_alike : (s : Stmt) (after last : NameSet) (w u : World) (k l : World → Doing) → is_unseen s after ≡ true → IsTrue (is_flow_stmt s) → IsWorld w → IsWorld u → Alike (live_before s after) w u
    → ((x y : World) → IsWorld x → IsWorld y → Alike after x y → DoesAlike last (k x) (l y)) → DoesAlike last (then_do (stmt_does s w) k) (l u)
unseen_alike (stmt.Set m e) after last w u k l h t i j a f =
    unseen_set m (word_in e w) after last w u k l (stmt_stays (stmt.Set m e) w t i) j
    (λ x o. record {
      names = unseen_names m e x after w u h o (λ n z. a.names n (cond_yes (is_unseen (stmt.Set m e) after) _ _ h ∙ z));
      mem = a.mem;
      pages = a.pages;
      left = a.left;
      calls = a.calls;
    }) f
unseen_alike (stmt.Load m width e) after last w u k l h t i j a f = absurd (false≢true h)
unseen_alike (stmt.Store width e g) after last w u k l h t i j a f = absurd (false≢true h)
unseen_alike (stmt.Ext e) after last w u k l h t i j a f = absurd (false≢true h)
unseen_alike (stmt.Trap vector e) after last w u k l h t i j a f = absurd (false≢true h)

step_alike : (b : Bool) (s : Stmt) (ss : List Stmt) (after : NameSet) (w u : World) → is_unseen s (live_before_all ss after) ≡ b → IsTrue (is_flow_stmt s) → IsWorld w → IsWorld u → Alike (live_before s (live_before_all ss after)) w u
    → ((x y : World) → IsWorld x → IsWorld y → Alike (live_before_all ss after) x y → DoesAlike after (stmts_do ss x) (stmts_do (cleaned ss after) y)) → DoesAlike after (stmts_do (s ∷ ss) w) (stmts_do (cond b (cleaned ss after) (s ∷ cleaned ss after)) u)
step_alike true s ss after w u e t i j a f = unseen_alike s (live_before_all ss after) after w u (stmts_do ss) (stmts_do (cleaned ss after)) e t i j a f
step_alike false s ss after w u e t i j a f =
    then_alike (live_before_all ss after) after (stmt_does s w) (stmt_does s u) (stmts_do ss) (stmts_do (cleaned ss after)) (stmt_stays s w t i) (stmt_stays s u t j)
    (seen_alike s (live_before_all ss after) w u e t i j a) f

-- Statements do alike without those that nobody sees.
pub cleaned_alike : (ss : List Stmt) (after : NameSet) (w u : World) → IsTrue (are_flow_stmts ss) → IsWorld w → IsWorld u → Alike (live_before_all ss after) w u → DoesAlike after (stmts_do ss w) (stmts_do (cleaned ss after) u)
cleaned_alike [] after w u t i j a = (u, refl, a)
cleaned_alike (s ∷ ss) after w u t i j a =
    let p = both_true (is_flow_stmt s) (are_flow_stmts ss) t in
    step_alike (is_unseen s (live_before_all ss after)) s ss after w u refl p.0 i j a (λ x y k l h. cleaned_alike ss after x y p.1 k l h)

any_contains : (p : ℕ → Bool) (xs : List ℕ) (x : ℕ) → Contains xs x → p x ≡ true → list_any p xs ≡ true
any_contains p xs x h t = list_any_at p xs h.0 x h.1 (ap p h.2 ∙ t)

-- An end leads alike after what does alike.
pub arrive_alike : (live : ℕ → NameSet) (e : BlockEnd) (d c : Doing) → DoesAlike (live_at e live) d c → ArrivesAlike live (arrive d (end_leads e)) (arrive c (end_leads e))
arrive_alike live e Jam c h = tt
arrive_alike live e (Halt o) c h = ap (λ d. arrive d (end_leads e)) h
arrive_alike live e (Next x) c h =
    subst (λ d. ArrivesAlike live (end_leads e x) (arrive d (end_leads e))) (sym h.1)
    (ends_see e (live_at e live) live x h.0 (λ n t. or_left (end_reads e n) _ t) (λ k i n t. or_right (end_reads e n) _ (any_contains (λ j. live j n) (nodes_of e) k i t)) h.2)
