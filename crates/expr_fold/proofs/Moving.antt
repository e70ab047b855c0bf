-- Words that are put into what follows directly: how often names are read then, and what is left before its only read.
use Rattle.std.proofs.Common.{◌≡◌, ℕ, zero, suc, ◌+◌, ◌*◌, ◌<◌, ◌≤◌, Bool, true, false, cond, not, ◌&&◌, ◌||◌, nat_le, List, [], ◌∷◌, length, Option, Some, None, refl, sym, ap, ◌∙◌, subst, arith}
use Rattle.std.specs.Prelude.{IsTrue, slice_get}
use Rattle.dream_words.specs.declared.machine.Name.{Name}
use Rattle.c_syntax.specs.declared.syntax.CExpr.{CExpr}
use Rattle.c_syntax.specs.Depth.{word_depth, cond_depth}
use Rattle.micro_ir.specs.declared.flow.Stmt.{Stmt}
use Rattle.micro_ir.specs.declared.flow.Stmt.TheVariants as stmt
use Rattle.micro_ir.specs.declared.flow.End.{End as BlockEnd}
use Rattle.micro_ir.specs.declared.flow.End.TheVariants as end
use Rattle.micro_ir.proofs.Values.{both_true}
use Rattle.flow_passes.specs.Uses.{NameSet, same_name, is_register, word_reads, stmt_reads, end_reads}
use Rattle.expr_fold.specs.declared.delayed.Delayed.{Delayed}
use Rattle.expr_fold.specs.Placed.{placed_word, placed_cond, placed_stmt, placed_end}
use Rattle.expr_fold.specs.Fits.{word_fits, cond_fits, stmt_fits}
use Rattle.expr_fold.specs.Ends.{end_fits}
use Rattle.expr_fold.specs.Counts.{count_in_word, count_in_cond, reads_of_stmt, reads_of_end, reads_of_rest}
use Rattle.expr_fold.specs.Moved.{Rest, stmt_with, end_with, with_end, with_first, first_with, one_more, placed_or, set_before, stmt_before, moved}
use Rattle.expr_fold.proofs.Named.{same_true, and_true, not_both}
use Rattle.expr_fold.proofs.Weighing.{IsMoved, IsSome, moved_two, word_counts, cond_counts, or_counted, word_read, cond_read, placed_deeper, word_grows, cond_grows, deeper_in_place}

-- ---- cases

module _ (once : NameSet) (d : Delayed) (r : Rest) (P : Rest → Type 0) where
  placed_cases : (o : Option Rest) → IsTrue (once d.name) → first_with d r.0 r.1 ≡ o → (first_with d r.0 r.1 ≡ None → P (one_more (stmt.Set d.name d.word) r)) → ((q : Rest) → IsTrue (once d.name) → first_with d r.0 r.1 ≡ Some q → P q)
      → P (placed_or o (one_more (stmt.Set d.name d.word) r))
  placed_cases None t e f g = f e
  placed_cases (Some q) t e f g = g q t e

  once_cases : (b : Bool) → once d.name ≡ b → (once d.name ≡ false → P (one_more (stmt.Set d.name d.word) r)) → (first_with d r.0 r.1 ≡ None → P (one_more (stmt.Set d.name d.word) r))
      → ((q : Rest) → IsTrue (once d.name) → first_with d r.0 r.1 ≡ Some q → P q) → P (cond b (placed_or (first_with d r.0 r.1) (one_more (stmt.Set d.name d.word) r)) (one_more (stmt.Set d.name d.word) r))
  once_cases true t n f g = placed_cases (first_with d r.0 r.1) t refl f g
  once_cases false t n f g = n t

  -- a set stays where its name isn't among some, or can't be put in place; else its word is put in place
  pub set_cases : (once d.name ≡ false → P (one_more (stmt.Set d.name d.word) r)) → (first_with d r.0 r.1 ≡ None → P (one_more (stmt.Set d.name d.word) r)) → ((q : Rest) → IsTrue (once d.name) → first_with d r.0 r.1 ≡ Some q → P q)
      → P (set_before once d r)
  set_cases n f g = once_cases (once d.name) refl n f g

-- what a choice gives
chosen_is : {A : Type 0} (a b : Bool) (x y : A) → cond (a && b) (Some x) None ≡ Some y → IsTrue a × IsTrue b × (x ≡ y)
chosen_is true true x y e = (refl, refl, let z : x ≡ y = cc in z)
chosen_is true false x y e = absurd (let z : ⊥ = cc in z)
chosen_is false b x y e = absurd (let z : ⊥ = cc in z)

chosen_not : {A : Type 0} (a b : Bool) (x : A) → cond (a && b) (Some x) None ≡ None → IsTrue a → b ≡ false
chosen_not true true x e t = absurd (let z : ⊥ = cc in z)
chosen_not true false x e t = refl
chosen_not false b x e t = absurd (let z : ⊥ = cc in z)

chosen_none : {A : Type 0} (a b : Bool) (x : A) → (IsTrue a → b ≡ false) → cond (a && b) (Some x) None ≡ None
chosen_none true b x f = ap (λ z. cond z (Some x) None) (f refl)
chosen_none false b x f = refl

end_is : (o : Option BlockEnd) (q : Rest) → with_end o ≡ Some q → (e : BlockEnd) × (o ≡ Some e) × (([], e) ≡ q)
end_is None q h = absurd (let z : ⊥ = cc in z)
end_is (Some e) q h = (e, refl, let z : ([], e) ≡ q = cc in z)

first_is : (o : Option Stmt) (ss : List Stmt) (e : BlockEnd) (q : Rest) → with_first o ss e ≡ Some q → (s : Stmt) × (o ≡ Some s) × ((s ∷ ss, e) ≡ q)
first_is None ss e q h = absurd (let z : ⊥ = cc in z)
first_is (Some s) ss e q h = (s, refl, let z : (s ∷ ss, e) ≡ q = cc in z)

no_end : (o : Option BlockEnd) → with_end o ≡ None → o ≡ None
no_end None h = refl
no_end (Some e) h = absurd (let z : ⊥ = cc in z)

no_first : (o : Option Stmt) (ss : List Stmt) (e : BlockEnd) → with_first o ss e ≡ None → o ≡ None
no_first None ss e h = refl
no_first (Some s) ss e h = absurd (let z : ⊥ = cc in z)

module _ (d : Delayed) (P : List Stmt → BlockEnd → Rest → Type 0) where
  -- a word is put in place in an end, or in a statement
  pub first_cases : ((e : BlockEnd) → IsTrue (end_reads e d.name) → IsTrue (end_fits (placed_end (d ∷ []) e)) → P [] e ([], placed_end (d ∷ []) e))
      → ((s : Stmt) (ss : List Stmt) (e : BlockEnd) → IsTrue (stmt_reads s d.name) → IsTrue (stmt_fits (placed_stmt (d ∷ []) s)) → P (s ∷ ss) e (placed_stmt (d ∷ []) s ∷ ss, e))
      → (ss : List Stmt) (e : BlockEnd) (q : Rest) → first_with d ss e ≡ Some q → P ss e q
  first_cases f g [] e q h =
      let k = end_is (end_with d e) q h in
      let j = chosen_is (end_reads e d.name) (end_fits (placed_end (d ∷ []) e)) (placed_end (d ∷ []) e) k.0 k.1 in
      subst (P [] e) (ap (λ x. ([], x)) j.2 ∙ k.2) (f e j.0 j.1)
  first_cases f g (s ∷ ss) e q h =
      let k = first_is (stmt_with d s) ss e q h in
      let j = chosen_is (stmt_reads s d.name) (stmt_fits (placed_stmt (d ∷ []) s)) (placed_stmt (d ∷ []) s) k.0 k.1 in
      subst (P (s ∷ ss) e) (ap (λ x. (x ∷ ss, e)) j.2 ∙ k.2) (g s ss e j.0 j.1)

-- ---- how often names are read

-- a name of which the register isn't shown is read where it is counted once at least
pub stmt_read : (s : Stmt) (n : Name) → is_register n ≡ false → IsSome (stmt_reads s n) (reads_of_stmt s n)
stmt_read (stmt.Set m a) n f = word_read n a
stmt_read (stmt.Load m width a) n f = word_read n a
stmt_read (stmt.Store width a b) n f = or_counted _ _ _ _ (word_read n a) (word_read n b)
stmt_read (stmt.Ext a) n f = record { is = ap (λ z. z || word_reads a n) f ∙ (word_read n a).is }
stmt_read (stmt.Trap vector a) n f = word_read n a

pub end_read : (e : BlockEnd) (n : Name) → is_register n ≡ false → IsSome (end_reads e n) (reads_of_end e n)
end_read (end.Go a) n f = record { is = refl }
end_read (end.Branch t a b) n f = cond_read n t
end_read (end.Switch a cases) n f = word_read n a
end_read end.Return n f = record { is = f }
end_read (end.Leave a) n f = record { is = ap (λ z. z || word_reads a n) f ∙ (word_read n a).is }

stmt_counts : (d : Delayed) (n : Name) (s : Stmt) → IsMoved (reads_of_stmt (placed_stmt (d ∷ []) s) n) (reads_of_stmt s d.name) (reads_of_stmt s n) (cond (same_name d.name n) 1 0) (count_in_word d.word n)
stmt_counts d n (stmt.Set m a) = word_counts d n a
stmt_counts d n (stmt.Load m width a) = word_counts d n a
stmt_counts d n (stmt.Store width a b) = moved_two _ _ _ _ _ _ _ _ (word_counts d n a) (word_counts d n b)
stmt_counts d n (stmt.Ext a) = word_counts d n a
stmt_counts d n (stmt.Trap vector a) = word_counts d n a

end_counts : (d : Delayed) (n : Name) (e : BlockEnd) → IsMoved (reads_of_end (placed_end (d ∷ []) e) n) (reads_of_end e d.name) (reads_of_end e n) (cond (same_name d.name n) 1 0) (count_in_word d.word n)
end_counts d n (end.Go a) = record { is = omega arith }
end_counts d n (end.Branch t a b) = cond_counts d n t
end_counts d n (end.Switch a cases) = word_counts d n a
end_counts d n end.Return = record { is = omega arith }
end_counts d n (end.Leave a) = word_counts d n a

-- what is tested is so
pub some_read : (b : Bool) (k : ℕ) → IsSome b k → IsTrue b → 1 ≤ k
some_read b k h t = let e : IsTrue (nat_le 1 k) = sym h.is ∙ t in grind (arith, e)

-- one read is replaced
moved_once : (p c d k t : ℕ) → IsMoved p t c d k → 1 ≤ t → t ≤ 1 → p + d ≡ c + k
moved_once p c d k t m h g = moved_one (subst (λ i. IsMoved p i c d k) (let z : t ≡ 1 = omega (arith, h, g) in z) m) where
  moved_one : IsMoved p 1 c d k → p + d ≡ c + k
  moved_one m = let x = m.is in omega (arith, x)

-- Where a name is read at most once, and its word is put in place, each name is read as often as before with the set.
abbrev pub MovesReads : Delayed → List Stmt → BlockEnd → Rest → Type 0
MovesReads d ss e q = reads_of_rest ss e d.name ≤ 1 → (n : Name) → reads_of_rest q.0 q.1 n + cond (same_name d.name n) 1 0 ≡ reads_of_rest ss e n + count_in_word d.word n

pub first_moves : (d : Delayed) → is_register d.name ≡ false → (ss : List Stmt) (e : BlockEnd) (q : Rest) → first_with d ss e ≡ Some q → MovesReads d ss e q
first_moves d f = first_cases d (MovesReads d)
    (λ e r fits l n. moved_once _ _ _ _ _ (end_counts d n e) (some_read (end_reads e d.name) (reads_of_end e d.name) (end_read e d.name f) r) l)
    (λ s ss e r fits l n.
    let once : reads_of_stmt s d.name ≤ 1 = omega (arith, l) in
    let h = moved_once _ _ _ _ _ (stmt_counts d n s) (some_read (stmt_reads s d.name) (reads_of_stmt s d.name) (stmt_read s d.name f) r) once in
    omega (arith, h))

-- a word that is put in place has its name read there
pub first_counted : (d : Delayed) → is_register d.name ≡ false → (ss : List Stmt) (e : BlockEnd) (q : Rest) → first_with d ss e ≡ Some q → 1 ≤ reads_of_rest ss e d.name
first_counted d f = first_cases d (λ ss e q. 1 ≤ reads_of_rest ss e d.name)
    (λ e r fits. some_read (end_reads e d.name) (reads_of_end e d.name) (end_read e d.name f) r)
    (λ s ss e r fits. let x = some_read (stmt_reads s d.name) (reads_of_stmt s d.name) (stmt_read s d.name f) r in omega (arith, x))

-- the names among some are read at most once
abbrev pub Bounded : NameSet → List Stmt → BlockEnd → Type 0
Bounded once ss e = (n : Name) → IsTrue (once n) → reads_of_rest ss e n ≤ 1

-- the names among some are no registers
abbrev pub NoRegisters : NameSet → Type 0
NoRegisters once = (n : Name) → IsTrue (once n) → is_register n ≡ false

-- Of so many reads some are lost, and only of names among some.
pub record Loses (once : NameSet) (n : Name) (many few : ℕ) : Type 0 where
  pub lost : ℕ
  pub is : few + lost ≡ many
  pub only : once n ≡ false → lost ≡ 0

pub loses_none : (once : NameSet) (n : Name) (a : ℕ) → Loses once n a a
loses_none once n a = record { lost = 0; is = omega arith; only = λ f. refl }

loses_more : (once : NameSet) (n : Name) (k a b c : ℕ) → Loses once n a b → Loses once n (k + b) c → Loses once n (k + a) c
loses_more once n k a b c h g =
    let x = h.is in
    let y = g.is in
    record { lost = h.lost + g.lost; is = omega (arith, x, y); only = λ f. let x = h.only f in let y = g.only f in omega (arith, x, y) }

not_same : (once : NameSet) (m n : Name) (b : Bool) → same_name m n ≡ b → IsTrue (once m) → once n ≡ false → ◌≡◌ {A = ℕ} (cond b 1 0) 0
not_same once m n true e t f = absurd (not_both (once n) (ap once (sym (same_true m n e)) ∙ t) f)
not_same once m n false e t f = refl

-- a set before the rest
set_loses : (once : NameSet) → NoRegisters once → (d : Delayed) (r : Rest) → Bounded once r.0 r.1 → (n : Name) → Loses once n (count_in_word d.word n + reads_of_rest r.0 r.1 n) (reads_of_rest (set_before once d r).0 (set_before once d r).1 n)
set_loses once regs d r b n =
    set_cases once d r (λ q. Loses once n (count_in_word d.word n + reads_of_rest r.0 r.1 n) (reads_of_rest q.0 q.1 n)) (λ f. loses_none once n _) (λ f. loses_none once n _)
    (λ q t h.
    let m = first_moves d (regs d.name t) r.0 r.1 q h (b d.name t) n in
    record { lost = cond (same_name d.name n) 1 0; is = omega (arith, m); only = not_same once d.name n (same_name d.name n) refl t })

pub stmt_loses : (once : NameSet) → NoRegisters once → (s : Stmt) (r : Rest) → Bounded once r.0 r.1 → (n : Name) → Loses once n (reads_of_stmt s n + reads_of_rest r.0 r.1 n) (reads_of_rest (stmt_before once s r).0 (stmt_before once s r).1 n)
stmt_loses once regs (stmt.Set m a) r b n = set_loses once regs (record { name = m; word = a }) r b n
stmt_loses once regs (stmt.Load m width a) r b n = loses_none once n _
stmt_loses once regs (stmt.Store width a c) r b n = loses_none once n _
stmt_loses once regs (stmt.Ext a) r b n = loses_none once n _
stmt_loses once regs (stmt.Trap vector a) r b n = loses_none once n _

pub bounded_rest : (once : NameSet) (s : Stmt) (ss : List Stmt) (e : BlockEnd) → Bounded once (s ∷ ss) e → Bounded once ss e
bounded_rest once s ss e b n t = let x = b n t in omega (arith, x)

less_bounded : (once : NameSet) (ss : List Stmt) (e : BlockEnd) (r : Rest) → ((n : Name) → Loses once n (reads_of_rest ss e n) (reads_of_rest r.0 r.1 n)) → Bounded once ss e → Bounded once r.0 r.1
less_bounded once ss e r h b n t = let k = h n in let x = k.is in let y = b n t in omega (arith, x, y)

-- only reads of names among some are lost
pub moved_loses : (once : NameSet) → NoRegisters once → (ss : List Stmt) (e : BlockEnd) → Bounded once ss e → (n : Name) → Loses once n (reads_of_rest ss e n) (reads_of_rest (moved once ss ([], e)).0 (moved once ss ([], e)).1 n)
moved_loses once regs [] e b n = loses_none once n _
moved_loses once regs (s ∷ ss) e b n =
    let r = moved once ss ([], e) in
    let h : (m : Name) → Loses once m (reads_of_rest ss e m) (reads_of_rest r.0 r.1 m) = moved_loses once regs ss e (bounded_rest once s ss e b) in
    loses_more once n (reads_of_stmt s n) (reads_of_rest ss e n) (reads_of_rest r.0 r.1 n) _ (h n) (stmt_loses once regs s r (less_bounded once ss e r h (bounded_rest once s ss e b)) n)

pub moved_bounded : (once : NameSet) → NoRegisters once → (ss : List Stmt) (e : BlockEnd) → Bounded once ss e → Bounded once (moved once ss ([], e)).0 (moved once ss ([], e)).1
moved_bounded once regs ss e b = less_bounded once ss e (moved once ss ([], e)) (moved_loses once regs ss e b) b

-- ---- what is left

-- a set doesn't stand directly before a read of its name that could have its word in place
abbrev pub Apart : NameSet → Stmt → List Stmt → BlockEnd → Type 0
Apart once (stmt.Set m a) ss e = IsTrue (once m) → first_with (record { name = m; word = a }) ss e ≡ None
Apart once (stmt.Load m width a) ss e = Unit {0}
Apart once (stmt.Store width a b) ss e = Unit {0}
Apart once (stmt.Ext a) ss e = Unit {0}
Apart once (stmt.Trap vector a) ss e = Unit {0}

-- none does
abbrev pub AllApart : NameSet → List Stmt → BlockEnd → Type 0
AllApart once [] e = Unit {0}
AllApart once (s ∷ ss) e = Apart once s ss e × AllApart once ss e

unfit : (a b : Bool) → (IsTrue b → IsTrue a) → a ≡ false → b ≡ false
unfit a true h f = absurd (not_both a (h refl) f)
unfit a false h f = refl

-- what reads the name wouldn't fit
pub unfit_stmt : (d : Delayed) (s : Stmt) → stmt_with d s ≡ None → IsTrue (stmt_reads s d.name) → stmt_fits (placed_stmt (d ∷ []) s) ≡ false
unfit_stmt d s h t = chosen_not (stmt_reads s d.name) (stmt_fits (placed_stmt (d ∷ []) s)) (placed_stmt (d ∷ []) s) h t

pub unfit_end : (d : Delayed) (e : BlockEnd) → end_with d e ≡ None → IsTrue (end_reads e d.name) → end_fits (placed_end (d ∷ []) e) ≡ false
unfit_end d e h t = chosen_not (end_reads e d.name) (end_fits (placed_end (d ∷ []) e)) (placed_end (d ∷ []) e) h t

stmt_none : (d : Delayed) (s : Stmt) → (IsTrue (stmt_reads s d.name) → stmt_fits (placed_stmt (d ∷ []) s) ≡ false) → stmt_with d s ≡ None
stmt_none d s f = chosen_none (stmt_reads s d.name) (stmt_fits (placed_stmt (d ∷ []) s)) (placed_stmt (d ∷ []) s) f

last_none : (d : Delayed) (e : BlockEnd) → (IsTrue (end_reads e d.name) → end_fits (placed_end (d ∷ []) e) ≡ false) → end_with d e ≡ None
last_none d e f = chosen_none (end_reads e d.name) (end_fits (placed_end (d ∷ []) e)) (placed_end (d ∷ []) e) f

less_fits : (a b : ℕ) → a ≤ b → IsTrue (nat_le b 64) → IsTrue (nat_le a 64)
less_fits a b l h = grind (arith, l, h)

module _ (m : Name) (x y : CExpr) (deeper : word_depth x ≤ word_depth y) where
  word_less : (a : CExpr) → IsTrue (word_fits (placed_word ((record { name = m; word = y }) ∷ []) a)) → IsTrue (word_fits (placed_word ((record { name = m; word = x }) ∷ []) a))
  word_less a = less_fits (word_depth (placed_word ((record { name = m; word = x }) ∷ []) a)) (word_depth (placed_word ((record { name = m; word = y }) ∷ []) a)) (word_grows ((record { name = m; word = x }) ∷ []) ((record { name = m; word = y }) ∷ []) (deeper_in_place m x y deeper) a)

  stmt_less : (s : Stmt) → IsTrue (stmt_fits (placed_stmt ((record { name = m; word = y }) ∷ []) s)) → IsTrue (stmt_fits (placed_stmt ((record { name = m; word = x }) ∷ []) s))
  stmt_less (stmt.Set k a) h = word_less a h
  stmt_less (stmt.Load k width a) h = word_less a h
  stmt_less (stmt.Store width a b) h =
      let k = both_true (word_fits (placed_word ((record { name = m; word = y }) ∷ []) a)) (word_fits (placed_word ((record { name = m; word = y }) ∷ []) b)) h in
      and_true (word_fits (placed_word ((record { name = m; word = x }) ∷ []) a)) (word_fits (placed_word ((record { name = m; word = x }) ∷ []) b)) (word_less a k.0) (word_less b k.1)
  stmt_less (stmt.Ext a) h = word_less a h
  stmt_less (stmt.Trap vector a) h = word_less a h

  end_less : (e : BlockEnd) → IsTrue (end_fits (placed_end ((record { name = m; word = y }) ∷ []) e)) → IsTrue (end_fits (placed_end ((record { name = m; word = x }) ∷ []) e))
  end_less (end.Go a) h = h
  end_less (end.Branch t a b) h = less_fits (cond_depth (placed_cond ((record { name = m; word = x }) ∷ []) t)) (cond_depth (placed_cond ((record { name = m; word = y }) ∷ []) t)) (cond_grows ((record { name = m; word = x }) ∷ []) ((record { name = m; word = y }) ∷ []) (deeper_in_place m x y deeper) t) h
  end_less (end.Switch a cases) h = word_less a h
  end_less end.Return h = h
  end_less (end.Leave a) h = word_less a h

  -- what can't be put in place can't where it is deeper
  none_deeper : (ss : List Stmt) (e : BlockEnd) → first_with (record { name = m; word = x }) ss e ≡ None → first_with (record { name = m; word = y }) ss e ≡ None
  none_deeper [] e h = ap with_end (last_none (record { name = m; word = y }) e (λ t. unfit _ _ (end_less e) (unfit_end (record { name = m; word = x }) e (no_end (end_with (record { name = m; word = x }) e) h) t)))
  none_deeper (s ∷ ss) e h =
      ap (λ o. with_first o ss e) (stmt_none (record { name = m; word = y }) s (λ t. unfit _ _ (stmt_less s) (unfit_stmt (record { name = m; word = x }) s (no_first (stmt_with (record { name = m; word = x }) s) ss e h) t)))

-- a word that is put in place there makes none fit
placed_apart : (once : NameSet) (d : Delayed) (s : Stmt) (ss : List Stmt) (e : BlockEnd) → Apart once s ss e → Apart once (placed_stmt (d ∷ []) s) ss e
placed_apart once d (stmt.Set m a) ss e h = λ t. none_deeper m a (placed_word (d ∷ []) a) (placed_deeper d a) ss e (h t)
placed_apart once d (stmt.Load m width a) ss e h = tt
placed_apart once d (stmt.Store width a b) ss e h = tt
placed_apart once d (stmt.Ext a) ss e h = tt
placed_apart once d (stmt.Trap vector a) ss e h = tt

set_apart : (once : NameSet) (d : Delayed) (r : Rest) → AllApart once r.0 r.1 → AllApart once (set_before once d r).0 (set_before once d r).1
set_apart once d r h =
    set_cases once d r (λ q. AllApart once q.0 q.1) (λ f. (λ t. absurd (not_both (once d.name) t f), h)) (λ f. (λ t. f, h))
    (λ q t e. first_cases d (λ ss e q. AllApart once ss e → AllApart once q.0 q.1) (λ e i j k. tt) (λ s ss e i j k. (placed_apart once d s ss e k.0, k.1)) r.0 r.1 q e h)

stmt_apart : (once : NameSet) (s : Stmt) (r : Rest) → AllApart once r.0 r.1 → AllApart once (stmt_before once s r).0 (stmt_before once s r).1
stmt_apart once (stmt.Set m a) r h = set_apart once (record { name = m; word = a }) r h
stmt_apart once (stmt.Load m width a) r h = (tt, h)
stmt_apart once (stmt.Store width a b) r h = (tt, h)
stmt_apart once (stmt.Ext a) r h = (tt, h)
stmt_apart once (stmt.Trap vector a) r h = (tt, h)

pub moved_apart : (once : NameSet) (ss : List Stmt) (e : BlockEnd) → AllApart once (moved once ss ([], e)).0 (moved once ss ([], e)).1
moved_apart once [] e = tt
moved_apart once (s ∷ ss) e = stmt_apart once s (moved once ss ([], e)) (moved_apart once ss e)

-- ---- by places

same_some : {A : Type 0} (x y : A) → Some x ≡ Some y → x ≡ y
same_some x y e = cc

apart_first : (once : NameSet) (m : Name) (a : CExpr) (x : Stmt) (xs : List Stmt) (e : BlockEnd) → x ≡ stmt.Set m a → Apart once x xs e → IsTrue (once m) → first_with (record { name = m; word = a }) xs e ≡ None
apart_first once m a x xs e i h t = subst (λ y. Apart once y xs e) i h t

-- the statement that comes first
first_none : (d : Delayed) (xs : List Stmt) (e : BlockEnd) (s : Stmt) → first_with d xs e ≡ None → slice_get xs 0 ≡ Some s → stmt_with d s ≡ None
first_none d [] e s h g = absurd (let z : ⊥ = cc in z)
first_none d (x ∷ xs) e s h g = subst (λ y. stmt_with d y ≡ None) (same_some x s g) (no_first (stmt_with d x) xs e h)

pub apart_at : (once : NameSet) (ss : List Stmt) (e : BlockEnd) (i : ℕ) (m : Name) (a : CExpr) (s : Stmt) → AllApart once ss e → slice_get ss i ≡ Some (stmt.Set m a) → slice_get ss (i + 1) ≡ Some s → IsTrue (once m)
    → stmt_with (record { name = m; word = a }) s ≡ None
apart_at once [] e i m a s h p q t = absurd (let z : ⊥ = cc in z)
apart_at once (x ∷ xs) e zero m a s h p q t = first_none (record { name = m; word = a }) xs e s (apart_first once m a x xs e (same_some _ _ p) h.0 t) q
apart_at once (x ∷ xs) e (suc i) m a s h p q t = apart_at once xs e i m a s h.1 p (subst (λ j. slice_get (x ∷ xs) j ≡ Some s) (let z : suc i + 1 ≡ suc (i + 1) = omega arith in z) q) t

end_none : (d : Delayed) (xs : List Stmt) (e : BlockEnd) → first_with d xs e ≡ None → 0 ≡ length xs → end_with d e ≡ None
end_none d [] e h l = no_end (end_with d e) h
end_none d (x ∷ xs) e h l = absurd (omega (arith, l))

pub apart_end : (once : NameSet) (ss : List Stmt) (e : BlockEnd) (i : ℕ) (m : Name) (a : CExpr) → AllApart once ss e → slice_get ss i ≡ Some (stmt.Set m a) → i + 1 ≡ length ss → IsTrue (once m)
    → end_with (record { name = m; word = a }) e ≡ None
apart_end once [] e i m a h p q t = absurd (let z : ⊥ = cc in z)
apart_end once (x ∷ xs) e zero m a h p q t = end_none (record { name = m; word = a }) xs e (apart_first once m a x xs e (same_some _ _ p) h.0 t) (omega (arith, q))
apart_end once (x ∷ xs) e (suc i) m a h p q t = apart_end once xs e i m a h.1 p (omega (arith, q)) t
