-- Statements and an end lead alike once a word is put into what follows directly, where nobody sees its name.
use Rattle.std.proofs.Common.{◌≡◌, ◌⊎◌, inl, inr, ℕ, ◌+◌, ◌<◌, ◌≤◌, ◌^◌, Bool, true, false, cond, not, ◌&&◌, nat_le, List, [], ◌∷◌, Option, Some, None, refl, sym, ap, ◌∙◌, subst, arith}
use Rattle.std.specs.Prelude.{IsTrue}
use Rattle.dream_words.specs.declared.machine.Name.{Name}
use Rattle.run_parts.specs.Steps.{Next, Halt, Jam, To, End, Nowhere, having, then_do, arrive}
use Rattle.run_parts.specs.World.{Names, World, with_name}
use Rattle.run_parts.specs.Effects.{Doing, set_word, calling, loading, storing, trapping}
use Rattle.c_syntax.specs.declared.syntax.CExpr.{CExpr}
use Rattle.c_syntax.specs.Value.{word_of}
use Rattle.c_syntax.specs.Run.{word_in}
use Rattle.micro_ir.specs.declared.flow.Stmt.{Stmt}
use Rattle.micro_ir.specs.declared.flow.Stmt.TheVariants as stmt
use Rattle.micro_ir.specs.declared.flow.End.{End as BlockEnd}
use Rattle.micro_ir.specs.declared.flow.End.TheVariants as end
use Rattle.micro_ir.specs.Laws.{DidStays, IsWordOrStuck}
use Rattle.micro_ir.specs.Rule.{is_flow_target, is_flow_word, is_flow_stmt, are_flow_stmts}
use Rattle.micro_ir.specs.Run.{Arrive, branch, by_value, left_by, stmt_does, stmts_do, end_leads}
use Rattle.micro_ir.specs.World.{IsWorld}
use Rattle.micro_ir.proofs.Values.{both_true}
use Rattle.micro_ir.proofs.Worlds.{set_stays, value_is, stmt_stays}
use Rattle.flow_passes.specs.Uses.{NameSet, same_name, is_register, word_reads, stmt_reads, end_reads}
use Rattle.flow_passes.specs.Alike.{Alike, DoesAlike, ArrivesAlike}
use Rattle.flow_passes.specs.Laws.{Within}
use Rattle.flow_passes.proofs.Names.{same_self, alike_within, alike_trans, alike_self}
use Rattle.flow_passes.proofs.Reading.{same_value}
use Rattle.flow_passes.proofs.Statements.{statements_see}
use Rattle.flow_passes.proofs.Ends.{ends_see}
use Rattle.expr_fold.specs.declared.delayed.Delayed.{Delayed}
use Rattle.expr_fold.specs.Placed.{placed_word, placed_cond, placed_stmt, placed_end}
use Rattle.expr_fold.specs.Counts.{count_in_word, reads_of_stmt, reads_of_end, reads_of_rest}
use Rattle.expr_fold.specs.Moved.{Rest, first_with, one_more, placed_or, set_before, stmt_before, moved}
use Rattle.expr_fold.proofs.Named.{same_true, set_here, set_there, true_or_false, not_both, not_true}
use Rattle.expr_fold.proofs.Placing.{word_placed, cond_placed}
use Rattle.expr_fold.proofs.Weighing.{IsSome, word_read}
use Rattle.expr_fold.proofs.Keeping.{IsRuled, moved_ruled}
use Rattle.expr_fold.proofs.Moving.{Bounded, NoRegisters, Loses, set_cases, first_cases, first_moves, first_counted, stmt_loses, stmt_read, end_read, moved_loses, moved_bounded, bounded_rest}

-- ---- where statements and an end lead

abbrev pub leads : List Stmt → BlockEnd → World → Arrive
leads ss e w = arrive (stmts_do ss w) (end_leads e)

-- what statements and an end read is in a set
abbrev pub ReadsWithin : NameSet → List Stmt → BlockEnd → Type 0
ReadsWithin seen [] e = Within (end_reads e) seen
ReadsWithin seen (s ∷ ss) e = Within (stmt_reads s) seen × ReadsWithin seen ss e

-- what is alike twice is alike where less is seen
to_twice : (n : ℕ) (one two seen : NameSet) → Within seen one → Within seen two → (w u : World) (b c : Arrive) → Alike one w u → b ≡ To n u → ArrivesAlike (λ k. two) b c → ArrivesAlike (λ k. seen) (To n w) c
to_twice n one two seen i j w u b c al e h =
    let k = subst (λ x. ArrivesAlike (λ m. two) x c) e h in
    (k.0, k.1, alike_trans seen w u k.0 (alike_within seen one w u i al) (alike_within seen two u k.0 j k.2))

pub arrives_twice : (one two seen : NameSet) → Within seen one → Within seen two → (a b c : Arrive) → ArrivesAlike (λ k. one) a b → ArrivesAlike (λ k. two) b c → ArrivesAlike (λ k. seen) a c
arrives_twice one two seen i j Nowhere b c h g = tt
arrives_twice one two seen i j (End o) b c h g = subst (λ x. ArrivesAlike (λ k. two) x c) h g
arrives_twice one two seen i j (To n w) b c h g = to_twice n one two seen i j w h.0 b c h.2 h.1 g

then_sees : (seen : NameSet) (ss : List Stmt) (e : BlockEnd) (d f : Doing) → DidStays d → DidStays f → DoesAlike seen d f
    → ((w u : World) → IsWorld w → IsWorld u → Alike seen w u → ArrivesAlike (λ k. seen) (leads ss e w) (leads ss e u)) → ArrivesAlike (λ k. seen) (arrive (then_do d (stmts_do ss)) (end_leads e)) (arrive (then_do f (stmts_do ss)) (end_leads e))
then_sees seen ss e Jam f sd sf h g = tt
then_sees seen ss e (Halt o) f sd sf h g = ap (λ x. arrive (then_do x (stmts_do ss)) (end_leads e)) h
then_sees seen ss e (Next w) f sd sf (u, r, al) g =
    subst (λ x. ArrivesAlike (λ k. seen) (leads ss e w) (arrive (then_do x (stmts_do ss)) (end_leads e))) (sym r) (g w u sd (subst DidStays r sf) al)

-- from worlds that are alike in what is read they lead alike
pub leads_alike : (seen : NameSet) (ss : List Stmt) (e : BlockEnd) → ReadsWithin seen ss e → IsTrue (are_flow_stmts ss) → (w u : World) → IsWorld w → IsWorld u → Alike seen w u → ArrivesAlike (λ k. seen) (leads ss e w) (leads ss e u)
leads_alike seen [] e i t w u iw iu al = ends_see e seen (λ k. seen) w u i (λ n c m h. h) al
leads_alike seen (s ∷ ss) e i t w u iw iu al =
    let k = both_true (is_flow_stmt s) (are_flow_stmts ss) t in
    then_sees seen ss e (stmt_does s w) (stmt_does s u) (stmt_stays s w k.0 iw) (stmt_stays s u k.0 iu) (statements_see s seen seen w u k.0 iw iu i.0 (λ n h. inr h) al)
    (λ x y ix iy h. leads_alike seen ss e i.1 k.1 x y ix iy h)

-- ---- a word in place

-- a word in the place of a name that stands for its value
module _ (d : Delayed) (w : World) (held : word_of d.word w.names ≡ Some (w.names d.name)) where
  word_same : (a : CExpr) → word_in (placed_word (d ∷ []) a) w ≡ word_in a w
  word_same a = word_placed (d ∷ []) w.names w.names (held, tt) a (λ n t f. refl)

  stmt_same : (s : Stmt) → stmt_does (placed_stmt (d ∷ []) s) w ≡ stmt_does s w
  stmt_same (stmt.Set m a) = ap (λ o. having o (λ x. Next (set_word m x w))) (word_same a)
  stmt_same (stmt.Load m width a) = ap (λ o. having o (λ at. loading m width at w)) (word_same a)
  stmt_same (stmt.Store width a b) =
      ap (λ o. having o (λ at. having (word_in (placed_word (d ∷ []) b) w) (λ x. storing width at x w))) (word_same a)
      ∙ ap (λ o. having (word_in a w) (λ at. having o (λ x. storing width at x w))) (word_same b)
  stmt_same (stmt.Ext a) = ap (λ o. having o (λ target. calling target w)) (word_same a)
  stmt_same (stmt.Trap vector a) = ap (λ o. having o (λ x. trapping vector x w)) (word_same a)

  end_same : (e : BlockEnd) → end_leads (placed_end (d ∷ []) e) w ≡ end_leads e w
  end_same (end.Go a) = refl
  end_same (end.Branch t a b) = ap (λ o. branch o a b w) (cond_placed (d ∷ []) w.names w.names (held, tt) t (λ n r f. refl))
  end_same (end.Switch a cases) = ap (λ o. by_value o cases w) (word_same a)
  end_same end.Return = refl
  end_same (end.Leave a) = ap (λ o. left_by (having o (λ target. calling target w))) (word_same a)

  first_same : (ss : List Stmt) (e : BlockEnd) (q : Rest) → first_with d ss e ≡ Some q → leads q.0 q.1 w ≡ leads ss e w
  first_same = first_cases d (λ ss e q. leads q.0 q.1 w ≡ leads ss e w) (λ e i j. end_same e) (λ s ss e i j. ap (λ x. arrive (then_do x (stmts_do ss)) (end_leads e)) (stmt_same s))

-- every name but one
abbrev pub but : Name → NameSet
but m n = not (same_name m n)

-- a name that isn't counted isn't read
unread : (m n : Name) (reads : NameSet) (b : Bool) → same_name m n ≡ b → reads m ≡ false → IsTrue (reads n) → IsTrue (not b)
unread m n reads true e f t = absurd (not_both (reads n) t (ap reads (sym (same_true m n e)) ∙ f))
unread m n reads false e f t = refl

none_tested : (b : Bool) (k : ℕ) → IsSome b k → k ≡ 0 → b ≡ false
none_tested b k h e = h.is ∙ ap (nat_le 1) e

reads_but : (m : Name) → is_register m ≡ false → (ss : List Stmt) (e : BlockEnd) → reads_of_rest ss e m ≡ 0 → ReadsWithin (but m) ss e
reads_but m f [] e z = λ n t. unread m n (end_reads e) (same_name m n) refl (none_tested (end_reads e m) (reads_of_end e m) (end_read e m f) z) t
reads_but m f (s ∷ ss) e z =
    (λ n t. unread m n (stmt_reads s) (same_name m n) refl (none_tested (stmt_reads s m) (reads_of_stmt s m) (stmt_read s m f) (omega (arith, z))) t, reads_but m f ss e (omega (arith, z)))

-- a name that isn't seen is another one than each that is
seen_but : (seen : NameSet) (m : Name) → seen m ≡ false → Within seen (but m)
seen_but seen m f n t = unread m n seen (same_name m n) refl f t

-- the value of a word that doesn't read the name is the same after the name is set to it
value_stays : (m : Name) (a : CExpr) (x : ℕ) (w : World) → word_of a w.names ≡ Some x → word_reads a m ≡ false → word_of a (with_name w.names m x) ≡ Some x
value_stays m a x w e f = same_value a w.names (with_name w.names m x) (λ n r. set_there w.names m x n (not_true (same_name m n) (unread m n (word_reads a) (same_name m n) refl f r))) ∙ e

-- where less is seen
arrives_less : (one seen : NameSet) → Within seen one → (a b : Arrive) → ArrivesAlike (λ k. one) a b → ArrivesAlike (λ k. seen) a b
arrives_less one seen i Nowhere b h = tt
arrives_less one seen i (End o) b h = h
arrives_less one seen i (To n w) b h = (h.0, h.1, alike_within seen one w h.0 i h.2)

arrives_self : (seen : NameSet) (a : Arrive) → ArrivesAlike (λ k. seen) a a
arrives_self seen Nowhere = tt
arrives_self seen (End o) = refl
arrives_self seen (To n w) = (w, refl, alike_self seen w)

-- a world after a name is set is alike but for the name
set_but : (m : Name) (x : ℕ) (w : World) → Alike (but m) (set_word m x w) w
set_but m x w = record { names = λ n t. sym (set_there w.names m x n (not_true (same_name m n) t)); mem = refl; pages = refl; left = refl; calls = refl }

-- A name is set, and its word put in place in the rest: where nobody sees it, it needn't be set.
set_unseen : (d : Delayed) (seen : NameSet) (x : ℕ) (w : World) (ss : List Stmt) (e : BlockEnd) (q : Rest) → IsTrue (is_flow_target d.name) → is_register d.name ≡ false → seen d.name ≡ false → word_of d.word w.names ≡ Some x → x < 2 ^ 32
    → count_in_word d.word d.name + reads_of_rest ss e d.name ≤ 1 → IsTrue (are_flow_stmts q.0) → IsWorld w → first_with d ss e ≡ Some q → ArrivesAlike (λ k. seen) (leads ss e (set_word d.name x w)) (leads q.0 q.1 w)
set_unseen d seen x w ss e q t f u v small l rule iw h =
    let m = d.name in
    let v1 = set_word m x w in
    let some = first_counted d f ss e q h in
    let none : word_reads d.word m ≡ false = none_tested (word_reads d.word m) (count_in_word d.word m) (word_read m d.word) (omega (arith, some, l)) in
    let held : word_of d.word v1.names ≡ Some (v1.names m) = value_stays m d.word x w v none ∙ ap (λ y. Some y) (sym (set_here w.names m x m t (same_self m))) in
    let moves = subst (λ b. reads_of_rest q.0 q.1 m + cond b 1 0 ≡ reads_of_rest ss e m + count_in_word d.word m) (same_self m) (first_moves d f ss e q h (omega (arith, l)) m) in
    let gone : reads_of_rest q.0 q.1 m ≡ 0 = omega (arith, moves, l) in
    subst (λ a. ArrivesAlike (λ k. seen) a (leads q.0 q.1 w)) (first_same d v1 held ss e q h)
    (arrives_less (but m) seen (seen_but seen m u) (leads q.0 q.1 v1) (leads q.0 q.1 w)
    (leads_alike (but m) q.0 q.1 (reads_but m f q.0 q.1 gone) rule v1 w (set_stays w m x iw small) iw (set_but m x w)))

-- ---- statements

-- Names among some that are read less often aren't seen.
abbrev pub Hidden : NameSet → NameSet → List Stmt → BlockEnd → Rest → Type 0
Hidden once seen ss e r = (n : Name) → IsTrue (once n) → reads_of_rest r.0 r.1 n < reads_of_rest ss e n → seen n ≡ false

-- the rest leads alike from every world
abbrev pub LeadsSo : NameSet → List Stmt → BlockEnd → Rest → Type 0
LeadsSo seen ss e r = (w : World) → IsWorld w → ArrivesAlike (λ k. seen) (leads ss e w) (leads r.0 r.1 w)

then_leads : (seen : NameSet) (ss : List Stmt) (e : BlockEnd) (r : Rest) (d : Doing) → DidStays d → LeadsSo seen ss e r → ArrivesAlike (λ k. seen) (arrive (then_do d (stmts_do ss)) (end_leads e)) (arrive (then_do d (stmts_do r.0)) (end_leads r.1))
then_leads seen ss e r Jam s h = tt
then_leads seen ss e r (Halt o) s h = refl
then_leads seen ss e r (Next w) s h = h w s

one_leads : (seen : NameSet) (s : Stmt) (ss : List Stmt) (e : BlockEnd) (r : Rest) → IsTrue (is_flow_stmt s) → LeadsSo seen ss e r → LeadsSo seen (s ∷ ss) e (one_more s r)
one_leads seen s ss e r t h w iw = then_leads seen ss e r (stmt_does s w) (stmt_stays s w t iw) h

-- a word that has a value
valued : (o : Option ℕ) (x : ℕ) → o ≡ Some x → IsWordOrStuck o → x < 2 ^ 32
valued o x e h = subst IsWordOrStuck e h

set_valued : (seen : NameSet) (m : Name) (ss : List Stmt) (e : BlockEnd) (q : Rest) (w : World) (o p : Option ℕ) → p ≡ o → ((x : ℕ) → p ≡ Some x → ArrivesAlike (λ k. seen) (leads ss e (set_word m x w)) (leads q.0 q.1 w))
    → ArrivesAlike (λ k. seen) (arrive (then_do (having o (λ x. Next (set_word m x w))) (stmts_do ss)) (end_leads e)) (leads q.0 q.1 w)
set_valued seen m ss e q w None p i h = tt
set_valued seen m ss e q w (Some x) p i h = h x i

set_leads : (once seen : NameSet) → NoRegisters once → (d : Delayed) (ss : List Stmt) (e : BlockEnd) (r : Rest) → IsTrue (is_flow_stmt (stmt.Set d.name d.word)) → IsTrue (are_flow_stmts (set_before once d r).0) → Bounded once (stmt.Set d.name d.word ∷ r.0) r.1
    → (IsTrue (once d.name) → (q : Rest) → first_with d r.0 r.1 ≡ Some q → seen d.name ≡ false) → LeadsSo seen ss e r → LeadsSo seen (stmt.Set d.name d.word ∷ ss) e (set_before once d r)
set_leads once seen regs d ss e r t rule b hid h =
    set_cases once d r (λ q. IsTrue (are_flow_stmts q.0) → LeadsSo seen (stmt.Set d.name d.word ∷ ss) e q) (λ f u. one_leads seen (stmt.Set d.name d.word) ss e r t h) (λ f u. one_leads seen (stmt.Set d.name d.word) ss e r t h)
    (λ q o p u w iw. set_valued seen d.name ss e q w (word_in d.word w) (word_in d.word w) refl (λ x v.
    let k = both_true (is_flow_target d.name) (is_flow_word d.word) t in
    let small = valued (word_in d.word w) x v (value_is d.word w k.1 iw) in
    arrives_twice seen seen seen (λ n j. j) (λ n j. j) (leads ss e (set_word d.name x w)) (leads r.0 r.1 (set_word d.name x w)) (leads q.0 q.1 w) (h (set_word d.name x w) (set_stays w d.name x iw small))
    (set_unseen d seen x w r.0 r.1 q k.0 (regs d.name o) (hid o q p) v small (b d.name o) u iw p))) rule

hidden_rest : (once seen : NameSet) → NoRegisters once → (s : Stmt) (ss : List Stmt) (e : BlockEnd) (r : Rest) → Bounded once r.0 r.1 → Hidden once seen (s ∷ ss) e (stmt_before once s r) → Hidden once seen ss e r
hidden_rest once seen regs s ss e r b h n t l = let k = stmt_loses once regs s r b n in let x = k.is in h n t (omega (arith, x, l))

bounded_more : (once : NameSet) (s : Stmt) (ss : List Stmt) (e : BlockEnd) (r : Rest) → ((n : Name) → Loses once n (reads_of_rest ss e n) (reads_of_rest r.0 r.1 n)) → Bounded once (s ∷ ss) e → Bounded once (s ∷ r.0) r.1
bounded_more once s ss e r h b n t = let k = h n in let x = k.is in let y = b n t in omega (arith, x, y)

set_placed : (once : NameSet) (d : Delayed) (r q : Rest) → IsTrue (once d.name) → first_with d r.0 r.1 ≡ Some q → set_before once d r ≡ q
set_placed once d r q t e = ap (λ b. cond b (placed_or (first_with d r.0 r.1) (one_more (stmt.Set d.name d.word) r)) (one_more (stmt.Set d.name d.word) r)) t ∙ ap (λ o. placed_or o (one_more (stmt.Set d.name d.word) r)) e

-- the name of a word that is put in place is read less often
placed_hidden : (once seen : NameSet) → NoRegisters once → (d : Delayed) (ss : List Stmt) (e : BlockEnd) (r q : Rest) → Loses once d.name (reads_of_rest ss e d.name) (reads_of_rest r.0 r.1 d.name) → Bounded once r.0 r.1
    → Hidden once seen (stmt.Set d.name d.word ∷ ss) e (set_before once d r) → IsTrue (once d.name) → first_with d r.0 r.1 ≡ Some q → seen d.name ≡ false
placed_hidden once seen regs d ss e r q k b h t i =
    let m = d.name in
    let moves = subst (λ c. reads_of_rest q.0 q.1 m + cond c 1 0 ≡ reads_of_rest r.0 r.1 m + count_in_word d.word m) (same_self m) (first_moves d (regs m t) r.0 r.1 q i (b m t) m) in
    let few = k.is in
    h m t (subst (λ x. reads_of_rest x.0 x.1 m < count_in_word d.word m + reads_of_rest ss e m) (sym (set_placed once d r q t i)) (omega (arith, moves, few)))

pub moved_leads : (once seen : NameSet) → NoRegisters once → (ss : List Stmt) (e : BlockEnd) → Bounded once ss e → IsRuled ss e → Hidden once seen ss e (moved once ss ([], e)) → LeadsSo seen ss e (moved once ss ([], e))
moved_leads once seen regs [] e b t h = λ w iw. arrives_self seen (leads [] e w)
moved_leads once seen regs (s ∷ ss) e b t h =
    let r = moved once ss ([], e) in
    let rule = both_true (is_flow_stmt s) (are_flow_stmts ss) t.0 in
    let less = bounded_rest once s ss e b in
    let loses : (n : Name) → Loses once n (reads_of_rest ss e n) (reads_of_rest r.0 r.1 n) = moved_loses once regs ss e less in
    let bounded = moved_bounded once regs ss e less in
    stmt_leads once seen regs s ss e r rule.0 (moved_ruled once (s ∷ ss) e t).0 (bounded_more once s ss e r loses b) bounded loses h (moved_leads once seen regs ss e less (rule.1, t.1) (hidden_rest once seen regs s ss e r bounded h))
  where
    stmt_leads : (once seen : NameSet) → NoRegisters once → (s : Stmt) (ss : List Stmt) (e : BlockEnd) (r : Rest) → IsTrue (is_flow_stmt s) → IsTrue (are_flow_stmts (stmt_before once s r).0) → Bounded once (s ∷ r.0) r.1 → Bounded once r.0 r.1
        → ((n : Name) → Loses once n (reads_of_rest ss e n) (reads_of_rest r.0 r.1 n)) → Hidden once seen (s ∷ ss) e (stmt_before once s r) → LeadsSo seen ss e r → LeadsSo seen (s ∷ ss) e (stmt_before once s r)
    stmt_leads once seen regs (stmt.Set m a) ss e r t rule b less loses hid h =
        set_leads once seen regs (record { name = m; word = a }) ss e r t rule b (λ o q i. placed_hidden once seen regs (record { name = m; word = a }) ss e r q (loses m) less hid o i) h
    stmt_leads once seen regs (stmt.Load m width a) ss e r t rule b less loses hid h = one_leads seen (stmt.Load m width a) ss e r t h
    stmt_leads once seen regs (stmt.Store width a c) ss e r t rule b less loses hid h = one_leads seen (stmt.Store width a c) ss e r t h
    stmt_leads once seen regs (stmt.Ext a) ss e r t rule b less loses hid h = one_leads seen (stmt.Ext a) ss e r t h
    stmt_leads once seen regs (stmt.Trap vector a) ss e r t rule b less loses hid h = one_leads seen (stmt.Trap vector a) ss e r t h
