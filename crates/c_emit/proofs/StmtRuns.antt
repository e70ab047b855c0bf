-- Statements and trees with new names do what they did, where worlds are read through the renaming.
use Rattle.std.proofs.Common.{map, ◌≡◌, ℕ, Bool, true, false, if◌then◌else◌, List, [], ◌∷◌, ◌++◌, Option, Some, None, refl, sym, ap, ◌∙◌, subst}
use Rattle.std.proofs.Math.Path.{fun_ext}
use Rattle.dream_words.specs.Memory.{load, store, bytes_of}
use Rattle.dream_words.specs.Pages.{first_bad}
use Rattle.dream_words.specs.Words.{bit_of}
use Rattle.dream_words.specs.declared.machine.Regs.{Regs}
use Rattle.dream_words.specs.declared.machine.Name.{Name}
use Rattle.dream_words.specs.declared.machine.Width.{Width}
use Rattle.dream_words.specs.declared.outcome.Answer.{Answer}
use Rattle.dream_words.specs.declared.outcome.Call.{Call}
use Rattle.dream_words.specs.declared.outcome.Start.{Start}
use Rattle.dream_words.specs.declared.outcome.Outcome.{Outcome}
use Rattle.dream_words.specs.declared.outcome.Outcome.TheVariants as outcome
use Rattle.run_parts.specs.Parts.{Ends, Goes, Past, Broke, Over, Stuck, Run, on, after, skip, seq}
use Rattle.run_parts.specs.Steps.{Next, Halt, Jam, having, done, simply, then_do}
use Rattle.run_parts.specs.World.{Names, World, with_name, regs_in, answered, start_names, start_world, returned, outcome_of}
use Rattle.run_parts.specs.Effects.{Doing, set_word, setting, allowing, loading, storing, calling, trapping, answered_by}
use Rattle.c_syntax.specs.declared.syntax.CBin.TheVariants.{Shl}
use Rattle.c_syntax.specs.declared.syntax.CExpr.{CExpr, CExpr-F}
use Rattle.c_syntax.specs.declared.syntax.CCond.{CCond}
use Rattle.c_syntax.specs.declared.syntax.CStmt.{CStmt, CStmt-F, roll-CStmt}
use Rattle.c_syntax.specs.Words.{bin_of}
use Rattle.c_syntax.specs.Value.{each, both, picked, word_of, truth_of}
use Rattle.c_syntax.specs.Run.{Part, word_in, does_set, does_load, does_store, does_ext, does_trap, run, run_all}
use Rattle.c_syntax.proofs.Layers.{run_layer}
use Rattle.c_words.specs.Built as built
use Rattle.micro_ir.specs.declared.flow.Stmt.{Stmt}
use Rattle.micro_ir.specs.declared.flow.Stmt.TheVariants as stmt
use Rattle.micro_ir.specs.declared.flow.End.{End as BlockEnd}
use Rattle.micro_ir.specs.declared.flow.End.TheVariants as end
use Rattle.micro_ir.specs.declared.flow.Block.{Block}
use Rattle.micro_ir.specs.Run.{stmt_does, stmts_do}
use Rattle.guarded.specs.declared.tree.SetTo.{SetTo}
use Rattle.guarded.specs.declared.tree.SetTo.TheVariants as to
use Rattle.guarded.specs.Run.{word_to as tree_word_to, end_does, block_does}
use Rattle.guarded.specs.Uses.{Sets, word_uses, stmt_uses, stmts_uses, end_uses, block_uses, to_uses}
use Rattle.c_emit.specs.Emitted.{renamed_word, word_to, stmt_of, end_stmts, block_stmts, stuck_stmt}
use Rattle.c_emit.proofs.Known.{Known, known_first, known_second}
use Rattle.c_emit.proofs.Seen.{seen, seen_did, Same, seq_same, simply_same, having_seen, then_is_seq}
use Rattle.c_emit.proofs.Renaming.{pulled, word_step, word_kept, cond_kept, term_kept, num_value}

-- What is asked of a renaming of the known names.
pub record IsRenaming (X : Name → Bool) (f : Name → Name) : Type 0 where
  pub sets : (v : Names) (n : Name) (x : ℕ) → X n ≡ true → (k : Name) → pulled X f (with_name v (f n) x) k ≡ with_name (pulled X f v) n x k
  pub regs : (v : Names) → regs_in (pulled X f v) ≡ regs_in v
  pub answers : (a : Answer) (v : Names) (k : Name) → pulled X f (answered a v) k ≡ answered a (pulled X f v) k
  pub starts : (s : Start) (k : Name) → pulled X f (start_names s) k ≡ start_names s k

-- a world as it is read through the renaming
abbrev pub pull : (Name → Bool) → (Name → Name) → World → World
pull X f w = record w { names = pulled X f w.names }

-- parts that do the same in every number of turns from every world are equal
pub equal_parts : (a b : Part) → ((m : ℕ) (w : World) → a m w ≡ b m w) → a ≡ b
equal_parts a b h = fun_ext (λ m. fun_ext (λ w. h m w))

-- ---- sequences of C

after_skip : (r : Run World Outcome) → on r (after skip) ≡ r
after_skip (Ends (Past w) m) = refl
after_skip (Ends (Broke w) m) = refl
after_skip (Ends (Over o) m) = refl
after_skip (Ends Stuck m) = refl
after_skip (Goes w) = refl

after_seq : (b c : Part) (r : Run World Outcome) → on r (after (seq b c)) ≡ on (on r (after b)) (after c)
after_seq b c (Ends (Past w) m) = refl
after_seq b c (Ends (Broke w) m) = refl
after_seq b c (Ends (Over o) m) = refl
after_seq b c (Ends Stuck m) = refl
after_seq b c (Goes w) = refl

pub run_append : (xs ys : List CStmt) → run_all (xs ++ ys) ≡ seq (run_all xs) (run_all ys)
run_append [] ys = equal_parts _ _ (λ m w. refl)
run_append (x ∷ xs) ys = ap (seq (run x)) (run_append xs ys) ∙ equal_parts _ _ (λ m w. after_seq (run_all xs) (run_all ys) (run x m w))

pub run_one : (s : CStmt) → run_all (s ∷ []) ≡ run s
run_one s = equal_parts _ _ (λ m w. after_skip (run s m w))

module _ (X : Name → Bool) (f : Name → Name) (ok : IsRenaming X f) where
  -- ---- effects

  in_names : (w : World) (u v : Names) → ((n : Name) → u n ≡ v n) → ◌≡◌ {A = World} (record w { names = u }) (record w { names = v })
  in_names w u v h = ap (λ (n : Names). record w { names = n }) (fun_ext h)

  set_seen : (n : Name) (x : ℕ) (w : World) → X n ≡ true → pull X f (set_word (f n) x w) ≡ set_word n x (pull X f w)
  set_seen n x w h = in_names w _ _ (ok.sets w.names n x h)

  returned_seen : (w : World) → returned w ≡ returned (pull X f w)
  returned_seen w = ap (λ (r : Regs). outcome.Returned r w.mem w.calls) (sym (ok.regs w.names))

  answered_seen : (left : List Answer) (calls : List Call) (w : World) → seen_did (pull X f) (answered_by left calls w) ≡ answered_by left calls (pull X f w)
  answered_seen [] calls w = refl
  answered_seen (a ∷ rest) calls w = ap (λ (v : Names). Next (record w { names = v; mem = a.mem; left = rest; calls = calls })) (fun_ext (ok.answers a w.names))

  calling_seen : (x : ℕ) (w : World) → seen_did (pull X f) (calling x w) ≡ calling x (pull X f w)
  calling_seen x w =
      answered_seen w.left (w.calls ++ record { target = x; regs = regs_in w.names; mem = w.mem } ∷ []) w
      ∙ ap (λ (r : Regs). answered_by w.left (w.calls ++ record { target = x; regs = r; mem = w.mem } ∷ []) (pull X f w)) (sym (ok.regs w.names))

  if_seen : (b : Bool) (c d c' d' : Doing) → seen_did (pull X f) c ≡ c' → seen_did (pull X f) d ≡ d' → seen_did (pull X f) (if b then c else d) ≡ (if b then c' else d')
  if_seen true c d c' d' p q = p
  if_seen false c d c' d' p q = q

  trapping_seen : (vector x : ℕ) (w : World) → seen_did (pull X f) (trapping vector x w) ≡ trapping vector x (pull X f w)
  trapping_seen vector x w = if_seen _ (Next w) (Halt (outcome.Faulted vector 0 w.mem w.calls)) _ _ refl refl

  -- an access that is allowed in a world is allowed in that one read through the renaming
  allowing_seen : (bad : Option ℕ) (w : World) (d d' : Doing) → seen_did (pull X f) d ≡ d' → seen_did (pull X f) (allowing bad w d) ≡ allowing bad (pull X f w) d'
  allowing_seen None w d d' h = h
  allowing_seen (Some a) w d d' h = refl

  loading_seen : (n : Name) (width : Width) (at : ℕ) (w : World) → X n ≡ true → seen_did (pull X f) (loading (f n) width at w) ≡ loading n width at (pull X f w)
  loading_seen n width at w h = let x = load w.mem at (bytes_of width) in
      allowing_seen (first_bad w.pages.read at (bytes_of width)) w (Next (set_word (f n) x w)) (Next (set_word n x (pull X f w))) (ap (λ (v : World). Next v) (set_seen n x w h))

  storing_seen : (width : Width) (at x : ℕ) (w : World) → seen_did (pull X f) (storing width at x w) ≡ storing width at x (pull X f w)
  storing_seen width at x w = let mem = store w.mem at (bytes_of width) x in
      allowing_seen (first_bad w.pages.write at (bytes_of width)) w (Next (record w { mem = mem })) (Next (record (pull X f w) { mem = mem })) refl

  -- ---- simple statements

  word_in_kept : (e : CExpr) → Known X (word_uses e) → (w : World) → word_in (renamed_word f e) w ≡ word_in e (pull X f w)
  word_in_kept e h w = word_kept X f e h w.names

  does_seen : (o p : Option ℕ) (g h : ℕ → Doing) → o ≡ p → ((x : ℕ) → seen_did (pull X f) (g x) ≡ h x) → seen_did (pull X f) (having o g) ≡ having p h
  does_seen o p g h e k = having_seen (pull X f) o g h k ∙ ap (λ q. having q h) e

  does_set_seen : (n : Name) (o p : Option ℕ) (w : World) → X n ≡ true → o ≡ p
      → seen_did (pull X f) (having o (λ x. setting (f n) x w)) ≡ having p (λ x. setting n x (pull X f w))
  does_set_seen n o p w h e = does_seen o p (λ x. setting (f n) x w) (λ x. setting n x (pull X f w)) e (λ x. ap (λ (v : World). Next v) (set_seen n x w h))

  does_ext_seen : (e : CExpr) → Known X (word_uses e) → (w : World) → seen_did (pull X f) (does_ext (renamed_word f e) w) ≡ does_ext e (pull X f w)
  does_ext_seen e h w = does_seen _ _ (λ x. calling x w) (λ x. calling x (pull X f w)) (word_in_kept e h w) (λ x. calling_seen x w)

  -- a statement of C, as what it does
  abbrev DoesAs : CStmt → (World → Doing) → Type 0
  DoesAs s d = run s ≡ simply d

  -- a simple statement
  stmt_seen : (s : Stmt) → Known X (stmt_uses s) → Same (pull X f) (run (stmt_of f s)) (simply (stmt_does s))
  stmt_seen (stmt.Set n e) h =
      subst (λ (a : Part). Same (pull X f) a (simply (does_set n e))) (sym (run_layer (CStmt-F.Set (f n) (renamed_word f e))))
      (simply_same (pull X f) (does_set (f n) (renamed_word f e)) (does_set n e) (λ w. does_set_seen n _ _ w (known_second X (word_uses e) (Sets n ∷ []) h).0 (word_in_kept e (known_first X (word_uses e) (Sets n ∷ []) h) w)))
  stmt_seen (stmt.Load n width e) h =
      subst (λ (a : Part). Same (pull X f) a (simply (does_load n width e))) (sym (run_layer (CStmt-F.Load (f n) width (renamed_word f e))))
      (simply_same (pull X f) (does_load (f n) width (renamed_word f e)) (does_load n width e) (λ w.
      does_seen _ _ (λ at. loading (f n) width at w) (λ at. loading n width at (pull X f w)) (word_in_kept e (known_first X (word_uses e) (Sets n ∷ []) h) w)
      (λ at. loading_seen n width at w (known_second X (word_uses e) (Sets n ∷ []) h).0)))
  stmt_seen (stmt.Store width e g) h =
      subst (λ (a : Part). Same (pull X f) a (simply (does_store width e g))) (sym (run_layer (CStmt-F.Store width (renamed_word f e) (renamed_word f g))))
      (simply_same (pull X f) (does_store width (renamed_word f e) (renamed_word f g)) (does_store width e g) (λ w.
      does_seen _ _ (λ at. having (word_in (renamed_word f g) w) (λ x. storing width at x w)) (λ at. having (word_in g (pull X f w)) (λ x. storing width at x (pull X f w)))
      (word_in_kept e (known_first X (word_uses e) (word_uses g) h) w)
      (λ at. does_seen _ _ (λ x. storing width at x w) (λ x. storing width at x (pull X f w)) (word_in_kept g (known_second X (word_uses e) (word_uses g) h) w) (λ x. storing_seen width at x w))))
  stmt_seen (stmt.Ext e) h =
      subst (λ (a : Part). Same (pull X f) a (simply (does_ext e))) (sym (run_layer (CStmt-F.Ext (renamed_word f e))))
      (simply_same (pull X f) (does_ext (renamed_word f e)) (does_ext e) (does_ext_seen e h))
  stmt_seen (stmt.Trap vector e) h =
      subst (λ (a : Part). Same (pull X f) a (simply (does_trap vector e))) (sym (run_layer (CStmt-F.Trap vector (renamed_word f e))))
      (simply_same (pull X f) (does_trap vector (renamed_word f e)) (does_trap vector e) (λ w.
      does_seen _ _ (λ x. trapping vector x w) (λ x. trapping vector x (pull X f w)) (word_in_kept e h w) (λ x. trapping_seen vector x w)))

  -- ---- blocks

  -- a doing and another after it, as one
  joined_is : (g h : World → Doing) → simply (λ w. then_do (g w) h) ≡ seq (simply g) (simply h)
  joined_is g h = equal_parts _ _ (λ m w. then_is_seq g h m w)

  then_assoc : (d : Doing) (g h : World → Doing) → then_do (then_do d g) h ≡ then_do d (λ w. then_do (g w) h)
  then_assoc (Next w) g h = refl
  then_assoc (Halt o) g h = refl
  then_assoc Jam g h = refl

  -- statements, and what follows them
  stmts_seen : (ss : List Stmt) → Known X (stmts_uses ss) → (rest : List CStmt) (k : World → Doing) → Same (pull X f) (run_all rest) (simply k)
      → Same (pull X f) (run_all (map (stmt_of f) ss ++ rest)) (simply (λ w. then_do (stmts_do ss w) k))
  stmts_seen [] h rest k e = e
  stmts_seen (s ∷ ss) h rest k e =
      subst (Same (pull X f) (run_all (map (stmt_of f) (s ∷ ss) ++ rest)))
      (sym (joined_is (stmt_does s) (λ w. then_do (stmts_do ss w) k)) ∙ equal_parts _ _ (λ m w. ap (λ d. done d m) (sym (then_assoc (stmt_does s w) (stmts_do ss) k))))
      (seq_same (pull X f) (run (stmt_of f s)) (simply (stmt_does s)) (run_all (map (stmt_of f) ss ++ rest)) (simply (λ w. then_do (stmts_do ss w) k))
      (stmt_seen s (known_first X (stmt_uses s) (stmts_uses ss) h))
      (stmts_seen ss (known_second X (stmt_uses s) (stmts_uses ss) h) rest k e))

  return_seen : Same (pull X f) (run_all (roll-CStmt CStmt-F.Return ∷ [])) (simply (λ w. Halt (returned w)))
  return_seen =
      subst (λ (a : Part). Same (pull X f) a (simply (λ w. Halt (returned w)))) (sym (run_one (roll-CStmt CStmt-F.Return) ∙ run_layer CStmt-F.Return))
      (simply_same (pull X f) (λ w. Halt (returned w)) (λ w. Halt (returned w)) (λ w. ap (λ o. Halt o) (returned_seen w)))

  -- the statement of an end that no tree has
  stuck_value : (w : World) → word_in (built.bin Shl (built.num 0) (built.num 32)) w ≡ None
  stuck_value w =
      word_step (CExpr-F.Bin Shl (built.num 0) (built.num 32)) w.names
      ∙ ap (λ o. both (bin_of Shl) o (word_of (built.num 32) w.names)) (num_value X f 0 w.names)
      ∙ ap (λ o. both (bin_of Shl) (Some 0) o) (num_value X f 32 w.names)

  stuck_seen : Same (pull X f) (run_all (stuck_stmt ∷ [])) (simply (λ w. Jam))
  stuck_seen =
      subst (λ (a : Part). Same (pull X f) a (simply (λ w. Jam))) (sym (run_one stuck_stmt ∙ run_layer (CStmt-F.Trap 0 (built.bin Shl (built.num 0) (built.num 32)))))
      (simply_same (pull X f) (does_trap 0 (built.bin Shl (built.num 0) (built.num 32))) (λ w. Jam)
      (λ w. ap (λ o. seen_did (pull X f) (having o (λ x. trapping 0 x w))) (stuck_value w)))

  end_seen : (e : BlockEnd) → Known X (end_uses e) → Same (pull X f) (run_all (end_stmts f e)) (simply (end_does e))
  end_seen (end.Go a) h = record { by = λ m w. refl }
  end_seen (end.Branch t a b) h = stuck_seen
  end_seen (end.Switch e cases) h = stuck_seen
  end_seen end.Return h = return_seen
  end_seen (end.Leave e) h =
      subst (Same (pull X f) (run_all (end_stmts f (end.Leave e)))) (sym (joined_is (does_ext e) (λ v. Halt (returned v))))
      (subst (λ (a : Part). Same (pull X f) (seq a (run_all (roll-CStmt CStmt-F.Return ∷ []))) (seq (simply (does_ext e)) (simply (λ v. Halt (returned v))))) (sym (run_layer (CStmt-F.Ext (renamed_word f e))))
      (seq_same (pull X f) (simply (does_ext (renamed_word f e))) (simply (does_ext e)) (run_all (roll-CStmt CStmt-F.Return ∷ [])) (simply (λ v. Halt (returned v)))
      (simply_same (pull X f) (does_ext (renamed_word f e)) (does_ext e) (does_ext_seen e h)) return_seen))

  pub block_seen : (b : Block) → Known X (block_uses b) → Same (pull X f) (run_all (block_stmts f b)) (simply (block_does b))
  block_seen b h =
      stmts_seen b.stmts (known_first X (stmts_uses b.stmts) (end_uses b.end) h) (end_stmts f b.end) (end_does b.end)
      (end_seen b.end (known_second X (stmts_uses b.stmts) (end_uses b.end) h))

  -- ---- what a name is set to

  picked_bit : (o : Option Bool) → picked o (Some 1) (Some 0) ≡ each bit_of o
  picked_bit None = refl
  picked_bit (Some true) = refl
  picked_bit (Some false) = refl

  word_if_value : (t : CCond) (v : Names) → word_of (built.word_if t) v ≡ each bit_of (truth_of t v)
  word_if_value t v =
      word_step (CExpr-F.Pick t (built.num 1) (built.num 0)) v
      ∙ ap (λ o. picked (truth_of t v) o (word_of (built.num 0) v)) (num_value X f 1 v)
      ∙ ap (λ o. picked (truth_of t v) (Some 1) o) (num_value X f 0 v)
      ∙ picked_bit (truth_of t v)

  to_kept : (t : SetTo) → Known X (to_uses t) → (w : World) → word_in (word_to f t) w ≡ tree_word_to t (pull X f w)
  to_kept (to.Expr e) h w = word_in_kept e h w
  to_kept (to.Cond c) h w = word_if_value _ w.names ∙ ap (each bit_of) (cond_kept X f c h w.names)
  to_kept (to.Term t) h w = word_if_value _ w.names ∙ ap (each bit_of) (term_kept X f t h w.names)

  pub to_seen : (n : Name) (t : SetTo) → X n ≡ true → Known X (to_uses t)
      → Same (pull X f) (run (roll-CStmt (CStmt-F.Set (f n) (word_to f t)))) (simply (λ w. having (tree_word_to t w) (λ x. setting n x w)))
  to_seen n t known h =
      subst (λ (a : Part). Same (pull X f) a (simply (λ w. having (tree_word_to t w) (λ x. setting n x w)))) (sym (run_layer (CStmt-F.Set (f n) (word_to f t))))
      (simply_same (pull X f) (does_set (f n) (word_to f t)) (λ w. having (tree_word_to t w) (λ x. setting n x w)) (λ w. does_set_seen n _ _ w known (to_kept t h w)))

  -- ---- whole runs

  pub outcome_seen : (r : Run World Outcome) → outcome_of (seen (pull X f) r) ≡ outcome_of r
  outcome_seen (Ends (Past w) m) = sym (returned_seen w)
  outcome_seen (Ends (Broke w) m) = refl
  outcome_seen (Ends (Over o) m) = refl
  outcome_seen (Ends Stuck m) = refl
  outcome_seen (Goes w) = refl

  pub start_seen : (s : Start) (answers : List Answer) → pull X f (start_world s answers) ≡ start_world s answers
  start_seen s answers = in_names (start_world s answers) _ _ (ok.starts s)
