-- A tree with new names does what it did, where worlds are read through the renaming; so its function has the same run.
use Rattle.std.proofs.Common.{map, ◌≡◌, ℕ, Bool, true, if◌then◌else◌, List, [], ◌∷◌, ◌++◌, Option, Some, None, refl, sym, ap, ◌∙◌, subst}
use Rattle.dream_words.specs.declared.machine.Name.{Name}
use Rattle.dream_words.specs.declared.outcome.Answer.{Answer}
use Rattle.dream_words.specs.declared.outcome.Start.{Start}
use Rattle.run_parts.specs.Parts.{skip, seq, in_turn, choose, first_arm, always}
use Rattle.run_parts.specs.World.{World, start_world, outcome_of}
use Rattle.c_syntax.specs.declared.syntax.CExpr.{CExpr-F}
use Rattle.c_syntax.specs.declared.syntax.CCond.{CCond}
use Rattle.c_syntax.specs.declared.syntax.CStmt.{CStmt, CStmt-F, roll-CStmt}
use Rattle.c_syntax.specs.declared.syntax.CArm.{CArm}
use Rattle.c_syntax.specs.declared.syntax.CGroup.{CGroup}
use Rattle.c_syntax.specs.Run.{Part, Test, word_in, holds, run, run_arm, run_group, run_all}
use Rattle.c_syntax.proofs.Layers.{run_layer, run_arm_layer, run_group_layer}
use Rattle.c_words.specs.Built as built
use Rattle.cond_terms.specs.declared.term.Term.{Term}
use Rattle.guarded.specs.declared.tree.Tree as tree
use Rattle.guarded.specs.declared.tree.Tree.{Tree, Tree-F, roll-Tree}
use Rattle.guarded.specs.declared.tree.TreeCase as case
use Rattle.guarded.specs.declared.tree.TreeCase.{TreeCase, TreeCase-F, roll-TreeCase}
use Rattle.guarded.specs.Run.{term_holds, tree_at, tree_does, case_does}
use Rattle.guarded.specs.Uses.{Use, Sets, joined, term_uses, to_uses, tree_uses_at, tree_uses, case_uses}
use Rattle.guarded.proofs.Induct.{Each, TreeCases, every_tree}
use Rattle.guarded.proofs.Layers.{does_layer, case_does_layer, uses_layer, case_uses_layer}
use Rattle.c_emit.specs.Emitted.{term_cond, word_to, if_printed, Chain, Printed, goes_on, if_chain, all_stmts, printed_at, case_printed_at, printed, case_printed}
use Rattle.c_emit.proofs.Known.{Known, known_first, known_second}
use Rattle.c_emit.proofs.Seen.{Same, skip_same, leave_same, seq_same, choose_same, switch_same, SameGroups, none, more, repeat_same}
use Rattle.c_emit.proofs.Renaming.{pulled, word_step, term_kept}
use Rattle.c_emit.proofs.StmtRuns.{IsRenaming, pull, run_append, run_one, block_seen, to_seen, outcome_seen, start_seen}

pub printed_layer : (f : Name → Name) (y : Tree-F Tree TreeCase) → printed f (roll-Tree y) ≡ printed_at f (tree.map-Tree Tree TreeCase Printed CGroup (printed f) (case_printed f) y)
printed_layer f y = tree.fold-roll-Tree Printed CGroup (printed_at f) case_printed_at y

pub case_printed_layer : (f : Name → Name) (y : TreeCase-F Tree TreeCase) → case_printed f (roll-TreeCase y) ≡ case_printed_at (case.map-TreeCase Tree TreeCase Printed CGroup (printed f) (case_printed f) y)
case_printed_layer f y = case.fold-roll-TreeCase Printed CGroup (printed_at f) case_printed_at y

-- what a last `else` does, and what a chain does: its first arm whose test holds, else its last part
abbrev pub last_does : Option (List CStmt) → Part
last_does None = skip
last_does (Some ss) = run_all ss

abbrev pub chain_does : Chain → Part
chain_does c = first_arm (map run_arm c.arms) (last_does c.last)

-- an `if` does what its chain does
if_does : (arms : List CArm) (last : Option (List CStmt)) → run (roll-CStmt (CStmt-F.If arms last)) ≡ first_arm (map run_arm arms) (last_does last)
if_does arms None = run_layer (CStmt-F.If arms None)
if_does arms (Some ss) = run_layer (CStmt-F.If arms (Some ss))

-- a chain that begins with an arm
arm_chain : (t : CCond) (body : List CStmt) (rest : Chain) → chain_does (if_chain t body rest) ≡ choose (holds t) (run_all body) (chain_does rest)
arm_chain t body rest = ap (λ (p : Test × Part). choose p.0 p.1 (chain_does rest)) (run_arm_layer (record { test = t; body = body }))

module _ (X : Name → Bool) (f : Name → Name) (ok : IsRenaming X f) where
  abbrev AsPart : Part → Part → Type 0
  AsPart a b = Same (pull X f) a b

  -- What is printed does what a part does, as statements and where it stands in an `else`.
  abbrev DoesIt : Printed → Part → Type 0
  DoesIt p a = AsPart (run_all p.stmts) a × AsPart (chain_does (goes_on p.chain p.stmts)) a

  abbrev Kept : Tree → Type 0
  Kept t = Known X (tree_uses t) → DoesIt (printed f t) (tree_does t)

  -- a group and a case: the same values, and bodies that do the same
  abbrev SamePair : List ℕ × Part → List ℕ × Part → Type 0
  SamePair g h = (g.0 ≡ h.0) × AsPart g.1 h.1

  abbrev KeptCase : TreeCase → Type 0
  KeptCase c = Known X (case_uses c) → SamePair (run_group (case_printed f c)) (case_does c)

  -- by the layer of a tree
  by_layer : (y : Tree-F Tree TreeCase)
      → (Known X (tree_uses_at (tree.map-Tree Tree TreeCase (List Use) (List Use) tree_uses case_uses y))
      → DoesIt (printed_at f (tree.map-Tree Tree TreeCase Printed CGroup (printed f) (case_printed f) y)) (tree_at (tree.map-Tree Tree TreeCase Part (List ℕ × Part) tree_does case_does y)))
      → Kept (roll-Tree y)
  by_layer y k h =
      subst (λ (p : Printed). DoesIt p (tree_does (roll-Tree y))) (sym (printed_layer f y))
      (subst (DoesIt (printed_at f (tree.map-Tree Tree TreeCase Printed CGroup (printed f) (case_printed f) y))) (sym (does_layer y)) (k (subst (Known X) (uses_layer y) h)))

  -- statements that are no `if`
  plainly_does : (ss : List CStmt) (a : Part) → AsPart (run_all ss) a → DoesIt (record { stmts = ss; chain = None }) a
  plainly_does ss a e = (e, e)

  -- one statement
  one_does : (s : CStmt) (b a : Part) → run s ≡ b → AsPart b a → DoesIt (record { stmts = s ∷ []; chain = None }) a
  one_does s b a r e = plainly_does (s ∷ []) a (subst (λ (p : Part). AsPart p a) (sym (run_one s ∙ r)) e)

  -- an If
  if_printed_does : (c : Chain) (a : Part) → AsPart (chain_does c) a → DoesIt (if_printed c) a
  if_printed_does c a e = (subst (λ (p : Part). AsPart p a) (sym (run_one (roll-CStmt (CStmt-F.If c.arms c.last)) ∙ if_does c.arms c.last)) e, e)

  chain_kept : (t : Term) (body : List CStmt) (rest : Chain) (a b : Part) → Known X (term_uses t) → AsPart (run_all body) a → AsPart (chain_does rest) b
      → DoesIt (if_printed (if_chain (term_cond f t) body rest)) (choose (term_holds t) a b)
  chain_kept t body rest a b h ea eb =
      if_printed_does (if_chain (term_cond f t) body rest) (choose (term_holds t) a b)
      (subst (λ (p : Part). AsPart p (choose (term_holds t) a b)) (sym (arm_chain (term_cond f t) body rest))
      (choose_same (pull X f) (holds (term_cond f t)) (term_holds t) (run_all body) a (chain_does rest) b (λ w. term_kept X f t h w.names) ea eb))

  -- trees one after another
  members_kept : (ts : List Tree) → Each Kept ts → Known X (joined (map tree_uses ts)) → AsPart (run_all (all_stmts (map (printed f) ts))) (in_turn (map tree_does ts))
  members_kept [] e h = skip_same (pull X f)
  members_kept (t ∷ ts) e h =
      subst (λ (p : Part). AsPart p (seq (tree_does t) (in_turn (map tree_does ts)))) (sym (run_append (printed f t).stmts (all_stmts (map (printed f) ts))))
      (seq_same (pull X f) _ _ _ _
      (e.0 (known_first X (tree_uses t) (joined (map tree_uses ts)) h)).0
      (members_kept ts e.1 (known_second X (tree_uses t) (joined (map tree_uses ts)) h)))

  cases_kept : (cs : List TreeCase) → Each KeptCase cs → Known X (joined (map case_uses cs)) → SameGroups (pull X f) (map run_group (map (case_printed f) cs)) (map case_does cs)
  cases_kept [] e h = none
  cases_kept (c ∷ cs) e h =
      let k = e.0 (known_first X (case_uses c) (joined (map case_uses cs)) h) in
      more (run_group (case_printed f c)) (case_does c) (map run_group (map (case_printed f) cs)) (map case_does cs) k.0 k.1
      (cases_kept cs e.1 (known_second X (case_uses c) (joined (map case_uses cs)) h))

  -- a test
  test_kept : (t : Term) → Known X (term_uses t) → (w : World) → holds (term_cond f t) w ≡ term_holds t (pull X f w)
  test_kept t h w = term_kept X f t h w.names

  name_kept : (n : Name) → X n ≡ true → (w : World) → word_in (built.name (f n)) w ≡ Some (pulled X f w.names n)
  name_kept n h w = word_step (CExpr-F.Name (f n)) w.names ∙ ap (λ (b : Bool). Some (if b then w.names (f n) else 0)) (sym h)

  cases : TreeCases Kept KeptCase
  cases = record {
    block = λ b. by_layer (Tree-F.Block b) (λ h. plainly_does _ _ (block_seen X f ok b h));
    seq = λ ts e. by_layer (Tree-F.Seq ts) (λ h. plainly_does _ _ (members_kept ts e h));
    if_none = λ t a ea. by_layer (Tree-F.If t a None) (λ h.
        chain_kept t (printed f a).stmts (record { arms = []; last = None }) (tree_does a) skip (known_first X (term_uses t) (tree_uses a ++ []) h)
        (ea (known_first X (tree_uses a) [] (known_second X (term_uses t) (tree_uses a ++ []) h))).0 (skip_same (pull X f)));
    if_some = λ t a b ea eb. by_layer (Tree-F.If t a (Some b)) (λ h.
        let k = known_second X (term_uses t) (tree_uses a ++ tree_uses b) h in
        chain_kept t (printed f a).stmts (goes_on (printed f b).chain (printed f b).stmts) (tree_does a) (tree_does b) (known_first X (term_uses t) (tree_uses a ++ tree_uses b) h)
        (ea (known_first X (tree_uses a) (tree_uses b) k)).0 (eb (known_second X (tree_uses a) (tree_uses b) k)).1);
    switch = λ n cs last ec el. by_layer (Tree-F.Switch n cs last) (λ h.
        one_does (roll-CStmt (CStmt-F.Switch (built.name (f n)) (map (case_printed f) cs) (printed f last).stmts)) _ _
        (run_layer (CStmt-F.Switch (built.name (f n)) (map (case_printed f) cs) (printed f last).stmts))
        (switch_same (pull X f) (word_in (built.name (f n))) (λ w. Some (w.names n)) _ _ _ _ (name_kept n h.0)
        (cases_kept cs ec (known_first X (joined (map case_uses cs)) (tree_uses last) h.1))
        (el (known_second X (joined (map case_uses cs)) (tree_uses last) h.1)).0));
    loop = λ a ea. by_layer (Tree-F.Loop a) (λ h.
        one_does (roll-CStmt (CStmt-F.Loop (printed f a).stmts)) _ _ (run_layer (CStmt-F.Loop (printed f a).stmts))
        (repeat_same (pull X f) always always _ _ always always (λ w. refl) (ea h).0 (λ w. refl)));
    while = λ t a ea. by_layer (Tree-F.While t a) (λ h.
        one_does (roll-CStmt (CStmt-F.While (term_cond f t) (printed f a).stmts)) _ _ (run_layer (CStmt-F.While (term_cond f t) (printed f a).stmts))
        (repeat_same (pull X f) (holds (term_cond f t)) (term_holds t) _ _ always always (test_kept t (known_first X (term_uses t) (tree_uses a) h))
        (ea (known_second X (term_uses t) (tree_uses a) h)).0 (λ w. refl)));
    do_while = λ a t ea. by_layer (Tree-F.DoWhile a t) (λ h.
        one_does (roll-CStmt (CStmt-F.DoWhile (printed f a).stmts (term_cond f t))) _ _ (run_layer (CStmt-F.DoWhile (printed f a).stmts (term_cond f t)))
        (repeat_same (pull X f) always always _ _ (holds (term_cond f t)) (term_holds t) (λ w. refl)
        (ea (known_first X (tree_uses a) (term_uses t) h)).0 (test_kept t (known_second X (tree_uses a) (term_uses t) h))));
    break = by_layer Tree-F.Break (λ h. one_does (roll-CStmt CStmt-F.Break) _ _ (run_layer CStmt-F.Break) (leave_same (pull X f)));
    set = λ n to. by_layer (Tree-F.Set n to) (λ h.
        one_does (roll-CStmt (CStmt-F.Set (f n) (word_to f to))) _ _ refl
        (to_seen X f ok n to (known_second X (to_uses to) (Sets n ∷ []) h).0 (known_first X (to_uses to) (Sets n ∷ []) h)));
    case_of = λ values body eb h.
        let y : TreeCase-F Tree TreeCase = record { values = values; body = body } in
        let k = (eb (subst (Known X) (case_uses_layer y) h)).0 in
        subst (λ (p : List ℕ × Part). SamePair p (case_does (roll-TreeCase y)))
        (sym (ap run_group (case_printed_layer f y) ∙ run_group_layer (record { values = values; body = (printed f body).stmts })))
        (subst (SamePair (values, run_all (printed f body).stmts)) (sym (case_does_layer y)) (refl, k));
  }

  -- what a tree is printed as does what the tree does, where worlds are read through the renaming
  pub printed_kept : (t : Tree) → Known X (tree_uses t) → Same (pull X f) (run_all (printed f t).stmts) (tree_does t)
  printed_kept t h = (every_tree cases t h).0

  -- so the outcomes are the same
  pub runs_kept : (t : Tree) → Known X (tree_uses t) → (s : Start) (answers : List Answer) (m : ℕ)
      → outcome_of (run_all (printed f t).stmts m (start_world s answers)) ≡ outcome_of (tree_does t m (start_world s answers))
  runs_kept t h s answers m =
      sym (outcome_seen X f ok (run_all (printed f t).stmts m (start_world s answers)))
      ∙ ap outcome_of ((printed_kept t h).by m (start_world s answers))
      ∙ ap (λ (w : World). outcome_of (tree_does t m w)) (start_seen X f ok s answers)
