-- The lists of lines of a tree's function are those of the tree, with the terms as Conds and the names renamed.
use Rattle.std.proofs.Common.{map, ◌≡◌, ℕ, Bool, true, false, List, [], ◌∷◌, ◌++◌, Option, Some, None, refl, sym, ap, ◌∙◌, subst, append_assoc, append-nil}
use Rattle.dream_words.specs.declared.machine.Name.{Name}
use Rattle.c_syntax.specs.declared.syntax.CBin.TheVariants.{Shl}
use Rattle.c_syntax.specs.declared.syntax.CCond.{CCond}
use Rattle.c_syntax.specs.declared.syntax.CStmt as st
use Rattle.c_syntax.specs.declared.syntax.CStmt.{CStmt, CStmt-F, roll-CStmt}
use Rattle.c_syntax.specs.declared.syntax.CArm as arm
use Rattle.c_syntax.specs.declared.syntax.CArm.{CArm, CArm-F, roll-CArm}
use Rattle.c_syntax.specs.declared.syntax.CGroup as group
use Rattle.c_syntax.specs.declared.syntax.CGroup.{CGroup, CGroup-F, roll-CGroup}
use Rattle.c_words.specs.Built as built
use Rattle.cond_terms.specs.declared.term.Term.{Term}
use Rattle.micro_ir.specs.declared.flow.Stmt.{Stmt}
use Rattle.micro_ir.specs.declared.flow.Stmt.TheVariants as stmt
use Rattle.micro_ir.specs.declared.flow.End.{End as BlockEnd}
use Rattle.micro_ir.specs.declared.flow.End.TheVariants as end
use Rattle.micro_ir.specs.declared.flow.Block.{Block}
use Rattle.guarded.specs.declared.tree.Tree as tree
use Rattle.guarded.specs.declared.tree.Tree.{Tree, Tree-F, roll-Tree}
use Rattle.guarded.specs.declared.tree.TreeCase.{TreeCase, TreeCase-F, roll-TreeCase}
use Rattle.guarded.specs.Loose as loose
use Rattle.guarded.specs.Loose.{Line, Choice, Other, Row, ArmRow, GroupRow, lines_of, lists_of, body_lists, sets_of, arm_tests, arm_lists, arm_sets, first_sets, group_lists, group_sets, other_row, row_at, arm_row_at, group_row_at, row_of, arm_row, group_row, TreeRow, CaseRow, tree_lists, stmt_lines, stmt_sets, stmts_sets, end_lines, all_lines, all_lists, all_sets, case_lists, case_sets, else_chain, else_lists, tree_row_at, tree_row, case_row}
use Rattle.guarded.proofs.Induct.{Each, TreeCases, every_tree}
use Rattle.guarded.proofs.Layers.{row_layer, case_row_layer}
use Rattle.c_emit.specs.Emitted.{renamed_word, term_cond, word_to, stuck_stmt, stmt_of, end_stmts, block_stmts, Chain, Printed, goes_on, if_chain, if_printed, arm_of, all_stmts, printed_at, printed, case_printed}
use Rattle.c_emit.proofs.Naming.{map_append}
use Rattle.c_emit.proofs.Renaming.{ap2, ap3}
use Rattle.c_emit.proofs.TreeRuns.{printed_layer, case_printed_layer}

-- ---- layers of C

stmt_row : (y : CStmt-F CStmt CArm CGroup) → row_of (roll-CStmt y) ≡ row_at (st.map-CStmt CStmt CArm CGroup Row ArmRow GroupRow row_of arm_row group_row y)
stmt_row y = st.fold-roll-CStmt Row ArmRow GroupRow row_at arm_row_at group_row_at y

arm_of_row : (t : CCond) (body : List CStmt) → arm_row (arm_of t body) ≡ record { test = t; lists = body_lists (map row_of body); sets = sets_of (map row_of body) }
arm_of_row t body = arm.fold-roll-CArm Row ArmRow GroupRow row_at arm_row_at group_row_at (record { test = t; body = body })

group_of_row : (values : List ℕ) (body : List CStmt) → group_row (roll-CGroup (record { values = values; body = body })) ≡ record { lists = body_lists (map row_of body); sets = sets_of (map row_of body) }
group_of_row values body = group.fold-roll-CGroup Row ArmRow GroupRow row_at arm_row_at group_row_at (record { values = values; body = body })

-- ---- statements one after another

lines_append : (xs ys : List CStmt) → lines_of (map row_of (xs ++ ys)) ≡ lines_of (map row_of xs) ++ lines_of (map row_of ys)
lines_append [] ys = refl
lines_append (x ∷ xs) ys = ap (λ ls. (row_of x).line ∷ ls) (lines_append xs ys)

lists_append : (xs ys : List CStmt) → lists_of (map row_of (xs ++ ys)) ≡ lists_of (map row_of xs) ++ lists_of (map row_of ys)
lists_append [] ys = refl
lists_append (x ∷ xs) ys = ap (λ ls. (row_of x).lists ++ ls) (lists_append xs ys) ∙ sym (append_assoc (row_of x).lists (lists_of (map row_of xs)) (lists_of (map row_of ys)))

sets_append : (xs ys : List CStmt) → sets_of (map row_of (xs ++ ys)) ≡ sets_of (map row_of xs) ++ sets_of (map row_of ys)
sets_append [] ys = refl
sets_append (x ∷ xs) ys = ap (λ ns. (row_of x).sets ++ ns) (sets_append xs ys) ∙ sym (append_assoc (row_of x).sets (sets_of (map row_of xs)) (sets_of (map row_of ys)))

-- ---- ifs

abbrev has_last : Option (List CStmt) → Bool
has_last None = false
has_last (Some ss) = true

abbrev last_lists : Option (List CStmt) → List (List (Line CCond))
last_lists None = []
last_lists (Some ss) = body_lists (map row_of ss)

abbrev last_sets : Option (List CStmt) → List Name
last_sets None = []
last_sets (Some ss) = sets_of (map row_of ss)

abbrev chain_lists : Chain → List (List (Line CCond))
chain_lists c = arm_lists (map arm_row c.arms) ++ last_lists c.last

abbrev chain_sets : Chain → List Name
chain_sets c = arm_sets (map arm_row c.arms) ++ last_sets c.last

abbrev chain_row : Chain → Row
chain_row c = record { line = Choice (arm_tests (map arm_row c.arms)) (has_last c.last) (first_sets (map arm_row c.arms)); lists = chain_lists c; sets = chain_sets c }

if_row : (arms : List CArm) (last : Option (List CStmt)) → row_of (roll-CStmt (CStmt-F.If arms last)) ≡ chain_row (record { arms = arms; last = last })
if_row arms None =
    stmt_row (CStmt-F.If arms None)
    ∙ ap2 (λ (ls : List (List (Line CCond))) (ns : List Name). let r : Row = record { line = Choice (arm_tests (map arm_row arms)) false (first_sets (map arm_row arms)); lists = ls; sets = ns } in r) _ _ _ _
    (sym (append-nil (arm_lists (map arm_row arms)))) (sym (append-nil (arm_sets (map arm_row arms))))
if_row arms (Some ss) = stmt_row (CStmt-F.If arms (Some ss))

module _ (f : Name → Name) where
  -- a line of a tree as a line of C
  abbrev pub line_moved : Line Term → Line CCond
  line_moved (Choice ts last ns) = Choice (map (term_cond f) ts) last (map f ns)
  line_moved Other = Other

  abbrev pub lists_moved : List (List (Line Term)) → List (List (Line CCond))
  lists_moved ls = map (map line_moved) ls

  -- statements have these lines, with these lists inside, and set these names
  record IsLined (ss : List CStmt) (ls : List (Line Term)) (inside : List (List (Line Term))) (ns : List Name) : Type 0 where
    lines : lines_of (map row_of ss) ≡ map line_moved ls
    lists : lists_of (map row_of ss) ≡ lists_moved inside
    sets : sets_of (map row_of ss) ≡ map f ns

  -- the arms and the last `else` of an `if`
  record IsChained (c : Chain) (d : loose.Chain) (inside : List (List (Line Term))) (ns : List Name) : Type 0 where
    tests : arm_tests (map arm_row c.arms) ≡ map (term_cond f) d.tests
    last : has_last c.last ≡ d.last
    lists : chain_lists c ≡ lists_moved inside
    sets : chain_sets c ≡ map f ns

  -- a tree, as statements and where it stands in an `else`
  record IsRow (p : Printed) (r : TreeRow) : Type 0 where
    stmts : IsLined p.stmts r.lines r.lists r.sets
    chain : IsChained (goes_on p.chain p.stmts) (else_chain r.chain) (else_lists r.chain r) r.sets

  record IsGroup (g : GroupRow) (c : CaseRow) : Type 0 where
    lists : g.lists ≡ lists_moved c.lists
    sets : g.sets ≡ map f c.sets

  -- ---- lists

  two_lists : (xs ys : List (List (Line CCond))) (us vs : List (List (Line Term))) → xs ≡ lists_moved us → ys ≡ lists_moved vs → xs ++ ys ≡ lists_moved (us ++ vs)
  two_lists xs ys us vs p q = ap2 (λ (a b : List (List (Line CCond))). a ++ b) xs (lists_moved us) ys (lists_moved vs) p q ∙ sym (map_append (map line_moved) us vs)

  two_sets : (xs ys us vs : List Name) → xs ≡ map f us → ys ≡ map f vs → xs ++ ys ≡ map f (us ++ vs)
  two_sets xs ys us vs p q = ap2 (λ (a b : List Name). a ++ b) xs (map f us) ys (map f vs) p q ∙ sym (map_append f us vs)

  none_lined : IsLined [] [] [] []
  none_lined = record { lines = refl; lists = refl; sets = refl }

  one_lined : (s : CStmt) (r : Row) (l : Line Term) (inside : List (List (Line Term))) (ns : List Name) → row_of s ≡ r → r.line ≡ line_moved l → r.lists ≡ lists_moved inside → r.sets ≡ map f ns
      → IsLined (s ∷ []) (l ∷ []) inside ns
  one_lined s r l inside ns e p q w = record {
    lines = ap (λ (x : Row). x.line ∷ []) e ∙ ap (λ (x : Line CCond). x ∷ []) p;
    lists = append-nil (row_of s).lists ∙ ap (λ (x : Row). x.lists) e ∙ q;
    sets = append-nil (row_of s).sets ∙ ap (λ (x : Row). x.sets) e ∙ w;
  }

  both_lined : (ss ss' : List CStmt) (ls ls' : List (Line Term)) (is is' : List (List (Line Term))) (ns ns' : List Name) → IsLined ss ls is ns → IsLined ss' ls' is' ns'
      → IsLined (ss ++ ss') (ls ++ ls') (is ++ is') (ns ++ ns')
  both_lined ss ss' ls ls' is is' ns ns' a b = record {
    lines = lines_append ss ss' ∙ ap2 (λ (x y : List (Line CCond)). x ++ y) _ _ _ _ a.lines b.lines ∙ sym (map_append line_moved ls ls');
    lists = lists_append ss ss' ∙ two_lists _ _ is is' a.lists b.lists;
    sets = sets_append ss ss' ∙ two_sets _ _ ns ns' a.sets b.sets;
  }

  -- the list of a body, and those inside
  body_lined : (ss : List CStmt) (ls : List (Line Term)) (is : List (List (Line Term))) (ns : List Name) → IsLined ss ls is ns → body_lists (map row_of ss) ≡ lists_moved (ls ∷ is)
  body_lined ss ls is ns a = ap2 (λ (x : List (Line CCond)) (xs : List (List (Line CCond))). x ∷ xs) _ _ _ _ a.lines a.lists

  -- ---- blocks

  -- a statement without statements inside
  simple_lined : (y : CStmt-F CStmt CArm CGroup) (ns : List Name) → row_at (st.map-CStmt CStmt CArm CGroup Row ArmRow GroupRow row_of arm_row group_row y) ≡ other_row [] (map f ns)
      → IsLined (roll-CStmt y ∷ []) (Other ∷ []) [] ns
  simple_lined y ns e = one_lined (roll-CStmt y) (other_row [] (map f ns)) Other [] ns (stmt_row y ∙ e) refl refl refl

  stmt_lined : (s : Stmt) → IsLined (stmt_of f s ∷ []) (Other ∷ []) [] (stmt_sets s)
  stmt_lined (stmt.Set n e) = simple_lined (CStmt-F.Set (f n) (renamed_word f e)) (n ∷ []) refl
  stmt_lined (stmt.Load n width e) = simple_lined (CStmt-F.Load (f n) width (renamed_word f e)) (n ∷ []) refl
  stmt_lined (stmt.Store width e v) = simple_lined (CStmt-F.Store width (renamed_word f e) (renamed_word f v)) [] refl
  stmt_lined (stmt.Ext e) = simple_lined (CStmt-F.Ext (renamed_word f e)) [] refl
  stmt_lined (stmt.Trap vector e) = simple_lined (CStmt-F.Trap vector (renamed_word f e)) [] refl

  stmts_lined : (ss : List Stmt) → IsLined (map (stmt_of f) ss) (stmt_lines ss) [] (stmts_sets ss)
  stmts_lined [] = none_lined
  stmts_lined (s ∷ ss) = both_lined (stmt_of f s ∷ []) (map (stmt_of f) ss) (Other ∷ []) (stmt_lines ss) [] [] (stmt_sets s) (stmts_sets ss) (stmt_lined s) (stmts_lined ss)

  stuck_lined : IsLined (stuck_stmt ∷ []) (Other ∷ []) [] []
  stuck_lined = simple_lined (CStmt-F.Trap 0 (built.bin Shl (built.num 0) (built.num 32))) [] refl

  return_lined : IsLined (roll-CStmt CStmt-F.Return ∷ []) (Other ∷ []) [] []
  return_lined = simple_lined CStmt-F.Return [] refl

  end_lined : (e : BlockEnd) → IsLined (end_stmts f e) (end_lines e) [] []
  end_lined (end.Go a) = none_lined
  end_lined (end.Branch t a b) = stuck_lined
  end_lined (end.Switch e cases) = stuck_lined
  end_lined end.Return = return_lined
  end_lined (end.Leave e) =
      both_lined (roll-CStmt (CStmt-F.Ext (renamed_word f e)) ∷ []) (roll-CStmt CStmt-F.Return ∷ []) (Other ∷ []) (Other ∷ []) [] [] [] []
      (simple_lined (CStmt-F.Ext (renamed_word f e)) [] refl) return_lined

  block_lined : (b : Block) → IsLined (block_stmts f b) (stmt_lines b.stmts ++ end_lines b.end) [] (stmts_sets b.stmts)
  block_lined b =
      let a = both_lined (map (stmt_of f) b.stmts) (end_stmts f b.end) (stmt_lines b.stmts) (end_lines b.end) [] [] (stmts_sets b.stmts) [] (stmts_lined b.stmts) (end_lined b.end) in
      record { lines = a.lines; lists = a.lists; sets = a.sets ∙ ap (map f) (append-nil (stmts_sets b.stmts)) }

  -- ---- trees

  abbrev HasRow : Tree → Type 0
  HasRow t = IsRow (printed f t) (tree_row t)

  abbrev HasCaseRow : TreeCase → Type 0
  HasCaseRow c = IsGroup (group_row (case_printed f c)) (case_row c)

  by_layer : (y : Tree-F Tree TreeCase)
      → IsRow (printed_at f (tree.map-Tree Tree TreeCase Printed CGroup (printed f) (case_printed f) y)) (tree_row_at (tree.map-Tree Tree TreeCase TreeRow CaseRow tree_row case_row y))
      → HasRow (roll-Tree y)
  by_layer y k =
      subst (λ (p : Printed). IsRow p (tree_row (roll-Tree y))) (sym (printed_layer f y))
      (subst (IsRow (printed_at f (tree.map-Tree Tree TreeCase Printed CGroup (printed f) (case_printed f) y))) (sym (row_layer y)) k)

  -- what isn't an If
  plainly_row : (ss : List CStmt) (ls : List (Line Term)) (is : List (List (Line Term))) (ns : List Name) → IsLined ss ls is ns
      → IsRow (record { stmts = ss; chain = None }) (record { lines = ls; lists = is; sets = ns; chain = None })
  plainly_row ss ls is ns a = record { stmts = a; chain = record { tests = refl; last = refl; lists = body_lined ss ls is ns a; sets = a.sets } }

  -- a statement that is no `if`, with these lists inside
  other_lined : (y : CStmt-F CStmt CArm CGroup) (xs : List (List (Line CCond))) (us : List Name) (is : List (List (Line Term))) (ns : List Name)
      → row_at (st.map-CStmt CStmt CArm CGroup Row ArmRow GroupRow row_of arm_row group_row y) ≡ other_row xs us → xs ≡ lists_moved is → us ≡ map f ns
      → IsRow (record { stmts = roll-CStmt y ∷ []; chain = None }) (record { lines = Other ∷ []; lists = is; sets = ns; chain = None })
  other_lined y xs us is ns e p q = plainly_row (roll-CStmt y ∷ []) (Other ∷ []) is ns (one_lined (roll-CStmt y) (other_row xs us) Other is ns (stmt_row y ∙ e) refl p q)

  -- an If: one more arm before a chain
  if_lined : (t : Term) (body : List CStmt) (a : TreeRow) (rest : Chain) (d : loose.Chain) (is : List (List (Line Term))) (ns : List Name) → IsLined body a.lines a.lists a.sets → IsChained rest d is ns
      → IsRow (if_printed (if_chain (term_cond f t) body rest)) (loose.choice_row t a d is ns)
  if_lined t body a rest d is ns h k =
      let c = if_chain (term_cond f t) body rest in
      let r = arm_of_row (term_cond f t) body in
      let tests : arm_tests (map arm_row c.arms) ≡ map (term_cond f) (t ∷ d.tests) =
      ap2 (λ (x : CCond) (xs : List CCond). x ∷ xs) _ _ _ _ (ap (λ (x : ArmRow). x.test) r) k.tests in
      let firsts : first_sets (map arm_row c.arms) ≡ map f a.sets = ap (λ (x : ArmRow). x.sets) r ∙ h.sets in
      let lists : chain_lists c ≡ lists_moved (tree_lists a ++ is) =
      append_assoc (arm_row (arm_of (term_cond f t) body)).lists (arm_lists (map arm_row rest.arms)) (last_lists rest.last)
      ∙ two_lists _ _ (tree_lists a) is (ap (λ (x : ArmRow). x.lists) r ∙ body_lined body a.lines a.lists a.sets h) k.lists in
      let sets : chain_sets c ≡ map f (a.sets ++ ns) =
      append_assoc (arm_row (arm_of (term_cond f t) body)).sets (arm_sets (map arm_row rest.arms)) (last_sets rest.last)
      ∙ two_sets _ _ a.sets ns firsts k.sets in
      record {
        stmts = one_lined (roll-CStmt (CStmt-F.If c.arms c.last)) (chain_row c) (Choice (t ∷ d.tests) d.last a.sets) (tree_lists a ++ is) (a.sets ++ ns) (if_row c.arms c.last)
            (ap3 (λ (ts : List CCond) (b : Bool) (us : List Name). Choice ts b us) _ _ _ _ _ _ tests k.last firsts) lists sets;
        chain = record { tests = tests; last = k.last; lists = lists; sets = sets };
      }

  members_lined : (ts : List Tree) → Each HasRow ts → IsLined (all_stmts (map (printed f) ts)) (all_lines (map tree_row ts)) (all_lists (map tree_row ts)) (all_sets (map tree_row ts))
  members_lined [] h = none_lined
  members_lined (t ∷ ts) h =
      both_lined (printed f t).stmts (all_stmts (map (printed f) ts)) (tree_row t).lines (all_lines (map tree_row ts)) (tree_row t).lists (all_lists (map tree_row ts)) (tree_row t).sets (all_sets (map tree_row ts))
      h.0.stmts (members_lined ts h.1)

  groups_lists : (cs : List TreeCase) → Each HasCaseRow cs → group_lists (map group_row (map (case_printed f) cs)) ≡ lists_moved (case_lists (map case_row cs))
  groups_lists [] h = refl
  groups_lists (c ∷ cs) h = two_lists _ _ (case_row c).lists (case_lists (map case_row cs)) h.0.lists (groups_lists cs h.1)

  groups_sets : (cs : List TreeCase) → Each HasCaseRow cs → group_sets (map group_row (map (case_printed f) cs)) ≡ map f (case_sets (map case_row cs))
  groups_sets [] h = refl
  groups_sets (c ∷ cs) h = two_sets _ _ (case_row c).sets (case_sets (map case_row cs)) h.0.sets (groups_sets cs h.1)

  -- the list of a tree's statements, and those inside
  tree_lined : (t : Tree) → HasRow t → body_lists (map row_of (printed f t).stmts) ≡ lists_moved (tree_lists (tree_row t))
  tree_lined t h = body_lined (printed f t).stmts (tree_row t).lines (tree_row t).lists (tree_row t).sets h.stmts

  cases : TreeCases HasRow HasCaseRow
  cases = record {
    block = λ b. by_layer (Tree-F.Block b) (plainly_row _ _ _ _ (block_lined b));
    seq = λ ts h. by_layer (Tree-F.Seq ts) (plainly_row _ _ _ _ (members_lined ts h));
    if_none = λ t a ha. by_layer (Tree-F.If t a None)
        (if_lined t (printed f a).stmts (tree_row a) (record { arms = []; last = None }) (record { tests = []; last = false }) [] [] ha.stmts (record { tests = refl; last = refl; lists = refl; sets = refl }));
    if_some = λ t a b ha hb. by_layer (Tree-F.If t a (Some b))
        (if_lined t (printed f a).stmts (tree_row a) (goes_on (printed f b).chain (printed f b).stmts) (else_chain (tree_row b).chain) (else_lists (tree_row b).chain (tree_row b)) (tree_row b).sets ha.stmts hb.chain);
    switch = λ n cs last hc hl. by_layer (Tree-F.Switch n cs last)
        (other_lined (CStmt-F.Switch (built.name (f n)) (map (case_printed f) cs) (printed f last).stmts) _ _ _ _ refl
        (two_lists _ _ (case_lists (map case_row cs)) (tree_lists (tree_row last)) (groups_lists cs hc) (tree_lined last hl))
        (two_sets _ _ (case_sets (map case_row cs)) (tree_row last).sets (groups_sets cs hc) hl.stmts.sets));
    loop = λ a ha. by_layer (Tree-F.Loop a) (other_lined (CStmt-F.Loop (printed f a).stmts) _ _ _ _ refl (tree_lined a ha) ha.stmts.sets);
    while = λ t a ha. by_layer (Tree-F.While t a) (other_lined (CStmt-F.While (term_cond f t) (printed f a).stmts) _ _ _ _ refl (tree_lined a ha) ha.stmts.sets);
    do_while = λ a t ha. by_layer (Tree-F.DoWhile a t) (other_lined (CStmt-F.DoWhile (printed f a).stmts (term_cond f t)) _ _ _ _ refl (tree_lined a ha) ha.stmts.sets);
    break = by_layer Tree-F.Break (other_lined CStmt-F.Break [] [] [] [] refl refl refl);
    set = λ n to. by_layer (Tree-F.Set n to) (other_lined (CStmt-F.Set (f n) (word_to f to)) [] (f n ∷ []) [] (n ∷ []) refl refl refl);
    case_of = λ values body hb.
        let y : TreeCase-F Tree TreeCase = record { values = values; body = body } in
        subst (λ (g : GroupRow). IsGroup g (case_row (roll-TreeCase y))) (sym (ap group_row (case_printed_layer f y) ∙ group_of_row values (printed f body).stmts))
        (subst (IsGroup (record { lists = body_lists (map row_of (printed f body).stmts); sets = sets_of (map row_of (printed f body).stmts) })) (sym (case_row_layer y))
        (record { lists = tree_lined body hb; sets = hb.stmts.sets }));
  }

  -- the lists of the function are those of the tree
  pub printed_lists : (t : Tree) → body_lists (map row_of (printed f t).stmts) ≡ lists_moved (tree_lists (tree_row t))
  printed_lists t = tree_lined t (every_tree cases t)
