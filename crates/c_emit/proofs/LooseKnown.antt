-- The conditions in the lines of a tree read only names of the tree.
use Rattle.std.proofs.Common.{map, Bool, false, List, [], ◌∷◌, ◌++◌, Some, None, sym, subst}
use Rattle.dream_words.specs.declared.machine.Name.{Name}
use Rattle.cond_terms.specs.declared.term.Term.{Term}
use Rattle.micro_ir.specs.declared.flow.Stmt.{Stmt}
use Rattle.micro_ir.specs.declared.flow.End.{End as BlockEnd}
use Rattle.micro_ir.specs.declared.flow.End.TheVariants as end
use Rattle.guarded.specs.declared.tree.Tree as tree
use Rattle.guarded.specs.declared.tree.Tree.{Tree, Tree-F, roll-Tree}
use Rattle.guarded.specs.declared.tree.TreeCase.{TreeCase, TreeCase-F}
use Rattle.guarded.specs.Uses.{Use, joined, term_uses, tree_uses_at, tree_uses, case_uses}
use Rattle.guarded.specs.Loose as loose
use Rattle.guarded.specs.Loose.{Line, Choice, Other, TreeRow, CaseRow, tree_lists, stmt_lines, end_lines, all_lines, all_lists, case_lists, else_chain, else_lists, tree_row_at, tree_row, case_row}
use Rattle.guarded.proofs.Induct.{Each, TreeCases, every_tree}
use Rattle.guarded.proofs.Layers.{uses_layer, case_uses_layer, row_layer, case_row_layer}
use Rattle.c_emit.proofs.Known.{Known, known_first, known_second}

each_append : {A : Type 0} (P : A → Type 0) (xs ys : List A) → Each P xs → Each P ys → Each P (xs ++ ys)
each_append P [] ys h k = k
each_append P (x ∷ xs) ys h k = (h.0, each_append P xs ys h.1 k)

module _ (X : Name → Bool) where
  abbrev pub TermKnown : Term → Type 0
  TermKnown t = Known X (term_uses t)

  -- the conditions of a line are known
  abbrev pub LineKnown : Line Term → Type 0
  LineKnown (Choice ts last ns) = Each TermKnown ts
  LineKnown Other = Unit {0}

  abbrev pub LinesKnown : List (Line Term) → Type 0
  LinesKnown ls = Each LineKnown ls

  abbrev ListsKnown : List (List (Line Term)) → Type 0
  ListsKnown is = Each LinesKnown is

  -- those of a tree, as lines and where it stands in an `else`
  record RowKnown (r : TreeRow) : Type 0 where
    lines : LinesKnown r.lines
    lists : ListsKnown r.lists
    tests : Each TermKnown (else_chain r.chain).tests
    others : ListsKnown (else_lists r.chain r)

  abbrev IsKnown : Tree → Type 0
  IsKnown t = Known X (tree_uses t) → RowKnown (tree_row t)

  abbrev IsKnownCase : TreeCase → Type 0
  IsKnownCase c = Known X (case_uses c) → ListsKnown (case_row c).lists

  by_layer : (y : Tree-F Tree TreeCase)
      → (Known X (tree_uses_at (tree.map-Tree Tree TreeCase (List Use) (List Use) tree_uses case_uses y)) → RowKnown (tree_row_at (tree.map-Tree Tree TreeCase TreeRow CaseRow tree_row case_row y)))
      → IsKnown (roll-Tree y)
  by_layer y k h = subst RowKnown (sym (row_layer y)) (k (subst (Known X) (uses_layer y) h))

  -- what isn't an If
  plainly_known : (ls : List (Line Term)) (is : List (List (Line Term))) (ns : List Name) → LinesKnown ls → ListsKnown is → RowKnown (record { lines = ls; lists = is; sets = ns; chain = None })
  plainly_known ls is ns h k = record { lines = h; lists = k; tests = tt; others = (h, k) }

  -- one line that is no `if`, with these lists inside
  other_known : (is : List (List (Line Term))) (ns : List Name) → ListsKnown is → RowKnown (loose.with_lists is ns)
  other_known is ns k = plainly_known (Other ∷ []) is ns (tt, tt) k

  -- an If: one more condition before a chain
  if_known : (t : Term) (a : TreeRow) (d : loose.Chain) (is : List (List (Line Term))) (ns : List Name) → TermKnown t → RowKnown a → Each TermKnown d.tests → ListsKnown is
      → RowKnown (loose.choice_row t a d is ns)
  if_known t a d is ns h k e g =
      let lists = each_append LinesKnown (tree_lists a) is (k.lines, k.lists) g in
      record { lines = ((h, e), tt); lists = lists; tests = (h, e); others = lists }

  stmts_known : (ss : List Stmt) → LinesKnown (stmt_lines ss)
  stmts_known [] = tt
  stmts_known (s ∷ ss) = (tt, stmts_known ss)

  end_known : (e : BlockEnd) → LinesKnown (end_lines e)
  end_known (end.Go a) = tt
  end_known (end.Branch t a b) = (tt, tt)
  end_known (end.Switch e cases) = (tt, tt)
  end_known end.Return = (tt, tt)
  end_known (end.Leave e) = (tt, (tt, tt))

  members_known : (ts : List Tree) → Each IsKnown ts → Known X (joined (map tree_uses ts)) → LinesKnown (all_lines (map tree_row ts)) × ListsKnown (all_lists (map tree_row ts))
  members_known [] e h = (tt, tt)
  members_known (t ∷ ts) e h =
      let k = e.0 (known_first X (tree_uses t) (joined (map tree_uses ts)) h) in
      let rest = members_known ts e.1 (known_second X (tree_uses t) (joined (map tree_uses ts)) h) in
      (each_append LineKnown (tree_row t).lines (all_lines (map tree_row ts)) k.lines rest.0, each_append LinesKnown (tree_row t).lists (all_lists (map tree_row ts)) k.lists rest.1)

  cases_known : (cs : List TreeCase) → Each IsKnownCase cs → Known X (joined (map case_uses cs)) → ListsKnown (case_lists (map case_row cs))
  cases_known [] e h = tt
  cases_known (c ∷ cs) e h =
      each_append LinesKnown (case_row c).lists (case_lists (map case_row cs)) (e.0 (known_first X (case_uses c) (joined (map case_uses cs)) h))
      (cases_known cs e.1 (known_second X (case_uses c) (joined (map case_uses cs)) h))

  cases : TreeCases IsKnown IsKnownCase
  cases = record {
    block = λ b. by_layer (Tree-F.Block b) (λ h. plainly_known _ [] _ (each_append LineKnown (stmt_lines b.stmts) (end_lines b.end) (stmts_known b.stmts) (end_known b.end)) tt);
    seq = λ ts e. by_layer (Tree-F.Seq ts) (λ h. let k = members_known ts e h in plainly_known _ _ _ k.0 k.1);
    if_none = λ t a ea. by_layer (Tree-F.If t a None) (λ h.
        if_known t (tree_row a) (record { tests = []; last = false }) [] [] (known_first X (term_uses t) (tree_uses a ++ []) h)
        (ea (known_first X (tree_uses a) [] (known_second X (term_uses t) (tree_uses a ++ []) h))) tt tt);
    if_some = λ t a b ea eb. by_layer (Tree-F.If t a (Some b)) (λ h.
        let k = known_second X (term_uses t) (tree_uses a ++ tree_uses b) h in
        let kb = eb (known_second X (tree_uses a) (tree_uses b) k) in
        if_known t (tree_row a) (else_chain (tree_row b).chain) (else_lists (tree_row b).chain (tree_row b)) (tree_row b).sets (known_first X (term_uses t) (tree_uses a ++ tree_uses b) h)
        (ea (known_first X (tree_uses a) (tree_uses b) k)) kb.tests kb.others);
    switch = λ n cs last ec el. by_layer (Tree-F.Switch n cs last) (λ h.
        let k = el (known_second X (joined (map case_uses cs)) (tree_uses last) h.1) in
        other_known _ _ (each_append LinesKnown (case_lists (map case_row cs)) (tree_lists (tree_row last)) (cases_known cs ec (known_first X (joined (map case_uses cs)) (tree_uses last) h.1)) (k.lines, k.lists)));
    loop = λ a ea. by_layer (Tree-F.Loop a) (λ h. let k = ea h in other_known _ _ (k.lines, k.lists));
    while = λ t a ea. by_layer (Tree-F.While t a) (λ h. let k = ea (known_second X (term_uses t) (tree_uses a) h) in other_known _ _ (k.lines, k.lists));
    do_while = λ a t ea. by_layer (Tree-F.DoWhile a t) (λ h. let k = ea (known_first X (tree_uses a) (term_uses t) h) in other_known _ _ (k.lines, k.lists));
    break = by_layer Tree-F.Break (λ h. other_known [] [] tt);
    set = λ n to. by_layer (Tree-F.Set n to) (λ h. other_known [] (n ∷ []) tt);
    case_of = λ values body eb h.
        let y : TreeCase-F Tree TreeCase = record { values = values; body = body } in
        let k = eb (subst (Known X) (case_uses_layer y) h) in
        subst (λ (c : CaseRow). ListsKnown c.lists) (sym (case_row_layer y)) (k.lines, k.lists);
  }

  -- the conditions in all lists of a tree whose names are known
  pub tree_known : (t : Tree) → Known X (tree_uses t) → Each LinesKnown (tree_lists (tree_row t))
  tree_known t h = let k = every_tree cases t h in (k.lines, k.lists)
