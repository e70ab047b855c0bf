-- The function of a tree has as many loops, tests, calls and stores as the tree.
use Rattle.std.proofs.Common.{map, ◌≡◌, ℕ, ◌+◌, List, [], ◌∷◌, ◌++◌, Option, Some, None, refl, sym, ap, ◌∙◌, subst, arith}
use Rattle.dream_words.specs.declared.machine.Name.{Name}
use Rattle.c_syntax.specs.declared.syntax.CBin.TheVariants.{Shl}
use Rattle.c_syntax.specs.declared.syntax.CCond.{CCond}
use Rattle.c_syntax.specs.declared.syntax.CStmt as st
use Rattle.c_syntax.specs.declared.syntax.CStmt.{CStmt, CStmt-F, roll-CStmt}
use Rattle.c_syntax.specs.declared.syntax.CArm as arm
use Rattle.c_syntax.specs.declared.syntax.CArm.{CArm, CArm-F, roll-CArm}
use Rattle.c_syntax.specs.declared.syntax.CGroup as group
use Rattle.c_syntax.specs.declared.syntax.CGroup.{CGroup, CGroup-F, roll-CGroup}
use Rattle.c_words.specs.Built as built
use Rattle.micro_ir.specs.declared.flow.Stmt.{Stmt}
use Rattle.micro_ir.specs.declared.flow.Stmt.TheVariants as stmt
use Rattle.micro_ir.specs.declared.flow.End.{End as BlockEnd}
use Rattle.micro_ir.specs.declared.flow.End.TheVariants as end
use Rattle.micro_ir.specs.declared.flow.Block.{Block}
use Rattle.guarded.specs.declared.tree.Tree as tree
use Rattle.guarded.specs.declared.tree.Tree.{Tree, Tree-F, roll-Tree}
use Rattle.guarded.specs.declared.tree.TreeCase.{TreeCase, TreeCase-F}
use Rattle.guarded.specs.Counts.{Weights, total, stmt_count, stmts_count, end_count, block_count, tree_count_at, tree_count, case_count, c_stmt_count_at, c_arm_count_at, c_group_count_at, c_stmt_count, c_arm_count, c_group_count, c_count}
use Rattle.guarded.proofs.Induct.{Each, TreeCases, every_tree}
use Rattle.guarded.proofs.Layers.{count_layer, case_count_layer}
use Rattle.c_emit.specs.Emitted.{renamed_word, term_cond, word_to, stuck_stmt, stmt_of, end_stmts, block_stmts, Chain, Printed, goes_on, if_chain, if_printed, arm_of, all_stmts, printed_at, printed, case_printed}
use Rattle.c_emit.proofs.TreeRuns.{printed_layer, case_printed_layer}

module _ (w : Weights) where
  -- ---- layers of C

  stmt_layer : (y : CStmt-F CStmt CArm CGroup) → c_stmt_count w (roll-CStmt y) ≡ c_stmt_count_at w (st.map-CStmt CStmt CArm CGroup ℕ ℕ ℕ (c_stmt_count w) (c_arm_count w) (c_group_count w) y)
  stmt_layer y = st.fold-roll-CStmt ℕ ℕ ℕ (c_stmt_count_at w) (c_arm_count_at w) c_group_count_at y

  arm_layer : (y : CArm-F CStmt CArm CGroup) → c_arm_count w (roll-CArm y) ≡ c_arm_count_at w (arm.map-CArm CStmt CArm CGroup ℕ ℕ ℕ (c_stmt_count w) (c_arm_count w) (c_group_count w) y)
  arm_layer y = arm.fold-roll-CArm ℕ ℕ ℕ (c_stmt_count_at w) (c_arm_count_at w) c_group_count_at y

  group_layer : (y : CGroup-F CStmt CArm CGroup) → c_group_count w (roll-CGroup y) ≡ c_group_count_at (group.map-CGroup CStmt CArm CGroup ℕ ℕ ℕ (c_stmt_count w) (c_arm_count w) (c_group_count w) y)
  group_layer y = group.fold-roll-CGroup ℕ ℕ ℕ (c_stmt_count_at w) (c_arm_count_at w) c_group_count_at y

  -- ---- lists

  count_append : (xs ys : List CStmt) → c_count w (xs ++ ys) ≡ c_count w xs + c_count w ys
  count_append [] ys = omega arith
  count_append (x ∷ xs) ys = let e = count_append xs ys in omega (arith, e)

  count_total : (ss : List CStmt) → total (map (c_stmt_count w) ss) ≡ c_count w ss
  count_total [] = refl
  count_total (s ∷ ss) = ap (λ n. c_stmt_count w s + n) (count_total ss)

  one_count : (s : CStmt) (n : ℕ) → c_stmt_count w s ≡ n → c_count w (s ∷ []) ≡ n
  one_count s n e = omega (arith, e)

  -- ---- ifs

  abbrev last_count : Option (List CStmt) → ℕ
  last_count None = 0
  last_count (Some ss) = c_count w ss

  abbrev chain_count : Chain → ℕ
  chain_count c = total (map (c_arm_count w) c.arms) + last_count c.last

  if_count : (arms : List CArm) (last : Option (List CStmt)) → c_stmt_count w (roll-CStmt (CStmt-F.If arms last)) ≡ total (map (c_arm_count w) arms) + last_count last
  if_count arms None = let e = stmt_layer (CStmt-F.If arms None) in omega (arith, e)
  if_count arms (Some ss) = stmt_layer (CStmt-F.If arms (Some ss)) ∙ ap (λ n. total (map (c_arm_count w) arms) + n) (count_total ss)

  arm_count : (t : CCond) (body : List CStmt) → c_arm_count w (arm_of t body) ≡ w.test + c_count w body
  arm_count t body = arm_layer (record { test = t; body = body }) ∙ ap (λ n. w.test + n) (count_total body)

  -- ---- blocks

  module _ (f : Name → Name) where
    stmt_counted : (s : Stmt) → c_stmt_count w (stmt_of f s) ≡ stmt_count w s
    stmt_counted (stmt.Set n e) = stmt_layer (CStmt-F.Set (f n) (renamed_word f e))
    stmt_counted (stmt.Load n width e) = stmt_layer (CStmt-F.Load (f n) width (renamed_word f e))
    stmt_counted (stmt.Store width e v) = stmt_layer (CStmt-F.Store width (renamed_word f e) (renamed_word f v))
    stmt_counted (stmt.Ext e) = stmt_layer (CStmt-F.Ext (renamed_word f e))
    stmt_counted (stmt.Trap vector e) = stmt_layer (CStmt-F.Trap vector (renamed_word f e))

    stmts_counted : (ss : List Stmt) → c_count w (map (stmt_of f) ss) ≡ stmts_count w ss
    stmts_counted [] = refl
    stmts_counted (s ∷ ss) = let a = stmt_counted s in let b = stmts_counted ss in omega (arith, a, b)

    stuck_counted : c_count w (stuck_stmt ∷ []) ≡ 0
    stuck_counted = one_count stuck_stmt 0 (stmt_layer (CStmt-F.Trap 0 (built.bin Shl (built.num 0) (built.num 32))))

    end_counted : (e : BlockEnd) → c_count w (end_stmts f e) ≡ end_count w e
    end_counted (end.Go a) = refl
    end_counted (end.Branch t a b) = stuck_counted
    end_counted (end.Switch e cases) = stuck_counted
    end_counted end.Return = one_count (roll-CStmt CStmt-F.Return) 0 (stmt_layer CStmt-F.Return)
    end_counted (end.Leave e) =
        let a = stmt_layer (CStmt-F.Ext (renamed_word f e)) in
        let b = one_count (roll-CStmt CStmt-F.Return) 0 (stmt_layer CStmt-F.Return) in
        omega (arith, a, b)

    block_counted : (b : Block) → c_count w (block_stmts f b) ≡ block_count w b
    block_counted b =
        let e = count_append (map (stmt_of f) b.stmts) (end_stmts f b.end) in
        let p = stmts_counted b.stmts in
        let q = end_counted b.end in
        omega (arith, e, p, q)

    -- ---- trees

    abbrev Counted : Printed → ℕ → Type 0
    Counted p n = (c_count w p.stmts ≡ n) × (chain_count (goes_on p.chain p.stmts) ≡ n)

    abbrev IsCounted : Tree → Type 0
    IsCounted t = Counted (printed f t) (tree_count w t)

    abbrev IsCountedCase : TreeCase → Type 0
    IsCountedCase c = c_group_count w (case_printed f c) ≡ case_count w c

    by_layer : (y : Tree-F Tree TreeCase)
        → Counted (printed_at f (tree.map-Tree Tree TreeCase Printed CGroup (printed f) (case_printed f) y)) (tree_count_at w (tree.map-Tree Tree TreeCase ℕ ℕ (tree_count w) (case_count w) y))
        → IsCounted (roll-Tree y)
    by_layer y k =
        subst (λ (p : Printed). Counted p (tree_count w (roll-Tree y))) (sym (printed_layer f y))
        (subst (Counted (printed_at f (tree.map-Tree Tree TreeCase Printed CGroup (printed f) (case_printed f) y))) (sym (count_layer w y)) k)

    plainly_counted : (ss : List CStmt) (n : ℕ) → c_count w ss ≡ n → Counted (record { stmts = ss; chain = None }) n
    plainly_counted ss n e = (e, let g : 0 + c_count w ss ≡ n = omega (arith, e) in g)

    one_counted : (s : CStmt) (n : ℕ) → c_stmt_count w s ≡ n → Counted (record { stmts = s ∷ []; chain = None }) n
    one_counted s n e = plainly_counted (s ∷ []) n (one_count s n e)

    if_counted : (t : CCond) (body : List CStmt) (rest : Chain) (a b : ℕ) → c_count w body ≡ a → chain_count rest ≡ b → Counted (if_printed (if_chain t body rest)) (w.test + (a + b))
    if_counted t body rest a b p q =
        let g = arm_count t body in
        let e : chain_count (if_chain t body rest) ≡ w.test + (a + b) = omega (arith, g, p, q) in
        (one_count _ _ (if_count (if_chain t body rest).arms (if_chain t body rest).last ∙ e), e)

    members_counted : (ts : List Tree) → Each IsCounted ts → c_count w (all_stmts (map (printed f) ts)) ≡ total (map (tree_count w) ts)
    members_counted [] h = refl
    members_counted (t ∷ ts) h =
        let e = count_append (printed f t).stmts (all_stmts (map (printed f) ts)) in
        let p = h.0.0 in
        let q = members_counted ts h.1 in
        omega (arith, e, p, q)

    cases_counted : (cs : List TreeCase) → Each IsCountedCase cs → total (map (c_group_count w) (map (case_printed f) cs)) ≡ total (map (case_count w) cs)
    cases_counted [] h = refl
    cases_counted (c ∷ cs) h = let p = h.0 in let q = cases_counted cs h.1 in omega (arith, p, q)

    cases : TreeCases IsCounted IsCountedCase
    cases = record {
      block = λ b. by_layer (Tree-F.Block b) (plainly_counted _ _ (block_counted b));
      seq = λ ts h. by_layer (Tree-F.Seq ts) (plainly_counted _ _ (members_counted ts h));
      if_none = λ t a ha. by_layer (Tree-F.If t a None) (if_counted (term_cond f t) (printed f a).stmts (record { arms = []; last = None }) _ 0 ha.0 refl);
      if_some = λ t a b ha hb. by_layer (Tree-F.If t a (Some b)) (if_counted (term_cond f t) (printed f a).stmts (goes_on (printed f b).chain (printed f b).stmts) _ _ ha.0 hb.1);
      switch = λ n cs last hc hl. by_layer (Tree-F.Switch n cs last) (one_counted _ _
          (stmt_layer (CStmt-F.Switch (built.name (f n)) (map (case_printed f) cs) (printed f last).stmts)
          ∙ ap (λ x. w.test + (x + total (map (c_stmt_count w) (printed f last).stmts))) (cases_counted cs hc)
          ∙ ap (λ x. w.test + (total (map (case_count w) cs) + x)) (count_total (printed f last).stmts ∙ hl.0)));
      loop = λ a ha. by_layer (Tree-F.Loop a) (one_counted _ _
          (stmt_layer (CStmt-F.Loop (printed f a).stmts) ∙ ap (λ x. w.loop + x) (count_total (printed f a).stmts ∙ ha.0)));
      while = λ t a ha. by_layer (Tree-F.While t a) (one_counted _ _
          (stmt_layer (CStmt-F.While (term_cond f t) (printed f a).stmts) ∙ ap (λ x. w.loop + (w.test + x)) (count_total (printed f a).stmts ∙ ha.0)));
      do_while = λ a t ha. by_layer (Tree-F.DoWhile a t) (one_counted _ _
          (stmt_layer (CStmt-F.DoWhile (printed f a).stmts (term_cond f t)) ∙ ap (λ x. w.loop + (w.test + x)) (count_total (printed f a).stmts ∙ ha.0)));
      break = by_layer Tree-F.Break (one_counted _ _ (stmt_layer CStmt-F.Break));
      set = λ n to. by_layer (Tree-F.Set n to) (one_counted _ _ (stmt_layer (CStmt-F.Set (f n) (word_to f to))));
      case_of = λ values body hb.
          let y : TreeCase-F Tree TreeCase = record { values = values; body = body } in
          ap (c_group_count w) (case_printed_layer f y)
          ∙ group_layer (record { values = values; body = (printed f body).stmts })
          ∙ count_total (printed f body).stmts ∙ hb.0
          ∙ sym (case_count_layer w y);
    }

    -- as many as the tree
    pub printed_counted : (t : Tree) → c_count w (printed f t).stmts ≡ tree_count w t
    printed_counted t = (every_tree cases t).0
