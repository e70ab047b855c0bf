-- The statements of a well-formed tree are allowed, and nest as deep as the tree.
use Rattle.std.proofs.Common.{map, ◌≡◌, ℕ, ◌+◌, max, Bool, true, false, not, ◌&&◌, nat_le, List, [], ◌∷◌, ◌++◌, Option, Some, None, refl, sym, ap, ◌∙◌, subst, arith}
use Rattle.dream_words.specs.declared.machine.Name.{Name}
use Rattle.c_syntax.specs.declared.syntax.CBin.TheVariants.{Shl}
use Rattle.c_syntax.specs.declared.syntax.CExpr.{CExpr-F}
use Rattle.c_syntax.specs.declared.syntax.CCond.{CCond}
use Rattle.c_syntax.specs.declared.syntax.CStmt.{CStmt, CStmt-F, roll-CStmt}
use Rattle.c_syntax.specs.declared.syntax.CArm.{CArm}
use Rattle.c_syntax.specs.declared.syntax.CGroup.{CGroup}
use Rattle.c_syntax.specs.declared.syntax.CFun.{CFun}
use Rattle.c_syntax.specs.Depth.{deepest, body_depth, stmt_depth, arm_depth, group_depth, stmts_depth}
use Rattle.c_syntax.specs.Formed.{is_declared, is_base, are_distinct, Allowed, all, GroupAllowed, groups_values, all_groups, word_allowed, cond_allowed, stmt_allowed, arm_allowed, group_allowed, stmts_allowed}
use Rattle.c_syntax.proofs.Layers.{stmt_allowed_layer, arm_allowed_layer, group_allowed_layer, stmt_depth_layer, arm_depth_layer, group_depth_layer, names_word_layer}
use Rattle.c_words.specs.Built as built
use Rattle.micro_ir.specs.declared.flow.Stmt.{Stmt}
use Rattle.micro_ir.specs.declared.flow.Stmt.TheVariants as stmt
use Rattle.micro_ir.specs.declared.flow.End.{End as BlockEnd}
use Rattle.micro_ir.specs.declared.flow.End.TheVariants as end
use Rattle.micro_ir.specs.declared.flow.Block.{Block}
use Rattle.guarded.specs.declared.tree.Tree as tree
use Rattle.guarded.specs.declared.tree.Tree.{Tree, Tree-F, roll-Tree}
use Rattle.guarded.specs.declared.tree.TreeCase.{TreeCase, TreeCase-F}
use Rattle.guarded.specs.Uses.{Use, Sets, joined, word_uses, stmt_uses, stmts_uses, end_uses, block_uses, term_uses, to_uses, tree_uses_at, tree_uses, case_uses}
use Rattle.guarded.specs.Formed as formed
use Rattle.guarded.specs.Formed.{Bodies, bodies_at, deepest_alone, word_fits, term_fits, to_fits, end_allowed, block_allowed, tree_allowed, case_allowed, tree_bodies, case_bodies}
use Rattle.guarded.proofs.Induct.{Each, TreeCases, every_tree}
use Rattle.guarded.proofs.Layers.{uses_layer, case_uses_layer, allowed_layer, case_allowed_layer, bodies_layer, case_bodies_layer}
use Rattle.c_emit.specs.Emitted.{renamed_word, term_cond, word_to, stuck_stmt, stmt_of, end_stmts, block_stmts, Chain, Printed, goes_on, if_chain, if_printed, arm_of, all_stmts, printed_at, printed, case_printed}
use Rattle.c_emit.proofs.Known.{Known, known_first, known_second}
use Rattle.c_emit.proofs.TreeRuns.{printed_layer, case_printed_layer}
use Rattle.c_emit.proofs.FormedWords.{and_first, and_second, and_both, name_deep, declares, word_ok, term_ok, to_ok}

-- ---- depths

depth_append : (xs ys : List CStmt) → stmts_depth (xs ++ ys) ≡ max (stmts_depth xs) (stmts_depth ys)
depth_append [] ys = omega arith
depth_append (x ∷ xs) ys = let e = depth_append xs ys in omega (arith, e)

deepest_is : (ss : List CStmt) → deepest (map stmt_depth ss) ≡ stmts_depth ss
deepest_is [] = refl
deepest_is (s ∷ ss) = ap (λ (n : ℕ). max (stmt_depth s) n) (deepest_is ss)

one_depth : (s : CStmt) (n : ℕ) → stmt_depth s ≡ n → stmts_depth (s ∷ []) ≡ n
one_depth s n e = omega (arith, e)

abbrev last_depth : Option (List CStmt) → ℕ
last_depth None = 0
last_depth (Some ss) = body_depth (map stmt_depth ss)

abbrev chain_depth : Chain → ℕ
chain_depth c = max (deepest (map arm_depth c.arms)) (last_depth c.last)

if_depth : (arms : List CArm) (last : Option (List CStmt)) → stmt_depth (roll-CStmt (CStmt-F.If arms last)) ≡ max (deepest (map arm_depth arms)) (last_depth last)
if_depth arms None = stmt_depth_layer (CStmt-F.If arms None)
if_depth arms (Some ss) = stmt_depth_layer (CStmt-F.If arms (Some ss))

arm_is : (t : CCond) (body : List CStmt) → arm_depth (arm_of t body) ≡ stmts_depth body + 1
arm_is t body = arm_depth_layer (record { test = t; body = body }) ∙ ap (λ (n : ℕ). n + 1) (deepest_is body)

module _ (f : Name → Name) where
  simple_depth : (s : Stmt) → stmt_depth (stmt_of f s) ≡ 0
  simple_depth (stmt.Set n e) = stmt_depth_layer (CStmt-F.Set (f n) (renamed_word f e))
  simple_depth (stmt.Load n width e) = stmt_depth_layer (CStmt-F.Load (f n) width (renamed_word f e))
  simple_depth (stmt.Store width e v) = stmt_depth_layer (CStmt-F.Store width (renamed_word f e) (renamed_word f v))
  simple_depth (stmt.Ext e) = stmt_depth_layer (CStmt-F.Ext (renamed_word f e))
  simple_depth (stmt.Trap vector e) = stmt_depth_layer (CStmt-F.Trap vector (renamed_word f e))

  simples_depth : (ss : List Stmt) → stmts_depth (map (stmt_of f) ss) ≡ 0
  simples_depth [] = refl
  simples_depth (s ∷ ss) = let a = simple_depth s in let b = simples_depth ss in omega (arith, a, b)

  return_depth : stmts_depth (roll-CStmt CStmt-F.Return ∷ []) ≡ 0
  return_depth = one_depth (roll-CStmt CStmt-F.Return) 0 (stmt_depth_layer CStmt-F.Return)

  stuck_depth : stmts_depth (stuck_stmt ∷ []) ≡ 0
  stuck_depth = one_depth stuck_stmt 0 (stmt_depth_layer (CStmt-F.Trap 0 (built.bin Shl (built.num 0) (built.num 32))))

  end_depth : (e : BlockEnd) → stmts_depth (end_stmts f e) ≡ 0
  end_depth (end.Go a) = refl
  end_depth (end.Branch t a b) = stuck_depth
  end_depth (end.Switch e cases) = stuck_depth
  end_depth end.Return = return_depth
  end_depth (end.Leave e) = let a = stmt_depth_layer (CStmt-F.Ext (renamed_word f e)) in let b = return_depth in omega (arith, a, b)

  block_depth : (b : Block) → stmts_depth (block_stmts f b) ≡ 0
  block_depth b =
      let e = depth_append (map (stmt_of f) b.stmts) (end_stmts f b.end) in
      let p = simples_depth b.stmts in
      let q = end_depth b.end in
      omega (arith, e, p, q)

  abbrev Deep : Printed → Bodies → Type 0
  Deep p d = (stmts_depth p.stmts ≡ d.alone) × (chain_depth (goes_on p.chain p.stmts) ≡ d.as_else)

  abbrev IsDeep : Tree → Type 0
  IsDeep t = Deep (printed f t) (tree_bodies t)

  abbrev IsDeepCase : TreeCase → Type 0
  IsDeepCase c = group_depth (case_printed f c) ≡ case_bodies c

  deep_layer : (y : Tree-F Tree TreeCase)
      → Deep (printed_at f (tree.map-Tree Tree TreeCase Printed CGroup (printed f) (case_printed f) y)) (bodies_at (tree.map-Tree Tree TreeCase Bodies ℕ tree_bodies case_bodies y))
      → IsDeep (roll-Tree y)
  deep_layer y k =
      subst (λ (p : Printed). Deep p (tree_bodies (roll-Tree y))) (sym (printed_layer f y))
      (subst (Deep (printed_at f (tree.map-Tree Tree TreeCase Printed CGroup (printed f) (case_printed f) y))) (sym (bodies_layer y)) k)

  plainly_deep : (ss : List CStmt) (n : ℕ) → stmts_depth ss ≡ n → Deep (record { stmts = ss; chain = None }) (record { alone = n; as_else = n + 1 })
  plainly_deep ss n e = (e, let d = deepest_is ss in let g : max 0 (deepest (map stmt_depth ss) + 1) ≡ n + 1 = omega (arith, d, e) in g)

  one_deep : (s : CStmt) (n : ℕ) → stmt_depth s ≡ n → Deep (record { stmts = s ∷ []; chain = None }) (record { alone = n; as_else = n + 1 })
  one_deep s n e = plainly_deep (s ∷ []) n (one_depth s n e)

  if_deep : (t : CCond) (body : List CStmt) (rest : Chain) (a b : ℕ) → stmts_depth body ≡ a → chain_depth rest ≡ b
      → Deep (if_printed (if_chain t body rest)) (record { alone = max (a + 1) b; as_else = max (a + 1) b })
  if_deep t body rest a b p q =
      let g = arm_is t body in
      let e : chain_depth (if_chain t body rest) ≡ max (a + 1) b = omega (arith, g, p, q) in
      (one_depth _ _ (if_depth (if_chain t body rest).arms (if_chain t body rest).last ∙ e), e)

  members_deep : (ts : List Tree) → Each IsDeep ts → stmts_depth (all_stmts (map (printed f) ts)) ≡ deepest_alone (map tree_bodies ts)
  members_deep [] h = refl
  members_deep (t ∷ ts) h =
      let e = depth_append (printed f t).stmts (all_stmts (map (printed f) ts)) in
      let p = h.0.0 in
      let q = members_deep ts h.1 in
      omega (arith, e, p, q)

  cases_deep : (cs : List TreeCase) → Each IsDeepCase cs → deepest (map group_depth (map (case_printed f) cs)) ≡ deepest (map case_bodies cs)
  cases_deep [] h = refl
  cases_deep (c ∷ cs) h = let p = h.0 in let q = cases_deep cs h.1 in omega (arith, p, q)

  -- a body of a loop
  body_deep : (a : Tree) → IsDeep a → body_depth (map stmt_depth (printed f a).stmts) ≡ (tree_bodies a).alone + 1
  body_deep a h = ap (λ (n : ℕ). n + 1) (deepest_is (printed f a).stmts ∙ h.0)

  deep_cases : TreeCases IsDeep IsDeepCase
  deep_cases = record {
    block = λ b. deep_layer (Tree-F.Block b) (plainly_deep _ _ (block_depth b));
    seq = λ ts h. deep_layer (Tree-F.Seq ts) (plainly_deep _ _ (members_deep ts h));
    if_none = λ t a ha. deep_layer (Tree-F.If t a None) (if_deep (term_cond f t) (printed f a).stmts (record { arms = []; last = None }) _ 0 ha.0 refl);
    if_some = λ t a b ha hb. deep_layer (Tree-F.If t a (Some b)) (if_deep (term_cond f t) (printed f a).stmts (goes_on (printed f b).chain (printed f b).stmts) _ _ ha.0 hb.1);
    switch = λ n cs last hc hl. deep_layer (Tree-F.Switch n cs last) (one_deep _ _
        (stmt_depth_layer (CStmt-F.Switch (built.name (f n)) (map (case_printed f) cs) (printed f last).stmts)
        ∙ ap (λ (x : ℕ). max x (body_depth (map stmt_depth (printed f last).stmts))) (cases_deep cs hc)
        ∙ ap (λ (x : ℕ). max (deepest (map case_bodies cs)) x) (body_deep last hl)));
    loop = λ a ha. deep_layer (Tree-F.Loop a) (one_deep _ _ (stmt_depth_layer (CStmt-F.Loop (printed f a).stmts) ∙ body_deep a ha));
    while = λ t a ha. deep_layer (Tree-F.While t a) (one_deep _ _ (stmt_depth_layer (CStmt-F.While (term_cond f t) (printed f a).stmts) ∙ body_deep a ha));
    do_while = λ a t ha. deep_layer (Tree-F.DoWhile a t) (one_deep _ _ (stmt_depth_layer (CStmt-F.DoWhile (printed f a).stmts (term_cond f t)) ∙ body_deep a ha));
    break = deep_layer Tree-F.Break (one_deep _ 0 (stmt_depth_layer CStmt-F.Break));
    set = λ n to. deep_layer (Tree-F.Set n to) (one_deep _ 0 (stmt_depth_layer (CStmt-F.Set (f n) (word_to f to))));
    case_of = λ values body hb.
        let y : TreeCase-F Tree TreeCase = record { values = values; body = body } in
        ap group_depth (case_printed_layer f y)
        ∙ group_depth_layer (record { values = values; body = (printed f body).stmts })
        ∙ body_deep body hb
        ∙ sym (case_bodies_layer y);
  }

  pub printed_deep : (t : Tree) → stmts_depth (printed f t).stmts ≡ (tree_bodies t).alone
  printed_deep t = (every_tree deep_cases t).0

  -- ---- allowed

  module _ (g : CFun) (keeps_base : (n : Name) → is_base (f n) ≡ is_base n) where
    -- statements are allowed
    abbrev Fine : List CStmt → Bool → Type 0
    Fine ss b = all (map (stmt_allowed g) ss) b ≡ true

    fine_append : (xs ys : List CStmt) (b : Bool) → Fine xs b → Fine ys b → Fine (xs ++ ys) b
    fine_append [] ys b p q = q
    fine_append (x ∷ xs) ys b p q = and_both _ _ (and_first _ _ p) (fine_append xs ys b (and_second _ _ p) q)

    fine_one : (s : CStmt) (b : Bool) → stmt_allowed g s b ≡ true → Fine (s ∷ []) b
    fine_one s b p = and_both _ _ p refl

    abbrev last_allowed : Option (List CStmt) → Bool → Bool
    last_allowed None b = true
    last_allowed (Some ss) b = all (map (stmt_allowed g) ss) b

    abbrev FineChain : Chain → Bool → Type 0
    FineChain c b = (all (map (arm_allowed g) c.arms) b && last_allowed c.last b) ≡ true

    fine_if : (a : CArm) (arms : List CArm) (last : Option (List CStmt)) (b : Bool) → FineChain (record { arms = a ∷ arms; last = last }) b → stmt_allowed g (roll-CStmt (CStmt-F.If (a ∷ arms) last)) b ≡ true
    fine_if a arms None b h = ap (λ (p : Allowed). p b) (stmt_allowed_layer g (CStmt-F.If (a ∷ arms) None)) ∙ h
    fine_if a arms (Some ss) b h = ap (λ (p : Allowed). p b) (stmt_allowed_layer g (CStmt-F.If (a ∷ arms) (Some ss))) ∙ h

    fine_arm : (t : CCond) (body : List CStmt) (b : Bool) → cond_allowed g t ≡ true → Fine body b → arm_allowed g (arm_of t body) b ≡ true
    fine_arm t body b p q = ap (λ (x : Allowed). x b) (arm_allowed_layer g (record { test = t; body = body })) ∙ and_both _ _ p q

    -- a name that is set
    fine_target : (n : Name) → declares f g n ≡ true → not (is_base n) ≡ true → (is_declared g (f n) && not (is_base (f n))) ≡ true
    fine_target n p q = and_both _ _ p (ap not (keeps_base n) ∙ q)

    fine_stmt : (s : Stmt) (b : Bool) → Known (declares f g) (stmt_uses s) → formed.stmt_allowed s ≡ true → stmt_allowed g (stmt_of f s) b ≡ true
    fine_stmt (stmt.Set n e) b h k =
        ap (λ (p : Allowed). p b) (stmt_allowed_layer g (CStmt-F.Set (f n) (renamed_word f e)))
        ∙ and_both _ _ (fine_target n (known_second (declares f g) (word_uses e) (Sets n ∷ []) h).0 (and_first _ _ k)) (word_ok f g e (known_first (declares f g) (word_uses e) (Sets n ∷ []) h) (and_second _ _ k))
    fine_stmt (stmt.Load n width e) b h k =
        ap (λ (p : Allowed). p b) (stmt_allowed_layer g (CStmt-F.Load (f n) width (renamed_word f e)))
        ∙ and_both _ _ (fine_target n (known_second (declares f g) (word_uses e) (Sets n ∷ []) h).0 (and_first _ _ k)) (word_ok f g e (known_first (declares f g) (word_uses e) (Sets n ∷ []) h) (and_second _ _ k))
    fine_stmt (stmt.Store width e v) b h k =
        ap (λ (p : Allowed). p b) (stmt_allowed_layer g (CStmt-F.Store width (renamed_word f e) (renamed_word f v)))
        ∙ and_both _ _ (word_ok f g e (known_first (declares f g) (word_uses e) (word_uses v) h) (and_first _ _ k)) (word_ok f g v (known_second (declares f g) (word_uses e) (word_uses v) h) (and_second _ _ k))
    fine_stmt (stmt.Ext e) b h k = ap (λ (p : Allowed). p b) (stmt_allowed_layer g (CStmt-F.Ext (renamed_word f e))) ∙ word_ok f g e h k
    fine_stmt (stmt.Trap vector e) b h k =
        ap (λ (p : Allowed). p b) (stmt_allowed_layer g (CStmt-F.Trap vector (renamed_word f e))) ∙ and_both _ _ (and_first _ _ k) (word_ok f g e h (and_second _ _ k))

    fine_stmts : (ss : List Stmt) (b : Bool) → Known (declares f g) (stmts_uses ss) → formed.stmts_allowed ss ≡ true → Fine (map (stmt_of f) ss) b
    fine_stmts [] b h k = refl
    fine_stmts (s ∷ ss) b h k =
        and_both _ _ (fine_stmt s b (known_first (declares f g) (stmt_uses s) (stmts_uses ss) h) (and_first _ _ k))
        (fine_stmts ss b (known_second (declares f g) (stmt_uses s) (stmts_uses ss) h) (and_second _ _ k))

    never : {A : Type 0} → false ≡ true → A
    never e = absurd (no e)
      where
        no : false ≡ true → ⊥
        no q = cc

    fine_return : (b : Bool) → Fine (roll-CStmt CStmt-F.Return ∷ []) b
    fine_return b = fine_one (roll-CStmt CStmt-F.Return) b (ap (λ (p : Allowed). p b) (stmt_allowed_layer g CStmt-F.Return))

    fine_end : (e : BlockEnd) (b : Bool) → Known (declares f g) (end_uses e) → end_allowed e ≡ true → Fine (end_stmts f e) b
    fine_end (end.Go a) b h k = refl
    fine_end (end.Branch t x y) b h k = never k
    fine_end (end.Switch e cases) b h k = never k
    fine_end end.Return b h k = fine_return b
    fine_end (end.Leave e) b h k =
        and_both _ _ (ap (λ (p : Allowed). p b) (stmt_allowed_layer g (CStmt-F.Ext (renamed_word f e))) ∙ word_ok f g e h k) (fine_return b)

    fine_block : (x : Block) (b : Bool) → Known (declares f g) (block_uses x) → block_allowed x ≡ true → Fine (block_stmts f x) b
    fine_block x b h k =
        fine_append (map (stmt_of f) x.stmts) (end_stmts f x.end) b
        (fine_stmts x.stmts b (known_first (declares f g) (stmts_uses x.stmts) (end_uses x.end) h) (and_first _ _ k))
        (fine_end x.end b (known_second (declares f g) (stmts_uses x.stmts) (end_uses x.end) h) (and_second _ _ k))

    -- ---- trees

    abbrev BothFine : Printed → Bool → Type 0
    BothFine p b = Fine p.stmts b × FineChain (goes_on p.chain p.stmts) b

    abbrev IsFine : Tree → Type 0
    IsFine t = (b : Bool) → Known (declares f g) (tree_uses t) → tree_allowed t b ≡ true → BothFine (printed f t) b

    abbrev IsFineCase : TreeCase → Type 0
    IsFineCase c = ((group_allowed g (case_printed f c)).0 ≡ (case_allowed c).0) × (Known (declares f g) (case_uses c) → (case_allowed c).1 ≡ true → (group_allowed g (case_printed f c)).1 ≡ true)

    fine_layer : (y : Tree-F Tree TreeCase)
        → ((b : Bool) → Known (declares f g) (tree_uses_at (tree.map-Tree Tree TreeCase (List Use) (List Use) tree_uses case_uses y))
        → formed.tree_at (tree.map-Tree Tree TreeCase Allowed GroupAllowed tree_allowed case_allowed y) b ≡ true
        → BothFine (printed_at f (tree.map-Tree Tree TreeCase Printed CGroup (printed f) (case_printed f) y)) b)
        → IsFine (roll-Tree y)
    fine_layer y k b h n =
        subst (λ (p : Printed). BothFine p b) (sym (printed_layer f y))
        (k b (subst (Known (declares f g)) (uses_layer y) h) (sym (ap (λ (p : Allowed). p b) (allowed_layer y)) ∙ n))

    plainly_fine : (ss : List CStmt) (b : Bool) → Fine ss b → BothFine (record { stmts = ss; chain = None }) b
    plainly_fine ss b e = (e, e)

    one_fine : (s : CStmt) (b : Bool) → stmt_allowed g s b ≡ true → BothFine (record { stmts = s ∷ []; chain = None }) b
    one_fine s b e = plainly_fine (s ∷ []) b (fine_one s b e)

    if_fine : (t : CCond) (body : List CStmt) (rest : Chain) (b : Bool) → cond_allowed g t ≡ true → Fine body b → FineChain rest b → BothFine (if_printed (if_chain t body rest)) b
    if_fine t body rest b p q r =
        let e : FineChain (if_chain t body rest) b = and_both _ _ (and_both _ _ (fine_arm t body b p q) (and_first _ _ r)) (and_second _ _ r) in
        (fine_one _ b (fine_if (arm_of t body) rest.arms rest.last b e), e)

    members_fine : (ts : List Tree) → Each IsFine ts → (b : Bool) → Known (declares f g) (joined (map tree_uses ts)) → all (map tree_allowed ts) b ≡ true → Fine (all_stmts (map (printed f) ts)) b
    members_fine [] e b h k = refl
    members_fine (t ∷ ts) e b h k =
        fine_append (printed f t).stmts (all_stmts (map (printed f) ts)) b
        (e.0 b (known_first (declares f g) (tree_uses t) (joined (map tree_uses ts)) h) (and_first _ _ k)).0
        (members_fine ts e.1 b (known_second (declares f g) (tree_uses t) (joined (map tree_uses ts)) h) (and_second _ _ k))

    cases_fine : (cs : List TreeCase) → Each IsFineCase cs → Known (declares f g) (joined (map case_uses cs)) → all_groups (map case_allowed cs) ≡ true
        → all_groups (map (group_allowed g) (map (case_printed f) cs)) ≡ true
    cases_fine [] e h k = refl
    cases_fine (c ∷ cs) e h k =
        and_both _ _ (e.0.1 (known_first (declares f g) (case_uses c) (joined (map case_uses cs)) h) (and_first _ _ k))
        (cases_fine cs e.1 (known_second (declares f g) (case_uses c) (joined (map case_uses cs)) h) (and_second _ _ k))

    values_same : (cs : List TreeCase) → Each IsFineCase cs → groups_values (map (group_allowed g) (map (case_printed f) cs)) ≡ groups_values (map case_allowed cs)
    values_same [] e = refl
    values_same (c ∷ cs) e =
        ap (λ (vs : List ℕ). vs ++ groups_values (map (group_allowed g) (map (case_printed f) cs))) e.0.0 ∙ ap (λ (vs : List ℕ). (case_allowed c).0 ++ vs) (values_same cs e.1)

    name_ok : (n : Name) → declares f g n ≡ true → word_allowed g (built.name (f n)) ≡ true
    name_ok n h = and_both _ _ (names_word_layer g (CExpr-F.Name (f n)) ∙ h) (ap (λ (d : ℕ). nat_le d 256) (name_deep f (f n)))

    fine_cases : TreeCases IsFine IsFineCase
    fine_cases = record {
      block = λ x. fine_layer (Tree-F.Block x) (λ b h k. plainly_fine _ b (fine_block x b h k));
      seq = λ ts e. fine_layer (Tree-F.Seq ts) (λ b h k. plainly_fine _ b (members_fine ts e b h k));
      if_none = λ t a ea. fine_layer (Tree-F.If t a None) (λ b h k.
          if_fine (term_cond f t) (printed f a).stmts (record { arms = []; last = None }) b
          (term_ok f g t (known_first (declares f g) (term_uses t) (tree_uses a ++ []) h) (and_first _ _ k))
          (ea b (known_first (declares f g) (tree_uses a) [] (known_second (declares f g) (term_uses t) (tree_uses a ++ []) h)) (and_first _ _ (and_second _ _ k))).0
          refl);
      if_some = λ t a x ea ex. fine_layer (Tree-F.If t a (Some x)) (λ b h k.
          let r = known_second (declares f g) (term_uses t) (tree_uses a ++ tree_uses x) h in
          if_fine (term_cond f t) (printed f a).stmts (goes_on (printed f x).chain (printed f x).stmts) b
          (term_ok f g t (known_first (declares f g) (term_uses t) (tree_uses a ++ tree_uses x) h) (and_first _ _ k))
          (ea b (known_first (declares f g) (tree_uses a) (tree_uses x) r) (and_first _ _ (and_second _ _ k))).0
          (ex b (known_second (declares f g) (tree_uses a) (tree_uses x) r) (and_second _ _ (and_second _ _ k))).1);
      switch = λ n cs last ec el. fine_layer (Tree-F.Switch n cs last) (λ b h k.
          one_fine _ b
          (ap (λ (p : Allowed). p b) (stmt_allowed_layer g (CStmt-F.Switch (built.name (f n)) (map (case_printed f) cs) (printed f last).stmts))
          ∙ and_both _ _ (name_ok n h.0)
          (and_both _ _ (cases_fine cs ec (known_first (declares f g) (joined (map case_uses cs)) (tree_uses last) h.1) (and_first _ _ k))
          (and_both _ _ (ap are_distinct (values_same cs ec) ∙ and_first _ _ (and_second _ _ k))
          (el true (known_second (declares f g) (joined (map case_uses cs)) (tree_uses last) h.1) (and_second _ _ (and_second _ _ k))).0))));
      loop = λ a ea. fine_layer (Tree-F.Loop a) (λ b h k.
          one_fine _ b (ap (λ (p : Allowed). p b) (stmt_allowed_layer g (CStmt-F.Loop (printed f a).stmts)) ∙ (ea true h k).0));
      while = λ t a ea. fine_layer (Tree-F.While t a) (λ b h k.
          one_fine _ b (ap (λ (p : Allowed). p b) (stmt_allowed_layer g (CStmt-F.While (term_cond f t) (printed f a).stmts))
          ∙ and_both _ _ (term_ok f g t (known_first (declares f g) (term_uses t) (tree_uses a) h) (and_first _ _ k)) (ea true (known_second (declares f g) (term_uses t) (tree_uses a) h) (and_second _ _ k)).0));
      do_while = λ a t ea. fine_layer (Tree-F.DoWhile a t) (λ b h k.
          one_fine _ b (ap (λ (p : Allowed). p b) (stmt_allowed_layer g (CStmt-F.DoWhile (printed f a).stmts (term_cond f t)))
          ∙ and_both _ _ (ea true (known_first (declares f g) (tree_uses a) (term_uses t) h) (and_first _ _ k)).0 (term_ok f g t (known_second (declares f g) (tree_uses a) (term_uses t) h) (and_second _ _ k))));
      break = fine_layer Tree-F.Break (λ b h k. one_fine _ b (ap (λ (p : Allowed). p b) (stmt_allowed_layer g CStmt-F.Break) ∙ k));
      set = λ n to. fine_layer (Tree-F.Set n to) (λ b h k.
          one_fine _ b (ap (λ (p : Allowed). p b) (stmt_allowed_layer g (CStmt-F.Set (f n) (word_to f to)))
          ∙ and_both _ _ (fine_target n (known_second (declares f g) (to_uses to) (Sets n ∷ []) h).0 (and_first _ _ k)) (to_ok f g to (known_first (declares f g) (to_uses to) (Sets n ∷ []) h) (and_second _ _ k))));
      case_of = λ values body eb.
          let y : TreeCase-F Tree TreeCase = record { values = values; body = body } in
          let r = ap (group_allowed g) (case_printed_layer f y) ∙ group_allowed_layer g (record { values = values; body = (printed f body).stmts }) in
          let a = case_allowed_layer y in (
            ap (λ (p : GroupAllowed). p.0) r ∙ sym (ap (λ (p : GroupAllowed). p.0) a),
            λ h k.
                let m = sym (ap (λ (p : GroupAllowed). p.1) a) ∙ k in
                ap (λ (p : GroupAllowed). p.1) r
                ∙ and_both _ _ (and_first _ _ m) (and_both _ _ (and_first _ _ (and_second _ _ m)) (eb true (subst (Known (declares f g)) (case_uses_layer y) h) (and_second _ _ (and_second _ _ m))).0),
          );
    }

    -- the statements of an allowed tree
    stmts_fine : (ss : List CStmt) → Fine ss false → stmts_allowed g ss ≡ true
    stmts_fine [] h = refl
    stmts_fine (s ∷ ss) h = and_both _ _ (and_first _ _ h) (stmts_fine ss (and_second _ _ h))

    pub printed_fine : (t : Tree) → Known (declares f g) (tree_uses t) → tree_allowed t false ≡ true → stmts_allowed g (printed f t).stmts ≡ true
    printed_fine t h k = stmts_fine (printed f t).stmts (every_tree fine_cases t false h k).0
