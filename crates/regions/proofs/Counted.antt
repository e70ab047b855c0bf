-- The loops, tests, calls and stores of the plain tree, and how deep it nests.
use Rattle.std.proofs.Common.{map, ◌≡◌, ℕ, suc, ◌+◌, ◌≤◌, Bool, true, false, if◌then◌else◌, List, [], ◌∷◌, ◌++◌, refl, ap, ◌∙◌, arith}
use Rattle.run_parts.specs.Parts.{has}
use Rattle.c_syntax.specs.declared.syntax.CExpr.{CExpr}
use Rattle.c_syntax.specs.Depth.{deepest}
use Rattle.c_words.specs.Built as built
use Rattle.micro_ir.specs.declared.flow.Case.{Case}
use Rattle.micro_ir.specs.declared.flow.Stmt.{Stmt}
use Rattle.micro_ir.specs.declared.flow.Stmt.TheVariants as stmt
use Rattle.micro_ir.specs.declared.flow.End.{End as BlockEnd}
use Rattle.micro_ir.specs.declared.flow.End.TheVariants as end
use Rattle.micro_ir.specs.declared.flow.Block.{Block}
use Rattle.micro_ir.specs.declared.flow.Flow.{Flow}
use Rattle.micro_ir.specs.Counts.{stores_of_stmt, stores_of_stmts, stores_of, calls_of_stmt, calls_of_stmts, calls_of_end, calls_of}
use Rattle.guarded.specs.declared.tree.SetTo.TheVariants as to
use Rattle.guarded.specs.declared.tree.Tree.{Tree, Tree-F, roll-Tree}
use Rattle.guarded.specs.declared.tree.TreeCase.{TreeCase}
use Rattle.guarded.specs.Counts.{Weights, total, stmt_count, stmts_count, end_count, tree_count, case_count, each_loop, each_test, each_ext, each_store}
use Rattle.guarded.specs.Formed.{Bodies, deepest_alone, tree_bodies, case_bodies}
use Rattle.guarded.proofs.Layers.{count_layer, case_count_layer, bodies_layer, case_bodies_layer}
use Rattle.regions.specs.Plain.{selector, selects, goes_to, nothing, value_case, value_cases, next_trees, tree_end, block_tree, block_case, block_cases, selector_loop, plain_tree}
use Rattle.regions.specs.Laws.{switches_of_end, switches_of}

abbrev block_body : Block → Tree
block_body b = roll-Tree (Tree-F.Seq (block_tree b ∷ next_trees b.end))

-- ---- depth

selects_deep : (e : CExpr) → (tree_bodies (selects e)).alone ≡ 0
selects_deep e = ap (λ (d : Bodies). d.alone) (bodies_layer (Tree-F.Set selector (to.Expr e)))

nothing_deep : (tree_bodies nothing).alone ≡ 0
nothing_deep = ap (λ (d : Bodies). d.alone) (bodies_layer (Tree-F.Seq []))

pub block_deep : (b : Block) → (tree_bodies (block_tree b)).alone ≡ 0
block_deep b = ap (λ (d : Bodies). d.alone) (bodies_layer (Tree-F.Block (record { at = b.at; stmts = b.stmts; «end» = tree_end b.end })))

value_deep : (c : Case) → case_bodies (value_case c) ≡ 1
value_deep c =
    let e = selects_deep (built.num c.to) in
    case_bodies_layer (record { values = c.value ∷ []; body = goes_to c.to }) ∙ ap (λ n. n + 1) e

values_step : (seen : List ℕ) (c : Case) (cases : List Case) (b : Bool) → ((more : List ℕ) → deepest (map case_bodies (value_cases more cases)) ≤ 1)
    → deepest (map case_bodies (if b then value_cases seen cases else value_case c ∷ value_cases (seen ++ c.value ∷ []) cases)) ≤ 1
values_step seen c cases true k = k seen
values_step seen c cases false k = let e = value_deep c in let l = k (seen ++ c.value ∷ []) in omega (arith, e, l)

values_deep : (seen : List ℕ) (cases : List Case) → deepest (map case_bodies (value_cases seen cases)) ≤ 1
values_deep seen [] = omega arith
values_deep seen (c ∷ cases) = values_step seen c cases (has seen c.value) (λ more. values_deep more cases)

switch_deep : (cs : List TreeCase) (n : ℕ) → 1 ≤ n → deepest (map case_bodies cs) ≤ n → (tree_bodies (roll-Tree (Tree-F.Switch selector cs nothing))).alone ≤ n
switch_deep cs n l h =
    let e = ap (λ (d : Bodies). d.alone) (bodies_layer (Tree-F.Switch selector cs nothing)) in
    let z = nothing_deep in
    omega (arith, e, z, l, h)

next_deep : (e : BlockEnd) → deepest_alone (map tree_bodies (next_trees e)) ≤ 1
next_deep (end.Go a) = let e = selects_deep (built.num a) in omega (arith, e)
next_deep (end.Branch t a b) = let e = selects_deep (built.pick t (built.num a) (built.num b)) in omega (arith, e)
next_deep (end.Switch w cases) =
    let e = selects_deep w in
    let s = switch_deep (value_cases [] cases) 1 (omega arith) (values_deep [] cases) in
    omega (arith, e, s)
next_deep end.Return = omega arith
next_deep (end.Leave e) = omega arith

case_deep : (n : ℕ) (b : Block) → case_bodies (block_case n b) ≤ 2
case_deep n b =
    let c = case_bodies_layer (record { values = n ∷ []; body = block_body b }) in
    let s = ap (λ (d : Bodies). d.alone) (bodies_layer (Tree-F.Seq (block_tree b ∷ next_trees b.end))) in
    let e = block_deep b in
    let l = next_deep b.end in
    omega (arith, c, s, e, l)

cases_deep : (k : ℕ) (bs : List Block) → deepest (map case_bodies (block_cases k bs)) ≤ 2
cases_deep k [] = omega arith
cases_deep k (b ∷ bs) = let e = case_deep k b in let l = cases_deep (k + 1) bs in omega (arith, e, l)

abbrev turn_tree : List Block → Tree
turn_tree bs = roll-Tree (Tree-F.Switch selector (block_cases 0 bs) nothing)

pub plain_deep : (f : Flow) → (tree_bodies (plain_tree f)).alone ≤ 512
plain_deep f =
    let t = switch_deep (block_cases 0 f.blocks) 2 (omega arith) (cases_deep 0 f.blocks) in
    let l = ap (λ (d : Bodies). d.alone) (bodies_layer (Tree-F.Loop (turn_tree f.blocks))) in
    let s = ap (λ (d : Bodies). d.alone) (bodies_layer (Tree-F.Seq (goes_to f.entry ∷ selector_loop f.blocks ∷ []))) in
    let e = selects_deep (built.num f.entry) in
    omega (arith, t, l, s, e)

-- ---- counts

-- a Switch end has a test of its own
abbrev next_count : Weights → BlockEnd → ℕ
next_count w (end.Go a) = 0
next_count w (end.Branch t a b) = 0
next_count w (end.Switch e cases) = w.test
next_count w end.Return = 0
next_count w (end.Leave e) = 0

abbrev blocks_count : Weights → List Block → ℕ
blocks_count w [] = 0
blocks_count w (b ∷ bs) = (stmts_count w b.stmts + (end_count w b.end + next_count w b.end)) + blocks_count w bs

module _ (w : Weights) where
  end_same : (e : BlockEnd) → end_count w (tree_end e) ≡ end_count w e
  end_same (end.Go a) = refl
  end_same (end.Branch t a b) = refl
  end_same (end.Switch e cases) = refl
  end_same end.Return = refl
  end_same (end.Leave e) = refl

  pub block_counted : (b : Block) → tree_count w (block_tree b) ≡ stmts_count w b.stmts + end_count w b.end
  block_counted b =
      count_layer w (Tree-F.Block (record { at = b.at; stmts = b.stmts; «end» = tree_end b.end }))
      ∙ ap (λ n. stmts_count w b.stmts + n) (end_same b.end)

  selects_none : (e : CExpr) → tree_count w (selects e) ≡ 0
  selects_none e = count_layer w (Tree-F.Set selector (to.Expr e))

  nothing_none : tree_count w nothing ≡ 0
  nothing_none = count_layer w (Tree-F.Seq [])

  value_none : (c : Case) → case_count w (value_case c) ≡ 0
  value_none c = case_count_layer w (record { values = c.value ∷ []; body = goes_to c.to }) ∙ selects_none (built.num c.to)

  none_step : (seen : List ℕ) (c : Case) (cases : List Case) (b : Bool) → ((more : List ℕ) → total (map (case_count w) (value_cases more cases)) ≡ 0)
      → total (map (case_count w) (if b then value_cases seen cases else value_case c ∷ value_cases (seen ++ c.value ∷ []) cases)) ≡ 0
  none_step seen c cases true k = k seen
  none_step seen c cases false k = let e = value_none c in let l = k (seen ++ c.value ∷ []) in omega (arith, e, l)

  values_none : (seen : List ℕ) (cases : List Case) → total (map (case_count w) (value_cases seen cases)) ≡ 0
  values_none seen [] = refl
  values_none seen (c ∷ cases) = none_step seen c cases (has seen c.value) (λ more. values_none more cases)

  switch_counted : (cs : List TreeCase) → tree_count w (roll-Tree (Tree-F.Switch selector cs nothing)) ≡ w.test + total (map (case_count w) cs)
  switch_counted cs =
      let e = count_layer w (Tree-F.Switch selector cs nothing) in
      let z = nothing_none in
      omega (arith, e, z)

  next_counted : (e : BlockEnd) → total (map (tree_count w) (next_trees e)) ≡ next_count w e
  next_counted (end.Go a) = let e = selects_none (built.num a) in omega (arith, e)
  next_counted (end.Branch t a b) = let e = selects_none (built.pick t (built.num a) (built.num b)) in omega (arith, e)
  next_counted (end.Switch v cases) =
      let e = selects_none v in
      let s = switch_counted (value_cases [] cases) in
      let z = values_none [] cases in
      omega (arith, e, s, z)
  next_counted end.Return = refl
  next_counted (end.Leave e) = refl

  case_counted : (n : ℕ) (b : Block) → case_count w (block_case n b) ≡ stmts_count w b.stmts + (end_count w b.end + next_count w b.end)
  case_counted n b =
      let c = case_count_layer w (record { values = n ∷ []; body = block_body b }) in
      let s = count_layer w (Tree-F.Seq (block_tree b ∷ next_trees b.end)) in
      let e = block_counted b in
      let l = next_counted b.end in
      omega (arith, c, s, e, l)

  cases_counted : (k : ℕ) (bs : List Block) → total (map (case_count w) (block_cases k bs)) ≡ blocks_count w bs
  cases_counted k [] = refl
  cases_counted k (b ∷ bs) = let e = case_counted k b in let l = cases_counted (k + 1) bs in omega (arith, e, l)

  pub plain_counted : (f : Flow) → tree_count w (plain_tree f) ≡ w.loop + (w.test + blocks_count w f.blocks)
  plain_counted f =
      let t = switch_counted (block_cases 0 f.blocks) in
      let c = cases_counted 0 f.blocks in
      let l = count_layer w (Tree-F.Loop (turn_tree f.blocks)) in
      let s = count_layer w (Tree-F.Seq (goes_to f.entry ∷ selector_loop f.blocks ∷ [])) in
      let e = selects_none (built.num f.entry) in
      omega (arith, t, c, l, s, e)

-- ---- each count

-- statements have no loop and no test
no_loop : (s : Stmt) → stmt_count each_loop s ≡ 0
no_loop (stmt.Set n e) = refl
no_loop (stmt.Load n width e) = refl
no_loop (stmt.Store width e f) = refl
no_loop (stmt.Ext e) = refl
no_loop (stmt.Trap vector e) = refl

pub no_loops : (ss : List Stmt) → stmts_count each_loop ss ≡ 0
no_loops [] = refl
no_loops (s ∷ ss) = let e = no_loop s in let l = no_loops ss in omega (arith, e, l)

no_test : (s : Stmt) → stmt_count each_test s ≡ 0
no_test (stmt.Set n e) = refl
no_test (stmt.Load n width e) = refl
no_test (stmt.Store width e f) = refl
no_test (stmt.Ext e) = refl
no_test (stmt.Trap vector e) = refl

pub no_tests : (ss : List Stmt) → stmts_count each_test ss ≡ 0
no_tests [] = refl
no_tests (s ∷ ss) = let e = no_test s in let l = no_tests ss in omega (arith, e, l)

-- nor have ends of blocks in a tree
pub end_no_loop : (e : BlockEnd) → end_count each_loop e ≡ 0
end_no_loop (end.Go a) = refl
end_no_loop (end.Branch t a b) = refl
end_no_loop (end.Switch e cases) = refl
end_no_loop end.Return = refl
end_no_loop (end.Leave e) = refl

pub end_no_test : (e : BlockEnd) → end_count each_test e ≡ 0
end_no_test (end.Go a) = refl
end_no_test (end.Branch t a b) = refl
end_no_test (end.Switch e cases) = refl
end_no_test end.Return = refl
end_no_test (end.Leave e) = refl

next_no_loop : (e : BlockEnd) → next_count each_loop e ≡ 0
next_no_loop (end.Go a) = refl
next_no_loop (end.Branch t a b) = refl
next_no_loop (end.Switch e cases) = refl
next_no_loop end.Return = refl
next_no_loop (end.Leave e) = refl

next_tests : (e : BlockEnd) → next_count each_test e ≡ switches_of_end e
next_tests (end.Go a) = refl
next_tests (end.Branch t a b) = refl
next_tests (end.Switch e cases) = refl
next_tests end.Return = refl
next_tests (end.Leave e) = refl

call_of : (s : Stmt) → stmt_count each_ext s ≡ calls_of_stmt s
call_of (stmt.Set n e) = refl
call_of (stmt.Load n width e) = refl
call_of (stmt.Store width e f) = refl
call_of (stmt.Ext e) = refl
call_of (stmt.Trap vector e) = refl

calls_in : (ss : List Stmt) → stmts_count each_ext ss ≡ calls_of_stmts ss
calls_in [] = refl
calls_in (s ∷ ss) = let e = call_of s in let l = calls_in ss in omega (arith, e, l)

end_calls : (e : BlockEnd) → end_count each_ext e + next_count each_ext e ≡ calls_of_end e
end_calls (end.Go a) = refl
end_calls (end.Branch t a b) = refl
end_calls (end.Switch e cases) = refl
end_calls end.Return = refl
end_calls (end.Leave e) = refl

store_of : (s : Stmt) → stmt_count each_store s ≡ stores_of_stmt s
store_of (stmt.Set n e) = refl
store_of (stmt.Load n width e) = refl
store_of (stmt.Store width e f) = refl
store_of (stmt.Ext e) = refl
store_of (stmt.Trap vector e) = refl

stores_in : (ss : List Stmt) → stmts_count each_store ss ≡ stores_of_stmts ss
stores_in [] = refl
stores_in (s ∷ ss) = let e = store_of s in let l = stores_in ss in omega (arith, e, l)

end_stores : (e : BlockEnd) → end_count each_store e + next_count each_store e ≡ 0
end_stores (end.Go a) = refl
end_stores (end.Branch t a b) = refl
end_stores (end.Switch e cases) = refl
end_stores end.Return = refl
end_stores (end.Leave e) = refl

blocks_loops : (bs : List Block) → blocks_count each_loop bs ≡ 0
blocks_loops [] = refl
blocks_loops (b ∷ bs) =
    let s = no_loops b.stmts in
    let e = end_no_loop b.end in
    let n = next_no_loop b.end in
    let l = blocks_loops bs in
    omega (arith, s, e, n, l)

blocks_tests : (bs : List Block) → blocks_count each_test bs ≡ switches_of bs
blocks_tests [] = refl
blocks_tests (b ∷ bs) =
    let s = no_tests b.stmts in
    let e = end_no_test b.end in
    let n = next_tests b.end in
    let l = blocks_tests bs in
    omega (arith, s, e, n, l)

blocks_calls : (bs : List Block) → blocks_count each_ext bs ≡ calls_of bs
blocks_calls [] = refl
blocks_calls (b ∷ bs) =
    let s = calls_in b.stmts in
    let e = end_calls b.end in
    let l = blocks_calls bs in
    omega (arith, s, e, l)

blocks_stores : (bs : List Block) → blocks_count each_store bs ≡ stores_of bs
blocks_stores [] = refl
blocks_stores (b ∷ bs) =
    let s = stores_in b.stmts in
    let e = end_stores b.end in
    let l = blocks_stores bs in
    omega (arith, s, e, l)

pub plain_loops : (f : Flow) → tree_count each_loop (plain_tree f) ≡ 1
plain_loops f = let e = plain_counted each_loop f in let b = blocks_loops f.blocks in omega (arith, e, b)

pub plain_tests : (f : Flow) → tree_count each_test (plain_tree f) ≡ suc (switches_of f.blocks)
plain_tests f = let e = plain_counted each_test f in let b = blocks_tests f.blocks in omega (arith, e, b)

pub plain_calls : (f : Flow) → tree_count each_ext (plain_tree f) ≡ calls_of f.blocks
plain_calls f = let e = plain_counted each_ext f in let b = blocks_calls f.blocks in omega (arith, e, b)

pub plain_stores : (f : Flow) → tree_count each_store (plain_tree f) ≡ stores_of f.blocks
plain_stores f = let e = plain_counted each_store f in let b = blocks_stores f.blocks in omega (arith, e, b)
