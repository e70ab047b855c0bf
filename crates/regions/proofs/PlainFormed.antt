-- The plain tree of a flow is well formed.
use Rattle.std.proofs.Common.{map, ◌≡◌, ℕ, suc, ◌+◌, ◌^◌, ◌<◌, Bool, true, false, not, ◌&&◌, nat_eq, nat_le, if◌then◌else◌, List, [], ◌∷◌, ◌++◌, length, Some, refl, sym, ap, ◌∙◌, arith}
use Rattle.std.specs.Prelude.{IsTrue, slice_get, Contains}
use Rattle.run_parts.specs.Parts.{has}
use Rattle.c_syntax.specs.declared.syntax.CExpr.{CExpr, CExpr-F}
use Rattle.c_syntax.specs.declared.syntax.CCond.{CCond}
use Rattle.c_syntax.specs.Depth.{word_depth}
use Rattle.c_syntax.specs.Formed.{is_word, is_base, are_distinct, are_words, has_any, all, GroupAllowed, groups_values, all_groups}
use Rattle.c_syntax.proofs.Layers.{word_depth_layer}
use Rattle.c_words.specs.Built as built
use Rattle.micro_ir.specs.declared.flow.Case.{Case}
use Rattle.micro_ir.specs.declared.flow.Stmt.{Stmt}
use Rattle.micro_ir.specs.declared.flow.Stmt.TheVariants as stmt
use Rattle.micro_ir.specs.declared.flow.End.{End as BlockEnd}
use Rattle.micro_ir.specs.declared.flow.End.TheVariants as end
use Rattle.micro_ir.specs.declared.flow.Block.{Block}
use Rattle.micro_ir.specs.declared.flow.Flow.{Flow}
use Rattle.micro_ir.specs.Checked.{nodes_of}
use Rattle.micro_ir.specs.Rule.{is_flow_name, is_flow_target, is_flow_word, is_flow_cond, is_flow_stmt, are_flow_stmts, have_words, is_flow_end, is_flow_block, IsGiven}
use Rattle.micro_ir.proofs.Values.{both_true}
use Rattle.guarded.specs.declared.tree.SetTo.TheVariants as to
use Rattle.guarded.specs.declared.tree.Tree.{Tree, Tree-F, roll-Tree}
use Rattle.guarded.specs.declared.tree.TreeCase.{TreeCase}
use Rattle.guarded.specs.Formed.{numbers_word, numbers_cond, word_fits, stmt_allowed, stmts_allowed, end_allowed, tree_allowed, case_allowed}
use Rattle.guarded.proofs.Induct.{Each}
use Rattle.guarded.proofs.Layers.{allowed_layer, case_allowed_layer}
use Rattle.regions.specs.Plain.{selector, selects, goes_to, nothing, value_case, value_cases, value_switch, next_trees, tree_end, block_tree, block_case, block_cases, selector_loop, plain_tree}
use Rattle.regions.proofs.Standing.{other_number, has_still, has_last, lt_true, le_true, lt_from}
use Rattle.regions.proofs.Blocks.{block_rule}
use Rattle.regions.proofs.FlowWords.{and_true, numbers_layer, word_fit, cond_numbers, cond_deep}

-- ---- what is known of each block

-- a block that keeps the rule, and whose nodes are words
pub record IsFine (b : Block) : Type 0 where
  pub rule : IsTrue (is_flow_block b)
  pub nodes : (a : ℕ) → Contains (nodes_of b.end) a → a < 2 ^ 32

each_from : (P : Block → Type 0) (bs : List Block) → ((n : ℕ) (b : Block) → slice_get bs n ≡ Some b → P b) → Each P bs
each_from P [] h = tt
each_from P (b ∷ bs) h = (h 0 b refl, each_from P bs (λ n c e. h (suc n) c e))

pub blocks_fine : (f : Flow) → IsGiven f → Each IsFine f.blocks
blocks_fine f g = each_from IsFine f.blocks (λ n b e. record {
  rule = block_rule f.blocks n b e g.rule;
  nodes = λ a c. let l = g.checked.nodes_inside n a b e c in let m = g.few_blocks in omega (arith, l, m);
})

first_in : (x : ℕ) (xs : List ℕ) → Contains (x ∷ xs) x
first_in x xs = (0, omega arith, refl)

later_in : (x y : ℕ) (xs : List ℕ) → Contains xs x → Contains (y ∷ xs) x
later_in x y xs c = (suc c.0, (let l = c.1 in omega (arith, l)), c.2)

-- ---- blocks

simple_allowed : (s : Stmt) → IsTrue (is_flow_stmt s) → IsTrue (stmt_allowed s)
simple_allowed (stmt.Set n e) h =
    let p = both_true (is_flow_target n) (is_flow_word e) h in
    and_true (not (is_base n)) (word_fits e) (both_true (is_flow_name n) (not (is_base n)) p.0).1 (word_fit e p.1)
simple_allowed (stmt.Load n width e) h =
    let p = both_true (is_flow_target n) (is_flow_word e) h in
    and_true (not (is_base n)) (word_fits e) (both_true (is_flow_name n) (not (is_base n)) p.0).1 (word_fit e p.1)
simple_allowed (stmt.Store width e f) h =
    let p = both_true (is_flow_word e) (is_flow_word f) h in
    and_true (word_fits e) (word_fits f) (word_fit e p.0) (word_fit f p.1)
simple_allowed (stmt.Ext e) h = word_fit e h
simple_allowed (stmt.Trap vector e) h =
    let p = both_true (is_word vector) (is_flow_word e) h in
    and_true (is_word vector) (word_fits e) p.0 (word_fit e p.1)

simples_allowed : (ss : List Stmt) → IsTrue (are_flow_stmts ss) → IsTrue (stmts_allowed ss)
simples_allowed [] h = refl
simples_allowed (s ∷ ss) h =
    let p = both_true (is_flow_stmt s) (are_flow_stmts ss) h in
    and_true (stmt_allowed s) (stmts_allowed ss) (simple_allowed s p.0) (simples_allowed ss p.1)

ends_allowed : (e : BlockEnd) → IsTrue (is_flow_end e) → IsTrue (end_allowed (tree_end e))
ends_allowed (end.Go a) h = refl
ends_allowed (end.Branch t a b) h = refl
ends_allowed (end.Switch e cases) h = refl
ends_allowed end.Return h = refl
ends_allowed (end.Leave e) h = word_fit e h

pub block_tree_allowed : (b : Block) (inside : Bool) → IsTrue (is_flow_block b) → IsTrue (tree_allowed (block_tree b) inside)
block_tree_allowed b inside h =
    let p = both_true (are_flow_stmts b.stmts) (is_flow_end b.end) h in
    ap (λ g. g inside) (allowed_layer (Tree-F.Block (record { at = b.at; stmts = b.stmts; «end» = tree_end b.end })))
    ∙ and_true (stmts_allowed b.stmts) (end_allowed (tree_end b.end)) (simples_allowed b.stmts p.0) (ends_allowed b.end p.1)

-- ---- the selector is set

selects_allowed : (e : CExpr) (inside : Bool) → IsTrue (word_fits e) → IsTrue (tree_allowed (selects e) inside)
selects_allowed e inside h = ap (λ g. g inside) (allowed_layer (Tree-F.Set selector (to.Expr e))) ∙ h

num_numbers : (n : ℕ) → n < 2 ^ 32 → IsTrue (numbers_word (built.num n))
num_numbers n l = numbers_layer (CExpr-F.Num n) ∙ lt_true n (2 ^ 32) l

pub num_deep : (n : ℕ) → word_depth (built.num n) ≡ 1
num_deep n = word_depth_layer (CExpr-F.Num n)

num_fit : (n : ℕ) → n < 2 ^ 32 → IsTrue (word_fits (built.num n))
num_fit n l = and_true (numbers_word (built.num n)) (nat_le (word_depth (built.num n)) 256) (num_numbers n l) (ap (λ d. nat_le d 256) (num_deep n))

pick_fit : (t : CCond) (a b : ℕ) → IsTrue (is_flow_cond t) → a < 2 ^ 32 → b < 2 ^ 32 → IsTrue (word_fits (built.pick t (built.num a) (built.num b)))
pick_fit t a b h l k =
    let deep = word_depth_layer (CExpr-F.Pick t (built.num a) (built.num b)) in
    let d = cond_deep t h in
    let da = num_deep a in
    let db = num_deep b in
    and_true (numbers_word (built.pick t (built.num a) (built.num b))) (nat_le (word_depth (built.pick t (built.num a) (built.num b))) 256)
    (numbers_layer (CExpr-F.Pick t (built.num a) (built.num b))
    ∙ and_true (numbers_cond t) (numbers_word (built.num a) && numbers_word (built.num b)) (cond_numbers t h)
    (and_true (numbers_word (built.num a)) (numbers_word (built.num b)) (num_numbers a l) (num_numbers b k)))
    (le_true (word_depth (built.pick t (built.num a) (built.num b))) 256 (omega (arith, deep, d, da, db)))

goes_allowed : (n : ℕ) (inside : Bool) → n < 2 ^ 32 → IsTrue (tree_allowed (goes_to n) inside)
goes_allowed n inside l = selects_allowed (built.num n) inside (num_fit n l)

nothing_allowed : (inside : Bool) → IsTrue (tree_allowed nothing inside)
nothing_allowed inside = ap (λ g. g inside) (allowed_layer (Tree-F.Seq []))

-- ---- cases of one value each

-- a case of one value
one_allowed : (v : ℕ) (body : Bool) → v < 2 ^ 32 → IsTrue body → IsTrue (has_any (v ∷ []) && (are_words (v ∷ []) && body))
one_allowed v body l h = and_true (is_word v && true) body (and_true (is_word v) true (lt_true v (2 ^ 32) l) refl) h

value_is : (c : Case) → case_allowed (value_case c) ≡ (c.value ∷ [], has_any (c.value ∷ []) && (are_words (c.value ∷ []) && tree_allowed (goes_to c.to) true))
value_is c = case_allowed_layer (record { values = c.value ∷ []; body = goes_to c.to })

-- the values of cases, and whether all are allowed
abbrev values_in : List TreeCase → List ℕ
values_in cs = groups_values (map case_allowed cs)

abbrev allowed_in : List TreeCase → Bool
allowed_in cs = all_groups (map case_allowed cs)

more_values : (c : Case) (cs : List TreeCase) → values_in (value_case c ∷ cs) ≡ c.value ∷ values_in cs
more_values c cs = ap (λ (g : GroupAllowed). g.0 ++ values_in cs) (value_is c)

-- a value that was seen has no case
none_step : (seen : List ℕ) (c : Case) (cases : List Case) (x : ℕ) (b : Bool) → has seen c.value ≡ b → has seen x ≡ true
    → ((more : List ℕ) → has more x ≡ true → has (values_in (value_cases more cases)) x ≡ false)
    → has (values_in (if b then value_cases seen cases else value_case c ∷ value_cases (seen ++ c.value ∷ []) cases)) x ≡ false
none_step seen c cases x true e h k = k seen h
none_step seen c cases x false e h k =
    let other : nat_eq x c.value ≡ false = other_number x c.value (λ (i : x ≡ c.value). let p : has seen c.value ≡ true = ap (has seen) (sym i) ∙ h in let z : ⊥ = cc in z) in
    ap (λ vs. has vs x) (more_values c (value_cases (seen ++ c.value ∷ []) cases))
    ∙ ap (λ b. if b then true else has (values_in (value_cases (seen ++ c.value ∷ []) cases)) x) other
    ∙ k (seen ++ c.value ∷ []) (has_still seen x c.value h)

none_seen : (seen : List ℕ) (cases : List Case) (x : ℕ) → has seen x ≡ true → has (values_in (value_cases seen cases)) x ≡ false
none_seen seen [] x h = refl
none_seen seen (c ∷ cases) x h = none_step seen c cases x (has seen c.value) refl h (λ more g. none_seen more cases x g)

-- no value stands twice
distinct_more : (v : ℕ) (vs : List ℕ) → has vs v ≡ false → IsTrue (are_distinct vs) → IsTrue (are_distinct (v ∷ vs))
distinct_more v vs n d = and_true (not (has vs v)) (are_distinct vs) (ap not n) d

distinct_step : (seen : List ℕ) (c : Case) (cases : List Case) (b : Bool) → ((more : List ℕ) → IsTrue (are_distinct (values_in (value_cases more cases))))
    → IsTrue (are_distinct (values_in (if b then value_cases seen cases else value_case c ∷ value_cases (seen ++ c.value ∷ []) cases)))
distinct_step seen c cases true k = k seen
distinct_step seen c cases false k =
    let rest = value_cases (seen ++ c.value ∷ []) cases in
    ap are_distinct (more_values c rest)
    ∙ distinct_more c.value (values_in rest) (none_seen (seen ++ c.value ∷ []) cases c.value (has_last seen c.value)) (k (seen ++ c.value ∷ []))

values_distinct : (seen : List ℕ) (cases : List Case) → IsTrue (are_distinct (values_in (value_cases seen cases)))
values_distinct seen [] = refl
values_distinct seen (c ∷ cases) = distinct_step seen c cases (has seen c.value) (λ more. values_distinct more cases)

-- the nodes of the cases are words
abbrev ToWords : List Case → Type 0
ToWords cases = (a : ℕ) → Contains (map (λ (c : Case). c.to) cases) a → a < 2 ^ 32

value_allowed : (c : Case) (cs : List TreeCase) → c.value < 2 ^ 32 → c.to < 2 ^ 32 → IsTrue (allowed_in cs) → IsTrue (allowed_in (value_case c ∷ cs))
value_allowed c cs v t h =
    ap (λ (g : GroupAllowed). g.1 && allowed_in cs) (value_is c)
    ∙ and_true (has_any (c.value ∷ []) && (are_words (c.value ∷ []) && tree_allowed (goes_to c.to) true)) (allowed_in cs) (one_allowed c.value (tree_allowed (goes_to c.to) true) v (goes_allowed c.to true t)) h

values_step : (seen : List ℕ) (c : Case) (cases : List Case) (b : Bool) → c.value < 2 ^ 32 → c.to < 2 ^ 32 → ((more : List ℕ) → IsTrue (allowed_in (value_cases more cases)))
    → IsTrue (allowed_in (if b then value_cases seen cases else value_case c ∷ value_cases (seen ++ c.value ∷ []) cases))
values_step seen c cases true v t k = k seen
values_step seen c cases false v t k = value_allowed c (value_cases (seen ++ c.value ∷ []) cases) v t (k (seen ++ c.value ∷ []))

values_allowed : (seen : List ℕ) (cases : List Case) → IsTrue (have_words cases) → ToWords cases → IsTrue (allowed_in (value_cases seen cases))
values_allowed seen [] h t = refl
values_allowed seen (c ∷ cases) h t =
    let p = both_true (is_word c.value) (have_words cases) h in
    values_step seen c cases (has seen c.value) (lt_from c.value (2 ^ 32) p.0) (t c.to (first_in c.to (map (λ (c : Case). c.to) cases)))
    (λ more. values_allowed more cases p.1 (λ a i. t a (later_in a c.to (map (λ (c : Case). c.to) cases) i)))

-- a switch whose default does nothing
switch_allowed : (cs : List TreeCase) (inside : Bool) → IsTrue (allowed_in cs) → IsTrue (are_distinct (values_in cs)) → IsTrue (tree_allowed (roll-Tree (Tree-F.Switch selector cs nothing)) inside)
switch_allowed cs inside h d =
    ap (λ g. g inside) (allowed_layer (Tree-F.Switch selector cs nothing))
    ∙ and_true (allowed_in cs) (are_distinct (values_in cs) && tree_allowed nothing true) h (and_true (are_distinct (values_in cs)) (tree_allowed nothing true) d (nothing_allowed true))

-- ---- what comes after a block

next_allowed : (e : BlockEnd) (inside : Bool) → IsTrue (is_flow_end e) → ((a : ℕ) → Contains (nodes_of e) a → a < 2 ^ 32) → IsTrue (all (map tree_allowed (next_trees e)) inside)
next_allowed (end.Go a) inside h n = and_true (tree_allowed (goes_to a) inside) true (goes_allowed a inside (n a (first_in a []))) refl
next_allowed (end.Branch t a b) inside h n =
    and_true (tree_allowed (selects (built.pick t (built.num a) (built.num b))) inside) true
    (selects_allowed (built.pick t (built.num a) (built.num b)) inside (pick_fit t a b h (n a (first_in a (b ∷ []))) (n b (later_in b a (b ∷ []) (first_in b []))))) refl
next_allowed (end.Switch e cases) inside h n =
    let p = both_true (is_flow_word e) (have_words cases) h in
    and_true (tree_allowed (selects e) inside) (tree_allowed (value_switch cases) inside && true) (selects_allowed e inside (word_fit e p.0))
    (and_true (tree_allowed (value_switch cases) inside) true (switch_allowed (value_cases [] cases) inside (values_allowed [] cases p.1 n) (values_distinct [] cases)) refl)
next_allowed end.Return inside h n = refl
next_allowed (end.Leave e) inside h n = refl

-- ---- the cases of blocks

abbrev block_body : Block → Tree
block_body b = roll-Tree (Tree-F.Seq (block_tree b ∷ next_trees b.end))

body_allowed : (b : Block) (inside : Bool) → IsFine b → IsTrue (tree_allowed (block_body b) inside)
body_allowed b inside h =
    ap (λ g. g inside) (allowed_layer (Tree-F.Seq (block_tree b ∷ next_trees b.end)))
    ∙ and_true (tree_allowed (block_tree b) inside) (all (map tree_allowed (next_trees b.end)) inside) (block_tree_allowed b inside h.rule)
    (next_allowed b.end inside (both_true (are_flow_stmts b.stmts) (is_flow_end b.end) h.rule).1 h.nodes)

case_is : (n : ℕ) (b : Block) → case_allowed (block_case n b) ≡ (n ∷ [], has_any (n ∷ []) && (are_words (n ∷ []) && tree_allowed (block_body b) true))
case_is n b = case_allowed_layer (record { values = n ∷ []; body = block_body b })

more_numbers : (n : ℕ) (b : Block) (cs : List TreeCase) → values_in (block_case n b ∷ cs) ≡ n ∷ values_in cs
more_numbers n b cs = ap (λ (g : GroupAllowed). g.0 ++ values_in cs) (case_is n b)

-- a lesser number has no case
none_below : (bs : List Block) (k x : ℕ) → x < k → has (values_in (block_cases k bs)) x ≡ false
none_below [] k x l = refl
none_below (b ∷ bs) k x l =
    ap (λ vs. has vs x) (more_numbers k b (block_cases (k + 1) bs))
    ∙ ap (λ e. if e then true else has (values_in (block_cases (k + 1) bs)) x) (other_number x k (λ (i : x ≡ k). let z : ⊥ = omega (arith, l, i) in z))
    ∙ none_below bs (k + 1) x (omega (arith, l))

numbers_distinct : (bs : List Block) (k : ℕ) → IsTrue (are_distinct (values_in (block_cases k bs)))
numbers_distinct [] k = refl
numbers_distinct (b ∷ bs) k =
    ap are_distinct (more_numbers k b (block_cases (k + 1) bs))
    ∙ distinct_more k (values_in (block_cases (k + 1) bs)) (none_below bs (k + 1) k (omega arith)) (numbers_distinct bs (k + 1))

cases_allowed : (bs : List Block) (k : ℕ) → Each IsFine bs → k + length bs < 2 ^ 32 → IsTrue (allowed_in (block_cases k bs))
cases_allowed [] k h l = refl
cases_allowed (b ∷ bs) k h l =
    ap (λ (g : GroupAllowed). g.1 && allowed_in (block_cases (k + 1) bs)) (case_is k b)
    ∙ and_true (has_any (k ∷ []) && (are_words (k ∷ []) && tree_allowed (block_body b) true)) (allowed_in (block_cases (k + 1) bs))
    (one_allowed k (tree_allowed (block_body b) true) (omega (arith, l)) (body_allowed b true h.0))
    (cases_allowed bs (k + 1) h.1 (omega (arith, l)))

-- ---- the tree

loop_allowed : (bs : List Block) (inside : Bool) → Each IsFine bs → length bs < 2 ^ 32 → IsTrue (tree_allowed (selector_loop bs) inside)
loop_allowed bs inside h l =
    ap (λ g. g inside) (allowed_layer (Tree-F.Loop (roll-Tree (Tree-F.Switch selector (block_cases 0 bs) nothing))))
    ∙ switch_allowed (block_cases 0 bs) true (cases_allowed bs 0 h (omega (arith, l))) (numbers_distinct bs 0)

pub plain_allowed : (f : Flow) → IsGiven f → IsTrue (tree_allowed (plain_tree f) false)
plain_allowed f g =
    let l = g.few_blocks in
    let i = g.checked.entry_inside in
    ap (λ h. h false) (allowed_layer (Tree-F.Seq (goes_to f.entry ∷ selector_loop f.blocks ∷ [])))
    ∙ and_true (tree_allowed (goes_to f.entry) false) (tree_allowed (selector_loop f.blocks) false && true) (goes_allowed f.entry false (omega (arith, l, i)))
    (and_true (tree_allowed (selector_loop f.blocks) false) true (loop_allowed f.blocks false (blocks_fine f g) (omega (arith, l))) refl)
