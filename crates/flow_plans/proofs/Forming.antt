-- The tree of a plan that fits is well formed.
use Rattle.std.proofs.Common.{◌≡◌, ℕ, zero, suc, ◌+◌, ◌^◌, ◌<◌, ◌≤◌, Bool, true, false, not, ◌&&◌, nat_eq, nat_le, nat_lt, if◌then◌else◌, List, [], ◌∷◌, ◌++◌, length, map, Option, Some, None, refl, sym, ap, ◌∙◌, subst, arith}
use Rattle.std.specs.Prelude.{IsTrue, slice_get, max}
use Rattle.dream_words.specs.declared.machine.Name.{Name}
use Rattle.dream_words.specs.declared.machine.Name.TheVariants.{B, S}
use Rattle.c_syntax.specs.declared.syntax.CExpr.{CExpr, CExpr-F}
use Rattle.c_syntax.specs.declared.syntax.CCond as c
use Rattle.c_syntax.specs.declared.syntax.CCond.{CCond, CCond-F, roll-CCond}
use Rattle.c_syntax.specs.declared.syntax.CCmp.TheVariants as cmp
use Rattle.c_syntax.specs.Depth.{word_depth, cond_depth, deepest}
use Rattle.c_syntax.specs.Formed.{is_word, is_base, cond_names, Allowed, GroupAllowed, all}
use Rattle.c_syntax.proofs.Layers.{word_depth_layer, cond_depth_layer}
use Rattle.c_words.specs.Built as built
use Rattle.cond_terms.specs.declared.term.Lit.TheVariants as lit
use Rattle.cond_terms.specs.declared.term.Term.{Term, Term-F, roll-Term}
use Rattle.micro_ir.specs.declared.flow.Stmt.{Stmt}
use Rattle.micro_ir.specs.declared.flow.Stmt.TheVariants as stmt
use Rattle.micro_ir.specs.declared.flow.End.{End as BlockEnd}
use Rattle.micro_ir.specs.declared.flow.End.TheVariants as end
use Rattle.micro_ir.specs.declared.flow.Block.{Block}
use Rattle.micro_ir.specs.Rule.{is_flow_name, is_flow_target, is_flow_word, is_flow_cond, is_flow_stmt, are_flow_stmts, have_words, is_flow_end, is_flow_block, are_flow_blocks}
use Rattle.micro_ir.proofs.Values.{both_true}
use Rattle.guarded.specs.declared.tree.SetTo.{SetTo}
use Rattle.guarded.specs.declared.tree.SetTo.TheVariants as to
use Rattle.guarded.specs.declared.tree.Tree.{Tree, Tree-F, roll-Tree}
use Rattle.guarded.specs.Uses.{Use, Reads, Sets, joined as joined_uses, name_of, names_of, word_uses, cond_uses, cond_uses_at, word_uses_at, term_uses, stmt_uses, stmts_uses, end_uses, to_uses, tree_uses, case_uses}
use Rattle.guarded.specs.Formed.{Bodies, bodies, deepest_alone, is_text_name, are_text_names, word_numbers, numbers_word, numbers_cond, numbers_term, term_depth, picked_depth, word_fits, term_fits, to_fits, stmt_allowed, stmts_allowed, end_allowed, tree_allowed, case_allowed, tree_bodies, IsWellFormed}
use Rattle.guarded.proofs.Induct.{Each}
use Rattle.guarded.proofs.Layers.{term_uses_layer, uses_layer, numbers_term_layer, term_depth_layer, allowed_layer, bodies_layer}
use Rattle.regions.specs.Plain.{tree_end, block_tree}
use Rattle.regions.proofs.Standing.{lt_true, le_true, lt_from, le_from}
use Rattle.regions.proofs.Blocks.{block_rule}
use Rattle.regions.proofs.PlainFormed.{block_tree_allowed}
use Rattle.regions.proofs.Named.{block_named}
use Rattle.regions.proofs.FlowWords.{and_true, AllUses, uses_append, uses_to, IsFlowName, IsTextName, text_names, flow_text, numbers_layer, word_uses_layer, word_fit, word_named, cond_numbers, cond_deep, cond_named}
use Rattle.flow_plans.specs.declared.plan.Value.{Value}
use Rattle.flow_plans.specs.declared.plan.Way.{Way}
use Rattle.flow_plans.specs.declared.plan.Plan as plan
use Rattle.flow_plans.specs.declared.plan.Plan.{Plan, Plan-F, roll-Plan}
use Rattle.flow_plans.specs.Known.{is_added}
use Rattle.flow_plans.specs.Emitted.{gathered, number_of, has_value, or_any, any_of, two_ways, test_tree, sets, way_word, way_trees, block_trees, joined, picked_word, trees_at, trees_of, emitted}
use Rattle.flow_plans.specs.Fitting.{is_variable, value_fits, values_fit, way_fits, fits_at, fits, nest_at, nest}
use Rattle.flow_plans.specs.Laws.{PlansForm}
use Rattle.flow_plans.proofs.Induct.{trees_layer, PlanCases, every_plan}

-- ---- what is shown of trees

abbrev AllText : List Use → Type 0
AllText us = AllUses IsTextName us

text_append : (us vs : List Use) → AllText us → AllText vs → AllText (us ++ vs)
text_append us vs h g = uses_append IsTextName us vs h g

flow_texts : (us : List Use) → AllUses IsFlowName us → AllText us
flow_texts us h = uses_to IsFlowName IsTextName flow_text us h

-- a tree may stand there, and nests no deeper than a number
record Good (breakable : Bool) (d : ℕ) (t : Tree) : Type 0 where
  allowed : IsTrue (tree_allowed t breakable)
  named : AllText (tree_uses t)
  deep : (tree_bodies t).alone ≤ d
  as_else : (tree_bodies t).as_else ≤ (tree_bodies t).alone + 1

abbrev AllGood : Bool → ℕ → List Tree → Type 0
AllGood b d [] = Unit {0}
AllGood b d (t ∷ ts) = Good b d t × AllGood b d ts

good_more : (b : Bool) (d k : ℕ) → d ≤ k → (ts : List Tree) → AllGood b d ts → AllGood b k ts
good_more b d k l [] h = tt
good_more b d k l (t ∷ ts) h =
    let g = (h.0).deep in
    (record { allowed = (h.0).allowed; named = (h.0).named; deep = omega (arith, g, l); as_else = (h.0).as_else }, good_more b d k l ts h.1)

good_append : (b : Bool) (d : ℕ) (ts us : List Tree) → AllGood b d ts → AllGood b d us → AllGood b d (ts ++ us)
good_append b d [] us h g = g
good_append b d (t ∷ ts) us h g = (h.0, good_append b d ts us h.1 g)

all_allowed : (b : Bool) (d : ℕ) (ts : List Tree) → AllGood b d ts → IsTrue (all (map tree_allowed ts) b)
all_allowed b d [] h = refl
all_allowed b d (t ∷ ts) h = and_true (tree_allowed t b) (all (map tree_allowed ts) b) (h.0).allowed (all_allowed b d ts h.1)

all_named : (b : Bool) (d : ℕ) (ts : List Tree) → AllGood b d ts → AllText (joined_uses (map tree_uses ts))
all_named b d [] h = tt
all_named b d (t ∷ ts) h = text_append (tree_uses t) (joined_uses (map tree_uses ts)) (h.0).named (all_named b d ts h.1)

all_deep : (b : Bool) (d : ℕ) (ts : List Tree) → AllGood b d ts → deepest_alone (map tree_bodies ts) ≤ d
all_deep b d [] h = omega arith
all_deep b d (t ∷ ts) h = let g = (h.0).deep in let k = all_deep b d ts h.1 in omega (arith, g, k)

seq_good : (b : Bool) (d : ℕ) (ts : List Tree) → AllGood b d ts → Good b d (roll-Tree (Tree-F.Seq ts))
seq_good b d ts h =
    let e = ap (λ (x : Bodies). x.alone) (bodies_layer (Tree-F.Seq ts)) in
    let f = ap (λ (x : Bodies). x.as_else) (bodies_layer (Tree-F.Seq ts)) in
    let k = all_deep b d ts h in
    record {
      allowed = ap (λ g. g b) (allowed_layer (Tree-F.Seq ts)) ∙ all_allowed b d ts h;
      named = subst AllText (sym (uses_layer (Tree-F.Seq ts))) (all_named b d ts h);
      deep = omega (arith, e, k);
      as_else = omega (arith, e, f);
    }

gathered_good : (b : Bool) (d : ℕ) (ts : List Tree) → AllGood b d ts → Good b d (gathered ts)
gathered_good b d [] h = seq_good b d [] h
gathered_good b d (t ∷ []) h = h.0
gathered_good b d (t ∷ u ∷ ts) h = seq_good b d (t ∷ u ∷ ts) h

-- ---- terms

record GoodTerm (n : ℕ) (t : Term) : Type 0 where
  numbers : IsTrue (numbers_term t)
  deep : term_depth t ≤ n
  named : AllText (term_uses t)

number_text : (n : Name) → IsTrue (is_text_name n) → IsTextName (B (number_of n))
number_text (B k) h = h
number_text n h = refl

false_good : GoodTerm 3 (roll-Term Term-F.False)
false_good = let e = term_depth_layer Term-F.False in record {
  numbers = numbers_term_layer Term-F.False;
  deep = omega (arith, e);
  named = subst AllText (sym (term_uses_layer Term-F.False)) tt;
}

has_good : (a : Value) → IsTrue (value_fits a) → GoodTerm 2 (has_value a)
has_good a h =
    let l = lit.Eq (number_of a.name) a.value in
    let p = both_true (is_variable a.name) (is_word a.value) h in
    let e = term_depth_layer (Term-F.Lit l) in
    record {
      numbers = numbers_term_layer (Term-F.Lit l) ∙ p.1;
      deep = omega (arith, e);
      named = subst AllText (sym (term_uses_layer (Term-F.Lit l))) (number_text a.name (both_true (is_added a.name) (is_text_name a.name) p.0).1, tt);
    }

set_good : (a : Value) → IsTrue (value_fits a) → GoodTerm 2 (roll-Term (Term-F.Lit (lit.Bool (number_of a.name))))
set_good a h =
    let l = lit.Bool (number_of a.name) in
    let p = both_true (is_variable a.name) (is_word a.value) h in
    let e = term_depth_layer (Term-F.Lit l) in
    record {
      numbers = numbers_term_layer (Term-F.Lit l);
      deep = omega (arith, e);
      named = subst AllText (sym (term_uses_layer (Term-F.Lit l))) (number_text a.name (both_true (is_added a.name) (is_text_name a.name) p.0).1, tt);
    }

not_good : (n : ℕ) (t : Term) → GoodTerm n t → GoodTerm (n + 1) (roll-Term (Term-F.Not t))
not_good n t h =
    let e = term_depth_layer (Term-F.Not t) in
    let k = h.deep in
    record {
      numbers = numbers_term_layer (Term-F.Not t) ∙ h.numbers;
      deep = omega (arith, e, k);
      named = subst AllText (sym (term_uses_layer (Term-F.Not t))) h.named;
    }

or_good : (n : ℕ) (t u : Term) → GoodTerm n t → GoodTerm n u → GoodTerm (n + 1) (roll-Term (Term-F.Or t u))
or_good n t u h g =
    let e = term_depth_layer (Term-F.Or t u) in
    let k = h.deep in
    let j = g.deep in
    record {
      numbers = numbers_term_layer (Term-F.Or t u) ∙ and_true (numbers_term t) (numbers_term u) h.numbers g.numbers;
      deep = omega (arith, e, k, j);
      named = subst AllText (sym (term_uses_layer (Term-F.Or t u))) (text_append (term_uses t) (term_uses u) h.named g.named);
    }

term_more : (n k : ℕ) (t : Term) → n ≤ k → GoodTerm n t → GoodTerm k t
term_more n k t l h = let d = h.deep in record { numbers = h.numbers; deep = omega (arith, d, l); named = h.named }

or_any_good : (n k : ℕ) (t : Term) (vs : List Value) → 2 ≤ n → n + length vs ≤ k → IsTrue (values_fit vs) → GoodTerm n t → GoodTerm k (or_any t vs)
or_any_good n k t [] two l h g = term_more n k t (omega (arith, l)) g
or_any_good n k t (a ∷ rest) two l h g =
    let p = both_true (value_fits a) (values_fit rest) h in
    or_any_good (n + 1) k (roll-Term (Term-F.Or t (has_value a))) rest (omega (arith, two)) (omega (arith, l)) p.1
    (or_good n t (has_value a) g (term_more 2 n (has_value a) two (has_good a p.0)))

any_good : (vs : List Value) → IsTrue (values_fit vs) → length vs ≤ 250 → GoodTerm 255 (any_of vs)
any_good [] h l = term_more 3 255 (any_of []) (omega arith) false_good
any_good (a ∷ rest) h l =
    let p = both_true (value_fits a) (values_fit rest) h in
    or_any_good 2 255 (has_value a) rest (omega arith) (omega (arith, l)) p.1 (has_good a p.0)

fits_term : (t : Term) → GoodTerm 256 t → IsTrue (term_fits t)
fits_term t h = and_true (numbers_term t) (nat_le (term_depth t) 256) h.numbers (le_true (term_depth t) 256 h.deep)

-- ---- tests

if_alone : (b : Bool) (d : ℕ) (t : Term) (a : Tree) → GoodTerm 256 t → Good b d a → Good b (d + 1) (roll-Tree (Tree-F.If t a None))
if_alone b d t a h g =
    let y = Tree-F.If t a None in
    let e = ap (λ (x : Bodies). x.alone) (bodies_layer y) in
    let f = ap (λ (x : Bodies). x.as_else) (bodies_layer y) in
    let k = g.deep in
    record {
      allowed = ap (λ g. g b) (allowed_layer y) ∙ and_true (term_fits t) (tree_allowed a b && true) (fits_term t h) (and_true (tree_allowed a b) true g.allowed refl);
      named = subst AllText (sym (uses_layer y)) (text_append (term_uses t) (tree_uses a ++ []) h.named (text_append (tree_uses a) [] g.named tt));
      deep = omega (arith, e, k);
      as_else = omega (arith, e, f);
    }

if_else : (b : Bool) (d : ℕ) (t : Term) (a o : Tree) → GoodTerm 256 t → Good b d a → Good b d o → Good b (d + 1) (roll-Tree (Tree-F.If t a (Some o)))
if_else b d t a o h g i =
    let y = Tree-F.If t a (Some o) in
    let e = ap (λ (x : Bodies). x.alone) (bodies_layer y) in
    let f = ap (λ (x : Bodies). x.as_else) (bodies_layer y) in
    let k = g.deep in
    let m = i.deep in
    let r = i.as_else in
    record {
      allowed = ap (λ g. g b) (allowed_layer y) ∙ and_true (term_fits t) (tree_allowed a b && tree_allowed o b) (fits_term t h) (and_true (tree_allowed a b) (tree_allowed o b) g.allowed i.allowed);
      named = subst AllText (sym (uses_layer y)) (text_append (term_uses t) (tree_uses a ++ tree_uses o) h.named (text_append (tree_uses a) (tree_uses o) g.named i.named));
      deep = omega (arith, e, k, m, r);
      as_else = omega (arith, e, f);
    }

two_ways_good : (b : Bool) (d : ℕ) (t : Term) (first second : List Tree) → GoodTerm 255 t → AllGood b d first → AllGood b d second → Good b (d + 1) (two_ways t first second)
two_ways_good b d t [] second h f g = if_alone b d (roll-Term (Term-F.Not t)) (gathered second) (not_good 255 t h) (gathered_good b d second g)
two_ways_good b d t (x ∷ xs) [] h f g = if_alone b d t (gathered (x ∷ xs)) (term_more 255 256 t (omega arith) h) (gathered_good b d (x ∷ xs) f)
two_ways_good b d t (x ∷ xs) (y ∷ ys) h f g =
    if_else b d t (gathered (x ∷ xs)) (gathered (y ∷ ys)) (term_more 255 256 t (omega arith) h) (gathered_good b d (x ∷ xs) f) (gathered_good b d (y ∷ ys) g)

one_test_good : (b : Bool) (d : ℕ) (a : Value) (first second : List Tree) (r : Bool) → IsTrue (value_fits a) → AllGood b d first → AllGood b d second
    → Good b (d + 1) (if r then two_ways (roll-Term (Term-F.Lit (lit.Bool (number_of a.name)))) second first else two_ways (has_value a) first second)
one_test_good b d a first second true h f g = two_ways_good b d (roll-Term (Term-F.Lit (lit.Bool (number_of a.name)))) second first (term_more 2 255 _ (omega arith) (set_good a h)) g f
one_test_good b d a first second false h f g = two_ways_good b d (has_value a) first second (term_more 2 255 _ (omega arith) (has_good a h)) f g

test_good : (b : Bool) (d : ℕ) (vs : List Value) (first second : List Tree) → IsTrue (values_fit vs) → length vs ≤ 250 → AllGood b d first → AllGood b d second → Good b (d + 1) (test_tree vs first second)
test_good b d [] first second h l f g = two_ways_good b d (any_of []) first second (any_good [] h l) f g
test_good b d (a ∷ []) first second h l f g = one_test_good b d a first second (nat_eq a.value 0) (both_true (value_fits a) true h).0 f g
test_good b d (a ∷ o ∷ rest) first second h l f g = two_ways_good b d (any_of (a ∷ o ∷ rest)) first second (any_good (a ∷ o ∷ rest) h l) f g

-- ---- variables that are set

not_base : (n : Name) → IsTrue (is_added n) → IsTrue (not (is_base n))
not_base (B k) h = refl
not_base (S k) h = refl
not_base n h = absurd (let z : ⊥ = cc in z)

sets_good : (b : Bool) (d : ℕ) (v : Name) (to : SetTo) → IsTrue (is_variable v) → IsTrue (to_fits to) → AllText (to_uses to) → Good b d (sets v to)
sets_good b d v to h f u =
    let p = both_true (is_added v) (is_text_name v) h in
    let e = ap (λ (x : Bodies). x.alone) (bodies_layer (Tree-F.Set v to)) in
    let k = ap (λ (x : Bodies). x.as_else) (bodies_layer (Tree-F.Set v to)) in
    record {
      allowed = ap (λ g. g b) (allowed_layer (Tree-F.Set v to)) ∙ and_true (not (is_base v)) (to_fits to) (not_base v p.0) f;
      named = subst AllText (sym (uses_layer (Tree-F.Set v to))) (text_append (to_uses to) (Sets v ∷ []) u (p.1, tt));
      deep = omega (arith, e);
      as_else = omega (arith, e, k);
    }

-- a Word may stand in a tree
record GoodWord (a : CExpr) : Type 0 where
  numbers : IsTrue (numbers_word a)
  deep : word_depth a ≤ 65
  named : AllText (word_uses a)

record GoodCond (t : CCond) : Type 0 where
  numbers : IsTrue (numbers_cond t)
  deep : cond_depth t ≤ 64
  named : AllText (cond_uses t)

fits_word : (a : CExpr) → GoodWord a → IsTrue (word_fits a)
fits_word a h = let l = h.deep in and_true (numbers_word a) (nat_le (word_depth a) 256) h.numbers (le_true (word_depth a) 256 (omega (arith, l)))

num_good : (n : ℕ) → IsTrue (is_word n) → GoodWord (built.num n)
num_good n h = let e = word_depth_layer (CExpr-F.Num n) in record {
  numbers = numbers_layer (CExpr-F.Num n) ∙ h;
  deep = omega (arith, e);
  named = subst AllText (sym (word_uses_layer (CExpr-F.Num n))) tt;
}

pick_good : (t : CCond) (a b : ℕ) → GoodCond t → IsTrue (is_word a) → IsTrue (is_word b) → GoodWord (built.pick t (built.num a) (built.num b))
pick_good t a b h f g =
    let y = CExpr-F.Pick t (built.num a) (built.num b) in
    let x = num_good a f in
    let z = num_good b g in
    let e = word_depth_layer y in
    let k = h.deep in
    let ea = word_depth_layer (CExpr-F.Num a) in
    let eb = word_depth_layer (CExpr-F.Num b) in
    record {
      numbers = numbers_layer y ∙ and_true (numbers_cond t) (numbers_word (built.num a) && numbers_word (built.num b)) h.numbers (and_true (numbers_word (built.num a)) (numbers_word (built.num b)) x.numbers z.numbers);
      deep = omega (arith, e, k, ea, eb);
      named = subst AllText (sym (word_uses_layer y)) (text_append (cond_uses t) (word_uses (built.num a) ++ word_uses (built.num b)) h.named (text_append (word_uses (built.num a)) (word_uses (built.num b)) x.named z.named));
    }

flow_cond : (t : CCond) → IsTrue (is_flow_cond t) → GoodCond t
flow_cond t h = record { numbers = cond_numbers t h; deep = cond_deep t h; named = flow_texts (cond_uses t) (cond_named t h) }

is_good : (u : Value) → IsTrue (value_fits u) → GoodCond (built.cmp cmp.Eq (built.name u.name) (built.num u.value))
is_good u h =
    let y = CCond-F.Cmp cmp.Eq (built.name u.name) (built.num u.value) in
    let p = both_true (is_variable u.name) (is_word u.value) h in
    let x = num_good u.value p.1 in
    let e = cond_depth_layer y in
    let en = word_depth_layer (CExpr-F.Name u.name) in
    let ev = word_depth_layer (CExpr-F.Num u.value) in
    record {
      numbers = c.fold-roll-CCond Bool Bool cond_names word_numbers y ∙ and_true (numbers_word (built.name u.name)) (numbers_word (built.num u.value)) (numbers_layer (CExpr-F.Name u.name)) x.numbers;
      deep = omega (arith, e, en, ev);
      named = subst AllText (sym (c.fold-roll-CCond (List Use) (List Use) cond_uses_at word_uses_at y))
          (text_append (word_uses (built.name u.name)) (word_uses (built.num u.value))
          (subst AllText (sym (word_uses_layer (CExpr-F.Name u.name))) ((both_true (is_added u.name) (is_text_name u.name) p.0).1, tt)) x.named);
    }

way_good : (t : CCond) (a b : ℕ) (r : Bool) → GoodCond t → IsTrue (is_word a) → IsTrue (is_word b)
    → IsTrue (to_fits (if r then to.Cond t else to.Expr (built.pick t (built.num a) (built.num b)))) × AllText (to_uses (if r then to.Cond t else to.Expr (built.pick t (built.num a) (built.num b))))
way_good t a b true h f g =
    let l = h.deep in
    (and_true (numbers_cond t) (nat_le (picked_depth (cond_depth t)) 256) h.numbers (le_true (picked_depth (cond_depth t)) 256 (omega (arith, l))), h.named)
way_good t a b false h f g =
    let w = pick_good t a b h f g in
    (fits_word (built.pick t (built.num a) (built.num b)) w, w.named)

-- ---- blocks

block_good : (b : Bool) (d : ℕ) (k : Block) → IsTrue (is_flow_block k) → Good b d (block_tree k)
block_good b d k h =
    let y = Tree-F.Block (record { at = k.at; stmts = k.stmts; «end» = tree_end k.end }) in
    let e = ap (λ (x : Bodies). x.alone) (bodies_layer y) in
    let f = ap (λ (x : Bodies). x.as_else) (bodies_layer y) in
    record {
      allowed = block_tree_allowed k b h;
      named = flow_texts (tree_uses (block_tree k)) (block_named k h);
      deep = omega (arith, e);
      as_else = omega (arith, e, f);
    }

way_trees_good : (b : Bool) (d : ℕ) (w : Way) (e : BlockEnd) → IsTrue (way_fits w) → IsTrue (is_flow_end e) → AllGood b d (way_trees w e)
way_trees_good b d w (end.Go x) f h = tt
way_trees_good b d w (end.Branch t x y) f h =
    let p = both_true (is_variable w.name) (is_word w.on_true && is_word w.on_false) f in
    let q = both_true (is_word w.on_true) (is_word w.on_false) p.1 in
    let g = way_good t w.on_true w.on_false (nat_eq w.on_true 1 && nat_eq w.on_false 0) (flow_cond t h) q.0 q.1 in
    (sets_good b d w.name (way_word t w.on_true w.on_false) p.0 g.0 g.1, tt)
way_trees_good b d w (end.Switch a cases) f h =
    let p = both_true (is_variable w.name) (is_word w.on_true && is_word w.on_false) f in
    let q = both_true (is_flow_word a) (have_words cases) h in
    (sets_good b d w.name (to.Expr a) p.0 (word_fit a q.0) (flow_texts (word_uses a) (word_named a q.0)), tt)
way_trees_good b d w end.Return f h = tt
way_trees_good b d w (end.Leave a) f h = tt

module _ (blocks : List Block) (rule : IsTrue (are_flow_blocks blocks)) where
  block_trees_good : (b : Bool) (d n : ℕ) (w : Way) (o : Option Block) → slice_get blocks n ≡ o → IsTrue (way_fits w) → AllGood b d (block_trees w o)
  block_trees_good b d n w None at f = tt
  block_trees_good b d n w (Some k) at f =
      let h = block_rule blocks n k at rule in
      (block_good b d k h, way_trees_good b d w k.end f (both_true (are_flow_stmts k.stmts) (is_flow_end k.end) h).1)

  -- ---- plans

  abbrev GoodPlan : Plan → Type 0
  GoodPlan p = (b : Bool) → IsTrue (fits p b) → AllGood b (nest p) (trees_of blocks p)

  by_layer : (y : Plan-F Plan)
      → ((b : Bool) → IsTrue (fits_at (plan.map-Plan Plan Allowed fits y) b) → AllGood b (nest_at (plan.map-Plan Plan ℕ nest y)) (trees_at blocks (plan.map-Plan Plan (List Tree) (trees_of blocks) y)))
      → GoodPlan (roll-Plan y)
  by_layer y h b f =
      let g = h b (sym (ap (λ g. g b) (plan.fold-roll-Plan Allowed fits_at y)) ∙ f) in
      subst (λ ts. AllGood b (nest (roll-Plan y)) ts) (sym (trees_layer blocks y))
      (subst (λ d. AllGood b d (trees_at blocks (plan.map-Plan Plan (List Tree) (trees_of blocks) y))) (sym (plan.fold-roll-Plan ℕ nest_at y)) g)

  all_good : (ps : List Plan) → Each GoodPlan ps → (b : Bool) → IsTrue (all (map fits ps) b) → AllGood b (deepest (map nest ps)) (joined (map (trees_of blocks) ps))
  all_good [] h b f = tt
  all_good (p ∷ ps) h b f =
      let q = both_true (fits p b) (all (map fits ps) b) f in
      let d = max (nest p) (deepest (map nest ps)) in
      good_append b d (trees_of blocks p) (joined (map (trees_of blocks) ps))
      (good_more b (nest p) d (omega arith) (trees_of blocks p) (h.0 b q.0))
      (good_more b (deepest (map nest ps)) d (omega arith) (joined (map (trees_of blocks) ps)) (all_good ps h.1 b q.1))

  one_test : (vs : List Value) (p q : Plan) → GoodPlan p → GoodPlan q → (b : Bool) → IsTrue ((values_fit vs && nat_le (length vs) 250) && (fits p b && fits q b))
      → AllGood b (max (nest p) (nest q) + 1) (test_tree vs (trees_of blocks p) (trees_of blocks q) ∷ [])
  one_test vs p q hp hq b f =
      let u = both_true (values_fit vs && nat_le (length vs) 250) (fits p b && fits q b) f in
      let v = both_true (values_fit vs) (nat_le (length vs) 250) u.0 in
      let w = both_true (fits p b) (fits q b) u.1 in
      let d = max (nest p) (nest q) in (
        test_good b d vs (trees_of blocks p) (trees_of blocks q) v.0 (le_from (length vs) 250 v.1)
            (good_more b (nest p) d (omega arith) (trees_of blocks p) (hp b w.0)) (good_more b (nest q) d (omega arith) (trees_of blocks q) (hq b w.1)),
        tt,
      )

  one_loop : (b : Bool) (d : ℕ) (ts : List Tree) → AllGood true d ts → Good b (d + 1) (roll-Tree (Tree-F.Loop (gathered ts)))
  one_loop b d ts h =
      let g = gathered_good true d ts h in
      let y = Tree-F.Loop (gathered ts) in
      let e = ap (λ (x : Bodies). x.alone) (bodies_layer y) in
      let f = ap (λ (x : Bodies). x.as_else) (bodies_layer y) in
      let k = g.deep in
      record {
        allowed = ap (λ g. g b) (allowed_layer y) ∙ g.allowed;
        named = subst AllText (sym (uses_layer y)) g.named;
        deep = omega (arith, e, k);
        as_else = omega (arith, e, f);
      }

  break_good : (b : Bool) (d : ℕ) → IsTrue b → Good b d (roll-Tree Tree-F.Break)
  break_good b d h =
      let e = ap (λ (x : Bodies). x.alone) (bodies_layer Tree-F.Break) in
      let f = ap (λ (x : Bodies). x.as_else) (bodies_layer Tree-F.Break) in
      record {
        allowed = ap (λ g. g b) (allowed_layer Tree-F.Break) ∙ h;
        named = subst AllText (sym (uses_layer Tree-F.Break)) tt;
        deep = omega (arith, e);
        as_else = omega (arith, e, f);
      }

  put_good : (b : Bool) (d : ℕ) (a : Value) → IsTrue (value_fits a) → Good b d (sets a.name (to.Expr (built.num a.value)))
  put_good b d a h =
      let p = both_true (is_variable a.name) (is_word a.value) h in
      let w = num_good a.value p.1 in
      sets_good b d a.name (to.Expr (built.num a.value)) p.0 (fits_word (built.num a.value) w) w.named

  picks_good : (b : Bool) (d : ℕ) (w : Way) (u : Value) → IsTrue (way_fits w && value_fits u) → Good b d (sets w.name (picked_word u w.on_true w.on_false))
  picks_good b d w u h =
      let p = both_true (way_fits w) (value_fits u) h in
      let q = both_true (is_variable w.name) (is_word w.on_true && is_word w.on_false) p.0 in
      let r = both_true (is_word w.on_true) (is_word w.on_false) q.1 in
      let g = pick_good (built.cmp cmp.Eq (built.name u.name) (built.num u.value)) w.on_true w.on_false (is_good u p.1) r.0 r.1 in
      sets_good b d w.name (picked_word u w.on_true w.on_false) q.0 (fits_word (built.pick (built.cmp cmp.Eq (built.name u.name) (built.num u.value)) (built.num w.on_true) (built.num w.on_false)) g) g.named

  cases : PlanCases GoodPlan
  cases = record {
    block = λ n w. by_layer (Plan-F.Block n w) (λ b f. block_trees_good b 0 n w (slice_get blocks n) refl f);
    seq = λ ps h. by_layer (Plan-F.Seq ps) (all_good ps h);
    test = λ vs p q hp hq. by_layer (Plan-F.Test vs p q) (one_test vs p q hp hq);
    put = λ a. by_layer (Plan-F.Put a) (λ b f. (put_good b 0 a f, tt));
    pick = λ w u. by_layer (Plan-F.Pick w u) (λ b f. (picks_good b 0 w u f, tt));
    forget = λ gs. by_layer (Plan-F.Forget gs) (λ b f. tt);
    fade = λ v. by_layer (Plan-F.Fade v) (λ b f. tt);
    leave = by_layer Plan-F.Leave (λ b f. (break_good b 0 f, tt));
    loop = λ begins ends p h. by_layer (Plan-F.Loop begins ends p) (λ b f. (one_loop b (nest p) (trees_of blocks p) (h true f), tt));
  }

  plan_good : (p : Plan) → GoodPlan p
  plan_good p = every_plan cases p

pub plans_form : PlansForm
plans_form f p rule h l =
    let g = gathered_good false (nest p) (trees_of f.blocks p) (plan_good f.blocks rule p false h) in
    let k = g.deep in
    record {
      allowed = g.allowed;
      names = text_names (tree_uses (emitted f.blocks p)) g.named;
      depth = omega (arith, k, l);
    }
