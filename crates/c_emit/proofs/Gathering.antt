-- The locals that are gathered from a tree are those among its names.
use Rattle.std.proofs.Common.{map, ◌≡◌, ℕ, ◌-◌, ◌^◌, min, length, List, [], ◌∷◌, ◌++◌, Some, None, refl, sym, ap, ◌∙◌}
use Rattle.dream_words.specs.declared.machine.Name.{Name}
use Rattle.c_syntax.specs.declared.syntax.CExpr as e
use Rattle.c_syntax.specs.declared.syntax.CExpr.{CExpr, CExpr-F, roll-CExpr}
use Rattle.c_syntax.specs.declared.syntax.CCond as c
use Rattle.c_syntax.specs.declared.syntax.CCond.{CCond, CCond-F, roll-CCond}
use Rattle.c_syntax.proofs.Induct.{WordCases, every_word, every_cond}
use Rattle.cond_terms.specs.declared.term.Lit.{Lit}
use Rattle.cond_terms.specs.declared.term.Lit.TheVariants as lit
use Rattle.cond_terms.specs.declared.term.Term as term
use Rattle.cond_terms.specs.declared.term.Term.{Term, Term-F, roll-Term}
use Rattle.micro_ir.specs.declared.flow.Stmt.{Stmt}
use Rattle.micro_ir.specs.declared.flow.Stmt.TheVariants as stmt
use Rattle.micro_ir.specs.declared.flow.End.{End as BlockEnd}
use Rattle.micro_ir.specs.declared.flow.End.TheVariants as end
use Rattle.micro_ir.specs.declared.flow.Block.{Block}
use Rattle.guarded.specs.declared.tree.SetTo.{SetTo}
use Rattle.guarded.specs.declared.tree.SetTo.TheVariants as to
use Rattle.guarded.specs.declared.tree.Tree as tree
use Rattle.guarded.specs.declared.tree.Tree.{Tree, Tree-F, roll-Tree}
use Rattle.guarded.specs.declared.tree.TreeCase as case
use Rattle.guarded.specs.declared.tree.TreeCase.{TreeCase, TreeCase-F, roll-TreeCase}
use Rattle.guarded.specs.Uses.{Use, Reads, Sets, name_of, names_of, joined, word_uses, cond_uses, lit_uses, term_uses, stmt_uses, stmts_uses, end_uses, block_uses, to_uses, tree_uses, case_uses}
use Rattle.guarded.specs.Numbers.{Locals, no_locals, with_local, with_locals}
use Rattle.guarded.proofs.Induct.{Each, TermCases, every_term, TreeCases, every_tree}
use Rattle.guarded.proofs.Layers.{term_uses_layer, uses_layer, case_uses_layer}
use Rattle.c_emit.specs.Gathered.{Step, all_in, word_at, cond_at, with_word, with_cond, with_lit, term_at, with_term, with_stmt, with_stmts, with_end, with_block, with_to, tree_at, case_at, with_tree, with_case}
use Rattle.c_syntax.specs.declared.syntax.CStmt.{CStmt}
use Rattle.c_syntax.specs.declared.syntax.CFun.{CFun}
use Rattle.c_emit.specs.Emitted.{new_name, printed, emitted_with, emitted}
use Rattle.c_emit.proofs.Renaming.{word_uses_layer, cond_uses_layer}

-- the locals with those of uses
abbrev gathered : Locals → List Use → Locals
gathered l us = with_locals l (names_of us)

gathered_append : (l : Locals) (us vs : List Use) → gathered l (us ++ vs) ≡ gathered (gathered l us) vs
gathered_append l [] vs = refl
gathered_append l (u ∷ us) vs = gathered_append (with_local l (name_of u)) us vs

-- a step takes in just these uses
abbrev Takes : Step → List Use → Type 0
Takes g us = (l : Locals) → g l ≡ gathered l us

-- two steps, and three
two : (g h : Step) (us vs : List Use) → Takes g us → Takes h vs → Takes (λ l. h (g l)) (us ++ vs)
two g h us vs p q l = q (g l) ∙ ap (λ m. gathered m vs) (p l) ∙ sym (gathered_append l us vs)

three : (g h k : Step) (us vs ws : List Use) → Takes g us → Takes h vs → Takes k ws → Takes (λ l. k (h (g l))) (us ++ (vs ++ ws))
three g h k us vs ws p q r l = two h k vs ws q r (g l) ∙ ap (λ m. gathered m (vs ++ ws)) (p l) ∙ sym (gathered_append l us (vs ++ ws))

-- ---- Words and Conds

abbrev TakesWord : CExpr → Type 0
TakesWord a = Takes (with_word a) (word_uses a)

abbrev TakesCond : CCond → Type 0
TakesCond t = Takes (with_cond t) (cond_uses t)

word_case : (y : CExpr-F CCond CExpr) (us : List Use) → word_uses (roll-CExpr y) ≡ us → Takes (word_at (e.map-CExpr CCond CExpr Step Step with_cond with_word y)) us → TakesWord (roll-CExpr y)
word_case y us u k l = ap (λ g. g l) (e.fold-roll-CExpr Step Step cond_at word_at y) ∙ k l ∙ sym (ap (gathered l) u)

cond_case : (y : CCond-F CCond CExpr) (us : List Use) → cond_uses (roll-CCond y) ≡ us → Takes (cond_at (c.map-CCond CCond CExpr Step Step with_cond with_word y)) us → TakesCond (roll-CCond y)
cond_case y us u k l = ap (λ g. g l) (c.fold-roll-CCond Step Step cond_at word_at y) ∙ k l ∙ sym (ap (gathered l) u)

word_cases : WordCases TakesWord TakesCond
word_cases = record {
  num = λ n. word_case (CExpr-F.Num n) [] (word_uses_layer (CExpr-F.Num n)) (λ l. refl);
  name = λ n. word_case (CExpr-F.Name n) (Reads n ∷ []) (word_uses_layer (CExpr-F.Name n)) (λ l. refl);
  not_word = λ a ha. word_case (CExpr-F.«CExpr::Not» a) _ (word_uses_layer (CExpr-F.«CExpr::Not» a)) ha;
  bin = λ op a b ha hb. word_case (CExpr-F.Bin op a b) _ (word_uses_layer (CExpr-F.Bin op a b)) (two (with_word a) (with_word b) (word_uses a) (word_uses b) ha hb);
  fn1 = λ g a ha. word_case (CExpr-F.Fn1 g a) _ (word_uses_layer (CExpr-F.Fn1 g a)) ha;
  fn2 = λ g a b ha hb. word_case (CExpr-F.Fn2 g a b) _ (word_uses_layer (CExpr-F.Fn2 g a b)) (two (with_word a) (with_word b) (word_uses a) (word_uses b) ha hb);
  fn3 = λ g a b d ha hb hd. word_case (CExpr-F.Fn3 g a b d) _ (word_uses_layer (CExpr-F.Fn3 g a b d)) (three (with_word a) (with_word b) (with_word d) (word_uses a) (word_uses b) (word_uses d) ha hb hd);
  pick = λ t a b ht ha hb. word_case (CExpr-F.Pick t a b) _ (word_uses_layer (CExpr-F.Pick t a b)) (three (with_cond t) (with_word a) (with_word b) (cond_uses t) (word_uses a) (word_uses b) ht ha hb);
  cmp = λ op a b ha hb. cond_case (CCond-F.Cmp op a b) _ (cond_uses_layer (CCond-F.Cmp op a b)) (two (with_word a) (with_word b) (word_uses a) (word_uses b) ha hb);
  not_cond = λ t ht. cond_case (CCond-F.«CCond::Not» t) _ (cond_uses_layer (CCond-F.«CCond::Not» t)) ht;
  both = λ t u ht hu. cond_case (CCond-F.And t u) _ (cond_uses_layer (CCond-F.And t u)) (two (with_cond t) (with_cond u) (cond_uses t) (cond_uses u) ht hu);
  either = λ t u ht hu. cond_case (CCond-F.Or t u) _ (cond_uses_layer (CCond-F.Or t u)) (two (with_cond t) (with_cond u) (cond_uses t) (cond_uses u) ht hu);
}

word_takes : (a : CExpr) → Takes (with_word a) (word_uses a)
word_takes a = every_word word_cases a

cond_takes : (t : CCond) → Takes (with_cond t) (cond_uses t)
cond_takes t = every_cond word_cases t

-- ---- terms

lit_takes : (t : Lit) → Takes (with_lit t) (lit_uses t)
lit_takes (lit.Bool v) l = refl
lit_takes (lit.Eq v x) l = refl

abbrev TakesTerm : Term → Type 0
TakesTerm t = Takes (with_term t) (term_uses t)

term_case : (y : Term-F Term) (us : List Use) → term_uses (roll-Term y) ≡ us → Takes (term_at (term.map-Term Term Step with_term y)) us → TakesTerm (roll-Term y)
term_case y us u k l = ap (λ g. g l) (term.fold-roll-Term Step term_at y) ∙ k l ∙ sym (ap (gathered l) u)

term_cases : TermCases TakesTerm
term_cases = record {
  always = term_case Term-F.True [] (term_uses_layer Term-F.True) (λ l. refl);
  never = term_case Term-F.False [] (term_uses_layer Term-F.False) (λ l. refl);
  lit = λ t. term_case (Term-F.Lit t) _ (term_uses_layer (Term-F.Lit t)) (lit_takes t);
  not = λ t ht. term_case (Term-F.Not t) _ (term_uses_layer (Term-F.Not t)) ht;
  both = λ s t hs ht. term_case (Term-F.And s t) _ (term_uses_layer (Term-F.And s t)) (two (with_term s) (with_term t) (term_uses s) (term_uses t) hs ht);
  either = λ s t hs ht. term_case (Term-F.Or s t) _ (term_uses_layer (Term-F.Or s t)) (two (with_term s) (with_term t) (term_uses s) (term_uses t) hs ht);
}

term_takes : (t : Term) → Takes (with_term t) (term_uses t)
term_takes t = every_term term_cases t

-- ---- blocks

local_takes : (n : Name) (u : Use) → name_of u ≡ n → Takes (λ l. with_local l n) (u ∷ [])
local_takes n u e l = sym (ap (with_local l) e)

stmt_takes : (s : Stmt) → Takes (with_stmt s) (stmt_uses s)
stmt_takes (stmt.Set n e) = two (with_word e) (λ l. with_local l n) (word_uses e) (Sets n ∷ []) (word_takes e) (local_takes n (Sets n) refl)
stmt_takes (stmt.Load n width e) = two (with_word e) (λ l. with_local l n) (word_uses e) (Sets n ∷ []) (word_takes e) (local_takes n (Sets n) refl)
stmt_takes (stmt.Store width e f) = two (with_word e) (with_word f) (word_uses e) (word_uses f) (word_takes e) (word_takes f)
stmt_takes (stmt.Ext e) = word_takes e
stmt_takes (stmt.Trap vector e) = word_takes e

stmts_take : (ss : List Stmt) → Takes (with_stmts ss) (stmts_uses ss)
stmts_take [] l = refl
stmts_take (s ∷ ss) l = two (with_stmt s) (with_stmts ss) (stmt_uses s) (stmts_uses ss) (stmt_takes s) (stmts_take ss) l

end_takes : (e : BlockEnd) → Takes (with_end e) (end_uses e)
end_takes (end.Go a) l = refl
end_takes (end.Branch t a b) l = refl
end_takes (end.Switch e cases) l = refl
end_takes end.Return l = refl
end_takes (end.Leave e) l = word_takes e l

block_takes : (b : Block) → Takes (with_block b) (block_uses b)
block_takes b = two (with_stmts b.stmts) (with_end b.end) (stmts_uses b.stmts) (end_uses b.end) (stmts_take b.stmts) (end_takes b.end)

to_takes : (t : SetTo) → Takes (with_to t) (to_uses t)
to_takes (to.Expr e) = word_takes e
to_takes (to.Cond c) = cond_takes c
to_takes (to.Term t) = term_takes t

-- ---- trees

abbrev TakesTree : Tree → Type 0
TakesTree t = Takes (with_tree t) (tree_uses t)

abbrev TakesCase : TreeCase → Type 0
TakesCase c = Takes (with_case c) (case_uses c)

tree_case : (y : Tree-F Tree TreeCase) (us : List Use) → tree_uses (roll-Tree y) ≡ us → Takes (tree_at (tree.map-Tree Tree TreeCase Step Step with_tree with_case y)) us → TakesTree (roll-Tree y)
tree_case y us u k l = ap (λ g. g l) (tree.fold-roll-Tree Step Step tree_at case_at y) ∙ k l ∙ sym (ap (gathered l) u)

members_take : (ts : List Tree) → Each TakesTree ts → Takes (all_in (map with_tree ts)) (joined (map tree_uses ts))
members_take [] h l = refl
members_take (t ∷ ts) h l = two (with_tree t) (all_in (map with_tree ts)) (tree_uses t) (joined (map tree_uses ts)) h.0 (members_take ts h.1) l

cases_take : (cs : List TreeCase) → Each TakesCase cs → Takes (all_in (map with_case cs)) (joined (map case_uses cs))
cases_take [] h l = refl
cases_take (c ∷ cs) h l = two (with_case c) (all_in (map with_case cs)) (case_uses c) (joined (map case_uses cs)) h.0 (cases_take cs h.1) l

cases : TreeCases TakesTree TakesCase
cases = record {
  block = λ b. tree_case (Tree-F.Block b) _ (uses_layer (Tree-F.Block b)) (block_takes b);
  seq = λ ts h. tree_case (Tree-F.Seq ts) _ (uses_layer (Tree-F.Seq ts)) (members_take ts h);
  if_none = λ t a ha. tree_case (Tree-F.If t a None) _ (uses_layer (Tree-F.If t a None)) (three (with_term t) (with_tree a) (λ l. l) (term_uses t) (tree_uses a) [] (term_takes t) ha (λ l. refl));
  if_some = λ t a b ha hb. tree_case (Tree-F.If t a (Some b)) _ (uses_layer (Tree-F.If t a (Some b))) (three (with_term t) (with_tree a) (with_tree b) (term_uses t) (tree_uses a) (tree_uses b) (term_takes t) ha hb);
  switch = λ n cs last hc hl. tree_case (Tree-F.Switch n cs last) _ (uses_layer (Tree-F.Switch n cs last))
      (λ l. two (all_in (map with_case cs)) (with_tree last) (joined (map case_uses cs)) (tree_uses last) (cases_take cs hc) hl (with_local l n));
  loop = λ a ha. tree_case (Tree-F.Loop a) _ (uses_layer (Tree-F.Loop a)) ha;
  while = λ t a ha. tree_case (Tree-F.While t a) _ (uses_layer (Tree-F.While t a)) (two (with_term t) (with_tree a) (term_uses t) (tree_uses a) (term_takes t) ha);
  do_while = λ a t ha. tree_case (Tree-F.DoWhile a t) _ (uses_layer (Tree-F.DoWhile a t)) (two (with_tree a) (with_term t) (tree_uses a) (term_uses t) ha (term_takes t));
  break = tree_case Tree-F.Break [] (uses_layer Tree-F.Break) (λ l. refl);
  set = λ n to. tree_case (Tree-F.Set n to) _ (uses_layer (Tree-F.Set n to)) (two (with_to to) (λ l. with_local l n) (to_uses to) (Sets n ∷ []) (to_takes to) (local_takes n (Sets n) refl));
  case_of = λ values body hb l.
      let y : TreeCase-F Tree TreeCase = record { values = values; body = body } in
      ap (λ g. g l) (case.fold-roll-TreeCase Step Step tree_at case_at y) ∙ hb l ∙ sym (ap (gathered l) (case_uses_layer y));
}

-- what is gathered from a tree
pub tree_takes : (t : Tree) (l : Locals) → with_tree t l ≡ with_locals l (names_of (tree_uses t))
tree_takes t = every_tree cases t

-- a function with these parts
abbrev function_of : ℕ → ℕ → ℕ → ℕ → List CStmt → CFun
function_of address a b s body = record { address = address; temps = a; bools = b; selectors = s; body = body }

-- the function that is made of the gathered locals is that of the tree
pub emitted_by : (t : Tree) (address : ℕ) (l : Locals) (a b s : ℕ) (body : List CStmt) → l ≡ with_tree t no_locals → a ≡ min (length l.temps) (2 ^ 32 - 1)
    → b ≡ min (length l.bools) (2 ^ 32 - 1) → s ≡ min (length l.selectors) (2 ^ 32 - 1) → body ≡ (printed (new_name l) t).stmts → function_of address a b s body ≡ emitted t address
emitted_by t address l a b s body e pa pb ps pbody =
    ap (λ (x : ℕ). function_of address x b s body) pa
    ∙ ap (λ (x : ℕ). function_of address (min (length l.temps) (2 ^ 32 - 1)) x s body) pb
    ∙ ap (λ (x : ℕ). function_of address (min (length l.temps) (2 ^ 32 - 1)) (min (length l.bools) (2 ^ 32 - 1)) x body) ps
    ∙ ap (λ (x : List CStmt). function_of address (min (length l.temps) (2 ^ 32 - 1)) (min (length l.bools) (2 ^ 32 - 1)) (min (length l.selectors) (2 ^ 32 - 1)) x) pbody
    ∙ ap (λ (m : Locals). emitted_with m t address) (e ∙ tree_takes t no_locals)
