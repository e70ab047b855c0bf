-- The function of a tree reads and sets the names of the tree, renamed, place by place.
use Rattle.std.proofs.Common.{map, ◌≡◌, ℕ, List, [], ◌∷◌, ◌++◌, Option, Some, None, refl, sym, ap, ◌∙◌, subst, append_assoc, append-nil}
use Rattle.dream_words.specs.declared.machine.Name.{Name}
use Rattle.dream_words.specs.declared.machine.Name.TheVariants as name
use Rattle.c_syntax.specs.declared.syntax.CBin.TheVariants.{Shl}
use Rattle.c_syntax.specs.declared.syntax.CCmp.{CCmp}
use Rattle.c_syntax.specs.declared.syntax.CCmp.TheVariants.{Eq, Ne}
use Rattle.c_syntax.specs.declared.syntax.CExpr.{CExpr, CExpr-F, roll-CExpr}
use Rattle.c_syntax.specs.declared.syntax.CCond.{CCond, CCond-F, roll-CCond}
use Rattle.c_syntax.specs.declared.syntax.CStmt as st
use Rattle.c_syntax.specs.declared.syntax.CStmt.{CStmt, CStmt-F, roll-CStmt}
use Rattle.c_syntax.specs.declared.syntax.CArm as arm
use Rattle.c_syntax.specs.declared.syntax.CArm.{CArm, CArm-F, roll-CArm}
use Rattle.c_syntax.specs.declared.syntax.CGroup as group
use Rattle.c_syntax.specs.declared.syntax.CGroup.{CGroup, CGroup-F, roll-CGroup}
use Rattle.c_syntax.proofs.Induct.{WordCases, every_word, every_cond}
use Rattle.c_words.specs.Built as built
use Rattle.cond_terms.specs.declared.term.Lit.{Lit}
use Rattle.cond_terms.specs.declared.term.Lit.TheVariants as lit
use Rattle.cond_terms.specs.declared.term.Term.{Term, Term-F, roll-Term}
use Rattle.micro_ir.specs.declared.flow.Stmt.{Stmt}
use Rattle.micro_ir.specs.declared.flow.Stmt.TheVariants as stmt
use Rattle.micro_ir.specs.declared.flow.End.{End as BlockEnd}
use Rattle.micro_ir.specs.declared.flow.End.TheVariants as end
use Rattle.micro_ir.specs.declared.flow.Block.{Block}
use Rattle.guarded.specs.declared.tree.SetTo.{SetTo}
use Rattle.guarded.specs.declared.tree.SetTo.TheVariants as to
use Rattle.guarded.specs.declared.tree.Tree as tree
use Rattle.guarded.specs.declared.tree.Tree.{Tree, Tree-F, roll-Tree}
use Rattle.guarded.specs.declared.tree.TreeCase.{TreeCase, TreeCase-F}
use Rattle.guarded.specs.Uses.{Use, Reads, Sets, joined, word_uses, cond_uses, lit_uses, term_uses, stmt_uses, stmts_uses, end_uses, block_uses, to_uses, tree_uses_at, tree_uses, case_uses, c_stmt_uses_at, c_arm_uses_at, c_group_uses_at, c_stmt_uses, c_arm_uses, c_group_uses, c_uses}
use Rattle.guarded.proofs.Induct.{Each, TermCases, every_term, TreeCases, every_tree}
use Rattle.guarded.proofs.Layers.{term_uses_layer, uses_layer, case_uses_layer}
use Rattle.c_emit.specs.Emitted.{renamed_word, renamed_cond, term_cond, lit_cond, always_cond, never_cond, word_to, stuck_stmt, stmt_of, end_stmts, block_stmts, Chain, Printed, goes_on, if_chain, if_printed, arm_of, all_stmts, printed_at, printed, case_printed}
use Rattle.c_emit.specs.Laws.{renamed_use}
use Rattle.c_emit.proofs.Renaming.{ap2, word_uses_layer, cond_uses_layer, renamed_word_layer, renamed_cond_layer, term_cond_layer}
use Rattle.c_emit.proofs.TreeRuns.{printed_layer, case_printed_layer}

pub map_append : {A B : Type 0} (g : A → B) (xs ys : List A) → map g (xs ++ ys) ≡ map g xs ++ map g ys
map_append g [] ys = refl
map_append g (x ∷ xs) ys = ap (λ zs. g x ∷ zs) (map_append g xs ys)

-- ---- layers of C

stmt_layer : (y : CStmt-F CStmt CArm CGroup) → c_stmt_uses (roll-CStmt y) ≡ c_stmt_uses_at (st.map-CStmt CStmt CArm CGroup (List Use) (List Use) (List Use) c_stmt_uses c_arm_uses c_group_uses y)
stmt_layer y = st.fold-roll-CStmt (List Use) (List Use) (List Use) c_stmt_uses_at c_arm_uses_at c_group_uses_at y

arm_layer : (y : CArm-F CStmt CArm CGroup) → c_arm_uses (roll-CArm y) ≡ c_arm_uses_at (arm.map-CArm CStmt CArm CGroup (List Use) (List Use) (List Use) c_stmt_uses c_arm_uses c_group_uses y)
arm_layer y = arm.fold-roll-CArm (List Use) (List Use) (List Use) c_stmt_uses_at c_arm_uses_at c_group_uses_at y

group_layer : (y : CGroup-F CStmt CArm CGroup) → c_group_uses (roll-CGroup y) ≡ c_group_uses_at (group.map-CGroup CStmt CArm CGroup (List Use) (List Use) (List Use) c_stmt_uses c_arm_uses c_group_uses y)
group_layer y = group.fold-roll-CGroup (List Use) (List Use) (List Use) c_stmt_uses_at c_arm_uses_at c_group_uses_at y

uses_append : (xs ys : List CStmt) → c_uses (xs ++ ys) ≡ c_uses xs ++ c_uses ys
uses_append [] ys = refl
uses_append (x ∷ xs) ys = ap (λ us. c_stmt_uses x ++ us) (uses_append xs ys) ∙ sym (append_assoc (c_stmt_uses x) (c_uses xs) (c_uses ys))

uses_joined : (ss : List CStmt) → joined (map c_stmt_uses ss) ≡ c_uses ss
uses_joined [] = refl
uses_joined (s ∷ ss) = ap (λ us. c_stmt_uses s ++ us) (uses_joined ss)

one_uses : (s : CStmt) (us : List Use) → c_stmt_uses s ≡ us → c_uses (s ∷ []) ≡ us
one_uses s us e = append-nil (c_stmt_uses s) ∙ e

-- ---- ifs

abbrev last_uses : Option (List CStmt) → List Use
last_uses None = []
last_uses (Some ss) = c_uses ss

abbrev chain_uses : Chain → List Use
chain_uses c = joined (map c_arm_uses c.arms) ++ last_uses c.last

if_uses : (arms : List CArm) (last : Option (List CStmt)) → c_stmt_uses (roll-CStmt (CStmt-F.If arms last)) ≡ joined (map c_arm_uses arms) ++ last_uses last
if_uses arms None = stmt_layer (CStmt-F.If arms None) ∙ sym (append-nil (joined (map c_arm_uses arms)))
if_uses arms (Some ss) = stmt_layer (CStmt-F.If arms (Some ss)) ∙ ap (λ us. joined (map c_arm_uses arms) ++ us) (uses_joined ss)

arm_uses : (t : CCond) (body : List CStmt) → c_arm_uses (arm_of t body) ≡ cond_uses t ++ c_uses body
arm_uses t body = arm_layer (record { test = t; body = body }) ∙ ap (λ us. cond_uses t ++ us) (uses_joined body)

module _ (f : Name → Name) where
  abbrev pub moved : List Use → List Use
  moved us = map (renamed_use f) us

  -- two and three parts
  pub two : (us vs us' vs' : List Use) → us ≡ moved us' → vs ≡ moved vs' → us ++ vs ≡ moved (us' ++ vs')
  two us vs us' vs' p q = ap2 (λ (x y : List Use). x ++ y) us (moved us') vs (moved vs') p q ∙ sym (map_append (renamed_use f) us' vs')

  -- ---- Words and Conds

  abbrev MovesWord : CExpr → Type 0
  MovesWord a = word_uses (renamed_word f a) ≡ moved (word_uses a)

  abbrev MovesCond : CCond → Type 0
  MovesCond t = cond_uses (renamed_cond f t) ≡ moved (cond_uses t)

  -- a Word y whose renamed Word is z
  word_case : (y z : CExpr-F CCond CExpr) (us vs : List Use) → renamed_word f (roll-CExpr y) ≡ roll-CExpr z → word_uses (roll-CExpr z) ≡ us → word_uses (roll-CExpr y) ≡ vs → us ≡ moved vs → MovesWord (roll-CExpr y)
  word_case y z us vs r a b g = ap word_uses r ∙ a ∙ g ∙ sym (ap moved b)

  cond_case : (y z : CCond-F CCond CExpr) (us vs : List Use) → renamed_cond f (roll-CCond y) ≡ roll-CCond z → cond_uses (roll-CCond z) ≡ us → cond_uses (roll-CCond y) ≡ vs → us ≡ moved vs → MovesCond (roll-CCond y)
  cond_case y z us vs r a b g = ap cond_uses r ∙ a ∙ g ∙ sym (ap moved b)

  word_cases : WordCases MovesWord MovesCond
  word_cases = record {
    num = λ n. let y : CExpr-F CCond CExpr = CExpr-F.Num n in word_case y y _ _ (renamed_word_layer f y) (word_uses_layer y) (word_uses_layer y) refl;
    name = λ n. let y : CExpr-F CCond CExpr = CExpr-F.Name n in let z : CExpr-F CCond CExpr = CExpr-F.Name (f n) in
        word_case y z _ _ (renamed_word_layer f y) (word_uses_layer z) (word_uses_layer y) refl;
    not_word = λ a ha. let y : CExpr-F CCond CExpr = CExpr-F.«CExpr::Not» a in let z : CExpr-F CCond CExpr = CExpr-F.«CExpr::Not» (renamed_word f a) in
        word_case y z _ _ (renamed_word_layer f y) (word_uses_layer z) (word_uses_layer y) ha;
    bin = λ op a b ha hb. let y : CExpr-F CCond CExpr = CExpr-F.Bin op a b in let z : CExpr-F CCond CExpr = CExpr-F.Bin op (renamed_word f a) (renamed_word f b) in
        word_case y z _ _ (renamed_word_layer f y) (word_uses_layer z) (word_uses_layer y) (two _ _ _ _ ha hb);
    fn1 = λ g a ha. let y : CExpr-F CCond CExpr = CExpr-F.Fn1 g a in let z : CExpr-F CCond CExpr = CExpr-F.Fn1 g (renamed_word f a) in
        word_case y z _ _ (renamed_word_layer f y) (word_uses_layer z) (word_uses_layer y) ha;
    fn2 = λ g a b ha hb. let y : CExpr-F CCond CExpr = CExpr-F.Fn2 g a b in let z : CExpr-F CCond CExpr = CExpr-F.Fn2 g (renamed_word f a) (renamed_word f b) in
        word_case y z _ _ (renamed_word_layer f y) (word_uses_layer z) (word_uses_layer y) (two _ _ _ _ ha hb);
    fn3 = λ g a b d ha hb hd. let y : CExpr-F CCond CExpr = CExpr-F.Fn3 g a b d in let z : CExpr-F CCond CExpr = CExpr-F.Fn3 g (renamed_word f a) (renamed_word f b) (renamed_word f d) in
        word_case y z _ _ (renamed_word_layer f y) (word_uses_layer z) (word_uses_layer y) (two _ _ _ (word_uses b ++ word_uses d) ha (two _ _ _ _ hb hd));
    pick = λ t a b ht ha hb. let y : CExpr-F CCond CExpr = CExpr-F.Pick t a b in let z : CExpr-F CCond CExpr = CExpr-F.Pick (renamed_cond f t) (renamed_word f a) (renamed_word f b) in
        word_case y z _ _ (renamed_word_layer f y) (word_uses_layer z) (word_uses_layer y) (two _ _ _ (word_uses a ++ word_uses b) ht (two _ _ _ _ ha hb));
    cmp = λ op a b ha hb. let y : CCond-F CCond CExpr = CCond-F.Cmp op a b in let z : CCond-F CCond CExpr = CCond-F.Cmp op (renamed_word f a) (renamed_word f b) in
        cond_case y z _ _ (renamed_cond_layer f y) (cond_uses_layer z) (cond_uses_layer y) (two _ _ _ _ ha hb);
    not_cond = λ t ht. let y : CCond-F CCond CExpr = CCond-F.«CCond::Not» t in let z : CCond-F CCond CExpr = CCond-F.«CCond::Not» (renamed_cond f t) in
        cond_case y z _ _ (renamed_cond_layer f y) (cond_uses_layer z) (cond_uses_layer y) ht;
    both = λ t u ht hu. let y : CCond-F CCond CExpr = CCond-F.And t u in let z : CCond-F CCond CExpr = CCond-F.And (renamed_cond f t) (renamed_cond f u) in
        cond_case y z _ _ (renamed_cond_layer f y) (cond_uses_layer z) (cond_uses_layer y) (two _ _ _ _ ht hu);
    either = λ t u ht hu. let y : CCond-F CCond CExpr = CCond-F.Or t u in let z : CCond-F CCond CExpr = CCond-F.Or (renamed_cond f t) (renamed_cond f u) in
        cond_case y z _ _ (renamed_cond_layer f y) (cond_uses_layer z) (cond_uses_layer y) (two _ _ _ _ ht hu);
  }

  pub word_moved : (a : CExpr) → word_uses (renamed_word f a) ≡ moved (word_uses a)
  word_moved a = every_word word_cases a

  pub cond_moved : (t : CCond) → cond_uses (renamed_cond f t) ≡ moved (cond_uses t)
  cond_moved t = every_cond word_cases t

  -- ---- terms

  num_uses : (n : ℕ) → word_uses (built.num n) ≡ []
  num_uses n = word_uses_layer (CExpr-F.Num n)

  name_uses : (n : Name) → word_uses (built.name n) ≡ Reads n ∷ []
  name_uses n = word_uses_layer (CExpr-F.Name n)

  -- a comparison
  compared_uses : (op : CCmp) (a b : CExpr) (us vs : List Use) → word_uses a ≡ us → word_uses b ≡ vs → cond_uses (built.cmp op a b) ≡ us ++ vs
  compared_uses op a b us vs p q = cond_uses_layer (CCond-F.Cmp op a b) ∙ ap2 (λ (x y : List Use). x ++ y) _ _ _ _ p q

  zeros_uses : (op : CCmp) → cond_uses (built.or (built.cmp op (built.num 0) (built.num 0)) (built.cmp op (built.num 0) (built.num 0))) ≡ []
  zeros_uses op =
      let z = compared_uses op (built.num 0) (built.num 0) [] [] (num_uses 0) (num_uses 0) in
      cond_uses_layer (CCond-F.Or (built.cmp op (built.num 0) (built.num 0)) (built.cmp op (built.num 0) (built.num 0)))
      ∙ ap2 (λ (x y : List Use). x ++ y) _ [] _ [] z z

  lit_moved : (l : Lit) → cond_uses (lit_cond f l) ≡ moved (lit_uses l)
  lit_moved (lit.Bool x) = compared_uses Ne (built.name (f (name.B x))) (built.num 0) (Reads (f (name.B x)) ∷ []) [] (name_uses (f (name.B x))) (num_uses 0)
  lit_moved (lit.Eq x n) = compared_uses Eq (built.name (f (name.B x))) (built.num n) (Reads (f (name.B x)) ∷ []) [] (name_uses (f (name.B x))) (num_uses n)

  abbrev MovesTerm : Term → Type 0
  MovesTerm t = cond_uses (term_cond f t) ≡ moved (term_uses t)

  term_case : (y : Term-F Term) (z : CCond) (us vs : List Use) → term_cond f (roll-Term y) ≡ z → cond_uses z ≡ us → term_uses (roll-Term y) ≡ vs → us ≡ moved vs → MovesTerm (roll-Term y)
  term_case y z us vs r a b g = ap cond_uses r ∙ a ∙ g ∙ sym (ap moved b)

  term_cases : TermCases MovesTerm
  term_cases = record {
    always = term_case Term-F.True always_cond [] [] (term_cond_layer f Term-F.True) (zeros_uses Eq) (term_uses_layer Term-F.True) refl;
    never = term_case Term-F.False never_cond [] [] (term_cond_layer f Term-F.False) (zeros_uses Ne) (term_uses_layer Term-F.False) refl;
    lit = λ l. term_case (Term-F.Lit l) (lit_cond f l) _ _ (term_cond_layer f (Term-F.Lit l)) refl (term_uses_layer (Term-F.Lit l)) (lit_moved l);
    not = λ t ht. term_case (Term-F.Not t) (built.cond_not (term_cond f t)) _ _ (term_cond_layer f (Term-F.Not t)) (cond_uses_layer (CCond-F.«CCond::Not» (term_cond f t))) (term_uses_layer (Term-F.Not t)) ht;
    both = λ s t hs ht. term_case (Term-F.And s t) (built.and (term_cond f s) (term_cond f t)) _ _ (term_cond_layer f (Term-F.And s t))
        (cond_uses_layer (CCond-F.And (term_cond f s) (term_cond f t))) (term_uses_layer (Term-F.And s t)) (two _ _ _ _ hs ht);
    either = λ s t hs ht. term_case (Term-F.Or s t) (built.or (term_cond f s) (term_cond f t)) _ _ (term_cond_layer f (Term-F.Or s t))
        (cond_uses_layer (CCond-F.Or (term_cond f s) (term_cond f t))) (term_uses_layer (Term-F.Or s t)) (two _ _ _ _ hs ht);
  }

  pub term_moved : (t : Term) → cond_uses (term_cond f t) ≡ moved (term_uses t)
  term_moved t = every_term term_cases t

  -- a Cond as a Word
  word_if_uses : (t : CCond) → word_uses (built.word_if t) ≡ cond_uses t
  word_if_uses t =
      word_uses_layer (CExpr-F.Pick t (built.num 1) (built.num 0))
      ∙ ap2 (λ (x y : List Use). cond_uses t ++ (x ++ y)) _ [] _ [] (num_uses 1) (num_uses 0)
      ∙ append-nil (cond_uses t)

  to_moved : (t : SetTo) → word_uses (word_to f t) ≡ moved (to_uses t)
  to_moved (to.Expr e) = word_moved e
  to_moved (to.Cond c) = word_if_uses (renamed_cond f c) ∙ cond_moved c
  to_moved (to.Term t) = word_if_uses (term_cond f t) ∙ term_moved t

  -- ---- blocks

  stmt_moved : (s : Stmt) → c_stmt_uses (stmt_of f s) ≡ moved (stmt_uses s)
  stmt_moved (stmt.Set n e) = stmt_layer (CStmt-F.Set (f n) (renamed_word f e)) ∙ two _ _ _ (Sets n ∷ []) (word_moved e) refl
  stmt_moved (stmt.Load n width e) = stmt_layer (CStmt-F.Load (f n) width (renamed_word f e)) ∙ two _ _ _ (Sets n ∷ []) (word_moved e) refl
  stmt_moved (stmt.Store width e v) = stmt_layer (CStmt-F.Store width (renamed_word f e) (renamed_word f v)) ∙ two _ _ _ _ (word_moved e) (word_moved v)
  stmt_moved (stmt.Ext e) = stmt_layer (CStmt-F.Ext (renamed_word f e)) ∙ word_moved e
  stmt_moved (stmt.Trap vector e) = stmt_layer (CStmt-F.Trap vector (renamed_word f e)) ∙ word_moved e

  stmts_moved : (ss : List Stmt) → c_uses (map (stmt_of f) ss) ≡ moved (stmts_uses ss)
  stmts_moved [] = refl
  stmts_moved (s ∷ ss) = two _ _ _ _ (stmt_moved s) (stmts_moved ss)

  stuck_moved : c_uses (stuck_stmt ∷ []) ≡ []
  stuck_moved = one_uses stuck_stmt []
      (stmt_layer (CStmt-F.Trap 0 (built.bin Shl (built.num 0) (built.num 32)))
      ∙ word_uses_layer (CExpr-F.Bin Shl (built.num 0) (built.num 32)) ∙ ap2 (λ (x y : List Use). x ++ y) _ [] _ [] (num_uses 0) (num_uses 32))

  return_uses : c_uses (roll-CStmt CStmt-F.Return ∷ []) ≡ []
  return_uses = one_uses (roll-CStmt CStmt-F.Return) [] (stmt_layer CStmt-F.Return)

  end_moved : (e : BlockEnd) → c_uses (end_stmts f e) ≡ moved (end_uses e)
  end_moved (end.Go a) = refl
  end_moved (end.Branch t a b) = stuck_moved
  end_moved (end.Switch e cases) = stuck_moved
  end_moved end.Return = return_uses
  end_moved (end.Leave e) =
      ap2 (λ (x y : List Use). x ++ y) _ _ _ [] (stmt_layer (CStmt-F.Ext (renamed_word f e)) ∙ word_moved e) return_uses ∙ append-nil (moved (word_uses e))

  block_moved : (b : Block) → c_uses (block_stmts f b) ≡ moved (block_uses b)
  block_moved b = uses_append (map (stmt_of f) b.stmts) (end_stmts f b.end) ∙ two _ _ _ _ (stmts_moved b.stmts) (end_moved b.end)

  -- ---- trees

  abbrev Moved : Printed → List Use → Type 0
  Moved p us = (c_uses p.stmts ≡ moved us) × (chain_uses (goes_on p.chain p.stmts) ≡ moved us)

  abbrev IsMoved : Tree → Type 0
  IsMoved t = Moved (printed f t) (tree_uses t)

  abbrev IsMovedCase : TreeCase → Type 0
  IsMovedCase c = c_group_uses (case_printed f c) ≡ moved (case_uses c)

  by_layer : (y : Tree-F Tree TreeCase)
      → Moved (printed_at f (tree.map-Tree Tree TreeCase Printed CGroup (printed f) (case_printed f) y)) (tree_uses_at (tree.map-Tree Tree TreeCase (List Use) (List Use) tree_uses case_uses y))
      → IsMoved (roll-Tree y)
  by_layer y k =
      subst (λ (p : Printed). Moved p (tree_uses (roll-Tree y))) (sym (printed_layer f y))
      (subst (Moved (printed_at f (tree.map-Tree Tree TreeCase Printed CGroup (printed f) (case_printed f) y))) (sym (uses_layer y)) k)

  plainly_moved : (ss : List CStmt) (us : List Use) → c_uses ss ≡ moved us → Moved (record { stmts = ss; chain = None }) us
  plainly_moved ss us e = (e, e)

  one_moved : (s : CStmt) (us : List Use) → c_stmt_uses s ≡ moved us → Moved (record { stmts = s ∷ []; chain = None }) us
  one_moved s us e = plainly_moved (s ∷ []) us (one_uses s (moved us) e)

  if_moved : (t : Term) (body : List CStmt) (rest : Chain) (us vs : List Use) → c_uses body ≡ moved us → chain_uses rest ≡ moved vs
      → Moved (if_printed (if_chain (term_cond f t) body rest)) (term_uses t ++ (us ++ vs))
  if_moved t body rest us vs p q =
      let e : chain_uses (if_chain (term_cond f t) body rest) ≡ moved (term_uses t ++ (us ++ vs)) =
      append_assoc (c_arm_uses (arm_of (term_cond f t) body)) (joined (map c_arm_uses rest.arms)) (last_uses rest.last)
      ∙ ap (λ ws. ws ++ chain_uses rest) (arm_uses (term_cond f t) body)
      ∙ append_assoc (cond_uses (term_cond f t)) (c_uses body) (chain_uses rest)
      ∙ two _ _ _ (us ++ vs) (term_moved t) (two _ _ _ _ p q) in
      (one_uses _ _ (if_uses (if_chain (term_cond f t) body rest).arms (if_chain (term_cond f t) body rest).last ∙ e), e)

  members_moved : (ts : List Tree) → Each IsMoved ts → c_uses (all_stmts (map (printed f) ts)) ≡ moved (joined (map tree_uses ts))
  members_moved [] h = refl
  members_moved (t ∷ ts) h = uses_append (printed f t).stmts (all_stmts (map (printed f) ts)) ∙ two _ _ _ _ h.0.0 (members_moved ts h.1)

  cases_moved : (cs : List TreeCase) → Each IsMovedCase cs → joined (map c_group_uses (map (case_printed f) cs)) ≡ moved (joined (map case_uses cs))
  cases_moved [] h = refl
  cases_moved (c ∷ cs) h = two _ _ _ _ h.0 (cases_moved cs h.1)

  cases : TreeCases IsMoved IsMovedCase
  cases = record {
    block = λ b. by_layer (Tree-F.Block b) (plainly_moved _ _ (block_moved b));
    seq = λ ts h. by_layer (Tree-F.Seq ts) (plainly_moved _ _ (members_moved ts h));
    if_none = λ t a ha. by_layer (Tree-F.If t a None) (if_moved t (printed f a).stmts (record { arms = []; last = None }) _ [] ha.0 refl);
    if_some = λ t a b ha hb. by_layer (Tree-F.If t a (Some b)) (if_moved t (printed f a).stmts (goes_on (printed f b).chain (printed f b).stmts) _ _ ha.0 hb.1);
    switch = λ n cs last hc hl. by_layer (Tree-F.Switch n cs last) (one_moved _ (Reads n ∷ (joined (map case_uses cs) ++ tree_uses last))
        (stmt_layer (CStmt-F.Switch (built.name (f n)) (map (case_printed f) cs) (printed f last).stmts)
        ∙ two _ _ (Reads n ∷ []) (joined (map case_uses cs) ++ tree_uses last) (name_uses (f n)) (two _ _ _ _ (cases_moved cs hc) (uses_joined (printed f last).stmts ∙ hl.0))));
    loop = λ a ha. by_layer (Tree-F.Loop a) (one_moved _ _ (stmt_layer (CStmt-F.Loop (printed f a).stmts) ∙ uses_joined (printed f a).stmts ∙ ha.0));
    while = λ t a ha. by_layer (Tree-F.While t a) (one_moved _ _
        (stmt_layer (CStmt-F.While (term_cond f t) (printed f a).stmts) ∙ two _ _ _ _ (term_moved t) (uses_joined (printed f a).stmts ∙ ha.0)));
    do_while = λ a t ha. by_layer (Tree-F.DoWhile a t) (one_moved _ _
        (stmt_layer (CStmt-F.DoWhile (printed f a).stmts (term_cond f t)) ∙ two _ _ _ _ (uses_joined (printed f a).stmts ∙ ha.0) (term_moved t)));
    break = by_layer Tree-F.Break (one_moved _ [] (stmt_layer CStmt-F.Break));
    set = λ n to. by_layer (Tree-F.Set n to) (one_moved _ _ (stmt_layer (CStmt-F.Set (f n) (word_to f to)) ∙ two _ _ _ (Sets n ∷ []) (to_moved to) refl));
    case_of = λ values body hb.
        let y : TreeCase-F Tree TreeCase = record { values = values; body = body } in
        ap c_group_uses (case_printed_layer f y)
        ∙ group_layer (record { values = values; body = (printed f body).stmts })
        ∙ uses_joined (printed f body).stmts ∙ hb.0
        ∙ sym (ap moved (case_uses_layer y));
  }

  -- the names of the tree, renamed
  pub printed_moved : (t : Tree) → c_uses (printed f t).stmts ≡ moved (tree_uses t)
  printed_moved t = (every_tree cases t).0
