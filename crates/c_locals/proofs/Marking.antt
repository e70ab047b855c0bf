-- After the names of a part are marked, just the names are kept that were, or that the part reads or loads.
use Rattle.std.proofs.Common.{◌≡◌, ℕ, zero, suc, nat_eq, Bool, true, false, ◌||◌, get_or, set, length, map, List, [], ◌∷◌, Some, None, refl, sym, ap, ◌∙◌, subst, rules, arith}
use Rattle.std.proofs.lemmas.List.{length-set, length-replicate}
use Rattle.dream_words.specs.declared.machine.Name.{Name}
use Rattle.dream_words.specs.declared.machine.Name.TheVariants as name
use Rattle.c_syntax.specs.declared.syntax.CExpr as e
use Rattle.c_syntax.specs.declared.syntax.CExpr.{CExpr, CExpr-F, roll-CExpr}
use Rattle.c_syntax.specs.declared.syntax.CCond as c
use Rattle.c_syntax.specs.declared.syntax.CCond.{CCond, CCond-F, roll-CCond}
use Rattle.c_syntax.specs.declared.syntax.CStmt as st
use Rattle.c_syntax.specs.declared.syntax.CStmt.{CStmt, CStmt-F, roll-CStmt}
use Rattle.c_syntax.specs.declared.syntax.CArm as arm
use Rattle.c_syntax.specs.declared.syntax.CArm.{CArm, CArm-F, roll-CArm}
use Rattle.c_syntax.specs.declared.syntax.CGroup as group
use Rattle.c_syntax.specs.declared.syntax.CGroup.{CGroup, CGroup-F, roll-CGroup}
use Rattle.c_syntax.specs.declared.syntax.CFun.{CFun}
use Rattle.c_syntax.proofs.Induct.{WordCases, every_word, every_cond, Each, StmtCases, each_stmt}
use Rattle.c_locals.specs.Marks as marks
use Rattle.c_locals.specs.Marks.{Marks, Step, with_name, all_in, with_word, with_cond, last_in, with_stmt, with_arm, with_group, no_marks, marks_of}
use Rattle.c_locals.specs.Settled.{is_kept}
use Rattle.c_locals.proofs.Bools.{or_false, or_true, or_right, or_assoc}
use Rattle.c_locals.proofs.ReadNames.{NameSet, same_local, nothing, union, any, word_reads_at, cond_reads_at, word_reads, cond_reads, stmt_reads_at, arm_reads_at, group_reads_at, stmt_reads, arm_reads, group_reads, stmts_read, Knows, word_reads_layer, cond_reads_layer, stmt_reads_layer, arm_reads_layer, group_reads_layer}

zero_more : (k : ℕ) → false ≡ nat_eq zero (suc k)
zero_more k = search (rules, arith)

more_zero : (k : ℕ) → false ≡ nat_eq (suc k) zero
more_zero k = search (rules, arith)

more_more : (j k : ℕ) → nat_eq j k ≡ nat_eq (suc j) (suc k)
more_more j k = search (rules, arith)

-- a mark at a number
mark_at : (bs : List Bool) (j k : ℕ) → get_or (set bs j true) k true ≡ (get_or bs k true || nat_eq j k)
mark_at [] j k = refl
mark_at (b ∷ bs) zero zero = or_true b
mark_at (b ∷ bs) zero (suc k) = or_false (get_or bs k true) ∙ ap (λ c. get_or bs k true || c) (zero_more k)
mark_at (b ∷ bs) (suc j) zero = or_false b ∙ ap (λ c. b || c) (more_zero j)
mark_at (b ∷ bs) (suc j) (suc k) = mark_at bs j k ∙ ap (λ c. get_or bs k true || c) (more_more j k)

-- what a step marks
pub record Takes (s : Step) (r : NameSet) : Type 0 where
  pub by : (m : Marks) (k : Name) → is_kept (s m) k ≡ (is_kept m k || r k)
  pub temps : (m : Marks) → length (s m).temps ≡ length m.temps
  pub bools : (m : Marks) → length (s m).bools ≡ length m.bools

name_takes : (n : Name) (m : Marks) (k : Name) → is_kept (with_name n m) k ≡ (is_kept m k || same_local n k)
name_takes n m (name.Reg k) = refl
name_takes n m (name.Flag k) = refl
name_takes n m name.Fs = refl
name_takes n m name.Gs = refl
name_takes n m (name.S k) = refl
name_takes (name.T j) m (name.T k) = mark_at m.temps j k
name_takes (name.B j) m (name.B k) = mark_at m.bools j k
name_takes n m (name.T k) = or_false (is_kept m (name.T k))
name_takes n m (name.B k) = or_false (is_kept m (name.B k))

name_temps : (n : Name) (m : Marks) → length (with_name n m).temps ≡ length m.temps
name_temps (name.T j) m = length-set m.temps j true
name_temps n m = refl

name_bools : (n : Name) (m : Marks) → length (with_name n m).bools ≡ length m.bools
name_bools (name.B j) m = length-set m.bools j true
name_bools n m = refl

name_does : (n : Name) → Takes (with_name n) (same_local n)
name_does n = record { by = name_takes n; temps = name_temps n; bools = name_bools n }

none_does : Takes (λ m. m) nothing
none_does = record { by = λ m k. or_false (is_kept m k); temps = λ m. refl; bools = λ m. refl }

two_do : (s t : Step) (r q : NameSet) → Takes s r → Takes t q → Takes (λ m. t (s m)) (union r q)
two_do s t r q hs ht = record {
  by = λ m k. ht.by (s m) k ∙ ap (λ b. b || q k) (hs.by m k) ∙ or_assoc (is_kept m k) (r k) (q k);
  temps = λ m. ht.temps (s m) ∙ hs.temps m;
  bools = λ m. ht.bools (s m) ∙ hs.bools m;
}

abbrev WordTakes : CExpr → Type 0
WordTakes a = Takes (with_word a) (word_reads a)

abbrev CondTakes : CCond → Type 0
CondTakes t = Takes (with_cond t) (cond_reads t)

by_word : (y : CExpr-F CCond CExpr) → Takes (marks.word_at (e.map-CExpr CCond CExpr Step Step with_cond with_word y)) (word_reads_at (e.map-CExpr CCond CExpr NameSet NameSet cond_reads word_reads y)) → WordTakes (roll-CExpr y)
by_word y h = subst (λ (s : Step). Takes s (word_reads (roll-CExpr y))) (sym (e.fold-roll-CExpr Step Step marks.cond_at marks.word_at y))
    (subst (Takes (marks.word_at (e.map-CExpr CCond CExpr Step Step with_cond with_word y))) (sym (word_reads_layer y)) h)

by_cond : (y : CCond-F CCond CExpr) → Takes (marks.cond_at (c.map-CCond CCond CExpr Step Step with_cond with_word y)) (cond_reads_at (c.map-CCond CCond CExpr NameSet NameSet cond_reads word_reads y)) → CondTakes (roll-CCond y)
by_cond y h = subst (λ (s : Step). Takes s (cond_reads (roll-CCond y))) (sym (c.fold-roll-CCond Step Step marks.cond_at marks.word_at y))
    (subst (Takes (marks.cond_at (c.map-CCond CCond CExpr Step Step with_cond with_word y))) (sym (cond_reads_layer y)) h)

words_take : WordCases WordTakes CondTakes
words_take = record {
  num = λ n. by_word (CExpr-F.Num n) none_does;
  name = λ n. by_word (CExpr-F.Name n) (name_does n);
  not_word = λ a ha. by_word (CExpr-F.«CExpr::Not» a) ha;
  bin = λ op a b ha hb. by_word (CExpr-F.Bin op a b) (two_do _ _ _ _ ha hb);
  fn1 = λ g a ha. by_word (CExpr-F.Fn1 g a) ha;
  fn2 = λ g a b ha hb. by_word (CExpr-F.Fn2 g a b) (two_do _ _ _ _ ha hb);
  fn3 = λ g a b d ha hb hd. by_word (CExpr-F.Fn3 g a b d) (two_do (with_word a) (λ m. with_word d (with_word b m)) _ _ ha (two_do _ _ _ _ hb hd));
  pick = λ t a b ht ha hb. by_word (CExpr-F.Pick t a b) (two_do (with_cond t) (λ m. with_word b (with_word a m)) _ _ ht (two_do _ _ _ _ ha hb));
  cmp = λ op a b ha hb. by_cond (CCond-F.Cmp op a b) (two_do _ _ _ _ ha hb);
  not_cond = λ t ht. by_cond (CCond-F.«CCond::Not» t) ht;
  both = λ t u ht hu. by_cond (CCond-F.And t u) (two_do _ _ _ _ ht hu);
  either = λ t u ht hu. by_cond (CCond-F.Or t u) (two_do _ _ _ _ ht hu);
}

word_takes : (a : CExpr) → WordTakes a
word_takes a = every_word words_take a

cond_takes : (t : CCond) → CondTakes t
cond_takes t = every_cond words_take t

-- ---- statements

abbrev StmtTakes : CStmt → Type 0
StmtTakes s = Takes (with_stmt s) (stmt_reads s)

abbrev ArmTakes : CArm → Type 0
ArmTakes a = Takes (with_arm a) (arm_reads a)

abbrev GroupTakes : CGroup → Type 0
GroupTakes g = Takes (with_group g) (group_reads g)

by_stmt : (y : CStmt-F CStmt CArm CGroup)
    → Takes (marks.stmt_at (st.map-CStmt CStmt CArm CGroup Step Step Step with_stmt with_arm with_group y)) (stmt_reads_at (st.map-CStmt CStmt CArm CGroup NameSet NameSet NameSet stmt_reads arm_reads group_reads y))
    → StmtTakes (roll-CStmt y)
by_stmt y h = subst (λ (s : Step). Takes s (stmt_reads (roll-CStmt y))) (sym (st.fold-roll-CStmt Step Step Step marks.stmt_at marks.arm_at marks.group_at y))
    (subst (Takes (marks.stmt_at (st.map-CStmt CStmt CArm CGroup Step Step Step with_stmt with_arm with_group y))) (sym (stmt_reads_layer y)) h)

by_arm : (y : CArm-F CStmt CArm CGroup)
    → Takes (marks.arm_at (arm.map-CArm CStmt CArm CGroup Step Step Step with_stmt with_arm with_group y)) (arm_reads_at (arm.map-CArm CStmt CArm CGroup NameSet NameSet NameSet stmt_reads arm_reads group_reads y))
    → ArmTakes (roll-CArm y)
by_arm y h = subst (λ (s : Step). Takes s (arm_reads (roll-CArm y))) (sym (arm.fold-roll-CArm Step Step Step marks.stmt_at marks.arm_at marks.group_at y))
    (subst (Takes (marks.arm_at (arm.map-CArm CStmt CArm CGroup Step Step Step with_stmt with_arm with_group y))) (sym (arm_reads_layer y)) h)

by_group : (y : CGroup-F CStmt CArm CGroup)
    → Takes (marks.group_at (group.map-CGroup CStmt CArm CGroup Step Step Step with_stmt with_arm with_group y)) (group_reads_at (group.map-CGroup CStmt CArm CGroup NameSet NameSet NameSet stmt_reads arm_reads group_reads y))
    → GroupTakes (roll-CGroup y)
by_group y h = subst (λ (s : Step). Takes s (group_reads (roll-CGroup y))) (sym (group.fold-roll-CGroup Step Step Step marks.stmt_at marks.arm_at marks.group_at y))
    (subst (Takes (marks.group_at (group.map-CGroup CStmt CArm CGroup Step Step Step with_stmt with_arm with_group y))) (sym (group_reads_layer y)) h)

all_take : {A : Type 0} (s : A → Step) (r : A → NameSet) (xs : List A) → Each (λ x. Takes (s x) (r x)) xs → Takes (all_in (map s xs)) (any (map r xs))
all_take s r [] h = none_does
all_take s r (x ∷ xs) h = two_do (s x) (all_in (map s xs)) (r x) (any (map r xs)) h.0 (all_take s r xs h.1)

stmts_take : StmtCases StmtTakes ArmTakes GroupTakes
stmts_take = record {
  set = λ n a. by_stmt (CStmt-F.Set n a) (word_takes a);
  load = λ n w a. by_stmt (CStmt-F.Load n w a) (two_do _ _ _ _ (word_takes a) (name_does n));
  store = λ w a b. by_stmt (CStmt-F.Store w a b) (two_do _ _ _ _ (word_takes a) (word_takes b));
  ext = λ a. by_stmt (CStmt-F.Ext a) (word_takes a);
  trap = λ v a. by_stmt (CStmt-F.Trap v a) (word_takes a);
  if_none = λ arms h. by_stmt (CStmt-F.If arms None) (two_do _ (λ m. m) _ nothing (all_take with_arm arm_reads arms h) none_does);
  if_some = λ arms last h k. by_stmt (CStmt-F.If arms (Some last)) (two_do _ _ _ _ (all_take with_arm arm_reads arms h) (all_take with_stmt stmt_reads last k));
  switch = λ a groups last h k. by_stmt (CStmt-F.Switch a groups last)
      (two_do (with_word a) (λ m. all_in (map with_stmt last) (all_in (map with_group groups) m)) _ _ (word_takes a)
      (two_do _ _ _ _ (all_take with_group group_reads groups h) (all_take with_stmt stmt_reads last k)));
  loop = λ body h. by_stmt (CStmt-F.Loop body) (all_take with_stmt stmt_reads body h);
  while = λ t body h. by_stmt (CStmt-F.While t body) (two_do _ _ _ _ (cond_takes t) (all_take with_stmt stmt_reads body h));
  do_while = λ body t h. by_stmt (CStmt-F.DoWhile body t) (two_do _ _ _ _ (all_take with_stmt stmt_reads body h) (cond_takes t));
  break = by_stmt CStmt-F.Break none_does;
  return = by_stmt CStmt-F.Return none_does;
  arm_of = λ t body h. by_arm (record { test = t; body = body }) (two_do _ _ _ _ (cond_takes t) (all_take with_stmt stmt_reads body h));
  group_of = λ values body h. by_group (record { values = values; body = body }) (all_take with_stmt stmt_reads body h);
}

-- what a function reads or loads is kept
pub all_known : (f : CFun) → Knows (marks_of f) (stmts_read f.body)
all_known f k h = (all_take with_stmt stmt_reads f.body (each_stmt stmts_take f.body)).by (no_marks f.temps f.bools) k ∙ or_right (is_kept (no_marks f.temps f.bools) k) (stmts_read f.body k) h

-- it has a mark for each local that is declared
pub as_temps : (f : CFun) → length (marks_of f).temps ≡ f.temps
as_temps f = (all_take with_stmt stmt_reads f.body (each_stmt stmts_take f.body)).temps (no_marks f.temps f.bools) ∙ length-replicate f.temps false

pub as_bools : (f : CFun) → length (marks_of f).bools ≡ f.bools
as_bools f = (all_take with_stmt stmt_reads f.body (each_stmt stmts_take f.body)).bools (no_marks f.temps f.bools) ∙ length-replicate f.bools false
