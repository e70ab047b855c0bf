-- Induction over Words and Conds, and over statements, arms and groups: one field a variant.
use Rattle.std.proofs.Common.{ℕ, List, [], ◌∷◌, Some, None, map, subst}
use Rattle.dream_words.specs.declared.machine.Name.{Name}
use Rattle.dream_words.specs.declared.machine.Width.{Width}
use Rattle.c_syntax.specs.declared.syntax.CBin.{CBin}
use Rattle.c_syntax.specs.declared.syntax.CCmp.{CCmp}
use Rattle.c_syntax.specs.declared.syntax.CFn1.{CFn1}
use Rattle.c_syntax.specs.declared.syntax.CFn2.{CFn2}
use Rattle.c_syntax.specs.declared.syntax.CFn3.{CFn3}
use Rattle.c_syntax.specs.declared.syntax.CExpr as e
use Rattle.c_syntax.specs.declared.syntax.CExpr.{CExpr, CExpr-F, roll-CExpr, ind-CExpr}
use Rattle.c_syntax.specs.declared.syntax.CCond as c
use Rattle.c_syntax.specs.declared.syntax.CCond.{CCond, CCond-F, roll-CCond, ind-CCond}
use Rattle.c_syntax.specs.declared.syntax.CStmt as st
use Rattle.c_syntax.specs.declared.syntax.CStmt.{CStmt, CStmt-F, roll-CStmt, ind-CStmt}
use Rattle.c_syntax.specs.declared.syntax.CArm as arm
use Rattle.c_syntax.specs.declared.syntax.CArm.{CArm, CArm-F, roll-CArm, ind-CArm}
use Rattle.c_syntax.specs.declared.syntax.CGroup as group
use Rattle.c_syntax.specs.declared.syntax.CGroup.{CGroup, CGroup-F, roll-CGroup, ind-CGroup}

-- what is to be shown of each variant of a Word, and of a Cond
pub record WordCases (P : CExpr → Type 0) (Q : CCond → Type 0) : Type 0 where
  pub num : (n : ℕ) → P (roll-CExpr (CExpr-F.Num n))
  pub name : (n : Name) → P (roll-CExpr (CExpr-F.Name n))
  pub not_word : (a : CExpr) → P a → P (roll-CExpr (CExpr-F.«CExpr::Not» a))
  pub bin : (op : CBin) (a b : CExpr) → P a → P b → P (roll-CExpr (CExpr-F.Bin op a b))
  pub fn1 : (h : CFn1) (a : CExpr) → P a → P (roll-CExpr (CExpr-F.Fn1 h a))
  pub fn2 : (h : CFn2) (a b : CExpr) → P a → P b → P (roll-CExpr (CExpr-F.Fn2 h a b))
  pub fn3 : (h : CFn3) (a b d : CExpr) → P a → P b → P d → P (roll-CExpr (CExpr-F.Fn3 h a b d))
  pub pick : (t : CCond) (a b : CExpr) → Q t → P a → P b → P (roll-CExpr (CExpr-F.Pick t a b))
  pub cmp : (op : CCmp) (a b : CExpr) → P a → P b → Q (roll-CCond (CCond-F.Cmp op a b))
  pub not_cond : (t : CCond) → Q t → Q (roll-CCond (CCond-F.«CCond::Not» t))
  pub both : (t u : CCond) → Q t → Q u → Q (roll-CCond (CCond-F.And t u))
  pub either : (t u : CCond) → Q t → Q u → Q (roll-CCond (CCond-F.Or t u))

module _ (P : CExpr → Type 0) (Q : CCond → Type 0) (cases : WordCases P Q) (X Y : Type 0) (f : X → CCond) (g : Y → CExpr)
    (p : (x : X) → Q (f x)) (q : (y : Y) → P (g y)) where
  -- each layer is one of the variants
  word_layer : (y : CExpr-F X Y) → P (roll-CExpr (e.map-CExpr X Y CCond CExpr f g y))
  word_layer (CExpr-F.Num n) = cases.num n
  word_layer (CExpr-F.Name n) = cases.name n
  word_layer (CExpr-F.«CExpr::Not» a) = cases.not_word (g a) (q a)
  word_layer (CExpr-F.Bin op a b) = cases.bin op (g a) (g b) (q a) (q b)
  word_layer (CExpr-F.Fn1 h a) = cases.fn1 h (g a) (q a)
  word_layer (CExpr-F.Fn2 h a b) = cases.fn2 h (g a) (g b) (q a) (q b)
  word_layer (CExpr-F.Fn3 h a b d) = cases.fn3 h (g a) (g b) (g d) (q a) (q b) (q d)
  word_layer (CExpr-F.Pick t a b) = cases.pick (f t) (g a) (g b) (p t) (q a) (q b)

  cond_layer : (y : CCond-F X Y) → Q (roll-CCond (c.map-CCond X Y CCond CExpr f g y))
  cond_layer (CCond-F.Cmp op a b) = cases.cmp op (g a) (g b) (q a) (q b)
  cond_layer (CCond-F.«CCond::Not» t) = cases.not_cond (f t) (p t)
  cond_layer (CCond-F.And t u) = cases.both (f t) (f u) (p t) (p u)
  cond_layer (CCond-F.Or t u) = cases.either (f t) (f u) (p t) (p u)

-- what holds at each variant holds of every Word, and of every Cond
pub every_word : {P : CExpr → Type 0} {Q : CCond → Type 0} → WordCases P Q → (a : CExpr) → P a
every_word {P} {Q} cases a = ind-CExpr Q P
    (λ x y h. subst (λ z. Q (roll-CCond z)) h (cond_layer P Q cases _ _ (λ e'. e'.0) (λ e'. e'.0) (λ e'. e'.1) (λ e'. e'.1) y))
    (λ x y h. subst (λ z. P (roll-CExpr z)) h (word_layer P Q cases _ _ (λ e'. e'.0) (λ e'. e'.0) (λ e'. e'.1) (λ e'. e'.1) y)) a

pub every_cond : {P : CExpr → Type 0} {Q : CCond → Type 0} → WordCases P Q → (t : CCond) → Q t
every_cond {P} {Q} cases t = ind-CCond Q P
    (λ x y h. subst (λ z. Q (roll-CCond z)) h (cond_layer P Q cases _ _ (λ e'. e'.0) (λ e'. e'.0) (λ e'. e'.1) (λ e'. e'.1) y))
    (λ x y h. subst (λ z. P (roll-CExpr z)) h (word_layer P Q cases _ _ (λ e'. e'.0) (λ e'. e'.0) (λ e'. e'.1) (λ e'. e'.1) y)) t

-- each member of a list
abbrev pub Each : {A : Type 0} → (A → Type 0) → List A → Type 0
Each P [] = Unit {0}
Each P (x ∷ xs) = P x × Each P xs

-- what is to be shown of each variant of a statement, of an arm and of a group
pub record StmtCases (P : CStmt → Type 0) (Q : CArm → Type 0) (R : CGroup → Type 0) : Type 0 where
  pub set : (n : Name) (a : CExpr) → P (roll-CStmt (CStmt-F.Set n a))
  pub load : (n : Name) (w : Width) (a : CExpr) → P (roll-CStmt (CStmt-F.Load n w a))
  pub store : (w : Width) (a b : CExpr) → P (roll-CStmt (CStmt-F.Store w a b))
  pub ext : (a : CExpr) → P (roll-CStmt (CStmt-F.Ext a))
  pub trap : (v : ℕ) (a : CExpr) → P (roll-CStmt (CStmt-F.Trap v a))
  pub if_none : (arms : List CArm) → Each Q arms → P (roll-CStmt (CStmt-F.If arms None))
  pub if_some : (arms : List CArm) (last : List CStmt) → Each Q arms → Each P last → P (roll-CStmt (CStmt-F.If arms (Some last)))
  pub switch : (a : CExpr) (groups : List CGroup) (last : List CStmt) → Each R groups → Each P last → P (roll-CStmt (CStmt-F.Switch a groups last))
  pub loop : (body : List CStmt) → Each P body → P (roll-CStmt (CStmt-F.Loop body))
  pub while : (t : CCond) (body : List CStmt) → Each P body → P (roll-CStmt (CStmt-F.While t body))
  pub do_while : (body : List CStmt) (t : CCond) → Each P body → P (roll-CStmt (CStmt-F.DoWhile body t))
  pub break : P (roll-CStmt CStmt-F.Break)
  pub return : P (roll-CStmt CStmt-F.Return)
  pub arm_of : (t : CCond) (body : List CStmt) → Each P body → Q (roll-CArm (record { test = t; body = body }))
  pub group_of : (values : List ℕ) (body : List CStmt) → Each P body → R (roll-CGroup (record { values = values; body = body }))

-- each member of a list that is mapped
each_of : {A X : Type 0} (P : A → Type 0) (f : X → A) → ((x : X) → P (f x)) → (xs : List X) → Each P (map f xs)
each_of P f p [] = tt
each_of P f p (x ∷ xs) = (p x, each_of P f p xs)

module _ (P : CStmt → Type 0) (Q : CArm → Type 0) (R : CGroup → Type 0) (cases : StmtCases P Q R) (X Y Z : Type 0)
    (f : X → CStmt) (g : Y → CArm) (h : Z → CGroup) (p : (x : X) → P (f x)) (q : (y : Y) → Q (g y)) (r : (z : Z) → R (h z)) where
  -- each layer is one of the variants
  stmt_layer : (y : CStmt-F X Y Z) → P (roll-CStmt (st.map-CStmt X Y Z CStmt CArm CGroup f g h y))
  stmt_layer (CStmt-F.Set n a) = cases.set n a
  stmt_layer (CStmt-F.Load n w a) = cases.load n w a
  stmt_layer (CStmt-F.Store w a b) = cases.store w a b
  stmt_layer (CStmt-F.Ext a) = cases.ext a
  stmt_layer (CStmt-F.Trap v a) = cases.trap v a
  stmt_layer (CStmt-F.If arms None) = cases.if_none (map g arms) (each_of Q g q arms)
  stmt_layer (CStmt-F.If arms (Some last)) = cases.if_some (map g arms) (map f last) (each_of Q g q arms) (each_of P f p last)
  stmt_layer (CStmt-F.Switch a groups last) = cases.switch a (map h groups) (map f last) (each_of R h r groups) (each_of P f p last)
  stmt_layer (CStmt-F.Loop body) = cases.loop (map f body) (each_of P f p body)
  stmt_layer (CStmt-F.While t body) = cases.while t (map f body) (each_of P f p body)
  stmt_layer (CStmt-F.DoWhile body t) = cases.do_while (map f body) t (each_of P f p body)
  stmt_layer CStmt-F.Break = cases.break
  stmt_layer CStmt-F.Return = cases.return

  arm_layer : (y : CArm-F X Y Z) → Q (roll-CArm (arm.map-CArm X Y Z CStmt CArm CGroup f g h y))
  arm_layer y = cases.arm_of y.test (map f y.body) (each_of P f p y.body)

  group_layer : (y : CGroup-F X Y Z) → R (roll-CGroup (group.map-CGroup X Y Z CStmt CArm CGroup f g h y))
  group_layer y = cases.group_of y.values (map f y.body) (each_of P f p y.body)

-- what holds at each variant holds of every statement
pub every_stmt : {P : CStmt → Type 0} {Q : CArm → Type 0} {R : CGroup → Type 0} → StmtCases P Q R → (s : CStmt) → P s
every_stmt {P} {Q} {R} cases s = ind-CStmt P Q R
    (λ x y h. subst (λ z. P (roll-CStmt z)) h (stmt_layer P Q R cases _ _ _ (λ e'. e'.0) (λ e'. e'.0) (λ e'. e'.0) (λ e'. e'.1) (λ e'. e'.1) (λ e'. e'.1) y))
    (λ x y h. subst (λ z. Q (roll-CArm z)) h (arm_layer P Q R cases _ _ _ (λ e'. e'.0) (λ e'. e'.0) (λ e'. e'.0) (λ e'. e'.1) (λ e'. e'.1) (λ e'. e'.1) y))
    (λ x y h. subst (λ z. R (roll-CGroup z)) h (group_layer P Q R cases _ _ _ (λ e'. e'.0) (λ e'. e'.0) (λ e'. e'.0) (λ e'. e'.1) (λ e'. e'.1) (λ e'. e'.1) y)) s

-- and of each statement of a list
pub each_stmt : {P : CStmt → Type 0} {Q : CArm → Type 0} {R : CGroup → Type 0} → StmtCases P Q R → (ss : List CStmt) → Each P ss
each_stmt cases [] = tt
each_stmt cases (s ∷ ss) = (every_stmt cases s, each_stmt cases ss)
