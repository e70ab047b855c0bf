-- What the value, the names and the parts of a Word and of a Cond are, from those of its parts.
use Rattle.std.proofs.Common.{◌≡◌, ℕ, ◌+◌, ◌-◌, ◌^◌, Bool, true, false, not, ◌&&◌, Some}
use Rattle.dream_words.specs.declared.machine.Name.{Name}
use Rattle.run_parts.specs.World.{Names}
use Rattle.c_syntax.specs.declared.syntax.CBin.{CBin}
use Rattle.c_syntax.specs.declared.syntax.CCmp.{CCmp}
use Rattle.c_syntax.specs.declared.syntax.CFn1.{CFn1}
use Rattle.c_syntax.specs.declared.syntax.CFn2.{CFn2}
use Rattle.c_syntax.specs.declared.syntax.CFn3.{CFn3}
use Rattle.c_syntax.specs.declared.syntax.CExpr as e
use Rattle.c_syntax.specs.declared.syntax.CExpr.{CExpr, CExpr-F, roll-CExpr}
use Rattle.c_syntax.specs.declared.syntax.CCond as c
use Rattle.c_syntax.specs.declared.syntax.CCond.{CCond, CCond-F, roll-CCond}
use Rattle.c_syntax.specs.Words.{bin_of, cmp_of, fn1_of, fn2_of, fn3_of}
use Rattle.c_syntax.specs.Value.{each, both, all_three, picked, word_of, truth_of}
use Rattle.c_syntax.specs.Formed.{is_word, cond_names}
use Rattle.c_words.specs.Built.{num, name, word_not, bin, fn1, fn2, fn3, pick, cmp, cond_not, and, or}
use Rattle.c_words.proofs.Layers.{word_layer, truth_layer}
use Rattle.micro_ir.specs.Rule.{is_flow_name, word_names, has_flow_names, cond_has_flow_names}
use Rattle.micro_ir.proofs.Values.{names_layer}
use Rattle.word_rules.specs.Parts.{word_parts_at, cond_parts_at, word_parts, cond_parts}

-- ---- values

module _ (v : Names) where
  pub num_value : (n : ℕ) → word_of (num n) v ≡ Some n
  num_value n = word_layer (CExpr-F.Num n) v

  pub name_value : (n : Name) → word_of (name n) v ≡ Some (v n)
  name_value n = word_layer (CExpr-F.Name n) v

  pub not_value : (a : CExpr) → word_of (word_not a) v ≡ each (λ x. 2 ^ 32 - 1 - x) (word_of a v)
  not_value a = word_layer (CExpr-F.«CExpr::Not» a) v

  pub bin_value : (op : CBin) (a b : CExpr) → word_of (bin op a b) v ≡ both (bin_of op) (word_of a v) (word_of b v)
  bin_value op a b = word_layer (CExpr-F.Bin op a b) v

  pub fn1_value : (f : CFn1) (a : CExpr) → word_of (fn1 f a) v ≡ each (fn1_of f) (word_of a v)
  fn1_value f a = word_layer (CExpr-F.Fn1 f a) v

  pub fn2_value : (f : CFn2) (a b : CExpr) → word_of (fn2 f a b) v ≡ both (λ x y. Some (fn2_of f x y)) (word_of a v) (word_of b v)
  fn2_value f a b = word_layer (CExpr-F.Fn2 f a b) v

  pub fn3_value : (f : CFn3) (a b d : CExpr) → word_of (fn3 f a b d) v ≡ all_three (fn3_of f) (word_of a v) (word_of b v) (word_of d v)
  fn3_value f a b d = word_layer (CExpr-F.Fn3 f a b d) v

  pub pick_value : (t : CCond) (a b : CExpr) → word_of (pick t a b) v ≡ picked (truth_of t v) (word_of a v) (word_of b v)
  pick_value t a b = word_layer (CExpr-F.Pick t a b) v

  pub cmp_value : (op : CCmp) (a b : CExpr) → truth_of (cmp op a b) v ≡ both (λ x y. Some (cmp_of op x y)) (word_of a v) (word_of b v)
  cmp_value op a b = truth_layer (CCond-F.Cmp op a b) v

  pub cond_not_value : (t : CCond) → truth_of (cond_not t) v ≡ each not (truth_of t v)
  cond_not_value t = truth_layer (CCond-F.«CCond::Not» t) v

  pub and_value : (t u : CCond) → truth_of (and t u) v ≡ picked (truth_of t v) (truth_of u v) (Some false)
  and_value t u = truth_layer (CCond-F.And t u) v

  pub or_value : (t u : CCond) → truth_of (or t u) v ≡ picked (truth_of t v) (Some true) (truth_of u v)
  or_value t u = truth_layer (CCond-F.Or t u) v

-- ---- names

pub num_names : (n : ℕ) → has_flow_names (num n) ≡ is_word n
num_names n = names_layer (CExpr-F.Num n)

pub name_names : (n : Name) → has_flow_names (name n) ≡ is_flow_name n
name_names n = names_layer (CExpr-F.Name n)

pub not_names : (a : CExpr) → has_flow_names (word_not a) ≡ has_flow_names a
not_names a = names_layer (CExpr-F.«CExpr::Not» a)

pub bin_names : (op : CBin) (a b : CExpr) → has_flow_names (bin op a b) ≡ (has_flow_names a && has_flow_names b)
bin_names op a b = names_layer (CExpr-F.Bin op a b)

pub fn1_names : (f : CFn1) (a : CExpr) → has_flow_names (fn1 f a) ≡ has_flow_names a
fn1_names f a = names_layer (CExpr-F.Fn1 f a)

pub fn2_names : (f : CFn2) (a b : CExpr) → has_flow_names (fn2 f a b) ≡ (has_flow_names a && has_flow_names b)
fn2_names f a b = names_layer (CExpr-F.Fn2 f a b)

pub fn3_names : (f : CFn3) (a b d : CExpr) → has_flow_names (fn3 f a b d) ≡ (has_flow_names a && (has_flow_names b && has_flow_names d))
fn3_names f a b d = names_layer (CExpr-F.Fn3 f a b d)

pub pick_names : (t : CCond) (a b : CExpr) → has_flow_names (pick t a b) ≡ (cond_has_flow_names t && (has_flow_names a && has_flow_names b))
pick_names t a b = names_layer (CExpr-F.Pick t a b)

cond_names_layer : (y : CCond-F CCond CExpr) → cond_has_flow_names (roll-CCond y) ≡ cond_names (c.map-CCond CCond CExpr Bool Bool cond_has_flow_names has_flow_names y)
cond_names_layer y = c.fold-roll-CCond Bool Bool cond_names word_names y

pub cmp_names : (op : CCmp) (a b : CExpr) → cond_has_flow_names (cmp op a b) ≡ (has_flow_names a && has_flow_names b)
cmp_names op a b = cond_names_layer (CCond-F.Cmp op a b)

pub cond_not_names : (t : CCond) → cond_has_flow_names (cond_not t) ≡ cond_has_flow_names t
cond_not_names t = cond_names_layer (CCond-F.«CCond::Not» t)

pub and_names : (t u : CCond) → cond_has_flow_names (and t u) ≡ (cond_has_flow_names t && cond_has_flow_names u)
and_names t u = cond_names_layer (CCond-F.And t u)

pub or_names : (t u : CCond) → cond_has_flow_names (or t u) ≡ (cond_has_flow_names t && cond_has_flow_names u)
or_names t u = cond_names_layer (CCond-F.Or t u)

-- ---- parts

word_parts_layer : (y : CExpr-F CCond CExpr) → word_parts (roll-CExpr y) ≡ word_parts_at (e.map-CExpr CCond CExpr ℕ ℕ cond_parts word_parts y)
word_parts_layer y = e.fold-roll-CExpr ℕ ℕ cond_parts_at word_parts_at y

cond_parts_layer : (y : CCond-F CCond CExpr) → cond_parts (roll-CCond y) ≡ cond_parts_at (c.map-CCond CCond CExpr ℕ ℕ cond_parts word_parts y)
cond_parts_layer y = c.fold-roll-CCond ℕ ℕ cond_parts_at word_parts_at y

pub num_parts : (n : ℕ) → word_parts (num n) ≡ 1
num_parts n = word_parts_layer (CExpr-F.Num n)

pub name_parts : (n : Name) → word_parts (name n) ≡ 1
name_parts n = word_parts_layer (CExpr-F.Name n)

pub not_parts : (a : CExpr) → word_parts (word_not a) ≡ word_parts a + 1
not_parts a = word_parts_layer (CExpr-F.«CExpr::Not» a)

pub bin_parts : (op : CBin) (a b : CExpr) → word_parts (bin op a b) ≡ word_parts a + word_parts b + 1
bin_parts op a b = word_parts_layer (CExpr-F.Bin op a b)

pub fn1_parts : (f : CFn1) (a : CExpr) → word_parts (fn1 f a) ≡ word_parts a + 1
fn1_parts f a = word_parts_layer (CExpr-F.Fn1 f a)

pub fn2_parts : (f : CFn2) (a b : CExpr) → word_parts (fn2 f a b) ≡ word_parts a + word_parts b + 1
fn2_parts f a b = word_parts_layer (CExpr-F.Fn2 f a b)

pub fn3_parts : (f : CFn3) (a b d : CExpr) → word_parts (fn3 f a b d) ≡ word_parts a + word_parts b + word_parts d + 1
fn3_parts f a b d = word_parts_layer (CExpr-F.Fn3 f a b d)

pub pick_parts : (t : CCond) (a b : CExpr) → word_parts (pick t a b) ≡ cond_parts t + word_parts a + word_parts b + 1
pick_parts t a b = word_parts_layer (CExpr-F.Pick t a b)

pub cmp_parts : (op : CCmp) (a b : CExpr) → cond_parts (cmp op a b) ≡ word_parts a + word_parts b + 1
cmp_parts op a b = cond_parts_layer (CCond-F.Cmp op a b)

pub cond_not_parts : (t : CCond) → cond_parts (cond_not t) ≡ cond_parts t + 1
cond_not_parts t = cond_parts_layer (CCond-F.«CCond::Not» t)

pub and_parts : (t u : CCond) → cond_parts (and t u) ≡ cond_parts t + cond_parts u + 1
and_parts t u = cond_parts_layer (CCond-F.And t u)

pub or_parts : (t u : CCond) → cond_parts (or t u) ≡ cond_parts t + cond_parts u + 1
or_parts t u = cond_parts_layer (CCond-F.Or t u)
