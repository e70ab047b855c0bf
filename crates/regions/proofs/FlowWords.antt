-- Words and Conds of a flow may stand in a tree, and have just names of a flow.
use Rattle.std.proofs.Common.{◌≡◌, ◌^◌, ◌-◌, ◌≤◌, Bool, ◌&&◌, nat_le, List, [], ◌∷◌, ◌++◌, refl, sym, ap, ◌∙◌, subst, arith}
use Rattle.std.specs.Prelude.{IsTrue}
use Rattle.dream_words.specs.declared.machine.Name.{Name}
use Rattle.dream_words.specs.declared.machine.Name.TheVariants as name
use Rattle.c_syntax.specs.declared.syntax.CExpr as e
use Rattle.c_syntax.specs.declared.syntax.CExpr.{CExpr, CExpr-F, roll-CExpr}
use Rattle.c_syntax.specs.declared.syntax.CCond as c
use Rattle.c_syntax.specs.declared.syntax.CCond.{CCond, CCond-F, roll-CCond}
use Rattle.c_syntax.specs.Depth.{word_depth, cond_depth}
use Rattle.c_syntax.specs.Formed.{cond_names}
use Rattle.c_syntax.proofs.Induct.{WordCases, every_word, every_cond}
use Rattle.micro_ir.specs.Rule.{is_flow_name, word_names, has_flow_names, cond_has_flow_names, is_flow_word, is_flow_cond}
use Rattle.micro_ir.proofs.Values.{both_true, names_layer}
use Rattle.guarded.specs.Uses.{Use, name_of, names_of, word_uses, cond_uses, word_uses_at, cond_uses_at}
use Rattle.guarded.specs.Formed.{is_text_name, are_text_names, word_numbers, numbers_word, numbers_cond, word_fits}
use Rattle.regions.proofs.Standing.{lt_true, le_true, lt_from, le_from}

pub and_true : (a b : Bool) → IsTrue a → IsTrue b → IsTrue (a && b)
and_true a b p q = ap (λ x. x && b) p ∙ q

-- ---- what holds of each name that is used

abbrev pub AllUses : (Name → Type 0) → List Use → Type 0
AllUses P [] = Unit {0}
AllUses P (u ∷ us) = P (name_of u) × AllUses P us

pub uses_append : (P : Name → Type 0) (us vs : List Use) → AllUses P us → AllUses P vs → AllUses P (us ++ vs)
uses_append P [] vs h g = g
uses_append P (u ∷ us) vs h g = (h.0, uses_append P us vs h.1 g)

pub uses_to : (P Q : Name → Type 0) → ((n : Name) → P n → Q n) → (us : List Use) → AllUses P us → AllUses Q us
uses_to P Q f [] h = tt
uses_to P Q f (u ∷ us) h = (f (name_of u) h.0, uses_to P Q f us h.1)

abbrev pub IsFlowName : Name → Type 0
IsFlowName n = IsTrue (is_flow_name n)

abbrev pub IsTextName : Name → Type 0
IsTextName n = IsTrue (is_text_name n)

pub text_names : (us : List Use) → AllUses IsTextName us → IsTrue (are_text_names (names_of us))
text_names [] h = refl
text_names (u ∷ us) h = and_true (is_text_name (name_of u)) (are_text_names (names_of us)) h.0 (text_names us h.1)

-- a text can have each name of a flow
pub flow_text : (n : Name) → IsFlowName n → IsTextName n
flow_text (name.Reg n) h = h
flow_text (name.Flag n) h = h
flow_text name.Fs h = refl
flow_text name.Gs h = refl
flow_text (name.T n) h = let l = lt_from n (2 ^ 31) h in lt_true n (2 ^ 32 - 1) (omega (arith, l))
flow_text (name.B n) h = absurd (let z : ⊥ = cc in z)
flow_text (name.S n) h = absurd (let z : ⊥ = cc in z)

-- ---- Words and Conds

abbrev Fine : CExpr → Type 0
Fine a = IsTrue (has_flow_names a) → IsTrue (numbers_word a) × AllUses IsFlowName (word_uses a)

abbrev FineCond : CCond → Type 0
FineCond t = IsTrue (cond_has_flow_names t) → IsTrue (numbers_cond t) × AllUses IsFlowName (cond_uses t)

pub numbers_layer : (y : CExpr-F CCond CExpr) → numbers_word (roll-CExpr y) ≡ word_numbers (e.map-CExpr CCond CExpr Bool Bool numbers_cond numbers_word y)
numbers_layer y = e.fold-roll-CExpr Bool Bool cond_names word_numbers y

numbers_cond_layer : (y : CCond-F CCond CExpr) → numbers_cond (roll-CCond y) ≡ cond_names (c.map-CCond CCond CExpr Bool Bool numbers_cond numbers_word y)
numbers_cond_layer y = c.fold-roll-CCond Bool Bool cond_names word_numbers y

pub cond_names_layer : (y : CCond-F CCond CExpr) → cond_has_flow_names (roll-CCond y) ≡ cond_names (c.map-CCond CCond CExpr Bool Bool cond_has_flow_names has_flow_names y)
cond_names_layer y = c.fold-roll-CCond Bool Bool cond_names word_names y

pub word_uses_layer : (y : CExpr-F CCond CExpr) → word_uses (roll-CExpr y) ≡ word_uses_at (e.map-CExpr CCond CExpr (List Use) (List Use) cond_uses word_uses y)
word_uses_layer y = e.fold-roll-CExpr (List Use) (List Use) cond_uses_at word_uses_at y

cond_uses_layer : (y : CCond-F CCond CExpr) → cond_uses (roll-CCond y) ≡ cond_uses_at (c.map-CCond CCond CExpr (List Use) (List Use) cond_uses word_uses y)
cond_uses_layer y = c.fold-roll-CCond (List Use) (List Use) cond_uses_at word_uses_at y

by_word : (y : CExpr-F CCond CExpr)
    → (IsTrue (word_names (e.map-CExpr CCond CExpr Bool Bool cond_has_flow_names has_flow_names y))
    → IsTrue (word_numbers (e.map-CExpr CCond CExpr Bool Bool numbers_cond numbers_word y)) × AllUses IsFlowName (word_uses_at (e.map-CExpr CCond CExpr (List Use) (List Use) cond_uses word_uses y)))
    → Fine (roll-CExpr y)
by_word y h = λ t. let g = h (subst IsTrue (names_layer y) t) in (subst IsTrue (sym (numbers_layer y)) g.0, subst (λ us. AllUses IsFlowName us) (sym (word_uses_layer y)) g.1)

by_cond : (y : CCond-F CCond CExpr)
    → (IsTrue (cond_names (c.map-CCond CCond CExpr Bool Bool cond_has_flow_names has_flow_names y))
    → IsTrue (cond_names (c.map-CCond CCond CExpr Bool Bool numbers_cond numbers_word y)) × AllUses IsFlowName (cond_uses_at (c.map-CCond CCond CExpr (List Use) (List Use) cond_uses word_uses y)))
    → FineCond (roll-CCond y)
by_cond y h = λ t. let g = h (subst IsTrue (cond_names_layer y) t) in (subst IsTrue (sym (numbers_cond_layer y)) g.0, subst (λ us. AllUses IsFlowName us) (sym (cond_uses_layer y)) g.1)

two : (p q m n : Bool) (us vs : List Use) → (IsTrue p → IsTrue m × AllUses IsFlowName us) → (IsTrue q → IsTrue n × AllUses IsFlowName vs) → IsTrue (p && q) → IsTrue (m && n) × AllUses IsFlowName (us ++ vs)
two p q m n us vs f g h =
    let t = both_true p q h in
    let a = f t.0 in
    let b = g t.1 in
    (and_true m n a.0 b.0, uses_append IsFlowName us vs a.1 b.1)

cases : WordCases Fine FineCond
cases = record {
  num = λ n. by_word (CExpr-F.Num n) (λ t. (t, tt));
  name = λ n. by_word (CExpr-F.Name n) (λ t. (refl, (t, tt)));
  not_word = λ a ha. by_word (CExpr-F.«CExpr::Not» a) ha;
  bin = λ op a b ha hb. by_word (CExpr-F.Bin op a b) (two (has_flow_names a) (has_flow_names b) (numbers_word a) (numbers_word b) (word_uses a) (word_uses b) ha hb);
  fn1 = λ f a ha. by_word (CExpr-F.Fn1 f a) ha;
  fn2 = λ f a b ha hb. by_word (CExpr-F.Fn2 f a b) (two (has_flow_names a) (has_flow_names b) (numbers_word a) (numbers_word b) (word_uses a) (word_uses b) ha hb);
  fn3 = λ f a b d ha hb hd. by_word (CExpr-F.Fn3 f a b d)
      (two (has_flow_names a) (has_flow_names b && has_flow_names d) (numbers_word a) (numbers_word b && numbers_word d) (word_uses a) (word_uses b ++ word_uses d) ha
      (two (has_flow_names b) (has_flow_names d) (numbers_word b) (numbers_word d) (word_uses b) (word_uses d) hb hd));
  pick = λ t a b ht ha hb. by_word (CExpr-F.Pick t a b)
      (two (cond_has_flow_names t) (has_flow_names a && has_flow_names b) (numbers_cond t) (numbers_word a && numbers_word b) (cond_uses t) (word_uses a ++ word_uses b) ht
      (two (has_flow_names a) (has_flow_names b) (numbers_word a) (numbers_word b) (word_uses a) (word_uses b) ha hb));
  cmp = λ op a b ha hb. by_cond (CCond-F.Cmp op a b) (two (has_flow_names a) (has_flow_names b) (numbers_word a) (numbers_word b) (word_uses a) (word_uses b) ha hb);
  not_cond = λ t ht. by_cond (CCond-F.«CCond::Not» t) ht;
  both = λ t u ht hu. by_cond (CCond-F.And t u) (two (cond_has_flow_names t) (cond_has_flow_names u) (numbers_cond t) (numbers_cond u) (cond_uses t) (cond_uses u) ht hu);
  either = λ t u ht hu. by_cond (CCond-F.Or t u) (two (cond_has_flow_names t) (cond_has_flow_names u) (numbers_cond t) (numbers_cond u) (cond_uses t) (cond_uses u) ht hu);
}

fine : (a : CExpr) → Fine a
fine a = every_word cases a

fine_cond : (t : CCond) → FineCond t
fine_cond t = every_cond cases t

-- a Word of a flow may stand in a tree
pub word_fit : (a : CExpr) → IsTrue (is_flow_word a) → IsTrue (word_fits a)
word_fit a h =
    let p = both_true (has_flow_names a) (nat_le (word_depth a) 64) h in
    let l = le_from (word_depth a) 64 p.1 in
    and_true (numbers_word a) (nat_le (word_depth a) 256) (fine a p.0).0 (le_true (word_depth a) 256 (omega (arith, l)))

pub word_named : (a : CExpr) → IsTrue (is_flow_word a) → AllUses IsFlowName (word_uses a)
word_named a h = (fine a (both_true (has_flow_names a) (nat_le (word_depth a) 64) h).0).1

-- the numbers and the depth of a Cond of a flow
pub cond_numbers : (t : CCond) → IsTrue (is_flow_cond t) → IsTrue (numbers_cond t)
cond_numbers t h = (fine_cond t (both_true (cond_has_flow_names t) (nat_le (cond_depth t) 64) h).0).0

pub cond_deep : (t : CCond) → IsTrue (is_flow_cond t) → cond_depth t ≤ 64
cond_deep t h = le_from (cond_depth t) 64 (both_true (cond_has_flow_names t) (nat_le (cond_depth t) 64) h).1

pub cond_named : (t : CCond) → IsTrue (is_flow_cond t) → AllUses IsFlowName (cond_uses t)
cond_named t h = (fine_cond t (both_true (cond_has_flow_names t) (nat_le (cond_depth t) 64) h).0).1
