-- The texts of Words and Conds, by their forms.
use Rattle.std.proofs.Common.{◌≡◌, ◌++◌, ap, sym, ◌∙◌}
use Rattle.std.specs.Prelude.{codes}
use Rattle.c_syntax.specs.declared.syntax.CBin.{CBin}
use Rattle.c_syntax.specs.declared.syntax.CCmp.{CCmp}
use Rattle.c_syntax.specs.declared.syntax.CFn1.{CFn1}
use Rattle.c_syntax.specs.declared.syntax.CFn2.{CFn2}
use Rattle.c_syntax.specs.declared.syntax.CFn3.{CFn3}
use Rattle.c_syntax.specs.declared.syntax.CExpr.{CExpr, CExpr-F, Bin, Fn1, Fn2, Fn3, Pick}
use Rattle.c_syntax.specs.declared.syntax.CExpr.TheVariants as word
use Rattle.c_syntax.specs.declared.syntax.CCond.{CCond, CCond-F, Cmp, And, Or}
use Rattle.c_syntax.specs.declared.syntax.CCond.TheVariants as cond
use Rattle.c_syntax.specs.Spelling.{op_text, cmp_text, fn1_text, fn2_text, fn3_text}
use Rattle.c_syntax.specs.Text.{between, word_text, cond_text}
use Rattle.c_syntax.proofs.Layers.{word_text_layer, cond_text_layer}

pub word_not : (a : CExpr) → word_text (word.Not a) ≡ codes "(~" ++ word_text a ++ codes ")"
word_not a = ap word_text (sym (word.rolls-Not a)) ∙ word_text_layer (CExpr-F.«CExpr::Not» a)

pub word_bin : (op : CBin) (a b : CExpr) → word_text (Bin op a b) ≡ codes "(" ++ between (word_text a) (op_text op) (word_text b) ++ codes ")"
word_bin op a b = ap word_text (sym (word.rolls-Bin op a b)) ∙ word_text_layer (CExpr-F.Bin op a b)

pub word_fn1 : (f : CFn1) (a : CExpr) → word_text (Fn1 f a) ≡ fn1_text f ++ codes "(" ++ word_text a ++ codes ")"
word_fn1 f a = ap word_text (sym (word.rolls-Fn1 f a)) ∙ word_text_layer (CExpr-F.Fn1 f a)

pub word_fn2 : (f : CFn2) (a b : CExpr) → word_text (Fn2 f a b) ≡ fn2_text f ++ codes "(" ++ word_text a ++ codes ", " ++ word_text b ++ codes ")"
word_fn2 f a b = ap word_text (sym (word.rolls-Fn2 f a b)) ∙ word_text_layer (CExpr-F.Fn2 f a b)

pub word_fn3 : (f : CFn3) (a b c : CExpr) → word_text (Fn3 f a b c) ≡ fn3_text f ++ codes "(" ++ word_text a ++ codes ", " ++ word_text b ++ codes ", " ++ word_text c ++ codes ")"
word_fn3 f a b c = ap word_text (sym (word.rolls-Fn3 f a b c)) ∙ word_text_layer (CExpr-F.Fn3 f a b c)

pub word_pick : (c : CCond) (a b : CExpr) → word_text (Pick c a b) ≡ codes "(" ++ cond_text c ++ codes " ? " ++ word_text a ++ codes " : " ++ word_text b ++ codes ")"
word_pick c a b = ap word_text (sym (word.rolls-Pick c a b)) ∙ word_text_layer (CExpr-F.Pick c a b)

pub cond_cmp : (op : CCmp) (a b : CExpr) → cond_text (Cmp op a b) ≡ codes "(" ++ between (word_text a) (cmp_text op) (word_text b) ++ codes ")"
cond_cmp op a b = ap cond_text (sym (cond.rolls-Cmp op a b)) ∙ cond_text_layer (CCond-F.Cmp op a b)

pub cond_not : (c : CCond) → cond_text (cond.Not c) ≡ codes "(!" ++ cond_text c ++ codes ")"
cond_not c = ap cond_text (sym (cond.rolls-Not c)) ∙ cond_text_layer (CCond-F.«CCond::Not» c)

pub cond_and : (c d : CCond) → cond_text (And c d) ≡ codes "(" ++ between (cond_text c) (codes "&&") (cond_text d) ++ codes ")"
cond_and c d = ap cond_text (sym (cond.rolls-And c d)) ∙ cond_text_layer (CCond-F.And c d)

pub cond_or : (c d : CCond) → cond_text (Or c d) ≡ codes "(" ++ between (cond_text c) (codes "||") (cond_text d) ++ codes ")"
cond_or c d = ap cond_text (sym (cond.rolls-Or c d)) ∙ cond_text_layer (CCond-F.Or c d)
