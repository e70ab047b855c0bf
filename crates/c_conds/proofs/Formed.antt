-- What a function allows turns on its locals alone, and not on its body.
use Rattle.std.proofs.Common.{◌≡◌, Bool, true, ◌&&◌, nat_le, not, List, refl, ap}
use Rattle.std.proofs.Math.Path.{fun_ext}
use Rattle.dream_words.specs.declared.machine.Name.{Name}
use Rattle.dream_words.specs.declared.machine.Name.TheVariants as name
use Rattle.c_syntax.specs.declared.syntax.CExpr.{CExpr, CExpr-F, fold-CExpr}
use Rattle.c_syntax.specs.declared.syntax.CCond.{CCond, fold-CCond}
use Rattle.c_syntax.specs.declared.syntax.CStmt.{CStmt, CStmt-F, fold-CStmt}
use Rattle.c_syntax.specs.declared.syntax.CArm.{CArm-F}
use Rattle.c_syntax.specs.declared.syntax.CFun.{CFun}
use Rattle.c_syntax.specs.Depth.{word_depth, cond_depth}
use Rattle.c_syntax.specs.Formed.{is_declared, is_base, is_target, is_word, cond_names, word_names, names_word, names_cond, are_distinct, Allowed, all, GroupAllowed, groups_values, all_groups, word_allowed, cond_allowed, stmt_at, arm_at, group_at, stmt_allowed}
use Rattle.c_locals.proofs.Bools.{ap2}

-- a function with another body
abbrev pub with_body : CFun → List CStmt → CFun
with_body f body = record { address = f.address; temps = f.temps; bools = f.bools; selectors = f.selectors; body = body }

module _ (f : CFun) (body : List CStmt) where
  abbrev g : CFun
  g = with_body f body

  declared_same : (n : Name) → is_declared f n ≡ is_declared g n
  declared_same (name.Reg n) = refl
  declared_same (name.Flag n) = refl
  declared_same name.Fs = refl
  declared_same name.Gs = refl
  declared_same (name.T n) = refl
  declared_same (name.B n) = refl
  declared_same (name.S n) = refl

  layer_same : (y : CExpr-F Bool Bool) → word_names f y ≡ word_names g y
  layer_same (CExpr-F.Num n) = refl
  layer_same (CExpr-F.Name n) = declared_same n
  layer_same (CExpr-F.«CExpr::Not» a) = refl
  layer_same (CExpr-F.Bin op a b) = refl
  layer_same (CExpr-F.Fn1 h a) = refl
  layer_same (CExpr-F.Fn2 h a b) = refl
  layer_same (CExpr-F.Fn3 h a b d) = refl
  layer_same (CExpr-F.Pick t a b) = refl

  names_same : (e : CExpr) → names_word f e ≡ names_word g e
  names_same e = ap (λ (h : CExpr-F Bool Bool → Bool). fold-CExpr Bool Bool cond_names h e) (fun_ext layer_same)

  cond_names_same : (t : CCond) → names_cond f t ≡ names_cond g t
  cond_names_same t = ap (λ (h : CExpr-F Bool Bool → Bool). fold-CCond Bool Bool cond_names h t) (fun_ext layer_same)

  word_same : (e : CExpr) → word_allowed f e ≡ word_allowed g e
  word_same e = ap (λ (x : Bool). x && nat_le (word_depth e) 256) (names_same e)

  cond_same : (t : CCond) → cond_allowed f t ≡ cond_allowed g t
  cond_same t = ap (λ (x : Bool). x && nat_le (cond_depth t) 256) (cond_names_same t)

  target_same : (n : Name) → is_target f n ≡ is_target g n
  target_same n = ap (λ (x : Bool). x && not (is_base n)) (declared_same n)

  at_same : (y : CStmt-F Allowed Allowed GroupAllowed) (b : Bool) → stmt_at f y b ≡ stmt_at g y b
  at_same (CStmt-F.Set n e) b = ap2 (λ (x y : Bool). x && y) _ _ _ _ (target_same n) (word_same e)
  at_same (CStmt-F.Load n w e) b = ap2 (λ (x y : Bool). x && y) _ _ _ _ (target_same n) (word_same e)
  at_same (CStmt-F.Store w e v) b = ap2 (λ (x y : Bool). x && y) _ _ _ _ (word_same e) (word_same v)
  at_same (CStmt-F.Ext e) b = word_same e
  at_same (CStmt-F.Trap v e) b = ap (λ (x : Bool). is_word v && x) (word_same e)
  at_same (CStmt-F.If arms last) b = refl
  at_same (CStmt-F.Switch e groups last) b = ap (λ (x : Bool). x && (all_groups groups && (are_distinct (groups_values groups) && all last true))) (word_same e)
  at_same (CStmt-F.Loop ss) b = refl
  at_same (CStmt-F.While c ss) b = ap (λ (x : Bool). x && all ss true) (cond_same c)
  at_same (CStmt-F.DoWhile ss c) b = ap (λ (x : Bool). all ss true && x) (cond_same c)
  at_same CStmt-F.Break b = refl
  at_same CStmt-F.Return b = refl

  arm_same : (y : CArm-F Allowed Allowed GroupAllowed) (b : Bool) → arm_at f y b ≡ arm_at g y b
  arm_same y b = ap (λ (x : Bool). x && all y.body b) (cond_same y.test)

  pub stmts_same : stmt_allowed f ≡ stmt_allowed g
  stmts_same = ap2 (λ (p : CStmt-F Allowed Allowed GroupAllowed → Allowed) (q : CArm-F Allowed Allowed GroupAllowed → Allowed). fold-CStmt Allowed Allowed GroupAllowed p q group_at) _ _ _ _
      (fun_ext (λ y. fun_ext (at_same y))) (fun_ext (λ y. fun_ext (arm_same y)))
