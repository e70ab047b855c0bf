-- Levels from 32 on are indented alike, so a text is the same at any two of them.
use Rattle.std.proofs.Common.{◌≡◌, ℕ, ◌+◌, ◌-◌, ◌*◌, ◌^◌, min, List, [], ◌∷◌, ◌++◌, map, replicate, Some, None, refl, ap, sym, ◌∙◌, arith}
use Rattle.std.specs.Prelude.{codes}
use Rattle.c_syntax.specs.declared.syntax.CStmt as st
use Rattle.c_syntax.specs.declared.syntax.CStmt.{CStmt, CStmt-F, roll-CStmt}
use Rattle.c_syntax.specs.declared.syntax.CArm as arm
use Rattle.c_syntax.specs.declared.syntax.CArm.{CArm, CArm-F, roll-CArm}
use Rattle.c_syntax.specs.declared.syntax.CGroup as group
use Rattle.c_syntax.specs.declared.syntax.CGroup.{CGroup, CGroup-F, roll-CGroup}
use Rattle.c_syntax.specs.Spelling.{name_text, num_text, ld_text, st_text}
use Rattle.c_syntax.specs.Text.{Text, Lines, word_text, cond_text, stmt_at, arm_at, group_at, stmt_text, arm_text, group_text, line, indent, all, more_arms, arms_text, body_text, cases_text}
use Rattle.c_syntax.proofs.Layers.{stmt_text_layer, arm_text_layer, group_text_layer}
use Rattle.c_syntax.proofs.Induct.{Each, StmtCases, each_stmt}

-- a text that is the same at levels that are indented alike
record Steady (f : Lines) : Type 0 where
  pub same : (l k : ℕ) → min l 32 ≡ min k 32 → f l ≡ f k

-- one level deeper
deeper : (l k : ℕ) → min l 32 ≡ min k 32 → min (l + 1) 32 ≡ min (k + 1) 32
deeper l k e = omega (arith, e)

steady_text : (t : Text) → Steady (λ l. t)
steady_text t = record { same = λ l k e. refl }

steady_indent : Steady indent
steady_indent = record { same = λ l k e. ap (λ m. replicate (2 * m) 32) e }

steady_both : (f g : Lines) → Steady f → Steady g → Steady (λ l. f l ++ g l)
steady_both f g h i = record { same = λ l k e. ap (λ t. t ++ g l) (h.same l k e) ∙ ap (λ t. f k ++ t) (i.same l k e) }

steady_line : (f : Lines) → Steady f → Steady (λ l. line l (f l))
steady_line f h = steady_both (λ l. indent l ++ f l) (λ l. codes "\n") (steady_both indent f steady_indent h) (steady_text (codes "\n"))

-- a list of texts
module _ {X : Type 0} (f : X → Lines) where
  steady_all : (xs : List X) → Each (λ x. Steady (f x)) xs → Steady (all (map f xs))
  steady_all [] h = record { same = λ l k e. refl }
  steady_all (x ∷ xs) h = steady_both (f x) (all (map f xs)) h.0 (steady_all xs h.1)

  steady_more : (xs : List X) → Each (λ x. Steady (f x)) xs → Steady (more_arms (map f xs))
  steady_more [] h = record { same = λ l k e. refl }
  steady_more (x ∷ xs) h = steady_both (λ l. codes " else " ++ f x l) (more_arms (map f xs)) (steady_both (λ l. codes " else ") (f x) (steady_text (codes " else ")) h.0) (steady_more xs h.1)

  steady_arms : (xs : List X) → Each (λ x. Steady (f x)) xs → Steady (arms_text (map f xs))
  steady_arms [] h = record { same = λ l k e. refl }
  steady_arms (x ∷ xs) h = steady_both (f x) (more_arms (map f xs)) h.0 (steady_more xs h.1)

  steady_body : (xs : List X) → Each (λ x. Steady (f x)) xs → Steady (body_text (map f xs))
  steady_body xs h =
      let deep : Steady (λ l. all (map f xs) (l + 1)) = record { same = λ l k e. (steady_all xs h).same (l + 1) (k + 1) (deeper l k e) } in
      steady_both (λ l. codes "{\n" ++ all (map f xs) (l + 1) ++ indent l) (λ l. codes "}")
      (steady_both (λ l. codes "{\n" ++ all (map f xs) (l + 1)) indent (steady_both (λ l. codes "{\n") (λ l. all (map f xs) (l + 1)) (steady_text (codes "{\n")) deep) steady_indent)
      (steady_text (codes "}"))

-- ---- a layer

steady_stmt : (y : CStmt-F CStmt CArm CGroup) → Steady (stmt_at (st.map-CStmt CStmt CArm CGroup Lines Lines Lines stmt_text arm_text group_text y)) → Steady (stmt_text (roll-CStmt y))
steady_stmt y h = record { same = λ l k e. ap (λ (g : Lines). g l) (stmt_text_layer y) ∙ h.same l k e ∙ sym (ap (λ (g : Lines). g k) (stmt_text_layer y)) }

steady_arm : (y : CArm-F CStmt CArm CGroup) → Steady (arm_at (arm.map-CArm CStmt CArm CGroup Lines Lines Lines stmt_text arm_text group_text y)) → Steady (arm_text (roll-CArm y))
steady_arm y h = record { same = λ l k e. ap (λ (g : Lines). g l) (arm_text_layer y) ∙ h.same l k e ∙ sym (ap (λ (g : Lines). g k) (arm_text_layer y)) }

steady_group : (y : CGroup-F CStmt CArm CGroup) → Steady (group_at (group.map-CGroup CStmt CArm CGroup Lines Lines Lines stmt_text arm_text group_text y)) → Steady (group_text (roll-CGroup y))
steady_group y h = record { same = λ l k e. ap (λ (g : Lines). g l) (group_text_layer y) ∙ h.same l k e ∙ sym (ap (λ (g : Lines). g k) (group_text_layer y)) }

-- a text round a body
steady_around : (x y : Text) (ss : List CStmt) → Each (λ s. Steady (stmt_text s)) ss → Steady (λ l. line l (x ++ body_text (map stmt_text ss) l ++ y))
steady_around x y ss h =
    steady_line (λ l. x ++ body_text (map stmt_text ss) l ++ y)
    (steady_both (λ l. x ++ body_text (map stmt_text ss) l) (λ l. y) (steady_both (λ l. x) (body_text (map stmt_text ss)) (steady_text x) (steady_body stmt_text ss h)) (steady_text y))

-- a text before a body
steady_before : (x : Text) (ss : List CStmt) → Each (λ s. Steady (stmt_text s)) ss → Steady (λ l. x ++ body_text (map stmt_text ss) l)
steady_before x ss h = steady_both (λ l. x) (body_text (map stmt_text ss)) (steady_text x) (steady_body stmt_text ss h)

steady_simple : (t : Text) → Steady (λ l. line l t)
steady_simple t = steady_line (λ l. t) (steady_text t)

-- ---- each variant

steady_cases : StmtCases (λ s. Steady (stmt_text s)) (λ a. Steady (arm_text a)) (λ g. Steady (group_text g))
steady_cases = record {
  set = λ n a. steady_stmt (CStmt-F.Set n a) (steady_simple (name_text n ++ codes " = " ++ word_text a ++ codes ";"));
  load = λ n w a. steady_stmt (CStmt-F.Load n w a) (steady_simple (name_text n ++ codes " = " ++ ld_text w ++ codes "(" ++ word_text a ++ codes ");"));
  store = λ w a b. steady_stmt (CStmt-F.Store w a b) (steady_simple (st_text w ++ codes "(" ++ word_text a ++ codes ", " ++ word_text b ++ codes ");"));
  ext = λ a. steady_stmt (CStmt-F.Ext a) (steady_simple (codes "ext(" ++ word_text a ++ codes ");"));
  trap = λ v a. steady_stmt (CStmt-F.Trap v a) (steady_simple (codes "trap(" ++ num_text v ++ codes ", " ++ word_text a ++ codes ");"));
  if_none = λ arms h. steady_stmt (CStmt-F.If arms None)
      (steady_line (λ l. arms_text (map arm_text arms) l ++ []) (steady_both (arms_text (map arm_text arms)) (λ l. []) (steady_arms arm_text arms h) (steady_text [])));
  if_some = λ arms last h i. steady_stmt (CStmt-F.If arms (Some last))
      (steady_line (λ l. arms_text (map arm_text arms) l ++ (codes " else " ++ body_text (map stmt_text last) l))
      (steady_both (arms_text (map arm_text arms)) (λ l. codes " else " ++ body_text (map stmt_text last) l) (steady_arms arm_text arms h) (steady_before (codes " else ") last i)));
  switch = λ a groups last h i. steady_stmt (CStmt-F.Switch a groups last)
      (steady_both (λ l. line l (codes "switch (" ++ word_text a ++ codes ") {") ++ all (map group_text groups) l ++ line l (codes "default: " ++ body_text (map stmt_text last) l ++ codes " break;")) (λ l. line l (codes "}"))
      (steady_both (λ l. line l (codes "switch (" ++ word_text a ++ codes ") {") ++ all (map group_text groups) l) (λ l. line l (codes "default: " ++ body_text (map stmt_text last) l ++ codes " break;"))
      (steady_both (λ l. line l (codes "switch (" ++ word_text a ++ codes ") {")) (all (map group_text groups)) (steady_simple (codes "switch (" ++ word_text a ++ codes ") {")) (steady_all group_text groups h))
      (steady_around (codes "default: ") (codes " break;") last i))
      (steady_simple (codes "}")));
  loop = λ body h. steady_stmt (CStmt-F.Loop body) (steady_line (λ l. codes "while (1) " ++ body_text (map stmt_text body) l) (steady_before (codes "while (1) ") body h));
  while = λ t body h. steady_stmt (CStmt-F.While t body)
      (steady_line (λ l. codes "while (" ++ cond_text t ++ codes ") " ++ body_text (map stmt_text body) l) (steady_before (codes "while (" ++ cond_text t ++ codes ") ") body h));
  do_while = λ body t h. steady_stmt (CStmt-F.DoWhile body t)
      (steady_line (λ l. codes "do " ++ body_text (map stmt_text body) l ++ codes " while (" ++ cond_text t ++ codes ");")
      (steady_both (λ l. codes "do " ++ body_text (map stmt_text body) l ++ codes " while (" ++ cond_text t) (λ l. codes ");")
      (steady_both (λ l. codes "do " ++ body_text (map stmt_text body) l ++ codes " while (") (λ l. cond_text t)
      (steady_both (λ l. codes "do " ++ body_text (map stmt_text body) l) (λ l. codes " while (") (steady_before (codes "do ") body h) (steady_text (codes " while (")))
      (steady_text (cond_text t))) (steady_text (codes ");"))));
  break = steady_stmt CStmt-F.Break (steady_simple (codes "break;"));
  return = steady_stmt CStmt-F.Return (steady_simple (codes "return;"));
  arm_of = λ t body h. steady_arm (record { test = t; body = body }) (steady_before (codes "if (" ++ cond_text t ++ codes ") ") body h);
  group_of = λ values body h. steady_group (record { values = values; body = body }) (steady_around (cases_text values) (codes " break;") body h);
}

-- statements one level deeper, where the level may stop growing
pub next_level : (ss : List CStmt) (l n : ℕ) → n ≡ min (l + 1) (2 ^ 32 - 1) → all (map stmt_text ss) n ≡ all (map stmt_text ss) (l + 1)
next_level ss l n e = (steady_all stmt_text ss (each_stmt steady_cases ss)).same n (l + 1) (omega (arith, e))
