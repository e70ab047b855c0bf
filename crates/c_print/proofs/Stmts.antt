-- The texts of statements, arms and groups at a level, by their forms.
use Rattle.std.proofs.Common.{◌≡◌, ℕ, List, ◌++◌, map, Some, None, ap, sym, ◌∙◌}
use Rattle.std.specs.Prelude.{codes}
use Rattle.dream_words.specs.declared.machine.Name.{Name}
use Rattle.dream_words.specs.declared.machine.Width.{Width}
use Rattle.c_syntax.specs.declared.syntax.CExpr.{CExpr}
use Rattle.c_syntax.specs.declared.syntax.CCond.{CCond}
use Rattle.c_syntax.specs.declared.syntax.CStmt.{CStmt, CStmt-F, Set, Load, Store, Ext, Trap, If, Switch, Loop, While, DoWhile, Break, Return}
use Rattle.c_syntax.specs.declared.syntax.CStmt.TheVariants as stmt
use Rattle.c_syntax.specs.declared.syntax.CArm.{CArm, out-CArm, fold_out-CArm}
use Rattle.c_syntax.specs.declared.syntax.CGroup.{CGroup, out-CGroup, fold_out-CGroup}
use Rattle.c_syntax.specs.Spelling.{name_text, num_text, ld_text, st_text}
use Rattle.c_syntax.specs.Text.{Lines, word_text, cond_text, stmt_at, arm_at, group_at, stmt_text, arm_text, group_text, line, all, arms_text, body_text, cases_text}
use Rattle.c_syntax.proofs.Layers.{stmt_text_layer}

pub stmt_set : (n : Name) (e : CExpr) (l : ℕ) → stmt_text (Set n e) l ≡ line l (name_text n ++ codes " = " ++ word_text e ++ codes ";")
stmt_set n e l = ap (λ s. stmt_text s l) (sym (stmt.rolls-Set n e)) ∙ ap (λ (g : Lines). g l) (stmt_text_layer (CStmt-F.Set n e))

pub stmt_load : (n : Name) (w : Width) (e : CExpr) (l : ℕ) → stmt_text (Load n w e) l ≡ line l (name_text n ++ codes " = " ++ ld_text w ++ codes "(" ++ word_text e ++ codes ");")
stmt_load n w e l = ap (λ s. stmt_text s l) (sym (stmt.rolls-Load n w e)) ∙ ap (λ (g : Lines). g l) (stmt_text_layer (CStmt-F.Load n w e))

pub stmt_store : (w : Width) (e v : CExpr) (l : ℕ) → stmt_text (Store w e v) l ≡ line l (st_text w ++ codes "(" ++ word_text e ++ codes ", " ++ word_text v ++ codes ");")
stmt_store w e v l = ap (λ s. stmt_text s l) (sym (stmt.rolls-Store w e v)) ∙ ap (λ (g : Lines). g l) (stmt_text_layer (CStmt-F.Store w e v))

pub stmt_ext : (e : CExpr) (l : ℕ) → stmt_text (Ext e) l ≡ line l (codes "ext(" ++ word_text e ++ codes ");")
stmt_ext e l = ap (λ s. stmt_text s l) (sym (stmt.rolls-Ext e)) ∙ ap (λ (g : Lines). g l) (stmt_text_layer (CStmt-F.Ext e))

pub stmt_trap : (v : ℕ) (e : CExpr) (l : ℕ) → stmt_text (Trap v e) l ≡ line l (codes "trap(" ++ num_text v ++ codes ", " ++ word_text e ++ codes ");")
stmt_trap v e l = ap (λ s. stmt_text s l) (sym (stmt.rolls-Trap v e)) ∙ ap (λ (g : Lines). g l) (stmt_text_layer (CStmt-F.Trap v e))

pub stmt_if_none : (arms : List CArm) (l : ℕ) → stmt_text (If arms None) l ≡ line l (arms_text (map arm_text arms) l ++ codes "")
stmt_if_none arms l = ap (λ s. stmt_text s l) (sym (stmt.rolls-If arms None)) ∙ ap (λ (g : Lines). g l) (stmt_text_layer (CStmt-F.If arms None))

pub stmt_if_some : (arms : List CArm) (last : List CStmt) (l : ℕ)
    → stmt_text (If arms (Some last)) l ≡ line l (arms_text (map arm_text arms) l ++ (codes " else " ++ body_text (map stmt_text last) l))
stmt_if_some arms last l = ap (λ s. stmt_text s l) (sym (stmt.rolls-If arms (Some last))) ∙ ap (λ (g : Lines). g l) (stmt_text_layer (CStmt-F.If arms (Some last)))

pub stmt_switch : (e : CExpr) (groups : List CGroup) (last : List CStmt) (l : ℕ)
    → stmt_text (Switch e groups last) l ≡ line l (codes "switch (" ++ word_text e ++ codes ") {") ++ all (map group_text groups) l
    ++ line l (codes "default: " ++ body_text (map stmt_text last) l ++ codes " break;") ++ line l (codes "}")
stmt_switch e groups last l = ap (λ s. stmt_text s l) (sym (stmt.rolls-Switch e groups last)) ∙ ap (λ (g : Lines). g l) (stmt_text_layer (CStmt-F.Switch e groups last))

pub stmt_loop : (body : List CStmt) (l : ℕ) → stmt_text (Loop body) l ≡ line l (codes "while (1) " ++ body_text (map stmt_text body) l)
stmt_loop body l = ap (λ s. stmt_text s l) (sym (stmt.rolls-Loop body)) ∙ ap (λ (g : Lines). g l) (stmt_text_layer (CStmt-F.Loop body))

pub stmt_while : (c : CCond) (body : List CStmt) (l : ℕ) → stmt_text (While c body) l ≡ line l (codes "while (" ++ cond_text c ++ codes ") " ++ body_text (map stmt_text body) l)
stmt_while c body l = ap (λ s. stmt_text s l) (sym (stmt.rolls-While c body)) ∙ ap (λ (g : Lines). g l) (stmt_text_layer (CStmt-F.While c body))

pub stmt_do : (body : List CStmt) (c : CCond) (l : ℕ)
    → stmt_text (DoWhile body c) l ≡ line l (codes "do " ++ body_text (map stmt_text body) l ++ codes " while (" ++ cond_text c ++ codes ");")
stmt_do body c l = ap (λ s. stmt_text s l) (sym (stmt.rolls-DoWhile body c)) ∙ ap (λ (g : Lines). g l) (stmt_text_layer (CStmt-F.DoWhile body c))

pub stmt_break : (l : ℕ) → stmt_text Break l ≡ line l (codes "break;")
stmt_break l = ap (λ s. stmt_text s l) (sym stmt.rolls-Break) ∙ ap (λ (g : Lines). g l) (stmt_text_layer CStmt-F.Break)

pub stmt_return : (l : ℕ) → stmt_text Return l ≡ line l (codes "return;")
stmt_return l = ap (λ s. stmt_text s l) (sym stmt.rolls-Return) ∙ ap (λ (g : Lines). g l) (stmt_text_layer CStmt-F.Return)

pub arm_is : (a : CArm) (l : ℕ) → arm_text a l ≡ codes "if (" ++ cond_text (out-CArm a).test ++ codes ") " ++ body_text (map stmt_text (out-CArm a).body) l
arm_is a l = ap (λ (g : Lines). g l) (fold_out-CArm Lines Lines Lines stmt_at arm_at group_at a)

pub group_is : (g : CGroup) (l : ℕ) → group_text g l ≡ line l (cases_text (out-CGroup g).values ++ body_text (map stmt_text (out-CGroup g).body) l ++ codes " break;")
group_is g l = ap (λ (g : Lines). g l) (fold_out-CGroup Lines Lines Lines stmt_at arm_at group_at g)
