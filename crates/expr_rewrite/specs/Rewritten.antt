-- When Words, statements, ends and blocks of a flow may stand in the place of others.
use Rattle.std.specs.Prelude.{◌≡◌, ℕ, Bool, Some, IsTrue}
use Rattle.run_parts.specs.World.{Names}
use Rattle.c_syntax.specs.declared.syntax.CExpr.{CExpr}
use Rattle.c_syntax.specs.declared.syntax.CCond.{CCond}
use Rattle.c_syntax.specs.Value.{word_of, truth_of}
use Rattle.micro_ir.specs.declared.flow.Stmt.{Stmt}
use Rattle.micro_ir.specs.declared.flow.Stmt.TheVariants as stmt
use Rattle.micro_ir.specs.declared.flow.End.{End as BlockEnd}
use Rattle.micro_ir.specs.declared.flow.End.TheVariants as end
use Rattle.micro_ir.specs.declared.flow.Block.{Block}
use Rattle.micro_ir.specs.Rule.{is_flow_word, is_flow_cond}
use Rattle.word_rules.specs.Standing.{AreWords}
use Rattle.expr_rewrite.specs.Pairs.{Pairs}

-- A Word of a flow, with the value of another wherever that has one.
pub record StandsForWord (e f : CExpr) : Type 0 where
  pub rule : IsTrue (is_flow_word e) → IsTrue (is_flow_word f)
  pub value : IsTrue (is_flow_word e) → (v : Names) → AreWords v → (x : ℕ) → word_of e v ≡ Some x → word_of f v ≡ Some x

-- the same of a Cond
pub record StandsForCond (t u : CCond) : Type 0 where
  pub rule : IsTrue (is_flow_cond t) → IsTrue (is_flow_cond u)
  pub truth : IsTrue (is_flow_cond t) → (v : Names) → AreWords v → (b : Bool) → truth_of t v ≡ Some b → truth_of u v ≡ Some b

-- a statement of the same kind, with the same name and width, and Words that stand for the other's
abbrev pub StandsForStmt : Stmt → Stmt → Type 0
StandsForStmt (stmt.Set n e) (stmt.Set m f) = (m ≡ n) × StandsForWord e f
StandsForStmt (stmt.Load n width e) (stmt.Load m wide f) = (m ≡ n) × (wide ≡ width) × StandsForWord e f
StandsForStmt (stmt.Store width e g) (stmt.Store wide f h) = (wide ≡ width) × StandsForWord e f × StandsForWord g h
StandsForStmt (stmt.Ext e) (stmt.Ext f) = StandsForWord e f
StandsForStmt (stmt.Trap vector e) (stmt.Trap other f) = (other ≡ vector) × StandsForWord e f
StandsForStmt s t = ⊥

-- an end of the same kind, with the same targets
abbrev pub StandsForEnd : BlockEnd → BlockEnd → Type 0
StandsForEnd (end.Go a) (end.Go b) = b ≡ a
StandsForEnd (end.Branch t a b) (end.Branch u c d) = (c ≡ a) × (d ≡ b) × StandsForCond t u
StandsForEnd (end.Switch e cases) (end.Switch f others) = (others ≡ cases) × StandsForWord e f
StandsForEnd end.Return end.Return = Unit {0}
StandsForEnd (end.Leave e) (end.Leave f) = StandsForWord e f
StandsForEnd e f = ⊥

-- a block at the same address
pub record StandsForBlock (b c : Block) : Type 0 where
  pub at : c.at ≡ b.at
  pub stmts : Pairs StandsForStmt b.stmts c.stmts
  pub end : StandsForEnd b.end c.end
